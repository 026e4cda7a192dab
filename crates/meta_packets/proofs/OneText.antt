-- A file has at most one text, and where it has one it is refused nowhere; it is refused at one place at most.
use Rattle.std.proofs.Common.{◌≡◌, inl, inr, ◌∙◌, ◌<◌, ℕ, List, [], ◌∷◌, length, Option, Some, None, refl, sym, ap, subst, arith}
use Rattle.trace_types.specs.declared.byte_order.ByteOrderKind.{ByteOrderKind}
use Rattle.trace_types.specs.declared.byte_order.ByteOrderKind.TheVariants.{Big, Little}
use Rattle.meta_packets.proofs.Leading.{text_or_refused}
use Rattle.meta_packets.specs.declared.header.MetaPacketCause.{MetaPacketCause}
use Rattle.meta_packets.specs.Packets.{IsText, IsJoin, IsRefused, IsPackets, Leads, behind, cause_of, joined, uuid_of}

some_none : (bytes : List ℕ) → bytes ≡ [] → 0 < length bytes → ⊥
some_none bytes e some = let none : length bytes ≡ 0 = ap length e in absurd (omega (arith, none, some))

none_some : (o : Option MetaPacketCause) (cause : MetaPacketCause) → o ≡ None → o ≡ Some cause → ⊥
none_some o cause h g = absurd (cc)

both : (a b : List ℕ) (xs ys : List (List ℕ)) → a ≡ b → xs ≡ ys → a ∷ xs ≡ b ∷ ys
both a b xs ys h t = ap (λ x. x ∷ xs) h ∙ ap (λ r. b ∷ r) t

same_contents : (order : ByteOrderKind) (uuid bytes : List ℕ) (cs ds : List (List ℕ)) → Leads order uuid bytes cs [] → Leads order uuid bytes ds [] → cs ≡ ds
same_contents order uuid bytes [] [] a b = refl
same_contents order uuid bytes [] (d ∷ ds) a b = absurd (some_none bytes a b.0.some)
same_contents order uuid bytes (c ∷ cs) [] a b = absurd (some_none bytes b a.0.some)
same_contents order uuid bytes (c ∷ cs) (d ∷ ds) a b = both c d cs ds (a.0.text ∙ sym b.0.text) (same_contents order uuid (behind order bytes) cs ds a.1 b.1)

one_order : (a b : ByteOrderKind) (bytes : List ℕ) → IsPackets a bytes → IsPackets b bytes → a ≡ b
one_order Big Big bytes p q = refl
one_order Little Little bytes p q = refl
one_order Big Little bytes p q = absurd (q.1 p.1)
one_order Little Big bytes p q = absurd (p.1 q.1)

joined_once : (a b : ByteOrderKind) (bytes x y : List ℕ) → a ≡ b → IsJoin a bytes x → IsJoin b bytes y → x ≡ y
joined_once a b bytes x y same p q =
    let q' : IsJoin a bytes y = subst (λ o. IsJoin o bytes y) (sym same) q in
    p.is_text ∙ (ap joined (same_contents a (uuid_of bytes) bytes p.contents q'.contents p.packets q'.packets) ∙ sym q'.is_text)

pub one_text : (bytes a b : List ℕ) → IsText bytes a → IsText bytes b → a ≡ b
one_text bytes a b (inl p) (inl q) = p.1 ∙ sym q.1
one_text bytes a b (inl p) (inr (order, q)) = absurd (p.0 order q.is_packets)
one_text bytes a b (inr (order, p)) (inl q) = absurd (q.0 order p.is_packets)
one_text bytes a b (inr (m, p)) (inr (n, q)) = joined_once m n bytes a b (one_order m n bytes p.is_packets q.is_packets) p q

pub no_refusal : (bytes text : List ℕ) (order : ByteOrderKind) (offset : ℕ) (cause : MetaPacketCause) → IsText bytes text → IsRefused order bytes offset cause → ⊥
no_refusal bytes text order offset cause (inl p) r = p.0 order r.is_packets
no_refusal bytes text order offset cause (inr (m, p)) r =
    text_or_refused m bytes text offset cause p (subst (λ o. IsRefused o bytes offset cause) (one_order order m bytes r.is_packets p.is_packets) r)

-- after sound packets, two rests that fail a check are one
one_end : (order : ByteOrderKind) (uuid bytes r q : List ℕ) (cs ds : List (List ℕ)) (a b : MetaPacketCause) → Leads order uuid bytes cs r → Leads order uuid bytes ds q → cause_of order uuid r ≡ Some a → cause_of order uuid q ≡ Some b → r ≡ q
one_end order uuid bytes r q [] [] a b h g fails other = sym h ∙ g
one_end order uuid bytes r q [] (d ∷ ds) a b h g fails other = absurd (let sound : cause_of order uuid r ≡ None = subst (λ t. cause_of order uuid t ≡ None) h g.0.sound in none_some _ a sound fails)
one_end order uuid bytes r q (c ∷ cs) [] a b h g fails other = absurd (let sound : cause_of order uuid q ≡ None = subst (λ t. cause_of order uuid t ≡ None) g h.0.sound in none_some _ b sound other)
one_end order uuid bytes r q (c ∷ cs) (d ∷ ds) a b h g fails other = one_end order uuid (behind order bytes) r q cs ds a b h.1 g.1 fails other

cause_is : (a b : MetaPacketCause) → Some a ≡ Some b → a ≡ b
cause_is a b h = cc

-- a file is refused at one offset at most, for one cause
pub one_refusal : (bytes : List ℕ) (m n : ByteOrderKind) (i j : ℕ) (a b : MetaPacketCause) → IsRefused m bytes i a → IsRefused n bytes j b → (i ≡ j) × (a ≡ b)
one_refusal bytes m n i j a b h g =
    let g' : IsRefused m bytes j b = subst (λ o. IsRefused o bytes j b) (sym (one_order m n bytes h.is_packets g.is_packets)) g in
    let same = one_end m (uuid_of bytes) bytes h.rest g'.rest h.contents g'.contents a b h.packets g'.packets h.fails g'.fails in
    let size : length h.rest ≡ length g'.rest = ap length same in
    (omega (arith, size, h.place, g'.place), cause_is a b (sym h.fails ∙ (ap (cause_of m (uuid_of bytes)) same ∙ g'.fails)))
