-- Packets one after the other.
use Rattle.std.proofs.Common.{◌≡◌, ℕ, ◌<◌, List, [], ◌∷◌, ◌++◌, length, Some, None, sym, ap, ◌∙◌, subst, arith, append-nil}
use Rattle.std.proofs.lemmas.Grind.{flat_map-append}
use Rattle.meta_packets.specs.declared.header.MetaPacketCause.{MetaPacketCause}
use Rattle.trace_types.specs.declared.byte_order.ByteOrderKind.{ByteOrderKind}
use Rattle.meta_packets.specs.Packets.{IsPacket, Leads, IsJoin, IsRefused, joined, behind, cause_of, uuid_of}

module _ (order : ByteOrderKind) (uuid : List ℕ) where
  -- one more packet
  pub leads_more : (bytes : List ℕ) (contents : List (List ℕ)) (rest content : List ℕ) → Leads order uuid bytes contents rest → IsPacket order uuid rest content → Leads order uuid bytes (contents ++ content ∷ []) (behind order rest)
  leads_more bytes [] rest content h is = (subst (λ b. IsPacket order uuid b content) (sym h) is, ap (behind order) h)
  leads_more bytes (c ∷ cs) rest content h is = (h.0, leads_more (behind order bytes) cs rest content h.1 is)

  -- packets lead to one end alone: where all bytes are joined, none is refused
  one_end : (bytes : List ℕ) (contents others : List (List ℕ)) (rest : List ℕ) (cause : MetaPacketCause) → Leads order uuid bytes contents [] → Leads order uuid bytes others rest → 0 < length rest → cause_of order uuid rest ≡ Some cause → ⊥
  one_end bytes [] [] rest cause h g some e = let same : length rest ≡ 0 = ap length (sym g ∙ h) in omega (arith, same, some)
  one_end bytes [] (o ∷ os) rest cause h g some e = let none : length bytes ≡ 0 = ap length h in let one = g.0.some in omega (arith, none, one)
  one_end bytes (c ∷ cs) [] rest cause h g some e = let sound : cause_of order uuid rest ≡ None = subst (λ b. cause_of order uuid b ≡ None) g h.0.sound in absurd (cc)
  one_end bytes (c ∷ cs) (o ∷ os) rest cause h g some e = one_end (behind order bytes) cs os rest cause h.1 g.1 some e

pub joined_more : (contents : List (List ℕ)) (content : List ℕ) → joined (contents ++ content ∷ []) ≡ joined contents ++ content
joined_more contents content = flat_map-append (λ c. c) contents (content ∷ []) ∙ ap (λ l. joined contents ++ l) (append-nil content)

-- a file of packets that has a text isn't refused
pub text_or_refused : (order : ByteOrderKind) (bytes text : List ℕ) (offset : ℕ) (cause : MetaPacketCause) → IsJoin order bytes text → IsRefused order bytes offset cause → ⊥
text_or_refused order bytes text offset cause h g = one_end order (uuid_of bytes) bytes h.contents g.contents g.rest cause h.packets g.packets g.some g.fails
