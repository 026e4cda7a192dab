-- What is read of an enumeration is in the grammar.
use Rattle.std.proofs.Common.{◌≡◌, ◌⊎◌, inl, inr, ℕ, ℤ, zero, suc, Bool, true, false, List, [], ◌∷◌, ◌++◌, length, drop, Option, Some, None, refl, sym, ap, ◌∙◌, subst, append_assoc}
use Rattle.std.specs.Prelude.{if◌then◌else◌, ◌||◌}
use denote.Enum.Bare.{sameb}
use Rattle.tsdl_parser.specs.declared.symbol.Symbol.{Symbol}
use Rattle.tsdl_parser.specs.declared.symbol.Symbol.TheVariants as s
use Rattle.tsdl_parser.specs.contracts.symbol.Symbol.{the_type}
use Rattle.tsdl_parser.specs.declared.tree.EnumTree.{EnumTree}
use Rattle.tsdl_parser.specs.declared.tree.EnumBase.{EnumBase}
use Rattle.tsdl_parser.specs.declared.tree.EnumBase.TheVariants as base
use Rattle.tsdl_parser.specs.declared.tree.Label.{Label}
use Rattle.tsdl_parser.specs.Symbols.{head}
use Rattle.tsdl_parser.specs.Parsers.{Parser, and_then, sees, after, expect, word, string, name, if_seen, skip, pure, ◌>>◌}
use Rattle.tsdl_parser.specs.Reading.{words, signed, attrs, label_name_by, label_name, range_end, label, labels_from, labels, base_by, enum_base, is_some, enum_tree}
use Rattle.tsdl_parser.specs.Grammar.{Tokens, Text, Stands, IsName, Part, Maybe, Behind, Between, IsWords, IsSigned, IsAttrs, IsLabelName, IsLabel, AreMoreLabels, AreLabels, IsBase, HasOne, IsEnum}
use Rattle.tsdl_parser.proofs.Steps.{gives, sees_stands, pair_is, string_is, seen_name, name_is, bound, symbol_cases, seen_head}
use Rattle.tsdl_parser.proofs.Sound.{no_end, eaten, kept, expected, words_sound, signed_sound, attrs_sound, wrapped}

-- a part that may be there
pub maybe_sound : {A : Type 0} (P : Part A) (y : Symbol) (p : Parser A) (ts : Tokens) (o : Option A) (rest : Tokens) → ((x : A) → sees y ts ≡ true → p ts ≡ gives x rest → P ts x rest) → if_seen y p ts ≡ gives o rest → Maybe P ts o rest
maybe_sound {A} P y p ts o rest sound e = by (sees y ts) refl e
  where
    by : (b : Bool) → sees y ts ≡ b → (if b then and_then (p ts) (λ x. pure (Some x)) else gives None ts) ≡ gives o rest → Maybe P ts o rest
    by false is e = let same = pair_is e in subst (λ q. Maybe P ts q rest) same.0 same.1
    by true is e =
        let x = bound (p ts) (λ x. pure (Some x)) (o, rest) e in
        let same = pair_is x.2 in
        subst (λ q. Maybe P ts q rest) same.0 (sound x.0.0 is (x.1 ∙ ap (λ l. gives x.0.0 l) same.1))

pub name_if_any_sound : (ts : Tokens) (o : Option Text) (rest : Tokens) → if_seen s.Name word ts ≡ gives o rest → Maybe IsName ts o rest
name_if_any_sound ts o rest e = maybe_sound IsName s.Name word ts o rest (λ w is read. seen_name ts rest w is read) e

-- a symbol that was passed and a part after it
pub behind_sound : {A : Type 0} (P : Part A) (y : Symbol) (ts : Tokens) (x : A) (rest : Tokens) → sameb the_type s.End y ≡ false → sees y ts ≡ true → P (drop 1 ts) x rest → Behind y P ts x rest
behind_sound P y ts x rest apart is h = record { a = drop 1 ts; opens = sees_stands y ts is (no_end y apart); part = h }

label_name_way : (ts : Tokens) (x : Symbol) → (label_name_by x ts ≡ string ts) ⊎ (label_name_by x ts ≡ name ts)
unfolding label_name_by
label_name_way ts = symbol_cases (λ x. (label_name_by x ts ≡ string ts) ⊎ (label_name_by x ts ≡ name ts))
    (inr refl) (inr refl) (inr refl) (inl refl) (inr refl) (inr refl) (inr refl) (inr refl) (inr refl) (inr refl) (inr refl) (inr refl) (inr refl) (inr refl) (inr refl) (inr refl) (inr refl) (inr refl) (inr refl) (inr refl) (inr refl) (inr refl) (inr refl) (inr refl) (inr refl) (inr refl) (inr refl) (inr refl) (inr refl) (inr refl) (inr refl) (inr refl) (inr refl)

label_name_sound : (ts : Tokens) (text : Text) (rest : Tokens) → label_name ts ≡ gives text rest → IsLabelName ts text rest
unfolding label_name
label_name_sound ts text rest e = by (label_name_way ts (head ts))
  where
    by : (label_name_by (head ts) ts ≡ string ts) ⊎ (label_name_by (head ts) ts ≡ name ts) → IsLabelName ts text rest
    by (inl is) = inr (string_is ts rest text (sym is ∙ e))
    by (inr is) = inl (name_is ts rest text (sym is ∙ e))

range_end_sound : (ts : Tokens) (o : Option ℤ) (rest : Tokens) → range_end ts ≡ gives o rest → Maybe (Behind s.Ellipsis IsSigned) ts o rest
unfolding range_end
range_end_sound ts o rest e = maybe_sound (Behind s.Ellipsis IsSigned) s.Ellipsis (skip >> signed) ts o rest (λ z is read. behind_sound IsSigned s.Ellipsis ts z rest refl is (signed_sound (drop 1 ts) z rest read)) e

label_sound : (ts : Tokens) (l : Label) (rest : Tokens) → label ts ≡ gives l rest → IsLabel ts l rest
unfolding label
label_sound ts l rest e =
    let n = bound (label_name ts) _ (l, rest) e in
    by n.0.0 n.0.1 (label_name_sound ts n.0.0 n.0.1 n.1) (sees s.Assign n.0.1) refl n.2
  where
    by : (called : Text) (a : Tokens) → IsLabelName ts called a → (b : Bool) → sees s.Assign a ≡ b → (if b then (λ ts. and_then (signed ts) (λ low ts. and_then (range_end ts) (λ high. pure (record { name = called; low = Some low; high = high })))) else pure (record { name = called; low = None; high = None })) (after s.Assign a) ≡ gives l rest → IsLabel ts l rest
    by called a named false is e =
        let same = pair_is e in
        subst (λ y. IsLabel ts y rest) same.0 (record { a = a; name_is = named; range_is = kept s.Assign a is ∙ same.1 })
    by called a named true is e =
        let low = bound (signed (after s.Assign a)) _ (l, rest) e in
        let high = bound (range_end low.0.1) _ (l, rest) low.2 in
        let same = pair_is high.2 in
        subst (λ y. IsLabel ts y rest) same.0 (record {
          a = a;
          name_is = named;
          range_is = record {
            a = low.0.1;
            low_is = record { a = after s.Assign a; opens = eaten s.Assign a refl is; part = signed_sound (after s.Assign a) low.0.0 low.0.1 low.1 };
            high_is = range_end_sound low.0.1 high.0.0 rest (high.1 ∙ ap (λ r. gives high.0.0 r) same.1);
          };
        })

-- labels that were read after others, and the brace
record LabelsRead (found : List Label) (ts : Tokens) (all : List Label) (rest : Tokens) : Type 0 where
  first : Label
  others : List Label
  a : Tokens
  b : Tokens
  is : all ≡ found ++ first ∷ others
  label_is : IsLabel ts first a
  more : AreMoreLabels a others b
  closes : Stands s.CloseBrace b rest

labels_more : (n : ℕ) (found all : List Label) (ts rest : Tokens) → labels_from n found ts ≡ gives all rest → LabelsRead found ts all rest
unfolding labels_from
labels_more zero found all ts rest e = absurd (cc)
labels_more (suc n) found all ts rest e =
    let l = bound (label ts) _ (all, rest) e in
    by l.0.0 l.0.1 (label_sound ts l.0.0 l.0.1 l.1) (sees s.Comma l.0.1) refl (sees s.CloseBrace (after s.Comma l.0.1)) refl l.2 (labels_more n (found ++ l.0.0 ∷ []) all)
  where
    comma : (x : Label) (a : Tokens) (c : Bool) → sees s.Comma a ≡ c → (a ≡ after s.Comma a) ⊎ Stands s.Comma a (after s.Comma a)
    comma x a true is = inr (eaten s.Comma a refl is)
    comma x a false is = inl (kept s.Comma a is)

    by : (x : Label) (a : Tokens) → IsLabel ts x a → (c : Bool) → sees s.Comma a ≡ c → (d : Bool) → sees s.CloseBrace (after s.Comma a) ≡ d → (if d then pure (found ++ x ∷ []) else (if c then labels_from n (found ++ x ∷ []) else (λ l. None))) (after s.CloseBrace (after s.Comma a)) ≡ gives all rest → ((l rest : Tokens) → labels_from n (found ++ x ∷ []) l ≡ gives all rest → LabelsRead (found ++ x ∷ []) l all rest) → LabelsRead found ts all rest
    by x a h c is true close e go = record { first = x; others = []; a = a; b = after s.Comma a; is = sym (pair_is e).0; label_is = h; more = comma x a c is; closes = subst (Stands s.CloseBrace (after s.Comma a)) (pair_is e).1 (eaten s.CloseBrace (after s.Comma a) refl close) }
    by x a h true is false close e go =
        let r = go (after s.CloseBrace (after s.Comma a)) rest e in
        let behind : Stands s.Comma a (after s.CloseBrace (after s.Comma a)) = subst (Stands s.Comma a) (kept s.CloseBrace (after s.Comma a) close) (eaten s.Comma a refl is) in
        record { first = x; others = r.first ∷ r.others; a = a; b = r.b; is = r.is ∙ append_assoc found (x ∷ []) (r.first ∷ r.others); label_is = h; more = (r.a, record { a = after s.CloseBrace (after s.Comma a); opens = behind; part = r.label_is }, r.more); closes = r.closes }
    by x a h false is false close e go = absurd (cc)

labels_sound : (ts : Tokens) (ls : List Label) (rest : Tokens) → labels ts ≡ gives ls rest → Between s.OpenBrace AreLabels s.CloseBrace ts ls rest
unfolding labels
labels_sound ts ls rest e =
    let o = bound (expect s.OpenBrace ts) _ (ls, rest) e in
    let r = labels_more (length o.0.1) [] ls o.0.1 rest o.2 in
    record { a = o.0.1; b = r.b; opens = expected s.OpenBrace ts o.0.1 o.0.0 refl o.1; part = subst (λ l. AreLabels o.0.1 l r.b) (sym r.is) (r.a, r.label_is, r.more); closes = r.closes }

base_sound : (b : EnumBase) (ts rest : Tokens) → (x : Symbol) → head ts ≡ x → base_by x ts ≡ gives b rest → IsBase ts b rest
unfolding base_by
base_sound b ts rest = symbol_cases (λ x. head ts ≡ x → base_by x ts ≡ gives b rest → IsBase ts b rest)
    (λ front e. named e) (λ front e. named e) (λ front e. named e) (λ front e. named e) (λ front e. named e) (λ front e. named e) (λ front e. named e) (λ front e. named e) (λ front e. plain front e) (λ front e. named e) (λ front e. named e) (λ front e. named e) (λ front e. named e) (λ front e. named e) (λ front e. named e) (λ front e. named e) (λ front e. named e) (λ front e. named e) (λ front e. named e) (λ front e. named e) (λ front e. named e) (λ front e. named e) (λ front e. named e) (λ front e. named e) (λ front e. named e) (λ front e. named e) (λ front e. named e) (λ front e. named e) (λ front e. named e) (λ front e. named e) (λ front e. named e) (λ front e. named e) (λ front e. named e)
  where
    named : and_then (words ts) (λ ws. pure (base.Words ws)) ≡ gives b rest → IsBase ts b rest
    named e = wrapped IsWords IsBase base.Words words ts b rest (λ ws l. words_sound ts ws l) (λ ws h. h) e

    plain : head ts ≡ s.Integer → and_then (attrs (drop 1 ts)) (λ xs. pure (base.Integer xs)) ≡ gives b rest → IsBase ts b rest
    plain front e =
        let x = bound (attrs (drop 1 ts)) (λ xs. pure (base.Integer xs)) (b, rest) e in
        let same = pair_is x.2 in
        subst (λ y. IsBase ts y rest) same.0 (behind_sound IsAttrs s.Integer ts x.0.0 rest refl (seen_head s.Integer ts front) (subst (IsAttrs (drop 1 ts) x.0.0) same.1 (attrs_sound (drop 1 ts) x.0.0 x.0.1 x.1)))

base_if_any_sound : (ts : Tokens) (o : Option EnumBase) (rest : Tokens) → if_seen s.Colon enum_base ts ≡ gives o rest → Maybe (Behind s.Colon IsBase) ts o rest
unfolding enum_base
base_if_any_sound ts o rest e = maybe_sound (Behind s.Colon IsBase) s.Colon enum_base ts o rest (λ b is read. behind_sound IsBase s.Colon ts b rest refl is (base_sound b (drop 1 ts) rest (head (drop 1 ts)) refl read)) e

labels_if_any_sound : (ts : Tokens) (o : Option (List Label)) (rest : Tokens) → if_seen s.OpenBrace labels ts ≡ gives o rest → Maybe (Between s.OpenBrace AreLabels s.CloseBrace) ts o rest
labels_if_any_sound ts o rest e = maybe_sound (Between s.OpenBrace AreLabels s.CloseBrace) s.OpenBrace labels ts o rest (λ ls is read. labels_sound ts ls rest read) e

pub some_of : {A B : Type 0} (o : Option A) (p : Option B) → (is_some o || is_some p) ≡ true → HasOne o p
some_of (Some x) p e = tt {0}
some_of None (Some y) e = tt {0}
some_of None None e = absurd (cc)

-- what is kept only where a test passes
pub passed : {A : Type 0} (b : Bool) (x y : A) (ts rest : Tokens) → (if b then gives x ts else None) ≡ gives y rest → (b ≡ true) × (x ≡ y) × (ts ≡ rest)
passed true x y ts rest e = (refl, (pair_is e).0, (pair_is e).1)
passed false x y ts rest e = absurd (cc)

pub enum_sound : (ts : Tokens) (e : EnumTree) (rest : Tokens) → enum_tree ts ≡ gives e rest → IsEnum ts e rest
unfolding enum_tree
enum_sound ts t rest e =
    let n = bound (if_seen s.Name word ts) _ (t, rest) e in
    let b = bound (if_seen s.Colon enum_base n.0.1) _ (t, rest) n.2 in
    let l = bound (if_seen s.OpenBrace labels b.0.1) _ (t, rest) b.2 in
    last n.0.0 b.0.0 l.0.0 n.0.1 b.0.1 l.0.1 (name_if_any_sound ts n.0.0 n.0.1 n.1) (base_if_any_sound n.0.1 b.0.0 b.0.1 b.1) (labels_if_any_sound b.0.1 l.0.0 l.0.1 l.1) (is_some n.0.0 || is_some l.0.0) refl l.2
  where
    last : (called : Option Text) (of : Option EnumBase) (ls : Option (List Label)) (a b c : Tokens) → Maybe IsName ts called a → Maybe (Behind s.Colon IsBase) a of b → Maybe (Between s.OpenBrace AreLabels s.CloseBrace) b ls c → (v : Bool) → (is_some called || is_some ls) ≡ v → (if v then pure (record { name = called; base = of; labels = ls }) else (λ l. None)) c ≡ gives t rest → IsEnum ts t rest
    last called of ls a b c p q r true some e =
        let same = pair_is e in
        subst (λ y. IsEnum ts y rest) same.0 (record { a = a; b = b; name_is = p; base_is = q; labels_are = subst (Maybe (Between s.OpenBrace AreLabels s.CloseBrace) b ls) same.1 r; some = some_of called ls some })
    last called of ls a b c p q r false some e = absurd (cc)
