-- What is read of a type is in the grammar.
use Rattle.std.proofs.Common.{◌≡◌, ◌≢◌, ℕ, zero, suc, Bool, true, false, List, [], ◌∷◌, ◌++◌, length, drop, Option, Some, None, refl, sym, ap, ◌∙◌, subst, codes}
use Rattle.std.specs.Prelude.{if◌then◌else◌, ◌||◌, ◌&&◌, option_map}
use Rattle.std.proofs.lemmas.Bool.{and_parts}
use Rattle.std.specs.Cmp.Lexicographic.{same_text}
use denote.Enum.Bare.{sameb}
use Rattle.tsdl_lex.specs.declared.token.TokenKind.{TokenKind}
use Rattle.tsdl_lex.specs.declared.token.TokenKind.TheVariants as kind
use Rattle.tsdl_parser.specs.declared.symbol.Symbol.{Symbol}
use Rattle.tsdl_parser.specs.declared.symbol.Symbol.TheVariants as s
use Rattle.tsdl_parser.specs.contracts.symbol.Symbol.{the_type}
use Rattle.tsdl_parser.specs.declared.tree.Attr.{Attr}
use Rattle.tsdl_parser.specs.declared.tree.TypeTree.{TypeTree}
use Rattle.tsdl_parser.specs.declared.tree.TypeTree.TheVariants as ty
use Rattle.tsdl_parser.specs.declared.tree.StructTree.{StructTree, roll-StructTree}
use Rattle.tsdl_parser.specs.declared.tree.StructBody.{StructBody}
use Rattle.tsdl_parser.specs.declared.tree.VariantTree.{VariantTree, roll-VariantTree}
use Rattle.tsdl_parser.specs.declared.tree.FieldTree.{FieldTree}
use Rattle.tsdl_parser.specs.declared.tree.EnumTree.{EnumTree}
use Rattle.tsdl_parser.specs.declared.tree.EnumBase.{EnumBase}
use Rattle.tsdl_parser.specs.declared.tree.EnumBase.TheVariants as base
use Rattle.tsdl_parser.specs.declared.tree.Label.{Label}
use Rattle.tsdl_parser.specs.declared.tree.Dim.{Dim}
use Rattle.tsdl_parser.specs.declared.tree.Dim.TheVariants as dim
use Rattle.trace_types.specs.Texts.{is_text}
use Rattle.tsdl_parser.specs.Symbols.{head}
use Rattle.tsdl_parser.specs.Parsers.{Parser, and_then, sees, after, expect, word_of, word, number, name, if_seen, pure}
use Rattle.tsdl_parser.specs.Reading.{words, path, attrs, enum_tree, ends, last_of, last_apart, enum_named_by, enum_named, dim_by, dim_of, dims_from, dims, is_align, sees_align, align, tag, is_some, struct_body, struct_tree, variant_tree, type_by, type_tree, typed_by, typed, field, fields}
use Rattle.tsdl_parser.specs.Grammar.{Tokens, Text, Stands, IsWord, IsName, IsNumber, Part, Each, Maybe, Behind, Between, IsPath, IsWords, IsAttrs, IsEnum, IsDim, AreDims, IsAlign, IsBody, IsStruct, IsVariant, IsType, integer, float, string_type, struct, variant, enum, words_type, IsField, IsFieldsWithin}
use Rattle.tsdl_parser.proofs.Steps.{gives, sees_stands, pair_is, number_is, name_is, bound, symbol_cases, seen_head}
use Rattle.tsdl_parser.proofs.Sound.{no_end, eaten, kept, expected, More, no_more, one_more, path_sound, words_sound, attrs_sound, wrapped, braced_sound}
use Rattle.tsdl_parser.proofs.EnumsSound.{maybe_sound, name_if_any_sound, behind_sound, enum_sound, some_of}

dim_sound : (d : Dim) (ts rest : Tokens) (x : Symbol) → dim_by x ts ≡ gives d rest → IsDim ts d rest
unfolding dim_by
dim_sound d ts rest = symbol_cases (λ x. dim_by x ts ≡ gives d rest → IsDim ts d rest)
    (λ e. named e) (λ e. named e) (λ e. fixed e) (λ e. named e) (λ e. named e) (λ e. named e) (λ e. named e) (λ e. named e) (λ e. named e) (λ e. named e) (λ e. named e) (λ e. named e) (λ e. named e) (λ e. named e) (λ e. named e) (λ e. named e) (λ e. named e) (λ e. named e) (λ e. named e) (λ e. named e) (λ e. named e) (λ e. named e) (λ e. named e) (λ e. named e) (λ e. named e) (λ e. named e) (λ e. named e) (λ e. named e) (λ e. named e) (λ e. named e) (λ e. named e) (λ e. named e) (λ e. named e)
  where
    named : and_then (path ts) (λ ws. pure (dim.Path ws)) ≡ gives d rest → IsDim ts d rest
    named e = wrapped IsPath IsDim dim.Path path ts d rest (λ ws l. path_sound ts ws l) (λ ws h. h) e

    fixed : and_then (number ts) (λ n. pure (dim.Fixed n)) ≡ gives d rest → IsDim ts d rest
    fixed e = wrapped IsNumber IsDim dim.Fixed number ts d rest (λ n l. number_is ts l n) (λ n h. h) e

boxed_dim_sound : (ts : Tokens) (d : Dim) (rest : Tokens) → sees s.OpenBracket ts ≡ true → dim_of (after s.OpenBracket ts) ≡ gives d rest → Between s.OpenBracket IsDim s.CloseBracket ts d rest
unfolding dim_of
boxed_dim_sound ts d rest is e =
    let a = after s.OpenBracket ts in
    let r = bound (dim_by (head a) a) _ (d, rest) e in
    let c = bound (expect s.CloseBracket r.0.1) _ (d, rest) r.2 in
    let same = pair_is c.2 in
    subst (λ y. Between s.OpenBracket IsDim s.CloseBracket ts y rest) same.0 (record {
      a = a;
      b = r.0.1;
      opens = eaten s.OpenBracket ts refl is;
      part = dim_sound r.0.0 a r.0.1 (head a) r.1;
      closes = subst (Stands s.CloseBracket r.0.1) same.1 (expected s.CloseBracket r.0.1 c.0.1 c.0.0 refl c.1);
    })

abbrev Boxed : Part Dim
Boxed = Between s.OpenBracket IsDim s.CloseBracket

dims_more : (n : ℕ) (found all : List Dim) (ts rest : Tokens) → dims_from n found ts ≡ gives all rest → More Boxed found ts all rest
unfolding dims_from
dims_more zero found all ts rest e = no_more Boxed found ts rest all (pair_is e).0 (pair_is e).1
dims_more (suc n) found all ts rest e = by (sees s.OpenBracket ts) refl e (λ d. dims_more n (found ++ d ∷ []) all)
  where
    by : (b : Bool) → sees s.OpenBracket ts ≡ b → (if b then (λ l. and_then (dim_of l) (λ d. dims_from n (found ++ d ∷ []))) else pure found) (after s.OpenBracket ts) ≡ gives all rest → ((d : Dim) (l rest : Tokens) → dims_from n (found ++ d ∷ []) l ≡ gives all rest → More Boxed (found ++ d ∷ []) l all rest) → More Boxed found ts all rest
    by false is e go = no_more Boxed found ts rest all (pair_is e).0 (kept s.OpenBracket ts is ∙ (pair_is e).1)
    by true is e go =
        let d = bound (dim_of (after s.OpenBracket ts)) (λ d. dims_from n (found ++ d ∷ [])) (all, rest) e in
        one_more Boxed found d.0.0 ts d.0.1 all rest (boxed_dim_sound ts d.0.0 d.0.1 is d.1) (go d.0.0 d.0.1 rest d.2)

dims_sound : (ts : Tokens) (ds : List Dim) (rest : Tokens) → dims ts ≡ gives ds rest → AreDims ts ds rest
unfolding dims
dims_sound ts ds rest e = let m = dims_more (length ts) [] ds ts rest e in subst (λ l. AreDims ts l rest) (sym m.is) m.each

align_word : (ts : Tokens) → sees_align ts ≡ true → IsWord ts (codes "align") (drop 1 ts) × (sees s.OpenParen (drop 1 ts) ≡ true)
align_word [] e = absurd (cc)
align_word (t ∷ ts) e = by t.kind refl e
  where
    same : (w v : Text) → is_text w v ≡ true → w ≡ v
    same w v h = same_text w v (sym h)

    by : (k : TokenKind) → t.kind ≡ k → (is_align (word_of k) && sees s.OpenParen ts) ≡ true → IsWord (t ∷ ts) (codes "align") ts × (sees s.OpenParen ts ≡ true)
    by (kind.Word w) is h = let parts = and_parts (is_text w (codes "align")) (sees s.OpenParen ts) h in (record { token = t; front = refl; is = is ∙ ap kind.Word (same w (codes "align") parts.0) }, parts.1)
    by (kind.Number n) is h = absurd (cc)
    by (kind.Str w) is h = absurd (cc)
    by (kind.Mark m) is h = absurd (cc)

align_sound : (ts : Tokens) (o : Option ℕ) (rest : Tokens) → align ts ≡ gives o rest → Maybe IsAlign ts o rest
unfolding align
align_sound ts o rest e = by (sees_align ts) refl e
  where
    by : (b : Bool) → sees_align ts ≡ b → (if b then and_then (number (drop 1 (drop 1 ts))) (λ n l. and_then (expect s.CloseParen l) (λ _. pure (Some n))) else gives None ts) ≡ gives o rest → Maybe IsAlign ts o rest
    by false is e = let same = pair_is e in subst (λ q. Maybe IsAlign ts q rest) same.0 same.1
    by true is e =
        let front = align_word ts is in
        let n = bound (number (drop 1 (drop 1 ts))) _ (o, rest) e in
        let c = bound (expect s.CloseParen n.0.1) _ (o, rest) n.2 in
        let same = pair_is c.2 in
        subst (λ q. Maybe IsAlign ts q rest) same.0 (record {
          a = drop 1 ts;
          word_is = front.0;
          number_is = record {
            a = drop 1 (drop 1 ts);
            b = n.0.1;
            opens = sees_stands s.OpenParen (drop 1 ts) front.1 (no_end s.OpenParen refl);
            part = number_is (drop 1 (drop 1 ts)) n.0.1 n.0.0 n.1;
            closes = subst (Stands s.CloseParen n.0.1) same.1 (expected s.CloseParen n.0.1 c.0.1 c.0.0 refl c.1);
          };
        })

tag_sound : (ts : Tokens) (ws : List Text) (rest : Tokens) → sees s.Less ts ≡ true → tag ts ≡ gives ws rest → Between s.Less IsPath s.Greater ts ws rest
unfolding tag
tag_sound ts ws rest is e =
    let p = bound (path (drop 1 ts)) _ (ws, rest) e in
    let c = bound (expect s.Greater p.0.1) _ (ws, rest) p.2 in
    let same = pair_is c.2 in
    subst (λ y. Between s.Less IsPath s.Greater ts y rest) same.0 (record {
      a = drop 1 ts;
      b = p.0.1;
      opens = sees_stands s.Less ts is (no_end s.Less refl);
      part = path_sound (drop 1 ts) p.0.0 p.0.1 p.1;
      closes = subst (Stands s.Greater p.0.1) same.1 (expected s.Greater p.0.1 c.0.1 c.0.0 refl c.1);
    })

-- words of which the last was set apart
last_sound : (ws front : List Text) (called : Text) (ts rest : Tokens) → last_apart ws ts ≡ gives (front, called) rest → (ws ≡ front ++ called ∷ []) × (front ≢ []) × (ts ≡ rest)
unfolding last_apart
last_sound ws front called ts rest e = by ws (last_of ws) refl e
  where
    joined : (w : Text) (ws : List Text) → w ∷ ws ≡ (ends w ws).0 ++ (ends w ws).1 ∷ []
    joined w [] = refl
    joined w (v ∷ ws) = ap (λ l. w ∷ l) (joined v ws)

    by : (ws : List Text) (o : Option (List Text × Text)) → last_of ws ≡ o → option_map {U = (List Text × Text) × Tokens} (λ p. (p, ts)) o ≡ gives (front, called) rest → (ws ≡ front ++ called ∷ []) × (front ≢ []) × (ts ≡ rest)
    by ws None is e = absurd (cc)
    by [] (Some p) is e = absurd (cc)
    by (w ∷ []) (Some p) is e = absurd (cc)
    by (w ∷ v ∷ ws) (Some p) is e =
        let same : ends w (v ∷ ws) ≡ p = some_is is in
        let pair = pair_is e in
        let whole : ends w (v ∷ ws) ≡ (front, called) = same ∙ pair.0 in
        (joined w (v ∷ ws) ∙ ap (λ (q : List Text × Text). q.0 ++ q.1 ∷ []) whole, λ none. first_some (sym (ap (λ (q : List Text × Text). q.0) whole) ∙ ends_some) none, pair.1)
      where
        some_is : {A : Type 0} {a b : A} → Some a ≡ Some b → a ≡ b
        some_is h = cc

        ends_some : (ends w (v ∷ ws)).0 ≡ w ∷ (ends v ws).0
        ends_some = refl

        first_some : {l : List Text} → front ≡ w ∷ l → front ≡ [] → ⊥
        first_some a b = cc

-- names of which the last is set apart
split_names : (ts : Tokens) (front : List Text) (called : Text) (rest : Tokens) → front ≢ [] → IsWords ts (front ++ called ∷ []) rest → (a : Tokens) × IsWords ts front a × IsName a called rest
split_names ts [] called rest some h = absurd (some refl)
split_names ts (w ∷ front) called rest some h = let r = tail h.0 front h.2 in (r.0, (h.0, h.1, r.1), r.2)
  where
    tail : (ts : Tokens) (front : List Text) → Each IsName ts (front ++ called ∷ []) rest → (a : Tokens) × Each IsName ts front a × IsName a called rest
    tail ts [] h = (ts, refl, subst (IsName ts called) h.2 h.1)
    tail ts (w ∷ front) h = let r = tail h.0 front h.2 in (r.0, (h.0, h.1, r.1), r.2)

module _ (IsFields : Part (List FieldTree)) (all_fields : Parser (List FieldTree)) (fields_sound : (ts : Tokens) (fs : List FieldTree) (rest : Tokens) → all_fields ts ≡ gives fs rest → IsFields ts fs rest) where
  body_sound : (ts : Tokens) (b : StructBody) (rest : Tokens) → struct_body all_fields ts ≡ gives b rest → IsBody IsFields ts b rest
  unfolding struct_body
  body_sound ts b rest e =
      let fs = bound (all_fields ts) _ (b, rest) e in
      let al = bound (align fs.0.1) _ (b, rest) fs.2 in
      let same = pair_is al.2 in
      record { a = fs.0.1; all = fs.0.0; align = al.0.0; fields = fields_sound ts fs.0.0 fs.0.1 fs.1; align_is = align_sound fs.0.1 al.0.0 rest (al.1 ∙ ap (λ r. gives al.0.0 r) same.1); is = sym same.0 }

  pub struct_sound : (ts : Tokens) (t : StructTree) (rest : Tokens) → struct_tree all_fields ts ≡ gives t rest → IsStruct IsFields ts t rest
  unfolding struct_tree
  struct_sound ts t rest e =
      let n = bound (if_seen s.Name word ts) _ (t, rest) e in
      let b = bound (if_seen s.OpenBrace (struct_body all_fields) n.0.1) _ (t, rest) n.2 in
      last n.0.0 b.0.0 n.0.1 b.0.1 (name_if_any_sound ts n.0.0 n.0.1 n.1) (maybe_sound (IsBody IsFields) s.OpenBrace (struct_body all_fields) n.0.1 b.0.0 b.0.1 (λ x is read. body_sound n.0.1 x b.0.1 read) b.1) (is_some n.0.0 || is_some b.0.0) refl b.2
    where
      last : (called : Option Text) (found : Option StructBody) (a c : Tokens) → Maybe IsName ts called a → Maybe (IsBody IsFields) a found c → (v : Bool) → (is_some called || is_some found) ≡ v → (if v then pure (roll-StructTree (record { name = called; body = found })) else (λ l. None)) c ≡ gives t rest → IsStruct IsFields ts t rest
      last called found a c p q true some e = let same = pair_is e in record { a = a; name = called; body = found; name_is = p; body_is = subst (Maybe (IsBody IsFields) a found) same.1 q; some = some_of called found some; is = sym same.0 }
      last called found a c p q false some e = absurd (cc)

  pub variant_sound : (ts : Tokens) (t : VariantTree) (rest : Tokens) → variant_tree all_fields ts ≡ gives t rest → IsVariant IsFields ts t rest
  unfolding variant_tree
  variant_sound ts t rest e =
      let n = bound (if_seen s.Name word ts) _ (t, rest) e in
      let g = bound (if_seen s.Less tag n.0.1) _ (t, rest) n.2 in
      let b = bound (if_seen s.OpenBrace all_fields g.0.1) _ (t, rest) g.2 in
      last n.0.0 g.0.0 b.0.0 n.0.1 g.0.1 b.0.1 (name_if_any_sound ts n.0.0 n.0.1 n.1) (maybe_sound (Between s.Less IsPath s.Greater) s.Less tag n.0.1 g.0.0 g.0.1 (λ x is read. tag_sound n.0.1 x g.0.1 is read) g.1) (maybe_sound IsFields s.OpenBrace all_fields g.0.1 b.0.0 b.0.1 (λ x is read. fields_sound g.0.1 x b.0.1 read) b.1) (is_some n.0.0 || is_some b.0.0) refl b.2
    where
      last : (called : Option Text) (tagged : Option (List Text)) (found : Option (List FieldTree)) (a b c : Tokens) → Maybe IsName ts called a → Maybe (Between s.Less IsPath s.Greater) a tagged b → Maybe IsFields b found c → (v : Bool) → (is_some called || is_some found) ≡ v → (if v then pure (roll-VariantTree (record { name = called; tag = tagged; body = found })) else (λ l. None)) c ≡ gives t rest → IsVariant IsFields ts t rest
      last called tagged found a b c p g q true some e = let same = pair_is e in record { a = a; b = b; name = called; tag = tagged; body = found; name_is = p; tag_is = g; body_is = subst (Maybe IsFields b found) same.1 q; some = some_of called found some; is = sym same.0 }
      last called tagged found a b c p g q false some e = absurd (cc)

  -- a keyword that was passed and the part after it
  behind_keyword : {A : Type 0} (P : Part A) (y : Symbol) (make : A → TypeTree) (p : Parser A) (ts : Tokens) (t : TypeTree) (rest : Tokens) → sameb the_type s.End y ≡ false → head ts ≡ y → ((x : A) (l : Tokens) → p (drop 1 ts) ≡ gives x l → P (drop 1 ts) x l) → ((x : A) → Behind y P ts x rest → IsType IsFields ts (make x) rest) → and_then (p (drop 1 ts)) (λ x. pure (make x)) ≡ gives t rest → IsType IsFields ts t rest
  behind_keyword P y make p ts t rest apart front sound turn e =
      let x = bound (p (drop 1 ts)) (λ x. pure (make x)) (t, rest) e in
      let same = pair_is x.2 in
      subst (λ z. IsType IsFields ts z rest) same.0 (turn x.0.0 (behind_sound P y ts x.0.0 rest apart (seen_head y ts front) (subst (P (drop 1 ts) x.0.0) same.1 (sound x.0.0 x.0.1 x.1))))

  attrs_if_any_sound : (ts : Tokens) (o : Option (List Attr)) (rest : Tokens) → if_seen s.OpenBrace attrs ts ≡ gives o rest → Maybe IsAttrs ts o rest
  attrs_if_any_sound ts o rest e = maybe_sound IsAttrs s.OpenBrace attrs ts o rest (λ x is read. attrs_sound ts x rest read) e

  type_by_sound : (t : TypeTree) (ts rest : Tokens) (x : Symbol) → head ts ≡ x → type_by all_fields x ts ≡ gives t rest → IsType IsFields ts t rest
  unfolding type_by
  type_by_sound t ts rest = symbol_cases (λ x. head ts ≡ x → type_by all_fields x ts ≡ gives t rest → IsType IsFields ts t rest)
      (λ front e. named e) (λ front e. named e) (λ front e. named e) (λ front e. named e) (λ front e. named e) (λ front e. behind_keyword (IsStruct IsFields) s.Struct ty.Struct (struct_tree all_fields) ts t rest refl front (struct_sound (drop 1 ts)) (λ x h. struct ts x rest h) e) (λ front e. behind_keyword (IsVariant IsFields) s.Variant ty.Variant (variant_tree all_fields) ts t rest refl front (variant_sound (drop 1 ts)) (λ x h. variant ts x rest h) e) (λ front e. behind_keyword IsEnum s.Enum ty.Enum enum_tree ts t rest refl front (enum_sound (drop 1 ts)) (λ x h. enum ts x rest h) e) (λ front e. behind_keyword IsAttrs s.Integer ty.Integer attrs ts t rest refl front (attrs_sound (drop 1 ts)) (λ x h. integer ts x rest h) e) (λ front e. behind_keyword IsAttrs s.FloatingPoint ty.Float attrs ts t rest refl front (attrs_sound (drop 1 ts)) (λ x h. float ts x rest h) e) (λ front e. behind_keyword (Maybe IsAttrs) s.String ty.Str (if_seen s.OpenBrace attrs) ts t rest refl front (attrs_if_any_sound (drop 1 ts)) (λ x h. string_type ts x rest h) e) (λ front e. named e) (λ front e. named e) (λ front e. named e) (λ front e. named e) (λ front e. named e) (λ front e. named e) (λ front e. named e) (λ front e. named e) (λ front e. named e) (λ front e. named e) (λ front e. named e) (λ front e. named e) (λ front e. named e) (λ front e. named e) (λ front e. named e) (λ front e. named e) (λ front e. named e) (λ front e. named e) (λ front e. named e) (λ front e. named e) (λ front e. named e) (λ front e. named e)
    where
      named : and_then (words ts) (λ ws. pure (ty.Words ws)) ≡ gives t rest → IsType IsFields ts t rest
      named e = wrapped IsWords (IsType IsFields) ty.Words words ts t rest (λ ws l. words_sound ts ws l) (λ ws h. words_type ts ws rest h) e

  pub type_sound : (ts : Tokens) (t : TypeTree) (rest : Tokens) → type_tree all_fields ts ≡ gives t rest → IsType IsFields ts t rest
  unfolding type_tree
  type_sound ts t rest e = type_by_sound t ts rest (head ts) refl e

  -- a type and the field's name after it
  record Typed (ts : Tokens) (t : TypeTree) (called : Text) (rest : Tokens) : Type 0 where
    a : Tokens
    type_is : IsType IsFields ts t a
    name_is : IsName a called rest

  enum_plain : (ts a : Tokens) (e x : EnumTree) (called : Text) (rest : Tokens) → head ts ≡ s.Enum → IsEnum (drop 1 ts) e a → and_then {B = EnumTree × Text} (name a) (λ w. pure (e, w)) ≡ gives (x, called) rest → Typed ts (ty.Enum x) called rest
  enum_plain ts a e x called rest front h read =
      let w = bound {B = EnumTree × Text} (name a) (λ w. pure (e, w)) ((x, called), rest) read in
      let same = pair_is w.2 in
      let tree : e ≡ x = ap (λ (p : EnumTree × Text). p.0) same.0 in
      let called_is : w.0.0 ≡ called = ap (λ (p : EnumTree × Text). p.1) same.0 in
      record { a = a; type_is = enum ts x a (behind_sound IsEnum s.Enum ts x a refl (seen_head s.Enum ts front) (subst (λ y. IsEnum (drop 1 ts) y a) tree h)); name_is = subst (λ v. IsName a v rest) called_is (subst (IsName a w.0.0) same.1 (name_is a w.0.1 w.0.0 w.1)) }

  enum_open : (ts a : Tokens) (id : Option Text) (ws : List Text) (x : EnumTree) (called : Text) (rest : Tokens) → head ts ≡ s.Enum → IsEnum (drop 1 ts) (record { name = id; base = Some (base.Words ws); labels = None }) a → and_then {B = EnumTree × Text} (last_apart ws a) (λ p. pure (record { name = id; base = Some (base.Words p.0); labels = None }, p.1)) ≡ gives (x, called) rest → Typed ts (ty.Enum x) called rest
  enum_open ts a id ws x called rest front h read =
      let p = bound {B = EnumTree × Text} (last_apart ws a) (λ p. pure (record { name = id; base = Some (base.Words p.0); labels = None }, p.1)) ((x, called), rest) read in
      let l = last_sound ws p.0.0.0 p.0.0.1 a p.0.1 p.1 in
      let same = pair_is p.2 in
      let tree : record { name = id; base = Some (base.Words p.0.0.0); labels = None } ≡ x = ap (λ (q : EnumTree × Text). q.0) same.0 in
      let called_is : p.0.0.1 ≡ called = ap (λ (q : EnumTree × Text). q.1) same.0 in
      let whole : IsWords h.base_is.a (p.0.0.0 ++ p.0.0.1 ∷ []) rest = subst (λ z. IsWords h.base_is.a z rest) l.0 (subst (IsWords h.base_is.a ws) (h.labels_are ∙ l.2 ∙ same.1) h.base_is.part) in
      let split = split_names h.base_is.a p.0.0.0 p.0.0.1 rest l.1 whole in
      let inner : IsEnum (drop 1 ts) (record { name = id; base = Some (base.Words p.0.0.0); labels = None }) split.0 = record { a = h.a; b = split.0; name_is = h.name_is; base_is = record { a = h.base_is.a; opens = h.base_is.opens; part = split.1 }; labels_are = refl; some = h.some } in
      record { a = split.0; type_is = enum ts x split.0 (behind_sound IsEnum s.Enum ts x split.0 refl (seen_head s.Enum ts front) (subst (λ y. IsEnum (drop 1 ts) y split.0) tree inner)); name_is = subst (λ v. IsName split.0 v rest) called_is split.2 }

  enum_named_sound : (ts a : Tokens) (id : Option Text) (of : Option EnumBase) (ls : Option (List Label)) (x : EnumTree) (called : Text) (rest : Tokens) → head ts ≡ s.Enum → IsEnum (drop 1 ts) (record { name = id; base = of; labels = ls }) a → enum_named_by (record { name = id; base = of; labels = ls }) of ls a ≡ gives (x, called) rest → Typed ts (ty.Enum x) called rest
  enum_named_sound ts a id None None x called rest front h read = enum_plain ts a (record { name = id; base = None; labels = None }) x called rest front h read
  enum_named_sound ts a id None (Some ls) x called rest front h read = enum_plain ts a (record { name = id; base = None; labels = Some ls }) x called rest front h read
  enum_named_sound ts a id (Some (base.Integer xs)) None x called rest front h read = enum_plain ts a (record { name = id; base = Some (base.Integer xs); labels = None }) x called rest front h read
  enum_named_sound ts a id (Some (base.Integer xs)) (Some ls) x called rest front h read = enum_plain ts a (record { name = id; base = Some (base.Integer xs); labels = Some ls }) x called rest front h read
  enum_named_sound ts a id (Some (base.Words ws)) (Some ls) x called rest front h read = enum_plain ts a (record { name = id; base = Some (base.Words ws); labels = Some ls }) x called rest front h read
  enum_named_sound ts a id (Some (base.Words ws)) None x called rest front h read = enum_open ts a id ws x called rest front h read

  typed_by_sound : (t : TypeTree) (called : Text) (ts rest : Tokens) (x : Symbol) → head ts ≡ x → typed_by all_fields x ts ≡ gives (t, called) rest → Typed ts t called rest
  unfolding typed_by enum_named
  typed_by_sound t called ts rest = symbol_cases (λ x. head ts ≡ x → typed_by all_fields x ts ≡ gives (t, called) rest → Typed ts t called rest)
      (λ front e. other_type e) (λ front e. named e) (λ front e. other_type e) (λ front e. other_type e) (λ front e. other_type e) (λ front e. other_type e) (λ front e. other_type e) (λ front e. enumerated front e) (λ front e. other_type e) (λ front e. other_type e) (λ front e. other_type e) (λ front e. other_type e) (λ front e. other_type e) (λ front e. other_type e) (λ front e. other_type e) (λ front e. other_type e) (λ front e. other_type e) (λ front e. other_type e) (λ front e. other_type e) (λ front e. other_type e) (λ front e. other_type e) (λ front e. other_type e) (λ front e. other_type e) (λ front e. other_type e) (λ front e. other_type e) (λ front e. other_type e) (λ front e. other_type e) (λ front e. other_type e) (λ front e. other_type e) (λ front e. other_type e) (λ front e. other_type e) (λ front e. other_type e) (λ front e. other_type e)
    where
      other_type : and_then {B = TypeTree × Text} (type_tree all_fields ts) (λ of l. and_then {B = TypeTree × Text} (name l) (λ w. pure (of, w))) ≡ gives (t, called) rest → Typed ts t called rest
      other_type e =
          let y = bound {B = TypeTree × Text} (type_tree all_fields ts) (λ of l. and_then {B = TypeTree × Text} (name l) (λ w. pure (of, w))) ((t, called), rest) e in
          let n = bound {B = TypeTree × Text} (name y.0.1) (λ w. pure (y.0.0, w)) ((t, called), rest) y.2 in
          let same = pair_is n.2 in
          let of_is : y.0.0 ≡ t = ap (λ (p : TypeTree × Text). p.0) same.0 in
          let called_is : n.0.0 ≡ called = ap (λ (p : TypeTree × Text). p.1) same.0 in
          record { a = y.0.1; type_is = subst (λ z. IsType IsFields ts z y.0.1) of_is (type_sound ts y.0.0 y.0.1 y.1); name_is = subst (λ w. IsName y.0.1 w rest) called_is (subst (IsName y.0.1 n.0.0) same.1 (name_is y.0.1 n.0.1 n.0.0 n.1)) }

      named : and_then {B = TypeTree × Text} (and_then (words ts) last_apart) (λ p. pure (ty.Words p.0, p.1)) ≡ gives (t, called) rest → Typed ts t called rest
      named e =
          let p = bound {B = TypeTree × Text} (and_then (words ts) last_apart) (λ p. pure (ty.Words p.0, p.1)) ((t, called), rest) e in
          let ws = bound (words ts) last_apart p.0 p.1 in
          let l = last_sound ws.0.0 p.0.0.0 p.0.0.1 ws.0.1 p.0.1 ws.2 in
          let same = pair_is p.2 in
          let of_is : ty.Words p.0.0.0 ≡ t = ap (λ (p : TypeTree × Text). p.0) same.0 in
          let called_is : p.0.0.1 ≡ called = ap (λ (p : TypeTree × Text). p.1) same.0 in
          let all : IsWords ts (p.0.0.0 ++ p.0.0.1 ∷ []) rest = subst (λ z. IsWords ts z rest) l.0 (subst (IsWords ts ws.0.0) (l.2 ∙ same.1) (words_sound ts ws.0.0 ws.0.1 ws.1)) in
          let split = split_names ts p.0.0.0 p.0.0.1 rest l.1 all in
          record { a = split.0; type_is = subst (λ z. IsType IsFields ts z split.0) of_is (words_type ts p.0.0.0 split.0 split.1); name_is = subst (λ w. IsName split.0 w rest) called_is split.2 }

      enumerated : head ts ≡ s.Enum → and_then {B = TypeTree × Text} (and_then (enum_tree (drop 1 ts)) enum_named) (λ p. pure (ty.Enum p.0, p.1)) ≡ gives (t, called) rest → Typed ts t called rest
      enumerated front e =
          let p = bound {B = TypeTree × Text} (and_then (enum_tree (drop 1 ts)) enum_named) (λ p. pure (ty.Enum p.0, p.1)) ((t, called), rest) e in
          let n = bound (enum_tree (drop 1 ts)) enum_named p.0 p.1 in
          let same = pair_is p.2 in
          let of_is : ty.Enum p.0.0.0 ≡ t = ap (λ (p : TypeTree × Text). p.0) same.0 in
          let called_is : p.0.0.1 ≡ called = ap (λ (p : TypeTree × Text). p.1) same.0 in
          let found = enum_named_sound ts n.0.1 n.0.0.name n.0.0.base n.0.0.labels p.0.0.0 p.0.0.1 p.0.1 front (enum_sound (drop 1 ts) n.0.0 n.0.1 n.1) n.2 in
          subst (λ z. Typed ts z called rest) of_is (subst (λ w. Typed ts (ty.Enum p.0.0.0) w rest) called_is (subst (Typed ts (ty.Enum p.0.0.0) p.0.0.1) same.1 found))

  field_sound : (ts : Tokens) (f : FieldTree) (rest : Tokens) → field all_fields ts ≡ gives f rest → IsField IsFields ts f rest
  unfolding field typed
  field_sound ts f rest e =
      let w = bound (typed_by all_fields (head ts) ts) _ (f, rest) e in
      let d = bound (dims w.0.1) _ (f, rest) w.2 in
      let c = bound (expect s.Semicolon d.0.1) _ (f, rest) d.2 in
      let same = pair_is c.2 in
      let what = typed_by_sound w.0.0.0 w.0.0.1 ts w.0.1 (head ts) refl w.1 in
      record { a = what.a; b = w.0.1; c = d.0.1; of = w.0.0.0; called = w.0.0.1; dims = d.0.0; type_is = what.type_is; name_is = what.name_is; dims_are = dims_sound w.0.1 d.0.0 d.0.1 d.1; semicolon = subst (Stands s.Semicolon d.0.1) same.1 (expected s.Semicolon d.0.1 c.0.1 c.0.0 refl c.1); is = sym same.0 }

pub fields_sound : (depth : ℕ) (ts : Tokens) (fs : List FieldTree) (rest : Tokens) → fields depth ts ≡ gives fs rest → IsFieldsWithin depth ts fs rest
unfolding fields
fields_sound zero ts fs rest e = absurd (cc)
fields_sound (suc depth) ts fs rest e = braced_sound (IsField (IsFieldsWithin depth)) (field (fields depth)) (field_sound (IsFieldsWithin depth) (fields depth) (fields_sound depth)) ts fs rest e
