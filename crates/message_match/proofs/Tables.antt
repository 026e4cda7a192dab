-- What a table's operations leave, as the specs say it.
use Rattle.std.proofs.Common.{◌≡◌, ◌∙◌, inl, inr, arith, Option, position, get_or, length, ◌<◌, IfSome, ℕ, zero, suc, slice_get, subst, Bool, true, false, cond, List, [], ◌∷◌, None, Some, refl, sym, ap, if◌then◌else◌}
use Rattle.std.specs.Map.{keys_of, values_of, lookup}
use Rattle.indexmap.specs.IndexMap.{insert_entry, set_value_at}
use Rattle.trace_types.specs.declared.segment.SegKey.{SegKey}
use Rattle.message_match.specs.declared.standing.Placed.{Placed}
use Rattle.message_match.specs.declared.standing.Standing.{Standing}
use Rattle.message_match.specs.declared.standing.Standing.TheVariants.{Sent}
use Rattle.message_match.specs.Standings.{AreApart, IsAmong, same_key, sent_again, received, changed, with_send, with_receive}
use Rattle.std.proofs.lemmas.List.{length-map}
use Rattle.std.proofs.lemmas.List.Quantifiers.{position-Some}
use Rattle.std.proofs.lemmas.Option.{slice_get-get_or, slice_get_within}
use Rattle.message_match.proofs.Changes.{key_is, key_itself}

module _ (key : SegKey) where
  among_at : (ks : List SegKey) (i : ℕ) → slice_get ks i ≡ Some key → IsAmong ks key
  among_at [] i h = absurd (cc h)
  among_at (k ∷ ks) zero h = let e : k ≡ key = cc in inl e
  among_at (k ∷ ks) (suc i) h = inr (among_at ks i h)

  -- a write at the key's index changes its standing
  changed-at : (es : List (SegKey × Standing)) (i : ℕ) (f : Standing → Standing) (x : Standing) → AreApart (keys_of es) → slice_get (keys_of es) i ≡ Some key → slice_get (values_of es) i ≡ Some x → set_value_at es i (f x) ≡ changed f es key
  changed-at [] i f x apart k v = absurd (cc k)
  changed-at (e ∷ es) zero f x apart k v =
      let same : e.0 ≡ key = cc in
      let value : x ≡ e.1 = cc in
      rw (subst (λ l. same_key key l ≡ true) (sym same) (key_itself key)) (ap (λ y. (e.0, f y) ∷ es) value)
  changed-at (e ∷ es) (suc i) f x apart k v = by (same_key key e.0) refl (changed-at es i f x apart.1 k v)
    where
      by : (b : Bool) → same_key key e.0 ≡ b → set_value_at es i (f x) ≡ changed f es key → e ∷ set_value_at es i (f x) ≡ (if b then (e.0, f e.1) ∷ es else e ∷ changed f es key)
      by true is rest = absurd (apart.0 (subst (IsAmong (keys_of es)) (key_is key e.0 is) (among_at (keys_of es) i k)))
      by false is rest = ap (λ l. e ∷ l) rest

  changed-absent : (es : List (SegKey × Standing)) (f : Standing → Standing) → lookup (same_key key) es ≡ None → es ≡ changed f es key
  changed-absent [] f h = refl
  changed-absent (e ∷ es) f h = by (same_key key e.0) h (changed-absent es f)
    where
      by : (b : Bool) → cond b (Some e.1) (lookup (same_key key) es) ≡ None → (lookup (same_key key) es ≡ None → es ≡ changed f es key)
          → e ∷ es ≡ (if b then (e.0, f e.1) ∷ es else e ∷ changed f es key)
      by true h rest = absurd (cc h)
      by false h rest = ap (λ l. e ∷ l) (rest h)

  pub after_receive : (es new : List (SegKey × Standing)) (i : ℕ) (r : Placed) (x y : Standing) → AreApart (keys_of es) → slice_get (keys_of es) i ≡ Some key → slice_get (values_of es) i ≡ Some x → y ≡ received x r → new ≡ set_value_at es i y → new ≡ with_receive es key r
  after_receive es new i r x y apart k v ey e = e ∙ (ap (set_value_at es i) ey ∙ changed-at es i (λ z. received z r) x apart k v)

  pub after_none : (es new : List (SegKey × Standing)) (r : Placed) → lookup (same_key key) es ≡ None → new ≡ es → new ≡ with_receive es key r
  after_none es new r h e = e ∙ changed-absent es (λ z. received z r) h

  inserted-present : (es : List (SegKey × Standing)) (s : Placed) (x : Standing) → lookup (same_key key) es ≡ Some x → insert_entry same_key es key (sent_again x s) ≡ with_send es key s
  inserted-present [] s x h = absurd (cc h)
  inserted-present (e ∷ es) s x h = by (same_key key e.0) h (inserted-present es s x)
    where
      by : (b : Bool) → cond b (Some e.1) (lookup (same_key key) es) ≡ Some x → (lookup (same_key key) es ≡ Some x → insert_entry same_key es key (sent_again x s) ≡ with_send es key s)
          → (if b then (e.0, sent_again x s) ∷ es else e ∷ insert_entry same_key es key (sent_again x s)) ≡ (if b then (e.0, sent_again e.1 s) ∷ es else e ∷ with_send es key s)
      by true h rest = let same : e.1 ≡ x = cc in ap (λ y. (e.0, sent_again y s) ∷ es) (sym same)
      by false h rest = ap (λ l. e ∷ l) (rest h)

  inserted-absent : (es : List (SegKey × Standing)) (s : Placed) → lookup (same_key key) es ≡ None → insert_entry same_key es key (Sent s) ≡ with_send es key s
  inserted-absent [] s h = refl
  inserted-absent (e ∷ es) s h = by (same_key key e.0) h (inserted-absent es s)
    where
      by : (b : Bool) → cond b (Some e.1) (lookup (same_key key) es) ≡ None → (lookup (same_key key) es ≡ None → insert_entry same_key es key (Sent s) ≡ with_send es key s)
          → (if b then (e.0, Sent s) ∷ es else e ∷ insert_entry same_key es key (Sent s)) ≡ (if b then (e.0, sent_again e.1 s) ∷ es else e ∷ with_send es key s)
      by true h rest = absurd (cc h)
      by false h rest = ap (λ l. e ∷ l) (rest h)

  pub after_send_again : (es new : List (SegKey × Standing)) (s : Placed) (x y : Standing) → lookup (same_key key) es ≡ Some x → y ≡ sent_again x s → new ≡ insert_entry same_key es key y → new ≡ with_send es key s
  after_send_again es new s x y h ey e = e ∙ (ap (insert_entry same_key es key) ey ∙ inserted-present es s x h)

  pub after_first_send : (es new : List (SegKey × Standing)) (s : Placed) → lookup (same_key key) es ≡ None → new ≡ insert_entry same_key es key (Sent s) → new ≡ with_send es key s
  after_first_send es new s h e = e ∙ inserted-absent es s h

  -- the index that a look-up finds
  pub found_at : (r : Option ℕ) (ks : List SegKey) → r ≡ position (same_key key) ks → IfSome r (λ i. slice_get ks i ≡ Some key)
  found_at None ks e = tt
  found_at (Some i) ks e =
      let at = position-Some (same_key key) ks i key (sym e) in
      slice_get-get_or ks i key at.0 ∙ ap Some (sym (key_is key (get_or ks i key) at.1))

  pub within_entries : (es : List (SegKey × Standing)) (i : ℕ) → slice_get (keys_of es) i ≡ Some key → i < length es
  within_entries es i h = let lt = slice_get_within (keys_of es) i key h in omega (arith, lt, length-map es (λ (e : SegKey × Standing). e.0))
