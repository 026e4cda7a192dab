-- The names of a folder, collected file by file.
use Rattle.std.proofs.Common.{◌≡◌, ℕ, ◌⊎◌, inl, inr, Bool, IsTrue, true, false, not, if◌then◌else◌, List, [], ◌∷◌, ◌++◌, Some, None, IsSome, refl, subst, rules}
use Rattle.std.specs.Prelude.{Contains}
use Rattle.std.specs.Cmp.Lexicographic.{bytes_decides}
use Rattle.std.proofs.lemmas.List.Quantifiers.{all_pairs_push}
use Rattle.std.proofs.lemmas.List.Elements.{Contains-get_or, Contains-append_left, Contains-push, Contains-push_cases}
use Rattle.ht_outside.specs.Files.{ListsNames}
use Rattle.trace_types.specs.Texts.{same_bytes}
use Rattle.ht_outside.specs.Stored.{is_at, files_in}
use Rattle.ht_outside.specs.declared.memory_store.StoredFile.{StoredFile}
use Rattle.ht_outside.proofs.Places.{both_true}

abbrev pub HasListed : List StoredFile → List ℕ → List (List ℕ) → Type 0
HasListed files dir names = ListsNames (files_in files) dir names

-- a file is there where it was before, or is the last one
kept : (fs : List StoredFile) (f : StoredFile) (d n : List ℕ) → IsSome (files_in fs d n) → IsSome (files_in (fs ++ f ∷ []) d n)
kept [] f d n h = absurd (search rules)
kept (g ∷ gs) f d n h = by (is_at d n g) h (kept gs f d n)
  where
    by : (b : Bool) → IsSome (if b then Some g.bytes else files_in gs d n) → (IsSome (files_in gs d n) → IsSome (files_in (gs ++ f ∷ []) d n)) → IsSome (if b then Some g.bytes else files_in (gs ++ f ∷ []) d n)
    by true h rest = h
    by false h rest = rest h

last : (fs : List StoredFile) (f : StoredFile) (d n : List ℕ) → is_at d n f ≡ true → IsSome (files_in (fs ++ f ∷ []) d n)
last [] f d n h = rw h (search rules)
last (g ∷ gs) f d n h = by (is_at d n g) (last gs f d n h)
  where
    by : (b : Bool) → IsSome (files_in (gs ++ f ∷ []) d n) → IsSome (if b then Some g.bytes else files_in (gs ++ f ∷ []) d n)
    by true rest = search rules
    by false rest = rest

either : (fs : List StoredFile) (f : StoredFile) (d n : List ℕ) → IsSome (files_in (fs ++ f ∷ []) d n) → IsSome (files_in fs d n) ⊎ (is_at d n f ≡ true)
either [] f d n h = by (is_at d n f) refl h
  where
    by : (b : Bool) → is_at d n f ≡ b → IsSome (if b then Some f.bytes else None) → IsSome {T = List ℕ} None ⊎ (is_at d n f ≡ true)
    by true is h = inr is
    by false is h = inl h
either (g ∷ gs) f d n h = by (is_at d n g) h (either gs f d n)
  where
    by : (b : Bool) → IsSome (if b then Some g.bytes else files_in (gs ++ f ∷ []) d n) → (IsSome (files_in (gs ++ f ∷ []) d n) → IsSome (files_in gs d n) ⊎ (is_at d n f ≡ true)) → IsSome (if b then Some g.bytes else files_in gs d n) ⊎ (is_at d n f ≡ true)
    by true h rest = inl h
    by false h rest = rest h

-- a file of another folder adds no name
pub elsewhere : (fs : List StoredFile) (f : StoredFile) (dir : List ℕ) (names : List (List ℕ)) → HasListed fs dir names → same_bytes f.dir dir ≡ false → HasListed (fs ++ f ∷ []) dir names
elsewhere fs f dir names h e = record {
  exact = λ name. (λ c. kept fs f dir name ((h.exact name).0 c), λ s. elim (either fs f dir name s) [ inl old ↦ (h.exact name).1 old | inr at ↦ let both = both_true (same_bytes f.dir dir) (same_bytes f.name name) at in absurd (cc (both.0)) ]);
  once = h.once;
}

-- a name that is listed already is not listed again
pub again : (fs : List StoredFile) (f : StoredFile) (dir : List ℕ) (names : List (List ℕ)) → HasListed fs dir names → Contains names f.name → HasListed (fs ++ f ∷ []) dir names
again fs f dir names h has = record {
  exact = λ name. (λ c. kept fs f dir name ((h.exact name).0 c), λ s. elim (either fs f dir name s) [ inl old ↦ (h.exact name).1 old | inr at ↦ subst (Contains names) ((bytes_decides f.name name).0 (both_true _ _ at).1) has ]);
  once = h.once;
}

-- a new name
pub listed : (fs : List StoredFile) (f : StoredFile) (dir : List ℕ) (names : List (List ℕ)) → HasListed fs dir names → same_bytes f.dir dir ≡ true → ¬ (Contains names f.name) → HasListed (fs ++ f ∷ []) dir (names ++ f.name ∷ [])
listed fs f dir names h e new = record {
  exact = λ name. (
    λ c. elim (Contains-push_cases names f.name name c) [ inl old ↦ kept fs f dir name ((h.exact name).0 old) | inr is ↦ last fs f dir name (rw (e, ← is) ((bytes_decides f.name f.name).1 refl)) ],
    λ s. elim (either fs f dir name s) [ inl old ↦ Contains-append_left names (f.name ∷ []) name ((h.exact name).1 old) | inr at ↦ subst (Contains (names ++ f.name ∷ [])) ((bytes_decides f.name name).0 (both_true _ _ at).1) (Contains-push names f.name) ],
  );
  once = all_pairs_push (λ a b. a ≡ b → ⊥) names f.name h.once (λ k d below same. new (subst (Contains names) same (Contains-get_or names k d below)));
}

pub is_false : (b : Bool) → not b ≡ true → b ≡ false
is_false true h = absurd (cc)
is_false false h = refl

pub is_true : (b : Bool) → not b ≡ false → b ≡ true
is_true true h = refl
is_true false h = absurd (cc)

pub not_true : IsTrue false → ⊥
not_true h = absurd (cc)
