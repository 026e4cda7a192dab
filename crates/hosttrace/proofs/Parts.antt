-- A file that is read part by part.
use Rattle.std.proofs.Common.{◌≡◌, inl, inr, ℕ, ◌+◌, ◌<◌, ◌≤◌, List, [], ◌∷◌, ◌++◌, length, take, drop, Option, Some, None, IfSome, refl, sym, ap, ap₂, ◌∙◌, subst, arith, rules, append-nil, length-append, length-drop}
use Rattle.std.proofs.lemmas.List.{take_all, length-take-le, take-append-drop, take-take, drop-take}
use Rattle.ht_outside.specs.Faults.{HasRisen}
use Rattle.ht_outside.specs.Files.{Files, bytes_of}
use Rattle.hosttrace.specs.Reading.{HasPart}

-- the bytes are the front of the file
pub record IsFront (file bytes : List ℕ) : Type 0 where
  pub front : bytes ≡ take (length bytes) file
  pub within : length bytes ≤ length file

pub front_of : (file bytes : List ℕ) → length bytes ≡ 0 → IsFront file bytes
front_of file [] e = record { front = refl; within = omega arith }
front_of file (b ∷ bs) e = absurd (omega arith)

take-add : (m n : ℕ) (xs : List ℕ) → take (m + n) xs ≡ take m xs ++ take n (drop m xs)
take-add m n xs = sym (take-append-drop m (take (m + n) xs)) ∙ ap₂ (λ a b. a ++ b) (take-take m (m + n) xs (omega arith)) (drop-take m n xs)

more : (file old : List ℕ) (n : ℕ) (new : List ℕ) → IsFront file old → HasPart file old n new → IsFront file new
more file old n new f p =
    let added : length (take n (drop (length old) file)) ≡ n = length-take-le n (drop (length old) file) p.within in
    let long : length new ≡ length old + n = ap length p.part ∙ (length-append old _ ∙ ap (λ k. length old + k) added) in
    record {
      front = p.part ∙ (ap (λ l. l ++ take n (drop (length old) file)) f.front ∙ (sym (take-add (length old) n file) ∙ ap (λ k. take k file) (sym long)));
      within = omega (arith, long, p.within, length-drop (length old) file, f.within);
    }

whole : (file old : List ℕ) (n : ℕ) (new : List ℕ) → IsFront file old → HasPart file old n new → n ≡ 0 → new ≡ file
whole file old n new f p e = p.part ∙ (ap (λ k. old ++ take k (drop (length old) file)) e ∙ (append-nil old ∙ (f.front ∙ take_all (length old) file (p.at_end e))))

pub next_front : (o q : Option Files) (d name old new : List ℕ) (n : ℕ) → IfSome o (λ files. IsFront (bytes_of files d name) old) → IfSome q (λ files. HasPart (bytes_of files d name) old n new) → q ≡ o → IfSome o (λ files. IsFront (bytes_of files d name) new)
next_front None q d name old new n f p e = search rules
next_front (Some files) None d name old new n f p e = absurd (cc)
next_front (Some files) (Some gs) d name old new n f p e = more _ old n new f (subst (λ (q : Option Files). IfSome q (λ files. HasPart (bytes_of files d name) old n new)) e p)

pub all_read : (o q : Option Files) (d name old new : List ℕ) (n : ℕ) → IfSome o (λ files. IsFront (bytes_of files d name) old) → IfSome q (λ files. HasPart (bytes_of files d name) old n new) → q ≡ o → n ≡ 0 → IfSome o (λ files. new ≡ bytes_of files d name)
all_read None q d name old new n f p e z = search rules
all_read (Some files) None d name old new n f p e z = absurd (cc)
all_read (Some files) (Some gs) d name old new n f p e z = whole _ old n new f (subst (λ (q : Option Files). IfSome q (λ files. HasPart (bytes_of files d name) old n new)) e p) z

pub too_long : (o : Option Files) (d name bytes : List ℕ) (limit : ℕ) → IfSome o (λ files. IsFront (bytes_of files d name) bytes) → limit < length bytes → IfSome o (λ files. limit < length (bytes_of files d name))
too_long None d name bytes limit f h = search rules
too_long (Some files) d name bytes limit f h = omega (arith, f.within)

-- a count that rose later rose
pub risen_later : (a b c : ℕ) → a ≤ b → HasRisen b c → HasRisen a c
risen_later a b c h (inl r) = inl (omega arith)
risen_later a b c h (inr r) = inr r
