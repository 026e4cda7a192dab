-- Bytes that stand for themselves are their own spelling.
use Rattle.std.proofs.Common.{◌≡◌, ℕ, suc, ◌+◌, Bool, true, false, cond, List, [], ◌∷◌, ◌++◌, refl, ap, ◌∙◌, append_assoc, take, drop, flat_map, arith, Result, Ok, Err, OnOk, OnErr, sym, take-append-drop}
use Rattle.std.specs.List.{prefix_len}
use Rattle.std.proofs.lemmas.List.Concat.{flat_map-append}
use Rattle.std.proofs.lemmas.Result.{on_err_weaker}
use Rattle.trace_types.specs.ByteTexts.{is_plain, spelled}
use Rattle.trace_types.specs.Fronts.{HasFront}
use Rattle.trace_types.proofs.Appending.{later_front}

after : (n : ℕ) (b : ℕ) (bs : List ℕ) → take n bs ++ flat_map spelled (drop n bs) ≡ flat_map spelled bs → take (1 + n) (b ∷ bs) ++ flat_map spelled (drop (1 + n) (b ∷ bs)) ≡ b ∷ flat_map spelled bs
after n b bs rest = let e : 1 + n ≡ suc n = omega arith in rw e (ap (λ l. b ∷ l) rest)

plain_first : (bs : List ℕ) → take (prefix_len is_plain bs) bs ++ flat_map spelled (drop (prefix_len is_plain bs) bs) ≡ flat_map spelled bs
plain_first [] = refl
plain_first (b ∷ bs) = by (is_plain b) refl (after (prefix_len is_plain bs) b bs (plain_first bs))
  where
    by : (k : Bool) → is_plain b ≡ k → take (1 + prefix_len is_plain bs) (b ∷ bs) ++ flat_map spelled (drop (1 + prefix_len is_plain bs) (b ∷ bs)) ≡ b ∷ flat_map spelled bs
        → take (cond k (1 + prefix_len is_plain bs) 0) (b ∷ bs) ++ flat_map spelled (drop (cond k (1 + prefix_len is_plain bs) 0) (b ∷ bs)) ≡ flat_map spelled (b ∷ bs)
    by true is rest = rw is rest
    by false is rest = refl

-- what was there, the bytes that stand for themselves, and the spelling of those behind
pub in_two : {A E : Type 0} (r : Result A E) (bytes front back : List ℕ) (n : ℕ) (old mid new : List ℕ) → n ≡ prefix_len is_plain bytes → front ≡ take n bytes → back ≡ drop n bytes → mid ≡ old ++ front → OnOk r (new ≡ mid ++ flat_map spelled back) → OnOk r (new ≡ old ++ flat_map spelled bytes)
in_two (Ok x) bytes front back n old mid new e f b m h =
    h ∙ (ap (λ l. l ++ flat_map spelled back) m ∙ (append_assoc old front (flat_map spelled back) ∙ ap (λ l. old ++ l) (rw (f, b, e) (plain_first bytes))))
in_two (Err x) bytes front back n old mid new e f b m h = tt

-- the first bytes are spelled, and no more
pub stopped_at : (bytes : List ℕ) (n : ℕ) (old mid new : List ℕ) → mid ≡ old ++ flat_map spelled (take n bytes) → new ≡ mid → HasFront old (flat_map spelled bytes) new
stopped_at bytes n old mid new m e = record {
  front = flat_map spelled (take n bytes);
  rest = flat_map spelled (drop n bytes);
  parts = ap (λ bs. flat_map spelled bs) (sym (take-append-drop n bytes)) ∙ flat_map-append spelled (take n bytes) (drop n bytes);
  held = e ∙ m;
}

in_two_parts : (bytes front back : List ℕ) (n : ℕ) → n ≡ prefix_len is_plain bytes → front ≡ take n bytes → back ≡ drop n bytes → flat_map spelled bytes ≡ front ++ flat_map spelled back
in_two_parts bytes front back n e f b = sym (rw (f, b, e) (plain_first bytes))

-- what was there, the bytes that stand for themselves, and a front of the spelling of those behind
pub front_of_two : {A E : Type 0} (r : Result A E) (bytes front back : List ℕ) (n : ℕ) (old mid new : List ℕ) → n ≡ prefix_len is_plain bytes → front ≡ take n bytes → back ≡ drop n bytes → mid ≡ old ++ front → OnErr r (HasFront mid (flat_map spelled back) new) → OnErr r (HasFront old (flat_map spelled bytes) new)
front_of_two r bytes front back n old mid new e f b m h = on_err_weaker r (λ u. later_front old front (flat_map spelled back) _ mid new m u (in_two_parts bytes front back n e f b)) h
