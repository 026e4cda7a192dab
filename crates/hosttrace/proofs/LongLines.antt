-- A line in three pieces: its head and a space, the word of its name, the line feed.
use Rattle.std.proofs.Common.{◌≡◌, ℕ, List, [], ◌∷◌, ◌++◌, Option, sym, ap, ◌∙◌, append_assoc, subst}
use Rattle.std.specs.Io.KnownBytes.{Appends}
use Rattle.hosttrace.specs.Writing.{AppendsFront}
use Rattle.hosttrace.proofs.Written.{Appends-append, front_after, front_of_head, front_of_rest}

-- the line of a head and a word
abbrev line : List ℕ → List ℕ → List ℕ
line head word = head ++ 32 ∷ word ++ 10 ∷ []

pieces : (head word first : List ℕ) → first ≡ head ++ 32 ∷ [] → line head word ≡ first ++ (word ++ 10 ∷ [])
pieces head word first is =
    append_assoc head (32 ∷ word) (10 ∷ [])
    ∙ (sym (append_assoc head (32 ∷ []) (word ++ 10 ∷ [])) ∙ ap (λ l. l ++ (word ++ 10 ∷ [])) (sym is))

-- all but the line feed, and the line feed
two_pieces : (head word first : List ℕ) → first ≡ head ++ 32 ∷ [] → (first ++ word) ++ 10 ∷ [] ≡ line head word
two_pieces head word first is = append_assoc first word (10 ∷ []) ∙ sym (pieces head word first is)

module _ (a : Option (List ℕ)) (head word first : List ℕ) (is : first ≡ head ++ 32 ∷ []) where
  pub front_of_first : (b : Option (List ℕ)) → AppendsFront a b first → AppendsFront a b (line head word)
  front_of_first b h = subst (AppendsFront a b) (sym (pieces head word first is)) (front_of_head a b first (word ++ 10 ∷ []) h)

  pub front_of_word : (b c : Option (List ℕ)) → Appends a b first → AppendsFront b c word → AppendsFront a c (line head word)
  front_of_word b c h k = front_after a b c (line head word) first word (10 ∷ []) (pieces head word first is) h k

  pub front_of_end : (b c d : Option (List ℕ)) → Appends a b first → Appends b c word → AppendsFront c d (10 ∷ []) → AppendsFront a d (line head word)
  front_of_end b c d h k l = subst (AppendsFront a d) (two_pieces head word first is) (front_of_rest a c d (first ++ word) (10 ∷ []) (Appends-append a b c first word h k) l)

  pub all_pieces : (b c d : Option (List ℕ)) → Appends a b first → Appends b c word → Appends c d (10 ∷ []) → Appends a d (line head word)
  all_pieces b c d h k l = subst (Appends a d) (two_pieces head word first is) (Appends-append a c d (first ++ word) (10 ∷ []) (Appends-append a b c first word h k) l)
