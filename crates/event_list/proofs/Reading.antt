-- What stands when some lines of a text were read.
use Rattle.std.proofs.Common.{◌≡◌, ◌≢◌, ap₂, ℕ, ◌<◌, ◌≤◌, ◌^◌, List, [], ◌∷◌, ◌++◌, length, length-append, ◌+◌, refl, sym, ap, ◌∙◌, subst, append_assoc, append-nil, arith, rules, codes, Bool, true, false, not, eqb}
use Rattle.std.specs.Cmp.Lexicographic.{pointwise, bytes_decides}
use Rattle.std.specs.Prelude.{flat_map, ◌==◌}
use Rattle.std.specs.List.{AllByRecursion, slice_split, join_with_byte}
use Rattle.std.proofs.lemmas.List.Splits.{join_with_byte-slice_split}
use Rattle.event_list.specs.declared.parsed_line.ParsedLine.{ParsedLine}
use Rattle.trace_types.proofs.Decimals.{same_number, below_wide}
use Rattle.trace_types.specs.declared.limits.TheConstants.{MAX_EVENTS}
use Rattle.event_list.specs.Lines.{parsed_words, parsed_text, events_of, first_line, AreLines, EndsBehind, HasMany, IsLine, IsParsedLine}
use Rattle.std.proofs.lemmas.Grind.{flat_map-append}
use Rattle.event_list.specs.Order.{RiseFrom}
use Rattle.trace_types.proofs.Cutting.{same_front, has_end}
use Rattle.event_list.proofs.Spelling.{NoEnd, are_words, split_joined, joined_no_end}

-- the line of this event, whose key is at least so much, stands at the front
pub record Begins (least : ℕ) (rest : List ℕ) (m : ParsedLine) : Type 0 where
  pub after : List ℕ
  pub spelling : rest ≡ parsed_text m ++ after
  pub is_parsed_line : IsParsedLine m
  pub rises : least ≤ m.event.key

abbrev begins : (least : ℕ) (rest : List ℕ) (n : ParsedLine) (ns : List ParsedLine) → AreLines least (n ∷ ns) rest → Begins least rest n
begins least rest n ns g = record { after = flat_map parsed_text ns; spelling = g.spelling; is_parsed_line = g.each.0; rises = g.order.0 }

-- the events of the lines before the rest: with events of the rest they are events of the whole, and every reading of the whole goes on so
pub record HasRead (whole : List ℕ) (events : List ParsedLine) (least : ℕ) (rest : List ℕ) : Type 0 where
  pub goes_on : (more : List ParsedLine) → AreLines least more rest → AreLines 0 (events ++ more) whole
  pub only : (others : List ParsedLine) → AreLines 0 others whole → (more : List ParsedLine) × AreLines least more rest × (length others ≡ length events + length more)
  pub front : List ℕ
  pub parts : whole ≡ front ++ rest
  pub lines : AreLines 0 events front
  pub last : (m : ParsedLine) → (least ≤ m.event.key → RiseFrom 0 (events_of (events ++ m ∷ []))) × (RiseFrom 0 (events_of (events ++ m ∷ [])) → least ≤ m.event.key)

pub nothing_read : (whole : List ℕ) → HasRead whole [] 0 whole
nothing_read whole = record {
  goes_on = λ more h. h;
  only = λ others h. (others, h, omega arith);
  front = [];
  parts = refl;
  lines = record { spelling = refl; each = tt; order = tt };
  last = λ m. ((λ h. (omega arith, tt)), λ h. omega arith);
}

-- all is read
pub all_read : (whole : List ℕ) (events : List ParsedLine) (least : ℕ) (rest : List ℕ) → HasRead whole events least rest → length rest ≡ 0 → AreLines 0 events whole
all_read whole events least [] h e = subst (λ l. AreLines 0 l whole) (append-nil events) (h.goes_on [] (record { spelling = refl; each = tt; order = tt }))
all_read whole events least (x ∷ xs) h e = absurd (omega arith)

-- where the rest begins with no line, the whole is no list of lines
pub stuck : (whole : List ℕ) (events : List ParsedLine) (least : ℕ) (rest : List ℕ) → HasRead whole events least rest → 0 < length rest
    → ((n : ParsedLine) → ¬ (Begins least rest n)) → (others : List ParsedLine) → ¬ (AreLines 0 others whole)
stuck whole events least rest h some none others lines = by (h.only others lines).0 (h.only others lines).1
  where
    by : (more : List ParsedLine) → AreLines least more rest → ⊥
    by [] g = omega (arith, ap length g.spelling)
    by (n ∷ ns) g = none n (begins least rest n ns g)

all_one : (events : List ParsedLine) (m : ParsedLine) → AllByRecursion IsParsedLine (events ++ m ∷ []) → IsParsedLine m
all_one [] m h = h.0
all_one (n ∷ ns) m h = all_one ns m h.1

one_all : (events : List ParsedLine) (m : ParsedLine) → AllByRecursion IsParsedLine events → IsParsedLine m → AllByRecursion IsParsedLine (events ++ m ∷ [])
one_all [] m h g = (g, tt)
one_all (n ∷ ns) m h g = (h.0, one_all ns m h.1 g)

-- and the line after the events is the first bad one
pub stuck_there : (whole : List ℕ) (events : List ParsedLine) (least : ℕ) (rest : List ℕ) → HasRead whole events least rest → length events ≤ MAX_EVENTS → ((n : ParsedLine) → ¬ (Begins least rest n)) → EndsBehind whole events
stuck_there whole events least rest h few none = record {
  front = h.front;
  rest = rest;
  parts = h.parts;
  lines = h.lines;
  few = few;
  no_more = λ m after e g. none m (record { after = after; spelling = e; is_parsed_line = all_one events m g.each; rises = (h.last m).1 g.order });
}

line_is : (m : ParsedLine) → parsed_text m ≡ join_with_byte 32 (parsed_words m) ++ 10 ∷ []
line_is m = refl

pub line_and : (m : ParsedLine) (after : List ℕ) → parsed_text m ++ after ≡ join_with_byte 32 (parsed_words m) ++ 10 ∷ after
line_and m after = append_assoc (join_with_byte 32 (parsed_words m)) (10 ∷ []) after

-- of a rest that is a line and more
first_is : (rest line after : List ℕ) (least : ℕ) (n : ParsedLine) → rest ≡ line ++ 10 ∷ after → NoEnd line → (g : Begins least rest n)
    → (line ≡ join_with_byte 32 (parsed_words n)) × (after ≡ g.after)
first_is rest line after least n e ends g =
    same_front 10 line (join_with_byte 32 (parsed_words n)) after g.after ends (joined_no_end (parsed_words n) (are_words n g.is_parsed_line))
    (sym e ∙ (g.spelling ∙ line_and n g.after))

words_are : (rest line after : List ℕ) (least : ℕ) (n : ParsedLine) → rest ≡ line ++ 10 ∷ after → NoEnd line → Begins least rest n → slice_split (λ b. b == 32) line ≡ parsed_words n
words_are rest line after least n e ends g = ap (slice_split (λ b. b == 32)) (first_is rest line after least n e ends g).0 ∙ split_joined _ _ (are_words n g.is_parsed_line)

pub no_end : (rest : List ℕ) (least : ℕ) → NoEnd rest → (n : ParsedLine) → ¬ (Begins least rest n)
no_end rest least ends n g = has_end 10 (join_with_byte 32 (parsed_words n)) g.after (subst NoEnd (g.spelling ∙ line_and n g.after) ends)

pub no_event : (rest line after : List ℕ) (least : ℕ) (words : List (List ℕ)) → rest ≡ line ++ 10 ∷ after → NoEnd line → words ≡ slice_split (λ b. b == 32) line → ((m : ParsedLine) → ¬ (IsLine words m)) → (n : ParsedLine) → ¬ (Begins least rest n)
no_event rest line after least words e ends w none n g = none n (record { spelling = w ∙ words_are rest line after least n e ends g; is_parsed_line = g.is_parsed_line })

same_key : (m n : ParsedLine) → IsParsedLine m → IsParsedLine n → parsed_words m ≡ parsed_words n → m.event.key ≡ n.event.key
same_key m n h g e = same_number m.event.key n.event.key (below_wide m.event.key (2 ^ 62) h.key (omega arith)) (below_wide n.event.key (2 ^ 62) g.key (omega arith)) (cc)

pub key_falls : (rest line after : List ℕ) (least : ℕ) (words : List (List ℕ)) (m : ParsedLine) → rest ≡ line ++ 10 ∷ after → NoEnd line → words ≡ slice_split (λ b. b == 32) line → IsLine words m → m.event.key < least → (n : ParsedLine) → ¬ (Begins least rest n)
key_falls rest line after least words m e ends w is falls n g =
    let same : m.event.key ≡ n.event.key = same_key m n is.is_parsed_line g.is_parsed_line (sym is.spelling ∙ (w ∙ words_are rest line after least n e ends g)) in
    omega (arith, same, falls, g.rises)

-- keys that rise, with one more at the end
rise_push : (k : ℕ) (xs : List ParsedLine) (n m : ParsedLine) → RiseFrom k (events_of (xs ++ n ∷ [])) → n.event.key ≤ m.event.key → RiseFrom k (events_of ((xs ++ n ∷ []) ++ m ∷ []))
rise_push k [] n m h g = (h.0, (g, tt))
rise_push k (x ∷ xs) n m h g = (h.0, rise_push x.event.key xs n m h.1 g)

rise_last : (k : ℕ) (xs : List ParsedLine) (n m : ParsedLine) → RiseFrom k (events_of ((xs ++ n ∷ []) ++ m ∷ [])) → n.event.key ≤ m.event.key
rise_last k [] n m h = h.1.0
rise_last k (x ∷ xs) n m h = rise_last x.event.key xs n m h.1

pub nonempty : (xs ys : List ℕ) → xs ++ 10 ∷ ys ≡ [] → ⊥
nonempty [] ys e = absurd (cc)
nonempty (x ∷ xs) ys e = absurd (cc)

-- one more line
pub more_read : (whole : List ℕ) (events : List ParsedLine) (least : ℕ) (rest line after : List ℕ) (words : List (List ℕ)) (m : ParsedLine) → HasRead whole events least rest → rest ≡ line ++ 10 ∷ after → NoEnd line → words ≡ slice_split (λ b. b == 32) line → IsLine words m → least ≤ m.event.key → HasRead whole (events ++ m ∷ []) m.event.key after
more_read whole events least rest line after words m h e ends w is rises = record {
  goes_on = forward;
  only = back;
  front = h.front ++ parsed_text m;
  parts = h.parts ∙ (ap (λ l. h.front ++ l) (e ∙ ((λ i. line_of i ++ 10 ∷ after) ∙ sym (line_and m after))) ∙ sym (append_assoc h.front (parsed_text m) after));
  lines = record {
    spelling = ap₂ (λ a b. a ++ b) h.lines.spelling (sym (append-nil (parsed_text m))) ∙ sym (flat_map-append parsed_text events (m ∷ []));
    each = one_all events m h.lines.each is.is_parsed_line;
    order = (h.last m).0 rises;
  };
  last = λ n. (rise_push 0 events m n ((h.last m).0 rises), rise_last 0 events m n);
}
  where
    line_of : line ≡ join_with_byte 32 (parsed_words m)
    line_of = sym (join_with_byte-slice_split 32 line) ∙ ap (join_with_byte 32) (sym w ∙ is.spelling)

    forward : (more : List ParsedLine) → AreLines m.event.key more after → AreLines 0 ((events ++ m ∷ []) ++ more) whole
    forward more g = rw append_assoc (h.goes_on (m ∷ more) (record {
      spelling = e ∙ ((λ i. line_of i ++ 10 ∷ g.spelling i) ∙ sym (append_assoc (join_with_byte 32 (parsed_words m)) (10 ∷ []) (flat_map parsed_text more)));
      each = (is.is_parsed_line, g.each);
      order = (rises, g.order);
    }))

    by : (count : ℕ) (more : List ParsedLine) → AreLines least more rest → count ≡ length events + length more → (ns : List ParsedLine) × AreLines m.event.key ns after × (count ≡ length (events ++ m ∷ []) + length ns)
    by count [] g size = absurd (nonempty line after (sym e ∙ g.spelling))
    by count (n ∷ ns) g size = (
      ns,
      record {
        spelling = (first_is rest line after least n e ends (begins least rest n ns g)).1;
        each = g.each.1;
        order = subst (λ k. RiseFrom k (events_of ns)) (sym (same_key m n is.is_parsed_line g.each.0 (sym is.spelling ∙ (w ∙ words_are rest line after least n e ends (begins least rest n ns g))))) g.order.1;
      },
      omega (arith, size, length-append events (m ∷ [])),
    )

    back : (others : List ParsedLine) → AreLines 0 others whole → (ns : List ParsedLine) × AreLines m.event.key ns after × (length others ≡ length (events ++ m ∷ []) + length ns)
    back others g = let o = h.only others g in by (length others) o.0 o.1 o.2

-- lines that are too many
pub crowded : (whole : List ℕ) (events : List ParsedLine) (least : ℕ) (rest : List ℕ) → HasRead whole events least rest → MAX_EVENTS < length events → HasMany whole
crowded whole events least rest h many = record { front = h.front; rest = rest; parts = h.parts; parsed_lines = events; lines = h.lines; many = many }

pub all_crowded : (whole : List ℕ) (events : List ParsedLine) (least : ℕ) (rest : List ℕ) → HasRead whole events least rest → MAX_EVENTS < length events → (others : List ParsedLine) → AreLines 0 others whole → MAX_EVENTS < length others
all_crowded whole events least rest h many others g = omega (arith, many, (h.only others g).2)

-- a text with another first line is no event list
pub other_first : (bytes first text : List ℕ) (b : Bool) → bytes ≡ first ++ 10 ∷ text → NoEnd first → b ≡ not (pointwise eqb first (codes "hosttrace events 1")) → b ≡ true → (other : List ℕ) → bytes ≢ first_line ++ other
other_first bytes first text b e ends ne is other begun =
    let same = (same_front 10 first (codes "hosttrace events 1") text other ends (search rules) (sym e ∙ begun)).0 in
    differ (pointwise eqb first (codes "hosttrace events 1")) ((bytes_decides first (codes "hosttrace events 1")).1 same) (sym ne ∙ is)
  where
    differ : (b : Bool) → b ≡ true → not b ≡ true → ⊥
    differ true e f = absurd (cc)
    differ false e f = absurd (cc)

-- no line feed at all: no first line
pub no_first : (bytes : List ℕ) → NoEnd bytes → (other : List ℕ) → bytes ≢ first_line ++ other
no_first bytes ends other e = has_end 10 (codes "hosttrace events 1") other (subst NoEnd e ends)

-- and one with this first line begins as one
pub begins_so : (bytes first text : List ℕ) (b : Bool) → bytes ≡ first ++ 10 ∷ text → b ≡ not (pointwise eqb first (codes "hosttrace events 1")) → b ≡ false → bytes ≡ first_line ++ text
begins_so bytes first text b e ne is = e ∙ ap (λ l. l ++ 10 ∷ text) ((bytes_decides first (codes "hosttrace events 1")).0 (same (pointwise eqb first (codes "hosttrace events 1")) (sym ne ∙ is)))
  where
    same : (b : Bool) → not b ≡ false → b ≡ true
    same true e = refl
    same false e = absurd (cc)
