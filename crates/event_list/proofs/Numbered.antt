-- The numbers of names stay, whatever names come after it.
use Rattle.std.proofs.Common.{◌≡◌, ◌≢◌, inl, inr, ℕ, suc, ◌+◌, ◌<◌, ◌≤◌, Bool, true, false, true≢false, cond, if◌then◌else◌, List, [], ◌∷◌, ◌++◌, length, map, refl, sym, ap, ap₂, ◌∙◌, subst, arith}
use Rattle.std.specs.Fmt.{decimal}
use Rattle.std.specs.Prelude.{not, ◌==◌, ◌&&◌, ◌||◌, flat_map, fold}
use Rattle.std.specs.List.{AllByRecursion, list_any, position_or_len, join_with_byte}
use Rattle.std.specs.Cmp.Lexicographic.{bytes_decides}
use Rattle.std.proofs.lemmas.Bool.Decides.{eqb_tells}
use Rattle.std.proofs.lemmas.List.{length-append, map-append}
use Rattle.std.proofs.lemmas.List.Sums.{fold-append}
use Rattle.indexmap.specs.IndexSet.{insert_key}
use Rattle.trace_types.specs.declared.event.Merged.{Merged}
use Rattle.trace_types.specs.declared.event.KernelEvent.{KernelEvent}
use Rattle.event_list.specs.declared.parsed_line.ParsedLine.{ParsedLine}
use Rattle.event_list.specs.declared.numbering.Numbering.{Numbering}
use Rattle.event_list.specs.Lines.{IsParsedLine, events_of, kind_words, line_text, name_at, parsed_text, IsKind}
use Rattle.event_list.specs.Names.{carries_name, names_at, names_of, names_parsed, numbered_in, same_name, with_number}
use Rattle.event_list.specs.Numbering.{Adds, IsHeld, IsNumbered}
use Rattle.event_list.specs.Order.{host_count, RiseFrom}
use Rattle.event_list.proofs.KindViews.{by_kind}

abbrev Names : Type 0
Names = List (List ℕ)

itself : (k : List ℕ) → same_name k k ≡ true
itself k = (bytes_decides k k).1 refl

same_is : (a b : List ℕ) → same_name a b ≡ true → a ≡ b
same_is a b h = (bytes_decides a b).0 h

-- ---- places in a list of names

place_kept : (k x : List ℕ) (ks : Names) → list_any (same_name k) ks ≡ true → (position_or_len (same_name k) (ks ++ x ∷ []) ≡ position_or_len (same_name k) ks) × (list_any (same_name k) (ks ++ x ∷ []) ≡ true)
place_kept k x [] h = absurd (true≢false (sym h))
place_kept k x (y ∷ ys) h = by (same_name k y) refl h (place_kept k x ys)
  where
    by : (b : Bool) → same_name k y ≡ b → (b || list_any (same_name k) ys) ≡ true
        → (list_any (same_name k) ys ≡ true → (position_or_len (same_name k) (ys ++ x ∷ []) ≡ position_or_len (same_name k) ys) × (list_any (same_name k) (ys ++ x ∷ []) ≡ true))
        → (cond (not (same_name k y)) (1 + position_or_len (same_name k) (ys ++ x ∷ [])) 0 ≡ cond (not (same_name k y)) (1 + position_or_len (same_name k) ys) 0) × ((same_name k y || list_any (same_name k) (ys ++ x ∷ [])) ≡ true)
    by true e h rest = (rw e refl, rw e refl)
    by false e h rest = let r = rest h in (rw e (ap (λ n. 1 + n) r.0), rw e r.1)

-- a name that is there keeps its place as another comes
pub kept : (k x : List ℕ) (ks : Names) → list_any (same_name k) ks ≡ true → (position_or_len (same_name k) (insert_key same_name ks x) ≡ position_or_len (same_name k) ks) × (list_any (same_name k) (insert_key same_name ks x) ≡ true)
kept k x ks h = by (list_any (same_name x) ks)
  where
    by : (b : Bool) → (position_or_len (same_name k) (if b then ks else ks ++ x ∷ []) ≡ position_or_len (same_name k) ks) × (list_any (same_name k) (if b then ks else ks ++ x ∷ []) ≡ true)
    by true = (refl, h)
    by false = place_kept k x ks h

-- a name that comes last has the place after the others
last_place : (k : List ℕ) (ks : Names) → list_any (same_name k) ks ≡ false → (position_or_len (same_name k) (ks ++ k ∷ []) ≡ position_or_len (same_name k) ks) × (list_any (same_name k) (ks ++ k ∷ []) ≡ true)
last_place k [] h = (rw (itself k) refl, rw (itself k) refl)
last_place k (y ∷ ys) h = by (same_name k y) refl h (last_place k ys)
  where
    by : (b : Bool) → same_name k y ≡ b → (b || list_any (same_name k) ys) ≡ false
        → (list_any (same_name k) ys ≡ false → (position_or_len (same_name k) (ys ++ k ∷ []) ≡ position_or_len (same_name k) ys) × (list_any (same_name k) (ys ++ k ∷ []) ≡ true))
        → (cond (not (same_name k y)) (1 + position_or_len (same_name k) (ys ++ k ∷ [])) 0 ≡ cond (not (same_name k y)) (1 + position_or_len (same_name k) ys) 0) × ((same_name k y || list_any (same_name k) (ys ++ k ∷ [])) ≡ true)
    by true e h rest = absurd (true≢false h)
    by false e h rest = let r = rest h in (rw e (ap (λ n. 1 + n) r.0), rw e r.1)

-- a name has the place that it had or was to have
pub own : (k : List ℕ) (ks : Names) → (position_or_len (same_name k) (insert_key same_name ks k) ≡ position_or_len (same_name k) ks) × (list_any (same_name k) (insert_key same_name ks k) ≡ true)
own k ks = by (list_any (same_name k) ks) refl
  where
    by : (b : Bool) → list_any (same_name k) ks ≡ b → (position_or_len (same_name k) (if list_any (same_name k) ks then ks else ks ++ k ∷ []) ≡ position_or_len (same_name k) ks) × (list_any (same_name k) (if list_any (same_name k) ks then ks else ks ++ k ∷ []) ≡ true)
    by true e = (rw e refl, rw (e, e) refl)
    by false e = rw e (last_place k ks e)

-- and at its place it stands
next_name : (y : List ℕ) (ys : Names) (n : ℕ) → name_at (y ∷ ys) (1 + n) ≡ name_at ys n
next_name y ys n = ap (name_at (y ∷ ys)) (one_more n)
  where
    one_more : (n : ℕ) → 1 + n ≡ suc n
    one_more n = omega arith

pub found_at : (k : List ℕ) (ks : Names) → list_any (same_name k) ks ≡ true → name_at ks (position_or_len (same_name k) ks) ≡ k
found_at k [] h = absurd (true≢false (sym h))
found_at k (y ∷ ys) h = by (same_name k y) refl h (found_at k ys)
  where
    by : (b : Bool) → same_name k y ≡ b → (b || list_any (same_name k) ys) ≡ true → (list_any (same_name k) ys ≡ true → name_at ys (position_or_len (same_name k) ys) ≡ k)
        → name_at (y ∷ ys) (cond (not (same_name k y)) (1 + position_or_len (same_name k) ys) 0) ≡ k
    by true e h rest = rw e (sym (same_is k y e))
    by false e h rest = rw e (next_name y ys (position_or_len (same_name k) ys) ∙ rest h)

-- ---- kinds

stays : (n : ℕ) (name : List ℕ) (k : KernelEvent) → IsKind name k → carries_name k ≡ false → with_number n k ≡ k
stays n name k h e = elim (by_kind name k h) [ inl p ↦ p.stays n | inr m ↦ absurd (true≢false (sym m.carried ∙ e)) ]

-- an event with the place of its name has its own line
kind_again : (names : Names) (name : List ℕ) (k : KernelEvent) → IsKind name k → (carries_name k ≡ true → list_any (same_name name) names ≡ true) → kind_words (name ∷ []) k ≡ kind_words names (with_number (position_or_len (same_name name) names) k)
kind_again names name k h held = elim (by_kind name k h) [ inl p ↦ (rw (p.stays (position_or_len (same_name name) names)) (p.words (name ∷ []) names)) | inr n ↦ n.again names _ (found_at name names (held n.carried)) ]

-- ---- lines and tables

-- the event of a line by its host's names
abbrev pub by_names : (ℕ → Names) → ParsedLine → Merged
by_names names t = numbered_in (names t.event.event.host) t

abbrev with_kind : ParsedLine → KernelEvent → Merged
with_kind t k = record { key = t.event.key; event = record { time = t.event.event.time; host = t.event.event.host; cpu = t.event.event.cpu; kind = k } }

-- where each name keeps its place, so does each event
same_event : (name_of name_to : ℕ → Names) (t : ParsedLine) → IsParsedLine t → (carries_name t.event.event.kind ≡ true → position_or_len (same_name t.name) (name_to t.event.event.host) ≡ position_or_len (same_name t.name) (name_of t.event.event.host)) → by_names name_to t ≡ by_names name_of t
same_event name_of name_to t is same = by (carries_name t.event.event.kind) refl
  where
    by : (b : Bool) → carries_name t.event.event.kind ≡ b → by_names name_to t ≡ by_names name_of t
    by true e = ap (with_kind t) (ap (λ n. with_number n t.event.event.kind) (same e))
    by false e = ap (with_kind t) (stays _ t.name t.event.event.kind is.kind e ∙ sym (stays _ t.name t.event.event.kind is.kind e))

-- told lines whose hosts' names grow
all_same : (name_of name_to : ℕ → Names) (ts : List ParsedLine) → AllByRecursion IsParsedLine ts → AllByRecursion (λ t. carries_name t.event.event.kind ≡ true → position_or_len (same_name t.name) (name_to t.event.event.host) ≡ position_or_len (same_name t.name) (name_of t.event.event.host)) ts → map (by_names name_to) ts ≡ map (by_names name_of) ts
all_same name_of name_to [] parsed same = refl
all_same name_of name_to (t ∷ ts) parsed same = ap₂ (λ m ms. m ∷ ms) (same_event name_of name_to t parsed.0 same.0) (all_same name_of name_to ts parsed.1 same.1)

-- the names of a host, with those of one more line
told_push : (h : ℕ) (ts : List ParsedLine) (t : ParsedLine) → names_parsed h (ts ++ t ∷ []) ≡ names_parsed h ts ++ names_parsed h (t ∷ [])
told_push h [] t = refl
told_push h (x ∷ xs) t = by ((x.event.event.host == h) && carries_name x.event.event.kind) (told_push h xs t)
  where
    by : (b : Bool) → names_parsed h (xs ++ t ∷ []) ≡ names_parsed h xs ++ names_parsed h (t ∷ []) → (if b then x.name ∷ names_parsed h (xs ++ t ∷ []) else names_parsed h (xs ++ t ∷ [])) ≡ (if b then x.name ∷ names_parsed h xs else names_parsed h xs) ++ names_parsed h (t ∷ [])
    by true e = ap (λ l. x.name ∷ l) e
    by false e = e

names_push : (h : ℕ) (ts : List ParsedLine) (t : ParsedLine) → names_of h (ts ++ t ∷ []) ≡ (if (t.event.event.host == h) && carries_name t.event.event.kind then insert_key same_name (names_of h ts) t.name else names_of h ts)
names_push h ts t = ap (fold (insert_key same_name) []) (told_push h ts t) ∙ (fold-append (insert_key same_name) [] (names_parsed h ts) (names_parsed h (t ∷ [])) ∙ by ((t.event.event.host == h) && carries_name t.event.event.kind))
  where
    by : (b : Bool) → fold (insert_key same_name) (names_of h ts) (if b then t.name ∷ [] else []) ≡ (if b then insert_key same_name (names_of h ts) t.name else names_of h ts)
    by true = refl
    by false = refl

-- one step: each name that is there keeps its place, and the new one has its own
grown : (k : List ℕ) (t : ParsedLine) (old new : Numbering) (h : ℕ) → Adds old t new → list_any (same_name k) (names_at old.tables.items h) ≡ true → (position_or_len (same_name k) (names_at new.tables.items h) ≡ position_or_len (same_name k) (names_at old.tables.items h)) × (list_any (same_name k) (names_at new.tables.items h) ≡ true)
grown k t old new h adds there = elim (eqb_tells h t.event.event.host) [ inl same ↦ here same.1 | inr other ↦ rw (adds.others h other.1) (refl, there) ]
  where
    here : h ≡ t.event.event.host → (position_or_len (same_name k) (names_at new.tables.items h) ≡ position_or_len (same_name k) (names_at old.tables.items h)) × (list_any (same_name k) (names_at new.tables.items h) ≡ true)
    here e = subst (λ h. list_any (same_name k) (names_at old.tables.items h) ≡ true → (position_or_len (same_name k) (names_at new.tables.items h) ≡ position_or_len (same_name k) (names_at old.tables.items h)) × (list_any (same_name k) (names_at new.tables.items h) ≡ true)) (sym e) there_too there
      where
        there_too : list_any (same_name k) (names_at old.tables.items t.event.event.host) ≡ true → (position_or_len (same_name k) (names_at new.tables.items t.event.event.host) ≡ position_or_len (same_name k) (names_at old.tables.items t.event.event.host)) × (list_any (same_name k) (names_at new.tables.items t.event.event.host) ≡ true)
        there_too g = rw adds.names (by (carries_name t.event.event.kind))
          where
            by : (b : Bool) → (position_or_len (same_name k) (if b then insert_key same_name (names_at old.tables.items t.event.event.host) t.name else names_at old.tables.items t.event.event.host) ≡ position_or_len (same_name k) (names_at old.tables.items t.event.event.host)) × (list_any (same_name k) (if b then insert_key same_name (names_at old.tables.items t.event.event.host) t.name else names_at old.tables.items t.event.event.host) ≡ true)
            by true = kept k t.name (names_at old.tables.items t.event.event.host) g
            by false = (refl, g)

all_held : (t : ParsedLine) (old new : Numbering) (ts : List ParsedLine) → Adds old t new → AllByRecursion (IsHeld (names_at old.tables.items)) ts
    → AllByRecursion (λ x. carries_name x.event.event.kind ≡ true → position_or_len (same_name x.name) (names_at new.tables.items x.event.event.host) ≡ position_or_len (same_name x.name) (names_at old.tables.items x.event.event.host)) ts × AllByRecursion (IsHeld (names_at new.tables.items)) ts
all_held t old new [] adds held = (tt, tt)
all_held t old new (x ∷ xs) adds held =
    let rest = all_held t old new xs adds held.1 in
    ((λ c. (grown x.name t old new x.event.event.host adds (held.0 c)).0, rest.0), (λ c. (grown x.name t old new x.event.event.host adds (held.0 c)).1, rest.1))

own_held : (t : ParsedLine) (old new : Numbering) → Adds old t new → carries_name t.event.event.kind ≡ true → (position_or_len (same_name t.name) (names_at new.tables.items t.event.event.host) ≡ position_or_len (same_name t.name) (names_at old.tables.items t.event.event.host)) × (list_any (same_name t.name) (names_at new.tables.items t.event.event.host) ≡ true)
own_held t old new adds c = rw (adds.names, c) (own t.name (names_at old.tables.items t.event.event.host))

all_push : (P : ParsedLine → Type 0) (xs : List ParsedLine) (t : ParsedLine) → AllByRecursion P xs → P t → AllByRecursion P (xs ++ t ∷ [])
all_push P [] t h p = (p, tt)
all_push P (x ∷ xs) t h p = (h.0, all_push P xs t h.1 p)

-- one more line
pub more_numbered : (ts : List ParsedLine) (t : ParsedLine) (old new : Numbering) → AllByRecursion IsParsedLine ts → IsParsedLine t → IsNumbered ts old → Adds old t new → IsNumbered (ts ++ t ∷ []) new
more_numbered ts t old new parsed is has adds =
    let held = all_held t old new ts adds has.held in
    let name_of = names_at old.tables.items in
    let name_to = names_at new.tables.items in
    record {
      events = adds.events ∙ (ap₂ (λ xs x. xs ++ x ∷ []) (has.events ∙ sym (all_same name_of name_to ts parsed held.0)) (sym (same_event name_of name_to t is (λ c. (own_held t old new adds c).0))) ∙ sym (map-append (by_names name_to) ts (t ∷ [])));
      names = λ h low. elim (eqb_tells t.event.event.host h) [ inl same ↦ here h low same.0 same.1 | inr other ↦ there h low other.0 other.1 ];
      held = all_push (IsHeld name_to) ts t held.1 (λ c. (own_held t old new adds c).1);
      tables = adds.tables;
    }
  where
    here : (h : ℕ) → h < 64 → (t.event.event.host == h) ≡ true → t.event.event.host ≡ h → names_at new.tables.items h ≡ names_of h (ts ++ t ∷ [])
    here h low b e = rw (names_push h ts t, b) (ap (names_at new.tables.items) (sym e) ∙ (adds.names ∙ by (carries_name t.event.event.kind)))
      where
        old_is : names_at old.tables.items t.event.event.host ≡ names_of h ts
        old_is = ap (names_at old.tables.items) e ∙ has.names h low

        by : (c : Bool) → (if c then insert_key same_name (names_at old.tables.items t.event.event.host) t.name else names_at old.tables.items t.event.event.host) ≡ (if true && c then insert_key same_name (names_of h ts) t.name else names_of h ts)
        by true = ap (λ l. insert_key same_name l t.name) old_is
        by false = old_is

    there : (h : ℕ) → h < 64 → (t.event.event.host == h) ≡ false → t.event.event.host ≢ h → names_at new.tables.items h ≡ names_of h (ts ++ t ∷ [])
    there h low b e = rw (names_push h ts t, b) (adds.others h (λ k. e (sym k)) ∙ has.names h low)

-- ---- the whole

-- each line is spelled again by its event and its host's names
pub again : (names : ℕ → Names) (ts : List ParsedLine) → AllByRecursion IsParsedLine ts → AllByRecursion (IsHeld names) ts → flat_map parsed_text ts ≡ flat_map (λ m. line_text (names m.event.host) m) (map (by_names names) ts)
again names [] parsed held = refl
again names (t ∷ ts) parsed held =
    let one : parsed_text t ≡ line_text (names t.event.event.host) (by_names names t) = ap (λ ws. join_with_byte 32 (decimal t.event.key ∷ decimal t.event.event.host ∷ decimal t.event.event.cpu ∷ decimal t.event.event.time ∷ ws) ++ 10 ∷ []) (kind_again (names t.event.event.host) t.name t.event.event.kind parsed.0.kind held.0) in
    ap₂ (λ a b. a ++ b) one (again names ts parsed.1 held.1)

-- names that agree below 64 give the same events
pub by_same : (f g : ℕ → Names) (ts : List ParsedLine) → AllByRecursion IsParsedLine ts → ((h : ℕ) → h < 64 → f h ≡ g h) → map (by_names f) ts ≡ map (by_names g) ts
by_same f g [] parsed e = refl
by_same f g (t ∷ ts) parsed e = ap₂ (λ m ms. m ∷ ms) (ap (λ names. numbered_in names t) (e t.event.event.host parsed.0.host)) (by_same f g ts parsed.1 e)

-- hosts are below 64
pub hosts_below : (names : ℕ → Names) (ts : List ParsedLine) → AllByRecursion IsParsedLine ts → AllByRecursion (λ m. m.event.host < 64) (map (by_names names) ts)
hosts_below names [] parsed = tt
hosts_below names (t ∷ ts) parsed = (parsed.0.host, hosts_below names ts parsed.1)

pub few_hosts : (ms : List Merged) → AllByRecursion (λ m. m.event.host < 64) ms → host_count ms ≤ 64
few_hosts [] h = omega arith
few_hosts (m ∷ ms) h = omega (arith, h.0, few_hosts ms h.1)

-- keys stay
pub still_rise : (names : ℕ → Names) (k : ℕ) (ts : List ParsedLine) → RiseFrom k (events_of ts) → RiseFrom k (map (by_names names) ts)
still_rise names k [] h = tt
still_rise names k (t ∷ ts) h = (h.0, still_rise names t.event.key ts h.1)

-- ---- a host has at most as many names as there are lines

few_more : (ks : Names) (k : List ℕ) → length (insert_key same_name ks k) ≤ length ks + 1
few_more ks k = by (list_any (same_name k) ks)
  where
    by : (b : Bool) → length (if b then ks else ks ++ k ∷ []) ≤ length ks + 1
    by true = omega arith
    by false = omega (arith, length-append ks (k ∷ []))

few_kept : (ks names : Names) → length (fold (insert_key same_name) ks names) ≤ length ks + length names
few_kept ks [] = omega arith
few_kept ks (k ∷ names) = omega (arith, few_more ks k, few_kept (insert_key same_name ks k) names)

few_told : (h : ℕ) (ts : List ParsedLine) → length (names_parsed h ts) ≤ length ts
few_told h [] = omega arith
few_told h (t ∷ ts) = by ((t.event.event.host == h) && carries_name t.event.event.kind) (few_told h ts)
  where
    by : (b : Bool) → length (names_parsed h ts) ≤ length ts → length (if b then t.name ∷ names_parsed h ts else names_parsed h ts) ≤ suc (length ts)
    by true few = omega (arith, few)
    by false few = omega (arith, few)

pub few_names : (h : ℕ) (ts : List ParsedLine) → length (names_of h ts) ≤ length ts
few_names h ts = omega (arith, few_kept [] (names_parsed h ts), few_told h ts)
