-- Parts that are decoded batch by batch, and how many events they have.
use Rattle.std.proofs.Common.{◌≡◌, ◌∙◌, ℕ, suc, ◌+◌, ◌-◌, ◌≤◌, ◌<◌, Bool, true, false, List, [], ◌∷◌, ◌++◌, append_assoc, All, drop, length, map, take, nat_le, Option, None, Some, if◌then◌else◌, refl, sym, ap, arith}
use Rattle.std.proofs.lemmas.Bool.{leb-false}
use Rattle.std.proofs.lemmas.List.{drop-drop, length-append, map-append, take-append-drop}
use Rattle.std.proofs.lemmas.List.Elements.{All-head, All-tail, All-take}
use Rattle.type_table.specs.TraceMetas.{TraceMetaModel}
use Rattle.trace_types.specs.declared.event.Event.{Event}
use Rattle.decode_pool.specs.declared.decoding.Job.{Job}
use Rattle.decode_pool.specs.declared.files.FileBytes.{FileBytes}
use Rattle.decode_pool.specs.declared.lost_events.Counts.{Counts}
use Rattle.decode_pool.specs.declared.lost_events.LostEvents.{LostEvents}
use Rattle.decode_pool.specs.declared.decoded_packet.AcceptedPacket.{AcceptedPacket}
use Rattle.decode_pool.specs.declared.decoded_packet.DecodedPacket.{DecodedPacket}
use Rattle.decode_pool.specs.declared.decoded_packet.DecodedPacket.TheVariants as part
use Rattle.decode_pool.specs.Excess.{events_in, kept_parts, least_events, part_events, part_within}
use Rattle.decode_pool.specs.Hosts.{all_events, all_parts}
use Rattle.decode_pool.specs.Jobs.{Allows, job_part, job_within}
use Rattle.decode_pool.specs.Marks.{added, added_by, plus_lost, counts_of, file_events, accepted_in, left, listed, mark, no_counts, nothing_lost}
use Rattle.decode_pool.specs.Parts.{parts_of}

-- ---- parts one after the other

pub events_append : (ps qs : List DecodedPacket) → events_in (ps ++ qs) ≡ events_in ps + events_in qs
events_append [] qs = omega arith
events_append (p ∷ ps) qs = let rest = events_append ps qs in omega (arith, rest)

pub kept_append : (ps qs : List (Option DecodedPacket)) → kept_parts (ps ++ qs) ≡ kept_parts ps ++ kept_parts qs
kept_append [] qs = refl
kept_append (Some p ∷ ps) qs = ap (λ l. p ∷ l) (kept_append ps qs)
kept_append (None ∷ ps) qs = kept_append ps qs

pub least_append : (most : ℕ) (ps qs : List (Option DecodedPacket)) → least_events most (ps ++ qs) ≡ least_events most ps + least_events most qs
least_append most [] qs = omega arith
least_append most (Some p ∷ ps) qs = let rest = least_append most ps qs in omega (arith, rest)
least_append most (None ∷ ps) qs = let rest = least_append most ps qs in omega (arith, rest)

-- ---- what isn't kept has too many events

-- how many events there are at least
least_of : ℕ → Option DecodedPacket → ℕ
least_of most (Some p) = part_events p
least_of most None = suc most

least_by : (most : ℕ) (x : Option DecodedPacket) (xs : List (Option DecodedPacket)) → least_events most (x ∷ xs) ≡ least_of most x + least_events most xs
unfolding least_of
least_by most (Some p) xs = refl
least_by most None xs = refl

one_within : (room most : ℕ) (p : DecodedPacket) → room ≤ most → least_of room (part_within most p) ≤ part_events p
unfolding least_of
one_within room most (part.Accepted k) few = by (nat_le (length k.events) most) refl
  where
    by : (b : Bool) → nat_le (length k.events) most ≡ b → least_of room (if b then Some (part.Accepted k) else None) ≤ length k.events
    by true e = omega arith
    by false e = let over = leb-false (length k.events) most e in omega (arith, over, few)
one_within room most (part.Refused offset cause) few = omega arith

pub at_least : (room most : ℕ) (jobs : List Job) → room ≤ most → All (Allows most) jobs → least_events room (map job_within jobs) ≤ events_in (map job_part jobs)
at_least room most [] few all = omega arith
at_least room most (j ∷ js) few all =
    let allowed : most ≤ j.most = All-head (Allows most) j js all in
    let here = one_within room j.most (job_part j) (omega (arith, few, allowed)) in
    let rest = at_least room most js few (All-tail (Allows most) j js all) in
    omega (arith, here, rest, least_by room (job_within j) (map job_within js))

-- where few are there, all are kept
one_kept : (room most : ℕ) (p : DecodedPacket) (qs : List (Option DecodedPacket)) (ps : List DecodedPacket) → least_events room (part_within most p ∷ qs) ≤ room → (least_events room qs ≤ room → kept_parts qs ≡ ps) → kept_parts (part_within most p ∷ qs) ≡ p ∷ ps
one_kept room most (part.Accepted k) qs ps few rest = by (nat_le (length k.events) most) few
  where
    by : (b : Bool) → least_events room ((if b then Some (part.Accepted k) else None) ∷ qs) ≤ room → kept_parts ((if b then Some (part.Accepted k) else None) ∷ qs) ≡ part.Accepted k ∷ ps
    by true h = ap (λ l. part.Accepted k ∷ l) (rest (omega (arith, h)))
    by false h = absurd (omega (arith, h))
one_kept room most (part.Refused offset cause) qs ps few rest = ap (λ l. part.Refused offset cause ∷ l) (rest (omega (arith, few)))

pub all_kept : (room : ℕ) (jobs : List Job) → least_events room (map job_within jobs) ≤ room → kept_parts (map job_within jobs) ≡ map job_part jobs
all_kept room [] few = refl
all_kept room (j ∷ js) few = one_kept room j.most (job_part j) (map job_within js) (map job_part js) few (all_kept room js)

one_counted : (room most : ℕ) (p : DecodedPacket) (qs : List (Option DecodedPacket)) (n : ℕ) → least_events room (part_within most p ∷ qs) ≤ room → (least_events room qs ≤ room → least_events room qs ≡ n) → least_events room (part_within most p ∷ qs) ≡ part_events p + n
one_counted room most (part.Accepted k) qs n few rest = by (nat_le (length k.events) most) few
  where
    by : (b : Bool) → least_events room ((if b then Some (part.Accepted k) else None) ∷ qs) ≤ room → least_events room ((if b then Some (part.Accepted k) else None) ∷ qs) ≡ length k.events + n
    by true h = ap (λ m. length k.events + m) (rest (omega (arith, h)))
    by false h = absurd (omega (arith, h))
one_counted room most (part.Refused offset cause) qs n few rest = let behind = rest (omega (arith, few)) in omega (arith, behind)

pub all_counted : (room : ℕ) (jobs : List Job) → least_events room (map job_within jobs) ≤ room → least_events room (map job_within jobs) ≡ events_in (map job_part jobs)
all_counted room [] few = refl
all_counted room (j ∷ js) few = one_counted room j.most (job_part j) (map job_within js) (events_in (map job_part js)) few (all_counted room js)

-- ---- the events of a host are at least as many as its parts have

added_more : (k : AcceptedPacket) (lost : LostEvents) (es : List Event) → length es ≤ length (added_by k lost es)
added_more k lost [] = omega arith
added_more k lost (e ∷ es) = omega (arith, length-append (mark k e lost) (e ∷ es))

listed_more : (ps : List DecodedPacket) (before : Counts) (lost : LostEvents) → events_in ps ≤ length (listed before lost (accepted_in ps))
listed_more [] before lost = omega arith
listed_more (part.Accepted k ∷ ps) before lost =
    let lost = plus_lost lost before (counts_of k) in
    let here : length k.events ≤ length (added k lost) = added_more k lost k.events in
    let rest = listed_more ps (counts_of k) (left k lost) in
    omega (arith, here, rest, length-append (added k lost) (listed (counts_of k) (left k lost) (accepted_in ps)))
listed_more (part.Refused offset cause ∷ ps) before lost = let rest = listed_more ps before lost in omega (arith, rest)

pub host_more : (host : ℕ) (meta : TraceMetaModel) (fs : List FileBytes) → events_in (all_parts host meta fs) ≤ length (all_events host meta fs)
host_more host meta [] = omega arith
host_more host meta (f ∷ fs) =
    let ps = parts_of host meta f.bytes.items in
    let here = listed_more ps no_counts nothing_lost in
    let rest = host_more host meta fs in
    omega (arith, here, rest, events_append ps (all_parts host meta fs), length-append (file_events ps) (all_events host meta fs))

-- ---- a batch more

pub batch_more : (jobs : List Job) (i n : ℕ) → map job_part (take n (drop i jobs)) ++ map job_part (drop (i + n) jobs) ≡ map job_part (drop i jobs)
batch_more jobs i n = sym (map-append job_part (take n (drop i jobs)) (drop (i + n) jobs)) ∙ ap (map job_part) (ap (λ l. take n (drop i jobs) ++ l) (sym (drop-drop n i jobs)) ∙ take-append-drop n (drop i jobs))

-- ---- the parts of a batch, one by one

abbrev Parts : Type 0
Parts = List (Option DecodedPacket)

pub none_left : (room : ℕ) (yielded rest now all : Parts) (x : Option DecodedPacket) → yielded ++ now ≡ all → now ≡ x ∷ rest → x ≡ None → room < least_events room all
none_left room yielded rest now all x e is none =
    let whole : all ≡ yielded ++ None ∷ rest = sym e ∙ (ap (λ l. yielded ++ l) is ∙ ap (λ y. yielded ++ y ∷ rest) none) in
    omega (arith, ap (least_events room) whole, least_append room yielded (None ∷ rest))

pub more_left : (room left n : ℕ) (p : DecodedPacket) (yielded rest now all : Parts) (x : Option DecodedPacket) → yielded ++ now ≡ all → now ≡ x ∷ rest → x ≡ Some p → left + least_events room yielded ≡ room → left < n → n ≡ part_events p → room < least_events room all
more_left room left n p yielded rest now all x e is some sum below size =
    let whole : all ≡ yielded ++ Some p ∷ rest = sym e ∙ (ap (λ l. yielded ++ l) is ∙ ap (λ y. yielded ++ y ∷ rest) some) in
    omega (arith, ap (least_events room) whole, least_append room yielded (Some p ∷ rest), sum, below, size)

pub kept_next : (p : DecodedPacket) (yielded : Parts) (before now after : List DecodedPacket) (x : Option DecodedPacket) → x ≡ Some p → now ≡ before ++ kept_parts yielded → after ≡ now ++ p ∷ [] → after ≡ before ++ kept_parts (yielded ++ x ∷ [])
kept_next p yielded before now after x some is pushed =
    pushed ∙ (ap (λ l. l ++ p ∷ []) is ∙ (append_assoc before (kept_parts yielded) (p ∷ []) ∙ sym (ap (λ y. before ++ kept_parts (yielded ++ y ∷ [])) some ∙ ap (λ l. before ++ l) (kept_append yielded (Some p ∷ [])))))

pub room_next : (room left n : ℕ) (p : DecodedPacket) (yielded : Parts) (x : Option DecodedPacket) → x ≡ Some p → left + least_events room yielded ≡ room → n ≤ left → n ≡ part_events p → left - n + least_events room (yielded ++ x ∷ []) ≡ room
room_next room left n p yielded x some sum within size =
    let next : least_events room (yielded ++ x ∷ []) ≡ least_events room yielded + (part_events p + 0) = ap (λ y. least_events room (yielded ++ y ∷ [])) some ∙ least_append room yielded (Some p ∷ []) in
    omega (arith, next, sum, within, size)

pub yields_next : (yielded rest now all : Parts) (x : Option DecodedPacket) → yielded ++ now ≡ all → now ≡ x ∷ rest → (yielded ++ x ∷ []) ++ rest ≡ all
yields_next yielded rest now all x e is = append_assoc yielded (x ∷ []) rest ∙ (sym (ap (λ l. yielded ++ l) is) ∙ e)

-- ---- what a batch adds

pub batch_parts : (jobs : List Job) (n room less : ℕ) (found : Parts) (before after : List DecodedPacket) → found ≡ map job_within (take n jobs) → after ≡ before ++ kept_parts found → less + least_events room found ≡ room → after ≡ before ++ map job_part (take n jobs)
batch_parts jobs n room less found before after is added sum =
    let few : least_events room (map job_within (take n jobs)) ≤ room = omega (arith, ap (least_events room) is, sum) in
    added ∙ ap (λ l. before ++ l) (ap kept_parts is ∙ all_kept room (take n jobs) few)

pub batch_room : (jobs : List Job) (n room less : ℕ) (found : Parts) → found ≡ map job_within (take n jobs) → less + least_events room found ≡ room → less + events_in (map job_part (take n jobs)) ≡ room
batch_room jobs n room less found is sum =
    let few : least_events room (map job_within (take n jobs)) ≤ room = omega (arith, ap (least_events room) is, sum) in
    omega (arith, ap (least_events room) is, sum, all_counted room (take n jobs) few)

front_fewer : (jobs : List Job) (n : ℕ) → events_in (map job_part (take n jobs)) ≤ events_in (map job_part jobs)
front_fewer jobs n =
    let whole : map job_part (take n jobs) ++ map job_part (drop n jobs) ≡ map job_part jobs = sym (map-append job_part (take n jobs) (drop n jobs)) ∙ ap (map job_part) (take-append-drop n jobs) in
    omega (arith, ap events_in whole, events_append (map job_part (take n jobs)) (map job_part (drop n jobs)))

pub batch_excess : (jobs : List Job) (n room : ℕ) (found : Parts) → found ≡ map job_within (take n jobs) → All (Allows room) jobs → room < least_events room found → room < events_in (map job_part jobs)
batch_excess jobs n room found is allowed many =
    let least = at_least room room (take n jobs) (omega arith) (All-take (Allows room) n jobs allowed) in
    omega (arith, many, ap (least_events room) is, least, front_fewer jobs n)

-- ---- a batch after those before

pub parts_next : (jobs : List Job) (i n : ℕ) (before after : List DecodedPacket) → after ≡ before ++ map job_part (take n (drop i jobs)) → before ++ map job_part (drop i jobs) ≡ map job_part jobs → after ++ map job_part (drop (i + n) jobs) ≡ map job_part jobs
parts_next jobs i n before after added so_far =
    ap (λ l. l ++ map job_part (drop (i + n) jobs)) added ∙ (append_assoc before (map job_part (take n (drop i jobs))) (map job_part (drop (i + n) jobs)) ∙ (ap (λ l. before ++ l) (batch_more jobs i n) ∙ so_far))

pub events_next : (jobs : List Job) (i n room less most : ℕ) → room + events_in (map job_part jobs) ≡ most + events_in (map job_part (drop i jobs)) → less + events_in (map job_part (take n (drop i jobs))) ≡ room → less + events_in (map job_part jobs) ≡ most + events_in (map job_part (drop (i + n) jobs))
events_next jobs i n room less most so_far sum =
    omega (arith, so_far, sum, ap events_in (batch_more jobs i n), events_append (map job_part (take n (drop i jobs))) (map job_part (drop (i + n) jobs)))
