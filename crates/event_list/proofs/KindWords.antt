-- The words of an event are that of its kind, and its fields.
use Rattle.std.proofs.Common.{◌≡◌, ◌≢◌, ◌+◌, ◌*◌, inl, inr, ℕ, List, [], ◌∷◌, length, take, drop, ◌-◌, get_or, Bor, Option, Some, None, ◌≤◌, arith, refl, sym, ap, ◌∙◌, subst, if◌then◌else◌}
use Rattle.std.specs.Prelude.{◌==◌}
use Rattle.std.proofs.Math.Seq.{take-length}
use Rattle.trace_types.specs.EventKinds.{kind_of_event, word_of}
use Rattle.trace_types.specs.declared.event.KernelEvent.{KernelEvent}
use Rattle.trace_types.specs.declared.event_kind.EventKind.{EventKind}
use Rattle.trace_types.specs.declared.event_kind.EventKind.TheVariants.{Switch, Wakeup, WakeupNew, Waking, Fork, Exit, Free, Migrate, IrqIn, IrqOut, SoftIn, SoftOut, Process, CallIn, CallOut, Send, Receive, DiskIssue, DiskDone, Lost, Other}
use Rattle.event_list.specs.declared.parsed_line.ParsedKind.{ParsedKind}
use Rattle.event_list.specs.Kinds.{IsOf}
use Rattle.event_list.specs.Lines.{IsKindLine}
use Rattle.event_list.specs.NamedKinds.{IsNamed, named_event}
use Rattle.event_list.proofs.KindViews.{IsNamedKind, IsPlainKind, by_kind}
use Rattle.event_list.proofs.WordLists.{word, texts}

-- length, fourth and first byte tell the words apart
unfoldable mark : List ℕ → ℕ
mark name = (length name * 256 + get_or name 3 0) * 256 + get_or name 0 0

kind_by : ℕ → EventKind
kind_by m =
    if m == 423027 then Switch else
    if m == 419191 then Wakeup else
    if m == 681335 then WakeupNew else
    if m == 420215 then Waking else
    if m == 289638 then Fork else
    if m == 291941 then Exit else
    if m == 288102 then Free else
    if m == 488045 then Migrate else
    if m == 404841 then IrqIn else
    if m == 470377 then IrqOut else
    if m == 488563 then SoftIn else
    if m == 554099 then SoftOut else
    if m == 484208 then Process else
    if m == 486499 then CallIn else
    if m == 552035 then CallOut else
    if m == 287859 then Send else
    if m == 484722 then Receive else
    if m == 682852 then DiskIssue else
    if m == 617316 then DiskDone else
    if m == 291948 then Lost else
    Other

is_kind_by : (kind : EventKind) → kind_by (mark (word_of kind)) ≡ kind
unfolding kind_by mark
is_kind_by Switch = refl
is_kind_by Wakeup = refl
is_kind_by WakeupNew = refl
is_kind_by Waking = refl
is_kind_by Fork = refl
is_kind_by Exit = refl
is_kind_by Free = refl
is_kind_by Migrate = refl
is_kind_by IrqIn = refl
is_kind_by IrqOut = refl
is_kind_by SoftIn = refl
is_kind_by SoftOut = refl
is_kind_by Process = refl
is_kind_by CallIn = refl
is_kind_by CallOut = refl
is_kind_by Send = refl
is_kind_by Receive = refl
is_kind_by DiskIssue = refl
is_kind_by DiskDone = refl
is_kind_by Lost = refl
is_kind_by Other = refl

pub same_word : (a b : EventKind) → word_of a ≡ word_of b → a ≡ b
same_word a b e = sym (is_kind_by a) ∙ (ap (λ l. kind_by (mark l)) e ∙ is_kind_by b)

pub first_is : (a b : List ℕ) (xs ys : List (List ℕ)) → a ∷ xs ≡ b ∷ ys → a ≡ b
first_is a b xs ys e = cc

pub rest_is : (a b : List ℕ) (xs ys : List (List ℕ)) → a ∷ xs ≡ b ∷ ys → xs ≡ ys
rest_is a b xs ys e = cc

pub none_or_some : {A : Type 0} (x : A) (o : Option A) → o ≡ None → o ≢ Some x
none_or_some x o none some = absurd (cc)

pub one_some : {A : Type 0} (x y : A) → Some x ≡ Some y → x ≡ y
one_some x y e = cc

-- ---- plain kinds

-- an event of the kind is spelled so
plain_line : (kind : EventKind) (fields : List (List ℕ)) (k : KernelEvent) → IsOf kind fields k → IsKindLine (word_of kind ∷ fields) (record { kind = k; name = [] })
plain_line Switch fields k (s, pt, nt, pp, np, pc, nc, is, e) = rw (e, is.spelled) (record { spelling = refl; is_kind = (refl, is.fit) })
plain_line Wakeup fields k (tid, comm, prio, cpu, is, e) = rw (e, is.spelled) (record { spelling = refl; is_kind = (refl, is.fit) })
plain_line WakeupNew fields k (tid, comm, prio, cpu, is, e) = rw (e, is.spelled) (record { spelling = refl; is_kind = (refl, is.fit) })
plain_line Waking fields k (tid, comm, prio, cpu, is, e) = rw (e, is.spelled) (record { spelling = refl; is_kind = (refl, is.fit) })
plain_line Fork fields k (parent, child, comm, is, e) = rw (e, is.spelled) (record { spelling = refl; is_kind = (refl, is.fit) })
plain_line Exit fields k (n, is, e) = rw (e, is.spelled) (record { spelling = refl; is_kind = (refl, is.below) })
plain_line Free fields k (n, is, e) = rw (e, is.spelled) (record { spelling = refl; is_kind = (refl, is.below) })
plain_line Migrate fields k (tid, cpu, is, e) = rw (e, is.spelled) (record { spelling = refl; is_kind = (refl, is.fit) })
plain_line IrqIn fields k (n, is, e) = rw (e, is.spelled) (record { spelling = refl; is_kind = (refl, is.below) })
plain_line IrqOut fields k (n, is, e) = rw (e, is.spelled) (record { spelling = refl; is_kind = (refl, is.below) })
plain_line SoftIn fields k (n, is, e) = rw (e, is.spelled) (record { spelling = refl; is_kind = (refl, is.below) })
plain_line SoftOut fields k (n, is, e) = rw (e, is.spelled) (record { spelling = refl; is_kind = (refl, is.below) })
plain_line Process fields k (tid, ppid, name, status, is, e) = rw (e, is.spelled) (record { spelling = refl; is_kind = (refl, is.fit) })
plain_line Send fields k (key, is, e) = rw (e, is.spelled) (record { spelling = refl; is_kind = (refl, is.fit) })
plain_line Receive fields k (key, is, e) = rw (e, is.spelled) (record { spelling = refl; is_kind = (refl, is.fit) })
plain_line DiskIssue fields k (sector, dev, count, is, e) = rw (e, is.spelled) (record { spelling = refl; is_kind = (refl, is.fit) })
plain_line DiskDone fields k (sector, dev, count, is, e) = rw (e, is.spelled) (record { spelling = refl; is_kind = (refl, is.fit) })
plain_line Lost fields k (events, gap, is, e) = rw (e, is.spelled) (record { spelling = refl; is_kind = (refl, is.fit) })
plain_line kind fields k h = absurd h

-- where the fields are of no event of the kind, the words are of no event
no_plain_line : (kind : EventKind) (fields : List (List ℕ)) → named_event kind ≡ None → ((k : KernelEvent) → ¬ (IsOf kind fields k)) → (t : ParsedKind) → ¬ (IsKindLine (word_of kind ∷ fields) t)
no_plain_line kind fields unnamed none t line = elim (by_kind t.name t.kind line.is_kind) [ inl p ↦ plainly p | inr n ↦ none_or_some _ _ (ap named_event (sym same) ∙ unnamed) n.named ]
  where
    same : kind ≡ kind_of_event t.kind
    same = same_word kind (kind_of_event t.kind) (first_is _ _ _ _ line.spelling)

    plainly : IsPlainKind t.name t.kind → ⊥
    plainly p = none t.kind (subst (λ w. IsOf w fields t.kind) (sym same) (subst (λ l. IsOf (kind_of_event t.kind) l t.kind) (sym (rest_is _ _ _ _ line.spelling)) (p.fields (t.name ∷ []))))

-- ---- kinds that carry names

-- a name that the kind may have is a line's
name_line : (kind : EventKind) (fields : List (List ℕ)) (event : KernelEvent) (name : List ℕ) → named_event kind ≡ Some event → IsNamed kind fields name → IsKindLine (word_of kind ∷ fields) (record { kind = event; name = name })
name_line CallIn fields event name e is = rw (sym (one_some _ _ e), is.spelled) (record { spelling = refl; is_kind = (refl, is.may, is.are_bytes) })
name_line CallOut fields event name e is = rw (sym (one_some _ _ e), is.spelled) (record { spelling = refl; is_kind = (refl, is.may, is.are_bytes) })
name_line Other fields event name e is = rw (sym (one_some _ _ e), is.spelled) (record { spelling = refl; is_kind = (refl, is.are_bytes) })
name_line kind fields event name e is = absurd (none_or_some event None refl e)

-- and with no such name no line begins so
no_name_line : (kind : EventKind) (fields : List (List ℕ)) (event : KernelEvent) → named_event kind ≡ Some event → ((name : List ℕ) → ¬ (IsNamed kind fields name)) → (t : ParsedKind) → ¬ (IsKindLine (word_of kind ∷ fields) t)
no_name_line kind fields event named none t line = elim (by_kind t.name t.kind line.is_kind) [ inl p ↦ none_or_some event _ p.unnamed (ap named_event (sym same) ∙ named) | inr n ↦ of_name n ]
  where
    same : kind ≡ kind_of_event t.kind
    same = same_word kind (kind_of_event t.kind) (first_is _ _ _ _ line.spelling)

    of_name : IsNamedKind t.name t.kind → ⊥
    of_name n = none t.name (subst (λ w. IsNamed w fields t.name) (sym same) (subst (λ l. IsNamed (kind_of_event t.kind) l t.name) (sym (rest_is _ _ _ _ line.spelling)) n.field))

-- ---- the same of the words as the code holds them

pub none_at_all : (ws : List (Bor (List ℕ))) → length ws ≡ 0 → (t : ParsedKind) → ¬ (IsKindLine (texts ws) t)
none_at_all [] e t line = empty _ _ line.spelling
  where
    empty : (a : List ℕ) (xs : List (List ℕ)) → [] ≢ a ∷ xs
    empty a xs e = absurd (cc)
none_at_all (w ∷ ws) e t line = absurd (omega (arith, e))

pub no_word_there : (ws : List (Bor (List ℕ))) → 1 ≤ length ws → ((kind : EventKind) → word ws 0 ≢ word_of kind) → (t : ParsedKind) → ¬ (IsKindLine (texts ws) t)
no_word_there [] some none t line = absurd (omega arith)
no_word_there (v ∷ vs) some none t line = none (kind_of_event t.kind) (first_is _ _ _ _ line.spelling)

all : (v : Bor (List ℕ)) (vs : List (Bor (List ℕ))) → take (length (v ∷ vs) - 1) vs ≡ vs
all v vs = ap (λ n. take n vs) (omega arith) ∙ take-length vs

abbrev pub fields_in : List (Bor (List ℕ)) → List (List ℕ)
fields_in ws = texts (take (length ws - 1) (drop 1 ws))

pub plain_there : (ws : List (Bor (List ℕ))) (kind : EventKind) (k : KernelEvent) → 1 ≤ length ws → word ws 0 ≡ word_of kind → IsOf kind (fields_in ws) k → IsKindLine (texts ws) (record { kind = k; name = [] })
plain_there [] kind k some is of = absurd (omega arith)
plain_there (v ∷ vs) kind k some is of = subst (λ l. IsKindLine (l ∷ texts vs) (record { kind = k; name = [] })) (sym is) (plain_line kind (texts vs) k (subst (λ l. IsOf kind (texts l) k) (all v vs) of))

pub no_plain_there : (ws : List (Bor (List ℕ))) (kind : EventKind) → 1 ≤ length ws → word ws 0 ≡ word_of kind → named_event kind ≡ None → ((k : KernelEvent) → ¬ (IsOf kind (fields_in ws) k)) → (t : ParsedKind) → ¬ (IsKindLine (texts ws) t)
no_plain_there [] kind some is unnamed none t line = absurd (omega arith)
no_plain_there (v ∷ vs) kind some is unnamed none t line = no_plain_line kind (texts vs) unnamed (subst (λ l. (k : KernelEvent) → ¬ (IsOf kind (texts l) k)) (all v vs) none) t (subst (λ l. IsKindLine (l ∷ texts vs) t) is line)

pub name_there : (ws : List (Bor (List ℕ))) (kind : EventKind) (event : KernelEvent) (name : List ℕ) → 1 ≤ length ws → word ws 0 ≡ word_of kind → named_event kind ≡ Some event → IsNamed kind (fields_in ws) name → IsKindLine (texts ws) (record { kind = event; name = name })
name_there [] kind event name some is named of = absurd (omega arith)
name_there (v ∷ vs) kind event name some is named of = subst (λ l. IsKindLine (l ∷ texts vs) (record { kind = event; name = name })) (sym is) (name_line kind (texts vs) event name named (subst (λ l. IsNamed kind (texts l) name) (all v vs) of))

pub no_name_there : (ws : List (Bor (List ℕ))) (kind : EventKind) (event : KernelEvent) → 1 ≤ length ws → word ws 0 ≡ word_of kind → named_event kind ≡ Some event → ((name : List ℕ) → ¬ (IsNamed kind (fields_in ws) name)) → (t : ParsedKind) → ¬ (IsKindLine (texts ws) t)
no_name_there [] kind event some is named none t line = absurd (omega arith)
no_name_there (v ∷ vs) kind event some is named none t line = no_name_line kind (texts vs) event named (subst (λ l. (name : List ℕ) → ¬ (IsNamed kind (texts l) name)) (all v vs) none) t (subst (λ l. IsKindLine (l ∷ texts vs) t) is line)
