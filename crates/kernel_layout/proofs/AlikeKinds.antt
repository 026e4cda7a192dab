-- Kernel events are the same by two representations of one trace.
use Rattle.std.proofs.Common.{◌≡◌, ◌∙◌, ℕ, zero, suc, ℤ, pos, neg_ℤ, ◌*◌, ◌^◌, not, ◌&&◌, if◌then◌else◌, nat_le, List, [], ◌∷◌, codes, length, map, take, Option, Some, None, option_map, slice_get, unwrap_or, refl, sym, ap, ap₂}
use Rattle.trace_types.specs.Padding.{name_in}
use Rattle.trace_types.specs.declared.event.KernelEvent.TheVariants as kind
use Rattle.type_table.specs.SameTrace.{AreBoth, IsSameEvent, IsSameTrace}
use Rattle.type_table.specs.Table.{Table, IsSoundTable}
use Rattle.type_table.specs.TraceMetas.{IsSoundMeta, TraceMetaModel}
use Rattle.type_table.specs.declared.integer.Integer.{Integer}
use Rattle.type_table.specs.declared.declared.EventId.{EventId}
use Rattle.type_table.specs.declared.declared.EventParts.{EventParts}
use Rattle.ctf_fields.specs.declared.field.Field.{Field, out-Field}
use Rattle.ctf_fields.specs.declared.raw.RawEvent.{RawEvent}
use Rattle.ctf_fields.specs.Fields.{number_of}
use Rattle.ctf_fields.specs.Reading.{integer_type}
use Rattle.ctf_fields.specs.Values.{below_if_any}
use Rattle.ctf_fields.proofs.Alike.{Alike, ints, texts, structs, choices, lists, AlikeItems, no_items, and_item, AlikeIf, AlikeNumbers}
use Rattle.ctf_fields.proofs.AlikeFields.{first_alike, number_alike, value_alike}
use Rattle.ctf_fields.proofs.SameTypes.{same_integer}
use Rattle.trace_types.specs.declared.event_kind.EventKind.{EventKind}
use Rattle.trace_types.specs.declared.event_kind.EventKind.TheVariants as event_kind
use Rattle.kernel_layout.specs.Kinds.{disk_request, event_of, fork, kind_by, kind_of, migrate, name_of, or_other, other_event_of, priority, process, segment, state, switch, wakeup_fields}
use Rattle.kernel_layout.specs.Needed.{address, address_by, address_in, and_then, between, byte_in, byte_of, comm, comm_in, followed, is_byte, joined, list_address, lone_address, name_by, number, of_16, of_32, of_64, small}
use Rattle.kernel_layout.specs.Tracepoints.{kinds_of, kind_named}

-- ---- what a list of numbers spells

module _ (t u : Table) where
  byte_by : (n m : Option (ℤ × ℕ)) → AlikeNumbers t u n m → byte_in n ≡ byte_in m
  byte_by None None h = refl
  byte_by None (Some m) h = absurd h
  byte_by (Some n) None h = absurd h
  byte_by (Some n) (Some m) h = ap (λ z. byte_in (Some (z, n.1))) h.0

  bytes_alike : (xs ys : List Field) → AlikeItems t u xs ys → map byte_of xs ≡ map byte_of ys
  bytes_alike xs ys no_items = refl
  bytes_alike xs ys (and_item x y xs2 ys2 h rest) = ap₂ (λ b bs. b ∷ bs) (byte_by _ _ (number_alike t u (Some x) (Some y) h)) (bytes_alike xs2 ys2 rest)

  length_alike : (xs ys : List Field) → AlikeItems t u xs ys → length xs ≡ length ys
  length_alike xs ys no_items = refl
  length_alike xs ys (and_item x y xs2 ys2 h rest) = ap suc (length_alike xs2 ys2 rest)

  followed_by : (size v : ℕ) (n m : Option (ℤ × ℕ)) → AlikeNumbers t u n m → followed size v n ≡ followed size v m
  followed_by size v None None h = refl
  followed_by size v None (Some m) h = absurd h
  followed_by size v (Some n) None h = absurd h
  followed_by size v (Some n) (Some m) h = ap (λ z. followed size v (Some (z, n.1))) h.0

  same_next : (size : ℕ) (o : Option ℕ) (f g : ℕ → Option ℕ) → ((w : ℕ) → f w ≡ g w) → and_then o f ≡ and_then o g
  same_next size None f g h = refl
  same_next size (Some w) f g h = h w

  joined_alike : (size v : ℕ) (xs ys : List Field) → AlikeItems t u xs ys → joined size v xs ≡ joined size v ys
  joined_alike size v xs ys no_items = refl
  joined_alike size v xs ys (and_item x y xs2 ys2 h rest) =
      ap (λ o. and_then o (λ w. joined size w xs2)) (followed_by size v _ _ (number_alike t u (Some x) (Some y) h))
      ∙ same_next size (followed size v (number_of (Some y))) (λ w. joined size w xs2) (λ w. joined size w ys2) (λ w. joined_alike size w xs2 ys2 rest)

-- ---- what fields of a name hold

module _ (t u : Table) (st : IsSoundTable t) (su : IsSoundTable u) where
  name_alike : (f g : Field) → Alike t u f g → name_by t (out-Field f) ≡ name_by u (out-Field g)
  name_alike f g (ints f2 g2 a b z s e d) = ap (name_by t) e ∙ sym (ap (name_by u) d)
  name_alike f g (texts f2 g2 text e d) = ap (name_by t) e ∙ sym (ap (name_by u) d)
  name_alike f g (structs f2 g2 ms ns h e d) = ap (name_by t) e ∙ sym (ap (name_by u) d)
  name_alike f g (choices f2 g2 a b x y n h e d) = ap (name_by t) e ∙ sym (ap (name_by u) d)
  name_alike f g (lists f2 g2 a b xs ys s h e d) =
      ap (name_by t) e ∙ (ap₂ (λ i bs. if is_byte i then Some (take 15 (name_in bs)) else None) (same_integer t u a b st su s) (bytes_alike t u xs ys h) ∙ sym (ap (name_by u) d))

  comm_in_alike : (f g : Option Field) → AlikeIf t u f g → comm_in t f ≡ comm_in u g
  comm_in_alike None None h = refl
  comm_in_alike None (Some g) h = absurd h
  comm_in_alike (Some f) None h = absurd h
  comm_in_alike (Some f) (Some g) h = name_alike f g h

  list_address_by : (i : Option Integer) (xs ys : List Field) → AlikeItems t u xs ys → list_address i xs ≡ list_address i ys
  list_address_by None xs ys h = refl
  list_address_by (Some i) xs ys h = ap₂ (λ n a. if not i.signed && nat_le (i.size * n) 128 then a else None) (length_alike t u xs ys h) (joined_alike t u i.size 0 xs ys h)

  address_alike : (f g : Field) → Alike t u f g → address_by t (out-Field f) ≡ address_by u (out-Field g)
  address_alike f g (ints f2 g2 a b z s e d) = ap (address_by t) e ∙ (ap (λ i. lone_address i z) (same_integer t u a b st su s) ∙ sym (ap (address_by u) d))
  address_alike f g (texts f2 g2 text e d) = ap (address_by t) e ∙ sym (ap (address_by u) d)
  address_alike f g (structs f2 g2 ms ns h e d) = ap (address_by t) e ∙ sym (ap (address_by u) d)
  address_alike f g (choices f2 g2 a b x y n h e d) = ap (address_by t) e ∙ sym (ap (address_by u) d)
  address_alike f g (lists f2 g2 a b xs ys s h e d) =
      ap (address_by t) e ∙ (ap (λ i. list_address i xs) (same_integer t u a b st su s) ∙ (list_address_by (integer_type u b) xs ys h ∙ sym (ap (address_by u) d)))

  address_in_alike : (f g : Option Field) → AlikeIf t u f g → address_in t f ≡ address_in u g
  address_in_alike None None h = refl
  address_in_alike None (Some g) h = absurd h
  address_in_alike (Some f) None h = absurd h
  address_in_alike (Some f) (Some g) h = address_alike f g h

  module _ (f g : Field) (h : Alike t u f g) where
    number_same : (name : List ℕ) → number t f name ≡ number u g name
    number_same name = value_alike t u name (Some f) (Some g) h

    small_same : (name : List ℕ) → small t f name ≡ small u g name
    small_same name = ap (below_if_any 2147483648) (number_same name)

    of_16_same : (name : List ℕ) → of_16 t f name ≡ of_16 u g name
    of_16_same name = ap (below_if_any 65536) (number_same name)

    of_32_same : (name : List ℕ) → of_32 t f name ≡ of_32 u g name
    of_32_same name = ap (below_if_any 4294967296) (number_same name)

    of_64_same : (name : List ℕ) → of_64 t f name ≡ of_64 u g name
    of_64_same name = ap (below_if_any (2 ^ 64)) (number_same name)

    priority_same : (name : List ℕ) → priority t f name ≡ priority u g name
    priority_same name = ap (between (neg_ℤ (pos 2147483648)) (pos 2147483647)) (number_same name)

    state_same : (name : List ℕ) → state t f name ≡ state u g name
    state_same name = ap (between (neg_ℤ (pos 9223372036854775808)) (pos 9223372036854775807)) (number_same name)

    comm_same : (name : List ℕ) → comm t f name ≡ comm u g name
    comm_same name = comm_in_alike _ _ (first_alike t u name (Some f) (Some g) h)

    address_same : (name : List ℕ) → address t f name ≡ address u g name
    address_same name = address_in_alike _ _ (first_alike t u name (Some f) (Some g) h)

    -- ---- kinds

    switch_same : switch t f ≡ switch u g
    switch_same = rw (state_same (codes "prev_state"), small_same (codes "prev_tid"), small_same (codes "next_tid"), priority_same (codes "prev_prio"), priority_same (codes "next_prio"), comm_same (codes "prev_comm"), comm_same (codes "next_comm"))

    wakeup_same : wakeup_fields t f ≡ wakeup_fields u g
    wakeup_same = rw (small_same (codes "tid"), comm_same (codes "comm"), priority_same (codes "prio"), small_same (codes "target_cpu"))

    fork_same : fork t f ≡ fork u g
    fork_same = rw (small_same (codes "parent_tid"), small_same (codes "child_tid"), comm_same (codes "child_comm"))

    migrate_same : migrate t f ≡ migrate u g
    migrate_same = rw (small_same (codes "tid"), small_same (codes "dest_cpu"))

    process_same : process t f ≡ process u g
    process_same = rw (small_same (codes "tid"), small_same (codes "ppid"), comm_same (codes "name"), small_same (codes "status"))

    segment_same : segment t f ≡ segment u g
    segment_same = rw (address_same (codes "saddr"), address_same (codes "daddr"), of_16_same (codes "source_port"), of_16_same (codes "dest_port"), of_32_same (codes "seq"), of_32_same (codes "ack_seq"), of_16_same (codes "flags"))

    request_same : disk_request t f ≡ disk_request u g
    request_same = rw (of_64_same (codes "sector"), of_32_same (codes "dev"), of_32_same (codes "nr_sector"))

    other_same : (p : EventKind) (name : ℕ) → other_event_of p name t f ≡ other_event_of p name u g
    other_same event_kind.Exit name = ap (option_map kind.Exit) (small_same (codes "tid"))
    other_same event_kind.Free name = ap (option_map kind.Free) (small_same (codes "tid"))
    other_same event_kind.IrqIn name = ap (option_map kind.IrqIn) (small_same (codes "irq"))
    other_same event_kind.IrqOut name = ap (option_map kind.IrqOut) (small_same (codes "irq"))
    other_same event_kind.SoftIn name = ap (option_map kind.SoftIn) (small_same (codes "vec"))
    other_same event_kind.SoftOut name = ap (option_map kind.SoftOut) (small_same (codes "vec"))
    other_same event_kind.Send name = ap (option_map kind.Send) segment_same
    other_same event_kind.Receive name = ap (option_map kind.Receive) segment_same
    other_same event_kind.DiskIssue name = ap (option_map (λ r. kind.DiskIssue r.sector r.dev r.nr_sector)) request_same
    other_same event_kind.DiskDone name = ap (option_map (λ r. kind.DiskDone r.sector r.dev r.nr_sector)) request_same
    other_same _ name = refl

    event_same : (p : EventKind) (name : ℕ) → event_of p name t f ≡ event_of p name u g
    event_same event_kind.Switch name = switch_same
    event_same event_kind.Wakeup name = ap (option_map (λ w. kind.Wakeup w.tid w.comm w.prio w.target_cpu)) wakeup_same
    event_same event_kind.WakeupNew name = ap (option_map (λ w. kind.WakeupNew w.tid w.comm w.prio w.target_cpu)) wakeup_same
    event_same event_kind.Waking name = ap (option_map (λ w. kind.Waking w.tid w.comm w.prio w.target_cpu)) wakeup_same
    event_same event_kind.Fork name = fork_same
    event_same event_kind.Migrate name = migrate_same
    event_same event_kind.Process name = process_same
    event_same event_kind.Exit name = other_same event_kind.Exit name
    event_same event_kind.Free name = other_same event_kind.Free name
    event_same event_kind.IrqIn name = other_same event_kind.IrqIn name
    event_same event_kind.IrqOut name = other_same event_kind.IrqOut name
    event_same event_kind.SoftIn name = other_same event_kind.SoftIn name
    event_same event_kind.SoftOut name = other_same event_kind.SoftOut name
    event_same event_kind.Send name = other_same event_kind.Send name
    event_same event_kind.Receive name = other_same event_kind.Receive name
    event_same event_kind.DiskIssue name = other_same event_kind.DiskIssue name
    event_same event_kind.DiskDone name = other_same event_kind.DiskDone name
    event_same _ name = refl

-- ---- names

names_alike : (t u : Table) (index : ℕ) (es fs : List (EventId × EventParts)) → AreBoth (IsSameEvent t u) es fs → Path (Option ℕ) (option_map (λ e. e.1.name) (slice_get es index)) (option_map (λ e. e.1.name) (slice_get fs index))
names_alike t u index [] [] h = refl
names_alike t u index [] (f ∷ fs) h = absurd h
names_alike t u index (e ∷ es) [] h = absurd h
names_alike t u zero (e ∷ es) (f ∷ fs) h = ap Some h.0.name
names_alike t u (suc index) (e ∷ es) (f ∷ fs) h = names_alike t u index es fs h.1

-- the kernel event of two events that were read alike
pub kind_alike : (m n : TraceMetaModel) → IsSoundMeta m → IsSoundMeta n → IsSameTrace m n → (r s : RawEvent) → r.event ≡ s.event → Alike m.table n.table r.fields s.fields → kind_of m r ≡ kind_of n s
kind_alike m n sm sn same r s index fields =
    let name : name_of m r.event ≡ name_of n s.event = ap (λ o. unwrap_or o 0) (names_alike m.table n.table r.event m.declared.events n.declared.events same.events) ∙ ap (name_of n) index in
    let layout : kinds_of m ≡ kinds_of n = ap (map kind_named) same.event_names in
    ap (λ a. kind_by m a r.fields) name
    ∙ (ap (λ l. or_other (name_of n s.event) (event_of (unwrap_or (slice_get l (name_of n s.event)) event_kind.Other) (name_of n s.event) m.table r.fields)) layout
    ∙ ap (or_other (name_of n s.event)) (event_same m.table n.table sm.table sn.table r.fields s.fields fields (unwrap_or (slice_get (kinds_of n) (name_of n s.event)) event_kind.Other) (name_of n s.event)))
