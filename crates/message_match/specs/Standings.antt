-- How segments stand after some of their events, each told by its host, its place there and its time (this project's own).
use Rattle.std.specs.Prelude.{◌≡◌, ◌≢◌, ◌⊎◌, ℕ, List, [], ◌∷◌, Bool, true, false, Option, None, Some, ◌==◌, if◌then◌else◌}
use Rattle.std.specs.Map.{keys_of}
use Rattle.trace_types.specs.declared.event.KernelEvent.TheVariants.{Send, Receive}
use Rattle.trace_types.specs.declared.host.HostEvents.{HostEvents}
use Rattle.trace_types.specs.declared.segment.SegKey.{SegKey}
use Rattle.trace_types.specs.contracts.segment.SegKeyPartialEq.TheImpl as segment
use Rattle.message_match.specs.Messages.{HasEvent, IsEarlier, IsFirstOfOneHost, IsMessageOf}
use Rattle.message_match.specs.declared.message.Message.{Message}
use Rattle.message_match.specs.declared.standing.Placed.{Placed}
use Rattle.message_match.specs.declared.standing.Standing.{Standing}
use Rattle.message_match.specs.declared.standing.Standing.TheVariants.{Sent, SentBySeveral, Matched, Ambiguous}

-- when two keys count as one: the comparison that the type derives, which tells all of them apart
abbrev pub same_key : SegKey → SegKey → Bool
same_key = segment.ghosts.eq

-- after one more send, where nothing was received
abbrev pub sent_again : Standing → Placed → Standing
sent_again (Sent first) send = if first.host == send.host then Sent first else SentBySeveral
sent_again SentBySeveral send = SentBySeveral
sent_again (Matched m) send = Matched m
sent_again Ambiguous send = Ambiguous

-- after one more receive
abbrev pub received : Standing → Placed → Standing
received (Sent first) receive = if first.host == receive.host then Ambiguous else Matched (record { sent = first.time; received = receive.time; from = first.host; send = first.place; to = receive.host; receive = receive.place })
received SentBySeveral receive = Ambiguous
received (Matched m) receive = if m.to == receive.host then Matched m else Ambiguous
received Ambiguous receive = Ambiguous

-- the table after one more send of a key: a new key goes last
abbrev pub with_send : List (SegKey × Standing) → SegKey → Placed → List (SegKey × Standing)
with_send [] key send = (key, Sent send) ∷ []
with_send (e ∷ es) key send = if same_key key e.0 then (e.0, sent_again e.1 send) ∷ es else e ∷ with_send es key send

-- the table with another standing of a key, if it has the key
abbrev pub changed : (Standing → Standing) → List (SegKey × Standing) → SegKey → List (SegKey × Standing)
changed next [] key = []
changed next (e ∷ es) key = if same_key key e.0 then (e.0, next e.1) ∷ es else e ∷ changed next es key

-- the table after one more receive of a key: a key that nobody sent is left out
abbrev pub with_receive : List (SegKey × Standing) → SegKey → Placed → List (SegKey × Standing)
with_receive es key receive = changed (λ standing. received standing receive) es key

-- ---- what the table tells of the events

-- of these events, those before this host and place
abbrev pub so_far : ℕ → ℕ → (ℕ → ℕ → ℕ → Type 0) → ℕ → ℕ → ℕ → Type 0
so_far host place Events h p t = Events h p t × IsEarlier h p host place

-- the sends of a key
abbrev pub sends : List HostEvents → SegKey → ℕ → ℕ → ℕ → Type 0
sends hosts key = HasEvent hosts (Send key)

-- its receives
abbrev pub receives : List HostEvents → SegKey → ℕ → ℕ → ℕ → Type 0
receives hosts key = HasEvent hosts (Receive key)

-- none of any key
abbrev pub no_events : SegKey → ℕ → ℕ → ℕ → Type 0
no_events key host place time = ⊥

-- two hosts have such events
pub record AreOfSeveral (Events : ℕ → ℕ → ℕ → Type 0) : Type 0 where
  pub host : ℕ
  pub place : ℕ
  pub time : ℕ
  pub here : Events host place time
  pub other_host : ℕ
  pub other_place : ℕ
  pub other_time : ℕ
  pub there : Events other_host other_place other_time
  pub apart : other_host ≢ host

-- one host has a send and a receive
pub record IsOfOne (Sends Receives : ℕ → ℕ → ℕ → Type 0) : Type 0 where
  pub host : ℕ
  pub place : ℕ
  pub time : ℕ
  pub here : Sends host place time
  pub other_place : ℕ
  pub other_time : ℕ
  pub there : Receives host other_place other_time

-- there are no such events
abbrev pub AreNone : (ℕ → ℕ → ℕ → Type 0) → Type 0
AreNone Events = (h p t : ℕ) → ¬ Events h p t

-- there is such an event
abbrev pub AreSome : (ℕ → ℕ → ℕ → Type 0) → Type 0
AreSome Events = (host : ℕ) × (place : ℕ) × (time : ℕ) × Events host place time

-- there are sends and receives, and what forbids a message of them
pub record IsClash (Sends Receives : ℕ → ℕ → ℕ → Type 0) : Type 0 where
  pub sent : AreSome Sends
  pub received : AreSome Receives
  pub clash : AreOfSeveral Sends ⊎ (AreOfSeveral Receives ⊎ IsOfOne Sends Receives)

-- what a standing says of a segment's sends and receives
abbrev pub Tells : (ℕ → ℕ → ℕ → Type 0) → (ℕ → ℕ → ℕ → Type 0) → Standing → Type 0
Tells Sends Receives (Sent first) = IsFirstOfOneHost Sends first.host first.place first.time × AreNone Receives
Tells Sends Receives SentBySeveral = AreOfSeveral Sends × AreNone Receives
Tells Sends Receives (Matched m) = IsMessageOf Sends Receives m
Tells Sends Receives Ambiguous = IsClash Sends Receives

-- each standing of the table tells of its own key's
abbrev pub AllTell : (SegKey → ℕ → ℕ → ℕ → Type 0) → (SegKey → ℕ → ℕ → ℕ → Type 0) → List (SegKey × Standing) → Type 0
AllTell Sends Receives [] = Unit {0}
AllTell Sends Receives (e ∷ es) = Tells (Sends e.0) (Receives e.0) e.1 × AllTell Sends Receives es

-- x is one of these
abbrev pub IsAmong : {X : Type 0} → List X → X → Type 0
IsAmong [] x = ⊥
IsAmong (y ∷ ys) x = (y ≡ x) ⊎ IsAmong ys x

-- none of these comes twice
abbrev pub AreApart : List SegKey → Type 0
AreApart [] = Unit {0}
AreApart (k ∷ ks) = (¬ IsAmong ks k) × AreApart ks

-- what holds of the place of the first send, where one host alone is known to send
abbrev pub IfFirst : Standing → (ℕ → ℕ → Type 0) → Type 0
IfFirst (Sent first) P = P first.host first.place
IfFirst SentBySeveral P = Unit {0}
IfFirst (Matched m) P = P m.from m.send
IfFirst Ambiguous P = Unit {0}

-- the same of each segment of the table
abbrev pub AllFirst : (ℕ → ℕ → Type 0) → List (SegKey × Standing) → Type 0
AllFirst P [] = Unit {0}
AllFirst P (e ∷ es) = IfFirst e.1 P × AllFirst P es

-- each first send stands after those before
abbrev pub AreInOrder : List (SegKey × Standing) → Type 0
AreInOrder [] = Unit {0}
AreInOrder (e ∷ es) = IfFirst e.1 (λ host place. AllFirst (IsEarlier host place) es) × AreInOrder es

-- the table has each key that is sent, and none twice, tells how it stands, and is in the order of the first sends
pub record Notes (Sends Receives : SegKey → ℕ → ℕ → ℕ → Type 0) (table : List (SegKey × Standing)) : Type 0 where
  pub tells : AllTell Sends Receives table
  pub known : (key : SegKey) (host place time : ℕ) → Sends key host place time → IsAmong (keys_of table) key
  pub apart : AreApart (keys_of table)
  pub order : AreInOrder table

-- ---- what the table gives in the end

-- its message, if it has one
abbrev pub message_in : Standing → Option Message
message_in (Sent first) = None
message_in SentBySeveral = None
message_in (Matched m) = Some m
message_in Ambiguous = None

-- whether it was sent and received, and has no message
abbrev pub is_ambiguous : Standing → Bool
is_ambiguous (Sent first) = false
is_ambiguous SentBySeveral = false
is_ambiguous (Matched m) = false
is_ambiguous Ambiguous = true
