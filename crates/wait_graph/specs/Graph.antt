-- The stretches of all threads' states, with what ended each wait, as a graph: two chains of vertices, one a thread and one a waker (after Giraldeau and Dagenais 2016).
use Rattle.std.specs.Prelude.{ℕ, ◌≡◌, ◌≢◌, ◌<◌, ◌≤◌, ◌+◌, ◌^◌, ◌↔◌, None, Some, IfSome, IfNone, List, Contains, length, map, slice_get}
use Rattle.std.specs.List.{AllByRecursion}
use Rattle.trace_types.specs.Order.{RiseFrom}
use Rattle.trace_types.specs.declared.limits.TheConstants.{MAX_EVENTS}
use Rattle.trace_types.specs.declared.event.KernelEvent.{KernelEvent}
use Rattle.trace_types.specs.declared.event.KernelEvent.TheVariants.{Send, Receive}
use Rattle.trace_types.specs.declared.segment.SegKey.{SegKey}
use Rattle.trace_types.specs.declared.event.Merged.{Merged}
use Rattle.host_merge.specs.declared.placed.Placed.{Placed}
use Rattle.wait_graph.specs.States.{state_after}
use Rattle.wait_graph.specs.Links.{IsLinkAt}
use Rattle.wait_graph.specs.Named.{IsNamed}
use Rattle.wait_graph.specs.declared.vertex.ThreadState.TheVariants.{Blocked}
use Rattle.wait_graph.specs.declared.vertex.Link.{Link}
use Rattle.wait_graph.specs.declared.vertex.Link.TheVariants.{Nothing, Thread, Net}
use Rattle.wait_graph.specs.declared.vertex.Vertex.{Vertex}
use Rattle.wait_graph.specs.declared.named.ThreadName.{ThreadName}

-- the thread's state changes at this place: it is another after the event than before it
abbrev pub IsChange : List Merged → ℕ → ℕ → ℕ → Type 0
IsChange merged host tid place = (place < length merged) × (state_after merged host tid (place + 1) ≢ state_after merged host tid place)

-- from a change on, the thread has one state up to the place where it ends, which is the next change, or to the end of the merge
pub record IsStretch (merged : List Merged) (v : Vertex) : Type 0 where
  pub is_thread : v.tid ≢ 0
  pub begins : IsChange merged v.host v.tid v.start
  pub state : v.state ≡ state_after merged v.host v.tid (v.start + 1)
  pub ended : (end : ℕ) → v.end ≡ Some end → (v.start < end) × IsChange merged v.host v.tid end × ((place : ℕ) → v.start < place → place < end → ¬ IsChange merged v.host v.tid place)
  pub to_the_end : v.end ≡ None → (place : ℕ) → v.start < place → ¬ IsChange merged v.host v.tid place

-- a wait that ended has what ended it, and nothing else has anything
pub record HasLink (merged : List Merged) (placed : List Placed) (v : Vertex) : Type 0 where
  pub waited : (end : ℕ) → v.state ≡ Blocked → v.end ≡ Some end → IsLinkAt merged placed v.host v.tid end v.link
  pub to_the_end : v.end ≡ None → v.link ≡ Nothing
  pub other : v.state ≢ Blocked → v.link ≡ Nothing

-- ---- the two chains

-- both are of one thread
abbrev pub IsSameThread : Vertex → Vertex → Type 0
IsSameThread v w = (v.host ≡ w.host) × (v.tid ≡ w.tid)

-- the link is to this thread, as a waker or over the network
abbrev pub IsToward : ℕ → ℕ → Link → Type 0
IsToward host tid (Thread h t) = (h ≡ host) × (t ≡ tid)
IsToward host tid (Net h t send) = (h ≡ host) × (t ≡ tid)
IsToward host tid link = ⊥

-- both wait for one thread
abbrev pub HaveOneWaker : Vertex → Vertex → Type 0
HaveOneWaker v w = (host : ℕ) × (tid : ℕ) × IsToward host tid v.link × IsToward host tid w.link

-- the first begins before the second, and the first ends before the second
abbrev pub BeginsBefore : Vertex → Vertex → Type 0
BeginsBefore v w = v.start < w.start

abbrev pub EndsBefore : Vertex → Vertex → Type 0
EndsBefore v w = (a : ℕ) × (b : ℕ) × (v.end ≡ Some a) × (w.end ≡ Some b) × (a < b)

-- of the vertices that belong together, the one of this number is the next after v, by an order: it comes after, and none comes between
pub record IsNextAmong (Belong Before : Vertex → Vertex → Type 0) (vertices : List Vertex) (v : Vertex) (number : ℕ) : Type 0 where
  pub vertex : Vertex
  pub there : slice_get vertices number ≡ Some vertex
  pub belongs : Belong v vertex
  pub after : Before v vertex
  pub none_between : (k : ℕ) (w : Vertex) → slice_get vertices k ≡ Some w → Belong v w → Before v w → Before w vertex → ⊥

-- v has none after it
abbrev pub IsLastAmong : (Vertex → Vertex → Type 0) → (Vertex → Vertex → Type 0) → List Vertex → Vertex → Type 0
IsLastAmong Belong Before vertices v = (k : ℕ) (w : Vertex) → slice_get vertices k ≡ Some w → Belong v w → ¬ Before v w

-- the order the other way round
abbrev pub After : (Vertex → Vertex → Type 0) → Vertex → Vertex → Type 0
After Before v w = Before w v

-- a vertex names its neighbours in both chains, and none where there is none
pub record IsChained (vertices : List Vertex) (v : Vertex) : Type 0 where
  pub next : IfSome v.next (IsNextAmong IsSameThread BeginsBefore vertices v)
  pub no_next : IfNone v.next (IsLastAmong IsSameThread BeginsBefore vertices v)
  pub before : IfSome v.before (IsNextAmong IsSameThread (After BeginsBefore) vertices v)
  pub no_before : IfNone v.before (IsLastAmong IsSameThread (After BeginsBefore) vertices v)
  pub wake_next : IfSome v.wake_next (IsNextAmong HaveOneWaker EndsBefore vertices v)
  pub no_wake_next : IfNone v.wake_next (IsLastAmong HaveOneWaker EndsBefore vertices v)
  pub wake_before : IfSome v.wake_before (IsNextAmong HaveOneWaker (After EndsBefore) vertices v)
  pub no_wake_before : IfNone v.wake_before (IsLastAmong HaveOneWaker (After EndsBefore) vertices v)

-- in both chains each vertex is the neighbour of its neighbour
pub record AgreeBothWays (vertices : List Vertex) : Type 0 where
  pub threads : (m n : ℕ) (v w : Vertex) → slice_get vertices m ≡ Some v → slice_get vertices n ≡ Some w → (v.next ≡ Some n) ↔ (w.before ≡ Some m)
  pub wakers : (m n : ℕ) (v w : Vertex) → slice_get vertices m ≡ Some v → slice_get vertices n ≡ Some w → (v.wake_next ≡ Some n) ↔ (w.wake_before ≡ Some m)

-- ---- the whole

-- one vertex for each change of a thread's state, each with its stretch, its link and its neighbours
pub record AreVertices (merged : List Merged) (placed : List Placed) (vertices : List Vertex) : Type 0 where
  pub stretches : (number : ℕ) (v : Vertex) → slice_get vertices number ≡ Some v → IsStretch merged v
  pub links : (number : ℕ) (v : Vertex) → slice_get vertices number ≡ Some v → HasLink merged placed v
  pub chained : (number : ℕ) (v : Vertex) → slice_get vertices number ≡ Some v → IsChained vertices v
  pub agree : AgreeBothWays vertices
  pub all : (host tid place : ℕ) → tid ≢ 0 → IsChange merged host tid place → (number : ℕ) × (v : Vertex) × (slice_get vertices number ≡ Some v) × (v.host ≡ host) × (v.tid ≡ tid) × (v.start ≡ place)
  pub once : (m n : ℕ) (v w : Vertex) → slice_get vertices m ≡ Some v → slice_get vertices n ≡ Some w → IsSameThread v w → v.start ≡ w.start → m ≡ n

-- the stretch of a vertex holds a place
abbrev pub HoldsPlace : Vertex → ℕ → Type 0
HoldsPlace v place = (v.start ≤ place) × IfSome v.end (λ end. place < end)

-- the merge has an event of this kind at a place
pub record HasKindAt (merged : List Merged) (Kind : KernelEvent → Type 0) (place : ℕ) : Type 0 where
  pub event : Merged
  pub there : slice_get merged place ≡ Some event
  pub is_kind : Kind event.event.kind

-- a segment is sent, or received
abbrev pub IsSend : KernelEvent → Type 0
IsSend kind = (key : SegKey) × (kind ≡ Send key)

abbrev pub IsReceive : KernelEvent → Type 0
IsReceive kind = (key : SegKey) × (kind ≡ Receive key)

-- each message is sent and received at such events of the merge, and no receive stands twice
pub record AreMessagePlaces (merged : List Merged) (placed : List Placed) : Type 0 where
  pub sends : (k : ℕ) (p : Placed) → slice_get placed k ≡ Some p → HasKindAt merged IsSend p.send
  pub receives : (k : ℕ) (p : Placed) → slice_get placed k ≡ Some p → HasKindAt merged IsReceive p.receive
  pub once : (j k : ℕ) (p q : Placed) → slice_get placed j ≡ Some p → slice_get placed k ≡ Some q → p.receive ≡ q.receive → j ≡ k

-- what contracts see of a graph: its vertices by number, the keys of the merge by place, and the threads that events name
pub record WaitGraph : Type 0 where
  pub vertices : List Vertex
  pub keys : List ℕ
  pub named : List ThreadName

-- the graph of a merge and of the places of its messages
pub record IsGraphOf (merged : List Merged) (placed : List Placed) (graph : WaitGraph) : Type 0 where
  pub vertices : AreVertices merged placed graph.vertices
  pub keys : graph.keys ≡ map (λ m. m.key) merged
  pub named : (host tid : ℕ) → Contains graph.named (record { host = host; tid = tid }) ↔ IsNamed merged host tid

-- a merge whose keys never fall and lie before the end of time, of not too many events, and its messages
pub record IsMergeWithMessages (merged : List Merged) (placed : List Placed) : Type 0 where
  pub rises : RiseFrom 0 merged
  pub below : AllByRecursion (λ m. m.key < 2 ^ 62) merged
  pub few : length merged ≤ MAX_EVENTS
  pub messages : AreMessagePlaces merged placed

-- it is the graph of such a merge
abbrev pub IsGraph : WaitGraph → Type 0
IsGraph graph = (merged : List Merged) × (placed : List Placed) × IsMergeWithMessages merged placed × IsGraphOf merged placed graph

-- the key at a place, and at no later one, is at or before an instant
pub record IsLastAt (keys : List ℕ) (t place : ℕ) : Type 0 where
  pub key : ℕ
  pub there : slice_get keys place ≡ Some key
  pub not_after : key ≤ t
  pub last : (later k : ℕ) → place < later → slice_get keys later ≡ Some k → t < k
