-- The waits for each waker, in the order of their ends (this project's own).
use Rattle.std.specs.Prelude.{ℕ, ◌≡◌, ◌<◌, ◌+◌, ◌-◌, ◌^◌, ◌==◌, ◌&&◌, Bool, false, nat_lt, if◌then◌else◌, Option, None, Some, List, [], ◌∷◌, length, slice_get}
use Rattle.std.specs.Option.{option_map}
use Rattle.wait_graph.specs.declared.wake.Wake.{Wake}
use Rattle.wait_graph.specs.declared.vertex.Vertex.{Vertex}
use Rattle.wait_graph.specs.declared.vertex.Link.{Link}
use Rattle.wait_graph.specs.declared.vertex.Link.TheVariants.{Thread, Net}
use Rattle.wait_graph.specs.Graph.{IsToward}
use Rattle.wait_graph.specs.Changes.{order_of}

-- the wait of a vertex for a waker, if it is one
abbrev pub wake_by : Option ℕ → Link → ℕ → List Wake
wake_by (Some end) (Thread host tid) number = record { host = host; tid = tid; end = end; number = number } ∷ []
wake_by (Some end) (Net host tid send) number = record { host = host; tid = tid; end = end; number = number } ∷ []
wake_by end link number = []

-- where a wait stands in the order by its waker's host and tid and its end
abbrev pub wake_order : Wake → ℕ
wake_order w = order_of w.host w.tid w.end

-- the waits of the first so many vertices
pub record AreWakes (vertices : List Vertex) (below : ℕ) (wakes : List Wake) : Type 0 where
  pub sound : (k : ℕ) (w : Wake) → slice_get wakes k ≡ Some w → (v : Vertex) × ((slice_get vertices w.number ≡ Some v) × (IsToward w.host w.tid v.link × ((v.end ≡ Some w.end) × (w.number < below))))
  pub all : (n : ℕ) (v : Vertex) (host tid end : ℕ) → slice_get vertices n ≡ Some v → n < below → IsToward host tid v.link → v.end ≡ Some end → (k : ℕ) × ((w : Wake) × ((slice_get wakes k ≡ Some w) × ((w.number ≡ n) × ((w.host ≡ host) × ((w.tid ≡ tid) × (w.end ≡ end))))))
  pub once : (j k : ℕ) (w x : Wake) → slice_get wakes j ≡ Some w → slice_get wakes k ≡ Some x → w.number ≡ x.number → j ≡ k

-- both are there, and for one waker
abbrev pub are_of_one_waker : Option Wake → Option Wake → Bool
are_of_one_waker None b = false
are_of_one_waker (Some w) None = false
are_of_one_waker (Some w) (Some x) = (w.host == x.host) && (w.tid == x.tid)

-- the wait after this one is for its waker
abbrev pub is_one_waker : List Wake → ℕ → Bool
is_one_waker wakes place = are_of_one_waker (slice_get wakes place) (slice_get wakes (place + 1))

-- the vertex of the next wait for its waker
abbrev pub wake_next_of : List Wake → ℕ → Option ℕ
wake_next_of wakes place = if is_one_waker wakes place then option_map (λ w. w.number) (slice_get wakes (place + 1)) else None

-- and of the one before
abbrev pub wake_before_of : List Wake → ℕ → Option ℕ
wake_before_of wakes place = if nat_lt 0 place && is_one_waker wakes (place - 1) then option_map (λ w. w.number) (slice_get wakes (place - 1)) else None

-- a vertex with its neighbours in its waker's chain
abbrev pub woven : Vertex → Option ℕ → Option ℕ → Vertex
woven v next before = record { host = v.host; tid = v.tid; state = v.state; start = v.start; end = v.end; link = v.link; next = v.next; before = v.before; wake_next = next; wake_before = before }

-- the first so many waits have given their vertices their neighbours, and no other vertex has changed
pub record AreWoven (wakes : List Wake) (count : ℕ) (old new : List Vertex) : Type 0 where
  pub length_stays : length new ≡ length old
  pub given : (k : ℕ) (w : Wake) (v : Vertex) → k < count → slice_get wakes k ≡ Some w → slice_get old w.number ≡ Some v → slice_get new w.number ≡ Some (woven v (wake_next_of wakes k) (wake_before_of wakes k))
  pub others : (n : ℕ) → ((k : ℕ) (w : Wake) → k < count → slice_get wakes k ≡ Some w → w.number ≡ n → ⊥) → slice_get new n ≡ slice_get old n

-- the numbers of waits are of 32 bits
abbrev pub AllFit : List Wake → Type 0
AllFit wakes = (k : ℕ) (w : Wake) → slice_get wakes k ≡ Some w → (w.tid < 2 ^ 32) × (w.end < 2 ^ 32)
