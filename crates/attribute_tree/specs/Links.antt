-- The links of nodes by number, and how numbers say them (this project's own).
use Rattle.std.specs.Prelude.{◌≡◌, ◌<◌, ℕ, zero, suc, nat_lt, if◌then◌else◌, List, [], ◌∷◌, ◌++◌, Option, None, Some, map, length, unwrap_or, get_or, slice_set}
use Rattle.std.specs.List.{AllByRecursion}
use Rattle.attribute_tree.specs.Nodes.{with_next}

-- what a number says of a link: 0 that there is no such node, since node 0 is the root, and else the node
abbrev pub link_said : ℕ → Option ℕ
link_said zero = None
link_said (suc n) = Some (suc n)

-- the links that numbers say
abbrev pub links_said : List ℕ → List (Option ℕ)
links_said numbers = map link_said numbers

-- the first child, by the last one: none where that is 0, and else what comes after the last one in their ring
abbrev pub first_said : List ℕ → ℕ → Option ℕ
first_said ring zero = None
first_said ring (suc l) = Some (get_or ring (suc l) 0)

-- the first child of each node, by the last ones
abbrev pub firsts_said : List ℕ → List ℕ → List (Option ℕ)
firsts_said ring last = map (first_said ring) last

-- the next sibling of node k, by the node n after it in the ring: later siblings are greater, so one that is not greater is the first again
abbrev pub next_said : ℕ → ℕ → Option ℕ
next_said k n = if nat_lt k n then Some n else None

-- the next sibling of each node, where these nodes are numbered from k
abbrev pub nexts_said : ℕ → List ℕ → List (Option ℕ)
nexts_said k [] = []
nexts_said k (n ∷ ns) = next_said k n ∷ nexts_said (suc k) ns

-- the rings, once the next node comes after the last child of its parent, or after itself where that has no child
abbrev pub with_ringed : List ℕ → ℕ → ℕ → List ℕ
with_ringed ring zero node = ring ++ node ∷ []
with_ringed ring (suc l) node = slice_set ring (suc l) node ++ get_or ring (suc l) 0 ∷ []

-- the first child, the last child and the next sibling of each node, and how many more nodes there is room for
pub record LinkLists : Type 0 where
  pub first : List (Option ℕ)
  pub last : List (Option ℕ)
  pub next : List (Option ℕ)
  pub room : ℕ

-- the links with the root's, which has none, where there was no node
abbrev pub rooted_links : List (Option ℕ) → List (Option ℕ)
rooted_links [] = None ∷ []
rooted_links (l ∷ ls) = l ∷ ls

-- the next node is made, as its parent's last child
pub record GetsChild (old new : LinkLists) (parent : ℕ) : Type 0 where
  pub first : new.first ≡ slice_set old.first parent (Some (unwrap_or (get_or old.first parent None) (length old.first))) ++ None ∷ []
  pub last : new.last ≡ slice_set old.last parent (Some (length old.first)) ++ None ∷ []
  pub next : new.next ≡ with_next old.next (get_or old.last parent None) (length old.first) ++ None ∷ []

-- each node has a number in both lists, these are of nodes, and no two nodes have the same last child
pub record AreRings (last ring : List ℕ) : Type 0 where
  pub lasts : length last ≡ length ring
  pub last_within : AllByRecursion (λ n. n < length ring) last
  pub ring_within : AllByRecursion (λ n. n < length ring) ring
  pub apart : (i j : ℕ) → 0 < get_or last i 0 → get_or last i 0 ≡ get_or last j 0 → i ≡ j
