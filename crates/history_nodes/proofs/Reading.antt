-- What a read of a node gives.
use Rattle.std.proofs.Common.{◌≡◌, ℕ, ◌<◌, false, List, length, get_or, All, refl, subst, ap, sym, ◌∙◌}
use Rattle.std.proofs.lemmas.List.{get_or_read_under}
use Rattle.std.proofs.lemmas.List.Elements.{All-get_or}
use Rattle.history_nodes.specs.declared.node.Node.{Node}
use Rattle.history_nodes.specs.Nodes.{node_at, holds, opened}

-- a node that was read is the node of its number
pub read_node : (items nodes : List Node) (number : ℕ) (node : Node) → items ≡ nodes → node ≡ get_or items number node → number < length nodes → node ≡ node_at nodes number
read_node items nodes number node e h lt = rw (← e) (get_or_read_under items number (length items) node (opened 0 0) h (rw (ap length e) lt) refl)

-- a child that was read and doesn't hold the instant, by its place among the children
pub child_fails : (t : ℕ) (items nodes : List Node) (number : ℕ) (parent child : Node) (children : List ℕ) (k : ℕ) → items ≡ nodes → parent ≡ get_or items number parent → number < length nodes
    → children ≡ parent.children → k < length children → All (λ c. c < length nodes) (node_at nodes number).children
    → child ≡ get_or items (get_or children k 0) child → holds t child ≡ false → holds t (node_at nodes (get_or children k 0)) ≡ false
child_fails t items nodes number parent child children k e p lt is under all c fails =
    let same : children ≡ (node_at nodes number).children = is ∙ ap (λ (n : Node). n.children) (read_node items nodes number parent e p lt) in
    let there : get_or children k 0 < length nodes = All-get_or (λ c. c < length nodes) children k 0 under (subst (λ cs. All (λ c. c < length nodes) cs) (sym same) all) in
    subst (λ (n : Node). holds t n ≡ false) (read_node items nodes (get_or children k 0) child e c there) fails
