-- The nodes of fronts, and what is noted of them, as nodes are made.
use Rattle.std.proofs.Common.{◌≡◌, ℕ, ◌<◌, Bool, true, false, cond, if◌then◌else◌, List, [], ◌∷◌, ◌++◌, length, Option, Some, None, slice_get, rules, refl, sym, ap, ap₂, ◌∙◌, subst, arith}
use Rattle.std.specs.Prelude.{◌||◌}
use Rattle.std.specs.Cmp.{IsEquivalence}
use Rattle.std.specs.List.{AllByRecursion, list_any}
use Rattle.std.proofs.lemmas.Option.{slice_get_within, slice_get-get_or}
use Rattle.std.proofs.lemmas.Map.Keys.{IsDistinct-push, IsDistinct-cons}
use Rattle.attribute_tree.specs.declared.owner.Owner.{Owner}
use Rattle.attribute_tree.specs.declared.owner.Owner.TheVariants.{Cpu, Idle, Thread}
use Rattle.attribute_tree.specs.declared.prefix.Prefix.{Prefix}
use Rattle.attribute_tree.specs.declared.prefix.Prefix.TheVariants.{Root, Host, Cpus, Threads}
use Rattle.attribute_tree.specs.Links.{LinkLists, GetsChild, rooted_links}
use Rattle.attribute_tree.specs.Nodes.{same_prefix, parent_of, rooted, with_node, with_nodes, IsHeld, AreHeld, AreLinked}
use Rattle.attribute_tree.specs.Rows.{same_owner}
use Rattle.attribute_tree.specs.Fronts.{prefix_of, host_of, group_of, fronts_of, is_group, node_among, IsTree, HasNode}
use Rattle.attribute_tree.proofs.Linked.{prefix_is, prefix_itself, turned, lengths, linked_push, with_new}
use Rattle.attribute_tree.proofs.Numbers.{none_any, some_any, position_other, position_new, position_stands}

laws : IsEquivalence same_prefix
laws = record { refl = prefix_itself; symm = λ x y. by x y (same_prefix x y) refl; congr = λ x y z e. ap (λ w. same_prefix w z) (prefix_is x y e) }
  where
    by : (x y : Prefix) (b : Bool) → same_prefix x y ≡ b → same_prefix x y ≡ same_prefix y x
    by x y true e = subst (λ z. same_prefix x z ≡ same_prefix z x) (prefix_is x y e) refl
    by x y false e = e ∙ sym (turned x y e)

-- ---- owners and those above them
pub host_noted : (o : Owner) → is_group (host_of o) ≡ true
host_noted (Cpu host cpu) = refl
host_noted (Idle host cpu) = refl
host_noted (Thread host tid) = refl

pub group_noted : (o : Owner) → is_group (group_of o) ≡ true
group_noted (Cpu host cpu) = refl
group_noted (Idle host cpu) = refl
group_noted (Thread host tid) = refl

pub owner_unnoted : (o : Owner) → is_group (prefix_of o) ≡ false
owner_unnoted (Cpu host cpu) = refl
owner_unnoted (Idle host cpu) = refl
owner_unnoted (Thread host tid) = refl

pub host_parent : (o : Owner) → parent_of (host_of o) ≡ Some Root
host_parent (Cpu host cpu) = refl
host_parent (Idle host cpu) = refl
host_parent (Thread host tid) = refl

pub group_parent : (o : Owner) → parent_of (group_of o) ≡ Some (host_of o)
group_parent (Cpu host cpu) = refl
group_parent (Idle host cpu) = refl
group_parent (Thread host tid) = refl

pub owner_parent : (o : Owner) → parent_of (prefix_of o) ≡ Some (group_of o)
owner_parent (Cpu host cpu) = refl
owner_parent (Idle host cpu) = refl
owner_parent (Thread host tid) = refl

pub owner_apart : (o a : Owner) → same_owner o a ≡ false → same_prefix (prefix_of a) (prefix_of o) ≡ false
owner_apart (Cpu h c) (Cpu g d) e = turned (prefix_of (Cpu h c)) (prefix_of (Cpu g d)) e
owner_apart (Cpu h c) (Idle g d) e = refl
owner_apart (Cpu h c) (Thread g u) e = refl
owner_apart (Idle h c) (Cpu g d) e = refl
owner_apart (Idle h c) (Idle g d) e = turned (prefix_of (Idle h c)) (prefix_of (Idle g d)) e
owner_apart (Idle h c) (Thread g u) e = turned (prefix_of (Idle h c)) (prefix_of (Thread g u)) (search rules)
owner_apart (Thread h t) (Cpu g d) e = refl
owner_apart (Thread h t) (Idle g d) e = turned (prefix_of (Thread h t)) (prefix_of (Idle g d)) (search rules)
owner_apart (Thread h t) (Thread g u) e = turned (prefix_of (Thread h t)) (prefix_of (Thread g u)) e

pub owner_is : (o a : Owner) → same_owner o a ≡ true → o ≡ a
owner_is o a h = search rules

orphan : (q : Prefix) → is_group q ≡ true → parent_of q ≡ None → ⊥
orphan Root g e = absurd (cc)
orphan (Host host) g e = absurd (cc)
orphan (Cpus host) g e = absurd (cc)
orphan (Threads host) g e = absurd (cc)
orphan q g e = absurd (cc)

-- what tells two fronts apart
pub differ : (test : Prefix → Bool) (p q : Prefix) → test p ≡ true → test q ≡ false → same_prefix p q ≡ false
differ test p q passes fails = by (same_prefix p q) refl
  where
    by : (b : Bool) → same_prefix p q ≡ b → b ≡ false
    by true e = let same : p ≡ q = prefix_is p q e in absurd (cc)
    by false e = refl

-- ---- the node of a front, once one is made
pub made : (nodes : List Prefix) (q : Prefix) → node_among nodes q ≡ None → with_node nodes q ≡ nodes ++ q ∷ []
made nodes q h = with_new nodes q (none_any (same_prefix q) nodes h)

pub there : (nodes : List Prefix) (q : Prefix) → list_any (same_prefix q) nodes ≡ true → with_node nodes q ≡ nodes
there nodes q h = rw h refl

pub node_other : (nodes : List Prefix) (q p : Prefix) → same_prefix p q ≡ false → node_among (with_node nodes q) p ≡ node_among nodes p
node_other nodes q p h = by (list_any (same_prefix q) nodes)
  where
    by : (b : Bool) → node_among (if b then nodes else nodes ++ q ∷ []) p ≡ node_among nodes p
    by true = refl
    by false = position_other (same_prefix p) nodes q h

pub node_made : (nodes : List Prefix) (q : Prefix) → node_among nodes q ≡ None → node_among (with_node nodes q) q ≡ Some (length nodes)
node_made nodes q h = ap (λ l. node_among l q) (made nodes q h) ∙ position_new (same_prefix q) nodes q (prefix_itself q) h

node_rooted : (nodes : List Prefix) (p : Prefix) → same_prefix p Root ≡ false → node_among (rooted nodes) p ≡ node_among nodes p
node_rooted [] p h = position_other (same_prefix p) [] Root h
node_rooted (n ∷ ns) p h = refl

-- ---- the tree once a node is made
module _ (nodes : List Prefix) (noted : Prefix → Option ℕ) (links more : LinkLists) (tree : IsTree nodes noted links) where
  pub tree_length : length links.first ≡ length nodes
  tree_length = (lengths nodes tree.linked).0

  pub tree_within : (u : ℕ) (r : Prefix) → slice_get nodes u ≡ Some r → u < length links.first
  tree_within u r stands = omega (arith, slice_get_within nodes u r stands, tree_length)

  pub tree_rooted : more.first ≡ rooted_links links.first → more.last ≡ rooted_links links.last → more.next ≡ rooted_links links.next → IsTree (rooted nodes) noted more
  tree_rooted f l n = record { linked = by nodes tree.linked; groups = λ p g. tree.groups p g ∙ sym (node_rooted nodes p (differ is_group p Root g refl)) }
    where
      by : (ns : List Prefix) → AreLinked ns links.first links.last links.next → AreLinked (rooted ns) more.first more.last more.next
      by [] linked = record { first = f ∙ ap rooted_links linked.first; last = l ∙ ap rooted_links linked.last; next = n ∙ ap rooted_links linked.next; distinct = IsDistinct-cons same_prefix Root [] tt linked.distinct; held = (tt, tt) }
      by (p ∷ ps) linked = record { first = f ∙ ap rooted_links linked.first; last = l ∙ ap rooted_links linked.last; next = n ∙ ap rooted_links linked.next; distinct = linked.distinct; held = linked.held }

  module _ (q r : Prefix) (u : ℕ) (parent : parent_of q ≡ Some r) (stands : slice_get nodes u ≡ Some r) (new : node_among nodes q ≡ None) (child : GetsChild links more u) where
    linked_more : AreLinked (with_node nodes q) more.first more.last more.next
    linked_more =
        let within = slice_get_within nodes u r stands in
        let first = slice_get-get_or links.first u None (omega (arith, within, tree_length)) in
        let last = slice_get-get_or links.last u None (omega (arith, within, (lengths nodes tree.linked).1)) in
        let none = none_any (same_prefix q) nodes new in
        let linked = linked_push nodes tree.linked q r u _ _ parent stands none (IsDistinct-push laws nodes q tree.linked.distinct none) first last in
        subst (λ ns. AreLinked ns more.first more.last more.next) (sym (made nodes q new)) (rw (child.first, child.last, child.next, tree_length) linked)

    -- a front that isn't a group's changes nothing that is noted
    pub tree_more : is_group q ≡ false → IsTree (with_node nodes q) noted more
    tree_more h = record { linked = linked_more; groups = λ p g. tree.groups p g ∙ sym (node_other nodes q p (differ is_group p q g h)) }

    -- a group's node is noted
    pub tree_noted : (notes : Prefix → Option ℕ) → ((p : Prefix) → notes p ≡ cond (same_prefix q p) (Some (length links.first)) (noted p)) → IsTree (with_node nodes q) notes more
    tree_noted notes updates = record { linked = linked_more; groups = λ p g. updates p ∙ by p g (same_prefix q p) refl }
      where
        by : (p : Prefix) → is_group p ≡ true → (b : Bool) → same_prefix q p ≡ b → cond b (Some (length links.first)) (noted p) ≡ node_among (with_node nodes q) p
        by p g true e = ap Some tree_length ∙ (sym (node_made nodes q new) ∙ ap (node_among (with_node nodes q)) (prefix_is q p e))
        by p g false e = tree.groups p g ∙ sym (node_other nodes q p (turned q p e))

  pub made_node : (q : Prefix) → node_among nodes q ≡ None → (n : ℕ) → n ≡ length links.first → node_among (with_node nodes q) q ≡ Some n
  made_node q new n e = node_made nodes q new ∙ ap Some (sym (e ∙ tree_length))

  -- a group that has no node gets one, since each has a parent
  pub group_made_node : (q : Prefix) (u n : ℕ) → is_group q ≡ true → slice_get nodes u ≡ parent_of q → node_among nodes q ≡ None → n ≡ length links.first → GetsChild links more u → (notes : Prefix → Option ℕ)
      → ((p : Prefix) → notes p ≡ cond (same_prefix q p) (Some n) (noted p)) → HasNode (with_node nodes q) notes more q n
  group_made_node q u n g stands new e child notes updates = record { tree = by (parent_of q) refl; number = made_node q new n e }
    where
      by : (o : Option Prefix) → parent_of q ≡ o → IsTree (with_node nodes q) notes more
      by None orphaned = absurd (orphan q g orphaned)
      by (Some r) parent = tree_noted q r u parent (stands ∙ parent) new child notes (λ p. updates p ∙ ap (λ (m : ℕ). cond (same_prefix q p) (Some m) (noted p)) e)

-- ---- an owner that has its node
any_all : (P : Prefix → Type 0) (xs : List Prefix) (p : Prefix) → AllByRecursion P xs → list_any (same_prefix p) xs ≡ true → P p
any_all P [] p h e = absurd (cc)
any_all P (x ∷ xs) p h e = by (same_prefix p x) refl e (any_all P xs p h.1)
  where
    by : (b : Bool) → same_prefix p x ≡ b → (b || list_any (same_prefix p) xs) ≡ true → (list_any (same_prefix p) xs ≡ true → P p) → P p
    by true s e rest = subst P (sym (prefix_is p x s)) h.0
    by false s e rest = rest e

parent_there : (nodes : List Prefix) (p r : Prefix) → AreHeld nodes → parent_of p ≡ Some r → list_any (same_prefix p) nodes ≡ true → list_any (same_prefix r) nodes ≡ true
parent_there nodes p r held e h = subst (IsHeld nodes) e (any_all (λ q. IsHeld nodes (parent_of q)) nodes p held h)

rooted_there : (nodes : List Prefix) (test : Prefix → Bool) → list_any test nodes ≡ true → rooted nodes ≡ nodes
rooted_there [] test h = absurd (cc)
rooted_there (n ∷ ns) test h = refl

-- no node is made for an owner that has one
pub grown_there : (nodes : List Prefix) (o : Owner) (n : ℕ) → AreHeld nodes → node_among nodes (prefix_of o) ≡ Some n → with_nodes (rooted nodes) (fronts_of o) ≡ nodes
grown_there nodes o n held e =
    let own = some_any (same_prefix (prefix_of o)) nodes n e in
    let group = parent_there nodes (prefix_of o) (group_of o) held (owner_parent o) own in
    let host = parent_there nodes (group_of o) (host_of o) held (group_parent o) group in
    ap (λ l. with_nodes l (fronts_of o)) (rooted_there nodes (same_prefix (prefix_of o)) own)
    ∙ (ap (λ l. with_node (with_node l (group_of o)) (prefix_of o)) (there nodes (host_of o) host)
    ∙ (ap (λ l. with_node l (prefix_of o)) (there nodes (group_of o) group) ∙ there nodes (prefix_of o) own))

-- the nodes that are made for an owner are its own and those of groups
pub grown_other : (nodes : List Prefix) (o : Owner) (p : Prefix) → same_prefix p Root ≡ false → is_group p ≡ false → same_prefix p (prefix_of o) ≡ false → node_among (with_nodes (rooted nodes) (fronts_of o)) p ≡ node_among nodes p
grown_other nodes o p root alone own =
    let grouped : (q : Prefix) → is_group q ≡ true → same_prefix p q ≡ false = λ q g. turned q p (differ is_group q p g alone) in
    node_other (with_node (with_node (rooted nodes) (host_of o)) (group_of o)) (prefix_of o) p own
    ∙ (node_other (with_node (rooted nodes) (host_of o)) (group_of o) p (grouped (group_of o) (group_noted o))
    ∙ (node_other (rooted nodes) (host_of o) p (grouped (host_of o) (host_noted o)) ∙ node_rooted nodes p root))

pub owner_root : (o : Owner) → same_prefix (prefix_of o) Root ≡ false
owner_root (Cpu host cpu) = refl
owner_root (Idle host cpu) = refl
owner_root (Thread host tid) = refl

-- ---- an owner that gets its node: the root, its host and its group are made where they lack, and then its own
module _ (nodes : List Prefix) (noted hosts : Prefix → Option ℕ) (links with_root with_host : LinkLists) (o : Owner) (host : Prefix) (a : ℕ)
    (tree : IsTree nodes noted links) (root : slice_get (rooted nodes) 0 ≡ Some Root)
    (first : with_root.first ≡ rooted_links links.first) (last : with_root.last ≡ rooted_links links.last) (next : with_root.next ≡ rooted_links links.next) (host_is : host ≡ host_of o)
    (host_node : (ns : List Prefix) → IsTree ns noted with_root → slice_get ns 0 ≡ parent_of host → HasNode (with_node ns host) hosts with_host host a) where
  root_tree : IsTree (rooted nodes) noted with_root
  root_tree = tree_rooted nodes noted links with_root tree first last next

  host_below : slice_get (rooted nodes) 0 ≡ parent_of host
  host_below = root ∙ sym (ap parent_of host_is ∙ host_parent o)

  host_made : HasNode (with_node (rooted nodes) host) hosts with_host host a
  host_made = host_node (rooted nodes) root_tree host_below

  host_stands : slice_get (with_node (rooted nodes) host) a ≡ Some host
  host_stands = position_stands same_prefix prefix_is (with_node (rooted nodes) host) host a host_made.number

  pub host_within : a < length with_host.first
  host_within = tree_within (with_node (rooted nodes) host) hosts with_host with_host host_made.tree a host host_stands

  module _ (groups : Prefix → Option ℕ) (with_group : LinkLists) (group : Prefix) (b : ℕ) (group_is : group ≡ group_of o)
      (group_node : (ns : List Prefix) → IsTree ns hosts with_host → slice_get ns a ≡ parent_of group → HasNode (with_node ns group) groups with_group group b) where
    group_below : slice_get (with_node (rooted nodes) host) a ≡ parent_of group
    group_below = host_stands ∙ (ap Some host_is ∙ sym (ap parent_of group_is ∙ group_parent o))

    group_made : HasNode (with_node (with_node (rooted nodes) host) group) groups with_group group b
    group_made = group_node (with_node (rooted nodes) host) host_made.tree group_below

    group_stands : slice_get (with_node (with_node (rooted nodes) host) group) b ≡ Some group
    group_stands = position_stands same_prefix prefix_is (with_node (with_node (rooted nodes) host) group) group b group_made.number

    pub group_within : b < length with_group.first
    group_within = tree_within (with_node (with_node (rooted nodes) host) group) groups with_group with_group group_made.tree b group group_stands

    named : with_node (with_node (rooted nodes) host) group ≡ with_node (with_node (rooted nodes) (host_of o)) (group_of o)
    named = ap₂ (λ h g. with_node (with_node (rooted nodes) h) g) host_is group_is

    still_new : node_among nodes (prefix_of o) ≡ None → node_among (with_node (with_node (rooted nodes) host) group) (prefix_of o) ≡ None
    still_new new =
        ap (λ l. node_among l (prefix_of o)) named
        ∙ (node_other (with_node (rooted nodes) (host_of o)) (group_of o) (prefix_of o) (turned (group_of o) (prefix_of o) (differ is_group (group_of o) (prefix_of o) (group_noted o) (owner_unnoted o)))
        ∙ (node_other (rooted nodes) (host_of o) (prefix_of o) (turned (host_of o) (prefix_of o) (differ is_group (host_of o) (prefix_of o) (host_noted o) (owner_unnoted o))) ∙ (node_rooted nodes (prefix_of o) (owner_root o) ∙ new)))

    pub owner_made : (more : LinkLists) (n : ℕ) → node_among nodes (prefix_of o) ≡ None → n ≡ length with_group.first → GetsChild with_group more b → HasNode (with_nodes (rooted nodes) (fronts_of o)) groups more (prefix_of o) n
    owner_made more n new e child =
        subst (λ l. HasNode (with_node l (prefix_of o)) groups more (prefix_of o) n) named (record {
          tree = tree_more (with_node (with_node (rooted nodes) host) group) groups with_group more group_made.tree (prefix_of o) (group_of o) b (owner_parent o) (group_stands ∙ ap Some group_is) (still_new new) child (owner_unnoted o);
          number = made_node (with_node (with_node (rooted nodes) host) group) groups with_group with_group group_made.tree (prefix_of o) (still_new new) n e;
        })
