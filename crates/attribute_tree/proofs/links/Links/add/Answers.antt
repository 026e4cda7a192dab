use Rattle.std.proofs.Common.{rules, ◌≡◌, ◌<◌, ℕ, length, get_or, refl, sym, ap, ◌∙◌, subst}
use Rattle.attribute_tree.specs.Links.{LinkLists, AreRings, with_ringed}
use Rattle.attribute_tree.proofs.Said.{read_at, firsts_length}
use Rattle.attribute_tree.proofs.Rings.{gets_child, rings_stay}
use Rattle.attribute_tree.proofs.links.Links.add.Goals as goal

pub invariant_of-self : goal.invariant_of-self
invariant_of-self c =
    let last = c.self.inside.last_child.items in
    let ring = c.self.inside.ring.items in
    let within : c.args.parent < length last = subst (λ (n : ℕ). c.args.parent < n) (sym (ap (λ (l : LinkLists). length l.first) c.self.view_is) ∙ firsts_length ring last) c.requires.parent in
    let child : c.index-last.result.now ≡ get_or last c.args.parent 0 = read_at last c.args.parent c.index-last.result.now within c.index-last.ensures in
    let node : c.len-node.result ≡ length last = search rules in
    let stay = rings_stay last ring c.args.parent c.index-last.result.now c.len-node.result c.self.invariant within child node in
    subst (AreRings c.link_last.new.last.items) (sym c.link_ring.ensures.items) (subst (λ k. AreRings k (with_ringed ring c.index-last.result.now c.len-node.result)) (sym c.link_last.ensures.items) stay)

pub returns-clause-links : goal.returns-clause-links
returns-clause-links c =
    let last = c.self.inside.last_child.items in
    let ring = c.self.inside.ring.items in
    let within : c.args.parent < length last = subst (λ (n : ℕ). c.args.parent < n) (sym (ap (λ (l : LinkLists). length l.first) c.self.view_is) ∙ firsts_length ring last) c.requires.parent in
    let child : c.index-last.result.now ≡ get_or last c.args.parent 0 = read_at last c.args.parent c.index-last.result.now within c.index-last.ensures in
    let node : c.len-node.result ≡ length last = search rules in
    gets_child last ring c.args.parent c.index-last.result.now c.len-node.result c.self.invariant within child node _ _ _ _ _ c.self.view_is c.link_last.ensures.items c.link_ring.ensures.items refl refl refl
