-- Hosts and a drift have one answer.
use Rattle.std.proofs.Common.{◌≡◌, ◌<◌, ◌≤◌, ◌⊎◌, inl, inr, ℕ, List, length, get_or, sym, ap₂, ◌∙◌, subst, arith}
use Rattle.std.proofs.lemmas.Bool.{cases_lt, eq-eqb}
use Rattle.std.proofs.lemmas.List.{same_lists}
use Rattle.std.proofs.lemmas.Option.{slice_get-get_or}
use Rattle.message_match.specs.declared.message.Message.{Message}
use Rattle.message_match.proofs.OneAnswer.{one_answer as one_list_of_messages}
use Rattle.host_tree.specs.declared.parent.Parent.{Parent}
use Rattle.host_tree.specs.declared.parent.Parent.TheVariants.{Root, Child}
use Rattle.host_tree.specs.Fits.{AreFits}
use Rattle.host_tree.proofs.Gets.{within}
use Rattle.host_tree.proofs.Order.{rooted}
use Rattle.trace_types.specs.declared.event.Merged.{Merged}
use Rattle.host_merge.specs.declared.placed.Placed.{Placed}
use Rattle.host_merge.specs.Placed.{ArePlaced, IsAt, is_of}
use Rattle.host_merge.proofs.Spots.{count_more}
use Rattle.host_sync.specs.Laws.{HaveOneAnswer, IsSameParentAndSlopes}
use Rattle.host_sync.proofs.OneFits.{Agree, have_same_pairs, parents_agree}
use Rattle.host_sync.proofs.OneMerge.{one_merge}

-- an event stands at one place
one_place : (merged : List Merged) (host number j k : ℕ) → IsAt merged host number j → IsAt merged host number k → j ≡ k
one_place merged host number j k a b = by (cases_lt j k) (cases_lt k j)
  where
    by : (j < k) ⊎ (k ≤ j) → (k < j) ⊎ (j ≤ k) → j ≡ k
    by (inl less) other = let more = count_more (is_of host) merged j k a.event a.there (eq-eqb a.event.event.host host a.of_host) less in absurd (omega (arith, more, a.before, b.before))
    by (inr low) (inl less) = let more = count_more (is_of host) merged k j b.event b.there (eq-eqb b.event.event.host host b.of_host) less in absurd (omega (arith, more, a.before, b.before))
    by (inr low) (inr high) = omega arith

pub one_placed : (merged : List Merged) (messages : List Message) (placed others : List Placed) → ArePlaced merged messages placed → ArePlaced merged messages others → placed ≡ others
one_placed merged messages placed others a b = same_lists placed others (a.count ∙ sym b.count) (λ k d h.
    let m = within messages k (omega (arith, a.count)) in
    let x = a.each k m.0 (get_or placed k d) m.1 (slice_get-get_or placed k d h) in
    let y = b.each k m.0 (get_or others k d) m.1 (slice_get-get_or others k d (omega (arith, a.count, b.count))) in
    ap₂ (λ s r. record { send = s; receive = r }) (one_place merged m.0.from m.0.send _ _ x.0 y.0) (one_place merged m.0.to m.0.receive _ _ x.1 y.1))

slopes_of : (p q : Parent) → Agree p q → IsSameParentAndSlopes p q
slopes_of Root Root g = tt
slopes_of Root (Child q n) g = g
slopes_of (Child p m) Root g = g
slopes_of (Child p m) (Child q n) g = (g.0, g.1.0, g.1.1)

pub one_answer : HaveOneAnswer
one_answer hosts drift s z are a b =
    let messages = one_list_of_messages hosts s.matched z.matched s.ambiguous z.ambiguous a.messages b.messages in
    let fits : AreFits (length hosts) s.matched drift z.fits = subst (λ l. AreFits (length hosts) l drift z.fits) (sym messages.0) b.fits_are in
    let agree = parents_agree (length hosts) s.matched drift s.fits z.fits s.parents z.parents a.fits_are fits a.forest b.forest in
    let merged : s.merged ≡ z.merged = one_merge s.parents z.parents hosts s.merged z.merged a.forest.count b.forest.count are.times (rooted (length hosts) s.fits s.parents a.forest) agree a.merge b.merge in
    let places : ArePlaced s.merged s.matched z.placed = subst (λ l. ArePlaced l s.matched z.placed) (sym merged) (subst (λ l. ArePlaced z.merged l z.placed) (sym messages.0) b.places) in
    record {
      matched = messages.0;
      ambiguous = messages.1;
      pairs = have_same_pairs (length hosts) s.matched drift s.fits z.fits a.fits_are fits;
      parents = λ host p q e f. slopes_of p q (agree host p q e f);
      count = a.forest.count ∙ sym b.forest.count;
      merged = merged;
      placed = one_placed s.merged s.matched s.placed z.placed a.places places;
    }
