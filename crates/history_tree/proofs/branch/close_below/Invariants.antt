use Rattle.std.proofs.Common.{◌≡◌, Some}
use Rattle.history_tree.proofs.Climbs.{height}
use Rattle.history_tree.proofs.Closing.{IsClosing}
use Rattle.history_tree.proofs.branch.close_below.Given as goal

abbrev pub invariant-loop-number : goal.invariant-loop-number
invariant-loop-number l =
    record {
      closing : IsClosing l.fn.nodes.nodes l.nodes.nodes l.fn.from l.number l.fn.top l.fn.end;
      spare : l.nodes.spare ≡ l.fn.nodes.spare;
    }

abbrev pub decreases-loop-number : goal.decreases-loop-number
decreases-loop-number l = height l.nodes.nodes (Some l.number)
