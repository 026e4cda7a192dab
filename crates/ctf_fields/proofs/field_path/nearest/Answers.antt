use Rattle.std.proofs.Common.{◌∙◌, sym, rules}
use Rattle.ctf_fields.proofs.Nearest.{nearest_before, nearest_here}
use Rattle.ctf_fields.proofs.field_path.nearest.Goals as goal

pub returns-then-is_same : goal.returns-then-is_same
returns-then-is_same c =
    sym (nearest_here c.args.table.now.names c.args.name c.args.members.now c.loop-behind.behind c.index-members-members.result c.is_same.result c.loop-behind-test.true c.index-members-members.is (search rules) c.if-is_same.true) ∙ c.loop-behind.invariant

pub loop-behind-preserved : goal.loop-behind-preserved
loop-behind-preserved c =
    nearest_before c.args.table.now.names c.args.name c.args.members.now c.loop-behind.behind c.index-members-members.result c.is_same.result c.loop-behind-test.true c.index-members-members.is (search rules) c.if-is_same.false ∙ c.loop-behind.invariant
