use Rattle.std.proofs.Common.{subst, sym}
use Rattle.read_plan.specs.FixedSizes.{AreSkips}
use Rattle.packet_decoder.proofs.reader.EventReader.skip_rest.Goals as goal

pub pass_rest-requires-clause-skips : goal.pass_rest-requires-clause-skips
pass_rest-requires-clause-skips c = subst (λ u. AreSkips u.within.meta c.args.skips.now) (sym c.self.view_is) c.requires
