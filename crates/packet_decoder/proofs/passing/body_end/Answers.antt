use Rattle.std.proofs.Common.{◌≡◌, ◌∙◌, sym, ap}
use Rattle.packet_decoder.specs.Events.{cleared}
use Rattle.packet_decoder.specs.EventReaders.{is_bare}
use Rattle.packet_decoder.proofs.PassedOver.{bare_ends}
use Rattle.packet_decoder.proofs.passing.body_end.Goals as goal

pub returns-then-head-clause-answers : goal.returns-then-head-clause-answers
returns-then-head-clause-answers c = λ parts there.
    let w = c.args.packet.now in
    let known = c.requires.declared in
    let same : known.0 ≡ parts = cc in
    bare_ends w (cleared c.args.scopes.now) parts c.args.head.at (sym c.if-head.true ∙ known.2 ∙ ap (is_bare w) same)
