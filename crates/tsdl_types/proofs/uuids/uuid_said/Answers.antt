use Rattle.std.proofs.Common.{rules}
use Rattle.uuid.specs.Text.{parsed}
use Rattle.tsdl_types.specs.Uuids.{uuid_said}
use Rattle.tsdl_types.proofs.Unread.{none_of}
use Rattle.tsdl_types.proofs.uuids.uuid_said.Goals as goal

pub returns-in-Err : goal.returns-in-Err
unfolding uuid_said
returns-in-Err c =
    let none = none_of (parsed c.as_bytes.result.now) (λ p. c.in-Err.ensures.ok.1 p) in
    search rules
