use Rattle.std.proofs.Common.{rules}
use Rattle.type_table.proofs.Tables.{sound_table}
use Rattle.type_table.proofs.table.Table.is_sound.Goals as goal

pub returns : goal.returns
returns c =
    let sound = sound_table c.self.inside.names.keys c.self.inside.types c.self.inside.type_sizes c.self.invariant in
    search rules
