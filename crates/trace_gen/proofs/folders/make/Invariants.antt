use Rattle.ht_outside.specs.Stored.{files_of}
use Rattle.trace_gen.specs.Folders.{AreSame, folders}
use Rattle.trace_gen.proofs.folders.make.Given as goal

abbrev pub invariant-loop-host : goal.invariant-loop-host
invariant-loop-host l = AreSame (files_of l.store) (folders l.host l.events.items)
