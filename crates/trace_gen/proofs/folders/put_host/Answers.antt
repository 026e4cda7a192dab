use Rattle.std.proofs.Common.{rules}
use Rattle.ht_outside.specs.Stored.{files_of}
use Rattle.trace_gen.proofs.Steps.{put_twice}
use Rattle.trace_gen.proofs.folders.put_host.Goals as goal

pub returns : goal.returns
returns c =
    put_twice c.args.host c.args.events.now (files_of c.args.store.now) _ _ _ _ c.put-2.result _ _ (search rules) (search rules) (search rules) (search rules) c.in_ok-put.ensures.ok c.put-2.ensures.ok
