use Rattle.std.proofs.lemmas.List.{take_more}
use Rattle.ht_outside.proofs.memory_store.MemoryStoreStore.names.Goals as goal

pub loop-file-preserved : goal.loop-file-preserved
loop-file-preserved c = rw (take_more _ c.loop-file.file-index c.file-item.result c.loop-file-test.true, ← c.file-item.is) (c.in_ok-add_name.ensures.ok _ c.loop-file.invariant)
