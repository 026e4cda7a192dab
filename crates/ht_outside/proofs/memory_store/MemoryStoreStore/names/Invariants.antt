use Rattle.std.proofs.Common.{take}
use Rattle.ht_outside.proofs.Listing.{HasListed}
use Rattle.ht_outside.proofs.memory_store.MemoryStoreStore.names.Given as goal

abbrev pub invariant-loop-file : goal.invariant-loop-file
invariant-loop-file l = HasListed (take l.file-index l.file-items) l.dir l.names.items
