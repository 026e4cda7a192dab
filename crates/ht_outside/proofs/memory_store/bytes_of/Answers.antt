use Rattle.std.proofs.Common.{◌∙◌, sym}
use Rattle.ht_outside.proofs.Places.{bytes_found, bytes_missing}
use Rattle.ht_outside.proofs.memory_store.bytes_of.Goals as goal

pub returns-in-Some : goal.returns-in-Some
returns-in-Some c = c.as_bytes.ensures ∙ sym (bytes_found c.args.files.now _ _ c.in-Some.place c.index-files-place.result c.in-Some.ensures)

pub returns-in-None : goal.returns-in-None
returns-in-None c = sym (bytes_missing c.args.files.now _ _ c.in-None.ensures)
