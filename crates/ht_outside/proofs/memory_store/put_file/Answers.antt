use Rattle.ht_outside.proofs.Places.{put_replaced, put_added}
use Rattle.ht_outside.proofs.memory_store.put_file.Goals as goal

pub returns-in-Some-clause-ok : goal.returns-in-Some-clause-ok
returns-in-Some-clause-ok c = put_replaced _ _ c.args.file _ _ c.in-Some.place c.deref.ensures.value c.as_bytes.ensures c.as_bytes-2.ensures c.in-Some.ensures

pub returns-in_ok-push-in-None-clause-ok : goal.returns-in_ok-push-in-None-clause-ok
returns-in_ok-push-in-None-clause-ok c = put_added _ _ _ c.args.file _ _ c.deref.ensures.value c.as_bytes.ensures c.as_bytes-2.ensures c.in-None.ensures c.in_ok-push-in-None.ensures.items
