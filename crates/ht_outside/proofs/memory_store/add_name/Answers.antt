use Rattle.std.proofs.Common.{◌∙◌, sym, rules}
use Rattle.ht_outside.proofs.Listing.{elsewhere, again, listed, is_false, is_true, not_true}
use Rattle.ht_outside.proofs.memory_store.add_name.Goals as goal

pub returns-then-ne : goal.returns-then-ne
returns-then-ne c = record { ok = λ files h. elsewhere files c.args.file.now _ _ h (rw (← c.as_bytes.ensures) (is_false _ (sym c.ne.ensures ∙ c.if-ne.true))) }

pub returns-then-lists : goal.returns-then-lists
returns-then-lists c = record { ok = λ files h. again files c.args.file.now _ _ h (rw (← c.as_bytes-2.ensures, ← c.deref.ensures.value) (c.if-lists.ensures.0 (search rules))) }

pub returns : goal.returns
returns c = record {
  ok = λ files h. rw (c.in_ok-push.ensures.items, c.in_ok-from_bytes.ensures.value, c.as_bytes-3.ensures) (listed files c.args.file.now _ _ h
      (rw (← c.as_bytes.ensures) (is_true _ (sym c.ne.ensures ∙ c.if-ne.false)))
      (rw (← c.as_bytes-2.ensures, ← c.deref.ensures.value) (λ has. not_true (c.if-lists.ensures.1 has))));
}
