-- A kind carries the name of an event, or it is plain.
use Rattle.std.proofs.Common.{◌≡◌, ◌⊎◌, inl, inr, ℕ, true, List, [], ◌∷◌, Some, None, refl, sym, ap, ◌∙◌}
use Rattle.trace_types.specs.ByteTexts.{byte_text}
use Rattle.trace_types.specs.EventKinds.{kind_of_event, word_of}
use Rattle.trace_types.specs.Ranges.{IsKind, IsPlain}
use Rattle.trace_types.specs.declared.event.KernelEvent.{KernelEvent}
use Rattle.trace_types.specs.declared.event.KernelEvent.TheVariants as kind
use Rattle.trace_types.specs.declared.event_kind.EventKind.TheVariants.{CallIn, CallOut, Other}
use Rattle.event_list.specs.Kinds.{IsOf}
use Rattle.event_list.specs.Lines.{field_words, kind_words, name_at}
use Rattle.event_list.specs.NamedKinds.{IsNamed, named_event}
use Rattle.event_list.specs.Names.{carries_name, with_number}

-- it has no name, and its fields are its own whatever names there are
pub record IsPlainKind (name : List ℕ) (k : KernelEvent) : Type 0 where
  pub plain : IsPlain k
  pub empty : name ≡ []
  pub unnamed : named_event (kind_of_event k) ≡ None
  pub fields : (names : List (List ℕ)) → IsOf (kind_of_event k) (field_words names k) k
  pub words : (names others : List (List ℕ)) → kind_words names k ≡ kind_words others k
  pub stays : (n : ℕ) → with_number n k ≡ k

-- its field is its name, and it has the same words by any number of this name
pub record IsNamedKind (name : List ℕ) (k : KernelEvent) : Type 0 where
  pub named : named_event (kind_of_event k) ≡ Some k
  pub field : IsNamed (kind_of_event k) (field_words (name ∷ []) k) name
  pub carried : carries_name k ≡ true
  pub again : (names : List (List ℕ)) (m : ℕ) → name_at names m ≡ name → kind_words (name ∷ []) k ≡ kind_words names (with_number m k)

pub by_kind : (name : List ℕ) (k : KernelEvent) → IsKind name k → IsPlainKind name k ⊎ IsNamedKind name k
by_kind name (kind.Switch s pt nt pp np pc nc) h = inl (record { plain = h.1; empty = h.0; unnamed = refl; fields = λ ns. (s, pt, nt, pp, np, pc, nc, record { spelled = refl; fit = h.1 }, refl); words = λ ns os. refl; stays = λ n. refl })
by_kind name (kind.Wakeup tid comm prio cpu) h = inl (record { plain = h.1; empty = h.0; unnamed = refl; fields = λ ns. (tid, comm, prio, cpu, record { spelled = refl; fit = h.1 }, refl); words = λ ns os. refl; stays = λ n. refl })
by_kind name (kind.WakeupNew tid comm prio cpu) h = inl (record { plain = h.1; empty = h.0; unnamed = refl; fields = λ ns. (tid, comm, prio, cpu, record { spelled = refl; fit = h.1 }, refl); words = λ ns os. refl; stays = λ n. refl })
by_kind name (kind.Waking tid comm prio cpu) h = inl (record { plain = h.1; empty = h.0; unnamed = refl; fields = λ ns. (tid, comm, prio, cpu, record { spelled = refl; fit = h.1 }, refl); words = λ ns os. refl; stays = λ n. refl })
by_kind name (kind.Fork parent child comm) h = inl (record { plain = h.1; empty = h.0; unnamed = refl; fields = λ ns. (parent, child, comm, record { spelled = refl; fit = h.1 }, refl); words = λ ns os. refl; stays = λ n. refl })
by_kind name (kind.Exit number) h = inl (record { plain = h.1; empty = h.0; unnamed = refl; fields = λ ns. (number, record { spelled = refl; below = h.1 }, refl); words = λ ns os. refl; stays = λ n. refl })
by_kind name (kind.Free number) h = inl (record { plain = h.1; empty = h.0; unnamed = refl; fields = λ ns. (number, record { spelled = refl; below = h.1 }, refl); words = λ ns os. refl; stays = λ n. refl })
by_kind name (kind.Migrate tid cpu) h = inl (record { plain = h.1; empty = h.0; unnamed = refl; fields = λ ns. (tid, cpu, record { spelled = refl; fit = h.1 }, refl); words = λ ns os. refl; stays = λ n. refl })
by_kind name (kind.IrqIn number) h = inl (record { plain = h.1; empty = h.0; unnamed = refl; fields = λ ns. (number, record { spelled = refl; below = h.1 }, refl); words = λ ns os. refl; stays = λ n. refl })
by_kind name (kind.IrqOut number) h = inl (record { plain = h.1; empty = h.0; unnamed = refl; fields = λ ns. (number, record { spelled = refl; below = h.1 }, refl); words = λ ns os. refl; stays = λ n. refl })
by_kind name (kind.SoftIn number) h = inl (record { plain = h.1; empty = h.0; unnamed = refl; fields = λ ns. (number, record { spelled = refl; below = h.1 }, refl); words = λ ns os. refl; stays = λ n. refl })
by_kind name (kind.SoftOut number) h = inl (record { plain = h.1; empty = h.0; unnamed = refl; fields = λ ns. (number, record { spelled = refl; below = h.1 }, refl); words = λ ns os. refl; stays = λ n. refl })
by_kind name (kind.Process tid ppid comm status) h = inl (record { plain = h.1; empty = h.0; unnamed = refl; fields = λ ns. (tid, ppid, comm, status, record { spelled = refl; fit = h.1 }, refl); words = λ ns os. refl; stays = λ n. refl })
by_kind name (kind.CallIn n) h = inr (record { named = ap (λ m. Some (kind.CallIn m)) (sym h.0); field = record { spelled = ap (λ m. byte_text (name_at (name ∷ []) m) ∷ []) h.0; may = h.1; are_bytes = h.2 }; carried = refl; again = λ names m e. ap (λ l. word_of CallIn ∷ byte_text l ∷ []) (ap (name_at (name ∷ [])) h.0 ∙ sym e) })
by_kind name (kind.CallOut n) h = inr (record { named = ap (λ m. Some (kind.CallOut m)) (sym h.0); field = record { spelled = ap (λ m. byte_text (name_at (name ∷ []) m) ∷ []) h.0; may = h.1; are_bytes = h.2 }; carried = refl; again = λ names m e. ap (λ l. word_of CallOut ∷ byte_text l ∷ []) (ap (name_at (name ∷ [])) h.0 ∙ sym e) })
by_kind name (kind.Send key) h = inl (record { plain = h.1; empty = h.0; unnamed = refl; fields = λ ns. (key, record { spelled = refl; fit = h.1 }, refl); words = λ ns os. refl; stays = λ n. refl })
by_kind name (kind.Receive key) h = inl (record { plain = h.1; empty = h.0; unnamed = refl; fields = λ ns. (key, record { spelled = refl; fit = h.1 }, refl); words = λ ns os. refl; stays = λ n. refl })
by_kind name (kind.DiskIssue sector dev count) h = inl (record { plain = h.1; empty = h.0; unnamed = refl; fields = λ ns. (sector, dev, count, record { spelled = refl; fit = h.1 }, refl); words = λ ns os. refl; stays = λ n. refl })
by_kind name (kind.DiskDone sector dev count) h = inl (record { plain = h.1; empty = h.0; unnamed = refl; fields = λ ns. (sector, dev, count, record { spelled = refl; fit = h.1 }, refl); words = λ ns os. refl; stays = λ n. refl })
by_kind name (kind.Lost events gap) h = inl (record { plain = h.1; empty = h.0; unnamed = refl; fields = λ ns. (events, gap, record { spelled = refl; fit = h.1 }, refl); words = λ ns os. refl; stays = λ n. refl })
by_kind name (kind.Other n) h = inr (record { named = ap (λ m. Some (kind.Other m)) (sym h.0); field = record { spelled = ap (λ m. byte_text (name_at (name ∷ []) m) ∷ []) h.0; may = refl; are_bytes = h.1 }; carried = refl; again = λ names m e. ap (λ l. word_of Other ∷ byte_text l ∷ []) (ap (name_at (name ∷ [])) h.0 ∙ sym e) })
