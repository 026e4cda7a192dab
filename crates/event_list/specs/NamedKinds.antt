-- The kinds that carry the name of an event (this project's own format).
use Rattle.std.specs.Prelude.{◌≡◌, ℕ, Bool, true, false, Option, Some, None, List, [], ◌∷◌}
use Rattle.trace_types.specs.ByteTexts.{byte_text}
use Rattle.trace_types.specs.CallNames.{is_call_in, is_call_out}
use Rattle.trace_types.specs.Ranges.{AreBytes}
use Rattle.trace_types.specs.declared.event.KernelEvent.{KernelEvent}
use Rattle.trace_types.specs.declared.event.KernelEvent.TheVariants as event
use Rattle.trace_types.specs.declared.event_kind.EventKind.{EventKind}
use Rattle.trace_types.specs.declared.event_kind.EventKind.TheVariants.{CallIn, CallOut, Other}

-- the event of a kind that carries a name, with 0 in the place of its number; of another kind there is none
abbrev pub named_event : EventKind → Option KernelEvent
named_event CallIn = Some (event.CallIn 0)
named_event CallOut = Some (event.CallOut 0)
named_event Other = Some (event.Other 0)
named_event kind = None

-- whether an event of this name may be of the kind
abbrev pub may_name : EventKind → List ℕ → Bool
may_name CallIn name = is_call_in name
may_name CallOut name = is_call_out name
may_name Other name = true
may_name kind name = false

-- the one field spells a name that the kind may have
pub record IsNamed (kind : EventKind) (fields : List (List ℕ)) (name : List ℕ) : Type 0 where
  pub spelled : fields ≡ byte_text name ∷ []
  pub may : may_name kind name ≡ true
  pub are_bytes : AreBytes name
