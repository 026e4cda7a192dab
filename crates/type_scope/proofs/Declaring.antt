-- What blocks declared, as it grows.
use Rattle.std.proofs.Common.{◌≡◌, ◌∙◌, ◌++◌, ℕ, ◌<◌, length, arith, List, [], ◌∷◌, map, Option, Some, None, option_map, is_some, IfSome, Bool, true, false, cond, refl, sym, ap, subst, Result, Ok, Err, OnOk, OnErr}
use Rattle.std.specs.List.{AllByRecursion}
use Rattle.std.specs.Map.{lookup}
use Rattle.std.proofs.lemmas.List.{map-append}
use Rattle.trace_types.specs.declared.memory.OutOfMemory.{OutOfMemory}
use Rattle.type_table.specs.declared.per_scope.PerScope.{PerScope}
use Rattle.type_table.specs.PerScope.{with_scope}
use Rattle.type_table.proofs.EachScope.{all_scopes_with, map_scopes_with}
use Rattle.type_table.specs.declared.meta.ScopeName.{ScopeName}
use Rattle.type_table.specs.declared.declared.EventId.{EventId}
use Rattle.type_table.specs.declared.declared.EventParts.{EventParts}
use Rattle.type_table.specs.declared.declared.StreamScopes.{StreamScopes}
use Rattle.type_scope.specs.TypeScopes.{Event}
use Rattle.type_table.specs.Table.{Table, tree, trees}
use Rattle.type_scope.specs.Declaring.{scopes_of}
use Rattle.type_table.specs.TraceMetas.{DeclaredIndices, kept_event, kept_stream}
use Rattle.type_scope.specs.View.{ScopesIn, event_at, indices_begun, scopes_at, stream_at}
use Rattle.type_table.specs.TraceMetas.{EventIn, IfHere, IndexIn, StreamIn, DeclaredIn}
use Rattle.type_table.proofs.Tables.{trees_count}
use Rattle.type_scope.proofs.Views.{all_append}

along : {A B : Type 0} (f : A → B) (x y : A) → x ≡ y → f x ≡ f y
along f x y h = ap f h

pub stream_more : (t : Table) (ss : List (ℕ × StreamScopes)) (s : ℕ × StreamScopes) → map (stream_at t) (ss ++ s ∷ []) ≡ map (stream_at t) ss ++ stream_at t s ∷ []
stream_more t ss s = map-append (stream_at t) ss (s ∷ [])

pub event_more : (t : Table) (es : List (EventId × EventParts)) (e : EventId × EventParts) → map (event_at t) (es ++ e ∷ []) ≡ map (event_at t) es ++ event_at t e ∷ []
event_more t es e = map-append (event_at t) es (e ∷ [])

pub streams_kept : (t : Table) (old new : DeclaredIndices) (id : ℕ) (s : StreamScopes) (r : Result (Unit {0}) OutOfMemory) → OnOk r (new ≡ kept_stream id s old) → OnErr r (new ≡ old) → StreamIn t (id, s) → DeclaredIn t old → DeclaredIn t new
streams_kept t old new id s (Ok u) ok err there all = subst (DeclaredIn t) (sym ok) (record { streams = all_append (StreamIn t) old.streams ((id, s) ∷ []) all.streams (there, tt); events = all.events })
streams_kept t old new id s (Err e) ok err there all = subst (DeclaredIn t) (sym err) all

pub events_kept : (t : Table) (old new : DeclaredIndices) (id : EventId) (e : EventParts) (r : Result (Unit {0}) OutOfMemory) → OnOk r (new ≡ kept_event id e old) → OnErr r (new ≡ old) → EventIn t (id, e) → DeclaredIn t old → DeclaredIn t new
events_kept t old new id e (Ok u) ok err there all = subst (DeclaredIn t) (sym ok) (record { streams = all.streams; events = all_append (EventIn t) old.events ((id, e) ∷ []) all.events (there, tt) })
events_kept t old new id e (Err x) ok err there all = subst (DeclaredIn t) (sym err) all

found_stream : (b : Bool) (t : Table) (s : ℕ × StreamScopes) (o : Option StreamScopes) → cond b (Some (stream_at t s).1) (option_map (λ x. (stream_at t (s.0, x)).1) o) ≡ option_map (λ x. (stream_at t (s.0, x)).1) (cond b (Some s.1) o)
found_stream true t s o = refl
found_stream false t s o = refl

-- what is kept of a stream stands for what is declared of it
pub stream_found : (t : Table) (test : ℕ → Bool) (ss : List (ℕ × StreamScopes)) → lookup test (map (stream_at t) ss) ≡ option_map (λ x. (stream_at t (0, x)).1) (lookup test ss)
stream_found t test [] = refl
stream_found t test (s ∷ ss) = along (λ o. cond (test s.0) (Some (stream_at t s).1) o) _ _ (stream_found t test ss) ∙ found_stream (test s.0) t s (lookup test ss)

none_kept : {A B : Type 0} (f : A → B) (o : Option A) → option_map f o ≡ None → o ≡ None
none_kept f None e = refl
none_kept f (Some a) e = absurd (cc)

pub new_stream : (t : Table) (test : ℕ → Bool) (ss : List (ℕ × StreamScopes)) → lookup test (map (stream_at t) ss) ≡ None → lookup test ss ≡ None
new_stream t test ss h = none_kept _ (lookup test ss) (sym (stream_found t test ss) ∙ h)

event_by : (b : Bool) (t : Table) (e : EventId × EventParts) (o : Option Event) (p : Option EventParts) → is_some o ≡ is_some p → is_some (cond b (Some (event_at t e).1) o) ≡ is_some (cond b (Some e.1) p)
event_by true t e o p h = refl
event_by false t e o p h = h

pub event_found : (t : Table) (test : EventId → Bool) (es : List (EventId × EventParts)) → is_some (lookup test (map (event_at t) es)) ≡ is_some (lookup test es)
event_found t test [] = refl
event_found t test (e ∷ es) = event_by (test e.0) t e (lookup test (map (event_at t) es)) (lookup test es) (event_found t test es)

is_none : {A : Type 0} (o : Option A) → is_some o ≡ false → o ≡ None
is_none None h = refl
is_none (Some a) h = absurd (cc)

pub new_event : (t : Table) (test : EventId → Bool) (es : List (EventId × EventParts)) → is_some (lookup test (map (event_at t) es)) ≡ false → lookup test es ≡ None
new_event t test es h = is_none (lookup test es) (sym (event_found t test es) ∙ h)

within_by : (b : Bool) (t : Table) (s : ℕ × StreamScopes) (o : Option StreamScopes) → StreamIn t s → IfSome o (λ x. StreamIn t (0, x)) → IfSome (cond b (Some s.1) o) (λ x. StreamIn t (0, x))
within_by true t s o h rest = h
within_by false t s o h rest = rest

pub stream_in : (t : Table) (test : ℕ → Bool) (ss : List (ℕ × StreamScopes)) → AllByRecursion (StreamIn t) ss → IfSome (lookup test ss) (λ x. StreamIn t (0, x))
stream_in t test [] h = tt
stream_in t test (s ∷ ss) h = within_by (test s.0) t s (lookup test ss) h.0 (stream_in t test ss h.1)

there : (t : Table) (p : ℕ) → p < length (trees t) → p < length t.types
there t p h = omega (arith, h, trees_count t.names t.types)

pub scopes_set_in : (t : Table) (scope : ScopeName) (p : ℕ) (s : PerScope (Option ℕ)) → p < length (trees t) → ScopesIn t s → ScopesIn t (with_scope scope (Some p) s)
scopes_set_in t scope p s h all = all_scopes_with (IfHere (IndexIn t)) scope (Some p) s (there t p h) all

pub scopes_set_at : (t : Table) (scope : ScopeName) (p : ℕ) (s : PerScope (Option ℕ)) → scopes_at t (with_scope scope (Some p) s) ≡ with_scope scope (Some (tree t p)) (scopes_at t s)
scopes_set_at t scope p s = map_scopes_with (option_map (tree t)) scope (Some p) s

pub begun_in : (t : Table) (s : PerScope (Option ℕ)) (o : Option StreamScopes) → ScopesIn t s → IfSome o (λ x. StreamIn t (0, x)) → ScopesIn t (indices_begun s o)
begun_in t s None all h = record { packet_header = all.packet_header; packet_context = tt; event_header = tt; stream_context = tt; event_context = tt; event_fields = tt }
begun_in t s (Some declared) all h = record { packet_header = all.packet_header; packet_context = h.0; event_header = h.1; stream_context = h.2; event_context = tt; event_fields = tt }

pub begun_at : (t : Table) (s : PerScope (Option ℕ)) (o : Option StreamScopes) → scopes_at t (indices_begun s o) ≡ scopes_of (scopes_at t s) (option_map (λ x. (stream_at t (0, x)).1) o)
begun_at t s None = refl
begun_at t s (Some declared) = refl
