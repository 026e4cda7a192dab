-- What is known stays as the table grows.
use Rattle.std.proofs.Common.{◌≡◌, ℕ, ◌<◌, ◌≤◌, List, [], ◌∷◌, ◌++◌, length, Option, Some, None, option_map, map, reverse, refl, sym, ap, ◌∙◌, subst, arith}
use Rattle.std.specs.List.{AllByRecursion}
use Rattle.std.proofs.lemmas.List.{reverse-append}
use Rattle.type_scope.specs.declared.scope.Frame.{Frame as FrameKept}
use Rattle.type_scope.specs.declared.scope.DeferredPath.{DeferredPath as DeferredKept}
use Rattle.type_table.specs.declared.per_scope.PerScope.{PerScope}
use Rattle.type_table.proofs.EachScope.{all_scopes_more, map_scopes_same}
use Rattle.type_table.specs.declared.meta.FieldMeta.{FieldMeta}
use Rattle.type_table.specs.Types.{Text, Ty}
use Rattle.type_table.specs.Table.{Table, Keeps, name_at, tree, AreBelow, FieldsIn, FieldNamesIn}
use Rattle.type_scope.specs.TypeScopes.{Frame, DeferredPath, Scopes, TypeScope, Declared}
use Rattle.type_table.specs.declared.declared.EventId.{EventId}
use Rattle.type_table.specs.declared.declared.EventParts.{EventParts}
use Rattle.type_table.specs.declared.declared.StreamScopes.{StreamScopes}
use Rattle.type_table.specs.TraceMetas.{DeclaredIndices}
use Rattle.type_scope.specs.View.{TypeScopeModel, IsKept, FrameIn, DeferredIn, NamedIn, ScopesIn, names_at, read_at, frame_at, scopes_at, deferred_at, known_at, with_table, event_at, stream_at, declared_at}
use Rattle.type_table.specs.TraceMetas.{IfHere, IndexIn, EventIn, StreamIn, DeclaredIn}

along : {A B : Type 0} (f : A → B) (x y : A) → x ≡ y → f x ≡ f y
along f x y h = ap f h

-- ---- lists

pub map_same : {A B : Type 0} (f g : A → B) (P : A → Type 0) → ((a : A) → P a → f a ≡ g a) → (xs : List A) → AllByRecursion P xs → map f xs ≡ map g xs
map_same f g P same [] h = refl
map_same f g P same (x ∷ xs) h = along (λ y. y ∷ map f xs) _ _ (same x h.0) ∙ along (λ ys. g x ∷ ys) _ _ (map_same f g P same xs h.1)

pub all_more : {A : Type 0} (P Q : A → Type 0) → ((a : A) → P a → Q a) → (xs : List A) → AllByRecursion P xs → AllByRecursion Q xs
all_more P Q more [] h = tt
all_more P Q more (x ∷ xs) h = (more x h.0, all_more P Q more xs h.1)

pub all_append : {A : Type 0} (P : A → Type 0) (xs ys : List A) → AllByRecursion P xs → AllByRecursion P ys → AllByRecursion P (xs ++ ys)
all_append P [] ys h k = k
all_append P (x ∷ xs) ys h k = (h.0, all_append P xs ys h.1 k)

pub all_front : {A : Type 0} (P : A → Type 0) (xs ys : List A) → AllByRecursion P (xs ++ ys) → AllByRecursion P xs
all_front P [] ys h = tt
all_front P (x ∷ xs) ys h = (h.0, all_front P xs ys h.1)

pub all_back : {A : Type 0} (P : A → Type 0) (xs ys : List A) → AllByRecursion P (xs ++ ys) → AllByRecursion P ys
all_back P [] ys h = h
all_back P (x ∷ xs) ys h = all_back P xs ys h.1

pub all_reverse : {A : Type 0} (P : A → Type 0) (xs : List A) → AllByRecursion P xs → AllByRecursion P (reverse xs)
all_reverse P [] h = tt
all_reverse P (x ∷ xs) h = subst (AllByRecursion P) (sym (reverse-append (x ∷ []) xs)) (all_append P (reverse xs) (x ∷ []) (all_reverse P xs h.1) (h.0, tt))

here_same : {A B : Type 0} (f g : A → B) (P : A → Type 0) → ((a : A) → P a → f a ≡ g a) → (o : Option A) → IfHere P o → option_map f o ≡ option_map g o
here_same f g P same None h = refl
here_same f g P same (Some a) h = along Some _ _ (same a h)

here_more : {A : Type 0} (P Q : A → Type 0) → ((a : A) → P a → Q a) → (o : Option A) → IfHere P o → IfHere Q o
here_more P Q more None h = tt
here_more P Q more (Some a) h = more a h

abbrev pub the_known : List (Text × Ty) → List (Text × Ty) → List (Text × Ty) → List (Text × Ty) → List Frame → Scopes → List DeferredPath → Declared → TypeScope
the_known a b c d f s l o = record { aliases = a; structs = b; variants = c; enums = d; frames = f; scopes = s; deferred = l; declared = o }

pub known_by : {a b c d : List (Text × Ty)} {a2 b2 c2 d2 : List (Text × Ty)} {f f2 : List Frame} {s s2 : Scopes} {l l2 : List DeferredPath} {o o2 : Declared} → a ≡ a2 → b ≡ b2 → c ≡ c2 → d ≡ d2 → f ≡ f2 → s ≡ s2 → l ≡ l2 → o ≡ o2
    → the_known a b c d f s l o ≡ the_known a2 b2 c2 d2 f2 s2 l2 o2
known_by p q r t u v w x = λ i. the_known (p i) (q i) (r i) (t i) (u i) (v i) (w i) (x i)

-- ---- numbers and indices

pub below_all : (n : ℕ) (xs : List ℕ) → AreBelow n xs → AllByRecursion (λ x. x < n) xs
below_all n [] h = tt
below_all n (x ∷ xs) h = (h.0, below_all n xs h.1)

pub below_rise : (n m : ℕ) (xs : List ℕ) → n ≤ m → AreBelow n xs → AreBelow m xs
below_rise n m [] le h = tt
below_rise n m (x ∷ xs) le h = (omega (arith, le, h.0), below_rise n m xs le h.1)

pub fields_rise : (n m : ℕ) (fs : List FieldMeta) → n ≤ m → FieldsIn n fs → FieldsIn m fs
fields_rise n m [] le h = tt
fields_rise n m (f ∷ fs) le h = (omega (arith, le, h.0), fields_rise n m fs le h.1)

pub field_names_rise : (n m : ℕ) (fs : List FieldMeta) → n ≤ m → FieldNamesIn n fs → FieldNamesIn m fs
field_names_rise n m [] le h = tt
field_names_rise n m (f ∷ fs) le h = (omega (arith, le, h.0), field_names_rise n m fs le h.1)

module _ (old new : Table) (keeps : Keeps old new) where
  pub read_keeps : (fs : List FieldMeta) → FieldsIn (length old.types) fs → FieldNamesIn (length old.names) fs → read_at new fs ≡ read_at old fs
  read_keeps [] h n = refl
  read_keeps (f ∷ fs) h n =
      along (λ a. (a, tree new f.ty) ∷ read_at new fs) _ _ (keeps.names f.name n.0)
      ∙ along (λ t. (name_at old.names f.name, t) ∷ read_at new fs) _ _ (keeps.types f.ty h.0)
      ∙ along (λ rest. (name_at old.names f.name, tree old f.ty) ∷ rest) _ _ (read_keeps fs h.1 n.1)

  pub words_keep : (ws : List ℕ) → AreBelow (length old.names) ws → map (name_at new.names) ws ≡ map (name_at old.names) ws
  words_keep ws h = map_same (name_at new.names) (name_at old.names) (λ x. x < length old.names) keeps.names ws (below_all (length old.names) ws h)

  pub frame_keeps : (f : FrameKept) → FrameIn old f → frame_at new f ≡ frame_at old f
  frame_keeps f h =
      along (λ i. record { is_struct = f.is_struct; inner = i; fields = read_at new f.fields }) _ _ (here_same (name_at new.names) (name_at old.names) (λ n. n < length old.names) keeps.names f.inner h.0)
      ∙ along (λ fs. record { is_struct = f.is_struct; inner = option_map (name_at old.names) f.inner; fields = fs }) _ _ (read_keeps f.fields h.1 h.2)

  pub frame_rises : (f : FrameKept) → FrameIn old f → FrameIn new f
  frame_rises f h = (here_more _ _ (λ n in_old. omega (arith, in_old, keeps.more_names)) f.inner h.0, fields_rise (length old.types) (length new.types) f.fields keeps.more_types h.1, field_names_rise (length old.names) (length new.names) f.fields keeps.more_names h.2)

  named_keeps : (es : List (Text × ℕ)) → AllByRecursion (NamedIn old) es → names_at new es ≡ names_at old es
  named_keeps es h = map_same (λ e. (e.0, tree new e.1)) (λ e. (e.0, tree old e.1)) (NamedIn old) (λ e in_old. along (λ t. (e.0, t)) _ _ (keeps.types e.1 in_old)) es h

  named_rises : (es : List (Text × ℕ)) → AllByRecursion (NamedIn old) es → AllByRecursion (NamedIn new) es
  named_rises es h = all_more (NamedIn old) (NamedIn new) (λ e in_old. omega (arith, in_old, keeps.more_types)) es h

  index_rises : (o : Option ℕ) → IfHere (IndexIn old) o → IfHere (IndexIn new) o
  index_rises o h = here_more (IndexIn old) (IndexIn new) (λ p in_old. omega (arith, in_old, keeps.more_types)) o h

  index_keeps : (o : Option ℕ) → IfHere (IndexIn old) o → option_map (tree new) o ≡ option_map (tree old) o
  index_keeps o h = here_same (tree new) (tree old) (IndexIn old) keeps.types o h

  scopes_keep : (s : PerScope (Option ℕ)) → ScopesIn old s → scopes_at new s ≡ scopes_at old s
  scopes_keep s h = map_scopes_same (option_map (tree new)) (option_map (tree old)) (IfHere (IndexIn old)) index_keeps s h

  scopes_rise : (s : PerScope (Option ℕ)) → ScopesIn old s → ScopesIn new s
  scopes_rise s h = all_scopes_more (IfHere (IndexIn old)) (IfHere (IndexIn new)) index_rises s h

  later_keeps : (ls : List DeferredKept) → AllByRecursion (DeferredIn old) ls → map (deferred_at new) ls ≡ map (deferred_at old) ls
  later_keeps ls h = map_same (deferred_at new) (deferred_at old) (DeferredIn old) (λ l in_old. along (λ ws. record { path_use = l.path_use; scope = l.scope; names = ws }) _ _ (words_keep l.words in_old)) ls h

  stream_keeps : (s : ℕ × StreamScopes) → StreamIn old s → stream_at new s ≡ stream_at old s
  stream_keeps s h =
      along (λ x. (s.0, record { packet_context = x; event_header = option_map (tree new) s.1.event_header; event_context = option_map (tree new) s.1.event_context })) _ _ (index_keeps s.1.packet_context h.0)
      ∙ along (λ x. (s.0, record { packet_context = option_map (tree old) s.1.packet_context; event_header = x; event_context = option_map (tree new) s.1.event_context })) _ _ (index_keeps s.1.event_header h.1)
      ∙ along (λ x. (s.0, record { packet_context = option_map (tree old) s.1.packet_context; event_header = option_map (tree old) s.1.event_header; event_context = x })) _ _ (index_keeps s.1.event_context h.2)

  event_keeps : (e : EventId × EventParts) → EventIn old e → event_at new e ≡ event_at old e
  event_keeps e h =
      along (λ x. (e.0, record { name = e.1.name; context = x; fields = option_map (tree new) e.1.fields })) _ _ (index_keeps e.1.context h.0)
      ∙ along (λ x. (e.0, record { name = e.1.name; context = option_map (tree old) e.1.context; fields = x })) _ _ (index_keeps e.1.fields h.1)

  told_keeps : (declared : DeclaredIndices) → DeclaredIn old declared → declared_at new declared ≡ declared_at old declared
  told_keeps declared h =
      along (λ x. record { is_trace_read = declared.is_trace_read; uuid = declared.uuid; streams = x; events = map (event_at new) declared.events; event_names = declared.event_names; clocks = declared.clocks; hostname = declared.hostname }) _ _ (map_same (stream_at new) (stream_at old) (StreamIn old) stream_keeps declared.streams h.streams)
      ∙ along (λ x. record { is_trace_read = declared.is_trace_read; uuid = declared.uuid; streams = map (stream_at old) declared.streams; events = x; event_names = declared.event_names; clocks = declared.clocks; hostname = declared.hostname }) _ _ (map_same (event_at new) (event_at old) (EventIn old) event_keeps declared.events h.events)

  told_rises : (declared : DeclaredIndices) → DeclaredIn old declared → DeclaredIn new declared
  told_rises declared h = record {
    streams = all_more (StreamIn old) (StreamIn new) (λ s in_old. (index_rises s.1.packet_context in_old.0, index_rises s.1.event_header in_old.1, index_rises s.1.event_context in_old.2)) declared.streams h.streams;
    events = all_more (EventIn old) (EventIn new) (λ e in_old. (index_rises e.1.context in_old.0, index_rises e.1.fields in_old.1)) declared.events h.events;
  }

  -- what is known is the same
  pub known_keeps : (k : TypeScopeModel) → IsKept old k → known_at new k ≡ known_at old k
  known_keeps k h =
      known_by (named_keeps k.aliases h.aliases) (named_keeps k.structs h.structs) (named_keeps k.variants h.variants) (named_keeps k.enums h.enums)
      (map_same (frame_at new) (frame_at old) (FrameIn old) frame_keeps (reverse k.frames) (all_reverse (FrameIn old) k.frames h.frames))
      (scopes_keep k.scopes h.scopes) (later_keeps k.deferred h.deferred) (told_keeps k.declared h.declared)

  pub kept_rises : (k : TypeScopeModel) → IsKept old k → IsKept new (with_table new k)
  kept_rises k h = record {
    aliases = named_rises k.aliases h.aliases;
    structs = named_rises k.structs h.structs;
    variants = named_rises k.variants h.variants;
    enums = named_rises k.enums h.enums;
    frames = all_more (FrameIn old) (FrameIn new) frame_rises k.frames h.frames;
    scopes = scopes_rise k.scopes h.scopes;
    deferred = all_more (DeferredIn old) (DeferredIn new) (λ l in_old. below_rise (length old.names) (length new.names) l.words keeps.more_names in_old) k.deferred h.deferred;
    declared = told_rises k.declared h.declared;
  }
