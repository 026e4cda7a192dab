-- The heads of packets are alike by two representations of one trace.
use Rattle.std.proofs.Common.{◌≡◌, ◌∙◌, ℕ, Bool, true, false, cond, if◌then◌else◌, nat_eq, List, [], ◌∷◌, Option, Some, None, Result, Ok, Err, codes, option_map, refl, ap, subst}
use Rattle.std.specs.Map.{lookup}
use Rattle.type_table.specs.SameTrace.{AreBoth, IsSameStream, IsSameTrace, IsSameType}
use Rattle.type_table.specs.PerScope.{no_scopes}
use Rattle.type_table.specs.Table.{Table, IsSoundTable}
use Rattle.type_table.specs.TraceMetas.{IfHere, IsSoundMeta, TraceMetaModel, IndexIn, StreamIn}
use Rattle.type_table.specs.declared.declared.StreamScopes.{StreamScopes}
use Rattle.std.specs.List.{AllByRecursion}
use Rattle.ctf_fields.specs.declared.field.Field.{Field}
use Rattle.ctf_fields.specs.Named.{first_named}
use Rattle.ctf_fields.specs.Reading.{SourceModel, Reads, Got, Fails, as_read, scope_read}
use Rattle.ctf_fields.proofs.Alike.{Alike, AlikeIf, AlikeScopes, ReadBoth, SameType}
use Rattle.trace_types.specs.declared.cause.Cause.{Cause}
use Rattle.trace_types.specs.declared.cause.Cause.TheVariants as cause
use Rattle.packet_decoder.specs.PacketHeads.{by_context, by_header, by_stream, context_read, from_all, header_judged, packet_head, read_scope, stream_by, stream_of, with_header}
use Rattle.packet_decoder.specs.Values.{uuid_matches}
use Rattle.packet_decoder.specs.declared.packet_head.PacketHead.{PacketHead}
use Rattle.ctf_fields.proofs.AlikeFields.{first_alike, named_alike}
use Rattle.ctf_fields.proofs.AlikeReading.{reads_alike}
use Rattle.packet_decoder.proofs.AlikeValues.{same_id, same_id_number, same_magic}

-- two answers are both there, and this holds of them, or refuse for one cause
abbrev pub AnswersBoth : {A B : Type 0} → (A → B → Type 0) → Result A Cause → Result B Cause → Type 0
AnswersBoth P (Ok a) (Ok b) = P a b
AnswersBoth P (Err c) (Err d) = c ≡ d
AnswersBoth P _ _ = ⊥

-- indices of one type, where there are any
abbrev pub SameIndex : Table → Table → Option ℕ → Option ℕ → Type 0
SameIndex t u None None = Unit {0}
SameIndex t u (Some a) (Some b) = SameType t u a b
SameIndex t u _ _ = ⊥

pub record SameScopes (t u : Table) (s r : StreamScopes) : Type 0 where
  pub packet_context : SameIndex t u s.packet_context r.packet_context
  pub event_header : SameIndex t u s.event_header r.event_header
  pub event_context : SameIndex t u s.event_context r.event_context

pub same_index : (t u : Table) (a b : Option ℕ) → IsSameType t u a b → IfHere (IndexIn t) a → IfHere (IndexIn u) b → SameIndex t u a b
same_index t u None None is h k = tt
same_index t u None (Some b) is h k = absurd (cc)
same_index t u (Some a) None is h k = absurd (cc)
same_index t u (Some a) (Some b) is h k = record { left = h; right = k; same = cc }

-- ---- streams

-- two streams of one id with scopes of the same types, or none
abbrev pub SameStreams : Table → Table → Option (ℕ × StreamScopes) → Option (ℕ × StreamScopes) → Type 0
SameStreams t u None None = Unit {0}
SameStreams t u (Some s) (Some r) = (s.0 ≡ r.0) × SameScopes t u s.1 r.1
SameStreams t u _ _ = ⊥

abbrev ScopesBoth : Table → Table → Option StreamScopes → Option StreamScopes → Type 0
ScopesBoth t u None None = Unit {0}
ScopesBoth t u (Some s) (Some r) = SameScopes t u s r
ScopesBoth t u _ _ = ⊥

same_lookup : (t u : Table) (id : ℕ) (ss rs : List (ℕ × StreamScopes)) → AreBoth (IsSameStream t u) ss rs → AllByRecursion (StreamIn t) ss → AllByRecursion (StreamIn u) rs → ScopesBoth t u (lookup (nat_eq id) ss) (lookup (nat_eq id) rs)
same_lookup t u id [] [] both h k = tt
same_lookup t u id [] (r ∷ rs) both h k = absurd both
same_lookup t u id (s ∷ ss) [] both h k = absurd both
same_lookup t u id (s ∷ ss) (r ∷ rs) both h k =
    subst (λ n. ScopesBoth t u (cond (nat_eq id s.0) (Some s.1) (lookup (nat_eq id) ss)) (cond (nat_eq id n) (Some r.1) (lookup (nat_eq id) rs))) both.0.id (by (nat_eq id s.0) (same_lookup t u id ss rs both.1 h.1 k.1))
  where
    by : (b : Bool) → ScopesBoth t u (lookup (nat_eq id) ss) (lookup (nat_eq id) rs) → ScopesBoth t u (cond b (Some s.1) (lookup (nat_eq id) ss)) (cond b (Some r.1) (lookup (nat_eq id) rs))
    by true later = record {
      packet_context = same_index t u s.1.packet_context r.1.packet_context both.0.packet_context h.0.0 k.0.0;
      event_header = same_index t u s.1.event_header r.1.event_header both.0.event_header h.0.1 k.0.1;
      event_context = same_index t u s.1.event_context r.1.event_context both.0.event_context h.0.2 k.0.2;
    }
    by false later = later

with_id : (t u : Table) (id : ℕ) (s r : Option StreamScopes) → ScopesBoth t u s r → SameStreams t u (option_map (λ parts. (id, parts)) s) (option_map (λ parts. (id, parts)) r)
with_id t u id None None h = tt
with_id t u id None (Some r) h = absurd h
with_id t u id (Some s) None h = absurd h
with_id t u id (Some s) (Some r) h = (refl, h)

-- ---- two representations of one trace

module _ (m n : TraceMetaModel) (sm : IsSoundMeta m) (sn : IsSoundMeta n) (same : IsSameTrace m n) where
  same_stream_by : (a b : Option ℕ) → a ≡ b → SameStreams m.table n.table (stream_by m a) (stream_by n b)
  same_stream_by a b is = subst (λ x. SameStreams m.table n.table (stream_by m a) (stream_by n x)) is (at a)
    where
      at : (a : Option ℕ) → SameStreams m.table n.table (stream_by m a) (stream_by n a)
      at None = tt
      at (Some id) = with_id m.table n.table id _ _ (same_lookup m.table n.table id m.declared.streams n.declared.streams same.streams sm.inside.declared.streams sn.inside.declared.streams)

  pub same_stream : (f g : Option Field) → AlikeIf m.table n.table f g → SameStreams m.table n.table (stream_of m f) (stream_of n g)
  same_stream f g h = same_stream_by _ _ (same_id_number m.table n.table _ _ (named_alike m.table n.table (codes "stream_id") f g h))

  -- the field of a scope that may be declared
  pub same_scope_read : (from to : SourceModel) (a b : Option ℕ) (at : ℕ) → IsSoundTable from.table → IsSoundTable to.table → from.bytes ≡ to.bytes → from.end ≡ to.end → AlikeScopes from.table to.table from.scopes to.scopes → SameIndex from.table to.table a b
      → ReadBoth (AlikeIf from.table to.table) (read_scope from a at) (read_scope to b at)
  same_scope_read from to None None at sf st bytes end scopes index = (tt, refl)
  same_scope_read from to None (Some b) at sf st bytes end scopes index = absurd index
  same_scope_read from to (Some a) None at sf st bytes end scopes index = absurd index
  same_scope_read from to (Some a) (Some b) at sf st bytes end scopes index = by (scope_read from a at) (scope_read to b at) (reads_alike from to a b at sf st bytes end scopes index)
    where
      by : (x y : Reads Field) → ReadBoth (Alike from.table to.table) x y → ReadBoth (AlikeIf from.table to.table) (as_read Some x) (as_read Some y)
      by (Got f p) (Got g q) h = h
      by (Got f p) (Fails d) h = absurd h
      by (Fails c) (Got g q) h = absurd h
      by (Fails c) (Fails d) h = h

  pub record AlikePacketHead (h k : PacketHead) : Type 0 where
    pub scopes : AlikeScopes m.table n.table h.scopes k.scopes
    pub start : h.start ≡ k.start
    pub stream : h.stream ≡ k.stream
    pub parts : SameScopes m.table n.table h.parts k.parts

  same_context : (header header2 : Option Field) (stream stream2 : ℕ) (parts parts2 : StreamScopes) (x y : Reads (Option Field)) → AlikeIf m.table n.table header header2 → stream ≡ stream2 → SameScopes m.table n.table parts parts2
      → ReadBoth (AlikeIf m.table n.table) x y → AnswersBoth AlikePacketHead (by_context header stream parts x) (by_context header2 stream2 parts2 y)
  same_context header header2 stream stream2 parts parts2 (Got f p) (Got g q) h is scopes both = record {
    scopes = record { packet_header = h; packet_context = both.0; event_header = tt; stream_context = tt; event_context = tt; event_fields = tt };
    start = both.1;
    stream = is;
    parts = scopes;
  }
  same_context header header2 stream stream2 parts parts2 (Got f p) (Fails d) h is scopes both = absurd both
  same_context header header2 stream stream2 parts parts2 (Fails c) (Got g q) h is scopes both = absurd both
  same_context header header2 stream stream2 parts parts2 (Fails c) (Fails d) h is scopes both = refl

  same_context_read : (rest : List ℕ) (f g : Option Field) (at at2 : ℕ) (s r : ℕ × StreamScopes) → AlikeIf m.table n.table f g → at ≡ at2 → s.0 ≡ r.0 → SameScopes m.table n.table s.1 r.1
      → AnswersBoth AlikePacketHead (context_read m rest f at s.0 s.1) (context_read n rest g at2 r.0 r.1)
  unfolding context_read
  same_context_read rest f g at at2 s r h is id scopes =
      same_context f g s.0 r.0 s.1 r.1 _ _ h id scopes
      (subst (λ a. ReadBoth (AlikeIf m.table n.table) (read_scope (from_all m rest (with_header f)) s.1.packet_context at) (read_scope (from_all n rest (with_header g)) r.1.packet_context a)) is
      (same_scope_read (from_all m rest (with_header f)) (from_all n rest (with_header g)) s.1.packet_context r.1.packet_context at sm.table sn.table refl refl
      (record { packet_header = h; packet_context = tt; event_header = tt; stream_context = tt; event_context = tt; event_fields = tt }) scopes.packet_context))

  same_by_stream : (rest : List ℕ) (f g : Option Field) (at at2 : ℕ) (s r : Option (ℕ × StreamScopes)) → AlikeIf m.table n.table f g → at ≡ at2 → SameStreams m.table n.table s r
      → AnswersBoth AlikePacketHead (by_stream m rest f at s) (by_stream n rest g at2 r)
  same_by_stream rest f g at at2 None None h is streams = refl
  same_by_stream rest f g at at2 None (Some r) h is streams = absurd streams
  same_by_stream rest f g at at2 (Some s) None h is streams = absurd streams
  same_by_stream rest f g at at2 (Some s) (Some r) h is streams = same_context_read rest f g at at2 s r h is streams.0 streams.1

  same_choice : {A B : Type 0} (P : A → B → Type 0) (a b : Bool) (x : Result A Cause) (y : Result B Cause) (c : Cause) → a ≡ b → AnswersBoth P x y → AnswersBoth P (if a then x else Err c) (if b then y else Err c)
  same_choice P a b x y c is h = subst (λ k. AnswersBoth P (if a then x else Err c) (if k then y else Err c)) is (by a)
    where
      by : (k : Bool) → AnswersBoth P (if k then x else Err c) (if k then y else Err c)
      by true = h
      by false = refl

  same_judged : (rest : List ℕ) (f g : Option Field) (at at2 : ℕ) → AlikeIf m.table n.table f g → at ≡ at2 → AnswersBoth AlikePacketHead (header_judged m rest f at) (header_judged n rest g at2)
  unfolding header_judged
  same_judged rest f g at at2 h is =
      same_choice AlikePacketHead _ _ _ _ cause.BadMagic (same_magic m.table n.table _ _ (first_alike m.table n.table (codes "magic") f g h))
      (same_choice AlikePacketHead _ _ _ _ cause.WrongUuid
      (ap (λ u. uuid_matches u (first_named m.table.names (codes "uuid") f)) same.uuid ∙ same_id m.table n.table n.declared.uuid _ _ (first_alike m.table n.table (codes "uuid") f g h))
      (same_by_stream rest f g at at2 (stream_of m f) (stream_of n g) h is (same_stream f g h)))

  same_header : (rest : List ℕ) (x y : Reads (Option Field)) → ReadBoth (AlikeIf m.table n.table) x y → AnswersBoth AlikePacketHead (by_header m rest x) (by_header n rest y)
  same_header rest (Got f p) (Got g q) h = same_judged rest f g p q h.0 h.1
  same_header rest (Got f p) (Fails d) h = absurd h
  same_header rest (Fails c) (Got g q) h = absurd h
  same_header rest (Fails c) (Fails d) h = refl

  pub same_heading : (rest : List ℕ) → AnswersBoth AlikePacketHead (packet_head m rest) (packet_head n rest)
  unfolding packet_head
  same_heading rest =
      same_header rest _ _
      (same_scope_read (from_all m rest no_scopes) (from_all n rest no_scopes) m.packet_header n.packet_header 0 sm.table sn.table refl refl
      (record { packet_header = tt; packet_context = tt; event_header = tt; stream_context = tt; event_context = tt; event_fields = tt })
      (same_index m.table n.table m.packet_header n.packet_header same.header sm.inside.header sn.inside.header))
