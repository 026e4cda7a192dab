-- The events of a host are the same by two representations of one trace.
use Rattle.std.proofs.Common.{◌≡◌, ◌∙◌, ℕ, ◌+◌, List, [], ◌∷◌, ◌++◌, length, map, if◌then◌else◌, refl, ap, ap₂}
use Rattle.trace_types.specs.declared.event.Event.{Event}
use Rattle.trace_types.specs.declared.event.KernelEvent.{KernelEvent}
use Rattle.type_table.specs.SameTrace.{AreBoth, IsSameTrace}
use Rattle.type_table.specs.TraceMetas.{IsSoundMeta, TraceMetaModel}
use Rattle.ctf_fields.specs.declared.raw.RawEvent.{RawEvent}
use Rattle.kernel_layout.specs.Kinds.{kind_of}
use Rattle.kernel_layout.proofs.AlikeKinds.{kind_alike}
use Rattle.packet_decoder.specs.Pieces.{pieces}
use Rattle.packet_decoder.specs.declared.piece.PacketResult.{PacketResult}
use Rattle.packet_decoder.specs.declared.piece.PacketResult.TheVariants as result
use Rattle.packet_decoder.specs.declared.piece.PacketSpan.{PacketSpan}
use Rattle.packet_decoder.specs.declared.piece.Piece.{Piece}
use Rattle.packet_decoder.specs.declared.piece.Piece.TheVariants as piece
use Rattle.packet_decoder.proofs.AlikeEvents.{AlikePackets, AlikeRaw, AlikeRaws, decoded_alike}
use Rattle.packet_decoder.proofs.AlikePieces.{same_pieces}
use Rattle.decode_pool.specs.declared.files.FileBytes.{FileBytes}
use Rattle.decode_pool.specs.declared.decoded_packet.AcceptedPacket.{AcceptedPacket}
use Rattle.decode_pool.specs.declared.decoded_packet.DecodedPacket.TheVariants as part
use Rattle.decode_pool.specs.Hosts.{all_events, all_incomplete, all_packets, all_refused, incomplete_in as kept_incomplete, refused_in}
use Rattle.decode_pool.specs.Limits.{host_packets, packets_in}
use Rattle.decode_pool.specs.Marks.{file_events, accepted_in}
use Rattle.decode_pool.specs.OneTrace.{IsSameFile, TellSame}
use Rattle.decode_pool.specs.Parts.{event_of, incomplete_in, accepted_packet, part_by, part_of, parts_of}

module _ (host : ℕ) (m n : TraceMetaModel) (sm : IsSoundMeta m) (sn : IsSoundMeta n) (same : IsSameTrace m n) where
  kind_same : (r s : RawEvent) → AlikeRaw m.table n.table r s → kind_of m r ≡ kind_of n s
  kind_same r s h = kind_alike m n sm sn same r s h.event h.fields

  an_event : ℕ → ℕ → KernelEvent → Event
  an_event time cpu kind = record { time = time; host = host; cpu = cpu; kind = kind }

  event_same : (r s : RawEvent) → AlikeRaw m.table n.table r s → event_of host m r ≡ event_of host n s
  unfolding an_event
  event_same r s h = ap (λ t. an_event t r.cpu (kind_of m r).0) h.time ∙ (ap (λ c. an_event s.time c (kind_of m r).0) h.cpu ∙ ap (λ k. an_event s.time s.cpu k.0) (kind_same r s h))

  events_same : (rs ss : List RawEvent) → AlikeRaws m.table n.table rs ss → map (event_of host m) rs ≡ map (event_of host n) ss
  events_same [] [] h = refl
  events_same [] (s ∷ ss) h = absurd h
  events_same (r ∷ rs) [] h = absurd h
  events_same (r ∷ rs) (s ∷ ss) h = ap₂ (λ e es. e ∷ es) (event_same r s h.0) (events_same rs ss h.1)

  lacking_same : (rs ss : List RawEvent) → AlikeRaws m.table n.table rs ss → incomplete_in m rs ≡ incomplete_in n ss
  lacking_same [] [] h = refl
  lacking_same [] (s ∷ ss) h = absurd h
  lacking_same (r ∷ rs) [] h = absurd h
  lacking_same (r ∷ rs) (s ∷ ss) h = ap₂ (λ k more. (if k.1 then 1 else 0) + more) (kind_same r s h.0) (lacking_same rs ss h.1)

  a_packet : PacketSpan → List Event → ℕ → AcceptedPacket
  a_packet span events incomplete = record { cpu = span.cpu; seq = span.seq; discarded = span.discarded; events = events; incomplete = incomplete }

  kept_same : (span : PacketSpan) (rs ss : List RawEvent) → AlikeRaws m.table n.table rs ss → accepted_packet host m span rs ≡ accepted_packet host n span ss
  unfolding a_packet
  kept_same span rs ss h = ap₂ (a_packet span) (events_same rs ss h) (lacking_same rs ss h)

  packet_same : (span : PacketSpan) (x y : PacketResult) → AlikePackets m.table n.table x y → part_by host m span x ≡ part_by host n span y
  packet_same span (result.Events rs) (result.Events ss) h = ap part.Accepted (kept_same span rs ss h)
  packet_same span (result.Events rs) (result.Refused d) h = absurd h
  packet_same span (result.Refused c) (result.Events ss) h = absurd h
  packet_same span (result.Refused c) (result.Refused d) h = ap (part.Refused span.offset) h

  part_same : (file : List ℕ) (p : Piece) → part_of host m file p ≡ part_of host n file p
  unfolding part_of
  part_same file (piece.Packet span) = packet_same span _ _ (decoded_alike m n sm sn same file span)
  part_same file (piece.Bad offset cause) = refl

  each_same : {A B : Type 0} (f g : A → B) (xs : List A) → ((x : A) → f x ≡ g x) → map f xs ≡ map g xs
  each_same f g [] h = refl
  each_same f g (x ∷ xs) h = ap₂ (λ y ys. y ∷ ys) (h x) (each_same f g xs h)

  -- what the pieces of a file hold
  parts_same : (file : List ℕ) → parts_of host m file ≡ parts_of host n file
  parts_same file = ap (map (part_of host m file)) (same_pieces m n sm sn same file) ∙ each_same (part_of host m file) (part_of host n file) (pieces n file) (part_same file)

  file_same : (f g : FileBytes) → IsSameFile f g → parts_of host m f.bytes.items ≡ parts_of host n g.bytes.items
  file_same f g h = parts_same f.bytes.items ∙ ap (parts_of host n) h.bytes

  all_events_same : (fs gs : List FileBytes) → AreBoth IsSameFile fs gs → all_events host m fs ≡ all_events host n gs
  all_events_same [] [] h = refl
  all_events_same [] (g ∷ gs) h = absurd h
  all_events_same (f ∷ fs) [] h = absurd h
  all_events_same (f ∷ fs) (g ∷ gs) h = ap₂ (λ ps es. file_events ps ++ es) (file_same f g h.0) (all_events_same fs gs h.1)

  all_refused_same : (fs gs : List FileBytes) → AreBoth IsSameFile fs gs → all_refused host m fs ≡ all_refused host n gs
  all_refused_same [] [] h = refl
  all_refused_same [] (g ∷ gs) h = absurd h
  all_refused_same (f ∷ fs) [] h = absurd h
  all_refused_same (f ∷ fs) (g ∷ gs) h = ap₂ (λ name ps. refused_in name ps ++ all_refused host m fs) h.0.name (file_same f g h.0) ∙ ap (λ rs. refused_in g.name (parts_of host n g.bytes.items) ++ rs) (all_refused_same fs gs h.1)

  all_packets_same : (fs gs : List FileBytes) → AreBoth IsSameFile fs gs → all_packets host m fs ≡ all_packets host n gs
  all_packets_same [] [] h = refl
  all_packets_same [] (g ∷ gs) h = absurd h
  all_packets_same (f ∷ fs) [] h = absurd h
  all_packets_same (f ∷ fs) (g ∷ gs) h = ap₂ (λ ps k. length (accepted_in ps) + k) (file_same f g h.0) (all_packets_same fs gs h.1)

  all_incomplete_same : (fs gs : List FileBytes) → AreBoth IsSameFile fs gs → all_incomplete host m fs ≡ all_incomplete host n gs
  all_incomplete_same [] [] h = refl
  all_incomplete_same [] (g ∷ gs) h = absurd h
  all_incomplete_same (f ∷ fs) [] h = absurd h
  all_incomplete_same (f ∷ fs) (g ∷ gs) h = ap₂ (λ ps k. kept_incomplete (accepted_in ps) + k) (file_same f g h.0) (all_incomplete_same fs gs h.1)

  cut_same : (fs gs : List FileBytes) → AreBoth IsSameFile fs gs → host_packets m fs ≡ host_packets n gs
  cut_same [] [] h = refl
  cut_same [] (g ∷ gs) h = absurd h
  cut_same (f ∷ fs) [] h = absurd h
  cut_same (f ∷ fs) (g ∷ gs) h = ap₂ (λ ps k. packets_in ps + k) (same_pieces m n sm sn same f.bytes.items ∙ ap (pieces n) h.0.bytes) (cut_same fs gs h.1)

  -- all that a host's files tell
  pub tell_same : (fs gs : List FileBytes) → AreBoth IsSameFile fs gs → TellSame host m n fs gs
  tell_same fs gs h = record {
    events = all_events_same fs gs h;
    refused = all_refused_same fs gs h;
    accepted = all_packets_same fs gs h;
    incomplete = all_incomplete_same fs gs h;
    packets = cut_same fs gs h;
  }
