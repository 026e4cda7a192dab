-- What a status means leaves valid input without a fault no answer but Done and NoMemory.
use Rattle.std.proofs.Common.{◌≡◌, ◌⊎◌, inl, inr, ℕ, ◌+◌, ◌≤◌, List, [], ◌∷◌, length, map, codes, Option, Some, None, refl, sym, ap, ◌∙◌, subst, ⊎_elim, arith}
use Rattle.std.specs.Prelude.{IfSome, IsSome}
use Rattle.ht_outside.specs.Files.{Files, bytes_of}
use Rattle.event_list.specs.declared.parsed_line.ParsedLine.{ParsedLine}
use Rattle.trace_types.specs.declared.event.Merged.{Merged}
use Rattle.wait_graph.specs.Named.{IsNamed}
use Rattle.type_scope.specs.Traces.{Trace}
use Rattle.trace_metadata.specs.Files.{IsTrace}
use Rattle.trace_metadata.proofs.OneTrace.{not_refused}
use Rattle.history_core.specs.declared.question.Question.{Question}
use Rattle.command_words.specs.Words.{IsCommand}
use Rattle.command_words.specs.declared.command.Command.{Command}
use Rattle.command_words.specs.declared.command.Command.TheVariants.{Plain}
use Rattle.command_words.specs.declared.command.PlainCommand.{PlainCommand}
use Rattle.command_words.specs.declared.command.PlainCommand.TheVariants.{Check, Report, Events, State, Ask, Path, Make, Range, Disks}
use Rattle.command_words.specs.declared.words.WordsError.{WordsError}
use Rattle.command_words.specs.declared.words.WordsError.TheVariants as no
use Rattle.command_words.specs.declared.command.Input.{Input}
use Rattle.command_words.specs.declared.command.Input.TheVariants as input
use Rattle.command_words.proofs.OneCommand.{same_command}
use Rattle.decode_pool.specs.declared.hosts.HostFiles.{HostFiles}
use Rattle.hosttrace.specs.Clusters.{IsGoodCluster, IsWithinLimits}
use Rattle.hosttrace.specs.Folders.{FILES_LIMIT, MAX_HOSTS, METADATA_LIMIT, AreRead, HasFewNames, HasManyNames, HasMetadata, IsRead, metadata_of}
use Rattle.hosttrace.specs.Hosts.{AreTraces}
use Rattle.hosttrace.specs.Inputs.{IsList, AreAsked}
use Rattle.hosttrace.specs.Making.{made_files, made_folders}
use Rattle.hosttrace.specs.Means.{AreChecked, IsGood, IsGoodInput}
use Rattle.hosttrace.specs.Outcome.{Means, PlainMeans, IsReported, IsValid, IsOutcome, IsPlainOutcome, files_read}
use Rattle.hosttrace.specs.Refusals.{CheckRefuses, ClusterRefuses, FolderRefuses, FoldersRefuse, HostsRefuse, InputRefuses, IsCrowd, LimitsRefuse, ListRefuses, MetadataRefuses, NamesRefuse, QuestionsRefuse, Refuses, SizeRefuses, StreamRefuses, StreamsRefuse, ThreadRefuses, TraceRefuses, TracesRefuse}
use Rattle.hosttrace.specs.Seen.{Seen}
use Rattle.hosttrace.specs.Statuses.{words_status}
use Rattle.hosttrace.specs.Streams.{AreFolders, AreStreamsRead, IsFolder, StreamFits, folder_size, metadata_size, size_of}
use Rattle.hosttrace.specs.declared.status.Status.{Status}
use Rattle.hosttrace.specs.declared.status.Status.TheVariants.{Done, Usage, Refused, ReadFault, WriteFault, NoMemory}
use Rattle.hosttrace.specs.declared.status.Refusal.{Refusal}
use Rattle.hosttrace.proofs.RefusedFor.{LimitsCause, ListCause, NamesCause, QuestionsCause, SizeCause, StreamCause, crowd_is, limits_is, list_is, metadata_is, names_is, questions_is, size_is, stream_is, thread_is}
use Rattle.hosttrace.proofs.OneOrder.{one_names, shown_alike}

told : (seen : Option Files) (files : Files) (P : Files → Type 0) → seen ≡ Some files → IfSome seen P → P files
told seen files P e h = subst (λ o. IfSome o P) e h

-- a good file isn't refused
good_list : (bytes : List ℕ) (refusal : Refusal) → ListRefuses bytes refusal → (parsed_lines : List ParsedLine) → IsList bytes parsed_lines → ⊥
good_list bytes refusal h parsed_lines g = by (list_is bytes refusal h)
  where
    by : ListCause bytes refusal → ⊥
    by (inl bad) = bad.none parsed_lines g.is_list
    by (inr (inl many)) = let few = g.few in let more = many.all parsed_lines g.is_list in absurd (omega (arith, few, more))
    by (inr (inr (is, large))) = let small = g.small in absurd (omega (arith, large, small))

good_questions : (bytes : List ℕ) (refusal : Refusal) → QuestionsRefuse bytes refusal → (questions : List Question) → AreAsked bytes questions → ⊥
good_questions bytes refusal h questions g = by (questions_is bytes refusal h)
  where
    by : QuestionsCause bytes refusal → ⊥
    by (inl bad) = bad.none questions g.are_questions
    by (inr (inl (is, large))) = let small = g.small in absurd (omega (arith, large, small))
    by (inr (inr (is, small, many))) = let few = g.few in absurd (omega (arith, many, few))

-- folders that can be read aren't refused
pub there_and_not : (file : Option (List ℕ)) → IsSome file → file ≡ None → ⊥
there_and_not file there none = let h : IsSome {T = List ℕ} None = subst IsSome none there in absurd (cc)

pub few_and_many : (files : Files) (dir : List ℕ) → HasFewNames files dir → HasManyNames files dir → ⊥
few_and_many files dir (names, all, few) (others, more, many) = let shown = shown_alike files dir others names more all in absurd (omega (arith, few, many, shown))

pub good_names : (files : Files) (host : ℕ) (dir : List ℕ) (refusal : Refusal) → NamesRefuse files host dir refusal → HasFewNames files dir → HasMetadata files dir → ⊥
good_names files host dir refusal h few there = by (names_is files host dir refusal h)
  where
    by : NamesCause files host dir refusal → ⊥
    by (inl (is, many)) = few_and_many files dir few many
    by (inr (is, others, none)) = there_and_not (files dir (codes "metadata")) there none

good_size : (before size : ℕ) (refusal : Refusal) → SizeRefuses before size refusal → size ≤ METADATA_LIMIT → before + size ≤ FILES_LIMIT → ⊥
good_size before size refusal h small all = by (size_is before size refusal h)
  where
    by : SizeCause before size refusal → ⊥
    by (inl (is, large)) = absurd (omega (arith, large, small))
    by (inr (is, fits, many)) = absurd (omega (arith, many, all))

pub good_folder : (files : Files) (host before : ℕ) (dir : List ℕ) (refusal : Refusal) → FolderRefuses files host before dir refusal → IsRead files before dir → ⊥
good_folder files host before dir refusal (inl h) is = good_names files host dir refusal h is.few is.there
good_folder files host before dir refusal (inr h) is = good_size before (length (metadata_of files dir)) refusal h.1 is.small is.all

pub good_folders : (files : Files) (host before : ℕ) (dirs : List (List ℕ)) (refusal : Refusal) → FoldersRefuse files host before dirs refusal → AreRead files before dirs → ⊥
good_folders files host before [] refusal h are = h
good_folders files host before (dir ∷ dirs) refusal (inl h) are = good_folder files host before dir refusal h are.0
good_folders files host before (dir ∷ dirs) refusal (inr h) are = good_folders files (host + 1) (before + length (metadata_of files dir)) dirs refusal h.1 are.1

-- metadata that declares a trace isn't refused
pub good_host : (host : ℕ) (bytes : List ℕ) (refusal : Refusal) (t : Trace) → MetadataRefuses host bytes refusal → IsTrace bytes t → ⊥
good_host host bytes refusal t h is = let bad = metadata_is host bytes refusal h in not_refused bytes t bad.0 is bad.2

pub good_hosts : (host : ℕ) (files : List (List ℕ)) (refusal : Refusal) (ts : List Trace) → HostsRefuse host files refusal → AreTraces files ts → ⊥
good_hosts host [] refusal ts h are = h
good_hosts host (bytes ∷ files) refusal [] h are = are
good_hosts host (bytes ∷ files) refusal (t ∷ ts) (inl h) are = good_host host bytes refusal t h are.0
good_hosts host (bytes ∷ files) refusal (t ∷ ts) (inr h) are = good_hosts (host + 1) files refusal ts h.1 are.1

pub good_crowd : (folders : List (List ℕ)) (refusal : Refusal) → IsCrowd folders refusal → length folders ≤ MAX_HOSTS → ⊥
good_crowd folders refusal h few = let many = (crowd_is folders refusal h).1 in absurd (omega (arith, many, few))

good_check : (files : Files) (folders : List (List ℕ)) (refusal : Refusal) → CheckRefuses files folders refusal → AreChecked files folders → ⊥
good_check files folders refusal (inl h) g = good_crowd folders refusal h g.few
good_check files folders refusal (inr (few, inl h)) g = good_folders files 0 0 folders refusal h g.are_read
good_check files folders refusal (inr (few, inr h)) g = good_hosts 0 (map (metadata_of files) folders) refusal g.traces h.1 g.are_traces

-- folders within the limits aren't refused
pub good_stream : (before size : ℕ) (refusal : Refusal) → StreamRefuses before size refusal → StreamFits before size → ⊥
good_stream before size refusal h fits = by (stream_is before size refusal h)
  where
    by : StreamCause before size refusal → ⊥
    by (inl (is, large)) = let small = fits.0 in absurd (omega (arith, large, small))
    by (inr (is, small, many)) = let all = fits.1 in absurd (omega (arith, many, all))

good_streams : (files : Files) (dir : List ℕ) (before : ℕ) (names : List (List ℕ)) (refusal : Refusal) → StreamsRefuse files dir before names refusal → AreStreamsRead files dir before names → ⊥
good_streams files dir before [] refusal h are = h
good_streams files dir before (name ∷ names) refusal (inl h) are = good_stream before (size_of files dir name) refusal h are.0
good_streams files dir before (name ∷ names) refusal (inr h) are = good_streams files dir (before + size_of files dir name) names refusal h.1 are.1

pub good_trace : (files : Files) (host before : ℕ) (dir : List ℕ) (names : List (List ℕ)) (refusal : Refusal) → TraceRefuses files host before dir refusal → IsFolder files before dir names → ⊥
good_trace files host before dir names refusal (inl h) is = good_folder files host before dir refusal h is.is_read
good_trace files host before dir names refusal (inr (read, (others, are, h))) is =
    let same : names ≡ others = one_names files dir names others is.are_names are in
    good_streams files dir (before + metadata_size files dir) others refusal h (subst (AreStreamsRead files dir (before + metadata_size files dir)) same is.are_read)

pub good_traces : (files : Files) (host before : ℕ) (dirs : List (List ℕ)) (refusal : Refusal) → TracesRefuse files host before dirs refusal → AreFolders files before dirs → ⊥
good_traces files host before [] refusal h are = h
good_traces files host before (dir ∷ dirs) refusal (inl h) (names, is, more) = good_trace files host before dir names refusal h is
good_traces files host before (dir ∷ dirs) refusal (inr (others, are, h)) (names, is, more) =
    let same : names ≡ others = one_names files dir names others is.are_names are.are_names in
    good_traces files (host + 1) (before + folder_size files dir others) dirs refusal h (subst (λ ns. AreFolders files (before + folder_size files dir ns) dirs) same more)

good_limits : (hosts : List HostFiles) (refusal : Refusal) → LimitsRefuse hosts refusal → IsWithinLimits hosts → ⊥
good_limits hosts refusal h few = by (limits_is hosts refusal h)
  where
    by : LimitsCause hosts refusal → ⊥
    by (inl (is, many)) = let packets = few.packets in absurd (omega (arith, many, packets))
    by (inr (is, within, many)) = let events = few.events in absurd (omega (arith, many, events))

pub good_cluster : (files : Files) (dirs : List (List ℕ)) (refusal : Refusal) → ClusterRefuses files dirs refusal → IsGoodCluster files dirs → ⊥
good_cluster files dirs refusal (inl h) g = good_crowd dirs refusal h g.few
good_cluster files dirs refusal (inr (few, inl (inl h))) g = good_traces files 0 0 dirs refusal h g.are_folders
good_cluster files dirs refusal (inr (few, inl (inr h))) g = good_hosts 0 (map (metadata_of files) dirs) refusal g.traces h.1 g.are_traces
good_cluster files dirs refusal (inr (few, inr (hosts, are, h))) g = good_limits hosts refusal h (g.within hosts are)

pub good_input : (source : Input) (files : Files) (refusal : Refusal) → InputRefuses source files refusal → IsGoodInput source files → ⊥
good_input (input.List file) files refusal h g = good_list (bytes_of files [] file) refusal h g.0 g.1
good_input (input.Folders dirs drift) files refusal h g = good_cluster files dirs refusal h g

-- a thread that an event names isn't refused
good_thread : (merged : List Merged) (host tid : ℕ) (refusal : Refusal) → ThreadRefuses merged host tid refusal → IsNamed merged host tid → ⊥
good_thread merged host tid refusal refused named = (thread_is merged host tid refusal refused).1 named

pub good : (c : PlainCommand) (files : Files) (refusal : Refusal) → Refuses c files refusal → IsGood c files → ⊥
good (Check folders) files refusal h g = good_check files folders refusal h g
good (Report folders drift) files refusal h g = good_cluster files folders refusal h g
good (Events folders drift) files refusal h g = good_cluster files folders refusal h g
good (State source at) files refusal h g = good_input source files refusal h g
good (Ask source questions once) files refusal (inl h) g = good_input source files refusal h g.0
good (Ask source questions once) files refusal (inr h) g = good_questions (bytes_of files [] questions) refusal h.1 g.1.0 g.1.1
good (Path source host tid from to) files refusal (inl h) g = good_input source files refusal h g.0
good (Path source host tid from to) files refusal (inr (merged, placed, is, h)) g = good_thread merged host tid refusal h (g.1 merged placed is)
good (Make number hosts rounds) files refusal h g = good_cluster (made_files number hosts rounds) (made_folders hosts) refusal h g
good (Range source from to path) files refusal h g = good_input source files refusal h g
good (Disks source) files refusal h g = good_input source files refusal h g

-- what a command's refusal says of the files that it reads
refused : (command : PlainCommand) (seen : Seen) (refusal : Refusal) → PlainMeans command seen (Refused refusal) → (files : Files) → files_read command seen.store.files ≡ Some files → Refuses command files refusal
refused (Check folders) seen refusal m files e = told seen.store.files files _ e m
refused (Report folders drift) seen refusal m files e = told seen.store.files files _ e m
refused (Events folders drift) seen refusal m files e = told seen.store.files files _ e m
refused (State source at) seen refusal m files e = told seen.store.files files _ e m
refused (Ask source questions once) seen refusal m files e = told seen.store.files files _ e m
refused (Path source host tid from to) seen refusal m files e = told seen.store.files files _ e m
refused (Make number hosts rounds) seen refusal m files e = m
refused (Range source from to path) seen refusal m files e = told seen.store.files files _ e m
refused (Disks source) seen refusal m files e = told seen.store.files files _ e m

plain_complete : (command : PlainCommand) (seen : Seen) (status : Status) → PlainMeans command seen status → IsValid command seen → (status ≡ Done) ⊎ (status ≡ NoMemory)
plain_complete command seen Done m v = inl refl
plain_complete command seen NoMemory m v = inr refl
plain_complete command seen Usage m v = absurd m
plain_complete command seen WriteFault m v = absurd (⊎_elim v.out v.err m)
plain_complete command seen ReadFault m v = absurd (v.read m)
plain_complete command seen (Refused refusal) m v = absurd (good command v.files refusal (refused command seen refusal m v.files v.known) v.is_good)

pub plain_outcome : (command : PlainCommand) (seen : Seen) (status : Status) → PlainMeans command seen status → IsPlainOutcome command seen status
plain_outcome command seen status m = record { means = m; complete = plain_complete command seen status m }

plain : Command → PlainCommand
plain (Plain c) = c

-- words are one command at most
same_plain : (words : List (List ℕ)) (c d : PlainCommand) → IsCommand words (Plain c) → IsCommand words (Plain d) → c ≡ d
unfolding plain
same_plain words c d is are = ap plain (same_command words (Plain c) (Plain d) is are)

complete : (words : List (List ℕ)) (seen : Seen) (status : Status) → Means words seen status → (command : PlainCommand) → IsCommand words (Plain command) → IsValid command seen → (status ≡ Done) ⊎ (status ≡ NoMemory)
complete words seen Done m command are v = inl refl
complete words seen NoMemory m command are v = inr refl
complete words seen Usage m command are v = absurd (m (Plain command) are)
complete words seen WriteFault m command are v = absurd (⊎_elim v.out v.err m)
complete words seen ReadFault (Plain c, is, m) command are v = plain_complete c seen ReadFault m (subst (λ k. IsValid k seen) (same_plain words command c are is) v)
complete words seen (Refused refusal) (Plain c, is, m) command are v = plain_complete c seen (Refused refusal) m (subst (λ k. IsValid k seen) (same_plain words command c are is) v)

-- what the status that tells why words are no command means, whatever becomes of its line
pub no_command : (words : List (List ℕ)) (seen : Seen) (error : WordsError) (reported answered : Status) → reported ≡ words_status error → (error ≡ no.Usage → (c : Command) → ¬ (IsCommand words c)) → IsReported reported answered seen.err.faults seen.err.faults_after → Means words seen answered
no_command words seen error reported answered e none (inr (inl (is, risen))) = subst (Means words seen) (sym is) (inr risen)
no_command words seen error reported answered e none (inr (inr is)) = subst (Means words seen) (sym is) tt
no_command words seen no.Usage reported answered e none (inl is) = subst (Means words seen) (sym (is ∙ e)) (none refl)
no_command words seen no.OutOfMemory reported answered e none (inl is) = subst (Means words seen) (sym (is ∙ e)) tt

pub outcome : (words : List (List ℕ)) (seen : Seen) (status : Status) → Means words seen status → IsOutcome words seen status
outcome words seen status m = record { means = m; complete = complete words seen status m }
