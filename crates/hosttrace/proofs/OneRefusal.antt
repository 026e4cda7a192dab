-- Two refusals of one command over the same files are one.
use Rattle.std.proofs.Common.{◌≡◌, ◌∙◌, ◌+◌, inl, inr, ℕ, List, [], ◌∷◌, length, map, sym, ap, subst, arith}
use Rattle.ht_outside.specs.Files.{Files, bytes_of}
use Rattle.trace_metadata.proofs.OneRefusal.{one_refusal as one_cause}
use Rattle.decode_pool.specs.Limits.{packet_count}
use Rattle.decode_pool.specs.declared.hosts.HostFiles.{HostFiles}
use Rattle.type_scope.specs.Traces.{trace}
use Rattle.command_words.specs.declared.command.PlainCommand.{PlainCommand}
use Rattle.command_words.specs.declared.command.PlainCommand.TheVariants.{Check, Report, Events, State, Ask, Path, Make, Range, Disks}
use Rattle.command_words.specs.declared.command.Input.{Input}
use Rattle.command_words.specs.declared.command.Input.TheVariants as input
use Rattle.hosttrace.specs.Folders.{metadata_of}
use Rattle.hosttrace.specs.Making.{made_files, made_folders}
use Rattle.hosttrace.specs.Refusals.{CheckRefuses, ClusterRefuses, FolderRefuses, FoldersRefuse, HostsRefuse, InputRefuses, LimitsRefuse, ListRefuses, MetadataRefuses, NamesRefuse, QuestionsRefuse, ReadingRefuses, Refuses, SizeRefuses, StreamRefuses, StreamsRefuse, TraceRefuses, TracesRefuse}
use Rattle.hosttrace.specs.Streams.{AreHostsOf, folder_size, metadata_size, size_of}
use Rattle.hosttrace.specs.declared.status.ListFile.TheVariants.{Events as EventsFile, Questions}
use Rattle.hosttrace.specs.declared.status.Refusal.{Refusal}
use Rattle.hosttrace.specs.declared.status.Refusal.TheVariants.{BadList, BadMetadata}
use Rattle.hosttrace.proofs.RefusedFor.{LimitsCause, ListCause, NamesCause, QuestionsCause, SizeCause, StreamCause, crowd_is, limits_is, list_is, metadata_is, names_is, questions_is, size_is, stream_is, thread_is}
use Rattle.hosttrace.proofs.Clustered.{folders_of, traces_of}
use Rattle.hosttrace.proofs.Complete.{few_and_many, good_crowd, good_folder, good_folders, good_host, good_hosts, good_input, good_names, good_stream, good_trace, good_traces}
use Rattle.hosttrace.proofs.OneAsking.{one_bad_line as one_bad_question}
use Rattle.hosttrace.proofs.OneCluster.{packets_alike}
use Rattle.hosttrace.proofs.OneLine.{not_crowded, one_bad_line}
use Rattle.hosttrace.proofs.OneOrder.{one_names}
use Rattle.hosttrace.proofs.OneText.{good_placed, input_is_good}

-- ---- a folder

one_of_names : (files : Files) (host : ℕ) (dir : List ℕ) (a b : Refusal) → NamesRefuse files host dir a → NamesRefuse files host dir b → a ≡ b
one_of_names files host dir a b h g = by (names_is files host dir a h) (names_is files host dir b g)
  where
    by : NamesCause files host dir a → NamesCause files host dir b → a ≡ b
    by (inl (e, many)) (inl (f, more)) = e ∙ sym f
    by (inl (e, many)) (inr (f, few, none)) = absurd (few_and_many files dir few many)
    by (inr (e, few, none)) (inl (f, many)) = absurd (few_and_many files dir few many)
    by (inr (e, few, none)) (inr (f, others, never)) = e ∙ sym f

one_size : (before size : ℕ) (a b : Refusal) → SizeRefuses before size a → SizeRefuses before size b → a ≡ b
one_size before size a b h g = by (size_is before size a h) (size_is before size b g)
  where
    by : SizeCause before size a → SizeCause before size b → a ≡ b
    by (inl (e, large)) (inl (f, larger)) = e ∙ sym f
    by (inl (e, large)) (inr (f, small, all)) = absurd (omega (arith, large, small))
    by (inr (e, small, all)) (inl (f, large)) = absurd (omega (arith, large, small))
    by (inr (e, small, all)) (inr (f, fits, many)) = e ∙ sym f

one_folder : (files : Files) (host before : ℕ) (dir : List ℕ) (a b : Refusal) → FolderRefuses files host before dir a → FolderRefuses files host before dir b → a ≡ b
one_folder files host before dir a b (inl h) (inl g) = one_of_names files host dir a b h g
one_folder files host before dir a b (inl h) (inr (there, g)) = absurd (good_names files host dir a h there.0 there.1)
one_folder files host before dir a b (inr (there, h)) (inl g) = absurd (good_names files host dir b g there.0 there.1)
one_folder files host before dir a b (inr (there, h)) (inr (again, g)) = one_size before (length (metadata_of files dir)) a b h g

one_of_folders : (files : Files) (host before : ℕ) (dirs : List (List ℕ)) (a b : Refusal) → FoldersRefuse files host before dirs a → FoldersRefuse files host before dirs b → a ≡ b
one_of_folders files host before [] a b h g = absurd h
one_of_folders files host before (dir ∷ dirs) a b (inl h) (inl g) = one_folder files host before dir a b h g
one_of_folders files host before (dir ∷ dirs) a b (inl h) (inr (is, g)) = absurd (good_folder files host before dir a h is)
one_of_folders files host before (dir ∷ dirs) a b (inr (is, h)) (inl g) = absurd (good_folder files host before dir b g is)
one_of_folders files host before (dir ∷ dirs) a b (inr (is, h)) (inr (js, g)) = one_of_folders files (host + 1) (before + length (metadata_of files dir)) dirs a b h g

-- ---- a folder that is read whole

one_stream : (before size : ℕ) (a b : Refusal) → StreamRefuses before size a → StreamRefuses before size b → a ≡ b
one_stream before size a b h g = by (stream_is before size a h) (stream_is before size b g)
  where
    by : StreamCause before size a → StreamCause before size b → a ≡ b
    by (inl (e, large)) (inl (f, larger)) = e ∙ sym f
    by (inl (e, large)) (inr (f, small, all)) = absurd (omega (arith, large, small))
    by (inr (e, small, all)) (inl (f, large)) = absurd (omega (arith, large, small))
    by (inr (e, small, all)) (inr (f, fits, many)) = e ∙ sym f

one_of_streams : (files : Files) (dir : List ℕ) (before : ℕ) (names : List (List ℕ)) (a b : Refusal) → StreamsRefuse files dir before names a → StreamsRefuse files dir before names b → a ≡ b
one_of_streams files dir before [] a b h g = absurd h
one_of_streams files dir before (name ∷ names) a b (inl h) (inl g) = one_stream before (size_of files dir name) a b h g
one_of_streams files dir before (name ∷ names) a b (inl h) (inr (fits, g)) = absurd (good_stream before (size_of files dir name) a h fits)
one_of_streams files dir before (name ∷ names) a b (inr (fits, h)) (inl g) = absurd (good_stream before (size_of files dir name) b g fits)
one_of_streams files dir before (name ∷ names) a b (inr (fits, h)) (inr (fit, g)) = one_of_streams files dir (before + size_of files dir name) names a b h g

one_trace : (files : Files) (host before : ℕ) (dir : List ℕ) (a b : Refusal) → TraceRefuses files host before dir a → TraceRefuses files host before dir b → a ≡ b
one_trace files host before dir a b (inl h) (inl g) = one_folder files host before dir a b h g
one_trace files host before dir a b (inl h) (inr (is, g)) = absurd (good_folder files host before dir a h is)
one_trace files host before dir a b (inr (is, h)) (inl g) = absurd (good_folder files host before dir b g is)
one_trace files host before dir a b (inr (is, (names, are, h))) (inr (js, (others, there, g))) =
    let same : names ≡ others = one_names files dir names others are there in
    one_of_streams files dir (before + metadata_size files dir) others a b (subst (λ ns. StreamsRefuse files dir (before + metadata_size files dir) ns a) same h) g

one_of_traces : (files : Files) (host before : ℕ) (dirs : List (List ℕ)) (a b : Refusal) → TracesRefuse files host before dirs a → TracesRefuse files host before dirs b → a ≡ b
one_of_traces files host before [] a b h g = absurd h
one_of_traces files host before (dir ∷ dirs) a b (inl h) (inl g) = one_trace files host before dir a b h g
one_of_traces files host before (dir ∷ dirs) a b (inl h) (inr (names, is, g)) = absurd (good_trace files host before dir names a h is)
one_of_traces files host before (dir ∷ dirs) a b (inr (names, is, h)) (inl g) = absurd (good_trace files host before dir names b g is)
one_of_traces files host before (dir ∷ dirs) a b (inr (names, is, h)) (inr (others, js, g)) =
    let same : names ≡ others = one_names files dir names others is.are_names js.are_names in
    one_of_traces files (host + 1) (before + folder_size files dir others) dirs a b (subst (λ ns. TracesRefuse files (host + 1) (before + folder_size files dir ns) dirs a) same h) g

-- ---- what metadata declares

one_of_metadata : (host : ℕ) (bytes : List ℕ) (a b : Refusal) → MetadataRefuses host bytes a → MetadataRefuses host bytes b → a ≡ b
one_of_metadata host bytes a b h g =
    let one = metadata_is host bytes a h in
    let other = metadata_is host bytes b g in
    one.1 ∙ (ap (BadMetadata host) (one_cause bytes one.0 other.0 one.2 other.2) ∙ sym other.1)

one_of_hosts : (host : ℕ) (files : List (List ℕ)) (a b : Refusal) → HostsRefuse host files a → HostsRefuse host files b → a ≡ b
one_of_hosts host [] a b h g = absurd h
one_of_hosts host (bytes ∷ files) a b (inl h) (inl g) = one_of_metadata host bytes a b h g
one_of_hosts host (bytes ∷ files) a b (inl h) (inr ((t, is), g)) = absurd (good_host host bytes a t h is)
one_of_hosts host (bytes ∷ files) a b (inr ((t, is), h)) (inl g) = absurd (good_host host bytes b t g is)
one_of_hosts host (bytes ∷ files) a b (inr (is, h)) (inr (js, g)) = one_of_hosts (host + 1) files a b h g

one_check : (files : Files) (dirs : List (List ℕ)) (a b : Refusal) → CheckRefuses files dirs a → CheckRefuses files dirs b → a ≡ b
one_check files dirs a b (inl h) (inl g) = (crowd_is dirs a h).0 ∙ sym (crowd_is dirs b g).0
one_check files dirs a b (inl h) (inr (few, g)) = absurd (good_crowd dirs a h few)
one_check files dirs a b (inr (few, h)) (inl g) = absurd (good_crowd dirs b g few)
one_check files dirs a b (inr (few, inl h)) (inr (less, inl g)) = one_of_folders files 0 0 dirs a b h g
one_check files dirs a b (inr (few, inl h)) (inr (less, inr (are, g))) = absurd (good_folders files 0 0 dirs a h are)
one_check files dirs a b (inr (few, inr (are, h))) (inr (less, inl g)) = absurd (good_folders files 0 0 dirs b g are)
one_check files dirs a b (inr (few, inr (are, h))) (inr (less, inr (there, g))) = one_of_hosts 0 (map (metadata_of files) dirs) a b h g

-- ---- all hosts together

one_reading : (files : Files) (dirs : List (List ℕ)) (a b : Refusal) → ReadingRefuses files dirs a → ReadingRefuses files dirs b → a ≡ b
one_reading files dirs a b (inl h) (inl g) = one_of_traces files 0 0 dirs a b h g
one_reading files dirs a b (inl h) (inr (are, g)) = absurd (good_traces files 0 0 dirs a h are)
one_reading files dirs a b (inr (are, h)) (inl g) = absurd (good_traces files 0 0 dirs b g are)
one_reading files dirs a b (inr (are, h)) (inr (there, g)) = one_of_hosts 0 (map (metadata_of files) dirs) a b h g

-- folders that have hosts can be read, and declare traces
read_hosts : (files : Files) (dirs : List (List ℕ)) (hosts : List HostFiles) (r : Refusal) → AreHostsOf files dirs hosts → ReadingRefuses files dirs r → ⊥
read_hosts files dirs hosts r are (inl h) = good_traces files 0 0 dirs r h (folders_of files 0 0 dirs hosts are)
read_hosts files dirs hosts r are (inr (there, h)) = good_hosts 0 (map (metadata_of files) dirs) r (map (λ (host : HostFiles). trace host.meta) hosts) h (traces_of files 0 0 dirs hosts are)

one_limit : (files : Files) (dirs : List (List ℕ)) (hosts others : List HostFiles) (a b : Refusal) → AreHostsOf files dirs hosts → AreHostsOf files dirs others → LimitsRefuse hosts a → LimitsRefuse others b → a ≡ b
one_limit files dirs hosts others a b are there h g = by (limits_is hosts a h) (limits_is others b g)
  where
    same : packet_count hosts ≡ packet_count others
    same = packets_alike files 0 0 0 dirs hosts others are there

    by : LimitsCause hosts a → LimitsCause others b → a ≡ b
    by (inl (e, many)) (inl (f, more)) = e ∙ sym f
    by (inl (e, many)) (inr (f, few, events)) = let alike = same in absurd (omega (arith, many, few, alike))
    by (inr (e, few, events)) (inl (f, many)) = let alike = same in absurd (omega (arith, many, few, alike))
    by (inr (e, few, events)) (inr (f, less, others)) = e ∙ sym f

one_cluster : (files : Files) (dirs : List (List ℕ)) (a b : Refusal) → ClusterRefuses files dirs a → ClusterRefuses files dirs b → a ≡ b
one_cluster files dirs a b (inl h) (inl g) = (crowd_is dirs a h).0 ∙ sym (crowd_is dirs b g).0
one_cluster files dirs a b (inl h) (inr (few, g)) = absurd (good_crowd dirs a h few)
one_cluster files dirs a b (inr (few, h)) (inl g) = absurd (good_crowd dirs b g few)
one_cluster files dirs a b (inr (few, inl h)) (inr (less, inl g)) = one_reading files dirs a b h g
one_cluster files dirs a b (inr (few, inl h)) (inr (less, inr (hosts, are, g))) = absurd (read_hosts files dirs hosts a are h)
one_cluster files dirs a b (inr (few, inr (hosts, are, h))) (inr (less, inl g)) = absurd (read_hosts files dirs hosts b are g)
one_cluster files dirs a b (inr (few, inr (hosts, are, h))) (inr (less, inr (others, there, g))) = one_limit files dirs hosts others a b are there h g

-- ---- a list of events or of questions

one_list : (bytes : List ℕ) (a b : Refusal) → ListRefuses bytes a → ListRefuses bytes b → a ≡ b
one_list bytes a b h g = by (list_is bytes a h) (list_is bytes b g)
  where
    by : ListCause bytes a → ListCause bytes b → a ≡ b
    by (inl x) (inl y) = x.is ∙ (ap (BadList EventsFile) (one_bad_line bytes x.line y.line x.first y.first) ∙ sym y.is)
    by (inl x) (inr (inl y)) = absurd (not_crowded bytes x.line x.first y.crowded)
    by (inl x) (inr (inr (f, large))) = let small = x.small in absurd (omega (arith, large, small))
    by (inr (inl x)) (inl y) = absurd (not_crowded bytes y.line y.first x.crowded)
    by (inr (inl x)) (inr (inl y)) = x.is ∙ sym y.is
    by (inr (inl x)) (inr (inr (f, large))) = let small = x.small in absurd (omega (arith, large, small))
    by (inr (inr (e, large))) (inl y) = let small = y.small in absurd (omega (arith, large, small))
    by (inr (inr (e, large))) (inr (inl y)) = let small = y.small in absurd (omega (arith, large, small))
    by (inr (inr (e, large))) (inr (inr (f, larger))) = e ∙ sym f

one_of_questions : (bytes : List ℕ) (a b : Refusal) → QuestionsRefuse bytes a → QuestionsRefuse bytes b → a ≡ b
one_of_questions bytes a b h g = by (questions_is bytes a h) (questions_is bytes b g)
  where
    by : QuestionsCause bytes a → QuestionsCause bytes b → a ≡ b
    by (inl x) (inl y) = x.is ∙ (ap (BadList Questions) (one_bad_question bytes x.line y.line x.first y.first) ∙ sym y.is)
    by (inl x) (inr (inl (f, large))) = let small = x.small in absurd (omega (arith, large, small))
    by (inl x) (inr (inr (f, small, many))) = let few = x.few in absurd (omega (arith, many, few))
    by (inr (inl (e, large))) (inl y) = let small = y.small in absurd (omega (arith, large, small))
    by (inr (inl (e, large))) (inr (inl (f, larger))) = e ∙ sym f
    by (inr (inl (e, large))) (inr (inr (f, small, many))) = absurd (omega (arith, large, small))
    by (inr (inr (e, small, many))) (inl y) = let few = y.few in absurd (omega (arith, many, few))
    by (inr (inr (e, small, many))) (inr (inl (f, large))) = absurd (omega (arith, large, small))
    by (inr (inr (e, small, many))) (inr (inr (f, less, more))) = e ∙ sym f

one_input : (files : Files) (source : Input) (a b : Refusal) → InputRefuses source files a → InputRefuses source files b → a ≡ b
one_input files (input.List file) a b h g = one_list (bytes_of files [] file) a b h g
one_input files (input.Folders dirs drift) a b h g = one_cluster files dirs a b h g

-- ---- each command

pub one_refusal : (command : PlainCommand) (files : Files) (a b : Refusal) → Refuses command files a → Refuses command files b → a ≡ b
one_refusal (Check folders) files a b h g = one_check files folders a b h g
one_refusal (Report folders drift) files a b h g = one_cluster files folders a b h g
one_refusal (Events folders drift) files a b h g = one_cluster files folders a b h g
one_refusal (State source at) files a b h g = one_input files source a b h g
one_refusal (Ask source questions once) files a b (inl h) (inl g) = one_input files source a b h g
one_refusal (Ask source questions once) files a b (inl h) (inr ((t, is), g)) = absurd (good_input source files a h (input_is_good files source t is))
one_refusal (Ask source questions once) files a b (inr ((t, is), h)) (inl g) = absurd (good_input source files b g (input_is_good files source t is))
one_refusal (Ask source questions once) files a b (inr (is, h)) (inr (js, g)) = one_of_questions (bytes_of files [] questions) a b h g
one_refusal (Path source host tid from to) files a b (inl h) (inl g) = one_input files source a b h g
one_refusal (Path source host tid from to) files a b (inl h) (inr (merged, placed, is, g)) = absurd (good_input source files a h (good_placed files source merged placed is))
one_refusal (Path source host tid from to) files a b (inr (merged, placed, is, h)) (inl g) = absurd (good_input source files b g (good_placed files source merged placed is))
one_refusal (Path source host tid from to) files a b (inr (merged, placed, is, h)) (inr (others, again, js, g)) = (thread_is merged host tid a h).0 ∙ sym (thread_is others host tid b g).0
one_refusal (Make number hosts rounds) files a b h g = one_cluster (made_files number hosts rounds) (made_folders hosts) a b h g
one_refusal (Range source from to path) files a b h g = one_input files source a b h g
one_refusal (Disks source) files a b h g = one_input files source a b h g
