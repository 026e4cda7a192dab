-- For which causes each step refuses, and what is known then.
use Rattle.std.proofs.Common.{◌≡◌, ◌⊎◌, ◌+◌, ◌<◌, ◌≤◌, inl, inr, ℕ, List, length, count_by, codes, None, refl, ap, ap₂}
use Rattle.ht_outside.specs.Files.{Files}
use Rattle.trace_types.specs.declared.limits.TheConstants.{MAX_EVENTS}
use Rattle.trace_types.specs.declared.event.Merged.{Merged}
use Rattle.trace_metadata.specs.Files.{IsRefused}
use Rattle.trace_metadata.specs.declared.cause.MetaCause.{MetaCause}
use Rattle.decode_pool.specs.Limits.{MAX_PACKETS, event_count, packet_count}
use Rattle.decode_pool.specs.declared.hosts.HostFiles.{HostFiles}
use Rattle.event_list.specs.Lines.{IsCrowded, IsEventList, IsFirstBad}
use Rattle.event_list.specs.declared.parsed_line.ParsedLine.{ParsedLine}
use Rattle.history_core.specs.declared.question.Question.{Question}
use Rattle.wait_graph.specs.Named.{IsNamed}
use Rattle.hosttrace.specs.Folders.{FILES_LIMIT, MAX_HOSTS, METADATA_LIMIT, HasFewNames, HasManyNames}
use Rattle.hosttrace.specs.Inputs.{LIST_LIMIT}
use Rattle.hosttrace.specs.Questions.{QUESTION_LIMIT, is_feed, AreQuestions, IsFirstBadQuestion}
use Rattle.hosttrace.specs.Refusals.{IsCrowd, LimitsRefuse, ListRefuses, MetadataRefuses, NamesRefuse, QuestionsRefuse, SizeRefuses, StreamRefuses, ThreadRefuses}
use Rattle.hosttrace.specs.declared.status.ListFile.TheVariants.{Events as EventsFile, Questions}
use Rattle.hosttrace.specs.declared.status.Limit.TheVariants as limit
use Rattle.hosttrace.specs.declared.status.Refusal.{Refusal}
use Rattle.hosttrace.specs.declared.status.Refusal.TheVariants.{BadList, BadMetadata, NoMetadata, NoThread, TooLarge, TooManyEvents}

pub crowd_is : (dirs : List (List ℕ)) (r : Refusal) → IsCrowd dirs r → (r ≡ TooLarge limit.Hosts) × (MAX_HOSTS < length dirs)
crowd_is dirs (TooLarge limit.Hosts) h = (refl, h)
crowd_is dirs r h = absurd h

abbrev pub NamesCause : Files → ℕ → List ℕ → Refusal → Type 0
NamesCause files host dir r = ((r ≡ TooLarge limit.Names) × HasManyNames files dir) ⊎ ((r ≡ NoMetadata host) × HasFewNames files dir × (files dir (codes "metadata") ≡ None))

pub names_is : (files : Files) (host : ℕ) (dir : List ℕ) (r : Refusal) → NamesRefuse files host dir r → NamesCause files host dir r
names_is files host dir (TooLarge limit.Names) h = inl (refl, h)
names_is files host dir (NoMetadata n) h = inr (ap NoMetadata h.0, h.1, h.2)
names_is files host dir r h = absurd h

abbrev pub SizeCause : ℕ → ℕ → Refusal → Type 0
SizeCause before size r = ((r ≡ TooLarge limit.Metadata) × (METADATA_LIMIT < size)) ⊎ ((r ≡ TooLarge limit.Files) × (size ≤ METADATA_LIMIT) × (FILES_LIMIT < before + size))

pub size_is : (before size : ℕ) (r : Refusal) → SizeRefuses before size r → SizeCause before size r
size_is before size (TooLarge limit.Metadata) h = inl (refl, h)
size_is before size (TooLarge limit.Files) h = inr (refl, h.0, h.1)
size_is before size r h = absurd h

abbrev pub StreamCause : ℕ → ℕ → Refusal → Type 0
StreamCause before size r = ((r ≡ TooLarge limit.File) × (LIST_LIMIT < size)) ⊎ ((r ≡ TooLarge limit.Files) × (size ≤ LIST_LIMIT) × (FILES_LIMIT < before + size))

pub stream_is : (before size : ℕ) (r : Refusal) → StreamRefuses before size r → StreamCause before size r
stream_is before size (TooLarge limit.File) h = inl (refl, h)
stream_is before size (TooLarge limit.Files) h = inr (refl, h.0, h.1)
stream_is before size r h = absurd h

pub metadata_is : (host : ℕ) (bytes : List ℕ) (r : Refusal) → MetadataRefuses host bytes r → (cause : MetaCause) × (r ≡ BadMetadata host cause) × IsRefused bytes cause
metadata_is host bytes (BadMetadata n cause) h = (cause, ap (λ k. BadMetadata k cause) h.0, h.1)
metadata_is host bytes r h = absurd h

abbrev pub LimitsCause : List HostFiles → Refusal → Type 0
LimitsCause hosts r = ((r ≡ TooLarge limit.Packets) × (MAX_PACKETS < packet_count hosts)) ⊎ ((r ≡ TooManyEvents) × (packet_count hosts ≤ MAX_PACKETS) × (MAX_EVENTS < event_count hosts))

pub limits_is : (hosts : List HostFiles) (r : Refusal) → LimitsRefuse hosts r → LimitsCause hosts r
limits_is hosts (TooLarge limit.Packets) h = inl (refl, h)
limits_is hosts TooManyEvents h = inr (refl, h.0, h.1)
limits_is hosts r h = absurd h

-- what is known of a list where a line is bad, and where its events are too many
pub record HasBadLine (bytes : List ℕ) (r : Refusal) : Type 0 where
  pub line : ℕ
  pub is : r ≡ BadList EventsFile line
  pub small : length bytes ≤ LIST_LIMIT
  pub none : (parsed_lines : List ParsedLine) → ¬ (IsEventList bytes parsed_lines)
  pub first : IsFirstBad bytes line

pub record HasManyEvents (bytes : List ℕ) (r : Refusal) : Type 0 where
  pub is : r ≡ TooManyEvents
  pub small : length bytes ≤ LIST_LIMIT
  pub crowded : IsCrowded bytes
  pub all : (parsed_lines : List ParsedLine) → IsEventList bytes parsed_lines → MAX_EVENTS < length parsed_lines

abbrev pub ListCause : List ℕ → Refusal → Type 0
ListCause bytes r = HasBadLine bytes r ⊎ (HasManyEvents bytes r ⊎ ((r ≡ TooLarge limit.File) × (LIST_LIMIT < length bytes)))

pub list_is : (bytes : List ℕ) (r : Refusal) → ListRefuses bytes r → ListCause bytes r
list_is bytes (BadList EventsFile line) h = inl (record { line = line; is = refl; small = h.0; none = h.1; first = h.2 })
list_is bytes TooManyEvents h = inr (inl (record { is = refl; small = h.0; crowded = h.1; all = h.2 }))
list_is bytes (TooLarge limit.File) h = inr (inr (refl, h))
list_is bytes r h = absurd h

-- what is known of a question file where a line is bad
pub record HasBadQuestion (bytes : List ℕ) (r : Refusal) : Type 0 where
  pub line : ℕ
  pub is : r ≡ BadList Questions line
  pub small : length bytes ≤ LIST_LIMIT
  pub few : count_by is_feed bytes ≤ QUESTION_LIMIT
  pub none : (questions : List Question) → ¬ (AreQuestions bytes questions)
  pub first : IsFirstBadQuestion bytes line

abbrev pub QuestionsCause : List ℕ → Refusal → Type 0
QuestionsCause bytes r =
    HasBadQuestion bytes r ⊎ (((r ≡ TooLarge limit.File) × (LIST_LIMIT < length bytes)) ⊎ ((r ≡ TooLarge limit.Questions) × (length bytes ≤ LIST_LIMIT) × (QUESTION_LIMIT < count_by is_feed bytes)))

pub questions_is : (bytes : List ℕ) (r : Refusal) → QuestionsRefuse bytes r → QuestionsCause bytes r
questions_is bytes (BadList Questions line) h = inl (record { line = line; is = refl; small = h.0; few = h.1; none = h.2; first = h.3 })
questions_is bytes (TooLarge limit.File) h = inr (inl (refl, h))
questions_is bytes (TooLarge limit.Questions) h = inr (inr (refl, h.0, h.1))
questions_is bytes r h = absurd h

pub thread_is : (merged : List Merged) (host tid : ℕ) (r : Refusal) → ThreadRefuses merged host tid r → (r ≡ NoThread host tid) × ¬ IsNamed merged host tid
thread_is merged host tid (NoThread n t) h = (ap₂ (λ a b. NoThread a b) h.0 h.1, h.2)
thread_is merged host tid r h = absurd h
