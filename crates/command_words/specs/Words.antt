-- The command set (this project's own).
use Rattle.std.specs.Prelude.{◌≡◌, ◌≢◌, ℕ, ◌^◌, ◌<◌, ◌≤◌, Bool, true, false, List, [], ◌∷◌, Option, Some, None, is_some, length}
use Rattle.std.specs.Fmt.{decimal}
use Rattle.trace_types.specs.Paths.{SpellsPath, IsPath as IsAttributePath}
use Rattle.trace_types.specs.declared.path.Path.{Path as AttributePath}
use Rattle.command_words.specs.CommandNames.{name_word}
use Rattle.command_words.specs.Shapes.{Gives, Shape}
use Rattle.command_words.specs.declared.command.Command.{Command}
use Rattle.command_words.specs.declared.command.Command.TheVariants.{Plain}
use Rattle.command_words.specs.declared.command.PlainCommand.{PlainCommand}
use Rattle.command_words.specs.declared.command.PlainCommand.TheVariants.{Check, Report, Events, State, Ask, Path, Make, Range, Disks}
use Rattle.command_words.specs.declared.command_name.CommandName.TheVariants as name
use Rattle.command_words.specs.declared.command.Input.{Input}
use Rattle.command_words.specs.declared.command.Input.TheVariants as input

-- whether no word is empty (this project's own)
abbrev pub are_names : List (List ℕ) → Bool
are_names [] = true
are_names ([] ∷ ws) = false
are_names ((b ∷ bs) ∷ ws) = are_names ws

-- one or more folders (this project's own)
abbrev pub AreFolders : List (List ℕ) → Type 0
AreFolders folders = (0 < length folders) × (are_names folders ≡ true)

-- a drift, in parts per million (this project's own)
abbrev pub IsDrift : ℕ → Type 0
IsDrift drift = (1 ≤ drift) × (drift ≤ 10000)

-- `--drift`: 1,000 where it is absent (this project's own)
abbrev pub GivesDrift : Option (List ℕ) → ℕ → Type 0
GivesDrift None drift = drift ≡ 1000
GivesDrift (Some text) drift = (text ≡ decimal drift) × IsDrift drift

-- `--workers`: absent, or 0 (this project's own)
abbrev pub GivesWorkers : Option (List ℕ) → Type 0
GivesWorkers None = Unit {0}
GivesWorkers (Some text) = text ≡ decimal 0

-- INPUT is one or more folders, or none beside `--list FILE` without `--drift` (this project's own)
abbrev pub GivesInput : Shape → List (List ℕ) → Input → Type 0
GivesInput shape words (input.List file) = (shape.list ≡ Some file) × (file ≢ []) × (words ≡ []) × (shape.drift ≡ None)
GivesInput shape words (input.Folders folders drift) = (shape.list ≡ None) × (folders ≡ words) × AreFolders words × GivesDrift shape.drift drift

-- none of the options of `ask` is given but INPUT's (this project's own)
abbrev pub IsUnasked : Shape → Type 0
IsUnasked shape = (shape.once ≡ None) × (shape.questions ≡ None) × (shape.workers ≡ None)

-- none of the options of a thread's window is given (this project's own)
abbrev pub HasNoWindow : Shape → Type 0
HasNoWindow shape = (shape.host ≡ None) × (shape.tid ≡ None) × (shape.from ≡ None) × (shape.to ≡ None)

-- none of the options of `make` is given (this project's own)
abbrev pub IsUnmade : Shape → Type 0
IsUnmade shape = (shape.number ≡ None) × (shape.hosts ≡ None) × (shape.rounds ≡ None)

-- none but `--drift` is given (this project's own)
abbrev pub IsBare : Shape → Type 0
IsBare shape = (shape.at ≡ None) × (shape.list ≡ None) × (shape.attribute ≡ None) × IsUnasked shape × HasNoWindow shape × IsUnmade shape

-- `check`, which has no options (this project's own)
pub record IsCheck (shape : Shape) (words folders : List (List ℕ)) : Type 0 where
  pub folders_are : folders ≡ words
  pub are_folders : AreFolders words
  pub is_bare : IsBare shape
  pub no_drift : shape.drift ≡ None

-- `report` and `events`, with `--drift` (this project's own)
pub record IsMerged (shape : Shape) (words folders : List (List ℕ)) (drift : ℕ) : Type 0 where
  pub folders_are : folders ≡ words
  pub are_folders : AreFolders words
  pub drift_is : GivesDrift shape.drift drift
  pub is_bare : IsBare shape

-- `state`, with `--at T` from 0 to 2^62 - 1 (this project's own)
pub record IsState (shape : Shape) (words : List (List ℕ)) (source : Input) (at : ℕ) : Type 0 where
  pub at_is : shape.at ≡ Some (decimal at)
  pub at_below : at < 2 ^ 62
  pub source_is : GivesInput shape words source
  pub is_unasked : IsUnasked shape
  pub no_window : HasNoWindow shape
  pub is_unmade : IsUnmade shape
  pub no_attribute : shape.attribute ≡ None

-- `ask`, with `--questions FILE`, `--workers` and `--once` (this project's own)
pub record IsAsk (shape : Shape) (words : List (List ℕ)) (source : Input) (questions : List ℕ) (once : Bool) : Type 0 where
  pub questions_are : shape.questions ≡ Some questions
  pub are_named : questions ≢ []
  pub workers_are : GivesWorkers shape.workers
  pub once_is : once ≡ is_some shape.once
  pub source_is : GivesInput shape words source
  pub no_at : shape.at ≡ None
  pub no_window : HasNoWindow shape
  pub is_unmade : IsUnmade shape
  pub no_attribute : shape.attribute ≡ None

-- a host from 0 to 63, a thread from 1 to 2^31 - 1, and two instants from 0 to 2^62 - 1, one before the other (this project's own)
pub record IsWindow (host tid from to : ℕ) : Type 0 where
  pub host_below : host < 64
  pub tid_least : 1 ≤ tid
  pub tid_below : tid < 2 ^ 31
  pub order : from < to
  pub to_below : to < 2 ^ 62

-- `--host H`, `--tid N`, `--from T` and `--to T` (this project's own)
pub record GivesWindow (shape : Shape) (host tid from to : ℕ) : Type 0 where
  pub host_is : shape.host ≡ Some (decimal host)
  pub tid_is : shape.tid ≡ Some (decimal tid)
  pub from_is : shape.from ≡ Some (decimal from)
  pub to_is : shape.to ≡ Some (decimal to)
  pub is_window : IsWindow host tid from to

-- `path`, with a thread's window (this project's own)
pub record IsPath (shape : Shape) (words : List (List ℕ)) (source : Input) (host tid from to : ℕ) : Type 0 where
  pub gives_window : GivesWindow shape host tid from to
  pub source_is : GivesInput shape words source
  pub no_at : shape.at ≡ None
  pub is_unasked : IsUnasked shape
  pub is_unmade : IsUnmade shape
  pub no_attribute : shape.attribute ≡ None

-- a number from 0 to 2^64 - 1, from 1 to 64 hosts, and from 1 to 100,000 rounds (this project's own)
pub record AreSizes (number hosts rounds : ℕ) : Type 0 where
  pub number_below : number < 2 ^ 64
  pub hosts_least : 1 ≤ hosts
  pub hosts_most : hosts ≤ 64
  pub rounds_least : 1 ≤ rounds
  pub rounds_most : rounds ≤ 100000

-- `--number N`, `--hosts H` and `--rounds R` (this project's own)
pub record GivesSizes (shape : Shape) (number hosts rounds : ℕ) : Type 0 where
  pub number_is : shape.number ≡ Some (decimal number)
  pub hosts_is : shape.hosts ≡ Some (decimal hosts)
  pub rounds_is : shape.rounds ≡ Some (decimal rounds)
  pub are_sizes : AreSizes number hosts rounds

-- `make`, with the sizes of made traces, and no positional words (this project's own)
pub record IsMake (shape : Shape) (words : List (List ℕ)) (number hosts rounds : ℕ) : Type 0 where
  pub gives_sizes : GivesSizes shape number hosts rounds
  pub no_words : words ≡ []
  pub no_at : shape.at ≡ None
  pub no_list : shape.list ≡ None
  pub no_drift : shape.drift ≡ None
  pub is_unasked : IsUnasked shape
  pub no_window : HasNoWindow shape
  pub no_attribute : shape.attribute ≡ None

-- `--attribute PATH`, which is the text of an attribute's path (this project's own)
abbrev pub GivesAttribute : Option (List ℕ) → AttributePath → Type 0
GivesAttribute None path = ⊥
GivesAttribute (Some text) path = SpellsPath text path

-- `range`, with `--from T`, `--to T` and `--attribute PATH`: two instants from 0 to 2^62 - 1, one before the other (this project's own)
pub record IsRange (shape : Shape) (words : List (List ℕ)) (source : Input) (from to : ℕ) (path : AttributePath) : Type 0 where
  pub from_is : shape.from ≡ Some (decimal from)
  pub to_is : shape.to ≡ Some (decimal to)
  pub order : from < to
  pub to_below : to < 2 ^ 62
  pub attribute_is : GivesAttribute shape.attribute path
  pub source_is : GivesInput shape words source
  pub no_at : shape.at ≡ None
  pub no_thread : (shape.host ≡ None) × (shape.tid ≡ None)
  pub is_unasked : IsUnasked shape
  pub is_unmade : IsUnmade shape

-- `disks`, which has no options but those of INPUT (this project's own)
pub record IsDisks (shape : Shape) (words : List (List ℕ)) (source : Input) : Type 0 where
  pub source_is : GivesInput shape words source
  pub no_at : shape.at ≡ None
  pub no_attribute : shape.attribute ≡ None
  pub is_unasked : IsUnasked shape
  pub no_window : HasNoWindow shape
  pub is_unmade : IsUnmade shape

-- the word of a command (this project's own)
abbrev pub command_name : PlainCommand → List ℕ
command_name (Check folders) = name_word name.Check
command_name (Report folders drift) = name_word name.Report
command_name (Events folders drift) = name_word name.Events
command_name (State source at) = name_word name.State
command_name (Ask source questions once) = name_word name.Ask
command_name (Path source host tid from to) = name_word name.Path
command_name (Make number hosts rounds) = name_word name.Make
command_name (Range source from to path) = name_word name.Range
command_name (Disks source) = name_word name.Disks

-- options and the words after COMMAND are those of a command (this project's own)
abbrev pub Asks : Shape → List (List ℕ) → PlainCommand → Type 0
Asks shape words (Check folders) = IsCheck shape words folders
Asks shape words (Report folders drift) = IsMerged shape words folders drift
Asks shape words (Events folders drift) = IsMerged shape words folders drift
Asks shape words (State source at) = IsState shape words source at
Asks shape words (Ask source questions once) = IsAsk shape words source questions once
Asks shape words (Path source host tid from to) = IsPath shape words source host tid from to
Asks shape words (Make number hosts rounds) = IsMake shape words number hosts rounds
Asks shape words (Range source from to path) = IsRange shape words source from to path
Asks shape words (Disks source) = IsDisks shape words source

-- the first positional word is COMMAND, the others are INPUT, and the options are the command's (this project's own)
pub record IsAsked (shape : Shape) (command : PlainCommand) : Type 0 where
  pub input : List (List ℕ)
  pub positional_are : shape.positional ≡ command_name command ∷ input
  pub asks : Asks shape input command

-- words are a command that runs on one thread (this project's own)
pub record IsPlain (words : List (List ℕ)) (command : PlainCommand) : Type 0 where
  pub shape : Shape
  pub gives : Gives words shape
  pub is_asked : IsAsked shape command

-- the words are this command (this project's own)
abbrev pub IsCommand : List (List ℕ) → Command → Type 0
IsCommand words (Plain command) = IsPlain words command

-- the drift of an input over folders is one (this project's own)
abbrev pub InputHasRange : Input → Type 0
InputHasRange (input.List file) = Unit {0}
InputHasRange (input.Folders folders drift) = IsDrift drift

-- an input with its drift, and a thread's window (this project's own)
pub record HasPathRanges (source : Input) (host tid from to : ℕ) : Type 0 where
  pub input_range : InputHasRange source
  pub is_window : IsWindow host tid from to

-- an input with its drift, two instants in order, and an attribute's path (this project's own)
pub record HasRangeRanges (source : Input) (from to : ℕ) (path : AttributePath) : Type 0 where
  pub input_range : InputHasRange source
  pub order : from < to
  pub to_below : to < 2 ^ 62
  pub is_path : IsAttributePath path

-- the drift of a command over folders is one, a thread's window is one, and so are the sizes of made traces (this project's own)
abbrev pub HasRanges : PlainCommand → Type 0
HasRanges (Check folders) = Unit {0}
HasRanges (Report folders drift) = IsDrift drift
HasRanges (Events folders drift) = IsDrift drift
HasRanges (State source at) = InputHasRange source
HasRanges (Ask source questions once) = InputHasRange source
HasRanges (Path source host tid from to) = HasPathRanges source host tid from to
HasRanges (Make number hosts rounds) = AreSizes number hosts rounds
HasRanges (Range source from to path) = HasRangeRanges source from to path
HasRanges (Disks source) = InputHasRange source

-- the same of any command (this project's own)
abbrev pub AreRanges : Command → Type 0
AreRanges (Plain command) = HasRanges command
