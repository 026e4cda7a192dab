-- Words are one command at most.
use Rattle.std.proofs.Common.{◌≡◌, ℕ, ◌+◌, ◌*◌, ◌<◌, ◌^◌, true, List, [], ◌∷◌, Option, Some, None, drop, get_or, rules, refl, sym, ap, ap₂, ◌∙◌, subst, arith}
use Rattle.std.specs.Prelude.{◌↔◌}
use Rattle.trace_types.proofs.Decimals.{same_number, below_wide}
use Rattle.trace_types.proofs.PathWords.{one_path}
use Rattle.trace_types.specs.declared.path.Path.{Path as AttributePath}
use Rattle.command_words.specs.Parts.{Part, same_name}
use Rattle.command_words.specs.Shapes.{Gives, HaveShape, Shape, option_list}
use Rattle.command_words.specs.Words.{Asks, GivesAttribute, GivesDrift, GivesInput, IsAsked, IsCommand, IsDrift, command_name}
use Rattle.command_words.specs.declared.option_name.OptionName.{OptionName}
use Rattle.command_words.specs.declared.command.Command.{Command}
use Rattle.command_words.specs.declared.command.Command.TheVariants.{Plain}
use Rattle.command_words.specs.declared.command.PlainCommand.{PlainCommand}
use Rattle.command_words.specs.declared.command.PlainCommand.TheVariants.{Check, Report, Events, State, Ask, Path, Make, Range, Disks}
use Rattle.command_words.specs.declared.command.Input.{Input}
use Rattle.command_words.specs.declared.command.Input.TheVariants as input
use Rattle.command_words.proofs.AllParts.{one_list}
use Rattle.command_words.proofs.Sizes.{hosts_low, one_start, rounds_low}
use Rattle.command_words.proofs.Windows.{one_instant, one_number, same_some, starts_low}

-- ---- words give one shape
same_value : (a b : Option (List ℕ)) (vs : List (List ℕ)) → vs ≡ option_list a → vs ≡ option_list b → a ≡ b
same_value None None vs e f = refl
same_value None (Some v) vs e f = let no : [] ≡ v ∷ [] = sym e ∙ f in absurd (cc)
same_value (Some u) None vs e f = let no : [] ≡ u ∷ [] = sym f ∙ e in absurd (cc)
same_value (Some u) (Some v) vs e f = ap (λ l. Some (get_or l 0 [])) (sym e ∙ f)

shape_of_parts : (ps : List Part) (s r : Shape) → HaveShape ps s → HaveShape ps r → s ≡ r
shape_of_parts ps s r h g =
    let at = same_value s.at r.at _ h.at_is g.at_is in
    let attribute = same_value s.attribute r.attribute _ h.attribute_is g.attribute_is in
    let drift = same_value s.drift r.drift _ h.drift_is g.drift_is in
    let from = same_value s.from r.from _ h.from_is g.from_is in
    let host = same_value s.host r.host _ h.host_is g.host_is in
    let hosts = same_value s.hosts r.hosts _ h.hosts_is g.hosts_is in
    let list = same_value s.list r.list _ h.list_is g.list_is in
    let number = same_value s.number r.number _ h.number_is g.number_is in
    let once = same_value s.once r.once _ h.once_is g.once_is in
    let questions = same_value s.questions r.questions _ h.questions_are g.questions_are in
    let rounds = same_value s.rounds r.rounds _ h.rounds_are g.rounds_are in
    let tid = same_value s.tid r.tid _ h.tid_is g.tid_is in
    let to = same_value s.to r.to _ h.to_is g.to_is in
    let workers = same_value s.workers r.workers _ h.workers_are g.workers_are in
    let positional : s.positional ≡ r.positional = sym h.positional_are ∙ g.positional_are in
    λ i. record { at = at i; attribute = attribute i; drift = drift i; from = from i; host = host i; hosts = hosts i; list = list i; number = number i; once = once i; questions = questions i; rounds = rounds i; tid = tid i; to = to i; workers = workers i; positional = positional i }

pub one_shape : (ws : List (List ℕ)) (s r : Shape) → Gives ws s → Gives ws r → s ≡ r
one_shape ws s r h g = shape_of_parts g.parts s r (subst (λ (ps : List Part). HaveShape ps s) (one_list ws h.parts g.parts h.are_parts g.are_parts) h.have_shape) g.have_shape

-- ---- a shape is of one command
drift_range : (d : ℕ) → IsDrift d → d < 2 ^ 128
drift_range d h = below_wide d (2 ^ 62) (omega (arith, h.1)) (omega arith)

one_drift : (given : Option (List ℕ)) (d e : ℕ) → GivesDrift given d → GivesDrift given e → d ≡ e
one_drift None d e h g = h ∙ sym g
one_drift (Some text) d e h g = same_number d e (drift_range d h.1) (drift_range e g.1) (sym h.0 ∙ g.0)

one_input : (s : Shape) (ws : List (List ℕ)) (a b : Input) → GivesInput s ws a → GivesInput s ws b → a ≡ b
one_input s ws (input.List file) (input.List other) h g = ap input.List (same_some s.list file other h.0 g.0)
one_input s ws (input.List file) (input.Folders folders drift) h g = let no : Some file ≡ None = sym h.0 ∙ g.0 in absurd (cc)
one_input s ws (input.Folders folders drift) (input.List file) h g = let no : Some file ≡ None = sym g.0 ∙ h.0 in absurd (cc)
one_input s ws (input.Folders folders drift) (input.Folders others rate) h g = ap₂ (λ fs d. input.Folders fs d) (h.1 ∙ sym g.1) (one_drift s.drift drift rate h.3 g.3)

one_attribute : (given : Option (List ℕ)) (p q : AttributePath) → GivesAttribute given p → GivesAttribute given q → p ≡ q
one_attribute None p q h g = absurd h
one_attribute (Some text) p q h g = one_path text p q h g

-- the first and the third letter of a command's word
abbrev letter : PlainCommand → ℕ
letter c = get_or (command_name c) 0 0 * 256 + get_or (command_name c) 2 0

asked_once : (s : Shape) (ws : List (List ℕ)) (c d : PlainCommand) → letter c ≡ letter d → Asks s ws c → Asks s ws d → c ≡ d
asked_once s ws (Check folders) (Check others) e h g = ap Check (h.folders_are ∙ sym g.folders_are)
asked_once s ws (Report folders drift) (Report others rate) e h g = ap₂ (λ fs d. Report fs d) (h.folders_are ∙ sym g.folders_are) (one_drift s.drift drift rate h.drift_is g.drift_is)
asked_once s ws (Events folders drift) (Events others rate) e h g = ap₂ (λ fs d. Events fs d) (h.folders_are ∙ sym g.folders_are) (one_drift s.drift drift rate h.drift_is g.drift_is)
asked_once s ws (State source at) (State other then) e h g = ap₂ (λ i t. State i t) (one_input s ws source other h.source_is g.source_is) (one_instant s.at at then h.at_is g.at_is h.at_below g.at_below)
asked_once s ws (Ask source questions once) (Ask other asked ever) e h g =
    let sources = one_input s ws source other h.source_is g.source_is in
    let files = same_some s.questions questions asked h.questions_are g.questions_are in
    let same : once ≡ ever = h.once_is ∙ sym g.once_is in
    λ i. Ask (sources i) (files i) (same i)
asked_once s ws (Path source host tid from to) (Path other guest thread start end) e h g =
    let w = h.gives_window in
    let v = g.gives_window in
    let sources = one_input s ws source other h.source_is g.source_is in
    let hosts = one_number s.host host guest 64 (omega arith) w.host_is v.host_is w.is_window.host_below v.is_window.host_below in
    let threads = one_number s.tid tid thread (2 ^ 31) (omega arith) w.tid_is v.tid_is w.is_window.tid_below v.is_window.tid_below in
    let starts = one_instant s.from from start w.from_is v.from_is (starts_low w.is_window) (starts_low v.is_window) in
    let ends = one_instant s.to to end w.to_is v.to_is w.is_window.to_below v.is_window.to_below in
    λ i. Path (sources i) (hosts i) (threads i) (starts i) (ends i)
asked_once s ws (Make number hosts rounds) (Make other many times) e h g =
    let numbers = one_start s.number number other h.gives_sizes.number_is g.gives_sizes.number_is h.gives_sizes.are_sizes.number_below g.gives_sizes.are_sizes.number_below in
    let counts = one_number s.hosts hosts many 65 (omega arith) h.gives_sizes.hosts_is g.gives_sizes.hosts_is (hosts_low h.gives_sizes.are_sizes) (hosts_low g.gives_sizes.are_sizes) in
    let lengths = one_number s.rounds rounds times 100001 (omega arith) h.gives_sizes.rounds_is g.gives_sizes.rounds_is (rounds_low h.gives_sizes.are_sizes) (rounds_low g.gives_sizes.are_sizes) in
    λ i. Make (numbers i) (counts i) (lengths i)
asked_once s ws (Range source from to path) (Range other start end attribute) e h g =
    let sources = one_input s ws source other h.source_is g.source_is in
    let starts = one_instant s.from from start h.from_is g.from_is (omega (arith, h.order, h.to_below)) (omega (arith, g.order, g.to_below)) in
    let ends = one_instant s.to to end h.to_is g.to_is h.to_below g.to_below in
    let paths = one_attribute s.attribute path attribute h.attribute_is g.attribute_is in
    λ i. Range (sources i) (starts i) (ends i) (paths i)
asked_once s ws (Disks source) (Disks other) e h g = ap Disks (one_input s ws source other h.source_is g.source_is)
asked_once s ws c d e h g = absurd (omega (arith, e))

pub one_plain : (s : Shape) (c d : PlainCommand) → IsAsked s c → IsAsked s d → c ≡ d
one_plain s c d h g =
    let same : command_name c ∷ h.input ≡ command_name d ∷ g.input = sym h.positional_are ∙ g.positional_are in
    let rest : h.input ≡ g.input = ap (drop 1) same in
    asked_once s g.input c d (ap (λ l. get_or (get_or l 0 []) 0 0 * 256 + get_or (get_or l 0 []) 2 0) same) (subst (λ (ws : List (List ℕ)). Asks s ws c) rest h.asks) g.asks

pub same_command : (ws : List (List ℕ)) (c d : Command) → IsCommand ws c → IsCommand ws d → c ≡ d
same_command ws (Plain c) (Plain d) h g =
    ap Plain (one_plain g.shape c d (subst (λ (s : Shape). IsAsked s c) (one_shape ws h.shape g.shape h.gives g.gives) h.is_asked) g.is_asked)

-- ---- words that are no command
pub gives_nothing : (ws : List (List ℕ)) → ((s : Shape) → Gives ws s → ⊥) → (c : Command) → IsCommand ws c → ⊥
gives_nothing ws none (Plain c) h = none h.shape h.gives

pub asks_nothing : (ws : List (List ℕ)) (s : Shape) → Gives ws s → ((c : PlainCommand) → IsAsked s c → ⊥) → (c : Command) → IsCommand ws c → ⊥
asks_nothing ws s given none (Plain c) h = none c (subst (λ (r : Shape). IsAsked r c) (one_shape ws h.shape s h.gives given) h.is_asked)

-- ---- the derived comparison tells all options apart
pub option_is : (a b : OptionName) → same_name a b ≡ true ↔ a ≡ b
option_is a b = search rules
