-- What event lists and question files are (this project's own formats and limits).
use Rattle.std.specs.Prelude.{ℕ, ◌≤◌, List, length, count_by}
use Rattle.trace_types.specs.declared.limits.TheConstants.{MAX_EVENTS}
use Rattle.event_list.specs.Lines.{IsEventList}
use Rattle.event_list.specs.Names.{IsTrace}
use Rattle.event_list.specs.declared.parsed_line.ParsedLine.{ParsedLine}
use Rattle.event_list.specs.declared.trace.MergedTrace.{MergedTrace}
use Rattle.history_core.specs.declared.question.Question.{Question}
use Rattle.hosttrace.specs.Questions.{QUESTION_LIMIT, is_feed, AreQuestions}

-- how many bytes a file may have
abbrev pub LIST_LIMIT : ℕ
LIST_LIMIT = 268435456

-- the bytes are the event list of these lines, within the limits
pub record IsList (bytes : List ℕ) (parsed_lines : List ParsedLine) : Type 0 where
  pub small : length bytes ≤ LIST_LIMIT
  pub few : length parsed_lines ≤ MAX_EVENTS
  pub is_list : IsEventList bytes parsed_lines

-- the bytes are an event list, and this is what its lines tell
pub record IsListTrace (bytes : List ℕ) (trace : MergedTrace) : Type 0 where
  pub parsed_lines : List ParsedLine
  pub is_list : IsList bytes parsed_lines
  pub is_trace : IsTrace parsed_lines trace

-- the bytes are these questions, within the limits
pub record AreAsked (bytes : List ℕ) (questions : List Question) : Type 0 where
  pub small : length bytes ≤ LIST_LIMIT
  pub few : count_by is_feed bytes ≤ QUESTION_LIMIT
  pub are_questions : AreQuestions bytes questions
