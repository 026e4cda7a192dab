use Rattle.std.proofs.Common.{ℕ, ◌<◌, get_or}
use Rattle.message_match.specs.declared.message.Message.{Message}
use Rattle.host_merge.specs.Placed.{IsAmong}
use Rattle.merge_tests.proofs.hosts.are_among.Given as goal

abbrev pub invariant-loop-m : goal.invariant-loop-m
invariant-loop-m l = (k : ℕ) (d : Message) → k < l.m-index → IsAmong l.merged (get_or l.messages k d)
