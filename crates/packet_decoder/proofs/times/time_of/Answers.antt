use Rattle.std.proofs.Common.{rules}
use Rattle.packet_decoder.proofs.Seconds.{time_fits, time_shown}
use Rattle.packet_decoder.proofs.times.time_of.Goals as goal

pub overflow_add-result-2 : goal.overflow_add-result-2
overflow_add-result-2 c = rw (c.div_euclid.ensures, c.from.ensures, c.from-2.ensures) (time_fits c.args.rate.offset_s c.args.rate.offset c.args.value c.args.rate.freq c.requires.offset_s c.requires.offset (search rules) (search rules))

pub returns : goal.returns
returns c = rw (c.div_euclid.ensures, c.from.ensures, c.from-2.ensures) (time_shown c.args.rate.offset_s c.args.rate.offset c.args.value c.args.rate.freq c.requires.offset_s c.requires.offset (search rules) (search rules))
