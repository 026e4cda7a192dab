use Rattle.decode_pool.specs.Marks.{nothing_lost}
use Rattle.decode_pool.proofs.Missing.{alone, marks_are}
use Rattle.decode_pool.proofs.laws.marks_where_missing.Goals as goal

pub returns-clause-marks : goal.returns-clause-marks
returns-clause-marks c before empty k first others after all is = marks_are before empty k first others after all is

pub returns-clause-alone : goal.returns-clause-alone
returns-clause-alone c before empty all = alone before nothing_lost empty all
