use Rattle.clock_fraction.proofs.Heights.{height_is_floor, made_height_is}
use Rattle.clock_fraction.proofs.line.Line.floor_at.Goals as goal

pub returns-clause-value : goal.returns-clause-value
returns-clause-value c = rw (c.div_euclid.ensures, c.from.ensures, c.from-2.ensures, c.from-3.ensures, c.from-4.ensures, c.from-5.ensures)
    (rw ((made_height_is c.args.self.now c.args.x c.requires).0) (height_is_floor c.args.self.now c.args.x c.args.self.now.slope.q_above))

pub returns-clause-range : goal.returns-clause-range
returns-clause-range c = rw (c.div_euclid.ensures, c.from.ensures, c.from-2.ensures, c.from-3.ensures, c.from-4.ensures, c.from-5.ensures)
    (rw ((made_height_is c.args.self.now c.args.x c.requires).0) ((made_height_is c.args.self.now c.args.x c.requires).1))
