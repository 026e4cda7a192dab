use Rattle.std.proofs.Common.{◌≡◌, ◌-◌, ◌≤◌, ◌^◌, []}
use Rattle.ctf_fields.specs.Reading.{numbers, read_items}
use Rattle.ctf_fields.proofs.numbers.add_numbers.Given as goal

abbrev pub invariant-loop-index : goal.invariant-loop-index
invariant-loop-index l = (read_items (numbers l.source l.integer) l.item [] l.count l.fn.items l.fn.at ≡ read_items (numbers l.source l.integer) l.item [] (l.count - l._index) l.items l.bit)
    × (l.fn.at ≤ l.bit) × (l.bit ≤ 2 ^ 63)
