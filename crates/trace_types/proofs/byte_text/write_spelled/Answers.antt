use Rattle.trace_types.proofs.PlainBytes.{front_of_two, in_two}
use Rattle.trace_types.proofs.byte_text.write_spelled.Goals as goal

pub returns-clause-ok : goal.returns-clause-ok
returns-clause-ok c = in_two c.write_each.result c.args.bytes.now c.split_at.result.0.now c.split_at.result.1.now c.plain_len.result c.args.out.now.items c.extend_from_slice.new.self.items c.write_each.new.out.items c.plain_len.ensures.is c.split_at.ensures.front c.split_at.ensures.back c.in_ok-extend_from_slice.ensures.items c.write_each.ensures.ok

pub returns-clause-err : goal.returns-clause-err
returns-clause-err c = front_of_two c.write_each.result c.args.bytes.now c.split_at.result.0.now c.split_at.result.1.now c.plain_len.result c.args.out.now.items c.extend_from_slice.new.self.items c.write_each.new.out.items c.plain_len.ensures.is c.split_at.ensures.front c.split_at.ensures.back c.in_ok-extend_from_slice.ensures.items c.write_each.ensures.err
