use Rattle.std.proofs.Common.{◌∙◌, sym}
use Rattle.trace_types.proofs.Names.{cut_name, front_length}
use Rattle.trace_types.proofs.comm.Comm.first_of.Goals as goal

pub slice_bounds-copy_from_slice-end-2 : goal.slice_bounds-copy_from_slice-end-2
slice_bounds-copy_from_slice-end-2 c = sym (front_length c.args.bytes.now c.name_len.result c.min-len.result c.name_len.ensures c.min-len.ensures).0

pub copy_from_slice-requires : goal.copy_from_slice-requires
copy_from_slice-requires c =
    let both = front_length c.args.bytes.now c.name_len.result c.min-len.result c.name_len.ensures c.min-len.ensures in
    both.1 ∙ sym both.0

pub invariant_of-result : goal.invariant_of-result
invariant_of-result c = (cut_name c.args.bytes.now c.copy_from_slice.new.self c.name_len.result c.min-len.result c.name_len.ensures c.min-len.ensures c.copy_from_slice.ensures.after).0

pub returns : goal.returns
returns c = (cut_name c.args.bytes.now c.copy_from_slice.new.self c.name_len.result c.min-len.result c.name_len.ensures c.min-len.ensures c.copy_from_slice.ensures.after).1
