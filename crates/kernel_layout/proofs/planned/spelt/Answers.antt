use Rattle.std.proofs.Common.{◌≡◌, ◌∙◌, ◌<◌, length, min, map, take, subst, arith}
use Rattle.std.proofs.lemmas.List.{length-set}
use Rattle.kernel_layout.specs.Needed.{byte_of}
use Rattle.kernel_layout.specs.Plans.{numbers_from}
use Rattle.kernel_layout.proofs.Names.{whole_name}
use Rattle.kernel_layout.proofs.PlannedNames.{byte_placed, how_many}
use Rattle.kernel_layout.proofs.planned.spelt.Goals as goal

pub loop-index-preserved : goal.loop-index-preserved
loop-index-preserved c =
    let few : c.loop-index.index < c.args.count = omega (arith, c.loop-index-test.true, c.min-len.ensures) in
    let room : c.loop-index.index < length c.loop-index.bytes = omega (arith, c.loop-index-test.true, c.min-len.ensures, c.loop-index.invariant.1) in (
      byte_placed c.args.bits.bytes.now c.args.bits.end c.args.integer c.args.at c.args.count c.loop-index.bytes c.loop-index.index c.byte_at.result c.requires.bytes few room c.byte_at.ensures c.loop-index.invariant.0,
      length-set c.loop-index.bytes c.loop-index.index c.byte_at.result ∙ c.loop-index.invariant.1,
    )

pub returns : goal.returns
returns c =
    let fs = numbers_from c.args.bits.bytes.now c.args.bits.end 0 c.args.integer c.args.at c.args.count in
    let all : c.loop-index.index ≡ c.min-len.result = omega (arith, c.loop-index-test.false, c.loop-index.auto.index-end) in
    let long = how_many c.args.bits.bytes.now c.args.bits.end 0 c.args.integer c.args.at c.args.count in
    let len : c.min-len.result ≡ min (length fs) 15 = omega (arith, c.min-len.ensures, long) in
    c.first_of.ensures ∙ whole_name fs c.loop-index.bytes c.min-len.result len (subst (λ n. take n c.loop-index.bytes ≡ take n (map byte_of fs)) all c.loop-index.invariant.0)
