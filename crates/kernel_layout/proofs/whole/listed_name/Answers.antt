use Rattle.std.proofs.Common.{◌≡◌, ◌∙◌, subst, map, take, arith}
use Rattle.std.proofs.lemmas.List.{length-set}
use Rattle.kernel_layout.specs.Needed.{byte_of}
use Rattle.kernel_layout.proofs.Names.{next_byte, whole_name}
use Rattle.kernel_layout.proofs.whole.listed_name.Goals as goal

pub loop-index-preserved : goal.loop-index-preserved
loop-index-preserved c = (
  rw c.byte_of.ensures (next_byte c.args.fields.now c.loop-index.bytes c.loop-index.index c.index-fields-index.result (omega (arith, c.loop-index-test.true, c.min-len.ensures)) (omega (arith, c.loop-index-test.true, c.min-len.ensures, c.loop-index.invariant.1)) c.index-fields-index.is c.loop-index.invariant.0),
  length-set c.loop-index.bytes c.loop-index.index c.byte_of.result ∙ c.loop-index.invariant.1,
)

pub returns : goal.returns
returns c =
    let all : c.loop-index.index ≡ c.min-len.result = omega (arith, c.loop-index-test.false, c.loop-index.auto.index-end) in
    c.first_of.ensures ∙ whole_name c.args.fields.now c.loop-index.bytes c.min-len.result c.min-len.ensures (subst (λ n. take n c.loop-index.bytes ≡ take n (map byte_of c.args.fields.now)) all c.loop-index.invariant.0)
