use Rattle.std.proofs.Common.{◌+◌, ◌*◌, ◌%◌, ◌∙◌, arith}
use Rattle.occ_nform_rows.proofs.Placing.{fewer_bits, place_more, place_fits}
use Rattle.occ_nform_rows.proofs.lister.Lister.place.Goals as goal

pub overflow_mul-place : goal.overflow_mul-place
overflow_mul-place c =
    let more = place_more c.args.self.now.params.now c.loop-kind.kind-index _ c.loop-kind-test.true c.from-bits.result c.size-values.result c.loop-kind.place c.loop-kind.rest _ (c.from-bits.ensures ∙ c.bits.ensures) c.size-values.ensures c.loop-kind.invariant.so_far in
    let small = place_fits c.args.self.now.params.now (c.loop-kind.place * c.size-values.result + c.loop-kind.rest % c.size-values.result) _ _ c.args.assignment c.args.self.now.few more in
    omega (arith, small)

pub overflow_add-place : goal.overflow_add-place
overflow_add-place c =
    let more = place_more c.args.self.now.params.now c.loop-kind.kind-index _ c.loop-kind-test.true c.from-bits.result c.size-values.result c.loop-kind.place c.loop-kind.rest _ (c.from-bits.ensures ∙ c.bits.ensures) c.size-values.ensures c.loop-kind.invariant.so_far in
    let small = place_fits c.args.self.now.params.now (c.loop-kind.place * c.size-values.result + c.loop-kind.rest % c.size-values.result) _ _ c.args.assignment c.args.self.now.few more in
    omega (arith, small)

pub loop-kind-preserved : goal.loop-kind-preserved
loop-kind-preserved c =
    let more = place_more c.args.self.now.params.now c.loop-kind.kind-index _ c.loop-kind-test.true c.from-bits.result c.size-values.result c.loop-kind.place c.loop-kind.rest _ (c.from-bits.ensures ∙ c.bits.ensures) c.size-values.ensures c.loop-kind.invariant.so_far in
    record { few = fewer_bits c.args.self.now.params.now c.loop-kind.kind-index c.from-bits.result _ c.loop-kind-test.true (c.from-bits.ensures ∙ c.bits.ensures) c.loop-kind.invariant.few; so_far = more }
