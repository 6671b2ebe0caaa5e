use Rattle.std.proofs.Common.{length}
use Rattle.std.proofs.lemmas.Slice.Zip.{zip_end}
use Rattle.occ_syntax.specs.View.{exps}
use Rattle.occ_law_shape.proofs.Fronts.{test_of}
use Rattle.occ_law_scope.proofs.Dropped.{values_over}
use Rattle.occ_law_scope.proofs.Lists.{exps_none, one_ends, whole}
use Rattle.occ_law_scope.proofs.pairs.are_values_without.Goals as goal

pub returns : goal.returns
returns c =
    let n = zip_end c.args.vars.now c.args.values.now c.loop-var.yielded c.into_iter-var-iterator.result c.loop-var.var-iterator c.next.new.self c.next.result (cc) (cc) c.loop-var.yielded_by c.in-None.is c.next.ensures.steps in
    whole (exps c.loop-var.rest.now) _ _ _ (values_over c.args.name.0 _ _ (one_ends c.args.vars.now c.args.values.now (length c.loop-var.yielded) n))
    (exps_none c.loop-var.rest.now _ (test_of _ _ c.is_empty.ensures)) c.loop-var.invariant
