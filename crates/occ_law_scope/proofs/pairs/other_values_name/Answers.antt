use Rattle.std.proofs.Common.{length}
use Rattle.std.proofs.lemmas.Slice.Zip.{zip_end}
use Rattle.occ_law_scope.proofs.Dropped.{none_named, values_over}
use Rattle.occ_law_scope.proofs.Lists.{one_ends}
use Rattle.occ_law_scope.proofs.pairs.other_values_name.Goals as goal

pub returns : goal.returns
returns c =
    let n = zip_end c.args.vars.now c.args.values.now c.loop-var.yielded c.into_iter-var-iterator.result c.loop-var.var-iterator c.next.new.self c.next.result (cc) (cc) c.loop-var.yielded_by c.in-None.is c.next.ensures.steps in
    none_named _ c.args.name.0 _ c.loop-var.invariant (values_over c.args.name.0 _ _ (one_ends c.args.vars.now c.args.values.now (length c.loop-var.yielded) n))
