use Rattle.std.proofs.Common.{length}
use Rattle.std.proofs.lemmas.Slice.Zip.{zip_end}
use Rattle.occ_syntax.specs.View.{exp}
use Rattle.occ_law_scope.proofs.Dropped.{values_over}
use Rattle.occ_law_scope.proofs.Lists.{one_ends}
use Rattle.occ_law_right.proofs.Written.{items_written}
use Rattle.occ_law_right.proofs.pairs.other_values.Goals as goal

pub returns : goal.returns
returns c =
    let n = zip_end c.args.vars.now c.args.values.now c.loop-var.yielded c.into_iter-var-iterator.result c.loop-var.var-iterator c.next.new.self c.next.result (cc) (cc) c.loop-var.yielded_by c.in-None.is c.next.ensures.steps in
    items_written exp _ _ _ (values_over c.args.name.0 _ _ (one_ends c.args.vars.now c.args.values.now (length c.loop-var.yielded) n)) c.loop-var.invariant
