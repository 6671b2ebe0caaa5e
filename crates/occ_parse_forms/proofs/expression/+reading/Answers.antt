use Rattle.std.proofs.lemmas.Result.{err_from_is_err_and}
use Rattle.occ_parse_forms.proofs.Chains.{done, fails, goes_on, ends}
use Rattle.occ_parse_forms.proofs.expression.+reading.Goals as goal

pub further-returns-in_default : goal.further-returns-in_default
further-returns-in_default t c = done _ _ _ _ _ _ c.along.invariant c.in_default.ensures

pub further-returns-in_err-right : goal.further-returns-in_err-right
further-returns-in_err-right t c =
    let p = err_from_is_err_and c.from_residual.result c.from_residual.ensures.1 in
    rw (p.1, p.2) (fails _ _ _ _ _ _ _ _ c.in_err-right.field-0.0 c.along.invariant c.along-test.true c.in-Some.ensures c.in_err-right.ensures)

pub further-along-preserved : goal.further-along-preserved
further-along-preserved t c = goes_on _ _ _ _ _ _ _ _ _ _ _ c.along.invariant c.along-test.true c.in-Some.ensures c.in_ok-right.ensures c.in_ok-left.ensures

pub further-returns : goal.further-returns
further-returns t c = ends _ _ _ _ _ _ _ c.along.invariant c.along-test.false
