use Rattle.std.proofs.Common.{drop}
use Rattle.std.specs.List.{AllByRecursion}
use Rattle.occ_syntax.specs.View.{exps}
use Rattle.occ_gen.specs.occ_print.Known.{ExpIsKnown}
use Rattle.occ_core_tests.proofs.tests.known.exprs_below.Given as goal

abbrev pub invariant-loop-expr : goal.invariant-loop-expr
invariant-loop-expr l = AllByRecursion (ExpIsKnown l.count) (exps (drop l.expr-index l.exprs)) → AllByRecursion (ExpIsKnown l.count) (exps l.exprs)
