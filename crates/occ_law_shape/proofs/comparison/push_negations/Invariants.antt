use Rattle.std.proofs.Common.{◌≡◌, ◌++◌, drop}
use Rattle.occ_syntax.specs.View.{cases, exps}
use Rattle.occ_law.specs.Lists.{conditions}
use Rattle.occ_law_shape.specs.Conditions.{negations}
use Rattle.occ_law_shape.proofs.comparison.push_negations.Given as goal

-- what is there, and what is left of the choices
abbrev pub invariant-loop-condition : goal.invariant-loop-condition
invariant-loop-condition l = exps l.fn.exprs ++ negations (conditions (cases l.choices)) ≡ exps l.exprs ++ negations (conditions (cases (drop l.condition-index l.choices)))
