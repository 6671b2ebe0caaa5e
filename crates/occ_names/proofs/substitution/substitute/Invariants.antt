use Rattle.std.proofs.Common.{◌≡◌, [], drop}
use Rattle.occ_syntax.specs.View.{numbers}
use Rattle.occ_names.specs.Once.{same_number, with_all}
use Rattle.occ_names.proofs.substitution.substitute.Given as goal

abbrev pub invariant-loop-var : goal.invariant-loop-var
invariant-loop-var l = with_all same_number l.places (numbers (drop l.var-index l.vars)) ≡ with_all same_number [] (numbers l.vars)
