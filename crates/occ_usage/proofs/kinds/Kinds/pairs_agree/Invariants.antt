use Rattle.std.proofs.Common.{◌≡◌, drop}
use Rattle.occ_syntax.specs.Scopes.{environment}
use Rattle.occ_syntax.specs.View.{numbers, exps}
use Rattle.occ_usage.specs.Typed.{agreeing_pairs}
use Rattle.occ_usage.proofs.kinds.Kinds.pairs_agree.Given as goal

abbrev pub invariant-loop-place : goal.invariant-loop-place
invariant-loop-place l =
    agreeing_pairs (environment l.self) (numbers (drop l.place l.vars)) (exps (drop l.place l.values)) ≡ agreeing_pairs (environment l.self) (numbers l.vars) (exps l.values)
