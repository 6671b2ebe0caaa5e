use Rattle.std.proofs.Common.{◌≡◌, ◌↔◌, length, map}
use Rattle.occ_law_shape.specs.occ_meaning.Substitution.{substituted}
use Rattle.occ_syntax.specs.View.{exps, numbers}
use Rattle.occ_law_seq.proofs.pairs.Pairs.give_all.Given as goal

-- the expressions so far are given
abbrev pub invariant-loop-rest : goal.invariant-loop-rest
invariant-loop-rest l = (exps l.other_rest ≡ map (substituted (numbers l.self.vars.now) (exps l.self.values.now)) (exps l.rest))
    ↔ (exps l.others ≡ map (substituted (numbers l.self.vars.now) (exps l.self.values.now)) (exps l.exprs))

abbrev pub decreases-loop-rest : goal.decreases-loop-rest
decreases-loop-rest l = length l.rest
