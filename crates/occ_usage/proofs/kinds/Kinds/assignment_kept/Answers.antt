use Rattle.std.proofs.Common.{◌≡◌, IfOk, subst}
use Rattle.occ_syntax.specs.Scopes.{environment}
use Rattle.occ_syntax.specs.View.{numbers, exps}
use Rattle.occ_usage.proofs.Scoped.{unkept, once_kept}
use Rattle.occ_usage.proofs.kinds.Kinds.assignment_kept.Goals as goal

pub returns-then-not-pairs_agree : goal.returns-then-not-pairs_agree
returns-then-not-pairs_agree c = unkept (environment c.args.self.now) (numbers c.args.vars.now) (exps c.args.values.now) c.if-not-pairs_agree.ensures

pub returns : goal.returns
returns c =
    subst (λ o. IfOk c.distinct.result (λ kept. kept ≡ o)) (once_kept (environment c.args.self.now) (numbers c.args.vars.now) (exps c.args.values.now) c.if-not-is_one.ensures c.if-not-pairs_agree.ensures) c.distinct.ensures
