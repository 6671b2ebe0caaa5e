use Rattle.std.proofs.Common.{ap, ◌∙◌}
use Rattle.std.proofs.lemmas.Result.{IfOk-weaker}
use Rattle.occ_syntax.proofs.Views.{tree-Par}
use Rattle.occ_syntax.specs.Declarations.{declaring_all}
use Rattle.occ_syntax.specs.Tree.{par}
use Rattle.occ_syntax.specs.View.{trees, in_procs}
use Rattle.occ_norm_arrange.proofs.Listed.{trees_pushed}
use Rattle.occ_norm_arrange.proofs.flat.Spread.with_last.Goals as goal

pub returns : goal.returns
returns c =
    let parts = c.push.new.self in
    IfOk-weaker c.within.result _ _
    (λ flat e. e ∙ ap (declaring_all c.items.result.now) (tree-Par parts) ∙ ap (λ ds. declaring_all ds (par (trees (in_procs parts)))) c.items.ensures ∙ ap (declaring_all c.args.self.chans) (ap par (trees_pushed (in_procs parts) _ _ _ c.in_ok-push.ensures.ok c.in_ok-copy.ensures)))
    c.within.ensures
