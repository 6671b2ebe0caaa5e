use Rattle.std.proofs.Common.{ap, ◌∙◌}
use Rattle.occ_law_seq.specs.occ_law_shape.Pieces.{each_branch}
use Rattle.occ_syntax.specs.Declarations.{declaring}
use Rattle.occ_syntax.specs.Tree.{alt}
use Rattle.occ_syntax.proofs.Views.{tree-Alt}
use Rattle.occ_law_right.proofs.Written.{branch_written, branches_from, branches_written, no_branches}
use Rattle.occ_law_right.proofs.choices.into_branches.Goals as goal

pub loop-guard-preserved : goal.loop-guard-preserved
loop-guard-preserved c =
    let d = c.args.declaration in
    branch_written _ _ _ _ _ _ _ _ _ _ c.in_ok-push.ensures.ok c.in_ok-guard.ensures.condition c.in_ok-guard.ensures.wait c.in_ok-over.ensures
    (ap (each_branch (λ b. b) (λ v. v) (λ v p. declaring d.name.0 d.kind p)) (branches_from _ _ _ c.loop-guard-test.true c.loop-guard-item.is)) c.loop-guard.invariant

pub returns : goal.returns
returns c =
    let d = c.args.declaration in
    tree-Alt _ ∙ ap alt (branches_written _ _ _ (ap (each_branch (λ b. b) (λ v. v) (λ v p. declaring d.name.0 d.kind p)) (no_branches _ _ c.loop-guard-test.false)) c.loop-guard.invariant)
