use Rattle.std.proofs.Common.{ap, ◌∙◌}
use Rattle.occ_law_shape.specs.occ_meaning.Parallel.{all_of}
use Rattle.occ_syntax.specs.Tree.{par}
use Rattle.occ_syntax.specs.View.{tree, trees}
use Rattle.occ_law_shape.specs.occ_law.Instances.{sizes}
use Rattle.occ_law_par.proofs.Rights.{skip_is, skip_never}
use Rattle.occ_law_par.proofs.placed.par_skip.Goals as goal

pub returns-then-not-is_skip : goal.returns-then-not-is_skip
returns-then-not-is_skip c =
    skip_never (sizes c.args.place) (tree c.args.left.now) (trees c.in-Some.at.before.now) (trees c.in-Some.at.behind.now) (tree c.in-Some.at.part.now) c.in-Some.ensures (λ e. cc (c.is_skip.ensures.1 e))

pub returns : goal.returns
returns c =
    skip_is (sizes c.args.place) (tree c.args.left.now) (trees c.in-Some.at.before.now) (trees c.in-Some.at.behind.now) (tree c.in-Some.at.part.now) (tree c.par_of.result) c.in-Some.ensures
    (c.is_skip.ensures.0 c.if-not-is_skip.false)
    (c.par_of.ensures ∙ ap par (c.in_ok-add_copies-2.ensures ∙ ap (λ z. all_of z (trees c.in-Some.at.behind.now))
    (c.in_ok-add_copies.ensures ∙ ap (λ z. all_of (trees z) (trees c.in-Some.at.before.now)) c.new-made.ensures)))
