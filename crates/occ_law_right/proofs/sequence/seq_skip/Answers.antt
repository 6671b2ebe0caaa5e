use Rattle.std.proofs.Common.{ap, ◌∙◌}
use Rattle.occ_syntax.specs.Tree.{seq}
use Rattle.occ_syntax.specs.View.{tree, trees}
use Rattle.occ_law_scope.specs.occ_meaning.Parallel.{all_of}
use Rattle.occ_law_seq.specs.occ_law.Instances.{sizes}
use Rattle.occ_law_right.proofs.Rights.{skip_never, skip_right}
use Rattle.occ_law_right.proofs.sequence.seq_skip.Goals as goal

pub returns-then-not-is_skip : goal.returns-then-not-is_skip
returns-then-not-is_skip c = skip_never (sizes c.args.place) (tree c.args.left.now) (trees c.in-Some.at.before.now) (tree c.in-Some.at.part.now) (trees c.in-Some.at.behind.now) c.in-Some.ensures (λ e. cc (c.is_skip.ensures.1 e))

pub returns : goal.returns
returns c =
    skip_right (sizes c.args.place) (tree c.args.left.now) (tree c.in_ok-finished.field-0) (trees c.in-Some.at.before.now) (tree c.in-Some.at.part.now) (trees c.in-Some.at.behind.now) c.in-Some.ensures (c.is_skip.ensures.0 c.if-not-is_skip.false)
    (c.in_ok-finished.ensures ∙ ap (λ z. seq (all_of z (trees c.in-Some.at.behind.now))) c.in_ok-made.ensures)
