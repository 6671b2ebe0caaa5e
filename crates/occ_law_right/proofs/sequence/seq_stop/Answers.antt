use Rattle.std.proofs.Common.{ap, ◌∙◌}
use Rattle.occ_syntax.specs.Tree.{seq}
use Rattle.occ_syntax.specs.View.{tree, trees}
use Rattle.occ_law_scope.specs.occ_meaning.Parallel.{all_of, one}
use Rattle.occ_law_seq.specs.occ_law.Instances.{sizes}
use Rattle.occ_law_right.proofs.Rights.{stop_never, stop_right}
use Rattle.occ_law_right.proofs.sequence.seq_stop.Goals as goal

pub returns-then-not-is_stop : goal.returns-then-not-is_stop
returns-then-not-is_stop c = stop_never (sizes c.args.place) (tree c.args.left.now) (trees c.in-Some.at.before.now) (tree c.in-Some.at.part.now) (trees c.in-Some.at.behind.now) c.in-Some.ensures (λ e. cc (c.is_stop.ensures.1 e))

pub returns : goal.returns
returns c =
    let stops = c.is_stop.ensures.0 c.if-not-is_stop.false in
    let front = trees c.in-Some.at.before.now in
    stop_right (sizes c.args.place) (tree c.args.left.now) (tree c.seq_of.result) (trees c.in-Some.at.before.now) (tree c.in-Some.at.part.now) (trees c.in-Some.at.behind.now) c.in-Some.ensures stops
    (c.seq_of.ensures ∙ ap seq (c.in_ok-add.ensures ∙ ap (λ z. all_of z (one (tree c.in_ok-copy.field-0))) c.in_ok-made.ensures ∙ ap (λ z. all_of front (one z)) (c.in_ok-copy.ensures ∙ stops)))
