use Rattle.std.proofs.Common.{ap, ◌∙◌}
use Rattle.occ_law_shape.specs.occ_meaning.Parallel.{two}
use Rattle.occ_syntax.specs.Tree.{seq}
use Rattle.occ_syntax.specs.View.{tree}
use Rattle.occ_law_shape.specs.occ_law.Instances.{sizes}
use Rattle.occ_law_par.proofs.Rights.{stop_is, stop_never}
use Rattle.occ_law_par.proofs.whole.par_stop.Goals as goal

pub returns-then-not-is_stop : goal.returns-then-not-is_stop
returns-then-not-is_stop c = stop_never (sizes c.args.place) (tree c.args.left.now) (tree c.in-Some.first.now) (tree c.in-Some.second.now) c.in-Some.ensures (λ e. cc (c.is_stop.ensures.1 e))

pub returns : goal.returns
returns c =
    stop_is (sizes c.args.place) (tree c.args.left.now) (tree c.in-Some.first.now) (tree c.in-Some.second.now) (tree c.in_ok-in_turn.field-0) c.in-Some.ensures
    (c.is_stop.ensures.0 c.if-not-is_stop.false)
    (c.in_ok-in_turn.ensures ∙ ap (λ z. seq (two z (tree c.in_ok-other.other))) c.in_ok-one.ensures ∙ ap (λ z. seq (two (tree c.in-Some.first.now) z)) c.in_ok-other.ensures)
