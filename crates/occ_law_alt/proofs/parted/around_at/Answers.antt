use Rattle.occ_law_shape.specs.occ_law.Instances.{sizes}
use Rattle.occ_syntax.specs.View.{branches, exp, tree, waiting}
use Rattle.occ_law_alt.proofs.Parting.{around_never}
use Rattle.occ_law_alt.proofs.parted.around_at.Goals as goal

pub returns-in_default : goal.returns-in_default
returns-in_default c = around_never (sizes c.args.place) (tree c.args.part.now) (branches c.in_ok-alternatives.alternatives.now) (branches c.in_ok-first.first.front.now) (branches c.in_ok-first.first.rest.now)
    c.in_ok-before.before c.in_ok-before.between (exp c.in_ok-first.first.branch.now.0.condition) (waiting c.in_ok-first.first.branch.now.0.wait) (tree c.in_ok-first.first.branch.now.1)
    c.in_ok-alternatives.ensures c.in_ok-before.ensures c.in_ok-first.ensures.0 c.in_ok-first.ensures.1 c.in_default.ensures
