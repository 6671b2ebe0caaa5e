use Rattle.occ_law_shape.specs.occ_law.Instances.{sizes}
use Rattle.occ_syntax.specs.View.{branches, exp, tree, waiting}
use Rattle.occ_law_alt.proofs.Onlys.{case_only}
use Rattle.occ_law_alt.proofs.right_placed.alt_case.Goals as goal

pub returns : goal.returns
returns c = case_only (sizes c.args.place) (tree c.args.left.now) _ (branches c.in-Some.found.front.now) (branches c.in-Some.found.rest.now)
    (exp c.in-Some.found.branch.now.0.condition) (waiting c.in-Some.found.branch.now.0.wait) (tree c.in-Some.found.branch.now.1) c.in-Some.ensures.0 c.in-Some.ensures.1 c.in_ok-case_of.ensures
