use Rattle.occ_syntax.specs.View.{tree, trees}
use Rattle.occ_law_shape.specs.occ_law.Instances.{sizes}
use Rattle.occ_law_par.proofs.Rights.{one_is, one_never}
use Rattle.occ_law_par.proofs.whole.par_one.Goals as goal

pub returns-in_default-only : goal.returns-in_default-only
returns-in_default-only c = one_never (sizes c.args.place) (tree c.args.left.now) (trees c.in-Some.parts.now) c.in-Some.ensures c.in_default-only.ensures

pub returns : goal.returns
returns c =
    one_is (sizes c.args.place) (tree c.args.left.now) (tree c.in-Some-only.part.now) (tree c.in_ok-copy.field-0) (trees c.in-Some.parts.now) c.in-Some.ensures c.in-Some-only.ensures
    c.in_ok-copy.ensures
