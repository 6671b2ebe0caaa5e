use Rattle.occ_syntax.specs.declared.proc.Proc.{Skip}
use Rattle.occ_syntax.specs.View.{tree, trees}
use Rattle.occ_law_shape.specs.occ_law.Instances.{sizes}
use Rattle.occ_law_shape.proofs.Fronts.{test_of, trees_none}
use Rattle.occ_law_par.proofs.Parting.{no_parts}
use Rattle.occ_law_par.proofs.Putting.{skip_is}
use Rattle.occ_law_par.proofs.Rights.{none_is, none_never}
use Rattle.occ_law_par.proofs.whole.par_none.Goals as goal

pub returns-then-not-is_empty : goal.returns-then-not-is_empty
returns-then-not-is_empty c =
    none_never (sizes c.args.place) (tree c.args.left.now) (trees c.in_ok-parts.parts.now) c.in_ok-parts.ensures
    (λ e. cc ((test_of _ _ c.is_empty.ensures).1 (trees_none c.in_ok-parts.parts.now e)))

pub returns : goal.returns
returns c =
    none_is (sizes c.args.place) (tree c.args.left.now) (tree Skip) (trees c.in_ok-parts.parts.now) c.in_ok-parts.ensures
    (no_parts c.in_ok-parts.parts.now ((test_of _ _ c.is_empty.ensures).0 c.if-not-is_empty.false)) skip_is
