use Rattle.occ_syntax.specs.declared.proc.Proc.{Stop}
use Rattle.occ_syntax.specs.View.{cases, tree}
use Rattle.occ_law_shape.specs.occ_law.Instances.{sizes}
use Rattle.occ_law_shape.proofs.Fronts.{test_of}
use Rattle.occ_law_if.proofs.Fronts.{cases_none, none_of_cases}
use Rattle.occ_law_if.proofs.Putting.{stop_is}
use Rattle.occ_law_if.proofs.Rights.{none_empty, none_is}
use Rattle.occ_law_if.proofs.whole.if_none.Goals as goal

pub returns-then-not-is_empty : goal.returns-then-not-is_empty
returns-then-not-is_empty c =
    none_empty (sizes c.args.place) (tree c.args.left.now) (cases c.in_ok-choices.choices.now) c.in_ok-choices.ensures
    (λ e. cc ((test_of _ _ c.is_empty.ensures).1 (none_of_cases c.in_ok-choices.choices.now e)))

pub returns : goal.returns
returns c =
    none_is (sizes c.args.place) (tree c.args.left.now) (tree Stop) (cases c.in_ok-choices.choices.now) (c.is_whole.ensures.0 c.if-not-is_whole.false) c.in_ok-choices.ensures
    (cases_none c.in_ok-choices.choices.now ((test_of _ _ c.is_empty.ensures).0 c.if-not-is_empty.false)) stop_is
