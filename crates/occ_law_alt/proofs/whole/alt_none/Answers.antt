use Rattle.occ_law_shape.specs.occ_law.Instances.{sizes}
use Rattle.occ_syntax.specs.View.{branches, tree}
use Rattle.occ_law_alt.proofs.Making.{tree-Stop}
use Rattle.occ_law_alt.proofs.Onlys.{empty_is, empty_not, none_empty, none_only}
use Rattle.occ_law_alt.proofs.whole.alt_none.Goals as goal

pub returns-then-not-is_empty : goal.returns-then-not-is_empty
returns-then-not-is_empty c = λ r d. empty_not c.in-Some.alternatives.now c.is_empty.result c.is_empty.ensures c.if-not-is_empty.true
    (none_empty (sizes c.args.place) (tree c.args.left.now) r (branches c.in-Some.alternatives.now) c.in-Some.ensures d)

pub returns : goal.returns
returns c = none_only (sizes c.args.place) (tree c.args.left.now) _ (branches c.in-Some.alternatives.now) (c.is_whole.ensures.0 c.if-not-is_whole.false) c.in-Some.ensures
    (empty_is c.in-Some.alternatives.now c.is_empty.result c.is_empty.ensures c.if-not-is_empty.false) tree-Stop
