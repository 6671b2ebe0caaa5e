use Rattle.occ_law_shape.specs.occ_law.Instances.{sizes}
use Rattle.occ_syntax.specs.View.{branches, tree}
use Rattle.occ_law_alt.proofs.Onlys.{empty_is, empty_not, skip_alone, skip_only}
use Rattle.occ_law_alt.proofs.whole.alt_skip.Goals as goal

pub returns-then-not-is_empty : goal.returns-then-not-is_empty
returns-then-not-is_empty c = λ r d. empty_not c.in-Some-skip_first.rest.now c.is_empty.result c.is_empty.ensures c.if-not-is_empty.true
    (skip_alone (sizes c.args.place) (tree c.args.left.now) r (branches c.in-Some.alternatives.now) (branches c.in-Some-skip_first.rest.now) (tree c.in-Some-skip_first.process.now) c.in-Some.ensures c.in-Some-skip_first.ensures d).0

pub returns : goal.returns
returns c = skip_only (sizes c.args.place) (tree c.args.left.now) (tree c.in_ok-copy.field-0) (branches c.in-Some.alternatives.now) (branches c.in-Some-skip_first.rest.now) (tree c.in-Some-skip_first.process.now)
    (c.is_whole.ensures.0 c.if-not-is_whole.false) c.in-Some.ensures c.in-Some-skip_first.ensures (empty_is c.in-Some-skip_first.rest.now c.is_empty.result c.is_empty.ensures c.if-not-is_empty.false) c.in_ok-copy.ensures
