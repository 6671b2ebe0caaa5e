use Rattle.occ_syntax.specs.declared.proc.Proc.{Skip}
use Rattle.occ_syntax.specs.View.{tree, trees}
use Rattle.occ_law_seq.specs.occ_law.Instances.{sizes}
use Rattle.occ_law_seq.proofs.from_law_shape.Fronts.{test_of, trees_none}
use Rattle.occ_law_right.proofs.Rights.{empty_parts, none_is, none_never, skip_is}
use Rattle.occ_law_right.proofs.sequence.seq_none.Goals as goal

pub returns-then-not-is_empty : goal.returns-then-not-is_empty
returns-then-not-is_empty c =
    none_never (sizes c.args.place) (tree c.args.left.now) (trees c.in_ok-parts.parts.now) c.in_ok-parts.ensures (λ e. cc ((test_of _ _ c.is_empty.ensures).1 (trees_none c.in_ok-parts.parts.now e)))

pub returns : goal.returns
returns c =
    none_is (sizes c.args.place) (tree c.args.left.now) (tree Skip) (trees c.in_ok-parts.parts.now) (c.is_whole.ensures.0 c.if-not-is_whole.false) c.in_ok-parts.ensures
    (empty_parts c.in_ok-parts.parts.now ((test_of _ _ c.is_empty.ensures).0 c.if-not-is_empty.false)) skip_is
