use Rattle.std.proofs.Common.{sym, true≢false, ◌∙◌}
use Rattle.occ_syntax.specs.View.{branches, tree}
use Rattle.occ_syntax.proofs.Rows.{refuted}
use Rattle.occ_law_shape.proofs.Fronts.{test_of}
use Rattle.occ_law_alt.proofs.Ended.{skip_law, skip_more, skip_never}
use Rattle.occ_law_alt.proofs.Tests.{refuted_when}
use Rattle.occ_law_alt.proofs.simple.alt_skip.Goals as goal

pub returns-then-is_empty : goal.returns-then-is_empty
returns-then-is_empty c = skip_law (branches c.in-Alt-shape.alternatives.now) c.in-Some.rest.now (tree c.in-Some.process.now) (tree c.args.left.now) (tree c.args.right.now) _ c.in-Alt-shape.ensures c.in-Some.ensures
    ((test_of _ _ c.is_empty.ensures).0 c.if-is_empty.true) c.same_proc.ensures

pub returns-else-is_empty : goal.returns-else-is_empty
returns-else-is_empty c = refuted_when c.is_empty.result c.if-is_empty.false (skip_more (branches c.in-Alt-shape.alternatives.now) c.in-Some.rest.now (tree c.in-Some.process.now) (tree c.args.left.now) (tree c.args.right.now) c.in-Alt-shape.ensures c.in-Some.ensures
    (λ e. true≢false (sym ((test_of _ _ c.is_empty.ensures).1 e) ∙ c.if-is_empty.false)))

pub returns-in-None : goal.returns-in-None
returns-in-None c = refuted (skip_never (branches c.in-Alt-shape.alternatives.now) (tree c.args.left.now) (tree c.args.right.now) c.in-Alt-shape.ensures c.in-None.ensures)
