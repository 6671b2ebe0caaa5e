use Rattle.std.proofs.Common.{arith, ap, subst, sym, ◌∙◌}
use Rattle.std.proofs.lemmas.Result.{on_ok_weaker}
use Rattle.occ_meaning.specs.Parallel.{one}
use Rattle.occ_norm_arrange.proofs.Listed.{trees_more, trees_pushed}
use Rattle.occ_syntax.proofs.Views.{tree-Par}
use Rattle.occ_syntax.proofs.Weights.{weight-par, weight_in_all}
use Rattle.occ_syntax.specs.Tree.{par}
use Rattle.occ_syntax.specs.View.{tree, trees}
use Rattle.occ_norm_arrange.proofs.Alike.{adds_more, adds_none, adds_one, adds_par}
use Rattle.occ_norm_arrange.specs.FlatArranged.{AddsAll}
use Rattle.occ_norm_arrange.proofs.order.+add_part.Goals as goal

pub add_part-add_parts-requires : goal.add_part-add_parts-requires
add_part-add_parts-requires t c =
    let e = weight-par _ _ (ap tree c.in-Par.is ∙ tree-Par c.in-Par.parts ∙ ap (λ ps. par (trees ps)) (sym c.items.ensures)) in
    (omega (arith, e, c.decreases), tt)

pub add_part-returns-in-Par : goal.add_part-returns-in-Par
add_part-returns-in-Par t c =
    let e = ap tree c.in-Par.is ∙ tree-Par c.in-Par.parts ∙ ap (λ ps. par (trees ps)) (sym c.items.ensures) in
    on_ok_weaker c.add_parts.result
    (λ a. subst (λ p. AddsAll (trees c.args.list.now.items) (one p) (trees c.add_parts.new.list.items)) (sym e) (adds_par _ _ _ a))
    c.add_parts.ensures

pub add_part-returns-in_ok-push-in_default : goal.add_part-returns-in_ok-push-in_default
add_part-returns-in_ok-push-in_default t c =
    adds_one (trees c.args.list.now.items) (trees c.push.new.self.items) (tree c.args.part.now)
    (trees_pushed c.push.new.self.items c.args.list.now.items c.in_ok-copy-in_default.field-0 (tree c.args.part.now) c.in_ok-push-in_default.ensures.items c.in_ok-copy-in_default.ensures)

pub add_parts-loop-part-init : goal.add_parts-loop-part-init
add_parts-loop-part-init t c = adds_none _

pub add_parts-loop-part-preserved : goal.add_parts-loop-part-preserved
add_parts-loop-part-preserved t c =
    subst (λ ps. AddsAll (trees c.args.list.now.items) ps (trees c.add_part.new.list.items)) (sym (trees_more c.args.parts.now c.loop-part.part-index c.part-item.result c.loop-part-test.true c.part-item.is))
    (adds_more _ _ _ _ _ c.loop-part.invariant c.in_ok-add_part.ensures)

pub add_parts-add_part-requires : goal.add_parts-add_part-requires
add_parts-add_part-requires t c = (omega (arith, weight_in_all c.args.parts.now c.loop-part.part-index c.part-item.result c.loop-part-test.true c.part-item.is, c.decreases), tt)
