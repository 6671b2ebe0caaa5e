use Rattle.std.proofs.Common.{◌≡◌, ◌<◌, ◌≤◌, ◌+◌, ◌++◌, ◌∷◌, [], ℕ, List, length, get_or, ap, sym, ◌∙◌, subst, arith}
use Rattle.std.proofs.lemmas.List.{length_push}
use Rattle.occ_nform_rows.specs.occ_node.World.{row_of}
use Rattle.occ_nform_rows.specs.occ_node.declared.node.NodeId.{NodeId}
use Rattle.occ_nform_rows.specs.occ_node.declared.row.Row.{Row}
use Rattle.occ_nform.specs.Numbering.{nodes_over}
use Rattle.occ_nform.proofs.Steps.{over_more, low_more}
use Rattle.occ_nform.proofs.heights.all_heights.Goals as goal

pub loop-place-preserved : goal.loop-place-preserved
loop-place-preserved c =
    let w = c.args.world.now in
    let place = c.loop-place.place in
    let heights = c.loop-place.heights.items in
    let x = c.height_over.result in
    let offers : c.items-offers.result.now ≡ (row_of w (record { 0 = place })).offers = c.items-offers.ensures ∙ ap (λ (r : Row). r.offers) c.row.ensures.row in
    let is : x ≡ nodes_over heights (row_of w (record { 0 = place })).offers = c.height_over.ensures.height ∙ (λ i. nodes_over (c.deref.ensures.value i) (offers i)) in
    let most : x ≤ place = omega (arith, c.height_over.ensures.most, ap length c.deref.ensures.value, c.loop-place.invariant.count) in
    let items : c.push.new.self.items ≡ heights ++ x ∷ [] = c.in_ok-push.ensures.items in
    let size = length_push heights x in
    record {
      count = ap length items ∙ size ∙ ap (λ n. n + 1) c.loop-place.invariant.count;
      low = subst (λ (l : List ℕ). (i : ℕ) → i < length l → get_or l i 0 ≤ i) (sym items) (low_more heights place x c.loop-place.invariant.count most c.loop-place.invariant.low);
      over = subst (λ (l : List ℕ). (a : NodeId) → a.0 < place + 1 → get_or l a.0 0 ≡ nodes_over l (row_of w a).offers) (sym items)
          (over_more w heights place x (omega (arith, c.loop-place-test.true, c.nodes-place-end.ensures)) c.loop-place.invariant.count is c.loop-place.invariant.over);
    }
