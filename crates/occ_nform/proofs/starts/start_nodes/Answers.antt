use Rattle.std.proofs.Common.{◌≡◌, ◌<◌, ◌+◌, ◌++◌, ◌∷◌, [], ℕ, List, Some, length, ap, sym, ◌∙◌, subst, arith}
use Rattle.std.proofs.lemmas.List.{length_push}
use Rattle.occ_nform_rows.specs.occ_mdd.Maps.{value}
use Rattle.occ_nform_rows.specs.occ_compare.Places.{assignment_at}
use Rattle.occ_nform_rows.specs.occ_node.World.{IsNode}
use Rattle.occ_nform_rows.specs.occ_node.declared.node.NodeId.{NodeId}
use Rattle.occ_nform.specs.Numbering.{node_at}
use Rattle.occ_nform.proofs.Graph.{none_there, start_more}
use Rattle.occ_nform.proofs.starts.start_nodes.Goals as goal

pub unreachable-requires : goal.unreachable-requires
unreachable-requires c = none_there (value c.args.world.now.maps c.args.root.now.states c.assignment.result) (IsNode c.args.world.now)
    (c.requires.nodes.nodes c.assignment.result (omega (arith, c.assignment.type_inv))) (sym c.get.ensures ∙ c.in-None.is)

pub loop-place-preserved : goal.loop-place-preserved
loop-place-preserved c =
    let w = c.args.world.now in
    let root = c.args.root.now in
    let starts = c.loop-place.starts.items in
    let place = c.loop-place.place in
    let items : c.push.new.self.items ≡ starts ++ c.in-Some.node ∷ [] = c.in_ok-push-in-Some.ensures.items in
    let at : c.assignment.result ≡ assignment_at root.params place = c.assignment.ensures ∙ ap (λ ps. assignment_at ps place) c.items-params.ensures in
    let is : value w.maps root.states (assignment_at root.params place) ≡ Some c.in-Some.node = ap (value w.maps root.states) (sym at) ∙ sym c.get.ensures ∙ c.in-Some.is in
    record {
      count = ap length items ∙ length_push starts c.in-Some.node ∙ ap (λ n. n + 1) c.loop-place.invariant.count;
      each = subst (λ (l : List NodeId). (k : ℕ) → k < place + 1 → value w.maps root.states (assignment_at root.params k) ≡ Some (node_at l k)) (sym items)
          (start_more (λ k. value w.maps root.states (assignment_at root.params k)) starts place c.in-Some.node c.loop-place.invariant.count is c.loop-place.invariant.each);
    }
