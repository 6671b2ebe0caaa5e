use Rattle.std.proofs.Common.{◌+◌, List, ap, sym, ◌∙◌, subst, refl, rules, arith}
use Rattle.std.proofs.lemmas.List.Sorted.{IsNonDecreasingBy-from_sort, answers_always}
use Rattle.occ_nform.specs.declared.order.Placed.{Placed}
use Rattle.occ_nform.specs.Numbering.{ArePlacedBelow}
use Rattle.occ_nform.proofs.Sorting.{none_placed, placed_same, placed_more, ordered}
use Rattle.occ_nform.proofs.order.by_height.Goals as goal
use Rattle.occ_nform.proofs.order.by_height.Goals.{then-marks-place+in_ok-push, else-marks-place}

pub loop-place-init : goal.loop-place-init
loop-place-init c = subst (λ (l : List Placed). ArePlacedBelow c.args.marks.now c.args.heights.now 0 l) (sym c.new-placed.ensures.items) (none_placed c.args.marks.now c.args.heights.now)

pub loop-place-preserved : goal.loop-place-preserved
loop-place-preserved c = elim c.if-marks-place.branch [
  | then-marks-place+in_ok-push w ↦ subst (λ (l : List Placed). ArePlacedBelow c.args.marks.now c.args.heights.now (c.loop-place.place + 1) l) (sym (ap (λ v. v.items) w.placed-is ∙ w.in_ok-push.ensures.items))
      (placed_more c.args.marks.now c.args.heights.now c.loop-place.place _ c.loop-place.placed.items w.if-marks-place.true refl c.loop-place.invariant)
  | else-marks-place w ↦ subst (λ (l : List Placed). ArePlacedBelow c.args.marks.now c.args.heights.now (c.loop-place.place + 1) l) (sym (ap (λ v. v.items) w.placed-is))
      (placed_same c.args.marks.now c.args.heights.now c.loop-place.place c.loop-place.placed.items w.if-marks-place.false c.loop-place.invariant)
]

pub returns : goal.returns
returns c = ordered c.args.marks.now c.args.heights.now c.loop-place.place c.loop-place.placed.items c.sort_unstable_by_key.new.self.items (omega arith) c.loop-place.invariant c.sort_unstable_by_key.ensures.permutation
    (IsNonDecreasingBy-from_sort (λ (p : Placed). p.height) _ (c.sort_unstable_by_key.ensures.sorted (λ (p : Placed). p.height) (answers_always _ _ _ (λ f a r g h. search rules))))
