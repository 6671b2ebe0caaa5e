use Rattle.std.proofs.Common.{◌-◌, ◌≡◌, arith, drop, subst, sym, ◌∙◌}
use Rattle.occ_meaning.specs.Parallel.{EachWritesApart}
use Rattle.occ_syntax.specs.View.{tree, trees}
use Rattle.occ_norm_arrange.proofs.OwnNames.{later_more, none_later, trees_left}
use Rattle.occ_norm_arrange.proofs.apart.write_apart.Goals as goal

pub loop-left-init : goal.loop-left-init
loop-left-init c = record { below = omega arith; later = none_later c.args.parts.now c.new-later.result.items c.new-later.ensures.items }

pub loop-left-preserved : goal.loop-left-preserved
loop-left-preserved c = record {
  below = omega (arith, c.loop-left.invariant.below);
  later = later_more c.loop-left.later.items c.in_ok-names.names.items c.as_slice-known.result.now c.as_slice-found.result.now c.extend_from_slice.new.self.items (tree c.index-parts-left.result)
      (trees (drop c.loop-left.left c.args.parts.now)) (trees (drop (c.loop-left.left - 1) c.args.parts.now)) c.as_slice-known.ensures.value c.as_slice-found.ensures.value
      c.loop-left.invariant.later c.in_ok-names.ensures.members (sym c.has_any.ensures ∙ c.if-has_any.false) c.in_ok-extend_from_slice.ensures.items
      (trees_left c.args.parts.now c.loop-left.left c.index-parts-left.result (omega (arith, c.loop-left-test.true)) c.loop-left.invariant.below c.index-parts-left.is);
}

pub returns : goal.returns
returns c = λ yes. let none : c.loop-left.left ≡ 0 = omega (arith, c.loop-left-test.false) in
    subst (λ k. EachWritesApart (trees (drop k c.args.parts.now))) none c.loop-left.invariant.later.apart
