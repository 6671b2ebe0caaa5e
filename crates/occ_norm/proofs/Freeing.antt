-- The bits that matter to a map once some have any values.
use Rattle.std.proofs.Common.{◌≡◌, ◌<◌, ◌≤◌, ◌+◌, ◌^◌, ◌%◌, inl, inr, ℕ, Bool, sym, ap, ◌∙◌, arith}
use Rattle.std.proofs.lemmas.Nat.{pow_pos}
use Rattle.std.proofs.Math.Nat.{mod-lt}
use Rattle.std.specs.Int.{bit_at}
use Rattle.occ_compare.proofs.from_bits.Arithmetic.{low_bit, higher_bit}
use Rattle.occ_compare.specs.occ_mdd.declared.map.MapId.{MapId}
use Rattle.occ_compare.specs.occ_node.World.{fails, ends}
use Rattle.occ_compare.specs.occ_node.declared.node.NodeId.{NodeId}
use Rattle.occ_compare.specs.occ_node.declared.world.World.{World}
use Rattle.occ_norm_alt.specs.occ_follow.Sequence.{HasNodes}
use Rattle.occ_norm_alt.specs.occ_norm_frame.After.{AgreeBelow, IsOver}
use Rattle.occ_norm_alt.specs.occ_norm_frame.Changes.{AgreeOutside, IsFreed, Somewhere}
use Rattle.occ_norm_alt.proofs.from_norm_frame.After.{over_by}
use Rattle.occ_norm.proofs.Laying.{placed, placed_agrees, placed_lt, placed_value}

module _ (w : World) (first end : ℕ) (map r : MapId) (order : first ≤ end) (few : end ≤ 24) (over : IsOver w end map) (freed : IsFreed w first end map r) (has : HasNodes w r) where
  -- the assignment of the one with the lowest bits of the other
  abbrev moved : ℕ → ℕ → ℕ
  moved x y = placed 0 end (y % 2 ^ end) x

  none : (k : ℕ) → 0 + k ≡ k
  none k = omega arith

  moved_low : (x y : ℕ) → AgreeBelow end y (moved x y)
  moved_low x y k h =
      let part : y % 2 ^ end < 2 ^ end = mod-lt y (pow_pos end) in
      sym (low_bit y end k h) ∙ ap (λ v. bit_at v k) (sym (placed_value 0 end (y % 2 ^ end) x (omega (arith, few)) part)) ∙ low_bit _ end k h ∙ higher_bit (moved x y) 0 k ∙ ap (bit_at (moved x y)) (none k)

  moved_agrees : (x u y : ℕ) → AgreeBelow first x u → AgreeOutside first end x y → AgreeOutside first end u (moved u y)
  moved_agrees x u y below agree k h (inl l) = sym (below k l) ∙ agree k h (inl l) ∙ moved_low u y k (omega (arith, l, order))
  moved_agrees x u y below agree k h (inr l) = placed_agrees 0 end (y % 2 ^ end) u (omega (arith, few)) (mod-lt y (pow_pos end)) k h (inr (omega (arith, l)))

  somewhere_else : (x u : ℕ) → AgreeBelow first x u → (F : NodeId → Bool) → Somewhere w map first end x F → Somewhere w map first end u F
  somewhere_else x u below F s =
      let part : s.y % 2 ^ end < 2 ^ end = mod-lt s.y (pow_pos end) in
      let lt : moved u s.y < 2 ^ 64 = placed_lt 0 end (s.y % 2 ^ end) u (omega (arith, few)) part in
      record {
        y = moved u s.y;
        m = s.m;
        below = lt;
        agree = moved_agrees x u s.y below s.agree;
        leads = sym (over.same s.y (moved u s.y) s.below lt (moved_low u s.y)) ∙ s.leads;
        behaved = s.behaved;
      }

  -- the bits from the first of these on don't matter
  pub freed_over : IsOver w first r
  freed_over = over_by w first r has
      (λ x y a b agree h l e f t X c. (freed.freed_fails y b l f t X).1 (somewhere_else x y agree (λ m. fails w m t X) ((freed.freed_fails x a h e t X).0 c)))
      (λ x y a b agree h l e f t z below c. (freed.freed_ends y b l f t z below).1 (somewhere_else x y agree (λ m. ends w m t z) ((freed.freed_ends x a h e t z below).0 c)))
