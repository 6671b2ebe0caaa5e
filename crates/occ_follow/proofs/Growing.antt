use Rattle.std.proofs.Common.{◌≡◌, ◌≤◌, ℕ, Bool, true, false, cond, Option, Some, ap, ◌∙◌, ⊎_elim, arith}
use Rattle.std.proofs.lemmas.Bool.{cases_Bool}
use Rattle.occ_choice.specs.occ_dd.Store.{Keeps}
use Rattle.occ_choice.specs.occ_mdd.Maps.{IsMap}
use Rattle.occ_choice.specs.occ_mdd.declared.map.MapId.{MapId}
use Rattle.occ_choice.specs.occ_node.World.{IsNode, Grows, nodes_of, row_of, fails, ends}
use Rattle.occ_choice.specs.occ_node.declared.node.NodeId.{NodeId}
use Rattle.occ_choice.specs.occ_node.declared.world.World.{World}
use Rattle.occ_choice.proofs.from_node.Table.{Holds, row-holds, fails-holds, ends-holds}
use Rattle.occ_follow.specs.Sequence.{HasNodes}

-- Maps of a world that are made.

pub grows_from : (old new : World) → Keeps old.store new.store → Holds old.rows.keys new.rows.keys → Grows old new
unfolding nodes_of row_of fails ends
grows_from old new keeps holds = record {
  stored = keeps;
  more = holds.more;
  kept = λ a h. row-holds old.store old.rows.keys old.right new.rows.keys holds a h;
  same_fails = λ a t X h. fails-holds old.store old.rows.keys old.right new.rows.keys holds t a X h;
  same_ends = λ a t x h. ends-holds old.store old.rows.keys old.right new.rows.keys holds new.store keeps t a x h;
}

-- a map that has one of two nodes everywhere
pub has_either : (v w : World) → Grows v w → (map : MapId) (high low : NodeId) → IsNode v high → IsNode v low → (test : ℕ → Bool) (f g : ℕ → Option NodeId) → IsMap w.maps map (λ x. cond (test x) (f x) (g x))
    → ((x : ℕ) → f x ≡ Some high) → ((x : ℕ) → g x ≡ Some low) → HasNodes w map
has_either v w k map high low first second test f g is on off =
    let more : nodes_of v ≤ nodes_of w = k.more in
    record {
      known = is.known;
      nodes = λ x b. ⊎_elim
          (λ (t : test x ≡ true). (high, is.values x ∙ ap (λ c. cond c (f x) (g x)) t ∙ on x, omega arith))
          (λ (t : test x ≡ false). (low, is.values x ∙ ap (λ c. cond c (f x) (g x)) t ∙ off x, omega arith))
          (cases_Bool (test x));
    }
