-- A map in the states of a set, and STOP elsewhere.
use Rattle.std.proofs.Common.{ℕ, cond, Result, Ok, Err, IfOk, sym, ◌∙◌}
use Rattle.occ_norm_frame.specs.occ_dd.Store.{has}
use Rattle.occ_norm_frame.specs.occ_dd.declared.set.SetId.{SetId}
use Rattle.occ_norm_frame.specs.occ_mdd.Maps.{IsMap, value}
use Rattle.occ_norm_frame.specs.occ_mdd.declared.map.MapId.{MapId}
use Rattle.occ_norm_frame.specs.occ_node.declared.world.World.{World}
use Rattle.occ_norm_frame.specs.occ_follow.Sequence.{HasNodes}
use Rattle.occ_norm_frame.specs.Maps.{Extends, IsStop}
use Rattle.occ_norm_frame.specs.After.{IsOver}
use Rattle.occ_norm_frame.proofs.After.{over-extends}
use Rattle.occ_norm_par.specs.States.{AreStates}
use Rattle.occ_norm_par.proofs.Freeing.{states-keeps}

-- the worlds: at first, with STOP's map, at the end
pub limited_over : {E : Type 0} (u v w : World) (k : Extends u v) (n : ℕ) (set : SetId) (map stopped : MapId) (r : Result MapId E) → AreStates u.store n set → IsOver u n map → IsStop v stopped → HasNodes v stopped
    → (HasNodes v map → HasNodes v stopped → IfOk r (HasNodes w))
    → IfOk r (λ a. IsMap w.maps a (λ x. cond (has v.store set x) (value v.maps map x) (value v.maps stopped x))) → IfOk r (IsOver w n)
limited_over u v w k n set map stopped (Err e) states over stop has nodes is = is
limited_over u v w k n set map stopped (Ok a) states over stop has nodes is =
    let here = states-keeps u.store v.store k.grows.stored n set states in
    let there = over-extends u v k n map over in
    record {
      has = nodes there.has has;
      same = λ x y hx hy agree. is.values x
          ∙ (λ j. cond (here.same x y agree j) (there.same x y hx hy agree j) ((stop.everywhere.values x ∙ sym (stop.everywhere.values y)) j))
          ∙ sym (is.values y);
    }
