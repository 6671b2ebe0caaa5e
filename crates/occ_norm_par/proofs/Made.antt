-- Maps that are made of those of both values of a bit.
use Rattle.std.proofs.Common.{◌≡◌, ◌<◌, ◌==◌, ◌+◌, ℕ, suc, cond, add-one, sym, ap, ◌∙◌, subst}
use Rattle.std.specs.Int.{bit_at}
use Rattle.occ_norm_frame.specs.occ_dd.Assignment.{with_bit}
use Rattle.occ_norm_frame.specs.occ_dd.Store.{IsSet, has}
use Rattle.occ_norm_frame.specs.occ_dd.declared.set.SetId.{SetId}
use Rattle.occ_norm_frame.specs.occ_mdd.Maps.{IsMap, value}
use Rattle.occ_norm_frame.specs.occ_mdd.declared.map.MapId.{MapId}
use Rattle.occ_norm_frame.specs.occ_node.declared.world.World.{World}
use Rattle.occ_norm_frame.specs.occ_follow.Sequence.{HasNodes}
use Rattle.occ_norm_frame.specs.Maps.{Extends}
use Rattle.occ_norm_frame.proofs.Worlds.{chosen_nodes, extends_trans, has_nodes-extends}
use Rattle.occ_norm_par.specs.Joints.{IsHalf, IsJoint, IsStepped}
use Rattle.occ_norm_par.specs.declared.joint.Joint.{Joint}
use Rattle.occ_norm_par.proofs.Steps.{joint_grow, joint_half, joint_more, moved_values, stepped_grow}

-- a choice by a set is one by the bit
pub chosen_values : (v w : World) → Extends v w → (set : SetId) (bit : ℕ) (high low made : MapId) → HasNodes v high → HasNodes v low → IsSet v.store set (λ x. bit_at x bit == 1)
    → IsMap w.maps made (λ x. cond (has v.store set x) (value v.maps high x) (value v.maps low x)) → (x : ℕ) → value w.maps made x ≡ cond (bit_at x bit == 1) (value w.maps high x) (value w.maps low x)
chosen_values v w k set bit high low made has_high has_low is made_is x =
    made_is.values x
    ∙ ap (λ b. cond b (value v.maps high x) (value v.maps low x)) (is.members x)
    ∙ ap (λ o. cond (bit_at x bit == 1) o (value v.maps low x)) (sym (k.maps.same high x has_high.known))
    ∙ ap (λ o. cond (bit_at x bit == 1) (value w.maps high x) o) (sym (k.maps.same low x has_low.known))

-- one value of a bit; the worlds: before it, with the bit told of the map, and of what follows, and with both
pub half_made : (w0 w1 w2 w3 : World) → Extends w0 w1 → Extends w1 w2 → Extends w2 w3 → (j : Joint) (bit d : ℕ) (map next part next_part r : MapId) → bit < 64 → HasNodes w0 map
    → IsMap w1.maps part (λ x. value w0.maps map (with_bit x bit d)) → IsStepped w2 j bit d next next_part → IsJoint w3 j bit part next_part r → IsHalf w3 j bit d map next r
half_made w0 w1 w2 w3 k1 k2 k3 j bit d map next part next_part r few nodes is to joint =
    let k = extends_trans w1 w2 w3 k2 k3 in
    joint_half w3 j bit few d map next part next_part r (has_nodes-extends w0 w3 (extends_trans w0 w1 w3 k1 k) map nodes)
    (moved_values w0 w1 w3 k1 k map part (λ x. with_bit x bit d) nodes is) (stepped_grow w2 w3 k3 j bit d next next_part to) joint

-- both values; the worlds: with each of them, with the set of the bit, and with the choice
pub joint_made : (w1 w2 w3 w4 : World) → Extends w1 w2 → Extends w2 w3 → Extends w3 w4 → (j : Joint) (bit : ℕ) (map next low high made : MapId) (set : SetId) → bit < 64
    → IsHalf w1 j bit 0 map next low → IsHalf w2 j bit 1 map next high
    → IsSet w3.store set (λ x. bit_at x bit == 1) → IsMap w4.maps made (λ x. cond (has w3.store set x) (value w3.maps high x) (value w3.maps low x)) → IsJoint w4 j (bit + 1) map next made
joint_made w1 w2 w3 w4 k2 k3 k4 j bit map next low high made set few is_low is_high is_set is_made =
    let off = λ (x : ℕ). bit_at x bit ≡ 0 in
    let on = λ (x : ℕ). bit_at x bit ≡ 1 in
    let low_now = joint_grow w1 w3 (extends_trans w1 w2 w3 k2 k3) j (suc bit) off map next low is_low in
    let high_now = joint_grow w2 w3 k3 j (suc bit) on map next high is_high in
    subst (λ (n : ℕ). IsJoint w4 j n map next made) (sym (add-one bit))
    (joint_more w4 j bit few map next low high made
    (joint_grow w3 w4 k4 j (suc bit) off map next low low_now) (joint_grow w3 w4 k4 j (suc bit) on map next high high_now)
    (chosen_nodes w3 w4 k4 (has w3.store set) high low made high_now.known low_now.known is_made)
    (chosen_values w3 w4 k4 set bit high low made high_now.known low_now.known is_set is_made))
