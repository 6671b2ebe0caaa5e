-- What is kept while maps are made.
use Rattle.std.proofs.Common.{◌≡◌, ◌<◌, ◌^◌, ℕ, List, Some, None, get_or, sym, ◌∙◌, subst}
use Rattle.std.specs.List.{All}
use Rattle.occ_bits.specs.occ_dd.Store.{IsKnown}
use Rattle.occ_bits.specs.occ_dd.declared.set.SetId.{SetId}
use Rattle.occ_bits.proofs.from_dd.Callers.{known-keeps}
use Rattle.occ_weave.specs.occ_mdd.declared.map.MapId.{MapId}
use Rattle.occ_weave.specs.occ_node.declared.world.World.{World}
use Rattle.occ_follow.specs.Sequence.{HasNodes}
use Rattle.std.specs.Option.{IfSome}
use Rattle.occ_weave.specs.occ_mdd.Maps.{IsMap, value}
use Rattle.occ_weave.specs.occ_node.World.{IsNode}
use Rattle.occ_norm_frame.specs.Maps.{Extends, MayHaveNodes}

pub set-extends : (v w : World) → Extends v w → (s : SetId) → IsKnown v.store s → IsKnown w.store s
set-extends v w k s h = known-keeps v.store w.store k.grows.stored s h

pub sets-extend : (v w : World) → Extends v w → (sets : List SetId) → All (IsKnown v.store) sets → All (IsKnown w.store) sets
sets-extend v w k sets all i d h = set-extends v w k (get_or sets i d) (all i d h)

pub none_may : (w : World) (r : MapId) → IsMap w.maps r (λ x. None) → MayHaveNodes w r
none_may w r is = record { known = is.known; nodes = λ x h. subst (λ o. IfSome o (IsNode w)) (sym (is.values x)) tt }

-- a map with a node at each state has one at this state
pub never_none : (w : World) (m : MapId) → HasNodes w m → (x : ℕ) → x < 2 ^ 64 → value w.maps m x ≡ None → ⊥
never_none w m has x h e = let found = has.nodes x h in let f : Some found.0 ≡ None = sym found.1 ∙ e in cc
