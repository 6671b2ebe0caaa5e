use Rattle.std.specs.Prelude.{ℕ, ◌≡◌, ◌&&◌, Bool, true, List, Some}
use Rattle.std.specs.List.{list_all}
use Rattle.occ_node.specs.occ_base.declared.event.Event.{Event}
use Rattle.occ_node.specs.occ_dd.Memo.{recalled}
use Rattle.occ_node.specs.occ_dd.declared.memo.Call.{Call}
use Rattle.occ_node.specs.occ_dd.declared.memo.Memo.{Memo}
use Rattle.occ_node.specs.World.{IsNode, fails, ends}
use Rattle.occ_node.specs.declared.node.NodeId.{NodeId}
use Rattle.occ_node.specs.declared.world.World.{World}
use Rattle.occ_scope.specs.Silent.{is_off}
use Rattle.occ_scope.specs.Bits.{turned_below, passes_freed}
use Rattle.occ_scope.specs.declared.change.Change.{Change}
use Rattle.occ_scope.specs.declared.change.Change.TheVariants.{Restrict, Forget, Shift}

-- the events that stay
abbrev pub stays : Change → Event → Bool
stays (Restrict chan) e = is_off chan e
stays (Forget bits) e = true
stays (Shift change) e = true

-- whether an assignment is a final state afterwards
abbrev pub ends_after : Change → (ℕ → Bool) → ℕ → Bool
ends_after (Restrict chan) ended x = ended x
ends_after (Forget bits) ended x = passes_freed 64 bits ended x
ends_after (Shift change) ended x = ended (turned_below 64 change x)

-- the number of a change among those of its kind
abbrev pub number_of : Change → ℕ
number_of (Restrict chan) = chan.0
number_of (Forget bits) = bits
number_of (Shift change) = change

-- the change of the same kind that has that number
abbrev pub numbered : Change → ℕ → Change
numbered (Restrict chan) n = Restrict (record { 0 = n })
numbered (Forget bits) n = Forget n
numbered (Shift change) n = Shift n

-- r is p after the change
pub record IsChanged (w : World) (c : Change) (p r : NodeId) : Type 0 where
  pub first : IsNode w p
  pub known : IsNode w r
  pub after_fail : (t : List Event) (X : Event → Bool) → fails w r t X ≡ (list_all (stays c) t && fails w p t (λ e. stays c e && X e))
  pub after_end : (t : List Event) (x : ℕ) → ends w r t x ≡ (list_all (stays c) t && ends_after c (ends w p t) x)

abbrev pub node : ℕ → NodeId
node n = record { 0 = n }

-- what is remembered of changes of one kind is right
pub record AreChanged (w : World) (c : Change) (memo : Memo) : Type 0 where
  pub each : (k : Call) (r : ℕ) → recalled memo k ≡ Some r → IsChanged w (numbered c k.second) (node k.first) (node r)
