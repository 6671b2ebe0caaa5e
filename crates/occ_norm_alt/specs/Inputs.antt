-- The inputs of the values of some digits, and the outputs of a value, each with what comes after it.
use Rattle.std.specs.Prelude.{ℕ, zero, suc, ◌+◌, ◌*◌, ◌%◌, ◌<◌, ◌≤◌, ◌≡◌, ◌^◌, Bool, true, List, Some, length, slice_get, bit_and, bit_xor}
use Rattle.std.specs.Int.{bit_at}
use Rattle.occ_syntax.specs.occ_base.declared.event.Dir.TheVariants.{Input, Output}
use Rattle.occ_syntax.specs.occ_base.declared.event.Event.{Event}
use Rattle.occ_syntax.specs.occ_base.declared.names.Name.{Name}
use Rattle.occ_norm_frame.specs.occ_dd.Assignment.{with_bit}
use Rattle.occ_norm_frame.specs.occ_mdd.Maps.{value}
use Rattle.occ_norm_frame.specs.occ_mdd.declared.map.MapId.{MapId}
use Rattle.occ_norm_frame.specs.occ_follow.Sequence.{HasNodes}
use Rattle.occ_norm_frame.specs.occ_node.World.{fails, ends}
use Rattle.occ_norm_frame.specs.occ_node.declared.node.NodeId.{NodeId}
use Rattle.occ_norm_frame.specs.occ_node.declared.world.World.{World}
use Rattle.occ_norm_frame.specs.Lifted.{IsPrefixed}
use Rattle.occ_norm_alt.specs.Offering.{At, IsOffering}

-- the assignment with the bits from `first` on, so many, made the digits of a value
abbrev pub placed : ℕ → ℕ → ℕ → ℕ → ℕ
placed first zero v x = x
placed first (suc n) v x = with_bit (placed first n v x) (first + n) (bit_at v n)

abbrev pub input_event : Name → ℕ → Event
input_event chan v = record { chan = chan; dir = Input; value = v }

abbrev pub output_event : Name → ℕ → Event
output_event chan v = record { chan = chan; dir = Output; value = v }

-- the event is an input of `base` and any number of so many digits
pub record TakesInput (chan : Name) (left base : ℕ) (e : Event) : Type 0 where
  pub u : ℕ
  pub below : u < 2 ^ left
  pub is : e ≡ input_event chan (base + u)

-- such an input puts the digits in place, and this behaves so
pub record LeadsInput (chan : Name) (first left base x : ℕ) (e : Event) (behaves : ℕ → ℕ → Type 0) : Type 0 where
  pub u : ℕ
  pub below : u < 2 ^ left
  pub is : e ≡ input_event chan (base + u)
  pub behaved : behaves (base + u) (placed first left u x)

-- those of some bits that a value has, where its digits begin at `first`
abbrev pub digits_at : ℕ → ℕ → ℕ → ℕ
digits_at first keep v = bit_and (v * 2 ^ first % 2 ^ 64) keep

-- the node waits for the inputs, and goes on as that of `next` with the digits in place and the bits of the value turned
abbrev pub AreInputsAt : World → Name → ℕ → ℕ → ℕ → ℕ → MapId → ℕ → NodeId → Type 0
AreInputsAt w chan first left keep base next x a = IsOffering w a (TakesInput chan left base)
    (λ e t X. LeadsInput chan first left base x e (λ v y. At w next y (λ m. fails w m t X)))
    (λ e t z. LeadsInput chan first left base x e (λ v y. At w next y (λ m. ends w m t (bit_xor z (digits_at first keep v)))))

pub record AreInputs (w : World) (chan : Name) (first left keep base : ℕ) (next r : MapId) : Type 0 where
  pub inputs : (x : ℕ) (a : NodeId) → x < 2 ^ 64 → value w.maps r x ≡ Some a → AreInputsAt w chan first left keep base next x a

-- a node for each number of some digits: that of `next` where the number is put in place
pub record AreNexts (w : World) (first bits : ℕ) (next : MapId) (state : ℕ) (nodes : List NodeId) : Type 0 where
  pub count : length nodes ≡ 2 ^ bits
  pub each : (u : ℕ) → u < 2 ^ bits → slice_get nodes u ≡ value w.maps next (placed first bits u state)

-- the second assignment has the lowest bits of the first, so many, and else those of the state
pub record Agrees (left state x y : ℕ) : Type 0 where
  pub small : y < 2 ^ 64
  pub low : (k : ℕ) → k < left → bit_at y k ≡ bit_at x k
  pub high : (k : ℕ) → left ≤ k → bit_at y k ≡ bit_at state k

-- the map waits at each assignment for the inputs from all states that agree with it
pub record AreRows (w : World) (chan : Name) (first bits : ℕ) (next : MapId) (left state : ℕ) (r : MapId) : Type 0 where
  pub has : HasNodes w r
  pub rows : (x y : ℕ) (a : NodeId) → x < 2 ^ 64 → Agrees left state x y → value w.maps r x ≡ Some a → AreInputsAt w chan first bits 0 0 next y a

-- where the test holds, r is `next` after the output of a value that depends on the assignment
pub record AreOutputs (w : World) (chan : Name) (test : ℕ → Bool) (v : ℕ → ℕ) (next r : MapId) : Type 0 where
  pub outputs : (x : ℕ) (m a : NodeId) → x < 2 ^ 64 → test x ≡ true → value w.maps next x ≡ Some m → value w.maps r x ≡ Some a
      → IsPrefixed w (output_event chan (v x)) m a
