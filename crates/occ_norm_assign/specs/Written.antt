-- What writes make of an assignment.
use Rattle.std.specs.Prelude.{ℕ, ◌+◌, ◌<◌, ◌≡◌, ◌==◌, ◌^◌, ◌++◌, Bool, length, not, List, [], ◌∷◌, Some, get_or, take, bit_xor, if◌then◌else◌}
use Rattle.std.specs.Int.{bit_at}
use Rattle.occ_syntax.specs.occ_base.declared.names.Name.{Name}
use Rattle.occ_syntax.specs.occ_base.declared.width.Width.{Width}
use Rattle.occ_norm_frame.specs.occ_bits.Layout.{entry_of}
use Rattle.occ_norm_frame.specs.occ_bits.Words.{IsValue, digit}
use Rattle.occ_norm_frame.specs.occ_dd.Assignment.{turned, with_bit}
use Rattle.occ_norm_frame.specs.occ_dd.Store.{IsSet, has}
use Rattle.occ_norm_frame.specs.occ_dd.declared.set.SetId.{SetId}
use Rattle.occ_norm_frame.specs.occ_dd.declared.store.Store.{Store}
use Rattle.occ_norm_frame.specs.occ_dd.Memo.{recalled}
use Rattle.occ_norm_frame.specs.occ_dd.declared.memo.Call.{Call}
use Rattle.occ_norm_frame.specs.occ_dd.declared.memo.Memo.{Memo}
use Rattle.occ_norm_frame.specs.occ_mdd.Maps.{IsKnown, value}
use Rattle.occ_norm_frame.specs.occ_mdd.declared.map.MapId.{MapId}
use Rattle.occ_norm_frame.specs.occ_node.declared.node.NodeId.{NodeId}
use Rattle.occ_norm_frame.specs.occ_node.declared.world.World.{World}
use Rattle.occ_norm_frame.specs.Lifted.{IsTurned}
use Rattle.occ_norm_frame.specs.occ_follow.Sequence.{HasNodes}
use Rattle.occ_syntax.specs.Tree.{Exp}
use Rattle.occ_norm_frame.specs.Kept.{map_id}
use Rattle.occ_norm_assign.specs.declared.writes.Parts.{Parts}
use Rattle.occ_norm_assign.specs.declared.writes.Write.{Write}
use Rattle.occ_norm_assign.specs.Writes.{AreWrites}

-- the writes of digits from a bit on
abbrev pub digit_writes : ℕ → List SetId → List Write
digit_writes first [] = []
digit_writes first (set ∷ sets) = record { bit = first; set = set } ∷ digit_writes (first + 1) sets

-- what the writes make of y, where each bit that is written becomes 1 if x is a member of its set
abbrev pub onto : Store → List Write → ℕ → ℕ → ℕ
onto s [] x y = y
onto s (write ∷ writes) x y = onto s writes x (with_bit y write.bit (digit s write.set x))

-- the writes are those of the digits of the expression's value to the variable's bits
pub record IsWritten (s : Store) (layout : List (Name × Width × ℕ)) (x : ℕ) (e : Exp) (writes : List Write) : Type 0 where
  pub width : Width
  pub first : ℕ
  pub sets : List SetId
  pub entry : entry_of layout x ≡ Some (width, first)
  pub value : IsValue s layout e sets
  pub each : writes ≡ digit_writes first sets

-- the writes begin with those of a variable, and what comes next is as it should be
pub record Splits (s : Store) (layout : List (Name × Width × ℕ)) (x : ℕ) (e : Exp) (rest : List Write → Type 0) (writes : List Write) : Type 0 where
  pub first : List Write
  pub others : List Write
  pub whole : writes ≡ first ++ others
  pub written : IsWritten s layout x e first
  pub more : rest others

-- the writes are those of all variables and their expressions in turn
abbrev pub AreAssigned : Store → List (Name × Width × ℕ) → List ℕ → List Exp → List Write → Type 0
AreAssigned s layout [] es writes = writes ≡ []
AreAssigned s layout (x ∷ xs) [] writes = writes ≡ []
AreAssigned s layout (x ∷ xs) (e ∷ es) writes = Splits s layout x e (AreAssigned s layout xs es) writes

-- whether a bit that becomes 1 or 0 changes
abbrev pub differs : Bool → ℕ → Bool
differs t bit = if t then not (bit == 1) else bit == 1

-- the change of a write, if it is of a bit that is kept
abbrev pub step : Store → ℕ → Write → ℕ → ℕ
step s keep write x = if bit_at keep write.bit == 1 then (if differs (has s write.set x) (bit_at x write.bit) then 2 ^ write.bit else 0) else 0

-- the change of all writes
abbrev pub change_by : Store → ℕ → List Write → ℕ → ℕ
change_by s keep [] x = 0
change_by s keep (write ∷ writes) x = bit_xor (step s keep write x) (change_by s keep writes x)

-- ---- writes that can be made at once
-- whether a write changes its bit
abbrev pub is_changed : Store → Write → ℕ → Bool
is_changed s write x = differs (has s write.set x) (bit_at x write.bit)

-- whether a write changes its bit doesn't depend on the bits of some writes
abbrev pub IsFree : Store → Write → List Write → Type 0
IsFree s write [] = Unit {0}
IsFree s write (other ∷ others) = ((x : ℕ) → is_changed s write (turned x other.bit) ≡ is_changed s write x) × IsFree s write others

-- what stands where a list of writes has ended
abbrev pub no_write : Write
no_write = record { bit = 0; set = record { 0 = 0 } }

-- that of each of the first writes, so many, doesn't depend on the bits of those before it
abbrev pub AreFree : Store → List Write → ℕ → Type 0
AreFree s writes n = (i : ℕ) → i < n → IsFree s (get_or writes i no_write) (take i writes)

-- none of the writes is of the bit
abbrev pub IsOff : ℕ → List Write → Type 0
IsOff b [] = Unit {0}
IsOff b (w ∷ ws) = (w.bit ≡ b → ⊥) × IsOff b ws

-- no bit is written twice
abbrev pub AreDistinct : List Write → Type 0
AreDistinct [] = Unit {0}
AreDistinct (w ∷ ws) = IsOff w.bit ws × AreDistinct ws

-- at each assignment the node of r is what the map has once the first writes, so many, are made, turned by their change and another one
pub record IsExchanged (w : World) (writes : List Write) (keep left change : ℕ) (map r : MapId) : Type 0 where
  pub exchanged : (x : ℕ) (a b : NodeId) → x < 2 ^ 64 → value w.maps map (onto w.store (take left writes) x x) ≡ Some a → value w.maps r x ≡ Some b
      → IsTurned w (bit_xor change (change_by w.store keep (take left writes) x)) a b

-- the writes can be made at once, and the world has the map that stands outside each part
pub record CanExchange (w : World) (writes : List Write) (other : MapId) : Type 0 where
  pub writes_known : AreWrites w.store writes
  pub distinct : AreDistinct writes
  pub free : AreFree w.store writes (length writes)
  pub other_known : HasNodes w other

-- where the write changes its bit, `on` is the map at the state that is made, and elsewhere `off` is the map
pub record AreParts (w : World) (write : Write) (map other : MapId) (parts : Parts) : Type 0 where
  pub turns_are : IsSet w.store parts.turns (is_changed w.store write)
  pub on_known : HasNodes w parts.on
  pub off_known : HasNodes w parts.off
  pub on_is : (x : ℕ) → value w.maps parts.on x
      ≡ (if is_changed w.store write x then value w.maps map (turned x write.bit) else value w.maps other x)
  pub off_is : (x : ℕ) → value w.maps parts.off x
      ≡ (if is_changed w.store write x then value w.maps other x else value w.maps map x)

-- a node of a map that goes on as that of `rest` at another state, turned by a change
pub record Leads (w : World) (rest : MapId) (to change : ℕ) (a : NodeId) : Type 0 where
  pub m : NodeId
  pub leads : value w.maps rest to ≡ Some m
  pub turned : IsTurned w change m a

-- at each assignment the node of r is what `rest` has once the writes are made, turned by their change
pub record IsApplied (w : World) (writes : List Write) (keep : ℕ) (rest r : MapId) : Type 0 where
  pub each : (x : ℕ) (a : NodeId) → x < 2 ^ 64 → value w.maps r x ≡ Some a → Leads w rest (onto w.store writes x x) (change_by w.store keep writes x) a

-- ---- maps of what writes make of a state
-- at each assignment r has what the map has once the first writes, so many, are made
pub record IsSubstituted (w : World) (writes : List Write) (left : ℕ) (map r : MapId) : Type 0 where
  pub known : IsKnown w.maps map
  pub has : HasNodes w r
  pub values : (x : ℕ) → value w.maps r x ≡ value w.maps map (onto w.store (take left writes) x x)

-- the writes are of the world, and each remembered number is that of such a map
pub record KeepSubstituted (w : World) (writes : List Write) (memo : Memo) : Type 0 where
  pub known : AreWrites w.store writes
  pub each : (k : Call) (r : ℕ) → recalled memo k ≡ Some r → IsSubstituted w writes k.first (map_id k.second) (map_id r)
