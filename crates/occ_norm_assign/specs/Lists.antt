-- Parts that don't communicate as lists: for each state of a few bits, by its number, the state to which it leads.
use Rattle.std.specs.Prelude.{ℕ, ◌+◌, ◌<◌, ◌≡◌, ◌^◌, ◌%◌, ◌↔◌, true, List, [], Some, length, get_or, slice_get, bit_and, bit_xor, if◌then◌else◌}
use Rattle.occ_syntax.specs.occ_base.declared.event.Event.{Event}
use Rattle.occ_syntax.specs.occ_base.declared.names.Name.{Name}
use Rattle.occ_syntax.specs.occ_base.declared.width.Width.{Width}
use Rattle.occ_norm_frame.specs.occ_bits.Layout.{state_of}
use Rattle.occ_norm_frame.specs.occ_dd.Store.{has}
use Rattle.occ_norm_frame.specs.occ_dd.declared.set.SetId.{SetId}
use Rattle.occ_norm_frame.specs.occ_dd.declared.store.Store.{Store}
use Rattle.occ_norm_frame.specs.occ_follow.Sequence.{HasNodes}
use Rattle.occ_norm_frame.specs.occ_mdd.Maps.{value}
use Rattle.occ_norm_frame.specs.occ_mdd.declared.map.MapId.{MapId}
use Rattle.occ_norm_frame.specs.occ_node.World.{IsNode}
use Rattle.occ_norm_frame.specs.occ_node.declared.node.NodeId.{NodeId}
use Rattle.occ_norm_frame.specs.occ_node.declared.world.World.{World}
use Rattle.occ_norm_assign.specs.Written.{Leads, onto}
use Rattle.occ_norm_assign.specs.declared.writes.Write.{Write}
use Rattle.occ_norm_frame.specs.Placed.{IsAround}
use Rattle.occ_syntax.specs.declared.scope.Kind.{Kind}
use Rattle.occ_syntax.specs.Meaning.{Outcome, ended, meaning}
use Rattle.occ_syntax.specs.Scopes.{Environment}
use Rattle.occ_syntax.specs.Tree.{Tree}
use Rattle.occ_syntax.specs.Types.{types_kept}

-- the state at a place
abbrev pub at : List ℕ → ℕ → ℕ
at list i = get_or list i 0

-- a state of n bits for each state of n bits
pub record AreStates (n : ℕ) (list : List ℕ) : Type 0 where
  pub count : length list ≡ 2 ^ n
  pub below : (i : ℕ) → i < 2 ^ n → at list i < 2 ^ n

-- each state leads to itself
abbrev pub StaySame : ℕ → List ℕ → Type 0
StaySame n list = (i : ℕ) → i < 2 ^ n → at list i ≡ i

-- each state leads where another list leads and then the writes, as to n bits
abbrev pub ArePutOn : Store → ℕ → List Write → List ℕ → List ℕ → Type 0
ArePutOn s n writes before after = (i : ℕ) → i < 2 ^ n → at after i ≡ onto s writes (at before i) (at before i) % 2 ^ n

-- each state leads where the list `there` leads if `before` leads into the set, and where `other` leads if not
abbrev pub ArePicked : Store → SetId → List ℕ → List ℕ → List ℕ → List ℕ → Type 0
ArePicked s set before there other after = (i : ℕ) → i < length before → at after i ≡ (if has s set (at before i) then at there i else at other i)

-- from where the one list leads the part does nothing but end at once, where the other leads
abbrev pub MovesOn : List (Name × Width × ℕ) → ℕ → Environment → Tree → List ℕ → List ℕ → Type 0
MovesOn layout n Γ p before after = (i : ℕ) (t : List Event) (o : Outcome) → i < 2 ^ n
    → (meaning p).does Γ (state_of layout (at before i)) t o ↔ ((t ≡ []) × (o ≡ ended (state_of layout (at after i))))

-- the same wherever the part keeps types among these variables
pub record IsListed (vars : List (Name × Kind)) (layout : List (Name × Width × ℕ)) (n : ℕ) (p : Tree) (before after : List ℕ) : Type 0 where
  pub are : AreStates n after
  pub moves : (Γ : Environment) → IsAround Γ vars → types_kept p Γ ≡ true → MovesOn layout n Γ p before after

-- the bits of `keep` that differ in a state and where it leads
abbrev pub change_at : ℕ → List ℕ → ℕ → ℕ
change_at keep to i = bit_and (bit_xor i (at to i)) keep

-- a node for each of the first states, so many: what the map `rest` has where the state leads, turned by what changes of it
pub record AreLed (w : World) (keep : ℕ) (to : List ℕ) (rest : MapId) (count : ℕ) (nodes : List NodeId) : Type 0 where
  pub all : length nodes ≡ count
  pub each : (i : ℕ) (a : NodeId) → i < count → slice_get nodes i ≡ Some a → Leads w rest (at to i) (change_at keep to i) a
  pub there : (i : ℕ) (a : NodeId) → i < count → slice_get nodes i ≡ Some a → IsNode w a

-- the map has at each assignment the node at the place that its lowest bits say, so many, from a first one on
pub record IsSpread (w : World) (nodes : List NodeId) (left first : ℕ) (map : MapId) : Type 0 where
  pub has : HasNodes w map
  pub values : (x : ℕ) → value w.maps map x ≡ slice_get nodes (first + x % 2 ^ left)

-- the map has at each assignment what `rest` has where its lowest bits lead, turned by what changes of them
pub record IsLaid (w : World) (keep n : ℕ) (to : List ℕ) (rest r : MapId) : Type 0 where
  pub has : HasNodes w r
  pub each : (x : ℕ) (a : NodeId) → x < 2 ^ 64 → value w.maps r x ≡ Some a → Leads w rest (at to (x % 2 ^ n)) (change_at keep to (x % 2 ^ n)) a
