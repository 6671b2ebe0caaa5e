-- Maps of parts of a PAR that stand in a row, and the map of all of them together.
use Rattle.std.specs.Prelude.{ℕ, ◌+◌, ◌<◌, ◌≤◌, ◌≡◌, ◌^◌, true, List, length, get_or, bit_or}
use Rattle.std.specs.List.{All}
use Rattle.occ_syntax.specs.occ_base.declared.names.Name.{Name}
use Rattle.occ_syntax.specs.occ_base.declared.width.Width.{Width}
use Rattle.occ_norm_frame.specs.occ_mdd.declared.map.MapId.{MapId}
use Rattle.occ_norm_frame.specs.occ_node.declared.world.World.{World}
use Rattle.occ_norm_frame.specs.occ_follow.Sequence.{HasNodes}
use Rattle.occ_norm_frame.specs.Maps.{Lifts}
use Rattle.occ_norm_frame.specs.Lifted.{IsWovenOf, OnTwo}
use Rattle.occ_syntax.specs.Scopes.{Environment}
use Rattle.occ_syntax.specs.Tree.{Tree, Trees, par}
use Rattle.occ_syntax.specs.Types.{all_types_kept}
use Rattle.occ_syntax.specs.Usage.{AreSeparate}
use Rattle.occ_syntax.specs.View.{tree, trees}
use Rattle.occ_syntax.specs.declared.proc.Proc.{Proc, Skip}
use Rattle.occ_norm_frame.specs.Alone.{IsPart, except}
use Rattle.occ_norm_frame.specs.After.{IsAfter, WritesWithin}
use Rattle.occ_norm_frame.specs.Placed.{IsAround}
use Rattle.occ_norm_frame.specs.declared.frame.Frame.{Frame}
use Rattle.occ_norm_par.specs.Sides.{AreWritten, bits_in, closed_in, crossing, uses_at}
use Rattle.occ_norm_par.specs.declared.parallel.Sides.{Sides}
use Rattle.occ_norm_par.specs.declared.parallel.Split.{Split}
use Rattle.occ_norm_par.specs.declared.users.Users.{Users}

abbrev pub no_map : MapId
no_map = record { 0 = 0 }

-- each map has nodes
abbrev pub HaveNodes : World → List MapId → Type 0
HaveNodes w maps = (i : ℕ) → i < length maps → HasNodes w (get_or maps i no_map)

-- which of the parts, of which the first stands in that place, use the channel lies between its first and its last user
abbrev pub IsSpread : ℕ → Trees → Users → Type 0
IsSpread place ps u = (j : ℕ) → uses_at ps j u.chan.0 ≡ true → (u.first ≤ place + j) × (place + j ≤ u.last)

-- the bits of each part, from a place on
abbrev pub WriteEach : List (Name × Width × ℕ) → List ℕ → ℕ → List Proc → Type 0
WriteEach layout writes place ps = (i : ℕ) → i < length ps → AreWritten layout (tree (get_or ps i Skip)) (get_or writes (place + i) 0)

-- each map is that of the part in its place, whose ends have the values of what it writes, and where the channels that it
-- alone uses are closed
abbrev pub AreOfParts : World → List (Name × Width × ℕ) → ℕ → List Users → List ℕ → Environment → ℕ → List Proc → List MapId → Type 0
AreOfParts w layout all users writes Γ place ps maps = (i : ℕ) → i < length ps
    → IsPart w layout all (except all (get_or writes (place + i) 0)) (closed_in (place + i) (place + i + 1) users) Γ (tree (get_or ps i Skip)) (get_or maps i no_map)

-- r is the map of parts side by side that have these maps, of which the first stands in that place: its ends have the values of what
-- they write, and the channels that they alone use are closed
pub record IsJoined (sides : Sides) (place : ℕ) (maps : List MapId) (u w : World) (r : MapId) : Type 0 where
  pub joined : (frame : Frame) (Γ : Environment) (ps : List Proc) → length maps ≡ length ps → IsAround Γ frame.vars → all_types_kept (trees ps) Γ ≡ true → AreSeparate (trees ps)
      → All (IsSpread place (trees ps)) sides.users.items → WriteEach frame.layout sides.writes.items place ps
      → AreOfParts u frame.layout sides.all sides.users.items sides.writes.items Γ place ps maps
      → IsPart w frame.layout sides.all (except sides.all (bits_in sides.writes.items place (length ps))) (closed_in place (place + length ps) sides.users.items) Γ (par (trees ps)) r

-- r is the map of the parts in the first places beside the others': final states take the bits from the first that its parts write,
-- and the channels are closed that both use and no other part
pub record AreBoth (sides : Sides) (split : Split) (first others : MapId) (w : World) (r : MapId) : Type 0 where
  pub small : bits_in sides.writes.items split.low split.count < 2 ^ 64
  pub lifts : Lifts w first others r (OnTwo (IsWovenOf w (bits_in sides.writes.items split.low split.count) (crossing split.low (split.low + split.count) split.high sides.users.items)))

-- wherever `together` is the map of a process alone that writes no other bits than the parts, r is that of it and then what `rest` has
abbrev pub IsSequelOf : Sides → Frame → World → World → MapId → MapId → MapId → Type 0
IsSequelOf sides frame u w together rest r = (Γ : Environment) (p : Tree) → WritesWithin frame.layout frame.bits sides.written Γ p
    → IsPart u frame.layout (bit_or frame.keep sides.needed) (except (bit_or frame.keep sides.needed) sides.written) frame.closed.items Γ p together
    → IsAfter w frame.layout frame.keep frame.closed.items Γ p rest r
