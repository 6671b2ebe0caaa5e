-- Parts of a program and the maps of them, in every environment of the variables in scope.
use Rattle.std.specs.Prelude.{ℕ, ◌≡◌, true, List}
use Rattle.occ_syntax.specs.occ_base.declared.names.Name.{Name}
use Rattle.occ_syntax.specs.occ_base.declared.width.Width.{Width}
use Rattle.occ_syntax.specs.declared.scope.Kind.{Kind}
use Rattle.occ_syntax.specs.Scopes.{Environment}
use Rattle.occ_syntax.specs.Tree.{Tree}
use Rattle.occ_syntax.specs.Types.{types_kept}
use Rattle.occ_compare.specs.occ_mdd.declared.map.MapId.{MapId}
use Rattle.occ_compare.specs.occ_node.declared.world.World.{World}
use Rattle.occ_norm_alt.specs.occ_norm_frame.After.{IsAfter}
use Rattle.occ_norm_alt.specs.occ_norm_frame.Placed.{IsAround}

-- the map r is that of the part and then what the map `rest` has, wherever the part keeps types among these variables
abbrev pub IsAfterIn : World → List (Name × Kind) → List (Name × Width × ℕ) → ℕ → List Name → Tree → MapId → MapId → Type 0
IsAfterIn w vars layout keep closed p rest r = (Γ : Environment) → IsAround Γ vars → types_kept p Γ ≡ true → IsAfter w layout keep closed Γ p rest r
