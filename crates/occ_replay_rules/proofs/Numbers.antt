-- Steps are by laws of the table.
use Rattle.std.proofs.Common.{ℕ, ◌≤◌, List}
use Rattle.occ_print.specs.occ_base.declared.names.Name.{Name}
use Rattle.occ_print.specs.occ_syntax.declared.scope.Kind.{Kind}
use Rattle.occ_print.specs.occ_syntax.Tree.{Tree}
use Rattle.occ_law_sound.proofs.from_law.Numbers.{at_least, at_most}
use Rattle.occ_script_lines.specs.declared.direction.Direction.{Direction}
use Rattle.occ_script_lines.specs.declared.direction.Direction.TheVariants as direction
use Rattle.occ_replay_rules.specs.Steps.{Joins}

-- a law that joins two parts is one of the table
pub joined_number : (dir : Direction) (n : ℕ) (S : List (Name × Kind)) (old new : Tree) → Joins dir n S old new → (1 ≤ n) × (n ≤ 63)
joined_number direction.Forward n S old new j = (at_least n S j.place old new j.sides, at_most n S j.place old new j.sides)
joined_number direction.Backward n S old new j = (at_least n S j.place new old j.sides, at_most n S j.place new old j.sides)
