-- Laws have small numbers.
use Rattle.std.proofs.Common.{◌≡◌, ℕ, arith, true, List}
use Rattle.std.proofs.lemmas.Bool.{lt-ltb}
use Rattle.std.specs.Prelude.{nat_lt}
use Rattle.occ_syntax.specs.occ_base.declared.names.Name.{Name}
use Rattle.occ_derive_moves.proofs.from_replay_rules.Numbers.{joined_number}
use Rattle.occ_derive_moves.specs.occ_replay_rules.Steps.{Joins}
use Rattle.occ_derive_moves.specs.occ_script_lines.declared.direction.Direction.{Direction}
use Rattle.occ_syntax.specs.declared.scope.Kind.{Kind}
use Rattle.occ_syntax.specs.Tree.{Tree}

-- the number of a law that joins two parts is small
pub number_small : (dir : Direction) (n : ℕ) (S : List (Name × Kind)) (old new : Tree) → Joins dir n S old new → nat_lt n 256 ≡ true
number_small dir n S old new j = let h = (joined_number dir n S old new j).1 in lt-ltb n 256 (omega arith)
