-- The limits of programs, said of a program that is printed.
use Rattle.std.specs.Prelude.{ℕ, ◌≡◌, ◌≤◌, true, List, length}
use Rattle.occ_script_write.specs.occ_base.declared.names.Name.{Name}
use Rattle.occ_script_write.specs.occ_syntax.declared.scope.Kind.{Kind}
use Rattle.occ_script_write.specs.occ_syntax.Counts.{controls, bits_of_scope, most_bits}
use Rattle.occ_script_write.specs.occ_syntax.Tree.{Tree}
use Rattle.occ_print_back.specs.occ_parse.declared.bound.Bound.{Bound}
use Rattle.occ_print_back.specs.occ_parse.Limits.{is_limited}
use Rattle.occ_script_write.specs.occ_print.Lines.{part_lines}
use Rattle.occ_print_back.specs.Back.{IsNarrow, deepest}

-- Controls, parameters, the bits of the parameters, the bits in scope at one place, and the levels of its printed lines.
pub record IsWithinLimits (params : List (Name × Kind)) (body : Tree) : Type 0 where
  pub controls : controls body ≤ 4096
  pub parameters : length params ≤ 16
  pub interface : bits_of_scope params ≤ 16
  pub state : most_bits body (bits_of_scope params) ≤ 24
  pub levels : deepest (part_lines 1 body) ≤ 64

-- What binds the text of a program is kept: the tokens of its lines, and where all limits bind it, these.
pub record IsWithin (b : Bound) (name : ℕ) (params : List (Name × Kind)) (body : Tree) : Type 0 where
  pub narrow : IsNarrow name params body
  pub limits : is_limited b ≡ true → IsWithinLimits params body
