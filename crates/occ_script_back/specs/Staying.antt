-- Parts and programs that are printed from a longer table of names.
use Rattle.std.specs.Prelude.{ℕ, ◌≡◌, List}
use Rattle.occ_script_write.specs.occ_base.declared.names.Name.{Name}
use Rattle.occ_print_back.specs.occ_parse_rules.Places.{Place}
use Rattle.occ_script_write.specs.occ_print.Spelled.{part_text, program_text}
use Rattle.occ_print_back.specs.Program.{IsPrintable}
use Rattle.occ_script_back.specs.Part.{IsPrintablePart}
use Rattle.occ_script_write.specs.occ_syntax.declared.scope.Kind.{Kind}
use Rattle.occ_script_write.specs.occ_syntax.Tree.{Tree}

-- the part has the same text, and can be printed
pub record PartStays (names t : List (List ℕ)) (Q : ℕ → Place) (scope : List (Name × Kind)) (part : Tree) : Type 0 where
  pub text : part_text t 1 part ≡ part_text names 1 part
  pub printable : IsPrintablePart t Q scope part

-- the program has the same text, and can be printed
pub record ProgramStays (names t : List (List ℕ)) (Q : ℕ → Place) (name : ℕ) (params : List (Name × Kind)) (body : Tree) : Type 0 where
  pub text : program_text t name params body ≡ program_text names name params body
  pub printable : IsPrintable t Q name params body
