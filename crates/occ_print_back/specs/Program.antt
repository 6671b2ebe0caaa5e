-- A printed program: its lines as a forest, and what is asked of it and of its names.
use Rattle.std.specs.Prelude.{ℕ, ◌≡◌, ◌+◌, true, List, [], map, None}
use Rattle.std.specs.List.{AllByRecursion}
use Rattle.occ_print.specs.occ_base.declared.names.Name.{Name}
use Rattle.occ_print.specs.occ_syntax.declared.scope.Kind.{Kind}
use Rattle.occ_print.specs.occ_syntax.Scopes.{environment}
use Rattle.occ_print.specs.occ_syntax.Tree.{Tree}
use Rattle.occ_print.specs.occ_syntax.Types.{scope_kept, types_kept}
use Rattle.occ_print.specs.occ_parse_forms.declared.form.Param.{Param}
use Rattle.occ_print.specs.occ_parse_forms.Lines.{IsMarked}
use Rattle.occ_print.specs.occ_parse_forms.Shape as line
use Rattle.occ_parse.specs.occ_parse_rules.Forest.{Forest, no_line, and_line}
use Rattle.occ_parse.specs.occ_parse_rules.Places.{Place, Sorts, declared_in, param_entries}
use Rattle.occ_print.specs.Known.{ProgramIsKnown}
use Rattle.occ_print_back.specs.Said.{declared_of}
use Rattle.occ_print_back.specs.Forest.{height, part_forest}
use Rattle.occ_print_back.specs.Placed.{IsTable}

abbrev pub param_said : (ℕ → Place) → Name × Kind → Param
param_said P p = record { declared = declared_of (P p.0.0); kind = p.1 }

abbrev pub params_said : (ℕ → Place) → List (Name × Kind) → List Param
params_said P params = map (param_said P) params

-- the scope below the header
abbrev pub header_scope : (ℕ → Place) → List (Name × Kind) → Sorts
header_scope P params = declared_in [] (param_entries (params_said P params))

-- the lines below the header, which stands on the line of that number
abbrev pub body_forest : (ℕ → Place) → (number : ℕ) → Tree → Forest
body_forest P number body = part_forest P (number + 1) body no_line

-- the header on that line, the body below it, and the closing line
abbrev pub program_forest : (ℕ → Place) → (number : ℕ) → ℕ → List (Name × Kind) → Tree → Forest
program_forest P number name params body =
    and_line number (line.header (record { 0 = (P name).name }) (params_said P params)) (body_forest P number body)
    (and_line (number + 1 + height body) line.close no_line no_line)

-- A program that keeps names, types and directions, whose channel parameters are marked, and whose names are those of the
-- table. Its own name has no index.
pub record IsPrintable (names : List (List ℕ)) (P : ℕ → Place) (name : ℕ) (params : List (Name × Kind)) (body : Tree) : Type 0 where
  pub table : IsTable names P
  pub known : ProgramIsKnown names name params body
  pub plain : (P name).element ≡ None
  pub marked : AllByRecursion (λ (p : Name × Kind). IsMarked p.1) params
  pub scope : scope_kept params ≡ true
  pub types : types_kept body (environment params) ≡ true
