-- A printed program reads back.
use Rattle.std.specs.Prelude.{ℕ, ◌≤◌, max, List, [], ◌∷◌}
use Rattle.occ_print.specs.occ_base.declared.names.Name.{Name}
use Rattle.occ_print.specs.occ_syntax.declared.scope.Kind.{Kind}
use Rattle.occ_print.specs.occ_syntax.Tree.{Tree}
use Rattle.occ_parse.specs.occ_parse_rules.Places.{Place}
use Rattle.occ_parse.specs.occ_parse_rules.Unrolled.{lined}
use Rattle.occ_print.specs.Lines.{TextLine, most_symbols, program_lines}
use Rattle.occ_print.specs.Spelled.{program_text}
use Rattle.occ_parse.specs.declared.bound.Bound.{Bound}
use Rattle.occ_parse.specs.declared.bound.Bound.TheVariants as bound
use Rattle.occ_parse.specs.Reading.{IsRead}
use Rattle.occ_print_back.specs.Program.{body_forest}

-- no line has more tokens than a line of a text may have
abbrev pub IsNarrow : ℕ → List (Name × Kind) → Tree → Type 0
IsNarrow name params body = most_symbols (program_lines name params body) ≤ 4096

-- the level of the deepest of lines
abbrev pub deepest : List TextLine → ℕ
deepest [] = 0
deepest (l ∷ ls) = max l.level (deepest ls)

-- the lines of the processes, below a header on the line of that number
abbrev pub printed_numbers : (ℕ → Place) → (number : ℕ) → Tree → List ℕ
printed_numbers P number body = (lined (body_forest P number body)).parts

-- A text reads as the program, with the same table of names, and with its header on the line of that number.
abbrev pub ReadsBackFrom : Bound → List ℕ → List (List ℕ) → (ℕ → Place) → (number : ℕ) → ℕ → List (Name × Kind) → Tree → Type 0
ReadsBackFrom b text names P number name params body =
    IsRead b text names names (record { 0 = name }) params body (printed_numbers P number body)

-- The text of the program reads as that program, with the same table of names.
abbrev pub ReadsBack : List (List ℕ) → (ℕ → Place) → ℕ → List (Name × Kind) → Tree → Type 0
ReadsBack names P name params body = ReadsBackFrom bound.Script (program_text names name params body) names P 1 name params body
