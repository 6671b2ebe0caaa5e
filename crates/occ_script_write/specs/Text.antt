-- The text of a script.
use Rattle.std.specs.Prelude.{ℕ, ◌-◌, ◌≤◌, List, [], ◌∷◌, ◌++◌, length, codes, decimal, slice_get, unwrap_or}
use Rattle.std.specs.List.{flat_map}
use Rattle.occ_law.specs.declared.table.LawId.{LawId}
use Rattle.occ_law.specs.Table.{law_names}
use Rattle.occ_print.specs.Known.{PartIsKnown}
use Rattle.occ_print.specs.Spelled.{part_text, program_text}
use Rattle.occ_script_lines.specs.declared.direction.Direction.{Direction}
use Rattle.occ_script_lines.specs.declared.direction.Direction.TheVariants as direction
use Rattle.occ_syntax.specs.declared.scope.Program.{Program}
use Rattle.occ_syntax.specs.View.{tree}
use Rattle.occ_script_write.specs.declared.writing.Done.{Done}

-- words as a line, with its line feed
abbrev pub line : List ℕ → List ℕ
line words = words ++ 10 ∷ []

-- a slash and a numeral for each number
abbrev pub place_text : ℕ → List ℕ
place_text n = codes "/" ++ decimal n

abbrev pub numbers_text : List ℕ → List ℕ
numbers_text numbers = flat_map place_text numbers

-- a path: its numbers, or a slash alone
abbrev pub path_text : List ℕ → List ℕ
path_text [] = codes "/"
path_text (n ∷ ns) = numbers_text (n ∷ ns)

abbrev pub direction_text : Direction → List ℕ
direction_text direction.Forward = codes "FORWARD"
direction_text direction.Backward = codes "BACKWARD"

-- the name of a law, by its number from 1
abbrev pub law_text : LawId → List ℕ
law_text law = unwrap_or (slice_get law_names (law.0 - 1)) []

-- what a step says on its line, with one space between words
abbrev pub step_words : Done → List ℕ
step_words done = codes "STEP " ++ law_text done.law ++ codes " " ++ direction_text done.dir ++ codes " " ++ path_text done.path

-- a step: its line, and its part at level 1
abbrev pub step_text : List (List ℕ) → Done → List ℕ
step_text names done = line (step_words done) ++ part_text names 1 (tree done.part)

abbrev pub steps_text : List (List ℕ) → List Done → List ℕ
steps_text names steps = flat_map (step_text names) steps

abbrev pub text_of_program : List (List ℕ) → Program → List ℕ
text_of_program names program = program_text names program.name.0 program.params (tree program.body)

-- A script: the first line of the format, the program behind FROM, the steps, and the program behind TO.
abbrev pub script_text : List (List ℕ) → Program → List Done → Program → List ℕ
script_text names from steps to =
    line (codes "occam-script 2")
    ++ line (codes "FROM") ++ text_of_program names from
    ++ steps_text names steps
    ++ line (codes "TO") ++ text_of_program names to

-- A step can be written: its law is one of the table, and the names of its part are those of the table of names.
pub record IsWritable (names : List (List ℕ)) (done : Done) : Type 0 where
  pub low : 1 ≤ done.law.0
  pub high : done.law.0 ≤ 63
  pub known : PartIsKnown (length names) (tree done.part)
