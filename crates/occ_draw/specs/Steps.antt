-- The steps of a script as a list, a line each. That a law joins the two parts of a step isn't looked at.
use Rattle.std.specs.Prelude.{ℕ, ◌+◌, List, [], ◌∷◌, ◌++◌, codes, Option, None, Some, Result, Ok, Err}
use Rattle.occ_syntax.specs.occ_base.declared.names.Name.{Name}
use Rattle.occ_tool_run.specs.occ_law.declared.table.LawId.{LawId}
use Rattle.occ_tool_run.specs.occ_meaning.Context.{part_at, put}
use Rattle.occ_tool_run.specs.occ_parse_part.Resolving.{part_fault, part_process}
use Rattle.occ_tool_run.specs.occ_parse.declared.fault.ParseFault.{ParseFault}
use Rattle.occ_tool_run.specs.occ_script.Shown.{ShownScript, ShownStep}
use Rattle.occ_tool_run.specs.occ_script_lines.Places.{scope_list}
use Rattle.occ_syntax.specs.declared.scope.Kind.{Kind}
use Rattle.occ_syntax.specs.Tree.{Tree}
use Rattle.occ_draw.specs.declared.fault.Lack.{Lack}
use Rattle.occ_draw.specs.declared.fault.Lack.TheVariants.{NoLaw, NoPath, NotAccepted}
use Rattle.occ_draw.specs.Words.{change_text, place_text}

-- the process that the part of a step is in the scope at its path, and the whole with it put in
abbrev pub new_part : List (Name × Kind) → Tree → ShownStep → Tree
new_part S p s = part_process s.part (scope_list s.path S p)

abbrev pub new_whole : List (Name × Kind) → Tree → ShownStep → Tree
new_whole S p s = put s.path p (new_part S p s)

-- the line of a step: where it is taken, and what changes there
abbrev pub step_line : ℕ → LawId → ShownStep → Tree → Tree → List ℕ
step_line n law s old new = place_text n law s.dir s.path ++ codes ": " ++ change_text old new ++ codes "\n"

-- the new part has no fault of names, types or directions there
abbrev pub line_of_part : List ℕ → Option ParseFault → Result (List ℕ) Lack
line_of_part line None = Ok line
line_of_part line (Some fault) = Err NotAccepted

-- a part stands at the path
abbrev pub line_at : List (Name × Kind) → Tree → ℕ → ShownStep → LawId → Option Tree → Result (List ℕ) Lack
line_at S p n s law None = Err NoPath
line_at S p n s law (Some old) = line_of_part (step_line n law s old (new_part S p s)) (part_fault s.part (scope_list s.path S p))

-- the table has a law of the name
abbrev pub line_by : List (Name × Kind) → Tree → ℕ → ShownStep → Option LawId → Result (List ℕ) Lack
line_by S p n s None = Err NoLaw
line_by S p n s (Some law) = line_at S p n s law (part_at s.path p)

-- step n, from a process in a scope: its line, or the first that it lacks
abbrev pub told : List (Name × Kind) → Tree → ℕ → ShownStep → Result (List ℕ) Lack
told S p n s = line_by S p n s s.law

-- a line and those of the steps behind it; or the number of the first step that lacks something, and what it lacks
abbrev pub and_line : ℕ → Result (List ℕ) Lack → Result (List ℕ) (ℕ × Lack) → Result (List ℕ) (ℕ × Lack)
and_line n (Ok line) (Ok text) = Ok (line ++ text)
and_line n (Ok line) (Err found) = Err found
and_line n (Err lack) rest = Err (n, lack)

-- the steps from step n on
unfoldable pub steps_text : List (Name × Kind) → Tree → ℕ → List ShownStep → Result (List ℕ) (ℕ × Lack)
steps_text S p n [] = Ok []
steps_text S p n (s ∷ ss) = and_line n (told S p n s) (steps_text S (new_whole S p s) (n + 1) ss)

-- the steps of a script, from its first program on
abbrev pub list_of : ShownScript → Result (List ℕ) (ℕ × Lack)
list_of script = steps_text script.from.params script.from.body 1 script.steps
