-- How many controls the processes of lines have together, read off the lines: a replicator multiplies what stands below it.
use Rattle.std.specs.Prelude.{ℕ, ◌+◌, ◌*◌, List, Option, length}
use Rattle.std.specs.List.{flat_map}
use Rattle.occ_parse_forms.specs.declared.form.Declared.{Declared}
use Rattle.occ_parse_forms.specs.declared.form.Group.{Group}
use Rattle.occ_parse_forms.specs.declared.form.Group.TheVariants as word
use Rattle.occ_parse_forms.specs.declared.form.Times.{Times}
use Rattle.occ_parse_forms.specs.Shape.{Shape}
use Rattle.occ_parse_forms.specs.Shape as line
use Rattle.occ_parse_rules.specs.Forest.{Forest, no_line, and_line}
use Rattle.occ_parse_rules.specs.Places.{places}
use Rattle.occ_parse_rules.specs.Unrolled.{times_of}

-- The controls of lines one below another: of all slots and of the first slot alone, where so many declared names wait
-- for the first process, of choices, and of alternatives.
pub record Sizes : Type 0 where
  pub parts : ℕ → ℕ
  pub first : ℕ → ℕ
  pub cases : ℕ
  pub branches : ℕ

-- how many names declarations declare
abbrev pub names_in : List Declared → ℕ
names_in ds = length (flat_map places ds)

abbrev pub construct_size : Group → Option Times → Sizes → ℕ
construct_size word.Seq times below = 1 + times_of times * below.parts 0
construct_size word.Par times below = 1 + times_of times * below.parts 0
construct_size word.If times below = 1 + times_of times * below.cases
construct_size word.Alt times below = 1 + times_of times * below.branches

abbrev pub process_size : Shape → Sizes → ℕ
process_size (line.group g times) below = construct_size g times below
process_size other below = 1

abbrev pub parts_size : Shape → Sizes → Sizes → ℕ → ℕ
parts_size (line.declare kind ds) below rest waiting = rest.parts (waiting + names_in ds)
parts_size s below rest waiting = waiting + process_size s below + rest.parts 0

abbrev pub first_size : Shape → Sizes → Sizes → ℕ → ℕ
first_size (line.declare kind ds) below rest waiting = rest.first (waiting + names_in ds)
first_size s below rest waiting = waiting + process_size s below

abbrev pub nested_cases_size : Group → Option Times → Sizes → ℕ
nested_cases_size word.If times below = times_of times * below.cases
nested_cases_size other times below = 0

abbrev pub case_size : Shape → Sizes → ℕ
case_size (line.condition e) below = 1 + below.first 0
case_size (line.group g times) below = nested_cases_size g times below
case_size other below = 0

abbrev pub nested_branches_size : Group → Option Times → Sizes → ℕ
nested_branches_size word.Alt times below = times_of times * below.branches
nested_branches_size other times below = 0

abbrev pub branch_size : Shape → Sizes → ℕ
branch_size (line.receive c x) below = 1 + below.first 0
branch_size (line.send c e) below = 1 + below.first 0
branch_size (line.guard e w) below = 1 + below.first 0
branch_size (line.group g times) below = nested_branches_size g times below
branch_size other below = 0

abbrev pub no_sizes : Sizes
no_sizes = record { parts = λ waiting. 0; first = λ waiting. 1; cases = 0; branches = 0 }

abbrev pub and_sizes : Shape → Sizes → Sizes → Sizes
and_sizes s below rest = record {
  parts = parts_size s below rest;
  first = first_size s below rest;
  cases = case_size s below + rest.cases;
  branches = branch_size s below + rest.branches;
}

abbrev pub sizes : Forest → Sizes
sizes no_line = no_sizes
sizes (and_line number s below rest) = and_sizes s (sizes below) (sizes rest)
