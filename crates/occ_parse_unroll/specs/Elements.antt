-- The elements of arrays that lines speak of, in the order in which the program that they stand for is made, each for each
-- copy of its line, and the table of names that has them.
use Rattle.std.specs.Prelude.{ℕ, List, [], ◌∷◌, ◌++◌, Option, Some, None, slice_index_or, option_to_list}
use Rattle.std.specs.List.{flat_map}
use Rattle.occ_syntax.specs.occ_base.Names.{with_text}
use Rattle.occ_parse_forms.specs.declared.form.Declared.{Declared}
use Rattle.occ_parse_forms.specs.declared.form.Group.{Group}
use Rattle.occ_parse_forms.specs.declared.form.Group.TheVariants as word
use Rattle.occ_parse_forms.specs.declared.form.Item.{Item}
use Rattle.occ_parse_forms.specs.declared.form.Param.{Param}
use Rattle.occ_parse_forms.specs.declared.form.Times.{Times}
use Rattle.occ_parse_forms.specs.Shape.{Said, Shape}
use Rattle.occ_parse_forms.specs.Shape as line
use Rattle.occ_parse_rules.specs.declared.sort.Sort.{Sort}
use Rattle.occ_parse_rules.specs.declared.sort.Sort.TheVariants as sort
use Rattle.occ_parse_rules.specs.Forest.{Forest, no_line, and_line}
use Rattle.occ_parse_rules.specs.Places.{Place, Sorts, Indices, places, declared_in, entries_of, param_entries, place_at}
use Rattle.occ_parse_rules.specs.Types.{sort_here}
use Rattle.occ_parse_rules.specs.Unrolled.{copied}
use Rattle.occ_parse_unroll.specs.Numbers.{element_text}

-- ---- tables

-- The table behind one place, and behind places one after the other, where a rule says what an element brings in. A name by
-- itself brings nothing in.
abbrev pub brought_one : (List (List ℕ) → ℕ → ℕ → List (List ℕ)) → List (List ℕ) → ℕ → Option ℕ → List (List ℕ)
brought_one brings texts x None = texts
brought_one brings texts x (Some k) = brings texts x k

abbrev pub brought : (List (List ℕ) → ℕ → ℕ → List (List ℕ)) → List (List ℕ) → List Place → List (List ℕ)
brought brings texts [] = texts
brought brings texts (p ∷ ps) = brought brings (brought_one brings texts p.name p.element) ps

-- The table in which an element's text stands: its array's text in the table at hand, and the place in brackets behind it.
-- A name by itself is in the table already. What is in a table keeps its number, so that the text of an array that the
-- first table has is its text there.
abbrev pub with_element : List (List ℕ) → ℕ → ℕ → List (List ℕ)
with_element texts x k = with_text texts (element_text (slice_index_or texts x []) k)

abbrev pub with_place : List (List ℕ) → ℕ → Option ℕ → List (List ℕ)
with_place texts x k = brought_one with_element texts x k

-- the table in which the elements among places stand, one after the other
abbrev pub with_places : List (List ℕ) → List Place → List (List ℕ)
with_places texts ps = brought with_element texts ps

-- ---- a line's places, in order

abbrev pub all_places : List Declared → List Place
all_places ds = flat_map places ds

abbrev pub params_places : List Param → List Place
params_places ps = flat_map (λ p. places p.declared) ps

-- an item whose index is below 0 names no place
abbrev pub item_places : Indices → Item → List Place
item_places ρ i = option_to_list (place_at ρ i)

abbrev pub items_places : Indices → List Item → List Place
items_places ρ is = flat_map (item_places ρ) is

-- a replicator's index stands for its value, and for no name
abbrev pub operand_places : Option Sort → List Place → List Place
operand_places (Some (sort.Counter b n)) ps = []
operand_places (Some (sort.Variable width)) ps = ps
operand_places (Some (sort.Channel width mark)) ps = ps
operand_places None ps = ps

abbrev pub places_in : Sorts → Indices → Said → List Place
places_in Γ ρ (line.item i) = operand_places (sort_here Γ ρ i) (item_places ρ i)
places_in Γ ρ (line.numeral value) = []
places_in Γ ρ (line.typed value width) = []
places_in Γ ρ (line.truth b) = []
places_in Γ ρ (line.negation e) = places_in Γ ρ e
places_in Γ ρ (line.complement e) = places_in Γ ρ e
places_in Γ ρ (line.operation op left right) = places_in Γ ρ left ++ places_in Γ ρ right

-- of the values of an assignment, each for the variable in the same place
abbrev pub values_places : Sorts → Indices → List Item → List Said → List Place
values_places Γ ρ [] es = []
values_places Γ ρ (x ∷ xs) [] = []
values_places Γ ρ (x ∷ xs) (e ∷ es) = places_in Γ ρ e ++ values_places Γ ρ xs es

abbrev pub waiting_places : Sorts → Indices → line.Waiting → List Place
waiting_places Γ ρ line.ready = []
waiting_places Γ ρ (line.input c x) = item_places ρ c ++ item_places ρ x
waiting_places Γ ρ (line.output c e) = item_places ρ c ++ places_in Γ ρ e

-- of a line that is a guard where it stands among alternatives
abbrev pub guard_places : Sorts → Indices → Shape → List Place
guard_places Γ ρ (line.receive c x) = waiting_places Γ ρ (line.input c x)
guard_places Γ ρ (line.send c e) = waiting_places Γ ρ (line.output c e)
guard_places Γ ρ (line.guard e w) = places_in Γ ρ e ++ waiting_places Γ ρ w
guard_places Γ ρ other = []

-- ---- the places of lines one below another

-- Of all slots (in a scope, with the outer scope of the next slot), of the first slot alone (a slot ends with its first
-- process), of choices and of alternatives.
pub record Elements : Type 0 where
  pub parts : Sorts → Sorts → Indices → List Place
  pub first : Sorts → Indices → List Place
  pub cases : Sorts → Indices → List Place
  pub branches : Sorts → Indices → List Place

abbrev pub as_slots : Elements → Sorts → Indices → List Place
as_slots below Γ ρ = below.parts Γ Γ ρ

abbrev pub copied_places : Option Times → Sorts → Indices → (Sorts → Indices → List Place) → List Place
copied_places times Γ ρ copy = copied (λ ps qs. ps ++ qs) [] times Γ ρ copy

abbrev pub construct_places : Group → Option Times → Elements → Sorts → Indices → List Place
construct_places word.Seq times below Γ ρ = copied_places times Γ ρ (as_slots below)
construct_places word.Par times below Γ ρ = copied_places times Γ ρ (as_slots below)
construct_places word.If times below Γ ρ = copied_places times Γ ρ below.cases
construct_places word.Alt times below Γ ρ = copied_places times Γ ρ below.branches

abbrev pub process_places : Shape → Elements → Sorts → Indices → List Place
process_places (line.assign xs es) below Γ ρ = items_places ρ xs ++ values_places Γ ρ xs es
process_places (line.receive c x) below Γ ρ = item_places ρ c ++ item_places ρ x
process_places (line.send c e) below Γ ρ = item_places ρ c ++ places_in Γ ρ e
process_places (line.group g times) below Γ ρ = construct_places g times below Γ ρ
process_places other below Γ ρ = []

abbrev pub parts_places : Shape → Elements → Elements → Sorts → Sorts → Indices → List Place
parts_places (line.declare kind ds) below rest outer Γ ρ = all_places ds ++ rest.parts outer (declared_in Γ (entries_of kind ds)) ρ
parts_places s below rest outer Γ ρ = process_places s below Γ ρ ++ rest.parts outer outer ρ

abbrev pub first_places : Shape → Elements → Elements → Sorts → Indices → List Place
first_places (line.declare kind ds) below rest Γ ρ = all_places ds ++ rest.first (declared_in Γ (entries_of kind ds)) ρ
first_places s below rest Γ ρ = process_places s below Γ ρ

abbrev pub nested_cases_places : Group → Option Times → Elements → Sorts → Indices → List Place
nested_cases_places word.If times below Γ ρ = copied_places times Γ ρ below.cases
nested_cases_places other times below Γ ρ = []

abbrev pub case_places : Shape → Elements → Sorts → Indices → List Place
case_places (line.condition e) below Γ ρ = places_in Γ ρ e ++ below.first Γ ρ
case_places (line.group g times) below Γ ρ = nested_cases_places g times below Γ ρ
case_places other below Γ ρ = []

abbrev pub nested_branches_places : Group → Option Times → Elements → Sorts → Indices → List Place
nested_branches_places word.Alt times below Γ ρ = copied_places times Γ ρ below.branches
nested_branches_places other times below Γ ρ = []

abbrev pub branch_places : Shape → Elements → Sorts → Indices → List Place
branch_places (line.receive c x) below Γ ρ = waiting_places Γ ρ (line.input c x) ++ below.first Γ ρ
branch_places (line.send c e) below Γ ρ = waiting_places Γ ρ (line.output c e) ++ below.first Γ ρ
branch_places (line.guard e w) below Γ ρ = (places_in Γ ρ e ++ waiting_places Γ ρ w) ++ below.first Γ ρ
branch_places (line.group g times) below Γ ρ = nested_branches_places g times below Γ ρ
branch_places other below Γ ρ = []

abbrev pub no_elements : Elements
no_elements = record { parts = λ outer Γ ρ. []; first = λ Γ ρ. []; cases = λ Γ ρ. []; branches = λ Γ ρ. [] }

abbrev pub and_elements : Shape → Elements → Elements → Elements
and_elements s below rest = record {
  parts = parts_places s below rest;
  first = first_places s below rest;
  cases = λ Γ ρ. case_places s below Γ ρ ++ rest.cases Γ ρ;
  branches = λ Γ ρ. branch_places s below Γ ρ ++ rest.branches Γ ρ;
}

abbrev pub elements : Forest → Elements
elements no_line = no_elements
elements (and_line number s below rest) = and_elements s (elements below) (elements rest)

-- ---- a program's places

-- those of the parameters, and then those of the body in their scope
abbrev pub program_places : List Param → Forest → List Place
program_places ps below = params_places ps ++ (elements below).first (declared_in [] (param_entries ps)) (λ i. 0)

-- the table that has the elements of a program with those parameters and those lines
abbrev pub with_elements : List (List ℕ) → List Param → Forest → List (List ℕ)
with_elements texts ps below = with_places texts (program_places ps below)
