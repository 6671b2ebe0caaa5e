-- The program that lines stand for: replicators as their copies, arrays as their elements, an IF among choices and an ALT
-- among alternatives as choices and alternatives in that place, and every numeral with the width that its place asks for.
use Rattle.std.specs.Prelude.{ℕ, zero, suc, min, true, List, [], ◌∷◌, ◌++◌, map, replicate, Option, Some, None, unwrap_or, length}
use Rattle.std.specs.List.{flat_map}
use Rattle.occ_meaning.specs.occ_base.declared.names.Name.{Name}
use Rattle.occ_meaning.specs.occ_base.declared.width.Width.{Width}
use Rattle.occ_meaning.specs.occ_base.declared.width.Width.TheVariants.{Bool as TruthValue}
use Rattle.occ_meaning.specs.occ_base.Width.{bits_of}
use Rattle.occ_meaning.specs.occ_syntax.declared.scope.Kind.{Kind}
use Rattle.occ_meaning.specs.occ_syntax.Tree.{Exp, variable, numeral, truth, negation, complement, operation, Waiting, ready, input, output, Tree, skip, stop, assign, receive, send, seq, par, select, alt, Trees, no_tree, and_tree, Cases, no_case, and_case, Branches, no_branch, and_branch}
use Rattle.occ_meaning.specs.occ_syntax.Declarations.{declaring_all}
use Rattle.occ_parse_forms.specs.declared.form.Declared.{Declared}
use Rattle.occ_parse_forms.specs.declared.form.Group.{Group}
use Rattle.occ_parse_forms.specs.declared.form.Group.TheVariants as word
use Rattle.occ_parse_forms.specs.declared.form.Item.{Item}
use Rattle.occ_parse_forms.specs.declared.form.Param.{Param}
use Rattle.occ_parse_forms.specs.declared.form.Times.{Times}
use Rattle.occ_parse_forms.specs.Shape.{Said, Shape}
use Rattle.occ_parse_forms.specs.Shape as line
use Rattle.occ_parse_rules.specs.declared.sort.Sort.{Sort}
use Rattle.occ_parse_rules.specs.declared.sort.Sort.TheVariants as sort
use Rattle.occ_parse_rules.specs.Forest.{Forest, no_line, and_line}
use Rattle.occ_parse_rules.specs.Places.{Place, Sorts, Indices, places, declared_in, entries_of, counter_of, numbers_from, with_index, place_at}
use Rattle.occ_parse_rules.specs.Types.{class, asks, or_width, own, sort_here, variable_here, channel_here}

-- The number in the table of names of each name, and of each element of the array of that name.
abbrev pub Numbers : Type 0
Numbers = ℕ → Option ℕ → ℕ

abbrev pub number_of : Numbers → Option Place → ℕ
number_of N (Some p) = N p.name p.element
number_of N None = 0

abbrev pub item_number : Numbers → Indices → Item → ℕ
item_number N ρ i = number_of N (place_at ρ i)

-- the names that a declaration declares, with their kind
abbrev pub named : Numbers → Kind → Declared → List (Name × Kind)
named N kind d = map (λ p. (record { 0 = N p.name p.element }, kind)) (places d)

abbrev pub all_named : Numbers → Kind → List Declared → List (Name × Kind)
all_named N kind ds = flat_map (named N kind) ds

abbrev pub params_named : Numbers → List Param → List (Name × Kind)
params_named N ps = flat_map (λ p. named N p.kind p.declared) ps

-- ---- expressions

-- A replicator's index stands for its value, with the width that is asked for. A value above 255 has no width, so that
-- its line has a fault, and stands as 255.
abbrev pub item_exp : Option Sort → ℕ → ℕ → Width → Exp
item_exp (Some (sort.Counter b n)) value x w = numeral (bits_of w) (min value 255)
item_exp (Some (sort.Variable width)) value x w = variable x
item_exp (Some (sort.Channel width mark)) value x w = variable x
item_exp None value x w = variable x

abbrev pub expression : Numbers → Sorts → Indices → Said → Width → Exp
expression N Γ ρ (line.item i) w = item_exp (sort_here Γ ρ i) (ρ i.name.0) (item_number N ρ i) w
expression N Γ ρ (line.numeral value) w = numeral (bits_of w) value
expression N Γ ρ (line.typed value width) w = numeral (bits_of width) value
expression N Γ ρ (line.truth b) w = truth b
expression N Γ ρ (line.negation e) w = negation (expression N Γ ρ e TruthValue)
expression N Γ ρ (line.complement e) w = complement (expression N Γ ρ e w)
expression N Γ ρ (line.operation op left right) w =
    let operands = unwrap_or (asks (class op) w (or_width (own Γ ρ left) (own Γ ρ right))) w in
    operation op (expression N Γ ρ left operands) (expression N Γ ρ right operands)

abbrev pub condition : Numbers → Sorts → Indices → Said → Exp
condition N Γ ρ e = expression N Γ ρ e TruthValue

-- an expression for a variable or a channel of that width
abbrev pub value : Numbers → Sorts → Indices → Option Width → Said → Exp
value N Γ ρ width e = expression N Γ ρ e (unwrap_or width TruthValue)

abbrev pub values : Numbers → Sorts → Indices → List Item → List Said → List Exp
values N Γ ρ [] es = []
values N Γ ρ (x ∷ xs) [] = []
values N Γ ρ (x ∷ xs) (e ∷ es) = value N Γ ρ (variable_here Γ ρ x) e ∷ values N Γ ρ xs es

abbrev pub waited : Numbers → Sorts → Indices → line.Waiting → Waiting
waited N Γ ρ line.ready = ready
waited N Γ ρ (line.input c x) = input (item_number N ρ c) (item_number N ρ x)
waited N Γ ρ (line.output c e) = output (item_number N ρ c) (value N Γ ρ (channel_here Γ ρ c) e)

-- ---- lists of parts

abbrev pub trees_then : Trees → Trees → Trees
trees_then no_tree others = others
trees_then (and_tree p ps) others = and_tree p (trees_then ps others)

abbrev pub cases_then : Cases → Cases → Cases
cases_then no_case others = others
cases_then (and_case e p cs) others = and_case e p (cases_then cs others)

abbrev pub branches_then : Branches → Branches → Branches
branches_then no_branch others = others
branches_then (and_branch e w p bs) others = and_branch e w p (branches_then bs others)

-- what all copies of something give together, one copy for each value of the index in turn
abbrev pub copies : {A : Type 0} → (A → A → A) → A → Times → Sorts → Indices → (Sorts → Indices → A) → List ℕ → A
copies join none times Γ ρ copy [] = none
copies join none times Γ ρ copy (v ∷ vs) = join (copy (counter_of times ∷ Γ) (with_index ρ times.index.0 v)) (copies join none times Γ ρ copy vs)

abbrev pub copied : {A : Type 0} → (A → A → A) → A → Option Times → Sorts → Indices → (Sorts → Indices → A) → A
copied join none None Γ ρ copy = copy Γ ρ
copied join none (Some times) Γ ρ copy = copies join none times Γ ρ copy (numbers_from times.base times.count)

-- the process of a slot, of which there is one
abbrev pub first_tree : Trees → Tree
first_tree no_tree = skip
first_tree (and_tree p ps) = p

-- ---- lines

-- What lines one below another stand for: as slots (in a scope, behind declarations that wait for their process, with the
-- outer scope of the next slot), as choices and as alternatives.
pub record Lines : Type 0 where
  pub parts : Sorts → Sorts → List (Name × Kind) → Indices → Trees
  pub cases : Sorts → Indices → Cases
  pub branches : Sorts → Indices → Branches

abbrev pub as_parts : Lines → Sorts → Indices → Trees
as_parts below Γ ρ = below.parts Γ Γ [] ρ

abbrev pub slot : Lines → Sorts → Indices → Tree
slot below Γ ρ = first_tree (as_parts below Γ ρ)

abbrev pub construct : Group → Option Times → Lines → Sorts → Indices → Tree
construct word.Seq times below Γ ρ = seq (copied trees_then no_tree times Γ ρ (as_parts below))
construct word.Par times below Γ ρ = par (copied trees_then no_tree times Γ ρ (as_parts below))
construct word.If times below Γ ρ = select (copied cases_then no_case times Γ ρ below.cases)
construct word.Alt times below Γ ρ = alt (copied branches_then no_branch times Γ ρ below.branches)

-- the process that a line begins; a line that begins none counts as SKIP
abbrev pub process : Numbers → Shape → Lines → Sorts → Indices → Tree
process N line.skip below Γ ρ = skip
process N line.stop below Γ ρ = stop
process N (line.assign xs es) below Γ ρ = assign (map (item_number N ρ) xs) (values N Γ ρ xs es)
process N (line.receive c x) below Γ ρ = receive (item_number N ρ c) (item_number N ρ x)
process N (line.send c e) below Γ ρ = send (item_number N ρ c) (value N Γ ρ (channel_here Γ ρ c) e)
process N (line.group g times) below Γ ρ = construct g times below Γ ρ
process N other below Γ ρ = skip

abbrev pub part_line : Numbers → Shape → Lines → Lines → Sorts → Sorts → List (Name × Kind) → Indices → Trees
part_line N (line.declare kind ds) below rest outer Γ waiting ρ = rest.parts outer (declared_in Γ (entries_of kind ds)) (waiting ++ all_named N kind ds) ρ
part_line N s below rest outer Γ waiting ρ = and_tree (declaring_all waiting (process N s below Γ ρ)) (rest.parts outer outer [] ρ)

abbrev pub nested_cases : Group → Option Times → Lines → Sorts → Indices → Cases
nested_cases word.If times below Γ ρ = copied cases_then no_case times Γ ρ below.cases
nested_cases other times below Γ ρ = no_case

abbrev pub case_line : Numbers → Shape → Lines → Lines → Sorts → Indices → Cases
case_line N (line.condition e) below rest Γ ρ = and_case (condition N Γ ρ e) (slot below Γ ρ) (rest.cases Γ ρ)
case_line N (line.group g times) below rest Γ ρ = cases_then (nested_cases g times below Γ ρ) (rest.cases Γ ρ)
case_line N other below rest Γ ρ = rest.cases Γ ρ

abbrev pub nested_branches : Group → Option Times → Lines → Sorts → Indices → Branches
nested_branches word.Alt times below Γ ρ = copied branches_then no_branch times Γ ρ below.branches
nested_branches other times below Γ ρ = no_branch

-- a guard without a condition has the condition TRUE
abbrev pub branch_line : Numbers → Shape → Lines → Lines → Sorts → Indices → Branches
branch_line N (line.receive c x) below rest Γ ρ = and_branch (truth true) (waited N Γ ρ (line.input c x)) (slot below Γ ρ) (rest.branches Γ ρ)
branch_line N (line.send c e) below rest Γ ρ = and_branch (truth true) (waited N Γ ρ (line.output c e)) (slot below Γ ρ) (rest.branches Γ ρ)
branch_line N (line.guard e w) below rest Γ ρ = and_branch (condition N Γ ρ e) (waited N Γ ρ w) (slot below Γ ρ) (rest.branches Γ ρ)
branch_line N (line.group g times) below rest Γ ρ = branches_then (nested_branches g times below Γ ρ) (rest.branches Γ ρ)
branch_line N other below rest Γ ρ = rest.branches Γ ρ

abbrev pub no_lines : Lines
no_lines = record { parts = λ outer Γ waiting ρ. no_tree; cases = λ Γ ρ. no_case; branches = λ Γ ρ. no_branch }

abbrev pub and_lines : Numbers → Shape → Lines → Lines → Lines
and_lines N s below rest = record {
  parts = part_line N s below rest;
  cases = case_line N s below rest;
  branches = branch_line N s below rest;
}

abbrev pub unrolled : Numbers → Forest → Lines
unrolled N no_line = no_lines
unrolled N (and_line number s below rest) = and_lines N s (unrolled N below) (unrolled N rest)

-- the process that the lines of one slot stand for, in a scope
abbrev pub slot_process : Numbers → Sorts → Forest → Tree
slot_process N Γ below = slot (unrolled N below) Γ (λ i. 0)

-- ---- the lines of the processes

abbrev pub repeated : {A : Type 0} → ℕ → List A → List A
repeated zero xs = []
repeated (suc n) xs = xs ++ repeated n xs

abbrev pub times_of : Option Times → ℕ
times_of None = 1
times_of (Some times) = times.count

-- The number of the line of each process of the unrolled lines, the outer ones first; a declared name is a process.
pub record Lined : Type 0 where
  pub parts : List ℕ
  pub options : List ℕ

abbrev pub lined_construct : Group → Option Times → Lined → List ℕ
lined_construct word.Seq times below = repeated (times_of times) below.parts
lined_construct word.Par times below = repeated (times_of times) below.parts
lined_construct word.If times below = repeated (times_of times) below.options
lined_construct word.Alt times below = repeated (times_of times) below.options

abbrev pub lined_part : ℕ → Shape → Lined → List ℕ
lined_part number (line.declare kind ds) below = replicate (length (flat_map places ds)) number
lined_part number (line.group g times) below = number ∷ lined_construct g times below
lined_part number other below = number ∷ []

abbrev pub lined_option : Shape → Lined → List ℕ
lined_option (line.group g times) below = repeated (times_of times) below.options
lined_option other below = below.parts

abbrev pub lined : Forest → Lined
lined no_line = record { parts = []; options = [] }
lined (and_line number s below rest) = record {
  parts = lined_part number s (lined below) ++ (lined rest).parts;
  options = lined_option s (lined below) ++ (lined rest).options;
}
