-- The sizes of lines are the controls of what they stand for.
use Rattle.std.proofs.Common.{◌≡◌, ℕ, zero, suc, ◌+◌, ◌*◌, false, List, [], ◌∷◌, ◌++◌, length, Option, Some, None, refl, ap, sym, ◌∙◌, arith, ⊎_elim, length-append}
use Rattle.std.specs.List.{flat_map}
use Rattle.std.proofs.lemmas.List.{length-map}
use Rattle.occ_syntax.specs.occ_base.declared.names.Name.{Name}
use Rattle.occ_syntax.specs.declared.scope.Kind.{Kind}
use Rattle.occ_syntax.specs.Tree.{Tree, Trees, no_tree, and_tree, Cases, no_case, and_case, Branches, no_branch, and_branch}
use Rattle.occ_syntax.specs.Declarations.{declaring_all}
use Rattle.occ_syntax.specs.Counts.{controls, controls_of_all, controls_of_cases, controls_of_branches}
use Rattle.occ_syntax.proofs.Counting.{controls-declaring}
use Rattle.occ_parse_forms.specs.declared.form.Declared.{Declared}
use Rattle.occ_parse_forms.specs.declared.form.Group.{Group}
use Rattle.occ_parse_forms.specs.declared.form.Group.TheVariants as word
use Rattle.occ_parse_forms.specs.declared.form.Times.{Times}
use Rattle.occ_parse_forms.specs.Shape.{Shape}
use Rattle.occ_parse_forms.specs.Shape as line
use Rattle.occ_parse_rules.specs.Forest.{Forest, no_line, and_line}
use Rattle.occ_parse_rules.specs.Places.{Sorts, Indices, places, numbers_from, counter_of, with_index, declared_in, entries_of}
use Rattle.occ_parse_rules.specs.Unrolled.{Numbers, Lines, named, all_named, trees_then, cases_then, branches_then, copies, copied, first_tree, as_parts, slot, construct, process, part_line, nested_cases, case_line, nested_branches, branch_line, unrolled, slot_process, times_of}
use Rattle.occ_parse_unroll.specs.Reading.{is_declaration}
use Rattle.occ_parse_unroll.specs.Sizes.{Sizes, names_in, construct_size, process_size, parts_size, first_size, nested_cases_size, case_size, nested_branches_size, branch_size, sizes}
use Rattle.occ_parse_unroll.proofs.Others.{part_other, parts_size_other, first_size_other, declaration_or_other}

-- ---- sums

pub controls-declaring_all : (ds : List (Name × Kind)) (p : Tree) → controls (declaring_all ds p) ≡ length ds + controls p
controls-declaring_all [] p = omega arith
controls-declaring_all (d ∷ ds) p = omega (arith, controls-declaring d.0.0 d.1 (declaring_all ds p), controls-declaring_all ds p)

controls-trees_then : (a b : Trees) → controls_of_all (trees_then a b) ≡ controls_of_all a + controls_of_all b
controls-trees_then no_tree b = omega arith
controls-trees_then (and_tree p ps) b = omega (arith, controls-trees_then ps b)

controls-cases_then : (a b : Cases) → controls_of_cases (cases_then a b) ≡ controls_of_cases a + controls_of_cases b
controls-cases_then no_case b = omega arith
controls-cases_then (and_case e p cs) b = omega (arith, controls-cases_then cs b)

controls-branches_then : (a b : Branches) → controls_of_branches (branches_then a b) ≡ controls_of_branches a + controls_of_branches b
controls-branches_then no_branch b = omega arith
controls-branches_then (and_branch e w p bs) b = omega (arith, controls-branches_then bs b)

length-numbers_from : (b n : ℕ) → length (numbers_from b n) ≡ n
length-numbers_from b zero = refl
length-numbers_from b (suc n) = omega (arith, length-numbers_from (b + 1) n)

-- copies of one size are together so many times that size
module _ {A : Type 0} (join : A → A → A) (none : A) (m : A → ℕ) (joined : (a b : A) → m (join a b) ≡ m a + m b) (nothing : m none ≡ 0) where
  copies_size : (times : Times) (Γ : Sorts) (ρ : Indices) (copy : Sorts → Indices → A) (x : ℕ) → ((Δ : Sorts) (σ : Indices) → m (copy Δ σ) ≡ x)
      → (vs : List ℕ) → m (copies join none times Γ ρ copy vs) ≡ length vs * x
  copies_size times Γ ρ copy x one [] = omega (arith, nothing)
  copies_size times Γ ρ copy x one (v ∷ vs) =
      joined (copy (counter_of times ∷ Γ) (with_index ρ times.index.0 v)) (copies join none times Γ ρ copy vs)
      ∙ grind (arith, one (counter_of times ∷ Γ) (with_index ρ times.index.0 v), copies_size times Γ ρ copy x one vs)

  pub copied_size : (times : Option Times) (Γ : Sorts) (ρ : Indices) (copy : Sorts → Indices → A) (x : ℕ) → ((Δ : Sorts) (σ : Indices) → m (copy Δ σ) ≡ x)
      → m (copied join none times Γ ρ copy) ≡ times_of times * x
  copied_size None Γ ρ copy x one = omega (arith, one Γ ρ)
  copied_size (Some times) Γ ρ copy x one =
      copies_size times Γ ρ copy x one (numbers_from times.base times.count) ∙ ap (λ n. n * x) (length-numbers_from times.base times.count)

-- ---- line by line

-- what lines stand for has these sizes, in every scope and at all values of the indices
pub record IsSized (l : Lines) (z : Sizes) : Type 0 where
  pub parts : (outer Γ : Sorts) (waiting : List (Name × Kind)) (ρ : Indices) → controls_of_all (l.parts outer Γ waiting ρ) ≡ z.parts (length waiting)
  pub first : (outer Γ : Sorts) (waiting : List (Name × Kind)) (ρ : Indices) → controls (first_tree (l.parts outer Γ waiting ρ)) ≡ z.first (length waiting)
  pub cases : (Γ : Sorts) (ρ : Indices) → controls_of_cases (l.cases Γ ρ) ≡ z.cases
  pub branches : (Γ : Sorts) (ρ : Indices) → controls_of_branches (l.branches Γ ρ) ≡ z.branches

pub cases_sized : (l : Lines) (z : Sizes) → IsSized l z → (times : Option Times) (Γ : Sorts) (ρ : Indices) → controls_of_cases (copied cases_then no_case times Γ ρ l.cases) ≡ times_of times * z.cases
cases_sized l z h times Γ ρ = copied_size cases_then no_case controls_of_cases controls-cases_then refl times Γ ρ l.cases z.cases h.cases

pub branches_sized : (l : Lines) (z : Sizes) → IsSized l z → (times : Option Times) (Γ : Sorts) (ρ : Indices) → controls_of_branches (copied branches_then no_branch times Γ ρ l.branches) ≡ times_of times * z.branches
branches_sized l z h times Γ ρ = copied_size branches_then no_branch controls_of_branches controls-branches_then refl times Γ ρ l.branches z.branches h.branches

parts_sized : (l : Lines) (z : Sizes) → IsSized l z → (times : Option Times) (Γ : Sorts) (ρ : Indices) → controls_of_all (copied trees_then no_tree times Γ ρ (as_parts l)) ≡ times_of times * z.parts 0
parts_sized l z h times Γ ρ = copied_size trees_then no_tree controls_of_all controls-trees_then refl times Γ ρ (as_parts l) (z.parts 0) (λ Δ σ. h.parts Δ Δ [] σ)

construct_sized : (g : Group) (times : Option Times) (l : Lines) (z : Sizes) → IsSized l z → (Γ : Sorts) (ρ : Indices) → controls (construct g times l Γ ρ) ≡ construct_size g times z
construct_sized word.Seq times l z h Γ ρ = ap (λ n. 1 + n) (parts_sized l z h times Γ ρ)
construct_sized word.Par times l z h Γ ρ = ap (λ n. 1 + n) (parts_sized l z h times Γ ρ)
construct_sized word.If times l z h Γ ρ = ap (λ n. 1 + n) (cases_sized l z h times Γ ρ)
construct_sized word.Alt times l z h Γ ρ = ap (λ n. 1 + n) (branches_sized l z h times Γ ρ)

process_sized : (N : Numbers) (s : Shape) (l : Lines) (z : Sizes) → IsSized l z → (Γ : Sorts) (ρ : Indices) → controls (process N s l Γ ρ) ≡ process_size s z
process_sized N (line.header name params) l z h Γ ρ = refl
process_sized N line.close l z h Γ ρ = refl
process_sized N line.skip l z h Γ ρ = refl
process_sized N line.stop l z h Γ ρ = refl
process_sized N (line.assign xs es) l z h Γ ρ = refl
process_sized N (line.receive c x) l z h Γ ρ = refl
process_sized N (line.send c e) l z h Γ ρ = refl
process_sized N (line.group g times) l z h Γ ρ = construct_sized g times l z h Γ ρ
process_sized N (line.declare kind ds) l z h Γ ρ = refl
process_sized N (line.condition e) l z h Γ ρ = refl
process_sized N (line.guard e w) l z h Γ ρ = refl
process_sized N line.nothing l z h Γ ρ = refl

pub length-all_named : (N : Numbers) (kind : Kind) (ds : List Declared) → length (all_named N kind ds) ≡ names_in ds
length-all_named N kind [] = refl
length-all_named N kind (d ∷ ds) =
    length-append (named N kind d) (all_named N kind ds)
    ∙ ap (λ n. n + length (all_named N kind ds)) (length-map (places d) (λ p. (record { 0 = N p.name p.element }, kind)))
    ∙ ap (λ n. length (places d) + n) (length-all_named N kind ds)
    ∙ sym (length-append (places d) (flat_map places ds))

waiting_longer : (N : Numbers) (kind : Kind) (ds : List Declared) (waiting : List (Name × Kind)) → length (waiting ++ all_named N kind ds) ≡ length waiting + names_in ds
waiting_longer N kind ds waiting = length-append waiting (all_named N kind ds) ∙ ap (λ n. length waiting + n) (length-all_named N kind ds)

slot_sized : (l : Lines) (z : Sizes) → IsSized l z → (Γ : Sorts) (ρ : Indices) → controls (slot l Γ ρ) ≡ z.first 0
slot_sized l z h Γ ρ = h.first Γ Γ [] ρ

parts_line_sized : (N : Numbers) (s : Shape) (l rest : Lines) (z zr : Sizes) → IsSized l z → IsSized rest zr → (outer Γ : Sorts) (waiting : List (Name × Kind)) (ρ : Indices)
    → controls_of_all (part_line N s l rest outer Γ waiting ρ) ≡ parts_size s z zr (length waiting)
parts_line_sized N s l rest z zr h hr outer Γ waiting ρ = ⊎_elim
    (λ (other : is_declaration s ≡ false).
    ap controls_of_all (part_other N s l rest outer Γ waiting ρ other)
    ∙ omega (arith, controls-declaring_all waiting (process N s l Γ ρ), process_sized N s l z h Γ ρ, hr.parts outer outer [] ρ, parts_size_other s z zr (length waiting) other))
    (λ (d : (kind : Kind) × (ds : List Declared) × (s ≡ line.declare kind ds)).
    ap (λ s'. controls_of_all (part_line N s' l rest outer Γ waiting ρ)) d.2
    ∙ hr.parts outer (declared_in Γ (entries_of d.0 d.1)) (waiting ++ all_named N d.0 d.1) ρ
    ∙ ap zr.parts (waiting_longer N d.0 d.1 waiting)
    ∙ sym (ap (λ s'. parts_size s' z zr (length waiting)) d.2))
    (declaration_or_other s)

first_line_sized : (N : Numbers) (s : Shape) (l rest : Lines) (z zr : Sizes) → IsSized l z → IsSized rest zr → (outer Γ : Sorts) (waiting : List (Name × Kind)) (ρ : Indices)
    → controls (first_tree (part_line N s l rest outer Γ waiting ρ)) ≡ first_size s z zr (length waiting)
first_line_sized N s l rest z zr h hr outer Γ waiting ρ = ⊎_elim
    (λ (other : is_declaration s ≡ false).
    ap (λ ps. controls (first_tree ps)) (part_other N s l rest outer Γ waiting ρ other)
    ∙ omega (arith, controls-declaring_all waiting (process N s l Γ ρ), process_sized N s l z h Γ ρ, first_size_other s z zr (length waiting) other))
    (λ (d : (kind : Kind) × (ds : List Declared) × (s ≡ line.declare kind ds)).
    ap (λ s'. controls (first_tree (part_line N s' l rest outer Γ waiting ρ))) d.2
    ∙ hr.first outer (declared_in Γ (entries_of d.0 d.1)) (waiting ++ all_named N d.0 d.1) ρ
    ∙ ap zr.first (waiting_longer N d.0 d.1 waiting)
    ∙ sym (ap (λ s'. first_size s' z zr (length waiting)) d.2))
    (declaration_or_other s)

nested_cases_sized : (g : Group) (times : Option Times) (l : Lines) (z : Sizes) → IsSized l z → (Γ : Sorts) (ρ : Indices) → controls_of_cases (nested_cases g times l Γ ρ) ≡ nested_cases_size g times z
nested_cases_sized word.Seq times l z h Γ ρ = refl
nested_cases_sized word.Par times l z h Γ ρ = refl
nested_cases_sized word.If times l z h Γ ρ = cases_sized l z h times Γ ρ
nested_cases_sized word.Alt times l z h Γ ρ = refl

nested_branches_sized : (g : Group) (times : Option Times) (l : Lines) (z : Sizes) → IsSized l z → (Γ : Sorts) (ρ : Indices) → controls_of_branches (nested_branches g times l Γ ρ) ≡ nested_branches_size g times z
nested_branches_sized word.Seq times l z h Γ ρ = refl
nested_branches_sized word.Par times l z h Γ ρ = refl
nested_branches_sized word.If times l z h Γ ρ = refl
nested_branches_sized word.Alt times l z h Γ ρ = branches_sized l z h times Γ ρ

case_line_sized : (N : Numbers) (s : Shape) (l rest : Lines) (z zr : Sizes) → IsSized l z → IsSized rest zr → (Γ : Sorts) (ρ : Indices)
    → controls_of_cases (case_line N s l rest Γ ρ) ≡ case_size s z + zr.cases
case_line_sized N (line.header name params) l rest z zr h hr Γ ρ = omega (arith, hr.cases Γ ρ)
case_line_sized N line.close l rest z zr h hr Γ ρ = omega (arith, hr.cases Γ ρ)
case_line_sized N line.skip l rest z zr h hr Γ ρ = omega (arith, hr.cases Γ ρ)
case_line_sized N line.stop l rest z zr h hr Γ ρ = omega (arith, hr.cases Γ ρ)
case_line_sized N (line.assign xs es) l rest z zr h hr Γ ρ = omega (arith, hr.cases Γ ρ)
case_line_sized N (line.receive c x) l rest z zr h hr Γ ρ = omega (arith, hr.cases Γ ρ)
case_line_sized N (line.send c e) l rest z zr h hr Γ ρ = omega (arith, hr.cases Γ ρ)
case_line_sized N (line.group g times) l rest z zr h hr Γ ρ =
    omega (arith, controls-cases_then (nested_cases g times l Γ ρ) (rest.cases Γ ρ), nested_cases_sized g times l z h Γ ρ, hr.cases Γ ρ)
case_line_sized N (line.declare kind ds) l rest z zr h hr Γ ρ = omega (arith, hr.cases Γ ρ)
case_line_sized N (line.condition e) l rest z zr h hr Γ ρ = omega (arith, slot_sized l z h Γ ρ, hr.cases Γ ρ)
case_line_sized N (line.guard e w) l rest z zr h hr Γ ρ = omega (arith, hr.cases Γ ρ)
case_line_sized N line.nothing l rest z zr h hr Γ ρ = omega (arith, hr.cases Γ ρ)

branch_line_sized : (N : Numbers) (s : Shape) (l rest : Lines) (z zr : Sizes) → IsSized l z → IsSized rest zr → (Γ : Sorts) (ρ : Indices)
    → controls_of_branches (branch_line N s l rest Γ ρ) ≡ branch_size s z + zr.branches
branch_line_sized N (line.header name params) l rest z zr h hr Γ ρ = omega (arith, hr.branches Γ ρ)
branch_line_sized N line.close l rest z zr h hr Γ ρ = omega (arith, hr.branches Γ ρ)
branch_line_sized N line.skip l rest z zr h hr Γ ρ = omega (arith, hr.branches Γ ρ)
branch_line_sized N line.stop l rest z zr h hr Γ ρ = omega (arith, hr.branches Γ ρ)
branch_line_sized N (line.assign xs es) l rest z zr h hr Γ ρ = omega (arith, hr.branches Γ ρ)
branch_line_sized N (line.receive c x) l rest z zr h hr Γ ρ = omega (arith, slot_sized l z h Γ ρ, hr.branches Γ ρ)
branch_line_sized N (line.send c e) l rest z zr h hr Γ ρ = omega (arith, slot_sized l z h Γ ρ, hr.branches Γ ρ)
branch_line_sized N (line.group g times) l rest z zr h hr Γ ρ =
    omega (arith, controls-branches_then (nested_branches g times l Γ ρ) (rest.branches Γ ρ), nested_branches_sized g times l z h Γ ρ, hr.branches Γ ρ)
branch_line_sized N (line.declare kind ds) l rest z zr h hr Γ ρ = omega (arith, hr.branches Γ ρ)
branch_line_sized N (line.condition e) l rest z zr h hr Γ ρ = omega (arith, hr.branches Γ ρ)
branch_line_sized N (line.guard e w) l rest z zr h hr Γ ρ = omega (arith, slot_sized l z h Γ ρ, hr.branches Γ ρ)
branch_line_sized N line.nothing l rest z zr h hr Γ ρ = omega (arith, hr.branches Γ ρ)

pub sized : (N : Numbers) (f : Forest) → IsSized (unrolled N f) (sizes f)
sized N no_line = record { parts = λ outer Γ waiting ρ. refl; first = λ outer Γ waiting ρ. refl; cases = λ Γ ρ. refl; branches = λ Γ ρ. refl }
sized N (and_line number s below rest) =
    let h = sized N below in
    let hr = sized N rest in
    record {
      parts = parts_line_sized N s (unrolled N below) (unrolled N rest) (sizes below) (sizes rest) h hr;
      first = first_line_sized N s (unrolled N below) (unrolled N rest) (sizes below) (sizes rest) h hr;
      cases = case_line_sized N s (unrolled N below) (unrolled N rest) (sizes below) (sizes rest) h hr;
      branches = branch_line_sized N s (unrolled N below) (unrolled N rest) (sizes below) (sizes rest) h hr;
    }

-- the controls of a slot's process are counted on its lines
pub slot_process_size : (N : Numbers) (Γ : Sorts) (f : Forest) → controls (slot_process N Γ f) ≡ (sizes f).first 0
slot_process_size N Γ f = (sized N f).first Γ Γ [] (λ i. 0)
