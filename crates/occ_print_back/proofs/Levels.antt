-- What lines stand for is printed on lines no deeper than they are.
use Rattle.std.proofs.Common.{◌≡◌, ℕ, ◌+◌, ◌≤◌, max, true, not, ◌||◌, List, [], ◌∷◌, ◌++◌, Option, Some, None, arith}
use Rattle.std.proofs.lemmas.Bool.{and_parts, false≢true}
use Rattle.occ_print.specs.occ_base.declared.names.Name.{Name}
use Rattle.occ_print.specs.occ_syntax.declared.scope.Kind.{Kind}
use Rattle.occ_print.specs.occ_syntax.declared.scope.Kind.TheVariants as sort
use Rattle.occ_print.specs.occ_syntax.Declarations.{declaring_all}
use Rattle.occ_print.specs.occ_syntax.Tree.{Tree, Trees, no_tree, and_tree, Cases, no_case, and_case, Branches, no_branch, and_branch}
use Rattle.occ_print.specs.occ_parse_forms.declared.form.Group.{Group}
use Rattle.occ_print.specs.occ_parse_forms.declared.form.Group.TheVariants as word
use Rattle.occ_print.specs.occ_parse_forms.declared.form.Times.{Times}
use Rattle.occ_print.specs.occ_parse_forms.Shape.{Shape}
use Rattle.occ_print.specs.occ_parse_forms.Shape as line
use Rattle.occ_parse.specs.occ_parse_rules.Forest.{Forest, no_line, and_line}
use Rattle.occ_parse.specs.occ_parse_rules.Places.{Sorts, Indices, declared_in, entries_of, counter_of, with_index, numbers_from}
use Rattle.occ_parse.specs.occ_parse_rules.Unrolled.{Numbers, Lines, all_named, as_parts, case_line, branch_line, cases_then, branches_then, trees_then, construct, copied, copies, first_tree, nested_branches, nested_cases, part_line, process, slot, unrolled}
use Rattle.occ_print.specs.Lines.{TextLine, part_lines, all_lines, case_lines, branch_lines}
use Rattle.occ_print_back.specs.Back.{deepest}
use Rattle.occ_print_back.proofs.Served.{all_served, has_line, is_message, is_served, messages_are_guards}

-- ---- lines printed one behind another

deepest-append : (xs ys : List TextLine) → deepest (xs ++ ys) ≡ max (deepest xs) (deepest ys)
deepest-append [] ys = omega arith
deepest-append (x ∷ xs) ys = omega (arith, deepest-append xs ys)

both_within : (m : ℕ) (xs ys : List TextLine) → deepest xs ≤ m → deepest ys ≤ m → deepest (xs ++ ys) ≤ m
both_within m xs ys h k = omega (arith, h, k, deepest-append xs ys)

-- a process and all processes of a list stand no deeper than a level
abbrev IsIn : ℕ → ℕ → Tree → Type 0
IsIn m level p = deepest (part_lines level p) ≤ m

abbrev AreIn : ℕ → ℕ → Trees → Type 0
AreIn m level ps = deepest (all_lines level ps) ≤ m

abbrev CasesAreIn : ℕ → ℕ → Cases → Type 0
CasesAreIn m level cs = deepest (case_lines level cs) ≤ m

abbrev BranchesAreIn : ℕ → ℕ → Branches → Type 0
BranchesAreIn m level bs = deepest (branch_lines level bs) ≤ m

trees_in : (m level : ℕ) (ps qs : Trees) → AreIn m level ps → AreIn m level qs → AreIn m level (trees_then ps qs)
trees_in m level no_tree qs h k = k
trees_in m level (and_tree p ps) qs h k =
    let parts = deepest-append (part_lines level p) (all_lines level ps) in
    both_within m (part_lines level p) (all_lines level (trees_then ps qs)) (omega (arith, h, parts)) (trees_in m level ps qs (omega (arith, h, parts)) k)

cases_in : (m level : ℕ) (cs ds : Cases) → CasesAreIn m level cs → CasesAreIn m level ds → CasesAreIn m level (cases_then cs ds)
cases_in m level no_case ds h k = k
cases_in m level (and_case e p cs) ds h k =
    let parts = deepest-append (part_lines (level + 1) p) (case_lines level cs) in
    let others = cases_in m level cs ds (omega (arith, h, parts)) k in
    let all = both_within m (part_lines (level + 1) p) (case_lines level (cases_then cs ds)) (omega (arith, h, parts)) others in
    omega (arith, h, all)

branches_in : (m level : ℕ) (bs ds : Branches) → BranchesAreIn m level bs → BranchesAreIn m level ds → BranchesAreIn m level (branches_then bs ds)
branches_in m level no_branch ds h k = k
branches_in m level (and_branch e w p bs) ds h k =
    let parts = deepest-append (part_lines (level + 1) p) (branch_lines level bs) in
    let others = branches_in m level bs ds (omega (arith, h, parts)) k in
    let all = both_within m (part_lines (level + 1) p) (branch_lines level (branches_then bs ds)) (omega (arith, h, parts)) others in
    omega (arith, h, all)

-- what holds of each copy, and of none, holds of all together
all_copies : {A : Type 0} (join : A → A → A) (none : A) (Holds : A → Type 0) → Holds none → ((a b : A) → Holds a → Holds b → Holds (join a b))
    → (times : Times) (Γ : Sorts) (ρ : Indices) (copy : Sorts → Indices → A) → ((Δ : Sorts) (σ : Indices) → Holds (copy Δ σ)) → (vs : List ℕ)
    → Holds (copies join none times Γ ρ copy vs)
all_copies join none Holds z j times Γ ρ copy h [] = z
all_copies join none Holds z j times Γ ρ copy h (v ∷ vs) =
    j (copy (counter_of times ∷ Γ) (with_index ρ times.index.0 v)) (copies join none times Γ ρ copy vs) (h (counter_of times ∷ Γ) (with_index ρ times.index.0 v))
    (all_copies join none Holds z j times Γ ρ copy h vs)

copied_holds : {A : Type 0} (join : A → A → A) (none : A) (Holds : A → Type 0) → Holds none → ((a b : A) → Holds a → Holds b → Holds (join a b))
    → (times : Option Times) (Γ : Sorts) (ρ : Indices) (copy : Sorts → Indices → A) → ((Δ : Sorts) (σ : Indices) → Holds (copy Δ σ))
    → Holds (copied join none times Γ ρ copy)
copied_holds join none Holds z j None Γ ρ copy h = h Γ ρ
copied_holds join none Holds z j (Some times) Γ ρ copy h = all_copies join none Holds z j times Γ ρ copy h (numbers_from times.base times.count)

-- ---- lines within a level

-- no line of a forest, whose outermost ones stand at a level, is deeper than another
abbrev pub IsWithin : ℕ → ℕ → Forest → Type 0
IsWithin m level no_line = Unit {0}
IsWithin m level (and_line number s below rest) = (level ≤ m) × IsWithin m (level + 1) below × IsWithin m level rest

within_has_line : (m level : ℕ) (f : Forest) → IsWithin m level f → has_line f ≡ true → level ≤ m
within_has_line m level no_line w h = absurd (false≢true h)
within_has_line m level (and_line number s below rest) w h = w.0

-- what lines stand for is printed no deeper
record Stands (m level : ℕ) (f : Forest) (lines : Lines) : Type 0 where
  parts : (outer Γ : Sorts) (waiting : List (Name × Kind)) (ρ : Indices) → AreIn m level (lines.parts outer Γ waiting ρ)
  cases : (Γ : Sorts) (ρ : Indices) → CasesAreIn m level (lines.cases Γ ρ)
  branches : messages_are_guards f ≡ true → (Γ : Sorts) (ρ : Indices) → BranchesAreIn m level (lines.branches Γ ρ)

first_in : (m level : ℕ) (ps : Trees) → level ≤ m → AreIn m level ps → IsIn m level (first_tree ps)
first_in m level no_tree l h = omega (arith, l)
first_in m level (and_tree p ps) l h = omega (arith, h, deepest-append (part_lines level p) (all_lines level ps))

slot_in : (m level : ℕ) (f : Forest) (lines : Lines) → Stands m level f lines → level ≤ m → (Γ : Sorts) (ρ : Indices) → IsIn m level (slot lines Γ ρ)
slot_in m level f lines h l Γ ρ = first_in m level (as_parts lines Γ ρ) l (h.parts Γ Γ [] ρ)

declared_in_level : (m level : ℕ) (ds : List (Name × Kind)) (p : Tree) → level ≤ m → IsIn m level p → IsIn m level (declaring_all ds p)
declared_in_level m level [] p l h = h
declared_in_level m level ((name, sort.Var w) ∷ ds) p l h = omega (arith, l, declared_in_level m level ds p l h)
declared_in_level m level ((name, sort.Chan w mark) ∷ ds) p l h = omega (arith, l, declared_in_level m level ds p l h)

-- ---- one line

construct_in : (m level : ℕ) (f : Forest) (lines : Lines) → level ≤ m → Stands m (level + 1) f lines → (g : Group) (times : Option Times)
    → is_served (line.group g times) f ≡ true → (Γ : Sorts) (ρ : Indices) → IsIn m level (construct g times lines Γ ρ)
construct_in m level f lines l h word.Seq times s Γ ρ =
    let all = copied_holds trees_then no_tree (AreIn m (level + 1)) (omega arith) (trees_in m (level + 1)) times Γ ρ (as_parts lines) (λ Δ σ. h.parts Δ Δ [] σ) in
    omega (arith, l, all)
construct_in m level f lines l h word.Par times s Γ ρ =
    let all = copied_holds trees_then no_tree (AreIn m (level + 1)) (omega arith) (trees_in m (level + 1)) times Γ ρ (as_parts lines) (λ Δ σ. h.parts Δ Δ [] σ) in
    omega (arith, l, all)
construct_in m level f lines l h word.If times s Γ ρ =
    let all = copied_holds cases_then no_case (CasesAreIn m (level + 1)) (omega arith) (cases_in m (level + 1)) times Γ ρ lines.cases h.cases in
    omega (arith, l, all)
construct_in m level f lines l h word.Alt times s Γ ρ =
    let all = copied_holds branches_then no_branch (BranchesAreIn m (level + 1)) (omega arith) (branches_in m (level + 1)) times Γ ρ lines.branches (h.branches s) in
    omega (arith, l, all)

-- what is known of the lines below one at a level: their choices and alternatives may go up to that level
record Below (m level : ℕ) (s : Shape) (f : Forest) (lines : Lines) : Type 0 where
  shallow : level ≤ m
  within : IsWithin m (level + 1) f
  served : is_served s f ≡ true
  under : Stands m (level + 1) f lines
  up : Stands m level f lines

module _ (N : Numbers) (m level : ℕ) (f : Forest) (below : Lines) where
  process_in : (s : Shape) → Below m level s f below → (Γ : Sorts) (ρ : Indices) → IsIn m level (process N s below Γ ρ)
  process_in (line.group g times) h Γ ρ = construct_in m level f below h.shallow h.under g times h.served Γ ρ
  process_in s h Γ ρ = omega (arith, h.shallow)

  nested_cases_in : (g : Group) (times : Option Times) → Below m level (line.group g times) f below → (Γ : Sorts) (ρ : Indices)
      → CasesAreIn m level (nested_cases g times below Γ ρ)
  nested_cases_in word.If times h Γ ρ = copied_holds cases_then no_case (CasesAreIn m level) (omega arith) (cases_in m level) times Γ ρ below.cases h.up.cases
  nested_cases_in g times h Γ ρ = omega arith

  nested_branches_in : (g : Group) (times : Option Times) → Below m level (line.group g times) f below → (Γ : Sorts) (ρ : Indices)
      → BranchesAreIn m level (nested_branches g times below Γ ρ)
  nested_branches_in word.Alt times h Γ ρ = copied_holds branches_then no_branch (BranchesAreIn m level) (omega arith) (branches_in m level) times Γ ρ below.branches (h.up.branches h.served)
  nested_branches_in g times h Γ ρ = omega arith

  -- the process of a choice or an alternative
  option_in : (s : Shape) → Below m level s f below → has_line f ≡ true → (Γ : Sorts) (ρ : Indices) → IsIn m (level + 1) (slot below Γ ρ)
  option_in s h b Γ ρ = slot_in m (level + 1) f below h.under (within_has_line m (level + 1) f h.within b) Γ ρ

  module _ (g : Forest) (rest : Lines) (others : Stands m level g rest) where
    part_in : (s : Shape) → Below m level s f below → (outer Γ : Sorts) (waiting : List (Name × Kind)) (ρ : Indices)
        → AreIn m level (part_line N s below rest outer Γ waiting ρ)
    part_in (line.declare kind ds) h outer Γ waiting ρ = others.parts outer (declared_in Γ (entries_of kind ds)) (waiting ++ all_named N kind ds) ρ
    part_in s h outer Γ waiting ρ =
        both_within m (part_lines level (declaring_all waiting (process N s below Γ ρ))) (all_lines level (rest.parts outer outer [] ρ))
        (declared_in_level m level waiting (process N s below Γ ρ) h.shallow (process_in s h Γ ρ)) (others.parts outer outer [] ρ)

    case_in : (s : Shape) → Below m level s f below → (Γ : Sorts) (ρ : Indices) → CasesAreIn m level (case_line N s below rest Γ ρ)
    case_in (line.condition e) h Γ ρ =
        let l = h.shallow in
        let all = both_within m (part_lines (level + 1) (slot below Γ ρ)) (case_lines level (rest.cases Γ ρ)) (option_in (line.condition e) h h.served Γ ρ) (others.cases Γ ρ) in
        omega (arith, l, all)
    case_in (line.group o times) h Γ ρ =
        cases_in m level (nested_cases o times below Γ ρ) (rest.cases Γ ρ) (nested_cases_in o times h Γ ρ) (others.cases Γ ρ)
    case_in s h Γ ρ = others.cases Γ ρ

    guarded : (s : Shape) → Below m level s f below → has_line f ≡ true → messages_are_guards g ≡ true → (Γ : Sorts) (ρ : Indices)
        → deepest (part_lines (level + 1) (slot below Γ ρ) ++ branch_lines level (rest.branches Γ ρ)) ≤ m
    guarded s h b k Γ ρ =
        both_within m (part_lines (level + 1) (slot below Γ ρ)) (branch_lines level (rest.branches Γ ρ)) (option_in s h b Γ ρ) (others.branches k Γ ρ)

    branch_in : (s : Shape) → Below m level s f below → (not (is_message s) || has_line f) ≡ true → messages_are_guards g ≡ true
        → (Γ : Sorts) (ρ : Indices) → BranchesAreIn m level (branch_line N s below rest Γ ρ)
    branch_in (line.receive c x) h b k Γ ρ = omega (arith, h.shallow, guarded (line.receive c x) h b k Γ ρ)
    branch_in (line.send c e) h b k Γ ρ = omega (arith, h.shallow, guarded (line.send c e) h b k Γ ρ)
    branch_in (line.guard e w) h b k Γ ρ = omega (arith, h.shallow, guarded (line.guard e w) h h.served k Γ ρ)
    branch_in (line.group o times) h b k Γ ρ =
        branches_in m level (nested_branches o times below Γ ρ) (rest.branches Γ ρ) (nested_branches_in o times h Γ ρ) (others.branches k Γ ρ)
    branch_in s h b k Γ ρ = others.branches k Γ ρ

-- ---- all lines

within_up : (m level : ℕ) (f : Forest) → IsWithin m (level + 1) f → IsWithin m level f
within_up m level no_line h = tt
within_up m level (and_line number s below rest) h = (omega (arith, h.0), within_up m (level + 1) below h.1, within_up m level rest h.2)

stands : (N : Numbers) (m level : ℕ) (f : Forest) → IsWithin m level f → all_served f ≡ true → Stands m level f (unrolled N f)
stands N m level no_line w o = record { parts = λ outer Γ waiting ρ. omega arith; cases = λ Γ ρ. omega arith; branches = λ b Γ ρ. omega arith }
stands N m level (and_line number s below rest) w o =
    let here = and_parts _ _ o in
    let deep = and_parts _ _ here.1 in
    let others = stands N m level rest w.2 deep.1 in
    let h : Below m level s below (unrolled N below) = record {
      shallow = w.0;
      within = w.1;
      served = here.0;
      under = stands N m (level + 1) below w.1 deep.0;
      up = stands N m level below (within_up m level below w.1) deep.0;
    } in
    record {
      parts = part_in N m level below (unrolled N below) rest (unrolled N rest) others s h;
      cases = case_in N m level below (unrolled N below) rest (unrolled N rest) others s h;
      branches = λ b. let parts = and_parts _ _ b in branch_in N m level below (unrolled N below) rest (unrolled N rest) others s h parts.0 parts.1;
    }

-- the process of the lines of one slot
pub slot_within : (N : Numbers) (m level : ℕ) (f : Forest) → level ≤ m → IsWithin m level f → all_served f ≡ true → (Γ : Sorts) (ρ : Indices)
    → deepest (part_lines level (slot (unrolled N f) Γ ρ)) ≤ m
slot_within N m level f l w o Γ ρ = slot_in m level f (unrolled N f) (stands N m level f w o) l Γ ρ
