-- What lines stand for, piece by piece.
use Rattle.std.proofs.Common.{◌≡◌, ℕ, suc, ◌+◌, ◌-◌, ◌*◌, ◌<◌, ◌≤◌, true, false, List, [], ◌∷◌, ◌++◌, length, drop, Option, Some, refl, ap, sym, subst, ◌∙◌, arith, length-append}
use Rattle.std.proofs.Math.Seq.{drop-append_seam}
use Rattle.occ_syntax.specs.occ_base.declared.names.Name.{Name}
use Rattle.occ_syntax.specs.declared.expr.Expr.{Expr}
use Rattle.occ_syntax.specs.declared.expr.Guard.{Guard}
use Rattle.occ_syntax.specs.declared.proc.Proc.{Proc, Skip, Seq, Par, If, Alt}
use Rattle.occ_syntax.specs.declared.proc.Procs.{Procs}
use Rattle.occ_syntax.specs.declared.proc.Choices.{Choices}
use Rattle.occ_syntax.specs.declared.proc.Alternatives.{Alternatives}
use Rattle.occ_syntax.proofs.Views.{tree-Seq, tree-Par, tree-If, tree-Alt}
use Rattle.occ_syntax.specs.declared.scope.Kind.{Kind}
use Rattle.occ_syntax.specs.Tree.{Tree, skip, seq, par, select, alt, Trees, no_tree, and_tree, Cases, no_case, and_case, Branches, no_branch, and_branch}
use Rattle.occ_syntax.specs.View.{exp, waiting, tree, trees, cases, branches, in_procs, in_choices, in_alternatives}
use Rattle.occ_syntax.specs.Declarations.{declaring_all}
use Rattle.occ_syntax.specs.Counts.{controls_of_cases, controls_of_branches}
use Rattle.occ_parse_forms.specs.declared.form.Declared.{Declared}
use Rattle.occ_parse_forms.specs.declared.form.Group.{Group}
use Rattle.occ_parse_forms.specs.declared.form.Group.TheVariants as word
use Rattle.occ_parse_forms.specs.declared.form.Times.{Times}
use Rattle.occ_parse_forms.specs.Shape.{Shape, Said}
use Rattle.occ_parse_forms.specs.Shape as line
use Rattle.occ_parse_rules.specs.declared.sort.Entry.{Entry}
use Rattle.occ_parse_rules.specs.Forest.{Forest, and_line}
use Rattle.occ_parse_rules.specs.Places.{Sorts, Indices, declared_in, entries_of, counter_of, with_index, numbers_from}
use Rattle.occ_parse_rules.specs.Unrolled.{Numbers, Lines, no_lines, condition, all_named, trees_then, cases_then, branches_then, copies, copied, as_parts, slot, construct, process, part_line, case_line, branch_line, unrolled, times_of}
use Rattle.occ_parse_unroll.specs.declared.values.Present.{Present}
use Rattle.occ_parse_unroll.specs.Guards.{guard_condition, guard_wait}
use Rattle.occ_parse_unroll.specs.Present.{values_of, present}
use Rattle.occ_parse_unroll.specs.Reading.{is_declaration, is_condition, is_guard, begins}
use Rattle.occ_parse_unroll.specs.Sizes.{sizes}
use Rattle.occ_parse_unroll.proofs.Others.{part_other}
use Rattle.occ_parse_unroll.proofs.Sized.{sized, cases_sized, branches_sized}

-- ---- lists of parts

pub trees_then-none : (a : Trees) → trees_then a no_tree ≡ a
trees_then-none no_tree = refl
trees_then-none (and_tree p ps) = ap (and_tree p) (trees_then-none ps)

pub trees_then-assoc : (a b c : Trees) → trees_then (trees_then a b) c ≡ trees_then a (trees_then b c)
trees_then-assoc no_tree b c = refl
trees_then-assoc (and_tree p ps) b c = ap (and_tree p) (trees_then-assoc ps b c)

pub trees_push : (xs : List Proc) (p : Proc) (r : Trees) → trees_then (trees (xs ++ p ∷ [])) r ≡ trees_then (trees xs) (and_tree (tree p) r)
trees_push [] p r = refl
trees_push (x ∷ xs) p r = ap (and_tree (tree x)) (trees_push xs p r)

pub cases_then-none : (a : Cases) → cases_then a no_case ≡ a
cases_then-none no_case = refl
cases_then-none (and_case e p ps) = ap (and_case e p) (cases_then-none ps)

pub cases_then-assoc : (a b c : Cases) → cases_then (cases_then a b) c ≡ cases_then a (cases_then b c)
cases_then-assoc no_case b c = refl
cases_then-assoc (and_case e p ps) b c = ap (and_case e p) (cases_then-assoc ps b c)

pub cases_push : (xs : List (Expr × Proc)) (p : Expr × Proc) (r : Cases) → cases_then (cases (xs ++ p ∷ [])) r ≡ cases_then (cases xs) (and_case (exp p.0) (tree p.1) r)
cases_push [] p r = refl
cases_push (x ∷ xs) p r = ap (and_case (exp x.0) (tree x.1)) (cases_push xs p r)

pub branches_then-none : (a : Branches) → branches_then a no_branch ≡ a
branches_then-none no_branch = refl
branches_then-none (and_branch e w p ps) = ap (and_branch e w p) (branches_then-none ps)

pub branches_then-assoc : (a b c : Branches) → branches_then (branches_then a b) c ≡ branches_then a (branches_then b c)
branches_then-assoc no_branch b c = refl
branches_then-assoc (and_branch e w p ps) b c = ap (and_branch e w p) (branches_then-assoc ps b c)

pub branches_push : (xs : List (Guard × Proc)) (p : Guard × Proc) (r : Branches) → branches_then (branches (xs ++ p ∷ [])) r ≡ branches_then (branches xs) (and_branch (exp p.0.condition) (waiting p.0.wait) (tree p.1) r)
branches_push [] p r = refl
branches_push (x ∷ xs) p r = ap (and_branch (exp x.0.condition) (waiting x.0.wait) (tree x.1)) (branches_push xs p r)

-- ---- one line

-- what a line gives among choices comes in front of what the others give
case_split : (N : Numbers) (s : Shape) (below rest : Lines) (Γ : Sorts) (ρ : Indices) → case_line N s below rest Γ ρ ≡ cases_then (case_line N s below no_lines Γ ρ) (rest.cases Γ ρ)
case_split N (line.header name params) below rest Γ ρ = refl
case_split N line.close below rest Γ ρ = refl
case_split N line.skip below rest Γ ρ = refl
case_split N line.stop below rest Γ ρ = refl
case_split N (line.assign xs es) below rest Γ ρ = refl
case_split N (line.receive c x) below rest Γ ρ = refl
case_split N (line.send c e) below rest Γ ρ = refl
case_split N (line.group g times) below rest Γ ρ = ap (λ cs. cases_then cs (rest.cases Γ ρ)) (sym (cases_then-none _))
case_split N (line.declare kind ds) below rest Γ ρ = refl
case_split N (line.condition e) below rest Γ ρ = refl
case_split N (line.guard e w) below rest Γ ρ = refl
case_split N line.nothing below rest Γ ρ = refl

branch_split : (N : Numbers) (s : Shape) (below rest : Lines) (Γ : Sorts) (ρ : Indices) → branch_line N s below rest Γ ρ ≡ branches_then (branch_line N s below no_lines Γ ρ) (rest.branches Γ ρ)
branch_split N (line.header name params) below rest Γ ρ = refl
branch_split N line.close below rest Γ ρ = refl
branch_split N line.skip below rest Γ ρ = refl
branch_split N line.stop below rest Γ ρ = refl
branch_split N (line.assign xs es) below rest Γ ρ = refl
branch_split N (line.receive c x) below rest Γ ρ = refl
branch_split N (line.send c e) below rest Γ ρ = refl
branch_split N (line.group g times) below rest Γ ρ = ap (λ cs. branches_then cs (rest.branches Γ ρ)) (sym (branches_then-none _))
branch_split N (line.declare kind ds) below rest Γ ρ = refl
branch_split N (line.condition e) below rest Γ ρ = refl
branch_split N (line.guard e w) below rest Γ ρ = refl
branch_split N line.nothing below rest Γ ρ = refl

-- a line that is no choice gives none
pub no_choice : (N : Numbers) (s : Shape) (below : Lines) (Γ : Sorts) (ρ : Indices) → is_condition s ≡ false → begins word.If s ≡ false → case_line N s below no_lines Γ ρ ≡ no_case
no_choice N (line.header name params) below Γ ρ h b = refl
no_choice N line.close below Γ ρ h b = refl
no_choice N line.skip below Γ ρ h b = refl
no_choice N line.stop below Γ ρ h b = refl
no_choice N (line.assign xs es) below Γ ρ h b = refl
no_choice N (line.receive c x) below Γ ρ h b = refl
no_choice N (line.send c e) below Γ ρ h b = refl
no_choice N (line.group word.Seq times) below Γ ρ h b = refl
no_choice N (line.group word.Par times) below Γ ρ h b = refl
no_choice N (line.group word.If times) below Γ ρ h b = cc
no_choice N (line.group word.Alt times) below Γ ρ h b = refl
no_choice N (line.declare kind ds) below Γ ρ h b = refl
no_choice N (line.condition e) below Γ ρ h b = cc
no_choice N (line.guard e w) below Γ ρ h b = refl
no_choice N line.nothing below Γ ρ h b = refl

pub no_alternative : (N : Numbers) (s : Shape) (below : Lines) (Γ : Sorts) (ρ : Indices) → is_guard s ≡ false → begins word.Alt s ≡ false → branch_line N s below no_lines Γ ρ ≡ no_branch
no_alternative N (line.header name params) below Γ ρ h b = refl
no_alternative N line.close below Γ ρ h b = refl
no_alternative N line.skip below Γ ρ h b = refl
no_alternative N line.stop below Γ ρ h b = refl
no_alternative N (line.assign xs es) below Γ ρ h b = refl
no_alternative N (line.receive c x) below Γ ρ h b = cc
no_alternative N (line.send c e) below Γ ρ h b = cc
no_alternative N (line.group word.Seq times) below Γ ρ h b = refl
no_alternative N (line.group word.Par times) below Γ ρ h b = refl
no_alternative N (line.group word.If times) below Γ ρ h b = refl
no_alternative N (line.group word.Alt times) below Γ ρ h b = cc
no_alternative N (line.declare kind ds) below Γ ρ h b = refl
no_alternative N (line.condition e) below Γ ρ h b = refl
no_alternative N (line.guard e w) below Γ ρ h b = cc
no_alternative N line.nothing below Γ ρ h b = refl

guard_line : (N : Numbers) (s : Shape) (below : Lines) (Γ : Sorts) (ρ : Indices) → is_guard s ≡ true → branch_line N s below no_lines Γ ρ ≡ and_branch (guard_condition N Γ ρ s) (guard_wait N Γ ρ s) (slot below Γ ρ) no_branch
guard_line N (line.header name params) below Γ ρ h = cc
guard_line N line.close below Γ ρ h = cc
guard_line N line.skip below Γ ρ h = cc
guard_line N line.stop below Γ ρ h = cc
guard_line N (line.assign xs es) below Γ ρ h = cc
guard_line N (line.receive c x) below Γ ρ h = refl
guard_line N (line.send c e) below Γ ρ h = refl
guard_line N (line.group g times) below Γ ρ h = cc
guard_line N (line.declare kind ds) below Γ ρ h = cc
guard_line N (line.condition e) below Γ ρ h = cc
guard_line N (line.guard e w) below Γ ρ h = refl
guard_line N line.nothing below Γ ρ h = cc

-- a choice that is added
pub one_choice : (N : Numbers) (s : Shape) (below : Lines) (Γ : Sorts) (ρ : Indices) (e : Said) (xs ys : List (Expr × Proc)) (c : Expr) (p : Proc)
    → s ≡ line.condition e → exp c ≡ condition N Γ ρ e → tree p ≡ slot below Γ ρ → ys ≡ xs ++ (c, p) ∷ []
    → cases ys ≡ cases_then (cases xs) (case_line N s below no_lines Γ ρ)
one_choice N s below Γ ρ e xs ys c p d f g h =
    ap cases h
    ∙ sym (cases_then-none (cases (xs ++ (c, p) ∷ [])))
    ∙ cases_push xs (c, p) no_case
    ∙ ap (λ a. cases_then (cases xs) (and_case a (tree p) no_case)) f
    ∙ ap (λ a. cases_then (cases xs) (and_case (condition N Γ ρ e) a no_case)) g
    ∙ sym (ap (λ s'. cases_then (cases xs) (case_line N s' below no_lines Γ ρ)) d)

pub one_alternative : (N : Numbers) (s : Shape) (below : Lines) (Γ : Sorts) (ρ : Indices) (xs ys : List (Guard × Proc)) (g : Guard) (p : Proc)
    → is_guard s ≡ true → exp g.condition ≡ guard_condition N Γ ρ s → waiting g.wait ≡ guard_wait N Γ ρ s → tree p ≡ slot below Γ ρ → ys ≡ xs ++ (g, p) ∷ []
    → branches ys ≡ branches_then (branches xs) (branch_line N s below no_lines Γ ρ)
one_alternative N s below Γ ρ xs ys g p d e w q h =
    ap branches h
    ∙ sym (branches_then-none (branches (xs ++ (g, p) ∷ [])))
    ∙ branches_push xs (g, p) no_branch
    ∙ ap (λ a. branches_then (branches xs) (and_branch a (waiting g.wait) (tree p) no_branch)) e
    ∙ ap (λ a. branches_then (branches xs) (and_branch (guard_condition N Γ ρ s) a (tree p) no_branch)) w
    ∙ ap (λ a. branches_then (branches xs) (and_branch (guard_condition N Γ ρ s) (guard_wait N Γ ρ s) a no_branch)) q
    ∙ sym (ap (branches_then (branches xs)) (guard_line N s below Γ ρ d))

-- a nested IF among choices, and a nested ALT among alternatives
pub nested_choices : (N : Numbers) (s : Shape) (below : Lines) (Γ : Sorts) (ρ : Indices) (times : Option Times) (a b : Cases) → s ≡ line.group word.If times
    → b ≡ cases_then a (copied cases_then no_case times Γ ρ below.cases) → b ≡ cases_then a (case_line N s below no_lines Γ ρ)
nested_choices N s below Γ ρ times a b d h =
    h ∙ ap (cases_then a) (sym (cases_then-none _)) ∙ sym (ap (λ s'. cases_then a (case_line N s' below no_lines Γ ρ)) d)

pub nested_alternatives : (N : Numbers) (s : Shape) (below : Lines) (Γ : Sorts) (ρ : Indices) (times : Option Times) (a b : Branches) → s ≡ line.group word.Alt times
    → b ≡ branches_then a (copied branches_then no_branch times Γ ρ below.branches) → b ≡ branches_then a (branch_line N s below no_lines Γ ρ)
nested_alternatives N s below Γ ρ times a b d h =
    h ∙ ap (branches_then a) (sym (branches_then-none _)) ∙ sym (ap (λ s'. branches_then a (branch_line N s' below no_lines Γ ρ)) d)

-- ---- one line more

module _ (N : Numbers) (f : Forest) (number : ℕ) (s : Shape) (below rest : Forest) (e : f ≡ and_line number s below rest) where
  pub parts_behind : (kind : Kind) (ds : List Declared) (outer Γ Δ : Sorts) (W V : List (Name × Kind)) (ρ : Indices) → s ≡ line.declare kind ds
      → Δ ≡ declared_in Γ (entries_of kind ds) → V ≡ W ++ all_named N kind ds
      → (unrolled N rest).parts outer Δ V ρ ≡ (unrolled N f).parts outer Γ W ρ
  parts_behind kind ds outer Γ Δ W V ρ d p q =
      ap (λ x. (unrolled N rest).parts outer x V ρ) p
      ∙ ap (λ x. (unrolled N rest).parts outer (declared_in Γ (entries_of kind ds)) x ρ) q
      ∙ sym (ap (λ g. (unrolled N g).parts outer Γ W ρ) e ∙ ap (λ s'. part_line N s' (unrolled N below) (unrolled N rest) outer Γ W ρ) d)

  parts_here : (outer Γ : Sorts) (W : List (Name × Kind)) (ρ : Indices) → is_declaration s ≡ false
      → (unrolled N f).parts outer Γ W ρ ≡ and_tree (declaring_all W (process N s (unrolled N below) Γ ρ)) ((unrolled N rest).parts outer outer [] ρ)
  parts_here outer Γ W ρ d = ap (λ g. (unrolled N g).parts outer Γ W ρ) e ∙ part_other N s (unrolled N below) (unrolled N rest) outer Γ W ρ d

  pub part_more : (outer Γ : Sorts) (W : List (Name × Kind)) (ρ : Indices) (xs ys : List Proc) (q : Proc) (p : Tree) (total : Trees) → is_declaration s ≡ false
      → p ≡ process N s (unrolled N below) Γ ρ → tree q ≡ declaring_all W p → ys ≡ xs ++ q ∷ []
      → trees_then (trees xs) ((unrolled N f).parts outer Γ W ρ) ≡ total
      → trees_then (trees ys) ((unrolled N rest).parts outer outer [] ρ) ≡ total
  part_more outer Γ W ρ xs ys q p total d h g l t =
      let others = (unrolled N rest).parts outer outer [] ρ in
      ap (λ zs. trees_then (trees zs) others) l
      ∙ trees_push xs q others
      ∙ ap (λ x. trees_then (trees xs) (and_tree x others)) (g ∙ ap (declaring_all W) h)
      ∙ sym (ap (trees_then (trees xs)) (parts_here outer Γ W ρ d))
      ∙ t

  pub choice_more : (Γ Γ' : Sorts) (us us' : List Present) (a b total : Cases) → Γ' ≡ Γ → us' ≡ us
      → b ≡ cases_then a (case_line N s (unrolled N below) no_lines Γ' (values_of us'))
      → cases_then a ((unrolled N f).cases Γ (values_of us)) ≡ total → cases_then b ((unrolled N rest).cases Γ (values_of us)) ≡ total
  choice_more Γ Γ' us us' a b total g u h t =
      let ρ = values_of us in
      let others = (unrolled N rest).cases Γ ρ in
      let here : b ≡ cases_then a (case_line N s (unrolled N below) no_lines Γ ρ) =
      h ∙ ap (λ Θ. cases_then a (case_line N s (unrolled N below) no_lines Θ (values_of us'))) g
      ∙ ap (λ vs. cases_then a (case_line N s (unrolled N below) no_lines Γ (values_of vs))) u in
      ap (λ x. cases_then x others) here
      ∙ cases_then-assoc a (case_line N s (unrolled N below) no_lines Γ ρ) others
      ∙ ap (cases_then a) (sym (ap (λ g'. (unrolled N g').cases Γ ρ) e ∙ case_split N s (unrolled N below) (unrolled N rest) Γ ρ))
      ∙ t

  pub alternative_more : (Γ Γ' : Sorts) (us us' : List Present) (a b total : Branches) → Γ' ≡ Γ → us' ≡ us
      → b ≡ branches_then a (branch_line N s (unrolled N below) no_lines Γ' (values_of us'))
      → branches_then a ((unrolled N f).branches Γ (values_of us)) ≡ total → branches_then b ((unrolled N rest).branches Γ (values_of us)) ≡ total
  alternative_more Γ Γ' us us' a b total g u h t =
      let ρ = values_of us in
      let others = (unrolled N rest).branches Γ ρ in
      let here : b ≡ branches_then a (branch_line N s (unrolled N below) no_lines Γ ρ) =
      h ∙ ap (λ Θ. branches_then a (branch_line N s (unrolled N below) no_lines Θ (values_of us'))) g
      ∙ ap (λ vs. branches_then a (branch_line N s (unrolled N below) no_lines Γ (values_of vs))) u in
      ap (λ x. branches_then x others) here
      ∙ branches_then-assoc a (branch_line N s (unrolled N below) no_lines Γ ρ) others
      ∙ ap (branches_then a) (sym (ap (λ g'. (unrolled N g').branches Γ ρ) e ∙ branch_split N s (unrolled N below) (unrolled N rest) Γ ρ))
      ∙ t

-- ---- one copy more

module _ {A : Type 0} (join : A → A → A) (none : A) (joins : (a b c : A) → join (join a b) c ≡ join a (join b c)) (nothing : (a : A) → join a none ≡ a) where
  pub copy_more : (times : Times) (Γ Γ' Δ : Sorts) (us us' vs : List Present) (copy : ℕ) (one : Sorts → Indices → A) (a b total : A)
      → Γ' ≡ Γ → us' ≡ us → Δ ≡ counter_of times ∷ Γ' → vs ≡ present times copy ∷ us' → copy < times.count
      → b ≡ join a (one Δ (values_of vs))
      → join a (copies join none times Γ (values_of us) one (numbers_from (times.base + copy) (times.count - copy))) ≡ total
      → join b (copies join none times Γ (values_of us) one (numbers_from (times.base + (copy + 1)) (times.count - (copy + 1)))) ≡ total
  copy_more times Γ Γ' Δ us us' vs copy one a b total g u d v lt h t =
      let v0 = times.base + copy in
      let left = times.count - (copy + 1) in
      let more : times.count - copy ≡ suc left = omega arith in
      let next : times.base + (copy + 1) ≡ v0 + 1 = omega arith in
      let here = one (counter_of times ∷ Γ) (with_index (values_of us) times.index.0 v0) in
      let others = copies join none times Γ (values_of us) one (numbers_from (v0 + 1) left) in
      let entered : one Δ (values_of vs) ≡ here =
      ap (λ Θ. one Θ (values_of vs)) (d ∙ ap (λ Θ. counter_of times ∷ Θ) g)
      ∙ ap (λ ws. one (counter_of times ∷ Γ) (values_of ws)) (v ∙ ap (λ ws. present times copy ∷ ws) u) in
      ap (λ m. join b (copies join none times Γ (values_of us) one (numbers_from m left))) next
      ∙ ap (λ x. join x others) (h ∙ ap (join a) entered)
      ∙ joins a here others
      ∙ sym (ap (λ n. join a (copies join none times Γ (values_of us) one (numbers_from v0 n))) more)
      ∙ t

  -- behind the last one
  pub copies_done : (times : Times) (Γ : Sorts) (ρ : Indices) (one : Sorts → Indices → A) (a total : A) (copy : ℕ) (wanted : Option Times) → wanted ≡ Some times → times.count ≤ copy
      → join a (copies join none times Γ ρ one (numbers_from (times.base + copy) (times.count - copy))) ≡ join total (copied join none (Some times) Γ ρ one)
      → a ≡ join total (copied join none wanted Γ ρ one)
  copies_done times Γ ρ one a total copy wanted w h t =
      let n : times.count - copy ≡ 0 = omega arith in
      sym (nothing a)
      ∙ sym (ap (λ m. join a (copies join none times Γ ρ one (numbers_from (times.base + copy) m))) n)
      ∙ t
      ∙ sym (ap (λ o. join total (copied join none o Γ ρ one)) w)

-- ---- lines that stand for nothing

no_controls : (cs : Cases) → controls_of_cases cs ≡ 0 → cs ≡ no_case
no_controls no_case h = refl
no_controls (and_case e p cs) h = absurd (omega arith)

no_branch_controls : (bs : Branches) → controls_of_branches bs ≡ 0 → bs ≡ no_branch
no_branch_controls no_branch h = refl
no_branch_controls (and_branch e w p bs) h = absurd (omega arith)

times_nothing : (n m x : ℕ) → m ≡ n * x → x ≡ 0 → m ≡ 0
times_nothing n m x e h = e ∙ ap (λ y. n * y) h ∙ omega arith

pub empty_choices : (N : Numbers) (f : Forest) (times : Option Times) (Γ : Sorts) (ρ : Indices) (a : Cases) → (sizes f).cases ≡ 0
    → a ≡ cases_then a (copied cases_then no_case times Γ ρ (unrolled N f).cases)
empty_choices N f times Γ ρ a h =
    let cs = copied cases_then no_case times Γ ρ (unrolled N f).cases in
    let none : cs ≡ no_case = no_controls cs (times_nothing (times_of times) (controls_of_cases cs) (sizes f).cases (cases_sized (unrolled N f) (sizes f) (sized N f) times Γ ρ) h) in
    sym (ap (cases_then a) none ∙ cases_then-none a)

pub empty_alternatives : (N : Numbers) (f : Forest) (times : Option Times) (Γ : Sorts) (ρ : Indices) (a : Branches) → (sizes f).branches ≡ 0
    → a ≡ branches_then a (copied branches_then no_branch times Γ ρ (unrolled N f).branches)
empty_alternatives N f times Γ ρ a h =
    let bs = copied branches_then no_branch times Γ ρ (unrolled N f).branches in
    let none : bs ≡ no_branch = no_branch_controls bs (times_nothing (times_of times) (controls_of_branches bs) (sizes f).branches (branches_sized (unrolled N f) (sizes f) (sized N f) times Γ ρ) h) in
    sym (ap (branches_then a) none ∙ branches_then-none a)

-- ---- scopes that are closed again

-- a scope that has more entries in front
abbrev pub Widens : Sorts → Sorts → Type 0
Widens outer Γ = (front : List Entry) × (Γ ≡ front ++ outer)

pub widens_same : (Γ : Sorts) → Widens Γ Γ
widens_same Γ = ([], refl)

widens_declared : (outer Γ : Sorts) (es : List Entry) → Widens outer Γ → Widens outer (declared_in Γ es)
widens_declared outer Γ [] h = h
widens_declared outer Γ (entry ∷ es) h = widens_declared outer (entry ∷ Γ) es (entry ∷ h.0, ap (λ Δ. entry ∷ Δ) h.1)

pub widens_behind : (outer Γ Δ : Sorts) (es : List Entry) → Δ ≡ declared_in Γ es → Widens outer Γ → Widens outer Δ
widens_behind outer Γ Δ es e h = subst (Widens outer) (sym e) (widens_declared outer Γ es h)

pub closed : (outer Γ Δ Θ : Sorts) (depth : ℕ) → Widens outer Γ → depth ≡ length outer → Δ ≡ Γ → Θ ≡ drop (length Δ - depth) Δ → Θ ≡ outer
closed outer Γ Δ Θ depth h d e c =
    let whole : Δ ≡ h.0 ++ outer = e ∙ h.1 in
    let n : length Δ - depth ≡ length h.0 = omega (arith, ap length whole, length-append h.0 outer) in
    c ∙ ap (λ m. drop m Δ) n ∙ ap (drop (length h.0)) whole ∙ drop-append_seam h.0 outer

pub left_again : (Γ Δ Θ Ξ : Sorts) (entry : Entry) → Δ ≡ entry ∷ Γ → Θ ≡ Δ → Ξ ≡ drop 1 Θ → Ξ ≡ Γ
left_again Γ Δ Θ Ξ entry d t x = x ∙ ap (drop 1) (t ∙ d)

pub values_again : (us vs ws xs : List Present) (p : Present) → vs ≡ p ∷ us → ws ≡ vs → xs ≡ drop 1 ws → xs ≡ us
values_again us vs ws xs p d t x = x ∙ ap (drop 1) (t ∙ d)

-- ---- constructs

pub seq_of : (parts : Procs) (old : List Proc) (g : Group) (times : Option Times) (l : Lines) (Γ : Sorts) (ρ : Indices) → g ≡ word.Seq → old ≡ []
    → trees (in_procs parts) ≡ trees_then (trees old) (copied trees_then no_tree times Γ ρ (as_parts l)) → tree (Seq parts) ≡ construct g times l Γ ρ
seq_of parts old g times l Γ ρ d o h =
    tree-Seq parts ∙ ap seq (h ∙ ap (λ xs. trees_then (trees xs) (copied trees_then no_tree times Γ ρ (as_parts l))) o) ∙ ap (λ g'. construct g' times l Γ ρ) (sym d)

pub par_of : (parts : Procs) (old : List Proc) (g : Group) (times : Option Times) (l : Lines) (Γ : Sorts) (ρ : Indices) → g ≡ word.Par → old ≡ []
    → trees (in_procs parts) ≡ trees_then (trees old) (copied trees_then no_tree times Γ ρ (as_parts l)) → tree (Par parts) ≡ construct g times l Γ ρ
par_of parts old g times l Γ ρ d o h =
    tree-Par parts ∙ ap par (h ∙ ap (λ xs. trees_then (trees xs) (copied trees_then no_tree times Γ ρ (as_parts l))) o) ∙ ap (λ g'. construct g' times l Γ ρ) (sym d)

pub if_of : (list : Choices) (old : List (Expr × Proc)) (g : Group) (times : Option Times) (l : Lines) (Γ : Sorts) (ρ : Indices) → g ≡ word.If → old ≡ []
    → cases (in_choices list) ≡ cases_then (cases old) (copied cases_then no_case times Γ ρ l.cases) → tree (If list) ≡ construct g times l Γ ρ
if_of list old g times l Γ ρ d o h =
    tree-If list ∙ ap select (h ∙ ap (λ xs. cases_then (cases xs) (copied cases_then no_case times Γ ρ l.cases)) o) ∙ ap (λ g'. construct g' times l Γ ρ) (sym d)

pub alt_of : (list : Alternatives) (old : List (Guard × Proc)) (g : Group) (times : Option Times) (l : Lines) (Γ : Sorts) (ρ : Indices) → g ≡ word.Alt → old ≡ []
    → branches (in_alternatives list) ≡ branches_then (branches old) (copied branches_then no_branch times Γ ρ l.branches) → tree (Alt list) ≡ construct g times l Γ ρ
alt_of list old g times l Γ ρ d o h =
    tree-Alt list ∙ ap alt (h ∙ ap (λ xs. branches_then (branches xs) (copied branches_then no_branch times Γ ρ l.branches)) o) ∙ ap (λ g'. construct g' times l Γ ρ) (sym d)

pub tree-Skip : tree Skip ≡ skip
unfolding tree
tree-Skip = refl
