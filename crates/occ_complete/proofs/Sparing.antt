-- All parts of a SEQ, a PAR, an IF or an ALT replaced by sparing moves.
use Rattle.std.proofs.Common.{◌≡◌, ℕ, zero, suc, List, [], ◌++◌, Some, refl, ap, sym, subst}
use Rattle.std.proofs.lemmas.List.{append-nil}
use Rattle.occ_engine.specs.occ_base.declared.names.Name.{Name}
use Rattle.occ_complete_states.proofs.Leading.{spares_inside, spares_itself, spares_on}
use Rattle.occ_complete_states.specs.Leads.{LeadsSparing}
use Rattle.occ_engine.specs.occ_law.Lists.{all_branches, all_cases}
use Rattle.occ_engine.specs.occ_meaning.Context.{branch_at, case_at, tree_at, with_branch, with_case, with_tree}
use Rattle.occ_engine.specs.occ_meaning.Parallel.{all_of}
use Rattle.occ_engine.specs.occ_syntax.declared.scope.Kind.{Kind}
use Rattle.occ_engine.specs.occ_syntax.Tree.{Branches, Cases, Exp, Tree, Trees, Waiting, alt, and_branch, and_case, and_tree, no_branch, no_case, no_tree, par, select, seq}

here : (S : List (Name × Kind)) {p q : Tree} → LeadsSparing S p q → LeadsSparing (S ++ []) p q
here S {p} {q} a = subst (λ T. LeadsSparing T p q) (sym (append-nil S)) a

-- ---- parts

pub data AllSpare (S : List (Name × Kind)) : Trees → Trees → Type 0 where
  none_spare : AllSpare S no_tree no_tree
  and_spare : {p q : Tree} {ps qs : Trees} → LeadsSparing S p q → AllSpare S ps qs → AllSpare S (and_tree p ps) (and_tree q qs)

abbrev parts_before : Trees → ℕ
parts_before no_tree = zero
parts_before (and_tree p ps) = suc (parts_before ps)

part_there : (front : Trees) (p : Tree) (ps : Trees) → tree_at (all_of front (and_tree p ps)) (parts_before front) ≡ Some p
part_there no_tree p ps = refl
part_there (and_tree r front) p ps = part_there front p ps

part_put : (front : Trees) (p q : Tree) (ps : Trees) → with_tree (all_of front (and_tree p ps)) (parts_before front) q ≡ all_of front (and_tree q ps)
part_put no_tree p q ps = refl
part_put (and_tree r front) p q ps = ap (and_tree r) (part_put front p q ps)

parts_over : (front : Trees) (p : Tree) (ps : Trees) → all_of (all_of front (and_tree p no_tree)) ps ≡ all_of front (and_tree p ps)
parts_over no_tree p ps = refl
parts_over (and_tree r front) p ps = ap (and_tree r) (parts_over front p ps)

seq_goes : (S : List (Name × Kind)) (front : Trees) {ps qs : Trees} → AllSpare S ps qs → LeadsSparing S (seq (all_of front ps)) (seq (all_of front qs))
seq_goes S front none_spare = spares_itself S (seq (all_of front no_tree))
seq_goes S front (and_spare {p} {q} {ps} {qs} a more) =
    spares_on S
    (subst (λ z. LeadsSparing S (seq (all_of front (and_tree p ps))) (seq z)) (part_put front p q ps)
    (spares_inside S (seq (all_of front (and_tree p ps))) (parts_before front) (part_there front p ps) (here S a)))
    (subst (λ z. LeadsSparing S (seq z) (seq (all_of front (and_tree q qs)))) (parts_over front q ps)
    (subst (λ z. LeadsSparing S (seq (all_of (all_of front (and_tree q no_tree)) ps)) (seq z)) (parts_over front q qs) (seq_goes S (all_of front (and_tree q no_tree)) more)))

par_goes : (S : List (Name × Kind)) (front : Trees) {ps qs : Trees} → AllSpare S ps qs → LeadsSparing S (par (all_of front ps)) (par (all_of front qs))
par_goes S front none_spare = spares_itself S (par (all_of front no_tree))
par_goes S front (and_spare {p} {q} {ps} {qs} a more) =
    spares_on S
    (subst (λ z. LeadsSparing S (par (all_of front (and_tree p ps))) (par z)) (part_put front p q ps)
    (spares_inside S (par (all_of front (and_tree p ps))) (parts_before front) (part_there front p ps) (here S a)))
    (subst (λ z. LeadsSparing S (par z) (par (all_of front (and_tree q qs)))) (parts_over front q ps)
    (subst (λ z. LeadsSparing S (par (all_of (all_of front (and_tree q no_tree)) ps)) (par z)) (parts_over front q qs) (par_goes S (all_of front (and_tree q no_tree)) more)))

pub seq_spares : (S : List (Name × Kind)) {ps qs : Trees} → AllSpare S ps qs → LeadsSparing S (seq ps) (seq qs)
seq_spares S a = seq_goes S no_tree a

pub par_spares : (S : List (Name × Kind)) {ps qs : Trees} → AllSpare S ps qs → LeadsSparing S (par ps) (par qs)
par_spares S a = par_goes S no_tree a

-- ---- choices

pub data CasesSpare (S : List (Name × Kind)) : Cases → Cases → Type 0 where
  no_case_spares : CasesSpare S no_case no_case
  and_case_spares : {b : Exp} {p q : Tree} {cs ds : Cases} → LeadsSparing S p q → CasesSpare S cs ds → CasesSpare S (and_case b p cs) (and_case b q ds)

abbrev cases_before : Cases → ℕ
cases_before no_case = zero
cases_before (and_case b p cs) = suc (cases_before cs)

case_there : (front : Cases) (b : Exp) (p : Tree) (cs : Cases) → case_at (all_cases front (and_case b p cs)) (cases_before front) ≡ Some p
case_there no_case b p cs = refl
case_there (and_case c q front) b p cs = case_there front b p cs

case_in_place : (front : Cases) (b : Exp) (p q : Tree) (cs : Cases)
    → with_case (all_cases front (and_case b p cs)) (cases_before front) q ≡ all_cases front (and_case b q cs)
case_in_place no_case b p q cs = refl
case_in_place (and_case c r front) b p q cs = ap (and_case c r) (case_in_place front b p q cs)

choices_over : (front : Cases) (b : Exp) (p : Tree) (cs : Cases) → all_cases (all_cases front (and_case b p no_case)) cs ≡ all_cases front (and_case b p cs)
choices_over no_case b p cs = refl
choices_over (and_case c q front) b p cs = ap (and_case c q) (choices_over front b p cs)

select_goes : (S : List (Name × Kind)) (front : Cases) {cs ds : Cases} → CasesSpare S cs ds → LeadsSparing S (select (all_cases front cs)) (select (all_cases front ds))
select_goes S front no_case_spares = spares_itself S (select (all_cases front no_case))
select_goes S front (and_case_spares {b} {p} {q} {cs} {ds} a more) =
    spares_on S
    (subst (λ z. LeadsSparing S (select (all_cases front (and_case b p cs))) (select z)) (case_in_place front b p q cs)
    (spares_inside S (select (all_cases front (and_case b p cs))) (cases_before front) (case_there front b p cs) (here S a)))
    (subst (λ z. LeadsSparing S (select z) (select (all_cases front (and_case b q ds)))) (choices_over front b q cs)
    (subst (λ z. LeadsSparing S (select (all_cases (all_cases front (and_case b q no_case)) cs)) (select z)) (choices_over front b q ds)
    (select_goes S (all_cases front (and_case b q no_case)) more)))

pub select_spares : (S : List (Name × Kind)) {cs ds : Cases} → CasesSpare S cs ds → LeadsSparing S (select cs) (select ds)
select_spares S a = select_goes S no_case a

-- ---- branches

pub data BranchesSpare (S : List (Name × Kind)) : Branches → Branches → Type 0 where
  no_branch_spares : BranchesSpare S no_branch no_branch
  and_branch_spares : {b : Exp} {w : Waiting} {p q : Tree} {gs hs : Branches} → LeadsSparing S p q → BranchesSpare S gs hs
      → BranchesSpare S (and_branch b w p gs) (and_branch b w q hs)

abbrev branches_before : Branches → ℕ
branches_before no_branch = zero
branches_before (and_branch b w p gs) = suc (branches_before gs)

branch_there : (front : Branches) (b : Exp) (w : Waiting) (p : Tree) (gs : Branches) → branch_at (all_branches front (and_branch b w p gs)) (branches_before front) ≡ Some p
branch_there no_branch b w p gs = refl
branch_there (and_branch c v q front) b w p gs = branch_there front b w p gs

branch_in_place : (front : Branches) (b : Exp) (w : Waiting) (p q : Tree) (gs : Branches)
    → with_branch (all_branches front (and_branch b w p gs)) (branches_before front) q ≡ all_branches front (and_branch b w q gs)
branch_in_place no_branch b w p q gs = refl
branch_in_place (and_branch c v r front) b w p q gs = ap (and_branch c v r) (branch_in_place front b w p q gs)

branches_over : (front : Branches) (b : Exp) (w : Waiting) (p : Tree) (gs : Branches)
    → all_branches (all_branches front (and_branch b w p no_branch)) gs ≡ all_branches front (and_branch b w p gs)
branches_over no_branch b w p gs = refl
branches_over (and_branch c v q front) b w p gs = ap (and_branch c v q) (branches_over front b w p gs)

alt_goes : (S : List (Name × Kind)) (front : Branches) {gs hs : Branches} → BranchesSpare S gs hs → LeadsSparing S (alt (all_branches front gs)) (alt (all_branches front hs))
alt_goes S front no_branch_spares = spares_itself S (alt (all_branches front no_branch))
alt_goes S front (and_branch_spares {b} {w} {p} {q} {gs} {hs} a more) =
    spares_on S
    (subst (λ z. LeadsSparing S (alt (all_branches front (and_branch b w p gs))) (alt z)) (branch_in_place front b w p q gs)
    (spares_inside S (alt (all_branches front (and_branch b w p gs))) (branches_before front) (branch_there front b w p gs) (here S a)))
    (subst (λ z. LeadsSparing S (alt z) (alt (all_branches front (and_branch b w q hs)))) (branches_over front b w q gs)
    (subst (λ z. LeadsSparing S (alt (all_branches (all_branches front (and_branch b w q no_branch)) gs)) (alt z)) (branches_over front b w q hs)
    (alt_goes S (all_branches front (and_branch b w q no_branch)) more)))

pub alt_spares : (S : List (Name × Kind)) {gs hs : Branches} → BranchesSpare S gs hs → LeadsSparing S (alt gs) (alt hs)
alt_spares S a = alt_goes S no_branch a
