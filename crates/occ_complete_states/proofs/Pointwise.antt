-- IFs and ALTs whose processes lead to those of others.
use Rattle.std.proofs.Common.{◌≡◌, ℕ, zero, suc, List, [], ◌++◌, Some, refl, ap, sym, subst}
use Rattle.std.proofs.lemmas.List.{append-nil}
use Rattle.occ_derive_laws.specs.occ_base.declared.names.Name.{Name}
use Rattle.occ_complete_states.proofs.Leading.{leads_inside, leads_itself, leads_on}
use Rattle.occ_complete_states.specs.Leads.{BranchesLead, CasesLead, Leads, and_branches, and_cases, no_branches, no_cases}
use Rattle.occ_derive_laws.specs.occ_law.Lists.{all_branches, all_cases}
use Rattle.occ_derive_laws.specs.occ_meaning.Context.{branch_at, case_at, with_branch, with_case}
use Rattle.occ_derive_laws.specs.occ_syntax.declared.scope.Kind.{Kind}
use Rattle.occ_derive_laws.specs.occ_syntax.Tree.{Branches, Cases, Exp, Tree, Waiting, alt, and_branch, and_case, no_branch, no_case, select}

here : (S : List (Name × Kind)) {p q : Tree} → Leads S p q → Leads (S ++ []) p q
here S {p} {q} a = subst (λ T. Leads T p q) (sym (append-nil S)) a

-- ---- choices

abbrev how_many : Cases → ℕ
how_many no_case = zero
how_many (and_case b p cs) = suc (how_many cs)

case_behind : (front : Cases) (b : Exp) (p : Tree) (cs : Cases) → case_at (all_cases front (and_case b p cs)) (how_many front) ≡ Some p
case_behind no_case b p cs = refl
case_behind (and_case c q front) b p cs = case_behind front b p cs

case_put : (front : Cases) (b : Exp) (p q : Tree) (cs : Cases)
    → with_case (all_cases front (and_case b p cs)) (how_many front) q ≡ all_cases front (and_case b q cs)
case_put no_case b p q cs = refl
case_put (and_case c r front) b p q cs = ap (and_case c r) (case_put front b p q cs)

cases_over : (front : Cases) (b : Exp) (p : Tree) (cs : Cases)
    → all_cases (all_cases front (and_case b p no_case)) cs ≡ all_cases front (and_case b p cs)
cases_over no_case b p cs = refl
cases_over (and_case c q front) b p cs = ap (and_case c q) (cases_over front b p cs)

cases_go : (S : List (Name × Kind)) (front : Cases) {cs ds : Cases} → CasesLead S cs ds → Leads S (select (all_cases front cs)) (select (all_cases front ds))
cases_go S front no_cases = leads_itself S (select (all_cases front no_case))
cases_go S front (and_cases {b} {p} {q} {cs} {ds} a more) =
    leads_on S
    (subst (λ z. Leads S (select (all_cases front (and_case b p cs))) (select z)) (case_put front b p q cs)
    (leads_inside S (select (all_cases front (and_case b p cs))) (how_many front) refl (case_behind front b p cs) (here S a)))
    (subst (λ z. Leads S (select z) (select (all_cases front (and_case b q ds)))) (cases_over front b q cs)
    (subst (λ z. Leads S (select (all_cases (all_cases front (and_case b q no_case)) cs)) (select z)) (cases_over front b q ds)
    (cases_go S (all_cases front (and_case b q no_case)) more)))

pub cases_lead : (S : List (Name × Kind)) {cs ds : Cases} → CasesLead S cs ds → Leads S (select cs) (select ds)
cases_lead S a = cases_go S no_case a

-- ---- branches

abbrev how_long : Branches → ℕ
how_long no_branch = zero
how_long (and_branch b w p gs) = suc (how_long gs)

branch_behind : (front : Branches) (b : Exp) (w : Waiting) (p : Tree) (gs : Branches) → branch_at (all_branches front (and_branch b w p gs)) (how_long front) ≡ Some p
branch_behind no_branch b w p gs = refl
branch_behind (and_branch c v q front) b w p gs = branch_behind front b w p gs

branch_put : (front : Branches) (b : Exp) (w : Waiting) (p q : Tree) (gs : Branches)
    → with_branch (all_branches front (and_branch b w p gs)) (how_long front) q ≡ all_branches front (and_branch b w q gs)
branch_put no_branch b w p q gs = refl
branch_put (and_branch c v r front) b w p q gs = ap (and_branch c v r) (branch_put front b w p q gs)

branches_over : (front : Branches) (b : Exp) (w : Waiting) (p : Tree) (gs : Branches)
    → all_branches (all_branches front (and_branch b w p no_branch)) gs ≡ all_branches front (and_branch b w p gs)
branches_over no_branch b w p gs = refl
branches_over (and_branch c v q front) b w p gs = ap (and_branch c v q) (branches_over front b w p gs)

branches_go : (S : List (Name × Kind)) (front : Branches) {gs hs : Branches} → BranchesLead S gs hs
    → Leads S (alt (all_branches front gs)) (alt (all_branches front hs))
branches_go S front no_branches = leads_itself S (alt (all_branches front no_branch))
branches_go S front (and_branches {b} {w} {p} {q} {gs} {hs} a more) =
    leads_on S
    (subst (λ z. Leads S (alt (all_branches front (and_branch b w p gs))) (alt z)) (branch_put front b w p q gs)
    (leads_inside S (alt (all_branches front (and_branch b w p gs))) (how_long front) refl (branch_behind front b w p gs) (here S a)))
    (subst (λ z. Leads S (alt z) (alt (all_branches front (and_branch b w q hs)))) (branches_over front b w q gs)
    (subst (λ z. Leads S (alt (all_branches (all_branches front (and_branch b w q no_branch)) gs)) (alt z)) (branches_over front b w q hs)
    (branches_go S (all_branches front (and_branch b w q no_branch)) more)))

pub branches_lead : (S : List (Name × Kind)) {gs hs : Branches} → BranchesLead S gs hs → Leads S (alt gs) (alt hs)
branches_lead S a = branches_go S no_branch a

-- a branch behind some others
pub branch_leads : (S : List (Name × Kind)) (front : Branches) (b : Exp) (w : Waiting) (gs : Branches) {p q : Tree} → Leads S p q
    → Leads S (alt (all_branches front (and_branch b w p gs))) (alt (all_branches front (and_branch b w q gs)))
branch_leads S front b w gs {p} {q} a =
    subst (λ z. Leads S (alt (all_branches front (and_branch b w p gs))) (alt z)) (branch_put front b w p q gs)
    (leads_inside S (alt (all_branches front (and_branch b w p gs))) (how_long front) refl (branch_behind front b w p gs) (here S a))
