-- The types of expressions that are to be compared, in a part that keeps types.
use Rattle.std.proofs.Common.{◌≡◌, ℕ, ◌==◌, true, not, List, [], ◌∷◌, Option, refl, ap, sym, ◌∙◌}
use Rattle.std.specs.List.{list_any}
use Rattle.std.proofs.lemmas.Bool.{and_from, and_parts}
use Rattle.occ_syntax.specs.occ_base.declared.event.Dir.TheVariants.{Output}
use Rattle.occ_syntax.specs.occ_base.declared.width.Width.{Width}
use Rattle.occ_law.proofs.from_meaning.Facts.{agreed, and_four, and_three, false_not_true}
use Rattle.occ_syntax.specs.Scopes.{Environment, allows, channel_width, variable_width}
use Rattle.occ_syntax.specs.Tree.{Exp, Waiting, Tree, Cases, no_case, and_case, Branches, no_branch, and_branch}
use Rattle.occ_syntax.specs.Types.{agree, branches_kept, cases_kept, is_condition, output_kept, pairs_kept, type_of, types_kept, waiting_kept}
use Rattle.occ_law.specs.occ_bits.Named.{are_conditions}
use Rattle.occ_law.specs.Lists.{all_branches, all_cases, conditions}
use Rattle.occ_law_shape.specs.Types.{agree_each}

-- ---- conditions of choices and of branches

-- what a choice and the choices behind it keep
pub case_kept : (Γ : Environment) (b : Exp) (p : Tree) (cs : Cases) → cases_kept (and_case b p cs) Γ ≡ true
    → (is_condition Γ b ≡ true) × (types_kept p Γ ≡ true) × (cases_kept cs Γ ≡ true)
case_kept Γ b p cs h = and_three (is_condition Γ b) (types_kept p Γ) (cases_kept cs Γ) h

-- two lists of choices in one
pub all_cases_kept : (Γ : Environment) (cs ds : Cases) → cases_kept (all_cases cs ds) Γ ≡ true → (cases_kept cs Γ ≡ true) × (cases_kept ds Γ ≡ true)
all_cases_kept Γ no_case ds h = (refl, h)
all_cases_kept Γ (and_case b p cs) ds h =
    let k = case_kept Γ b p (all_cases cs ds) h in
    let r = all_cases_kept Γ cs ds k.2 in
    (and_from _ _ (and_from _ _ k.0 k.1) r.0, r.1)

-- the conditions of choices are conditions
pub conditions_typed : (Γ : Environment) (cs : Cases) → cases_kept cs Γ ≡ true → are_conditions Γ (conditions cs) ≡ true
conditions_typed Γ no_case h = refl
conditions_typed Γ (and_case b p cs) h =
    let k = case_kept Γ b p cs h in
    and_from _ _ k.0 (conditions_typed Γ cs k.2)

-- what a branch and the branches behind it keep
pub branch_kept : (Γ : Environment) (b : Exp) (w : Waiting) (p : Tree) (gs : Branches) → branches_kept (and_branch b w p gs) Γ ≡ true
    → (is_condition Γ b ≡ true) × (waiting_kept Γ w ≡ true) × (types_kept p Γ ≡ true) × (branches_kept gs Γ ≡ true)
branch_kept Γ b w p gs h = and_four (is_condition Γ b) (waiting_kept Γ w) (types_kept p Γ) (branches_kept gs Γ) h

-- two lists of branches in one
pub all_branches_kept : (Γ : Environment) (gs hs : Branches) → branches_kept (all_branches gs hs) Γ ≡ true → (branches_kept gs Γ ≡ true) × (branches_kept hs Γ ≡ true)
all_branches_kept Γ no_branch hs h = (refl, h)
all_branches_kept Γ (and_branch b w p gs) hs h =
    let k = branch_kept Γ b w p (all_branches gs hs) h in
    let r = all_branches_kept Γ gs hs k.3 in
    (and_from _ _ (and_from _ _ (and_from _ _ k.0 k.1) k.2) r.0, r.1)

-- ---- expressions of one type

-- two types that agree with one
agree_through : (a b c : Option Width) → agree a b ≡ true → agree a c ≡ true → agree b c ≡ true
agree_through a b c h k =
    let t = agreed a b h in
    let u = agreed a c k in
    ap (λ o. agree o c) (t.2 ∙ sym t.1) ∙ k

-- the right sides of two assignments to the same variables
pub pairs_agree : (Γ : Environment) (xs : List ℕ) (es fs : List Exp) → pairs_kept Γ xs es ≡ true → pairs_kept Γ xs fs ≡ true → agree_each Γ es fs ≡ true
pairs_agree Γ xs [] fs h k = refl
pairs_agree Γ xs (e ∷ es) [] h k = refl
pairs_agree Γ [] (e ∷ es) (f ∷ fs) h k = false_not_true h
pairs_agree Γ (x ∷ xs) (e ∷ es) (f ∷ fs) h k =
    let i = and_three (agree (variable_width Γ x) (type_of Γ e)) (not (list_any (λ y. x == y) xs)) (pairs_kept Γ xs es) h in
    let j = and_three (agree (variable_width Γ x) (type_of Γ f)) (not (list_any (λ y. x == y) xs)) (pairs_kept Γ xs fs) k in
    and_from _ _ (agree_through (variable_width Γ x) (type_of Γ e) (type_of Γ f) i.0 j.0) (pairs_agree Γ xs es fs i.2 j.2)
