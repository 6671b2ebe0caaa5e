-- The place at a path: what is kept there, and what replacing the part there leaves.
-- ---- usage
use Rattle.occ_meaning.proofs.Contexts.{child_types, part_types}
use Rattle.occ_meaning.proofs.Facts.{and_four, and_three, none_not_some, some_is}
use Rattle.occ_meaning.specs.Context.{branch_at, case_at, child, environment_at, environment_below, only_at, part_at, put, tree_at, with_branch, with_case, with_child, with_only, with_tree}
use Rattle.occ_syntax.specs.Scopes.{Environment, with_name}
use Rattle.occ_syntax.specs.Tree.{Branches, Cases, Tree, Trees, alt, and_branch, and_case, and_tree, assign, connect, declare, no_branch, no_case, no_tree, par, receive, select, send, seq, skip, stop}
use Rattle.occ_syntax.specs.Types.{all_types_kept, branches_kept, can_declare, cases_kept, is_condition, types_kept, waiting_kept}
use Rattle.occ_syntax.specs.Usage.{AllKeepUsage, BranchesKeepUsage, CasesKeepUsage, Keeps, KeepsUsage}
use Rattle.occ_syntax.specs.declared.scope.Kind.TheVariants.{Chan, Var}
use Rattle.std.proofs.Common.{List, None, Option, Some, [], ap, refl, subst, suc, true, zero, ℕ, ◌&&◌, ◌∙◌, ◌∷◌, ◌≡◌}
use Rattle.std.proofs.lemmas.Bool.{and_from, and_parts}
use Rattle.std.specs.Option.{option_and_then, option_map, unwrap_or}

tree_usage : (ps : Trees) → AllKeepUsage ps → (i : ℕ) (q : Tree) → tree_at ps i ≡ Some q → KeepsUsage q
tree_usage no_tree h i q e = none_not_some e
tree_usage (and_tree p ps) h zero q e = let P : Tree → Type 0 = λ z. KeepsUsage z in subst P (some_is e) h.0
tree_usage (and_tree p ps) h (suc i) q e = tree_usage ps h.1 i q e

case_usage : (cs : Cases) → CasesKeepUsage cs → (i : ℕ) (q : Tree) → case_at cs i ≡ Some q → KeepsUsage q
case_usage no_case h i q e = none_not_some e
case_usage (and_case b p cs) h zero q e = let P : Tree → Type 0 = λ z. KeepsUsage z in subst P (some_is e) h.0
case_usage (and_case b p cs) h (suc i) q e = case_usage cs h.1 i q e

branch_usage : (bs : Branches) → BranchesKeepUsage bs → (i : ℕ) (q : Tree) → branch_at bs i ≡ Some q → KeepsUsage q
branch_usage no_branch h i q e = none_not_some e
branch_usage (and_branch b w p bs) h zero q e = let P : Tree → Type 0 = λ z. KeepsUsage z in subst P (some_is e) h.0
branch_usage (and_branch b w p bs) h (suc i) q e = branch_usage bs h.1 i q e

only_usage : (p : Tree) → KeepsUsage p → (i : ℕ) (q : Tree) → only_at p i ≡ Some q → KeepsUsage q
only_usage p h zero q e = let P : Tree → Type 0 = λ z. KeepsUsage z in subst P (some_is e) h
only_usage p h (suc i) q e = none_not_some e

child_usage : (p : Tree) → KeepsUsage p → (i : ℕ) (q : Tree) → child p i ≡ Some q → KeepsUsage q
child_usage skip h i q e = none_not_some e
child_usage stop h i q e = none_not_some e
child_usage (assign xs es) h i q e = none_not_some e
child_usage (receive c x) h i q e = none_not_some e
child_usage (send c z) h i q e = none_not_some e
child_usage (seq ps) h i q e = tree_usage ps h i q e
child_usage (par ps) h i q e = tree_usage ps h.0 i q e
child_usage (select cs) h i q e = case_usage cs h i q e
child_usage (alt bs) h i q e = branch_usage bs h i q e
child_usage (declare x w p) h i q e = only_usage p h i q e
child_usage (connect c w p) h i q e = only_usage p h i q e

pub part_usage : (path : List ℕ) (p q : Tree) → KeepsUsage p → part_at path p ≡ Some q → KeepsUsage q
part_usage [] p q h e = let P : Tree → Type 0 = λ z. KeepsUsage z in subst P (some_is e) h
part_usage (i ∷ path) p q h e = below (λ c u k. part_usage path c q u k) (child p i) refl e
  where
    below : ((c : Tree) → KeepsUsage c → part_at path c ≡ Some q → KeepsUsage q) → (o : Option Tree) → child p i ≡ o
        → option_and_then (part_at path) o ≡ Some q → KeepsUsage q
    below ih None is k = none_not_some k
    below ih (Some c) is k = ih c (child_usage p h i c is) k

pub part_keeps : (path : List ℕ) (Γ : Environment) (p q : Tree) → Keeps Γ p → part_at path p ≡ Some q → Keeps (environment_at path Γ p) q
part_keeps path Γ p q h e = record { types = part_types path Γ p q h.types e; usage = part_usage path p q h.usage e }

-- ---- what replacing leaves

tree_put : (ps : Trees) (i : ℕ) (q r : Tree) → tree_at ps i ≡ Some q → tree_at (with_tree ps i r) i ≡ Some r
tree_put no_tree i q r e = none_not_some e
tree_put (and_tree p ps) zero q r e = refl
tree_put (and_tree p ps) (suc i) q r e = tree_put ps i q r e

case_put : (cs : Cases) (i : ℕ) (q r : Tree) → case_at cs i ≡ Some q → case_at (with_case cs i r) i ≡ Some r
case_put no_case i q r e = none_not_some e
case_put (and_case b p cs) zero q r e = refl
case_put (and_case b p cs) (suc i) q r e = case_put cs i q r e

branch_put : (bs : Branches) (i : ℕ) (q r : Tree) → branch_at bs i ≡ Some q → branch_at (with_branch bs i r) i ≡ Some r
branch_put no_branch i q r e = none_not_some e
branch_put (and_branch b w p bs) zero q r e = refl
branch_put (and_branch b w p bs) (suc i) q r e = branch_put bs i q r e

only_put : (p : Tree) (i : ℕ) (q r : Tree) → only_at p i ≡ Some q → only_at (with_only p i r) i ≡ Some r
only_put p zero q r e = refl
only_put p (suc i) q r e = none_not_some e

child_put : (p : Tree) (i : ℕ) (q r : Tree) → child p i ≡ Some q → child (with_child p i r) i ≡ Some r
child_put skip i q r e = none_not_some e
child_put stop i q r e = none_not_some e
child_put (assign xs es) i q r e = none_not_some e
child_put (receive c x) i q r e = none_not_some e
child_put (send c z) i q r e = none_not_some e
child_put (seq ps) i q r e = tree_put ps i q r e
child_put (par ps) i q r e = tree_put ps i q r e
child_put (select cs) i q r e = case_put cs i q r e
child_put (alt bs) i q r e = branch_put bs i q r e
child_put (declare x w p) i q r e = only_put p i q r e
child_put (connect c w p) i q r e = only_put p i q r e

below_put : (Γ : Environment) (p : Tree) (i : ℕ) (r : Tree) → environment_below Γ (with_child p i r) ≡ environment_below Γ p
below_put Γ skip i r = refl
below_put Γ stop i r = refl
below_put Γ (assign xs es) i r = refl
below_put Γ (receive c x) i r = refl
below_put Γ (send c z) i r = refl
below_put Γ (seq ps) i r = refl
below_put Γ (par ps) i r = refl
below_put Γ (select cs) i r = refl
below_put Γ (alt bs) i r = refl
below_put Γ (declare x w p) i r = refl
below_put Γ (connect c w p) i r = refl

-- the part that was put in is there
pub put_there : (path : List ℕ) (p q r : Tree) → part_at path p ≡ Some q → part_at path (put path p r) ≡ Some r
put_there [] p q r e = refl
put_there (i ∷ path) p q r e = below (λ c k. put_there path c q r k) (child p i) refl e
  where
    below : ((c : Tree) → part_at path c ≡ Some q → part_at path (put path c r) ≡ Some r) → (o : Option Tree) → child p i ≡ o
        → option_and_then (part_at path) o ≡ Some q
        → option_and_then (part_at path) (child (unwrap_or (option_map (λ c. with_child p i (put path c r)) o) p) i) ≡ Some r
    below ih None is k = none_not_some k
    below ih (Some c) is k = ap (option_and_then (part_at path)) (child_put p i c (put path c r) is) ∙ ih c k

-- in the same environment
pub put_scope : (path : List ℕ) (Γ : Environment) (p q r : Tree) → part_at path p ≡ Some q
    → environment_at path Γ (put path p r) ≡ environment_at path Γ p
put_scope [] Γ p q r e = refl
put_scope (i ∷ path) Γ p q r e = below (λ c Δ k. put_scope path Δ c q r k) (child p i) refl e
  where
    below : ((c : Tree) (Δ : Environment) → part_at path c ≡ Some q → environment_at path Δ (put path c r) ≡ environment_at path Δ c)
        → (o : Option Tree) → child p i ≡ o → option_and_then (part_at path) o ≡ Some q
        → environment_at (i ∷ path) Γ (unwrap_or (option_map (λ c. with_child p i (put path c r)) o) p) ≡ unwrap_or (option_map (environment_at path (environment_below Γ p)) o) Γ
    below ih None is k = none_not_some k
    below ih (Some c) is k =
        ap (λ o. unwrap_or (option_map (environment_at path (environment_below Γ (with_child p i (put path c r)))) o) Γ) (child_put p i c (put path c r) is)
        ∙ (ap (λ Δ. environment_at path Δ (put path c r)) (below_put Γ p i (put path c r)) ∙ ih c (environment_below Γ p) k)

-- ---- types

tree_put_types : (Γ : Environment) (ps : Trees) (i : ℕ) (r : Tree) → all_types_kept ps Γ ≡ true → types_kept r Γ ≡ true
    → all_types_kept (with_tree ps i r) Γ ≡ true
tree_put_types Γ no_tree i r h k = refl
tree_put_types Γ (and_tree p ps) zero r h k = and_from (types_kept r Γ) (all_types_kept ps Γ) k (and_parts (types_kept p Γ) (all_types_kept ps Γ) h).1
tree_put_types Γ (and_tree p ps) (suc i) r h k = let j = and_parts (types_kept p Γ) (all_types_kept ps Γ) h in and_from (types_kept p Γ) (all_types_kept (with_tree ps i r) Γ) j.0 (tree_put_types Γ ps i r j.1 k)

case_put_types : (Γ : Environment) (cs : Cases) (i : ℕ) (r : Tree) → cases_kept cs Γ ≡ true → types_kept r Γ ≡ true
    → cases_kept (with_case cs i r) Γ ≡ true
case_put_types Γ no_case i r h k = refl
case_put_types Γ (and_case e p cs) zero r h k =
    let j = and_three (is_condition Γ e) (types_kept p Γ) (cases_kept cs Γ) h in and_from (is_condition Γ e && types_kept r Γ) (cases_kept cs Γ) (and_from (is_condition Γ e) (types_kept r Γ) j.0 k) j.2
case_put_types Γ (and_case e p cs) (suc i) r h k =
    let j = and_three (is_condition Γ e) (types_kept p Γ) (cases_kept cs Γ) h in
    and_from (is_condition Γ e && types_kept p Γ) (cases_kept (with_case cs i r) Γ) (and_from (is_condition Γ e) (types_kept p Γ) j.0 j.1) (case_put_types Γ cs i r j.2 k)

branch_put_types : (Γ : Environment) (bs : Branches) (i : ℕ) (r : Tree) → branches_kept bs Γ ≡ true → types_kept r Γ ≡ true
    → branches_kept (with_branch bs i r) Γ ≡ true
branch_put_types Γ no_branch i r h k = refl
branch_put_types Γ (and_branch e w p bs) zero r h k =
    let j = and_four (is_condition Γ e) (waiting_kept Γ w) (types_kept p Γ) (branches_kept bs Γ) h in
    and_from ((is_condition Γ e && waiting_kept Γ w) && types_kept r Γ) (branches_kept bs Γ) (and_from (is_condition Γ e && waiting_kept Γ w) (types_kept r Γ) (and_from (is_condition Γ e) (waiting_kept Γ w) j.0 j.1) k) j.3
branch_put_types Γ (and_branch e w p bs) (suc i) r h k =
    let j = and_four (is_condition Γ e) (waiting_kept Γ w) (types_kept p Γ) (branches_kept bs Γ) h in
    and_from ((is_condition Γ e && waiting_kept Γ w) && types_kept p Γ) (branches_kept (with_branch bs i r) Γ)
    (and_from (is_condition Γ e && waiting_kept Γ w) (types_kept p Γ) (and_from (is_condition Γ e) (waiting_kept Γ w) j.0 j.1) j.2) (branch_put_types Γ bs i r j.3 k)

only_put_types : (Γ : Environment) (p : Tree) (i : ℕ) (r : Tree) → types_kept p Γ ≡ true → types_kept r Γ ≡ true
    → types_kept (with_only p i r) Γ ≡ true
only_put_types Γ p zero r h k = k
only_put_types Γ p (suc i) r h k = h

child_put_types : (Γ : Environment) (p : Tree) (i : ℕ) (r : Tree) → types_kept p Γ ≡ true → types_kept r (environment_below Γ p) ≡ true
    → types_kept (with_child p i r) Γ ≡ true
child_put_types Γ skip i r h k = h
child_put_types Γ stop i r h k = h
child_put_types Γ (assign xs es) i r h k = h
child_put_types Γ (receive c x) i r h k = h
child_put_types Γ (send c z) i r h k = h
child_put_types Γ (seq ps) i r h k = tree_put_types Γ ps i r h k
child_put_types Γ (par ps) i r h k = tree_put_types Γ ps i r h k
child_put_types Γ (select cs) i r h k = case_put_types Γ cs i r h k
child_put_types Γ (alt bs) i r h k = branch_put_types Γ bs i r h k
child_put_types Γ (declare x w p) i r h k =
    let j = and_parts (can_declare Γ x w) (types_kept p (with_name Γ x (Var w))) h in
    and_from (can_declare Γ x w) (types_kept (with_only p i r) (with_name Γ x (Var w))) j.0 (only_put_types (with_name Γ x (Var w)) p i r j.1 k)
child_put_types Γ (connect c w p) i r h k =
    let j = and_parts (can_declare Γ c w) (types_kept p (with_name Γ c (Chan w None))) h in
    and_from (can_declare Γ c w) (types_kept (with_only p i r) (with_name Γ c (Chan w None))) j.0 (only_put_types (with_name Γ c (Chan w None)) p i r j.1 k)

-- a part that is well typed there may be put in
pub put_types : (path : List ℕ) (Γ : Environment) (p q r : Tree) → types_kept p Γ ≡ true → part_at path p ≡ Some q
    → types_kept r (environment_at path Γ p) ≡ true → types_kept (put path p r) Γ ≡ true
put_types [] Γ p q r h e k = k
put_types (i ∷ path) Γ p q r h e k = below (λ c Δ t u v. put_types path Δ c q r t u v) (child p i) refl e k
  where
    below : ((c : Tree) (Δ : Environment) → types_kept c Δ ≡ true → part_at path c ≡ Some q → types_kept r (environment_at path Δ c) ≡ true → types_kept (put path c r) Δ ≡ true)
        → (o : Option Tree) → child p i ≡ o
        → option_and_then (part_at path) o ≡ Some q → types_kept r (unwrap_or (option_map (environment_at path (environment_below Γ p)) o) Γ) ≡ true → types_kept (unwrap_or (option_map (λ c. with_child p i (put path c r)) o) p) Γ ≡ true
    below ih None is u v = none_not_some u
    below ih (Some c) is u v = child_put_types Γ p i (put path c r) h (ih c (environment_below Γ p) (child_types Γ p h i c is) u v)
