-- A process with one of its parts replaced.
use Rattle.std.proofs.Common.{◌≡◌, ℕ, zero, suc, true, false, Some, sym, ap, refl}
use Rattle.occ_derive_moves.specs.Moves.{is_par}
use Rattle.occ_replay_rules.proofs.from_meaning.Facts.{none_not_some, some_is}
use Rattle.occ_replay_rules.specs.occ_meaning.Context.{branch_at, case_at, child, only_at, tree_at, with_branch, with_case, with_child, with_only, with_tree}
use Rattle.occ_replay_rules.specs.occ_script_lines.Places.{declared_by}
use Rattle.occ_target_laws.specs.occ_syntax.Tree.{Branches, Cases, Tree, Trees, alt, and_branch, and_case, and_tree, assign, connect, declare, no_branch, no_case, no_tree, par, receive, select, send, seq, skip, stop}
use Rattle.occ_target_laws.specs.occ_syntax.Usage.{AllKeepUsage, BranchesKeepUsage, CasesKeepUsage, KeepsUsage}

-- ---- the part is there

tree_in : (ps : Trees) (i : ℕ) (q r : Tree) → tree_at ps i ≡ Some q → tree_at (with_tree ps i r) i ≡ Some r
tree_in no_tree i q r e = none_not_some e
tree_in (and_tree p ps) zero q r e = refl
tree_in (and_tree p ps) (suc i) q r e = tree_in ps i q r e

case_in : (cs : Cases) (i : ℕ) (q r : Tree) → case_at cs i ≡ Some q → case_at (with_case cs i r) i ≡ Some r
case_in no_case i q r e = none_not_some e
case_in (and_case b p cs) zero q r e = refl
case_in (and_case b p cs) (suc i) q r e = case_in cs i q r e

branch_in : (bs : Branches) (i : ℕ) (q r : Tree) → branch_at bs i ≡ Some q → branch_at (with_branch bs i r) i ≡ Some r
branch_in no_branch i q r e = none_not_some e
branch_in (and_branch b w p bs) zero q r e = refl
branch_in (and_branch b w p bs) (suc i) q r e = branch_in bs i q r e

only_in : (p : Tree) (i : ℕ) (q r : Tree) → only_at p i ≡ Some q → only_at (with_only p i r) i ≡ Some r
only_in p zero q r e = refl
only_in p (suc i) q r e = none_not_some e

pub child_in : (p : Tree) (i : ℕ) (q r : Tree) → child p i ≡ Some q → child (with_child p i r) i ≡ Some r
child_in skip i q r e = none_not_some e
child_in stop i q r e = none_not_some e
child_in (assign xs es) i q r e = none_not_some e
child_in (receive c x) i q r e = none_not_some e
child_in (send c z) i q r e = none_not_some e
child_in (seq ps) i q r e = tree_in ps i q r e
child_in (par ps) i q r e = tree_in ps i q r e
child_in (select cs) i q r e = case_in cs i q r e
child_in (alt bs) i q r e = branch_in bs i q r e
child_in (declare x w p) i q r e = only_in p i q r e
child_in (connect c w p) i q r e = only_in p i q r e

-- ---- the last one replaced stands

tree_again : (ps : Trees) (i : ℕ) (q r : Tree) → with_tree (with_tree ps i q) i r ≡ with_tree ps i r
tree_again no_tree i q r = refl
tree_again (and_tree p ps) zero q r = refl
tree_again (and_tree p ps) (suc i) q r = ap (and_tree p) (tree_again ps i q r)

case_again : (cs : Cases) (i : ℕ) (q r : Tree) → with_case (with_case cs i q) i r ≡ with_case cs i r
case_again no_case i q r = refl
case_again (and_case b p cs) zero q r = refl
case_again (and_case b p cs) (suc i) q r = ap (and_case b p) (case_again cs i q r)

branch_again : (bs : Branches) (i : ℕ) (q r : Tree) → with_branch (with_branch bs i q) i r ≡ with_branch bs i r
branch_again no_branch i q r = refl
branch_again (and_branch b w p bs) zero q r = refl
branch_again (and_branch b w p bs) (suc i) q r = ap (and_branch b w p) (branch_again bs i q r)

only_again : (p : Tree) (i : ℕ) (q r : Tree) → with_only (with_only p i q) i r ≡ with_only p i r
only_again p zero q r = refl
only_again p (suc i) q r = refl

pub child_again : (p : Tree) (i : ℕ) (q r : Tree) → with_child (with_child p i q) i r ≡ with_child p i r
child_again skip i q r = refl
child_again stop i q r = refl
child_again (assign xs es) i q r = refl
child_again (receive c x) i q r = refl
child_again (send c z) i q r = refl
child_again (seq ps) i q r = ap seq (tree_again ps i q r)
child_again (par ps) i q r = ap par (tree_again ps i q r)
child_again (select cs) i q r = ap select (case_again cs i q r)
child_again (alt bs) i q r = ap alt (branch_again bs i q r)
child_again (declare x w p) i q r = ap (declare x w) (only_again p i q r)
child_again (connect c w p) i q r = ap (connect c w) (only_again p i q r)

-- ---- a part in its own place changes nothing

tree_itself : (ps : Trees) (i : ℕ) (q : Tree) → tree_at ps i ≡ Some q → with_tree ps i q ≡ ps
tree_itself no_tree i q e = refl
tree_itself (and_tree p ps) zero q e = ap (λ z. and_tree z ps) (sym (some_is e))
tree_itself (and_tree p ps) (suc i) q e = ap (and_tree p) (tree_itself ps i q e)

case_itself : (cs : Cases) (i : ℕ) (q : Tree) → case_at cs i ≡ Some q → with_case cs i q ≡ cs
case_itself no_case i q e = refl
case_itself (and_case b p cs) zero q e = ap (λ z. and_case b z cs) (sym (some_is e))
case_itself (and_case b p cs) (suc i) q e = ap (and_case b p) (case_itself cs i q e)

branch_itself : (bs : Branches) (i : ℕ) (q : Tree) → branch_at bs i ≡ Some q → with_branch bs i q ≡ bs
branch_itself no_branch i q e = refl
branch_itself (and_branch b w p bs) zero q e = ap (λ z. and_branch b w z bs) (sym (some_is e))
branch_itself (and_branch b w p bs) (suc i) q e = ap (and_branch b w p) (branch_itself bs i q e)

only_itself : (p : Tree) (i : ℕ) (q : Tree) → only_at p i ≡ Some q → with_only p i q ≡ p
only_itself p zero q e = sym (some_is e)
only_itself p (suc i) q e = refl

pub child_itself : (p : Tree) (i : ℕ) (q : Tree) → child p i ≡ Some q → with_child p i q ≡ p
child_itself skip i q e = refl
child_itself stop i q e = refl
child_itself (assign xs es) i q e = refl
child_itself (receive c x) i q e = refl
child_itself (send c z) i q e = refl
child_itself (seq ps) i q e = ap seq (tree_itself ps i q e)
child_itself (par ps) i q e = ap par (tree_itself ps i q e)
child_itself (select cs) i q e = ap select (case_itself cs i q e)
child_itself (alt bs) i q e = ap alt (branch_itself bs i q e)
child_itself (declare x w p) i q e = ap (declare x w) (only_itself p i q e)
child_itself (connect c w p) i q e = ap (connect c w) (only_itself p i q e)

-- ---- what replacing leaves

pub declared_in : (p : Tree) (i : ℕ) (r : Tree) → declared_by (with_child p i r) ≡ declared_by p
declared_in skip i r = refl
declared_in stop i r = refl
declared_in (assign xs es) i r = refl
declared_in (receive c x) i r = refl
declared_in (send c e) i r = refl
declared_in (seq ps) i r = refl
declared_in (par ps) i r = refl
declared_in (select cs) i r = refl
declared_in (alt bs) i r = refl
declared_in (declare x w p) i r = refl
declared_in (connect c w p) i r = refl

pub par_in : (p : Tree) (i : ℕ) (r : Tree) → is_par (with_child p i r) ≡ is_par p
par_in skip i r = refl
par_in stop i r = refl
par_in (assign xs es) i r = refl
par_in (receive c x) i r = refl
par_in (send c e) i r = refl
par_in (seq ps) i r = refl
par_in (par ps) i r = refl
par_in (select cs) i r = refl
par_in (alt bs) i r = refl
par_in (declare x w p) i r = refl
par_in (connect c w p) i r = refl

-- ---- usage, outside PAR

trees_keep : (ps : Trees) (i : ℕ) (r : Tree) → AllKeepUsage ps → KeepsUsage r → AllKeepUsage (with_tree ps i r)
trees_keep no_tree i r h k = tt
trees_keep (and_tree p ps) zero r h k = (k, h.1)
trees_keep (and_tree p ps) (suc i) r h k = (h.0, trees_keep ps i r h.1 k)

cases_keep : (cs : Cases) (i : ℕ) (r : Tree) → CasesKeepUsage cs → KeepsUsage r → CasesKeepUsage (with_case cs i r)
cases_keep no_case i r h k = tt
cases_keep (and_case b p cs) zero r h k = (k, h.1)
cases_keep (and_case b p cs) (suc i) r h k = (h.0, cases_keep cs i r h.1 k)

branches_keep : (bs : Branches) (i : ℕ) (r : Tree) → BranchesKeepUsage bs → KeepsUsage r → BranchesKeepUsage (with_branch bs i r)
branches_keep no_branch i r h k = tt
branches_keep (and_branch b w p bs) zero r h k = (k, h.1)
branches_keep (and_branch b w p bs) (suc i) r h k = (h.0, branches_keep bs i r h.1 k)

only_keeps : (p : Tree) (i : ℕ) (r : Tree) → KeepsUsage p → KeepsUsage r → KeepsUsage (with_only p i r)
only_keeps p zero r h k = k
only_keeps p (suc i) r h k = h

true_not_false : true ≡ false → ⊥
true_not_false e = cc

-- a part that keeps usage may come into another one that isn't a PAR
pub child_keeps : (p : Tree) (i : ℕ) (r : Tree) → is_par p ≡ false → KeepsUsage p → KeepsUsage r → KeepsUsage (with_child p i r)
child_keeps skip i r o h k = tt
child_keeps stop i r o h k = tt
child_keeps (assign xs es) i r o h k = tt
child_keeps (receive c x) i r o h k = tt
child_keeps (send c e) i r o h k = tt
child_keeps (seq ps) i r o h k = trees_keep ps i r h k
child_keeps (par ps) i r o h k = absurd (true_not_false o)
child_keeps (select cs) i r o h k = cases_keep cs i r h k
child_keeps (alt bs) i r o h k = branches_keep bs i r h k
child_keeps (declare x w p) i r o h k = only_keeps p i r h k
child_keeps (connect c w p) i r o h k = only_keeps p i r h k
