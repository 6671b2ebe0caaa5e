-- A process with a part put in has no longer lines than the two.
use Rattle.std.proofs.Common.{◌≡◌, ℕ, zero, suc, ◌≤◌, List, [], ◌∷◌, Option, None, Some, refl, subst, arith}
use Rattle.std.specs.Option.{option_map, unwrap_or}
use Rattle.occ_script_write.specs.occ_meaning.Context.{branch_at, case_at, child, only_at, put, tree_at, with_branch, with_case, with_child, with_only, with_tree}
use Rattle.occ_script_write.proofs.from_print.Counting.{widest, widest_of_all, widest_of_branches, widest_of_cases}
use Rattle.occ_script_back.proofs.Known.{no_part, same_part}
use Rattle.occ_script_write.specs.occ_syntax.Tree.{Branches, Cases, Tree, Trees, alt, and_branch, and_case, and_tree, assign, connect, declare, no_branch, no_case, no_tree, par, receive, select, send, seq, skip, stop}

module _ (m : ℕ) where
  abbrev IsNarrowTree : Tree → Type 0
  IsNarrowTree p = widest p ≤ m

  tree_narrow : (ps : Trees) (i : ℕ) (q : Tree) → tree_at ps i ≡ Some q → widest_of_all ps ≤ m → IsNarrowTree q
  tree_narrow no_tree i q e h = no_part q e
  tree_narrow (and_tree p ps) zero q e h = subst IsNarrowTree (same_part p q e) (omega (arith, h))
  tree_narrow (and_tree p ps) (suc i) q e h = tree_narrow ps i q e (omega (arith, h))

  case_narrow : (cs : Cases) (i : ℕ) (q : Tree) → case_at cs i ≡ Some q → widest_of_cases cs ≤ m → IsNarrowTree q
  case_narrow no_case i q e h = no_part q e
  case_narrow (and_case c p cs) zero q e h = subst IsNarrowTree (same_part p q e) (omega (arith, h))
  case_narrow (and_case c p cs) (suc i) q e h = case_narrow cs i q e (omega (arith, h))

  branch_narrow : (bs : Branches) (i : ℕ) (q : Tree) → branch_at bs i ≡ Some q → widest_of_branches bs ≤ m → IsNarrowTree q
  branch_narrow no_branch i q e h = no_part q e
  branch_narrow (and_branch c w p bs) zero q e h = subst IsNarrowTree (same_part p q e) (omega (arith, h))
  branch_narrow (and_branch c w p bs) (suc i) q e h = branch_narrow bs i q e (omega (arith, h))

  only_narrow : (p : Tree) (i : ℕ) (q : Tree) → only_at p i ≡ Some q → IsNarrowTree p → IsNarrowTree q
  only_narrow p zero q e h = subst IsNarrowTree (same_part p q e) h
  only_narrow p (suc i) q e h = no_part q e

  child_narrow : (p : Tree) (i : ℕ) (q : Tree) → child p i ≡ Some q → IsNarrowTree p → IsNarrowTree q
  child_narrow skip i q e h = no_part q e
  child_narrow stop i q e h = no_part q e
  child_narrow (assign xs es) i q e h = no_part q e
  child_narrow (receive c x) i q e h = no_part q e
  child_narrow (send c v) i q e h = no_part q e
  child_narrow (seq ps) i q e h = tree_narrow ps i q e (omega (arith, h))
  child_narrow (par ps) i q e h = tree_narrow ps i q e (omega (arith, h))
  child_narrow (select cs) i q e h = case_narrow cs i q e (omega (arith, h))
  child_narrow (alt bs) i q e h = branch_narrow bs i q e (omega (arith, h))
  child_narrow (declare x w p) i q e h = only_narrow p i q e (omega (arith, h))
  child_narrow (connect c w p) i q e h = only_narrow p i q e (omega (arith, h))

  with_tree_narrow : (ps : Trees) (i : ℕ) (r : Tree) → widest_of_all ps ≤ m → IsNarrowTree r → widest_of_all (with_tree ps i r) ≤ m
  with_tree_narrow no_tree i r h k = h
  with_tree_narrow (and_tree p ps) zero r h k = omega (arith, h, k)
  with_tree_narrow (and_tree p ps) (suc i) r h k = omega (arith, h, with_tree_narrow ps i r (omega (arith, h)) k)

  with_case_narrow : (cs : Cases) (i : ℕ) (r : Tree) → widest_of_cases cs ≤ m → IsNarrowTree r → widest_of_cases (with_case cs i r) ≤ m
  with_case_narrow no_case i r h k = h
  with_case_narrow (and_case e p cs) zero r h k = omega (arith, h, k)
  with_case_narrow (and_case e p cs) (suc i) r h k = omega (arith, h, with_case_narrow cs i r (omega (arith, h)) k)

  with_branch_narrow : (bs : Branches) (i : ℕ) (r : Tree) → widest_of_branches bs ≤ m → IsNarrowTree r → widest_of_branches (with_branch bs i r) ≤ m
  with_branch_narrow no_branch i r h k = h
  with_branch_narrow (and_branch e w p bs) zero r h k = omega (arith, h, k)
  with_branch_narrow (and_branch e w p bs) (suc i) r h k = omega (arith, h, with_branch_narrow bs i r (omega (arith, h)) k)

  with_only_narrow : (p : Tree) (i : ℕ) (r : Tree) → IsNarrowTree p → IsNarrowTree r → IsNarrowTree (with_only p i r)
  with_only_narrow p zero r h k = k
  with_only_narrow p (suc i) r h k = h

  with_child_narrow : (p : Tree) (i : ℕ) (r : Tree) → IsNarrowTree p → IsNarrowTree r → IsNarrowTree (with_child p i r)
  with_child_narrow skip i r h k = h
  with_child_narrow stop i r h k = h
  with_child_narrow (assign xs es) i r h k = h
  with_child_narrow (receive c x) i r h k = h
  with_child_narrow (send c e) i r h k = h
  with_child_narrow (seq ps) i r h k = omega (arith, h, with_tree_narrow ps i r (omega (arith, h)) k)
  with_child_narrow (par ps) i r h k = omega (arith, h, with_tree_narrow ps i r (omega (arith, h)) k)
  with_child_narrow (select cs) i r h k = omega (arith, h, with_case_narrow cs i r (omega (arith, h)) k)
  with_child_narrow (alt bs) i r h k = omega (arith, h, with_branch_narrow bs i r (omega (arith, h)) k)
  with_child_narrow (declare x w p) i r h k = omega (arith, h, with_only_narrow p i r (omega (arith, h)) k)
  with_child_narrow (connect c w p) i r h k = omega (arith, h, with_only_narrow p i r (omega (arith, h)) k)

  pub put_narrow : (path : List ℕ) (p r : Tree) → IsNarrowTree p → IsNarrowTree r → IsNarrowTree (put path p r)
  put_narrow [] p r h k = k
  put_narrow (i ∷ path) p r h k = below (λ q j. put_narrow path q r j k) (child p i) (λ q e. child_narrow p i q e h)
    where
      below : ((q : Tree) → IsNarrowTree q → IsNarrowTree (put path q r)) → (o : Option Tree) → ((q : Tree) → o ≡ Some q → IsNarrowTree q) → IsNarrowTree (unwrap_or (option_map (λ q. with_child p i (put path q r)) o) p)
      below further None j = h
      below further (Some q) j = with_child_narrow p i (put path q r) h (further q (j q refl))
