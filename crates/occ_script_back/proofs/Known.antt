-- The names of a process, of its parts and of the scopes at its parts stand in one table.
use Rattle.std.proofs.Common.{◌≡◌, ℕ, zero, suc, ◌<◌, List, [], ◌∷◌, ◌++◌, Option, None, Some, refl, subst}
use Rattle.std.specs.Option.{option_map, unwrap_or}
use Rattle.std.specs.List.{AllByRecursion}
use Rattle.occ_script_write.specs.occ_base.declared.names.Name.{Name}
use Rattle.occ_script_write.specs.occ_meaning.Context.{branch_at, case_at, child, only_at, put, tree_at, with_branch, with_case, with_child, with_only, with_tree}
use Rattle.occ_script_write.specs.occ_print.Known.{BranchesAreKnown, CasesAreKnown, PartIsKnown, PartsAreKnown}
use Rattle.occ_script_write.proofs.from_print.Lists.{all-append}
use Rattle.occ_script_write.specs.occ_script_lines.Places.{declared_by, scope_list}
use Rattle.occ_script_write.specs.occ_syntax.declared.scope.Kind.{Kind}
use Rattle.occ_script_write.specs.occ_syntax.Tree.{Branches, Cases, Tree, Trees, alt, and_branch, and_case, and_tree, assign, connect, declare, no_branch, no_case, no_tree, par, receive, select, send, seq, skip, stop}

pub no_part : {A : Type 0} (q : Tree) → None ≡ Some q → A
no_part q e = absurd cc

pub same_part : (p q : Tree) → Some p ≡ Some q → p ≡ q
same_part p q e = cc

module _ (n : ℕ) where
  abbrev AreKnown : List (Name × Kind) → Type 0
  AreKnown S = AllByRecursion (λ (p : Name × Kind). p.0.0 < n) S

  -- ---- the parts of a process

  tree_known : (ps : Trees) (i : ℕ) (q : Tree) → tree_at ps i ≡ Some q → PartsAreKnown n ps → PartIsKnown n q
  tree_known no_tree i q e h = no_part q e
  tree_known (and_tree p ps) zero q e h = subst (PartIsKnown n) (same_part p q e) h.0
  tree_known (and_tree p ps) (suc i) q e h = tree_known ps i q e h.1

  case_known : (cs : Cases) (i : ℕ) (q : Tree) → case_at cs i ≡ Some q → CasesAreKnown n cs → PartIsKnown n q
  case_known no_case i q e h = no_part q e
  case_known (and_case c p cs) zero q e h = subst (PartIsKnown n) (same_part p q e) h.1
  case_known (and_case c p cs) (suc i) q e h = case_known cs i q e h.2

  branch_known : (bs : Branches) (i : ℕ) (q : Tree) → branch_at bs i ≡ Some q → BranchesAreKnown n bs → PartIsKnown n q
  branch_known no_branch i q e h = no_part q e
  branch_known (and_branch c w p bs) zero q e h = subst (PartIsKnown n) (same_part p q e) h.2
  branch_known (and_branch c w p bs) (suc i) q e h = branch_known bs i q e h.3

  only_known : (p : Tree) (i : ℕ) (q : Tree) → only_at p i ≡ Some q → PartIsKnown n p → PartIsKnown n q
  only_known p zero q e h = subst (PartIsKnown n) (same_part p q e) h
  only_known p (suc i) q e h = no_part q e

  pub child_known : (p : Tree) (i : ℕ) (q : Tree) → child p i ≡ Some q → PartIsKnown n p → PartIsKnown n q
  child_known skip i q e h = no_part q e
  child_known stop i q e h = no_part q e
  child_known (assign xs es) i q e h = no_part q e
  child_known (receive c x) i q e h = no_part q e
  child_known (send c v) i q e h = no_part q e
  child_known (seq ps) i q e h = tree_known ps i q e h
  child_known (par ps) i q e h = tree_known ps i q e h
  child_known (select cs) i q e h = case_known cs i q e h
  child_known (alt bs) i q e h = branch_known bs i q e h
  child_known (declare x w p) i q e h = only_known p i q e h.1
  child_known (connect c w p) i q e h = only_known p i q e h.1

  declared_known : (p : Tree) → PartIsKnown n p → AreKnown (declared_by p)
  declared_known skip h = tt
  declared_known stop h = tt
  declared_known (assign xs es) h = tt
  declared_known (receive c x) h = tt
  declared_known (send c v) h = tt
  declared_known (seq ps) h = tt
  declared_known (par ps) h = tt
  declared_known (select cs) h = tt
  declared_known (alt bs) h = tt
  declared_known (declare x w p) h = (h.0, tt)
  declared_known (connect c w p) h = (h.0, tt)

  -- the scope at a path
  pub scope_known : (path : List ℕ) (S : List (Name × Kind)) (p : Tree) → AreKnown S → PartIsKnown n p → AreKnown (scope_list path S p)
  scope_known [] S p s h = s
  scope_known (i ∷ path) S p s h = below (λ q k. scope_known path (S ++ declared_by p) q (all-append (λ (x : Name × Kind). x.0.0 < n) S (declared_by p) s (declared_known p h)) k) (child p i) (λ q e. child_known p i q e h)
    where
      below : ((q : Tree) → PartIsKnown n q → AreKnown (scope_list path (S ++ declared_by p) q)) → (o : Option Tree) → ((q : Tree) → o ≡ Some q → PartIsKnown n q)
          → AreKnown (unwrap_or (option_map (scope_list path (S ++ declared_by p)) o) S)
      below further None k = s
      below further (Some q) k = further q (k q refl)

  -- ---- a process with a part put in

  with_tree_known : (ps : Trees) (i : ℕ) (r : Tree) → PartsAreKnown n ps → PartIsKnown n r → PartsAreKnown n (with_tree ps i r)
  with_tree_known no_tree i r h k = tt
  with_tree_known (and_tree p ps) zero r h k = (k, h.1)
  with_tree_known (and_tree p ps) (suc i) r h k = (h.0, with_tree_known ps i r h.1 k)

  with_case_known : (cs : Cases) (i : ℕ) (r : Tree) → CasesAreKnown n cs → PartIsKnown n r → CasesAreKnown n (with_case cs i r)
  with_case_known no_case i r h k = tt
  with_case_known (and_case e p cs) zero r h k = (h.0, k, h.2)
  with_case_known (and_case e p cs) (suc i) r h k = (h.0, h.1, with_case_known cs i r h.2 k)

  with_branch_known : (bs : Branches) (i : ℕ) (r : Tree) → BranchesAreKnown n bs → PartIsKnown n r → BranchesAreKnown n (with_branch bs i r)
  with_branch_known no_branch i r h k = tt
  with_branch_known (and_branch e w p bs) zero r h k = (h.0, h.1, k, h.3)
  with_branch_known (and_branch e w p bs) (suc i) r h k = (h.0, h.1, h.2, with_branch_known bs i r h.3 k)

  with_only_known : (p : Tree) (i : ℕ) (r : Tree) → PartIsKnown n p → PartIsKnown n r → PartIsKnown n (with_only p i r)
  with_only_known p zero r h k = k
  with_only_known p (suc i) r h k = h

  with_child_known : (p : Tree) (i : ℕ) (r : Tree) → PartIsKnown n p → PartIsKnown n r → PartIsKnown n (with_child p i r)
  with_child_known skip i r h k = h
  with_child_known stop i r h k = h
  with_child_known (assign xs es) i r h k = h
  with_child_known (receive c x) i r h k = h
  with_child_known (send c e) i r h k = h
  with_child_known (seq ps) i r h k = with_tree_known ps i r h k
  with_child_known (par ps) i r h k = with_tree_known ps i r h k
  with_child_known (select cs) i r h k = with_case_known cs i r h k
  with_child_known (alt bs) i r h k = with_branch_known bs i r h k
  with_child_known (declare x w p) i r h k = (h.0, with_only_known p i r h.1 k)
  with_child_known (connect c w p) i r h k = (h.0, with_only_known p i r h.1 k)

  pub put_known : (path : List ℕ) (p r : Tree) → PartIsKnown n p → PartIsKnown n r → PartIsKnown n (put path p r)
  put_known [] p r h k = k
  put_known (i ∷ path) p r h k = below (λ q j. put_known path q r j k) (child p i) (λ q e. child_known p i q e h)
    where
      below : ((q : Tree) → PartIsKnown n q → PartIsKnown n (put path q r)) → (o : Option Tree) → ((q : Tree) → o ≡ Some q → PartIsKnown n q)
          → PartIsKnown n (unwrap_or (option_map (λ q. with_child p i (put path q r)) o) p)
      below further None j = h
      below further (Some q) j = with_child_known p i (put path q r) h (further q (j q refl))
