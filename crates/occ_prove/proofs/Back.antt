-- A part that is put back.
use Rattle.std.proofs.Common.{◌≡◌, ◌∙◌, ℕ, zero, suc, List, [], ◌∷◌, ◌++◌, Option, None, Some, refl, sym, ap, subst}
use Rattle.std.specs.Option.{option_and_then, option_map, unwrap_or}
use Rattle.occ_syntax.specs.occ_base.declared.names.Name.{Name}
use Rattle.occ_tool_run.proofs.from_meaning.Facts.{none_not_some, some_is}
use Rattle.occ_tool_run.proofs.from_meaning.Places.{put_there}
use Rattle.occ_tool_run.specs.occ_meaning.Context.{branch_at, case_at, child, only_at, part_at, put, tree_at, with_branch, with_case, with_child, with_only, with_tree}
use Rattle.occ_tool_run.specs.occ_script_lines.Places.{declared_by, scope_list}
use Rattle.occ_syntax.specs.declared.scope.Kind.{Kind}
use Rattle.occ_syntax.specs.Tree.{Branches, Cases, Tree, Trees, alt, and_branch, and_case, and_tree, assign, connect, declare, no_branch, no_case, no_tree, par, receive, select, send, seq, skip, stop}

-- ---- one step down

whole : (o : Option Tree) (r : Tree) → option_and_then (part_at []) o ≡ Some r → o ≡ Some r
whole None r e = none_not_some e
whole (Some p) r e = e

-- the part that was put in is there
child_in : (p : Tree) (i : ℕ) (c r : Tree) → child p i ≡ Some c → child (with_child p i r) i ≡ Some r
child_in p i c r e =
    let one : put (i ∷ []) p r ≡ with_child p i r = ap (λ o. unwrap_or (option_map (λ q. with_child p i r) o) p) e in
    whole (child (with_child p i r) i) r (subst (λ w. part_at (i ∷ []) w ≡ Some r) one (put_there (i ∷ []) p c r (ap (option_and_then (part_at [])) e)))

trees_back : (ps : Trees) (i : ℕ) (q r : Tree) → tree_at ps i ≡ Some q → with_tree (with_tree ps i r) i q ≡ ps
trees_back no_tree i q r e = none_not_some e
trees_back (and_tree p ps) zero q r e = ap (λ z. and_tree z ps) (sym (some_is e))
trees_back (and_tree p ps) (suc i) q r e = ap (and_tree p) (trees_back ps i q r e)

cases_back : (cs : Cases) (i : ℕ) (q r : Tree) → case_at cs i ≡ Some q → with_case (with_case cs i r) i q ≡ cs
cases_back no_case i q r e = none_not_some e
cases_back (and_case b p cs) zero q r e = ap (λ z. and_case b z cs) (sym (some_is e))
cases_back (and_case b p cs) (suc i) q r e = ap (and_case b p) (cases_back cs i q r e)

branches_back : (bs : Branches) (i : ℕ) (q r : Tree) → branch_at bs i ≡ Some q → with_branch (with_branch bs i r) i q ≡ bs
branches_back no_branch i q r e = none_not_some e
branches_back (and_branch b w p bs) zero q r e = ap (λ z. and_branch b w z bs) (sym (some_is e))
branches_back (and_branch b w p bs) (suc i) q r e = ap (and_branch b w p) (branches_back bs i q r e)

only_back : (p : Tree) (i : ℕ) (q r : Tree) → only_at p i ≡ Some q → with_only (with_only p i r) i q ≡ p
only_back p zero q r e = sym (some_is e)
only_back p (suc i) q r e = none_not_some e

child_back : (p : Tree) (i : ℕ) (q r : Tree) → child p i ≡ Some q → with_child (with_child p i r) i q ≡ p
child_back skip i q r e = none_not_some e
child_back stop i q r e = none_not_some e
child_back (assign xs es) i q r e = none_not_some e
child_back (receive c x) i q r e = none_not_some e
child_back (send c z) i q r e = none_not_some e
child_back (seq ps) i q r e = ap seq (trees_back ps i q r e)
child_back (par ps) i q r e = ap par (trees_back ps i q r e)
child_back (select cs) i q r e = ap select (cases_back cs i q r e)
child_back (alt bs) i q r e = ap alt (branches_back bs i q r e)
child_back (declare x w p) i q r e = ap (declare x w) (only_back p i q r e)
child_back (connect c w p) i q r e = ap (connect c w) (only_back p i q r e)

declared_in : (p : Tree) (i : ℕ) (r : Tree) → declared_by (with_child p i r) ≡ declared_by p
declared_in skip i r = refl
declared_in stop i r = refl
declared_in (assign xs es) i r = refl
declared_in (receive c x) i r = refl
declared_in (send c z) i r = refl
declared_in (seq ps) i r = refl
declared_in (par ps) i r = refl
declared_in (select cs) i r = refl
declared_in (alt bs) i r = refl
declared_in (declare x w p) i r = refl
declared_in (connect c w p) i r = refl

-- ---- at a path

-- the part that stood at a path put back there
pub put_back : (path : List ℕ) (p q r : Tree) → part_at path p ≡ Some q → put path (put path p r) q ≡ p
put_back [] p q r e = sym (some_is e)
put_back (i ∷ path) p q r e = below (λ c k. put_back path c q r k) (child p i) refl e
  where
    below : ((c : Tree) → part_at path c ≡ Some q → put path (put path c r) q ≡ c) → (o : Option Tree) → child p i ≡ o
        → option_and_then (part_at path) o ≡ Some q → put (i ∷ path) (unwrap_or (option_map (λ c. with_child p i (put path c r)) o) p) q ≡ p
    below ih None is k = none_not_some k
    below ih (Some c) is k =
        let w = with_child p i (put path c r) in
        ap (λ o. unwrap_or (option_map (λ d. with_child w i (put path d q)) o) w) (child_in p i c (put path c r) is)
        ∙ (ap (with_child w i) (ih c k) ∙ child_back p i c (put path c r) is)

-- the names in scope at a path stay with a part put in there
pub scope_in : (path : List ℕ) (S : List (Name × Kind)) (p q r : Tree) → part_at path p ≡ Some q → scope_list path S (put path p r) ≡ scope_list path S p
scope_in [] S p q r e = refl
scope_in (i ∷ path) S p q r e = below (λ c T k. scope_in path T c q r k) (child p i) refl e
  where
    below : ((c : Tree) (T : List (Name × Kind)) → part_at path c ≡ Some q → scope_list path T (put path c r) ≡ scope_list path T c)
        → (o : Option Tree) → child p i ≡ o → option_and_then (part_at path) o ≡ Some q
        → scope_list (i ∷ path) S (unwrap_or (option_map (λ c. with_child p i (put path c r)) o) p)
        ≡ unwrap_or (option_map (scope_list path (S ++ declared_by p)) o) S
    below ih None is k = none_not_some k
    below ih (Some c) is k =
        let w = with_child p i (put path c r) in
        ap (λ o. unwrap_or (option_map (scope_list path (S ++ declared_by w)) o) S) (child_in p i c (put path c r) is)
        ∙ (ap (λ d. scope_list path (S ++ d) (put path c r)) (declared_in p i (put path c r)) ∙ ih c (S ++ declared_by p) k)
