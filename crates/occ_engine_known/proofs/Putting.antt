-- The names that are declared at a path, and in a process with another part put in there.
use Rattle.std.proofs.Common.{◌≡◌, ℕ, zero, suc, Bool, true, ◌&&◌, List, [], ◌∷◌, ◌++◌, Option, Some, None, refl, sym, ap, ◌∙◌}
use Rattle.std.specs.Option.{option_and_then, option_map, unwrap_or}
use Rattle.std.proofs.lemmas.Bool.{and_parts, and_from}
use Rattle.occ_engine.specs.occ_base.declared.names.Name.{Name}
use Rattle.occ_engine.specs.occ_meaning.Context.{branch_at, case_at, child, only_at, part_at, put, tree_at, with_branch, with_case, with_child, with_only, with_tree}
use Rattle.occ_engine.specs.occ_parse.Known.{all_declare, branches_declare, cases_declare, declares, params_declare}
use Rattle.occ_engine.specs.occ_script_lines.Places.{declared_by, scope_list}
use Rattle.occ_engine.specs.occ_syntax.declared.scope.Kind.{Kind}
use Rattle.occ_engine.specs.occ_syntax.Tree.{Tree, skip, stop, assign, receive, send, seq, par, select, alt, declare, connect, Trees, no_tree, and_tree, Cases, no_case, and_case, Branches, no_branch, and_branch}

-- the one that is there
abbrev pub Found : (Tree → Type 0) → Option Tree → Type 0
Found P None = Unit {0}
Found P (Some p) = P p

module _ (test : ℕ → Bool) where
  abbrev Pass : Tree → Type 0
  Pass p = declares test p ≡ true

  -- ---- the parts of a process

  tree_found : (ps : Trees) (i : ℕ) → all_declare test ps ≡ true → Found Pass (tree_at ps i)
  tree_found no_tree i h = tt
  tree_found (and_tree p ps) zero h = (and_parts (declares test p) (all_declare test ps) h).0
  tree_found (and_tree p ps) (suc i) h = tree_found ps i (and_parts (declares test p) (all_declare test ps) h).1

  case_found : (cs : Cases) (i : ℕ) → cases_declare test cs ≡ true → Found Pass (case_at cs i)
  case_found no_case i h = tt
  case_found (and_case e p cs) zero h = (and_parts (declares test p) (cases_declare test cs) h).0
  case_found (and_case e p cs) (suc i) h = case_found cs i (and_parts (declares test p) (cases_declare test cs) h).1

  branch_found : (bs : Branches) (i : ℕ) → branches_declare test bs ≡ true → Found Pass (branch_at bs i)
  branch_found no_branch i h = tt
  branch_found (and_branch e w p bs) zero h = (and_parts (declares test p) (branches_declare test bs) h).0
  branch_found (and_branch e w p bs) (suc i) h = branch_found bs i (and_parts (declares test p) (branches_declare test bs) h).1

  only_found : (p : Tree) (i : ℕ) → Pass p → Found Pass (only_at p i)
  only_found p zero h = h
  only_found p (suc i) h = tt

  child_found : (p : Tree) (i : ℕ) → Pass p → Found Pass (child p i)
  child_found skip i h = tt
  child_found stop i h = tt
  child_found (assign xs es) i h = tt
  child_found (receive c x) i h = tt
  child_found (send c e) i h = tt
  child_found (seq ps) i h = tree_found ps i h
  child_found (par ps) i h = tree_found ps i h
  child_found (select cs) i h = case_found cs i h
  child_found (alt bs) i h = branch_found bs i h
  child_found (declare x w p) i h = only_found p i (and_parts (test x) (declares test p) h).1
  child_found (connect c w p) i h = only_found p i (and_parts (test c) (declares test p) h).1

  found_is : (q : Tree) (o : Option Tree) → o ≡ Some q → Found Pass o → Pass q
  found_is q None e h = absurd cc
  found_is q (Some p) e h = let same : p ≡ q = cc in ap (declares test) (sym same) ∙ h

  -- the part at a path
  pub part_pass : (path : List ℕ) (p q : Tree) → part_at path p ≡ Some q → declares test p ≡ true → declares test q ≡ true
  part_pass [] p q e h = found_is q (Some p) e h
  part_pass (i ∷ path) p q e h = below (λ c k f. part_pass path c q k f) (child p i) (child_found p i h) e
    where
      below : ((c : Tree) → part_at path c ≡ Some q → Pass c → Pass q) → (o : Option Tree) → Found Pass o
          → option_and_then (part_at path) o ≡ Some q → Pass q
      below further None f k = absurd cc
      below further (Some c) f k = further c k f

  -- ---- one of them replaced

  tree_put : (ps : Trees) (i : ℕ) (r : Tree) → all_declare test ps ≡ true → Pass r → all_declare test (with_tree ps i r) ≡ true
  tree_put no_tree i r h k = refl
  tree_put (and_tree p ps) zero r h k =
      and_from (declares test r) (all_declare test ps) k (and_parts (declares test p) (all_declare test ps) h).1
  tree_put (and_tree p ps) (suc i) r h k =
      let a = and_parts (declares test p) (all_declare test ps) h in
      and_from (declares test p) (all_declare test (with_tree ps i r)) a.0 (tree_put ps i r a.1 k)

  case_put : (cs : Cases) (i : ℕ) (r : Tree) → cases_declare test cs ≡ true → Pass r → cases_declare test (with_case cs i r) ≡ true
  case_put no_case i r h k = refl
  case_put (and_case e p cs) zero r h k =
      and_from (declares test r) (cases_declare test cs) k (and_parts (declares test p) (cases_declare test cs) h).1
  case_put (and_case e p cs) (suc i) r h k =
      let a = and_parts (declares test p) (cases_declare test cs) h in
      and_from (declares test p) (cases_declare test (with_case cs i r)) a.0 (case_put cs i r a.1 k)

  branch_put : (bs : Branches) (i : ℕ) (r : Tree) → branches_declare test bs ≡ true → Pass r
      → branches_declare test (with_branch bs i r) ≡ true
  branch_put no_branch i r h k = refl
  branch_put (and_branch e w p bs) zero r h k =
      and_from (declares test r) (branches_declare test bs) k (and_parts (declares test p) (branches_declare test bs) h).1
  branch_put (and_branch e w p bs) (suc i) r h k =
      let a = and_parts (declares test p) (branches_declare test bs) h in
      and_from (declares test p) (branches_declare test (with_branch bs i r)) a.0 (branch_put bs i r a.1 k)

  only_put : (x : ℕ) (p : Tree) (i : ℕ) (r : Tree) → (test x && declares test p) ≡ true → Pass r
      → (test x && declares test (with_only p i r)) ≡ true
  only_put x p zero r h k = and_from (test x) (declares test r) (and_parts (test x) (declares test p) h).0 k
  only_put x p (suc i) r h k = h

  child_put : (p : Tree) (i : ℕ) (r : Tree) → Pass p → Pass r → Pass (with_child p i r)
  child_put skip i r h k = refl
  child_put stop i r h k = refl
  child_put (assign xs es) i r h k = refl
  child_put (receive c x) i r h k = refl
  child_put (send c e) i r h k = refl
  child_put (seq ps) i r h k = tree_put ps i r h k
  child_put (par ps) i r h k = tree_put ps i r h k
  child_put (select cs) i r h k = case_put cs i r h k
  child_put (alt bs) i r h k = branch_put bs i r h k
  child_put (declare x w p) i r h k = only_put x p i r h k
  child_put (connect c w p) i r h k = only_put c p i r h k

  -- a part put in at a path
  pub put_pass : (path : List ℕ) (p r : Tree) → declares test p ≡ true → declares test r ≡ true → declares test (put path p r) ≡ true
  put_pass [] p r h k = k
  put_pass (i ∷ path) p r h k = below (λ c f. put_pass path c r f k) (child p i) (child_found p i h)
    where
      below : ((c : Tree) → Pass c → Pass (put path c r)) → (o : Option Tree) → Found Pass o
          → Pass (unwrap_or (option_map (λ q. with_child p i (put path q r)) o) p)
      below further None f = h
      below further (Some c) f = child_put p i (put path c r) h (further c f)

  -- ---- the scope there

  abbrev Named : List (Name × Kind) → Type 0
  Named S = params_declare test S ≡ true

  more_named : (S T : List (Name × Kind)) → Named S → Named T → Named (S ++ T)
  more_named [] T h k = k
  more_named (s ∷ S) T h k =
      let a = and_parts (test s.0.0) (params_declare test S) h in
      and_from (test s.0.0) (params_declare test (S ++ T)) a.0 (more_named S T a.1 k)

  declared_named : (p : Tree) → Pass p → Named (declared_by p)
  declared_named (declare x w p) h = and_from (test x) true (and_parts (test x) (declares test p) h).0 refl
  declared_named (connect c w p) h = and_from (test c) true (and_parts (test c) (declares test p) h).0 refl
  declared_named skip h = refl
  declared_named stop h = refl
  declared_named (assign xs es) h = refl
  declared_named (receive c x) h = refl
  declared_named (send c e) h = refl
  declared_named (seq ps) h = refl
  declared_named (par ps) h = refl
  declared_named (select cs) h = refl
  declared_named (alt bs) h = refl

  pub scope_pass : (path : List ℕ) (S : List (Name × Kind)) (p : Tree) → params_declare test S ≡ true → declares test p ≡ true
      → params_declare test (scope_list path S p) ≡ true
  scope_pass [] S p h k = h
  scope_pass (i ∷ path) S p h k =
      below (λ c f. scope_pass path (S ++ declared_by p) c (more_named S (declared_by p) h (declared_named p k)) f) (child p i)
      (child_found p i k)
    where
      below : ((c : Tree) → Pass c → Named (scope_list path (S ++ declared_by p) c)) → (o : Option Tree) → Found Pass o
          → Named (unwrap_or (option_map (scope_list path (S ++ declared_by p)) o) S)
      below further None f = h
      below further (Some c) f = further c f
