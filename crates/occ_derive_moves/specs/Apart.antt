-- The names that a part declares: where a declaration comes to stand round something else, it is to capture none of its names.
use Rattle.std.specs.Prelude.{ℕ, ◌==◌, Bool, false, ◌||◌}
use Rattle.occ_target_laws.specs.occ_syntax.Tree.{Tree, skip, stop, assign, receive, send, seq, par, select, alt, declare, connect, Trees, no_tree, and_tree, Cases, no_case, and_case, Branches, no_branch, and_branch}

-- whether a part declares a name
abbrev mutual
  pub has_declared : Tree → ℕ → Bool
  has_declared skip x = false
  has_declared stop x = false
  has_declared (assign xs es) x = false
  has_declared (receive c y) x = false
  has_declared (send c e) x = false
  has_declared (seq ps) x = some_declare ps x
  has_declared (par ps) x = some_declare ps x
  has_declared (select cs) x = some_case_declares cs x
  has_declared (alt gs) x = some_branch_declares gs x
  has_declared (declare y w p) x = (x == y) || has_declared p x
  has_declared (connect c w p) x = (x == c) || has_declared p x

  pub some_declare : Trees → ℕ → Bool
  some_declare no_tree x = false
  some_declare (and_tree p ps) x = has_declared p x || some_declare ps x

  pub some_case_declares : Cases → ℕ → Bool
  some_case_declares no_case x = false
  some_case_declares (and_case b p cs) x = has_declared p x || some_case_declares cs x

  pub some_branch_declares : Branches → ℕ → Bool
  some_branch_declares no_branch x = false
  some_branch_declares (and_branch b w p gs) x = has_declared p x || some_branch_declares gs x
