-- Which names a part declares anywhere in it.
use Rattle.std.specs.Prelude.{ℕ, ◌==◌, Bool, false, ◌||◌}
use Rattle.occ_syntax.specs.Tree.{Tree, skip, stop, assign, receive, send, seq, par, select, alt, declare, connect, Trees, no_tree, and_tree, Cases, no_case, and_case, Branches, no_branch, and_branch}

abbrev mutual
  pub declares : Tree → ℕ → Bool
  declares skip x = false
  declares stop x = false
  declares (assign xs es) x = false
  declares (receive c y) x = false
  declares (send c e) x = false
  declares (seq ps) x = some_declare ps x
  declares (par ps) x = some_declare ps x
  declares (select cs) x = cases_declare cs x
  declares (alt bs) x = branches_declare bs x
  declares (declare y w p) x = x == y || declares p x
  declares (connect c w p) x = x == c || declares p x

  pub some_declare : Trees → ℕ → Bool
  some_declare no_tree x = false
  some_declare (and_tree p ps) x = declares p x || some_declare ps x

  pub cases_declare : Cases → ℕ → Bool
  cases_declare no_case x = false
  cases_declare (and_case e p cs) x = declares p x || cases_declare cs x

  pub branches_declare : Branches → ℕ → Bool
  branches_declare no_branch x = false
  branches_declare (and_branch e w p bs) x = declares p x || branches_declare bs x
