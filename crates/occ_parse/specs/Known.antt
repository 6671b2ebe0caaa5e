-- The names of a program that have texts in a table.
use Rattle.std.specs.Prelude.{ℕ, ◌≡◌, Bool, true, ◌&&◌, nat_lt, List, length}
use Rattle.std.specs.List.{list_all}
use Rattle.occ_syntax.specs.occ_base.declared.names.Name.{Name}
use Rattle.occ_syntax.specs.declared.scope.Kind.{Kind}
use Rattle.occ_syntax.specs.declared.scope.Program.{Program}
use Rattle.occ_syntax.specs.Tree.{Tree, skip, stop, assign, receive, send, seq, par, select, alt, declare, connect, Trees, no_tree, and_tree, Cases, no_case, and_case, Branches, no_branch, and_branch}
use Rattle.occ_syntax.specs.View.{tree}

-- each name that is declared in a part passes a test
abbrev mutual
  pub declares : (ℕ → Bool) → Tree → Bool
  declares test skip = true
  declares test stop = true
  declares test (assign xs es) = true
  declares test (receive c x) = true
  declares test (send c e) = true
  declares test (seq ps) = all_declare test ps
  declares test (par ps) = all_declare test ps
  declares test (select cs) = cases_declare test cs
  declares test (alt bs) = branches_declare test bs
  declares test (declare x w p) = test x && declares test p
  declares test (connect c w p) = test c && declares test p

  pub all_declare : (ℕ → Bool) → Trees → Bool
  all_declare test no_tree = true
  all_declare test (and_tree p ps) = declares test p && all_declare test ps

  pub cases_declare : (ℕ → Bool) → Cases → Bool
  cases_declare test no_case = true
  cases_declare test (and_case e p cs) = declares test p && cases_declare test cs

  pub branches_declare : (ℕ → Bool) → Branches → Bool
  branches_declare test no_branch = true
  branches_declare test (and_branch e w p bs) = declares test p && branches_declare test bs

-- each parameter's name passes a test
abbrev pub params_declare : (ℕ → Bool) → List (Name × Kind) → Bool
params_declare test params = list_all (λ (entry : Name × Kind). test entry.0.0) params

-- the number is that of a text in the table
abbrev pub is_below : ℕ → ℕ → Bool
is_below n = λ x. nat_lt x n

-- the parameters, and the names that are declared in the body, have texts in the table
pub record NamesAreKnown (names : List (List ℕ)) (program : Program) : Type 0 where
  pub params : params_declare (is_below (length names)) program.params ≡ true
  pub body : declares (is_below (length names)) (tree program.body) ≡ true
