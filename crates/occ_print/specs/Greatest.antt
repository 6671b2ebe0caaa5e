-- The greatest number of a name in a part, or another one that is greater still.
use Rattle.std.specs.Prelude.{ℕ, max, List, [], ◌∷◌}
use Rattle.occ_syntax.specs.Tree.{Exp, variable, numeral, truth, negation, complement, operation, Waiting, ready, input, output, Tree, skip, stop, assign, receive, send, seq, par, select, alt, declare, connect, Trees, no_tree, and_tree, Cases, no_case, and_case, Branches, no_branch, and_branch}

abbrev pub greatest_in : Exp → ℕ → ℕ
greatest_in (variable x) m = max m x
greatest_in (numeral bits value) m = m
greatest_in (truth b) m = m
greatest_in (negation e) m = greatest_in e m
greatest_in (complement e) m = greatest_in e m
greatest_in (operation o left right) m = greatest_in right (greatest_in left m)

abbrev pub greatest_of_exps : List Exp → ℕ → ℕ
greatest_of_exps [] m = m
greatest_of_exps (e ∷ es) m = greatest_of_exps es (greatest_in e m)

abbrev pub greatest_of_names : List ℕ → ℕ → ℕ
greatest_of_names [] m = m
greatest_of_names (x ∷ xs) m = greatest_of_names xs (max m x)

abbrev pub greatest_waiting : Waiting → ℕ → ℕ
greatest_waiting ready m = m
greatest_waiting (input c x) m = max (max m c) x
greatest_waiting (output c e) m = greatest_in e (max m c)

abbrev mutual
  pub greatest : Tree → ℕ → ℕ
  greatest skip m = m
  greatest stop m = m
  greatest (assign xs es) m = greatest_of_exps es (greatest_of_names xs m)
  greatest (receive c x) m = max (max m c) x
  greatest (send c e) m = greatest_in e (max m c)
  greatest (seq ps) m = greatest_of_all ps m
  greatest (par ps) m = greatest_of_all ps m
  greatest (select cs) m = greatest_of_cases cs m
  greatest (alt bs) m = greatest_of_branches bs m
  greatest (declare x w p) m = greatest p (max m x)
  greatest (connect c w p) m = greatest p (max m c)

  pub greatest_of_all : Trees → ℕ → ℕ
  greatest_of_all no_tree m = m
  greatest_of_all (and_tree p ps) m = greatest_of_all ps (greatest p m)

  pub greatest_of_cases : Cases → ℕ → ℕ
  greatest_of_cases no_case m = m
  greatest_of_cases (and_case e p cs) m = greatest_of_cases cs (greatest p (greatest_in e m))

  pub greatest_of_branches : Branches → ℕ → ℕ
  greatest_of_branches no_branch m = m
  greatest_of_branches (and_branch e w p bs) m = greatest_of_branches bs (greatest p (greatest_waiting w (greatest_in e m)))
