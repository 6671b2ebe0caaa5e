-- Which names stand free in a part, which variables it assigns or inputs, and which channel ends it uses.
use Rattle.std.specs.Prelude.{ℕ, ◌==◌, Bool, false, not, ◌&&◌, ◌||◌, List}
use Rattle.std.specs.List.{list_any}
use Rattle.occ_base.specs.declared.event.Dir.{Dir}
use Rattle.occ_base.specs.declared.event.Dir.TheVariants.{Input, Output}
use Rattle.occ_syntax.specs.Tree.{Exp, variable, numeral, truth, negation, complement, operation, Waiting, ready, input, output, Tree, skip, stop, assign, receive, send, seq, par, select, alt, declare, connect, Trees, no_tree, and_tree, Cases, no_case, and_case, Branches, no_branch, and_branch}
use Rattle.occ_syntax.specs.Scopes.{same_dir}

-- whether an expression names a variable
abbrev pub names : Exp → ℕ → Bool
names (variable y) x = x == y
names (numeral bits value) x = false
names (truth b) x = false
names (negation e) x = names e x
names (complement e) x = names e x
names (operation op left right) x = names left x || names right x

abbrev pub some_names : List Exp → ℕ → Bool
some_names es x = list_any (λ e. names e x) es

abbrev pub is_in : List ℕ → ℕ → Bool
is_in xs x = list_any (λ y. x == y) xs

abbrev pub free_in_waiting : Waiting → ℕ → Bool
free_in_waiting ready x = false
free_in_waiting (input c y) x = x == c || x == y
free_in_waiting (output c e) x = x == c || names e x

abbrev pub written_in_waiting : Waiting → ℕ → Bool
written_in_waiting ready x = false
written_in_waiting (input c y) x = x == y
written_in_waiting (output c e) x = false

abbrev pub end_in_waiting : Waiting → ℕ → Dir → Bool
end_in_waiting ready c d = false
end_in_waiting (input b y) c d = c == b && same_dir d Input
end_in_waiting (output b e) c d = c == b && same_dir d Output

-- whether a name, of a variable or a channel, stands free
abbrev mutual
  pub free : Tree → ℕ → Bool
  free skip x = false
  free stop x = false
  free (assign xs es) x = is_in xs x || some_names es x
  free (receive c y) x = x == c || x == y
  free (send c e) x = x == c || names e x
  free (seq ps) x = free_in_some ps x
  free (par ps) x = free_in_some ps x
  free (select cs) x = free_in_cases cs x
  free (alt bs) x = free_in_branches bs x
  free (declare y w p) x = not (x == y) && free p x
  free (connect c w p) x = not (x == c) && free p x

  pub free_in_some : Trees → ℕ → Bool
  free_in_some no_tree x = false
  free_in_some (and_tree p ps) x = free p x || free_in_some ps x

  pub free_in_cases : Cases → ℕ → Bool
  free_in_cases no_case x = false
  free_in_cases (and_case e p cs) x = (names e x || free p x) || free_in_cases cs x

  pub free_in_branches : Branches → ℕ → Bool
  free_in_branches no_branch x = false
  free_in_branches (and_branch e w p bs) x = ((names e x || free_in_waiting w x) || free p x) || free_in_branches bs x

-- whether a free variable is assigned or input
abbrev mutual
  pub written : Tree → ℕ → Bool
  written skip x = false
  written stop x = false
  written (assign xs es) x = is_in xs x
  written (receive c y) x = x == y
  written (send c e) x = false
  written (seq ps) x = written_in_some ps x
  written (par ps) x = written_in_some ps x
  written (select cs) x = written_in_cases cs x
  written (alt bs) x = written_in_branches bs x
  written (declare y w p) x = not (x == y) && written p x
  written (connect c w p) x = not (x == c) && written p x

  pub written_in_some : Trees → ℕ → Bool
  written_in_some no_tree x = false
  written_in_some (and_tree p ps) x = written p x || written_in_some ps x

  pub written_in_cases : Cases → ℕ → Bool
  written_in_cases no_case x = false
  written_in_cases (and_case e p cs) x = written p x || written_in_cases cs x

  pub written_in_branches : Branches → ℕ → Bool
  written_in_branches no_branch x = false
  written_in_branches (and_branch e w p bs) x = (written_in_waiting w x || written p x) || written_in_branches bs x

-- whether a free channel is used in that direction
abbrev mutual
  pub uses_end : Tree → ℕ → Dir → Bool
  uses_end skip c d = false
  uses_end stop c d = false
  uses_end (assign xs es) c d = false
  uses_end (receive b y) c d = c == b && same_dir d Input
  uses_end (send b e) c d = c == b && same_dir d Output
  uses_end (seq ps) c d = end_in_some ps c d
  uses_end (par ps) c d = end_in_some ps c d
  uses_end (select cs) c d = end_in_cases cs c d
  uses_end (alt bs) c d = end_in_branches bs c d
  uses_end (declare y w p) c d = not (c == y) && uses_end p c d
  uses_end (connect b w p) c d = not (c == b) && uses_end p c d

  pub end_in_some : Trees → ℕ → Dir → Bool
  end_in_some no_tree c d = false
  end_in_some (and_tree p ps) c d = uses_end p c d || end_in_some ps c d

  pub end_in_cases : Cases → ℕ → Dir → Bool
  end_in_cases no_case c d = false
  end_in_cases (and_case e p cs) c d = uses_end p c d || end_in_cases cs c d

  pub end_in_branches : Branches → ℕ → Dir → Bool
  end_in_branches no_branch c d = false
  end_in_branches (and_branch e w p bs) c d = (end_in_waiting w c d || uses_end p c d) || end_in_branches bs c d
