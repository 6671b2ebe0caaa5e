-- How much is left to do: what a step from one state to the next takes from.
use Rattle.std.specs.Prelude.{ℕ, ◌+◌, max}
use Rattle.occ_target_laws.specs.occ_syntax.Tree.{Tree, skip, stop, assign, receive, send, seq, par, select, alt, declare, connect, Trees, no_tree, and_tree, Cases, no_case, and_case, Branches, no_branch, and_branch}

abbrev mutual
  pub weight : Tree → ℕ
  weight skip = 0
  weight stop = 1
  weight (assign xs es) = 1
  weight (receive c x) = 2
  weight (send c e) = 2
  weight (seq ps) = weight_of_all ps
  weight (par ps) = weight_of_all ps
  weight (select cs) = 1 + max 1 (heaviest_case cs)
  weight (alt gs) = 1 + heaviest_branch gs
  weight (declare x w p) = 2 + weight p
  weight (connect c w p) = weight p

  pub weight_of_all : Trees → ℕ
  weight_of_all no_tree = 0
  weight_of_all (and_tree p ps) = weight p + weight_of_all ps

  pub heaviest_case : Cases → ℕ
  heaviest_case no_case = 0
  heaviest_case (and_case b p cs) = max (weight p) (heaviest_case cs)

  pub heaviest_branch : Branches → ℕ
  heaviest_branch no_branch = 0
  heaviest_branch (and_branch b w p gs) = max (weight p) (heaviest_branch gs)
