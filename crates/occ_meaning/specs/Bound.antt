-- How long the traces of a part can be.
use Rattle.occ_syntax.specs.Tree.{Branches, Cases, Tree, Trees, Waiting, alt, and_branch, and_case, and_tree, assign, connect, declare, input, no_branch, no_case, no_tree, output, par, ready, receive, select, send, seq, skip, stop}
use Rattle.std.specs.Prelude.{max, ℕ, ◌+◌}

abbrev pub guard_events : Waiting → ℕ
guard_events ready = 0
guard_events (input c x) = 1
guard_events (output c e) = 1

-- the communications of a part, on its longest way
abbrev mutual
  pub most_events : Tree → ℕ
  most_events skip = 0
  most_events stop = 0
  most_events (assign xs es) = 0
  most_events (receive c x) = 1
  most_events (send c e) = 1
  most_events (seq ps) = sum_of_events ps
  most_events (par ps) = sum_of_events ps
  most_events (select cs) = most_of_cases cs
  most_events (alt bs) = most_of_branches bs
  most_events (declare x w p) = most_events p
  most_events (connect c w p) = most_events p

  pub sum_of_events : Trees → ℕ
  sum_of_events no_tree = 0
  sum_of_events (and_tree p ps) = most_events p + sum_of_events ps

  pub most_of_cases : Cases → ℕ
  most_of_cases no_case = 0
  most_of_cases (and_case e p cs) = max (most_events p) (most_of_cases cs)

  pub most_of_branches : Branches → ℕ
  most_of_branches no_branch = 0
  most_of_branches (and_branch e w p bs) = max (guard_events w + most_events p) (most_of_branches bs)
