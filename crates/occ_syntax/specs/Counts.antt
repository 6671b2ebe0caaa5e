-- How large a program is.
use Rattle.std.specs.Prelude.{ℕ, ◌+◌, ◌-◌, ◌^◌, max, min, List, [], ◌∷◌}
use Rattle.occ_base.specs.declared.names.Name.{Name}
use Rattle.occ_base.specs.Width.{bits_of}
use Rattle.occ_syntax.specs.declared.scope.Kind.{Kind}
use Rattle.occ_syntax.specs.declared.scope.Kind.TheVariants.{Var, Chan}
use Rattle.occ_syntax.specs.Tree.{Tree, skip, stop, assign, receive, send, seq, par, select, alt, declare, connect, Trees, no_tree, and_tree, Cases, no_case, and_case, Branches, no_branch, and_branch}

-- a count as 64 bits hold it: the greatest such number stands for all that are greater
abbrev pub capped : ℕ → ℕ
capped n = min n (2 ^ 64 - 1)

-- The controls of a part: one for each process, and one more for each branch of an IF or an ALT.
abbrev mutual
  pub controls : Tree → ℕ
  controls skip = 1
  controls stop = 1
  controls (assign xs es) = 1
  controls (receive c x) = 1
  controls (send c e) = 1
  controls (seq ps) = 1 + controls_of_all ps
  controls (par ps) = 1 + controls_of_all ps
  controls (select cs) = 1 + controls_of_cases cs
  controls (alt bs) = 1 + controls_of_branches bs
  controls (declare x w p) = 1 + controls p
  controls (connect c w p) = 1 + controls p

  pub controls_of_all : Trees → ℕ
  controls_of_all no_tree = 0
  controls_of_all (and_tree p ps) = controls p + controls_of_all ps

  pub controls_of_cases : Cases → ℕ
  controls_of_cases no_case = 0
  controls_of_cases (and_case e p cs) = 1 + controls p + controls_of_cases cs

  pub controls_of_branches : Branches → ℕ
  controls_of_branches no_branch = 0
  controls_of_branches (and_branch e w p bs) = 1 + controls p + controls_of_branches bs

abbrev pub bits_of_kind : Kind → ℕ
bits_of_kind (Var width) = bits_of width
bits_of_kind (Chan width dir) = 0

-- the bits of the variables of a scope together
abbrev pub bits_of_scope : List (Name × Kind) → ℕ
bits_of_scope [] = 0
bits_of_scope (entry ∷ entries) = bits_of_kind entry.1 + bits_of_scope entries

-- The most bits of variables that are in scope at one place of a part, where so many are in scope already.
abbrev mutual
  pub most_bits : Tree → ℕ → ℕ
  most_bits skip n = n
  most_bits stop n = n
  most_bits (assign xs es) n = n
  most_bits (receive c x) n = n
  most_bits (send c e) n = n
  most_bits (seq ps) n = most_bits_of_all ps n
  most_bits (par ps) n = most_bits_of_all ps n
  most_bits (select cs) n = most_bits_of_cases cs n
  most_bits (alt bs) n = most_bits_of_branches bs n
  most_bits (declare x w p) n = most_bits p (n + bits_of w)
  most_bits (connect c w p) n = most_bits p n

  pub most_bits_of_all : Trees → ℕ → ℕ
  most_bits_of_all no_tree n = n
  most_bits_of_all (and_tree p ps) n = max (most_bits p n) (most_bits_of_all ps n)

  pub most_bits_of_cases : Cases → ℕ → ℕ
  most_bits_of_cases no_case n = n
  most_bits_of_cases (and_case e p cs) n = max (most_bits p n) (most_bits_of_cases cs n)

  pub most_bits_of_branches : Branches → ℕ → ℕ
  most_bits_of_branches no_branch n = n
  most_bits_of_branches (and_branch e w p bs) n = max (most_bits p n) (most_bits_of_branches bs n)
