-- A size that falls from a control tree to its parts: the measure of each recursion over control trees.
use Rattle.std.proofs.Common.{◌≡◌, ℕ, ◌+◌, ◌≤◌, List, [], ◌∷◌, ap, arith}
use Rattle.occ_syntax.specs.occ_base.declared.names.Name.{Name}
use Rattle.occ_syntax.specs.occ_base.declared.width.Width.{Width}
use Rattle.occ_run_steps.specs.Control.{Control, done, unbegun, after, both, local, channel, Controls, no_control, and_control}
use Rattle.occ_run.specs.View.{in_channels}

abbrev mutual
  pub size : Control → ℕ
  size done = 1
  size (unbegun p) = 1
  size (after C ps) = 1 + size C
  size (both Cs) = 1 + sizes Cs
  size (local x w v C) = 1 + size C
  size (channel c w C) = 1 + size C

  pub sizes : Controls → ℕ
  sizes no_control = 0
  sizes (and_control C Cs) = 1 + size C + sizes Cs

pub size_in_channels : (cs : List (Name × Width)) (C : Control) → size C ≤ size (in_channels cs C)
size_in_channels [] C = omega arith
size_in_channels (c ∷ cs) C = let h = size_in_channels cs C in omega arith

pub size_both : (C : Control) (Cs : Controls) → C ≡ both Cs → size C ≡ 1 + sizes Cs
size_both C Cs e = ap size e
