-- The usage rule of parallel parts, and what a part that may run keeps.
use Rattle.std.specs.Prelude.{ℕ, ◌≡◌, true, false}
use Rattle.occ_base.specs.declared.event.Dir.{Dir}
use Rattle.occ_syntax.specs.Tree.{Tree, skip, stop, assign, receive, send, seq, par, select, alt, declare, connect, Trees, no_tree, and_tree, Cases, no_case, and_case, Branches, no_branch, and_branch}
use Rattle.occ_syntax.specs.Scopes.{Environment}
use Rattle.occ_syntax.specs.Types.{types_kept}
use Rattle.occ_syntax.specs.Names.{free, written, uses_end}

-- No part names a variable that the other writes, and no end of a channel is used in both.
pub record IsSeparate (p q : Tree) : Type 0 where
  pub first_writes : (x : ℕ) → written p x ≡ true → free q x ≡ false
  pub second_writes : (x : ℕ) → written q x ≡ true → free p x ≡ false
  pub ends : (c : ℕ) (d : Dir) → uses_end p c d ≡ true → uses_end q c d ≡ false

-- At each PAR each part is separate from each other.
abbrev mutual
  pub KeepsUsage : Tree → Type 0
  KeepsUsage skip = Unit {0}
  KeepsUsage stop = Unit {0}
  KeepsUsage (assign xs es) = Unit {0}
  KeepsUsage (receive c x) = Unit {0}
  KeepsUsage (send c e) = Unit {0}
  KeepsUsage (seq ps) = AllKeepUsage ps
  KeepsUsage (par ps) = AllKeepUsage ps × AreSeparate ps
  KeepsUsage (select cs) = CasesKeepUsage cs
  KeepsUsage (alt bs) = BranchesKeepUsage bs
  KeepsUsage (declare x w p) = KeepsUsage p
  KeepsUsage (connect c w p) = KeepsUsage p

  pub AllKeepUsage : Trees → Type 0
  AllKeepUsage no_tree = Unit {0}
  AllKeepUsage (and_tree p ps) = KeepsUsage p × AllKeepUsage ps

  pub AreSeparate : Trees → Type 0
  AreSeparate no_tree = Unit {0}
  AreSeparate (and_tree p ps) = IsSeparate p (par ps) × AreSeparate ps

  pub CasesKeepUsage : Cases → Type 0
  CasesKeepUsage no_case = Unit {0}
  CasesKeepUsage (and_case e p cs) = KeepsUsage p × CasesKeepUsage cs

  pub BranchesKeepUsage : Branches → Type 0
  BranchesKeepUsage no_branch = Unit {0}
  BranchesKeepUsage (and_branch e w p bs) = KeepsUsage p × BranchesKeepUsage bs

-- A part keeps names, types, directions and usage in its scope.
pub record Keeps (Γ : Environment) (p : Tree) : Type 0 where
  pub types : types_kept p Γ ≡ true
  pub usage : KeepsUsage p
