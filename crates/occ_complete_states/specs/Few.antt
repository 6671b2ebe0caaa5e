-- Parts in which the conditions of each IF name few bits together.
use Rattle.std.specs.Prelude.{List, [], ◌∷◌, ◌++◌, None}
use Rattle.occ_derive_laws.specs.occ_base.declared.names.Name.{Name}
use Rattle.occ_derive_laws.specs.occ_law.Lists.{conditions}
use Rattle.occ_derive_laws.specs.occ_law.States.{AreFew}
use Rattle.occ_derive_laws.specs.occ_syntax.declared.scope.Kind.{Kind}
use Rattle.occ_derive_laws.specs.occ_syntax.declared.scope.Kind.TheVariants.{Chan, Var}
use Rattle.occ_derive_laws.specs.occ_syntax.Tree.{Tree, skip, stop, assign, receive, send, seq, par, select, alt, declare, connect, Trees, no_tree, and_tree, Cases, no_case, and_case, Branches, no_branch, and_branch}

-- The conditions of each IF name variables of at most 24 bits, which S and the declarations round the IF declare.
abbrev mutual
  pub IsFew : List (Name × Kind) → Tree → Type 0
  IsFew S skip = Unit {0}
  IsFew S stop = Unit {0}
  IsFew S (assign xs es) = Unit {0}
  IsFew S (receive c x) = Unit {0}
  IsFew S (send c e) = Unit {0}
  IsFew S (seq ps) = AllFew S ps
  IsFew S (par ps) = AllFew S ps
  IsFew S (select cs) = AreFew S (conditions cs) × CasesFew S cs
  IsFew S (alt gs) = BranchesFew S gs
  IsFew S (declare x w p) = IsFew (S ++ (record { 0 = x }, Var w) ∷ []) p
  IsFew S (connect c w p) = IsFew (S ++ (record { 0 = c }, Chan w None) ∷ []) p

  pub AllFew : List (Name × Kind) → Trees → Type 0
  AllFew S no_tree = Unit {0}
  AllFew S (and_tree p ps) = IsFew S p × AllFew S ps

  pub CasesFew : List (Name × Kind) → Cases → Type 0
  CasesFew S no_case = Unit {0}
  CasesFew S (and_case b p cs) = IsFew S p × CasesFew S cs

  pub BranchesFew : List (Name × Kind) → Branches → Type 0
  BranchesFew S no_branch = Unit {0}
  BranchesFew S (and_branch b w p gs) = IsFew S p × BranchesFew S gs
