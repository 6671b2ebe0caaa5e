-- That one part leads to another: laws used on it, one after the other, make the other of it.
use Rattle.std.specs.Prelude.{List}
use Rattle.occ_derive_laws.specs.occ_base.declared.names.Name.{Name}
use Rattle.occ_derive_laws.specs.occ_derive_moves.Moves.{Spares, Works}
use Rattle.occ_derive_laws.specs.occ_replay_rules.Moves.{Move}
use Rattle.occ_derive_laws.specs.occ_syntax.declared.scope.Kind.{Kind}
use Rattle.occ_derive_laws.specs.occ_syntax.Tree.{Exp, Waiting, Tree, Cases, no_case, and_case, Branches, no_branch, and_branch}

-- Moves lead from the one part, in this scope and under no PAR, to the other.
pub record Leads (S : List (Name × Kind)) (p q : Tree) : Type 0 where
  pub moves : List Move
  pub row : Works S p moves q

-- They do wherever the part stands: each new part names, writes and uses no more than the old one.
pub record LeadsSparing (S : List (Name × Kind)) (p q : Tree) : Type 0 where
  pub moves : List Move
  pub row : Spares S p moves q

-- the process of each choice leads to that of the other one
pub data CasesLead (S : List (Name × Kind)) : Cases → Cases → Type 0 where
  no_cases : CasesLead S no_case no_case
  and_cases : {b : Exp} {p q : Tree} {cs ds : Cases} → Leads S p q → CasesLead S cs ds → CasesLead S (and_case b p cs) (and_case b q ds)

-- the process of each branch leads to that of the other one
pub data BranchesLead (S : List (Name × Kind)) : Branches → Branches → Type 0 where
  no_branches : BranchesLead S no_branch no_branch
  and_branches : {b : Exp} {w : Waiting} {p q : Tree} {gs hs : Branches} → Leads S p q → BranchesLead S gs hs
      → BranchesLead S (and_branch b w p gs) (and_branch b w q hs)
