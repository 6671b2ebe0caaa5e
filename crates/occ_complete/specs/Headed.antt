-- That a part leads to one of which it is plain what it does first.
use Rattle.std.specs.Prelude.{◌≤◌, List}
use Rattle.occ_engine.specs.occ_base.declared.names.Name.{Name}
use Rattle.occ_complete_states.specs.occ_derive_moves.Weight.{weight}
use Rattle.occ_complete_states.specs.Few.{IsFew}
use Rattle.occ_complete_states.specs.Heads.{IsHead}
use Rattle.occ_complete_states.specs.Leads.{LeadsSparing}
use Rattle.occ_engine.specs.occ_syntax.declared.scope.Kind.{Kind}
use Rattle.occ_engine.specs.occ_syntax.Tree.{Tree}

-- Wherever the part stands, it leads to a head that is no heavier, and in which the conditions of each IF name few bits.
pub record HasHead (S : List (Name × Kind)) (p : Tree) : Type 0 where
  pub head : Tree
  pub leads : LeadsSparing S p head
  pub is : IsHead head
  pub light : weight head ≤ weight p
  pub few : IsFew S head
