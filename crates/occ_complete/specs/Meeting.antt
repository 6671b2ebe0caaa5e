-- Programs that lead to one body.
use Rattle.std.specs.Prelude.{◌≡◌, true, List}
use Rattle.std.specs.List.{AllByRecursion}
use Rattle.occ_engine.specs.occ_base.declared.names.Name.{Name}
use Rattle.occ_complete_states.specs.Leads.{Leads}
use Rattle.occ_complete_states.specs.occ_nform_table.Tables.{is_marked}
use Rattle.occ_engine.specs.occ_syntax.declared.scope.Kind.{Kind}
use Rattle.occ_engine.specs.occ_syntax.Tree.{Tree}

-- each channel among the parameters is marked as one for input or one for output
abbrev pub AreMarked : List (Name × Kind) → Type 0
AreMarked S = AllByRecursion (λ (p : Name × Kind). is_marked p.1 ≡ true) S

-- Both parts lead to one.
pub record Meet (S : List (Name × Kind)) (p q : Tree) : Type 0 where
  pub meeting : Tree
  pub first : Leads S p meeting
  pub second : Leads S q meeting
