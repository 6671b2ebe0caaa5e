-- Parts that declare none of some names.
use Rattle.std.specs.Prelude.{ℕ, ◌≡◌, true, false, List}
use Rattle.occ_engine.specs.occ_base.declared.names.Name.{Name}
use Rattle.occ_complete_states.specs.occ_derive_moves.Apart.{has_declared}
use Rattle.occ_complete_states.specs.Few.{IsFew}
use Rattle.occ_complete_states.specs.Leads.{LeadsSparing}
use Rattle.occ_engine.specs.occ_syntax.declared.scope.Kind.{Kind}
use Rattle.occ_engine.specs.occ_syntax.Names.{is_in}
use Rattle.occ_engine.specs.occ_syntax.Tree.{Tree}

-- The part leads, by sparing moves, to one that declares none of these names.
pub record IsFreed (S : List (Name × Kind)) (ts : List ℕ) (p : Tree) : Type 0 where
  pub part : Tree
  pub leads : LeadsSparing S p part
  pub none : (t : ℕ) → is_in ts t ≡ true → has_declared part t ≡ false
  pub few : IsFew S part
