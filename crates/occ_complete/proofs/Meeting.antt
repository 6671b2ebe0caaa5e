-- The law of a PAR of two ALTs, between two sides that keep the rules.
use Rattle.std.proofs.Common.{List, []}
use Rattle.occ_engine.specs.occ_base.declared.names.Name.{Name}
use Rattle.occ_engine.proofs.Keeping.{expansion_kept}
use Rattle.occ_engine.specs.occ_law.Parallel.{expanded, par_expand}
use Rattle.occ_engine.specs.occ_law.RuleTable.{LAW}
use Rattle.occ_engine.specs.occ_meaning.Parallel.{two}
use Rattle.occ_engine.specs.occ_syntax.declared.scope.Kind.{Kind}
use Rattle.occ_engine.specs.occ_syntax.Scopes.{environment}
use Rattle.occ_engine.specs.occ_syntax.Tree.{Branches, alt, par}
use Rattle.occ_engine.specs.occ_syntax.Usage.{Keeps}

pub expansion : (S : List (Name × Kind)) (ls ms : Branches) → Keeps (environment S) (par (two (alt ls) (alt ms)))
    → LAW 45 S (par (two (alt ls) (alt ms))) (alt (expanded ls ms))
expansion S ls ms k = record {
  place = [];
  sides = par_expand ls ms;
  left = k;
  right = expansion_kept (environment S) [] (par (two (alt ls) (alt ms))) (alt (expanded ls ms)) (par_expand ls ms) k;
}
