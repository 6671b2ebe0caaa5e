use Rattle.indexmap.specs.IndexMap.{get}
use Rattle.occ_syntax.specs.occ_base.declared.names.Name.{Name}
use Rattle.occ_syntax.specs.View.{trees}
use Rattle.occ_norm_par.specs.Spans.{IsSpan, same_name}
use Rattle.occ_norm_par.proofs.users.places_of.Given as goal

abbrev pub invariant-loop-place : goal.invariant-loop-place
invariant-loop-place l = (c : Name) → IsSpan (trees l.parts) l.place c.0 (get same_name l.used c)
