use Rattle.std.proofs.Common.{◌≡◌, take}
use Rattle.indexmap.specs.IndexMap.{get}
use Rattle.occ_syntax.specs.occ_base.declared.names.Name.{Name}
use Rattle.occ_norm_par.specs.Spans.{has_end_on, noted, same_name}
use Rattle.occ_norm_par.proofs.users.note_all.Given as goal

abbrev pub invariant-loop-end : goal.invariant-loop-end
invariant-loop-end l = (c : Name) → get same_name l.used c ≡ noted (has_end_on (take l.end-index l.ends) c) (get same_name l.fn.used c) l.place
