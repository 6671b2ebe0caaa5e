use Rattle.std.proofs.Common.{◌≡◌, ◌++◌, drop}
use Rattle.indexmap.specs.IndexMap.{get}
use Rattle.occ_norm_par.specs.Spans.{listed, same_name}
use Rattle.occ_norm_par.proofs.users.listed.Given as goal

abbrev pub invariant-loop-chan : goal.invariant-loop-chan
invariant-loop-chan l = l.users.items ++ listed (get same_name l.used) (drop l.chan-index l.chans) ≡ listed (get same_name l.used) l.chans
