use Rattle.indexmap.specs.IndexMap.{get}
use Rattle.occ_norm_par.specs.Spans.{same_name}
use Rattle.occ_norm_par.proofs.Spanning.{listed_end, listed_more}
use Rattle.occ_norm_par.proofs.users.listed.Goals as goal

pub loop-chan-preserved : goal.loop-chan-preserved
loop-chan-preserved c = listed_more (get same_name c.args.used.now) _ _ _ _ _ _ c.loop-chan-test.true c.loop-chan.invariant c.found_places-places.ensures c.in_ok-add.ensures

pub returns : goal.returns
returns c = listed_end (get same_name c.args.used.now) _ _ _ c.loop-chan-test.false c.loop-chan.invariant
