use Rattle.std.proofs.Common.{sym, refl}
use Rattle.occ_norm_arrange.proofs.Listed.{all_of_none, copied_more, trees_pushed}
use Rattle.occ_norm_arrange.proofs.FlatNoting.{known_more}
use Rattle.occ_norm_arrange.proofs.flat.Spread.push_all.Goals as goal

pub loop-part-init : goal.loop-part-init
loop-part-init c = record { parts = sym (all_of_none _); known = c.requires; chans = refl }

pub loop-part-preserved : goal.loop-part-preserved
loop-part-preserved c = record {
  parts = copied_more _ _ _ _ _ _ _ c.loop-part-test.true c.part-item.is c.in_ok-copy.ensures c.in_ok-push.ensures.ok c.loop-part.invariant.parts;
  known = known_more _ _ _ _ _ c.loop-part.invariant.known c.in_ok-note_declared.ensures (trees_pushed _ _ _ _ c.in_ok-push.ensures.ok c.in_ok-copy.ensures);
  chans = c.loop-part.invariant.chans;
}
