use Rattle.std.proofs.Common.{get_or, refl, arith}
use Rattle.occ_norm_assign.proofs.Keeping.{digits_more, writes_push}
use Rattle.occ_norm_assign.proofs.writes.add_digits.Goals as goal

pub loop-place-preserved : goal.loop-place-preserved
loop-place-preserved c = record {
  writes = λ s are known. writes_push s c.loop-place.writes.items c.push.new.self.items c.args.sets.now c.args.first c.loop-place.place (get_or c.args.sets.now c.loop-place.place (record { 0 = 0 })) (record { 0 = 0 }) (c.loop-place.invariant.writes s are known) known (omega arith) refl c.requires c.in_ok-push.ensures.items;
  each = digits_more c.args.first c.loop-place.place c.args.sets.now (get_or c.args.sets.now c.loop-place.place (record { 0 = 0 })) (record { 0 = 0 }) c.args.writes.now.items c.loop-place.writes.items c.push.new.self.items (omega arith) refl c.loop-place.invariant.each c.in_ok-push.ensures.items;
}
