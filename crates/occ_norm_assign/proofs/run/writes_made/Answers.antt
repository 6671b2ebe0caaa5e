use Rattle.std.proofs.Common.{arith}
use Rattle.occ_norm_frame.proofs.from_bits.Reaching.{digits-keep, none}
use Rattle.occ_norm_frame.proofs.Worlds.{extends_refl, extends_trans}
use Rattle.occ_norm_assign.proofs.Writing.{none_written, written_more, written_same}
use Rattle.occ_norm_assign.proofs.run.writes_made.Goals as goal

pub loop-place-init : goal.loop-place-init
loop-place-init c = record { extends = extends_refl c.args.world.now; written = none_written c.args.world.now c.args.digits.now _ c.new-writes.ensures.items }

pub loop-place-preserved : goal.loop-place-preserved
loop-place-preserved c = record {
  extends = extends_trans c.args.world.now c.loop-place.world c.bit.new.self c.loop-place.invariant.extends c.bit.ensures.extends;
  written = written_more c.loop-place.world c.bit.new.self c.bit.ensures.extends c.args.digits.now c.loop-place.place none c.loop-place.writes.items c.push.new.self.items
      (digits-keep c.args.world.now.store c.loop-place.world.store c.loop-place.invariant.extends.grows.stored c.args.digits.now c.requires.digits)
      (omega (arith, c.requires.digits.count)) c.in_ok-push.ensures.items c.loop-place.invariant.written;
}

pub loop-place-preserved-then-set-stays : goal.loop-place-preserved-then-set-stays
loop-place-preserved-then-set-stays c = record {
  extends = extends_trans c.args.world.now c.loop-place.world c.bit.new.self c.loop-place.invariant.extends c.bit.ensures.extends;
  written = written_same c.loop-place.world c.bit.new.self c.bit.ensures.extends c.args.digits.now c.loop-place.place none c.in_ok-stays.stays c.loop-place.writes.items
      (digits-keep c.args.world.now.store c.loop-place.world.store c.loop-place.invariant.extends.grows.stored c.args.digits.now c.requires.digits)
      (omega (arith, c.requires.digits.count)) c.in_ok-stays.ensures.set c.if-set-stays.true c.loop-place.invariant.written;
}
