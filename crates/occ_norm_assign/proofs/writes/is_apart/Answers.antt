use Rattle.std.proofs.Common.{sym, ◌∙◌, subst, arith}
use Rattle.std.proofs.lemmas.List.{take_all}
use Rattle.occ_norm_frame.proofs.Worlds.{extends_trans}
use Rattle.occ_norm_assign.specs.Written.{IsFree, is_changed, no_write}
use Rattle.occ_norm_assign.proofs.Exchanging.{free_next, set_still}
use Rattle.occ_norm_assign.proofs.writes.is_apart.Goals as goal

pub is_free-requires-clause-set : goal.is_free-requires-clause-set
is_free-requires-clause-set c = c.loop-place.invariant.set.known

pub is_free-requires-clause-bit : goal.is_free-requires-clause-bit
is_free-requires-clause-bit c = (c.requires.others c.loop-place.place no_write (omega arith)).within

pub loop-place-init : goal.loop-place-init
loop-place-init c = record {
  extends = extends_trans c.args.world.now c.changed.new.self c.is_above.new.world c.changed.ensures.extends c.is_above.ensures;
  set = set_still c.changed.new.self.store c.is_above.new.world.store c.is_above.ensures.grows.stored c.in_ok-set.set (is_changed c.args.world.now.store c.args.write) c.in_ok-set.ensures.set;
  free = tt;
}

pub loop-place-preserved : goal.loop-place-preserved
loop-place-preserved c = record {
  extends = extends_trans c.args.world.now c.loop-place.world c.is_free.new.self c.loop-place.invariant.extends c.is_free.ensures.extends;
  set = set_still c.loop-place.world.store c.is_free.new.self.store c.is_free.ensures.extends.grows.stored c.in_ok-set.set (is_changed c.args.world.now.store c.args.write) c.loop-place.invariant.set;
  free = free_next c.args.world.now.store c.args.write c.args.others.now c.loop-place.place no_write (omega arith) c.loop-place.invariant.free
      (λ x. sym (c.loop-place.invariant.set.members _) ∙ c.in_ok-free.ensures.free c.if-not-free.false x ∙ c.loop-place.invariant.set.members x);
}

pub returns-clause-free : goal.returns-clause-free
returns-clause-free c e = subst (IsFree c.args.world.now.store c.args.write) (take_all c.loop-place.place c.args.others.now (omega arith)) c.loop-place.invariant.free
