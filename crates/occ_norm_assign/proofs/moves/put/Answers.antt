use Rattle.std.proofs.Common.{◌<◌, [], get_or, set, refl, sym, subst, take, add-one, arith}
use Rattle.std.proofs.lemmas.List.{take_all}
use Rattle.occ_norm_frame.proofs.from_dd.Callers.{known-keeps}
use Rattle.occ_norm_frame.specs.occ_bits.Digits.{AreDigits}
use Rattle.occ_norm_frame.proofs.from_bits.Composing.{keep_composed_none}
use Rattle.occ_norm_frame.proofs.from_bits.Reaching.{digits-keep}
use Rattle.occ_norm_assign.specs.declared.writes.Write.{Write}
use Rattle.occ_norm_assign.proofs.Keeping.{writes-extend}
use Rattle.occ_norm_frame.proofs.Worlds.{extends_refl, extends_trans}
use Rattle.occ_norm_assign.specs.Transfer.{ArePut}
use Rattle.occ_norm_assign.proofs.Moving.{put_more}
use Rattle.occ_norm_assign.proofs.Putting.{digits_set}
use Rattle.occ_norm_assign.proofs.moves.put.Goals as goal

pub loop-write-init : goal.loop-write-init
loop-write-init c = record {
  extends = extends_refl c.args.world.now;
  are = subst (AreDigits c.args.world.now.store) (sym c.in_ok-after.ensures.items) c.requires.before;
  memo = keep_composed_none c.args.world.now.store c.args.before.now c.new-memo.result c.new-memo.ensures;
  put = subst (ArePut c.args.world.now.store c.args.before.now []) (sym c.in_ok-after.ensures.items) (λ x. refl);
}

pub leading-requires-clause-digits : goal.leading-requires-clause-digits
leading-requires-clause-digits c = digits-keep c.args.world.now.store c.loop-write.world.store c.loop-write.invariant.extends.grows.stored c.args.before.now c.requires.before

pub leading-requires-clause-set : goal.leading-requires-clause-set
leading-requires-clause-set c = known-keeps c.args.world.now.store c.loop-write.world.store c.loop-write.invariant.extends.grows.stored _
    (c.requires.writes c.loop-write.write-index (record { bit = 0; set = record { 0 = 0 } }) (omega arith)).known

pub loop-write-preserved : goal.loop-write-preserved
loop-write-preserved c =
    let v = c.loop-write.world in
    let w = c.leading.new.world in
    let i = c.loop-write.write-index in
    let before = digits-keep c.args.world.now.store v.store c.loop-write.invariant.extends.grows.stored c.args.before.now c.requires.before in
    let writes = writes-extend c.args.world.now v c.loop-write.invariant.extends c.args.writes.now c.requires.writes in
    let write : Write = get_or c.args.writes.now i (record { bit = 0; set = record { 0 = 0 } }) in
    let few : write.bit < 64 = (c.requires.writes i (record { bit = 0; set = record { 0 = 0 } }) (omega arith)).within in
    record {
      extends = extends_trans c.args.world.now v w c.loop-write.invariant.extends c.leading.ensures.extends;
      are = digits_set w.store c.loop-write.after.items write.bit c.in_ok-digit.digit c.in_ok-digit.ensures.composed.there (digits-keep v.store w.store c.leading.ensures.extends.grows.stored c.loop-write.after.items c.loop-write.invariant.are);
      memo = c.leading.ensures.memo;
      put = subst (λ n. ArePut w.store c.args.before.now (take n c.args.writes.now) (set c.loop-write.after.items write.bit c.in_ok-digit.digit)) (sym (add-one i))
          (put_more v w c.leading.ensures.extends c.args.before.now c.loop-write.after.items c.args.writes.now i (record { bit = 0; set = record { 0 = 0 } }) c.in_ok-digit.digit before c.loop-write.invariant.are writes (omega arith) few
          c.in_ok-digit.ensures.composed c.loop-write.invariant.put);
    }

pub returns-clause-put : goal.returns-clause-put
returns-clause-put c = subst (λ ws. ArePut c.loop-write.world.store c.args.before.now ws c.loop-write.after.items) (take_all c.loop-write.write-index c.args.writes.now (omega arith)) c.loop-write.invariant.put
