use Rattle.std.proofs.Common.{arith}
use Rattle.occ_norm_frame.proofs.from_dd.Callers.{keeps_refl, keeps_trans, known-keeps}
use Rattle.occ_norm_par.proofs.Freeing.{freed_all, freed_next, freed_none, freed_states}
use Rattle.occ_norm_par.proofs.sets.freed.Goals as goal

pub loop-bit-init : goal.loop-bit-init
loop-bit-init c = record {
  keeps = keeps_refl c.args.store.now;
  states = c.requires.from;
  below = freed_none c.args.store.now c.args.count c.args.bits c.args.from c.requires.from;
}

pub freed_at-requires-clause-set : goal.freed_at-requires-clause-set
freed_at-requires-clause-set c = c.loop-bit.invariant.states.known

pub loop-bit-preserved : goal.loop-bit-preserved
loop-bit-preserved c =
    let s = c.loop-bit.store in
    let t = c.freed_at.new.store in
    record {
      keeps = keeps_trans c.args.store.now s t c.loop-bit.invariant.keeps c.freed_at.ensures.keeps;
      states = freed_states s t c.args.count c.args.bits c.loop-bit.bit c.loop-bit.freed c.in_ok-next.next c.loop-bit.invariant.states c.in_ok-next.ensures.set;
      below = freed_next s t c.freed_at.ensures.keeps c.args.count c.args.bits c.loop-bit.bit c.args.from c.loop-bit.freed c.in_ok-next.next
          (known-keeps c.args.store.now s c.loop-bit.invariant.keeps c.args.from c.requires.from.known) c.loop-bit.invariant.below c.in_ok-next.ensures.set;
    }

pub returns-clause-freed : goal.returns-clause-freed
returns-clause-freed c = freed_all c.loop-bit.store c.args.count c.args.bits c.loop-bit.bit c.args.from c.loop-bit.freed (omega arith) c.loop-bit.invariant.below
