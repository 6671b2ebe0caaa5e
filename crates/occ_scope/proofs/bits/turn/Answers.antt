use Rattle.std.proofs.Common.{◌≡◌, sym, ◌∙◌}
use Rattle.std.specs.Int.{bit_at}
use Rattle.std.proofs.lemmas.Nat.Bits.{shr_and_one}
use Rattle.occ_node.proofs.from_dd.Callers.{keeps_refl, keeps_trans}
use Rattle.occ_scope.proofs.Turning.{turned_start, turned_turn, turned_skip}
use Rattle.occ_scope.proofs.bits.turn.Goals as goal
use Rattle.occ_scope.proofs.bits.turn.Goals.{then-change-bit-eq1+in_ok-turned, else-change-bit-eq1}

pub loop-bit-init : goal.loop-bit-init
loop-bit-init c = record { keeps = keeps_refl c.args.store.now; turned = turned_start c.args.store.now c.args.set c.args.change c.requires }

pub loop-bit-preserved : goal.loop-bit-preserved
loop-bit-preserved c = elim c.if-change-bit-eq1.branch [
  | then-change-bit-eq1+in_ok-turned w ↦ rw (w.store-is, w.turned-is) (record {
    keeps = keeps_trans c.args.store.now c.loop-bit.store w.flip.new.self c.loop-bit.invariant.keeps w.flip.ensures.keeps;
    turned = turned_turn c.args.store.now c.loop-bit.store w.flip.new.self c.args.set c.loop-bit.turned w.in_ok-turned.turned c.args.change c.loop-bit.bit (sym (shr_and_one c.args.change c.loop-bit.bit) ∙ w.if-change-bit-eq1.true) c.loop-bit.invariant.turned w.in_ok-turned.ensures.set;
  })
  | else-change-bit-eq1 w ↦ rw (w.store-is, w.turned-is) (record {
    keeps = c.loop-bit.invariant.keeps;
    turned = turned_skip c.args.store.now c.loop-bit.store c.args.set c.loop-bit.turned c.args.change c.loop-bit.bit (λ (e : bit_at c.args.change c.loop-bit.bit ≡ 1). w.if-change-bit-eq1.false (shr_and_one c.args.change c.loop-bit.bit ∙ e)) c.loop-bit.invariant.turned;
  })
]
