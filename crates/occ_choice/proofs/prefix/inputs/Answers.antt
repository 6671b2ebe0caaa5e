use Rattle.std.proofs.Common.{refl, arith}
use Rattle.occ_choice.proofs.Choosing.{inputs_step}
use Rattle.occ_choice.proofs.prefix.inputs.Goals as goal

pub loop-place-preserved : goal.loop-place-preserved
loop-place-preserved c = inputs_step c.args.chan c.args.nexts.now c.loop-place.place _ _ c.loop-place.branches.items c.push.new.self.items (omega arith) refl c.loop-place.invariant c.in_ok-push.ensures.items
