use Rattle.occ_norm_frame.proofs.Worlds.{extends_refl, extends_trans, has_nodes-extends}
use Rattle.std.proofs.Common.{◌≡◌, subst, arith}
use Rattle.occ_norm_frame.specs.Changes.{IsFreed}
use Rattle.occ_norm_frame.proofs.Changing.{freed_next, freed_none}
use Rattle.occ_norm_frame.proofs.changes.freed.Goals as goal

pub loop-bit-init : goal.loop-bit-init
loop-bit-init c = record { extends = extends_refl c.args.world.now; nodes = c.requires.map; freed = freed_none c.args.world.now c.args.map c.args.first c.requires.map }

pub loop-bit-preserved : goal.loop-bit-preserved
loop-bit-preserved c = record {
  extends = extends_trans c.args.world.now c.loop-bit.world c.freed_at.new.world c.loop-bit.invariant.extends c.freed_at.ensures.extends;
  nodes = c.in_ok-next.ensures.nodes;
  freed = freed_next c.loop-bit.world c.freed_at.new.world c.args.map c.loop-bit.freed c.in_ok-next.next c.args.first c.loop-bit.bit c.freed_at.ensures.extends (omega arith) (omega arith)
      (has_nodes-extends c.args.world.now c.loop-bit.world c.loop-bit.invariant.extends c.args.map c.requires.map) c.loop-bit.invariant.nodes c.loop-bit.invariant.freed c.in_ok-next.ensures.freed;
}

pub returns-clause-freed : goal.returns-clause-freed
returns-clause-freed c =
    let done : c.loop-bit.bit ≡ c.args.end = omega arith in
    subst (λ k. IsFreed c.loop-bit.world c.args.first k c.args.map c.loop-bit.freed) done c.loop-bit.invariant.freed
