use Rattle.occ_norm_frame.proofs.Worlds.{extends_refl, extends_trans, has_nodes-extends}
use Rattle.std.proofs.Common.{◌≡◌, ◌-◌, ◌^◌, ap, ◌∙◌, arith}
use Rattle.std.specs.Int.Bits.{bit_and}
use Rattle.std.proofs.lemmas.Result.{IfOk-weaker}
use Rattle.occ_norm_frame.proofs.Changing.{all_change, changed_by, changed_more, changed_none, first_change}
use Rattle.occ_norm_frame.proofs.Turning.{changed_rest}
use Rattle.occ_norm_frame.proofs.changes.rebased.Goals as goal

pub loop-bit-init : goal.loop-bit-init
loop-bit-init c = record { extends = extends_refl c.args.world.now; nodes = c.requires; changed = changed_none c.args.world.now _ c.args.map c.requires (λ x h. first_change x c.args.bits) }

pub loop-bit-preserved : goal.loop-bit-preserved
loop-bit-preserved c =
    let grown = extends_trans c.loop-bit.world c.is_quicker_at_once.new.world c.rebased_at.new.world c.is_quicker_at_once.ensures c.rebased_at.ensures.extends in
    record {
      extends = extends_trans c.args.world.now c.loop-bit.world c.rebased_at.new.world c.loop-bit.invariant.extends grown;
      nodes = c.in_ok-next.ensures.nodes;
      changed = changed_more c.loop-bit.world c.rebased_at.new.world c.args.bits c.loop-bit.bit c.args.map c.loop-bit.rebased c.in_ok-next.next grown
          (has_nodes-extends c.args.world.now c.loop-bit.world c.loop-bit.invariant.extends c.args.map c.requires) c.loop-bit.invariant.nodes c.loop-bit.invariant.changed c.in_ok-next.ensures.changed;
    }

pub is_quicker_at_once-requires-clause-map : goal.is_quicker_at_once-requires-clause-map
is_quicker_at_once-requires-clause-map c = c.loop-bit.invariant.nodes.known

pub turned_by-requires-clause-map : goal.turned_by-requires-clause-map
turned_by-requires-clause-map c = has_nodes-extends c.loop-bit.world c.is_quicker_at_once.new.world c.is_quicker_at_once.ensures c.loop-bit.rebased c.loop-bit.invariant.nodes

pub rebased_at-requires-clause-map : goal.rebased_at-requires-clause-map
rebased_at-requires-clause-map c = has_nodes-extends c.loop-bit.world c.is_quicker_at_once.new.world c.is_quicker_at_once.ensures c.loop-bit.rebased c.loop-bit.invariant.nodes

pub returns-then-together-clause-changed : goal.returns-then-together-clause-changed
returns-then-together-clause-changed c = IfOk-weaker c.turned_by.result _ _
    (λ r is. changed_rest c.loop-bit.world c.turned_by.new.world c.args.bits c.not_below-rest.result c.loop-bit.bit c.args.map c.loop-bit.rebased r
    (extends_trans c.loop-bit.world c.is_quicker_at_once.new.world c.turned_by.new.world c.is_quicker_at_once.ensures c.turned_by.ensures.extends)
    (omega arith) c.not_below-rest.ensures
    (has_nodes-extends c.args.world.now c.loop-bit.world c.loop-bit.invariant.extends c.args.map c.requires) c.loop-bit.invariant.nodes c.loop-bit.invariant.changed is)
    c.turned_by.ensures.changed

pub returns-clause-changed : goal.returns-clause-changed
returns-clause-changed c =
    let done : c.loop-bit.bit ≡ 64 = omega arith in
    changed_by c.loop-bit.world _ _ c.args.map c.loop-bit.rebased (λ x. ap (λ k. bit_and x (bit_and c.args.bits (2 ^ k - 1))) done ∙ all_change x c.args.bits c.ranges.bits.fits) c.loop-bit.invariant.changed
