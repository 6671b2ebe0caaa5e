use mir.Val.{bool_byte}
use Rattle.occ_norm_frame.proofs.Worlds.{extends_refl, extends_trans, has_nodes-extends}
use Rattle.std.proofs.Common.{◌≡◌, ◌+◌, ◌*◌, ◌%◌, ◌^◌, cond, refl, true, false, Bool, ◌∙◌, subst, sym, arith}
use Rattle.std.specs.Int.Bits.{bit_or}
use Rattle.occ_norm_frame.specs.Changes.{IsSupport}
use Rattle.occ_norm_frame.proofs.Changing.{support_more, support_none}
use Rattle.occ_norm_frame.proofs.changes.support.Goals as goal

byte_is : (b : Bool) → bool_byte b ≡ cond b 1 0
byte_is true = refl
byte_is false = refl

pub depends-requires-clause-map : goal.depends-requires-clause-map
depends-requires-clause-map c = (has_nodes-extends c.args.world.now c.loop-bit.world c.loop-bit.invariant.extends c.args.map c.requires.map).known

pub loop-bit-init : goal.loop-bit-init
loop-bit-init c = record { extends = extends_refl c.args.world.now; support = support_none c.args.world.now c.args.map }

pub loop-bit-preserved : goal.loop-bit-preserved
loop-bit-preserved c = record {
  extends = extends_trans c.args.world.now c.loop-bit.world c.depends.new.self c.loop-bit.invariant.extends c.depends.ensures.extends;
  support = subst (λ n. IsSupport c.depends.new.self (c.loop-bit.bit + 1) c.args.map (bit_or c.loop-bit.bits (n * 2 ^ c.loop-bit.bit % 2 ^ 64))) (sym (c.from.ensures ∙ byte_is c.in_ok-matters.matters)) (support_more c.loop-bit.world c.depends.new.self c.args.map c.loop-bit.bits c.loop-bit.bit c.in_ok-matters.matters c.depends.ensures.extends
      (has_nodes-extends c.args.world.now c.loop-bit.world c.loop-bit.invariant.extends c.args.map c.requires.map) (omega arith) c.loop-bit.invariant.support c.in_ok-matters.ensures.independent);
}

pub returns-clause-support : goal.returns-clause-support
returns-clause-support c =
    let done : c.loop-bit.bit ≡ c.args.count = omega arith in
    subst (λ k. IsSupport c.loop-bit.world k c.args.map c.loop-bit.bits) done c.loop-bit.invariant.support
