use Rattle.std.proofs.Common.{refl, sym, ◌∙◌}
use Rattle.occ_norm_frame.proofs.from_dd.Bits.{one_is, zero_is}
use Rattle.occ_norm_frame.specs.Maps.{digit}
use Rattle.occ_norm_frame.proofs.Worlds.{has_nodes-extends}
use Rattle.occ_norm_par.proofs.Steps.{ok_both, step_free, step_same, step_written}
use Rattle.occ_norm_par.proofs.joint.next_at.Goals as goal

pub returns-then-not-has_bit-clause-stepped : goal.returns-then-not-has_bit-clause-stepped
returns-then-not-has_bit-clause-stepped c = step_free c.args.world.now c.args.joint c.args.bit (digit c.args.one) c.args.next c.args.next c.requires.next c.requires.next
    (zero_is c.args.joint.needed c.args.bit (sym c.has_bit.ensures ∙ c.if-not-has_bit.true)) refl

pub returns-then-has_bit-clause-stepped : goal.returns-then-has_bit-clause-stepped
returns-then-has_bit-clause-stepped c = step_written c.args.world.now c.args.joint c.args.bit (digit c.args.one) c.args.next c.args.next c.requires.next c.requires.next
    (one_is c.args.joint.needed c.args.bit (sym c.has_bit.ensures ∙ c.if-not-has_bit.false))
    (one_is c.args.joint.written c.args.bit (sym c.has_bit-2.ensures ∙ c.if-has_bit.true)) refl

pub returns-clause-stepped : goal.returns-clause-stepped
returns-clause-stepped c = ok_both c.cofactor.result _ _ _
    (λ r is known. step_same c.cofactor.new.self c.args.joint c.args.bit (digit c.args.one) c.args.next r
    (has_nodes-extends c.args.world.now c.cofactor.new.self c.cofactor.ensures.extends c.args.next c.requires.next) known
    (one_is c.args.joint.needed c.args.bit (sym c.has_bit.ensures ∙ c.if-not-has_bit.false))
    (zero_is c.args.joint.written c.args.bit (sym c.has_bit-2.ensures ∙ c.if-has_bit.false))
    (λ z. is.values z ∙ sym (c.cofactor.ensures.extends.maps.same c.args.next _ c.requires.next.known)))
    c.cofactor.ensures.map (c.cofactor.ensures.nodes c.requires.next)
