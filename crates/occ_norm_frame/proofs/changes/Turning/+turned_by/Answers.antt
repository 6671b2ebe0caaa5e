use Rattle.std.proofs.Common.{◌-◌, ◌^◌, ap, sym, ◌∙◌, arith}
use Rattle.std.specs.Int.Bits.{bit_and, bit_xor}
use Rattle.std.proofs.lemmas.Nat.{one_shl}
use Rattle.std.proofs.lemmas.Result.{IfOk-weaker}
use Rattle.occ_norm_frame.proofs.Worlds.{extends_trans, has_nodes-extends}
use Rattle.occ_norm_frame.proofs.Changing.{changed_by}
use Rattle.occ_norm_frame.proofs.Turning.{bit_left_out, changed_all, none_left, turned_joined}
use Rattle.occ_norm_frame.proofs.changes.Turning.+turned_by.Goals as goal

pub returns-then-left-eq0-clause-changed : goal.returns-then-left-eq0-clause-changed
returns-then-left-eq0-clause-changed t c = IfOk-weaker c.shifted.result _ _
    (λ r is. changed_by c.shifted.new.self (λ x. c.args.change) (λ x. bit_xor c.args.change (bit_and x (bit_and c.args.self.now.bits (2 ^ c.args.left - 1)))) c.args.map r
    (λ x. none_left x c.args.self.now.bits c.args.change ∙ ap (λ n. bit_xor c.args.change (bit_and x (bit_and c.args.self.now.bits (2 ^ n - 1)))) (sym c.if-left-eq0.true))
    (changed_all c.shifted.new.self c.args.change c.args.map r is))
    c.shifted.ensures.shifted

pub returns-then-not-has_bit-clause-changed : goal.returns-then-not-has_bit-clause-changed
returns-then-not-has_bit-clause-changed t c = IfOk-weaker c.turned_by.result _ _
    (λ r is. changed_by c.turned_by.new.world _ _ c.args.map r
    (λ x. bit_left_out x c.args.self.now.bits (c.args.left - 1) c.args.left c.args.change (omega (arith, c.if-left-eq0.false)) (sym c.has_bit.ensures ∙ c.if-not-has_bit.true)) is)
    c.turned_by.ensures.changed

pub turned_by-requires-2 : goal.turned_by-requires-2
turned_by-requires-2 t c = (omega (arith, c.decreases, c.if-left-eq0.false), (omega (arith, c.requires.left, c.if-left-eq0.false), (has_nodes-extends c.cofactor.new.self c.cofactor-2.new.self c.cofactor-2.ensures.extends c.in_ok-zero.zero (c.in_ok-zero.ensures.nodes c.requires.map))))

pub turned_by-requires-3 : goal.turned_by-requires-3
turned_by-requires-3 t c = (
  omega (arith, c.decreases, c.if-left-eq0.false),
  (omega (arith, c.requires.left, c.if-left-eq0.false), (has_nodes-extends _ _ c.turned_by-2.ensures.extends c.in_ok-one.one (c.in_ok-one.ensures.nodes (has_nodes-extends c.args.world.now c.cofactor.new.self c.cofactor.ensures.extends c.args.map c.requires.map)))),
)

pub returns-in_err-high-clause-extends : goal.returns-in_err-high-clause-extends
returns-in_err-high-clause-extends t c = (extends_trans _ _ _ (extends_trans _ _ _ (extends_trans _ _ _ c.cofactor.ensures.extends c.cofactor-2.ensures.extends) c.turned_by-2.ensures.extends) c.turned_by-3.ensures.extends)

pub returns-in_err-set-clause-extends : goal.returns-in_err-set-clause-extends
returns-in_err-set-clause-extends t c = (extends_trans _ _ _ (extends_trans _ _ _ (extends_trans _ _ _ (extends_trans _ _ _ c.cofactor.ensures.extends c.cofactor-2.ensures.extends) c.turned_by-2.ensures.extends) c.turned_by-3.ensures.extends) c.bit.ensures.extends)

pub returns-clause-extends : goal.returns-clause-extends
returns-clause-extends t c = extends_trans _ _ _
    (extends_trans _ _ _ (extends_trans _ _ _ (extends_trans _ _ _ (extends_trans _ _ _ c.cofactor.ensures.extends c.cofactor-2.ensures.extends) c.turned_by-2.ensures.extends) c.turned_by-3.ensures.extends) c.bit.ensures.extends) c.choose.ensures.extends

pub returns-clause-nodes : goal.returns-clause-nodes
returns-clause-nodes t c = c.choose.ensures.nodes (has_nodes-extends c.turned_by-3.new.world c.bit.new.self c.bit.ensures.extends c.in_ok-high.high c.in_ok-high.ensures.nodes)
    (has_nodes-extends c.turned_by-2.new.world c.bit.new.self (extends_trans _ _ _ c.turned_by-3.ensures.extends c.bit.ensures.extends) c.in_ok-low.low c.in_ok-low.ensures.nodes)

pub returns-clause-changed : goal.returns-clause-changed
returns-clause-changed t c = IfOk-weaker c.choose.result _ _
    (λ r is. turned_joined c.args.world.now c.cofactor.new.self c.cofactor-2.new.self c.turned_by-2.new.world c.turned_by-3.new.world c.bit.new.self c.choose.new.self
    c.cofactor.ensures.extends c.cofactor-2.ensures.extends c.turned_by-2.ensures.extends c.turned_by-3.ensures.extends c.bit.ensures.extends c.choose.ensures.extends
    c.args.self.now.bits (c.args.left - 1) c.args.left c.args.change _ (omega (arith, c.if-left-eq0.false)) (ap (bit_xor c.args.change) (one_shl (c.args.left - 1) 64 (omega (arith, c.requires.left, c.if-left-eq0.false))))
    (sym c.has_bit.ensures ∙ c.if-not-has_bit.false)
    c.args.map c.in_ok-zero.zero c.in_ok-one.one c.in_ok-low.low c.in_ok-high.high r c.in_ok-set.set c.requires.map
    c.in_ok-zero.ensures.map (c.in_ok-zero.ensures.nodes c.requires.map) c.in_ok-one.ensures.map (c.in_ok-one.ensures.nodes (has_nodes-extends c.args.world.now c.cofactor.new.self c.cofactor.ensures.extends c.args.map c.requires.map))
    c.in_ok-low.ensures.nodes c.in_ok-low.ensures.changed c.in_ok-high.ensures.nodes c.in_ok-high.ensures.changed c.in_ok-set.ensures.set is)
    c.choose.ensures.map
