use Rattle.occ_norm_frame.proofs.Worlds.{has_nodes-extends}
use Rattle.std.proofs.Common.{◌^◌, sym, ◌∙◌}
use Rattle.std.specs.Int.Bits.{bit_and}
use Rattle.std.specs.Prelude.{if◌then◌else◌}
use Rattle.std.proofs.lemmas.Result.{IfOk-weaker}
use Rattle.occ_bits.specs.occ_dd.Store.{has}
use Rattle.occ_norm_frame.specs.Changes.{IsChanged}
use Rattle.occ_norm_frame.proofs.Changing.{changed_by, changed_none, no_change, one_change}
use Rattle.occ_norm_frame.proofs.changes.rebased_at.Goals as goal

pub turned_on-requires-clause-set : goal.turned_on-requires-clause-set
turned_on-requires-clause-set c = c.in_ok-set.ensures.set.known

pub turned_on-requires-clause-map : goal.turned_on-requires-clause-map
turned_on-requires-clause-map c = (has_nodes-extends c.args.world.now c.bit.new.self c.bit.ensures.extends c.args.map c.requires.map)

pub returns-clause-changed : goal.returns-clause-changed
returns-clause-changed c = IfOk-weaker c.turned_on.result
    (λ r. IsChanged c.turned_on.new.world (λ x. if has c.bit.new.self.store c.in_ok-set.set x then 2 ^ c.args.bit else 0) c.args.map r)
    (λ r. IsChanged c.turned_on.new.world (λ x. bit_and x (bit_and c.args.bits (2 ^ c.args.bit))) c.args.map r)
    (λ r is. changed_by c.turned_on.new.world _ _ c.args.map r (λ x. one_change x c.args.bits c.args.bit (has c.bit.new.self.store c.in_ok-set.set x) (c.in_ok-set.ensures.set.members x) (sym c.has_bit.ensures ∙ c.if-not-has_bit.false)) is)
    c.turned_on.ensures.changed

pub returns-then-not-has_bit-clause-changed : goal.returns-then-not-has_bit-clause-changed
returns-then-not-has_bit-clause-changed c = changed_none c.args.world.now (λ x. bit_and x (bit_and c.args.bits (2 ^ c.args.bit))) c.args.map c.requires.map
    (λ x h. no_change x c.args.bits c.args.bit (sym c.has_bit.ensures ∙ c.if-not-has_bit.true))
