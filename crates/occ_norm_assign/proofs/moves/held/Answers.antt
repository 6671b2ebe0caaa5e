use Rattle.std.proofs.lemmas.Result.{IfOk-weaker}
use Rattle.occ_norm_frame.proofs.from_bits.Composing.{keep_composed_none}
use Rattle.occ_norm_frame.proofs.from_bits.Reaching.{digits-keep}
use Rattle.occ_syntax.specs.View.{exp}
use Rattle.occ_norm_assign.proofs.Choosing.{condition_from}
use Rattle.occ_norm_assign.proofs.moves.held.Goals as goal

pub leading-requires-clause-digits : goal.leading-requires-clause-digits
leading-requires-clause-digits c = digits-keep c.args.world.now.store c.holds.new.world.store c.holds.ensures.extends.grows.stored c.args.before.now c.requires.before

pub leading-requires-clause-memo : goal.leading-requires-clause-memo
leading-requires-clause-memo c = keep_composed_none c.holds.new.world.store c.args.before.now c.new-memo.result c.new-memo.ensures

pub returns-clause-held : goal.returns-clause-held
returns-clause-held c = IfOk-weaker c.leading.result _ _
    (λ r is. condition_from c.holds.new.world c.leading.new.world c.leading.ensures.extends c.args.frame.now.layout (exp c.args.expr.now) c.args.before.now c.in_ok-set.set r
    (digits-keep c.args.world.now.store c.holds.new.world.store c.holds.ensures.extends.grows.stored c.args.before.now c.requires.before) c.in_ok-set.ensures.set is)
    c.leading.ensures.composed
