use Rattle.std.proofs.Common.{sym, ◌∙◌}
use Rattle.occ_norm_frame.proofs.Worlds.{has_nodes-extends}
use Rattle.std.proofs.Common.{cond, ◌^◌}
use Rattle.occ_norm_frame.specs.occ_dd.Store.{has}
use Rattle.occ_norm_frame.specs.Changes.{IsChanged}
use Rattle.occ_norm_assign.specs.Written.{step}
use Rattle.std.proofs.lemmas.Result.{IfOk-weaker}
use Rattle.occ_norm_frame.proofs.Changing.{changed_by, changed_none}
use Rattle.occ_norm_assign.proofs.Assigning.{step_none, step_some}
use Rattle.occ_norm_assign.proofs.writes.written.Goals as goal

pub turned_on-requires-clause-map : goal.turned_on-requires-clause-map
turned_on-requires-clause-map c = (has_nodes-extends c.args.world.now c.changed.new.self c.changed.ensures.extends c.args.map c.requires.map)

pub returns-then-not-has_bit-clause-changed : goal.returns-then-not-has_bit-clause-changed
returns-then-not-has_bit-clause-changed c = changed_none c.args.world.now (step c.args.world.now.store c.args.keep c.args.write) c.args.map c.requires.map
    (λ x h. step_none c.args.world.now.store c.args.keep c.args.write x (sym c.has_bit.ensures ∙ c.if-not-has_bit.true))

pub returns-clause-changed : goal.returns-clause-changed
returns-clause-changed c =
    IfOk-weaker c.turned_on.result
    (IsChanged c.turned_on.new.world (λ x. cond (has c.changed.new.self.store c.in_ok-changed.changed x) (2 ^ c.args.write.bit) 0) c.args.map)
    (IsChanged c.turned_on.new.world (step c.args.world.now.store c.args.keep c.args.write) c.args.map)
    (λ r is. changed_by c.turned_on.new.world (λ x. cond (has c.changed.new.self.store c.in_ok-changed.changed x) (2 ^ c.args.write.bit) 0) (step c.args.world.now.store c.args.keep c.args.write) c.args.map r
    (λ x. step_some c.args.world.now.store c.changed.new.self.store c.args.keep c.args.write c.in_ok-changed.changed x (sym c.has_bit.ensures ∙ c.if-not-has_bit.false) c.in_ok-changed.ensures.set) is)
    c.turned_on.ensures.changed
