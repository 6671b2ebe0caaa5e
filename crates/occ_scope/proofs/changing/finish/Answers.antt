use Rattle.std.proofs.Common.{refl, ap}
use Rattle.std.proofs.lemmas.Result.{IfOk-weaker}
use Rattle.occ_node.specs.World.{IsMade}
use Rattle.occ_node.proofs.Table.{rows-keeps}
use Rattle.occ_node.proofs.Behaviours.{leads_store, leads_trans}
use Rattle.occ_scope.specs.Change.{IsChanged}
use Rattle.occ_scope.proofs.Altering.{finish_fit, finish_changed}
use Rattle.occ_scope.proofs.changing.finish.Goals as goal

pub invariant_of-world : goal.invariant_of-world
invariant_of-world c = record { right = rows-keeps c.args.world.now.store c.change_ends.new.store c.change_ends.ensures.keeps c.args.world.now.rows.keys c.args.world.now.right }

pub returns-in_err-ends-clause-leads : goal.returns-in_err-ends-clause-leads
returns-in_err-ends-clause-leads c = leads_store c.args.world.now _ c.change_ends.ensures.keeps refl refl

pub make-requires : goal.make-requires
make-requires c = finish_fit c.args.world.now _ (leads_store c.args.world.now _ c.change_ends.ensures.keeps refl refl) c.args.change c.args.node c.requires.node (record { ends = c.in_ok-ends.ends; accepts = c.in_ok-accepts.accepts; offers = c.args.offers })
    c.row-row.result.now.accepts c.row-row.result.now.ends c.requires.offers (ap (λ r. r.accepts) c.row-row.ensures.row) (ap (λ r. r.ends) c.row-row.ensures.row) c.in_ok-accepts.ensures.refuses c.in_ok-accepts.ensures.events c.in_ok-ends.ensures.after

pub returns-clause-leads : goal.returns-clause-leads
returns-clause-leads c = leads_trans c.args.world.now _ c.make.new.self (leads_store c.args.world.now _ c.change_ends.ensures.keeps refl refl) c.make.ensures.leads

pub returns-clause-changed : goal.returns-clause-changed
returns-clause-changed c =
    IfOk-weaker c.make.result (λ r. IsMade c.make.new.self r (record { ends = c.in_ok-ends.ends; accepts = c.in_ok-accepts.accepts; offers = c.args.offers })) (λ r. IsChanged c.make.new.self c.args.change c.args.node r)
    (λ r made. finish_changed c.args.world.now _ (leads_store c.args.world.now _ c.change_ends.ensures.keeps refl refl) c.args.change c.args.node c.requires.node (record { ends = c.in_ok-ends.ends; accepts = c.in_ok-accepts.accepts; offers = c.args.offers })
    c.row-row.result.now.accepts c.row-row.result.now.ends c.requires.offers (ap (λ r. r.accepts) c.row-row.ensures.row) (ap (λ r. r.ends) c.row-row.ensures.row) c.in_ok-accepts.ensures.refuses c.in_ok-accepts.ensures.events c.in_ok-ends.ensures.after
    c.make.new.self c.make.ensures.leads (leads_trans c.args.world.now _ c.make.new.self (leads_store c.args.world.now _ c.change_ends.ensures.keeps refl refl) c.make.ensures.leads) r made) c.make.ensures.made
