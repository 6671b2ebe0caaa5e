use Rattle.std.proofs.Common.{refl}
use Rattle.std.proofs.lemmas.Result.{IfOk-weaker}
use Rattle.occ_node.proofs.Table.{rows-keeps}
use Rattle.occ_node.proofs.Behaviours.{leads_store, leads_trans}
use Rattle.occ_node.specs.World.{IsMade}
use Rattle.occ_choice.specs.Union.{IsAdded}
use Rattle.occ_choice.proofs.Uniting.{joined_fit, joined_added}
use Rattle.occ_choice.proofs.join.join.Goals as goal

pub invariant_of-world : goal.invariant_of-world
invariant_of-world c = record { right = rows-keeps c.args.world.now.store c.or.new.self c.or.ensures.keeps c.args.world.now.rows.keys c.args.world.now.right }

pub returns-in_err-ends-clause-leads : goal.returns-in_err-ends-clause-leads
returns-in_err-ends-clause-leads c = leads_store c.args.world.now _ c.or.ensures.keeps refl refl

pub make-requires : goal.make-requires
make-requires c = joined_fit c.args.world.now _ (leads_store c.args.world.now _ c.or.ensures.keeps refl refl) c.args.row.now c.row-other.result.now c.args.b
    (record { ends = c.in_ok-ends.ends; accepts = c.in_ok-accepts.accepts; offers = c.args.offers }) c.requires.offers.events c.requires.row c.requires.b c.row-other.ensures.row
    c.requires.offers.reached c.requires.offers.all c.in_ok-accepts.ensures.refuses c.in_ok-ends.ensures.set c.requires.offers.increasing c.in_ok-accepts.ensures.events

pub returns-clause-leads : goal.returns-clause-leads
returns-clause-leads c = leads_trans c.args.world.now _ c.make.new.self (leads_store c.args.world.now _ c.or.ensures.keeps refl refl) c.make.ensures.leads

pub returns-clause-added : goal.returns-clause-added
returns-clause-added c = IfOk-weaker c.make.result (λ r. IsMade c.make.new.self r (record { ends = c.in_ok-ends.ends; accepts = c.in_ok-accepts.accepts; offers = c.args.offers })) (λ r. IsAdded c.args.world.now c.make.new.self c.args.row.now c.args.b r)
    (λ r is. joined_added c.args.world.now _ (leads_store c.args.world.now _ c.or.ensures.keeps refl refl) c.args.row.now c.row-other.result.now c.args.b
    (record { ends = c.in_ok-ends.ends; accepts = c.in_ok-accepts.accepts; offers = c.args.offers }) c.requires.offers.events c.requires.row c.requires.b c.row-other.ensures.row
    c.requires.offers.reached c.requires.offers.all c.in_ok-accepts.ensures.refuses c.in_ok-ends.ensures.set c.make.new.self c.make.ensures.leads
    (leads_trans c.args.world.now _ c.make.new.self (leads_store c.args.world.now _ c.or.ensures.keeps refl refl) c.make.ensures.leads) r is)
    c.make.ensures.made
