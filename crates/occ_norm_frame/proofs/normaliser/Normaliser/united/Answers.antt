use Rattle.std.proofs.lemmas.Result.{IfOk-weaker}
use Rattle.occ_norm_frame.proofs.Worlds.{either_may, either_nodes, has_nodes-extends}
use Rattle.occ_norm_frame.proofs.normaliser.Normaliser.united.Goals as goal

pub returns-clause-may : goal.returns-clause-may
returns-clause-may c = IfOk-weaker c.lift.result _ _ (λ r is. either_may c.lift.new.self c.args.a c.args.b r is) c.lift.ensures.lifted.1

pub returns-clause-nodes : goal.returns-clause-nodes
returns-clause-nodes c = λ a b. IfOk-weaker c.lift.result _ _ (λ r is. either_nodes c.lift.new.self c.args.a c.args.b r (has_nodes-extends c.args.self.now c.lift.new.self c.lift.ensures.extends c.args.a a) is) c.lift.ensures.lifted.1

pub returns-clause-united : goal.returns-clause-united
returns-clause-united c = c.lift.ensures.lifted.1
