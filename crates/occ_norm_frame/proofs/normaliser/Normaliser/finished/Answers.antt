use Rattle.std.proofs.lemmas.Result.{IfOk-weaker}
use Rattle.occ_norm_frame.proofs.Worlds.{finish_nodes, has_nodes-extends, may_have}
use Rattle.occ_norm_frame.proofs.normaliser.Normaliser.finished.Goals as goal

pub lift-requires-clause-a : goal.lift-requires-clause-a
lift-requires-clause-a c = may_have c.args.self.now c.args.waiting c.requires.waiting

pub returns-clause-nodes : goal.returns-clause-nodes
returns-clause-nodes c = IfOk-weaker c.lift.result _ _ (λ r is. finish_nodes c.lift.new.self c.args.waiting c.args.ready r (has_nodes-extends c.args.self.now c.lift.new.self c.lift.ensures.extends c.args.waiting c.requires.waiting) is) c.lift.ensures.lifted.1

pub returns-clause-finished : goal.returns-clause-finished
returns-clause-finished c = c.lift.ensures.lifted.1
