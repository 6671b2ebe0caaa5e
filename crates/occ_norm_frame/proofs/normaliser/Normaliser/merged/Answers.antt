use Rattle.std.proofs.lemmas.Result.{IfOk-weaker}
use Rattle.occ_norm_frame.specs.Lifted.{IsMerged}
use Rattle.occ_norm_frame.proofs.Worlds.{has_nodes-extends, may_have, two_nodes}
use Rattle.occ_norm_frame.proofs.normaliser.Normaliser.merged.Goals as goal

pub lift-requires-clause-a : goal.lift-requires-clause-a
lift-requires-clause-a c = may_have c.args.self.now c.args.a c.requires.a

pub lift-requires-clause-b : goal.lift-requires-clause-b
lift-requires-clause-b c = may_have c.args.self.now c.args.b c.requires.b

pub returns-clause-nodes : goal.returns-clause-nodes
returns-clause-nodes c = IfOk-weaker c.lift.result _ _ (λ r is. two_nodes c.lift.new.self c.args.a c.args.b r (IsMerged c.lift.new.self) (λ p q s k. k.merged.known) (has_nodes-extends c.args.self.now c.lift.new.self c.lift.ensures.extends c.args.a c.requires.a) (has_nodes-extends c.args.self.now c.lift.new.self c.lift.ensures.extends c.args.b c.requires.b) is) c.lift.ensures.lifted.1

pub returns-clause-merged : goal.returns-clause-merged
returns-clause-merged c = c.lift.ensures.lifted.1
