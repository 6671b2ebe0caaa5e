use Rattle.std.proofs.lemmas.Result.{IfOk-weaker}
use Rattle.occ_norm_frame.specs.Lifted.{IsPrefixed}
use Rattle.occ_norm_frame.proofs.Worlds.{has_nodes-extends, may_have, one_nodes}
use Rattle.occ_norm_frame.proofs.normaliser.Normaliser.prefixed.Goals as goal

pub lift-requires-clause-a : goal.lift-requires-clause-a
lift-requires-clause-a c = may_have c.args.self.now c.args.map c.requires

pub lift-requires-clause-b : goal.lift-requires-clause-b
lift-requires-clause-b c = may_have c.args.self.now c.args.map c.requires

pub returns-clause-nodes : goal.returns-clause-nodes
returns-clause-nodes c = IfOk-weaker c.lift.result _ _ (λ r is. one_nodes c.lift.new.self c.args.map r (IsPrefixed c.lift.new.self c.args.event) (λ p s k. k.prefixed.known) (has_nodes-extends c.args.self.now c.lift.new.self c.lift.ensures.extends c.args.map c.requires) is) c.lift.ensures.lifted.1

pub returns-clause-prefixed : goal.returns-clause-prefixed
returns-clause-prefixed c = c.lift.ensures.lifted.1
