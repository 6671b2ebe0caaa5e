use Rattle.std.proofs.lemmas.Result.{IfOk-weaker}
use Rattle.occ_norm_frame.specs.Lifted.{IsTurned}
use Rattle.occ_norm_frame.proofs.Worlds.{extends_refl, has_nodes-extends, may_have, one_nodes, same_shifted}
use Rattle.occ_norm_frame.proofs.normaliser.Normaliser.shifted.Goals as goal

pub lift-requires-clause-a : goal.lift-requires-clause-a
lift-requires-clause-a c = may_have c.args.self.now c.args.map c.requires

pub lift-requires-clause-b : goal.lift-requires-clause-b
lift-requires-clause-b c = may_have c.args.self.now c.args.map c.requires

pub returns-then-change-eq0-clause-extends : goal.returns-then-change-eq0-clause-extends
returns-then-change-eq0-clause-extends c = extends_refl c.args.self.now

pub returns-then-change-eq0-clause-shifted : goal.returns-then-change-eq0-clause-shifted
returns-then-change-eq0-clause-shifted c = same_shifted c.args.self.now c.args.map c.args.change c.if-change-eq0.true c.requires (may_have c.args.self.now c.args.map c.requires).nodes

pub returns-clause-nodes : goal.returns-clause-nodes
returns-clause-nodes c = IfOk-weaker c.lift.result _ _ (λ r is. one_nodes c.lift.new.self c.args.map r (IsTurned c.lift.new.self c.args.change) (λ p s k. k.turned.known) (has_nodes-extends c.args.self.now c.lift.new.self c.lift.ensures.extends c.args.map c.requires) is) c.lift.ensures.lifted.1

pub returns-clause-shifted : goal.returns-clause-shifted
returns-clause-shifted c = c.lift.ensures.lifted.1
