use Rattle.std.proofs.lemmas.Result.{IfOk-weaker}
use Rattle.occ_norm_frame.proofs.Worlds.{extends_leads, extends_trans, skip_fit, skip_is}
use Rattle.occ_norm_frame.proofs.normaliser.Normaliser.skip.Goals as goal

pub returns-in_err-ends-clause-extends : goal.returns-in_err-ends-clause-extends
returns-in_err-ends-clause-extends c = extends_leads c.args.self.now c.zeros.new.self c.zeros.ensures.leads

pub returns-in_err-accepts-clause-extends : goal.returns-in_err-accepts-clause-extends
returns-in_err-accepts-clause-extends c = extends_leads c.args.self.now c.zeros.new.self c.zeros.ensures.leads

pub make-requires : goal.make-requires
make-requires c = skip_fit c.zeros.new.self c.in_ok-ends.ends c.in_ok-accepts.accepts c.new.result c.args.keep c.in_ok-ends.ensures.zeros c.in_ok-accepts.ensures.events c.new.ensures

pub returns-in_err-node-clause-extends : goal.returns-in_err-node-clause-extends
returns-in_err-node-clause-extends c = extends_trans c.args.self.now c.zeros.new.self c.make.new.self (extends_leads c.args.self.now c.zeros.new.self c.zeros.ensures.leads) (extends_leads c.zeros.new.self c.make.new.self c.make.ensures.leads)

pub returns-clause-extends : goal.returns-clause-extends
returns-clause-extends c = extends_trans c.args.self.now c.make.new.self c.constant.new.self
    (extends_trans c.args.self.now c.zeros.new.self c.make.new.self (extends_leads c.args.self.now c.zeros.new.self c.zeros.ensures.leads) (extends_leads c.zeros.new.self c.make.new.self c.make.ensures.leads)) c.constant.ensures.extends

pub returns-clause-skip : goal.returns-clause-skip
returns-clause-skip c = IfOk-weaker c.constant.result _ _
    (λ r is. skip_is c.zeros.new.self c.make.new.self c.constant.new.self c.make.ensures.leads c.constant.ensures.extends c.in_ok-node.node c.in_ok-ends.ends c.in_ok-accepts.accepts c.new.result c.args.keep c.in_ok-ends.ensures.zeros
    c.in_ok-accepts.ensures.refuses c.new.ensures c.in_ok-node.ensures.made r is) c.constant.ensures.map
