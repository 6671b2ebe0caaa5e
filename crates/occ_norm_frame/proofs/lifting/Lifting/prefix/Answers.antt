use Rattle.occ_weave.proofs.from_choice.Uniting.{unions-lead}
use Rattle.occ_norm_frame.proofs.Worlds.{goes_world}
use Rattle.occ_norm_frame.proofs.lifting.Lifting.prefix.Goals as goal

pub returns-in_err-before-clause-goes : goal.returns-in_err-before-clause-goes
returns-in_err-before-clause-goes c = goes_world c.args.self.now _ _ c.prefix_out.ensures.leads (λ h. unions-lead c.args.self.now.weaver.world c.prefix_out.new.world c.args.self.now.weaver.unions c.prefix_out.ensures.leads h)

pub returns-clause-goes : goal.returns-clause-goes
returns-clause-goes c = goes_world c.args.self.now _ _ c.prefix_out.ensures.leads (λ h. unions-lead c.args.self.now.weaver.world c.prefix_out.new.world c.args.self.now.weaver.unions c.prefix_out.ensures.leads h)
