use Rattle.std.proofs.Common.{refl}
use Rattle.occ_follow.proofs.from_scope.Keeping.{shifts-lead}
use Rattle.occ_norm_frame.proofs.lifting.LiftingBothNodeId.both.Goals as goal

pub returns-in_err-both-in-Some-Some-clause-leads : goal.returns-in_err-both-in-Some-Some-clause-leads
returns-in_err-both-in-Some-Some-clause-leads c = record {
  leads = c.weave.ensures.leads;
  step = refl;
  manner = refl;
  right = λ h. (c.weave.ensures.right, shifts-lead c.args.self.now.weaver.world c.weave.new.self.world c.args.self.now.shifts c.weave.ensures.leads h.1);
}

pub returns-in_ok-both-in-Some-Some-clause-leads : goal.returns-in_ok-both-in-Some-Some-clause-leads
returns-in_ok-both-in-Some-Some-clause-leads c = record {
  leads = c.weave.ensures.leads;
  step = refl;
  manner = refl;
  right = λ h. (c.weave.ensures.right, shifts-lead c.args.self.now.weaver.world c.weave.new.self.world c.args.self.now.shifts c.weave.ensures.leads h.1);
}
