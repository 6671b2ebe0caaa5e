use Rattle.std.proofs.Common.{refl}
use Rattle.occ_weave.proofs.from_choice.Uniting.{unions-lead}
use Rattle.occ_weave.proofs.Keeping.{remembers-lead}
use Rattle.occ_norm_frame.proofs.lifting.Lifting.shift.Goals as goal

pub returns-in_err-turned-clause-goes : goal.returns-in_err-turned-clause-goes
returns-in_err-turned-clause-goes c =
    let v = c.args.self.now.weaver.world in
    let w = c.shift_with.new.world in
    let leads = c.shift_with.ensures.leads in
    record {
      leads = leads;
      step = refl;
      manner = refl;
      right = λ h. (remembers-lead _ _ c.args.self.now.weaver w _ leads (unions-lead v w c.args.self.now.weaver.unions leads h.0.unions) h.0, c.shift_with.ensures.shifts);
    }

pub returns-clause-goes : goal.returns-clause-goes
returns-clause-goes c =
    let v = c.args.self.now.weaver.world in
    let w = c.shift_with.new.world in
    let leads = c.shift_with.ensures.leads in
    record {
      leads = leads;
      step = refl;
      manner = refl;
      right = λ h. (remembers-lead _ _ c.args.self.now.weaver w _ leads (unions-lead v w c.args.self.now.weaver.unions leads h.0.unions) h.0, c.shift_with.ensures.shifts);
    }
