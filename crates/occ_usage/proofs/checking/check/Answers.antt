use Rattle.std.proofs.Common.{refl, sym, ◌∙◌}
use Rattle.occ_usage.proofs.Law.{usage_kept, answered}
use Rattle.occ_usage.proofs.checking.check.Goals as goal

pub returns-in-None : goal.returns-in-None
returns-in-None c = (refl, usage_kept c.args.program c.requires (sym c.in-None.is ∙ c.in_ok-first_fault.ensures))

pub returns-in-Some : goal.returns-in-Some
returns-in-Some c = answered c.args.program c.in-Some.fault (sym c.in-Some.is ∙ c.in_ok-first_fault.ensures)
