use Rattle.occ_run_steps.proofs.SettledMeans.{settled_means}
use Rattle.occ_run_steps.proofs.run_laws.settling_keeps_the_meaning.Goals as goal

pub returns : goal.returns
returns c = λ Γ s C t o. ((settled_means Γ s C).forth t o, (settled_means Γ s C).back t o)
