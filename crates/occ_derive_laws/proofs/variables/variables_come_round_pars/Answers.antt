use Rattle.occ_derive_laws.proofs.Declared.{round_par, round_par_spares}
use Rattle.occ_derive_laws.proofs.variables.variables_come_round_pars.Goals as goal

pub returns-clause-law : goal.returns-clause-law
returns-clause-law c = round_par

pub returns-clause-sparing : goal.returns-clause-sparing
returns-clause-sparing c = round_par_spares
