use Rattle.occ_complete.proofs.Beside.{before_stop}
use Rattle.occ_complete_states.proofs.from_derive_laws.Using.{seq_as_par}
use Rattle.occ_engine.specs.occ_meaning.Parallel.{two}
use Rattle.occ_engine.specs.occ_syntax.Tree.{stop}
use Rattle.occ_complete.proofs.par_laws.stop_leaves_pars.Goals as goal

pub returns-clause-law : goal.returns-clause-law
returns-clause-law c = before_stop

pub returns-clause-sparing : goal.returns-clause-sparing
returns-clause-sparing c = λ p. seq_as_par (two p stop)
