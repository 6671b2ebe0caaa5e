use Rattle.occ_complete.proofs.Beside.{one_is_it}
use Rattle.occ_complete_states.proofs.from_derive_laws.Using.{first_part}
use Rattle.occ_engine.specs.occ_syntax.Tree.{no_tree}
use Rattle.occ_complete.proofs.par_laws.pars_of_one_are_it.Goals as goal

pub returns-clause-law : goal.returns-clause-law
returns-clause-law c = one_is_it

pub returns-clause-sparing : goal.returns-clause-sparing
returns-clause-sparing c = λ p. first_part p no_tree
