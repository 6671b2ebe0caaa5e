use Rattle.occ_complete.proofs.Beside.{none_is_skip}
use Rattle.occ_complete_states.proofs.from_derive_laws.Using.{nothing_used}
use Rattle.occ_engine.specs.occ_syntax.Tree.{no_tree, par}
use Rattle.occ_complete.proofs.par_laws.pars_of_none_are_skip.Goals as goal

pub returns-clause-law : goal.returns-clause-law
returns-clause-law c = none_is_skip

pub returns-clause-sparing : goal.returns-clause-sparing
returns-clause-sparing c = nothing_used (par no_tree)
