use Rattle.occ_complete.proofs.Beside.{after_skip, before_skip}
use Rattle.occ_complete_states.proofs.from_derive_laws.Using.{first_part, later_parts, one_uses}
use Rattle.occ_engine.specs.occ_meaning.Parallel.{one, two}
use Rattle.occ_engine.specs.occ_syntax.Tree.{par, skip}
use Rattle.occ_complete.proofs.par_laws.skip_leaves_pars.Goals as goal

pub returns-clause-first : goal.returns-clause-first
returns-clause-first c = after_skip

pub returns-clause-first_sparing : goal.returns-clause-first_sparing
returns-clause-first_sparing c = λ q. later_parts skip (one q)

pub returns-clause-second : goal.returns-clause-second
returns-clause-second c = before_skip

pub returns-clause-second_sparing : goal.returns-clause-second_sparing
returns-clause-second_sparing c = λ p. one_uses p (par (two p skip)) (first_part p (one skip))
