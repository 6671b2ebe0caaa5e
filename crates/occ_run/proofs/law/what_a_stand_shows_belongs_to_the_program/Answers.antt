use Rattle.occ_run.proofs.Standing.{stand_belongs}
use Rattle.occ_run.proofs.law.what_a_stand_shows_belongs_to_the_program.Goals as goal

pub returns : goal.returns
returns c = λ program accepted state is k ns d follows stand h. stand_belongs program accepted state is k ns d follows stand h
