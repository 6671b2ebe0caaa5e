use Rattle.occ_gen.proofs.Judged.{never_refused, never_shared}
use Rattle.occ_gen.proofs.accepted.generated_programs_are_never_refused.Goals as goal

pub returns-clause-read : goal.returns-clause-read
returns-clause-read c = λ shape n fault low high r. never_refused c.one_reading.ensures.apart (c.generated_programs_are_accepted.ensures shape n low high) r

pub returns-clause-used : goal.returns-clause-used
returns-clause-used c = λ shape n new program lines low high r. never_shared c.one_reading.ensures.program program (c.generated_programs_are_accepted.ensures shape n low high) r
