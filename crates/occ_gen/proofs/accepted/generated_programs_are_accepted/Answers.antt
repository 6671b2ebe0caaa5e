use Rattle.occ_gen.proofs.Read.{chain_accepted}
use Rattle.occ_gen.proofs.accepted.generated_programs_are_accepted.Goals as goal

pub returns : goal.returns
returns c = λ shape n low high. chain_accepted shape n low high
