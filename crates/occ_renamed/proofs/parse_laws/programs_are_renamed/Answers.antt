use Rattle.occ_renamed.proofs.Lines.{program_params, program_so}
use Rattle.occ_renamed.proofs.parse_laws.programs_are_renamed.Goals as goal

pub returns : goal.returns
returns c = record {
  params = λ f N M params below one h. program_params f one N M params below h;
  body = λ f N M params below one h. program_so f one N M params below h;
}
