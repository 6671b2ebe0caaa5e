use Rattle.occ_script_back.proofs.Framed.{framed_well}
use Rattle.occ_script_back.proofs.Within.{no_limit_passed}
use Rattle.occ_script_back.proofs.program_laws.printed_programs_keep_limits.Goals as goal

pub returns : goal.returns
returns c = record {
  laid = framed_well;
  limits = λ b names P number name params body h w. no_limit_passed names P name params body h b number w;
}
