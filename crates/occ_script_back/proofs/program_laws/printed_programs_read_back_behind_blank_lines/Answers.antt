use Rattle.occ_script_back.proofs.Behind.{reads_behind}
use Rattle.occ_script_back.proofs.program_laws.printed_programs_read_back_behind_blank_lines.Goals as goal

pub returns : goal.returns
returns c = λ b front names P name params body blank h w short. reads_behind names P name params body h b front blank w short
