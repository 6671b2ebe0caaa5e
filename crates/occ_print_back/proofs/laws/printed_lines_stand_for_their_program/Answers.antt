use Rattle.std.proofs.Common.{length}
use Rattle.occ_print_back.proofs.Programs.{params_back, program_back}
use Rattle.occ_print_back.proofs.laws.printed_lines_stand_for_their_program.Goals as goal

pub returns : goal.returns
returns c = record {
  params = λ names P N name ps body numbered h. params_back (length names) P N numbered ps h.known.params_are;
  body = program_back;
}
