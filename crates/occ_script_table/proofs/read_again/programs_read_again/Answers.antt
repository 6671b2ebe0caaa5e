use Rattle.occ_script_table.proofs.Reading.{read_again, refused_again}
use Rattle.occ_script_table.proofs.read_again.programs_read_again.Goals as goal

pub returns : goal.returns
returns c = record {
  read = read_again;
  refused = λ b text old table fault h e. refused_again b text old table e fault h;
}
