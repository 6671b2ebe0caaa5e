use Rattle.occ_script_table.proofs.Scripts.{script_again, script_refused}
use Rattle.occ_script_table.proofs.read_again.scripts_read_again.Goals as goal

pub returns : goal.returns
returns c = record {
  read = script_again;
  refused = script_refused;
}
