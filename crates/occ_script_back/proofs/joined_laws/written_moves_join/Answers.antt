use Rattle.occ_script_back.proofs.Joining.{as_many, joined}
use Rattle.occ_script_back.proofs.Written.{written_well}
use Rattle.occ_script_back.proofs.joined_laws.written_moves_join.Goals as goal

pub returns : goal.returns
returns c =
    let back = c.written_scripts_read_back.ensures in
    record {
      kept = λ names P from to steps w short e bad. back.kept names P from to steps (written_well names P from to steps w) short e bad;
      joined = λ names P from to steps w new script is.
          let read = back.read names P from to steps (written_well names P from to steps w) new script is in
          record { derivation = joined names P from to steps new script w read; as_many = as_many names P steps script.steps read.steps_are };
    }
