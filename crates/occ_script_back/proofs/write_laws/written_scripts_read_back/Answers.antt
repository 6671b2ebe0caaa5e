use Rattle.occ_script.proofs.Once.{IsOnce}
use Rattle.occ_script_back.proofs.Whole.{script_kept, script_read}
use Rattle.occ_script_back.proofs.write_laws.written_scripts_read_back.Goals as goal

pub returns : goal.returns
returns c =
    let once : IsOnce = record {
      form = c.one_form.ensures;
      part = c.one_reading_of_a_part.ensures.part;
      law = c.names_are_distinct.ensures;
    } in
    let back = c.printed_parts_read_back.ensures in
    record {
      kept = λ names P from to steps w short e bad. script_kept once back names P from steps to w short bad;
      read = λ names P from to steps w new script is. script_read once back names P from steps to w new script is;
    }
