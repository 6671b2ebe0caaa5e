use Rattle.occ_script.proofs.Once.{IsOnce}
use Rattle.occ_script_back.proofs.Programs.{from_back, to_back}
use Rattle.occ_script_back.proofs.write_laws.written_programs_read_back.Goals as goal

pub returns : goal.returns
returns c =
    let once : IsOnce = record {
      form = c.one_form.ensures;
      part = c.one_reading_of_a_part.ensures.part;
      law = c.names_are_distinct.ensures;
    } in
    record {
      from = λ names P n row front program h ended w. from_back once names P program h n row front ended w;
      to = λ names P n row front program h ended w. to_back once names P program h n row front ended w;
    }
