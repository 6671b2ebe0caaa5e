use Rattle.occ_engine_known.proofs.from_script.Once.{IsOnce}
use Rattle.occ_engine_written.proofs.NumberedPrinted.{joined, kept}
use Rattle.occ_engine_written.proofs.numbered_moves.printed_moves_are_joined.Goals as goal

pub returns : goal.returns
returns c =
    let once : IsOnce = record {
      form = c.one_form.ensures;
      part = c.one_reading_of_a_part.ensures.part;
      law = c.names_are_distinct.ensures;
    } in
    let back = c.printed_parts_read_back.ensures in
    let good = c.moves_are_written_well.ensures in
    record {
      kept = λ names P from to steps w short e bad. kept once back good names P from to steps w c.written_moves_join.ensures.kept short e bad;
      joined = λ names P from to steps w new script is. joined once back good names P from to steps w c.written_moves_join.ensures.joined new script is;
    }
