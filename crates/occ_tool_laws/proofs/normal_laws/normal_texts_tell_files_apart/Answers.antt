use Rattle.occ_witness.specs.occ_parse.declared.bound.Bound.TheVariants as bound
use Rattle.occ_tool_laws.proofs.Files.{files_apart}
use Rattle.occ_tool_laws.proofs.SameAnswer.{one_text_same}
use Rattle.occ_tool_laws.proofs.Texts.{Laws}
use Rattle.occ_tool_laws.proofs.normal_laws.normal_texts_tell_files_apart.Goals as goal

pub returns-clause-has : goal.returns-clause-has
returns-clause-has c =
    let laws : Laws = record {
      once = record {
        one_reading = λ text old m n p q ls ks r s.
            let e = c.one_reading.ensures.program bound.Program text old m n p.name q.name p.params q.params p.body q.body ls ks r s in
            record { names = e.table; name = e.name; params = e.params; body = e.body; numbers = e.numbers };
        one_fault = λ text old f g r s. c.one_reading.ensures.fault bound.Program text old f g r s;
        not_both = λ text old m p ls f r s. c.one_reading.ensures.apart bound.Program text old m p.name p.params p.body ls f r s;
      };
      distinct = λ text old new n ps p ks d r. (c.parameters_have_names.ensures text old new n ps p ks d r).0;
      again = c.programs_read_again.ensures.read;
      readings = c.readings_are_renamed.ensures;
      texts = c.normal_texts_are_renamed.ensures;
      refused = c.readings_are_not_refused.ensures;
      apart = c.normal_texts_tell_programs_apart.ensures;
    } in
    one_text_same laws c.texts_read_with_each_table.ensures c.texts_of_programs_are_those_of_their_tables.ensures

pub returns-clause-each : goal.returns-clause-each
returns-clause-each c =
    let laws : Laws = record {
      once = record {
        one_reading = λ text old m n p q ls ks r s.
            let e = c.one_reading.ensures.program bound.Program text old m n p.name q.name p.params q.params p.body q.body ls ks r s in
            record { names = e.table; name = e.name; params = e.params; body = e.body; numbers = e.numbers };
        one_fault = λ text old f g r s. c.one_reading.ensures.fault bound.Program text old f g r s;
        not_both = λ text old m p ls f r s. c.one_reading.ensures.apart bound.Program text old m p.name p.params p.body ls f r s;
      };
      distinct = λ text old new n ps p ks d r. (c.parameters_have_names.ensures text old new n ps p ks d r).0;
      again = c.programs_read_again.ensures.read;
      readings = c.readings_are_renamed.ensures;
      texts = c.normal_texts_are_renamed.ensures;
      refused = c.readings_are_not_refused.ensures;
      apart = c.normal_texts_tell_programs_apart.ensures;
    } in
    files_apart laws c.texts_of_programs_are_those_of_their_tables.ensures
