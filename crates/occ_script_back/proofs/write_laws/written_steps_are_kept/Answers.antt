use Rattle.std.proofs.Common.{refl}
use Rattle.occ_script_back.proofs.OneByOne.{steps_kept}
use Rattle.occ_script_back.proofs.write_laws.written_steps_are_kept.Goals as goal

pub returns : goal.returns
returns c = λ names t P Q n last front dones k e bad also g h. steps_kept (record {
  form = c.one_form.ensures;
  part = c.one_reading_of_a_part.ensures.part;
  law = c.names_are_distinct.ensures;
}) c.printed_parts_read_back.ensures names P last Q n front dones k bad refl also g h
