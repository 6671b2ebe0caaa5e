use Rattle.std.proofs.Common.{refl}
use Rattle.occ_script_back.proofs.OneByOne.{steps_read}
use Rattle.occ_script_back.proofs.write_laws.written_steps_are_read.Goals as goal

pub returns : goal.returns
returns c = λ names t new P Q n front dones steps k target are to also g h. steps_read (record {
  form = c.one_form.ensures;
  part = c.one_reading_of_a_part.ensures.part;
  law = c.names_are_distinct.ensures;
}) c.printed_parts_read_back.ensures names P Q n front dones k target are refl refl to also g h
