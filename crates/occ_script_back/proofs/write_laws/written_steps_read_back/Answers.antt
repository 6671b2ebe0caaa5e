use Rattle.std.proofs.Common.{◌+◌}
use Rattle.occ_script_write.specs.occ_syntax.View.{tree}
use Rattle.occ_script_back.proofs.Steps.{step_back}
use Rattle.occ_script_back.proofs.write_laws.written_steps_read_back.Goals as goal

pub returns : goal.returns
returns c = λ names P scope n front done said h narrow. step_back (record {
  form = c.one_form.ensures;
  part = c.one_reading_of_a_part.ensures.part;
  law = c.names_are_distinct.ensures;
}) names P scope n front done said (c.printed_parts_read_back.ensures names P scope (tree done.part) front (n + 1) h narrow)
