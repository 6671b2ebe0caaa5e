use Rattle.std.proofs.Common.{refl}
use Rattle.occ_tool_run.proofs.AsWritten.{text_of_program}
use Rattle.occ_tool_run.specs.Stored.{seen}
use Rattle.occ_tool_run.proofs.normal.write.Goals as goal

pub returns-clause-normalised : goal.returns-clause-normalised
returns-clause-normalised c =
    let law = c.a_normal_text_is_its_tables.ensures in
    record { text = c.in_ok-text.text; is = text_of_program law c.args.names.now (seen c.args.accepted.now.program) c.in_ok-text.text c.in_ok-text.ensures; answer_is = refl }
