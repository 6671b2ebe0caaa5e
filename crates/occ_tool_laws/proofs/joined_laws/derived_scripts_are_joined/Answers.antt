use Rattle.occ_tool_laws.proofs.Printed.{derived_joined}
use Rattle.occ_tool_laws.proofs.joined_laws.derived_scripts_are_joined.Goals as goal

pub returns : goal.returns
returns c =
    derived_joined c.scripts_have_one_answer.ensures
    (record { kept = c.printed_moves_are_joined.ensures.kept; joined = c.printed_moves_are_joined.ensures.joined })
    c.narrow_steps_are_moves.ensures c.known_moves_are_written.ensures
