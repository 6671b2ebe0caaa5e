use Rattle.occ_tool_laws.proofs.Printed.{expanded_joined}
use Rattle.occ_tool_laws.proofs.joined_laws.expanded_scripts_are_joined.Goals as goal

pub returns : goal.returns
returns c =
    expanded_joined c.scripts_have_one_answer.ensures
    (record { kept = c.printed_moves_are_joined.ensures.kept; joined = c.printed_moves_are_joined.ensures.joined })
    c.expansions_are_written.ensures c.paths_of_texts_are_short.ensures
