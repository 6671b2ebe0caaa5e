use Rattle.occ_tool_laws.proofs.Printed.{transformed_joined}
use Rattle.occ_tool_laws.proofs.joined_laws.transformed_scripts_are_joined.Goals as goal

pub returns : goal.returns
returns c =
    transformed_joined c.scripts_have_one_answer.ensures
    (record { kept = c.printed_moves_are_joined.ensures.kept; joined = c.printed_moves_are_joined.ensures.joined })
    c.followed_orders_are_written.ensures
