use Rattle.occ_tool_laws.proofs.ProvePrinted.{proved_joined}
use Rattle.occ_tool_laws.proofs.proved_laws.proved_scripts_are_joined.Goals as goal

pub returns : goal.returns
returns c =
    proved_joined c.scripts_have_one_answer.ensures
    (record { kept = c.printed_moves_are_joined.ensures.kept; joined = c.printed_moves_are_joined.ensures.joined })
    (record {
      programs = c.programs_leave_places.ensures;
      levels = c.read_programs_print_within_levels.ensures;
      stay = c.names_stay_below.ensures;
      name = c.read_programs_have_known_names.ensures;
      kept = c.kept_parts_have_known_names.ensures;
      narrow = c.narrow_steps_are_moves.ensures;
    })
