use Rattle.occ_engine_written.proofs.Made.{followed_written}
use Rattle.occ_engine_written.proofs.written.followed_orders_are_written.Goals as goal

pub returns : goal.returns
returns c =
    followed_written c.no_names_are_places.ensures c.programs_leave_places.ensures c.orders_leave_places.ensures
    c.read_programs_print_within_levels.ensures c.read_programs_have_known_names.ensures c.kept_parts_have_known_names.ensures
    c.names_stay_below.ensures c.followed_orders_have_known_names.ensures c.orders_make_moves.ensures
