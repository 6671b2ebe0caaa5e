-- Tables of names that reading leaves are tables of places.
use Rattle.std.specs.Prelude.{ℕ, List, None}
use Rattle.occ_renamed.specs.occ_parse_rules.Places.{Place}
use Rattle.occ_engine_written.specs.Accepted.{IsLeft, behind_orders, behind_program, behind_script, no_names}
use Rattle.occ_script_table.specs.occ_script_back.Tables.{Grows}
use Rattle.occ_script_table.specs.Tables.{HasPlaces}
use Rattle.occ_script_table.proofs.Left.{orders_left, script_left}
use Rattle.occ_script_table.proofs.Named.{no_names as none_there}
use Rattle.occ_script_table.proofs.Programs.{program_left}
use Rattle.occ_engine_known.specs.occ_syntax.View.{tree}

-- any places, for a table that has no name
nowhere : ℕ → Place
nowhere x = record { name = 0; element = None }

grown : (old : List (List ℕ)) (P : ℕ → Place) (new : List (List ℕ)) → Grows old P new → HasPlaces new
grown old P new g = (g.0, g.1.table)

pub left_places : (names : List (List ℕ)) → IsLeft names → HasPlaces names
left_places names no_names = (nowhere, none_there nowhere)
left_places names (behind_program b text old new p lines left read) =
    let before = left_places old left in
    grown old before.0 new (program_left b text old new before.0 p.name p.params (tree p.body) lines before.1 read)
left_places names (behind_orders text old new orders left read) =
    let before = left_places old left in
    grown old before.0 new (orders_left text old new before.0 orders before.1 read)
left_places names (behind_script text old new script left read) =
    let before = left_places old left in
    grown old before.0 new (script_left text old new before.0 script before.1 read)
