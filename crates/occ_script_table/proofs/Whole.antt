-- Tables that begin empty are tables of places.
use Rattle.std.proofs.Common.{ℕ, List, [], None}
use Rattle.occ_script_back.specs.occ_base.declared.names.Name.{Name}
use Rattle.occ_script_back.specs.occ_parse.declared.bound.Bound.{Bound}
use Rattle.occ_script_back.specs.occ_parse.Reading.{IsRead}
use Rattle.occ_script_back.specs.occ_parse_rules.Places.{Place}
use Rattle.occ_script_back.specs.Tables.{Grows}
use Rattle.occ_script_back.specs.occ_script.declared.script.Order.{Order}
use Rattle.occ_script_back.specs.occ_script.declared.script.Script.{Script}
use Rattle.occ_script_back.specs.occ_script.Orders.{IsOrders}
use Rattle.occ_script_back.specs.occ_script.Scripts.{IsScript}
use Rattle.occ_script_table.specs.Tables.{HasPlaces}
use Rattle.occ_script_table.proofs.Left.{orders_left, script_left}
use Rattle.occ_script_table.proofs.Named.{no_names}
use Rattle.occ_script_table.proofs.Programs.{program_left}
use Rattle.occ_script_back.specs.occ_syntax.declared.scope.Kind.{Kind}
use Rattle.occ_script_back.specs.occ_syntax.Tree.{Tree}

grown : (names : List (List ℕ)) (P : ℕ → Place) (more : List (List ℕ)) → Grows names P more → HasPlaces more
grown names P more g = (g.0, g.1.table)

-- any places, for a table that has no name
nowhere : ℕ → Place
nowhere x = record { name = 0; element = None }

-- the table behind a program
pub program_has_places : (b : Bound) (text : List ℕ) (new : List (List ℕ)) (name : Name) (params : List (Name × Kind)) (body : Tree) (numbers : List ℕ)
    → IsRead b text [] new name params body numbers → HasPlaces new
program_has_places b text new name params body numbers h =
    grown [] nowhere new (program_left b text [] new nowhere name params body numbers (no_names nowhere) h)

-- the table behind orders
pub orders_have_places : (text : List ℕ) (old new : List (List ℕ)) (orders : List Order) → HasPlaces old → IsOrders text old new orders → HasPlaces new
orders_have_places text old new orders table h = grown old table.0 new (orders_left text old new table.0 orders table.1 h)

-- the table behind a script
pub script_has_places : (text : List ℕ) (new : List (List ℕ)) (script : Script) → IsScript text [] new script → HasPlaces new
script_has_places text new script h = grown [] nowhere new (script_left text [] new nowhere script (no_names nowhere) h)
