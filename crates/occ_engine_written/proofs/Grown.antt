-- Moves whose names stand in a table that has grown by names of the language are written.
use Rattle.std.proofs.Common.{◌≡◌, ℕ, ◌≤◌, true, nat_le, List, [], ◌∷◌, length, refl, sym, subst}
use Rattle.std.specs.List.{AllByRecursion}
use Rattle.std.proofs.lemmas.Bool.{le-leb}
use Rattle.occ_engine_known.specs.occ_base.Names.{with_text}
use Rattle.occ_engine_known.specs.occ_engine.Moved.{moves_of}
use Rattle.occ_renamed.specs.occ_replay_rules.Moves.{Moves}
use Rattle.occ_engine_written.specs.First.{AreWritten, IsFirstProgram}
use Rattle.occ_engine_written.proofs.Made.{EmptyLaw, LevelsLaw, ProgramsLaw, StayLaw, below_names, first_printable, places_of, written}
use Rattle.occ_engine_written.proofs.Printed.{KeptLaw, NameLaw, Table}
use Rattle.occ_engine_written.proofs.Said.{AreSaid}
use Rattle.occ_renamed.specs.occ_lex.Growth.{GrowsByNames, IsNameText, with_texts}
use Rattle.occ_renamed.proofs.from_lex.Interned.{longer}
use Rattle.occ_renamed.specs.occ_parse_rules.Places.{Place}
use Rattle.occ_script_table.specs.occ_print_back.Placed.{IsTable}
use Rattle.occ_script_table.specs.occ_script_back.Tables.{Grows}
use Rattle.occ_script_table.specs.occ_script_back.Joined.{AreNamedSteps}
use Rattle.occ_script_table.proofs.Named.{as_it_is, name_grown, one_behind}
use Rattle.occ_engine_known.specs.occ_script_write.declared.writing.Done.{Done}
use Rattle.occ_engine_known.specs.occ_script_write.Text.{IsWritable}
use Rattle.occ_engine_known.specs.occ_syntax.declared.scope.Program.{Program}
use Rattle.occ_engine_known.specs.occ_syntax.View.{tree}

-- a table of places with names of the language behind it is one
grown_by : (names : Table) (P : ℕ → Place) → IsTable names P → (texts : List (List ℕ)) → AllByRecursion IsNameText texts → Grows names P (with_texts names texts)
unfolding with_texts
grown_by names P table [] h = as_it_is names P table
grown_by names P table (text ∷ texts) h =
    one_behind names (with_text names text) (with_texts (with_text names text) texts) P table
    (name_grown names P table text h.0.kind (le-leb (length text) 32 h.0.short))
    (λ Q t e. grown_by (with_text names text) Q t texts h.1)

grown : (names new : Table) (P : ℕ → Place) → IsTable names P → GrowsByNames names new → Grows names P new
grown names new P table g = subst (Grows names P) (sym g.new_is) (grown_by names P table g.texts g.named)

named : (new : Table) (steps : List Done) → AllByRecursion (IsWritable new) steps → AreSaid steps → AreNamedSteps (length new) steps
named new [] h k = tt
named new (done ∷ steps) h k = (record { said = k.0; known = h.0.known }, named new steps h.1 k.1)

pub known_written : EmptyLaw → ProgramsLaw → LevelsLaw → NameLaw → KeptLaw → StayLaw
    → (names new : Table) (from to : Program) (steps : List Done) → IsFirstProgram names from → GrowsByNames names new
    → AllByRecursion (IsWritable new) steps → AreSaid steps → Moves from.params (tree from.body) (moves_of steps) (tree to.body)
    → to.name ≡ from.name → to.params ≡ from.params → AreWritten new from steps to
known_written empty programs levels name kept stay names new from to steps first g writable said moves same_name same_params =
    let before = places_of names from first empty programs in
    let after = grown names new before.0 before.1.table g in
    let e = after.1.extends in
    let below = stay (length names) (length new) from.params (tree from.body) (longer names new e) (below_names names from first) in
    written levels names new after.0 from to steps first (first_printable names from first new after.0 after.1.table e name kept below)
    (named new steps writable said) moves same_name same_params
