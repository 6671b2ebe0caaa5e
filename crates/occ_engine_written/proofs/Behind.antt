-- Written moves stay such in a longer table of places, and are written behind each table of places.
use Rattle.std.proofs.Common.{◌≡◌, ℕ, List, [], ◌∷◌, ◌++◌, codes, length, refl, ap, ap₂, subst}
use Rattle.std.specs.List.{AllByRecursion}
use Rattle.occ_renamed.proofs.from_lex.Interned.{longer}
use Rattle.occ_renamed.specs.occ_parse_rules.Places.{Place}
use Rattle.occ_script_table.specs.occ_print_back.Placed.{IsTable}
use Rattle.occ_script_table.specs.occ_print_back.Program.{IsPrintable}
use Rattle.occ_script_table.specs.occ_script_back.Tables.{IsGrown}
use Rattle.occ_script_table.specs.occ_script_back.Joined.{AreNamedSteps, AreWrittenMoves}
use Rattle.occ_engine_written.specs.Front.{AreWrittenBehind, with_texts}
use Rattle.occ_engine_written.proofs.Front.{in_front}
use Rattle.occ_engine_written.proofs.NumberedGrown.{grown_places, texts_grown, texts_there}
use Rattle.occ_engine_known.specs.occ_script_write.declared.writing.Done.{Done}
use Rattle.occ_engine_known.specs.occ_script_write.Text.{line, script_text, step_words, steps_text, text_of_program}
use Rattle.occ_script_table.specs.occ_script_back.Reads.{IsStepWell}
use Rattle.occ_script_table.specs.occ_script_back.Whole.{AreWrittenWell}
use Rattle.occ_script_table.proofs.from_script_back.Staying.{part_known, part_stays, program_stays}
use Rattle.occ_engine_known.specs.occ_syntax.declared.scope.Program.{Program}
use Rattle.occ_engine_known.specs.occ_syntax.View.{tree}

-- moves that are written are written well
abbrev pub AreGood : Type 0
AreGood = (names : List (List ℕ)) (P : ℕ → Place) (from to : Program) (steps : List Done) → AreWrittenMoves names P from steps to → AreWrittenWell names P from steps to

module _ (names t : List (List ℕ)) (P Q : ℕ → Place) (g : IsGrown names P t Q) where
  named_stay : (steps : List Done) → AreNamedSteps (length names) steps → AreNamedSteps (length t) steps
  named_stay [] h = tt
  named_stay (d ∷ steps) h = (
    record { said = h.0.said; known = part_known (length names) (length t) (longer names t g.extends) (tree d.part) h.0.known },
    named_stay steps h.1,
  )

  steps_stay : (steps : List Done) → AllByRecursion (IsStepWell names P) steps → steps_text t steps ≡ steps_text names steps
  steps_stay [] h = refl
  steps_stay (d ∷ steps) h =
      let w = h.0.written in
      ap₂ ◌++◌ (ap (λ s. line (step_words d) ++ s) (part_stays names P t Q g w.scope (tree d.part) w.printable).text) (steps_stay steps h.1)

  program_text_stays : (program : Program) → IsPrintable names P program.name.0 program.params (tree program.body) → text_of_program t program ≡ text_of_program names program
  program_text_stays program h = (program_stays names P t Q g program.name.0 program.params (tree program.body) h).text

  pub moves_stay : (from to : Program) (steps : List Done) → AreWrittenMoves names P from steps to → AreWrittenMoves t Q from steps to
  moves_stay from to steps w = record {
    from_is = (program_stays names P t Q g from.name.0 from.params (tree from.body) w.from_is).printable;
    accepted = w.accepted;
    narrow = w.narrow;
    levels = w.levels;
    named = named_stay steps w.named;
    moves = w.moves;
  }

  pub text_stays : (from to : Program) (steps : List Done) → AreWrittenWell names P from steps to → script_text t from steps to ≡ script_text names from steps to
  text_stays from to steps w =
      let first = program_text_stays from w.from_is in
      let between = steps_stay steps w.steps_are in
      let last = program_text_stays to w.to_is in
      λ i. line (codes "occam-script 2") ++ line (codes "FROM") ++ first i ++ between i ++ line (codes "TO") ++ last i

pub behind : AreGood → (names : List (List ℕ)) (P : ℕ → Place) (from to : Program) (steps : List Done) (front : List (List ℕ)) (Q : ℕ → Place)
    → AreWrittenMoves names P from steps to → IsTable front Q → AreWrittenBehind front (script_text names from steps to) (length steps)
behind good names P from to steps front Q w table =
    let t = with_texts names front in
    let R = grown_places names P w.from_is.table front Q table in
    let g : IsGrown names P t R = texts_grown names P w.from_is.table front Q table in
    let text = text_stays names t P R g from to steps (good names P from to steps w) in
    subst (λ s. AreWrittenBehind front s (length steps)) text
    (in_front t R from to steps front (moves_stay names t P R g from to steps w) table.distinct (texts_there names front))
