-- Steps that were taken, as moves, and steps that are read, as steps of a derivation.
use Rattle.std.specs.Prelude.{ℕ, ◌≡◌, ◌≤◌, List, length, map}
use Rattle.std.specs.Option.{option_map}
use Rattle.std.specs.List.{AllByRecursion}
use Rattle.occ_replay_rules.specs.Moves.{Move, Moves}
use Rattle.occ_script_write.specs.occ_law.declared.table.LawId.{LawId}
use Rattle.occ_script.specs.occ_parse_part.Shown.{part_of}
use Rattle.occ_print_back.specs.occ_parse_rules.Places.{Place}
use Rattle.occ_script_write.specs.occ_print.Known.{PartIsKnown}
use Rattle.occ_script_write.specs.occ_print.Lines.{part_lines}
use Rattle.occ_print_back.specs.Back.{IsNarrow, deepest}
use Rattle.occ_print_back.specs.Program.{IsPrintable}
use Rattle.occ_replay_rules.specs.Replays.{IsDerivation}
use Rattle.occ_replay_rules.specs.Steps.{Step}
use Rattle.occ_script.specs.declared.script.Script.{Script}
use Rattle.occ_script.specs.declared.script.Step.{Step as Read}
use Rattle.occ_script_write.specs.declared.writing.Done.{Done}
use Rattle.occ_script_back.specs.Said.{IsSaid}
use Rattle.occ_script_write.specs.occ_syntax.declared.scope.Program.{Program}
use Rattle.occ_script_write.specs.occ_syntax.View.{tree}
use Rattle.occ_script_write.specs.occ_usage.Accepted.{IsAccepted}

-- a step that was taken, as a move
abbrev pub move_of : Done → Move
move_of done = record { law = done.law.0; dir = done.dir; path = done.path; part = tree done.part }

-- a step that is read, as the step of a derivation
abbrev pub number_of : LawId → ℕ
number_of law = law.0

abbrev pub step_of : Read → Step
step_of s = record { law = option_map number_of s.law; dir = s.dir; path = s.path; part = part_of s.part }

-- Steps are moves from one program to another of the same name and the same parameters.
pub record AreMoves (from : Program) (steps : List Done) (to : Program) : Type 0 where
  pub name : to.name ≡ from.name
  pub params : to.params ≡ from.params
  pub moves : Moves from.params (tree from.body) (map move_of steps) (tree to.body)

-- the line of a step can be read, and the names of its part are those of a table of so many names
pub record IsNamedStep (count : ℕ) (done : Done) : Type 0 where
  pub said : IsSaid done
  pub known : PartIsKnown count (tree done.part)

abbrev pub AreNamedSteps : ℕ → List Done → Type 0
AreNamedSteps count steps = AllByRecursion (IsNamedStep count) steps

-- Moves from an accepted program that is printed from a table of names, no line of which has more than 4,096 tokens or stands deeper
-- than level 64.
pub record AreWrittenMoves (names : List (List ℕ)) (P : ℕ → Place) (from : Program) (steps : List Done) (to : Program) : Type 0 where
  pub from_is : IsPrintable names P from.name.0 from.params (tree from.body)
  pub accepted : IsAccepted from
  pub narrow : IsNarrow from.name.0 from.params (tree from.body)
  pub levels : deepest (part_lines 1 (tree from.body)) ≤ 64
  pub named : AreNamedSteps (length names) steps
  pub moves : AreMoves from steps to

-- A script that is read is a derivation, with as many steps.
pub record IsJoined (steps : List Done) (script : Script) : Type 0 where
  pub derivation : IsDerivation script.from.program (map step_of script.steps) script.to
  pub as_many : length script.steps ≡ length steps
