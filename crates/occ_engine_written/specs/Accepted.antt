-- Programs that were read and accepted, the parts of them and of scripts, and that their texts read back.
use Rattle.std.specs.Prelude.{ℕ, ◌≡◌, true, false, List, [], ◌∷◌, ◌++◌, map, Some}
use Rattle.occ_engine_known.specs.occ_base.declared.names.Name.{Name}
use Rattle.occ_renamed.specs.occ_meaning.Context.{part_at}
use Rattle.occ_renamed.specs.occ_parse.declared.bound.Bound.{Bound}
use Rattle.occ_renamed.specs.occ_parse.Limits.{is_limited, is_too_long}
use Rattle.occ_renamed.specs.occ_parse_rules.Places.{Place}
use Rattle.occ_script_table.specs.occ_print_back.Back.{IsNarrow}
use Rattle.occ_script_table.specs.occ_print_back.Placed.{IsTable}
use Rattle.occ_script_table.specs.occ_script_back.Back.{PartReadsBack}
use Rattle.occ_renamed.specs.occ_replay_rules.Steps.{Derives, IsAcceptable, Step}
use Rattle.occ_engine_known.specs.occ_script.declared.script.Order.{Order}
use Rattle.occ_engine_known.specs.occ_script.declared.script.Script.{Script}
use Rattle.occ_engine_known.specs.occ_script.Orders.{IsOrders}
use Rattle.occ_engine_known.specs.occ_script.Scripts.{IsProgram, IsScript}
use Rattle.occ_script_table.specs.occ_script_back.Joined.{step_of}
use Rattle.occ_engine_known.specs.occ_syntax.declared.scope.Kind.{Kind}
use Rattle.occ_engine_known.specs.occ_syntax.declared.scope.Program.{Program}
use Rattle.occ_engine_known.specs.occ_syntax.Tree.{Tree}
use Rattle.occ_engine_known.specs.occ_syntax.View.{tree}
use Rattle.occ_renamed.specs.occ_usage.Accepted.{IsAccepted}

-- A table of names that reading leaves: none, and the names behind a program, orders or a script that were read with such a table.
pub data IsLeft : List (List ℕ) → Type 0 where
  no_names : IsLeft []
  behind_program : (b : Bound) (text : List ℕ) (old new : List (List ℕ)) (program : Program) (lines : List ℕ) → IsLeft old
      → IsProgram b text old new program lines → IsLeft new
  behind_orders : (text : List ℕ) (old new : List (List ℕ)) (orders : List Order) → IsLeft old → IsOrders text old new orders → IsLeft new
  behind_script : (text : List ℕ) (old new : List (List ℕ)) (script : Script) → IsLeft old → IsScript text old new script → IsLeft new

-- The program was read from a text, which left these names, and it is accepted.
pub record IsAcceptedText (b : Bound) (names : List (List ℕ)) (program : Program) : Type 0 where
  pub text : List ℕ
  pub old : List (List ℕ)
  pub lines : List ℕ
  pub read : IsProgram b text old names program lines
  pub accepted : IsAccepted program

-- What an accepted program can lack: no line on which it is printed has more than 4,096 tokens, its text with what stands in front of it
-- has no more bytes than are allowed, and where all limits bind that text they bound the one that was read.
pub record IsShort (b c : Bound) (text : List ℕ) (program : Program) : Type 0 where
  pub narrow : IsNarrow program.name.0 program.params (tree program.body)
  pub short : is_too_long c text ≡ false
  pub bound : is_limited c ≡ true → is_limited b ≡ true

-- A text is read as the program, with the same table of names.
abbrev pub ReadsAsProgram : Bound → List ℕ → List (List ℕ) → Program → Type 0
ReadsAsProgram c text names program = (lines : List ℕ) × IsProgram c text names names program lines

-- The text of a part, behind any text and from any line number on, is read as that part in the scope.
abbrev pub PartPrintsBack : List (List ℕ) → List (Name × Kind) → Tree → Type 0
PartPrintsBack names scope part =
    (P : ℕ → Place) × IsTable names P × ((front : List ℕ) (number : ℕ) → PartReadsBack names P scope front number part)

-- Good steps of a script lead from its first program, which is accepted, to a process, and the part of the next step may be put in.
pub record IsReached (script : Script) (here : Tree) (step : Step) : Type 0 where
  pub before : List Step
  pub after : List Step
  pub steps_are : map step_of script.steps ≡ before ++ step ∷ after
  pub accepted : IsAccepted script.from.program
  pub derived : Derives script.from.program.params (tree script.from.program.body) before here
  pub old : Tree
  pub there : part_at step.path here ≡ Some old
  pub acceptable : IsAcceptable script.from.program.params here step
