-- What a file is answered with.
use Rattle.std.specs.Prelude.{ℕ, ◌≡◌, Bool, true, false, nat_eq, nat_lt, List, [], length, Option, Some, Result, Ok, Err, codes}
use Rattle.std.specs.List.{starts_with}
use Rattle.occ_tool_run.specs.occ_behaviour.declared.behaviour.Side.TheVariants.{First}
use Rattle.occ_tool_run.specs.occ_call.Files.{most_table_bytes}
use Rattle.occ_draw.specs.declared.fault.Lack.{Lack}
use Rattle.occ_draw.specs.Steps.{list_of}
use Rattle.occ_draw.specs.Pictures.{dot_text}
use Rattle.occ_tool_run.specs.occ_nform_table.declared.table.TableFault.{TableFault}
use Rattle.occ_tool_run.specs.occ_nform_table.Normal.{Parts, text_read}
use Rattle.occ_tool_run.specs.occ_script.declared.fault.ScriptFault.{ScriptFault}
use Rattle.occ_tool_run.specs.occ_script.declared.script.Script.{Script}
use Rattle.occ_tool_run.specs.occ_script.Refusals.{IsScriptFault}
use Rattle.occ_tool_run.specs.occ_script.Scripts.{IsScript}
use Rattle.occ_tool_run.specs.occ_script.Shown.{shown}
use Rattle.occ_tool_run.specs.Texts.{refusal_text, script_refusal_text, table_refusal_text}
use Rattle.occ_draw.specs.Refusals.{step_refusal_text}

-- A status, and what is written with it.
pub record Told : Type 0 where
  pub status : ℕ
  pub text : List ℕ

abbrev pub refused : List ℕ → Told
refused line = record { status = 3; text = line }

-- ---- normal texts

-- the picture of the table that a text is read as, or its first fault
abbrev pub told : Result Parts TableFault → Told
told (Ok t) = record { status = 0; text = dot_text t.names t.params t.rows t.states }
told (Err fault) = refused (table_refusal_text fault)

-- ---- scripts

-- the list of a script's steps, or the first step that can't be told
abbrev pub told_list : Result (List ℕ) (ℕ × Lack) → Told
told_list (Ok text) = record { status = 0; text = text }
told_list (Err found) = refused (step_refusal_text found.0 found.1)

abbrev pub told_script : Script → Told
told_script script = told_list (list_of (shown script))

abbrev pub told_fault : ScriptFault → Told
told_fault fault = refused (script_refusal_text First fault)

-- a text is read as a script, and answered with the list of its steps; or it is refused for its first fault
pub data TellsScript (text : List ℕ) (answer : Told) : Type 0 where
  listed : (new : List (List ℕ)) (script : Script) → IsScript text [] new script → answer ≡ told_script script → TellsScript text answer
  faulty : (fault : ScriptFault) → IsScriptFault text [] fault → answer ≡ told_fault fault → TellsScript text answer

-- ---- texts

abbrev pub is_too_long : List ℕ → Bool
is_too_long text = nat_lt most_table_bytes (length text)

-- a text that begins so is taken for a script, and each other one for a normal text
abbrev pub is_script : List ℕ → Bool
is_script text = starts_with nat_eq text (codes "occam-script")

-- what a text is answered with
pub data Tells (text : List ℕ) (answer : Told) : Type 0 where
  of_length : is_too_long text ≡ true → answer ≡ refused (refusal_text First 1 (codes "Limit Bytes")) → Tells text answer
  of_table : is_too_long text ≡ false → is_script text ≡ false → answer ≡ told (text_read [] text) → Tells text answer
  of_script : is_too_long text ≡ false → is_script text ≡ true → TellsScript text answer → Tells text answer

-- the file is there, and this is what it is answered with
pub record Draws (file : Option (List ℕ)) (answer : Told) : Type 0 where
  pub text : List ℕ
  pub there : file ≡ Some text
  pub tells : Tells text answer

-- the same, by its status and its text
abbrev pub Answers : Option (List ℕ) → ℕ → List ℕ → Type 0
Answers file status text = Draws file (record { status = status; text = text })
