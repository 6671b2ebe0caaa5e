-- The answer to a script.
use Rattle.std.specs.Prelude.{ℕ, ◌≡◌, ◌≢◌, ◌≤◌, ◌<◌, List, [], length, slice_index_or, Option, Some, Err}
use Rattle.occ_run_schedule.specs.occ_behaviour.declared.behaviour.Side.TheVariants.{First}
use Rattle.occ_replay.specs.declared.result.Rejected.{Rejected}
use Rattle.occ_replay.specs.declared.result.Rejected.TheVariants as rejected
use Rattle.occ_replay.specs.Scripts.{IsReplayed, steps_of}
use Rattle.occ_replay.specs.occ_replay_rules.Replays.{IsDerivation}
use Rattle.occ_replay.specs.occ_script.declared.fault.ScriptFault.{ScriptFault}
use Rattle.occ_replay.specs.occ_script.declared.fault.ScriptFault.TheVariants as script
use Rattle.occ_replay.specs.occ_script.declared.script.Script.{Script}
use Rattle.occ_replay.specs.occ_script.Refusals.{IsScriptFault}
use Rattle.occ_replay.specs.occ_script.Scripts.{IsScript}
use Rattle.occ_syntax.specs.Same.{SAME}
use Rattle.occ_syntax.specs.Scopes.{environment}
use Rattle.occ_syntax.specs.View.{tree}
use Rattle.occ_tool_run.specs.Accepts.{node_of}
use Rattle.occ_tool_run.specs.declared.answer.Answer.{Answer}
use Rattle.occ_tool_run.specs.declared.answer.Answer.TheVariants.{TooLong, RefusedScript, Joined, Unjoined}
use Rattle.occ_call.specs.Files.{most_script_bytes}

-- the line of the PAR, where the first program breaks the usage rule
abbrev pub line_of_cause : List ℕ → Rejected → ℕ
line_of_cause lines (rejected.From fault) = slice_index_or lines (node_of fault) 1
line_of_cause lines (rejected.NoLaw step) = 1
line_of_cause lines (rejected.NoPath step) = 1
line_of_cause lines (rejected.NotAccepted step) = 1
line_of_cause lines (rejected.NotInstance step) = 1
line_of_cause lines rejected.WrongEnd = 1
line_of_cause lines rejected.Memory = 1

-- The steps of a script derive its last program from its first, which is accepted; and the two mean the same.
pub record IsJoining (s : Script) : Type 0 where
  pub derivation : IsDerivation s.from.program (steps_of s.steps) s.to
  pub one_interface : s.to.params ≡ s.from.program.params
  pub same : SAME (environment s.from.program.params) (tree s.from.program.body) (tree s.to.body)

-- the answer to a script that was read
pub data IsReplayOf (s : Script) (names : List (List ℕ)) (answer : Answer) : Type 0 where
  joined_script : IsJoining s → answer ≡ Joined (length s.steps) → IsReplayOf s names answer
  rejected_script : (cause : Rejected) → cause ≢ rejected.Memory → IsReplayed s (Err cause) → answer ≡ Unjoined names (line_of_cause s.from.lines cause) cause
      → IsReplayOf s names answer

-- The answer to the bytes of a file that is to be a script. It is read with an empty table of names.
pub data IsReplayAnswer (bytes : List ℕ) (answer : Answer) : Type 0 where
  too_long_script : most_script_bytes < length bytes → answer ≡ TooLong First → IsReplayAnswer bytes answer
  faulty_script : (fault : ScriptFault) → length bytes ≤ most_script_bytes → IsScriptFault bytes [] fault → answer ≡ RefusedScript fault → IsReplayAnswer bytes answer
  replayed_script : (new : List (List ℕ)) (s : Script) → length bytes ≤ most_script_bytes → IsScript bytes [] new s → IsReplayOf s new answer → IsReplayAnswer bytes answer

pub record Replays (file : Option (List ℕ)) (answer : Answer) : Type 0 where
  pub bytes : List ℕ
  pub there : file ≡ Some bytes
  pub replayed : IsReplayAnswer bytes answer

-- the answer that refuses a script
abbrev pub IsScriptRefusal : ScriptFault → Answer → Type 0
IsScriptRefusal fault answer = (answer ≡ RefusedScript fault) × (fault ≢ script.Memory)

-- the answer that rejects a script
abbrev pub IsRejection : List (List ℕ) → List ℕ → Rejected → Answer → Type 0
IsRejection names lines cause answer = (answer ≡ Unjoined names (line_of_cause lines cause) cause) × (cause ≢ rejected.Memory)
