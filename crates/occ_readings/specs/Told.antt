-- What becomes of a text that is to be a script.
use Rattle.std.specs.Prelude.{ℕ, ◌≢◌, List, [], Ok, Err}
use Rattle.occ_replay.specs.Scripts.{IsReplayed}
use Rattle.occ_replay.specs.declared.result.Joined.{Joined}
use Rattle.occ_replay.specs.declared.result.Rejected.{Rejected}
use Rattle.occ_replay.specs.declared.result.Rejected.TheVariants as rejected
use Rattle.occ_replay.specs.occ_script.Refusals.{IsScriptFault}
use Rattle.occ_replay.specs.occ_script.Scripts.{IsScript}
use Rattle.occ_replay.specs.occ_script.declared.fault.ScriptFault.{ScriptFault}
use Rattle.occ_replay.specs.occ_script.declared.fault.ScriptFault.TheVariants as script
use Rattle.occ_replay.specs.occ_script.declared.script.Script.{Script}
use Rattle.occ_syntax.specs.Same.{SAME}
use Rattle.occ_syntax.specs.Scopes.{environment}
use Rattle.occ_syntax.specs.View.{tree}

-- A script joins its two programs, which then mean the same; or there is a first cause for which it doesn't.
pub data IsDecided (s : Script) : Type 0 where
  joins : (found : Joined) → IsReplayed s (Ok found) → SAME (environment s.from.program.params) (tree s.from.program.body) (tree s.to.body)
      → IsDecided s
  rejects : (cause : Rejected) → cause ≢ rejected.Memory → IsReplayed s (Err cause) → IsDecided s

-- A text, read with an empty table of names, has a first fault; or it is a script, and that is decided.
pub data IsTold (text : List ℕ) : Type 0 where
  faulty : (fault : ScriptFault) → fault ≢ script.Memory → IsScriptFault text [] fault → IsTold text
  replayed : (new : List (List ℕ)) (s : Script) → IsScript text [] new s → IsDecided s → IsTold text
