-- What is known of moves whose script is read with the table that it was printed from.
use Rattle.std.proofs.Common.{ℕ, ◌≤◌, List, length}
use Rattle.occ_renamed.specs.occ_parse_rules.Places.{Place}
use Rattle.occ_engine_known.specs.occ_script.Refusals.{IsScriptFault}
use Rattle.occ_engine_known.specs.occ_script.Scripts.{IsScript}
use Rattle.occ_engine_known.specs.occ_script.declared.fault.ScriptFault.{ScriptFault}
use Rattle.occ_engine_known.specs.occ_script.declared.script.Script.{Script}
use Rattle.occ_script_table.specs.occ_script_back.Joined.{AreWrittenMoves, IsJoined}
use Rattle.occ_engine_known.specs.occ_script_write.declared.writing.Done.{Done}
use Rattle.occ_engine_known.specs.occ_script_write.Text.{script_text}
use Rattle.occ_engine_known.specs.occ_syntax.declared.scope.Program.{Program}

-- what is known of moves that are read with the table that they were printed from
abbrev pub AreJoined : Type 0
AreJoined = (names : List (List ℕ)) (P : ℕ → Place) (from to : Program) (steps : List Done) → AreWrittenMoves names P from steps to
    → (new : List (List ℕ)) (script : Script) → IsScript (script_text names from steps to) names new script → IsJoined steps script

abbrev pub AreKept : Type 0
AreKept = (names : List (List ℕ)) (P : ℕ → Place) (from to : Program) (steps : List Done) → AreWrittenMoves names P from steps to
    → length (script_text names from steps to) ≤ 4194304 → (e : ScriptFault) → IsScriptFault (script_text names from steps to) names e → ⊥
