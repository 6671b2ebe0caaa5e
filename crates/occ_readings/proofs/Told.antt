-- What the reader and the replay answer says what becomes of the text.
use Rattle.std.proofs.Common.{◌≡◌, ℕ, List, [], Ok, Err, subst, ⊎_elim}
use Rattle.std.specs.Prelude.{◌≢◌, ◌⊎◌, Result, IfOk}
use Rattle.std.proofs.lemmas.Result.{IfOk-weaker}
use Rattle.occ_replay.specs.Scripts.{IsReplayed}
use Rattle.occ_replay.specs.declared.result.Joined.{Joined}
use Rattle.occ_replay.specs.declared.result.Rejected.{Rejected}
use Rattle.occ_replay.specs.declared.result.Rejected.TheVariants as rejected
use Rattle.occ_replay.specs.occ_script.Refusals.{IsScriptFault}
use Rattle.occ_replay.specs.occ_script.Scripts.{IsScript}
use Rattle.occ_replay.specs.occ_script.declared.fault.ScriptFault.{ScriptFault}
use Rattle.occ_replay.specs.occ_script.declared.fault.ScriptFault.TheVariants as script
use Rattle.occ_replay.specs.occ_script.declared.script.Script.{Script}
use Rattle.occ_syntax.specs.Same.{SAME}
use Rattle.occ_syntax.specs.Scopes.{environment}
use Rattle.occ_syntax.specs.View.{tree}
use Rattle.occ_readings.specs.Told.{IsDecided, IsTold, faulty, joins, rejects, replayed}

module _ {T E : Type 0} where
  -- the script joins its two programs
  pub joined_decided : (r : Result T E) (s : Script) (found : Joined) → IsReplayed s (Ok found)
      → SAME (environment s.from.program.params) (tree s.from.program.body) (tree s.to.body) → IfOk r (λ _. IsDecided s)
  joined_decided (Ok x) s found j same = joins found j same
  joined_decided (Err e) s found j same = tt

  -- or it doesn't
  pub rejected_decided : (r : Result T E) (s : Script) (cause : Rejected) → IsReplayed s (Err cause) → IfOk r (λ _. cause ≢ rejected.Memory) → IfOk r (λ _. IsDecided s)
  rejected_decided r s cause j other = IfOk-weaker r (λ _. cause ≢ rejected.Memory) (λ _. IsDecided s) (λ _ no. rejects cause no j) other

  -- the text is that script
  pub script_told : (r : Result T E) (text : List ℕ) (start new : List (List ℕ)) (s : Script) → start ≡ [] → IsScript text start new s → IfOk r (λ _. IsDecided s)
      → IfOk r (λ _. IsTold text)
  script_told r text start new s e is d = IfOk-weaker r (λ _. IsDecided s) (λ _. IsTold text) (λ _ h. replayed new s (subst (λ o. IsScript text o new s) e is) h) d

  -- or it has that fault
  pub fault_told : (r : Result T E) (text : List ℕ) (start : List (List ℕ)) (fault : ScriptFault) → start ≡ [] → IsScriptFault text start fault ⊎ (fault ≡ script.Memory)
      → IfOk r (λ _. fault ≢ script.Memory) → IfOk r (λ _. IsTold text)
  fault_told r text start fault e is other = IfOk-weaker r (λ _. fault ≢ script.Memory) (λ _. IsTold text)
      (λ _ no. ⊎_elim (λ (f : IsScriptFault text start fault). faulty fault no (subst (λ o. IsScriptFault text o fault) e f)) (λ (m : fault ≡ script.Memory). absurd (no m)) is) other
