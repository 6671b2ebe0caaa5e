-- A text that is no faulty script, and is read as derivations alone, is answered as joined.
use Rattle.std.specs.Prelude.{codes}
use Rattle.std.proofs.Common.{◌≡◌, ◌≢◌, ℕ, ◌≤◌, List, [], length, Err, refl, ap, ◌∙◌, arith}
use Rattle.occ_witness.specs.occ_replay.declared.result.Rejected.{Rejected}
use Rattle.occ_witness.specs.occ_replay.declared.result.Rejected.TheVariants as rejected
use Rattle.occ_witness.specs.occ_replay.Scripts.{IsReplayed, steps_of}
use Rattle.occ_witness.specs.occ_replay_rules.Replays.{IsDerivation, Replayed, Replays, breaks_usage, joined, lacking, wrong_end}
use Rattle.occ_witness.specs.occ_replay_rules.Steps.{Step, no_law, no_path, not_accepted, not_instance}
use Rattle.occ_witness.specs.occ_script.declared.fault.ScriptFault.{ScriptFault}
use Rattle.occ_witness.specs.occ_script.declared.script.Script.{Script}
use Rattle.occ_witness.specs.occ_script.Refusals.{IsScriptFault}
use Rattle.occ_witness.specs.occ_script.Scripts.{IsScript}
use Rattle.occ_witness.specs.occ_syntax.declared.scope.Program.{Program}
use Rattle.occ_witness.specs.occ_tool_run.Derivations.{IsReplayAnswer, IsReplayOf, faulty_script, joined_script, rejected_script, replayed_script, too_long_script}
use Rattle.occ_witness.specs.occ_call.Files.{most_script_bytes}
use Rattle.occ_witness.specs.occ_tool_run.Texts.{figure_text, status_of, text_of}

abbrev pub OneLaw : Type 0
OneLaw = (from to : Program) (steps : List Step) (a b : Replayed) → Replays from steps to a → Replays from steps to b → a ≡ b

-- a derivation isn't rejected
derived_or_rejected : OneLaw → (s : Script) (cause : Rejected) → cause ≢ rejected.Memory → IsReplayed s (Err cause) → IsDerivation s.from.program (steps_of s.steps) s.to → ⊥
derived_or_rejected one s (rejected.From fault) m r d = let bad : joined ≡ breaks_usage fault = one s.from.program s.to (steps_of s.steps) joined (breaks_usage fault) d r in absurd cc
derived_or_rejected one s (rejected.NoLaw k) m r d = let bad : joined ≡ lacking k no_law = one s.from.program s.to (steps_of s.steps) joined (lacking k no_law) d r in absurd cc
derived_or_rejected one s (rejected.NoPath k) m r d = let bad : joined ≡ lacking k no_path = one s.from.program s.to (steps_of s.steps) joined (lacking k no_path) d r in absurd cc
derived_or_rejected one s (rejected.NotAccepted k) m r d = let bad : joined ≡ lacking k not_accepted = one s.from.program s.to (steps_of s.steps) joined (lacking k not_accepted) d r in absurd cc
derived_or_rejected one s (rejected.NotInstance k) m r d = let bad : joined ≡ lacking k not_instance = one s.from.program s.to (steps_of s.steps) joined (lacking k not_instance) d r in absurd cc
derived_or_rejected one s rejected.WrongEnd m r d = let bad : joined ≡ wrong_end = one s.from.program s.to (steps_of s.steps) joined wrong_end d r in absurd cc
derived_or_rejected one s rejected.Memory m r d = absurd (m refl)

-- whatever script the text is read as is a derivation of so many steps
pub record IsDerived (text : List ℕ) (count : ℕ) : Type 0 where
  pub short : length text ≤ most_script_bytes
  pub kept : (e : ScriptFault) → IsScriptFault text [] e → ⊥
  pub derived : (new : List (List ℕ)) (s : Script) → IsScript text [] new s → IsDerivation s.from.program (steps_of s.steps) s.to
  pub as_many : (new : List (List ℕ)) (s : Script) → IsScript text [] new s → length s.steps ≡ count

replay_of : OneLaw → (s : Script) (names : List (List ℕ)) (count : ℕ) (answer : _) → IsDerivation s.from.program (steps_of s.steps) s.to → length s.steps ≡ count
    → IsReplayOf s names answer → (status_of answer ≡ 0) × (text_of answer ≡ figure_text (codes "JOINED") count)
replay_of one s names count answer d n (joined_script j e) = (ap status_of e, ap text_of e ∙ ap (figure_text (codes "JOINED")) n)
replay_of one s names count answer d n (rejected_script cause m r e) = absurd (derived_or_rejected one s cause m r d)

pub replay_joined : OneLaw → (text : List ℕ) (count : ℕ) (answer : _) → IsDerived text count → IsReplayAnswer text answer
    → (status_of answer ≡ 0) × (text_of answer ≡ figure_text (codes "JOINED") count)
replay_joined one text count answer h (too_long_script l e) = absurd (omega (arith, l, h.short))
replay_joined one text count answer h (faulty_script fault l f e) = absurd (h.kept fault f)
replay_joined one text count answer h (replayed_script new s l i r) = replay_of one s new count answer (h.derived new s i) (h.as_many new s i) r
