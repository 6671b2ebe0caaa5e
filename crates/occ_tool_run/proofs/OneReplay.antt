-- A script is replayed with one answer.
use Rattle.std.proofs.Common.{◌≡◌, ◌≢◌, ◌≤◌, ℕ, List, [], ◌∷◌, length, map, Option, Err, refl, sym, ◌∙◌, ap, subst, arith}
use Rattle.std.specs.Option.{option_map}
use Rattle.std.proofs.lemmas.List.{length-map}
use Rattle.occ_syntax.specs.occ_base.declared.names.Name.{Name}
use Rattle.occ_run_schedule.specs.occ_behaviour.declared.behaviour.Side.TheVariants.{First}
use Rattle.occ_replay.specs.declared.result.Rejected.{Rejected}
use Rattle.occ_replay.specs.declared.result.Rejected.TheVariants as rejected
use Rattle.occ_replay.specs.Scripts.{IsReplayed, number_of, step_of, steps_of}
use Rattle.occ_replay.specs.occ_replay_rules.Replays.{IsEnd, Replayed, Replays, breaks_usage, joined, lacking, wrong_end}
use Rattle.occ_replay.specs.occ_replay_rules.Steps.{Derives, Lack, Step, Stops, no_law, no_path, not_accepted, not_instance}
use Rattle.occ_replay.specs.occ_script.declared.fault.ScriptFault.{ScriptFault}
use Rattle.occ_replay.specs.occ_script.declared.script.Script.{Script}
use Rattle.occ_replay.specs.occ_script.declared.script.Step.{Step as Read}
use Rattle.occ_replay.specs.occ_script.Refusals.{IsScriptFault}
use Rattle.occ_replay.specs.occ_script.Scripts.{IsScript}
use Rattle.occ_replay.specs.occ_script.Shown.{ShownStep, shown, shown_program, shown_step}
use Rattle.occ_syntax.specs.declared.scope.Kind.{Kind}
use Rattle.occ_syntax.specs.declared.scope.Program.{Program}
use Rattle.occ_syntax.specs.Counts.{bits_of_scope, controls, most_bits}
use Rattle.occ_syntax.specs.Scopes.{environment}
use Rattle.occ_syntax.specs.Tree.{Tree}
use Rattle.occ_syntax.specs.Types.{scope_kept, types_kept}
use Rattle.occ_syntax.specs.Usage.{Keeps, KeepsUsage}
use Rattle.occ_syntax.specs.View.{tree}
use Rattle.occ_run_schedule.specs.occ_usage.Accepted.{IsAccepted, IsFirst, IsTyped}
use Rattle.occ_run_schedule.specs.occ_usage.Faults.{faults, names_of}
use Rattle.occ_run_schedule.specs.occ_usage.declared.fault.UsageFault.{UsageFault}
use Rattle.occ_tool_run.specs.declared.answer.Answer.{Answer}
use Rattle.occ_tool_run.specs.declared.answer.Answer.TheVariants.{Joined, RefusedScript, TooLong, Unjoined}
use Rattle.occ_tool_run.specs.Derivations.{IsReplayAnswer, IsReplayOf, Replays as IsReplay, faulty_script, joined_script, line_of_cause, rejected_script, replayed_script, too_long_script}
use Rattle.occ_tool_run.proofs.Once.{AreAlike, alike, same_bytes}

-- a text is one script as far as it can be seen, or has one fault, and a script has one answer
pub record IsOneScript : Type 0 where
  pub one_script : (text : List ℕ) (old m n : List (List ℕ)) (s t : Script) → IsScript text old m s → IsScript text old n t → (shown s ≡ shown t) × (m ≡ n)
  pub one_fault : (text : List ℕ) (old : List (List ℕ)) (e f : ScriptFault) → IsScriptFault text old e → IsScriptFault text old f → e ≡ f
  pub not_both : (text : List ℕ) (old m : List (List ℕ)) (s : Script) (e : ScriptFault) → IsScript text old m s → IsScriptFault text old e → ⊥
  pub one_answer : (from to : Program) (steps : List Step) (a b : Replayed) → Replays from steps to a → Replays from steps to b → a ≡ b

-- ---- what is asked of a program is asked of its parameters and of its body as a tree

with_program : {X : Type 0} (P : List (Name × Kind) → Tree → X → Type 0) (p q : Program) (x y : X) → p.params ≡ q.params → tree p.body ≡ tree q.body → x ≡ y
    → P q.params (tree q.body) y → P p.params (tree p.body) x
with_program {X} P p q x y params body same h =
    let F : List (Name × Kind) → Type 0 = λ ps. P ps (tree p.body) x in
    let G : Tree → Type 0 = λ t. P q.params t x in
    let H : X → Type 0 = λ z. P q.params (tree q.body) z in
    subst F (sym params) (subst G (sym body) (subst H (sym same) h))

typed_as : (p q : Program) → p.params ≡ q.params → tree p.body ≡ tree q.body → IsTyped q → IsTyped p
typed_as p q params body h = record {
  scope = ap scope_kept params ∙ h.scope;
  types = (λ i. types_kept (body i) (environment (params i))) ∙ h.types;
  controls = subst (λ t. controls t ≤ 4096) (sym body) h.controls;
  parameters = subst (λ (ps : List (Name × Kind)). length ps ≤ 16) (sym params) h.parameters;
  interface = subst (λ ps. bits_of_scope ps ≤ 16) (sym params) h.interface;
  state = with_program (λ ps t (x : Unit {0}). most_bits t (bits_of_scope ps) ≤ 24) p q tt tt params body refl h.state;
}

accepted_as : (p q : Program) → p.params ≡ q.params → tree p.body ≡ tree q.body → IsAccepted q → IsAccepted p
accepted_as p q params body h = record {
  typed = typed_as p q params body h.typed;
  keeps = with_program (λ ps t (x : Unit {0}). Keeps (environment ps) t) p q tt tt params body refl h.keeps;
}

first_as : (p q : Program) (fault : UsageFault) → p.params ≡ q.params → tree p.body ≡ tree q.body → IsFirst fault q → IsFirst fault p
first_as p q fault params body h = record {
  later = h.later;
  found = (λ i. faults (body i) 0 (names_of (params i))) ∙ h.found;
  broken = λ k. h.broken (subst KeepsUsage body k);
}

-- two programs look alike
record LookAlike (p q : Program) : Type 0 where
  name : p.name ≡ q.name
  params : p.params ≡ q.params
  body : tree p.body ≡ tree q.body

look_alike : (p q : Program) → shown_program p ≡ shown_program q → LookAlike p q
look_alike p q e = record { name = ap (λ s. s.name) e; params = ap (λ s. s.params) e; body = ap (λ s. s.body) e }

end_as : (p q o r : Program) (end : Tree) → LookAlike p q → LookAlike o r → IsEnd q end r → IsEnd p end o
end_as p q o r end e f h = record { name = f.name ∙ h.name ∙ sym e.name; params = f.params ∙ h.params ∙ sym e.params; body = f.body ∙ h.body }

end_back : (p q o r : Program) (end : Tree) → LookAlike p q → LookAlike o r → IsEnd p end o → IsEnd q end r
end_back p q o r end e f h = record { name = sym f.name ∙ h.name ∙ e.name; params = sym f.params ∙ h.params ∙ e.params; body = sym f.body ∙ h.body }

-- scripts that look alike are replayed alike
replays_as : (p q o r : Program) (steps others : List Step) (a : Replayed) → LookAlike p q → LookAlike o r → steps ≡ others → Replays q others r a → Replays p steps o a
replays_as p q o r steps others joined e f same h = record {
  accepted = accepted_as p q e.params e.body h.accepted;
  end = h.end;
  derived = with_program (λ ps t ss. Derives ps t ss h.end) p q steps others e.params e.body same h.derived;
  is_end = end_as p q o r h.end e f h.is_end;
}
replays_as p q o r steps others (breaks_usage fault) e f same h = first_as p q fault e.params e.body h
replays_as p q o r steps others (lacking number lack) e f same h = record {
  accepted = accepted_as p q e.params e.body h.accepted;
  stops = with_program (λ ps t ss. Stops ps t ss number lack) p q steps others e.params e.body same h.stops;
}
replays_as p q o r steps others wrong_end e f same h = record {
  accepted = accepted_as p q e.params e.body h.accepted;
  end = h.end;
  derived = with_program (λ ps t ss. Derives ps t ss h.end) p q steps others e.params e.body same h.derived;
  differs = λ g. h.differs (end_back p q o r h.end e f g);
}

-- ---- causes as answers

abbrev outcome : Rejected → Replayed
outcome (rejected.From fault) = breaks_usage fault
outcome (rejected.NoLaw k) = lacking k no_law
outcome (rejected.NoPath k) = lacking k no_path
outcome (rejected.NotAccepted k) = lacking k not_accepted
outcome (rejected.NotInstance k) = lacking k not_instance
outcome rejected.WrongEnd = wrong_end
outcome rejected.Memory = joined

abbrev cause_of_step : ℕ → Lack → Rejected
cause_of_step k no_law = rejected.NoLaw k
cause_of_step k no_path = rejected.NoPath k
cause_of_step k not_accepted = rejected.NotAccepted k
cause_of_step k not_instance = rejected.NotInstance k

abbrev cause_of : Replayed → Rejected
cause_of joined = rejected.Memory
cause_of (breaks_usage fault) = rejected.From fault
cause_of (lacking k lack) = cause_of_step k lack
cause_of wrong_end = rejected.WrongEnd

back_again : (c : Rejected) → cause_of (outcome c) ≡ c
back_again (rejected.From fault) = refl
back_again (rejected.NoLaw k) = refl
back_again (rejected.NoPath k) = refl
back_again (rejected.NotAccepted k) = refl
back_again (rejected.NotInstance k) = refl
back_again rejected.WrongEnd = refl
back_again rejected.Memory = refl

rejected_as : (s : Script) (c : Rejected) → c ≢ rejected.Memory → IsReplayed s (Err c) → Replays s.from.program (steps_of s.steps) s.to (outcome c)
rejected_as s (rejected.From fault) kept h = h
rejected_as s (rejected.NoLaw k) kept h = h
rejected_as s (rejected.NoPath k) kept h = h
rejected_as s (rejected.NotAccepted k) kept h = h
rejected_as s (rejected.NotInstance k) kept h = h
rejected_as s rejected.WrongEnd kept h = h
rejected_as s rejected.Memory kept h = absurd (kept refl)

-- ---- steps as they look

abbrev as_seen : ShownStep → Step
as_seen s = record { law = option_map number_of s.law; dir = s.dir; path = s.path; part = s.part }

steps_seen : (steps : List Read) → steps_of steps ≡ map as_seen (map shown_step steps)
steps_seen [] = refl
steps_seen (s ∷ ss) = ap (λ more. step_of s ∷ more) (steps_seen ss)

same_steps : (s t : Script) → shown s ≡ shown t → steps_of s.steps ≡ steps_of t.steps
same_steps s t e = steps_seen s.steps ∙ ap (λ v. map as_seen v.steps) e ∙ sym (steps_seen t.steps)

same_count : (s t : Script) → shown s ≡ shown t → length s.steps ≡ length t.steps
same_count s t e = sym (length-map s.steps shown_step) ∙ ap (λ v. length v.steps) e ∙ length-map t.steps shown_step

module _ (single : IsOneScript) where
  one_outcome : (s t : Script) (a b : Replayed) → shown s ≡ shown t → Replays s.from.program (steps_of s.steps) s.to a → Replays t.from.program (steps_of t.steps) t.to b → a ≡ b
  one_outcome s t a b e f g =
      let first : LookAlike s.from.program t.from.program = look_alike s.from.program t.from.program (ap (λ v. v.from) e) in
      let last : LookAlike s.to t.to = look_alike s.to t.to (ap (λ v. v.to) e) in
      single.one_answer s.from.program s.to (steps_of s.steps) a b f (replays_as s.from.program t.from.program s.to t.to (steps_of s.steps) (steps_of t.steps) b first last (same_steps s t e) g)

  -- no cause stands where a script joins its programs
  no_cause : (s t : Script) (c : Rejected) → shown s ≡ shown t → Replays s.from.program (steps_of s.steps) s.to joined → c ≢ rejected.Memory → IsReplayed t (Err c) → ⊥
  no_cause s t c e f kept g = kept (sym (back_again c) ∙ sym (ap cause_of (one_outcome s t joined (outcome c) e f (rejected_as t c kept g))))

  replay_alike : (s t : Script) (m n : List (List ℕ)) (a b : Answer) → shown s ≡ shown t → m ≡ n → IsReplayOf s m a → IsReplayOf t n b → AreAlike a b
  replay_alike s t m n a b e same (joined_script f x) (joined_script g y) = alike a b (Joined (length s.steps)) (Joined (length t.steps)) x (ap Joined (same_count s t e)) y
  replay_alike s t m n a b e same (joined_script f x) (rejected_script d kept g y) = absurd (no_cause s t d e f.derivation kept g)
  replay_alike s t m n a b e same (rejected_script c kept f x) (joined_script g y) = absurd (no_cause t s c (sym e) g.derivation kept f)
  replay_alike s t m n a b e same (rejected_script c kept f x) (rejected_script d none g y) =
      let one : c ≡ d = sym (back_again c) ∙ ap cause_of (one_outcome s t (outcome c) (outcome d) e (rejected_as s c kept f) (rejected_as t d none g)) ∙ back_again d in
      let lines : s.from.lines ≡ t.from.lines = ap (λ v. v.lines) e in
      alike a b (Unjoined m (line_of_cause s.from.lines c) c) (Unjoined n (line_of_cause t.from.lines d) d) x (λ i. Unjoined (same i) (line_of_cause (lines i) (one i)) (one i)) y

  answer_alike : (bytes : List ℕ) (a b : Answer) → IsReplayAnswer bytes a → IsReplayAnswer bytes b → AreAlike a b
  answer_alike bytes a b (too_long_script l x) (too_long_script k y) = alike a b (TooLong First) (TooLong First) x refl y
  answer_alike bytes a b (too_long_script l x) (faulty_script f k g y) = absurd (omega (arith, l, k))
  answer_alike bytes a b (too_long_script l x) (replayed_script n t k g y) = absurd (omega (arith, l, k))
  answer_alike bytes a b (faulty_script f l g x) (too_long_script k y) = absurd (omega (arith, l, k))
  answer_alike bytes a b (faulty_script f l h x) (faulty_script e k g y) = alike a b (RefusedScript f) (RefusedScript e) x (ap RefusedScript (single.one_fault bytes [] f e h g)) y
  answer_alike bytes a b (faulty_script f l h x) (replayed_script n t k g y) = absurd (single.not_both bytes [] n t f g h)
  answer_alike bytes a b (replayed_script m s l h x) (too_long_script k y) = absurd (omega (arith, l, k))
  answer_alike bytes a b (replayed_script m s l h x) (faulty_script e k g y) = absurd (single.not_both bytes [] m s e h g)
  answer_alike bytes a b (replayed_script m s l h x) (replayed_script n t k g y) =
      let one : (shown s ≡ shown t) × (m ≡ n) = single.one_script bytes [] m n s t h g in
      replay_alike s t m n a b one.0 one.1 x y

  pub replays_alike : (file : Option (List ℕ)) (a b : Answer) → IsReplay file a → IsReplay file b → AreAlike a b
  replays_alike file a b s t =
      let P : List ℕ → Type 0 = λ bytes. IsReplayAnswer bytes b in
      answer_alike s.bytes a b s.replayed (subst P (same_bytes file t.bytes s.bytes t.there s.there) t.replayed)
