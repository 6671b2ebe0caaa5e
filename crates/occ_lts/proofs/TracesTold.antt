-- What two files are answered with, by the traces of their programs.
use Rattle.std.proofs.Common.{◌≡◌, ◌≢◌, ◌≤◌, ℕ, List, [], Option, Result, Ok, Err, IfOk, sym, ◌∙◌, inl, arith}
use Rattle.occ_syntax.specs.occ_base.declared.memory.Memory.{Memory}
use Rattle.occ_syntax.specs.declared.scope.Program.{Program as Stored}
use Rattle.occ_traces.specs.occ_compare.declared.refined.Refined.{Refined}
use Rattle.occ_traces.specs.occ_compare.declared.refined.Refined.TheVariants.{Yes, No}
use Rattle.occ_tool_run.specs.occ_behaviour.declared.behaviour.Side.{Side}
use Rattle.occ_tool_run.specs.occ_behaviour.declared.behaviour.Side.TheVariants.{First, Second}
use Rattle.occ_tool_run.specs.occ_call.declared.loading.Loaded.{Loaded}
use Rattle.occ_tool_run.specs.occ_call.Ran.{IsOwnStatus}
use Rattle.occ_tool_run.specs.Accepts.{Program}
use Rattle.occ_tool_run.specs.Answers.{Takes, accepted}
use Rattle.occ_tool_run.specs.Judged.{IsAcceptedFrom, IsRefusalAnswer, IsRefusedFrom}
use Rattle.occ_tool_run.specs.Stored.{seen}
use Rattle.occ_tool_run.specs.Texts.{status_of}
use Rattle.occ_tool_run.specs.declared.accept.Refusal.{Refusal}
use Rattle.occ_tool_run.specs.declared.answer.Answer.{Answer}
use Rattle.occ_tool_run.specs.declared.answer.Answer.TheVariants.{Allowed}
use Rattle.occ_tool_run.proofs.Judging.{accepted_file, refusal_taken}
use Rattle.occ_lts.specs.Traces.{Compares, ComparesAll}
use Rattle.occ_lts.proofs.Answering.{refusal_status}

abbrev Behind : Option (List ℕ) → List (List ℕ) → Program → Answer → Type 0
Behind two names p = Takes Second two names (Compares p)

pub refuse_first : (r : Result Answer Memory) (first second : Loaded) (new : List (List ℕ)) (f : Refusal) → IfOk r (IsRefusalAnswer new First f)
    → IsRefusedFrom first [] new f → IfOk r (ComparesAll first second)
refuse_first (Err m) first second new f is why = tt
refuse_first (Ok a) first second new f is why = λ one two h k. refusal_taken First first one [] new (Behind two) f a is why h

pub refuse_second : (r : Result Answer Memory) (first second : Loaded) (between new : List (List ℕ)) (p : Stored) (f : Refusal) → IsAcceptedFrom first [] between p
    → IfOk r (IsRefusalAnswer new Second f) → IsRefusedFrom second between new f → IfOk r (ComparesAll first second)
refuse_second (Err m) first second between new p f read is why = tt
refuse_second (Ok a) first second between new p f read is why = λ one two h k.
    accepted between (seen p) (accepted_file first one [] between p read h) (refusal_taken Second second two between new (Compares (seen p)) f a is why k)

pub settle : (r : Result Answer Memory) (first second : Loaded) (between new : List (List ℕ)) (p q : Stored) → IsAcceptedFrom first [] between p
    → IsAcceptedFrom second between new q → IfOk r (Compares (seen p) new (seen q)) → IfOk r (ComparesAll first second)
settle (Err m) first second between new p q read also h = tt
settle (Ok a) first second between new p q read also h = λ one two j k.
    accepted between (seen p) (accepted_file first one [] between p read j) (accepted new (seen q) (accepted_file second two between new q also k) h)

-- ---- the status
own : (n k : ℕ) → n ≡ k → k ≤ 3 → IsOwnStatus n
own n k e h = inl (omega (arith, e, h))

apart : (n k : ℕ) → n ≡ k → (k ≡ 2 → ⊥) → n ≢ 2
apart n k e h two = h (sym e ∙ two)

pub refused_own : (r : Result Answer Memory) (names : List (List ℕ)) (place : Side) (f : Refusal) → IfOk r (IsRefusalAnswer names place f)
    → IfOk r (λ a. IsOwnStatus (status_of a))
refused_own (Err m) names place f is = tt
refused_own (Ok a) names place f is = own (status_of a) 3 (refusal_status names place f a is) (omega arith)

pub refused_fits : (r : Result Answer Memory) (names : List (List ℕ)) (place : Side) (f : Refusal) → IfOk r (IsRefusalAnswer names place f)
    → IfOk r (λ a. status_of a ≢ 2)
refused_fits (Err m) names place f is = tt
refused_fits (Ok a) names place f is = apart (status_of a) 3 (refusal_status names place f a is) (λ e. omega (arith, e))

pub allowed_own : (names : List (List ℕ)) (r : Refined) → IsOwnStatus (status_of (Allowed names r))
allowed_own names Yes = inl (omega arith)
allowed_own names (No b) = inl (omega arith)

pub allowed_fits : (names : List (List ℕ)) (r : Refined) → status_of (Allowed names r) ≢ 2
allowed_fits names Yes e = omega (arith, e)
allowed_fits names (No b) e = omega (arith, e)
