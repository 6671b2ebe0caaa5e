-- Schedules that were read.
use Rattle.std.proofs.Common.{◌≡◌, ◌≤◌, ◌<◌, ◌∙◌, ℕ, true, List, [], ◌∷◌, length, nat_lt, Option, Some, Result, Ok, Err, IfOk, Vec, Global, refl, sym, subst}
use Rattle.std.specs.List.{All}
use Rattle.std.proofs.lemmas.Bool.{and_parts, ltb-true}
use Rattle.std.proofs.lemmas.List.Elements.{All-cons, All-nil}
use Rattle.occ_syntax.specs.occ_base.declared.memory.Memory.{Memory}
use Rattle.occ_syntax.specs.occ_base.declared.names.Name.{Name}
use Rattle.occ_tool_words.specs.occ_parse.Known.{NamesAreKnown, is_below, params_declare}
use Rattle.occ_run_schedule.specs.declared.following.Followed.{Followed}
use Rattle.occ_run_schedule.specs.Following.{IsFollowed, ParametersAreNamed}
use Rattle.occ_run_schedule.specs.declared.schedule.Schedule.{Schedule}
use Rattle.occ_run_schedule.specs.declared.schedule.ScheduleFault.{ScheduleFault}
use Rattle.occ_run_schedule.specs.declared.schedule.ScheduleFault.TheVariants as fault
use Rattle.occ_run_schedule.specs.Schedules.{IsFaultOf, schedule_read}
use Rattle.occ_syntax.specs.declared.scope.Kind.{Kind}
use Rattle.occ_syntax.specs.declared.scope.Program.{Program}
use Rattle.occ_run_schedule.specs.occ_behaviour.declared.behaviour.Side.TheVariants.{First}
use Rattle.occ_tool_run.specs.declared.accept.Refusal.{Refusal}
use Rattle.occ_tool_run.specs.declared.answer.Answer.{Answer}
use Rattle.occ_tool_run.specs.declared.answer.Answer.TheVariants.{Stepped}
use Rattle.occ_call.specs.declared.loading.Loaded.{Loaded}
use Rattle.occ_call.specs.declared.loading.Loaded.TheVariants.{Bytes, TooLong}
use Rattle.occ_tool_run.specs.Answers.{Steps, accepted}
use Rattle.occ_call.specs.Files.{IsLoaded, most_bytes}
use Rattle.occ_tool_run.specs.Judged.{IsAcceptedFrom, IsRefusalAnswer, IsRefusedFrom}
use Rattle.occ_tool_run.specs.Runs.{IsRun, IsScheduleRefusal, faulty_schedule, followed_schedule}
use Rattle.occ_tool_run.specs.Stored.{OfStored, seen}
use Rattle.occ_tool_run.proofs.Judging.{accepted_file, refusal_taken, there}

abbrev StepsAll : Loaded → Loaded → Answer → Type 0
StepsAll first second a = (one two : Option (List ℕ)) → IsLoaded most_bytes one first → IsLoaded most_bytes two second → Steps one two a

pub refuse_running : (r : Result Answer Memory) (first second : Loaded) (new : List (List ℕ)) (f : Refusal) → IfOk r (IsRefusalAnswer new First f) → IsRefusedFrom first [] new f
    → IfOk r (StepsAll first second)
refuse_running (Err m) first second new f is why = tt
refuse_running (Ok a) first second new f is why = λ one two h k.
    let t = there most_bytes second two k in
    record { bytes = t.0; there = t.1; text = refusal_taken First first one [] new (OfStored (IsRun t.0)) f a is why h }

pub take_running : (r : Result Answer Memory) (first second : Loaded) (new : List (List ℕ)) (p : Program) → IsAcceptedFrom first [] new p
    → IfOk r (λ a. (bytes : List ℕ) → IsLoaded most_bytes (Some bytes) second → IsRun bytes new p a) → IfOk r (StepsAll first second)
take_running (Err m) first second new p read h = tt
take_running (Ok a) first second new p read h = λ one two j k.
    let t = there most_bytes second two k in
    let P : Option (List ℕ) → Type 0 = λ file. IsLoaded most_bytes file second in
    record { bytes = t.0; there = t.1; text = accepted new (seen p) (accepted_file first one [] new p read j) (record { stored = p; program_is = refl; answered = h t.0 (subst P t.1 k) }) }

abbrev RunAll : List (List ℕ) → Program → Loaded → Answer → Type 0
RunAll names p l a = (bytes : List ℕ) → IsLoaded most_bytes (Some bytes) l → IsRun bytes names p a

some_is : {X : Type 0} (x y : X) → Some x ≡ Some y → x ≡ y
some_is x y e = cc

pub run_bytes : (r : Result Answer Memory) (names : List (List ℕ)) (p : Program) (l : Loaded) (bytes : Vec ℕ Global) (text : List ℕ) → l ≡ Bytes bytes → text ≡ bytes.items
    → IfOk r (IsRun text names p) → IfOk r (RunAll names p l)
run_bytes (Err m) names p l bytes text e same h = tt
run_bytes (Ok a) names p l bytes text e same h =
    let P : Loaded → Type 0 = λ k. RunAll names p k a in
    let Q : List ℕ → Type 0 = λ b. IsRun b names p a in
    subst P (sym e) (λ b k. subst Q (same ∙ sym (some_is b bytes.items k.0)) h)

pub schedule_run : (bytes : List ℕ) (names : List (List ℕ)) (params : List (Name × Kind)) (p : Program) (s : Schedule) (f : Followed) → params ≡ p.params → length bytes ≤ most_bytes
    → schedule_read params bytes ≡ Ok s → IsFollowed p s f → IsRun bytes names p (Stepped names f)
schedule_run bytes names params p s f e short read h =
    let P : List (Name × Kind) → Type 0 = λ ps. schedule_read ps bytes ≡ Ok s in
    followed_schedule s f short (subst P e read) h refl

pub schedule_refused : (r : Result Answer Memory) (bytes : List ℕ) (names : List (List ℕ)) (params : List (Name × Kind)) (p : Program) (f : ScheduleFault) → params ≡ p.params
    → length bytes ≤ most_bytes → IfOk r (IsScheduleRefusal f) → IsFaultOf (schedule_read params bytes) f → IfOk r (IsRun bytes names p)
schedule_refused (Err m) bytes names params p f e short told read = tt
schedule_refused (Ok a) bytes names params p (fault.Form line) e short told read =
    let P : List (Name × Kind) → Type 0 = λ ps. schedule_read ps bytes ≡ Err line in
    faulty_schedule line short (subst P e read) told
schedule_refused (Ok a) bytes names params p fault.Memory e short told read = absurd told

-- ---- names

all_named : (n : ℕ) (params : List (Name × Kind)) → params_declare (is_below n) params ≡ true → All (λ (entry : Name × Kind). entry.0.0 < n) params
all_named n [] h = All-nil (λ (entry : Name × Kind). entry.0.0 < n)
all_named n (entry ∷ params) h =
    let p = and_parts (nat_lt entry.0.0 n) (params_declare (is_below n) params) h in
    All-cons (λ (e : Name × Kind). e.0.0 < n) entry params (ltb-true entry.0.0 n p.0) (all_named n params p.1)

pub parameters_named : (names : List (List ℕ)) (p : Program) → NamesAreKnown names p → ParametersAreNamed names p
parameters_named names p known = all_named (length names) p.params known.params

pub known_from : (l : Loaded) (old new : List (List ℕ)) (p : Program) → IsAcceptedFrom l old new p → NamesAreKnown new p
known_from (Bytes text) old new p h = h.known
known_from TooLong old new p h = absurd h
