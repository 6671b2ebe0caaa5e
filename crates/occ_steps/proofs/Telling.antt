-- What is answered to a program and a schedule.
use Rattle.std.proofs.Common.{◌≡◌, ◌≤◌, ◌∙◌, ℕ, List, [], length, Option, Some, Result, Ok, Err, IfOk, Vec, Global, ◌⊎◌, inl, inr, refl, sym, ap, subst}
use Rattle.occ_stepped.specs.Shown.{IsStart}
use Rattle.occ_stepped.specs.occ_run.Configurations.{followed, started}
use Rattle.occ_stepped.specs.occ_run_schedule.declared.following.Followed.TheVariants.{NoStep}
use Rattle.occ_stepped.specs.occ_run_schedule.declared.schedule.Schedule.{Schedule}
use Rattle.occ_stepped.specs.occ_run_schedule.declared.schedule.ScheduleFault.{ScheduleFault}
use Rattle.occ_stepped.specs.occ_run_schedule.declared.schedule.ScheduleFault.TheVariants as fault
use Rattle.occ_stepped.specs.occ_run_schedule.Schedules.{IsFaultOf, schedule_read}
use Rattle.occ_tool_run.proofs.Judging.{accepted_file, refusal_taken, there}
use Rattle.occ_tool_run.proofs.Scheduled.{refuse_running}
use Rattle.occ_stepped.specs.occ_behaviour.declared.behaviour.Side.{Side}
use Rattle.occ_stepped.specs.occ_behaviour.declared.behaviour.Side.TheVariants.{First, Second}
use Rattle.occ_tool_run.specs.occ_base.declared.memory.Memory.{Memory}
use Rattle.occ_tool_run.specs.occ_base.declared.names.Name.{Name}
use Rattle.occ_tool_run.specs.occ_call.Files.{IsLoaded, most_bytes}
use Rattle.occ_tool_run.specs.occ_call.declared.replying.Reply.{Reply}
use Rattle.occ_tool_run.specs.occ_call.declared.loading.Loaded.{Loaded}
use Rattle.occ_tool_run.specs.occ_call.declared.loading.Loaded.TheVariants.{Bytes}
use Rattle.occ_tool_run.specs.occ_call.declared.loading.Loaded.TheVariants as loaded
use Rattle.occ_stepped.specs.occ_syntax.declared.scope.Kind.{Kind}
use Rattle.occ_stepped.specs.occ_syntax.declared.scope.Program.{Program}
use Rattle.occ_tool_run.specs.Accepts.{IsAccepted}
use Rattle.occ_tool_run.specs.Answers.{accepted}
use Rattle.occ_tool_run.specs.Judged.{IsAcceptedFrom, IsRefusalAnswer, IsRefusedFrom}
use Rattle.occ_tool_run.specs.Runs.{faulty_schedule, followed_schedule, too_long_schedule}
use Rattle.occ_tool_run.specs.Stored.{seen}
use Rattle.occ_tool_run.specs.Texts.{IsPrintable, status_of}
use Rattle.occ_tool_run.specs.declared.accept.Refusal.{Refusal}
use Rattle.occ_tool_run.specs.declared.accept.Refusal.TheVariants as refusal
use Rattle.occ_tool_run.specs.declared.answer.Answer.{Answer}
use Rattle.occ_tool_run.specs.declared.answer.Answer.TheVariants.{TooLong}
use Rattle.occ_steps.specs.Answers.{Answers, AnswersAtStart}
use Rattle.occ_steps.specs.Findings.{IsBehind, IsRefusedBy, IsSayable, IsScheduleRefused, Lists, ListsAtStart, ListsIn, as_run, as_run_in, shown, shown_at_start, shown_in, status_of_finding, text_of_finding}
use Rattle.occ_steps.specs.Findings.{refused as refused_at_start}
use Rattle.occ_steps.specs.declared.finding.Finding.{Finding}
use Rattle.occ_steps.specs.declared.finding.Finding.TheVariants.{Refused, Shown}

-- ---- a program that is refused

refusal_status : (names : List (List ℕ)) (place : Side) (f : Refusal) (a : Answer) → IsRefusalAnswer names place f a → status_of a ≡ 3
refusal_status names place (refusal.Text fault) a is = ap status_of is
refusal_status names place (refusal.Usage line fault) a is = ap status_of is
refusal_status names place refusal.Memory a is = absurd is

-- the refusal can be written
pub refusal_sayable : (names : List (List ℕ)) (f : Refusal) (a : Answer) → IsRefusalAnswer names First f a → IsPrintable a → IsSayable (Refused a)
refusal_sayable names f a is printable = (printable, refusal_status names First f a is)

abbrev ListsAll : Loaded → Loaded → Finding → Type 0
ListsAll first second finding = (one two : Option (List ℕ)) → IsLoaded most_bytes one first → IsLoaded most_bytes two second → Lists one two finding

abbrev ListsFirst : Loaded → Finding → Type 0
ListsFirst first finding = (file : Option (List ℕ)) → IsLoaded most_bytes file first → ListsAtStart file finding

pub refused_finding : (r : Result Finding Memory) (first second : Loaded) (new : List (List ℕ)) (f : Refusal) → IfOk r (IsRefusedBy new f) → IsRefusedFrom first [] new f
    → IfOk r (ListsAll first second)
refused_finding (Err m) first second new f is why = tt
refused_finding (Ok (Refused a)) first second new f is why = λ one two h k.
    as_run a (refuse_running (Ok a) first second new f is why one two h k) (refusal_status new First f a is) refl
refused_finding (Ok (Shown text)) first second new f is why = absurd is

pub refused_first : (r : Result Finding Memory) (first : Loaded) (new : List (List ℕ)) (f : Refusal) → IfOk r (IsRefusedBy new f) → IsRefusedFrom first [] new f
    → IfOk r (ListsFirst first)
refused_first (Err m) first new f is why = tt
refused_first (Ok (Refused a)) first new f is why = λ file h.
    refused_at_start a (refusal_taken First first file [] new (λ names p answer. ⊥) f a is why h) refl
refused_first (Ok (Shown text)) first new f is why = absurd is

-- ---- a program that is accepted

lists_of : (one two : Option (List ℕ)) (bytes : List ℕ) (names : List (List ℕ)) (p : Program) (finding : Finding) → two ≡ Some bytes
    → IsAccepted one [] names (seen p) → ListsIn bytes names p finding → Lists one two finding
lists_of one two bytes names p finding e read (as_run_in a run three is) =
    as_run a (record { bytes = bytes; there = e; text = accepted names (seen p) read (record { stored = p; program_is = refl; answered = run }) }) three is
lists_of one two bytes names p finding e read (shown_in s text short r shows is) = shown bytes names p s text e read short r shows is

pub accepted_finding : (r : Result Finding Memory) (first second : Loaded) (new : List (List ℕ)) (p : Program) → IsAcceptedFrom first [] new p
    → IfOk r (λ finding. (bytes : List ℕ) → IsLoaded most_bytes (Some bytes) second → ListsIn bytes new p finding) → IfOk r (ListsAll first second)
accepted_finding (Err m) first second new p read h = tt
accepted_finding (Ok finding) first second new p read h = λ one two j k.
    let t = there most_bytes second two k in
    let P : Option (List ℕ) → Type 0 = λ file. IsLoaded most_bytes file second in
    lists_of one two t.0 new p finding t.1 (accepted_file first one [] new p read j) (h t.0 (subst P t.1 k))

-- no step is missing at the start
pub accepted_first : (r : Result Finding Memory) (first : Loaded) (new : List (List ℕ)) (p : Program) (s : Schedule) → IsAcceptedFrom first [] new p → IsStart s
    → IfOk r (IsBehind new p s) → IfOk r (ListsFirst first)
accepted_first (Err m) first new p s read start h = tt
accepted_first (Ok (Refused a)) first new p s read start h =
    let none : Ok (started p s.state) ≡ Err h.0 = sym (ap (followed 1 (started p s.state)) start.none) ∙ h.1 in
    absurd (let no : ⊥ = cc in no)
accepted_first (Ok (Shown text)) first new p s read start h = λ file k.
    shown_at_start new p s text (accepted_file first file [] new p read k) start h refl

-- ---- the bytes of a schedule

abbrev ListedAll : List (List ℕ) → Program → Loaded → Finding → Type 0
ListedAll names p l finding = (bytes : List ℕ) → IsLoaded most_bytes (Some bytes) l → ListsIn bytes names p finding

some_is : {X : Type 0} (x y : X) → Some x ≡ Some y → x ≡ y
some_is x y e = cc

pub listed_bytes : (r : Result Finding Memory) (names : List (List ℕ)) (p : Program) (l : Loaded) (bytes : Vec ℕ Global) (text : List ℕ) → l ≡ Bytes bytes → text ≡ bytes.items
    → IfOk r (ListsIn text names p) → IfOk r (ListedAll names p l)
listed_bytes (Err m) names p l bytes text e same h = tt
listed_bytes (Ok finding) names p l bytes text e same h =
    let P : Loaded → Type 0 = λ k. ListedAll names p k finding in
    let Q : List ℕ → Type 0 = λ b. ListsIn b names p finding in
    subst P (sym e) (λ b k. subst Q (same ∙ sym (some_is b bytes.items k.0)) h)

pub listed_too_long : (names : List (List ℕ)) (p : Program) (l : Loaded) → l ≡ loaded.TooLong → ListedAll names p l (Refused (TooLong Second))
listed_too_long names p l e =
    let P : Loaded → Type 0 = λ k. ListedAll names p k (Refused (TooLong Second)) in
    subst P (sym e) (λ bytes k. as_run_in (TooLong Second) (too_long_schedule k refl) refl refl)

-- the schedule is read, and followed
pub listed_behind : (r : Result Finding Memory) (bytes : List ℕ) (names : List (List ℕ)) (params : List (Name × Kind)) (p : Program) (s : Schedule) → params ≡ p.params
    → length bytes ≤ most_bytes → schedule_read params bytes ≡ Ok s → IfOk r (IsBehind names p s) → IfOk r (ListsIn bytes names p)
listed_behind (Err m) bytes names params p s e short read h = tt
listed_behind (Ok (Refused a)) bytes names params p s e short read h =
    let P : List (Name × Kind) → Type 0 = λ ps. schedule_read ps bytes ≡ Ok s in
    as_run_in a (followed_schedule s (NoStep h.0) short (subst P e read) h.1 h.2) (ap status_of h.2) refl
listed_behind (Ok (Shown text)) bytes names params p s e short read h =
    let P : List (Name × Kind) → Type 0 = λ ps. schedule_read ps bytes ≡ Ok s in
    shown_in s text short (subst P e read) h refl

-- or it is refused
pub listed_refused : (r : Result Finding Memory) (bytes : List ℕ) (names : List (List ℕ)) (params : List (Name × Kind)) (p : Program) (f : ScheduleFault) → params ≡ p.params
    → length bytes ≤ most_bytes → IfOk r (IsScheduleRefused f) → IsFaultOf (schedule_read params bytes) f → IfOk r (ListsIn bytes names p)
listed_refused (Err m) bytes names params p f e short told read = tt
listed_refused (Ok (Refused a)) bytes names params p (fault.Form line) e short told read =
    let P : List (Name × Kind) → Type 0 = λ ps. schedule_read ps bytes ≡ Err line in
    as_run_in a (faulty_schedule line short (subst P e read) told) (ap status_of told) refl
listed_refused (Ok (Refused a)) bytes names params p fault.Memory e short told read = absurd told
listed_refused (Ok (Shown text)) bytes names params p f e short told read = absurd told

-- ---- what is told

pub tells_all : (r : Result Reply Memory) (one two : Loaded) (finding : Finding) → ListsAll one two finding → IfOk r (λ reply. reply.status ≡ status_of_finding finding)
    → IfOk r (λ reply. reply.text.items ≡ text_of_finding finding)
    → IfOk r (λ reply. (x y : Option (List ℕ)) → IsLoaded most_bytes x one → IsLoaded most_bytes y two → Answers x y reply.status reply.text.items)
tells_all (Err m) one two finding f s t = tt
tells_all (Ok reply) one two finding f s t = λ x y j k. record { finding = finding; is = f x y j k; status_is = s; text_is = t }

pub tells_first : (r : Result Reply Memory) (one : Loaded) (finding : Finding) → ListsFirst one finding → IfOk r (λ reply. reply.status ≡ status_of_finding finding)
    → IfOk r (λ reply. reply.text.items ≡ text_of_finding finding)
    → IfOk r (λ reply. (x : Option (List ℕ)) → IsLoaded most_bytes x one → AnswersAtStart x reply.status reply.text.items)
tells_first (Err m) one finding f s t = tt
tells_first (Ok reply) one finding f s t = λ x j. record { finding = finding; is = f x j; status_is = s; text_is = t }

-- the status is 0, or that of a refusal
pub status_told : (r : Result Reply Memory) (finding : Finding) → IsSayable finding → IfOk r (λ reply. reply.status ≡ status_of_finding finding)
    → IfOk r (λ reply. (reply.status ≡ 0) ⊎ (reply.status ≡ 3))
status_told (Err m) finding h s = tt
status_told (Ok reply) (Refused answer) h s = inr (s ∙ h.1)
status_told (Ok reply) (Shown text) h s = inl s
