-- What is told of two files.
use Rattle.std.proofs.Common.{◌≡◌, ◌≤◌, ◌∙◌, ℕ, true, false, List, [], length, Option, Some, Result, Ok, Err, IfOk, Vec, Global, refl, sym, ap, subst, arith}
use Rattle.std.specs.Prelude.{◌≢◌}
use Rattle.occ_tool_run.specs.occ_base.Names.{IsDistinct}
use Rattle.occ_tool_run.specs.occ_base.declared.memory.Memory.{Memory}
use Rattle.occ_tool_run.specs.occ_base.declared.names.Name.{Name}
use Rattle.occ_tool_run.specs.occ_behaviour.declared.behaviour.Behaviour.{Behaviour}
use Rattle.occ_tool_run.specs.occ_behaviour.declared.behaviour.Side.{Side}
use Rattle.occ_tool_run.specs.occ_behaviour.declared.behaviour.Side.TheVariants.{First, Second}
use Rattle.occ_tool_run.specs.occ_behaviour_read.Claims.{IsFaultOf, bare_lines, claim_read}
use Rattle.occ_tool_run.specs.occ_behaviour_read.declared.claim.ClaimFault.{ClaimFault}
use Rattle.occ_tool_run.specs.occ_behaviour_read.declared.claim.ClaimFault.TheVariants as claim
use Rattle.occ_tool_run.specs.occ_behaviour_read.Behaviours.{IsBehaviourText}
use Rattle.occ_tool_run.specs.occ_run_schedule.declared.witnessing.Witness.{Witness}
use Rattle.occ_tool_run.specs.occ_run_schedule.declared.witnessing.Witness.TheVariants as witness
use Rattle.occ_tool_run.proofs.from_run_schedule.Inside.{claim_within}
use Rattle.occ_tool_run.specs.occ_run_schedule.Witnesses.{IsWithin, IsWitness}
use Rattle.occ_tool_run.specs.occ_syntax.declared.scope.Kind.{Kind}
use Rattle.occ_tool_run.specs.occ_syntax.declared.scope.Program.{Program}
use Rattle.occ_tool_run.proofs.AsWritten.{BehaviourFaultsLaw, BehavioursLaw}
use Rattle.occ_tool_run.proofs.Judging.{accepted_file, refuse_judging, there}
use Rattle.occ_tool_run.specs.declared.accept.Refusal.{Refusal}
use Rattle.occ_tool_run.specs.declared.accept.Refusal.TheVariants as refusal
use Rattle.occ_tool_run.specs.declared.answer.Answer.{Answer}
use Rattle.occ_tool_run.specs.declared.answer.Answer.TheVariants.{Member, TooLong}
use Rattle.occ_tool_run.specs.occ_call.declared.loading.Loaded.{Loaded}
use Rattle.occ_tool_run.specs.occ_call.declared.loading.Loaded.TheVariants.{Bytes}
use Rattle.occ_tool_run.specs.occ_call.declared.loading.Loaded.TheVariants as loaded
use Rattle.occ_tool_run.specs.Accepts.{IsAccepted}
use Rattle.occ_tool_run.specs.Answers.{accepted, faulty_claim, judged_claim, too_long_claim}
use Rattle.occ_tool_run.specs.occ_call.Files.{IsLoaded, most_bytes}
use Rattle.occ_tool_run.specs.Judged.{HasInterface, IsAcceptedFrom, IsRefusalAnswer, IsRefusedFrom}
use Rattle.occ_tool_run.specs.Stored.{seen}
use Rattle.occ_tool_run.specs.Texts.{IsPrintable, status_of}
use Rattle.occ_witness.specs.declared.finding.Finding.{Finding}
use Rattle.occ_witness.specs.declared.finding.Finding.TheVariants.{Told, Schedule, Long}
use Rattle.occ_witness.specs.Answers.{Answers}
use Rattle.occ_witness.specs.Findings.{Finds, FindsIn, IsClaimRefused, IsRefusedBy, IsSayable, as_belongs, as_judged, finding_of, found, found_in, status_of_finding, text_of_finding}

-- ---- a program that is refused

-- it isn't said that the behaviour is the program's
not_yes : (names : List (List ℕ)) (place : Side) (f : Refusal) (a : Answer) → IsRefusalAnswer names place f a → a ≢ Member true
not_yes names place (refusal.Text fault) a is = λ e. absurd (let no : ⊥ = cc in no)
not_yes names place (refusal.Usage line fault) a is = λ e. absurd (let no : ⊥ = cc in no)
not_yes names place refusal.Memory a is = λ e. absurd is

-- and the status is that of a refusal
refusal_status : (names : List (List ℕ)) (place : Side) (f : Refusal) (a : Answer) → IsRefusalAnswer names place f a → status_of a ≡ 3
refusal_status names place (refusal.Text fault) a is = ap status_of is
refusal_status names place (refusal.Usage line fault) a is = ap status_of is
refusal_status names place refusal.Memory a is = absurd is

-- the refusal can be written
pub refusal_sayable : (names : List (List ℕ)) (place : Side) (f : Refusal) (a : Answer) → IsRefusalAnswer names place f a → IsPrintable a → IsSayable (Told a)
refusal_sayable names place f a is printable =
    let three : status_of a ≡ 3 = refusal_status names place f a is in
    (printable, omega (arith, three), (λ two. absurd (omega (arith, three, two))))

abbrev FindsAll : Loaded → Loaded → Finding → Type 0
FindsAll first second finding = (one two : Option (List ℕ)) → IsLoaded most_bytes one first → IsLoaded most_bytes two second → Finds one two finding

pub refused_finding : (r : Result Finding Memory) (first second : Loaded) (new : List (List ℕ)) (f : Refusal) → IfOk r (IsRefusedBy new f) → IsRefusedFrom first [] new f
    → IfOk r (FindsAll first second)
refused_finding (Err m) first second new f is why = tt
refused_finding (Ok (Told a)) first second new f is why = λ one two h k.
    as_belongs a (refuse_judging (Ok a) first second new f is why one two h k) (not_yes new First f a is) refl
refused_finding (Ok (Schedule text)) first second new f is why = absurd is
refused_finding (Ok Long) first second new f is why = absurd is

-- ---- a program that is accepted

finds_of : (one two : Option (List ℕ)) (bytes : List ℕ) (names : List (List ℕ)) (p : Program) (finding : Finding) → two ≡ Some bytes
    → IsAccepted one [] names (seen p) → FindsIn bytes names p finding → Finds one two finding
finds_of one two bytes names p finding e read (as_judged a judged other is) =
    as_belongs a (record { bytes = bytes; there = e; text = accepted names (seen p) read judged }) other is
finds_of one two bytes names p finding e read (found_in f) = found bytes names p e read f

pub accepted_finding : (r : Result Finding Memory) (first second : Loaded) (new : List (List ℕ)) (p : Program) → IsAcceptedFrom first [] new p
    → IfOk r (λ finding. (bytes : List ℕ) → IsLoaded most_bytes (Some bytes) second → FindsIn bytes new p finding) → IfOk r (FindsAll first second)
accepted_finding (Err m) first second new p read h = tt
accepted_finding (Ok finding) first second new p read h = λ one two j k.
    let t = there most_bytes second two k in
    let P : Option (List ℕ) → Type 0 = λ file. IsLoaded most_bytes file second in
    finds_of one two t.0 new p finding t.1 (accepted_file first one [] new p read j) (h t.0 (subst P t.1 k))

-- ---- the bytes of a behaviour

abbrev FoundAll : List (List ℕ) → Program → Loaded → Finding → Type 0
FoundAll names p l finding = (bytes : List ℕ) → IsLoaded most_bytes (Some bytes) l → FindsIn bytes names p finding

some_is : {X : Type 0} (x y : X) → Some x ≡ Some y → x ≡ y
some_is x y e = cc

pub found_bytes : (r : Result Finding Memory) (names : List (List ℕ)) (p : Program) (l : Loaded) (bytes : Vec ℕ Global) (text : List ℕ) → l ≡ Bytes bytes → text ≡ bytes.items
    → IfOk r (FindsIn text names p) → IfOk r (FoundAll names p l)
found_bytes (Err m) names p l bytes text e same h = tt
found_bytes (Ok a) names p l bytes text e same h =
    let P : Loaded → Type 0 = λ k. FoundAll names p k a in
    let Q : List ℕ → Type 0 = λ b. FindsIn b names p a in
    subst P (sym e) (λ b k. subst Q (same ∙ sym (some_is b bytes.items k.0)) h)

pub found_too_long : (names : List (List ℕ)) (p : Program) (l : Loaded) → l ≡ loaded.TooLong → FoundAll names p l (Told (TooLong Second))
found_too_long names p l e =
    let P : Loaded → Type 0 = λ k. FoundAll names p k (Told (TooLong Second)) in
    subst P (sym e) (λ b k. as_judged (TooLong Second) (too_long_claim k refl) (λ s. absurd (let no : ⊥ = cc in no)) refl)

-- the behaviour is read
found_by : (bytes : List ℕ) (names : List (List ℕ)) (p : Program) (b : Behaviour) (w : Witness) (finding : Finding) → length bytes ≤ most_bytes
    → IsBehaviourText names p.params b (bare_lines bytes) → IsWitness p b w → finding ≡ finding_of w → FindsIn bytes names p finding
found_by bytes names p b (witness.Schedule text) finding short written is e =
    found_in (record { behaviour = b; shown_by = witness.Schedule text; short = short; written = written; has = is.0; is = is; finding_is = e })
found_by bytes names p b witness.Outside finding short written is e =
    as_judged (Member false) (judged_claim b false short written ((λ no. absurd (let x : ⊥ = cc in x)), (λ m. absurd (is m))) refl) (λ s. absurd (let no : ⊥ = cc in no)) e
found_by bytes names p b witness.Long finding short written is e =
    found_in (record { behaviour = b; shown_by = witness.Long; short = short; written = written; has = is.0; is = is; finding_is = e })

pub claim_found : BehavioursLaw → (bytes : List ℕ) (names : List (List ℕ)) (params : List (Name × Kind)) (p : Program) (b : Behaviour) (w : Witness) (finding : Finding) → params ≡ p.params
    → length bytes ≤ most_bytes → IsDistinct names → HasInterface names p → claim_read names params bytes ≡ Ok b → IsWitness p b w → finding ≡ finding_of w → FindsIn bytes names p finding
claim_found law bytes names params p b w finding e short d i read is told =
    let P : List (Name × Kind) → Type 0 = λ ps. claim_read names ps bytes ≡ Ok b in
    found_by bytes names p b w finding short ((law names p.params bytes b d i.interface i.params).0 (subst P e read)) is told

-- its events are of the interface
pub claim_inside : (bytes : List ℕ) (names : List (List ℕ)) (shown params : List (Name × Kind)) (b : Behaviour) → shown ≡ params → claim_read names shown bytes ≡ Ok b
    → IsWithin params b.last
claim_inside bytes names shown params b e read =
    let P : List (Name × Kind) → Type 0 = λ ps. claim_read names ps bytes ≡ Ok b in claim_within names params bytes b (subst P e read)

-- or it is refused
pub claim_refused : BehaviourFaultsLaw → (r : Result Finding Memory) (bytes : List ℕ) (names : List (List ℕ)) (params : List (Name × Kind)) (p : Program) (f : ClaimFault) → params ≡ p.params
    → length bytes ≤ most_bytes → IsDistinct names → HasInterface names p → IfOk r (IsClaimRefused f) → IsFaultOf (claim_read names params bytes) f → IfOk r (FindsIn bytes names p)
claim_refused law (Err m) bytes names params p f e short d i is read = tt
claim_refused law (Ok (Told a)) bytes names params p (claim.Form line) e short d i is read =
    let P : List (Name × Kind) → Type 0 = λ ps. claim_read names ps bytes ≡ Err line in
    as_judged a (faulty_claim line short ((law names p.params bytes line d i.interface i.params).0 (subst P e read)) is) (λ s. absurd (let no : ⊥ = cc in no)) refl
claim_refused law (Ok (Told a)) bytes names params p claim.Memory e short d i is read = absurd is
claim_refused law (Ok (Schedule text)) bytes names params p f e short d i is read = absurd is
claim_refused law (Ok Long) bytes names params p f e short d i is read = absurd is

-- ---- what is told

pub tells_all : (one two : Loaded) (finding : Finding) (status : ℕ) (text : List ℕ) → FindsAll one two finding → status ≡ status_of_finding finding
    → text ≡ text_of_finding finding → (x y : Option (List ℕ)) → IsLoaded most_bytes x one → IsLoaded most_bytes y two → Answers x y status text
tells_all one two finding status text f s t = λ x y j k. record { finding = finding; is = f x y j k; status_is = s; text_is = t }
