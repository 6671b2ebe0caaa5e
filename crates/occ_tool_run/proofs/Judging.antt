-- What files that were read are answered with.
use Rattle.std.proofs.Common.{◌≡◌, ℕ, true, List, [], length, Option, Some, None, Result, Ok, Err, IfOk, IfErr, refl, sym, subst}
use Rattle.std.proofs.lemmas.Bool.{lt-ltb}
use Rattle.occ_syntax.specs.occ_base.Names.{IsDistinct}
use Rattle.occ_syntax.specs.occ_base.declared.memory.Memory.{Memory}
use Rattle.occ_syntax.specs.occ_base.declared.names.Name.{Name}
use Rattle.occ_syntax.specs.declared.scope.Kind.{Kind}
use Rattle.occ_syntax.specs.declared.scope.Program.{Program as Stored}
use Rattle.occ_syntax.specs.Tree.{Tree}
use Rattle.occ_syntax.specs.View.{tree}
use Rattle.occ_run_schedule.specs.occ_nform_table.Tables.{IsInterface, are_params}
use Rattle.occ_tool_words.specs.occ_parse.Reading.{too_long, IsRead}
use Rattle.occ_tool_words.specs.occ_parse.Reading.{IsRefused as IsRefusedText}
use Rattle.occ_tool_words.specs.occ_parse.declared.bound.Bound.TheVariants as bound
use Rattle.occ_tool_words.specs.occ_parse.declared.fault.ParseFault.{ParseFault}
use Rattle.occ_run_schedule.specs.occ_usage.declared.accepted.Accepted.{Accepted}
use Rattle.occ_run_schedule.specs.occ_usage.declared.fault.UsageFault.{UsageFault}
use Rattle.occ_run_schedule.specs.occ_behaviour.declared.behaviour.Side.{Side}
use Rattle.occ_run_schedule.specs.occ_behaviour.declared.behaviour.Side.TheVariants.{First}
use Rattle.occ_tool_run.specs.declared.answer.Answer.{Answer}
use Rattle.occ_tool_run.specs.declared.accept.Refusal.{Refusal}
use Rattle.occ_tool_run.specs.declared.accept.Refusal.TheVariants as refusal
use Rattle.occ_call.specs.declared.loading.Loaded.{Loaded}
use Rattle.occ_call.specs.declared.loading.Loaded.TheVariants.{Bytes, TooLong}
use Rattle.occ_call.specs.Files.{IsLoaded, most_bytes}
use Rattle.occ_tool_run.specs.Accepts.{IsAccepted, IsRefused, IsUnusable, Program}
use Rattle.occ_tool_run.specs.Stored.{OfStored, seen}
use Rattle.occ_tool_run.specs.Answers.{Takes, refused, unusable, accepted, IsJudged, Judges}
use Rattle.occ_tool_run.specs.Judged.{HasInterface, IsAcceptedFrom, IsRefusedFrom, IsRefusedFor, IsRefusalAnswer, IsSayable}

pub there : (most : ℕ) (l : Loaded) (file : Option (List ℕ)) → IsLoaded most file l → (bytes : List ℕ) × (file ≡ Some bytes)
there most (Bytes text) file h = (text.items, h.0)
there most TooLong None h = absurd h
there most TooLong (Some bytes) h = (bytes, refl)

pub accepted_file : (l : Loaded) (file : Option (List ℕ)) (old new : List (List ℕ)) (program : Stored) → IsAcceptedFrom l old new program → IsLoaded most_bytes file l
    → IsAccepted file old new (seen program)
accepted_file (Bytes text) file old new program r h = record { bytes = text.items; there = h.0; text = r.accepted }
accepted_file TooLong file old new program r h = absurd r

pub refused_file : (l : Loaded) (file : Option (List ℕ)) (old new : List (List ℕ)) (fault : ParseFault) → IsRefusedFrom l old new (refusal.Text fault) → IsLoaded most_bytes file l
    → IsRefused file old fault
refused_file (Bytes text) file old new fault r h = record { bytes = text.items; there = h.0; text = r.0 }
refused_file TooLong None old new fault r h = absurd h
refused_file TooLong (Some bytes) old new fault r h = record {
  bytes = bytes;
  there = refl;
  text = subst (IsRefusedText bound.Program bytes old) (sym r) (too_long (lt-ltb 65536 (length bytes) h));
}

pub unusable_file : (l : Loaded) (file : Option (List ℕ)) (old new : List (List ℕ)) (line : ℕ) (fault : UsageFault) → IsRefusedFrom l old new (refusal.Usage line fault)
    → IsLoaded most_bytes file l → IsUnusable file old new line fault
unusable_file (Bytes text) file old new line fault r h = record { bytes = text.items; there = h.0; text = r.0 }
unusable_file TooLong file old new line fault r h = absurd r

-- ---- the answer to one text, whatever decides where it is accepted

pub refusal_taken : (place : Side) (l : Loaded) (file : Option (List ℕ)) (old new : List (List ℕ)) (rest : List (List ℕ) → Program → Answer → Type 0) (f : Refusal) (a : Answer)
    → IsRefusalAnswer new place f a → IsRefusedFrom l old new f → IsLoaded most_bytes file l → Takes place file old rest a
refusal_taken place l file old new rest (refusal.Text fault) a is why h = refused fault (refused_file l file old new fault why h) is
refusal_taken place l file old new rest (refusal.Usage line fault) a is why h = unusable new line fault (unusable_file l file old new line fault why h) is
refusal_taken place l file old new rest refusal.Memory a is why h = absurd is

-- the first text is refused, or accepted
pub refuse : (r : Result Answer Memory) (l : Loaded) (new : List (List ℕ)) (f : Refusal) (rest : List (List ℕ) → Program → Answer → Type 0) → IfOk r (IsRefusalAnswer new First f)
    → IsRefusedFrom l [] new f → IfOk r (λ a. (file : Option (List ℕ)) → IsLoaded most_bytes file l → Takes First file [] rest a)
refuse (Err m) l new f rest is why = tt
refuse (Ok a) l new f rest is why = λ file h. refusal_taken First l file [] new rest f a is why h

pub take : (r : Result Answer Memory) (l : Loaded) (new : List (List ℕ)) (p : Stored) (rest : List (List ℕ) → Program → Answer → Type 0) → IsAcceptedFrom l [] new p
    → IfOk r (rest new (seen p)) → IfOk r (λ a. (file : Option (List ℕ)) → IsLoaded most_bytes file l → Takes First file [] rest a)
take (Err m) l new p rest read h = tt
take (Ok a) l new p rest read h = λ file k. accepted new (seen p) (accepted_file l file [] new p read k) h

pub take_stored : (r : Result Answer Memory) (l : Loaded) (new : List (List ℕ)) (p : Stored) (rest : List (List ℕ) → Stored → Answer → Type 0) → IsAcceptedFrom l [] new p
    → IfOk r (rest new p) → IfOk r (λ a. (file : Option (List ℕ)) → IsLoaded most_bytes file l → Takes First file [] (OfStored rest) a)
take_stored (Err m) l new p rest read h = tt
take_stored (Ok a) l new p rest read h = λ file k. accepted new (seen p) (accepted_file l file [] new p read k) (record { stored = p; program_is = refl; answered = h })

-- ---- a program and a behaviour

abbrev JudgesAll : Loaded → Loaded → Answer → Type 0
JudgesAll first second a = (one two : Option (List ℕ)) → IsLoaded most_bytes one first → IsLoaded most_bytes two second → Judges one two a

pub refuse_judging : (r : Result Answer Memory) (first second : Loaded) (new : List (List ℕ)) (f : Refusal) → IfOk r (IsRefusalAnswer new First f) → IsRefusedFrom first [] new f
    → IfOk r (JudgesAll first second)
refuse_judging (Err m) first second new f is why = tt
refuse_judging (Ok a) first second new f is why = λ one two h k.
    let t = there most_bytes second two k in
    record { bytes = t.0; there = t.1; text = refusal_taken First first one [] new (IsJudged t.0) f a is why h }

pub take_judging : (r : Result Answer Memory) (first second : Loaded) (new : List (List ℕ)) (p : Stored) → IsAcceptedFrom first [] new p
    → IfOk r (λ a. (bytes : List ℕ) → IsLoaded most_bytes (Some bytes) second → IsJudged bytes new (seen p) a) → IfOk r (JudgesAll first second)
take_judging (Err m) first second new p read h = tt
take_judging (Ok a) first second new p read h = λ one two j k.
    let t = there most_bytes second two k in
    let P : Option (List ℕ) → Type 0 = λ file. IsLoaded most_bytes file second in
    record { bytes = t.0; there = t.1; text = accepted new (seen p) (accepted_file first one [] new p read j) (h t.0 (subst P t.1 k)) }

-- ---- what an accepted program and a refusal have

refusal_sayable : (text : List ℕ) (old new : List (List ℕ)) (f : Refusal) → IsRefusedFor text old new f → IsSayable new f
refusal_sayable text old new (refusal.Text fault) why = why.1
refusal_sayable text old new (refusal.Usage line fault) why = why.1
refusal_sayable text old new refusal.Memory why = tt

pub text_sayable : (r : Result Accepted Refusal) (text : List ℕ) (old new : List (List ℕ)) → IfErr r (IsRefusedFor text old new) → IfErr r (IsSayable new)
text_sayable (Ok a) text old new why = tt
text_sayable (Err f) text old new why = refusal_sayable text old new f why

-- the law of the names of parameters
abbrev pub Law : Type 0
Law = (text : List ℕ) (old new : List (List ℕ)) (name : Name) (params : List (Name × Kind)) (body : Tree) (numbers : List ℕ)
    → IsDistinct old → IsRead bound.Program text old new name params body numbers → IsDistinct new × IsInterface new params × (are_params new [] params ≡ true)

pub no_name_twice : IsDistinct []
no_name_twice i j text e f = absurd (let no : ⊥ = cc in no)

-- each text stands once
pub names_once : Law → (l : Loaded) (new : List (List ℕ)) (p : Stored) → IsAcceptedFrom l [] new p → IsDistinct new
names_once law (Bytes text) new p read = (law text.items [] new p.name p.params (tree p.body) read.accepted.numbers no_name_twice read.accepted.read).0
names_once law TooLong new p read = absurd read

pub all_once : Law → (r : Result Accepted Refusal) (l : Loaded) (old new : List (List ℕ)) → old ≡ [] → IfOk r (λ a. IsAcceptedFrom l old new a.program) → IfOk r (λ a. IsDistinct new)
all_once law (Err f) l old new e read = tt
all_once law (Ok a) l old new e read =
    let P : List (List ℕ) → Type 0 = λ o. IsAcceptedFrom l o new a.program in
    names_once law l new a.program (subst P e read)

has_interface : Law → (l : Loaded) (new : List (List ℕ)) (p : Stored) → IsAcceptedFrom l [] new p → HasInterface new p
has_interface law (Bytes text) new p read =
    let h = law text.items [] new p.name p.params (tree p.body) read.accepted.numbers no_name_twice read.accepted.read in
    record { interface = h.1; params = h.2 }
has_interface law TooLong new p read = absurd read

pub all_have_interface : Law → (r : Result Accepted Refusal) (l : Loaded) (old new : List (List ℕ)) → old ≡ [] → IfOk r (λ a. IsAcceptedFrom l old new a.program)
    → IfOk r (λ a. HasInterface new a.program)
all_have_interface law (Err f) l old new e read = tt
all_have_interface law (Ok a) l old new e read =
    let P : List (List ℕ) → Type 0 = λ o. IsAcceptedFrom l o new a.program in
    has_interface law l new a.program (subst P e read)
