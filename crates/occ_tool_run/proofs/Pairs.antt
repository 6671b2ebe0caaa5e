-- What two files that were read are answered with.
use Rattle.std.proofs.Common.{◌≡◌, ◌≢◌, ◌∙◌, inl, inr, ℕ, Bool, true, false, List, [], length, cond, Option, Some, None, Result, Ok, Err, IfOk, refl, sym, ap, ap₂, subst}
use Rattle.std.proofs.lemmas.Bool.{false≢true, le-ltb, lt-ltb}
use Rattle.std.specs.declared.cmp.Ordering.{Ordering}
use Rattle.std.specs.declared.cmp.Ordering.TheVariants.{Less, Equal, Greater}
use Rattle.occ_syntax.specs.occ_base.declared.memory.Memory.{Memory}
use Rattle.occ_syntax.specs.occ_base.declared.names.Name.{Name}
use Rattle.occ_syntax.specs.declared.scope.Kind.{Kind}
use Rattle.occ_syntax.specs.declared.scope.Program.{Program as Stored}
use Rattle.occ_tool_words.specs.occ_parse.Known.{is_below, params_declare}
use Rattle.occ_run_schedule.specs.occ_behaviour.declared.behaviour.Side.TheVariants.{First, Second}
use Rattle.occ_tool_run.specs.declared.answer.Answer.{Answer}
use Rattle.occ_tool_run.specs.declared.accept.Refusal.{Refusal}
use Rattle.occ_tool_run.specs.declared.accept.Refusal.TheVariants as refusal
use Rattle.occ_tool_run.specs.declared.judge.Question.{Question}
use Rattle.occ_call.specs.declared.loading.Loaded.{Loaded}
use Rattle.occ_call.specs.declared.loading.Loaded.TheVariants.{Bytes, TooLong}
use Rattle.occ_call.specs.Files.{IsLoaded, loaded_bytes, most_bytes, order_of, short_bytes, text_order}
use Rattle.occ_tool_run.specs.Answers.{Replies, Settles, Takes, TakesBoth, accepted, accepted_behind, refused_behind, unusable_behind}
use Rattle.occ_tool_run.specs.Judged.{IsAcceptedFrom, IsRefusalAnswer, IsRefusedFrom}
use Rattle.occ_tool_run.specs.Pairs.{IsOneKnown, SettlesAll}
use Rattle.occ_tool_run.specs.Accepts.{Program}
use Rattle.occ_tool_run.specs.Stored.{seen}
use Rattle.occ_tool_run.proofs.Judging.{accepted_file, refusal_taken, refused_file, there, unusable_file}

-- ---- in which order

short : (l : Loaded) (file : Option (List ℕ)) → IsLoaded most_bytes file l → short_bytes file ≡ loaded_bytes l
short (Bytes text) file h = ap short_bytes h.0 ∙ ap (λ b. cond b None (Some text.items)) (le-ltb most_bytes (length text.items) h.1)
short TooLong None h = absurd h
short TooLong (Some bytes) h = ap (λ b. cond b None (Some bytes)) (lt-ltb most_bytes (length bytes) h)

-- files that were taken in their order are settled
pub ordered : (order : Ordering) (question : Question) (r : Result Answer Memory) (first second : Loaded) → text_order (loaded_bytes first) (loaded_bytes second) ≡ order
    → IfOk r (SettlesAll order question first second)
    → IfOk r (λ a. (one two : Option (List ℕ)) → IsLoaded most_bytes one first → IsLoaded most_bytes two second → Settles question one two a)
ordered order question (Err m) first second is h = tt
ordered order question (Ok a) first second is h = λ one two j k.
    let same : order_of one two ≡ order = ap₂ text_order (short first one j) (short second two k) ∙ is in
    let P : Ordering → Type 0 = λ o. TakesBoth o question one two a in
    let file = there most_bytes second two k in
    record { bytes = file.0; there = file.1; text = subst P (sym same) (h one two j k) }

-- ---- the first file is read first

abbrev Behind : Question → Option (List ℕ) → List (List ℕ) → Program → Answer → Type 0
Behind question two names p = Takes Second two names (Replies question p)

pub refuse_first : (question : Question) (r : Result Answer Memory) (first second : Loaded) (new : List (List ℕ)) (f : Refusal) → IfOk r (IsRefusalAnswer new First f) → IsRefusedFrom first [] new f
    → IfOk r (SettlesAll Less question first second)
refuse_first question (Err m) first second new f is why = tt
refuse_first question (Ok a) first second new f is why = λ one two h k. refusal_taken First first one [] new (Behind question two) f a is why h

pub refuse_second : (question : Question) (r : Result Answer Memory) (first second : Loaded) (between new : List (List ℕ)) (p : Stored) (f : Refusal) → IsAcceptedFrom first [] between p
    → IfOk r (IsRefusalAnswer new Second f) → IsRefusedFrom second between new f → IfOk r (SettlesAll Less question first second)
refuse_second question (Err m) first second between new p f read is why = tt
refuse_second question (Ok a) first second between new p f read is why = λ one two h k.
    accepted between (seen p) (accepted_file first one [] between p read h) (refusal_taken Second second two between new (Replies question (seen p)) f a is why k)

pub settle : (question : Question) (r : Result Answer Memory) (first second : Loaded) (between new : List (List ℕ)) (p q : Stored) → IsAcceptedFrom first [] between p → IsAcceptedFrom second between new q
    → IfOk r (Replies question (seen p) new (seen q)) → IfOk r (SettlesAll Less question first second)
settle question (Err m) first second between new p q read also h = tt
settle question (Ok a) first second between new p q read also h = λ one two j k.
    accepted between (seen p) (accepted_file first one [] between p read j) (accepted new (seen q) (accepted_file second two between new q also k) h)

-- ---- both files have one text

abbrev AlikeAll : Question → Loaded → Answer → Type 0
AlikeAll question text a = (second : Loaded) → SettlesAll Equal question text second a

pub refuse_alike : (question : Question) (r : Result Answer Memory) (text : Loaded) (new : List (List ℕ)) (f : Refusal) → IfOk r (IsRefusalAnswer new First f) → IsRefusedFrom text [] new f
    → IfOk r (AlikeAll question text)
refuse_alike question (Err m) text new f is why = tt
refuse_alike question (Ok a) text new f is why = λ second one two h k. refusal_taken First text one [] new (λ names p. Replies question p names p) f a is why h

pub settle_alike : (question : Question) (r : Result Answer Memory) (text : Loaded) (new : List (List ℕ)) (p : Stored) → IsAcceptedFrom text [] new p → IfOk r (Replies question (seen p) new (seen p))
    → IfOk r (AlikeAll question text)
settle_alike question (Err m) text new p read h = tt
settle_alike question (Ok a) text new p read h = λ second one two j k. accepted new (seen p) (accepted_file text one [] new p read j) h

pub of_alike : (question : Question) (r : Result Answer Memory) (text second : Loaded) → IfOk r (AlikeAll question text) → IfOk r (SettlesAll Equal question text second)
of_alike question (Err m) text second h = tt
of_alike question (Ok a) text second h = h second

-- ---- the second file is read first

behind : (question : Question) (first second : Loaded) (names : List (List ℕ)) (f : Refusal) (a : Answer) (one two : Option (List ℕ)) → IsRefusedFrom second [] names f → f ≢ refusal.Memory
    → Takes First one [] (λ new p. IsRefusalAnswer names Second f) a → IsLoaded most_bytes two second → TakesBoth Greater question one two a
behind question first second names (refusal.Text fault) a one two why kept told k = refused_behind fault (refused_file second two [] names fault why k) told
behind question first second names (refusal.Usage line fault) a one two why kept told k = unusable_behind names line fault (unusable_file second two [] names line fault why k) told
behind question first second names refusal.Memory a one two why kept told k = absurd (kept refl)

pub refuse_behind : (question : Question) (r : Result Answer Memory) (first second : Loaded) (names : List (List ℕ)) (f : Refusal) → IsRefusedFrom second [] names f → IfOk r (λ a. f ≢ refusal.Memory)
    → IfOk r (λ a. (file : Option (List ℕ)) → IsLoaded most_bytes file first → Takes First file [] (λ new p. IsRefusalAnswer names Second f) a) → IfOk r (SettlesAll Greater question first second)
refuse_behind question (Err m) first second names f why kept told = tt
refuse_behind question (Ok a) first second names f why kept told = λ one two h k. behind question first second names f a one two why kept (told one h) k

pub refuse_turned : (question : Question) (r : Result Answer Memory) (first second : Loaded) (between new : List (List ℕ)) (q : Stored) (f : Refusal) → IsAcceptedFrom second [] between q
    → IfOk r (IsRefusalAnswer new First f) → IsRefusedFrom first between new f → IfOk r (SettlesAll Greater question first second)
refuse_turned question (Err m) first second between new q f read is why = tt
refuse_turned question (Ok a) first second between new q f read is why = λ one two h k.
    accepted_behind between (seen q) (accepted_file second two [] between q read k) (refusal_taken First first one between new (λ names p. Replies question p names (seen q)) f a is why h)

pub settle_turned : (question : Question) (r : Result Answer Memory) (first second : Loaded) (between new : List (List ℕ)) (p q : Stored) → IsAcceptedFrom second [] between q → IsAcceptedFrom first between new p
    → IfOk r (Replies question (seen p) new (seen q)) → IfOk r (SettlesAll Greater question first second)
settle_turned question (Err m) first second between new p q read also h = tt
settle_turned question (Ok a) first second between new p q read also h = λ one two j k.
    accepted_behind between (seen q) (accepted_file second two [] between q read k) (accepted new (seen p) (accepted_file first one between new p also j) h)

pub not_memory : (r : Result Answer Memory) (f : Refusal) (b : Bool) → b ≡ false → (f ≡ refusal.Memory → b ≡ true) → IfOk r (λ a. f ≢ refusal.Memory)
not_memory (Err m) f b other is = tt
not_memory (Ok a) f b other is = λ e. false≢true (sym other ∙ is e)

-- ---- names that have texts

-- the names of the parameters of two programs of one interface have texts, where those of one of them have
pub parameters_known : (names : List (List ℕ)) (p q : Stored) → p.params ≡ q.params → IsOneKnown names p q → params_declare (is_below (length names)) p.params ≡ true
parameters_known names p q same (inl h) = h.params
parameters_known names p q same (inr h) = subst (λ (ps : List (Name × Kind)). params_declare (is_below (length names)) ps ≡ true) (sym same) h.params
