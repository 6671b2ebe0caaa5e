-- What a file is answered with, by what its program is.
use Rattle.std.proofs.Common.{◌≡◌, ◌⊎◌, ℕ, List, [], Option, Result, Ok, Err, IfOk, ap, inl, inr, ⊎_elim}
use Rattle.occ_syntax.specs.occ_base.declared.memory.Memory.{Memory}
use Rattle.occ_syntax.specs.declared.scope.Program.{Program as Stored}
use Rattle.occ_tool_run.specs.occ_behaviour.declared.behaviour.Side.{Side}
use Rattle.occ_tool_run.specs.occ_behaviour.declared.behaviour.Side.TheVariants.{First}
use Rattle.occ_tool_run.specs.occ_call.declared.loading.Loaded.{Loaded}
use Rattle.occ_tool_run.specs.occ_call.declared.replying.Reply.{Reply}
use Rattle.occ_tool_run.specs.occ_call.Files.{IsLoaded, most_bytes}
use Rattle.occ_tool_run.specs.Accepts.{Program}
use Rattle.occ_tool_run.specs.Judged.{IsAcceptedFrom, IsRefusalAnswer, IsRefusedFrom}
use Rattle.occ_tool_run.specs.Stored.{seen}
use Rattle.occ_tool_run.specs.Texts.{status_of}
use Rattle.occ_tool_run.specs.declared.accept.Refusal.{Refusal}
use Rattle.occ_tool_run.specs.declared.accept.Refusal.TheVariants as refusal
use Rattle.occ_tool_run.specs.declared.answer.Answer.{Answer}
use Rattle.occ_tool_run.proofs.Judging.{accepted_file, refusal_taken}
use Rattle.occ_lts.specs.Answers.{AnswersBy, IsRefusal, accepted, refused}

abbrev Rest : Type 1
Rest = List (List ℕ) → Program → ℕ → List ℕ → Type 0

-- the reply to each file that is loaded so
abbrev pub AnswersAll : Rest → Loaded → Reply → Type 0
AnswersAll rest l reply = (file : Option (List ℕ)) → IsLoaded most_bytes file l → AnswersBy rest file reply.status reply.text.items

pub accepted_answer : (rest : Rest) (r : Result Reply Memory) (l : Loaded) (names : List (List ℕ)) (p : Stored) → IsAcceptedFrom l [] names p
    → IfOk r (λ reply. rest names (seen p) reply.status reply.text.items) → IfOk r (AnswersAll rest l)
accepted_answer rest (Err m) l names p read h = tt
accepted_answer rest (Ok reply) l names p read h = λ file k. accepted names (seen p) (accepted_file l file [] names p read k) h

pub refused_answer : (rest : Rest) (r : Result Reply Memory) (l : Loaded) (names : List (List ℕ)) (f : Refusal) → IsRefusedFrom l [] names f
    → IfOk r (λ reply. IsRefusal names f reply.status reply.text.items) → IfOk r (AnswersAll rest l)
refused_answer rest (Err m) l names f why h = tt
refused_answer rest (Ok reply) l names f why h = λ file k.
    refused h.answer (refusal_taken First l file [] names (λ names p a. ⊥) f h.answer h.refuses why k) h.status_is h.text_is

-- the status is that of a refusal
pub refusal_status : (names : List (List ℕ)) (place : Side) (f : Refusal) (a : Answer) → IsRefusalAnswer names place f a → status_of a ≡ 3
refusal_status names place (refusal.Text fault) a is = ap status_of is
refusal_status names place (refusal.Usage line fault) a is = ap status_of is
refusal_status names place refusal.Memory a is = absurd is

-- ---- the status of what may be deterministic
pub told_status : (r : Result Reply Memory) → IfOk r (λ reply. (reply.status ≡ 0) ⊎ (reply.status ≡ 1))
    → IfOk r (λ reply. (reply.status ≡ 0) ⊎ ((reply.status ≡ 1) ⊎ (reply.status ≡ 3)))
told_status (Err m) h = tt
told_status (Ok reply) h = ⊎_elim (λ (k : reply.status ≡ 0). inl k) (λ (k : reply.status ≡ 1). inr (inl k)) h

pub refused_status : (r : Result Reply Memory) → IfOk r (λ reply. reply.status ≡ 3)
    → IfOk r (λ reply. (reply.status ≡ 0) ⊎ ((reply.status ≡ 1) ⊎ (reply.status ≡ 3)))
refused_status (Err m) h = tt
refused_status (Ok reply) h = inr (inr h)
