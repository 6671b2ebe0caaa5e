-- What `same` and `deadlock` say: they refuse a file, or one of few answers.
use Rattle.std.proofs.Common.{ℕ, List, [], ◌≡◌, Option, ap}
use Rattle.occ_tool_run.specs.occ_behaviour.declared.behaviour.Behaviour.{Behaviour}
use Rattle.occ_tool_run.specs.occ_behaviour.declared.behaviour.Side.{Side}
use Rattle.occ_tool_run.specs.occ_behaviour.declared.behaviour.Side.TheVariants.{First, Second}
use Rattle.occ_tool_run.specs.occ_behaviour.declared.behaviour.Verdict.{Verdict}
use Rattle.std.specs.declared.cmp.Ordering.{Ordering}
use Rattle.std.specs.declared.cmp.Ordering.TheVariants.{Less, Equal, Greater}
use Rattle.occ_tool_run.specs.Accepts.{Program}
use Rattle.occ_tool_run.specs.Answers.{Compares, Seeks, Settles, Takes, TakesBoth, Turned, accepted, accepted_behind, apart, compared, refused, refused_behind, unusable, unusable_behind}
use Rattle.occ_tool_run.specs.Texts.{status_of}
use Rattle.occ_tool_run.specs.occ_call.Files.{order_of}
use Rattle.occ_tool_run.specs.declared.answer.Answer.{Answer}
use Rattle.occ_tool_run.specs.declared.answer.Answer.TheVariants.{Compared, InterfacesDiffer, Sought}
use Rattle.occ_tool_run.specs.declared.judge.Question.TheVariants.{WhetherSame}

-- ---- two files

-- the answers of `same`
pub data OfSame (a : Answer) : Type 0 where
  refusal : status_of a ≡ 3 → OfSame a
  different : a ≡ InterfacesDiffer → OfSame a
  of_verdict : (known : List (List ℕ)) (verdict : Verdict) → a ≡ Compared known verdict → OfSame a

taken : (place : Side) (file : Option (List ℕ)) (old : List (List ℕ)) (rest : List (List ℕ) → Program → Answer → Type 0) (a : Answer)
    → ((new : List (List ℕ)) (p : Program) → rest new p a → OfSame a) → Takes place file old rest a → OfSame a
taken place file old rest a f (refused fault r is) = refusal (ap status_of is)
taken place file old rest a f (unusable new line fault r is) = refusal (ap status_of is)
taken place file old rest a f (accepted new p r is) = f new p is

both : (p : Program) (names : List (List ℕ)) (q : Program) (a : Answer) → Compares p names q a → OfSame a
both p names q a (apart differ is) = different is
both p names q a (compared verdict e v is) = of_verdict names verdict is

turned : (one two : Option (List ℕ)) (a : Answer) → Turned WhetherSame one two a → OfSame a
turned one two a (refused_behind fault r t) = taken First one [] _ a (λ names p is. refusal (ap status_of is)) t
turned one two a (unusable_behind new line fault r t) = taken First one [] _ a (λ names p is. refusal (ap status_of is)) t
turned one two a (accepted_behind new q r t) = taken First one new _ a (λ names p is. both p names q a is) t

in_order : (o : Ordering) (one two : Option (List ℕ)) (a : Answer) → TakesBoth o WhetherSame one two a → OfSame a
in_order Less one two a t = taken First one [] _ a (λ names p s. taken Second two names _ a (λ new q is. both p new q a is) s) t
in_order Equal one two a t = taken First one [] _ a (λ names p is. both p names p a is) t
in_order Greater one two a t = turned one two a t

pub of_same : (one two : Option (List ℕ)) (a : Answer) → Settles WhetherSame one two a → OfSame a
of_same one two a s = in_order (order_of one two) one two a s.text

-- ---- one file

-- the answers of `deadlock`
pub data OfDeadlock (a : Answer) : Type 0 where
  refusal_alone : status_of a ≡ 3 → OfDeadlock a
  of_search : (known : List (List ℕ)) (behaviour : Option Behaviour) → a ≡ Sought known behaviour → OfDeadlock a

pub of_deadlock : (file : Option (List ℕ)) (a : Answer) → Seeks file a → OfDeadlock a
of_deadlock file a (refused fault r is) = refusal_alone (ap status_of is)
of_deadlock file a (unusable new line fault r is) = refusal_alone (ap status_of is)
of_deadlock file a (accepted new p r is) = of_search new is.found is.answer_is
