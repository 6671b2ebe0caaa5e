-- What `same` says with status 0.
use Rattle.std.proofs.Common.{◌≡◌, ℕ, ◌≤◌, List, [], Option, ap, codes, arith}
use Rattle.std.specs.declared.cmp.Ordering.{Ordering}
use Rattle.std.specs.declared.cmp.Ordering.TheVariants.{Less, Equal, Greater}
use Rattle.occ_witness.specs.occ_behaviour.declared.behaviour.Side.{Side}
use Rattle.occ_witness.specs.occ_behaviour.declared.behaviour.Side.TheVariants.{First, Second}
use Rattle.occ_witness.specs.occ_behaviour.declared.behaviour.Verdict.{Verdict}
use Rattle.occ_witness.specs.occ_behaviour.declared.behaviour.Verdict.TheVariants.{Same, Differ}
use Rattle.occ_witness.specs.occ_tool_run.declared.answer.Answer.{Answer}
use Rattle.occ_witness.specs.occ_tool_run.declared.answer.Answer.TheVariants.{Compared, Refused, Unusable}
use Rattle.occ_witness.specs.occ_tool_run.declared.judge.Question.TheVariants.{WhetherSame}
use Rattle.occ_witness.specs.occ_tool_run.Accepts.{Program}
use Rattle.occ_witness.specs.occ_tool_run.Answers.{Compares, Settles, Takes, TakesBoth, Turned, accepted, accepted_behind, apart, compared, refused, refused_behind, unusable, unusable_behind}
use Rattle.occ_witness.specs.occ_call.Files.{order_of}
use Rattle.occ_prove.specs.Proofs.{IsSame}
use Rattle.occ_witness.specs.occ_tool_run.Texts.{status_of, text_of}

-- an answer with a status other than 0
pub refusing : (answer : Answer) (n : ℕ) → status_of answer ≡ 0 → status_of answer ≡ n → 1 ≤ n → ⊥
refusing answer n z e h = absurd (omega (arith, z, e, h))

abbrev Says : Answer → Type 0
Says answer = status_of answer ≡ 0 → IsSame answer

of_verdict : (names : List (List ℕ)) (v : Verdict) (answer : Answer) → answer ≡ Compared names v → Says answer
of_verdict names Same answer e z = (names, e)
of_verdict names (Differ b side) answer e z = absurd (refusing answer 1 z (ap status_of e) (omega arith))

compares : (p : Program) (names : List (List ℕ)) (q : Program) (answer : Answer) → Compares p names q answer → Says answer
compares p names q answer (apart others e) z = absurd (refusing answer 7 z (ap status_of e) (omega arith))
compares p names q answer (compared v same is e) z = of_verdict names v answer e z

takes : (place : Side) (file : Option (List ℕ)) (old : List (List ℕ)) (rest : List (List ℕ) → Program → Answer → Type 0) (answer : Answer)
    → ((names : List (List ℕ)) (p : Program) → rest names p answer → Says answer) → Takes place file old rest answer → Says answer
takes place file old rest answer h (refused fault r e) z = absurd (refusing answer 3 z (ap status_of e) (omega arith))
takes place file old rest answer h (unusable new line fault u e) z = absurd (refusing answer 3 z (ap status_of e) (omega arith))
takes place file old rest answer h (accepted new p a r) z = h new p r z

turned : (one two : Option (List ℕ)) (answer : Answer) → Turned WhetherSame one two answer → Says answer
turned one two answer (refused_behind fault r t) z =
    takes First one [] (λ names p a. a ≡ Refused Second fault) answer (λ names p e y. absurd (refusing answer 3 y (ap status_of e) (omega arith))) t z
turned one two answer (unusable_behind new line fault u t) z =
    takes First one [] (λ names p a. a ≡ Unusable new Second line fault) answer (λ names p e y. absurd (refusing answer 3 y (ap status_of e) (omega arith))) t z
turned one two answer (accepted_behind new q a t) z = takes First one new (λ names p. Compares p names q) answer (λ names p c. compares p names q answer c) t z

both : (o : Ordering) (one two : Option (List ℕ)) (answer : Answer) → TakesBoth o WhetherSame one two answer → Says answer
both Less one two answer t z =
    takes First one [] (λ names p. Takes Second two names (λ new q. Compares p new q)) answer
    (λ names p s. takes Second two names (λ new q. Compares p new q) answer (λ new q c. compares p new q answer c) s) t z
both Equal one two answer t z = takes First one [] (λ names p. Compares p names p) answer (λ names p c. compares p names p answer c) t z
both Greater one two answer t z = turned one two answer t z

-- that both mean the same
pub told_same : (one two : Option (List ℕ)) (answer : Answer) → Settles WhetherSame one two answer → status_of answer ≡ 0 → IsSame answer
told_same one two answer s z = both (order_of one two) one two answer s.text z

-- by its text
pub settled : (one two : Option (List ℕ)) (answer : Answer) → Settles WhetherSame one two answer → status_of answer ≡ 0 → text_of answer ≡ codes "SAME\n"
settled one two answer s z = ap text_of (told_same one two answer s z).1
