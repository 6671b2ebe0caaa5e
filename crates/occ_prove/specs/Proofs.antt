-- What two files are answered with: a script from the one program to the other, or what `same` says of them.
use Rattle.std.specs.Prelude.{ℕ, ◌≡◌, List, [], Option, codes}
use Rattle.occ_tool_run.specs.occ_behaviour.declared.behaviour.Side.TheVariants.{First, Second}
use Rattle.occ_tool_run.specs.occ_behaviour.declared.behaviour.Verdict.TheVariants.{Same}
use Rattle.occ_tool_run.specs.occ_derive_moves.Steps.{Steps}
use Rattle.occ_tool_run.specs.occ_engine.Moved.{moves_of}
use Rattle.occ_prove.specs.declared.proof.Proof.{Proof}
use Rattle.occ_prove.specs.declared.proof.Proof.TheVariants.{Told, Long}
use Rattle.occ_prove.specs.Normal.{IsLong, IsShort}
use Rattle.occ_prove.specs.Joined.{HaveOneHeader}
use Rattle.occ_tool_run.specs.occ_script_write.declared.writing.Done.{Done}
use Rattle.occ_syntax.specs.declared.scope.Program.{Program as Stored}
use Rattle.occ_syntax.specs.View.{tree}
use Rattle.occ_tool_run.specs.declared.answer.Answer.{Answer}
use Rattle.occ_tool_run.specs.declared.answer.Answer.TheVariants.{Compared}
use Rattle.occ_tool_run.specs.declared.judge.Question.TheVariants.{WhetherSame}
use Rattle.occ_tool_run.specs.Accepts.{IsAccepted, Program}
use Rattle.occ_tool_run.specs.Answers.{Settles, Takes}
use Rattle.occ_tool_run.specs.Derived.{AreSteps}
use Rattle.occ_tool_run.specs.Stored.{seen}
use Rattle.occ_tool_run.specs.Texts.{refusal_text, status_of, text_of}
use Rattle.occ_tool_run.specs.Transforms.{IsScriptOf}

-- What two accepted programs of one header are answered with, which mean the same. Their normal program, which both have, has more than
-- 4,096 controls; or steps lead from the one program to the other, each by a law of the table, and the answer is the script that says so.
-- The names of its steps are those of a table that has grown.
pub data IsProved (names : List (List ℕ)) (p q : Stored) (proof : Proof) : Type 0 where
  long : IsLong names p → proof ≡ Long → IsProved names p q proof
  proved : (new : List (List ℕ)) (steps : List Done) (answer : Answer) → IsShort names p
      → Steps p.params (tree p.body) (moves_of steps) (tree q.body) → AreSteps names new steps → IsScriptOf new p steps q answer
      → proof ≡ Told answer → IsProved names p q proof

-- both mean the same
abbrev pub IsSame : Answer → Type 0
IsSame answer = (names : List (List ℕ)) × (answer ≡ Compared names Same)

-- the two have one header
abbrev pub AreHeadedAlike : Program → Program → Type 0
AreHeadedAlike p q = (p.name ≡ q.name) × (p.params ≡ q.params)

-- Of two files, of which the first is read first, one is refused, or the headers of their programs differ.
abbrev pub AreApart : Option (List ℕ) → Option (List ℕ) → Type 0
AreApart one two =
    (answer : Answer) × Takes First one [] (λ between p. Takes Second two between (λ names q a. AreHeadedAlike p q → ⊥)) answer

-- What two files are answered with: where their programs have one header and mean the same, whether steps lead from the one to the
-- other; else what `same` says of them.
pub data Proves (one two : Option (List ℕ)) (proof : Proof) : Type 0 where
  as_same : (answer : Answer) → Settles WhetherSame one two answer → (IsSame answer → AreApart one two) → proof ≡ Told answer
      → Proves one two proof
  by_laws : (answer : Answer) (between names : List (List ℕ)) (p q : Stored) → Settles WhetherSame one two answer → IsSame answer
      → IsAccepted one [] between (seen p) → IsAccepted two between names (seen q) → HaveOneHeader p q → IsProved names p q proof → Proves one two proof

-- ---- the text of an answer

abbrev pub status_of_proof : Proof → ℕ
status_of_proof (Told answer) = status_of answer
status_of_proof Long = 3

abbrev pub text_of_proof : Proof → List ℕ
text_of_proof (Told answer) = text_of answer
text_of_proof Long = refusal_text First 1 (codes "Long")
