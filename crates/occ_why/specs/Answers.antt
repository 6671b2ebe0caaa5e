-- What files are answered with by `why`.
use Rattle.std.specs.Prelude.{ℕ, ◌≡◌, ◌⊎◌, List, Option, Some, None, codes}
use Rattle.occ_tool_run.specs.occ_behaviour.declared.behaviour.Behaviour.{Behaviour}
use Rattle.occ_tool_run.specs.occ_behaviour.declared.behaviour.Side.{Side}
use Rattle.occ_tool_run.specs.occ_behaviour.declared.behaviour.Side.TheVariants.{First, Second}
use Rattle.occ_tool_run.specs.occ_behaviour.declared.behaviour.Verdict.{Verdict}
use Rattle.occ_tool_run.specs.occ_behaviour.declared.behaviour.Verdict.TheVariants.{Differ, Same}
use Rattle.occ_tool_run.specs.Answers.{Seeks, Settles}
use Rattle.occ_tool_run.specs.Texts.{status_of}
use Rattle.occ_tool_run.specs.occ_call.declared.loading.Loaded.{Loaded}
use Rattle.occ_tool_run.specs.occ_call.declared.replying.Reply.{Reply}
use Rattle.occ_tool_run.specs.declared.answer.Answer.{Answer}
use Rattle.occ_tool_run.specs.declared.answer.Answer.TheVariants.{Compared, InterfacesDiffer, Sought}
use Rattle.occ_tool_run.specs.declared.judge.Question.TheVariants.{WhetherSame}
use Rattle.occ_why.specs.Told.{AreLinesOf, AreTelling, IsTold, TellApartBy}

-- ---- two programs

-- The lines are a behaviour that the side's program has, and the other hasn't.
abbrev pub TellApart : Side → Option (List ℕ) → Option (List ℕ) → List ℕ → Type 0
TellApart First one two lines = AreTelling one two lines
TellApart Second one two lines = AreTelling two one lines

-- The text begins with DIFFER. The lines at its end are those of the behaviour, or another one that the side's program alone has too.
pub record IsApart (side : Side) (one two : Option (List ℕ)) (known : List (List ℕ)) (b : Behaviour) (status : ℕ) (text : List ℕ) : Type 0 where
  pub own : List ℕ
  pub are : AreLinesOf known b own
  pub lines : List ℕ
  pub chosen : (lines ≡ own) ⊎ TellApart side one two lines
  pub told : IsTold (codes "DIFFER") lines text
  pub status_is : status ≡ 1

-- Two files that `same` accepts have an answer with this status and this text: the text of `same`, or where the programs differ, one that
-- begins with DIFFER. The status is that of `same`.
pub data AnswersApart (one two : Option (List ℕ)) (status : ℕ) (text : List ℕ) : Type 0 where
  alike : (known : List (List ℕ)) → Settles WhetherSame one two (Compared known Same) → status ≡ 0 → text ≡ codes "SAME\n"
      → AnswersApart one two status text
  apart : (known : List (List ℕ)) (b : Behaviour) (side : Side) → Settles WhetherSame one two (Compared known (Differ b side))
      → IsApart side one two known b status text → AnswersApart one two status text
  unlike : Settles WhetherSame one two InterfacesDiffer → status ≡ 7 → text ≡ codes "INTERFACES DIFFER\n" → AnswersApart one two status text

-- the reply tells a difference: its lines are those of the behaviour, or others that the side's program alone has too
pub record TellsDifference (known : List (List ℕ)) (b : Behaviour) (side : Side) (first second : Loaded) (reply : Reply) : Type 0 where
  pub lines : List ℕ
  pub are : AreLinesOf known b lines
  pub told : TellApartBy side first second lines reply.text.items
  pub status_is : reply.status ≡ 1

-- the reply tells a verdict on two files, as they were read
abbrev pub TellsVerdict : List (List ℕ) → Verdict → Loaded → Loaded → Reply → Type 0
TellsVerdict known Same first second reply = (reply.status ≡ 0) × (reply.text.items ≡ codes "SAME\n")
TellsVerdict known (Differ b side) first second reply = TellsDifference known b side first second reply

-- `same` refuses one of two files
pub record AreRefused (one two : Option (List ℕ)) : Type 0 where
  pub answer : Answer
  pub settles : Settles WhetherSame one two answer
  pub refused : status_of answer ≡ 3

-- the reply to two files; there is none where `same` refuses one of them
abbrev pub RepliesApart : Option (List ℕ) → Option (List ℕ) → Option Reply → Type 0
RepliesApart one two None = AreRefused one two
RepliesApart one two (Some reply) = AnswersApart one two reply.status reply.text.items

-- ---- one program

-- the text begins with DEADLOCK, and the lines at its end are the behaviour
pub record IsStuck (known : List (List ℕ)) (b : Behaviour) (status : ℕ) (text : List ℕ) : Type 0 where
  pub lines : List ℕ
  pub are : AreLinesOf known b lines
  pub told : IsTold (codes "DEADLOCK") lines text
  pub status_is : status ≡ 1

-- A file that `deadlock` accepts has an answer with this status and this text: the text of `deadlock`, or where the program gets stuck, one
-- that begins with DEADLOCK. The status is that of `deadlock`.
pub data Answers (file : Option (List ℕ)) (status : ℕ) (text : List ℕ) : Type 0 where
  free : (known : List (List ℕ)) → Seeks file (Sought known None) → status ≡ 0 → text ≡ codes "FREE\n" → Answers file status text
  stuck : (known : List (List ℕ)) (b : Behaviour) → Seeks file (Sought known (Some b)) → IsStuck known b status text → Answers file status text

-- `deadlock` refuses the file
pub record IsRefused (file : Option (List ℕ)) : Type 0 where
  pub answer : Answer
  pub seeks : Seeks file answer
  pub refused : status_of answer ≡ 3

-- the reply to a file; there is none where `deadlock` refuses it
abbrev pub Replies : Option (List ℕ) → Option Reply → Type 0
Replies file None = IsRefused file
Replies file (Some reply) = Answers file reply.status reply.text.items

-- the reply tells where a program gets stuck, if it does
abbrev pub TellsFound : List (List ℕ) → Option Behaviour → Reply → Type 0
TellsFound known None reply = (reply.status ≡ 0) × (reply.text.items ≡ codes "FREE\n")
TellsFound known (Some b) reply = IsStuck known b reply.status reply.text.items
