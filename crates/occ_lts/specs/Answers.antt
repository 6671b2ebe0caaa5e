-- What the file of a program is answered with.
use Rattle.std.specs.Prelude.{ℕ, ◌≡◌, List, [], Option}
use Rattle.occ_tool_run.specs.occ_behaviour.declared.behaviour.Side.TheVariants.{First}
use Rattle.occ_tool_run.specs.occ_nform.Tabled.{IsTableOf}
use Rattle.occ_tool_run.specs.occ_nform_table.declared.table.Table.{Table}
use Rattle.occ_tool_run.specs.Accepts.{IsAccepted, Program}
use Rattle.occ_tool_run.specs.Answers.{Takes}
use Rattle.occ_tool_run.specs.Judged.{IsRefusalAnswer}
use Rattle.occ_tool_run.specs.Texts.{status_of, text_of}
use Rattle.occ_tool_run.specs.declared.accept.Refusal.{Refusal}
use Rattle.occ_tool_run.specs.declared.answer.Answer.{Answer}
use Rattle.occ_lts.specs.Moves.{graph_moves, graph_places}
use Rattle.occ_lts.specs.Texts.{graph_text}

-- The text is that of the transition system of the program's normal table.
pub record IsGraphOf (names : List (List ℕ)) (p : Program) (status : ℕ) (text : List ℕ) : Type 0 where
  pub table : Table
  pub is : IsTableOf names p.params p.body table
  pub status_is : status ≡ 0
  pub text_is : text ≡ graph_text names (graph_moves p.params table.rows table.states) (graph_places table.rows)

-- the reply that refuses a program
pub record IsRefusal (names : List (List ℕ)) (refusal : Refusal) (status : ℕ) (text : List ℕ) : Type 0 where
  pub answer : Answer
  pub refuses : IsRefusalAnswer names First refusal answer
  pub status_is : status ≡ status_of answer
  pub text_is : text ≡ text_of answer

-- The file has an answer with this status and this text: its program is refused, as by `normalise`, or it is accepted and the rest decides.
pub data AnswersBy (rest : List (List ℕ) → Program → ℕ → List ℕ → Type 0) (file : Option (List ℕ)) (status : ℕ) (text : List ℕ) : Type 0 where
  refused : (answer : Answer) → Takes First file [] (λ names p a. ⊥) answer → status ≡ status_of answer → text ≡ text_of answer
      → AnswersBy rest file status text
  accepted : (names : List (List ℕ)) (p : Program) → IsAccepted file [] names p → rest names p status text → AnswersBy rest file status text

abbrev pub AnswersAut : Option (List ℕ) → ℕ → List ℕ → Type 0
AnswersAut = AnswersBy IsGraphOf

-- Nothing is said of the model of an accepted program.
abbrev pub AnswersPromela : Option (List ℕ) → ℕ → List ℕ → Type 0
AnswersPromela = AnswersBy (λ names p status text. status ≡ 0)
