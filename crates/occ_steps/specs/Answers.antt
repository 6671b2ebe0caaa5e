-- What files are answered with.
use Rattle.std.specs.Prelude.{ℕ, ◌≡◌, List, Option}
use Rattle.occ_steps.specs.declared.finding.Finding.{Finding}
use Rattle.occ_steps.specs.Findings.{Lists, ListsAtStart, status_of_finding, text_of_finding}

-- The files of a program and of a schedule have an answer with this status and this text.
pub record Answers (one two : Option (List ℕ)) (status : ℕ) (text : List ℕ) : Type 0 where
  pub finding : Finding
  pub is : Lists one two finding
  pub status_is : status ≡ status_of_finding finding
  pub text_is : text ≡ text_of_finding finding

-- The file of a program has an answer with this status and this text.
pub record AnswersAtStart (file : Option (List ℕ)) (status : ℕ) (text : List ℕ) : Type 0 where
  pub finding : Finding
  pub is : ListsAtStart file finding
  pub status_is : status ≡ status_of_finding finding
  pub text_is : text ≡ text_of_finding finding
