-- What two files are answered with.
use Rattle.std.specs.Prelude.{ℕ, ◌≡◌, List, Option}
use Rattle.occ_witness.specs.declared.finding.Finding.{Finding}
use Rattle.occ_witness.specs.Findings.{Finds, status_of_finding, text_of_finding}

-- The files of a program and of a behaviour have an answer with this status and this text.
pub record Answers (one two : Option (List ℕ)) (status : ℕ) (text : List ℕ) : Type 0 where
  pub finding : Finding
  pub is : Finds one two finding
  pub status_is : status ≡ status_of_finding finding
  pub text_is : text ≡ text_of_finding finding
