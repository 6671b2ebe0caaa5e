-- What two files are answered with.
use Rattle.std.specs.Prelude.{ℕ, ◌≡◌, ◌≢◌, List, Option}
use Rattle.occ_prove.specs.declared.proof.Proof.{Proof}
use Rattle.occ_prove.specs.declared.proof.Proof.TheVariants.{Told, Long}
use Rattle.occ_prove.specs.Proofs.{Proves, status_of_proof, text_of_proof}
use Rattle.occ_tool_run.specs.declared.answer.Answer.TheVariants as answer
use Rattle.occ_tool_run.specs.Texts.{IsPrintable}

-- Two files have an answer with this status and this text.
pub record Answers (one two : Option (List ℕ)) (status : ℕ) (text : List ℕ) : Type 0 where
  pub proof : Proof
  pub is : Proves one two proof
  pub status_is : status ≡ status_of_proof proof
  pub text_is : text ≡ text_of_proof proof

-- the answer can be written: what the tool says can be, and isn't that its own words don't fit
abbrev pub IsSayable : Proof → Type 0
IsSayable (Told a) = IsPrintable a × (a ≢ answer.Usage)
IsSayable Long = Unit {0}
