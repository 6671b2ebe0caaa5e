-- The answers to commands that say what `check` says of a file that is refused.
use Rattle.std.specs.Prelude.{ℕ, ◌≡◌, List, Option}
use Rattle.occ_check.specs.Answers.{Answers as AnswersCheck}

-- Of a file that is refused the answer is what `check` says of it; else it is the command's own.
pub data OrChecked (refused : Type 0) (own : ℕ → List ℕ → Type 0) (name : List ℕ) (file : Option (List ℕ)) (status : ℕ) (text : List ℕ) : Type 0 where
  told : own status text → OrChecked refused own name file status text
  checked : refused → AnswersCheck name file status text → OrChecked refused own name file status text

-- What `check` says of the first of two files, each with its name, where it refuses that; else of the second.
pub data IsChecked (first second : List ℕ × Option (List ℕ)) (status : ℕ) (text : List ℕ) : Type 0 where
  first_checked : AnswersCheck first.0 first.1 status text → status ≡ 3 → IsChecked first second status text
  second_checked : AnswersCheck second.0 second.1 status text → IsChecked first second status text

-- Of two files of which one is refused the answer is what `check` says of one; else it is the command's own.
pub data OrOneChecked (refused : Type 0) (own : ℕ → List ℕ → Type 0) (first second : List ℕ × Option (List ℕ)) (status : ℕ) (text : List ℕ) : Type 0 where
  told_of_both : own status text → OrOneChecked refused own first second status text
  one_checked : refused → IsChecked first second status text → OrOneChecked refused own first second status text
