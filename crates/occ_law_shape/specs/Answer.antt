-- What a function that decides a law answers.
use Rattle.std.specs.Prelude.{ℕ, ◌↔◌, Bool, IsTrue, List}
use Rattle.occ_syntax.specs.Tree.{Tree}

-- TRUE exactly where the two parts are the two sides of the law, at some place
abbrev pub IsAnswer : (List ℕ → Tree → Tree → Type 0) → Tree → Tree → Bool → Type 0
IsAnswer D l r answer = IsTrue answer ↔ ((place : List ℕ) × D place l r)
