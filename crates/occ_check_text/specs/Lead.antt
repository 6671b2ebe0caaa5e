-- How an answer begins that tells why a text is refused.
use Rattle.std.specs.Prelude.{ℕ, ◌≡◌, List, ◌++◌, ◌⊎◌, codes, decimal, replicate}

-- the first row that a text shows is that line
pub record ShowsLine (line : ℕ) (text : List ℕ) : Type 0 where
  pub spaces : ℕ
  pub more : List ℕ
  pub is : text ≡ replicate spaces 32 ++ decimal line ++ codes " |" ++ more

-- The text begins with a line that names the file, a place in it, and the fault, behind which a sentence stands. The place is on that
-- line, or that line is the first that is shown.
pub record Tells (file : List ℕ) (line : ℕ) (words : List ℕ) (text : List ℕ) : Type 0 where
  pub row : ℕ
  pub column : ℕ
  pub sentence : List ℕ
  pub first : List ℕ
  pub rest : List ℕ
  pub first_is : first ≡ file ++ codes ":" ++ decimal row ++ codes ":" ++ decimal column ++ codes ": error[" ++ words ++ codes "]: "
      ++ sentence ++ codes "\n"
  pub is : text ≡ first ++ rest
  pub placed : (row ≡ line) ⊎ ShowsLine line rest
