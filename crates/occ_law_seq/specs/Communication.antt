-- A communication as a guard, and a branch that communicates and then ends.
use Rattle.std.specs.Prelude.{ℕ, ◌≡◌, true}
use Rattle.occ_syntax.specs.Tree.{Exp, truth, Waiting, input, output, Tree, skip, receive, send}

-- the part does what the guard waits for
pub data Communicates : Tree → Waiting → Type 0 where
  receives : (c x : ℕ) → Communicates (receive c x) (input c x)
  sends : (c : ℕ) (e : Exp) → Communicates (send c e) (output c e)

-- the branch has the condition TRUE, waits for what the part does, and then ends
pub record EndsAfter (part : Tree) (b : Exp) (w : Waiting) (p : Tree) : Type 0 where
  pub certain : b ≡ truth true
  pub ends : p ≡ skip
  pub communicates : Communicates part w
