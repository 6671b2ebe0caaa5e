-- An input into one variable that goes through another one.
use Rattle.std.specs.Prelude.{ℕ, ◌≡◌, ◌==◌, false}
use Rattle.occ_law_scope.specs.Turns.{begun}
use Rattle.occ_syntax.specs.Names.{free_in_branches}
use Rattle.occ_syntax.specs.Tree.{Exp, variable, Waiting, input, Tree, alt, Branches, and_branch}

-- the same input into z, which is then assigned to the variable that differs from it
pub data InputHere (z : ℕ) : Waiting → Tree → Waiting → Tree → Type 0 where
  input_here : (c x : ℕ) (p : Tree) → x == z ≡ false → InputHere z (input c x) p (input c z) (begun x (variable z) p)

-- two lists of branches with such an input in one place, and otherwise the same
pub data OtherInput (z : ℕ) : Branches → Branches → Type 0 where
  other_here : (b : Exp) (v w : Waiting) (p q : Tree) (hs : Branches) → InputHere z v p w q
      → OtherInput z (and_branch b v p hs) (and_branch b w q hs)
  other_behind : (b : Exp) (v : Waiting) (p : Tree) (gs hs : Branches) → OtherInput z gs hs
      → OtherInput z (and_branch b v p gs) (and_branch b v p hs)

-- two ALTs of such branches, where z isn't free in the first one
pub data AltInput (z : ℕ) : Tree → Tree → Type 0 where
  alt_input : (gs hs : Branches) → free_in_branches gs z ≡ false → OtherInput z gs hs → AltInput z (alt gs) (alt hs)
