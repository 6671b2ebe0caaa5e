-- Two lists of branches that are equal up to a place, and what the laws of ALT change there.
use Rattle.std.specs.Prelude.{◌≡◌, true, Option, None, Some}
use Rattle.std.specs.Borrow.{Bor}
use Rattle.occ_syntax.specs.declared.expr.Guard.{Guard}
use Rattle.occ_syntax.specs.declared.proc.Proc.{Proc}
use Rattle.occ_syntax.specs.Tree.{Exp, truth, Waiting, Tree, alt, Branches, no_branch, and_branch}
use Rattle.occ_syntax.specs.View.{exp, waiting, tree}
use Rattle.occ_law_shape.specs.occ_law.Choice.{and_skip, has_skip, is_event}
use Rattle.occ_law_shape.specs.occ_law.Lists.{all_branches}
use Rattle.occ_law_alt.specs.Fronts.{in_front}
use Rattle.occ_law_alt.specs.Lacking.{Lacks}

pub data Somewhere (J : Branches → Branches → Type 0) : Branches → Branches → Type 0 where
  here : {gs us : Branches} → J gs us → Somewhere J gs us
  behind : {b : Exp} {w : Waiting} {p : Tree} {gs us : Branches} → Somewhere J gs us → Somewhere J (and_branch b w p gs) (and_branch b w p us)

-- an ALT in an ALT, whose branches take its place
pub record FlatHere (gs us : Branches) : Type 0 where
  pub inner : Branches
  pub rest : Branches
  pub first : gs ≡ and_skip (alt inner) rest
  pub skip : has_skip inner ≡ true
  pub second : us ≡ all_branches inner rest

-- a branch that moves into the ALT behind it, whose first branch has the same guard
pub record SplitHere (gs us : Branches) : Type 0 where
  pub guard : Waiting
  pub process : Tree
  pub other : Tree
  pub inner : Branches
  pub rest : Branches
  pub event : is_event guard ≡ true
  pub first : gs ≡ and_branch (truth true) guard process (and_skip (alt (and_branch (truth true) guard other inner)) rest)
  pub second : us ≡ and_skip (alt (and_branch (truth true) guard process (and_branch (truth true) guard other inner))) rest

-- a branch that stays, while an equal one behind it leaves
pub record TwiceHere (gs us : Branches) : Type 0 where
  pub condition : Exp
  pub guard : Waiting
  pub process : Tree
  pub more : Branches
  pub less : Branches
  pub first : gs ≡ and_branch condition guard process more
  pub second : us ≡ and_branch condition guard process less
  pub lacks : Lacks condition guard process more less

-- a branch that chooses between its own process and the process of one with the same guard behind it, which leaves
pub record SameHere (gs us : Branches) : Type 0 where
  pub condition : Exp
  pub guard : Waiting
  pub process : Tree
  pub other : Tree
  pub more : Branches
  pub less : Branches
  pub event : is_event guard ≡ true
  pub first : gs ≡ and_branch condition guard process more
  pub second : us ≡ and_branch condition guard (alt (and_skip process (and_skip other no_branch))) less
  pub lacks : Lacks condition guard other more less

-- a branch waits for an event with the condition TRUE, the first of the inner branches has the same guard, and the whole
-- list is these with the branch in front
pub record IsSplit (branch : Guard × Proc) (inner whole : Branches) : Type 0 where
  pub plain : exp branch.0.condition ≡ truth true
  pub event : is_event (waiting branch.0.wait) ≡ true
  pub other : Tree
  pub rest : Branches
  pub next : inner ≡ and_branch (exp branch.0.condition) (waiting branch.0.wait) other rest
  pub joined : whole ≡ in_front branch inner

-- the second branch has the guard of the first one, which waits for an event, and chooses between its process and another
pub record Chooses (branch chooser : Guard × Proc) (other : Tree) : Type 0 where
  pub event : is_event (waiting branch.0.wait) ≡ true
  pub condition : exp chooser.0.condition ≡ exp branch.0.condition
  pub guard : waiting chooser.0.wait ≡ waiting branch.0.wait
  pub process : tree chooser.1 ≡ alt (and_skip (tree branch.1) (and_skip other no_branch))

-- that other process; or there is none
abbrev pub IsChosen : Guard × Proc → Guard × Proc → Option (Bor Proc) → Type 0
IsChosen branch chooser None = (other : Tree) → Chooses branch chooser other → ⊥
IsChosen branch chooser (Some found) = Chooses branch chooser (tree found.now)

-- the first branch of the first list has that condition, the second list has it with the condition TRUE, and the third one
-- has what stands behind it
pub record CaseHere (b : Exp) (gs hs ks : Branches) : Type 0 where
  pub guard : Waiting
  pub process : Tree
  pub first : gs ≡ and_branch b guard process ks
  pub second : hs ≡ and_branch (truth true) guard process ks

-- the three lists are equal up to such a place
pub data CaseAt (b : Exp) : Branches → Branches → Branches → Type 0 where
  case_here : {gs hs ks : Branches} → CaseHere b gs hs ks → CaseAt b gs hs ks
  case_behind : {c : Exp} {v : Waiting} {q : Tree} {gs hs ks : Branches} → CaseAt b gs hs ks
      → CaseAt b (and_branch c v q gs) (and_branch c v q hs) (and_branch c v q ks)
