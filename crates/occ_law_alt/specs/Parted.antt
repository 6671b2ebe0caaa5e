-- Lists of branches parted at a place, as code parts them.
use Rattle.std.specs.Prelude.{ℕ, ◌≡◌, List, [], ◌∷◌, Option, None, Some}
use Rattle.std.specs.Borrow.{Bor}
use Rattle.occ_syntax.specs.declared.expr.Guard.{Guard}
use Rattle.occ_syntax.specs.declared.proc.Proc.{Proc}
use Rattle.occ_syntax.specs.Tree.{Exp, Waiting, Tree, alt, Branches, and_branch}
use Rattle.occ_syntax.specs.View.{branches}
use Rattle.occ_law_shape.specs.occ_law.Lists.{all_branches, tally}
use Rattle.occ_law_alt.specs.Fronts.{in_front}
use Rattle.occ_law_alt.specs.declared.parted.Around.{Around}
use Rattle.occ_law_alt.specs.declared.parted.Chosen.{Chosen}
use Rattle.occ_law_alt.specs.declared.parted.Parted.{Parted}

-- the two sizes; or there aren't two
abbrev pub AreSizes : List ℕ → Option (ℕ × ℕ) → Type 0
AreSizes ks None = (j k : ℕ) → ks ≡ j ∷ k ∷ [] → ⊥
AreSizes ks (Some found) = ks ≡ found.0 ∷ found.1 ∷ []

-- the first branch, and the others; or there is none
abbrev pub IsDivided : Branches → Option (Bor (Guard × Proc) × Bor (List (Guard × Proc))) → Type 0
IsDivided gs None = (b : Exp) (w : Waiting) (p : Tree) (hs : Branches) → gs ≡ and_branch b w p hs → ⊥
IsDivided gs (Some found) = gs ≡ in_front found.0.now (branches found.1.now)

-- ---- the list that such parts make

abbrev pub parted_list : Parted → Branches
parted_list found = all_branches (branches found.front.now) (branches found.rest.now)

abbrev pub chosen_list : Chosen → Branches
chosen_list found = all_branches (branches found.front.now) (in_front found.branch.now (branches found.rest.now))

abbrev pub around_list : Around → Branches
around_list found = all_branches (branches found.front.now)
    (in_front found.first.now (all_branches (branches found.middle.now) (in_front found.second.now (branches found.rest.now))))

-- ---- the parts of a list, where so many branches stand in front; or there are no such parts

abbrev pub IsParted : Branches → ℕ → Option Parted → Type 0
IsParted gs k None = (fs hs : Branches) → gs ≡ all_branches fs hs → k ≡ tally fs → ⊥
IsParted gs k (Some found) = (gs ≡ parted_list found) × (k ≡ tally (branches found.front.now))

abbrev pub IsChosen : Branches → ℕ → Option Chosen → Type 0
IsChosen gs k None = (fs hs : Branches) (b : Exp) (w : Waiting) (p : Tree) → gs ≡ all_branches fs (and_branch b w p hs) → k ≡ tally fs → ⊥
IsChosen gs k (Some found) = (gs ≡ chosen_list found) × (k ≡ tally (branches found.front.now))

-- ---- the same of an ALT

abbrev pub IsPartedAt : List ℕ → Tree → Option Parted → Type 0
IsPartedAt ks l None = (fs hs : Branches) → l ≡ alt (all_branches fs hs) → ks ≡ tally fs ∷ [] → ⊥
IsPartedAt ks l (Some found) = (l ≡ alt (parted_list found)) × (ks ≡ tally (branches found.front.now) ∷ [])

abbrev pub IsChosenAt : List ℕ → Tree → Option Chosen → Type 0
IsChosenAt ks l None =
    (fs hs : Branches) (b : Exp) (w : Waiting) (p : Tree) → l ≡ alt (all_branches fs (and_branch b w p hs)) → ks ≡ tally fs ∷ [] → ⊥
IsChosenAt ks l (Some found) = (l ≡ alt (chosen_list found)) × (ks ≡ tally (branches found.front.now) ∷ [])

abbrev pub IsAround : List ℕ → Tree → Option Around → Type 0
IsAround ks l None = (fs gs hs : Branches) (b c : Exp) (v w : Waiting) (p q : Tree)
    → l ≡ alt (all_branches fs (and_branch b v p (all_branches gs (and_branch c w q hs)))) → ks ≡ tally fs ∷ tally gs ∷ [] → ⊥
IsAround ks l (Some found) =
    (l ≡ alt (around_list found)) × (ks ≡ tally (branches found.front.now) ∷ tally (branches found.middle.now) ∷ [])
