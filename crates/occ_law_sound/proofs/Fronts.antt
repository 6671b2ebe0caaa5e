-- Two instances of a law with one left side, and lists that are parted at one place.
use Rattle.std.proofs.Common.{◌≡◌, ℕ, List, [], ◌∷◌, length, arith, refl}
use Rattle.occ_law.specs.occ_syntax.Tree.{Tree, seq, par, select, alt, Trees, no_tree, and_tree, Cases, no_case, and_case, Branches, no_branch}
use Rattle.occ_law.specs.occ_syntax.Tree.{and_branch}
use Rattle.occ_law.specs.occ_meaning.Parallel.{all_of}
use Rattle.occ_law.specs.Lists.{all_branches, all_cases, count, size, tally}

-- Two places and two right sides: as many lists stand in front of both places, and at one place there is one right side.
abbrev pub AreOnce : List ℕ → List ℕ → Tree → Tree → Type 0
AreOnce ks js r s = (length ks ≡ length js) × (ks ≡ js → r ≡ s)

-- the two sides of a law, where the lists in front of the changed place have these sizes
abbrev pub Sides : Type 1
Sides = List ℕ → Tree → Tree → Type 0

-- any two instances of these sides with one left side
abbrev pub IsOnce : Sides → Type 0
IsOnce D = (ks js : List ℕ) (l m r s : Tree) → l ≡ m → D ks l r → D js m s → AreOnce ks js r s

pub heads_are : {j k : ℕ} {js ks : List ℕ} → j ∷ js ≡ k ∷ ks → j ≡ k
heads_are e = cc

pub tails_are : {j k : ℕ} {js ks : List ℕ} → j ∷ js ≡ k ∷ ks → js ≡ ks
tails_are e = cc

-- ---- two fronts of one size that stand in one list

pub one_front : (ps rs qs us : Trees) → size ps ≡ size rs → all_of ps qs ≡ all_of rs us → (ps ≡ rs) × (qs ≡ us)
one_front no_tree no_tree qs us n e = (refl, e)
one_front no_tree (and_tree r rs) qs us n e = absurd (omega (arith, n))
one_front (and_tree p ps) no_tree qs us n e = absurd (omega (arith, n))
one_front (and_tree p ps) (and_tree r rs) qs us n e =
    let k = one_front ps rs qs us (omega (arith, n)) (cc) in
    let f : ps ≡ rs = k.0 in ((cc), k.1)

pub one_choice_front : (cs es ds fs : Cases) → count cs ≡ count es → all_cases cs ds ≡ all_cases es fs → (cs ≡ es) × (ds ≡ fs)
one_choice_front no_case no_case ds fs n e = (refl, e)
one_choice_front no_case (and_case b p es) ds fs n e = absurd (omega (arith, n))
one_choice_front (and_case b p cs) no_case ds fs n e = absurd (omega (arith, n))
one_choice_front (and_case b p cs) (and_case c q es) ds fs n e =
    let k = one_choice_front cs es ds fs (omega (arith, n)) (cc) in
    let f : cs ≡ es = k.0 in ((cc), k.1)

pub one_branch_front : (gs is hs js : Branches) → tally gs ≡ tally is → all_branches gs hs ≡ all_branches is js → (gs ≡ is) × (hs ≡ js)
one_branch_front no_branch no_branch hs js n e = (refl, e)
one_branch_front no_branch (and_branch b w p is) hs js n e = absurd (omega (arith, n))
one_branch_front (and_branch b w p gs) no_branch hs js n e = absurd (omega (arith, n))
one_branch_front (and_branch b w p gs) (and_branch c v q is) hs js n e =
    let k = one_branch_front gs is hs js (omega (arith, n)) (cc) in
    let f : gs ≡ is = k.0 in ((cc), k.1)

-- ---- the same of the lists of a process, for what follows from it

pub seq_parts : {P : Type 0} (ps rs qs us : Trees) → size ps ∷ [] ≡ size rs ∷ []
    → seq (all_of ps qs) ≡ seq (all_of rs us) → (ps ≡ rs → qs ≡ us → P) → P
seq_parts ps rs qs us n e f = let k = one_front ps rs qs us (heads_are n) (cc) in f k.0 k.1

pub par_parts : {P : Type 0} (ps rs qs us : Trees) → size ps ∷ [] ≡ size rs ∷ []
    → par (all_of ps qs) ≡ par (all_of rs us) → (ps ≡ rs → qs ≡ us → P) → P
par_parts ps rs qs us n e f = let k = one_front ps rs qs us (heads_are n) (cc) in f k.0 k.1

pub if_parts : {P : Type 0} (cs es ds fs : Cases) → count cs ∷ [] ≡ count es ∷ []
    → select (all_cases cs ds) ≡ select (all_cases es fs) → (cs ≡ es → ds ≡ fs → P) → P
if_parts cs es ds fs n e f = let k = one_choice_front cs es ds fs (heads_are n) (cc) in f k.0 k.1

pub alt_parts : {P : Type 0} (gs is hs js : Branches) {ks ns : List ℕ} → tally gs ∷ ks ≡ tally is ∷ ns
    → alt (all_branches gs hs) ≡ alt (all_branches is js) → (gs ≡ is → hs ≡ js → P) → P
alt_parts gs is hs js n e f = let k = one_branch_front gs is hs js (heads_are n) (cc) in f k.0 k.1
