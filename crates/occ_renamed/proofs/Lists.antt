-- Names exchanged in the lists that laws speak of, and in what is put in the place of variables.
use Rattle.occ_renamed.proofs.Names.{pushed}
use Rattle.occ_replay_rules.specs.occ_law.Lists.{BranchesReordered, PairsReordered, all_branches, all_cases, assigned_without, assignment, behind_branch, behind_pair, branches_in_steps, conditions, count, names_without, pairs_in_steps, same_branches, same_pairs, size, tally, two_branches, two_pairs, values_without, variables}
use Rattle.occ_replay_rules.proofs.from_meaning.Renaming.{IsExchange, one_for_one}
use Rattle.occ_replay_rules.specs.occ_meaning.Parallel.{Reordered, all_of, as_they_are, behind_first, first_two, in_steps}
use Rattle.occ_replay_rules.specs.occ_meaning.Rename.{all_renamed, branches_renamed, cases_renamed, renamed, renamed_exp, renamed_exps, renamed_names, renamed_waiting}
use Rattle.occ_replay_rules.specs.occ_meaning.Substitution.{substituted, value_for}
use Rattle.occ_replay_rules.specs.occ_syntax.Tree.{Branches, Cases, Exp, Trees, and_branch, and_case, and_tree, complement, negation, no_branch, no_case, no_tree, numeral, operation, truth, variable}
use Rattle.std.proofs.Common.{List, [], ap, if◌then◌else◌, map, refl, sym, ℕ, ◌++◌, ◌+◌, ◌==◌, ◌∙◌, ◌∷◌, ◌≡◌}

-- ---- two lists in one

pub all_of_under : (f : ℕ → ℕ) (ps qs : Trees) → all_renamed (all_of ps qs) f ≡ all_of (all_renamed ps f) (all_renamed qs f)
all_of_under f no_tree qs = refl
all_of_under f (and_tree p ps) qs = ap (and_tree (renamed p f)) (all_of_under f ps qs)

pub all_cases_under : (f : ℕ → ℕ) (cs ds : Cases) → cases_renamed (all_cases cs ds) f ≡ all_cases (cases_renamed cs f) (cases_renamed ds f)
all_cases_under f no_case ds = refl
all_cases_under f (and_case b p cs) ds = ap (and_case (renamed_exp f b) (renamed p f)) (all_cases_under f cs ds)

pub all_branches_under : (f : ℕ → ℕ) (gs hs : Branches)
    → branches_renamed (all_branches gs hs) f ≡ all_branches (branches_renamed gs f) (branches_renamed hs f)
all_branches_under f no_branch hs = refl
all_branches_under f (and_branch b w p gs) hs = ap (and_branch (renamed_exp f b) (renamed_waiting f w) (renamed p f)) (all_branches_under f gs hs)

pub names_both : (f : ℕ → ℕ) (xs ys : List ℕ) → renamed_names f (xs ++ ys) ≡ renamed_names f xs ++ renamed_names f ys
names_both f [] ys = refl
names_both f (x ∷ xs) ys = ap (λ r. f x ∷ r) (names_both f xs ys)

pub exps_both : (f : ℕ → ℕ) (es fs : List Exp) → renamed_exps f (es ++ fs) ≡ renamed_exps f es ++ renamed_exps f fs
exps_both f [] fs = refl
exps_both f (e ∷ es) fs = ap (λ r. renamed_exp f e ∷ r) (exps_both f es fs)

-- ---- how many there are

pub size_under : (f : ℕ → ℕ) (ps : Trees) → size (all_renamed ps f) ≡ size ps
size_under f no_tree = refl
size_under f (and_tree p ps) = ap (λ n. 1 + n) (size_under f ps)

pub count_under : (f : ℕ → ℕ) (cs : Cases) → count (cases_renamed cs f) ≡ count cs
count_under f no_case = refl
count_under f (and_case b p cs) = ap (λ n. 1 + n) (count_under f cs)

pub tally_under : (f : ℕ → ℕ) (gs : Branches) → tally (branches_renamed gs f) ≡ tally gs
tally_under f no_branch = refl
tally_under f (and_branch b w p gs) = ap (λ n. 1 + n) (tally_under f gs)

pub conditions_under : (f : ℕ → ℕ) (cs : Cases) → conditions (cases_renamed cs f) ≡ renamed_exps f (conditions cs)
conditions_under f no_case = refl
conditions_under f (and_case b p cs) = ap (λ r. renamed_exp f b ∷ r) (conditions_under f cs)

-- ---- pairs

pub variables_under : (f : ℕ → ℕ) (xs : List ℕ) → renamed_exps f (variables xs) ≡ variables (renamed_names f xs)
variables_under f [] = refl
variables_under f (x ∷ xs) = ap (λ r. variable (f x) ∷ r) (variables_under f xs)

pub assignment_under : (f : ℕ → ℕ) (xs : List ℕ) (es : List Exp) → renamed (assignment xs es) f ≡ assignment (renamed_names f xs) (renamed_exps f es)
assignment_under f [] es = refl
assignment_under f (x ∷ xs) es = refl

pub names_without_under : (f : ℕ → ℕ) → IsExchange f → (x : ℕ) (xs : List ℕ)
    → renamed_names f (names_without x xs) ≡ names_without (f x) (renamed_names f xs)
names_without_under f inv x [] = refl
names_without_under f inv x (y ∷ ys) =
    let rest = names_without (f x) (renamed_names f ys) in
    pushed (renamed_names f) (x == y) (names_without x ys) (y ∷ names_without x ys) rest (f y ∷ rest)
    (names_without_under f inv x ys) (ap (λ r. f y ∷ r) (names_without_under f inv x ys))
    ∙ ap (λ b. if b then rest else f y ∷ rest) (sym (one_for_one f inv x y))

pub values_without_under : (f : ℕ → ℕ) → IsExchange f → (x : ℕ) (xs : List ℕ) (es : List Exp)
    → renamed_exps f (values_without x xs es) ≡ values_without (f x) (renamed_names f xs) (renamed_exps f es)
values_without_under f inv x [] es = refl
values_without_under f inv x (y ∷ ys) [] = refl
values_without_under f inv x (y ∷ ys) (e ∷ es) =
    let rest = values_without (f x) (renamed_names f ys) (renamed_exps f es) in
    pushed (renamed_exps f) (x == y) (values_without x ys es) (e ∷ values_without x ys es) rest (renamed_exp f e ∷ rest)
    (values_without_under f inv x ys es) (ap (λ r. renamed_exp f e ∷ r) (values_without_under f inv x ys es))
    ∙ ap (λ b. if b then rest else renamed_exp f e ∷ rest) (sym (one_for_one f inv x y))

pub assigned_without_under : (f : ℕ → ℕ) → IsExchange f → (x : ℕ) (xs : List ℕ) (es : List Exp)
    → renamed (assigned_without x xs es) f ≡ assigned_without (f x) (renamed_names f xs) (renamed_exps f es)
assigned_without_under f inv x xs es =
    assignment_under f (names_without x xs) (values_without x xs es)
    ∙ (ap (λ ys. assignment ys (renamed_exps f (values_without x xs es))) (names_without_under f inv x xs)
    ∙ ap (assignment (names_without (f x) (renamed_names f xs))) (values_without_under f inv x xs es))

-- ---- expressions in the place of variables

pub value_for_under : (f : ℕ → ℕ) → IsExchange f → (xs : List ℕ) (es : List Exp) (y : ℕ)
    → renamed_exp f (value_for xs es y) ≡ value_for (renamed_names f xs) (renamed_exps f es) (f y)
value_for_under f inv [] es y = refl
value_for_under f inv (x ∷ xs) [] y = refl
value_for_under f inv (x ∷ xs) (e ∷ es) y =
    let rest = value_for (renamed_names f xs) (renamed_exps f es) (f y) in
    pushed (renamed_exp f) (y == x) e (value_for xs es y) (renamed_exp f e) rest refl (value_for_under f inv xs es y)
    ∙ ap (λ b. if b then renamed_exp f e else rest) (sym (one_for_one f inv y x))

pub substituted_under : (f : ℕ → ℕ) → IsExchange f → (xs : List ℕ) (es : List Exp) (e : Exp)
    → renamed_exp f (substituted xs es e) ≡ substituted (renamed_names f xs) (renamed_exps f es) (renamed_exp f e)
substituted_under f inv xs es (variable y) = value_for_under f inv xs es y
substituted_under f inv xs es (numeral bits value) = refl
substituted_under f inv xs es (truth b) = refl
substituted_under f inv xs es (negation e) = ap negation (substituted_under f inv xs es e)
substituted_under f inv xs es (complement e) = ap complement (substituted_under f inv xs es e)
substituted_under f inv xs es (operation op left right) =
    ap (λ z. operation op z (renamed_exp f (substituted xs es right))) (substituted_under f inv xs es left)
    ∙ ap (operation op (substituted (renamed_names f xs) (renamed_exps f es) (renamed_exp f left))) (substituted_under f inv xs es right)

pub each_substituted_under : (f : ℕ → ℕ) → IsExchange f → (xs : List ℕ) (es fs : List Exp)
    → renamed_exps f (map (substituted xs es) fs) ≡ map (substituted (renamed_names f xs) (renamed_exps f es)) (renamed_exps f fs)
each_substituted_under f inv xs es [] = refl
each_substituted_under f inv xs es (e ∷ fs) =
    ap (λ z. z ∷ renamed_exps f (map (substituted xs es) fs)) (substituted_under f inv xs es e)
    ∙ ap (λ r. substituted (renamed_names f xs) (renamed_exps f es) (renamed_exp f e) ∷ r) (each_substituted_under f inv xs es fs)

-- ---- the same in another order

pub pairs_under : (f : ℕ → ℕ) (xs : List ℕ) (es : List Exp) (ys : List ℕ) (fs : List Exp) → PairsReordered xs es ys fs
    → PairsReordered (renamed_names f xs) (renamed_exps f es) (renamed_names f ys) (renamed_exps f fs)
pairs_under f xs es ys fs same_pairs = same_pairs
pairs_under f xs es ys fs (behind_pair {xs = us} {ys = vs} {es = ds} {fs = gs} h) = behind_pair (pairs_under f us ds vs gs h)
pairs_under f xs es ys fs two_pairs = two_pairs
pairs_under f xs es ys fs (pairs_in_steps {ys = us} {fs = ds} h k) =
    pairs_in_steps (pairs_under f xs es us ds h) (pairs_under f us ds ys fs k)

pub branches_under : (f : ℕ → ℕ) (gs hs : Branches) → BranchesReordered gs hs → BranchesReordered (branches_renamed gs f) (branches_renamed hs f)
branches_under f gs hs same_branches = same_branches
branches_under f gs hs (behind_branch {gs = ks} {hs = ls} h) = behind_branch (branches_under f ks ls h)
branches_under f gs hs two_branches = two_branches
branches_under f gs hs (branches_in_steps {hs = ks} h k) = branches_in_steps (branches_under f gs ks h) (branches_under f ks hs k)

pub parts_under : (f : ℕ → ℕ) (ps qs : Trees) → Reordered ps qs → Reordered (all_renamed ps f) (all_renamed qs f)
parts_under f ps qs as_they_are = as_they_are
parts_under f ps qs (behind_first {ps = rs} {qs = us} h) = behind_first (parts_under f rs us h)
parts_under f ps qs first_two = first_two
parts_under f ps qs (in_steps {qs = rs} h k) = in_steps (parts_under f ps rs h) (parts_under f rs qs k)
