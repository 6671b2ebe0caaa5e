-- Parts put in the place of others.
use Rattle.std.proofs.Common.{◌≡◌, ℕ, zero, suc, ◌+◌, ◌<◌, List, [], ◌∷◌, ◌++◌, length, get_or, set, Option, Some, None, refl, sym, ap, subst, ◌∙◌, arith, is_some}
use Rattle.std.specs.Prelude.{IsSome}
use Rattle.std.specs.List.{AllByRecursion}
use Rattle.std.specs.Option.{option_map, option_and_then, unwrap_or}
use Rattle.occ_usage.proofs.from_meaning.Places.{put_there}
use Rattle.occ_usage.specs.occ_meaning.Context.{branch_at, case_at, child, part_at, put, tree_at, with_branch, with_case, with_child, with_only, with_tree}
use Rattle.occ_script_lines.specs.declared.putting.Round.{Round}
use Rattle.occ_script_lines.specs.Putting.{HasPart, within}
use Rattle.occ_syntax.specs.declared.expr.Expr.{Expr}
use Rattle.occ_syntax.specs.declared.expr.Guard.{Guard}
use Rattle.occ_syntax.specs.declared.proc.Alternatives.{Alternatives}
use Rattle.occ_syntax.specs.declared.proc.Choices.{Choices}
use Rattle.occ_syntax.specs.declared.proc.Proc.{Alt, If, Par, Proc, Seq}
use Rattle.occ_syntax.specs.declared.proc.Procs.{Procs}
use Rattle.occ_syntax.proofs.Views.{tree-Alt, tree-If, tree-Par, tree-Seq}
use Rattle.occ_syntax.specs.Tree.{Branches, Cases, Tree, Trees, skip, stop, assign, receive, send, seq, par, select, alt, declare, connect, and_branch, and_case, and_tree, no_branch, no_case, no_tree}
use Rattle.occ_syntax.specs.View.{branches, cases, exp, in_alternatives, in_choices, in_procs, tree, trees, waiting}

-- ---- rows with one of them exchanged

pub set_long : {A : Type 0} (xs : List A) (i : ℕ) (x : A) → length (set xs i x) ≡ length xs
set_long [] i x = refl
set_long (y ∷ xs) zero x = refl
set_long (y ∷ xs) (suc i) x = ap suc (set_long xs i x)

pub part_set : (parts : List Proc) (i : ℕ) (p : Proc) → trees (set parts i p) ≡ with_tree (trees parts) i (tree p)
part_set [] i p = refl
part_set (q ∷ parts) zero p = refl
part_set (q ∷ parts) (suc i) p = ap (and_tree (tree q)) (part_set parts i p)

-- another choice, and then one with the condition of the first
choice_set : (choices : List (Expr × Proc)) (i : ℕ) (x hole : Expr × Proc) (p : Proc) → i < length choices → x ≡ get_or choices i x
    → cases (set (set choices i hole) i (x.0, p)) ≡ with_case (cases choices) i (tree p)
choice_set [] i x hole p h e = absurd (omega (arith, h))
choice_set (c ∷ choices) zero x hole p h e = ap (λ (y : Expr × Proc). and_case (exp y.0) (tree p) (cases choices)) e
choice_set (c ∷ choices) (suc i) x hole p h e = ap (and_case (exp c.0) (tree c.1)) (choice_set choices i x hole p (omega (arith, h)) e)

pub choice_put : (old middle new : List (Expr × Proc)) (i : ℕ) (x hole : Expr × Proc) (p : Proc) → i < length old → x ≡ get_or old i x → middle ≡ set old i hole
    → new ≡ set middle i (x.0, p) → cases new ≡ with_case (cases old) i (tree p)
choice_put old middle new i x hole p within e f g = ap cases (g ∙ ap (λ cs. set cs i (x.0, p)) f) ∙ choice_set old i x hole p within e

alternative_set : (alternatives : List (Guard × Proc)) (i : ℕ) (x hole : Guard × Proc) (p : Proc) → i < length alternatives → x ≡ get_or alternatives i x
    → branches (set (set alternatives i hole) i (x.0, p)) ≡ with_branch (branches alternatives) i (tree p)
alternative_set [] i x hole p h e = absurd (omega (arith, h))
alternative_set (b ∷ alternatives) zero x hole p h e = ap (λ (y : Guard × Proc). and_branch (exp y.0.condition) (waiting y.0.wait) (tree p) (branches alternatives)) e
alternative_set (b ∷ alternatives) (suc i) x hole p h e = ap (and_branch (exp b.0.condition) (waiting b.0.wait) (tree b.1)) (alternative_set alternatives i x hole p (omega (arith, h)) e)

pub alternative_put : (old middle new : List (Guard × Proc)) (i : ℕ) (x hole : Guard × Proc) (p : Proc) → i < length old → x ≡ get_or old i x → middle ≡ set old i hole
    → new ≡ set middle i (x.0, p) → branches new ≡ with_branch (branches old) i (tree p)
alternative_put old middle new i x hole p within e f g = ap branches (g ∙ ap (λ bs. set bs i (x.0, p)) f) ∙ alternative_set old i x hole p within e

-- ---- a place at which there is a part

pub part_within : (parts : List Proc) (i : ℕ) → IsSome (tree_at (trees parts) i) → i < length parts
part_within [] i h = absurd cc
part_within (p ∷ parts) zero h = omega arith
part_within (p ∷ parts) (suc i) h = omega (arith, part_within parts i h)

pub choice_within : (choices : List (Expr × Proc)) (i : ℕ) → IsSome (case_at (cases choices) i) → i < length choices
choice_within [] i h = absurd cc
choice_within (p ∷ choices) zero h = omega arith
choice_within (p ∷ choices) (suc i) h = omega (arith, choice_within choices i h)

pub alternative_within : (alternatives : List (Guard × Proc)) (i : ℕ) → IsSome (branch_at (branches alternatives) i) → i < length alternatives
alternative_within [] i h = absurd cc
alternative_within (p ∷ alternatives) zero h = omega arith
alternative_within (p ∷ alternatives) (suc i) h = omega (arith, alternative_within alternatives i h)

-- ---- a part exchanged twice

trees_twice : (ps : Trees) (i : ℕ) (h r : Tree) → with_tree (with_tree ps i h) i r ≡ with_tree ps i r
trees_twice no_tree i h r = refl
trees_twice (and_tree p ps) zero h r = refl
trees_twice (and_tree p ps) (suc i) h r = ap (and_tree p) (trees_twice ps i h r)

cases_twice : (cs : Cases) (i : ℕ) (h r : Tree) → with_case (with_case cs i h) i r ≡ with_case cs i r
cases_twice no_case i h r = refl
cases_twice (and_case e p cs) zero h r = refl
cases_twice (and_case e p cs) (suc i) h r = ap (and_case e p) (cases_twice cs i h r)

branches_twice : (bs : Branches) (i : ℕ) (h r : Tree) → with_branch (with_branch bs i h) i r ≡ with_branch bs i r
branches_twice no_branch i h r = refl
branches_twice (and_branch e w p bs) zero h r = refl
branches_twice (and_branch e w p bs) (suc i) h r = ap (and_branch e w p) (branches_twice bs i h r)

only_twice : (p : Tree) (i : ℕ) (h r : Tree) → with_only (with_only p i h) i r ≡ with_only p i r
only_twice p zero h r = refl
only_twice p (suc i) h r = refl

child_twice : (p : Tree) (i : ℕ) (h r : Tree) → with_child (with_child p i h) i r ≡ with_child p i r
child_twice skip i h r = refl
child_twice stop i h r = refl
child_twice (assign xs es) i h r = refl
child_twice (receive c x) i h r = refl
child_twice (send c e) i h r = refl
child_twice (seq ps) i h r = ap seq (trees_twice ps i h r)
child_twice (par ps) i h r = ap par (trees_twice ps i h r)
child_twice (select cs) i h r = ap select (cases_twice cs i h r)
child_twice (alt bs) i h r = ap alt (branches_twice bs i h r)
child_twice (declare x w p) i h r = ap (declare x w) (only_twice p i h r)
child_twice (connect c w p) i h r = ap (connect c w) (only_twice p i h r)

-- ---- the processes round a part

pub within_more : (round : List Round) (r : Round) (p : Tree) → within (round ++ r ∷ []) p ≡ within round (with_child (tree r.whole) r.place p)
within_more [] r p = refl
within_more (s ∷ round) r p = ap (with_child (tree s.whole) s.place) (within_more round r p)

pub have_more : (round : List Round) (r : Round) → AllByRecursion HasPart round → HasPart r → AllByRecursion HasPart (round ++ r ∷ [])
have_more [] r h k = (k, tt)
have_more (s ∷ round) r h k = (h.0, have_more round r h.1 k)

pub have_last : (round : List Round) (r : Round) → AllByRecursion HasPart (round ++ r ∷ []) → AllByRecursion HasPart round × HasPart r
have_last [] r h = (tt, h.0)
have_last (s ∷ round) r h = let later = have_last round r h.1 in ((h.0, later.0), later.1)

-- ---- one step further down

put_down : (i : ℕ) (path : List ℕ) (p q r : Tree) → child p i ≡ Some q → with_child p i (put path q r) ≡ put (i ∷ path) p r
put_down i path p q r e = sym (ap (λ o. unwrap_or (option_map (λ c. with_child p i (put path c r)) o) p) e)

some_below : (o : Option Tree) (path : List ℕ) → IsSome (option_and_then (part_at path) o) → IsSome o
some_below None path h = h
some_below (Some q) path h = refl

-- a path leads to a part, so there is one at its first number
pub child_there : (i : ℕ) (path : List ℕ) (p : Tree) → IsSome (part_at (i ∷ path) p) → IsSome (child p i)
child_there i path p h = some_below (child p i) path h

-- there is still one after it is exchanged
pub has_part : (i : ℕ) (p q h whole : Tree) → child p i ≡ Some q → whole ≡ with_child p i h → IsSome (child whole i)
has_part i p q h whole e f =
    subst (λ w. IsSome (child w i)) (sym (f ∙ put_down i [] p q h e))
    (child_there i [] (put (i ∷ []) p h) (ap is_some (put_there (i ∷ []) p q h (ap (option_and_then (part_at [])) e))))

-- what comes into the place that was left comes where the path leads
pub comes_in : (i : ℕ) (path : List ℕ) (p q h whole r : Tree) → child p i ≡ Some q → whole ≡ with_child p i h → with_child whole i (put path q r) ≡ put (i ∷ path) p r
comes_in i path p q h whole r e f = ap (λ w. with_child w i (put path q r)) f ∙ child_twice p i h (put path q r) ∙ put_down i path p q r e

-- the part at the path is further down
pub part_down : (i : ℕ) (path : List ℕ) (p q : Tree) → child p i ≡ Some q → part_at path q ≡ part_at (i ∷ path) p
part_down i path p q e = sym (ap (option_and_then (part_at path)) e)

-- ---- a process by the row of its parts

pub seq_view : (whole : Proc) (parts row : Procs) → whole ≡ Seq parts → row ≡ parts → tree whole ≡ seq (trees (in_procs row))
seq_view whole parts row e f = ap tree e ∙ tree-Seq parts ∙ ap (λ ps. seq (trees (in_procs ps))) (sym f)

pub par_view : (whole : Proc) (parts row : Procs) → whole ≡ Par parts → row ≡ parts → tree whole ≡ par (trees (in_procs row))
par_view whole parts row e f = ap tree e ∙ tree-Par parts ∙ ap (λ ps. par (trees (in_procs ps))) (sym f)

pub if_view : (whole : Proc) (choices row : Choices) → whole ≡ If choices → row ≡ choices → tree whole ≡ select (cases (in_choices row))
if_view whole choices row e f = ap tree e ∙ tree-If choices ∙ ap (λ cs. select (cases (in_choices cs))) (sym f)

pub alt_view : (whole : Proc) (alternatives row : Alternatives) → whole ≡ Alt alternatives → row ≡ alternatives → tree whole ≡ alt (branches (in_alternatives row))
alt_view whole alternatives row e f = ap tree e ∙ tree-Alt alternatives ∙ ap (λ bs. alt (branches (in_alternatives bs))) (sym f)
