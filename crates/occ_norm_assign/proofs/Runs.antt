-- Some parts of a list in a row.
use Rattle.std.proofs.Common.{◌≡◌, ◌<◌, ◌≤◌, ◌-◌, ◌+◌, ◌∙◌, ℕ, zero, suc, List, [], ◌∷◌, Option, Some, IfSome, get_or, length, take, drop, refl, sym, ap, subst, arith}
use Rattle.std.proofs.lemmas.List.{drop_more}
use Rattle.occ_syntax.specs.occ_base.declared.names.Name.{Name}
use Rattle.occ_norm_arrange.specs.occ_meaning.Parallel.{all_of}
use Rattle.occ_norm_frame.specs.Placed.{FitAll, Fits}
use Rattle.occ_syntax.specs.Counts.{bits_of_scope, most_bits_of_all}
use Rattle.occ_syntax.specs.Tree.{Trees, and_case, and_tree, no_tree, seq}
use Rattle.occ_syntax.specs.View.{cases, exp, tree, trees}
use Rattle.occ_syntax.specs.declared.expr.Expr.{Expr}
use Rattle.occ_syntax.specs.declared.proc.Proc.{Proc}
use Rattle.occ_syntax.specs.declared.scope.Kind.{Kind}
use Rattle.occ_norm_assign.proofs.Moving.{types_first}

pub trees_split : (ps : List Proc) (i : ℕ) → trees ps ≡ all_of (trees (take i ps)) (trees (drop i ps))
trees_split [] zero = refl
trees_split [] (suc i) = refl
trees_split (p ∷ ps) zero = refl
trees_split (p ∷ ps) (suc i) = ap (and_tree (tree p)) (trees_split ps i)

-- one part more
pub trees_next : (ps : List Proc) (i : ℕ) (p : Proc) → i < length ps → p ≡ get_or ps i p → trees (take (suc i) ps) ≡ all_of (trees (take i ps)) (and_tree (tree p) no_tree)
trees_next [] i p h e = absurd (omega (arith, h))
trees_next (q ∷ ps) zero p h e = ap (λ r. and_tree (tree r) no_tree) (sym e)
trees_next (q ∷ ps) (suc i) p h e = ap (and_tree (tree q)) (trees_next ps i p (omega (arith, h)) e)

-- the parts from a place on, by those before another place and those from there on
pub trees_between : (ps : List Proc) (i j : ℕ) → i ≤ j → trees (drop i ps) ≡ all_of (trees (drop i (take j ps))) (trees (drop j ps))
trees_between ps zero j h = trees_split ps j
trees_between [] (suc i) zero h = absurd (omega (arith, h))
trees_between [] (suc i) (suc j) h = refl
trees_between (p ∷ ps) (suc i) zero h = absurd (omega (arith, h))
trees_between (p ∷ ps) (suc i) (suc j) h = trees_between ps i j (omega (arith, h))

least_bits : (ps : Trees) (n : ℕ) → n ≤ most_bits_of_all ps n
least_bits no_tree n = omega arith
least_bits (and_tree p ps) n = let h = least_bits ps n in omega (arith, h)

most_both : (ps qs : Trees) (n : ℕ) → most_bits_of_all (all_of ps qs) n ≤ 24 → (most_bits_of_all ps n ≤ 24) × (most_bits_of_all qs n ≤ 24)
most_both no_tree qs n h = (let l = least_bits qs n in omega (arith, h, l), h)
most_both (and_tree p ps) qs n h = let k = most_both ps qs n (omega (arith, h)) in (let l = k.0 in omega (arith, h, l), k.1)

fit_both : (vars : List (Name × Kind)) (ps qs : Trees) → FitAll vars (all_of ps qs) → FitAll vars ps × FitAll vars qs
fit_both vars ps qs f =
    let t = types_first ps qs f.outer f.types in
    let m = most_both ps qs (bits_of_scope vars) f.most in
    (record { outer = f.outer; around = f.around; types = t.0; most = m.0 }, record { outer = f.outer; around = f.around; types = t.1; most = m.1 })

pub fit_before : (vars : List (Name × Kind)) (ps : List Proc) (i : ℕ) → FitAll vars (trees ps) → FitAll vars (trees (take i ps))
fit_before vars ps i f = (fit_both vars (trees (take i ps)) (trees (drop i ps)) (subst (FitAll vars) (trees_split ps i) f)).0

pub fit_from : (vars : List (Name × Kind)) (ps : List Proc) (i : ℕ) → FitAll vars (trees ps) → FitAll vars (trees (drop i ps))
fit_from vars ps i f = (fit_both vars (trees (take i ps)) (trees (drop i ps)) (subst (FitAll vars) (trees_split ps i) f)).1

-- parts in turn as one part
pub seq_fits : (vars : List (Name × Kind)) (ps : Trees) → FitAll vars ps → Fits vars (seq ps)
seq_fits vars ps f = record { outer = f.outer; around = f.around; types = f.types; most = f.most }

-- ---- the choices that are left of a list, one by one from the end
pub dropped_all : {A : Type 0} (xs : List A) → drop (length xs) xs ≡ []
dropped_all [] = refl
dropped_all (x ∷ xs) = dropped_all xs

one_back : (n : ℕ) → zero < n → n - 1 + 1 ≡ n
one_back n h = omega (arith, h)

pub cases_left : (cs : List (Expr × Proc)) (n : ℕ) (c : Expr × Proc) → zero < n → n ≤ length cs → c ≡ get_or cs (n - 1) c → cases (drop (n - 1) cs) ≡ and_case (exp c.0) (tree c.1) (cases (drop n cs))
cases_left cs n c h k e = ap cases (drop_more cs (n - 1) c (omega (arith, h, k)) ∙ (λ i. sym e i ∷ drop (one_back n h i) cs))

-- ---- what is found
pub some_found : {A : Type 0} (P : A → Type 0) (o : Option A) (a : A) → o ≡ Some a → IfSome o P → P a
some_found P o a e h = subst (λ x. IfSome x P) e h
