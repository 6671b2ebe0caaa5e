-- The names that parts declare, as they are collected.
use Rattle.std.proofs.Common.{◌≡◌, ◌≤◌, ◌<◌, ◌+◌, ◌==◌, ◌||◌, ℕ, false, List, [], drop, get_or, length, refl, sym, ap, ◌∙◌, subst}
use Rattle.std.proofs.lemmas.Bool.{or_from, or_parts}
use Rattle.std.proofs.lemmas.List.{at_drop_all, at_drop_more}
use Rattle.occ_meaning.specs.Parallel.{all_of, one}
use Rattle.occ_syntax.specs.Declarations.{declaring}
use Rattle.occ_syntax.specs.Tree.{Tree, Trees, and_tree, no_tree}
use Rattle.occ_syntax.specs.View.{branches, cases, tree, trees}
use Rattle.occ_syntax.specs.declared.expr.Expr.{Expr}
use Rattle.occ_syntax.specs.declared.expr.Guard.{Guard}
use Rattle.occ_syntax.specs.declared.proc.Proc.{Proc}
use Rattle.occ_syntax.specs.declared.scope.Kind.{Kind}
use Rattle.occ_syntax.specs.declared.scope.Kind.TheVariants.{Chan, Var}
use Rattle.occ_norm_arrange.specs.Declares.{branches_declare, cases_declare, declares, some_declare}
use Rattle.occ_norm_arrange.specs.Spread.{AreKnown}
use Rattle.occ_norm_arrange.specs.Notes.{Notes}

-- ---- a declaration

pub notes_as : (before : List ℕ) (p q : Tree) (after : List ℕ) → p ≡ q → Notes before (declares q) after → Notes before (declares p) after
notes_as before p q after e n = subst (λ r. Notes before (declares r) after) (sym e) n

pub declares_declaring : (n : ℕ) (k : Kind) (p : Tree) (x : ℕ) → declares (declaring n k p) x ≡ (x == n || declares p x)
declares_declaring n (Var w) p x = refl
declares_declaring n (Chan w mark) p x = refl

-- ---- what is left of lists

pub next_part : (ps : List Proc) (i : ℕ) (p : Proc) → i < length ps → p ≡ get_or ps i p → (x : ℕ)
    → some_declare (trees (drop i ps)) x ≡ (declares (tree p) x || some_declare (trees (drop (i + 1) ps)) x)
next_part ps i p h e x = at_drop_more (λ qs. some_declare (trees qs) x) ps i p h ∙ ap (λ q. declares (tree q) x || some_declare (trees (drop (i + 1) ps)) x) (sym e)

pub no_part : (ps : List Proc) (i : ℕ) → length ps ≤ i → (x : ℕ) → some_declare (trees (drop i ps)) x ≡ false
no_part ps i h x = at_drop_all (λ qs. some_declare (trees qs) x) ps i h

pub next_choice : (cs : List (Expr × Proc)) (i : ℕ) (d : Expr × Proc) → i < length cs → d ≡ get_or cs i d → (x : ℕ)
    → cases_declare (cases (drop i cs)) x ≡ (declares (tree d.1) x || cases_declare (cases (drop (i + 1) cs)) x)
next_choice cs i d h e x =
    at_drop_more (λ ds. cases_declare (cases ds) x) cs i d h ∙ ap (λ (k : Expr × Proc). declares (tree k.1) x || cases_declare (cases (drop (i + 1) cs)) x) (sym e)

pub no_choice : (cs : List (Expr × Proc)) (i : ℕ) → length cs ≤ i → (x : ℕ) → cases_declare (cases (drop i cs)) x ≡ false
no_choice cs i h x = at_drop_all (λ ds. cases_declare (cases ds) x) cs i h

pub next_branch : (bs : List (Guard × Proc)) (i : ℕ) (d : Guard × Proc) → i < length bs → d ≡ get_or bs i d → (x : ℕ)
    → branches_declare (branches (drop i bs)) x ≡ (declares (tree d.1) x || branches_declare (branches (drop (i + 1) bs)) x)
next_branch bs i d h e x =
    at_drop_more (λ ds. branches_declare (branches ds) x) bs i d h ∙ ap (λ (k : Guard × Proc). declares (tree k.1) x || branches_declare (branches (drop (i + 1) bs)) x) (sym e)

pub no_branch : (bs : List (Guard × Proc)) (i : ℕ) → length bs ≤ i → (x : ℕ) → branches_declare (branches (drop i bs)) x ≡ false
no_branch bs i h x = at_drop_all (λ ds. branches_declare (branches ds) x) bs i h

-- ---- parts whose names are known

declare_both : (ps qs : Trees) (x : ℕ) → some_declare ps x ≡ false → some_declare qs x ≡ false → some_declare (all_of ps qs) x ≡ false
declare_both no_tree qs x h k = k
declare_both (and_tree p ps) qs x h k =
    let j = or_parts (declares p x) (some_declare ps x) h in or_from (declares p x) (some_declare (all_of ps qs) x) j.0 (declare_both ps qs x j.1 k)

pub known_none : (names : List ℕ) (xs : List Proc) → xs ≡ [] → AreKnown names (trees xs)
known_none names xs e x h = ap (λ ys. some_declare (trees ys) x) e

pub known_more : (names now : List ℕ) (ps qs : Trees) (p : Tree) → AreKnown names ps → Notes names (declares p) now → qs ≡ all_of ps (one p) → AreKnown now qs
known_more names now ps qs p a n e x h =
    ap (λ rs. some_declare rs x) e ∙ declare_both ps (one p) x (a x (n.kept x h)) (or_from (declares p x) false (n.noted x h) refl)
