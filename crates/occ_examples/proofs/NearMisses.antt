-- What is nearly an instance of a law.
use Rattle.occ_law.proofs.from_meaning.Named.{zeros_state}
use Rattle.occ_law.specs.Choice.{AltSkip, IfTrue, alt_skip, if_true}
use Rattle.occ_law.specs.Lists.{conditions}
use Rattle.occ_law.specs.Parallel.{ParIf, par_if}
use Rattle.occ_law.specs.Scope.{VarUnused, var_unused}
use Rattle.occ_law.specs.Sequence.{SeqOne, seq_one}
use Rattle.occ_law.specs.States.{some_true}
use Rattle.occ_law.specs.occ_syntax.Eval.{is_true}
use Rattle.occ_law.specs.occ_syntax.Names.{free}
use Rattle.occ_law.specs.occ_base.declared.width.Width.TheVariants.{Word}
use Rattle.occ_law.specs.occ_syntax.Tree.{Cases, Exp, Tree, alt, and_case, declare, no_branch, no_case, no_tree, par, send, seq, skip}
use Rattle.occ_examples.specs.Programs.{both, c, here, if_then, ready_first, scope, set, word, x, x_is_one, y, z}
use Rattle.std.proofs.Common.{List, ◌≡◌, false, subst, sym, true, true≢false, ℕ}

pub no_one_part : (place : List ℕ) (l r : Tree) → SeqOne place l r → l ≡ seq no_tree → ⊥
no_one_part place l r (seq_one p) e = cc

-- from x = 0 the first condition is false
pub not_always : (place : List ℕ) (l r : Tree) → IfTrue scope place l r → l ≡ if_then x_is_one (set y (word 1)) → ⊥
not_always place l r (if_true b p ds few always) e =
    let f : b ≡ x_is_one = cc in
    let P : Exp → Type 0 = λ g. is_true here g (λ n. 0) ≡ true in
    let h : is_true here x_is_one (λ n. 0) ≡ true = subst P f (always (λ n. 0) (zeros_state here)) in
    true≢false (sym h)

pub two_branches : (place : List ℕ) (l r : Tree) → AltSkip place l r → l ≡ alt (ready_first (set x (word 1)) (ready_first skip no_branch)) → ⊥
two_branches place l r (alt_skip p) e = cc

-- from x = 0 no condition is true
pub may_stop : (place : List ℕ) (l r : Tree) → ParIf scope place l r → l ≡ par (both (if_then x_is_one skip) (send c (word 1))) → ⊥
may_stop place l r (par_if cs q few every) e =
    let f : cs ≡ and_case x_is_one skip no_case = cc in
    let P : Cases → Type 0 = λ ds. some_true here (conditions ds) (λ n. 0) ≡ true in
    let h : some_true here (conditions (and_case x_is_one skip no_case)) (λ n. 0) ≡ true = subst P f (every (λ n. 0) (zeros_state here)) in
    true≢false (sym h)

pub is_named : (place : List ℕ) (l r : Tree) → VarUnused place l r → l ≡ declare z (Word 2) (set z (word 1)) → ⊥
is_named place l r (var_unused v w p h) e =
    let f : v ≡ z = cc in
    let g : p ≡ set z (word 1) = cc in
    let P : Tree → Type 0 = λ q. free q v ≡ false in
    let Q : ℕ → Type 0 = λ n. free (set z (word 1)) n ≡ false in
    let i : free (set z (word 1)) z ≡ false = subst Q f (subst P g h) in
    true≢false i
