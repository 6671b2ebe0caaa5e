-- What shows that a few parts are, or aren't, instances of laws.
use Rattle.std.proofs.Common.{◌≡◌, ℕ, ◌==◌, ◌+◌, arith, Bool, true, false, true≢false, not, ◌||◌, List, [], ◌∷◌, Option, None, Some, nat_lt, refl, sym, ap, ◌∙◌, subst}
use Rattle.std.proofs.lemmas.Bool.Decides.{nat_tests}
use Rattle.occ_bits.specs.occ_syntax.Tree.{Tree, variable, truth, input, skip, stop, assign, seq, select, alt, Trees, no_tree, and_tree, no_case, Cases, and_case, no_branch, and_branch}
use Rattle.occ_bits.specs.occ_base.declared.width.Width.{Width}
use Rattle.occ_law.specs.Choice.{IfCut, if_cut}
use Rattle.occ_law.specs.Sequence.{AssignAlt, assign_alt, SeqSkip, seq_skip, spare_inputs}
use Rattle.occ_law.specs.Lists.{size}
use Rattle.occ_law.specs.RuleTable.{is_before}
use Rattle.occ_bits.specs.occ_meaning.Parallel.{two}

nothing_there : (width : Width) → None ≡ Some width → ⊥
nothing_there width h = cc

-- IF without choices has no conditions of which one is true
pub cut_none : (l r : Tree) (place : List ℕ) → IfCut [] place l r → r ≡ select no_case → ⊥
cut_none l r place (if_cut no_case ds few every) e = true≢false (sym (every (λ x. 0) (λ x width h. absurd (nothing_there width h))))
cut_none l r place (if_cut (and_case b p cs) ds few every) e = cc

unspared : (c x y : ℕ) → (x ≡ y → ⊥) → spare_inputs (y ∷ []) (variable x ∷ []) (and_branch (truth true) (input c x) skip no_branch) ≡ true → ⊥
unspared c x y differ k =
    let f : (x == y) ≡ false = grind (arith, nat_tests) in
    let g : (x == x) ≡ true = grind (arith, nat_tests) in
    let h : spare_inputs (y ∷ []) (variable x ∷ []) (and_branch (truth true) (input c x) skip no_branch) ≡ false = rw (f, g) refl in
    true≢false (sym k ∙ h)

-- the one pair is kept behind an input into another variable, and its right side names that one
pub kept_names : (c x y : ℕ) (place : List ℕ) (l r : Tree) → (x ≡ y → ⊥) → AssignAlt place l r
    → l ≡ seq (two (assign (y ∷ []) (variable x ∷ [])) (alt (and_branch (truth true) (input c x) skip no_branch))) → ⊥
kept_names c x y place l r differ (assign_alt xs es gs spared) e =
    let f : xs ≡ y ∷ [] = cc in
    let g : es ≡ variable x ∷ [] = cc in
    let h : gs ≡ and_branch (truth true) (input c x) skip no_branch = cc in
    let k : spare_inputs (y ∷ []) (variable x ∷ []) (and_branch (truth true) (input c x) skip no_branch) ≡ true =
    ap (λ z. spare_inputs z (variable x ∷ []) (and_branch (truth true) (input c x) skip no_branch)) (sym f)
    ∙ ap (λ z. spare_inputs xs z (and_branch (truth true) (input c x) skip no_branch)) (sym g) ∙ ap (spare_inputs xs es) (sym h) ∙ spared in
    unspared c x y differ k

-- nothing is before the first place of all
pub none_before : (other : List ℕ) (l r : Tree) → SeqSkip other l r → is_before other (0 ∷ []) ≡ false
none_before other l r (seq_skip no_tree qs) = refl
none_before other l r (seq_skip (and_tree p ps) qs) = later (size ps)
  where
    later : (n : ℕ) → is_before ((1 + n) ∷ []) (0 ∷ []) ≡ false
    later n = grind (arith, nat_tests)

pub two_are_not_three : seq (and_tree skip (and_tree stop (and_tree skip no_tree))) ≡ seq (and_tree stop (and_tree skip no_tree)) → ⊥
two_are_not_three e = cc
