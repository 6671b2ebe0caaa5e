-- Whether a place of seq-flat, seq-skip or seq-stop is here.
use Rattle.std.proofs.Common.{◌≡◌, ◌↔◌, Bool, IsTrue, true, false, true≢false, refl, ap, sym, ◌∙◌, subst}
use Rattle.occ_syntax.specs.Tree.{Tree, seq, skip, stop, Trees, no_tree, and_tree}
use Rattle.occ_law_shape.specs.occ_meaning.Parallel.{all_of, one}
use Rattle.occ_law_shape.proofs.Parts.{rests_are}
use Rattle.occ_law_seq.specs.Places.{FlatHere, flat_here, SkipHere, skip_here, StopHere, stop_here, begins_with_skip, is_skip}

-- two tests in a row
pub through : {A B C : Type 0} → (A ↔ B) → (B ↔ C) → A ↔ C
through f g = ((λ a. g.0 (f.0 a)), (λ c. f.1 (g.1 c)))

-- what stands behind the parts of the SEQ that goes
flat_rest : (qs rs us : Trees) → FlatHere (and_tree (seq qs) rs) us → us ≡ all_of qs rs
flat_rest qs rs us (flat_here a b) = refl

-- a SEQ goes here where the other list begins with its parts, and the rests are the same
pub flat_test : (p : Tree) (qs rs us os : Trees) (b : Bool) → seq qs ≡ p → us ≡ all_of qs os → (IsTrue b ↔ (rs ≡ os)) → IsTrue b ↔ FlatHere (and_tree p rs) us
flat_test p qs rs us os b e f same = (
  (λ h. subst (λ z. FlatHere (and_tree z rs) us) e (subst (λ z. FlatHere (and_tree (seq qs) rs) z) (sym (f ∙ ap (all_of qs) (sym (same.0 h)))) (flat_here qs rs))),
  (λ j. let k : all_of qs rs ≡ all_of qs os = sym (flat_rest qs rs us (subst (λ z. FlatHere (and_tree z rs) us) (sym e) j)) ∙ f in same.1 (rests_are qs rs os k)),
)

-- it doesn't where the other list begins otherwise
pub flat_never : (p : Tree) (qs rs us : Trees) → seq qs ≡ p → ((r : Trees) → us ≡ all_of qs r → ⊥) → FlatHere (and_tree p rs) us → ⊥
flat_never p qs rs us e never j = never rs (flat_rest qs rs us (subst (λ z. FlatHere (and_tree z rs) us) (sym e) j))

skip_rest : (p : Tree) (rs us : Trees) → SkipHere (and_tree p rs) us → rs ≡ us
skip_rest p rs us (skip_here qs last) = refl

-- a SKIP leaves here where the rest is the other list
pub skip_test : (p : Tree) (rs us : Trees) (b : Bool) → skip ≡ p → begins_with_skip us ≡ false → (IsTrue b ↔ (rs ≡ us)) → IsTrue b ↔ SkipHere (and_tree p rs) us
skip_test p rs us b e last same = (
  (λ h. subst (λ z. SkipHere (and_tree z rs) us) e (subst (λ z. SkipHere (and_tree skip z) us) (sym (same.0 h)) (skip_here us last))),
  (λ j. same.1 (skip_rest p rs us j)),
)

-- none leaves in front of another SKIP
pub skip_spared : (ps us : Trees) → begins_with_skip us ≡ true → SkipHere ps us → ⊥
skip_spared ps us e (skip_here qs last) = true≢false (sym e ∙ last)

stop_alone : (ps us : Trees) → StopHere ps us → us ≡ one stop
stop_alone ps us (stop_here qs) = refl

one_inner : (p q : Tree) → one p ≡ one q → p ≡ q
one_inner p q e = cc

-- STOP is the last part here where it is the one part that is left
pub stop_test : (p q : Tree) (rs us : Trees) (b : Bool) → stop ≡ p → us ≡ one q → (IsTrue b ↔ (q ≡ stop)) → IsTrue b ↔ StopHere (and_tree p rs) us
stop_test p q rs us b e f same = (
  (λ h. subst (λ z. StopHere (and_tree z rs) us) e (subst (λ z. StopHere (and_tree stop rs) z) (sym (f ∙ ap one (same.0 h))) (stop_here rs))),
  (λ j. same.1 (one_inner q stop (sym f ∙ stop_alone (and_tree p rs) us j))),
)

-- it isn't where there isn't one part
pub stop_never : (ps us : Trees) → ((p : Tree) → us ≡ one p → ⊥) → StopHere ps us → ⊥
stop_never ps us never j = never stop (stop_alone ps us j)

skip_only : (p : Tree) → is_skip p ≡ true → p ≡ skip
skip_only skip e = refl
skip_only p e = absurd (true≢false (sym e))

-- a list begins with SKIP where its first part is SKIP
pub begins_test : (ps : Trees) (p : Tree) (rs : Trees) (b : Bool) → ps ≡ and_tree p rs → (IsTrue b ↔ (p ≡ skip)) → IsTrue b ↔ (begins_with_skip ps ≡ true)
begins_test ps p rs b e test =
    ((λ h. ap begins_with_skip e ∙ ap is_skip (test.0 h)), (λ k. test.1 (skip_only p (sym (ap begins_with_skip e) ∙ k))))

pub begins_never : (ps : Trees) → ps ≡ no_tree → begins_with_skip ps ≡ true → ⊥
begins_never ps e k = true≢false (sym k ∙ ap begins_with_skip e)

-- a test that failed
pub failed : (b c : Bool) → b ≡ false → (IsTrue b ↔ (c ≡ true)) → c ≡ false
failed b true e test = absurd (true≢false (sym (test.1 refl) ∙ e))
failed b false e test = refl
