-- The right side of a law at a place, and that it is the only one.
use Rattle.std.proofs.Common.{◌≡◌, ℕ, ◌==◌, Bool, true, false, true≢false, List, [], ◌∷◌, length, refl, ap, sym, ◌∙◌}
use Rattle.occ_syntax.specs.occ_base.declared.names.Name.{Name}
use Rattle.occ_syntax.specs.declared.expr.Guard.{Guard}
use Rattle.occ_syntax.specs.declared.proc.Proc.{Proc}
use Rattle.occ_syntax.specs.declared.scope.Kind.{Kind}
use Rattle.occ_syntax.specs.Scopes.{Environment, environment}
use Rattle.occ_syntax.specs.Tree.{Exp, truth, Waiting, Tree, stop, alt, Branches, no_branch, and_branch}
use Rattle.occ_syntax.specs.Types.{branches_kept, is_condition, types_kept}
use Rattle.occ_syntax.specs.View.{exp, waiting, tree, branches}
use Rattle.occ_law_shape.specs.occ_law.Choice.{AltCase, alt_case, AltFalse, alt_false, AltFlat, alt_flat, AltLeast, alt_least, AltNone, alt_none, AltSame, alt_same, AltSkip, alt_skip, AltSlide, alt_slide, AltSplit, alt_split, AltTwice, alt_twice, and_skip, are_events, are_plain_events, has_skip, is_event}
use Rattle.occ_law_shape.specs.occ_law.Lists.{all_branches, tally}
use Rattle.occ_law_shape.specs.occ_law.States.{AreFew, IsNever}
use Rattle.occ_law_shape.proofs.Fronts.{test_of}
use Rattle.occ_law_shape.proofs.Typed.{all_branches_kept, branch_kept}
use Rattle.occ_law_alt.specs.Fronts.{in_front}
use Rattle.occ_law_alt.proofs.Begun.{alt_tells, behind_one_front, branch_is, branches_none, conditions_are, guards_are, none_there, processes_are, rests_are}
use Rattle.occ_law_alt.proofs.Pieces.{case_pieces, false_pieces, flat_inner, flat_pieces, halves, Least, least_pieces, moved, none_pieces, one_of, put_in, same_pieces, sides, skip_pieces, slide_inner, slide_pieces, Split, split_inner, split_pieces, twice_pieces}

-- a list of branches that has none, and one that has some
pub empty_is : (list : List (Guard × Proc)) (b : Bool) → b ≡ (length list == 0) → b ≡ true → branches list ≡ no_branch
empty_is list b e f = none_there list ((test_of b (length list) e).0 f)

pub empty_not : (list : List (Guard × Proc)) (b : Bool) → b ≡ (length list == 0) → b ≡ false → branches list ≡ no_branch → ⊥
empty_not list b e f g = true≢false (sym ((test_of b (length list) e).1 (branches_none list g)) ∙ f)

-- ---- laws that change a part as a whole

pub none_empty : (ks : List ℕ) (l r : Tree) (xs : Branches) → l ≡ alt xs → AltNone ks l r → xs ≡ no_branch
none_empty ks l r xs e d = alt_tells _ _ (sym e ∙ (none_pieces ks l r d).1)

pub none_only : (ks : List ℕ) (l t : Tree) (xs : Branches) → ks ≡ [] → l ≡ alt xs → xs ≡ no_branch → t ≡ stop → AltNone ks l t × ((r : Tree) → AltNone ks l r → r ≡ t)
none_only ks l t xs n e f g = (sides AltNone n (e ∙ ap alt f) g alt_none, (λ r d. (none_pieces ks l r d).2 ∙ sym g))

pub skip_alone : (ks : List ℕ) (l r : Tree) (xs rs : Branches) (p : Tree) → l ≡ alt xs → xs ≡ and_skip p rs → AltSkip ks l r → (rs ≡ no_branch) × (r ≡ p)
skip_alone ks l r xs rs p e f d =
    let v : and_skip p rs ≡ and_skip r no_branch = sym f ∙ alt_tells _ _ (sym e ∙ (skip_pieces ks l r d).1) in
    (rests_are _ _ _ _ _ _ _ _ v, sym (processes_are _ _ _ _ _ _ _ _ v))

pub skip_only : (ks : List ℕ) (l t : Tree) (xs rs : Branches) (p : Tree) → ks ≡ [] → l ≡ alt xs → xs ≡ and_skip p rs → rs ≡ no_branch → t ≡ p → AltSkip ks l t × ((r : Tree) → AltSkip ks l r → r ≡ t)
skip_only ks l t xs rs p n e f g h = (sides AltSkip n (e ∙ ap alt (f ∙ ap (and_skip p) g)) h (alt_skip p), (λ r d. (skip_alone ks l r xs rs p e f d).1 ∙ sym h))

-- the lists of alt-least, where both ALTs and what one of them has behind the other are given
pub least_lists : (ks : List ℕ) (l r : Tree) (xs less whole more : Branches) → l ≡ alt xs → xs ≡ and_skip (alt less) (and_skip (alt whole) no_branch) → whole ≡ all_branches less more → (u : Least ks l r)
    → (u.less ≡ less) × (u.more ≡ more)
least_lists ks l r xs less whole more e f g u =
    let v : and_skip (alt u.less) (and_skip (alt (all_branches u.less u.more)) no_branch) ≡ and_skip (alt less) (and_skip (alt whole) no_branch) = sym (alt_tells _ _ (sym e ∙ u.left)) ∙ f in
    let i : u.less ≡ less = alt_tells _ _ (processes_are _ _ _ _ _ _ _ _ v) in
    let w : all_branches u.less u.more ≡ whole = alt_tells _ _ (processes_are _ _ _ _ _ _ _ _ (rests_are _ _ _ _ _ _ _ _ v)) in
    (i, behind_one_front less u.more more (ap (λ z. all_branches z u.more) (sym i) ∙ w ∙ g))

pub least_more : (ks : List ℕ) (l r : Tree) (xs less whole more : Branches) → l ≡ alt xs → xs ≡ and_skip (alt less) (and_skip (alt whole) no_branch) → whole ≡ all_branches less more → AltLeast ks l r
    → are_plain_events more ≡ true
least_more ks l r xs less whole more e f g d =
    let u = least_pieces ks l r d in
    ap are_plain_events (sym (least_lists ks l r xs less whole more e f g u).1) ∙ u.plain_too

pub least_only : (ks : List ℕ) (l t : Tree) (xs less whole more : Branches) → ks ≡ [] → l ≡ alt xs → xs ≡ and_skip (alt less) (and_skip (alt whole) no_branch) → whole ≡ all_branches less more
    → are_plain_events less ≡ true → are_plain_events more ≡ true → t ≡ alt (all_branches more (and_skip (alt less) no_branch)) → AltLeast ks l t × ((r : Tree) → AltLeast ks l r → r ≡ t)
least_only ks l t xs less whole more n e f g h i k = (
  sides AltLeast n (e ∙ ap alt f ∙ ap (λ z. alt (and_skip (alt less) (and_skip (alt z) no_branch))) g) k (alt_least less more h i),
  (λ r d.
      let u = least_pieces ks l r d in
      let v = least_lists ks l r xs less whole more e f g u in
      u.right ∙ ap (λ z. alt (all_branches z (and_skip (alt u.less) no_branch))) v.1 ∙ ap (λ z. alt (all_branches more (and_skip (alt z) no_branch))) v.0 ∙ sym k),
)

-- ---- alt-false

-- the condition of a branch is a condition
pub chosen_typed : (Γ : Environment) (l : Tree) (gs hs : Branches) (b : Exp) (w : Waiting) (p : Tree) → l ≡ alt (all_branches gs (and_branch b w p hs)) → types_kept l Γ ≡ true → is_condition Γ b ≡ true
chosen_typed Γ l gs hs b w p e kept =
    let k : branches_kept (all_branches gs (and_branch b w p hs)) Γ ≡ true = ap (λ z. types_kept z Γ) (sym e) ∙ kept in
    (branch_kept Γ b w p hs (all_branches_kept Γ gs (and_branch b w p hs) k).1).0

pub false_asked : (S : List (Name × Kind)) (ks : List ℕ) (l r : Tree) (gs hs : Branches) (b : Exp) (w : Waiting) (p : Tree) → l ≡ alt (all_branches gs (and_branch b w p hs)) → ks ≡ tally gs ∷ []
    → AltFalse S ks l r → AreFew S (b ∷ []) × IsNever (environment S) b
false_asked S ks l r gs hs b w p e n d = let u = false_pieces S ks l r gs hs b w p e n d in (u.0, u.1)

pub false_only : (S : List (Name × Kind)) (ks : List ℕ) (l t : Tree) (gs hs : Branches) (b : Exp) (w : Waiting) (p : Tree) → l ≡ alt (all_branches gs (and_branch b w p hs)) → ks ≡ tally gs ∷ []
    → AreFew S (b ∷ []) × IsNever (environment S) b → t ≡ alt (all_branches gs hs) → AltFalse S ks l t × ((r : Tree) → AltFalse S ks l r → r ≡ t)
false_only S ks l t gs hs b w p e n a f =
    (sides (AltFalse S) n e f (alt_false gs hs b w p a.0 a.1), (λ r d. (false_pieces S ks l r gs hs b w p e n d).2 ∙ sym f))

-- ---- alt-case

pub case_only : (ks : List ℕ) (l t : Tree) (gs hs : Branches) (b : Exp) (w : Waiting) (p : Tree) → l ≡ alt (all_branches gs (and_branch b w p hs)) → ks ≡ tally gs ∷ [] → t ≡ halves gs b w p hs
    → AltCase ks l t × ((r : Tree) → AltCase ks l r → r ≡ t)
case_only ks l t gs hs b w p e n f = (sides AltCase n e f (alt_case gs hs b w p), (λ r d. case_pieces ks l r gs hs b w p e n d ∙ sym f))

-- ---- alt-flat

pub flat_only : (ks : List ℕ) (l t : Tree) (gs xs hs rs : Branches) → l ≡ alt (all_branches gs xs) → ks ≡ tally gs ∷ [] → xs ≡ and_skip (alt hs) rs → has_skip hs ≡ true
    → t ≡ alt (all_branches gs (all_branches hs rs)) → AltFlat ks l t × ((r : Tree) → AltFlat ks l r → r ≡ t)
flat_only ks l t gs xs hs rs e n f s g = (
  sides AltFlat n (e ∙ ap (λ z. alt (all_branches gs z)) f) g (alt_flat gs hs rs s),
  (λ r d. (flat_inner gs xs hs rs r f (flat_pieces ks l r gs xs e n d)).1 ∙ sym g),
)

-- ---- alt-split

-- the guard of the first branch of the inner list
pub split_guard : (gs : Branches) (b c : Exp) (v w : Waiting) (p q : Tree) (xs hs rs is : Branches) (r : Tree) → xs ≡ and_skip (alt hs) rs → hs ≡ and_branch c v q is → Split gs b w p xs r → (c ≡ b) × (v ≡ w)
split_guard gs b c v w p q xs hs rs is r f g u =
    let k = sym g ∙ (split_inner gs b w p xs hs rs r f u).0 in
    (conditions_are _ _ _ _ _ _ _ _ k ∙ sym u.plain, guards_are _ _ _ _ _ _ _ _ k)

pub split_only : (ks : List ℕ) (l t : Tree) (gs xs hs rs is : Branches) (b c : Exp) (v w : Waiting) (p q : Tree) → l ≡ alt (all_branches gs (and_branch b w p xs)) → ks ≡ tally gs ∷ []
    → xs ≡ and_skip (alt hs) rs → hs ≡ and_branch c v q is → (b ≡ truth true) × (is_event w ≡ true) → (c ≡ b) × (v ≡ w) → t ≡ moved gs b w p hs rs → AltSplit ks l t × ((r : Tree) → AltSplit ks l r → r ≡ t)
split_only ks l t gs xs hs rs is b c v w p q e n f g a k m =
    let i : hs ≡ and_branch (truth true) w q is = g ∙ branch_is (k.0 ∙ a.0) k.1 refl refl in (
      sides AltSplit n
          (e ∙ ap (λ z. alt (all_branches gs (and_branch z w p xs))) a.0 ∙ ap (λ z. alt (all_branches gs (and_branch (truth true) w p z))) (f ∙ ap (λ z. and_skip (alt z) rs) i))
          (m ∙ ap (λ z. moved gs z w p hs rs) a.0 ∙ ap (λ z. moved gs (truth true) w p z rs) i) (alt_split gs is rs w p q a.1),
      (λ r d. (split_inner gs b w p xs hs rs r f (split_pieces ks l r gs xs b w p e n d)).1 ∙ sym m),
    )

-- ---- alt-slide

pub slide_only : (ks : List ℕ) (l t : Tree) (gs xs hs rs more : Branches) → l ≡ alt (all_branches gs xs) → ks ≡ tally gs ∷ [] → xs ≡ and_skip (alt hs) rs → rs ≡ no_branch → are_events gs ≡ true
    → hs ≡ all_branches gs more → t ≡ alt hs → AltSlide ks l t × ((r : Tree) → AltSlide ks l r → r ≡ t)
slide_only ks l t gs xs hs rs more e n f none s g m = (
  sides AltSlide n (e ∙ ap (λ z. alt (all_branches gs z)) (f ∙ ap (and_skip (alt hs)) none ∙ ap (λ z. and_skip (alt z) no_branch) g)) (m ∙ ap alt g) (alt_slide gs more s),
  (λ r d. (slide_inner gs xs hs rs r f (slide_pieces ks l r gs xs e n d)).2 ∙ sym m),
)

-- ---- laws with two sizes

-- a copy of a branch behind a front
pub put_is : (gs hs rs : Branches) (x : Guard × Proc) (b : Exp) (v : Waiting) (p : Tree) → exp x.0.condition ≡ b → waiting x.0.wait ≡ v → tree x.1 ≡ p
    → alt (all_branches gs (in_front x (all_branches hs rs))) ≡ put_in gs b v p hs rs
put_is gs hs rs x b v p e f g = ap (λ z. alt (all_branches gs z)) (branch_is e f g refl)

pub twice_only : (ks : List ℕ) (l t : Tree) (gs hs rs : Branches) (b c : Exp) (v w : Waiting) (p q : Tree) → l ≡ alt (all_branches gs (and_branch b v p (all_branches hs (and_branch c w q rs))))
    → ks ≡ tally gs ∷ tally hs ∷ [] → (b ≡ c) × (v ≡ w) × (p ≡ q) → t ≡ put_in gs b v p hs rs → AltTwice ks l t × ((r : Tree) → AltTwice ks l r → r ≡ t)
twice_only ks l t gs hs rs b c v w p q e n k m = (
  sides AltTwice n (e ∙ ap (λ z. alt (all_branches gs (and_branch b v p (all_branches hs z)))) (branch_is (sym k.0) (sym k.1) (sym k.2) refl)) m (alt_twice gs hs rs b v p),
  (λ r d. (twice_pieces ks l r gs hs rs b c v w p q e n d).3 ∙ sym m),
)

pub same_only : (ks : List ℕ) (l t : Tree) (gs hs rs : Branches) (b c : Exp) (v w : Waiting) (p q : Tree) → l ≡ alt (all_branches gs (and_branch b v p (all_branches hs (and_branch c w q rs))))
    → ks ≡ tally gs ∷ tally hs ∷ [] → is_event v ≡ true → (b ≡ c) × (v ≡ w) → t ≡ put_in gs b v (one_of p q) hs rs → AltSame ks l t × ((r : Tree) → AltSame ks l r → r ≡ t)
same_only ks l t gs hs rs b c v w p q e n s k m = (
  sides AltSame n (e ∙ ap (λ z. alt (all_branches gs (and_branch b v p (all_branches hs z)))) (branch_is (sym k.0) (sym k.1) refl refl)) m (alt_same gs hs rs b v p q s),
  (λ r d. (same_pieces ks l r gs hs rs b c v w p q e n d).3 ∙ sym m),
)
