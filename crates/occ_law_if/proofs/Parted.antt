-- Two lists of choices with a place, walked through.
use Rattle.std.proofs.Common.{◌≡◌, ℕ, ◌⊎◌, ◌↔◌, ◌+◌, ◌-◌, ◌<◌, ◌≤◌, Bool, IsTrue, inl, inr, arith, refl, ap, sym, ◌∙◌, subst, List, [], ◌∷◌, ◌++◌, length, get_or, take, drop, drop-cons, length-drop, suc}
use Rattle.std.proofs.Math.Seq.{take-length}
use Rattle.std.proofs.lemmas.List.{drop_all, take-append-drop, take_more}
use Rattle.occ_syntax.specs.declared.expr.Expr.{Expr}
use Rattle.occ_syntax.specs.declared.proc.Proc.{Proc}
use Rattle.occ_syntax.specs.Tree.{Exp, Tree, select, Cases, no_case, and_case}
use Rattle.occ_syntax.specs.View.{cases, exp, tree}
use Rattle.occ_law_shape.specs.occ_law.Lists.{all_cases, count}
use Rattle.occ_law_if.specs.Places.{Somewhere, here, later}
use Rattle.occ_law_if.proofs.Fronts.{all_cases-all, all_cases-none, choice_is}
use Rattle.occ_law_if.proofs.Sides.{choices_are}

-- ---- a place in two lists

-- it is here, or behind equal choices
opens : (J : Cases → Cases → Cases → Type 0) {front cs ds : Cases} {b c : Exp} {p q : Tree} → Somewhere J front (and_case b p cs) (and_case c q ds)
    → J front (and_case b p cs) (and_case c q ds) ⊎ ((b ≡ c) × (p ≡ q) × Somewhere J (all_cases front (and_case b p no_case)) cs ds)
opens J (here j) = inl j
opens J (later h) = inr (refl, refl, h)

opens_nowhere : (J : Cases → Cases → Cases → Type 0) → ((front us : Cases) → J front no_case us → ⊥) → (front us : Cases) → Somewhere J front no_case us → ⊥
opens_nowhere J starts front us (here j) = starts front us j

opened : (J : Cases → Cases → Cases → Type 0) (front xs ys : Cases) (b c : Exp) (p q : Tree) (cs ds : Cases) → xs ≡ and_case b p cs → ys ≡ and_case c q ds → (J front xs ys → ⊥)
    → Somewhere J front xs ys → (b ≡ c) × (p ≡ q) × Somewhere J (all_cases front (and_case b p no_case)) cs ds
opened J front xs ys b c p q cs ds e f not_here h =
    elim (opens J (subst (λ z. Somewhere J front (and_case b p cs) z) f (subst (λ z. Somewhere J front z ys) e h))) [
      | inl j ↦ absurd (not_here (subst (λ z. J front z ys) (sym e) (subst (λ z. J front (and_case b p cs) z) (sym f) j)))
      | inr k ↦ k
    ]

-- one turn: behind equal choices, where it isn't here
pub turns : {P : Type 0} (J : Cases → Cases → Cases → Type 0) (front next xs ys : Cases) (b c : Exp) (p q : Tree) (cs ds : Cases) → xs ≡ and_case b p cs → ys ≡ and_case c q ds
    → b ≡ c → p ≡ q → next ≡ all_cases front (and_case b p no_case) → (J front xs ys → ⊥) → (Somewhere J front xs ys ↔ P) → Somewhere J next cs ds ↔ P
turns {P} J front next xs ys b c p q cs ds e f g i n not_here so_far = (
  (λ h. so_far.0 (subst (λ z. Somewhere J front z ys) (sym e) (subst (λ z. Somewhere J front (and_case b p cs) z) (choice_is g i refl ∙ sym f)
      (later (subst (λ z. Somewhere J z cs ds) n h))))),
  (λ r. subst (λ z. Somewhere J z cs ds) (sym n) (opened J front xs ys b c p q cs ds e f not_here (so_far.1 r)).2),
)

-- there is none where the choices differ, and it isn't here
pub choices_differ : (J : Cases → Cases → Cases → Type 0) (front xs ys : Cases) (b c : Exp) (p q : Tree) (cs ds : Cases) → xs ≡ and_case b p cs → ys ≡ and_case c q ds
    → ((b ≡ c) × (p ≡ q) → ⊥) → (J front xs ys → ⊥) → Somewhere J front xs ys → ⊥
choices_differ J front xs ys b c p q cs ds e f differ not_here h = let k = opened J front xs ys b c p q cs ds e f not_here h in differ (k.0, k.1)

pub nowhere : (J : Cases → Cases → Cases → Type 0) → ((front us : Cases) → J front no_case us → ⊥) → (front xs ys : Cases) → xs ≡ no_case → Somewhere J front xs ys → ⊥
nowhere J starts front xs ys e h = opens_nowhere J starts front ys (subst (λ z. Somewhere J front z ys) e h)

-- ---- the lists of choices, before a place and from it on

cases-append : (xs ys : List (Expr × Proc)) → cases (xs ++ ys) ≡ all_cases (cases xs) (cases ys)
cases-append [] ys = refl
cases-append (x ∷ xs) ys = ap (and_case (exp x.0) (tree x.1)) (cases-append xs ys)

pub whole : (xs : List (Expr × Proc)) (k : ℕ) → all_cases (cases (take k xs)) (cases (drop k xs)) ≡ cases xs
whole xs k = sym (cases-append (take k xs) (drop k xs)) ∙ ap cases (take-append-drop k xs)

pub from_place : (xs : List (Expr × Proc)) (k : ℕ) (x : Expr × Proc) → k < length xs → x ≡ get_or xs k x → cases (drop k xs) ≡ and_case (exp x.0) (tree x.1) (cases (drop (k + 1) xs))
from_place xs k x h e =
    let j : suc k ≡ k + 1 = omega arith in
    ap cases (drop-cons xs k x h ∙ ap (λ z. z ∷ drop (suc k) xs) (sym e)) ∙ ap (λ n. and_case (exp x.0) (tree x.1) (cases (drop n xs))) j

pub before_next : (xs : List (Expr × Proc)) (k : ℕ) (x : Expr × Proc) → k < length xs → x ≡ get_or xs k x
    → cases (take (k + 1) xs) ≡ all_cases (cases (take k xs)) (and_case (exp x.0) (tree x.1) no_case)
before_next xs k x h e = ap cases (take_more xs k x h ∙ ap (λ z. take k xs ++ z ∷ []) (sym e)) ∙ cases-append (take k xs) (x ∷ [])

pub none_left : (xs : List (Expr × Proc)) (k : ℕ) → length xs ≤ k → cases (drop k xs) ≡ no_case
none_left xs k h = ap cases (drop_all k xs h)

-- a slice from the place on
pub to_end : (xs : List (Expr × Proc)) (k : ℕ) → take (length xs - k) (drop k xs) ≡ drop k xs
to_end xs k = ap (λ n. take n (drop k xs)) (sym (length-drop k xs)) ∙ take-length (drop k xs)

-- what both lists have before the place
pub both_whole : (xs ys : List (Expr × Proc)) (k : ℕ) → cases (take k xs) ≡ cases (take k ys) → all_cases (cases (take k xs)) (cases (drop k ys)) ≡ cases ys
both_whole xs ys k e = ap (λ z. all_cases z (cases (drop k ys))) e ∙ whole ys k

-- ---- a law as a change at a place

pub record IsParted (J : Cases → Cases → Cases → Type 0) (front xs ys : Cases) : Type 0 where
  pub middle : Cases
  pub rest : Cases
  pub other : Cases
  pub first : xs ≡ all_cases middle rest
  pub second : ys ≡ all_cases middle other
  pub join : J (all_cases front middle) rest other

parted : (J : Cases → Cases → Cases → Type 0) {front xs ys : Cases} → Somewhere J front xs ys → IsParted J front xs ys
parted J (here {front} {cs} {ds} j) = record {
  middle = no_case;
  rest = cs;
  other = ds;
  first = refl;
  second = refl;
  join = subst (λ z. J z cs ds) (sym (all_cases-none front)) j;
}
parted J (later {front} {cs} {ds} {b} {p} h) =
    let r = parted J h in
    record {
      middle = and_case b p r.middle;
      rest = r.rest;
      other = r.other;
      first = ap (and_case b p) r.first;
      second = ap (and_case b p) r.second;
      join = subst (λ z. J z r.rest r.other) (all_cases-all front (and_case b p no_case) r.middle) r.join;
    }

joined : (J : Cases → Cases → Cases → Type 0) (front middle rest other : Cases) → J (all_cases front middle) rest other → Somewhere J front (all_cases middle rest) (all_cases middle other)
joined J front no_case rest other j = here (subst (λ z. J z rest other) (all_cases-none front) j)
joined J front (and_case b p cs) rest other j =
    later (joined J (all_cases front (and_case b p no_case)) cs rest other (subst (λ z. J z rest other) (sym (all_cases-all front (and_case b p no_case) cs)) j))

-- two IFs with a place
pub record IsPlaced (J : Cases → Cases → Cases → Type 0) (l r : Tree) : Type 0 where
  pub front : Cases
  pub rest : Cases
  pub other : Cases
  pub left : l ≡ select (all_cases front rest)
  pub right : r ≡ select (all_cases front other)
  pub join : J front rest other

-- a law whose instances are just its places
pub placed : (J : Cases → Cases → Cases → Type 0) (D : List ℕ → Tree → Tree → Type 0)
    → ((front rest other : Cases) → J front rest other → D (count front ∷ []) (select (all_cases front rest)) (select (all_cases front other)))
    → ((place : List ℕ) (l r : Tree) → D place l r → IsPlaced J l r)
    → (cs ds : Cases) (l r : Tree) → select cs ≡ l → select ds ≡ r → Somewhere J no_case cs ds ↔ ((place : List ℕ) × D place l r)
placed J D out into cs ds l r e f = (
  (λ h. let t = parted J h in (
    count t.middle ∷ [],
    subst (λ z. D (count t.middle ∷ []) z r) (ap select (sym t.first) ∙ e)
        (subst (λ z. D (count t.middle ∷ []) (select (all_cases t.middle t.rest)) z) (ap select (sym t.second) ∙ f) (out t.middle t.rest t.other t.join)),
  )),
  (λ k. let t = into k.0 l r k.1 in
      let first : all_cases t.front t.rest ≡ cs = sym (choices_are (e ∙ t.left)) in
      let second : all_cases t.front t.other ≡ ds = sym (choices_are (f ∙ t.right)) in
      subst (λ z. Somewhere J no_case z ds) first (subst (λ z. Somewhere J no_case (all_cases t.front t.rest) z) second (joined J no_case t.front t.rest t.other t.join))),
)

-- ---- one turn of the walk

-- one choice more before the place, in both lists
pub same_next : (xs ys : List (Expr × Proc)) (k : ℕ) (x y : Expr × Proc) → k < length xs → k < length ys → x ≡ get_or xs k x → y ≡ get_or ys k y
    → exp x.0 ≡ exp y.0 → tree x.1 ≡ tree y.1 → cases (take k xs) ≡ cases (take k ys) → cases (take (k + 1) xs) ≡ cases (take (k + 1) ys)
same_next xs ys k x y h i e f g p same =
    before_next xs k x h e ∙ ap (λ z. all_cases z (and_case (exp x.0) (tree x.1) no_case)) same ∙ ap (all_cases (cases (take k ys))) (choice_is g p refl)
    ∙ sym (before_next ys k y i f)

-- two tests in a row
pub through : {A B C : Type 0} → (A ↔ B) → (B ↔ C) → A ↔ C
through f g = ((λ a. g.0 (f.0 a)), (λ c. f.1 (g.1 c)))

-- the test of a place, made on slices
pub on_slices : (J : Cases → Cases → Cases → Type 0) (front : Cases) (xs ys : List (Expr × Proc)) (k : ℕ) (a : Bool)
    → (IsTrue a ↔ J front (cases (take (length xs - k) (drop k xs))) (cases (take (length ys - k) (drop k ys)))) → IsTrue a ↔ J front (cases (drop k xs)) (cases (drop k ys))
on_slices J front xs ys k a test =
    subst (λ z. IsTrue a ↔ J front (cases (drop k xs)) (cases z)) (to_end ys k) (subst (λ z. IsTrue a ↔ J front (cases z) (cases (take (length ys - k) (drop k ys)))) (to_end xs k) test)
