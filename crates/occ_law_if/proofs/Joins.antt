-- What if-false, if-nest, if-swap and if-merge change at a place: the law, and its test there.
use Rattle.std.proofs.Common.{◌≡◌, ℕ, ◌↔◌, Bool, IsTrue, true, List, [], ◌∷◌, refl, ap, sym, ◌∙◌, subst}
use Rattle.occ_syntax.specs.occ_base.declared.names.Name.{Name}
use Rattle.occ_syntax.specs.declared.expr.Op.TheVariants.{And, Or}
use Rattle.occ_syntax.specs.declared.scope.Kind.{Kind}
use Rattle.occ_syntax.specs.Scopes.{Environment, environment}
use Rattle.occ_syntax.specs.Types.{cases_kept, is_condition, types_kept}
use Rattle.occ_syntax.specs.Tree.{Exp, operation, Tree, stop, select, Cases, no_case, and_case}
use Rattle.occ_law_shape.specs.occ_law.Choice.{IfFalse, if_false, IfMerge, if_merge, IfNest, if_nest, IfSwap, if_swap, each_case_under}
use Rattle.occ_law_shape.specs.occ_law.Lists.{all_cases, count}
use Rattle.occ_law_shape.specs.occ_law.States.{AreFew, ExcludeEachOther, IsNever}
use Rattle.occ_law_shape.proofs.Typed.{all_cases_kept, case_kept}
use Rattle.occ_law_if.specs.Places.{FalseHere, false_here, MergeHere, merge_here, NestHere, nest_here, Somewhere, SwapHere, swap_here}
use Rattle.occ_law_if.proofs.Fronts.{first_condition, first_process, others, choice_is, rests_are}
use Rattle.occ_law_if.proofs.Parted.{IsPlaced, placed}

-- ---- if-false

false_out : (S : List (Name × Kind)) (front rest other : Cases) → FalseHere S front rest other → IfFalse S (count front ∷ []) (select (all_cases front rest)) (select (all_cases front other))
false_out S front rest other (false_here b p ds few never) = if_false front ds b p few never

false_into : (S : List (Name × Kind)) (place : List ℕ) (l r : Tree) → IfFalse S place l r → IsPlaced (FalseHere S) l r
false_into S place l r (if_false cs ds b p few never) = record { front = cs; rest = and_case b p ds; other = ds; left = refl; right = refl; join = false_here b p ds few never }

pub false_placed : (S : List (Name × Kind)) (cs ds : Cases) (l r : Tree) → select cs ≡ l → select ds ≡ r → Somewhere (FalseHere S) no_case cs ds ↔ ((place : List ℕ) × IfFalse S place l r)
false_placed S = placed (FalseHere S) (IfFalse S) (false_out S) (false_into S)

false_rest : (S : List (Name × Kind)) {front us ds : Cases} {b : Exp} {p : Tree} → FalseHere S front (and_case b p ds) us → (ds ≡ us) × AreFew S (b ∷ []) × IsNever (environment S) b
false_rest S (false_here b p ds few never) = (refl, few, never)

pub false_test : (S : List (Name × Kind)) (front xs us : Cases) (b : Exp) (p : Tree) (ds : Cases) (a : Bool) → xs ≡ and_case b p ds → ds ≡ us
    → (IsTrue a ↔ (AreFew S (b ∷ []) × IsNever (environment S) b)) → IsTrue a ↔ FalseHere S front xs us
false_test S front xs us b p ds a e f test = (
  (λ h. let k = test.0 h in subst (λ z. FalseHere S front z us) (sym e) (subst (λ z. FalseHere S front (and_case b p ds) z) f (false_here b p ds k.0 k.1))),
  (λ j. let k = false_rest S (subst (λ z. FalseHere S front z us) e j) in test.1 (k.1, k.2)),
)

-- ---- if-nest

nest_out : (front rest other : Cases) → NestHere front rest other → IfNest (count front ∷ []) (select (all_cases front rest)) (select (all_cases front other))
nest_out front rest other (nest_here b es ds) = if_nest front es ds b

nest_into : (place : List ℕ) (l r : Tree) → IfNest place l r → IsPlaced NestHere l r
nest_into place l r (if_nest cs es ds b) = record {
  front = cs;
  rest = and_case b (select es) ds;
  other = all_cases (each_case_under b es) (and_case b stop ds);
  left = refl;
  right = refl;
  join = nest_here b es ds;
}

pub nest_placed : (cs ds : Cases) (l r : Tree) → select cs ≡ l → select ds ≡ r → Somewhere NestHere no_case cs ds ↔ ((place : List ℕ) × IfNest place l r)
nest_placed = placed NestHere IfNest nest_out nest_into

nest_rest : {front us ds es : Cases} {b : Exp} → NestHere front (and_case b (select es) ds) us → us ≡ all_cases (each_case_under b es) (and_case b stop ds)
nest_rest (nest_here b es ds) = refl

pub nest_test : (front xs us : Cases) (b : Exp) (p : Tree) (ds es : Cases) (a : Bool) → xs ≡ and_case b p ds → select es ≡ p
    → (IsTrue a ↔ (us ≡ all_cases (each_case_under b es) (and_case b stop ds))) → IsTrue a ↔ NestHere front xs us
nest_test front xs us b p ds es a e f test = (
  (λ h. subst (λ z. NestHere front z us) (sym whole) (subst (λ z. NestHere front (and_case b (select es) ds) z) (sym (test.0 h)) (nest_here b es ds))),
  (λ j. test.1 (nest_rest (subst (λ z. NestHere front z us) whole j))),
)
  where
    whole : xs ≡ and_case b (select es) ds
    whole = e ∙ ap (λ z. and_case b z ds) (sym f)

-- ---- if-swap

swap_out : (S : List (Name × Kind)) (front rest other : Cases) → SwapHere S front rest other → IfSwap S (count front ∷ []) (select (all_cases front rest)) (select (all_cases front other))
swap_out S front rest other (swap_here b c p q ds few exclude) = if_swap front ds b c p q few exclude

swap_into : (S : List (Name × Kind)) (place : List ℕ) (l r : Tree) → IfSwap S place l r → IsPlaced (SwapHere S) l r
swap_into S place l r (if_swap cs ds b c p q few exclude) = record {
  front = cs;
  rest = and_case b p (and_case c q ds);
  other = and_case c q (and_case b p ds);
  left = refl;
  right = refl;
  join = swap_here b c p q ds few exclude;
}

pub swap_placed : (S : List (Name × Kind)) (cs ds : Cases) (l r : Tree) → select cs ≡ l → select ds ≡ r → Somewhere (SwapHere S) no_case cs ds ↔ ((place : List ℕ) × IfSwap S place l r)
swap_placed S = placed (SwapHere S) (IfSwap S) (swap_out S) (swap_into S)

swap_rest : (S : List (Name × Kind)) {front us ds : Cases} {b c : Exp} {p q : Tree} → SwapHere S front (and_case b p (and_case c q ds)) us
    → (us ≡ and_case c q (and_case b p ds)) × AreFew S (b ∷ c ∷ []) × ExcludeEachOther (environment S) b c
swap_rest S (swap_here b c p q ds few exclude) = (refl, few, exclude)

pub swap_test : (S : List (Name × Kind)) (front xs ys us : Cases) (b c : Exp) (p q : Tree) (ds : Cases) (a : Bool) → xs ≡ and_case b p ys → ys ≡ and_case c q ds
    → us ≡ and_case c q (and_case b p ds) → (IsTrue a ↔ (AreFew S (b ∷ c ∷ []) × ExcludeEachOther (environment S) b c)) → IsTrue a ↔ SwapHere S front xs us
swap_test S front xs ys us b c p q ds a e f g test = (
  (λ h. let k = test.0 h in subst (λ z. SwapHere S front z us) (sym whole)
      (subst (λ z. SwapHere S front (and_case b p (and_case c q ds)) z) (sym g) (swap_here b c p q ds k.0 k.1))),
  (λ j. let k = swap_rest S (subst (λ z. SwapHere S front z us) whole j) in test.1 (k.1, k.2)),
)
  where
    whole : xs ≡ and_case b p (and_case c q ds)
    whole = e ∙ ap (and_case b p) f

-- ---- if-merge

merge_out : (front rest other : Cases) → MergeHere front rest other → IfMerge (count front ∷ []) (select (all_cases front rest)) (select (all_cases front other))
merge_out front rest other (merge_here b c p ds) = if_merge front ds b c p

merge_into : (place : List ℕ) (l r : Tree) → IfMerge place l r → IsPlaced MergeHere l r
merge_into place l r (if_merge cs ds b c p) = record {
  front = cs;
  rest = and_case b p (and_case c p ds);
  other = and_case (operation Or b c) p ds;
  left = refl;
  right = refl;
  join = merge_here b c p ds;
}

pub merge_placed : (cs ds : Cases) (l r : Tree) → select cs ≡ l → select ds ≡ r → Somewhere MergeHere no_case cs ds ↔ ((place : List ℕ) × IfMerge place l r)
merge_placed = placed MergeHere IfMerge merge_out merge_into

merge_rest : {front us ds : Cases} {b c : Exp} {p q : Tree} → MergeHere front (and_case b p (and_case c q ds)) us → us ≡ and_case (operation Or b c) p ds
merge_rest (merge_here b c p ds) = refl

pub merge_test : (front xs ys us : Cases) (b c : Exp) (p q : Tree) (ds : Cases) (a : Bool) → xs ≡ and_case b p ys → ys ≡ and_case c q ds → q ≡ p
    → (IsTrue a ↔ (us ≡ and_case (operation Or b c) p ds)) → IsTrue a ↔ MergeHere front xs us
merge_test front xs ys us b c p q ds a e f g test = (
  (λ h. subst (λ z. MergeHere front z us) (sym whole) (subst (λ z. MergeHere front (and_case b p (and_case c p ds)) z) (sym (test.0 h)) (merge_here b c p ds))),
  (λ j. test.1 (merge_rest (subst (λ z. MergeHere front z us) whole j))),
)
  where
    whole : xs ≡ and_case b p (and_case c p ds)
    whole = e ∙ ap (and_case b p) (f ∙ ap (λ z. and_case c z ds) g)

-- ---- the choices of an IF in a choice, under its condition

pub under_step : (d : Exp) (first all xs ys : Cases) (b c : Exp) (p q : Tree) (cs ds : Cases) → xs ≡ and_case b p cs → ys ≡ and_case c q ds → c ≡ operation And d b → p ≡ q
    → ((r : Cases) → (ys ≡ all_cases (each_case_under d xs) r) ↔ (all ≡ all_cases (each_case_under d first) r))
    → (r : Cases) → (ds ≡ all_cases (each_case_under d cs) r) ↔ (all ≡ all_cases (each_case_under d first) r)
under_step d first all xs ys b c p q cs ds e f g h same r = (
  (λ k. (same r).0 (f ∙ choice_is g (sym h) k ∙ ap (λ z. all_cases (each_case_under d z) r) (sym e))),
  (λ k. others (sym f ∙ (same r).1 k ∙ ap (λ z. all_cases (each_case_under d z) r) e)),
)

pub under_differs : (d : Exp) (first all xs ys : Cases) (b c : Exp) (p q : Tree) (cs ds : Cases) → xs ≡ and_case b p cs → ys ≡ and_case c q ds → ((c ≡ operation And d b) × (p ≡ q) → ⊥)
    → ((r : Cases) → (ys ≡ all_cases (each_case_under d xs) r) ↔ (all ≡ all_cases (each_case_under d first) r))
    → (r : Cases) → all ≡ all_cases (each_case_under d first) r → ⊥
under_differs d first all xs ys b c p q cs ds e f differ same r k =
    let u : and_case c q ds ≡ and_case (operation And d b) p (all_cases (each_case_under d cs) r) = sym f ∙ (same r).1 k ∙ ap (λ z. all_cases (each_case_under d z) r) e in
    differ (first_condition u, sym (first_process u))

pub under_ends : (d : Exp) (first all xs ys : Cases) (b : Exp) (p : Tree) (cs : Cases) → xs ≡ and_case b p cs → ys ≡ no_case
    → ((r : Cases) → (ys ≡ all_cases (each_case_under d xs) r) ↔ (all ≡ all_cases (each_case_under d first) r))
    → (r : Cases) → all ≡ all_cases (each_case_under d first) r → ⊥
under_ends d first all xs ys b p cs e f same r k =
    let u : no_case ≡ and_case (operation And d b) p (all_cases (each_case_under d cs) r) = sym f ∙ (same r).1 k ∙ ap (λ z. all_cases (each_case_under d z) r) e in cc

pub under_whole : (d : Exp) (first all xs ys : Cases) → xs ≡ no_case → ((r : Cases) → (ys ≡ all_cases (each_case_under d xs) r) ↔ (all ≡ all_cases (each_case_under d first) r))
    → all ≡ all_cases (each_case_under d first) ys
under_whole d first all xs ys e same = (same ys).0 (ap (λ z. all_cases (each_case_under d z) ys) (sym e))

-- ---- the tests of lists at a place

-- a choice and those behind it keep types
pub first_kept : (Γ : Environment) (front xs : Cases) (b : Exp) (p : Tree) (ds : Cases) → cases_kept (all_cases front xs) Γ ≡ true → xs ≡ and_case b p ds
    → (is_condition Γ b ≡ true) × (types_kept p Γ ≡ true) × (cases_kept ds Γ ≡ true)
first_kept Γ front xs b p ds h e = case_kept Γ b p ds (sym (ap (λ z. cases_kept z Γ) e) ∙ (all_cases_kept Γ front xs h).1)

-- behind the choices of an IF, its condition with STOP, and a list
pub nested_is : (us zs rest : Cases) (d b : Exp) (p : Tree) (ds es : Cases) (a : Bool) → us ≡ all_cases zs rest → rest ≡ and_case b p es → b ≡ d → stop ≡ p → (IsTrue a ↔ (ds ≡ es))
    → IsTrue a ↔ (us ≡ all_cases zs (and_case d stop ds))
nested_is us zs rest d b p ds es a e f g h test = (
  (λ t. e ∙ ap (all_cases zs) (f ∙ choice_is g (sym h) (sym (test.0 t)))),
  (λ k. test.1 (sym (others (sym f ∙ rests_are zs rest (and_case d stop ds) (sym e ∙ k))))),
)

pub nested_ends : (us zs rest : Cases) (d : Exp) (ds : Cases) → us ≡ all_cases zs rest → ((b : Exp) (p : Tree) (es : Cases) → rest ≡ and_case b p es → ⊥)
    → us ≡ all_cases zs (and_case d stop ds) → ⊥
nested_ends us zs rest d ds e never k = never d stop ds (rests_are zs rest (and_case d stop ds) (sym e ∙ k))

pub nested_differs : (us zs rest : Cases) (d b : Exp) (p : Tree) (ds es : Cases) → us ≡ all_cases zs rest → rest ≡ and_case b p es → ((b ≡ d) × (p ≡ stop) → ⊥)
    → us ≡ all_cases zs (and_case d stop ds) → ⊥
nested_differs us zs rest d b p ds es e f differ k =
    let same = sym f ∙ rests_are zs rest (and_case d stop ds) (sym e ∙ k) in
    differ (first_condition same, first_process same)
