-- The conditions of the initial states: what they name, that one of them holds, and what holds where one does.
use Rattle.std.proofs.Common.{◌≡◌, ◌∙◌, ◌++◌, ◌==◌, ◌+◌, ◌<◌, ◌≤◌, ◌^◌, ◌||◌, ℕ, zero, suc, Bool, cond, false, true, List, [], ◌∷◌, refl, sym, subst, inl, inr, arith}
use Rattle.std.proofs.lemmas.Bool.{and_from, cases_lt, eqb-false, eqb-true, eq-eqb, lt-ltb, or_cases, or_left, or_right}
use Rattle.std.specs.List.{AllByRecursion}
use Rattle.occ_engine.specs.occ_base.declared.names.Name.{Name}
use Rattle.occ_engine.specs.occ_base.declared.width.Width.{Width}
use Rattle.occ_engine.specs.occ_base.Width.{bits_of}
use Rattle.occ_complete_states.specs.occ_behaviour.States.{is_state}
use Rattle.occ_engine.specs.occ_bits.Named.{bits_named, named_part}
use Rattle.occ_complete_states.proofs.Facts.{IsHeld, constant_unnamed}
use Rattle.occ_engine.specs.occ_law.States.{AreFew, some_true}
use Rattle.occ_engine.proofs.from_meaning.Facts.{false_not_true, true_not_false}
use Rattle.occ_complete_states.specs.occ_nform_table.Lines.{state_place}
use Rattle.occ_complete_states.specs.occ_nform_table.Texts.{state_at_place}
use Rattle.occ_complete_states.proofs.from_nform_table.PlaceNames.{place_is_state, place_there}
use Rattle.occ_complete_states.proofs.from_nform_table.States.{place_below, same_state}
use Rattle.occ_engine.specs.occ_syntax.declared.expr.Op.TheVariants.{And}
use Rattle.occ_engine.specs.occ_syntax.declared.scope.Kind.{Kind}
use Rattle.occ_engine.specs.occ_syntax.declared.scope.Kind.TheVariants.{Chan, Var}
use Rattle.occ_engine.specs.occ_syntax.Counts.{bits_of_kind, bits_of_scope}
use Rattle.occ_engine.specs.occ_syntax.Eval.{is_true}
use Rattle.occ_engine.specs.occ_syntax.Names.{is_in, names, some_names}
use Rattle.occ_engine.specs.occ_syntax.Scopes.{Environment, Values}
use Rattle.occ_engine.specs.occ_syntax.Tree.{Exp, operation, variable}
use Rattle.occ_complete_states.specs.occ_target.States.{all_true, condition, constant, joined, tests, variables}
use Rattle.occ_complete_states.proofs.from_target_laws.Initial.{Holds, true_only, true_there}

-- ---- what conditions name

-- expressions name variables of this scope alone
abbrev pub NameOwn : List (Name × Kind) → List Exp → Type 0
NameOwn S es = (x : ℕ) → some_names es x ≡ true → is_in (variables S) x ≡ true

pub own_more : (S : List (Name × Kind)) (e : Exp) (es : List Exp) → ((x : ℕ) → names e x ≡ true → is_in (variables S) x ≡ true) → NameOwn S es → NameOwn S (e ∷ es)
own_more S e es f g x h = elim (or_cases (names e x) (some_names es x) h) [ inl i ↦ f x i | inr i ↦ g x i ]

pub variable_own : (S : List (Name × Kind)) (y : ℕ) → is_in (variables S) y ≡ true → (x : ℕ) → names (variable y) x ≡ true → is_in (variables S) x ≡ true
variable_own S y h x e = subst (λ z. is_in (variables S) z ≡ true) (sym (same x y e)) h
  where
    same : (x y : ℕ) → (x == y) ≡ true → x ≡ y
    same x y e = eqb-true x y e

pub constant_own : (S : List (Name × Kind)) (w : Width) (v x : ℕ) → names (constant w v) x ≡ true → is_in (variables S) x ≡ true
constant_own S w v x e = true_not_false (sym e ∙ constant_unnamed w v x)

tests_own : (S : List (Name × Kind)) (state : List (Name × ℕ)) → NameOwn S (tests S state)
tests_own [] state x h = false_not_true h
tests_own ((name, Chan w d) ∷ S) state x h = tests_own S state x h
tests_own ((name, Var w) ∷ S) [] x h = false_not_true h
tests_own ((name, Var w) ∷ S) (v ∷ state) x h =
    elim (or_cases ((x == name.0) || names (constant w v.1) x) (some_names (tests S state) x) h) [
      | inl i ↦ elim (or_cases (x == name.0) (names (constant w v.1) x) i) [
        | inl j ↦ or_left (x == name.0) (is_in (variables S) x) j
        | inr j ↦ true_not_false (sym j ∙ constant_unnamed w v.1 x)
      ]
      | inr i ↦ or_right (x == name.0) (is_in (variables S) x) (tests_own S state x i)
    ]

joined_names : (e : Exp) (fs : List Exp) (x : ℕ) → names (joined e fs) x ≡ true → (names e x || some_names fs x) ≡ true
joined_names e [] x h = or_left (names e x) false h
joined_names e (f ∷ fs) x h =
    elim (or_cases (names e x || names f x) (some_names fs x) (joined_names (operation And e f) fs x h)) [
      | inl i ↦ elim (or_cases (names e x) (names f x) i) [
        | inl j ↦ or_left (names e x) (some_names (f ∷ fs) x) j
        | inr j ↦ or_right (names e x) (some_names (f ∷ fs) x) (or_left (names f x) (some_names fs x) j)
      ]
      | inr i ↦ or_right (names e x) (some_names (f ∷ fs) x) (or_right (names f x) (some_names fs x) i)
    ]

all_names : (es : List Exp) (x : ℕ) → names (all_true es) x ≡ true → some_names es x ≡ true
all_names [] x h = false_not_true h
all_names (e ∷ es) x h = joined_names e es x h

pub condition_own : (S : List (Name × Kind)) (state : List (Name × ℕ)) (x : ℕ) → names (condition S state) x ≡ true → is_in (variables S) x ≡ true
condition_own S state x h = tests_own S state x (all_names (tests S state) x h)

-- ---- they are few

-- expressions that name none of the last variables name no more bits than the first ones have
abbrev pub AreOthers : List (Name × Kind) → List Exp → Type 0
AreOthers I es = AllByRecursion (λ (t : Name × Kind). some_names es t.0.0 ≡ false) I

no_bits : (I : List (Name × Kind)) (es : List Exp) → AreOthers I es → bits_named I es ≤ 0
no_bits [] es all = omega arith
no_bits (t ∷ I) es all =
    subst (λ b. bits_of_scope (cond b (t ∷ named_part I es) (named_part I es)) ≤ 0) (sym all.0) (no_bits I es all.1)

own_bits : (S I : List (Name × Kind)) (es : List Exp) → AreOthers I es → bits_named (S ++ I) es ≤ bits_of_scope S
own_bits [] I es all = no_bits I es all
own_bits (s ∷ S) I es all = at (some_names es s.0.0) (own_bits S I es all)
  where
    at : (b : Bool) → bits_named (S ++ I) es ≤ bits_of_scope S
        → bits_of_scope (cond b (s ∷ named_part (S ++ I) es) (named_part (S ++ I) es)) ≤ bits_of_kind s.1 + bits_of_scope S
    at true l = omega (arith, l)
    at false l = omega (arith, l)

none_own : (S : List (Name × Kind)) (I : List (Name × Kind)) (es : List Exp) → AllByRecursion (λ (t : Name × Kind). is_in (variables S) t.0.0 ≡ false) I
    → NameOwn S es → AreOthers I es
none_own S [] es all own = tt
none_own S (t ∷ I) es all own = (at (some_names es t.0.0) refl, none_own S I es all.1 own)
  where
    at : (b : Bool) → some_names es t.0.0 ≡ b → b ≡ false
    at true e = true_not_false (sym (own t.0.0 e) ∙ all.0)
    at false e = refl

pub own_few : (S I : List (Name × Kind)) (es : List Exp) → AllByRecursion (λ (t : Name × Kind). is_in (variables S) t.0.0 ≡ false) I
    → bits_of_scope S ≤ 16 → NameOwn S es → AreFew (S ++ I) es
own_few S I es all less own = let bits = own_bits S I es (none_own S I es all own) in omega (arith, bits, less)

-- ---- one of them holds

-- what a state of the scope says of its variables
abbrev state_from : List (Name × Kind) → Values → List (Name × ℕ)
state_from [] s = []
state_from ((name, Chan w d) ∷ S) s = state_from S s
state_from ((name, Var w) ∷ S) s = (name, s name.0) ∷ state_from S s

from_is_state : (S : List (Name × Kind)) (s : Values) → AllByRecursion (IsHeld s) S → is_state S (state_from S s) ≡ true
from_is_state [] s all = refl
from_is_state ((name, Chan w d) ∷ S) s all = from_is_state S s all.1
from_is_state ((name, Var w) ∷ S) s all =
    and_from _ _ (and_from _ _ (eq-eqb name.0 name.0 refl) (lt-ltb (s name.0) (2 ^ bits_of w) all.0)) (from_is_state S s all.1)

from_holds : (S : List (Name × Kind)) (s : Values) → Holds S (state_from S s) s
from_holds [] s = tt
from_holds ((name, Chan w d) ∷ S) s = from_holds S s
from_holds ((name, Var w) ∷ S) s = (refl, from_holds S s)

pub record IsPlaced (S : List (Name × Kind)) (s : Values) : Type 0 where
  pub place : ℕ
  pub below : place < 2 ^ bits_of_scope S
  pub holds : Holds S (state_at_place S place) s

pub placed : (S : List (Name × Kind)) (s : Values) → AllByRecursion (IsHeld s) S → IsPlaced S s
placed S s all =
    let is = from_is_state S s all in
    let k = state_place S (state_from S s) in
    let low = place_below S (state_from S s) is in
    let same : state_at_place S k ≡ state_from S s = same_state S (state_at_place S k) (state_from S s) (place_is_state S k) is (place_there S k low) in
    record { place = k; below = low; holds = subst (λ u. Holds S u s) (sym same) (from_holds S s) }

-- where the condition of a state holds, so does the state
pub true_holds : (Γ : Environment) (S : List (Name × Kind)) (s : Values) (k : ℕ) → AllByRecursion (IsHeld s) S → k < 2 ^ bits_of_scope S
    → is_true Γ (condition S (state_at_place S k)) s ≡ true → Holds S (state_at_place S k) s
true_holds Γ S s k all low t =
    let p = placed S s all in
    let same : k ≡ p.place = true_only Γ s S p.place k p.below low p.holds t in
    subst (λ j. Holds S (state_at_place S j) s) (sym same) p.holds

pub holds_same : (S : List (Name × Kind)) (state : List (Name × ℕ)) (s r : Values) → Holds S state s → Holds S state r → (x : ℕ) → is_in (variables S) x ≡ true → s x ≡ r x
holds_same [] state s r f g x h = false_not_true h
holds_same ((name, Chan w d) ∷ S) state s r f g x h = holds_same S state s r f g x h
holds_same ((name, Var w) ∷ S) [] s r f g x h = absurd f
holds_same ((name, Var w) ∷ S) (v ∷ state) s r f g x h =
    elim (or_cases (x == name.0) (is_in (variables S) x) h) [
      | inl i ↦ subst (λ z. s z ≡ r z) (sym (eqb-true x name.0 i)) (f.0 ∙ sym g.0)
      | inr i ↦ holds_same S state s r f.1 g.1 x i
    ]

-- the conditions of some states in their order
abbrev pub tests_from : (ℕ → Exp) → ℕ → ℕ → List Exp
tests_from test k zero = []
tests_from test k (suc m) = test k ∷ tests_from test (k + 1) m

some_from : (Γ : Environment) (test : ℕ → Exp) (s : Values) (k m j : ℕ) → k ≤ j → j < k + m → is_true Γ (test j) s ≡ true → some_true Γ (tests_from test k m) s ≡ true
some_from Γ test s k zero j low high t = absurd (omega (arith, low, high))
some_from Γ test s k (suc m) j low high t = at (j == k) refl (λ other. some_from Γ test s (k + 1) m j other (omega (arith, high)) t)
  where
    above : (j k : ℕ) → k ≤ j → (j ≡ k → ⊥) → k + 1 ≤ j
    above j k low off = elim (cases_lt k j) [ inl l ↦ omega (arith, l) | inr l ↦ absurd (off (omega (arith, low, l))) ]

    at : (b : Bool) → (j == k) ≡ b → (k + 1 ≤ j → some_true Γ (tests_from test (k + 1) m) s ≡ true) → some_true Γ (tests_from test k (suc m)) s ≡ true
    at true e ih =
        or_left (is_true Γ (test k) s) (some_true Γ (tests_from test (k + 1) m) s) (subst (λ z. is_true Γ (test z) s ≡ true) (eqb-true j k e) t)
    at false e ih = or_right (is_true Γ (test k) s) (some_true Γ (tests_from test (k + 1) m) s) (ih (above j k low (eqb-false j k e)))

pub states_exhaustive : (Γ : Environment) (S : List (Name × Kind)) (s : Values) → AllByRecursion (IsHeld s) S
    → some_true Γ (tests_from (λ k. condition S (state_at_place S k)) 0 (2 ^ bits_of_scope S)) s ≡ true
states_exhaustive Γ S s all =
    let p = placed S s all in
    let low = p.below in
    some_from Γ (λ k. condition S (state_at_place S k)) s 0 (2 ^ bits_of_scope S) p.place (omega arith) (omega (arith, low)) (true_there Γ s S p.place p.holds)
