-- Comparing two expressions under conditions, by sets of the assignments of a layout.
use Rattle.std.proofs.Common.{◌≡◌, ◌↔◌, ℕ, ◌≤◌, ◌==◌, Bool, true, IsTrue, List, ◌∷◌, refl, sym, ap, ◌∙◌, subst, arith}
use Rattle.std.proofs.lemmas.Bool.{eqb-true, eq-eqb}
use Rattle.occ_dd.specs.occ_base.declared.names.Name.{Name}
use Rattle.occ_dd.specs.occ_base.declared.width.Width.{Width}
use Rattle.occ_dd.specs.Store.{IsSet, IsSubsetAnswer}
use Rattle.occ_dd.specs.declared.set.SetId.{SetId}
use Rattle.occ_dd.specs.declared.store.Store.{Store}
use Rattle.occ_meaning.proofs.Facts.{agreed}
use Rattle.occ_meaning.proofs.Typing.{bits_of_type}
use Rattle.occ_syntax.specs.declared.scope.Kind.{Kind}
use Rattle.occ_syntax.specs.Eval.{bits_of_exp, eval}
use Rattle.occ_syntax.specs.Names.{names, some_names}
use Rattle.occ_syntax.specs.Scopes.{Environment, IsState, Values, environment, variable_width}
use Rattle.occ_syntax.specs.Tree.{Exp}
use Rattle.occ_syntax.specs.Types.{agree, scope_kept, type_of}
use Rattle.occ_bits.specs.Layout.{IsLayout, assignment_of, environment_in, laid_out, state_of}
use Rattle.occ_bits.specs.Named.{IsEqualUnder, all_true, are_conditions, bits_named, named_part}
use Rattle.occ_bits.specs.Words.{IsValue, number_at, value_at}
use Rattle.occ_bits.proofs.Laid.{layout_of}
use Rattle.occ_bits.proofs.Parts.{all_same, conditions_same, in_scope_too, named_in_scope, named_width, or_first, or_second, part_kept, type_same, value_same}
use Rattle.occ_bits.proofs.States.{state_back, state_fits}

-- ---- two expressions of one type
pub same_count : (Γ : Environment) (left right : Exp) → agree (type_of Γ left) (type_of Γ right) ≡ true → bits_of_exp Γ left ≡ bits_of_exp Γ right
same_count Γ left right h = let t = agreed (type_of Γ left) (type_of Γ right) h in bits_of_type Γ left t.0 t.1 ∙ sym (bits_of_type Γ right t.0 t.2)

pub equal_set : (s new : Store) (entries : List (Name × Width × ℕ)) (left right : Exp) (l r : List SetId) (a : SetId) → IsValue s entries left l → IsValue s entries right r → IsSet new a (λ x. number_at s l x == number_at s r x) → IsSet new a (λ x. value_at entries left x == value_at entries right x)
equal_set s new entries left right l r a left_is right_is is = record {
  known = is.known;
  members = λ x. is.members x ∙ ap (λ n. n == number_at s r x) (left_is.number x) ∙ ap (λ n. value_at entries left x == n) (right_is.number x);
}

-- ---- in the layout of the part of the scope that is named
abbrev pub entries_of : List (Name × Kind) → Exp → Exp → List Exp → List (Name × Width × ℕ)
entries_of scope left right under = laid_out 0 (named_part scope (left ∷ right ∷ under))

width_left : (scope : List (Name × Kind)) → scope_kept scope ≡ true → (left right : Exp) (under : List Exp) (y : ℕ) → names left y ≡ true → variable_width (environment_in (entries_of scope left right under)) y ≡ variable_width (environment scope) y
width_left scope kept left right under y h = named_width scope (left ∷ right ∷ under) kept y (or_first (names left y) (some_names (right ∷ under) y) h)

width_right : (scope : List (Name × Kind)) → scope_kept scope ≡ true → (left right : Exp) (under : List Exp) (y : ℕ) → names right y ≡ true → variable_width (environment_in (entries_of scope left right under)) y ≡ variable_width (environment scope) y
width_right scope kept left right under y h = named_width scope (left ∷ right ∷ under) kept y (or_second (names left y) (some_names (right ∷ under) y) (or_first (names right y) (some_names under y) h))

width_under : (scope : List (Name × Kind)) → scope_kept scope ≡ true → (left right : Exp) (under : List Exp) (y : ℕ) → some_names under y ≡ true → variable_width (environment_in (entries_of scope left right under)) y ≡ variable_width (environment scope) y
width_under scope kept left right under y h = named_width scope (left ∷ right ∷ under) kept y (or_second (names left y) (some_names (right ∷ under) y) (or_second (names right y) (some_names under y) h))

pub conditions_there : (scope : List (Name × Kind)) → scope_kept scope ≡ true → (left right : Exp) (under : List Exp) → are_conditions (environment scope) under ≡ true → are_conditions (environment_in (entries_of scope left right under)) under ≡ true
conditions_there scope kept left right under h = conditions_same (environment_in (entries_of scope left right under)) (environment scope) under (width_under scope kept left right under) ∙ h

pub types_there : (scope : List (Name × Kind)) → scope_kept scope ≡ true → (left right : Exp) (under : List Exp) → agree (type_of (environment scope) left) (type_of (environment scope) right) ≡ true → agree (type_of (environment_in (entries_of scope left right under)) left) (type_of (environment_in (entries_of scope left right under)) right) ≡ true
types_there scope kept left right under h =
    let Δ : Environment = environment_in (entries_of scope left right under) in
    ap (λ o. agree o (type_of Δ right)) (type_same Δ (environment scope) left (width_left scope kept left right under))
    ∙ ap (λ o. agree (type_of (environment scope) left) o) (type_same Δ (environment scope) right (width_right scope kept left right under)) ∙ h

-- states that agree on the names that stand in a comparison
pub record AgreeThere (scope : List (Name × Kind)) (left right : Exp) (under : List Exp) (r s : Values) : Type 0 where
  pub all_there : all_true (environment_in (entries_of scope left right under)) under r ≡ all_true (environment scope) under s
  pub left_there : eval (environment_in (entries_of scope left right under)) left r ≡ eval (environment scope) left s
  pub right_there : eval (environment_in (entries_of scope left right under)) right r ≡ eval (environment scope) right s

agree_there : (scope : List (Name × Kind)) → scope_kept scope ≡ true → (left right : Exp) (under : List Exp) (r s : Values) → ((y : ℕ) → some_names (left ∷ right ∷ under) y ≡ true → r y ≡ s y) → AgreeThere scope left right under r s
agree_there scope kept left right under r s same = record {
  all_there = all_same (environment_in (entries_of scope left right under)) (environment scope) r s under (width_under scope kept left right under) (λ y h. same y (or_second (names left y) (some_names (right ∷ under) y) (or_second (names right y) (some_names under y) h)));
  left_there = value_same (environment_in (entries_of scope left right under)) (environment scope) r s left (width_left scope kept left right under) (λ y h. same y (or_first (names left y) (some_names (right ∷ under) y) h));
  right_there = value_same (environment_in (entries_of scope left right under)) (environment scope) r s right (width_right scope kept left right under) (λ y h. same y (or_second (names left y) (some_names (right ∷ under) y) (or_first (names right y) (some_names under y) h)));
}

pub equal_sound : (scope : List (Name × Kind)) → scope_kept scope ≡ true → (left right : Exp) (under : List Exp) → are_conditions (environment scope) under ≡ true → agree (type_of (environment scope) left) (type_of (environment scope) right) ≡ true → bits_named scope (left ∷ right ∷ under) ≤ 24
    → ((x : ℕ) → all_true (environment_in (entries_of scope left right under)) under (state_of (entries_of scope left right under) x) ≡ true → (value_at (entries_of scope left right under) left x == value_at (entries_of scope left right under) right x) ≡ true) → IsEqualUnder (environment scope) under left right
equal_sound scope kept left right under conditions types few holds s state all =
    let es : List (Name × Width × ℕ) = entries_of scope left right under in
    let x : ℕ = assignment_of es s in
    let layout : IsLayout es = layout_of (named_part scope (left ∷ right ∷ under)) (part_kept scope (left ∷ right ∷ under) kept) (omega (arith, few)) in
    let there : IsState (environment_in es) s = λ y w e. state y w (in_scope_too scope (left ∷ right ∷ under) kept y w e) in
    let same : AgreeThere scope left right under (state_of es x) s = agree_there scope kept left right under (state_of es x) s (λ y h.
    let found = named_in_scope (environment scope) left right under conditions types y h in
    state_back es layout s there y found.0 (named_width scope (left ∷ right ∷ under) kept y h ∙ found.1)) in
    sym same.left_there ∙ eqb-true (value_at es left x) (value_at es right x) (holds x (same.all_there ∙ all)) ∙ same.right_there

pub equal_complete : (scope : List (Name × Kind)) → scope_kept scope ≡ true → (left right : Exp) (under : List Exp) → IsEqualUnder (environment scope) under left right
    → (x : ℕ) → all_true (environment_in (entries_of scope left right under)) under (state_of (entries_of scope left right under) x) ≡ true → (value_at (entries_of scope left right under) left x == value_at (entries_of scope left right under) right x) ≡ true
equal_complete scope kept left right under equal x all =
    let es : List (Name × Width × ℕ) = entries_of scope left right under in
    let s : Values = state_of es x in
    let same : AgreeThere scope left right under s s = agree_there scope kept left right under s s (λ y h. refl) in
    let state : IsState (environment scope) s = state_fits es (environment scope) (in_scope_too scope (left ∷ right ∷ under) kept) x in
    eq-eqb (value_at es left x) (value_at es right x) (same.left_there ∙ equal s state (sym same.all_there ∙ all) ∙ sym same.right_there)

pub equal_answer : (scope : List (Name × Kind)) → scope_kept scope ≡ true → (left right : Exp) (under : List Exp) → are_conditions (environment scope) under ≡ true → agree (type_of (environment scope) left) (type_of (environment scope) right) ≡ true → bits_named scope (left ∷ right ∷ under) ≤ 24
    → (entries : List (Name × Width × ℕ)) → entries ≡ entries_of scope left right under → (s : Store) (premise same : SetId) (answer : Bool) → IsSet s premise (λ x. all_true (environment_in entries) under (state_of entries x)) → IsSet s same (λ x. value_at entries left x == value_at entries right x)
    → IsSubsetAnswer s premise same answer → IsTrue answer ↔ IsEqualUnder (environment scope) under left right
equal_answer scope kept left right under conditions types few entries is s premise same answer premise_is same_is subset = (
  λ yes_. equal_sound scope kept left right under conditions types few (subst P is (λ x h. sym (same_is.members x) ∙ subset.sound yes_ x (premise_is.members x ∙ h))),
  λ equal. subset.complete (λ x below h. same_is.members x ∙ subst P (sym is) (equal_complete scope kept left right under equal) x (sym (premise_is.members x) ∙ h)),
)
  where
    P : List (Name × Width × ℕ) → Type 0
    P es = (x : ℕ) → all_true (environment_in es) under (state_of es x) ≡ true → (value_at es left x == value_at es right x) ≡ true
