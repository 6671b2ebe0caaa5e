-- The part of a scope that expressions name, and expressions there.
use Rattle.std.proofs.Common.{◌≡◌, ℕ, ◌-◌, ◌^◌, ◌==◌, Bool, true, false, ◌&&◌, ◌||◌, if◌then◌else◌, cond, List, [], ◌∷◌, Option, Some, None, refl, sym, ap, ◌∙◌, ⊎_elim}
use Rattle.std.specs.Option.{is_none}
use Rattle.std.proofs.lemmas.Bool.{and_from, and_parts, cases_Bool, eqb-true, eq-eqb, or_from}
use Rattle.occ_dd.specs.occ_base.declared.names.Name.{Name}
use Rattle.occ_dd.specs.occ_base.declared.width.Width.{Width}
use Rattle.occ_dd.specs.occ_base.declared.width.Width.TheVariants.{Bool as TruthValue}
use Rattle.occ_meaning.proofs.Facts.{agreed, clash, none_not_some}
use Rattle.occ_meaning.proofs.Typing.{condition_in_scope, names_in_scope}
use Rattle.occ_syntax.specs.declared.scope.Kind.{Kind}
use Rattle.occ_syntax.specs.Eval.{applied, bits_in, bits_of_exp, eval, keeps_width}
use Rattle.occ_syntax.specs.Names.{names, some_names}
use Rattle.occ_syntax.specs.Scopes.{Environment, Values, environment, variable_kind, variable_width}
use Rattle.occ_syntax.specs.Tree.{Exp, variable, numeral, truth, negation, complement, operation}
use Rattle.occ_syntax.specs.Types.{agree, if_truth_value, if_word, is_condition, scope_kept, type_of, type_of_two}
use Rattle.occ_bits.specs.Layout.{environment_in, laid_out}
use Rattle.occ_bits.specs.Named.{all_true, are_conditions, named_part}
use Rattle.occ_bits.proofs.Laid.{laid_width}

-- ---- tests of two parts
pub or_first : (a b : Bool) → a ≡ true → (a || b) ≡ true
or_first a b h = ap (λ c. c || b) h

pub or_second : (a b : Bool) → b ≡ true → (a || b) ≡ true
or_second true b h = refl
or_second false b h = h

-- ---- the part of a scope that is named
part_is_none : (scope : List (Name × Kind)) (es : List Exp) (y : ℕ) → is_none (environment scope y) ≡ true → is_none (environment (named_part scope es) y) ≡ true
part_is_none [] es y h = refl
part_is_none (entry ∷ scope) es y h = ⊎_elim
    (λ (t : (y == entry.0.0) ≡ true). absurd (some_there entry.1 (sym (ap (λ b. is_none (cond b (Some entry.1) (environment scope y))) t) ∙ h)))
    (λ (t : (y == entry.0.0) ≡ false).
    let rest : is_none (environment (named_part scope es) y) ≡ true = part_is_none scope es y (sym (ap (λ b. is_none (cond b (Some entry.1) (environment scope y))) t) ∙ h) in
    choose (some_names es entry.0.0) (ap (λ b. is_none (cond b (Some entry.1) (environment (named_part scope es) y))) t ∙ rest) rest)
    (cases_Bool (y == entry.0.0))
  where
    some_there : (k : Kind) → is_none (Some k) ≡ true → ⊥
    some_there k e = cc

    choose : (b : Bool) → is_none (environment (entry ∷ named_part scope es) y) ≡ true → is_none (environment (named_part scope es) y) ≡ true → is_none (environment (cond b (entry ∷ named_part scope es) (named_part scope es)) y) ≡ true
    choose true h k = h
    choose false h k = k

pub part_kept : (scope : List (Name × Kind)) (es : List Exp) → scope_kept scope ≡ true → scope_kept (named_part scope es) ≡ true
part_kept [] es h = refl
part_kept (entry ∷ scope) es h =
    let parts = and_parts _ _ h in
    let first = and_parts _ _ parts.0 in
    let rest : scope_kept (named_part scope es) ≡ true = part_kept scope es parts.1 in
    choose (some_names es entry.0.0) (and_from _ _ (and_from _ _ (part_is_none scope es entry.0.0 first.0) first.1) rest) rest
  where
    choose : (b : Bool) → scope_kept (entry ∷ named_part scope es) ≡ true → scope_kept (named_part scope es) ≡ true → scope_kept (cond b (entry ∷ named_part scope es) (named_part scope es)) ≡ true
    choose true h k = h
    choose false h k = k

-- a name that is named is in the part what it is in the scope
part_same : (scope : List (Name × Kind)) (es : List Exp) (y : ℕ) → some_names es y ≡ true → environment (named_part scope es) y ≡ environment scope y
part_same [] es y h = refl
part_same (entry ∷ scope) es y h = ⊎_elim
    (λ (t : some_names es entry.0.0 ≡ true). ap (λ b. environment (cond b (entry ∷ named_part scope es) (named_part scope es)) y) t ∙ ap (λ o. cond (y == entry.0.0) (Some entry.1) o) (part_same scope es y h))
    (λ (t : some_names es entry.0.0 ≡ false). ap (λ b. environment (cond b (entry ∷ named_part scope es) (named_part scope es)) y) t ∙ part_same scope es y h ∙ sym (ap (λ b. cond b (Some entry.1) (environment scope y)) (apart t)))
    (cases_Bool (some_names es entry.0.0))
  where
    apart : some_names es entry.0.0 ≡ false → (y == entry.0.0) ≡ false
    apart t = ⊎_elim
        (λ (e : (y == entry.0.0) ≡ true). clash (some_names es y) h (ap (some_names es) (eqb-true _ _ e) ∙ t))
        (λ (e : (y == entry.0.0) ≡ false). e)
        (cases_Bool (y == entry.0.0))

-- and no other name is in the part
part_none : (scope : List (Name × Kind)) (es : List Exp) (y : ℕ) → some_names es y ≡ false → environment (named_part scope es) y ≡ None
part_none [] es y h = refl
part_none (entry ∷ scope) es y h = ⊎_elim
    (λ (t : some_names es entry.0.0 ≡ true). ap (λ b. environment (cond b (entry ∷ named_part scope es) (named_part scope es)) y) t ∙ ap (λ b. cond b (Some entry.1) (environment (named_part scope es) y)) (apart t) ∙ part_none scope es y h)
    (λ (t : some_names es entry.0.0 ≡ false). ap (λ b. environment (cond b (entry ∷ named_part scope es) (named_part scope es)) y) t ∙ part_none scope es y h)
    (cases_Bool (some_names es entry.0.0))
  where
    apart : some_names es entry.0.0 ≡ true → (y == entry.0.0) ≡ false
    apart t = ⊎_elim
        (λ (e : (y == entry.0.0) ≡ true). clash (some_names es y) (ap (some_names es) (eqb-true _ _ e) ∙ t) h)
        (λ (e : (y == entry.0.0) ≡ false). e)
        (cases_Bool (y == entry.0.0))

-- the layout of the part
pub named_width : (scope : List (Name × Kind)) (es : List Exp) → scope_kept scope ≡ true → (y : ℕ) → some_names es y ≡ true → variable_width (environment_in (laid_out 0 (named_part scope es))) y ≡ variable_width (environment scope) y
named_width scope es kept y h = laid_width 0 (named_part scope es) y (part_kept scope es kept) ∙ ap variable_kind (part_same scope es y h)

pub in_scope_too : (scope : List (Name × Kind)) (es : List Exp) → scope_kept scope ≡ true → (y : ℕ) (w : Width) → variable_width (environment_in (laid_out 0 (named_part scope es))) y ≡ Some w → variable_width (environment scope) y ≡ Some w
in_scope_too scope es kept y w e = ⊎_elim
    (λ (t : some_names es y ≡ true). sym (named_width scope es kept y t) ∙ e)
    (λ (t : some_names es y ≡ false). none_not_some (sym (ap variable_kind (part_none scope es y t)) ∙ sym (laid_width 0 (named_part scope es) y (part_kept scope es kept)) ∙ e))
    (cases_Bool (some_names es y))

-- ---- expressions where their names have the same widths and values
pub type_same : (Γ Δ : Environment) (e : Exp) → ((y : ℕ) → names e y ≡ true → variable_width Γ y ≡ variable_width Δ y) → type_of Γ e ≡ type_of Δ e
type_same Γ Δ (variable x) same = same x (eq-eqb x x refl)
type_same Γ Δ (numeral bits value) same = refl
type_same Γ Δ (truth b) same = refl
type_same Γ Δ (negation e) same = ap if_truth_value (type_same Γ Δ e same)
type_same Γ Δ (complement e) same = ap if_word (type_same Γ Δ e same)
type_same Γ Δ (operation op left right) same =
    ap (λ o. type_of_two op o (type_of Γ right)) (type_same Γ Δ left (λ y h. same y (or_first (names left y) (names right y) h)))
    ∙ ap (λ o. type_of_two op (type_of Δ left) o) (type_same Γ Δ right (λ y h. same y (or_second (names left y) (names right y) h)))

bits_same : (Γ Δ : Environment) (e : Exp) → ((y : ℕ) → names e y ≡ true → variable_width Γ y ≡ variable_width Δ y) → bits_of_exp Γ e ≡ bits_of_exp Δ e
bits_same Γ Δ (variable x) same = ap bits_in (same x (eq-eqb x x refl))
bits_same Γ Δ (numeral bits value) same = refl
bits_same Γ Δ (truth b) same = refl
bits_same Γ Δ (negation e) same = refl
bits_same Γ Δ (complement e) same = bits_same Γ Δ e same
bits_same Γ Δ (operation op left right) same = ap (λ n. if keeps_width op then n else 1) (bits_same Γ Δ left (λ y h. same y (or_first (names left y) (names right y) h)))

pub value_same : (Γ Δ : Environment) (r s : Values) (e : Exp) → ((y : ℕ) → names e y ≡ true → variable_width Γ y ≡ variable_width Δ y) → ((y : ℕ) → names e y ≡ true → r y ≡ s y) → eval Γ e r ≡ eval Δ e s
value_same Γ Δ r s (variable x) widths values = values x (eq-eqb x x refl)
value_same Γ Δ r s (numeral bits value) widths values = refl
value_same Γ Δ r s (truth b) widths values = refl
value_same Γ Δ r s (negation e) widths values = ap (λ n. 1 - n) (value_same Γ Δ r s e widths values)
value_same Γ Δ r s (complement e) widths values = ap (λ n. 2 ^ n - 1 - eval Γ e r) (bits_same Γ Δ e widths) ∙ ap (λ n. 2 ^ bits_of_exp Δ e - 1 - n) (value_same Γ Δ r s e widths values)
value_same Γ Δ r s (operation op left right) widths values =
    ap (λ n. applied op n (eval Γ left r) (eval Γ right r)) (bits_same Γ Δ left (λ y h. widths y (or_first (names left y) (names right y) h)))
    ∙ ap (λ n. applied op (bits_of_exp Δ left) n (eval Γ right r)) (value_same Γ Δ r s left (λ y h. widths y (or_first (names left y) (names right y) h)) (λ y h. values y (or_first (names left y) (names right y) h)))
    ∙ ap (λ n. applied op (bits_of_exp Δ left) (eval Δ left s) n) (value_same Γ Δ r s right (λ y h. widths y (or_second (names left y) (names right y) h)) (λ y h. values y (or_second (names left y) (names right y) h)))

pub all_same : (Γ Δ : Environment) (r s : Values) (es : List Exp) → ((y : ℕ) → some_names es y ≡ true → variable_width Γ y ≡ variable_width Δ y) → ((y : ℕ) → some_names es y ≡ true → r y ≡ s y) → all_true Γ es r ≡ all_true Δ es s
all_same Γ Δ r s [] widths values = refl
all_same Γ Δ r s (e ∷ es) widths values =
    ap (λ n. n == 1 && all_true Γ es r) (value_same Γ Δ r s e (λ y h. widths y (or_first (names e y) (some_names es y) h)) (λ y h. values y (or_first (names e y) (some_names es y) h)))
    ∙ ap (λ b. eval Δ e s == 1 && b) (all_same Γ Δ r s es (λ y h. widths y (or_second (names e y) (some_names es y) h)) (λ y h. values y (or_second (names e y) (some_names es y) h)))

pub conditions_same : (Γ Δ : Environment) (es : List Exp) → ((y : ℕ) → some_names es y ≡ true → variable_width Γ y ≡ variable_width Δ y) → are_conditions Γ es ≡ are_conditions Δ es
conditions_same Γ Δ [] widths = refl
conditions_same Γ Δ (e ∷ es) widths =
    ap (λ o. agree o (Some TruthValue) && are_conditions Γ es) (type_same Γ Δ e (λ y h. widths y (or_first (names e y) (some_names es y) h)))
    ∙ ap (λ b. is_condition Δ e && b) (conditions_same Γ Δ es (λ y h. widths y (or_second (names e y) (some_names es y) h)))

conditions_in_scope : (Γ : Environment) (y : ℕ) → variable_width Γ y ≡ None → (es : List Exp) → are_conditions Γ es ≡ true → some_names es y ≡ false
conditions_in_scope Γ y k [] h = refl
conditions_in_scope Γ y k (e ∷ es) h =
    let parts = and_parts (is_condition Γ e) (are_conditions Γ es) h in
    or_from (names e y) (some_names es y) (condition_in_scope Γ y k e parts.0) (conditions_in_scope Γ y k es parts.1)

-- all names of a comparison are variables
pub named_in_scope : (Γ : Environment) (left right : Exp) (under : List Exp) → are_conditions Γ under ≡ true → agree (type_of Γ left) (type_of Γ right) ≡ true → (y : ℕ) → some_names (left ∷ right ∷ under) y ≡ true → (w : Width) × (variable_width Γ y ≡ Some w)
named_in_scope Γ left right under conditions types y h = each (variable_width Γ y) refl
  where
    each : (o : Option Width) → variable_width Γ y ≡ o → (w : Width) × (o ≡ Some w)
    each None k =
        let t = agreed (type_of Γ left) (type_of Γ right) types in
        clash (some_names (left ∷ right ∷ under) y) h
        (or_from (names left y) (some_names (right ∷ under) y) (names_in_scope Γ y k left t.0 t.1) (or_from (names right y) (some_names under y) (names_in_scope Γ y k right t.0 t.2) (conditions_in_scope Γ y k under conditions)))
    each (Some w) k = (w, refl)
