-- States as assignments: what they keep, what they tell of an expression.
use Rattle.std.proofs.Common.{arith, ◌≡◌, ◌∙◌, ℕ, ◌<◌, ◌^◌, Bool, true, false, ◌||◌, ◌&&◌, ◌⊎◌, inl, inr, cond, eqb, nat_lt, ◌==◌, if◌then◌else◌, List, [], ◌∷◌, ◌++◌, Option, Some, None, is_none, refl, sym, ap, subst}
use Rattle.std.proofs.lemmas.Bool.{and_from, and_parts, eqb-true, eq-eqb, lt-ltb, or_cases, or_from}
use Rattle.std.specs.List.{AllByRecursion}
use Rattle.occ_derive_laws.specs.occ_base.declared.names.Name.{Name}
use Rattle.occ_derive_laws.specs.occ_base.declared.width.Width.{Width}
use Rattle.occ_derive_laws.specs.occ_base.declared.width.Width.TheVariants.{Bool as Truth, Word}
use Rattle.occ_derive_laws.specs.occ_base.Width.{bits_of}
use Rattle.occ_derive_laws.proofs.Rows.{unnamed_few}
use Rattle.occ_derive_laws.proofs.Opened.{agree_both}
use Rattle.occ_derive_laws.proofs.Pairs.{and_pair, assign_keeps}
use Rattle.occ_derive_laws.specs.Alike.{AreVariables, IsAlike, IsOnce}
use Rattle.occ_complete_states.specs.States.{facts, told}
use Rattle.occ_complete_states.specs.Telling.{IsTold}
use Rattle.occ_derive_laws.specs.occ_law.States.{AreFew}
use Rattle.occ_derive_laws.proofs.from_meaning.Facts.{at_itself, false_not_true, if_true, none_not_some, some_is}
use Rattle.occ_derive_laws.proofs.from_meaning.Named.{eval_by_names}
use Rattle.occ_derive_laws.proofs.from_meaning.Substituting.{substituted_gone, substituted_names, substituted_type, substituted_value}
use Rattle.occ_derive_laws.proofs.from_meaning.Typing.{eval_below, names_in_scope}
use Rattle.occ_derive_laws.specs.occ_meaning.Substitution.{substituted}
use Rattle.occ_derive_laws.specs.occ_syntax.declared.scope.Kind.{Kind}
use Rattle.occ_derive_laws.specs.occ_syntax.declared.scope.Kind.TheVariants.{Chan, Var}
use Rattle.occ_derive_laws.specs.occ_syntax.Eval.{eval}
use Rattle.occ_derive_laws.specs.occ_syntax.Meaning.{assigned}
use Rattle.occ_derive_laws.specs.occ_syntax.Names.{is_in, names, some_names}
use Rattle.occ_derive_laws.specs.occ_syntax.Scopes.{Environment, IsState, Values, environment, variable_kind, variable_width, with_value}
use Rattle.occ_derive_laws.specs.occ_syntax.Tree.{Exp, assign}
use Rattle.occ_derive_laws.specs.occ_syntax.Types.{agree, can_declare, is_pair, is_width, pairs_kept, scope_kept, type_of, width_of_kind}
use Rattle.occ_derive_laws.specs.occ_syntax.Usage.{Keeps}
use Rattle.occ_derive_laws.specs.occ_target.States.{constant, variables}
use Rattle.occ_derive_laws.proofs.from_target_laws.Following.{constant_value}

-- ---- entries of scopes

-- the scope says of the name what the entry says
abbrev pub IsListed : Environment → Name × Kind → Type 0
IsListed Γ e = Γ e.0.0 ≡ Some e.1

abbrev pub IsWide : Name × Kind → Type 0
IsWide e = is_width (width_of_kind e.1) ≡ true

-- the state gives the variable a value of its width
abbrev pub IsHeld : Values → Name × Kind → Type 0
IsHeld s (name, Var w) = s name.0 < 2 ^ bits_of w
IsHeld s (name, Chan w d) = Unit {0}

not_same : (Γ : Environment) (x y : ℕ) (k : Kind) → Γ x ≡ Some k → Γ y ≡ None → eqb x y ≡ false
not_same Γ x y k e f = at (eqb x y) refl
  where
    at : (b : Bool) → eqb x y ≡ b → b ≡ false
    at true g = none_not_some (sym f ∙ (ap Γ (sym (eqb-true x y g)) ∙ e))
    at false g = refl

listed_more : (t : Name × Kind) (T U : List (Name × Kind)) → environment T t.0.0 ≡ None → AllByRecursion (IsListed (environment T)) U
    → AllByRecursion (IsListed (environment (t ∷ T))) U
listed_more t T [] n all = tt
listed_more t T (u ∷ U) n all =
    (ap (λ b. cond b (Some t.1) (environment T u.0.0)) (not_same (environment T) u.0.0 t.0.0 u.1 all.0 n) ∙ all.0, listed_more t T U n all.1)

none_is : {A : Type 0} (o : Option A) → is_none o ≡ true → o ≡ None
none_is None e = refl
none_is (Some a) e = false_not_true e

pub new_first : (t : Name × Kind) (T : List (Name × Kind)) → scope_kept (t ∷ T) ≡ true → environment T t.0.0 ≡ None
new_first t T h =
    let p = and_parts (can_declare (environment T) t.0.0 (width_of_kind t.1)) (scope_kept T) h in
    none_is (environment T t.0.0) (and_parts (is_none (environment T t.0.0)) (is_width (width_of_kind t.1)) p.0).0

pub kept_rest : (t : Name × Kind) (T : List (Name × Kind)) → scope_kept (t ∷ T) ≡ true → scope_kept T ≡ true
kept_rest t T h = (and_parts (can_declare (environment T) t.0.0 (width_of_kind t.1)) (scope_kept T) h).1

pub all_listed : (T : List (Name × Kind)) → scope_kept T ≡ true → AllByRecursion (IsListed (environment T)) T
all_listed [] h = tt
all_listed (t ∷ T) h =
    (ap (λ b. cond b (Some t.1) (environment T t.0.0)) (eq-eqb t.0.0 t.0.0 refl), listed_more t T T (new_first t T h) (all_listed T (kept_rest t T h)))

pub all_wide : (T : List (Name × Kind)) → scope_kept T ≡ true → AllByRecursion IsWide T
all_wide [] h = tt
all_wide (t ∷ T) h =
    let p = and_parts (can_declare (environment T) t.0.0 (width_of_kind t.1)) (scope_kept T) h in
    ((and_parts (is_none (environment T t.0.0)) (is_width (width_of_kind t.1)) p.0).1, all_wide T p.1)

pub all_held : (Γ : Environment) (U : List (Name × Kind)) (s : Values) → IsState Γ s → AllByRecursion (IsListed Γ) U → AllByRecursion (IsHeld s) U
all_held Γ [] s i all = tt
all_held Γ ((name, Chan w d) ∷ U) s i all = (tt, all_held Γ U s i all.1)
all_held Γ ((name, Var w) ∷ U) s i all = (i name.0 w (ap variable_kind all.0), all_held Γ U s i all.1)

-- ---- variables of a scope

known_later : (b : Bool) (k : Kind) (o : Option Kind) → is_none o ≡ false → is_none (cond b (Some k) o) ≡ false
known_later true k o e = refl
known_later false k o e = e

known_first : (b : Bool) (k : Kind) (o : Option Kind) → b ≡ true → is_none (cond b (Some k) o) ≡ false
known_first true k o e = refl
known_first false k o e = false_not_true e

pub variable_known : (A : List (Name × Kind)) (x : ℕ) → is_in (variables A) x ≡ true → is_none (environment A x) ≡ false
variable_known [] x e = false_not_true e
variable_known ((name, Chan w d) ∷ A) x e = known_later (eqb x name.0) (Chan w d) (environment A x) (variable_known A x e)
variable_known ((name, Var w) ∷ A) x e = at (λ f. variable_known A x f) (or_cases (x == name.0) (is_in (variables A) x) e)
  where
    at : (is_in (variables A) x ≡ true → is_none (environment A x) ≡ false) → (eqb x name.0 ≡ true) ⊎ (is_in (variables A) x ≡ true)
        → is_none (cond (eqb x name.0) (Some (Var w)) (environment A x)) ≡ false
    at further (inl f) = known_first (eqb x name.0) (Var w) (environment A x) f
    at further (inr f) = known_later (eqb x name.0) (Var w) (environment A x) (further f)

pub not_variable : (A : List (Name × Kind)) (x : ℕ) → environment A x ≡ None → is_in (variables A) x ≡ false
not_variable A x n = at (is_in (variables A) x) refl
  where
    both : (b : Bool) → b ≡ true → b ≡ false → ⊥
    both true e f = cc
    both false e f = cc

    at : (b : Bool) → is_in (variables A) x ≡ b → b ≡ false
    at true e = absurd (both (is_none (environment A x)) (ap is_none n) (variable_known A x e))
    at false e = refl

-- what isn't listed as a variable has no width
pub no_width : (A : List (Name × Kind)) (x : ℕ) → is_in (variables A) x ≡ false → variable_width (environment A) x ≡ None
no_width [] x e = refl
no_width ((name, Chan w d) ∷ A) x e = skip (eqb x name.0) (environment A x) (no_width A x e)
  where
    skip : (b : Bool) (o : Option Kind) → variable_kind o ≡ None → variable_kind (cond b (Some (Chan w d)) o) ≡ None
    skip true o f = refl
    skip false o f = f
no_width ((name, Var w) ∷ A) x e = skip (eqb x name.0) (is_in (variables A) x) (environment A x) e (λ f. no_width A x f)
  where
    skip : (b c : Bool) (o : Option Kind) → (b || c) ≡ false → (c ≡ false → variable_kind o ≡ None) → variable_kind (cond b (Some (Var w)) o) ≡ None
    skip true c o f g = false_not_true (sym f)
    skip false c o f g = g f

-- ---- the assignment of a state

pub constant_type : (Γ : Environment) (w : Width) (v : ℕ) → is_width w ≡ true → v < 2 ^ bits_of w → type_of Γ (constant w v) ≡ Some w
constant_type Γ Truth v k h = refl
constant_type Γ (Word bits) v k h =
    if_true (is_width (Word bits) && nat_lt v (2 ^ bits)) (Some (Word bits)) None
    (and_from (is_width (Word bits)) (nat_lt v (2 ^ bits)) k (lt-ltb v (2 ^ bits) h))

pub facts_kept : (Γ : Environment) (U : List (Name × Kind)) (s : Values) → scope_kept U ≡ true → AllByRecursion (IsListed Γ) U → AllByRecursion (IsHeld s) U
    → pairs_kept Γ (variables U) (facts U s) ≡ true
facts_kept Γ [] s h l held = refl
facts_kept Γ ((name, Chan w d) ∷ U) s h l held = facts_kept Γ U s (kept_rest (name, Chan w d) U h) l.1 held.1
facts_kept Γ ((name, Var w) ∷ U) s h l held =
    and_pair Γ name.0 (variables U) (constant w (s name.0)) (facts U s) (record {
      typed = agree_both (variable_width Γ name.0) (type_of Γ (constant w (s name.0))) w (ap variable_kind l.0) (constant_type Γ w (s name.0) (all_wide ((name, Var w) ∷ U) h).0 held.0);
      once = not_variable U name.0 (new_first (name, Var w) U h);
      rest = facts_kept Γ U s (kept_rest (name, Var w) U h) l.1 held.1;
    })

pub state_kept : (T : List (Name × Kind)) (s : Values) → scope_kept T ≡ true → IsState (environment T) s → pairs_kept (environment T) (variables T) (facts T s) ≡ true
state_kept T s h i = facts_kept (environment T) T s h (all_listed T h) (all_held (environment T) T s i (all_listed T h))

pub told_keeps : (T : List (Name × Kind)) (s : Values) → IsTold T s → Keeps (environment T) (told T s)
told_keeps T s i = assign_keeps (environment T) (variables T) (facts T s) i.filled (state_kept T s i.scope i.state)

-- the variables of a scope, each once
pub scope_variables : (Γ : Environment) (U : List (Name × Kind)) → scope_kept U ≡ true → AllByRecursion (IsListed Γ) U → AreVariables Γ (variables U)
scope_variables Γ [] h l = tt
scope_variables Γ ((name, Chan w d) ∷ U) h l = scope_variables Γ U (kept_rest (name, Chan w d) U h) l.1
scope_variables Γ ((name, Var w) ∷ U) h l =
    ((w, ap variable_kind l.0), not_variable U name.0 (new_first (name, Var w) U h), scope_variables Γ U (kept_rest (name, Var w) U h) l.1)

pub scope_once : (U : List (Name × Kind)) → scope_kept U ≡ true → IsOnce (variables U)
scope_once [] h = tt
scope_once ((name, Chan w d) ∷ U) h = scope_once U (kept_rest (name, Chan w d) U h)
scope_once ((name, Var w) ∷ U) h = (not_variable U name.0 (new_first (name, Var w) U h), scope_once U (kept_rest (name, Var w) U h))

-- ---- constants name nothing

pub constant_unnamed : (w : Width) (v x : ℕ) → names (constant w v) x ≡ false
constant_unnamed Truth v x = refl
constant_unnamed (Word bits) v x = refl

pub facts_unnamed : (U : List (Name × Kind)) (s : Values) (x : ℕ) → some_names (facts U s) x ≡ false
facts_unnamed [] s x = refl
facts_unnamed ((name, Chan w d) ∷ U) s x = facts_unnamed U s x
facts_unnamed ((name, Var w) ∷ U) s x = or_from (names (constant w (s name.0)) x) (some_names (facts U s) x) (constant_unnamed w (s name.0) x) (facts_unnamed U s x)

-- behind it each variable has its value
pub facts_hold : (Γ : Environment) (U : List (Name × Kind)) (s st : Values) (x : ℕ) → AllByRecursion (IsHeld s) U → is_in (variables U) x ≡ true
    → assigned (variables U) (facts U s) Γ st x ≡ s x
facts_hold Γ [] s st x held e = false_not_true e
facts_hold Γ ((name, Chan w d) ∷ U) s st x held e = facts_hold Γ U s st x held.1 e
facts_hold Γ ((name, Var w) ∷ U) s st x held e =
    at (eqb x name.0) refl (is_in (variables U) x) e (λ f. facts_hold Γ U s st x held.1 f)
  where
    at : (b : Bool) → eqb x name.0 ≡ b → (c : Bool) → (b || c) ≡ true → (c ≡ true → assigned (variables U) (facts U s) Γ st x ≡ s x)
        → cond b (eval Γ (constant w (s name.0)) st) (assigned (variables U) (facts U s) Γ st x) ≡ s x
    at true f c g further = constant_value Γ st w (s name.0) held.0 ∙ ap s (sym (eqb-true x name.0 f))
    at false f c g further = further g

-- ---- an expression behind a state

pub substituted_unnamed : (T : List (Name × Kind)) (s : Values) → IsTold T s → (e : Exp) (w : Width) → type_of (environment T) e ≡ Some w → (x : ℕ)
    → names (substituted (variables T) (facts T s) e) x ≡ false
substituted_unnamed T s i e w t x = at (is_in (variables T) x) refl
  where
    at : (b : Bool) → is_in (variables T) x ≡ b → names (substituted (variables T) (facts T s) e) x ≡ false
    at true f = substituted_gone (environment T) (variables T) (facts T s) (state_kept T s i.scope i.state) x f (facts_unnamed T s x) e
    at false f = substituted_names (variables T) (facts T s) x (facts_unnamed T s x) e (names_in_scope (environment T) x (no_width T x f) e w t)

-- it is the constant of its value
pub substituted_alike : (T : List (Name × Kind)) (s : Values) → IsTold T s → (e : Exp) (w : Width) → type_of (environment T) e ≡ Some w → is_width w ≡ true
    → IsAlike T (substituted (variables T) (facts T s) e) (constant w (eval (environment T) e s))
substituted_alike T s i e w t wide = record {
  always = record {
    few = unnamed_few T (substituted (variables T) (facts T s) e ∷ constant w (eval (environment T) e s) ∷ [])
        (λ x. or_from (names (substituted (variables T) (facts T s) e) x) (some_names (constant w (eval (environment T) e s) ∷ []) x) (substituted_unnamed T s i e w t x)
        (or_from (names (constant w (eval (environment T) e s)) x) false (constant_unnamed w (eval (environment T) e s) x) refl));
    equal = λ st k. substituted_value Γ st (variables T) (facts T s) kept e ∙ (same st ∙ sym (constant_value Γ st w (eval Γ e s) below));
  };
  typed = constant_type Γ w (eval Γ e s) wide below ∙ sym (substituted_type Γ (variables T) (facts T s) kept e ∙ t);
}
  where
    Γ : Environment
    Γ = environment T

    kept : pairs_kept (environment T) (variables T) (facts T s) ≡ true
    kept = state_kept T s i.scope i.state

    below : eval (environment T) e s < 2 ^ bits_of w
    below = eval_below (environment T) s i.state e w t

    same : (st : Values) → eval (environment T) e (assigned (variables T) (facts T s) (environment T) st) ≡ eval (environment T) e s
    same st = eval_by_names (environment T) (environment T) (assigned (variables T) (facts T s) (environment T) st) s e (λ x h. refl) (λ x h. at x h (is_in (variables T) x) refl)
      where
        at : (x : ℕ) → names e x ≡ true → (b : Bool) → is_in (variables T) x ≡ b → assigned (variables T) (facts T s) (environment T) st x ≡ s x
        at x h true f = facts_hold (environment T) T s st x (all_held (environment T) T s i.state (all_listed T i.scope)) f
        at x h false f = false_not_true (sym (names_in_scope (environment T) x (no_width T x f) e w t) ∙ h)
