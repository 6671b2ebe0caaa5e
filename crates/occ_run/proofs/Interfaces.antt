-- States of an interface as values.
use Rattle.std.proofs.Common.{◌≡◌, ◌^◌, ◌==◌, ◌&&◌, ℕ, true, false, nat_lt, List, [], ◌∷◌, Option, None, Some, is_none, inl, inr, refl, sym, ap, ◌∙◌, subst}
use Rattle.std.proofs.lemmas.Bool.{and_from, and_parts, lt-ltb}
use Rattle.std.proofs.lemmas.Bool.Decides.{eqb_tells}
use Rattle.occ_run_steps.proofs.from_meaning.Facts.{at_itself, if_false, if_true, false_not_true, none_not_some}
use Rattle.occ_syntax.specs.occ_base.declared.names.Name.{Name}
use Rattle.occ_syntax.specs.occ_base.declared.width.Width.{Width}
use Rattle.occ_syntax.specs.occ_base.Width.{bits_of}
use Rattle.occ_behaviour.specs.States.{is_state}
use Rattle.occ_syntax.specs.declared.scope.Kind.{Kind}
use Rattle.occ_syntax.specs.declared.scope.Kind.TheVariants.{Chan, Var}
use Rattle.occ_syntax.specs.Scopes.{IsState, Values, channel_kind, channel_width, environment, values, variable_kind, variable_width}
use Rattle.occ_syntax.specs.Types.{can_declare, is_width, scope_kept, width_of_kind}
use Rattle.occ_run.specs.Stands.{state_of}

-- ---- the names of a scope

-- a name that isn't in scope is no variable
off_scope : (o : Option Kind) → is_none o ≡ true → variable_kind o ≡ None
off_scope None h = refl
off_scope (Some k) h = cc

here : (entry : Name × Kind) (params : List (Name × Kind)) (x : ℕ) → x ≡ entry.0.0 → environment (entry ∷ params) x ≡ Some entry.1
here entry params x e = if_true (x == entry.0.0) (Some entry.1) (environment params x) (ap (λ y. x == y) (sym e) ∙ at_itself x)

elsewhere : (entry : Name × Kind) (params : List (Name × Kind)) (x : ℕ) → (x == entry.0.0) ≡ false → environment (entry ∷ params) x ≡ environment params x
elsewhere entry params x e = if_false (x == entry.0.0) (Some entry.1) (environment params x) e

-- the first name of a scope is no variable of the others
fresh : (entry : Name × Kind) (params : List (Name × Kind)) → scope_kept (entry ∷ params) ≡ true → variable_width (environment params) entry.0.0 ≡ None
fresh entry params h =
    let k = and_parts (can_declare (environment params) entry.0.0 (width_of_kind entry.1)) (scope_kept params) h in
    off_scope (environment params entry.0.0) (and_parts (is_none (environment params entry.0.0)) (is_width (width_of_kind entry.1)) k.0).0

later_kept : (entry : Name × Kind) (params : List (Name × Kind)) → scope_kept (entry ∷ params) ≡ true → scope_kept params ≡ true
later_kept entry params h = (and_parts (can_declare (environment params) entry.0.0 (width_of_kind entry.1)) (scope_kept params) h).1

-- what is a variable of the others is one of all
still_wide : (entry : Name × Kind) (params : List (Name × Kind)) (x : ℕ) (w : Width) → scope_kept (entry ∷ params) ≡ true → variable_width (environment params) x ≡ Some w
    → variable_width (environment (entry ∷ params)) x ≡ Some w
still_wide entry params x w h e = elim (eqb_tells x entry.0.0) [
  | inl k ↦ (let same : x ≡ entry.0.0 = k.1 in none_not_some (sym (fresh entry params h) ∙ ap (variable_width (environment params)) (sym same) ∙ e))
  | inr k ↦ ap variable_kind (elsewhere entry params x k.0) ∙ e
]

equal_names : (x y : ℕ) → (x == y) ≡ true → x ≡ y
equal_names x y h = elim (eqb_tells x y) [ inl k ↦ k.1 | inr k ↦ false_not_true (sym k.0 ∙ h) ]

-- a channel of a scope has a width
pub wide_channel : (scope : List (Name × Kind)) (x : ℕ) (w : Width) → scope_kept scope ≡ true → channel_width (environment scope) x ≡ Some w → is_width w ≡ true
wide_channel [] x w h e = none_not_some e
wide_channel (entry ∷ entries) x w h e = elim (eqb_tells x entry.0.0) [
  | inl k ↦ of_channel entry.1 (sym (ap channel_kind (here entry entries x k.1)) ∙ e)
      (and_parts (is_none (environment entries entry.0.0)) (is_width (width_of_kind entry.1)) (and_parts (can_declare (environment entries) entry.0.0 (width_of_kind entry.1)) (scope_kept entries) h).0).1
  | inr k ↦ wide_channel entries x w (later_kept entry entries h) (sym (ap channel_kind (elsewhere entry entries x k.0)) ∙ e)
]
  where
    of_channel : (kind : Kind) → channel_kind (Some kind) ≡ Some w → is_width (width_of_kind kind) ≡ true → is_width w ≡ true
    of_channel (Chan v d) g k = let same : v ≡ w = cc in subst (λ (u : Width). is_width u ≡ true) same k
    of_channel (Var v) g k = none_not_some g

-- ---- the values of a state

-- the value of a variable, and 0 of what is none
abbrev pub read : Values → ℕ → Option Width → ℕ
read v x None = 0
read v x (Some w) = v x

-- the state of values has the values of its variables
pub state_read : (params : List (Name × Kind)) (v : Values) (x : ℕ) → scope_kept params ≡ true → values (state_of params v) x ≡ read v x (variable_width (environment params) x)
state_read [] v x h = refl
state_read ((name, Chan w mark) ∷ params) v x h = elim (eqb_tells x name.0) [
  | inl k ↦ (state_read params v x (later_kept (name, Chan w mark) params h)
      ∙ ap (read v x) (ap (variable_width (environment params)) k.1 ∙ fresh (name, Chan w mark) params h)
      ∙ sym (ap (λ o. read v x (variable_kind o)) (here (name, Chan w mark) params x k.1)))
  | inr k ↦ state_read params v x (later_kept (name, Chan w mark) params h) ∙ sym (ap (λ o. read v x (variable_kind o)) (elsewhere (name, Chan w mark) params x k.0))
]
state_read ((name, Var w) ∷ params) v x h = elim (eqb_tells x name.0) [
  | inl k ↦ (if_true (x == name.0) (v name.0) (values (state_of params v) x) k.0 ∙ ap v (sym k.1) ∙ sym (ap (λ o. read v x (variable_kind o)) (here (name, Var w) params x k.1)))
  | inr k ↦ (if_false (x == name.0) (v name.0) (values (state_of params v) x) k.0 ∙ state_read params v x (later_kept (name, Var w) params h)
      ∙ sym (ap (λ o. read v x (variable_kind o)) (elsewhere (name, Var w) params x k.0)))
]

-- the state of values of their widths is a state
pub state_is_state : (params : List (Name × Kind)) (v : Values) → scope_kept params ≡ true → IsState (environment params) v → is_state params (state_of params v) ≡ true
state_is_state [] v h s = refl
state_is_state ((name, Chan w mark) ∷ params) v h s =
    state_is_state params v (later_kept (name, Chan w mark) params h) (λ x u e. s x u (still_wide (name, Chan w mark) params x u h e))
state_is_state ((name, Var w) ∷ params) v h s =
    and_from (name.0 == name.0 && nat_lt (v name.0) (2 ^ bits_of w)) (is_state params (state_of params v))
    (and_from (name.0 == name.0) (nat_lt (v name.0) (2 ^ bits_of w)) (at_itself name.0) (lt-ltb _ _ (s name.0 w (ap variable_kind (here (name, Var w) params name.0 refl)))))
    (state_is_state params v (later_kept (name, Var w) params h) (λ x u e. s x u (still_wide (name, Var w) params x u h e)))

-- a state says 0 of what is no variable
pub state_silent : (params : List (Name × Kind)) (l : List (Name × ℕ)) (x : ℕ) → scope_kept params ≡ true → is_state params l ≡ true
    → variable_width (environment params) x ≡ None → values l x ≡ 0
state_silent [] [] x kept h e = refl
state_silent [] (u ∷ us) x kept h e = cc
state_silent ((name, Chan w mark) ∷ params) l x kept h e = elim (eqb_tells x name.0) [
  | inl k ↦ state_silent params l x (later_kept (name, Chan w mark) params kept) h (ap (variable_width (environment params)) k.1 ∙ fresh (name, Chan w mark) params kept)
  | inr k ↦ state_silent params l x (later_kept (name, Chan w mark) params kept) h (sym (ap variable_kind (elsewhere (name, Chan w mark) params x k.0)) ∙ e)
]
state_silent ((name, Var w) ∷ params) [] x kept h e = cc
state_silent ((name, Var w) ∷ params) (u ∷ us) x kept h e =
    let j = and_parts (u.0.0 == name.0 && nat_lt u.1 (2 ^ bits_of w)) (is_state params us) h in
    let same = equal_names u.0.0 name.0 (and_parts (u.0.0 == name.0) (nat_lt u.1 (2 ^ bits_of w)) j.0).0 in
    elim (eqb_tells x name.0) [
      | inl k ↦ none_not_some (sym e ∙ ap variable_kind (here (name, Var w) params x k.1))
      | inr k ↦ if_false (x == u.0.0) u.1 (values us x) (ap (λ y. x == y) same ∙ k.0)
          ∙ state_silent params us x (later_kept (name, Var w) params kept) j.1 (sym (ap variable_kind (elsewhere (name, Var w) params x k.0)) ∙ e)
    ]
