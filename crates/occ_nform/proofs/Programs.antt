-- Values as states of an interface, and a table's rows as what a program does.
use Rattle.std.proofs.Common.{◌≡◌, ◌<◌, ◌^◌, ◌==◌, ◌&&◌, ℕ, Bool, true, false, nat_lt, cond, List, [], ◌∷◌, Option, Some, None, is_some, refl, sym, ap, ◌∙◌, subst, ⊎_elim}
use Rattle.std.proofs.lemmas.Bool.{and_from, and_parts, cases_Bool, eq-eqb, eqb-true, false≢true, lt-ltb, ltb-true}
use Rattle.std.specs.List.{list_all}
use Rattle.std.specs.Prelude.{is_none}
use mathlib.Core.Path.{fun_ext}
use Rattle.occ_syntax.specs.occ_base.declared.event.Event.{Event}
use Rattle.occ_syntax.specs.occ_base.declared.names.Name.{Name}
use Rattle.occ_syntax.specs.occ_base.declared.width.Width.{Width}
use Rattle.occ_syntax.specs.occ_base.Width.{bits_of}
use Rattle.occ_syntax.specs.declared.scope.Kind.{Kind}
use Rattle.occ_syntax.specs.declared.scope.Kind.TheVariants.{Var, Chan}
use Rattle.occ_syntax.specs.Meaning.{ended, refusing, fails, ends}
use Rattle.occ_syntax.specs.Scopes.{Environment, EventSet, IsState, Trace, Values, environment, in_interface, values, variable_kind, variable_width}
use Rattle.occ_syntax.specs.Tree.{Tree}
use Rattle.occ_syntax.specs.Types.{can_declare, is_width, scope_kept, types_kept}
use Rattle.occ_nform_rows.specs.occ_meaning.Foundation.{AreWithin}
use Rattle.occ_nform_rows.proofs.from_meaning.Frame.{part_value, written_in_scope}
use Rattle.occ_nform_rows.proofs.from_meaning.Interface.{part_in_interface}
use Rattle.occ_nform_rows.proofs.from_meaning.States.{part_states}
use Rattle.occ_nform_rows.specs.occ_behaviour.States.{is_state}
use Rattle.occ_nform_rows.specs.occ_nform_table.declared.table.TableRow.{TableRow}
use Rattle.occ_nform_rows.specs.occ_nform_table.Behaviours.{IsOfInterface, Stands}
use Rattle.occ_nform_rows.proofs.from_meaning.Overlay.{does_over, over}

none_is : (o : Option Kind) → is_none o ≡ true → o ≡ None
none_is None h = refl
none_is (Some k) h = absurd (false≢true h)

-- ---- values as a list
-- the variables of an interface with their values
abbrev pub listed : List (Name × Kind) → Values → List (Name × ℕ)
listed [] s = []
listed ((name, Var w) ∷ params) s = (name, s name.0) ∷ listed params s
listed ((name, Chan w d) ∷ params) s = listed params s

-- a name that stands before others is none of these
later : (name : Name) (kind : Kind) (params : List (Name × Kind)) → is_none (environment params name.0) ≡ true → (y : ℕ) (w : Width) → variable_width (environment params) y ≡ Some w → (y == name.0) ≡ false
later name kind params new y w h = ⊎_elim
    (λ (t : (y == name.0) ≡ true). absurd (clash (sym (ap (λ n. variable_width (environment params) n) (eqb-true y name.0 t) ∙ ap variable_kind (none_is (environment params name.0) new)) ∙ h)))
    (λ (f : (y == name.0) ≡ false). f)
    (cases_Bool (y == name.0))
  where
    clash : {w : Width} → None ≡ Some w → ⊥
    clash e = absurd (cc)

state_behind : (name : Name) (kind : Kind) (params : List (Name × Kind)) (s : Values) → is_none (environment params name.0) ≡ true → IsState (environment ((name, kind) ∷ params)) s → IsState (environment params) s
state_behind name kind params s new state y w h =
    state y w (ap (λ b. variable_kind (cond b (Some kind) (environment params y))) (later name kind params new y w h) ∙ h)

pub listed_state : (params : List (Name × Kind)) (s : Values) → scope_kept params ≡ true → IsState (environment params) s → is_state params (listed params s) ≡ true
listed_state [] s h state = refl
listed_state ((name, Var w) ∷ params) s h state =
    let k = and_parts (can_declare (environment params) name.0 w) (scope_kept params) h in
    let new = (and_parts (is_none (environment params name.0)) (is_width w) k.0).0 in
    let here : variable_width (environment ((name, Var w) ∷ params)) name.0 ≡ Some w = ap (λ b. variable_kind (cond b (Some (Var w)) (environment params name.0))) (eq-eqb name.0 name.0 refl) in
    and_from (name.0 == name.0 && nat_lt (s name.0) (2 ^ bits_of w)) (is_state params (listed params s))
    (and_from (name.0 == name.0) (nat_lt (s name.0) (2 ^ bits_of w)) (eq-eqb name.0 name.0 refl) (lt-ltb (s name.0) (2 ^ bits_of w) (state name.0 w here)))
    (listed_state params s k.1 (state_behind name (Var w) params s new state))
listed_state ((name, Chan w d) ∷ params) s h state =
    let k = and_parts (can_declare (environment params) name.0 w) (scope_kept params) h in
    listed_state params s k.1 (state_behind name (Chan w d) params s (and_parts (is_none (environment params name.0)) (is_width w) k.0).0 state)

-- the values of a name, by whether it is the first one
first_value : (b : Bool) (o : Option Kind) (w : Width) (v u : ℕ) → (b ≡ true → v ≡ u) → cond b v (cond (is_some (variable_kind o)) u 0) ≡ cond (is_some (variable_kind (cond b (Some (Var w)) o))) u 0
first_value true o w v u h = h refl
first_value false o w v u h = refl

channel_value : (b : Bool) (o : Option Kind) (w : Width) (d : Kind) (u : ℕ) → variable_kind (Some d) ≡ None → (b ≡ true → o ≡ None) → cond (is_some (variable_kind o)) u 0 ≡ cond (is_some (variable_kind (cond b (Some d) o))) u 0
channel_value true o w (Chan v m) u k h = ap (λ n. cond (is_some (variable_kind n)) u 0) (h refl)
channel_value true o w (Var v) u k h = absurd (cc)
channel_value false o w d u k h = refl

listed_value : (params : List (Name × Kind)) (s : Values) → scope_kept params ≡ true → (y : ℕ) → values (listed params s) y ≡ over (environment params) (λ z. 0) s y
listed_value [] s h y = refl
listed_value ((name, Var w) ∷ params) s h y =
    let k = and_parts (can_declare (environment params) name.0 w) (scope_kept params) h in
    ap (cond (y == name.0) (s name.0)) (listed_value params s k.1 y)
    ∙ first_value (y == name.0) (environment params y) w (s name.0) (s y) (λ t. ap s (sym (eqb-true y name.0 t)))
listed_value ((name, Chan w d) ∷ params) s h y =
    let k = and_parts (can_declare (environment params) name.0 w) (scope_kept params) h in
    let new = (and_parts (is_none (environment params name.0)) (is_width w) k.0).0 in
    listed_value params s k.1 y
    ∙ channel_value (y == name.0) (environment params y) w (Chan w d) (s y) refl (λ t. ap (environment params) (eqb-true y name.0 t) ∙ none_is (environment params name.0) new)

-- the values of the list are those of the variables in scope, and 0 elsewhere
pub listed_values : (params : List (Name × Kind)) (s : Values) → scope_kept params ≡ true → over (environment params) (λ z. 0) s ≡ values (listed params s)
listed_values params s h = fun_ext (λ y. sym (listed_value params s h y))

pub put_back : (Γ : Environment) (s : Values) → over Γ s (over Γ (λ z. 0) s) ≡ s
put_back Γ s = fun_ext (λ y. at (is_some (variable_width Γ y)) (s y))
  where
    at : (b : Bool) (v : ℕ) → cond b (cond b v 0) v ≡ v
    at true v = refl
    at false v = refl

-- ---- states as values
pub state_values : (params : List (Name × Kind)) (s : List (Name × ℕ)) → scope_kept params ≡ true → is_state params s ≡ true → IsState (environment params) (values s)
state_values [] s h state y w e = absurd (cc)
state_values ((name, Chan v d) ∷ params) s h state y w e =
    let k = and_parts (can_declare (environment params) name.0 v) (scope_kept params) h in
    state_values params s k.1 state y w (off (y == name.0) e)
  where
    off : (b : Bool) → variable_kind (cond b (Some (Chan v d)) (environment params y)) ≡ Some w → variable_width (environment params) y ≡ Some w
    off true e = absurd (cc)
    off false e = e
state_values ((name, Var v) ∷ params) [] h state y w e = absurd (false≢true state)
state_values ((name, Var v) ∷ params) (u ∷ s) h state y w e =
    let k = and_parts (can_declare (environment params) name.0 v) (scope_kept params) h in
    let both = and_parts (u.0.0 == name.0 && nat_lt u.1 (2 ^ bits_of v)) (is_state params s) state in
    let first = and_parts (u.0.0 == name.0) (nat_lt u.1 (2 ^ bits_of v)) both.0 in
    at (y == name.0) (y == u.0.0) (ap (λ n. y == n) (sym (eqb-true u.0.0 name.0 first.0))) (ltb-true u.1 (2 ^ bits_of v) first.1) (state_values params s k.1 both.1 y w) e
  where
    at : (b c : Bool) → b ≡ c → u.1 < 2 ^ bits_of v → (variable_width (environment params) y ≡ Some w → values s y < 2 ^ bits_of w)
        → variable_kind (cond b (Some (Var v)) (environment params y)) ≡ Some w → cond c u.1 (values s y) < 2 ^ bits_of w
    at true true h small rest e = subst (λ o. u.1 < 2 ^ bits_of o) (inj e) small
      where
        inj : {a b : Width} → Some a ≡ Some b → a ≡ b
        inj e = cc
    at false false h small rest e = rest e
    at true false h small rest e = absurd (cc)
    at false true h small rest e = absurd (cc)

pub all_within : (X : EventSet) (t : Trace) → AreWithin X t → list_all X t ≡ true
all_within X [] h = refl
all_within X (e ∷ t) h = and_from (X e) (list_all X t) h.0 (all_within X t h.1)

-- ---- two programs for which one table stands
module _ (params : List (Name × Kind)) (scope : scope_kept params ≡ true) (rows : List TableRow) (states : List ℕ) (p q : Tree) (hp : types_kept p (environment params) ≡ true) (hq : types_kept q (environment params) ≡ true)
    (one : Stands params rows states p) (two : Stands params rows states q) where
  pub fails_too : (s : Values) (t : Trace) (X : EventSet) → IsState (environment params) s → ((e : Event) → X e ≡ true → in_interface (environment params) e ≡ true) → fails (environment params) p s t X → fails (environment params) q s t X
  fails_too s t X state within d =
      let l = listed params s in
      let is = listed_state params s scope state in
      let of : IsOfInterface params t X = (all_within (in_interface (environment params)) t (part_in_interface (environment params) p hp s t (refusing X) state d), within) in
      let here : fails (environment params) p (values l) t X = subst (λ v. fails (environment params) p v t X) (listed_values params s scope) (does_over (environment params) p hp (λ z. 0) s t (refusing X) d) in
      let there : fails (environment params) q (values l) t X = (two.fails_so l t X is of).0 ((one.fails_so l t X is of).1 here) in
      subst (λ v. fails (environment params) q v t X) (ap (over (environment params) s) (sym (listed_values params s scope)) ∙ put_back (environment params) s)
      (does_over (environment params) q hq s (values l) t (refusing X) there)

  kept_value : (s s' : Values) (t : Trace) → ends (environment params) p s t s' → over (environment params) s (over (environment params) (λ z. 0) s') ≡ s'
  kept_value s s' t d = fun_ext (λ y. at y (variable_width (environment params) y) refl)
    where
      at : (y : ℕ) (o : Option Width) → variable_width (environment params) y ≡ o
          → cond (is_some (variable_width (environment params) y)) (cond (is_some (variable_width (environment params) y)) (s' y) 0) (s y) ≡ s' y
      at y (Some v) e = ap (λ k. cond (is_some k) (cond (is_some k) (s' y) 0) (s y)) e
      at y None e = ap (λ k. cond (is_some k) (cond (is_some k) (s' y) 0) (s y)) e
          ∙ sym ((part_value p (environment params) hp y (written_in_scope p (environment params) hp y e)).value (environment params) s t s' d)

  pub ends_too : (s : Values) (t : Trace) (s' : Values) → IsState (environment params) s → ends (environment params) p s t s' → ends (environment params) q s t s'
  ends_too s t s' state d =
      let Γ = environment params in
      let l = listed params s in
      let m = listed params s' in
      let state' = (part_states p Γ hp).state s t s' state d in
      let is = listed_state params s scope state in
      let is' = listed_state params s' scope state' in
      let of : IsOfInterface params t (λ e. false) = (all_within (in_interface Γ) t (part_in_interface Γ p hp s t (ended s') state d), λ e k. absurd (false≢true k)) in
      let here : ends Γ p (values l) t (values m) = subst (λ v. ends Γ p (values l) t v) (listed_values params s' scope)
      (subst (λ v. ends Γ p v t (over Γ (λ z. 0) s')) (listed_values params s scope) (does_over Γ p hp (λ z. 0) s t (ended s') d)) in
      let there : ends Γ q (values l) t (values m) = (two.ends_so l m t is is' of).0 ((one.ends_so l m t is is' of).1 here) in
      let back = does_over Γ q hq s (values l) t (ended (values m)) there in
      subst (λ v. ends Γ q s t v) (ap (over Γ s) (sym (listed_values params s' scope)) ∙ kept_value s s' t d)
      (subst (λ v. ends Γ q v t (over Γ s (values m))) (ap (over Γ s) (sym (listed_values params s scope)) ∙ put_back Γ s) back)
