-- Two parts over an interface mean the same exactly where, from each of its states, all that each does the other does.
use Rattle.std.proofs.Common.{◌≡◌, ◌==◌, ◌<◌, ◌^◌, ◌&&◌, inl, inr, ℕ, Bool, true, false, cond, nat_lt, List, [], ◌∷◌, Option, Some, None, is_some, is_none, refl, sym, ap, ◌∙◌, subst}
use Rattle.std.proofs.lemmas.Bool.{and_from, and_parts, cases_Bool, eqb-true, eq-eqb, false≢true, ltb-true, lt-ltb}
use mathlib.Core.Path.{fun_ext}
use Rattle.occ_syntax.specs.occ_base.Width.{bits_of}
use Rattle.occ_syntax.specs.occ_base.declared.names.Name.{Name}
use Rattle.occ_syntax.specs.occ_base.declared.width.Width.{Width}
use Rattle.occ_compare.specs.occ_behaviour.States.{is_state}
use Rattle.occ_compare.proofs.from_meaning.Frame.{part_value, written_in_scope}
use Rattle.occ_compare.proofs.from_meaning.Interface.{same_over_interface}
use Rattle.occ_compare.proofs.from_meaning.Overlay.{does_over, over}
use Rattle.occ_compare.proofs.from_meaning.Refusals.{part_shrinks}
use Rattle.occ_compare.proofs.from_meaning.States.{part_states}
use Rattle.occ_syntax.specs.Meaning.{ended, ends, fails, refusing}
use Rattle.occ_syntax.specs.Same.{SAME}
use Rattle.occ_syntax.specs.Scopes.{Environment, EventSet, IsState, Trace, Values, environment, in_scope, values, variable_kind, variable_width}
use Rattle.occ_syntax.specs.Tree.{Tree}
use Rattle.occ_syntax.specs.Types.{can_declare, is_width, scope_kept, types_kept, width_of_kind}
use Rattle.occ_syntax.specs.declared.scope.Kind.{Kind}
use Rattle.occ_syntax.specs.declared.scope.Kind.TheVariants.{Chan, Var}
use Rattle.occ_refine_laws.proofs.Outside.{part_wider}

abbrev Scope : Type 0
Scope = List (Name × Kind)

-- From each state, all failures and ends of q are p's.
pub record IsWithin (ps : Scope) (p q : Tree) : Type 0 where
  pub failing : (s : List (Name × ℕ)) → is_state ps s ≡ true → (t : Trace) (X : EventSet) → fails (environment ps) q (values s) t X → fails (environment ps) p (values s) t X
  pub ending : (s u : List (Name × ℕ)) → is_state ps s ≡ true → is_state ps u ≡ true → (t : Trace) → ends (environment ps) q (values s) t (values u)
      → ends (environment ps) p (values s) t (values u)

-- ---- states as lists

none_some : {A : Type 0} {B : Type 0} (x : A) → None ≡ Some x → B
none_some x e = absurd (let no : ⊥ = cc in no)

same_some : {A : Type 0} (x y : A) → Some x ≡ Some y → x ≡ y
same_some x y e = cc

abbrev FitsAt : Scope → List (Name × ℕ) → ℕ → Width → Type 0
FitsAt ps s x width = variable_width (environment ps) x ≡ Some width → values s x < 2 ^ bits_of width

past_channel : (ps : Scope) (s : List (Name × ℕ)) (k : Kind) (x : ℕ) (width : Width) (b : Bool) → (variable_kind (Some k) ≡ Some width → ⊥)
    → FitsAt ps s x width → variable_kind (cond b (Some k) (environment ps x)) ≡ Some width → values s x < 2 ^ bits_of width
past_channel ps s k x width true off again e = absurd (off e)
past_channel ps s k x width false off again e = again e

past_variable : (ps : Scope) (vs : List (Name × ℕ)) (w : Width) (v x : ℕ) (width : Width) (b : Bool) → v < 2 ^ bits_of w
    → FitsAt ps vs x width → variable_kind (cond b (Some (Var w)) (environment ps x)) ≡ Some width → cond b v (values vs x) < 2 ^ bits_of width
past_variable ps vs w v x width true small again e = subst (λ u. v < 2 ^ bits_of u) (same_some w width e) small
past_variable ps vs w v x width false small again e = again e

-- a state of the interface is one of its environment
states_are : (ps : Scope) (s : List (Name × ℕ)) → is_state ps s ≡ true → (x : ℕ) (width : Width) → FitsAt ps s x width
states_are [] s h x width e = none_some width e
states_are ((n, Chan w d) ∷ ps) s h x width e = past_channel ps s (Chan w d) x width (x == n.0) (λ f. none_some width f) (states_are ps s h x width) e
states_are ((n, Var w) ∷ ps) [] h x width e = absurd (false≢true h)
states_are ((n, Var w) ∷ ps) (v ∷ vs) h x width e =
    let p = and_parts (v.0.0 == n.0 && nat_lt v.1 (2 ^ bits_of w)) (is_state ps vs) h in
    let q = and_parts (v.0.0 == n.0) (nat_lt v.1 (2 ^ bits_of w)) p.0 in
    subst (λ m. cond (x == m) v.1 (values vs x) < 2 ^ bits_of width) (sym (eqb-true v.0.0 n.0 q.0))
    (past_variable ps vs w v.1 x width (x == n.0) (ltb-true v.1 (2 ^ bits_of w) q.1) (states_are ps vs p.1 x width) e)

-- the values of the variables as a list
listed : Scope → Values → List (Name × ℕ)
listed [] s = []
listed ((n, Chan w d) ∷ ps) s = listed ps s
listed ((n, Var w) ∷ ps) s = (n, s n.0) ∷ listed ps s

is_fresh : (o : Option Kind) → is_none o ≡ true → o ≡ None
is_fresh None h = refl
is_fresh (Some k) h = absurd (false≢true h)

fresh : (ps : Scope) (n : Name) (k : Kind) → scope_kept ((n, k) ∷ ps) ≡ true → environment ps n.0 ≡ None
fresh ps n k h = is_fresh (environment ps n.0)
    (and_parts (is_none (environment ps n.0)) (is_width (width_of_kind k)) (and_parts (can_declare (environment ps) n.0 (width_of_kind k)) (scope_kept ps) h).0).0

rest_kept : (ps : Scope) (n : Name) (k : Kind) → scope_kept ((n, k) ∷ ps) ≡ true → scope_kept ps ≡ true
rest_kept ps n k h = (and_parts (can_declare (environment ps) n.0 (width_of_kind k)) (scope_kept ps) h).1

-- where a name is fresh, what is in scope behind it is in scope
rest_state : (ps : Scope) (n : Name) (k : Kind) (s : Values) → environment ps n.0 ≡ None → IsState (environment ((n, k) ∷ ps)) s → IsState (environment ps) s
rest_state ps n k s new state x width e = elim (cases_Bool (x == n.0)) [
  | inl t ↦ none_some width (sym (ap (λ o. variable_kind o) (ap (environment ps) (eqb-true x n.0 t) ∙ new)) ∙ e)
  | inr f ↦ state x width (ap (λ b. variable_kind (cond b (Some k) (environment ps x))) f ∙ e)
]

listed_state : (ps : Scope) (s : Values) → scope_kept ps ≡ true → IsState (environment ps) s → is_state ps (listed ps s) ≡ true
unfolding listed
listed_state [] s h state = refl
listed_state ((n, Chan w d) ∷ ps) s h state = listed_state ps s (rest_kept ps n (Chan w d) h) (rest_state ps n (Chan w d) s (fresh ps n (Chan w d) h) state)
listed_state ((n, Var w) ∷ ps) s h state =
    let rest = listed_state ps s (rest_kept ps n (Var w) h) (rest_state ps n (Var w) s (fresh ps n (Var w) h) state) in
    let itself : (n.0 == n.0) ≡ true = eq-eqb n.0 n.0 refl in
    let small : s n.0 < 2 ^ bits_of w = state n.0 w (ap (λ b. variable_kind (cond b (Some (Var w)) (environment ps n.0))) itself) in
    and_from (n.0 == n.0 && nat_lt (s n.0) (2 ^ bits_of w)) (is_state ps (listed ps s))
    (and_from (n.0 == n.0) (nat_lt (s n.0) (2 ^ bits_of w)) itself (lt-ltb (s n.0) (2 ^ bits_of w) small)) rest

-- all values are 0
abbrev zero : Values
zero x = 0

on_channel : (ps : Scope) (s : Values) (n : Name) (k : Kind) (x : ℕ) (b : Bool) (v : ℕ) → (variable_kind (Some k) ≡ None) → (b ≡ true → environment ps x ≡ None)
    → v ≡ cond (is_some (variable_width (environment ps) x)) (s x) 0
    → v ≡ cond (is_some (variable_kind (cond b (Some k) (environment ps x)))) (s x) 0
on_channel ps s n k x true v off new e =
    e ∙ ap (λ o. cond (is_some (variable_kind o)) (s x) 0) (new refl) ∙ sym (ap (λ (o : Option Width). cond (is_some o) (s x) 0) off)
on_channel ps s n k x false v off new e = e

on_variable : (ps : Scope) (s : Values) (n : Name) (w : Width) (x : ℕ) (b : Bool) (v : ℕ) → (b ≡ true → x ≡ n.0)
    → v ≡ cond (is_some (variable_width (environment ps) x)) (s x) 0
    → cond b (s n.0) v ≡ cond (is_some (variable_kind (cond b (Some (Var w)) (environment ps x)))) (s x) 0
on_variable ps s n w x true v here e = ap s (sym (here refl))
on_variable ps s n w x false v here e = e

listed_at : (ps : Scope) (s : Values) → scope_kept ps ≡ true → (x : ℕ) → values (listed ps s) x ≡ over (environment ps) zero s x
unfolding listed
listed_at [] s h x = refl
listed_at ((n, Chan w d) ∷ ps) s h x =
    on_channel ps s n (Chan w d) x (x == n.0) (values (listed ps s) x) refl (λ t. ap (environment ps) (eqb-true x n.0 t) ∙ fresh ps n (Chan w d) h)
    (listed_at ps s (rest_kept ps n (Chan w d) h) x)
listed_at ((n, Var w) ∷ ps) s h x =
    on_variable ps s n w x (x == n.0) (values (listed ps s) x) (λ t. eqb-true x n.0 t) (listed_at ps s (rest_kept ps n (Var w) h) x)

listed_is : (ps : Scope) (s : Values) → scope_kept ps ≡ true → values (listed ps s) ≡ over (environment ps) zero s
listed_is ps s h = fun_ext (λ x. listed_at ps s h x)

back_at : (o : Option Width) (a b : ℕ) → cond (is_some o) (cond (is_some o) a 0) b ≡ cond (is_some o) a b
back_at None a b = refl
back_at (Some w) a b = refl

back_again : (Γ : Environment) (s u : Values) → over Γ s (over Γ zero u) ≡ over Γ s u
back_again Γ s u = fun_ext (λ x. back_at (variable_width Γ x) (u x) (s x))

itself_at : (o : Option Width) (a : ℕ) → cond (is_some o) a a ≡ a
itself_at None a = refl
itself_at (Some w) a = refl

itself : (Γ : Environment) (s : Values) → over Γ s s ≡ s
itself Γ s = fun_ext (λ x. itself_at (variable_width Γ x) (s x))

kept_at : (o : Option Width) (a b : ℕ) → (o ≡ None → a ≡ b) → cond (is_some o) a b ≡ a
kept_at None a b h = sym (h refl)
kept_at (Some w) a b h = refl

module _ (ps : Scope) (kept : scope_kept ps ≡ true) where
  abbrev Γ : Environment
  Γ = environment ps

  -- what isn't a variable in scope has its old value at each end
  end_kept : (p : Tree) → types_kept p Γ ≡ true → (s : Values) (t : Trace) (s' : Values) → ends Γ p s t s' → over Γ s s' ≡ s'
  end_kept p h s t s' d = fun_ext (λ x. kept_at (variable_width Γ x) (s' x) (s x)
      (λ e. (part_value p Γ h x (written_in_scope p Γ h x e)).value Γ s t s' d))

  -- ---- from each within the other to the same

  module _ (p q : Tree) (hp : types_kept p Γ ≡ true) (hq : types_kept q Γ ≡ true) (w : IsWithin ps q p) where
    failing_too : (s : Values) (t : Trace) (X : EventSet) → IsState Γ s → fails Γ p s t X → fails Γ q s t X
    failing_too s t X state d =
        let l = listed ps s in
        let P : Values → Type 0 = λ u. fails Γ p u t X in
        let Q : Values → Type 0 = λ u. fails Γ q u t X in
        let there = subst P (sym (listed_is ps s kept)) (does_over Γ p hp zero s t (refusing X) d) in
        let found = subst Q (listed_is ps s kept) (w.failing l (listed_state ps s kept state) t X there) in
        subst Q (back_again Γ s s ∙ itself Γ s) (does_over Γ q hq s (over Γ zero s) t (refusing X) found)

    ending_too : (s : Values) (t : Trace) (s' : Values) → IsState Γ s → ends Γ p s t s' → ends Γ q s t s'
    ending_too s t s' state d =
        let l = listed ps s in
        let u = listed ps s' in
        let next : IsState Γ s' = (part_states p Γ hp).state s t s' state d in
        let there = subst (λ (r : Values). ends Γ p r t (values u)) (sym (listed_is ps s kept))
        (subst (λ (r : Values). ends Γ p (over Γ zero s) t r) (sym (listed_is ps s' kept)) (does_over Γ p hp zero s t (ended s') d)) in
        let found = subst (λ (r : Values). ends Γ q r t (over Γ zero s')) (listed_is ps s kept)
        (subst (λ (r : Values). ends Γ q (values l) t r) (listed_is ps s' kept)
        (w.ending l u (listed_state ps s kept state) (listed_state ps s' kept next) t there)) in
        let over_s = does_over Γ q hq s (over Γ zero s) t (ended (over Γ zero s')) found in
        let at_s = subst (λ (r : Values). ends Γ q r t (over Γ s (over Γ zero s'))) (back_again Γ s s ∙ itself Γ s) over_s in
        subst (λ (r : Values). ends Γ q s t r) (back_again Γ s s' ∙ end_kept p hp s t s' d) at_s

  pub same_from_both : (p q : Tree) → types_kept p Γ ≡ true → types_kept q Γ ≡ true → IsWithin ps p q → IsWithin ps q p → SAME Γ p q
  same_from_both p q hp hq there back = same_over_interface Γ p q hp hq
      (λ s t X state within. (failing_too p q hp hq back s t X state, failing_too q p hq hp there s t X state))
      (λ s t s' state. (ending_too p q hp hq back s t s' state, ending_too q p hq hp there s t s' state))

  -- ---- and back

  pub within_from_same : (p q : Tree) → types_kept p Γ ≡ true → SAME Γ p q → IsWithin ps p q
  within_from_same p q hp same = record {
    failing = λ s h t X d.
        let state : IsState Γ (values s) = states_are ps s h in
        let Y : EventSet = λ e. X e && in_scope Γ e in
        let less = (part_shrinks q).more Γ (values s) t X Y (λ e k. inl (and_parts (X e) (in_scope Γ e) k).0) d in
        let mine = (same.same_failures (values s) t Y state (λ e k. (and_parts (X e) (in_scope Γ e) k).1)).1 less in
        (part_wider p Γ hp).wider (values s) t Y X state
        (λ e k. elim (cases_Bool (in_scope Γ e)) [ inl j ↦ inl (and_from (X e) (in_scope Γ e) k j) | inr j ↦ inr j ]) mine;
    ending = λ s u h k t d. (same.same_ends (values s) t (values u) (states_are ps s h)).1 d;
  }
