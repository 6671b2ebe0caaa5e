-- A well-typed part takes states to states.
use Rattle.occ_syntax.specs.occ_base.Width.{bits_of}
use Rattle.occ_syntax.specs.occ_base.declared.event.Event.{Event}
use Rattle.occ_syntax.specs.occ_base.declared.width.Width.{Width}
use Rattle.occ_meaning.proofs.Facts.{agreed, and_four, and_three, either, false_not_true, if_below, if_false, if_true, none_not_some, some_is}
use Rattle.occ_meaning.proofs.Typing.{eval_below, input_types}
use Rattle.occ_syntax.specs.Eval.{eval, is_true}
use Rattle.occ_syntax.specs.Meaning.{After, Alternates, Combines, Followed, Guards, Meaning, Outcome, Stopped, Taken, Together, WithChannel, WithVariable, alternatives, and_guard, assigned, at_event, at_once, at_ready, at_the_same_time, beside, beside_all, both_ended, chosen, ended, first_choice, followed, guards, in_second, in_turn, join, meaning, never, no_guard, over_channel, over_variable, taken, together}
use Rattle.occ_syntax.specs.Names.{is_in}
use Rattle.occ_syntax.specs.Scopes.{Environment, IsState, Trace, Values, channel_width, has_width, variable_kind, variable_width, with_name, with_value}
use Rattle.occ_syntax.specs.Tree.{Branches, Cases, Exp, Tree, Trees, Waiting, alt, and_branch, and_case, and_tree, assign, connect, declare, input, no_branch, no_case, no_tree, output, par, ready, receive, select, send, seq, skip, stop, truth}
use Rattle.occ_syntax.specs.Types.{agree, all_types_kept, branches_kept, can_declare, cases_kept, is_condition, is_pair, is_width, pairs_kept, type_of, types_kept, waiting_kept}
use Rattle.occ_syntax.specs.declared.scope.Kind.{Kind}
use Rattle.occ_syntax.specs.declared.scope.Kind.TheVariants.{Chan, Var}
use Rattle.std.proofs.Common.{List, None, Option, Some, [], ap, inl, inr, is_none, not, refl, subst, sym, true, ℕ, ◌&&◌, ◌<◌, ◌==◌, ◌^◌, ◌∙◌, ◌∷◌, ◌≡◌}
use Rattle.std.proofs.lemmas.Bool.{and_parts, ltb-true}
use Rattle.std.proofs.lemmas.Bool.Decides.{eqb_tells}

pub value_state : (Γ : Environment) (s : Values) (x v : ℕ) → IsState Γ s → ((w : Width) → variable_width Γ x ≡ Some w → v < 2 ^ bits_of w)
    → IsState Γ (with_value s x v)
value_state Γ s x v state fits y w h =
    let P : ℕ → Type 0 = λ n. n < 2 ^ bits_of w in
    elim (eqb_tells y x) [
      | inl k ↦ subst P (sym (if_true (y == x) v (s y) k.0)) (fits w (ap (variable_width Γ) (sym k.1) ∙ h))
      | inr k ↦ subst P (sym (if_false (y == x) v (s y) k.0)) (state y w h)
    ]

-- the state of a variable's scope
pub declared_state : (Γ : Environment) (s : Values) (x : ℕ) (w : Width) (v : ℕ) → v < 2 ^ bits_of w → IsState Γ s
    → IsState (with_name Γ x (Var w)) (with_value s x v)
declared_state Γ s x w v lt state y u h =
    let P : ℕ → Type 0 = λ n. n < 2 ^ bits_of u in
    elim (eqb_tells y x) [
      | inl k ↦ (let e : w ≡ u = some_is (sym (ap variable_kind (if_true (y == x) (Some (Var w)) (Γ y) k.0)) ∙ h) in
          subst P (sym (if_true (y == x) v (s y) k.0)) (let Q : Width → Type 0 = λ z. v < 2 ^ bits_of z in subst Q e lt))
      | inr k ↦ subst P (sym (if_false (y == x) v (s y) k.0)) (state y u (ap variable_kind (sym (if_false (y == x) (Some (Var w)) (Γ y) k.0)) ∙ h))
    ]

-- and back: the value that is put back is that of a state
pub undeclared_state : (Γ : Environment) (s s1 : Values) (x : ℕ) (w : Width) → IsState Γ s → IsState (with_name Γ x (Var w)) s1
    → IsState Γ (with_value s1 x (s x))
undeclared_state Γ s s1 x w outer inner y u h =
    let P : ℕ → Type 0 = λ n. n < 2 ^ bits_of u in
    elim (eqb_tells y x) [
      | inl k ↦ subst P (ap s k.1 ∙ sym (if_true (y == x) (s x) (s1 y) k.0)) (outer y u h)
      | inr k ↦ subst P (sym (if_false (y == x) (s x) (s1 y) k.0)) (inner y u (ap variable_kind (if_false (y == x) (Some (Var w)) (Γ y) k.0) ∙ h))
    ]

pub connected_state : (Γ : Environment) (s : Values) (c : ℕ) (w : Width) → IsState Γ s → IsState (with_name Γ c (Chan w None)) s
connected_state Γ s c w state y u h =
    elim (eqb_tells y c) [
      | inl k ↦ none_not_some (sym (ap variable_kind (if_true (y == c) (Some (Chan w None)) (Γ y) k.0)) ∙ h)
      | inr k ↦ state y u (ap variable_kind (sym (if_false (y == c) (Some (Chan w None)) (Γ y) k.0)) ∙ h)
    ]

pub unconnected_state : (Γ : Environment) (s : Values) (c : ℕ) (w : Width) → Γ c ≡ None → IsState (with_name Γ c (Chan w None)) s → IsState Γ s
unconnected_state Γ s c w fresh state y u h =
    elim (eqb_tells y c) [
      | inl k ↦ none_not_some (sym (ap variable_kind (ap Γ k.1 ∙ fresh)) ∙ h)
      | inr k ↦ state y u (ap variable_kind (if_false (y == c) (Some (Chan w None)) (Γ y) k.0) ∙ h)
    ]

pub joined_state : (Γ : Environment) (s s1 s2 : Values) → IsState Γ s1 → IsState Γ s2 → IsState Γ (join s s1 s2)
joined_state Γ s s1 s2 first second x w h = if_below (s1 x == s x) (s2 x) (s1 x) (2 ^ bits_of w) (second x w h) (first x w h)

pub state_at : (Γ : Environment) (s u : Values) → u ≡ s → IsState Γ s → IsState Γ u
state_at Γ s u e state = let P : Values → Type 0 = λ r. IsState Γ r in subst P (sym e) state

pub fresh_name : (Γ : Environment) (x : ℕ) (w : Width) → can_declare Γ x w ≡ true → Γ x ≡ None
fresh_name Γ x w h = absent (Γ x) (and_parts (is_none (Γ x)) (is_width w) h).0
  where
    absent : (k : Option Kind) → is_none k ≡ true → k ≡ None
    absent None e = refl
    absent (Some k) e = false_not_true e

-- ---- one operator at a time

pub record KeepsStates (Γ : Environment) (m : Meaning) : Type 0 where
  pub state : (s : Values) (t : Trace) (s' : Values) → IsState Γ s → m.does Γ s t (ended s') → IsState Γ s'

pub record KeepStates (Γ : Environment) (g : Guards) : Type 0 where
  pub state : (s : Values) (t : Trace) (s' : Values) → IsState Γ s → g.goes Γ s t (ended s') → IsState Γ s'

end_is : {s s' : Values} → ended s' ≡ ended s → s' ≡ s
end_is h = cc

skip_states : (Γ : Environment) → KeepsStates Γ (at_once (λ Δ s. s))
skip_states Γ = record { state = λ s t s' start d. state_at Γ s s' (end_is d.1) start }

stop_end : (Γ : Environment) (t : Trace) (s' : Values) → Stopped t (ended s') → IsState Γ s'
stop_end Γ t s' d = elim d [ ]

stop_states : (Γ : Environment) → KeepsStates Γ never
stop_states Γ = record { state = λ s t s' start d. stop_end Γ t s' d }

pub assigned_state : (Γ : Environment) (s : Values) → IsState Γ s → (xs : List ℕ) (es : List Exp) → pairs_kept Γ xs es ≡ true
    → IsState Γ (assigned xs es Γ s)
assigned_state Γ s start [] es h = start
assigned_state Γ s start (x ∷ xs) [] h = start
assigned_state Γ s start (x ∷ xs) (e ∷ es) h =
    let k = and_three (agree (variable_width Γ x) (type_of Γ e)) (not (is_in xs x)) (pairs_kept Γ xs es) h in
    let a = agreed (variable_width Γ x) (type_of Γ e) k.0 in
    value_state Γ (assigned xs es Γ s) x (eval Γ e s) (assigned_state Γ s start xs es k.2)
    (λ w v. eval_below Γ s start e w (a.2 ∙ sym a.1 ∙ v))

assign_states : (Γ : Environment) (xs : List ℕ) (es : List Exp) → pairs_kept Γ xs es ≡ true → KeepsStates Γ (at_once (assigned xs es))
assign_states Γ xs es h = record { state = λ s t s' start d. state_at Γ (assigned xs es Γ s) s' (end_is d.1) (assigned_state Γ s start xs es h) }

followed_end : (Γ : Environment) (m n : Meaning) → KeepsStates Γ m → KeepsStates Γ n → (s : Values) (t : Trace) (s' : Values) → IsState Γ s
    → Followed m n Γ s t (ended s') → IsState Γ s'
followed_end Γ m n hm hn s t s' start (in_second t1 t2 s1 e d1 d2) = hn.state s1 t2 s' (hm.state s t1 s1 start d1) d2

pub followed_states : (Γ : Environment) (m n : Meaning) → KeepsStates Γ m → KeepsStates Γ n → KeepsStates Γ (followed m n)
followed_states Γ m n hm hn = record { state = followed_end Γ m n hm hn }

chosen_states : (Γ : Environment) (e : Exp) (m n : Meaning) → KeepsStates Γ m → KeepsStates Γ n → KeepsStates Γ (chosen e m n)
chosen_states Γ e m n hm hn = record { state = λ s t s' start d. either (is_true Γ e s) (λ h. hm.state s t s' start h) (λ h. hn.state s t s' start h) d }

-- the state behind a guard
pub after_state : (Γ : Environment) (s : Values) (w : Waiting) (e : Event) (u : Values) → waiting_kept Γ w ≡ true → IsState Γ s
    → After Γ s w e u → IsState Γ u
after_state Γ s ready e u h start a = absurd a
after_state Γ s (input c x) e u h start a =
    let k = (input_types Γ c x h).1 in
    state_at Γ (with_value s x a.0) u a.3 (value_state Γ s x a.0 start (λ w v. fits k.0 w a.0 k.1 (sym k.2 ∙ v) a.1))
  where
    fits : (y w : Width) (v : ℕ) → channel_width Γ c ≡ Some y → Some y ≡ Some w → has_width (channel_width Γ c) v ≡ true → v < 2 ^ bits_of w
    fits y w v is_y same has = let P : Option Width → Type 0 = λ o. has_width o v ≡ true in ltb-true v (2 ^ bits_of w) (subst P (is_y ∙ same) has)
after_state Γ s (output c z) e u h start a = state_at Γ s u a.1 start

pub taken_state : (Γ : Environment) (s : Values) (w : Waiting) (t : Trace) (u : Values) (a : Trace) → waiting_kept Γ w ≡ true → IsState Γ s
    → Taken Γ s w t u a → IsState Γ u
taken_state Γ s w t u a h start at_ready = start
taken_state Γ s w t u a h start (at_event {w = b} {e = e} {u = r} k) = after_state Γ s b e r h start k

no_guard_states : (Γ : Environment) → KeepStates Γ no_guard
no_guard_states Γ = record { state = λ s t s' start d. absurd d }

and_guard_states : (Γ : Environment) (e : Exp) (w : Waiting) (m : Meaning) (g : Guards) → waiting_kept Γ w ≡ true → KeepsStates Γ m
    → KeepStates Γ g → KeepStates Γ (and_guard e w m g)
and_guard_states Γ e w m g h hm hg = record {
  state = λ s t s' start d.
      elim d [ inl k ↦ hm.state k.1.0 k.1.1 s' (taken_state Γ s w t k.1.0 k.1.1 h start k.1.2) k.1.3 | inr k ↦ hg.state s t s' start k ];
}

alternates_end : (Γ : Environment) (g : Guards) → KeepStates Γ g → (s : Values) (t : Trace) (s' : Values) → IsState Γ s
    → Alternates g Γ s t (ended s') → IsState Γ s'
alternates_end Γ g hg s t s' start (taken d) = hg.state s t s' start d

alternatives_states : (Γ : Environment) (g : Guards) → KeepStates Γ g → KeepsStates Γ (alternatives g)
alternatives_states Γ g hg = record { state = alternates_end Γ g hg }

combined_state : (Γ : Environment) (s : Values) (o1 o2 : Outcome) (s' : Values) → ((s1 : Values) → o1 ≡ ended s1 → IsState Γ s1)
    → ((s2 : Values) → o2 ≡ ended s2 → IsState Γ s2) → Combines Γ s o1 o2 (ended s') → IsState Γ s'
combined_state Γ s o1 o2 s' first second (both_ended {s1 = a} {s2 = b} {s' = r} e) = state_at Γ (join s a b) r e (joined_state Γ s a b (first a refl) (second b refl))

together_end : (Γ : Environment) (m n : Meaning) → KeepsStates Γ m → KeepsStates Γ n → (s : Values) (t : Trace) (s' : Values) → IsState Γ s
    → Together m n Γ s t (ended s') → IsState Γ s'
together_end Γ m n hm hn s t s' start (together t1 t2 o1 o2 woven c d1 d2) =
    combined_state Γ s o1 o2 s'
    (λ s1 e. hm.state s t1 s1 start (let P : Outcome → Type 0 = λ o. m.does Γ s t1 o in subst P e d1))
    (λ s2 e. hn.state s t2 s2 start (let P : Outcome → Type 0 = λ o. n.does Γ s t2 o in subst P e d2)) c

pub beside_states : (Γ : Environment) (m n : Meaning) → KeepsStates Γ m → KeepsStates Γ n → KeepsStates Γ (beside m n)
beside_states Γ m n hm hn = record { state = together_end Γ m n hm hn }

beside_all_states : (Γ : Environment) (ps : Trees) (m n : Meaning) → KeepsStates Γ m → KeepsStates Γ n → KeepsStates Γ (beside_all ps m n)
beside_all_states Γ no_tree m n hm hn = hm
beside_all_states Γ (and_tree p ps) m n hm hn = beside_states Γ m n hm hn

variable_end : (Γ : Environment) (x : ℕ) (w : Width) (m : Meaning) → KeepsStates (with_name Γ x (Var w)) m
    → (s : Values) (t : Trace) (s' : Values) → IsState Γ s → WithVariable x w m Γ s t (ended s') → IsState Γ s'
variable_end Γ x w m hm s t s' start (WithVariable.at_end v s1 lt e d) =
    state_at Γ (with_value s1 x (s x)) s' e (undeclared_state Γ s s1 x w start (hm.state (with_value s x v) t s1 (declared_state Γ s x w v lt start) d))

pub variable_states : (Γ : Environment) (x : ℕ) (w : Width) (m : Meaning) → KeepsStates (with_name Γ x (Var w)) m
    → KeepsStates Γ (over_variable x w m)
variable_states Γ x w m hm = record { state = variable_end Γ x w m hm }

channel_end : (Γ : Environment) (c : ℕ) (w : Width) (m : Meaning) → Γ c ≡ None → KeepsStates (with_name Γ c (Chan w None)) m
    → (s : Values) (t : Trace) (s' : Values) → IsState Γ s → WithChannel c w m Γ s t (ended s') → IsState Γ s'
channel_end Γ c w m fresh hm s t s' start (WithChannel.at_end silent d) = unconnected_state Γ s' c w fresh (hm.state s t s' (connected_state Γ s c w start) d)

pub channel_states : (Γ : Environment) (c : ℕ) (w : Width) (m : Meaning) → Γ c ≡ None → KeepsStates (with_name Γ c (Chan w None)) m
    → KeepsStates Γ (over_channel c w m)
channel_states Γ c w m fresh hm = record { state = channel_end Γ c w m fresh hm }

guard_alone : (Γ : Environment) (w : Waiting) → waiting_kept Γ w ≡ true
    → KeepsStates Γ (alternatives (and_guard (truth true) w (at_once (λ Δ s. s)) no_guard))
guard_alone Γ w h = alternatives_states Γ (and_guard (truth true) w (at_once (λ Δ s. s)) no_guard) (and_guard_states Γ (truth true) w (at_once (λ Δ s. s)) no_guard h (skip_states Γ) (no_guard_states Γ))

declared_states : (Γ : Environment) (x : ℕ) (w : Width) (p : Tree) → (can_declare Γ x w && types_kept p (with_name Γ x (Var w))) ≡ true
    → (types_kept p (with_name Γ x (Var w)) ≡ true → KeepsStates (with_name Γ x (Var w)) (meaning p))
    → KeepsStates Γ (over_variable x w (meaning p))
declared_states Γ x w p h ih = variable_states Γ x w (meaning p) (ih (and_parts (can_declare Γ x w) (types_kept p (with_name Γ x (Var w))) h).1)

connected_states : (Γ : Environment) (x : ℕ) (w : Width) (p : Tree)
    → (can_declare Γ x w && types_kept p (with_name Γ x (Chan w None))) ≡ true
    → (types_kept p (with_name Γ x (Chan w None)) ≡ true → KeepsStates (with_name Γ x (Chan w None)) (meaning p))
    → KeepsStates Γ (over_channel x w (meaning p))
connected_states Γ x w p h ih = let k = and_parts (can_declare Γ x w) (types_kept p (with_name Γ x (Chan w None))) h in channel_states Γ x w (meaning p) (fresh_name Γ x w k.0) (ih k.1)

-- ---- the whole language

mutual
  pub part_states : (p : Tree) (Γ : Environment) → types_kept p Γ ≡ true → KeepsStates Γ (meaning p)
  part_states skip Γ h = skip_states Γ
  part_states stop Γ h = stop_states Γ
  part_states (assign xs es) Γ h = assign_states Γ xs es (and_parts (is_pair xs) (pairs_kept Γ xs es) h).1
  part_states (receive c x) Γ h = guard_alone Γ (input c x) h
  part_states (send c e) Γ h = guard_alone Γ (output c e) h
  part_states (seq ps) Γ h = turn_states ps Γ h
  part_states (par ps) Γ h = parallel_states ps Γ h
  part_states (select cs) Γ h = cases_states cs Γ h
  part_states (alt bs) Γ h = alternatives_states Γ (guards bs) (branches_states bs Γ h)
  part_states (declare x w p) Γ h = declared_states Γ x w p h (λ k. part_states p (with_name Γ x (Var w)) k)
  part_states (connect c w p) Γ h = connected_states Γ c w p h (λ k. part_states p (with_name Γ c (Chan w None)) k)

  pub turn_states : (ps : Trees) (Γ : Environment) → all_types_kept ps Γ ≡ true → KeepsStates Γ (in_turn ps)
  turn_states no_tree Γ h = skip_states Γ
  turn_states (and_tree p ps) Γ h = let k = and_parts (types_kept p Γ) (all_types_kept ps Γ) h in followed_states Γ (meaning p) (in_turn ps) (part_states p Γ k.0) (turn_states ps Γ k.1)

  pub parallel_states : (ps : Trees) (Γ : Environment) → all_types_kept ps Γ ≡ true → KeepsStates Γ (at_the_same_time ps)
  parallel_states no_tree Γ h = skip_states Γ
  parallel_states (and_tree p ps) Γ h =
      let k = and_parts (types_kept p Γ) (all_types_kept ps Γ) h in beside_all_states Γ ps (meaning p) (at_the_same_time ps) (part_states p Γ k.0) (parallel_states ps Γ k.1)

  pub cases_states : (cs : Cases) (Γ : Environment) → cases_kept cs Γ ≡ true → KeepsStates Γ (first_choice cs)
  cases_states no_case Γ h = stop_states Γ
  cases_states (and_case e p cs) Γ h =
      let k = and_three (is_condition Γ e) (types_kept p Γ) (cases_kept cs Γ) h in chosen_states Γ e (meaning p) (first_choice cs) (part_states p Γ k.1) (cases_states cs Γ k.2)

  pub branches_states : (bs : Branches) (Γ : Environment) → branches_kept bs Γ ≡ true → KeepStates Γ (guards bs)
  branches_states no_branch Γ h = no_guard_states Γ
  branches_states (and_branch e w p bs) Γ h =
      let k = and_four (is_condition Γ e) (waiting_kept Γ w) (types_kept p Γ) (branches_kept bs Γ) h in
      and_guard_states Γ e w (meaning p) (guards bs) k.1 (part_states p Γ k.2) (branches_states bs Γ k.3)
