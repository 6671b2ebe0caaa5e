-- SAME over meanings: an equivalence that every operator keeps.
-- a refusal lies within the environment; an end has nothing to show
use Rattle.occ_syntax.specs.occ_base.declared.width.Width.{Width}
use Rattle.occ_meaning.proofs.Facts.{both, false_not_true, name_off}
use Rattle.occ_meaning.proofs.States.{KeepsStates, connected_state, declared_state, taken_state}
use Rattle.occ_syntax.specs.Eval.{is_true}
use Rattle.occ_syntax.specs.Meaning.{Alternates, Combines, Followed, Guards, Meaning, Outcome, Together, Weave, WithChannel, WithVariable, alternatives, and_guard, answered, beside, both_ended, chosen, ended, first_ended, followed, in_first, in_second, meaning, neither_ended, no_guard, off_channel, over_channel, over_variable, refused_with, refusing, second_ended, stable, taken, together}
use Rattle.occ_syntax.specs.Same.{HasTrace, SAME}
use Rattle.occ_syntax.specs.Scopes.{Environment, EventSet, IsState, IsWithin, Trace, Values, channel_kind, has_width, in_scope, with_name, with_value}
use Rattle.occ_syntax.specs.Tree.{Exp, Tree, Waiting}
use Rattle.occ_syntax.specs.Types.{waiting_kept}
use Rattle.occ_syntax.specs.declared.scope.Kind.{Kind}
use Rattle.occ_syntax.specs.declared.scope.Kind.TheVariants.{Chan, Var}
use Rattle.std.proofs.Common.{None, Option, ap, false, inl, inr, not, subst, sym, true, ℕ, ◌&&◌, ◌==◌, ◌↔◌, ◌∙◌, ◌≡◌}
use Rattle.std.proofs.lemmas.Bool.{and_parts, not-true, or_cases}
use Rattle.std.proofs.lemmas.Bool.Decides.{eqb_tells}

abbrev pub OutcomeWithin : Environment → Outcome → Type 0
OutcomeWithin Γ (ended s') = Unit {0}
OutcomeWithin Γ (refusing X) = IsWithin Γ X

-- from each state what the first does is done by the second
pub record Into (Γ : Environment) (m n : Meaning) : Type 0 where
  pub into : (s : Values) (t : Trace) (o : Outcome) → IsState Γ s → OutcomeWithin Γ o → m.does Γ s t o → n.does Γ s t o

pub record GuardsInto (Γ : Environment) (g h : Guards) : Type 0 where
  pub first : (s : Values) (X : EventSet) → IsState Γ s → IsWithin Γ X → g.refuses Γ s X → h.refuses Γ s X
  pub later : (s : Values) (t : Trace) (o : Outcome) → IsState Γ s → OutcomeWithin Γ o → g.goes Γ s t o → h.goes Γ s t o

does_forth : (Γ : Environment) (p q : Tree) → SAME Γ p q → (s : Values) (t : Trace) (o : Outcome) → IsState Γ s → OutcomeWithin Γ o
    → (meaning p).does Γ s t o → (meaning q).does Γ s t o
does_forth Γ p q h s t (ended s') state within d = (h.same_ends s t s' state).0 d
does_forth Γ p q h s t (refusing X) state within d = (h.same_failures s t X state within).0 d

does_back : (Γ : Environment) (p q : Tree) → SAME Γ p q → (s : Values) (t : Trace) (o : Outcome) → IsState Γ s → OutcomeWithin Γ o
    → (meaning q).does Γ s t o → (meaning p).does Γ s t o
does_back Γ p q h s t (ended s') state within d = (h.same_ends s t s' state).1 d
does_back Γ p q h s t (refusing X) state within d = (h.same_failures s t X state within).1 d

pub forth : (Γ : Environment) (p q : Tree) → SAME Γ p q → Into Γ (meaning p) (meaning q)
forth Γ p q h = record { into = does_forth Γ p q h }

pub back : (Γ : Environment) (p q : Tree) → SAME Γ p q → Into Γ (meaning q) (meaning p)
back Γ p q h = record { into = does_back Γ p q h }

pub same_from : (Γ : Environment) (p q : Tree) → Into Γ (meaning p) (meaning q) → Into Γ (meaning q) (meaning p) → SAME Γ p q
same_from Γ p q h k = record {
  same_failures = λ s t X state within. (h.into s t (refusing X) state within, k.into s t (refusing X) state within);
  same_ends = λ s t s' state. (h.into s t (ended s') state tt, k.into s t (ended s') state tt);
}

-- ---- an equivalence

pub into_itself : (Γ : Environment) (m : Meaning) → Into Γ m m
into_itself Γ m = record { into = λ s t o state within d. d }

pub into_through : (Γ : Environment) (m n l : Meaning) → Into Γ m n → Into Γ n l → Into Γ m l
into_through Γ m n l h k = record { into = λ s t o state within d. k.into s t o state within (h.into s t o state within d) }

pub same_itself : (Γ : Environment) (p : Tree) → SAME Γ p p
same_itself Γ p = same_from Γ p p (into_itself Γ (meaning p)) (into_itself Γ (meaning p))

pub same_back : (Γ : Environment) (p q : Tree) → SAME Γ p q → SAME Γ q p
same_back Γ p q h = same_from Γ q p (back Γ p q h) (forth Γ p q h)

pub same_through : (Γ : Environment) (p q r : Tree) → SAME Γ p q → SAME Γ q r → SAME Γ p r
same_through Γ p q r h k =
    same_from Γ p r (into_through Γ (meaning p) (meaning q) (meaning r) (forth Γ p q h) (forth Γ q r k))
    (into_through Γ (meaning r) (meaning q) (meaning p) (back Γ q r k) (back Γ p q h))

trace_forth : (Γ : Environment) (p q : Tree) → SAME Γ p q → (s : Values) (t : Trace) → IsState Γ s → HasTrace Γ p s t → HasTrace Γ q s t
trace_forth Γ p q h s t state d = elim d
    [ inl k ↦ inl ((h.same_failures s t (λ e. false) state (λ e j. false_not_true j)).0 k) | inr k ↦ inr (k.0, (h.same_ends s t k.0 state).0 k.1) ]

pub same_traces : (Γ : Environment) (p q : Tree) → SAME Γ p q → (s : Values) (t : Trace) → IsState Γ s → HasTrace Γ p s t ↔ HasTrace Γ q s t
same_traces Γ p q h s t state = (trace_forth Γ p q h s t state, trace_forth Γ q p (same_back Γ p q h) s t state)

-- ---- one operator at a time

pub keeps_through : (Γ : Environment) (m n : Meaning) → Into Γ n m → KeepsStates Γ m → KeepsStates Γ n
keeps_through Γ m n h k = record { state = λ s t s' start d. k.state s t s' start (h.into s t (ended s') start tt d) }

followed_does : (Γ : Environment) (m m' n n' : Meaning) → KeepsStates Γ m → Into Γ m m' → Into Γ n n'
    → (s : Values) (t : Trace) (o : Outcome) → IsState Γ s → OutcomeWithin Γ o → Followed m n Γ s t o → Followed m' n' Γ s t o
followed_does Γ m m' n n' k hm hn s t o state within (in_first {X = X} d) = in_first (hm.into s t (refusing X) state within d)
followed_does Γ m m' n n' k hm hn s t o state within (in_second t1 t2 s1 e d1 d2) = in_second t1 t2 s1 e (hm.into s t1 (ended s1) state tt d1) (hn.into s1 t2 o (k.state s t1 s1 state d1) within d2)

pub followed_into : (Γ : Environment) (m m' n n' : Meaning) → KeepsStates Γ m → Into Γ m m' → Into Γ n n' → Into Γ (followed m n) (followed m' n')
followed_into Γ m m' n n' k hm hn = record { into = followed_does Γ m m' n n' k hm hn }

pub chosen_into : (Γ : Environment) (e : Exp) (m m' n n' : Meaning) → Into Γ m m' → Into Γ n n' → Into Γ (chosen e m n) (chosen e m' n')
chosen_into Γ e m m' n n' hm hn = record { into = λ s t o state within d. both (is_true Γ e s) (λ h. hm.into s t o state within h) (λ h. hn.into s t o state within h) d }

pub no_guard_into : (Γ : Environment) → GuardsInto Γ no_guard no_guard
no_guard_into Γ = record { first = λ s X state within d. d; later = λ s t o state within d. d }

pub and_guard_into : (Γ : Environment) (e : Exp) (w : Waiting) (m m' : Meaning) (g h : Guards) → waiting_kept Γ w ≡ true → Into Γ m m'
    → GuardsInto Γ g h → GuardsInto Γ (and_guard e w m g) (and_guard e w m' h)
and_guard_into Γ e w m m' g h kept hm hg = record {
  first = λ s X state within d. (d.0, hg.first s X state within d.1);
  later = λ s t o state within d. elim d [
    | inl k ↦ inl (k.0, (k.1.0, k.1.1, k.1.2, hm.into k.1.0 k.1.1 o (taken_state Γ s w t k.1.0 k.1.1 kept state k.1.2) within k.1.3))
    | inr k ↦ inr (hg.later s t o state within k)
  ];
}

alternates_into : (Γ : Environment) (g h : Guards) → GuardsInto Γ g h → (s : Values) (t : Trace) (o : Outcome) → IsState Γ s
    → OutcomeWithin Γ o → Alternates g Γ s t o → Alternates h Γ s t o
alternates_into Γ g h k s t o state within (stable {X = X} d) = stable (k.first s X state within d)
alternates_into Γ g h k s t o state within (taken d) = taken (k.later s t o state within d)

pub alternatives_into : (Γ : Environment) (g h : Guards) → GuardsInto Γ g h → Into Γ (alternatives g) (alternatives h)
alternatives_into Γ g h k = record { into = alternates_into Γ g h k }

pub refused_within : (Γ : Environment) (X Y : EventSet) → IsWithin Γ X → IsWithin Γ (refused_with Γ X Y)
refused_within Γ X Y within e h = elim (or_cases (X e) (in_scope Γ e && Y e) h) [ inl k ↦ within e k | inr k ↦ (and_parts (in_scope Γ e) (Y e) k).0 ]

combine_into : (Γ : Environment) (m m' n n' : Meaning) → Into Γ m m' → Into Γ n n' → (s : Values) → IsState Γ s → (t1 t2 t : Trace)
    → Weave t1 t2 t → (o1 o2 o : Outcome) → OutcomeWithin Γ o → m.does Γ s t1 o1 → n.does Γ s t2 o2 → Combines Γ s o1 o2 o
    → Together m' n' Γ s t o
combine_into Γ m m' n n' hm hn s state t1 t2 t woven o1 o2 o within d1 d2 (both_ended {s1 = a} {s2 = b} {s' = r} e) = together t1 t2 (ended a) (ended b) woven (both_ended e) (hm.into s t1 (ended a) state tt d1) (hn.into s t2 (ended b) state tt d2)
combine_into Γ m m' n n' hm hn s state t1 t2 t woven o1 o2 o within d1 d2 (first_ended {s1 = a} {X = X}) = together t1 t2 (ended a) (refusing X) woven first_ended (hm.into s t1 (ended a) state tt d1) (hn.into s t2 (refusing X) state within d2)
combine_into Γ m m' n n' hm hn s state t1 t2 t woven o1 o2 o within d1 d2 (second_ended {s2 = b} {X = X}) = together t1 t2 (refusing X) (ended b) woven second_ended (hm.into s t1 (refusing X) state within d1) (hn.into s t2 (ended b) state tt d2)
combine_into Γ m m' n n' hm hn s state t1 t2 t woven o1 o2 o within d1 d2 (neither_ended X Y) =
    together t1 t2 (refusing (refused_with Γ X Y)) (refusing (refused_with Γ X (answered Y))) woven (neither_ended X Y)
    (hm.into s t1 (refusing (refused_with Γ X Y)) state (refused_within Γ X Y within) d1)
    (hn.into s t2 (refusing (refused_with Γ X (answered Y))) state (refused_within Γ X (answered Y) within) d2)

together_into : (Γ : Environment) (m m' n n' : Meaning) → Into Γ m m' → Into Γ n n' → (s : Values) (t : Trace) (o : Outcome) → IsState Γ s
    → OutcomeWithin Γ o → Together m n Γ s t o → Together m' n' Γ s t o
together_into Γ m m' n n' hm hn s t o state within (together t1 t2 o1 o2 woven c d1 d2) = combine_into Γ m m' n n' hm hn s state t1 t2 t woven o1 o2 o within d1 d2 c

pub beside_into : (Γ : Environment) (m m' n n' : Meaning) → Into Γ m m' → Into Γ n n' → Into Γ (beside m n) (beside m' n')
beside_into Γ m m' n n' hm hn = record { into = together_into Γ m m' n n' hm hn }

within_declared : (Γ : Environment) (x : ℕ) (w : Width) (X : EventSet) → Γ x ≡ None → IsWithin Γ X → IsWithin (with_name Γ x (Var w)) X
within_declared Γ x w X fresh within e h = elim (eqb_tells e.chan.0 x) [
  | inl k ↦ (let P : Option Kind → Type 0 = λ o. has_width (channel_kind o) e.value ≡ true in false_not_true (subst P (ap Γ k.1 ∙ fresh) (within e h)))
  | inr k ↦ (let P : Option Kind → Type 0 = λ o. has_width (channel_kind o) e.value ≡ true in subst P (sym (name_off Γ x (Var w) e.chan.0 k.0)) (within e h))
]

within_connected : (Γ : Environment) (c : ℕ) (w : Width) (X : EventSet) → IsWithin Γ X → IsWithin (with_name Γ c (Chan w None)) (off_channel c X)
within_connected Γ c w X within e h =
    let k = and_parts (not (e.chan.0 == c)) (X e) h in
    let P : Option Kind → Type 0 = λ o. has_width (channel_kind o) e.value ≡ true in
    subst P (sym (name_off Γ c (Chan w None) e.chan.0 (not-true (e.chan.0 == c) k.0))) (within e k.1)

variable_does : (Γ : Environment) (x : ℕ) (w : Width) (m m' : Meaning) → Γ x ≡ None → Into (with_name Γ x (Var w)) m m'
    → (s : Values) (t : Trace) (o : Outcome) → IsState Γ s → OutcomeWithin Γ o → WithVariable x w m Γ s t o → WithVariable x w m' Γ s t o
variable_does Γ x w m m' fresh hm s t o state within (WithVariable.at_end v s1 lt e d) = WithVariable.at_end v s1 lt e (hm.into (with_value s x v) t (ended s1) (declared_state Γ s x w v lt state) tt d)
variable_does Γ x w m m' fresh hm s t o state within (WithVariable.at_rest {X = X} v lt d) = WithVariable.at_rest v lt (hm.into (with_value s x v) t (refusing X) (declared_state Γ s x w v lt state) (within_declared Γ x w X fresh within) d)

pub variable_into : (Γ : Environment) (x : ℕ) (w : Width) (m m' : Meaning) → Γ x ≡ None → Into (with_name Γ x (Var w)) m m'
    → Into Γ (over_variable x w m) (over_variable x w m')
variable_into Γ x w m m' fresh hm = record { into = variable_does Γ x w m m' fresh hm }

channel_does : (Γ : Environment) (c : ℕ) (w : Width) (m m' : Meaning) → Into (with_name Γ c (Chan w None)) m m'
    → (s : Values) (t : Trace) (o : Outcome) → IsState Γ s → OutcomeWithin Γ o → WithChannel c w m Γ s t o → WithChannel c w m' Γ s t o
channel_does Γ c w m m' hm s t o state within (WithChannel.at_end {s1 = r} silent d) = WithChannel.at_end silent (hm.into s t (ended r) (connected_state Γ s c w state) tt d)
channel_does Γ c w m m' hm s t o state within (WithChannel.at_rest {X = X} silent d) = WithChannel.at_rest silent (hm.into s t (refusing (off_channel c X)) (connected_state Γ s c w state) (within_connected Γ c w X within) d)

pub channel_into : (Γ : Environment) (c : ℕ) (w : Width) (m m' : Meaning) → Into (with_name Γ c (Chan w None)) m m'
    → Into Γ (over_channel c w m) (over_channel c w m')
channel_into Γ c w m m' hm = record { into = channel_does Γ c w m m' hm }
