-- What isn't of the environment can be added to each refusal of a well-typed part that begins in a state.
use Rattle.std.proofs.Common.{None, Option, Some, inl, inr, not, subst, sym, true, false, ◌&&◌, ◌==◌, ◌^◌, ◌≡◌, ℕ, ap, ◌∙◌}
use Rattle.std.proofs.lemmas.Bool.{and_from, and_parts, cases_Bool, false_from_ne_true, lt-ltb, not-true, or_cases, or_left, or_right}
use Rattle.occ_syntax.specs.occ_base.Width.{bits_of}
use Rattle.occ_syntax.specs.occ_base.declared.event.Event.{Event}
use Rattle.occ_syntax.specs.occ_base.declared.width.Width.{Width}
use Rattle.occ_compare.proofs.from_meaning.Facts.{and_four, and_three, both, clash, if_false, if_true, name_off}
use Rattle.occ_compare.proofs.from_meaning.States.{KeepsStates, connected_state, declared_state, part_states, taken_state}
use Rattle.occ_compare.proofs.from_meaning.Typing.{eval_below, output_types}
use Rattle.occ_syntax.specs.Eval.{eval, is_true}
use Rattle.occ_syntax.specs.Meaning.{After, Alternates, Combines, Followed, Guards, IsQuiet, Meaning, Outcome, Stopped, Together, Weave, WithChannel, WithVariable, alternatives, and_guard, answered, assigned, at_once, at_the_same_time, beside_all, chosen, ended, first_choice, first_ended, followed, guards, in_first, in_second, in_turn, meaning, neither_ended, never, no_guard, off_channel, refused_with, refusing, second_ended, stable, stopped, taken, together}
use Rattle.occ_syntax.specs.Scopes.{Environment, EventSet, IsState, Trace, Values, channel_kind, has_width, in_scope, with_name, with_value}
use Rattle.occ_syntax.specs.Tree.{Branches, Cases, Exp, Tree, Trees, Waiting, alt, and_branch, and_case, and_tree, assign, connect, declare, input, no_branch, no_case, no_tree, output, par, ready, receive, select, send, seq, skip, stop, truth}
use Rattle.occ_syntax.specs.Types.{all_types_kept, branches_kept, can_declare, cases_kept, is_condition, types_kept, waiting_kept}
use Rattle.occ_syntax.specs.declared.scope.Kind.TheVariants.{Chan, Var}
use Rattle.occ_refine_laws.specs.Wider.{IsWider}

pub record Widens (Γ : Environment) (m : Meaning) : Type 0 where
  pub wider : (s : Values) (t : Trace) (X W : EventSet) → IsState Γ s → IsWider Γ X W → m.does Γ s t (refusing X) → m.does Γ s t (refusing W)

record Widen (Γ : Environment) (g : Guards) : Type 0 where
  first : (s : Values) (X W : EventSet) → IsState Γ s → IsWider Γ X W → g.refuses Γ s X → g.refuses Γ s W
  later : (s : Values) (t : Trace) (X W : EventSet) → IsState Γ s → IsWider Γ X W → g.goes Γ s t (refusing X) → g.goes Γ s t (refusing W)

refusing_is : {A : Type 0} {s : Values} {X : EventSet} → refusing X ≡ ended s → A
refusing_is h = absurd (cc)

once_wider : (Γ : Environment) (f : Environment → Values → Values) → Widens Γ (at_once f)
once_wider Γ f = record { wider = λ s t X W state w d. refusing_is d.1 }

stopped_wider : (t : Trace) (X W : EventSet) → Stopped t (refusing X) → Stopped t (refusing W)
stopped_wider t X W stopped = stopped

never_wider : (Γ : Environment) → Widens Γ never
never_wider Γ = record { wider = λ s t X W state w d. stopped_wider t X W d }

followed_does : (Γ : Environment) (m n : Meaning) → KeepsStates Γ m → Widens Γ m → Widens Γ n → (s : Values) (t : Trace) (X W : EventSet) → IsState Γ s → IsWider Γ X W
    → Followed m n Γ s t (refusing X) → Followed m n Γ s t (refusing W)
followed_does Γ m n k hm hn s t X W state w (in_first d) = in_first (hm.wider s t X W state w d)
followed_does Γ m n k hm hn s t X W state w (in_second t1 t2 s1 e d1 d2) = in_second t1 t2 s1 e d1 (hn.wider s1 t2 X W (k.state s t1 s1 state d1) w d2)

followed_wider : (Γ : Environment) (m n : Meaning) → KeepsStates Γ m → Widens Γ m → Widens Γ n → Widens Γ (followed m n)
followed_wider Γ m n k hm hn = record { wider = followed_does Γ m n k hm hn }

chosen_wider : (Γ : Environment) (e : Exp) (m n : Meaning) → Widens Γ m → Widens Γ n → Widens Γ (chosen e m n)
chosen_wider Γ e m n hm hn = record {
  wider = λ s t X W state w d. both (is_true Γ e s) (λ h. hm.wider s t X W state w h) (λ h. hn.wider s t X W state w h) d;
}

-- ---- guards

after_in_scope : (Γ : Environment) (s : Values) (w : Waiting) (e : Event) (u : Values) → waiting_kept Γ w ≡ true → IsState Γ s
    → After Γ s w e u → in_scope Γ e ≡ true
after_in_scope Γ s ready e u h state a = absurd a
after_in_scope Γ s (input c x) e u h state a = let P : Event → Type 0 = λ f. in_scope Γ f ≡ true in subst P (sym a.2) a.1
after_in_scope Γ s (output c z) e u h state a =
    let k = (output_types Γ c z h).1 in
    let P : Event → Type 0 = λ f. in_scope Γ f ≡ true in
    let Q : Option Width → Type 0 = λ o. has_width o (eval Γ z s) ≡ true in
    subst P (sym a.0) (subst Q (sym k.1) (lt-ltb (eval Γ z s) (2 ^ bits_of k.0) (eval_below Γ s state z k.0 k.2)))

quiet_wider : (Γ : Environment) (s : Values) (w : Waiting) (X W : EventSet) → waiting_kept Γ w ≡ true → IsState Γ s → IsWider Γ X W → IsQuiet Γ s w X → IsQuiet Γ s w W
quiet_wider Γ s w X W h state wider q = record {
  not_ready = q.not_ready;
  refused = λ e u a. false_from_ne_true (W e) (λ k. elim (wider e k) [
    | inl j ↦ clash (X e) j (q.refused e u a)
    | inr j ↦ clash (in_scope Γ e) (after_in_scope Γ s w e u h state a) j
  ]);
}

no_guard_wider : (Γ : Environment) → Widen Γ no_guard
no_guard_wider Γ = record { first = λ s X W state w d. d; later = λ s t X W state w d. absurd d }

and_guard_wider : (Γ : Environment) (b : Exp) (w : Waiting) (m : Meaning) (g : Guards) → waiting_kept Γ w ≡ true → Widens Γ m → Widen Γ g → Widen Γ (and_guard b w m g)
and_guard_wider Γ b w m g h hm hg = record {
  first = λ s X W state wider d. (both (is_true Γ b s) (λ q. quiet_wider Γ s w X W h state wider q) (λ q. q) d.0, hg.first s X W state wider d.1);
  later = λ s t X W state wider d. elim d [
    | inl k ↦ inl (k.0, (k.1.0, k.1.1, k.1.2, hm.wider k.1.0 k.1.1 X W (taken_state Γ s w t k.1.0 k.1.1 h state k.1.2) wider k.1.3))
    | inr k ↦ inr (hg.later s t X W state wider k)
  ];
}

alternates_wider : (Γ : Environment) (g : Guards) → Widen Γ g → (s : Values) (t : Trace) (X W : EventSet) → IsState Γ s → IsWider Γ X W
    → Alternates g Γ s t (refusing X) → Alternates g Γ s t (refusing W)
alternates_wider Γ g hg s t X W state w (stable d) = stable (hg.first s X W state w d)
alternates_wider Γ g hg s t X W state w (taken d) = taken (hg.later s t X W state w d)

alternatives_wider : (Γ : Environment) (g : Guards) → Widen Γ g → Widens Γ (alternatives g)
alternatives_wider Γ g hg = record { wider = alternates_wider Γ g hg }

alone_wider : (Γ : Environment) (w : Waiting) → waiting_kept Γ w ≡ true → Widens Γ (alternatives (and_guard (truth true) w (at_once (λ Δ s. s)) no_guard))
alone_wider Γ w h = alternatives_wider Γ (and_guard (truth true) w (at_once (λ Δ s. s)) no_guard)
    (and_guard_wider Γ (truth true) w (at_once (λ Δ s. s)) no_guard h (once_wider Γ (λ Δ s. s)) (no_guard_wider Γ))

-- ---- PAR

wider_with : (Γ : Environment) (X W Y : EventSet) → IsWider Γ X W → IsWider Γ (refused_with Γ X Y) (refused_with Γ W Y)
wider_with Γ X W Y w e h = elim (or_cases (W e) (in_scope Γ e && Y e) h)
    [ inl k ↦ elim (w e k) [ inl j ↦ inl (or_left (X e) (in_scope Γ e && Y e) j) | inr j ↦ inr j ] | inr k ↦ inl (or_right (X e) (in_scope Γ e && Y e) k) ]

combine_wider : (Γ : Environment) (m n : Meaning) → Widens Γ m → Widens Γ n → (s : Values) (X W : EventSet) → IsState Γ s → IsWider Γ X W
    → (t1 t2 t : Trace) → Weave t1 t2 t → (o1 o2 : Outcome) → m.does Γ s t1 o1 → n.does Γ s t2 o2 → Combines Γ s o1 o2 (refusing X) → Together m n Γ s t (refusing W)
combine_wider Γ m n hm hn s X W state w t1 t2 t woven o1 o2 d1 d2 (first_ended {s1 = a}) =
    together t1 t2 (ended a) (refusing W) woven first_ended d1 (hn.wider s t2 X W state w d2)
combine_wider Γ m n hm hn s X W state w t1 t2 t woven o1 o2 d1 d2 (second_ended {s2 = a}) =
    together t1 t2 (refusing W) (ended a) woven second_ended (hm.wider s t1 X W state w d1) d2
combine_wider Γ m n hm hn s X W state w t1 t2 t woven o1 o2 d1 d2 (neither_ended Z Y) =
    together t1 t2 (refusing (refused_with Γ W Y)) (refusing (refused_with Γ W (answered Y))) woven (neither_ended W Y)
    (hm.wider s t1 (refused_with Γ X Y) (refused_with Γ W Y) state (wider_with Γ X W Y w) d1)
    (hn.wider s t2 (refused_with Γ X (answered Y)) (refused_with Γ W (answered Y)) state (wider_with Γ X W (answered Y) w) d2)

together_wider : (Γ : Environment) (m n : Meaning) → Widens Γ m → Widens Γ n → (s : Values) (t : Trace) (X W : EventSet) → IsState Γ s → IsWider Γ X W
    → Together m n Γ s t (refusing X) → Together m n Γ s t (refusing W)
together_wider Γ m n hm hn s t X W state w (together t1 t2 o1 o2 woven c d1 d2) = combine_wider Γ m n hm hn s X W state w t1 t2 t woven o1 o2 d1 d2 c

beside_all_wider : (Γ : Environment) (ps : Trees) (m n : Meaning) → Widens Γ m → Widens Γ n → Widens Γ (beside_all ps m n)
beside_all_wider Γ no_tree m n hm hn = hm
beside_all_wider Γ (and_tree p ps) m n hm hn = record { wider = together_wider Γ m n hm hn }

-- ---- declarations

-- what isn't of the environment isn't of that with a variable more
variable_outside : (Γ : Environment) (x : ℕ) (w : Width) (e : Event) → in_scope Γ e ≡ false → in_scope (with_name Γ x (Var w)) e ≡ false
variable_outside Γ x w e h = elim (cases_Bool (e.chan.0 == x)) [
  | inl k ↦ ap (λ o. has_width (channel_kind o) e.value) (if_true (e.chan.0 == x) (Some (Var w)) (Γ e.chan.0) k)
  | inr k ↦ ap (λ o. has_width (channel_kind o) e.value) (if_false (e.chan.0 == x) (Some (Var w)) (Γ e.chan.0) k) ∙ h
]

variable_does : (Γ : Environment) (x : ℕ) (w : Width) (m : Meaning) → Widens (with_name Γ x (Var w)) m → (s : Values) (t : Trace) (X W : EventSet) → IsState Γ s → IsWider Γ X W
    → WithVariable x w m Γ s t (refusing X) → WithVariable x w m Γ s t (refusing W)
variable_does Γ x w m hm s t X W state wider (WithVariable.at_rest v lt d) =
    WithVariable.at_rest v lt (hm.wider (with_value s x v) t X W (declared_state Γ s x w v lt state)
    (λ e h. elim (wider e h) [ inl k ↦ inl k | inr k ↦ inr (variable_outside Γ x w e k) ]) d)

-- nor, where it isn't on that channel, of that with a channel more
channel_wider_off : (Γ : Environment) (c : ℕ) (w : Width) (X W : EventSet) → IsWider Γ X W → IsWider (with_name Γ c (Chan w None)) (off_channel c X) (off_channel c W)
channel_wider_off Γ c w X W wider e h =
    let k = and_parts (not (e.chan.0 == c)) (W e) h in
    elim (wider e k.1) [
      | inl j ↦ inl (and_from (not (e.chan.0 == c)) (X e) k.0 j)
      | inr j ↦ inr (ap (λ o. has_width (channel_kind o) e.value) (name_off Γ c (Chan w None) e.chan.0 (not-true (e.chan.0 == c) k.0)) ∙ j)
    ]

channel_does : (Γ : Environment) (c : ℕ) (w : Width) (m : Meaning) → Widens (with_name Γ c (Chan w None)) m → (s : Values) (t : Trace) (X W : EventSet) → IsState Γ s → IsWider Γ X W
    → WithChannel c w m Γ s t (refusing X) → WithChannel c w m Γ s t (refusing W)
channel_does Γ c w m hm s t X W state wider (WithChannel.at_rest silent d) =
    WithChannel.at_rest silent (hm.wider s t (off_channel c X) (off_channel c W) (connected_state Γ s c w state) (channel_wider_off Γ c w X W wider) d)

-- ---- parts

mutual
  pub part_wider : (p : Tree) (Γ : Environment) → types_kept p Γ ≡ true → Widens Γ (meaning p)
  part_wider skip Γ h = once_wider Γ (λ Δ s. s)
  part_wider stop Γ h = never_wider Γ
  part_wider (assign xs es) Γ h = once_wider Γ (assigned xs es)
  part_wider (receive c x) Γ h = alone_wider Γ (input c x) h
  part_wider (send c e) Γ h = alone_wider Γ (output c e) h
  part_wider (seq ps) Γ h = turn_wider ps Γ h
  part_wider (par ps) Γ h = parallel_wider ps Γ h
  part_wider (select cs) Γ h = cases_wider cs Γ h
  part_wider (alt bs) Γ h = alternatives_wider Γ (guards bs) (branches_wider bs Γ h)
  part_wider (declare x w p) Γ h = record { wider = variable_does Γ x w (meaning p) (part_wider p (with_name Γ x (Var w)) (and_parts (can_declare Γ x w) (types_kept p (with_name Γ x (Var w))) h).1) }
  part_wider (connect c w p) Γ h = record { wider = channel_does Γ c w (meaning p) (part_wider p (with_name Γ c (Chan w None)) (and_parts (can_declare Γ c w) (types_kept p (with_name Γ c (Chan w None))) h).1) }

  turn_wider : (ps : Trees) (Γ : Environment) → all_types_kept ps Γ ≡ true → Widens Γ (in_turn ps)
  turn_wider no_tree Γ h = once_wider Γ (λ Δ s. s)
  turn_wider (and_tree p ps) Γ h = let k = and_parts (types_kept p Γ) (all_types_kept ps Γ) h in followed_wider Γ (meaning p) (in_turn ps) (part_states p Γ k.0) (part_wider p Γ k.0) (turn_wider ps Γ k.1)

  parallel_wider : (ps : Trees) (Γ : Environment) → all_types_kept ps Γ ≡ true → Widens Γ (at_the_same_time ps)
  parallel_wider no_tree Γ h = once_wider Γ (λ Δ s. s)
  parallel_wider (and_tree p ps) Γ h = let k = and_parts (types_kept p Γ) (all_types_kept ps Γ) h in beside_all_wider Γ ps (meaning p) (at_the_same_time ps) (part_wider p Γ k.0) (parallel_wider ps Γ k.1)

  cases_wider : (cs : Cases) (Γ : Environment) → cases_kept cs Γ ≡ true → Widens Γ (first_choice cs)
  cases_wider no_case Γ h = never_wider Γ
  cases_wider (and_case e p cs) Γ h = let k = and_three (is_condition Γ e) (types_kept p Γ) (cases_kept cs Γ) h in chosen_wider Γ e (meaning p) (first_choice cs) (part_wider p Γ k.1) (cases_wider cs Γ k.2)

  branches_wider : (bs : Branches) (Γ : Environment) → branches_kept bs Γ ≡ true → Widen Γ (guards bs)
  branches_wider no_branch Γ h = no_guard_wider Γ
  branches_wider (and_branch e w p bs) Γ h =
      let k = and_four (is_condition Γ e) (waiting_kept Γ w) (types_kept p Γ) (branches_kept bs Γ) h in
      and_guard_wider Γ e w (meaning p) (guards bs) k.1 (part_wider p Γ k.2) (branches_wider bs Γ k.3)
