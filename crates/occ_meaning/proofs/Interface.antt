-- The events of a well-typed part are those of its interface, and SAME can be asked over these alone.
use Rattle.occ_syntax.specs.occ_base.Width.{bits_of}
use Rattle.occ_syntax.specs.occ_base.declared.event.Dir.{Dir}
use Rattle.occ_syntax.specs.occ_base.declared.event.Event.{Event}
use Rattle.occ_syntax.specs.occ_base.declared.width.Width.{Width}
use Rattle.occ_meaning.proofs.Ends.{part_uses}
use Rattle.occ_meaning.proofs.Facts.{and_four, and_three, clash, either, false_not_true, if_false, if_true, name_off}
use Rattle.occ_meaning.proofs.Refusals.{Extends, end_in_scope, part_more, part_shrinks}
use Rattle.occ_meaning.proofs.States.{KeepsStates, connected_state, declared_state, part_states, taken_state}
use Rattle.occ_meaning.proofs.Typing.{eval_below, output_types}
use Rattle.occ_meaning.specs.Foundation.{AreOnEnds, AreWithin}
use Rattle.occ_syntax.specs.Eval.{eval, is_true}
use Rattle.occ_syntax.specs.Meaning.{After, Alternates, Followed, Guards, Meaning, Outcome, Stopped, Taken, Together, Weave, WithChannel, WithVariable, alternatives, and_guard, assigned, at_event, at_once, at_ready, at_the_same_time, beside_all, both_done, chosen, ended, ends, fails, first_choice, followed, guards, in_first, in_second, in_turn, is_silent, meaning, never, no_guard, of_first, of_second, off_channel, refusing, stable, stopped, taken, together, unseen}
use Rattle.occ_syntax.specs.Names.{uses_end}
use Rattle.occ_syntax.specs.Same.{SAME}
use Rattle.occ_syntax.specs.Scopes.{Environment, EventSet, IsState, IsWithin, Trace, Values, allows, channel_kind, has_width, in_interface, in_scope, with_name, with_value}
use Rattle.occ_syntax.specs.Tree.{Branches, Cases, Exp, Tree, Trees, Waiting, alt, and_branch, and_case, and_tree, assign, connect, declare, input, no_branch, no_case, no_tree, output, par, ready, receive, select, send, seq, skip, stop, truth}
use Rattle.occ_syntax.specs.Types.{all_types_kept, branches_kept, can_declare, cases_kept, is_condition, types_kept, waiting_kept}
use Rattle.occ_syntax.specs.declared.scope.Kind.{Kind}
use Rattle.occ_syntax.specs.declared.scope.Kind.TheVariants.{Chan, Var}
use Rattle.std.proofs.Common.{Bool, None, Option, Some, [], inl, inr, not, subst, sym, true, ℕ, ◌&&◌, ◌++◌, ◌==◌, ◌^◌, ◌↔◌, ◌∷◌, ◌≡◌}
use Rattle.std.proofs.lemmas.Bool.{and_from, and_parts, cases_Bool, lt-ltb, not-true, true_from_ne_false}

pub within_more : (X Y : EventSet) → ((e : Event) → X e ≡ true → Y e ≡ true) → (t : Trace) → AreWithin X t → AreWithin Y t
within_more X Y imp [] h = tt
within_more X Y imp (e ∷ t) h = (imp e h.0, within_more X Y imp t h.1)

within_both : (X : EventSet) (t1 t2 : Trace) → AreWithin X t1 → AreWithin X t2 → AreWithin X (t1 ++ t2)
within_both X [] t2 h k = k
within_both X (e ∷ t) t2 h k = (h.0, within_both X t t2 h.1 k)

within_woven : (X : EventSet) (t1 t2 t : Trace) → Weave t1 t2 t → AreWithin X t1 → AreWithin X t2 → AreWithin X t
within_woven X t1 t2 t both_done h k = tt
within_woven X t1 t2 t (of_first {a = x} {b = y} {c = z} w) h k = (h.0, within_woven X x y z w h.1 k)
within_woven X t1 t2 t (of_second {a = x} {b = y} {c = z} w) h k = (k.0, within_woven X x y z w h k.1)
within_woven X t1 t2 t (unseen {a = x} {b = y} {c = z} i w) h k = within_woven X x y z w h.1 k.1

within_at : (X : EventSet) (t r : Trace) → t ≡ r → AreWithin X r → AreWithin X t
within_at X t r e h = let P : Trace → Type 0 = λ z. AreWithin X z in subst P (sym e) h

-- ---- the events are in scope

pub record StaysInScope (Γ : Environment) (m : Meaning) : Type 0 where
  pub within : (s : Values) (t : Trace) (o : Outcome) → IsState Γ s → m.does Γ s t o → AreWithin (in_scope Γ) t

pub record StayInScope (Γ : Environment) (g : Guards) : Type 0 where
  pub within : (s : Values) (t : Trace) (o : Outcome) → IsState Γ s → g.goes Γ s t o → AreWithin (in_scope Γ) t

once_stays : (Γ : Environment) (f : Environment → Values → Values) → StaysInScope Γ (at_once f)
once_stays Γ f = record { within = λ s t o state d. within_at (in_scope Γ) t [] d.0 tt }

stopped_within : (X : EventSet) (t : Trace) (o : Outcome) → Stopped t o → AreWithin X t
stopped_within X t o stopped = tt

never_stays : (Γ : Environment) → StaysInScope Γ never
never_stays Γ = record { within = λ s t o state d. stopped_within (in_scope Γ) t o d }

followed_within : (Γ : Environment) (m n : Meaning) → KeepsStates Γ m → StaysInScope Γ m → StaysInScope Γ n
    → (s : Values) (t : Trace) (o : Outcome) → IsState Γ s → Followed m n Γ s t o → AreWithin (in_scope Γ) t
followed_within Γ m n k hm hn s t o state (in_first {X = X} d) = hm.within s t (refusing X) state d
followed_within Γ m n k hm hn s t o state (in_second t1 t2 s1 e d1 d2) =
    within_at (in_scope Γ) t (t1 ++ t2) e (within_both (in_scope Γ) t1 t2 (hm.within s t1 (ended s1) state d1) (hn.within s1 t2 o (k.state s t1 s1 state d1) d2))

followed_stays : (Γ : Environment) (m n : Meaning) → KeepsStates Γ m → StaysInScope Γ m → StaysInScope Γ n → StaysInScope Γ (followed m n)
followed_stays Γ m n k hm hn = record { within = followed_within Γ m n k hm hn }

chosen_stays : (Γ : Environment) (e : Exp) (m n : Meaning) → StaysInScope Γ m → StaysInScope Γ n → StaysInScope Γ (chosen e m n)
chosen_stays Γ e m n hm hn = record { within = λ s t o state d. either (is_true Γ e s) (λ h. hm.within s t o state h) (λ h. hn.within s t o state h) d }

after_in_scope : (Γ : Environment) (s : Values) (w : Waiting) (e : Event) (u : Values) → waiting_kept Γ w ≡ true → IsState Γ s
    → After Γ s w e u → in_scope Γ e ≡ true
after_in_scope Γ s ready e u h state a = absurd a
after_in_scope Γ s (input c x) e u h state a = let P : Event → Type 0 = λ f. in_scope Γ f ≡ true in subst P (sym a.2) a.1
after_in_scope Γ s (output c z) e u h state a =
    let k = (output_types Γ c z h).1 in
    let P : Event → Type 0 = λ f. in_scope Γ f ≡ true in
    let Q : Option Width → Type 0 = λ o. has_width o (eval Γ z s) ≡ true in
    subst P (sym a.0) (subst Q (sym k.1) (lt-ltb (eval Γ z s) (2 ^ bits_of k.0) (eval_below Γ s state z k.0 k.2)))

taken_in_scope : (Γ : Environment) (s : Values) (w : Waiting) (t : Trace) (u : Values) (a : Trace) → waiting_kept Γ w ≡ true → IsState Γ s
    → Taken Γ s w t u a → AreWithin (in_scope Γ) a → AreWithin (in_scope Γ) t
taken_in_scope Γ s w t u a h state at_ready k = k
taken_in_scope Γ s w t u a h state (at_event {w = b} {e = e} {u = r} after) k = (after_in_scope Γ s b e r h state after, k)

no_guard_stays : (Γ : Environment) → StayInScope Γ no_guard
no_guard_stays Γ = record { within = λ s t o state d. absurd d }

and_guard_stays : (Γ : Environment) (e : Exp) (w : Waiting) (m : Meaning) (g : Guards) → waiting_kept Γ w ≡ true → StaysInScope Γ m
    → StayInScope Γ g → StayInScope Γ (and_guard e w m g)
and_guard_stays Γ e w m g h hm hg = record {
  within = λ s t o state d. elim d [
    | inl k ↦ taken_in_scope Γ s w t k.1.0 k.1.1 h state k.1.2 (hm.within k.1.0 k.1.1 o (taken_state Γ s w t k.1.0 k.1.1 h state k.1.2) k.1.3)
    | inr k ↦ hg.within s t o state k
  ];
}

alternates_within : (Γ : Environment) (g : Guards) → StayInScope Γ g → (s : Values) (t : Trace) (o : Outcome) → IsState Γ s
    → Alternates g Γ s t o → AreWithin (in_scope Γ) t
alternates_within Γ g hg s t o state (stable d) = tt
alternates_within Γ g hg s t o state (taken d) = hg.within s t o state d

alternatives_stay : (Γ : Environment) (g : Guards) → StayInScope Γ g → StaysInScope Γ (alternatives g)
alternatives_stay Γ g hg = record { within = alternates_within Γ g hg }

together_within : (Γ : Environment) (m n : Meaning) → StaysInScope Γ m → StaysInScope Γ n → (s : Values) (t : Trace) (o : Outcome)
    → IsState Γ s → Together m n Γ s t o → AreWithin (in_scope Γ) t
together_within Γ m n hm hn s t o state (together t1 t2 o1 o2 w c d1 d2) = within_woven (in_scope Γ) t1 t2 t w (hm.within s t1 o1 state d1) (hn.within s t2 o2 state d2)

beside_all_stays : (Γ : Environment) (ps : Trees) (m n : Meaning) → StaysInScope Γ m → StaysInScope Γ n → StaysInScope Γ (beside_all ps m n)
beside_all_stays Γ no_tree m n hm hn = hm
beside_all_stays Γ (and_tree p ps) m n hm hn = record { within = together_within Γ m n hm hn }

-- an event of the scope of a variable is one of the scope around it
out_of_variable : (Γ : Environment) (x : ℕ) (w : Width) (e : Event) → in_scope (with_name Γ x (Var w)) e ≡ true → in_scope Γ e ≡ true
out_of_variable Γ x w e h =
    let P : Option Kind → Type 0 = λ o. has_width (channel_kind o) e.value ≡ true in
    elim (cases_Bool (e.chan.0 == x)) [
      | inl k ↦ false_not_true (subst P (if_true (e.chan.0 == x) (Some (Var w)) (Γ e.chan.0) k) h)
      | inr k ↦ subst P (if_false (e.chan.0 == x) (Some (Var w)) (Γ e.chan.0) k) h
    ]

variable_within : (Γ : Environment) (x : ℕ) (w : Width) (m : Meaning) → StaysInScope (with_name Γ x (Var w)) m
    → (s : Values) (t : Trace) (o : Outcome) → IsState Γ s → WithVariable x w m Γ s t o → AreWithin (in_scope Γ) t
variable_within Γ x w m hm s t o state (WithVariable.at_end v s1 lt e d) =
    within_more (in_scope (with_name Γ x (Var w))) (in_scope Γ) (out_of_variable Γ x w) t (hm.within (with_value s x v) t (ended s1) (declared_state Γ s x w v lt state) d)
variable_within Γ x w m hm s t o state (WithVariable.at_rest {X = X} v lt d) =
    within_more (in_scope (with_name Γ x (Var w))) (in_scope Γ) (out_of_variable Γ x w) t (hm.within (with_value s x v) t (refusing X) (declared_state Γ s x w v lt state) d)

out_of_channel : (Γ : Environment) (c : ℕ) (w : Width) (t : Trace) → is_silent c t ≡ true
    → AreWithin (in_scope (with_name Γ c (Chan w None))) t → AreWithin (in_scope Γ) t
out_of_channel Γ c w [] silent h = tt
out_of_channel Γ c w (e ∷ t) silent h =
    let k = and_parts (not (e.chan.0 == c)) (is_silent c t) silent in
    let P : Option Kind → Type 0 = λ o. has_width (channel_kind o) e.value ≡ true in
    (subst P (name_off Γ c (Chan w None) e.chan.0 (not-true (e.chan.0 == c) k.0)) h.0, out_of_channel Γ c w t k.1 h.1)

channel_within : (Γ : Environment) (c : ℕ) (w : Width) (m : Meaning) → StaysInScope (with_name Γ c (Chan w None)) m
    → (s : Values) (t : Trace) (o : Outcome) → IsState Γ s → WithChannel c w m Γ s t o → AreWithin (in_scope Γ) t
channel_within Γ c w m hm s t o state (WithChannel.at_end {s1 = r} silent d) = out_of_channel Γ c w t silent (hm.within s t (ended r) (connected_state Γ s c w state) d)
channel_within Γ c w m hm s t o state (WithChannel.at_rest {X = X} silent d) = out_of_channel Γ c w t silent (hm.within s t (refusing (off_channel c X)) (connected_state Γ s c w state) d)

alone_stays : (Γ : Environment) (w : Waiting) → waiting_kept Γ w ≡ true
    → StaysInScope Γ (alternatives (and_guard (truth true) w (at_once (λ Δ s. s)) no_guard))
alone_stays Γ w h = alternatives_stay Γ (and_guard (truth true) w (at_once (λ Δ s. s)) no_guard) (and_guard_stays Γ (truth true) w (at_once (λ Δ s. s)) no_guard h (once_stays Γ (λ Δ s. s)) (no_guard_stays Γ))

mutual
  pub part_stays : (p : Tree) (Γ : Environment) → types_kept p Γ ≡ true → StaysInScope Γ (meaning p)
  part_stays skip Γ h = once_stays Γ (λ Δ s. s)
  part_stays stop Γ h = never_stays Γ
  part_stays (assign xs es) Γ h = once_stays Γ (assigned xs es)
  part_stays (receive c x) Γ h = alone_stays Γ (input c x) h
  part_stays (send c e) Γ h = alone_stays Γ (output c e) h
  part_stays (seq ps) Γ h = turn_stays ps Γ h
  part_stays (par ps) Γ h = parallel_stays ps Γ h
  part_stays (select cs) Γ h = cases_stay cs Γ h
  part_stays (alt bs) Γ h = alternatives_stay Γ (guards bs) (branches_stay bs Γ h)
  part_stays (declare x w p) Γ h = record { within = variable_within Γ x w (meaning p) (part_stays p (with_name Γ x (Var w)) (and_parts (can_declare Γ x w) (types_kept p (with_name Γ x (Var w))) h).1) }
  part_stays (connect c w p) Γ h = record { within = channel_within Γ c w (meaning p) (part_stays p (with_name Γ c (Chan w None)) (and_parts (can_declare Γ c w) (types_kept p (with_name Γ c (Chan w None))) h).1) }

  turn_stays : (ps : Trees) (Γ : Environment) → all_types_kept ps Γ ≡ true → StaysInScope Γ (in_turn ps)
  turn_stays no_tree Γ h = once_stays Γ (λ Δ s. s)
  turn_stays (and_tree p ps) Γ h = let k = and_parts (types_kept p Γ) (all_types_kept ps Γ) h in followed_stays Γ (meaning p) (in_turn ps) (part_states p Γ k.0) (part_stays p Γ k.0) (turn_stays ps Γ k.1)

  parallel_stays : (ps : Trees) (Γ : Environment) → all_types_kept ps Γ ≡ true → StaysInScope Γ (at_the_same_time ps)
  parallel_stays no_tree Γ h = once_stays Γ (λ Δ s. s)
  parallel_stays (and_tree p ps) Γ h = let k = and_parts (types_kept p Γ) (all_types_kept ps Γ) h in beside_all_stays Γ ps (meaning p) (at_the_same_time ps) (part_stays p Γ k.0) (parallel_stays ps Γ k.1)

  cases_stay : (cs : Cases) (Γ : Environment) → cases_kept cs Γ ≡ true → StaysInScope Γ (first_choice cs)
  cases_stay no_case Γ h = never_stays Γ
  cases_stay (and_case e p cs) Γ h = let k = and_three (is_condition Γ e) (types_kept p Γ) (cases_kept cs Γ) h in chosen_stays Γ e (meaning p) (first_choice cs) (part_stays p Γ k.1) (cases_stay cs Γ k.2)

  branches_stay : (bs : Branches) (Γ : Environment) → branches_kept bs Γ ≡ true → StayInScope Γ (guards bs)
  branches_stay no_branch Γ h = no_guard_stays Γ
  branches_stay (and_branch e w p bs) Γ h =
      let k = and_four (is_condition Γ e) (waiting_kept Γ w) (types_kept p Γ) (branches_kept bs Γ) h in and_guard_stays Γ e w (meaning p) (guards bs) k.1 (part_stays p Γ k.2) (branches_stay bs Γ k.3)

-- ---- and on ends that the marks allow

in_both : (Γ : Environment) (u : ℕ → Dir → Bool) → ((c : ℕ) (d : Dir) → u c d ≡ true → allows (Γ c) d ≡ true) → (t : Trace)
    → AreWithin (in_scope Γ) t → AreOnEnds u t → AreWithin (in_interface Γ) t
in_both Γ u allowed [] h k = tt
in_both Γ u allowed (e ∷ t) h k = (and_from (in_scope Γ e) (allows (Γ e.chan.0) e.dir) h.0 (allowed e.chan.0 e.dir k.0), in_both Γ u allowed t h.1 k.1)

pub used_allowed : (p : Tree) (Γ : Environment) → types_kept p Γ ≡ true → (c : ℕ) (d : Dir) → uses_end p c d ≡ true → allows (Γ c) d ≡ true
used_allowed p Γ h c d k = true_from_ne_false (allows (Γ c) d) (λ e. clash (uses_end p c d) k (end_in_scope p Γ h c d e))

pub part_in_interface : (Γ : Environment) (p : Tree) → types_kept p Γ ≡ true → (s : Values) (t : Trace) (o : Outcome) → IsState Γ s
    → (meaning p).does Γ s t o → AreWithin (in_interface Γ) t
part_in_interface Γ p h s t o state d =
    in_both Γ (uses_end p) (used_allowed p Γ h) t ((part_stays p Γ h).within s t o state d) ((part_uses p Γ h).on_ends Γ s t o d)

-- ---- SAME over the interface

not_in_interface : (Γ : Environment) (p : Tree) → types_kept p Γ ≡ true → (X : EventSet) → IsWithin Γ X
    → Extends (uses_end p) (λ e. X e && in_interface Γ e) X
not_in_interface Γ p h X within e k = elim (cases_Bool (allows (Γ e.chan.0) e.dir)) [
  | inl yes_e ↦ inl (and_from (X e) (in_interface Γ e) k (and_from (in_scope Γ e) (allows (Γ e.chan.0) e.dir) (within e k) yes_e))
  | inr no_e ↦ inr (end_in_scope p Γ h e.chan.0 e.dir no_e)
]

over_interface : (Γ : Environment) (p q : Tree) → types_kept q Γ ≡ true
    → ((s : Values) (t : Trace) (X : EventSet) → IsState Γ s → ((e : Event) → X e ≡ true → in_interface Γ e ≡ true) → fails Γ p s t X → fails Γ q s t X)
    → (s : Values) (t : Trace) (X : EventSet) → IsState Γ s → IsWithin Γ X → fails Γ p s t X → fails Γ q s t X
over_interface Γ p q h same s t X state within d =
    let Y : EventSet = λ e. X e && in_interface Γ e in
    (part_more q Γ h).more Γ s t Y X (not_in_interface Γ q h X within)
    (same s t Y state (λ e k. (and_parts (X e) (in_interface Γ e) k).1) ((part_shrinks p).more Γ s t X Y (λ e k. inl (and_parts (X e) (in_interface Γ e) k).0) d))

pub same_over_interface : (Γ : Environment) (p q : Tree) → types_kept p Γ ≡ true → types_kept q Γ ≡ true
    → ((s : Values) (t : Trace) (X : EventSet) → IsState Γ s → ((e : Event) → X e ≡ true → in_interface Γ e ≡ true) → fails Γ p s t X ↔ fails Γ q s t X)
    → ((s : Values) (t : Trace) (s' : Values) → IsState Γ s → ends Γ p s t s' ↔ ends Γ q s t s') → SAME Γ p q
same_over_interface Γ p q hp hq failures endings = record {
  same_failures = λ s t X state within.
      (over_interface Γ p q hq (λ r u Y k i. (failures r u Y k i).0) s t X state within, over_interface Γ q p hp (λ r u Y k i. (failures r u Y k i).1) s t X state within);
  same_ends = endings;
}
