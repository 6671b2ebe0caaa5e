-- A refusal may lose events, and may gain those on channel ends that the part doesn't use.
-- ---- which ends a part can use
use Rattle.occ_syntax.specs.occ_base.declared.event.Dir.{Dir}
use Rattle.occ_syntax.specs.occ_base.declared.event.Dir.TheVariants.{Input, Output}
use Rattle.occ_syntax.specs.occ_base.declared.event.Event.{Event}
use Rattle.occ_syntax.specs.occ_base.declared.width.Width.{Width}
use Rattle.occ_meaning.proofs.Facts.{and_four, and_second, and_three, at_itself, both, clash, if_true, name_off, or_three, same_dirs, true_not_false}
use Rattle.occ_meaning.proofs.Frame.{not_and}
use Rattle.occ_meaning.proofs.Typing.{input_types, output_types}
use Rattle.occ_syntax.specs.Eval.{is_true}
use Rattle.occ_syntax.specs.Meaning.{After, Alternates, Combines, Followed, Guards, IsQuiet, Meaning, Outcome, Stopped, Together, Weave, WithChannel, WithVariable, alternatives, and_guard, answered, assigned, at_once, at_the_same_time, beside, beside_all, chosen, ended, first_choice, first_ended, followed, guards, in_first, in_second, in_turn, meaning, neither_ended, never, no_guard, off_channel, over_channel, over_variable, refused_with, refusing, second_ended, stable, stopped, taken, together}
use Rattle.occ_syntax.specs.Names.{end_in_branches, end_in_cases, end_in_some, end_in_waiting, uses_end}
use Rattle.occ_syntax.specs.Scopes.{Environment, EventSet, Trace, Values, allows, in_scope, same_dir, with_name, with_value}
use Rattle.occ_syntax.specs.Tree.{Branches, Cases, Exp, Tree, Trees, Waiting, alt, and_branch, and_case, and_tree, assign, connect, declare, input, no_branch, no_case, no_tree, output, par, ready, receive, select, send, seq, skip, stop, truth}
use Rattle.occ_syntax.specs.Types.{all_types_kept, branches_kept, can_declare, cases_kept, is_condition, types_kept, waiting_kept}
use Rattle.occ_syntax.specs.declared.scope.Kind.{Kind}
use Rattle.occ_syntax.specs.declared.scope.Kind.TheVariants.{Chan, Var}
use Rattle.std.proofs.Common.{Bool, None, Some, ap, false, inl, inr, not, refl, subst, sym, true, ℕ, ◌&&◌, ◌==◌, ◌||◌, ◌∙◌, ◌≡◌, ◌⊎◌}
use Rattle.std.proofs.lemmas.Bool.{and_from, and_parts, cases_Bool, eqb-true, false_from_ne_true, not_from_false, or_cases, or_from, or_left, or_parts, or_right}

end_allowed : (Γ : Environment) (b c : ℕ) (d e : Dir) → allows (Γ b) e ≡ true → allows (Γ c) d ≡ false → (c == b && same_dir d e) ≡ false
end_allowed Γ b c d e yes_b no_c = false_from_ne_true (c == b && same_dir d e)
    (λ h. let k = and_parts (c == b) (same_dir d e) h in
    let P : ℕ → Type 0 = λ n. allows (Γ n) d ≡ false in
    let Q : Dir → Type 0 = λ n. allows (Γ b) n ≡ false in
    clash (allows (Γ b) e) yes_b (subst Q (same_dirs d e k.1) (subst P (eqb-true c b k.0) no_c)))

end_in_waiting_allowed : (Γ : Environment) (c : ℕ) (d : Dir) → allows (Γ c) d ≡ false → (w : Waiting) → waiting_kept Γ w ≡ true
    → end_in_waiting w c d ≡ false
end_in_waiting_allowed Γ c d k ready h = refl
end_in_waiting_allowed Γ c d k (input b y) h = end_allowed Γ b c d Input (input_types Γ b y h).0 k
end_in_waiting_allowed Γ c d k (output b e) h = end_allowed Γ b c d Output (output_types Γ b e h).0 k

still_not_allowed : (Γ : Environment) (c y : ℕ) (kind : Kind) (d : Dir) → allows (Γ c) d ≡ false → (c == y) ≡ false
    → allows (with_name Γ y kind c) d ≡ false
still_not_allowed Γ c y kind d k off = ap (λ o. allows o d) (name_off Γ y kind c off) ∙ k

-- an end that the environment doesn't allow isn't used
mutual
  pub end_in_scope : (p : Tree) (Γ : Environment) → types_kept p Γ ≡ true → (c : ℕ) (d : Dir) → allows (Γ c) d ≡ false → uses_end p c d ≡ false
  end_in_scope skip Γ h c d k = refl
  end_in_scope stop Γ h c d k = refl
  end_in_scope (assign xs es) Γ h c d k = refl
  end_in_scope (receive b y) Γ h c d k = end_in_waiting_allowed Γ c d k (input b y) h
  end_in_scope (send b e) Γ h c d k = end_in_waiting_allowed Γ c d k (output b e) h
  end_in_scope (seq ps) Γ h c d k = some_end_in_scope ps Γ h c d k
  end_in_scope (par ps) Γ h c d k = some_end_in_scope ps Γ h c d k
  end_in_scope (select cs) Γ h c d k = case_end_in_scope cs Γ h c d k
  end_in_scope (alt bs) Γ h c d k = branch_end_in_scope bs Γ h c d k
  end_in_scope (declare y w p) Γ h c d k = not_and (c == y) (uses_end p c d)
      (λ off. end_in_scope p (with_name Γ y (Var w)) (and_parts (can_declare Γ y w) (types_kept p (with_name Γ y (Var w))) h).1 c d (still_not_allowed Γ c y (Var w) d k off))
  end_in_scope (connect y w p) Γ h c d k = not_and (c == y) (uses_end p c d)
      (λ off. end_in_scope p (with_name Γ y (Chan w None)) (and_parts (can_declare Γ y w) (types_kept p (with_name Γ y (Chan w None))) h).1 c d (still_not_allowed Γ c y (Chan w None) d k off))

  pub some_end_in_scope : (ps : Trees) (Γ : Environment) → all_types_kept ps Γ ≡ true → (c : ℕ) (d : Dir) → allows (Γ c) d ≡ false
      → end_in_some ps c d ≡ false
  some_end_in_scope no_tree Γ h c d k = refl
  some_end_in_scope (and_tree p ps) Γ h c d k =
      let j = and_parts (types_kept p Γ) (all_types_kept ps Γ) h in or_from (uses_end p c d) (end_in_some ps c d) (end_in_scope p Γ j.0 c d k) (some_end_in_scope ps Γ j.1 c d k)

  pub case_end_in_scope : (cs : Cases) (Γ : Environment) → cases_kept cs Γ ≡ true → (c : ℕ) (d : Dir) → allows (Γ c) d ≡ false
      → end_in_cases cs c d ≡ false
  case_end_in_scope no_case Γ h c d k = refl
  case_end_in_scope (and_case e p cs) Γ h c d k =
      let j = and_three (is_condition Γ e) (types_kept p Γ) (cases_kept cs Γ) h in or_from (uses_end p c d) (end_in_cases cs c d) (end_in_scope p Γ j.1 c d k) (case_end_in_scope cs Γ j.2 c d k)

  pub branch_end_in_scope : (bs : Branches) (Γ : Environment) → branches_kept bs Γ ≡ true → (c : ℕ) (d : Dir) → allows (Γ c) d ≡ false
      → end_in_branches bs c d ≡ false
  branch_end_in_scope no_branch Γ h c d k = refl
  branch_end_in_scope (and_branch e w p bs) Γ h c d k =
      let j = and_four (is_condition Γ e) (waiting_kept Γ w) (types_kept p Γ) (branches_kept bs Γ) h in
      or_from (end_in_waiting w c d || uses_end p c d) (end_in_branches bs c d)
      (or_from (end_in_waiting w c d) (uses_end p c d) (end_in_waiting_allowed Γ c d k w j.1) (end_in_scope p Γ j.2 c d k))
      (branch_end_in_scope bs Γ j.3 c d k)

-- under a variable of that name no end is used
pub unused_below : (p : Tree) (Γ : Environment) (y : ℕ) (w : Width) → types_kept p (with_name Γ y (Var w)) ≡ true → (c : ℕ) (d : Dir)
    → (not (c == y) && uses_end p c d) ≡ false → uses_end p c d ≡ false
unused_below p Γ y w h c d k = elim (cases_Bool (c == y)) [
  | inl e ↦ end_in_scope p (with_name Γ y (Var w)) h c d (ap (λ o. allows o d) (if_true (c == y) (Some (Var w)) (Γ c) e))
  | inr e ↦ and_second (not (c == y)) (uses_end p c d) k (not_from_false (c == y) e)
]

-- ---- refusals, one operator at a time

-- W has only events of X and events on ends that u doesn't have
abbrev pub Extends : (ℕ → Dir → Bool) → EventSet → EventSet → Type 0
Extends u X W = (e : Event) → W e ≡ true → (X e ≡ true) ⊎ (u e.chan.0 e.dir ≡ false)

pub record RefusesMore (u : ℕ → Dir → Bool) (m : Meaning) : Type 0 where
  pub more : (Γ : Environment) (s : Values) (t : Trace) (X W : EventSet) → Extends u X W → m.does Γ s t (refusing X) → m.does Γ s t (refusing W)

pub record RefuseMore (u : ℕ → Dir → Bool) (g : Guards) : Type 0 where
  pub first : (Γ : Environment) (s : Values) (X W : EventSet) → Extends u X W → g.refuses Γ s X → g.refuses Γ s W
  pub later : (Γ : Environment) (s : Values) (t : Trace) (X W : EventSet) → Extends u X W → g.goes Γ s t (refusing X) → g.goes Γ s t (refusing W)

extends_left : (u v : ℕ → Dir → Bool) (X W : EventSet) → Extends (λ c d. u c d || v c d) X W → Extends u X W
extends_left u v X W ext e h = elim (ext e h) [ inl k ↦ inl k | inr k ↦ inr (or_parts (u e.chan.0 e.dir) (v e.chan.0 e.dir) k).0 ]

extends_right : (u v : ℕ → Dir → Bool) (X W : EventSet) → Extends (λ c d. u c d || v c d) X W → Extends v X W
extends_right u v X W ext e h = elim (ext e h) [ inl k ↦ inl k | inr k ↦ inr (or_parts (u e.chan.0 e.dir) (v e.chan.0 e.dir) k).1 ]

-- with more ends there is less to gain
pub more_weaker : (u v : ℕ → Dir → Bool) (m : Meaning) → ((c : ℕ) (d : Dir) → v c d ≡ false → u c d ≡ false) → RefusesMore u m → RefusesMore v m
more_weaker u v m imp hm = record { more = λ Γ s t X W ext d. hm.more Γ s t X W (λ e h. elim (ext e h) [ inl k ↦ inl k | inr k ↦ inr (imp e.chan.0 e.dir k) ]) d }

refusing_is : {A : Type 0} {s : Values} {X : EventSet} → refusing X ≡ ended s → A
refusing_is h = absurd (cc)

pub once_more : (u : ℕ → Dir → Bool) (f : Environment → Values → Values) → RefusesMore u (at_once f)
once_more u f = record { more = λ Γ s t X W ext d. refusing_is d.1 }

stopped_more : (t : Trace) (X W : EventSet) → Stopped t (refusing X) → Stopped t (refusing W)
stopped_more t X W stopped = stopped

pub never_more : (u : ℕ → Dir → Bool) → RefusesMore u never
never_more u = record { more = λ Γ s t X W ext d. stopped_more t X W d }

followed_does_more : (u v : ℕ → Dir → Bool) (m n : Meaning) → RefusesMore u m → RefusesMore v n
    → (Γ : Environment) (s : Values) (t : Trace) (X W : EventSet) → Extends (λ c d. u c d || v c d) X W → Followed m n Γ s t (refusing X)
    → Followed m n Γ s t (refusing W)
followed_does_more u v m n hm hn Γ s t X W ext (in_first d) = in_first (hm.more Γ s t X W (extends_left u v X W ext) d)
followed_does_more u v m n hm hn Γ s t X W ext (in_second t1 t2 s1 e d1 d2) = in_second t1 t2 s1 e d1 (hn.more Γ s1 t2 X W (extends_right u v X W ext) d2)

pub followed_more : (u v : ℕ → Dir → Bool) (m n : Meaning) → RefusesMore u m → RefusesMore v n → RefusesMore (λ c d. u c d || v c d) (followed m n)
followed_more u v m n hm hn = record { more = followed_does_more u v m n hm hn }

pub chosen_more : (u v : ℕ → Dir → Bool) (e : Exp) (m n : Meaning) → RefusesMore u m → RefusesMore v n
    → RefusesMore (λ c d. u c d || v c d) (chosen e m n)
chosen_more u v e m n hm hn = record {
  more = λ Γ s t X W ext d.
      both (is_true Γ e s) (λ h. hm.more Γ s t X W (extends_left u v X W ext) h) (λ h. hn.more Γ s t X W (extends_right u v X W ext) h) d;
}

-- an event behind a guard is on the guard's end
pub after_end : (Γ : Environment) (s : Values) (w : Waiting) (e : Event) (u : Values) → After Γ s w e u → end_in_waiting w e.chan.0 e.dir ≡ true
after_end Γ s ready e u a = absurd a
after_end Γ s (input c x) e u a =
    let P : Event → Type 0 = λ f. (f.chan.0 == c && same_dir f.dir Input) ≡ true in subst P (sym a.2) (and_from (c == c) true (at_itself c) refl)
after_end Γ s (output c z) e u a =
    let P : Event → Type 0 = λ f. (f.chan.0 == c && same_dir f.dir Output) ≡ true in subst P (sym a.0) (and_from (c == c) true (at_itself c) refl)

quiet_more : (Γ : Environment) (s : Values) (w : Waiting) (X W : EventSet)
    → ((e : Event) → W e ≡ true → (X e ≡ true) ⊎ (end_in_waiting w e.chan.0 e.dir ≡ false)) → IsQuiet Γ s w X → IsQuiet Γ s w W
quiet_more Γ s w X W ext q = record {
  not_ready = q.not_ready;
  refused = λ e u a. false_from_ne_true (W e) (λ h. elim (ext e h) [ inl k ↦ clash (X e) k (q.refused e u a) | inr k ↦ clash (end_in_waiting w e.chan.0 e.dir) (after_end Γ s w e u a) k ]);
}

pub no_guard_more : (u : ℕ → Dir → Bool) → RefuseMore u no_guard
no_guard_more u = record { first = λ Γ s X W ext d. d; later = λ Γ s t X W ext d. absurd d }

extends_guard : (u v : ℕ → Dir → Bool) (w : Waiting) (X W : EventSet) → Extends (λ c d. (end_in_waiting w c d || u c d) || v c d) X W
    → (e : Event) → W e ≡ true → (X e ≡ true) ⊎ (end_in_waiting w e.chan.0 e.dir ≡ false)
extends_guard u v w X W ext e h = elim (ext e h) [ inl k ↦ inl k | inr k ↦ inr (or_three (end_in_waiting w e.chan.0 e.dir) (u e.chan.0 e.dir) (v e.chan.0 e.dir) k).0 ]

extends_process : (u v : ℕ → Dir → Bool) (w : Waiting) (X W : EventSet) → Extends (λ c d. (end_in_waiting w c d || u c d) || v c d) X W
    → Extends u X W
extends_process u v w X W ext e h = elim (ext e h) [ inl k ↦ inl k | inr k ↦ inr (or_three (end_in_waiting w e.chan.0 e.dir) (u e.chan.0 e.dir) (v e.chan.0 e.dir) k).1 ]

extends_others : (u v : ℕ → Dir → Bool) (w : Waiting) (X W : EventSet) → Extends (λ c d. (end_in_waiting w c d || u c d) || v c d) X W → Extends v X W
extends_others u v w X W ext e h = elim (ext e h) [ inl k ↦ inl k | inr k ↦ inr (or_three (end_in_waiting w e.chan.0 e.dir) (u e.chan.0 e.dir) (v e.chan.0 e.dir) k).2 ]

pub and_guard_more : (u v : ℕ → Dir → Bool) (b : Exp) (w : Waiting) (m : Meaning) (g : Guards) → RefusesMore u m → RefuseMore v g
    → RefuseMore (λ c d. (end_in_waiting w c d || u c d) || v c d) (and_guard b w m g)
and_guard_more u v b w m g hm hg = record {
  first = λ Γ s X W ext d. (both (is_true Γ b s) (λ q. quiet_more Γ s w X W (extends_guard u v w X W ext) q) (λ q. q) d.0, hg.first Γ s X W (extends_others u v w X W ext) d.1);
  later = λ Γ s t X W ext d. elim d [
    | inl k ↦ inl (k.0, (k.1.0, k.1.1, k.1.2, hm.more Γ k.1.0 k.1.1 X W (extends_process u v w X W ext) k.1.3))
    | inr k ↦ inr (hg.later Γ s t X W (extends_others u v w X W ext) k)
  ];
}

alternates_more : (u : ℕ → Dir → Bool) (g : Guards) → RefuseMore u g → (Γ : Environment) (s : Values) (t : Trace) (X W : EventSet)
    → Extends u X W → Alternates g Γ s t (refusing X) → Alternates g Γ s t (refusing W)
alternates_more u g hg Γ s t X W ext (stable d) = stable (hg.first Γ s X W ext d)
alternates_more u g hg Γ s t X W ext (taken d) = taken (hg.later Γ s t X W ext d)

pub alternatives_more : (u : ℕ → Dir → Bool) (g : Guards) → RefuseMore u g → RefusesMore u (alternatives g)
alternatives_more u g hg = record { more = alternates_more u g hg }

-- what both sets of a stable pair extend to
extends_with : (u : ℕ → Dir → Bool) (Γ : Environment) (X W Y : EventSet) → Extends u X W → Extends u (refused_with Γ X Y) (refused_with Γ W Y)
extends_with u Γ X W Y ext e h = elim (or_cases (W e) (in_scope Γ e && Y e) h)
    [ inl k ↦ elim (ext e k) [ inl j ↦ inl (or_left (X e) (in_scope Γ e && Y e) j) | inr j ↦ inr j ] | inr k ↦ inl (or_right (X e) (in_scope Γ e && Y e) k) ]

combine_more : (u v : ℕ → Dir → Bool) (m n : Meaning) → RefusesMore u m → RefusesMore v n → (Γ : Environment) (s : Values) (X W : EventSet)
    → Extends (λ c d. u c d || v c d) X W
    → (t1 t2 t : Trace) → Weave t1 t2 t → (o1 o2 : Outcome) → m.does Γ s t1 o1 → n.does Γ s t2 o2 → Combines Γ s o1 o2 (refusing X) → Together m n Γ s t (refusing W)
combine_more u v m n hm hn Γ s X W ext t1 t2 t woven o1 o2 d1 d2 (first_ended {s1 = a}) =
    together t1 t2 (ended a) (refusing W) woven first_ended d1 (hn.more Γ s t2 X W (extends_right u v X W ext) d2)
combine_more u v m n hm hn Γ s X W ext t1 t2 t woven o1 o2 d1 d2 (second_ended {s2 = a}) =
    together t1 t2 (refusing W) (ended a) woven second_ended (hm.more Γ s t1 X W (extends_left u v X W ext) d1) d2
combine_more u v m n hm hn Γ s X W ext t1 t2 t woven o1 o2 d1 d2 (neither_ended Z Y) =
    together t1 t2 (refusing (refused_with Γ W Y)) (refusing (refused_with Γ W (answered Y))) woven (neither_ended W Y)
    (hm.more Γ s t1 (refused_with Γ X Y) (refused_with Γ W Y) (extends_with u Γ X W Y (extends_left u v X W ext)) d1)
    (hn.more Γ s t2 (refused_with Γ X (answered Y)) (refused_with Γ W (answered Y)) (extends_with v Γ X W (answered Y) (extends_right u v X W ext)) d2)

together_more : (u v : ℕ → Dir → Bool) (m n : Meaning) → RefusesMore u m → RefusesMore v n
    → (Γ : Environment) (s : Values) (t : Trace) (X W : EventSet) → Extends (λ c d. u c d || v c d) X W → Together m n Γ s t (refusing X)
    → Together m n Γ s t (refusing W)
together_more u v m n hm hn Γ s t X W ext (together t1 t2 o1 o2 woven c d1 d2) = combine_more u v m n hm hn Γ s X W ext t1 t2 t woven o1 o2 d1 d2 c

pub beside_more : (u v : ℕ → Dir → Bool) (m n : Meaning) → RefusesMore u m → RefusesMore v n → RefusesMore (λ c d. u c d || v c d) (beside m n)
beside_more u v m n hm hn = record { more = together_more u v m n hm hn }

variable_does_more : (u : ℕ → Dir → Bool) (y : ℕ) (w : Width) (m : Meaning) → RefusesMore u m
    → (Γ : Environment) (s : Values) (t : Trace) (X W : EventSet) → Extends u X W → WithVariable y w m Γ s t (refusing X)
    → WithVariable y w m Γ s t (refusing W)
variable_does_more u y w m hm Γ s t X W ext (WithVariable.at_rest v lt d) = WithVariable.at_rest v lt (hm.more (with_name Γ y (Var w)) (with_value s y v) t X W ext d)

pub variable_more : (u : ℕ → Dir → Bool) (y : ℕ) (w : Width) (m : Meaning) → RefusesMore u m → RefusesMore u (over_variable y w m)
variable_more u y w m hm = record { more = variable_does_more u y w m hm }

extends_off : (u : ℕ → Dir → Bool) (b : ℕ) (X W : EventSet) → Extends (λ c d. not (c == b) && u c d) X W
    → Extends u (off_channel b X) (off_channel b W)
extends_off u b X W ext e h =
    let k = and_parts (not (e.chan.0 == b)) (W e) h in
    elim (ext e k.1) [ inl j ↦ inl (and_from (not (e.chan.0 == b)) (X e) k.0 j) | inr j ↦ inr (and_second (not (e.chan.0 == b)) (u e.chan.0 e.dir) j k.0) ]

channel_does_more : (u : ℕ → Dir → Bool) (b : ℕ) (w : Width) (m : Meaning) → RefusesMore u m
    → (Γ : Environment) (s : Values) (t : Trace) (X W : EventSet) → Extends (λ c d. not (c == b) && u c d) X W
    → WithChannel b w m Γ s t (refusing X) → WithChannel b w m Γ s t (refusing W)
channel_does_more u b w m hm Γ s t X W ext (WithChannel.at_rest silent d) = WithChannel.at_rest silent (hm.more (with_name Γ b (Chan w None)) s t (off_channel b X) (off_channel b W) (extends_off u b X W ext) d)

pub channel_more : (u : ℕ → Dir → Bool) (b : ℕ) (w : Width) (m : Meaning) → RefusesMore u m
    → RefusesMore (λ c d. not (c == b) && u c d) (over_channel b w m)
channel_more u b w m hm = record { more = channel_does_more u b w m hm }

-- ---- every part refuses each subset of what it refuses

abbrev every_end : ℕ → Dir → Bool
every_end c d = true

abbrev pub Shrinks : Meaning → Type 0
Shrinks m = RefusesMore every_end m

shrinks : (u : ℕ → Dir → Bool) (m : Meaning) → RefusesMore u m → Shrinks m
shrinks u m hm = more_weaker u every_end m (λ c d h. true_not_false h) hm

guard_shrinks : (b : Exp) (w : Waiting) (m : Meaning) (g : Guards) → Shrinks m → RefuseMore every_end g → RefuseMore every_end (and_guard b w m g)
guard_shrinks b w m g hm hg =
    let k = and_guard_more every_end every_end b w m g hm hg in
    record {
      first = λ Γ s X W ext d. k.first Γ s X W (λ e h. elim (ext e h) [ inl j ↦ inl j | inr j ↦ true_not_false j ]) d;
      later = λ Γ s t X W ext d. k.later Γ s t X W (λ e h. elim (ext e h) [ inl j ↦ inl j | inr j ↦ true_not_false j ]) d;
    }

alone_shrinks : (w : Waiting) → Shrinks (alternatives (and_guard (truth true) w (at_once (λ Γ s. s)) no_guard))
alone_shrinks w = alternatives_more every_end (and_guard (truth true) w (at_once (λ Γ s. s)) no_guard) (guard_shrinks (truth true) w (at_once (λ Γ s. s)) no_guard (once_more every_end (λ Γ s. s)) (no_guard_more every_end))

beside_all_shrinks : (ps : Trees) (m n : Meaning) → Shrinks m → Shrinks n → Shrinks (beside_all ps m n)
beside_all_shrinks no_tree m n hm hn = hm
beside_all_shrinks (and_tree p ps) m n hm hn = beside_more every_end every_end m n hm hn

mutual
  pub part_shrinks : (p : Tree) → RefusesMore (λ c d. true) (meaning p)
  part_shrinks skip = once_more every_end (λ Γ s. s)
  part_shrinks stop = never_more every_end
  part_shrinks (assign xs es) = once_more every_end (assigned xs es)
  part_shrinks (receive c x) = alone_shrinks (input c x)
  part_shrinks (send c e) = alone_shrinks (output c e)
  part_shrinks (seq ps) = turn_shrinks ps
  part_shrinks (par ps) = parallel_shrinks ps
  part_shrinks (select cs) = cases_shrink cs
  part_shrinks (alt bs) = alternatives_more every_end (guards bs) (branches_shrink bs)
  part_shrinks (declare x w p) = variable_more every_end x w (meaning p) (part_shrinks p)
  part_shrinks (connect c w p) = shrinks (λ b d. not (b == c) && true) (over_channel c w (meaning p)) (channel_more every_end c w (meaning p) (part_shrinks p))

  pub turn_shrinks : (ps : Trees) → RefusesMore (λ c d. true) (in_turn ps)
  turn_shrinks no_tree = once_more every_end (λ Γ s. s)
  turn_shrinks (and_tree p ps) = followed_more every_end every_end (meaning p) (in_turn ps) (part_shrinks p) (turn_shrinks ps)

  pub parallel_shrinks : (ps : Trees) → RefusesMore (λ c d. true) (at_the_same_time ps)
  parallel_shrinks no_tree = once_more every_end (λ Γ s. s)
  parallel_shrinks (and_tree p ps) = beside_all_shrinks ps (meaning p) (at_the_same_time ps) (part_shrinks p) (parallel_shrinks ps)

  pub cases_shrink : (cs : Cases) → RefusesMore (λ c d. true) (first_choice cs)
  cases_shrink no_case = never_more every_end
  cases_shrink (and_case e p cs) = chosen_more every_end every_end e (meaning p) (first_choice cs) (part_shrinks p) (cases_shrink cs)

  pub branches_shrink : (bs : Branches) → RefuseMore (λ c d. true) (guards bs)
  branches_shrink no_branch = no_guard_more every_end
  branches_shrink (and_branch e w p bs) = guard_shrinks e w (meaning p) (guards bs) (part_shrinks p) (branches_shrink bs)

-- ---- and every event on an end that it doesn't use

alone_more : (w : Waiting) → RefusesMore (end_in_waiting w) (alternatives (and_guard (truth true) w (at_once (λ Γ s. s)) no_guard))
alone_more w =
    let u : ℕ → Dir → Bool = λ c d. false in
    let g = and_guard (truth true) w (at_once (λ Γ s. s)) no_guard in
    more_weaker (λ c d. (end_in_waiting w c d || false) || false) (end_in_waiting w) (alternatives g)
    (λ c d h. or_from (end_in_waiting w c d || false) false (or_from (end_in_waiting w c d) false h refl) refl)
    (alternatives_more (λ c d. (end_in_waiting w c d || false) || false) g (and_guard_more u u (truth true) w (at_once (λ Γ s. s)) no_guard (once_more u (λ Γ s. s)) (no_guard_more u)))

beside_all_more : (ps : Trees) (m n : Meaning) (u : ℕ → Dir → Bool) → RefusesMore u m → RefusesMore (end_in_some ps) n
    → RefusesMore (λ c d. u c d || end_in_some ps c d) (beside_all ps m n)
beside_all_more no_tree m n u hm hn = more_weaker u (λ c d. u c d || false) m (λ c d h. (or_parts (u c d) false h).0) hm
beside_all_more (and_tree p ps) m n u hm hn = beside_more u (end_in_some (and_tree p ps)) m n hm hn

mutual
  pub part_more : (p : Tree) (Θ : Environment) → types_kept p Θ ≡ true → RefusesMore (uses_end p) (meaning p)
  part_more skip Θ h = once_more (λ c d. false) (λ Γ s. s)
  part_more stop Θ h = never_more (λ c d. false)
  part_more (assign xs es) Θ h = once_more (λ c d. false) (assigned xs es)
  part_more (receive c x) Θ h = alone_more (input c x)
  part_more (send c e) Θ h = alone_more (output c e)
  part_more (seq ps) Θ h = turn_more ps Θ h
  part_more (par ps) Θ h = parallel_more ps Θ h
  part_more (select cs) Θ h = cases_more cs Θ h
  part_more (alt bs) Θ h = alternatives_more (end_in_branches bs) (guards bs) (branches_more bs Θ h)
  part_more (declare x w p) Θ h =
      let k = (and_parts (can_declare Θ x w) (types_kept p (with_name Θ x (Var w))) h).1 in
      more_weaker (uses_end p) (λ c d. not (c == x) && uses_end p c d) (over_variable x w (meaning p)) (unused_below p Θ x w k)
      (variable_more (uses_end p) x w (meaning p) (part_more p (with_name Θ x (Var w)) k))
  part_more (connect c w p) Θ h = channel_more (uses_end p) c w (meaning p) (part_more p (with_name Θ c (Chan w None)) (and_parts (can_declare Θ c w) (types_kept p (with_name Θ c (Chan w None))) h).1)

  pub turn_more : (ps : Trees) (Θ : Environment) → all_types_kept ps Θ ≡ true → RefusesMore (end_in_some ps) (in_turn ps)
  turn_more no_tree Θ h = once_more (λ c d. false) (λ Γ s. s)
  turn_more (and_tree p ps) Θ h =
      let k = and_parts (types_kept p Θ) (all_types_kept ps Θ) h in followed_more (uses_end p) (end_in_some ps) (meaning p) (in_turn ps) (part_more p Θ k.0) (turn_more ps Θ k.1)

  pub parallel_more : (ps : Trees) (Θ : Environment) → all_types_kept ps Θ ≡ true → RefusesMore (end_in_some ps) (at_the_same_time ps)
  parallel_more no_tree Θ h = once_more (λ c d. false) (λ Γ s. s)
  parallel_more (and_tree p ps) Θ h =
      let k = and_parts (types_kept p Θ) (all_types_kept ps Θ) h in beside_all_more ps (meaning p) (at_the_same_time ps) (uses_end p) (part_more p Θ k.0) (parallel_more ps Θ k.1)

  pub cases_more : (cs : Cases) (Θ : Environment) → cases_kept cs Θ ≡ true → RefusesMore (end_in_cases cs) (first_choice cs)
  cases_more no_case Θ h = never_more (λ c d. false)
  cases_more (and_case e p cs) Θ h =
      let k = and_three (is_condition Θ e) (types_kept p Θ) (cases_kept cs Θ) h in chosen_more (uses_end p) (end_in_cases cs) e (meaning p) (first_choice cs) (part_more p Θ k.1) (cases_more cs Θ k.2)

  pub branches_more : (bs : Branches) (Θ : Environment) → branches_kept bs Θ ≡ true → RefuseMore (end_in_branches bs) (guards bs)
  branches_more no_branch Θ h = no_guard_more (λ c d. false)
  branches_more (and_branch e w p bs) Θ h =
      let k = and_four (is_condition Θ e) (waiting_kept Θ w) (types_kept p Θ) (branches_kept bs Θ) h in
      and_guard_more (uses_end p) (end_in_branches bs) e w (meaning p) (guards bs) (part_more p Θ k.2) (branches_more bs Θ k.3)
