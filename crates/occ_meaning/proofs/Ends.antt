-- The events of a part's traces are on the channel ends that it uses.
use Rattle.occ_syntax.specs.occ_base.declared.event.Dir.{Dir}
use Rattle.occ_syntax.specs.occ_base.declared.width.Width.{Width}
use Rattle.occ_meaning.proofs.Facts.{and_four, and_three, clash, either, false_not_true}
use Rattle.occ_meaning.proofs.Refusals.{after_end, unused_below}
use Rattle.occ_meaning.specs.Foundation.{AreOnEnds}
use Rattle.occ_syntax.specs.Eval.{is_true}
use Rattle.occ_syntax.specs.Meaning.{Alternates, Followed, Guards, Meaning, Outcome, Stopped, Taken, Together, Weave, WithChannel, WithVariable, alternatives, and_guard, assigned, at_event, at_once, at_ready, at_the_same_time, beside, beside_all, both_done, chosen, ended, first_choice, followed, guards, in_first, in_second, in_turn, is_silent, meaning, never, no_guard, of_first, of_second, off_channel, over_channel, over_variable, refusing, stable, stopped, taken, together, unseen}
use Rattle.occ_syntax.specs.Names.{end_in_branches, end_in_cases, end_in_some, end_in_waiting, uses_end}
use Rattle.occ_syntax.specs.Scopes.{Environment, Trace, Values, with_name, with_value}
use Rattle.occ_syntax.specs.Tree.{Branches, Cases, Exp, Tree, Trees, Waiting, alt, and_branch, and_case, and_tree, assign, connect, declare, input, no_branch, no_case, no_tree, output, par, receive, select, send, seq, skip, stop, truth}
use Rattle.occ_syntax.specs.Types.{all_types_kept, branches_kept, can_declare, cases_kept, is_condition, types_kept, waiting_kept}
use Rattle.occ_syntax.specs.declared.scope.Kind.TheVariants.{Chan, Var}
use Rattle.std.proofs.Common.{Bool, None, [], false, inl, inr, not, refl, subst, sym, true, ℕ, ◌&&◌, ◌++◌, ◌==◌, ◌||◌, ◌∷◌, ◌≡◌}
use Rattle.std.proofs.lemmas.Bool.{and_from, and_parts, or_left, or_right, true_from_ne_false}

pub on_more : (u v : ℕ → Dir → Bool) → ((c : ℕ) (d : Dir) → u c d ≡ true → v c d ≡ true) → (t : Trace) → AreOnEnds u t → AreOnEnds v t
on_more u v imp [] h = tt
on_more u v imp (e ∷ t) h = (imp e.chan.0 e.dir h.0, on_more u v imp t h.1)

pub on_both : (u : ℕ → Dir → Bool) (t1 t2 : Trace) → AreOnEnds u t1 → AreOnEnds u t2 → AreOnEnds u (t1 ++ t2)
on_both u [] t2 h k = k
on_both u (e ∷ t) t2 h k = (h.0, on_both u t t2 h.1 k)

pub on_woven : (u : ℕ → Dir → Bool) (t1 t2 t : Trace) → Weave t1 t2 t → AreOnEnds u t1 → AreOnEnds u t2 → AreOnEnds u t
on_woven u t1 t2 t both_done h k = tt
on_woven u t1 t2 t (of_first {e} {a} {b} {c} w) h k = (h.0, on_woven u a b c w h.1 k)
on_woven u t1 t2 t (of_second {e} {a} {b} {c} w) h k = (k.0, on_woven u a b c w h k.1)
on_woven u t1 t2 t (unseen {e} {f} {a} {b} {c} i w) h k = on_woven u a b c w h.1 k.1

pub record UsesOnly (u : ℕ → Dir → Bool) (m : Meaning) : Type 0 where
  pub on_ends : (Γ : Environment) (s : Values) (t : Trace) (o : Outcome) → m.does Γ s t o → AreOnEnds u t

pub record UseOnly (u : ℕ → Dir → Bool) (g : Guards) : Type 0 where
  pub on_ends : (Γ : Environment) (s : Values) (t : Trace) (o : Outcome) → g.goes Γ s t o → AreOnEnds u t

pub uses_weaker : (u v : ℕ → Dir → Bool) (m : Meaning) → ((c : ℕ) (d : Dir) → u c d ≡ true → v c d ≡ true) → UsesOnly u m → UsesOnly v m
uses_weaker u v m imp hm = record { on_ends = λ Γ s t o d. on_more u v imp t (hm.on_ends Γ s t o d) }

once_uses : (u : ℕ → Dir → Bool) (f : Environment → Values → Values) → UsesOnly u (at_once f)
once_uses u f = record { on_ends = λ Γ s t o d. let P : Trace → Type 0 = λ r. AreOnEnds u r in subst P (sym d.0) tt }

stopped_uses : (u : ℕ → Dir → Bool) (t : Trace) (o : Outcome) → Stopped t o → AreOnEnds u t
stopped_uses u t o stopped = tt

never_uses : (u : ℕ → Dir → Bool) → UsesOnly u never
never_uses u = record { on_ends = λ Γ s t o d. stopped_uses u t o d }

left_of : (u v : ℕ → Dir → Bool) (c : ℕ) (d : Dir) → u c d ≡ true → (u c d || v c d) ≡ true
left_of u v c d h = or_left (u c d) (v c d) h

right_of : (u v : ℕ → Dir → Bool) (c : ℕ) (d : Dir) → v c d ≡ true → (u c d || v c d) ≡ true
right_of u v c d h = or_right (u c d) (v c d) h

followed_on : (u v : ℕ → Dir → Bool) (m n : Meaning) → UsesOnly u m → UsesOnly v n
    → (Γ : Environment) (s : Values) (t : Trace) (o : Outcome) → Followed m n Γ s t o → AreOnEnds (λ c d. u c d || v c d) t
followed_on u v m n hm hn Γ s t o (in_first {X = X} d) = on_more u (λ c d. u c d || v c d) (left_of u v) t (hm.on_ends Γ s t (refusing X) d)
followed_on u v m n hm hn Γ s t o (in_second t1 t2 s1 e d1 d2) =
    let P : Trace → Type 0 = λ r. AreOnEnds (λ c d. u c d || v c d) r in
    subst P (sym e) (on_both (λ c d. u c d || v c d) t1 t2
    (on_more u (λ c d. u c d || v c d) (left_of u v) t1 (hm.on_ends Γ s t1 (ended s1) d1))
    (on_more v (λ c d. u c d || v c d) (right_of u v) t2 (hn.on_ends Γ s1 t2 o d2)))

pub followed_uses : (u v : ℕ → Dir → Bool) (m n : Meaning) → UsesOnly u m → UsesOnly v n → UsesOnly (λ c d. u c d || v c d) (followed m n)
followed_uses u v m n hm hn = record { on_ends = followed_on u v m n hm hn }

pub chosen_uses : (u v : ℕ → Dir → Bool) (e : Exp) (m n : Meaning) → UsesOnly u m → UsesOnly v n → UsesOnly (λ c d. u c d || v c d) (chosen e m n)
chosen_uses u v e m n hm hn = record {
  on_ends = λ Γ s t o d. either (is_true Γ e s)
      (λ h. on_more u (λ c d. u c d || v c d) (left_of u v) t (hm.on_ends Γ s t o h))
      (λ h. on_more v (λ c d. u c d || v c d) (right_of u v) t (hn.on_ends Γ s t o h)) d;
}

taken_uses : (Γ : Environment) (s : Values) (w : Waiting) (t : Trace) (u : Values) (a : Trace) (v : ℕ → Dir → Bool)
    → ((c : ℕ) (d : Dir) → end_in_waiting w c d ≡ true → v c d ≡ true) → AreOnEnds v a → Taken Γ s w t u a → AreOnEnds v t
taken_uses Γ s w t u a v imp h at_ready = h
taken_uses Γ s w t u a v imp h (at_event {w = b} {e = e} {u = r} k) = (imp e.chan.0 e.dir (after_end Γ s b e r k), h)

pub no_guard_uses : (u : ℕ → Dir → Bool) → UseOnly u no_guard
no_guard_uses u = record { on_ends = λ Γ s t o d. absurd d }

pub and_guard_uses : (u v : ℕ → Dir → Bool) (b : Exp) (w : Waiting) (m : Meaning) (g : Guards) → UsesOnly u m → UseOnly v g
    → UseOnly (λ c d. (end_in_waiting w c d || u c d) || v c d) (and_guard b w m g)
and_guard_uses u v b w m g hm hg =
    let all : ℕ → Dir → Bool = λ c d. (end_in_waiting w c d || u c d) || v c d in
    record {
      on_ends = λ Γ s t o d. elim d [
        | inl k ↦ taken_uses Γ s w t k.1.0 k.1.1 all (λ c e h. or_left (end_in_waiting w c e || u c e) (v c e) (or_left (end_in_waiting w c e) (u c e) h))
            (on_more u all (λ c e h. or_left (end_in_waiting w c e || u c e) (v c e) (or_right (end_in_waiting w c e) (u c e) h)) k.1.1 (hm.on_ends Γ k.1.0 k.1.1 o k.1.3)) k.1.2
        | inr k ↦ on_more v all (λ c e h. or_right (end_in_waiting w c e || u c e) (v c e) h) t (hg.on_ends Γ s t o k)
      ];
    }

alternates_on : (u : ℕ → Dir → Bool) (g : Guards) → UseOnly u g → (Γ : Environment) (s : Values) (t : Trace) (o : Outcome)
    → Alternates g Γ s t o → AreOnEnds u t
alternates_on u g hg Γ s t o (stable d) = tt
alternates_on u g hg Γ s t o (taken d) = hg.on_ends Γ s t o d

pub alternatives_uses : (u : ℕ → Dir → Bool) (g : Guards) → UseOnly u g → UsesOnly u (alternatives g)
alternatives_uses u g hg = record { on_ends = alternates_on u g hg }

together_on : (u v : ℕ → Dir → Bool) (m n : Meaning) → UsesOnly u m → UsesOnly v n
    → (Γ : Environment) (s : Values) (t : Trace) (o : Outcome) → Together m n Γ s t o → AreOnEnds (λ c d. u c d || v c d) t
together_on u v m n hm hn Γ s t o (together t1 t2 o1 o2 woven c d1 d2) =
    on_woven (λ c d. u c d || v c d) t1 t2 t woven
    (on_more u (λ c d. u c d || v c d) (left_of u v) t1 (hm.on_ends Γ s t1 o1 d1))
    (on_more v (λ c d. u c d || v c d) (right_of u v) t2 (hn.on_ends Γ s t2 o2 d2))

pub beside_uses : (u v : ℕ → Dir → Bool) (m n : Meaning) → UsesOnly u m → UsesOnly v n → UsesOnly (λ c d. u c d || v c d) (beside m n)
beside_uses u v m n hm hn = record { on_ends = together_on u v m n hm hn }

variable_on : (u : ℕ → Dir → Bool) (y : ℕ) (w : Width) (m : Meaning) → UsesOnly u m
    → (Γ : Environment) (s : Values) (t : Trace) (o : Outcome) → WithVariable y w m Γ s t o → AreOnEnds u t
variable_on u y w m hm Γ s t o (WithVariable.at_end v s1 lt e d) = hm.on_ends (with_name Γ y (Var w)) (with_value s y v) t (ended s1) d
variable_on u y w m hm Γ s t o (WithVariable.at_rest {X = X} v lt d) = hm.on_ends (with_name Γ y (Var w)) (with_value s y v) t (refusing X) d

pub variable_uses : (u : ℕ → Dir → Bool) (y : ℕ) (w : Width) (m : Meaning) → UsesOnly u m → UsesOnly u (over_variable y w m)
variable_uses u y w m hm = record { on_ends = variable_on u y w m hm }

pub silent_uses : (u : ℕ → Dir → Bool) (b : ℕ) (t : Trace) → is_silent b t ≡ true → AreOnEnds u t → AreOnEnds (λ c d. not (c == b) && u c d) t
silent_uses u b [] h k = tt
silent_uses u b (e ∷ t) h k = let j = and_parts (not (e.chan.0 == b)) (is_silent b t) h in (and_from (not (e.chan.0 == b)) (u e.chan.0 e.dir) j.0 k.0, silent_uses u b t j.1 k.1)

channel_on : (u : ℕ → Dir → Bool) (b : ℕ) (w : Width) (m : Meaning) → UsesOnly u m
    → (Γ : Environment) (s : Values) (t : Trace) (o : Outcome) → WithChannel b w m Γ s t o → AreOnEnds (λ c d. not (c == b) && u c d) t
channel_on u b w m hm Γ s t o (WithChannel.at_end {s1 = r} silent d) = silent_uses u b t silent (hm.on_ends (with_name Γ b (Chan w None)) s t (ended r) d)
channel_on u b w m hm Γ s t o (WithChannel.at_rest {X = X} silent d) = silent_uses u b t silent (hm.on_ends (with_name Γ b (Chan w None)) s t (refusing (off_channel b X)) d)

pub channel_uses : (u : ℕ → Dir → Bool) (b : ℕ) (w : Width) (m : Meaning) → UsesOnly u m
    → UsesOnly (λ c d. not (c == b) && u c d) (over_channel b w m)
channel_uses u b w m hm = record { on_ends = channel_on u b w m hm }

alone_uses : (w : Waiting) → UsesOnly (end_in_waiting w) (alternatives (and_guard (truth true) w (at_once (λ Γ s. s)) no_guard))
alone_uses w =
    let u : ℕ → Dir → Bool = λ c d. false in
    let g = and_guard (truth true) w (at_once (λ Γ s. s)) no_guard in
    uses_weaker (λ c d. (end_in_waiting w c d || false) || false) (end_in_waiting w) (alternatives g) (λ c d h. first_of_three (end_in_waiting w c d) h)
    (alternatives_uses (λ c d. (end_in_waiting w c d || false) || false) g (and_guard_uses u u (truth true) w (at_once (λ Γ s. s)) no_guard (once_uses u (λ Γ s. s)) (no_guard_uses u)))
  where
    first_of_three : (b : Bool) → ((b || false) || false) ≡ true → b ≡ true
    first_of_three true h = refl
    first_of_three false h = false_not_true h

beside_all_uses : (ps : Trees) (m n : Meaning) (u : ℕ → Dir → Bool) → UsesOnly u m → UsesOnly (end_in_some ps) n
    → UsesOnly (λ c d. u c d || end_in_some ps c d) (beside_all ps m n)
beside_all_uses no_tree m n u hm hn = uses_weaker u (λ c d. u c d || false) m (λ c d h. or_left (u c d) false h) hm
beside_all_uses (and_tree p ps) m n u hm hn = beside_uses u (end_in_some (and_tree p ps)) m n hm hn

-- a used end isn't one of a variable that is declared around it
used_below : (p : Tree) (Γ : Environment) (y : ℕ) (w : Width) → types_kept p (with_name Γ y (Var w)) ≡ true → (c : ℕ) (d : Dir) → uses_end p c d ≡ true → (not (c == y) && uses_end p c d) ≡ true
used_below p Γ y w h c d k = true_from_ne_false (not (c == y) && uses_end p c d) (λ e. clash (uses_end p c d) k (unused_below p Γ y w h c d e))

mutual
  pub part_uses : (p : Tree) (Θ : Environment) → types_kept p Θ ≡ true → UsesOnly (uses_end p) (meaning p)
  part_uses skip Θ h = once_uses (λ c d. false) (λ Γ s. s)
  part_uses stop Θ h = never_uses (λ c d. false)
  part_uses (assign xs es) Θ h = once_uses (λ c d. false) (assigned xs es)
  part_uses (receive c x) Θ h = alone_uses (input c x)
  part_uses (send c e) Θ h = alone_uses (output c e)
  part_uses (seq ps) Θ h = turn_uses ps Θ h
  part_uses (par ps) Θ h = parallel_uses ps Θ h
  part_uses (select cs) Θ h = cases_use cs Θ h
  part_uses (alt bs) Θ h = alternatives_uses (end_in_branches bs) (guards bs) (branches_use bs Θ h)
  part_uses (declare x w p) Θ h =
      let k = (and_parts (can_declare Θ x w) (types_kept p (with_name Θ x (Var w))) h).1 in
      uses_weaker (uses_end p) (λ c d. not (c == x) && uses_end p c d) (over_variable x w (meaning p)) (used_below p Θ x w k)
      (variable_uses (uses_end p) x w (meaning p) (part_uses p (with_name Θ x (Var w)) k))
  part_uses (connect c w p) Θ h = channel_uses (uses_end p) c w (meaning p) (part_uses p (with_name Θ c (Chan w None)) (and_parts (can_declare Θ c w) (types_kept p (with_name Θ c (Chan w None))) h).1)

  pub turn_uses : (ps : Trees) (Θ : Environment) → all_types_kept ps Θ ≡ true → UsesOnly (end_in_some ps) (in_turn ps)
  turn_uses no_tree Θ h = once_uses (λ c d. false) (λ Γ s. s)
  turn_uses (and_tree p ps) Θ h =
      let k = and_parts (types_kept p Θ) (all_types_kept ps Θ) h in followed_uses (uses_end p) (end_in_some ps) (meaning p) (in_turn ps) (part_uses p Θ k.0) (turn_uses ps Θ k.1)

  pub parallel_uses : (ps : Trees) (Θ : Environment) → all_types_kept ps Θ ≡ true → UsesOnly (end_in_some ps) (at_the_same_time ps)
  parallel_uses no_tree Θ h = once_uses (λ c d. false) (λ Γ s. s)
  parallel_uses (and_tree p ps) Θ h =
      let k = and_parts (types_kept p Θ) (all_types_kept ps Θ) h in beside_all_uses ps (meaning p) (at_the_same_time ps) (uses_end p) (part_uses p Θ k.0) (parallel_uses ps Θ k.1)

  pub cases_use : (cs : Cases) (Θ : Environment) → cases_kept cs Θ ≡ true → UsesOnly (end_in_cases cs) (first_choice cs)
  cases_use no_case Θ h = never_uses (λ c d. false)
  cases_use (and_case e p cs) Θ h =
      let k = and_three (is_condition Θ e) (types_kept p Θ) (cases_kept cs Θ) h in chosen_uses (uses_end p) (end_in_cases cs) e (meaning p) (first_choice cs) (part_uses p Θ k.1) (cases_use cs Θ k.2)

  pub branches_use : (bs : Branches) (Θ : Environment) → branches_kept bs Θ ≡ true → UseOnly (end_in_branches bs) (guards bs)
  branches_use no_branch Θ h = no_guard_uses (λ c d. false)
  branches_use (and_branch e w p bs) Θ h =
      let k = and_four (is_condition Θ e) (waiting_kept Θ w) (types_kept p Θ) (branches_kept bs Θ) h in
      and_guard_uses (uses_end p) (end_in_branches bs) e w (meaning p) (guards bs) (part_uses p Θ k.2) (branches_use bs Θ k.3)
