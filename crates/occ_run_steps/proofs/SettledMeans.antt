-- What a control tree comes to without a step does what the tree does.
use Rattle.occ_meaning.specs.occ_base.declared.width.Width.{Width}
use Rattle.occ_meaning.proofs.Beside.{beside_skip, done as skips, skip_added, skip_before, skip_beside}
use Rattle.occ_meaning.proofs.Facts.{false_not_true}
use Rattle.occ_meaning.proofs.OffValues.{value_again, value_back}
use Rattle.occ_meaning.proofs.Sequence.{skip_followed, skip_goes_first}
use Rattle.occ_run_steps.proofs.Same.{SameFrom, beside_same, channel_same, followed_same, holding_same, same_given, same_itself, same_through, same_turned}
use Rattle.occ_run_steps.specs.Controlled.{Holding, all_controlled, controlled, holding}
use Rattle.occ_run_steps.specs.Control.{Control, Controls, after, all_done, and_control, both, channel, done, is_done, local, no_control, unbegun}
use Rattle.occ_run_steps.specs.Settled.{all_settled, begun, begun_all, begun_choice, begun_turn, in_channel, in_variable, settled, side_by_side, then_turn}
use Rattle.occ_meaning.specs.occ_syntax.Eval.{is_true}
use Rattle.occ_meaning.specs.occ_syntax.Meaning.{Meaning, Outcome, WithChannel, at_the_same_time, beside, beside_all, chosen, ended, first_choice, followed, in_turn, is_silent, meaning, never, over_channel, refusing}
use Rattle.occ_meaning.specs.occ_syntax.Scopes.{Environment, EventSet, Trace, Values, with_name, with_value}
use Rattle.occ_meaning.specs.occ_syntax.Tree.{Cases, Exp, Tree, Trees, alt, and_case, and_tree, assign, connect, declare, no_case, no_tree, par, receive, select, send, seq, skip, stop}
use Rattle.occ_meaning.specs.occ_syntax.declared.scope.Kind.TheVariants.{Chan, Var}
use Rattle.std.proofs.Common.{Bool, MatchBool, None, ap, false, if◌then◌else◌, refl, subst, sym, true, ℕ, ◌∙◌, ◌≡◌}
use Rattle.std.proofs.lemmas.Bool.{and_parts}

-- ---- where a part is over

skip_first : (Γ : Environment) (s : Values) (m : Meaning) → SameFrom Γ s m (followed skips m)
skip_first Γ s m = same_given Γ s m (followed skips m) (skip_goes_first Γ m) (skip_followed Γ m)

then_means : (Γ : Environment) (s : Values) (C : Control) (ps : Trees) (next : Control) → SameFrom Γ s (controlled next) (in_turn ps)
    → SameFrom Γ s (controlled (then_turn C ps next)) (followed (controlled C) (in_turn ps))
then_means Γ s done ps next h = same_through Γ s (controlled next) (in_turn ps) (followed skips (in_turn ps)) h (skip_first Γ s (in_turn ps))
then_means Γ s (unbegun p) ps next h = same_itself Γ s (followed (controlled (unbegun p)) (in_turn ps))
then_means Γ s (after C qs) ps next h = same_itself Γ s (followed (controlled (after C qs)) (in_turn ps))
then_means Γ s (both Cs) ps next h = same_itself Γ s (followed (controlled (both Cs)) (in_turn ps))
then_means Γ s (local x w v C) ps next h = same_itself Γ s (followed (controlled (local x w v C)) (in_turn ps))
then_means Γ s (channel c w C) ps next h = same_itself Γ s (followed (controlled (channel c w C)) (in_turn ps))

over_means : (Γ : Environment) (s : Values) (C : Control) → is_done C ≡ true → SameFrom Γ s (controlled C) skips
over_means Γ s done h = same_itself Γ s skips
over_means Γ s (unbegun p) h = false_not_true h
over_means Γ s (after C qs) h = false_not_true h
over_means Γ s (both Cs) h = false_not_true h
over_means Γ s (local x w v C) h = false_not_true h
over_means Γ s (channel c w C) h = false_not_true h

all_over_mean : (Γ : Environment) (s : Values) (Cs : Controls) → all_done Cs ≡ true → SameFrom Γ s (all_controlled Cs) skips
all_over_mean Γ s no_control h = same_itself Γ s skips
all_over_mean Γ s (and_control C Cs) h =
    let k = and_parts (is_done C) (all_done Cs) h in
    same_through Γ s (beside (controlled C) (all_controlled Cs)) (beside skips skips) skips
    (beside_same Γ s (controlled C) skips (all_controlled Cs) skips (over_means Γ s C k.0) (all_over_mean Γ s Cs k.1))
    (same_given Γ s (beside skips skips) skips (skip_beside Γ skips) (skip_before Γ skips))

side_case : (Γ : Environment) (s : Values) (b : Bool) (Cs : Controls) → all_done Cs ≡ b → SameFrom Γ s (controlled (if b then done else both Cs)) (all_controlled Cs)
side_case Γ s true Cs e = same_turned Γ s (all_controlled Cs) skips (all_over_mean Γ s Cs e)
side_case Γ s false Cs e = same_itself Γ s (all_controlled Cs)

side_means : (Γ : Environment) (s : Values) (Cs : Controls) → SameFrom Γ s (controlled (side_by_side Cs)) (all_controlled Cs)
side_means Γ s Cs = side_case Γ s (all_done Cs) Cs refl

held_skip_out : (Γ : Environment) (s : Values) (x : ℕ) (w : Width) (v : ℕ) (t : Trace) (o : Outcome) → Holding x w v skips Γ s t o → skips.does Γ s t o
held_skip_out Γ s x w v t o (Holding.at_end {s' = r} s1 e d) =
    let end : s1 ≡ with_value s x v = ended_is d.1 in
    (d.0, ap ended (e ∙ (ap (λ z. with_value z x (s x)) end ∙ (value_again s x v (s x) ∙ value_back s x))))
  where
    ended_is : {a b : Values} → ended a ≡ ended b → a ≡ b
    ended_is h = cc
held_skip_out Γ s x w v t o (Holding.at_rest {X = X} d) = refusing_ends d.1
  where
    refusing_ends : {A : Type 0} {r : Values} {Z : EventSet} → refusing Z ≡ ended r → A
    refusing_ends h = absurd (cc)

held_skip_in : (Γ : Environment) (s : Values) (x : ℕ) (w : Width) (v : ℕ) (t : Trace) (o : Outcome) → skips.does Γ s t o → Holding x w v skips Γ s t o
held_skip_in Γ s x w v t o d =
    let P : Outcome → Type 0 = λ z. Holding x w v skips Γ s t z in
    subst P (sym d.1) (Holding.at_end (with_value s x v) (sym (value_again s x v (s x) ∙ value_back s x)) (d.0, refl))

variable_means : (Γ : Environment) (s : Values) (x : ℕ) (w : Width) (v : ℕ) (C : Control)
    → SameFrom Γ s (controlled (in_variable x w v C)) (holding x w v (controlled C))
variable_means Γ s x w v done = record { forth = held_skip_in Γ s x w v; back = held_skip_out Γ s x w v }
variable_means Γ s x w v (unbegun p) = same_itself Γ s (controlled (local x w v (unbegun p)))
variable_means Γ s x w v (after C qs) = same_itself Γ s (controlled (local x w v (after C qs)))
variable_means Γ s x w v (both Cs) = same_itself Γ s (controlled (local x w v (both Cs)))
variable_means Γ s x w v (local y u n C) = same_itself Γ s (controlled (local x w v (local y u n C)))
variable_means Γ s x w v (channel c u C) = same_itself Γ s (controlled (local x w v (channel c u C)))

hidden_skip_out : (Γ : Environment) (s : Values) (c : ℕ) (w : Width) (t : Trace) (o : Outcome) → WithChannel c w skips Γ s t o → skips.does Γ s t o
hidden_skip_out Γ s c w t o (WithChannel.at_end silent d) = d
hidden_skip_out Γ s c w t o (WithChannel.at_rest {X = X} silent d) = refusing_ends d.1
  where
    refusing_ends : {A : Type 0} {r : Values} {Z : EventSet} → refusing Z ≡ ended r → A
    refusing_ends h = absurd (cc)

hidden_skip_in : (Γ : Environment) (s : Values) (c : ℕ) (w : Width) (t : Trace) (o : Outcome) → skips.does Γ s t o → WithChannel c w skips Γ s t o
hidden_skip_in Γ s c w t o d =
    let P : Outcome → Type 0 = λ z. WithChannel c w skips Γ s t z in
    let Q : Trace → Type 0 = λ z. is_silent c z ≡ true in
    subst P (sym d.1) (WithChannel.at_end (subst Q (sym d.0) refl) (d.0, refl))

channel_means : (Γ : Environment) (s : Values) (c : ℕ) (w : Width) (C : Control)
    → SameFrom Γ s (controlled (in_channel c w C)) (over_channel c w (controlled C))
channel_means Γ s c w done = record { forth = hidden_skip_in Γ s c w; back = hidden_skip_out Γ s c w }
channel_means Γ s c w (unbegun p) = same_itself Γ s (controlled (channel c w (unbegun p)))
channel_means Γ s c w (after C qs) = same_itself Γ s (controlled (channel c w (after C qs)))
channel_means Γ s c w (both Cs) = same_itself Γ s (controlled (channel c w (both Cs)))
channel_means Γ s c w (local y u n C) = same_itself Γ s (controlled (channel c w (local y u n C)))
channel_means Γ s c w (channel b u C) = same_itself Γ s (controlled (channel c w (channel b u C)))

-- ---- as a process begins

one_part : (Γ : Environment) (s : Values) (m : Meaning) (ps : Trees) → SameFrom Γ s (beside m (at_the_same_time ps)) (beside_all ps m (at_the_same_time ps))
one_part Γ s m no_tree = same_given Γ s (beside m skips) m (beside_skip Γ m) (skip_added Γ m)
one_part Γ s m (and_tree p ps) = same_itself Γ s (beside m (at_the_same_time (and_tree p ps)))

choice_case : (Γ : Environment) (s : Values) (b : Bool) (C D : Control) (m n : Meaning) → SameFrom Γ s (controlled C) m → SameFrom Γ s (controlled D) n
    → SameFrom Γ s (controlled (if b then C else D)) (record { does = λ Δ r t o. MatchBool b (m.does Δ r t o) (n.does Δ r t o) })
choice_case Γ s true C D m n h k = record { forth = h.forth; back = h.back }
choice_case Γ s false C D m n h k = record { forth = k.forth; back = k.back }

choice_means : (Γ : Environment) (s : Values) (e : Exp) (C D : Control) (m n : Meaning) → SameFrom Γ s (controlled C) m → SameFrom Γ s (controlled D) n
    → SameFrom Γ s (controlled (if is_true Γ e s then C else D)) (chosen e m n)
choice_means Γ s e C D m n h k = let i = choice_case Γ s (is_true Γ e s) C D m n h k in record { forth = i.forth; back = i.back }

mutual
  -- a process means what it begins as
  pub begun_means : (Γ : Environment) (s : Values) (p : Tree) → SameFrom Γ s (controlled (begun Γ s p)) (meaning p)
  begun_means Γ s skip = same_itself Γ s (meaning skip)
  begun_means Γ s stop = same_itself Γ s (meaning stop)
  begun_means Γ s (assign xs es) = same_itself Γ s (meaning (assign xs es))
  begun_means Γ s (receive c x) = same_itself Γ s (meaning (receive c x))
  begun_means Γ s (send c e) = same_itself Γ s (meaning (send c e))
  begun_means Γ s (seq ps) = turn_means Γ s ps
  begun_means Γ s (par ps) =
      same_through Γ s (controlled (side_by_side (begun_all Γ s ps))) (all_controlled (begun_all Γ s ps)) (at_the_same_time ps)
      (side_means Γ s (begun_all Γ s ps)) (all_begun_mean Γ s ps)
  begun_means Γ s (select cs) = first_means Γ s cs
  begun_means Γ s (alt bs) = same_itself Γ s (meaning (alt bs))
  begun_means Γ s (declare x w p) = same_itself Γ s (meaning (declare x w p))
  begun_means Γ s (connect c w p) =
      let Δ : Environment = with_name Γ c (Chan w None) in
      same_through Γ s (controlled (in_channel c w (begun Δ s p))) (over_channel c w (controlled (begun Δ s p))) (over_channel c w (meaning p))
      (channel_means Γ s c w (begun Δ s p)) (channel_same Γ s c w (controlled (begun Δ s p)) (meaning p) (begun_means Δ s p))

  -- and so do processes in turn
  pub turn_means : (Γ : Environment) (s : Values) (ps : Trees) → SameFrom Γ s (controlled (begun_turn Γ s ps)) (in_turn ps)
  turn_means Γ s no_tree = same_itself Γ s skips
  turn_means Γ s (and_tree p ps) =
      same_through Γ s (controlled (then_turn (begun Γ s p) ps (begun_turn Γ s ps))) (followed (controlled (begun Γ s p)) (in_turn ps)) (followed (meaning p) (in_turn ps))
      (then_means Γ s (begun Γ s p) ps (begun_turn Γ s ps) (turn_means Γ s ps))
      (followed_same Γ s (controlled (begun Γ s p)) (meaning p) (in_turn ps) (begun_means Γ s p))

  all_begun_mean : (Γ : Environment) (s : Values) (ps : Trees) → SameFrom Γ s (all_controlled (begun_all Γ s ps)) (at_the_same_time ps)
  all_begun_mean Γ s no_tree = same_itself Γ s skips
  all_begun_mean Γ s (and_tree p ps) =
      let m : Meaning = controlled (begun Γ s p) in
      let n : Meaning = all_controlled (begun_all Γ s ps) in
      same_through Γ s (beside m n) (beside (meaning p) (at_the_same_time ps)) (beside_all ps (meaning p) (at_the_same_time ps))
      (beside_same Γ s m (meaning p) n (at_the_same_time ps) (begun_means Γ s p) (all_begun_mean Γ s ps)) (one_part Γ s (meaning p) ps)

  first_means : (Γ : Environment) (s : Values) (cs : Cases) → SameFrom Γ s (controlled (begun_choice Γ s cs)) (first_choice cs)
  first_means Γ s no_case = same_itself Γ s never
  first_means Γ s (and_case e p cs) =
      choice_means Γ s e (begun Γ s p) (begun_choice Γ s cs) (meaning p) (first_choice cs) (begun_means Γ s p) (first_means Γ s cs)

-- ---- a control tree

mutual
  -- a tree means what it comes to
  pub settled_means : (Γ : Environment) (s : Values) (C : Control) → SameFrom Γ s (controlled (settled Γ s C)) (controlled C)
  settled_means Γ s done = same_itself Γ s skips
  settled_means Γ s (unbegun p) = begun_means Γ s p
  settled_means Γ s (after C ps) =
      same_through Γ s (controlled (then_turn (settled Γ s C) ps (begun_turn Γ s ps))) (followed (controlled (settled Γ s C)) (in_turn ps))
      (followed (controlled C) (in_turn ps)) (then_means Γ s (settled Γ s C) ps (begun_turn Γ s ps) (turn_means Γ s ps))
      (followed_same Γ s (controlled (settled Γ s C)) (controlled C) (in_turn ps) (settled_means Γ s C))
  settled_means Γ s (both Cs) =
      same_through Γ s (controlled (side_by_side (all_settled Γ s Cs))) (all_controlled (all_settled Γ s Cs)) (all_controlled Cs)
      (side_means Γ s (all_settled Γ s Cs)) (all_settled_mean Γ s Cs)
  settled_means Γ s (local x w v C) =
      let Δ : Environment = with_name Γ x (Var w) in
      let r : Values = with_value s x v in
      same_through Γ s (controlled (in_variable x w v (settled Δ r C))) (holding x w v (controlled (settled Δ r C))) (holding x w v (controlled C))
      (variable_means Γ s x w v (settled Δ r C)) (holding_same Γ s x w v (controlled (settled Δ r C)) (controlled C) (settled_means Δ r C))
  settled_means Γ s (channel c w C) =
      let Δ : Environment = with_name Γ c (Chan w None) in
      same_through Γ s (controlled (in_channel c w (settled Δ s C))) (over_channel c w (controlled (settled Δ s C))) (over_channel c w (controlled C))
      (channel_means Γ s c w (settled Δ s C)) (channel_same Γ s c w (controlled (settled Δ s C)) (controlled C) (settled_means Δ s C))

  all_settled_mean : (Γ : Environment) (s : Values) (Cs : Controls) → SameFrom Γ s (all_controlled (all_settled Γ s Cs)) (all_controlled Cs)
  all_settled_mean Γ s no_control = same_itself Γ s skips
  all_settled_mean Γ s (and_control C Cs) =
      beside_same Γ s (controlled (settled Γ s C)) (controlled C) (all_controlled (all_settled Γ s Cs)) (all_controlled Cs)
      (settled_means Γ s C) (all_settled_mean Γ s Cs)
