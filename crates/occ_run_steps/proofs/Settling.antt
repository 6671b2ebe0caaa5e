-- Settling ends, and does nothing twice.
use Rattle.occ_meaning.specs.occ_base.declared.width.Width.{Width}
use Rattle.occ_run_steps.specs.Control.{Control, Controls, after, all_done, and_control, both, channel, done, is_done, local, no_control, unbegun}
use Rattle.occ_run_steps.specs.Settled.{all_are_settled, all_settled, begun, begun_all, begun_choice, begun_turn, in_channel, in_variable, is_settled, settled, side_by_side, then_turn, waits}
use Rattle.occ_meaning.specs.occ_syntax.Eval.{is_true}
use Rattle.occ_meaning.specs.occ_syntax.Scopes.{Environment, Values, with_name, with_value}
use Rattle.occ_meaning.specs.occ_syntax.Tree.{Cases, Tree, Trees, alt, and_case, and_tree, assign, connect, declare, no_case, no_tree, par, receive, select, send, seq, skip, stop}
use Rattle.occ_meaning.specs.occ_syntax.declared.scope.Kind.TheVariants.{Chan, Var}
use Rattle.std.proofs.Common.{Bool, None, ap, false, if◌then◌else◌, not, refl, true, ℕ, ◌∙◌, ◌≡◌}
use Rattle.std.proofs.lemmas.Bool.{and_from, and_parts, false≢true}

-- ---- nothing is left to settle

then_settled : (C : Control) (ps : Trees) (next : Control) → is_settled C ≡ true → is_settled next ≡ true → is_settled (then_turn C ps next) ≡ true
then_settled done ps next h k = k
then_settled (unbegun p) ps next h k = h
then_settled (after C qs) ps next h k = h
then_settled (both Cs) ps next h k = h
then_settled (local x w v C) ps next h k = h
then_settled (channel c w C) ps next h k = h

side_case : (b : Bool) (Cs : Controls) → all_done Cs ≡ b → all_are_settled Cs ≡ true → is_settled (if b then done else both Cs) ≡ true
side_case true Cs e h = refl
side_case false Cs e h = and_from (not (all_done Cs)) (all_are_settled Cs) (ap not e) h

variable_settled : (x : ℕ) (w : Width) (v : ℕ) (C : Control) → is_settled C ≡ true → is_settled (in_variable x w v C) ≡ true
variable_settled x w v done h = refl
variable_settled x w v (unbegun p) h = h
variable_settled x w v (after C qs) h = h
variable_settled x w v (both Cs) h = h
variable_settled x w v (local y u n C) h = h
variable_settled x w v (channel c u C) h = h

channel_settled : (c : ℕ) (w : Width) (C : Control) → is_settled C ≡ true → is_settled (in_channel c w C) ≡ true
channel_settled c w done h = refl
channel_settled c w (unbegun p) h = h
channel_settled c w (after C qs) h = h
channel_settled c w (both Cs) h = h
channel_settled c w (local y u n C) h = h
channel_settled c w (channel b u C) h = h

either_settled : (b : Bool) (C D : Control) → is_settled C ≡ true → is_settled D ≡ true → is_settled (if b then C else D) ≡ true
either_settled true C D h k = h
either_settled false C D h k = k

mutual
  pub begun_settled : (Γ : Environment) (s : Values) (p : Tree) → is_settled (begun Γ s p) ≡ true
  begun_settled Γ s skip = refl
  begun_settled Γ s stop = refl
  begun_settled Γ s (assign xs es) = refl
  begun_settled Γ s (receive c x) = refl
  begun_settled Γ s (send c e) = refl
  begun_settled Γ s (seq ps) = turn_settled Γ s ps
  begun_settled Γ s (par ps) = side_case (all_done (begun_all Γ s ps)) (begun_all Γ s ps) refl (all_begun_settled Γ s ps)
  begun_settled Γ s (select cs) = choice_settled Γ s cs
  begun_settled Γ s (alt bs) = refl
  begun_settled Γ s (declare x w p) = refl
  begun_settled Γ s (connect c w p) = let Δ = with_name Γ c (Chan w None) in channel_settled c w (begun Δ s p) (begun_settled Δ s p)

  pub turn_settled : (Γ : Environment) (s : Values) (ps : Trees) → is_settled (begun_turn Γ s ps) ≡ true
  turn_settled Γ s no_tree = refl
  turn_settled Γ s (and_tree p ps) = then_settled (begun Γ s p) ps (begun_turn Γ s ps) (begun_settled Γ s p) (turn_settled Γ s ps)

  all_begun_settled : (Γ : Environment) (s : Values) (ps : Trees) → all_are_settled (begun_all Γ s ps) ≡ true
  all_begun_settled Γ s no_tree = refl
  all_begun_settled Γ s (and_tree p ps) = and_from (is_settled (begun Γ s p)) (all_are_settled (begun_all Γ s ps)) (begun_settled Γ s p) (all_begun_settled Γ s ps)

  choice_settled : (Γ : Environment) (s : Values) (cs : Cases) → is_settled (begun_choice Γ s cs) ≡ true
  choice_settled Γ s no_case = refl
  choice_settled Γ s (and_case e p cs) = either_settled (is_true Γ e s) (begun Γ s p) (begun_choice Γ s cs) (begun_settled Γ s p) (choice_settled Γ s cs)

-- what a control tree comes to has nothing left to settle
mutual
  pub settled_is_settled : (Γ : Environment) (s : Values) (C : Control) → is_settled (settled Γ s C) ≡ true
  settled_is_settled Γ s done = refl
  settled_is_settled Γ s (unbegun p) = begun_settled Γ s p
  settled_is_settled Γ s (after C ps) = then_settled (settled Γ s C) ps (begun_turn Γ s ps) (settled_is_settled Γ s C) (turn_settled Γ s ps)
  settled_is_settled Γ s (both Cs) = side_case (all_done (all_settled Γ s Cs)) (all_settled Γ s Cs) refl (all_settled_are_settled Γ s Cs)
  settled_is_settled Γ s (local x w v C) = let Δ = with_name Γ x (Var w) in let u = with_value s x v in
      variable_settled x w v (settled Δ u C) (settled_is_settled Δ u C)
  settled_is_settled Γ s (channel c w C) = let Δ = with_name Γ c (Chan w None) in channel_settled c w (settled Δ s C) (settled_is_settled Δ s C)

  all_settled_are_settled : (Γ : Environment) (s : Values) (Cs : Controls) → all_are_settled (all_settled Γ s Cs) ≡ true
  all_settled_are_settled Γ s no_control = refl
  all_settled_are_settled Γ s (and_control C Cs) = and_from (is_settled (settled Γ s C)) (all_are_settled (all_settled Γ s Cs)) (settled_is_settled Γ s C) (all_settled_are_settled Γ s Cs)

-- ---- what is settled stays

-- a process that waits for a step doesn't begin before it
pub waiting_stays : (Γ : Environment) (s : Values) (p : Tree) → waits p ≡ true → begun Γ s p ≡ unbegun p
waiting_stays Γ s skip h = absurd (false≢true h)
waiting_stays Γ s stop h = refl
waiting_stays Γ s (assign xs es) h = refl
waiting_stays Γ s (receive c x) h = absurd (false≢true h)
waiting_stays Γ s (send c e) h = absurd (false≢true h)
waiting_stays Γ s (seq ps) h = absurd (false≢true h)
waiting_stays Γ s (par ps) h = absurd (false≢true h)
waiting_stays Γ s (select cs) h = absurd (false≢true h)
waiting_stays Γ s (alt bs) h = refl
waiting_stays Γ s (declare x w p) h = refl
waiting_stays Γ s (connect c w p) h = absurd (false≢true h)

-- a choice by a test that is false
not_chosen : (b : Bool) (C D : Control) → not b ≡ true → (if b then C else D) ≡ D
not_chosen true C D h = absurd (false≢true h)
not_chosen false C D h = refl

-- a control tree with nothing left to settle stays as it is
mutual
  pub settled_stays : (Γ : Environment) (s : Values) (C : Control) → is_settled C ≡ true → settled Γ s C ≡ C
  settled_stays Γ s done h = refl
  settled_stays Γ s (unbegun p) h = waiting_stays Γ s p h
  settled_stays Γ s (after C ps) h = let k = and_parts (not (is_done C)) (is_settled C) h in
      ap (λ D. then_turn D ps (begun_turn Γ s ps)) (settled_stays Γ s C k.1) ∙ not_chosen (is_done C) (begun_turn Γ s ps) (after C ps) k.0
  settled_stays Γ s (both Cs) h = let k = and_parts (not (all_done Cs)) (all_are_settled Cs) h in
      ap side_by_side (all_settled_stay Γ s Cs k.1) ∙ not_chosen (all_done Cs) done (both Cs) k.0
  settled_stays Γ s (local x w v C) h = let k = and_parts (not (is_done C)) (is_settled C) h in
      ap (in_variable x w v) (settled_stays (with_name Γ x (Var w)) (with_value s x v) C k.1) ∙ not_chosen (is_done C) done (local x w v C) k.0
  settled_stays Γ s (channel c w C) h = let k = and_parts (not (is_done C)) (is_settled C) h in
      ap (in_channel c w) (settled_stays (with_name Γ c (Chan w None)) s C k.1) ∙ not_chosen (is_done C) done (channel c w C) k.0

  all_settled_stay : (Γ : Environment) (s : Values) (Cs : Controls) → all_are_settled Cs ≡ true → all_settled Γ s Cs ≡ Cs
  all_settled_stay Γ s no_control h = refl
  all_settled_stay Γ s (and_control C Cs) h = let k = and_parts (is_settled C) (all_are_settled Cs) h in
      ap (λ D. and_control D (all_settled Γ s Cs)) (settled_stays Γ s C k.0) ∙ ap (and_control C) (all_settled_stay Γ s Cs k.1)
