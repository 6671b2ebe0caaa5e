-- What a control tree comes to without any step: whatever is over is left behind, and whatever can begin begins.
use Rattle.std.specs.Prelude.{ℕ, Bool, true, false, not, ◌&&◌, None, if◌then◌else◌}
use Rattle.occ_meaning.specs.occ_base.declared.width.Width.{Width}
use Rattle.occ_meaning.specs.occ_syntax.declared.scope.Kind.TheVariants.{Var, Chan}
use Rattle.occ_meaning.specs.occ_syntax.Tree.{truth, input, output, Tree, skip, stop, assign, receive, send, seq, par, select, alt, declare, connect, Trees, no_tree, and_tree, Cases, no_case, and_case, no_branch, and_branch}
use Rattle.occ_meaning.specs.occ_syntax.Scopes.{Environment, Values, with_name, with_value}
use Rattle.occ_meaning.specs.occ_syntax.Eval.{is_true}
use Rattle.occ_run_steps.specs.Control.{Control, done, unbegun, after, both, local, channel, Controls, no_control, and_control, is_done, all_done}

-- one control and then processes, which themselves come to `next` once the control is done
abbrev pub then_turn : Control → Trees → Control → Control
then_turn C ps next = if is_done C then next else after C ps

abbrev pub side_by_side : Controls → Control
side_by_side Cs = if all_done Cs then done else both Cs

abbrev pub in_variable : ℕ → Width → ℕ → Control → Control
in_variable x w v C = if is_done C then done else local x w v C

abbrev pub in_channel : ℕ → Width → Control → Control
in_channel c w C = if is_done C then done else channel c w C

-- What a process comes to as it begins. An input or an output is an ALT of that one guard; an IF is its first choice
-- whose condition is true, and STOP without one. STOP, an assignment, an ALT and a VAR wait for their steps.
abbrev mutual
  pub begun : Environment → Values → Tree → Control
  begun Γ s skip = done
  begun Γ s stop = unbegun stop
  begun Γ s (assign xs es) = unbegun (assign xs es)
  begun Γ s (receive c x) = unbegun (alt (and_branch (truth true) (input c x) skip no_branch))
  begun Γ s (send c e) = unbegun (alt (and_branch (truth true) (output c e) skip no_branch))
  begun Γ s (seq ps) = begun_turn Γ s ps
  begun Γ s (par ps) = side_by_side (begun_all Γ s ps)
  begun Γ s (select cs) = begun_choice Γ s cs
  begun Γ s (alt bs) = unbegun (alt bs)
  begun Γ s (declare x w p) = unbegun (declare x w p)
  begun Γ s (connect c w p) = in_channel c w (begun (with_name Γ c (Chan w None)) s p)

  pub begun_turn : Environment → Values → Trees → Control
  begun_turn Γ s no_tree = done
  begun_turn Γ s (and_tree p ps) = then_turn (begun Γ s p) ps (begun_turn Γ s ps)

  pub begun_all : Environment → Values → Trees → Controls
  begun_all Γ s no_tree = no_control
  begun_all Γ s (and_tree p ps) = and_control (begun Γ s p) (begun_all Γ s ps)

  pub begun_choice : Environment → Values → Cases → Control
  begun_choice Γ s no_case = unbegun stop
  begun_choice Γ s (and_case e p cs) = if is_true Γ e s then begun Γ s p else begun_choice Γ s cs

-- what a control tree comes to
abbrev mutual
  pub settled : Environment → Values → Control → Control
  settled Γ s done = done
  settled Γ s (unbegun p) = begun Γ s p
  settled Γ s (after C ps) = then_turn (settled Γ s C) ps (begun_turn Γ s ps)
  settled Γ s (both Cs) = side_by_side (all_settled Γ s Cs)
  settled Γ s (local x w v C) = in_variable x w v (settled (with_name Γ x (Var w)) (with_value s x v) C)
  settled Γ s (channel c w C) = in_channel c w (settled (with_name Γ c (Chan w None)) s C)

  pub all_settled : Environment → Values → Controls → Controls
  all_settled Γ s no_control = no_control
  all_settled Γ s (and_control C Cs) = and_control (settled Γ s C) (all_settled Γ s Cs)

-- the processes that wait for a step, or for ever
abbrev pub waits : Tree → Bool
waits skip = false
waits stop = true
waits (assign xs es) = true
waits (receive c x) = false
waits (send c e) = false
waits (seq ps) = false
waits (par ps) = false
waits (select cs) = false
waits (alt bs) = true
waits (declare x w p) = true
waits (connect c w p) = false

-- nothing is left to be settled
abbrev mutual
  pub is_settled : Control → Bool
  is_settled done = true
  is_settled (unbegun p) = waits p
  is_settled (after C ps) = not (is_done C) && is_settled C
  is_settled (both Cs) = not (all_done Cs) && all_are_settled Cs
  is_settled (local x w v C) = not (is_done C) && is_settled C
  is_settled (channel c w C) = not (is_done C) && is_settled C

  pub all_are_settled : Controls → Bool
  all_are_settled no_control = true
  all_are_settled (and_control C Cs) = is_settled C && all_are_settled Cs
