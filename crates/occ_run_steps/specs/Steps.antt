-- The steps of a settled control tree, in their order.
use Rattle.std.specs.Prelude.{ℕ, ◌^◌, List, [], ◌∷◌, ◌++◌, map, Option, None, Some, if◌then◌else◌}
use Rattle.std.specs.List.{filter, range_with_len}
use Rattle.occ_meaning.specs.occ_base.declared.event.Dir.TheVariants.{Input, Output}
use Rattle.occ_meaning.specs.occ_base.declared.width.Width.{Width}
use Rattle.occ_meaning.specs.occ_base.Width.{bits_of}
use Rattle.occ_meaning.specs.occ_syntax.declared.scope.Kind.TheVariants.{Var, Chan}
use Rattle.occ_meaning.specs.occ_syntax.Tree.{Exp, Waiting, ready, input, output, Tree, skip, stop, assign, receive, send, seq, par, select, alt, declare, connect, Branches, no_branch, and_branch}
use Rattle.occ_meaning.specs.occ_syntax.Scopes.{Environment, Values, with_name, with_value, channel_width}
use Rattle.occ_meaning.specs.occ_syntax.Eval.{eval, is_true}
use Rattle.occ_run_steps.specs.Control.{Control, done, unbegun, after, both, local, channel, Controls, no_control, and_control}
use Rattle.occ_run_steps.specs.Step.{Step, step, changed, changes_but, leaving, is_off, meetings}

-- the values of a width, in increasing order
abbrev pub values_of : Option Width → List ℕ
values_of (Some w) = range_with_len 0 (2 ^ bits_of w)
values_of None = []

-- each variable with the value of its expression
abbrev pub assignments : Environment → Values → List ℕ → List Exp → List (ℕ × ℕ)
assignments Γ s [] es = []
assignments Γ s (x ∷ xs) [] = []
assignments Γ s (x ∷ xs) (e ∷ es) = (x, eval Γ e s) ∷ assignments Γ s xs es

-- a guard's steps to its process: an unseen one, the output, or an input for each value
abbrev pub guard_steps : Environment → Values → Waiting → Tree → List (Step Control)
guard_steps Γ s ready p = step None [] (unbegun p) ∷ []
guard_steps Γ s (output c e) p = step (Some (record { chan = record { 0 = c }; dir = Output; value = eval Γ e s })) [] (unbegun p) ∷ []
guard_steps Γ s (input c x) p = map (λ v. step (Some (record { chan = record { 0 = c }; dir = Input; value = v })) ((x, v) ∷ []) (unbegun p)) (values_of (channel_width Γ c))

-- the steps of the guards whose conditions are true
abbrev pub branch_steps : Environment → Values → Branches → List (Step Control)
branch_steps Γ s no_branch = []
branch_steps Γ s (and_branch e w p bs) = (if is_true Γ e s then guard_steps Γ s w p else []) ++ branch_steps Γ s bs

-- An assignment is one unseen step, and a variable begins with each of its values by an unseen step of its own. The other
-- processes come to controls before they have steps.
abbrev pub process_steps : Environment → Values → Tree → List (Step Control)
process_steps Γ s skip = []
process_steps Γ s stop = []
process_steps Γ s (assign xs es) = step None (assignments Γ s xs es) done ∷ []
process_steps Γ s (receive c x) = []
process_steps Γ s (send c e) = []
process_steps Γ s (seq ps) = []
process_steps Γ s (par ps) = []
process_steps Γ s (select cs) = []
process_steps Γ s (alt bs) = branch_steps Γ s bs
process_steps Γ s (declare x w p) = map (λ v. step None [] (local x w v (unbegun p))) (values_of (Some w))
process_steps Γ s (connect c w p) = []

-- a step in the body of a VAR as the outside sees it: the variable keeps its value of the values u to itself
abbrev pub within : ℕ → Width → Values → Step Control → Step Control
within x w u k = step k.event (changes_but x k.changes) (local x w (changed k.changes u x) k.next)

-- Controls at once have the steps of each alone, and behind these two events that meet as one unseen step: those of the
-- first control with each later one, and then those of the later ones among themselves.
abbrev mutual
  pub steps : Environment → Values → Control → List (Step Control)
  steps Γ s done = []
  steps Γ s (unbegun p) = process_steps Γ s p
  steps Γ s (after C ps) = map (leaving (λ D. after D ps)) (steps Γ s C)
  steps Γ s (both Cs) = map (leaving both) (alone_steps Γ s Cs ++ pair_steps Γ s Cs)
  steps Γ s (local x w v C) = map (within x w (with_value s x v)) (steps (with_name Γ x (Var w)) (with_value s x v) C)
  steps Γ s (channel c w C) = map (leaving (channel c w)) (filter (is_off c) (steps (with_name Γ c (Chan w None)) s C))

  pub alone_steps : Environment → Values → Controls → List (Step Controls)
  alone_steps Γ s no_control = []
  alone_steps Γ s (and_control C Cs) = map (leaving (λ D. and_control D Cs)) (steps Γ s C) ++ map (leaving (λ Ds. and_control C Ds)) (alone_steps Γ s Cs)

  pub pair_steps : Environment → Values → Controls → List (Step Controls)
  pair_steps Γ s no_control = []
  pair_steps Γ s (and_control C Cs) = map (leaving (λ m. and_control m.0 m.1)) (steps_with Γ s (steps Γ s C) Cs) ++ map (leaving (λ Ds. and_control C Ds)) (pair_steps Γ s Cs)

  -- the steps ks of one control with those of each of the others
  pub steps_with : Environment → Values → List (Step Control) → Controls → List (Step (Control × Controls))
  steps_with Γ s ks no_control = []
  steps_with Γ s ks (and_control D Ds) = map (leaving (λ m. (m.0, and_control m.1 Ds))) (meetings ks (steps Γ s D)) ++ map (leaving (λ m. (m.0, and_control D m.1))) (steps_with Γ s ks Ds)
