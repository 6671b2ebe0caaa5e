-- The steps of processes that wait for one: an assignment, a VAR, an ALT; STOP has none.
use Rattle.occ_meaning.specs.occ_base.declared.width.Width.{Width}
use Rattle.occ_meaning.specs.occ_base.Width.{bits_of}
use Rattle.occ_meaning.proofs.Facts.{false_not_true}
use Rattle.occ_meaning.proofs.Named.{zeros_state}
use Rattle.occ_meaning.specs.occ_syntax.declared.scope.Kind.TheVariants.{Var}
use Rattle.occ_run_steps.proofs.Alternatives.{alt_at_rest, alt_sound, alt_unfolds}
use Rattle.occ_run_steps.proofs.Lists.{Is, first, is_in_range, is_mapped, later, mapped_is}
use Rattle.occ_run_steps.proofs.Moves.{AtRest, Sound, Unfolded, Unfolds, ends, moves, waits}
use Rattle.occ_run_steps.proofs.StepKeeps.{assigned_is, has_value, width_in}
use Rattle.occ_run_steps.specs.Controlled.{Holding, controlled}
use Rattle.occ_run_steps.specs.Control.{Control, done, local, unbegun}
use Rattle.occ_run_steps.specs.Settled.{waits as waits_for_step}
use Rattle.occ_run_steps.specs.Step.{Step, step}
use Rattle.occ_run_steps.specs.Steps.{assignments, process_steps, values_of}
use Rattle.occ_meaning.specs.occ_syntax.Meaning.{Meaning, Outcome, Stopped, WithVariable, assigned, at_once, ended, meaning, never, over_variable, stopped}
use Rattle.occ_meaning.specs.occ_syntax.Scopes.{Environment, Trace, Values}
use Rattle.occ_meaning.specs.occ_syntax.Tree.{Exp, Tree, alt, assign, connect, declare, par, receive, select, send, seq, skip, stop}
use Rattle.std.proofs.Common.{arith, Bool, List, None, Some, [], ap, false, refl, subst, sym, true, ℕ, ◌<◌, ◌^◌, ◌∙◌, ◌≡◌}

-- the three facts of a list of steps of control trees
pub record Stepping (ks : List (Step Control)) (d : Bool) (Γ : Environment) (s : Values) (m : Meaning) : Type 0 where
  pub unfolds : Unfolds Control controlled (λ k. Is k ks) d Γ s m
  pub rests : AtRest Control (λ k. Is k ks) d Γ s m

-- ---- what is over, and STOP

over_at : (Γ : Environment) (s : Values) (t : Trace) (o : Outcome) → (t ≡ []) × (o ≡ ended s) → Unfolded Control controlled (λ k. Is k []) true Γ s t o
over_at Γ s t o d =
    let P : Trace → Type 0 = λ r. Unfolded Control controlled (λ k. Is k []) true Γ s r o in
    let Q : Outcome → Type 0 = λ r. Unfolded Control controlled (λ k. Is k []) true Γ s [] r in
    subst P (sym d.0) (subst Q (sym d.1) (ends refl (λ k i. elim i [ ])))

-- what is over has no step
pub over_stepping : (Γ : Environment) (s : Values) → Stepping [] true Γ s (at_once (λ Γ s. s))
over_stepping Γ s = record { unfolds = record { comes = over_at Γ s }; rests = record { over = λ i. (refl, refl); refused = λ i X out. false_not_true (sym i) } }

stop_at : (Γ : Environment) (s : Values) (t : Trace) (o : Outcome) → Stopped t o → Unfolded Control controlled (λ k. Is k []) false Γ s t o
stop_at Γ s t o stopped = waits refl (λ k i. elim i [ ])

stop_stepping : (Γ : Environment) (s : Values) → Stepping [] false Γ s never
stop_stepping Γ s = record { unfolds = record { comes = stop_at Γ s }; rests = record { over = λ i. false_not_true i; refused = λ i X out. stopped } }

-- ---- an assignment

assign_sound : (Γ : Environment) (s : Values) (xs : List ℕ) (es : List Exp) → Sound Γ s (at_once (assigned xs es)) None (assignments Γ s xs es) (controlled done)
assign_sound Γ s xs es = record { behind = λ t o d. (d.0, d.1 ∙ ap ended (assigned_is Γ s xs es)) }

assign_at : (Γ : Environment) (s : Values) (xs : List ℕ) (es : List Exp) (t : Trace) (o : Outcome) → (t ≡ []) × (o ≡ ended (assigned xs es Γ s))
    → Unfolded Control controlled (λ k. Is k (process_steps Γ s (assign xs es))) false Γ s t o
assign_at Γ s xs es t o d = moves (step None (assignments Γ s xs es) done) t first refl (d.0, d.1 ∙ ap ended (sym (assigned_is Γ s xs es)))

assign_stepping : (Γ : Environment) (s : Values) (xs : List ℕ) (es : List Exp)
    → Stepping (process_steps Γ s (assign xs es)) false Γ s (at_once (assigned xs es))
assign_stepping Γ s xs es = record {
  unfolds = record { comes = assign_at Γ s xs es };
  rests = record { over = λ i. false_not_true i; refused = λ i X out. false_not_true (out (step None (assignments Γ s xs es) done) first) };
}

-- ---- a VAR

begin_behind : (Γ : Environment) (s : Values) (x : ℕ) (w : Width) (v : ℕ) (m : Meaning) → v < 2 ^ bits_of w → (t : Trace) (o : Outcome)
    → Holding x w v m Γ s t o → WithVariable x w m Γ s t o
begin_behind Γ s x w v m lt t o (Holding.at_end s1 e d) = WithVariable.at_end v s1 lt e d
begin_behind Γ s x w v m lt t o (Holding.at_rest d) = WithVariable.at_rest v lt d

values_is : (w : Width) (v : ℕ) → v < 2 ^ bits_of w → Is v (values_of (Some w))
values_is w v lt = is_in_range 0 (2 ^ bits_of w) v (omega arith) (omega arith)

declare_at : (Γ : Environment) (s : Values) (x : ℕ) (w : Width) (p : Tree) (t : Trace) (o : Outcome) → WithVariable x w (meaning p) Γ s t o
    → Unfolded Control controlled (λ k. Is k (process_steps Γ s (declare x w p))) false Γ s t o
declare_at Γ s x w p t o (WithVariable.at_end v s1 lt e d) =
    let F : ℕ → Step Control = λ u. step None [] (local x w u (unbegun p)) in
    moves (F v) t (is_mapped F v (values_of (Some w)) (values_is w v lt)) refl (Holding.at_end s1 e d)
declare_at Γ s x w p t o (WithVariable.at_rest v lt d) =
    let F : ℕ → Step Control = λ u. step None [] (local x w u (unbegun p)) in
    moves (F v) t (is_mapped F v (values_of (Some w)) (values_is w v lt)) refl (Holding.at_rest d)

some_value : (w : Width) → 0 < 2 ^ bits_of w
some_value w = zeros_state (λ y. Some (Var w)) 0 w refl

declare_stepping : (Γ : Environment) (s : Values) (x : ℕ) (w : Width) (p : Tree)
    → Stepping (process_steps Γ s (declare x w p)) false Γ s (over_variable x w (meaning p))
declare_stepping Γ s x w p = record {
  unfolds = record { comes = declare_at Γ s x w p };
  rests = record {
    over = λ i. false_not_true i;
    refused = λ i X out. let F : ℕ → Step Control = λ u. step None [] (local x w u (unbegun p)) in
        false_not_true (out (F 0) (is_mapped F 0 (values_of (Some w)) (values_is w 0 (some_value w))));
  };
}

-- ---- all

-- each step of a process that waits is sound
pub process_sound : (Γ : Environment) (s : Values) (p : Tree) (k : Step Control) → Is k (process_steps Γ s p)
    → Sound Γ s (meaning p) k.event k.changes (controlled k.next)
process_sound Γ s skip k i = elim i [ ]
process_sound Γ s stop k i = elim i [ ]
process_sound Γ s (assign xs es) k first = assign_sound Γ s xs es
process_sound Γ s (assign xs es) k (later i) = elim i [ ]
process_sound Γ s (receive c x) k i = elim i [ ]
process_sound Γ s (send c e) k i = elim i [ ]
process_sound Γ s (seq ps) k i = elim i [ ]
process_sound Γ s (par ps) k i = elim i [ ]
process_sound Γ s (select cs) k i = elim i [ ]
process_sound Γ s (alt bs) k i = alt_sound Γ s bs k i
process_sound Γ s (declare x w p) k i =
    let F : ℕ → Step Control = λ v. step None [] (local x w v (unbegun p)) in
    let m = mapped_is F k (values_of (Some w)) i in
    let P : Step Control → Type 0 = λ j. Sound Γ s (over_variable x w (meaning p)) j.event j.changes (controlled j.next) in
    subst P (sym m.2) (record { behind = begin_behind Γ s x w m.0 (meaning p) (width_in (Some w) w m.0 refl (has_value (Some w) m.0 m.1)) })
process_sound Γ s (connect c w p) k i = elim i [ ]

-- the steps of a process that waits are all that it can do
pub process_stepping : (Γ : Environment) (s : Values) (p : Tree) → waits_for_step p ≡ true → Stepping (process_steps Γ s p) false Γ s (meaning p)
process_stepping Γ s skip h = false_not_true h
process_stepping Γ s stop h = stop_stepping Γ s
process_stepping Γ s (assign xs es) h = assign_stepping Γ s xs es
process_stepping Γ s (receive c x) h = false_not_true h
process_stepping Γ s (send c e) h = false_not_true h
process_stepping Γ s (seq ps) h = false_not_true h
process_stepping Γ s (par ps) h = false_not_true h
process_stepping Γ s (select cs) h = false_not_true h
process_stepping Γ s (alt bs) h = record { unfolds = alt_unfolds Γ s bs; rests = alt_at_rest Γ s bs }
process_stepping Γ s (declare x w p) h = declare_stepping Γ s x w p
process_stepping Γ s (connect c w p) h = false_not_true h
