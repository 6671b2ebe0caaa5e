-- What a control tree means: what it does from values on, in the sense in which a process does it.
use Rattle.std.specs.Prelude.{ℕ, ◌≡◌}
use Rattle.occ_meaning.specs.occ_base.declared.width.Width.{Width}
use Rattle.occ_meaning.specs.occ_syntax.declared.scope.Kind.TheVariants.{Var}
use Rattle.occ_meaning.specs.occ_syntax.Scopes.{Environment, Values, EventSet, Trace, with_name, with_value}
use Rattle.occ_meaning.specs.occ_syntax.Meaning.{Meaning, Outcome, ended, refusing, at_once, followed, beside, over_channel, meaning, in_turn}
use Rattle.occ_run_steps.specs.Control.{Control, done, unbegun, after, both, local, channel, Controls, no_control, and_control}

-- A variable that holds this value, and is dropped from the final state: a declared variable that has begun.
pub data Holding (x : ℕ) (w : Width) (v : ℕ) (p : Meaning) (Γ : Environment) (s : Values) (t : Trace) : Outcome → Type 0 where
  at_end : {s' : Values} (s1 : Values) → s' ≡ with_value s1 x (s x) → p.does (with_name Γ x (Var w)) (with_value s x v) t (ended s1) → Holding x w v p Γ s t (ended s')
  at_rest : {X : EventSet} → p.does (with_name Γ x (Var w)) (with_value s x v) t (refusing X) → Holding x w v p Γ s t (refusing X)

abbrev pub holding : ℕ → Width → ℕ → Meaning → Meaning
holding x w v p = record { does = Holding x w v p }

-- Controls at once are folded by PAR, over SKIP.
abbrev mutual
  pub controlled : Control → Meaning
  controlled done = at_once (λ Γ s. s)
  controlled (unbegun p) = meaning p
  controlled (after C ps) = followed (controlled C) (in_turn ps)
  controlled (both Cs) = all_controlled Cs
  controlled (local x w v C) = holding x w v (controlled C)
  controlled (channel c w C) = over_channel c w (controlled C)

  pub all_controlled : Controls → Meaning
  all_controlled no_control = at_once (λ Γ s. s)
  all_controlled (and_control C Cs) = beside (controlled C) (all_controlled Cs)
