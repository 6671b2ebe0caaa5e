-- When two processes mean the same.
use Rattle.std.specs.Prelude.{◌⊎◌, ◌↔◌, false}
use Rattle.occ_syntax.specs.Tree.{Tree}
use Rattle.occ_syntax.specs.Scopes.{Environment, Values, EventSet, Trace, IsState, IsWithin}
use Rattle.occ_syntax.specs.Meaning.{ends, fails}

-- the set without events
abbrev pub none : EventSet
none = λ e. false

-- The process has the trace: after it, it can stand still or have ended.
abbrev pub HasTrace : Environment → Tree → Values → Trace → Type 0
HasTrace Γ p s t = fails Γ p s t none ⊎ ((s' : Values) × ends Γ p s t s')

-- From every state the two have the same failures and the same ends: so the same traces, the same refusals and the same
-- final states.
pub record SAME (Γ : Environment) (p q : Tree) : Type 0 where
  pub same_failures : (s : Values) (t : Trace) (X : EventSet) → IsState Γ s → IsWithin Γ X → fails Γ p s t X ↔ fails Γ q s t X
  pub same_ends : (s : Values) (t : Trace) (s' : Values) → IsState Γ s → ends Γ p s t s' ↔ ends Γ q s t s'
