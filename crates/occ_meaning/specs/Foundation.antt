-- What holds of every part: the words of the laws on values, traces and refusals.
use Rattle.occ_syntax.specs.occ_base.declared.event.Dir.{Dir}
use Rattle.occ_syntax.specs.occ_base.declared.event.Event.{Event}
use Rattle.occ_syntax.specs.Meaning.{Outcome, ended, ends, fails, meaning, refusing}
use Rattle.occ_syntax.specs.Names.{free, is_in, names}
use Rattle.occ_syntax.specs.Scopes.{Environment, EventSet, IsState, Trace, Values, in_interface, variable_width, with_value}
use Rattle.occ_syntax.specs.Tree.{Exp, Tree}
use Rattle.std.specs.Prelude.{Bool, List, None, [], false, true, ℕ, ◌==◌, ◌↔◌, ◌∷◌, ◌≡◌, ◌⊎◌}

-- every event of the trace is on one of these channel ends
abbrev pub AreOnEnds : (ℕ → Dir → Bool) → Trace → Type 0
AreOnEnds u [] = Unit {0}
AreOnEnds u (e ∷ t) = (u e.chan.0 e.dir ≡ true) × AreOnEnds u t

-- the outcome with another value of a variable, where it is an end
abbrev pub with_result : ℕ → ℕ → Outcome → Outcome
with_result x v (ended s') = ended (with_value s' x v)
with_result x v (refusing X) = refusing X

-- two environments that differ at one name alone
abbrev pub AgreeOff : ℕ → Environment → Environment → Type 0
AgreeOff x Γ Δ = (y : ℕ) → (y == x) ≡ false → Γ y ≡ Δ y

-- the name isn't a variable of the part: it isn't free there, or isn't a variable in scope
abbrev pub IsNoVariable : Environment → Tree → ℕ → Type 0
IsNoVariable Γ p x = (free p x ≡ false) ⊎ (variable_width Γ x ≡ None)

-- every event of the trace is in the set
abbrev pub AreWithin : EventSet → Trace → Type 0
AreWithin X [] = Unit {0}
AreWithin X (e ∷ t) = (X e ≡ true) × AreWithin X t

-- the part has the trace, with that outcome
abbrev pub Does : Environment → Tree → Values → Trace → Outcome → Type 0
Does Γ p s t o = (meaning p).does Γ s t o

-- each event of the first set is in the second
abbrev pub IsSubset : EventSet → EventSet → Type 0
IsSubset X Y = (e : Event) → X e ≡ true → Y e ≡ true

-- the second set has only events of the first, and events on other channel ends than these
abbrev pub IsWidened : (ℕ → Dir → Bool) → EventSet → EventSet → Type 0
IsWidened u X W = (e : Event) → W e ≡ true → (X e ≡ true) ⊎ (u e.chan.0 e.dir ≡ false)

-- SAME, asked over sets of events of the interface alone
pub record SameOverInterface (Γ : Environment) (p q : Tree) : Type 0 where
  pub same_failures : (s : Values) (t : Trace) (X : EventSet) → IsState Γ s → IsSubset X (in_interface Γ) → fails Γ p s t X ↔ fails Γ q s t X
  pub same_ends : (s : Values) (t : Trace) (s' : Values) → IsState Γ s → ends Γ p s t s' ↔ ends Γ q s t s'

-- the part names none of these
abbrev pub IsFreeOf : Tree → List ℕ → Type 0
IsFreeOf p xs = (x : ℕ) → is_in xs x ≡ true → free p x ≡ false

-- two environments that say the same of the names of an expression, and two such values
abbrev pub AgreeOn : Exp → Environment → Environment → Type 0
AgreeOn e Γ Δ = (x : ℕ) → names e x ≡ true → variable_width Γ x ≡ variable_width Δ x

abbrev pub ValuesAgreeOn : Exp → Values → Values → Type 0
ValuesAgreeOn e s r = (x : ℕ) → names e x ≡ true → s x ≡ r x
