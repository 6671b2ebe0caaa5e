-- A declared variable taken apart: its first value, and the outcome inside. A declared channel likewise.
use Rattle.occ_law.specs.occ_base.Width.{bits_of}
use Rattle.occ_law.specs.occ_base.declared.width.Width.{Width}
use Rattle.occ_law.proofs.from_meaning.OffValues.{value_again}
use Rattle.occ_law.specs.occ_meaning.Foundation.{with_result}
use Rattle.occ_law.proofs.from_meaning.AtState.{AlikeAt}
use Rattle.occ_law.specs.occ_syntax.Meaning.{Meaning, Outcome, Stopped, WithChannel, WithVariable, ended, is_silent, never, off_channel, over_channel, over_variable, refusing, stopped}
use Rattle.occ_law.specs.occ_syntax.Scopes.{Environment, EventSet, Trace, Values, with_name, with_value}
use Rattle.occ_law.specs.occ_syntax.declared.scope.Kind.TheVariants.{Chan, Var}
use Rattle.std.proofs.Common.{None, ap, refl, subst, sym, true, ℕ, ◌<◌, ◌^◌, ◌∙◌, ◌≡◌}
use Rattle.std.proofs.lemmas.Nat.{pow_pos}

pub record Opened (x : ℕ) (w : Width) (m : Meaning) (Γ : Environment) (s : Values) (t : Trace) (o : Outcome) : Type 0 where
  pub value : ℕ
  pub below : value < 2 ^ bits_of w
  pub inner : Outcome
  pub outer : with_result x (s x) inner ≡ o
  pub inside : m.does (with_name Γ x (Var w)) (with_value s x value) t inner

pub opened : (x : ℕ) (w : Width) (m : Meaning) (Γ : Environment) (s : Values) (t : Trace) (o : Outcome) → WithVariable x w m Γ s t o → Opened x w m Γ s t o
opened x w m Γ s t o (WithVariable.at_end {s' = r} v s1 lt e d) = record { value = v; below = lt; inner = ended s1; outer = ap ended (sym e); inside = d }
opened x w m Γ s t o (WithVariable.at_rest {X = X} v lt d) = record { value = v; below = lt; inner = refusing X; outer = refl; inside = d }

pub closed : (x : ℕ) (w : Width) (m : Meaning) (Γ : Environment) (s : Values) (t : Trace) (v : ℕ) → v < 2 ^ bits_of w → (i : Outcome)
    → m.does (with_name Γ x (Var w)) (with_value s x v) t i → WithVariable x w m Γ s t (with_result x (s x) i)
closed x w m Γ s t v lt (ended s1) d = WithVariable.at_end v s1 lt refl d
closed x w m Γ s t v lt (refusing X) d = WithVariable.at_rest v lt d

pub closed_as : (x : ℕ) (w : Width) (m : Meaning) (Γ : Environment) (s : Values) (t : Trace) (o : Outcome) → Opened x w m Γ s t o → WithVariable x w m Γ s t o
closed_as x w m Γ s t o k = let P : Outcome → Type 0 = λ i. WithVariable x w m Γ s t i in subst P k.outer (closed x w m Γ s t k.value k.below k.inner k.inside)

-- ---- up to the value of one variable at the end

abbrev pub SameBut : ℕ → Outcome → Outcome → Type 0
SameBut z o i = (a : ℕ) → with_result z a o ≡ with_result z a i

-- what a meaning does, up to the value of that variable
abbrev pub up_to : ℕ → Meaning → Meaning
up_to z m = record { does = λ Γ s t o. (i : Outcome) × SameBut z o i × m.does Γ s t i }

pub same_but_result : (z v : ℕ) (o : Outcome) → SameBut z o (with_result z v o)
same_but_result z v (ended r) a = ap ended (sym (value_again r z v a))
same_but_result z v (refusing X) a = refl

pub variable_up_to : (x : ℕ) (w : Width) (m n : Meaning) (Γ : Environment) (s : Values)
    → ((v : ℕ) → v < 2 ^ bits_of w → (t : Trace) (o : Outcome) → m.does (with_name Γ x (Var w)) (with_value s x v) t o
    → (up_to x n).does (with_name Γ x (Var w)) (with_value s x v) t o)
    → (t : Trace) (o : Outcome) → WithVariable x w m Γ s t o → WithVariable x w n Γ s t o
variable_up_to x w m n Γ s h t o d =
    let k = opened x w m Γ s t o d in
    let j = h k.value k.below t k.inner k.inside in
    let P : Outcome → Type 0 = λ i. WithVariable x w n Γ s t i in
    subst P (sym (j.1 (s x)) ∙ k.outer) (closed x w n Γ s t k.value k.below j.0 j.2)

pub variable_alike : (x : ℕ) (w : Width) (m n : Meaning) (Γ : Environment) (s : Values)
    → ((v : ℕ) → AlikeAt (with_name Γ x (Var w)) (with_value s x v) (with_value s x v) m n) → AlikeAt Γ s s (over_variable x w m) (over_variable x w n)
variable_alike x w m n Γ s h = record {
  forth = variable_up_to x w m n Γ s (λ v lt t o d. (o, (λ a. refl), (h v).forth t o d));
  back = variable_up_to x w n m Γ s (λ v lt t o d. (o, (λ a. refl), (h v).back t o d));
}

never_closed : (x : ℕ) (w : Width) (Γ : Environment) (s : Values) (t : Trace) (o : Outcome) → Stopped t o → WithVariable x w never Γ s t o
never_closed x w Γ s t (ended r) d = elim d [ ]
never_closed x w Γ s t (refusing X) d = WithVariable.at_rest 0 (pow_pos (bits_of w)) d

never_opened : (x : ℕ) (w : Width) (Γ : Environment) (s : Values) (t : Trace) (o : Outcome) → WithVariable x w never Γ s t o → Stopped t o
never_opened x w Γ s t o (WithVariable.at_end v s1 lt e d) = elim d [ ]
never_opened x w Γ s t o (WithVariable.at_rest v lt d) = d

pub never_declared : (x : ℕ) (w : Width) (Γ : Environment) (s : Values) → AlikeAt Γ s s (over_variable x w never) never
never_declared x w Γ s = record { forth = never_opened x w Γ s; back = never_closed x w Γ s }

-- ---- channels

-- the outcome in the scope of a channel
abbrev pub inside_channel : ℕ → Outcome → Outcome
inside_channel c (ended s) = ended s
inside_channel c (refusing X) = refusing (off_channel c X)

pub record OpenedChannel (c : ℕ) (w : Width) (m : Meaning) (Γ : Environment) (s : Values) (t : Trace) (o : Outcome) : Type 0 where
  pub silent : is_silent c t ≡ true
  pub inside : m.does (with_name Γ c (Chan w None)) s t (inside_channel c o)

pub opened_channel : (c : ℕ) (w : Width) (m : Meaning) (Γ : Environment) (s : Values) (t : Trace) (o : Outcome) → WithChannel c w m Γ s t o → OpenedChannel c w m Γ s t o
opened_channel c w m Γ s t o (WithChannel.at_end silent d) = record { silent = silent; inside = d }
opened_channel c w m Γ s t o (WithChannel.at_rest silent d) = record { silent = silent; inside = d }

pub closed_channel : (c : ℕ) (w : Width) (m : Meaning) (Γ : Environment) (s : Values) (t : Trace) (o : Outcome) → is_silent c t ≡ true
    → m.does (with_name Γ c (Chan w None)) s t (inside_channel c o) → WithChannel c w m Γ s t o
closed_channel c w m Γ s t (ended r) silent d = WithChannel.at_end silent d
closed_channel c w m Γ s t (refusing X) silent d = WithChannel.at_rest silent d

pub channel_alike : (c : ℕ) (w : Width) (m n : Meaning) (Γ : Environment) (s : Values) → AlikeAt (with_name Γ c (Chan w None)) s s m n
    → AlikeAt Γ s s (over_channel c w m) (over_channel c w n)
channel_alike c w m n Γ s h = record {
  forth = λ t o d. (let k = opened_channel c w m Γ s t o d in closed_channel c w n Γ s t o k.silent (h.forth t (inside_channel c o) k.inside));
  back = λ t o d. (let k = opened_channel c w n Γ s t o d in closed_channel c w m Γ s t o k.silent (h.back t (inside_channel c o) k.inside));
}

other_set : (t : Trace) (X Y : EventSet) → Stopped t (refusing X) → Stopped t (refusing Y)
other_set t X Y stopped = stopped

stopped_silent : (c : ℕ) (t : Trace) (o : Outcome) → Stopped t o → is_silent c t ≡ true
stopped_silent c t o stopped = refl

never_connected_forth : (c : ℕ) (w : Width) (Γ : Environment) (s : Values) (t : Trace) (o : Outcome) → WithChannel c w never Γ s t o → Stopped t o
never_connected_forth c w Γ s t o (WithChannel.at_end silent d) = elim d [ ]
never_connected_forth c w Γ s t o (WithChannel.at_rest {X = X} silent d) = other_set t (off_channel c X) X d

never_connected_back : (c : ℕ) (w : Width) (Γ : Environment) (s : Values) (t : Trace) (o : Outcome) → Stopped t o → WithChannel c w never Γ s t o
never_connected_back c w Γ s t (ended r) d = elim d [ ]
never_connected_back c w Γ s t (refusing X) d = WithChannel.at_rest (stopped_silent c t (refusing X) d) (other_set t X (off_channel c X) d)

pub never_connected : (c : ℕ) (w : Width) (Γ : Environment) (s : Values) → AlikeAt Γ s s (over_channel c w never) never
never_connected c w Γ s = record { forth = never_connected_forth c w Γ s; back = never_connected_back c w Γ s }
