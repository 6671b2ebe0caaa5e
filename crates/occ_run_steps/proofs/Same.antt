-- Two meanings that do the same from one state, and the operators that keep this.
use Rattle.occ_meaning.specs.occ_base.declared.width.Width.{Width}
use Rattle.occ_meaning.proofs.Beside.{Gives}
use Rattle.occ_run_steps.specs.Controlled.{Holding, holding}
use Rattle.occ_meaning.specs.occ_syntax.Meaning.{Followed, Meaning, Outcome, Together, WithChannel, beside, ended, followed, in_first, in_second, off_channel, over_channel, refusing, together}
use Rattle.occ_meaning.specs.occ_syntax.Scopes.{Environment, Trace, Values, with_name, with_value}
use Rattle.occ_meaning.specs.occ_syntax.declared.scope.Kind.TheVariants.{Chan, Var}
use Rattle.std.proofs.Common.{None, ℕ}

-- from these values each does what the other does
pub record SameFrom (Γ : Environment) (s : Values) (m n : Meaning) : Type 0 where
  pub forth : (t : Trace) (o : Outcome) → m.does Γ s t o → n.does Γ s t o
  pub back : (t : Trace) (o : Outcome) → n.does Γ s t o → m.does Γ s t o

-- reflexive
pub same_itself : (Γ : Environment) (s : Values) (m : Meaning) → SameFrom Γ s m m
same_itself Γ s m = record { forth = λ t o d. d; back = λ t o d. d }

-- symmetric
pub same_turned : (Γ : Environment) (s : Values) (m n : Meaning) → SameFrom Γ s m n → SameFrom Γ s n m
same_turned Γ s m n h = record { forth = h.back; back = h.forth }

-- transitive
pub same_through : (Γ : Environment) (s : Values) (m n l : Meaning) → SameFrom Γ s m n → SameFrom Γ s n l → SameFrom Γ s m l
same_through Γ s m n l h k = record { forth = λ t o d. k.forth t o (h.forth t o d); back = λ t o d. h.back t o (k.back t o d) }

-- two meanings of which each gives the other do the same from each state
pub same_given : (Γ : Environment) (s : Values) (m n : Meaning) → Gives Γ m n → Gives Γ n m → SameFrom Γ s m n
same_given Γ s m n h k = record { forth = λ t o d. h.gives s t o d; back = λ t o d. k.gives s t o d }

followed_forth : (Γ : Environment) (s : Values) (m m' n : Meaning) → SameFrom Γ s m m' → (t : Trace) (o : Outcome) → Followed m n Γ s t o
    → Followed m' n Γ s t o
followed_forth Γ s m m' n h t o (in_first {X = X} d) = in_first (h.forth t (refusing X) d)
followed_forth Γ s m m' n h t o (in_second t1 t2 s1 e d1 d2) = in_second t1 t2 s1 e (h.forth t1 (ended s1) d1) d2

-- SEQ keeps it in its first part
pub followed_same : (Γ : Environment) (s : Values) (m m' n : Meaning) → SameFrom Γ s m m' → SameFrom Γ s (followed m n) (followed m' n)
followed_same Γ s m m' n h = record { forth = followed_forth Γ s m m' n h; back = followed_forth Γ s m' m n (same_turned Γ s m m' h) }

beside_forth : (Γ : Environment) (s : Values) (m m' n n' : Meaning) → SameFrom Γ s m m' → SameFrom Γ s n n' → (t : Trace) (o : Outcome)
    → Together m n Γ s t o → Together m' n' Γ s t o
beside_forth Γ s m m' n n' h k t o (together t1 t2 o1 o2 w c d1 d2) = together t1 t2 o1 o2 w c (h.forth t1 o1 d1) (k.forth t2 o2 d2)

-- PAR keeps it
pub beside_same : (Γ : Environment) (s : Values) (m m' n n' : Meaning) → SameFrom Γ s m m' → SameFrom Γ s n n' → SameFrom Γ s (beside m n) (beside m' n')
beside_same Γ s m m' n n' h k = record {
  forth = beside_forth Γ s m m' n n' h k;
  back = beside_forth Γ s m' m n' n (same_turned Γ s m m' h) (same_turned Γ s n n' k);
}

channel_forth : (Γ : Environment) (s : Values) (c : ℕ) (w : Width) (m m' : Meaning) → SameFrom (with_name Γ c (Chan w None)) s m m'
    → (t : Trace) (o : Outcome) → WithChannel c w m Γ s t o → WithChannel c w m' Γ s t o
channel_forth Γ s c w m m' h t o (WithChannel.at_end {s1 = r} silent d) = WithChannel.at_end silent (h.forth t (ended r) d)
channel_forth Γ s c w m m' h t o (WithChannel.at_rest {X = X} silent d) = WithChannel.at_rest silent (h.forth t (refusing (off_channel c X)) d)

-- a channel keeps it
pub channel_same : (Γ : Environment) (s : Values) (c : ℕ) (w : Width) (m m' : Meaning) → SameFrom (with_name Γ c (Chan w None)) s m m'
    → SameFrom Γ s (over_channel c w m) (over_channel c w m')
channel_same Γ s c w m m' h = record {
  forth = channel_forth Γ s c w m m' h;
  back = channel_forth Γ s c w m' m (same_turned (with_name Γ c (Chan w None)) s m m' h);
}

holding_forth : (Γ : Environment) (s : Values) (x : ℕ) (w : Width) (v : ℕ) (m m' : Meaning) → SameFrom (with_name Γ x (Var w)) (with_value s x v) m m'
    → (t : Trace) (o : Outcome) → Holding x w v m Γ s t o → Holding x w v m' Γ s t o
holding_forth Γ s x w v m m' h t o (Holding.at_end s1 e d) = Holding.at_end s1 e (h.forth t (ended s1) d)
holding_forth Γ s x w v m m' h t o (Holding.at_rest {X = X} d) = Holding.at_rest (h.forth t (refusing X) d)

-- a variable that holds a value keeps it
pub holding_same : (Γ : Environment) (s : Values) (x : ℕ) (w : Width) (v : ℕ) (m m' : Meaning)
    → SameFrom (with_name Γ x (Var w)) (with_value s x v) m m' → SameFrom Γ s (holding x w v m) (holding x w v m')
holding_same Γ s x w v m m' h = record {
  forth = holding_forth Γ s x w v m m' h;
  back = holding_forth Γ s x w v m' m (same_turned (with_name Γ x (Var w)) (with_value s x v) m m' h);
}
