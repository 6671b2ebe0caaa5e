-- The meaning of a process: its failures and its ends, from each state. After Roscoe, "Denotational Semantics for
-- occam" (1985), with final states; each operator of the language is an operator on meanings.
use Rattle.std.specs.Prelude.{ℕ, ◌≡◌, ◌==◌, ◌<◌, ◌^◌, Bool, true, false, not, ◌&&◌, ◌||◌, ◌⊎◌, List, [], ◌∷◌, ◌++◌, None, if◌then◌else◌, MatchBool}
use Rattle.occ_base.specs.declared.event.Dir.TheVariants.{Input, Output}
use Rattle.occ_base.specs.declared.event.Event.{Event}
use Rattle.occ_base.specs.declared.width.Width.{Width}
use Rattle.occ_base.specs.Width.{bits_of}
use Rattle.occ_base.specs.Event.{counterpart}
use Rattle.occ_syntax.specs.declared.scope.Kind.TheVariants.{Var, Chan}
use Rattle.occ_syntax.specs.Tree.{Exp, truth, Waiting, ready, input, output, Tree, skip, stop, assign, receive, send, seq, par, select, alt, declare, connect, Trees, no_tree, and_tree, Cases, no_case, and_case, Branches, no_branch, and_branch}
use Rattle.occ_syntax.specs.Scopes.{Environment, Values, EventSet, Trace, with_name, with_value, channel_width, has_width, in_scope}
use Rattle.occ_syntax.specs.Eval.{eval, is_true}

-- How a behaviour stands after its trace: the process has ended in a state, or it hasn't ended, can be stable, and then
-- refuses a set of events.
pub data Outcome : Type 0 where
  ended : Values → Outcome
  refusing : EventSet → Outcome

-- What a process does in an environment from a state: its traces, each with an outcome.
pub record Meaning : Type 1 where
  pub does : Environment → Values → Trace → Outcome → Type 0

-- ---- SKIP, STOP, assignment

-- it ends at once, in the state that f makes
abbrev pub at_once : (Environment → Values → Values) → Meaning
at_once f = record { does = λ Γ s t o. (t ≡ []) × (o ≡ ended (f Γ s)) }

-- it neither communicates nor ends
pub data Stopped : Trace → Outcome → Type 0 where
  stopped : {X : EventSet} → Stopped [] (refusing X)

abbrev pub never : Meaning
never = record { does = λ Γ s t o. Stopped t o }

-- all right sides are evaluated first, then put in place
abbrev pub assigned : List ℕ → List Exp → Environment → Values → Values
assigned [] es Γ s = s
assigned (x ∷ xs) [] Γ s = s
assigned (x ∷ xs) (e ∷ es) Γ s = with_value (assigned xs es Γ s) x (eval Γ e s)

-- ---- SEQ

-- The second process goes on from each state in which the first ends.
pub data Followed (p q : Meaning) (Γ : Environment) (s : Values) : Trace → Outcome → Type 0 where
  in_first : {t : Trace} {X : EventSet} → p.does Γ s t (refusing X) → Followed p q Γ s t (refusing X)
  in_second : {t : Trace} {o : Outcome} (t1 t2 : Trace) (s1 : Values) → t ≡ t1 ++ t2 → p.does Γ s t1 (ended s1) → q.does Γ s1 t2 o → Followed p q Γ s t o

abbrev pub followed : Meaning → Meaning → Meaning
followed p q = record { does = Followed p q }

-- ---- IF

-- the process of the first choice where its condition is true, else what the others do
abbrev pub chosen : Exp → Meaning → Meaning → Meaning
chosen e p rest = record { does = λ Γ s t o. MatchBool (is_true Γ e s) (p.does Γ s t o) (rest.does Γ s t o) }

-- ---- ALT

-- The guard takes part in the event, and leads to the new state: an input takes every value of the channel's width.
abbrev pub After : Environment → Values → Waiting → Event → Values → Type 0
After Γ s ready e u = ⊥
After Γ s (input c x) e u = (v : ℕ) × (has_width (channel_width Γ c) v ≡ true)
    × (e ≡ record { chan = record { 0 = c }; dir = Input; value = v }) × (u ≡ with_value s x v)
After Γ s (output c z) e u = (e ≡ record { chan = record { 0 = c }; dir = Output; value = eval Γ z s }) × (u ≡ s)

-- The guard is taken: with what is left of the trace its process goes on from the new state.
pub data Taken (Γ : Environment) (s : Values) : Waiting → Trace → Values → Trace → Type 0 where
  at_ready : {t : Trace} → Taken Γ s ready t s t
  at_event : {w : Waiting} {e : Event} {u : Values} {t : Trace} → After Γ s w e u → Taken Γ s w (e ∷ t) u t

-- the guard isn't SKIP, and none of its events is in the set
pub record IsQuiet (Γ : Environment) (s : Values) (w : Waiting) (X : EventSet) : Type 0 where
  pub not_ready : w ≡ ready → ⊥
  pub refused : (e : Event) (u : Values) → After Γ s w e u → X e ≡ false

-- What a list of branches does: which sets it refuses at once, and what comes once a guard is taken.
pub record Guards : Type 1 where
  pub refuses : Environment → Values → EventSet → Type 0
  pub goes : Environment → Values → Trace → Outcome → Type 0

abbrev pub no_guard : Guards
no_guard = record { refuses = λ Γ s X. Unit {0}; goes = λ Γ s t o. ⊥ }

-- the guard is enabled where its condition is true
abbrev pub and_guard : Exp → Waiting → Meaning → Guards → Guards
and_guard e w p rest = record {
  refuses = λ Γ s X. MatchBool (is_true Γ e s) (IsQuiet Γ s w X) (Unit {0}) × rest.refuses Γ s X;
  goes = λ Γ s t o. ((is_true Γ e s ≡ true) × ((u : Values) × (a : Trace) × Taken Γ s w t u a × p.does Γ u a o)) ⊎ rest.goes Γ s t o;
}

-- An ALT is stable before any event where no enabled guard is SKIP; it goes on by any enabled guard.
pub data Alternates (g : Guards) (Γ : Environment) (s : Values) : Trace → Outcome → Type 0 where
  stable : {X : EventSet} → g.refuses Γ s X → Alternates g Γ s [] (refusing X)
  taken : {t : Trace} {o : Outcome} → g.goes Γ s t o → Alternates g Γ s t o

abbrev pub alternatives : Guards → Meaning
alternatives g = record { does = Alternates g }

-- ---- PAR

-- Two traces of parts make a trace of both: each part's events in its order, but an event of one and its
-- counterpart of the other may happen together, unseen.
pub data Weave : Trace → Trace → Trace → Type 0 where
  both_done : Weave [] [] []
  of_first : {e : Event} {a b c : Trace} → Weave a b c → Weave (e ∷ a) b (e ∷ c)
  of_second : {e : Event} {a b c : Trace} → Weave a b c → Weave a (e ∷ b) (e ∷ c)
  unseen : {e f : Event} {a b c : Trace} → f ≡ counterpart e → Weave a b c → Weave (e ∷ a) (f ∷ b) c

-- each variable has its value of the first part where that changed it, and otherwise that of the second
abbrev pub join : Values → Values → Values → Values
join s s1 s2 = λ x. if s1 x == s x then s2 x else s1 x

-- X together with those events of the environment that are in Y
abbrev pub refused_with : Environment → EventSet → EventSet → EventSet
refused_with Γ X Y = λ e. X e || (in_scope Γ e && Y e)

-- the counterparts of what isn't in Y
abbrev pub answered : EventSet → EventSet
answered Y = λ e. not (Y (counterpart e))

-- What the outcomes of two parts make of both. Where neither has ended, both are stable and no event of one meets
-- its counterpart of the other: some set Y tells which events of the environment the first refuses, and the second
-- refuses the counterparts of all others.
pub data Combines (Γ : Environment) (s : Values) : Outcome → Outcome → Outcome → Type 0 where
  both_ended : {s1 s2 s' : Values} → s' ≡ join s s1 s2 → Combines Γ s (ended s1) (ended s2) (ended s')
  first_ended : {s1 : Values} {X : EventSet} → Combines Γ s (ended s1) (refusing X) (refusing X)
  second_ended : {s2 : Values} {X : EventSet} → Combines Γ s (refusing X) (ended s2) (refusing X)
  neither_ended : (X Y : EventSet) → Combines Γ s (refusing (refused_with Γ X Y)) (refusing (refused_with Γ X (answered Y))) (refusing X)

pub data Together (p q : Meaning) (Γ : Environment) (s : Values) (t : Trace) (o : Outcome) : Type 0 where
  together : (t1 t2 : Trace) (o1 o2 : Outcome) → Weave t1 t2 t → Combines Γ s o1 o2 o → p.does Γ s t1 o1 → q.does Γ s t2 o2 → Together p q Γ s t o

abbrev pub beside : Meaning → Meaning → Meaning
beside p q = record { does = Together p q }

-- ---- declarations

-- A declared variable begins with any value of its width, and is dropped from the final state.
pub data WithVariable (x : ℕ) (w : Width) (p : Meaning) (Γ : Environment) (s : Values) (t : Trace) : Outcome → Type 0 where
  at_end : {s' : Values} (v : ℕ) (s1 : Values) → v < 2 ^ bits_of w → s' ≡ with_value s1 x (s x) → p.does (with_name Γ x (Var w)) (with_value s x v) t (ended s1)
      → WithVariable x w p Γ s t (ended s')
  at_rest : {X : EventSet} (v : ℕ) → v < 2 ^ bits_of w → p.does (with_name Γ x (Var w)) (with_value s x v) t (refusing X)
      → WithVariable x w p Γ s t (refusing X)

abbrev pub over_variable : ℕ → Width → Meaning → Meaning
over_variable x w p = record { does = WithVariable x w p }

-- no event of the trace is on the channel
abbrev pub is_silent : ℕ → Trace → Bool
is_silent c [] = true
is_silent c (e ∷ t) = not (e.chan.0 == c) && is_silent c t

-- the events of a set that aren't on the channel
abbrev pub off_channel : ℕ → EventSet → EventSet
off_channel c X = λ e. not (e.chan.0 == c) && X e

-- Nothing on a declared channel reaches the outside.
pub data WithChannel (c : ℕ) (w : Width) (p : Meaning) (Γ : Environment) (s : Values) (t : Trace) : Outcome → Type 0 where
  at_end : {s1 : Values} → is_silent c t ≡ true → p.does (with_name Γ c (Chan w None)) s t (ended s1) → WithChannel c w p Γ s t (ended s1)
  at_rest : {X : EventSet} → is_silent c t ≡ true → p.does (with_name Γ c (Chan w None)) s t (refusing (off_channel c X)) → WithChannel c w p Γ s t (refusing X)

abbrev pub over_channel : ℕ → Width → Meaning → Meaning
over_channel c w p = record { does = WithChannel c w p }

-- ---- a process by its parts

abbrev pub beside_all : Trees → Meaning → Meaning → Meaning
beside_all no_tree p rest = p
beside_all (and_tree q qs) p rest = beside p rest

abbrev mutual
  pub meaning : Tree → Meaning
  meaning skip = at_once (λ Γ s. s)
  meaning stop = never
  meaning (assign xs es) = at_once (assigned xs es)
  meaning (receive c x) = alternatives (and_guard (truth true) (input c x) (at_once (λ Γ s. s)) no_guard)
  meaning (send c e) = alternatives (and_guard (truth true) (output c e) (at_once (λ Γ s. s)) no_guard)
  meaning (seq ps) = in_turn ps
  meaning (par ps) = at_the_same_time ps
  meaning (select cs) = first_choice cs
  meaning (alt bs) = alternatives (guards bs)
  meaning (declare x w p) = over_variable x w (meaning p)
  meaning (connect c w p) = over_channel c w (meaning p)

  -- the parts of a SEQ, of which the empty one is SKIP
  pub in_turn : Trees → Meaning
  in_turn no_tree = at_once (λ Γ s. s)
  in_turn (and_tree p ps) = followed (meaning p) (in_turn ps)

  -- the parts of a PAR, folded from the right: the empty one is SKIP, and one part is that part
  pub at_the_same_time : Trees → Meaning
  at_the_same_time no_tree = at_once (λ Γ s. s)
  at_the_same_time (and_tree p ps) = beside_all ps (meaning p) (at_the_same_time ps)

  -- the choices of an IF, which is STOP where there is none
  pub first_choice : Cases → Meaning
  first_choice no_case = never
  first_choice (and_case e p cs) = chosen e (meaning p) (first_choice cs)

  pub guards : Branches → Guards
  guards no_branch = no_guard
  guards (and_branch e w p bs) = and_guard e w (meaning p) (guards bs)

-- After t the process can have ended in s'.
abbrev pub ends : Environment → Tree → Values → Trace → Values → Type 0
ends Γ p s t s' = (meaning p).does Γ s t (ended s')

-- After t the process can be stable and not ended and refuse every event of X.
abbrev pub fails : Environment → Tree → Values → Trace → EventSet → Type 0
fails Γ p s t X = (meaning p).does Γ s t (refusing X)
