-- No trace of a part is longer than its communications on the longest way.
use Rattle.occ_syntax.specs.occ_base.declared.event.Event.{Event}
use Rattle.occ_syntax.specs.occ_base.declared.width.Width.{Width}
use Rattle.occ_meaning.proofs.Facts.{either}
use Rattle.occ_meaning.specs.Bound.{guard_events, most_events, most_of_branches, most_of_cases, sum_of_events}
use Rattle.occ_syntax.specs.Eval.{is_true}
use Rattle.occ_syntax.specs.Meaning.{Alternates, Followed, Guards, Meaning, Outcome, Stopped, Taken, Together, Weave, WithChannel, WithVariable, alternatives, and_guard, assigned, at_event, at_once, at_ready, at_the_same_time, beside_all, both_done, chosen, ended, first_choice, followed, guards, in_first, in_second, in_turn, meaning, never, no_guard, of_first, of_second, off_channel, refusing, stable, stopped, taken, together, unseen}
use Rattle.occ_syntax.specs.Scopes.{Environment, Trace, Values, with_name, with_value}
use Rattle.occ_syntax.specs.Tree.{Branches, Cases, Exp, Tree, Trees, Waiting, alt, and_branch, and_case, and_tree, assign, connect, declare, input, no_branch, no_case, no_tree, output, par, ready, receive, select, send, seq, skip, stop, truth}
use Rattle.occ_syntax.specs.declared.scope.Kind.TheVariants.{Chan, Var}
use Rattle.std.proofs.Common.{None, [], ap, arith, inl, inr, length, max, subst, sym, true, ℕ, ◌+◌, ◌∙◌, ◌≡◌, ◌≤◌}
use Rattle.std.proofs.lemmas.List.{length-append}

pub record Bounded (n : ℕ) (m : Meaning) : Type 0 where
  pub bound : (Γ : Environment) (s : Values) (t : Trace) (o : Outcome) → m.does Γ s t o → length t ≤ n

pub record GuardsBounded (n : ℕ) (g : Guards) : Type 0 where
  pub bound : (Γ : Environment) (s : Values) (t : Trace) (o : Outcome) → g.goes Γ s t o → length t ≤ n

wider : (n k : ℕ) (m : Meaning) → n ≤ k → Bounded n m → Bounded k m
wider n k m le h = record { bound = λ Γ s t o d. (let b : length t ≤ n = h.bound Γ s t o d in omega arith) }

once_bounded : (f : Environment → Values → Values) → Bounded 0 (at_once f)
once_bounded f = record { bound = λ Γ s t o d. (let P : Trace → Type 0 = λ r. length r ≤ 0 in let z : length {A = Event} [] ≤ 0 = omega arith in subst P (sym d.0) z) }

stopped_bound : (t : Trace) (o : Outcome) → Stopped t o → length t ≤ 0
stopped_bound t o stopped = omega arith

never_bounded : Bounded 0 never
never_bounded = record { bound = λ Γ s t o d. stopped_bound t o d }

followed_bound : (n k : ℕ) (m l : Meaning) → Bounded n m → Bounded k l → (Γ : Environment) (s : Values) (t : Trace) (o : Outcome)
    → Followed m l Γ s t o → length t ≤ n + k
followed_bound n k m l hm hl Γ s t o (in_first {X = X} d) = let b : length t ≤ n = hm.bound Γ s t (refusing X) d in omega arith
followed_bound n k m l hm hl Γ s t o (in_second t1 t2 s1 e d1 d2) =
    let b : length t1 ≤ n = hm.bound Γ s t1 (ended s1) d1 in
    let c : length t2 ≤ k = hl.bound Γ s1 t2 o d2 in
    let i : length t ≡ length t1 + length t2 = ap length e ∙ length-append t1 t2 in omega arith

followed_bounded : (n k : ℕ) (m l : Meaning) → Bounded n m → Bounded k l → Bounded (n + k) (followed m l)
followed_bounded n k m l hm hl = record { bound = followed_bound n k m l hm hl }

in_most_left : (a n k : ℕ) → a ≤ n → a ≤ max n k
in_most_left a n k h = omega arith

in_most_right : (a n k : ℕ) → a ≤ k → a ≤ max n k
in_most_right a n k h = omega arith

chosen_bounded : (n k : ℕ) (e : Exp) (m l : Meaning) → Bounded n m → Bounded k l → Bounded (max n k) (chosen e m l)
chosen_bounded n k e m l hm hl = record { bound = λ Γ s t o d. either (is_true Γ e s) (λ h. in_most_left (length t) n k (hm.bound Γ s t o h)) (λ h. in_most_right (length t) n k (hl.bound Γ s t o h)) d }

taken_bound : (Γ : Environment) (s : Values) (w : Waiting) (t : Trace) (u : Values) (a : Trace) (n : ℕ) → length a ≤ n → Taken Γ s w t u a
    → length t ≤ guard_events w + n
taken_bound Γ s w t u a n h at_ready = let k : length a ≤ n = h in omega arith
taken_bound Γ s w t u a n h (at_event {w = ready} {e = e} after) = absurd after
taken_bound Γ s w t u a n h (at_event {w = input c x} {e = e} after) = omega arith
taken_bound Γ s w t u a n h (at_event {w = output c z} {e = e} after) = omega arith

no_guard_bounded : GuardsBounded 0 no_guard
no_guard_bounded = record { bound = λ Γ s t o d. absurd d }

and_guard_bounded : (n k : ℕ) (e : Exp) (w : Waiting) (m : Meaning) (g : Guards) → Bounded n m → GuardsBounded k g
    → GuardsBounded (max (guard_events w + n) k) (and_guard e w m g)
and_guard_bounded n k e w m g hm hg = record {
  bound = λ Γ s t o d. elim d [
    | inl i ↦ in_most_left (length t) (guard_events w + n) k (taken_bound Γ s w t i.1.0 i.1.1 n (hm.bound Γ i.1.0 i.1.1 o i.1.3) i.1.2)
    | inr i ↦ in_most_right (length t) (guard_events w + n) k (hg.bound Γ s t o i)
  ];
}

alternates_bound : (n : ℕ) (g : Guards) → GuardsBounded n g → (Γ : Environment) (s : Values) (t : Trace) (o : Outcome)
    → Alternates g Γ s t o → length t ≤ n
alternates_bound n g hg Γ s t o (stable d) = omega arith
alternates_bound n g hg Γ s t o (taken d) = hg.bound Γ s t o d

alternatives_bounded : (n : ℕ) (g : Guards) → GuardsBounded n g → Bounded n (alternatives g)
alternatives_bounded n g hg = record { bound = alternates_bound n g hg }

pub woven_length : (a b c : Trace) → Weave a b c → length c ≤ length a + length b
woven_length a b c both_done = omega arith
woven_length a b c (of_first {e = e} {a = x} {b = y} {c = z} w) = let h : length z ≤ length x + length y = woven_length x y z w in omega arith
woven_length a b c (of_second {e = e} {a = x} {b = y} {c = z} w) = let h : length z ≤ length x + length y = woven_length x y z w in omega arith
woven_length a b c (unseen {e = e} {f = f} {a = x} {b = y} {c = z} i w) = let h : length z ≤ length x + length y = woven_length x y z w in omega arith

together_bound : (n k : ℕ) (m l : Meaning) → Bounded n m → Bounded k l → (Γ : Environment) (s : Values) (t : Trace) (o : Outcome)
    → Together m l Γ s t o → length t ≤ n + k
together_bound n k m l hm hl Γ s t o (together t1 t2 o1 o2 w c d1 d2) =
    let b : length t1 ≤ n = hm.bound Γ s t1 o1 d1 in
    let i : length t2 ≤ k = hl.bound Γ s t2 o2 d2 in
    let j : length t ≤ length t1 + length t2 = woven_length t1 t2 t w in omega arith

beside_all_bounded : (n k : ℕ) (ps : Trees) (m l : Meaning) → Bounded n m → Bounded k l → Bounded (n + k) (beside_all ps m l)
beside_all_bounded n k no_tree m l hm hl = wider n (n + k) m (omega arith) hm
beside_all_bounded n k (and_tree p ps) m l hm hl = record { bound = together_bound n k m l hm hl }

variable_bound : (n x : ℕ) (w : Width) (m : Meaning) → Bounded n m → (Γ : Environment) (s : Values) (t : Trace) (o : Outcome)
    → WithVariable x w m Γ s t o → length t ≤ n
variable_bound n x w m hm Γ s t o (WithVariable.at_end v s1 lt e d) = hm.bound (with_name Γ x (Var w)) (with_value s x v) t (ended s1) d
variable_bound n x w m hm Γ s t o (WithVariable.at_rest {X = X} v lt d) = hm.bound (with_name Γ x (Var w)) (with_value s x v) t (refusing X) d

channel_bound : (n c : ℕ) (w : Width) (m : Meaning) → Bounded n m → (Γ : Environment) (s : Values) (t : Trace) (o : Outcome)
    → WithChannel c w m Γ s t o → length t ≤ n
channel_bound n c w m hm Γ s t o (WithChannel.at_end {s1 = r} silent d) = hm.bound (with_name Γ c (Chan w None)) s t (ended r) d
channel_bound n c w m hm Γ s t o (WithChannel.at_rest {X = X} silent d) = hm.bound (with_name Γ c (Chan w None)) s t (refusing (off_channel c X)) d

alone_bounded : (w : Waiting) → Bounded (max (guard_events w + 0) 0) (alternatives (and_guard (truth true) w (at_once (λ Γ s. s)) no_guard))
alone_bounded w = alternatives_bounded (max (guard_events w + 0) 0) (and_guard (truth true) w (at_once (λ Γ s. s)) no_guard) (and_guard_bounded 0 0 (truth true) w (at_once (λ Γ s. s)) no_guard (once_bounded (λ Γ s. s)) no_guard_bounded)

mutual
  pub part_bounded : (p : Tree) → Bounded (most_events p) (meaning p)
  part_bounded skip = once_bounded (λ Γ s. s)
  part_bounded stop = never_bounded
  part_bounded (assign xs es) = once_bounded (assigned xs es)
  part_bounded (receive c x) = alone_bounded (input c x)
  part_bounded (send c e) = alone_bounded (output c e)
  part_bounded (seq ps) = turn_bounded ps
  part_bounded (par ps) = parallel_bounded ps
  part_bounded (select cs) = cases_bounded cs
  part_bounded (alt bs) = alternatives_bounded (most_of_branches bs) (guards bs) (branches_bounded bs)
  part_bounded (declare x w p) = record { bound = variable_bound (most_events p) x w (meaning p) (part_bounded p) }
  part_bounded (connect c w p) = record { bound = channel_bound (most_events p) c w (meaning p) (part_bounded p) }

  turn_bounded : (ps : Trees) → Bounded (sum_of_events ps) (in_turn ps)
  turn_bounded no_tree = once_bounded (λ Γ s. s)
  turn_bounded (and_tree p ps) = followed_bounded (most_events p) (sum_of_events ps) (meaning p) (in_turn ps) (part_bounded p) (turn_bounded ps)

  parallel_bounded : (ps : Trees) → Bounded (sum_of_events ps) (at_the_same_time ps)
  parallel_bounded no_tree = once_bounded (λ Γ s. s)
  parallel_bounded (and_tree p ps) = beside_all_bounded (most_events p) (sum_of_events ps) ps (meaning p) (at_the_same_time ps) (part_bounded p) (parallel_bounded ps)

  cases_bounded : (cs : Cases) → Bounded (most_of_cases cs) (first_choice cs)
  cases_bounded no_case = never_bounded
  cases_bounded (and_case e p cs) = chosen_bounded (most_events p) (most_of_cases cs) e (meaning p) (first_choice cs) (part_bounded p) (cases_bounded cs)

  branches_bounded : (bs : Branches) → GuardsBounded (most_of_branches bs) (guards bs)
  branches_bounded no_branch = no_guard_bounded
  branches_bounded (and_branch e w p bs) = and_guard_bounded (most_events p) (most_of_branches bs) e w (meaning p) (guards bs) (part_bounded p) (branches_bounded bs)
