-- Names exchanged for others, each for one: whatever a part does, it does under the other names.
-- ---- an exchange f: applied twice it changes nothing
use Rattle.occ_syntax.specs.occ_base.declared.event.Dir.TheVariants.{Input, Output}
use Rattle.occ_syntax.specs.occ_base.declared.event.Event.{Event}
use Rattle.occ_syntax.specs.occ_base.declared.width.Width.{Width}
use Rattle.occ_meaning.proofs.Facts.{at_itself, both, if_false, if_true}
use Rattle.occ_meaning.specs.Rename.{all_renamed, branches_renamed, cases_renamed, exchanging, renamed, renamed_event, renamed_exp, renamed_exps, renamed_names, renamed_outcome, renamed_trace, renamed_waiting, under}
use Rattle.occ_syntax.specs.Eval.{applied, bits_in, bits_of_exp, eval, is_true, keeps_width}
use Rattle.occ_syntax.specs.Meaning.{After, Alternates, Combines, Followed, Guards, IsQuiet, Meaning, Outcome, Stopped, Taken, Together, Weave, WithChannel, WithVariable, alternatives, and_guard, assigned, at_event, at_once, at_ready, at_the_same_time, beside_all, both_done, both_ended, chosen, ended, first_choice, first_ended, followed, guards, in_first, in_second, in_turn, is_silent, meaning, neither_ended, never, no_guard, of_first, of_second, off_channel, refusing, second_ended, stable, stopped, taken, together, unseen}
use Rattle.occ_syntax.specs.Scopes.{Environment, EventSet, Trace, Values, channel_kind, has_width, variable_kind, with_name, with_value}
use Rattle.occ_syntax.specs.Tree.{Branches, Cases, Exp, Tree, Trees, Waiting, alt, and_branch, and_case, and_tree, assign, complement, connect, declare, input, negation, no_branch, no_case, no_tree, numeral, operation, output, par, ready, receive, select, send, seq, skip, stop, truth, variable}
use Rattle.occ_syntax.specs.Types.{if_truth_value, if_word, type_of, type_of_two}
use Rattle.occ_syntax.specs.declared.scope.Kind.{Kind}
use Rattle.occ_syntax.specs.declared.scope.Kind.TheVariants.{Chan, Var}
use Rattle.std.proofs.Common.{Bool, List, MatchBool, None, Some, [], ap, false, if◌then◌else◌, inl, inr, not, refl, subst, sym, true, ℕ, ◌&&◌, ◌++◌, ◌-◌, ◌==◌, ◌^◌, ◌∙◌, ◌∷◌, ◌≡◌}
use Rattle.std.proofs.lemmas.Bool.{eq-eqb, eqb-true, ne_eqb}
use Rattle.std.proofs.lemmas.Bool.Decides.{eqb_tells}
use mathlib.Core.Path.{fun_ext}

abbrev pub IsExchange : (ℕ → ℕ) → Type 0
IsExchange f = (n : ℕ) → f (f n) ≡ n

pub flip : (f : ℕ → ℕ) → IsExchange f → (a b : ℕ) → (a == f b) ≡ (f a == b)
flip f inv a b = elim (eqb_tells a (f b)) [
  | inl k ↦ k.0 ∙ sym (eq-eqb (f a) b (ap f k.1 ∙ inv b))
  | inr k ↦ k.0 ∙ sym (ne_eqb (f a) b (λ e. k.1 (sym (inv a) ∙ ap f e)))
]

pub one_for_one : (f : ℕ → ℕ) → IsExchange f → (a b : ℕ) → (f a == f b) ≡ (a == b)
one_for_one f inv a b = flip f inv (f a) b ∙ ap (λ n. n == b) (inv a)

pub value_under : (f : ℕ → ℕ) → IsExchange f → (s : Values) (x v : ℕ) → under f (with_value s x v) ≡ with_value (under f s) (f x) v
value_under f inv s x v = fun_ext (λ y. ap (λ b. if b then v else s (f y)) (sym (flip f inv y x)))

pub name_under : (f : ℕ → ℕ) → IsExchange f → (Γ : Environment) (x : ℕ) (kind : Kind)
    → under f (with_name Γ x kind) ≡ with_name (under f Γ) (f x) kind
name_under f inv Γ x kind = fun_ext (λ y. ap (λ b. if b then Some kind else Γ (f y)) (sym (flip f inv y x)))

pub exchange_is : (a b : ℕ) → IsExchange (exchanging a b)
exchange_is a b n = elim (eqb_tells n a) [
  | inl k ↦ ap (exchanging a b) (if_true (n == a) b (if n == b then a else n) k.0) ∙ (to_second (b == a) refl ∙ sym k.1)
  | inr k ↦ elim (eqb_tells n b) [
    | inl j ↦ ap (exchanging a b) (if_false (n == a) b (if n == b then a else n) k.0 ∙ if_true (n == b) a n j.0) ∙ (if_true (a == a) b (if a == b then a else a) (at_itself a) ∙ sym j.1)
    | inr j ↦ ap (exchanging a b) (if_false (n == a) b (if n == b then a else n) k.0 ∙ if_false (n == b) a n j.0) ∙ (if_false (n == a) b (if n == b then a else n) k.0 ∙ if_false (n == b) a n j.0)
  ]
]
  where
    to_second : (t : Bool) → (b == a) ≡ t → exchanging a b b ≡ a
    to_second true e = if_true (b == a) b (if b == b then a else b) e ∙ eqb-true b a e
    to_second false e = if_false (b == a) b (if b == b then a else b) e ∙ if_true (b == b) a b (at_itself b)

-- ---- expressions

pub bits_under : (f : ℕ → ℕ) → IsExchange f → (Γ : Environment) (e : Exp) → bits_of_exp (under f Γ) (renamed_exp f e) ≡ bits_of_exp Γ e
bits_under f inv Γ (variable x) = ap (λ n. bits_in (variable_kind (Γ n))) (inv x)
bits_under f inv Γ (numeral bits value) = refl
bits_under f inv Γ (truth b) = refl
bits_under f inv Γ (negation e) = refl
bits_under f inv Γ (complement e) = bits_under f inv Γ e
bits_under f inv Γ (operation op left right) = ap (λ n. if keeps_width op then n else 1) (bits_under f inv Γ left)

pub eval_under : (f : ℕ → ℕ) → IsExchange f → (Γ : Environment) (s : Values) (e : Exp) → eval (under f Γ) (renamed_exp f e) (under f s) ≡ eval Γ e s
eval_under f inv Γ s (variable x) = ap s (inv x)
eval_under f inv Γ s (numeral bits value) = refl
eval_under f inv Γ s (truth b) = refl
eval_under f inv Γ s (negation e) = ap (λ n. 1 - n) (eval_under f inv Γ s e)
eval_under f inv Γ s (complement e) =
    ap (λ n. 2 ^ n - 1 - eval (under f Γ) (renamed_exp f e) (under f s)) (bits_under f inv Γ e) ∙ ap (λ n. 2 ^ bits_of_exp Γ e - 1 - n) (eval_under f inv Γ s e)
eval_under f inv Γ s (operation op left right) =
    ap (λ n. applied op n (eval (under f Γ) (renamed_exp f left) (under f s)) (eval (under f Γ) (renamed_exp f right) (under f s))) (bits_under f inv Γ left)
    ∙ (ap (λ n. applied op (bits_of_exp Γ left) n (eval (under f Γ) (renamed_exp f right) (under f s))) (eval_under f inv Γ s left)
    ∙ ap (λ n. applied op (bits_of_exp Γ left) (eval Γ left s) n) (eval_under f inv Γ s right))

pub type_under : (f : ℕ → ℕ) → IsExchange f → (Γ : Environment) (e : Exp) → type_of (under f Γ) (renamed_exp f e) ≡ type_of Γ e
type_under f inv Γ (variable x) = ap (λ n. variable_kind (Γ n)) (inv x)
type_under f inv Γ (numeral bits value) = refl
type_under f inv Γ (truth b) = refl
type_under f inv Γ (negation e) = ap if_truth_value (type_under f inv Γ e)
type_under f inv Γ (complement e) = ap if_word (type_under f inv Γ e)
type_under f inv Γ (operation op left right) =
    ap (λ a. type_of_two op a (type_of (under f Γ) (renamed_exp f right))) (type_under f inv Γ left) ∙ ap (λ b. type_of_two op (type_of Γ left) b) (type_under f inv Γ right)

pub truth_under : (f : ℕ → ℕ) → IsExchange f → (Γ : Environment) (s : Values) (e : Exp)
    → is_true (under f Γ) (renamed_exp f e) (under f s) ≡ is_true Γ e s
truth_under f inv Γ s e = ap (λ n. n == 1) (eval_under f inv Γ s e)

assigned_under : (f : ℕ → ℕ) → IsExchange f → (Γ : Environment) (s : Values) (xs : List ℕ) (es : List Exp)
    → under f (assigned xs es Γ s) ≡ assigned (renamed_names f xs) (renamed_exps f es) (under f Γ) (under f s)
assigned_under f inv Γ s [] es = refl
assigned_under f inv Γ s (x ∷ xs) [] = refl
assigned_under f inv Γ s (x ∷ xs) (e ∷ es) =
    value_under f inv (assigned xs es Γ s) x (eval Γ e s)
    ∙ (ap (λ r. with_value r (f x) (eval Γ e s)) (assigned_under f inv Γ s xs es)
    ∙ ap (λ n. with_value (assigned (renamed_names f xs) (renamed_exps f es) (under f Γ) (under f s)) (f x) n) (sym (eval_under f inv Γ s e)))

-- ---- one operator at a time

pub record Carries (f : ℕ → ℕ) (m n : Meaning) : Type 0 where
  pub carried : (Γ : Environment) (s : Values) (t : Trace) (o : Outcome) → m.does Γ s t o
      → n.does (under f Γ) (under f s) (renamed_trace f t) (renamed_outcome f o)

pub record CarriesGuards (f : ℕ → ℕ) (g h : Guards) : Type 0 where
  pub first : (Γ : Environment) (s : Values) (X : EventSet) → g.refuses Γ s X → h.refuses (under f Γ) (under f s) (λ e. X (renamed_event f e))
  pub later : (Γ : Environment) (s : Values) (t : Trace) (o : Outcome) → g.goes Γ s t o
      → h.goes (under f Γ) (under f s) (renamed_trace f t) (renamed_outcome f o)

skip_carries : (f : ℕ → ℕ) → Carries f (at_once (λ Γ s. s)) (at_once (λ Γ s. s))
skip_carries f = record { carried = λ Γ s t o d. (ap (renamed_trace f) d.0, ap (renamed_outcome f) d.1) }

stopped_carried : (f : ℕ → ℕ) (t : Trace) (o : Outcome) → Stopped t o → Stopped (renamed_trace f t) (renamed_outcome f o)
stopped_carried f t o stopped = stopped

never_carries : (f : ℕ → ℕ) → Carries f never never
never_carries f = record { carried = λ Γ s t o d. stopped_carried f t o d }

assign_carries : (f : ℕ → ℕ) → IsExchange f → (xs : List ℕ) (es : List Exp)
    → Carries f (at_once (assigned xs es)) (at_once (assigned (renamed_names f xs) (renamed_exps f es)))
assign_carries f inv xs es = record { carried = λ Γ s t o d. (ap (renamed_trace f) d.0, ap (renamed_outcome f) d.1 ∙ ap ended (assigned_under f inv Γ s xs es)) }

pub trace_both : (f : ℕ → ℕ) (a b : Trace) → renamed_trace f (a ++ b) ≡ renamed_trace f a ++ renamed_trace f b
trace_both f [] b = refl
trace_both f (e ∷ a) b = ap (λ r. renamed_event f e ∷ r) (trace_both f a b)

followed_carried : (f : ℕ → ℕ) (m m' n n' : Meaning) → Carries f m m' → Carries f n n'
    → (Γ : Environment) (s : Values) (t : Trace) (o : Outcome) → Followed m n Γ s t o
    → Followed m' n' (under f Γ) (under f s) (renamed_trace f t) (renamed_outcome f o)
followed_carried f m m' n n' hm hn Γ s t o (in_first {X = X} d) = in_first (hm.carried Γ s t (refusing X) d)
followed_carried f m m' n n' hm hn Γ s t o (in_second t1 t2 s1 e d1 d2) =
    in_second (renamed_trace f t1) (renamed_trace f t2) (under f s1) (ap (renamed_trace f) e ∙ trace_both f t1 t2) (hm.carried Γ s t1 (ended s1) d1) (hn.carried Γ s1 t2 o d2)

followed_carries : (f : ℕ → ℕ) (m m' n n' : Meaning) → Carries f m m' → Carries f n n' → Carries f (followed m n) (followed m' n')
followed_carries f m m' n n' hm hn = record { carried = followed_carried f m m' n n' hm hn }

chosen_carries : (f : ℕ → ℕ) → IsExchange f → (e : Exp) (m m' n n' : Meaning) → Carries f m m' → Carries f n n'
    → Carries f (chosen e m n) (chosen (renamed_exp f e) m' n')
chosen_carries f inv e m m' n n' hm hn = record {
  carried = λ Γ s t o d.
      let P : Bool → Type 0 = λ b. MatchBool b (m'.does (under f Γ) (under f s) (renamed_trace f t) (renamed_outcome f o)) (n'.does (under f Γ) (under f s) (renamed_trace f t) (renamed_outcome f o)) in
      subst P (sym (truth_under f inv Γ s e)) (both (is_true Γ e s) (λ h. hm.carried Γ s t o h) (λ h. hn.carried Γ s t o h) d);
}

pub after_under : (f : ℕ → ℕ) → IsExchange f → (Γ : Environment) (s : Values) (w : Waiting) (e : Event) (u : Values) → After Γ s w e u
    → After (under f Γ) (under f s) (renamed_waiting f w) (renamed_event f e) (under f u)
after_under f inv Γ s ready e u a = a
after_under f inv Γ s (input c x) e u a =
    let P : ℕ → Type 0 = λ n. has_width (channel_kind (Γ n)) a.0 ≡ true in
    (a.0, subst P (sym (inv c)) a.1, ap (renamed_event f) a.2, ap (λ r. under f r) a.3 ∙ value_under f inv s x a.0)
after_under f inv Γ s (output c z) e u a =
    (ap (renamed_event f) a.0 ∙ ap (λ v. record { chan = record { 0 = f c }; dir = Output; value = v }) (sym (eval_under f inv Γ s z)), ap (λ r. under f r) a.1)

pub after_back : (f : ℕ → ℕ) → IsExchange f → (Γ : Environment) (s : Values) (w : Waiting) (e : Event) (u : Values)
    → After (under f Γ) (under f s) (renamed_waiting f w) e u → (r : Values) × After Γ s w (renamed_event f e) r
after_back f inv Γ s ready e u a = absurd a
after_back f inv Γ s (input c x) e u a =
    let P : ℕ → Type 0 = λ n. has_width (channel_kind (Γ n)) a.0 ≡ true in
    (with_value s x a.0, (a.0, subst P (inv c) a.1, ap (renamed_event f) a.2 ∙ ap (λ n. record { chan = record { 0 = n }; dir = Input; value = a.0 }) (inv c), refl))
after_back f inv Γ s (output c z) e u a = (
  s,
  (
    ap (renamed_event f) a.0 ∙ (ap (λ n. record { chan = record { 0 = n }; dir = Output; value = eval (under f Γ) (renamed_exp f z) (under f s) }) (inv c)
        ∙ ap (λ v. record { chan = record { 0 = c }; dir = Output; value = v }) (eval_under f inv Γ s z)),
    refl,
  ),
)

taken_under : (f : ℕ → ℕ) → IsExchange f → (Γ : Environment) (s : Values) (w : Waiting) (t : Trace) (u : Values) (a : Trace)
    → Taken Γ s w t u a → Taken (under f Γ) (under f s) (renamed_waiting f w) (renamed_trace f t) (under f u) (renamed_trace f a)
taken_under f inv Γ s w t u a at_ready = at_ready
taken_under f inv Γ s w t u a (at_event {w = b} {e = e} {u = r} k) = at_event (after_under f inv Γ s b e r k)

ready_back : (f : ℕ → ℕ) (w : Waiting) → renamed_waiting f w ≡ ready → w ≡ ready
ready_back f ready h = refl
ready_back f (input c x) h = cc
ready_back f (output c z) h = cc

no_guard_carries : (f : ℕ → ℕ) → CarriesGuards f no_guard no_guard
no_guard_carries f = record { first = λ Γ s X d. d; later = λ Γ s t o d. d }

and_guard_carries : (f : ℕ → ℕ) → IsExchange f → (b : Exp) (w : Waiting) (m m' : Meaning) (g h : Guards) → Carries f m m'
    → CarriesGuards f g h → CarriesGuards f (and_guard b w m g) (and_guard (renamed_exp f b) (renamed_waiting f w) m' h)
and_guard_carries f inv b w m m' g h hm hg = record {
  first = λ Γ s X d. (
    let P : Bool → Type 0 = λ c. MatchBool c (IsQuiet (under f Γ) (under f s) (renamed_waiting f w) (λ e. X (renamed_event f e))) (Unit {0}) in
        subst P (sym (truth_under f inv Γ s b))
        (both (is_true Γ b s) (λ q. record { not_ready = λ e. q.not_ready (ready_back f w e); refused = λ e u a. let r = after_back f inv Γ s w e u a in q.refused (renamed_event f e) r.0 r.1 }) (λ q. q) d.0),
    hg.first Γ s X d.1,
  );
  later = λ Γ s t o d. elim d [
    | inl k ↦ inl (truth_under f inv Γ s b ∙ k.0, (under f k.1.0, renamed_trace f k.1.1, taken_under f inv Γ s w t k.1.0 k.1.1 k.1.2, hm.carried Γ k.1.0 k.1.1 o k.1.3))
    | inr k ↦ inr (hg.later Γ s t o k)
  ];
}

alternates_carried : (f : ℕ → ℕ) (g h : Guards) → CarriesGuards f g h → (Γ : Environment) (s : Values) (t : Trace) (o : Outcome)
    → Alternates g Γ s t o → Alternates h (under f Γ) (under f s) (renamed_trace f t) (renamed_outcome f o)
alternates_carried f g h k Γ s t o (stable {X = X} d) = stable (k.first Γ s X d)
alternates_carried f g h k Γ s t o (taken d) = taken (k.later Γ s t o d)

alternatives_carry : (f : ℕ → ℕ) (g h : Guards) → CarriesGuards f g h → Carries f (alternatives g) (alternatives h)
alternatives_carry f g h k = record { carried = alternates_carried f g h k }

weave_under : (f : ℕ → ℕ) (a b c : Trace) → Weave a b c → Weave (renamed_trace f a) (renamed_trace f b) (renamed_trace f c)
weave_under f a b c both_done = both_done
weave_under f a b c (of_first {a = x} {b = y} {c = z} w) = of_first (weave_under f x y z w)
weave_under f a b c (of_second {a = x} {b = y} {c = z} w) = of_second (weave_under f x y z w)
weave_under f a b c (unseen {a = x} {b = y} {c = z} i w) = unseen (ap (renamed_event f) i) (weave_under f x y z w)

combines_under : (f : ℕ → ℕ) (Γ : Environment) (s : Values) (o1 o2 o : Outcome) → Combines Γ s o1 o2 o
    → Combines (under f Γ) (under f s) (renamed_outcome f o1) (renamed_outcome f o2) (renamed_outcome f o)
combines_under f Γ s o1 o2 o (both_ended e) = both_ended (ap (λ r. under f r) e)
combines_under f Γ s o1 o2 o first_ended = first_ended
combines_under f Γ s o1 o2 o second_ended = second_ended
combines_under f Γ s o1 o2 o (neither_ended X Y) = neither_ended (λ e. X (renamed_event f e)) (λ e. Y (renamed_event f e))

together_carried : (f : ℕ → ℕ) (m m' n n' : Meaning) → Carries f m m' → Carries f n n'
    → (Γ : Environment) (s : Values) (t : Trace) (o : Outcome) → Together m n Γ s t o
    → Together m' n' (under f Γ) (under f s) (renamed_trace f t) (renamed_outcome f o)
together_carried f m m' n n' hm hn Γ s t o (together t1 t2 o1 o2 w c d1 d2) =
    together (renamed_trace f t1) (renamed_trace f t2) (renamed_outcome f o1) (renamed_outcome f o2) (weave_under f t1 t2 t w) (combines_under f Γ s o1 o2 o c) (hm.carried Γ s t1 o1 d1) (hn.carried Γ s t2 o2 d2)

beside_all_carries : (f : ℕ → ℕ) (ps : Trees) (m m' n n' : Meaning) → Carries f m m' → Carries f n n'
    → Carries f (beside_all ps m n) (beside_all (all_renamed ps f) m' n')
beside_all_carries f no_tree m m' n n' hm hn = hm
beside_all_carries f (and_tree p ps) m m' n n' hm hn = record { carried = together_carried f m m' n n' hm hn }

variable_carried : (f : ℕ → ℕ) → IsExchange f → (x : ℕ) (w : Width) (m n : Meaning) → Carries f m n
    → (Γ : Environment) (s : Values) (t : Trace) (o : Outcome) → WithVariable x w m Γ s t o
    → WithVariable (f x) w n (under f Γ) (under f s) (renamed_trace f t) (renamed_outcome f o)
variable_carried f inv x w m n h Γ s t o (WithVariable.at_end v s1 lt e d) =
    let P : Environment → Type 0 = λ Ψ. n.does Ψ (under f (with_value s x v)) (renamed_trace f t) (ended (under f s1)) in
    let Q : Values → Type 0 = λ r. n.does (with_name (under f Γ) (f x) (Var w)) r (renamed_trace f t) (ended (under f s1)) in
    WithVariable.at_end v (under f s1) lt (ap (λ r. under f r) e ∙ (value_under f inv s1 x (s x) ∙ ap (λ k. with_value (under f s1) (f x) k) (ap s (sym (inv x)))))
    (subst Q (value_under f inv s x v) (subst P (name_under f inv Γ x (Var w)) (h.carried (with_name Γ x (Var w)) (with_value s x v) t (ended s1) d)))
variable_carried f inv x w m n h Γ s t o (WithVariable.at_rest {X = X} v lt d) =
    let P : Environment → Type 0 = λ Ψ. n.does Ψ (under f (with_value s x v)) (renamed_trace f t) (refusing (λ e. X (renamed_event f e))) in
    let Q : Values → Type 0 = λ r. n.does (with_name (under f Γ) (f x) (Var w)) r (renamed_trace f t) (refusing (λ e. X (renamed_event f e))) in
    WithVariable.at_rest v lt (subst Q (value_under f inv s x v) (subst P (name_under f inv Γ x (Var w)) (h.carried (with_name Γ x (Var w)) (with_value s x v) t (refusing X) d)))

silent_under : (f : ℕ → ℕ) → IsExchange f → (c : ℕ) (t : Trace) → is_silent (f c) (renamed_trace f t) ≡ is_silent c t
silent_under f inv c [] = refl
silent_under f inv c (e ∷ t) = ap (λ b. not b && is_silent (f c) (renamed_trace f t)) (one_for_one f inv e.chan.0 c) ∙ ap (λ b. not (e.chan.0 == c) && b) (silent_under f inv c t)

off_under : (f : ℕ → ℕ) → IsExchange f → (c : ℕ) (X : EventSet)
    → (λ e. off_channel c X (renamed_event f e)) ≡ off_channel (f c) (λ e. X (renamed_event f e))
off_under f inv c X = fun_ext (λ e. ap (λ b. not b && X (renamed_event f e)) (sym (flip f inv e.chan.0 c)))

channel_carried : (f : ℕ → ℕ) → IsExchange f → (c : ℕ) (w : Width) (m n : Meaning) → Carries f m n
    → (Γ : Environment) (s : Values) (t : Trace) (o : Outcome) → WithChannel c w m Γ s t o
    → WithChannel (f c) w n (under f Γ) (under f s) (renamed_trace f t) (renamed_outcome f o)
channel_carried f inv c w m n h Γ s t o (WithChannel.at_end {s1 = r} silent d) =
    let P : Environment → Type 0 = λ Ψ. n.does Ψ (under f s) (renamed_trace f t) (ended (under f r)) in
    WithChannel.at_end (silent_under f inv c t ∙ silent) (subst P (name_under f inv Γ c (Chan w None)) (h.carried (with_name Γ c (Chan w None)) s t (ended r) d))
channel_carried f inv c w m n h Γ s t o (WithChannel.at_rest {X = X} silent d) =
    let P : Environment → Type 0 = λ Ψ. n.does Ψ (under f s) (renamed_trace f t) (refusing (λ e. off_channel c X (renamed_event f e))) in
    let Q : EventSet → Type 0 = λ Y. n.does (with_name (under f Γ) (f c) (Chan w None)) (under f s) (renamed_trace f t) (refusing Y) in
    WithChannel.at_rest (silent_under f inv c t ∙ silent)
    (subst Q (off_under f inv c X) (subst P (name_under f inv Γ c (Chan w None)) (h.carried (with_name Γ c (Chan w None)) s t (refusing (off_channel c X)) d)))

alone_carries : (f : ℕ → ℕ) → IsExchange f → (w : Waiting)
    → Carries f (alternatives (and_guard (truth true) w (at_once (λ Γ s. s)) no_guard)) (alternatives (and_guard (truth true) (renamed_waiting f w) (at_once (λ Γ s. s)) no_guard))
alone_carries f inv w =
    alternatives_carry f (and_guard (truth true) w (at_once (λ Γ s. s)) no_guard) (and_guard (truth true) (renamed_waiting f w) (at_once (λ Γ s. s)) no_guard)
    (and_guard_carries f inv (truth true) w (at_once (λ Γ s. s)) (at_once (λ Γ s. s)) no_guard no_guard (skip_carries f) (no_guard_carries f))

-- ---- the whole language

mutual
  pub part_carries : (p : Tree) (f : ℕ → ℕ) → IsExchange f → Carries f (meaning p) (meaning (renamed p f))
  part_carries skip f inv = skip_carries f
  part_carries stop f inv = never_carries f
  part_carries (assign xs es) f inv = assign_carries f inv xs es
  part_carries (receive c x) f inv = alone_carries f inv (input c x)
  part_carries (send c e) f inv = alone_carries f inv (output c e)
  part_carries (seq ps) f inv = turn_carries ps f inv
  part_carries (par ps) f inv = parallel_carries ps f inv
  part_carries (select cs) f inv = cases_carry cs f inv
  part_carries (alt bs) f inv = alternatives_carry f (guards bs) (guards (branches_renamed bs f)) (branches_carry bs f inv)
  part_carries (declare x w p) f inv = record { carried = variable_carried f inv x w (meaning p) (meaning (renamed p f)) (part_carries p f inv) }
  part_carries (connect c w p) f inv = record { carried = channel_carried f inv c w (meaning p) (meaning (renamed p f)) (part_carries p f inv) }

  turn_carries : (ps : Trees) (f : ℕ → ℕ) → IsExchange f → Carries f (in_turn ps) (in_turn (all_renamed ps f))
  turn_carries no_tree f inv = skip_carries f
  turn_carries (and_tree p ps) f inv = followed_carries f (meaning p) (meaning (renamed p f)) (in_turn ps) (in_turn (all_renamed ps f)) (part_carries p f inv) (turn_carries ps f inv)

  parallel_carries : (ps : Trees) (f : ℕ → ℕ) → IsExchange f → Carries f (at_the_same_time ps) (at_the_same_time (all_renamed ps f))
  parallel_carries no_tree f inv = skip_carries f
  parallel_carries (and_tree p ps) f inv =
      beside_all_carries f ps (meaning p) (meaning (renamed p f)) (at_the_same_time ps) (at_the_same_time (all_renamed ps f)) (part_carries p f inv) (parallel_carries ps f inv)

  cases_carry : (cs : Cases) (f : ℕ → ℕ) → IsExchange f → Carries f (first_choice cs) (first_choice (cases_renamed cs f))
  cases_carry no_case f inv = never_carries f
  cases_carry (and_case e p cs) f inv = chosen_carries f inv e (meaning p) (meaning (renamed p f)) (first_choice cs) (first_choice (cases_renamed cs f)) (part_carries p f inv) (cases_carry cs f inv)

  branches_carry : (bs : Branches) (f : ℕ → ℕ) → IsExchange f → CarriesGuards f (guards bs) (guards (branches_renamed bs f))
  branches_carry no_branch f inv = no_guard_carries f
  branches_carry (and_branch e w p bs) f inv = and_guard_carries f inv e w (meaning p) (meaning (renamed p f)) (guards bs) (guards (branches_renamed bs f)) (part_carries p f inv) (branches_carry bs f inv)
