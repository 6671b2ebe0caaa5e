-- A name that isn't free doesn't matter to the environment: whether it is there, and what it stands for.
use Rattle.occ_syntax.specs.occ_base.declared.event.Dir.{Dir}
use Rattle.occ_syntax.specs.occ_base.declared.event.Dir.TheVariants.{Output}
use Rattle.occ_syntax.specs.occ_base.declared.event.Event.{Event}
use Rattle.occ_syntax.specs.occ_base.declared.width.Width.{Width}
use Rattle.occ_meaning.proofs.Facts.{and_four, and_second, and_three, both, if_false, if_true, off_turned, or_four, or_three}
use Rattle.occ_meaning.proofs.Free.{no_end, some_no_end}
use Rattle.occ_meaning.proofs.Refusals.{Extends, RefusesMore, parallel_more, part_more}
use Rattle.occ_meaning.specs.Foundation.{AgreeOff}
use Rattle.occ_syntax.specs.Eval.{applied, bits_in, bits_of_exp, eval, is_true, keeps_width}
use Rattle.occ_syntax.specs.Meaning.{After, Alternates, Combines, Followed, Guards, IsQuiet, Meaning, Outcome, Taken, Together, Weave, WithChannel, WithVariable, alternatives, and_guard, answered, assigned, at_event, at_once, at_ready, at_the_same_time, beside, beside_all, both_ended, chosen, ended, first_choice, first_ended, followed, guards, in_first, in_second, in_turn, meaning, neither_ended, never, no_guard, off_channel, over_channel, over_variable, refused_with, refusing, second_ended, stable, taken, together}
use Rattle.occ_syntax.specs.Names.{end_in_some, free, free_in_branches, free_in_cases, free_in_some, free_in_waiting, is_in, names, some_names, uses_end}
use Rattle.occ_syntax.specs.Scopes.{Environment, EventSet, Trace, Values, channel_kind, has_width, in_scope, variable_kind, with_name, with_value}
use Rattle.occ_syntax.specs.Tree.{Branches, Cases, Exp, Tree, Trees, Waiting, alt, and_branch, and_case, and_tree, assign, complement, connect, declare, input, negation, no_branch, no_case, no_tree, numeral, operation, output, par, ready, receive, select, send, seq, skip, stop, truth, variable}
use Rattle.occ_syntax.specs.Types.{all_types_kept, branches_kept, can_declare, cases_kept, is_condition, types_kept, waiting_kept}
use Rattle.occ_syntax.specs.declared.scope.Kind.{Kind}
use Rattle.occ_syntax.specs.declared.scope.Kind.TheVariants.{Chan, Var}
use Rattle.std.proofs.Common.{Bool, List, MatchBool, None, Option, Some, [], ap, false, if◌then◌else◌, inl, inr, not, refl, subst, sym, true, ℕ, ◌&&◌, ◌-◌, ◌==◌, ◌^◌, ◌∙◌, ◌∷◌, ◌≡◌}
use Rattle.std.proofs.lemmas.Bool.{and_parts, cases_Bool, not_from_false, or_cases, or_left, or_parts, or_right}
use Rattle.std.proofs.lemmas.Bool.Decides.{eqb_tells}
use mathlib.Core.Path.{fun_ext}

pub agree_turned : (x : ℕ) (Γ Δ : Environment) → AgreeOff x Γ Δ → AgreeOff x Δ Γ
agree_turned x Γ Δ h y off = sym (h y off)

pub agree_below : (x y : ℕ) (Γ Δ : Environment) (kind : Kind) → AgreeOff x Γ Δ → AgreeOff x (with_name Γ y kind) (with_name Δ y kind)
agree_below x y Γ Δ kind h z off = let P : Option Kind → Type 0 = λ o. (if z == y then Some kind else Γ z) ≡ (if z == y then Some kind else o) in subst P (h z off) refl

-- under a declaration of that very name the two are one
pub agree_same : (x : ℕ) (Γ Δ : Environment) (kind : Kind) → AgreeOff x Γ Δ → with_name Γ x kind ≡ with_name Δ x kind
agree_same x Γ Δ kind h = fun_ext (λ y. elim (cases_Bool (y == x)) [
  | inl e ↦ if_true (y == x) (Some kind) (Γ y) e ∙ sym (if_true (y == x) (Some kind) (Δ y) e)
  | inr e ↦ if_false (y == x) (Some kind) (Γ y) e ∙ (h y e ∙ sym (if_false (y == x) (Some kind) (Δ y) e))
])

-- ---- expressions

pub same_bits : (x : ℕ) (Γ Δ : Environment) → AgreeOff x Γ Δ → (e : Exp) → names e x ≡ false → bits_of_exp Γ e ≡ bits_of_exp Δ e
same_bits x Γ Δ h (variable y) k = ap (λ o. bits_in (variable_kind o)) (h y (off_turned x y k))
same_bits x Γ Δ h (numeral bits value) k = refl
same_bits x Γ Δ h (truth b) k = refl
same_bits x Γ Δ h (negation e) k = refl
same_bits x Γ Δ h (complement e) k = same_bits x Γ Δ h e k
same_bits x Γ Δ h (operation op left right) k = ap (λ n. if keeps_width op then n else 1) (same_bits x Γ Δ h left (or_parts (names left x) (names right x) k).0)

pub same_value : (x : ℕ) (Γ Δ : Environment) (s : Values) → AgreeOff x Γ Δ → (e : Exp) → names e x ≡ false → eval Γ e s ≡ eval Δ e s
same_value x Γ Δ s h (variable y) k = refl
same_value x Γ Δ s h (numeral bits value) k = refl
same_value x Γ Δ s h (truth b) k = refl
same_value x Γ Δ s h (negation e) k = ap (λ n. 1 - n) (same_value x Γ Δ s h e k)
same_value x Γ Δ s h (complement e) k = ap (λ n. 2 ^ n - 1 - eval Γ e s) (same_bits x Γ Δ h e k) ∙ ap (λ n. 2 ^ bits_of_exp Δ e - 1 - n) (same_value x Γ Δ s h e k)
same_value x Γ Δ s h (operation op left right) k =
    let j = or_parts (names left x) (names right x) k in
    ap (λ n. applied op n (eval Γ left s) (eval Γ right s)) (same_bits x Γ Δ h left j.0)
    ∙ (ap (λ n. applied op (bits_of_exp Δ left) n (eval Γ right s)) (same_value x Γ Δ s h left j.0)
    ∙ ap (λ n. applied op (bits_of_exp Δ left) (eval Δ left s) n) (same_value x Γ Δ s h right j.1))

pub same_truth : (x : ℕ) (Γ Δ : Environment) (s : Values) → AgreeOff x Γ Δ → (e : Exp) → names e x ≡ false → is_true Γ e s ≡ is_true Δ e s
same_truth x Γ Δ s h e k = ap (λ n. n == 1) (same_value x Γ Δ s h e k)

same_assigned : (x : ℕ) (Γ Δ : Environment) (s : Values) → AgreeOff x Γ Δ → (xs : List ℕ) (es : List Exp) → some_names es x ≡ false
    → assigned xs es Γ s ≡ assigned xs es Δ s
same_assigned x Γ Δ s h [] es k = refl
same_assigned x Γ Δ s h (y ∷ xs) [] k = refl
same_assigned x Γ Δ s h (y ∷ xs) (e ∷ es) k =
    let j = or_parts (names e x) (some_names es x) k in
    ap (λ r. with_value r y (eval Γ e s)) (same_assigned x Γ Δ s h xs es j.1) ∙ ap (λ n. with_value (assigned xs es Δ s) y n) (same_value x Γ Δ s h e j.0)

-- ---- one operator at a time

pub record Moves (Γ Δ : Environment) (m : Meaning) : Type 0 where
  pub moved : (s : Values) (t : Trace) (o : Outcome) → m.does Γ s t o → m.does Δ s t o

pub record GuardsMove (Γ Δ : Environment) (g : Guards) : Type 0 where
  pub first : (s : Values) (X : EventSet) → g.refuses Γ s X → g.refuses Δ s X
  pub later : (s : Values) (t : Trace) (o : Outcome) → g.goes Γ s t o → g.goes Δ s t o

pub moves_along : (Γ Δ : Environment) (m : Meaning) → Γ ≡ Δ → Moves Γ Δ m
moves_along Γ Δ m e = record { moved = λ s t o d. let P : Environment → Type 0 = λ Ψ. m.does Ψ s t o in subst P e d }

skip_moves : (Γ Δ : Environment) → Moves Γ Δ (at_once (λ Ψ s. s))
skip_moves Γ Δ = record { moved = λ s t o d. d }

never_moves : (Γ Δ : Environment) → Moves Γ Δ never
never_moves Γ Δ = record { moved = λ s t o d. d }

assign_moves : (x : ℕ) (Γ Δ : Environment) → AgreeOff x Γ Δ → (xs : List ℕ) (es : List Exp) → some_names es x ≡ false
    → Moves Γ Δ (at_once (assigned xs es))
assign_moves x Γ Δ h xs es k = record { moved = λ s t o d. (d.0, d.1 ∙ ap ended (same_assigned x Γ Δ s h xs es k)) }

followed_does : (Γ Δ : Environment) (m n : Meaning) → Moves Γ Δ m → Moves Γ Δ n → (s : Values) (t : Trace) (o : Outcome)
    → Followed m n Γ s t o → Followed m n Δ s t o
followed_does Γ Δ m n hm hn s t o (in_first {X = X} d) = in_first (hm.moved s t (refusing X) d)
followed_does Γ Δ m n hm hn s t o (in_second t1 t2 s1 e d1 d2) = in_second t1 t2 s1 e (hm.moved s t1 (ended s1) d1) (hn.moved s1 t2 o d2)

pub followed_moves : (Γ Δ : Environment) (m n : Meaning) → Moves Γ Δ m → Moves Γ Δ n → Moves Γ Δ (followed m n)
followed_moves Γ Δ m n hm hn = record { moved = followed_does Γ Δ m n hm hn }

pub chosen_moves : (Γ Δ : Environment) (e : Exp) (m n : Meaning) → ((s : Values) → is_true Γ e s ≡ is_true Δ e s) → Moves Γ Δ m
    → Moves Γ Δ n → Moves Γ Δ (chosen e m n)
chosen_moves Γ Δ e m n same hm hn = record {
  moved = λ s t o d.
      let P : Bool → Type 0 = λ b. MatchBool b (m.does Δ s t o) (n.does Δ s t o) in
      subst P (same s) (both (is_true Γ e s) (λ h. hm.moved s t o h) (λ h. hn.moved s t o h) d);
}

pub after_moves : (x : ℕ) (Γ Δ : Environment) (s : Values) → AgreeOff x Γ Δ → (w : Waiting) → free_in_waiting w x ≡ false
    → (e : Event) (u : Values) → After Γ s w e u → After Δ s w e u
after_moves x Γ Δ s h ready k e u a = a
after_moves x Γ Δ s h (input c y) k e u a =
    let P : Option Kind → Type 0 = λ o. has_width (channel_kind o) a.0 ≡ true in
    (a.0, subst P (h c (off_turned x c (or_parts (x == c) (x == y) k).0)) a.1, a.2, a.3)
after_moves x Γ Δ s h (output c z) k e u a =
    (a.0 ∙ ap (λ v. record { chan = record { 0 = c }; dir = Output; value = v }) (same_value x Γ Δ s h z (or_parts (x == c) (names z x) k).1), a.1)

taken_moves : (Γ Δ : Environment) (s : Values) (w : Waiting) → ((e : Event) (u : Values) → After Γ s w e u → After Δ s w e u)
    → (t : Trace) (u : Values) (a : Trace) → Taken Γ s w t u a → Taken Δ s w t u a
taken_moves Γ Δ s w imp t u a at_ready = at_ready
taken_moves Γ Δ s w imp t u a (at_event {e = e} {u = r} k) = at_event (imp e r k)

pub no_guard_moves : (Γ Δ : Environment) → GuardsMove Γ Δ no_guard
no_guard_moves Γ Δ = record { first = λ s X d. d; later = λ s t o d. d }

pub and_guard_moves : (x : ℕ) (Γ Δ : Environment) → AgreeOff x Γ Δ → (b : Exp) (w : Waiting) (m : Meaning) (g : Guards) → names b x ≡ false
    → free_in_waiting w x ≡ false → Moves Γ Δ m → GuardsMove Γ Δ g → GuardsMove Γ Δ (and_guard b w m g)
and_guard_moves x Γ Δ h b w m g kb kw hm hg = record {
  first = λ s X d. (
    let P : Bool → Type 0 = λ c. MatchBool c (IsQuiet Δ s w X) (Unit {0}) in
        subst P (same_truth x Γ Δ s h b kb)
        (both (is_true Γ b s) (λ q. record { not_ready = q.not_ready; refused = λ e u a. q.refused e u (after_moves x Δ Γ s (agree_turned x Γ Δ h) w kw e u a) }) (λ q. q) d.0),
    hg.first s X d.1,
  );
  later = λ s t o d. elim d [
    | inl k ↦ inl (sym (same_truth x Γ Δ s h b kb) ∙ k.0, (k.1.0, k.1.1, taken_moves Γ Δ s w (after_moves x Γ Δ s h w kw) t k.1.0 k.1.1 k.1.2, hm.moved k.1.0 k.1.1 o k.1.3))
    | inr k ↦ inr (hg.later s t o k)
  ];
}

alternates_move : (Γ Δ : Environment) (g : Guards) → GuardsMove Γ Δ g → (s : Values) (t : Trace) (o : Outcome) → Alternates g Γ s t o
    → Alternates g Δ s t o
alternates_move Γ Δ g hg s t o (stable {X = X} d) = stable (hg.first s X d)
alternates_move Γ Δ g hg s t o (taken d) = taken (hg.later s t o d)

pub alternatives_move : (Γ Δ : Environment) (g : Guards) → GuardsMove Γ Δ g → Moves Γ Δ (alternatives g)
alternatives_move Γ Δ g hg = record { moved = alternates_move Γ Δ g hg }

-- the events in scope differ on the channel of that name alone
scope_moves : (x : ℕ) (Γ Δ : Environment) → AgreeOff x Γ Δ → (u : ℕ → Dir → Bool) → ((d : Dir) → u x d ≡ false) → (X Y : EventSet)
    → Extends u (refused_with Γ X Y) (refused_with Δ X Y)
scope_moves x Γ Δ h u unused X Y e k = elim (or_cases (X e) (in_scope Δ e && Y e) k) [
  | inl j ↦ inl (or_left (X e) (in_scope Γ e && Y e) j)
  | inr j ↦ elim (eqb_tells e.chan.0 x) [
    | inl i ↦ inr (let P : ℕ → Type 0 = λ c. u c e.dir ≡ false in subst P (sym i.1) (unused e.dir))
    | inr i ↦ inl (or_right (X e) (in_scope Γ e && Y e) (let P : Option Kind → Type 0 = λ o. (has_width (channel_kind o) e.value && Y e) ≡ true in subst P (sym (h e.chan.0 i.0)) j))
  ]
]

combine_move : (x : ℕ) (Γ Δ : Environment) → AgreeOff x Γ Δ → (u v : ℕ → Dir → Bool) (m n : Meaning) → ((d : Dir) → u x d ≡ false)
    → ((d : Dir) → v x d ≡ false) → RefusesMore u m → RefusesMore v n → Moves Γ Δ m → Moves Γ Δ n
    → (s : Values) (t1 t2 t : Trace) → Weave t1 t2 t → (o1 o2 o : Outcome) → m.does Γ s t1 o1 → n.does Γ s t2 o2 → Combines Γ s o1 o2 o → Together m n Δ s t o
combine_move x Γ Δ h u v m n ku kv rm rn hm hn s t1 t2 t woven o1 o2 o d1 d2 (both_ended {s1 = a} {s2 = b} {s' = r} e) =
    together t1 t2 (ended a) (ended b) woven (both_ended e) (hm.moved s t1 (ended a) d1) (hn.moved s t2 (ended b) d2)
combine_move x Γ Δ h u v m n ku kv rm rn hm hn s t1 t2 t woven o1 o2 o d1 d2 (first_ended {s1 = a} {X = X}) =
    together t1 t2 (ended a) (refusing X) woven first_ended (hm.moved s t1 (ended a) d1) (hn.moved s t2 (refusing X) d2)
combine_move x Γ Δ h u v m n ku kv rm rn hm hn s t1 t2 t woven o1 o2 o d1 d2 (second_ended {s2 = b} {X = X}) =
    together t1 t2 (refusing X) (ended b) woven second_ended (hm.moved s t1 (refusing X) d1) (hn.moved s t2 (ended b) d2)
combine_move x Γ Δ h u v m n ku kv rm rn hm hn s t1 t2 t woven o1 o2 o d1 d2 (neither_ended X Y) =
    together t1 t2 (refusing (refused_with Δ X Y)) (refusing (refused_with Δ X (answered Y))) woven (neither_ended X Y)
    (rm.more Δ s t1 (refused_with Γ X Y) (refused_with Δ X Y) (scope_moves x Γ Δ h u ku X Y) (hm.moved s t1 (refusing (refused_with Γ X Y)) d1))
    (rn.more Δ s t2 (refused_with Γ X (answered Y)) (refused_with Δ X (answered Y)) (scope_moves x Γ Δ h v kv X (answered Y)) (hn.moved s t2 (refusing (refused_with Γ X (answered Y))) d2))

together_moves : (x : ℕ) (Γ Δ : Environment) → AgreeOff x Γ Δ → (u v : ℕ → Dir → Bool) (m n : Meaning) → ((d : Dir) → u x d ≡ false)
    → ((d : Dir) → v x d ≡ false) → RefusesMore u m → RefusesMore v n → Moves Γ Δ m → Moves Γ Δ n
    → (s : Values) (t : Trace) (o : Outcome) → Together m n Γ s t o → Together m n Δ s t o
together_moves x Γ Δ h u v m n ku kv rm rn hm hn s t o (together t1 t2 o1 o2 woven c d1 d2) = combine_move x Γ Δ h u v m n ku kv rm rn hm hn s t1 t2 t woven o1 o2 o d1 d2 c

pub beside_moves : (x : ℕ) (Γ Δ : Environment) → AgreeOff x Γ Δ → (u v : ℕ → Dir → Bool) (m n : Meaning) → ((d : Dir) → u x d ≡ false)
    → ((d : Dir) → v x d ≡ false) → RefusesMore u m → RefusesMore v n → Moves Γ Δ m → Moves Γ Δ n → Moves Γ Δ (beside m n)
beside_moves x Γ Δ h u v m n ku kv rm rn hm hn = record { moved = together_moves x Γ Δ h u v m n ku kv rm rn hm hn }

variable_does : (y : ℕ) (w : Width) (Γ Δ : Environment) (m : Meaning) → Moves (with_name Γ y (Var w)) (with_name Δ y (Var w)) m
    → (s : Values) (t : Trace) (o : Outcome) → WithVariable y w m Γ s t o → WithVariable y w m Δ s t o
variable_does y w Γ Δ m hm s t o (WithVariable.at_end v s1 lt e d) = WithVariable.at_end v s1 lt e (hm.moved (with_value s y v) t (ended s1) d)
variable_does y w Γ Δ m hm s t o (WithVariable.at_rest {X = X} v lt d) = WithVariable.at_rest v lt (hm.moved (with_value s y v) t (refusing X) d)

pub variable_moves : (y : ℕ) (w : Width) (Γ Δ : Environment) (m : Meaning) → Moves (with_name Γ y (Var w)) (with_name Δ y (Var w)) m
    → Moves Γ Δ (over_variable y w m)
variable_moves y w Γ Δ m hm = record { moved = variable_does y w Γ Δ m hm }

channel_does : (c : ℕ) (w : Width) (Γ Δ : Environment) (m : Meaning) → Moves (with_name Γ c (Chan w None)) (with_name Δ c (Chan w None)) m
    → (s : Values) (t : Trace) (o : Outcome) → WithChannel c w m Γ s t o → WithChannel c w m Δ s t o
channel_does c w Γ Δ m hm s t o (WithChannel.at_end {s1 = r} silent d) = WithChannel.at_end silent (hm.moved s t (ended r) d)
channel_does c w Γ Δ m hm s t o (WithChannel.at_rest {X = X} silent d) = WithChannel.at_rest silent (hm.moved s t (refusing (off_channel c X)) d)

pub channel_moves : (c : ℕ) (w : Width) (Γ Δ : Environment) (m : Meaning)
    → Moves (with_name Γ c (Chan w None)) (with_name Δ c (Chan w None)) m → Moves Γ Δ (over_channel c w m)
channel_moves c w Γ Δ m hm = record { moved = channel_does c w Γ Δ m hm }

alone_moves : (x : ℕ) (Γ Δ : Environment) → AgreeOff x Γ Δ → (w : Waiting) → free_in_waiting w x ≡ false
    → Moves Γ Δ (alternatives (and_guard (truth true) w (at_once (λ Ψ s. s)) no_guard))
alone_moves x Γ Δ h w k = alternatives_move Γ Δ (and_guard (truth true) w (at_once (λ Ψ s. s)) no_guard) (and_guard_moves x Γ Δ h (truth true) w (at_once (λ Ψ s. s)) no_guard refl k (skip_moves Γ Δ) (no_guard_moves Γ Δ))

beside_all_moves : (x : ℕ) (Γ Δ : Environment) → AgreeOff x Γ Δ → (p : Tree) (ps : Trees) → ((d : Dir) → uses_end p x d ≡ false)
    → ((d : Dir) → end_in_some ps x d ≡ false) → RefusesMore (uses_end p) (meaning p) → RefusesMore (end_in_some ps) (at_the_same_time ps)
    → Moves Γ Δ (meaning p) → Moves Γ Δ (at_the_same_time ps) → Moves Γ Δ (beside_all ps (meaning p) (at_the_same_time ps))
beside_all_moves x Γ Δ h p no_tree ku kv rm rn hm hn = hm
beside_all_moves x Γ Δ h p (and_tree q qs) ku kv rm rn hm hn = beside_moves x Γ Δ h (uses_end p) (end_in_some (and_tree q qs)) (meaning p) (at_the_same_time (and_tree q qs)) ku kv rm rn hm hn

-- inside a declaration of a name
below_moves : (x y : ℕ) (Γ Δ : Environment) (kind : Kind) (p : Tree) → AgreeOff x Γ Δ → (not (x == y) && free p x) ≡ false
    → (free p x ≡ false → AgreeOff x (with_name Γ y kind) (with_name Δ y kind) → Moves (with_name Γ y kind) (with_name Δ y kind) (meaning p))
    → Moves (with_name Γ y kind) (with_name Δ y kind) (meaning p)
below_moves x y Γ Δ kind p h k ih = elim (eqb_tells x y) [
  | inl e ↦ moves_along (with_name Γ y kind) (with_name Δ y kind) (meaning p) (let P : ℕ → Type 0 = λ z. with_name Γ z kind ≡ with_name Δ z kind in subst P e.1 (agree_same x Γ Δ kind h))
  | inr e ↦ ih (and_second (not (x == y)) (free p x) k (not_from_false (x == y) e.0)) (agree_below x y Γ Δ kind h)
]

-- ---- the whole language

mutual
  pub part_moves : (p : Tree) (Θ : Environment) → types_kept p Θ ≡ true → (x : ℕ) → free p x ≡ false → (Γ Δ : Environment) → AgreeOff x Γ Δ
      → Moves Γ Δ (meaning p)
  part_moves skip Θ t x k Γ Δ h = skip_moves Γ Δ
  part_moves stop Θ t x k Γ Δ h = never_moves Γ Δ
  part_moves (assign xs es) Θ t x k Γ Δ h = assign_moves x Γ Δ h xs es (or_parts (is_in xs x) (some_names es x) k).1
  part_moves (receive c y) Θ t x k Γ Δ h = alone_moves x Γ Δ h (input c y) k
  part_moves (send c e) Θ t x k Γ Δ h = alone_moves x Γ Δ h (output c e) k
  part_moves (seq ps) Θ t x k Γ Δ h = turn_moves ps Θ t x k Γ Δ h
  part_moves (par ps) Θ t x k Γ Δ h = parallel_moves ps Θ t x k Γ Δ h
  part_moves (select cs) Θ t x k Γ Δ h = cases_move cs Θ t x k Γ Δ h
  part_moves (alt bs) Θ t x k Γ Δ h = alternatives_move Γ Δ (guards bs) (branches_move bs Θ t x k Γ Δ h)
  part_moves (declare y w p) Θ t x k Γ Δ h = variable_moves y w Γ Δ (meaning p) (below_moves x y Γ Δ (Var w) p h k
      (λ j i. part_moves p (with_name Θ y (Var w)) (and_parts (can_declare Θ y w) (types_kept p (with_name Θ y (Var w))) t).1 x j (with_name Γ y (Var w)) (with_name Δ y (Var w)) i))
  part_moves (connect y w p) Θ t x k Γ Δ h = channel_moves y w Γ Δ (meaning p) (below_moves x y Γ Δ (Chan w None) p h k
      (λ j i. part_moves p (with_name Θ y (Chan w None)) (and_parts (can_declare Θ y w) (types_kept p (with_name Θ y (Chan w None))) t).1 x j (with_name Γ y (Chan w None)) (with_name Δ y (Chan w None)) i))

  pub turn_moves : (ps : Trees) (Θ : Environment) → all_types_kept ps Θ ≡ true → (x : ℕ) → free_in_some ps x ≡ false → (Γ Δ : Environment)
      → AgreeOff x Γ Δ → Moves Γ Δ (in_turn ps)
  turn_moves no_tree Θ t x k Γ Δ h = skip_moves Γ Δ
  turn_moves (and_tree p ps) Θ t x k Γ Δ h =
      let j = and_parts (types_kept p Θ) (all_types_kept ps Θ) t in let i = or_parts (free p x) (free_in_some ps x) k in
      followed_moves Γ Δ (meaning p) (in_turn ps) (part_moves p Θ j.0 x i.0 Γ Δ h) (turn_moves ps Θ j.1 x i.1 Γ Δ h)

  pub parallel_moves : (ps : Trees) (Θ : Environment) → all_types_kept ps Θ ≡ true → (x : ℕ) → free_in_some ps x ≡ false
      → (Γ Δ : Environment) → AgreeOff x Γ Δ → Moves Γ Δ (at_the_same_time ps)
  parallel_moves no_tree Θ t x k Γ Δ h = skip_moves Γ Δ
  parallel_moves (and_tree p ps) Θ t x k Γ Δ h =
      let j = and_parts (types_kept p Θ) (all_types_kept ps Θ) t in let i = or_parts (free p x) (free_in_some ps x) k in
      beside_all_moves x Γ Δ h p ps (λ d. no_end p x d i.0) (λ d. some_no_end ps x d i.1) (part_more p Θ j.0) (parallel_more ps Θ j.1) (part_moves p Θ j.0 x i.0 Γ Δ h) (parallel_moves ps Θ j.1 x i.1 Γ Δ h)

  pub cases_move : (cs : Cases) (Θ : Environment) → cases_kept cs Θ ≡ true → (x : ℕ) → free_in_cases cs x ≡ false → (Γ Δ : Environment)
      → AgreeOff x Γ Δ → Moves Γ Δ (first_choice cs)
  cases_move no_case Θ t x k Γ Δ h = never_moves Γ Δ
  cases_move (and_case e p cs) Θ t x k Γ Δ h =
      let j = and_three (is_condition Θ e) (types_kept p Θ) (cases_kept cs Θ) t in let i = or_three (names e x) (free p x) (free_in_cases cs x) k in
      chosen_moves Γ Δ e (meaning p) (first_choice cs) (λ s. same_truth x Γ Δ s h e i.0) (part_moves p Θ j.1 x i.1 Γ Δ h) (cases_move cs Θ j.2 x i.2 Γ Δ h)

  pub branches_move : (bs : Branches) (Θ : Environment) → branches_kept bs Θ ≡ true → (x : ℕ) → free_in_branches bs x ≡ false
      → (Γ Δ : Environment) → AgreeOff x Γ Δ → GuardsMove Γ Δ (guards bs)
  branches_move no_branch Θ t x k Γ Δ h = no_guard_moves Γ Δ
  branches_move (and_branch e w p bs) Θ t x k Γ Δ h =
      let j = and_four (is_condition Θ e) (waiting_kept Θ w) (types_kept p Θ) (branches_kept bs Θ) t in
      let i = or_four (names e x) (free_in_waiting w x) (free p x) (free_in_branches bs x) k in
      and_guard_moves x Γ Δ h e w (meaning p) (guards bs) i.0 i.1 (part_moves p Θ j.2 x i.2 Γ Δ h) (branches_move bs Θ j.3 x i.3 Γ Δ h)
