-- The value of a name that isn't a variable of the part doesn't matter.
-- ---- changes of values
use Rattle.occ_syntax.specs.occ_base.declared.event.Dir.TheVariants.{Input, Output}
use Rattle.occ_syntax.specs.occ_base.declared.event.Event.{Event}
use Rattle.occ_syntax.specs.occ_base.declared.width.Width.{Width}
use Rattle.occ_meaning.proofs.Facts.{and_four, and_second, and_three, both, clash, if_false, if_true, off_turned, value_at, value_off}
use Rattle.occ_meaning.proofs.Frame.{no_variable_at, still_no_variable}
use Rattle.occ_meaning.proofs.Typing.{condition_in_scope, names_in_scope, output_types, pairs_in_scope, variable_in_scope}
use Rattle.occ_meaning.specs.Foundation.{with_result}
use Rattle.occ_syntax.specs.Eval.{applied, bits_of_exp, eval, is_true}
use Rattle.occ_syntax.specs.Meaning.{After, Alternates, Combines, Followed, Guards, IsQuiet, Meaning, Outcome, Stopped, Taken, Together, WithChannel, WithVariable, alternatives, and_guard, assigned, at_event, at_once, at_ready, at_the_same_time, beside, beside_all, both_ended, chosen, ended, first_choice, first_ended, followed, guards, in_first, in_second, in_turn, join, meaning, neither_ended, never, no_guard, off_channel, over_channel, over_variable, refusing, second_ended, stable, stopped, taken, together}
use Rattle.occ_syntax.specs.Names.{free, free_in_branches, free_in_cases, free_in_some, free_in_waiting, is_in, names, some_names}
use Rattle.occ_syntax.specs.Scopes.{Environment, EventSet, Trace, Values, allows, channel_width, variable_width, with_name, with_value}
use Rattle.occ_syntax.specs.Tree.{Branches, Cases, Exp, Tree, Trees, Waiting, alt, and_branch, and_case, and_tree, assign, complement, connect, declare, input, negation, no_branch, no_case, no_tree, numeral, operation, output, par, ready, receive, select, send, seq, skip, stop, truth, variable}
use Rattle.occ_syntax.specs.Types.{agree, all_types_kept, branches_kept, can_declare, cases_kept, is_condition, is_pair, pairs_kept, types_kept, waiting_kept}
use Rattle.occ_syntax.specs.declared.scope.Kind.{Kind}
use Rattle.occ_syntax.specs.declared.scope.Kind.TheVariants.{Chan, Var}
use Rattle.std.proofs.Common.{Bool, List, MatchBool, None, [], ap, false, if◌then◌else◌, inl, inr, not, refl, subst, sym, true, ℕ, ◌&&◌, ◌-◌, ◌==◌, ◌^◌, ◌||◌, ◌∙◌, ◌∷◌, ◌≡◌, ◌⊎◌}
use Rattle.std.proofs.lemmas.Bool.{and_parts, cases_Bool, eq-eqb, eqb-true, not_from_false, or_parts}
use Rattle.std.proofs.lemmas.Bool.Decides.{eqb_tells}
use mathlib.Core.Path.{fun_ext}

swap_ifs : (p q : Bool) (a v c : ℕ) → (p ≡ true → q ≡ true → ⊥) → (if p then a else if q then v else c) ≡ (if q then v else if p then a else c)
swap_ifs true true a v c no_both = absurd (no_both refl refl)
swap_ifs true false a v c no_both = refl
swap_ifs false true a v c no_both = refl
swap_ifs false false a v c no_both = refl

pub swap_values : (s : Values) (x v y a : ℕ) → (x == y) ≡ false → with_value (with_value s x v) y a ≡ with_value (with_value s y a) x v
swap_values s x v y a off = fun_ext (λ z. swap_ifs (z == y) (z == x) a v (s z)
    (λ h k. clash (x == y) (eq-eqb x y (sym (eqb-true z x k) ∙ eqb-true z y h)) off))

drop_if : (p : Bool) (a v c : ℕ) → (if p then a else if p then v else c) ≡ (if p then a else c)
drop_if true a v c = refl
drop_if false a v c = refl

pub value_again : (s : Values) (x v a : ℕ) → with_value (with_value s x v) x a ≡ with_value s x a
value_again s x v a = fun_ext (λ z. drop_if (z == x) a v (s z))

pub value_back : (s : Values) (x : ℕ) → with_value s x (s x) ≡ s
value_back s x = fun_ext (λ z. elim (eqb_tells z x) [ inl k ↦ if_true (z == x) (s x) (s z) k.0 ∙ ap s (sym k.1) | inr k ↦ if_false (z == x) (s x) (s z) k.0 ])

-- ---- expressions

pub value_unnamed : (Γ : Environment) (s : Values) (x v : ℕ) (e : Exp) → names e x ≡ false → eval Γ e s ≡ eval Γ e (with_value s x v)
value_unnamed Γ s x v (variable y) k = sym (value_off s x v y (off_turned x y k))
value_unnamed Γ s x v (numeral bits value) k = refl
value_unnamed Γ s x v (truth b) k = refl
value_unnamed Γ s x v (negation e) k = ap (λ n. 1 - n) (value_unnamed Γ s x v e k)
value_unnamed Γ s x v (complement e) k = ap (λ n. 2 ^ bits_of_exp Γ e - 1 - n) (value_unnamed Γ s x v e k)
value_unnamed Γ s x v (operation op left right) k =
    let j = or_parts (names left x) (names right x) k in
    ap (λ n. applied op (bits_of_exp Γ left) n (eval Γ right s)) (value_unnamed Γ s x v left j.0)
    ∙ ap (λ n. applied op (bits_of_exp Γ left) (eval Γ left (with_value s x v)) n) (value_unnamed Γ s x v right j.1)

pub truth_unnamed : (Γ : Environment) (s : Values) (x v : ℕ) (e : Exp) → names e x ≡ false → is_true Γ e s ≡ is_true Γ e (with_value s x v)
truth_unnamed Γ s x v e k = ap (λ n. n == 1) (value_unnamed Γ s x v e k)

pub assigned_unnamed : (Γ : Environment) (s : Values) (x v : ℕ) (xs : List ℕ) (es : List Exp) → is_in xs x ≡ false → some_names es x ≡ false
    → with_value (assigned xs es Γ s) x v ≡ assigned xs es Γ (with_value s x v)
assigned_unnamed Γ s x v [] es h k = refl
assigned_unnamed Γ s x v (y ∷ xs) [] h k = refl
assigned_unnamed Γ s x v (y ∷ xs) (e ∷ es) h k =
    let i = or_parts (x == y) (is_in xs x) h in
    let j = or_parts (names e x) (some_names es x) k in
    sym (swap_values (assigned xs es Γ s) x v y (eval Γ e s) i.0)
    ∙ (ap (λ r. with_value r y (eval Γ e s)) (assigned_unnamed Γ s x v xs es i.1 j.1) ∙ ap (λ n. with_value (assigned xs es Γ (with_value s x v)) y n) (value_unnamed Γ s x v e j.0))

-- ---- one operator at a time

pub record Ignores (x : ℕ) (m : Meaning) : Type 0 where
  pub ignored : (Γ : Environment) (s : Values) (v : ℕ) (t : Trace) (o : Outcome) → m.does Γ s t o → m.does Γ (with_value s x v) t (with_result x v o)

pub record Ignore (x : ℕ) (g : Guards) : Type 0 where
  pub first : (Γ : Environment) (s : Values) (v : ℕ) (X : EventSet) → g.refuses Γ s X → g.refuses Γ (with_value s x v) X
  pub later : (Γ : Environment) (s : Values) (v : ℕ) (t : Trace) (o : Outcome) → g.goes Γ s t o → g.goes Γ (with_value s x v) t (with_result x v o)

skip_ignores : (x : ℕ) → Ignores x (at_once (λ Γ s. s))
skip_ignores x = record { ignored = λ Γ s v t o d. (d.0, ap (with_result x v) d.1) }

stopped_ignores : (x v : ℕ) (t : Trace) (o : Outcome) → Stopped t o → Stopped t (with_result x v o)
stopped_ignores x v t o stopped = stopped

never_ignores : (x : ℕ) → Ignores x never
never_ignores x = record { ignored = λ Γ s v t o d. stopped_ignores x v t o d }

assign_ignores : (x : ℕ) (xs : List ℕ) (es : List Exp) → is_in xs x ≡ false → some_names es x ≡ false → Ignores x (at_once (assigned xs es))
assign_ignores x xs es h k = record { ignored = λ Γ s v t o d. (d.0, ap (with_result x v) d.1 ∙ ap ended (assigned_unnamed Γ s x v xs es h k)) }

followed_does : (x : ℕ) (m n : Meaning) → Ignores x m → Ignores x n → (Γ : Environment) (s : Values) (v : ℕ) (t : Trace) (o : Outcome)
    → Followed m n Γ s t o → Followed m n Γ (with_value s x v) t (with_result x v o)
followed_does x m n hm hn Γ s v t o (in_first {X = X} d) = in_first (hm.ignored Γ s v t (refusing X) d)
followed_does x m n hm hn Γ s v t o (in_second t1 t2 s1 e d1 d2) = in_second t1 t2 (with_value s1 x v) e (hm.ignored Γ s v t1 (ended s1) d1) (hn.ignored Γ s1 v t2 o d2)

pub followed_ignores : (x : ℕ) (m n : Meaning) → Ignores x m → Ignores x n → Ignores x (followed m n)
followed_ignores x m n hm hn = record { ignored = followed_does x m n hm hn }

pub chosen_ignores : (x : ℕ) (e : Exp) (m n : Meaning) → names e x ≡ false → Ignores x m → Ignores x n → Ignores x (chosen e m n)
chosen_ignores x e m n k hm hn = record {
  ignored = λ Γ s v t o d.
      let P : Bool → Type 0 = λ b. MatchBool b (m.does Γ (with_value s x v) t (with_result x v o)) (n.does Γ (with_value s x v) t (with_result x v o)) in
      subst P (truth_unnamed Γ s x v e k) (both (is_true Γ e s) (λ h. hm.ignored Γ s v t o h) (λ h. hn.ignored Γ s v t o h) d);
}

-- the expression and the variable of a guard aren't that name
abbrev pub Aloof : Waiting → ℕ → Type 0
Aloof ready x = Unit {0}
Aloof (input c y) x = (x == y) ≡ false
Aloof (output c z) x = names z x ≡ false

pub after_ignores : (Γ : Environment) (s : Values) (x v : ℕ) (w : Waiting) → Aloof w x → (e : Event) (u : Values) → After Γ s w e u
    → After Γ (with_value s x v) w e (with_value u x v)
after_ignores Γ s x v ready k e u a = a
after_ignores Γ s x v (input c y) k e u a = (a.0, a.1, a.2, ap (λ r. with_value r x v) a.3 ∙ sym (swap_values s x v y a.0 k))
after_ignores Γ s x v (output c z) k e u a = (a.0 ∙ ap (λ n. record { chan = record { 0 = c }; dir = Output; value = n }) (value_unnamed Γ s x v z k), ap (λ r. with_value r x v) a.1)

-- the events of a guard are the same from both
pub after_from : (Γ : Environment) (s : Values) (x v : ℕ) (w : Waiting) → Aloof w x → (e : Event) (u : Values)
    → After Γ (with_value s x v) w e u → (r : Values) × After Γ s w e r
after_from Γ s x v ready k e u a = absurd a
after_from Γ s x v (input c y) k e u a = (with_value s y a.0, (a.0, a.1, a.2, refl))
after_from Γ s x v (output c z) k e u a = (s, (a.0 ∙ ap (λ n. record { chan = record { 0 = c }; dir = Output; value = n }) (sym (value_unnamed Γ s x v z k)), refl))

taken_ignores : (Γ : Environment) (s : Values) (x v : ℕ) (w : Waiting) → Aloof w x → (t : Trace) (u : Values) (a : Trace)
    → Taken Γ s w t u a → Taken Γ (with_value s x v) w t (with_value u x v) a
taken_ignores Γ s x v w k t u a at_ready = at_ready
taken_ignores Γ s x v w k t u a (at_event {w = b} {e = e} {u = r} j) = at_event (after_ignores Γ s x v b k e r j)

pub no_guard_ignores : (x : ℕ) → Ignore x no_guard
no_guard_ignores x = record { first = λ Γ s v X d. d; later = λ Γ s v t o d. d }

pub and_guard_ignores : (x : ℕ) (b : Exp) (w : Waiting) (m : Meaning) (g : Guards) → names b x ≡ false → Aloof w x → Ignores x m
    → Ignore x g → Ignore x (and_guard b w m g)
and_guard_ignores x b w m g kb kw hm hg = record {
  first = λ Γ s v X d. (
    let P : Bool → Type 0 = λ c. MatchBool c (IsQuiet Γ (with_value s x v) w X) (Unit {0}) in
        subst P (truth_unnamed Γ s x v b kb)
        (both (is_true Γ b s) (λ q. record { not_ready = q.not_ready; refused = λ e u a. let r = after_from Γ s x v w kw e u a in q.refused e r.0 r.1 }) (λ q. q) d.0),
    hg.first Γ s v X d.1,
  );
  later = λ Γ s v t o d. elim d [
    | inl k ↦ inl (sym (truth_unnamed Γ s x v b kb) ∙ k.0, (with_value k.1.0 x v, k.1.1, taken_ignores Γ s x v w kw t k.1.0 k.1.1 k.1.2, hm.ignored Γ k.1.0 v k.1.1 o k.1.3))
    | inr k ↦ inr (hg.later Γ s v t o k)
  ];
}

alternates_ignore : (x : ℕ) (g : Guards) → Ignore x g → (Γ : Environment) (s : Values) (v : ℕ) (t : Trace) (o : Outcome)
    → Alternates g Γ s t o → Alternates g Γ (with_value s x v) t (with_result x v o)
alternates_ignore x g hg Γ s v t o (stable {X = X} d) = stable (hg.first Γ s v X d)
alternates_ignore x g hg Γ s v t o (taken d) = taken (hg.later Γ s v t o d)

pub alternatives_ignore : (x : ℕ) (g : Guards) → Ignore x g → Ignores x (alternatives g)
alternatives_ignore x g hg = record { ignored = alternates_ignore x g hg }

same_if : (p : Bool) (v a b c : ℕ)
    → (if p then v else if a == c then b else a) ≡ (if (if p then v else a) == (if p then v else c) then (if p then v else b) else (if p then v else a))
same_if true v a b c = either_way (v == v) v
  where
    either_way : (q : Bool) (n : ℕ) → n ≡ (if q then n else n)
    either_way true n = refl
    either_way false n = refl
same_if false v a b c = refl

pub join_ignores : (s a b : Values) (x v : ℕ) → with_value (join s a b) x v ≡ join (with_value s x v) (with_value a x v) (with_value b x v)
join_ignores s a b x v = fun_ext (λ z. same_if (z == x) v (a z) (b z) (s z))

pub combines_ignore : (Γ : Environment) (s : Values) (x v : ℕ) (o1 o2 o : Outcome) → Combines Γ s o1 o2 o
    → Combines Γ (with_value s x v) (with_result x v o1) (with_result x v o2) (with_result x v o)
combines_ignore Γ s x v o1 o2 o (both_ended {s1 = a} {s2 = b} {s' = r} e) = both_ended (ap (λ q. with_value q x v) e ∙ join_ignores s a b x v)
combines_ignore Γ s x v o1 o2 o first_ended = first_ended
combines_ignore Γ s x v o1 o2 o second_ended = second_ended
combines_ignore Γ s x v o1 o2 o (neither_ended X Y) = neither_ended X Y

together_ignores : (x : ℕ) (m n : Meaning) → Ignores x m → Ignores x n → (Γ : Environment) (s : Values) (v : ℕ) (t : Trace) (o : Outcome)
    → Together m n Γ s t o → Together m n Γ (with_value s x v) t (with_result x v o)
together_ignores x m n hm hn Γ s v t o (together t1 t2 o1 o2 woven c d1 d2) =
    together t1 t2 (with_result x v o1) (with_result x v o2) woven (combines_ignore Γ s x v o1 o2 o c) (hm.ignored Γ s v t1 o1 d1) (hn.ignored Γ s v t2 o2 d2)

pub beside_ignores : (x : ℕ) (m n : Meaning) → Ignores x m → Ignores x n → Ignores x (beside m n)
beside_ignores x m n hm hn = record { ignored = together_ignores x m n hm hn }

-- a declaration of that very name: its own beginning value counts, and the outer one is put back
declared_does : (x : ℕ) (w : Width) (m : Meaning) (Γ : Environment) (s : Values) (v : ℕ) (t : Trace) (o : Outcome)
    → WithVariable x w m Γ s t o → WithVariable x w m Γ (with_value s x v) t (with_result x v o)
declared_does x w m Γ s v t o (WithVariable.at_end {s' = r} u s1 lt e d) =
    let P : Values → Type 0 = λ q. m.does (with_name Γ x (Var w)) q t (ended s1) in
    WithVariable.at_end u s1 lt (ap (λ q. with_value q x v) e ∙ (value_again s1 x (s x) v ∙ ap (λ n. with_value s1 x n) (sym (value_at s x v)))) (subst P (sym (value_again s x v u)) d)
declared_does x w m Γ s v t o (WithVariable.at_rest {X = X} u lt d) =
    let P : Values → Type 0 = λ q. m.does (with_name Γ x (Var w)) q t (refusing X) in
    WithVariable.at_rest u lt (subst P (sym (value_again s x v u)) d)

variable_does : (x y : ℕ) (w : Width) (m : Meaning) → (x == y) ≡ false → Ignores x m
    → (Γ : Environment) (s : Values) (v : ℕ) (t : Trace) (o : Outcome) → WithVariable y w m Γ s t o
    → WithVariable y w m Γ (with_value s x v) t (with_result x v o)
variable_does x y w m off hm Γ s v t o (WithVariable.at_end {s' = r} u s1 lt e d) =
    let P : Values → Type 0 = λ q. m.does (with_name Γ y (Var w)) q t (ended (with_value s1 x v)) in
    WithVariable.at_end u (with_value s1 x v) lt
    (ap (λ q. with_value q x v) e ∙ (sym (swap_values s1 x v y (s y) off) ∙ ap (λ n. with_value (with_value s1 x v) y n) (sym (value_off s x v y (off_turned x y off)))))
    (subst P (sym (swap_values s x v y u off)) (hm.ignored (with_name Γ y (Var w)) (with_value s y u) v t (ended s1) d))
variable_does x y w m off hm Γ s v t o (WithVariable.at_rest {X = X} u lt d) =
    let P : Values → Type 0 = λ q. m.does (with_name Γ y (Var w)) q t (refusing X) in
    WithVariable.at_rest u lt (subst P (sym (swap_values s x v y u off)) (hm.ignored (with_name Γ y (Var w)) (with_value s y u) v t (refusing X) d))

pub variable_ignores : (x y : ℕ) (w : Width) (m : Meaning) → ((x == y) ≡ false → Ignores x m) → Ignores x (over_variable y w m)
variable_ignores x y w m hm = elim (eqb_tells x y) [
  | inl e ↦ (let P : ℕ → Type 0 = λ z. Ignores x (over_variable z w m) in subst P e.1 (record { ignored = declared_does x w m }))
  | inr e ↦ record { ignored = variable_does x y w m e.0 (hm e.0) }
]

channel_does : (x c : ℕ) (w : Width) (m : Meaning) → Ignores x m → (Γ : Environment) (s : Values) (v : ℕ) (t : Trace) (o : Outcome)
    → WithChannel c w m Γ s t o → WithChannel c w m Γ (with_value s x v) t (with_result x v o)
channel_does x c w m hm Γ s v t o (WithChannel.at_end {s1 = r} silent d) = WithChannel.at_end silent (hm.ignored (with_name Γ c (Chan w None)) s v t (ended r) d)
channel_does x c w m hm Γ s v t o (WithChannel.at_rest {X = X} silent d) = WithChannel.at_rest silent (hm.ignored (with_name Γ c (Chan w None)) s v t (refusing (off_channel c X)) d)

pub channel_ignores : (x c : ℕ) (w : Width) (m : Meaning) → Ignores x m → Ignores x (over_channel c w m)
channel_ignores x c w m hm = record { ignored = channel_does x c w m hm }

alone_ignores : (x : ℕ) (w : Waiting) → Aloof w x → Ignores x (alternatives (and_guard (truth true) w (at_once (λ Γ s. s)) no_guard))
alone_ignores x w k = alternatives_ignore x (and_guard (truth true) w (at_once (λ Γ s. s)) no_guard) (and_guard_ignores x (truth true) w (at_once (λ Γ s. s)) no_guard refl k (skip_ignores x) (no_guard_ignores x))

beside_all_ignores : (x : ℕ) (ps : Trees) (m n : Meaning) → Ignores x m → Ignores x n → Ignores x (beside_all ps m n)
beside_all_ignores x no_tree m n hm hn = hm
beside_all_ignores x (and_tree p ps) m n hm hn = beside_ignores x m n hm hn

-- ---- where the name is no variable of the part

abbrev pub Unless : Environment → ℕ → Bool → Type 0
Unless Γ x b = (b ≡ false) ⊎ (variable_width Γ x ≡ None)

unless_parts : (Γ : Environment) (x : ℕ) (a b : Bool) → Unless Γ x (a || b) → Unless Γ x a × Unless Γ x b
unless_parts Γ x a b h = elim h [ inl k ↦ (inl (or_parts a b k).0, inl (or_parts a b k).1) | inr k ↦ (inr k, inr k) ]

unless_condition : (Γ : Environment) (x : ℕ) (e : Exp) → is_condition Γ e ≡ true → Unless Γ x (names e x) → names e x ≡ false
unless_condition Γ x e t h = elim h [ inl k ↦ k | inr k ↦ condition_in_scope Γ x k e t ]

unless_waiting : (Γ : Environment) (x : ℕ) (w : Waiting) → waiting_kept Γ w ≡ true → Unless Γ x (free_in_waiting w x) → Aloof w x
unless_waiting Γ x ready t h = tt
unless_waiting Γ x (input c y) t h = elim h [ inl k ↦ (or_parts (x == c) (x == y) k).1 | inr k ↦ variable_in_scope Γ x y (channel_width Γ c) (and_parts (allows (Γ c) Input) (agree (channel_width Γ c) (variable_width Γ y)) t).1 k ]
unless_waiting Γ x (output c e) t h = elim h [ inl k ↦ (or_parts (x == c) (names e x) k).1 | inr k ↦ (let j = output_types Γ c e t in names_in_scope Γ x k e j.1.0 j.1.2) ]

unless_assign : (Γ : Environment) (x : ℕ) (xs : List ℕ) (es : List Exp) → pairs_kept Γ xs es ≡ true
    → Unless Γ x (is_in xs x || some_names es x) → (is_in xs x ≡ false) × (some_names es x ≡ false)
unless_assign Γ x xs es t h = elim h [ inl k ↦ or_parts (is_in xs x) (some_names es x) k | inr k ↦ pairs_in_scope Γ x k xs es t ]

unless_below : (Γ : Environment) (x y : ℕ) (kind : Kind) (b : Bool) → (x == y) ≡ false → Unless Γ x (not (x == y) && b)
    → Unless (with_name Γ y kind) x b
unless_below Γ x y kind b off h = elim h [ inl k ↦ inl (and_second (not (x == y)) b k (not_from_false (x == y) off)) | inr k ↦ inr (still_no_variable Γ x y kind k off) ]

unless_channel : (Γ : Environment) (x c : ℕ) (w : Width) (b : Bool) → Unless Γ x (not (x == c) && b) → Unless (with_name Γ c (Chan w None)) x b
unless_channel Γ x c w b h = elim (cases_Bool (x == c)) [ inl e ↦ inr (no_variable_at Γ x c w e) | inr e ↦ unless_below Γ x c (Chan w None) b e h ]

-- ---- the whole language

mutual
  pub part_ignores : (p : Tree) (Θ : Environment) → types_kept p Θ ≡ true → (x : ℕ) → (free p x ≡ false) ⊎ (variable_width Θ x ≡ None)
      → Ignores x (meaning p)
  part_ignores skip Θ t x k = skip_ignores x
  part_ignores stop Θ t x k = never_ignores x
  part_ignores (assign xs es) Θ t x k = let j = unless_assign Θ x xs es (and_parts (is_pair xs) (pairs_kept Θ xs es) t).1 k in assign_ignores x xs es j.0 j.1
  part_ignores (receive c y) Θ t x k = alone_ignores x (input c y) (unless_waiting Θ x (input c y) t k)
  part_ignores (send c e) Θ t x k = alone_ignores x (output c e) (unless_waiting Θ x (output c e) t k)
  part_ignores (seq ps) Θ t x k = turn_ignores ps Θ t x k
  part_ignores (par ps) Θ t x k = parallel_ignores ps Θ t x k
  part_ignores (select cs) Θ t x k = cases_ignore cs Θ t x k
  part_ignores (alt bs) Θ t x k = alternatives_ignore x (guards bs) (branches_ignore bs Θ t x k)
  part_ignores (declare y w p) Θ t x k = variable_ignores x y w (meaning p)
      (λ off. part_ignores p (with_name Θ y (Var w)) (and_parts (can_declare Θ y w) (types_kept p (with_name Θ y (Var w))) t).1 x (unless_below Θ x y (Var w) (free p x) off k))
  part_ignores (connect y w p) Θ t x k = channel_ignores x y w (meaning p)
      (part_ignores p (with_name Θ y (Chan w None)) (and_parts (can_declare Θ y w) (types_kept p (with_name Θ y (Chan w None))) t).1 x (unless_channel Θ x y w (free p x) k))

  pub turn_ignores : (ps : Trees) (Θ : Environment) → all_types_kept ps Θ ≡ true → (x : ℕ)
      → (free_in_some ps x ≡ false) ⊎ (variable_width Θ x ≡ None) → Ignores x (in_turn ps)
  turn_ignores no_tree Θ t x k = skip_ignores x
  turn_ignores (and_tree p ps) Θ t x k =
      let j = and_parts (types_kept p Θ) (all_types_kept ps Θ) t in let i = unless_parts Θ x (free p x) (free_in_some ps x) k in
      followed_ignores x (meaning p) (in_turn ps) (part_ignores p Θ j.0 x i.0) (turn_ignores ps Θ j.1 x i.1)

  pub parallel_ignores : (ps : Trees) (Θ : Environment) → all_types_kept ps Θ ≡ true → (x : ℕ)
      → (free_in_some ps x ≡ false) ⊎ (variable_width Θ x ≡ None) → Ignores x (at_the_same_time ps)
  parallel_ignores no_tree Θ t x k = skip_ignores x
  parallel_ignores (and_tree p ps) Θ t x k =
      let j = and_parts (types_kept p Θ) (all_types_kept ps Θ) t in let i = unless_parts Θ x (free p x) (free_in_some ps x) k in
      beside_all_ignores x ps (meaning p) (at_the_same_time ps) (part_ignores p Θ j.0 x i.0) (parallel_ignores ps Θ j.1 x i.1)

  pub cases_ignore : (cs : Cases) (Θ : Environment) → cases_kept cs Θ ≡ true → (x : ℕ)
      → (free_in_cases cs x ≡ false) ⊎ (variable_width Θ x ≡ None) → Ignores x (first_choice cs)
  cases_ignore no_case Θ t x k = never_ignores x
  cases_ignore (and_case e p cs) Θ t x k =
      let j = and_three (is_condition Θ e) (types_kept p Θ) (cases_kept cs Θ) t in
      let i = unless_parts Θ x (names e x || free p x) (free_in_cases cs x) k in
      let l = unless_parts Θ x (names e x) (free p x) i.0 in
      chosen_ignores x e (meaning p) (first_choice cs) (unless_condition Θ x e j.0 l.0) (part_ignores p Θ j.1 x l.1) (cases_ignore cs Θ j.2 x i.1)

  pub branches_ignore : (bs : Branches) (Θ : Environment) → branches_kept bs Θ ≡ true → (x : ℕ)
      → (free_in_branches bs x ≡ false) ⊎ (variable_width Θ x ≡ None) → Ignore x (guards bs)
  branches_ignore no_branch Θ t x k = no_guard_ignores x
  branches_ignore (and_branch e w p bs) Θ t x k =
      let j = and_four (is_condition Θ e) (waiting_kept Θ w) (types_kept p Θ) (branches_kept bs Θ) t in
      let i = unless_parts Θ x ((names e x || free_in_waiting w x) || free p x) (free_in_branches bs x) k in
      let l = unless_parts Θ x (names e x || free_in_waiting w x) (free p x) i.0 in
      let r = unless_parts Θ x (names e x) (free_in_waiting w x) l.0 in
      and_guard_ignores x e w (meaning p) (guards bs) (unless_condition Θ x e j.0 r.0) (unless_waiting Θ x w j.1 r.1) (part_ignores p Θ j.2 x l.1) (branches_ignore bs Θ j.3 x i.1)
