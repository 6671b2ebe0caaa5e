-- What isn't a variable in scope doesn't matter: a part over values that are taken from u for the variables, and from s elsewhere.
use Rattle.std.proofs.Common.{◌≡◌, ◌==◌, ◌-◌, ◌^◌, inl, inr, MatchBool, ℕ, Bool, true, false, cond, List, [], ◌∷◌, Option, Some, None, is_some, is_none, refl, sym, ap, ◌∙◌, subst, ⊎_elim}
use Rattle.std.proofs.lemmas.Bool.{and_parts, cases_Bool, eqb-true}
use mathlib.Core.Path.{fun_ext}
use Rattle.occ_syntax.specs.occ_base.declared.event.Dir.TheVariants.{Output}
use Rattle.occ_syntax.specs.occ_base.declared.event.Event.{Event}
use Rattle.occ_syntax.specs.occ_base.declared.width.Width.{Width}
use Rattle.occ_syntax.specs.declared.scope.Kind.TheVariants.{Var, Chan}
use Rattle.occ_syntax.specs.Eval.{eval, bits_of_exp, applied, is_true}
use Rattle.occ_syntax.specs.Meaning.{After, Alternates, Combines, Followed, Guards, IsQuiet, Meaning, Outcome, Stopped, Taken, Together, WithChannel, WithVariable, alternatives, and_guard, assigned, at_event, at_once, at_ready, at_the_same_time, beside, beside_all, both_ended, chosen, ended, first_choice, first_ended, followed, guards, in_first, in_second, in_turn, join, meaning, neither_ended, never, no_guard, off_channel, over_channel, over_variable, refusing, second_ended, stable, stopped, taken, together}
use Rattle.occ_syntax.specs.Scopes.{Environment, EventSet, Trace, Values, channel_width, variable_kind, variable_width, with_name, with_value}
use Rattle.occ_syntax.specs.Tree.{Branches, Cases, Exp, Tree, Trees, Waiting, alt, and_branch, and_case, and_tree, assign, complement, connect, declare, input, negation, no_branch, no_case, no_tree, numeral, operation, output, par, ready, receive, select, send, seq, skip, stop, truth, variable}
use Rattle.occ_syntax.specs.Types.{agree, all_types_kept, branches_kept, can_declare, cases_kept, is_condition, is_pair, is_width, pairs_kept, type_of, types_kept, waiting_kept}
use Rattle.occ_meaning.proofs.Facts.{agreed, and_four, and_three, both}
use Rattle.occ_meaning.proofs.Typing.{two_types, truth_type, word_type}

-- ---- values

abbrev pub over : Environment → Values → Values → Values
over Γ s u = λ x. cond (is_some (variable_width Γ x)) (u x) (s x)

abbrev pub over_result : Environment → Values → Outcome → Outcome
over_result Γ s (ended u) = ended (over Γ s u)
over_result Γ s (refusing X) = refusing X

in_scope : (Γ : Environment) (s u : Values) (x : ℕ) (w : Width) → variable_width Γ x ≡ Some w → over Γ s u x ≡ u x
in_scope Γ s u x w e = ap (λ o. cond (is_some o) (u x) (s x)) e

eval_over : (Γ : Environment) (s u : Values) (e : Exp) (w : Width) → type_of Γ e ≡ Some w → eval Γ e (over Γ s u) ≡ eval Γ e u
eval_over Γ s u (variable x) w h = in_scope Γ s u x w h
eval_over Γ s u (numeral bits value) w h = refl
eval_over Γ s u (truth b) w h = refl
eval_over Γ s u (negation e) w h = ap (λ n. 1 - n) (eval_over Γ s u e _ (truth_type _ _ h).0)
eval_over Γ s u (complement e) w h = ap (λ n. 2 ^ bits_of_exp Γ e - 1 - n) (eval_over Γ s u e _ (word_type _ _ h))
eval_over Γ s u (operation op left right) w h =
    let two = two_types op _ _ _ h in
    ap (λ n. applied op (bits_of_exp Γ left) n (eval Γ right (over Γ s u))) (eval_over Γ s u left _ two.1)
    ∙ ap (λ n. applied op (bits_of_exp Γ left) (eval Γ left u) n) (eval_over Γ s u right _ two.2)

truth_over : (Γ : Environment) (s u : Values) (e : Exp) → is_condition Γ e ≡ true → is_true Γ e u ≡ is_true Γ e (over Γ s u)
truth_over Γ s u e h = ap (λ n. n == 1) (sym (eval_over Γ s u e _ (agreed _ _ h).1))

put_over : (Γ : Environment) (s u : Values) (x v : ℕ) (w : Width) → variable_width Γ x ≡ Some w → with_value (over Γ s u) x v ≡ over Γ s (with_value u x v)
put_over Γ s u x v w e = fun_ext (λ y. ⊎_elim
    (λ (t : (y == x) ≡ true).
    let some : is_some (variable_width Γ y) ≡ true = ap (λ n. is_some (variable_width Γ n)) (eqb-true y x t) ∙ ap is_some e in
    ap (λ b. cond b v (over Γ s u y)) t ∙ sym (ap (λ b. cond b (with_value u x v y) (s y)) some ∙ ap (λ b. cond b v (u y)) t))
    (λ (t : (y == x) ≡ false).
    ap (λ b. cond b v (over Γ s u y)) t ∙ sym (ap (λ n. cond (is_some (variable_width Γ y)) n (s y)) (ap (λ b. cond b v (u y)) t)))
    (cases_Bool (y == x)))

assigned_over : (Γ : Environment) (s u : Values) (xs : List ℕ) (es : List Exp) → pairs_kept Γ xs es ≡ true → assigned xs es Γ (over Γ s u) ≡ over Γ s (assigned xs es Γ u)
assigned_over Γ s u [] [] h = refl
assigned_over Γ s u [] (e ∷ es) h = absurd (cc)
assigned_over Γ s u (x ∷ xs) [] h = absurd (cc)
assigned_over Γ s u (x ∷ xs) (e ∷ es) h =
    let outer = and_parts _ _ h in
    let inner = and_parts _ _ outer.0 in
    let typed = agreed _ _ inner.0 in
    ap (λ f. with_value f x (eval Γ e (over Γ s u))) (assigned_over Γ s u xs es outer.1)
    ∙ ap (λ n. with_value (over Γ s (assigned xs es Γ u)) x n) (eval_over Γ s u e typed.0 typed.2)
    ∙ put_over Γ s (assigned xs es Γ u) x (eval Γ e u) typed.0 typed.1

-- ---- one operator at a time

record Lies (Γ : Environment) (m : Meaning) : Type 0 where
  lies : (s u : Values) (t : Trace) (o : Outcome) → m.does Γ u t o → m.does Γ (over Γ s u) t (over_result Γ s o)

record LieGuards (Γ : Environment) (g : Guards) : Type 0 where
  first : (s u : Values) (X : EventSet) → g.refuses Γ u X → g.refuses Γ (over Γ s u) X
  later : (s u : Values) (t : Trace) (o : Outcome) → g.goes Γ u t o → g.goes Γ (over Γ s u) t (over_result Γ s o)

skip_lies : (Γ : Environment) → Lies Γ (at_once (λ Γ s. s))
skip_lies Γ = record { lies = λ s u t o d. (d.0, ap (over_result Γ s) d.1) }

stopped_lies : (Γ : Environment) (s : Values) (t : Trace) (o : Outcome) → Stopped t o → Stopped t (over_result Γ s o)
stopped_lies Γ s t o stopped = stopped

never_lies : (Γ : Environment) → Lies Γ never
never_lies Γ = record { lies = λ s u t o d. stopped_lies Γ s t o d }

assign_lies : (Γ : Environment) (xs : List ℕ) (es : List Exp) → pairs_kept Γ xs es ≡ true → Lies Γ (at_once (assigned xs es))
assign_lies Γ xs es h = record { lies = λ s u t o d. (d.0, ap (over_result Γ s) d.1 ∙ ap ended (sym (assigned_over Γ s u xs es h))) }

followed_does : (Γ : Environment) (m n : Meaning) → Lies Γ m → Lies Γ n → (s u : Values) (t : Trace) (o : Outcome) → Followed m n Γ u t o → Followed m n Γ (over Γ s u) t (over_result Γ s o)
followed_does Γ m n hm hn s u t o (in_first {X = X} d) = in_first (hm.lies s u t (refusing X) d)
followed_does Γ m n hm hn s u t o (in_second t1 t2 s1 e d1 d2) = in_second t1 t2 (over Γ s s1) e (hm.lies s u t1 (ended s1) d1) (hn.lies s s1 t2 o d2)

followed_lies : (Γ : Environment) (m n : Meaning) → Lies Γ m → Lies Γ n → Lies Γ (followed m n)
followed_lies Γ m n hm hn = record { lies = followed_does Γ m n hm hn }

chosen_lies : (Γ : Environment) (e : Exp) (m n : Meaning) → is_condition Γ e ≡ true → Lies Γ m → Lies Γ n → Lies Γ (chosen e m n)
chosen_lies Γ e m n k hm hn = record {
  lies = λ s u t o d.
      let P : Bool → Type 0 = λ b. MatchBool b (m.does Γ (over Γ s u) t (over_result Γ s o)) (n.does Γ (over Γ s u) t (over_result Γ s o)) in
      subst P (truth_over Γ s u e k) (both (is_true Γ e u) (λ h. hm.lies s u t o h) (λ h. hn.lies s u t o h) d);
}

after_lies : (Γ : Environment) (s u : Values) (w : Waiting) → waiting_kept Γ w ≡ true → (e : Event) (r : Values) → After Γ u w e r → After Γ (over Γ s u) w e (over Γ s r)
after_lies Γ s u ready k e r a = a
after_lies Γ s u (input c y) k e r a =
    let typed = right_there (channel_width Γ c) (variable_width Γ y) (and_parts _ _ k).1 in
    (a.0, a.1, a.2, ap (over Γ s) a.3 ∙ sym (put_over Γ s u y a.0 typed.0 typed.1))
  where
    right_there : (a b : Option Width) → agree a b ≡ true → (w : Width) × (b ≡ Some w)
    right_there a (Some w) h = (w, refl)
    right_there (Some v) None h = absurd (let e : false ≡ true = h in cc)
    right_there None None h = absurd (let e : false ≡ true = h in cc)
after_lies Γ s u (output c z) k e r a =
    let typed = right_there (channel_width Γ c) (type_of Γ z) (and_parts _ _ k).1 in
    (a.0 ∙ ap (λ n. record { chan = record { 0 = c }; dir = Output; value = n }) (sym (eval_over Γ s u z typed.0 typed.1)), ap (over Γ s) a.1)
  where
    right_there : (a b : Option Width) → agree a b ≡ true → (w : Width) × (b ≡ Some w)
    right_there a (Some w) h = (w, refl)
    right_there (Some v) None h = absurd (let e : false ≡ true = h in cc)
    right_there None None h = absurd (let e : false ≡ true = h in cc)

-- the events of a guard are the same from both
after_from : (Γ : Environment) (s u : Values) (w : Waiting) → waiting_kept Γ w ≡ true → (e : Event) (r : Values) → After Γ (over Γ s u) w e r → (q : Values) × After Γ u w e q
after_from Γ s u ready k e r a = absurd a
after_from Γ s u (input c y) k e r a = (with_value u y a.0, (a.0, a.1, a.2, refl))
after_from Γ s u (output c z) k e r a =
    let typed = right_there (channel_width Γ c) (type_of Γ z) (and_parts _ _ k).1 in
    (u, (a.0 ∙ ap (λ n. record { chan = record { 0 = c }; dir = Output; value = n }) (eval_over Γ s u z typed.0 typed.1), refl))
  where
    right_there : (a b : Option Width) → agree a b ≡ true → (w : Width) × (b ≡ Some w)
    right_there a (Some w) h = (w, refl)
    right_there (Some v) None h = absurd (let e : false ≡ true = h in cc)
    right_there None None h = absurd (let e : false ≡ true = h in cc)

taken_lies : (Γ : Environment) (s u : Values) (w : Waiting) → waiting_kept Γ w ≡ true → (t : Trace) (r : Values) (a : Trace) → Taken Γ u w t r a → Taken Γ (over Γ s u) w t (over Γ s r) a
taken_lies Γ s u w k t r a at_ready = at_ready
taken_lies Γ s u w k t r a (at_event {w = b} {e = e} {u = q} j) = at_event (after_lies Γ s u b k e q j)

no_guard_lies : (Γ : Environment) → LieGuards Γ no_guard
no_guard_lies Γ = record { first = λ s u X d. d; later = λ s u t o d. d }

and_guard_lies : (Γ : Environment) (b : Exp) (w : Waiting) (m : Meaning) (g : Guards) → is_condition Γ b ≡ true → waiting_kept Γ w ≡ true → Lies Γ m → LieGuards Γ g → LieGuards Γ (and_guard b w m g)
and_guard_lies Γ b w m g kb kw hm hg = record {
  first = λ s u X d. (
    let P : Bool → Type 0 = λ c. MatchBool c (IsQuiet Γ (over Γ s u) w X) (Unit {0}) in
        subst P (truth_over Γ s u b kb)
        (both (is_true Γ b u) (λ q. record { not_ready = q.not_ready; refused = λ e r a. let k = after_from Γ s u w kw e r a in q.refused e k.0 k.1 }) (λ q. q) d.0),
    hg.first s u X d.1,
  );
  later = λ s u t o d. elim d [
    | inl k ↦ inl (sym (truth_over Γ s u b kb) ∙ k.0, (over Γ s k.1.0, k.1.1, taken_lies Γ s u w kw t k.1.0 k.1.1 k.1.2, hm.lies s k.1.0 k.1.1 o k.1.3))
    | inr k ↦ inr (hg.later s u t o k)
  ];
}

alternates_lie : (Γ : Environment) (g : Guards) → LieGuards Γ g → (s u : Values) (t : Trace) (o : Outcome) → Alternates g Γ u t o → Alternates g Γ (over Γ s u) t (over_result Γ s o)
alternates_lie Γ g hg s u t o (stable {X = X} d) = stable (hg.first s u X d)
alternates_lie Γ g hg s u t o (taken d) = taken (hg.later s u t o d)

alternatives_lie : (Γ : Environment) (g : Guards) → LieGuards Γ g → Lies Γ (alternatives g)
alternatives_lie Γ g hg = record { lies = alternates_lie Γ g hg }

join_over : (Γ : Environment) (s u a b : Values) → over Γ s (join u a b) ≡ join (over Γ s u) (over Γ s a) (over Γ s b)
join_over Γ s u a b = fun_ext (λ z. at (is_some (variable_width Γ z)) z)
  where
    either_way : (q : Bool) (n : ℕ) → n ≡ cond q n n
    either_way true n = refl
    either_way false n = refl

    at : (p : Bool) (z : ℕ) → cond p (cond (a z == u z) (b z) (a z)) (s z) ≡ cond (cond p (a z) (s z) == cond p (u z) (s z)) (cond p (b z) (s z)) (cond p (a z) (s z))
    at true z = refl
    at false z = either_way (s z == s z) (s z)

combines_lie : (Γ : Environment) (s u : Values) (o1 o2 o : Outcome) → Combines Γ u o1 o2 o → Combines Γ (over Γ s u) (over_result Γ s o1) (over_result Γ s o2) (over_result Γ s o)
combines_lie Γ s u o1 o2 o (both_ended {s1 = a} {s2 = b} {s' = r} e) = both_ended (ap (over Γ s) e ∙ join_over Γ s u a b)
combines_lie Γ s u o1 o2 o first_ended = first_ended
combines_lie Γ s u o1 o2 o second_ended = second_ended
combines_lie Γ s u o1 o2 o (neither_ended X Y) = neither_ended X Y

together_lies : (Γ : Environment) (m n : Meaning) → Lies Γ m → Lies Γ n → (s u : Values) (t : Trace) (o : Outcome) → Together m n Γ u t o → Together m n Γ (over Γ s u) t (over_result Γ s o)
together_lies Γ m n hm hn s u t o (together t1 t2 o1 o2 woven c d1 d2) =
    together t1 t2 (over_result Γ s o1) (over_result Γ s o2) woven (combines_lie Γ s u o1 o2 o c) (hm.lies s u t1 o1 d1) (hn.lies s u t2 o2 d2)

beside_lies : (Γ : Environment) (m n : Meaning) → Lies Γ m → Lies Γ n → Lies Γ (beside m n)
beside_lies Γ m n hm hn = record { lies = together_lies Γ m n hm hn }

-- ---- declarations

none_is : {A : Type 0} (o : Option A) → is_none o ≡ true → o ≡ None
none_is None e = refl
none_is (Some a) e = absurd (let h : false ≡ true = e in cc)

module _ (Γ : Environment) (x : ℕ) (w : Width) (fresh : Γ x ≡ None) where
  inner : Environment
  inner = with_name Γ x (Var w)

  begun : (s u : Values) (v : ℕ) → over (with_name Γ x (Var w)) s (with_value u x v) ≡ with_value (over Γ s u) x v
  begun s u v = fun_ext (λ y. at y (y == x))
    where
      at : (y : ℕ) (b : Bool) → cond (is_some (variable_kind (cond b (Some (Var w)) (Γ y)))) (cond b v (u y)) (s y) ≡ cond b v (cond (is_some (variable_width Γ y)) (u y) (s y))
      at y true = refl
      at y false = refl

  dropped : (s u r : Values) → over Γ s (with_value r x (u x)) ≡ with_value (over (with_name Γ x (Var w)) s r) x (over Γ s u x)
  dropped s u r = fun_ext (λ y. at y (y == x) refl)
    where
      outside : over Γ s u x ≡ s x
      outside = ap (λ k. cond (is_some (variable_kind k)) (u x) (s x)) fresh

      at : (y : ℕ) (b : Bool) → (y == x) ≡ b
          → cond (is_some (variable_width Γ y)) (cond b (u x) (r y)) (s y) ≡ cond b (over Γ s u x) (cond (is_some (variable_kind (cond b (Some (Var w)) (Γ y)))) (r y) (s y))
      at y true e =
          ap (λ k. cond (is_some (variable_kind k)) (u x) (s y)) (ap Γ (eqb-true y x e) ∙ fresh) ∙ ap s (eqb-true y x e) ∙ sym outside
      at y false e = refl

  variable_does : (m : Meaning) → Lies (with_name Γ x (Var w)) m → (s u : Values) (t : Trace) (o : Outcome) → WithVariable x w m Γ u t o → WithVariable x w m Γ (over Γ s u) t (over_result Γ s o)
  variable_does m hm s u t o (WithVariable.at_end {s' = r} v s1 lt e d) =
      let P : Values → Type 0 = λ q. m.does (with_name Γ x (Var w)) q t (ended (over (with_name Γ x (Var w)) s s1)) in
      WithVariable.at_end v (over (with_name Γ x (Var w)) s s1) lt (ap (over Γ s) e ∙ dropped s u s1) (subst P (begun s u v) (hm.lies s (with_value u x v) t (ended s1) d))
  variable_does m hm s u t o (WithVariable.at_rest {X = X} v lt d) =
      let P : Values → Type 0 = λ q. m.does (with_name Γ x (Var w)) q t (refusing X) in
      WithVariable.at_rest v lt (subst P (begun s u v) (hm.lies s (with_value u x v) t (refusing X) d))

  variable_lies : (m : Meaning) → Lies (with_name Γ x (Var w)) m → Lies Γ (over_variable x w m)
  variable_lies m hm = record { lies = variable_does m hm }

  -- a channel is no variable
  beside_channel : (s u : Values) → over (with_name Γ x (Chan w None)) s u ≡ over Γ s u
  beside_channel s u = fun_ext (λ y. at y (y == x) refl)
    where
      at : (y : ℕ) (b : Bool) → (y == x) ≡ b → cond (is_some (variable_kind (cond b (Some (Chan w None)) (Γ y)))) (u y) (s y) ≡ cond (is_some (variable_width Γ y)) (u y) (s y)
      at y true e = sym (ap (λ k. cond (is_some (variable_kind k)) (u y) (s y)) (ap Γ (eqb-true y x e) ∙ fresh))
      at y false e = refl

  channel_does : (m : Meaning) → Lies (with_name Γ x (Chan w None)) m → (s u : Values) (t : Trace) (o : Outcome) → WithChannel x w m Γ u t o → WithChannel x w m Γ (over Γ s u) t (over_result Γ s o)
  channel_does m hm s u t o (WithChannel.at_end {s1 = r} silent d) =
      let P : Values → Type 0 = λ q. m.does (with_name Γ x (Chan w None)) q t (ended (over Γ s r)) in
      let Q : Values → Type 0 = λ q. m.does (with_name Γ x (Chan w None)) (over (with_name Γ x (Chan w None)) s u) t (ended q) in
      WithChannel.at_end silent (subst P (beside_channel s u) (subst Q (beside_channel s r) (hm.lies s u t (ended r) d)))
  channel_does m hm s u t o (WithChannel.at_rest {X = X} silent d) =
      let P : Values → Type 0 = λ q. m.does (with_name Γ x (Chan w None)) q t (refusing (off_channel x X)) in
      WithChannel.at_rest silent (subst P (beside_channel s u) (hm.lies s u t (refusing (off_channel x X)) d))

  channel_lies : (m : Meaning) → Lies (with_name Γ x (Chan w None)) m → Lies Γ (over_channel x w m)
  channel_lies m hm = record { lies = channel_does m hm }

alone_lies : (Γ : Environment) (w : Waiting) → waiting_kept Γ w ≡ true → Lies Γ (alternatives (and_guard (truth true) w (at_once (λ Γ s. s)) no_guard))
alone_lies Γ w k = alternatives_lie Γ (and_guard (truth true) w (at_once (λ Γ s. s)) no_guard) (and_guard_lies Γ (truth true) w (at_once (λ Γ s. s)) no_guard refl k (skip_lies Γ) (no_guard_lies Γ))

beside_all_lies : (Γ : Environment) (ps : Trees) (m n : Meaning) → Lies Γ m → Lies Γ n → Lies Γ (beside_all ps m n)
beside_all_lies Γ no_tree m n hm hn = hm
beside_all_lies Γ (and_tree p ps) m n hm hn = beside_lies Γ m n hm hn

-- ---- the whole language

mutual
  part_lies : (p : Tree) (Γ : Environment) → types_kept p Γ ≡ true → Lies Γ (meaning p)
  part_lies skip Γ t = skip_lies Γ
  part_lies stop Γ t = never_lies Γ
  part_lies (assign xs es) Γ t = assign_lies Γ xs es (and_parts (is_pair xs) (pairs_kept Γ xs es) t).1
  part_lies (receive c y) Γ t = alone_lies Γ (input c y) t
  part_lies (send c e) Γ t = alone_lies Γ (output c e) t
  part_lies (seq ps) Γ t = turn_lies ps Γ t
  part_lies (par ps) Γ t = parallel_lies ps Γ t
  part_lies (select cs) Γ t = cases_lie cs Γ t
  part_lies (alt bs) Γ t = alternatives_lie Γ (guards bs) (branches_lie bs Γ t)
  part_lies (declare y w p) Γ t =
      let k = and_parts (can_declare Γ y w) (types_kept p (with_name Γ y (Var w))) t in
      variable_lies Γ y w (none_is (Γ y) (and_parts (is_none (Γ y)) (is_width w) k.0).0) (meaning p) (part_lies p (with_name Γ y (Var w)) k.1)
  part_lies (connect y w p) Γ t =
      let k = and_parts (can_declare Γ y w) (types_kept p (with_name Γ y (Chan w None))) t in
      channel_lies Γ y w (none_is (Γ y) (and_parts (is_none (Γ y)) (is_width w) k.0).0) (meaning p) (part_lies p (with_name Γ y (Chan w None)) k.1)

  turn_lies : (ps : Trees) (Γ : Environment) → all_types_kept ps Γ ≡ true → Lies Γ (in_turn ps)
  turn_lies no_tree Γ t = skip_lies Γ
  turn_lies (and_tree p ps) Γ t =
      let j = and_parts (types_kept p Γ) (all_types_kept ps Γ) t in followed_lies Γ (meaning p) (in_turn ps) (part_lies p Γ j.0) (turn_lies ps Γ j.1)

  parallel_lies : (ps : Trees) (Γ : Environment) → all_types_kept ps Γ ≡ true → Lies Γ (at_the_same_time ps)
  parallel_lies no_tree Γ t = skip_lies Γ
  parallel_lies (and_tree p ps) Γ t =
      let j = and_parts (types_kept p Γ) (all_types_kept ps Γ) t in
      beside_all_lies Γ ps (meaning p) (at_the_same_time ps) (part_lies p Γ j.0) (parallel_lies ps Γ j.1)

  cases_lie : (cs : Cases) (Γ : Environment) → cases_kept cs Γ ≡ true → Lies Γ (first_choice cs)
  cases_lie no_case Γ t = never_lies Γ
  cases_lie (and_case e p cs) Γ t =
      let j = and_three (is_condition Γ e) (types_kept p Γ) (cases_kept cs Γ) t in
      chosen_lies Γ e (meaning p) (first_choice cs) j.0 (part_lies p Γ j.1) (cases_lie cs Γ j.2)

  branches_lie : (bs : Branches) (Γ : Environment) → branches_kept bs Γ ≡ true → LieGuards Γ (guards bs)
  branches_lie no_branch Γ t = no_guard_lies Γ
  branches_lie (and_branch e w p bs) Γ t =
      let j = and_four (is_condition Γ e) (waiting_kept Γ w) (types_kept p Γ) (branches_kept bs Γ) t in
      and_guard_lies Γ e w (meaning p) (guards bs) j.0 j.1 (part_lies p Γ j.2) (branches_lie bs Γ j.3)

-- what a part does from u it does from values that are those of u on the variables in scope
pub does_over : (Γ : Environment) (p : Tree) → types_kept p Γ ≡ true → (s u : Values) (t : Trace) (o : Outcome) → (meaning p).does Γ u t o → (meaning p).does Γ (over Γ s u) t (over_result Γ s o)
does_over Γ p h s u t o d = (part_lies p Γ h).lies s u t o d
