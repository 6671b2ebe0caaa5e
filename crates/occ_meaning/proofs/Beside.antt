-- PAR of meanings: its parts may change places and groups, SKIP is its unit, and STOP stops it at its end.
-- every behaviour of the first is one of the second, from all values
use Rattle.occ_syntax.specs.occ_base.Event.{counterpart, other_direction}
use Rattle.occ_syntax.specs.occ_base.declared.event.Dir.{Dir}
use Rattle.occ_syntax.specs.occ_base.declared.event.Dir.TheVariants.{Input, Output}
use Rattle.occ_syntax.specs.occ_base.declared.event.Event.{Event}
use Rattle.occ_meaning.proofs.Alike.{Into, same_from}
use Rattle.occ_meaning.proofs.Facts.{false_not_true, if_false, if_true}
use Rattle.occ_meaning.proofs.Frame.{KeepsValue}
use Rattle.occ_meaning.proofs.Refusals.{Shrinks}
use Rattle.occ_syntax.specs.Meaning.{Combines, Followed, Meaning, Outcome, Stopped, Together, Weave, answered, at_once, beside, both_done, both_ended, ended, first_ended, followed, in_first, in_second, join, meaning, neither_ended, never, of_first, of_second, refused_with, refusing, second_ended, stopped, together, unseen}
use Rattle.occ_syntax.specs.Same.{SAME}
use Rattle.occ_syntax.specs.Scopes.{Environment, EventSet, Trace, Values, in_scope}
use Rattle.occ_syntax.specs.Tree.{Tree}
use Rattle.std.proofs.Common.{Bool, [], ap, append-nil, false, if◌then◌else◌, inl, inr, not, refl, subst, sym, true, ℕ, ◌&&◌, ◌++◌, ◌==◌, ◌||◌, ◌∙◌, ◌∷◌, ◌≡◌, ◌⊎◌}
use Rattle.std.proofs.lemmas.Bool.{eq-eqb, eqb-true, or_left}
use mathlib.Core.Path.{fun_ext}

pub record Gives (Γ : Environment) (m n : Meaning) : Type 0 where
  pub gives : (s : Values) (t : Trace) (o : Outcome) → m.does Γ s t o → n.does Γ s t o

pub gives_into : (Γ : Environment) (m n : Meaning) → Gives Γ m n → Into Γ m n
gives_into Γ m n h = record { into = λ s t o state within d. h.gives s t o d }

pub same_by : (Γ : Environment) (p q : Tree) → Gives Γ (meaning p) (meaning q) → Gives Γ (meaning q) (meaning p) → SAME Γ p q
same_by Γ p q h k = same_from Γ p q (gives_into Γ (meaning p) (meaning q) h) (gives_into Γ (meaning q) (meaning p) k)

pub gives_itself : (Γ : Environment) (m : Meaning) → Gives Γ m m
gives_itself Γ m = record { gives = λ s t o d. d }

pub gives_through : (Γ : Environment) (m n l : Meaning) → Gives Γ m n → Gives Γ n l → Gives Γ m l
gives_through Γ m n l h k = record { gives = λ s t o d. k.gives s t o (h.gives s t o d) }

together_gives : (Γ : Environment) (m m' n n' : Meaning) → Gives Γ m m' → Gives Γ n n' → (s : Values) (t : Trace) (o : Outcome)
    → Together m n Γ s t o → Together m' n' Γ s t o
together_gives Γ m m' n n' hm hn s t o (together t1 t2 o1 o2 w c d1 d2) = together t1 t2 o1 o2 w c (hm.gives s t1 o1 d1) (hn.gives s t2 o2 d2)

pub beside_gives : (Γ : Environment) (m m' n n' : Meaning) → Gives Γ m m' → Gives Γ n n' → Gives Γ (beside m n) (beside m' n')
beside_gives Γ m m' n n' hm hn = record { gives = together_gives Γ m m' n n' hm hn }

pub shrink : (m : Meaning) → Shrinks m → (Γ : Environment) (s : Values) (t : Trace) (X W : EventSet)
    → ((e : Event) → W e ≡ true → X e ≡ true) → m.does Γ s t (refusing X) → m.does Γ s t (refusing W)
shrink m h Γ s t X W sub d = h.more Γ s t X W (λ e k. inl (sub e k)) d

-- ---- the other way round

pub turned_twice : (e : Event) → counterpart (counterpart e) ≡ e
turned_twice e = ap (λ d. record { chan = e.chan; dir = d; value = e.value }) (twice e.dir)
  where
    twice : (d : Dir) → other_direction (other_direction d) ≡ d
    twice Input = refl
    twice Output = refl

pub weave_turned : (a b c : Trace) → Weave a b c → Weave b a c
weave_turned a b c both_done = both_done
weave_turned a b c (of_first {e = e} {a = x} {b = y} {c = z} w) = of_second (weave_turned x y z w)
weave_turned a b c (of_second {e = e} {a = x} {b = y} {c = z} w) = of_first (weave_turned x y z w)
weave_turned a b c (unseen {e = e} {f = f} {a = x} {b = y} {c = z} i w) = unseen (sym (turned_twice e) ∙ ap counterpart (sym i)) (weave_turned x y z w)

not_twice : (b : Bool) → not (not b) ≡ b
not_twice true = refl
not_twice false = refl

pub answered_twice : (Y : EventSet) → answered (answered Y) ≡ Y
answered_twice Y = fun_ext (λ e. not_twice (Y (counterpart (counterpart e))) ∙ ap Y (turned_twice e))

-- each variable keeps its value in one of the two
pub record ChangeApart (m n : Meaning) : Type 0 where
  pub one_keeps : (x : ℕ) → KeepsValue x m ⊎ KeepsValue x n

pub join_turned : (s s1 s2 : Values) → ((x : ℕ) → (s1 x ≡ s x) ⊎ (s2 x ≡ s x)) → join s s1 s2 ≡ join s s2 s1
join_turned s s1 s2 apart = fun_ext (λ x. at_one (s x) (s1 x) (s2 x) (apart x))
  where
    one_kept : (a c : ℕ) (b : Bool) → (c == a) ≡ b → c ≡ (if b then a else c)
    one_kept a c true h = eqb-true c a h
    one_kept a c false h = refl

    at_one : (a b c : ℕ) → (b ≡ a) ⊎ (c ≡ a) → (if b == a then c else b) ≡ (if c == a then b else c)
    at_one a b c h = elim h [
      | inl k ↦ if_true (b == a) c b (eq-eqb b a k) ∙ (one_kept a c (c == a) refl ∙ ap (λ n. if c == a then n else c) (sym k))
      | inr k ↦ ap (λ n. if b == a then n else b) k ∙ (sym (one_kept a b (b == a) refl) ∙ sym (if_true (c == a) b c (eq-eqb c a k)))
    ]

combine_turned : (m n : Meaning) → ChangeApart m n → (Γ : Environment) (s : Values) (t1 t2 t : Trace) → Weave t1 t2 t → (o1 o2 o : Outcome)
    → m.does Γ s t1 o1 → n.does Γ s t2 o2 → Combines Γ s o1 o2 o → Together n m Γ s t o
combine_turned m n apart Γ s t1 t2 t w o1 o2 o d1 d2 (both_ended {s1 = a} {s2 = b} {s' = r} e) =
    together t2 t1 (ended b) (ended a) (weave_turned t1 t2 t w)
    (both_ended (e ∙ join_turned s a b (λ x. elim (apart.one_keeps x) [ inl k ↦ inl (k.value Γ s t1 a d1) | inr k ↦ inr (k.value Γ s t2 b d2) ]))) d2 d1
combine_turned m n apart Γ s t1 t2 t w o1 o2 o d1 d2 (first_ended {s1 = a} {X = X}) = together t2 t1 (refusing X) (ended a) (weave_turned t1 t2 t w) second_ended d2 d1
combine_turned m n apart Γ s t1 t2 t w o1 o2 o d1 d2 (second_ended {s2 = a} {X = X}) = together t2 t1 (ended a) (refusing X) (weave_turned t1 t2 t w) first_ended d2 d1
combine_turned m n apart Γ s t1 t2 t w o1 o2 o d1 d2 (neither_ended X Y) =
    let P : EventSet → Type 0 = λ Z. m.does Γ s t1 (refusing (refused_with Γ X Z)) in
    together t2 t1 (refusing (refused_with Γ X (answered Y))) (refusing (refused_with Γ X (answered (answered Y)))) (weave_turned t1 t2 t w) (neither_ended X (answered Y)) d2 (subst P (sym (answered_twice Y)) d1)

together_turned : (m n : Meaning) → ChangeApart m n → (Γ : Environment) (s : Values) (t : Trace) (o : Outcome) → Together m n Γ s t o
    → Together n m Γ s t o
together_turned m n apart Γ s t o (together t1 t2 o1 o2 w c d1 d2) = combine_turned m n apart Γ s t1 t2 t w o1 o2 o d1 d2 c

pub beside_turned : (Γ : Environment) (m n : Meaning) → ChangeApart m n → Gives Γ (beside m n) (beside n m)
beside_turned Γ m n apart = record { gives = together_turned m n apart Γ }

pub apart_turned : (m n : Meaning) → ChangeApart m n → ChangeApart n m
apart_turned m n h = record { one_keeps = λ x. elim (h.one_keeps x) [ inl k ↦ inr k | inr k ↦ inl k ] }

-- ---- in other groups

pub record Regrouped (a b c t : Trace) : Type 0 where
  pub middle : Trace
  pub inner : Weave b c middle
  pub outer : Weave a middle t

alone : (c : Trace) → Weave [] c c
alone [] = both_done
alone (e ∷ c) = of_second (alone c)

past_first : (e : Event) (a b x : Trace) → ((c t : Trace) → Weave x c t → Regrouped a b c t) → (c t : Trace) → Weave (e ∷ x) c t
    → Regrouped (e ∷ a) b c t
past_first e a b x ih c t (of_first {b = y} {c = z} w) = let k = ih y z w in record { middle = k.middle; inner = k.inner; outer = of_first k.outer }
past_first e a b x ih c t (of_second {e = g} {b = y} {c = z} w) = let k = past_first e a b x ih y z w in record { middle = g ∷ k.middle; inner = of_second k.inner; outer = of_second k.outer }
past_first e a b x ih c t (unseen {f = g} {b = y} {c = z} i w) = let k = ih y z w in record { middle = g ∷ k.middle; inner = of_second k.inner; outer = unseen i k.outer }

past_second : (e : Event) (a b x : Trace) → ((c t : Trace) → Weave x c t → Regrouped a b c t) → (c t : Trace) → Weave (e ∷ x) c t
    → Regrouped a (e ∷ b) c t
past_second e a b x ih c t (of_first {b = y} {c = z} w) = let k = ih y z w in record { middle = e ∷ k.middle; inner = of_first k.inner; outer = of_second k.outer }
past_second e a b x ih c t (of_second {e = g} {b = y} {c = z} w) = let k = past_second e a b x ih y z w in record { middle = g ∷ k.middle; inner = of_second k.inner; outer = of_second k.outer }
past_second e a b x ih c t (unseen {f = g} {b = y} {c = z} i w) = let k = ih y z w in record { middle = k.middle; inner = unseen i k.inner; outer = k.outer }

pub weave_grouped : (a b x : Trace) → Weave a b x → (c t : Trace) → Weave x c t → Regrouped a b c t
weave_grouped a b x both_done c t v = record { middle = c; inner = alone c; outer = v }
weave_grouped a b x (of_first {e = e} {a = y} {b = z} {c = r} w) c t v = past_first e y z r (weave_grouped y z r w) c t v
weave_grouped a b x (of_second {e = e} {a = y} {b = z} {c = r} w) c t v = past_second e y z r (weave_grouped y z r w) c t v
weave_grouped a b x (unseen {e = e} {f = f} {a = y} {b = z} {c = r} i w) c t v =
    let k = weave_grouped y z r w c t v in record { middle = f ∷ k.middle; inner = of_first k.inner; outer = unseen i k.outer }

pub join_grouped : (s a b c : Values) → join s (join s a b) c ≡ join s a (join s b c)
join_grouped s a b c = fun_ext (λ x. at_one (s x) (a x) (b x) (c x) (a x == s x) refl)
  where
    at_one : (n u v w : ℕ) (t : Bool) → (u == n) ≡ t
        → (if (if t then v else u) == n then w else (if t then v else u)) ≡ (if t then (if v == n then w else v) else u)
    at_one n u v w true h = refl
    at_one n u v w false h = if_false (u == n) w u h

-- what the sets of three stable parts come to
in_first_group : (x i y w : Bool) → (x || (i && (y || w))) ≡ true → ((x || (i && y)) || (i && w)) ≡ true
in_first_group true i y w h = refl
in_first_group false false y w h = h
in_first_group false true true w h = refl
in_first_group false true false w h = h

in_middle_group : (x i y y' w' : Bool) → ((x || (i && not (y' || w'))) || (i && y)) ≡ true → ((x || (i && y)) || (i && not w')) ≡ true
in_middle_group true i y y' w' h = refl
in_middle_group false false y y' w' h = h
in_middle_group false true true y' w' h = refl
in_middle_group false true false true w' h = false_not_true h
in_middle_group false true false false true h = false_not_true h
in_middle_group false true false false false h = refl

in_last_group : (x i y' w' : Bool) → ((x || (i && not (y' || w'))) || (i && not y')) ≡ true → (x || (i && not y')) ≡ true
in_last_group true i y' w' h = refl
in_last_group false false y' w' h = h
in_last_group false true true w' h = h
in_last_group false true false w' h = refl

out_first_group : (x i y w : Bool) → ((x || (i && (y && w))) || (i && y)) ≡ true → (x || (i && y)) ≡ true
out_first_group true i y w h = refl
out_first_group false false y w h = h
out_first_group false true true w h = refl
out_first_group false true false w h = h

out_middle_group : (x i y w y' : Bool) → ((x || (i && (y && w))) || (i && not y')) ≡ true → ((x || (i && not y')) || (i && w)) ≡ true
out_middle_group true i y w y' h = refl
out_middle_group false false y w y' h = h
out_middle_group false true y w false h = refl
out_middle_group false true true true true h = refl
out_middle_group false true true false true h = h
out_middle_group false true false w true h = false_not_true h

out_last_group : (x i y' w' : Bool) → (x || (i && not (y' && w'))) ≡ true → ((x || (i && not y')) || (i && not w')) ≡ true
out_last_group true i y' w' h = refl
out_last_group false false y' w' h = h
out_last_group false true true w' h = h
out_last_group false true false w' h = refl

module _ (p q r : Meaning) (hp : Shrinks p) (hq : Shrinks q) (hr : Shrinks r) (Γ : Environment) (s : Values) where
  -- three stable parts
  grouped_stable : (t1 t2 t3 m t : Trace) → Weave t2 t3 m → Weave t1 m t → (X Y W : EventSet)
      → p.does Γ s t1 (refusing (refused_with Γ (refused_with Γ X Y) W))
      → q.does Γ s t2 (refusing (refused_with Γ (refused_with Γ X Y) (answered W)))
      → r.does Γ s t3 (refusing (refused_with Γ X (answered Y))) → Together p (beside q r) Γ s t (refusing X)
  grouped_stable t1 t2 t3 m t v w X Y W d1 d2 d3 =
      let U : EventSet = λ e. Y e || W e in
      let Z : EventSet = refused_with Γ X (answered U) in
      together t1 m (refusing (refused_with Γ X U)) (refusing Z) w (neither_ended X U)
      (shrink p hp Γ s t1 (refused_with Γ (refused_with Γ X Y) W) (refused_with Γ X U) (λ e h. in_first_group (X e) (in_scope Γ e) (Y e) (W e) h) d1)
      (together t2 t3 (refusing (refused_with Γ Z Y)) (refusing (refused_with Γ Z (answered Y))) v (neither_ended Z Y)
      (shrink q hq Γ s t2 (refused_with Γ (refused_with Γ X Y) (answered W)) (refused_with Γ Z Y) (λ e h. in_middle_group (X e) (in_scope Γ e) (Y e) (Y (counterpart e)) (W (counterpart e)) h) d2)
      (shrink r hr Γ s t3 (refused_with Γ X (answered Y)) (refused_with Γ Z (answered Y)) (λ e h. in_last_group (X e) (in_scope Γ e) (Y (counterpart e)) (W (counterpart e)) h) d3))

  ungrouped_stable : (t1 t2 t3 m t : Trace) → Weave t1 t2 m → Weave m t3 t → (X Y W : EventSet)
      → p.does Γ s t1 (refusing (refused_with Γ X Y)) → q.does Γ s t2 (refusing (refused_with Γ (refused_with Γ X (answered Y)) W))
      → r.does Γ s t3 (refusing (refused_with Γ (refused_with Γ X (answered Y)) (answered W))) → Together (beside p q) r Γ s t (refusing X)
  ungrouped_stable t1 t2 t3 m t v w X Y W d1 d2 d3 =
      let U : EventSet = λ e. Y e && W e in
      let Z : EventSet = refused_with Γ X U in
      together m t3 (refusing Z) (refusing (refused_with Γ X (answered U))) w (neither_ended X U)
      (together t1 t2 (refusing (refused_with Γ Z Y)) (refusing (refused_with Γ Z (answered Y))) v (neither_ended Z Y)
      (shrink p hp Γ s t1 (refused_with Γ X Y) (refused_with Γ Z Y) (λ e h. out_first_group (X e) (in_scope Γ e) (Y e) (W e) h) d1)
      (shrink q hq Γ s t2 (refused_with Γ (refused_with Γ X (answered Y)) W) (refused_with Γ Z (answered Y)) (λ e h. out_middle_group (X e) (in_scope Γ e) (Y e) (W e) (Y (counterpart e)) h) d2))
      (shrink r hr Γ s t3 (refused_with Γ (refused_with Γ X (answered Y)) (answered W)) (refused_with Γ X (answered U)) (λ e h. out_last_group (X e) (in_scope Γ e) (Y (counterpart e)) (W (counterpart e)) h) d3)

  grouped_neither : (t1 t2 t3 m t : Trace) → Weave t2 t3 m → Weave t1 m t → (X Y V : EventSet) → V ≡ refused_with Γ X Y → (o1 o2 : Outcome)
      → p.does Γ s t1 o1 → q.does Γ s t2 o2 → r.does Γ s t3 (refusing (refused_with Γ X (answered Y))) → Combines Γ s o1 o2 (refusing V)
      → Together p (beside q r) Γ s t (refusing X)
  grouped_neither t1 t2 t3 m t v w X Y V is o1 o2 d1 d2 d3 (first_ended {s1 = a}) =
      let P : EventSet → Type 0 = λ k. q.does Γ s t2 (refusing k) in
      together t1 m (ended a) (refusing X) w first_ended d1 (together t2 t3 (refusing (refused_with Γ X Y)) (refusing (refused_with Γ X (answered Y))) v (neither_ended X Y) (subst P is d2) d3)
  grouped_neither t1 t2 t3 m t v w X Y V is o1 o2 d1 d2 d3 (second_ended {s2 = b}) =
      let P : EventSet → Type 0 = λ k. p.does Γ s t1 (refusing k) in
      together t1 m (refusing (refused_with Γ X Y)) (refusing (refused_with Γ X (answered Y))) w (neither_ended X Y) (subst P is d1) (together t2 t3 (ended b) (refusing (refused_with Γ X (answered Y))) v first_ended d2 d3)
  grouped_neither t1 t2 t3 m t v w X Y V is o1 o2 d1 d2 d3 (neither_ended Z W) =
      let P : EventSet → Type 0 = λ k. p.does Γ s t1 (refusing (refused_with Γ k W)) in
      let Q : EventSet → Type 0 = λ k. q.does Γ s t2 (refusing (refused_with Γ k (answered W))) in
      grouped_stable t1 t2 t3 m t v w X Y W (subst P is d1) (subst Q is d2) d3

  grouped_case : (t1 t2 t3 m t : Trace) → Weave t2 t3 m → Weave t1 m t → (o1 o2 o3 o12 o : Outcome) → p.does Γ s t1 o1 → q.does Γ s t2 o2
      → r.does Γ s t3 o3 → Combines Γ s o12 o3 o → Combines Γ s o1 o2 o12 → Together p (beside q r) Γ s t o
  grouped_case t1 t2 t3 m t v w o1 o2 o3 o12 o d1 d2 d3 (both_ended {s1 = ab} {s2 = c} {s' = u} e) (both_ended {s1 = a} {s2 = b} i) =
      together t1 m (ended a) (ended (join s b c)) w (both_ended (e ∙ (ap (λ k. join s k c) i ∙ join_grouped s a b c))) d1 (together t2 t3 (ended b) (ended c) v (both_ended refl) d2 d3)
  grouped_case t1 t2 t3 m t v w o1 o2 o3 o12 o d1 d2 d3 (first_ended {X = X}) (both_ended {s1 = a} {s2 = b} i) =
      together t1 m (ended a) (refusing X) w first_ended d1 (together t2 t3 (ended b) (refusing X) v first_ended d2 d3)
  grouped_case t1 t2 t3 m t v w o1 o2 o3 o12 o d1 d2 d3 (second_ended {s2 = c} {X = X}) (first_ended {s1 = a}) =
      together t1 m (ended a) (refusing X) w first_ended d1 (together t2 t3 (refusing X) (ended c) v second_ended d2 d3)
  grouped_case t1 t2 t3 m t v w o1 o2 o3 o12 o d1 d2 d3 (second_ended {s2 = c} {X = X}) (second_ended {s2 = b}) =
      together t1 m (refusing X) (ended (join s b c)) w second_ended d1 (together t2 t3 (ended b) (ended c) v (both_ended refl) d2 d3)
  grouped_case t1 t2 t3 m t v w o1 o2 o3 o12 o d1 d2 d3 (second_ended {s2 = c} {X = X}) (neither_ended Z Y) =
      together t1 m (refusing (refused_with Γ X Y)) (refusing (refused_with Γ X (answered Y))) w (neither_ended X Y) d1 (together t2 t3 (refusing (refused_with Γ X (answered Y))) (ended c) v second_ended d2 d3)
  grouped_case t1 t2 t3 m t v w o1 o2 o3 o12 o d1 d2 d3 (neither_ended X Y) c = grouped_neither t1 t2 t3 m t v w X Y (refused_with Γ X Y) refl o1 o2 d1 d2 d3 c

  ungrouped_neither : (t1 t2 t3 m t : Trace) → Weave t1 t2 m → Weave m t3 t → (X Y V : EventSet) → V ≡ refused_with Γ X (answered Y)
      → (o2 o3 : Outcome) → p.does Γ s t1 (refusing (refused_with Γ X Y)) → q.does Γ s t2 o2 → r.does Γ s t3 o3
      → Combines Γ s o2 o3 (refusing V) → Together (beside p q) r Γ s t (refusing X)
  ungrouped_neither t1 t2 t3 m t v w X Y V is o2 o3 d1 d2 d3 (first_ended {s1 = b}) =
      let P : EventSet → Type 0 = λ k. r.does Γ s t3 (refusing k) in
      together m t3 (refusing (refused_with Γ X Y)) (refusing (refused_with Γ X (answered Y))) w (neither_ended X Y) (together t1 t2 (refusing (refused_with Γ X Y)) (ended b) v second_ended d1 d2) (subst P is d3)
  ungrouped_neither t1 t2 t3 m t v w X Y V is o2 o3 d1 d2 d3 (second_ended {s2 = c}) =
      let P : EventSet → Type 0 = λ k. q.does Γ s t2 (refusing k) in
      together m t3 (refusing X) (ended c) w second_ended (together t1 t2 (refusing (refused_with Γ X Y)) (refusing (refused_with Γ X (answered Y))) v (neither_ended X Y) d1 (subst P is d2)) d3
  ungrouped_neither t1 t2 t3 m t v w X Y V is o2 o3 d1 d2 d3 (neither_ended Z W) =
      let P : EventSet → Type 0 = λ k. q.does Γ s t2 (refusing (refused_with Γ k W)) in
      let Q : EventSet → Type 0 = λ k. r.does Γ s t3 (refusing (refused_with Γ k (answered W))) in
      ungrouped_stable t1 t2 t3 m t v w X Y W d1 (subst P is d2) (subst Q is d3)

  ungrouped_case : (t1 t2 t3 m t : Trace) → Weave t1 t2 m → Weave m t3 t → (o1 o2 o3 o23 o : Outcome) → p.does Γ s t1 o1 → q.does Γ s t2 o2
      → r.does Γ s t3 o3 → Combines Γ s o1 o23 o → Combines Γ s o2 o3 o23 → Together (beside p q) r Γ s t o
  ungrouped_case t1 t2 t3 m t v w o1 o2 o3 o23 o d1 d2 d3 (both_ended {s1 = a} {s2 = bc} {s' = u} e) (both_ended {s1 = b} {s2 = c} i) =
      together m t3 (ended (join s a b)) (ended c) w (both_ended (e ∙ (ap (λ k. join s a k) i ∙ sym (join_grouped s a b c)))) (together t1 t2 (ended a) (ended b) v (both_ended refl) d1 d2) d3
  ungrouped_case t1 t2 t3 m t v w o1 o2 o3 o23 o d1 d2 d3 (second_ended {X = X}) (both_ended {s1 = b} {s2 = c} i) =
      together m t3 (refusing X) (ended c) w second_ended (together t1 t2 (refusing X) (ended b) v second_ended d1 d2) d3
  ungrouped_case t1 t2 t3 m t v w o1 o2 o3 o23 o d1 d2 d3 (first_ended {s1 = a} {X = X}) (first_ended {s1 = b}) =
      together m t3 (ended (join s a b)) (refusing X) w first_ended (together t1 t2 (ended a) (ended b) v (both_ended refl) d1 d2) d3
  ungrouped_case t1 t2 t3 m t v w o1 o2 o3 o23 o d1 d2 d3 (first_ended {s1 = a} {X = X}) (second_ended {s2 = c}) =
      together m t3 (refusing X) (ended c) w second_ended (together t1 t2 (ended a) (refusing X) v first_ended d1 d2) d3
  ungrouped_case t1 t2 t3 m t v w o1 o2 o3 o23 o d1 d2 d3 (first_ended {s1 = a} {X = X}) (neither_ended Z Y) =
      together m t3 (refusing (refused_with Γ X Y)) (refusing (refused_with Γ X (answered Y))) w (neither_ended X Y) (together t1 t2 (ended a) (refusing (refused_with Γ X Y)) v first_ended d1 d2) d3
  ungrouped_case t1 t2 t3 m t v w o1 o2 o3 o23 o d1 d2 d3 (neither_ended X Y) c = ungrouped_neither t1 t2 t3 m t v w X Y (refused_with Γ X (answered Y)) refl o2 o3 d1 d2 d3 c

  grouped_inner : (t1 t3 t : Trace) (o1 o3 o : Outcome) → Weave t1 t3 t → Combines Γ s o1 o3 o → Together p q Γ s t1 o1 → r.does Γ s t3 o3
      → Together p (beside q r) Γ s t o
  grouped_inner x t3 t o12 o3 o v c (together t1 t2 o1 o2 w c' d1 d2) d3 = let k = weave_grouped t1 t2 x w t3 t v in grouped_case t1 t2 t3 k.middle t k.inner k.outer o1 o2 o3 o12 o d1 d2 d3 c c'

  grouped : (t : Trace) (o : Outcome) → Together (beside p q) r Γ s t o → Together p (beside q r) Γ s t o
  grouped t o (together t1 t3 o1 o3 w c d1 d3) = grouped_inner t1 t3 t o1 o3 o w c d1 d3

  ungrouped_inner : (t1 x t : Trace) (o1 o23 o : Outcome) → Weave t1 x t → Combines Γ s o1 o23 o → p.does Γ s t1 o1 → Together q r Γ s x o23
      → Together (beside p q) r Γ s t o
  ungrouped_inner t1 x t o1 o23 o v c d1 (together t2 t3 o2 o3 w c' d2 d3) =
      let k = weave_grouped t3 t2 x (weave_turned t2 t3 x w) t1 t (weave_turned t1 x t v) in
      ungrouped_case t1 t2 t3 k.middle t (weave_turned t2 t1 k.middle k.inner) (weave_turned t3 k.middle t k.outer) o1 o2 o3 o23 o d1 d2 d3 c c'

  ungrouped : (t : Trace) (o : Outcome) → Together p (beside q r) Γ s t o → Together (beside p q) r Γ s t o
  ungrouped t o (together t1 x o1 o23 w c d1 d) = ungrouped_inner t1 x t o1 o23 o w c d1 d

pub beside_grouped : (p q r : Meaning) → Shrinks p → Shrinks q → Shrinks r → (Γ : Environment)
    → Gives Γ (beside (beside p q) r) (beside p (beside q r))
beside_grouped p q r hp hq hr Γ = record { gives = λ s t o d. grouped p q r hp hq hr Γ s t o d }

pub beside_ungrouped : (p q r : Meaning) → Shrinks p → Shrinks q → Shrinks r → (Γ : Environment)
    → Gives Γ (beside p (beside q r)) (beside (beside p q) r)
beside_ungrouped p q r hp hq hr Γ = record { gives = λ s t o d. ungrouped p q r hp hq hr Γ s t o d }

-- ---- SKIP

abbrev pub done : Meaning
done = at_once (λ Γ s. s)

weave_none : (a c : Trace) → Weave a [] c → a ≡ c
weave_none a c both_done = refl
weave_none a c (of_first {e = e} {a = x} {c = z} w) = ap (λ r. e ∷ r) (weave_none x z w)

pub join_none : (s a : Values) → join s a s ≡ a
join_none s a = fun_ext (λ x. at_one (s x) (a x) (a x == s x) refl)
  where
    at_one : (n u : ℕ) (b : Bool) → (u == n) ≡ b → (if b then n else u) ≡ u
    at_one n u true h = sym (eqb-true u n h)
    at_one n u false h = refl

skip_combined : (m : Meaning) (Γ : Environment) (s : Values) (t : Trace) (o1 o : Outcome) → m.does Γ s t o1 → Combines Γ s o1 (ended s) o
    → m.does Γ s t o
skip_combined m Γ s t o1 o d (both_ended {s1 = a} {s' = r} e) = let P : Values → Type 0 = λ k. m.does Γ s t (ended k) in subst P (sym (e ∙ join_none s a)) d
skip_combined m Γ s t o1 o d second_ended = d

beside_skip_at : (m : Meaning) (Γ : Environment) (s : Values) (t : Trace) (o : Outcome) → Together m done Γ s t o → m.does Γ s t o
beside_skip_at m Γ s t o (together t1 t2 o1 o2 w c d1 d2) =
    let P : Trace → Type 0 = λ k. Weave t1 k t in
    let Q : Outcome → Type 0 = λ k. Combines Γ s o1 k o in
    let R : Trace → Type 0 = λ k. m.does Γ s k o1 in
    skip_combined m Γ s t o1 o (subst R (weave_none t1 t (subst P d2.0 w)) d1) (subst Q d2.1 c)

with_none : (t : Trace) → Weave t [] t
with_none [] = both_done
with_none (e ∷ t) = of_first (with_none t)

skip_beside_at : (m : Meaning) (Γ : Environment) (s : Values) (t : Trace) (o : Outcome) → m.does Γ s t o → Together m done Γ s t o
skip_beside_at m Γ s t (ended a) d = together t [] (ended a) (ended s) (with_none t) (both_ended (sym (join_none s a))) d (refl, refl)
skip_beside_at m Γ s t (refusing X) d = together t [] (refusing X) (ended s) (with_none t) second_ended d (refl, refl)

pub beside_skip : (Γ : Environment) (m : Meaning) → Gives Γ (beside m done) m
beside_skip Γ m = record { gives = beside_skip_at m Γ }

pub skip_added : (Γ : Environment) (m : Meaning) → Gives Γ m (beside m done)
skip_added Γ m = record { gives = skip_beside_at m Γ }

skip_keeps : (x : ℕ) → KeepsValue x done
skip_keeps x = record { value = λ Γ s t s' d. (let e : s' ≡ s = cc in ap (λ r. r x) e) }

skip_apart : (m : Meaning) → ChangeApart m done
skip_apart m = record { one_keeps = λ x. inr (skip_keeps x) }

pub skip_beside : (Γ : Environment) (m : Meaning) → Gives Γ (beside done m) m
skip_beside Γ m = gives_through Γ (beside done m) (beside m done) m (beside_turned Γ done m (apart_turned m done (skip_apart m))) (beside_skip Γ m)

pub skip_before : (Γ : Environment) (m : Meaning) → Gives Γ m (beside done m)
skip_before Γ m = gives_through Γ m (beside m done) (beside done m) (skip_added Γ m) (beside_turned Γ m done (skip_apart m))

-- ---- STOP

abbrev pub then_stop : Meaning → Meaning
then_stop m = followed m (followed never done)

stop_combined : (m : Meaning) → Shrinks m → (Γ : Environment) (s : Values) (t : Trace) (o1 : Outcome) (X : EventSet) (o : Outcome)
    → m.does Γ s t o1 → Combines Γ s o1 (refusing X) o → Followed m (followed never done) Γ s t o
stop_combined m h Γ s t o1 X o d (first_ended {s1 = a}) = in_second t [] a (sym (append-nil t)) d (in_first stopped)
stop_combined m h Γ s t o1 X o d (neither_ended Z Y) = in_first (shrink m h Γ s t (refused_with Γ Z Y) Z (λ e k. or_left (Z e) (in_scope Γ e && Y e) k) d)

stopped_beside : (m : Meaning) → Shrinks m → (Γ : Environment) (s : Values) (t1 t2 t : Trace) (o1 o2 o : Outcome) → Weave t1 t2 t
    → Combines Γ s o1 o2 o → m.does Γ s t1 o1 → Stopped t2 o2 → Followed m (followed never done) Γ s t o
stopped_beside m h Γ s t1 t2 t o1 o2 o w c d1 (stopped {X = X}) = let R : Trace → Type 0 = λ k. m.does Γ s k o1 in stop_combined m h Γ s t o1 X o (subst R (weave_none t1 t w) d1) c

beside_stop_at : (m : Meaning) → Shrinks m → (Γ : Environment) (s : Values) (t : Trace) (o : Outcome) → Together m never Γ s t o
    → Followed m (followed never done) Γ s t o
beside_stop_at m h Γ s t o (together t1 t2 o1 o2 w c d1 d2) = stopped_beside m h Γ s t1 t2 t o1 o2 o w c d1 d2

pub beside_stop : (Γ : Environment) (m : Meaning) → Shrinks m → Gives Γ (beside m never) (then_stop m)
beside_stop Γ m h = record { gives = beside_stop_at m h Γ }

without_more : (x i : Bool) → (x || (i && false)) ≡ true → x ≡ true
without_more true i h = refl
without_more false true h = h
without_more false false h = h

no_end_of_stop : {A : Type 0} (t : Trace) (a : Values) → Stopped t (ended a) → A
no_end_of_stop t a d = absurd (never_ends t a d)
  where
    never_ends : (t : Trace) (a : Values) → Stopped t (ended a) → ⊥
    never_ends t a d = elim d [ ]

only_stopped : (Γ : Environment) (s : Values) (t : Trace) (o : Outcome) → Followed never done Γ s t o → Stopped t o
only_stopped Γ s t o (in_first d) = d
only_stopped Γ s t o (in_second t1 t2 s1 e d1 d2) = no_end_of_stop t1 s1 d1

stop_after : (m : Meaning) (Γ : Environment) (s s1 : Values) (t t1 t2 : Trace) (o : Outcome) → t ≡ t1 ++ t2 → m.does Γ s t1 (ended s1)
    → Stopped t2 o → Together m never Γ s t o
stop_after m Γ s s1 t t1 t2 o e d (stopped {X = X}) =
    let P : Trace → Type 0 = λ k. Weave t1 [] k in
    together t1 [] (ended s1) (refusing X) (subst P (sym (append-nil t1) ∙ sym e) (with_none t1)) first_ended d stopped

stop_beside_at : (m : Meaning) → Shrinks m → (Γ : Environment) (s : Values) (t : Trace) (o : Outcome)
    → Followed m (followed never done) Γ s t o → Together m never Γ s t o
stop_beside_at m h Γ s t o (in_first {X = X} d) =
    let Y : EventSet = λ e. false in
    together t [] (refusing (refused_with Γ X Y)) (refusing (refused_with Γ X (answered Y))) (with_none t) (neither_ended X Y)
    (shrink m h Γ s t X (refused_with Γ X Y) (λ e k. without_more (X e) (in_scope Γ e) k) d) stopped
stop_beside_at m h Γ s t o (in_second t1 t2 s1 e d1 d2) = stop_after m Γ s s1 t t1 t2 o e d1 (only_stopped Γ s1 t2 o d2)

pub stop_added : (Γ : Environment) (m : Meaning) → Shrinks m → Gives Γ (then_stop m) (beside m never)
stop_added Γ m h = record { gives = stop_beside_at m h Γ }

stop_keeps : (x : ℕ) → KeepsValue x never
stop_keeps x = record { value = λ Γ s t s' d. no_end_of_stop t s' d }

pub stop_apart : (m : Meaning) → ChangeApart m never
stop_apart m = record { one_keeps = λ x. inr (stop_keeps x) }
