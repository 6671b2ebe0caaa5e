-- Declarations and PAR: a declaration belongs to one part, where the others don't have its name.
-- ---- events in scope around a variable that isn't in scope outside
use Rattle.occ_syntax.specs.occ_base.Event.{counterpart}
use Rattle.occ_syntax.specs.occ_base.Width.{bits_of}
use Rattle.occ_syntax.specs.occ_base.declared.event.Event.{Event}
use Rattle.occ_syntax.specs.occ_base.declared.width.Width.{Width}
use Rattle.occ_meaning.proofs.Beside.{gives_through, same_by, shrink}
use Rattle.occ_meaning.proofs.Declared.{Foreign, channel_gives, declared_off, foreign_in, foreign_out, foreign_part, variable_gives}
use Rattle.occ_meaning.proofs.Ends.{part_uses}
use Rattle.occ_meaning.proofs.Facts.{false_not_true, if_false, if_true, name_off, true_not_false}
use Rattle.occ_meaning.proofs.Free.{no_end}
use Rattle.occ_meaning.proofs.OffNames.{agree_turned, part_moves}
use Rattle.occ_meaning.proofs.OffValues.{combines_ignore, value_again, value_back}
use Rattle.occ_meaning.proofs.Parts.{beside_whole, whole_beside}
use Rattle.occ_meaning.proofs.Redeclared.{silent_unused}
use Rattle.occ_meaning.proofs.Refusals.{Shrinks, part_more, part_shrinks}
use Rattle.occ_meaning.specs.Foundation.{with_result}
use Rattle.occ_syntax.specs.Meaning.{Combines, Meaning, Outcome, Together, Weave, WithChannel, WithVariable, answered, at_the_same_time, beside, both_done, both_ended, ended, first_ended, is_silent, join, meaning, neither_ended, of_first, of_second, off_channel, over_channel, over_variable, refused_with, refusing, second_ended, together, unseen}
use Rattle.occ_syntax.specs.Names.{free, free_in_some, uses_end}
use Rattle.occ_syntax.specs.Same.{SAME}
use Rattle.occ_syntax.specs.Scopes.{Environment, EventSet, Trace, Values, channel_kind, has_width, in_scope, with_name, with_value}
use Rattle.occ_syntax.specs.Tree.{Tree, Trees, and_tree, connect, declare, par}
use Rattle.occ_syntax.specs.Types.{all_types_kept, types_kept}
use Rattle.occ_syntax.specs.declared.scope.Kind.TheVariants.{Chan, Var}
use Rattle.std.proofs.Common.{Bool, None, Some, ap, false, if◌then◌else◌, inl, inr, not, refl, subst, sym, true, ℕ, ◌&&◌, ◌<◌, ◌==◌, ◌^◌, ◌||◌, ◌∙◌, ◌≡◌}
use Rattle.std.proofs.lemmas.Bool.{and_from, and_parts, eq-eqb, not_from_false}
use Rattle.std.proofs.lemmas.Bool.Decides.{eqb_tells}
use mathlib.Core.Path.{fun_ext}

scope_same : (Γ : Environment) (x : ℕ) (w : Width) → Γ x ≡ None → in_scope (with_name Γ x (Var w)) ≡ in_scope Γ
scope_same Γ x w fresh = fun_ext (λ e. elim (eqb_tells e.chan.0 x) [
  | inl k ↦ ap (λ o. has_width (channel_kind o) e.value) (if_true (e.chan.0 == x) (Some (Var w)) (Γ e.chan.0) k.0) ∙ sym (ap (λ o. has_width (channel_kind o) e.value) (ap Γ k.1 ∙ fresh))
  | inr k ↦ ap (λ o. has_width (channel_kind o) e.value) (if_false (e.chan.0 == x) (Some (Var w)) (Γ e.chan.0) k.0)
])

pub combines_moved : (Γ Δ : Environment) → in_scope Γ ≡ in_scope Δ → (s : Values) (o1 o2 o : Outcome) → Combines Γ s o1 o2 o → Combines Δ s o1 o2 o
combines_moved Γ Δ same s o1 o2 o (both_ended e) = both_ended e
combines_moved Γ Δ same s o1 o2 o first_ended = first_ended
combines_moved Γ Δ same s o1 o2 o second_ended = second_ended
combines_moved Γ Δ same s o1 o2 o (neither_ended X Y) =
    let P : EventSet → Type 0 = λ S. Combines Δ s (refusing (λ e. X e || (S e && Y e))) (refusing (λ e. X e || (S e && answered Y e))) (refusing X) in subst P (sym same) (neither_ended X Y)

-- ---- a variable

module _ (x : ℕ) (w : Width) (m n : Meaning) (h : Foreign x n) (Γ : Environment) (fresh : Γ x ≡ None) where
  declared_result : (s : Values) (v : ℕ) → v < 2 ^ bits_of w → (t : Trace) (o : Outcome)
      → m.does (with_name Γ x (Var w)) (with_value s x v) t o → WithVariable x w m Γ s t (with_result x (s x) o)
  declared_result s v lt t (ended s1) d = WithVariable.at_end v s1 lt refl d
  declared_result s v lt t (refusing X) d = WithVariable.at_rest v lt d

  beside_out : (s : Values) (v : ℕ) → v < 2 ^ bits_of w → (t : Trace) (o : Outcome)
      → Together m n (with_name Γ x (Var w)) (with_value s x v) t o → Together (over_variable x w m) n Γ s t (with_result x (s x) o)
  beside_out s v lt t o (together t1 t2 o1 o2 weave c d1 d2) =
      let P : Values → Type 0 = λ r. Combines (with_name Γ x (Var w)) r (with_result x (s x) o1) (with_result x (s x) o2) (with_result x (s x) o) in
      together t1 t2 (with_result x (s x) o1) (with_result x (s x) o2) weave
      (combines_moved (with_name Γ x (Var w)) Γ (scope_same Γ x w fresh) s (with_result x (s x) o1) (with_result x (s x) o2) (with_result x (s x) o)
      (subst P (value_again s x v (s x) ∙ value_back s x) (combines_ignore (with_name Γ x (Var w)) (with_value s x v) x (s x) o1 o2 o c)))
      (declared_result s v lt t1 o1 d1) (foreign_out x n h Γ (Var w) s v t2 o2 d2)

  variable_out : (s : Values) (t : Trace) (o : Outcome) → WithVariable x w (beside m n) Γ s t o → Together (over_variable x w m) n Γ s t o
  variable_out s t o (WithVariable.at_end v s1 lt e d) = let P : Values → Type 0 = λ r. Together (over_variable x w m) n Γ s t (ended r) in subst P (sym e) (beside_out s v lt t (ended s1) d)
  variable_out s t o (WithVariable.at_rest {X = X} v lt d) = beside_out s v lt t (refusing X) d

  join_inside : (s a b : Values) (v : ℕ) → b x ≡ s x
      → join s (with_value a x (s x)) b ≡ with_value (join (with_value s x v) a (with_value b x v)) x (s x)
  join_inside s a b v kept = fun_ext (λ z. elim (eqb_tells z x) [
    | inl k ↦ at_name z k.0 k.1
    | inr k ↦ (let P : Bool → Type 0 = λ c. (if (if c then s x else a z) == s z then b z else (if c then s x else a z)) ≡ (if c then s x else (if a z == (if c then v else s z) then (if c then v else b z) else a z)) in subst P (sym k.0) refl)
  ])
    where
      at_name : (z : ℕ) → (z == x) ≡ true → z ≡ x
          → (if (if z == x then s x else a z) == s z then b z else (if z == x then s x else a z)) ≡ (if z == x then s x else (if a z == (if z == x then v else s z) then (if z == x then v else b z) else a z))
      at_name z yes_z same =
          let P : Bool → Type 0 = λ c. (if (if c then s x else a z) == s z then b z else (if c then s x else a z)) ≡ (if c then s x else (if a z == (if c then v else s z) then (if c then v else b z) else a z)) in
          subst P (sym yes_z) (if_true (s x == s z) (b z) (s x) (eq-eqb (s x) (s z) (ap s (sym same))) ∙ (ap b same ∙ kept))

  end_in : (s : Values) (t1 t2 t : Trace) → Weave t1 t2 t → (v : ℕ) → v < 2 ^ bits_of w → (a r : Values) → r ≡ with_value a x (s x)
      → m.does (with_name Γ x (Var w)) (with_value s x v) t1 (ended a) → (o2 o : Outcome) → n.does Γ s t2 o2 → Combines Γ s (ended r) o2 o
      → WithVariable x w (beside m n) Γ s t o
  end_in s t1 t2 t weave v lt a r e d o2 o d2 (both_ended {s2 = b} {s' = u} i) =
      WithVariable.at_end v (join (with_value s x v) a (with_value b x v)) lt (i ∙ (ap (λ q. join s q b) e ∙ join_inside s a b v (h.keeps.value Γ s t2 b d2)))
      (together t1 t2 (ended a) (ended (with_value b x v)) weave (both_ended refl) d (foreign_in x n h Γ (Var w) s v t2 (ended b) d2))
  end_in s t1 t2 t weave v lt a r e d o2 o d2 (first_ended {X = X}) =
      WithVariable.at_rest v lt (together t1 t2 (ended a) (refusing X) weave first_ended d (foreign_in x n h Γ (Var w) s v t2 (refusing X) d2))

  rest_in : (s : Values) (t1 t2 t : Trace) → Weave t1 t2 t → (v : ℕ) → v < 2 ^ bits_of w → (Z : EventSet)
      → m.does (with_name Γ x (Var w)) (with_value s x v) t1 (refusing Z) → (o2 o : Outcome) → n.does Γ s t2 o2
      → Combines Γ s (refusing Z) o2 o → WithVariable x w (beside m n) Γ s t o
  rest_in s t1 t2 t weave v lt Z d o2 o d2 (second_ended {s2 = b} {X = X}) =
      WithVariable.at_rest v lt (together t1 t2 (refusing X) (ended (with_value b x v)) weave second_ended d (foreign_in x n h Γ (Var w) s v t2 (ended b) d2))
  rest_in s t1 t2 t weave v lt Z d o2 o d2 (neither_ended X Y) =
      WithVariable.at_rest v lt (together t1 t2 (refusing (refused_with Γ X Y)) (refusing (refused_with Γ X (answered Y))) weave
      (combines_moved Γ (with_name Γ x (Var w)) (sym (scope_same Γ x w fresh)) (with_value s x v) (refusing (refused_with Γ X Y)) (refusing (refused_with Γ X (answered Y))) (refusing X) (neither_ended X Y))
      d (foreign_in x n h Γ (Var w) s v t2 (refusing (refused_with Γ X (answered Y))) d2))

  beside_in : (s : Values) (t1 t2 t : Trace) (o1 o2 o : Outcome) → Weave t1 t2 t → Combines Γ s o1 o2 o → WithVariable x w m Γ s t1 o1
      → n.does Γ s t2 o2 → WithVariable x w (beside m n) Γ s t o
  beside_in s t1 t2 t o1 o2 o weave c (WithVariable.at_end {s' = r} v a lt e d) d2 = end_in s t1 t2 t weave v lt a r e d o2 o d2 c
  beside_in s t1 t2 t o1 o2 o weave c (WithVariable.at_rest {X = Z} v lt d) d2 = rest_in s t1 t2 t weave v lt Z d o2 o d2 c

  variable_in : (s : Values) (t : Trace) (o : Outcome) → Together (over_variable x w m) n Γ s t o → WithVariable x w (beside m n) Γ s t o
  variable_in s t o (together t1 t2 o1 o2 weave c d1 d2) = beside_in s t1 t2 t o1 o2 o weave c d1 d2

pub variable_of_one_part : (Γ : Environment) (x : ℕ) (w : Width) (p : Tree) (qs : Trees) (Θ : Environment) → Γ x ≡ None
    → all_types_kept qs Θ ≡ true → free_in_some qs x ≡ false
    → SAME Γ (declare x w (par (and_tree p qs))) (par (and_tree (declare x w p) qs))
variable_of_one_part Γ x w p qs Θ fresh t h =
    let f = foreign_part (par qs) Θ t x h in
    let m = meaning p in
    let n = at_the_same_time qs in
    same_by Γ (declare x w (par (and_tree p qs))) (par (and_tree (declare x w p) qs))
    (gives_through Γ (over_variable x w (at_the_same_time (and_tree p qs))) (over_variable x w (beside m n)) (at_the_same_time (and_tree (declare x w p) qs))
    (variable_gives Γ x w (at_the_same_time (and_tree p qs)) (beside m n) (whole_beside (with_name Γ x (Var w)) p qs))
    (gives_through Γ (over_variable x w (beside m n)) (beside (over_variable x w m) n) (at_the_same_time (and_tree (declare x w p) qs))
    (record { gives = λ s r o d. variable_out x w m n f Γ fresh s r o d }) (beside_whole Γ (declare x w p) qs)))
    (gives_through Γ (at_the_same_time (and_tree (declare x w p) qs)) (beside (over_variable x w m) n) (over_variable x w (at_the_same_time (and_tree p qs)))
    (whole_beside Γ (declare x w p) qs)
    (gives_through Γ (beside (over_variable x w m) n) (over_variable x w (beside m n)) (over_variable x w (at_the_same_time (and_tree p qs)))
    (record { gives = λ s r o d. variable_in x w m n f Γ fresh s r o d })
    (variable_gives Γ x w (beside m n) (at_the_same_time (and_tree p qs)) (beside_whole (with_name Γ x (Var w)) p qs))))

-- ---- a channel

silent_first : (c : ℕ) (a b t : Trace) → Weave a b t → is_silent c t ≡ true → is_silent c b ≡ true → is_silent c a ≡ true
silent_first c a b t both_done h k = h
silent_first c a b t (of_first {e = e} {a = y} {b = z} {c = r} v) h k =
    let i = and_parts (not (e.chan.0 == c)) (is_silent c r) h in and_from (not (e.chan.0 == c)) (is_silent c y) i.0 (silent_first c y z r v i.1 k)
silent_first c a b t (of_second {e = e} {a = y} {b = z} {c = r} v) h k =
    silent_first c y z r v (and_parts (not (e.chan.0 == c)) (is_silent c r) h).1 (and_parts (not (e.chan.0 == c)) (is_silent c z) k).1
silent_first c a b t (unseen {e = e} {f = f} {a = y} {b = z} {c = r} i v) h k =
    let j = and_parts (not (f.chan.0 == c)) (is_silent c z) k in
    let P : Event → Type 0 = λ g. not (g.chan.0 == c) ≡ true in
    and_from (not (e.chan.0 == c)) (is_silent c y) (subst P i j.0) (silent_first c y z r v h j.1)

silent_woven : (c : ℕ) (a b t : Trace) → Weave a b t → is_silent c a ≡ true → is_silent c b ≡ true → is_silent c t ≡ true
silent_woven c a b t both_done h k = refl
silent_woven c a b t (of_first {e = e} {a = y} {b = z} {c = r} v) h k = let i = and_parts (not (e.chan.0 == c)) (is_silent c y) h in and_from (not (e.chan.0 == c)) (is_silent c r) i.0 (silent_woven c y z r v i.1 k)
silent_woven c a b t (of_second {e = e} {a = y} {b = z} {c = r} v) h k = let i = and_parts (not (e.chan.0 == c)) (is_silent c z) k in and_from (not (e.chan.0 == c)) (is_silent c r) i.0 (silent_woven c y z r v h i.1)
silent_woven c a b t (unseen {e = e} {f = f} {a = y} {b = z} {c = r} i v) h k =
    silent_woven c y z r v (and_parts (not (e.chan.0 == c)) (is_silent c y) h).1 (and_parts (not (f.chan.0 == c)) (is_silent c z) k).1

-- what the sets come to, event by event: a says whether the event is on the channel
keep_first_out : (a x i i' y : Bool) → (a ≡ false → i' ≡ i) → (not a && (x || (i && y))) ≡ true → ((not a && x) || (i' && y)) ≡ true
keep_first_out true x i i' y same h = false_not_true h
keep_first_out false true i i' y same h = refl
keep_first_out false false i i' y same h = ap (λ b. b && y) (same refl) ∙ h

keep_first_in : (a x i i' y : Bool) → (a ≡ false → i' ≡ i) → ((not a && x) || (i' && (not a && y))) ≡ true → (not a && (x || (i && y))) ≡ true
keep_first_in true x true i' y same h = keep_nothing i' h
  where
    keep_nothing : (b : Bool) → (false || (b && false)) ≡ true → false ≡ true
    keep_nothing true k = k
    keep_nothing false k = k
keep_first_in true x false i' y same h = keep_nothing i' h
  where
    keep_nothing : (b : Bool) → (false || (b && false)) ≡ true → false ≡ true
    keep_nothing true k = k
    keep_nothing false k = k
keep_first_in false true i i' y same h = refl
keep_first_in false false i i' y same h = ap (λ b. b && y) (sym (same refl)) ∙ h

keep_second_out : (a x i i' y : Bool) → (a ≡ false → i' ≡ i) → a ≡ false → (x || (i && y)) ≡ true → ((not a && x) || (i' && y)) ≡ true
keep_second_out true x i i' y same off h = true_not_false off
keep_second_out false true i i' y same off h = refl
keep_second_out false false i i' y same off h = ap (λ b. b && y) (same refl) ∙ h

keep_second_in : (a x i i' y : Bool) → (a ≡ false → i' ≡ i) → a ≡ false → ((not a && x) || (i' && not (not a && y))) ≡ true
    → (x || (i && not y)) ≡ true
keep_second_in true x i i' y same off h = true_not_false off
keep_second_in false true i i' y same off h = refl
keep_second_in false false i i' y same off h = ap (λ b. b && not y) (sym (same refl)) ∙ h

module _ (c : ℕ) (w : Width) (m : Meaning) (hm : Shrinks m) (q : Tree) (Θ : Environment) (types : types_kept q Θ ≡ true) (foreign : free q c ≡ false) (Γ : Environment) where
  scope_off : (e : Event) → (e.chan.0 == c) ≡ false → in_scope (with_name Γ c (Chan w None)) e ≡ in_scope Γ e
  scope_off e off = ap (λ o. has_width (channel_kind o) e.value) (name_off Γ c (Chan w None) e.chan.0 off)

  second_out : (s : Values) (t : Trace) (o : Outcome) → (meaning q).does (with_name Γ c (Chan w None)) s t o → (meaning q).does Γ s t o
  second_out s t o d = (part_moves q Θ types c foreign (with_name Γ c (Chan w None)) Γ (agree_turned c Γ (with_name Γ c (Chan w None)) (declared_off Γ c (Chan w None)))).moved s t o d

  second_in : (s : Values) (t : Trace) (o : Outcome) → (meaning q).does Γ s t o → (meaning q).does (with_name Γ c (Chan w None)) s t o
  second_in s t o d = (part_moves q Θ types c foreign Γ (with_name Γ c (Chan w None)) (declared_off Γ c (Chan w None))).moved s t o d

  second_silent : (Δ : Environment) (s : Values) (t : Trace) (o : Outcome) → (meaning q).does Δ s t o → is_silent c t ≡ true
  second_silent Δ s t o d = silent_unused c (uses_end q) (λ i. no_end q c i foreign) t ((part_uses q Θ types).on_ends Δ s t o d)

  -- the second part refuses what it refused, and all events on the channel
  second_widened : (Δ : Environment) (s : Values) (t : Trace) (X W : EventSet)
      → ((e : Event) → (e.chan.0 == c) ≡ false → W e ≡ true → X e ≡ true) → (meaning q).does Δ s t (refusing X)
      → (meaning q).does Δ s t (refusing W)
  second_widened Δ s t X W sub d = (part_more q Θ types).more Δ s t X W
      (λ e h. elim (eqb_tells e.chan.0 c) [
        | inl k ↦ inr (let P : ℕ → Type 0 = λ b. uses_end q b e.dir ≡ false in subst P (sym k.1) (no_end q c e.dir foreign))
        | inr k ↦ inl (sub e k.0 h)
      ]) d

  outward : (s : Values) (t1 t2 t : Trace) → Weave t1 t2 t → is_silent c t ≡ true → (o1 o2 : Outcome) (X V : EventSet) → V ≡ off_channel c X
      → m.does (with_name Γ c (Chan w None)) s t1 o1 → (meaning q).does (with_name Γ c (Chan w None)) s t2 o2
      → Combines (with_name Γ c (Chan w None)) s o1 o2 (refusing V) → Together (over_channel c w m) (meaning q) Γ s t (refusing X)
  outward s t1 t2 t weave silent o1 o2 X V is d1 d2 (first_ended {s1 = a}) =
      let quiet = silent_first c t1 t2 t weave silent (second_silent (with_name Γ c (Chan w None)) s t2 (refusing V) d2) in
      together t1 t2 (ended a) (refusing X) weave first_ended (WithChannel.at_end quiet d1)
      (second_widened Γ s t2 V X (λ e off h. ap (λ S. S e) is ∙ and_from (not (e.chan.0 == c)) (X e) (not_from_false (e.chan.0 == c) off) h) (second_out s t2 (refusing V) d2))
  outward s t1 t2 t weave silent o1 o2 X V is d1 d2 (second_ended {s2 = b}) =
      let quiet = silent_first c t1 t2 t weave silent (second_silent (with_name Γ c (Chan w None)) s t2 (ended b) d2) in
      let P : EventSet → Type 0 = λ S. m.does (with_name Γ c (Chan w None)) s t1 (refusing S) in
      together t1 t2 (refusing X) (ended b) weave second_ended (WithChannel.at_rest quiet (subst P is d1)) (second_out s t2 (ended b) d2)
  outward s t1 t2 t weave silent o1 o2 X V is d1 d2 (neither_ended Z Y) =
      let Δ : Environment = with_name Γ c (Chan w None) in
      let quiet = silent_first c t1 t2 t weave silent (second_silent Δ s t2 (refusing (refused_with Δ V (answered Y))) d2) in
      let P : EventSet → Type 0 = λ S. m.does Δ s t1 (refusing (refused_with Δ S Y)) in
      let Q : EventSet → Type 0 = λ S. (meaning q).does Δ s t2 (refusing (refused_with Δ S (answered Y))) in
      together t1 t2 (refusing (refused_with Γ X Y)) (refusing (refused_with Γ X (answered Y))) weave (neither_ended X Y)
      (WithChannel.at_rest quiet
      (shrink m hm Δ s t1 (refused_with Δ (off_channel c X) Y) (off_channel c (refused_with Γ X Y))
      (λ e h. keep_first_out (e.chan.0 == c) (X e) (in_scope Γ e) (in_scope Δ e) (Y e) (scope_off e) h) (subst P is d1)))
      (second_widened Γ s t2 (refused_with Δ (off_channel c X) (answered Y)) (refused_with Γ X (answered Y))
      (λ e off h. keep_second_out (e.chan.0 == c) (X e) (in_scope Γ e) (in_scope Δ e) (answered Y e) (scope_off e) off h)
      (second_out s t2 (refusing (refused_with Δ (off_channel c X) (answered Y))) (subst Q is d2)))

  outward_end : (s : Values) (t1 t2 t : Trace) → Weave t1 t2 t → is_silent c t ≡ true → (o1 o2 : Outcome) (r : Values)
      → m.does (with_name Γ c (Chan w None)) s t1 o1 → (meaning q).does (with_name Γ c (Chan w None)) s t2 o2
      → Combines (with_name Γ c (Chan w None)) s o1 o2 (ended r) → Together (over_channel c w m) (meaning q) Γ s t (ended r)
  outward_end s t1 t2 t weave silent o1 o2 r d1 d2 (both_ended {s1 = a} {s2 = b} e) =
      together t1 t2 (ended a) (ended b) weave (both_ended e) (WithChannel.at_end (silent_first c t1 t2 t weave silent (second_silent (with_name Γ c (Chan w None)) s t2 (ended b) d2)) d1) (second_out s t2 (ended b) d2)

  open_rest : (s : Values) (t : Trace) (X : EventSet) → is_silent c t ≡ true
      → Together m (meaning q) (with_name Γ c (Chan w None)) s t (refusing (off_channel c X))
      → Together (over_channel c w m) (meaning q) Γ s t (refusing X)
  open_rest s t X silent (together t1 t2 o1 o2 weave k d1 d2) = outward s t1 t2 t weave silent o1 o2 X (off_channel c X) refl d1 d2 k

  open_end : (s : Values) (t : Trace) (r : Values) → is_silent c t ≡ true
      → Together m (meaning q) (with_name Γ c (Chan w None)) s t (ended r) → Together (over_channel c w m) (meaning q) Γ s t (ended r)
  open_end s t r silent (together t1 t2 o1 o2 weave k d1 d2) = outward_end s t1 t2 t weave silent o1 o2 r d1 d2 k

  channel_out : (s : Values) (t : Trace) (o : Outcome) → WithChannel c w (beside m (meaning q)) Γ s t o
      → Together (over_channel c w m) (meaning q) Γ s t o
  channel_out s t o (WithChannel.at_end {s1 = r} silent d) = open_end s t r silent d
  channel_out s t o (WithChannel.at_rest {X = X} silent d) = open_rest s t X silent d

  inward_end : (s : Values) (t1 t2 t : Trace) → Weave t1 t2 t → is_silent c t1 ≡ true → (a : Values)
      → m.does (with_name Γ c (Chan w None)) s t1 (ended a) → (o2 o : Outcome) → (meaning q).does Γ s t2 o2 → Combines Γ s (ended a) o2 o
      → WithChannel c w (beside m (meaning q)) Γ s t o
  inward_end s t1 t2 t weave silent a d1 o2 o d2 (both_ended {s2 = b} e) =
      WithChannel.at_end (silent_woven c t1 t2 t weave silent (second_silent Γ s t2 (ended b) d2)) (together t1 t2 (ended a) (ended b) weave (both_ended e) d1 (second_in s t2 (ended b) d2))
  inward_end s t1 t2 t weave silent a d1 o2 o d2 (first_ended {X = X}) =
      WithChannel.at_rest (silent_woven c t1 t2 t weave silent (second_silent Γ s t2 (refusing X) d2))
      (together t1 t2 (ended a) (refusing (off_channel c X)) weave first_ended d1
      (shrink (meaning q) (part_shrinks q) (with_name Γ c (Chan w None)) s t2 X (off_channel c X) (λ e h. (and_parts (not (e.chan.0 == c)) (X e) h).1) (second_in s t2 (refusing X) d2)))

  inward_rest : (s : Values) (t1 t2 t : Trace) → Weave t1 t2 t → is_silent c t1 ≡ true → (Z : EventSet)
      → m.does (with_name Γ c (Chan w None)) s t1 (refusing (off_channel c Z)) → (o2 o : Outcome) → (meaning q).does Γ s t2 o2
      → Combines Γ s (refusing Z) o2 o → WithChannel c w (beside m (meaning q)) Γ s t o
  inward_rest s t1 t2 t weave silent Z d1 o2 o d2 (second_ended {s2 = b} {X = X}) =
      WithChannel.at_rest (silent_woven c t1 t2 t weave silent (second_silent Γ s t2 (ended b) d2)) (together t1 t2 (refusing (off_channel c X)) (ended b) weave second_ended d1 (second_in s t2 (ended b) d2))
  inward_rest s t1 t2 t weave silent Z d1 o2 o d2 (neither_ended X Y) =
      let Δ : Environment = with_name Γ c (Chan w None) in
      let V : EventSet = off_channel c Y in
      WithChannel.at_rest (silent_woven c t1 t2 t weave silent (second_silent Γ s t2 (refusing (refused_with Γ X (answered Y))) d2))
      (together t1 t2 (refusing (refused_with Δ (off_channel c X) V)) (refusing (refused_with Δ (off_channel c X) (answered V))) weave (neither_ended (off_channel c X) V)
      (shrink m hm Δ s t1 (off_channel c (refused_with Γ X Y)) (refused_with Δ (off_channel c X) V) (λ e h. keep_first_in (e.chan.0 == c) (X e) (in_scope Γ e) (in_scope Δ e) (Y e) (scope_off e) h) d1)
      (second_widened Δ s t2 (refused_with Γ X (answered Y)) (refused_with Δ (off_channel c X) (answered V))
      (λ e off h. keep_second_in (e.chan.0 == c) (X e) (in_scope Γ e) (in_scope Δ e) (Y (counterpart e)) (scope_off e) off h)
      (second_in s t2 (refusing (refused_with Γ X (answered Y))) d2)))

  closed_in : (s : Values) (t1 t2 t : Trace) (o1 o2 o : Outcome) → Weave t1 t2 t → Combines Γ s o1 o2 o → WithChannel c w m Γ s t1 o1
      → (meaning q).does Γ s t2 o2 → WithChannel c w (beside m (meaning q)) Γ s t o
  closed_in s t1 t2 t o1 o2 o weave k (WithChannel.at_end {s1 = a} silent d) d2 = inward_end s t1 t2 t weave silent a d o2 o d2 k
  closed_in s t1 t2 t o1 o2 o weave k (WithChannel.at_rest {X = Z} silent d) d2 = inward_rest s t1 t2 t weave silent Z d o2 o d2 k

  channel_in : (s : Values) (t : Trace) (o : Outcome) → Together (over_channel c w m) (meaning q) Γ s t o
      → WithChannel c w (beside m (meaning q)) Γ s t o
  channel_in s t o (together t1 t2 o1 o2 weave k d1 d2) = closed_in s t1 t2 t o1 o2 o weave k d1 d2

pub channel_of_one_part : (Γ : Environment) (c : ℕ) (w : Width) (p : Tree) (qs : Trees) (Θ : Environment) → all_types_kept qs Θ ≡ true
    → free_in_some qs c ≡ false → SAME Γ (connect c w (par (and_tree p qs))) (par (and_tree (connect c w p) qs))
channel_of_one_part Γ c w p qs Θ t h =
    let m = meaning p in
    let n = at_the_same_time qs in
    same_by Γ (connect c w (par (and_tree p qs))) (par (and_tree (connect c w p) qs))
    (gives_through Γ (over_channel c w (at_the_same_time (and_tree p qs))) (over_channel c w (beside m n)) (at_the_same_time (and_tree (connect c w p) qs))
    (channel_gives Γ c w (at_the_same_time (and_tree p qs)) (beside m n) (whole_beside (with_name Γ c (Chan w None)) p qs))
    (gives_through Γ (over_channel c w (beside m n)) (beside (over_channel c w m) n) (at_the_same_time (and_tree (connect c w p) qs))
    (record { gives = λ s r o d. channel_out c w m (part_shrinks p) (par qs) Θ t h Γ s r o d }) (beside_whole Γ (connect c w p) qs)))
    (gives_through Γ (at_the_same_time (and_tree (connect c w p) qs)) (beside (over_channel c w m) n) (over_channel c w (at_the_same_time (and_tree p qs)))
    (whole_beside Γ (connect c w p) qs)
    (gives_through Γ (beside (over_channel c w m) n) (over_channel c w (beside m n)) (over_channel c w (at_the_same_time (and_tree p qs)))
    (record { gives = λ s r o d. channel_in c w m (part_shrinks p) (par qs) Θ t h Γ s r o d })
    (channel_gives Γ c w (beside m n) (at_the_same_time (and_tree p qs)) (beside_whole (with_name Γ c (Chan w None)) p qs))))
