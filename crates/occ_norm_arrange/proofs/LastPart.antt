-- A channel declared round a PAR belongs to its last part, where the parts in front don't have its name.
use Rattle.occ_syntax.specs.occ_base.Event.{counterpart}
use Rattle.occ_syntax.specs.occ_base.declared.event.Event.{Event}
use Rattle.occ_syntax.specs.occ_base.declared.width.Width.{Width}
use Rattle.occ_meaning.proofs.Beside.{Gives, gives_through, shrink}
use Rattle.occ_meaning.proofs.Declared.{channel_gives, declared_off}
use Rattle.occ_meaning.proofs.Ends.{part_uses}
use Rattle.occ_meaning.proofs.Facts.{false_not_true, name_off, true_not_false}
use Rattle.occ_meaning.proofs.Free.{no_end}
use Rattle.occ_meaning.proofs.OffNames.{agree_turned, part_moves}
use Rattle.occ_meaning.proofs.Parts.{all_of_beside, beside_all_of}
use Rattle.occ_meaning.proofs.Redeclared.{silent_unused}
use Rattle.occ_meaning.proofs.Refusals.{Shrinks, part_more, part_shrinks}
use Rattle.occ_meaning.specs.Parallel.{all_of}
use Rattle.occ_syntax.specs.Meaning.{Combines, Meaning, Outcome, Together, Weave, WithChannel, answered, at_the_same_time, beside, both_done, both_ended, ended, first_ended, is_silent, meaning, neither_ended, of_first, of_second, off_channel, over_channel, refused_with, refusing, second_ended, together, unseen}
use Rattle.occ_syntax.specs.Names.{free, free_in_some, uses_end}
use Rattle.occ_syntax.specs.Scopes.{Environment, EventSet, Trace, Values, channel_kind, has_width, in_scope, with_name}
use Rattle.occ_syntax.specs.Tree.{Tree, Trees, and_tree, connect, no_tree, par}
use Rattle.occ_syntax.specs.Types.{all_types_kept, types_kept}
use Rattle.occ_syntax.specs.declared.scope.Kind.TheVariants.{Chan}
use Rattle.std.proofs.Common.{Bool, None, ap, false, inl, inr, not, refl, subst, sym, true, ℕ, ◌&&◌, ◌==◌, ◌||◌, ◌∙◌, ◌≡◌}
use Rattle.std.proofs.lemmas.Bool.{and_from, and_parts, not_from_false}
use Rattle.std.proofs.lemmas.Bool.Decides.{eqb_tells}

silent_second : (c : ℕ) (a b t : Trace) → Weave a b t → is_silent c t ≡ true → is_silent c a ≡ true → is_silent c b ≡ true
silent_second c a b t both_done h k = k
silent_second c a b t (of_first {e = e} {a = y} {b = z} {c = r} v) h k =
    silent_second c y z r v (and_parts (not (e.chan.0 == c)) (is_silent c r) h).1 (and_parts (not (e.chan.0 == c)) (is_silent c y) k).1
silent_second c a b t (of_second {e = e} {a = y} {b = z} {c = r} v) h k =
    let i = and_parts (not (e.chan.0 == c)) (is_silent c r) h in and_from (not (e.chan.0 == c)) (is_silent c z) i.0 (silent_second c y z r v i.1 k)
silent_second c a b t (unseen {e = e} {f = f} {a = y} {b = z} {c = r} i v) h k =
    let j = and_parts (not (e.chan.0 == c)) (is_silent c y) k in
    let P : Event → Type 0 = λ g. not (g.chan.0 == c) ≡ true in
    and_from (not (f.chan.0 == c)) (is_silent c z) (subst P (sym i) j.0) (silent_second c y z r v h j.1)

silent_woven : (c : ℕ) (a b t : Trace) → Weave a b t → is_silent c a ≡ true → is_silent c b ≡ true → is_silent c t ≡ true
silent_woven c a b t both_done h k = refl
silent_woven c a b t (of_first {e = e} {a = y} {b = z} {c = r} v) h k = let i = and_parts (not (e.chan.0 == c)) (is_silent c y) h in and_from (not (e.chan.0 == c)) (is_silent c r) i.0 (silent_woven c y z r v i.1 k)
silent_woven c a b t (of_second {e = e} {a = y} {b = z} {c = r} v) h k = let i = and_parts (not (e.chan.0 == c)) (is_silent c z) k in and_from (not (e.chan.0 == c)) (is_silent c r) i.0 (silent_woven c y z r v h i.1)
silent_woven c a b t (unseen {e = e} {f = f} {a = y} {b = z} {c = r} i v) h k =
    silent_woven c y z r v (and_parts (not (e.chan.0 == c)) (is_silent c y) h).1 (and_parts (not (f.chan.0 == c)) (is_silent c z) k).1

-- what the sets come to, event by event: a says whether the event is on the channel
keep_last_out : (a x i i' y : Bool) → (a ≡ false → i' ≡ i) → (not a && (x || (i && y))) ≡ true → ((not a && x) || (i' && y)) ≡ true
keep_last_out true x i i' y same h = false_not_true h
keep_last_out false true i i' y same h = refl
keep_last_out false false i i' y same h = ap (λ b. b && y) (same refl) ∙ h

keep_last_in : (a x i i' y : Bool) → (a ≡ false → i' ≡ i) → ((not a && x) || (i' && not (a || y))) ≡ true → (not a && (x || (i && not y))) ≡ true
keep_last_in true x i true y same h = h
keep_last_in true x i false y same h = h
keep_last_in false true i i' y same h = refl
keep_last_in false false i i' y same h = ap (λ b. b && not y) (sym (same refl)) ∙ h

keep_front_out : (a x i i' y : Bool) → (a ≡ false → i' ≡ i) → a ≡ false → (x || (i && y)) ≡ true → ((not a && x) || (i' && y)) ≡ true
keep_front_out true x i i' y same off h = true_not_false off
keep_front_out false true i i' y same off h = refl
keep_front_out false false i i' y same off h = ap (λ b. b && y) (same refl) ∙ h

keep_front_in : (a x i i' y : Bool) → (a ≡ false → i' ≡ i) → a ≡ false → ((not a && x) || (i' && (a || y))) ≡ true → (x || (i && y)) ≡ true
keep_front_in true x i i' y same off h = true_not_false off
keep_front_in false true i i' y same off h = refl
keep_front_in false false i i' y same off h = ap (λ b. b && y) (sym (same refl)) ∙ h

module _ (c : ℕ) (w : Width) (m : Meaning) (hm : Shrinks m) (q : Tree) (Θ : Environment) (types : types_kept q Θ ≡ true) (foreign : free q c ≡ false) (Γ : Environment) where
  scope_off : (e : Event) → (e.chan.0 == c) ≡ false → in_scope (with_name Γ c (Chan w None)) e ≡ in_scope Γ e
  scope_off e off = ap (λ o. has_width (channel_kind o) e.value) (name_off Γ c (Chan w None) e.chan.0 off)

  front_out : (s : Values) (t : Trace) (o : Outcome) → (meaning q).does (with_name Γ c (Chan w None)) s t o → (meaning q).does Γ s t o
  front_out s t o d = (part_moves q Θ types c foreign (with_name Γ c (Chan w None)) Γ (agree_turned c Γ (with_name Γ c (Chan w None)) (declared_off Γ c (Chan w None)))).moved s t o d

  front_in : (s : Values) (t : Trace) (o : Outcome) → (meaning q).does Γ s t o → (meaning q).does (with_name Γ c (Chan w None)) s t o
  front_in s t o d = (part_moves q Θ types c foreign Γ (with_name Γ c (Chan w None)) (declared_off Γ c (Chan w None))).moved s t o d

  front_silent : (Δ : Environment) (s : Values) (t : Trace) (o : Outcome) → (meaning q).does Δ s t o → is_silent c t ≡ true
  front_silent Δ s t o d = silent_unused c (uses_end q) (λ i. no_end q c i foreign) t ((part_uses q Θ types).on_ends Δ s t o d)

  -- the part in front refuses what it refused, and all events on the channel
  front_widened : (Δ : Environment) (s : Values) (t : Trace) (X W : EventSet)
      → ((e : Event) → (e.chan.0 == c) ≡ false → W e ≡ true → X e ≡ true) → (meaning q).does Δ s t (refusing X)
      → (meaning q).does Δ s t (refusing W)
  front_widened Δ s t X W sub d = (part_more q Θ types).more Δ s t X W
      (λ e h. elim (eqb_tells e.chan.0 c) [
        | inl k ↦ inr (let P : ℕ → Type 0 = λ b. uses_end q b e.dir ≡ false in subst P (sym k.1) (no_end q c e.dir foreign))
        | inr k ↦ inl (sub e k.0 h)
      ]) d

  outward : (s : Values) (t1 t2 t : Trace) → Weave t1 t2 t → is_silent c t ≡ true → (o1 o2 : Outcome) (X V : EventSet) → V ≡ off_channel c X
      → (meaning q).does (with_name Γ c (Chan w None)) s t1 o1 → m.does (with_name Γ c (Chan w None)) s t2 o2
      → Combines (with_name Γ c (Chan w None)) s o1 o2 (refusing V) → Together (meaning q) (over_channel c w m) Γ s t (refusing X)
  outward s t1 t2 t weave silent o1 o2 X V is d1 d2 (first_ended {s1 = a}) =
      let quiet = silent_second c t1 t2 t weave silent (front_silent (with_name Γ c (Chan w None)) s t1 (ended a) d1) in
      let P : EventSet → Type 0 = λ S. m.does (with_name Γ c (Chan w None)) s t2 (refusing S) in
      together t1 t2 (ended a) (refusing X) weave first_ended (front_out s t1 (ended a) d1) (WithChannel.at_rest quiet (subst P is d2))
  outward s t1 t2 t weave silent o1 o2 X V is d1 d2 (second_ended {s2 = b}) =
      let quiet = silent_second c t1 t2 t weave silent (front_silent (with_name Γ c (Chan w None)) s t1 (refusing V) d1) in
      together t1 t2 (refusing X) (ended b) weave second_ended
      (front_widened Γ s t1 V X (λ e off h. ap (λ S. S e) is ∙ and_from (not (e.chan.0 == c)) (X e) (not_from_false (e.chan.0 == c) off) h) (front_out s t1 (refusing V) d1))
      (WithChannel.at_end quiet d2)
  outward s t1 t2 t weave silent o1 o2 X V is d1 d2 (neither_ended Z Y) =
      let Δ : Environment = with_name Γ c (Chan w None) in
      let quiet = silent_second c t1 t2 t weave silent (front_silent Δ s t1 (refusing (refused_with Δ V Y)) d1) in
      let P : EventSet → Type 0 = λ S. m.does Δ s t2 (refusing (refused_with Δ S (answered Y))) in
      let Q : EventSet → Type 0 = λ S. (meaning q).does Δ s t1 (refusing (refused_with Δ S Y)) in
      together t1 t2 (refusing (refused_with Γ X Y)) (refusing (refused_with Γ X (answered Y))) weave (neither_ended X Y)
      (front_widened Γ s t1 (refused_with Δ (off_channel c X) Y) (refused_with Γ X Y)
      (λ e off h. keep_front_out (e.chan.0 == c) (X e) (in_scope Γ e) (in_scope Δ e) (Y e) (scope_off e) off h)
      (front_out s t1 (refusing (refused_with Δ (off_channel c X) Y)) (subst Q is d1)))
      (WithChannel.at_rest quiet
      (shrink m hm Δ s t2 (refused_with Δ (off_channel c X) (answered Y)) (off_channel c (refused_with Γ X (answered Y)))
      (λ e h. keep_last_out (e.chan.0 == c) (X e) (in_scope Γ e) (in_scope Δ e) (answered Y e) (scope_off e) h) (subst P is d2)))

  outward_end : (s : Values) (t1 t2 t : Trace) → Weave t1 t2 t → is_silent c t ≡ true → (o1 o2 : Outcome) (r : Values)
      → (meaning q).does (with_name Γ c (Chan w None)) s t1 o1 → m.does (with_name Γ c (Chan w None)) s t2 o2
      → Combines (with_name Γ c (Chan w None)) s o1 o2 (ended r) → Together (meaning q) (over_channel c w m) Γ s t (ended r)
  outward_end s t1 t2 t weave silent o1 o2 r d1 d2 (both_ended {s1 = a} {s2 = b} e) =
      together t1 t2 (ended a) (ended b) weave (both_ended e) (front_out s t1 (ended a) d1) (WithChannel.at_end (silent_second c t1 t2 t weave silent (front_silent (with_name Γ c (Chan w None)) s t1 (ended a) d1)) d2)

  open_rest : (s : Values) (t : Trace) (X : EventSet) → is_silent c t ≡ true
      → Together (meaning q) m (with_name Γ c (Chan w None)) s t (refusing (off_channel c X))
      → Together (meaning q) (over_channel c w m) Γ s t (refusing X)
  open_rest s t X silent (together t1 t2 o1 o2 weave k d1 d2) = outward s t1 t2 t weave silent o1 o2 X (off_channel c X) refl d1 d2 k

  open_end : (s : Values) (t : Trace) (r : Values) → is_silent c t ≡ true
      → Together (meaning q) m (with_name Γ c (Chan w None)) s t (ended r) → Together (meaning q) (over_channel c w m) Γ s t (ended r)
  open_end s t r silent (together t1 t2 o1 o2 weave k d1 d2) = outward_end s t1 t2 t weave silent o1 o2 r d1 d2 k

  channel_out : (s : Values) (t : Trace) (o : Outcome) → WithChannel c w (beside (meaning q) m) Γ s t o
      → Together (meaning q) (over_channel c w m) Γ s t o
  channel_out s t o (WithChannel.at_end {s1 = r} silent d) = open_end s t r silent d
  channel_out s t o (WithChannel.at_rest {X = X} silent d) = open_rest s t X silent d

  inward_end : (s : Values) (t1 t2 t : Trace) → Weave t1 t2 t → is_silent c t2 ≡ true → (b : Values)
      → m.does (with_name Γ c (Chan w None)) s t2 (ended b) → (o1 o : Outcome) → (meaning q).does Γ s t1 o1 → Combines Γ s o1 (ended b) o
      → WithChannel c w (beside (meaning q) m) Γ s t o
  inward_end s t1 t2 t weave silent b d2 o1 o d1 (both_ended {s1 = a} e) =
      WithChannel.at_end (silent_woven c t1 t2 t weave (front_silent Γ s t1 (ended a) d1) silent) (together t1 t2 (ended a) (ended b) weave (both_ended e) (front_in s t1 (ended a) d1) d2)
  inward_end s t1 t2 t weave silent b d2 o1 o d1 (second_ended {X = X}) =
      WithChannel.at_rest (silent_woven c t1 t2 t weave (front_silent Γ s t1 (refusing X) d1) silent)
      (together t1 t2 (refusing (off_channel c X)) (ended b) weave second_ended
      (shrink (meaning q) (part_shrinks q) (with_name Γ c (Chan w None)) s t1 X (off_channel c X) (λ e h. (and_parts (not (e.chan.0 == c)) (X e) h).1) (front_in s t1 (refusing X) d1)) d2)

  inward_rest : (s : Values) (t1 t2 t : Trace) → Weave t1 t2 t → is_silent c t2 ≡ true → (Z : EventSet)
      → m.does (with_name Γ c (Chan w None)) s t2 (refusing (off_channel c Z)) → (o1 o : Outcome) → (meaning q).does Γ s t1 o1
      → Combines Γ s o1 (refusing Z) o → WithChannel c w (beside (meaning q) m) Γ s t o
  inward_rest s t1 t2 t weave silent Z d2 o1 o d1 (first_ended {s1 = a} {X = X}) =
      WithChannel.at_rest (silent_woven c t1 t2 t weave (front_silent Γ s t1 (ended a) d1) silent) (together t1 t2 (ended a) (refusing (off_channel c X)) weave first_ended (front_in s t1 (ended a) d1) d2)
  inward_rest s t1 t2 t weave silent Z d2 o1 o d1 (neither_ended X Y) =
      let Δ : Environment = with_name Γ c (Chan w None) in
      let V : EventSet = λ e. (e.chan.0 == c) || Y e in
      WithChannel.at_rest (silent_woven c t1 t2 t weave (front_silent Γ s t1 (refusing (refused_with Γ X Y)) d1) silent)
      (together t1 t2 (refusing (refused_with Δ (off_channel c X) V)) (refusing (refused_with Δ (off_channel c X) (answered V))) weave (neither_ended (off_channel c X) V)
      (front_widened Δ s t1 (refused_with Γ X Y) (refused_with Δ (off_channel c X) V)
      (λ e off h. keep_front_in (e.chan.0 == c) (X e) (in_scope Γ e) (in_scope Δ e) (Y e) (scope_off e) off h)
      (front_in s t1 (refusing (refused_with Γ X Y)) d1))
      (shrink m hm Δ s t2 (off_channel c (refused_with Γ X (answered Y))) (refused_with Δ (off_channel c X) (answered V))
      (λ e h. keep_last_in (e.chan.0 == c) (X e) (in_scope Γ e) (in_scope Δ e) (Y (counterpart e)) (scope_off e) h) d2))

  closed_in : (s : Values) (t1 t2 t : Trace) (o1 o2 o : Outcome) → Weave t1 t2 t → Combines Γ s o1 o2 o → (meaning q).does Γ s t1 o1
      → WithChannel c w m Γ s t2 o2 → WithChannel c w (beside (meaning q) m) Γ s t o
  closed_in s t1 t2 t o1 o2 o weave k d1 (WithChannel.at_end {s1 = b} silent d) = inward_end s t1 t2 t weave silent b d o1 o d1 k
  closed_in s t1 t2 t o1 o2 o weave k d1 (WithChannel.at_rest {X = Z} silent d) = inward_rest s t1 t2 t weave silent Z d o1 o d1 k

  channel_in : (s : Values) (t : Trace) (o : Outcome) → Together (meaning q) (over_channel c w m) Γ s t o
      → WithChannel c w (beside (meaning q) m) Γ s t o
  channel_in s t o (together t1 t2 o1 o2 weave k d1 d2) = closed_in s t1 t2 t o1 o2 o weave k d1 d2

pub channel_of_last_out : (Γ : Environment) (c : ℕ) (w : Width) (qs : Trees) (p : Tree) (Θ : Environment) → all_types_kept qs Θ ≡ true
    → free_in_some qs c ≡ false
    → Gives Γ (meaning (connect c w (par (all_of qs (and_tree p no_tree))))) (meaning (par (all_of qs (and_tree (connect c w p) no_tree))))
channel_of_last_out Γ c w qs p Θ t h =
    let m = meaning p in
    let n = at_the_same_time qs in
    let whole = at_the_same_time (all_of qs (and_tree p no_tree)) in
    let apart = at_the_same_time (all_of qs (and_tree (connect c w p) no_tree)) in
    gives_through Γ (over_channel c w whole) (over_channel c w (beside n m)) apart
    (channel_gives Γ c w whole (beside n m) (all_of_beside (with_name Γ c (Chan w None)) qs (and_tree p no_tree)))
    (gives_through Γ (over_channel c w (beside n m)) (beside n (over_channel c w m)) apart
    (record { gives = λ s r o d. channel_out c w m (part_shrinks p) (par qs) Θ t h Γ s r o d }) (beside_all_of Γ qs (and_tree (connect c w p) no_tree)))

pub channel_of_last_in : (Γ : Environment) (c : ℕ) (w : Width) (qs : Trees) (p : Tree) (Θ : Environment) → all_types_kept qs Θ ≡ true
    → free_in_some qs c ≡ false
    → Gives Γ (meaning (par (all_of qs (and_tree (connect c w p) no_tree)))) (meaning (connect c w (par (all_of qs (and_tree p no_tree)))))
channel_of_last_in Γ c w qs p Θ t h =
    let m = meaning p in
    let n = at_the_same_time qs in
    let whole = at_the_same_time (all_of qs (and_tree p no_tree)) in
    let apart = at_the_same_time (all_of qs (and_tree (connect c w p) no_tree)) in
    gives_through Γ apart (beside n (over_channel c w m)) (over_channel c w whole) (all_of_beside Γ qs (and_tree (connect c w p) no_tree))
    (gives_through Γ (beside n (over_channel c w m)) (over_channel c w (beside n m)) (over_channel c w whole)
    (record { gives = λ s r o d. channel_in c w m (part_shrinks p) (par qs) Θ t h Γ s r o d })
    (channel_gives Γ c w (beside n m) whole (beside_all_of (with_name Γ c (Chan w None)) qs (and_tree p no_tree))))
