-- Two parts side by side, by the nodes of both.
use Rattle.std.proofs.Common.{◌≡◌, ℕ, ◌+◌, ◌%◌, ◌^◌, ◌<◌, ◌==◌, ◌&&◌, ◌||◌, ◌⊎◌, inl, inr, min, not, Bool, true, false, cond, List, [], ◌∷◌, Option, Some, ⊎_elim, refl, sym, ap, ◌∙◌, subst, arith}
use Rattle.std.specs.Prelude.{◌↔◌}
use Rattle.std.specs.Int.{bit_at}
use Rattle.std.specs.List.{list_all}
use Rattle.std.proofs.lemmas.Bool.{and_from, and_parts, cases_Bool, cond_both, eqb-true, eq-eqb, not-true, or_cases, or_left, or_right, false≢true}
use Rattle.std.proofs.lemmas.Nat.{xor_lt}
use Rattle.std.proofs.lemmas.Nat.Bits.{bit_at_and, bit_at_xor}
use Rattle.std.specs.Int.Bits.{bit_and, bit_xor}
use mathlib.Core.Path.{fun_ext}
use Rattle.occ_syntax.specs.occ_base.Event.{counterpart}
use Rattle.occ_syntax.specs.occ_base.Width.{bits_of}
use Rattle.occ_syntax.specs.occ_base.declared.event.Dir.{Dir}
use Rattle.occ_syntax.specs.occ_base.declared.event.Event.{Event}
use Rattle.occ_syntax.specs.occ_base.declared.names.Name.{Name}
use Rattle.occ_syntax.specs.occ_base.declared.width.Width.{Width}
use Rattle.occ_norm_frame.specs.occ_bits.Layout.{entry_of, state_of}
use Rattle.occ_norm_frame.proofs.from_bits.Laid.{found_within}
use Rattle.occ_norm_frame.proofs.from_dd.Bits.{bit_cases, is_one, is_zero}
use Rattle.occ_norm_frame.proofs.from_meaning.Ends.{part_uses}
use Rattle.occ_norm_frame.proofs.from_meaning.Free.{not_written}
use Rattle.occ_norm_frame.proofs.from_meaning.Interface.{part_stays}
use Rattle.occ_norm_frame.proofs.from_meaning.Refusals.{Extends as Widens, part_more}
use Rattle.occ_norm_frame.specs.occ_meaning.Foundation.{AreWithin}
use Rattle.occ_norm_frame.specs.occ_mdd.Maps.{value}
use Rattle.occ_norm_frame.specs.occ_mdd.declared.map.MapId.{MapId}
use Rattle.occ_norm_frame.specs.occ_node.World.{ends, fails}
use Rattle.occ_norm_frame.specs.occ_node.declared.node.NodeId.{NodeId}
use Rattle.occ_norm_frame.specs.occ_node.declared.world.World.{World}
use Rattle.occ_norm_frame.specs.occ_follow.Sequence.{HasNodes}
use Rattle.occ_norm_frame.specs.Lifted.{IsWovenOf, OnTwo}
use Rattle.occ_norm_frame.specs.Maps.{Lifts}
use Rattle.occ_syntax.specs.Meaning.{Combines, Outcome, Together, Weave, answered, both_ended, ended, ends as part_ends, fails as part_fails, first_ended, join, meaning, neither_ended, refused_with, refusing, second_ended, together}
use Rattle.occ_syntax.specs.Names.{uses_end, written}
use Rattle.occ_syntax.specs.Scopes.{Environment, EventSet, Trace, Values, in_scope}
use Rattle.occ_syntax.specs.Tree.{Tree}
use Rattle.occ_syntax.specs.Types.{types_kept}
use Rattle.occ_syntax.specs.Usage.{IsSeparate}
use Rattle.occ_syntax.specs.declared.scope.Kind.{Kind}
use Rattle.occ_norm_frame.specs.occ_weave.Weave.{BothFail, IsEventSet, IsJoined, WovenEnds, WovenFails, first_ended as first_has_ended, second_ended as second_has_ended, neither_ended as neither_has_ended, is_open, is_silent_on, off_channels}
use Rattle.occ_norm_frame.proofs.from_weave.Freeing.{joining, joining_is, joining_lt}
use Rattle.occ_norm_frame.proofs.After.{layout_state}
use Rattle.occ_norm_frame.proofs.Placing.{frame_layout}
use Rattle.occ_norm_frame.specs.Alone.{AreChanged, IsPart}
use Rattle.occ_norm_frame.specs.Placed.{IsAround, IsFrame}
use Rattle.occ_norm_frame.proofs.Alone.{and_below}
use Rattle.occ_norm_par.specs.Sides.{AreWritten}
use Rattle.occ_norm_par.proofs.Assignments.{end_state, value_by_bits, value_kept}
use Rattle.occ_norm_par.proofs.Silent.{silent_all, silent_each, silent_first, silent_second, silent_unused, silent_woven}

all_within : (E : EventSet) (t : Trace) → AreWithin E t → list_all E t ≡ true
all_within E [] h = refl
all_within E (e ∷ t) h = and_from (E e) (list_all E t) h.0 (all_within E t h.1)

second_by : (s b y : Bool) → not (s && (not b || y)) ≡ true → (s ≡ false) ⊎ ((b ≡ true) × (not y ≡ true))
second_by true true y h = inr (refl, h)
second_by true false y h = absurd (false≢true h)
second_by false b y h = inl refl

at_first : (s a b : ℕ) → b ≡ s → cond (a == s) b a ≡ a
at_first s a b e = cond_both (a == s) b a (λ n. n ≡ a) (λ t. e ∙ sym (eqb-true a s t)) (λ t. refl)

at_second : (s a b : ℕ) → a ≡ s → cond (a == s) b a ≡ b
at_second s a b e = ap (λ c. cond c b a) (eq-eqb a s e)

-- both have ended, with the changes of the kept bits and the values of others
record BothStop (layout : List (Name × Width × ℕ)) (whole keep : ℕ) (all : List Name) (behaves : Values → Type 0) (x : ℕ) (t : Trace) (z : ℕ) : Type 0 where
  y : ℕ
  low : y < 2 ^ 64
  quiet : is_silent_on all t ≡ true
  does : behaves (state_of layout y)
  changed : AreChanged whole (bit_and x keep) y z

-- ---- what the parts are
module _ (vars : List (Name × Kind)) (layout : List (Name × Width × ℕ)) (bits : ℕ) (frame : IsFrame vars layout bits) (Γ : Environment) (around : IsAround Γ vars)
    (p q : Tree) (typed : types_kept p Γ ≡ true) (typed2 : types_kept q Γ ≡ true)
    (all sole shared behind : List Name) (opens : (e : Event) → is_open all e ≡ (is_open sole e && (is_open shared e && is_open behind e)))
    (sole_off : (e : Event) → is_open sole e ≡ false → (d : Dir) → uses_end q e.chan.0 d ≡ false)
    (behind_off : (e : Event) → is_open behind e ≡ false → (d : Dir) → uses_end p e.chan.0 d ≡ false) where
  open_each : (e : Event) → is_open all e ≡ true → (is_open sole e ≡ true) × (is_open shared e ≡ true) × (is_open behind e ≡ true)
  open_each e h =
      let s = and_parts (is_open sole e) (is_open shared e && is_open behind e) (sym (opens e) ∙ h) in
      let r = and_parts (is_open shared e) (is_open behind e) s.1 in
      (s.0, r.0, r.1)

  open_all : (e : Event) → is_open sole e ≡ true → is_open shared e ≡ true → is_open behind e ≡ true → is_open all e ≡ true
  open_all e h k l = opens e ∙ and_from (is_open sole e) (is_open shared e && is_open behind e) h (and_from (is_open shared e) (is_open behind e) k l)

  -- ---- refusals where one of the two has ended
  within_all : (X : EventSet) (e : Event) → off_channels all X e ≡ true → (is_open sole e ≡ true) × (is_open shared e ≡ true) × (is_open behind e ≡ true) × (X e ≡ true)
  within_all X e h =
      let a = and_parts (is_open all e) (X e) h in
      let o = open_each e a.0 in
      (o.0, o.1, o.2, a.1)

  first_out : (X : EventSet) → Widens (uses_end p) (off_channels sole (off_channels shared X)) (off_channels all X)
  first_out X e h = let a = within_all X e h in inl (and_from (is_open sole e) (is_open shared e && X e) a.0 (and_from (is_open shared e) (X e) a.1 a.3))

  second_out : (X : EventSet) → Widens (uses_end q) (off_channels behind (off_channels shared X)) (off_channels all X)
  second_out X e h = let a = within_all X e h in inl (and_from (is_open behind e) (is_open shared e && X e) a.2 (and_from (is_open shared e) (X e) a.1 a.3))

  -- an event of the first part's refusal is on none of the channels, or on one that it doesn't use
  first_back : (X : EventSet) (e : Event) → is_open sole e ≡ true → (is_open shared e && X e) ≡ true → (off_channels all X e ≡ true) ⊎ (uses_end p e.chan.0 e.dir ≡ false)
  first_back X e s h =
      let r = and_parts (is_open shared e) (X e) h in
      ⊎_elim
      (λ (b : is_open behind e ≡ true). inl (and_from (is_open all e) (X e) (open_all e s r.0 b) r.1))
      (λ (b : is_open behind e ≡ false). inr (behind_off e b e.dir))
      (cases_Bool (is_open behind e))

  second_back : (X : EventSet) (e : Event) → is_open behind e ≡ true → (is_open shared e && X e) ≡ true → (off_channels all X e ≡ true) ⊎ (uses_end q e.chan.0 e.dir ≡ false)
  second_back X e b h =
      let r = and_parts (is_open shared e) (X e) h in
      ⊎_elim
      (λ (s : is_open sole e ≡ true). inl (and_from (is_open all e) (X e) (open_all e s r.0 b) r.1))
      (λ (s : is_open sole e ≡ false). inr (sole_off e s e.dir))
      (cases_Bool (is_open sole e))

  first_in : (X : EventSet) → Widens (uses_end p) (off_channels all X) (off_channels sole (off_channels shared X))
  first_in X e h = let a = and_parts (is_open sole e) (is_open shared e && X e) h in first_back X e a.0 a.1

  second_in : (X : EventSet) → Widens (uses_end q) (off_channels all X) (off_channels behind (off_channels shared X))
  second_in X e h = let a = and_parts (is_open behind e) (is_open shared e && X e) h in second_back X e a.0 a.1

  -- ---- refusals where neither has ended
  both_in : (a b : Bool) {P Q : Type 0} → (a ≡ true → P ⊎ Q) → (b ≡ true → P ⊎ Q) → (a || b) ≡ true → P ⊎ Q
  both_in a b f g h = ⊎_elim f g (or_cases a b h)

  -- on the first part's own channels the others refuse all, on those of the others the first does
  abbrev split : EventSet → EventSet
  split Y = λ e. is_open sole e && (not (is_open behind e) || Y e)

  first_split : (X Y : EventSet) → Widens (uses_end p) (off_channels sole (refused_with Γ (off_channels shared X) Y)) (refused_with Γ (off_channels all X) (split Y))
  first_split X Y e h = both_in (off_channels all X e) (in_scope Γ e && split Y e)
      (λ k. let a = within_all X e k in
      inl (and_from (is_open sole e) _ a.0 (or_left (is_open shared e && X e) (in_scope Γ e && Y e) (and_from (is_open shared e) (X e) a.1 a.3))))
      (λ k. let a = and_parts (in_scope Γ e) (split Y e) k in
      let s = and_parts (is_open sole e) (not (is_open behind e) || Y e) a.1 in
      both_in (not (is_open behind e)) (Y e)
      (λ b. inr (behind_off e (not-true (is_open behind e) b) e.dir))
      (λ y. inl (and_from (is_open sole e) _ s.0 (or_right (is_open shared e && X e) (in_scope Γ e && Y e) (and_from (in_scope Γ e) (Y e) a.0 y))))
      s.1)
      h

  second_split : (X Y : EventSet) → Widens (uses_end q) (off_channels behind (refused_with Γ (off_channels shared X) (answered Y))) (refused_with Γ (off_channels all X) (answered (split Y)))
  second_split X Y e h = both_in (off_channels all X e) (in_scope Γ e && answered (split Y) e)
      (λ k. let a = within_all X e k in
      inl (and_from (is_open behind e) _ a.2 (or_left (is_open shared e && X e) (in_scope Γ e && answered Y e) (and_from (is_open shared e) (X e) a.1 a.3))))
      (λ k. let a = and_parts (in_scope Γ e) (answered (split Y) e) k in
      ⊎_elim
      (λ (s : is_open sole e ≡ false). inr (sole_off e s e.dir))
      (λ (s : (is_open behind e ≡ true) × (not (Y (counterpart e)) ≡ true)). inl (and_from (is_open behind e) _ s.0
      (or_right (is_open shared e && X e) (in_scope Γ e && answered Y e) (and_from (in_scope Γ e) (answered Y e) a.0 s.1))))
      (second_by (is_open sole e) (is_open behind e) (Y (counterpart e)) a.1))
      h

  first_joined : (X Y : EventSet) → Widens (uses_end p) (refused_with Γ (off_channels all X) Y) (off_channels sole (refused_with Γ (off_channels shared X) Y))
  first_joined X Y e h =
      let a = and_parts (is_open sole e) ((is_open shared e && X e) || (in_scope Γ e && Y e)) h in
      ⊎_elim
      (λ (k : (is_open shared e && X e) ≡ true). ⊎_elim
      (λ (o : off_channels all X e ≡ true). inl (or_left (off_channels all X e) (in_scope Γ e && Y e) o)) (λ (u : uses_end p e.chan.0 e.dir ≡ false). inr u) (first_back X e a.0 k))
      (λ (k : (in_scope Γ e && Y e) ≡ true). inl (or_right (off_channels all X e) (in_scope Γ e && Y e) k))
      (or_cases (is_open shared e && X e) (in_scope Γ e && Y e) a.1)

  second_joined : (X Y : EventSet) → Widens (uses_end q) (refused_with Γ (off_channels all X) Y) (off_channels behind (refused_with Γ (off_channels shared X) Y))
  second_joined X Y e h =
      let a = and_parts (is_open behind e) ((is_open shared e && X e) || (in_scope Γ e && Y e)) h in
      ⊎_elim
      (λ (k : (is_open shared e && X e) ≡ true). ⊎_elim
      (λ (o : off_channels all X e ≡ true). inl (or_left (off_channels all X e) (in_scope Γ e && Y e) o)) (λ (u : uses_end q e.chan.0 e.dir ≡ false). inr u) (second_back X e a.0 k))
      (λ (k : (in_scope Γ e && Y e) ≡ true). inl (or_right (off_channels all X e) (in_scope Γ e && Y e) k))
      (or_cases (is_open shared e && X e) (in_scope Γ e && Y e) a.1)

  more_first : (s : Values) (t : Trace) (X W : EventSet) → Widens (uses_end p) X W → part_fails Γ p s t X → part_fails Γ p s t W
  more_first s t X W h d = (part_more p Γ typed).more Γ s t X W h d

  more_second : (s : Values) (t : Trace) (X W : EventSet) → Widens (uses_end q) X W → part_fails Γ q s t X → part_fails Γ q s t W
  more_second s t X W h d = (part_more q Γ typed2).more Γ s t X W h d

  -- ---- traces
  quiet_first : (s : Values) (t : Trace) (o : Outcome) → (meaning p).does Γ s t o → is_silent_on behind t ≡ true
  quiet_first s t o d = silent_unused (uses_end p) behind (λ e h. behind_off e h e.dir) t ((part_uses p Γ typed).on_ends Γ s t o d)

  quiet_second : (s : Values) (t : Trace) (o : Outcome) → (meaning q).does Γ s t o → is_silent_on sole t ≡ true
  quiet_second s t o d = silent_unused (uses_end q) sole (λ e h. sole_off e h e.dir) t ((part_uses q Γ typed2).on_ends Γ s t o d)

  quiet_both : (s : Values) (t1 t2 t : Trace) (o1 o2 : Outcome) → Weave t1 t2 t → (meaning p).does Γ s t1 o1 → (meaning q).does Γ s t2 o2
      → is_silent_on sole t1 ≡ true → is_silent_on behind t2 ≡ true → is_silent_on shared t ≡ true → is_silent_on all t ≡ true
  quiet_both s t1 t2 t o1 o2 w d1 d2 h k l = silent_all all sole shared behind opens t
      (silent_woven sole t1 t2 t w h (quiet_second s t2 o2 d2)) l (silent_woven behind t1 t2 t w (quiet_first s t1 o1 d1) k)

  -- ---- the nodes of both
  module _ (w : World) (whole keep1 keep2 keep written_bits : ℕ) (small : written_bits < 2 ^ 64) (splits : IsJoined written_bits keep1 keep2 keep) (writes : AreWritten layout p written_bits) (apart : IsSeparate p q)
      (m1 m2 : MapId) (is1 : IsPart w layout whole keep1 sole Γ p m1) (is2 : IsPart w layout whole keep2 behind Γ q m2) where
    -- ---- the values of a variable in a state that is joined by bits
    within_word : (v : ℕ) (width : Width) (f k : ℕ) → entry_of layout v ≡ Some (width, f) → k < f + bits_of width → k < 64
    within_word v width f k found u = omega (arith, found_within layout (frame_layout vars layout bits frame) v width f found, u)

    bit_one : (y1 y2 k : ℕ) → k < 64 → bit_at written_bits k ≡ 1 → bit_at (joining written_bits y1 y2) k ≡ bit_at y1 k
    bit_one y1 y2 k l one = joining_is written_bits y1 y2 k l ∙ ap (λ c. cond c (bit_at y1 k) (bit_at y2 k)) (is_one written_bits k one)

    bit_two : (y1 y2 k : ℕ) → k < 64 → bit_at written_bits k ≡ 0 → bit_at (joining written_bits y1 y2) k ≡ bit_at y2 k
    bit_two y1 y2 k l none = joining_is written_bits y1 y2 k l ∙ ap (λ c. cond c (bit_at y1 k) (bit_at y2 k)) (is_zero written_bits k none)

    value_one : (y1 y2 v : ℕ) → written p v ≡ true → state_of layout (joining written_bits y1 y2) v ≡ state_of layout y1 v
    value_one y1 y2 v h = value_by_bits layout (joining written_bits y1 y2) y1 v
        (λ width f found k l u. bit_one y1 y2 k (within_word v width f k found u) (writes.at v width f found k l u ∙ ap (λ c. cond c 1 0) h))

    value_two : (y1 y2 v : ℕ) → written p v ≡ false → state_of layout (joining written_bits y1 y2) v ≡ state_of layout y2 v
    value_two y1 y2 v h = value_by_bits layout (joining written_bits y1 y2) y2 v
        (λ width f found k l u. bit_two y1 y2 k (within_word v width f k found u) (writes.at v width f found k l u ∙ ap (λ c. cond c 1 0) h))

    module _ (x : ℕ) (t1 t2 : Trace) (s1 s2 : Values) (d1 : part_ends Γ p (state_of layout x) t1 s1) (d2 : part_ends Γ q (state_of layout x) t2 s2) where
      kept_two : (v : ℕ) → written p v ≡ true → s2 v ≡ state_of layout x v
      kept_two v h = value_kept vars layout bits frame Γ around q typed2 v (not_written q v (apart.first_writes v h)) (state_of layout x) t2 s2 d2

      kept_one : (v : ℕ) → written p v ≡ false → s1 v ≡ state_of layout x v
      kept_one v h = value_kept vars layout bits frame Γ around p typed v h (state_of layout x) t1 s1 d1

      join_one : (v : ℕ) → written p v ≡ true → join (state_of layout x) s1 s2 v ≡ s1 v
      join_one v h = at_first (state_of layout x v) (s1 v) (s2 v) (kept_two v h)

      join_two : (v : ℕ) → written p v ≡ false → join (state_of layout x) s1 s2 v ≡ s2 v
      join_two v h = at_second (state_of layout x v) (s1 v) (s2 v) (kept_one v h)

      end_joined : (y1 y2 : ℕ) → s1 ≡ state_of layout y1 → s2 ≡ state_of layout y2 → state_of layout (joining written_bits y1 y2) ≡ join (state_of layout x) s1 s2
      end_joined y1 y2 e1 e2 = fun_ext (λ v. ⊎_elim
          (λ (h : written p v ≡ true). value_one y1 y2 v h ∙ sym (join_one v h ∙ ap (λ s. s v) e1))
          (λ (h : written p v ≡ false). value_two y1 y2 v h ∙ sym (join_two v h ∙ ap (λ s. s v) e2))
          (cases_Bool (written p v)))

      module _ (y : ℕ) (e : state_of layout y ≡ join (state_of layout x) s1 s2) where
        end_one : s1 ≡ state_of layout (joining written_bits y x)
        end_one = fun_ext (λ v. ⊎_elim
            (λ (h : written p v ≡ true). sym (join_one v h) ∙ sym (ap (λ s. s v) e) ∙ sym (value_one y x v h))
            (λ (h : written p v ≡ false). kept_one v h ∙ sym (value_two y x v h))
            (cases_Bool (written p v)))

        end_two : s2 ≡ state_of layout (joining written_bits x y)
        end_two = fun_ext (λ v. ⊎_elim
            (λ (h : written p v ≡ true). kept_two v h ∙ sym (value_one x y v h))
            (λ (h : written p v ≡ false). sym (join_two v h) ∙ sym (ap (λ s. s v) e) ∙ sym (value_two x y v h))
            (cases_Bool (written p v)))

    -- ---- their changes
    kept_one_bit : (x i : ℕ) → i < 64 → bit_at written_bits i ≡ 1 → bit_at (bit_and x keep) i ≡ bit_at (bit_and x keep1) i
    kept_one_bit x i l o = bit_at_and x keep i ∙ ap (min (bit_at x i)) (splits i l ∙ ap (λ c. cond c (bit_at keep1 i) (bit_at keep2 i)) (is_one written_bits i o)) ∙ sym (bit_at_and x keep1 i)

    kept_two_bit : (x i : ℕ) → i < 64 → bit_at written_bits i ≡ 0 → bit_at (bit_and x keep) i ≡ bit_at (bit_and x keep2) i
    kept_two_bit x i l n = bit_at_and x keep i ∙ ap (min (bit_at x i)) (splits i l ∙ ap (λ c. cond c (bit_at keep1 i) (bit_at keep2 i)) (is_zero written_bits i n)) ∙ sym (bit_at_and x keep2 i)

    change_joined : (x x1 x2 y1 y2 z : ℕ) → IsJoined written_bits x1 x2 z → AreChanged whole (bit_and x keep1) y1 x1 → AreChanged whole (bit_and x keep2) y2 x2
        → AreChanged whole (bit_and x keep) (joining written_bits y1 y2) z
    change_joined x x1 x2 y1 y2 z j h k i l one = ⊎_elim
        (λ (n : bit_at written_bits i ≡ 0). j i l ∙ ap (λ c. cond c (bit_at x1 i) (bit_at x2 i)) (is_zero written_bits i n) ∙ k i l one
        ∙ (λ d. (sym (kept_two_bit x i l n) d + sym (bit_two y1 y2 i l n) d) % 2))
        (λ (o : bit_at written_bits i ≡ 1). j i l ∙ ap (λ c. cond c (bit_at x1 i) (bit_at x2 i)) (is_one written_bits i o) ∙ h i l one
        ∙ (λ d. (sym (kept_one_bit x i l o) d + sym (bit_one y1 y2 i l o) d) % 2))
        (bit_cases written_bits i)

    -- what an end without changes says
    abbrev unchanged : ℕ → ℕ → ℕ
    unchanged kept x = bit_xor (bit_and x kept) x

    unchanged_lt : (kept x : ℕ) → x < 2 ^ 64 → unchanged kept x < 2 ^ 64
    unchanged_lt kept x h = xor_lt 64 (bit_and x kept) x (and_below x kept h) h

    change_one : (x y z : ℕ) → AreChanged whole (bit_and x keep) y z → AreChanged whole (bit_and x keep1) (joining written_bits y x) (joining written_bits z (unchanged keep1 x))
    change_one x y z h i l one = ⊎_elim
        (λ (n : bit_at written_bits i ≡ 0). bit_two z (unchanged keep1 x) i l n ∙ bit_at_xor (bit_and x keep1) x i ∙ ap (λ m. (bit_at (bit_and x keep1) i + m) % 2) (sym (bit_two y x i l n)))
        (λ (o : bit_at written_bits i ≡ 1). bit_one z (unchanged keep1 x) i l o ∙ h i l one ∙ (λ d. (kept_one_bit x i l o d + sym (bit_one y x i l o) d) % 2))
        (bit_cases written_bits i)

    change_two : (x y z : ℕ) → AreChanged whole (bit_and x keep) y z → AreChanged whole (bit_and x keep2) (joining written_bits x y) (joining written_bits (unchanged keep2 x) z)
    change_two x y z h i l one = ⊎_elim
        (λ (n : bit_at written_bits i ≡ 0). bit_two (unchanged keep2 x) z i l n ∙ h i l one ∙ (λ d. (kept_two_bit x i l n d + sym (bit_two x y i l n) d) % 2))
        (λ (o : bit_at written_bits i ≡ 1). bit_one (unchanged keep2 x) z i l o ∙ bit_at_xor (bit_and x keep2) x i ∙ ap (λ m. (bit_at (bit_and x keep2) i + m) % 2) (sym (bit_one x y i l o)))
        (bit_cases written_bits i)

    joined_again : (z c1 c2 : ℕ) → IsJoined written_bits (joining written_bits z c1) (joining written_bits c2 z) z
    joined_again z c1 c2 i l = ⊎_elim
        (λ (n : bit_at written_bits i ≡ 0). sym (ap (λ c. cond c (bit_at (joining written_bits z c1) i) (bit_at (joining written_bits c2 z) i)) (is_zero written_bits i n) ∙ bit_two c2 z i l n))
        (λ (o : bit_at written_bits i ≡ 1). sym (ap (λ c. cond c (bit_at (joining written_bits z c1) i) (bit_at (joining written_bits c2 z) i)) (is_one written_bits i o) ∙ bit_one z c1 i l o))
        (bit_cases written_bits i)

    module _ (x : ℕ) (below : x < 2 ^ 64) (a b r : NodeId) (at1 : value w.maps m1 x ≡ Some a) (at2 : value w.maps m2 x ≡ Some b) (of : IsWovenOf w written_bits shared a b r) where
      abbrev s0 : Values
      s0 = state_of layout x

      events : IsEventSet w (in_scope Γ) a b
      events = record {
        counterparts = λ e. refl;
        first = record {
          of_failures = λ t X f. all_within (in_scope Γ) t ((part_stays p Γ typed).within s0 t (refusing (off_channels sole X)) (layout_state vars layout bits frame Γ around x) ((is1.alone_fails x a below at1 t X).0 f).1);
          of_ends = λ t z l f. let d = (is1.alone_ends x a below at1 t z l).0 f in
              all_within (in_scope Γ) t ((part_stays p Γ typed).within s0 t (ended (state_of layout d.y)) (layout_state vars layout bits frame Γ around x) d.ended);
        };
        second = record {
          of_failures = λ t X f. all_within (in_scope Γ) t ((part_stays q Γ typed2).within s0 t (refusing (off_channels behind X)) (layout_state vars layout bits frame Γ around x) ((is2.alone_fails x b below at2 t X).0 f).1);
          of_ends = λ t z l f. let d = (is2.alone_ends x b below at2 t z l).0 f in
              all_within (in_scope Γ) t ((part_stays q Γ typed2).within s0 t (ended (state_of layout d.y)) (layout_state vars layout bits frame Γ around x) d.ended);
        };
      }

      -- ---- failures
      abbrev Fail : Trace → EventSet → Type 0
      Fail t X = (is_silent_on all t ≡ true) × Together (meaning p) (meaning q) Γ s0 t (refusing (off_channels all X))

      fail_from : (t1 t2 t : Trace) (X : EventSet) → Weave t1 t2 t → is_silent_on shared t ≡ true → BothFail w (in_scope Γ) a b t1 t2 (off_channels shared X) → Fail t X
      fail_from t1 t2 t X weave l (first_has_ended z low e f) =
          let d1 = (is1.alone_ends x a below at1 t1 z low).0 e in
          let d2 = (is2.alone_fails x b below at2 t2 (off_channels shared X)).0 f in (
            quiet_both s0 t1 t2 t (ended (state_of layout d1.y)) (refusing (off_channels behind (off_channels shared X))) weave d1.ended d2.1 d1.silent d2.0 l,
            together t1 t2 (ended (state_of layout d1.y)) (refusing (off_channels all X)) weave first_ended d1.ended (more_second s0 t2 (off_channels behind (off_channels shared X)) (off_channels all X) (second_out X) d2.1),
          )
      fail_from t1 t2 t X weave l (second_has_ended z low f e) =
          let d1 = (is1.alone_fails x a below at1 t1 (off_channels shared X)).0 f in
          let d2 = (is2.alone_ends x b below at2 t2 z low).0 e in (
            quiet_both s0 t1 t2 t (refusing (off_channels sole (off_channels shared X))) (ended (state_of layout d2.y)) weave d1.1 d2.ended d1.0 d2.silent l,
            together t1 t2 (refusing (off_channels all X)) (ended (state_of layout d2.y)) weave second_ended (more_first s0 t1 (off_channels sole (off_channels shared X)) (off_channels all X) (first_out X) d1.1) d2.ended,
          )
      fail_from t1 t2 t X weave l (neither_has_ended Y f e) =
          let d1 = (is1.alone_fails x a below at1 t1 (refused_with Γ (off_channels shared X) Y)).0 f in
          let d2 = (is2.alone_fails x b below at2 t2 (refused_with Γ (off_channels shared X) (answered Y))).0 e in (
            quiet_both s0 t1 t2 t (refusing (off_channels sole (refused_with Γ (off_channels shared X) Y))) (refusing (off_channels behind (refused_with Γ (off_channels shared X) (answered Y)))) weave d1.1 d2.1 d1.0 d2.0 l,
            together t1 t2 (refusing (refused_with Γ (off_channels all X) (split Y))) (refusing (refused_with Γ (off_channels all X) (answered (split Y)))) weave (neither_ended (off_channels all X) (split Y))
                (more_first s0 t1 (off_channels sole (refused_with Γ (off_channels shared X) Y)) (refused_with Γ (off_channels all X) (split Y)) (first_split X Y) d1.1)
                (more_second s0 t2 (off_channels behind (refused_with Γ (off_channels shared X) (answered Y))) (refused_with Γ (off_channels all X) (answered (split Y))) (second_split X Y) d2.1),
          )

      -- a change that an end has
      some_change : (z1 : ℕ) → z1 < 2 ^ 64 → (t : Trace) → is_silent_on sole t ≡ true → part_ends Γ p s0 t (state_of layout z1) → (z : ℕ) × (z < 2 ^ 64) × (ends w a t z ≡ true)
      some_change z1 low t quiet d =
          let z : ℕ = bit_xor (bit_and x keep1) z1 in
          let lz : z < 2 ^ 64 = xor_lt 64 (bit_and x keep1) z1 (and_below x keep1 below) low in
          (z, lz, (is1.alone_ends x a below at1 t z lz).1 (record { y = z1; below = low; silent = quiet; ended = d; changed = λ k l one. bit_at_xor (bit_and x keep1) z1 k }))

      other_change : (z1 : ℕ) → z1 < 2 ^ 64 → (t : Trace) → is_silent_on behind t ≡ true → part_ends Γ q s0 t (state_of layout z1) → (z : ℕ) × (z < 2 ^ 64) × (ends w b t z ≡ true)
      other_change z1 low t quiet d =
          let z : ℕ = bit_xor (bit_and x keep2) z1 in
          let lz : z < 2 ^ 64 = xor_lt 64 (bit_and x keep2) z1 (and_below x keep2 below) low in
          (z, lz, (is2.alone_ends x b below at2 t z lz).1 (record { y = z1; below = low; silent = quiet; ended = d; changed = λ k l one. bit_at_xor (bit_and x keep2) z1 k }))

      module _ (t1 t2 t : Trace) (weave : Weave t1 t2 t) (quiet : is_silent_on all t ≡ true) where
        silent1 : (o : Outcome) → (meaning q).does Γ s0 t2 o → is_silent_on sole t1 ≡ true
        silent1 o d = silent_first sole t1 t2 t weave (quiet_second s0 t2 o d) (silent_each all sole shared behind opens t quiet).0

        silent2 : (o : Outcome) → (meaning p).does Γ s0 t1 o → is_silent_on behind t2 ≡ true
        silent2 o d = silent_second behind t1 t2 t weave (quiet_first s0 t1 o d) (silent_each all sole shared behind opens t quiet).2

        fail_one : (X : EventSet) (s1 : Values) → part_ends Γ p s0 t1 s1 → part_fails Γ q s0 t2 (off_channels all X) → BothFail w (in_scope Γ) a b t1 t2 (off_channels shared X)
        fail_one X s1 d1 d2 =
            let e = end_state vars layout bits frame Γ around p typed x t1 s1 d1 in
            let z = some_change e.y e.below t1 (silent1 (refusing (off_channels all X)) d2) (subst (λ v. part_ends Γ p s0 t1 v) e.is d1) in
            first_has_ended z.0 z.1 z.2 ((is2.alone_fails x b below at2 t2 (off_channels shared X)).1 (silent2 (ended s1) d1, more_second s0 t2 (off_channels all X) (off_channels behind (off_channels shared X)) (second_in X) d2))

        fail_two : (X : EventSet) (s2 : Values) → part_fails Γ p s0 t1 (off_channels all X) → part_ends Γ q s0 t2 s2 → BothFail w (in_scope Γ) a b t1 t2 (off_channels shared X)
        fail_two X s2 d1 d2 =
            let e = end_state vars layout bits frame Γ around q typed2 x t2 s2 d2 in
            let z = other_change e.y e.below t2 (silent2 (refusing (off_channels all X)) d1) (subst (λ v. part_ends Γ q s0 t2 v) e.is d2) in
            second_has_ended z.0 z.1 ((is1.alone_fails x a below at1 t1 (off_channels shared X)).1 (silent1 (ended s2) d2, more_first s0 t1 (off_channels all X) (off_channels sole (off_channels shared X)) (first_in X) d1)) z.2

        fail_none : (X Y : EventSet) → part_fails Γ p s0 t1 (refused_with Γ (off_channels all X) Y) → part_fails Γ q s0 t2 (refused_with Γ (off_channels all X) (answered Y))
            → BothFail w (in_scope Γ) a b t1 t2 (off_channels shared X)
        fail_none X Y d1 d2 = neither_has_ended Y
            ((is1.alone_fails x a below at1 t1 (refused_with Γ (off_channels shared X) Y)).1
            (silent1 (refusing (refused_with Γ (off_channels all X) (answered Y))) d2, more_first s0 t1 (refused_with Γ (off_channels all X) Y) (off_channels sole (refused_with Γ (off_channels shared X) Y)) (first_joined X Y) d1))
            ((is2.alone_fails x b below at2 t2 (refused_with Γ (off_channels shared X) (answered Y))).1
            (silent2 (refusing (refused_with Γ (off_channels all X) Y)) d1, more_second s0 t2 (refused_with Γ (off_channels all X) (answered Y)) (off_channels behind (refused_with Γ (off_channels shared X) (answered Y))) (second_joined X (answered Y)) d2))

      fail_by : (X Z : EventSet) → Z ≡ off_channels all X → (t1 t2 t : Trace) (o1 o2 : Outcome) → Weave t1 t2 t → is_silent_on all t ≡ true → Combines Γ s0 o1 o2 (refusing Z)
          → (meaning p).does Γ s0 t1 o1 → (meaning q).does Γ s0 t2 o2 → BothFail w (in_scope Γ) a b t1 t2 (off_channels shared X)
      fail_by X Z e t1 t2 t o1 o2 weave quiet (first_ended {s1 = s1}) d1 d2 = fail_one t1 t2 t weave quiet X s1 d1 (subst (λ V. part_fails Γ q s0 t2 V) e d2)
      fail_by X Z e t1 t2 t o1 o2 weave quiet (second_ended {s2 = s2}) d1 d2 = fail_two t1 t2 t weave quiet X s2 (subst (λ V. part_fails Γ p s0 t1 V) e d1) d2
      fail_by X Z e t1 t2 t o1 o2 weave quiet (neither_ended V Y) d1 d2 = fail_none t1 t2 t weave quiet X Y
          (subst (λ V. part_fails Γ p s0 t1 (refused_with Γ V Y)) e d1) (subst (λ V. part_fails Γ q s0 t2 (refused_with Γ V (answered Y))) e d2)

      fail_back : (t : Trace) (X Z : EventSet) → Z ≡ off_channels all X → is_silent_on all t ≡ true → Together (meaning p) (meaning q) Γ s0 t (refusing Z) → WovenFails w (in_scope Γ) a b t (off_channels shared X)
      fail_back t X Z e quiet (together t1 t2 o1 o2 weave c d1 d2) = record { t1 = t1; t2 = t2; weave = weave; both = fail_by X Z e t1 t2 t o1 o2 weave quiet c d1 d2 }

      both_fail : (t : Trace) (X : EventSet) → (fails w r t X ≡ true) ↔ Fail t X
      both_fail t X = (
        λ f. let h = (of.woven.woven_fails (in_scope Γ) events t X).0 f in fail_from h.1.t1 h.1.t2 t X h.1.weave h.0 h.1.both,
        λ h. (of.woven.woven_fails (in_scope Γ) events t X).1 ((silent_each all sole shared behind opens t h.0).1, fail_back t X (off_channels all X) refl h.0 h.1),
      )

      -- ---- ends
      abbrev Stop : Trace → ℕ → Type 0
      Stop t z = BothStop layout whole keep all (λ v. Together (meaning p) (meaning q) Γ s0 t (ended v)) x t z

      stop_from : (t : Trace) (z : ℕ) → is_silent_on shared t ≡ true → WovenEnds w written_bits a b t z → Stop t z
      stop_from t z l s =
          let d1 = (is1.alone_ends x a below at1 s.t1 s.x1 s.below1).0 s.first in
          let d2 = (is2.alone_ends x b below at2 s.t2 s.x2 s.below2).0 s.second in
          record {
            y = joining written_bits d1.y d2.y;
            low = joining_lt written_bits d1.y d2.y small d1.below d2.below;
            quiet = quiet_both s0 s.t1 s.t2 t (ended (state_of layout d1.y)) (ended (state_of layout d2.y)) s.weave d1.ended d2.ended d1.silent d2.silent l;
            does = together s.t1 s.t2 (ended (state_of layout d1.y)) (ended (state_of layout d2.y)) s.weave
                (both_ended (end_joined x s.t1 s.t2 (state_of layout d1.y) (state_of layout d2.y) d1.ended d2.ended d1.y d2.y refl refl)) d1.ended d2.ended;
            changed = change_joined x s.x1 s.x2 d1.y d2.y z s.joined d1.changed d2.changed;
          }

      stop_by : (t : Trace) (z y : ℕ) → z < 2 ^ 64 → y < 2 ^ 64 → AreChanged whole (bit_and x keep) y z → is_silent_on all t ≡ true → (t1 t2 : Trace) (s1 s2 : Values) → Weave t1 t2 t → state_of layout y ≡ join s0 s1 s2
          → part_ends Γ p s0 t1 s1 → part_ends Γ q s0 t2 s2 → WovenEnds w written_bits a b t z
      stop_by t z y lz ly change quiet t1 t2 s1 s2 weave e d1 d2 =
          let y1 : ℕ = joining written_bits y x in
          let y2 : ℕ = joining written_bits x y in
          let x1 : ℕ = joining written_bits z (unchanged keep1 x) in
          let x2 : ℕ = joining written_bits (unchanged keep2 x) z in
          let l1 : x1 < 2 ^ 64 = joining_lt written_bits z (unchanged keep1 x) small lz (unchanged_lt keep1 x below) in
          let l2 : x2 < 2 ^ 64 = joining_lt written_bits (unchanged keep2 x) z small (unchanged_lt keep2 x below) lz in
          let e1 : s1 ≡ state_of layout y1 = end_one x t1 t2 s1 s2 d1 d2 y e in
          let e2 : s2 ≡ state_of layout y2 = end_two x t1 t2 s1 s2 d1 d2 y e in
          record {
            t1 = t1;
            t2 = t2;
            weave = weave;
            x1 = x1;
            x2 = x2;
            below1 = l1;
            below2 = l2;
            first = (is1.alone_ends x a below at1 t1 x1 l1).1 (record { y = y1; below = joining_lt written_bits y x small ly below; silent = silent1 t1 t2 t weave quiet (ended s2) d2; ended = subst (λ v. part_ends Γ p s0 t1 v) e1 d1; changed = change_one x y z change });
            second = (is2.alone_ends x b below at2 t2 x2 l2).1 (record { y = y2; below = joining_lt written_bits x y small below ly; silent = silent2 t1 t2 t weave quiet (ended s1) d1; ended = subst (λ v. part_ends Γ q s0 t2 v) e2 d2; changed = change_two x y z change });
            joined = joined_again z (unchanged keep1 x) (unchanged keep2 x);
          }

      stop_combined : (t : Trace) (z y : ℕ) → z < 2 ^ 64 → y < 2 ^ 64 → AreChanged whole (bit_and x keep) y z → is_silent_on all t ≡ true → (v : Values) → v ≡ state_of layout y → (t1 t2 : Trace) (o1 o2 : Outcome) → Weave t1 t2 t
          → Combines Γ s0 o1 o2 (ended v) → (meaning p).does Γ s0 t1 o1 → (meaning q).does Γ s0 t2 o2 → WovenEnds w written_bits a b t z
      stop_combined t z y lz ly change quiet v is t1 t2 o1 o2 weave (both_ended {s1 = s1} {s2 = s2} e) d1 d2 = stop_by t z y lz ly change quiet t1 t2 s1 s2 weave (sym is ∙ e) d1 d2

      stop_back : (t : Trace) (z y : ℕ) → z < 2 ^ 64 → y < 2 ^ 64 → AreChanged whole (bit_and x keep) y z → is_silent_on all t ≡ true → (v : Values) → v ≡ state_of layout y → Together (meaning p) (meaning q) Γ s0 t (ended v) → WovenEnds w written_bits a b t z
      stop_back t z y lz ly change quiet v is (together t1 t2 o1 o2 weave c d1 d2) = stop_combined t z y lz ly change quiet v is t1 t2 o1 o2 weave c d1 d2

      both_end : (t : Trace) (z : ℕ) → z < 2 ^ 64 → (ends w r t z ≡ true) ↔ Stop t z
      both_end t z lz = (
        λ f. let h = (of.woven.woven_ends t z lz).0 f in stop_from t z h.0 h.1,
        λ s. (of.woven.woven_ends t z lz).1 ((silent_each all sole shared behind opens t s.quiet).1, stop_back t z s.y lz s.low s.changed s.quiet (state_of layout s.y) refl s.does),
      )

    -- ---- the maps of both
    module _ (pq : Tree) (into : (s : Values) (t : Trace) (o : Outcome) → Together (meaning p) (meaning q) Γ s t o → (meaning pq).does Γ s t o)
        (out : (s : Values) (t : Trace) (o : Outcome) → (meaning pq).does Γ s t o → Together (meaning p) (meaning q) Γ s t o)
        (m : MapId) (has1 : HasNodes w m1) (has2 : HasNodes w m2) (lifts : Lifts w m1 m2 m (OnTwo (IsWovenOf w written_bits shared))) where
      woven_at : (x : ℕ) (r : NodeId) → x < 2 ^ 64 → value w.maps m x ≡ Some r → (a b : NodeId) → value w.maps m1 x ≡ Some a → value w.maps m2 x ≡ Some b → IsWovenOf w written_bits shared a b r
      woven_at x r l e a b at1 at2 =
          let R : Option NodeId → Option NodeId → Option NodeId → Type 0 = OnTwo (IsWovenOf w written_bits shared) in
          subst (λ o. R (Some a) (Some b) o) e (subst (λ o. R (Some a) o (value w.maps m x)) at2 (subst (λ o. R o (value w.maps m2 x) (value w.maps m x)) at1 (lifts.related x l)))

      pub beside_alone : IsPart w layout whole keep all Γ pq m
      beside_alone = record {
        alone_fails = λ x r l e t X.
            let n1 = has1.nodes x l in
            let n2 = has2.nodes x l in
            let both = both_fail x l n1.0 n2.0 r n1.1 n2.1 (woven_at x r l e n1.0 n2.0 n1.1 n2.1) t X in
            (λ f. let g = both.0 f in (g.0, into (state_of layout x) t (refusing (off_channels all X)) g.1), λ g. both.1 (g.0, out (state_of layout x) t (refusing (off_channels all X)) g.1));
        alone_ends = λ x r l e t z lz.
            let n1 = has1.nodes x l in
            let n2 = has2.nodes x l in
            let both = both_end x l n1.0 n2.0 r n1.1 n2.1 (woven_at x r l e n1.0 n2.0 n1.1 n2.1) t z lz in (
              λ f. let g = both.0 f in record { y = g.y; below = g.low; silent = g.quiet; ended = into (state_of layout x) t (ended (state_of layout g.y)) g.does; changed = g.changed },
              λ g. both.1 (record { y = g.y; low = g.below; quiet = g.silent; does = out (state_of layout x) t (ended (state_of layout g.y)) g.ended; changed = g.changed }),
            );
      }
