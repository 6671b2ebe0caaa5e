-- A declared name may be exchanged for one that isn't in scope.
use Rattle.occ_syntax.specs.occ_base.declared.event.Dir.{Dir}
use Rattle.occ_syntax.specs.occ_base.declared.event.Event.{Event}
use Rattle.occ_syntax.specs.occ_base.declared.width.Width.{Width}
use Rattle.occ_meaning.proofs.Beside.{Gives, same_by}
use Rattle.occ_meaning.proofs.Ends.{part_uses, silent_uses}
use Rattle.occ_meaning.proofs.Facts.{at_itself, clash, if_false, if_true, name_at, name_off, off_turned, value_at, value_off}
use Rattle.occ_meaning.proofs.Frame.{KeepsValue, part_value, written_in_scope}
use Rattle.occ_meaning.proofs.OffValues.{Ignores, part_ignores}
use Rattle.occ_meaning.proofs.Refusals.{Extends, end_in_scope, part_more}
use Rattle.occ_meaning.proofs.RenamedTrees.{tree_itself, tree_twice, trees_agree, types_under}
use Rattle.occ_meaning.proofs.Renaming.{exchange_is, name_under, part_carries}
use Rattle.occ_meaning.specs.Foundation.{AreOnEnds, with_result}
use Rattle.occ_meaning.specs.Rename.{exchanging, renamed, renamed_event, renamed_outcome, renamed_trace, replacing, stands, under}
use Rattle.occ_syntax.specs.Meaning.{Outcome, WithChannel, WithVariable, ended, is_silent, meaning, off_channel, refusing}
use Rattle.occ_syntax.specs.Names.{uses_end}
use Rattle.occ_syntax.specs.Same.{SAME}
use Rattle.occ_syntax.specs.Scopes.{Environment, EventSet, Trace, Values, allows, variable_kind, with_name, with_value}
use Rattle.occ_syntax.specs.Tree.{Tree, connect, declare}
use Rattle.occ_syntax.specs.Types.{types_kept}
use Rattle.occ_syntax.specs.declared.scope.Kind.{Kind}
use Rattle.occ_syntax.specs.declared.scope.Kind.TheVariants.{Chan, Var}
use Rattle.std.proofs.Common.{Bool, None, [], ap, false, if◌then◌else◌, inl, inr, not, refl, subst, sym, true, ℕ, ◌&&◌, ◌==◌, ◌∙◌, ◌∷◌, ◌≡◌}
use Rattle.std.proofs.lemmas.Bool.{and_from, and_left, and_parts, and_right, cases_Bool, eqb-true, false_from_ne_true, not-true, not_from_false, not_from_true}
use Rattle.std.proofs.lemmas.Bool.Decides.{eqb_tells}
use mathlib.Core.Path.{fun_ext}

exchanged_first : (x y : ℕ) → exchanging x y x ≡ y
exchanged_first x y = if_true (x == x) y (if x == y then x else x) (at_itself x)

exchanged_second : (x y : ℕ) → (x == y) ≡ false → exchanging x y y ≡ x
exchanged_second x y off = if_false (y == x) y (if y == y then x else y) (off_turned x y off) ∙ if_true (y == y) x y (at_itself y)

exchanged_other : (x y z : ℕ) → (z == x) ≡ false → (z == y) ≡ false → exchanging x y z ≡ z
exchanged_other x y z h k = if_false (z == x) y (if z == y then x else z) h ∙ if_false (z == y) x z k

unchanged_event : (x y : ℕ) (e : Event) → (e.chan.0 == x) ≡ false → (e.chan.0 == y) ≡ false → renamed_event (exchanging x y) e ≡ e
unchanged_event x y e h k = ap (λ n. record { chan = record { 0 = n }; dir = e.dir; value = e.value }) (exchanged_other x y e.chan.0 h k)

unused_channel : (u : ℕ → Dir → Bool) (x : ℕ) (e : Event) → ((d : Dir) → u x d ≡ false) → u e.chan.0 e.dir ≡ true → (e.chan.0 == x) ≡ false
unused_channel u x e unused used = false_from_ne_true (e.chan.0 == x) (λ h. (let P : ℕ → Type 0 = λ n. u n e.dir ≡ true in clash (u x e.dir) (subst P (eqb-true e.chan.0 x h) used) (unused e.dir)))

unchanged_trace : (x y : ℕ) (u : ℕ → Dir → Bool) → ((d : Dir) → u x d ≡ false) → ((d : Dir) → u y d ≡ false) → (t : Trace) → AreOnEnds u t
    → renamed_trace (exchanging x y) t ≡ t
unchanged_trace x y u ux uy [] h = refl
unchanged_trace x y u ux uy (e ∷ t) h =
    ap (λ z. z ∷ renamed_trace (exchanging x y) t) (unchanged_event x y e (unused_channel u x e ux h.0) (unused_channel u y e uy h.0)) ∙ ap (λ r. e ∷ r) (unchanged_trace x y u ux uy t h.1)

pub silent_unused : (y : ℕ) (u : ℕ → Dir → Bool) → ((d : Dir) → u y d ≡ false) → (t : Trace) → AreOnEnds u t → is_silent y t ≡ true
silent_unused y u uy [] h = refl
silent_unused y u uy (e ∷ t) h = and_from (not (e.chan.0 == y)) (is_silent y t) (not_from_false (e.chan.0 == y) (unused_channel u y e uy h.0)) (silent_unused y u uy t h.1)

module _ (Γ : Environment) (x y : ℕ) (off : (x == y) ≡ false) (fresh_x : Γ x ≡ None) (fresh_y : Γ y ≡ None) where
  same_scope : under (exchanging x y) Γ ≡ Γ
  same_scope = fun_ext (λ z. elim (eqb_tells z x) [
    | inl k ↦ ap Γ (ap (exchanging x y) k.1 ∙ exchanged_first x y) ∙ (fresh_y ∙ (sym fresh_x ∙ ap Γ (sym k.1)))
    | inr k ↦ elim (eqb_tells z y) [
      | inl j ↦ ap Γ (ap (exchanging x y) j.1 ∙ exchanged_second x y off) ∙ (fresh_x ∙ (sym fresh_y ∙ ap Γ (sym j.1)))
      | inr j ↦ ap Γ (exchanged_other x y z k.0 j.0)
    ]
  ])

  other_scope : (kind : Kind) → under (exchanging x y) (with_name Γ x kind) ≡ with_name Γ y kind
  other_scope kind = name_under (exchanging x y) (exchange_is x y) Γ x kind ∙ (ap (λ Ψ. with_name Ψ (exchanging x y x) kind) same_scope ∙ ap (λ n. with_name Γ n kind) (exchanged_first x y))

  -- in each of the two scopes the other name isn't there
  none_x : (kind : Kind) → with_name Γ y kind x ≡ None
  none_x kind = name_off Γ y kind x off ∙ fresh_x

  none_y : (kind : Kind) → with_name Γ x kind y ≡ None
  none_y kind = name_off Γ x kind y (off_turned x y off) ∙ fresh_y

  module _ (kind : Kind) (p : Tree) (types : types_kept p (with_name Γ x kind) ≡ true) where
    types_there : types_kept (renamed p (exchanging x y)) (with_name Γ y kind) ≡ true
    types_there = ap (types_kept (renamed p (exchanging x y))) (sym (other_scope kind)) ∙ (types_under p (exchanging x y) (exchange_is x y) (with_name Γ x kind) ∙ types)

    no_end_x : (d : Dir) → uses_end (renamed p (exchanging x y)) x d ≡ false
    no_end_x d = end_in_scope (renamed p (exchanging x y)) (with_name Γ y kind) types_there x d (ap (λ o. allows o d) (none_x kind))

    no_end_y : (d : Dir) → uses_end p y d ≡ false
    no_end_y d = end_in_scope p (with_name Γ x kind) types y d (ap (λ o. allows o d) (none_y kind))

    ignores_x : Ignores x (meaning (renamed p (exchanging x y)))
    ignores_x = part_ignores (renamed p (exchanging x y)) (with_name Γ y kind) types_there x (inr (ap variable_kind (none_x kind)))

    keeps_y : KeepsValue y (meaning p)
    keeps_y = part_value p (with_name Γ x kind) types y (written_in_scope p (with_name Γ x kind) types y (ap variable_kind (none_y kind)))

  -- ---- a variable

  values_there : (s : Values) (v : ℕ) → with_value (under (exchanging x y) (with_value s x v)) x (s x) ≡ with_value s y v
  values_there s v = fun_ext (λ z. elim (eqb_tells z x) [
    | inl k ↦ if_true (z == x) (s x) (with_value s x v (exchanging x y z)) k.0 ∙ (ap s (sym k.1) ∙ sym (value_off s y v z (ap (λ n. n == y) k.1 ∙ off)))
    | inr k ↦ if_false (z == x) (s x) (with_value s x v (exchanging x y z)) k.0 ∙ elim (eqb_tells z y) [
      | inl j ↦ ap (with_value s x v) (ap (exchanging x y) j.1 ∙ exchanged_second x y off) ∙ (value_at s x v ∙ (sym (value_at s y v) ∙ ap (with_value s y v) (sym j.1)))
      | inr j ↦ ap (with_value s x v) (exchanged_other x y z k.0 j.0) ∙ (value_off s x v z k.0 ∙ sym (value_off s y v z j.0))
    ]
  ])

  end_there : (s s1 : Values) → s1 y ≡ s y → with_value s1 x (s x) ≡ with_value (with_value (under (exchanging x y) s1) x (s x)) y (s y)
  end_there s s1 kept = fun_ext (λ z. elim (eqb_tells z y) [
    | inl k ↦ value_off s1 x (s x) z (ap (λ n. n == x) k.1 ∙ off_turned x y off) ∙ (ap s1 k.1 ∙ (kept ∙ sym (if_true (z == y) (s y) (with_value (under (exchanging x y) s1) x (s x) z) k.0)))
    | inr k ↦ elim (eqb_tells z x) [
      | inl j ↦ if_true (z == x) (s x) (s1 z) j.0 ∙ sym (if_false (z == y) (s y) (with_value (under (exchanging x y) s1) x (s x) z) k.0 ∙ if_true (z == x) (s x) (s1 (exchanging x y z)) j.0)
      | inr j ↦ if_false (z == x) (s x) (s1 z) j.0 ∙ sym (if_false (z == y) (s y) (with_value (under (exchanging x y) s1) x (s x) z) k.0
          ∙ (if_false (z == x) (s x) (s1 (exchanging x y z)) j.0 ∙ ap s1 (exchanged_other x y z j.0 k.0)))
    ]
  ])

  module _ (w : Width) (p : Tree) (types : types_kept p (with_name Γ x (Var w)) ≡ true) where
    unused_x : (d : Dir) → uses_end p x d ≡ false
    unused_x d = end_in_scope p (with_name Γ x (Var w)) types x d (ap (λ o. allows o d) (name_at Γ x (Var w)))

    unused_y : (d : Dir) → uses_end (renamed p (exchanging x y)) y d ≡ false
    unused_y d = end_in_scope (renamed p (exchanging x y)) (with_name Γ y (Var w)) (types_there (Var w) p types) y d (ap (λ o. allows o d) (name_at Γ y (Var w)))

    body_there : (s : Values) (v : ℕ) (t : Trace) (o : Outcome) → (meaning p).does (with_name Γ x (Var w)) (with_value s x v) t o
        → (meaning (renamed p (exchanging x y))).does (with_name Γ y (Var w)) (with_value s y v) t (with_result x (s x) (renamed_outcome (exchanging x y) o))
    body_there s v t o d =
        let f : ℕ → ℕ = exchanging x y in
        let P : Environment → Type 0 = λ Ψ. (meaning (renamed p f)).does Ψ (under f (with_value s x v)) (renamed_trace f t) (renamed_outcome f o) in
        let Q : Trace → Type 0 = λ r. (meaning (renamed p f)).does (with_name Γ y (Var w)) (under f (with_value s x v)) r (renamed_outcome f o) in
        let R : Values → Type 0 = λ r. (meaning (renamed p f)).does (with_name Γ y (Var w)) r t (with_result x (s x) (renamed_outcome f o)) in
        let on = (part_uses p (with_name Γ x (Var w)) types).on_ends (with_name Γ x (Var w)) (with_value s x v) t o d in
        let there = subst P (other_scope (Var w)) ((part_carries p f (exchange_is x y)).carried (with_name Γ x (Var w)) (with_value s x v) t o d) in
        let along = subst Q (unchanged_trace x y (uses_end p) unused_x (no_end_y (Var w) p types) t on) there in
        subst R (values_there s v) ((ignores_x (Var w) p types).ignored (with_name Γ y (Var w)) (under f (with_value s x v)) (s x) t (renamed_outcome f o) along)

    extends_there : (X : EventSet) → Extends (uses_end (renamed p (exchanging x y))) (λ e. X (renamed_event (exchanging x y) e)) X
    extends_there X e h = elim (eqb_tells e.chan.0 x) [
      | inl k ↦ inr (let P : ℕ → Type 0 = λ n. uses_end (renamed p (exchanging x y)) n e.dir ≡ false in subst P (sym k.1) (no_end_x (Var w) p types e.dir))
      | inr k ↦ elim (eqb_tells e.chan.0 y) [
        | inl j ↦ inr (let P : ℕ → Type 0 = λ n. uses_end (renamed p (exchanging x y)) n e.dir ≡ false in subst P (sym j.1) (unused_y e.dir))
        | inr j ↦ inl (ap X (unchanged_event x y e k.0 j.0) ∙ h)
      ]
    ]

    variable_there : (s : Values) (t : Trace) (o : Outcome) → WithVariable x w (meaning p) Γ s t o
        → WithVariable y w (meaning (renamed p (exchanging x y))) Γ s t o
    variable_there s t o (WithVariable.at_end v s1 lt e d) =
        WithVariable.at_end v (with_value (under (exchanging x y) s1) x (s x)) lt
        (e ∙ end_there s s1 ((keeps_y (Var w) p types).value (with_name Γ x (Var w)) (with_value s x v) t s1 d ∙ value_off s x v y (off_turned x y off)))
        (body_there s v t (ended s1) d)
    variable_there s t o (WithVariable.at_rest {X = X} v lt d) =
        WithVariable.at_rest v lt
        ((part_more (renamed p (exchanging x y)) (with_name Γ y (Var w)) (types_there (Var w) p types)).more (with_name Γ y (Var w)) (with_value s y v) t (λ e. X (renamed_event (exchanging x y) e)) X (extends_there X) (body_there s v t (refusing X) d))

  -- ---- a channel

  values_back : (s : Values) → with_value (with_value (under (exchanging x y) s) x (s x)) y (s y) ≡ s
  values_back s = fun_ext (λ z. elim (eqb_tells z y) [
    | inl k ↦ if_true (z == y) (s y) (with_value (under (exchanging x y) s) x (s x) z) k.0 ∙ ap s (sym k.1)
    | inr k ↦ if_false (z == y) (s y) (with_value (under (exchanging x y) s) x (s x) z) k.0 ∙ elim (eqb_tells z x) [
      | inl j ↦ if_true (z == x) (s x) (s (exchanging x y z)) j.0 ∙ ap s (sym j.1)
      | inr j ↦ if_false (z == x) (s x) (s (exchanging x y z)) j.0 ∙ ap s (exchanged_other x y z j.0 k.0)
    ]
  ])

  module _ (w : Width) (p : Tree) (types : types_kept p (with_name Γ x (Chan w None)) ≡ true) where
    ignores_y : Ignores y (meaning (renamed p (exchanging x y)))
    ignores_y = part_ignores (renamed p (exchanging x y)) (with_name Γ y (Chan w None)) (types_there (Chan w None) p types) y (inr (ap variable_kind (name_at Γ y (Chan w None))))

    keeps_x : KeepsValue x (meaning p)
    keeps_x = part_value p (with_name Γ x (Chan w None)) types x (written_in_scope p (with_name Γ x (Chan w None)) types x (ap variable_kind (name_at Γ x (Chan w None))))

    off_x_there : (s : Values) (t : Trace) (o : Outcome) → is_silent x t ≡ true → (meaning p).does (with_name Γ x (Chan w None)) s t o
        → AreOnEnds (λ c d. not (c == x) && uses_end p c d) t
    off_x_there s t o silent d = silent_uses (uses_end p) x t silent ((part_uses p (with_name Γ x (Chan w None)) types).on_ends (with_name Γ x (Chan w None)) s t o d)

    none_on_x : (d : Dir) → (not (x == x) && uses_end p x d) ≡ false
    none_on_x d = and_left (not (x == x)) (uses_end p x d) (not_from_true (x == x) (at_itself x))

    none_on_y : (d : Dir) → (not (y == x) && uses_end p y d) ≡ false
    none_on_y d = and_right (not (y == x)) (uses_end p y d) (no_end_y (Chan w None) p types d)

    channel_body : (s : Values) (t : Trace) (o : Outcome) → is_silent x t ≡ true → (meaning p).does (with_name Γ x (Chan w None)) s t o
        → (meaning (renamed p (exchanging x y))).does (with_name Γ y (Chan w None)) s t (with_result y (s y) (with_result x (s x) (renamed_outcome (exchanging x y) o)))
    channel_body s t o silent d =
        let f : ℕ → ℕ = exchanging x y in
        let P : Environment → Type 0 = λ Ψ. (meaning (renamed p f)).does Ψ (under f s) (renamed_trace f t) (renamed_outcome f o) in
        let Q : Trace → Type 0 = λ r. (meaning (renamed p f)).does (with_name Γ y (Chan w None)) (under f s) r (renamed_outcome f o) in
        let R : Values → Type 0 = λ r. (meaning (renamed p f)).does (with_name Γ y (Chan w None)) r t (with_result y (s y) (with_result x (s x) (renamed_outcome f o))) in
        let there = subst P (other_scope (Chan w None)) ((part_carries p f (exchange_is x y)).carried (with_name Γ x (Chan w None)) s t o d) in
        let along = subst Q (unchanged_trace x y (λ c i. not (c == x) && uses_end p c i) none_on_x none_on_y t (off_x_there s t o silent d)) there in
        subst R (values_back s)
        (ignores_y.ignored (with_name Γ y (Chan w None)) (with_value (under f s) x (s x)) (s y) t (with_result x (s x) (renamed_outcome f o))
        ((ignores_x (Chan w None) p types).ignored (with_name Γ y (Chan w None)) (under f s) (s x) t (renamed_outcome f o) along))

    channel_extends : (X : EventSet)
        → Extends (uses_end (renamed p (exchanging x y))) (λ e. off_channel x X (renamed_event (exchanging x y) e)) (off_channel y X)
    channel_extends X e h =
        let k = and_parts (not (e.chan.0 == y)) (X e) h in
        let off_y : (e.chan.0 == y) ≡ false = not-true (e.chan.0 == y) k.0 in
        elim (eqb_tells e.chan.0 x) [
          | inl j ↦ inr (let P : ℕ → Type 0 = λ n. uses_end (renamed p (exchanging x y)) n e.dir ≡ false in subst P (sym j.1) (no_end_x (Chan w None) p types e.dir))
          | inr j ↦ inl (ap (off_channel x X) (unchanged_event x y e j.0 off_y) ∙ and_from (not (e.chan.0 == x)) (X e) (not_from_false (e.chan.0 == x) j.0) k.1)
        ]

    channel_end_there : (s s1 : Values) → s1 x ≡ s x → s1 y ≡ s y → with_value (with_value (under (exchanging x y) s1) x (s x)) y (s y) ≡ s1
    channel_end_there s s1 kx ky =
        ap (λ n. with_value (with_value (under (exchanging x y) s1) x n) y (s y)) (sym kx) ∙ (ap (λ n. with_value (with_value (under (exchanging x y) s1) x (s1 x)) y n) (sym ky) ∙ values_back s1)

    channel_there : (s : Values) (t : Trace) (o : Outcome) → WithChannel x w (meaning p) Γ s t o
        → WithChannel y w (meaning (renamed p (exchanging x y))) Γ s t o
    channel_there s t o (WithChannel.at_end {s1 = r} silent d) =
        let P : Values → Type 0 = λ q. (meaning (renamed p (exchanging x y))).does (with_name Γ y (Chan w None)) s t (ended q) in
        WithChannel.at_end (silent_unused y (λ c i. not (c == x) && uses_end p c i) none_on_y t (off_x_there s t (ended r) silent d))
        (subst P (channel_end_there s r (keeps_x.value (with_name Γ x (Chan w None)) s t r d) ((keeps_y (Chan w None) p types).value (with_name Γ x (Chan w None)) s t r d)) (channel_body s t (ended r) silent d))
    channel_there s t o (WithChannel.at_rest {X = X} silent d) =
        WithChannel.at_rest (silent_unused y (λ c i. not (c == x) && uses_end p c i) none_on_y t (off_x_there s t (refusing (off_channel x X)) silent d))
        ((part_more (renamed p (exchanging x y)) (with_name Γ y (Chan w None)) (types_there (Chan w None) p types)).more (with_name Γ y (Chan w None)) s t
        (λ e. off_channel x X (renamed_event (exchanging x y) e)) (off_channel y X) (channel_extends X) (channel_body s t (refusing (off_channel x X)) silent d))

-- ---- both ways

exchange_turned : (x y n : ℕ) → exchanging x y n ≡ exchanging y x n
exchange_turned x y n = elim (eqb_tells n x) [
  | inl k ↦ if_true (n == x) y (if n == y then x else n) k.0 ∙ from_x (n == y) refl k.0 k.1
  | inr k ↦ if_false (n == x) y (if n == y then x else n) k.0 ∙ ap (λ z. if n == y then x else z) (sym (if_false (n == x) y n k.0))
]
  where
    from_x : (b : Bool) → (n == y) ≡ b → (n == x) ≡ true → n ≡ x → y ≡ (if n == y then x else if n == x then y else n)
    from_x true e is_x same = (sym (eqb-true n y e) ∙ same) ∙ sym (if_true (n == y) x (if n == x then y else n) e)
    from_x false e is_x same = sym (if_false (n == y) x (if n == x then y else n) e ∙ if_true (n == x) y n is_x)

back_again : (x y : ℕ) (p : Tree) → renamed (renamed p (exchanging x y)) (exchanging y x) ≡ p
back_again x y p = trees_agree (renamed p (exchanging x y)) (exchanging y x) (exchanging x y) (λ n h. exchange_turned y x n) ∙ tree_twice p (exchanging x y) (exchange_is x y)

pub variable_exchanged : (Γ : Environment) (x y : ℕ) (w : Width) (p : Tree) → (x == y) ≡ false → Γ x ≡ None → Γ y ≡ None
    → types_kept p (with_name Γ x (Var w)) ≡ true → SAME Γ (declare x w p) (declare y w (renamed p (exchanging x y)))
variable_exchanged Γ x y w p off fx fy t =
    let q = renamed p (exchanging x y) in
    let back_off : (y == x) ≡ false = off_turned x y off in
    let P : Tree → Type 0 = λ r. Gives Γ (meaning (declare y w q)) (meaning (declare x w r)) in
    same_by Γ (declare x w p) (declare y w q) (record { gives = variable_there Γ x y off fx fy w p t })
    (subst P (back_again x y p) (record { gives = variable_there Γ y x back_off fy fx w q (types_there Γ x y off fx fy (Var w) p t) }))

pub channel_exchanged : (Γ : Environment) (x y : ℕ) (w : Width) (p : Tree) → (x == y) ≡ false → Γ x ≡ None → Γ y ≡ None
    → types_kept p (with_name Γ x (Chan w None)) ≡ true → SAME Γ (connect x w p) (connect y w (renamed p (exchanging x y)))
channel_exchanged Γ x y w p off fx fy t =
    let q = renamed p (exchanging x y) in
    let back_off : (y == x) ≡ false = off_turned x y off in
    let P : Tree → Type 0 = λ r. Gives Γ (meaning (connect y w q)) (meaning (connect x w r)) in
    same_by Γ (connect x w p) (connect y w q) (record { gives = channel_there Γ x y off fx fy w p t })
    (subst P (back_again x y p) (record { gives = channel_there Γ y x back_off fy fx w q (types_there Γ x y off fx fy (Chan w None) p t) }))

-- ---- a new name that stands nowhere

pub replaced_is_exchanged : (x y : ℕ) (p : Tree) → stands p y ≡ false → renamed p (replacing x y) ≡ renamed p (exchanging x y)
replaced_is_exchanged x y p nowhere = trees_agree p (replacing x y) (exchanging x y) (λ n h. elim (cases_Bool (n == x)) [
  | inl k ↦ if_true (n == x) y n k ∙ sym (if_true (n == x) y (if n == y then x else n) k)
  | inr k ↦ if_false (n == x) y n k ∙ sym (if_false (n == x) y (if n == y then x else n) k ∙ if_false (n == y) x n
      (false_from_ne_true (n == y) (λ e. (let P : ℕ → Type 0 = λ z. stands p z ≡ true in clash (stands p y) (subst P (eqb-true n y e) h) nowhere))))
])

pub variable_renamed : (Γ : Environment) (x y : ℕ) (w : Width) (p : Tree) → (x == y) ≡ false → Γ x ≡ None → Γ y ≡ None
    → types_kept p (with_name Γ x (Var w)) ≡ true → stands p y ≡ false → SAME Γ (declare x w p) (declare y w (renamed p (replacing x y)))
variable_renamed Γ x y w p off fx fy t nowhere = let P : Tree → Type 0 = λ r. SAME Γ (declare x w p) (declare y w r) in subst P (sym (replaced_is_exchanged x y p nowhere)) (variable_exchanged Γ x y w p off fx fy t)

pub channel_renamed : (Γ : Environment) (x y : ℕ) (w : Width) (p : Tree) → (x == y) ≡ false → Γ x ≡ None → Γ y ≡ None
    → types_kept p (with_name Γ x (Chan w None)) ≡ true → stands p y ≡ false
    → SAME Γ (connect x w p) (connect y w (renamed p (replacing x y)))
channel_renamed Γ x y w p off fx fy t nowhere = let P : Tree → Type 0 = λ r. SAME Γ (connect x w p) (connect y w r) in subst P (sym (replaced_is_exchanged x y p nowhere)) (channel_exchanged Γ x y w p off fx fy t)

-- a name replaced by itself
pub itself_replaced : (x : ℕ) (p : Tree) → renamed p (replacing x x) ≡ p
itself_replaced x p = tree_itself p (replacing x x) (λ n. one_name n (n == x) refl)
  where
    one_name : (n : ℕ) (b : Bool) → (n == x) ≡ b → replacing x x n ≡ n
    one_name n true e = if_true (n == x) x n e ∙ sym (eqb-true n x e)
    one_name n false e = if_false (n == x) x n e
