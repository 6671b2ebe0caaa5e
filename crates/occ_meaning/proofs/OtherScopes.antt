-- Whether two parts are the same doesn't depend on a name that is free in neither.
-- a state with that name's value taken away is one in both environments
use Rattle.occ_syntax.specs.occ_base.Width.{bits_of}
use Rattle.occ_meaning.proofs.Alike.{same_back}
use Rattle.occ_meaning.proofs.Facts.{if_false, if_true}
use Rattle.occ_meaning.proofs.Frame.{part_value}
use Rattle.occ_meaning.proofs.Free.{no_end, not_written}
use Rattle.occ_meaning.proofs.OffNames.{agree_turned, part_moves}
use Rattle.occ_meaning.proofs.OffValues.{part_ignores, value_again, value_back}
use Rattle.occ_meaning.proofs.Refusals.{Extends, part_more, part_shrinks}
use Rattle.occ_meaning.specs.Foundation.{AgreeOff, with_result}
use Rattle.occ_syntax.specs.Meaning.{Outcome, ended, ends, fails, meaning, off_channel, refusing}
use Rattle.occ_syntax.specs.Names.{free, uses_end}
use Rattle.occ_syntax.specs.Same.{SAME}
use Rattle.occ_syntax.specs.Scopes.{Environment, EventSet, IsState, IsWithin, Trace, Values, channel_kind, has_width, variable_kind, with_value}
use Rattle.occ_syntax.specs.Tree.{Tree}
use Rattle.occ_syntax.specs.Types.{types_kept}
use Rattle.occ_syntax.specs.declared.scope.Kind.{Kind}
use Rattle.std.proofs.Common.{Option, ap, false, inl, inr, not, subst, sym, true, ℕ, ◌<◌, ◌==◌, ◌^◌, ◌∙◌, ◌≡◌}
use Rattle.std.proofs.lemmas.Bool.{and_from, and_parts, cases_Bool, not-true, not_from_false}
use Rattle.std.proofs.lemmas.Bool.Decides.{eqb_tells}
use Rattle.std.proofs.lemmas.Nat.{pow_pos}

zero_state : (Γ Δ : Environment) (s : Values) (x : ℕ) → AgreeOff x Γ Δ → IsState Δ s → IsState Γ (with_value s x 0)
zero_state Γ Δ s x off state y w h =
    let P : ℕ → Type 0 = λ n. n < 2 ^ bits_of w in
    elim (cases_Bool (y == x)) [
      | inl k ↦ subst P (sym (if_true (y == x) 0 (s y) k)) (pow_pos (bits_of w))
      | inr k ↦ subst P (sym (if_false (y == x) 0 (s y) k)) (state y w (ap variable_kind (sym (off y k)) ∙ h))
    ]

-- so are the events that aren't on its channel
off_within : (Γ Δ : Environment) (x : ℕ) (X : EventSet) → AgreeOff x Γ Δ → IsWithin Δ X → IsWithin Γ (off_channel x X)
off_within Γ Δ x X off within e h =
    let k = and_parts (not (e.chan.0 == x)) (X e) h in
    let P : Option Kind → Type 0 = λ o. has_width (channel_kind o) e.value ≡ true in
    subst P (sym (off e.chan.0 (not-true (e.chan.0 == x) k.0))) (within e k.1)

module _ (p q : Tree) (Θ Ψ : Environment) (typed_p : types_kept p Θ ≡ true) (typed_q : types_kept q Ψ ≡ true) (x : ℕ) (not_p : free p x ≡ false) (not_q : free q x ≡ false) where
  to_zero : (Γ Δ : Environment) → AgreeOff x Γ Δ → (s : Values) (t : Trace) (o : Outcome) → (meaning p).does Δ s t o
      → (meaning p).does Γ (with_value s x 0) t (with_result x 0 o)
  to_zero Γ Δ off s t o d =
      (part_ignores p Θ typed_p x (inl not_p)).ignored Γ s 0 t o ((part_moves p Θ typed_p x not_p Δ Γ (agree_turned x Γ Δ off)).moved s t o d)

  from_zero : (Γ Δ : Environment) → AgreeOff x Γ Δ → (s : Values) (t : Trace) (o : Outcome)
      → (meaning q).does Γ (with_value s x 0) t (with_result x 0 o) → (meaning q).does Δ s t (with_result x (s x) (with_result x 0 o))
  from_zero Γ Δ off s t o d =
      let P : Values → Type 0 = λ r. (meaning q).does Δ r t (with_result x (s x) (with_result x 0 o)) in
      subst P (value_again s x 0 (s x) ∙ value_back s x)
      ((part_ignores q Ψ typed_q x (inl not_q)).ignored Δ (with_value s x 0) (s x) t (with_result x 0 o) ((part_moves q Ψ typed_q x not_q Γ Δ off).moved (with_value s x 0) t (with_result x 0 o) d))

  ends_there : (Γ Δ : Environment) → AgreeOff x Γ Δ → SAME Γ p q → (s : Values) (t : Trace) (s' : Values) → IsState Δ s → ends Δ p s t s'
      → ends Δ q s t s'
  ends_there Γ Δ off same s t s' state d =
      let kept : s' x ≡ s x = (part_value p Θ typed_p x (not_written p x not_p)).value Δ s t s' d in
      let P : Values → Type 0 = λ r. ends Δ q s t r in
      subst P (value_again s' x 0 (s x) ∙ (ap (λ n. with_value s' x n) (sym kept) ∙ value_back s' x))
      (from_zero Γ Δ off s t (ended s') ((same.same_ends (with_value s x 0) t (with_value s' x 0) (zero_state Γ Δ s x off state)).0 (to_zero Γ Δ off s t (ended s') d)))

  adds_channel : (X : EventSet) → Extends (uses_end q) (off_channel x X) X
  adds_channel X e h = elim (eqb_tells e.chan.0 x) [
    | inl k ↦ inr (let P : ℕ → Type 0 = λ n. uses_end q n e.dir ≡ false in subst P (sym k.1) (no_end q x e.dir not_q))
    | inr k ↦ inl (and_from (not (e.chan.0 == x)) (X e) (not_from_false (e.chan.0 == x) k.0) h)
  ]

  fails_there : (Γ Δ : Environment) → AgreeOff x Γ Δ → SAME Γ p q → (s : Values) (t : Trace) (X : EventSet) → IsState Δ s → IsWithin Δ X
      → fails Δ p s t X → fails Δ q s t X
  fails_there Γ Δ off same s t X state within d =
      let less = (part_shrinks p).more Δ s t X (off_channel x X) (λ e h. inl (and_parts (not (e.chan.0 == x)) (X e) h).1) d in
      let there = (same.same_failures (with_value s x 0) t (off_channel x X) (zero_state Γ Δ s x off state) (off_within Γ Δ x X off within)).0 (to_zero Γ Δ off s t (refusing (off_channel x X)) less) in
      (part_more q Ψ typed_q).more Δ s t (off_channel x X) X (adds_channel X) (from_zero Γ Δ off s t (refusing (off_channel x X)) there)

pub same_elsewhere : (p q : Tree) (Θ Ψ : Environment) → types_kept p Θ ≡ true → types_kept q Ψ ≡ true → (x : ℕ) → free p x ≡ false
    → free q x ≡ false → (Γ Δ : Environment) → AgreeOff x Γ Δ → SAME Γ p q → SAME Δ p q
same_elsewhere p q Θ Ψ tp tq x np nq Γ Δ off same = record {
  same_failures = λ s t X state within. (fails_there p q Θ Ψ tp tq x np nq Γ Δ off same s t X state within, fails_there q p Ψ Θ tq tp x nq np Γ Δ off (same_back Γ p q same) s t X state within);
  same_ends = λ s t s' state. (ends_there p q Θ Ψ tp tq x np nq Γ Δ off same s t s' state, ends_there q p Ψ Θ tq tp x nq np Γ Δ off (same_back Γ p q same) s t s' state);
}
