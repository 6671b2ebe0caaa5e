-- Inputs and outputs as guards of the language.
use Rattle.std.proofs.Common.{◌≡◌, ◌<◌, ◌≤◌, ◌+◌, ◌%◌, ◌^◌, ◌==◌, ℕ, Bool, true, false, min, not, List, [], ◌∷◌, Some, refl, sym, ap, ◌∙◌, subst, inl, ⊎_elim, arith}
use Rattle.std.specs.Prelude.{◌↔◌, ◌⊎◌}
use Rattle.std.specs.Int.{bit_at}
use Rattle.std.specs.Int.Bits.{bit_and, bit_xor}
use Rattle.std.specs.List.{list_all}
use Rattle.std.proofs.lemmas.Bool.{both_ways, cases_lt, lt-ltb, ltb-true}
use Rattle.std.proofs.lemmas.Nat.Bits.{bit_at_above, bit_at_and, bit_at_xor, same_from_bits}
use Rattle.occ_syntax.specs.occ_base.declared.event.Event.{Event}
use Rattle.occ_syntax.specs.occ_base.declared.names.Name.{Name}
use Rattle.occ_syntax.specs.occ_base.declared.width.Width.{Width}
use Rattle.occ_syntax.specs.occ_base.Width.{bits_of}
use Rattle.occ_syntax.specs.declared.scope.Kind.{Kind}
use Rattle.occ_syntax.specs.Eval.{eval}
use Rattle.occ_syntax.specs.Meaning.{After, at_event, taken}
use Rattle.occ_syntax.specs.Scopes.{Environment, Values, channel_width, has_width, variable_width, with_value}
use Rattle.occ_syntax.specs.Tree.{Exp, Waiting, input, output, ready, receive, send}
use Rattle.occ_syntax.specs.Types.{input_kept, waiting_kept}
use Rattle.occ_norm_frame.specs.occ_bits.Layout.{entry_of, state_of}
use Rattle.occ_norm_frame.proofs.from_bits.Laid.{found_width, found_within}
use Rattle.occ_norm_frame.specs.occ_mdd.Maps.{value}
use Rattle.occ_norm_frame.specs.occ_mdd.declared.map.MapId.{MapId}
use Rattle.occ_norm_frame.specs.occ_node.World.{fails, ends}
use Rattle.occ_norm_frame.specs.occ_node.declared.node.NodeId.{NodeId}
use Rattle.occ_norm_frame.specs.occ_node.declared.world.World.{World}
use Rattle.occ_norm_frame.specs.occ_follow.Sequence.{HasNodes}
use Rattle.occ_norm_frame.specs.occ_weave.Weave.{is_open}
use Rattle.occ_norm_frame.proofs.from_meaning.Typing.{input_types}
use Rattle.occ_norm_frame.specs.After.{IsOver, change_of}
use Rattle.occ_norm_frame.specs.Changes.{IsChanged}
use Rattle.occ_norm_frame.specs.Placed.{IsAround, IsFrame}
use Rattle.occ_norm_frame.proofs.After.{state_back, states_reached}
use Rattle.occ_norm_frame.proofs.Placing.{frame_layout, width_here}
use Rattle.occ_norm_alt.specs.Alternation.{Settles}
use Rattle.occ_norm_alt.specs.Inputs.{AreInputs, LeadsInput, TakesInput, digits_at, input_event, output_event, placed}
use Rattle.occ_norm_alt.specs.Offering.{At, IsGuarded, IsOffering, Leads, Takes}
use Rattle.occ_norm_alt.proofs.Making.{offering_prefixed, offering_same, offering_turned}
use Rattle.occ_norm_alt.proofs.Placed.{placed_change, placed_small, placed_state}
use Rattle.occ_norm_alt.proofs.Receiving.{at_iff}
use Rattle.std.proofs.lemmas.Nat.{and_le_r}
use Rattle.std.specs.Int.Bits.{xor_self, xor_zero_r}
use Rattle.std.proofs.lemmas.Option.{same_Some}
use Rattle.occ_norm_frame.specs.Lifted.{IsPrefixed}
use Rattle.occ_norm_frame.proofs.FrameBits.{pow_more}

-- ---- the same state, the same node
module _ (w : World) (vars : List (Name × Kind)) (layout : List (Name × Width × ℕ)) (n : ℕ) (frame : IsFrame vars layout n) (keep : ℕ) (few : keep < 2 ^ n) (next : MapId) (over : IsOver w n next) where
  pub same_change : (x y z : ℕ) → state_of layout y ≡ state_of layout z → change_of keep x y ≡ change_of keep x z
  same_change x y z same = same_from_bits _ _ (λ k. bit_at_and (bit_xor x y) keep k ∙ ⊎_elim
      (λ (l : k < n). ap (λ m. min m (bit_at keep k)) (bit_at_xor x y k ∙ ap (λ m. (bit_at x k + m) % 2) (state_back vars layout n frame y z same k l) ∙ sym (bit_at_xor x z k)))
      (λ (l : n ≤ k). let none : bit_at keep k ≡ 0 = bit_at_above keep n k few l in ap (min (bit_at (bit_xor x y) k)) none ∙ nothing (bit_at (bit_xor x y) k) (bit_at (bit_xor x z) k) ∙ sym (ap (min (bit_at (bit_xor x z) k)) none))
      (cases_lt k n) ∙ sym (bit_at_and (bit_xor x z) keep k))
    where
      nothing : (a b : ℕ) → min a 0 ≡ min b 0
      nothing a b = omega arith

  pub same_at : (x y z : ℕ) → y < 2 ^ 64 → z < 2 ^ 64 → state_of layout y ≡ state_of layout z → (B : ℕ → NodeId → Bool) → At w next y (B (change_of keep x y)) ↔ At w next z (B (change_of keep x z))
  same_at x y z h l same B = at_iff w next next y z (B (change_of keep x y)) (B (change_of keep x z)) (over.same y z h l (state_back vars layout n frame y z same)) (λ m. ap (λ c. B c m) (same_change x y z same))

-- ---- a closed channel
-- an event on a channel is seen where the channel isn't closed
pub closed_guard : (w : World) (layout : List (Name × Width × ℕ)) (keep : ℕ) (closed : List Name) (Γ : Environment) (wait : Waiting) (next r : MapId)
    → ((e : Event) (s t : Values) → After Γ s wait e t → is_open closed e ≡ false) → ((x : ℕ) (a : NodeId) → x < 2 ^ 64 → value w.maps r x ≡ Some a → IsOffering w a (λ e. ⊥) (λ e t X. ⊥) (λ e t z. ⊥))
    → IsGuarded w layout keep closed Γ wait next r
closed_guard w layout keep closed Γ wait next r shut nothing = record {
  guarded = λ x a h e. offering_same w a _ _ _ _ _ _ (nothing x a h e)
      (λ f. (λ k. absurd k, λ k. both_ways (is_open closed f) (shut f (state_of layout x) k.s k.after) k.seen))
      (λ f t X. (λ k. absurd k, λ k. both_ways (is_open closed f) (shut f (state_of layout x) (state_of layout k.y) k.after) k.seen))
      (λ f t z small. (λ k. absurd k, λ k. both_ways (is_open closed f) (shut f (state_of layout x) (state_of layout k.y) k.after) k.seen));
}

pub input_shut : (closed : List Name) (Γ : Environment) (chan x : ℕ) → list_all (λ (c : Name). not (chan == c.0)) closed ≡ false → (e : Event) (s t : Values) → After Γ s (input chan x) e t → is_open closed e ≡ false
input_shut closed Γ chan x shut e s t a = ap (is_open closed) a.2 ∙ shut

pub output_shut : (closed : List Name) (Γ : Environment) (chan : ℕ) (z : Exp) → list_all (λ (c : Name). not (chan == c.0)) closed ≡ false → (e : Event) (s t : Values) → After Γ s (output chan z) e t → is_open closed e ≡ false
output_shut closed Γ chan z shut e s t a = ap (is_open closed) a.0 ∙ shut

-- ---- inputs
module _ (w : World) (vars : List (Name × Kind)) (layout : List (Name × Width × ℕ)) (n : ℕ) (frame : IsFrame vars layout n) (keep : ℕ) (few : keep < 2 ^ n) (closed : List Name) (next : MapId) (over : IsOver w n next)
    (Γ : Environment) (around : IsAround Γ vars) (chan : Name) (var : ℕ) (kept : input_kept Γ chan.0 var ≡ true) (seen : list_all (λ (c : Name). not (chan.0 == c.0)) closed ≡ true)
    (width : Width) (first : ℕ) (there : entry_of layout var ≡ Some (width, first)) (row : ℕ)
    (inside : (j : ℕ) → j < bits_of width → bit_at row (first + j) ≡ bit_at keep (first + j)) (outside : (k : ℕ) → (k < first) ⊎ (first + bits_of width ≤ k) → bit_at row k ≡ 0) where
  fits : first + bits_of width ≤ 64
  fits = found_within layout (frame_layout vars layout n frame) var width first there

  types : (u : Width) × (channel_width Γ chan.0 ≡ Some u) × (Some u ≡ variable_width Γ var)
  types = let k = (input_types Γ chan.0 var kept).1 in (k.0, k.1, sym k.2)

  channel_is : channel_width Γ chan.0 ≡ Some width
  channel_is = types.1 ∙ types.2 ∙ width_here Γ vars layout n frame around var ∙ found_width layout var width first there

  has_it : (v : ℕ) → v < 2 ^ bits_of width → has_width (channel_width Γ chan.0) v ≡ true
  has_it v h = ap (λ o. has_width o v) channel_is ∙ lt-ltb v (2 ^ bits_of width) h

  is_small : (v : ℕ) → has_width (channel_width Γ chan.0) v ≡ true → v < 2 ^ bits_of width
  is_small v h = ltb-true v (2 ^ bits_of width) (sym (ap (λ o. has_width o v) channel_is) ∙ h)

  from_zero : (v : ℕ) → 0 + v ≡ v
  from_zero v = omega arith

  input_takes : (x : ℕ) (e : Event) → TakesInput chan (bits_of width) 0 e ↔ Takes layout closed Γ (input chan.0 var) x e
  input_takes x e = (
    λ k. record {
      seen = ap (is_open closed) k.is ∙ seen;
      s = with_value (state_of layout x) var k.u;
      after = (k.u, has_it k.u k.below, k.is ∙ ap (input_event chan) (from_zero k.u), refl);
    },
    λ k. record { u = k.after.0; below = is_small k.after.0 k.after.1; is = k.after.2 ∙ ap (input_event chan) (sym (from_zero k.after.0)) },
  )

  state_there : (v x : ℕ) → v < 2 ^ bits_of width → state_of layout (placed first (bits_of width) v x) ≡ with_value (state_of layout x) var v
  state_there v x h = placed_state layout (frame_layout vars layout n frame) var width first there v x h

  input_goes : (x : ℕ) (e : Event) → x < 2 ^ 64 → (P : ℕ → ℕ → Type 0) (B : ℕ → NodeId → Bool) → ((v : ℕ) → v < 2 ^ bits_of width → P v (placed first (bits_of width) v x) ↔ At w next (placed first (bits_of width) v x) (B (change_of keep x (placed first (bits_of width) v x))))
      → LeadsInput chan first (bits_of width) 0 x e P ↔ Leads layout closed Γ (input chan.0 var) x e (λ y. At w next y (B (change_of keep x y)))
  input_goes x e h P B f = (
    λ k. record {
      seen = ap (is_open closed) k.is ∙ seen;
      y = placed first (bits_of width) k.u x;
      below = placed_small first (bits_of width) k.u x fits h;
      after = (k.u, has_it k.u k.below, k.is ∙ ap (input_event chan) (from_zero k.u), state_there k.u x k.below);
      behaved = (f k.u k.below).0 (subst (λ v. P v (placed first (bits_of width) k.u x)) (from_zero k.u) k.behaved);
    },
    λ k.
        let v = k.after.0 in
        let small = is_small k.after.0 k.after.1 in
        let y = placed first (bits_of width) k.after.0 x in
        record {
          u = k.after.0;
          below = is_small k.after.0 k.after.1;
          is = k.after.2 ∙ ap (input_event chan) (sym (from_zero k.after.0));
          behaved = subst (λ v. P v (placed first (bits_of width) k.after.0 x)) (sym (from_zero k.after.0)) ((f k.after.0 (is_small k.after.0 k.after.1)).1
              ((same_at w vars layout n frame keep few next over x k.y (placed first (bits_of width) k.after.0 x) k.below (placed_small first (bits_of width) k.after.0 x fits h) (k.after.3 ∙ sym (state_there k.after.0 x (is_small k.after.0 k.after.1))) B).0 k.behaved));
        },
  )

  module _ (row_small : row < 2 ^ 64) (map r : MapId) (has : HasNodes w map) (inputs : AreInputs w chan first (bits_of width) row 0 next map) (changed : IsChanged w (λ x. bit_and x row) map r) where
    pub input_guarded : IsGuarded w layout keep closed Γ (input chan.0 var) next r
    input_guarded = record {
      guarded = λ x b h e.
          let a = has.nodes x h in
          let small : bit_and x row < 2 ^ 64 = omega (arith, and_le_r x row) in
          offering_same w b _ _ _ _ _ _ (offering_turned w (bit_and x row) small a.0 b _ _ _ (inputs.inputs x a.0 h a.1) (changed.changed x a.0 b h a.1 e))
          (input_takes x)
          (λ f t X. input_goes x f h (λ v y. At w next y (λ m. fails w m t X)) (λ c m. fails w m t X) (λ v l. (λ k. k, λ k. k)))
          (λ f t z l. input_goes x f h (λ v y. At w next y (λ m. ends w m t (bit_xor (bit_xor z (bit_and x row)) (digits_at first row v)))) (λ c m. ends w m t (bit_xor z c))
          (λ v m. at_iff w next next (placed first (bits_of width) v x) (placed first (bits_of width) v x) _ _ refl (λ q. ap (λ c. ends w q t c) (placed_change first (bits_of width) keep row v x fits m inside outside z))));
    }

-- ---- outputs
module _ (w : World) (vars : List (Name × Kind)) (layout : List (Name × Width × ℕ)) (n : ℕ) (frame : IsFrame vars layout n) (keep : ℕ) (few : keep < 2 ^ n) (closed : List Name) (next : MapId) (over : IsOver w n next)
    (Γ : Environment) (chan : Name) (z : Exp) (seen : list_all (λ (c : Name). not (chan.0 == c.0)) closed ≡ true) where
  no_change : (x : ℕ) → change_of keep x x ≡ 0
  no_change x = ap (λ m. bit_and m keep) (xor_self x)

  output_goes : (x : ℕ) (e : Event) → x < 2 ^ 64 → (m : NodeId) → value w.maps next x ≡ Some m → (A : Bool) (B : ℕ → NodeId → Bool) → A ≡ B 0 m
      → ((e ≡ output_event chan (eval Γ z (state_of layout x))) × (A ≡ true)) ↔ Leads layout closed Γ (output chan.0 z) x e (λ y. At w next y (B (change_of keep x y)))
  output_goes x e h m there A B same = (
    λ k. record {
      seen = ap (is_open closed) k.0 ∙ seen;
      y = x;
      below = h;
      after = (k.0, refl);
      behaved = record { m = m; leads = there; behaved = ap (λ c. B c m) (no_change x) ∙ sym same ∙ k.1 };
    },
    λ k. let at = (same_at w vars layout n frame keep few next over x k.y x k.below h k.after.1 B).0 k.behaved in
        (k.after.0, same ∙ sym (ap (λ c. B c m) (no_change x)) ∙ ap (B (change_of keep x x)) (same_Some m at.m (sym there ∙ at.leads)) ∙ at.behaved),
  )

  pub output_guarded : (r : MapId) → ((x : ℕ) (m a : NodeId) → x < 2 ^ 64 → value w.maps next x ≡ Some m → value w.maps r x ≡ Some a → IsPrefixed w (output_event chan (eval Γ z (state_of layout x))) m a)
      → IsGuarded w layout keep closed Γ (output chan.0 z) next r
  output_guarded r before = record {
    guarded = λ x a h e.
        let m = over.has.nodes x h in
        offering_same w a _ _ _ _ _ _ (offering_prefixed w (output_event chan (eval Γ z (state_of layout x))) m.0 a (before x m.0 a h m.1 e))
        (λ f. (λ k. record { seen = ap (is_open closed) k ∙ seen; s = state_of layout x; after = (k, refl) }, λ k. k.after.0))
        (λ f t X. output_goes x f h m.0 m.1 (fails w m.0 t X) (λ c q. fails w q t X) refl)
        (λ f t y small. output_goes x f h m.0 m.1 (ends w m.0 t y) (λ c q. ends w q t (bit_xor y c)) (ap (λ c. ends w m.0 t c) (sym (xor_zero_r y))));
  }

-- ---- where a guard leads
pub receive_settles : (vars : List (Name × Kind)) (layout : List (Name × Width × ℕ)) (n : ℕ) → IsFrame vars layout n → (Γ : Environment) → IsAround Γ vars → (wait : Waiting) → waiting_kept Γ wait ≡ true → n ≤ 64 → (x : ℕ) → Settles layout Γ x wait
receive_settles vars layout n frame Γ around ready kept few x e s a = absurd a
receive_settles vars layout n frame Γ around (input c v) kept few x e s a =
    let found = states_reached vars layout n frame Γ around (receive c v) kept x (e ∷ []) s (taken (inl (refl, (s, [], at_event a, (refl, refl))))) in
    (found.0, pow_more n 64 found.0 few found.1, found.2)
receive_settles vars layout n frame Γ around (output c z) kept few x e s a =
    let found = states_reached vars layout n frame Γ around (send c z) kept x (e ∷ []) s (taken (inl (refl, (s, [], at_event a, (refl, refl))))) in
    (found.0, pow_more n 64 found.0 few found.1, found.2)
