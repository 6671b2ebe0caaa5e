-- The inputs of a variable: one value, the values of one more digit, and all values of the channel.
use Rattle.std.proofs.Common.{◌≡◌, ◌<◌, ◌≤◌, ◌+◌, ◌-◌, ◌^◌, ℕ, suc, Bool, true, List, Option, Some, refl, sym, ap, ◌∙◌, subst, inl, inr, ⊎_elim, arith}
use Rattle.std.specs.Prelude.{◌↔◌, ◌⊎◌}
use Rattle.std.specs.Int.Bits.{bit_xor}
use Rattle.std.proofs.lemmas.Bool.{cases_lt}
use Rattle.std.proofs.lemmas.Option.{same_Some}
use Rattle.occ_syntax.specs.occ_base.declared.event.Event.{Event}
use Rattle.occ_syntax.specs.occ_base.declared.names.Name.{Name}
use Rattle.occ_norm_frame.specs.occ_dd.Assignment.{with_bit}
use Rattle.occ_norm_frame.specs.occ_mdd.Maps.{value}
use Rattle.occ_norm_frame.specs.occ_mdd.declared.map.MapId.{MapId}
use Rattle.occ_norm_frame.specs.occ_node.World.{IsNode, fails, ends}
use Rattle.occ_norm_frame.specs.occ_node.declared.node.NodeId.{NodeId}
use Rattle.occ_norm_frame.specs.occ_node.declared.world.World.{World}
use Rattle.occ_norm_frame.specs.occ_follow.Sequence.{HasNodes}
use Rattle.occ_norm_frame.specs.Lifted.{IsMerged, IsPrefixed, IsTurned, OnOne, OnTwo}
use Rattle.occ_norm_frame.specs.Maps.{Extends, Lifts}
use Rattle.occ_norm_frame.specs.Growth.{turned_grow}
use Rattle.occ_norm_alt.specs.Inputs.{AreInputs, AreInputsAt, LeadsInput, TakesInput, digits_at, input_event, placed}
use Rattle.occ_syntax.specs.occ_base.declared.width.Width.{Width}
use Rattle.occ_syntax.specs.Scopes.{Environment}
use Rattle.occ_syntax.specs.Tree.{Waiting}
use Rattle.occ_norm_frame.specs.After.{change_of}
use Rattle.occ_norm_alt.specs.Offering.{At, IsGuarded, Leads}
use Rattle.occ_norm_alt.proofs.Joining.{leads_iff}
use Rattle.occ_norm_alt.proofs.Making.{offering_grow, offering_merged, offering_prefixed, offering_same}
use Rattle.occ_norm_alt.proofs.Placed.{placed_same, placed_small, top_high, top_low, top_rest}

-- ---- relations at the nodes that are there
pub on_one : (R : NodeId → NodeId → Type 0) (o q : Option NodeId) (p r : NodeId) → OnOne R o q → o ≡ Some p → q ≡ Some r → R p r
on_one R o q p r h e f = subst (λ q. OnOne R (Some p) q) f (subst (λ o. OnOne R o q) e h)

pub on_two : (R : NodeId → NodeId → NodeId → Type 0) (a b c : Option NodeId) (p q r : NodeId) → OnTwo R a b c → a ≡ Some p → b ≡ Some q → c ≡ Some r → R p q r
on_two R a b c p q r h e f g = subst (λ c. OnTwo R (Some p) (Some q) c) g (subst (λ b. OnTwo R (Some p) b c) f (subst (λ a. OnTwo R a b c) e h))

pub at_iff : (w : World) (map other : MapId) (y z : ℕ) (B C : NodeId → Bool) → value w.maps map y ≡ value w.maps other z → ((m : NodeId) → B m ≡ C m) → At w map y B ↔ At w other z C
at_iff w map other y z B C e f = (
  λ k. record { m = k.m; leads = sym e ∙ k.leads; behaved = sym (f k.m) ∙ k.behaved },
  λ k. record { m = k.m; leads = e ∙ k.leads; behaved = f k.m ∙ k.behaved },
)

-- ---- one value
module _ (w : World) (chan : Name) (first keep base : ℕ) (next : MapId) (x : ℕ) (m n a : NodeId) (there : value w.maps next x ≡ Some m) (turned : IsTurned w (digits_at first keep base) m n) (before : IsPrefixed w (input_event chan base) n a) where
  no_digit : (u : ℕ) → u < 2 ^ 0 → base + u ≡ base
  no_digit u h = omega arith

  none_less : (u : ℕ) → u < 2 ^ 0 → base ≡ base + u
  none_less u h = omega arith

  nothing_more : base ≡ base + 0
  nothing_more = omega arith

  one_takes : (e : Event) → (e ≡ input_event chan base) ↔ TakesInput chan 0 base e
  one_takes e = (λ k. record { u = 0; below = omega arith; is = k ∙ ap (input_event chan) nothing_more }, λ k. k.is ∙ ap (input_event chan) (no_digit k.u k.below))

  one_leads : (e : Event) (A : Bool) (B : ℕ → NodeId → Bool) → A ≡ B base m → ((e ≡ input_event chan base) × (A ≡ true)) ↔ LeadsInput chan first 0 base x e (λ v y. At w next y (B v))
  one_leads e A B same = (
    λ k. record { u = 0; below = omega arith; is = k.0 ∙ ap (input_event chan) nothing_more; behaved = record { m = m; leads = there; behaved = sym (same ∙ ap (λ v. B v m) nothing_more) ∙ k.1 } },
    λ k. (
      k.is ∙ ap (input_event chan) (no_digit k.u k.below),
      same ∙ (λ i. B (none_less k.u k.below i) (same_Some m k.behaved.m (sym there ∙ k.behaved.leads) i)) ∙ k.behaved.behaved,
    ),
  )

  pub one_input : AreInputsAt w chan first 0 keep base next x a
  one_input = offering_same w a _ _ _ _ _ _ (offering_prefixed w (input_event chan base) n a before)
      one_takes
      (λ e t X. one_leads e (fails w n t X) (λ v m. fails w m t X) (turned.turned.same_fail t X))
      (λ e t z small. one_leads e (ends w n t z) (λ v m. ends w m t (bit_xor z (digits_at first keep v))) (turned.turned.turned_end t z small))

pub one_inputs : (v w : World) → Extends v w → (chan : Name) (first keep base change : ℕ) (next turned r : MapId) → change ≡ digits_at first keep base → HasNodes v next → HasNodes v turned
    → Lifts v next next turned (λ a b. OnOne (IsTurned v change) a) → Lifts w turned turned r (λ a b. OnOne (IsPrefixed w (input_event chan base)) a) → AreInputs w chan first 0 keep base next r
one_inputs v w k chan first keep base change next turned r same has there shifted prefixed = record {
  inputs = λ x a h e.
      let m = has.nodes x h in
      let n = there.nodes x h in
      let is : IsTurned v (digits_at first keep base) m.0 n.0 = subst (λ d. IsTurned v d m.0 n.0) same (on_one _ _ _ m.0 n.0 (shifted.related x h) m.1 n.1) in
      one_input w chan first keep base next x m.0 n.0 a (k.maps.same next x has.known ∙ m.1) (turned_grow v w k.grows (digits_at first keep base) m.0 n.0 is)
      (on_one _ _ _ n.0 a (prefixed.related x h) (k.maps.same turned x there.known ∙ n.1) e);
}

-- ---- one more digit
module _ (chan : Name) (first n base : ℕ) where
  half : 2 ^ suc n ≡ 2 ^ n + 2 ^ n
  half = omega arith

  shifted_sum : (u : ℕ) → base + 2 ^ n + u ≡ base + (2 ^ n + u)
  shifted_sum u = omega arith

  both_takes : (e : Event) → (TakesInput chan n base e ⊎ TakesInput chan n (base + 2 ^ n) e) ↔ TakesInput chan (suc n) base e
  both_takes e = (
    ⊎_elim
        (λ (k : TakesInput chan n base e). let b : k.u < 2 ^ n = k.below in record { u = k.u; below = omega (arith, half); is = k.is })
        (λ (k : TakesInput chan n (base + 2 ^ n) e). let b : k.u < 2 ^ n = k.below in record { u = 2 ^ n + k.u; below = omega (arith, half); is = k.is ∙ ap (input_event chan) (shifted_sum k.u) }),
    λ k. let b : k.u < 2 ^ suc n = k.below in ⊎_elim
        (λ (l : k.u < 2 ^ n). inl (record { u = k.u; below = l; is = k.is }))
        (λ (l : 2 ^ n ≤ k.u).
        let e : base + k.u ≡ base + 2 ^ n + (k.u - 2 ^ n) = omega arith in
        inr (record { u = k.u - 2 ^ n; below = omega (arith, half); is = k.is ∙ ap (input_event chan) e }))
        (cases_lt k.u (2 ^ n)),
  )

  -- the digits of a number, by its highest
  low_place : (u x : ℕ) → u < 2 ^ n → placed first (suc n) u x ≡ with_bit (placed first n u x) (first + n) 0
  low_place u x h = ap (with_bit (placed first n u x) (first + n)) (top_low u n h)

  high_place : (u x : ℕ) → u < 2 ^ n → placed first (suc n) (2 ^ n + u) x ≡ with_bit (placed first n u x) (first + n) 1
  high_place u x h = λ i. with_bit (placed_same first n (2 ^ n + u) u x (λ k l. top_rest u n k l) i) (first + n) (top_high u n h i)

  both_leads : (x : ℕ) (e : Event) (P Q R : ℕ → ℕ → Type 0) → ((v y : ℕ) → P v y ↔ R v (with_bit y (first + n) 0)) → ((v y : ℕ) → Q v y ↔ R v (with_bit y (first + n) 1))
      → (LeadsInput chan first n base x e P ⊎ LeadsInput chan first n (base + 2 ^ n) x e Q) ↔ LeadsInput chan first (suc n) base x e R
  both_leads x e P Q R f g = (
    ⊎_elim
        (λ (k : LeadsInput chan first n base x e P). let b : k.u < 2 ^ n = k.below in record {
          u = k.u;
          below = omega (arith, half);
          is = k.is;
          behaved = subst (R (base + k.u)) (sym (low_place k.u x k.below)) ((f (base + k.u) (placed first n k.u x)).0 k.behaved);
        })
        (λ (k : LeadsInput chan first n (base + 2 ^ n) x e Q). let b : k.u < 2 ^ n = k.below in record {
          u = 2 ^ n + k.u;
          below = omega (arith, half);
          is = k.is ∙ ap (input_event chan) (shifted_sum k.u);
          behaved = subst (R (base + (2 ^ n + k.u))) (sym (high_place k.u x k.below)) (subst (λ v. R v (with_bit (placed first n k.u x) (first + n) 1)) (shifted_sum k.u) ((g (base + 2 ^ n + k.u) (placed first n k.u x)).0 k.behaved));
        }),
    λ k. let b : k.u < 2 ^ suc n = k.below in ⊎_elim
        (λ (l : k.u < 2 ^ n). inl (record { u = k.u; below = l; is = k.is; behaved = (f (base + k.u) (placed first n k.u x)).1 (subst (R (base + k.u)) (low_place k.u x l) k.behaved) }))
        (λ (l : 2 ^ n ≤ k.u).
        let d : ℕ = k.u - 2 ^ n in
        let whole : k.u ≡ 2 ^ n + (k.u - 2 ^ n) = omega arith in
        let less : k.u - 2 ^ n < 2 ^ n = omega (arith, half) in
        let e : base + k.u ≡ base + 2 ^ n + (k.u - 2 ^ n) = omega arith in
        inr (record {
          u = k.u - 2 ^ n;
          below = less;
          is = k.is ∙ ap (input_event chan) e;
          behaved = (g (base + 2 ^ n + (k.u - 2 ^ n)) (placed first n (k.u - 2 ^ n) x)).1
              (subst (λ v. R v (with_bit (placed first n (k.u - 2 ^ n) x) (first + n) 1)) e (subst (R (base + k.u)) (ap (λ u. placed first (suc n) u x) whole ∙ high_place (k.u - 2 ^ n) x less) k.behaved));
        }))
        (cases_lt k.u (2 ^ n)),
  )

module _ (w : World) (chan : Name) (first n keep base : ℕ) (next zero_side one_side low high r : MapId)
    (on_zero : (y : ℕ) → value w.maps zero_side y ≡ value w.maps next (with_bit y (first + n) 0)) (on_one_side : (y : ℕ) → value w.maps one_side y ≡ value w.maps next (with_bit y (first + n) 1))
    (lows : AreInputs w chan first n keep base zero_side low) (highs : AreInputs w chan first n keep (base + 2 ^ n) one_side high) (has_low : HasNodes w low) (has_high : HasNodes w high)
    (joint : Lifts w low high r (OnTwo (IsMerged w))) where
  more_inputs : AreInputs w chan first (suc n) keep base next r
  more_inputs = record {
    inputs = λ x c h e.
        let a = has_low.nodes x h in
        let b = has_high.nodes x h in
        offering_same w c _ _ _ _ _ _ (offering_merged w a.0 b.0 c _ _ _ _ _ _ (lows.inputs x a.0 h a.1) (highs.inputs x b.0 h b.1) (on_two _ _ _ _ a.0 b.0 c (joint.related x h) a.1 b.1 e))
        (both_takes chan first n base)
        (λ f t X. both_leads chan first n base x f _ _ _
        (λ v y. at_iff w zero_side next y (with_bit y (first + n) 0) (λ m. fails w m t X) (λ m. fails w m t X) (on_zero y) (λ m. refl))
        (λ v y. at_iff w one_side next y (with_bit y (first + n) 1) (λ m. fails w m t X) (λ m. fails w m t X) (on_one_side y) (λ m. refl)))
        (λ f t z small. both_leads chan first n base x f _ _ _
        (λ v y. at_iff w zero_side next y (with_bit y (first + n) 0) (λ m. ends w m t (bit_xor z (digits_at first keep v))) (λ m. ends w m t (bit_xor z (digits_at first keep v))) (on_zero y) (λ m. refl))
        (λ v y. at_iff w one_side next y (with_bit y (first + n) 1) (λ m. ends w m t (bit_xor z (digits_at first keep v))) (λ m. ends w m t (bit_xor z (digits_at first keep v))) (on_one_side y) (λ m. refl)));
  }

  pub inputs_more : (left : ℕ) → suc n ≡ left → AreInputs w chan first left keep base next r
  inputs_more left e = subst (λ l. AreInputs w chan first l keep base next r) e more_inputs

-- ---- in a later world
module _ (v w : World) (k : Extends v w) (next : MapId) (has : HasNodes v next) where
  pub at_grow : (y : ℕ) → y < 2 ^ 64 → (B C : NodeId → Bool) → ((m : NodeId) → IsNode v m → C m ≡ B m) → At v next y B ↔ At w next y C
  at_grow y h B C f = (
    λ a. record { m = a.m; leads = k.maps.same next y has.known ∙ a.leads; behaved = f a.m (node y h a.m a.leads) ∙ a.behaved },
    λ a. let led : value v.maps next y ≡ Some a.m = sym (k.maps.same next y has.known) ∙ a.leads in record { m = a.m; leads = led; behaved = sym (f a.m (node y h a.m led)) ∙ a.behaved },
  )
    where
      node : (y : ℕ) → y < 2 ^ 64 → (m : NodeId) → value v.maps next y ≡ Some m → IsNode v m
      node y h m e = let found = has.nodes y h in subst (IsNode v) (same_Some found.0 m (sym found.1 ∙ e)) found.2

  pub input_leads : (chan : Name) (first left base x : ℕ) → first + left ≤ 64 → x < 2 ^ 64 → (e : Event) (B C : ℕ → NodeId → Bool) → ((u : ℕ) (m : NodeId) → IsNode v m → C u m ≡ B u m)
      → LeadsInput chan first left base x e (λ u y. At v next y (B u)) ↔ LeadsInput chan first left base x e (λ u y. At w next y (C u))
  input_leads chan first left base x fits h e B C f = (
    λ l. record { u = l.u; below = l.below; is = l.is; behaved = (at_grow (placed first left l.u x) (placed_small first left l.u x fits h) (B (base + l.u)) (C (base + l.u)) (f (base + l.u))).0 l.behaved },
    λ l. record { u = l.u; below = l.below; is = l.is; behaved = (at_grow (placed first left l.u x) (placed_small first left l.u x fits h) (B (base + l.u)) (C (base + l.u)) (f (base + l.u))).1 l.behaved },
  )

  pub inputs_grow : (chan : Name) (first left keep base : ℕ) (r : MapId) → first + left ≤ 64 → HasNodes v r → AreInputs v chan first left keep base next r → AreInputs w chan first left keep base next r
  inputs_grow chan first left keep base r fits hr is = record {
    inputs = λ x a h e.
        let was : value v.maps r x ≡ Some a = sym (k.maps.same r x hr.known) ∙ e in
        offering_same w a _ _ _ _ _ _ (offering_grow v w k.grows a _ _ _ (is.inputs x a h was))
        (λ f. (λ l. l, λ l. l))
        (λ f t X. input_leads chan first left base x fits h f (λ u m. fails v m t X) (λ u m. fails w m t X) (λ u m l. k.grows.same_fails m t X l))
        (λ f t z small. input_leads chan first left base x fits h f (λ u m. ends v m t (bit_xor z (digits_at first keep u))) (λ u m. ends w m t (bit_xor z (digits_at first keep u))) (λ u m l. k.grows.same_ends m t (bit_xor z (digits_at first keep u)) l));
  }

  guard_leads : (layout : List (Name × Width × ℕ)) (closed : List Name) (Γ : Environment) (wait : Waiting) (x : ℕ) (e : Event) (B C : ℕ → NodeId → Bool) → ((y : ℕ) (m : NodeId) → IsNode v m → C y m ≡ B y m)
      → Leads layout closed Γ wait x e (λ y. At v next y (B y)) ↔ Leads layout closed Γ wait x e (λ y. At w next y (C y))
  guard_leads layout closed Γ wait x e B C f = leads_iff layout closed Γ wait x e (λ y. At v next y (B y)) (λ y. At w next y (C y)) (λ y h. at_grow y h (B y) (C y) (f y))

  pub guarded_grow : (layout : List (Name × Width × ℕ)) (keep : ℕ) (closed : List Name) (Γ : Environment) (wait : Waiting) (r : MapId) → HasNodes v r → IsGuarded v layout keep closed Γ wait next r → IsGuarded w layout keep closed Γ wait next r
  guarded_grow layout keep closed Γ wait r hr is = record {
    guarded = λ x a h e.
        let was : value v.maps r x ≡ Some a = sym (k.maps.same r x hr.known) ∙ e in
        offering_same w a _ _ _ _ _ _ (offering_grow v w k.grows a _ _ _ (is.guarded x a h was))
        (λ f. (λ l. l, λ l. l))
        (λ f t X. guard_leads layout closed Γ wait x f (λ y m. fails v m t X) (λ y m. fails w m t X) (λ y m l. k.grows.same_fails m t X l))
        (λ f t z small. guard_leads layout closed Γ wait x f (λ y m. ends v m t (bit_xor z (change_of keep x y))) (λ y m. ends w m t (bit_xor z (change_of keep x y))) (λ y m l. k.grows.same_ends m t (bit_xor z (change_of keep x y)) l));
  }
