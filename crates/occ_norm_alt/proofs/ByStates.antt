-- Rows of inputs for the states that agree with one, bit by bit.
use Rattle.std.proofs.Common.{◌≡◌, ◌<◌, ◌≤◌, ◌+◌, ◌%◌, ◌^◌, ◌==◌, ℕ, Bool, cond, Some, sym, ap, ◌∙◌, subst, ⊎_elim, arith}
use Rattle.std.specs.Prelude.{◌↔◌, ◌⊎◌, bit_xor}
use Rattle.std.specs.Int.{bit_at}
use Rattle.std.proofs.Math.Nat.{mod-lt}
use Rattle.std.proofs.lemmas.Bool.{cases_lt}
use Rattle.std.proofs.lemmas.Nat.{div-add-mod', pow_pos}
use Rattle.std.proofs.lemmas.Nat.Bits.{bit_at_above, bit_at-lt, bit_at-zero, same_from_bits}
use Rattle.std.proofs.lemmas.Option.{same_Some}
use Rattle.occ_syntax.specs.occ_base.declared.event.Event.{Event}
use Rattle.occ_syntax.specs.occ_base.declared.names.Name.{Name}
use Rattle.occ_norm_frame.proofs.from_bits.Arithmetic.{low_bit}
use Rattle.occ_norm_frame.specs.occ_dd.Store.{IsSet, has}
use Rattle.occ_norm_frame.specs.occ_dd.declared.set.SetId.{SetId}
use Rattle.occ_norm_frame.specs.occ_dd.Assignment.{with_bit}
use Rattle.occ_norm_frame.proofs.from_dd.Bits.{bit_at-with_bit_other, bit_at-with_bit_same, bit_cases, with_bit_lt}
use Rattle.occ_norm_frame.specs.occ_follow.Sequence.{HasNodes}
use Rattle.occ_norm_frame.specs.occ_mdd.Maps.{IsMap, value}
use Rattle.occ_norm_frame.specs.occ_mdd.declared.map.MapId.{MapId}
use Rattle.occ_norm_frame.specs.occ_node.World.{ends, fails}
use Rattle.occ_norm_frame.specs.occ_node.declared.node.NodeId.{NodeId}
use Rattle.occ_norm_frame.specs.occ_node.declared.world.World.{World}
use Rattle.occ_norm_frame.specs.After.{IsOver}
use Rattle.occ_norm_frame.specs.Maps.{Extends}
use Rattle.occ_norm_frame.proofs.Worlds.{has_nodes-extends}
use Rattle.occ_norm_alt.specs.Inputs.{Agrees, AreInputs, AreInputsAt, AreRows, LeadsInput, digits_at, placed}
use Rattle.occ_norm_alt.specs.Offering.{At}
use Rattle.occ_norm_alt.proofs.Making.{offering_grow, offering_same}
use Rattle.occ_norm_alt.proofs.Placed.{placed_in, placed_out, placed_small, row_cases}
use Rattle.occ_norm_alt.proofs.Receiving.{input_leads}

-- ---- from another state
module _ (w : World) (chan : Name) (first bits : ℕ) (next : MapId) (y z : ℕ) (same : (u : ℕ) → u < 2 ^ bits → value w.maps next (placed first bits u y) ≡ value w.maps next (placed first bits u z)) where
  leads_moved : (e : Event) (B : ℕ → NodeId → Bool) → LeadsInput chan first bits 0 y e (λ u s. At w next s (B u)) ↔ LeadsInput chan first bits 0 z e (λ u s. At w next s (B u))
  leads_moved e B = (
    λ l. record { u = l.u; below = l.below; is = l.is; behaved = record { m = l.behaved.m; leads = sym (same l.u l.below) ∙ l.behaved.leads; behaved = l.behaved.behaved } },
    λ l. record { u = l.u; below = l.below; is = l.is; behaved = record { m = l.behaved.m; leads = same l.u l.below ∙ l.behaved.leads; behaved = l.behaved.behaved } },
  )

  inputs_moved : (a : NodeId) → AreInputsAt w chan first bits 0 0 next y a → AreInputsAt w chan first bits 0 0 next z a
  inputs_moved a is = offering_same w a _ _ _ _ _ _ is (λ e. (λ l. l, λ l. l)) (λ e t X. leads_moved e (λ u m. fails w m t X))
      (λ e t x small. leads_moved e (λ u m. ends w m t (bit_xor x (digits_at first 0 u))))

-- numbers put in place where the other bits are the same
placed_over : (first n u x y : ℕ) → ((k : ℕ) → (k < first) ⊎ (first + n ≤ k) → bit_at x k ≡ bit_at y k) → placed first n u x ≡ placed first n u y
placed_over first n u x y same = same_from_bits (placed first n u x) (placed first n u y) (λ k. ⊎_elim
    (λ (h : (j : ℕ) × (j < n) × (k ≡ first + j)). ap (bit_at (placed first n u x)) h.2 ∙ placed_in first n u x h.0 h.1 ∙ sym (ap (bit_at (placed first n u y)) h.2 ∙ placed_in first n u y h.0 h.1))
    (λ (out : (k < first) ⊎ (first + n ≤ k)). placed_out first n u x k out ∙ same k out ∙ sym (placed_out first n u y k out))
    (row_cases first n k))

-- ---- in a later world
module _ (v w : World) (k : Extends v w) (chan : Name) (first bits : ℕ) (next : MapId) (fits : first + bits ≤ 64) (has : HasNodes v next) where
  inputs_later : (y : ℕ) (a : NodeId) → y < 2 ^ 64 → AreInputsAt v chan first bits 0 0 next y a → AreInputsAt w chan first bits 0 0 next y a
  inputs_later y a small is = offering_same w a _ _ _ _ _ _ (offering_grow v w k.grows a _ _ _ is)
      (λ f. (λ l. l, λ l. l))
      (λ f t X. input_leads v w k next has chan first bits 0 y fits small f (λ u m. fails v m t X) (λ u m. fails w m t X) (λ u m l. k.grows.same_fails m t X l))
      (λ f t z l. input_leads v w k next has chan first bits 0 y fits small f (λ u m. ends v m t (bit_xor z (digits_at first 0 u))) (λ u m. ends w m t (bit_xor z (digits_at first 0 u))) (λ u m l. k.grows.same_ends m t (bit_xor z (digits_at first 0 u)) l))

  rows_grow : (left state : ℕ) (r : MapId) → AreRows v chan first bits next left state r → AreRows w chan first bits next left state r
  rows_grow left state r are = record {
    has = has_nodes-extends v w k r are.has;
    rows = λ x y a h agree e. inputs_later y a agree.small (are.rows x y a h agree (sym (k.maps.same r x are.has.known) ∙ e));
  }

-- ---- no bits are left
-- the worlds: with the row, and after its map is made
pub rows_one : (v w : World) → Extends v w → (chan : Name) (first bits : ℕ) (next : MapId) (left state : ℕ) (n : NodeId) (r : MapId) → first + bits ≤ 64 → state < 2 ^ 64 → HasNodes v next → left ≡ 0
    → AreInputsAt v chan first bits 0 0 next state n → IsMap w.maps r (λ x. Some n) → AreRows w chan first bits next left state r
rows_one v w k chan first bits next left state n r fits small has none before is =
    let row = inputs_later v w k chan first bits next fits has state n small before in
    record {
      has = record { known = is.known; nodes = λ x h. (n, is.values x, row.known) };
      rows = λ x y a h agree e.
          let same : state ≡ y = same_from_bits state y (λ k. sym (agree.high k (omega (arith, none)))) in
          subst (λ y. AreInputsAt w chan first bits 0 0 next y a) same (subst (AreInputsAt w chan first bits 0 0 next state) (same_Some n a (sym (is.values x) ∙ e)) row);
    }

-- ---- a bit of the variable
pub rows_inside : (w : World) (chan : Name) (first bits : ℕ) (next : MapId) (bit left state : ℕ) (r : MapId) → left ≡ bit + 1 → left ≤ 64 → first ≤ bit → bit < first + bits
    → AreRows w chan first bits next bit state r → AreRows w chan first bits next left state r
rows_inside w chan first bits next bit left state r e few from to are = record {
  has = are.has;
  rows = λ x y a h agree v.
      let z = with_bit y bit (bit_at state bit) in
      let other : (k : ℕ) → (k ≡ bit → ⊥) → bit_at z k ≡ bit_at y k = (λ k ne. bit_at-with_bit_other y bit (bit_at state bit) k ne) in
      let agrees : Agrees bit state x z = record {
        small = with_bit_lt y bit (bit_at state bit) 64 (omega (arith, e, few)) agree.small;
        low = λ k l. other k (λ q. omega (arith, q, l)) ∙ agree.low k (omega (arith, l, e));
        high = λ k l. ⊎_elim
            (λ (m : k < bit + 1). let q : k ≡ bit = omega (arith, m, l) in ap (bit_at z) q ∙ bit_at-with_bit_same y bit (bit_at state bit) (bit_at-lt state bit) ∙ sym (ap (bit_at state) q))
            (λ (m : bit + 1 ≤ k). other k (λ q. omega (arith, q, m)) ∙ agree.high k (omega (arith, m, e)))
            (cases_lt k (bit + 1));
      } in
      inputs_moved w chan first bits next z y
      (λ u l. ap (value w.maps next) (placed_over first bits u z y (λ k out. other k (λ q. ⊎_elim (λ (m : k < first). omega (arith, m, q, from)) (λ (m : first + bits ≤ k). omega (arith, m, q, to)) out))))
      a (are.rows x z a h agrees v);
}

-- ---- another bit
module _ (w : World) (chan : Name) (first bits : ℕ) (next : MapId) (bit left state : ℕ) (low high r : MapId) (e : left ≡ bit + 1)
    (lows : AreRows w chan first bits next bit (with_bit state bit 0) low) (highs : AreRows w chan first bits next bit (with_bit state bit 1) high)
    (both : (x : ℕ) → value w.maps r x ≡ cond (bit_at x bit == 1) (value w.maps high x) (value w.maps low x)) where
  half : (d : ℕ) → d < 2 → (x y : ℕ) → bit_at x bit ≡ d → Agrees left state x y → Agrees bit (with_bit state bit d) x y
  half d small x y at agree = record {
    small = agree.small;
    low = λ k l. agree.low k (omega (arith, l, e));
    high = λ k l. ⊎_elim
        (λ (m : k < bit + 1).
        let q : k ≡ bit = omega (arith, m, l) in
        agree.low k (omega (arith, m, e)) ∙ ap (bit_at x) q ∙ at ∙ sym (ap (bit_at (with_bit state bit d)) q ∙ bit_at-with_bit_same state bit d small))
        (λ (m : bit + 1 ≤ k). agree.high k (omega (arith, m, e)) ∙ sym (bit_at-with_bit_other state bit d k (λ q. omega (arith, q, m))))
        (cases_lt k (bit + 1));
  }

  halves : (x y : ℕ) (a : NodeId) → x < 2 ^ 64 → Agrees left state x y → value w.maps r x ≡ Some a → AreInputsAt w chan first bits 0 0 next y a
  halves x y a h agree v = ⊎_elim
      (λ (z : bit_at x bit ≡ 0). lows.rows x y a h (half 0 (omega arith) x y z agree) (sym (both x ∙ ap (λ n. cond (n == 1) (value w.maps high x) (value w.maps low x)) z) ∙ v))
      (λ (z : bit_at x bit ≡ 1). highs.rows x y a h (half 1 (omega arith) x y z agree) (sym (both x ∙ ap (λ n. cond (n == 1) (value w.maps high x) (value w.maps low x)) z) ∙ v))
      (bit_cases x bit)

-- the worlds: after the low half, after the high half, after the set, and at the end
pub rows_both : (s t u v w : World) → Extends s t → Extends t u → Extends u v → Extends v w → (chan : Name) (first bits : ℕ) (next : MapId) (bit left state off on : ℕ) (low high r : MapId) (set : SetId) → left ≡ bit + 1 → first + bits ≤ 64
    → HasNodes s next → off ≡ with_bit state bit 0 → on ≡ with_bit state bit 1 → IsSet v.store set (λ x. bit_at x bit == 1) → AreRows t chan first bits next bit off low → AreRows u chan first bits next bit on high
    → IsMap w.maps r (λ x. cond (has v.store set x) (value v.maps high x) (value v.maps low x)) → (HasNodes v high → HasNodes v low → HasNodes w r) → AreRows w chan first bits next left state r
rows_both s t u v w st tu uv vw chan first bits next bit left state off on low high r set e fits has z o is lows highs made kept =
    let next_t = has_nodes-extends s t st next has in
    let next_u = has_nodes-extends t u tu next next_t in
    let next_v = has_nodes-extends u v uv next next_u in
    let high_v = rows_grow u v uv chan first bits next fits next_u bit on high highs in
    let low_v = rows_grow u v uv chan first bits next fits next_u bit off low (rows_grow t u tu chan first bits next fits next_t bit off low lows) in
    let high_w = rows_grow v w vw chan first bits next fits next_v bit on high high_v in
    let low_w = rows_grow v w vw chan first bits next fits next_v bit off low low_v in
    record {
      has = kept high_v.has low_v.has;
      rows = halves w chan first bits next bit left state low high r e
          (subst (λ q. AreRows w chan first bits next bit q low) z low_w) (subst (λ q. AreRows w chan first bits next bit q high) o high_w)
          (λ x. made.values x ∙ (λ i. cond (is.members x i) (sym (vw.maps.same high x high_v.has.known) i) (sym (vw.maps.same low x low_v.has.known) i)));
    }

-- ---- all bits that matter
pub rows_whole : (w : World) (n : ℕ) (chan : Name) (first bits keep : ℕ) (next r : MapId) → n ≤ 64 → first + bits ≤ 64 → keep ≡ 0 → IsOver w n next → AreRows w chan first bits next n 0 r → AreInputs w chan first bits keep 0 next r
rows_whole w n chan first bits keep next r few fits none over are = subst (λ k. AreInputs w chan first bits k 0 next r) (sym none) (record {
  inputs = λ x a h e.
      let y = x % 2 ^ n in
      let below : y < 2 ^ n = mod-lt x (pow_pos n) in
      let low : (k : ℕ) → k < n → bit_at y k ≡ bit_at x k = (λ k l. low_bit x n k l) in
      let parts = div-add-mod' x (2 ^ n) in
      let small : y < 2 ^ 64 = omega (arith, parts, h) in
      inputs_moved w chan first bits next y x
      (λ u l. over.same (placed first bits u y) (placed first bits u x) (placed_small first bits u y fits small) (placed_small first bits u x fits h)
      (λ k m. ⊎_elim
      (λ (g : (j : ℕ) × (j < bits) × (k ≡ first + j)). ap (bit_at (placed first bits u y)) g.2 ∙ placed_in first bits u y g.0 g.1 ∙ sym (ap (bit_at (placed first bits u x)) g.2 ∙ placed_in first bits u x g.0 g.1))
      (λ (out : (k < first) ⊎ (first + bits ≤ k)). placed_out first bits u y k out ∙ low k m ∙ sym (placed_out first bits u x k out))
      (row_cases first bits k)))
      a
      (are.rows x y a h (record { small = small; low = low; high = λ k l. bit_at_above y n k below l ∙ sym (bit_at-zero k) }) e);
})
