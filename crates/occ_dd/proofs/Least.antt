use Rattle.std.proofs.Common.{◌≡◌, ℕ, zero, suc, ◌+◌, ◌-◌, ◌*◌, ◌/◌, ◌%◌, ◌<◌, ◌≤◌, ◌^◌, Bool, true, false, Some, slice_get, sym, ap, ◌∙◌, subst, ⊎_elim, arith}
use Rattle.std.specs.Int.{bit_at}
use Rattle.std.proofs.Math.Nat.{two-pow-succ}
use Rattle.std.proofs.Math.Pow.{pow_mono}
use Rattle.std.proofs.lemmas.Nat.{one_shl, pow_pos, div-add-mod'}
use Rattle.std.proofs.lemmas.Nat.Bits.{bit_at_above, bit_at_cat_low, bit_at_cat_high}
use Rattle.occ_dd.proofs.Bits.{bit_cases}
use Rattle.occ_dd.proofs.DiagramLemmas.{depth-branch, end-leaf, end_agree, one_terminal, low_part, high_part}
use Rattle.occ_dd.specs.Diagram.{depth_of, end_of}
use Rattle.occ_dd.specs.Table.{nodes_of}
use Rattle.occ_dd.specs.declared.node.Decision.{Decision}
use Rattle.occ_dd.specs.declared.node.Node.TheVariants.{Leaf, Branch}
use Rattle.occ_dd.specs.Grows.{IsLeastOf}
use Rattle.occ_dd.specs.Store.{IsEmpty, IsLeastMember}
use Rattle.occ_dd.specs.declared.set.SetId.{SetId}
use Rattle.occ_dd.specs.declared.store.Store.{Store}
use Rattle.occ_dd.proofs.Sets.{full_leaf, empty_leaf, end-empty, apart, member_end, end_member, end_outside}

-- a number that has bit b is at least 2 ^ b, and as much more as its lower bits say
bit_ge : (x b : ℕ) → bit_at x b ≡ 1 → 2 ^ b + x % 2 ^ b ≤ x
bit_ge x b e =
    let q : ℕ = x / 2 ^ b in
    let split : q * 2 ^ b + x % 2 ^ b ≡ x = div-add-mod' x (2 ^ b) in
    at_least q (2 ^ b) (x % 2 ^ b) x split (positive q e)
  where
    positive : (q : ℕ) → q % 2 ≡ 1 → 0 < q
    positive q e = omega arith

    at_least : (q p r x : ℕ) → q * p + r ≡ x → 0 < q → p + r ≤ x
    at_least zero p r x e h = absurd (omega arith)
    at_least (suc q) p r x e h = omega (arith, times q p, e)
      where
        times : (q p : ℕ) → suc q * p ≡ q * p + p
        times q p = omega arith

low_bits : (x b i : ℕ) → i < b → bit_at (x % 2 ^ b) i ≡ bit_at x i
low_bits x b i h = sym (bit_at_cat_low (x / 2 ^ b) b (x % 2 ^ b) i h) ∙ ap (λ n. bit_at n i) (div-add-mod' x (2 ^ b))

high_bit : (b r : ℕ) → r < 2 ^ b → bit_at (1 * 2 ^ b + r) b ≡ 1
high_bit b r h = bit_at_cat_high 1 b r b h (omega arith) ∙ ap (bit_at 1) (self b)
  where
    self : (n : ℕ) → n - n ≡ 0
    self n = omega arith

pub sum_small : (bit r : ℕ) → bit < 64 → r < 2 ^ bit → 1 * 2 ^ bit % 2 ^ 64 + r < 2 ^ 64
sum_small bit r h small =
    let shift : 1 * 2 ^ bit % 2 ^ 64 ≡ 2 ^ bit = one_shl bit 64 h in
    let double : 2 ^ suc bit ≡ 2 ^ bit + 2 ^ bit = two-pow-succ bit in
    let fits : 2 ^ suc bit ≤ 2 ^ 64 = pow_mono {i = suc bit} {j = 64} (omega arith) in
    omega arith

module _ (s : Store) (id : ℕ) where
  pub least_leaf : (v : Bool) → slice_get (nodes_of s.table) id ≡ Some (Leaf v) → (id ≡ s.empty → ⊥) → IsLeastOf s id 0
  least_leaf false e filled = absurd (filled (one_terminal (nodes_of s.table) s.table.diagram id s.empty false e (empty_leaf s)))
  least_leaf true e filled = record {
    small = pow_pos _;
    member = end-leaf (nodes_of s.table) s.table.diagram id 0 true e ∙ one_terminal (nodes_of s.table) s.table.diagram id s.full true e (full_leaf s);
    least = λ x _. omega arith;
  }

  module _ (d : Decision) (e : slice_get (nodes_of s.table) id ≡ Some (Branch d)) where
    below : (side m : ℕ) → depth_of (nodes_of s.table) side ≤ d.bit → m < 2 ^ depth_of (nodes_of s.table) side → m < 2 ^ d.bit
    below side m h small = let fits : 2 ^ depth_of (nodes_of s.table) side ≤ 2 ^ d.bit = pow_mono h in omega arith

    top : 2 ^ depth_of (nodes_of s.table) id ≡ 2 ^ d.bit + 2 ^ d.bit
    top = ap (λ n. 2 ^ n) (depth-branch (nodes_of s.table) id d e ∙ one_more d.bit) ∙ two-pow-succ d.bit
      where
        one_more : (n : ℕ) → n + 1 ≡ suc n
        one_more n = omega arith

    pub least_low : (m : ℕ) → IsLeastOf s d.low m → IsLeastOf s id m
    least_low m is =
        let part = low_part (nodes_of s.table) s.table.diagram id d e in
        let small : m < 2 ^ d.bit = below d.low m part.depth is.small in
        record {
          small = omega (arith, top, small);
          member = sym (part.ends m (bit_at_above m d.bit d.bit small (omega arith))) ∙ is.member;
          least = λ x member. ⊎_elim
              (λ (z : bit_at x d.bit ≡ 0). is.least x (part.ends x z ∙ member))
              (λ (o : bit_at x d.bit ≡ 1). omega (arith, bit_ge x d.bit o, small))
              (bit_cases x d.bit);
        }

    pub least_high : (r : ℕ) → d.low ≡ s.empty → IsLeastOf s d.high r → IsLeastOf s id (1 * 2 ^ d.bit % 2 ^ 64 + r)
    least_high r none is =
        let decision = s.table.diagram.decisions id d e in
        let low = low_part (nodes_of s.table) s.table.diagram id d e in
        let high = high_part (nodes_of s.table) s.table.diagram id d e in
        let small : r < 2 ^ d.bit = below d.high r high.depth is.small in
        let shift : 1 * 2 ^ d.bit % 2 ^ 64 ≡ 2 ^ d.bit = one_shl d.bit 64 decision.bit in
        let whole : IsLeastOf s id (1 * 2 ^ d.bit + r) = record {
          small = omega (arith, top, small);
          member = sym (high.ends (1 * 2 ^ d.bit + r) (high_bit d.bit r small))
              ∙ end_agree (nodes_of s.table) s.table.diagram d.bit d.high (1 * 2 ^ d.bit + r) r high.depth (λ i h. bit_at_cat_low 1 d.bit r i h) ∙ is.member;
          least = λ x member. ⊎_elim
              (λ (z : bit_at x d.bit ≡ 0). absurd (apart s (sym (ap (λ n. end_of (nodes_of s.table) n x) none ∙ end-empty s x) ∙ low.ends x z ∙ member)))
              (λ (o : bit_at x d.bit ≡ 1).
              let lower : r ≤ x % 2 ^ d.bit = is.least (x % 2 ^ d.bit) (end_agree (nodes_of s.table) s.table.diagram d.bit d.high (x % 2 ^ d.bit) x high.depth (low_bits x d.bit) ∙ high.ends x o ∙ member) in
              omega (arith, bit_ge x d.bit o, lower))
              (bit_cases x d.bit);
        } in
        subst (IsLeastOf s id) (times_one (2 ^ d.bit) r ∙ ap (λ n. n + r) (sym shift)) whole
      where
        times_one : (p r : ℕ) → 1 * p + r ≡ p + r
        times_one p r = omega arith

    pub sum_fits : (r : ℕ) → IsLeastOf s d.high r → 1 * 2 ^ d.bit % 2 ^ 64 + r < 2 ^ 64
    sum_fits r is =
        let decision = s.table.diagram.decisions id d e in
        sum_small d.bit r decision.bit (below d.high r decision.high_depth is.small)

    pub high_filled : d.low ≡ s.empty → d.high ≡ s.empty → ⊥
    high_filled low high = let decision = s.table.diagram.decisions id d e in decision.differ (low ∙ sym high)

-- what the least of a node says of its set
pub least_member : (s : Store) (a : SetId) (m : ℕ) → IsLeastOf s a.0 m → IsLeastMember s a m
least_member s a m is = record { member = end_member s a m is.member; least = λ x h. is.least x (member_end s a x h) }

pub is_empty : (s : Store) (a : SetId) → a.0 ≡ s.empty → IsEmpty s a
is_empty s a e x = end_outside s a x (ap (λ n. end_of (nodes_of s.table) n x) e ∙ end-empty s x)
