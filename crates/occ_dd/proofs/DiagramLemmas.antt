use Rattle.std.proofs.Common.{◌≡◌, ◌⊎◌, ℕ, zero, suc, ◌+◌, ◌<◌, ◌≤◌, ◌^◌, ◌==◌, Bool, true, false, cond, List, length, Option, Some, None, slice_get, refl, sym, ap, ◌∙◌, subst, inl, inr, ⊎_elim, arith, get_or, lit<}
use Rattle.std.specs.Int.{bit_at}
use Rattle.std.proofs.lemmas.Bool.{cond_both, cases_lt}
use Rattle.std.proofs.lemmas.Option.{slice_get_cases}
use Rattle.occ_dd.proofs.Bits.{is_one, is_zero, bit_at-turned_other, bit_at-with_bit_same, bit_at-with_bit_other, with_bit_lt}
use Rattle.occ_dd.specs.Assignment.{turned, with_bit}
use Rattle.occ_dd.specs.Diagram.{depth_of_node, next, label_of_node, depth_of, walk, end_of, label_of, IsDiagram, IsPart, IsCanonical}
use Rattle.occ_dd.specs.declared.node.Decision.{Decision}
use Rattle.occ_dd.specs.declared.node.Node.{Node}
use Rattle.occ_dd.specs.declared.node.Node.TheVariants.{Leaf, Branch}

module _ {T : Type 0} (ns : List (Node T)) where
  pub depth-none : (i : ℕ) → slice_get ns i ≡ None → depth_of ns i ≡ 0
  unfolding depth_of
  depth-none i e = ap depth_of_node e

  pub depth-leaf : (i : ℕ) (label : T) → slice_get ns i ≡ Some (Leaf label) → depth_of ns i ≡ 0
  unfolding depth_of
  depth-leaf i label e = ap depth_of_node e

  pub depth-branch : (i : ℕ) (d : Decision) → slice_get ns i ≡ Some (Branch d) → depth_of ns i ≡ d.bit + 1
  unfolding depth_of
  depth-branch i d e = ap depth_of_node e

  pub walk-zero : (i x : ℕ) → walk ns 0 i x ≡ i
  unfolding walk
  walk-zero i x = refl

  pub walk-suc : (n i x : ℕ) → walk ns (suc n) i x ≡ walk ns n (next (slice_get ns i) i x) x
  unfolding walk
  walk-suc n i x = refl

  pub end-walk : (i x : ℕ) → end_of ns i x ≡ walk ns 64 i x
  unfolding end_of
  end-walk i x = refl

module _ {T : Type 0} (ns : List (Node T)) (g : IsDiagram ns) where
  -- one step stays in the table
  next-in_at : (o : Option (Node T)) (i x : ℕ) → slice_get ns i ≡ o → i < length ns → next o i x < length ns
  next-in_at None i x e h = h
  next-in_at (Some (Leaf v)) i x e h = h
  next-in_at (Some (Branch d)) i x e h =
      let is = g.decisions i d e in
      cond_both (bit_at x d.bit == 1) d.high d.low (λ n. n < length ns) (λ _. is.high) (λ _. is.low)

  pub next-in : (i x : ℕ) → i < length ns → next (slice_get ns i) i x < length ns
  next-in i x h = next-in_at (slice_get ns i) i x refl h

  -- and goes down
  depth-next_at : (o : Option (Node T)) (i x n : ℕ) → slice_get ns i ≡ o → depth_of ns i ≤ suc n → depth_of ns (next o i x) ≤ n
  depth-next_at None i x n e h = omega (arith, depth-none ns i e)
  depth-next_at (Some (Leaf v)) i x n e h = omega (arith, depth-leaf ns i v e)
  depth-next_at (Some (Branch d)) i x n e h =
      let is = g.decisions i d e in
      let top : depth_of ns i ≡ d.bit + 1 = depth-branch ns i d e in
      let low : depth_of ns d.low ≤ d.bit = is.low_depth in
      let high : depth_of ns d.high ≤ d.bit = is.high_depth in
      cond_both (bit_at x d.bit == 1) d.high d.low (λ m. depth_of ns m ≤ n) (λ _. omega arith) (λ _. omega arith)

  depth-next : (i x n : ℕ) → depth_of ns i ≤ suc n → depth_of ns (next (slice_get ns i) i x) ≤ n
  depth-next i x n h = depth-next_at (slice_get ns i) i x n refl h

  next-end_at : (o : Option (Node T)) (i x : ℕ) → slice_get ns i ≡ o → depth_of ns i ≤ 0 → next o i x ≡ i
  next-end_at None i x e h = refl
  next-end_at (Some (Leaf v)) i x e h = refl
  next-end_at (Some (Branch d)) i x e h = absurd (omega (arith, depth-branch ns i d e))

  -- once there are steps enough, more of them change nothing
  walk-more : (n i x : ℕ) → depth_of ns i ≤ n → walk ns (suc n) i x ≡ walk ns n i x
  walk-more zero i x h =
      walk-suc ns 0 i x ∙ ap (λ k. walk ns 0 k x) (next-end_at (slice_get ns i) i x refl h)
  walk-more (suc n) i x h =
      walk-suc ns (suc n) i x ∙ walk-more n (next (slice_get ns i) i x) x (depth-next i x n h) ∙ sym (walk-suc ns n i x)

  depth-le_at : (o : Option (Node T)) (i : ℕ) → slice_get ns i ≡ o → depth_of ns i ≤ 64
  depth-le_at None i e = omega (arith, depth-none ns i e)
  depth-le_at (Some (Leaf v)) i e = omega (arith, depth-leaf ns i v e)
  depth-le_at (Some (Branch d)) i e =
      let is : d.bit < 64 = (g.decisions i d e).bit in omega (arith, depth-branch ns i d e)

  pub depth-le : (i : ℕ) → depth_of ns i ≤ 64
  depth-le i = depth-le_at (slice_get ns i) i refl

  pub decision-bit : (i : ℕ) (d : Decision) → slice_get ns i ≡ Some (Branch d) → d.bit < 64
  decision-bit i d e = (g.decisions i d e).bit

  end-next : (i x : ℕ) → end_of ns i x ≡ end_of ns (next (slice_get ns i) i x) x
  end-next i x = end-walk ns i x ∙ sym (walk-more 64 i x (depth-le i)) ∙ walk-suc ns 64 i x ∙ sym (end-walk ns _ x)

  -- where a branch leads
  pub end-branch : (i : ℕ) (d : Decision) (x : ℕ) → slice_get ns i ≡ Some (Branch d) → end_of ns i x ≡ cond (bit_at x d.bit == 1) (end_of ns d.high x) (end_of ns d.low x)
  end-branch i d x e =
      end-next i x ∙ ap (λ o. end_of ns (next o i x) x) e
      ∙ cond_side (bit_at x d.bit == 1) d.high d.low
    where
      cond_side : (b : Bool) (m n : ℕ) → end_of ns (cond b m n) x ≡ cond b (end_of ns m x) (end_of ns n x)
      cond_side true m n = refl
      cond_side false m n = refl

  walk-leaf : (n i x : ℕ) (v : T) → slice_get ns i ≡ Some (Leaf v) → walk ns n i x ≡ i
  walk-leaf zero i x v e = walk-zero ns i x
  walk-leaf (suc n) i x v e = walk-suc ns n i x ∙ ap (λ o. walk ns n (next o i x) x) e ∙ walk-leaf n i x v e

  pub end-leaf : (i x : ℕ) (v : T) → slice_get ns i ≡ Some (Leaf v) → end_of ns i x ≡ i
  end-leaf i x v e = end-walk ns i x ∙ walk-leaf 64 i x v e

  pub label-leaf : (i : ℕ) (v : T) → slice_get ns i ≡ Some (Leaf v) → label_of ns i ≡ Some v
  unfolding label_of
  label-leaf i v e = ap label_of_node e

  walk-in : (n i x : ℕ) → i < length ns → walk ns n i x < length ns
  walk-in zero i x h = subst (λ k. k < length ns) (sym (walk-zero ns i x)) h
  walk-in (suc n) i x h = subst (λ k. k < length ns) (sym (walk-suc ns n i x)) (walk-in n (next (slice_get ns i) i x) x (next-in i x h))

  pub end-in : (i x : ℕ) → i < length ns → end_of ns i x < length ns
  end-in i x h = subst (λ k. k < length ns) (sym (end-walk ns i x)) (walk-in 64 i x h)

  depth-walk : (n i x : ℕ) → depth_of ns i ≤ n → depth_of ns (walk ns n i x) ≤ 0
  depth-walk zero i x h = subst (λ k. depth_of ns k ≤ 0) (sym (walk-zero ns i x)) h
  depth-walk (suc n) i x h = subst (λ k. depth_of ns k ≤ 0) (sym (walk-suc ns n i x)) (depth-walk n (next (slice_get ns i) i x) x (depth-next i x n h))

  depth-end : (i x : ℕ) → depth_of ns (end_of ns i x) ≤ 0
  depth-end i x = subst (λ k. depth_of ns k ≤ 0) (sym (end-walk ns i x)) (depth-walk 64 i x (depth-le i))

  -- what stands at a known number
  pub some_at : (i : ℕ) → i < length ns → (n : Node T) × (slice_get ns i ≡ Some n)
  some_at i h = ⊎_elim (λ (w : (n : Node T) × (i < length ns) × (slice_get ns i ≡ Some n) × (get_or ns i n ≡ n)). (w.0, w.2)) (λ (w : (length ns ≤ i) × (slice_get ns i ≡ None)). absurd (omega (arith, w.0))) (slice_get_cases ns i).1

  terminal_at : (n : Node T) (i : ℕ) → slice_get ns i ≡ Some n → depth_of ns i ≤ 0 → (v : T) × (slice_get ns i ≡ Some (Leaf v))
  terminal_at (Leaf v) i e h = (v, e)
  terminal_at (Branch d) i e h = absurd (omega (arith, depth-branch ns i d e))

  -- a node that reads no bit is a terminal
  pub terminal : (i : ℕ) → i < length ns → depth_of ns i ≤ 0 → (v : T) × (slice_get ns i ≡ Some (Leaf v))
  terminal i h flat = let w = some_at i h in terminal_at w.0 i w.1 flat

  -- every way ends at a terminal
  pub end_terminal : (i x : ℕ) → i < length ns → (v : T) × (slice_get ns (end_of ns i x) ≡ Some (Leaf v))
  end_terminal i x h = terminal (end_of ns i x) (end-in i x h) (depth-end i x)

  -- terminals with one label are one terminal
  pub one_terminal : (i j : ℕ) (v : T) → slice_get ns i ≡ Some (Leaf v) → slice_get ns j ≡ Some (Leaf v) → i ≡ j
  one_terminal i j v e f = g.single i j (Leaf v) e f

  next-agree_at : (o : Option (Node T)) (n i x y : ℕ) → slice_get ns i ≡ o → depth_of ns i ≤ n → ((b : ℕ) → b < n → bit_at x b ≡ bit_at y b) → next o i x ≡ next o i y
  next-agree_at None n i x y e h same = refl
  next-agree_at (Some (Leaf v)) n i x y e h same = refl
  next-agree_at (Some (Branch d)) n i x y e h same =
      ap (λ v. cond (v == 1) d.high d.low) (same d.bit (omega (arith, depth-branch ns i d e)))

  walk-agree : (m n i x y : ℕ) → depth_of ns i ≤ n → ((b : ℕ) → b < n → bit_at x b ≡ bit_at y b) → walk ns m i x ≡ walk ns m i y
  walk-agree zero n i x y h same = walk-zero ns i x ∙ sym (walk-zero ns i y)
  walk-agree (suc m) n i x y h same =
      walk-suc ns m i x ∙ walk-agree m n (next (slice_get ns i) i x) x y (depth-next i x n (omega arith)) same
      ∙ ap (λ k. walk ns m k y) (next-agree_at (slice_get ns i) n i x y refl h same) ∙ sym (walk-suc ns m i y)

  -- only the bits below the depth matter
  pub end_agree : (n i x y : ℕ) → depth_of ns i ≤ n → ((b : ℕ) → b < n → bit_at x b ≡ bit_at y b) → end_of ns i x ≡ end_of ns i y
  end_agree n i x y h same = end-walk ns i x ∙ walk-agree 64 n i x y h same ∙ sym (end-walk ns i y)

  pub end-turned_free : (i b x : ℕ) → depth_of ns i ≤ b → end_of ns i (turned x b) ≡ end_of ns i x
  end-turned_free i b x h = end_agree b i (turned x b) x h (λ k below. bit_at-turned_other x b k (λ e. omega arith))

  pub end-with_bit_free : (i b v x : ℕ) → depth_of ns i ≤ b → end_of ns i (with_bit x b v) ≡ end_of ns i x
  end-with_bit_free i b v x h = end_agree b i (with_bit x b v) x h (λ k below. bit_at-with_bit_other x b v k (λ e. omega arith))

  -- the sides of a branch are its parts at its bit
  pub low_part : (i : ℕ) (d : Decision) → slice_get ns i ≡ Some (Branch d) → IsPart ns d.low i d.bit 0
  low_part i d e = let is = g.decisions i d e in record {
    known = is.low;
    depth = is.low_depth;
    ends = λ x zero_there. sym (end-branch i d x e ∙ ap (λ t. cond t (end_of ns d.high x) (end_of ns d.low x)) (is_zero x d.bit zero_there));
  }

  pub high_part : (i : ℕ) (d : Decision) → slice_get ns i ≡ Some (Branch d) → IsPart ns d.high i d.bit 1
  high_part i d e = let is = g.decisions i d e in record {
    known = is.high;
    depth = is.high_depth;
    ends = λ x one_there. sym (end-branch i d x e ∙ ap (λ t. cond t (end_of ns d.high x) (end_of ns d.low x)) (is_one x d.bit one_there));
  }

  pub low-smaller : (i : ℕ) (d : Decision) → slice_get ns i ≡ Some (Branch d) → depth_of ns d.low < depth_of ns i
  low-smaller i d e = let is = g.decisions i d e in omega (arith, is.low_depth, depth-branch ns i d e)

  pub high-smaller : (i : ℕ) (d : Decision) → slice_get ns i ≡ Some (Branch d) → depth_of ns d.high < depth_of ns i
  high-smaller i d e = let is = g.decisions i d e in omega (arith, is.high_depth, depth-branch ns i d e)

  -- what doesn't depend on a bit is its own part
  pub own_part : (i b v : ℕ) → i < length ns → depth_of ns i ≤ b → IsPart ns i i b v
  own_part i b v within h = record { known = within; depth = h; ends = λ x _. refl }

  -- the part at each bit by the whole
  pub end-part : (p i b v x : ℕ) → v < 2 → IsPart ns p i b v → end_of ns p x ≡ end_of ns i (with_bit x b v)
  end-part p i b v x small part =
      sym (end-with_bit_free p b v x part.depth) ∙ part.ends (with_bit x b v) (bit_at-with_bit_same x b v small)

  pub same_parts : (p q i j b v : ℕ) → v < 2 → b < 64 → IsPart ns p i b v → IsPart ns q j b v → ((x : ℕ) → x < 2 ^ 64 → end_of ns i x ≡ end_of ns j x)
      → (x : ℕ) → x < 2 ^ 64 → end_of ns p x ≡ end_of ns q x
  same_parts p q i j b v small bit part other same x h =
      end-part p i b v x small part ∙ same (with_bit x b v) (with_bit_lt x b v 64 bit h) ∙ sym (end-part q j b v x small other)

  end-flat : (i x : ℕ) → i < length ns → depth_of ns i ≤ 0 → end_of ns i x ≡ i
  end-flat i x within h = let w = terminal i within h in end-leaf i x w.0 w.1

  -- the parts of a function that reads no higher bit
  pub part_at : (n : Node T) (i b : ℕ) → slice_get ns i ≡ Some n → depth_of ns i ≤ b + 1 → i < length ns → (depth_of ns i ≤ b) ⊎ ((d : Decision) × (slice_get ns i ≡ Some (Branch d)) × (d.bit ≡ b))
  part_at (Leaf v) i b e h within = inl (omega (arith, depth-leaf ns i v e))
  part_at (Branch d) i b e h within =
      let top : depth_of ns i ≡ d.bit + 1 = depth-branch ns i d e in
      ⊎_elim (λ (low : d.bit < b). inl (omega arith)) (λ (high : b ≤ d.bit). inr (d, e, omega arith)) (cases_lt d.bit b)

  same_decision : (c d : Decision) → c.bit ≡ d.bit → c.low ≡ d.low → c.high ≡ d.high → c ≡ d
  same_decision c d e f h = λ i. record { bit = e i; low = f i; high = h i }

  -- a branch equals no function of another node
  canonical_top : (b i j : ℕ) (d : Decision) → slice_get ns i ≡ Some (Branch d) → d.bit ≡ b → j < length ns → depth_of ns j ≤ b + 1
      → ((p q : ℕ) → p < length ns → q < length ns → depth_of ns p ≤ b → depth_of ns q ≤ b → ((x : ℕ) → x < 2 ^ 64 → end_of ns p x ≡ end_of ns q x) → p ≡ q)
      → ((x : ℕ) → x < 2 ^ 64 → end_of ns i x ≡ end_of ns j x) → i ≡ j
  canonical_top b i j d e at within h below same =
      let is = g.decisions i d e in
      let bit : b < 64 = subst (λ n. n < 64) at is.bit in
      let low = subst (λ n. IsPart ns d.low i n 0) at (low_part i d e) in
      let high = subst (λ n. IsPart ns d.high i n 1) at (high_part i d e) in
      let w = some_at j within in
      ⊎_elim
      (λ (flat : depth_of ns j ≤ b).
      let lows : d.low ≡ j = below d.low j low.known within low.depth flat (same_parts d.low j i j b 0 (omega arith) bit low (own_part j b 0 within flat) same) in
      let highs : d.high ≡ j = below d.high j high.known within high.depth flat (same_parts d.high j i j b 1 (omega arith) bit high (own_part j b 1 within flat) same) in
      absurd (is.differ (lows ∙ sym highs)))
      (λ (v : (c : Decision) × (slice_get ns j ≡ Some (Branch c)) × (c.bit ≡ b)).
      let c : Decision = v.0 in
      let low' = subst (λ n. IsPart ns c.low j n 0) v.2 (low_part j c v.1) in
      let high' = subst (λ n. IsPart ns c.high j n 1) v.2 (high_part j c v.1) in
      let lows : d.low ≡ c.low = below d.low c.low low.known low'.known low.depth low'.depth (same_parts d.low c.low i j b 0 (omega arith) bit low low' same) in
      let highs : d.high ≡ c.high = below d.high c.high high.known high'.known high.depth high'.depth (same_parts d.high c.high i j b 1 (omega arith) bit high high' same) in
      let same_node : d ≡ c = same_decision d c (at ∙ sym v.2) lows highs in
      g.single i j (Branch c) (e ∙ ap (λ n. Some (Branch n)) same_node) v.1)
      (part_at w.0 j b w.1 h within)

  -- equal functions have equal numbers
  canonical_at : (n i j : ℕ) → i < length ns → j < length ns → depth_of ns i ≤ n → depth_of ns j ≤ n → ((x : ℕ) → x < 2 ^ 64 → end_of ns i x ≡ end_of ns j x) → i ≡ j
  canonical_at zero i j hi hj di dj same =
      sym (end-flat i 0 hi di) ∙ same 0 (lit< tt) ∙ end-flat j 0 hj dj
  canonical_at (suc n) i j hi hj di dj same =
      let wi = some_at i hi in
      let wj = some_at j hj in
      ⊎_elim
      (λ (flat : depth_of ns i ≤ n). ⊎_elim
      (λ (flat' : depth_of ns j ≤ n). canonical_at n i j hi hj flat flat' same)
      (λ (v : (c : Decision) × (slice_get ns j ≡ Some (Branch c)) × (c.bit ≡ n)).
      sym (canonical_top n j i v.0 v.1 v.2 hi (omega arith) (canonical_at n) (λ x h. sym (same x h))))
      (part_at wj.0 j n wj.1 (omega arith) hj))
      (λ (v : (c : Decision) × (slice_get ns i ≡ Some (Branch c)) × (c.bit ≡ n)).
      canonical_top n i j v.0 v.1 v.2 hj (omega arith) (canonical_at n) same)
      (part_at wi.0 i n wi.1 (omega arith) hi)

  pub canonical : IsCanonical ns
  canonical = record { one = λ i j hi hj same. canonical_at 64 i j hi hj (depth-le i) (depth-le j) same }
