-- Maps whose final states are turned, and maps of all values of some bits.
use Rattle.std.proofs.Common.{◌≡◌, ◌<◌, ◌≤◌, ◌+◌, ◌-◌, ◌*◌, ◌%◌, ◌^◌, ◌==◌, ◌||◌, ℕ, zero, suc, max, Bool, true, false, cond, min, ⊎_elim, Option, Some, None, refl, sym, ap, ◌∙◌, subst, arith, w64}
use Rattle.std.specs.Prelude.{◌↔◌}
use Rattle.std.specs.Int.{bit_at}
use Rattle.std.specs.Int.Bits.{bit_and, bit_or, bit_xor, xor_zero_r}
use Rattle.std.proofs.Math.Nat.{mod-eq_of_lt, one-mul, zero-mul}
use Rattle.std.proofs.lemmas.Option.{same_Some}
use Rattle.std.proofs.lemmas.Bool.{cases_Bool, cases_lt, or_cases, cond_both, or_left, or_right}
use Rattle.std.proofs.lemmas.Nat.{and_le_l, and_le_r, and_mask, or_lt, pow_pos, xor_lt}
use Rattle.std.proofs.lemmas.Nat.Bits.{and_pow as and_one_bit, bit_at-lt, bit_at-pow_other, bit_at-pow_same, bit_at_and, bit_at_ones, bit_at_ones_above, bit_at_set_same, bit_at_or, bit_at_xor, same_from_bits}
use Rattle.occ_bits.specs.occ_dd.Assignment.{turned, with_bit}
use Rattle.occ_bits.proofs.from_dd.Bits.{one_is, with_bit_lt, zero_is}
use Rattle.occ_bits.specs.occ_dd.Store.{IsKnown as IsSetKnown, has}
use Rattle.occ_bits.specs.occ_dd.declared.set.SetId.{SetId}
use Rattle.occ_weave.specs.occ_mdd.Maps.{IsMap, value}
use Rattle.occ_weave.specs.occ_mdd.declared.map.MapId.{MapId}
use Rattle.occ_weave.specs.occ_node.World.{IsNode, fails, ends}
use Rattle.occ_weave.specs.occ_node.declared.node.NodeId.{NodeId}
use Rattle.occ_weave.specs.occ_node.declared.world.World.{World}
use Rattle.occ_follow.specs.Sequence.{HasNodes}
use Rattle.occ_norm_frame.specs.Growth.{turned_grow}
use Rattle.occ_norm_frame.specs.Lifted.{IsEither, IsTurned, OnOne}
use Rattle.occ_norm_frame.specs.Maps.{Extends, Lifts}
use Rattle.occ_norm_frame.proofs.Worlds.{extends_trans, has_nodes-extends}
use Rattle.occ_norm_frame.specs.Changes.{IsChanged, IsFreed, IsSupport, Somewhere}
use Rattle.occ_norm_frame.proofs.After.{changed-extends, freed-extends, map_node, value_was}
use Rattle.occ_norm_frame.proofs.FrameBits.{agree_far, agree_same, agree_wider, agree_with, one_of_two, pow_more, set_below}

-- ---- bits of final states turned
pub turned_none : (w : World) (a : NodeId) → IsNode w a → IsTurned w 0 a a
turned_none w a h = record { first = h; turned = record { known = h; same_fail = λ t X. refl; turned_end = λ t x k. ap (λ y. ends w a t y) (sym (xor_zero_r x)) } }

-- a map is that with no bit turned
pub changed_none : (w : World) (change : ℕ → ℕ) (m : MapId) → HasNodes w m → ((x : ℕ) → x < 2 ^ 64 → change x ≡ 0) → IsChanged w change m m
changed_none w change m has none = record {
  changed = λ x a b h e f.
      let one : a ≡ b = same_Some a b (sym e ∙ f) in
      subst (λ c. IsTurned w (change x) a c) one (subst (λ c. IsTurned w c a a) (sym (none x h)) (turned_none w a (map_node w m has x h a e)));
}

pub changed_by : (w : World) (f g : ℕ → ℕ) (m r : MapId) → ((x : ℕ) → f x ≡ g x) → IsChanged w f m r → IsChanged w g m r
changed_by w f g m r same_change is = record { changed = λ x a b h e k. subst (λ c. IsTurned w c a b) (same_change x) (is.changed x a b h e k) }

pub xor_in_turn : (x c d : ℕ) → bit_xor (bit_xor x d) c ≡ bit_xor x (bit_xor c d)
xor_in_turn x c d = same_from_bits _ _ (λ i.
    bit_at_xor (bit_xor x d) c i ∙ ap (λ b. (b + bit_at c i) % 2) (bit_at_xor x d i) ∙ sums (bit_at x i) (bit_at c i) (bit_at d i)
    ∙ sym (bit_at_xor x (bit_xor c d) i ∙ ap (λ b. (bit_at x i + b) % 2) (bit_at_xor c d i)))
  where
    sums : (a b c : ℕ) → ((a + c) % 2 + b) % 2 ≡ (a + (b + c) % 2) % 2
    sums a b c = omega arith

turned_twice : (w : World) (c d : ℕ) (a b r : NodeId) → d < 2 ^ 64 → IsTurned w c a b → IsTurned w d b r → IsTurned w (bit_xor c d) a r
turned_twice w c d a b r h is next = record {
  first = is.first;
  turned = record {
    known = next.turned.known;
    same_fail = λ t X. next.turned.same_fail t X ∙ is.turned.same_fail t X;
    turned_end = λ t x l. next.turned.turned_end t x l ∙ is.turned.turned_end t (bit_xor x d) (xor_lt 64 x d l h) ∙ ap (λ y. ends w a t y) (xor_in_turn x c d);
  };
}

-- one change after another
pub changed_twice : (w : World) (f g : ℕ → ℕ) (m n r : MapId) → ((x : ℕ) → x < 2 ^ 64 → g x < 2 ^ 64) → HasNodes w n → IsChanged w f m n → IsChanged w g n r → IsChanged w (λ x. bit_xor (f x) (g x)) m r
changed_twice w f g m n r small has is next = record {
  changed = λ x a c h e k.
      let b = has.nodes x h in
      turned_twice w (f x) (g x) a b.0 c (small x h) (is.changed x a b.0 h e b.1) (next.changed x b.0 c h b.1 k);
}

-- the map that is turned on a set
pub changed_on : (v u w : World) (set : SetId) (bit change : ℕ) (m turn r : MapId) → change ≡ 2 ^ bit → Extends v u → Extends u w → IsSetKnown v.store set → HasNodes v m → HasNodes u turn
    → Lifts u m m turn (λ a b. OnOne (IsTurned u change) a) → IsMap w.maps r (λ x. cond (has u.store set x) (value u.maps turn x) (value u.maps m x))
    → IsChanged w (λ x. cond (has v.store set x) (2 ^ bit) 0) m r
changed_on v u w set bit change m turn r size k l known hm ht lifts made = record { changed = each }
  where
    hu : HasNodes u m
    hu = has_nodes-extends v u k m hm

    hw : HasNodes w m
    hw = has_nodes-extends u w l m hu

    at_one : (x : ℕ) (o q : Option NodeId) (a b : NodeId) → OnOne (IsTurned u change) o q → o ≡ Some a → q ≡ Some b → IsTurned u change a b
    at_one x (Some p) (Some s) a b is e f = subst (λ c. IsTurned u change c b) (same_Some p a e) (subst (λ c. IsTurned u change p c) (same_Some s b f) is)
    at_one x (Some p) None a b is e f = absurd is
    at_one x None q a b is e f = absurd (cc)

    each : (x : ℕ) (a b : NodeId) → x < 2 ^ 64 → value w.maps m x ≡ Some a → value w.maps r x ≡ Some b → IsTurned w (cond (has v.store set x) (2 ^ bit) 0) a b
    each x a b h e f =
        let was : value u.maps m x ≡ Some a = value_was u w l m hu x (Some a) e in
        let picked : cond (has u.store set x) (value u.maps turn x) (value u.maps m x) ≡ Some b = sym (made.values x) ∙ f in
        let alike : has u.store set x ≡ has v.store set x = k.grows.stored.same set x known in
        ⊎_elim
        (λ (t : has v.store set x ≡ true).
        let there : value u.maps turn x ≡ Some b = sym (ap (λ c. cond c (value u.maps turn x) (value u.maps m x)) (alike ∙ t)) ∙ picked in
        subst (λ c. IsTurned w c a b) (size ∙ sym (ap (λ c. cond c (2 ^ bit) 0) t)) (turned_grow u w l.grows change a b (at_one x (value u.maps m x) (value u.maps turn x) a b (lifts.related x h) was there)))
        (λ (t : has v.store set x ≡ false).
        let there : value u.maps m x ≡ Some b = sym (ap (λ c. cond c (value u.maps turn x) (value u.maps m x)) (alike ∙ t)) ∙ picked in
        let one : a ≡ b = same_Some a b (sym was ∙ there) in
        subst (λ c. IsTurned w c a b) (sym (ap (λ c. cond c (2 ^ bit) 0) t)) (subst (λ c. IsTurned w 0 a c) one (turned_none w a (map_node w m hw x h a e))))
        (cases_Bool (has v.store set x))

-- ---- where one of some bits is 1
and_none : (x : ℕ) → bit_and x 0 ≡ 0
and_none x = let below : bit_and x 0 ≤ 0 = and_le_r x 0 in omega arith

pub no_change : (x bits bit : ℕ) → (bit_at bits bit == 1) ≡ false → bit_and x (bit_and bits (2 ^ bit)) ≡ 0
no_change x bits bit h =
    ap (bit_and x) (and_one_bit bits bit ∙ ap (λ b. b * 2 ^ bit) (zero_is bits bit h) ∙ zero-mul (2 ^ bit)) ∙ and_none x

pub one_change : (x bits bit : ℕ) (test : Bool) → test ≡ (bit_at x bit == 1) → (bit_at bits bit == 1) ≡ true → cond test (2 ^ bit) 0 ≡ bit_and x (bit_and bits (2 ^ bit))
one_change x bits bit test is h =
    ap (λ t. cond t (2 ^ bit) 0) is ∙ picked (bit_at x bit) (2 ^ bit) (bit_at-lt x bit) ∙ sym (and_one_bit x bit)
    ∙ ap (bit_and x) (sym (and_one_bit bits bit ∙ ap (λ b. b * 2 ^ bit) (one_is bits bit h) ∙ one-mul (2 ^ bit)))
  where
    picked : (b p : ℕ) → b < 2 → cond (b == 1) p 0 ≡ b * p
    picked zero p l = sym (zero-mul p)
    picked (suc zero) p l = sym (one-mul p)
    picked (suc (suc b)) p l = absurd (omega arith)

-- the bits below k, and then bit k
pub more_change : (x bits k : ℕ) → bit_xor (bit_and x (bit_and bits (2 ^ k - 1))) (bit_and x (bit_and bits (2 ^ k))) ≡ bit_and x (bit_and bits (2 ^ (k + 1) - 1))
more_change x bits k = same_from_bits _ _ (λ i.
    bit_at_xor (bit_and x (bit_and bits (2 ^ k - 1))) (bit_and x (bit_and bits (2 ^ k))) i
    ∙ (λ j. (three (2 ^ k - 1) i j + three (2 ^ k) i j) % 2)
    ∙ place i ∙ sym (three (2 ^ (k + 1) - 1) i))
  where
    three : (m i : ℕ) → bit_at (bit_and x (bit_and bits m)) i ≡ min (bit_at x i) (min (bit_at bits i) (bit_at m i))
    three m i = bit_at_and x (bit_and bits m) i ∙ ap (min (bit_at x i)) (bit_at_and bits m i)

    sums : (a b m p q : ℕ) → a < 2 → b < 2 → m + p ≡ q → q < 2 → (min a (min b m) + min a (min b p)) % 2 ≡ min a (min b q)
    sums a b m p q h l e f = omega arith

    parts : (i : ℕ) → bit_at (2 ^ k - 1) i + bit_at (2 ^ k) i ≡ bit_at (2 ^ (k + 1) - 1) i
    parts i = ⊎_elim
        (λ (l : i < k). (λ j. bit_at_ones k i l j + bit_at-pow_other k i (λ e. omega arith) j) ∙ sym (bit_at_ones (k + 1) i (omega arith)))
        (λ (l : k ≤ i). ⊎_elim
        (λ (b : i < k + 1).
        let e : k ≡ i = omega arith in
        (λ j. bit_at_ones_above k i l j + (ap (bit_at (2 ^ k)) (sym e) ∙ bit_at-pow_same k) j) ∙ sym (bit_at_ones (k + 1) i b))
        (λ (b : k + 1 ≤ i). (λ j. bit_at_ones_above k i l j + bit_at-pow_other k i (λ e. omega arith) j) ∙ sym (bit_at_ones_above (k + 1) i b))
        (cases_lt i (k + 1)))
        (cases_lt i k)

    place : (i : ℕ) → (min (bit_at x i) (min (bit_at bits i) (bit_at (2 ^ k - 1) i)) + min (bit_at x i) (min (bit_at bits i) (bit_at (2 ^ k) i))) % 2 ≡ min (bit_at x i) (min (bit_at bits i) (bit_at (2 ^ (k + 1) - 1) i))
    place i = sums (bit_at x i) (bit_at bits i) (bit_at (2 ^ k - 1) i) (bit_at (2 ^ k) i) (bit_at (2 ^ (k + 1) - 1) i) (bit_at-lt x i) (bit_at-lt bits i) (parts i) (bit_at-lt (2 ^ (k + 1) - 1) i)

pub first_change : (x bits : ℕ) → bit_and x (bit_and bits (2 ^ 0 - 1)) ≡ 0
first_change x bits = ap (bit_and x) (and_none bits) ∙ and_none x

pub all_change : (x bits : ℕ) → bits < 2 ^ 64 → bit_and x (bit_and bits (2 ^ 64 - 1)) ≡ bit_and x bits
all_change x bits h = ap (bit_and x) (and_mask bits 64 ∙ mod-eq_of_lt h)

pub changed_more : (v w : World) (bits k : ℕ) (m n r : MapId) → Extends v w → HasNodes v m → HasNodes v n → IsChanged v (λ x. bit_and x (bit_and bits (2 ^ k - 1))) m n
    → IsChanged w (λ x. bit_and x (bit_and bits (2 ^ k))) n r → IsChanged w (λ x. bit_and x (bit_and bits (2 ^ (k + 1) - 1))) m r
changed_more v w bits k m n r grown hm hn is next =
    changed_by w _ _ m r (λ x. more_change x bits k)
    (changed_twice w (λ x. bit_and x (bit_and bits (2 ^ k - 1))) (λ x. bit_and x (bit_and bits (2 ^ k))) m n r
    (λ x h. let below : bit_and x (bit_and bits (2 ^ k)) ≤ x = and_le_l x (bit_and bits (2 ^ k)) in omega arith)
    (has_nodes-extends v w grown n hn) (changed-extends v w grown (λ x. bit_and x (bit_and bits (2 ^ k - 1))) m n hm hn is) next)

-- ---- all values of some bits
module _ (w : World) (m : MapId) (F : NodeId → Bool) where
  somewhere_here : (first end x : ℕ) (a : NodeId) → x < 2 ^ 64 → value w.maps m x ≡ Some a → F a ≡ true → Somewhere w m first end x F
  somewhere_here first end x a h e b = record { y = x; m = a; below = h; agree = λ k l o. refl; leads = e; behaved = b }

  -- a place whose node is that
  somewhere_same : (first end x : ℕ) (a : NodeId) (s : Somewhere w m first end x F) → value w.maps m s.y ≡ Some a → F a ≡ true
  somewhere_same first end x a s e = subst (λ n. F n ≡ true) (same_Some s.m a (sym s.leads ∙ e)) s.behaved

pub freed_none : (w : World) (m : MapId) (first : ℕ) → HasNodes w m → IsFreed w first first m m
freed_none w m first has = record {
  freed_fails = λ x a h e t X. each (λ n. fails w n t X) x a h e;
  freed_ends = λ x a h e t z b. each (λ n. ends w n t z) x a h e;
}
  where
    each : (F : NodeId → Bool) (x : ℕ) (a : NodeId) → x < 2 ^ 64 → value w.maps m x ≡ Some a → (F a ≡ true) ↔ Somewhere w m first first x F
    each F x a h e = (
      λ b. somewhere_here w m F first first x a h e b,
      λ s. somewhere_same w m F first first x a s (ap (value w.maps m) (sym (agree_same x s.y first h s.below s.agree)) ∙ e),
    )

-- a bit that doesn't matter
pub freed_still : (w : World) (m : MapId) (bit : ℕ) → bit < 64 → HasNodes w m → ((x : ℕ) → value w.maps m (turned x bit) ≡ value w.maps m x) → IsFreed w bit (bit + 1) m m
freed_still w m bit few has still = record {
  freed_fails = λ x a h e t X. each (λ n. fails w n t X) x a h e;
  freed_ends = λ x a h e t z b. each (λ n. ends w n t z) x a h e;
}
  where
    made : (x v : ℕ) → value w.maps m (with_bit x bit v) ≡ value w.maps m x
    made x v = cond_both (bit_at x bit == v) x (turned x bit) (λ y. value w.maps m y ≡ value w.maps m x) (λ e. refl) (λ e. still x)

    each : (F : NodeId → Bool) (x : ℕ) (a : NodeId) → x < 2 ^ 64 → value w.maps m x ≡ Some a → (F a ≡ true) ↔ Somewhere w m bit (bit + 1) x F
    each F x a h e = (
      λ b. somewhere_here w m F bit (bit + 1) x a h e b,
      λ s. somewhere_same w m F bit (bit + 1) x a s (⊎_elim
          (λ (q : s.y ≡ with_bit x bit 0). ap (value w.maps m) q ∙ made x 0)
          (λ (q : s.y ≡ with_bit x bit 1). ap (value w.maps m) q ∙ made x 1)
          (one_of_two x s.y bit few h s.below s.agree) ∙ e),
    )

-- both values of a bit
module _ (w : World) (m r : MapId) (bit : ℕ) (zeros ones : MapId) (few : bit < 64) (has : HasNodes w m)
    (low : (x : ℕ) → value w.maps zeros x ≡ value w.maps m (with_bit x bit 0)) (high : (x : ℕ) → value w.maps ones x ≡ value w.maps m (with_bit x bit 1))
    (lifts : Lifts w zeros ones r (IsEither w)) where
  node_with : (x v : ℕ) → x < 2 ^ 64 → (n : NodeId) × (value w.maps m (with_bit x bit v) ≡ Some n) × IsNode w n
  node_with x v h = has.nodes (with_bit x bit v) (with_bit_lt x bit v 64 few h)

  either_at : (x : ℕ) (a : NodeId) (h : x < 2 ^ 64) → value w.maps r x ≡ Some a → IsEither w (Some (node_with x 0 h).0) (Some (node_with x 1 h).0) (Some a)
  either_at x a h e =
      subst (λ o. IsEither w (Some (node_with x 0 h).0) (Some (node_with x 1 h).0) o) e
      (subst (λ o. IsEither w (Some (node_with x 0 h).0) o (value w.maps r x)) (high x ∙ (node_with x 1 h).1)
      (subst (λ o. IsEither w o (value w.maps ones x) (value w.maps r x)) (low x ∙ (node_with x 0 h).1) (lifts.related x h)))

  freed_here : (F : NodeId → Bool) (x : ℕ) (a : NodeId) (h : x < 2 ^ 64) → F a ≡ (F (node_with x 0 h).0 || F (node_with x 1 h).0) → (F a ≡ true) ↔ Somewhere w m bit (bit + 1) x F
  freed_here F x a h both =
      let n0 = node_with x 0 h in
      let n1 = node_with x 1 h in (
        λ b. ⊎_elim
            (λ (c : F n0.0 ≡ true). record { y = with_bit x bit 0; m = n0.0; below = with_bit_lt x bit 0 64 few h; agree = agree_with x bit 0; leads = n0.1; behaved = c })
            (λ (c : F n1.0 ≡ true). record { y = with_bit x bit 1; m = n1.0; below = with_bit_lt x bit 1 64 few h; agree = agree_with x bit 1; leads = n1.1; behaved = c })
            (or_cases (F n0.0) (F n1.0) (sym both ∙ b)),
        λ s. both ∙ ⊎_elim
            (λ (q : s.y ≡ with_bit x bit 0). or_left (F n0.0) (F n1.0) (somewhere_same w m F bit (bit + 1) x n0.0 s (ap (value w.maps m) q ∙ n0.1)))
            (λ (q : s.y ≡ with_bit x bit 1). or_right (F n0.0) (F n1.0) (somewhere_same w m F bit (bit + 1) x n1.0 s (ap (value w.maps m) q ∙ n1.1)))
            (one_of_two x s.y bit few h s.below s.agree),
      )

  pub freed_both : IsFreed w bit (bit + 1) m r
  freed_both = record {
    freed_fails = λ x a h e t X. freed_here (λ n. fails w n t X) x a h ((either_at x a h e).both_fail t X);
    freed_ends = λ x a h e t z b. freed_here (λ n. ends w n t z) x a h ((either_at x a h e).both_end t z);
  }

-- the bits so far, and then one more
module _ (w : World) (m n r : MapId) (first bit : ℕ) (order : first ≤ bit) (few : bit < 64) (has : HasNodes w n) where
  freed_further : (F : NodeId → Bool) (x : ℕ) (a : NodeId) → x < 2 ^ 64 → ((F a ≡ true) ↔ Somewhere w n bit (bit + 1) x F)
      → ((y : ℕ) (b : NodeId) → y < 2 ^ 64 → value w.maps n y ≡ Some b → (F b ≡ true) ↔ Somewhere w m first bit y F) → (F a ≡ true) ↔ Somewhere w m first (bit + 1) x F
  freed_further F x a h near far = (
    λ b. let s = near.0 b in let u = (far s.y s.m s.below s.leads).0 s.behaved in
        record { y = u.y; m = u.m; below = u.below; agree = agree_wider first bit x s.y u.y order s.agree u.agree; leads = u.leads; behaved = u.behaved },
    λ s. let y = with_bit x bit (bit_at s.y bit) in let l = with_bit_lt x bit (bit_at s.y bit) 64 few h in let b = has.nodes y l in
        near.1 (record {
          y = y;
          m = b.0;
          below = l;
          agree = agree_with x bit (bit_at s.y bit);
          leads = b.1;
          behaved = (far y b.0 l b.1).1 (record { y = s.y; m = s.m; below = s.below; agree = agree_far first bit x s.y s.agree; leads = s.leads; behaved = s.behaved });
        }),
  )

  pub freed_more : IsFreed w first bit m n → IsFreed w bit (bit + 1) n r → IsFreed w first (bit + 1) m r
  freed_more far near = record {
    freed_fails = λ x a h e t X. freed_further (λ b. fails w b t X) x a h (near.freed_fails x a h e t X) (λ y b l f. far.freed_fails y b l f t X);
    freed_ends = λ x a h e t z k. freed_further (λ b. ends w b t z) x a h (near.freed_ends x a h e t z k) (λ y b l f. far.freed_ends y b l f t z k);
  }

-- ---- the bits that matter
pub support_none : (w : World) (m : MapId) → IsSupport w 0 m 0
support_none w m = record { within = omega arith; others = λ k h e. absurd (omega arith) }

pub support_more : (v w : World) (m : MapId) (bits bit : ℕ) (matters : Bool) → Extends v w → HasNodes v m → bit < 64 → IsSupport v bit m bits
    → (matters ≡ false → (x : ℕ) → value v.maps m (turned x bit) ≡ value v.maps m x) → IsSupport w (bit + 1) m (bit_or bits ((cond matters 1 0) * 2 ^ bit % 2 ^ 64))
support_more v w m bits bit matters k has few is still = record { within = below matters; others = others }
  where
    below : (b : Bool) → bit_or bits ((cond b 1 0) * 2 ^ bit % 2 ^ 64) < 2 ^ (bit + 1)
    below true = set_below bits bit (bit + 1) (omega arith) (omega arith) (pow_more bit (bit + 1) bits (omega arith) is.within)
    below false = or_lt (bit + 1) bits (0 * 2 ^ bit % 2 ^ 64) (pow_more bit (bit + 1) bits (omega arith) is.within) (subst (λ z. z % 2 ^ 64 < 2 ^ (bit + 1)) (sym (zero-mul (2 ^ bit))) (pow_pos (bit + 1)))

    first_zero : (a b : ℕ) → max a b ≡ 0 → a ≡ 0
    first_zero a b e = omega arith

    not_set : (b : Bool) → bit_at (bit_or bits ((cond b 1 0) * 2 ^ bit % 2 ^ 64)) bit ≡ 0 → b ≡ false
    not_set true e = let one : bit_at (bit_or bits (1 * 2 ^ bit % 2 ^ 64)) bit ≡ 1 = bit_at_set_same w64 bits bit few in absurd (omega arith)
    not_set false e = refl

    same_later : (x : ℕ) → value w.maps m x ≡ value v.maps m x
    same_later x = k.maps.same m x has.known

    others : (i : ℕ) → i < bit + 1 → bit_at (bit_or bits ((cond matters 1 0) * 2 ^ bit % 2 ^ 64)) i ≡ 0 → (x : ℕ) → value w.maps m (turned x i) ≡ value w.maps m x
    others i h e x = same_later (turned x i) ∙ ⊎_elim
        (λ (l : i < bit). is.others i l (first_zero (bit_at bits i) (bit_at ((cond matters 1 0) * 2 ^ bit % 2 ^ 64) i) (sym (bit_at_or bits ((cond matters 1 0) * 2 ^ bit % 2 ^ 64) i) ∙ e)) x)
        (λ (l : bit ≤ i).
        let here : bit ≡ i = omega arith in
        subst (λ j. value v.maps m (turned x j) ≡ value v.maps m x) here (still (not_set matters (ap (bit_at (bit_or bits ((cond matters 1 0) * 2 ^ bit % 2 ^ 64))) here ∙ e)) x))
        (cases_lt i bit) ∙ sym (same_later x)

-- ---- as the world grows
pub still_later : (v w : World) (m : MapId) (bit : ℕ) → Extends v w → HasNodes v m → ((x : ℕ) → value v.maps m (turned x bit) ≡ value v.maps m x) → (x : ℕ) → value w.maps m (turned x bit) ≡ value w.maps m x
still_later v w m bit k has still x = k.maps.same m (turned x bit) has.known ∙ still x ∙ sym (k.maps.same m x has.known)

pub part_later : (v u w : World) (m part : MapId) (f : ℕ → ℕ) → Extends v u → Extends u w → HasNodes v m → IsMap u.maps part (λ x. value v.maps m (f x)) → (x : ℕ) → value w.maps part x ≡ value w.maps m (f x)
part_later v u w m part f k l has made x = l.maps.same part x made.known ∙ made.values x ∙ sym ((extends_trans v u w k l).maps.same m (f x) has.known)

pub freed_next : (v w : World) (m n r : MapId) (first bit : ℕ) → Extends v w → first ≤ bit → bit < 64 → HasNodes v m → HasNodes v n → IsFreed v first bit m n → IsFreed w bit (bit + 1) n r → IsFreed w first (bit + 1) m r
freed_next v w m n r first bit k order few hm hn far near =
    freed_more w m n r first bit order few (has_nodes-extends v w k n hn) (freed-extends v w k first bit m n hm hn far) near
