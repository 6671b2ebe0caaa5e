-- Maps each of whose nodes is turned once, by several bits together.
use Rattle.std.proofs.Common.{◌≡◌, ◌<◌, ◌≤◌, ◌+◌, ◌-◌, ◌%◌, ◌^◌, ◌==◌, ℕ, true, false, cond, min, ⊎_elim, Option, Some, None, refl, sym, ap, ◌∙◌, subst, arith}
use Rattle.std.specs.Int.{bit_at}
use Rattle.std.specs.Int.Bits.{bit_and, bit_xor, xor_zero_r}
use Rattle.std.proofs.lemmas.Option.{same_Some}
use Rattle.std.proofs.lemmas.Nat.{and_le_l, xor_comm}
use Rattle.std.proofs.lemmas.Nat.Bits.{bit_at-lt, bit_at_and, bit_at_xor, same_from_bits}
use Rattle.occ_bits.specs.occ_dd.Assignment.{with_bit}
use Rattle.occ_bits.proofs.from_dd.Bits.{bit_cases, with_bit_same}
use Rattle.occ_bits.specs.occ_dd.Store.{IsSet, has}
use Rattle.occ_bits.specs.occ_dd.declared.set.SetId.{SetId}
use Rattle.occ_weave.specs.occ_mdd.Maps.{IsMap, value}
use Rattle.occ_weave.specs.occ_mdd.declared.map.MapId.{MapId}
use Rattle.occ_weave.specs.occ_node.declared.node.NodeId.{NodeId}
use Rattle.occ_weave.specs.occ_node.declared.world.World.{World}
use Rattle.occ_follow.specs.Sequence.{HasNodes}
use Rattle.occ_norm_frame.specs.Lifted.{IsTurned, OnOne}
use Rattle.occ_norm_frame.specs.Maps.{Extends, Lifts}
use Rattle.occ_norm_frame.proofs.Worlds.{extends_trans, has_nodes-extends}
use Rattle.occ_norm_frame.specs.Changes.{IsChanged}
use Rattle.occ_norm_frame.proofs.After.{changed-extends}
use Rattle.occ_norm_frame.proofs.Changing.{all_change, changed_by, changed_twice, first_change, more_change, no_change, one_change, part_later, xor_in_turn}

-- ---- bits of a change
-- those of some bits below a bit, and the others
pub bits_parted : (x bits bit : ℕ) → bit_xor (bit_and x (bit_and bits (2 ^ bit - 1))) (bit_and x (bit_xor bits (bit_and bits (2 ^ bit - 1)))) ≡ bit_and x bits
bits_parted x bits bit = same_from_bits _ _ (λ i.
    bit_at_xor (bit_and x (bit_and bits (2 ^ bit - 1))) (bit_and x (bit_xor bits (bit_and bits (2 ^ bit - 1)))) i
    ∙ (λ j. (below i j + others i j) % 2)
    ∙ sums (bit_at x i) (bit_at bits i) (bit_at (2 ^ bit - 1) i) (bit_at-lt x i) (bit_at-lt bits i) (bit_at-lt (2 ^ bit - 1) i)
    ∙ sym (bit_at_and x bits i))
  where
    below : (i : ℕ) → bit_at (bit_and x (bit_and bits (2 ^ bit - 1))) i ≡ min (bit_at x i) (min (bit_at bits i) (bit_at (2 ^ bit - 1) i))
    below i = bit_at_and x (bit_and bits (2 ^ bit - 1)) i ∙ ap (min (bit_at x i)) (bit_at_and bits (2 ^ bit - 1) i)

    others : (i : ℕ) → bit_at (bit_and x (bit_xor bits (bit_and bits (2 ^ bit - 1)))) i ≡ min (bit_at x i) ((bit_at bits i + min (bit_at bits i) (bit_at (2 ^ bit - 1) i)) % 2)
    others i = bit_at_and x (bit_xor bits (bit_and bits (2 ^ bit - 1))) i
        ∙ ap (min (bit_at x i)) (bit_at_xor bits (bit_and bits (2 ^ bit - 1)) i ∙ ap (λ n. (bit_at bits i + n) % 2) (bit_at_and bits (2 ^ bit - 1) i))

    sums : (a b m : ℕ) → a < 2 → b < 2 → m < 2 → (min a (min b m) + min a ((b + min b m) % 2)) % 2 ≡ min a b
    sums a b m h l k = omega arith

-- no bit is left
pub none_left : (x bits change : ℕ) → change ≡ bit_xor change (bit_and x (bit_and bits (2 ^ 0 - 1)))
none_left x bits change = sym (xor_zero_r change) ∙ ap (bit_xor change) (sym (first_change x bits))

-- a bit that is none of them
pub bit_left_out : (x bits bit left change : ℕ) → bit + 1 ≡ left → (bit_at bits bit == 1) ≡ false
    → bit_xor change (bit_and x (bit_and bits (2 ^ bit - 1))) ≡ bit_xor change (bit_and x (bit_and bits (2 ^ left - 1)))
bit_left_out x bits bit left change e h = ap (bit_xor change)
    (sym (xor_zero_r (bit_and x (bit_and bits (2 ^ bit - 1))))
    ∙ ap (bit_xor (bit_and x (bit_and bits (2 ^ bit - 1)))) (sym (no_change x bits bit h))
    ∙ more_change x bits bit
    ∙ ap (λ n. bit_and x (bit_and bits (2 ^ n - 1))) e)

-- the bit itself, where it is one of them
bit_part : (x bits bit v : ℕ) → (bit_at bits bit == 1) ≡ true → bit_at x bit ≡ v → cond (v == 1) (2 ^ bit) 0 ≡ bit_and x (bit_and bits (2 ^ bit))
bit_part x bits bit v h e = ap (λ n. cond (n == 1) (2 ^ bit) 0) (sym e) ∙ one_change x bits bit (bit_at x bit == 1) refl h

pub bit_is_zero : (x bits bit left change : ℕ) → bit + 1 ≡ left → (bit_at bits bit == 1) ≡ true → bit_at x bit ≡ 0
    → bit_xor change (bit_and x (bit_and bits (2 ^ bit - 1))) ≡ bit_xor change (bit_and x (bit_and bits (2 ^ left - 1)))
bit_is_zero x bits bit left change e h z = ap (bit_xor change)
    (sym (xor_zero_r (bit_and x (bit_and bits (2 ^ bit - 1))))
    ∙ ap (bit_xor (bit_and x (bit_and bits (2 ^ bit - 1)))) (bit_part x bits bit 0 h z)
    ∙ more_change x bits bit
    ∙ ap (λ n. bit_and x (bit_and bits (2 ^ n - 1))) e)

pub bit_is_one : (x bits bit left change : ℕ) → bit + 1 ≡ left → (bit_at bits bit == 1) ≡ true → bit_at x bit ≡ 1
    → bit_xor (bit_xor change (2 ^ bit)) (bit_and x (bit_and bits (2 ^ bit - 1))) ≡ bit_xor change (bit_and x (bit_and bits (2 ^ left - 1)))
bit_is_one x bits bit left change e h o =
    xor_in_turn change (bit_and x (bit_and bits (2 ^ bit - 1))) (2 ^ bit)
    ∙ ap (bit_xor change)
    (ap (bit_xor (bit_and x (bit_and bits (2 ^ bit - 1)))) (bit_part x bits bit 1 h o)
    ∙ more_change x bits bit
    ∙ ap (λ n. bit_and x (bit_and bits (2 ^ n - 1))) e)

-- ---- maps
-- a map with the same bits turned everywhere
pub changed_all : (w : World) (change : ℕ) (m r : MapId) → Lifts w m m r (λ a b. OnOne (IsTurned w change) a) → IsChanged w (λ x. change) m r
changed_all w change m r lifts = record { changed = λ x a b h e f. at (value w.maps m x) (value w.maps r x) a b (lifts.related x h) e f }
  where
    at : (o q : Option NodeId) (a b : NodeId) → OnOne (IsTurned w change) o q → o ≡ Some a → q ≡ Some b → IsTurned w change a b
    at (Some p) (Some s) a b is e f = subst (λ c. IsTurned w change c b) (same_Some p a e) (subst (λ c. IsTurned w change p c) (same_Some s b f) is)
    at (Some p) None a b is e f = absurd is
    at None q a b is e f = absurd (cc)

-- a map that has been turned at the two values of a bit
changed_joined : (w : World) (bit : ℕ) (f g h : ℕ → ℕ) (m zero one low high r : MapId)
    → ((x : ℕ) → value w.maps zero x ≡ value w.maps m (with_bit x bit 0)) → ((x : ℕ) → value w.maps one x ≡ value w.maps m (with_bit x bit 1))
    → IsChanged w f zero low → IsChanged w g one high
    → ((x : ℕ) → value w.maps r x ≡ cond (bit_at x bit == 1) (value w.maps high x) (value w.maps low x))
    → ((x : ℕ) → bit_at x bit ≡ 0 → f x ≡ h x) → ((x : ℕ) → bit_at x bit ≡ 1 → g x ≡ h x)
    → IsChanged w h m r
changed_joined w bit f g h m zero one low high r zeros ones first second picks on_zero on_one = record {
  changed = λ x a b l e k. ⊎_elim
      (λ (z : bit_at x bit ≡ 0). subst (λ c. IsTurned w c a b) (on_zero x z)
      (first.changed x a b l (zeros x ∙ ap (value w.maps m) (with_bit_same x bit 0 z) ∙ e)
      (sym (ap (λ n. cond (n == 1) (value w.maps high x) (value w.maps low x)) z) ∙ sym (picks x) ∙ k)))
      (λ (o : bit_at x bit ≡ 1). subst (λ c. IsTurned w c a b) (on_one x o)
      (second.changed x a b l (ones x ∙ ap (value w.maps m) (with_bit_same x bit 1 o) ∙ e)
      (sym (ap (λ n. cond (n == 1) (value w.maps high x) (value w.maps low x)) o) ∙ sym (picks x) ∙ k)))
      (bit_cases x bit);
}

-- the worlds: at first, after the map's parts at a bit, after each of them is turned, after the bit's set, at the end
pub turned_joined : (v u1 u2 u3 u4 u5 w : World) → Extends v u1 → Extends u1 u2 → Extends u2 u3 → Extends u3 u4 → Extends u4 u5 → Extends u5 w
    → (bits bit left change turned : ℕ) → bit + 1 ≡ left → turned ≡ bit_xor change (2 ^ bit) → (bit_at bits bit == 1) ≡ true
    → (m zero one low high r : MapId) (set : SetId) → HasNodes v m
    → IsMap u1.maps zero (λ x. value v.maps m (with_bit x bit 0)) → HasNodes u1 zero
    → IsMap u2.maps one (λ x. value u1.maps m (with_bit x bit 1)) → HasNodes u2 one
    → HasNodes u3 low → IsChanged u3 (λ x. bit_xor change (bit_and x (bit_and bits (2 ^ bit - 1)))) zero low
    → HasNodes u4 high → IsChanged u4 (λ x. bit_xor turned (bit_and x (bit_and bits (2 ^ bit - 1)))) one high
    → IsSet u5.store set (λ x. bit_at x bit == 1)
    → IsMap w.maps r (λ x. cond (has u5.store set x) (value u5.maps high x) (value u5.maps low x))
    → IsChanged w (λ x. bit_xor change (bit_and x (bit_and bits (2 ^ left - 1)))) m r
turned_joined v u1 u2 u3 u4 u5 w k1 k2 k3 k4 k5 k6 bits bit left change turned e t h m zero one low high r set hm zeros hz ones ho hl first hh second is made =
    changed_joined w bit (λ x. bit_xor change (bit_and x (bit_and bits (2 ^ bit - 1)))) (λ x. bit_xor turned (bit_and x (bit_and bits (2 ^ bit - 1))))
    (λ x. bit_xor change (bit_and x (bit_and bits (2 ^ left - 1)))) m zero one low high r
    (part_later v u1 w m zero (λ x. with_bit x bit 0) k1 from1 hm zeros)
    (part_later u1 u2 w m one (λ x. with_bit x bit 1) k2 from2 (has_nodes-extends v u1 k1 m hm) ones)
    (changed-extends u3 w from3 (λ x. bit_xor change (bit_and x (bit_and bits (2 ^ bit - 1)))) zero low (has_nodes-extends u1 u3 (extends_trans u1 u2 u3 k2 k3) zero hz) hl first)
    (changed-extends u4 w from4 (λ x. bit_xor turned (bit_and x (bit_and bits (2 ^ bit - 1)))) one high (has_nodes-extends u2 u4 (extends_trans u2 u3 u4 k3 k4) one ho) hh second)
    picks
    (λ x z. bit_is_zero x bits bit left change e h z)
    (λ x o. ap (λ n. bit_xor n (bit_and x (bit_and bits (2 ^ bit - 1)))) t ∙ bit_is_one x bits bit left change e h o)
  where
    from4 : Extends u4 w
    from4 = extends_trans u4 u5 w k5 k6

    from3 : Extends u3 w
    from3 = extends_trans u3 u4 w k4 from4

    from2 : Extends u2 w
    from2 = extends_trans u2 u3 w k3 from3

    from1 : Extends u1 w
    from1 = extends_trans u1 u2 w k2 from2

    high_later : HasNodes u5 high
    high_later = has_nodes-extends u4 u5 k5 high hh

    low_later : HasNodes u5 low
    low_later = has_nodes-extends u3 u5 (extends_trans u3 u4 u5 k4 k5) low hl

    picks : (x : ℕ) → value w.maps r x ≡ cond (bit_at x bit == 1) (value w.maps high x) (value w.maps low x)
    picks x = made.values x
        ∙ ap (λ b. cond b (value u5.maps high x) (value u5.maps low x)) (is.members x)
        ∙ (λ i. cond (bit_at x bit == 1) (sym (k6.maps.same high x high_later.known) i) (sym (k6.maps.same low x low_later.known) i))

-- the lower bits one by one, and then the others together
pub changed_rest : (v w : World) (bits rest bit : ℕ) (m n r : MapId) → Extends v w → rest < 2 ^ 64
    → ((x : ℕ) → bit_xor (bit_and x (bit_and bits (2 ^ bit - 1))) (bit_and x rest) ≡ bit_and x bits)
    → HasNodes v m → HasNodes v n → IsChanged v (λ x. bit_and x (bit_and bits (2 ^ bit - 1))) m n
    → IsChanged w (λ x. bit_xor 0 (bit_and x (bit_and rest (2 ^ 64 - 1)))) n r → IsChanged w (λ x. bit_and x bits) m r
changed_rest v w bits rest bit m n r grown small parted hm hn is next =
    changed_by w _ _ m r
    (λ x. ap (bit_xor (bit_and x (bit_and bits (2 ^ bit - 1)))) (plain x) ∙ parted x)
    (changed_twice w (λ x. bit_and x (bit_and bits (2 ^ bit - 1))) (λ x. bit_xor 0 (bit_and x (bit_and rest (2 ^ 64 - 1)))) m n r
    (λ x h. subst (λ k. k < 2 ^ 64) (sym (plain x)) (let below : bit_and x rest ≤ x = and_le_l x rest in omega arith))
    (has_nodes-extends v w grown n hn) (changed-extends v w grown (λ x. bit_and x (bit_and bits (2 ^ bit - 1))) m n hm hn is) next)
  where
    plain : (x : ℕ) → bit_xor 0 (bit_and x (bit_and rest (2 ^ 64 - 1))) ≡ bit_and x rest
    plain x = xor_comm 0 (bit_and x (bit_and rest (2 ^ 64 - 1))) ∙ xor_zero_r (bit_and x (bit_and rest (2 ^ 64 - 1))) ∙ all_change x rest small
