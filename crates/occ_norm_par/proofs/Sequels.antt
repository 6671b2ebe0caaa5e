-- The map of processes alone, and the map of these and what follows.
use Rattle.std.proofs.Common.{◌≡◌, ◌≢◌, ◌<◌, ◌≤◌, ◌^◌, ◌==◌, ◌+◌, ◌%◌, ℕ, zero, suc, min, max, Bool, true, false, cond, List, Some, ⊎_elim, refl, sym, ap, ◌∙◌, subst, arith}
use Rattle.std.specs.Prelude.{◌↔◌}
use Rattle.std.proofs.lemmas.Bool.{cases_lt}
use Rattle.std.proofs.lemmas.Nat.{xor_lt}
use Rattle.std.proofs.lemmas.Nat.Bits.{bit_at-lt, bit_at_xor, bit_at_and, bit_at_or, bit_at_above, same_from_bits_below}
use Rattle.std.specs.Int.{bit_at}
use Rattle.std.specs.Int.Bits.{bit_and, bit_or, bit_xor, xor_assoc}
use Rattle.occ_syntax.specs.occ_base.declared.event.Event.{Event}
use Rattle.occ_syntax.specs.occ_base.declared.names.Name.{Name}
use Rattle.occ_syntax.specs.occ_base.declared.width.Width.{Width}
use Rattle.occ_syntax.specs.Meaning.{ends as part_ends}
use Rattle.occ_syntax.specs.Scopes.{Environment}
use Rattle.occ_syntax.specs.Tree.{Tree}
use Rattle.occ_norm_frame.specs.occ_bits.Layout.{state_of}
use Rattle.occ_norm_frame.specs.occ_dd.Assignment.{turned, with_bit}
use Rattle.occ_norm_frame.proofs.from_dd.Bits.{bit_cases, bit_at-with_bit_same, bit_at-with_bit_other, with_bit_lt, with_bit_same}
use Rattle.occ_norm_frame.specs.occ_mdd.Maps.{value}
use Rattle.occ_norm_frame.specs.occ_mdd.declared.map.MapId.{MapId}
use Rattle.occ_norm_frame.specs.occ_node.World.{fails, ends}
use Rattle.occ_norm_frame.specs.occ_node.declared.node.NodeId.{NodeId}
use Rattle.occ_norm_frame.specs.occ_node.declared.world.World.{World}
use Rattle.occ_norm_frame.specs.occ_follow.Sequence.{HasNodes}
use Rattle.occ_norm_frame.proofs.from_weave.Growth.{trans_iff, iff_of_same}
use Rattle.occ_norm_frame.specs.Lifted.{IsTurned}
use Rattle.occ_norm_frame.specs.Maps.{Extends}
use Rattle.occ_norm_frame.proofs.Worlds.{extends_trans, has_nodes-extends}
use Rattle.occ_norm_frame.specs.After.{IsAfter, IsOver, Resumes, WritesWithin, change_of}
use Rattle.occ_norm_frame.specs.Alone.{AreChanged, IsPart, except}
use Rattle.occ_norm_frame.specs.Changes.{IsChanged, IsSupport}
use Rattle.occ_norm_frame.proofs.After.{changed-extends, over-extends, support-extends}
use Rattle.occ_norm_frame.proofs.Alone.{alone_later, alone_to, and_below, change_lt, except_bit}
use Rattle.occ_norm_par.specs.Joints.{IsEnded, IsJoint, Joins, anywhere, image}
use Rattle.occ_norm_par.specs.declared.joint.Joint.{Joint}
use Rattle.occ_norm_par.proofs.Steps.{joint_grow, or_iff}
use Rattle.occ_norm_par.proofs.Words.{below_or_last, image_free, image_lt, image_same, image_written}

-- ---- maps on which few bits matter
-- y's bits below m, and x's from there on
mixed : ℕ → ℕ → ℕ → ℕ
mixed zero x y = x
mixed (suc m) x y = with_bit (mixed m x y) m (bit_at y m)

mixed_lt : (m x y : ℕ) → m ≤ 64 → x < 2 ^ 64 → mixed m x y < 2 ^ 64
unfolding mixed
mixed_lt zero x y h k = k
mixed_lt (suc m) x y h k = with_bit_lt (mixed m x y) m (bit_at y m) 64 (omega (arith, h)) (mixed_lt m x y (omega (arith, h)) k)

mixed_low : (m x y k : ℕ) → k < m → bit_at (mixed m x y) k ≡ bit_at y k
unfolding mixed
mixed_low zero x y k h = absurd (omega (arith, h))
mixed_low (suc m) x y k h = ⊎_elim
    (λ (l : k < m). let ne : k ≢ m = omega (arith, l) in bit_at-with_bit_other (mixed m x y) m (bit_at y m) k ne ∙ mixed_low m x y k l)
    (λ (l : k ≡ m). subst (λ (i : ℕ). bit_at (with_bit (mixed m x y) m (bit_at y m)) i ≡ bit_at y i) (sym l) (bit_at-with_bit_same (mixed m x y) m (bit_at y m) (bit_at-lt y m)))
    (below_or_last m k h)

mixed_high : (m x y k : ℕ) → m ≤ k → bit_at (mixed m x y) k ≡ bit_at x k
unfolding mixed
mixed_high zero x y k h = refl
mixed_high (suc m) x y k h = let ne : k ≢ m = omega (arith, h) in bit_at-with_bit_other (mixed m x y) m (bit_at y m) k ne ∙ mixed_high m x y k (omega (arith, h))

module _ (w : World) (n : ℕ) (map : MapId) (needed : ℕ) (few : n ≤ 64) (support : IsSupport w n map needed) (over : IsOver w n map) where
  with_same : (z m v : ℕ) → m < n → bit_at needed m ≡ 0 → value w.maps map (with_bit z m v) ≡ value w.maps map z
  with_same z m v h e = by (bit_at z m == v)
    where
      by : (b : Bool) → value w.maps map (cond b z (turned z m)) ≡ value w.maps map z
      by true = refl
      by false = support.others m h e z

  mixed_same : (m x y : ℕ) → m ≤ n → ((k : ℕ) → k < n → bit_at needed k ≡ 1 → bit_at x k ≡ bit_at y k) → value w.maps map (mixed m x y) ≡ value w.maps map x
  unfolding mixed
  mixed_same zero x y h agree = refl
  mixed_same (suc m) x y h agree = ⊎_elim
      (λ (e : bit_at needed m ≡ 0). with_same (mixed m x y) m (bit_at y m) (omega (arith, h)) e)
      (λ (e : bit_at needed m ≡ 1). ap (value w.maps map) (with_bit_same (mixed m x y) m (bit_at y m) (mixed_high m x y m (omega arith) ∙ agree m (omega (arith, h)) e)))
      (bit_cases needed m)
      ∙ mixed_same m x y (omega (arith, h)) agree

  -- the bits on which the map depends decide its value
  pub support_same : (x y : ℕ) → x < 2 ^ 64 → y < 2 ^ 64 → ((k : ℕ) → k < n → bit_at needed k ≡ 1 → bit_at x k ≡ bit_at y k) → value w.maps map x ≡ value w.maps map y
  support_same x y h l agree = sym (mixed_same n x y (omega arith) agree) ∙ over.same (mixed n x y) y (mixed_lt n x y few h) l (λ k i. mixed_low n x y k i)

-- ---- bits
or_first : (a b k : ℕ) → bit_at a k ≡ 1 → bit_at (bit_or a b) k ≡ 1
or_first a b k e = bit_at_or a b k ∙ greater (bit_at a k) (bit_at b k) e (bit_at-lt b k)
  where
    greater : (a b : ℕ) → a ≡ 1 → b < 2 → max a b ≡ 1
    greater a b e h = omega (arith, e, h)

or_second : (a b k : ℕ) → bit_at b k ≡ 1 → bit_at (bit_or a b) k ≡ 1
or_second a b k e = bit_at_or a b k ∙ greater (bit_at a k) (bit_at b k) (bit_at-lt a k) e
  where
    greater : (a b : ℕ) → a < 2 → b ≡ 1 → max a b ≡ 1
    greater a b h e = omega (arith, e, h)

-- a written bit has its value after
value_after : (x all written y z k : ℕ) → AreChanged all (bit_and x (except all written)) y z → k < 64 → bit_at all k ≡ 1 → bit_at written k ≡ 1 → bit_at z k ≡ bit_at y k
value_after x all written y z k is h one on =
    is k h one ∙ plain (bit_at (bit_and x (except all written)) k) (bit_at y k)
    (bit_at_and x (except all written) k ∙ ap (min (bit_at x k)) (except_bit all written k) ∙ none (bit_at x k) (bit_at all k) (bit_at written k) one on) (bit_at-lt y k)
  where
    none : (x a v : ℕ) → a ≡ 1 → v ≡ 1 → min x ((a + min a v) % 2) ≡ 0
    none x a v d e = omega (arith, d, e)

    plain : (c y : ℕ) → c ≡ 0 → y < 2 → (c + y) % 2 ≡ y
    plain c y e h = omega (arith, e, h)

-- ---- processes, and then what follows
module _ (w : World) (layout : List (Name × Width × ℕ)) (closed : List Name) (Γ : Environment) (p : Tree) (j : Joint) (n keep : ℕ)
    (together rest next made r : MapId) (few : n ≤ 64) (inside : keep < 2 ^ n)
    (support : IsSupport w n rest j.needed) (over : IsOver w n rest) (changed : IsChanged w (λ z. bit_and z (bit_and keep j.written)) rest next)
    (turned_back : IsChanged w (λ x. bit_and x (bit_and keep j.written)) made r)
    (within : WritesWithin layout n j.written Γ p) (alone : IsPart w layout (bit_or keep j.needed) (except (bit_or keep j.needed) j.written) closed Γ p together)
    (joint : IsJoint w j n together next made) where
  abbrev all : ℕ
  all = bit_or keep j.needed

  abbrev base : ℕ → ℕ
  base x = bit_and x (except all j.written)

  abbrev part : ℕ → ℕ
  part x = bit_and x (bit_and keep j.written)

  module _ (x y z : ℕ) (t : List Event) (ended : part_ends Γ p (state_of layout x) t (state_of layout y)) (is : AreChanged all (base x) y z) where
    -- the bits on which what follows depends are those of the state after
    image_needed : (k : ℕ) → k < n → bit_at j.needed k ≡ 1 → bit_at (image j n x z) k ≡ bit_at y k
    image_needed k h e = ⊎_elim
        (λ (f : bit_at j.written k ≡ 0). image_same j n x z k h e f ∙ within x y t ended k h f)
        (λ (f : bit_at j.written k ≡ 1). image_written j n x z k e f ∙ value_after x all j.written y z k is (omega (arith, h, few)) (or_second keep j.needed k e) f)
        (bit_cases j.written k)

    image_kept : (k : ℕ) → k < 64 → bit_at keep k ≡ 1 → bit_at j.written k ≡ 1 → bit_at (image j n x z) k ≡ bit_at y k
    image_kept k h e f = ⊎_elim
        (λ (d : bit_at j.needed k ≡ 0). image_free j n x z k d)
        (λ (d : bit_at j.needed k ≡ 1). image_written j n x z k d f)
        (bit_cases j.needed k)
        ∙ value_after x all j.written y z k is h (or_first keep j.needed k e) f

    part_bit : (u k : ℕ) → bit_at (part u) k ≡ min (bit_at u k) (min (bit_at keep k) (bit_at j.written k))
    part_bit u k = bit_at_and u (bit_and keep j.written) k ∙ ap (min (bit_at u k)) (bit_at_and keep j.written k)

    bits_same : (k : ℕ) → k < 64 → (min (bit_at x k) (min (bit_at keep k) (bit_at j.written k)) + min (bit_at (image j n x z) k) (min (bit_at keep k) (bit_at j.written k))) % 2 ≡ min ((bit_at x k + bit_at y k) % 2) (bit_at keep k)
    bits_same k h = ⊎_elim
        (λ (off : bit_at keep k ≡ 0). none (bit_at x k) (bit_at (image j n x z) k) (bit_at y k) (bit_at keep k) (bit_at j.written k) off)
        (λ (on : bit_at keep k ≡ 1). ⊎_elim
        (λ (low : k < n). ⊎_elim
        (λ (f : bit_at j.written k ≡ 0). still (bit_at x k) (bit_at (image j n x z) k) (bit_at y k) (bit_at keep k) (bit_at j.written k) f (within x y t ended k low f))
        (λ (f : bit_at j.written k ≡ 1). moved (bit_at x k) (bit_at (image j n x z) k) (bit_at y k) (bit_at keep k) (bit_at j.written k) on f (bit_at-lt x k) (bit_at-lt y k) (image_kept k h on f))
        (bit_cases j.written k))
        (λ (high : n ≤ k). let off : bit_at keep k ≡ 0 = bit_at_above keep n k inside high in absurd (omega (arith, on, off)))
        (cases_lt k n))
        (bit_cases keep k)
      where
        none : (x i y k v : ℕ) → k ≡ 0 → (min x (min k v) + min i (min k v)) % 2 ≡ min ((x + y) % 2) k
        none x i y k v e = omega (arith, e)

        still : (x i y k v : ℕ) → v ≡ 0 → x ≡ y → (min x (min k v) + min i (min k v)) % 2 ≡ min ((x + y) % 2) k
        still x i y k v e f = omega (arith, e, f)

        moved : (x i y k v : ℕ) → k ≡ 1 → v ≡ 1 → x < 2 → y < 2 → i ≡ y → (min x (min k v) + min i (min k v)) % 2 ≡ min ((x + y) % 2) k
        moved x i y k v e f h l g = omega (arith, e, f, h, l, g)

    -- all that is turned are the changes that matter outside
    turned_all : x < 2 ^ 64 → y < 2 ^ 64 → z < 2 ^ 64 → bit_xor (part x) (part (image j n x z)) ≡ change_of keep x y
    turned_all hx hy hz = same_from_bits_below 64 (bit_xor (part x) (part (image j n x z))) (change_of keep x y)
        (xor_lt 64 (part x) (part (image j n x z)) (and_below x (bit_and keep j.written) hx) (and_below (image j n x z) (bit_and keep j.written) (image_lt j n x z few hz)))
        (change_lt keep x y hx hy)
        (λ k h. bit_at_xor (part x) (part (image j n x z)) k ∙ (λ i. (part_bit x k i + part_bit (image j n x z) k i) % 2) ∙ bits_same k h
        ∙ sym (bit_at_and (bit_xor x y) keep k ∙ ap (λ b. min b (bit_at keep k)) (bit_at_xor x y k)))

    -- what follows, where the part ends
    leads_to : y < 2 ^ 64 → z < 2 ^ 64 → value w.maps rest (image j n x z) ≡ value w.maps rest y
    leads_to hy hz = support_same w n rest j.needed few support over (image j n x z) y (image_lt j n x z few hz) hy image_needed

  -- an end of the processes in a state
  abbrev end_of : ℕ → ℕ → ℕ
  end_of x y = bit_xor (base x) y

  end_lt : (x y : ℕ) → x < 2 ^ 64 → y < 2 ^ 64 → end_of x y < 2 ^ 64
  end_lt x y hx hy = xor_lt 64 (base x) y (and_below x (except all j.written) hx) hy

  end_changed : (x y : ℕ) → AreChanged all (base x) y (end_of x y)
  end_changed x y k h one = bit_at_xor (base x) y k

  resumed : (x : ℕ) (a : NodeId) → x < 2 ^ 64 → value w.maps together x ≡ Some a → (A : NodeId → List Event → Bool) (B : ℕ → NodeId → List Event → Bool)
      → ((y z : ℕ) (m k : NodeId) (u t : List Event) → y < 2 ^ 64 → z < 2 ^ 64 → part_ends Γ p (state_of layout x) t (state_of layout y) → AreChanged all (base x) y z → IsTurned w (part (image j n x z)) m k → A k u ≡ B y m u)
      → (t : List Event) → Joins w j n x a next A t ↔ Resumes w layout closed Γ p rest x B t
  resumed x a h e A B same t = (
    λ s.
        let stop = (alone.alone_ends x a h e s.t1 s.z s.below).0 s.ended in
        let found = over.has.nodes stop.y stop.below in
        let there : value w.maps rest (image j n x s.z) ≡ Some found.0 = leads_to x stop.y s.z s.t1 stop.ended stop.changed stop.below s.below ∙ found.1 in
        record {
          t1 = s.t1;
          t2 = s.t2;
          y = stop.y;
          m = found.0;
          whole = s.whole;
          below = stop.below;
          silent = stop.silent;
          ended = stop.ended;
          leads = found.1;
          behaved = sym (same stop.y s.z found.0 s.m s.t2 s.t1 stop.below s.below stop.ended stop.changed
              (changed.changed (image j n x s.z) found.0 s.m (image_lt j n x s.z few s.below) there s.leads)) ∙ s.behaved;
        },
    λ s.
        let z : ℕ = end_of x s.y in
        let below : z < 2 ^ 64 = end_lt x s.y h s.below in
        let is : AreChanged all (base x) s.y z = end_changed x s.y in
        let inner : image j n x z < 2 ^ 64 = image_lt j n x z few below in
        let found = joint.second.nodes (image j n x z) inner in
        record {
          t1 = s.t1;
          t2 = s.t2;
          z = z;
          m = found.0;
          whole = s.whole;
          below = below;
          ended = (alone.alone_ends x a h e s.t1 z below).1 (record { y = s.y; below = s.below; silent = s.silent; ended = s.ended; changed = is });
          leads = found.1;
          behaved = same s.y z s.m found.0 s.t2 s.t1 s.below below s.ended is
              (changed.changed (image j n x z) s.m found.0 inner (leads_to x s.y z s.t1 s.ended is s.below below ∙ s.leads) found.1) ∙ s.behaved;
        },
  )

  pub sequel_after : IsAfter w layout keep closed Γ p rest r
  sequel_after = record {
    after_fails = λ x b h e t X.
        let first = joint.first.nodes x h in
        let mid = joint.known.nodes x h in
        trans_iff (iff_of_same _ _ ((turned_back.changed x mid.0 b h mid.1 e).turned.same_fail t X))
        (trans_iff ((joint.each x h tt).joint_fails first.0 mid.0 first.1 mid.1 t X)
        (or_iff (alone.alone_fails x first.0 h first.1 t X)
        (resumed x first.0 h first.1 (λ m u. fails w m u X) (λ y m u. fails w m u X) (λ y z m k u v hy hz d is turn. turn.turned.same_fail u X) t)));
    after_ends = λ x b h e t y l.
        let first = joint.first.nodes x h in
        let mid = joint.known.nodes x h in
        let low : bit_xor y (part x) < 2 ^ 64 = xor_lt 64 y (part x) l (and_below x (bit_and keep j.written) h) in
        trans_iff (iff_of_same _ _ ((turned_back.changed x mid.0 b h mid.1 e).turned.turned_end t y l))
        (trans_iff ((joint.each x h tt).joint_ends first.0 mid.0 first.1 mid.1 t (bit_xor y (part x)) low)
        (resumed x first.0 h first.1 (λ m u. ends w m u (bit_xor y (part x))) (λ v m u. ends w m u (bit_xor y (change_of keep x v)))
        (λ v z m k u s hv hz d is turn.
        turn.turned.turned_end u (bit_xor y (part x)) low
        ∙ ap (ends w m u) (xor_assoc y (part x) (part (image j n x z)) ∙ ap (bit_xor y) (turned_all x v z s d is h hv hz)))
        t));
  }

-- ---- what `sequel` makes
module _ (v w : World) (k : Extends v w) (layout : List (Name × Width × ℕ)) (closed : List Name) (Γ : Environment) (p : Tree) where
  -- nothing follows
  pub ended_after : (j : Joint) (keep : ℕ) (rest together : MapId) → IsEnded w keep j rest → HasNodes v together
      → IsPart v layout (bit_or keep j.needed) (except (bit_or keep j.needed) j.written) closed Γ p together → IsAfter w layout keep closed Γ p rest together
  ended_after j keep rest together is has part =
      alone_to w layout (bit_or keep j.needed) keep closed Γ p rest together is.nodes is.ending
      (alone_later v w k together has layout (bit_or keep j.needed) keep closed Γ p (subst (λ (n : ℕ). IsPart v layout (bit_or keep j.needed) n closed Γ p together) is.same part))

  pub made_after : (j : Joint) (n keep : ℕ) (together rest next made r : MapId) (u m : World) → Extends v u → Extends u m → Extends m w → n ≤ 64 → keep < 2 ^ n
      → IsSupport v n rest j.needed → IsOver v n together → IsOver v n rest → HasNodes u next → IsChanged u (λ z. bit_and z (bit_and keep j.written)) rest next → IsJoint m j n together next made
      → IsChanged w (λ x. bit_and x (bit_and keep j.written)) made r → WritesWithin layout n j.written Γ p
      → IsPart v layout (bit_or keep j.needed) (except (bit_or keep j.needed) j.written) closed Γ p together → IsAfter w layout keep closed Γ p rest r
  made_after j n keep together rest next made r u m k1 k2 k3 few inside support over_together over has_next changed joint last within part =
      sequel_after w layout closed Γ p j n keep together rest next made r few inside
      (support-extends v w k n rest j.needed over.has support)
      (over-extends v w k n rest over)
      (changed-extends u w (extends_trans u m w k2 k3) (λ z. bit_and z (bit_and keep j.written)) rest next (has_nodes-extends v u k1 rest over.has) has_next changed)
      last within
      (alone_later v w k together over_together.has layout (bit_or keep j.needed) (except (bit_or keep j.needed) j.written) closed Γ p part)
      (joint_grow m w k3 j n anywhere together next made joint)
