-- Maps of parts that nothing follows.
use Rattle.std.proofs.Common.{◌≡◌, ℕ, zero, suc, ◌+◌, ◌-◌, ◌%◌, ◌^◌, ◌<◌, ◌≤◌, ◌==◌, ◌++◌, ◌⊎◌, inl, min, Bool, true, false, cond, List, [], ◌∷◌, Some, ⊎_elim, append-nil, refl, sym, ap, ◌∙◌, subst, arith}
use Rattle.std.specs.Prelude.{◌↔◌}
use Rattle.std.specs.Int.{bit_at}
use Rattle.std.specs.Int.Bits.{bit_and, bit_xor}
use Rattle.std.proofs.lemmas.Bool.{and_from, and_parts, cases_eq, cases_lt, eqb-true, eq-eqb, false≢true}
use Rattle.std.proofs.lemmas.Nat.{and_le_l, xor_lt}
use Rattle.std.proofs.lemmas.Nat.Bits.{bit_at-lt, bit_at_above, bit_at_and, bit_at_xor}
use Rattle.occ_syntax.specs.occ_base.declared.event.Event.{Event}
use Rattle.occ_syntax.specs.occ_base.declared.names.Name.{Name}
use Rattle.occ_syntax.specs.occ_base.declared.width.Width.{Width}
use Rattle.occ_bits.specs.Layout.{state_of}
use Rattle.occ_bits.proofs.from_dd.Bits.{bit_cases, is_one, is_zero}
use Rattle.occ_weave.specs.occ_mdd.Maps.{value}
use Rattle.occ_weave.specs.occ_mdd.declared.map.MapId.{MapId}
use Rattle.occ_weave.specs.occ_node.World.{IsNode, ends, fails}
use Rattle.occ_weave.specs.occ_node.declared.node.NodeId.{NodeId}
use Rattle.occ_weave.specs.occ_node.declared.world.World.{World}
use Rattle.occ_follow.specs.Sequence.{HasNodes}
use Rattle.occ_norm_frame.specs.Maps.{Extends, IsSkip, are_zero, is_clear}
use Rattle.occ_norm_frame.specs.Growth.{node_grow}
use Rattle.occ_norm_frame.proofs.Worlds.{map-keeps}
use Rattle.occ_syntax.specs.declared.scope.Kind.{Kind}
use Rattle.occ_syntax.specs.Meaning.{ends as part_ends, fails as part_fails}
use Rattle.occ_syntax.specs.Scopes.{Environment}
use Rattle.occ_syntax.specs.Tree.{Tree}
use Rattle.occ_weave.specs.Weave.{is_silent_on, off_channels}
use Rattle.occ_norm_frame.specs.After.{AgreeBelow, IsAfter, IsOver, QuietlyFails, Resumes, change_of}
use Rattle.occ_norm_frame.specs.Alone.{AreChanged, IsEnding, IsPart, Stops, except}
use Rattle.occ_norm_frame.specs.Changes.{IsChanged}
use Rattle.occ_norm_frame.specs.Placed.{IsFrame}
use Rattle.occ_norm_frame.proofs.After.{map_node, over_by, state_below, value_was}

-- ---- bits that are 0
pub all_clear : (n bits v : ℕ) → are_zero n bits v ≡ true → (k : ℕ) → k < n → bit_at bits k ≡ 1 → bit_at v k ≡ 0
unfolding are_zero
all_clear zero bits v h k l one = absurd (omega (arith, l))
all_clear (suc n) bits v h k l one =
    let p = and_parts (is_clear bits n v) (are_zero n bits v) h in
    ⊎_elim
    (λ (t : k ≡ n). eqb-true (bit_at v k) 0 (sym (ap (λ b. cond b (bit_at v k == 0) true) (is_one bits k one)) ∙ subst (λ m. is_clear bits m v ≡ true) (sym t) p.0))
    (λ (t : k ≡ n → ⊥). all_clear n bits v p.1 k (omega (arith, l, t)) one)
    (cases_eq k n)

pub clear_all : (n bits v : ℕ) → ((k : ℕ) → k < n → bit_at bits k ≡ 1 → bit_at v k ≡ 0) → are_zero n bits v ≡ true
unfolding are_zero
clear_all zero bits v h = refl
clear_all (suc n) bits v h = and_from (is_clear bits n v) (are_zero n bits v)
    (⊎_elim
    (λ (z : bit_at bits n ≡ 0). ap (λ b. cond b (bit_at v n == 0) true) (is_zero bits n z))
    (λ (o : bit_at bits n ≡ 1). ap (λ b. cond b (bit_at v n == 0) true) (is_one bits n o) ∙ eq-eqb (bit_at v n) 0 (h n (omega arith) o))
    (bit_cases bits n))
    (clear_all n bits v (λ k l. h k (omega arith)))

pub and_below : (a b : ℕ) → a < 2 ^ 64 → bit_and a b < 2 ^ 64
and_below a b h = let l : bit_and a b ≤ a = and_le_l a b in omega (arith, h, l)

pub change_lt : (keep x y : ℕ) → x < 2 ^ 64 → y < 2 ^ 64 → change_of keep x y < 2 ^ 64
change_lt keep x y h l = and_below (bit_xor x y) keep (xor_lt 64 x y h l)

pub except_bit : (bits others k : ℕ) → bit_at (except bits others) k ≡ (bit_at bits k + min (bit_at bits k) (bit_at others k)) % 2
except_bit bits others k = bit_at_xor bits (bit_and bits others) k ∙ ap (λ b. (bit_at bits k + b) % 2) (bit_at_and bits others k)

pub except_lt : (n bits others : ℕ) → bits < 2 ^ n → except bits others < 2 ^ n
except_lt n bits others h = let l : bit_and bits others ≤ bits = and_le_l bits others in xor_lt n bits (bit_and bits others) h (omega (arith, h, l))

-- ---- changes and values of one bit
bit_of : (keep x y z k : ℕ) → bit_at (bit_xor z (change_of keep x y)) k ≡ (bit_at z k + min ((bit_at x k + bit_at y k) % 2) (bit_at keep k)) % 2
bit_of keep x y z k =
    bit_at_xor z (change_of keep x y) k
    ∙ ap (λ v. (bit_at z k + v) % 2) (bit_at_and (bit_xor x y) keep k ∙ ap (λ v. min v (bit_at keep k)) (bit_at_xor x y k))

pub told_bit : (z x y k : ℕ) → z < 2 → x < 2 → y < 2 → (k ≡ 0) ⊎ (k ≡ 1) → (z + min ((x + y) % 2) k) % 2 ≡ cond (k == 1) 0 y → z ≡ (min x k + y) % 2
told_bit z x y k hz hx hy p e = ⊎_elim
    (λ (f : k ≡ 0). value z x y k hz hy f (e ∙ ap (λ n. cond (n == 1) 0 y) f))
    (λ (f : k ≡ 1). change z x y k hz hx hy f (e ∙ ap (λ n. cond (n == 1) 0 y) f))
    p
  where
    value : (z x y k : ℕ) → z < 2 → y < 2 → k ≡ 0 → (z + min ((x + y) % 2) k) % 2 ≡ y → z ≡ (min x k + y) % 2
    value z x y k hz hy f e = omega (arith, hz, hy, f, e)

    change : (z x y k : ℕ) → z < 2 → x < 2 → y < 2 → k ≡ 1 → (z + min ((x + y) % 2) k) % 2 ≡ 0 → z ≡ (min x k + y) % 2
    change z x y k hz hx hy f e = omega (arith, hz, hx, hy, f, e)

pub tell_bit : (z x y k : ℕ) → z < 2 → x < 2 → y < 2 → (k ≡ 0) ⊎ (k ≡ 1) → z ≡ (min x k + y) % 2 → (z + min ((x + y) % 2) k) % 2 ≡ cond (k == 1) 0 y
tell_bit z x y k hz hx hy p e = ⊎_elim
    (λ (f : k ≡ 0). value z x y k hy f e ∙ sym (ap (λ n. cond (n == 1) 0 y) f))
    (λ (f : k ≡ 1). change z x y k hx hy f e ∙ sym (ap (λ n. cond (n == 1) 0 y) f))
    p
  where
    value : (z x y k : ℕ) → y < 2 → k ≡ 0 → z ≡ (min x k + y) % 2 → (z + min ((x + y) % 2) k) % 2 ≡ y
    value z x y k hy f e = omega (arith, hy, f, e)

    change : (z x y k : ℕ) → x < 2 → y < 2 → k ≡ 1 → z ≡ (min x k + y) % 2 → (z + min ((x + y) % 2) k) % 2 ≡ 0
    change z x y k hx hy f e = omega (arith, hx, hy, f, e)

-- what an ending has of a state y after a change of x
abbrev HasEnded : ℕ → ℕ → ℕ → ℕ → Type 0
HasEnded all keep y z = (k : ℕ) → k < 64 → bit_at all k ≡ 1 → bit_at z k ≡ cond (bit_at keep k == 1) 0 (bit_at y k)

changed_from : (all keep x y z : ℕ) → HasEnded all keep y (bit_xor z (change_of keep x y)) → AreChanged all (bit_and x keep) y z
changed_from all keep x y z h k l one =
    told_bit (bit_at z k) (bit_at x k) (bit_at y k) (bit_at keep k) (bit_at-lt z k) (bit_at-lt x k) (bit_at-lt y k) (bit_cases keep k) (sym (bit_of keep x y z k) ∙ h k l one)
    ∙ ap (λ b. (b + bit_at y k) % 2) (sym (bit_at_and x keep k))

changed_to : (all keep x y z : ℕ) → AreChanged all (bit_and x keep) y z → HasEnded all keep y (bit_xor z (change_of keep x y))
changed_to all keep x y z h k l one =
    bit_of keep x y z k
    ∙ tell_bit (bit_at z k) (bit_at x k) (bit_at y k) (bit_at keep k) (bit_at-lt z k) (bit_at-lt x k) (bit_at-lt y k) (bit_cases keep k)
    (h k l one ∙ ap (λ b. (b + bit_at y k) % 2) (bit_at_and x keep k))

-- ---- the part alone
module _ (w : World) (layout : List (Name × Width × ℕ)) (all keep : ℕ) (closed : List Name) (Γ : Environment) (p : Tree) (ended r : MapId) (has : HasNodes w ended) (ending : IsEnding w all keep ended) where
  no_failure : (x : ℕ) (t : List Event) (X : Event → Bool) → Resumes w layout closed Γ p ended x (λ y m u. fails w m u X) t → ⊥
  no_failure x t X s = false≢true (sym (ending.never_fails s.y s.m s.below s.leads s.t2 X) ∙ s.behaved)

  stop_at : (x y : ℕ) (m : NodeId) → x < 2 ^ 64 → y < 2 ^ 64 → value w.maps ended y ≡ Some m → (t t1 t2 : List Event) (z : ℕ) → z < 2 ^ 64 → t ≡ t1 ++ t2 → is_silent_on closed t1 ≡ true
      → part_ends Γ p (state_of layout x) t1 (state_of layout y) → ends w m t2 (bit_xor z (change_of keep x y)) ≡ true → Stops layout all keep closed Γ p x t z
  stop_at x y m hx hy e t t1 [] z hz whole silent is now =
      let same : t ≡ t1 = whole ∙ append-nil t1 in
      record {
        y = y;
        below = hy;
        silent = ap (is_silent_on closed) same ∙ silent;
        ended = subst (λ u. part_ends Γ p (state_of layout x) u (state_of layout y)) (sym same) is;
        changed = changed_from all keep x y z ((ending.ends_now y m hy e (bit_xor z (change_of keep x y)) (xor_lt 64 z (change_of keep x y) hz (change_lt keep x y hx hy))).0 now);
      }
  stop_at x y m hx hy e t t1 (d ∷ t2) z hz whole silent is now =
      absurd (false≢true (sym (ending.ends_once y m hy e d t2 (bit_xor z (change_of keep x y)) (xor_lt 64 z (change_of keep x y) hz (change_lt keep x y hx hy))) ∙ now))

  stop_to : (x : ℕ) → x < 2 ^ 64 → (t : List Event) (z : ℕ) → z < 2 ^ 64 → Stops layout all keep closed Γ p x t z → Resumes w layout closed Γ p ended x (λ y m u. ends w m u (bit_xor z (change_of keep x y))) t
  stop_to x hx t z hz s =
      let found = has.nodes s.y s.below in
      record {
        t1 = t;
        t2 = [];
        y = s.y;
        m = found.0;
        whole = sym (append-nil t);
        below = s.below;
        silent = s.silent;
        ended = s.ended;
        leads = found.1;
        behaved = (ending.ends_now s.y found.0 s.below found.1 (bit_xor z (change_of keep x s.y)) (xor_lt 64 z (change_of keep x s.y) hz (change_lt keep x s.y hx s.below))).1 (changed_to all keep x s.y z s.changed);
      }

  -- the map of a part and then of what has ended is that of the part alone
  pub alone_from : IsAfter w layout keep closed Γ p ended r → IsPart w layout all keep closed Γ p r
  alone_from h = record {
    alone_fails = λ x a l v t X. (
      λ f. ⊎_elim (λ (q : QuietlyFails layout closed Γ p x t X). q) (λ s. absurd (no_failure x t X s)) ((h.after_fails x a l v t X).0 f),
      λ q. (h.after_fails x a l v t X).1 (inl q),
    );
    alone_ends = λ x a l v t z b. (
      λ f. let s = (h.after_ends x a l v t z b).0 f in stop_at x s.y s.m l s.below s.leads t s.t1 s.t2 z b s.whole s.silent s.ended s.behaved,
      λ s. (h.after_ends x a l v t z b).1 (stop_to x l t z b s),
    );
  }

  pub alone_to : IsPart w layout all keep closed Γ p r → IsAfter w layout keep closed Γ p ended r
  alone_to h = record {
    after_fails = λ x a l v t X. (
      λ f. inl ((h.alone_fails x a l v t X).0 f),
      λ q. (h.alone_fails x a l v t X).1 (⊎_elim (λ (k : QuietlyFails layout closed Γ p x t X). k) (λ s. absurd (no_failure x t X s)) q),
    );
    after_ends = λ x a l v t z b. (
      λ f. stop_to x l t z b ((h.alone_ends x a l v t z b).0 f),
      λ s. (h.alone_ends x a l v t z b).1 (stop_at x s.y s.m l s.below s.leads t s.t1 s.t2 z b s.whole s.silent s.ended s.behaved),
    );
  }

-- ---- later worlds
module _ (v w : World) (grow : Extends v w) (r : MapId) (has : HasNodes v r) where
  was_there : (x : ℕ) (a : NodeId) → x < 2 ^ 64 → value w.maps r x ≡ Some a → (value v.maps r x ≡ Some a) × IsNode v a
  was_there x a l e = let before : value v.maps r x ≡ Some a = value_was v w grow r has x (Some a) e in (before, map_node v r has x l a before)

  pub alone_later : (layout : List (Name × Width × ℕ)) (all keep : ℕ) (closed : List Name) (Γ : Environment) (p : Tree) → IsPart v layout all keep closed Γ p r → IsPart w layout all keep closed Γ p r
  alone_later layout all keep closed Γ p h = record {
    alone_fails = λ x a l e t X. let was = was_there x a l e in
        let now : fails w a t X ≡ fails v a t X = grow.grows.same_fails a t X was.1 in
        (λ f. (h.alone_fails x a l was.0 t X).0 (sym now ∙ f), λ q. now ∙ (h.alone_fails x a l was.0 t X).1 q);
    alone_ends = λ x a l e t z b. let was = was_there x a l e in
        let now : ends w a t z ≡ ends v a t z = grow.grows.same_ends a t z was.1 in
        (λ f. (h.alone_ends x a l was.0 t z b).0 (sym now ∙ f), λ q. now ∙ (h.alone_ends x a l was.0 t z b).1 q);
  }

  pub ending_later : (all keep : ℕ) → IsEnding v all keep r → IsEnding w all keep r
  ending_later all keep h = record {
    never_fails = λ x a l e t X. let was = was_there x a l e in grow.grows.same_fails a t X was.1 ∙ h.never_fails x a l was.0 t X;
    ends_now = λ x a l e z b. let was = was_there x a l e in
        let now : ends w a [] z ≡ ends v a [] z = grow.grows.same_ends a [] z was.1 in
        (λ f. (h.ends_now x a l was.0 z b).0 (sym now ∙ f), λ q. now ∙ (h.ends_now x a l was.0 z b).1 q);
    ends_once = λ x a l e d t z b. let was = was_there x a l e in grow.grows.same_ends a (d ∷ t) z was.1 ∙ h.ends_once x a l was.0 d t z b;
  }

pub skip_later : (v w : World) → Extends v w → (keep : ℕ) (r : MapId) → IsSkip v keep r → IsSkip w keep r
skip_later v w grow keep r is = record {
  node = is.node;
  everywhere = record { known = map-keeps v w grow.maps r is.everywhere.known; values = λ x. grow.maps.same r x is.everywhere.known ∙ is.everywhere.values x };
  known = node_grow v w grow.grows is.node is.known;
  never_fails = λ t X. grow.grows.same_fails is.node t X is.known ∙ is.never_fails t X;
  ends_now = λ x. grow.grows.same_ends is.node [] x is.known ∙ is.ends_now x;
  ends_once = λ e t x. grow.grows.same_ends is.node (e ∷ t) x is.known ∙ is.ends_once e t x;
}

-- ---- the bits that matter to it
module _ (w : World) (n all keep : ℕ) (r : MapId) (has : HasNodes w r) (is : IsEnding w all keep r) (inside : all < 2 ^ n) where
  ends_into : (x y : ℕ) (a b : NodeId) → AgreeBelow n x y → x < 2 ^ 64 → y < 2 ^ 64 → value w.maps r x ≡ Some a → value w.maps r y ≡ Some b → (t : List Event) (z : ℕ) → z < 2 ^ 64 → ends w a t z ≡ true → ends w b t z ≡ true
  ends_into x y a b agree h l e f [] z hz c = (is.ends_now y b l f z hz).1 (λ k m one. ⊎_elim
      (λ (low : k < n). (is.ends_now x a h e z hz).0 c k m one ∙ ap (cond (bit_at keep k == 1) 0) (agree k low))
      (λ (high : n ≤ k). let none : bit_at all k ≡ 0 = bit_at_above all n k inside high in absurd (omega (arith, one, none)))
      (cases_lt k n))
  ends_into x y a b agree h l e f (d ∷ t) z hz c = absurd (false≢true (sym (is.ends_once x a h e d t z hz) ∙ c))

  pub ending_over : IsOver w n r
  ending_over = over_by w n r has (λ x y a b agree h l e f t X c. absurd (false≢true (sym (is.never_fails x a h e t X) ∙ c))) ends_into

-- ---- the bits that matter to a part alone
module _ (w : World) (vars : List (Name × Kind)) (layout : List (Name × Width × ℕ)) (n : ℕ) (frame : IsFrame vars layout n) (all keep : ℕ) (inside : all < 2 ^ n) (closed : List Name) (Γ : Environment) (p : Tree) (r : MapId)
    (is : IsPart w layout all keep closed Γ p r) (has : HasNodes w r) where
  part_fails_into : (x y : ℕ) (a b : NodeId) → AgreeBelow n x y → x < 2 ^ 64 → y < 2 ^ 64 → value w.maps r x ≡ Some a → value w.maps r y ≡ Some b → (t : List Event) (X : Event → Bool) → fails w a t X ≡ true → fails w b t X ≡ true
  part_fails_into x y a b agree h l e f t X c =
      let q = (is.alone_fails x a h e t X).0 c in
      (is.alone_fails y b l f t X).1 (q.0, subst (λ s. part_fails Γ p s t (off_channels closed X)) (state_below vars layout n frame x y agree) q.1)

  part_ends_into : (x y : ℕ) (a b : NodeId) → AgreeBelow n x y → x < 2 ^ 64 → y < 2 ^ 64 → value w.maps r x ≡ Some a → value w.maps r y ≡ Some b → (t : List Event) (z : ℕ) → z < 2 ^ 64 → ends w a t z ≡ true → ends w b t z ≡ true
  part_ends_into x y a b agree h l e f t z hz c =
      let s = (is.alone_ends x a h e t z hz).0 c in
      (is.alone_ends y b l f t z hz).1 (record {
        y = s.y;
        below = s.below;
        silent = s.silent;
        ended = subst (λ u. part_ends Γ p u t (state_of layout s.y)) (state_below vars layout n frame x y agree) s.ended;
        changed = λ k m one. s.changed k m one ∙ ap (λ b. (b + bit_at s.y k) % 2) (⊎_elim
            (λ (low : k < n). bit_at_and x keep k ∙ ap (λ b. min b (bit_at keep k)) (agree k low) ∙ sym (bit_at_and y keep k))
            (λ (high : n ≤ k). let none : bit_at all k ≡ 0 = bit_at_above all n k inside high in absurd (omega (arith, one, none)))
            (cases_lt k n));
      })

  pub part_over : IsOver w n r
  part_over = over_by w n r has part_fails_into part_ends_into

-- ---- made of SKIP, whose bits that have values are turned
module _ (w : World) (all keep : ℕ) (ended r : MapId) (skip : IsSkip w all ended) (turned : IsChanged w (λ x. bit_and x (except all keep)) ended r) where
  abbrev flipped : ℕ → ℕ
  flipped x = bit_and x (except all keep)

  flipped_bit : (x k : ℕ) → bit_at (flipped x) k ≡ min (bit_at x k) ((bit_at all k + min (bit_at all k) (bit_at keep k)) % 2)
  flipped_bit x k = bit_at_and x (except all keep) k ∙ ap (min (bit_at x k)) (except_bit all keep k)

  at_node : (x : ℕ) (a : NodeId) → x < 2 ^ 64 → value w.maps r x ≡ Some a → (t : List Event) (z : ℕ) → z < 2 ^ 64 → ends w a t z ≡ ends w skip.node t (bit_xor z (flipped x))
  at_node x a h e t z hz = (turned.changed x skip.node a h (skip.everywhere.values x) e).turned.turned_end t z hz

  value_told : (z x a k : ℕ) → z < 2 → x < 2 → a ≡ 1 → (k ≡ 0) ⊎ (k ≡ 1) → (z + min x ((a + min a k) % 2)) % 2 ≡ 0 → z ≡ cond (k == 1) 0 x
  value_told z x a k hz hx one p e = ⊎_elim
      (λ (f : k ≡ 0). same z x a k hz hx one f e ∙ sym (ap (λ n. cond (n == 1) 0 x) f))
      (λ (f : k ≡ 1). none z x a k hz one f e ∙ sym (ap (λ n. cond (n == 1) 0 x) f))
      p
    where
      same : (z x a k : ℕ) → z < 2 → x < 2 → a ≡ 1 → k ≡ 0 → (z + min x ((a + min a k) % 2)) % 2 ≡ 0 → z ≡ x
      same z x a k hz hx one f e = omega (arith, hz, hx, one, f, e)

      none : (z x a k : ℕ) → z < 2 → a ≡ 1 → k ≡ 1 → (z + min x ((a + min a k) % 2)) % 2 ≡ 0 → z ≡ 0
      none z x a k hz one f e = omega (arith, hz, one, f, e)

  value_tell : (z x a k : ℕ) → x < 2 → a ≡ 1 → (k ≡ 0) ⊎ (k ≡ 1) → z ≡ cond (k == 1) 0 x → (z + min x ((a + min a k) % 2)) % 2 ≡ 0
  value_tell z x a k hx one p e = ⊎_elim
      (λ (f : k ≡ 0). same z x a k hx one f (e ∙ ap (λ n. cond (n == 1) 0 x) f))
      (λ (f : k ≡ 1). none z x a k one f (e ∙ ap (λ n. cond (n == 1) 0 x) f))
      p
    where
      same : (z x a k : ℕ) → x < 2 → a ≡ 1 → k ≡ 0 → z ≡ x → (z + min x ((a + min a k) % 2)) % 2 ≡ 0
      same z x a k hx one f e = omega (arith, hx, one, f, e)

      none : (z x a k : ℕ) → a ≡ 1 → k ≡ 1 → z ≡ 0 → (z + min x ((a + min a k) % 2)) % 2 ≡ 0
      none z x a k one f e = omega (arith, one, f, e)

  told : (x z : ℕ) → are_zero 64 all (bit_xor z (flipped x)) ≡ true → HasEnded all keep x z
  told x z h k l one = value_told (bit_at z k) (bit_at x k) (bit_at all k) (bit_at keep k) (bit_at-lt z k) (bit_at-lt x k) one (bit_cases keep k)
      (ap (λ b. (bit_at z k + b) % 2) (sym (flipped_bit x k)) ∙ sym (bit_at_xor z (flipped x) k) ∙ all_clear 64 all (bit_xor z (flipped x)) h k l one)

  tells : (x z : ℕ) → HasEnded all keep x z → are_zero 64 all (bit_xor z (flipped x)) ≡ true
  tells x z h = clear_all 64 all (bit_xor z (flipped x)) (λ k l one.
      bit_at_xor z (flipped x) k ∙ ap (λ b. (bit_at z k + b) % 2) (flipped_bit x k)
      ∙ value_tell (bit_at z k) (bit_at x k) (bit_at all k) (bit_at keep k) (bit_at-lt x k) one (bit_cases keep k) (h k l one))

  pub ending_made : IsEnding w all keep r
  ending_made = record {
    never_fails = λ x a h e t X. (turned.changed x skip.node a h (skip.everywhere.values x) e).turned.same_fail t X ∙ skip.never_fails t X;
    ends_now = λ x a h e z hz. (
      λ f. told x z (sym (skip.ends_now (bit_xor z (flipped x))) ∙ sym (at_node x a h e [] z hz) ∙ f),
      λ s. at_node x a h e [] z hz ∙ skip.ends_now (bit_xor z (flipped x)) ∙ tells x z s,
    );
    ends_once = λ x a h e d t z hz. at_node x a h e (d ∷ t) z hz ∙ skip.ends_once d t (bit_xor z (flipped x));
  }
