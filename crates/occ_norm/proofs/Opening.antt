-- Declarations in front of a part: the map of the part, and then that of the whole, where the bits of the variables have any values.
use Rattle.std.proofs.Common.{◌≡◌, ◌<◌, ◌≤◌, ◌^◌, ◌/◌, ◌%◌, ◌+◌, ◌↔◌, ◌⊎◌, ◌++◌, ◌&&◌, ◌==◌, not, ⊎_elim, inl, inr, ℕ, Bool, true, false, List, [], ◌∷◌, Some, None, refl, sym, ap, ◌∙◌, subst, bit_and, bit_xor, arith}
use Rattle.std.proofs.lemmas.Bool.{and_parts, and_from, cases_lt}
use Rattle.std.proofs.lemmas.List.Folds.{list_all-append}
use Rattle.std.proofs.lemmas.Nat.{pow_pos}
use Rattle.std.proofs.lemmas.Nat.Bits.{same_from_bits_below}
use Rattle.std.proofs.Math.Nat.{mod-lt}
use Rattle.std.specs.Int.{bit_at}
use Rattle.std.specs.List.{list_all}
use mathlib.Core.Path.{fun_ext}
use Rattle.occ_syntax.specs.occ_base.declared.event.Event.{Event}
use Rattle.occ_syntax.specs.occ_base.declared.names.Name.{Name}
use Rattle.occ_syntax.specs.occ_base.declared.width.Width.{Width}
use Rattle.occ_syntax.specs.occ_base.Width.{bits_of}
use Rattle.occ_compare.specs.occ_bits.Layout.{state_of}
use Rattle.occ_syntax.specs.declared.scope.Kind.TheVariants.{Var, Chan}
use Rattle.occ_syntax.specs.Meaning.{WithChannel, WithVariable, at_end, at_rest, ended, is_silent, meaning, off_channel, refusing, fails as part_fails, ends as part_ends}
use Rattle.occ_syntax.specs.Scopes.{Environment, with_name, with_value}
use Rattle.occ_syntax.specs.Tree.{Tree, connect, declare}
use Rattle.occ_compare.specs.occ_mdd.Maps.{value}
use Rattle.occ_compare.specs.occ_mdd.declared.map.MapId.{MapId}
use Rattle.occ_compare.specs.occ_node.World.{fails, ends}
use Rattle.occ_compare.specs.occ_node.declared.node.NodeId.{NodeId}
use Rattle.occ_compare.specs.occ_node.declared.world.World.{World}
use Rattle.occ_norm_alt.specs.occ_weave.Weave.{is_open, is_silent_on, off_channels}
use Rattle.occ_norm_alt.specs.occ_norm_frame.After.{AgreeBelow, IsOver, QuietlyFails, Resumes, change_of}
use Rattle.occ_norm_alt.specs.occ_norm_frame.Changes.{AgreeOutside, IsFreed, Somewhere}
use Rattle.occ_norm.specs.From.{IsAfterFrom}
use Rattle.occ_norm.proofs.Laying.{placed, placed_agrees, placed_lt, placed_value, value_dropped}
use Rattle.occ_norm.proofs.Sequences.{Reaches}
use Rattle.occ_norm.proofs.Simple.{TellsBits, change_same}

-- The map, for some values of the bits from n to below `top`, is that of the part and then what the map `rest` has, at the
-- assignments that pass the test.
pub record IsAfterOpen (w : World) (n top : ℕ) (layout : List (Name × Width × ℕ)) (keep : ℕ) (closed : List Name) (Γ : Environment) (from : ℕ → Bool) (p : Tree) (rest map : MapId) : Type 0 where
  pub from_fails : (x : ℕ) → x < 2 ^ 64 → from x ≡ true → (t : List Event) (X : Event → Bool)
      → Somewhere w map n top x (λ m. fails w m t X) ↔ (QuietlyFails layout closed Γ p x t X ⊎ Resumes w layout closed Γ p rest x (λ y m u. fails w m u X) t)
  pub from_ends : (x : ℕ) → x < 2 ^ 64 → from x ≡ true → (t : List Event) (z : ℕ) → z < 2 ^ 64
      → Somewhere w map n top x (λ m. ends w m t z) ↔ Resumes w layout closed Γ p rest x (λ y m u. ends w m u (bit_xor z (change_of keep x y))) t

-- ---- no bits
one_place : (n x y : ℕ) → x < 2 ^ 64 → y < 2 ^ 64 → AgreeOutside n n x y → x ≡ y
one_place n x y hx hy agree = same_from_bits_below 64 x y hx hy (λ k h. agree k h (cases_lt k n))

pub after_from : (w : World) (n : ℕ) (layout : List (Name × Width × ℕ)) (keep : ℕ) (closed : List Name) (Γ : Environment) (from : ℕ → Bool) (p : Tree) (rest map : MapId)
    → ((x : ℕ) → x < 2 ^ 64 → (a : NodeId) × (value w.maps map x ≡ Some a)) → IsAfterFrom w layout keep closed Γ from p rest map → IsAfterOpen w n n layout keep closed Γ from p rest map
after_from w n layout keep closed Γ from p rest map there is = record {
  from_fails = λ x hx o t X. (
    λ s. (is.after_fails x s.m hx o (ap (value w.maps map) (one_place n x s.y hx s.below s.agree) ∙ s.leads) t X).0 s.behaved,
    λ h. let at = there x hx in record { y = x; m = at.0; below = hx; agree = λ k l outside. refl; leads = at.1; behaved = (is.after_fails x at.0 hx o at.1 t X).1 h },
  );
  from_ends = λ x hx o t z hz. (
    λ s. (is.after_ends x s.m hx o (ap (value w.maps map) (one_place n x s.y hx s.below s.agree) ∙ s.leads) t z hz).0 s.behaved,
    λ h. let at = there x hx in record { y = x; m = at.0; below = hx; agree = λ k l outside. refl; leads = at.1; behaved = (is.after_ends x at.0 hx o at.1 t z hz).1 h },
  );
}

-- ---- once the bits have any values
pub freed_after : (w : World) (n top : ℕ) (layout : List (Name × Width × ℕ)) (keep : ℕ) (closed : List Name) (Γ : Environment) (from : ℕ → Bool) (p : Tree) (rest map r : MapId)
    → IsAfterOpen w n top layout keep closed Γ from p rest map → IsFreed w n top map r → IsAfterFrom w layout keep closed Γ from p rest r
freed_after w n top layout keep closed Γ from p rest map r is freed = record {
  after_fails = λ x a hx o at t X. (λ h. (is.from_fails x hx o t X).0 ((freed.freed_fails x a hx at t X).0 h), λ h. (freed.freed_fails x a hx at t X).1 ((is.from_fails x hx o t X).1 h));
  after_ends = λ x a hx o at t z hz. (λ h. (is.from_ends x hx o t z hz).0 ((freed.freed_ends x a hx at t z hz).0 h), λ h. (freed.freed_ends x a hx at t z hz).1 ((is.from_ends x hx o t z hz).1 h));
}

-- ---- a declared channel
silent_more : (closed : List Name) (c : Name) (t : List Event) → is_silent_on (closed ++ c ∷ []) t ≡ (is_silent_on closed t && is_silent c.0 t)
silent_more closed c [] = refl
silent_more closed c (e ∷ t) = (λ i. open_more closed c e i && silent_more closed c t i) ∙ mix (is_open closed e) (not (e.chan.0 == c.0)) (is_silent_on closed t) (is_silent c.0 t)
  where
    open_more : (closed : List Name) (c : Name) (e : Event) → is_open (closed ++ c ∷ []) e ≡ (is_open closed e && not (e.chan.0 == c.0))
    open_more closed c e = list_all-append (λ (d : Name). not (e.chan.0 == d.0)) closed (c ∷ []) ∙ ap (λ b. is_open closed e && b) (one (not (e.chan.0 == c.0)))
      where
        one : (b : Bool) → (b && true) ≡ b
        one true = refl
        one false = refl

    mix : (a b c d : Bool) → ((a && b) && (c && d)) ≡ ((a && c) && (b && d))
    mix true true c d = refl
    mix true false true d = refl
    mix true false false d = refl
    mix false b c d = refl

off_more : (closed : List Name) (c : Name) (X : Event → Bool) → off_channels (closed ++ c ∷ []) X ≡ off_channel c.0 (off_channels closed X)
off_more closed c X = fun_ext (λ e. ap (λ b. b && X e) (open_more e) ∙ mix (is_open closed e) (not (e.chan.0 == c.0)) (X e))
  where
    one : (b : Bool) → (b && true) ≡ b
    one true = refl
    one false = refl

    open_more : (e : Event) → is_open (closed ++ c ∷ []) e ≡ (is_open closed e && not (e.chan.0 == c.0))
    open_more e = list_all-append (λ (d : Name). not (e.chan.0 == d.0)) closed (c ∷ []) ∙ ap (λ b. is_open closed e && b) (one (not (e.chan.0 == c.0)))

    mix : (a b x : Bool) → ((a && b) && x) ≡ (b && (a && x))
    mix true true x = refl
    mix true false x = refl
    mix false true x = refl
    mix false false x = refl

module _ (w : World) (n top : ℕ) (layout : List (Name × Width × ℕ)) (keep : ℕ) (closed : List Name) (Γ : Environment) (from : ℕ → Bool) (c : Name) (wd : Width) (q : Tree) (rest map : MapId)
    (is : IsAfterOpen w n top layout keep (closed ++ c ∷ []) (with_name Γ c.0 (Chan wd None)) from q rest map) where
  quiet_out : (x : ℕ) (t : List Event) (X : Event → Bool) → QuietlyFails layout (closed ++ c ∷ []) (with_name Γ c.0 (Chan wd None)) q x t X → QuietlyFails layout closed Γ (connect c.0 wd q) x t X
  quiet_out x t X s =
      let quiet = and_parts _ _ (sym (silent_more closed c t) ∙ s.0) in
      (quiet.0, at_rest quiet.1 (subst (λ Y. part_fails (with_name Γ c.0 (Chan wd None)) q (state_of layout x) t Y) (off_more closed c X) s.1))

  quiet_in : (x : ℕ) (t : List Event) (X : Event → Bool) → is_silent_on closed t ≡ true → WithChannel c.0 wd (meaning q) Γ (state_of layout x) t (refusing (off_channels closed X))
      → QuietlyFails layout (closed ++ c ∷ []) (with_name Γ c.0 (Chan wd None)) q x t X
  quiet_in x t X h (at_rest k d) = (silent_more closed c t ∙ and_from _ _ h k, subst (λ Y. part_fails (with_name Γ c.0 (Chan wd None)) q (state_of layout x) t Y) (sym (off_more closed c X)) d)

  ended_in : (x y : ℕ) (t : List Event) → WithChannel c.0 wd (meaning q) Γ (state_of layout x) t (ended (state_of layout y))
      → (is_silent c.0 t ≡ true) × part_ends (with_name Γ c.0 (Chan wd None)) q (state_of layout x) t (state_of layout y)
  ended_in x y t (at_end k d) = (k, d)

  chan_out : (x : ℕ) (t : List Event) (f : ℕ → NodeId → List Event → Bool) → Resumes w layout (closed ++ c ∷ []) (with_name Γ c.0 (Chan wd None)) q rest x f t → Resumes w layout closed Γ (connect c.0 wd q) rest x f t
  chan_out x t f s =
      let quiet = and_parts _ _ (sym (silent_more closed c s.t1) ∙ s.silent) in
      record { t1 = s.t1; t2 = s.t2; y = s.y; m = s.m; whole = s.whole; below = s.below; silent = quiet.0; ended = at_end quiet.1 s.ended; leads = s.leads; behaved = s.behaved }

  chan_in : (x : ℕ) (t : List Event) (f : ℕ → NodeId → List Event → Bool) → Resumes w layout closed Γ (connect c.0 wd q) rest x f t → Resumes w layout (closed ++ c ∷ []) (with_name Γ c.0 (Chan wd None)) q rest x f t
  chan_in x t f s =
      let k = ended_in x s.y s.t1 s.ended in
      record { t1 = s.t1; t2 = s.t2; y = s.y; m = s.m; whole = s.whole; below = s.below; silent = silent_more closed c s.t1 ∙ and_from _ _ s.silent k.0; ended = k.1; leads = s.leads; behaved = s.behaved }

  pub channel_from : IsAfterOpen w n top layout keep closed Γ from (connect c.0 wd q) rest map
  channel_from = record {
    from_fails = λ x hx o t X. (
      λ s. ⊎_elim
          (λ (k : QuietlyFails layout (closed ++ c ∷ []) (with_name Γ c.0 (Chan wd None)) q x t X). inl (quiet_out x t X k))
          (λ (k : Resumes w layout (closed ++ c ∷ []) (with_name Γ c.0 (Chan wd None)) q rest x (λ y m u. fails w m u X) t). inr (chan_out x t (λ y m u. fails w m u X) k))
          ((is.from_fails x hx o t X).0 s),
      λ h. (is.from_fails x hx o t X).1 (⊎_elim
          (λ (k : QuietlyFails layout closed Γ (connect c.0 wd q) x t X). inl (quiet_in x t X k.0 k.1))
          (λ (k : Resumes w layout closed Γ (connect c.0 wd q) rest x (λ y m u. fails w m u X) t). inr (chan_in x t (λ y m u. fails w m u X) k))
          h),
    );
    from_ends = λ x hx o t z hz. (
      λ s. chan_out x t (λ y m u. ends w m u (bit_xor z (change_of keep x y))) ((is.from_ends x hx o t z hz).0 s),
      λ h. (is.from_ends x hx o t z hz).1 (chan_in x t (λ y m u. ends w m u (bit_xor z (change_of keep x y))) h),
    );
  }

-- ---- a declared variable
module _ (w : World) (n top : ℕ) (layout inner : List (Name × Width × ℕ)) (keep : ℕ) (closed : List Name) (Γ : Environment) (from : ℕ → Bool) (v : Name) (wd : Width) (q : Tree) (rest map : MapId)
    (inside : keep < 2 ^ n) (room : n + bits_of wd ≤ top) (few : top ≤ 64) (over : IsOver w n rest)
    (pushed : (u : ℕ) → state_of inner u ≡ with_value (state_of layout u) v.0 (u / 2 ^ n % 2 ^ bits_of wd))
    (below : (x y : ℕ) → AgreeBelow n x y → state_of layout x ≡ state_of layout y) (tells : TellsBits layout n)
    (reaches : Reaches inner (with_name Γ v.0 (Var wd)) q) (stays : (x y : ℕ) → AgreeBelow n x y → from x ≡ true → from y ≡ true)
    (is : IsAfterOpen w (n + bits_of wd) top inner keep closed (with_name Γ v.0 (Var wd)) from q rest map) where
  low_agree : (x y : ℕ) → AgreeOutside n top x y → AgreeBelow n x y
  low_agree x y agree k h = agree k (omega (arith, h, room, few)) (inl h)

  -- the state inside, from that outside
  state_inside : (x y : ℕ) → AgreeOutside n top x y → state_of inner y ≡ with_value (state_of layout x) v.0 (y / 2 ^ n % 2 ^ bits_of wd)
  state_inside x y agree = pushed y ∙ ap (λ s. with_value s v.0 (y / 2 ^ n % 2 ^ bits_of wd)) (sym (below x y (low_agree x y agree)))

  -- the state outside, where the variable is dropped
  state_outside : (x y : ℕ) → state_of layout y ≡ with_value (state_of inner y) v.0 (state_of layout y v.0)
  state_outside x y = sym (ap (λ s. with_value s v.0 (state_of layout y v.0)) (pushed y) ∙ value_dropped (state_of layout y) v.0 (y / 2 ^ n % 2 ^ bits_of wd))

  missing : (x y : ℕ) → state_of layout x v.0 ≡ state_of layout y v.0 → state_of layout y ≡ with_value (state_of inner y) v.0 (state_of layout x v.0)
  missing x y e = state_outside x y ∙ ap (λ z. with_value (state_of inner y) v.0 z) (sym e)

  module _ (dropped : (x y : ℕ) → state_of layout x v.0 ≡ state_of layout y v.0) where
    quiet_var_out : (x y : ℕ) (t : List Event) (X : Event → Bool) → AgreeOutside n top x y → QuietlyFails inner closed (with_name Γ v.0 (Var wd)) q y t X → QuietlyFails layout closed Γ (declare v.0 wd q) x t X
    quiet_var_out x y t X agree s = (s.0, at_rest (y / 2 ^ n % 2 ^ bits_of wd) (mod-lt _ (pow_pos (bits_of wd))) (subst (λ st. part_fails (with_name Γ v.0 (Var wd)) q st t (off_channels closed X)) (state_inside x y agree) s.1))

    var_out : (x y : ℕ) (t : List Event) (f g : ℕ → NodeId → List Event → Bool) → AgreeOutside n top x y → ((u : ℕ) (m : NodeId) (a : List Event) → f u m a ≡ g u m a)
        → Resumes w inner closed (with_name Γ v.0 (Var wd)) q rest y f t → Resumes w layout closed Γ (declare v.0 wd q) rest x g t
    var_out x y t f g agree same_f s = record {
      t1 = s.t1;
      t2 = s.t2;
      y = s.y;
      m = s.m;
      whole = s.whole;
      below = s.below;
      silent = s.silent;
      ended = at_end (y / 2 ^ n % 2 ^ bits_of wd) (state_of inner s.y) (mod-lt _ (pow_pos (bits_of wd))) (missing x s.y (dropped x s.y))
          (subst (λ st. part_ends (with_name Γ v.0 (Var wd)) q st s.t1 (state_of inner s.y)) (state_inside x y agree) s.ended);
      leads = s.leads;
      behaved = sym (same_f s.y s.m s.t2) ∙ s.behaved;
    }

    -- the assignment with the variable's value
    abbrev at : ℕ → ℕ → ℕ
    at x z = placed n (bits_of wd) z x

    at_agrees : (x z : ℕ) → z < 2 ^ bits_of wd → AgreeOutside n top x (at x z)
    at_agrees x z h k l (inl o) = placed_agrees n (bits_of wd) z x (omega (arith, room, few)) h k l (inl o)
    at_agrees x z h k l (inr o) = placed_agrees n (bits_of wd) z x (omega (arith, room, few)) h k l (inr (omega (arith, room, o)))

    at_state : (x z : ℕ) → z < 2 ^ bits_of wd → with_value (state_of layout x) v.0 z ≡ state_of inner (at x z)
    at_state x z h = sym (state_inside x (at x z) (at_agrees x z h) ∙ ap (λ c. with_value (state_of layout x) v.0 c) (placed_value n (bits_of wd) z x (omega (arith, room, few)) h))

    there : (x z : ℕ) → z < 2 ^ bits_of wd → from x ≡ true → from (at x z) ≡ true
    there x z h o = stays x (at x z) (low_agree x (at x z) (at_agrees x z h)) o

    further : (x z : ℕ) (f : NodeId → Bool) → z < 2 ^ bits_of wd → Somewhere w map (n + bits_of wd) top (at x z) f → Somewhere w map n top x f
    further x z f h s = record {
      y = s.y;
      m = s.m;
      below = s.below;
      agree = λ k l o. at_agrees x z h k l o ∙ s.agree k l (⊎_elim (λ (i : k < n). inl (omega (arith, i))) (λ (i : top ≤ k). inr i) o);
      leads = s.leads;
      behaved = s.behaved;
    }

    nearer : (x : ℕ) (f : NodeId → Bool) → (s : Somewhere w map n top x f) → Somewhere w map (n + bits_of wd) top s.y f
    nearer x f s = record { y = s.y; m = s.m; below = s.below; agree = λ k l o. refl; leads = s.leads; behaved = s.behaved }

    quiet_var_in : (x : ℕ) (t : List Event) (X : Event → Bool) → x < 2 ^ 64 → from x ≡ true → is_silent_on closed t ≡ true → WithVariable v.0 wd (meaning q) Γ (state_of layout x) t (refusing (off_channels closed X))
        → Somewhere w map n top x (λ m. fails w m t X)
    quiet_var_in x t X hx o h (at_rest z small d) = further x z (λ m. fails w m t X) small
        ((is.from_fails (at x z) (placed_lt n (bits_of wd) z x (omega (arith, room, few)) small) (there x z small o) t X).1 (inl (h, subst (λ st. part_fails (with_name Γ v.0 (Var wd)) q st t (off_channels closed X)) (at_state x z small) d)))

    var_in : (x : ℕ) (t t1 t2 : List Event) (y : ℕ) (m : NodeId) (f : ℕ → ℕ → NodeId → List Event → Bool) (g : NodeId → Bool) → x < 2 ^ 64 → from x ≡ true → t ≡ t1 ++ t2 → y < 2 ^ 64 → is_silent_on closed t1 ≡ true
        → value w.maps rest y ≡ Some m → f x y m t2 ≡ true
        → ((x' y' : ℕ) → AgreeBelow n x x' → AgreeBelow n y y' → f x y m t2 ≡ f x' y' m t2)
        → ((x' : ℕ) → x' < 2 ^ 64 → from x' ≡ true → Resumes w inner closed (with_name Γ v.0 (Var wd)) q rest x' (f x') t → Somewhere w map (n + bits_of wd) top x' g)
        → WithVariable v.0 wd (meaning q) Γ (state_of layout x) t1 (ended (state_of layout y)) → Somewhere w map n top x g
    var_in x t t1 t2 y m f g hx o whole hy quiet leads behaved same_f found (at_end z s1 small e d) =
        let d' = subst (λ st. part_ends (with_name Γ v.0 (Var wd)) q st t1 s1) (at_state x z small) d in
        let to = reaches (at x z) t1 s1 (placed_lt n (bits_of wd) z x (omega (arith, room, few)) small) d' in
        let outside : state_of layout y ≡ state_of layout to.0 = e ∙ ap (λ s. with_value s v.0 (state_of layout x v.0)) to.2 ∙ sym (missing x to.0 (dropped x to.0)) in
        let agree : AgreeBelow n y to.0 = tells y to.0 outside in
        further x z g small (found (at x z) (placed_lt n (bits_of wd) z x (omega (arith, room, few)) small) (there x z small o) (record {
          t1 = t1;
          t2 = t2;
          y = to.0;
          m = m;
          whole = whole;
          below = to.1;
          silent = quiet;
          ended = subst (part_ends (with_name Γ v.0 (Var wd)) q (state_of inner (at x z)) t1) to.2 d';
          leads = sym (over.same y to.0 hy to.1 agree) ∙ leads;
          behaved = sym (same_f (at x z) to.0 (low_agree x (at x z) (at_agrees x z small)) agree) ∙ behaved;
        }))

    turned_same : (x x' y y' z : ℕ) (m : NodeId) (t : List Event) → AgreeBelow n x x' → AgreeBelow n y y' → ends w m t (bit_xor z (change_of keep x y)) ≡ ends w m t (bit_xor z (change_of keep x' y'))
    turned_same x x' y y' z m t a b = ap (λ c. ends w m t (bit_xor z c)) (change_same n keep x x' y inside a ∙ change_other x' y y' b)
      where
        change_other : (x y y' : ℕ) → AgreeBelow n y y' → change_of keep x y ≡ change_of keep x y'
        change_other x y y' b = flip x y ∙ change_same n keep y y' x inside b ∙ flip y' x
          where
            flip : (x y : ℕ) → change_of keep x y ≡ change_of keep y x
            flip x y = ap (λ c. bit_and c keep) (Rattle.std.specs.Int.Bits.xor_comm x y)

    pub variable_from : IsAfterOpen w n top layout keep closed Γ from (declare v.0 wd q) rest map
    variable_from = record {
      from_fails = λ x hx o t X. (
        λ s. ⊎_elim
            (λ (k : QuietlyFails inner closed (with_name Γ v.0 (Var wd)) q s.y t X). inl (quiet_var_out x s.y t X s.agree k))
            (λ (k : Resumes w inner closed (with_name Γ v.0 (Var wd)) q rest s.y (λ y m u. fails w m u X) t). inr (var_out x s.y t (λ y m u. fails w m u X) (λ y m u. fails w m u X) s.agree (λ u m a. refl) k))
            ((is.from_fails s.y s.below (stays x s.y (low_agree x s.y s.agree) o) t X).0 (nearer x (λ m. fails w m t X) s)),
        ⊎_elim
            (λ (k : QuietlyFails layout closed Γ (declare v.0 wd q) x t X). quiet_var_in x t X hx o k.0 k.1)
            (λ (k : Resumes w layout closed Γ (declare v.0 wd q) rest x (λ y m u. fails w m u X) t).
            var_in x t k.t1 k.t2 k.y k.m (λ x' y m u. fails w m u X) (λ m. fails w m t X) hx o k.whole k.below k.silent k.leads k.behaved (λ x' y' a b. refl)
            (λ x' h i r. (is.from_fails x' h i t X).1 (inr r)) k.ended),
      );
      from_ends = λ x hx o t z hz. (
        λ s. var_out x s.y t (λ y m u. ends w m u (bit_xor z (change_of keep s.y y))) (λ y m u. ends w m u (bit_xor z (change_of keep x y))) s.agree
            (λ u m a. turned_same s.y x u u z m a (λ k h. sym (low_agree x s.y s.agree k h)) (λ k h. refl))
            ((is.from_ends s.y s.below (stays x s.y (low_agree x s.y s.agree) o) t z hz).0 (nearer x (λ m. ends w m t z) s)),
        λ k. var_in x t k.t1 k.t2 k.y k.m (λ x' y m u. ends w m u (bit_xor z (change_of keep x' y))) (λ m. ends w m t z) hx o k.whole k.below k.silent k.leads k.behaved
            (λ x' y' a b. turned_same x x' k.y y' z k.m k.t2 a b)
            (λ x' h i r. (is.from_ends x' h i t z hz).1 r) k.ended,
      );
    }
