-- SKIP and STOP, as maps in front of what follows.
use Rattle.std.proofs.Common.{◌≡◌, ◌<◌, ◌≤◌, ◌^◌, ◌↔◌, ◌++◌, ◌+◌, ◌%◌, ⊎_elim, inl, inr, ℕ, min, Bool, true, false, List, [], ◌∷◌, Some, refl, sym, ap, ◌∙◌, bit_xor, arith}
use Rattle.std.proofs.lemmas.Bool.{cases_lt}
use Rattle.std.proofs.lemmas.Nat.Bits.{bit_at-zero, bit_at_above, same_from_bits}
use Rattle.std.proofs.lemmas.Option.{same_Some}
use Rattle.std.specs.Int.{bit_at}
use Rattle.std.specs.Int.Bits.{xor_zero_r}
use Rattle.occ_syntax.specs.occ_base.declared.event.Event.{Event}
use Rattle.occ_syntax.specs.occ_base.declared.names.Name.{Name}
use Rattle.occ_syntax.specs.occ_base.declared.width.Width.{Width}
use Rattle.occ_compare.specs.occ_bits.Layout.{state_of}
use Rattle.occ_syntax.specs.Meaning.{Outcome, Stopped, stopped, ended, refusing, meaning, ends as part_ends}
use Rattle.occ_syntax.specs.Scopes.{Environment, Values}
use Rattle.occ_syntax.specs.Tree.{Tree}
use Rattle.occ_compare.specs.occ_mdd.Maps.{value}
use Rattle.occ_compare.specs.occ_mdd.declared.map.MapId.{MapId}
use Rattle.occ_compare.specs.occ_node.World.{fails, ends}
use Rattle.occ_compare.specs.occ_node.declared.node.NodeId.{NodeId}
use Rattle.occ_compare.specs.occ_node.declared.world.World.{World}
use Rattle.occ_norm_alt.specs.occ_norm_frame.Maps.{IsStop}
use Rattle.occ_norm_alt.specs.occ_weave.Weave.{off_channels}
use Rattle.occ_norm_alt.specs.occ_norm_frame.After.{AgreeBelow, IsAfter, IsOver, QuietlyFails, Resumes, change_of}
use Rattle.occ_norm.proofs.Changing.{bit_of_change}

-- states of the layout tell its bits
abbrev pub TellsBits : List (Name × Width × ℕ) → ℕ → Type 0
TellsBits layout n = (x y : ℕ) → state_of layout x ≡ state_of layout y → AgreeBelow n x y

abbrev end_of : Outcome → Values
end_of (ended s) = s
end_of (refusing X) = λ x. 0

pub same_end : (s r : Values) → ended s ≡ ended r → s ≡ r
same_end s r e = ap end_of e

abbrev is_refusing : Outcome → Bool
is_refusing (ended s) = false
is_refusing (refusing X) = true

pub not_both : (s : Values) (X : Event → Bool) → refusing X ≡ ended s → ⊥
not_both s X e = let f : true ≡ false = ap is_refusing e in cc

-- where bits below n agree, none of them changes
pub change_none : (n keep x y : ℕ) → keep < 2 ^ n → AgreeBelow n x y → change_of keep x y ≡ 0
change_none n keep x y inside agree = same_from_bits _ _ (λ i. bit_of_change keep x y i ∙ ⊎_elim (below i) (above i) (cases_lt i n) ∙ sym (bit_at-zero i))
  where
    even : (a k : ℕ) → min ((a + a) % 2) k ≡ 0
    even a k = omega arith

    none : (a : ℕ) → min a 0 ≡ 0
    none a = omega arith

    below : (i : ℕ) → i < n → min ((bit_at x i + bit_at y i) % 2) (bit_at keep i) ≡ 0
    below i h = ap (λ b. min ((bit_at x i + b) % 2) (bit_at keep i)) (sym (agree i h)) ∙ even (bit_at x i) (bit_at keep i)

    above : (i : ℕ) → n ≤ i → min ((bit_at x i + bit_at y i) % 2) (bit_at keep i) ≡ 0
    above i h = ap (min ((bit_at x i + bit_at y i) % 2)) (bit_at_above keep n i inside h) ∙ none _

-- the change doesn't look at other bits of the state before
pub change_same : (n keep x y u : ℕ) → keep < 2 ^ n → AgreeBelow n x y → change_of keep x u ≡ change_of keep y u
change_same n keep x y u inside agree = same_from_bits _ _ (λ i. bit_of_change keep x u i ∙ ⊎_elim (below i) (above i) (cases_lt i n) ∙ sym (bit_of_change keep y u i))
  where
    none : (a b : ℕ) → min a 0 ≡ min b 0
    none a b = omega arith

    below : (i : ℕ) → i < n → min ((bit_at x i + bit_at u i) % 2) (bit_at keep i) ≡ min ((bit_at y i + bit_at u i) % 2) (bit_at keep i)
    below i h = ap (λ b. min ((b + bit_at u i) % 2) (bit_at keep i)) (agree i h)

    above : (i : ℕ) → n ≤ i → min ((bit_at x i + bit_at u i) % 2) (bit_at keep i) ≡ min ((bit_at y i + bit_at u i) % 2) (bit_at keep i)
    above i h = let z = bit_at_above keep n i inside h in ap (min ((bit_at x i + bit_at u i) % 2)) z ∙ none _ _ ∙ sym (ap (min ((bit_at y i + bit_at u i) % 2)) z)

-- ---- SKIP
module _ (w : World) (layout : List (Name × Width × ℕ)) (n keep : ℕ) (closed : List Name) (Γ : Environment) (p : Tree) (rest : MapId)
    (inside : keep < 2 ^ n) (over : IsOver w n rest) (tells : TellsBits layout n)
    (once : (s : Values) (t : List Event) (o : Outcome) → (meaning p).does Γ s t o ↔ ((t ≡ []) × (o ≡ ended s))) where
  pub now : (x : ℕ) (a : NodeId) (t : List Event) (f : ℕ → NodeId → List Event → Bool) → x < 2 ^ 64 → value w.maps rest x ≡ Some a → f x a t ≡ true → Resumes w layout closed Γ p rest x f t
  now x a t f hx at behaved = record {
    t1 = [];
    t2 = t;
    y = x;
    m = a;
    whole = refl;
    below = hx;
    silent = refl;
    ended = (once (state_of layout x) [] (ended (state_of layout x))).1 (refl, refl);
    leads = at;
    behaved = behaved;
  }

  still : (x : ℕ) (a : NodeId) (t t1 t2 : List Event) (y : ℕ) (m : NodeId) (f : ℕ → NodeId → List Event → Bool) → x < 2 ^ 64 → value w.maps rest x ≡ Some a
      → t ≡ t1 ++ t2 → y < 2 ^ 64 → part_ends Γ p (state_of layout x) t1 (state_of layout y) → value w.maps rest y ≡ Some m → f y m t2 ≡ true
      → AgreeBelow n x y × (f y a t ≡ true)
  still x a t t1 t2 y m f hx at whole hy d leads behaved =
      let stop = (once (state_of layout x) t1 (ended (state_of layout y))).0 d in
      let agree : AgreeBelow n x y = λ k h. sym (tells y x (same_end (state_of layout y) (state_of layout x) stop.1) k h) in
      let one : m ≡ a = same_Some m a (sym leads ∙ sym (over.same x y hx hy agree) ∙ at) in
      (agree, (λ i. f y (sym one i) ((whole ∙ ap (λ u. u ++ t2) stop.0) i)) ∙ behaved)

  pub skip_after : IsAfter w layout keep closed Γ p rest rest
  skip_after = record {
    after_fails = λ x a hx at t X. (
      λ h. inr (now x a t (λ y m u. fails w m u X) hx at h),
      ⊎_elim
          (λ (s : QuietlyFails layout closed Γ p x t X). absurd (not_both (state_of layout x) (off_channels closed X) ((once (state_of layout x) t (refusing (off_channels closed X))).0 s.1).1))
          (λ (s : Resumes w layout closed Γ p rest x (λ y m u. fails w m u X) t). (still x a t s.t1 s.t2 s.y s.m (λ y m u. fails w m u X) hx at s.whole s.below s.ended s.leads s.behaved).1),
    );
    after_ends = λ x a hx at t z hz. (
      λ h. now x a t (λ y m u. ends w m u (bit_xor z (change_of keep x y))) hx at (ap (ends w a t) (unchanged z x x (λ k l. refl)) ∙ h),
      λ s. let k = still x a t s.t1 s.t2 s.y s.m (λ y m u. ends w m u (bit_xor z (change_of keep x y))) hx at s.whole s.below s.ended s.leads s.behaved in
          sym (ap (ends w a t) (unchanged z x s.y k.0)) ∙ k.1,
    );
  }
    where
      unchanged : (z x y : ℕ) → AgreeBelow n x y → bit_xor z (change_of keep x y) ≡ z
      unchanged z x y agree = ap (bit_xor z) (change_none n keep x y inside agree) ∙ xor_zero_r z

-- ---- STOP
at_rest_only : (t : List Event) (o : Outcome) → Stopped t o → (X : Event → Bool) × (t ≡ []) × (o ≡ refusing X)
at_rest_only t o (stopped {X = X}) = (X, refl, refl)

module _ (w : World) (layout : List (Name × Width × ℕ)) (keep : ℕ) (closed : List Name) (Γ : Environment) (p : Tree) (rest r : MapId) (is : IsStop w r)
    (rests : (s : Values) (t : List Event) (o : Outcome) → (meaning p).does Γ s t o ↔ Stopped t o) where
  the_node : (x : ℕ) (a : NodeId) → value w.maps r x ≡ Some a → is.node ≡ a
  the_node x a at = same_Some is.node a (sym (is.everywhere.values x) ∙ at)

  never_ends : (x : ℕ) (t : List Event) (f : ℕ → NodeId → List Event → Bool) → Resumes w layout closed Γ p rest x f t → ⊥
  never_ends x t f s =
      let k = at_rest_only s.t1 (ended (state_of layout s.y)) ((rests (state_of layout x) s.t1 (ended (state_of layout s.y))).0 s.ended) in
      not_both (state_of layout s.y) k.0 (sym k.2)

  later : (e : Event) (t : List Event) (X : Event → Bool) → Stopped (e ∷ t) (refusing X) → ⊥
  later e t X d = let k = at_rest_only (e ∷ t) (refusing X) d in let f : e ∷ t ≡ [] = k.1 in cc

  fails_there : (x : ℕ) (t : List Event) (X : Event → Bool) → (fails w is.node t X ≡ true) ↔ QuietlyFails layout closed Γ p x t X
  fails_there x [] X = (λ h. (refl, (rests (state_of layout x) [] (refusing (off_channels closed X))).1 stopped), λ s. is.fails_now X)
  fails_there x (e ∷ t) X = (
    λ h. absurd (let f : true ≡ false = sym h ∙ is.fails_once e t X in cc),
    λ s. absurd (later e t (off_channels closed X) ((rests (state_of layout x) (e ∷ t) (refusing (off_channels closed X))).0 s.1)),
  )

  pub stop_after : IsAfter w layout keep closed Γ p rest r
  stop_after = record {
    after_fails = λ x a hx at t X. (
      λ h. inl ((fails_there x t X).0 (ap (λ b. fails w b t X) (the_node x a at) ∙ h)),
      ⊎_elim
          (λ (s : QuietlyFails layout closed Γ p x t X). sym (ap (λ b. fails w b t X) (the_node x a at)) ∙ (fails_there x t X).1 s)
          (λ (s : Resumes w layout closed Γ p rest x (λ y m u. fails w m u X) t). absurd (never_ends x t (λ y m u. fails w m u X) s)),
    );
    after_ends = λ x a hx at t z hz. (
      λ h. absurd (let f : true ≡ false = sym h ∙ sym (ap (λ b. ends w b t z) (the_node x a at)) ∙ is.never_ends t z in cc),
      λ s. absurd (never_ends x t (λ y m u. ends w m u (bit_xor z (change_of keep x y))) s),
    );
  }

-- ---- the same behaviours from one state
pub resumes_as : (w : World) (layout : List (Name × Width × ℕ)) (closed : List Name) (Γ : Environment) (p q : Tree) (rest : MapId) (x : ℕ) (f : ℕ → NodeId → List Event → Bool) (t : List Event)
    → ((u : List Event) (o : Outcome) → (meaning p).does Γ (state_of layout x) u o → (meaning q).does Γ (state_of layout x) u o)
    → Resumes w layout closed Γ p rest x f t → Resumes w layout closed Γ q rest x f t
resumes_as w layout closed Γ p q rest x f t gives s = record {
  t1 = s.t1;
  t2 = s.t2;
  y = s.y;
  m = s.m;
  whole = s.whole;
  below = s.below;
  silent = s.silent;
  ended = gives s.t1 (ended (state_of layout s.y)) s.ended;
  leads = s.leads;
  behaved = s.behaved;
}

-- a map that has at each assignment the node of the map of a part that behaves so from there
pub after_as : (w : World) (layout : List (Name × Width × ℕ)) (keep : ℕ) (closed : List Name) (Γ : Environment) (q : Tree) (rest r : MapId)
    → ((x : ℕ) → x < 2 ^ 64 → (p : Tree) × (map : MapId) × IsAfter w layout keep closed Γ p rest map × (value w.maps r x ≡ value w.maps map x)
    × ((u : List Event) (o : Outcome) → (meaning p).does Γ (state_of layout x) u o ↔ (meaning q).does Γ (state_of layout x) u o))
    → IsAfter w layout keep closed Γ q rest r
after_as w layout keep closed Γ q rest r there = record {
  after_fails = λ x a hx at t X. let k = there x hx in let iff = k.2.after_fails x a hx (sym k.3 ∙ at) t X in (
    λ h. ⊎_elim
        (λ (s : QuietlyFails layout closed Γ k.0 x t X). inl (s.0, (k.4 t (refusing (off_channels closed X))).0 s.1))
        (λ (s : Resumes w layout closed Γ k.0 rest x (λ y m u. fails w m u X) t). inr (resumes_as w layout closed Γ k.0 q rest x (λ y m u. fails w m u X) t (λ u o. (k.4 u o).0) s))
        (iff.0 h),
    ⊎_elim
        (λ (s : QuietlyFails layout closed Γ q x t X). iff.1 (inl (s.0, (k.4 t (refusing (off_channels closed X))).1 s.1)))
        (λ (s : Resumes w layout closed Γ q rest x (λ y m u. fails w m u X) t). iff.1 (inr (resumes_as w layout closed Γ q k.0 rest x (λ y m u. fails w m u X) t (λ u o. (k.4 u o).1) s))),
  );
  after_ends = λ x a hx at t z hz. let k = there x hx in let iff = k.2.after_ends x a hx (sym k.3 ∙ at) t z hz in (
    λ h. resumes_as w layout closed Γ k.0 q rest x (λ y m u. ends w m u (bit_xor z (change_of keep x y))) t (λ u o. (k.4 u o).0) (iff.0 h),
    λ s. iff.1 (resumes_as w layout closed Γ q k.0 rest x (λ y m u. ends w m u (bit_xor z (change_of keep x y))) t (λ u o. (k.4 u o).1) s),
  );
}
