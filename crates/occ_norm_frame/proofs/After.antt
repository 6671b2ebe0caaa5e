-- What a map has of a part and what follows it, as the world grows, and the states that a part reaches.
use Rattle.std.proofs.Common.{◌≡◌, ◌<◌, ◌≤◌, ◌+◌, ◌/◌, ◌%◌, ◌^◌, ◌==◌, ℕ, Bool, true, false, cond, min, inl, inr, ⊎_elim, List, [], ◌∷◌, Option, Some, None, refl, sym, ap, ◌∙◌, subst, arith}
use Rattle.std.specs.Int.{bit_at}
use Rattle.std.specs.Int.Bits.{bit_xor}
use Rattle.std.proofs.Math.Nat.{mod-lt}
use Rattle.std.proofs.lemmas.Nat.{pow_pos}
use Rattle.std.proofs.lemmas.Option.{same_Some}
use Rattle.std.proofs.lemmas.Bool.{cases_Bool, cases_lt}
use Rattle.std.proofs.lemmas.Nat.Bits.{bit_at_and, bit_at_xor, bit_at_above, same_from_bits, same_from_bits_below}
use Rattle.occ_syntax.specs.occ_base.declared.event.Event.{Event}
use Rattle.occ_syntax.specs.occ_base.declared.names.Name.{Name}
use Rattle.occ_syntax.specs.occ_base.declared.width.Width.{Width}
use Rattle.occ_syntax.specs.occ_base.Width.{bits_of}
use Rattle.occ_syntax.specs.declared.scope.Kind.{Kind}
use Rattle.occ_syntax.specs.declared.scope.Kind.TheVariants.{Var, Chan}
use Rattle.occ_syntax.specs.Counts.{bits_of_scope}
use Rattle.occ_syntax.specs.Meaning.{fails as part_fails, ends as part_ends}
use Rattle.occ_syntax.specs.Scopes.{Environment, IsState, Values, variable_width}
use Rattle.occ_syntax.specs.Tree.{Tree}
use Rattle.occ_syntax.specs.Types.{types_kept}
use Rattle.occ_bits.proofs.from_meaning.Frame.{part_value, written_in_scope}
use Rattle.occ_bits.proofs.from_meaning.States.{part_states}
use Rattle.occ_bits.specs.Layout.{assignment_of, entry_of, environment_in, laid_out, scope_in, state_of}
use Rattle.occ_bits.proofs.Arithmetic.{low_bit, higher_bit}
use Rattle.occ_bits.proofs.Laid.{found_width, laid_bits, missing}
use Rattle.occ_bits.proofs.States.{are_states, state_fits}
use Rattle.occ_bits.specs.occ_dd.Assignment.{turned}
use Rattle.occ_weave.specs.occ_mdd.Maps.{value}
use Rattle.occ_weave.specs.occ_mdd.declared.map.MapId.{MapId}
use Rattle.occ_weave.specs.occ_node.World.{IsNode, fails, ends}
use Rattle.occ_weave.specs.occ_node.declared.node.NodeId.{NodeId}
use Rattle.occ_weave.specs.occ_node.declared.world.World.{World}
use Rattle.occ_weave.proofs.from_node.Recovery.{canonical}
use Rattle.occ_follow.specs.Sequence.{HasNodes}
use Rattle.occ_weave.specs.Weave.{off_channels}
use Rattle.occ_norm_frame.specs.Growth.{turned_grow}
use Rattle.occ_norm_frame.specs.Maps.{Extends}
use Rattle.occ_norm_frame.proofs.Worlds.{has_nodes-extends}
use Rattle.occ_norm_frame.specs.After.{AgreeBelow, IsAfter, IsOver, QuietlyFails, Resumes, change_of}
use Rattle.occ_norm_frame.specs.Changes.{IsChanged, IsFreed, IsSupport, Somewhere}
use Rattle.occ_norm_frame.specs.Placed.{IsAround, IsFrame}
use Rattle.occ_norm_frame.proofs.Placing.{frame_layout, width_here}

-- a node that a map has at an assignment
pub map_node : (w : World) (m : MapId) → HasNodes w m → (x : ℕ) → x < 2 ^ 64 → (a : NodeId) → value w.maps m x ≡ Some a → IsNode w a
map_node w m has x h a e = let found = has.nodes x h in subst (IsNode w) (same_Some found.0 a (sym found.1 ∙ e)) found.2

-- ---- as the world grows
module _ (v w : World) (k : Extends v w) where
  -- a map's value in the later world was that in the earlier one
  pub value_was : (m : MapId) → HasNodes v m → (x : ℕ) (o : Option NodeId) → value w.maps m x ≡ o → value v.maps m x ≡ o
  value_was m has x o e = sym (k.maps.same m x has.known) ∙ e

  pub value_is : (m : MapId) → HasNodes v m → (x : ℕ) (o : Option NodeId) → value v.maps m x ≡ o → value w.maps m x ≡ o
  value_is m has x o e = k.maps.same m x has.known ∙ e

  pub over-extends : (n : ℕ) (m : MapId) → IsOver v n m → IsOver w n m
  over-extends n m is = record {
    has = has_nodes-extends v w k m is.has;
    same = λ x y h l agree. k.maps.same m x is.has.known ∙ is.same x y h l agree ∙ sym (k.maps.same m y is.has.known);
  }

  pub changed-extends : (change : ℕ → ℕ) (m r : MapId) → HasNodes v m → HasNodes v r → IsChanged v change m r → IsChanged w change m r
  changed-extends change m r hm hr is = record {
    changed = λ x a b h e f. turned_grow v w k.grows (change x) a b (is.changed x a b h (value_was m hm x (Some a) e) (value_was r hr x (Some b) f));
  }

  pub support-extends : (n : ℕ) (m : MapId) (needed : ℕ) → HasNodes v m → IsSupport v n m needed → IsSupport w n m needed
  support-extends n m needed has is = record {
    within = is.within;
    others = λ i h e x. k.maps.same m (turned x i) has.known ∙ is.others i h e x ∙ sym (k.maps.same m x has.known);
  }

  somewhere_later : (m : MapId) → HasNodes v m → (first end x : ℕ) (F G : NodeId → Bool) → ((n : NodeId) → IsNode v n → G n ≡ F n) → Somewhere v m first end x F → Somewhere w m first end x G
  somewhere_later m has first end x F G alike s = record {
    y = s.y;
    m = s.m;
    below = s.below;
    agree = s.agree;
    leads = value_is m has s.y (Some s.m) s.leads;
    behaved = alike s.m (map_node v m has s.y s.below s.m s.leads) ∙ s.behaved;
  }

  somewhere_before : (m : MapId) → HasNodes v m → (first end x : ℕ) (F G : NodeId → Bool) → ((n : NodeId) → IsNode v n → G n ≡ F n) → Somewhere w m first end x G → Somewhere v m first end x F
  somewhere_before m has first end x F G alike s =
      let led : value v.maps m s.y ≡ Some s.m = value_was m has s.y (Some s.m) s.leads in
      record { y = s.y; m = s.m; below = s.below; agree = s.agree; leads = led; behaved = sym (alike s.m (map_node v m has s.y s.below s.m led)) ∙ s.behaved }

  pub freed-extends : (first end : ℕ) (m r : MapId) → HasNodes v m → HasNodes v r → IsFreed v first end m r → IsFreed w first end m r
  freed-extends first end m r hm hr is = record {
    freed_fails = λ x a h e t X.
        let was = value_was r hr x (Some a) e in
        let same_at = k.grows.same_fails a t X (map_node v r hr x h a was) in
        let alike : (n : NodeId) → IsNode v n → fails w n t X ≡ fails v n t X = λ n l. k.grows.same_fails n t X l in (
          λ b. somewhere_later m hm first end x (λ n. fails v n t X) (λ n. fails w n t X) alike ((is.freed_fails x a h was t X).0 (sym same_at ∙ b)),
          λ s. same_at ∙ (is.freed_fails x a h was t X).1 (somewhere_before m hm first end x (λ n. fails v n t X) (λ n. fails w n t X) alike s),
        );
    freed_ends = λ x a h e t z b.
        let was = value_was r hr x (Some a) e in
        let same_at = k.grows.same_ends a t z (map_node v r hr x h a was) in
        let alike : (n : NodeId) → IsNode v n → ends w n t z ≡ ends v n t z = λ n l. k.grows.same_ends n t z l in (
          λ c. somewhere_later m hm first end x (λ n. ends v n t z) (λ n. ends w n t z) alike ((is.freed_ends x a h was t z b).0 (sym same_at ∙ c)),
          λ s. same_at ∙ (is.freed_ends x a h was t z b).1 (somewhere_before m hm first end x (λ n. ends v n t z) (λ n. ends w n t z) alike s),
        );
  }

  module _ (layout : List (Name × Width × ℕ)) (closed : List Name) (Γ : Environment) (p : Tree) (rest : MapId) (has : HasNodes v rest) (x : ℕ) where
    resumes_later : (F G : ℕ → NodeId → List Event → Bool) → ((y : ℕ) (m : NodeId) (u : List Event) → IsNode v m → G y m u ≡ F y m u) → (t : List Event) → Resumes v layout closed Γ p rest x F t → Resumes w layout closed Γ p rest x G t
    resumes_later F G alike t s = record {
      t1 = s.t1;
      t2 = s.t2;
      y = s.y;
      m = s.m;
      whole = s.whole;
      below = s.below;
      silent = s.silent;
      ended = s.ended;
      leads = value_is rest has s.y (Some s.m) s.leads;
      behaved = alike s.y s.m s.t2 (map_node v rest has s.y s.below s.m s.leads) ∙ s.behaved;
    }

    resumes_before : (F G : ℕ → NodeId → List Event → Bool) → ((y : ℕ) (m : NodeId) (u : List Event) → IsNode v m → G y m u ≡ F y m u) → (t : List Event) → Resumes w layout closed Γ p rest x G t → Resumes v layout closed Γ p rest x F t
    resumes_before F G alike t s =
        let led : value v.maps rest s.y ≡ Some s.m = value_was rest has s.y (Some s.m) s.leads in
        record {
          t1 = s.t1;
          t2 = s.t2;
          y = s.y;
          m = s.m;
          whole = s.whole;
          below = s.below;
          silent = s.silent;
          ended = s.ended;
          leads = led;
          behaved = sym (alike s.y s.m s.t2 (map_node v rest has s.y s.below s.m led)) ∙ s.behaved;
        }

  pub after-extends : (layout : List (Name × Width × ℕ)) (keep : ℕ) (closed : List Name) (Γ : Environment) (p : Tree) (rest r : MapId) → HasNodes v rest → HasNodes v r
      → IsAfter v layout keep closed Γ p rest r → IsAfter w layout keep closed Γ p rest r
  after-extends layout keep closed Γ p rest r has hr is = record {
    after_fails = λ x a h e t X.
        let was = value_was r hr x (Some a) e in
        let same_at = k.grows.same_fails a t X (map_node v r hr x h a was) in
        let F : ℕ → NodeId → List Event → Bool = λ y m u. fails v m u X in
        let G : ℕ → NodeId → List Event → Bool = λ y m u. fails w m u X in
        let alike : (y : ℕ) (m : NodeId) (u : List Event) → IsNode v m → G y m u ≡ F y m u = λ y m u l. k.grows.same_fails m u X l in (
          λ b. ⊎_elim (λ (q : QuietlyFails layout closed Γ p x t X). inl q) (λ (s : Resumes v layout closed Γ p rest x F t). inr (resumes_later layout closed Γ p rest has x F G alike t s)) ((is.after_fails x a h was t X).0 (sym same_at ∙ b)),
          λ s. same_at ∙ (is.after_fails x a h was t X).1 (⊎_elim (λ (q : QuietlyFails layout closed Γ p x t X). inl q) (λ (z : Resumes w layout closed Γ p rest x G t). inr (resumes_before layout closed Γ p rest has x F G alike t z)) s),
        );
    after_ends = λ x a h e t z b.
        let was = value_was r hr x (Some a) e in
        let same_at = k.grows.same_ends a t z (map_node v r hr x h a was) in
        let F : ℕ → NodeId → List Event → Bool = λ y m u. ends v m u (bit_xor z (change_of keep x y)) in
        let G : ℕ → NodeId → List Event → Bool = λ y m u. ends w m u (bit_xor z (change_of keep x y)) in
        let alike : (y : ℕ) (m : NodeId) (u : List Event) → IsNode v m → G y m u ≡ F y m u = λ y m u l. k.grows.same_ends m u (bit_xor z (change_of keep x y)) l in (
          λ c. resumes_later layout closed Γ p rest has x F G alike t ((is.after_ends x a h was t z b).0 (sym same_at ∙ c)),
          λ s. same_at ∙ (is.after_ends x a h was t z b).1 (resumes_before layout closed Γ p rest has x F G alike t s),
        );
  }

-- ---- the states of a layout
-- numbers in the same bits of two assignments are the same
pub digits_same : (x y f b : ℕ) → ((k : ℕ) → f ≤ k → k < f + b → bit_at x k ≡ bit_at y k) → x / 2 ^ f % 2 ^ b ≡ y / 2 ^ f % 2 ^ b
digits_same x y f b same = same_from_bits_below b (x / 2 ^ f % 2 ^ b) (y / 2 ^ f % 2 ^ b) (mod-lt (x / 2 ^ f) (pow_pos b)) (mod-lt (y / 2 ^ f) (pow_pos b))
    (λ i l. low_bit (x / 2 ^ f) b i l ∙ higher_bit x f i ∙ same (f + i) (omega arith) (omega arith) ∙ sym (higher_bit y f i) ∙ sym (low_bit (y / 2 ^ f) b i l))

laid_below : (a : ℕ) (vars : List (Name × Kind)) (n x y : ℕ) → a + bits_of_scope vars ≤ n → AgreeBelow n x y → state_of (laid_out a vars) x ≡ state_of (laid_out a vars) y
laid_below a [] n x y h agree = refl
laid_below a ((name, Var w) ∷ vars) n x y h agree =
    let here : x / 2 ^ a % 2 ^ bits_of w ≡ y / 2 ^ a % 2 ^ bits_of w = digits_same x y a (bits_of w) (λ k l m. agree k (omega arith)) in
    let there : state_of (laid_out (a + bits_of w) vars) x ≡ state_of (laid_out (a + bits_of w) vars) y = laid_below (a + bits_of w) vars n x y (omega arith) agree in
    λ i z. cond (z == name.0) (here i) (there i z)
laid_below a ((name, Chan w d) ∷ vars) n x y h agree = laid_below a vars n x y (omega arith) agree

-- the state has 0 where the layout has no variable
pub zero_off : (entries : List (Name × Width × ℕ)) (x y : ℕ) → entry_of entries y ≡ None → state_of entries x y ≡ 0
zero_off [] x y e = refl
zero_off ((n, v, g) ∷ entries) x y e = ⊎_elim
    (λ (t : (y == n.0) ≡ true). absurd (clash (v, g) (sym (ap (λ b. cond b (Some (v, g)) (entry_of entries y)) t) ∙ e)))
    (λ (t : (y == n.0) ≡ false). ap (λ b. cond b (x / 2 ^ g % 2 ^ bits_of v) (state_of entries x y)) t ∙ zero_off entries x y (sym (ap (λ b. cond b (Some (v, g)) (entry_of entries y)) t) ∙ e))
    (cases_Bool (y == n.0))
  where
    clash : (p : Width × ℕ) → Some p ≡ None → ⊥
    clash p q = cc

module _ (vars : List (Name × Kind)) (layout : List (Name × Width × ℕ)) (n : ℕ) (f : IsFrame vars layout n) where
  -- assignments with the same bits below n stand for one state
  pub state_below : (x y : ℕ) → AgreeBelow n x y → state_of layout x ≡ state_of layout y
  state_below x y agree =
      let e : n ≡ bits_of_scope vars = f.bits_are in
      subst (λ l. state_of l x ≡ state_of l y) (sym f.layout_is) (laid_below 0 vars n x y (omega arith) agree)

  scope_bits : bits_of_scope (scope_in layout) ≡ n
  scope_bits = ap (λ l. bits_of_scope (scope_in l)) f.layout_is ∙ laid_bits 0 vars ∙ sym f.bits_are

  low_part : (x : ℕ) → AgreeBelow n x (x % 2 ^ n)
  low_part x k h = sym (low_bit x n k h)

  again : (x : ℕ) → assignment_of layout (state_of layout (x % 2 ^ n)) ≡ x % 2 ^ n
  again x = (are_states layout (frame_layout vars layout n f)).again (x % 2 ^ n) (subst (λ m. x % 2 ^ n < 2 ^ m) (sym scope_bits) (mod-lt x (pow_pos n)))

  -- assignments of one state have the same bits below n
  pub state_back : (x y : ℕ) → state_of layout x ≡ state_of layout y → AgreeBelow n x y
  state_back x y e =
      let states : state_of layout (x % 2 ^ n) ≡ state_of layout (y % 2 ^ n) = sym (state_below x (x % 2 ^ n) (low_part x)) ∙ e ∙ state_below y (y % 2 ^ n) (low_part y) in
      let same_low : x % 2 ^ n ≡ y % 2 ^ n = sym (again x) ∙ ap (assignment_of layout) states ∙ again y in
      λ k h. low_part x k h ∙ ap (λ m. bit_at m k) same_low ∙ sym (low_part y k h)

  -- an assignment stands for a state of the environment
  pub layout_state : (Γ : Environment) → IsAround Γ vars → (x : ℕ) → IsState Γ (state_of layout x)
  layout_state Γ around x = state_fits layout Γ (λ y w e. width_here Γ vars layout n f around y ∙ e) x

  -- ---- the states that a part reaches
  module _ (Γ : Environment) (around : IsAround Γ vars) (p : Tree) (types : types_kept p Γ ≡ true) where
    widths : (y : ℕ) → variable_width Γ y ≡ variable_width (environment_in layout) y
    widths y = width_here Γ vars layout n f around y

    value_there : (x : ℕ) (t : List Event) (s' : Values) → part_ends Γ p (state_of layout x) t s' → IsState (environment_in layout) s' → (z : ℕ) (o : Option (Width × ℕ)) → entry_of layout z ≡ o → s' z ≡ state_of layout (assignment_of layout s') z
    value_there x t s' d state z (Some (w, g)) e = sym ((are_states layout (frame_layout vars layout n f)).back s' state z w (found_width layout z w g e))
    value_there x t s' d state z None e =
        let unwritten = written_in_scope p Γ types z (widths z ∙ missing layout z e) in
        (part_value p Γ types z unwritten).value Γ (state_of layout x) t s' d ∙ zero_off layout x z e ∙ sym (zero_off layout (assignment_of layout s') z e)

    -- where a part has ended from the state of an assignment, the values are the state of an assignment of n bits
    pub states_reached : (x : ℕ) (t : List Event) (s' : Values) → part_ends Γ p (state_of layout x) t s' → (y : ℕ) × (y < 2 ^ n) × (s' ≡ state_of layout y)
    states_reached x t s' d =
        let reached : IsState Γ s' = (part_states p Γ types).state (state_of layout x) t s' (layout_state Γ around x) d in
        let state : IsState (environment_in layout) s' = λ y w e. reached y w (widths y ∙ e) in
        let all = are_states layout (frame_layout vars layout n f) in
        let a = assignment_of layout s' in
        (a, subst (λ m. a < 2 ^ m) scope_bits (all.small s' state), λ i z. value_there x t s' d state z (entry_of layout z) refl i)

-- ---- what a part and then a map has depends on the bits that are laid out
pub change_below : (keep n x y z : ℕ) → keep < 2 ^ n → AgreeBelow n x y → change_of keep x z ≡ change_of keep y z
change_below keep n x y z h agree = same_from_bits (change_of keep x z) (change_of keep y z) each
  where
    each : (i : ℕ) → bit_at (change_of keep x z) i ≡ bit_at (change_of keep y z) i
    each i = bit_at_and (bit_xor x z) keep i ∙ ⊎_elim
        (λ (l : i < n). ap (λ b. min b (bit_at keep i)) (bit_at_xor x z i ∙ ap (λ b. (b + bit_at z i) % 2) (agree i l) ∙ sym (bit_at_xor y z i)))
        (λ (l : n ≤ i). let none : bit_at keep i ≡ 0 = bit_at_above keep n i h l in ap (min (bit_at (bit_xor x z) i)) none ∙ none_of (bit_at (bit_xor x z) i) (bit_at (bit_xor y z) i) ∙ ap (min (bit_at (bit_xor y z) i)) (sym none))
        (cases_lt i n) ∙ sym (bit_at_and (bit_xor y z) keep i)
      where
        none_of : (a b : ℕ) → min a 0 ≡ min b 0
        none_of a b = omega arith

pub same_truth : (a b : Bool) → (a ≡ true → b ≡ true) → (b ≡ true → a ≡ true) → a ≡ b
same_truth true b f g = sym (f refl)
same_truth false true f g = g refl
same_truth false false f g = refl

-- ---- a map whose nodes do the same at assignments with the same bits below n
module _ (w : World) (n : ℕ) (r : MapId) (has : HasNodes w r)
    (fail : (x y : ℕ) (a b : NodeId) → AgreeBelow n x y → x < 2 ^ 64 → y < 2 ^ 64 → value w.maps r x ≡ Some a → value w.maps r y ≡ Some b → (t : List Event) (X : Event → Bool) → fails w a t X ≡ true → fails w b t X ≡ true)
    (end : (x y : ℕ) (a b : NodeId) → AgreeBelow n x y → x < 2 ^ 64 → y < 2 ^ 64 → value w.maps r x ≡ Some a → value w.maps r y ≡ Some b → (t : List Event) (z : ℕ) → z < 2 ^ 64 → ends w a t z ≡ true → ends w b t z ≡ true) where
  one_node : (x y : ℕ) (a b : NodeId) → AgreeBelow n x y → x < 2 ^ 64 → y < 2 ^ 64 → value w.maps r x ≡ Some a → value w.maps r y ≡ Some b → a ≡ b
  one_node x y a b agree h l e f =
      let back : AgreeBelow n y x = λ k m. sym (agree k m) in
      (canonical w).one a b (map_node w r has x h a e) (map_node w r has y l b f)
      (λ t X. same_truth (fails w a t X) (fails w b t X) (fail x y a b agree h l e f t X) (fail y x b a back l h f e t X))
      (λ t z below. same_truth (ends w a t z) (ends w b t z) (end x y a b agree h l e f t z below) (end y x b a back l h f e t z below))

  -- the other bits don't matter to it
  pub over_by : IsOver w n r
  over_by = record {
    has = has;
    same = λ x y h l agree.
        let a = has.nodes x h in
        let b = has.nodes y l in
        a.1 ∙ ap (λ (m : NodeId). Some m) (one_node x y a.0 b.0 agree h l a.1 b.1) ∙ sym b.1;
  }

module _ (w : World) (vars : List (Name × Kind)) (layout : List (Name × Width × ℕ)) (n : ℕ) (frame : IsFrame vars layout n) (keep : ℕ) (few : keep < 2 ^ n) (closed : List Name) (Γ : Environment) (p : Tree) (rest : MapId) where
  quietly_alike : (x y : ℕ) → AgreeBelow n x y → (t : List Event) (X : Event → Bool) → QuietlyFails layout closed Γ p x t X → QuietlyFails layout closed Γ p y t X
  quietly_alike x y agree t X q = (q.0, subst (λ s. part_fails Γ p s t (off_channels closed X)) (state_below vars layout n frame x y agree) q.1)

  resumes_alike : (x y : ℕ) → AgreeBelow n x y → (F G : ℕ → NodeId → List Event → Bool) → ((z : ℕ) (m : NodeId) (u : List Event) → F z m u ≡ G z m u) → (t : List Event) → Resumes w layout closed Γ p rest x F t → Resumes w layout closed Γ p rest y G t
  resumes_alike x y agree F G alike t s = record {
    t1 = s.t1;
    t2 = s.t2;
    y = s.y;
    m = s.m;
    whole = s.whole;
    below = s.below;
    silent = s.silent;
    ended = subst (λ u. part_ends Γ p u s.t1 (state_of layout s.y)) (state_below vars layout n frame x y agree) s.ended;
    leads = s.leads;
    behaved = sym (alike s.y s.m s.t2) ∙ s.behaved;
  }

  module _ (r : MapId) (is : IsAfter w layout keep closed Γ p rest r) where
    fails_into : (x y : ℕ) (a b : NodeId) → AgreeBelow n x y → x < 2 ^ 64 → y < 2 ^ 64 → value w.maps r x ≡ Some a → value w.maps r y ≡ Some b → (t : List Event) (X : Event → Bool) → fails w a t X ≡ true → fails w b t X ≡ true
    fails_into x y a b agree h l e f t X c = (is.after_fails y b l f t X).1 (⊎_elim
        (λ (q : QuietlyFails layout closed Γ p x t X). inl (quietly_alike x y agree t X q))
        (λ (s : Resumes w layout closed Γ p rest x (λ z m u. fails w m u X) t). inr (resumes_alike x y agree (λ z m u. fails w m u X) (λ z m u. fails w m u X) (λ z m u. refl) t s))
        ((is.after_fails x a h e t X).0 c))

    ends_into : (x y : ℕ) (a b : NodeId) → AgreeBelow n x y → x < 2 ^ 64 → y < 2 ^ 64 → value w.maps r x ≡ Some a → value w.maps r y ≡ Some b → (t : List Event) (z : ℕ) → z < 2 ^ 64 → ends w a t z ≡ true → ends w b t z ≡ true
    ends_into x y a b agree h l e f t z below c = (is.after_ends y b l f t z below).1
        (resumes_alike x y agree (λ u m v. ends w m v (bit_xor z (change_of keep x u))) (λ u m v. ends w m v (bit_xor z (change_of keep y u)))
        (λ u m v. ap (λ change. ends w m v (bit_xor z change)) (change_below keep n x y u few agree)) t ((is.after_ends x a h e t z below).0 c))

    -- the bits from n on don't matter to the map of a part and what follows it
    pub after-over : HasNodes w r → IsOver w n r
    after-over has = over_by w n r has fails_into ends_into
