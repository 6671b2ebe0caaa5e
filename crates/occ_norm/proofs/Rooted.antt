-- What the root of a program says: its nodes are there and of the interface, and what they do is what the program does; and
-- a root stays one as its world grows.
use Rattle.std.proofs.Common.{◌≡◌, ◌<◌, ◌≤◌, ◌^◌, ◌/◌, ◌%◌, ◌+◌, inl, inr, ℕ, Bool, true, false, cond, List, [], ◌∷◌, Option, Some, None, is_some, refl, sym, ap, ◌∙◌, subst, arith}
use Rattle.std.proofs.lemmas.Bool.{and_from, eq-eqb, lt-ltb}
use Rattle.std.proofs.lemmas.Nat.{pow_pos}
use Rattle.std.proofs.Math.Nat.{mod-lt}
use Rattle.std.specs.List.{list_all}
use Rattle.std.specs.Option.{IsSomeAnd}
use mathlib.Core.Path.{fun_ext}
use Rattle.occ_syntax.specs.occ_base.declared.event.Event.{Event}
use Rattle.occ_syntax.specs.occ_base.declared.names.Name.{Name}
use Rattle.occ_syntax.specs.occ_base.declared.width.Width.{Width}
use Rattle.occ_syntax.specs.occ_base.Width.{bits_of}
use Rattle.occ_syntax.specs.declared.scope.Kind.{Kind}
use Rattle.occ_syntax.specs.declared.scope.Kind.TheVariants.{Var, Chan}
use Rattle.occ_syntax.specs.Counts.{bits_of_scope}
use Rattle.occ_syntax.specs.Meaning.{ended, refusing, fails as part_fails, ends as part_ends}
use Rattle.occ_syntax.specs.Scopes.{EventSet, IsState, Trace, Values, among, environment, in_interface, values, variable_width, with_value}
use Rattle.occ_syntax.specs.Tree.{Tree}
use Rattle.occ_syntax.specs.Types.{scope_kept, types_kept}
use Rattle.occ_compare.specs.occ_meaning.Foundation.{AreWithin}
use Rattle.occ_compare.proofs.from_meaning.Interface.{part_in_interface}
use Rattle.occ_compare.specs.occ_bits.Layout.{assignment_of, environment_in, entry_of, laid_out, state_of, scope_in}
use Rattle.occ_compare.proofs.from_bits.Laid.{found_width, laid_bits, laid_width, layout_of, missing}
use Rattle.occ_compare.proofs.from_bits.Arithmetic.{low_bit}
use Rattle.occ_compare.specs.occ_mdd.Maps.{value}
use Rattle.occ_compare.specs.occ_mdd.declared.map.MapId.{MapId}
use Rattle.occ_compare.specs.occ_node.Canonical.{HasTrace}
use Rattle.occ_compare.specs.occ_node.World.{IsNode, ends}
use Rattle.occ_compare.specs.occ_node.declared.node.NodeId.{NodeId}
use Rattle.occ_compare.specs.occ_node.declared.world.World.{World}
use Rattle.occ_compare.specs.occ_behaviour.declared.behaviour.Behaviour.{Behaviour}
use Rattle.occ_compare.specs.occ_behaviour.declared.behaviour.Last.{Last}
use Rattle.occ_compare.specs.occ_behaviour.declared.behaviour.Last.TheVariants.{Refuses, Ends}
use Rattle.occ_compare.specs.occ_behaviour.Members.{Stands as StandsIn}
use Rattle.occ_compare.specs.occ_behaviour.States.{is_state}
use Rattle.occ_compare.specs.Interface.{HasNodes as HasAllNodes, IsOfInterface}
use Rattle.occ_compare.specs.Places.{state_at, values_at}
use Rattle.occ_norm_alt.specs.occ_norm_frame.Maps.{Extends}
use Rattle.occ_compare.specs.Verdicts.{Stands}
use Rattle.occ_norm_alt.specs.occ_norm_frame.After.{AgreeBelow}
use Rattle.occ_norm_alt.specs.occ_norm_frame.Placed.{IsFrame}
use Rattle.occ_compare.proofs.from_bits.States.{are_states, state_fits}
use Rattle.occ_norm_alt.proofs.from_norm_frame.After.{map_node, over-extends, same_truth, state_below, value_was, zero_off}
use Rattle.occ_norm_alt.proofs.from_norm_frame.FrameBits.{pow_more}
use Rattle.occ_norm.specs.Root.{IsRoot}
use Rattle.occ_compare.proofs.from_meaning.Overlay.{over}

-- ---- states as lists and as values
pub values_state : (layout : List (Name × Width × ℕ)) (x : ℕ) → values (values_at layout x) ≡ state_of layout x
values_state [] x = refl
values_state (entry ∷ entries) x = ap (λ s. with_value s entry.0.0 (x / 2 ^ entry.2 % 2 ^ bits_of entry.1)) (values_state entries x)

pub listed_fits : (first : ℕ) (params : List (Name × Kind)) (x : ℕ) → is_state params (values_at (laid_out first params) x) ≡ true
listed_fits first [] x = refl
listed_fits first ((name, Var w) ∷ params) x =
    and_from _ _ (and_from _ _ (eq-eqb name.0 name.0 refl) (lt-ltb (x / 2 ^ first % 2 ^ bits_of w) (2 ^ bits_of w) (mod-lt (x / 2 ^ first) (pow_pos (bits_of w))))) (listed_fits (first + bits_of w) params x)
listed_fits first ((name, Chan w d) ∷ params) x = listed_fits first params x

pub all_within : (X : EventSet) (t : Trace) → AreWithin X t → list_all X t ≡ true
all_within X [] h = refl
all_within X (e ∷ t) h = and_from _ _ h.0 (all_within X t h.1)

-- ---- one program
module _ (w : World) (params : List (Name × Kind)) (scope : scope_kept params ≡ true) (few : bits_of_scope params ≤ 16) where
  abbrev pub layout : List (Name × Width × ℕ)
  layout = laid_out 0 params

  pub frame : IsFrame params (laid_out 0 params) (bits_of_scope params)
  frame = record { scope = scope; few = omega (arith, few); bits_are = refl; layout_is = refl }

  pub widths : (y : ℕ) → variable_width (environment params) y ≡ variable_width (environment_in (laid_out 0 params)) y
  widths y = sym (laid_width 0 params y scope)

  pub state_is : (x : ℕ) → IsState (environment params) (state_of (laid_out 0 params) x)
  state_is x = state_fits (laid_out 0 params) (environment params) (λ y v e. widths y ∙ e) x

  pub low : (x : ℕ) → AgreeBelow (bits_of_scope params) x (x % 2 ^ bits_of_scope params)
  low x k h = sym (low_bit x (bits_of_scope params) k h)

  pub low_state : (x : ℕ) → state_of (laid_out 0 params) x ≡ state_of (laid_out 0 params) (x % 2 ^ bits_of_scope params)
  low_state x = state_below params (laid_out 0 params) (bits_of_scope params) frame x (x % 2 ^ bits_of_scope params) (low x)

  pub low_lt : (x : ℕ) → x % 2 ^ bits_of_scope params < 2 ^ 64
  low_lt x = pow_more (bits_of_scope params) 64 (x % 2 ^ bits_of_scope params) (omega (arith, few)) (mod-lt x (pow_pos (bits_of_scope params)))

  -- the values of a state, and 0 elsewhere, are those of an assignment
  pub value_there : (s : Values) → IsState (environment params) s → (y : ℕ) (o : Option (Width × ℕ)) → entry_of (laid_out 0 params) y ≡ o
      → over (environment params) (λ z. 0) s y ≡ state_of (laid_out 0 params) (assignment_of (laid_out 0 params) s) y
  value_there s state y (Some (v, g)) e =
      let width : variable_width (environment params) y ≡ Some v = widths y ∙ found_width (laid_out 0 params) y v g e in
      ap (λ k. cond (is_some k) (s y) 0) width
      ∙ sym ((are_states (laid_out 0 params) (layout_of params scope (omega (arith, few)))).back s (λ z u h. state z u (widths z ∙ h)) y v (found_width (laid_out 0 params) y v g e))
  value_there s state y None e =
      ap (λ k. cond (is_some k) (s y) 0) (widths y ∙ missing (laid_out 0 params) y e) ∙ sym (zero_off (laid_out 0 params) (assignment_of (laid_out 0 params) s) y e)

  pub settled : (s : Values) → IsState (environment params) s → over (environment params) (λ z. 0) s ≡ state_of (laid_out 0 params) (assignment_of (laid_out 0 params) s)
  settled s state = fun_ext (λ y. value_there s state y (entry_of (laid_out 0 params) y) refl)

  pub assignment_lt : (s : Values) → IsState (environment params) s → assignment_of (laid_out 0 params) s < 2 ^ 64
  assignment_lt s state =
      let all = are_states (laid_out 0 params) (layout_of params scope (omega (arith, few))) in
      pow_more (bits_of_scope (scope_in (laid_out 0 params))) 64 (assignment_of (laid_out 0 params) s)
      (subst (λ m. m ≤ 64) (sym (laid_bits 0 params)) (omega (arith, few))) (all.small s (λ z u h. state z u (widths z ∙ h)))

  pub put_back : (s : Values) → over (environment params) s (over (environment params) (λ z. 0) s) ≡ s
  put_back s = fun_ext (λ y. at (is_some (variable_width (environment params) y)) (s y))
    where
      at : (b : Bool) (v : ℕ) → cond b (cond b v 0) v ≡ v
      at true v = refl
      at false v = refl

  module _ (p : Tree) (types : types_kept p (environment params) ≡ true) (states : MapId) (root : IsRoot w params p states) where
    pub trace_within : (x : ℕ) (a : NodeId) → x < 2 ^ 64 → value w.maps states x ≡ Some a → (t : List Event) → HasTrace w a t → list_all (in_interface (environment params)) t ≡ true
    trace_within x a h at t (inl f) = all_within (in_interface (environment params)) t
        (part_in_interface (environment params) p types (state_of (laid_out 0 params) x) t (refusing (λ e. false)) (state_is x) ((root.root_fails x a h at t (λ e. false)).0 f))
    trace_within x a h at t (inr k) = all_within (in_interface (environment params)) t
        (part_in_interface (environment params) p types (state_of (laid_out 0 params) x) t (ended (state_of (laid_out 0 params) k.0)) (state_is x) ((root.root_ends x a h at t k.0 k.1).0 k.2))

    pub other_bits : (x : ℕ) (a : NodeId) → x < 2 ^ 64 → value w.maps states x ≡ Some a → (t : List Event) (z : ℕ) → z < 2 ^ 64 → ends w a t z ≡ ends w a t (z % 2 ^ bits_of_scope params)
    other_bits x a h at t z hz =
        let m = z % 2 ^ bits_of_scope params in
        same_truth (ends w a t z) (ends w a t m)
        (λ k. (root.root_ends x a h at t m (low_lt z)).1 (subst (part_ends (environment params) p (state_of (laid_out 0 params) x) t) (low_state z) ((root.root_ends x a h at t z hz).0 k)))
        (λ k. (root.root_ends x a h at t z hz).1 (subst (part_ends (environment params) p (state_of (laid_out 0 params) x) t) (sym (low_state z)) ((root.root_ends x a h at t m (low_lt z)).0 k)))

    pub of_interface : IsOfInterface w (record { params = params; states = states })
    of_interface = record {
      scope = scope;
      map = λ x h. root.over.same x (x % 2 ^ bits_of_scope params) h (low_lt x) (low x);
      nodes = λ x a h at. record { bits = λ t z hz. other_bits x a h at t z hz; events = λ t k. trace_within x a h at t k };
    }

    pub is_there : (o : Option NodeId) (m : NodeId) → o ≡ Some m → IsNode w m → IsSomeAnd o (IsNode w)
    is_there o m e h = subst (λ k. IsSomeAnd k (IsNode w)) (sym e) h

    pub all_nodes : HasAllNodes w states
    all_nodes = record { known = root.over.has.known; nodes = λ x h. let k = root.over.has.nodes x h in is_there (value w.maps states x) k.0 k.1 k.2 }

    -- ---- what a node does, as what the program does
    pub stands_out : (b : Behaviour) (x : ℕ) (a : NodeId) → x < 2 ^ 64 → b.state ≡ state_at params x → value w.maps states x ≡ Some a → (last : Last) → Stands w params a b.trace last → StandsIn params p b last
    stands_out b x a h e at (Refuses events) s =
        subst (λ v. part_fails (environment params) p v b.trace (among events)) (sym (ap values e ∙ values_state (laid_out 0 params) x)) ((root.root_fails x a h at b.trace (among events)).0 s)
    stands_out b x a h e at (Ends state) s = (
      ap (is_state params) s.2 ∙ listed_fits 0 params s.0,
      subst (λ v. part_ends (environment params) p v b.trace (values state)) (sym (ap values e ∙ values_state (laid_out 0 params) x))
          (subst (λ v. part_ends (environment params) p (state_of (laid_out 0 params) x) b.trace v) (sym (ap values s.2 ∙ values_state (laid_out 0 params) s.0)) ((root.root_ends x a h at b.trace s.0 s.1).0 s.3)),
    )

    -- and back, where the last state is that of an assignment
    abbrev pub IsPlaced : Last → Type 0
    IsPlaced (Refuses events) = Unit {0}
    IsPlaced (Ends state) = (z : ℕ) × (z < 2 ^ 64) × (state ≡ state_at params z)

    pub stands_in : (b : Behaviour) (x : ℕ) (a : NodeId) → x < 2 ^ 64 → b.state ≡ state_at params x → value w.maps states x ≡ Some a → (last : Last) → IsPlaced last → StandsIn params p b last → Stands w params a b.trace last
    stands_in b x a h e at (Refuses events) k s =
        (root.root_fails x a h at b.trace (among events)).1 (subst (λ v. part_fails (environment params) p v b.trace (among events)) (ap values e ∙ values_state (laid_out 0 params) x) s)
    stands_in b x a h e at (Ends state) k s = (
      k.0,
      k.1,
      k.2,
      (root.root_ends x a h at b.trace k.0 k.1).1
          (subst (λ v. part_ends (environment params) p (state_of (laid_out 0 params) x) b.trace v) (ap values k.2 ∙ values_state (laid_out 0 params) k.0)
          (subst (λ v. part_ends (environment params) p v b.trace (values state)) (ap values e ∙ values_state (laid_out 0 params) x) s.1)),
    )

-- ---- as the world grows
pub root-extends : (v w : World) → Extends v w → (params : List (Name × Kind)) (p : Tree) (states : MapId) → IsRoot v params p states → IsRoot w params p states
root-extends v w k params p states root = record {
  over = over-extends v w k (bits_of_scope params) states root.over;
  root_fails = λ x a h e t X.
      let was = value_was v w k states root.over.has x (Some a) e in
      let same_at = k.grows.same_fails a t X (map_node v states root.over.has x h a was) in
      (λ f. (root.root_fails x a h was t X).0 (sym same_at ∙ f), λ d. same_at ∙ (root.root_fails x a h was t X).1 d);
  root_ends = λ x a h e t z b.
      let was = value_was v w k states root.over.has x (Some a) e in
      let same_at = k.grows.same_ends a t z (map_node v states root.over.has x h a was) in
      (λ f. (root.root_ends x a h was t z b).0 (sym same_at ∙ f), λ d. same_at ∙ (root.root_ends x a h was t z b).1 d);
}
