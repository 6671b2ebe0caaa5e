-- The map of a whole program, where what says changes is turned into final states.
use Rattle.std.proofs.Common.{◌≡◌, ◌<◌, ◌≤◌, ◌^◌, ◌+◌, ◌%◌, ◌↔◌, ℕ, Bool, true, List, [], ◌∷◌, Some, refl, sym, ap, ◌∙◌, subst, arith}
use Rattle.std.proofs.lemmas.Nat.{xor_lt}
use Rattle.std.proofs.lemmas.Nat.Bits.{bit_at-lt, bit_at_xor}
use Rattle.std.specs.Int.{bit_at}
use Rattle.std.specs.Int.Bits.{bit_and, bit_xor}
use Rattle.occ_syntax.specs.occ_base.declared.event.Event.{Event}
use Rattle.occ_syntax.specs.occ_base.declared.names.Name.{Name}
use Rattle.occ_syntax.specs.occ_base.declared.width.Width.{Width}
use Rattle.occ_compare.specs.occ_bits.Layout.{laid_out, state_of}
use Rattle.occ_syntax.specs.declared.scope.Kind.{Kind}
use Rattle.occ_syntax.specs.Meaning.{fails as part_fails, ends as part_ends}
use Rattle.occ_syntax.specs.Scopes.{environment}
use Rattle.occ_syntax.specs.Tree.{Tree}
use Rattle.occ_syntax.specs.Types.{types_kept}
use Rattle.occ_compare.specs.occ_mdd.Maps.{value}
use Rattle.occ_compare.specs.occ_mdd.declared.map.MapId.{MapId}
use Rattle.occ_compare.specs.occ_node.World.{fails, ends}
use Rattle.occ_compare.specs.occ_node.declared.node.NodeId.{NodeId}
use Rattle.occ_compare.specs.occ_node.declared.world.World.{World}
use Rattle.occ_norm_alt.specs.occ_follow.Sequence.{HasNodes}
use Rattle.occ_norm_alt.specs.occ_weave.Weave.{is_silent_on}
use Rattle.occ_norm_alt.specs.occ_norm_frame.After.{AgreeBelow, IsAfter}
use Rattle.occ_norm_alt.specs.occ_norm_frame.Alone.{IsEnding, IsPart}
use Rattle.occ_norm_alt.specs.occ_norm_frame.Changes.{IsChanged}
use Rattle.occ_norm_alt.specs.occ_norm_frame.Placed.{IsAround, IsFrame}
use Rattle.occ_norm_alt.proofs.from_norm_frame.Alone.{alone_from, and_below}
use Rattle.occ_norm.specs.Parts.{IsAfterIn}
use Rattle.occ_compare.proofs.from_node.Recovery.{canonical}
use Rattle.occ_norm_alt.proofs.from_norm_frame.After.{map_node, same_truth, state_below}
use Rattle.occ_norm.specs.Root.{IsRoot}

-- ---- without closed channels
open_trace : (t : List Event) → is_silent_on [] t ≡ true
open_trace [] = refl
open_trace (e ∷ t) = open_trace t

-- a bit that says a change, once it is turned by the beginning, is the bit that is reached
told : (z c y : ℕ) → z < 2 → c < 2 → y < 2 → (z + c) % 2 ≡ (c + y) % 2 → y ≡ z
told z c y hz hc hy h = omega (arith, hz, hc, hy, h)

module _ (w : World) (params : List (Name × Kind)) (n all keep : ℕ) (p : Tree) (changes states : MapId) (frame : IsFrame params (laid_out 0 params) n)
    (whole : (k : ℕ) → k < n → bit_at all k ≡ 1) (small : n ≤ 24) (has : HasNodes w changes) (nodes : HasNodes w states)
    (part : IsPart w (laid_out 0 params) all keep [] (environment params) p changes) (turned : IsChanged w (λ x. bit_and x keep) changes states) where
  fails_here : (x : ℕ) (a : NodeId) → x < 2 ^ 64 → value w.maps states x ≡ Some a → (t : List Event) (X : Event → Bool) → (fails w a t X ≡ true) ↔ part_fails (environment params) p (state_of (laid_out 0 params) x) t X
  fails_here x a h e t X =
      let c = has.nodes x h in
      let same_at = (turned.changed x c.0 a h c.1 e).turned.same_fail t X in
      let iff = part.alone_fails x c.0 h c.1 t X in (
        λ f. (iff.0 (sym same_at ∙ f)).1,
        λ d. same_at ∙ iff.1 (open_trace t, d),
      )

  ends_here : (x : ℕ) (a : NodeId) → x < 2 ^ 64 → value w.maps states x ≡ Some a → (t : List Event) (z : ℕ) → z < 2 ^ 64
      → (ends w a t z ≡ true) ↔ part_ends (environment params) p (state_of (laid_out 0 params) x) t (state_of (laid_out 0 params) z)
  ends_here x a h e t z hz =
      let c = has.nodes x h in
      let same_at = (turned.changed x c.0 a h c.1 e).turned.turned_end t z hz in
      let base : ℕ = bit_and x keep in
      let z' : ℕ = bit_xor z base in
      let hz' : z' < 2 ^ 64 = xor_lt 64 z base hz (and_below x keep h) in
      let iff = part.alone_ends x c.0 h c.1 t z' hz' in (
        λ f. let k = iff.0 (sym same_at ∙ f) in
            let agree : AgreeBelow n k.y z = λ b l. told (bit_at z b) (bit_at base b) (bit_at k.y b) (bit_at-lt z b) (bit_at-lt base b) (bit_at-lt k.y b)
            (sym (bit_at_xor z base b) ∙ k.changed b (omega (arith, l, small)) (whole b l)) in
            subst (part_ends (environment params) p (state_of (laid_out 0 params) x) t) (state_below params (laid_out 0 params) n frame k.y z agree) k.ended,
        λ d. same_at ∙ iff.1 (record {
          y = z;
          below = hz;
          silent = open_trace t;
          ended = d;
          changed = λ b l one. bit_at_xor z base b ∙ ap (λ m. m % 2) (add_comm (bit_at z b) (bit_at base b));
        }),
      )
    where
      add_comm : (a b : ℕ) → a + b ≡ b + a
      add_comm a b = omega arith

  one_node : (x y : ℕ) (a b : NodeId) → AgreeBelow n x y → x < 2 ^ 64 → y < 2 ^ 64 → value w.maps states x ≡ Some a → value w.maps states y ≡ Some b → a ≡ b
  one_node x y a b agree h l e f =
      let alike = state_below params (laid_out 0 params) n frame x y agree in
      (canonical w).one a b (map_node w states nodes x h a e) (map_node w states nodes y l b f)
      (λ t X. same_truth (fails w a t X) (fails w b t X)
      (λ k. (fails_here y b l f t X).1 (subst (λ s. part_fails (environment params) p s t X) alike ((fails_here x a h e t X).0 k)))
      (λ k. (fails_here x a h e t X).1 (subst (λ s. part_fails (environment params) p s t X) (sym alike) ((fails_here y b l f t X).0 k))))
      (λ t z hz. same_truth (ends w a t z) (ends w b t z)
      (λ k. (ends_here y b l f t z hz).1 (subst (λ s. part_ends (environment params) p s t (state_of (laid_out 0 params) z)) alike ((ends_here x a h e t z hz).0 k)))
      (λ k. (ends_here x a h e t z hz).1 (subst (λ s. part_ends (environment params) p s t (state_of (laid_out 0 params) z)) (sym alike) ((ends_here y b l f t z hz).0 k))))

  pub is_root : IsRoot w params p states
  is_root = record {
    over = record {
      has = nodes;
      same = λ x y h l agree.
          let low : AgreeBelow n x y = λ k m. agree k (let e = frame.bits_are in omega (arith, e, m)) in
          let a = nodes.nodes x h in
          let b = nodes.nodes y l in
          a.1 ∙ ap (λ (m : NodeId). Some m) (one_node x y a.0 b.0 low h l a.1 b.1) ∙ sym b.1;
    };
    root_fails = fails_here;
    root_ends = ends_here;
  }

around_itself : (params : List (Name × Kind)) → IsAround (environment params) params
around_itself params = record { same = λ y. refl; none = λ y h. h }

pub root_of : (w : World) (params vars : List (Name × Kind)) (layout : List (Name × Width × ℕ)) (n all keep : ℕ) (closed : List Name) (p : Tree) (ended changes states : MapId)
    → vars ≡ params → closed ≡ [] → IsFrame vars layout n → ((k : ℕ) → k < n → bit_at all k ≡ 1) → types_kept p (environment params) ≡ true
    → HasNodes w ended → IsEnding w all keep ended → HasNodes w changes → HasNodes w states → IsAfterIn w vars layout keep closed p ended changes → IsChanged w (λ x. bit_and x keep) changes states → IsRoot w params p states
root_of w params vars layout n all keep closed p ended changes states same_vars none frame whole types has_ended ending has nodes after turned =
    let laid : layout ≡ laid_out 0 params = frame.layout_is ∙ ap (laid_out 0) same_vars in
    let few : n ≤ 24 = let e = frame.bits_are in let h = frame.few in omega (arith, e, h) in
    let placed : IsFrame params (laid_out 0 params) n = subst (λ l. IsFrame params l n) laid (subst (λ vs. IsFrame vs layout n) same_vars frame) in
    let own : IsAfter w layout keep closed (environment params) p ended changes = after (environment params) (subst (IsAround (environment params)) (sym same_vars) (around_itself params)) types in
    let there : IsAfter w (laid_out 0 params) keep [] (environment params) p ended changes =
    subst (λ cs. IsAfter w (laid_out 0 params) keep cs (environment params) p ended changes) none (subst (λ l. IsAfter w l keep closed (environment params) p ended changes) laid own) in
    is_root w params n all keep p changes states placed whole few has nodes
    (alone_from w (laid_out 0 params) all keep [] (environment params) p ended changes has_ended ending there) turned
