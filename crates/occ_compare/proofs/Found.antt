-- What is found at two nodes says what the verdict on two roots says.
use Rattle.std.proofs.Common.{◌≡◌, ◌<◌, ◌≤◌, ◌%◌, ◌^◌, ℕ, List, Option, Some, None, IsSomeAnd, refl, sym, ap, ◌∙◌, subst, arith}
use Rattle.std.proofs.Math.Nat.{mod-lt, pow-le-pow_right}
use Rattle.std.proofs.lemmas.Nat.{pow_pos}
use Rattle.occ_syntax.specs.occ_base.declared.names.Name.{Name}
use Rattle.occ_syntax.specs.declared.scope.Kind.{Kind}
use Rattle.occ_syntax.specs.Counts.{bits_of_scope}
use Rattle.occ_behaviour.specs.declared.behaviour.Behaviour.{Behaviour}
use Rattle.occ_behaviour.specs.declared.behaviour.Side.{Side}
use Rattle.occ_behaviour.specs.declared.behaviour.Verdict.{Verdict}
use Rattle.occ_behaviour.specs.declared.behaviour.Verdict.TheVariants.{Same, Differ}
use Rattle.occ_node.specs.occ_mdd.Maps.{value}
use Rattle.occ_node.specs.occ_mdd.declared.map.MapId.{MapId}
use Rattle.occ_node.proofs.from_mdd.Values.{canonical_maps}
use Rattle.occ_node.specs.World.{IsNode}
use Rattle.occ_node.specs.declared.node.NodeId.{NodeId}
use Rattle.occ_node.specs.declared.root.Root.{Root}
use Rattle.occ_node.specs.declared.world.World.{World}
use Rattle.occ_node.proofs.Recovery.{canonical}
use Rattle.occ_compare.specs.Places.{state_at, byte_state}
use Rattle.occ_compare.specs.Interface.{HasNodes, AreComparable, IsWithin, IsOfInterface}
use Rattle.occ_compare.specs.Walk.{IsFirstDifference}
use Rattle.occ_compare.specs.Steps.{SameStarts, IsLeastStart, IsFound, IsWalked}
use Rattle.occ_compare.specs.Verdicts.{MeanTheSame, IsFirstOf, BelongsToOne, IsFirst, IsMember, IsPrintable}
use Rattle.occ_compare.proofs.Numbers.{bytes}
use Rattle.occ_compare.proofs.Walking.{only_of}
use Rattle.occ_compare.proofs.Naming.{behaviour_named}

node_there : (w : World) (o : Option NodeId) (m : NodeId) → o ≡ Some m → IsSomeAnd o (IsNode w) → IsNode w m
node_there w o m e h = subst (λ (p : Option NodeId). IsSomeAnd p (IsNode w)) e h

pub node_at : (w : World) (map : MapId) (x : ℕ) (m : NodeId) → HasNodes w map → x < 2 ^ 64 → value w.maps map x ≡ Some m → IsNode w m
node_at w map x m has h e = node_there w (value w.maps map x) m e (has.nodes x h)

some_there : (w : World) (o : Option NodeId) → IsSomeAnd o (IsNode w) → (m : NodeId) × (o ≡ Some m) × IsNode w m
some_there w (Some m) h = (m, refl, h)
some_there w None h = absurd h

pub small_start : (ps : List (Name × Kind)) (x : ℕ) → bits_of_scope ps ≤ 64 → x < 2 ^ bits_of_scope ps → x < 2 ^ 64
small_start ps x few h = let most : 2 ^ bits_of_scope ps ≤ 2 ^ 64 = pow-le-pow_right (omega arith) few in omega arith

module _ (w : World) (a b : Root) (roots : AreComparable w a b) where
  bits_b : bits_of_scope b.params ≡ bits_of_scope a.params
  bits_b = ap bits_of_scope (sym roots.params)

  -- roots that differ nowhere on the interface have one map
  pub one_map : SameStarts w a.params a.states b.states → IsOfInterface w a → IsOfInterface w b → a.states ≡ b.states
  one_map same ia ib = (canonical_maps w.maps).one a.states b.states roots.first.known roots.second.known (λ x h.
      ia.map x h ∙ same (x % 2 ^ bits_of_scope a.params) (mod-lt x (pow_pos (bits_of_scope a.params)))
      ∙ ap (λ n. value w.maps b.states (x % 2 ^ n)) (sym bits_b) ∙ sym (ib.map x h))

  -- one map, one meaning
  pub meant : MeanTheSame w a.states b.states → a.states ≡ b.states
  meant same = (canonical_maps w.maps).one a.states b.states roots.first.known roots.second.known (λ x h.
      let p = some_there w (value w.maps a.states x) (roots.first.nodes x h) in
      let q = some_there w (value w.maps b.states x) (roots.second.nodes x h) in
      let is = same x p.0 q.0 h p.1 q.1 in
      let one : p.0 ≡ q.0 = (canonical w).one p.0 q.0 p.2 q.2 is.same_fails is.same_ends in
      p.1 ∙ ap Some one ∙ sym q.1)

  within_b : (m : NodeId) → IsWithin w b.params m → IsWithin w a.params m
  within_b m = subst (λ (ps : List (Name × Kind)). IsWithin w ps m) (sym roots.params)

  module _ (x : ℕ) (m n : NodeId) (start : IsLeastStart w a.params a.states b.states x) (p : value w.maps a.states x ≡ Some m) (q : value w.maps b.states x ≡ Some n) where
    pub apart_nodes : m ≡ n → ⊥
    apart_nodes one = start.apart (p ∙ ap Some one ∙ sym q)

    -- the walk finds a difference
    pub walk_finds : IsWalked w a.params m n None → IsOfInterface w a → IsOfInterface w b → ⊥
    walk_finds none ia ib =
        let small : x < 2 ^ 64 = small_start a.params x roots.few start.within in
        apart_nodes (none (ia.nodes x m small p) (within_b n (ib.nodes x n small q)))

    -- which is the first one
    pub first_found : (behaviour : Behaviour) (only : Side) → behaviour.state ≡ byte_state a.params x → IsFirstDifference w a.params (byte_state a.params) m n behaviour.trace behaviour.last only
        → IsOfInterface w a → IsFirstOf w a b behaviour only
    first_found behaviour only state walk ia =
        let told : byte_state a.params ≡ state_at a.params = bytes a.params ia.scope in
        record {
          start = x;
          first = m;
          second = n;
          begins = record { within = start.within; state = state ∙ (λ i. told i x); first = p; second = q };
          apart = apart_nodes;
          before = start.before;
          walk = subst (λ (written : ℕ → List (Name × ℕ)). IsFirstDifference w a.params written m n behaviour.trace behaviour.last only) told walk;
        }

  -- it belongs to one root alone
  pub belongs : (behaviour : Behaviour) (only : Side) → IsFirstOf w a b behaviour only → IsOfInterface w a → IsOfInterface w b → BelongsToOne w a b behaviour only
  belongs behaviour only found ia ib =
      let small : found.start < 2 ^ 64 = small_start a.params found.start roots.few found.begins.within in
      let first : IsNode w found.first = node_at w a.states found.start found.first roots.first small found.begins.first in
      let second : IsNode w found.second = node_at w b.states found.start found.second roots.second small found.begins.second in
      let wa : IsWithin w a.params found.first = ia.nodes found.start found.first small found.begins.first in
      let wb : IsWithin w a.params found.second = within_b found.second (ib.nodes found.start found.second small found.begins.second) in
      let only_one = only_of w a.params roots.few behaviour.trace found.first found.second behaviour.last only first second wa wb found.walk in
      record { start = found.start; first = found.first; second = found.second; begins = found.begins; member = only_one.0; no_member = only_one.1 }

  pub is_member : (v : Verdict) → IsFirst w a b v → IsOfInterface w a → IsOfInterface w b → IsMember w a b v
  is_member Same found ia ib = tt
  is_member (Differ behaviour only) found ia ib = belongs behaviour only found ia ib

  pub is_printable : (v : Verdict) → IsFirst w a b v → IsOfInterface w a → IsOfInterface w b → IsPrintable a.params v
  is_printable Same found ia ib names all = tt
  is_printable (Differ behaviour only) found ia ib names all =
      let small : found.start < 2 ^ 64 = small_start a.params found.start roots.few found.begins.within in
      let first : IsNode w found.first = node_at w a.states found.start found.first roots.first small found.begins.first in
      let second : IsNode w found.second = node_at w b.states found.start found.second roots.second small found.begins.second in
      let wa : IsWithin w a.params found.first = ia.nodes found.start found.first small found.begins.first in
      let wb : IsWithin w a.params found.second = within_b found.second (ib.nodes found.start found.second small found.begins.second) in
      behaviour_named w a.params (state_at a.params) names behaviour found.first found.second only first second wa wb found.walk all

  -- of two maps
  pub is_found : (v : Verdict) → (v ≡ Same → ⊥) → (IsOfInterface w a → IsOfInterface w b → ⊥) → IsFound w a b v
  is_found v differs never = record { differs = differs; first = λ ia ib. absurd (never ia ib) }
