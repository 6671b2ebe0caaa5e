-- Programs that mean the same have no behaviour of the interface that only one has; and two mean the same exactly where each refines the
-- other.
use Rattle.std.proofs.Common.{◌≡◌, ◌<◌, ◌^◌, ◌==◌, ◌&&◌, ◌↔◌, ℕ, Bool, true, false, nat_lt, cond, List, [], ◌∷◌, Option, Some, refl, sym, ◌∙◌, subst}
use Rattle.std.proofs.lemmas.Bool.{and_parts, eqb-true, ltb-true, false≢true}
use Rattle.std.proofs.lemmas.Option.{same_Some, none-some}
use Rattle.occ_syntax.specs.occ_base.declared.event.Dir.{Dir}
use Rattle.occ_syntax.specs.occ_base.declared.event.Event.{Event}
use Rattle.occ_syntax.specs.occ_base.declared.names.Name.{Name}
use Rattle.occ_syntax.specs.occ_base.declared.width.Width.{Width}
use Rattle.occ_syntax.specs.occ_base.Width.{bits_of}
use Rattle.occ_syntax.specs.declared.scope.Kind.{Kind}
use Rattle.occ_syntax.specs.declared.scope.Kind.TheVariants.{Var, Chan}
use Rattle.occ_syntax.specs.Same.{SAME}
use Rattle.occ_syntax.specs.Scopes.{IsState, IsWithin as IsInScope, among, allows, environment, in_interface, in_scope, values, variable_kind, variable_width}
use Rattle.occ_syntax.specs.Tree.{Tree}
use Rattle.occ_norm.specs.occ_behaviour.declared.behaviour.Behaviour.{Behaviour}
use Rattle.occ_norm.specs.occ_behaviour.declared.behaviour.Last.{Last}
use Rattle.occ_norm.specs.occ_behaviour.declared.behaviour.Last.TheVariants.{Refuses, Ends}
use Rattle.occ_norm.specs.occ_behaviour.declared.behaviour.Side.TheVariants.{First, Second}
use Rattle.occ_norm.specs.occ_behaviour.declared.behaviour.Verdict.{Verdict}
use Rattle.occ_norm.specs.occ_behaviour.declared.behaviour.Verdict.TheVariants.{Same, Differ}
use Rattle.occ_norm.specs.occ_behaviour.Members.{IsOnlyOf, Stands}
use Rattle.occ_norm.specs.occ_behaviour.States.{is_state}
use Rattle.occ_norm.proofs.from_accept.Events.{cmp_total, event_exact}
use Rattle.occ_norm.proofs.from_accept.Strict.{all_at}
use Rattle.occ_norm.proofs.from_compare.Walking.{among_is}
use Rattle.occ_norm.specs.occ_compare.declared.refined.Refined.{Refined}
use Rattle.occ_norm.specs.occ_compare.declared.refined.Refined.TheVariants.{Yes, No}
use Rattle.occ_norm.specs.occ_compare.Programs.{behaviours_of, AreEvents, LastIsWithin, IsOfInterface, IsDifference, Refines, IsRefinement}
use Rattle.occ_norm.proofs.from_compare.Differences.{difference_excess}
use Rattle.occ_norm.proofs.from_compare.One.{excess_more}
use Rattle.occ_refine.specs.Verdict.{IsFirst, IsVerdictOf}

-- ---- states
-- a state of the interface gives each variable a value of its width
abbrev FitsAt : List (Name × Kind) → List (Name × ℕ) → ℕ → Width → Type 0
FitsAt ps s x width = variable_width (environment ps) x ≡ Some width → values s x < 2 ^ bits_of width

past_channel : (ps : List (Name × Kind)) (s : List (Name × ℕ)) (w : Width) (d : Option Dir) (x : ℕ) (width : Width) (b : Bool)
    → FitsAt ps s x width → variable_kind (cond b (Some (Chan w d)) (environment ps x)) ≡ Some width → values s x < 2 ^ bits_of width
past_channel ps s w d x width true again k = absurd (none-some width k)
past_channel ps s w d x width false again k = again k

past_variable : (ps : List (Name × Kind)) (vs : List (Name × ℕ)) (w : Width) (v x : ℕ) (width : Width) (b : Bool) → v < 2 ^ bits_of w
    → FitsAt ps vs x width → variable_kind (cond b (Some (Var w)) (environment ps x)) ≡ Some width → cond b v (values vs x) < 2 ^ bits_of width
past_variable ps vs w v x width true small again k = subst (λ u. v < 2 ^ bits_of u) (same_Some w width k) small
past_variable ps vs w v x width false small again k = again k

states_are : (ps : List (Name × Kind)) (s : List (Name × ℕ)) → is_state ps s ≡ true → (x : ℕ) (width : Width) → FitsAt ps s x width
states_are [] s h x width e = absurd (none-some width e)
states_are ((n, Chan w d) ∷ ps) s h x width e = past_channel ps s w d x width (x == n.0) (states_are ps s h x width) e
states_are ((n, Var w) ∷ ps) [] h x width e = absurd (false≢true h)
states_are ((n, Var w) ∷ ps) (v ∷ vs) h x width e =
    let p = and_parts (v.0.0 == n.0 && nat_lt v.1 (2 ^ bits_of w)) (is_state ps vs) h in
    let q = and_parts (v.0.0 == n.0) (nat_lt v.1 (2 ^ bits_of w)) p.0 in
    subst (λ m. cond (x == m) v.1 (values vs x) < 2 ^ bits_of width) (sym (eqb-true v.0.0 n.0 q.0))
    (past_variable ps vs w v.1 x width (x == n.0) (ltb-true v.1 (2 ^ bits_of w) q.1) (states_are ps vs p.1 x width) e)

module _ (ps : List (Name × Kind)) where
  pub turned_same : (p q : Tree) → SAME (environment ps) p q → SAME (environment ps) q p
  turned_same p q h = record {
    same_failures = λ s t X state within. let both = h.same_failures s t X state within in (both.1, both.0);
    same_ends = λ s t u state. let both = h.same_ends s t u state in (both.1, both.0);
  }

  events_in_scope : (events : List Event) → AreEvents ps events → IsInScope (environment ps) (among events)
  events_in_scope events all e h =
      let inside = all_at cmp_total event_exact (in_interface (environment ps)) events e all (sym (among_is events e) ∙ h) in
      (and_parts (in_scope (environment ps) e) (allows (environment ps e.chan.0) e.dir) inside).0

  -- programs that mean the same have no behaviour of the interface that only one has
  pub no_other : (p q : Tree) (b : Behaviour) → SAME (environment ps) p q → IsOfInterface ps b → IsOnlyOf ps p q b → ⊥
  no_other p q b same within only = only.no_member (record { state = within.state; stands = over b.last within.last only.member.stands })
    where
      state : IsState (environment ps) (values b.state)
      state = states_are ps b.state within.state

      over : (last : Last) → LastIsWithin ps last → Stands ps p b last → Stands ps q b last
      over (Refuses events) h k = (same.same_failures (values b.state) b.trace (among events) state (events_in_scope events h)).0 k
      over (Ends s) h k = (k.0, (same.same_ends (values b.state) b.trace (values s) state).0 k.1)

  -- so the verdict on these is Same
  pub same_from : (p q : Tree) (v : Verdict) → IsFirst ps p q v → SAME (environment ps) p q → v ≡ Same
  same_from p q Same h same = refl
  same_from p q (Differ b First) h same = absurd (no_other p q b same h.within h.only)
  same_from p q (Differ b Second) h same = absurd (no_other q p b (turned_same p q same) h.within h.only)

  -- ---- both ways
  -- where all that p does q does, nothing tells them apart for p
  no_difference : (p q : Tree) (b : Behaviour) → Refines ps q p → IsDifference ps p q b → ⊥
  no_difference p q b refines h = excess_more ps b.trace b.last (behaviours_of ps q b.state) (behaviours_of ps p b.state)
      (difference_excess ps b.trace b.last (behaviours_of ps p b.state) (behaviours_of ps q b.state) h.first)
      (refines b.state h.within.state)

  same_both : (p q : Tree) (v : Verdict) → IsFirst ps p q v → Refines ps p q → Refines ps q p → v ≡ Same
  same_both p q Same h there back = refl
  same_both p q (Differ b First) h there back = absurd (no_difference p q b back h)
  same_both p q (Differ b Second) h there back = absurd (no_difference q p b there h)

  yes_from : (p q : Tree) (x : Refined) → SAME (environment ps) p q → IsRefinement ps p q x → x ≡ Yes
  yes_from p q Yes same h = refl
  yes_from p q (No b) same h = absurd (no_other q p b (turned_same p q same) h.within h.only)

  refines_by : (p q : Tree) (x : Refined) → x ≡ Yes → IsRefinement ps p q x → Refines ps p q
  refines_by p q x e h = subst (λ (r : Refined). IsRefinement ps p q r) e h

  pub refined_both_ways : (p q : Tree) (x y : Refined) (v : Verdict) → IsVerdictOf ps p q v → IsRefinement ps p q x
      → IsRefinement ps q p y → ((x ≡ Yes) × (y ≡ Yes)) ↔ (v ≡ Same)
  refined_both_ways p q x y v h k l = (
    λ e. same_both p q v h.first (refines_by p q x e.0 k) (refines_by q p y e.1 l),
    λ e. let same = h.same.0 e in (yes_from p q x same k, yes_from q p y (turned_same p q same) l),
  )
