-- From the roots of two programs to the traces of the programs.
use Rattle.std.proofs.Common.{◌≡◌, ◌<◌, ◌≤◌, ◌^◌, ℕ, true, false, List, Some, Result, Ok, Err, IfOk, sym, ap, ◌∙◌, subst, inl, inr, ⊎_elim, arith}
use Rattle.std.specs.List.{list_all}
use Rattle.occ_syntax.specs.Counts.{bits_of_scope}
use Rattle.occ_syntax.specs.Scopes.{Trace, environment, in_interface}
use Rattle.occ_syntax.specs.Tree.{Tree}
use Rattle.occ_syntax.specs.occ_base.declared.memory.Memory.{Memory}
use Rattle.occ_syntax.specs.occ_base.declared.names.Name.{Name}
use Rattle.occ_syntax.specs.declared.scope.Kind.{Kind}
use Rattle.occ_refine.specs.occ_norm.Root.{IsRoot}
use Rattle.occ_refine.specs.occ_behaviour.States.{is_state, state_less}
use Rattle.occ_refine.specs.occ_behaviour.declared.behaviour.Behaviour.{Behaviour}
use Rattle.occ_refine.specs.occ_behaviour.declared.behaviour.Last.{Last}
use Rattle.occ_refine.specs.occ_behaviour.declared.behaviour.Last.TheVariants.{Refuses, Ends}
use Rattle.occ_refine.specs.occ_compare.Interface.{IsOfInterface as IsOfNamesAt, IsWithin as IsOfNames}
use Rattle.occ_refine.specs.occ_compare.Places.{state_at}
use Rattle.occ_refine.specs.occ_compare.Programs.{LastIsWithin, behaviours_of}
use Rattle.occ_refine.specs.occ_compare.Views.{AreAlike, Behaviours, HasTrace, Values}
use Rattle.occ_refine.specs.occ_compare.declared.refined.Refined.{Refined}
use Rattle.occ_refine.specs.occ_compare.declared.refined.Refined.TheVariants.{Yes, No}
use Rattle.occ_refine.specs.occ_mdd.Maps.{value}
use Rattle.occ_refine.specs.occ_mdd.declared.map.MapId.{MapId}
use Rattle.occ_refine.specs.occ_node.declared.node.NodeId.{NodeId}
use Rattle.occ_refine.specs.occ_node.declared.root.Root.{Root}
use Rattle.occ_refine.specs.occ_node.declared.world.World.{World}
use Rattle.occ_refine.proofs.from_norm.Rooted.{listed_fits}
use Rattle.occ_refine.proofs.from_compare.Alike.{turned}
use Rattle.occ_refine.proofs.from_compare.Found.{small_start}
use Rattle.occ_refine.specs.Nodes.{behaviours_at}
use Rattle.occ_refine.proofs.Outside.{alike, assignment_there}
use Rattle.occ_refine.proofs.Rooting.{has_events}
use Rattle.occ_traces.specs.Roots.{IsForeignOf, IsTraceAnswerOf, TracesAt}
use Rattle.occ_traces.specs.Traces.{IsFirstForeign, IsForeign, IsTraceAnswer, StandsFirstAfter, TracesWithin}

-- ---- alike processes have the same traces
pub over : (a b : Behaviours) → AreAlike a b → (t : Trace) → HasTrace a t → HasTrace b t
over a b same t = ⊎_elim
    (λ (h : a.fails t (λ e. false)). inl ((same.fails t (λ e. false)).0 h))
    (λ (h : (s : Values) × a.ends t s). inr (h.0, (same.ends t h.0).0 h.1))

back : (a b : Behaviours) → AreAlike a b → (t : Trace) → HasTrace b t → HasTrace a t
back a b same t h = over b a (turned a b same) t h

stands_over : (a b : Behaviours) → AreAlike a b → (t : Trace) (last : Last) → StandsFirstAfter a t last → StandsFirstAfter b t last
stands_over a b same t (Ends s) h = ((same.ends t s).0 h.0, λ u less k. h.1 u less ((same.ends t u).1 k))
stands_over a b same t (Refuses events) h = (h.0, λ s k. h.1 s ((same.ends t s).1 k))

module _ (w : World) (ps : List (Name × Kind)) (few : bits_of_scope ps ≤ 64) (p q : Tree) (one two : MapId) (first : IsRoot w ps p one) (second : IsRoot w ps q two)
    (names_two : (x : ℕ) (n : NodeId) → x < 2 ^ 64 → value w.maps two x ≡ Some n → IsOfNames w ps n) where
  traces_out : (x : ℕ) → x < 2 ^ bits_of_scope ps → TracesAt w ps one two x → TracesWithin (behaviours_of ps q (state_at ps x)) (behaviours_of ps p (state_at ps x))
  traces_out x h all t k =
      let m = first.over.has.nodes x (small_start ps x few h) in
      let n = second.over.has.nodes x (small_start ps x few h) in
      over (behaviours_at w ps m.0) (behaviours_of ps p (state_at ps x)) (alike w ps few p one first x m.0 h m.1) t
      (all m.0 n.0 m.1 n.1 t (back (behaviours_at w ps n.0) (behaviours_of ps q (state_at ps x)) (alike w ps few q two second x n.0 h n.1) t k))

  traces_from : (s : Values) → is_state ps s ≡ true → ((x : ℕ) → x < 2 ^ bits_of_scope ps → s ≡ state_at ps x → TracesAt w ps one two x)
      → TracesWithin (behaviours_of ps q s) (behaviours_of ps p s)
  traces_from s is all = let z = assignment_there ps s is in
      subst (λ (u : Values). TracesWithin (behaviours_of ps q u) (behaviours_of ps p u)) (sym z.2) (traces_out z.0 z.1 (all z.0 z.1 z.2))

  last_within : (s : Values) (t : Trace) (last : Last) → StandsFirstAfter (behaviours_of ps q s) t last → LastIsWithin ps last
  last_within s t (Refuses events) h = ap (list_all (in_interface (environment ps))) h.0
  last_within s t (Ends u) h = h.0.0

  foreign_of : (b : Behaviour) → IsForeignOf w ps one two b → IsForeign ps p q b
  foreign_of b found =
      let own = alike w ps few q two second found.start found.second found.within found.second_at in
      let other = alike w ps few p one first found.start found.first found.within found.first_at in
      let last = stands_over (behaviours_at w ps found.second) (behaviours_of ps q (state_at ps found.start)) own b.trace b.last found.last in
      record {
        within = record {
          state = ap (is_state ps) found.state ∙ listed_fits 0 ps found.start;
          trace = has_events w ps found.second few (names_two found.start found.second (small_start ps found.start few found.within) found.second_at) b.trace found.foreign.own;
          last = last_within (state_at ps found.start) b.trace b.last last;
        };
        before = λ s is less. traces_from s is (λ x h e. found.before x h
            (subst (λ (u : Values). state_less (state_at ps x) u ≡ true) found.state (subst (λ (u : Values). state_less u b.state ≡ true) e less)));
        first = subst (λ (s : Values). IsFirstForeign ps (behaviours_of ps p s) (behaviours_of ps q s) b.trace) (sym found.state) (record {
          own = over (behaviours_at w ps found.second) (behaviours_of ps q (state_at ps found.start)) own b.trace found.foreign.own;
          other = λ h. found.foreign.other (back (behaviours_at w ps found.first) (behaviours_of ps p (state_at ps found.start)) other b.trace h);
          first = λ u k l. found.foreign.first u (back (behaviours_at w ps found.second) (behaviours_of ps q (state_at ps found.start)) own u k)
              (λ h. l (over (behaviours_at w ps found.first) (behaviours_of ps p (state_at ps found.start)) other u h));
        });
        last = subst (λ (s : Values). StandsFirstAfter (behaviours_of ps q s) b.trace b.last) (sym found.state) last;
      }

  pub answer_of : (r : Refined) → IsTraceAnswerOf w ps one two r → IsTraceAnswer ps p q r
  answer_of Yes all = λ s is. traces_from s is (λ x h e. all x h)
  answer_of (No b) found = foreign_of b found

-- where the parameters of the roots are told apart
module _ (w : World) (ps : List (Name × Kind)) (few : bits_of_scope ps ≤ 16) (p q : Tree) (a b : Root) (ea : a.params ≡ ps) (eb : b.params ≡ ps)
    (first : IsRoot w ps p a.states) (second : IsRoot w ps q b.states) (ib : IsOfNamesAt w b) where
  pub answer_is : (r : Result Refined Memory) → IfOk r (IsTraceAnswerOf w a.params a.states b.states) → IfOk r (IsTraceAnswer ps p q)
  answer_is (Ok o) h = answer_of w ps (omega (arith, few)) p q a.states b.states first second
      (λ x n k at. subst (λ (qs : List (Name × Kind)). IsOfNames w qs n) eb (ib.nodes x n k at)) o
      (subst (λ (qs : List (Name × Kind)). IsTraceAnswerOf w qs a.states b.states o) ea h)
  answer_is (Err e) h = tt
