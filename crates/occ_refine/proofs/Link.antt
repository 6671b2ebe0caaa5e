-- From the roots of two programs to the programs.
use Rattle.std.proofs.Common.{◌≡◌, ◌<◌, ◌≤◌, ◌^◌, ◌↔◌, ℕ, Bool, true, false, cond, List, [], ◌∷◌, Option, Some, None, is_some, Result, Ok, Err, IfOk, refl, sym, ap, ◌∙◌, subst, arith}
use mathlib.Core.Path.{fun_ext}
use Rattle.occ_syntax.specs.occ_base.declared.event.Event.{Event}
use Rattle.occ_syntax.specs.occ_base.declared.names.Name.{Name}
use Rattle.occ_syntax.specs.occ_base.declared.width.Width.{Width}
use Rattle.occ_syntax.specs.declared.scope.Kind.{Kind}
use Rattle.occ_syntax.specs.Counts.{bits_of_scope}
use Rattle.occ_syntax.specs.Meaning.{ended, refusing, fails as part_fails, ends as part_ends}
use Rattle.occ_syntax.specs.Same.{SAME}
use Rattle.occ_syntax.specs.Scopes.{EventSet, IsState, Trace, Values, environment, values, variable_width}
use Rattle.occ_syntax.specs.Tree.{Tree}
use Rattle.occ_syntax.specs.Types.{scope_kept, types_kept}
use Rattle.occ_norm.proofs.from_meaning.Frame.{written_in_scope}
use Rattle.occ_norm.proofs.from_meaning.Frame.{part_value}
use Rattle.occ_norm.proofs.from_meaning.States.{part_states}
use Rattle.occ_norm.specs.occ_bits.Layout.{assignment_of, laid_out, state_of}
use Rattle.occ_norm.specs.occ_mdd.Maps.{value}
use Rattle.occ_norm.specs.occ_mdd.declared.map.MapId.{MapId}
use Rattle.occ_norm.specs.occ_node.World.{ends}
use Rattle.occ_norm.specs.occ_node.declared.node.NodeId.{NodeId}
use Rattle.occ_norm.specs.occ_node.declared.root.Root.{Root}
use Rattle.occ_norm.specs.occ_node.declared.world.World.{World}
use Rattle.occ_norm.specs.occ_behaviour.declared.behaviour.Behaviour.{Behaviour}
use Rattle.occ_norm.specs.occ_behaviour.declared.behaviour.Last.{Last}
use Rattle.occ_norm.specs.occ_behaviour.declared.behaviour.Last.TheVariants.{Refuses, Ends}
use Rattle.occ_norm.specs.occ_behaviour.declared.behaviour.Side.{Side}
use Rattle.occ_norm.specs.occ_behaviour.declared.behaviour.Side.TheVariants.{First, Second}
use Rattle.occ_norm.specs.occ_behaviour.declared.behaviour.Verdict.{Verdict}
use Rattle.occ_norm.specs.occ_behaviour.declared.behaviour.Verdict.TheVariants.{Same, Differ}
use Rattle.occ_norm.specs.occ_behaviour.Members.{IsRight}
use Rattle.occ_norm.specs.occ_behaviour.States.{is_state}
use Rattle.occ_norm.specs.occ_compare.Interface.{AreComparable, IsOfInterface}
use Rattle.occ_norm.specs.occ_compare.Places.{state_at}
use Rattle.occ_syntax.specs.occ_base.declared.memory.Memory.{Memory}
use Rattle.occ_norm.specs.occ_compare.Verdicts.{BelongsToOne, IsFirst as IsRowFirst, IsMember, IsPrintable, MeanTheSame, Stands}
use Rattle.occ_norm.specs.occ_compare.Walk.{IsFirstDifference as IsRowDifference}
use Rattle.occ_norm.proofs.from_compare.Found.{node_at}
use Rattle.occ_norm.specs.occ_compare.Difference.{IsFirstDifference}
use Rattle.occ_refine.specs.Nodes.{behaviours_at}
use Rattle.occ_norm.proofs.from_norm_frame.FrameBits.{pow_more}
use Rattle.occ_norm.specs.Root.{IsRoot}
use Rattle.occ_refine.specs.Verdict.{IsFirst, IsVerdictOf}
use Rattle.occ_refine.proofs.Both.{same_from}
use Rattle.occ_refine.proofs.Outside.{difference_of}
use Rattle.occ_refine.proofs.Walked.{walk_is, turned_walk}
use Rattle.occ_norm.proofs.from_meaning.Overlay.{does_over, over}
use Rattle.occ_norm.proofs.Rooted.{listed_fits, state_is, settled, assignment_lt, put_back, of_interface, all_nodes, stands_out, IsPlaced, stands_in}

module _ (w : World) (params : List (Name × Kind)) (scope : scope_kept params ≡ true) (few : bits_of_scope params ≤ 16) where
  -- ---- two programs
  module _ (p q : Tree) (hp : types_kept p (environment params) ≡ true) (hq : types_kept q (environment params) ≡ true) (one two : MapId) (first : IsRoot w params p one) (second : IsRoot w params q two)
      (same_nodes : MeanTheSame w one two) where
    fails_too : (s : Values) (t : Trace) (X : EventSet) → IsState (environment params) s → part_fails (environment params) p s t X
        → part_fails (environment params) q s t X
    fails_too s t X state d =
        let x = assignment_of (laid_out 0 params) s in
        let h = assignment_lt w params scope few s state in
        let m = first.over.has.nodes x h in
        let n = second.over.has.nodes x h in
        let here = subst (λ v. part_fails (environment params) p v t X) (settled w params scope few s state) (does_over (environment params) p hp (λ z. 0) s t (refusing X) d) in
        let there = (second.root_fails x n.0 h n.1 t X).0 (sym ((same_nodes x m.0 n.0 h m.1 n.1).same_fails t X) ∙ (first.root_fails x m.0 h m.1 t X).1 here) in
        subst (λ v. part_fails (environment params) q v t X) (ap (over (environment params) s) (sym (settled w params scope few s state)) ∙ put_back w params scope few s)
        (does_over (environment params) q hq s (state_of (laid_out 0 params) x) t (refusing X) there)

    kept_value : (s s' : Values) (t : Trace) → part_ends (environment params) p s t s'
        → over (environment params) s (over (environment params) (λ z. 0) s') ≡ s'
    kept_value s s' t d = fun_ext (λ y. at y (variable_width (environment params) y) refl)
      where
        at : (y : ℕ) (o : Option Width) → variable_width (environment params) y ≡ o
            → cond (is_some (variable_width (environment params) y)) (cond (is_some (variable_width (environment params) y)) (s' y) 0) (s y) ≡ s' y
        at y (Some v) e = ap (λ k. cond (is_some k) (cond (is_some k) (s' y) 0) (s y)) e
        at y None e = ap (λ k. cond (is_some k) (cond (is_some k) (s' y) 0) (s y)) e
            ∙ sym ((part_value p (environment params) hp y (written_in_scope p (environment params) hp y e)).value (environment params) s t s' d)

    ends_too : (s : Values) (t : Trace) (s' : Values) → IsState (environment params) s → part_ends (environment params) p s t s'
        → part_ends (environment params) q s t s'
    ends_too s t s' state d =
        let state' = (part_states p (environment params) hp).state s t s' state d in
        let x = assignment_of (laid_out 0 params) s in
        let z = assignment_of (laid_out 0 params) s' in
        let h = assignment_lt w params scope few s state in
        let hz = assignment_lt w params scope few s' state' in
        let m = first.over.has.nodes x h in
        let n = second.over.has.nodes x h in
        let here = subst (λ v. part_ends (environment params) p (state_of (laid_out 0 params) x) t v) (settled w params scope few s' state')
        (subst (λ v. part_ends (environment params) p v t (over (environment params) (λ y. 0) s')) (settled w params scope few s state) (does_over (environment params) p hp (λ y. 0) s t (ended s') d)) in
        let there = (second.root_ends x n.0 h n.1 t z hz).0 (sym ((same_nodes x m.0 n.0 h m.1 n.1).same_ends t z hz) ∙ (first.root_ends x m.0 h m.1 t z hz).1 here) in
        let back = does_over (environment params) q hq s (state_of (laid_out 0 params) x) t (ended (state_of (laid_out 0 params) z)) there in
        subst (λ v. part_ends (environment params) q s t v) (ap (over (environment params) s) (sym (settled w params scope few s' state')) ∙ kept_value s s' t d)
        (subst (λ v. part_ends (environment params) q v t (over (environment params) s (state_of (laid_out 0 params) z))) (ap (over (environment params) s) (sym (settled w params scope few s state)) ∙ put_back w params scope few s) back)

-- ---- the verdict
turned_over : (w : World) (a b : MapId) → MeanTheSame w a b → MeanTheSame w b a
turned_over w a b h x m n l e f = let k = h x n m l f e in record { same_fails = λ t X. sym (k.same_fails t X); same_ends = λ t z hz. sym (k.same_ends t z hz) }

module _ (w : World) (params : List (Name × Kind)) (scope : scope_kept params ≡ true) (few : bits_of_scope params ≤ 16) (p q : Tree) (hp : types_kept p (environment params) ≡ true) (hq : types_kept q (environment params) ≡ true)
    (one two : MapId) (first : IsRoot w params p one) (second : IsRoot w params q two) where
  pub all_same : MeanTheSame w one two → SAME (environment params) p q
  all_same h = record {
    same_failures = λ s t X state within. (fails_too w params scope few p q hp hq one two first second h s t X state, fails_too w params scope few q p hq hp two one second first (turned_over w one two h) s t X state);
    same_ends = λ s t s' state. (ends_too w params scope few p q hp hq one two first second h s t s' state, ends_too w params scope few q p hq hp two one second first (turned_over w one two h) s t s' state);
  }

  placed_last : (a : NodeId) (t : List Event) (last : Last) → Stands w params a t last → IsPlaced w params scope few p hp one first last
  placed_last a t (Refuses events) s = tt
  placed_last a t (Ends state) s = (s.0, s.1, s.2)

  pub belongs : (b : Behaviour) (side : Side) → BelongsToOne w (record { params = params; states = one }) (record { params = params; states = two }) b side → IsRight params p q (Differ b side)
  belongs b First k =
      let h : k.start < 2 ^ 64 = pow_more (bits_of_scope params) 64 k.start (omega (arith, few)) k.begins.within in
      record {
        member = record {
          state = ap (is_state params) k.begins.state ∙ listed_fits 0 params k.start;
          stands = stands_out w params scope few p hp one first b k.start k.first h k.begins.state k.begins.first b.last k.member;
        };
        no_member = λ m. k.no_member (stands_in w params scope few q hq two second b k.start k.second h k.begins.state k.begins.second b.last (placed_last k.first b.trace b.last k.member) m.stands);
      }
  belongs b Second k =
      let h : k.start < 2 ^ 64 = pow_more (bits_of_scope params) 64 k.start (omega (arith, few)) k.begins.within in
      record {
        member = record {
          state = ap (is_state params) k.begins.state ∙ listed_fits 0 params k.start;
          stands = stands_out w params scope few q hq two second b k.start k.second h k.begins.state k.begins.second b.last k.member;
        };
        no_member = λ m. k.no_member (stands_in w params scope few p hp one first b k.start k.first h k.begins.state k.begins.first b.last (placed_last k.second b.trace b.last k.member) m.stands);
      }

  pub right : (verdict : Verdict) → (verdict ≡ Same → MeanTheSame w one two) → IsMember w (record { params = params; states = one }) (record { params = params; states = two }) verdict → IsRight params p q verdict
  right Same h k = all_same (h refl)
  right (Differ b side) h k = belongs b side k

  -- ---- the first difference
  small_start : (x : ℕ) → x < 2 ^ bits_of_scope params → x < 2 ^ 64
  small_start x h = pow_more (bits_of_scope params) 64 x (omega (arith, few)) h

  -- two rows that differ so at an assignment have that first difference as nodes
  walk_of : (r s : Tree) (hr : types_kept r (environment params) ≡ true) (hs : types_kept s (environment params) ≡ true) (a b : MapId)
      → IsRoot w params r a → IsRoot w params s b
      → (x : ℕ) (m n : NodeId) (t : Trace) (last : Last) → x < 2 ^ bits_of_scope params → value w.maps a x ≡ Some m
      → value w.maps b x ≡ Some n
      → IsRowDifference w params (state_at params) m n t last First
      → IsFirstDifference params (behaviours_at w params m) (behaviours_at w params n) t last
  walk_of r s hr hs a b ra rb x m n t last h hm hn walk =
      let k : x < 2 ^ 64 = small_start x h in
      walk_is w params (omega (arith, few)) scope t last m n
      (node_at w a x m (all_nodes w params scope few r hr a ra) k hm) (node_at w b x n (all_nodes w params scope few s hs b rb) k hn)
      ((of_interface w params scope few r hr a ra).nodes x m k hm) ((of_interface w params scope few s hs b rb).nodes x n k hn) walk

  pub first_of : (v : Verdict) → IsRowFirst w (record { params = params; states = one }) (record { params = params; states = two }) v → IsRight params p q v → IsFirst params p q v
  first_of Same h right = tt
  first_of (Differ b First) h right =
      difference_of w params (omega (arith, few)) p q one two first second
      (of_interface w params scope few p hp one first).nodes (of_interface w params scope few q hq two second).nodes
      b h.start h.first h.second h.begins.within h.begins.state h.begins.first h.begins.second h.before
      (walk_of p q hp hq one two first second h.start h.first h.second b.trace b.last h.begins.within h.begins.first h.begins.second h.walk) right
  first_of (Differ b Second) h right =
      difference_of w params (omega (arith, few)) q p two one second first
      (of_interface w params scope few q hq two second).nodes (of_interface w params scope few p hp one first).nodes
      b h.start h.second h.first h.begins.within h.begins.state h.begins.second h.begins.first (λ y k less. sym (h.before y k less))
      (walk_of q p hq hp two one second first h.start h.second h.first b.trace b.last h.begins.within h.begins.second h.begins.first
      (turned_walk w params (state_at params) b.trace b.last h.first h.second h.walk)) right

-- ---- what is decided
record_is : (a : Root) (params : List (Name × Kind)) → a.params ≡ params → a ≡ record { params = params; states = a.states }
record_is a params e = λ i. record { params = e i; states = a.states }

module _ (w : World) (params : List (Name × Kind)) (scope : scope_kept params ≡ true) (few : bits_of_scope params ≤ 16) (p q : Tree) (hp : types_kept p (environment params) ≡ true) (hq : types_kept q (environment params) ≡ true)
    (a b : Root) (ea : a.params ≡ params) (eb : b.params ≡ params) (first : IsRoot w params p a.states) (second : IsRoot w params q b.states) where
  pub comparable : AreComparable w a b
  comparable = record {
    params = ea ∙ sym eb;
    few = subst (λ ps. bits_of_scope ps ≤ 64) (sym ea) (omega (arith, few));
    first = all_nodes w params scope few p hp a.states first;
    second = all_nodes w params scope few q hq b.states second;
  }

  of_first : IsOfInterface w a
  of_first = subst (IsOfInterface w) (sym (record_is a params ea)) (of_interface w params scope few p hp a.states first)

  of_second : IsOfInterface w b
  of_second = subst (IsOfInterface w) (sym (record_is b params eb)) (of_interface w params scope few q hq b.states second)

  pub decided : (r : Result Verdict Memory) → IfOk r (λ v. (v ≡ Same) ↔ MeanTheSame w a.states b.states)
      → IfOk r (λ v. IsOfInterface w a → IsOfInterface w b → IsMember w a b v) → IfOk r (IsRight params p q)
  decided (Ok v) means member =
      right w params scope few p q hp hq a.states b.states first second v means.0
      (subst (λ x. IsMember w x (record { params = params; states = b.states }) v) (record_is a params ea) (subst (λ y. IsMember w a y v) (record_is b params eb) (member of_first of_second)))
  decided (Err m) means member = tt

  pub named : (r : Result Verdict Memory) → IfOk r (λ v. IsOfInterface w a → IsOfInterface w b → IsPrintable a.params v)
      → IfOk r (IsPrintable params)
  named (Ok v) printable = subst (λ ps. IsPrintable ps v) ea (printable of_first of_second)
  named (Err m) printable = tt

  pub placed : (r : Result Verdict Memory) → IfOk r (λ v. (v ≡ Same) ↔ MeanTheSame w a.states b.states)
      → IfOk r (λ v. IsOfInterface w a → IsOfInterface w b → IsMember w a b v)
      → IfOk r (λ v. IsOfInterface w a → IsOfInterface w b → IsRowFirst w a b v) → IfOk r (IsVerdictOf params p q)
  placed (Ok v) means member is =
      let right : IsRight params p q v = decided (Ok v) means member in
      let found = first_of w params scope few p q hp hq a.states b.states first second v
      (subst (λ x. IsRowFirst w x (record { params = params; states = b.states }) v) (record_is a params ea) (subst (λ y. IsRowFirst w a y v) (record_is b params eb) (is of_first of_second))) right in
      record { same = (λ e. subst (IsRight params p q) e right, same_from params p q v found); first = found }
  placed (Err m) means member is = tt
