-- A first difference of two rows is a first difference of what their nodes do.
use Rattle.std.proofs.Common.{◌≡◌, ◌⊎◌, ◌≤◌, ◌||◌, ◌&&◌, ℕ, true, not, List, [], ◌∷◌, Option, Some, None, is_some, refl, sym, ap, ◌∙◌, subst, inl, inr, ⊎_elim}
use Rattle.std.proofs.Math.Bool.{or_comm}
use Rattle.std.proofs.lemmas.Bool.{both_ways}
use Rattle.std.specs.Ordering.{is_lt}
use Rattle.occ_syntax.specs.occ_base.declared.event.Event.{Event}
use Rattle.occ_syntax.specs.occ_base.declared.names.Name.{Name}
use Rattle.occ_syntax.specs.declared.scope.Kind.{Kind}
use Rattle.occ_syntax.specs.Counts.{bits_of_scope}
use Rattle.occ_syntax.specs.Types.{scope_kept}
use Rattle.occ_norm.specs.occ_behaviour.declared.behaviour.Last.{Last}
use Rattle.occ_norm.specs.occ_behaviour.declared.behaviour.Last.TheVariants.{Refuses, Ends}
use Rattle.occ_norm.specs.occ_behaviour.declared.behaviour.Side.{Side}
use Rattle.occ_norm.specs.occ_behaviour.declared.behaviour.Side.TheVariants.{First, Second}
use Rattle.occ_norm.specs.occ_behaviour.States.{state_less}
use Rattle.occ_norm.specs.occ_dd.Store.{has}
use Rattle.occ_norm.specs.occ_accept.Order.{event_cmp, strict}
use Rattle.occ_norm.specs.occ_accept.Accept.{in_set, is_part}
use Rattle.occ_norm.proofs.from_accept.Strict.{same_strict, all_at, all_each, any_one}
use Rattle.occ_norm.proofs.from_accept.Events.{cmp_total, event_exact, sets_total, set_exact}
use Rattle.occ_norm.proofs.from_accept.Chains.{apart_same, part_at}
use Rattle.occ_norm.specs.occ_node.Offers.{next_in, is_offered}
use Rattle.occ_norm.specs.occ_node.World.{IsNode, row_of, fails}
use Rattle.occ_norm.specs.occ_node.declared.node.NodeId.{NodeId}
use Rattle.occ_norm.specs.occ_node.declared.world.World.{World}
use Rattle.occ_norm.proofs.from_node.Worlds.{is_row}
use Rattle.occ_norm.proofs.from_node.Behaviours.{ends_nil, child_node}
use Rattle.occ_norm.specs.occ_compare.Interface.{IsWithin as IsOfNames}
use Rattle.occ_norm.specs.occ_compare.Places.{state_at}
use Rattle.occ_norm.specs.occ_compare.Orders.{print_cmp, set_cmp, IsListOf, has_set}
use Rattle.occ_norm.specs.occ_compare.Walk.{SameEnds as SameRowEnds, SameSets, SameOffers as SameRowOffers, IsLeastEnd, IsLeastSet, IsRefusal, IsLeastSplit}
use Rattle.occ_norm.specs.occ_compare.Walk.{GoesAlone as GoesRowAlone, StopsAlone, IsFirstDifference as IsRowDifference}
use Rattle.occ_norm.proofs.from_compare.Numbers.{bytes}
use Rattle.occ_norm.proofs.from_compare.Printing.{part_before, one_set}
use Rattle.occ_norm.proofs.from_compare.Walking.{some_list, within_child}
use Rattle.occ_norm.specs.occ_compare.Views.{Values, after, AreAlike}
use Rattle.occ_norm.specs.occ_compare.Difference.{IsLeastOnly, SameEnds, SameAccepts, SameOffers, AcceptsList, GoesAlone, GoesOn, IsFirstDifference}
use Rattle.occ_norm.proofs.from_compare.Alike.{turned}
use Rattle.occ_norm.proofs.from_compare.Differences.{alike_itself, both_alike, difference_alike}
use Rattle.occ_refine.specs.Nodes.{behaviours_at}
use Rattle.occ_refine.specs.Rows.{is_met}
use Rattle.occ_refine.proofs.Bridge.{behind, nothing_behind, one_assignment, stands_first, offers_out, offers_in, refusal, met_accepts, part_met, earlier_part}

-- ---- the other side
module _ (w : World) (ps : List (Name × Kind)) (told : ℕ → List (Name × ℕ)) where
  abbrev IsSplit : NodeId → NodeId → Event → List Event → Last → Side → Type 0
  IsSplit a b e t last side = SameRowOffers (row_of w a).offers (row_of w b).offers × (first : NodeId) × (second : NodeId)
      × IsLeastSplit ps (row_of w a).offers (row_of w b).offers e first second × IsRowDifference w ps told first second t last side

  turned_refusal : (a b : NodeId) (set events : List Event) → IsRefusal ps (row_of w a).offers (row_of w b).offers set events
      → IsRefusal ps (row_of w b).offers (row_of w a).offers set events
  turned_refusal a b set events is = record {
    increasing = is.increasing;
    members = λ e. is.members e
        ∙ ap (λ o. o && not (in_set set e)) (or_comm (is_offered (row_of w a).offers e) (is_offered (row_of w b).offers e));
  }

  turned_split : (a b : NodeId) (e : Event) (c d : NodeId) → IsLeastSplit ps (row_of w a).offers (row_of w b).offers e c d
      → IsLeastSplit ps (row_of w b).offers (row_of w a).offers e d c
  turned_split a b e c d h = record {
    first = h.second;
    second = h.first;
    apart = λ one. h.apart (sym one);
    before = λ f less. sym (h.before f less);
  }

  -- what is the second one's difference is the first one's, where the two are exchanged
  pub turned_walk : (t : List Event) (last : Last) (a b : NodeId) → IsRowDifference w ps told a b t last Second
      → IsRowDifference w ps told b a t last First
  turned_walk [] (Ends s) a b h = h
  turned_walk [] (Refuses events) a b h = (λ x k. sym (h.0 x k), h.1, h.2, h.3, turned_refusal a b h.1 events h.4)
  turned_walk (e ∷ t) last a b h = (
    (λ x k. sym (h.0.0 x k), λ set. sym (h.0.1 set)),
    ⊎_elim
        (λ (k : (t ≡ []) × GoesRowAlone w ps told a b e last Second). inl k)
        (λ (k : IsSplit a b e t last Second). inr (
          λ f. sym (k.0 f),
          k.2,
          k.1,
          turned_split a b e k.1 k.2 k.3,
          turned_walk t last k.1 k.2 k.4,
        ))
        h.1,
  )

module _ (w : World) (ps : List (Name × Kind)) (few : bits_of_scope ps ≤ 64) where
  -- ---- ends
  -- an end of the one row that the other has too
  ends_over : (a b : NodeId) (s : Values) (v : (behaviours_at w ps a).ends [] s)
      → has w.store (row_of w a).ends v.0 ≡ has w.store (row_of w b).ends v.0 → (behaviours_at w ps b).ends [] s
  ends_over a b s v e = (v.0, v.1, v.2, ends_nil w b v.0 ∙ sym e ∙ sym (ends_nil w a v.0) ∙ v.3)

  same_ends : (a b : NodeId) → SameRowEnds w.store ps (row_of w a).ends (row_of w b).ends
      → SameEnds (behaviours_at w ps a) (behaviours_at w ps b)
  same_ends a b h s = (λ v. ends_over a b s v (h v.0 v.1), λ v. ends_over b a s v (sym (h v.0 v.1)))

  earlier : (x y : ℕ) (s u : Values) → s ≡ state_at ps x → u ≡ state_at ps y → state_less u s ≡ true
      → state_less (state_at ps y) (state_at ps x) ≡ true
  earlier x y s u is there less =
      subst (λ (z : Values). state_less (state_at ps y) z ≡ true) is (subst (λ (z : Values). state_less z s ≡ true) there less)

  least_end : (a b : NodeId) (x : ℕ) (s : Values) → IsLeastEnd w.store ps (row_of w a).ends (row_of w b).ends x → s ≡ state_at ps x
      → IsLeastOnly state_less ((behaviours_at w ps a).ends []) ((behaviours_at w ps b).ends []) s
  least_end a b x s h is = record {
    has = (x, h.within, is, ends_nil w a x ∙ h.own);
    lacks = λ v. both_ways (has w.store (row_of w b).ends x) h.other
        (ap (has w.store (row_of w b).ends) (one_assignment w ps few x v.0 h.within v.1 (sym is ∙ v.2)) ∙ sym (ends_nil w b v.0) ∙ v.3);
    before = λ u less. (
      λ v. ends_over a b u v (h.before v.0 v.1 (earlier x v.0 s u is v.2 less)),
      λ v. ends_over b a u v (sym (h.before v.0 v.1 (earlier x v.0 s u is v.2 less))),
    );
  }

  -- ---- sets
  strict_set : (a : NodeId) (set : List Event) → IsNode w a → has_set (row_of w a).accepts set ≡ true → strict event_cmp set ≡ true
  strict_set a set node h = all_at sets_total set_exact (strict event_cmp) (row_of w a).accepts set (is_row w a node).chain.events h

  same_accepts : (a b : NodeId) → IsNode w a → IsNode w b → SameSets (row_of w a).accepts (row_of w b).accepts
      → SameAccepts (behaviours_at w ps a) (behaviours_at w ps b)
  same_accepts a b ha hb h set =
      let one = same_strict sets_total set_exact (row_of w a).accepts (row_of w b).accepts
      (is_row w a ha).chain.increasing (is_row w b hb).chain.increasing h in
      let tests = met_accepts w ps a set ha ∙ ap (λ sets. is_met sets set) one ∙ sym (met_accepts w ps b set hb) in
      (λ k. sym tests ∙ k, λ k. tests ∙ k)

  -- a set of the one row, inside a set that is before the list, is one of the other
  met_over : (own other : NodeId) → IsNode w own → (list : List Event)
      → ((t l : List Event) → IsListOf ps t l → is_lt (set_cmp ps l list) ≡ true → has_set (row_of w own).accepts t ≡ true
      → has_set (row_of w other).accepts t ≡ true)
      → (s : List Event) → strict (print_cmp ps) s ≡ true → is_lt (set_cmp ps s list) ≡ true → is_met (row_of w own).accepts s ≡ true
      → is_met (row_of w other).accepts s ≡ true
  met_over own other node list before s increasing less h =
      let t = earlier_part w ps own node list s increasing less h in
      part_met w ps (row_of w other).accepts s t.0 (before t.0 t.1 t.4 t.5 t.2) t.3

  module _ (a b : NodeId) (ha : IsNode w a) (hb : IsNode w b) where
    -- no set of the other row is a part of the least that only the one has
    no_part : (set list : List Event) → IsLeastSet ps (row_of w a).accepts (row_of w b).accepts set list → (t : List Event)
        → has_set (row_of w b).accepts t ≡ true → is_part t list ≡ true → ⊥
    no_part set list h t there part =
        both_ways (has_set (row_of w b).accepts set) h.other (subst (λ (z : List Event). has_set (row_of w b).accepts z ≡ true) one there)
      where
        inside : (e : Event) → in_set t e ≡ true → in_set set e ≡ true
        inside e m = sym (h.listed.members e) ∙ part_at t list e part m

        one : t ≡ set
        one =
            let l = some_list ps t (strict_set b t hb there) in
            ⊎_elim
            (λ (less : is_lt (set_cmp ps l.0 list) ≡ true).
            apart_same (row_of w a).accepts set t (is_row w a ha).chain.apart h.own (h.before t l.0 l.1 less ∙ there)
            (all_each cmp_total event_exact (in_set set) t inside))
            (λ (k : l.0 ≡ list).
            one_set ps t set list (strict_set b t hb there) (strict_set a set ha h.own) (subst (IsListOf ps t) k l.1) h.listed)
            (part_before ps set t list l.0 h.listed l.1 inside)

    least_set : (set list : List Event) → IsLeastSet ps (row_of w a).accepts (row_of w b).accepts set list
        → IsLeastOnly (λ s t. is_lt (set_cmp ps s t)) (AcceptsList ps (behaviours_at w ps a)) (AcceptsList ps (behaviours_at w ps b)) list
    least_set set list h = record {
      has = (
        h.listed.increasing,
        met_accepts w ps a list ha ∙ part_met w ps (row_of w a).accepts list set h.own
            (all_each cmp_total event_exact (in_set list) set (λ e m. h.listed.members e ∙ m)),
      );
      lacks = λ k.
          let met : is_met (row_of w b).accepts list ≡ true = sym (met_accepts w ps b list hb) ∙ k.1 in
          let t = any_one sets_total set_exact (λ part. is_part part list) (row_of w b).accepts met in
          no_part set list h t.0 t.1 t.2;
      before = λ s less. (
        λ k. (
          k.0,
          met_accepts w ps b s hb
              ∙ met_over a b ha list (λ t l is lt m. sym (h.before t l is lt) ∙ m) s k.0 less (sym (met_accepts w ps a s ha) ∙ k.1),
        ),
        λ k. (
          k.0,
          met_accepts w ps a s ha
              ∙ met_over b a hb list (λ t l is lt m. h.before t l is lt ∙ m) s k.0 less (sym (met_accepts w ps b s hb) ∙ k.1),
        ),
      );
    }

  listed_refusal : (a b : NodeId) (set list events : List Event) → IsListOf ps set list
      → IsRefusal ps (row_of w a).offers (row_of w b).offers set events → IsRefusal ps (row_of w a).offers (row_of w b).offers list events
  listed_refusal a b set list events listed is = record {
    increasing = is.increasing;
    members = λ e. is.members e
        ∙ ap (λ o. (is_offered (row_of w a).offers e || is_offered (row_of w b).offers e) && not o) (sym (listed.members e));
  }

  -- ---- offers
  alike_behind : (a b : NodeId) (e : Event) (o : Option NodeId) → next_in (row_of w a).offers e ≡ o → next_in (row_of w b).offers e ≡ o
      → AreAlike (after (behaviours_at w ps a) e) (after (behaviours_at w ps b) e)
  alike_behind a b e None p q =
      let there = nothing_behind w ps a e (after (behaviours_at w ps b) e) p in
      let back = nothing_behind w ps b e (after (behaviours_at w ps a) e) q in
      record { fails = λ t X. (there.fails t X, back.fails t X); ends = λ t s. (there.ends t s, back.ends t s) }
  alike_behind a b e (Some c) p q =
      both_alike ps (behaviours_at w ps c) (behaviours_at w ps c) (after (behaviours_at w ps a) e) (after (behaviours_at w ps b) e)
      (turned (after (behaviours_at w ps a) e) (behaviours_at w ps c) (behind w ps a c e p))
      (turned (after (behaviours_at w ps b) e) (behaviours_at w ps c) (behind w ps b c e q))
      (alike_itself (behaviours_at w ps c))

  module _ (scope : scope_kept ps ≡ true) (a b : NodeId) (ha : IsNode w a) (hb : IsNode w b)
      (wa : IsOfNames w ps a) (wb : IsOfNames w ps b) where
    same_offers : SameRowOffers (row_of w a).offers (row_of w b).offers → SameOffers (behaviours_at w ps a) (behaviours_at w ps b)
    same_offers h e = (
      λ o. offers_out w ps few b e hb wb (sym (h e) ∙ offers_in w ps few a e ha o),
      λ o. offers_out w ps few a e ha wa (h e ∙ offers_in w ps few b e hb o),
    )

    goes_alone : (e : Event) (last : Last) → GoesRowAlone w ps (state_at ps) a b e last First
        → GoesAlone ps (behaviours_at w ps a) (behaviours_at w ps b) e last
    goes_alone e last h = (
      record {
        has = offers_out w ps few a e ha wa (ap is_some h.1.own);
        lacks = λ o. both_ways (is_offered (row_of w b).offers e) (ap is_some h.1.other) (offers_in w ps few b e hb o);
        before = λ f less. (
          λ o. offers_out w ps few b f hb wb (sym (h.1.before f less) ∙ offers_in w ps few a f ha o),
          λ o. offers_out w ps few a f ha wa (h.1.before f less ∙ offers_in w ps few b f hb o),
        );
      },
      stands_first w ps few a h.0 e last scope h.1.own
          (subst (λ (told : ℕ → List (Name × ℕ)). StopsAlone w ps told h.0 last) (sym (bytes ps scope)) h.2),
    )

    goes_on : (e : Event) (c d : NodeId) → SameRowOffers (row_of w a).offers (row_of w b).offers
        → IsLeastSplit ps (row_of w a).offers (row_of w b).offers e c d → GoesOn ps (behaviours_at w ps a) (behaviours_at w ps b) e
    goes_on e c d offers split = (
      same_offers offers,
      λ f less. alike_behind a b f (next_in (row_of w b).offers f) (split.before f less) refl,
    )

  -- ---- the walk
  pub walk_is : scope_kept ps ≡ true → (t : List Event) (last : Last) (a b : NodeId) → IsNode w a → IsNode w b → IsOfNames w ps a
      → IsOfNames w ps b
      → IsRowDifference w ps (state_at ps) a b t last First → IsFirstDifference ps (behaviours_at w ps a) (behaviours_at w ps b) t last
  walk_is scope [] (Ends s) a b ha hb wa wb h = least_end a b h.0 s h.1 h.2
  walk_is scope [] (Refuses events) a b ha hb wa wb h = (
    same_ends a b h.0,
    h.2,
    least_set a b ha hb h.1 h.2 h.3,
    refusal w ps few a b ha hb wa wb h.2 events (listed_refusal a b h.1 h.2 events h.3.listed h.4),
  )
  walk_is scope (e ∷ t) last a b ha hb wa wb h = (
    same_ends a b h.0.0,
    same_accepts a b ha hb h.0.1,
    ⊎_elim
        (λ (k : (t ≡ []) × GoesRowAlone w ps (state_at ps) a b e last First). inl (k.0, goes_alone scope a b ha hb wa wb e last k.1))
        (λ (k : IsSplit w ps (state_at ps) a b e t last First). inr (
          goes_on scope a b ha hb wa wb e k.1 k.2 k.0 k.3,
          difference_alike ps t last (behaviours_at w ps k.1) (behaviours_at w ps k.2)
              (after (behaviours_at w ps a) e) (after (behaviours_at w ps b) e)
              (turned (after (behaviours_at w ps a) e) (behaviours_at w ps k.1) (behind w ps a k.1 e k.3.first))
              (turned (after (behaviours_at w ps b) e) (behaviours_at w ps k.2) (behind w ps b k.2 e k.3.second))
              (walk_is scope t last k.1 k.2 (child_node w a k.1 e ha k.3.first) (child_node w b k.2 e hb k.3.second)
              (within_child w ps a k.1 e k.3.first wa) (within_child w ps b k.2 e k.3.second wb) k.4),
        ))
        h.1,
  )
