-- A first excess belongs to the second node alone, and its events are of the interface.
use Rattle.std.proofs.Common.{◌≡◌, ◌≤◌, ◌%◌, ◌^◌, Bool, true, false, not, List, [], ◌∷◌, Option, Some, None, is_some, refl, sym, ap, ◌∙◌, subst, inl, inr, ⊎_elim}
use Rattle.std.proofs.Math.Nat.{mod-lt}
use Rattle.std.proofs.lemmas.Nat.{pow_pos}
use Rattle.std.proofs.lemmas.Bool.{or_left, both_ways, false≢true}
use Rattle.std.specs.List.{list_all}
use Rattle.occ_syntax.specs.occ_base.declared.event.Event.{Event}
use Rattle.occ_syntax.specs.occ_base.declared.names.Name.{Name}
use Rattle.occ_syntax.specs.declared.scope.Kind.{Kind}
use Rattle.occ_syntax.specs.Counts.{bits_of_scope}
use Rattle.occ_syntax.specs.Scopes.{among}
use Rattle.occ_norm.specs.occ_behaviour.declared.behaviour.Last.{Last}
use Rattle.occ_norm.specs.occ_behaviour.declared.behaviour.Last.TheVariants.{Refuses, Ends}
use Rattle.occ_norm.specs.occ_dd.Store.{has}
use Rattle.occ_norm.specs.occ_accept.Accept.{in_set, misses, refuses}
use Rattle.occ_norm.proofs.from_accept.Strict.{all_more, any_more, all_at, any_at, all_each, any_one}
use Rattle.occ_norm.proofs.from_accept.Events.{cmp_total, event_exact, sets_total, set_exact}
use Rattle.occ_norm.specs.occ_node.Offers.{next_in, is_offered}
use Rattle.occ_norm.specs.occ_node.World.{IsNode, row_of, fails}
use Rattle.occ_norm.specs.occ_node.declared.node.NodeId.{NodeId}
use Rattle.occ_norm.specs.occ_node.declared.world.World.{World}
use Rattle.occ_norm.proofs.from_node.Worlds.{is_row}
use Rattle.occ_norm.proofs.from_node.Behaviours.{fails_nil, fails_some, ends_nil, child_node}
use Rattle.occ_norm.specs.occ_compare.Interface.{IsWithin as IsOfNames}
use Rattle.occ_norm.specs.occ_compare.Places.{state_at}
use Rattle.occ_norm.specs.occ_compare.Orders.{has_set}
use Rattle.occ_norm.proofs.from_compare.Walking.{within_child, among_is}
use Rattle.occ_norm.specs.occ_compare.Views.{Values, Behaviours, after, Offers, Stands}
use Rattle.occ_norm.specs.occ_compare.Excess.{IsLeastSet, IsRefusal, StandsFirst, Stops, GoesAlone, GoesOn, IsFirstExcess}
use Rattle.occ_norm.proofs.from_compare.Alike.{turned, stands_alike, excess_alike}
use Rattle.occ_norm.proofs.from_compare.One.{excess_more}
use Rattle.occ_refine.specs.Nodes.{behaviours_at}
use Rattle.occ_refine.proofs.Bridge.{behind, nothing_behind, offers_out, offers_in, from_not, to_not, some_next}

false_from : (b : Bool) → (b ≡ true → ⊥) → b ≡ false
false_from true h = absurd (h refl)
false_from false h = refl

pub none_missed : (set : List Event) → misses (λ e. false) set ≡ true
none_missed [] = refl
none_missed (e ∷ set) = none_missed set

some_refuses : (sets : List (List Event)) → (sets ≡ [] → ⊥) → refuses sets (λ e. false) ≡ true
some_refuses [] h = absurd (h refl)
some_refuses (a ∷ sets) h = or_left (misses (λ e. false) a) (refuses sets (λ e. false)) (none_missed a)

-- ---- behind an event
stands_down : (b : Behaviours) (e : Event) (t : List Event) (last : Last) → Stands (after b e) t last → Stands b (e ∷ t) last
stands_down b e t (Refuses events) h = h
stands_down b e t (Ends s) h = h

stands_up : (b : Behaviours) (e : Event) (t : List Event) (last : Last) → Stands b (e ∷ t) last → Stands (after b e) t last
stands_up b e t (Refuses events) h = h
stands_up b e t (Ends s) h = h

module _ (w : World) (ps : List (Name × Kind)) (few : bits_of_scope ps ≤ 64) where
  abbrev IsOnly : NodeId → NodeId → List Event → Last → Type 0
  IsOnly p q t last = Stands (behaviours_at w ps q) t last × (Stands (behaviours_at w ps p) t last → ⊥)

  -- a row without an end accepts something
  stable : (d : NodeId) → IsNode w d → IsOfNames w ps d → ((s : Values) → (behaviours_at w ps d).ends [] s → ⊥) → fails w d [] (λ e. false) ≡ true
  stable d node within no_end = fails_nil w d (λ e. false) ∙ some_refuses (row_of w d).accepts (λ none. (is_row w d node).alive none
      (λ x h. false_from (has w.store (row_of w d).ends x) (λ k. no_end (state_at ps (x % 2 ^ bits_of_scope ps))
      (x % 2 ^ bits_of_scope ps, mod-lt x (pow_pos (bits_of_scope ps)), refl, sym (within.bits [] x h) ∙ ends_nil w d x ∙ k))))

  module _ (p q : NodeId) (hp : IsNode w p) (hq : IsNode w q) (wp : IsOfNames w ps p) (wq : IsOfNames w ps q) where
    -- what lies outside the set is refused, and what is offered there too
    out_of_set : (set events : List Event) → IsRefusal ps (behaviours_at w ps p) (behaviours_at w ps q) set events → (e : Event) → not (not (in_set set e)) ≡ true → not (among events e) ≡ true
    out_of_set set events is e h = to_not (among events e) (among_is events e ∙ false_from (in_set events e) (λ m. both_ways (in_set set e) ((is.members e).0 m).1 (twice (in_set set e) h)))
      where
        twice : (b : Bool) → not (not b) ≡ true → b ≡ true
        twice true k = refl
        twice false k = absurd (false≢true k)

    refuses_own : (set events : List Event) → IsLeastSet ps (behaviours_at w ps p) (behaviours_at w ps q) set → IsRefusal ps (behaviours_at w ps p) (behaviours_at w ps q) set events → fails w q [] (among events) ≡ true
    refuses_own set events least is = fails_nil w q (among events) ∙ any_more (misses (λ e. not (in_set set e))) (misses (among events))
        (λ t h. all_more (λ e. not (not (in_set set e))) (λ e. not (among events e)) (out_of_set set events is) t h)
        (row_of w q).accepts (sym (fails_nil w q (λ e. not (in_set set e))) ∙ least.own)

    refuses_not : (set events : List Event) → IsLeastSet ps (behaviours_at w ps p) (behaviours_at w ps q) set → IsRefusal ps (behaviours_at w ps p) (behaviours_at w ps q) set events → fails w p [] (among events) ≡ true → ⊥
    refuses_not set events least is h =
        least.other (fails_nil w p (λ e. not (in_set set e)) ∙ refused (any_one sets_total set_exact (misses (among events)) (row_of w p).accepts (sym (fails_nil w p (among events)) ∙ h)))
      where
        inside : (t : List Event) → has_set (row_of w p).accepts t ≡ true → misses (among events) t ≡ true → (e : Event) → in_set t e ≡ true → not (not (in_set set e)) ≡ true
        inside t there missed e m = by (in_set set e) refl
          where
            offered : is_offered (row_of w p).offers e ≡ true
            offered = all_at cmp_total event_exact (is_offered (row_of w p).offers) t e (all_at sets_total set_exact (list_all (is_offered (row_of w p).offers)) (row_of w p).accepts t (is_row w p hp).offered there) m

            by : (b : Bool) → in_set set e ≡ b → not (not b) ≡ true
            by true k = refl
            by false k = absurd (both_ways (among events e) (from_not (among events e) (all_at cmp_total event_exact (λ f. not (among events f)) t e missed m))
                (among_is events e ∙ (is.members e).1 (inl (offers_out w ps few p e hp wp offered), k)))

        refused : (t : List Event) × (has_set (row_of w p).accepts t ≡ true) × (misses (among events) t ≡ true) → refuses (row_of w p).accepts (λ e. not (in_set set e)) ≡ true
        refused v = any_at sets_total set_exact (misses (λ e. not (in_set set e))) (row_of w p).accepts v.0 v.1 (all_each cmp_total event_exact (λ e. not (not (in_set set e))) v.0 (inside v.0 v.1 v.2))

    stops_only : (last : Last) → Stops ps (behaviours_at w ps p) (behaviours_at w ps q) last → IsOnly p q [] last
    stops_only (Ends s) h = (h.own, h.other)
    stops_only (Refuses events) h = (refuses_own h.1 events h.2 h.3, refuses_not h.1 events h.2 h.3)

    -- where only the second offers the event
    not_alone : (e : Event) (last : Last) → StandsFirst (after (behaviours_at w ps q) e) last → (Offers (behaviours_at w ps p) e → ⊥) → Stands (behaviours_at w ps p) (e ∷ []) last → ⊥
    not_alone e (Ends s) first other h = other ([], inr (s, h))
    not_alone e (Refuses events) first other h = other ([], inl (subst (λ (l : List Event). fails w p (e ∷ []) (among l) ≡ true) first.0 h))

    own_alone : (e : Event) (d : NodeId) (last : Last) → next_in (row_of w q).offers e ≡ Some d → StandsFirst (after (behaviours_at w ps q) e) last → Stands (behaviours_at w ps q) (e ∷ []) last
    own_alone e d (Ends s) next h = h.0
    own_alone e d (Refuses events) next h = subst (λ (l : List Event). fails w q (e ∷ []) (among l) ≡ true) (sym h.0)
        (fails_some w q d e [] (λ f. false) next ∙ stable d (child_node w q d e hq next) (within_child w ps q d e next wq) (λ s v. h.1 s (((behind w ps q d e next).ends [] s).1 v)))

    alone_only : (e : Event) (last : Last) → GoesAlone ps (behaviours_at w ps p) (behaviours_at w ps q) e last → IsOnly p q (e ∷ []) last
    alone_only e last h =
        let d = some_next (next_in (row_of w q).offers e) (offers_in w ps few q e hq h.0.own) in
        (own_alone e d.0 last d.1 h.1, not_alone e last h.1 h.0.other)

  abbrev Again : List Event → Last → Type 0
  Again t last = (c d : NodeId) → IsNode w c → IsNode w d → IsOfNames w ps c → IsOfNames w ps d → IsFirstExcess ps (behaviours_at w ps c) (behaviours_at w ps d) t last → IsOnly c d t last

  -- the first excess is the second node's, and not the first one's
  pub excess_only : (t : List Event) (last : Last) (p q : NodeId) → IsNode w p → IsNode w q → IsOfNames w ps p → IsOfNames w ps q → IsFirstExcess ps (behaviours_at w ps p) (behaviours_at w ps q) t last
      → Stands (behaviours_at w ps q) t last × (Stands (behaviours_at w ps p) t last → ⊥)
  excess_only [] last p q hp hq wp wq h = stops_only p q hp hq wp wq last h
  excess_only (e ∷ t) last p q hp hq wp wq h = ⊎_elim
      (λ (k : (t ≡ []) × GoesAlone ps (behaviours_at w ps p) (behaviours_at w ps q) e last). subst (λ (u : List Event). IsOnly p q (e ∷ u) last) (sym k.0) (alone_only p q hp hq wp wq e last k.1))
      (λ (k : GoesOn ps (behaviours_at w ps p) (behaviours_at w ps q) e × IsFirstExcess ps (after (behaviours_at w ps p) e) (after (behaviours_at w ps q) e) t last).
      on (λ c d hc hd wc wd n. excess_only t last c d hc hd wc wd n) k.0 k.1 (next_in (row_of w q).offers e) refl)
      h.2
    where
      both : Again t last → (c d : NodeId) → next_in (row_of w p).offers e ≡ Some c → next_in (row_of w q).offers e ≡ Some d → IsFirstExcess ps (after (behaviours_at w ps p) e) (after (behaviours_at w ps q) e) t last → IsOnly p q (e ∷ t) last
      both again c d hc hd rest =
          let first = behind w ps p c e hc in
          let second = behind w ps q d e hd in
          let only = again c d (child_node w p c e hp hc) (child_node w q d e hq hd) (within_child w ps p c e hc wp) (within_child w ps q d e hd wq)
          (excess_alike ps t last (after (behaviours_at w ps p) e) (after (behaviours_at w ps q) e) (behaviours_at w ps c) (behaviours_at w ps d) first second rest) in (
            stands_down (behaviours_at w ps q) e t last (stands_alike (behaviours_at w ps d) (after (behaviours_at w ps q) e) (turned (after (behaviours_at w ps q) e) (behaviours_at w ps d) second) t last only.0),
            λ v. only.1 (stands_alike (after (behaviours_at w ps p) e) (behaviours_at w ps c) first t last (stands_up (behaviours_at w ps p) e t last v)),
          )

      on : Again t last → GoesOn ps (behaviours_at w ps p) (behaviours_at w ps q) e → IsFirstExcess ps (after (behaviours_at w ps p) e) (after (behaviours_at w ps q) e) t last → (o : Option NodeId) → next_in (row_of w q).offers e ≡ o → IsOnly p q (e ∷ t) last
      on again go rest None none = absurd (excess_more ps t last (after (behaviours_at w ps p) e) (after (behaviours_at w ps q) e) rest (nothing_behind w ps q e (after (behaviours_at w ps p) e) none))
      on again go rest (Some d) next =
          let c = some_next (next_in (row_of w p).offers e) (offers_in w ps few p e hp (go.0 e (offers_out w ps few q e hq wq (ap is_some next)))) in
          both again c.0 d c.1 next rest
