use Rattle.std.proofs.Common.{◌≡◌, ◌⊎◌, ◌<◌, ◌≤◌, ◌^◌, ◌||◌, ℕ, Bool, true, false, List, [], ◌∷◌, Option, Some, None, length, get_or, refl, sym, ap, ◌∙◌, subst, inl, inr, ⊎_elim, arith}
use Rattle.std.specs.Prelude.{◌↔◌, Contains}
use Rattle.std.specs.List.{list_any}
use Rattle.std.proofs.lemmas.Bool.{cases_Bool, false≢true, or_cases, or_left, or_right}
use Rattle.std.proofs.lemmas.Option.{same_Some}
use Rattle.occ_choice.specs.occ_base.declared.event.Event.{Event}
use Rattle.occ_choice.specs.occ_dd.Store.{IsSet, has}
use Rattle.occ_choice.specs.occ_accept.Accept.{in_some, refuses}
use Rattle.occ_choice.specs.occ_mdd.declared.map.MapId.{MapId}
use Rattle.occ_choice.specs.Joined.{IsSound}
use Rattle.occ_choice.specs.Union.{IsAdded}
use Rattle.occ_choice.specs.occ_accept.Order.{strict}
use Rattle.occ_choice.specs.occ_node.Offers.{offer_cmp, next_in, are_below, are_offered}
use Rattle.occ_choice.specs.occ_node.Rows.{goes_on}
use Rattle.occ_choice.specs.occ_node.World.{IsNode, nodes_of, row_of, fails, ends, row_fails, row_ends, Leads, IsFit, IsMade}
use Rattle.occ_choice.specs.occ_node.declared.node.NodeId.{NodeId}
use Rattle.occ_choice.specs.occ_node.declared.row.Row.{Row}
use Rattle.occ_choice.specs.occ_node.declared.world.World.{World}
use Rattle.occ_choice.proofs.from_node.Behaviours.{fails_nil, fails_cons, ends_nil, fails_made, ends_made, is_row, set-leads, within_offers, in_offers, leads_trans}
use Rattle.occ_scope.specs.Paired.{Paired}
use Rattle.occ_scope.proofs.Pairing.{Related, paired_next, paired_more, paired_strict, paired_below, paired_offered, item_below}
use Rattle.occ_follow.specs.Sequence.{HasNodes, Continues}
use Rattle.occ_follow.specs.Nexts.{AreNexts, IsUnionOf}
use Rattle.occ_follow.specs.Sequences.{IsSequence}
use Rattle.occ_follow.proofs.Continuing.{trans_iff, turn_iff, iff_of_same, sum_iff, Starts, Steps, continues_iff, sequence_now, sequence_later}
use Rattle.occ_follow.proofs.Uniting.{any_contains, contains_any, next_known}

or_iff : (L R : Bool) {A B : Type 0} → (L ≡ true) ↔ A → (R ≡ true) ↔ B → ((L || R) ≡ true) ↔ (A ⊎ B)
or_iff L R f g = (
  λ h. ⊎_elim (λ (k : L ≡ true). inl (f.0 k)) (λ (k : R ≡ true). inr (g.0 k)) (or_cases L R h),
  ⊎_elim (λ a. or_left L R (f.1 a)) (λ b. or_right L R (g.1 b)),
)

swap_iff : {A B : Type 0} → (A ⊎ B) ↔ (B ⊎ A)
swap_iff {A} {B} = (⊎_elim (λ (a : A). inr a) (λ (b : B). inl b), ⊎_elim (λ (b : B). inr b) (λ (a : A). inl a))

-- (A or Q) or P is A or (P or Q)
turn_sum : {A P Q : Type 0} → ((A ⊎ Q) ⊎ P) ↔ (A ⊎ (P ⊎ Q))
turn_sum {A} {P} {Q} = (
  ⊎_elim (⊎_elim (λ (a : A). inl a) (λ (q : Q). inr (inr q))) (λ (p : P). inr (inl p)),
  ⊎_elim (λ (a : A). inl (inl a)) (⊎_elim (λ (p : P). inr p) (λ (q : Q). inl (inr q))),
)

-- what is possible after an event, by related nodes
fail_step : (R : NodeId → NodeId → Type 0) (old new : Option NodeId) (f g : NodeId → Bool) (C : NodeId → Type 0) → ((a b : NodeId) → R a b → (g b ≡ true) ↔ ((f a ≡ true) ⊎ C a)) → Related R old new
    → (goes_on new g ≡ true) ↔ ((goes_on old f ≡ true) ⊎ ((a : NodeId) × (old ≡ Some a) × C a))
fail_step R None None f g C h r = (λ e. inl e, ⊎_elim (λ (e : false ≡ true). e) (λ (s : (a : NodeId) × (None ≡ Some a) × C a). absurd (let n : None ≡ Some s.0 = s.1 in cc)))
fail_step R None (Some b) f g C h r = absurd r
fail_step R (Some a) None f g C h r = absurd r
fail_step R (Some a) (Some b) f g C h r = (
  λ e. ⊎_elim (λ (k : f a ≡ true). inl k) (λ (k : C a). inr (a, refl, k)) ((h a b r).0 e),
  ⊎_elim (λ (k : f a ≡ true). (h a b r).1 (inl k)) (λ (s : (c : NodeId) × (Some a ≡ Some c) × C c). (h a b r).1 (inr (subst C (sym (same_Some a s.0 s.1)) s.2))),
)

end_step : (R : NodeId → NodeId → Type 0) (old new : Option NodeId) (g : NodeId → Bool) (C : NodeId → Type 0) → ((a b : NodeId) → R a b → (g b ≡ true) ↔ C a) → Related R old new
    → (goes_on new g ≡ true) ↔ ((a : NodeId) × (old ≡ Some a) × C a)
end_step R None None g C h r = (λ e. absurd (false≢true e), λ s. absurd (let n : None ≡ Some s.0 = s.1 in cc))
end_step R None (Some b) g C h r = absurd r
end_step R (Some a) None g C h r = absurd r
end_step R (Some a) (Some b) g C h r = (λ e. (a, refl, (h a b r).0 e), λ s. (h a b r).1 (subst C (sym (same_Some a s.0 s.1)) s.2))

-- ---- the row of a node that goes on
module _ (u v : World) (k : Leads u v) (p : NodeId) (map : MapId) (h : IsNode u p) (has_map : HasNodes u map) (row : Row)
    (offers : Paired (IsSequence u map) (row_of u p).offers row.offers) (accepts : row.accepts ≡ (row_of u p).accepts) (none : IsSet v.store row.ends (λ x. false)) where
  increasing : strict offer_cmp row.offers ≡ true
  increasing = paired_strict (IsSequence u map) (row_of u p).offers row.offers offers (is_row u p h).increasing

  there : are_below (nodes_of v) row.offers ≡ true
  there = paired_below (IsSequence u map) (nodes_of v) (λ a b is. let less : b.0 < nodes_of u = is.followed.known in let more : nodes_of u ≤ nodes_of v = k.more in omega arith) (row_of u p).offers row.offers offers

  offered : are_offered row.offers row.accepts ≡ true
  offered = within_offers row.offers row.accepts (λ e m. paired_offered (IsSequence u map) (row_of u p).offers row.offers offers e
      ∙ in_offers (row_of u p).offers (row_of u p).accepts e (is_row u p h).offered (ap (λ s. in_some s e) (sym accepts) ∙ m))

  pub finish_sound : IsSound v row
  finish_sound = record { known = none.known; increasing = increasing; there = there; offered = offered }

  -- it has an acceptance where nothing goes on at once
  pub finish_fit : (nodes : List NodeId) → AreNexts u p map nodes → nodes ≡ [] → IsFit v row
  finish_fit nodes are empty = record {
    known = none.known;
    increasing = increasing;
    there = there;
    offered = offered;
    alive = λ no_sets _. (is_row u p h).alive (sym accepts ∙ no_sets) (λ x small. ⊎_elim
        (λ (yes : has u.store (row_of u p).ends x ≡ true).
        let n = has_map.nodes x small in
        let c : Contains [] n.0 = subst (λ ns. Contains ns n.0) empty (are.all n.0 (record { x = x; below = small; ended = ends_nil u p x ∙ yes; leads = n.1 })) in
        absurd (omega (arith, c.1)))
        (λ (no : has u.store (row_of u p).ends x ≡ false). no)
        (cases_Bool (has u.store (row_of u p).ends x)));
  }

  row_fail : (t : List Event) (X : Event → Bool) → (row_fails v row t X ≡ true) ↔ ((fails u p t X ≡ true) ⊎ Steps u p map (λ m s. fails u m s X) t)
  row_fail [] X = let same : refuses row.accepts X ≡ fails u p [] X = ap (λ s. refuses s X) accepts ∙ sym (fails_nil u p X) in (λ e. inl (sym same ∙ e), ⊎_elim (λ (e : fails u p [] X ≡ true). same ∙ e) (λ (n : ⊥). absurd n))
  row_fail (e ∷ t) X = trans_iff
      (fail_step (IsSequence u map) (next_in (row_of u p).offers e) (next_in row.offers e) (λ a. fails u a t X) (λ b. fails v b t X) (λ a. Continues u a map (λ m s. fails u m s X) t)
      (λ a b is. trans_iff (iff_of_same (fails v b t X) (fails u b t X) (k.same_fails b t X is.followed.known)) (is.followed.follow_fails t X))
      (paired_next (IsSequence u map) (row_of u p).offers row.offers offers e))
      (sum_iff (iff_of_same (goes_on (next_in (row_of u p).offers e) (λ a. fails u a t X)) (fails u p (e ∷ t) X) (sym (fails_cons u p e t X))) (λ s. s, λ s. s))

  row_end : (t : List Event) (x : ℕ) → x < 2 ^ 64 → (row_ends v row t x ≡ true) ↔ Steps u p map (λ m s. ends u m s x) t
  row_end [] x b = (λ e. false≢true (sym (none.members x) ∙ e), λ n. absurd n)
  row_end (e ∷ t) x b = end_step (IsSequence u map) (next_in (row_of u p).offers e) (next_in row.offers e) (λ c. ends v c t x) (λ a. Continues u a map (λ m s. ends u m s x) t)
      (λ a c is. trans_iff (iff_of_same (ends v c t x) (ends u c t x) (k.same_ends c t x is.followed.known)) (is.followed.follow_ends t x b))
      (paired_next (IsSequence u map) (row_of u p).offers row.offers offers e)

  -- the row and what starts at once are together what goes on
  whole_fails : (t : List Event) (X : Event → Bool) (S : Bool) → (S ≡ true) ↔ Starts u p map (λ m s. fails u m s X) t → ((row_fails v row t X || S) ≡ true) ↔ ((fails u p t X ≡ true) ⊎ Continues u p map (λ m s. fails u m s X) t)
  whole_fails t X S start = trans_iff (or_iff (row_fails v row t X) S (row_fail t X) start) (trans_iff turn_sum (sum_iff (λ a. a, λ a. a) (turn_iff (continues_iff u p map (λ m s. fails u m s X) t))))

  whole_ends : (t : List Event) (x : ℕ) (S : Bool) → x < 2 ^ 64 → (S ≡ true) ↔ Starts u p map (λ m s. ends u m s x) t → ((row_ends v row t x || S) ≡ true) ↔ Continues u p map (λ m s. ends u m s x) t
  whole_ends t x S b start = trans_iff (or_iff (row_ends v row t x) S (row_end t x b) start) (trans_iff swap_iff (turn_iff (continues_iff u p map (λ m s. ends u m s x) t)))

  -- the node of the row and of what starts at once
  assembled : (w : World) → Leads u w → (r : NodeId) → IsNode w r → (F : List Event → (Event → Bool) → Bool) (G : List Event → ℕ → Bool)
      → ((t : List Event) (X : Event → Bool) → (F t X ≡ true) ↔ Starts u p map (λ m s. fails u m s X) t) → ((t : List Event) (x : ℕ) → (G t x ≡ true) ↔ Starts u p map (λ m s. ends u m s x) t)
      → ((t : List Event) (X : Event → Bool) → fails w r t X ≡ (row_fails v row t X || F t X)) → ((t : List Event) (x : ℕ) → ends w r t x ≡ (row_ends v row t x || G t x)) → IsSequence w map p r
  assembled w l r known F G f g same_f same_g = sequence_now u w l map p r h has_map (record {
    known = known;
    follow_fails = λ t X. trans_iff (iff_of_same (fails w r t X) (row_fails v row t X || F t X) (same_f t X)) (whole_fails t X (F t X) (f t X));
    follow_ends = λ t x b. trans_iff (iff_of_same (ends w r t x) (row_ends v row t x || G t x) (same_g t x)) (whole_ends t x (G t x) b (g t x));
  })

-- ---- what starts at once
or_none : (b : Bool) → b ≡ (b || false)
or_none true = refl
or_none false = refl

-- nothing
nothing_starts : (u : World) (p : NodeId) (map : MapId) (nodes : List NodeId) → AreNexts u p map nodes → nodes ≡ [] → (behaves : NodeId → List Event → Bool) (t : List Event) → (false ≡ true) ↔ Starts u p map behaves t
nothing_starts u p map nodes are empty behaves t = (
  λ e. absurd (false≢true e),
  λ s. let c : Contains [] s.0 = subst (λ ns. Contains ns s.0) empty (are.all s.0 s.1) in absurd (omega (arith, c.1)),
)

pub finish_made : (u v : World) (k : Leads u v) (p : NodeId) (map : MapId) (h : IsNode u p) (has_map : HasNodes u map) (row : Row)
    → Paired (IsSequence u map) (row_of u p).offers row.offers → row.accepts ≡ (row_of u p).accepts → IsSet v.store row.ends (λ x. false)
    → (nodes : List NodeId) → AreNexts u p map nodes → nodes ≡ [] → (w : World) → Leads v w → (r : NodeId) → IsMade w r row → IsSequence w map p r
finish_made u v k p map h has_map row offers accepts none nodes are empty w l r made =
    let whole = leads_trans u v w k l in
    let later : IsSet w.store row.ends (λ x. false) = record { known = set-leads v w l row.ends none.known; members = λ x. l.stored.same row.ends x none.known ∙ none.members x } in
    assembled u w whole p map h has_map row offers accepts later w whole r made.known (λ t X. false) (λ t x. false)
    (λ t X. nothing_starts u p map nodes are empty (λ m s. fails u m s X) t) (λ t x. nothing_starts u p map nodes are empty (λ m s. ends u m s x) t)
    (λ t X. fails_made w r row made t X ∙ or_none (row_fails w row t X)) (λ t x. ends_made w r row made t x ∙ or_none (row_ends w row t x))

-- one of some nodes
some_starts : (u v : World) (k : Leads u v) (p : NodeId) (map : MapId) → HasNodes u map → (nodes : List NodeId) → AreNexts u p map nodes → (f g : NodeId → List Event → Bool) → ((m : NodeId) (s : List Event) → IsNode u m → g m s ≡ f m s) → (t : List Event)
    → (list_any (λ m. g m t) nodes ≡ true) ↔ Starts u p map f t
some_starts u v k p map has_map nodes are f g same t = (
  λ e. let c = any_contains (λ m. g m t) nodes e in
      let n = are.met c.0 c.1 in
      (c.0, n, sym (same c.0 t (next_known u p map has_map c.0 n)) ∙ c.2),
  λ s. contains_any (λ m. g m t) nodes s.0 (are.all s.0 s.1) (same s.0 t (next_known u p map has_map s.0 s.1) ∙ s.2),
)

pub finish_added : (u v v1 : World) (k : Leads u v) (l : Leads v v1) (p : NodeId) (map : MapId) (h : IsNode u p) (has_map : HasNodes u map) (row : Row)
    → Paired (IsSequence u map) (row_of u p).offers row.offers → row.accepts ≡ (row_of u p).accepts → IsSet v.store row.ends (λ x. false)
    → (nodes : List NodeId) → AreNexts u p map nodes → (next : NodeId) → IsUnionOf v v1 nodes next → (w : World) → Leads v1 w → (r : NodeId) → IsAdded v1 w row next r → IsSequence w map p r
finish_added u v v1 k l p map h has_map row offers accepts none nodes are next union w m r added =
    let first = leads_trans u v v1 k l in
    let later : IsSet v1.store row.ends (λ x. false) = record { known = set-leads v v1 l row.ends none.known; members = λ x. l.stored.same row.ends x none.known ∙ none.members x } in
    assembled u v1 first p map h has_map row offers accepts later w (leads_trans u v1 w first m) r added.known (λ t X. fails v1 next t X) (λ t x. ends v1 next t x)
    (λ t X. trans_iff (iff_of_same (fails v1 next t X) (list_any (λ m. fails v m t X) nodes) (union.all_fail t X)) (some_starts u v k p map has_map nodes are (λ m s. fails u m s X) (λ m s. fails v m s X) (λ m s n. k.same_fails m s X n) t))
    (λ t x. trans_iff (iff_of_same (ends v1 next t x) (list_any (λ m. ends v m t x) nodes) (union.all_end t x)) (some_starts u v k p map has_map nodes are (λ m s. ends u m s x) (λ m s. ends v m s x) (λ m s n. k.same_ends m s x n) t))
    added.both_fail added.both_end

pub sound_later : (u v v1 : World) (k : Leads u v) (l : Leads v v1) (p : NodeId) (map : MapId) (h : IsNode u p) (has_map : HasNodes u map) (row : Row)
    → Paired (IsSequence u map) (row_of u p).offers row.offers → row.accepts ≡ (row_of u p).accepts → IsSet v.store row.ends (λ x. false) → IsSound v1 row
sound_later u v v1 k l p map h has_map row offers accepts none =
    finish_sound u v1 (leads_trans u v v1 k l) p map h has_map row offers accepts (record { known = set-leads v v1 l row.ends none.known; members = λ x. l.stored.same row.ends x none.known ∙ none.members x })

-- ---- the offers
pub offers_later : (v w : World) → Leads v w → (map : MapId) (olds news : List (Event × NodeId)) → Paired (IsSequence v map) olds news → Paired (IsSequence w map) olds news
offers_later v w k map olds news p = paired_more (IsSequence v map) (IsSequence w map) (sequence_later v w k map) olds news p

pub offer_below : (w : World) (p : NodeId) (items : List (Event × NodeId)) (i : ℕ) (d : Event × NodeId) → IsNode w p → items ≡ (row_of w p).offers → i < length items → (get_or items i d).1.0 < p.0
offer_below w p items i d h e k = item_below p.0 items i d (subst (λ os. are_below p.0 os ≡ true) (sym e) (is_row w p h).earlier) k
