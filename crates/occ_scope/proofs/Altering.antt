use Rattle.std.proofs.Common.{◌≡◌, ◌<◌, ◌≤◌, ◌^◌, ◌&&◌, ℕ, Bool, true, false, not, cond, List, [], ◌∷◌, Option, Some, None, length, get_or, is_some, refl, sym, ap, ◌∙◌, subst, ⊎_elim, arith}
use Rattle.std.proofs.lemmas.Bool.{and_parts, or_parts, both_ways, cases_Bool, false≢true}
use Rattle.std.specs.List.{list_all, filter}
use Rattle.occ_node.specs.occ_base.declared.event.Event.{Event}
use Rattle.occ_node.specs.occ_base.declared.names.Name.{Name}
use Rattle.occ_node.specs.occ_dd.Memo.{recalled, Learns}
use Rattle.occ_node.specs.occ_dd.declared.memo.Call.{Call}
use Rattle.occ_node.specs.occ_dd.declared.memo.Memo.{Memo}
use Rattle.occ_node.specs.occ_dd.Store.{IsSet, has}
use Rattle.occ_node.specs.occ_dd.declared.set.SetId.{SetId}
use Rattle.occ_node.specs.occ_accept.Accept.{in_some, is_on, misses, refuses}
use Rattle.occ_node.specs.Offers.{next_in, is_offered, are_below}
use Rattle.occ_node.specs.Rows.{goes_on}
use Rattle.occ_node.specs.World.{IsNode, nodes_of, row_of, fails, ends, Leads, IsFit, IsMade}
use Rattle.occ_node.specs.declared.node.NodeId.{NodeId}
use Rattle.occ_node.specs.declared.row.Row.{Row}
use Rattle.occ_node.specs.declared.world.World.{World}
use Rattle.occ_node.proofs.Behaviours.{fails_nil, fails_cons, ends_nil, ends_cons, fails_made, ends_made, is_row, node-leads, within_offers, in_offers}
use Rattle.occ_scope.specs.Change.{stays, ends_after, number_of, numbered, IsChanged, AreChanged, node}
use Rattle.occ_scope.specs.Paired.{Paired}
use Rattle.occ_scope.specs.declared.change.Change.{Change}
use Rattle.occ_scope.specs.declared.change.Change.TheVariants.{Restrict, Forget, Shift}
use Rattle.occ_scope.proofs.Pairing.{Related, paired_next, paired_more, paired_strict, paired_below, paired_offered, below_filter, offers_filter, next_filter, item_below}
use Rattle.occ_scope.proofs.Turning.{passes_never, passes_self, turned_twice, turned_below_lt}
use Rattle.occ_scope.specs.Bits.{turned_below}

-- ---- final states after a change
pub after_same : (c : Change) (f g : ℕ → Bool) → ((y : ℕ) → f y ≡ g y) → (x : ℕ) → ends_after c f x ≡ ends_after c g x
after_same c f g h x i = ends_after c (λ y. h y i) x

after_never : (c : Change) (x : ℕ) → ends_after c (λ y. false) x ≡ false
after_never (Restrict chan) x = refl
after_never (Forget bits) x = passes_never 64 bits x
after_never (Shift change) x = refl

-- there is one where there was one
after_some : (c : Change) (f : ℕ → Bool) (x : ℕ) → x < 2 ^ 64 → f x ≡ true → (y : ℕ) × (y < 2 ^ 64) × (ends_after c f y ≡ true)
after_some (Restrict chan) f x b h = (x, b, h)
after_some (Forget bits) f x b h = (x, b, passes_self 64 bits f x h)
after_some (Shift change) f x b h = (turned_below 64 change x, turned_below_lt 64 change x (omega arith) b, ap f (turned_twice change x b) ∙ h)

-- ---- acceptances after a change
swap : (b c : Bool) → (b && c) ≡ (c && b)
swap true true = refl
swap true false = refl
swap false true = refl
swap false false = refl

pub sets_restricted : (c : Change) (chan : Name) (sets r : List (List Event)) → c ≡ Restrict chan → ((X : Event → Bool) → refuses r X ≡ refuses sets (λ e. X e && not (is_on chan e))) → (X : Event → Bool) → refuses r X ≡ refuses sets (λ e. stays c e && X e)
sets_restricted c chan sets r is f X = f X ∙ ap (refuses sets) (λ i e. swap (X e) (not (is_on chan e)) i) ∙ ap (λ d. refuses sets (λ e. stays d e && X e)) (sym is)

-- ---- in later worlds
pub changed_later : (v w : World) → Leads v w → (c : Change) (p r : NodeId) → IsChanged v c p r → IsChanged w c p r
changed_later v w k c p r is = record {
  first = node-leads v w k p is.first;
  known = node-leads v w k r is.known;
  after_fail = λ t X. k.same_fails r t X is.known ∙ is.after_fail t X ∙ ap (λ b. list_all (stays c) t && b) (sym (k.same_fails p t (λ e. stays c e && X e) is.first));
  after_end = λ t x. k.same_ends r t x is.known ∙ is.after_end t x ∙ ap (λ b. list_all (stays c) t && b) (after_same c (ends v p t) (ends w p t) (λ y. sym (k.same_ends p t y is.first)) x);
}

pub are_changed_later : (v w : World) → Leads v w → (c : Change) (memo : Memo) → AreChanged v c memo → AreChanged w c memo
are_changed_later v w k c memo are = record { each = λ call r e. changed_later v w k (numbered c call.second) (node call.first) (node r) (are.each call r e) }

pub are_changed_none : (w : World) (c : Change) (memo : Memo) → ((k : Call) → recalled memo k ≡ None) → AreChanged w c memo
are_changed_none w c memo none = record { each = λ k r e. absurd (let f : None ≡ Some r = sym (none k) ∙ e in cc) }

-- a change is the one of its kind that has its number
numbered_same : (c : Change) → numbered c (number_of c) ≡ c
numbered_same (Restrict chan) = refl
numbered_same (Forget bits) = refl
numbered_same (Shift change) = refl

pub changed_learnt : (w : World) (c : Change) (old new : Memo) (p r : NodeId) (n : ℕ) → n ≡ number_of c → AreChanged w c old → IsChanged w c p r → Learns old new (record { first = p.0; second = n; third = 0 }) r.0 → AreChanged w c new
changed_learnt w c old new p r n at are is learns = record {
  each = λ k m e. ⊎_elim
      (λ (h : recalled old k ≡ Some m). are.each k m h)
      (λ (h : (k ≡ record { first = p.0; second = n; third = 0 }) × (m ≡ r.0)).
      subst (λ (k : Call). IsChanged w (numbered c k.second) (node k.first) (node m)) (sym h.0)
      (subst (λ (m : ℕ). IsChanged w (numbered c n) p (node m)) (sym h.1)
      (subst (λ d. IsChanged w d p r) (sym (ap (numbered c) at ∙ numbered_same c)) is)))
      (learns k m e);
}

-- ---- an event and what comes after it
and_false : (b : Bool) → false ≡ (b && false)
and_false true = refl
and_false false = refl

step : (R : NodeId → NodeId → Type 0) (stay rest : Bool) (old new : Option NodeId) (f g : NodeId → Bool) → ((a b : NodeId) → R a b → g b ≡ (rest && f a)) → Related R (cond stay old None) new → goes_on new g ≡ ((stay && rest) && goes_on old f)
step R true rest None None f g h r = and_false rest
step R true rest None (Some b) f g h r = absurd r
step R true rest (Some a) None f g h r = absurd r
step R true rest (Some a) (Some b) f g h r = h a b r
step R false rest old None f g h r = refl
step R false rest old (Some b) f g h r = absurd r

after_goes : (c : Change) (o : Option NodeId) (F : NodeId → ℕ → Bool) (x : ℕ) → goes_on o (λ a. ends_after c (F a) x) ≡ ends_after c (λ y. goes_on o (λ a. F a y)) x
after_goes c None F x = sym (after_never c x)
after_goes c (Some a) F x = refl

nothing_missed : (set : List Event) → misses (λ e. false) set ≡ true
nothing_missed [] = refl
nothing_missed (e ∷ set) = nothing_missed set

nothing_refused : (sets : List (List Event)) → refuses sets (λ e. false) ≡ false → sets ≡ []
nothing_refused [] h = refl
nothing_refused (a ∷ sets) h = absurd (both_ways (misses (λ e. false) a) (or_parts (misses (λ e. false) a) (refuses sets (λ e. false)) h).0 (nothing_missed a))

-- ---- the node after a change
module _ (u v : World) (k : Leads u v) (c : Change) (p : NodeId) (h : IsNode u p) (row : Row) (sets : List (List Event)) (ended : SetId)
    (offers : Paired (IsChanged u c) (filter (λ o. stays c o.0) (row_of u p).offers) row.offers)
    (sets_are : sets ≡ (row_of u p).accepts) (ended_are : ended ≡ (row_of u p).ends)
    (refused : (X : Event → Bool) → refuses row.accepts X ≡ refuses sets (λ e. stays c e && X e))
    (events : (e : Event) → in_some row.accepts e ≡ true → (stays c e && in_some sets e) ≡ true)
    (ends_are : IsSet v.store row.ends (ends_after c (has u.store ended))) where
  refused_is : (X : Event → Bool) → refuses row.accepts X ≡ refuses (row_of u p).accepts (λ e. stays c e && X e)
  refused_is X = refused X ∙ ap (λ s. refuses s (λ e. stays c e && X e)) sets_are

  ends_is : (x : ℕ) → has v.store row.ends x ≡ ends_after c (has u.store (row_of u p).ends) x
  ends_is x = ends_are.members x ∙ ap (λ s. ends_after c (has u.store s) x) ended_are

  offered_is : (e : Event) → stays c e ≡ true → is_offered (row_of u p).offers e ≡ true → is_offered row.offers e ≡ true
  offered_is e s o = paired_offered (IsChanged u c) (filter (λ o. stays c o.0) (row_of u p).offers) row.offers offers e
      ∙ ap is_some (next_filter (stays c) (row_of u p).offers e ∙ ap (λ b. cond b (next_in (row_of u p).offers e) None) s) ∙ o

  pub finish_fit : IsFit v row
  finish_fit = record {
    known = ends_are.known;
    increasing = paired_strict (IsChanged u c) (filter (λ o. stays c o.0) (row_of u p).offers) row.offers offers (offers_filter (stays c) (row_of u p).offers (is_row u p h).increasing);
    there = paired_below (IsChanged u c) (nodes_of v) (λ a b is. let less : b.0 < nodes_of u = is.known in let more : nodes_of u ≤ nodes_of v = k.more in omega arith) (filter (λ o. stays c o.0) (row_of u p).offers) row.offers offers;
    offered = within_offers row.offers row.accepts (λ e m.
        let parts = and_parts (stays c e) (in_some sets e) (events e m) in
        offered_is e parts.0 (in_offers (row_of u p).offers (row_of u p).accepts e (is_row u p h).offered (sym (ap (λ s. in_some s e) sets_are) ∙ parts.1)));
    alive = λ none no_end. (is_row u p h).alive
        (nothing_refused (row_of u p).accepts (ap (refuses (row_of u p).accepts) (λ i e. and_false (stays c e) i) ∙ sym (refused_is (λ e. false)) ∙ ap (λ s. refuses s (λ e. false)) none))
        (λ x small. ⊎_elim
        (λ (yes : has u.store (row_of u p).ends x ≡ true). let y = after_some c (has u.store (row_of u p).ends) x small yes in absurd (false≢true (sym (no_end y.0 y.1) ∙ ends_is y.0 ∙ y.2)))
        (λ (no : has u.store (row_of u p).ends x ≡ false). no)
        (cases_Bool (has u.store (row_of u p).ends x)));
  }

  related : (e : Event) → Related (IsChanged u c) (cond (stays c e) (next_in (row_of u p).offers e) None) (next_in row.offers e)
  related e = subst (λ o. Related (IsChanged u c) o (next_in row.offers e)) (next_filter (stays c) (row_of u p).offers e) (paired_next (IsChanged u c) (filter (λ o. stays c o.0) (row_of u p).offers) row.offers offers e)

  pub finish_changed : (w : World) → Leads v w → Leads u w → (r : NodeId) → IsMade w r row → IsChanged w c p r
  finish_changed w l m r made = record {
    first = node-leads u w m p h;
    known = made.known;
    after_fail = after_fail;
    after_end = after_end;
  }
    where
      after_fail : (t : List Event) (X : Event → Bool) → fails w r t X ≡ (list_all (stays c) t && fails w p t (λ e. stays c e && X e))
      after_fail [] X = fails_made w r row made [] X ∙ refused_is X ∙ sym (fails_nil u p (λ e. stays c e && X e)) ∙ sym (m.same_fails p [] (λ e. stays c e && X e) h)
      after_fail (e ∷ t) X = fails_made w r row made (e ∷ t) X
          ∙ step (IsChanged u c) (stays c e) (list_all (stays c) t) (next_in (row_of u p).offers e) (next_in row.offers e) (λ a. fails u a t (λ e. stays c e && X e)) (λ b. fails w b t X)
          (λ a b is. m.same_fails b t X is.known ∙ is.after_fail t X) (related e)
          ∙ ap (λ b. (stays c e && list_all (stays c) t) && b) (sym (fails_cons u p e t (λ e. stays c e && X e)) ∙ sym (m.same_fails p (e ∷ t) (λ e. stays c e && X e) h))

      after_end : (t : List Event) (x : ℕ) → ends w r t x ≡ (list_all (stays c) t && ends_after c (ends w p t) x)
      after_end [] x = ends_made w r row made [] x ∙ l.stored.same row.ends x ends_are.known ∙ ends_is x ∙ after_same c (has u.store (row_of u p).ends) (ends w p []) (λ y. sym (ends_nil u p y) ∙ sym (m.same_ends p [] y h)) x
      after_end (e ∷ t) x = ends_made w r row made (e ∷ t) x
          ∙ step (IsChanged u c) (stays c e) (list_all (stays c) t) (next_in (row_of u p).offers e) (next_in row.offers e) (λ a. ends_after c (ends u a t) x) (λ b. ends w b t x)
          (λ a b is. m.same_ends b t x is.known ∙ is.after_end t x) (related e)
          ∙ ap (λ b. (stays c e && list_all (stays c) t) && b) (after_goes c (next_in (row_of u p).offers e) (λ a. ends u a t) x
          ∙ after_same c (λ y. goes_on (next_in (row_of u p).offers e) (λ a. ends u a t y)) (ends w p (e ∷ t)) (λ y. sym (ends_cons u p e t y) ∙ sym (m.same_ends p (e ∷ t) y h)) x)

-- ---- the offers
pub offers_later : (v w : World) → Leads v w → (c : Change) (olds news : List (Event × NodeId)) → Paired (IsChanged v c) olds news → Paired (IsChanged w c) olds news
offers_later v w k c olds news p = paired_more (IsChanged v c) (IsChanged w c) (changed_later v w k c) olds news p

-- an offer that stays leads to an earlier node
pub open_below : (w : World) (c : Change) (p : NodeId) (items : List (Event × NodeId)) (i : ℕ) (d : Event × NodeId) → IsNode w p → items ≡ filter (λ o. stays c o.0) (row_of w p).offers → i < length items → (get_or items i d).1.0 < p.0
open_below w c p items i d h e k = item_below p.0 items i d (subst (λ os. are_below p.0 os ≡ true) (sym e) (below_filter p.0 (stays c) (row_of w p).offers (is_row w p h).earlier)) k
