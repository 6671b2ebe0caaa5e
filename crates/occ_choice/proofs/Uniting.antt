use Rattle.std.proofs.Common.{◌≡◌, ◌<◌, ◌+◌, ◌*◌, ◌||◌, ◌++◌, ℕ, Bool, true, false, List, [], ◌∷◌, Option, Some, None, length, get_or, take, is_some, nat_lt, refl, sym, ap, ◌∙◌, subst, ⊎_elim, arith}
use Rattle.std.proofs.lemmas.Bool.{or_cases, or_parts, or_left, or_right, both_ways, true≢false, ltb-true, lt-ltb}
use Rattle.std.specs.Option.{IfSome}
use Rattle.occ_node.specs.occ_base.declared.event.Event.{Event}
use Rattle.occ_node.specs.occ_dd.Store.{IsSet, has}
use Rattle.occ_node.specs.occ_accept.Order.{event_cmp, strict}
use Rattle.occ_node.specs.occ_accept.Accept.{in_set, in_some, misses, refuses}
use Rattle.occ_node.proofs.from_accept.Strict.{all_more}
use Rattle.occ_node.specs.Offers.{next_in, is_offered}
use Rattle.occ_node.specs.Rows.{goes_on}
use Rattle.occ_node.specs.World.{IsNode, nodes_of, row_of, fails, ends, row_fails, row_ends, Leads, IsFit, IsMade}
use Rattle.occ_node.specs.declared.node.NodeId.{NodeId}
use Rattle.occ_node.specs.declared.row.Row.{Row}
use Rattle.occ_node.specs.declared.world.World.{World}
use Rattle.occ_node.proofs.Behaviours.{fails_nil, fails_cons, ends_nil, ends_cons, fails_row, ends_row, fails_made, ends_made, is_row, child_below, child_node, node-leads, set-leads, within_offers, in_offers}
use Rattle.occ_choice.specs.Union.{IsUnion, IsAdded, AreUnions, node_id}
use Rattle.occ_choice.specs.Joined.{IsSound, maybe_fails, maybe_ends, Reaches, IsEither, AreReached, weight}
use Rattle.occ_choice.specs.declared.unions.Unions.{Unions}
use Rattle.occ_choice.proofs.Reaching.{maybe_fails-leads, maybe_ends-leads, some-leads, reaches_same, offers_fail, offers_end, reached_strict, reached_below, reached_offered, reached-leads, below-leads, reached_push, next_known}

-- ---- unions in later worlds
pub union-leads : (v w : World) → Leads v w → (a b r : NodeId) → IsUnion v a b r → IsUnion w a b r
union-leads v w k a b r is = record {
  first = node-leads v w k a is.first;
  second = node-leads v w k b is.second;
  known = node-leads v w k r is.known;
  both_fail = λ t X. k.same_fails r t X is.known ∙ is.both_fail t X ∙ (λ i. sym (k.same_fails a t X is.first) i || sym (k.same_fails b t X is.second) i);
  both_end = λ t x. k.same_ends r t x is.known ∙ is.both_end t x ∙ (λ i. sym (k.same_ends a t x is.first) i || sym (k.same_ends b t x is.second) i);
}

pub unions-lead : (v w : World) (u : Unions) → Leads v w → AreUnions v u → AreUnions w u
unions-lead v w u k are = record { each = λ call r e. union-leads v w k (node_id call.first) (node_id call.second) (node_id r) (are.each call r e) }

-- the row of a node, and a node
pub union_added : (v w : World) → Leads v w → (a b r : NodeId) (row : Row) → IsNode v a → IsNode v b → row ≡ row_of v a → IsAdded v w row b r → IsUnion w a b r
union_added v w k a b r row ha hb is added = record {
  first = node-leads v w k a ha;
  second = node-leads v w k b hb;
  known = added.known;
  both_fail = λ t X. added.both_fail t X ∙ (λ i. (ap (λ r. row_fails v r t X) is ∙ sym (fails_row v a t X) ∙ sym (k.same_fails a t X ha)) i || sym (k.same_fails b t X hb) i);
  both_end = λ t x. added.both_end t x ∙ (λ i. (ap (λ r. row_ends v r t x) is ∙ sym (ends_row v a t x) ∙ sym (k.same_ends a t x ha)) i || sym (k.same_ends b t x hb) i);
}

pub sound_row : (w : World) (a : NodeId) (row : Row) → IsNode w a → row ≡ row_of w a → IsSound w row
sound_row w a row h is = subst (IsSound w) (sym is) (
    let r = is_row w a h in
    record {
      known = r.known;
      increasing = r.increasing;
      there = all_more (λ (o : Event × NodeId). nat_lt o.1.0 a.0) (λ o. nat_lt o.1.0 (nodes_of w)) (λ o m. let l : o.1.0 < a.0 = ltb-true o.1.0 a.0 m in lt-ltb o.1.0 (nodes_of w) (omega arith)) (row_of w a).offers r.earlier;
      offered = r.offered;
    })

-- ---- one of two nodes, or both

-- the measure falls from a node to what it offers
pub weight_below : (v w : World) → Leads v w → (b : NodeId) (e : Event) (q : Option NodeId) → IsNode v b → q ≡ next_in (row_of w b).offers e → weight q < 3 * b.0 + 1
weight_below v w k b e None h is = omega arith
weight_below v w k b e (Some c) h is = let below : c.0 < b.0 = child_below w b c e (node-leads v w k b h) (sym is) in omega arith

-- ---- a step of the offers of a row and a node
module _ (u v w : World) (row : Row) (b : NodeId) (k : Leads u v) (sound : IsSound u row) (known : IsNode u b) where
  pub first_known : (e : Event) (p : Option NodeId) → p ≡ next_in row.offers e → IfSome p (IsNode v)
  first_known e p is = subst (λ o. IfSome o (IsNode v)) (sym is) (some-leads u v k (next_in row.offers e) (next_known u row.offers e sound.there))

  pub second_known : (e : Event) (q : Option NodeId) → q ≡ next_in (row_of v b).offers e → IfSome q (IsNode v)
  second_known e None is = tt
  second_known e (Some c) is = child_node v b c e (node-leads u v k b known) (sym is)

  same_next : (e : Event) (q : Option NodeId) → q ≡ next_in (row_of v b).offers e → q ≡ next_in (row_of u b).offers e
  same_next e q is = is ∙ ap (λ (r : Row). next_in r.offers e) (k.kept b known)

  pub reached_next : (e : Event) (p q r : Option NodeId) (n : NodeId) → p ≡ next_in row.offers e → q ≡ next_in (row_of v b).offers e → IsEither v w p q r → r ≡ Some n
      → Reaches w (Some n) (λ t X. row_fails u row (e ∷ t) X || fails u b (e ∷ t) X) (λ t x. row_ends u row (e ∷ t) x || ends u b (e ∷ t) x)
  reached_next e p q r n is at both some = subst (λ o. Reaches w o (λ t X. row_fails u row (e ∷ t) X || fails u b (e ∷ t) X) (λ t x. row_ends u row (e ∷ t) x || ends u b (e ∷ t) x)) some
      (reaches_same w r _ _ _ _
      (λ t X i. (ap (λ o. maybe_fails v o t X) is ∙ maybe_fails-leads u v k (next_in row.offers e) (next_known u row.offers e sound.there) t X) i
      || (ap (λ o. maybe_fails v o t X) (same_next e q at) ∙ maybe_fails-leads u v k (next_in (row_of u b).offers e) (next_known u (row_of u b).offers e (sound_row u b (row_of u b) known refl).there) t X ∙ sym (fails_cons u b e t X)) i)
      (λ t x i. (ap (λ o. maybe_ends v o t x) is ∙ maybe_ends-leads u v k (next_in row.offers e) (next_known u row.offers e sound.there) t x) i
      || (ap (λ o. maybe_ends v o t x) (same_next e q at) ∙ maybe_ends-leads u v k (next_in (row_of u b).offers e) (next_known u (row_of u b).offers e (sound_row u b (row_of u b) known refl).there) t x ∙ sym (ends_cons u b e t x)) i)
      both.both)

  pub added_more : (l : Leads v w) (e d : Event) (p q r : Option NodeId) (n : NodeId) (offers new : List (Event × NodeId)) (events : List Event) (i : ℕ) → p ≡ next_in row.offers e → q ≡ next_in (row_of v b).offers e → IsEither v w p q r → r ≡ Some n
      → i < length events → e ≡ get_or events i d → AreReached v offers (take i events) (λ t X. row_fails u row t X || fails u b t X) (λ t x. row_ends u row t x || ends u b t x) → new ≡ offers ++ (e, n) ∷ []
      → AreReached w new (take (i + 1) events) (λ t X. row_fails u row t X || fails u b t X) (λ t x. row_ends u row t x || ends u b t x)
  added_more l e d p q r n offers new events i is at both some h here reached more =
      subst (λ os. AreReached w os (take (i + 1) events) (λ t X. row_fails u row t X || fails u b t X) (λ t x. row_ends u row t x || ends u b t x)) (sym more)
      (reached_push w offers events i e d n _ _ h here (reached-leads v w l offers (take i events) _ _ reached) (reached_next e p q r n is at both some))

-- ---- the row of both
nothing_missed : (set : List Event) → misses (λ e. false) set ≡ true
nothing_missed [] = refl
nothing_missed (e ∷ set) = nothing_missed set

nothing_refused : (sets : List (List Event)) → refuses sets (λ e. false) ≡ false → sets ≡ []
nothing_refused [] h = refl
nothing_refused (a ∷ sets) h = absurd (both_ways (misses (λ e. false) a) (or_parts (misses (λ e. false) a) (refuses sets (λ e. false)) h).0 (nothing_missed a))

module _ (u v : World) (k : Leads u v) (row other : Row) (b : NodeId) (made : Row) (events : List Event) (sound : IsSound u row) (known : IsNode u b) (is_other : other ≡ row_of u b)
    (reached : AreReached u made.offers events (λ t X. row_fails u row t X || fails u b t X) (λ t x. row_ends u row t x || ends u b t x))
    (all : (e : Event) → in_set events e ≡ (is_offered row.offers e || is_offered (row_of u b).offers e))
    (accepted : (X : Event → Bool) → refuses made.accepts X ≡ (refuses row.accepts X || refuses other.accepts X))
    (ended : IsSet v.store made.ends (λ x. has u.store row.ends x || has u.store other.ends x)) where
  accepts : (X : Event → Bool) → refuses made.accepts X ≡ (refuses row.accepts X || refuses (row_of u b).accepts X)
  accepts X = accepted X ∙ ap (λ (r : Row). refuses row.accepts X || refuses r.accepts X) is_other

  ends_are : IsSet v.store made.ends (λ x. has u.store row.ends x || has u.store (row_of u b).ends x)
  ends_are = subst (λ (r : Row). IsSet v.store made.ends (λ x. has u.store row.ends x || has u.store r.ends x)) is_other ended

  pub joined_fit : strict event_cmp events ≡ true → ((e : Event) → in_some made.accepts e ≡ true → (in_some row.accepts e || in_some other.accepts e) ≡ true) → IsFit v made
  joined_fit increasing from = record {
    known = ends_are.known;
    increasing = reached_strict u made.offers events _ _ reached increasing;
    there = reached_below v made.offers events _ _ (reached-leads u v k made.offers events _ _ reached);
    offered = within_offers made.offers made.accepts (λ e h. sym (reached_offered u made.offers events _ _ reached e) ∙ all e ∙ ⊎_elim
        (λ (m : in_some row.accepts e ≡ true). or_left (is_offered row.offers e) (is_offered (row_of u b).offers e) (in_offers row.offers row.accepts e sound.offered m))
        (λ (m : in_some (row_of u b).accepts e ≡ true). or_right (is_offered row.offers e) (is_offered (row_of u b).offers e) (in_offers (row_of u b).offers (row_of u b).accepts e (is_row u b known).offered m))
        (or_cases (in_some row.accepts e) (in_some (row_of u b).accepts e) (sym (ap (λ (r : Row). in_some row.accepts e || in_some r.accepts e) is_other) ∙ from e h)));
    alive = λ none no_end. (is_row u b known).alive
        (nothing_refused (row_of u b).accepts (or_parts (refuses row.accepts (λ e. false)) (refuses (row_of u b).accepts (λ e. false)) (sym (accepts (λ e. false)) ∙ ap (λ sets. refuses sets (λ e. false)) none)).1)
        (λ x small. (or_parts (has u.store row.ends x) (has u.store (row_of u b).ends x) (sym (ends_are.members x) ∙ no_end x small)).1);
  }

  none_first : (e : Event) (o : Option NodeId) → is_some o ≡ false → o ≡ None
  none_first e None h = refl
  none_first e (Some n) h = absurd (true≢false h)

  joined_out : (e : Event) → in_set events e ≡ false → (next_in row.offers e ≡ None) × (next_in (row_of u b).offers e ≡ None)
  joined_out e h = let p = or_parts (is_offered row.offers e) (is_offered (row_of u b).offers e) (sym (all e) ∙ h) in (none_first e (next_in row.offers e) p.0, none_first e (next_in (row_of u b).offers e) p.1)

  pub joined_added : (w : World) → Leads v w → Leads u w → (r : NodeId) → IsMade w r made → IsAdded u w row b r
  joined_added w l m r is = record {
    known = is.known;
    both_fail = both_fail;
    both_end = both_end;
  }
    where
      later : AreReached w made.offers events (λ t X. row_fails u row t X || fails u b t X) (λ t x. row_ends u row t x || ends u b t x)
      later = reached-leads u w m made.offers events _ _ reached

      both_fail : (t : List Event) (X : Event → Bool) → fails w r t X ≡ (row_fails u row t X || fails u b t X)
      both_fail [] X = fails_made w r made is [] X ∙ accepts X ∙ ap (λ c. refuses row.accepts X || c) (sym (fails_nil u b X))
      both_fail (e ∷ t) X = fails_made w r made is (e ∷ t) X ∙ offers_fail w made.offers events _ _ later e t X
          (λ h. let p = joined_out e h in (λ i. goes_on (p.0 i) (λ a. fails u a t X) || (fails_cons u b e t X ∙ ap (λ o. goes_on o (λ a. fails u a t X)) p.1) i))

      both_end : (t : List Event) (x : ℕ) → ends w r t x ≡ (row_ends u row t x || ends u b t x)
      both_end [] x = ends_made w r made is [] x ∙ l.stored.same made.ends x ends_are.known ∙ ends_are.members x ∙ ap (λ c. has u.store row.ends x || c) (sym (ends_nil u b x))
      both_end (e ∷ t) x = ends_made w r made is (e ∷ t) x ∙ offers_end w made.offers events _ _ later e t x
          (λ h. let p = joined_out e h in (λ i. goes_on (p.0 i) (λ a. ends u a t x) || (ends_cons u b e t x ∙ ap (λ o. goes_on o (λ a. ends u a t x)) p.1) i))

-- ---- what a row had, in a later world
pub sound-leads : (v w : World) → Leads v w → (row : Row) → IsSound v row → IsSound w row
sound-leads v w k row is = record { known = set-leads v w k row.ends is.known; increasing = is.increasing; there = below-leads v w k row.offers is.there; offered = is.offered }

pub row_fails-leads : (v w : World) → Leads v w → (row : Row) → IsSound v row → (t : List Event) (X : Event → Bool) → row_fails w row t X ≡ row_fails v row t X
row_fails-leads v w k row is [] X = refl
row_fails-leads v w k row is (e ∷ t) X = maybe_fails-leads v w k (next_in row.offers e) (next_known v row.offers e is.there) t X

pub row_ends-leads : (v w : World) → Leads v w → (row : Row) → IsSound v row → (t : List Event) (x : ℕ) → row_ends w row t x ≡ row_ends v row t x
row_ends-leads v w k row is [] x = k.stored.same row.ends x is.known
row_ends-leads v w k row is (e ∷ t) x = maybe_ends-leads v w k (next_in row.offers e) (next_known v row.offers e is.there) t x

module _ (u v : World) (k : Leads u v) (row : Row) (b : NodeId) (sound : IsSound u row) (known : IsNode u b) where
  pub reached_now : (offers : List (Event × NodeId)) (events : List Event) → AreReached v offers events (λ t X. row_fails u row t X || fails u b t X) (λ t x. row_ends u row t x || ends u b t x)
      → AreReached v offers events (λ t X. row_fails v row t X || fails v b t X) (λ t x. row_ends v row t x || ends v b t x)
  reached_now offers events are = record {
    events_are = are.events_are;
    lead_on = λ i d h. let o = get_or offers i d in reaches_same v (Some o.1) _ _ _ _
        (λ t X j. sym (row_fails-leads u v k row sound (o.0 ∷ t) X) j || sym (k.same_fails b (o.0 ∷ t) X known) j)
        (λ t x j. sym (row_ends-leads u v k row sound (o.0 ∷ t) x) j || sym (k.same_ends b (o.0 ∷ t) x known) j)
        (are.lead_on i d h);
  }

  pub added_earlier : (w : World) (r : NodeId) → IsAdded v w row b r → IsAdded u w row b r
  added_earlier w r is = record {
    known = is.known;
    both_fail = λ t X. is.both_fail t X ∙ (λ i. row_fails-leads u v k row sound t X i || k.same_fails b t X known i);
    both_end = λ t x. is.both_end t x ∙ (λ i. row_ends-leads u v k row sound t x i || k.same_ends b t x known i);
  }
