use Rattle.std.proofs.Common.{◌≡◌, ◌<◌, ◌≤◌, ◌^◌, ℕ, Bool, true, false, List, [], ◌∷◌, Some, None, nat_lt, ⊎_elim, refl, sym, ap, ◌∙◌, subst, arith}
use Rattle.occ_accept.specs.occ_base.declared.event.Event.{Event}
use Rattle.occ_mdd.specs.occ_dd.Store.{IsKnown, Keeps, has}
use Rattle.occ_mdd.specs.occ_dd.declared.set.SetId.{SetId}
use Rattle.occ_mdd.proofs.from_dd.Callers.{keeps_refl, keeps_trans, known-keeps}
use Rattle.occ_mdd.specs.occ_dd.declared.store.Store.{Store}
use Rattle.occ_accept.specs.Accept.{in_set, in_some, misses, refuses}
use Rattle.occ_accept.specs.Order.{strict}
use Rattle.occ_accept.proofs.Strict.{all_at, all_each, any_at, any_one}
use Rattle.occ_accept.proofs.Events.{cmp_total, event_exact, sets_total, set_exact}
use Rattle.std.specs.List.{list_all}
use Rattle.std.proofs.lemmas.Bool.{and_from, both_ways, false≢true, lt-ltb, or_cases, or_left}
use Rattle.occ_node.specs.Offers.{offer_cmp, next_in, is_offered, are_below, are_offered}
use Rattle.occ_node.specs.Rows.{IsAlive, goes_on, node_fails, node_ends}
use Rattle.occ_node.specs.World.{nodes_of, IsNode, row_of, fails, ends, row_fails, row_ends, Grows, Leads, IsFit, IsMade}
use Rattle.occ_node.specs.declared.node.NodeId.{NodeId}
use Rattle.occ_node.specs.declared.row.Row.{Row}
use Rattle.occ_node.specs.declared.world.World.{World}
use Rattle.occ_node.proofs.Table.{Holds, below_at, holds_refl}
use Rattle.occ_node.proofs.Places.{events_offered}
use Rattle.occ_node.proofs.Worlds.{is_row, leads_from}
-- What callers of a world cite.
pub use Rattle.occ_node.proofs.Worlds.{is_row}

-- ---- behaviours, one event at a time
pub fails_nil : (w : World) (a : NodeId) (X : Event → Bool) → fails w a [] X ≡ refuses (row_of w a).accepts X
unfolding fails node_fails row_of
fails_nil w a X = refl

pub fails_cons : (w : World) (a : NodeId) (e : Event) (t : List Event) (X : Event → Bool) → fails w a (e ∷ t) X ≡ goes_on (next_in (row_of w a).offers e) (λ b. fails w b t X)
unfolding fails node_fails row_of
fails_cons w a e t X = refl

pub ends_nil : (w : World) (a : NodeId) (x : ℕ) → ends w a [] x ≡ has w.store (row_of w a).ends x
unfolding ends node_ends row_of
ends_nil w a x = refl

pub ends_cons : (w : World) (a : NodeId) (e : Event) (t : List Event) (x : ℕ) → ends w a (e ∷ t) x ≡ goes_on (next_in (row_of w a).offers e) (λ b. ends w b t x)
unfolding ends node_ends row_of
ends_cons w a e t x = refl

pub fails_some : (w : World) (a b : NodeId) (e : Event) (t : List Event) (X : Event → Bool) → next_in (row_of w a).offers e ≡ Some b → fails w a (e ∷ t) X ≡ fails w b t X
fails_some w a b e t X h = fails_cons w a e t X ∙ ap (λ o. goes_on o (λ b. fails w b t X)) h

pub fails_none : (w : World) (a : NodeId) (e : Event) (t : List Event) (X : Event → Bool) → next_in (row_of w a).offers e ≡ None → fails w a (e ∷ t) X ≡ false
fails_none w a e t X h = fails_cons w a e t X ∙ ap (λ o. goes_on o (λ b. fails w b t X)) h

pub ends_some : (w : World) (a b : NodeId) (e : Event) (t : List Event) (x : ℕ) → next_in (row_of w a).offers e ≡ Some b → ends w a (e ∷ t) x ≡ ends w b t x
ends_some w a b e t x h = ends_cons w a e t x ∙ ap (λ o. goes_on o (λ b. ends w b t x)) h

pub ends_none : (w : World) (a : NodeId) (e : Event) (t : List Event) (x : ℕ) → next_in (row_of w a).offers e ≡ None → ends w a (e ∷ t) x ≡ false
ends_none w a e t x h = ends_cons w a e t x ∙ ap (λ o. goes_on o (λ b. ends w b t x)) h

-- the behaviours of a node are those of its row
pub fails_row : (w : World) (a : NodeId) (t : List Event) (X : Event → Bool) → fails w a t X ≡ row_fails w (row_of w a) t X
fails_row w a [] X = fails_nil w a X
fails_row w a (e ∷ t) X = fails_cons w a e t X

pub ends_row : (w : World) (a : NodeId) (t : List Event) (x : ℕ) → ends w a t x ≡ row_ends w (row_of w a) t x
ends_row w a [] x = ends_nil w a x
ends_row w a (e ∷ t) x = ends_cons w a e t x

-- the behaviours of a node that was made are those of the row that it was made of
pub fails_made : (w : World) (a : NodeId) (r : Row) → IsMade w a r → (t : List Event) (X : Event → Bool) → fails w a t X ≡ row_fails w r t X
fails_made w a r made t X = fails_row w a t X ∙ ap (λ r. row_fails w r t X) made.row

pub ends_made : (w : World) (a : NodeId) (r : Row) → IsMade w a r → (t : List Event) (x : ℕ) → ends w a t x ≡ row_ends w r t x
ends_made w a r made t x = ends_row w a t x ∙ ap (λ r. row_ends w r t x) made.row

-- an offered node is an earlier one
pub child_below : (w : World) (a b : NodeId) (e : Event) → IsNode w a → next_in (row_of w a).offers e ≡ Some b → b.0 < a.0
child_below w a b e h k = below_at a.0 (row_of w a).offers e b (is_row w a h).earlier k

pub child_node : (w : World) (a b : NodeId) (e : Event) → IsNode w a → next_in (row_of w a).offers e ≡ Some b → IsNode w b
child_node w a b e h k = let earlier : b.0 < a.0 = child_below w a b e h k in omega arith

pub offered_node : (w : World) (offers : List (Event × NodeId)) (e : Event) (b : NodeId) → are_below (nodes_of w) offers ≡ true → next_in offers e ≡ Some b → IsNode w b
offered_node w offers e b h k = below_at (nodes_of w) offers e b h k

-- ---- growth
pub leads_refl : (w : World) → Leads w w
leads_refl w = record { stored = keeps_refl w.store; more = omega arith; kept = λ a h. refl; same_fails = λ a t X h. refl; same_ends = λ a t x h. refl; maps = refl }

pub node-leads : (v w : World) → Leads v w → (a : NodeId) → IsNode v a → IsNode w a
node-leads v w k a h = let more : nodes_of v ≤ nodes_of w = k.more in omega arith

pub set-leads : (v w : World) → Leads v w → (s : SetId) → IsKnown v.store s → IsKnown w.store s
set-leads v w k s h = known-keeps v.store w.store k.stored s h

pub leads_trans : (u v w : World) → Leads u v → Leads v w → Leads u w
leads_trans u v w k l =
    let first : nodes_of u ≤ nodes_of v = k.more in
    let second : nodes_of v ≤ nodes_of w = l.more in
    record {
      stored = keeps_trans u.store v.store w.store k.stored l.stored;
      more = omega arith;
      kept = λ a h. l.kept a (node-leads u v k a h) ∙ k.kept a h;
      same_fails = λ a t X h. l.same_fails a t X (node-leads u v k a h) ∙ k.same_fails a t X h;
      same_ends = λ a t x h. l.same_ends a t x (node-leads u v k a h) ∙ k.same_ends a t x h;
      maps = l.maps ∙ k.maps;
    }

-- a world whose store alone has grown
pub leads_store : (v w : World) → Keeps v.store w.store → w.rows ≡ v.rows → w.maps ≡ v.maps → Leads v w
leads_store v w keeps rows maps = leads_from v w keeps (subst (λ r. Holds v.rows.keys r.keys) (sym rows) (holds_refl v.rows.keys)) maps

pub grows_leads : (v w : World) → Leads v w → Grows v w
grows_leads v w k = record { stored = k.stored; more = k.more; kept = k.kept; same_fails = k.same_fails; same_ends = k.same_ends }

pub grows_refl : (w : World) → Grows w w
grows_refl w = grows_leads w w (leads_refl w)

pub grows_trans : (u v w : World) → Grows u v → Grows v w → Grows u w
grows_trans u v w k l =
    let first : nodes_of u ≤ nodes_of v = k.more in
    let second : nodes_of v ≤ nodes_of w = l.more in
    record {
      stored = keeps_trans u.store v.store w.store k.stored l.stored;
      more = omega arith;
      kept = λ a h. l.kept a (omega arith) ∙ k.kept a h;
      same_fails = λ a t X h. l.same_fails a t X (omega arith) ∙ k.same_fails a t X h;
      same_ends = λ a t x h. l.same_ends a t x (omega arith) ∙ k.same_ends a t x h;
    }

-- ---- that a row fits
pub within_offers : (offers : List (Event × NodeId)) (sets : List (List Event)) → ((e : Event) → in_some sets e ≡ true → is_offered offers e ≡ true) → are_offered offers sets ≡ true
within_offers offers sets h = all_each sets_total set_exact (list_all (is_offered offers)) sets
    (λ set k. all_each cmp_total event_exact (is_offered offers) set (λ e m. h e (any_at sets_total set_exact (λ set. in_set set e) sets set k m)))

pub in_offers : (offers : List (Event × NodeId)) (sets : List (List Event)) (e : Event) → are_offered offers sets ≡ true → in_some sets e ≡ true → is_offered offers e ≡ true
in_offers offers sets e h k =
    let w = any_one sets_total set_exact (λ set. in_set set e) sets k in
    all_at cmp_total event_exact (is_offered offers) w.0 e (all_at sets_total set_exact (list_all (is_offered offers)) sets w.0 h w.1) w.2

pub alive_refuses : (s : Store) (r : Row) (X : Event → Bool) → refuses r.accepts X ≡ true → IsAlive s r
alive_refuses s r X h none no_end = both_ways (refuses r.accepts X) (ap (λ sets. refuses sets X) none) h

pub alive_ends : (s : Store) (r : Row) (x : ℕ) → x < 2 ^ 64 → has s r.ends x ≡ true → IsAlive s r
alive_ends s r x small h none no_end = both_ways (has s r.ends x) (no_end x small) h

nothing_missed : (set : List Event) → misses (λ e. false) set ≡ true
nothing_missed [] = refl
nothing_missed (e ∷ set) = nothing_missed set

-- a row that accepts one set of events, all of them offered
pub fit_waiting : (w : World) (ends : SetId) (accepts : List (List Event)) (offers : List (Event × NodeId)) (set : List Event) → IsKnown w.store ends → strict offer_cmp offers ≡ true → are_below (nodes_of w) offers ≡ true
    → ((X : Event → Bool) → refuses accepts X ≡ refuses (set ∷ []) X) → ((e : Event) → in_some accepts e ≡ true → in_some (set ∷ []) e ≡ true) → ((e : Event) → in_set set e ≡ true → is_offered offers e ≡ true)
    → IsFit w (record { ends = ends; accepts = accepts; offers = offers })
fit_waiting w ends accepts offers set known increasing there same events offered = record {
  known = known;
  increasing = increasing;
  there = there;
  offered = within_offers offers accepts (λ e h. ⊎_elim
      (λ (k : in_set set e ≡ true). offered e k)
      (λ (k : false ≡ true). absurd (false≢true k))
      (or_cases (in_set set e) false (events e h)));
  alive = alive_refuses w.store (record { ends = ends; accepts = accepts; offers = offers }) (λ e. false) (same (λ e. false) ∙ or_left (misses (λ e. false) set) false (nothing_missed set));
}

-- a row that waits for one event
pub fit_one : (w : World) (ends : SetId) (accepts : List (List Event)) (offers : List (Event × NodeId)) (set : List Event) (e : Event) (n : NodeId) → IsKnown w.store ends → offers ≡ (e, n) ∷ [] → set ≡ e ∷ [] → IsNode w n
    → ((X : Event → Bool) → refuses accepts X ≡ refuses (set ∷ []) X) → ((f : Event) → in_some accepts f ≡ true → in_some (set ∷ []) f ≡ true)
    → IsFit w (record { ends = ends; accepts = accepts; offers = offers })
fit_one w ends accepts offers set e n known one is node same events = fit_waiting w ends accepts offers set known (ap (strict offer_cmp) one)
    (ap (are_below (nodes_of w)) one ∙ and_from (nat_lt n.0 (nodes_of w)) true (lt-ltb n.0 (nodes_of w) node) refl) same events
    (λ f h. ap (λ xs. is_offered xs f) one ∙ sym (events_offered ((e, n) ∷ []) f) ∙ sym (ap (λ s. in_set s f) is) ∙ h)

-- a row that waits for nothing
pub fit_nothing : (w : World) (ends : SetId) (accepts : List (List Event)) (offers : List (Event × NodeId)) (set : List Event) → IsKnown w.store ends → offers ≡ [] → set ≡ []
    → ((X : Event → Bool) → refuses accepts X ≡ refuses (set ∷ []) X) → ((f : Event) → in_some accepts f ≡ true → in_some (set ∷ []) f ≡ true)
    → IsFit w (record { ends = ends; accepts = accepts; offers = offers })
fit_nothing w ends accepts offers set known none is same events = fit_waiting w ends accepts offers set known (ap (strict offer_cmp) none) (ap (are_below (nodes_of w)) none) same events
    (λ f h. absurd (both_ways (in_set set f) (ap (λ s. in_set s f) is) h))
