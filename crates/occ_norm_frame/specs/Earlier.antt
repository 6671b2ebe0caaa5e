-- Worlds that grow, said by definitions alone: what the laws of an impl may rest on, which can't cite the proofs of another crate.
use Rattle.std.proofs.Common.{◌≡◌, ◌<◌, ◌≤◌, ◌||◌, ℕ, zero, suc, Bool, true, false, cond, List, [], ◌∷◌, Option, Some, length, slice_get, nat_lt, ⊎_elim, refl, sym, ap, ◌∙◌, subst, arith}
use Rattle.std.proofs.lemmas.Bool.{and_parts, cases_Bool, ltb-true}
use Rattle.std.proofs.lemmas.Option.{same_Some, slice_get-get_or}
use Rattle.std.specs.Prelude.{◌↔◌}
use Rattle.std.specs.List.{list_any, All}
use Rattle.std.specs.Ordering.{eq_by_cmp}
use Rattle.occ_syntax.specs.occ_base.declared.event.Event.{Event}
use Rattle.occ_bits.specs.occ_dd.Store.{sets_of, IsKnown, Keeps}
use Rattle.occ_bits.specs.occ_dd.declared.set.SetId.{SetId}
use Rattle.occ_bits.specs.occ_dd.declared.store.Store.{Store}
use Rattle.occ_weave.specs.occ_accept.Order.{event_cmp}
use Rattle.occ_weave.specs.occ_node.Offers.{next_in, are_below}
use Rattle.occ_weave.specs.occ_node.Rows.{IsRow, no_row, row_at}
use Rattle.occ_weave.specs.occ_node.World.{Grows, Leads, IsNode, nodes_of, row_of}
use Rattle.occ_weave.specs.occ_node.declared.node.NodeId.{NodeId}
use Rattle.occ_weave.specs.occ_node.declared.world.World.{World}

-- ---- sets
known_later : (s t : Store) → Keeps s t → (a : SetId) → IsKnown s a → IsKnown t a
known_later s t k a h = let more : sets_of s ≤ sets_of t = k.more in omega arith

keeps_through : (r s t : Store) → Keeps r s → Keeps s t → Keeps r t
keeps_through r s t k l =
    let first : sets_of r ≤ sets_of s = k.more in
    let second : sets_of s ≤ sets_of t = l.more in
    record {
      more = omega arith;
      same = λ a x h. l.same a x (known_later r s k a h) ∙ k.same a x h;
      depths = λ a h. l.depths a (known_later r s k a h) ∙ k.depths a h;
    }

-- ---- worlds
pub node_later : (v w : World) → Leads v w → (a : NodeId) → IsNode v a → IsNode w a
node_later v w k a h = let more : nodes_of v ≤ nodes_of w = k.more in omega arith

pub leads_itself : (w : World) → Leads w w
leads_itself w = record {
  stored = record { more = omega arith; same = λ a x h. refl; depths = λ a h. refl };
  more = omega arith;
  kept = λ a h. refl;
  same_fails = λ a t X h. refl;
  same_ends = λ a t x h. refl;
  maps = refl;
}

pub leads_through : (u v w : World) → Leads u v → Leads v w → Leads u w
leads_through u v w k l =
    let first : nodes_of u ≤ nodes_of v = k.more in
    let second : nodes_of v ≤ nodes_of w = l.more in
    record {
      stored = keeps_through u.store v.store w.store k.stored l.stored;
      more = omega arith;
      kept = λ a h. l.kept a (node_later u v k a h) ∙ k.kept a h;
      same_fails = λ a t X h. l.same_fails a t X (node_later u v k a h) ∙ k.same_fails a t X h;
      same_ends = λ a t x h. l.same_ends a t x (node_later u v k a h) ∙ k.same_ends a t x h;
      maps = l.maps ∙ k.maps;
    }

pub grows_so : (v w : World) → Leads v w → Grows v w
grows_so v w k = record { stored = k.stored; more = k.more; kept = k.kept; same_fails = k.same_fails; same_ends = k.same_ends }

-- ---- rows
pub row_there : (w : World) (a : NodeId) → IsNode w a → IsRow w.store a.0 (row_of w a)
unfolding nodes_of row_of
row_there w a h = w.right.each a.0 (row_at w.rows.keys a) (slice_get-get_or w.rows.keys a.0 no_row h)

below_there : (i : ℕ) (offers : List (Event × NodeId)) (e : Event) (b : NodeId) → are_below i offers ≡ true → next_in offers e ≡ Some b → b.0 < i
below_there i [] e b h k = cc
below_there i (o ∷ offers) e b h k =
    let p = and_parts (nat_lt o.1.0 i) (are_below i offers) h in
    ⊎_elim
    (λ (t : eq_by_cmp event_cmp e o.0 ≡ true).
    let same : o.1 ≡ b = same_Some o.1 b (sym (ap (λ c. cond c (Some o.1) (next_in offers e)) t) ∙ k) in
    subst (λ (n : NodeId). n.0 < i) same (ltb-true o.1.0 i p.0))
    (λ (f : eq_by_cmp event_cmp e o.0 ≡ false). below_there i offers e b p.1 (sym (ap (λ c. cond c (Some o.1) (next_in offers e)) f) ∙ k))
    (cases_Bool (eq_by_cmp event_cmp e o.0))

pub child_there : (w : World) (a b : NodeId) (e : Event) → IsNode w a → next_in (row_of w a).offers e ≡ Some b → IsNode w b
child_there w a b e h k = let earlier : b.0 < a.0 = below_there a.0 (row_of w a).offers e b (row_there w a h).earlier k in omega arith

-- ---- tests
pub any_alike : {A : Type 0} (p q : A → Bool) (xs : List A) → All (λ x. p x ≡ q x) xs → list_any p xs ≡ list_any q xs
any_alike p q [] h = refl
any_alike p q (x ∷ xs) h = λ i. h zero x (omega arith) i || any_alike p q xs (λ k d l. h (suc k) d (omega arith)) i

pub iff_through : {A B C : Type 0} → A ↔ B → B ↔ C → A ↔ C
iff_through f g = (λ a. g.0 (f.0 a), λ c. f.1 (g.1 c))

pub iff_of_equal : (s t : Bool) → s ≡ t → (s ≡ true) ↔ (t ≡ true)
iff_of_equal s t e = (λ h. sym e ∙ h, λ h. e ∙ h)

pub iff_beside : (P : Type 0) {A B : Type 0} → A ↔ B → (P × A) ↔ (P × B)
iff_beside P f = (λ x. (x.0, f.0 x.1), λ x. (x.0, f.1 x.1))
