use Rattle.std.proofs.Common.{◌≡◌, ◌<◌, ◌^◌, ℕ, zero, suc, Bool, true, false, not, ◌||◌, List, [], ◌∷◌, Option, Some, None, is_some, refl, sym, ap, ◌∙◌, inl, inr, ⊎_elim, arith}
use Rattle.std.proofs.lemmas.Bool.{cases_Bool, both_ways, false≢true}
use Rattle.occ_accept.specs.occ_base.declared.event.Event.{Event}
use Rattle.occ_mdd.specs.occ_dd.Store.{has}
use Rattle.occ_mdd.proofs.from_dd.Sets.{canonical_sets, empty_set}
use Rattle.occ_mdd.proofs.from_dd.Callers.{member-other}
use Rattle.occ_accept.specs.Accept.{in_set, is_part, misses, refuses}
use Rattle.occ_accept.proofs.Strict.{any_same}
use Rattle.occ_accept.proofs.Chains.{misses_outside, same_refusals}
use Rattle.occ_node.specs.Offers.{next_in}
use Rattle.occ_node.specs.Rows.{row_at}
use Rattle.occ_node.specs.World.{IsNode, row_of, fails, ends}
use Rattle.occ_node.specs.Canonical.{IsCanonical, IsRecovered, HasTrace}
use Rattle.occ_node.specs.declared.node.NodeId.{NodeId}
use Rattle.occ_node.specs.declared.world.World.{World}
use Rattle.occ_node.proofs.Table.{row_there, same_offers}
use Rattle.occ_node.proofs.Worlds.{is_row, node_row, row_of_is}
use Rattle.occ_node.proofs.Behaviours.{fails_nil, fails_some, fails_none, ends_nil, ends_some, ends_none, child_below, child_node}

-- Rows are recovered from their behaviours.

nothing_refused : (sets : List (List Event)) → refuses sets (λ e. false) ≡ false → sets ≡ []
nothing_refused [] h = refl
nothing_refused (a ∷ sets) h = absurd (both_ways (refuses (a ∷ sets) (λ e. false)) h (ap (λ b. b || refuses sets (λ e. false)) (all_missed a)))
  where
    all_missed : (a : List Event) → misses (λ e. false) a ≡ true
    all_missed [] = refl
    all_missed (e ∷ a) = all_missed a

-- a node has some behaviour
no_behaviour : (w : World) (a : NodeId) → IsNode w a → ((X : Event → Bool) → fails w a [] X ≡ false) → ((x : ℕ) → x < 2 ^ 64 → ends w a [] x ≡ false) → ⊥
no_behaviour w a h no_fail no_end = (is_row w a h).alive
    (nothing_refused (row_of w a).accepts (sym (fails_nil w a (λ e. false)) ∙ no_fail (λ e. false)))
    (λ x k. sym (ends_nil w a x) ∙ no_end x k)

module _ (w : World) where
  abbrev SameFails : NodeId → NodeId → Type 0
  SameFails a b = (t : List Event) (X : Event → Bool) → fails w a t X ≡ fails w b t X

  abbrev SameEnds : NodeId → NodeId → Type 0
  SameEnds a b = (t : List Event) (x : ℕ) → x < 2 ^ 64 → ends w a t x ≡ ends w b t x

  -- what the one offers the other offers too
  offered_too : (a b c : NodeId) (e : Event) → IsNode w a → IsNode w b → SameFails a b → SameEnds a b → next_in (row_of w a).offers e ≡ Some c → next_in (row_of w b).offers e ≡ None → ⊥
  offered_too a b c e ha hb f g there none = no_behaviour w c (child_node w a c e ha there)
      (λ X. sym (fails_some w a c e [] X there) ∙ f (e ∷ []) X ∙ fails_none w b e [] X none)
      (λ x k. sym (ends_some w a c e [] x there) ∙ g (e ∷ []) x k ∙ ends_none w b e [] x none)

  module _ (n : ℕ) (one : (a b : NodeId) → a.0 < n → IsNode w a → IsNode w b → SameFails a b → SameEnds a b → a ≡ b) where
    same_next : (a b : NodeId) (e : Event) → a.0 < suc n → IsNode w a → IsNode w b → SameFails a b → SameEnds a b
        → (o p : Option NodeId) → next_in (row_of w a).offers e ≡ o → next_in (row_of w b).offers e ≡ p → o ≡ p
    same_next a b e small ha hb f g None None h k = refl
    same_next a b e small ha hb f g None (Some d) h k = absurd (offered_too b a d e hb ha (λ t X. sym (f t X)) (λ t x l. sym (g t x l)) k h)
    same_next a b e small ha hb f g (Some c) None h k = absurd (offered_too a b c e ha hb f g h k)
    same_next a b e small ha hb f g (Some c) (Some d) h k =
        let earlier : c.0 < a.0 = child_below w a c e ha h in
        ap Some (one c d (omega arith) (child_node w a c e ha h) (child_node w b d e hb k)
        (λ t X. sym (fails_some w a c e t X h) ∙ f (e ∷ t) X ∙ fails_some w b d e t X k)
        (λ t x l. sym (ends_some w a c e t x h) ∙ g (e ∷ t) x l ∙ ends_some w b d e t x k))

    same_row : (a b : NodeId) → a.0 < suc n → IsNode w a → IsNode w b → SameFails a b → SameEnds a b → row_of w a ≡ row_of w b
    same_row a b small ha hb f g =
        let ra = is_row w a ha in
        let rb = is_row w b hb in
        let ends : (row_of w a).ends ≡ (row_of w b).ends = (canonical_sets w.store).one (row_of w a).ends (row_of w b).ends ra.known rb.known (λ x k. sym (ends_nil w a x) ∙ g [] x k ∙ ends_nil w b x) in
        let accepts : (row_of w a).accepts ≡ (row_of w b).accepts = same_refusals (row_of w a).accepts (row_of w b).accepts ra.chain rb.chain (λ X. sym (fails_nil w a X) ∙ f [] X ∙ fails_nil w b X) in
        let offers : (row_of w a).offers ≡ (row_of w b).offers = same_offers (row_of w a).offers (row_of w b).offers ra.increasing rb.increasing
        (λ e. same_next a b e small ha hb f g (next_in (row_of w a).offers e) (next_in (row_of w b).offers e) refl refl) in
        λ i. record { ends = ends i; accepts = accepts i; offers = offers i }

    same_number : (a b : NodeId) → a.0 < suc n → IsNode w a → IsNode w b → SameFails a b → SameEnds a b → a ≡ b
    same_number a b small ha hb f g =
        let rows : row_at w.rows.keys a ≡ row_at w.rows.keys b = sym (row_of_is w a) ∙ same_row a b small ha hb f g ∙ row_of_is w b in
        let number : a.0 ≡ b.0 = w.right.single a.0 b.0 (row_at w.rows.keys b) (row_there w.rows.keys a (node_row w a ha) ∙ ap Some rows) (row_there w.rows.keys b (node_row w b hb)) in
        λ i. record { 0 = number i }

  one_below : (n : ℕ) (a b : NodeId) → a.0 < n → IsNode w a → IsNode w b → SameFails a b → SameEnds a b → a ≡ b
  one_below zero a b small ha hb f g = absurd (omega arith)
  one_below (suc n) a b small ha hb f g = same_number n (one_below n) a b small ha hb f g

  -- nodes of equal behaviours are equal
  pub canonical : IsCanonical w
  canonical = record { one = λ a b ha hb f g. one_below (suc a.0) a b (omega arith) ha hb f g }

-- ---- what a row offers and accepts
some_end : (w : World) (a : NodeId) → IsNode w a → (row_of w a).accepts ≡ [] → (x : ℕ) × (x < 2 ^ 64) × (has w.store (row_of w a).ends x ≡ true)
some_end w a h none =
    let is = is_row w a h in
    let empty = empty_set w.store in
    member-other w.store (row_of w a).ends (record { 0 = w.store.empty }) is.known empty
    (λ (same : (row_of w a).ends.0 ≡ w.store.empty). is.alive none (λ x k. ap (λ (n : ℕ). has w.store (record { 0 = n }) x) same ∙ empty.members x))

trace_at : (w : World) (a : NodeId) → IsNode w a → HasTrace w a []
trace_at w a h = ⊎_elim
    (λ (k : fails w a [] (λ e. false) ≡ true). inl k)
    (λ (k : fails w a [] (λ e. false) ≡ false). let v = some_end w a h (nothing_refused (row_of w a).accepts (sym (fails_nil w a (λ e. false)) ∙ k)) in
    inr (v.0, v.1, ends_nil w a v.0 ∙ v.2))
    (cases_Bool (fails w a [] (λ e. false)))

trace_from : (w : World) (a : NodeId) (e : Event) → IsNode w a → (o : Option NodeId) → next_in (row_of w a).offers e ≡ o → is_some o ≡ true → (t : List Event) × HasTrace w a (e ∷ t)
trace_from w a e h None is some = absurd (false≢true some)
trace_from w a e h (Some b) is some = (
  [],
  ⊎_elim
      (λ (k : fails w b [] (λ e. false) ≡ true). inl (fails_some w a b e [] (λ e. false) is ∙ k))
      (λ (k : (x : ℕ) × (x < 2 ^ 64) × (ends w b [] x ≡ true)). inr (k.0, k.1, ends_some w a b e [] k.0 is ∙ k.2))
      (trace_at w b (child_node w a b e h is)),
)

offered_from : (w : World) (a : NodeId) (e : Event) (t : List Event) → HasTrace w a (e ∷ t) → (o : Option NodeId) → next_in (row_of w a).offers e ≡ o → is_some o ≡ true
offered_from w a e t trace None is = ⊎_elim
    (λ (k : fails w a (e ∷ t) (λ e. false) ≡ true). absurd (both_ways (fails w a (e ∷ t) (λ e. false)) (fails_none w a e t (λ e. false) is) k))
    (λ (k : (x : ℕ) × (x < 2 ^ 64) × (ends w a (e ∷ t) x ≡ true)). absurd (both_ways (ends w a (e ∷ t) k.0) (ends_none w a e t k.0 is) k.2))
    trace
offered_from w a e t trace (Some b) is = refl

pub recovered : (w : World) (a : NodeId) → IsNode w a → IsRecovered w a
recovered w a h = record {
  offers = λ e. (λ k. trace_from w a e h (next_in (row_of w a).offers e) refl k, λ v. offered_from w a e v.0 v.1 (next_in (row_of w a).offers e) refl);
  accepts = λ set. fails_nil w a (λ e. not (in_set set e)) ∙ any_same (misses (λ e. not (in_set set e))) (λ acceptance. is_part acceptance set) (λ acceptance. misses_outside set acceptance) (row_of w a).accepts;
}
