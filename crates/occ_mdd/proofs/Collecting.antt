use Rattle.std.proofs.Common.{◌≡◌, ◌⊎◌, ℕ, ◌<◌, ◌≤◌, ◌%◌, ◌^◌, ◌==◌, Bool, true, false, List, [], length, Option, Some, refl, sym, ap, ◌∙◌, subst, inl, inr, ⊎_elim, arith}
use Rattle.std.specs.Int.{bit_at}
use Rattle.std.specs.Cmp.{IsTotalOrder, IsEquivalence}
use Rattle.std.specs.List.{Contains, dedup}
use Rattle.std.specs.List.Sorted.{IsPermutation, IsSorted, IsStrictlySortedBy}
use Rattle.std.specs.Ordering.{eq_by_cmp}
use Rattle.std.specs.declared.cmp.Ordering.{Ordering}
use Rattle.std.proofs.lemmas.Bool.{cond_both}
use Rattle.std.proofs.lemmas.List.Kept.{Contains-dedup, Contains-from_dedup, IsStrictlySortedBy-dedup}
use Rattle.std.proofs.lemmas.List.Sorted.{Contains-permutation, IsPermutation-sym}
use Rattle.occ_dd.proofs.Bits.{bit_cases, bit_at-with_bit_same}
use Rattle.occ_dd.proofs.DiagramLemmas.{end-with_bit_free}
use Rattle.occ_dd.specs.Assignment.{with_bit, turned}
use Rattle.occ_dd.specs.Memo.{recalled, Learns}
use Rattle.occ_dd.specs.Diagram.{depth_of, end_of, label_of, IsDiagram, IsPart}
use Rattle.occ_dd.specs.Table.{nodes_of}
use Rattle.occ_dd.specs.declared.memo.Call.{Call}
use Rattle.occ_dd.specs.declared.memo.Memo.{Memo}
use Rattle.occ_dd.specs.declared.node.Node.{Node}
use Rattle.occ_dd.proofs.Callers.{keeps_refl, keeps_trans, known-keeps, has-free, has-low, depth-constant, member-other}
use Rattle.occ_dd.specs.Store.{IsKnown, has, depth, IsEmpty, IsConstant, IsSet, Keeps}
use Rattle.occ_dd.specs.declared.set.SetId.{SetId}
use Rattle.occ_dd.specs.declared.store.Store.{Store}
use Rattle.occ_mdd.specs.Chosen.{id_of, IsSetPart}
use Rattle.occ_mdd.specs.Maps.{IsLabelOn, AreLabelsOn}
use Rattle.occ_mdd.specs.Met.{IsMet, IsSeen, AreSeen, Visits, AreHalves}
use Rattle.occ_mdd.specs.Value.{value_at}
use Rattle.occ_mdd.specs.declared.collect.Halves.{Halves}
use Rattle.occ_mdd.specs.declared.map.MapId.{MapId}
use Rattle.occ_mdd.specs.declared.maps.Maps.{Maps}
use Rattle.occ_mdd.proofs.Choosing.{set_part-keeps}
use Rattle.occ_mdd.proofs.Values.{value-ends, value-label, value-flat, value-low, value_is}

-- ---- the empty set
pub empty_from : (s : Store) (set none : SetId) → IsSet s none (λ x. false) → set.0 ≡ none.0 → IsEmpty s set
empty_from s set none is e x = ap (λ n. has s (id_of n) x) e ∙ is.members x

pub filled_from : (s : Store) (set none : SetId) → IsKnown s set → IsSet s none (λ x. false) → (set.0 ≡ none.0 → ⊥) → (x : ℕ) × (has s set x ≡ true)
filled_from s set none h is other = let w = member-other s set none h is other in (w.0, w.2)

-- ---- halves
pub constant_part : (s : Store) (set : SetId) (bit v : ℕ) → IsKnown s set → IsConstant s set → IsSetPart s set set bit v
constant_part s set bit v h w = record {
  known = h;
  shallow = let flat : depth s set ≡ 0 = depth-constant s set h w in omega arith;
  members = λ x e. refl;
}

has-with_bit_free : (s : Store) (p : SetId) (b v x : ℕ) → depth s p ≤ b → has s p (with_bit x b v) ≡ has s p x
has-with_bit_free s p b v x h = cond_both (bit_at x b == v) x (turned x b) (λ y. has s p y ≡ has s p x) (λ _. refl) (λ _. has-free s p b x h)

module _ {L : Type 0} (ns : List (Node (Option L))) where
  -- what is met in a store that grew was met before, and the other way round
  met_before : (s t : Store) → Keeps s t → (set a : ℕ) (l : L) → IsKnown s (id_of set) → IsMet ns t set a l → IsMet ns s set a l
  met_before s t k set a l h m = (m.0, sym (k.same (id_of set) m.0 h) ∙ m.1, m.2)

  met_later : (s t : Store) → Keeps s t → (set a : ℕ) (l : L) → IsKnown s (id_of set) → IsMet ns s set a l → IsMet ns t set a l
  met_later s t k set a l h m = (m.0, k.same (id_of set) m.0 h ∙ m.1, m.2)

  pub is_seen_later : (s t : Store) → Keeps s t → (old new : List L) → ((l : L) → Contains old l → Contains new l) → (set a : ℕ) → IsSeen ns s old set a → IsSeen ns t new set a
  is_seen_later s t k old new kept set a is = record {
    set_known = known-keeps s t k (id_of set) is.set_known;
    known = is.known;
    all = λ l m. kept l (is.all l (met_before s t k set a l is.set_known m));
  }

  pub seen_later : (s t : Store) → Keeps s t → (old new : List L) → ((l : L) → Contains old l → Contains new l) → (seen : Memo) → AreSeen ns s old seen → AreSeen ns t new seen
  seen_later s t k old new kept seen are call r e = is_seen_later s t k old new kept call.first call.second (are call r e)

  pub seen_learnt : (s : Store) (found : List L) (old new : Memo) (call : Call) (r : ℕ) → Learns old new call r → AreSeen ns s found old → IsSeen ns s found call.first call.second → AreSeen ns s found new
  seen_learnt s found old new call r learns are is k v e = ⊎_elim
      (λ (h : recalled old k ≡ Some v). are k v h)
      (λ (h : (k ≡ call) × (v ≡ r)). subst (λ c. IsSeen ns s found c.first c.second) (sym h.0) is)
      (learns k v e)

  pub visits_learnt : (s t : Store) (before found : List L) (old new : Memo) (set a : ℕ) → Visits ns s t before found old set a → IsSeen ns t found set a → Learns old new (record { first = set; second = a; third = 0 }) 0 → Visits ns s t before found new set a
  visits_learnt s t before found old new set a v is learns = record {
    sets = v.sets;
    kept = v.kept;
    only = v.only;
    right = seen_learnt t found old new (record { first = set; second = a; third = 0 }) 0 learns v.right is;
  }

  visits_trans : (s t u : Store) (f₀ f₁ f₂ : List L) (m n : Memo) (set a : ℕ) → IsKnown t (id_of set) → Visits ns s t f₀ f₁ m set a → Visits ns t u f₁ f₂ n set a → Visits ns s u f₀ f₂ n set a
  visits_trans s t u f₀ f₁ f₂ m n set a h v w = record {
    sets = keeps_trans s t u v.sets w.sets;
    kept = λ l i. w.kept l (v.kept l i);
    only = λ l i. ⊎_elim
        (λ (j : Contains f₁ l). ⊎_elim (λ (o : Contains f₀ l). inl o) (λ (o : IsMet ns t set a l). inr (met_later t u w.sets set a l h o)) (v.only l j))
        (λ (j : IsMet ns u set a l). inr j)
        (w.only l i);
    right = w.right;
  }

-- ---- a constant function
module _ {L : Type 0} (ns : List (Node (Option L))) (g : IsDiagram ns) (s : Store) (old new : List L) (set : SetId) (a : ℕ) (label : Option L) (flat : depth_of ns a ≡ 0) (is : label_of ns (end_of ns a 0) ≡ Some label) where
  flat_value : (x : ℕ) → value_at ns a x ≡ label
  flat_value x = value-flat ns g a x 0 (omega (arith, flat)) ∙ value-label ns a 0 label is

  pub visits_flat : (x : ℕ) × (has s set x ≡ true) → (seen : Memo) → AreSeen ns s old seen → ((l : L) → Contains old l → Contains new l) → ((l : L) → Contains new l → Contains old l ⊎ (label ≡ Some l)) → Visits ns s s old new seen set.0 a
  visits_flat w seen are kept only = record {
    sets = keeps_refl s;
    kept = kept;
    only = λ l h. ⊎_elim (λ (i : Contains old l). inl i) (λ (e : label ≡ Some l). inr (w.0, w.1, flat_value w.0 ∙ e)) (only l h);
    right = seen_later ns s s (keeps_refl s) old new kept seen are;
  }

  pub seen_flat : IsKnown s set → a < length ns → ((l : L) → label ≡ Some l → Contains new l) → IsSeen ns s new set.0 a
  seen_flat hs ha all = record { set_known = hs; known = ha; all = λ l m. all l (sym (flat_value m.0) ∙ m.2) }

  -- a visit that found it, and is remembered
  pub visits_noted : (x : ℕ) × (has s set x ≡ true) → IsKnown s set → a < length ns → (before after : Memo) → AreSeen ns s old before → ((l : L) → Contains old l → Contains new l) → ((l : L) → Contains new l → Contains old l ⊎ (label ≡ Some l)) → ((l : L) → label ≡ Some l → Contains new l)
      → Learns before after (record { first = set.0; second = a; third = 0 }) 0 → Visits ns s s old new after set.0 a
  visits_noted w hs ha before after are kept only all learns = visits_learnt ns s s old new before after set.0 a (visits_flat w before are kept only) (seen_flat hs ha all) learns

-- ---- the two halves
module _ {L : Type 0} (ns : List (Node (Option L))) (g : IsDiagram ns) where
  -- what is met on a part is met on the whole
  part_met : (s : Store) (p set : SetId) (q a bit v : ℕ) (l : L) → v < 2 → IsSetPart s p set bit v → IsPart ns q a bit v → IsMet ns s p.0 q l → IsMet ns s set.0 a l
  part_met s p set q a bit v l small x y m =
      let there : bit_at (with_bit m.0 bit v) bit ≡ v = bit_at-with_bit_same m.0 bit v small in (
        with_bit m.0 bit v,
        sym (x.members (with_bit m.0 bit v) there) ∙ has-with_bit_free s p bit v m.0 x.shallow ∙ m.1,
        sym (value-ends ns q a (with_bit m.0 bit v) (with_bit m.0 bit v) (y.ends (with_bit m.0 bit v) there)) ∙ value-ends ns q q (with_bit m.0 bit v) m.0 (end-with_bit_free ns g q bit v m.0 y.depth) ∙ m.2,
      )

  whole_met : (s : Store) (p₀ p₁ set : SetId) (q₀ q₁ a bit : ℕ) (l : L) → IsSetPart s p₀ set bit 0 → IsSetPart s p₁ set bit 1 → IsPart ns q₀ a bit 0 → IsPart ns q₁ a bit 1 → IsMet ns s set.0 a l → IsMet ns s p₀.0 q₀ l ⊎ IsMet ns s p₁.0 q₁ l
  whole_met s p₀ p₁ set q₀ q₁ a bit l x₀ x₁ y₀ y₁ m = ⊎_elim
      (λ (z : bit_at m.0 bit ≡ 0). inl (m.0, x₀.members m.0 z ∙ m.1, value-ends ns q₀ a m.0 m.0 (y₀.ends m.0 z) ∙ m.2))
      (λ (o : bit_at m.0 bit ≡ 1). inr (m.0, x₁.members m.0 o ∙ m.1, value-ends ns q₁ a m.0 m.0 (y₁.ends m.0 o) ∙ m.2))
      (bit_cases m.0 bit)

  visits_part : (s t u : Store) → Keeps s t → (f₀ f₁ : List L) (m : Memo) (p set : SetId) (q a bit v : ℕ) → v < 2 → IsKnown t set → IsSetPart t p set bit v → IsPart ns q a bit v → Visits ns t u f₀ f₁ m p.0 q → Visits ns s u f₀ f₁ m set.0 a
  visits_part s t u k f₀ f₁ m p set q a bit v small h x y w = record {
    sets = keeps_trans s t u k w.sets;
    kept = w.kept;
    only = λ l i. ⊎_elim (λ (j : Contains f₀ l). inl j) (λ (j : IsMet ns u p.0 q l). inr (part_met u p set q a bit v l small (set_part-keeps t u w.sets p set bit v h x) y j)) (w.only l i);
    right = w.right;
  }

  module _ (s t u : Store) (k : Keeps s t) (set : SetId) (a : ℕ) (h : Halves) (hs : IsKnown s set) (are : AreHalves ns t set a h) (f₀ f₁ : List L) (m : Memo) (first : Visits ns t u f₀ f₁ m h.set_low.0 h.low) where
    pub visits_first : Visits ns s u f₀ f₁ m set.0 a
    visits_first = visits_part s t u k f₀ f₁ m h.set_low set h.low a h.bit 0 (omega arith) (known-keeps s t k set hs) are.low_set are.low_part first

    known_second : IsKnown u set
    known_second = known-keeps t u first.sets set (known-keeps s t k set hs)

    pub visits_second : (w : Store) (f₂ : List L) (n : Memo) → Visits ns u w f₁ f₂ n h.set_high.0 h.high → Visits ns s w f₀ f₂ n set.0 a
    visits_second w f₂ n second = visits_trans ns s u w f₀ f₁ f₂ m n set.0 a known_second visits_first
        (visits_part u u w (keeps_refl u) f₁ f₂ n h.set_high set h.high a h.bit 1 (omega arith) known_second (set_part-keeps t u first.sets h.set_high set h.bit 1 (known-keeps s t k set hs) are.high_set) are.high_part second)

    pub seen_both : (w : Store) (f₂ : List L) (n : Memo) → a < length ns → Visits ns u w f₁ f₂ n h.set_high.0 h.high → IsSeen ns u f₁ h.set_low.0 h.low → IsSeen ns w f₂ h.set_high.0 h.high → IsSeen ns w f₂ set.0 a
    seen_both w f₂ n ha second low high =
        let ht : IsKnown t set = known-keeps s t k set hs in
        let tw : Keeps t w = keeps_trans t u w first.sets second.sets in
        let below : IsSeen ns w f₂ h.set_low.0 h.low = is_seen_later ns u w second.sets f₁ f₂ second.kept h.set_low.0 h.low low in
        record {
          set_known = known-keeps t w tw set ht;
          known = ha;
          all = λ l i. ⊎_elim (λ (j : IsMet ns w h.set_low.0 h.low l). below.all l j) (λ (j : IsMet ns w h.set_high.0 h.high l). high.all l j)
              (whole_met w h.set_low h.set_high set h.low h.high a h.bit l (set_part-keeps t w tw h.set_low set h.bit 0 ht are.low_set) (set_part-keeps t w tw h.set_high set h.bit 1 ht are.high_set) are.low_part are.high_part i);
        }

    -- a visit of both, which is remembered
    pub visits_both : (w : Store) (f₂ : List L) (n after : Memo) → a < length ns → Visits ns u w f₁ f₂ n h.set_high.0 h.high → IsSeen ns u f₁ h.set_low.0 h.low → IsSeen ns w f₂ h.set_high.0 h.high
        → Learns n after (record { first = set.0; second = a; third = 0 }) 0 → Visits ns s w f₀ f₂ after set.0 a
    visits_both w f₂ n after ha second low high learns = visits_learnt ns s w f₀ f₂ n after set.0 a (visits_second w f₂ n second) (seen_both w f₂ n ha second low high) learns

-- ---- the labels in order
pub labels_are : {L : Type 0} {e : _} {h : _} (m : Maps L e h) (a : MapId) (s t : Store) → Keeps s t → (set : SetId) → IsKnown s set → (start found sorted labels : List L) (seen : Memo) → start ≡ []
    → Visits (nodes_of m.table) s t start found seen set.0 a.0 → IsSeen (nodes_of m.table) t found set.0 a.0
    → (cmp : L → L → Ordering) (eq : L → L → Bool) → IsTotalOrder cmp → ((x y : L) → eq x y ≡ eq_by_cmp cmp x y) → IsEquivalence eq → ((x y : L) → eq x y ≡ true → x ≡ y)
    → IsPermutation found sorted → IsSorted cmp sorted → labels ≡ dedup eq sorted → AreLabelsOn m a s set cmp labels
labels_are {L} m a s t k set hs start found sorted labels seen none visits is cmp eq total ties laws exact moved order e = record {
  met = λ l h. on l (subst (λ ls. Contains ls l ⊎ IsMet (nodes_of m.table) t set.0 a.0 l) none (visits.only l (Contains-permutation sorted found l (IsPermutation-sym found sorted moved) (Contains-from_dedup eq sorted l (subst (λ ls. Contains ls l) e h)))));
  all = λ l w. subst (λ ls. Contains ls l) (sym e) (Contains-dedup laws exact sorted l (Contains-permutation found sorted l moved (is.all l (w.0, k.same set w.0 hs ∙ w.2, sym (value_is m a w.0) ∙ w.3))));
  increasing = subst (λ ls. IsStrictlySortedBy cmp ls) (sym e) (IsStrictlySortedBy-dedup total ties sorted order);
}
  where
    small : (n : ℕ) → n % 2 ^ 64 < 2 ^ 64
    small n = omega arith

    on : (l : L) → Contains {X = L} [] l ⊎ IsMet (nodes_of m.table) t set.0 a.0 l → IsLabelOn m a s set l
    on l = ⊎_elim
        (λ (w : Contains {X = L} [] l). let below : w.0 < 0 = w.1 in absurd (omega (arith, below)))
        (λ (w : IsMet (nodes_of m.table) t set.0 a.0 l).
        (w.0 % 2 ^ 64, small w.0, has-low s set w.0 ∙ sym (k.same set w.0 hs) ∙ w.1, value_is m a (w.0 % 2 ^ 64) ∙ value-low (nodes_of m.table) m.table.diagram a.0 w.0 ∙ w.2))
