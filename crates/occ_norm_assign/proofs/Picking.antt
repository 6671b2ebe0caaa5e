-- States that are put into a list one by one.
use Rattle.std.proofs.Common.{◌≡◌, ◌<◌, ◌≤◌, ◌+◌, ◌∙◌, ℕ, true, false, cond, List, length, set, length-set, refl, ap, sym, arith, ⊎_elim}
use Rattle.std.proofs.Math.Seq.{get_or-set_other, get_or-set_same}
use Rattle.std.proofs.lemmas.Bool.{cases_eq}
use Rattle.occ_norm_frame.specs.occ_dd.Store.{has}
use Rattle.occ_norm_frame.specs.occ_dd.declared.set.SetId.{SetId}
use Rattle.occ_norm_frame.specs.occ_dd.declared.store.Store.{Store}
use Rattle.occ_norm_assign.specs.Lists.{at}

-- below a place the list has the states of another list where `before` leads into the set, and is as it was at first
pub record ArePickedTo (s : Store) (members : SetId) (before there old : List ℕ) (place : ℕ) (now : List ℕ) : Type 0 where
  pub size : length now ≡ length before
  pub below : (i : ℕ) → i < place → at now i ≡ cond (has s members (at before i)) (at there i) (at old i)
  pub above : (i : ℕ) → place ≤ i → at now i ≡ at old i

pub picked_none : (s : Store) (members : SetId) (before there old : List ℕ) → length old ≡ length before → ArePickedTo s members before there old 0 old
picked_none s members before there old size = record { size = size; below = λ i h. absurd (omega (arith, h)); above = λ i h. refl }

-- the state at the place is another one now
pub picked_yes : (s : Store) (members : SetId) (before there old now : List ℕ) (place : ℕ) → place < length before → has s members (at before place) ≡ true → ArePickedTo s members before there old place now
    → ArePickedTo s members before there old (place + 1) (set now place (at there place))
picked_yes s members before there old now place h in_set is = record {
  size = length-set now place (at there place) ∙ is.size;
  below = λ i k. ⊎_elim
      (λ (e : i ≡ place).
      let size = is.size in
      ap (at (set now place (at there place))) e ∙ get_or-set_same now place (at there place) 0 (omega (arith, h, size))
      ∙ sym (ap (λ j. cond (has s members (at before j)) (at there j) (at old j)) e ∙ ap (λ b. cond b (at there place) (at old place)) in_set))
      (λ (e : i ≡ place → ⊥). get_or-set_other now place i (at there place) 0 e ∙ is.below i (omega (arith, k, e)))
      (cases_eq i place);
  above = λ i k. get_or-set_other now place i (at there place) 0 (λ (e : i ≡ place). omega (arith, e, k)) ∙ is.above i (omega (arith, k));
}

-- the state at the place stays
pub picked_no : (s : Store) (members : SetId) (before there old now : List ℕ) (place : ℕ) → has s members (at before place) ≡ false → ArePickedTo s members before there old place now
    → ArePickedTo s members before there old (place + 1) now
picked_no s members before there old now place off is = record {
  size = is.size;
  below = λ i k. ⊎_elim
      (λ (e : i ≡ place).
      ap (at now) e ∙ is.above place (omega arith)
      ∙ sym (ap (λ j. cond (has s members (at before j)) (at there j) (at old j)) e ∙ ap (λ b. cond b (at there place) (at old place)) off))
      (λ (e : i ≡ place → ⊥). is.below i (omega (arith, k, e)))
      (cases_eq i place);
  above = λ i k. is.above i (omega (arith, k));
}
