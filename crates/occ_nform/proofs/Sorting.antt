-- The marked nodes by height.
use Rattle.std.proofs.Common.{◌≡◌, ◌≤◌, ◌<◌, ◌+◌, ◌++◌, ℕ, Bool, true, false, List, [], ◌∷◌, length, get_or, refl, sym, ap, ◌∙◌, subst, ⊎_elim, arith}
use Rattle.std.proofs.lemmas.Bool.{cases_lt, both_ways, false≢true, ne_eqb, eqb-false}
use Rattle.std.proofs.lemmas.Cmp.{on_equiv, nat_eq_equiv}
use Rattle.std.proofs.lemmas.List.{get_or_past, get_or_append_left, get_or_push, get_or_default, length_push}
use Rattle.std.proofs.lemmas.List.Elements.{All-push, All-weaker}
use Rattle.std.proofs.lemmas.List.Folds.{list_any_none}
use Rattle.std.proofs.lemmas.List.Sorted.{All-permutation, Contains-permutation}
use Rattle.std.proofs.lemmas.Map.Keys.{IsDistinct-IsPermutation, IsDistinct-push, apart_from_distinct}
use Rattle.std.specs.Cmp.{IsEquivalence}
use Rattle.std.specs.List.{Contains, IsDistinct}
use Rattle.std.specs.List.Sorted.{IsPermutation, IsNonDecreasingBy}
use Rattle.occ_nform_rows.specs.occ_node.declared.node.NodeId.{NodeId}
use Rattle.occ_nform.specs.declared.order.Placed.{Placed}
use Rattle.occ_nform.specs.Numbering.{placed_at, same_place, Marked, ArePlacedBelow, AreOrdered}

same_equiv : IsEquivalence same_place
same_equiv = on_equiv (λ (p : Placed). p.node.0) nat_eq_equiv

marked_below : (marks : List Bool) (a : NodeId) → Marked marks a → a.0 < length marks
marked_below marks a h = ⊎_elim
    (λ (l : a.0 < length marks). l)
    (λ (l : length marks ≤ a.0). absurd (false≢true (sym (get_or_past marks a.0 false l) ∙ h)))
    (cases_lt a.0 (length marks))

module _ (marks : List Bool) (heights : List ℕ) where
  abbrev IsMet : ℕ → Placed → Type 0
  IsMet n p = (p.node.0 < n) × Marked marks p.node × (p.height ≡ get_or heights p.node.0 0)

  abbrev place_of : NodeId → Placed
  place_of a = record { height = get_or heights a.0 0; node = a }

  pub none_placed : ArePlacedBelow marks heights 0 []
  unfolding IsDistinct
  none_placed = record { met = λ k d h. absurd (omega arith); all = λ a h m. absurd (omega arith); apart = tt }

  pub placed_same : (n : ℕ) (ps : List Placed) → get_or marks n false ≡ false → ArePlacedBelow marks heights n ps → ArePlacedBelow marks heights (n + 1) ps
  placed_same n ps unset is = record {
    met = All-weaker (IsMet n) (IsMet (n + 1)) (λ p m. let less : p.node.0 < n = m.0 in (omega arith, m.1, m.2)) ps is.met;
    all = λ a h m. ⊎_elim
        (λ (l : a.0 < n). is.all a l m)
        (λ (l : n ≤ a.0). let same : n ≡ a.0 = omega arith in absurd (both_ways (get_or marks a.0 false) (ap (λ i. get_or marks i false) (sym same) ∙ unset) m))
        (cases_lt a.0 n);
    apart = is.apart;
  }

  contains_left : (ps : List Placed) (p x : Placed) → Contains ps x → Contains (ps ++ p ∷ []) x
  contains_left ps p x v = let more = length_push ps p in (v.0, omega (arith, v.1), get_or_append_left ps (p ∷ []) x v.0 v.1 ∙ v.2)

  contains_last : (ps : List Placed) (p x : Placed) → p ≡ x → Contains (ps ++ p ∷ []) x
  contains_last ps p x e = let more = length_push ps p in (length ps, omega arith, get_or_push ps p x (length ps) refl ∙ e)

  pub placed_more : (n height : ℕ) (ps : List Placed) → get_or marks n false ≡ true → height ≡ get_or heights n 0 → ArePlacedBelow marks heights n ps → ArePlacedBelow marks heights (n + 1) (ps ++ record { height = height; node = record { 0 = n } } ∷ [])
  placed_more n height ps set_here e is = record {
    met = All-push (IsMet (n + 1)) ps new (All-weaker (IsMet n) (IsMet (n + 1)) (λ p m. let less : p.node.0 < n = m.0 in (omega arith, m.1, m.2)) ps is.met) (omega arith, set_here, e);
    all = λ a h m. ⊎_elim
        (λ (l : a.0 < n). contains_left ps new (place_of a) (is.all a l m))
        (λ (l : n ≤ a.0). let same : n ≡ a.0 = omega arith in contains_last ps new (place_of a) (λ i. record { height = (e ∙ ap (λ k. get_or heights k 0) same) i; node = record { 0 = same i } }))
        (cases_lt a.0 n);
    apart = IsDistinct-push same_equiv ps new is.apart (list_any_none (same_place new) ps (λ k d h. let v = is.met k d h in let less : (get_or ps k d).node.0 < n = v.0 in ne_eqb n (get_or ps k d).node.0 (λ t. omega arith)));
  }
    where
      new : Placed
      new = record { height = height; node = record { 0 = n } }

  pub ordered : (n : ℕ) (ps qs : List Placed) → length marks ≡ n → ArePlacedBelow marks heights n ps → IsPermutation ps qs → IsNonDecreasingBy (λ (p : Placed). p.height) qs → AreOrdered marks heights qs
  ordered n ps qs long is moved rising = record {
    met = λ k h. let v = All-permutation (IsMet n) ps qs moved is.met k some_place h in (v.1, v.2);
    all = λ a m.
        let v = Contains-permutation ps qs (place_of a) moved (is.all a (subst (λ i. a.0 < i) long (marked_below marks a m)) m) in
        (v.0, v.1, ap (λ (p : Placed). p.node) (get_or_default qs v.0 some_place (place_of a) v.1 ∙ v.2));
    apart = λ i j h k e. ⊎_elim
        (λ (l : i < j). absurd (eqb-false (placed_at qs i).node.0 (placed_at qs j).node.0 (apart_from_distinct same_place qs i j some_place distinct l k) e))
        (λ (l : j ≤ i). ⊎_elim
        (λ (m : j < i). absurd (eqb-false (placed_at qs j).node.0 (placed_at qs i).node.0 (apart_from_distinct same_place qs j i some_place distinct m h) (sym e)))
        (λ (m : i ≤ j). omega arith)
        (cases_lt j i))
        (cases_lt i j);
    sorted = λ i j low high. rising i j some_place low high;
  }
    where
      some_place : Placed
      some_place = record { height = 0; node = record { 0 = 0 } }

      distinct : IsDistinct same_place qs
      distinct = IsDistinct-IsPermutation same_place same_equiv.symm ps qs moved is.apart
