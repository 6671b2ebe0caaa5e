use Rattle.std.proofs.Common.{◌≡◌, ℕ, ◌<◌, ◌≤◌, ◌%◌, ◌^◌, Bool, true, false, cond, List, length, Option, Some, None, slice_get, unwrap_or, refl, sym, ap, ◌∙◌, subst, arith, IfSome}
use Rattle.std.specs.Int.{bit_at}
use Rattle.std.proofs.lemmas.Nat.{div-add-mod'}
use Rattle.std.proofs.lemmas.Nat.Bits.{bit_at_cat_low}
use Rattle.std.proofs.lemmas.Option.{slice_get_within}
use Rattle.occ_dd.proofs.DiagramLemmas.{depth-le, end-in, end-leaf, end_terminal, one_terminal, label-leaf, end_agree, canonical}
use Rattle.occ_dd.proofs.Growth.{end-keeps, label-keeps}
use Rattle.occ_dd.specs.Assignment.{turned}
use Rattle.occ_dd.specs.Diagram.{depth_of, end_of, label_of, IsDiagram, IsTurned}
use Rattle.occ_dd.specs.Diagram.{Keeps as KeepsNodes}
use Rattle.occ_dd.specs.Table.{nodes_of}
use Rattle.occ_dd.specs.declared.node.Node.{Node}
use Rattle.occ_dd.specs.declared.node.Node.TheVariants.{Leaf}
use Rattle.occ_mdd.specs.Value.{value_at}
use Rattle.occ_mdd.specs.Combined.{IsCombined}
use Rattle.occ_mdd.specs.Maps.{maps_of, IsKnown, value, Keeps, IsMap, HasLabels, IsRelated, IsCanonical}
use Rattle.occ_dd.specs.Store.{has}
use Rattle.occ_dd.specs.Store.{IsKnown as IsSetKnown, Keeps as KeepsSets}
use Rattle.occ_dd.specs.declared.set.SetId.{SetId}
use Rattle.occ_dd.specs.declared.store.Store.{Store}
use Rattle.occ_mdd.specs.Chosen.{IsChosen}
use Rattle.occ_mdd.specs.declared.map.MapId.{MapId}
use Rattle.occ_mdd.specs.declared.maps.Maps.{Maps}

low_bits : (x b i : ℕ) → i < b → bit_at (x % 2 ^ b) i ≡ bit_at x i
low_bits x b i h = sym (bit_at_cat_low _ b (x % 2 ^ b) i h) ∙ ap (λ n. bit_at n i) (div-add-mod' x (2 ^ b))

module _ {L : Type 0} (ns : List (Node (Option L))) where
  pub value-label : (i x : ℕ) (v : Option L) → label_of ns (end_of ns i x) ≡ Some v → value_at ns i x ≡ v
  unfolding value_at
  value-label i x v e = ap (λ o. unwrap_or o None) e

  pub value-ends : (i j x y : ℕ) → end_of ns i x ≡ end_of ns j y → value_at ns i x ≡ value_at ns j y
  unfolding value_at
  value-ends i j x y e = ap (λ n. unwrap_or (label_of ns n) None) e

module _ {L : Type 0} (ns : List (Node (Option L))) (g : IsDiagram ns) where
  pub value-leaf : (i x : ℕ) (v : Option L) → slice_get ns i ≡ Some (Leaf v) → value_at ns i x ≡ v
  value-leaf i x v e = value-label ns i x v (ap (label_of ns) (end-leaf ns g i x v e) ∙ label-leaf ns g i v e)

  -- equal values are at one terminal
  pub same_ends : (i j x y : ℕ) → i < length ns → j < length ns → value_at ns i x ≡ value_at ns j y → end_of ns i x ≡ end_of ns j y
  same_ends i j x y hi hj e =
      let v = end_terminal ns g i x hi in
      let w = end_terminal ns g j y hj in
      let same : v.0 ≡ w.0 = sym (value-label ns i x v.0 (label-leaf ns g _ v.0 v.1)) ∙ e ∙ value-label ns j y w.0 (label-leaf ns g _ w.0 w.1) in
      one_terminal ns g (end_of ns i x) (end_of ns j y) w.0 (v.1 ∙ ap (λ l. Some (Leaf l)) same) w.1

  pub one_function : (i j : ℕ) → i < length ns → j < length ns → ((x : ℕ) → x < 2 ^ 64 → value_at ns i x ≡ value_at ns j x) → i ≡ j
  one_function i j hi hj same = let law = canonical ns g in law.one i j hi hj (λ x h. same_ends i j x x hi hj (same x h))

  pub value-low : (i x : ℕ) → value_at ns i (x % 2 ^ 64) ≡ value_at ns i x
  value-low i x = value-ends ns i i (x % 2 ^ 64) x (end_agree ns g 64 i (x % 2 ^ 64) x (depth-le ns g i) (low_bits x 64))

  pub value-flat : (i x y : ℕ) → depth_of ns i ≤ 0 → value_at ns i x ≡ value_at ns i y
  value-flat i x y h = value-ends ns i i x y (end_agree ns g 0 i x y h (λ b below. absurd (omega arith)))

pub value-keeps : {L : Type 0} (ms ns : List (Node (Option L))) → KeepsNodes ms ns → IsDiagram ms → (i x : ℕ) → i < length ms → value_at ns i x ≡ value_at ms i x
unfolding value_at
value-keeps ms ns k g i x h = ap (λ o. unwrap_or o None) (ap (label_of ns) (end-keeps ms ns k g i x h) ∙ label-keeps ms ns k (end_of ms i x) (end-in ms g i x h))

-- ---- the tables of maps
module _ {L : Type 0} {e : _} {h : _} (m : Maps L e h) where
  pub value_is : (a : MapId) (x : ℕ) → value m a x ≡ value_at (nodes_of m.table) a.0 x
  unfolding value
  value_is a x = refl

  pub known_size : (a : MapId) → IsKnown m a → a.0 < length (nodes_of m.table)
  unfolding maps_of
  known_size a k = k

  pub size_known : (a : MapId) → a.0 < length (nodes_of m.table) → IsKnown m a
  unfolding maps_of
  size_known a k = k

  pub canonical_maps : IsCanonical m
  canonical_maps = record {
    one = λ a b ha hb same.
        let e = one_function (nodes_of m.table) m.table.diagram a.0 b.0 (known_size a ha) (known_size b hb) (λ x h. sym (value_is a x) ∙ same x h ∙ value_is b x) in
        λ i. record { 0 = e i };
  }

  pub pass_at : (a : MapId) (P : L → Type 0) → HasLabels m a P → (x : ℕ) → IfSome (value_at (nodes_of m.table) a.0 x) P
  pass_at a P all x = subst (λ o. IfSome o P) (value_is a (x % 2 ^ 64) ∙ value-low (nodes_of m.table) m.table.diagram a.0 x) (all (x % 2 ^ 64) (mod_small x))
    where
      mod_small : (n : ℕ) → n % 2 ^ 64 < 2 ^ 64
      mod_small n = omega arith

module _ {L : Type 0} {e : _} {h : _} (old new : Maps L e h) (k : KeepsNodes (nodes_of old.table) (nodes_of new.table)) where
  pub old_value : (a : MapId) (x : ℕ) → IsKnown old a → value_at (nodes_of new.table) a.0 x ≡ value old a x
  old_value a x h = value-keeps (nodes_of old.table) (nodes_of new.table) k old.table.diagram a.0 x (known_size old a h) ∙ sym (value_is old a x)

  pub keeps_maps : Keeps old new
  unfolding maps_of
  keeps_maps = record { more = k.more; same = λ a x h. value_is new a x ∙ old_value a x h }

  pub turned_map : (a : MapId) (bit r : ℕ) → IsKnown old a → IsTurned (nodes_of new.table) a.0 bit r → IsMap new (record { 0 = r }) (λ x. value old a (turned x bit))
  turned_map a bit r ha is = record {
    known = size_known new (record { 0 = r }) is.known;
    values = λ x. value_is new (record { 0 = r }) x ∙ value-ends (nodes_of new.table) r a.0 x (turned x bit) (is.ends x) ∙ old_value a (turned x bit) ha;
  }

  pub related_map : (a b : MapId) (r : ℕ) (R : Option L → Option L → Option L → Type 0) → IsKnown old a → IsKnown old b → IsCombined (nodes_of new.table) R (record { first = a.0; second = b.0; third = 0 }) r → IsRelated old new a b (record { 0 = r }) R
  related_map a b r R ha hb is = record {
    known = size_known new (record { 0 = r }) is.known;
    related = λ x. subst (λ v. R v (value old b x) (value new (record { 0 = r }) x)) (old_value a x ha)
        (subst (λ v. R (value_at (nodes_of new.table) a.0 x) v (value new (record { 0 = r }) x)) (old_value b x hb)
        (subst (λ v. R (value_at (nodes_of new.table) a.0 x) (value_at (nodes_of new.table) b.0 x) v) (sym (value_is new (record { 0 = r }) x)) (is.related x)));
  }

module _ {L : Type 0} {e : _} {h : _} (old new : Maps L e h) (k : KeepsNodes (nodes_of old.table) (nodes_of new.table)) (s t : Store) (l : KeepsSets s t) where
  chosen_value : (v : Bool) (i j r x : ℕ) → end_of (nodes_of new.table) r x ≡ cond v (end_of (nodes_of new.table) i x) (end_of (nodes_of new.table) j x) → value_at (nodes_of new.table) r x ≡ cond v (value_at (nodes_of new.table) i x) (value_at (nodes_of new.table) j x)
  chosen_value true i j r x e = value-ends (nodes_of new.table) r i x x e
  chosen_value false i j r x e = value-ends (nodes_of new.table) r j x x e

  pub chosen_map : (set : SetId) (a b : MapId) (r : ℕ) → IsSetKnown s set → IsKnown old a → IsKnown old b → IsChosen (nodes_of new.table) t (record { first = set.0; second = a.0; third = b.0 }) r
      → IsMap new (record { 0 = r }) (λ x. cond (has s set x) (value old a x) (value old b x))
  chosen_map set a b r hs ha hb is = record {
    known = size_known new (record { 0 = r }) is.known;
    values = λ x. value_is new (record { 0 = r }) x ∙ chosen_value (has t set x) a.0 b.0 r x (is.ends x)
        ∙ ap (λ v. cond v (value_at (nodes_of new.table) a.0 x) (value_at (nodes_of new.table) b.0 x)) (l.same set x hs)
        ∙ ap (λ o. cond (has s set x) o (value_at (nodes_of new.table) b.0 x)) (old_value old new k a x ha) ∙ ap (λ o. cond (has s set x) (value old a x) o) (old_value old new k b x hb);
  }

pub constant_map : {L : Type 0} {e : _} {h : _} (m : Maps L e h) (r : ℕ) (v : Option L) → slice_get (nodes_of m.table) r ≡ Some (Leaf v) → IsMap m (record { 0 = r }) (λ x. v)
constant_map m r v e = record {
  known = size_known m (record { 0 = r }) (slice_get_within (nodes_of m.table) r _ e);
  values = λ x. value_is m (record { 0 = r }) x ∙ value-leaf (nodes_of m.table) m.table.diagram r x v e;
}

pub no_maps : {L : Type 0} {e : _} {h : _} (m : Maps L e h) → length (nodes_of m.table) ≡ 0 → maps_of m ≡ 0
unfolding maps_of
no_maps m e = e
