use Rattle.std.proofs.Common.{◌≡◌, ℕ, ◌+◌, ◌<◌, ◌≤◌, List, length, max, Option, Some, None, slice_get, cond, sym, ap, ◌∙◌, subst, ⊎_elim, arith, IfSome}
use Rattle.std.specs.Int.{bit_at}
use Rattle.std.proofs.lemmas.Option.{IfSome_then, same_Some, slice_get_within}
use Rattle.occ_dd.proofs.Bits.{bit_cases, is_one, is_zero}
use Rattle.occ_dd.proofs.DiagramLemmas.{depth-leaf, end-part}
use Rattle.occ_dd.proofs.Growth.{known-keeps, depth-keeps, end-keeps, keeps_refl, keeps_trans}
use Rattle.occ_dd.specs.Assignment.{with_bit}
use Rattle.occ_dd.specs.Memo.{recalled, Learns}
use Rattle.occ_dd.specs.Diagram.{depth_of, end_of, label_of, IsDiagram, Keeps, IsSplit, IsPart}
use Rattle.occ_dd.specs.declared.memo.Call.{Call}
use Rattle.occ_dd.specs.declared.memo.Memo.{Memo}
use Rattle.occ_dd.specs.declared.node.Node.{Node}
use Rattle.occ_dd.specs.declared.node.Node.TheVariants.{Leaf}
use Rattle.occ_mdd.specs.Value.{value_at}
use Rattle.occ_mdd.specs.Combined.{AreCombined, AreHalved, ArePair, ArePart, IsCombined, Pass, deepest}
use Rattle.occ_mdd.proofs.Values.{value-keeps, value-ends, value-flat, value-label, value-leaf}

-- ---- later tables and later relations
pub part-keeps : {T : Type 0} (ms ns : List (Node T)) → Keeps ms ns → IsDiagram ms → (p i bit v : ℕ) → i < length ms → IsPart ms p i bit v → IsPart ns p i bit v
part-keeps ms ns k g p i bit v within is = record {
  known = known-keeps ms ns k p is.known;
  depth = subst (λ n. n ≤ bit) (sym (depth-keeps ms ns k p is.known)) is.depth;
  ends = λ x h. end-keeps ms ns k g p x is.known ∙ is.ends x h ∙ sym (end-keeps ms ns k g i x within);
}

module _ {L : Type 0} {ms ns : List (Node (Option L))} (k : Keeps ms ns) (g : IsDiagram ms) where
  pub deepest-keeps : (call : Call) → call.first < length ms → call.second < length ms → deepest ns call ≡ deepest ms call
  deepest-keeps call ha hb = ap (λ n. max n (depth_of ns call.second)) (depth-keeps ms ns k call.first ha) ∙ ap (λ n. max (depth_of ms call.first) n) (depth-keeps ms ns k call.second hb)

  pub combined_later : (R S : Option L → Option L → Option L → Type 0) → ((x y z : Option L) → R x y z → S x y z) → (call : Call) (r : ℕ) → IsCombined ms R call r → IsCombined ns S call r
  combined_later R S later call r is = record {
    first = known-keeps ms ns k call.first is.first;
    second = known-keeps ms ns k call.second is.second;
    known = known-keeps ms ns k r is.known;
    depth_bound = subst (λ n. depth_of ns r ≤ n) (sym (deepest-keeps call is.first is.second)) (subst (λ n. n ≤ deepest ms call) (sym (depth-keeps ms ns k r is.known)) is.depth_bound);
    related = λ x. later _ _ _ (subst (λ v. R v (value_at ns call.second x) (value_at ns r x)) (sym (value-keeps ms ns k g call.first x is.first))
        (subst (λ v. R (value_at ms call.first x) v (value_at ns r x)) (sym (value-keeps ms ns k g call.second x is.second))
        (subst (λ v. R (value_at ms call.first x) (value_at ms call.second x) v) (sym (value-keeps ms ns k g r x is.known)) (is.related x))));
  }

  pub are_later : {R S : Option L → Option L → Option L → Type 0} (memo : Memo) → AreCombined ms R memo → ((x y z : Option L) → R x y z → S x y z) → AreCombined ns S memo
  are_later {R} {S} memo are later call r e = combined_later R S later call r (are call r e)

  pub pass_later : {P Q : L → Type 0} (call : Call) → Pass ms call P → ((x : L) → P x → Q x) → Pass ns call Q
  pass_later {P} {Q} call pass later = record {
    first = known-keeps ms ns k call.first pass.first;
    second = known-keeps ms ns k call.second pass.second;
    first_labels = λ x. subst (λ o. IfSome o Q) (sym (value-keeps ms ns k g call.first x pass.first)) (IfSome_then (value_at ms call.first x) (pass.first_labels x) later);
    second_labels = λ x. subst (λ o. IfSome o Q) (sym (value-keeps ms ns k g call.second x pass.second)) (IfSome_then (value_at ms call.second x) (pass.second_labels x) later);
  }

pub combined_learnt : {L : Type 0} (ns : List (Node (Option L))) (R : Option L → Option L → Option L → Type 0) (old new : Memo) (call : Call) (r : ℕ) → Learns old new call r → AreCombined ns R old → IsCombined ns R call r → AreCombined ns R new
combined_learnt ns R old new call r learns are is k v e = ⊎_elim
    (λ (h : recalled old k ≡ Some v). are k v h)
    (λ (h : (k ≡ call) × (v ≡ r)). subst (λ n. IsCombined ns R k n) (sym h.1) (subst (λ c. IsCombined ns R c r) (sym h.0) is))
    (learns k v e)

-- ---- parts
max_le : (a b m : ℕ) → a ≤ m → b ≤ m → max a b ≤ m
max_le a b m e f = omega arith

pub max_left : (a b m : ℕ) → max a b ≤ m → a ≤ m
max_left a b m h = omega arith

pub max_right : (a b m : ℕ) → max a b ≤ m → b ≤ m
max_right a b m h = omega arith

at_most_below : (n bit m : ℕ) → n ≤ bit → bit + 1 ≤ m → n < m
at_most_below n bit m e f = omega arith

part_le : {T : Type 0} {ns : List (Node T)} {part call : Call} {bit v : ℕ} → ArePart ns part call bit v → deepest ns part ≤ bit
part_le {T} {ns} {part} {call} {bit} is = max_le (depth_of ns part.first) (depth_of ns part.second) bit is.first.depth is.second.depth

-- each label of a part is one of the whole
pub pass_part : {L : Type 0} {ns : List (Node (Option L))} → IsDiagram ns → (part call : Call) (bit v : ℕ) (P : L → Type 0) → v < 2 → ArePart ns part call bit v → Pass ns call P → Pass ns part P
pass_part {L} {ns} g part call bit v P small is pass = record {
  first = is.first.known;
  second = is.second.known;
  first_labels = λ x. subst (λ o. IfSome o P) (sym (value-ends ns part.first call.first x (with_bit x bit v) (end-part ns g part.first call.first bit v x small is.first))) (pass.first_labels (with_bit x bit v));
  second_labels = λ x. subst (λ o. IfSome o P) (sym (value-ends ns part.second call.second x (with_bit x bit v) (end-part ns g part.second call.second bit v x small is.second))) (pass.second_labels (with_bit x bit v));
}

-- what a part comes to is a side of a branch
under : {L : Type 0} {ls ms : List (Node (Option L))} → Keeps ls ms → IsDiagram ls → (ns : List (Node (Option L))) → Keeps ms ns → (R : Option L → Option L → Option L → Type 0) (part call : Call) (bit v r : ℕ) → ArePart ls part call bit v → IsCombined ms R part r
    → (r < length ns) × (depth_of ns r ≤ bit)
under {L} {ls} {ms} k g ns l R part call bit v r x is =
    let all : deepest ls part ≤ bit = part_le x in
    let kept : deepest ms part ≡ deepest ls part = deepest-keeps k g part x.first.known x.second.known in
    let down : depth_of ms r ≤ deepest ms part = is.depth_bound in
    (known-keeps ms ns l r is.known, omega (arith, all, kept, down, depth-keeps ms ns l r is.known))

-- ---- two terminals
pub combined_leaf : {L : Type 0} (ms ns : List (Node (Option L))) → Keeps ms ns → IsDiagram ms → IsDiagram ns → (R : Option L → Option L → Option L → Type 0) (call : Call) (r : ℕ) (u v w : Option L)
    → call.first < length ms → call.second < length ms → deepest ms call ≡ 0
    → label_of ms (end_of ms call.first 0) ≡ Some u → label_of ms (end_of ms call.second 0) ≡ Some v → slice_get ns r ≡ Some (Leaf w) → R u v w → IsCombined ns R call r
combined_leaf ms ns k g h R call r u v w ha hb e la lb leaf related =
    let flat : deepest ms call ≤ 0 = omega (arith, e) in
    let ua : (x : ℕ) → value_at ns call.first x ≡ u = λ x. value-keeps ms ns k g call.first x ha ∙ value-flat ms g call.first x 0 (max_left _ _ 0 flat) ∙ value-label ms call.first 0 u la in
    let vb : (x : ℕ) → value_at ns call.second x ≡ v = λ x. value-keeps ms ns k g call.second x hb ∙ value-flat ms g call.second x 0 (max_right _ _ 0 flat) ∙ value-label ms call.second 0 v lb in
    record {
      first = known-keeps ms ns k call.first ha;
      second = known-keeps ms ns k call.second hb;
      known = slice_get_within ns r _ leaf;
      depth_bound = omega (arith, depth-leaf ns r w leaf);
      related = λ x. subst (λ t. R t (value_at ns call.second x) (value_at ns r x)) (sym (ua x)) (subst (λ t. R u t (value_at ns r x)) (sym (vb x)) (subst (λ t. R u v t) (sym (value-leaf ns h r x w leaf)) related));
    }

-- ---- two results joined at a bit
combined_joined : {L : Type 0} (ns : List (Node (Option L))) (R : Option L → Option L → Option L → Type 0) (call low high : Call) (l h r bit : ℕ) → call.first < length ns → call.second < length ns → bit + 1 ≤ deepest ns call
    → ArePart ns low call bit 0 → ArePart ns high call bit 1 → IsCombined ns R low l → IsCombined ns R high h → IsSplit ns r bit l h → IsCombined ns R call r
combined_joined ns R call low high l h r bit ha hb top below above lows highs split = record {
  first = ha;
  second = hb;
  known = split.known;
  depth_bound = omega (arith, split.depth, top);
  related = λ x. ⊎_elim
      (λ (z : bit_at x bit ≡ 0).
      let e : end_of ns r x ≡ end_of ns l x = split.ends x ∙ ap (λ t. cond t (end_of ns h x) (end_of ns l x)) (is_zero x bit z) in
      subst (λ t. R t (value_at ns call.second x) (value_at ns r x)) (value-ends ns low.first call.first x x (below.first.ends x z))
      (subst (λ t. R (value_at ns low.first x) t (value_at ns r x)) (value-ends ns low.second call.second x x (below.second.ends x z))
      (subst (λ t. R (value_at ns low.first x) (value_at ns low.second x) t) (sym (value-ends ns r l x x e)) (lows.related x))))
      (λ (o : bit_at x bit ≡ 1).
      let e : end_of ns r x ≡ end_of ns h x = split.ends x ∙ ap (λ t. cond t (end_of ns h x) (end_of ns l x)) (is_one x bit o) in
      subst (λ t. R t (value_at ns call.second x) (value_at ns r x)) (value-ends ns high.first call.first x x (above.first.ends x o))
      (subst (λ t. R (value_at ns high.first x) t (value_at ns r x)) (value-ends ns high.second call.second x x (above.second.ends x o))
      (subst (λ t. R (value_at ns high.first x) (value_at ns high.second x) t) (sym (value-ends ns r h x x e)) (highs.related x))))
      (bit_cases x bit);
}

pub pair_halved : {T : Type 0} {ns : List (Node T)} {call : Call} (bit : ℕ) (low high : Call) → ArePair ns call bit low high → AreHalved ns call (Some (bit, low, high))
pair_halved {T} {ns} {call} bit low high is = record { none = λ e. absurd (cc); some = λ pair e. subst (λ p. ArePair ns call p.0 p.1 p.2) (same_Some _ _ e) is }

-- two functions, and what both sides of them come to, one after the other
module _ {L : Type 0} {ls : List (Node (Option L))} (g : IsDiagram ls) {call low high : Call} {bit : ℕ} (ha : call.first < length ls) (hb : call.second < length ls) (pair : ArePair ls call bit low high) where
  pub low_smaller : deepest ls low < deepest ls call
  low_smaller = at_most_below (deepest ls low) bit (deepest ls call) (part_le pair.low_part) pair.top

  module _ {ms : List (Node (Option L))} (k₁ : Keeps ls ms) where
    pub high_smaller : deepest ms high < deepest ls call
    high_smaller = at_most_below (deepest ms high) bit (deepest ls call) (subst (λ n. n ≤ bit) (sym (deepest-keeps k₁ g high pair.high_part.first.known pair.high_part.second.known)) (part_le pair.high_part)) pair.top

    module _ {ns : List (Node (Option L))} (k₂ : Keeps ms ns) where
      pub low_under : {R : Option L → Option L → Option L → Type 0} (l : ℕ) → IsCombined ms R low l → (l < length ns) × (depth_of ns l ≤ bit)
      low_under {R} l is = under k₁ g ns k₂ R low call bit 0 l pair.low_part is

      pub high_under : {R : Option L → Option L → Option L → Type 0} (h : ℕ) → IsCombined ns R high h → (h < length ns) × (depth_of ns h ≤ bit)
      high_under {R} h is = under (keeps_trans ls ms ns k₁ k₂) g ns (keeps_refl ns) R high call bit 1 h pair.high_part is

      pub joined : {os : List (Node (Option L))} → Keeps ns os → IsDiagram ms → IsDiagram ns → (R S : Option L → Option L → Option L → Type 0) → ((x y z : Option L) → R x y z → S x y z) → (l h r : ℕ) → IsCombined ms R low l → IsCombined ns S high h → IsSplit os r bit l h → IsCombined os S call r
      joined {os} k₃ g₁ g₂ R S later l h r lows highs split =
          let whole : Keeps ls os = keeps_trans ls ns os (keeps_trans ls ms ns k₁ k₂) k₃ in
          combined_joined os S call low high l h r bit (known-keeps ls os whole call.first ha) (known-keeps ls os whole call.second hb) (subst (λ n. bit + 1 ≤ n) (sym (deepest-keeps whole g call ha hb)) pair.top)
          (part_later whole low 0 pair.low_part) (part_later whole high 1 pair.high_part)
          (combined_later (keeps_trans ms ns os k₂ k₃) g₁ R S later low l lows) (combined_later k₃ g₂ S S (λ x y z is. is) high h highs) split
        where
          part_later : Keeps ls os → (part : Call) (v : ℕ) → ArePart ls part call bit v → ArePart os part call bit v
          part_later k part v is = record { first = part-keeps ls os k g part.first call.first bit v ha is.first; second = part-keeps ls os k g part.second call.second bit v hb is.second }

pub no_combined : {L : Type 0} (ns : List (Node (Option L))) (R : Option L → Option L → Option L → Type 0) (memo : Memo) → ((k : Call) → recalled memo k ≡ None) → AreCombined ns R memo
no_combined ns R memo none call r e = let both : None ≡ Some r = sym (none call) ∙ e in cc
