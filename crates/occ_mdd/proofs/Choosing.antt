use Rattle.std.proofs.Common.{◌≡◌, ℕ, ◌+◌, ◌<◌, ◌≤◌, Bool, true, false, List, length, max, Some, None, cond, refl, sym, ap, ◌∙◌, subst, ⊎_elim, arith}
use Rattle.std.specs.Int.{bit_at}
use Rattle.occ_dd.proofs.Bits.{bit_cases, is_one, is_zero}
use Rattle.occ_dd.proofs.Growth.{known-keeps, depth-keeps, end-keeps, keeps_trans as nodes_trans}
use Rattle.occ_dd.proofs.Growth.{keeps_refl as nodes_stay}
use Rattle.occ_dd.specs.Memo.{recalled, Learns}
use Rattle.occ_dd.specs.Diagram.{depth_of, end_of, IsDiagram}
use Rattle.occ_dd.specs.Diagram.{IsSplit as IsBranch, Keeps as KeepsNodes}
use Rattle.occ_dd.specs.declared.memo.Call.{Call}
use Rattle.occ_dd.specs.declared.memo.Memo.{Memo}
use Rattle.occ_dd.specs.declared.node.Node.{Node}
use Rattle.occ_dd.proofs.Callers.{keeps_refl, keeps_trans}
use Rattle.occ_dd.proofs.Callers.{known-keeps as set_known-keeps}
use Rattle.occ_dd.proofs.Sets.{one_number}
use Rattle.occ_dd.specs.Store.{IsKnown, has, depth, IsFull, IsEmpty, IsConstant, Splits, Keeps, IsSet}
use Rattle.occ_dd.specs.declared.set.SetId.{SetId}
use Rattle.occ_dd.specs.declared.store.Store.{Store}
use Rattle.occ_mdd.specs.Chosen.{id_of, greatest_depth, AreChosen, Grown, IsAsked, IsChosen, IsHalved, IsSetPart, IsSide, IsSplit, IsTop}
use Rattle.occ_mdd.specs.declared.choose.Choice.TheVariants.{Made, Split}
use Rattle.occ_mdd.proofs.Combining.{part-keeps}

-- ---- a table and a store that grow
pub grown_table : {T : Type 0} {ms ns : List (Node T)} (s : Store) → KeepsNodes ms ns → Grown ms ns s s
grown_table s k = record { nodes = k; sets = keeps_refl s }

pub grown_trans : {T : Type 0} {ls ms ns : List (Node T)} {r s t : Store} → Grown ls ms r s → Grown ms ns s t → Grown ls ns r t
grown_trans {T} {ls} {ms} {ns} {r} {s} {t} k l = record { nodes = nodes_trans ls ms ns k.nodes l.nodes; sets = keeps_trans r s t k.sets l.sets }

pub set_part-keeps : (s t : Store) → Keeps s t → (p set : SetId) (bit v : ℕ) → IsKnown s set → IsSetPart s p set bit v → IsSetPart t p set bit v
set_part-keeps s t l p set bit v h is = record {
  known = set_known-keeps s t l p is.known;
  shallow = subst (λ n. n ≤ bit) (sym (l.depths p is.known)) is.shallow;
  members = λ x e. l.same p x is.known ∙ is.members x e ∙ sym (l.same set x h);
}

module _ {T : Type 0} {ms ns : List (Node T)} {s t : Store} (k : Grown ms ns s t) (g : IsDiagram ms) where
  pub asked-keeps : (call : Call) → IsAsked ms s call → IsAsked ns t call
  asked-keeps call is = record {
    set = set_known-keeps s t k.sets (id_of call.first) is.set;
    first = known-keeps ms ns k.nodes call.second is.first;
    second = known-keeps ms ns k.nodes call.third is.second;
  }

  pub greatest-keeps : (call : Call) → IsAsked ms s call → greatest_depth ns t call ≡ greatest_depth ms s call
  greatest-keeps call is =
      ap (λ n. max n (max (depth_of ns call.second) (depth_of ns call.third))) (k.sets.depths (id_of call.first) is.set)
      ∙ ap (λ n. max (depth s (id_of call.first)) (max n (depth_of ns call.third))) (depth-keeps ms ns k.nodes call.second is.first)
      ∙ ap (λ n. max (depth s (id_of call.first)) (max (depth_of ms call.second) n)) (depth-keeps ms ns k.nodes call.third is.second)

  pub chosen-keeps : (call : Call) (r : ℕ) → IsChosen ms s call r → IsChosen ns t call r
  chosen-keeps call r is = record {
    asked = asked-keeps call is.asked;
    known = known-keeps ms ns k.nodes r is.known;
    depth_bound = subst (λ n. depth_of ns r ≤ n) (sym (greatest-keeps call is.asked)) (subst (λ n. n ≤ greatest_depth ms s call) (sym (depth-keeps ms ns k.nodes r is.known)) is.depth_bound);
    ends = λ x. end-keeps ms ns k.nodes g r x is.known ∙ is.ends x
        ∙ sym (ap (λ v. cond v (end_of ns call.second x) (end_of ns call.third x)) (k.sets.same (id_of call.first) x is.asked.set)
        ∙ ap (λ n. cond (has s (id_of call.first) x) n (end_of ns call.third x)) (end-keeps ms ns k.nodes g call.second x is.asked.first)
        ∙ ap (λ n. cond (has s (id_of call.first) x) (end_of ms call.second x) n) (end-keeps ms ns k.nodes g call.third x is.asked.second));
  }

  pub are_chosen-keeps : (memo : Memo) → AreChosen ms s memo → AreChosen ns t memo
  are_chosen-keeps memo are call r e = chosen-keeps call r (are call r e)

  side-keeps : (side call : Call) (bit v : ℕ) → IsAsked ms s call → IsSide ms s side call bit v → IsSide ns t side call bit v
  side-keeps side call bit v asked is = record {
    set = set_part-keeps s t k.sets (id_of side.first) (id_of call.first) bit v asked.set is.set;
    first = part-keeps ms ns k.nodes g side.second call.second bit v asked.first is.first;
    second = part-keeps ms ns k.nodes g side.third call.third bit v asked.second is.second;
  }

pub chosen_learnt : {T : Type 0} {ns : List (Node T)} {s : Store} (old new : Memo) (call : Call) (r : ℕ) → Learns old new call r → AreChosen ns s old → IsChosen ns s call r → AreChosen ns s new
chosen_learnt {T} {ns} {s} old new call r learns are is k v e = ⊎_elim
    (λ (h : recalled old k ≡ Some v). are k v h)
    (λ (h : (k ≡ call) × (v ≡ r)). subst (λ n. IsChosen ns s k n) (sym h.1) (subst (λ c. IsChosen ns s c r) (sym h.0) is))
    (learns k v e)

-- ---- the choices that need no branch
module _ {T : Type 0} {ns : List (Node T)} {s : Store} {call : Call} (asked : IsAsked ns s call) where
  second_le : (p q r : ℕ) → q ≤ max p (max q r)
  second_le p q r = omega arith

  third_le : (p q r : ℕ) → r ≤ max p (max q r)
  third_le p q r = omega arith

  pub chosen_full : IsFull s (id_of call.first) → IsChosen ns s call call.second
  chosen_full full = record {
    asked = asked;
    known = asked.first;
    depth_bound = second_le (depth s (id_of call.first)) (depth_of ns call.second) (depth_of ns call.third);
    ends = λ x. sym (ap (λ v. cond v (end_of ns call.second x) (end_of ns call.third x)) (full x));
  }

  chosen_empty : IsEmpty s (id_of call.first) → IsChosen ns s call call.third
  chosen_empty empty = record {
    asked = asked;
    known = asked.second;
    depth_bound = third_le (depth s (id_of call.first)) (depth_of ns call.second) (depth_of ns call.third);
    ends = λ x. sym (ap (λ v. cond v (end_of ns call.second x) (end_of ns call.third x)) (empty x));
  }

  pub chosen_rest : IsConstant s (id_of call.first) → (IsFull s (id_of call.first) → ⊥) → IsChosen ns s call call.third
  chosen_rest w other = ⊎_elim chosen_empty (λ (full : IsFull s (id_of call.first)). absurd (other full)) w

  pub chosen_same : call.second ≡ call.third → IsChosen ns s call call.second
  chosen_same e = record {
    asked = asked;
    known = asked.first;
    depth_bound = second_le (depth s (id_of call.first)) (depth_of ns call.second) (depth_of ns call.third);
    ends = λ x. same (has s (id_of call.first) x) (end_of ns call.second x) ∙ ap (λ n. cond (has s (id_of call.first) x) (end_of ns call.second x) (end_of ns n x)) e;
  }
    where
      same : (v : Bool) (n : ℕ) → n ≡ cond v n n
      same true n = refl
      same false n = refl

-- ---- the step
three_le : (p q r m : ℕ) → p ≤ m → q ≤ m → r ≤ m → max p (max q r) ≤ m
three_le p q r m e f h = omega arith

at_most_below : (n bit m : ℕ) → n ≤ bit → bit + 1 ≤ m → n < m
at_most_below n bit m e f = omega arith

-- how deep a choice is, by the top bit
pub top_depth : {T : Type 0} (ns : List (Node T)) (s : Store) (call : Call) (top bit : ℕ) (low high : SetId) → Splits s (id_of call.first) top low high → IsTop ns top call.second call.third bit → bit + 1 ≤ greatest_depth ns s call
top_depth ns s call top bit low high is t = subst (λ n. bit + 1 ≤ max n (max (depth_of ns call.second) (depth_of ns call.third))) (sym is.deep) t.top_is

module _ {T : Type 0} {ns : List (Node T)} {s : Store} {side call : Call} {bit v : ℕ} (is : IsSide ns s side call bit v) where
  side_asked : IsAsked ns s side
  side_asked = record { set = is.set.known; first = is.first.known; second = is.second.known }

  side_le : greatest_depth ns s side ≤ bit
  side_le = three_le (depth s (id_of side.first)) (depth_of ns side.second) (depth_of ns side.third) bit is.set.shallow is.first.depth is.second.depth

pub made_halved : {T : Type 0} {ns : List (Node T)} {s : Store} {call : Call} (r : ℕ) → IsChosen ns s call r → IsHalved ns s call (Made r)
made_halved {T} {ns} {s} {call} r is = record { made = λ q e. let same : r ≡ q = cc in subst (λ n. IsChosen ns s call n) same is; split = λ bit low high e. absurd (cc) }

pub split_halved : {T : Type 0} {ns : List (Node T)} {s : Store} {call : Call} (bit : ℕ) (low high : Call) → IsSplit ns s call bit low high → IsHalved ns s call (Split bit low high)
split_halved {T} {ns} {s} {call} bit low high is = record {
  made = λ r e. absurd (cc);
  split = λ n l h e.
      let same_bit : bit ≡ n = cc in
      let same_low : low ≡ l = cc in
      let same_high : high ≡ h = cc in
      subst (λ b. IsSplit ns s call b l h) same_bit (subst (λ k. IsSplit ns s call bit k h) same_low (subst (λ k. IsSplit ns s call bit low k) same_high is));
}

-- what a side comes to is a side of a branch
under : {T : Type 0} {ls ms : List (Node T)} {s t : Store} → Grown ls ms s t → IsDiagram ls → (ns : List (Node T)) → KeepsNodes ms ns → (side call : Call) (bit v r : ℕ) → IsSide ls s side call bit v → IsChosen ms t side r → (r < length ns) × (depth_of ns r ≤ bit)
under {T} {ls} {ms} {s} {t} k g ns l side call bit v r x is =
    let all : greatest_depth ls s side ≤ bit = side_le x in
    let kept : greatest_depth ms t side ≡ greatest_depth ls s side = greatest-keeps k g side (side_asked x) in
    let down : depth_of ms r ≤ greatest_depth ms t side = is.depth_bound in
    (known-keeps ms ns l r is.known, omega (arith, all, kept, down, depth-keeps ms ns l r is.known))

chosen_joined : {T : Type 0} (ns : List (Node T)) (s : Store) (call low high : Call) (bit l h r : ℕ) → IsAsked ns s call → bit + 1 ≤ greatest_depth ns s call
    → IsSide ns s low call bit 0 → IsSide ns s high call bit 1 → IsChosen ns s low l → IsChosen ns s high h → IsBranch ns r bit l h → IsChosen ns s call r
chosen_joined ns s call low high bit l h r asked top below above lows highs split = record {
  asked = asked;
  known = split.known;
  depth_bound = omega (arith, split.depth, top);
  ends = λ x. ⊎_elim
      (λ (z : bit_at x bit ≡ 0).
      split.ends x ∙ ap (λ t. cond t (end_of ns h x) (end_of ns l x)) (is_zero x bit z) ∙ lows.ends x
      ∙ ap (λ v. cond v (end_of ns low.second x) (end_of ns low.third x)) (below.set.members x z) ∙ ap (λ n. cond (has s (id_of call.first) x) n (end_of ns low.third x)) (below.first.ends x z)
      ∙ ap (λ n. cond (has s (id_of call.first) x) (end_of ns call.second x) n) (below.second.ends x z))
      (λ (o : bit_at x bit ≡ 1).
      split.ends x ∙ ap (λ t. cond t (end_of ns h x) (end_of ns l x)) (is_one x bit o) ∙ highs.ends x
      ∙ ap (λ v. cond v (end_of ns high.second x) (end_of ns high.third x)) (above.set.members x o) ∙ ap (λ n. cond (has s (id_of call.first) x) n (end_of ns high.third x)) (above.first.ends x o)
      ∙ ap (λ n. cond (has s (id_of call.first) x) (end_of ns call.second x) n) (above.second.ends x o))
      (bit_cases x bit);
}

-- a choice that is split, and what both sides come to, one after the other
module _ {T : Type 0} {ls : List (Node T)} {s : Store} (g : IsDiagram ls) {call low high : Call} {bit : ℕ} (asked : IsAsked ls s call) (split : IsSplit ls s call bit low high) where
  pub low_asked : IsAsked ls s low
  low_asked = side_asked split.low_side

  pub low_smaller : greatest_depth ls s low < greatest_depth ls s call
  low_smaller = at_most_below (greatest_depth ls s low) bit (greatest_depth ls s call) (side_le split.low_side) split.top

  module _ {ms : List (Node T)} {t : Store} (k₁ : Grown ls ms s t) where
    pub high_asked : IsAsked ms t high
    high_asked = asked-keeps k₁ g high (side_asked split.high_side)

    pub high_smaller : greatest_depth ms t high < greatest_depth ls s call
    high_smaller = at_most_below (greatest_depth ms t high) bit (greatest_depth ls s call) (subst (λ n. n ≤ bit) (sym (greatest-keeps k₁ g high (side_asked split.high_side))) (side_le split.high_side)) split.top

    module _ {ns : List (Node T)} {u : Store} (k₂ : Grown ms ns t u) where
      pub low_under : (l : ℕ) → IsChosen ms t low l → (l < length ns) × (depth_of ns l ≤ bit)
      low_under l is = under k₁ g ns k₂.nodes low call bit 0 l split.low_side is

      pub high_under : (h : ℕ) → IsChosen ns u high h → (h < length ns) × (depth_of ns h ≤ bit)
      high_under h is = under (grown_trans k₁ k₂) g ns (nodes_stay ns) high call bit 1 h split.high_side is

      pub joined : {os : List (Node T)} → KeepsNodes ns os → IsDiagram ms → IsDiagram ns → (l h r : ℕ) → IsChosen ms t low l → IsChosen ns u high h → IsBranch os r bit l h → IsChosen os u call r
      joined {os} k₃ g₁ g₂ l h r lows highs branch =
          let last : Grown ns os u u = grown_table u k₃ in
          let whole : Grown ls os s u = grown_trans (grown_trans k₁ k₂) last in
          chosen_joined os u call low high bit l h r (asked-keeps whole g call asked) (subst (λ n. bit + 1 ≤ n) (sym (greatest-keeps whole g call asked)) split.top)
          (side-keeps whole g low call bit 0 asked split.low_side) (side-keeps whole g high call bit 1 asked split.high_side)
          (chosen-keeps (grown_trans k₂ last) g₁ low l lows) (chosen-keeps last g₂ high h highs) branch

pub no_chosen : {T : Type 0} (ns : List (Node T)) (s : Store) (memo : Memo) → ((k : Call) → recalled memo k ≡ None) → AreChosen ns s memo
no_chosen ns s memo none call r e = let both : None ≡ Some r = sym (none call) ∙ e in cc

-- ---- the full set
pub full_from : (s : Store) (set full : SetId) → IsSet s full (λ x. true) → set.0 ≡ full.0 → IsFull s set
full_from s set full is e x = ap (λ n. has s (id_of n) x) e ∙ is.members x

pub full_is : (s : Store) (set full : SetId) → IsKnown s set → IsSet s full (λ x. true) → IsFull s set → set.0 ≡ full.0
full_is s set full h is f = one_number s set full h is.known (λ x _. f x ∙ sym (is.members x))
