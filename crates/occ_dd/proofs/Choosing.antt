use Rattle.std.proofs.Common.{◌≡◌, ◌≢◌, ℕ, ◌+◌, ◌<◌, ◌≤◌, ◌==◌, Bool, true, false, cond, List, length, max, Some, slice_get, refl, sym, ap, ◌∙◌, subst, ⊎_elim, arith, eqb-true}
use Rattle.std.specs.Int.{bit_at}
use Rattle.std.proofs.lemmas.Bool.{cases_Bool}
use Rattle.std.proofs.lemmas.Option.{slice_get_within}
use Rattle.occ_dd.proofs.Bits.{bit_cases, is_one, is_zero, bit_at-with_bit_other}
use Rattle.occ_dd.proofs.DiagramLemmas.{depth-branch, low_part, high_part, end-part, end-with_bit_free}
use Rattle.occ_dd.proofs.Growth.{known-keeps, depth-keeps, end-keeps}
use Rattle.occ_dd.specs.Assignment.{with_bit}
use Rattle.occ_dd.specs.Memo.{recalled, Learns}
use Rattle.occ_dd.specs.Diagram.{depth_of, end_of, IsDiagram, Keeps, IsSplit, IsPart}
use Rattle.occ_dd.specs.declared.memo.Call.{Call}
use Rattle.occ_dd.specs.declared.memo.Memo.{Memo}
use Rattle.occ_dd.specs.declared.node.Decision.{Decision}
use Rattle.occ_dd.specs.declared.node.Node.{Node}
use Rattle.occ_dd.specs.declared.node.Node.TheVariants.{Branch}
use Rattle.occ_dd.specs.Choices.{greatest_depth, IsChoice, AreChoices, IsUnion, AreUnions, IsTop}

-- the choice between two numbers by a third
abbrev pub if_full : ℕ → ℕ → ℕ → ℕ → ℕ
if_full full a b c = cond (a == full) b c

pub if_full_same : (full a a' b b' c c' : ℕ) → a ≡ a' → b ≡ b' → c ≡ c' → if_full full a b c ≡ if_full full a' b' c'
if_full_same full a a' b b' c c' e f h =
    ap (λ n. if_full full n b c) e ∙ ap (λ n. if_full full a' n c) f ∙ ap (λ n. if_full full a' b' n) h

pub greatest_same : (a a' b b' c c' : ℕ) → a ≡ a' → b ≡ b' → c ≡ c' → max a (max b c) ≡ max a' (max b' c')
greatest_same a a' b b' c c' e f h = ap (λ n. max n (max b c)) e ∙ ap (λ n. max a' (max n c)) f ∙ ap (λ n. max a' (max b' n)) h

pub greatest_first : (a b c : ℕ) → a ≤ max a (max b c)
greatest_first a b c = omega arith

pub greatest_second : (a b c : ℕ) → b ≤ max a (max b c)
greatest_second a b c = omega arith

pub greatest_third : (a b c : ℕ) → c ≤ max a (max b c)
greatest_third a b c = omega arith

pub greatest_below : (a b c m : ℕ) → a < m → b < m → c < m → max a (max b c) < m
greatest_below a b c m e f h = omega arith

-- ---- what a longer table keeps
module _ (ms ns : List (Node Bool)) (k : Keeps ms ns) (g : IsDiagram ms) where
  pub greatest-keeps : (a b c : ℕ) → a < length ms → b < length ms → c < length ms → greatest_depth ns a b c ≡ greatest_depth ms a b c
  greatest-keeps a b c ha hb hc = greatest_same _ _ _ _ _ _ (depth-keeps ms ns k a ha) (depth-keeps ms ns k b hb) (depth-keeps ms ns k c hc)

  pub part-keeps : (p i bit v : ℕ) → i < length ms → IsPart ms p i bit v → IsPart ns p i bit v
  part-keeps p i bit v within is = record {
    known = known-keeps ms ns k p is.known;
    depth = subst (λ n. n ≤ bit) (sym (depth-keeps ms ns k p is.known)) is.depth;
    ends = λ x h. end-keeps ms ns k g p x is.known ∙ is.ends x h ∙ sym (end-keeps ms ns k g i x within);
  }

  pub choice-keeps : (full a b c r : ℕ) → IsChoice ms full a b c r → IsChoice ns full a b c r
  choice-keeps full a b c r is = record {
    first = known-keeps ms ns k a is.first;
    second = known-keeps ms ns k b is.second;
    third = known-keeps ms ns k c is.third;
    known = known-keeps ms ns k r is.known;
    depth = subst (λ n. depth_of ns r ≤ n) (sym (greatest-keeps a b c is.first is.second is.third)) (subst (λ n. n ≤ greatest_depth ms a b c) (sym (depth-keeps ms ns k r is.known)) is.depth);
    ends = λ x. end-keeps ms ns k g r x is.known ∙ is.ends x
        ∙ sym (if_full_same full _ _ _ _ _ _ (end-keeps ms ns k g a x is.first) (end-keeps ms ns k g b x is.second) (end-keeps ms ns k g c x is.third));
  }

  pub are_choices-keeps : (full : ℕ) (memo : Memo) → AreChoices ms full memo → AreChoices ns full memo
  are_choices-keeps full memo are call r e = choice-keeps full call.first call.second call.third r (are call r e)

  pub union-keeps : (full a bit r : ℕ) → IsUnion ms full a bit r → IsUnion ns full a bit r
  union-keeps full a bit r is = record {
    origin = known-keeps ms ns k a is.origin;
    known = known-keeps ms ns k r is.known;
    depth = subst (λ n. depth_of ns r ≤ n) (sym (depth-keeps ms ns k a is.origin)) (subst (λ n. n ≤ depth_of ms a) (sym (depth-keeps ms ns k r is.known)) is.depth);
    ends = λ x. end-keeps ms ns k g r x is.known ∙ is.ends x
        ∙ sym (if_full_same full _ _ full full _ _ (end-keeps ms ns k g a (with_bit x bit 0) is.origin) refl (end-keeps ms ns k g a (with_bit x bit 1) is.origin));
  }

  pub are_unions-keeps : (full : ℕ) (memo : Memo) → AreUnions ms full memo → AreUnions ns full memo
  are_unions-keeps full memo are call r e = union-keeps full call.first call.second r (are call r e)

-- ---- what is learnt
pub choice_learnt : (ns : List (Node Bool)) (full : ℕ) (old new : Memo) (call : Call) (r : ℕ) → Learns old new call r → AreChoices ns full old → IsChoice ns full call.first call.second call.third r → AreChoices ns full new
choice_learnt ns full old new call r learns are is k v e = ⊎_elim
    (λ (h : recalled old k ≡ Some v). are k v h)
    (λ (h : (k ≡ call) × (v ≡ r)). subst (λ n. IsChoice ns full k.first k.second k.third n) (sym h.1) (subst (λ c. IsChoice ns full c.first c.second c.third r) (sym h.0) is))
    (learns k v e)

pub union_learnt : (ns : List (Node Bool)) (full : ℕ) (old new : Memo) (call : Call) (r : ℕ) → Learns old new call r → AreUnions ns full old → IsUnion ns full call.first call.second r → AreUnions ns full new
union_learnt ns full old new call r learns are is k v e = ⊎_elim
    (λ (h : recalled old k ≡ Some v). are k v h)
    (λ (h : (k ≡ call) × (v ≡ r)). subst (λ n. IsUnion ns full k.first k.second n) (sym h.1) (subst (λ c. IsUnion ns full c.first c.second r) (sym h.0) is))
    (learns k v e)

-- ---- the steps
module _ (ns : List (Node Bool)) (g : IsDiagram ns) (full : ℕ) where
  pub choice_same : (a b : ℕ) → a < length ns → b < length ns → IsChoice ns full a b b b
  choice_same a b ha hb = record {
    first = ha;
    second = hb;
    third = hb;
    known = hb;
    depth = greatest_second (depth_of ns a) (depth_of ns b) (depth_of ns b);
    ends = λ x. same (end_of ns a x == full) (end_of ns b x);
  }
    where
      same : (t : Bool) (n : ℕ) → n ≡ cond t n n
      same true n = refl
      same false n = refl

  -- two choices joined at a bit
  pub choice_joined : (a b c a₀ b₀ c₀ a₁ b₁ c₁ low high r bit : ℕ) → a < length ns → b < length ns → c < length ns → IsTop ns a b c bit
      → IsPart ns a₀ a bit 0 → IsPart ns b₀ b bit 0 → IsPart ns c₀ c bit 0 → IsPart ns a₁ a bit 1 → IsPart ns b₁ b bit 1 → IsPart ns c₁ c bit 1
      → IsChoice ns full a₀ b₀ c₀ low → IsChoice ns full a₁ b₁ c₁ high → IsSplit ns r bit low high → IsChoice ns full a b c r
  choice_joined a b c a₀ b₀ c₀ a₁ b₁ c₁ low high r bit ha hb hc top pa₀ pb₀ pc₀ pa₁ pb₁ pc₁ lows highs split =
      let deep : depth_of ns r ≤ bit + 1 = split.depth in
      let all : bit + 1 ≤ greatest_depth ns a b c = top.top in
      record {
        first = ha;
        second = hb;
        third = hc;
        known = split.known;
        depth = omega (arith, deep, all);
        ends = λ x. ⊎_elim
            (λ (z : bit_at x bit ≡ 0).
            split.ends x ∙ ap (λ t. cond t (end_of ns high x) (end_of ns low x)) (is_zero x bit z) ∙ lows.ends x
            ∙ if_full_same full _ _ _ _ _ _ (pa₀.ends x z) (pb₀.ends x z) (pc₀.ends x z))
            (λ (o : bit_at x bit ≡ 1).
            split.ends x ∙ ap (λ t. cond t (end_of ns high x) (end_of ns low x)) (is_one x bit o) ∙ highs.ends x
            ∙ if_full_same full _ _ _ _ _ _ (pa₁.ends x o) (pb₁.ends x o) (pc₁.ends x o))
            (bit_cases x bit);
      }

  -- a function to which the bit doesn't matter
  pub union_free : (a bit : ℕ) → a < length ns → depth_of ns a ≤ bit → IsUnion ns full a bit a
  union_free a bit within h = record {
    origin = within;
    known = within;
    depth = omega arith;
    ends = λ x. same (end_of ns a x) ∙ sym (if_full_same full _ _ full full _ _ (end-with_bit_free ns g a bit 0 x h) refl (end-with_bit_free ns g a bit 1 x h));
  }
    where
      same : (n : ℕ) → n ≡ if_full full n full n
      same n = ⊎_elim
          (λ (t : (n == full) ≡ true). eqb-true n full t ∙ sym (ap (λ b. cond b full n) t))
          (λ (t : (n == full) ≡ false). sym (ap (λ b. cond b full n) t))
          (cases_Bool (n == full))

  -- at the bit that the node reads: the choice of full where the low side is full, and else of the high side
  pub union_here : (a r bit : ℕ) (d : Decision) → slice_get ns a ≡ Some (Branch d) → d.bit ≡ bit → depth_of ns full ≡ 0 → ((x : ℕ) → end_of ns full x ≡ full)
      → IsChoice ns full d.low full d.high r → IsUnion ns full a bit r
  union_here a r bit d e at flat ends choice =
      let is = g.decisions a d e in
      let deep : depth_of ns a ≡ d.bit + 1 = depth-branch ns a d e in
      let low = subst (λ n. IsPart ns d.low a n 0) at (low_part ns g a d e) in
      let high = subst (λ n. IsPart ns d.high a n 1) at (high_part ns g a d e) in
      let least : depth_of ns r < depth_of ns a = small r d choice.depth is.low_depth is.high_depth flat deep in
      record {
        origin = slice_get_within ns a _ e;
        known = choice.known;
        depth = omega (arith, least);
        ends = λ x. choice.ends x ∙ if_full_same full _ _ _ _ _ _ (end-part ns g d.low a bit 0 x (omega arith) low) (ends x) (end-part ns g d.high a bit 1 x (omega arith) high);
      }
    where
      small : (r : ℕ) (d : Decision) → depth_of ns r ≤ greatest_depth ns d.low full d.high → depth_of ns d.low ≤ d.bit → depth_of ns d.high ≤ d.bit → depth_of ns full ≡ 0 → depth_of ns a ≡ d.bit + 1 → depth_of ns r < depth_of ns a
      small r d h l m f e = omega (arith, h, greatest_below (depth_of ns d.low) (depth_of ns full) (depth_of ns d.high) (d.bit + 1) (omega arith) (omega arith) (omega arith))

  -- at a lower bit: the sides' unions
  pub union_below : (a bit low high r : ℕ) (d : Decision) → slice_get ns a ≡ Some (Branch d) → d.bit ≢ bit → IsUnion ns full d.low bit low → IsUnion ns full d.high bit high → IsSplit ns r d.bit low high → IsUnion ns full a bit r
  union_below a bit low high r d e ne lows highs split =
      let deep : depth_of ns a ≡ d.bit + 1 = depth-branch ns a d e in
      let high_side = high_part ns g a d e in
      let low_side = low_part ns g a d e in
      record {
        origin = slice_get_within ns a _ e;
        known = split.known;
        depth = omega (arith, split.depth, deep);
        ends = λ x. ⊎_elim
            (λ (z : bit_at x d.bit ≡ 0).
            split.ends x ∙ ap (λ t. cond t (end_of ns high x) (end_of ns low x)) (is_zero x d.bit z) ∙ lows.ends x
            ∙ if_full_same full _ _ full full _ _ (low_side.ends (with_bit x bit 0) (bit_at-with_bit_other x bit 0 d.bit ne ∙ z)) refl (low_side.ends (with_bit x bit 1) (bit_at-with_bit_other x bit 1 d.bit ne ∙ z)))
            (λ (o : bit_at x d.bit ≡ 1).
            split.ends x ∙ ap (λ t. cond t (end_of ns high x) (end_of ns low x)) (is_one x d.bit o) ∙ highs.ends x
            ∙ if_full_same full _ _ full full _ _ (high_side.ends (with_bit x bit 0) (bit_at-with_bit_other x bit 0 d.bit ne ∙ o)) refl (high_side.ends (with_bit x bit 1) (bit_at-with_bit_other x bit 1 d.bit ne ∙ o)))
            (bit_cases x d.bit);
      }
