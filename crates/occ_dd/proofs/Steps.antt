use Rattle.std.proofs.Common.{◌≡◌, ◌≢◌, ◌⊎◌, ℕ, ◌+◌, ◌<◌, ◌≤◌, length, max, Some, cond, eq-eqb, ne_eqb, slice_get, sym, ap, ◌∙◌, subst, ⊎_elim, arith}
use Rattle.std.proofs.lemmas.Option.{slice_get_within}
use Rattle.occ_dd.proofs.Growth.{known-keeps, depth-keeps}
use Rattle.occ_dd.specs.Diagram.{depth_of, end_of, IsSplit, IsPart}
use Rattle.occ_dd.specs.Table.{nodes_of}
use Rattle.occ_dd.specs.declared.node.Decision.{Decision}
use Rattle.occ_dd.specs.declared.node.Node.TheVariants.{Branch}
use Rattle.occ_dd.specs.Choices.{greatest_depth, IsChoice, IsUnion, IsTop}
use Rattle.occ_dd.specs.Grows.{Grows}
use Rattle.occ_dd.specs.declared.store.Store.{Store}
use Rattle.occ_dd.proofs.Choosing.{part-keeps, choice-keeps, greatest-keeps, union-keeps, choice_joined, choice_same, union_below, union_here, greatest_first, greatest_second, greatest_third}
use Rattle.occ_dd.proofs.Sets.{grows_trans, depth-full, end-full, end-empty, end_cases, apart}

greatest_le : (a b c m : ℕ) → a ≤ m → b ≤ m → c ≤ m → max a (max b c) ≤ m
greatest_le a b c m e f h = omega arith

-- ---- choices and unions in a store that grew
module _ (s t : Store) (g : Grows s t) where
  pub choice_grown : (a b c r : ℕ) → IsChoice (nodes_of s.table) s.full a b c r → IsChoice (nodes_of t.table) t.full a b c r
  choice_grown a b c r is = subst (λ n. IsChoice (nodes_of t.table) n a b c r) (sym g.full) (choice-keeps (nodes_of s.table) (nodes_of t.table) g.nodes s.table.diagram s.full a b c r is)

  pub union_grown : (a bit r : ℕ) → IsUnion (nodes_of s.table) s.full a bit r → IsUnion (nodes_of t.table) t.full a bit r
  union_grown a bit r is = subst (λ n. IsUnion (nodes_of t.table) n a bit r) (sym g.full) (union-keeps (nodes_of s.table) (nodes_of t.table) g.nodes s.table.diagram s.full a bit r is)

  top_grown : (a b c bit : ℕ) → a < length (nodes_of s.table) → b < length (nodes_of s.table) → c < length (nodes_of s.table) → IsTop (nodes_of s.table) a b c bit → IsTop (nodes_of t.table) a b c bit
  top_grown a b c bit ha hb hc is = record {
    within = is.within;
    first = subst (λ n. n ≤ bit + 1) (sym (depth-keeps (nodes_of s.table) (nodes_of t.table) g.nodes a ha)) is.first;
    second = subst (λ n. n ≤ bit + 1) (sym (depth-keeps (nodes_of s.table) (nodes_of t.table) g.nodes b hb)) is.second;
    third = subst (λ n. n ≤ bit + 1) (sym (depth-keeps (nodes_of s.table) (nodes_of t.table) g.nodes c hc)) is.third;
    top = subst (λ n. bit + 1 ≤ n) (sym (greatest-keeps (nodes_of s.table) (nodes_of t.table) g.nodes s.table.diagram a b c ha hb hc)) is.top;
  }

-- the result of a call on the parts is a side of a branch
pub choice_side : (r s t : Store) → Grows r s → Grows s t → (a b c p q n bit v side : ℕ) → IsPart (nodes_of r.table) p a bit v → IsPart (nodes_of r.table) q b bit v → IsPart (nodes_of r.table) n c bit v
    → IsChoice (nodes_of s.table) s.full p q n side → (side < length (nodes_of t.table)) × (depth_of (nodes_of t.table) side ≤ bit)
choice_side r s t g h a b c p q n bit v side x y z is =
    let all : greatest_depth (nodes_of r.table) p q n ≤ bit = greatest_le _ _ _ bit x.depth y.depth z.depth in
    let kept : greatest_depth (nodes_of s.table) p q n ≡ greatest_depth (nodes_of r.table) p q n = greatest-keeps (nodes_of r.table) (nodes_of s.table) g.nodes r.table.diagram p q n x.known y.known z.known in
    let same : depth_of (nodes_of t.table) side ≡ depth_of (nodes_of s.table) side = depth-keeps (nodes_of s.table) (nodes_of t.table) h.nodes side is.known in
    let low : depth_of (nodes_of s.table) side ≤ greatest_depth (nodes_of s.table) p q n = is.depth in
    (known-keeps (nodes_of s.table) (nodes_of t.table) h.nodes side is.known, omega (arith, all, kept, same, low))

-- the second call's arguments are smaller in the store after the first
pub second_smaller : (r s : Store) → Grows r s → (a b c p q n bit v : ℕ) → IsTop (nodes_of r.table) a b c bit → IsPart (nodes_of r.table) p a bit v → IsPart (nodes_of r.table) q b bit v → IsPart (nodes_of r.table) n c bit v
    → greatest_depth (nodes_of s.table) p q n < greatest_depth (nodes_of r.table) a b c
second_smaller r s g a b c p q n bit v top x y z =
    let all : greatest_depth (nodes_of r.table) p q n ≤ bit = greatest_le _ _ _ bit x.depth y.depth z.depth in
    let kept : greatest_depth (nodes_of s.table) p q n ≡ greatest_depth (nodes_of r.table) p q n = greatest-keeps (nodes_of r.table) (nodes_of s.table) g.nodes r.table.diagram p q n x.known y.known z.known in
    let deep : bit + 1 ≤ greatest_depth (nodes_of r.table) a b c = top.top in
    omega (arith, all, kept, deep)

pub choices_joined : (r s t u : Store) → Grows r s → Grows s t → Grows t u → (a b c a₀ b₀ c₀ a₁ b₁ c₁ low high n bit : ℕ)
    → a < length (nodes_of r.table) → b < length (nodes_of r.table) → c < length (nodes_of r.table) → IsTop (nodes_of r.table) a b c bit
    → IsPart (nodes_of r.table) a₀ a bit 0 → IsPart (nodes_of r.table) b₀ b bit 0 → IsPart (nodes_of r.table) c₀ c bit 0
    → IsPart (nodes_of r.table) a₁ a bit 1 → IsPart (nodes_of r.table) b₁ b bit 1 → IsPart (nodes_of r.table) c₁ c bit 1
    → IsChoice (nodes_of s.table) s.full a₀ b₀ c₀ low → IsChoice (nodes_of t.table) t.full a₁ b₁ c₁ high → IsSplit (nodes_of u.table) n bit low high
    → IsChoice (nodes_of u.table) u.full a b c n
choices_joined r s t u g₁ g₂ g₃ a b c a₀ b₀ c₀ a₁ b₁ c₁ low high n bit ha hb hc top pa₀ pb₀ pc₀ pa₁ pb₁ pc₁ lows highs split =
    let g : Grows r u = grows_trans r t u (grows_trans r s t g₁ g₂) g₃ in
    let ms = nodes_of r.table in
    let ns = nodes_of u.table in
    choice_joined ns u.table.diagram u.full a b c a₀ b₀ c₀ a₁ b₁ c₁ low high n bit
    (known-keeps ms ns g.nodes a ha) (known-keeps ms ns g.nodes b hb) (known-keeps ms ns g.nodes c hc) (top_grown r u g a b c bit ha hb hc top)
    (part-keeps ms ns g.nodes r.table.diagram a₀ a bit 0 ha pa₀) (part-keeps ms ns g.nodes r.table.diagram b₀ b bit 0 hb pb₀) (part-keeps ms ns g.nodes r.table.diagram c₀ c bit 0 hc pc₀)
    (part-keeps ms ns g.nodes r.table.diagram a₁ a bit 1 ha pa₁) (part-keeps ms ns g.nodes r.table.diagram b₁ b bit 1 hb pb₁) (part-keeps ms ns g.nodes r.table.diagram c₁ c bit 1 hc pc₁)
    (choice_grown s u (grows_trans s t u g₂ g₃) a₀ b₀ c₀ low lows) (choice_grown t u g₃ a₁ b₁ c₁ high highs) split

-- ---- the choices that need no branch
module _ (s : Store) (a b c : ℕ) (ha : a < length (nodes_of s.table)) (hb : b < length (nodes_of s.table)) (hc : c < length (nodes_of s.table)) where
  pub choice_full : a ≡ s.full → IsChoice (nodes_of s.table) s.full a b c b
  choice_full e = record {
    first = ha;
    second = hb;
    third = hc;
    known = hb;
    depth = greatest_second (depth_of (nodes_of s.table) a) (depth_of (nodes_of s.table) b) (depth_of (nodes_of s.table) c);
    ends = λ x. sym (ap (λ t. cond t (end_of (nodes_of s.table) b x) (end_of (nodes_of s.table) c x)) (eq-eqb _ _ (ap (λ n. end_of (nodes_of s.table) n x) e ∙ end-full s x)));
  }

  pub choice_empty : a ≡ s.empty → IsChoice (nodes_of s.table) s.full a b c c
  choice_empty e = record {
    first = ha;
    second = hb;
    third = hc;
    known = hc;
    depth = greatest_third (depth_of (nodes_of s.table) a) (depth_of (nodes_of s.table) b) (depth_of (nodes_of s.table) c);
    ends = λ x. sym (ap (λ t. cond t (end_of (nodes_of s.table) b x) (end_of (nodes_of s.table) c x)) (ne_eqb _ _ (λ f. apart s (sym (ap (λ n. end_of (nodes_of s.table) n x) e ∙ end-empty s x) ∙ f))));
  }

  pub choice_itself : b ≡ s.full → c ≡ s.empty → IsChoice (nodes_of s.table) s.full a b c a
  choice_itself e f = record {
    first = ha;
    second = hb;
    third = hc;
    known = ha;
    depth = greatest_first (depth_of (nodes_of s.table) a) (depth_of (nodes_of s.table) b) (depth_of (nodes_of s.table) c);
    ends = λ x. ⊎_elim
        (λ (h : end_of (nodes_of s.table) a x ≡ s.full).
        h ∙ sym (ap (λ t. cond t (end_of (nodes_of s.table) b x) (end_of (nodes_of s.table) c x)) (eq-eqb _ _ h) ∙ ap (λ n. end_of (nodes_of s.table) n x) e ∙ end-full s x))
        (λ (h : end_of (nodes_of s.table) a x ≡ s.empty).
        h ∙ sym (ap (λ t. cond t (end_of (nodes_of s.table) b x) (end_of (nodes_of s.table) c x)) (ne_eqb _ _ (λ g. apart s (sym h ∙ g))) ∙ ap (λ n. end_of (nodes_of s.table) n x) f ∙ end-empty s x))
        (end_cases s a x ha);
  }

  pub choice_either : (a ≡ s.full) ⊎ ((a ≡ s.full → ⊥) × (b ≡ c)) → IsChoice (nodes_of s.table) s.full a b c b
  choice_either w = ⊎_elim choice_full
      (λ (h : (a ≡ s.full → ⊥) × (b ≡ c)). subst (λ n. IsChoice (nodes_of s.table) s.full a b n b) h.1 (choice_same (nodes_of s.table) s.table.diagram s.full a b ha hb)) w

-- ---- unions
pub union_side : (r s t : Store) → Grows r s → Grows s t → (a bit i side : ℕ) → i < length (nodes_of r.table) → depth_of (nodes_of r.table) i ≤ bit → (at : ℕ)
    → IsUnion (nodes_of s.table) s.full i at side → (side < length (nodes_of t.table)) × (depth_of (nodes_of t.table) side ≤ bit)
union_side r s t g h a bit i side hi low at is =
    let kept : depth_of (nodes_of s.table) i ≡ depth_of (nodes_of r.table) i = depth-keeps (nodes_of r.table) (nodes_of s.table) g.nodes i hi in
    let same : depth_of (nodes_of t.table) side ≡ depth_of (nodes_of s.table) side = depth-keeps (nodes_of s.table) (nodes_of t.table) h.nodes side is.known in
    let down : depth_of (nodes_of s.table) side ≤ depth_of (nodes_of s.table) i = is.depth in
    (known-keeps (nodes_of s.table) (nodes_of t.table) h.nodes side is.known, omega arith)

pub unions_joined : (r s t u : Store) → Grows r s → Grows s t → Grows t u → (a bit low high n : ℕ) (d : Decision) → slice_get (nodes_of r.table) a ≡ Some (Branch d) → d.bit ≢ bit
    → IsUnion (nodes_of s.table) s.full d.low bit low → IsUnion (nodes_of t.table) t.full d.high bit high → IsSplit (nodes_of u.table) n d.bit low high
    → IsUnion (nodes_of u.table) u.full a bit n
unions_joined r s t u g₁ g₂ g₃ a bit low high n d e ne lows highs split =
    let g : Grows r u = grows_trans r t u (grows_trans r s t g₁ g₂) g₃ in
    union_below (nodes_of u.table) u.table.diagram u.full a bit low high n d (g.nodes.same a (slice_get_within (nodes_of r.table) a _ e) ∙ e) ne
    (union_grown s u (grows_trans s t u g₂ g₃) d.low bit low lows) (union_grown t u g₃ d.high bit high highs) split

pub union_chosen : (s t : Store) → Grows s t → (a r bit : ℕ) (d : Decision) → slice_get (nodes_of s.table) a ≡ Some (Branch d) → d.bit ≡ bit → IsChoice (nodes_of t.table) t.full d.low s.full d.high r → IsUnion (nodes_of t.table) t.full a bit r
union_chosen s t g a r bit d e at is =
    union_here (nodes_of t.table) t.table.diagram t.full a r bit d (g.nodes.same a (slice_get_within (nodes_of s.table) a _ e) ∙ e) at (depth-full t) (end-full t)
    (subst (λ n. IsChoice (nodes_of t.table) t.full d.low n d.high r) (sym g.full) is)
