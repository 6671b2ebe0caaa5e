use Rattle.std.proofs.Common.{◌≡◌, ◌≢◌, ◌⊎◌, ℕ, zero, suc, ◌+◌, ◌<◌, ◌≤◌, ◌==◌, Bool, true, false, cond, List, [], ◌∷◌, ◌++◌, length, Some, slice_get, refl, sym, ap, ◌∙◌, subst, inl, inr, ⊎_elim, arith, length-append}
use Rattle.std.specs.Int.{bit_at}
use Rattle.std.specs.List.{list_any}
use Rattle.std.specs.Cmp.{IsEquivalence}
use Rattle.std.proofs.lemmas.Bool.{cases_Bool, or_left, or_right, both_ways}
use Rattle.std.proofs.lemmas.Option.{slice_get_within, same_Some}
use Rattle.occ_dd.proofs.Bits.{bit_cases, is_one, is_zero, bit_at-turned_other, bit_at-turned_same}
use Rattle.occ_dd.proofs.DiagramLemmas.{depth-branch, end-walk, end-branch, end-turned_free, walk-zero, walk-suc, next-in}
use Rattle.occ_dd.specs.Assignment.{turned}
use Rattle.occ_dd.specs.Memo.{recalled, Learns}
use Rattle.occ_dd.specs.Diagram.{depth_of_node, next, label_of_node, depth_of, walk, end_of, label_of, IsDecision, IsDiagram, Keeps, Interns, IsSplit, IsTurned, AreTurned}
use Rattle.occ_dd.specs.declared.memo.Call.{Call}
use Rattle.occ_dd.specs.declared.memo.Memo.{Memo}
use Rattle.occ_dd.specs.declared.node.Decision.{Decision}
use Rattle.occ_dd.specs.declared.node.Node.{Node}
use Rattle.occ_dd.specs.declared.node.Node.TheVariants.{Leaf, Branch}

module _ {T : Type 0} where
  -- ---- a list with one more node
  get-front : (ms : List (Node T)) (n : Node T) (i : ℕ) → i < length ms → slice_get (ms ++ n ∷ []) i ≡ slice_get ms i
  get-front [] n i h = absurd (omega arith)
  get-front (m ∷ ms) n zero h = refl
  get-front (m ∷ ms) n (suc i) h = get-front ms n i (omega arith)

  get-push_cases : (ms : List (Node T)) (n m : Node T) (i : ℕ) → slice_get (ms ++ n ∷ []) i ≡ Some m → (slice_get ms i ≡ Some m) ⊎ ((i ≡ length ms) × (m ≡ n))
  get-push_cases [] n m zero e = inr (refl, cc)
  get-push_cases [] n m (suc i) e = inl e
  get-push_cases (k ∷ ms) n m zero e = inl e
  get-push_cases (k ∷ ms) n m (suc i) e = ⊎_elim (λ (h : slice_get ms i ≡ Some m). inl h) (λ (h : (i ≡ length ms) × (m ≡ n)). inr (ap suc h.0, h.1)) (get-push_cases ms n m i e)

  any_at : (p : Node T → Bool) (ms : List (Node T)) (n : Node T) (i : ℕ) → slice_get ms i ≡ Some n → p n ≡ true → list_any p ms ≡ true
  any_at p [] n i e h = cc
  any_at p (m ∷ ms) n zero e h = or_left (p m) (list_any p ms) (ap p (same_Some m n e) ∙ h)
  any_at p (m ∷ ms) n (suc i) e h = or_right (p m) (list_any p ms) (any_at p ms n i e h)

  -- what an insertion leaves
  pub interned : {E : Node T → Node T → Bool} → IsEquivalence E → (ms ns : List (Node T)) (n : Node T)
      → ns ≡ cond (list_any (E n) ms) ms (ms ++ n ∷ []) → Interns ms ns n
  interned {E} equivalence ms ns n e = ⊎_elim
      (λ (h : list_any (E n) ms ≡ true). inl (e ∙ ap (λ t. cond t ms (ms ++ n ∷ [])) h))
      (λ (h : list_any (E n) ms ≡ false). inr (e ∙ ap (λ t. cond t ms (ms ++ n ∷ [])) h, λ i there. both_ways _ h (any_at (E n) ms n i there (equivalence.refl n))))
      (cases_Bool (list_any (E n) ms))

  pub keeps_refl : (ns : List (Node T)) → Keeps ns ns
  keeps_refl ns = record { more = omega arith; same = λ i h. refl }

  pub keeps_trans : (ls ms ns : List (Node T)) → Keeps ls ms → Keeps ms ns → Keeps ls ns
  keeps_trans ls ms ns a b =
      let p : length ls ≤ length ms = a.more in
      let q : length ms ≤ length ns = b.more in
      record { more = omega arith; same = λ i h. b.same i (omega arith) ∙ a.same i h }

  keeps_push : (ms : List (Node T)) (n : Node T) → Keeps ms (ms ++ n ∷ [])
  keeps_push ms n = record { more = omega (arith, length-append ms (n ∷ [])); same = get-front ms n }

  pub keeps_interned : (ms ns : List (Node T)) (n : Node T) → Interns ms ns n → Keeps ms ns
  keeps_interned ms ns n = ⊎_elim
      (λ (e : ns ≡ ms). subst (Keeps ms) (sym e) (keeps_refl ms))
      (λ (w : (ns ≡ ms ++ n ∷ []) × ((i : ℕ) → slice_get ms i ≡ Some n → ⊥)). subst (Keeps ms) (sym w.0) (keeps_push ms n))

  pub growth_interned : (ms ns : List (Node T)) (n : Node T) → Interns ms ns n → length ns ≤ length ms + 1
  growth_interned ms ns n = ⊎_elim
      (λ (e : ns ≡ ms). omega (arith, ap length e))
      (λ (w : (ns ≡ ms ++ n ∷ []) × ((i : ℕ) → slice_get ms i ≡ Some n → ⊥)). omega (arith, ap length w.0, length-append ms (n ∷ [])))

-- ---- what a longer table keeps
module _ {T : Type 0} (ms ns : List (Node T)) (k : Keeps ms ns) where
  pub known-keeps : (i : ℕ) → i < length ms → i < length ns
  known-keeps i h = let p : length ms ≤ length ns = k.more in omega arith

  pub depth-keeps : (i : ℕ) → i < length ms → depth_of ns i ≡ depth_of ms i
  unfolding depth_of
  depth-keeps i h = ap depth_of_node (k.same i h)

  pub label-keeps : (i : ℕ) → i < length ms → label_of ns i ≡ label_of ms i
  unfolding label_of
  label-keeps i h = ap label_of_node (k.same i h)

  pub decision-keeps : (d : Decision) → IsDecision ms d → IsDecision ns d
  decision-keeps d is =
      let low : d.low < length ms = is.low in
      let high : d.high < length ms = is.high in
      let low_depth : depth_of ms d.low ≤ d.bit = is.low_depth in
      let high_depth : depth_of ms d.high ≤ d.bit = is.high_depth in
      record {
        bit = is.bit;
        low = known-keeps d.low low;
        high = known-keeps d.high high;
        low_depth = omega (arith, depth-keeps d.low low);
        high_depth = omega (arith, depth-keeps d.high high);
        differ = is.differ;
      }

  module _ (g : IsDiagram ms) where
    walk-keeps : (n i x : ℕ) → i < length ms → walk ns n i x ≡ walk ms n i x
    walk-keeps zero i x h = walk-zero ns i x ∙ sym (walk-zero ms i x)
    walk-keeps (suc n) i x h =
        walk-suc ns n i x ∙ ap (λ o. walk ns n (next o i x) x) (k.same i h) ∙ walk-keeps n (next (slice_get ms i) i x) x (next-in ms g i x h) ∙ sym (walk-suc ms n i x)

    pub end-keeps : (i x : ℕ) → i < length ms → end_of ns i x ≡ end_of ms i x
    end-keeps i x h = end-walk ns i x ∙ walk-keeps 64 i x h ∙ sym (end-walk ms i x)

    pub turned-keeps : (i bit r : ℕ) → IsTurned ms i bit r → IsTurned ns i bit r
    turned-keeps i bit r is =
        let origin : i < length ms = is.origin in
        let known : r < length ms = is.known in
        let depth : depth_of ms r ≤ depth_of ms i = is.depth in
        record {
          origin = known-keeps i origin;
          known = known-keeps r known;
          depth = omega (arith, depth-keeps r known, depth-keeps i origin);
          ends = λ x. end-keeps r x known ∙ is.ends x ∙ sym (end-keeps i (turned x bit) origin);
        }

    pub are_turned-keeps : (memo : Memo) → AreTurned ms memo → AreTurned ns memo
    are_turned-keeps memo are call r e = turned-keeps call.first call.second r (are call r e)

-- the decisions of a node are right in a table
abbrev pub IsFit : {T : Type 0} → List (Node T) → Node T → Type 0
IsFit ms n = (d : Decision) → n ≡ Branch d → IsDecision ms d

pub fit_leaf : {T : Type 0} (ms : List (Node T)) (v : T) → IsFit ms (Leaf v)
fit_leaf ms v d e = cc

same_branch : {T : Type 0} (c d : Decision) → ◌≡◌ {A = Node T} (Branch c) (Branch d) → c ≡ d
same_branch c d e = cc

pub fit_branch : {T : Type 0} (ms : List (Node T)) (c : Decision) → IsDecision ms c → IsFit ms (Branch c)
fit_branch {T} ms c is d e = subst (IsDecision ms) (same_branch {T = T} c d e) is

module _ {T : Type 0} (ms ns : List (Node T)) (n : Node T) where
  push_diagram : IsDiagram ms → IsFit ms n → ((i : ℕ) → slice_get ms i ≡ Some n → ⊥) → IsDiagram (ms ++ n ∷ [])
  push_diagram g fit new = record {
    decisions = λ i d e. decision-keeps ms (ms ++ n ∷ []) (keeps_push ms n) d (⊎_elim
        (λ (h : slice_get ms i ≡ Some (Branch d)). g.decisions i d h)
        (λ (h : (i ≡ length ms) × (Branch d ≡ n)). fit d (sym h.1))
        (get-push_cases ms n (Branch d) i e));
    single = λ i j m e f. ⊎_elim
        (λ (h : slice_get ms i ≡ Some m). ⊎_elim
        (λ (h' : slice_get ms j ≡ Some m). g.single i j m h h')
        (λ (h' : (j ≡ length ms) × (m ≡ n)). absurd (new i (h ∙ ap Some h'.1)))
        (get-push_cases ms n m j f))
        (λ (h : (i ≡ length ms) × (m ≡ n)). ⊎_elim
        (λ (h' : slice_get ms j ≡ Some m). absurd (new j (h' ∙ ap Some h.1)))
        (λ (h' : (j ≡ length ms) × (m ≡ n)). h.0 ∙ sym h'.0)
        (get-push_cases ms n m j f))
        (get-push_cases ms n m i e);
  }

  -- a node put into a diagram leaves a diagram
  pub diagram_interned : IsDiagram ms → IsFit ms n → Interns ms ns n → IsDiagram ns
  diagram_interned g fit = ⊎_elim
      (λ (e : ns ≡ ms). subst IsDiagram (sym e) g)
      (λ (w : (ns ≡ ms ++ n ∷ []) × ((i : ℕ) → slice_get ms i ≡ Some n → ⊥)). subst IsDiagram (sym w.0) (push_diagram g fit w.1))

  pub turned_interned : IsDiagram ms → Interns ms ns n → (memo : Memo) → AreTurned ms memo → AreTurned ns memo
  turned_interned g put memo are = are_turned-keeps ms ns (keeps_interned ms ns n put) g memo are

-- ---- the calls
module _ {T : Type 0} (ns : List (Node T)) (g : IsDiagram ns) where
  pub split_branch : (r bit low high : ℕ) → slice_get ns r ≡ Some (Branch (record { bit = bit; low = low; high = high })) → IsSplit ns r bit low high
  split_branch r bit low high e = record {
    known = slice_get_within ns r _ e;
    depth = omega (arith, depth-branch ns r _ e);
    ends = λ x. end-branch ns g r _ x e;
  }

  -- a function to which the bit doesn't matter is its own flip
  pub turned_free : (i bit : ℕ) → i < length ns → depth_of ns i ≤ bit → IsTurned ns i bit i
  turned_free i bit within h = record { origin = within; known = within; depth = omega arith; ends = λ x. sym (end-turned_free ns g i bit x h) }

  cond_same : (b : Bool) (m n m' n' : ℕ) → m ≡ m' → n ≡ n' → cond b m n ≡ cond b m' n'
  cond_same true m n m' n' e f = e
  cond_same false m n m' n' e f = f

  -- flipped at the bit that it reads: the sides exchanged
  pub turned_here : (i r : ℕ) (d : Decision) → slice_get ns i ≡ Some (Branch d) → IsSplit ns r d.bit d.high d.low → IsTurned ns i d.bit r
  turned_here i r d e split =
      let is = g.decisions i d e in
      let depth : depth_of ns r ≤ d.bit + 1 = split.depth in
      record {
        origin = slice_get_within ns i _ e;
        known = split.known;
        depth = omega (arith, depth-branch ns i d e);
        ends = λ x. split.ends x ∙ sides x ∙ sym (end-branch ns g i d (turned x d.bit) e ∙ cond_same (bit_at (turned x d.bit) d.bit == 1) _ _ (end_of ns d.high x) (end_of ns d.low x) (end-turned_free ns g d.high d.bit x is.high_depth) (end-turned_free ns g d.low d.bit x is.low_depth));
      }
    where
      sides : (x : ℕ) → cond (bit_at x d.bit == 1) (end_of ns d.low x) (end_of ns d.high x) ≡ cond (bit_at (turned x d.bit) d.bit == 1) (end_of ns d.high x) (end_of ns d.low x)
      sides x = ⊎_elim
          (λ (z : bit_at x d.bit ≡ 0).
          ap (λ t. cond t (end_of ns d.low x) (end_of ns d.high x)) (is_zero x d.bit z)
          ∙ sym (ap (λ t. cond t (end_of ns d.high x) (end_of ns d.low x)) (is_one (turned x d.bit) d.bit (omega (arith, bit_at-turned_same x d.bit)))))
          (λ (o : bit_at x d.bit ≡ 1).
          ap (λ t. cond t (end_of ns d.low x) (end_of ns d.high x)) (is_one x d.bit o)
          ∙ sym (ap (λ t. cond t (end_of ns d.high x) (end_of ns d.low x)) (is_zero (turned x d.bit) d.bit (omega (arith, bit_at-turned_same x d.bit)))))
          (bit_cases x d.bit)

  pub turned_at : (i r bit : ℕ) (d : Decision) → slice_get ns i ≡ Some (Branch d) → d.bit ≡ bit → IsSplit ns r bit d.high d.low → IsTurned ns i bit r
  turned_at i r bit d e at split = subst (λ n. IsTurned ns i n r) at (turned_here i r d e (subst (λ n. IsSplit ns r n d.high d.low) (sym at) split))

  -- flipped at a lower bit: the sides flipped
  pub turned_below : (i bit low high r : ℕ) (d : Decision) → slice_get ns i ≡ Some (Branch d) → d.bit ≢ bit → IsTurned ns d.low bit low → IsTurned ns d.high bit high → IsSplit ns r d.bit low high → IsTurned ns i bit r
  turned_below i bit low high r d e ne lows highs split =
      let depth : depth_of ns r ≤ d.bit + 1 = split.depth in
      record {
        origin = slice_get_within ns i _ e;
        known = split.known;
        depth = omega (arith, depth-branch ns i d e);
        ends = λ x. split.ends x ∙ cond_same (bit_at x d.bit == 1) _ _ _ _ (highs.ends x) (lows.ends x)
            ∙ ap (λ v. cond (v == 1) (end_of ns d.high (turned x bit)) (end_of ns d.low (turned x bit))) (sym (bit_at-turned_other x bit d.bit ne))
            ∙ sym (end-branch ns g i d (turned x bit) e);
      }

  pub turned_learnt : (old new : Memo) (call : Call) (r : ℕ) → Learns old new call r → AreTurned ns old → IsTurned ns call.first call.second r → AreTurned ns new
  turned_learnt old new call r learns are is k v e = ⊎_elim
      (λ (h : recalled old k ≡ Some v). are k v h)
      (λ (h : (k ≡ call) × (v ≡ r)). subst (λ n. IsTurned ns k.first k.second n) (sym h.1) (subst (λ c. IsTurned ns c.first c.second r) (sym h.0) is))
      (learns k v e)

-- the flip of a branch, over the tables after each call
module _ {T : Type 0} (ns₀ ns₁ ns₂ : List (Node T)) (g₀ : IsDiagram ns₀) (g₁ : IsDiagram ns₁) (g₂ : IsDiagram ns₂) (k₁ : Keeps ns₀ ns₁) (k₂ : Keeps ns₁ ns₂) (i bit : ℕ) (d : Decision) (e : slice_get ns₀ i ≡ Some (Branch d)) where
  pub low_side : (low : ℕ) → IsTurned ns₁ d.low bit low → (low < length ns₂) × (depth_of ns₂ low ≤ d.bit)
  low_side low is =
      let was = g₀.decisions i d e in
      let now = turned-keeps ns₁ ns₂ k₂ g₁ d.low bit low is in
      (now.known, omega (arith, now.depth, depth-keeps ns₀ ns₂ (keeps_trans ns₀ ns₁ ns₂ k₁ k₂) d.low was.low, was.low_depth))

  pub high_side : (high : ℕ) → IsTurned ns₂ d.high bit high → (high < length ns₂) × (depth_of ns₂ high ≤ d.bit)
  high_side high is =
      let was = g₀.decisions i d e in
      (is.known, omega (arith, is.depth, depth-keeps ns₀ ns₂ (keeps_trans ns₀ ns₁ ns₂ k₁ k₂) d.high was.high, was.high_depth))

  pub both_sides : (ns₃ : List (Node T)) → IsDiagram ns₃ → Keeps ns₂ ns₃ → d.bit ≢ bit → (low high r : ℕ)
      → IsTurned ns₁ d.low bit low → IsTurned ns₂ d.high bit high → IsSplit ns₃ r d.bit low high → IsTurned ns₃ i bit r
  both_sides ns₃ g₃ k₃ ne low high r lows highs split =
      let k₀ : Keeps ns₀ ns₂ = keeps_trans ns₀ ns₁ ns₂ k₁ k₂ in
      let k : Keeps ns₀ ns₃ = keeps_trans ns₀ ns₂ ns₃ k₀ k₃ in
      turned_below ns₃ g₃ i bit low high r d (k.same i (slice_get_within ns₀ i _ e) ∙ e) ne
      (turned-keeps ns₁ ns₃ (keeps_trans ns₁ ns₂ ns₃ k₂ k₃) g₁ d.low bit low lows)
      (turned-keeps ns₂ ns₃ k₃ g₂ d.high bit high highs) split
