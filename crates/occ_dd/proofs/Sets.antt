use Rattle.std.proofs.Common.{◌≡◌, ◌⊎◌, ℕ, ◌+◌, ◌<◌, ◌≤◌, ◌==◌, ◌^◌, ◌&&◌, ◌||◌, not, Bool, true, false, cond, length, Option, Some, None, slice_get, refl, sym, ap, ◌∙◌, subst, inl, inr, ⊎_elim, arith, eqb-true, eq-eqb, ne_eqb, unwrap_or}
use Rattle.std.specs.Int.{bit_at}
use Rattle.std.proofs.lemmas.Bool.{cases_eq}
use Rattle.std.proofs.lemmas.Option.{same_Some}
use Rattle.occ_dd.proofs.Bits.{bit_cases, is_one, is_zero}
use Rattle.occ_dd.proofs.DiagramLemmas.{depth-leaf, depth-branch, end-leaf, label-leaf, end_terminal, one_terminal, terminal, canonical, low_part, high_part, end-part, end-turned_free}
use Rattle.occ_dd.proofs.Growth.{depth-keeps, end-keeps, keeps_refl, keeps_trans}
use Rattle.occ_dd.specs.Assignment.{turned, with_bit}
use Rattle.occ_dd.specs.Diagram.{label_of_node, label_of, depth_of, end_of, IsSplit, IsPart, IsTurned}
use Rattle.occ_dd.specs.Table.{nodes_of}
use Rattle.occ_dd.specs.declared.node.Decision.{Decision}
use Rattle.occ_dd.specs.declared.node.Node.{Node}
use Rattle.occ_dd.specs.declared.node.Node.TheVariants.{Leaf, Branch}
use Rattle.occ_dd.specs.Choices.{IsChoice, IsUnion}
use Rattle.occ_dd.specs.Grows.{Grows}
use Rattle.occ_dd.specs.Store.{sets_of, IsKnown, has, depth, Keeps, IsSet, IsConstant, Splits, IsSubsetAnswer, IsCanonical}
use Rattle.occ_dd.specs.declared.set.SetId.{SetId}
use Rattle.occ_dd.specs.declared.store.Store.{Store}

-- ---- the constant sets
full_leaf_at : (o : Option (Node Bool)) → unwrap_or (label_of_node o) false ≡ true → o ≡ Some (Leaf true)
full_leaf_at None e = cc
full_leaf_at (Some (Leaf v)) e = ap (λ w. Some (Leaf w)) e
full_leaf_at (Some (Branch d)) e = cc

empty_leaf_at : (o : Option (Node Bool)) → unwrap_or (label_of_node o) true ≡ false → o ≡ Some (Leaf false)
empty_leaf_at None e = cc
empty_leaf_at (Some (Leaf v)) e = ap (λ w. Some (Leaf w)) e
empty_leaf_at (Some (Branch d)) e = cc

pub full_leaf : (s : Store) → slice_get (nodes_of s.table) s.full ≡ Some (Leaf true)
unfolding label_of
full_leaf s = full_leaf_at (slice_get (nodes_of s.table) s.full) s.full_is

pub empty_leaf : (s : Store) → slice_get (nodes_of s.table) s.empty ≡ Some (Leaf false)
unfolding label_of
empty_leaf s = empty_leaf_at (slice_get (nodes_of s.table) s.empty) s.empty_is

module _ (s : Store) where
  pub depth-full : depth_of (nodes_of s.table) s.full ≡ 0
  depth-full = depth-leaf (nodes_of s.table) s.full true (full_leaf s)

  pub depth-empty : depth_of (nodes_of s.table) s.empty ≡ 0
  depth-empty = depth-leaf (nodes_of s.table) s.empty false (empty_leaf s)

  pub end-full : (x : ℕ) → end_of (nodes_of s.table) s.full x ≡ s.full
  end-full x = end-leaf (nodes_of s.table) s.table.diagram s.full x true (full_leaf s)

  pub end-empty : (x : ℕ) → end_of (nodes_of s.table) s.empty x ≡ s.empty
  end-empty x = end-leaf (nodes_of s.table) s.table.diagram s.empty x false (empty_leaf s)

  pub apart : s.empty ≡ s.full → ⊥
  apart e = let same : ◌≡◌ {A = Option (Node Bool)} (Some (Leaf false)) (Some (Leaf true)) = sym (empty_leaf s) ∙ ap (slice_get (nodes_of s.table)) e ∙ full_leaf s in cc

  leaf_cases : (i : ℕ) (v : Bool) → slice_get (nodes_of s.table) i ≡ Some (Leaf v) → (i ≡ s.full) ⊎ (i ≡ s.empty)
  leaf_cases i true e = inl (one_terminal (nodes_of s.table) s.table.diagram i s.full true e (full_leaf s))
  leaf_cases i false e = inr (one_terminal (nodes_of s.table) s.table.diagram i s.empty false e (empty_leaf s))

  -- every way ends at one of the two
  pub end_cases : (i x : ℕ) → i < length (nodes_of s.table) → (end_of (nodes_of s.table) i x ≡ s.full) ⊎ (end_of (nodes_of s.table) i x ≡ s.empty)
  end_cases i x h = let w = end_terminal (nodes_of s.table) s.table.diagram i x h in leaf_cases (end_of (nodes_of s.table) i x) w.0 w.1

  -- a set that is neither depends on some bit
  pub deep : (i : ℕ) → i < length (nodes_of s.table) → (i ≡ s.full → ⊥) → (i ≡ s.empty → ⊥) → 0 < depth_of (nodes_of s.table) i
  deep i h nf ne = ⊎_elim
      (λ (e : depth_of (nodes_of s.table) i ≡ 0).
      let w = terminal (nodes_of s.table) s.table.diagram i h (omega (arith, e)) in
      ⊎_elim (λ (f : i ≡ s.full). absurd (nf f)) (λ (f : i ≡ s.empty). absurd (ne f)) (leaf_cases i w.0 w.1))
      (λ (n : depth_of (nodes_of s.table) i ≡ 0 → ⊥). omega (arith, n))
      (cases_eq (depth_of (nodes_of s.table) i) 0)

  -- ---- membership by the terminal
  pub has_end : (a : SetId) (x : ℕ) → has s a x ≡ (end_of (nodes_of s.table) a.0 x == s.full)
  unfolding has
  has_end a x = refl

  pub member_end : (a : SetId) (x : ℕ) → has s a x ≡ true → end_of (nodes_of s.table) a.0 x ≡ s.full
  member_end a x e = eqb-true _ _ (sym (has_end a x) ∙ e)

  pub end_member : (a : SetId) (x : ℕ) → end_of (nodes_of s.table) a.0 x ≡ s.full → has s a x ≡ true
  end_member a x e = has_end a x ∙ eq-eqb _ _ e

  pub end_outside : (a : SetId) (x : ℕ) → end_of (nodes_of s.table) a.0 x ≡ s.empty → has s a x ≡ false
  end_outside a x e = has_end a x ∙ ne_eqb _ _ (λ f. apart (sym e ∙ f))

  pub known_size : (a : SetId) → IsKnown s a → a.0 < length (nodes_of s.table)
  unfolding sets_of
  known_size a h = h

  pub size_known : (a : SetId) → a.0 < length (nodes_of s.table) → IsKnown s a
  unfolding sets_of
  size_known a h = h

  -- equal memberships have equal terminals
  pub same_ends : (a b : SetId) (x : ℕ) → IsKnown s a → IsKnown s b → has s a x ≡ has s b x → end_of (nodes_of s.table) a.0 x ≡ end_of (nodes_of s.table) b.0 x
  same_ends a b x ha hb e = ⊎_elim
      (λ (f : end_of (nodes_of s.table) a.0 x ≡ s.full). f ∙ sym (member_end b x (sym e ∙ end_member a x f)))
      (λ (f : end_of (nodes_of s.table) a.0 x ≡ s.empty). ⊎_elim
      (λ (h : end_of (nodes_of s.table) b.0 x ≡ s.full). let both : false ≡ true = sym (end_outside a x f) ∙ e ∙ end_member b x h in cc)
      (λ (h : end_of (nodes_of s.table) b.0 x ≡ s.empty). f ∙ sym h)
      (end_cases b.0 x (known_size b hb)))
      (end_cases a.0 x (known_size a ha))

  pub one_number : (a b : SetId) → IsKnown s a → IsKnown s b → ((x : ℕ) → x < 2 ^ 64 → has s a x ≡ has s b x) → a.0 ≡ b.0
  one_number a b ha hb same =
      let law = canonical (nodes_of s.table) s.table.diagram in
      law.one a.0 b.0 (known_size a ha) (known_size b hb) (λ x h. same_ends a b x ha hb (same x h))

  -- equal sets have equal numbers
  pub canonical_sets : IsCanonical s
  canonical_sets = record { one = λ a b ha hb same. let e = one_number a b ha hb same in λ i. record { 0 = e i } }

  pub empty_set : IsSet s (record { 0 = s.empty }) (λ x. false)
  empty_set = record { known = size_known (record { 0 = s.empty }) s.empty_known; members = λ x. end_outside (record { 0 = s.empty }) x (end-empty x) }

  pub full_set : IsSet s (record { 0 = s.full }) (λ x. true)
  full_set = record { known = size_known (record { 0 = s.full }) s.full_known; members = λ x. end_member (record { 0 = s.full }) x (end-full x) }

-- ---- growth
pub grows_refl : (s : Store) → Grows s s
grows_refl s = record { nodes = keeps_refl (nodes_of s.table); empty = refl; full = refl }

pub grows_trans : (r s t : Store) → Grows r s → Grows s t → Grows r t
grows_trans r s t a b = record { nodes = keeps_trans (nodes_of r.table) (nodes_of s.table) (nodes_of t.table) a.nodes b.nodes; empty = b.empty ∙ a.empty; full = b.full ∙ a.full }

pub keeps_grown : (old new : Store) → Grows old new → Keeps old new
unfolding sets_of has depth
keeps_grown old new g = record {
  more = g.nodes.more;
  same = λ a x h. ap (λ n. n == new.full) (end-keeps (nodes_of old.table) (nodes_of new.table) g.nodes old.table.diagram a.0 x h) ∙ ap (λ n. end_of (nodes_of old.table) a.0 x == n) g.full;
  depths = λ a h. depth-keeps (nodes_of old.table) (nodes_of new.table) g.nodes a.0 h;
}

-- ---- the sets that the calls give
module _ (old new : Store) (g : Grows old new) where
  pub old_end : (a : SetId) (x : ℕ) → IsKnown old a → (end_of (nodes_of new.table) a.0 x == new.full) ≡ has old a x
  old_end a x h = ap (λ n. n == new.full) (end-keeps (nodes_of old.table) (nodes_of new.table) g.nodes old.table.diagram a.0 x (known_size old a h)) ∙ ap (λ n. end_of (nodes_of old.table) a.0 x == n) g.full ∙ sym (has_end old a x)

  cond_test : (t : Bool) (m n full : ℕ) → (cond t m n == full) ≡ cond t (m == full) (n == full)
  cond_test true m n full = refl
  cond_test false m n full = refl

  cond_same : (t t' u u' v v' : Bool) → t ≡ t' → u ≡ u' → v ≡ v' → cond t u v ≡ cond t' u' v'
  cond_same t t' u u' v v' e f h = ap (λ n. cond n u v) e ∙ ap (λ n. cond t' n v) f ∙ ap (λ n. cond t' u' n) h

  pub choice_set : (a b c : SetId) (r : ℕ) → IsKnown old a → IsKnown old b → IsKnown old c → IsChoice (nodes_of new.table) new.full a.0 b.0 c.0 r
      → IsSet new (record { 0 = r }) (λ x. cond (has old a x) (has old b x) (has old c x))
  choice_set a b c r ha hb hc is = record {
    known = size_known new (record { 0 = r }) is.known;
    members = λ x. has_end new (record { 0 = r }) x ∙ ap (λ n. n == new.full) (is.ends x) ∙ cond_test (end_of (nodes_of new.table) a.0 x == new.full) _ _ new.full
        ∙ cond_same _ _ _ _ _ _ (old_end a x ha) (old_end b x hb) (old_end c x hc);
  }

  pub same_set : (r : SetId) (p q : ℕ → Bool) → IsSet new r p → ((x : ℕ) → p x ≡ q x) → IsSet new r q
  same_set r p q is same = record { known = is.known; members = λ x. is.members x ∙ same x }

  pub union_set : (a : SetId) (bit r : ℕ) → IsKnown old a → IsUnion (nodes_of new.table) new.full a.0 bit r
      → IsSet new (record { 0 = r }) (λ x. has old a (with_bit x bit 0) || has old a (with_bit x bit 1))
  union_set a bit r ha is = record {
    known = size_known new (record { 0 = r }) is.known;
    members = λ x. has_end new (record { 0 = r }) x ∙ ap (λ n. n == new.full) (is.ends x) ∙ cond_test (end_of (nodes_of new.table) a.0 (with_bit x bit 0) == new.full) _ _ new.full
        ∙ cond_same _ _ _ _ _ _ (old_end a (with_bit x bit 0) ha) (eq-eqb new.full new.full refl) (old_end a (with_bit x bit 1) ha) ∙ either (has old a (with_bit x bit 0)) (has old a (with_bit x bit 1));
  }
    where
      either : (t u : Bool) → cond t true u ≡ (t || u)
      either true u = refl
      either false u = refl

  pub turned_set : (a : SetId) (bit r : ℕ) → IsKnown old a → IsTurned (nodes_of new.table) a.0 bit r → IsSet new (record { 0 = r }) (λ x. has old a (turned x bit))
  turned_set a bit r ha is = record {
    known = size_known new (record { 0 = r }) is.known;
    members = λ x. has_end new (record { 0 = r }) x ∙ ap (λ n. n == new.full) (is.ends x) ∙ old_end a (turned x bit) ha;
  }

pub bit_set : (s : Store) (bit r : ℕ) → IsSplit (nodes_of s.table) r bit s.empty s.full → IsSet s (record { 0 = r }) (λ x. bit_at x bit == 1)
bit_set s bit r is = record {
  known = size_known s (record { 0 = r }) is.known;
  members = λ x. ⊎_elim
      (λ (z : bit_at x bit ≡ 0). end_outside s (record { 0 = r }) x (is.ends x ∙ ap (λ t. cond t (end_of (nodes_of s.table) s.full x) (end_of (nodes_of s.table) s.empty x)) (is_zero x bit z) ∙ end-empty s x) ∙ sym (is_zero x bit z))
      (λ (o : bit_at x bit ≡ 1). end_member s (record { 0 = r }) x (is.ends x ∙ ap (λ t. cond t (end_of (nodes_of s.table) s.full x) (end_of (nodes_of s.table) s.empty x)) (is_one x bit o) ∙ end-full s x) ∙ sym (is_one x bit o))
      (bit_cases x bit);
}

pub not_choice : (t : Bool) → cond t false true ≡ not t
not_choice true = refl
not_choice false = refl

pub and_choice : (t u : Bool) → cond t u false ≡ (t && u)
and_choice true u = refl
and_choice false u = refl

pub or_choice : (t u : Bool) → cond t true u ≡ (t || u)
or_choice true u = refl
or_choice false u = refl

pub bit_grown : (old new : Store) (bit r : ℕ) → Grows old new → IsSplit (nodes_of new.table) r bit old.empty old.full → IsSet new (record { 0 = r }) (λ x. bit_at x bit == 1)
bit_grown old new bit r g is =
    bit_set new bit r (subst (λ n. IsSplit (nodes_of new.table) r bit n new.full) (sym g.empty) (subst (λ n. IsSplit (nodes_of new.table) r bit old.empty n) (sym g.full) is))

-- what a label tells
pub has_label : (s : Store) (a : SetId) (x : ℕ) (v : Bool) → IsKnown s a → label_of (nodes_of s.table) (end_of (nodes_of s.table) a.0 x) ≡ Some v → v ≡ has s a x
has_label s a x v h e = ⊎_elim
    (λ (f : end_of (nodes_of s.table) a.0 x ≡ s.full).
    let t : v ≡ true = same_Some v true (sym e ∙ ap (label_of (nodes_of s.table)) f ∙ label-leaf (nodes_of s.table) s.table.diagram s.full true (full_leaf s)) in
    t ∙ sym (end_member s a x f))
    (λ (f : end_of (nodes_of s.table) a.0 x ≡ s.empty).
    let t : v ≡ false = same_Some v false (sym e ∙ ap (label_of (nodes_of s.table)) f ∙ label-leaf (nodes_of s.table) s.table.diagram s.empty false (empty_leaf s)) in
    t ∙ sym (end_outside s a x f))
    (end_cases s a.0 x (known_size s a h))

-- ---- the sets that the calls of choose give
module _ (old new : Store) (g : Grows old new) where
  pub not_set : (a : SetId) (r : ℕ) → IsKnown old a → IsChoice (nodes_of new.table) new.full a.0 old.empty old.full r → IsSet new (record { 0 = r }) (λ x. not (has old a x))
  not_set a r ha is = same_set old new g _ _ _ (choice_set old new g a (record { 0 = old.empty }) (record { 0 = old.full }) r ha (empty_set old).known (full_set old).known is)
      (λ x. ap (λ t. cond (has old a x) t (has old (record { 0 = old.full }) x)) ((empty_set old).members x) ∙ ap (λ t. cond (has old a x) false t) ((full_set old).members x) ∙ not_choice (has old a x))

  pub and_set : (a b : SetId) (r : ℕ) → IsKnown old a → IsKnown old b → IsChoice (nodes_of new.table) new.full a.0 b.0 old.empty r → IsSet new (record { 0 = r }) (λ x. has old a x && has old b x)
  and_set a b r ha hb is = same_set old new g _ _ _ (choice_set old new g a b (record { 0 = old.empty }) r ha hb (empty_set old).known is)
      (λ x. ap (λ t. cond (has old a x) (has old b x) t) ((empty_set old).members x) ∙ and_choice (has old a x) (has old b x))

  pub or_set : (a b : SetId) (r : ℕ) → IsKnown old a → IsKnown old b → IsChoice (nodes_of new.table) new.full a.0 old.full b.0 r → IsSet new (record { 0 = r }) (λ x. has old a x || has old b x)
  or_set a b r ha hb is = same_set old new g _ _ _ (choice_set old new g a (record { 0 = old.full }) b r ha (full_set old).known hb is)
      (λ x. ap (λ t. cond (has old a x) t (has old b x)) ((full_set old).members x) ∙ or_choice (has old a x) (has old b x))

  -- the set of an implication
  implies_set : (a b : SetId) (r : ℕ) → IsKnown old a → IsKnown old b → IsChoice (nodes_of new.table) new.full a.0 b.0 old.full r → IsSet new (record { 0 = r }) (λ x. cond (has old a x) (has old b x) true)
  implies_set a b r ha hb is = same_set old new g _ _ _ (choice_set old new g a b (record { 0 = old.full }) r ha hb (full_set old).known is)
      (λ x. ap (λ t. cond (has old a x) (has old b x) t) ((full_set old).members x))

  implied : (t u : Bool) → cond t u true ≡ true → t ≡ true → u ≡ true
  implied true u e f = e
  implied false u e f = cc

  implication : (t u : Bool) → (t ≡ true → u ≡ true) → cond t u true ≡ true
  implication true u h = h refl
  implication false u h = refl

  pub subset_answer : (a b : SetId) (r : ℕ) → IsKnown old a → IsKnown old b → IsChoice (nodes_of new.table) new.full a.0 b.0 old.full r → IsSubsetAnswer old a b (r == new.full)
  subset_answer a b r ha hb is =
      let set = implies_set a b r ha hb is in
      record {
        sound = λ e x member. implied (has old a x) (has old b x) (sym (set.members x) ∙ end_member new (record { 0 = r }) x (ap (λ n. end_of (nodes_of new.table) n x) (eqb-true r new.full e) ∙ end-full new x)) member;
        complete = λ within. eq-eqb r new.full (one_number new (record { 0 = r }) (record { 0 = new.full }) set.known (full_set new).known
            (λ x h. set.members x ∙ implication (has old a x) (has old b x) (within x h) ∙ sym ((full_set new).members x)));
      }

-- ---- reading a node
leaf_set : (s : Store) (a : SetId) (v : Bool) → slice_get (nodes_of s.table) a.0 ≡ Some (Leaf v) → IsConstant s a
leaf_set s a true e = inr (λ x. end_member s a x (end-leaf (nodes_of s.table) s.table.diagram a.0 x true e ∙ one_terminal (nodes_of s.table) s.table.diagram a.0 s.full true e (full_leaf s)))
leaf_set s a false e = inl (λ x. end_outside s a x (end-leaf (nodes_of s.table) s.table.diagram a.0 x false e ∙ one_terminal (nodes_of s.table) s.table.diagram a.0 s.empty false e (empty_leaf s)))

pub leaf_constant : (s : Store) (a : SetId) (v : Bool) → slice_get (nodes_of s.table) a.0 ≡ Some (Leaf v) → IsConstant s a
leaf_constant = leaf_set

part_set : (s : Store) (a : SetId) (p bit v : ℕ) → v < 2 → IsPart (nodes_of s.table) p a.0 bit v → IsSet s (record { 0 = p }) (λ x. has s a (with_bit x bit v))
part_set s a p bit v small part = record {
  known = size_known s (record { 0 = p }) part.known;
  members = λ x. has_end s (record { 0 = p }) x ∙ ap (λ n. n == s.full) (end-part (nodes_of s.table) s.table.diagram p a.0 bit v x small part) ∙ sym (has_end s a (with_bit x bit v));
}

depth_is : (s : Store) (a : SetId) → depth s a ≡ depth_of (nodes_of s.table) a.0
unfolding depth
depth_is s a = refl

pub branch_splits : (s : Store) (a : SetId) (d : Decision) → slice_get (nodes_of s.table) a.0 ≡ Some (Branch d) → Splits s a d.bit (record { 0 = d.low }) (record { 0 = d.high })
branch_splits s a d e =
    let ns = nodes_of s.table in
    let is = s.table.diagram.decisions a.0 d e in
    let low = part_set s a d.low d.bit 0 (omega arith) (low_part ns s.table.diagram a.0 d e) in
    let high = part_set s a d.high d.bit 1 (omega arith) (high_part ns s.table.diagram a.0 d e) in
    let top : depth_of ns a.0 ≡ d.bit + 1 = depth-branch ns a.0 d e in
    record {
      bit_within = is.bit;
      depends = λ same. is.differ (one_number s (record { 0 = d.low }) (record { 0 = d.high }) low.known high.known (λ x h. low.members x ∙ same x h ∙ sym (high.members x)));
      greatest = λ b x above. has_end s a (turned x b) ∙ ap (λ n. n == s.full) (end-turned_free ns s.table.diagram a.0 b x (omega arith)) ∙ sym (has_end s a x);
      low_set = low;
      high_set = high;
      deep = depth_is s a ∙ top;
      low_depth = subst (λ n. n ≤ d.bit) (sym (depth_is s (record { 0 = d.low }))) is.low_depth;
      high_depth = subst (λ n. n ≤ d.bit) (sym (depth_is s (record { 0 = d.high }))) is.high_depth;
    }
