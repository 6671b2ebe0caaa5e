-- An ALT names, writes and uses no more than a process where each branch doesn't.
use Rattle.std.proofs.Common.{◌≡◌, ℕ, Bool, true, ◌||◌, inl, inr}
use Rattle.std.proofs.lemmas.Bool.{or_cases, or_left, or_right}
use Rattle.occ_renamed.specs.occ_base.declared.event.Dir.{Dir}
use Rattle.occ_derive_laws.proofs.Each.{Each, Nests, flat_leaves, nested_leaves, order_leaves}
use Rattle.occ_renamed.specs.occ_law.Choice.{and_skip}
use Rattle.occ_renamed.specs.occ_law.Lists.{BranchesReordered, all_branches}
use Rattle.occ_renamed.proofs.from_meaning.Facts.{false_not_true}
use Rattle.occ_renamed.specs.occ_syntax.Names.{end_in_branches, end_in_waiting, free, free_in_branches, free_in_waiting, names, uses_end, written, written_in_branches, written_in_waiting}
use Rattle.occ_renamed.specs.occ_syntax.Tree.{Branches, Exp, Tree, Waiting, alt, and_branch, no_branch, ready, truth}
use Rattle.occ_renamed.specs.occ_usage.Local.{UsesNoMore}

-- a branch names, writes and uses no more than a process
pub record IsWithin (l : Tree) (b : Exp) (w : Waiting) (p : Tree) : Type 0 where
  pub frees : (x : ℕ) → ((names b x || free_in_waiting w x) || free p x) ≡ true → free l x ≡ true
  pub writes : (x : ℕ) → (written_in_waiting w x || written p x) ≡ true → written l x ≡ true
  pub ends : (c : ℕ) (d : Dir) → (end_in_waiting w c d || uses_end p c d) ≡ true → uses_end l c d ≡ true

pub uses_each : (l : Tree) (gs : Branches) → UsesNoMore (alt gs) l → Each (IsWithin l) gs
uses_each l no_branch u = tt
uses_each l (and_branch b w p gs) u = (
  record {
    frees = λ x h. u.frees x (or_left ((names b x || free_in_waiting w x) || free p x) (free_in_branches gs x) h);
    writes = λ x h. u.writes x (or_left (written_in_waiting w x || written p x) (written_in_branches gs x) h);
    ends = λ c d h. u.ends c d (or_left (end_in_waiting w c d || uses_end p c d) (end_in_branches gs c d) h);
  },
  uses_each l gs (record {
    frees = λ x h. u.frees x (or_right ((names b x || free_in_waiting w x) || free p x) (free_in_branches gs x) h);
    writes = λ x h. u.writes x (or_right (written_in_waiting w x || written p x) (written_in_branches gs x) h);
    ends = λ c d h. u.ends c d (or_right (end_in_waiting w c d || uses_end p c d) (end_in_branches gs c d) h);
  }),
)

either_test : {P : Type 0} (a b : Bool) → (a ≡ true → P) → (b ≡ true → P) → (a || b) ≡ true → P
either_test a b f g h = elim (or_cases a b h) [ inl k ↦ f k | inr k ↦ g k ]

pub each_uses : (l : Tree) (gs : Branches) → Each (IsWithin l) gs → UsesNoMore (alt gs) l
each_uses l no_branch e = record { frees = λ x h. false_not_true h; writes = λ x h. false_not_true h; ends = λ c d h. false_not_true h }
each_uses l (and_branch b w p gs) e =
    let u = each_uses l gs e.1 in
    record {
      frees = λ x. either_test ((names b x || free_in_waiting w x) || free p x) (free_in_branches gs x) (e.0.frees x) (u.frees x);
      writes = λ x. either_test (written_in_waiting w x || written p x) (written_in_branches gs x) (e.0.writes x) (u.writes x);
      ends = λ c d. either_test (end_in_waiting w c d || uses_end p c d) (end_in_branches gs c d) (e.0.ends c d) (u.ends c d);
    }

-- a branch that goes on at once uses what its process does
pub at_once_within : (l p : Tree) → UsesNoMore p l → IsWithin l (truth true) ready p
at_once_within l p u = record { frees = λ x h. u.frees x h; writes = λ x h. u.writes x h; ends = λ c d h. u.ends c d h }

pub within_at_once : (l p : Tree) → IsWithin l (truth true) ready p → UsesNoMore p l
within_at_once l p u = record { frees = λ x h. u.frees x h; writes = λ x h. u.writes x h; ends = λ c d h. u.ends c d h }

process_within : (l : Tree) (b : Exp) (w : Waiting) (p : Tree) → IsWithin l b w p → UsesNoMore p l
process_within l b w p u = record {
  frees = λ x h. u.frees x (or_right (names b x || free_in_waiting w x) (free p x) h);
  writes = λ x h. u.writes x (or_right (written_in_waiting w x) (written p x) h);
  ends = λ c d h. u.ends c d (or_right (end_in_waiting w c d) (uses_end p c d) h);
}

-- the guard of a branch before another process
other_within : (l : Tree) (b : Exp) (w : Waiting) (p q : Tree) → IsWithin l b w p → UsesNoMore q l → IsWithin l b w q
other_within l b w p q u v = record {
  frees = λ x. either_test (names b x || free_in_waiting w x) (free q x)
      (λ h. u.frees x (or_left (names b x || free_in_waiting w x) (free p x) h)) (v.frees x);
  writes = λ x. either_test (written_in_waiting w x) (written q x) (λ h. u.writes x (or_left (written_in_waiting w x) (written p x) h)) (v.writes x);
  ends = λ c d. either_test (end_in_waiting w c d) (uses_end q c d)
      (λ h. u.ends c d (or_left (end_in_waiting w c d) (uses_end p c d) h)) (v.ends c d);
}

pub within_nests : (l : Tree) → Nests (IsWithin l)
within_nests l = record {
  opens = λ gs u. uses_each l gs (within_at_once l (alt gs) u);
  closes = λ gs e. at_once_within l (alt gs) (each_uses l gs e);
  joins = λ b w p q u v. other_within l b w p (alt (and_skip p (and_skip q no_branch))) u (each_uses l (and_skip p (and_skip q no_branch))
      (at_once_within l p (process_within l b w p u), (at_once_within l q (process_within l b w q v), tt)));
}

-- ---- the laws

itself : (p : Tree) → UsesNoMore p p
itself p = record { frees = λ x h. h; writes = λ x h. h; ends = λ c d h. h }

pub order_spares : (gs hs : Branches) → BranchesReordered gs hs → UsesNoMore (alt hs) (alt gs)
order_spares gs hs r = each_uses (alt gs) hs (order_leaves (IsWithin (alt gs)) gs hs r (uses_each (alt gs) gs (itself (alt gs))))

pub skip_spares : (p : Tree) → UsesNoMore p (alt (and_skip p no_branch))
skip_spares p = let l = alt (and_skip p no_branch) in within_at_once l p (uses_each l (and_skip p no_branch) (itself l)).0

pub spares_skip : (p : Tree) → UsesNoMore (alt (and_skip p no_branch)) p
spares_skip p = each_uses p (and_skip p no_branch) (at_once_within p p (itself p), tt)

pub flat_spares : (gs hs ks : Branches) → UsesNoMore (alt (all_branches gs (all_branches hs ks))) (alt (all_branches gs (and_skip (alt hs) ks)))
flat_spares gs hs ks =
    let left = all_branches gs (and_skip (alt hs) ks) in
    each_uses (alt left) (all_branches gs (all_branches hs ks))
    (flat_leaves (IsWithin (alt left)) (within_nests (alt left)) gs hs ks (uses_each (alt left) left (itself (alt left))))

pub spares_flat : (gs hs ks : Branches) → UsesNoMore (alt (all_branches gs (and_skip (alt hs) ks))) (alt (all_branches gs (all_branches hs ks)))
spares_flat gs hs ks =
    let right = all_branches gs (all_branches hs ks) in
    each_uses (alt right) (all_branches gs (and_skip (alt hs) ks))
    (nested_leaves (IsWithin (alt right)) (within_nests (alt right)) gs hs ks (uses_each (alt right) right (itself (alt right))))
