-- The right sides of the laws that expand a PAR keep names, types, directions and usage where the left sides do.
use Rattle.std.proofs.Common.{◌≡◌, ℕ, ◌==◌, Bool, true, false, true≢false, ◌&&◌, ◌||◌, List, Option, Some, if◌then◌else◌, refl, ap, sym, ◌∙◌, subst}
use Rattle.std.proofs.lemmas.Bool.{and_from, and_parts, eqb-true, or_left, or_right}
use Rattle.occ_syntax.specs.occ_base.declared.event.Dir.TheVariants.{Input, Output}
use Rattle.occ_syntax.specs.occ_base.declared.width.Width.{Width}
use Rattle.occ_syntax.specs.occ_base.declared.width.Width.TheVariants.{Bool as TruthValue}
use Rattle.occ_syntax.specs.declared.expr.Op.TheVariants.{And}
use Rattle.occ_script_write.proofs.from_meaning.Facts.{agreed, and_four}
use Rattle.occ_script_write.specs.occ_meaning.Parallel.{one, two}
use Rattle.occ_syntax.specs.Names.{end_in_branches, end_in_waiting, free, free_in_branches, free_in_waiting, names, uses_end, written, written_in_branches, written_in_waiting}
use Rattle.occ_syntax.specs.Scopes.{Environment, allows, channel_width, variable_width}
use Rattle.occ_syntax.specs.Tree.{Exp, operation, truth, Waiting, ready, input, output, Tree, skip, receive, send, seq, par, alt, Trees, no_tree, and_tree, Branches, no_branch, and_branch}
use Rattle.occ_syntax.specs.Types.{agree, all_types_kept, branches_kept, input_kept, is_condition, output_kept, type_of, type_of_two, types_kept, waiting_kept}
use Rattle.occ_syntax.specs.Usage.{AllKeepUsage, BranchesKeepUsage, IsSeparate, Keeps, KeepsUsage}
use Rattle.occ_law_any.specs.occ_usage.Local.{UsesNoMore}
use Rattle.occ_script_write.specs.occ_law.Lists.{all_branches}
use Rattle.occ_script_write.specs.occ_law.Choice.{and_skip}
use Rattle.occ_script_write.specs.occ_law.Sequence.{each_branch_before}
use Rattle.occ_script_write.specs.occ_law.Parallel.{ParExpand, both_go, first_goes, meeting, meetings, meetings_of, par_expand, second_goes}

itself : (p : Tree) → UsesNoMore p p
itself p = record { frees = λ x h. h; writes = λ x h. h; ends = λ c d h. h }

or_none : (a : Bool) → (a || false) ≡ true → a ≡ true
or_none true h = refl
or_none false h = h

alone_within : (q m : Tree) → UsesNoMore q m → UsesNoMore (par (one q)) (par (one m))
alone_within q m w = record {
  frees = λ x h. or_left (free m x) false (w.frees x (or_none (free q x) h));
  writes = λ x h. or_left (written m x) false (w.writes x (or_none (written q x) h));
  ends = λ c d h. or_left (uses_end m c d) false (w.ends c d (or_none (uses_end q c d) h));
}

neither : (a b : Bool) → (a ≡ true → b ≡ true) → b ≡ false → a ≡ false
neither true b h e = absurd (true≢false (sym (h refl) ∙ e))
neither false b h e = refl

separate_within : (p q l m : Tree) → IsSeparate l m → UsesNoMore p l → UsesNoMore q m → IsSeparate p q
separate_within p q l m s v w = record {
  first_writes = λ x h. neither (free q x) (free m x) (w.frees x) (s.first_writes x (v.writes x h));
  second_writes = λ x h. neither (free p x) (free l x) (v.frees x) (s.second_writes x (w.writes x h));
  ends = λ c d h. neither (uses_end q c d) (uses_end m c d) (w.ends c d) (s.ends c d (v.ends c d h));
}

nothing_beside : (q : Tree) → IsSeparate q (par no_tree)
nothing_beside q = record { first_writes = λ x h. refl; second_writes = λ x h. absurd (true≢false (sym h)); ends = λ c d h. refl }

-- what runs in one place keeps types and usage
record Kept (Γ : Environment) (p : Tree) : Type 0 where
  types : types_kept p Γ ≡ true
  usage : KeepsUsage p

two_kept : (Γ : Environment) (p q : Tree) → Kept Γ p → Kept Γ q → IsSeparate p (par (one q)) → Kept Γ (par (two p q))
two_kept Γ p q k m s = record {
  types = and_from _ _ k.types (and_from _ _ m.types refl);
  usage = ((k.usage, (m.usage, tt)), (s, (nothing_beside q, tt)));
}

-- a branch of an ALT l
record Piece (Γ : Environment) (l : Tree) (b : Exp) (w : Waiting) (p : Tree) : Type 0 where
  condition : is_condition Γ b ≡ true
  wait : waiting_kept Γ w ≡ true
  part : Kept Γ p
  within : UsesNoMore p l

abbrev Pieces : Environment → Tree → Branches → Type 0
Pieces Γ l no_branch = Unit {0}
Pieces Γ l (and_branch b w p gs) = Piece Γ l b w p × Pieces Γ l gs

pieces : (Γ : Environment) (l : Tree) (gs : Branches) → branches_kept gs Γ ≡ true → BranchesKeepUsage gs → UsesNoMore (alt gs) l → Pieces Γ l gs
pieces Γ l no_branch h u v = tt
pieces Γ l (and_branch b w p gs) h u v =
    let k = and_four (is_condition Γ b) (waiting_kept Γ w) (types_kept p Γ) (branches_kept gs Γ) h in (
      record {
        condition = k.0;
        wait = k.1;
        part = record { types = k.2; usage = u.0 };
        within = record {
          frees = λ x i. v.frees x (or_left ((names b x || free_in_waiting w x) || free p x) (free_in_branches gs x) (or_right (names b x || free_in_waiting w x) (free p x) i));
          writes = λ x i. v.writes x (or_left (written_in_waiting w x || written p x) (written_in_branches gs x) (or_right (written_in_waiting w x) (written p x) i));
          ends = λ c d i. v.ends c d (or_left (end_in_waiting w c d || uses_end p c d) (end_in_branches gs c d) (or_right (end_in_waiting w c d) (uses_end p c d) i));
        };
      },
      pieces Γ l gs k.3 u.1 (record {
        frees = λ x i. v.frees x (or_right ((names b x || free_in_waiting w x) || free p x) (free_in_branches gs x) i);
        writes = λ x i. v.writes x (or_right (written_in_waiting w x || written p x) (written_in_branches gs x) i);
        ends = λ c d i. v.ends c d (or_right (end_in_waiting w c d || uses_end p c d) (end_in_branches gs c d) i);
      }),
    )

-- ---- the branches of the right side

and_kept : (Γ : Environment) (b : Exp) (w : Waiting) (p : Tree) (gs : Branches) → is_condition Γ b ≡ true → waiting_kept Γ w ≡ true → Kept Γ p → Kept Γ (alt gs)
    → Kept Γ (alt (and_branch b w p gs))
and_kept Γ b w p gs c v k r = record { types = and_from _ _ (and_from _ _ (and_from _ _ c v) k.types) r.types; usage = (k.usage, r.usage) }

first_kept : (Γ : Environment) (l m : Tree) (gs rest : Branches) → Pieces Γ l gs → Kept Γ m → IsSeparate l (par (one m)) → Kept Γ (alt rest)
    → Kept Γ (alt (all_branches (first_goes gs m) rest))
first_kept Γ l m no_branch rest ps k s r = r
first_kept Γ l m (and_branch b w p gs) rest ps k s r =
    and_kept Γ b w (par (two p m)) (all_branches (first_goes gs m) rest) ps.0.condition ps.0.wait
    (two_kept Γ p m ps.0.part k (separate_within p (par (one m)) l (par (one m)) s ps.0.within (itself (par (one m))))) (first_kept Γ l m gs rest ps.1 k s r)

second_kept : (Γ : Environment) (l m : Tree) (gs rest : Branches) → Pieces Γ m gs → Kept Γ l → IsSeparate l (par (one m)) → Kept Γ (alt rest)
    → Kept Γ (alt (all_branches (second_goes l gs) rest))
second_kept Γ l m no_branch rest ps k s r = r
second_kept Γ l m (and_branch b w q gs) rest ps k s r =
    and_kept Γ b w (par (two l q)) (all_branches (second_goes l gs) rest) ps.0.condition ps.0.wait
    (two_kept Γ l q k ps.0.part (separate_within l (par (one q)) l (par (one m)) s (itself l) (alone_within q m ps.0.within))) (second_kept Γ l m gs rest ps.1 k s r)

conjunction_typed : (Γ : Environment) (b c : Exp) → is_condition Γ b ≡ true → is_condition Γ c ≡ true → is_condition Γ (operation And b c) ≡ true
conjunction_typed Γ b c h k =
    let t = agreed (type_of Γ b) (Some TruthValue) h in
    let u = agreed (type_of Γ c) (Some TruthValue) k in
    ap (λ o. agree (type_of_two And o (type_of Γ c)) (Some TruthValue)) (t.1 ∙ sym t.2) ∙ ap (λ o. agree (type_of_two And (Some TruthValue) o) (Some TruthValue)) (u.1 ∙ sym u.2)

agree_through : (a b c : Option Width) → agree a b ≡ true → agree a c ≡ true → agree b c ≡ true
agree_through a b c h k =
    let t = agreed a b h in
    ap (λ o. agree o c) (t.2 ∙ sym t.1) ∙ k

-- a variable and a value that pass one channel have one type
passed_typed : (Γ : Environment) (c d x : ℕ) (e : Exp) → c ≡ d → output_kept Γ c e ≡ true → input_kept Γ d x ≡ true → agree (variable_width Γ x) (type_of Γ e) ≡ true
passed_typed Γ c d x e same h k =
    let out = subst (λ z. output_kept Γ z e ≡ true) same h in
    agree_through (channel_width Γ d) (variable_width Γ x) (type_of Γ e)
    (and_parts (allows (Γ d) Input) (agree (channel_width Γ d) (variable_width Γ x)) k).1
    (and_parts (allows (Γ d) Output) (agree (channel_width Γ d) (type_of Γ e)) out).1

both_kept : (Γ : Environment) (x : ℕ) (e : Exp) (p q : Tree) → agree (variable_width Γ x) (type_of Γ e) ≡ true → Kept Γ (par (two p q)) → Kept Γ (both_go x e p q)
both_kept Γ x e p q h k = record {
  types = and_from _ _ (and_from _ _ refl (and_from _ _ (and_from _ _ h refl) refl)) (and_from _ _ k.types refl);
  usage = (tt, (k.usage, tt));
}

-- two branches that meet, or don't
met : (Γ : Environment) (t : Bool) (b c : Exp) (x : ℕ) (e : Exp) (p q : Tree) (rest : Branches) → is_condition Γ b ≡ true → is_condition Γ c ≡ true
    → (t ≡ true → agree (variable_width Γ x) (type_of Γ e) ≡ true) → Kept Γ (par (two p q)) → Kept Γ (alt rest)
    → Kept Γ (alt (if t then and_branch (operation And b c) ready (both_go x e p q) rest else rest))
met Γ true b c x e p q rest i j h k r = and_kept Γ (operation And b c) ready (both_go x e p q) rest (conjunction_typed Γ b c i j) refl (both_kept Γ x e p q (h refl) k) r
met Γ false b c x e p q rest i j h k r = r

meeting_kept : (Γ : Environment) (l m : Tree) (b : Exp) (v : Waiting) (p : Tree) (c : Exp) (w : Waiting) (q : Tree) (rest : Branches) → IsSeparate l (par (one m))
    → Piece Γ l b v p → Piece Γ m c w q → Kept Γ (alt rest) → Kept Γ (alt (meeting b v p c w q rest))
meeting_kept Γ l m b (output i e) p c (input j x) q rest s g h r =
    met Γ (i == j) b c x e p q rest g.condition h.condition (λ t. passed_typed Γ i j x e (eqb-true i j t) g.wait h.wait)
    (two_kept Γ p q g.part h.part (separate_within p (par (one q)) l (par (one m)) s g.within (alone_within q m h.within))) r
meeting_kept Γ l m b (input j x) p c (output i e) q rest s g h r =
    met Γ (j == i) b c x e p q rest g.condition h.condition (λ t. passed_typed Γ i j x e (sym (eqb-true j i t)) h.wait g.wait)
    (two_kept Γ p q g.part h.part (separate_within p (par (one q)) l (par (one m)) s g.within (alone_within q m h.within))) r
meeting_kept Γ l m b (output i e) p c (output j f) q rest s g h r = r
meeting_kept Γ l m b (output i e) p c ready q rest s g h r = r
meeting_kept Γ l m b (input i x) p c (input j y) q rest s g h r = r
meeting_kept Γ l m b (input i x) p c ready q rest s g h r = r
meeting_kept Γ l m b ready p c w q rest s g h r = r

meetings_of_kept : (Γ : Environment) (l m : Tree) (b : Exp) (v : Waiting) (p : Tree) (ms rest : Branches) → IsSeparate l (par (one m)) → Piece Γ l b v p → Pieces Γ m ms
    → Kept Γ (alt rest) → Kept Γ (alt (meetings_of b v p ms rest))
meetings_of_kept Γ l m b v p no_branch rest s g hs r = r
meetings_of_kept Γ l m b v p (and_branch c w q ms) rest s g hs r =
    meeting_kept Γ l m b v p c w q (meetings_of b v p ms rest) s g hs.0 (meetings_of_kept Γ l m b v p ms rest s g hs.1 r)

meetings_kept : (Γ : Environment) (l m : Tree) (ls ms : Branches) → IsSeparate l (par (one m)) → Pieces Γ l ls → Pieces Γ m ms → Kept Γ (alt (meetings ls ms))
meetings_kept Γ l m no_branch ms s gs hs = record { types = refl; usage = tt }
meetings_kept Γ l m (and_branch b v p ls) ms s gs hs = meetings_of_kept Γ l m b v p ms (meetings ls ms) s gs.0 hs (meetings_kept Γ l m ls ms s gs.1 hs)

-- the right side of par-expand keeps the rules where the left side does
pub expansion_kept : (Γ : Environment) (place : List ℕ) (l r : Tree) → ParExpand place l r → Keeps Γ l → Keeps Γ r
expansion_kept Γ place l r (par_expand ls ms) k =
    let t = and_parts (branches_kept ls Γ) (branches_kept ms Γ && true) k.types in
    let first : Kept Γ (alt ls) = record { types = t.0; usage = k.usage.0.0 } in
    let second : Kept Γ (alt ms) = record { types = (and_parts (branches_kept ms Γ) true t.1).0; usage = k.usage.0.1.0 } in
    let apart : IsSeparate (alt ls) (par (one (alt ms))) = k.usage.1.0 in
    let gs = pieces Γ (alt ls) ls first.types first.usage (itself (alt ls)) in
    let hs = pieces Γ (alt ms) ms second.types second.usage (itself (alt ms)) in
    let whole = first_kept Γ (alt ls) (alt ms) ls (all_branches (second_goes (alt ls) ms) (meetings ls ms)) gs second apart
    (second_kept Γ (alt ls) (alt ms) ms (meetings ls ms) hs first apart (meetings_kept Γ (alt ls) (alt ms) ls ms apart gs hs)) in
    record { types = whole.types; usage = whole.usage }

-- ---- the other laws

pub input_alt_kept : (Γ : Environment) (c x : ℕ) → Keeps Γ (receive c x) → Keeps Γ (alt (and_branch (truth true) (input c x) skip no_branch))
input_alt_kept Γ c x k = record { types = and_from _ _ (and_from _ _ (and_from _ _ refl k.types) refl) refl; usage = (tt, tt) }

pub output_alt_kept : (Γ : Environment) (c : ℕ) (e : Exp) → Keeps Γ (send c e) → Keeps Γ (alt (and_branch (truth true) (output c e) skip no_branch))
output_alt_kept Γ c e k = record { types = and_from _ _ (and_from _ _ (and_from _ _ refl k.types) refl) refl; usage = (tt, tt) }

pub skip_alt_kept : (Γ : Environment) (p : Tree) → Keeps Γ p → Keeps Γ (alt (and_skip p no_branch))
skip_alt_kept Γ p k = record { types = and_from _ _ (and_from _ _ refl k.types) refl; usage = (k.usage, tt) }

before_types : (Γ : Environment) (gs : Branches) (qs : Trees) → branches_kept gs Γ ≡ true → all_types_kept qs Γ ≡ true → branches_kept (each_branch_before gs qs) Γ ≡ true
before_types Γ no_branch qs h t = refl
before_types Γ (and_branch b w p gs) qs h t =
    let k = and_four (is_condition Γ b) (waiting_kept Γ w) (types_kept p Γ) (branches_kept gs Γ) h in
    and_from _ _ (and_from _ _ (and_from _ _ k.0 k.1) (and_from _ _ k.2 t)) (before_types Γ gs qs k.3 t)

before_usage : (gs : Branches) (qs : Trees) → BranchesKeepUsage gs → AllKeepUsage qs → BranchesKeepUsage (each_branch_before gs qs)
before_usage no_branch qs h u = tt
before_usage (and_branch b w p gs) qs h u = ((h.0, u), before_usage gs qs h.1 u)

pub seq_alt_kept : (Γ : Environment) (gs : Branches) (qs : Trees) → Keeps Γ (seq (and_tree (alt gs) qs)) → Keeps Γ (alt (each_branch_before gs qs))
seq_alt_kept Γ gs qs k =
    let t = and_parts (branches_kept gs Γ) (all_types_kept qs Γ) k.types in
    record { types = before_types Γ gs qs t.0 t.1; usage = before_usage gs qs k.usage.0 k.usage.1 }
