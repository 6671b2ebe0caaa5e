-- The most bits in scope at one place of a part.
use Rattle.std.proofs.Common.{◌≡◌, ℕ, ◌+◌, ◌-◌, ◌^◌, ◌<◌, ◌≤◌, min, max, List, length, get_or, drop, refl, ap, sym, ◌∙◌, arith}
use Rattle.std.proofs.lemmas.List.{at_drop_more, at_drop_all}
use Rattle.occ_base.specs.declared.names.Name.{Name}
use Rattle.occ_base.specs.Width.{bits_of}
use Rattle.occ_syntax.specs.declared.expr.Expr.{Expr}
use Rattle.occ_syntax.specs.declared.expr.Guard.{Guard}
use Rattle.occ_syntax.specs.declared.proc.Proc.{Proc}
use Rattle.occ_syntax.specs.declared.scope.Kind.{Kind}
use Rattle.occ_syntax.specs.declared.scope.Kind.TheVariants.{Var, Chan}
use Rattle.occ_syntax.specs.Tree.{Tree, skip, stop, assign, receive, send, seq, par, select, alt, declare, connect, Trees, no_tree, and_tree, Cases, no_case, and_case, Branches, no_branch, and_branch}
use Rattle.occ_syntax.specs.View.{tree, trees, cases, branches}
use Rattle.occ_syntax.specs.Declarations.{declaring}
use Rattle.occ_syntax.specs.Counts.{capped, bits_of_kind, bits_of_scope, most_bits, most_bits_of_all, most_bits_of_cases, most_bits_of_branches}

pub most_bits-declaring : (x : ℕ) (k : Kind) (p : Tree) (n : ℕ) → most_bits (declaring x k p) n ≡ most_bits p (n + bits_of_kind k)
most_bits-declaring x (Var w) p n = refl
most_bits-declaring c (Chan w d) p n = ap (most_bits p) (omega arith)

-- what is in scope outside adds to what is declared inside
mutual
  pub most_bits-outer : (p : Tree) (n : ℕ) → most_bits p n ≡ n + most_bits p 0
  most_bits-outer skip n = omega arith
  most_bits-outer stop n = omega arith
  most_bits-outer (assign xs es) n = omega arith
  most_bits-outer (receive c x) n = omega arith
  most_bits-outer (send c e) n = omega arith
  most_bits-outer (seq ps) n = most_bits_of_all-outer ps n
  most_bits-outer (par ps) n = most_bits_of_all-outer ps n
  most_bits-outer (select cs) n = most_bits_of_cases-outer cs n
  most_bits-outer (alt bs) n = most_bits_of_branches-outer bs n
  most_bits-outer (declare x w p) n = omega (arith, most_bits-outer p (n + bits_of w), most_bits-outer p (0 + bits_of w))
  most_bits-outer (connect c w p) n = most_bits-outer p n

  pub most_bits_of_all-outer : (ps : Trees) (n : ℕ) → most_bits_of_all ps n ≡ n + most_bits_of_all ps 0
  most_bits_of_all-outer no_tree n = omega arith
  most_bits_of_all-outer (and_tree p ps) n = omega (arith, most_bits-outer p n, most_bits_of_all-outer ps n)

  pub most_bits_of_cases-outer : (cs : Cases) (n : ℕ) → most_bits_of_cases cs n ≡ n + most_bits_of_cases cs 0
  most_bits_of_cases-outer no_case n = omega arith
  most_bits_of_cases-outer (and_case e p cs) n = omega (arith, most_bits-outer p n, most_bits_of_cases-outer cs n)

  pub most_bits_of_branches-outer : (bs : Branches) (n : ℕ) → most_bits_of_branches bs n ≡ n + most_bits_of_branches bs 0
  most_bits_of_branches-outer no_branch n = omega arith
  most_bits_of_branches-outer (and_branch e w p bs) n = omega (arith, most_bits-outer p n, most_bits_of_branches-outer bs n)

-- so a capped count outside serves for the count
pub most_bits-capped : (p : Tree) (m n : ℕ) → m ≡ capped n → capped (most_bits p m) ≡ capped (most_bits p n)
most_bits-capped p m n e = omega (arith, e, most_bits-outer p m, most_bits-outer p n)

-- one declaration further in
pub one_further : (p : Tree) (x : ℕ) (k : Kind) (b : Tree) (n r f m : ℕ) → p ≡ declaring x k b → r ≡ bits_of_kind k → f ≡ r → m ≡ min (n + f) (2 ^ 64 - 1)
    → capped (most_bits b m) ≡ capped (most_bits p n)
one_further p x k b n r f m e g h i =
    most_bits-capped b m (n + bits_of_kind k) (omega arith) ∙ ap capped (sym (ap (λ q. most_bits q n) e ∙ most_bits-declaring x k b n))

-- one part further: the most of the parts so far, and of those that are left
pub further_in_all : (ps : List Proc) (n i a m r : ℕ) (p : Proc) → i < length ps → p ≡ get_or ps i p → r ≡ capped (most_bits (tree p) n) → m ≡ max a r
    → capped (max m (most_bits_of_all (trees (drop (i + 1) ps)) n)) ≡ capped (max a (most_bits_of_all (trees (drop i ps)) n))
further_in_all ps n i a m r p h e f g =
    let s : most_bits_of_all (trees (drop i ps)) n ≡ max (most_bits (tree (get_or ps i p)) n) (most_bits_of_all (trees (drop (i + 1) ps)) n) = at_drop_more (λ qs. most_bits_of_all (trees qs) n) ps i p h in
    let t : most_bits (tree p) n ≡ most_bits (tree (get_or ps i p)) n = ap (λ q. most_bits (tree q) n) e in
    omega arith

pub further_in_cases : (cs : List (Expr × Proc)) (n i a m r : ℕ) (c : Expr × Proc) → i < length cs → c ≡ get_or cs i c → r ≡ capped (most_bits (tree c.1) n) → m ≡ max a r
    → capped (max m (most_bits_of_cases (cases (drop (i + 1) cs)) n)) ≡ capped (max a (most_bits_of_cases (cases (drop i cs)) n))
further_in_cases cs n i a m r c h e f g =
    let s : most_bits_of_cases (cases (drop i cs)) n ≡ max (most_bits (tree (get_or cs i c).1) n) (most_bits_of_cases (cases (drop (i + 1) cs)) n) = at_drop_more (λ qs. most_bits_of_cases (cases qs) n) cs i c h in
    let t : most_bits (tree c.1) n ≡ most_bits (tree (get_or cs i c).1) n = ap (λ (q : Expr × Proc). most_bits (tree q.1) n) e in
    omega arith

pub further_in_branches : (bs : List (Guard × Proc)) (n i a m r : ℕ) (b : Guard × Proc) → i < length bs → b ≡ get_or bs i b → r ≡ capped (most_bits (tree b.1) n) → m ≡ max a r
    → capped (max m (most_bits_of_branches (branches (drop (i + 1) bs)) n)) ≡ capped (max a (most_bits_of_branches (branches (drop i bs)) n))
further_in_branches bs n i a m r b h e f g =
    let s : most_bits_of_branches (branches (drop i bs)) n ≡ max (most_bits (tree (get_or bs i b).1) n) (most_bits_of_branches (branches (drop (i + 1) bs)) n) = at_drop_more (λ qs. most_bits_of_branches (branches qs) n) bs i b h in
    let t : most_bits (tree b.1) n ≡ most_bits (tree (get_or bs i b).1) n = ap (λ (q : Guard × Proc). most_bits (tree q.1) n) e in
    omega arith

pub all_seen : (ps : List Proc) (n i a : ℕ) → length ps ≤ i → n ≤ a → a < 2 ^ 64 → capped (max a (most_bits_of_all (trees (drop i ps)) n)) ≡ a
all_seen ps n i a h k m =
    let s : most_bits_of_all (trees (drop i ps)) n ≡ n = at_drop_all (λ qs. most_bits_of_all (trees qs) n) ps i h in
    omega arith

pub cases_seen : (cs : List (Expr × Proc)) (n i a : ℕ) → length cs ≤ i → n ≤ a → a < 2 ^ 64 → capped (max a (most_bits_of_cases (cases (drop i cs)) n)) ≡ a
cases_seen cs n i a h k m =
    let s : most_bits_of_cases (cases (drop i cs)) n ≡ n = at_drop_all (λ qs. most_bits_of_cases (cases qs) n) cs i h in
    omega arith

pub branches_seen : (bs : List (Guard × Proc)) (n i a : ℕ) → length bs ≤ i → n ≤ a → a < 2 ^ 64 → capped (max a (most_bits_of_branches (branches (drop i bs)) n)) ≡ a
branches_seen bs n i a h k m =
    let s : most_bits_of_branches (branches (drop i bs)) n ≡ n = at_drop_all (λ qs. most_bits_of_branches (branches qs) n) bs i h in
    omega arith

-- before the first part
pub none_seen : (ps : List Proc) (n : ℕ) → capped (max n (most_bits_of_all (trees ps) n)) ≡ capped (most_bits_of_all (trees ps) n)
none_seen ps n = omega (arith, most_bits_of_all-outer (trees ps) n)

pub no_case_seen : (cs : List (Expr × Proc)) (n : ℕ) → capped (max n (most_bits_of_cases (cases cs) n)) ≡ capped (most_bits_of_cases (cases cs) n)
no_case_seen cs n = omega (arith, most_bits_of_cases-outer (cases cs) n)

pub no_branch_seen : (bs : List (Guard × Proc)) (n : ℕ) → capped (max n (most_bits_of_branches (branches bs) n)) ≡ capped (most_bits_of_branches (branches bs) n)
no_branch_seen bs n = omega (arith, most_bits_of_branches-outer (branches bs) n)

-- the bits of a scope, entry by entry
pub one_entry : (xs : List (Name × Kind)) (i a r f m : ℕ) (d : Name × Kind) → i < length xs → r ≡ bits_of_kind (get_or xs i d).1 → f ≡ r → m ≡ min (a + f) (2 ^ 64 - 1)
    → capped (m + bits_of_scope (drop (i + 1) xs)) ≡ capped (a + bits_of_scope (drop i xs))
one_entry xs i a r f m d h e g k =
    let s : bits_of_scope (drop i xs) ≡ bits_of_kind (get_or xs i d).1 + bits_of_scope (drop (i + 1) xs) = at_drop_more bits_of_scope xs i d h in
    omega arith

pub all_entries : (xs : List (Name × Kind)) (i a : ℕ) → length xs ≤ i → a < 2 ^ 64 → capped (a + bits_of_scope (drop i xs)) ≡ a
all_entries xs i a h k =
    let s : bits_of_scope (drop i xs) ≡ 0 = at_drop_all bits_of_scope xs i h in
    omega arith
