-- What each branch of a list has, and what the laws of ALT leave of it.
use Rattle.std.proofs.Common.{true}
use Rattle.occ_renamed.specs.occ_law.Choice.{and_skip}
use Rattle.occ_renamed.specs.occ_law.Lists.{BranchesReordered, all_branches, behind_branch, branches_in_steps, same_branches, two_branches}
use Rattle.occ_renamed.specs.occ_syntax.Tree.{Branches, Exp, Tree, Waiting, alt, and_branch, no_branch, ready, truth}

module _ (Q : Exp → Waiting → Tree → Type 0) where
  abbrev pub Each : Branches → Type 0
  Each no_branch = Unit {0}
  Each (and_branch b w p gs) = Q b w p × Each gs

  pub each_front : (gs hs : Branches) → Each (all_branches gs hs) → Each gs
  each_front no_branch hs k = tt
  each_front (and_branch b w p gs) hs k = (k.0, each_front gs hs k.1)

  pub each_behind : (gs hs : Branches) → Each (all_branches gs hs) → Each hs
  each_behind no_branch hs k = k
  each_behind (and_branch b w p gs) hs k = each_behind gs hs k.1

  pub each_all : (gs hs : Branches) → Each gs → Each hs → Each (all_branches gs hs)
  each_all no_branch hs k h = h
  each_all (and_branch b w p gs) hs k h = (k.0, each_all gs hs k.1 h)

  -- ---- orders, and one branch less or more

  pub order_leaves : (gs hs : Branches) → BranchesReordered gs hs → Each gs → Each hs
  order_leaves gs hs same_branches k = k
  order_leaves gs hs (behind_branch {b = b} {w = w} {p = p} {gs = ls} {hs = bs} r) k = (k.0, order_leaves ls bs r k.1)
  order_leaves gs hs (two_branches {b = b} {c = c} {v = v} {w = w} {p = p} {q = q} {gs = ls}) k = (k.1.0, (k.0, k.1.1))
  order_leaves gs hs (branches_in_steps {gs = ls} {hs = bs} {ks = cs} r s) k = order_leaves bs cs s (order_leaves ls bs r k)

  pub without_leaves : (gs hs : Branches) (b : Exp) (w : Waiting) (p : Tree) → Each (all_branches gs (and_branch b w p hs)) → Each (all_branches gs hs)
  without_leaves gs hs b w p k =
      let rest = each_behind gs (and_branch b w p hs) k in each_all gs hs (each_front gs (and_branch b w p hs) k) rest.1

  pub once_leaves : (gs hs ks : Branches) (b : Exp) (w : Waiting) (p : Tree)
      → Each (all_branches gs (and_branch b w p (all_branches hs (and_branch b w p ks)))) → Each (all_branches gs (and_branch b w p (all_branches hs ks)))
  once_leaves gs hs ks b w p k =
      let tail = and_branch b w p (all_branches hs (and_branch b w p ks)) in
      let rest = each_behind gs tail k in
      each_all gs (and_branch b w p (all_branches hs ks)) (each_front gs tail k) (rest.0, without_leaves hs ks b w p rest.1)

  pub twice_leaves : (gs hs ks : Branches) (b : Exp) (w : Waiting) (p : Tree)
      → Each (all_branches gs (and_branch b w p (all_branches hs ks))) → Each (all_branches gs (and_branch b w p (all_branches hs (and_branch b w p ks))))
  twice_leaves gs hs ks b w p k =
      let tail = and_branch b w p (all_branches hs ks) in
      let rest = each_behind gs tail k in
      each_all gs (and_branch b w p (all_branches hs (and_branch b w p ks))) (each_front gs tail k)
      (rest.0, each_all hs (and_branch b w p ks) (each_front hs ks rest.1) (rest.0, each_behind hs ks rest.1))

  -- ---- an ALT as a branch

  -- A branch that goes on at once as an ALT has it where each branch of that ALT has it; and so has one guard before two processes.
  pub record Nests : Type 0 where
    pub opens : (gs : Branches) → Q (truth true) ready (alt gs) → Each gs
    pub closes : (gs : Branches) → Each gs → Q (truth true) ready (alt gs)
    pub joins : (b : Exp) (w : Waiting) (p q : Tree) → Q b w p → Q b w q → Q b w (alt (and_skip p (and_skip q no_branch)))

  module _ (n : Nests) where
    pub flat_leaves : (gs hs ks : Branches) → Each (all_branches gs (and_skip (alt hs) ks)) → Each (all_branches gs (all_branches hs ks))
    flat_leaves gs hs ks k =
        let rest = each_behind gs (and_skip (alt hs) ks) k in
        each_all gs (all_branches hs ks) (each_front gs (and_skip (alt hs) ks) k) (each_all hs ks (n.opens hs rest.0) rest.1)

    pub nested_leaves : (gs hs ks : Branches) → Each (all_branches gs (all_branches hs ks)) → Each (all_branches gs (and_skip (alt hs) ks))
    nested_leaves gs hs ks k =
        let rest = each_behind gs (all_branches hs ks) k in
        each_all gs (and_skip (alt hs) ks) (each_front gs (all_branches hs ks) k) (n.closes hs (each_front hs ks rest), each_behind hs ks rest)

    pub in_leaves : (gs hs ks : Branches) (g : Waiting) (p : Tree) → Each (all_branches gs (and_branch (truth true) g p (and_skip (alt hs) ks)))
        → Each (all_branches gs (and_skip (alt (and_branch (truth true) g p hs)) ks))
    in_leaves gs hs ks g p k =
        let tail = and_branch (truth true) g p (and_skip (alt hs) ks) in
        let rest = each_behind gs tail k in
        each_all gs (and_skip (alt (and_branch (truth true) g p hs)) ks) (each_front gs tail k)
        (n.closes (and_branch (truth true) g p hs) (rest.0, n.opens hs rest.1.0), rest.1.1)

    pub out_leaves : (gs hs ks : Branches) (g : Waiting) (p : Tree) → Each (all_branches gs (and_skip (alt (and_branch (truth true) g p hs)) ks))
        → Each (all_branches gs (and_branch (truth true) g p (and_skip (alt hs) ks)))
    out_leaves gs hs ks g p k =
        let tail = and_skip (alt (and_branch (truth true) g p hs)) ks in
        let rest = each_behind gs tail k in
        let inner = n.opens (and_branch (truth true) g p hs) rest.0 in
        each_all gs (and_branch (truth true) g p (and_skip (alt hs) ks)) (each_front gs tail k) (inner.0, (n.closes hs inner.1, rest.1))

    pub same_leaves : (gs hs ks : Branches) (b : Exp) (g : Waiting) (p q : Tree)
        → Each (all_branches gs (and_branch b g p (all_branches hs (and_branch b g q ks))))
        → Each (all_branches gs (and_branch b g (alt (and_skip p (and_skip q no_branch))) (all_branches hs ks)))
    same_leaves gs hs ks b g p q k =
        let tail = and_branch b g p (all_branches hs (and_branch b g q ks)) in
        let rest = each_behind gs tail k in
        let second = each_behind hs (and_branch b g q ks) rest.1 in
        each_all gs (and_branch b g (alt (and_skip p (and_skip q no_branch))) (all_branches hs ks)) (each_front gs tail k)
        (n.joins b g p q rest.0 second.0, without_leaves hs ks b g q rest.1)

    pub slide_leaves : (gs hs : Branches) → Each (all_branches gs hs) → Each (all_branches gs (and_skip (alt (all_branches gs hs)) no_branch))
    slide_leaves gs hs k = each_all gs (and_skip (alt (all_branches gs hs)) no_branch) (each_front gs hs k) (n.closes (all_branches gs hs) k, tt)

    pub least_leaves : (gs hs : Branches) → Each (and_skip (alt gs) (and_skip (alt (all_branches gs hs)) no_branch))
        → Each (all_branches hs (and_skip (alt gs) no_branch))
    least_leaves gs hs k =
        each_all hs (and_skip (alt gs) no_branch) (each_behind gs hs (n.opens (all_branches gs hs) k.1.0)) (k.0, tt)
