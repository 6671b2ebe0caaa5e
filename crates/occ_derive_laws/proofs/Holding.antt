-- The laws of ALT, from one side that keeps names, types, directions and usage.
use Rattle.std.proofs.Common.{◌≡◌, List, [], ◌∷◌, true, false, refl}
use Rattle.occ_renamed.specs.occ_base.declared.names.Name.{Name}
use Rattle.occ_derive_laws.proofs.Each.{Each, flat_leaves, in_leaves, least_leaves, nested_leaves, once_leaves, order_leaves, out_leaves, same_leaves, slide_leaves, twice_leaves, without_leaves}
use Rattle.occ_derive_laws.proofs.Keeping.{IsKept, at_once_kept, each_kept, kept_each, kept_nests}
use Rattle.occ_derive_laws.proofs.Rows.{unnamed_few}
use Rattle.occ_renamed.specs.occ_law.Choice.{alt_false, alt_flat, alt_least, alt_none, alt_order, alt_same, alt_skip, alt_slide, alt_split, alt_twice, and_skip, are_events, are_plain_events, has_skip, is_event}
use Rattle.occ_renamed.specs.occ_law.Lists.{BranchesReordered, all_branches, tally}
use Rattle.occ_renamed.specs.occ_law.RuleTable.{LAW}
use Rattle.occ_renamed.specs.occ_syntax.declared.scope.Kind.{Kind}
use Rattle.occ_renamed.specs.occ_syntax.Scopes.{Environment, environment}
use Rattle.occ_renamed.specs.occ_syntax.Tree.{Branches, Exp, Tree, Waiting, alt, and_branch, no_branch, stop, truth}
use Rattle.occ_renamed.specs.occ_syntax.Usage.{Keeps}

-- from some branches to others
to_others : (Γ : Environment) (gs hs : Branches) → (Each (IsKept Γ) gs → Each (IsKept Γ) hs) → Keeps Γ (alt gs) → Keeps Γ (alt hs)
to_others Γ gs hs f k = each_kept Γ hs (f (kept_each Γ gs k))

pub none_law : (S : List (Name × Kind)) → LAW 26 S (alt no_branch) stop
none_law S = record { place = []; sides = alt_none; left = record { types = refl; usage = tt }; right = record { types = refl; usage = tt } }

pub order_law : (S : List (Name × Kind)) (gs hs : Branches) → BranchesReordered gs hs → Keeps (environment S) (alt gs) → LAW 27 S (alt gs) (alt hs)
order_law S gs hs r k = record {
  place = [];
  sides = alt_order gs hs r;
  left = k;
  right = to_others (environment S) gs hs (order_leaves (IsKept (environment S)) gs hs r) k;
}

pub false_law : (S : List (Name × Kind)) (gs hs : Branches) (w : Waiting) (p : Tree)
    → Keeps (environment S) (alt (all_branches gs (and_branch (truth false) w p hs)))
    → LAW 28 S (alt (all_branches gs (and_branch (truth false) w p hs))) (alt (all_branches gs hs))
false_law S gs hs w p k = record {
  place = tally gs ∷ [];
  sides = alt_false gs hs (truth false) w p (unnamed_few S (truth false ∷ []) (λ x. refl)) (λ s state. refl);
  left = k;
  right = to_others (environment S) (all_branches gs (and_branch (truth false) w p hs)) (all_branches gs hs)
      (without_leaves (IsKept (environment S)) gs hs (truth false) w p) k;
}

module _ (S : List (Name × Kind)) (gs hs ks : Branches) (b : Exp) (w : Waiting) (p : Tree) where
  abbrev twice : Branches
  twice = all_branches gs (and_branch b w p (all_branches hs (and_branch b w p ks)))

  abbrev once : Branches
  once = all_branches gs (and_branch b w p (all_branches hs ks))

  pub twice_law : Keeps (environment S) (alt twice) → LAW 29 S (alt twice) (alt once)
  twice_law k = record {
    place = tally gs ∷ tally hs ∷ [];
    sides = alt_twice gs hs ks b w p;
    left = k;
    right = to_others (environment S) twice once (once_leaves (IsKept (environment S)) gs hs ks b w p) k;
  }

  pub law_twice : Keeps (environment S) (alt once) → LAW 29 S (alt twice) (alt once)
  law_twice k = record {
    place = tally gs ∷ tally hs ∷ [];
    sides = alt_twice gs hs ks b w p;
    left = to_others (environment S) once twice (twice_leaves (IsKept (environment S)) gs hs ks b w p) k;
    right = k;
  }

pub skip_law : (S : List (Name × Kind)) (p : Tree) → Keeps (environment S) (alt (and_skip p no_branch)) → LAW 30 S (alt (and_skip p no_branch)) p
skip_law S p k = record { place = []; sides = alt_skip p; left = k; right = (kept_each (environment S) (and_skip p no_branch) k).0.part }

pub law_skip : (S : List (Name × Kind)) (p : Tree) → Keeps (environment S) p → LAW 30 S (alt (and_skip p no_branch)) p
law_skip S p k = record {
  place = [];
  sides = alt_skip p;
  left = each_kept (environment S) (and_skip p no_branch) (at_once_kept (environment S) p k, tt);
  right = k;
}

module _ (S : List (Name × Kind)) (gs hs ks : Branches) (h : has_skip hs ≡ true) where
  abbrev nested : Branches
  nested = all_branches gs (and_skip (alt hs) ks)

  abbrev flat : Branches
  flat = all_branches gs (all_branches hs ks)

  pub flat_law : Keeps (environment S) (alt nested) → LAW 32 S (alt nested) (alt flat)
  flat_law k = record {
    place = tally gs ∷ [];
    sides = alt_flat gs hs ks h;
    left = k;
    right = to_others (environment S) nested flat (flat_leaves (IsKept (environment S)) (kept_nests (environment S)) gs hs ks) k;
  }

  pub law_flat : Keeps (environment S) (alt flat) → LAW 32 S (alt nested) (alt flat)
  law_flat k = record {
    place = tally gs ∷ [];
    sides = alt_flat gs hs ks h;
    left = to_others (environment S) flat nested (nested_leaves (IsKept (environment S)) (kept_nests (environment S)) gs hs ks) k;
    right = k;
  }

module _ (S : List (Name × Kind)) (gs hs ks : Branches) (g : Waiting) (p q : Tree) (e : is_event g ≡ true) where
  abbrev inner : Branches
  inner = and_branch (truth true) g q hs

  abbrev before : Branches
  before = all_branches gs (and_branch (truth true) g p (and_skip (alt inner) ks))

  abbrev within : Branches
  within = all_branches gs (and_skip (alt (and_branch (truth true) g p inner)) ks)

  pub split_law : Keeps (environment S) (alt before) → LAW 33 S (alt before) (alt within)
  split_law k = record {
    place = tally gs ∷ [];
    sides = alt_split gs hs ks g p q e;
    left = k;
    right = to_others (environment S) before within (in_leaves (IsKept (environment S)) (kept_nests (environment S)) gs inner ks g p) k;
  }

  pub law_split : Keeps (environment S) (alt within) → LAW 33 S (alt before) (alt within)
  law_split k = record {
    place = tally gs ∷ [];
    sides = alt_split gs hs ks g p q e;
    left = to_others (environment S) within before (out_leaves (IsKept (environment S)) (kept_nests (environment S)) gs inner ks g p) k;
    right = k;
  }

module _ (S : List (Name × Kind)) (gs hs ks : Branches) (b : Exp) (g : Waiting) (p q : Tree) (e : is_event g ≡ true) where
  abbrev each : Branches
  each = all_branches gs (and_branch b g p (all_branches hs (and_branch b g q ks)))

  abbrev together : Branches
  together = all_branches gs (and_branch b g (alt (and_skip p (and_skip q no_branch))) (all_branches hs ks))

  pub same_law : Keeps (environment S) (alt each) → LAW 34 S (alt each) (alt together)
  same_law k = record {
    place = tally gs ∷ tally hs ∷ [];
    sides = alt_same gs hs ks b g p q e;
    left = k;
    right = to_others (environment S) each together (same_leaves (IsKept (environment S)) (kept_nests (environment S)) gs hs ks b g p q) k;
  }

pub law_slide : (S : List (Name × Kind)) (gs hs : Branches) → are_events gs ≡ true → Keeps (environment S) (alt (all_branches gs hs))
    → LAW 35 S (alt (all_branches gs (and_skip (alt (all_branches gs hs)) no_branch))) (alt (all_branches gs hs))
law_slide S gs hs e k = record {
  place = tally gs ∷ [];
  sides = alt_slide gs hs e;
  left = to_others (environment S) (all_branches gs hs) (all_branches gs (and_skip (alt (all_branches gs hs)) no_branch))
      (slide_leaves (IsKept (environment S)) (kept_nests (environment S)) gs hs) k;
  right = k;
}

pub least_law : (S : List (Name × Kind)) (gs hs : Branches) → are_plain_events gs ≡ true → are_plain_events hs ≡ true
    → Keeps (environment S) (alt (and_skip (alt gs) (and_skip (alt (all_branches gs hs)) no_branch)))
    → LAW 36 S (alt (and_skip (alt gs) (and_skip (alt (all_branches gs hs)) no_branch))) (alt (all_branches hs (and_skip (alt gs) no_branch)))
least_law S gs hs e f k = record {
  place = [];
  sides = alt_least gs hs e f;
  left = k;
  right = to_others (environment S) (and_skip (alt gs) (and_skip (alt (all_branches gs hs)) no_branch)) (all_branches hs (and_skip (alt gs) no_branch))
      (least_leaves (IsKept (environment S)) (kept_nests (environment S)) gs hs) k;
}
