-- A PAR of two ALTs: what they can do first uses no more than they do.
use Rattle.std.proofs.Common.{◌≡◌, ℕ, Bool, true, false, ◌||◌, ◌==◌, [], ◌∷◌, if◌then◌else◌}
use Rattle.std.proofs.lemmas.Bool.{or_left, or_right}
use Rattle.occ_complete_states.proofs.from_derive_laws.Using.{branches_use, either_way, first_branch, first_guard, first_part, guard, later_branches, no_branch_used, second_part, seq_as_par, two_use, uses_through}
use Rattle.occ_engine.specs.occ_law.Lists.{all_branches}
use Rattle.occ_engine.specs.occ_law.Parallel.{both_go, expanded, first_goes, meeting, meetings, meetings_of, second_goes}
use Rattle.occ_engine.proofs.from_meaning.Facts.{false_not_true}
use Rattle.occ_engine.specs.occ_meaning.Parallel.{one, two}
use Rattle.occ_engine.specs.occ_syntax.declared.expr.Op.TheVariants.{And}
use Rattle.occ_engine.specs.occ_syntax.Names.{free, free_in_waiting, names, written, written_in_waiting}
use Rattle.occ_engine.specs.occ_syntax.Tree.{Branches, Exp, Tree, Waiting, alt, and_branch, assign, input, no_branch, operation, output, par, ready, seq}
use Rattle.occ_engine.specs.occ_usage.Local.{UsesNoMore}

-- ---- lists of branches

lists_use : (gs hs : Branches) (r : Tree) → UsesNoMore (alt gs) r → UsesNoMore (alt hs) r → UsesNoMore (alt (all_branches gs hs)) r
lists_use no_branch hs r v w = w
lists_use (and_branch b g p gs) hs r v w =
    let whole = alt (and_branch b g p gs) in
    branches_use b g p (all_branches gs hs) r (uses_through (guard b g) whole r (first_guard b g p gs) v) (uses_through p whole r (first_branch b g p gs) v)
    (lists_use gs hs r (uses_through (alt gs) whole r (later_branches b g p gs) v) w)

first_use : (ls : Branches) (m r : Tree) → UsesNoMore (alt ls) r → UsesNoMore m r → UsesNoMore (alt (first_goes ls m)) r
first_use no_branch m r v w = no_branch_used r
first_use (and_branch b g p ls) m r v w =
    let whole = alt (and_branch b g p ls) in
    branches_use b g (par (two p m)) (first_goes ls m) r (uses_through (guard b g) whole r (first_guard b g p ls) v)
    (two_use p m r (uses_through p whole r (first_branch b g p ls) v) w)
    (first_use ls m r (uses_through (alt ls) whole r (later_branches b g p ls) v) w)

second_use : (l : Tree) (ms : Branches) (r : Tree) → UsesNoMore l r → UsesNoMore (alt ms) r → UsesNoMore (alt (second_goes l ms)) r
second_use l no_branch r v w = no_branch_used r
second_use l (and_branch b g q ms) r v w =
    let whole = alt (and_branch b g q ms) in
    branches_use b g (par (two l q)) (second_goes l ms) r (uses_through (guard b g) whole r (first_guard b g q ms) w)
    (two_use l q r v (uses_through q whole r (first_branch b g q ms) w))
    (second_use l ms r v (uses_through (alt ms) whole r (later_branches b g q ms) w))

-- ---- branches that meet

-- what a guard uses
waits_free : (b : Exp) (w : Waiting) (r : Tree) → UsesNoMore (guard b w) r → (z : ℕ) → free_in_waiting w z ≡ true → free r z ≡ true
waits_free b w r v z h =
    v.frees z (or_left ((names b z || free_in_waiting w z) || false) false (or_left (names b z || free_in_waiting w z) false (or_right (names b z) (free_in_waiting w z) h)))

waits_written : (b : Exp) (w : Waiting) (r : Tree) → UsesNoMore (guard b w) r → (z : ℕ) → written_in_waiting w z ≡ true → written r z ≡ true
waits_written b w r v z h = v.writes z (or_left (written_in_waiting w z || false) false (or_left (written_in_waiting w z) false h))

asks_free : (b : Exp) (w : Waiting) (r : Tree) → UsesNoMore (guard b w) r → (z : ℕ) → names b z ≡ true → free r z ≡ true
asks_free b w r v z h =
    v.frees z (or_left ((names b z || free_in_waiting w z) || false) false (or_left (names b z || free_in_waiting w z) false (or_left (names b z) (free_in_waiting w z) h)))

-- a value that is passed uses what the two guards use
passing_uses : (b c : Exp) (i j x : ℕ) (e : Exp) (r : Tree) → UsesNoMore (guard b (input j x)) r → UsesNoMore (guard c (output i e)) r
    → UsesNoMore (assign (x ∷ []) (e ∷ [])) r
passing_uses b c i j x e r v w = record {
  frees = λ z. either_way (z == x || false) (names e z || false) (free r z)
      (either_way (z == x) false (free r z) (λ h. waits_free b (input j x) r v z (or_right (z == j) (z == x) h)) (λ h. false_not_true h))
      (either_way (names e z) false (free r z) (λ h. waits_free c (output i e) r w z (or_right (z == i) (names e z) h)) (λ h. false_not_true h));
  writes = λ z. either_way (z == x) false (written r z) (λ h. waits_written b (input j x) r v z h) (λ h. false_not_true h);
  ends = λ k d h. false_not_true h;
}

-- a guard that is ready where two conditions hold
both_use : (b c : Exp) (v w : Waiting) (r : Tree) → UsesNoMore (guard b v) r → UsesNoMore (guard c w) r → UsesNoMore (guard (operation And b c) ready) r
both_use b c v w r f g = record {
  frees = λ z. either_way (((names b z || names c z) || false) || false) false (free r z)
      (either_way ((names b z || names c z) || false) false (free r z)
      (either_way (names b z || names c z) false (free r z) (either_way (names b z) (names c z) (free r z) (asks_free b v r f z) (asks_free c w r g z))
      (λ h. false_not_true h)) (λ h. false_not_true h)) (λ h. false_not_true h);
  writes = λ z h. false_not_true h;
  ends = λ k d h. false_not_true h;
}

go_on_use : (x : ℕ) (e : Exp) (p q r : Tree) → UsesNoMore (assign (x ∷ []) (e ∷ [])) r → UsesNoMore p r → UsesNoMore q r → UsesNoMore (both_go x e p q) r
go_on_use x e p q r u v w =
    let a = assign (x ∷ []) (e ∷ []) in
    let rest = par (two p q) in
    uses_through (seq (two a rest)) (par (two a rest)) r (seq_as_par (two a rest)) (two_use a rest r u (two_use p q r v w))

-- two branches that meet, or don't
met : (t : Bool) (b c : Exp) (x : ℕ) (e : Exp) (p q : Tree) (rest : Branches) (r : Tree) → UsesNoMore (guard (operation And b c) ready) r
    → UsesNoMore (both_go x e p q) r → UsesNoMore (alt rest) r → UsesNoMore (alt (if t then and_branch (operation And b c) ready (both_go x e p q) rest else rest)) r
met true b c x e p q rest r u v w = branches_use (operation And b c) ready (both_go x e p q) rest r u v w
met false b c x e p q rest r u v w = w

-- a branch uses no more
record BranchUses (b : Exp) (w : Waiting) (p r : Tree) : Type 0 where
  guards : UsesNoMore (guard b w) r
  process : UsesNoMore p r

meeting_uses : (b : Exp) (v : Waiting) (p : Tree) (c : Exp) (w : Waiting) (q : Tree) (rest : Branches) (r : Tree) → BranchUses b v p r → BranchUses c w q r
    → UsesNoMore (alt rest) r → UsesNoMore (alt (meeting b v p c w q rest)) r
meeting_uses b (output i e) p c (input j x) q rest r f g h =
    met (i == j) b c x e p q rest r (both_use b c (output i e) (input j x) r f.guards g.guards)
    (go_on_use x e p q r (passing_uses c b i j x e r g.guards f.guards) f.process g.process) h
meeting_uses b (input j x) p c (output i e) q rest r f g h =
    met (j == i) b c x e p q rest r (both_use b c (input j x) (output i e) r f.guards g.guards)
    (go_on_use x e p q r (passing_uses b c i j x e r f.guards g.guards) f.process g.process) h
meeting_uses b (output i e) p c (output j y) q rest r f g h = h
meeting_uses b (output i e) p c ready q rest r f g h = h
meeting_uses b (input i x) p c (input j y) q rest r f g h = h
meeting_uses b (input i x) p c ready q rest r f g h = h
meeting_uses b ready p c w q rest r f g h = h

meetings_of_use : (b : Exp) (v : Waiting) (p : Tree) (ms rest : Branches) (r : Tree) → BranchUses b v p r → UsesNoMore (alt ms) r → UsesNoMore (alt rest) r
    → UsesNoMore (alt (meetings_of b v p ms rest)) r
meetings_of_use b v p no_branch rest r f g h = h
meetings_of_use b v p (and_branch c w q ms) rest r f g h =
    let whole = alt (and_branch c w q ms) in
    meeting_uses b v p c w q (meetings_of b v p ms rest) r f
    (record { guards = uses_through (guard c w) whole r (first_guard c w q ms) g; process = uses_through q whole r (first_branch c w q ms) g })
    (meetings_of_use b v p ms rest r f (uses_through (alt ms) whole r (later_branches c w q ms) g) h)

meetings_use : (ls ms : Branches) (r : Tree) → UsesNoMore (alt ls) r → UsesNoMore (alt ms) r → UsesNoMore (alt (meetings ls ms)) r
meetings_use no_branch ms r f g = no_branch_used r
meetings_use (and_branch b v p ls) ms r f g =
    let whole = alt (and_branch b v p ls) in
    meetings_of_use b v p ms (meetings ls ms) r
    (record { guards = uses_through (guard b v) whole r (first_guard b v p ls) f; process = uses_through p whole r (first_branch b v p ls) f }) g
    (meetings_use ls ms r (uses_through (alt ls) whole r (later_branches b v p ls) f) g)

pub expansion_spares : (ls ms : Branches) → UsesNoMore (alt (expanded ls ms)) (par (two (alt ls) (alt ms)))
expansion_spares ls ms =
    let l = alt ls in
    let m = alt ms in
    let r = par (two l m) in
    let v = first_part l (one m) in
    let w = second_part l m in
    lists_use (first_goes ls m) (all_branches (second_goes l ms) (meetings ls ms)) r (first_use ls m r v w)
    (lists_use (second_goes l ms) (meetings ls ms) r (second_use l ms r v w) (meetings_use ls ms r v w))
