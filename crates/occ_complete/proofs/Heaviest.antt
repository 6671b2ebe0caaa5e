-- A PAR of two ALTs: the ALT of what they can do first is no heavier.
use Rattle.std.proofs.Common.{ℕ, ◌≤◌, ◌+◌, ◌==◌, Bool, true, false, if◌then◌else◌, arith}
use Rattle.occ_complete_states.specs.occ_derive_moves.Weight.{heaviest_branch, weight}
use Rattle.occ_engine.specs.occ_law.Lists.{all_branches}
use Rattle.occ_engine.specs.occ_law.Parallel.{both_go, expanded, first_goes, meeting, meetings, meetings_of, second_goes}
use Rattle.occ_engine.specs.occ_meaning.Parallel.{two}
use Rattle.occ_engine.specs.occ_syntax.declared.expr.Op.TheVariants.{And}
use Rattle.occ_engine.specs.occ_syntax.Tree.{Branches, Exp, Tree, Waiting, alt, and_branch, input, no_branch, operation, output, par, ready}

lists_weigh : (gs hs : Branches) (n : ℕ) → heaviest_branch gs ≤ n → heaviest_branch hs ≤ n → heaviest_branch (all_branches gs hs) ≤ n
lists_weigh no_branch hs n g h = h
lists_weigh (and_branch b w p gs) hs n g h = let rest = lists_weigh gs hs n (omega arith) h in omega arith

first_weigh : (ls : Branches) (m : Tree) (n : ℕ) → heaviest_branch ls + weight m ≤ n → heaviest_branch (first_goes ls m) ≤ n
first_weigh no_branch m n h = omega arith
first_weigh (and_branch b w p ls) m n h = let rest = first_weigh ls m n (omega arith) in omega arith

second_weigh : (l : Tree) (ms : Branches) (n : ℕ) → weight l + heaviest_branch ms ≤ n → heaviest_branch (second_goes l ms) ≤ n
second_weigh l no_branch n h = omega arith
second_weigh l (and_branch b w q ms) n h = let rest = second_weigh l ms n (omega arith) in omega arith

met_weighs : (t : Bool) (b c : Exp) (x : ℕ) (e : Exp) (p q : Tree) (rest : Branches) (n : ℕ) → 1 + weight p + weight q ≤ n → heaviest_branch rest ≤ n
    → heaviest_branch (if t then and_branch (operation And b c) ready (both_go x e p q) rest else rest) ≤ n
met_weighs true b c x e p q rest n h k = omega arith
met_weighs false b c x e p q rest n h k = k

meeting_weighs : (b : Exp) (v : Waiting) (p : Tree) (c : Exp) (w : Waiting) (q : Tree) (rest : Branches) (n : ℕ) → 1 + weight p + weight q ≤ n
    → heaviest_branch rest ≤ n → heaviest_branch (meeting b v p c w q rest) ≤ n
meeting_weighs b (output i e) p c (input j x) q rest n h k = met_weighs (i == j) b c x e p q rest n h k
meeting_weighs b (input j x) p c (output i e) q rest n h k = met_weighs (j == i) b c x e p q rest n h k
meeting_weighs b (output i e) p c (output j y) q rest n h k = k
meeting_weighs b (output i e) p c ready q rest n h k = k
meeting_weighs b (input i x) p c (input j y) q rest n h k = k
meeting_weighs b (input i x) p c ready q rest n h k = k
meeting_weighs b ready p c w q rest n h k = k

meetings_of_weigh : (b : Exp) (v : Waiting) (p : Tree) (ms rest : Branches) (n : ℕ) → 1 + weight p + heaviest_branch ms ≤ n → heaviest_branch rest ≤ n
    → heaviest_branch (meetings_of b v p ms rest) ≤ n
meetings_of_weigh b v p no_branch rest n h k = k
meetings_of_weigh b v p (and_branch c w q ms) rest n h k =
    meeting_weighs b v p c w q (meetings_of b v p ms rest) n (omega arith) (meetings_of_weigh b v p ms rest n (omega arith) k)

meetings_weigh : (ls ms : Branches) (n : ℕ) → 1 + heaviest_branch ls + heaviest_branch ms ≤ n → heaviest_branch (meetings ls ms) ≤ n
meetings_weigh no_branch ms n h = omega arith
meetings_weigh (and_branch b v p ls) ms n h = meetings_of_weigh b v p ms (meetings ls ms) n (omega arith) (meetings_weigh ls ms n (omega arith))

pub expansion_weighs : (ls ms : Branches) → weight (alt (expanded ls ms)) ≤ weight (par (two (alt ls) (alt ms)))
expansion_weighs ls ms =
    let n = 1 + heaviest_branch ls + heaviest_branch ms in
    let first : heaviest_branch (first_goes ls (alt ms)) ≤ n = first_weigh ls (alt ms) n (omega arith) in
    let second : heaviest_branch (second_goes (alt ls) ms) ≤ n = second_weigh (alt ls) ms n (omega arith) in
    let both : heaviest_branch (meetings ls ms) ≤ n = meetings_weigh ls ms n (omega arith) in
    let all : heaviest_branch (expanded ls ms) ≤ n =
    lists_weigh (first_goes ls (alt ms)) (all_branches (second_goes (alt ls) ms) (meetings ls ms)) n first (lists_weigh (second_goes (alt ls) ms) (meetings ls ms) n second both) in
    omega arith
