-- The laws of PAR. After Roscoe and Hoare, "The laws of occam programming" (1988), in this project's own table. Of each law
-- the index has the sizes of the lists in front of the changed place.
use Rattle.std.specs.Prelude.{ℕ, ◌==◌, List, [], ◌∷◌, if◌then◌else◌, MatchBool}
use Rattle.occ_bits.specs.occ_base.declared.names.Name.{Name}
use Rattle.occ_bits.specs.occ_syntax.declared.expr.Op.TheVariants.{And}
use Rattle.occ_bits.specs.occ_syntax.declared.scope.Kind.{Kind}
use Rattle.occ_bits.specs.occ_syntax.Scopes.{environment}
use Rattle.occ_bits.specs.occ_syntax.Tree.{Exp, operation, Waiting, ready, input, output, Tree, skip, stop, assign, seq, par, select, alt, Trees, no_tree, and_tree, Cases, no_case, and_case, Branches, no_branch, and_branch}
use Rattle.occ_bits.specs.occ_meaning.Parallel.{Reordered, all_of, one, two}
use Rattle.occ_law.specs.Lists.{all_branches, conditions, size}
use Rattle.occ_law.specs.States.{AreFew, IsExhaustive}

-- PAR() = SKIP
pub data ParNone : List ℕ → Tree → Tree → Type 0 where
  par_none : ParNone [] (par no_tree) skip

-- PAR(P) = P
pub data ParOne : List ℕ → Tree → Tree → Type 0 where
  par_one : (p : Tree) → ParOne [] (par (one p)) p

-- PAR(Ps, PAR(Qs), Rs) = PAR(Ps, Qs, Rs)
pub data ParFlat : List ℕ → Tree → Tree → Type 0 where
  par_flat : (ps qs rs : Trees) → ParFlat (size ps ∷ []) (par (all_of ps (and_tree (par qs) rs))) (par (all_of ps (all_of qs rs)))

-- a PAR = the same parts in any order
pub data ParOrder : List ℕ → Tree → Tree → Type 0 where
  par_order : (ps qs : Trees) → Reordered ps qs → ParOrder [] (par ps) (par qs)

-- PAR(Ps, SKIP, Qs) = PAR(Ps, Qs)
pub data ParSkip : List ℕ → Tree → Tree → Type 0 where
  par_skip : (ps qs : Trees) → ParSkip (size ps ∷ []) (par (all_of ps (and_tree skip qs))) (par (all_of ps qs))

-- PAR(P, STOP) = SEQ(P, STOP)
pub data ParStop : List ℕ → Tree → Tree → Type 0 where
  par_stop : (p : Tree) → ParStop [] (par (two p stop)) (seq (two p stop))

-- PAR(SEQ(xs := es, Ps), Q) = SEQ(xs := es, PAR(SEQ(Ps), Q))
pub data ParAssign : List ℕ → Tree → Tree → Type 0 where
  par_assign : (xs : List ℕ) (es : List Exp) (ps : Trees) (q : Tree)
      → ParAssign [] (par (two (seq (and_tree (assign xs es) ps)) q)) (seq (two (assign xs es) (par (two (seq ps) q))))

-- choices whose processes run beside another
abbrev pub each_case_beside : Cases → Tree → Cases
each_case_beside no_case q = no_case
each_case_beside (and_case b p cs) q = and_case b (par (two p q)) (each_case_beside cs q)

-- PAR(IF(b1 P1, .., bn Pn), Q) = IF(b1 PAR(P1, Q), .., bn PAR(Pn, Q)), where in every state some condition is TRUE
pub data ParIf (S : List (Name × Kind)) : List ℕ → Tree → Tree → Type 0 where
  par_if : (cs : Cases) (q : Tree) → AreFew S (conditions cs) → IsExhaustive (environment S) (conditions cs)
      → ParIf S [] (par (two (select cs) q)) (select (each_case_beside cs q))

-- a branch of the first ALT goes, and the second waits
abbrev pub first_goes : Branches → Tree → Branches
first_goes no_branch m = no_branch
first_goes (and_branch b w p ls) m = and_branch b w (par (two p m)) (first_goes ls m)

-- a branch of the second ALT goes, and the first waits
abbrev pub second_goes : Tree → Branches → Branches
second_goes l no_branch = no_branch
second_goes l (and_branch b w q ms) = and_branch b w (par (two l q)) (second_goes l ms)

-- both go, once e is passed to x
abbrev pub both_go : ℕ → Exp → Tree → Tree → Tree
both_go x e p q = seq (two (assign (x ∷ []) (e ∷ [])) (par (two p q)))

-- where one of two branches outputs on a channel from which the other inputs, the branch in which they meet
abbrev pub meeting : Exp → Waiting → Tree → Exp → Waiting → Tree → Branches → Branches
meeting b (output c e) p b' (input d x) q rest = if c == d then and_branch (operation And b b') ready (both_go x e p q) rest else rest
meeting b (input d x) p b' (output c e) q rest = if d == c then and_branch (operation And b b') ready (both_go x e p q) rest else rest
meeting b (output c e) p b' (output d f) q rest = rest
meeting b (output c e) p b' ready q rest = rest
meeting b (input d x) p b' (input c y) q rest = rest
meeting b (input d x) p b' ready q rest = rest
meeting b ready p b' w q rest = rest

-- one branch of the first ALT with each of the second
abbrev pub meetings_of : Exp → Waiting → Tree → Branches → Branches → Branches
meetings_of b w p no_branch rest = rest
meetings_of b w p (and_branch b' w' q ms) rest = meeting b w p b' w' q (meetings_of b w p ms rest)

-- each branch of the first ALT with each of the second
abbrev pub meetings : Branches → Branches → Branches
meetings no_branch ms = no_branch
meetings (and_branch b w p ls) ms = meetings_of b w p ms (meetings ls ms)

abbrev pub expanded : Branches → Branches → Branches
expanded ls ms = all_branches (first_goes ls (alt ms)) (all_branches (second_goes (alt ls) ms) (meetings ls ms))

-- the PAR of two ALTs = the ALT of all that they can do first: each branch of the first, each of the second, and each pair of
-- branches that communicate
pub data ParExpand : List ℕ → Tree → Tree → Type 0 where
  par_expand : (ls ms : Branches) → ParExpand [] (par (two (alt ls) (alt ms))) (alt (expanded ls ms))

-- the two sides of the law of that number, from 37 to 45
abbrev pub ParallelSides : ℕ → List (Name × Kind) → List ℕ → Tree → Tree → Type 0
ParallelSides n S ks l r =
    MatchBool (n == 37) (ParNone ks l r) (MatchBool (n == 38) (ParOne ks l r) (MatchBool (n == 39) (ParFlat ks l r)
    (MatchBool (n == 40) (ParOrder ks l r) (MatchBool (n == 41) (ParSkip ks l r) (MatchBool (n == 42) (ParStop ks l r)
    (MatchBool (n == 43) (ParAssign ks l r) (MatchBool (n == 44) (ParIf S ks l r) (MatchBool (n == 45) (ParExpand ks l r) ⊥))))))))
