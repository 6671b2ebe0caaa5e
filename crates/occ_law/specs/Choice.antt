-- The laws of IF and of ALT. After Roscoe and Hoare, "The laws of occam programming" (1988), in this project's own table.
-- Of each law the index has the sizes of the lists in front of the changed place.
use Rattle.std.specs.Prelude.{ℕ, ◌≡◌, ◌==◌, Bool, true, false, ◌&&◌, ◌||◌, List, [], ◌∷◌, MatchBool}
use Rattle.occ_bits.specs.occ_base.declared.names.Name.{Name}
use Rattle.occ_bits.specs.occ_syntax.declared.expr.Op.TheVariants.{And, Or}
use Rattle.occ_bits.specs.occ_syntax.declared.scope.Kind.{Kind}
use Rattle.occ_bits.specs.occ_syntax.Scopes.{environment}
use Rattle.occ_bits.specs.occ_syntax.Tree.{Exp, variable, numeral, truth, negation, complement, operation, Waiting, ready, input, output, Tree, stop, assign, seq, select, alt, Trees, and_tree, Cases, no_case, and_case, Branches, no_branch, and_branch}
use Rattle.occ_law.specs.Lists.{BranchesReordered, all_branches, all_cases, conditions, count, tally}
use Rattle.occ_law.specs.States.{AreFew, BranchesEqual, EachEqual, ExcludeEachOther, IsAlways, IsEqualWhere, IsExhaustive, IsNever}

-- ---- IF

-- IF() = STOP
pub data IfNone : List ℕ → Tree → Tree → Type 0 where
  if_none : IfNone [] (select no_case) stop

-- IF(cs, b P, ds) = IF(cs, ds), where b is FALSE in every state
pub data IfFalse (S : List (Name × Kind)) : List ℕ → Tree → Tree → Type 0 where
  if_false : (cs ds : Cases) (b : Exp) (p : Tree) → AreFew S (b ∷ []) → IsNever (environment S) b
      → IfFalse S (count cs ∷ []) (select (all_cases cs (and_case b p ds))) (select (all_cases cs ds))

-- IF(b P, ds) = P, where b is TRUE in every state
pub data IfTrue (S : List (Name × Kind)) : List ℕ → Tree → Tree → Type 0 where
  if_true : (b : Exp) (p : Tree) (ds : Cases) → AreFew S (b ∷ []) → IsAlways (environment S) b → IfTrue S [] (select (and_case b p ds)) p

-- IF(cs, TRUE STOP) = IF(cs)
pub data IfElseStop : List ℕ → Tree → Tree → Type 0 where
  if_else_stop : (cs : Cases) → IfElseStop (count cs ∷ []) (select (all_cases cs (and_case (truth true) stop no_case))) (select cs)

-- IF(cs, ds) = IF(cs), where in every state some condition of cs is TRUE
pub data IfCut (S : List (Name × Kind)) : List ℕ → Tree → Tree → Type 0 where
  if_cut : (cs ds : Cases) → AreFew S (conditions cs) → IsExhaustive (environment S) (conditions cs)
      → IfCut S (count cs ∷ []) (select (all_cases cs ds)) (select cs)

-- the choices, each asking for b as well
abbrev pub each_case_under : Exp → Cases → Cases
each_case_under b no_case = no_case
each_case_under b (and_case c p cs) = and_case (operation And b c) p (each_case_under b cs)

-- IF(cs, b IF(b1 P1, .., bn Pn), ds) = IF(cs, b AND b1 P1, .., b AND bn Pn, b STOP, ds)
pub data IfNest : List ℕ → Tree → Tree → Type 0 where
  if_nest : (cs es ds : Cases) (b : Exp) → IfNest (count cs ∷ []) (select (all_cases cs (and_case b (select es) ds)))
      (select (all_cases cs (all_cases (each_case_under b es) (and_case b stop ds))))

-- IF(cs, b P, b' Q, ds) = IF(cs, b' Q, b P, ds), where b and b' are TRUE together in no state
pub data IfSwap (S : List (Name × Kind)) : List ℕ → Tree → Tree → Type 0 where
  if_swap : (cs ds : Cases) (b c : Exp) (p q : Tree) → AreFew S (b ∷ c ∷ []) → ExcludeEachOther (environment S) b c
      → IfSwap S (count cs ∷ []) (select (all_cases cs (and_case b p (and_case c q ds)))) (select (all_cases cs (and_case c q (and_case b p ds))))

-- IF(cs, b P, b' P, ds) = IF(cs, b OR b' P, ds)
pub data IfMerge : List ℕ → Tree → Tree → Type 0 where
  if_merge : (cs ds : Cases) (b c : Exp) (p : Tree)
      → IfMerge (count cs ∷ []) (select (all_cases cs (and_case b p (and_case c p ds)))) (select (all_cases cs (and_case (operation Or b c) p ds)))

-- a choice of one process for each condition
abbrev pub copies : List Exp → Tree → Cases
copies [] p = no_case
copies (b ∷ bs) p = and_case b p (copies bs p)

-- P = IF(b1 P, .., bn P), where in every state some condition is TRUE
pub data IfCopy (S : List (Name × Kind)) : List ℕ → Tree → Tree → Type 0 where
  if_copy : (p : Tree) (bs : List Exp) → AreFew S bs → IsExhaustive (environment S) bs → IfCopy S [] p (select (copies bs p))

-- IF(cs, b P, ds) = IF(cs, b Q, ds), where P and Q are two assignments, two SEQs that begin with assignments and are equal
-- behind them, or two ALTs. They differ in the right sides of these assignments alone, or in the guards' conditions and
-- values; and expressions in one place are equal in every state in which b is TRUE and all conditions of cs are FALSE.
pub data IfUnder (S : List (Name × Kind)) : List ℕ → Tree → Tree → Type 0 where
  under_assignment : (cs ds : Cases) (b : Exp) (xs : List ℕ) (es fs : List Exp) → EachEqual (IsEqualWhere S b (conditions cs)) es fs
      → IfUnder S (count cs ∷ []) (select (all_cases cs (and_case b (assign xs es) ds))) (select (all_cases cs (and_case b (assign xs fs) ds)))
  under_seq : (cs ds : Cases) (b : Exp) (xs : List ℕ) (es fs : List Exp) (ps : Trees) → EachEqual (IsEqualWhere S b (conditions cs)) es fs
      → IfUnder S (count cs ∷ []) (select (all_cases cs (and_case b (seq (and_tree (assign xs es) ps)) ds)))
      (select (all_cases cs (and_case b (seq (and_tree (assign xs fs) ps)) ds)))
  under_alt : (cs ds : Cases) (b : Exp) (gs hs : Branches) → BranchesEqual (IsEqualWhere S b (conditions cs)) gs hs
      → IfUnder S (count cs ∷ []) (select (all_cases cs (and_case b (alt gs) ds))) (select (all_cases cs (and_case b (alt hs) ds)))

-- ---- ALT

-- ALT() = STOP
pub data AltNone : List ℕ → Tree → Tree → Type 0 where
  alt_none : AltNone [] (alt no_branch) stop

-- an ALT = the same branches in any order
pub data AltOrder : List ℕ → Tree → Tree → Type 0 where
  alt_order : (gs hs : Branches) → BranchesReordered gs hs → AltOrder [] (alt gs) (alt hs)

-- ALT(gs, B, hs) = ALT(gs, hs), where the condition of B is FALSE in every state
pub data AltFalse (S : List (Name × Kind)) : List ℕ → Tree → Tree → Type 0 where
  alt_false : (gs hs : Branches) (b : Exp) (w : Waiting) (p : Tree) → AreFew S (b ∷ []) → IsNever (environment S) b
      → AltFalse S (tally gs ∷ []) (alt (all_branches gs (and_branch b w p hs))) (alt (all_branches gs hs))

-- ALT(gs, B, hs, B, ks) = ALT(gs, B, hs, ks)
pub data AltTwice : List ℕ → Tree → Tree → Type 0 where
  alt_twice : (gs hs ks : Branches) (b : Exp) (w : Waiting) (p : Tree)
      → AltTwice (tally gs ∷ tally hs ∷ []) (alt (all_branches gs (and_branch b w p (all_branches hs (and_branch b w p ks)))))
      (alt (all_branches gs (and_branch b w p (all_branches hs ks))))

-- a branch with the guard TRUE & SKIP, in front of others
abbrev pub and_skip : Tree → Branches → Branches
and_skip p gs = and_branch (truth true) ready p gs

-- ALT(TRUE & SKIP P) = P
pub data AltSkip : List ℕ → Tree → Tree → Type 0 where
  alt_skip : (p : Tree) → AltSkip [] (alt (and_skip p no_branch)) p

-- ALT(gs, B, hs) = IF(b ALT(gs, B', hs), TRUE ALT(gs, hs)), where b is the condition of B, and B' is B with the condition TRUE
pub data AltCase : List ℕ → Tree → Tree → Type 0 where
  alt_case : (gs hs : Branches) (b : Exp) (w : Waiting) (p : Tree) → AltCase (tally gs ∷ []) (alt (all_branches gs (and_branch b w p hs)))
      (select (and_case b (alt (all_branches gs (and_branch (truth true) w p hs))) (and_case (truth true) (alt (all_branches gs hs)) no_case)))

-- whether a condition is TRUE, as it is written
abbrev pub is_plain : Exp → Bool
is_plain (variable x) = false
is_plain (numeral bits value) = false
is_plain (truth b) = b
is_plain (negation e) = false
is_plain (complement e) = false
is_plain (operation op left right) = false

-- whether a guard waits for an input or an output
abbrev pub is_event : Waiting → Bool
is_event ready = false
is_event (input c x) = true
is_event (output c e) = true

abbrev pub is_ready : Waiting → Bool
is_ready ready = true
is_ready (input c x) = false
is_ready (output c e) = false

-- some branch has the guard TRUE & SKIP
abbrev pub has_skip : Branches → Bool
has_skip no_branch = false
has_skip (and_branch b w p gs) = (is_plain b && is_ready w) || has_skip gs

-- every branch waits for an input or an output
abbrev pub are_events : Branches → Bool
are_events no_branch = true
are_events (and_branch b w p gs) = is_event w && are_events gs

-- and its condition is TRUE
abbrev pub are_plain_events : Branches → Bool
are_plain_events no_branch = true
are_plain_events (and_branch b w p gs) = is_plain b && is_event w && are_plain_events gs

-- ALT(gs, TRUE & SKIP ALT(hs), ks) = ALT(gs, hs, ks), where hs has a branch with the guard TRUE & SKIP
pub data AltFlat : List ℕ → Tree → Tree → Type 0 where
  alt_flat : (gs hs ks : Branches) → has_skip hs ≡ true
      → AltFlat (tally gs ∷ []) (alt (all_branches gs (and_skip (alt hs) ks))) (alt (all_branches gs (all_branches hs ks)))

-- ALT(gs, TRUE & g P, TRUE & SKIP ALT(TRUE & g Q, hs), ks) = ALT(gs, TRUE & SKIP ALT(TRUE & g P, TRUE & g Q, hs), ks)
pub data AltSplit : List ℕ → Tree → Tree → Type 0 where
  alt_split : (gs hs ks : Branches) (g : Waiting) (p q : Tree) → is_event g ≡ true → AltSplit (tally gs ∷ [])
      (alt (all_branches gs (and_branch (truth true) g p (and_skip (alt (and_branch (truth true) g q hs)) ks))))
      (alt (all_branches gs (and_skip (alt (and_branch (truth true) g p (and_branch (truth true) g q hs))) ks)))

-- ALT(gs, b & g P, hs, b & g Q, ks) = ALT(gs, b & g ALT(TRUE & SKIP P, TRUE & SKIP Q), hs, ks)
pub data AltSame : List ℕ → Tree → Tree → Type 0 where
  alt_same : (gs hs ks : Branches) (b : Exp) (g : Waiting) (p q : Tree) → is_event g ≡ true → AltSame (tally gs ∷ tally hs ∷ [])
      (alt (all_branches gs (and_branch b g p (all_branches hs (and_branch b g q ks)))))
      (alt (all_branches gs (and_branch b g (alt (and_skip p (and_skip q no_branch))) (all_branches hs ks))))

-- ALT(gs, TRUE & SKIP ALT(gs, hs)) = ALT(gs, hs), where gs has event guards alone
pub data AltSlide : List ℕ → Tree → Tree → Type 0 where
  alt_slide : (gs hs : Branches) → are_events gs ≡ true
      → AltSlide (tally gs ∷ []) (alt (all_branches gs (and_skip (alt (all_branches gs hs)) no_branch))) (alt (all_branches gs hs))

-- ALT(TRUE & SKIP ALT(gs), TRUE & SKIP ALT(gs, hs)) = ALT(hs, TRUE & SKIP ALT(gs)), event guards with TRUE alone
pub data AltLeast : List ℕ → Tree → Tree → Type 0 where
  alt_least : (gs hs : Branches) → are_plain_events gs ≡ true → are_plain_events hs ≡ true → AltLeast []
      (alt (and_skip (alt gs) (and_skip (alt (all_branches gs hs)) no_branch))) (alt (all_branches hs (and_skip (alt gs) no_branch)))

-- the two sides of the law of that number, from 16 to 36
abbrev pub ChoiceSides : ℕ → List (Name × Kind) → List ℕ → Tree → Tree → Type 0
ChoiceSides n S ks l r =
    MatchBool (n == 16) (IfNone ks l r) (MatchBool (n == 17) (IfFalse S ks l r) (MatchBool (n == 18) (IfTrue S ks l r)
    (MatchBool (n == 19) (IfElseStop ks l r) (MatchBool (n == 20) (IfCut S ks l r) (MatchBool (n == 21) (IfNest ks l r)
    (MatchBool (n == 22) (IfSwap S ks l r) (MatchBool (n == 23) (IfMerge ks l r) (MatchBool (n == 24) (IfCopy S ks l r)
    (MatchBool (n == 25) (IfUnder S ks l r) (MatchBool (n == 26) (AltNone ks l r) (MatchBool (n == 27) (AltOrder ks l r)
    (MatchBool (n == 28) (AltFalse S ks l r) (MatchBool (n == 29) (AltTwice ks l r) (MatchBool (n == 30) (AltSkip ks l r)
    (MatchBool (n == 31) (AltCase ks l r) (MatchBool (n == 32) (AltFlat ks l r) (MatchBool (n == 33) (AltSplit ks l r)
    (MatchBool (n == 34) (AltSame ks l r) (MatchBool (n == 35) (AltSlide ks l r) (MatchBool (n == 36) (AltLeast ks l r) ⊥))))))))))))))))))))
