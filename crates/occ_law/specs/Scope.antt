-- The laws of declared variables and channels. After Roscoe and Hoare, "The laws of occam programming" (1988), in this
-- project's own table. Of each law the index has the sizes of the lists in front of the changed place.
use Rattle.std.specs.Prelude.{ℕ, zero, suc, ◌≡◌, ◌+◌, ◌^◌, ◌==◌, Bool, true, false, ◌||◌, ◌⊎◌, List, [], ◌∷◌, Option, None, Some, if◌then◌else◌, MatchBool}
use Rattle.occ_bits.specs.occ_base.declared.names.Name.{Name}
use Rattle.occ_bits.specs.occ_base.declared.width.Width.{Width}
use Rattle.occ_bits.specs.occ_base.declared.width.Width.TheVariants.{Bool as TruthValue, Word}
use Rattle.occ_bits.specs.occ_syntax.declared.scope.Kind.{Kind}
use Rattle.occ_bits.specs.occ_syntax.Names.{free, free_in_branches, free_in_some, free_in_waiting, names, some_names}
use Rattle.occ_bits.specs.occ_syntax.Scopes.{Environment, environment, variable_width}
use Rattle.occ_bits.specs.occ_syntax.Tree.{Exp, variable, numeral, truth, Waiting, ready, input, output, Tree, assign, seq, par, select, alt, declare, connect, Trees, no_tree, and_tree, Cases, no_case, and_case, Branches, no_branch, and_branch}
use Rattle.occ_bits.specs.occ_meaning.Parallel.{two}
use Rattle.occ_bits.specs.occ_meaning.Rename.{renamed, replacing, stands}
use Rattle.occ_law.specs.Lists.{all_branches, assigned_without, conditions, tally, values_without}
use Rattle.occ_law.specs.Choice.{and_skip}

-- ---- declared variables

-- VAR x: P = P, where x isn't free in P
pub data VarUnused : List ℕ → Tree → Tree → Type 0 where
  var_unused : (x : ℕ) (w : Width) (p : Tree) → free p x ≡ false → VarUnused [] (declare x w p) p

-- VAR x: P = VAR y: P with x renamed to y, where y stands neither in P nor in the scope
pub data VarRename (Γ : Environment) : List ℕ → Tree → Tree → Type 0 where
  var_rename : (x y : ℕ) (w : Width) (p : Tree) → stands p y ≡ false → Γ y ≡ None
      → VarRename Γ [] (declare x w p) (declare y w (renamed p (replacing x y)))

-- VAR x: D: P = D: VAR x: P, where D declares a variable or a channel
pub data VarSwap : List ℕ → Tree → Tree → Type 0 where
  swap_variables : (x y : ℕ) (v w : Width) (p : Tree) → VarSwap [] (declare x v (declare y w p)) (declare y w (declare x v p))
  swap_with_channel : (x c : ℕ) (v w : Width) (p : Tree) → VarSwap [] (declare x v (connect c w p)) (connect c w (declare x v p))

-- VAR x: SEQ(P, Q) = SEQ(P, VAR x: Q), where x isn't free in P
pub data VarFirst : List ℕ → Tree → Tree → Type 0 where
  var_first : (x : ℕ) (w : Width) (p q : Tree) → free p x ≡ false → VarFirst [] (declare x w (seq (two p q))) (seq (two p (declare x w q)))

-- VAR x: SEQ(P, Q) = SEQ(VAR x: P, Q), where x isn't free in Q
pub data VarLast : List ℕ → Tree → Tree → Type 0 where
  var_last : (x : ℕ) (w : Width) (p q : Tree) → free q x ≡ false → VarLast [] (declare x w (seq (two p q))) (seq (two (declare x w p) q))

-- the choices, each process under a declared variable
abbrev pub each_case_declaring : ℕ → Width → Cases → Cases
each_case_declaring x w no_case = no_case
each_case_declaring x w (and_case b p cs) = and_case b (declare x w p) (each_case_declaring x w cs)

-- VAR x: IF(b1 P1, .., bn Pn) = IF(b1 VAR x: P1, .., bn VAR x: Pn), where no condition names x
pub data VarIf : List ℕ → Tree → Tree → Type 0 where
  var_if : (x : ℕ) (w : Width) (cs : Cases) → some_names (conditions cs) x ≡ false → VarIf [] (declare x w (select cs)) (select (each_case_declaring x w cs))

-- the branches, each process under a declared variable
abbrev pub each_branch_declaring : ℕ → Width → Branches → Branches
each_branch_declaring x w no_branch = no_branch
each_branch_declaring x w (and_branch b v p gs) = and_branch b v (declare x w p) (each_branch_declaring x w gs)

-- whether some guard names x, in its condition or in what it waits for
abbrev pub some_guard_names : Branches → ℕ → Bool
some_guard_names no_branch x = false
some_guard_names (and_branch b w p gs) x = (names b x || free_in_waiting w x) || some_guard_names gs x

-- VAR x: ALT(gs) = the ALT in which each process P is VAR x: P, where no guard names x
pub data VarAlt : List ℕ → Tree → Tree → Type 0 where
  var_alt : (x : ℕ) (w : Width) (gs : Branches) → some_guard_names gs x ≡ false → VarAlt [] (declare x w (alt gs)) (alt (each_branch_declaring x w gs))

-- VAR z: ALT(gs, b & c ? x P, hs) = VAR z: ALT(gs, b & c ? z SEQ(x := z, P), hs), where x and z differ and have one width, and z
-- isn't free in gs, b, P and hs
pub data VarAltInput (Γ : Environment) : List ℕ → Tree → Tree → Type 0 where
  var_alt_input : (z : ℕ) (w : Width) (gs hs : Branches) (b : Exp) (c x : ℕ) (p : Tree) → x == z ≡ false → variable_width Γ x ≡ Some w
      → free_in_branches gs z ≡ false → names b z ≡ false → free p z ≡ false → free_in_branches hs z ≡ false
      → VarAltInput Γ (tally gs ∷ []) (declare z w (alt (all_branches gs (and_branch b (input c x) p hs))))
      (declare z w (alt (all_branches gs (and_branch b (input c z) (seq (two (assign (x ∷ []) (variable z ∷ [])) p)) hs))))

-- VAR x: PAR(P, Qs) = PAR(VAR x: P, Qs), where x isn't free in Qs
pub data VarPar : List ℕ → Tree → Tree → Type 0 where
  var_par : (x : ℕ) (w : Width) (p : Tree) (qs : Trees) → free_in_some qs x ≡ false
      → VarPar [] (declare x w (par (and_tree p qs))) (par (and_tree (declare x w p) qs))

-- so many words of that width, in order, from one on
abbrev pub words_from : ℕ → ℕ → ℕ → List Exp
words_from bits v zero = []
words_from bits v (suc n) = numeral bits v ∷ words_from bits (v + 1) n

-- all values of a width, in increasing order
abbrev pub values_of : Width → List Exp
values_of TruthValue = truth false ∷ truth true ∷ []
values_of (Word bits) = words_from bits 0 (2 ^ bits)

-- for each value a branch that is ready at once and begins by giving the variable that value
abbrev pub each_value : ℕ → Width → Tree → List Exp → Branches
each_value x w p [] = no_branch
each_value x w p (v ∷ vs) = and_skip (declare x w (seq (two (assign (x ∷ []) (v ∷ [])) p))) (each_value x w p vs)

-- VAR x: P = the ALT that has for each value v of x the branch TRUE & SKIP VAR x: SEQ(x := v, P)
pub data VarAny : List ℕ → Tree → Tree → Type 0 where
  var_any : (x : ℕ) (w : Width) (p : Tree) → VarAny [] (declare x w p) (alt (each_value x w p (values_of w)))

-- VAR x: ys := fs = the assignment of the pairs for the other variables, where no right side of these names x
pub data VarAssign : List ℕ → Tree → Tree → Type 0 where
  var_assign : (x : ℕ) (w : Width) (ys : List ℕ) (fs : List Exp) → some_names (values_without x ys fs) x ≡ false
      → VarAssign [] (declare x w (assign ys fs)) (assigned_without x ys fs)

-- VAR x: SEQ(P, ys := fs) = VAR x: SEQ(P, the assignment of the pairs for the other variables)
pub data VarEnd : List ℕ → Tree → Tree → Type 0 where
  var_end : (x : ℕ) (w : Width) (p : Tree) (ys : List ℕ) (fs : List Exp)
      → VarEnd [] (declare x w (seq (two p (assign ys fs)))) (declare x w (seq (two p (assigned_without x ys fs))))

-- ---- declared channels

-- CHAN c: P = P, where c isn't free in P
pub data ChanUnused : List ℕ → Tree → Tree → Type 0 where
  chan_unused : (c : ℕ) (w : Width) (p : Tree) → free p c ≡ false → ChanUnused [] (connect c w p) p

-- CHAN c: P = CHAN d: P with c renamed to d, where d stands neither in P nor in the scope
pub data ChanRename (Γ : Environment) : List ℕ → Tree → Tree → Type 0 where
  chan_rename : (c d : ℕ) (w : Width) (p : Tree) → stands p d ≡ false → Γ d ≡ None
      → ChanRename Γ [] (connect c w p) (connect d w (renamed p (replacing c d)))

-- CHAN c: CHAN d: P = CHAN d: CHAN c: P
pub data ChanSwap : List ℕ → Tree → Tree → Type 0 where
  chan_swap : (c d : ℕ) (v w : Width) (p : Tree) → ChanSwap [] (connect c v (connect d w p)) (connect d w (connect c v p))

-- CHAN c: SEQ(P, Q) = SEQ(CHAN c: P, CHAN c: Q)
pub data ChanSeq : List ℕ → Tree → Tree → Type 0 where
  chan_seq : (c : ℕ) (w : Width) (p q : Tree) → ChanSeq [] (connect c w (seq (two p q))) (seq (two (connect c w p) (connect c w q)))

-- the choices, each process under a declared channel
abbrev pub each_case_connecting : ℕ → Width → Cases → Cases
each_case_connecting c w no_case = no_case
each_case_connecting c w (and_case b p cs) = and_case b (connect c w p) (each_case_connecting c w cs)

-- CHAN c: IF(b1 P1, .., bn Pn) = IF(b1 CHAN c: P1, .., bn CHAN c: Pn)
pub data ChanIf : List ℕ → Tree → Tree → Type 0 where
  chan_if : (c : ℕ) (w : Width) (cs : Cases) → ChanIf [] (connect c w (select cs)) (select (each_case_connecting c w cs))

-- whether a guard waits for a communication on the channel
abbrev pub is_on : Waiting → ℕ → Bool
is_on ready c = false
is_on (input d x) c = c == d
is_on (output d e) c = c == d

-- the branches whose guard isn't on the channel, each process under the declared channel
abbrev pub without_channel : ℕ → Width → Branches → Branches
without_channel c w no_branch = no_branch
without_channel c w (and_branch b v p gs) = if is_on v c then without_channel c w gs else and_branch b v (connect c w p) (without_channel c w gs)

-- CHAN c: ALT(gs) = the ALT of the branches whose guard isn't on c, each process P under CHAN c
pub data ChanAlt : List ℕ → Tree → Tree → Type 0 where
  chan_alt : (c : ℕ) (w : Width) (gs : Branches) → ChanAlt [] (connect c w (alt gs)) (alt (without_channel c w gs))

-- CHAN c: PAR(P, Qs) = PAR(CHAN c: P, Qs), where c isn't free in Qs
pub data ChanPar : List ℕ → Tree → Tree → Type 0 where
  chan_par : (c : ℕ) (w : Width) (p : Tree) (qs : Trees) → free_in_some qs c ≡ false
      → ChanPar [] (connect c w (par (and_tree p qs))) (par (and_tree (connect c w p) qs))

-- the two sides of the law of that number, from 46 to 63
abbrev pub ScopeSides : ℕ → List (Name × Kind) → List ℕ → Tree → Tree → Type 0
ScopeSides n S ks l r =
    MatchBool (n == 46) (VarUnused ks l r) (MatchBool (n == 47) (VarRename (environment S) ks l r) (MatchBool (n == 48) (VarSwap ks l r)
    (MatchBool (n == 49) (VarFirst ks l r) (MatchBool (n == 50) (VarLast ks l r) (MatchBool (n == 51) (VarIf ks l r)
    (MatchBool (n == 52) (VarAlt ks l r ⊎ VarAltInput (environment S) ks l r) (MatchBool (n == 53) (VarPar ks l r) (MatchBool (n == 54) (VarAny ks l r)
    (MatchBool (n == 55) (VarAssign ks l r) (MatchBool (n == 56) (VarEnd ks l r) (MatchBool (n == 57) (ChanUnused ks l r)
    (MatchBool (n == 58) (ChanRename (environment S) ks l r) (MatchBool (n == 59) (ChanSwap ks l r) (MatchBool (n == 60) (ChanSeq ks l r)
    (MatchBool (n == 61) (ChanIf ks l r) (MatchBool (n == 62) (ChanAlt ks l r) (MatchBool (n == 63) (ChanPar ks l r) ⊥)))))))))))))))))
