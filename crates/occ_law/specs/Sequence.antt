-- The laws of SEQ, of assignment, and of communication as choice. After Roscoe and Hoare, "The laws of occam programming"
-- (1988), in this project's own table. Of each law the index has the sizes of the lists in front of the changed place.
use Rattle.std.specs.Prelude.{ℕ, ◌≡◌, ◌==◌, Bool, true, false, not, ◌&&◌, List, [], ◌∷◌, ◌++◌, map, MatchBool}
use Rattle.occ_bits.specs.occ_base.declared.names.Name.{Name}
use Rattle.occ_bits.specs.occ_syntax.declared.scope.Kind.{Kind}
use Rattle.occ_bits.specs.occ_syntax.Names.{is_in, some_names}
use Rattle.occ_bits.specs.occ_syntax.Tree.{Exp, variable, truth, Waiting, ready, input, output, Tree, skip, stop, assign, receive, send, seq, select, alt, Trees, no_tree, and_tree, Cases, no_case, and_case, Branches, no_branch, and_branch}
use Rattle.occ_bits.specs.occ_meaning.Parallel.{all_of, one, two}
use Rattle.occ_bits.specs.occ_meaning.Substitution.{substituted}
use Rattle.occ_law.specs.Lists.{PairsReordered, assigned_without, names_without, size, values_without, variables}
use Rattle.occ_law.specs.States.{BranchesEqual, CasesEqual, EachEqual, IsEqualAlways}

-- SEQ() = SKIP
pub data SeqNone : List ℕ → Tree → Tree → Type 0 where
  seq_none : SeqNone [] (seq no_tree) skip

-- SEQ(P) = P
pub data SeqOne : List ℕ → Tree → Tree → Type 0 where
  seq_one : (p : Tree) → SeqOne [] (seq (one p)) p

-- SEQ(Ps, SEQ(Qs), Rs) = SEQ(Ps, Qs, Rs)
pub data SeqFlat : List ℕ → Tree → Tree → Type 0 where
  seq_flat : (ps qs rs : Trees) → SeqFlat (size ps ∷ []) (seq (all_of ps (and_tree (seq qs) rs))) (seq (all_of ps (all_of qs rs)))

-- SEQ(Ps, SKIP, Qs) = SEQ(Ps, Qs)
pub data SeqSkip : List ℕ → Tree → Tree → Type 0 where
  seq_skip : (ps qs : Trees) → SeqSkip (size ps ∷ []) (seq (all_of ps (and_tree skip qs))) (seq (all_of ps qs))

-- SEQ(Ps, STOP, Qs) = SEQ(Ps, STOP)
pub data SeqStop : List ℕ → Tree → Tree → Type 0 where
  seq_stop : (ps qs : Trees) → SeqStop (size ps ∷ []) (seq (all_of ps (and_tree stop qs))) (seq (all_of ps (one stop)))

-- xs := xs = SKIP
pub data AssignId : List ℕ → Tree → Tree → Type 0 where
  assign_id : (xs : List ℕ) → AssignId [] (assign xs (variables xs)) skip

-- xs := es = the same pairs in any order
pub data AssignOrder : List ℕ → Tree → Tree → Type 0 where
  assign_order : (xs ys : List ℕ) (es fs : List Exp) → PairsReordered xs es ys fs → AssignOrder [] (assign xs es) (assign ys fs)

-- xs := es = xs, y := es, y, where y isn't in xs
pub data AssignPad : List ℕ → Tree → Tree → Type 0 where
  assign_pad : (xs : List ℕ) (es : List Exp) (y : ℕ) → is_in xs y ≡ false → AssignPad [] (assign xs es) (assign (xs ++ y ∷ []) (es ++ variable y ∷ []))

-- SEQ(xs := es, xs := fs) = xs := fs[es/xs]
pub data AssignJoin : List ℕ → Tree → Tree → Type 0 where
  assign_join : (xs : List ℕ) (es fs : List Exp) → AssignJoin [] (seq (two (assign xs es) (assign xs fs))) (assign xs (map (substituted xs es) fs))

-- the choices of an IF, each behind an assignment
abbrev pub each_assigned : List ℕ → List Exp → Cases → Cases
each_assigned xs es no_case = no_case
each_assigned xs es (and_case b p cs) = and_case (substituted xs es b) (seq (two (assign xs es) p)) (each_assigned xs es cs)

-- SEQ(xs := es, IF(b1 P1, .., bn Pn)) = IF(b1[es/xs] SEQ(xs := es, P1), .., bn[es/xs] SEQ(xs := es, Pn))
pub data AssignIf : List ℕ → Tree → Tree → Type 0 where
  assign_if : (xs : List ℕ) (es : List Exp) (cs : Cases) → AssignIf [] (seq (two (assign xs es) (select cs))) (select (each_assigned xs es cs))

-- a guard behind an assignment: an output's value is taken in the assigned state
abbrev pub substituted_waiting : List ℕ → List Exp → Waiting → Waiting
substituted_waiting xs es ready = ready
substituted_waiting xs es (input c x) = input c x
substituted_waiting xs es (output c e) = output c (substituted xs es e)

-- the assignment that is made up for behind a guard: without the pair for a variable that the guard inputs
abbrev pub assigned_behind : List ℕ → List Exp → Waiting → Tree
assigned_behind xs es ready = assign xs es
assigned_behind xs es (input c x) = assigned_without x xs es
assigned_behind xs es (output c e) = assign xs es

-- the branches of an ALT, each behind an assignment
abbrev pub each_guard_assigned : List ℕ → List Exp → Branches → Branches
each_guard_assigned xs es no_branch = no_branch
each_guard_assigned xs es (and_branch b w p gs) =
    and_branch (substituted xs es b) (substituted_waiting xs es w) (seq (two (assigned_behind xs es w) p)) (each_guard_assigned xs es gs)

-- no right side that is kept behind a guard names a variable that the guard inputs
abbrev pub spares_input : List ℕ → List Exp → Waiting → Bool
spares_input xs es ready = true
spares_input xs es (input c x) = not (some_names (values_without x xs es) x)
spares_input xs es (output c e) = true

abbrev pub spare_inputs : List ℕ → List Exp → Branches → Bool
spare_inputs xs es no_branch = true
spare_inputs xs es (and_branch b w p gs) = spares_input xs es w && spare_inputs xs es gs

-- SEQ(xs := es, ALT(gs)) = the ALT of the branches behind the assignment, where these spare what they input
pub data AssignAlt : List ℕ → Tree → Tree → Type 0 where
  assign_alt : (xs : List ℕ) (es : List Exp) (gs : Branches) → spare_inputs xs es gs ≡ true
      → AssignAlt [] (seq (two (assign xs es) (alt gs))) (alt (each_guard_assigned xs es gs))

-- choices whose processes go on with further parts
abbrev pub each_case_before : Cases → Trees → Cases
each_case_before no_case qs = no_case
each_case_before (and_case b p cs) qs = and_case b (seq (and_tree p qs)) (each_case_before cs qs)

-- branches whose processes go on with further parts
abbrev pub each_branch_before : Branches → Trees → Branches
each_branch_before no_branch qs = no_branch
each_branch_before (and_branch b w p gs) qs = and_branch b w (seq (and_tree p qs)) (each_branch_before gs qs)

-- SEQ(IF(b1 P1, .., bn Pn), Qs) = IF(b1 SEQ(P1, Qs), .., bn SEQ(Pn, Qs))
pub data SeqIf : List ℕ → Tree → Tree → Type 0 where
  seq_if : (cs : Cases) (qs : Trees) → SeqIf [] (seq (and_tree (select cs) qs)) (select (each_case_before cs qs))

-- SEQ(ALT(gs), Qs) = the ALT in which each process P is SEQ(P, Qs)
pub data SeqAlt : List ℕ → Tree → Tree → Type 0 where
  seq_alt : (gs : Branches) (qs : Trees) → SeqAlt [] (seq (and_tree (alt gs) qs)) (alt (each_branch_before gs qs))

-- two assignments, outputs, IFs or ALTs that differ in expressions alone, each equal in every state to the one in its place
pub data ExprEqual (S : List (Name × Kind)) : List ℕ → Tree → Tree → Type 0 where
  expr_in_assignment : (xs : List ℕ) (es fs : List Exp) → EachEqual (IsEqualAlways S) es fs → ExprEqual S [] (assign xs es) (assign xs fs)
  expr_in_output : (c : ℕ) (e f : Exp) → IsEqualAlways S e f → ExprEqual S [] (send c e) (send c f)
  expr_in_if : (cs ds : Cases) → CasesEqual (IsEqualAlways S) cs ds → ExprEqual S [] (select cs) (select ds)
  expr_in_alt : (gs hs : Branches) → BranchesEqual (IsEqualAlways S) gs hs → ExprEqual S [] (alt gs) (alt hs)

-- c ! e = ALT(c ! e SKIP), and c ? x = ALT(c ? x SKIP)
pub data IoAlt : List ℕ → Tree → Tree → Type 0 where
  output_alt : (c : ℕ) (e : Exp) → IoAlt [] (send c e) (alt (and_branch (truth true) (output c e) skip no_branch))
  input_alt : (c x : ℕ) → IoAlt [] (receive c x) (alt (and_branch (truth true) (input c x) skip no_branch))

-- the two sides of the law of that number, from 1 to 15
abbrev pub SequenceSides : ℕ → List (Name × Kind) → List ℕ → Tree → Tree → Type 0
SequenceSides n S ks l r =
    MatchBool (n == 1) (SeqNone ks l r) (MatchBool (n == 2) (SeqOne ks l r) (MatchBool (n == 3) (SeqFlat ks l r)
    (MatchBool (n == 4) (SeqSkip ks l r) (MatchBool (n == 5) (SeqStop ks l r) (MatchBool (n == 6) (AssignId ks l r)
    (MatchBool (n == 7) (AssignOrder ks l r) (MatchBool (n == 8) (AssignPad ks l r) (MatchBool (n == 9) (AssignJoin ks l r)
    (MatchBool (n == 10) (AssignIf ks l r) (MatchBool (n == 11) (AssignAlt ks l r) (MatchBool (n == 12) (SeqIf ks l r)
    (MatchBool (n == 13) (SeqAlt ks l r) (MatchBool (n == 14) (ExprEqual S ks l r) (MatchBool (n == 15) (IoAlt ks l r) ⊥))))))))))))))
