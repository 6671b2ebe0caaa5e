-- A law's direct result declares no name that its left side doesn't declare.
use Rattle.std.proofs.Common.{◌≡◌, ℕ, ◌==◌, nat_le, Bool, true, false, true≢false, cond, ◌&&◌, List, [], ◌∷◌, MatchBool, refl, sym, ap, ◌∙◌}
use Rattle.std.proofs.lemmas.Bool.{and_parts, and_from, eqb-true}
use Rattle.occ_engine.specs.occ_base.declared.names.Name.{Name}
use Rattle.occ_engine.specs.occ_base.declared.width.Width.{Width}
use Rattle.occ_engine.specs.occ_law.Choice.{AltCase, AltFalse, AltFlat, AltLeast, AltNone, AltSame, AltSkip, AltSlide, AltSplit, AltTwice, ChoiceSides, IfCut, IfElseStop, IfFalse, IfMerge, IfNest, IfNone, IfSwap, IfTrue, alt_case, alt_false, alt_flat, alt_least, alt_none, alt_same, alt_skip, alt_slide, alt_split, alt_twice, and_skip, each_case_under, if_cut, if_else_stop, if_false, if_merge, if_nest, if_none, if_swap, if_true}
use Rattle.occ_engine.specs.occ_law.Lists.{all_branches, all_cases, assigned_without, assignment, names_without, values_without}
use Rattle.occ_engine.specs.occ_law.Parallel.{ParAssign, ParExpand, ParFlat, ParIf, ParNone, ParOne, ParSkip, ParStop, ParallelSides, both_go, each_case_beside, first_goes, meeting, meetings, meetings_of, par_assign, par_expand, par_flat, par_if, par_none, par_one, par_skip, par_stop, second_goes}
use Rattle.occ_engine.specs.occ_law.Scope.{ChanAlt, ChanIf, ChanPar, ChanSeq, ChanSwap, ChanUnused, ScopeSides, VarAlt, VarAny, VarAssign, VarEnd, VarFirst, VarIf, VarLast, VarPar, VarSwap, VarUnused, chan_alt, chan_if, chan_par, chan_seq, chan_swap, chan_unused, each_branch_declaring, each_case_connecting, each_case_declaring, each_value, is_on, swap_variables, swap_with_channel, values_of, var_alt, var_any, var_assign, var_end, var_first, var_if, var_last, var_par, var_unused, without_channel}
use Rattle.occ_engine.specs.occ_law.Sequence.{AssignAlt, AssignId, AssignIf, AssignJoin, IoAlt, SeqAlt, SeqFlat, SeqIf, SeqNone, SeqOne, SeqSkip, SeqStop, SequenceSides, assign_alt, assign_id, assign_if, assign_join, assigned_behind, each_assigned, each_branch_before, each_case_before, each_guard_assigned, input_alt, output_alt, seq_alt, seq_flat, seq_if, seq_none, seq_one, seq_skip, seq_stop}
use Rattle.occ_engine.specs.occ_law.RuleTable.{IsDirect, SIDES, has_direct}
use Rattle.occ_engine.proofs.from_meaning.Facts.{either}
use Rattle.occ_engine.specs.occ_meaning.Parallel.{all_of, one, two}
use Rattle.occ_engine.specs.occ_parse.Known.{all_declare, branches_declare, cases_declare, declares}
use Rattle.occ_engine.specs.occ_syntax.declared.scope.Kind.{Kind}
use Rattle.occ_engine.specs.occ_syntax.Tree.{Exp, Waiting, ready, input, output, Tree, skip, stop, assign, seq, par, select, alt, declare, connect, Trees, no_tree, and_tree, Cases, no_case, and_case, Branches, no_branch, and_branch}

-- a law that has no direct result is passed over
passed : (P : Type 0) (b : Bool) {Q R : Type 0} → (b ≡ true → ⊥) → (Q → R) → MatchBool b P Q → R
passed P true f g h = absurd (f refl)
passed P false f g h = g h

not_direct : (k n : ℕ) → has_direct k ≡ false → has_direct n ≡ true → (n == k) ≡ true → ⊥
not_direct k n f d e = true≢false (sym d ∙ ap has_direct (eqb-true n k e) ∙ f)

module _ (test : ℕ → Bool) where
  -- each declared name passes the test
  abbrev Pass : Tree → Type 0
  Pass p = declares test p ≡ true

  abbrev AllPass : Trees → Type 0
  AllPass ps = all_declare test ps ≡ true

  abbrev CasesPass : Cases → Type 0
  CasesPass cs = cases_declare test cs ≡ true

  abbrev BranchesPass : Branches → Type 0
  BranchesPass gs = branches_declare test gs ≡ true

  -- ---- lists cut and joined

  abbrev Both : Bool → Bool → Type 0
  Both a b = (a ≡ true) × (b ≡ true)

  cut : (a b : Bool) → (a && b) ≡ true → Both a b
  cut a b h = and_parts a b h

  joined : (a b : Bool) → a ≡ true → b ≡ true → (a && b) ≡ true
  joined a b h k = and_from a b h k

  cut_trees : (ps qs : Trees) → AllPass (all_of ps qs) → Both (all_declare test ps) (all_declare test qs)
  cut_trees no_tree qs h = (refl, h)
  cut_trees (and_tree p ps) qs h =
      let a = cut (declares test p) (all_declare test (all_of ps qs)) h in
      let b = cut_trees ps qs a.1 in
      (joined (declares test p) (all_declare test ps) a.0 b.0, b.1)

  join_trees : (ps qs : Trees) → AllPass ps → AllPass qs → AllPass (all_of ps qs)
  join_trees no_tree qs h k = k
  join_trees (and_tree p ps) qs h k =
      let a = cut (declares test p) (all_declare test ps) h in
      joined (declares test p) (all_declare test (all_of ps qs)) a.0 (join_trees ps qs a.1 k)

  cut_cases : (cs ds : Cases) → CasesPass (all_cases cs ds) → Both (cases_declare test cs) (cases_declare test ds)
  cut_cases no_case ds h = (refl, h)
  cut_cases (and_case b p cs) ds h =
      let a = cut (declares test p) (cases_declare test (all_cases cs ds)) h in
      let r = cut_cases cs ds a.1 in
      (joined (declares test p) (cases_declare test cs) a.0 r.0, r.1)

  join_cases : (cs ds : Cases) → CasesPass cs → CasesPass ds → CasesPass (all_cases cs ds)
  join_cases no_case ds h k = k
  join_cases (and_case b p cs) ds h k =
      let a = cut (declares test p) (cases_declare test cs) h in
      joined (declares test p) (cases_declare test (all_cases cs ds)) a.0 (join_cases cs ds a.1 k)

  cut_branches : (gs hs : Branches) → BranchesPass (all_branches gs hs) → Both (branches_declare test gs) (branches_declare test hs)
  cut_branches no_branch hs h = (refl, h)
  cut_branches (and_branch b w p gs) hs h =
      let a = cut (declares test p) (branches_declare test (all_branches gs hs)) h in
      let r = cut_branches gs hs a.1 in
      (joined (declares test p) (branches_declare test gs) a.0 r.0, r.1)

  join_branches : (gs hs : Branches) → BranchesPass gs → BranchesPass hs → BranchesPass (all_branches gs hs)
  join_branches no_branch hs h k = k
  join_branches (and_branch b w p gs) hs h k =
      let a = cut (declares test p) (branches_declare test gs) h in
      joined (declares test p) (branches_declare test (all_branches gs hs)) a.0 (join_branches gs hs a.1 k)

  -- one part, and two

  cut_one : (p : Tree) → AllPass (one p) → Pass p
  cut_one p h = (cut (declares test p) true h).0

  join_one : (p : Tree) → Pass p → AllPass (one p)
  join_one p h = joined (declares test p) true h refl

  cut_two : (p q : Tree) → AllPass (two p q) → Both (declares test p) (declares test q)
  cut_two p q h = let a = cut (declares test p) (all_declare test (one q)) h in (a.0, cut_one q a.1)

  join_two : (p q : Tree) → Pass p → Pass q → AllPass (two p q)
  join_two p q h k = joined (declares test p) (all_declare test (one q)) h (join_one q k)

  -- ---- the laws of SEQ, of assignment, and of communication as choice

  seq_none_pass : (ks : List ℕ) (l r : Tree) → SeqNone ks l r → Pass l → Pass r
  seq_none_pass ks l r seq_none h = refl

  seq_one_pass : (ks : List ℕ) (l r : Tree) → SeqOne ks l r → Pass l → Pass r
  seq_one_pass ks l r (seq_one p) h = cut_one p h

  seq_flat_pass : (ks : List ℕ) (l r : Tree) → SeqFlat ks l r → Pass l → Pass r
  seq_flat_pass ks l r (seq_flat ps qs rs) h =
      let a = cut_trees ps (and_tree (seq qs) rs) h in
      let b = cut (all_declare test qs) (all_declare test rs) a.1 in
      join_trees ps (all_of qs rs) a.0 (join_trees qs rs b.0 b.1)

  seq_skip_pass : (ks : List ℕ) (l r : Tree) → SeqSkip ks l r → Pass l → Pass r
  seq_skip_pass ks l r (seq_skip ps qs) h = let a = cut_trees ps (and_tree skip qs) h in join_trees ps qs a.0 a.1

  seq_stop_pass : (ks : List ℕ) (l r : Tree) → SeqStop ks l r → Pass l → Pass r
  seq_stop_pass ks l r (seq_stop ps qs) h = join_trees ps (one stop) (cut_trees ps (and_tree stop qs) h).0 refl

  assign_id_pass : (ks : List ℕ) (l r : Tree) → AssignId ks l r → Pass l → Pass r
  assign_id_pass ks l r (assign_id xs) h = refl

  assign_join_pass : (ks : List ℕ) (l r : Tree) → AssignJoin ks l r → Pass l → Pass r
  assign_join_pass ks l r (assign_join xs es fs) h = refl

  assigned_pass : (xs : List ℕ) (es : List Exp) (cs : Cases) → CasesPass cs → CasesPass (each_assigned xs es cs)
  assigned_pass xs es no_case h = refl
  assigned_pass xs es (and_case b p cs) h =
      let a = cut (declares test p) (cases_declare test cs) h in
      joined (all_declare test (one p)) (cases_declare test (each_assigned xs es cs)) (join_one p a.0) (assigned_pass xs es cs a.1)

  assign_if_pass : (ks : List ℕ) (l r : Tree) → AssignIf ks l r → Pass l → Pass r
  assign_if_pass ks l r (assign_if xs es cs) h = assigned_pass xs es cs (cut_one (select cs) h)

  assignment_pass : (xs : List ℕ) (es : List Exp) → Pass (assignment xs es)
  assignment_pass [] es = refl
  assignment_pass (x ∷ xs) es = refl

  behind_pass : (xs : List ℕ) (es : List Exp) (w : Waiting) → Pass (assigned_behind xs es w)
  behind_pass xs es ready = refl
  behind_pass xs es (input c x) = assignment_pass (names_without x xs) (values_without x xs es)
  behind_pass xs es (output c e) = refl

  guards_pass : (xs : List ℕ) (es : List Exp) (gs : Branches) → BranchesPass gs → BranchesPass (each_guard_assigned xs es gs)
  guards_pass xs es no_branch h = refl
  guards_pass xs es (and_branch b w p gs) h =
      let a = cut (declares test p) (branches_declare test gs) h in
      joined (all_declare test (two (assigned_behind xs es w) p)) (branches_declare test (each_guard_assigned xs es gs))
      (join_two (assigned_behind xs es w) p (behind_pass xs es w) a.0) (guards_pass xs es gs a.1)

  assign_alt_pass : (ks : List ℕ) (l r : Tree) → AssignAlt ks l r → Pass l → Pass r
  assign_alt_pass ks l r (assign_alt xs es gs spared) h = guards_pass xs es gs (cut_one (alt gs) h)

  cases_before_pass : (cs : Cases) (qs : Trees) → CasesPass cs → AllPass qs → CasesPass (each_case_before cs qs)
  cases_before_pass no_case qs h k = refl
  cases_before_pass (and_case b p cs) qs h k =
      let a = cut (declares test p) (cases_declare test cs) h in
      joined (all_declare test (and_tree p qs)) (cases_declare test (each_case_before cs qs))
      (joined (declares test p) (all_declare test qs) a.0 k) (cases_before_pass cs qs a.1 k)

  seq_if_pass : (ks : List ℕ) (l r : Tree) → SeqIf ks l r → Pass l → Pass r
  seq_if_pass ks l r (seq_if cs qs) h = let a = cut (cases_declare test cs) (all_declare test qs) h in cases_before_pass cs qs a.0 a.1

  branches_before_pass : (gs : Branches) (qs : Trees) → BranchesPass gs → AllPass qs → BranchesPass (each_branch_before gs qs)
  branches_before_pass no_branch qs h k = refl
  branches_before_pass (and_branch b w p gs) qs h k =
      let a = cut (declares test p) (branches_declare test gs) h in
      joined (all_declare test (and_tree p qs)) (branches_declare test (each_branch_before gs qs))
      (joined (declares test p) (all_declare test qs) a.0 k)
      (branches_before_pass gs qs a.1 k)

  seq_alt_pass : (ks : List ℕ) (l r : Tree) → SeqAlt ks l r → Pass l → Pass r
  seq_alt_pass ks l r (seq_alt gs qs) h =
      let a = cut (branches_declare test gs) (all_declare test qs) h in branches_before_pass gs qs a.0 a.1

  io_alt_pass : (ks : List ℕ) (l r : Tree) → IoAlt ks l r → Pass l → Pass r
  io_alt_pass ks l r (output_alt c e) h = refl
  io_alt_pass ks l r (input_alt c x) h = refl

  sequence_pass : (n : ℕ) (S : List (Name × Kind)) (ks : List ℕ) (l r : Tree) → has_direct n ≡ true → SequenceSides n S ks l r → Pass l
      → Pass r
  sequence_pass n S ks l r d =
      either (n == 1) (seq_none_pass ks l r) (either (n == 2) (seq_one_pass ks l r) (either (n == 3) (seq_flat_pass ks l r)
      (either (n == 4) (seq_skip_pass ks l r) (either (n == 5) (seq_stop_pass ks l r) (either (n == 6) (assign_id_pass ks l r)
      (passed _ (n == 7) (not_direct 7 n refl d) (passed _ (n == 8) (not_direct 8 n refl d) (either (n == 9) (assign_join_pass ks l r)
      (either (n == 10) (assign_if_pass ks l r) (either (n == 11) (assign_alt_pass ks l r) (either (n == 12) (seq_if_pass ks l r)
      (either (n == 13) (seq_alt_pass ks l r) (passed _ (n == 14) (not_direct 14 n refl d)
      (either (n == 15) (io_alt_pass ks l r) (λ z. absurd z)))))))))))))))

  -- ---- the laws of IF and of ALT

  if_none_pass : (ks : List ℕ) (l r : Tree) → IfNone ks l r → Pass l → Pass r
  if_none_pass ks l r if_none h = refl

  if_false_pass : (S : List (Name × Kind)) (ks : List ℕ) (l r : Tree) → IfFalse S ks l r → Pass l → Pass r
  if_false_pass S ks l r (if_false cs ds b p few never) h =
      let a = cut_cases cs (and_case b p ds) h in
      join_cases cs ds a.0 (cut (declares test p) (cases_declare test ds) a.1).1

  if_true_pass : (S : List (Name × Kind)) (ks : List ℕ) (l r : Tree) → IfTrue S ks l r → Pass l → Pass r
  if_true_pass S ks l r (if_true b p ds few always) h = (cut (declares test p) (cases_declare test ds) h).0

  if_else_stop_pass : (ks : List ℕ) (l r : Tree) → IfElseStop ks l r → Pass l → Pass r
  if_else_stop_pass ks l r (if_else_stop cs) h = (cut_cases cs (and_case _ stop no_case) h).0

  if_cut_pass : (S : List (Name × Kind)) (ks : List ℕ) (l r : Tree) → IfCut S ks l r → Pass l → Pass r
  if_cut_pass S ks l r (if_cut cs ds few every) h = (cut_cases cs ds h).0

  under_pass : (b : Exp) (cs : Cases) → CasesPass cs → CasesPass (each_case_under b cs)
  under_pass b no_case h = refl
  under_pass b (and_case c p cs) h =
      let a = cut (declares test p) (cases_declare test cs) h in
      joined (declares test p) (cases_declare test (each_case_under b cs)) a.0 (under_pass b cs a.1)

  if_nest_pass : (ks : List ℕ) (l r : Tree) → IfNest ks l r → Pass l → Pass r
  if_nest_pass ks l r (if_nest cs es ds b) h =
      let a = cut_cases cs (and_case b (select es) ds) h in
      let k = cut (cases_declare test es) (cases_declare test ds) a.1 in
      join_cases cs (all_cases (each_case_under b es) (and_case b stop ds)) a.0
      (join_cases (each_case_under b es) (and_case b stop ds) (under_pass b es k.0) k.1)

  if_swap_pass : (S : List (Name × Kind)) (ks : List ℕ) (l r : Tree) → IfSwap S ks l r → Pass l → Pass r
  if_swap_pass S ks l r (if_swap cs ds b c p q few exclude) h =
      let a = cut_cases cs (and_case b p (and_case c q ds)) h in
      let k = cut (declares test p) (declares test q && cases_declare test ds) a.1 in
      let m = cut (declares test q) (cases_declare test ds) k.1 in
      join_cases cs (and_case c q (and_case b p ds)) a.0
      (joined (declares test q) (declares test p && cases_declare test ds) m.0 (joined (declares test p) (cases_declare test ds) k.0 m.1))

  if_merge_pass : (ks : List ℕ) (l r : Tree) → IfMerge ks l r → Pass l → Pass r
  if_merge_pass ks l r (if_merge cs ds b c p) h =
      let a = cut_cases cs (and_case b p (and_case c p ds)) h in
      join_cases cs (and_case _ p ds) a.0 (cut (declares test p) (declares test p && cases_declare test ds) a.1).1

  alt_none_pass : (ks : List ℕ) (l r : Tree) → AltNone ks l r → Pass l → Pass r
  alt_none_pass ks l r alt_none h = refl

  alt_false_pass : (S : List (Name × Kind)) (ks : List ℕ) (l r : Tree) → AltFalse S ks l r → Pass l → Pass r
  alt_false_pass S ks l r (alt_false gs hs b w p few never) h =
      let a = cut_branches gs (and_branch b w p hs) h in
      join_branches gs hs a.0 (cut (declares test p) (branches_declare test hs) a.1).1

  alt_twice_pass : (ks : List ℕ) (l r : Tree) → AltTwice ks l r → Pass l → Pass r
  alt_twice_pass places l r (alt_twice gs hs ks b w p) h =
      let a = cut_branches gs (and_branch b w p (all_branches hs (and_branch b w p ks))) h in
      let k = cut (declares test p) (branches_declare test (all_branches hs (and_branch b w p ks))) a.1 in
      let m = cut_branches hs (and_branch b w p ks) k.1 in
      join_branches gs (and_branch b w p (all_branches hs ks)) a.0
      (joined (declares test p) (branches_declare test (all_branches hs ks)) k.0
      (join_branches hs ks m.0 (cut (declares test p) (branches_declare test ks) m.1).1))

  alt_skip_pass : (ks : List ℕ) (l r : Tree) → AltSkip ks l r → Pass l → Pass r
  alt_skip_pass ks l r (alt_skip p) h = (cut (declares test p) true h).0

  alt_case_pass : (ks : List ℕ) (l r : Tree) → AltCase ks l r → Pass l → Pass r
  alt_case_pass ks l r (alt_case gs hs b w p) h =
      let a = cut_branches gs (and_branch b w p hs) h in
      let k = cut (declares test p) (branches_declare test hs) a.1 in
      let without = branches_declare test (all_branches gs hs) in
      joined (branches_declare test (all_branches gs (and_branch _ w p hs))) (without && true)
      (join_branches gs (and_branch _ w p hs) a.0 a.1)
      (joined without true (join_branches gs hs a.0 k.1) refl)

  alt_flat_pass : (ks : List ℕ) (l r : Tree) → AltFlat ks l r → Pass l → Pass r
  alt_flat_pass places l r (alt_flat gs hs ks skips) h =
      let a = cut_branches gs (and_skip (alt hs) ks) h in
      let k = cut (branches_declare test hs) (branches_declare test ks) a.1 in
      join_branches gs (all_branches hs ks) a.0 (join_branches hs ks k.0 k.1)

  alt_split_pass : (ks : List ℕ) (l r : Tree) → AltSplit ks l r → Pass l → Pass r
  alt_split_pass places l r (alt_split gs hs ks g p q event) h =
      let inner = declares test q && branches_declare test hs in
      let a = cut_branches gs (and_branch _ g p (and_skip (alt (and_branch _ g q hs)) ks)) h in
      let k = cut (declares test p) (inner && branches_declare test ks) a.1 in
      let m = cut inner (branches_declare test ks) k.1 in
      join_branches gs (and_skip (alt (and_branch _ g p (and_branch _ g q hs))) ks) a.0
      (joined (declares test p && inner) (branches_declare test ks) (joined (declares test p) inner k.0 m.0) m.1)

  alt_same_pass : (ks : List ℕ) (l r : Tree) → AltSame ks l r → Pass l → Pass r
  alt_same_pass places l r (alt_same gs hs ks b g p q event) h =
      let a = cut_branches gs (and_branch b g p (all_branches hs (and_branch b g q ks))) h in
      let k = cut (declares test p) (branches_declare test (all_branches hs (and_branch b g q ks))) a.1 in
      let m = cut_branches hs (and_branch b g q ks) k.1 in
      let i = cut (declares test q) (branches_declare test ks) m.1 in
      let both = declares test p && (declares test q && true) in
      join_branches gs (and_branch b g (alt (and_skip p (and_skip q no_branch))) (all_branches hs ks)) a.0
      (joined both (branches_declare test (all_branches hs ks))
      (joined (declares test p) (declares test q && true) k.0 (joined (declares test q) true i.0 refl))
      (join_branches hs ks m.0 i.1))

  alt_slide_pass : (ks : List ℕ) (l r : Tree) → AltSlide ks l r → Pass l → Pass r
  alt_slide_pass ks l r (alt_slide gs hs events) h =
      let a = cut_branches gs (and_skip (alt (all_branches gs hs)) no_branch) h in
      (cut (branches_declare test (all_branches gs hs)) true a.1).0

  alt_least_pass : (ks : List ℕ) (l r : Tree) → AltLeast ks l r → Pass l → Pass r
  alt_least_pass ks l r (alt_least gs hs first second) h =
      let a = cut (branches_declare test gs) (branches_declare test (all_branches gs hs) && true) h in
      let k = cut (branches_declare test (all_branches gs hs)) true a.1 in
      join_branches hs (and_skip (alt gs) no_branch) (cut_branches gs hs k.0).1 (joined (branches_declare test gs) true a.0 refl)

  choice_pass : (n : ℕ) (S : List (Name × Kind)) (ks : List ℕ) (l r : Tree) → has_direct n ≡ true → ChoiceSides n S ks l r → Pass l → Pass r
  choice_pass n S ks l r d =
      either (n == 16) (if_none_pass ks l r) (either (n == 17) (if_false_pass S ks l r) (either (n == 18) (if_true_pass S ks l r)
      (either (n == 19) (if_else_stop_pass ks l r) (either (n == 20) (if_cut_pass S ks l r) (either (n == 21) (if_nest_pass ks l r)
      (either (n == 22) (if_swap_pass S ks l r) (either (n == 23) (if_merge_pass ks l r) (passed _ (n == 24) (not_direct 24 n refl d)
      (passed _ (n == 25) (not_direct 25 n refl d) (either (n == 26) (alt_none_pass ks l r) (passed _ (n == 27) (not_direct 27 n refl d)
      (either (n == 28) (alt_false_pass S ks l r) (either (n == 29) (alt_twice_pass ks l r) (either (n == 30) (alt_skip_pass ks l r)
      (either (n == 31) (alt_case_pass ks l r) (either (n == 32) (alt_flat_pass ks l r) (either (n == 33) (alt_split_pass ks l r)
      (either (n == 34) (alt_same_pass ks l r) (either (n == 35) (alt_slide_pass ks l r)
      (either (n == 36) (alt_least_pass ks l r) (λ z. absurd z)))))))))))))))))))))

  -- ---- the laws of PAR

  par_none_pass : (ks : List ℕ) (l r : Tree) → ParNone ks l r → Pass l → Pass r
  par_none_pass ks l r par_none h = refl

  par_one_pass : (ks : List ℕ) (l r : Tree) → ParOne ks l r → Pass l → Pass r
  par_one_pass ks l r (par_one p) h = cut_one p h

  par_flat_pass : (ks : List ℕ) (l r : Tree) → ParFlat ks l r → Pass l → Pass r
  par_flat_pass ks l r (par_flat ps qs rs) h =
      let a = cut_trees ps (and_tree (par qs) rs) h in
      let b = cut (all_declare test qs) (all_declare test rs) a.1 in
      join_trees ps (all_of qs rs) a.0 (join_trees qs rs b.0 b.1)

  par_skip_pass : (ks : List ℕ) (l r : Tree) → ParSkip ks l r → Pass l → Pass r
  par_skip_pass ks l r (par_skip ps qs) h = let a = cut_trees ps (and_tree skip qs) h in join_trees ps qs a.0 a.1

  par_stop_pass : (ks : List ℕ) (l r : Tree) → ParStop ks l r → Pass l → Pass r
  par_stop_pass ks l r (par_stop p) h = h

  par_assign_pass : (ks : List ℕ) (l r : Tree) → ParAssign ks l r → Pass l → Pass r
  par_assign_pass ks l r (par_assign xs es ps q) h =
      let a = cut (all_declare test ps) (all_declare test (one q)) h in
      join_one (par (two (seq ps) q)) (joined (all_declare test ps) (all_declare test (one q)) a.0 a.1)

  beside_pass : (cs : Cases) (q : Tree) → CasesPass cs → Pass q → CasesPass (each_case_beside cs q)
  beside_pass no_case q h k = refl
  beside_pass (and_case b p cs) q h k =
      let a = cut (declares test p) (cases_declare test cs) h in
      joined (all_declare test (two p q)) (cases_declare test (each_case_beside cs q)) (join_two p q a.0 k) (beside_pass cs q a.1 k)

  par_if_pass : (S : List (Name × Kind)) (ks : List ℕ) (l r : Tree) → ParIf S ks l r → Pass l → Pass r
  par_if_pass S ks l r (par_if cs q few every) h = let a = cut_two (select cs) q h in beside_pass cs q a.0 a.1

  first_pass : (ls : Branches) (m : Tree) → BranchesPass ls → Pass m → BranchesPass (first_goes ls m)
  first_pass no_branch m h k = refl
  first_pass (and_branch b w p ls) m h k =
      let a = cut (declares test p) (branches_declare test ls) h in
      joined (all_declare test (two p m)) (branches_declare test (first_goes ls m)) (join_two p m a.0 k) (first_pass ls m a.1 k)

  second_pass : (l : Tree) (ms : Branches) → Pass l → BranchesPass ms → BranchesPass (second_goes l ms)
  second_pass l no_branch h k = refl
  second_pass l (and_branch b w q ms) h k =
      let a = cut (declares test q) (branches_declare test ms) k in
      joined (all_declare test (two l q)) (branches_declare test (second_goes l ms)) (join_two l q h a.0) (second_pass l ms h a.1)

  met_pass : (t : Bool) (b : Exp) (x : ℕ) (e : Exp) (p q : Tree) (rest : Branches) → Pass p → Pass q → BranchesPass rest
      → BranchesPass (cond t (and_branch b ready (both_go x e p q) rest) rest)
  met_pass true b x e p q rest h k r =
      joined (all_declare test (one (par (two p q)))) (branches_declare test rest) (join_one (par (two p q)) (join_two p q h k)) r
  met_pass false b x e p q rest h k r = r

  meeting_pass : (b : Exp) (v : Waiting) (p : Tree) (c : Exp) (w : Waiting) (q : Tree) (rest : Branches) → Pass p → Pass q
      → BranchesPass rest
      → BranchesPass (meeting b v p c w q rest)
  meeting_pass b (output i e) p c (input j x) q rest h k r = met_pass (i == j) _ x e p q rest h k r
  meeting_pass b (input j x) p c (output i e) q rest h k r = met_pass (j == i) _ x e p q rest h k r
  meeting_pass b (output i e) p c (output j f) q rest h k r = r
  meeting_pass b (output i e) p c ready q rest h k r = r
  meeting_pass b (input i x) p c (input j y) q rest h k r = r
  meeting_pass b (input i x) p c ready q rest h k r = r
  meeting_pass b ready p c w q rest h k r = r

  meetings_of_pass : (b : Exp) (v : Waiting) (p : Tree) (ms rest : Branches) → Pass p → BranchesPass ms → BranchesPass rest
      → BranchesPass (meetings_of b v p ms rest)
  meetings_of_pass b v p no_branch rest h k r = r
  meetings_of_pass b v p (and_branch c w q ms) rest h k r =
      let a = cut (declares test q) (branches_declare test ms) k in
      meeting_pass b v p c w q (meetings_of b v p ms rest) h a.0 (meetings_of_pass b v p ms rest h a.1 r)

  meetings_pass : (ls ms : Branches) → BranchesPass ls → BranchesPass ms → BranchesPass (meetings ls ms)
  meetings_pass no_branch ms h k = refl
  meetings_pass (and_branch b v p ls) ms h k =
      let a = cut (declares test p) (branches_declare test ls) h in
      meetings_of_pass b v p ms (meetings ls ms) a.0 k (meetings_pass ls ms a.1 k)

  par_expand_pass : (ks : List ℕ) (l r : Tree) → ParExpand ks l r → Pass l → Pass r
  par_expand_pass ks l r (par_expand ls ms) h =
      let a = cut_two (alt ls) (alt ms) h in
      join_branches (first_goes ls (alt ms)) (all_branches (second_goes (alt ls) ms) (meetings ls ms)) (first_pass ls (alt ms) a.0 a.1)
      (join_branches (second_goes (alt ls) ms) (meetings ls ms) (second_pass (alt ls) ms a.0 a.1) (meetings_pass ls ms a.0 a.1))

  parallel_pass : (n : ℕ) (S : List (Name × Kind)) (ks : List ℕ) (l r : Tree) → has_direct n ≡ true → ParallelSides n S ks l r → Pass l
      → Pass r
  parallel_pass n S ks l r d =
      either (n == 37) (par_none_pass ks l r) (either (n == 38) (par_one_pass ks l r) (either (n == 39) (par_flat_pass ks l r)
      (passed _ (n == 40) (not_direct 40 n refl d) (either (n == 41) (par_skip_pass ks l r) (either (n == 42) (par_stop_pass ks l r)
      (either (n == 43) (par_assign_pass ks l r) (either (n == 44) (par_if_pass S ks l r)
      (either (n == 45) (par_expand_pass ks l r) (λ z. absurd z)))))))))

  -- ---- the laws of declared variables and channels

  var_unused_pass : (ks : List ℕ) (l r : Tree) → VarUnused ks l r → Pass l → Pass r
  var_unused_pass ks l r (var_unused x w p unused) h = (cut (test x) (declares test p) h).1

  -- two declarations exchanged
  swapped_pass : (a b c : Bool) → (a && (b && c)) ≡ true → (b && (a && c)) ≡ true
  swapped_pass a b c h =
      let k = cut a (b && c) h in
      let m = cut b c k.1 in
      joined b (a && c) m.0 (joined a c k.0 m.1)

  var_swap_pass : (ks : List ℕ) (l r : Tree) → VarSwap ks l r → Pass l → Pass r
  var_swap_pass ks l r (swap_variables x y v w p) h = swapped_pass (test x) (test y) (declares test p) h
  var_swap_pass ks l r (swap_with_channel x c v w p) h = swapped_pass (test x) (test c) (declares test p) h

  var_first_pass : (ks : List ℕ) (l r : Tree) → VarFirst ks l r → Pass l → Pass r
  var_first_pass ks l r (var_first x w p q unused) h =
      let a = cut (test x) (all_declare test (two p q)) h in
      let k = cut_two p q a.1 in
      join_two p (declare x w q) k.0 (joined (test x) (declares test q) a.0 k.1)

  var_last_pass : (ks : List ℕ) (l r : Tree) → VarLast ks l r → Pass l → Pass r
  var_last_pass ks l r (var_last x w p q unused) h =
      let a = cut (test x) (all_declare test (two p q)) h in
      let k = cut_two p q a.1 in
      join_two (declare x w p) q (joined (test x) (declares test p) a.0 k.0) k.1

  cases_declaring_pass : (x : ℕ) (w : Width) (cs : Cases) → test x ≡ true → CasesPass cs → CasesPass (each_case_declaring x w cs)
  cases_declaring_pass x w no_case t h = refl
  cases_declaring_pass x w (and_case b p cs) t h =
      let a = cut (declares test p) (cases_declare test cs) h in
      joined (test x && declares test p) (cases_declare test (each_case_declaring x w cs)) (joined (test x) (declares test p) t a.0)
      (cases_declaring_pass x w cs t a.1)

  var_if_pass : (ks : List ℕ) (l r : Tree) → VarIf ks l r → Pass l → Pass r
  var_if_pass ks l r (var_if x w cs unnamed) h = let a = cut (test x) (cases_declare test cs) h in cases_declaring_pass x w cs a.0 a.1

  branches_declaring_pass : (x : ℕ) (w : Width) (gs : Branches) → test x ≡ true → BranchesPass gs
      → BranchesPass (each_branch_declaring x w gs)
  branches_declaring_pass x w no_branch t h = refl
  branches_declaring_pass x w (and_branch b v p gs) t h =
      let a = cut (declares test p) (branches_declare test gs) h in
      joined (test x && declares test p) (branches_declare test (each_branch_declaring x w gs)) (joined (test x) (declares test p) t a.0)
      (branches_declaring_pass x w gs t a.1)

  var_alt_pass : (ks : List ℕ) (l r : Tree) → VarAlt ks l r → Pass l → Pass r
  var_alt_pass ks l r (var_alt x w gs unnamed) h =
      let a = cut (test x) (branches_declare test gs) h in branches_declaring_pass x w gs a.0 a.1

  var_par_pass : (ks : List ℕ) (l r : Tree) → VarPar ks l r → Pass l → Pass r
  var_par_pass ks l r (var_par x w p qs unused) h =
      let a = cut (test x) (declares test p && all_declare test qs) h in
      let k = cut (declares test p) (all_declare test qs) a.1 in
      joined (test x && declares test p) (all_declare test qs) (joined (test x) (declares test p) a.0 k.0) k.1

  values_pass : (x : ℕ) (w : Width) (p : Tree) (vs : List Exp) → test x ≡ true → Pass p → BranchesPass (each_value x w p vs)
  values_pass x w p [] t h = refl
  values_pass x w p (v ∷ vs) t h =
      joined (test x && all_declare test (one p)) (branches_declare test (each_value x w p vs))
      (joined (test x) (all_declare test (one p)) t (join_one p h))
      (values_pass x w p vs t h)

  var_any_pass : (ks : List ℕ) (l r : Tree) → VarAny ks l r → Pass l → Pass r
  var_any_pass ks l r (var_any x w p) h = let a = cut (test x) (declares test p) h in values_pass x w p (values_of w) a.0 a.1

  var_assign_pass : (ks : List ℕ) (l r : Tree) → VarAssign ks l r → Pass l → Pass r
  var_assign_pass ks l r (var_assign x w ys fs unnamed) h = assignment_pass (names_without x ys) (values_without x ys fs)

  var_end_pass : (ks : List ℕ) (l r : Tree) → VarEnd ks l r → Pass l → Pass r
  var_end_pass ks l r (var_end x w p ys fs) h =
      let a = cut (test x) (all_declare test (two p (assign ys fs))) h in
      joined (test x) (all_declare test (two p (assigned_without x ys fs))) a.0
      (join_two p (assigned_without x ys fs) (cut_two p (assign ys fs) a.1).0
      (assignment_pass (names_without x ys) (values_without x ys fs)))

  chan_unused_pass : (ks : List ℕ) (l r : Tree) → ChanUnused ks l r → Pass l → Pass r
  chan_unused_pass ks l r (chan_unused c w p unused) h = (cut (test c) (declares test p) h).1

  chan_swap_pass : (ks : List ℕ) (l r : Tree) → ChanSwap ks l r → Pass l → Pass r
  chan_swap_pass ks l r (chan_swap c d v w p) h = swapped_pass (test c) (test d) (declares test p) h

  chan_seq_pass : (ks : List ℕ) (l r : Tree) → ChanSeq ks l r → Pass l → Pass r
  chan_seq_pass ks l r (chan_seq c w p q) h =
      let a = cut (test c) (all_declare test (two p q)) h in
      let k = cut_two p q a.1 in
      join_two (connect c w p) (connect c w q) (joined (test c) (declares test p) a.0 k.0) (joined (test c) (declares test q) a.0 k.1)

  cases_connecting_pass : (c : ℕ) (w : Width) (cs : Cases) → test c ≡ true → CasesPass cs → CasesPass (each_case_connecting c w cs)
  cases_connecting_pass c w no_case t h = refl
  cases_connecting_pass c w (and_case b p cs) t h =
      let a = cut (declares test p) (cases_declare test cs) h in
      joined (test c && declares test p) (cases_declare test (each_case_connecting c w cs)) (joined (test c) (declares test p) t a.0)
      (cases_connecting_pass c w cs t a.1)

  chan_if_pass : (ks : List ℕ) (l r : Tree) → ChanIf ks l r → Pass l → Pass r
  chan_if_pass ks l r (chan_if c w cs) h = let a = cut (test c) (cases_declare test cs) h in cases_connecting_pass c w cs a.0 a.1

  off_pass : (t : Bool) (c : ℕ) (w : Width) (b : Exp) (v : Waiting) (p : Tree) (rest : Branches) → test c ≡ true → Pass p
      → BranchesPass rest
      → BranchesPass (cond t rest (and_branch b v (connect c w p) rest))
  off_pass true c w b v p rest t h k = k
  off_pass false c w b v p rest t h k =
      joined (test c && declares test p) (branches_declare test rest) (joined (test c) (declares test p) t h) k

  without_pass : (c : ℕ) (w : Width) (gs : Branches) → test c ≡ true → BranchesPass gs → BranchesPass (without_channel c w gs)
  without_pass c w no_branch t h = refl
  without_pass c w (and_branch b v p gs) t h =
      let a = cut (declares test p) (branches_declare test gs) h in
      off_pass (is_on v c) c w b v p (without_channel c w gs) t a.0 (without_pass c w gs t a.1)

  chan_alt_pass : (ks : List ℕ) (l r : Tree) → ChanAlt ks l r → Pass l → Pass r
  chan_alt_pass ks l r (chan_alt c w gs) h = let a = cut (test c) (branches_declare test gs) h in without_pass c w gs a.0 a.1

  chan_par_pass : (ks : List ℕ) (l r : Tree) → ChanPar ks l r → Pass l → Pass r
  chan_par_pass ks l r (chan_par c w p qs unused) h =
      let a = cut (test c) (declares test p && all_declare test qs) h in
      let k = cut (declares test p) (all_declare test qs) a.1 in
      joined (test c && declares test p) (all_declare test qs) (joined (test c) (declares test p) a.0 k.0) k.1

  scope_pass : (n : ℕ) (S : List (Name × Kind)) (ks : List ℕ) (l r : Tree) → has_direct n ≡ true → ((n == 52) ≡ true → ⊥)
      → ScopeSides n S ks l r → Pass l → Pass r
  scope_pass n S ks l r d other =
      either (n == 46) (var_unused_pass ks l r) (passed _ (n == 47) (not_direct 47 n refl d) (either (n == 48) (var_swap_pass ks l r)
      (either (n == 49) (var_first_pass ks l r) (either (n == 50) (var_last_pass ks l r) (either (n == 51) (var_if_pass ks l r)
      (passed _ (n == 52) other (either (n == 53) (var_par_pass ks l r) (either (n == 54) (var_any_pass ks l r)
      (either (n == 55) (var_assign_pass ks l r) (either (n == 56) (var_end_pass ks l r) (either (n == 57) (chan_unused_pass ks l r)
      (passed _ (n == 58) (not_direct 58 n refl d) (either (n == 59) (chan_swap_pass ks l r) (either (n == 60) (chan_seq_pass ks l r)
      (either (n == 61) (chan_if_pass ks l r) (either (n == 62) (chan_alt_pass ks l r)
      (either (n == 63) (chan_par_pass ks l r) (λ z. absurd z))))))))))))))))))

  -- ---- any law

  sides_pass : (n : ℕ) (S : List (Name × Kind)) (ks : List ℕ) (l r : Tree) → has_direct n ≡ true → ((n == 52) ≡ true → ⊥)
      → SIDES n S ks l r → Pass l → Pass r
  sides_pass n S ks l r d other =
      either (nat_le n 15) (sequence_pass n S ks l r d) (either (nat_le n 36) (choice_pass n S ks l r d)
      (either (nat_le n 45) (parallel_pass n S ks l r d) (scope_pass n S ks l r d other)))

  among : (n : ℕ) (S : List (Name × Kind)) (ks : List ℕ) (l r : Tree) (direct first : Bool) → has_direct n ≡ direct → (n == 52) ≡ first
      → MatchBool direct (MatchBool first (VarAlt ks l r) (SIDES n S ks l r)) ⊥ → Pass l → Pass r
  among n S ks l r true true d e s = var_alt_pass ks l r s
  among n S ks l r true false d e s = sides_pass n S ks l r d (λ f. true≢false (sym f ∙ e)) s
  among n S ks l r false first d e s = absurd s

  pub direct_pass : (n : ℕ) (S : List (Name × Kind)) (l r : Tree) → IsDirect n S l r → declares test l ≡ true → declares test r ≡ true
  direct_pass n S l r d = among n S d.place l r (has_direct n) (n == 52) refl refl d.change.sides
