-- A part of kept types has no faults exactly where it keeps the usage rule.
use Rattle.std.proofs.Common.{◌≡◌, ℕ, ◌≤◌, ◌==◌, length, take, is_none, Result, Err, arith, Bool, true, false, true≢false, cond, not, ◌&&◌, ◌||◌, List, [], ◌∷◌, ◌++◌, Option, Some, None, map, refl, sym, ap, ◌∙◌, subst}
use Rattle.std.specs.List.{list_any}
use Rattle.std.proofs.lemmas.Bool.{eqb-true, and_parts, or_parts, or_from}
use Rattle.std.proofs.lemmas.List.{map-append, take-append-le, length_push}
use Rattle.std.proofs.lemmas.List.Folds.{list_any-append}
use Rattle.occ_syntax.specs.occ_base.declared.event.Dir.{Dir}
use Rattle.occ_syntax.specs.occ_base.declared.event.Dir.TheVariants.{Input, Output}
use Rattle.occ_syntax.specs.occ_base.declared.names.Name.{Name}
use Rattle.occ_syntax.specs.declared.scope.Kind.{Kind}
use Rattle.occ_syntax.specs.declared.scope.Kind.TheVariants.{Var, Chan}
use Rattle.occ_syntax.specs.declared.scope.Program.{Program}
use Rattle.occ_syntax.specs.Declarations.{declaring}
use Rattle.occ_syntax.specs.View.{numbers, tree}
use Rattle.occ_syntax.specs.Names.{is_in, free, written, uses_end, free_in_some, written_in_some, end_in_some}
use Rattle.occ_syntax.specs.Scopes.{Environment, environment, with_name}
use Rattle.occ_syntax.specs.Tree.{Tree, skip, stop, assign, receive, send, seq, par, select, alt, declare, connect, Trees, no_tree, and_tree, Cases, no_case, and_case, Branches, no_branch, and_branch}
use Rattle.occ_syntax.specs.Types.{types_kept, all_types_kept, cases_kept, branches_kept, is_condition, waiting_kept, can_declare}
use Rattle.occ_syntax.specs.Usage.{IsSeparate, KeepsUsage, AllKeepUsage, AreSeparate, CasesKeepUsage, BranchesKeepUsage}
use Rattle.occ_names.proofs.from_meaning.Free.{not_written, none_written, no_end, some_no_end}
use Rattle.occ_names.proofs.from_meaning.InScope.{free_in_scope}
use Rattle.occ_usage.specs.declared.fault.UsageFault.{UsageFault}
use Rattle.occ_usage.specs.declared.fault.UsageFault.TheVariants.{SharedVariable, SharedEnd, Memory}
use Rattle.occ_usage.specs.Accepted.{IsTyped, IsAccepted, IsFaultless, IsFirst, usage_faults}
use Rattle.occ_usage.specs.Checked.{IsChecked}
use Rattle.occ_usage.specs.Faults.{shared_variable, shared_end, variable_faults, end_fault, end_faults, later, after, after_all, after_cases, after_branches, faults, faults_of_all, faults_of_cases, faults_of_branches, first, names_of}

-- ---- one fact or another fails

no_two : (a b : Bool) → (a ≡ true → b ≡ false) → (a && b) ≡ false
no_two true b f = f refl
no_two false b f = refl

not_both : (a b : Bool) → (a && b) ≡ false → a ≡ true → b ≡ false
not_both true b e f = e
not_both false b e f = absurd (true≢false (sym f))

not_first : (a b : Bool) → (a && b) ≡ false → b ≡ true → a ≡ false
not_first true b e f = absurd (true≢false (sym f ∙ e))
not_first false b e f = refl

no_two_turned : (a b : Bool) → (b ≡ true → a ≡ false) → (a && b) ≡ false
no_two_turned true true f = absurd (true≢false (f refl))
no_two_turned true false f = refl
no_two_turned false b f = refl

-- ---- separate parts share nothing, and parts that share nothing are separate

pub nothing_shared : (ps : Trees) → AreSeparate ps → (x : ℕ) → shared_variable ps x ≡ false
nothing_shared no_tree h x = refl
nothing_shared (and_tree p ps) h x =
    or_from _ _ (or_from _ _ (no_two (written p x) (free_in_some ps x) (h.0.first_writes x)) (no_two_turned (free p x) (written_in_some ps x) (h.0.second_writes x)))
    (nothing_shared ps h.1 x)

pub no_end_shared : (ps : Trees) → AreSeparate ps → (c : ℕ) (d : Dir) → shared_end ps c d ≡ false
no_end_shared no_tree h c d = refl
no_end_shared (and_tree p ps) h c d = or_from _ _ (no_two (uses_end p c d) (end_in_some ps c d) (h.0.ends c d)) (no_end_shared ps h.1 c d)

pub are_separate : (ps : Trees) → ((x : ℕ) → shared_variable ps x ≡ false) → ((c : ℕ) (d : Dir) → shared_end ps c d ≡ false) → AreSeparate ps
are_separate no_tree f g = tt
are_separate (and_tree p ps) f g = (
  record {
    first_writes = λ x e. not_both (written p x) (free_in_some ps x) (or_parts _ _ (or_parts _ _ (f x)).0).0 e;
    second_writes = λ x e. not_first (free p x) (written_in_some ps x) (or_parts _ _ (or_parts _ _ (f x)).0).1 e;
    ends = λ c d e. not_both (uses_end p c d) (end_in_some ps c d) (or_parts _ _ (g c d)).0 e;
  },
  are_separate ps (λ x. (or_parts _ _ (f x)).1) (λ c d. (or_parts _ _ (g c d)).1),
)

-- what no part names, no parts share
neither_way : (a b c d : Bool) → b ≡ false → c ≡ false → ((a && b) || (c && d)) ≡ false
neither_way true b c d e f = ap (λ k. k || (c && d)) e ∙ ap (λ k. k && d) f
neither_way false b c d e f = ap (λ k. k && d) f

unnamed_unshared : (ps : Trees) (x : ℕ) → free_in_some ps x ≡ false → shared_variable ps x ≡ false
unnamed_unshared no_tree x e = refl
unnamed_unshared (and_tree p ps) x e =
    let both = or_parts (free p x) (free_in_some ps x) e in
    or_from _ _ (neither_way (written p x) (free_in_some ps x) (free p x) (written_in_some ps x) both.1 both.0) (unnamed_unshared ps x both.1)

second_none : (a b : Bool) → b ≡ false → (a && b) ≡ false
second_none true b e = e
second_none false b e = refl

unnamed_no_end : (ps : Trees) (c : ℕ) (d : Dir) → free_in_some ps c ≡ false → shared_end ps c d ≡ false
unnamed_no_end no_tree c d e = refl
unnamed_no_end (and_tree p ps) c d e =
    let both = or_parts (free p c) (free_in_some ps c) e in
    or_from _ _ (second_none (uses_end p c d) (end_in_some ps c d) (some_no_end ps c d both.1)) (unnamed_no_end ps c d both.1)

-- ---- lists of faults

nothing_left : (fs gs : List UsageFault) → fs ++ gs ≡ [] → (fs ≡ []) × (gs ≡ [])
nothing_left [] gs e = (refl, e)
nothing_left (f ∷ fs) gs e = cc

pub nothing_more : (fs gs : List UsageFault) → fs ≡ [] → gs ≡ [] → fs ++ gs ≡ []
nothing_more fs gs e f = ap (λ hs. hs ++ gs) e ∙ f

shown_at : (b : Bool) (f : UsageFault) (fs : List UsageFault) → cond b (f ∷ fs) fs ≡ [] → (b ≡ false) × (fs ≡ [])
shown_at true f fs e = cc
shown_at false f fs e = (refl, e)

untrue_at : (b : Bool) (f : UsageFault) (fs : List UsageFault) → b ≡ false → fs ≡ [] → cond b (f ∷ fs) fs ≡ []
untrue_at true f fs e g = absurd (true≢false e)
untrue_at false f fs e g = g

untested : (test : ℕ → Bool) (n : ℕ) (xs : List ℕ) → ((x : ℕ) → test x ≡ false) → variable_faults test n xs ≡ []
untested test n [] f = refl
untested test n (x ∷ xs) f = untrue_at (test x) _ (variable_faults test n xs) (f x) (untested test n xs f)

tested_at : (b : Bool) (test : ℕ → Bool) (x y : ℕ) → (x == y) ≡ b → test y ≡ false → ((x == y) ≡ false → test x ≡ false) → test x ≡ false
tested_at true test x y e f g = subst (λ z. test z ≡ false) (sym (eqb-true x y e)) f
tested_at false test x y e f g = g e

or_second : (a b : Bool) → (a || b) ≡ true → a ≡ false → b ≡ true
or_second true b e f = absurd (true≢false f)
or_second false b e f = e

tested : (test : ℕ → Bool) (n : ℕ) (xs : List ℕ) → variable_faults test n xs ≡ [] → (x : ℕ) → is_in xs x ≡ true → test x ≡ false
tested test n [] e x h = absurd (true≢false (sym h))
tested test n (y ∷ xs) e x h =
    let both = shown_at (test y) _ (variable_faults test n xs) e in
    tested_at (x == y) test x y refl both.0 (λ g. tested test n xs both.1 x (or_second (x == y) (is_in xs x) h g))

shown_end : (b : Bool) (n c : ℕ) (d : Dir) → end_fault b n c d ≡ [] → b ≡ false
shown_end true n c d e = cc
shown_end false n c d e = refl

untrue_end : (b : Bool) (n c : ℕ) (d : Dir) → b ≡ false → end_fault b n c d ≡ []
untrue_end true n c d e = absurd (true≢false e)
untrue_end false n c d e = refl

no_end_tested : (test : ℕ → Dir → Bool) (n : ℕ) (xs : List ℕ) → ((c : ℕ) (d : Dir) → test c d ≡ false) → end_faults test n xs ≡ []
no_end_tested test n [] f = refl
no_end_tested test n (c ∷ cs) f =
    nothing_more _ _ (nothing_more _ _ (untrue_end (test c Input) n c Input (f c Input)) (untrue_end (test c Output) n c Output (f c Output))) (no_end_tested test n cs f)

either_way : (test : ℕ → Dir → Bool) (c : ℕ) → test c Input ≡ false → test c Output ≡ false → (d : Dir) → test c d ≡ false
either_way test c e f Input = e
either_way test c e f Output = f

end_tested_at : (b : Bool) (test : ℕ → Dir → Bool) (x y : ℕ) (d : Dir) → (x == y) ≡ b → test y d ≡ false → ((x == y) ≡ false → test x d ≡ false) → test x d ≡ false
end_tested_at true test x y d e f g = subst (λ z. test z d ≡ false) (sym (eqb-true x y e)) f
end_tested_at false test x y d e f g = g e

end_tested : (test : ℕ → Dir → Bool) (n : ℕ) (xs : List ℕ) → end_faults test n xs ≡ [] → (x : ℕ) → is_in xs x ≡ true → (d : Dir) → test x d ≡ false
end_tested test n [] e x h d = absurd (true≢false (sym h))
end_tested test n (y ∷ xs) e x h d =
    let parts = nothing_left _ (end_faults test n xs) e in
    let ways = nothing_left (end_fault (test y Input) n y Input) (end_fault (test y Output) n y Output) parts.0 in
    end_tested_at (x == y) test x y d refl (either_way test y (shown_end (test y Input) n y Input ways.0) (shown_end (test y Output) n y Output ways.1) d)
    (λ g. end_tested test n xs parts.1 x (or_second (x == y) (is_in xs x) h g) d)

-- ---- scopes

-- what an environment has stands among these names
pub record Covers (Γ : Environment) (xs : List ℕ) : Type 0 where
  pub absent : (x : ℕ) → is_in xs x ≡ false → Γ x ≡ None

in_or_out : (xs : List ℕ) (test : ℕ → Bool) (x : ℕ) (b : Bool) → is_in xs x ≡ b → (is_in xs x ≡ true → test x ≡ false) → (is_in xs x ≡ false → test x ≡ false) → test x ≡ false
in_or_out xs test x true e f g = f e
in_or_out xs test x false e f g = g e

nothing_first : (a : Bool) → (a || false) ≡ false → a ≡ false
nothing_first true e = absurd (true≢false e)
nothing_first false e = refl

covers_more : (Γ : Environment) (xs : List ℕ) (y : ℕ) (k : Kind) → Covers Γ xs → Covers (with_name Γ y k) (xs ++ y ∷ [])
covers_more Γ xs y k h = record {
  absent = λ x e.
      let both = or_parts (is_in xs x) ((x == y) || false) (sym (list_any-append (λ z. x == z) xs (y ∷ [])) ∙ e) in
      ap (λ b. cond b (Some k) (Γ x)) (nothing_first (x == y) both.1) ∙ h.absent x both.0;
}

pub covers_scope : (scope : List (Name × Kind)) → Covers (environment scope) (names_of scope)
covers_scope [] = record { absent = λ x e. refl }
covers_scope (d ∷ ds) = record {
  absent = λ x e.
      let both = or_parts (x == d.0.0) (is_in (names_of ds) x) e in
      ap (λ b. cond b (Some d.1) (environment ds x)) both.0 ∙ (covers_scope ds).absent x both.1;
}

-- ---- at a PAR

par_separate : (Γ : Environment) (xs : List ℕ) (n : ℕ) (ps : Trees) → all_types_kept ps Γ ≡ true → Covers Γ xs
    → variable_faults (shared_variable ps) n xs ++ end_faults (shared_end ps) n xs ≡ [] → AreSeparate ps
par_separate Γ xs n ps t h e =
    let both = nothing_left (variable_faults (shared_variable ps) n xs) (end_faults (shared_end ps) n xs) e in
    are_separate ps
    (λ x. in_or_out xs (shared_variable ps) x (is_in xs x) refl (tested (shared_variable ps) n xs both.0 x) (λ f. unnamed_unshared ps x (free_in_scope (seq ps) Γ t x (h.absent x f))))
    (λ c d. in_or_out xs (λ z. shared_end ps z d) c (is_in xs c) refl (λ f. end_tested (shared_end ps) n xs both.1 c f d) (λ f. unnamed_no_end ps c d (free_in_scope (seq ps) Γ t c (h.absent c f))))

separate_par : (xs : List ℕ) (n : ℕ) (ps : Trees) → AreSeparate ps → variable_faults (shared_variable ps) n xs ++ end_faults (shared_end ps) n xs ≡ []
separate_par xs n ps h = nothing_more _ _ (untested (shared_variable ps) n xs (nothing_shared ps h)) (no_end_tested (shared_end ps) n xs (no_end_shared ps h))

-- ---- whole parts

mutual
  pub no_fault_keeps : (p : Tree) (n : ℕ) (xs : List ℕ) (Γ : Environment) → types_kept p Γ ≡ true → Covers Γ xs → faults p n xs ≡ [] → KeepsUsage p
  no_fault_keeps skip n xs Γ t h e = tt
  no_fault_keeps stop n xs Γ t h e = tt
  no_fault_keeps (assign ys es) n xs Γ t h e = tt
  no_fault_keeps (receive c x) n xs Γ t h e = tt
  no_fault_keeps (send c v) n xs Γ t h e = tt
  no_fault_keeps (seq ps) n xs Γ t h e = all_keep ps (later n) xs Γ t h e
  no_fault_keeps (par ps) n xs Γ t h e =
      let both = nothing_left (variable_faults (shared_variable ps) n xs ++ end_faults (shared_end ps) n xs) (faults_of_all ps (later n) xs) e in
      (all_keep ps (later n) xs Γ t h both.1, par_separate Γ xs n ps t h both.0)
  no_fault_keeps (select cs) n xs Γ t h e = cases_keep cs (later n) xs Γ t h e
  no_fault_keeps (alt bs) n xs Γ t h e = branches_keep bs (later n) xs Γ t h e
  no_fault_keeps (declare x w p) n xs Γ t h e =
      no_fault_keeps p (later n) (xs ++ x ∷ []) (with_name Γ x (Var w)) (and_parts _ _ t).1 (covers_more Γ xs x (Var w) h) e
  no_fault_keeps (connect c w p) n xs Γ t h e =
      no_fault_keeps p (later n) (xs ++ c ∷ []) (with_name Γ c (Chan w None)) (and_parts _ _ t).1 (covers_more Γ xs c (Chan w None) h) e

  all_keep : (ps : Trees) (n : ℕ) (xs : List ℕ) (Γ : Environment) → all_types_kept ps Γ ≡ true → Covers Γ xs → faults_of_all ps n xs ≡ [] → AllKeepUsage ps
  all_keep no_tree n xs Γ t h e = tt
  all_keep (and_tree p ps) n xs Γ t h e =
      let kept = and_parts (types_kept p Γ) (all_types_kept ps Γ) t in
      let none = nothing_left (faults p n xs) (faults_of_all ps (after p n) xs) e in
      (no_fault_keeps p n xs Γ kept.0 h none.0, all_keep ps (after p n) xs Γ kept.1 h none.1)

  cases_keep : (cs : Cases) (n : ℕ) (xs : List ℕ) (Γ : Environment) → cases_kept cs Γ ≡ true → Covers Γ xs → faults_of_cases cs n xs ≡ [] → CasesKeepUsage cs
  cases_keep no_case n xs Γ t h e = tt
  cases_keep (and_case v p cs) n xs Γ t h e =
      let kept = and_parts (is_condition Γ v && types_kept p Γ) (cases_kept cs Γ) t in
      let none = nothing_left (faults p n xs) (faults_of_cases cs (after p n) xs) e in
      (no_fault_keeps p n xs Γ (and_parts _ _ kept.0).1 h none.0, cases_keep cs (after p n) xs Γ kept.1 h none.1)

  branches_keep : (bs : Branches) (n : ℕ) (xs : List ℕ) (Γ : Environment) → branches_kept bs Γ ≡ true → Covers Γ xs → faults_of_branches bs n xs ≡ [] → BranchesKeepUsage bs
  branches_keep no_branch n xs Γ t h e = tt
  branches_keep (and_branch v w p bs) n xs Γ t h e =
      let kept = and_parts ((is_condition Γ v && waiting_kept Γ w) && types_kept p Γ) (branches_kept bs Γ) t in
      let none = nothing_left (faults p n xs) (faults_of_branches bs (after p n) xs) e in
      (no_fault_keeps p n xs Γ (and_parts _ _ kept.0).1 h none.0, branches_keep bs (after p n) xs Γ kept.1 h none.1)

mutual
  pub keeps_no_fault : (p : Tree) (n : ℕ) (xs : List ℕ) → KeepsUsage p → faults p n xs ≡ []
  keeps_no_fault skip n xs h = refl
  keeps_no_fault stop n xs h = refl
  keeps_no_fault (assign ys es) n xs h = refl
  keeps_no_fault (receive c x) n xs h = refl
  keeps_no_fault (send c v) n xs h = refl
  keeps_no_fault (seq ps) n xs h = all_clear ps (later n) xs h
  keeps_no_fault (par ps) n xs h = nothing_more _ _ (separate_par xs n ps h.1) (all_clear ps (later n) xs h.0)
  keeps_no_fault (select cs) n xs h = cases_clear cs (later n) xs h
  keeps_no_fault (alt bs) n xs h = branches_clear bs (later n) xs h
  keeps_no_fault (declare x w p) n xs h = keeps_no_fault p (later n) (xs ++ x ∷ []) h
  keeps_no_fault (connect c w p) n xs h = keeps_no_fault p (later n) (xs ++ c ∷ []) h

  all_clear : (ps : Trees) (n : ℕ) (xs : List ℕ) → AllKeepUsage ps → faults_of_all ps n xs ≡ []
  all_clear no_tree n xs h = refl
  all_clear (and_tree p ps) n xs h = nothing_more _ _ (keeps_no_fault p n xs h.0) (all_clear ps (after p n) xs h.1)

  cases_clear : (cs : Cases) (n : ℕ) (xs : List ℕ) → CasesKeepUsage cs → faults_of_cases cs n xs ≡ []
  cases_clear no_case n xs h = refl
  cases_clear (and_case v p cs) n xs h = nothing_more _ _ (keeps_no_fault p n xs h.0) (cases_clear cs (after p n) xs h.1)

  branches_clear : (bs : Branches) (n : ℕ) (xs : List ℕ) → BranchesKeepUsage bs → faults_of_branches bs n xs ≡ []
  branches_clear no_branch n xs h = refl
  branches_clear (and_branch v w p bs) n xs h = nothing_more _ _ (keeps_no_fault p n xs h.0) (branches_clear bs (after p n) xs h.1)

-- ---- the first fault

pub first_none : (fs : List UsageFault) → first fs ≡ None → fs ≡ []
first_none [] e = refl
first_none (f ∷ fs) e = cc

pub first_some : (f : UsageFault) (fs : List UsageFault) → first fs ≡ Some f → (rest : List UsageFault) × (fs ≡ f ∷ rest)
first_some f [] e = cc
first_some f (g ∷ fs) e = (fs, ap (λ h. h ∷ fs) (some_tells g f e))
  where
    some_tells : (g f : UsageFault) → Some g ≡ Some f → g ≡ f
    some_tells g f e = cc

pub none_then : (fs gs : List UsageFault) → first fs ≡ None → first (fs ++ gs) ≡ first gs
none_then fs gs e = ap (λ hs. first (hs ++ gs)) (first_none fs e)

pub some_then : (fs gs : List UsageFault) (f : UsageFault) → first fs ≡ Some f → first (fs ++ gs) ≡ Some f
some_then [] gs f e = cc
some_then (g ∷ fs) gs f e = e

is_none_tells : (fs : List UsageFault) → is_none (first fs) ≡ true → fs ≡ []
is_none_tells [] e = refl
is_none_tells (f ∷ fs) e = cc

-- ---- whole programs

pub faultless_keeps : (program : Program) → IsFaultless program → IsAccepted program
faultless_keeps program h = record {
  typed = h.typed;
  keeps = record {
    types = h.typed.types;
    usage = no_fault_keeps (tree program.body) 0 (names_of program.params) (environment program.params) h.typed.types (covers_scope program.params) (is_none_tells (usage_faults program) h.none);
  };
}

pub faultless : (program : Program) → IsTyped program → None ≡ first (usage_faults program) → IsFaultless program
faultless program h e = record { typed = h; none = ap is_none (sym e) }

pub usage_kept : (program : Program) → IsTyped program → None ≡ first (usage_faults program) → KeepsUsage (tree program.body)
usage_kept program h e = (faultless_keeps program (faultless program h e)).keeps.usage

pub fault_first : (program : Program) (f : UsageFault) → Some f ≡ first (usage_faults program) → IsFirst f program
fault_first program f e =
    let found = first_some f (usage_faults program) (sym e) in
    record {
      later = found.0;
      found = found.1;
      broken = λ k. no_head f found.0 (sym found.1 ∙ keeps_no_fault (tree program.body) 0 (names_of program.params) k);
    }
  where
    no_head : (f : UsageFault) (fs : List UsageFault) → f ∷ fs ≡ [] → ⊥
    no_head f fs e = cc

pub answered : (program : Program) (f : UsageFault) → Some f ≡ first (usage_faults program) → IsChecked program (Err f)
answered program (SharedVariable n x) e = fault_first program (SharedVariable n x) e
answered program (SharedEnd n x d) e = fault_first program (SharedEnd n x d) e
answered program Memory e = tt

-- ---- one declaration further in

faults-declaring : (x : ℕ) (k : Kind) (p : Tree) (n : ℕ) (xs : List ℕ) → faults (declaring x k p) n xs ≡ faults p (later n) (xs ++ x ∷ [])
faults-declaring x (Var w) p n xs = refl
faults-declaring x (Chan w d) p n xs = refl

after-declaring : (x : ℕ) (k : Kind) (p : Tree) (n : ℕ) → after (declaring x k p) n ≡ after p (later n)
after-declaring x (Var w) p n = refl
after-declaring x (Chan w d) p n = refl

pub further_in : (p q : Tree) (x : Name) (k : Kind) (n m : ℕ) (ks js : List Name) (all : List UsageFault) → p ≡ declaring x.0 k q → m ≡ later n → js ≡ ks ++ x ∷ []
    → faults p n (numbers ks) ≡ all → faults q m (numbers js) ≡ all
further_in p q x k n m ks js all e f g h =
    ap (λ i. faults q i (numbers js)) f ∙ ap (λ is. faults q (later n) (numbers is)) g ∙ ap (faults q (later n)) (map-append (λ (z : Name). z.0) ks (x ∷ []))
    ∙ sym (faults-declaring x.0 k q n (numbers ks)) ∙ ap (λ r. faults r n (numbers ks)) (sym e) ∙ h

pub behind : (p q : Tree) (x : ℕ) (k : Kind) (n m all : ℕ) → p ≡ declaring x k q → m ≡ later n → after p n ≡ all → after q m ≡ all
behind p q x k n m all e f h = ap (after q) f ∙ sym (after-declaring x k q n) ∙ ap (λ r. after r n) (sym e) ∙ h

pub names_kept : (b : ℕ) (ks js zs : List Name) (x : Name) → b ≤ length ks → js ≡ ks ++ x ∷ [] → take b ks ≡ zs → take b js ≡ zs
names_kept b ks js zs x h e g = ap (take b) e ∙ take-append-le b ks (x ∷ []) h ∙ g

pub names_longer : (b : ℕ) (ks js : List Name) (x : Name) → b ≤ length ks → js ≡ ks ++ x ∷ [] → b ≤ length js
names_longer b ks js x h e = omega (arith, ap length e, length_push ks x)
