-- The conditions of an accepted program name few bits.
use Rattle.std.proofs.Common.{◌≡◌, ◌∙◌, ℕ, ◌+◌, ◌≤◌, Bool, true, false, cond, List, [], ◌∷◌, ◌++◌, None, ap, arith}
use Rattle.occ_engine.specs.occ_base.declared.names.Name.{Name}
use Rattle.occ_engine.specs.occ_base.Width.{bits_of}
use Rattle.occ_engine.specs.occ_bits.Named.{bits_named, named_part}
use Rattle.occ_complete_states.specs.Few.{AllFew, BranchesFew, CasesFew, IsFew}
use Rattle.occ_engine.specs.occ_law.Lists.{conditions}
use Rattle.occ_complete_states.proofs.from_nform_table.Names.{bits_push}
use Rattle.occ_engine.specs.occ_syntax.declared.scope.Kind.{Kind}
use Rattle.occ_engine.specs.occ_syntax.declared.scope.Kind.TheVariants.{Chan, Var}
use Rattle.occ_engine.specs.occ_syntax.Counts.{bits_of_kind, bits_of_scope, most_bits, most_bits_of_all, most_bits_of_branches, most_bits_of_cases}
use Rattle.occ_engine.specs.occ_syntax.Names.{some_names}
use Rattle.occ_engine.specs.occ_syntax.Tree.{Branches, Cases, Exp, Tree, Trees, alt, and_branch, and_case, and_tree, assign, connect, declare, no_branch, no_case, no_tree, par, receive, select, send, seq, skip, stop}

named_few : (S : List (Name × Kind)) (es : List Exp) → bits_named S es ≤ bits_of_scope S
named_few [] es = omega arith
named_few (entry ∷ S) es = at (some_names es entry.0.0) (named_few S es)
  where
    at : (b : Bool) → bits_named S es ≤ bits_of_scope S → bits_of_scope (cond b (entry ∷ named_part S es) (named_part S es)) ≤ bits_of_kind entry.1 + bits_of_scope S
    at true h = omega (arith, h)
    at false h = omega (arith, h)

least : (cs : Cases) (n : ℕ) → n ≤ most_bits_of_cases cs n
least no_case n = omega arith
least (and_case b p cs) n = omega (arith, least cs n)

mutual
  pub is_few : (S : List (Name × Kind)) (p : Tree) (n : ℕ) → bits_of_scope S ≡ n → most_bits p n ≤ 24 → IsFew S p
  is_few S skip n e h = tt
  is_few S stop n e h = tt
  is_few S (assign xs es) n e h = tt
  is_few S (receive c x) n e h = tt
  is_few S (send c f) n e h = tt
  is_few S (seq ps) n e h = all_few S ps n e h
  is_few S (par ps) n e h = all_few S ps n e h
  is_few S (select cs) n e h = (omega (arith, named_few S (conditions cs), least cs n, e, h), cases_few S cs n e h)
  is_few S (alt gs) n e h = branches_few S gs n e h
  is_few S (declare x w p) n e h = is_few (S ++ (record { 0 = x }, Var w) ∷ []) p (n + bits_of w) (bits_push S (record { 0 = x }, Var w) ∙ ap (λ m. m + bits_of w) e) h
  is_few S (connect c w p) n e h =
      is_few (S ++ (record { 0 = c }, Chan w None) ∷ []) p n (let b = bits_push S (record { 0 = c }, Chan w None) in omega (arith, b, e)) h

  all_few : (S : List (Name × Kind)) (ps : Trees) (n : ℕ) → bits_of_scope S ≡ n → most_bits_of_all ps n ≤ 24 → AllFew S ps
  all_few S no_tree n e h = tt
  all_few S (and_tree p ps) n e h = (is_few S p n e (omega (arith, h)), all_few S ps n e (omega (arith, h)))

  cases_few : (S : List (Name × Kind)) (cs : Cases) (n : ℕ) → bits_of_scope S ≡ n → most_bits_of_cases cs n ≤ 24 → CasesFew S cs
  cases_few S no_case n e h = tt
  cases_few S (and_case b p cs) n e h = (is_few S p n e (omega (arith, h)), cases_few S cs n e (omega (arith, h)))

  branches_few : (S : List (Name × Kind)) (gs : Branches) (n : ℕ) → bits_of_scope S ≡ n → most_bits_of_branches gs n ≤ 24 → BranchesFew S gs
  branches_few S no_branch n e h = tt
  branches_few S (and_branch b w p gs) n e h = (is_few S p n e (omega (arith, h)), branches_few S gs n e (omega (arith, h)))
