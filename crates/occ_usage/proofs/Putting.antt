-- A part that uses no more than another one, put in its place.
use Rattle.std.proofs.Common.{◌≡◌, ℕ, zero, suc, Bool, true, false, ◌&&◌, ◌||◌, not, ◌==◌, true≢false, List, [], ◌∷◌, Option, Some, None, refl, sym, ap, subst, ◌∙◌}
use Rattle.std.specs.Option.{option_and_then, option_map, unwrap_or}
use Rattle.std.proofs.lemmas.Bool.{and_from, and_parts, or_left, or_right}
use Rattle.occ_names.proofs.from_meaning.Facts.{none_not_some, some_is}
use Rattle.occ_names.proofs.from_meaning.Places.{part_usage, put_types}
use Rattle.occ_names.specs.occ_meaning.Context.{branch_at, case_at, child, environment_at, only_at, part_at, put, tree_at, with_branch, with_case, with_child, with_only, with_tree}
use Rattle.occ_syntax.specs.Names.{end_in_branches, end_in_cases, end_in_some, end_in_waiting, free, free_in_branches, free_in_cases, free_in_some, free_in_waiting, names, uses_end, written, written_in_branches, written_in_cases, written_in_some, written_in_waiting}
use Rattle.occ_syntax.specs.Scopes.{Environment}
use Rattle.occ_syntax.specs.Tree.{Branches, Cases, Tree, Trees, alt, and_branch, and_case, and_tree, assign, connect, declare, no_branch, no_case, no_tree, par, receive, select, send, seq, skip, stop}
use Rattle.occ_syntax.specs.Usage.{AllKeepUsage, AreSeparate, BranchesKeepUsage, CasesKeepUsage, IsSeparate, Keeps, KeepsUsage}
use Rattle.occ_usage.specs.Local.{UsesNoMore}

-- ---- truth values

more_first : (a b c : Bool) → (a ≡ true → c ≡ true) → (a || b) ≡ true → (c || b) ≡ true
more_first true b c f h = or_left c b (f refl)
more_first false b c f h = or_right c b h

more_second : (a b d : Bool) → (b ≡ true → d ≡ true) → (a || b) ≡ true → (a || d) ≡ true
more_second true b d f h = refl
more_second false b d f h = f h

more_kept : (a b d : Bool) → (b ≡ true → d ≡ true) → (a && b) ≡ true → (a && d) ≡ true
more_kept a b d f h = let both = and_parts a b h in and_from a d both.0 (f both.1)

neither : (a b : Bool) → (a ≡ true → b ≡ true) → b ≡ false → a ≡ false
neither true b h e = absurd (true≢false (sym (h refl) ∙ e))
neither false b h e = refl

-- ---- what is used

itself : (p : Tree) → UsesNoMore p p
itself p = record { frees = λ x h. h; writes = λ x h. h; ends = λ c d h. h }

of_old : (p q r : Tree) → Some p ≡ Some q → UsesNoMore r q → UsesNoMore r p
of_old p q r e w = subst (UsesNoMore r) (sym (some_is e)) w

separate_still : (p q l m : Tree) → IsSeparate l m → UsesNoMore p l → UsesNoMore q m → IsSeparate p q
separate_still p q l m s v w = record {
  first_writes = λ x h. neither (free q x) (free m x) (w.frees x) (s.first_writes x (v.writes x h));
  second_writes = λ x h. neither (free p x) (free l x) (v.frees x) (s.second_writes x (w.writes x h));
  ends = λ c d h. neither (uses_end q c d) (uses_end m c d) (w.ends c d) (s.ends c d (v.ends c d h));
}

trees_use : (ps : Trees) (i : ℕ) (q r : Tree) → tree_at ps i ≡ Some q → UsesNoMore r q → UsesNoMore (par (with_tree ps i r)) (par ps)
trees_use no_tree i q r e w = none_not_some e
trees_use (and_tree p ps) zero q r e w = let v = of_old p q r e w in record {
  frees = λ x h. more_first (free r x) (free_in_some ps x) (free p x) (v.frees x) h;
  writes = λ x h. more_first (written r x) (written_in_some ps x) (written p x) (v.writes x) h;
  ends = λ c d h. more_first (uses_end r c d) (end_in_some ps c d) (uses_end p c d) (v.ends c d) h;
}
trees_use (and_tree p ps) (suc i) q r e w = let v = trees_use ps i q r e w in record {
  frees = λ x h. more_second (free p x) (free_in_some (with_tree ps i r) x) (free_in_some ps x) (v.frees x) h;
  writes = λ x h. more_second (written p x) (written_in_some (with_tree ps i r) x) (written_in_some ps x) (v.writes x) h;
  ends = λ c d h. more_second (uses_end p c d) (end_in_some (with_tree ps i r) c d) (end_in_some ps c d) (v.ends c d) h;
}

cases_use : (cs : Cases) (i : ℕ) (q r : Tree) → case_at cs i ≡ Some q → UsesNoMore r q → UsesNoMore (select (with_case cs i r)) (select cs)
cases_use no_case i q r e w = none_not_some e
cases_use (and_case b p cs) zero q r e w = let v = of_old p q r e w in record {
  frees = λ x h. more_first (names b x || free r x) (free_in_cases cs x) (names b x || free p x) (more_second (names b x) (free r x) (free p x) (v.frees x)) h;
  writes = λ x h. more_first (written r x) (written_in_cases cs x) (written p x) (v.writes x) h;
  ends = λ c d h. more_first (uses_end r c d) (end_in_cases cs c d) (uses_end p c d) (v.ends c d) h;
}
cases_use (and_case b p cs) (suc i) q r e w = let v = cases_use cs i q r e w in record {
  frees = λ x h. more_second (names b x || free p x) (free_in_cases (with_case cs i r) x) (free_in_cases cs x) (v.frees x) h;
  writes = λ x h. more_second (written p x) (written_in_cases (with_case cs i r) x) (written_in_cases cs x) (v.writes x) h;
  ends = λ c d h. more_second (uses_end p c d) (end_in_cases (with_case cs i r) c d) (end_in_cases cs c d) (v.ends c d) h;
}

branches_use : (bs : Branches) (i : ℕ) (q r : Tree) → branch_at bs i ≡ Some q → UsesNoMore r q → UsesNoMore (alt (with_branch bs i r)) (alt bs)
branches_use no_branch i q r e w = none_not_some e
branches_use (and_branch b g p bs) zero q r e w = let v = of_old p q r e w in record {
  frees = λ x h. more_first ((names b x || free_in_waiting g x) || free r x) (free_in_branches bs x) ((names b x || free_in_waiting g x) || free p x)
      (more_second (names b x || free_in_waiting g x) (free r x) (free p x) (v.frees x)) h;
  writes = λ x h. more_first (written_in_waiting g x || written r x) (written_in_branches bs x) (written_in_waiting g x || written p x)
      (more_second (written_in_waiting g x) (written r x) (written p x) (v.writes x)) h;
  ends = λ c d h. more_first (end_in_waiting g c d || uses_end r c d) (end_in_branches bs c d) (end_in_waiting g c d || uses_end p c d)
      (more_second (end_in_waiting g c d) (uses_end r c d) (uses_end p c d) (v.ends c d)) h;
}
branches_use (and_branch b g p bs) (suc i) q r e w = let v = branches_use bs i q r e w in record {
  frees = λ x h. more_second ((names b x || free_in_waiting g x) || free p x) (free_in_branches (with_branch bs i r) x) (free_in_branches bs x) (v.frees x) h;
  writes = λ x h. more_second (written_in_waiting g x || written p x) (written_in_branches (with_branch bs i r) x) (written_in_branches bs x) (v.writes x) h;
  ends = λ c d h. more_second (end_in_waiting g c d || uses_end p c d) (end_in_branches (with_branch bs i r) c d) (end_in_branches bs c d) (v.ends c d) h;
}

only_use : (p : Tree) (i : ℕ) (q r : Tree) → only_at p i ≡ Some q → UsesNoMore r q → UsesNoMore (with_only p i r) p
only_use p zero q r e w = of_old p q r e w
only_use p (suc i) q r e w = none_not_some e

pub child_use : (p : Tree) (i : ℕ) (q r : Tree) → child p i ≡ Some q → UsesNoMore r q → UsesNoMore (with_child p i r) p
child_use skip i q r e w = none_not_some e
child_use stop i q r e w = none_not_some e
child_use (assign xs es) i q r e w = none_not_some e
child_use (receive c x) i q r e w = none_not_some e
child_use (send c z) i q r e w = none_not_some e
child_use (seq ps) i q r e w = let v = trees_use ps i q r e w in record { frees = v.frees; writes = v.writes; ends = v.ends }
child_use (par ps) i q r e w = trees_use ps i q r e w
child_use (select cs) i q r e w = cases_use cs i q r e w
child_use (alt bs) i q r e w = branches_use bs i q r e w
child_use (declare y g p) i q r e w = let v = only_use p i q r e w in record {
  frees = λ x h. more_kept (not (x == y)) (free (with_only p i r) x) (free p x) (v.frees x) h;
  writes = λ x h. more_kept (not (x == y)) (written (with_only p i r) x) (written p x) (v.writes x) h;
  ends = λ c d h. more_kept (not (c == y)) (uses_end (with_only p i r) c d) (uses_end p c d) (v.ends c d) h;
}
child_use (connect y g p) i q r e w = let v = only_use p i q r e w in record {
  frees = λ x h. more_kept (not (x == y)) (free (with_only p i r) x) (free p x) (v.frees x) h;
  writes = λ x h. more_kept (not (x == y)) (written (with_only p i r) x) (written p x) (v.writes x) h;
  ends = λ c d h. more_kept (not (c == y)) (uses_end (with_only p i r) c d) (uses_end p c d) (v.ends c d) h;
}

-- ---- usage

trees_keep : (ps : Trees) (i : ℕ) (r : Tree) → AllKeepUsage ps → KeepsUsage r → AllKeepUsage (with_tree ps i r)
trees_keep no_tree i r h k = tt
trees_keep (and_tree p ps) zero r h k = (k, h.1)
trees_keep (and_tree p ps) (suc i) r h k = (h.0, trees_keep ps i r h.1 k)

trees_separate : (ps : Trees) (i : ℕ) (q r : Tree) → AreSeparate ps → tree_at ps i ≡ Some q → UsesNoMore r q → AreSeparate (with_tree ps i r)
trees_separate no_tree i q r h e w = tt
trees_separate (and_tree p ps) zero q r h e w = (separate_still r (par ps) p (par ps) h.0 (of_old p q r e w) (itself (par ps)), h.1)
trees_separate (and_tree p ps) (suc i) q r h e w =
    (separate_still p (par (with_tree ps i r)) p (par ps) h.0 (itself p) (trees_use ps i q r e w), trees_separate ps i q r h.1 e w)

cases_keep : (cs : Cases) (i : ℕ) (r : Tree) → CasesKeepUsage cs → KeepsUsage r → CasesKeepUsage (with_case cs i r)
cases_keep no_case i r h k = tt
cases_keep (and_case b p cs) zero r h k = (k, h.1)
cases_keep (and_case b p cs) (suc i) r h k = (h.0, cases_keep cs i r h.1 k)

branches_keep : (bs : Branches) (i : ℕ) (r : Tree) → BranchesKeepUsage bs → KeepsUsage r → BranchesKeepUsage (with_branch bs i r)
branches_keep no_branch i r h k = tt
branches_keep (and_branch b g p bs) zero r h k = (k, h.1)
branches_keep (and_branch b g p bs) (suc i) r h k = (h.0, branches_keep bs i r h.1 k)

only_keeps : (p : Tree) (i : ℕ) (r : Tree) → KeepsUsage p → KeepsUsage r → KeepsUsage (with_only p i r)
only_keeps p zero r h k = k
only_keeps p (suc i) r h k = h

child_keeps : (p : Tree) (i : ℕ) (q r : Tree) → KeepsUsage p → child p i ≡ Some q → KeepsUsage r → UsesNoMore r q → KeepsUsage (with_child p i r)
child_keeps skip i q r h e k w = tt
child_keeps stop i q r h e k w = tt
child_keeps (assign xs es) i q r h e k w = tt
child_keeps (receive c x) i q r h e k w = tt
child_keeps (send c z) i q r h e k w = tt
child_keeps (seq ps) i q r h e k w = trees_keep ps i r h k
child_keeps (par ps) i q r h e k w = (trees_keep ps i r h.0 k, trees_separate ps i q r h.1 e w)
child_keeps (select cs) i q r h e k w = cases_keep cs i r h k
child_keeps (alt bs) i q r h e k w = branches_keep bs i r h k
child_keeps (declare x g p) i q r h e k w = only_keeps p i r h k
child_keeps (connect c g p) i q r h e k w = only_keeps p i r h k

-- ---- along a path

-- a part keeps usage, and uses no more than another one
record Stays (p l : Tree) : Type 0 where
  usage : KeepsUsage p
  uses : UsesNoMore p l

put_stays : (path : List ℕ) (p q r : Tree) → KeepsUsage p → part_at path p ≡ Some q → Stays r q → Stays (put path p r) p
put_stays [] p q r h e k = record { usage = k.usage; uses = of_old p q r e k.uses }
put_stays (i ∷ path) p q r h e k = below (λ c u f. put_stays path c q r u f k) (child p i) refl e
  where
    below : ((c : Tree) → KeepsUsage c → part_at path c ≡ Some q → Stays (put path c r) c) → (o : Option Tree) → child p i ≡ o
        → option_and_then (part_at path) o ≡ Some q → Stays (unwrap_or (option_map (λ c. with_child p i (put path c r)) o) p) p
    below ih None is f = none_not_some f
    below ih (Some c) is f =
        let v = ih c (part_usage (i ∷ []) p c h (ap (option_and_then (part_at [])) is)) f in
        record { usage = child_keeps p i c (put path c r) h is v.usage v.uses; uses = child_use p i c (put path c r) is v.uses }

-- a part that keeps the rules there and uses no more than the one there may be put in
pub put_keeps : (path : List ℕ) (Γ : Environment) (p q r : Tree) → Keeps Γ p → part_at path p ≡ Some q → Keeps (environment_at path Γ p) r → UsesNoMore r q
    → Keeps Γ (put path p r)
put_keeps path Γ p q r h e k w = record {
  types = put_types path Γ p q r h.types e k.types;
  usage = (put_stays path p q r h.usage e (record { usage = k.usage; uses = w })).usage;
}
