-- What isn't free isn't written, and is no channel that is used.
use Rattle.occ_syntax.specs.occ_base.declared.event.Dir.{Dir}
use Rattle.occ_syntax.specs.occ_base.declared.event.Dir.TheVariants.{Input, Output}
use Rattle.occ_meaning.proofs.Facts.{or_four, or_three}
use Rattle.occ_syntax.specs.Names.{end_in_branches, end_in_cases, end_in_some, end_in_waiting, free, free_in_branches, free_in_cases, free_in_some, free_in_waiting, is_in, names, some_names, uses_end, written, written_in_branches, written_in_cases, written_in_some, written_in_waiting}
use Rattle.occ_syntax.specs.Scopes.{same_dir}
use Rattle.occ_syntax.specs.Tree.{Branches, Cases, Tree, Trees, Waiting, alt, and_branch, and_case, and_tree, assign, connect, declare, input, no_branch, no_case, no_tree, output, par, ready, receive, select, send, seq, skip, stop}
use Rattle.std.proofs.Common.{Bool, false, not, refl, true, ℕ, ◌&&◌, ◌==◌, ◌||◌, ◌≡◌}
use Rattle.std.proofs.lemmas.Bool.{and_left, or_from, or_parts}

waiting_not_written : (w : Waiting) (x : ℕ) → free_in_waiting w x ≡ false → written_in_waiting w x ≡ false
waiting_not_written ready x h = refl
waiting_not_written (input c y) x h = (or_parts (x == c) (x == y) h).1
waiting_not_written (output c e) x h = refl

waiting_no_end : (w : Waiting) (x : ℕ) (d : Dir) → free_in_waiting w x ≡ false → end_in_waiting w x d ≡ false
waiting_no_end ready x d h = refl
waiting_no_end (input c y) x d h = and_left (x == c) (same_dir d Input) (or_parts (x == c) (x == y) h).0
waiting_no_end (output c e) x d h = and_left (x == c) (same_dir d Output) (or_parts (x == c) (names e x) h).0

under_off : (a b c : Bool) → (b ≡ false → c ≡ false) → (not a && b) ≡ false → (not a && c) ≡ false
under_off true b c imp h = refl
under_off false b c imp h = imp h

mutual
  pub not_written : (p : Tree) (x : ℕ) → free p x ≡ false → written p x ≡ false
  not_written skip x h = refl
  not_written stop x h = refl
  not_written (assign xs es) x h = (or_parts (is_in xs x) (some_names es x) h).0
  not_written (receive c y) x h = (or_parts (x == c) (x == y) h).1
  not_written (send c e) x h = refl
  not_written (seq ps) x h = none_written ps x h
  not_written (par ps) x h = none_written ps x h
  not_written (select cs) x h = cases_not_written cs x h
  not_written (alt bs) x h = branches_not_written bs x h
  not_written (declare y w p) x h = under_off (x == y) (free p x) (written p x) (not_written p x) h
  not_written (connect y w p) x h = under_off (x == y) (free p x) (written p x) (not_written p x) h

  pub none_written : (ps : Trees) (x : ℕ) → free_in_some ps x ≡ false → written_in_some ps x ≡ false
  none_written no_tree x h = refl
  none_written (and_tree p ps) x h = let k = or_parts (free p x) (free_in_some ps x) h in or_from (written p x) (written_in_some ps x) (not_written p x k.0) (none_written ps x k.1)

  pub cases_not_written : (cs : Cases) (x : ℕ) → free_in_cases cs x ≡ false → written_in_cases cs x ≡ false
  cases_not_written no_case x h = refl
  cases_not_written (and_case e p cs) x h =
      let k = or_three (names e x) (free p x) (free_in_cases cs x) h in or_from (written p x) (written_in_cases cs x) (not_written p x k.1) (cases_not_written cs x k.2)

  pub branches_not_written : (bs : Branches) (x : ℕ) → free_in_branches bs x ≡ false → written_in_branches bs x ≡ false
  branches_not_written no_branch x h = refl
  branches_not_written (and_branch e w p bs) x h =
      let k = or_four (names e x) (free_in_waiting w x) (free p x) (free_in_branches bs x) h in
      or_from (written_in_waiting w x || written p x) (written_in_branches bs x) (or_from (written_in_waiting w x) (written p x) (waiting_not_written w x k.1) (not_written p x k.2)) (branches_not_written bs x k.3)

mutual
  pub no_end : (p : Tree) (x : ℕ) (d : Dir) → free p x ≡ false → uses_end p x d ≡ false
  no_end skip x d h = refl
  no_end stop x d h = refl
  no_end (assign xs es) x d h = refl
  no_end (receive c y) x d h = waiting_no_end (input c y) x d h
  no_end (send c e) x d h = waiting_no_end (output c e) x d h
  no_end (seq ps) x d h = some_no_end ps x d h
  no_end (par ps) x d h = some_no_end ps x d h
  no_end (select cs) x d h = cases_no_end cs x d h
  no_end (alt bs) x d h = branches_no_end bs x d h
  no_end (declare y w p) x d h = under_off (x == y) (free p x) (uses_end p x d) (no_end p x d) h
  no_end (connect y w p) x d h = under_off (x == y) (free p x) (uses_end p x d) (no_end p x d) h

  pub some_no_end : (ps : Trees) (x : ℕ) (d : Dir) → free_in_some ps x ≡ false → end_in_some ps x d ≡ false
  some_no_end no_tree x d h = refl
  some_no_end (and_tree p ps) x d h = let k = or_parts (free p x) (free_in_some ps x) h in or_from (uses_end p x d) (end_in_some ps x d) (no_end p x d k.0) (some_no_end ps x d k.1)

  pub cases_no_end : (cs : Cases) (x : ℕ) (d : Dir) → free_in_cases cs x ≡ false → end_in_cases cs x d ≡ false
  cases_no_end no_case x d h = refl
  cases_no_end (and_case e p cs) x d h =
      let k = or_three (names e x) (free p x) (free_in_cases cs x) h in or_from (uses_end p x d) (end_in_cases cs x d) (no_end p x d k.1) (cases_no_end cs x d k.2)

  pub branches_no_end : (bs : Branches) (x : ℕ) (d : Dir) → free_in_branches bs x ≡ false → end_in_branches bs x d ≡ false
  branches_no_end no_branch x d h = refl
  branches_no_end (and_branch e w p bs) x d h =
      let k = or_four (names e x) (free_in_waiting w x) (free p x) (free_in_branches bs x) h in
      or_from (end_in_waiting w x d || uses_end p x d) (end_in_branches bs x d) (or_from (end_in_waiting w x d) (uses_end p x d) (waiting_no_end w x d k.1) (no_end p x d k.2)) (branches_no_end bs x d k.3)
