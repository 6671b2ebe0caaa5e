-- What stands nowhere isn't declared.
use Rattle.std.proofs.Common.{◌≡◌, ℕ, ◌==◌, false, ◌||◌, refl}
use Rattle.std.proofs.lemmas.Bool.{or_from, or_parts}
use Rattle.occ_derive_laws.specs.occ_derive_moves.Apart.{has_declared, some_branch_declares, some_case_declares, some_declare}
use Rattle.occ_derive_laws.specs.occ_meaning.Rename.{stands, stands_in_branches, stands_in_cases, stands_in_some, stands_in_waiting}
use Rattle.occ_derive_laws.specs.occ_syntax.Names.{names}
use Rattle.occ_derive_laws.specs.occ_syntax.Tree.{Branches, Cases, Tree, Trees, alt, and_branch, and_case, and_tree, assign, connect, declare, no_branch, no_case, no_tree, par, receive, select, send, seq, skip, stop}

-- a name that stands nowhere in a part isn't declared there
mutual
  pub nowhere_declared : (p : Tree) (y : ℕ) → stands p y ≡ false → has_declared p y ≡ false
  nowhere_declared skip y h = refl
  nowhere_declared stop y h = refl
  nowhere_declared (assign xs es) y h = refl
  nowhere_declared (receive c x) y h = refl
  nowhere_declared (send c e) y h = refl
  nowhere_declared (seq ps) y h = none_declares ps y h
  nowhere_declared (par ps) y h = none_declares ps y h
  nowhere_declared (select cs) y h = no_case_declares cs y h
  nowhere_declared (alt gs) y h = no_branch_declares gs y h
  nowhere_declared (declare x w p) y h = let k = or_parts (y == x) (stands p y) h in or_from (y == x) (has_declared p y) k.0 (nowhere_declared p y k.1)
  nowhere_declared (connect c w p) y h = let k = or_parts (y == c) (stands p y) h in or_from (y == c) (has_declared p y) k.0 (nowhere_declared p y k.1)

  none_declares : (ps : Trees) (y : ℕ) → stands_in_some ps y ≡ false → some_declare ps y ≡ false
  none_declares no_tree y h = refl
  none_declares (and_tree p ps) y h =
      let k = or_parts (stands p y) (stands_in_some ps y) h in or_from (has_declared p y) (some_declare ps y) (nowhere_declared p y k.0) (none_declares ps y k.1)

  no_case_declares : (cs : Cases) (y : ℕ) → stands_in_cases cs y ≡ false → some_case_declares cs y ≡ false
  no_case_declares no_case y h = refl
  no_case_declares (and_case b p cs) y h =
      let k = or_parts (names b y || stands p y) (stands_in_cases cs y) h in
      or_from (has_declared p y) (some_case_declares cs y) (nowhere_declared p y (or_parts (names b y) (stands p y) k.0).1) (no_case_declares cs y k.1)

  no_branch_declares : (gs : Branches) (y : ℕ) → stands_in_branches gs y ≡ false → some_branch_declares gs y ≡ false
  no_branch_declares no_branch y h = refl
  no_branch_declares (and_branch b w p gs) y h =
      let k = or_parts ((names b y || stands_in_waiting w y) || stands p y) (stands_in_branches gs y) h in
      or_from (has_declared p y) (some_branch_declares gs y) (nowhere_declared p y (or_parts (names b y || stands_in_waiting w y) (stands p y) k.0).1)
      (no_branch_declares gs y k.1)
