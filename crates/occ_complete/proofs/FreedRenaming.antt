-- A part under another name declares no more than that name and what it declared.
use Rattle.std.proofs.Common.{◌≡◌, ◌∙◌, ℕ, Bool, true, false, ◌||◌, ◌==◌, cond, if◌then◌else◌, List, refl, ap}
use Rattle.std.proofs.lemmas.Bool.{or_from, or_parts}
use Rattle.occ_complete_states.specs.occ_derive_moves.Apart.{has_declared, some_branch_declares, some_case_declares, some_declare}
use Rattle.occ_engine.specs.occ_meaning.Rename.{all_renamed, branches_renamed, cases_renamed, renamed, replacing}
use Rattle.occ_engine.specs.occ_syntax.Tree.{Branches, Cases, Tree, Trees, alt, and_branch, and_case, and_tree, assign, connect, declare, no_branch, no_case, no_tree, par, receive, select, send, seq, skip, stop}

name_renamed : (x z t y : ℕ) → (t == z) ≡ false → (t == y) ≡ false → (t == replacing x z y) ≡ false
name_renamed x z t y e f = at (y == x)
  where
    at : (b : Bool) → (t == (if b then z else y)) ≡ false
    at true = e
    at false = f

mutual
  pub declares_no_more : (p : Tree) (x z t : ℕ) → (t == z) ≡ false → has_declared p t ≡ false → has_declared (renamed p (replacing x z)) t ≡ false
  declares_no_more skip x z t e d = refl
  declares_no_more stop x z t e d = refl
  declares_no_more (assign xs es) x z t e d = refl
  declares_no_more (receive c y) x z t e d = refl
  declares_no_more (send c y) x z t e d = refl
  declares_no_more (seq ps) x z t e d = all_declare_no_more ps x z t e d
  declares_no_more (par ps) x z t e d = all_declare_no_more ps x z t e d
  declares_no_more (select cs) x z t e d = cases_declare_no_more cs x z t e d
  declares_no_more (alt gs) x z t e d = branches_declare_no_more gs x z t e d
  declares_no_more (declare y w p) x z t e d =
      let k = or_parts (t == y) (has_declared p t) d in
      or_from (t == replacing x z y) (has_declared (renamed p (replacing x z)) t) (name_renamed x z t y e k.0) (declares_no_more p x z t e k.1)
  declares_no_more (connect y w p) x z t e d =
      let k = or_parts (t == y) (has_declared p t) d in
      or_from (t == replacing x z y) (has_declared (renamed p (replacing x z)) t) (name_renamed x z t y e k.0) (declares_no_more p x z t e k.1)

  all_declare_no_more : (ps : Trees) (x z t : ℕ) → (t == z) ≡ false → some_declare ps t ≡ false → some_declare (all_renamed ps (replacing x z)) t ≡ false
  all_declare_no_more no_tree x z t e d = refl
  all_declare_no_more (and_tree p ps) x z t e d =
      let k = or_parts (has_declared p t) (some_declare ps t) d in
      or_from (has_declared (renamed p (replacing x z)) t) (some_declare (all_renamed ps (replacing x z)) t) (declares_no_more p x z t e k.0) (all_declare_no_more ps x z t e k.1)

  cases_declare_no_more : (cs : Cases) (x z t : ℕ) → (t == z) ≡ false → some_case_declares cs t ≡ false → some_case_declares (cases_renamed cs (replacing x z)) t ≡ false
  cases_declare_no_more no_case x z t e d = refl
  cases_declare_no_more (and_case b p cs) x z t e d =
      let k = or_parts (has_declared p t) (some_case_declares cs t) d in
      or_from (has_declared (renamed p (replacing x z)) t) (some_case_declares (cases_renamed cs (replacing x z)) t) (declares_no_more p x z t e k.0) (cases_declare_no_more cs x z t e k.1)

  branches_declare_no_more : (gs : Branches) (x z t : ℕ) → (t == z) ≡ false → some_branch_declares gs t ≡ false → some_branch_declares (branches_renamed gs (replacing x z)) t ≡ false
  branches_declare_no_more no_branch x z t e d = refl
  branches_declare_no_more (and_branch b w p gs) x z t e d =
      let k = or_parts (has_declared p t) (some_branch_declares gs t) d in
      or_from (has_declared (renamed p (replacing x z)) t) (some_branch_declares (branches_renamed gs (replacing x z)) t) (declares_no_more p x z t e k.0) (branches_declare_no_more gs x z t e k.1)
