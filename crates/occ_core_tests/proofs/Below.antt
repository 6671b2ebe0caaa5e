-- Names below a number are below a greater one; the name that was brought in last is in the table.
use Rattle.std.proofs.Common.{◌≡◌, ℕ, ◌<◌, ◌≤◌, List, [], ◌∷◌, length, ap, arith, ⊎_elim}
use Rattle.std.specs.Prelude.{Result, Ok, Err, IfOk, OnOk}
use Rattle.std.specs.List.{AllByRecursion}
use Rattle.std.proofs.lemmas.Bool.{cases_lt}
use Rattle.std.proofs.lemmas.List.{length-append}
use Rattle.occ_desk.specs.occ_base.Names.{place_of, with_text}
use Rattle.occ_desk.specs.occ_base.declared.memory.Memory.{Memory}
use Rattle.occ_desk.proofs.from_base.Naming.{with_there, with_new, place-le}
use Rattle.occ_desk.specs.occ_base.declared.names.Name.{Name}
use Rattle.occ_syntax.specs.declared.scope.Kind.{Kind}
use Rattle.occ_syntax.specs.Tree.{Exp, variable, numeral, truth, negation, complement, operation, Waiting, ready, input, output, Tree, skip, stop, assign, receive, send, seq, par, select, alt, declare, connect, Trees, no_tree, and_tree, Cases, no_case, and_case, Branches, no_branch, and_branch}
use Rattle.occ_gen.specs.occ_print.Known.{ExpIsKnown, WaitingIsKnown, PartIsKnown, PartsAreKnown, CasesAreKnown, BranchesAreKnown, ProgramIsKnown}

pub all_greater : {X : Type 0} (P Q : X → Type 0) → ((x : X) → P x → Q x) → (xs : List X) → AllByRecursion P xs → AllByRecursion Q xs
all_greater P Q f [] h = tt
all_greater P Q f (x ∷ xs) h = (f x h.0, all_greater P Q f xs h.1)

exp_greater : (m n : ℕ) → m ≤ n → (e : Exp) → ExpIsKnown m e → ExpIsKnown n e
exp_greater m n l (variable x) h = omega (arith, l, h)
exp_greater m n l (numeral bits value) h = tt
exp_greater m n l (truth b) h = tt
exp_greater m n l (negation e) h = exp_greater m n l e h
exp_greater m n l (complement e) h = exp_greater m n l e h
exp_greater m n l (operation o left right) h = (exp_greater m n l left h.0, exp_greater m n l right h.1)

waiting_greater : (m n : ℕ) → m ≤ n → (w : Waiting) → WaitingIsKnown m w → WaitingIsKnown n w
waiting_greater m n l ready h = tt
waiting_greater m n l (input c x) h = (omega (arith, l, h.0), omega (arith, l, h.1))
waiting_greater m n l (output c e) h = (omega (arith, l, h.0), exp_greater m n l e h.1)

mutual
  pub part_greater : (m n : ℕ) → m ≤ n → (p : Tree) → PartIsKnown m p → PartIsKnown n p
  part_greater m n l skip h = tt
  part_greater m n l stop h = tt
  part_greater m n l (assign xs es) h =
      (all_greater (λ (x : ℕ). x < m) (λ (x : ℕ). x < n) (λ x k. omega (arith, l, k)) xs h.0, all_greater (ExpIsKnown m) (ExpIsKnown n) (exp_greater m n l) es h.1)
  part_greater m n l (receive c x) h = (omega (arith, l, h.0), omega (arith, l, h.1))
  part_greater m n l (send c e) h = (omega (arith, l, h.0), exp_greater m n l e h.1)
  part_greater m n l (seq ps) h = parts_greater m n l ps h
  part_greater m n l (par ps) h = parts_greater m n l ps h
  part_greater m n l (select cs) h = cases_greater m n l cs h
  part_greater m n l (alt bs) h = branches_greater m n l bs h
  part_greater m n l (declare x w p) h = (omega (arith, l, h.0), part_greater m n l p h.1)
  part_greater m n l (connect c w p) h = (omega (arith, l, h.0), part_greater m n l p h.1)

  parts_greater : (m n : ℕ) → m ≤ n → (ps : Trees) → PartsAreKnown m ps → PartsAreKnown n ps
  parts_greater m n l no_tree h = tt
  parts_greater m n l (and_tree p ps) h = (part_greater m n l p h.0, parts_greater m n l ps h.1)

  cases_greater : (m n : ℕ) → m ≤ n → (cs : Cases) → CasesAreKnown m cs → CasesAreKnown n cs
  cases_greater m n l no_case h = tt
  cases_greater m n l (and_case e p cs) h = (exp_greater m n l e h.0, part_greater m n l p h.1, cases_greater m n l cs h.2)

  branches_greater : (m n : ℕ) → m ≤ n → (bs : Branches) → BranchesAreKnown m bs → BranchesAreKnown n bs
  branches_greater m n l no_branch h = tt
  branches_greater m n l (and_branch e w p bs) h =
      (exp_greater m n l e h.0, waiting_greater m n l w h.1, part_greater m n l p h.2, branches_greater m n l bs h.3)

place_within : (names : List (List ℕ)) (text : List ℕ) → place_of names text < length (with_text names text)
place_within names text = ⊎_elim
    (λ (h : place_of names text < length names). omega (arith, h, ap length (with_there names text h)))
    (λ (h : length names ≤ place_of names text). omega (arith, place-le names text, ap length (with_new names text h), length-append names (text ∷ [])))
    (cases_lt (place_of names text) (length names))

pub last_within : (r : Result Name Memory) (old new : List (List ℕ)) (text : List ℕ) → IfOk r (λ name. name.0 ≡ place_of old text) → OnOk r (new ≡ with_text old text)
    → IfOk r (λ name. name.0 < length new)
last_within (Ok name) old new text e f = omega (arith, e, ap length f, place_within old text)
last_within (Err x) old new text e f = tt

pub program_within : (m : ℕ) (names : List (List ℕ)) (name : ℕ) (params : List (Name × Kind)) (body : Tree) → m < length names → name ≤ m
    → AllByRecursion (λ (p : Name × Kind). p.0.0 < m) params → PartIsKnown m body → ProgramIsKnown names name params body
program_within m names name params body l h k b = record {
  name_is = omega (arith, l, h);
  params_are = all_greater (λ (p : Name × Kind). p.0.0 < m) (λ (p : Name × Kind). p.0.0 < length names) (λ p j. omega (arith, l, j)) params k;
  body_is = part_greater m (length names) (omega (arith, l)) body b;
}
