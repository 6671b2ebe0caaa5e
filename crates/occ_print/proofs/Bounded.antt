-- The greatest name of a part is below a number exactly where all its names are.
use Rattle.std.proofs.Common.{◌≡◌, ◌<◌, ℕ, max, arith, List, [], ◌∷◌}
use Rattle.std.specs.List.{AllByRecursion}
use Rattle.occ_print.specs.Known.{BranchesAreKnown, CasesAreKnown, ExpIsKnown, PartIsKnown, PartsAreKnown, WaitingIsKnown}
use Rattle.occ_print.specs.Greatest.{greatest, greatest_in, greatest_of_all, greatest_of_branches, greatest_of_cases, greatest_of_exps, greatest_of_names, greatest_waiting}
use Rattle.occ_syntax.specs.Tree.{Exp, variable, numeral, truth, negation, complement, operation, Waiting, ready, input, output, Tree, skip, stop, assign, receive, send, seq, par, select, alt, declare, connect, Trees, no_tree, and_tree, Cases, no_case, and_case, Branches, no_branch, and_branch}

-- ---- all are below, and so was what there was

exp_below : (n : ℕ) (e : Exp) (m : ℕ) → greatest_in e m < n → (m < n) × ExpIsKnown n e
exp_below n (variable x) m h = (omega (arith, h), omega (arith, h))
exp_below n (numeral bits value) m h = (h, tt)
exp_below n (truth b) m h = (h, tt)
exp_below n (negation e) m h = exp_below n e m h
exp_below n (complement e) m h = exp_below n e m h
exp_below n (operation o left right) m h =
    let r = exp_below n right (greatest_in left m) h in
    let l = exp_below n left m r.0 in
    (l.0, (l.1, r.1))

exps_below : (n : ℕ) (es : List Exp) (m : ℕ) → greatest_of_exps es m < n → (m < n) × AllByRecursion (ExpIsKnown n) es
exps_below n [] m h = (h, tt)
exps_below n (e ∷ es) m h =
    let r = exps_below n es (greatest_in e m) h in
    let l = exp_below n e m r.0 in
    (l.0, (l.1, r.1))

names_below : (n : ℕ) (xs : List ℕ) (m : ℕ) → greatest_of_names xs m < n → (m < n) × AllByRecursion (λ x. x < n) xs
names_below n [] m h = (h, tt)
names_below n (x ∷ xs) m h =
    let r = names_below n xs (max m x) h in
    (omega (arith, r.0), (omega (arith, r.0), r.1))

waiting_below : (n : ℕ) (w : Waiting) (m : ℕ) → greatest_waiting w m < n → (m < n) × WaitingIsKnown n w
waiting_below n ready m h = (h, tt)
waiting_below n (input c x) m h = (omega (arith, h), (omega (arith, h), omega (arith, h)))
waiting_below n (output c e) m h =
    let r = exp_below n e (max m c) h in
    (omega (arith, r.0), (omega (arith, r.0), r.1))

mutual
  pub part_below : (n : ℕ) (p : Tree) (m : ℕ) → greatest p m < n → (m < n) × PartIsKnown n p
  part_below n skip m h = (h, tt)
  part_below n stop m h = (h, tt)
  part_below n (assign xs es) m h =
      let r = exps_below n es (greatest_of_names xs m) h in
      let l = names_below n xs m r.0 in
      (l.0, (l.1, r.1))
  part_below n (receive c x) m h = (omega (arith, h), (omega (arith, h), omega (arith, h)))
  part_below n (send c e) m h =
      let r = exp_below n e (max m c) h in
      (omega (arith, r.0), (omega (arith, r.0), r.1))
  part_below n (seq ps) m h = parts_below n ps m h
  part_below n (par ps) m h = parts_below n ps m h
  part_below n (select cs) m h = cases_below n cs m h
  part_below n (alt bs) m h = branches_below n bs m h
  part_below n (declare x w p) m h =
      let r = part_below n p (max m x) h in
      (omega (arith, r.0), (omega (arith, r.0), r.1))
  part_below n (connect c w p) m h =
      let r = part_below n p (max m c) h in
      (omega (arith, r.0), (omega (arith, r.0), r.1))

  parts_below : (n : ℕ) (ps : Trees) (m : ℕ) → greatest_of_all ps m < n → (m < n) × PartsAreKnown n ps
  parts_below n no_tree m h = (h, tt)
  parts_below n (and_tree p ps) m h =
      let r = parts_below n ps (greatest p m) h in
      let l = part_below n p m r.0 in
      (l.0, (l.1, r.1))

  cases_below : (n : ℕ) (cs : Cases) (m : ℕ) → greatest_of_cases cs m < n → (m < n) × CasesAreKnown n cs
  cases_below n no_case m h = (h, tt)
  cases_below n (and_case e p cs) m h =
      let r = cases_below n cs (greatest p (greatest_in e m)) h in
      let k = part_below n p (greatest_in e m) r.0 in
      let l = exp_below n e m k.0 in
      (l.0, (l.1, k.1, r.1))

  branches_below : (n : ℕ) (bs : Branches) (m : ℕ) → greatest_of_branches bs m < n → (m < n) × BranchesAreKnown n bs
  branches_below n no_branch m h = (h, tt)
  branches_below n (and_branch e w p bs) m h =
      let r = branches_below n bs (greatest p (greatest_waiting w (greatest_in e m))) h in
      let k = part_below n p (greatest_waiting w (greatest_in e m)) r.0 in
      let j = waiting_below n w (greatest_in e m) k.0 in
      let l = exp_below n e m j.0 in
      (l.0, (l.1, j.1, k.1, r.1))

-- ---- and back

exp_known : (n : ℕ) (e : Exp) (m : ℕ) → m < n → ExpIsKnown n e → greatest_in e m < n
exp_known n (variable x) m h k = omega (arith, h, k)
exp_known n (numeral bits value) m h k = h
exp_known n (truth b) m h k = h
exp_known n (negation e) m h k = exp_known n e m h k
exp_known n (complement e) m h k = exp_known n e m h k
exp_known n (operation o left right) m h k = exp_known n right (greatest_in left m) (exp_known n left m h k.0) k.1

exps_known : (n : ℕ) (es : List Exp) (m : ℕ) → m < n → AllByRecursion (ExpIsKnown n) es → greatest_of_exps es m < n
exps_known n [] m h k = h
exps_known n (e ∷ es) m h k = exps_known n es (greatest_in e m) (exp_known n e m h k.0) k.1

names_known : (n : ℕ) (xs : List ℕ) (m : ℕ) → m < n → AllByRecursion (λ x. x < n) xs → greatest_of_names xs m < n
names_known n [] m h k = h
names_known n (x ∷ xs) m h k = let l = k.0 in names_known n xs (max m x) (omega (arith, h, l)) k.1

waiting_known : (n : ℕ) (w : Waiting) (m : ℕ) → m < n → WaitingIsKnown n w → greatest_waiting w m < n
waiting_known n ready m h k = h
waiting_known n (input c x) m h k = let a = k.0 in let b = k.1 in omega (arith, h, a, b)
waiting_known n (output c e) m h k = let a = k.0 in exp_known n e (max m c) (omega (arith, h, a)) k.1

mutual
  pub part_known : (n : ℕ) (p : Tree) (m : ℕ) → m < n → PartIsKnown n p → greatest p m < n
  part_known n skip m h k = h
  part_known n stop m h k = h
  part_known n (assign xs es) m h k = exps_known n es (greatest_of_names xs m) (names_known n xs m h k.0) k.1
  part_known n (receive c x) m h k = let a = k.0 in let b = k.1 in omega (arith, h, a, b)
  part_known n (send c e) m h k = let a = k.0 in exp_known n e (max m c) (omega (arith, h, a)) k.1
  part_known n (seq ps) m h k = parts_known n ps m h k
  part_known n (par ps) m h k = parts_known n ps m h k
  part_known n (select cs) m h k = cases_known n cs m h k
  part_known n (alt bs) m h k = branches_known n bs m h k
  part_known n (declare x w p) m h k = let a = k.0 in part_known n p (max m x) (omega (arith, h, a)) k.1
  part_known n (connect c w p) m h k = let a = k.0 in part_known n p (max m c) (omega (arith, h, a)) k.1

  parts_known : (n : ℕ) (ps : Trees) (m : ℕ) → m < n → PartsAreKnown n ps → greatest_of_all ps m < n
  parts_known n no_tree m h k = h
  parts_known n (and_tree p ps) m h k = parts_known n ps (greatest p m) (part_known n p m h k.0) k.1

  cases_known : (n : ℕ) (cs : Cases) (m : ℕ) → m < n → CasesAreKnown n cs → greatest_of_cases cs m < n
  cases_known n no_case m h k = h
  cases_known n (and_case e p cs) m h k =
      cases_known n cs (greatest p (greatest_in e m)) (part_known n p (greatest_in e m) (exp_known n e m h k.0) k.1) k.2

  branches_known : (n : ℕ) (bs : Branches) (m : ℕ) → m < n → BranchesAreKnown n bs → greatest_of_branches bs m < n
  branches_known n no_branch m h k = h
  branches_known n (and_branch e w p bs) m h k =
      branches_known n bs (greatest p (greatest_waiting w (greatest_in e m)))
      (part_known n p (greatest_waiting w (greatest_in e m)) (waiting_known n w (greatest_in e m) (exp_known n e m h k.0) k.1) k.2) k.3
