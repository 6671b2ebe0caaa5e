-- The steps that a control tree can still take at most: each step lowers them, and settling doesn't raise them.
use Rattle.occ_meaning.specs.occ_base.declared.event.Dir.TheVariants.{Input}
use Rattle.occ_meaning.specs.occ_base.declared.width.Width.{Width}
use Rattle.occ_run_steps.proofs.Leading.{numbered_is}
use Rattle.occ_run_steps.proofs.Lists.{Is, filtered_is, first, is_either, later, mapped_is}
use Rattle.occ_run_steps.proofs.Stepping.{AllIs, Which, of_one, of_rest, of_two, which}
use Rattle.occ_run_steps.specs.Control.{Control, Controls, after, all_done, and_control, both, channel, done, local, no_control, unbegun}
use Rattle.occ_run_steps.specs.Leads.{Leads, at_rest, by_step, start, stepped}
use Rattle.occ_run_steps.specs.Settled.{all_settled, begun, begun_all, begun_choice, begun_turn, in_channel, in_variable, settled, then_turn}
use Rattle.occ_run_steps.specs.Step.{Step, changed, is_off, leaving, step}
use Rattle.occ_run_steps.specs.Steps.{alone_steps, branch_steps, guard_steps, pair_steps, process_steps, steps, values_of, within}
use Rattle.occ_meaning.specs.occ_syntax.Counts.{controls, controls_of_all, controls_of_branches, controls_of_cases}
use Rattle.occ_meaning.specs.occ_syntax.Eval.{is_true}
use Rattle.occ_meaning.specs.occ_syntax.Scopes.{Environment, Trace, Values, channel_width, with_name, with_value}
use Rattle.occ_meaning.specs.occ_syntax.Tree.{Branches, Cases, Tree, Trees, Waiting, alt, and_branch, and_case, and_tree, assign, connect, declare, input, no_branch, no_case, no_tree, output, par, ready, receive, select, send, seq, skip, stop}
use Rattle.occ_meaning.specs.occ_syntax.declared.scope.Kind.TheVariants.{Chan, Var}
use Rattle.std.proofs.Common.{Bool, List, None, Some, [], ap, arith, false, if◌then◌else◌, inl, inr, length, refl, suc, true, ℕ, ◌+◌, ◌++◌, ◌<◌, ◌∷◌, ◌≡◌, ◌≤◌}
use Rattle.std.specs.List.{filter}

abbrev mutual
  -- the steps that a process can take at most
  pub part_work : Tree → ℕ
  part_work skip = 0
  part_work stop = 0
  part_work (assign xs es) = 1
  part_work (receive c x) = 1
  part_work (send c e) = 1
  part_work (seq ps) = parts_work ps
  part_work (par ps) = parts_work ps
  part_work (select cs) = cases_work cs
  part_work (alt bs) = branches_work bs
  part_work (declare x w p) = 1 + part_work p
  part_work (connect c w p) = part_work p

  pub parts_work : Trees → ℕ
  parts_work no_tree = 0
  parts_work (and_tree p ps) = part_work p + parts_work ps

  pub cases_work : Cases → ℕ
  cases_work no_case = 0
  cases_work (and_case e p cs) = part_work p + cases_work cs

  pub branches_work : Branches → ℕ
  branches_work no_branch = 0
  branches_work (and_branch e w p bs) = 1 + part_work p + branches_work bs

abbrev mutual
  -- the steps that a control tree can take at most
  pub work : Control → ℕ
  work done = 0
  work (unbegun p) = part_work p
  work (after C ps) = work C + parts_work ps
  work (both Cs) = works Cs
  work (local x w v C) = work C
  work (channel c w C) = work C

  pub works : Controls → ℕ
  works no_control = 0
  works (and_control C Cs) = work C + works Cs

-- ---- no more than the controls of the program

mutual
  -- a process takes no more steps than it has controls
  pub work_bounded : (p : Tree) → part_work p ≤ controls p
  work_bounded skip = omega arith
  work_bounded stop = omega arith
  work_bounded (assign xs es) = omega arith
  work_bounded (receive c x) = omega arith
  work_bounded (send c e) = omega arith
  work_bounded (seq ps) = let h = parts_bounded ps in omega arith
  work_bounded (par ps) = let h = parts_bounded ps in omega arith
  work_bounded (select cs) = let h = cases_bounded cs in omega arith
  work_bounded (alt bs) = let h = branches_bounded bs in omega arith
  work_bounded (declare x w p) = let h = work_bounded p in omega arith
  work_bounded (connect c w p) = let h = work_bounded p in omega arith

  parts_bounded : (ps : Trees) → parts_work ps ≤ controls_of_all ps
  parts_bounded no_tree = omega arith
  parts_bounded (and_tree p ps) = let h = work_bounded p in let k = parts_bounded ps in omega arith

  cases_bounded : (cs : Cases) → cases_work cs ≤ controls_of_cases cs
  cases_bounded no_case = omega arith
  cases_bounded (and_case e p cs) = let h = work_bounded p in let k = cases_bounded cs in omega arith

  branches_bounded : (bs : Branches) → branches_work bs ≤ controls_of_branches bs
  branches_bounded no_branch = omega arith
  branches_bounded (and_branch e w p bs) = let h = work_bounded p in let k = branches_bounded bs in omega arith

-- ---- settling

then_work : (C : Control) (ps : Trees) (next : Control) (n : ℕ) → work C ≤ n → work next ≤ parts_work ps → work (then_turn C ps next) ≤ n + parts_work ps
then_work done ps next n h k = omega arith
then_work (unbegun p) ps next n h k = omega arith
then_work (after C qs) ps next n h k = omega arith
then_work (both Cs) ps next n h k = omega arith
then_work (local x w v C) ps next n h k = omega arith
then_work (channel c w C) ps next n h k = omega arith

either_work : (b : Bool) (C D : Control) (n : ℕ) → work C ≤ n → work D ≤ n → work (if b then C else D) ≤ n
either_work true C D n h k = h
either_work false C D n h k = k

variable_work : (x : ℕ) (w : Width) (v : ℕ) (C : Control) (n : ℕ) → work C ≤ n → work (in_variable x w v C) ≤ n
variable_work x w v done n h = h
variable_work x w v (unbegun p) n h = h
variable_work x w v (after C qs) n h = h
variable_work x w v (both Cs) n h = h
variable_work x w v (local y u a C) n h = h
variable_work x w v (channel c u C) n h = h

channel_work : (c : ℕ) (w : Width) (C : Control) (n : ℕ) → work C ≤ n → work (in_channel c w C) ≤ n
channel_work c w done n h = h
channel_work c w (unbegun p) n h = h
channel_work c w (after C qs) n h = h
channel_work c w (both Cs) n h = h
channel_work c w (local y u a C) n h = h
channel_work c w (channel b u C) n h = h

mutual
  -- beginning adds no step
  begun_work : (Γ : Environment) (s : Values) (p : Tree) → work (begun Γ s p) ≤ part_work p
  begun_work Γ s skip = omega arith
  begun_work Γ s stop = omega arith
  begun_work Γ s (assign xs es) = omega arith
  begun_work Γ s (receive c x) = omega arith
  begun_work Γ s (send c e) = omega arith
  begun_work Γ s (seq ps) = turn_work Γ s ps
  begun_work Γ s (par ps) = let k = all_begun_work Γ s ps in either_work (all_done (begun_all Γ s ps)) done (both (begun_all Γ s ps)) (parts_work ps) (omega arith) k
  begun_work Γ s (select cs) = choice_work Γ s cs
  begun_work Γ s (alt bs) = omega arith
  begun_work Γ s (declare x w p) = omega arith
  begun_work Γ s (connect c w p) = channel_work c w (begun (with_name Γ c (Chan w None)) s p) (part_work p) (begun_work (with_name Γ c (Chan w None)) s p)

  turn_work : (Γ : Environment) (s : Values) (ps : Trees) → work (begun_turn Γ s ps) ≤ parts_work ps
  turn_work Γ s no_tree = omega arith
  turn_work Γ s (and_tree p ps) = then_work (begun Γ s p) ps (begun_turn Γ s ps) (part_work p) (begun_work Γ s p) (turn_work Γ s ps)

  all_begun_work : (Γ : Environment) (s : Values) (ps : Trees) → works (begun_all Γ s ps) ≤ parts_work ps
  all_begun_work Γ s no_tree = omega arith
  all_begun_work Γ s (and_tree p ps) = let h = begun_work Γ s p in let k = all_begun_work Γ s ps in omega arith

  choice_work : (Γ : Environment) (s : Values) (cs : Cases) → work (begun_choice Γ s cs) ≤ cases_work cs
  choice_work Γ s no_case = omega arith
  choice_work Γ s (and_case e p cs) =
      let h = begun_work Γ s p in let k = choice_work Γ s cs in
      either_work (is_true Γ e s) (begun Γ s p) (begun_choice Γ s cs) (part_work p + cases_work cs) (omega arith) (omega arith)

mutual
  -- settling adds no step
  pub settled_work : (Γ : Environment) (s : Values) (C : Control) → work (settled Γ s C) ≤ work C
  settled_work Γ s done = omega arith
  settled_work Γ s (unbegun p) = begun_work Γ s p
  settled_work Γ s (after C ps) = then_work (settled Γ s C) ps (begun_turn Γ s ps) (work C) (settled_work Γ s C) (turn_work Γ s ps)
  settled_work Γ s (both Cs) = let k = all_settled_work Γ s Cs in either_work (all_done (all_settled Γ s Cs)) done (both (all_settled Γ s Cs)) (works Cs) (omega arith) k
  settled_work Γ s (local x w v C) = variable_work x w v (settled (with_name Γ x (Var w)) (with_value s x v) C) (work C) (settled_work (with_name Γ x (Var w)) (with_value s x v) C)
  settled_work Γ s (channel c w C) = channel_work c w (settled (with_name Γ c (Chan w None)) s C) (work C) (settled_work (with_name Γ c (Chan w None)) s C)

  all_settled_work : (Γ : Environment) (s : Values) (Cs : Controls) → works (all_settled Γ s Cs) ≤ works Cs
  all_settled_work Γ s no_control = omega arith
  all_settled_work Γ s (and_control C Cs) = let h = settled_work Γ s C in let k = all_settled_work Γ s Cs in omega arith

-- ---- a step

guard_work : (Γ : Environment) (s : Values) (w : Waiting) (p : Tree) (k : Step Control) → Is k (guard_steps Γ s w p) → work k.next ≡ part_work p
guard_work Γ s ready p k first = refl
guard_work Γ s ready p k (later i) = elim i [ ]
guard_work Γ s (output c z) p k first = refl
guard_work Γ s (output c z) p k (later i) = elim i [ ]
guard_work Γ s (input c x) p k i =
    let m = mapped_is (λ v. step (Some (record { chan = record { 0 = c }; dir = Input; value = v })) ((x, v) ∷ []) (unbegun p)) k (values_of (channel_width Γ c)) i in
    ap (λ j. work j.next) m.2

enabled_work : (b : Bool) (ks : List (Step Control)) (k : Step Control) (n : ℕ) → Is k (if b then ks else []) → (Is k ks → work k.next ≡ n) → work k.next ≡ n
enabled_work true ks k n i h = h i
enabled_work false ks k n i h = elim i [ ]

branch_work : (Γ : Environment) (s : Values) (bs : Branches) (k : Step Control) → Is k (branch_steps Γ s bs) → work k.next < branches_work bs
branch_work Γ s no_branch k i = elim i [ ]
branch_work Γ s (and_branch e w p bs) k i =
    elim (is_either k (if is_true Γ e s then guard_steps Γ s w p else []) (branch_steps Γ s bs) i) [
      | inl h ↦ (let m = enabled_work (is_true Γ e s) (guard_steps Γ s w p) k (part_work p) h (guard_work Γ s w p k) in omega arith)
      | inr h ↦ (let m = branch_work Γ s bs k h in omega arith)
    ]

process_work : (Γ : Environment) (s : Values) (p : Tree) (k : Step Control) → Is k (process_steps Γ s p) → work k.next < part_work p
process_work Γ s skip k i = elim i [ ]
process_work Γ s stop k i = elim i [ ]
process_work Γ s (assign xs es) k first = omega arith
process_work Γ s (assign xs es) k (later i) = elim i [ ]
process_work Γ s (receive c x) k i = elim i [ ]
process_work Γ s (send c e) k i = elim i [ ]
process_work Γ s (seq ps) k i = elim i [ ]
process_work Γ s (par ps) k i = elim i [ ]
process_work Γ s (select cs) k i = elim i [ ]
process_work Γ s (alt bs) k i = branch_work Γ s bs k i
process_work Γ s (declare x w p) k i =
    let m = mapped_is (λ v. step None [] (local x w v (unbegun p))) k (values_of (Some w)) i in
    let e : work k.next ≡ part_work p = ap (λ j. work j.next) m.2 in omega arith
process_work Γ s (connect c w p) k i = elim i [ ]

which_work : (Γ : Environment) (s : Values) (C : Control) (Cs : Controls) → ((k : Step Control) → Is k (steps Γ s C) → work k.next < work C)
    → ((l : Step Controls) → AllIs Γ s Cs l → works l.next < works Cs) → (j : Step Controls) → Which Γ s C Cs j → works j.next < work C + works Cs
which_work Γ s C Cs h hs j (of_one k i) = let a = h k i in omega arith
which_work Γ s C Cs h hs j (of_rest l i) = let a = hs l i in omega arith
which_work Γ s C Cs h hs j (of_two k l i n m) = let a = h k i in let b = hs l n in omega arith

mutual
  -- each step leaves less to do
  pub step_work : (Γ : Environment) (s : Values) (C : Control) (k : Step Control) → Is k (steps Γ s C) → work k.next < work C
  step_work Γ s done k i = elim i [ ]
  step_work Γ s (unbegun p) k i = process_work Γ s p k i
  step_work Γ s (after C ps) k i =
      let m = mapped_is (leaving (λ D. after D ps)) k (steps Γ s C) i in
      let e : work k.next ≡ work m.0.next + parts_work ps = ap (λ j. work j.next) m.2 in
      let h = step_work Γ s C m.0 m.1 in omega arith
  step_work Γ s (both Cs) k i =
      let m = mapped_is (leaving both) k (alone_steps Γ s Cs ++ pair_steps Γ s Cs) i in
      let e : work k.next ≡ works m.0.next = ap (λ j. work j.next) m.2 in
      let h = all_step_work Γ s Cs m.0 m.1 in omega arith
  step_work Γ s (local x w v C) k i =
      let m = mapped_is (within x w (with_value s x v)) k (steps (with_name Γ x (Var w)) (with_value s x v) C) i in
      let e : work k.next ≡ work m.0.next = ap (λ j. work j.next) m.2 in
      let h = step_work (with_name Γ x (Var w)) (with_value s x v) C m.0 m.1 in omega arith
  step_work Γ s (channel c w C) k i =
      let m = mapped_is (leaving (channel c w)) k (filter (is_off c) (steps (with_name Γ c (Chan w None)) s C)) i in
      let f = filtered_is (is_off c) m.0 (steps (with_name Γ c (Chan w None)) s C) m.1 in
      let e : work k.next ≡ work m.0.next = ap (λ j. work j.next) m.2 in
      let h = step_work (with_name Γ c (Chan w None)) s C m.0 f.0 in omega arith

  -- the same of trees at once
  all_step_work : (Γ : Environment) (s : Values) (Cs : Controls) (k : Step Controls) → AllIs Γ s Cs k → works k.next < works Cs
  all_step_work Γ s no_control k i = elim i [ ]
  all_step_work Γ s (and_control C Cs) k i = which_work Γ s C Cs (step_work Γ s C) (all_step_work Γ s Cs) k (which Γ s C Cs k i)

-- what a step leaves, settled, has less to do
pub stepped_work : (Γ : Environment) (s : Values) (C : Control) (k : Step Control) → Is k (steps Γ s C) → work (stepped Γ s k) < work C
stepped_work Γ s C k i = let h = step_work Γ s C k i in let j = settled_work Γ (changed k.changes s) k.next in omega arith

-- a schedule has no more steps than there is to do
pub schedule_bounded : (Γ : Environment) (s : Values) (C : Control) (ns : List ℕ) (t : Trace) (r : Values) (D : Control) → Leads Γ s C ns t r D
    → length ns + work D ≤ work C
schedule_bounded Γ s C ns t r D at_rest = omega arith
schedule_bounded Γ s C ns t r D (by_step {ns = ms} {t = a} n k e l) =
    let h = stepped_work Γ s C k (numbered_is (steps Γ s C) n k e) in
    let j = schedule_bounded Γ (changed k.changes s) (stepped Γ s k) ms a r D l in
    let m : length (n ∷ ms) ≡ suc (length ms) = refl in omega arith

-- a schedule from a program's start has no more steps than the program has controls
pub program_bounded : (Γ : Environment) (s : Values) (p : Tree) (ns : List ℕ) (t : Trace) (r : Values) (D : Control) → Leads Γ s (start Γ s p) ns t r D
    → length ns ≤ controls p
program_bounded Γ s p ns t r D l =
    let h = schedule_bounded Γ s (start Γ s p) ns t r D l in
    let j = settled_work Γ s (unbegun p) in
    let k = work_bounded p in omega arith
