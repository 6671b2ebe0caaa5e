-- A part keeps the rule of usage under other names.
use Rattle.std.proofs.Common.{◌≡◌, ◌∙◌, ℕ, List, [], ◌∷◌, sym, subst}
use Rattle.occ_witness.proofs.from_renamed.Usage.{keeps_under}
use Rattle.occ_witness.proofs.from_meaning.RenamedTrees.{trees_agree}
use Rattle.occ_witness.proofs.from_meaning.Renaming.{exchange_is}
use Rattle.occ_witness.specs.occ_meaning.Rename.{exchanging, renamed, under}
use Rattle.occ_witness.proofs.from_read_renamed.Bounds.{below_top, top}
use Rattle.occ_witness.proofs.from_read_renamed.Exchanges.{Exchanges, applied, so_below, tree_twice, unapplied, unchanged}
use Rattle.occ_witness.specs.occ_renamed.Standing.{IsOneForOne}
use Rattle.occ_witness.specs.occ_syntax.Scopes.{Environment}
use Rattle.occ_witness.specs.occ_syntax.Tree.{Tree}
use Rattle.occ_witness.specs.occ_syntax.Usage.{Keeps, KeepsUsage}
use Rattle.occ_witness.proofs.from_usage.Law.{keeps_no_fault}
use Rattle.occ_witness.specs.occ_usage.Faults.{names_of}
use Rattle.occ_witness.specs.occ_usage.declared.fault.UsageFault.{UsageFault}
use Rattle.occ_witness.specs.occ_tool_run.Accepts.{Program, usage_faults}

-- of exchanged names, one pair after the other
all_kept : (pairs : Exchanges) (Γ : Environment) (p : Tree) → Keeps Γ p → Keeps (under (unapplied pairs) Γ) (renamed p (applied pairs))
all_kept [] Γ p h = subst (Keeps Γ) (sym (unchanged p)) h
all_kept (pair ∷ pairs) Γ p h =
    let ex = exchanging pair.0 pair.1 in
    subst (Keeps (under ex (under (unapplied pairs) Γ))) (tree_twice (applied pairs) ex p)
    (keeps_under (under (unapplied pairs) Γ) (renamed p (applied pairs)) ex (exchange_is pair.0 pair.1) (all_kept pairs Γ p h))

pub usage_kept : (f : ℕ → ℕ) → IsOneForOne f → (Γ : Environment) (p : Tree) → Keeps Γ p → KeepsUsage (renamed p f)
usage_kept f one Γ p h =
    let b = so_below f one (top p) in
    subst KeepsUsage (trees_agree p (applied b.pairs) f (λ x k. b.same x (below_top p x k))) (all_kept b.pairs Γ p h).usage

-- a program that keeps usage has no fault of it
pub faultless : (q : Program) (f : UsageFault) (fs : List UsageFault) → KeepsUsage q.body → usage_faults q ≡ f ∷ fs → ⊥
faultless q f fs keeps found =
    let bad : [] ≡ f ∷ fs = sym (keeps_no_fault q.body 0 (names_of q.params) keeps) ∙ found in
    cc
