-- A script has one answer, and a derivation joins programs that are the same.
use Rattle.std.proofs.Common.{◌≡◌, ◌∷◌, ℕ, List, refl, sym, ap, subst, ◌∙◌}
use Rattle.occ_replay_rules.specs.Replays.{IsAstray, IsCutOff, IsDerivation, IsEnd, Replayed, Replays, breaks_usage, joined, lacking, wrong_end}
use Rattle.occ_replay_rules.specs.Steps.{Derives, Lack, Step}
use Rattle.occ_replay_rules.proofs.Deriving.{AreSound, derived_same, one}
use Rattle.occ_replay_rules.proofs.Stopping.{one_stop, stops_derives}
use Rattle.occ_print.specs.occ_syntax.declared.scope.Program.{Program}
use Rattle.occ_print.specs.occ_syntax.Same.{SAME}
use Rattle.occ_print.specs.occ_syntax.Scopes.{environment}
use Rattle.occ_print.specs.occ_syntax.Tree.{Tree}
use Rattle.occ_print.specs.occ_syntax.View.{tree}
use Rattle.occ_script_lines.specs.occ_usage.Accepted.{IsAccepted, IsFirst, usage_faults}
use Rattle.occ_script_lines.specs.occ_usage.declared.fault.UsageFault.{UsageFault}

-- an accepted program breaks no usage
unbroken : (from : Program) (fault : UsageFault) → IsAccepted from → IsFirst fault from → ⊥
unbroken from fault h f = f.broken h.keeps.usage

-- a program has one first fault
first_is_one : (from : Program) (a b : UsageFault) → IsFirst a from → IsFirst b from → a ≡ b
first_is_one from a b f g = at (usage_faults from) f.later g.later f.found g.found
  where
    at : (faults later more : List UsageFault) → faults ≡ a ∷ later → faults ≡ b ∷ more → a ≡ b
    at faults later more h k = cc

-- the program that steps end with isn't another one
straight : (from to : Program) (steps : List Step) → IsDerivation from steps to → IsAstray from steps to → ⊥
straight from to steps d w =
    w.differs (subst (λ (end : Tree). IsEnd from end to) (one from.params (tree from.body) d.end w.end steps d.derived w.derived) d.is_end)

uncut : (from : Program) (steps : List Step) (end : Tree) (n : ℕ) (lack : Lack) → IsCutOff from steps n lack → Derives from.params (tree from.body) steps end → ⊥
uncut from steps end n lack c d = stops_derives from.params (tree from.body) end steps n lack c.stops d

same_lacking : (from : Program) (steps : List Step) (n m : ℕ) (k l : Lack) → IsCutOff from steps n k → IsCutOff from steps m l → lacking n k ≡ lacking m l
same_lacking from steps n m k l c d =
    let same = one_stop from.params (tree from.body) steps n m k l c.stops d.stops in
    ap (λ (i : ℕ). lacking i k) same.0 ∙ ap (lacking m) same.1

-- a script has one answer
pub one_answer : (from to : Program) (steps : List Step) (a b : Replayed) → Replays from steps to a → Replays from steps to b → a ≡ b
one_answer from to steps joined joined h k = refl
one_answer from to steps joined (breaks_usage f) h k = absurd (unbroken from f h.accepted k)
one_answer from to steps joined (lacking m l) h k = absurd (uncut from steps h.end m l k h.derived)
one_answer from to steps joined wrong_end h k = absurd (straight from to steps h k)
one_answer from to steps (breaks_usage f) joined h k = absurd (unbroken from f k.accepted h)
one_answer from to steps (breaks_usage f) (breaks_usage g) h k = ap breaks_usage (first_is_one from f g h k)
one_answer from to steps (breaks_usage f) (lacking m l) h k = absurd (unbroken from f k.accepted h)
one_answer from to steps (breaks_usage f) wrong_end h k = absurd (unbroken from f k.accepted h)
one_answer from to steps (lacking n l) joined h k = absurd (uncut from steps k.end n l h k.derived)
one_answer from to steps (lacking n l) (breaks_usage f) h k = absurd (unbroken from f h.accepted k)
one_answer from to steps (lacking n l) (lacking m i) h k = same_lacking from steps n m l i h k
one_answer from to steps (lacking n l) wrong_end h k = absurd (uncut from steps k.end n l h k.derived)
one_answer from to steps wrong_end joined h k = absurd (straight from to steps k h)
one_answer from to steps wrong_end (breaks_usage f) h k = absurd (unbroken from f h.accepted k)
one_answer from to steps wrong_end (lacking m l) h k = absurd (uncut from steps h.end m l k h.derived)
one_answer from to steps wrong_end wrong_end h k = refl

-- a derivation joins programs that are the same
pub derivation_same : AreSound → (from to : Program) (steps : List Step) → IsDerivation from steps to → SAME (environment from.params) (tree from.body) (tree to.body)
derivation_same sound from to steps d =
    subst (λ (q : Tree). SAME (environment from.params) (tree from.body) q) (sym d.is_end.body)
    (derived_same sound from.params (tree from.body) d.end steps d.accepted.typed.scope d.accepted.keeps.types d.derived)
