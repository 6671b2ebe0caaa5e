-- The rules are kept where names are exchanged.
use Rattle.occ_replay_rules.specs.occ_base.declared.event.Dir.{Dir}
use Rattle.occ_renamed.proofs.Names.{end_under, free_under, written_under}
use Rattle.occ_replay_rules.proofs.from_meaning.RenamedTrees.{types_under}
use Rattle.occ_replay_rules.proofs.from_meaning.Renaming.{IsExchange}
use Rattle.occ_replay_rules.specs.occ_meaning.Rename.{all_renamed, branches_renamed, cases_renamed, renamed, under}
use Rattle.occ_replay_rules.specs.occ_syntax.Names.{free, uses_end, written}
use Rattle.occ_replay_rules.specs.occ_syntax.Scopes.{Environment}
use Rattle.occ_replay_rules.specs.occ_syntax.Tree.{Branches, Cases, Tree, Trees, alt, and_branch, and_case, and_tree, assign, connect, declare, no_branch, no_case, no_tree, par, receive, select, send, seq, skip, stop}
use Rattle.occ_replay_rules.specs.occ_syntax.Usage.{AllKeepUsage, AreSeparate, BranchesKeepUsage, CasesKeepUsage, IsSeparate, Keeps, KeepsUsage}
use Rattle.std.proofs.Common.{ap, sym, ℕ, ◌∙◌, ◌≡◌}

-- what stands in the part under other names, by the name that it was
free_at : (p : Tree) (f : ℕ → ℕ) → IsExchange f → (x : ℕ) → free (renamed p f) x ≡ free p (f x)
free_at p f inv x = ap (free (renamed p f)) (sym (inv x)) ∙ free_under p f inv (f x)

written_at : (p : Tree) (f : ℕ → ℕ) → IsExchange f → (x : ℕ) → written (renamed p f) x ≡ written p (f x)
written_at p f inv x = ap (written (renamed p f)) (sym (inv x)) ∙ written_under p f inv (f x)

end_at : (p : Tree) (f : ℕ → ℕ) → IsExchange f → (c : ℕ) (d : Dir) → uses_end (renamed p f) c d ≡ uses_end p (f c) d
end_at p f inv c d = ap (λ b. uses_end (renamed p f) b d) (sym (inv c)) ∙ end_under p f inv (f c) d

separate_under : (p q : Tree) (f : ℕ → ℕ) → IsExchange f → IsSeparate p q → IsSeparate (renamed p f) (renamed q f)
separate_under p q f inv s = record {
  first_writes = λ x h. free_at q f inv x ∙ s.first_writes (f x) (sym (written_at p f inv x) ∙ h);
  second_writes = λ x h. free_at p f inv x ∙ s.second_writes (f x) (sym (written_at q f inv x) ∙ h);
  ends = λ c d h. end_at q f inv c d ∙ s.ends (f c) d (sym (end_at p f inv c d) ∙ h);
}

all_separate_under : (ps : Trees) (f : ℕ → ℕ) → IsExchange f → AreSeparate ps → AreSeparate (all_renamed ps f)
all_separate_under no_tree f inv s = tt
all_separate_under (and_tree p ps) f inv s = (separate_under p (par ps) f inv s.0, all_separate_under ps f inv s.1)

mutual
  pub usage_under : (p : Tree) (f : ℕ → ℕ) → IsExchange f → KeepsUsage p → KeepsUsage (renamed p f)
  usage_under skip f inv k = tt
  usage_under stop f inv k = tt
  usage_under (assign xs es) f inv k = tt
  usage_under (receive c x) f inv k = tt
  usage_under (send c e) f inv k = tt
  usage_under (seq ps) f inv k = all_usage_under ps f inv k
  usage_under (par ps) f inv k = (all_usage_under ps f inv k.0, all_separate_under ps f inv k.1)
  usage_under (select cs) f inv k = cases_usage_under cs f inv k
  usage_under (alt bs) f inv k = branches_usage_under bs f inv k
  usage_under (declare x w p) f inv k = usage_under p f inv k
  usage_under (connect c w p) f inv k = usage_under p f inv k

  all_usage_under : (ps : Trees) (f : ℕ → ℕ) → IsExchange f → AllKeepUsage ps → AllKeepUsage (all_renamed ps f)
  all_usage_under no_tree f inv k = tt
  all_usage_under (and_tree p ps) f inv k = (usage_under p f inv k.0, all_usage_under ps f inv k.1)

  cases_usage_under : (cs : Cases) (f : ℕ → ℕ) → IsExchange f → CasesKeepUsage cs → CasesKeepUsage (cases_renamed cs f)
  cases_usage_under no_case f inv k = tt
  cases_usage_under (and_case e p cs) f inv k = (usage_under p f inv k.0, cases_usage_under cs f inv k.1)

  branches_usage_under : (bs : Branches) (f : ℕ → ℕ) → IsExchange f → BranchesKeepUsage bs → BranchesKeepUsage (branches_renamed bs f)
  branches_usage_under no_branch f inv k = tt
  branches_usage_under (and_branch e w p bs) f inv k = (usage_under p f inv k.0, branches_usage_under bs f inv k.1)

pub keeps_under : (Γ : Environment) (p : Tree) (f : ℕ → ℕ) → IsExchange f → Keeps Γ p → Keeps (under f Γ) (renamed p f)
keeps_under Γ p f inv k = record { types = types_under p f inv Γ ∙ k.types; usage = usage_under p f inv k.usage }
