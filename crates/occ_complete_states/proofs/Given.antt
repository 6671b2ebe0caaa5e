-- The values that were input are told: behind each stand configurations.
use Rattle.std.proofs.Common.{◌≡◌, ◌+◌, ◌≤◌, ◌<◌, ◌^◌, ℕ, zero, suc, false, true, List, [], ◌∷◌, length, Some, refl, ap, subst, map, arith}
use Rattle.std.proofs.lemmas.Bool.{or_from}
use Rattle.std.specs.List.{AllByRecursion}
use Rattle.occ_derive_laws.specs.occ_base.declared.width.Width.{Width}
use Rattle.occ_derive_laws.specs.occ_base.Width.{bits_of}
use Rattle.occ_derive_laws.specs.occ_derive_moves.Unified.{is_target}
use Rattle.occ_complete_states.proofs.GivenTelling.{given_becomes, target_wide}
use Rattle.occ_complete_states.proofs.Values.{by_values, gets, gets_keeps, processes_of}
use Rattle.occ_complete_states.specs.Ways.{AreConfigured, IsChosen}
use Rattle.occ_derive_laws.proofs.Into.{alt_behind_law, constants_spare}
use Rattle.occ_derive_laws.proofs.Turns.{none_keeps, with_first}
use Rattle.occ_complete_states.proofs.Leading.{law_leads, leads_on}
use Rattle.occ_complete_states.proofs.Pointwise.{branches_lead, cases_lead}
use Rattle.occ_complete_states.specs.Configured.{IsConfigured, IsGiven}
use Rattle.occ_complete_states.specs.Headers.{IsHeader}
use Rattle.occ_complete_states.specs.Leads.{BranchesLead, CasesLead, Leads, and_branches, and_cases, no_branches, no_cases}
use Rattle.occ_complete_states.specs.Nodes.{any_of}
use Rattle.occ_complete_states.specs.States.{scope_of}
use Rattle.occ_complete_states.proofs.Facts.{constant_unnamed}
use Rattle.occ_derive_laws.specs.occ_law.Sequence.{each_guard_assigned}
use Rattle.occ_derive_laws.specs.occ_meaning.Parallel.{one, two}
use Rattle.occ_derive_laws.specs.occ_syntax.Names.{names}
use Rattle.occ_derive_laws.specs.occ_syntax.Scopes.{environment, variable_width}
use Rattle.occ_derive_laws.specs.occ_syntax.Tree.{Tree, Waiting, alt, and_branch, no_tree, ready, seq, truth}
use Rattle.occ_derive_laws.specs.occ_syntax.Usage.{Keeps}
use Rattle.occ_derive_laws.specs.occ_target.Rows.{guarded}
use Rattle.occ_derive_laws.specs.occ_target.States.{constant, is_at}
use Rattle.occ_derive_laws.specs.occ_target_laws.Shapes.{Header, numbered}

-- the branches that go on at once as these processes
abbrev at_once : List Tree → List (Waiting × Tree)
at_once ps = map (λ (p : Tree). (ready, p)) ps

-- each process behind an assignment
abbrev each_behind : Tree → List Tree → List Tree
each_behind a ps = map (λ (p : Tree). seq (two a p)) ps

assigned_each : (t : ℕ) (w : Width) (v : ℕ) (ps : List Tree)
    → each_guard_assigned (t ∷ []) (constant w v ∷ []) (guarded (at_once ps)) ≡ guarded (at_once (each_behind (gets t w v) ps))
assigned_each t w v [] = refl
assigned_each t w v (p ∷ ps) = ap (and_branch (truth true) ready (seq (two (gets t w v) p))) (assigned_each t w v ps)

module _ (h : Header) (is : IsHeader h) (t : ℕ) (w : Width) (target : is_target h t ≡ true) (et : variable_width (environment (scope_of h)) t ≡ Some w) (limit : ℕ) where
  -- ---- behind one value

  record AreTold (v : ℕ) (ps : List Tree) : Type 0 where
    parts : List Tree
    none : parts ≡ [] → ps ≡ []
    each : AllByRecursion (IsConfigured h limit) parts
    lead : BranchesLead (scope_of h) (guarded (at_once (each_behind (gets t w v) ps))) (guarded (at_once parts))

  all_told : (v : ℕ) → v < 2 ^ bits_of w → (ps : List Tree) → AllByRecursion (IsGiven h t limit) ps → AreTold v ps
  all_told v small [] all = record { parts = []; none = λ e. refl; each = tt; lead = no_branches }
  all_told v small (p ∷ ps) all =
      let first = given_becomes h is t w target et limit p all.0 v small in
      let more = all_told v small ps all.1 in
      record { parts = first.part ∷ more.parts; none = λ e. cc; each = (first.is, more.each); lead = and_branches first.leads more.lead }

  module _ (ps : List Tree) (some : ps ≡ [] → ⊥) (given : AllByRecursion (IsGiven h t limit) ps) (keeps : Keeps (environment (scope_of h)) (any_of ps)) where
    -- ---- behind each

    record IsOne (v : ℕ) : Type 0 where
      parts : List Tree
      are : AreConfigured h limit parts
      leads : Leads (scope_of h) (seq (two (gets t w v) (any_of ps))) (any_of parts)

    one_value : (v : ℕ) → v < 2 ^ bits_of w → IsOne v
    one_value v small =
        let S = scope_of h in
        let told = all_told v small ps given in
        let all = with_first (environment S) (gets t w v) (one (any_of ps)) (gets_keeps S is.kept t w (target_wide h is t w target et) et v small)
        (with_first (environment S) (any_of ps) no_tree keeps (none_keeps (environment S))) in
        let spares = constants_spare (t ∷ []) (constant w v ∷ []) (guarded (at_once ps)) (λ x. or_from (names (constant w v) x) false (constant_unnamed w v x) refl) in
        let into = subst (λ gs. Leads S (seq (two (gets t w v) (any_of ps))) (alt gs)) (assigned_each t w v ps)
        (law_leads S 11 (alt_behind_law S (t ∷ []) (constant w v ∷ []) (guarded (at_once ps)) all spares)) in
        record {
          parts = told.parts;
          are = record { some = λ e. some (told.none e); each = told.each };
          leads = leads_on S into (branches_lead S told.lead);
        }

    record AreAll (k m : ℕ) : Type 0 where
      parts : List (List Tree)
      count : length parts ≡ m
      each : AllByRecursion (AreConfigured h limit) parts
      lead : CasesLead (scope_of h) (numbered (is_at t w) k (processes_of (λ v. seq (two (gets t w v) (any_of ps))) k m)) (numbered (is_at t w) k (map any_of parts))

    all_values : (k m : ℕ) → k + m ≤ 2 ^ bits_of w → AreAll k m
    all_values k zero low = record { parts = []; count = refl; each = tt; lead = no_cases }
    all_values k (suc m) low =
        let first = one_value k (omega (arith, low)) in
        let more = all_values (k + 1) m (omega (arith, low)) in
        record { parts = first.parts ∷ more.parts; count = ap suc more.count; each = (first.are, more.each); lead = and_cases first.leads more.lead }

pub given_told : (h : Header) → IsHeader h → (limit t : ℕ) (w : Width) (ps : List Tree) → is_target h t ≡ true
    → variable_width (environment (scope_of h)) t ≡ Some w → (ps ≡ [] → ⊥) → AllByRecursion (IsGiven h t limit) ps
    → Keeps (environment (scope_of h)) (any_of ps) → IsChosen h t w limit (any_of ps)
given_told h is limit t w ps target et some given keeps =
    let S = scope_of h in
    let all = all_values h is t w target et limit ps some given keeps 0 (2 ^ bits_of w) (omega arith) in
    record {
      parts = all.parts;
      count = all.count;
      each = all.each;
      leads = leads_on S (by_values S is.kept t w (target_wide h is t w target et) et (any_of ps) keeps) (cases_lead S all.lead);
    }
