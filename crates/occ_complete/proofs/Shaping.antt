-- Superpositions lead to processes of normal shape, by how much is left to do, where each step from one event to the next can be taken.
use Rattle.std.proofs.Common.{◌≡◌, ◌∙◌, ◌+◌, ℕ, zero, suc, true, List, [], ◌∷◌, length, map, refl, sym, ap, subst, arith}
use Rattle.std.specs.List.{AllByRecursion}
use Rattle.occ_complete.proofs.Cleared.{CasesEnd, IsKept, and_cases_end, branch_keeps, choices_end, no_cases_end, node_clears}
use Rattle.occ_complete.proofs.Kept.{clearing_keeps}
use Rattle.occ_complete.proofs.Renewed.{processes_by_branch, renewed_shaped}
use Rattle.occ_complete.specs.Clearing.{with_clearing}
use Rattle.occ_complete.specs.Followed.{IsFollowed, after_input, after_output, renewed}
use Rattle.occ_complete.specs.ProgramWays.{HasShape, Settles, Tells, Unifies}
use Rattle.occ_complete_states.specs.occ_derive_moves.Settled.{IsEventGuard, sends, takes}
use Rattle.occ_complete_states.specs.occ_derive_moves.Unified.{cleared}
use Rattle.occ_complete_states.proofs.from_derive_laws.Choices.{first_case, later_cases}
use Rattle.occ_complete_states.proofs.Leading.{leads_keep, leads_on}
use Rattle.occ_complete_states.specs.Configured.{Follows}
use Rattle.occ_complete_states.specs.Headers.{IsHeader}
use Rattle.occ_complete_states.specs.Leads.{Leads}
use Rattle.occ_complete_states.specs.Nodes.{GoesOnAsAny, IsUnifiedNode, any_of, process_cleared}
use Rattle.occ_complete_states.specs.States.{scope_of}
use Rattle.occ_complete_states.specs.Ways.{AreConfigured}
use Rattle.occ_complete_states.proofs.from_nform_table.Lists.{in_all}
use Rattle.occ_complete_states.specs.occ_behaviour.States.{is_state}
use Rattle.occ_engine.specs.occ_syntax.Scopes.{environment}
use Rattle.occ_engine.specs.occ_syntax.Tree.{Exp, Tree, Waiting, select}
use Rattle.occ_engine.specs.occ_syntax.Usage.{Keeps}
use Rattle.occ_complete_states.specs.occ_target.Rows.{variable_of}
use Rattle.occ_complete_states.specs.occ_target.States.{is_at, variables}
use Rattle.occ_complete_states.proofs.from_target_laws.Lists.{in_left}
use Rattle.occ_complete_states.specs.occ_target_laws.Shapes.{Header, IsShaped, Node, accepting, numbered, process_of}

no_less : (h : Header) (ps : List Tree) → AreConfigured h 0 ps → ⊥
no_less h [] c = c.some refl
no_less h (p ∷ ps) c = let light = c.each.0.light in absurd (omega (arith, light))

-- what follows a branch of a node, as it is in a normal program
pub record HasNext (h : Header) (b : Waiting × Tree) (q : Tree) : Type 0 where
  pub followed : IsFollowed h b.0 q
  pub leads : Leads (scope_of h) b.1 (with_clearing h q)

module _ (h : Header) (is : IsHeader h) (clears : IsKept (scope_of h) (variables h.inputs) (cleared h.inputs)) where
  abbrev Shapes : ℕ → Type 0
  Shapes limit = (ps : List Tree) → AreConfigured h limit ps → Keeps (environment (scope_of h)) (any_of ps) → HasShape h (any_of ps)

  -- the choices that follow an input
  record HasChoices (test : ℕ → Exp) (k : ℕ) (parts : List (List Tree)) : Type 0 where
    processes : List Tree
    count : length processes ≡ length parts
    shaped : AllByRecursion (IsShaped h) processes
    lead : CasesEnd (scope_of h) (variables h.inputs) (cleared h.inputs) (numbered test k (map any_of parts)) (numbered test k processes)

  choices : (limit : ℕ) → Shapes limit → (test : ℕ → Exp) (k : ℕ) (parts : List (List Tree)) → AllByRecursion (AreConfigured h limit) parts
      → Keeps (environment (scope_of h)) (select (numbered test k (map any_of parts))) → HasChoices test k parts
  choices limit shapes test k [] each keeps = record { processes = []; count = refl; shaped = tt; lead = no_cases_end }
  choices limit shapes test k (ps ∷ parts) each keeps =
      let Γ = environment (scope_of h) in
      let more = numbered test (k + 1) (map any_of parts) in
      let one = shapes ps each.0 (first_case Γ (test k) (any_of ps) more keeps).part in
      let rest = choices limit shapes test (k + 1) parts each.1 (later_cases Γ (test k) (any_of ps) more keeps) in
      record {
        processes = one.process ∷ rest.processes;
        count = ap suc rest.count;
        shaped = (one.shaped, rest.shaped);
        lead = and_cases_end one.leads rest.lead;
      }

  module _ (tells : Tells h) where
    next_any : (limit : ℕ) → Shapes limit → (g : Waiting) (ps : List Tree) → IsEventGuard h g → (ps ≡ [] → ⊥) → AllByRecursion (Follows h limit g) ps
        → Keeps (environment (scope_of h)) (any_of ps) → (q : Tree) × HasNext h (g, any_of ps) q
    next_any limit shapes g ps (sends c w v channel less) some each keeps =
        let shape = shapes ps (record { some = some; each = each }) keeps in
        (shape.process, record { followed = after_output c w v shape.process channel less shape.shaped; leads = shape.leads })
    next_any limit shapes g ps (takes c w channel) some each keeps =
        let S = scope_of h in
        let t = variable_of h.inputs w in
        let target = is.takes c w channel in
        let told = tells limit t w ps target.0 target.1 some each keeps in
        let kept = leads_keep S is.kept keeps told.leads in
        let chosen = choices limit shapes (is_at t w) 0 told.parts told.each kept in (
          select (numbered (is_at t w) 0 chosen.processes),
          record {
            followed = after_input c w chosen.processes channel (chosen.count ∙ told.count) chosen.shaped;
            leads = leads_on S told.leads (choices_end S is.kept (variables h.inputs) (cleared h.inputs) clears kept chosen.lead);
          },
        )

    next_of : (limit : ℕ) → Shapes limit → (b : Waiting × Tree) → IsEventGuard h b.0 → GoesOnAsAny (Follows h limit) b
        → Keeps (environment (scope_of h)) b.1 → (q : Tree) × HasNext h b q
    next_of limit shapes b guard goes keeps =
        let same : (b.0, any_of goes.parts) ≡ b = λ i. (b.0, sym goes.form i) in
        let found = next_any limit shapes b.0 goes.parts guard goes.some goes.each (subst (Keeps (environment (scope_of h))) goes.form keeps) in
        (found.0, subst (λ z. HasNext h z found.0) same found.1)

    node_shape : (limit : ℕ) → Shapes limit → (n : Node) → IsUnifiedNode h (Follows h limit) n → Keeps (environment (scope_of h)) (process_cleared h n)
        → HasShape h (process_cleared h n)
    node_shape limit shapes n u keeps =
        let Γ = environment (scope_of h) in
        let f = processes_by_branch h (HasNext h) n.events u.rising
        (λ b i. next_of limit shapes b (u.guards b i).0 (u.guards b i).1
        (branch_keeps Γ _ b (in_left _ _ b (in_left n.events (map accepting n.accepts) b i)) keeps)) in
        record {
          process = process_of h (renewed f.0 n);
          shaped = renewed_shaped h f.0 (Follows h limit) n u (λ b i. (f.1 b i).followed);
          leads = node_clears h is.kept n f.0 clears keeps (λ b i. (f.1 b i).leads) u.within
              (λ state i. in_all (λ z. is_state h.params z ≡ true) n.ends state u.states i);
        }

    module _ (settles : Settles h) (unifies : Unifies h) where
      pub superpositions_shape : (limit : ℕ) → Shapes limit
      superpositions_shape zero ps c keeps = absurd (no_less h ps c)
      superpositions_shape (suc limit) ps c keeps =
          let S = scope_of h in
          let settled = settles limit ps c in
          let kept = leads_keep S is.kept keeps settled.leads in
          let unified = unifies limit settled.branches settled.each kept in
          let shape = node_shape limit (superpositions_shape limit) unified.node unified.unified (leads_keep S is.kept kept unified.leads) in
          record {
            process = shape.process;
            shaped = shape.shaped;
            leads = leads_on S settled.leads (leads_on S unified.leads shape.leads);
          }

pub superpositions_are_shaped : (h : Header) (limit : ℕ) (ps : List Tree) → IsHeader h → Settles h → Unifies h → Tells h → AreConfigured h limit ps
    → Keeps (environment (scope_of h)) (any_of ps) → HasShape h (any_of ps)
superpositions_are_shaped h limit ps is settles unifies tells c keeps =
    superpositions_shape h is (clearing_keeps h.params h.inputs is.kept) tells settles unifies limit ps c keeps
