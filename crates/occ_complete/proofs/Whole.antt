-- Bodies that have a configuration for each initial state lead to bodies of normal programs.
use Rattle.std.proofs.Common.{◌≡◌, ◌∙◌, ◌+◌, ◌<◌, ◌++◌, ℕ, zero, suc, None, List, [], ◌∷◌, length, refl, sym, ap, subst, arith}
use Rattle.std.specs.List.{AllByRecursion}
use Rattle.occ_engine.specs.occ_base.declared.names.Name.{Name}
use Rattle.occ_complete.proofs.Cleared.{CasesEnd, and_cases_end, choices_end, no_cases_end}
use Rattle.occ_complete.proofs.Kept.{clearing_keeps}
use Rattle.occ_complete.proofs.Leaving.{clearing_goes}
use Rattle.occ_complete.proofs.Shaping.{superpositions_are_shaped}
use Rattle.occ_complete.specs.Begun.{HasBegun, HasShapedBody}
use Rattle.occ_complete.specs.ProgramWays.{HasShape, Settles, Tells, Unifies}
use Rattle.occ_complete_states.specs.occ_derive_moves.Unified.{cleared}
use Rattle.occ_complete_states.proofs.from_derive_laws.Holding.{law_skip}
use Rattle.occ_complete_states.proofs.from_derive_laws.Choices.{first_case, later_cases}
use Rattle.occ_complete_states.proofs.Leading.{declaring_leads, law_leads_back, leads_keep, leads_on}
use Rattle.occ_complete_states.proofs.Scopes.{declared_keeps, scope_front}
use Rattle.occ_complete_states.specs.Configured.{IsConfigured}
use Rattle.occ_complete_states.specs.Headers.{IsHeader}
use Rattle.occ_complete_states.specs.States.{scope_of}
use Rattle.occ_engine.specs.occ_syntax.declared.scope.Kind.{Kind}
use Rattle.occ_engine.specs.occ_syntax.declared.scope.Kind.TheVariants.{Chan, Var}
use Rattle.occ_engine.specs.occ_syntax.Declarations.{declaring_all}
use Rattle.occ_engine.specs.occ_syntax.Scopes.{environment}
use Rattle.occ_engine.specs.occ_syntax.Tree.{Exp, Tree, select}
use Rattle.occ_engine.specs.occ_syntax.Usage.{Keeps}
use Rattle.occ_complete_states.specs.occ_target.Rows.{part_at}
use Rattle.occ_complete_states.specs.occ_target.States.{variables}
use Rattle.occ_complete_states.specs.occ_target_laws.Bodies.{IsVariable, in_state}
use Rattle.occ_complete_states.specs.occ_target_laws.Shapes.{Header, IsShaped, numbered}
use Rattle.std.proofs.lemmas.List.{append-nil, append_assoc}

-- one configuration
pub configuration_is_shaped : (h : Header) (limit : ℕ) (c : Tree) → IsHeader h → Settles h → Unifies h → Tells h → IsConfigured h limit c
    → Keeps (environment (scope_of h)) c → HasShape h c
configuration_is_shaped h limit c is settles unifies tells configured keeps =
    let law = law_skip (scope_of h) c keeps in
    let shape = superpositions_are_shaped h limit (c ∷ []) is settles unifies tells (record { some = λ e. cc; each = (configured, tt) }) law.left in
    record { process = shape.process; shaped = shape.shaped; leads = leads_on (scope_of h) (law_leads_back (scope_of h) 30 law) shape.leads }

-- choices of them
record HasChoices (h : Header) (test : ℕ → Exp) (k : ℕ) (parts : List Tree) : Type 0 where
  processes : List Tree
  count : length processes ≡ length parts
  shaped : (i : ℕ) → i < length processes → IsShaped h (part_at processes i)
  lead : CasesEnd (scope_of h) (variables h.inputs) (cleared h.inputs) (numbered test k parts) (numbered test k processes)

choices_are_shaped : (h : Header) (limit : ℕ) (test : ℕ → Exp) (k : ℕ) (parts : List Tree) → IsHeader h → Settles h → Unifies h → Tells h
    → AllByRecursion (IsConfigured h limit) parts → Keeps (environment (scope_of h)) (select (numbered test k parts)) → HasChoices h test k parts
choices_are_shaped h limit test k [] is settles unifies tells each keeps =
    record { processes = []; count = refl; shaped = λ i l. absurd (omega (arith, l)); lead = no_cases_end }
choices_are_shaped h limit test k (c ∷ parts) is settles unifies tells each keeps =
    let Γ = environment (scope_of h) in
    let more = numbered test (k + 1) parts in
    let one = configuration_is_shaped h limit c is settles unifies tells each.0 (first_case Γ (test k) c more keeps).part in
    let rest = choices_are_shaped h limit test (k + 1) parts is settles unifies tells each.1 (later_cases Γ (test k) c more keeps) in
    record {
      processes = one.process ∷ rest.processes;
      count = ap suc rest.count;
      shaped = at one.process rest.processes one.shaped rest.shaped;
      lead = and_cases_end one.leads rest.lead;
    }
  where
    at : (p : Tree) (ps : List Tree) → IsShaped h p → ((i : ℕ) → i < length ps → IsShaped h (part_at ps i)) → (i : ℕ) → i < length (p ∷ ps)
        → IsShaped h (part_at (p ∷ ps) i)
    at p ps s f zero l = s
    at p ps s f (suc i) l = f i (omega (arith, l))

-- what is within declarations keeps the rules in their scope
pub within_keeps : (S ys : List (Name × Kind)) (p : Tree) → AllByRecursion (λ (y : Name × Kind). IsVariable y.1) ys → Keeps (environment S) (declaring_all ys p)
    → Keeps (environment (S ++ ys)) p
within_keeps S [] p all k = subst (λ U. Keeps (environment U) p) (sym (append-nil S)) k
within_keeps S ((name, Chan w d) ∷ ys) p all k = absurd all.0
within_keeps S ((name, Var w) ∷ ys) p all k =
    subst (λ U. Keeps (environment U) p) (append_assoc S ((name, Var w) ∷ []) ys)
    (within_keeps (S ++ (name, Var w) ∷ []) ys p all.1 (declared_keeps S name.0 w (declaring_all ys p) k))

pub only_variables : (h : Header) (ts : List (Name × Kind)) → AllByRecursion (λ (t : Name × Kind). IsVariable t.1 × (environment h.params t.0.0 ≡ None)) ts
    → AllByRecursion (λ (y : Name × Kind). IsVariable y.1) ts
only_variables h [] all = tt
only_variables h (t ∷ ts) all = (all.0.0, only_variables h ts all.1)

pub bodies_are_shaped : (h : Header) (limit : ℕ) (p : Tree) → IsHeader h → Settles h → Unifies h → Tells h → Keeps (environment h.params) p
    → HasBegun h limit p → HasShapedBody h p
bodies_are_shaped h limit p is settles unifies tells keeps begun =
    let S = h.params in
    let vars = only_variables h h.inputs is.declared in
    let kept = scope_front S h.inputs is.kept in
    let start = leads_keep S kept keeps begun.leads in
    let inner = within_keeps S h.inputs (select (numbered (in_state h) 0 begun.parts)) vars start in
    let chosen = choices_are_shaped h limit (in_state h) 0 begun.parts is settles unifies tells begun.each inner in
    let first = declaring_leads S h.inputs vars
    (choices_end (scope_of h) is.kept (variables h.inputs) (cleared h.inputs) (clearing_keeps S h.inputs is.kept) inner chosen.lead) in
    let last = clearing_goes S kept h.inputs vars is.kept (select (numbered (in_state h) 0 chosen.processes)) (leads_keep S kept start first) in
    record {
      body = declaring_all h.inputs (select (numbered (in_state h) 0 chosen.processes));
      shaped = record {
        parts = chosen.processes;
        count = chosen.count ∙ begun.count;
        shaped = chosen.shaped;
        declared = is.declared;
        form = refl;
      };
      leads = leads_on S begun.leads (leads_on S first last);
    }
