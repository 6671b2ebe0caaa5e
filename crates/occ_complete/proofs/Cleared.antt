-- The clearing of the variables for inputs comes out of IFs and ALTs, and from ends.
use Rattle.std.proofs.Common.{◌≡◌, ◌∙◌, ◌++◌, ◌&&◌, ℕ, suc, true, List, [], ◌∷◌, length, map, refl, sym, ap, subst, inl, inr}
use Rattle.std.proofs.lemmas.Bool.{and_parts}
use Rattle.std.proofs.lemmas.List.{append_assoc}
use Rattle.occ_engine.specs.occ_base.declared.names.Name.{Name}
use Rattle.occ_complete_states.specs.occ_behaviour.States.{is_state}
use Rattle.occ_complete.proofs.ProgramParting.{end_parted}
use Rattle.occ_complete.specs.Clearing.{and_then, with_clearing}
use Rattle.occ_complete.specs.Followed.{renewed, with_next}
use Rattle.occ_complete_states.specs.occ_derive_moves.Unified.{cleared, ending_cleared}
use Rattle.occ_complete_states.proofs.from_derive_laws.Behind.{alt_law_back, if_law_back}
use Rattle.occ_complete_states.proofs.from_derive_laws.Turns.{none_keeps, with_first}
use Rattle.occ_complete_states.proofs.Leading.{law_leads_back, leads_keep, leads_on}
use Rattle.occ_complete_states.proofs.Pointwise.{branches_lead, cases_lead}
use Rattle.occ_complete_states.specs.Leads.{BranchesLead, CasesLead, Leads, and_branches, and_cases, no_branches, no_cases}
use Rattle.occ_complete_states.specs.Nodes.{process_cleared}
use Rattle.occ_complete_states.specs.States.{scope_of}
use Rattle.occ_complete_states.proofs.Beginning.{constant_stays}
use Rattle.occ_engine.specs.occ_law.Sequence.{each_branch_before, each_case_before}
use Rattle.occ_engine.specs.occ_meaning.Parallel.{one}
use Rattle.occ_engine.specs.occ_meaning.Substitution.{substituted}
use Rattle.occ_complete_states.specs.occ_nform_table.Lists.{In}
use Rattle.occ_engine.specs.occ_syntax.declared.scope.Kind.{Kind}
use Rattle.occ_engine.specs.occ_syntax.declared.scope.Kind.TheVariants.{Chan, Var}
use Rattle.occ_engine.specs.occ_syntax.Scopes.{Environment, environment}
use Rattle.occ_engine.specs.occ_syntax.Tree.{Branches, Cases, Exp, Tree, Waiting, alt, and_branch, and_case, assign, no_branch, no_case, no_tree, ready, select, seq, truth}
use Rattle.occ_engine.specs.occ_syntax.Types.{branches_kept, is_condition, is_pair, scope_kept, types_kept, waiting_kept}
use Rattle.occ_engine.specs.occ_syntax.Usage.{Keeps}
use Rattle.occ_complete_states.specs.occ_target.Rows.{guarded}
use Rattle.occ_complete_states.specs.occ_target.States.{constant, constants, ending, variables}
use Rattle.occ_complete_states.proofs.from_target_laws.Lists.{in_left, in_map, in_right}
use Rattle.occ_complete_states.specs.occ_target_laws.Shapes.{Header, Node, accepting, ending_in, process_of}

-- ---- IFs and ALTs

-- each process leads to that of the other one, and then the assignment
pub data CasesEnd (S : List (Name × Kind)) (ts : List ℕ) (es : List Exp) : Cases → Cases → Type 0 where
  no_cases_end : CasesEnd S ts es no_case no_case
  and_cases_end : {b : Exp} {p q : Tree} {cs ds : Cases} → Leads S p (and_then ts es q) → CasesEnd S ts es cs ds
      → CasesEnd S ts es (and_case b p cs) (and_case b q ds)

pub data BranchesEnd (S : List (Name × Kind)) (ts : List ℕ) (es : List Exp) : Branches → Branches → Type 0 where
  no_branches_end : BranchesEnd S ts es no_branch no_branch
  and_branches_end : {b : Exp} {w : Waiting} {p q : Tree} {gs hs : Branches} → Leads S p (and_then ts es q) → BranchesEnd S ts es gs hs
      → BranchesEnd S ts es (and_branch b w p gs) (and_branch b w q hs)

cases_alone : (S : List (Name × Kind)) (es : List Exp) {cs ds : Cases} → CasesEnd S [] es cs ds → CasesLead S cs ds
cases_alone S es no_cases_end = no_cases
cases_alone S es (and_cases_end a more) = and_cases a (cases_alone S es more)

cases_before : (S : List (Name × Kind)) (t : ℕ) (ts : List ℕ) (es : List Exp) {cs ds : Cases} → CasesEnd S (t ∷ ts) es cs ds
    → CasesLead S cs (each_case_before ds (one (assign (t ∷ ts) es)))
cases_before S t ts es no_cases_end = no_cases
cases_before S t ts es (and_cases_end a more) = and_cases a (cases_before S t ts es more)

branches_alone : (S : List (Name × Kind)) (es : List Exp) {gs hs : Branches} → BranchesEnd S [] es gs hs → BranchesLead S gs hs
branches_alone S es no_branches_end = no_branches
branches_alone S es (and_branches_end a more) = and_branches a (branches_alone S es more)

branches_before : (S : List (Name × Kind)) (t : ℕ) (ts : List ℕ) (es : List Exp) {gs hs : Branches} → BranchesEnd S (t ∷ ts) es gs hs
    → BranchesLead S gs (each_branch_before hs (one (assign (t ∷ ts) es)))
branches_before S t ts es no_branches_end = no_branches
branches_before S t ts es (and_branches_end a more) = and_branches a (branches_before S t ts es more)

-- the assignment keeps the rules, if it has variables
abbrev pub IsKept : List (Name × Kind) → List ℕ → List Exp → Type 0
IsKept S ts es = is_pair ts ≡ true → Keeps (environment S) (assign ts es)

alone_keeps : (Γ : Environment) (p : Tree) → Keeps Γ p → Keeps Γ (seq (one p))
alone_keeps Γ p k = with_first Γ p no_tree k (none_keeps Γ)

pub choices_end : (S : List (Name × Kind)) → scope_kept S ≡ true → (ts : List ℕ) (es : List Exp) → IsKept S ts es → {cs ds : Cases}
    → Keeps (environment S) (select cs) → CasesEnd S ts es cs ds → Leads S (select cs) (and_then ts es (select ds))
choices_end S kept [] es c k a = cases_lead S (cases_alone S es a)
choices_end S kept (t ∷ ts) es c {cs} {ds} k a =
    let to = cases_lead S (cases_before S t ts es a) in
    leads_on S to (law_leads_back S 12 (if_law_back S ds (one (assign (t ∷ ts) es)) (leads_keep S kept k to)
    (alone_keeps (environment S) (assign (t ∷ ts) es) (c refl))))

pub branches_end : (S : List (Name × Kind)) → scope_kept S ≡ true → (ts : List ℕ) (es : List Exp) → IsKept S ts es → {gs hs : Branches}
    → Keeps (environment S) (alt gs) → BranchesEnd S ts es gs hs → Leads S (alt gs) (and_then ts es (alt hs))
branches_end S kept [] es c k a = branches_lead S (branches_alone S es a)
branches_end S kept (t ∷ ts) es c {gs} {hs} k a =
    let to = branches_lead S (branches_before S t ts es a) in
    leads_on S to (law_leads_back S 13 (alt_law_back S hs (one (assign (t ∷ ts) es)) (leads_keep S kept k to)
    (alone_keeps (environment S) (assign (t ∷ ts) es) (c refl))))

-- ---- ends

pub cleared_stay : (inputs : List (Name × Kind)) (xs : List ℕ) (es : List Exp) → map (substituted xs es) (cleared inputs) ≡ cleared inputs
cleared_stay [] xs es = refl
cleared_stay ((name, Chan w d) ∷ inputs) xs es = cleared_stay inputs xs es
cleared_stay ((name, Var w) ∷ inputs) xs es =
    ap (λ y. y ∷ map (substituted xs es) (cleared inputs)) (constant_stays xs es w 0) ∙ ap (λ l. constant w 0 ∷ l) (cleared_stay inputs xs es)

pub cleared_count : (inputs : List (Name × Kind)) → length (cleared inputs) ≡ length (variables inputs)
cleared_count [] = refl
cleared_count ((name, Chan w d) ∷ inputs) = cleared_count inputs
cleared_count ((name, Var w) ∷ inputs) = ap suc (cleared_count inputs)

constants_count : (params : List (Name × Kind)) (state : List (Name × ℕ)) → is_state params state ≡ true
    → length (constants params state) ≡ length (variables params)
constants_count [] state h = refl
constants_count ((name, Chan w d) ∷ params) state h = constants_count params state h
constants_count ((name, Var w) ∷ params) [] h = absurd (cc)
constants_count ((name, Var w) ∷ params) (v ∷ state) h = ap suc (constants_count params state (and_parts _ (is_state params state) h).1)

pub ending_clears : (h : Header) → scope_kept (scope_of h) ≡ true → (state : List (Name × ℕ)) → is_state h.params state ≡ true
    → Keeps (environment (scope_of h)) (ending_cleared h state)
    → Leads (scope_of h) (ending_cleared h state) (with_clearing h (ending h.params state))
ending_clears h kept state is k =
    end_parted (scope_of h) kept (variables h.params) (variables h.inputs) (constants h.params state) (cleared h.inputs)
    (constants_count h.params state is) (cleared_count h.inputs) (cleared_stay h.inputs) k

-- ---- nodes

-- what branches keep
pub branch_keeps : (Γ : Environment) (bs : List (Waiting × Tree)) (b : Waiting × Tree) → In b bs → Keeps Γ (alt (guarded bs)) → Keeps Γ b.1
branch_keeps Γ [] b i k = absurd i
branch_keeps Γ (c ∷ cs) b (inl e) k =
    let t = and_parts (is_condition Γ (truth true) && waiting_kept Γ c.0 && types_kept c.1 Γ) (branches_kept (guarded cs) Γ) k.types in
    let u = and_parts (is_condition Γ (truth true) && waiting_kept Γ c.0) (types_kept c.1 Γ) t.0 in
    subst (λ z. Keeps Γ z.1) (sym e) (record { types = u.1; usage = k.usage.0 })
branch_keeps Γ (c ∷ cs) b (inr i) k =
    let t = and_parts (is_condition Γ (truth true) && waiting_kept Γ c.0 && types_kept c.1 Γ) (branches_kept (guarded cs) Γ) k.types in
    branch_keeps Γ cs b i (record { types = t.1; usage = k.usage.1 })

module _ (S : List (Name × Kind)) (ts : List ℕ) (es : List Exp) where
  events_end : (f : Waiting × Tree → Tree) (bs gs hs : List (Waiting × Tree)) → ((b : Waiting × Tree) → In b bs → Leads S b.1 (and_then ts es (f b)))
      → BranchesEnd S ts es (guarded gs) (guarded hs) → BranchesEnd S ts es (guarded (bs ++ gs)) (guarded (map (with_next f) bs ++ hs))
  events_end f [] gs hs a more = more
  events_end f (b ∷ bs) gs hs a more = and_branches_end (a b (inl refl)) (events_end f bs gs hs (λ c i. a c (inr i)) more)

  -- of branches alone
  only_events_end : (f : Waiting × Tree → Tree) (bs : List (Waiting × Tree)) → ((b : Waiting × Tree) → In b bs → Leads S b.1 (and_then ts es (f b)))
      → BranchesEnd S ts es (guarded bs) (guarded (map (with_next f) bs))
  only_events_end f [] a = no_branches_end
  only_events_end f (b ∷ bs) a = and_branches_end (a b (inl refl)) (only_events_end f bs (λ c i. a c (inr i)))

  module _ (kept : scope_kept S ≡ true) (c : IsKept S ts es) where
    accepts_end : (f : Waiting × Tree → Tree) (sets : List (List (Waiting × Tree))) (gs hs : List (Waiting × Tree))
        → ((set : List (Waiting × Tree)) → In set sets → Keeps (environment S) (alt (guarded set)))
        → ((set : List (Waiting × Tree)) → In set sets → (b : Waiting × Tree) → In b set → Leads S b.1 (and_then ts es (f b)))
        → BranchesEnd S ts es (guarded gs) (guarded hs)
        → BranchesEnd S ts es (guarded (map accepting sets ++ gs)) (guarded (map accepting (map (map (with_next f)) sets) ++ hs))
    accepts_end f [] gs hs k a more = more
    accepts_end f (set ∷ sets) gs hs k a more =
        and_branches_end (branches_end S kept ts es c (k set (inl refl)) (only_events_end f set (a set (inl refl))))
        (accepts_end f sets gs hs (λ u i. k u (inr i)) (λ u i. a u (inr i)) more)

module _ (h : Header) (kept : scope_kept (scope_of h) ≡ true) where
  ends_end : (states : List (List (Name × ℕ))) → ((state : List (Name × ℕ)) → In state states → is_state h.params state ≡ true)
      → ((state : List (Name × ℕ)) → In state states → Keeps (environment (scope_of h)) (ending_cleared h state))
      → BranchesEnd (scope_of h) (variables h.inputs) (cleared h.inputs) (guarded (map (λ state. (ready, ending_cleared h state)) states))
      (guarded (map (ending_in h) states))
  ends_end [] is k = no_branches_end
  ends_end (state ∷ states) is k =
      and_branches_end (ending_clears h kept state (is state (inl refl)) (k state (inl refl)))
      (ends_end states (λ u i. is u (inr i)) (λ u i. k u (inr i)))

  -- the clearing comes out of a node, where it comes out of what follows its events
  pub node_clears : (n : Node) (f : Waiting × Tree → Tree) → IsKept (scope_of h) (variables h.inputs) (cleared h.inputs)
      → Keeps (environment (scope_of h)) (process_cleared h n)
      → ((b : Waiting × Tree) → In b n.events → Leads (scope_of h) b.1 (with_clearing h (f b)))
      → ((set : List (Waiting × Tree)) → In set n.accepts → (b : Waiting × Tree) → In b set → In b n.events)
      → ((state : List (Name × ℕ)) → In state n.ends → is_state h.params state ≡ true)
      → Leads (scope_of h) (process_cleared h n) (with_clearing h (process_of h (renewed f n)))
  node_clears n f c k leads within states =
      let S = scope_of h in
      let Γ = environment S in
      let ts = variables h.inputs in
      let es = cleared h.inputs in
      let end : List (Name × ℕ) → Waiting × Tree = λ state. (ready, ending_cleared h state) in
      let accepts = map accepting n.accepts in
      let ends = map end n.ends in
      let later = map accepting (map (map (with_next f)) n.accepts) in
      let last = map (ending_in h) n.ends in
      let from : alt (guarded (n.events ++ (accepts ++ ends))) ≡ process_cleared h n = ap (λ l. alt (guarded l)) (sym (append_assoc n.events accepts ends)) in
      let to : alt (guarded (map (with_next f) n.events ++ (later ++ last))) ≡ process_of h (renewed f n) =
      ap (λ l. alt (guarded l)) (sym (append_assoc (map (with_next f) n.events) later last)) in
      let keeps : Keeps Γ (alt (guarded (n.events ++ (accepts ++ ends)))) = subst (Keeps Γ) (sym from) k in
      subst (λ z. Leads S z (with_clearing h (process_of h (renewed f n)))) from
      (subst (λ z. Leads S (alt (guarded (n.events ++ (accepts ++ ends)))) (with_clearing h z)) to
      (branches_end S kept ts es c keeps
      (events_end S ts es f n.events (accepts ++ ends) (later ++ last) leads
      (accepts_end S ts es kept c f n.accepts ends last
      (λ set i. branch_keeps Γ (n.events ++ (accepts ++ ends)) (accepting set)
      (in_right n.events (accepts ++ ends) (accepting set) (in_left accepts ends (accepting set) (in_map accepting n.accepts set i))) keeps)
      (λ set i b j. leads b (within set i b j))
      (ends_end n.ends states
      (λ state i. branch_keeps Γ (n.events ++ (accepts ++ ends)) (end state)
      (in_right n.events (accepts ++ ends) (end state) (in_right accepts ends (end state) (in_map end n.ends state i))) keeps))))))
