-- A body begins where no variable is in scope: one is declared in front of it, which nothing names.
use Rattle.std.proofs.Common.{◌≡◌, ◌∙◌, ◌++◌, ◌+◌, ◌≤◌, ◌^◌, ℕ, false, true, List, [], ◌∷◌, None, refl, sym, ap, subst, arith}
use Rattle.std.proofs.lemmas.Nat.{pow_pos}
use Rattle.std.proofs.lemmas.List.{append-nil}
use Rattle.std.specs.List.{AllByRecursion}
use Rattle.occ_engine.specs.occ_base.declared.names.Name.{Name}
use Rattle.occ_engine.specs.occ_base.declared.width.Width.TheVariants.{Bool as Truth}
use Rattle.occ_engine.specs.occ_base.Width.{bits_of}
use Rattle.occ_complete.proofs.ProgramBeginning.{bodies_begin}
use Rattle.occ_complete.proofs.Nowhere.{away, few_behind, few_with}
use Rattle.occ_complete.proofs.ProgramParting.{behind_skip}
use Rattle.occ_complete.specs.Begun.{HasBegun}
use Rattle.occ_complete_states.specs.occ_derive_moves.Unified.{is_target}
use Rattle.occ_complete_states.specs.occ_derive_moves.Weight.{weight}
use Rattle.occ_complete_states.proofs.from_derive_laws.Rows.{unnamed_few}
use Rattle.occ_complete_states.proofs.from_derive_laws.IfHolding.{copy_law}
use Rattle.occ_complete_states.proofs.from_derive_laws.Declared.{round_last}
use Rattle.occ_complete_states.proofs.from_derive_laws.Values.{pair_comes}
use Rattle.occ_complete_states.proofs.from_derive_laws.Turns.{first_keeps, rest_keeps}
use Rattle.occ_complete_states.proofs.Nowhere.{nowhere_declared}
use Rattle.occ_complete_states.proofs.Fresh.{IsFresh, fresh_name}
use Rattle.occ_complete_states.proofs.Leading.{first_leads, law_leads, law_leads_back, leads_keep, leads_on}
use Rattle.occ_complete_states.proofs.Scopes.{declared_keeps, scope_front}
use Rattle.occ_complete_states.specs.Configured.{IsConfigured, IsLeft}
use Rattle.occ_complete_states.specs.Few.{IsFew}
use Rattle.occ_complete_states.specs.Headers.{IsHeader}
use Rattle.occ_complete_states.specs.Leads.{Leads}
use Rattle.occ_complete_states.specs.States.{facts, in_state, scope_of, told}
use Rattle.occ_complete_states.proofs.Ending.{facts_append, variables_append}
use Rattle.occ_engine.proofs.from_meaning.Facts.{false_not_true}
use Rattle.occ_engine.specs.occ_meaning.Parallel.{one, two}
use Rattle.occ_engine.specs.occ_meaning.Rename.{stands}
use Rattle.occ_complete_states.specs.occ_nform_table.Texts.{state_at_place}
use Rattle.occ_engine.proofs.from_script_lines.Scoping.{scope_kept-push}
use Rattle.occ_engine.specs.occ_syntax.declared.scope.Kind.{Kind}
use Rattle.occ_engine.specs.occ_syntax.declared.scope.Kind.TheVariants.{Chan, Var}
use Rattle.occ_engine.specs.occ_syntax.Counts.{bits_of_scope}
use Rattle.occ_engine.specs.occ_syntax.Declarations.{declaring_all}
use Rattle.occ_engine.specs.occ_syntax.Names.{is_in}
use Rattle.occ_engine.specs.occ_syntax.Scopes.{Values, environment}
use Rattle.occ_engine.specs.occ_syntax.Tree.{Tree, and_case, assign, declare, no_case, no_tree, select, seq, truth}
use Rattle.occ_engine.specs.occ_syntax.Types.{is_pair, scope_kept}
use Rattle.occ_engine.specs.occ_syntax.Usage.{Keeps}
use Rattle.occ_complete_states.specs.occ_target.States.{all_true, constant, tests, variables}
use Rattle.occ_complete_states.specs.occ_target_laws.Bodies.{IsVariable, in_state as initial}
use Rattle.occ_complete_states.specs.occ_target_laws.Shapes.{Header, numbered}

-- ---- no variables

none_left : {A : Type 0} (xs ys : List A) → xs ++ ys ≡ [] → xs ≡ []
none_left [] ys e = refl
none_left (x ∷ xs) ys e = cc

none_right : {A : Type 0} (xs ys : List A) → xs ++ ys ≡ [] → ys ≡ []
none_right [] ys e = e
none_right (x ∷ xs) ys e = cc

no_inputs : (I : List (Name × Kind)) → AllByRecursion (λ (t : Name × Kind). IsVariable t.1) I → variables I ≡ [] → I ≡ []
no_inputs [] all e = refl
no_inputs ((name, Chan w d) ∷ I) all e = absurd all.0
no_inputs ((name, Var w) ∷ I) all e = cc

no_bits : (S : List (Name × Kind)) → variables S ≡ [] → bits_of_scope S ≡ 0
no_bits [] e = refl
no_bits ((name, Chan w d) ∷ S) e = let rest = no_bits S e in omega (arith, rest)
no_bits ((name, Var w) ∷ S) e = cc

no_tests : (S : List (Name × Kind)) (state : List (Name × ℕ)) → variables S ≡ [] → tests S state ≡ []
no_tests [] state e = refl
no_tests ((name, Chan w d) ∷ S) state e = no_tests S state e
no_tests ((name, Var w) ∷ S) state e = cc

no_facts : (S : List (Name × Kind)) (s : Values) → variables S ≡ [] → facts S s ≡ []
no_facts [] s e = refl
no_facts ((name, Chan w d) ∷ S) s e = no_facts S s e
no_facts ((name, Var w) ∷ S) s e = cc

only : (h : Header) (I : List (Name × Kind)) → AllByRecursion (λ (t : Name × Kind). IsVariable t.1 × (environment h.params t.0.0 ≡ None)) I
    → AllByRecursion (λ (t : Name × Kind). IsVariable t.1) I
only h [] all = tt
only h (t ∷ I) all = (all.0.0, only h I all.1)

module _ (h : Header) (is : IsHeader h) (p : Tree) (keeps : Keeps (environment h.params) p) (few : IsFew h.params p) (none : variables (scope_of h) ≡ []) where
  abbrev S : List (Name × Kind)
  S = h.params

  abbrev T : List (Name × Kind)
  T = scope_of h

  split : variables S ++ variables h.inputs ≡ []
  split = sym (variables_append S h.inputs) ∙ none

  inputs_none : h.inputs ≡ []
  inputs_none = no_inputs h.inputs (only h h.inputs is.declared) (none_right (variables S) (variables h.inputs) split)

  params_none : variables S ≡ []
  params_none = none_left (variables S) (variables h.inputs) split

  same_scope : S ≡ T
  same_scope = sym (append-nil S) ∙ ap (λ l. S ++ l) (sym inputs_none)

  front : scope_kept S ≡ true
  front = scope_front S h.inputs is.kept

  found : IsFresh S p
  found = fresh_name S p

  abbrev ys : List (Name × Kind)
  ys = (record { 0 = found.name }, Var Truth) ∷ []

  abbrev zero_state : Values
  zero_state = λ x. 0

  abbrev opened : Tree
  opened = declare found.name Truth (seq (two (assign (found.name ∷ []) (constant Truth 0 ∷ [])) p))

  opens : Leads S p opened
  opens =
      let y = found.name in
      let first = behind_skip S p keeps in
      let come = pair_comes S y Truth [] [] (constant Truth 0) found.new refl refl refl in
      let second = first_leads S (one p) (law_leads_back S 55 come) in
      let kept = leads_keep S front (leads_keep S front keeps first) second in
      let round = round_last S y Truth (assign (y ∷ []) (constant Truth 0 ∷ [])) p kept (nowhere_declared p y found.nowhere) in
      leads_on S first (leads_on S second (law_leads_back S 50 round))

  within : Keeps (environment (S ++ ys)) p
  within =
      let y = found.name in
      let both = declared_keeps S y Truth (seq (two (assign (y ∷ []) (constant Truth 0 ∷ [])) p)) (leads_keep S front keeps opens) in
      first_keeps (environment (S ++ ys)) p no_tree (rest_keeps (environment (S ++ ys)) (assign (y ∷ []) (constant Truth 0 ∷ [])) (one p) both)

  told_is : told (T ++ ys) zero_state ≡ assign (found.name ∷ []) (constant Truth 0 ∷ [])
  told_is = λ i. assign ((variables_append T ys ∙ ap (λ l. l ++ found.name ∷ []) none) i)
      ((facts_append T ys zero_state ∙ ap (λ l. l ++ constant Truth 0 ∷ []) (no_facts T zero_state none)) i)

  form : opened ≡ in_state T ys zero_state p
  form = λ i. declare found.name Truth (seq (two (sym told_is i) p))

  no_target : (t : ℕ) {A : Type 0} → is_target h t ≡ true → A
  no_target t e = false_not_true (sym (ap (λ l. is_in (variables l) t) inputs_none) ∙ e)

  is_left : IsLeft h ys p
  is_left = record {
    scope = subst (λ U. scope_kept (U ++ ys) ≡ true) same_scope (scope_kept-push S (record { 0 = found.name }) (Var Truth) front found.new refl);
    vars = (tt, tt);
    filled = ap is_pair (variables_append T ys ∙ ap (λ l. l ++ found.name ∷ []) none);
    keeps = subst (λ U. Keeps (environment (U ++ ys)) p) same_scope within;
    few = subst (λ U. IsFew (U ++ ys) p) same_scope (few_behind S p (record { 0 = found.name }, Var Truth) found.nowhere few);
    spared = λ t e. no_target t e;
  }

  configured : IsConfigured h (weight p + 1) opened
  configured = record {
    ys = ys;
    state = zero_state;
    left = p;
    form = form;
    is_left = is_left;
    is_clear = record { state = λ x w e. pow_pos (bits_of w); clear = λ t e. refl };
    light = omega arith;
  }

  pub unfilled_begins : HasBegun h (weight p + 1) p
  unfilled_begins =
      let law = copy_law S opened (truth true ∷ []) (unnamed_few S (truth true ∷ []) (λ x. refl)) (λ s state. refl) refl (leads_keep S front keeps opens) in
      let test : initial h 0 ≡ truth true = ap all_true (no_tests S (state_at_place S 0) params_none) in
      record {
        parts = opened ∷ [];
        count = ap (λ n. 2 ^ n) (sym (no_bits S params_none));
        each = (configured, tt);
        leads = leads_on S opens
            (subst (λ l. Leads S opened (declaring_all l (select (numbered (initial h) 0 (opened ∷ []))))) (sym inputs_none)
            (subst (λ b. Leads S opened (select (and_case b opened no_case))) (sym test) (law_leads S 24 law)));
      }

pub body_begins : (h : Header) (p : Tree) → IsHeader h → Keeps (environment h.params) p → IsFew h.params p
    → AllByRecursion (λ (t : Name × Kind). stands p t.0.0 ≡ false) h.inputs → bits_of_scope h.params ≤ 16 → HasBegun h (weight p + 1) p
body_begins h p is keeps few nowhere bits = at (variables (scope_of h)) refl
  where
    at : (zs : List ℕ) → variables (scope_of h) ≡ zs → HasBegun h (weight p + 1) p
    at [] e = unfilled_begins h is p keeps few e
    at (z ∷ zs) e = bodies_begin h is p keeps (few_with h.params h.inputs p nowhere few) (away h p nowhere) bits (ap is_pair e)
