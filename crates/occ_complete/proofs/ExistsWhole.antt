-- Each part leads to a body of normal shape, and so to the normal body of its table.
use Rattle.std.proofs.Common.{◌≡◌, ◌+◌, ◌≤◌, List, true, refl, subst, sym}
use Rattle.occ_engine.specs.occ_base.declared.names.Name.{Name}
use Rattle.occ_complete.proofs.Headers.{tables_have_headers}
use Rattle.occ_complete.proofs.Unfilled.{body_begins}
use Rattle.occ_complete.proofs.Whole.{bodies_are_shaped}
use Rattle.occ_complete.specs.Begun.{HasShapedBody}
use Rattle.occ_complete.specs.Tables.{header_of}
use Rattle.occ_complete.specs.ProgramWays.{Settles}
use Rattle.occ_complete.proofs.Apart.{nowhere, numbers_of}
use Rattle.occ_complete.proofs.Few.{is_few}
use Rattle.occ_complete.proofs.ExistsHeaders.{have_widths, own_header, own_is_header}
use Rattle.occ_complete.specs.Meeting.{AreMarked, Meet}
use Rattle.occ_complete_states.specs.occ_derive_moves.Weight.{weight}
use Rattle.occ_complete.proofs.Freeing.{part_freed}
use Rattle.occ_complete_states.proofs.Given.{given_told}
use Rattle.occ_complete_states.proofs.Leading.{leads_on, sparing_leads, spares_keep}
use Rattle.occ_complete_states.specs.Few.{IsFew}
use Rattle.occ_complete_states.specs.Headers.{IsHeader}
use Rattle.occ_complete_states.specs.Leads.{Leads}
use Rattle.occ_complete_states.proofs.from_derive_moves.Keeping.{AreSound, works_same}
use Rattle.occ_complete.proofs.Unifying.{alternatives_unify}
use Rattle.occ_complete.proofs.Settling.{superposition_settles}
use Rattle.occ_engine.proofs.from_meaning.Alike.{same_back, same_through}
use Rattle.occ_complete_states.specs.occ_nform_table.Behaviours.{Stands}
use Rattle.occ_complete_states.specs.occ_nform_table.Normal.{Parts}
use Rattle.occ_complete_states.specs.occ_nform_table.Tables.{IsNormal}
use Rattle.occ_engine.specs.occ_syntax.declared.scope.Kind.{Kind}
use Rattle.occ_engine.specs.occ_syntax.declared.scope.Program.{Program}
use Rattle.occ_engine.specs.occ_syntax.Counts.{bits_of_scope}
use Rattle.occ_engine.specs.occ_syntax.Same.{SAME}
use Rattle.occ_engine.specs.occ_syntax.Scopes.{environment}
use Rattle.occ_engine.specs.occ_syntax.Tree.{Tree}
use Rattle.occ_engine.specs.occ_syntax.Types.{scope_kept}
use Rattle.occ_engine.specs.occ_syntax.Usage.{Keeps}
use Rattle.occ_engine.specs.occ_syntax.View.{tree}
use Rattle.occ_complete_states.specs.occ_target.Inputs.{input_widths}
use Rattle.occ_complete_states.specs.occ_target.Program.{normal_body}
use Rattle.occ_complete_states.proofs.from_target_laws.Reached.{shaped_programs_are_targets}
use Rattle.occ_complete_states.proofs.from_target_laws.Fresh.{variables_free}
use Rattle.occ_complete_states.proofs.from_target_laws.Bodies.{normal_bodies_are_one}
use Rattle.occ_complete_states.specs.occ_target_laws.Shapes.{Header}
use Rattle.occ_engine.specs.occ_usage.Accepted.{IsAccepted}

settles : (h : Header) → IsHeader h → Settles h
settles h is limit ps c = superposition_settles h is limit ps c.each

-- what is asked of a scope, which limits of accepted programs give
pub record IsSmall (S : List (Name × Kind)) : Type 0 where
  pub kept : scope_kept S ≡ true
  pub bits : bits_of_scope S ≤ 16

shape_reached : (h : Header) → IsHeader h → IsSmall h.params → (p : Tree) → Keeps (environment h.params) p → IsFew h.params p → HasShapedBody h p
shape_reached h is small p keeps few =
    let freed = part_freed h.params (numbers_of h.inputs) p small.kept keeps few in
    let k = spares_keep h.params small.kept keeps freed.leads in
    let begun = body_begins h freed.part is k freed.few (nowhere h.params h.inputs freed.part k is.declared freed.none) small.bits in
    let made = bodies_are_shaped h (weight freed.part + 1) freed.part is (settles h is) (alternatives_unify h is (have_widths h.params small.kept)) (given_told h is) k begun in
    record { body = made.body; shaped = made.shaped; leads = leads_on h.params (sparing_leads h.params freed.leads) made.leads }

pub table_reached : AreSound → (t : Parts) (p : Tree) → IsNormal t → scope_kept t.params ≡ true → Keeps (environment t.params) p → IsFew t.params p
    → Stands t.params t.rows t.states p → Leads t.params p (normal_body t.names t.params t.rows t.states)
table_reached sound t p normal kept keeps few stands =
    let is = tables_have_headers t normal kept (variables_free t.params t.names (input_widths t.params) normal.interface.named) in
    let made = shape_reached (header_of t) is (record { kept = kept; bits = normal.interface.bits }) p keeps few in
    subst (Leads t.params p) (shaped_programs_are_targets t p made.body normal kept keeps.types stands
    (works_same sound t.params p made.body made.leads.moves kept keeps made.leads.row) made.shaped) made.leads

pub parts_meet : AreSound → (S : List (Name × Kind)) (p q : Tree) → AreMarked S → IsSmall S → Keeps (environment S) p → Keeps (environment S) q
    → IsFew S p → IsFew S q → SAME (environment S) p q → Meet S p q
parts_meet sound S p q marked small keeps other few less same =
    let h = own_header S in
    let is = own_is_header S marked small.kept in
    let a = shape_reached h is small p keeps few in
    let b = shape_reached h is small q other less in
    let there = works_same sound S p a.body a.leads.moves small.kept keeps a.leads.row in
    let back = works_same sound S q b.body b.leads.moves small.kept other b.leads.row in
    let one = normal_bodies_are_one h a.body b.body small.kept a.shaped b.shaped
    (same_through (environment S) a.body p b.body (same_back (environment S) p a.body there) (same_through (environment S) p q b.body same back)) in
    record { meeting = a.body; first = a.leads; second = subst (Leads S q) (sym one) b.leads }

-- ---- programs

small_of : (program : Program) → IsAccepted program → IsSmall program.params
small_of program is = record { kept = is.typed.scope; bits = is.typed.interface }

few_of : (program : Program) → IsAccepted program → IsFew program.params (tree program.body)
few_of program is = is_few program.params (tree program.body) (bits_of_scope program.params) refl is.typed.state

pub derivations_exist : AreSound → (program : Program) (t : Parts) → IsAccepted program → t.params ≡ program.params → IsNormal t
    → Stands program.params t.rows t.states (tree program.body) → Leads program.params (tree program.body) (normal_body t.names t.params t.rows t.states)
derivations_exist sound program t is same normal stands =
    subst (λ S. Leads S (tree program.body) (normal_body t.names t.params t.rows t.states)) same
    (table_reached sound t (tree program.body) normal (subst (λ S. scope_kept S ≡ true) (sym same) is.typed.scope)
    (subst (λ S. Keeps (environment S) (tree program.body)) (sym same) is.keeps) (subst (λ S. IsFew S (tree program.body)) (sym same) (few_of program is))
    (subst (λ S. Stands S t.rows t.states (tree program.body)) (sym same) stands))

pub same_programs_meet : AreSound → (one two : Program) → IsAccepted one → IsAccepted two → one.params ≡ two.params → AreMarked one.params
    → SAME (environment one.params) (tree one.body) (tree two.body) → Meet one.params (tree one.body) (tree two.body)
same_programs_meet sound one two first second params marked same =
    parts_meet sound one.params (tree one.body) (tree two.body) marked (small_of one first) first.keeps
    (subst (λ S. Keeps (environment S) (tree two.body)) (sym params) second.keeps) (few_of one first)
    (subst (λ S. IsFew S (tree two.body)) (sym params) (few_of two second)) same
