use Rattle.std.proofs.Common.{None, refl, sym, ap, subst, ◌∙◌, ◌≡◌, true}
use Rattle.std.proofs.Math.Bool.{Bool-set}
use Rattle.std.proofs.Math.Logic.{∥∥₁_elim}
use Rattle.occ_parse_rules.specs.Forest.{forest}
use Rattle.occ_parse.specs.occ_parse_types.Asking.{plain_counters}
use Rattle.occ_parse_forms.proofs.from_lex.Interned.{extends_same}
use Rattle.occ_syntax.specs.View.{tree}
use Rattle.occ_parse_part.specs.Resolving.{part_fault, scope_params}
use Rattle.occ_parse_part.specs.Seen.{seen}
use Rattle.occ_parse_part.specs.Shown.{part_of}
use Rattle.occ_parse_part.proofs.Scoped.{fault_is, plain_scope, process_is, scope_is}
use Rattle.occ_parse_part.proofs.Typed.{typed}
use Rattle.occ_parse_part.proofs.resolving.resolve.Goals as goal

pub fault_in-requires : goal.fault_in-requires
fault_in-requires c = subst (λ Γ. plain_counters Γ ≡ true) (sym c.in_ok-declare_params.ensures) (plain_scope c.new-context.result.scopes c.as_slice.result.now c.new-context.ensures.scopes)

pub slot-requires : goal.slot-requires
slot-requires c = λ n. absurd n

pub returns-clause-found : goal.returns-clause-found
returns-clause-found c =
    let raw = c.args.raw.now in
    let part = part_of raw in
    let scope = c.args.scope.now in
    let nodes = ap forest c.items-nodes.ensures in
    let params = c.as_slice.ensures.value ∙ c.in_ok-params.ensures ∙ ap (scope_params (seen raw.elements)) c.items.ensures in
    let Γ = c.declare_params.new.self in
    let here = scope_is (seen raw.elements) scope c.as_slice.result.now c.new-context.result.scopes Γ params c.new-context.ensures.scopes c.in_ok-declare_params.ensures in
    let same = c.in_ok-fault.ensures.same c.in_default.is in
    let found = c.in_ok-process.ensures.tree c.slot.new.names (extends_same c.slot.new.names) in
    process_is part scope (seen raw.elements) c.fault_in.new.scopes _ (forest c.items-nodes.result.now) (tree c.in_ok-process.process) refl (same ∙ here) c.new-context.ensures.values nodes found

pub returns-clause-typed : goal.returns-clause-typed
returns-clause-typed c =
    let raw = c.args.raw.now in
    let part = part_of raw in
    let scope = c.args.scope.now in
    let nodes = ap forest c.items-nodes.ensures in
    let params = c.as_slice.ensures.value ∙ c.in_ok-params.ensures ∙ ap (scope_params (seen raw.elements)) c.items.ensures in
    let Γ = c.declare_params.new.self in
    let here = scope_is (seen raw.elements) scope c.as_slice.result.now c.new-context.result.scopes Γ params c.new-context.ensures.scopes c.in_ok-declare_params.ensures in
    let same = c.in_ok-fault.ensures.same c.in_default.is in
    let none : part_fault part scope ≡ None = sym (fault_is part scope Γ (forest c.items-nodes.result.now) c.in_ok-fault.field-0 here nodes c.in_ok-fault.ensures.fault) ∙ c.in_default.is in
    let found = c.in_ok-process.ensures.tree c.slot.new.names (extends_same c.slot.new.names) in
    let process = process_is part scope (seen raw.elements) c.fault_in.new.scopes _ (forest c.items-nodes.result.now) (tree c.in_ok-process.process) refl (same ∙ here) c.new-context.ensures.values nodes found in
    λ kept. ∥∥₁_elim raw.good (Bool-set _ _) (λ good. typed part scope (tree c.in_ok-process.process) good none process kept)
