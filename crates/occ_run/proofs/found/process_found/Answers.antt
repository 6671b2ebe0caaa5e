use Rattle.std.proofs.Common.{IfOk, sym, ap, subst, ◌∙◌}
use Rattle.occ_syntax.specs.Tree.{Tree, alt}
use Rattle.occ_syntax.specs.Types.{types_kept}
use Rattle.occ_syntax.specs.View.{branches, exps, numbers, tree}
use Rattle.occ_syntax.proofs.Views.{tree-Alt}
use Rattle.occ_run_steps.specs.Steps.{assignments, process_steps}
use Rattle.occ_run.specs.Effects.{changes_of}
use Rattle.occ_run.specs.Founds.{Finds, leaves}
use Rattle.occ_run.specs.Places.{names_at, values_at}
use Rattle.occ_run.proofs.Processes.{assign_here, assign_past, begins_found}
use Rattle.occ_run.proofs.found.process_found.Goals as goal

pub returns-in-Some : goal.returns-in-Some
unfolding tree
returns-in-Some c =
    assign_past (names_at c.args.place.now) (values_at c.args.place.now) c.args.wanted.hidden.now c.args.wanted.only (tree c.args.part.now) c.args.wanted.number
    c.over.result c.over.ensures (numbers c.in-Assign.vars) (exps c.in-Assign.values) (ap tree c.in-Assign.is) c.in-Some.more c.in-Some.is

pub branch_found-requires : goal.branch_found-requires
branch_found-requires c =
    let e = ap tree c.in-Alt.is ∙ tree-Alt c.in-Alt.alternatives ∙ ap (λ bs. alt (branches bs)) (sym c.items-in-Alt.ensures) in
    sym (ap (λ p. types_kept p (names_at c.args.place.now)) e) ∙ c.requires

pub returns-in_ok-changes-in-Assign : goal.returns-in_ok-changes-in-Assign
unfolding tree
returns-in_ok-changes-in-Assign c =
    let Γ = names_at c.args.place.now in
    let s = values_at c.args.place.now in
    assign_here Γ s c.args.wanted.hidden.now c.args.wanted.only (tree c.args.part.now) c.args.wanted.number c.over.result c.over.ensures (numbers c.in-Assign.vars) (exps c.in-Assign.values) (ap tree c.in-Assign.is)
    (changes_of c.in_ok-changes-in-Assign.changes.items) c.one_found.result c.in_default.is
    (c.in_ok-changes-in-Assign.ensures ∙ ap (λ xs. assignments Γ s (numbers xs) (exps c.items-in-Assign.result.now)) c.items.ensures
    ∙ ap (λ es. assignments Γ s (numbers c.in-Assign.vars) (exps es)) c.items-in-Assign.ensures) c.one_found.ensures

pub returns-in-Var : goal.returns-in-Var
unfolding tree
returns-in-Var c =
    begins_found (names_at c.args.place.now) (values_at c.args.place.now) c.args.wanted.hidden.now c.args.wanted.only (tree c.args.part.now) c.args.wanted.number
    c.in-Var.name.0 c.in-Var.width (tree c.in-Var.body.value) (tree c.deref.result.now) c.variable_found.result (ap tree c.in-Var.is) (ap tree c.deref.ensures) c.variable_found.ensures

pub returns-in-Alt : goal.returns-in-Alt
returns-in-Alt c =
    let e = ap tree c.in-Alt.is ∙ tree-Alt c.in-Alt.alternatives ∙ ap (λ bs. alt (branches bs)) (sym c.items-in-Alt.ensures) in
    subst (λ (p : Tree). IfOk c.branch_found.result (Finds c.args.wanted (leaves (process_steps (names_at c.args.place.now) (values_at c.args.place.now) p)))) (sym e) c.branch_found.ensures
