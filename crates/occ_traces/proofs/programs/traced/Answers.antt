use Rattle.std.proofs.Common.{◌≡◌, ◌∙◌, true, sym, subst}
use Rattle.occ_syntax.specs.Scopes.{environment}
use Rattle.occ_syntax.specs.Types.{types_kept}
use Rattle.occ_syntax.specs.View.{tree}
use Rattle.std.proofs.lemmas.Result.{IfOk-weaker}
use Rattle.occ_refine.specs.occ_norm.Root.{IsRoot}
use Rattle.occ_refine.proofs.from_norm.Rooted.{root-extends}
use Rattle.occ_refine.specs.Roots.{RefinedIsNamed}
use Rattle.occ_refine.proofs.Link.{comparable}
use Rattle.occ_refine.proofs.Outside.{root_within}
use Rattle.occ_traces.proofs.Linking.{answer_is}
use Rattle.occ_traces.proofs.programs.traced.Goals as goal

pub trace_refines-requires-clause-roots : goal.trace_refines-requires-clause-roots
trace_refines-requires-clause-roots c =
    let left = c.args.left.now.program in
    let other = c.args.right.now.program in
    let typed = c.args.left.now.kept.typed in
    let types = subst (λ ps. types_kept (tree other.body) (environment ps) ≡ true) (sym c.requires) c.args.right.now.kept.typed.types in
    comparable c.normalise-2.new.world left.params typed.scope typed.interface (tree left.body) (tree other.body) typed.types types c.in_ok-first.first c.in_ok-second.second c.in_ok-first.ensures.params (c.in_ok-second.ensures.params ∙ sym c.requires)
    (root-extends c.normalise.new.world c.normalise-2.new.world (record { grows = c.normalise-2.ensures.grows; maps = c.normalise-2.ensures.maps }) left.params (tree left.body) c.in_ok-first.first.states c.in_ok-first.ensures.root)
    (subst (λ ps. IsRoot c.normalise-2.new.world ps (tree other.body) c.in_ok-second.second.states) (sym c.requires) c.in_ok-second.ensures.root)

pub trace_refines-requires-clause-first : goal.trace_refines-requires-clause-first
trace_refines-requires-clause-first c =
    let left = c.args.left.now.program in
    let typed = c.args.left.now.kept.typed in
    root_within c.normalise-2.new.world left.params typed.scope typed.interface (tree left.body) typed.types c.in_ok-first.first c.in_ok-first.ensures.params
    (root-extends c.normalise.new.world c.normalise-2.new.world (record { grows = c.normalise-2.ensures.grows; maps = c.normalise-2.ensures.maps }) left.params (tree left.body) c.in_ok-first.first.states c.in_ok-first.ensures.root)

pub trace_refines-requires-clause-second : goal.trace_refines-requires-clause-second
trace_refines-requires-clause-second c =
    let other = c.args.right.now.program in
    let typed = c.args.right.now.kept.typed in
    root_within c.normalise-2.new.world other.params typed.scope typed.interface (tree other.body) typed.types c.in_ok-second.second c.in_ok-second.ensures.params c.in_ok-second.ensures.root

pub returns-clause-answer : goal.returns-clause-answer
returns-clause-answer c =
    let left = c.args.left.now.program in
    let other = c.args.right.now.program in
    let typed = c.args.left.now.kept.typed in
    let other_typed = c.args.right.now.kept.typed in
    answer_is c.normalise-2.new.world left.params typed.interface (tree left.body) (tree other.body) c.in_ok-first.first c.in_ok-second.second c.in_ok-first.ensures.params (c.in_ok-second.ensures.params ∙ sym c.requires)
    (root-extends c.normalise.new.world c.normalise-2.new.world (record { grows = c.normalise-2.ensures.grows; maps = c.normalise-2.ensures.maps }) left.params (tree left.body) c.in_ok-first.first.states c.in_ok-first.ensures.root)
    (subst (λ ps. IsRoot c.normalise-2.new.world ps (tree other.body) c.in_ok-second.second.states) (sym c.requires) c.in_ok-second.ensures.root)
    (root_within c.normalise-2.new.world other.params other_typed.scope other_typed.interface (tree other.body) other_typed.types c.in_ok-second.second c.in_ok-second.ensures.params c.in_ok-second.ensures.root)
    c.trace_refines.result c.trace_refines.ensures.answer

pub returns-clause-named : goal.returns-clause-named
returns-clause-named c = IfOk-weaker c.trace_refines.result (RefinedIsNamed c.in_ok-first.first.params) (RefinedIsNamed c.args.left.now.program.params)
    (λ r h. subst (λ ps. RefinedIsNamed ps r) c.in_ok-first.ensures.params h) c.trace_refines.ensures.named
