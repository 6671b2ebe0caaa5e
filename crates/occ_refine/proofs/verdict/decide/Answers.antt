use Rattle.std.proofs.Common.{◌≡◌, ◌∙◌, true, sym, subst}
use Rattle.occ_syntax.specs.Scopes.{environment}
use Rattle.occ_syntax.specs.Types.{types_kept}
use Rattle.occ_syntax.specs.View.{tree}
use Rattle.occ_norm.specs.Root.{IsRoot}
use Rattle.occ_refine.proofs.Link.{comparable, decided, named, placed}
use Rattle.occ_norm.proofs.Rooted.{root-extends}
use Rattle.occ_refine.proofs.verdict.decide.Goals as goal

pub compare-requires : goal.compare-requires
compare-requires c =
    let left = c.args.left.now.program in
    let other = c.args.right.now.program in
    let typed = c.args.left.now.kept.typed in
    let types = subst (λ ps. types_kept (tree other.body) (environment ps) ≡ true) (sym c.requires) c.args.right.now.kept.typed.types in
    comparable c.normalise-2.new.world left.params typed.scope typed.interface (tree left.body) (tree other.body) typed.types types c.in_ok-first.first c.in_ok-second.second c.in_ok-first.ensures.params (c.in_ok-second.ensures.params ∙ sym c.requires)
    (root-extends c.normalise.new.world c.normalise-2.new.world (record { grows = c.normalise-2.ensures.grows; maps = c.normalise-2.ensures.maps }) left.params (tree left.body) c.in_ok-first.first.states c.in_ok-first.ensures.root)
    (subst (λ ps. IsRoot c.normalise-2.new.world ps (tree other.body) c.in_ok-second.second.states) (sym c.requires) c.in_ok-second.ensures.root)

pub returns-clause-right : goal.returns-clause-right
returns-clause-right c =
    let left = c.args.left.now.program in
    let other = c.args.right.now.program in
    let typed = c.args.left.now.kept.typed in
    let types = subst (λ ps. types_kept (tree other.body) (environment ps) ≡ true) (sym c.requires) c.args.right.now.kept.typed.types in
    decided c.normalise-2.new.world left.params typed.scope typed.interface (tree left.body) (tree other.body) typed.types types c.in_ok-first.first c.in_ok-second.second c.in_ok-first.ensures.params (c.in_ok-second.ensures.params ∙ sym c.requires)
    (root-extends c.normalise.new.world c.normalise-2.new.world (record { grows = c.normalise-2.ensures.grows; maps = c.normalise-2.ensures.maps }) left.params (tree left.body) c.in_ok-first.first.states c.in_ok-first.ensures.root)
    (subst (λ ps. IsRoot c.normalise-2.new.world ps (tree other.body) c.in_ok-second.second.states) (sym c.requires) c.in_ok-second.ensures.root)
    c.compare.result c.compare.ensures.means c.compare.ensures.member

pub returns-clause-printable : goal.returns-clause-printable
returns-clause-printable c =
    let left = c.args.left.now.program in
    let other = c.args.right.now.program in
    let typed = c.args.left.now.kept.typed in
    let types = subst (λ ps. types_kept (tree other.body) (environment ps) ≡ true) (sym c.requires) c.args.right.now.kept.typed.types in
    named c.normalise-2.new.world left.params typed.scope typed.interface (tree left.body) (tree other.body) typed.types types c.in_ok-first.first c.in_ok-second.second c.in_ok-first.ensures.params (c.in_ok-second.ensures.params ∙ sym c.requires)
    (root-extends c.normalise.new.world c.normalise-2.new.world (record { grows = c.normalise-2.ensures.grows; maps = c.normalise-2.ensures.maps }) left.params (tree left.body) c.in_ok-first.first.states c.in_ok-first.ensures.root)
    (subst (λ ps. IsRoot c.normalise-2.new.world ps (tree other.body) c.in_ok-second.second.states) (sym c.requires) c.in_ok-second.ensures.root)
    c.compare.result c.compare.ensures.named

pub returns-clause-verdict : goal.returns-clause-verdict
returns-clause-verdict c =
    let left = c.args.left.now.program in
    let other = c.args.right.now.program in
    let typed = c.args.left.now.kept.typed in
    let types = subst (λ ps. types_kept (tree other.body) (environment ps) ≡ true) (sym c.requires) c.args.right.now.kept.typed.types in
    placed c.normalise-2.new.world left.params typed.scope typed.interface (tree left.body) (tree other.body) typed.types types c.in_ok-first.first c.in_ok-second.second c.in_ok-first.ensures.params (c.in_ok-second.ensures.params ∙ sym c.requires)
    (root-extends c.normalise.new.world c.normalise-2.new.world (record { grows = c.normalise-2.ensures.grows; maps = c.normalise-2.ensures.maps }) left.params (tree left.body) c.in_ok-first.first.states c.in_ok-first.ensures.root)
    (subst (λ ps. IsRoot c.normalise-2.new.world ps (tree other.body) c.in_ok-second.second.states) (sym c.requires) c.in_ok-second.ensures.root)
    c.compare.result c.compare.ensures.means c.compare.ensures.member c.compare.ensures.first
