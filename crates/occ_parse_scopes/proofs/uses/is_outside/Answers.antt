use Rattle.std.proofs.Common.{sym, ap, ◌∙◌}
use Rattle.occ_parse_scopes.specs.Reaching.{leaves_if}
use Rattle.occ_parse_scopes.proofs.Reaches.{outside_is}
use Rattle.occ_parse_scopes.proofs.uses.is_outside.Goals as goal

pub returns-in-Some : goal.returns-in-Some
returns-in-Some c =
    let scopes = c.args.scopes.now in
    c.leaves.ensures ∙ ap (leaves_if scopes) (sym c.in-Some.is ∙ c.reach_of.ensures) ∙ sym (outside_is scopes c.args.item)
