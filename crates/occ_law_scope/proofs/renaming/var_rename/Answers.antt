use Rattle.occ_syntax.specs.Scopes.{environment}
use Rattle.occ_syntax.specs.View.{tree}
use Rattle.occ_law_scope.proofs.Renamed.{variable_once, var_rename_law}
use Rattle.occ_law_scope.proofs.Joined.{answered}
use Rattle.occ_law_scope.proofs.renaming.var_rename.Goals as goal
use Rattle.occ_syntax.proofs.Widths.{same_widths}
use Rattle.std.proofs.Common.{sym, ◌∙◌}

pub is_renamed-requires : goal.is_renamed-requires
is_renamed-requires c = variable_once (environment c.args._scope.now) (tree c.args.left.now) (tree c.in-Var-shape.body.now) c.in-Var-shape.old.0 c.in-Var-shape.width c.in-Var-shape.ensures c.requires.left

pub returns-else-not-same_width : goal.returns-else-not-same_width
returns-else-not-same_width c = answered c.is_renamed.result c.is_renamed.ensures
    (var_rename_law (environment c.args._scope.now) (tree c.args.left.now) (tree c.args.right.now) (tree c.in-Var-shape.body.now) (tree c.in-Var-shape-shape.other.now)
    c.in-Var-shape.old.0 c.in-Var-shape-shape.new.0 c.in-Var-shape.width c.in-Var-shape-shape.other_width c.in-Var-shape.ensures c.in-Var-shape-shape.ensures
    (same_widths _ _ (sym c.same_width.ensures ∙ c.if-not-same_width.false)) c.requires.right)
