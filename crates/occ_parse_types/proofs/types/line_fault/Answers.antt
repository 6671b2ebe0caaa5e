use Rattle.std.proofs.Common.{sym, ◌∙◌}
use Rattle.occ_parse_forms.specs.Shape.{shape}
use Rattle.occ_parse_types.proofs.Judged.{in_order}
use Rattle.occ_parse_types.proofs.types.line_fault.Goals as goal

pub line_clashes-requires-clause-there : goal.line_clashes-requires-clause-there
line_clashes-requires-clause-there c = in_order c.args.scopes.now (shape c.args.form.now) c.requires.names (sym c.has_lost.ensures ∙ c.if-has_lost.false)

pub line_untyped-requires-clause-there : goal.line_untyped-requires-clause-there
line_untyped-requires-clause-there c = in_order c.args.scopes.now (shape c.args.form.now) c.requires.names (sym c.has_lost.ensures ∙ c.if-has_lost.false)
