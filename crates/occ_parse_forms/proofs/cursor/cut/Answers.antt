use Rattle.std.proofs.Common.{sym, ◌∙◌}
use Rattle.occ_parse_forms.proofs.Cutting.{here, further_on, nowhere}
use Rattle.occ_parse_forms.proofs.cursor.cut.Goals as goal

pub returns-then-eq : goal.returns-then-eq
returns-then-eq c = here c.args.sign c.args.symbols.now c.loop-i.i _ c.loop-i-test.true (sym c.eq.ensures ∙ c.if-eq.true) c.loop-i.invariant

pub loop-i-preserved : goal.loop-i-preserved
loop-i-preserved c = further_on c.args.sign c.args.symbols.now c.loop-i.i _ c.loop-i-test.true (sym c.eq.ensures ∙ c.if-eq.false) c.loop-i.invariant

pub returns : goal.returns
returns c = nowhere c.args.sign c.args.symbols.now c.loop-i.i c.loop-i-test.false c.loop-i.invariant
