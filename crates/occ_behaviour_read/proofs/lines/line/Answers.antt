use Rattle.std.proofs.Common.{◌≡◌, ◌≤◌, ◌∙◌, arith, sym}
use Rattle.occ_behaviour_read.proofs.Counting.{no_later_line}
use Rattle.occ_behaviour_read.proofs.lines.line.Goals as goal

pub returns-in_default : goal.returns-in_default
returns-in_default c =
    let earlier : c.loop-before._before ≤ c.args.k = omega (arith, c.loop-before-test.true) in
    no_later_line c.args.text.now c.loop-before._before c.args.k earlier (sym c.in_default.ensures ∙ c.loop-before.invariant)
