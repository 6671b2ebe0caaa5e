use Rattle.std.proofs.Common.{ℕ, List, ap, arith, drop, length, subst}
use Rattle.std.proofs.lemmas.List.{length-drop, take_rest}
use Rattle.occ_script_lines.specs.Sections.{IsBody}
use Rattle.occ_script_lines.proofs.splitting.body_from.Goals as goal

pub returns-clause-body : goal.returns-clause-body
returns-clause-body c =
    subst (λ (t : List ℕ). IsBody c.args.format t c.lines_until.result.0 c.lines_until.result.1) (take_rest c.args.text.now c.args.end) c.lines_until.ensures.body

pub returns-clause-within : goal.returns-clause-within
returns-clause-within c =
    omega (arith, c.lines_until.ensures.within, length-drop c.args.end c.args.text.now, ap length (take_rest c.args.text.now c.args.end))
