use Rattle.std.proofs.Common.{sym, ◌∙◌, arith}
use Rattle.occ_run.proofs.Processes.{one_behind, one_first, one_missed}
use Rattle.occ_run.proofs.found.Wanted.over.Goals as goal

pub returns-then-not-asks : goal.returns-then-not-asks
returns-then-not-asks c = λ k e. one_missed c.args.self.hidden.now c.args.self.only c.args.self.number k c.args.event e (sym c.asks.ensures ∙ c.if-not-asks.true)

pub returns-then-self-gt0 : goal.returns-then-self-gt0
returns-then-self-gt0 c = λ k e. one_behind c.args.self.hidden.now c.args.self.only c.args.self.number k c.args.event e (sym c.asks.ensures ∙ c.if-not-asks.false) c.if-self-gt0.true

pub returns : goal.returns
returns c = λ k e. one_first c.args.self.hidden.now c.args.self.only c.args.self.number k c.args.event e (sym c.asks.ensures ∙ c.if-not-asks.false) (omega (arith, c.if-self-gt0.false))
