use Rattle.std.proofs.Common.{Some, None, ltb, sym, ap, ◌∙◌, arith}
use Rattle.std.proofs.lemmas.Bool.{cond-true, cond-false, lt-ltb, le-ltb}
use Rattle.occ_nform_table.specs.Words.{then_read}
use Rattle.occ_nform_table.specs.Lines.{below}
use Rattle.occ_nform_read.proofs.Numerals.{lower_is}
use Rattle.occ_nform_read.proofs.words.lower.Goals as goal

pub returns-then-from-n : goal.returns-then-from-n
returns-then-from-n c =
    sym (cond-true (ltb c.in-Some.row c.args.n) (Some c.in-Some.row) None (lt-ltb c.in-Some.row c.args.n (omega (arith, c.if-from-n.true, c.from.ensures))))
    ∙ ap (λ o. then_read o (below c.args.n)) c.in-Some.ensures ∙ lower_is c.args.word.now c.args.n c.requires

pub returns-else-from-n : goal.returns-else-from-n
returns-else-from-n c =
    sym (cond-false (ltb c.in-Some.row c.args.n) (Some c.in-Some.row) None (le-ltb c.in-Some.row c.args.n (omega (arith, c.if-from-n.false, c.from.ensures))))
    ∙ ap (λ o. then_read o (below c.args.n)) c.in-Some.ensures ∙ lower_is c.args.word.now c.args.n c.requires

pub returns-in-None : goal.returns-in-None
returns-in-None c = ap (λ o. then_read o (below c.args.n)) c.in-None.ensures ∙ lower_is c.args.word.now c.args.n c.requires
