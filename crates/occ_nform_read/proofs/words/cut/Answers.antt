use Rattle.std.proofs.Common.{take, ◌+◌, Some, sym, ap, ◌∙◌}
use Rattle.std.proofs.lemmas.List.{take_rest}
use Rattle.occ_nform_read.proofs.Splitting.{cut_at, cut_none}
use Rattle.occ_nform_read.proofs.words.cut.Goals as goal

pub returns-in-Some : goal.returns-in-Some
returns-in-Some c =
    cut_at c.args.byte c.args.text.now c.in-Some.place (sym c.in-Some.ensures)
    ∙ ap (λ rest. Some (take c.in-Some.place c.args.text.now, rest)) (sym (take_rest c.args.text.now (c.in-Some.place + 1)))

pub returns-in-None : goal.returns-in-None
returns-in-None c = cut_none c.args.byte c.args.text.now (sym c.in-None.ensures)
