use Rattle.occ_why.proofs.Telling.{alone_so, told_as}
use Rattle.occ_why.proofs.explaining.alone.Goals as goal

pub returns : goal.returns
returns c =
    alone_so c.args.owner.text.now c.args.other.text.now c.args.lines.items c.in_ok-chosen.chosen.items c.in_ok-text.text.items c.in_ok-chosen.ensures
    (told_as _ _ _ _ c.deref-5.ensures.value c.in_ok-text.ensures)
