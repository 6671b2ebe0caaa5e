use Rattle.occ_why_text.proofs.Numbered.{numbered}
use Rattle.occ_why_text.proofs.behind.behind.Goals as goal

pub after-requires : goal.after-requires
after-requires c =
    (c.args.number, numbered c.args.point.now c.args.offers.now c.args.number c.in-Some.offer.now c.in-Some.ensures.lookup.3.0 c.in-Some.ensures.lookup.1 c.requires)
