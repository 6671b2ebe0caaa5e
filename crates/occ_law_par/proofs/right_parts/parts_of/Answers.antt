use Rattle.occ_law_par.proofs.right_parts.parts_of.Goals as goal

pub returns-then-not-is_whole : goal.returns-then-not-is_whole
returns-then-not-is_whole c = λ ps w. cc (c.is_whole.ensures.1 w.none)

pub returns-in_default : goal.returns-in_default
returns-in_default c = λ ps w. c.in_default.ensures ps w.whole

pub returns : goal.returns
returns c = record { none = c.is_whole.ensures.0 c.if-not-is_whole.false; whole = c.in-Some.ensures }
