use Rattle.std.proofs.Common.{sym, ◌∙◌}
use Rattle.occ_law_alt.proofs.Begun.{alt_last_is, alt_last_never, alt_last_of_none, not_alt}
use Rattle.occ_law_alt.proofs.fronts.alt_last.Goals as goal

pub returns-in_default : goal.returns-in_default
returns-in_default c = alt_last_of_none c.args.all.now c.in_default.ensures.cases

pub returns-then-not-is_skip : goal.returns-then-not-is_skip
returns-then-not-is_skip c = alt_last_never c.args.all.now c.in-Some.front.now c.in-Some.last.now c.in-Some.ensures.cases.0 (λ hs e f g. cc (c.is_skip.ensures.1 (e, f)))

pub returns-in-Alt : goal.returns-in-Alt
returns-in-Alt c =
    let is = c.is_skip.ensures.0 c.if-not-is_skip.false in
    alt_last_is c.args.all.now c.in-Some.front.now c.in-Some.last.now _ c.in-Some.ensures.cases.0 is.0 is.1 (sym c.in-Alt.ensures)

pub returns-in_default-opened : goal.returns-in_default-opened
returns-in_default-opened c = alt_last_never c.args.all.now c.in-Some.front.now c.in-Some.last.now c.in-Some.ensures.cases.0
    (λ hs e f g. not_alt c.opened.result c.in_default-opened.not-Alt hs (c.opened.ensures ∙ g))
