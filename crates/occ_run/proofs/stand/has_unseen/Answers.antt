use Rattle.std.proofs.Common.{◌<◌, ◌-◌, is_some, not, length, get_or, take, drop, sym, ap, ◌∙◌, arith}
use Rattle.occ_run.proofs.MeetingFronts.{front_read}
use Rattle.occ_run.specs.declared.run.Run.TheVariants.{Unseen}
use Rattle.occ_run.proofs.Listed.{seen_first}
use Rattle.occ_run.proofs.stand.has_unseen.Goals as goal

pub loop-rest-preserved : goal.loop-rest-preserved
loop-rest-preserved c =
    let some : 0 < length c.loop-rest.rest.now = omega (arith, c.in-len1-up.len_at_least) in
    let rest = c.loop-rest.rest.now in
    let seen = ap is_some (sym c.event.ensures) ∙ c.is_none.ensures ∙ ap not c.if-is_none.false in
    sym (seen_first rest (take (length rest - 1) (drop 1 rest)) (get_or rest 0 Unseen) (front_read rest Unseen some) seen) ∙ c.loop-rest.invariant
