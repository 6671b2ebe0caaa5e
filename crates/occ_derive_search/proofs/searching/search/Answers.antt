use Rattle.std.proofs.Common.{◌≡◌, ◌+◌, ◌-◌, ◌≤◌, ◌<◌, ◌^◌, length, arith}
use Rattle.occ_derive_search.proofs.Ranking.{all_rows, rank_below}
use Rattle.occ_derive_search.specs.Rows.{rank}
use Rattle.occ_derive_search.proofs.searching.search.Goals as goal

pub loop-counter-smaller : goal.loop-counter-smaller
loop-counter-smaller c =
    let counter = c.next.new.self in
    let sizes = counter.digits.ok in
    let room = counter.digits.small in
    let few : length counter.digits.items < 2 ^ 64 = omega arith in
    let all : rank counter.digits.items ≤ all_rows = rank_below counter.digits.items counter.small few in
    let more : rank counter.digits.items ≡ rank c.loop-counter.counter.digits.items + 1 = c.in_ok-next-in-None.ensures in
    omega arith
