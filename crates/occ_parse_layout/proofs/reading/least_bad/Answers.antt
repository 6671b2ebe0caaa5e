use Rattle.std.proofs.Common.{◌+◌, take}
use Rattle.std.proofs.lemmas.List.{take_rest}
use Rattle.occ_parse_layout.specs.Layout.{laid}
use Rattle.occ_parse_layout.specs.Scan.{nearest_first}
use Rattle.occ_parse_layout.proofs.Behind.{at_start, begins, judged, stops, goes_on, ends, some_line}
use Rattle.occ_parse_layout.proofs.reading.least_bad.Goals as goal

pub loop-at-init : goal.loop-at-init
loop-at-init c = at_start c.args.frame c.args.more c.args.rows.now _ (c.in_ok-passed.ensures).describes (c.in_ok-passed.ensures).declared (c.in_ok-passed.ensures).frame

pub is_good-requires : goal.is_good-requires
is_good-requires c = rw take_rest (begins c.args.more c.loop-at.passed.declared c.args.rows.now c.loop-at.at _ c.loop-at-test.true c.index-rows-at.is c.loop-at.invariant.1)

pub returns-then-not-is_good : goal.returns-then-not-is_good
returns-then-not-is_good c =
    stops c.args.frame c.args.more c.args.rows.now c.loop-at.at _ c.loop-at.passed c.loop-at-test.true c.index-rows-at.is c.loop-at.invariant
    (judged _ _ c.args.more (nearest_first (take c.loop-at.at c.args.rows.now)) (laid c.index-rows-at.result) _ _ _ _ c.loop-at.invariant.2 (take_rest c.args.rows.now (c.loop-at.at + 1)) (c.is_good.ensures.value _ c.loop-at.invariant.0) c.if-not-is_good.true)

pub pass-requires : goal.pass-requires
pass-requires c = c.is_good.ensures.open _ c.loop-at.invariant.0 c.if-not-is_good.false

pub loop-at-preserved : goal.loop-at-preserved
loop-at-preserved c =
    goes_on c.args.frame c.args.more c.args.rows.now c.loop-at.at _ c.loop-at.passed _ c.loop-at-test.true c.index-rows-at.is c.loop-at.invariant
    (judged _ _ c.args.more (nearest_first (take c.loop-at.at c.args.rows.now)) (laid c.index-rows-at.result) _ _ _ _ c.loop-at.invariant.2 (take_rest c.args.rows.now (c.loop-at.at + 1)) (c.is_good.ensures.value _ c.loop-at.invariant.0) c.if-not-is_good.false)
    c.in_ok-pass.ensures.frame c.in_ok-pass.ensures.describes c.in_ok-pass.ensures.declared

pub returns : goal.returns
returns c = ends c.args.frame c.args.more c.args.rows.now c.loop-at.at c.loop-at.passed (some_line c.args.rows.now _ c.is_empty.ensures c.if-is_empty.false) c.loop-at-test.false c.loop-at.invariant
