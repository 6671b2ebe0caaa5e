use Rattle.std.proofs.Common.{sym, ap, Some, ◌∙◌, arith}
use Rattle.occ_nform_table.specs.Words.{each, items_of, words}
use Rattle.occ_nform_table.specs.Words.{small_number_of}
use Rattle.occ_nform_read.proofs.Splitting.{with_items, each_empty, each_starts, each_goes, each_stops, each_last, each_fails, cut_shorter}
use Rattle.occ_nform_read.proofs.words.numbers_of.Goals as goal

pub returns-then-is_empty : goal.returns-then-is_empty
returns-then-is_empty c = ap Some c.new-numbers.ensures ∙ each_empty small_number_of c.args.text.now (sym c.is_empty.ensures ∙ c.if-is_empty.true)

pub loop-word-init : goal.loop-word-init
loop-word-init c = ap (λ xs. with_items xs (each small_number_of (words c.args.text.now))) c.new-numbers.ensures ∙ each_starts small_number_of c.args.text.now (sym c.is_empty.ensures ∙ c.if-is_empty.false)

pub loop-word-smaller : goal.loop-word-smaller
loop-word-smaller c = omega (arith, cut_shorter 32 c.loop-word.rest.now c.in-Some.word.now c.in-Some.others.now c.in-Some.ensures)

pub loop-word-preserved : goal.loop-word-preserved
loop-word-preserved c =
    ap (λ xs. with_items xs (each small_number_of (words c.in-Some.others.now))) c.in_ok-push.ensures.ok
    ∙ each_goes small_number_of c.loop-word.numbers c.loop-word.rest.now c.in-Some.word.now c.in-Some.others.now c.in-Some-small_number_of.number (each small_number_of (items_of c.args.text.now)) c.in-Some.ensures (sym c.in-Some-small_number_of.ensures) c.loop-word.invariant

pub returns-in_default-small_number_of : goal.returns-in_default-small_number_of
returns-in_default-small_number_of c = each_stops small_number_of c.loop-word.numbers c.loop-word.rest.now c.in-Some.word.now c.in-Some.others.now (each small_number_of (items_of c.args.text.now)) c.in-Some.ensures (sym c.in_default-small_number_of.ensures) c.loop-word.invariant

pub returns-in_default-small_number_of-2 : goal.returns-in_default-small_number_of-2
returns-in_default-small_number_of-2 c = each_fails small_number_of c.loop-word.numbers c.loop-word.rest.now (each small_number_of (items_of c.args.text.now)) c.in_default.ensures (sym c.in_default-small_number_of-2.ensures) c.loop-word.invariant

pub returns : goal.returns
returns c =
    ap Some c.in_ok-push-2.ensures.ok
    ∙ each_last small_number_of c.loop-word.numbers c.loop-word.rest.now c.in-Some-small_number_of-2.number (each small_number_of (items_of c.args.text.now)) c.in_default.ensures (sym c.in-Some-small_number_of-2.ensures) c.loop-word.invariant
