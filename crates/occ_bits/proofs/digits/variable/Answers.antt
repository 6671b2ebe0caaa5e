use Rattle.std.proofs.Common.{◌≡◌, ◌≤◌, ◌+◌, ◌/◌, ◌%◌, ◌^◌, Some, sym, ◌∙◌, subst}
use Rattle.std.proofs.lemmas.Result.{IfOk-weaker}
use Rattle.occ_bits.specs.Layout.{entry_of}
use Rattle.occ_bits.specs.Words.{IsWord}
use Rattle.occ_bits.proofs.Laid.{found_within}
use Rattle.occ_bits.proofs.Values.{found_few, never_missing, variable_word}
use Rattle.occ_bits.proofs.digits.variable.Goals as goal

pub bits_from-requires-clause-within : goal.bits_from-requires-clause-within
bits_from-requires-clause-within c = subst (λ n. c.in-Some.first + n ≤ 64) (sym c.bits.ensures) (found_within c.args.entries.now c.requires.laid c.args.name.0 c.in-Some.width c.in-Some.first (sym c.find.ensures ∙ c.in-Some.is))

pub bits_from-requires-clause-few : goal.bits_from-requires-clause-few
bits_from-requires-clause-few c = subst (λ n. n ≤ 8) (sym c.bits.ensures) (found_few c.args.entries.now c.requires.laid c.args.name.0 c.in-Some.width c.in-Some.first (sym c.find.ensures ∙ c.in-Some.is))

pub unreachable-requires : goal.unreachable-requires
unreachable-requires c = never_missing c.args.entries.now c.args.name.0 (sym c.find.ensures ∙ c.in-None.is) c.requires.known

pub returns-clause-word : goal.returns-clause-word
returns-clause-word c =
    let found : entry_of c.args.entries.now c.args.name.0 ≡ Some (c.in-Some.width, c.in-Some.first) = sym c.find.ensures ∙ c.in-Some.is in
    IfOk-weaker c.bits_from.result _ _
    (λ word is. variable_word c.bits_from.new.store c.args.entries.now c.args.name.0 c.in-Some.width c.in-Some.first word found (subst (λ n. IsWord c.bits_from.new.store n word (λ x. x / 2 ^ c.in-Some.first % 2 ^ n)) c.bits.ensures is))
    c.bits_from.ensures.word
