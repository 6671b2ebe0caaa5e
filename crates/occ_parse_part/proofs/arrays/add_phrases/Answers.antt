use Rattle.std.proofs.Common.{sym, ◌∙◌}
use Rattle.occ_parse_part.proofs.Listed.{phrase_more, phrases_done}
use Rattle.occ_parse_part.proofs.arrays.add_phrases.Goals as goal

pub loop-phrase-preserved : goal.loop-phrase-preserved
loop-phrase-preserved c = phrase_more c.args.phrases.now c.loop-phrase.phrase-index c.phrase-item.result _ _ _ c.loop-phrase-test.true c.phrase-item.is c.in_ok-add_phrase.ensures ∙ c.loop-phrase.invariant

pub returns : goal.returns
returns c = sym (phrases_done c.args.phrases.now c.loop-phrase.phrase-index _ c.loop-phrase-test.false) ∙ c.loop-phrase.invariant
