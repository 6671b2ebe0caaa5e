use Rattle.std.proofs.Common.{sym, ◌∙◌}
use Rattle.occ_syntax.specs.View.{numbers}
use Rattle.occ_norm_par.proofs.Writing.{entry_off, entry_on, names_there}
use Rattle.occ_norm_par.proofs.parallel.entry_bits.Goals as goal

pub returns-then-not-named : goal.returns-then-not-named
returns-then-not-named c = λ k h. entry_off (numbers c.args.names.now) c.args.entry.now (sym (names_there c.args.names.now c.args.entry.now.0) ∙ sym c.contains-named.ensures.value ∙ c.if-not-named.true) k

pub returns : goal.returns
returns c = entry_on (numbers c.args.names.now) c.args.entry.now _ _ (sym (names_there c.args.names.now c.args.entry.now.0) ∙ sym c.contains-named.ensures.value ∙ c.if-not-named.false) c.bits.ensures c.bits_from.ensures
