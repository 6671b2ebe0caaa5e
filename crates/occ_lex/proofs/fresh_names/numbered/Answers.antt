use Rattle.std.proofs.Common.{◌∙◌}
use Rattle.occ_lex.proofs.Growing.{grows_not}
use Rattle.occ_lex.proofs.FreshNumerals.{numbered_grown}
use Rattle.occ_lex.proofs.fresh_names.numbered.Goals as goal

pub returns-in_err-text-clause-grown : goal.returns-in_err-text-clause-grown
returns-in_err-text-clause-grown c = grows_not c.args.names.now

pub returns-clause-grown : goal.returns-clause-grown
returns-clause-grown c =
    numbered_grown c.args.names.now c.intern.new.self c.args.letter c.args.number c.as_slice.result.now c.intern.result c.requires
    c.ranges.number.fits (c.as_slice.ensures.value ∙ c.in_ok-text.ensures) c.intern.ensures.table c.intern.ensures.err
