use Rattle.std.proofs.Common.{refl, sym, ◌∙◌}
use Rattle.occ_parse_forms.specs.declared.form.Declared.TheVariants as declared
use Rattle.occ_parse_part.proofs.Kept.{named_done, named_more, named_one}
use Rattle.occ_parse_part.proofs.elements.note_row.Goals as goal

pub loop-k-preserved : goal.loop-k-preserved
loop-k-preserved c =
    named_more c.args.array c.args.row.now c.loop-k.k _ _ _ _ c.loop-k-test.true refl
    (named_one _ _ _ (declared.Element c.args.array c.loop-k.k) c.in_ok-insert.ensures.updates.0)
    ∙ c.loop-k.invariant

pub returns : goal.returns
returns c = sym (named_done c.args.array c.args.row.now c.loop-k.k _ c.loop-k-test.false) ∙ c.loop-k.invariant
