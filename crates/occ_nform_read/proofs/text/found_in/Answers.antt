use Rattle.std.proofs.Common.{◌≡◌, true, false, sym, ap, ◌∙◌, arith}
use Rattle.std.proofs.lemmas.Bool.{not-true, not-false}
use Rattle.std.specs.Str.{bytes_eq}
use Rattle.occ_nform_table.specs.occ_lex.Rows.{rows}
use Rattle.occ_nform_read.proofs.Steps.{rows_count}
use Rattle.occ_nform_read.proofs.WholeText.{no_version, other_version, behind_is}
use Rattle.occ_nform_read.proofs.text.found_in.Goals as goal

pub returns-in_default : goal.returns-in_default
returns-in_default c = no_version c.args.names.now (rows c.args.text.now) c.in_default.ensures

pub returns-then-ne : goal.returns-then-ne
returns-then-ne c =
    let other : bytes_eq c.in-Some.version.now c.as_slice.result.now ≡ false = not-true (bytes_eq c.in-Some.version.now c.as_slice.result.now) (sym c.ne.ensures ∙ c.if-ne.true) in
    other_version c.args.names.now (rows c.args.text.now) c.in-Some.version.now (rows c.in-Some.lines.now) c.in-Some.ensures.0 (ap (bytes_eq c.in-Some.version.now) (sym c.as_slice.ensures) ∙ other)

pub behind_version-requires-clause-short : goal.behind_version-requires-clause-short
behind_version-requires-clause-short c = omega (arith, c.requires, rows_count c.args.text.now)

pub returns : goal.returns
returns c =
    let same : bytes_eq c.in-Some.version.now c.as_slice.result.now ≡ true = not-false (bytes_eq c.in-Some.version.now c.as_slice.result.now) (sym c.ne.ensures ∙ c.if-ne.false) in
    behind_is c.behind_version.result c.args.names.now c.behind_version.new.names (rows c.args.text.now) c.in-Some.version.now (rows c.in-Some.lines.now) c.in-Some.ensures.0 (ap (bytes_eq c.in-Some.version.now) (sym c.as_slice.ensures) ∙ same) c.behind_version.ensures
