use Rattle.std.proofs.Common.{inl}
use Rattle.std.proofs.lemmas.Bool.{le-ltb, lt-ltb}
use Rattle.std.proofs.lemmas.Result.{err_from_is_err_and}
use Rattle.occ_script.specs.Refusals.{too_long}
use Rattle.occ_script.proofs.Few.{few_steps}
use Rattle.occ_script.proofs.Grown.{known_grown}
use Rattle.occ_script.proofs.Texts.{bad_from, bad_to, script_is, unformed_is}
use Rattle.occ_script.proofs.reading.read.Goals as goal

pub returns-then-text-gt-MOST_BYTES-clause-refused : goal.returns-then-text-gt-MOST_BYTES-clause-refused
returns-then-text-gt-MOST_BYTES-clause-refused c = inl (too_long (lt-ltb _ _ c.if-text-gt-MOST_BYTES.true))

pub returns-in_err-formed-clause-refused : goal.returns-in_err-formed-clause-refused
returns-in_err-formed-clause-refused c =
    let p = err_from_is_err_and c.from_residual.result c.from_residual.ensures.1 in
    rw (p.1, p.2) (unformed_is c.args.text.now c.args.names.now c.in_err-formed.field-0.0 (le-ltb _ _ c.if-text-gt-MOST_BYTES.false) c.in_err-formed.ensures.refused)

pub returns-in_err-from-clause-refused : goal.returns-in_err-from-clause-refused
returns-in_err-from-clause-refused c =
    let p = err_from_is_err_and c.from_residual-in_err-from.result c.from_residual-in_err-from.ensures.1 in
    let f = c.in_ok-formed.formed in
    rw (p.1, p.2) (bad_from c.args.text.now c.args.names.now c.formed.new.names f.from.text.items c.deref.result.now f.to.text.items f.steps c.in_err-from.field-0.0 (le-ltb _ _ c.if-text-gt-MOST_BYTES.false)
    c.in_ok-formed.ensures.found c.deref.ensures.value c.in_err-from.ensures.refused)

pub returns-in_err-to-clause-refused : goal.returns-in_err-to-clause-refused
returns-in_err-to-clause-refused c =
    let p = err_from_is_err_and c.from_residual-in_err-to.result c.from_residual-in_err-to.ensures.1 in
    let f = c.in_ok-formed.formed in
    rw (p.1, p.2) (bad_to c.args.text.now c.args.names.now c.formed.new.names c.program.new.names f.from.text.items c.deref.result.now f.to.text.items c.deref-2.result.now f.steps c.in_ok-from.from.program c.in_ok-from.from.lines c.in_err-to.field-0.0
    (le-ltb _ _ c.if-text-gt-MOST_BYTES.false) c.in_ok-formed.ensures.found c.deref.ensures.value c.in_ok-from.ensures.found c.deref-2.ensures.value c.in_err-to.ensures.refused)

pub returns-clause-found : goal.returns-clause-found
returns-clause-found c =
    script_is c.args.text.now c.args.names.now c.formed.new.names c.program.new.names c.program-2.new.names c.in_ok-formed.formed.from.text.items c.deref.result.now c.in_ok-formed.formed.to.text.items c.deref-2.result.now _ c.in_ok-to.to.lines
    (le-ltb _ _ c.if-text-gt-MOST_BYTES.false) c.in_ok-formed.ensures.found c.deref.ensures.value c.in_ok-from.ensures.found c.deref-2.ensures.value c.in_ok-to.ensures.found

pub returns-clause-known_from : goal.returns-clause-known_from
returns-clause-known_from c = known_grown c.program.new.names c.program-2.new.names c.in_ok-from.from.program c.program-2.ensures.extends c.in_ok-from.ensures.known

pub returns-clause-few : goal.returns-clause-few
returns-clause-few c =
    let f = c.in_ok-formed.formed in
    few_steps c.args.text.now c.args.names.now c.formed.new.names f.from.text.items f.to.text.items f.steps (le-ltb _ _ c.if-text-gt-MOST_BYTES.false) c.in_ok-formed.ensures.found
