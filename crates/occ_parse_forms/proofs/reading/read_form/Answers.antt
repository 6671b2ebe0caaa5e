use Rattle.std.proofs.Common.{subst}
use Rattle.occ_parse_forms.specs.Gives.{FailsAs}
use Rattle.occ_parse_forms.specs.Reading.{form_of}
use Rattle.occ_parse_forms.specs.Shape.{shape}
use Rattle.occ_parse_forms.proofs.Forms.{said_form, no_form, form_ok}
use Rattle.occ_parse_forms.proofs.reading.read_form.Goals as goal

pub returns-in-Ok : goal.returns-in-Ok
returns-in-Ok c = said_form c.args.symbols.now (shape c.in-Ok.form) (form_ok c.args.symbols.now (shape c.in-Ok.form) c.in-Ok.ensures)

pub returns-in-Form : goal.returns-in-Form
returns-in-Form c = no_form c.args.symbols.now (subst (λ f. FailsAs f (form_of c.args.symbols.now)) c.in-Form.is c.in-Err.ensures)
