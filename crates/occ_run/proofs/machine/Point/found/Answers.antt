use Rattle.std.proofs.Common.{List, None, subst, ◌∙◌}
use Rattle.occ_syntax.specs.occ_base.declared.names.Name.{Name}
use Rattle.occ_syntax.specs.occ_base.declared.width.Width.{Width}
use Rattle.occ_run.specs.Founds.{IsAt, asked, effects}
use Rattle.occ_run.specs.Places.{names_at, values_at}
use Rattle.occ_run.specs.View.{control}
use Rattle.occ_run.proofs.Bodies.{on_ok}
use Rattle.occ_run.proofs.Founds.{at_all}
use Rattle.occ_run.proofs.machine.Point.found.Goals as goal

pub returns : goal.returns
returns c =
    let ks = effects (names_at c.args.self.now.place) (values_at c.args.self.now.place) (control c.args.self.now.control) in
    on_ok c.found.result (λ found h. at_all ks c.args.number found
    (subst (λ (cs : List (Name × Width)). IsAt (asked cs None ks) c.args.number found) (c.as_slice-hidden.ensures.value ∙ c.new-hidden.ensures.items) h)) c.found.ensures
