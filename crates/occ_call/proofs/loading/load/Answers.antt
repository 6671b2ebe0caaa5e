use Rattle.std.proofs.Common.{sym, subst}
use Rattle.occ_call.specs.Files.{AsksFor, names_of}
use Rattle.occ_call.specs.declared.loading.Wanted.{Wanted}
use Rattle.occ_call.proofs.Leaving.{err_is, first_stops, second_stops}
use Rattle.occ_call.proofs.loading.load.Goals as goal

pub returns-in_err-first-in-Two-clause-asked : goal.returns-in_err-first-in-Two-clause-asked
returns-in_err-first-in-Two-clause-asked g c =
    let old = g.D.Desk.asked c.args.desk.now in
    let new = g.D.Desk.asked c.load_file-in-Two.new.desk in
    let P : Wanted → Type 0 = λ w. AsksFor old new (names_of w) c.from_residual-in_err-first-in-Two.result in
    subst P (sym c.in-Two.is) (first_stops old new c.in-Two.file.name.now c.in-Two.other.name.now c.load_file-in-Two.result _ c.in_err-first-in-Two.field-0.0 c.in_err-first-in-Two.was
    (err_is _ _ c.from_residual-in_err-first-in-Two.ensures.1) c.load_file-in-Two.ensures.asked)

pub returns-in_err-second-in-Two-clause-asked : goal.returns-in_err-second-in-Two-clause-asked
returns-in_err-second-in-Two-clause-asked g c =
    let old = g.D.Desk.asked c.args.desk.now in
    let between = g.D.Desk.asked c.load_file-in-Two.new.desk in
    let new = g.D.Desk.asked c.load_file-in-Two-2.new.desk in
    let P : Wanted → Type 0 = λ w. AsksFor old new (names_of w) c.from_residual-in_err-second-in-Two.result in
    subst P (sym c.in-Two.is) (second_stops old between new c.in-Two.file.name.now c.in-Two.other.name.now c.load_file-in-Two-2.result _ c.in_err-second-in-Two.field-0.0
    c.in_err-second-in-Two.was (err_is _ _ c.from_residual-in_err-second-in-Two.ensures.1) c.in_ok-first-in-Two.ensures.asked c.load_file-in-Two-2.ensures.asked)
