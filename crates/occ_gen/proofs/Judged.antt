-- A text of an accepted program has no fault.
use Rattle.std.proofs.Common.{◌≡◌, ℕ, List, [], subst}
use Rattle.occ_script.specs.occ_base.declared.names.Name.{Name}
use Rattle.occ_gen.specs.Accepted.{IsTextOfAccepted}
use Rattle.occ_print_back.specs.occ_parse.declared.bound.Bound.{Bound}
use Rattle.occ_print_back.specs.occ_parse.declared.bound.Bound.TheVariants as bound
use Rattle.occ_print_back.specs.occ_parse.declared.fault.ParseFault.{ParseFault}
use Rattle.occ_print_back.specs.occ_parse.Reading.{IsRead, IsRefused, SameReading}
use Rattle.occ_script.specs.occ_syntax.Tree.{Tree}
use Rattle.occ_script.specs.occ_syntax.Usage.{KeepsUsage}
use Rattle.occ_script.specs.occ_syntax.View.{tree}
use Rattle.occ_script.specs.occ_syntax.declared.scope.Kind.{Kind}
use Rattle.occ_script.specs.occ_syntax.declared.scope.Program.{Program}
use Rattle.occ_print_back.specs.occ_usage.Accepted.{usage_faults}
use Rattle.occ_print_back.specs.occ_usage.Faults.{names_of}
use Rattle.occ_print_back.proofs.from_usage.Law.{keeps_no_fault}

abbrev ApartLaw : Type 0
ApartLaw = (b : Bound) (text : List ℕ) (old new : List (List ℕ)) (n : Name) (ps : List (Name × Kind)) (p : Tree) (ks : List ℕ) (f : ParseFault)
    → IsRead b text old new n ps p ks → IsRefused b text old f → ⊥

abbrev OnceLaw : Type 0
OnceLaw = (b : Bound) (text : List ℕ) (old first second : List (List ℕ)) (n m : Name) (ps qs : List (Name × Kind)) (p q : Tree) (ks ls : List ℕ)
    → IsRead b text old first n ps p ks → IsRead b text old second m qs q ls → SameReading first second n m ps qs p q ks ls

pub never_refused : ApartLaw → {text : List ℕ} {fault : ParseFault} → IsTextOfAccepted text → IsRefused bound.Program text [] fault → ⊥
never_refused apart {text = text} {fault = fault} a r = apart bound.Program text [] a.names a.name a.params a.body a.lines fault a.read r

pub never_shared : OnceLaw → {text : List ℕ} {new : List (List ℕ)} (program : Program) {lines : List ℕ} → IsTextOfAccepted text
    → IsRead bound.Program text [] new program.name program.params (tree program.body) lines → usage_faults program ≡ []
never_shared once {text = text} {new = new} program {lines = lines} a r =
    let same = once bound.Program text [] a.names new a.name program.name a.params program.params a.body (tree program.body) a.lines lines a.read r in
    keeps_no_fault (tree program.body) 0 (names_of program.params) (subst KeepsUsage same.body a.usage)
