use Rattle.std.proofs.Common.{◌≡◌, ◌&&◌, IfOk, subst, ap, sym, ◌∙◌}
use Rattle.occ_syntax.specs.View.{numbers}
use Rattle.occ_names.specs.Once.{is_distinct, same_number}
use Rattle.occ_usage.specs.Faults.{names_of}
use Rattle.occ_usage.proofs.Scoped.{scope_is}
use Rattle.occ_usage.proofs.keeping.keeps_scope.Goals as goal

pub returns-then-not-widths_kept : goal.returns-then-not-widths_kept
returns-then-not-widths_kept c =
    let once = is_distinct same_number (names_of c.args.scope.now) in
    sym (scope_is c.args.scope.now ∙ ap (λ b. b && once) (sym c.if-not-widths_kept.ensures))

pub returns : goal.returns
returns c =
    let once = is_distinct same_number (names_of c.args.scope.now) in
    let whole = sym (scope_is c.args.scope.now ∙ ap (λ b. b && once) (sym c.if-not-widths_kept.ensures)) in
    subst (λ o. IfOk c.distinct.result (λ kept. kept ≡ o)) (ap (λ ks. is_distinct same_number (numbers ks)) c.as_slice.ensures.value ∙ ap (is_distinct same_number) c.in_ok-names.ensures ∙ whole) c.distinct.ensures
