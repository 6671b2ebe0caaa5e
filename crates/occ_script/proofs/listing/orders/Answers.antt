use Rattle.std.proofs.Common.{inl, sym, ◌∙◌}
use Rattle.std.proofs.lemmas.Bool.{le-ltb, lt-ltb}
use Rattle.std.proofs.lemmas.Result.{err_from_is_err_and}
use Rattle.occ_script.specs.Orders.{no_line, too_long}
use Rattle.occ_script.proofs.Few.{few_orders}
use Rattle.occ_script.proofs.Listed.{bad_head_there, bad_rest_there}
use Rattle.occ_script.proofs.Ordered.{err_weaker, ok_weaker}
use Rattle.occ_script.proofs.listing.orders.Goals as goal
use Rattle.occ_script_lines.specs.Left.{left}
use Rattle.occ_script_lines.specs.Sections.{section}

pub returns-then-text-gt-MOST_BYTES-clause-refused : goal.returns-then-text-gt-MOST_BYTES-clause-refused
returns-then-text-gt-MOST_BYTES-clause-refused c = inl (too_long (lt-ltb _ _ c.if-text-gt-MOST_BYTES.true))

pub returns-in_default-clause-refused : goal.returns-in_default-clause-refused
returns-in_default-clause-refused c = inl (no_line (le-ltb _ _ c.if-text-gt-MOST_BYTES.false) (sym c.new-sections.ensures ∙ c.in_default.ensures))

pub returns-in_err-check_head-clause-refused : goal.returns-in_err-check_head-clause-refused
returns-in_err-check_head-clause-refused c =
    let p = err_from_is_err_and c.from_residual.result c.from_residual.ensures.1 in
    rw (p.1, p.2) (bad_head_there c.args.text.now c.args.names.now (section c.in-Some.head) (left c.next.new.self) c.in_err-check_head.field-0.0 (le-ltb _ _ c.if-text-gt-MOST_BYTES.false)
    (sym c.new-sections.ensures ∙ c.in-Some.ensures) c.in_err-check_head.ensures.refused)

pub returns-clause-refused : goal.returns-clause-refused
returns-clause-refused c =
    err_weaker c.rest.result _ _
    (λ e h. bad_rest_there c.args.text.now c.args.names.now c.check_head.new.names (section c.in-Some.head) (left c.next.new.self) e (le-ltb _ _ c.if-text-gt-MOST_BYTES.false) (sym c.new-sections.ensures ∙ c.in-Some.ensures)
    c.in_ok-check_head.ensures.found c.in_ok-check_head.ensures.table h) c.rest.ensures.refused

pub returns-clause-few : goal.returns-clause-few
returns-clause-few c =
    ok_weaker c.rest.result _ _
    (λ orders h. few_orders c.args.text.now c.check_head.new.names c.rest.new.names (section c.in-Some.head) (left c.next.new.self) orders (le-ltb _ _ c.if-text-gt-MOST_BYTES.false) (sym c.new-sections.ensures ∙ c.in-Some.ensures)
    h) c.rest.ensures.found
