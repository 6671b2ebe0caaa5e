use Rattle.std.proofs.Common.{◌≡◌, arith, inl, subst, sym, true, false}
use Rattle.occ_script.specs.declared.fault.ScriptFault.{ScriptFault}
use Rattle.occ_script.specs.Refusals.{IsBadHead, another, earlier}
use Rattle.occ_script.specs.Scripts.{first_line, old_line}
use Rattle.occ_script.proofs.Ordered.{further_line, line_is, unread_line}
use Rattle.occ_script.proofs.forming.check_head.Goals as goal
use Rattle.occ_script_lines.specs.Lines.{is_line}
use Rattle.occ_script_lines.specs.Sections.{section}

pub returns-then-is_line-clause-refused : goal.returns-then-is_line-clause-refused
returns-then-is_line-clause-refused c = inl (earlier (line_is _ _ _ _ _ _ c.is_line.ensures c.old_line.ensures c.row.ensures c.if-is_line.true))

pub returns-then-not-is_line-clause-refused : goal.returns-then-not-is_line-clause-refused
returns-then-not-is_line-clause-refused c =
    inl (another (line_is _ _ _ _ _ _ c.is_line.ensures c.old_line.ensures c.row.ensures c.if-is_line.false) (line_is _ _ _ _ _ _ c.is_line-2.ensures c.first_line.ensures c.row-2.ensures c.if-not-is_line.true))

pub returns-in-len1-up-clause-refused : goal.returns-in-len1-up-clause-refused
returns-in-len1-up-clause-refused c =
    let s = section c.args.head.now in
    let old : is_line (old_line c.args.format) s.row ≡ false = line_is _ _ _ _ _ _ c.is_line.ensures c.old_line.ensures c.row.ensures c.if-is_line.false in
    let new : is_line (first_line c.args.format) s.row ≡ true = line_is _ _ _ _ _ _ c.is_line-2.ensures c.first_line.ensures c.row-2.ensures c.if-not-is_line.false in
    inl (further_line c.args.format c.args.names.now s c.in_ok-found.found.judged.lines.items c.as_slice.result.now c.first-item.result c.in_ok-found.found.judged.stop old new
    c.in_ok-found.ensures.found.judged c.as_slice.ensures.value (omega (arith, c.in-len1-up.len_at_least)) c.first-item.is)

pub returns-in-Some-clause-refused : goal.returns-in-Some-clause-refused
returns-in-Some-clause-refused c =
    let s = section c.args.head.now in
    let old : is_line (old_line c.args.format) s.row ≡ false = line_is _ _ _ _ _ _ c.is_line.ensures c.old_line.ensures c.row.ensures c.if-is_line.false in
    let new : is_line (first_line c.args.format) s.row ≡ true = line_is _ _ _ _ _ _ c.is_line-2.ensures c.first_line.ensures c.row-2.ensures c.if-not-is_line.false in
    inl (subst (λ (e : ScriptFault). IsBadHead c.args.format c.args.names.now s e) (sym c.text_fault.ensures)
    (unread_line c.args.format c.args.names.now s c.in_ok-found.found.judged.lines.items c.as_slice.result.now c.in_ok-found.found.judged.stop c.in-Some.fault old new
    c.in_ok-found.ensures.found.judged c.as_slice.ensures.value (omega (arith, c.in_default.len_below)) c.in-Some.is))
