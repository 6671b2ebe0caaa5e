use Rattle.std.proofs.Common.{arith, rules, ℕ, List, length, Ok, subst, sym, ap, ◌∙◌, ◌≡◌, ◌≤◌, ◌<◌, ◌^◌}
use Rattle.occ_syntax.specs.View.{tree}
use Rattle.occ_syntax.specs.Counts.{bits_of_scope}
use Rattle.occ_nform_rows.specs.occ_nform_table.Tables.{IsInterface}
use Rattle.occ_nform_rows.specs.occ_nform_table.Normal.{Parts, text_read}
use Rattle.occ_nform.proofs.Plain.{reads}
use Rattle.occ_nform.specs.Counted.{HasCounts}
use Rattle.occ_nform.proofs.Written.{normal_text_of, rows_named}
use Rattle.occ_nform.proofs.Rooted.{nodes, within, root_of, interface_of, params_of, text_of, counted, has_counts}
use Rattle.occ_nform.proofs.canon.measured.Goals as goal

pub tabulate-requires-clause-interface : goal.tabulate-requires-clause-interface
tabulate-requires-clause-interface c = interface_of c.args.names.now c.args.accepted.now.program.params c.in_ok-root.root c.in_ok-root.ensures.params c.requires.interface

pub tabulate-requires-clause-params : goal.tabulate-requires-clause-params
tabulate-requires-clause-params c = params_of c.args.names.now c.args.accepted.now.program.params c.in_ok-root.root c.in_ok-root.ensures.params c.requires.params

pub tabulate-requires-clause-nodes : goal.tabulate-requires-clause-nodes
tabulate-requires-clause-nodes c =
    let p = c.args.accepted.now.program in
    let typed = c.args.accepted.now.kept.typed in
    nodes c.normalise.new.world p.params typed.scope typed.interface (tree p.body) typed.types c.in_ok-root.root c.in_ok-root.ensures.params c.in_ok-root.ensures.root

pub tabulate-requires-clause-within : goal.tabulate-requires-clause-within
tabulate-requires-clause-within c =
    let p = c.args.accepted.now.program in
    let typed = c.args.accepted.now.kept.typed in
    within c.normalise.new.world p.params typed.scope typed.interface (tree p.body) typed.types c.in_ok-root.root c.in_ok-root.ensures.params c.in_ok-root.ensures.root

pub table_text-requires-clause-interface : goal.table_text-requires-clause-interface
table_text-requires-clause-interface c =
    subst (IsInterface c.args.names.now) (sym (c.in_ok-table.ensures.params ∙ c.in_ok-root.ensures.params)) c.requires.interface

pub table_text-requires-clause-rows : goal.table_text-requires-clause-rows
table_text-requires-clause-rows c =
    let normal = c.in_ok-table.ensures.normal in
    rows_named c.args.names.now c.in_ok-table.table.params normal.interface.named c.in_ok-table.table.rows normal.rows

pub returns : goal.returns
returns c =
    let names = c.args.names.now in
    let p = c.args.accepted.now.program in
    let typed = c.args.accepted.now.kept.typed in
    let r = c.in_ok-root.root in
    let t = c.in_ok-table.table in
    let e = c.in_ok-table.ensures in
    let w = c.normalise.new.world in
    let eq = c.in_ok-root.ensures.params in
    let text = c.in_ok-text.text.items in
    let table : Parts = record { names = names; params = t.params; rows = t.rows; states = t.states } in
    let has = nodes w p.params typed.scope typed.interface (tree p.body) typed.types r eq c.in_ok-root.ensures.root in
    let of = root_of w p.params typed.scope typed.interface (tree p.body) typed.types r eq c.in_ok-root.ensures.root in
    let few : bits_of_scope r.params ≤ 16 = subst (λ ps. bits_of_scope ps ≤ 16) (sym eq) typed.interface in
    let is = normal_text_of names w r t.params t.rows t.states few has e.params c.bound_rows.ensures e.normal e.behaviours text c.in_ok-text.ensures.text c.in_ok-text.ensures.distinct (tree p.body) of in
    let few_rows : length t.rows ≤ 10 ^ 64 = omega (arith, c.bound_rows.ensures) in
    let read : text_read names text ≡ Ok table = ap (text_read names) c.in_ok-text.ensures.text ∙ reads table c.in_ok-text.ensures.distinct e.normal few_rows in
    counted c.count.result table (HasCounts names p.params (tree p.body))
    (λ counts k. has_counts names p.params (tree p.body) table text (subst (λ (l : List ℕ). length l < 2 ^ 64) c.as_slice.ensures.value c.bound_bytes.ensures) read (text_of names p.params r eq (tree p.body) text is) counts k)
    c.count.ensures.rows c.count.ensures.offers c.count.ensures.height c.count.ensures.states
