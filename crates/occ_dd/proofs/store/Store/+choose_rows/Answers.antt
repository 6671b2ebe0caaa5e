use Rattle.std.proofs.Common.{◌≡◌, ◌/◌, ◌^◌, ◌∙◌, length, arith, subst}
use Rattle.std.proofs.lemmas.Result.{IfOk-weaker}
use Rattle.occ_dd.specs.Table.{nodes_of}
use Rattle.occ_dd.specs.Choices.{IsChoice}
use Rattle.occ_dd.specs.Grows.{IsRows}
use Rattle.occ_dd.proofs.Growth.{known-keeps}
use Rattle.occ_dd.proofs.Sets.{known_size, grows_trans}
use Rattle.occ_dd.proofs.Rows.{half_is, doubled, row_full, row_empty, front_known, last_known, known_grown, rows_joined}
use Rattle.occ_dd.proofs.store.Store.+choose_rows.Goals as goal

pub returns-then-rows-clause-rows : goal.returns-then-rows-clause-rows
returns-then-rows-clause-rows t c = row_full c.args.self.now c.args.rows.now c.args.inputs.now c.in_default.ensures.cases c.if-rows.true

pub returns-else-rows-clause-rows : goal.returns-else-rows-clause-rows
returns-else-rows-clause-rows t c = row_empty c.args.self.now c.args.rows.now c.args.inputs.now c.in_default.ensures.cases c.if-rows.false

pub choose_rows-requires : goal.choose_rows-requires
choose_rows-requires t c =
    let split = c.in-Some.ensures.cases in
    let half : length c.args.rows.now / 2 ≡ 2 ^ length c.in-Some.rest.now = half_is (length c.args.rows.now) (length c.args.inputs.now) (length c.in-Some.rest.now) c.requires.rows split.1 in
    (omega (arith, split.1, c.decreases), (c.split_at.ensures.front_len ∙ half, front_known c.args.self.now c.in-Some.rest.now c.in-Some.last.now c.args.inputs.now split.0 c.requires.known))

pub choose_rows-requires-2 : goal.choose_rows-requires-2
choose_rows-requires-2 t c =
    let split = c.in-Some.ensures.cases in
    let half : length c.args.rows.now / 2 ≡ 2 ^ length c.in-Some.rest.now = half_is (length c.args.rows.now) (length c.args.inputs.now) (length c.in-Some.rest.now) c.requires.rows split.1 in
    (omega (arith, split.1, c.decreases), (omega (arith, c.split_at.ensures.back_len, half, c.requires.rows, doubled (length c.in-Some.rest.now) (length c.args.inputs.now) split.1), known_grown c.args.self.now c.choose_rows.new.self c.choose_rows.ensures.grows c.in-Some.rest.now (front_known c.args.self.now c.in-Some.rest.now c.in-Some.last.now c.args.inputs.now split.0 c.requires.known)))

pub choose-requires-clause-test : goal.choose-requires-clause-test
choose-requires-clause-test t c =
    let split = c.in-Some.ensures.cases in
    let g = grows_trans c.args.self.now c.choose_rows.new.self c.choose_rows-2.new.self c.choose_rows.ensures.grows c.choose_rows-2.ensures.grows in
    known-keeps (nodes_of c.args.self.now.table) (nodes_of c.choose_rows-2.new.self.table) g.nodes c.in-Some.last.now.0 (known_size c.args.self.now c.in-Some.last.now (last_known c.args.self.now c.in-Some.rest.now c.in-Some.last.now c.args.inputs.now split.0 c.requires.known))

pub returns-clause-rows : goal.returns-clause-rows
returns-clause-rows t c =
    let split = c.in-Some.ensures.cases in
    let half : length c.args.rows.now / 2 ≡ 2 ^ length c.in-Some.rest.now = half_is (length c.args.rows.now) (length c.args.inputs.now) (length c.in-Some.rest.now) c.requires.rows split.1 in
    let u = c.choose.new.self in
    IfOk-weaker c.choose.result (λ n. IsChoice (nodes_of u.table) u.full c.in-Some.last.now.0 c.in_ok-high.high c.in_ok-low.low n) (λ n. IsRows c.args.self.now u c.args.rows.now c.args.inputs.now n)
    (λ n is. rows_joined c.args.self.now c.choose_rows.new.self c.choose_rows-2.new.self u c.choose_rows.ensures.grows c.choose_rows-2.ensures.grows c.choose.ensures.grows c.args.rows.now c.in-Some.rest.now c.in-Some.last.now c.args.inputs.now (length c.args.rows.now / 2) c.in_ok-low.low c.in_ok-high.high n
    split.0 half c.requires.known
    (subst (λ rows. IsRows c.args.self.now c.choose_rows.new.self rows c.in-Some.rest.now c.in_ok-low.low) c.split_at.ensures.front c.in_ok-low.ensures.rows)
    (subst (λ rows. IsRows c.choose_rows.new.self c.choose_rows-2.new.self rows c.in-Some.rest.now c.in_ok-high.high) c.split_at.ensures.back c.in_ok-high.ensures.rows) is)
    c.choose.ensures.chosen
