use Rattle.std.proofs.Common.{◌<◌, sym, subst}
use Rattle.occ_dd.specs.Table.{nodes_of}
use Rattle.occ_dd.proofs.Growth.{known-keeps}
use Rattle.occ_dd.specs.Choices.{greatest_depth}
use Rattle.occ_dd.proofs.Choosing.{choice_learnt}
use Rattle.occ_dd.proofs.Sets.{deep, grows_refl, grows_trans}
use Rattle.occ_dd.proofs.Steps.{choice_either, choice_empty, choice_itself, choice_side, choices_joined, second_smaller}
use Rattle.occ_dd.proofs.store.Store.+choose.Goals as goal

pub returns-then-test-self-clause-chosen : goal.returns-then-test-self-clause-chosen
returns-then-test-self-clause-chosen t c = choice_either c.args.self.now c.args.test c.args.yes c.args.no c.requires.test c.requires.yes c.requires.no c.then-test-self.either

pub returns-then-test-self-2-clause-chosen : goal.returns-then-test-self-2-clause-chosen
returns-then-test-self-2-clause-chosen t c = choice_empty c.args.self.now c.args.test c.args.yes c.args.no c.requires.test c.requires.yes c.requires.no c.if-test-self-2.true

pub returns-then-no-self-clause-chosen : goal.returns-then-no-self-clause-chosen
returns-then-no-self-clause-chosen t c = choice_itself c.args.self.now c.args.test c.args.yes c.args.no c.requires.test c.requires.yes c.requires.no c.if-yes-self.true c.if-no-self.true

pub returns-in-Some-clause-chosen : goal.returns-in-Some-clause-chosen
returns-in-Some-clause-chosen t c = c.args.self.now.choices_right (record { first = c.args.test; second = c.args.yes; third = c.args.no }) c.in-Some.chosen (sym c.in-Some.ensures)

pub top_bit-bit-requires-clause-open : goal.top_bit-bit-requires-clause-open
top_bit-bit-requires-clause-open t c = deep c.args.self.now c.args.test c.requires.test c.if-test-self.false c.if-test-self-2.false

pub choose-requires-2 : goal.choose-requires-2
choose-requires-2 t c =
    let r = c.args.self.now in
    let s = c.choose.new.self in (
      subst (λ n. greatest_depth (nodes_of s.table) c.parts-test_low.result.1 c.parts-yes_low.result.1 c.parts-no_low.result.1 < n) c.decreases
          (second_smaller r s c.choose.ensures.grows c.args.test c.args.yes c.args.no _ _ _ c.top_bit-bit.result 1 c.top_bit-bit.ensures c.parts-test_low.ensures.high c.parts-yes_low.ensures.high c.parts-no_low.ensures.high),
      (known-keeps (nodes_of r.table) (nodes_of s.table) c.choose.ensures.grows.nodes _ c.parts-test_low.ensures.high.known, (known-keeps (nodes_of r.table) (nodes_of s.table) c.choose.ensures.grows.nodes _ c.parts-yes_low.ensures.high.known, known-keeps (nodes_of r.table) (nodes_of s.table) c.choose.ensures.grows.nodes _ c.parts-no_low.ensures.high.known)),
    )

pub branch-self-requires-clause-low : goal.branch-self-requires-clause-low
branch-self-requires-clause-low t c =
    choice_side c.args.self.now c.choose.new.self c.choose-2.new.self c.choose.ensures.grows c.choose-2.ensures.grows c.args.test c.args.yes c.args.no _ _ _ c.top_bit-bit.result 0 c.in_ok-low.low
    c.parts-test_low.ensures.low c.parts-yes_low.ensures.low c.parts-no_low.ensures.low c.in_ok-low.ensures.chosen

pub branch-self-requires-clause-high : goal.branch-self-requires-clause-high
branch-self-requires-clause-high t c =
    choice_side c.args.self.now c.choose-2.new.self c.choose-2.new.self (grows_trans _ _ _ c.choose.ensures.grows c.choose-2.ensures.grows) (grows_refl c.choose-2.new.self) c.args.test c.args.yes c.args.no _ _ _ c.top_bit-bit.result 1 c.in_ok-high.high
    c.parts-test_low.ensures.high c.parts-yes_low.ensures.high c.parts-no_low.ensures.high c.in_ok-high.ensures.chosen

pub invariant_of-self : goal.invariant_of-self
invariant_of-self t c =
    let s = c.branch-self.new.self in
    record {
      empty_known = s.empty_known;
      full_known = s.full_known;
      empty_is = s.empty_is;
      full_is = s.full_is;
      choices_right = choice_learnt (nodes_of s.table) s.full s.choices c.insert.new.self (record { first = c.args.test; second = c.args.yes; third = c.args.no }) c.in_ok-chosen.chosen c.insert.ensures s.choices_right (choices_joined c.args.self.now c.choose.new.self c.choose-2.new.self c.branch-self.new.self c.choose.ensures.grows c.choose-2.ensures.grows c.branch-self.ensures.grows c.args.test c.args.yes c.args.no _ _ _ _ _ _ c.in_ok-low.low c.in_ok-high.high c.in_ok-chosen.chosen c.top_bit-bit.result c.requires.test c.requires.yes c.requires.no c.top_bit-bit.ensures c.parts-test_low.ensures.low c.parts-yes_low.ensures.low c.parts-no_low.ensures.low c.parts-test_low.ensures.high c.parts-yes_low.ensures.high c.parts-no_low.ensures.high c.in_ok-low.ensures.chosen c.in_ok-high.ensures.chosen c.in_ok-chosen.ensures.split);
      unions_right = s.unions_right;
    }

pub returns-clause-chosen : goal.returns-clause-chosen
returns-clause-chosen t c = choices_joined c.args.self.now c.choose.new.self c.choose-2.new.self c.branch-self.new.self c.choose.ensures.grows c.choose-2.ensures.grows c.branch-self.ensures.grows c.args.test c.args.yes c.args.no _ _ _ _ _ _ c.in_ok-low.low c.in_ok-high.high c.in_ok-chosen.chosen c.top_bit-bit.result c.requires.test c.requires.yes c.requires.no c.top_bit-bit.ensures c.parts-test_low.ensures.low c.parts-yes_low.ensures.low c.parts-no_low.ensures.low c.parts-test_low.ensures.high c.parts-yes_low.ensures.high c.parts-no_low.ensures.high c.in_ok-low.ensures.chosen c.in_ok-high.ensures.chosen c.in_ok-chosen.ensures.split
