use Rattle.std.proofs.lemmas.Bool.{OnTrue_at, OnFalse_at}
use Rattle.std.proofs.lemmas.Option.{MatchOption-at_some, MatchOption-at_none}
use Rattle.occ_dd.specs.Store.{IsConstant, Splits}
use Rattle.occ_mdd.specs.Chosen.{id_of}
use Rattle.occ_mdd.proofs.Choosing.{chosen_full, chosen_rest, made_halved, split_halved, top_depth}
use Rattle.occ_mdd.proofs.choose.halve.Goals as goal

pub returns-then-is_full : goal.returns-then-is_full
returns-then-is_full g c = made_halved _ (chosen_full c.requires.asked (OnTrue_at c.if-is_full.true c.is_full.ensures.full))

pub returns-else-is_full : goal.returns-else-is_full
returns-else-is_full g c = made_halved _ (chosen_rest c.requires.asked
    (MatchOption-at_none (IsConstant c.args.store.now (id_of c.args.call.first)) (λ p. Splits c.args.store.now (id_of c.args.call.first) p.0 p.1 p.2) c.in_default.is c.split.ensures) (OnFalse_at c.if-is_full.false c.is_full.ensures.other))

pub top_bit-bit-requires-clause-top : goal.top_bit-bit-requires-clause-top
top_bit-bit-requires-clause-top g c = let splits = MatchOption-at_some (IsConstant c.args.store.now (id_of c.args.call.first)) (λ p. Splits c.args.store.now (id_of c.args.call.first) p.0 p.1 p.2) c.in-Some.split c.in-Some.is c.split.ensures in splits.bit_within

pub sides-requires-clause-split : goal.sides-requires-clause-split
sides-requires-clause-split g c = MatchOption-at_some (IsConstant c.args.store.now (id_of c.args.call.first)) (λ p. Splits c.args.store.now (id_of c.args.call.first) p.0 p.1 p.2) c.in-Some.split c.in-Some.is c.split.ensures

pub sides-requires-clause-top : goal.sides-requires-clause-top
sides-requires-clause-top g c = c.top_bit-bit.ensures.set

pub returns : goal.returns
returns g c = split_halved _ _ _ (record {
  within = c.top_bit-bit.ensures.within;
  top = top_depth _ c.args.store.now c.args.call c.in-Some.split.0 c.top_bit-bit.result c.in-Some.split.1 c.in-Some.split.2
      (MatchOption-at_some (IsConstant c.args.store.now (id_of c.args.call.first)) (λ p. Splits c.args.store.now (id_of c.args.call.first) p.0 p.1 p.2) c.in-Some.split c.in-Some.is c.split.ensures) c.top_bit-bit.ensures;
  low_side = record { set = c.sides.ensures.low; first = c.parts-a_low.ensures.low; second = c.parts-b_low.ensures.low };
  high_side = record { set = c.sides.ensures.high; first = c.parts-a_low.ensures.high; second = c.parts-b_low.ensures.high };
})
