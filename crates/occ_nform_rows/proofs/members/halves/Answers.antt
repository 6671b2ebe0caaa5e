use Rattle.std.proofs.Common.{ℕ}
use Rattle.std.proofs.lemmas.Option.{MatchOption-at_none, MatchOption-at_some}
use Rattle.occ_compare.specs.occ_dd.Store.{IsConstant, Splits}
use Rattle.occ_compare.specs.occ_dd.declared.set.SetId.{SetId}
use Rattle.occ_nform_rows.proofs.Halving.{halves_none, halves_other, halves_there}
use Rattle.occ_nform_rows.proofs.members.halves.Goals as goal

pub returns-in-Some : goal.returns-in-Some
returns-in-Some c =
    let s = c.args.store.now in
    let parts : ℕ × SetId × SetId = (c.in-Some.top, c.in-Some.low, c.in-Some.high) in
    let splits = MatchOption-at_some (IsConstant s c.args.set) (λ p. Splits s c.args.set p.0 p.1 p.2) parts c.in-Some.is c.split.ensures in
    halves_there s c.args.set c.args.bit parts.0 parts.1 parts.2 splits c.if-top-bit.true

pub returns-in_default : goal.returns-in_default
returns-in_default c =
    let s = c.args.store.now in
    let parts : ℕ × SetId × SetId = (c.in-Some.top, c.in-Some.low, c.in-Some.high) in
    let splits = MatchOption-at_some (IsConstant s c.args.set) (λ p. Splits s c.args.set p.0 p.1 p.2) parts c.in-Some.is c.split.ensures in
    halves_other s c.args.set c.args.bit parts.0 parts.1 parts.2 c.requires.set c.requires.deep splits c.if-top-bit.false

pub returns-in_default-2 : goal.returns-in_default-2
returns-in_default-2 c =
    let s = c.args.store.now in
    halves_none s c.args.set c.args.bit c.requires.set (MatchOption-at_none (IsConstant s c.args.set) (λ p. Splits s c.args.set p.0 p.1 p.2) c.in_default.is c.split.ensures)
