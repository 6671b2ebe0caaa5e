use Rattle.occ_prove.proofs.Scripts.{none_of, not_same, pair_means_the_same, proved_by_laws, some_of, told_as_same}
use Rattle.occ_prove.specs.Pairs.{AreApartAll, IsPairOf}
use Rattle.occ_prove.proofs.proving.proof_of.Goals as goal

pub returns-then-not-is_same-clause-proves : goal.returns-then-not-is_same-clause-proves
returns-then-not-is_same-clause-proves c =
    let one = c.args.one.now in
    let two = c.args.two.now in
    told_as_same one two c.in_ok-told.told c.in_ok-told.ensures.settles
    (not_same c.is_same.result c.in_ok-told.told (AreApartAll one two) c.if-not-is_same.true c.is_same.ensures.1)

pub proved-requires-clause-ready : goal.proved-requires-clause-ready
proved-requires-clause-ready c =
    (some_of c.in_ok-pair.field-0 c.in-Some.pair (IsPairOf c.args.one.now c.args.two.now) c.in-Some.is c.in_ok-pair.ensures.pair).ready

pub proved-requires-clause-same : goal.proved-requires-clause-same
proved-requires-clause-same c =
    let one = c.args.one.now in
    let two = c.args.two.now in
    pair_means_the_same c.same_files_mean_the_same.ensures one two c.in_ok-told.told c.in-Some.pair c.requires.first c.requires.second c.in_ok-told.ensures.settles
    (c.is_same.ensures.0 c.if-not-is_same.false) (some_of c.in_ok-pair.field-0 c.in-Some.pair (IsPairOf one two) c.in-Some.is c.in_ok-pair.ensures.pair)

pub returns-in-Some-clause-proves : goal.returns-in-Some-clause-proves
returns-in-Some-clause-proves c =
    let one = c.args.one.now in
    let two = c.args.two.now in
    proved_by_laws c.proved.result one two c.in_ok-told.told c.in-Some.pair c.in_ok-told.ensures.settles (c.is_same.ensures.0 c.if-not-is_same.false)
    (some_of c.in_ok-pair.field-0 c.in-Some.pair (IsPairOf one two) c.in-Some.is c.in_ok-pair.ensures.pair) c.proved.ensures.proved

pub returns-in-None-clause-proves : goal.returns-in-None-clause-proves
returns-in-None-clause-proves c =
    let one = c.args.one.now in
    let two = c.args.two.now in
    told_as_same one two c.in_ok-told.told c.in_ok-told.ensures.settles (λ same. none_of c.in_ok-pair.field-0 (AreApartAll one two) c.in-None.is c.in_ok-pair.ensures.none)
