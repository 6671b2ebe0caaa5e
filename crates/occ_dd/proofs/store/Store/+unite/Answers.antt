use Rattle.std.proofs.Common.{◌≡◌, ◌<◌, sym, subst, arith}
use Rattle.std.proofs.lemmas.Result.{IfOk-weaker}
use Rattle.occ_dd.specs.Diagram.{depth_of}
use Rattle.occ_dd.specs.Table.{nodes_of}
use Rattle.occ_dd.proofs.DiagramLemmas.{depth-branch, depth-leaf, low-smaller, high-smaller}
use Rattle.occ_dd.proofs.Growth.{known-keeps, depth-keeps}
use Rattle.occ_dd.specs.Choices.{IsChoice, IsUnion}
use Rattle.occ_dd.proofs.Choosing.{union_learnt, union_free}
use Rattle.occ_dd.proofs.Sets.{grows_refl, grows_trans}
use Rattle.occ_dd.proofs.Steps.{union_side, unions_joined, union_chosen}
use Rattle.occ_dd.proofs.store.Store.+unite.Goals as goal

pub returns-in_default-clause-united : goal.returns-in_default-clause-united
returns-in_default-clause-united t c =
    let ns = nodes_of c.args.self.now.table in
    union_free ns c.args.self.now.table.diagram c.args.self.now.full c.args.a c.args.bit c.requires.known (omega (arith, c.if-branch-bit.false, depth-branch ns c.args.a c.in-Branch.branch c.in-Branch.ensures))

pub returns-in_default-2-clause-united : goal.returns-in_default-2-clause-united
returns-in_default-2-clause-united t c =
    let ns = nodes_of c.args.self.now.table in
    union_free ns c.args.self.now.table.diagram c.args.self.now.full c.args.a c.args.bit c.requires.known (omega (arith, depth-leaf ns c.args.a _ c.in_default.ensures))

pub choose-requires-clause-test : goal.choose-requires-clause-test
choose-requires-clause-test t c = let is = c.args.self.now.table.diagram.decisions c.args.a c.in-Branch.branch c.in-Branch.ensures in is.low

pub choose-requires-clause-no : goal.choose-requires-clause-no
choose-requires-clause-no t c = let is = c.args.self.now.table.diagram.decisions c.args.a c.in-Branch.branch c.in-Branch.ensures in is.high

pub returns-then-branch-bit-2-clause-united : goal.returns-then-branch-bit-2-clause-united
returns-then-branch-bit-2-clause-united t c =
    let s = c.choose.new.self in
    IfOk-weaker c.choose.result (λ r. IsChoice (nodes_of s.table) s.full c.in-Branch.branch.low c.args.self.now.full c.in-Branch.branch.high r) (λ r. IsUnion (nodes_of s.table) s.full c.args.a c.args.bit r)
    (λ r is. union_chosen c.args.self.now s c.choose.ensures.grows c.args.a r c.args.bit c.in-Branch.branch c.in-Branch.ensures c.if-branch-bit-2.true is)
    c.choose.ensures.chosen

pub returns-in-Some-clause-united : goal.returns-in-Some-clause-united
returns-in-Some-clause-united t c = c.args.self.now.unions_right (record { first = c.args.a; second = c.args.bit; third = 0 }) c.in-Some.united (sym c.in-Some.ensures)

pub unite-requires : goal.unite-requires
unite-requires t c =
    let ns = nodes_of c.args.self.now.table in
    let is = c.args.self.now.table.diagram.decisions c.args.a c.in-Branch.branch c.in-Branch.ensures in
    (subst (λ n. depth_of ns c.in-Branch.branch.low < n) c.decreases (low-smaller ns c.args.self.now.table.diagram c.args.a c.in-Branch.branch c.in-Branch.ensures), (c.requires.bit, is.low))

pub unite-requires-2 : goal.unite-requires-2
unite-requires-2 t c =
    let ns = nodes_of c.args.self.now.table in
    let ns' = nodes_of c.unite.new.self.table in
    let is = c.args.self.now.table.diagram.decisions c.args.a c.in-Branch.branch c.in-Branch.ensures in
    let kept : depth_of ns' c.in-Branch.branch.high ≡ depth_of ns c.in-Branch.branch.high = depth-keeps ns ns' c.unite.ensures.grows.nodes c.in-Branch.branch.high is.high in
    (subst (λ n. n < t) (sym kept) (subst (λ n. depth_of ns c.in-Branch.branch.high < n) c.decreases (high-smaller ns c.args.self.now.table.diagram c.args.a c.in-Branch.branch c.in-Branch.ensures)), (c.requires.bit, known-keeps ns ns' c.unite.ensures.grows.nodes _ is.high))

pub branch-self-requires-clause-low : goal.branch-self-requires-clause-low
branch-self-requires-clause-low t c =
    let is = c.args.self.now.table.diagram.decisions c.args.a c.in-Branch.branch c.in-Branch.ensures in
    union_side c.args.self.now c.unite.new.self c.unite-2.new.self c.unite.ensures.grows c.unite-2.ensures.grows c.args.a c.in-Branch.branch.bit c.in-Branch.branch.low c.in_ok-low.low is.low is.low_depth c.args.bit c.in_ok-low.ensures.united

pub branch-self-requires-clause-high : goal.branch-self-requires-clause-high
branch-self-requires-clause-high t c =
    let is = c.args.self.now.table.diagram.decisions c.args.a c.in-Branch.branch c.in-Branch.ensures in
    union_side c.args.self.now c.unite-2.new.self c.unite-2.new.self (grows_trans _ _ _ c.unite.ensures.grows c.unite-2.ensures.grows) (grows_refl c.unite-2.new.self) c.args.a c.in-Branch.branch.bit c.in-Branch.branch.high c.in_ok-high.high is.high is.high_depth c.args.bit c.in_ok-high.ensures.united

pub invariant_of-self : goal.invariant_of-self
invariant_of-self t c =
    let s = c.branch-self.new.self in
    record {
      empty_known = s.empty_known;
      full_known = s.full_known;
      empty_is = s.empty_is;
      full_is = s.full_is;
      choices_right = s.choices_right;
      unions_right = union_learnt (nodes_of s.table) s.full s.unions c.insert.new.self (record { first = c.args.a; second = c.args.bit; third = 0 }) c.in_ok-united.united c.insert.ensures s.unions_right (unions_joined c.args.self.now c.unite.new.self c.unite-2.new.self c.branch-self.new.self c.unite.ensures.grows c.unite-2.ensures.grows c.branch-self.ensures.grows c.args.a c.args.bit c.in_ok-low.low c.in_ok-high.high c.in_ok-united.united c.in-Branch.branch c.in-Branch.ensures c.if-branch-bit-2.false c.in_ok-low.ensures.united c.in_ok-high.ensures.united c.in_ok-united.ensures.split);
    }

pub returns-clause-united : goal.returns-clause-united
returns-clause-united t c = unions_joined c.args.self.now c.unite.new.self c.unite-2.new.self c.branch-self.new.self c.unite.ensures.grows c.unite-2.ensures.grows c.branch-self.ensures.grows c.args.a c.args.bit c.in_ok-low.low c.in_ok-high.high c.in_ok-united.united c.in-Branch.branch c.in-Branch.ensures c.if-branch-bit-2.false c.in_ok-low.ensures.united c.in_ok-high.ensures.united c.in_ok-united.ensures.split
