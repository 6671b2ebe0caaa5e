use Rattle.std.proofs.Common.{◌≡◌, ◌≤◌, ◌+◌, List, ℕ, length, sym, subst, arith, rules}
use Rattle.occ_nform_rows.specs.occ_node.World.{nodes_of}
use Rattle.occ_nform.specs.Numbering.{AreDrafts, AreReady, IsNumbering}
use Rattle.occ_nform.proofs.Levels.{none_numbered, ready, level_known, level_done}
use Rattle.occ_nform.proofs.numbering.Numbering.of.Goals as goal

pub loop-start-init : goal.loop-start-init
loop-start-init c =
    let d = c.args.drafter.now in
    let long : length c.in_ok-numbers.numbers.items ≡ nodes_of c.args.world.now = search rules in
    record {
      within = omega arith;
      numbered = none_numbered c.args.world.now d.names.now d.params.now c.args.placed.now c.requires (record { rows = c.new-rows.result; numbers = c.in_ok-numbers.numbers }) c.new-rows.ensures long;
    }

pub drafts-requires-clause-ready : goal.drafts-requires-clause-ready
drafts-requires-clause-ready c =
    let w = c.args.world.now in
    let d = c.args.drafter.now in
    let placed = c.args.placed.now in
    let n = c.loop-start.numbering in
    let i = c.loop-start.invariant.numbered in
    subst (λ (numbers : List ℕ). AreReady w d.params.now numbers placed c.loop-start.start) (sym c.deref.ensures.value)
    (ready w d.names.now d.params.now placed c.requires c.loop-start.start (omega arith) i.done n.rows n.numbers.items i.numbered)

pub place_all-requires : goal.place_all-requires
place_all-requires c =
    let w = c.args.world.now in
    let d = c.args.drafter.now in
    let placed = c.args.placed.now in
    let n = c.loop-start.numbering in
    let start = c.loop-start.start in
    let i = c.loop-start.invariant.numbered in
    let drafts = c.in_ok-level.level.items in
    let level = subst (λ (numbers : List ℕ). AreDrafts w d.names.now d.params.now numbers placed start drafts) c.deref.ensures.value c.in_ok-level.ensures in
    record { known = level_known w d.names.now d.params.now placed c.requires start (omega arith) i.done n.rows n.numbers.items i.numbered d.distinct d.interface d.good drafts c.by_text.result.items level c.by_text.ensures }

pub loop-start-preserved : goal.loop-start-preserved
loop-start-preserved c =
    let w = c.args.world.now in
    let d = c.args.drafter.now in
    let placed = c.args.placed.now in
    let n = c.loop-start.numbering in
    let start = c.loop-start.start in
    let i = c.loop-start.invariant.numbered in
    let drafts = c.in_ok-level.level.items in
    let level = subst (λ (numbers : List ℕ). AreDrafts w d.names.now d.params.now numbers placed start drafts) c.deref.ensures.value c.in_ok-level.ensures in
    let within : start + length drafts ≤ length placed = level.within in
    let end : start + c.len-start.result ≡ start + length drafts = omega (arith, c.len-start.ensures, c.in_ok-level.level.ok.0) in
    let are = c.in_ok-place_all.ensures in
    record {
      within = omega arith;
      numbered = level_done w d.names.now d.params.now placed c.requires start (omega arith) i.done n.rows n.numbers.items i.numbered d.distinct d.interface d.good drafts c.by_text.result.items level c.by_text.ensures
          c.place_all.new.self are.rows are.numbers are.most (start + c.len-start.result) end;
    }

pub returns : goal.returns
returns c =
    let d = c.args.drafter.now in
    let same : c.loop-start.start ≡ length c.args.placed.now = omega (arith, c.loop-start.invariant.within) in
    subst (λ k. IsNumbering c.args.world.now d.names.now d.params.now c.args.placed.now k c.loop-start.numbering) same c.loop-start.invariant.numbered
