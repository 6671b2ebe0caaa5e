use Rattle.std.proofs.Common.{◌≡◌, ◌<◌, ◌+◌, ◌++◌, ◌∷◌, [], ℕ, List, length, get_or, ap, sym, ◌∙◌, subst, arith}
use Rattle.std.proofs.lemmas.List.{length_push}
use Rattle.occ_nform.specs.declared.level.Draft.{Draft}
use Rattle.occ_nform.specs.Numbering.{placed_at, IsDraft}
use Rattle.occ_nform.proofs.Steps.{each_place_more, each_below_more}
use Rattle.occ_nform.proofs.drafter.Drafter.drafts.Goals as goal

pub draft-requires : goal.draft-requires
draft-requires c = c.requires.ready c.loop-place.place (omega arith) (omega arith) (omega arith)

pub loop-place-preserved : goal.loop-place-preserved
loop-place-preserved c =
    let w = c.args.world.now in
    let placed = c.args.placed.now in
    let start = c.args.start in
    let place = c.loop-place.place in
    let drafts = c.loop-place.drafts.items in
    let i = c.loop-place.invariant in
    let x = c.in_ok-draft.field-0 in
    let items : c.push.new.self.items ≡ drafts ++ x ∷ [] = c.in_ok-push.ensures.items in
    let size = length_push drafts x in
    let height : (placed_at placed place).height ≡ (placed_at placed start).height = omega arith in
    let d = c.args.self.now in
    let numbers = c.args.numbers.now in
    record {
      count = omega (arith, ap length items, size, i.count);
      each = subst (λ (l : List Draft). (k : ℕ) (e : Draft) → k < length l → IsDraft w d.names.now d.params.now numbers (placed_at placed (start + k)).node (get_or l k e)) (sym items)
          (each_place_more (λ k e. IsDraft w d.names.now d.params.now numbers (placed_at placed (start + k)).node e) drafts x i.each (subst (λ n. IsDraft w d.names.now d.params.now numbers (placed_at placed n).node x) (sym i.count) c.in_ok-draft.ensures));
      level = each_below_more (λ k. (placed_at placed (start + k)).height ≡ (placed_at placed start).height) (length drafts) (length c.push.new.self.items) (ap length items ∙ size) i.level
          (ap (λ n. (placed_at placed n).height) i.count ∙ height);
    }
