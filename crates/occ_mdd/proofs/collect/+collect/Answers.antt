use Rattle.std.proofs.Common.{◌∙◌, sym}
use Rattle.std.proofs.lemmas.Bool.{OnFalse_at}
use Rattle.occ_dd.proofs.Callers.{keeps_refl}
use Rattle.occ_mdd.proofs.Collecting.{visits_flat, visits_noted, seen_flat, visits_first, visits_second, visits_both, seen_both}
use Rattle.occ_mdd.proofs.collect.+collect.Goals as goal

-- ---- a constant function
pub returns-in_err-note-clause-after : goal.returns-in_err-note-clause-after
returns-in_err-note-clause-after g t c = visits_flat _ c.args.table.now.diagram _ c.args.found.now.labels.items c.note.new.found.items c.args.set c.args.a c.label.result (sym c.depth.ensures.depth ∙ c.if-depth-eq0.true) c.label.ensures
    (OnFalse_at c.if-is_empty.false c.is_empty.ensures.filled) c.args.found.now.seen c.requires.right c.note.ensures.kept c.note.ensures.only

pub returns-in_err-insert-clause-after : goal.returns-in_err-insert-clause-after
returns-in_err-insert-clause-after g t c = visits_noted _ c.args.table.now.diagram _ c.args.found.now.labels.items c.note.new.found.items c.args.set c.args.a c.label.result (sym c.depth.ensures.depth ∙ c.if-depth-eq0.true) c.label.ensures
    (OnFalse_at c.if-is_empty.false c.is_empty.ensures.filled) c.requires.set c.requires.a c.args.found.now.seen _ c.requires.right c.note.ensures.kept c.note.ensures.only c.in_ok-note.ensures.all c.insert.ensures

pub returns-then-depth-eq0-clause-after : goal.returns-then-depth-eq0-clause-after
returns-then-depth-eq0-clause-after g t c = visits_noted _ c.args.table.now.diagram _ c.args.found.now.labels.items c.note.new.found.items c.args.set c.args.a c.label.result (sym c.depth.ensures.depth ∙ c.if-depth-eq0.true) c.label.ensures
    (OnFalse_at c.if-is_empty.false c.is_empty.ensures.filled) c.requires.set c.requires.a c.args.found.now.seen _ c.requires.right c.note.ensures.kept c.note.ensures.only c.in_ok-note.ensures.all c.insert.ensures

pub returns-then-depth-eq0-clause-all : goal.returns-then-depth-eq0-clause-all
returns-then-depth-eq0-clause-all g t c = seen_flat _ c.args.table.now.diagram _ c.args.found.now.labels.items c.note.new.found.items c.args.set c.args.a c.label.result (sym c.depth.ensures.depth ∙ c.if-depth-eq0.true) c.label.ensures
    c.requires.set c.requires.a c.in_ok-note.ensures.all

-- ---- both halves
pub returns-in_err-collect-clause-after : goal.returns-in_err-collect-clause-after
returns-in_err-collect-clause-after g t c = visits_first _ c.args.table.now.diagram _ _ _ (keeps_refl c.args.store.now) c.args.set c.args.a c.halve-halves.result c.requires.set c.halve-halves.ensures _ _ _ c.collect.ensures.after

pub returns-in_err-collect-2-clause-after : goal.returns-in_err-collect-2-clause-after
returns-in_err-collect-2-clause-after g t c = visits_second _ c.args.table.now.diagram _ _ _ (keeps_refl c.args.store.now) c.args.set c.args.a c.halve-halves.result c.requires.set c.halve-halves.ensures _ _ _ c.collect.ensures.after
    _ _ _ c.collect-2.ensures.after

pub returns-in_err-insert-2-clause-after : goal.returns-in_err-insert-2-clause-after
returns-in_err-insert-2-clause-after g t c = visits_both _ c.args.table.now.diagram _ _ _ (keeps_refl c.args.store.now) c.args.set c.args.a c.halve-halves.result c.requires.set c.halve-halves.ensures _ _ _ c.collect.ensures.after
    _ _ _ _ c.requires.a c.collect-2.ensures.after c.in_ok-collect.ensures.all c.in_ok-collect-2.ensures.all c.insert-2.ensures

pub returns-clause-after : goal.returns-clause-after
returns-clause-after g t c = visits_both _ c.args.table.now.diagram _ _ _ (keeps_refl c.args.store.now) c.args.set c.args.a c.halve-halves.result c.requires.set c.halve-halves.ensures _ _ _ c.collect.ensures.after
    _ _ _ _ c.requires.a c.collect-2.ensures.after c.in_ok-collect.ensures.all c.in_ok-collect-2.ensures.all c.insert-2.ensures

pub returns-clause-all : goal.returns-clause-all
returns-clause-all g t c = seen_both _ c.args.table.now.diagram _ _ _ (keeps_refl c.args.store.now) c.args.set c.args.a c.halve-halves.result c.requires.set c.halve-halves.ensures _ _ _ c.collect.ensures.after
    _ _ _ c.requires.a c.collect-2.ensures.after c.in_ok-collect.ensures.all c.in_ok-collect-2.ensures.all
