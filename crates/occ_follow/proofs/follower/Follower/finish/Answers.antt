use Rattle.std.proofs.Common.{◌∷◌, ◌-◌, take, drop, length, get_or, ap, ◌∙◌}
use Rattle.std.proofs.lemmas.Result.{IfOk-weaker}
use Rattle.occ_choice.proofs.from_node.Behaviours.{leads_refl}
use Rattle.occ_choice.specs.occ_node.World.{IsMade}
use Rattle.occ_choice.specs.Union.{IsAdded}
use Rattle.occ_follow.specs.Sequences.{IsSequence}
use Rattle.occ_follow.proofs.Uniting.{none_left, nexts_split, first_known, others_known}
use Rattle.occ_follow.proofs.Assembling.{finish_fit, finish_made, finish_added, sound_later}
use Rattle.occ_follow.proofs.follower.Follower.finish.Goals as goal

pub make-requires : goal.make-requires
make-requires c = finish_fit c.args.world.now c.args.world.now (leads_refl c.args.world.now) c.args.node c.args.map c.requires.node c.requires.map (record { ends = c.no_ends.result; accepts = c.in_ok-accepts.accepts; offers = c.args.offers }) c.requires.offers
    (c.in_ok-accepts.ensures ∙ ap (λ r. r.accepts) (c.row.ensures.row)) c.no_ends.ensures
    c.in_ok-nexts.nexts.items c.in_ok-nexts.ensures (none_left c.as_slice.result.now c.in_ok-nexts.nexts.items c.as_slice.ensures.value c.in-empty.len_below)

pub returns-in-empty-clause-sequence : goal.returns-in-empty-clause-sequence
returns-in-empty-clause-sequence c = IfOk-weaker c.make.result (λ r. IsMade c.make.new.self r (record { ends = c.no_ends.result; accepts = c.in_ok-accepts.accepts; offers = c.args.offers })) (λ r. IsSequence c.make.new.self c.args.map c.args.node r)
    (λ r made. finish_made c.args.world.now c.args.world.now (leads_refl c.args.world.now) c.args.node c.args.map c.requires.node c.requires.map (record { ends = c.no_ends.result; accepts = c.in_ok-accepts.accepts; offers = c.args.offers }) c.requires.offers
    (c.in_ok-accepts.ensures ∙ ap (λ r. r.accepts) (c.row.ensures.row)) c.no_ends.ensures
    c.in_ok-nexts.nexts.items c.in_ok-nexts.ensures (none_left c.as_slice.result.now c.in_ok-nexts.nexts.items c.as_slice.ensures.value c.in-empty.len_below) c.make.new.self c.make.ensures.leads r made)
    c.make.ensures.made

pub united-requires-clause-first : goal.united-requires-clause-first
united-requires-clause-first c =
    let items = c.as_slice.result.now in
    first_known c.args.world.now c.args.world.now (leads_refl c.args.world.now) c.args.node c.args.map (get_or items 0 (record { 0 = 0 })) (take (length items - 1) (drop 1 items)) c.requires.map
    (nexts_split c.args.world.now c.args.node c.args.map items c.in_ok-nexts.nexts.items (record { 0 = 0 }) c.as_slice.ensures.value c.in-len1-up.len_at_least c.in_ok-nexts.ensures)

pub united-requires-clause-others : goal.united-requires-clause-others
united-requires-clause-others c =
    let items = c.as_slice.result.now in
    others_known c.args.world.now c.args.world.now (leads_refl c.args.world.now) c.args.node c.args.map (get_or items 0 (record { 0 = 0 })) (take (length items - 1) (drop 1 items)) c.requires.map
    (nexts_split c.args.world.now c.args.node c.args.map items c.in_ok-nexts.nexts.items (record { 0 = 0 }) c.as_slice.ensures.value c.in-len1-up.len_at_least c.in_ok-nexts.ensures)

pub add-requires-clause-row : goal.add-requires-clause-row
add-requires-clause-row c = sound_later c.args.world.now c.args.world.now c.united.new.world (leads_refl c.args.world.now) c.united.ensures.leads c.args.node c.args.map c.requires.node c.requires.map
    (record { ends = c.no_ends.result; accepts = c.in_ok-accepts.accepts; offers = c.args.offers }) c.requires.offers
    (c.in_ok-accepts.ensures ∙ ap (λ r. r.accepts) (c.row.ensures.row)) c.no_ends.ensures

pub returns-clause-sequence : goal.returns-clause-sequence
returns-clause-sequence c =
    let items = c.as_slice.result.now in
    IfOk-weaker c.add.result (λ r. IsAdded c.united.new.world c.add.new.world (record { ends = c.no_ends.result; accepts = c.in_ok-accepts.accepts; offers = c.args.offers }) c.in_ok-next-in-len1-up.next r) (λ r. IsSequence c.add.new.world c.args.map c.args.node r)
    (λ r added. finish_added c.args.world.now c.args.world.now c.united.new.world (leads_refl c.args.world.now) c.united.ensures.leads c.args.node c.args.map c.requires.node c.requires.map
    (record { ends = c.no_ends.result; accepts = c.in_ok-accepts.accepts; offers = c.args.offers }) c.requires.offers
    (c.in_ok-accepts.ensures ∙ ap (λ r. r.accepts) (c.row.ensures.row)) c.no_ends.ensures
    (get_or items 0 (record { 0 = 0 }) ∷ take (length items - 1) (drop 1 items))
    (nexts_split c.args.world.now c.args.node c.args.map items c.in_ok-nexts.nexts.items (record { 0 = 0 }) c.as_slice.ensures.value c.in-len1-up.len_at_least c.in_ok-nexts.ensures)
    c.in_ok-next-in-len1-up.next c.in_ok-next-in-len1-up.ensures.united c.add.new.world c.add.ensures.leads r added) c.add.ensures.added
