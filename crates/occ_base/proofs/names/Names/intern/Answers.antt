use Rattle.std.proofs.Common.{sym, ap, ◌∙◌, subst}
use Rattle.occ_base.specs.Names.{IsDistinct, place_of, with_text}
use Rattle.occ_base.proofs.Naming.{key_found, key_missing, key_pushed, with_there, with_new, distinct_push}
use Rattle.occ_base.proofs.names.Names.intern.Goals as goal

pub returns-in-Some-clause-number : goal.returns-in-Some-clause-number
returns-in-Some-clause-number c =
    let found = key_found (λ text. text.items) c.self.inside.texts.keys c.args.text.now c.in-Some.place c.in-Some.ensures.index in
    found.0 ∙ ap (λ texts. place_of texts c.args.text.now) c.self.view_is

pub returns-in-Some-clause-table : goal.returns-in-Some-clause-table
returns-in-Some-clause-table c =
    let found = key_found (λ text. text.items) c.self.inside.texts.keys c.args.text.now c.in-Some.place c.in-Some.ensures.index in
    sym (ap (λ texts. with_text texts c.args.text.now) (sym c.self.view_is) ∙ with_there _ c.args.text.now found.1 ∙ c.self.view_is)

pub invariant_of-self-2 : goal.invariant_of-self-2
invariant_of-self-2 c =
    let missing = key_missing (λ text. text.items) c.self.inside.texts.keys c.args.text.now c.in_default.ensures.index in
    let pushed = key_pushed (λ text. text.items) c.self.inside.texts.keys c.args.text.now c.insert_full.new.self.keys c.in_ok-copy.copy c.in_ok-place.place c.in_ok-copy.ensures.items missing c.in_ok-place.ensures.keys c.in_ok-place.ensures.index in
    subst IsDistinct (sym pushed.0) (distinct_push _ c.args.text.now missing c.self.invariant)

pub returns-clause-number : goal.returns-clause-number
returns-clause-number c =
    let missing = key_missing (λ text. text.items) c.self.inside.texts.keys c.args.text.now c.in_default.ensures.index in
    let pushed = key_pushed (λ text. text.items) c.self.inside.texts.keys c.args.text.now c.insert_full.new.self.keys c.in_ok-copy.copy c.in_ok-place.place c.in_ok-copy.ensures.items missing c.in_ok-place.ensures.keys c.in_ok-place.ensures.index in
    pushed.1 ∙ ap (λ texts. place_of texts c.args.text.now) c.self.view_is

pub returns-clause-table : goal.returns-clause-table
returns-clause-table c =
    let missing = key_missing (λ text. text.items) c.self.inside.texts.keys c.args.text.now c.in_default.ensures.index in
    let pushed = key_pushed (λ text. text.items) c.self.inside.texts.keys c.args.text.now c.insert_full.new.self.keys c.in_ok-copy.copy c.in_ok-place.place c.in_ok-copy.ensures.items missing c.in_ok-place.ensures.keys c.in_ok-place.ensures.index in
    pushed.0 ∙ sym (ap (λ texts. with_text texts c.args.text.now) (sym c.self.view_is) ∙ with_new _ c.args.text.now missing)
