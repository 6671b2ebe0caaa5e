-- Lines without replicators that are well laid out are so as those of a program that may have them.
use Rattle.std.proofs.Common.{◌≡◌, ℕ, ◌+◌, Bool, true, false, ◌&&◌, eqb, leb, List, [], ◌∷◌, Option, None, Some, refl, ap, sym, ◌∙◌}
use Rattle.std.specs.Prelude.{if◌then◌else◌}
use Rattle.std.proofs.lemmas.Bool.{and_from, and_parts}
use Rattle.occ_script_write.specs.occ_base.declared.names.Name.{Name}
use Rattle.occ_script_write.specs.occ_parse_forms.Shape.{Shape}
use Rattle.occ_print_back.specs.occ_parse_layout.declared.placed.Frame.TheVariants as frame
use Rattle.occ_print_back.specs.occ_parse_layout.Layout.{fits, is_free, is_good, is_placed, is_served, kind_of, least_bad, least_bad_behind, may_repeat, room_at, stands_outermost, takes}
use Rattle.occ_print_back.specs.occ_parse.declared.bound.Bound.{Bound}
use Rattle.occ_print_back.specs.occ_parse.declared.bound.Bound.TheVariants as bound
use Rattle.occ_print_back.specs.occ_parse.Limits.{frame_of}
use Rattle.occ_print_back.specs.occ_parse_rules.Forest.{Laid, lines_at}
use Rattle.occ_print_back.specs.occ_parse_rules.Places.{Place}
use Rattle.occ_print_back.specs.Program.{program_forest}
use Rattle.occ_print_back.proofs.Programs.{program_good}
use Rattle.occ_script_write.specs.occ_syntax.declared.scope.Kind.{Kind}
use Rattle.occ_script_write.specs.occ_syntax.Tree.{Tree}

room_same : (before : List Laid) (level : ℕ) → room_at frame.Program before level ≡ room_at frame.Plain before level
room_same [] level = refl
room_same (q ∷ before) level = λ i.
    if leb level q.level then room_same before level i
    else (if eqb level (q.level + 1) then takes (room_same before q.level i) (kind_of q.shape) else room_at frame.Plain [] 0)

outermost_same : (before : List Laid) (s : Shape) → stands_outermost frame.Plain before (kind_of s) ≡ stands_outermost frame.Program before (kind_of s)
outermost_same [] s = refl
outermost_same (q ∷ before) s = refl

placed_at : (before : List Laid) (level : ℕ) (s : Shape) (t : Bool)
    → (if t then stands_outermost frame.Plain before (kind_of s)
    else (fits (room_at frame.Plain before level) (is_free before level) (kind_of s) && may_repeat frame.Plain (kind_of s))) ≡ true
    → (if t then stands_outermost frame.Program before (kind_of s)
    else (fits (room_at frame.Program before level) (is_free before level) (kind_of s) && may_repeat frame.Program (kind_of s))) ≡ true
placed_at before level s true h = sym (outermost_same before s) ∙ h
placed_at before level s false h =
    let k = kind_of s in
    let parts = and_parts (fits (room_at frame.Plain before level) (is_free before level) k) (may_repeat frame.Plain k) h in
    and_from (fits (room_at frame.Program before level) (is_free before level) k) true
    (ap (λ r. fits r (is_free before level) k) (room_same before level) ∙ parts.0) refl

good_also : (before : List Laid) (r : Laid) (after : List Laid) → is_good frame.Plain false before r after ≡ true → is_good frame.Program false before r after ≡ true
good_also before r after h =
    let k = kind_of r.shape in
    let parts = and_parts (is_placed frame.Plain before r.level k) (is_served false (takes (room_at frame.Plain before r.level) k) k r.level after) h in
    and_from (is_placed frame.Program before r.level k) (is_served false (takes (room_at frame.Program before r.level) k) k r.level after)
    (placed_at before r.level r.shape (eqb r.level 0) parts.0)
    (ap (λ o. is_served false (takes o k) k r.level after) (room_same before r.level) ∙ parts.1)

some_none : {A : Type 0} (n : ℕ) → Some n ≡ None → A
some_none n e = absurd cc

good_of : (t : Bool) (n : ℕ) (rest : Option ℕ) → (if t then rest else Some n) ≡ None → (t ≡ true) × (rest ≡ None)
good_of true n rest h = (refl, h)
good_of false n rest h = some_none n h

none_bad : (before rows : List Laid) → least_bad_behind frame.Plain false before rows ≡ None → least_bad_behind frame.Program false before rows ≡ None
none_bad before [] h = refl
none_bad before (r ∷ rows) h =
    let parts = good_of (is_good frame.Plain false before r rows) r.number (least_bad_behind frame.Plain false (r ∷ before) rows) h in
    ap (λ t. if t then least_bad_behind frame.Program false (r ∷ before) rows else Some r.number) (good_also before r rows parts.0)
    ∙ none_bad (r ∷ before) rows parts.1

-- a printed program is well laid out, whatever binds its text
pub framed_well : (b : Bound) (P : ℕ → Place) (n name : ℕ) (ps : List (Name × Kind)) (body : Tree) → least_bad (frame_of b) false (lines_at 0 (program_forest P n name ps body)) ≡ None
framed_well bound.Program P n name ps body = none_bad [] (lines_at 0 (program_forest P n name ps body)) (program_good P n name ps body)
framed_well bound.First P n name ps body = none_bad [] (lines_at 0 (program_forest P n name ps body)) (program_good P n name ps body)
framed_well bound.Script P n name ps body = program_good P n name ps body
