-- The lines of a printed part are well laid out as those of a part by itself: its slot is that below a header.
use Rattle.std.proofs.Common.{◌≡◌, ℕ, ◌≤◌, ◌+◌, true, false, not, ◌&&◌, eqb, leb, ltb, List, [], ◌∷◌, ◌++◌, None, Some, refl, ap, sym, ◌∙◌, arith}
use Rattle.std.specs.Prelude.{if◌then◌else◌}
use Rattle.std.specs.List.{AllByRecursion}
use Rattle.std.proofs.lemmas.Bool.{ne_eqb, leb-true, lt-leb, lt-ltb}
use Rattle.std.proofs.lemmas.List.{append-nil}
use Rattle.occ_script_write.specs.occ_syntax.Tree.{Tree}
use Rattle.occ_script_write.specs.occ_parse_forms.Shape.{Shape}
use Rattle.occ_script_write.specs.occ_parse_forms.Shape as line
use Rattle.occ_print_back.specs.occ_parse_rules.Forest.{Laid, no_line}
use Rattle.occ_print_back.specs.occ_parse_rules.Places.{Place}
use Rattle.occ_print_back.specs.occ_parse_layout.declared.placed.Frame.TheVariants as frame
use Rattle.occ_print_back.specs.occ_parse_layout.Layout.{kind_of, is_declaration, takes, fits, outermost, room_at, is_free, stands_outermost, may_repeat, is_placed, is_served, is_good, least_bad_behind, least_bad}
use Rattle.occ_print_back.specs.Forest.{part_forest}
use Rattle.occ_print_back.proofs.Laying.{AllGood, part_good, one_slot, lines_above, own_lines}

-- a header in front of all lines
abbrev header : Laid
header = record { number = 0; level = 0; shape = line.header (record { 0 = 0 }) [] }

abbrev Deep : List Laid → Type 0
Deep rows = AllByRecursion (λ (r : Laid). 1 ≤ r.level) rows

zero_not : (m : ℕ) → 1 ≤ m → leb m 0 ≡ false
zero_not m h = lt-leb m 0 (omega (arith, h))

room_first : (m : ℕ) → 1 ≤ m → room_at frame.Plain (header ∷ []) m ≡ room_at frame.Part [] m
room_first m h =
    ap (λ b. if b then outermost frame.Plain m else (if eqb m (0 + 1) then takes (outermost frame.Plain 0) (kind_of header.shape) else outermost frame.Plain 0)) (zero_not m h)

room_same : (before : List Laid) (m : ℕ) → 1 ≤ m → Deep before → room_at frame.Plain (before ++ header ∷ []) m ≡ room_at frame.Part before m
room_same [] m h d = room_first m h
room_same (q ∷ before) m h d =
    ap (λ r. if leb m q.level then r else (if eqb m (q.level + 1) then takes (room_at frame.Plain (before ++ header ∷ []) q.level) (kind_of q.shape) else outermost frame.Plain 0)) (room_same before m h d.1)
    ∙ ap (λ r. if leb m q.level then room_at frame.Part before m else (if eqb m (q.level + 1) then takes r (kind_of q.shape) else outermost frame.Plain 0)) (room_same before q.level d.0 d.1)

free_same : (before : List Laid) (m : ℕ) → 1 ≤ m → is_free (before ++ header ∷ []) m ≡ is_free before m
free_same [] m h = ap (λ b. if b then true else (if eqb 0 m && not (is_declaration (kind_of header.shape)) then false else true)) (lt-ltb 0 m (omega (arith, h)))
free_same (q ∷ before) m h =
    ap (λ b. if ltb q.level m then true else (if eqb q.level m && not (is_declaration (kind_of q.shape)) then false else b)) (free_same before m h)

placed_same : (before : List Laid) (m : ℕ) (s : Shape) → 1 ≤ m → Deep before → is_placed frame.Plain (before ++ header ∷ []) m (kind_of s) ≡ is_placed frame.Part before m (kind_of s)
placed_same before m s h d =
    let z : eqb m 0 ≡ false = ne_eqb m 0 (λ e. omega (arith, h, e)) in
    ap (λ b. if b then stands_outermost frame.Plain (before ++ header ∷ []) (kind_of s) else (fits (room_at frame.Plain (before ++ header ∷ []) m) (is_free (before ++ header ∷ []) m) (kind_of s) && may_repeat frame.Plain (kind_of s))) z
    ∙ ap (λ r. fits r (is_free (before ++ header ∷ []) m) (kind_of s) && may_repeat frame.Plain (kind_of s)) (room_same before m h d)
    ∙ ap (λ b. fits (room_at frame.Part before m) b (kind_of s) && may_repeat frame.Plain (kind_of s)) (free_same before m h)
    ∙ sym (ap (λ b. if b then stands_outermost frame.Part before (kind_of s) else (fits (room_at frame.Part before m) (is_free before m) (kind_of s) && may_repeat frame.Part (kind_of s))) z)

good_same : (before : List Laid) (r : Laid) (after : List Laid) → 1 ≤ r.level → Deep before → is_good frame.Plain false (before ++ header ∷ []) r after ≡ is_good frame.Part false before r after
good_same before r after h d =
    ap (λ b. b && is_served false (takes (room_at frame.Plain (before ++ header ∷ []) r.level) (kind_of r.shape)) (kind_of r.shape) r.level after) (placed_same before r.level r.shape h d)
    ∙ ap (λ o. is_placed frame.Part before r.level (kind_of r.shape) && is_served false (takes o (kind_of r.shape)) (kind_of r.shape) r.level after) (room_same before r.level h d)

none_bad : (before rows : List Laid) → Deep before → Deep rows → AllGood (before ++ header ∷ []) rows [] → least_bad_behind frame.Part false before rows ≡ None
none_bad before [] d e h = refl
none_bad before (r ∷ rows) d e h =
    let g : is_good frame.Part false before r rows ≡ true = sym (good_same before r rows e.0 d) ∙ ap (λ t. is_good frame.Plain false (before ++ header ∷ []) r t) (sym (append-nil rows)) ∙ h.0 in
    ap (λ b. if b then least_bad_behind frame.Part false (r ∷ before) rows else Some r.number) g ∙ none_bad (r ∷ before) rows (e.0, d) e.1 h.1

all_deep : (rows : List Laid) → AllByRecursion (λ (r : Laid). leb 1 r.level ≡ true) rows → Deep rows
all_deep [] h = tt
all_deep (r ∷ rows) h = (leb-true 1 r.level h.0, all_deep rows h.1)

whole : (rows : List Laid) → least_bad_behind frame.Part false [] rows ≡ None → least_bad frame.Part false rows ≡ None
whole [] h = refl
whole (r ∷ rows) h = h

pub part_laid_well : (P : ℕ → Place) (n : ℕ) (p : Tree) → least_bad frame.Part false (own_lines P 1 n p) ≡ None
part_laid_well P n p =
    let rows = own_lines P 1 n p in
    whole rows (none_bad [] rows tt (all_deep rows (lines_above 1 1 (part_forest P n p no_line) (omega arith))) (part_good P (header ∷ []) 1 n p [] refl (one_slot refl refl)))
