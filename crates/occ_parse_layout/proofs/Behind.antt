-- The lines that have been passed, one line on, and the lines that are left.
use Rattle.std.proofs.Common.{◌≡◌, ℕ, ◌+◌, ◌<◌, ◌≤◌, Bool, true, false, eqb, cond, List, [], ◌∷◌, length, get_or, take, drop, reverse, refl, sym, subst, ap, ◌∙◌, arith, Option, Some, None}
use Rattle.std.proofs.lemmas.Bool.{cond-true, cond-false, and_parts}
use Rattle.std.proofs.lemmas.List.{reverse-append, map_more, drop_more, drop_all}
use Rattle.occ_parse_rules.specs.occ_parse_forms.Shape.{shape}
use Rattle.occ_parse_rules.specs.Forest.{Laid}
use Rattle.occ_parse_layout.specs.declared.placed.Placed.{Placed}
use Rattle.occ_parse_layout.specs.declared.placed.Frame.{Frame}
use Rattle.occ_parse_layout.specs.declared.kind.Kind.{Kind}
use Rattle.occ_parse_layout.specs.declared.kind.Kind.TheVariants as kind
use Rattle.occ_parse_layout.specs.declared.kind.Room.{Room}
use Rattle.occ_parse_layout.specs.declared.passed.Passed.{Passed}
use Rattle.occ_parse_layout.specs.Layout.{laid, laid_rows, kind_of, is_declaration, takes, room_at, is_served, is_good, has_process, least_bad, least_bad_behind}
use Rattle.occ_parse_layout.specs.Scan.{Describes, nearest_first, declared_level, IsRunServed}

pub nearest_more : (rows : List Placed) (n : ℕ) (d : Placed) → n < length rows → nearest_first (take (n + 1) rows) ≡ laid (get_or rows n d) ∷ nearest_first (take n rows)
nearest_more rows n d h = ap reverse (map_more laid rows n d h) ∙ reverse-append (laid_rows (take n rows)) (laid (get_or rows n d) ∷ [])

pub rest_more : (rows : List Placed) (n : ℕ) (d : Placed) → n < length rows → laid_rows (drop n rows) ≡ laid (get_or rows n d) ∷ laid_rows (drop (n + 1) rows)
rest_more rows n d h = ap laid_rows (drop_more rows n d h)

-- a good declaration has its process among the lines that follow
served_declaration : (more : Bool) (below : Room) (k : Kind) (level : ℕ) (after : List Laid) → is_served more below k level after ≡ true → is_declaration k ≡ true → has_process more level after ≡ true
served_declaration more below kind.Declaration level after h d = h
served_declaration more below kind.Header level after h d = cc
served_declaration more below kind.Close level after h d = cc
served_declaration more below kind.Plain level after h d = cc
served_declaration more below kind.Message level after h d = cc
served_declaration more below (kind.Construct c t) level after h d = cc
served_declaration more below kind.Condition level after h d = cc
served_declaration more below kind.Guard level after h d = cc
served_declaration more below kind.Nothing level after h d = cc

run_of : (more : Bool) (level : ℕ) (after : List Laid) (b : Bool) → (b ≡ true → has_process more level after ≡ true) → IsRunServed more (cond b (Some level) None) after
run_of more level after true h = h refl
run_of more level after false h = tt

pub run_served : (f : Frame) (more : Bool) (before : List Laid) (r : Laid) (after : List Laid) → is_good f more before r after ≡ true → IsRunServed more (declared_level (kind_of r.shape) r.level) after
run_served f more before r after good =
    run_of more r.level after (is_declaration (kind_of r.shape))
    (served_declaration more (takes (room_at f before r.level) (kind_of r.shape)) (kind_of r.shape) r.level after (and_parts _ _ good).1)

-- ---- the loop over the lines

abbrev pub Scans : Frame → Bool → List Placed → ℕ → Passed → Type 0
Scans f more rows n passed =
    Describes (nearest_first (take n rows)) passed
    × IsRunServed more passed.declared (laid_rows (drop n rows))
    × (passed.frame ≡ f)
    × (least_bad_behind f more (nearest_first (take n rows)) (laid_rows (drop n rows)) ≡ least_bad_behind f more [] (laid_rows rows))

no_run : (more : Bool) (declared : Option ℕ) (after : List Laid) → declared ≡ None → IsRunServed more declared after
no_run more None after e = tt
no_run more (Some level) after e = absurd (cc)

pub at_start : (f : Frame) (more : Bool) (rows : List Placed) (passed : Passed) → Describes [] passed → passed.declared ≡ None → passed.frame ≡ f → Scans f more rows 0 passed
at_start f more rows passed d declared frame = (d, no_run more passed.declared (laid_rows rows) declared, frame, refl)

pub begins : (more : Bool) (declared : Option ℕ) (rows : List Placed) (n : ℕ) (r : Placed) → n < length rows → r ≡ get_or rows n r → IsRunServed more declared (laid_rows (drop n rows)) → IsRunServed more declared (laid r ∷ laid_rows (drop (n + 1) rows))
begins more declared rows n r h e run =
    subst (λ (x : Placed). IsRunServed more declared (laid x ∷ laid_rows (drop (n + 1) rows))) (sym e)
    (subst (λ (after : List Laid). IsRunServed more declared after) (rest_more rows n r h) run)

-- the definition at the line that is looked at
at_line : (f : Frame) (more : Bool) (rows : List Placed) (n : ℕ) (r : Placed) → n < length rows → r ≡ get_or rows n r
    → least_bad_behind f more (nearest_first (take n rows)) (laid_rows (drop n rows))
    ≡ least_bad_behind f more (nearest_first (take n rows)) (laid r ∷ laid_rows (drop (n + 1) rows))
at_line f more rows n r h e =
    ap (least_bad_behind f more (nearest_first (take n rows))) (rest_more rows n r h ∙ ap (λ (x : Placed). laid x ∷ laid_rows (drop (n + 1) rows)) (sym e))

-- a text with a line
with_line : (f : Frame) (more : Bool) (rows : List Placed) (n : ℕ) → n < length rows → least_bad f more (laid_rows rows) ≡ least_bad_behind f more [] (laid_rows rows)
with_line f more [] n h = absurd (omega arith)
with_line f more (r ∷ rows) n h = refl

pub stops : (f : Frame) (more : Bool) (rows : List Placed) (n : ℕ) (r : Placed) (passed : Passed) → n < length rows → r ≡ get_or rows n r → Scans f more rows n passed
    → is_good f more (nearest_first (take n rows)) (laid r) (laid_rows (drop (n + 1) rows)) ≡ false
    → Some r.number ≡ least_bad f more (laid_rows rows)
stops f more rows n r passed h e s bad =
    sym (with_line f more rows n h ∙ sym s.3 ∙ at_line f more rows n r h e ∙ cond-false _ _ _ bad)

pub goes_on : (f : Frame) (more : Bool) (rows : List Placed) (n : ℕ) (r : Placed) (passed new : Passed) → n < length rows → r ≡ get_or rows n r → Scans f more rows n passed
    → is_good f more (nearest_first (take n rows)) (laid r) (laid_rows (drop (n + 1) rows)) ≡ true
    → new.frame ≡ passed.frame
    → ((before : List Laid) → Describes before passed → Describes (laid r ∷ before) new)
    → new.declared ≡ declared_level (kind_of (shape r.form)) r.level
    → Scans f more rows (n + 1) new
goes_on f more rows n r passed new h e s good frame describes declared =
    let front : nearest_first (take (n + 1) rows) ≡ laid r ∷ nearest_first (take n rows) = nearest_more rows n r h ∙ ap (λ (x : Placed). laid x ∷ nearest_first (take n rows)) (sym e) in (
      subst (λ (before : List Laid). Describes before new) (sym front) (describes _ s.0),
      subst (λ (d : Option ℕ). IsRunServed more d (laid_rows (drop (n + 1) rows))) (sym declared) (run_served f more (nearest_first (take n rows)) (laid r) (laid_rows (drop (n + 1) rows)) good),
      frame ∙ s.2,
      ap (λ (before : List Laid). least_bad_behind f more before (laid_rows (drop (n + 1) rows))) front ∙ sym (cond-true _ _ _ good) ∙ sym (at_line f more rows n r h e) ∙ s.3,
    )

pub ends : (f : Frame) (more : Bool) (rows : List Placed) (n : ℕ) (passed : Passed) → 0 < length rows → length rows ≤ n → Scans f more rows n passed → None ≡ least_bad f more (laid_rows rows)
ends f more rows n passed some h s =
    sym (with_line f more rows 0 some ∙ sym s.3 ∙ ap (λ (xs : List Placed). least_bad_behind f more (nearest_first (take n rows)) (laid_rows xs)) (drop_all n rows h))

-- what a line was found to be, in the frame of the text and with the lines behind it
pub judged : (f g : Frame) (more : Bool) (before : List Laid) (r : Laid) (after found : List Placed) (b d : Bool) → g ≡ f → found ≡ after
    → b ≡ is_good g more before r (laid_rows found) → b ≡ d → is_good f more before r (laid_rows after) ≡ d
judged f g more before r after found b d frame same value is =
    ap (λ (h : Frame). is_good h more before r (laid_rows after)) (sym frame)
    ∙ ap (λ (xs : List Placed). is_good g more before r (laid_rows xs)) (sym same)
    ∙ sym value ∙ is

pub some_line : (rows : List Placed) (b : Bool) → b ≡ eqb (length rows) 0 → b ≡ false → 0 < length rows
some_line [] b e none = absurd (cc)
some_line (r ∷ rows) b e none = omega arith
