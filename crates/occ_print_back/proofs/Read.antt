-- The lines of a text that was read stand no deeper than the limits allow, and so do those on which its program is printed.
use Rattle.std.proofs.Common.{◌≡◌, ℕ, ◌+◌, ◌≤◌, ◌<◌, Bool, true, false, nat_lt, ◌&&◌, List, [], ◌∷◌, ◌++◌, Option, Some, None, refl, sym, subst, ◌∙◌, arith, ⊎_elim}
use Rattle.std.specs.Prelude.{if◌then◌else◌}
use Rattle.std.proofs.lemmas.Bool.{and_parts, cases_lt, false≢true, lt-ltb}
use Rattle.occ_print.specs.occ_base.declared.names.Name.{Name}
use Rattle.occ_print.specs.occ_syntax.declared.scope.Kind.{Kind}
use Rattle.occ_print.specs.occ_syntax.Tree.{Tree}
use Rattle.occ_print.specs.occ_lex.declared.fault.LineFault.{LineFault}
use Rattle.occ_print.specs.occ_lex.Rows.{reading_of}
use Rattle.occ_print.specs.occ_lex.declared.symbol.Row.{Row}
use Rattle.occ_parse.specs.occ_parse_rules.Forest.{Forest, no_line, and_line, Laid, lines_at}
use Rattle.occ_parse.specs.occ_parse_rules.Places.{Sorts}
use Rattle.occ_parse.specs.occ_parse_rules.Unrolled.{Numbers, slot_process}
use Rattle.occ_parse.specs.declared.bound.Bound.{Bound}
use Rattle.occ_parse.specs.declared.fault.ParseFault.{ParseFault}
use Rattle.occ_parse.specs.declared.fault.Which.{Which}
use Rattle.occ_parse.specs.declared.fault.Which.TheVariants as which
use Rattle.occ_parse.specs.Drafts.{header_below}
use Rattle.occ_parse.specs.Limits.{is_limited, frame_of, line_limit, stop_at, stopped}
use Rattle.occ_parse.specs.Reading.{AreForms, IsLaidOut, IsRead, rows_in}
use Rattle.occ_print.specs.Lines.{part_lines}
use Rattle.occ_print_back.specs.Back.{deepest}
use Rattle.occ_print_back.proofs.Served.{good_served, all_served}
use Rattle.occ_print_back.proofs.Levels.{IsWithin, slot_within}

-- ---- rows within the limits

abbrev AllShallow : List Row → Type 0
AllShallow [] = Unit {0}
AllShallow (row ∷ rows) = (row.level ≤ 64) × AllShallow rows

level_test : (t : Bool) (others : Option Which) → (if t then Some which.Levels else others) ≡ None → t ≡ false
level_test true others h = absurd (cc)
level_test false others h = refl

limited_level : (t : Bool) (level : ℕ) → t ≡ true → (t && nat_lt 64 level) ≡ false → level ≤ 64
limited_level true level h e = ⊎_elim (λ (l : 64 < level). absurd (false≢true (sym e ∙ lt-ltb 64 level l))) (λ (l : level ≤ 64). l) (cases_lt 64 level)
limited_level false level h e = absurd (false≢true h)

row_within : (b : Bound) (row : Row) → is_limited b ≡ true → line_limit b row ≡ None → row.level ≤ 64
row_within b row h e = limited_level (is_limited b) row.level h (level_test (is_limited b && nat_lt 64 row.level) _ e)

shallow_at : (row : Row) (w : Option Which) (others : List Row × Option ParseFault) → (w ≡ None → row.level ≤ 64) → (others.1 ≡ None → AllShallow others.0)
    → (stop_at row w others).1 ≡ None → AllShallow (stop_at row w others).0
shallow_at row (Some w) others l a h = tt
shallow_at row None others l a h = (l refl, a h)

rows_within : (b : Bound) (rows : List Row) (found : Option (ℕ × LineFault)) → is_limited b ≡ true → (stopped b rows found).1 ≡ None → AllShallow (stopped b rows found).0
rows_within b [] found h e = tt
rows_within b (row ∷ rows) found h e = shallow_at row (line_limit b row) (stopped b rows found) (row_within b row h) (rows_within b rows found h) e

-- ---- lines within the limits

abbrev AllLaid : List Laid → Type 0
AllLaid [] = Unit {0}
AllLaid (line ∷ lines) = (line.level ≤ 64) × AllLaid lines

forms_within : (rows : List Row) (lines : List Laid) → AreForms rows lines → AllShallow rows → AllLaid lines
forms_within [] [] f a = tt
forms_within [] (line ∷ lines) f a = absurd f
forms_within (row ∷ rows) [] f a = absurd f
forms_within (row ∷ rows) (line ∷ lines) f a = (subst (λ n. n ≤ 64) f.0.level a.0, forms_within rows lines f.1 a.1)

laid_parts : (xs ys : List Laid) → AllLaid (xs ++ ys) → AllLaid xs × AllLaid ys
laid_parts [] ys a = (tt, a)
laid_parts (x ∷ xs) ys a = let parts = laid_parts xs ys a.1 in ((a.0, parts.0), parts.1)

forest_within : (level : ℕ) (f : Forest) → AllLaid (lines_at level f) → IsWithin 64 level f
forest_within level no_line a = tt
forest_within level (and_line number s below rest) a =
    let parts = laid_parts (lines_at (level + 1) below) (lines_at level rest) a.1 in
    (a.0, forest_within (level + 1) below parts.0, forest_within level rest parts.1)

-- ---- the program

below_within : (f : Forest) → IsWithin 64 0 f → IsWithin 64 1 (header_below f)
below_within no_line w = tt
below_within (and_line number s below rest) w = w.1

below_served : (f : Forest) → all_served f ≡ true → all_served (header_below f) ≡ true
below_served no_line h = refl
below_served (and_line number s below rest) h = (and_parts _ _ (and_parts _ _ h).1).0

draft_within : (b : Bound) (text : List ℕ) (old : List (List ℕ)) (f : Forest) → is_limited b ≡ true → IsLaidOut b text old f → IsWithin 64 0 f
draft_within b text old f h laid =
    let judged = laid.judged in
    forest_within 0 f (forms_within _ (lines_at 0 f) judged.forms (rows_within b (rows_in text old) (reading_of text).1 h judged.stop_is))

process_within : (N : Numbers) (Γ : Sorts) (f : Forest) → IsWithin 64 0 f → all_served f ≡ true → deepest (part_lines 1 (slot_process N Γ (header_below f))) ≤ 64
process_within N Γ f w o = slot_within N 64 1 (header_below f) (omega arith) (below_within f w) (below_served f o) Γ (λ i. 0)

-- a program that was read, where all limits bind its text, is printed on lines no deeper than level 64
pub read_within : (b : Bound) (text : List ℕ) (old new : List (List ℕ)) (name : Name) (params : List (Name × Kind)) (body : Tree) (numbers : List ℕ)
    → is_limited b ≡ true → IsRead b text old new name params body numbers → deepest (part_lines 1 body) ≤ 64
read_within b text old new name params body numbers h r =
    subst (λ p. deepest (part_lines 1 p) ≤ 64) (sym r.body_is)
    (process_within _ _ r.draft (draft_within b text old r.draft h r.laid_out) (good_served (frame_of b) 0 r.draft r.laid_out.good))
