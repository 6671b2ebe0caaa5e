-- Spans of steps, spelled.
use Rattle.std.proofs.Common.{ℕ, ◌≡◌, ◌≤◌, ◌<◌, ◌+◌, ◌-◌, ◌++◌, List, [], ◌∷◌, suc, length, get_or, take, drop, map, refl, sym, ap, ◌∙◌, arith, subst}
use Rattle.std.proofs.lemmas.Grind.{flat_map-append}
use Rattle.std.proofs.lemmas.List.{append_assoc, append-nil, take_all}
use Rattle.std.proofs.lemmas.List.Elements.{All-cons, All-head, All-nil, All-tail}
use Rattle.std.specs.List.{All}
use Rattle.occ_run.specs.declared.answer.Move.{Move}
use Rattle.occ_place.specs.declared.row.Row.{Row}
use Rattle.occ_place.specs.declared.spans.Span.{Span}
use Rattle.occ_place.specs.Steps.{MoveIsNamed, SpanIsNamed, advanced, numbered, spell, spell_span, spelled}

more_spelled : (n number : ℕ) (m seen : Move) (k : ℕ) → number ≡ n + suc k → seen ≡ advanced m (suc k) → spell n m (suc k) ≡ spell n m k ++ (number, seen) ∷ []
more_spelled n number m seen k e h = ap (λ (x : ℕ × Move). spell n m k ++ x ∷ []) (ap (λ i. (i, advanced m (suc k))) (sym e) ∙ ap (λ a. (number, a)) (sym h))

-- a span with one more step
pub joined_spelled : (from last number : ℕ) (m seen : Move) → from ≤ last → number ≡ last + 1 → seen ≡ advanced m (number - from)
    → spell from m (number - from) ≡ spell from m (last - from) ++ (number, seen) ∷ []
joined_spelled from last number m seen order next h =
    let k = last - from in
    let e : number - from ≡ suc k = omega (arith, order, next) in
    let there : number ≡ from + suc k = omega (arith, order, next) in
    ap (spell from m) e ∙ more_spelled from number m seen k there (h ∙ ap (advanced m) e)

-- a span of one step
pub one_spelled : (n : ℕ) (m : Move) → spell n m (n - n) ≡ (n, m) ∷ []
one_spelled n m = let e : n - n ≡ 0 = omega arith in ap (spell n m) e

-- a span that joins the others
pub pushed_spelled : (spans : List Span) (s : Span) (n : ℕ) (m : Move) → spelled (spans ++ s ∷ []) ++ spell n m (n - n) ≡ spelled spans ++ spell_span s ++ (n, m) ∷ []
pushed_spelled spans s n m =
    ap (λ l. spelled (spans ++ s ∷ []) ++ l) (one_spelled n m)
    ∙ ap (λ l. l ++ (n, m) ∷ []) (flat_map-append spell_span spans (s ∷ []) ∙ ap (λ l. spelled spans ++ l) (append-nil (spell_span s)))

-- ---- steps that are taken off the front of a list

pub split : {A : Type 0} (l : List A) (d : A) → 0 < length l → l ≡ get_or l 0 d ∷ take (length l - 1) (drop 1 l)
split [] d h = absurd (omega (arith, h))
split (x ∷ l) d h = ap (λ xs. x ∷ xs) (sym (take_all (length (x ∷ l) - 1) l (omega arith)))

-- the spans before the first step
pub begun : (spans : List Span) (moves later : List Move) (first : Move) → spans ≡ [] → moves ≡ first ∷ later
    → (spelled spans ++ ((0, first) ∷ [])) ++ numbered 1 later ≡ numbered 0 moves
begun spans moves later first e m = ap (λ s. (spelled s ++ ((0, first) ∷ [])) ++ numbered 1 later) e ∙ ap (numbered 0) (sym m)

-- the spans behind the next step
pub gone_on : (a b c d whole : List (ℕ × Move)) (n number next : ℕ) (rest later : List Move) (seen : Move) → rest ≡ seen ∷ later → n ≡ number → next ≡ number + 1
    → c ++ d ≡ (a ++ b) ++ ((number, seen) ∷ []) → (a ++ b) ++ numbered n rest ≡ whole → (c ++ d) ++ numbered next later ≡ whole
gone_on a b c d whole n number next rest later seen r e f grown h =
    let front : numbered n rest ≡ (number, seen) ∷ numbered next later =
    ap (numbered n) r ∙ ap (λ k. numbered k (seen ∷ later)) e ∙ ap (λ k. (number, seen) ∷ numbered k later) (sym f) in
    ap (λ l. l ++ numbered next later) grown
    ∙ append_assoc (a ++ b) ((number, seen) ∷ []) (numbered next later)
    ∙ ap (λ l. (a ++ b) ++ l) (sym front) ∙ h

-- the names of the first step and of the others
pub first_named : (names : List (List ℕ)) (rest later : List Move) (seen : Move) → rest ≡ seen ∷ later → All (MoveIsNamed names) rest → MoveIsNamed names seen × All (MoveIsNamed names) later
first_named names rest later seen e h =
    let all = subst (All (MoveIsNamed names)) e h in (All-head (MoveIsNamed names) seen later all, All-tail (MoveIsNamed names) seen later all)

pub none_named : (names : List (List ℕ)) (spans : List Span) → spans ≡ [] → All (SpanIsNamed names) spans
none_named names spans e = subst (All (SpanIsNamed names)) (sym e) (All-nil (SpanIsNamed names))

-- the names of rows, by their spans
pub rows_named : (names : List (List ℕ)) (rows : List Row) (spans : List Span) → map (λ (row : Row). row.span) rows ≡ spans → All (SpanIsNamed names) spans
    → All (λ (row : Row). SpanIsNamed names row.span) rows
rows_named names [] spans e h = All-nil (λ (row : Row). SpanIsNamed names row.span)
rows_named names (row ∷ rows) spans e h =
    let all = subst (All (SpanIsNamed names)) (sym e) h in
    let later = map (λ (r : Row). r.span) rows in
    All-cons (λ (r : Row). SpanIsNamed names r.span) row rows (All-head (SpanIsNamed names) row.span later all)
    (rows_named names rows later refl (All-tail (SpanIsNamed names) row.span later all))
