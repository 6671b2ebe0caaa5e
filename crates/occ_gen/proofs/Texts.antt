-- The text of lines, level by level and stage by stage.
use Rattle.std.proofs.Common.{◌≡◌, ℕ, zero, suc, ◌+◌, ◌-◌, ◌*◌, ◌<◌, List, [], ◌∷◌, ◌++◌, replicate, refl, ap, sym, ◌∙◌, arith, append_assoc}
use Rattle.std.specs.Prelude.{codes, decimal}
use Rattle.std.proofs.lemmas.List.{append-nil}
use Rattle.std.proofs.lemmas.Grind.{flat_map-append}
use Rattle.occ_gen.specs.declared.shape.Shape.{Shape}
use Rattle.occ_gen.specs.Programs.{Line, line, line_text, lines_text, width, messages, channel, opening, cell, stages}

-- two spaces more
two_more : (n : ℕ) → replicate {A = ℕ} (n + 2) 32 ≡ replicate {A = ℕ} n 32 ++ 32 ∷ 32 ∷ []
two_more zero = refl
two_more (suc n) =
    let e : suc n + 2 ≡ suc (n + 2) = omega arith in
    ap (λ k. replicate {A = ℕ} k 32) e ∙ ap (λ t. 32 ∷ t) (two_more n)

pub level_more : (n : ℕ) (old t0 t1 : List ℕ) → t0 ≡ old ++ replicate (2 * n) 32 → t1 ≡ t0 ++ 32 ∷ 32 ∷ [] → t1 ≡ old ++ replicate (2 * (n + 1)) 32
level_more n old t0 t1 e f =
    let g : 2 * (n + 1) ≡ 2 * n + 2 = omega arith in
    f ∙ ap (λ t. t ++ 32 ∷ 32 ∷ []) e ∙ append_assoc old (replicate (2 * n) 32) (32 ∷ 32 ∷ [])
    ∙ ap (λ t. old ++ t) (sym (two_more (2 * n)) ∙ ap (λ k. replicate {A = ℕ} k 32) (sym g))

pub lines_text-append : (xs ys : List Line) → lines_text (xs ++ ys) ≡ lines_text xs ++ lines_text ys
lines_text-append xs ys = flat_map-append line_text xs ys

-- the first three lines of a cell, one after the other
pub opening_lines : (shape : Shape) (l : ℕ) (w m t0 t1 t2 t3 : List ℕ) → w ≡ width shape → m ≡ decimal (messages shape)
    → t1 ≡ t0 ++ line_text (line l (w ++ codes " v:")) → t2 ≡ t1 ++ line_text (line l (codes "SEQ i = 0 FOR " ++ (m ++ [])))
    → t3 ≡ t2 ++ line_text (line (l + 1) (codes "SEQ")) → t3 ≡ t0 ++ lines_text (opening shape l)
opening_lines shape l w m t0 t1 t2 t3 width_is messages_is first second third =
    let a = line_text (line l (width shape ++ codes " v:")) in
    let b = line_text (line l (codes "SEQ i = 0 FOR " ++ decimal (messages shape))) in
    let d = line_text (line (l + 1) (codes "SEQ")) in
    let f : t1 ≡ t0 ++ a = first ∙ ap (λ v. t0 ++ line_text (line l (v ++ codes " v:"))) width_is in
    let g : t2 ≡ t1 ++ b = second ∙ ap (λ v. t1 ++ line_text (line l (codes "SEQ i = 0 FOR " ++ v))) (append-nil m ∙ messages_is) in
    third ∙ ap (λ t. t ++ d) (g ∙ ap (λ t. t ++ b) f ∙ append_assoc t0 a b) ∙ append_assoc t0 (a ++ b) d
    ∙ ap (λ t. t0 ++ t) (append_assoc a b d ∙ ap (λ t. a ++ (b ++ t)) (sym (append-nil d)))

-- the lines of a stage that isn't the last, up to those of the next
abbrev pub front : Shape → ℕ → List Line
front shape k =
    line k (codes "CHAN OF " ++ width shape ++ codes " " ++ channel k ++ codes ":") ∷ line k (codes "PAR") ∷ cell shape k (channel k) (k + 1)

-- a text with the lines of one stage more, and then those of the next
pub stage_more : (shape : Shape) (k n : ℕ) (t0 t1 : List ℕ) → k < n → t1 ≡ t0 ++ lines_text (front shape k)
    → t1 ++ lines_text (stages shape (k + 1) (k + 1) (n - (k + 1))) ≡ t0 ++ lines_text (stages shape k k (n - k))
stage_more shape k n t0 t1 h e =
    let m : n - k ≡ suc (n - (k + 1)) = omega arith in
    let rest = stages shape (k + 1) (k + 1) (n - (k + 1)) in
    ap (λ t. t ++ lines_text rest) e ∙ append_assoc t0 (lines_text (front shape k)) (lines_text rest)
    ∙ ap (λ t. t0 ++ t) (sym (lines_text-append (front shape k) rest)) ∙ ap (λ more. t0 ++ lines_text (stages shape k k more)) (sym m)

-- the last stage
pub stage_last : (shape : Shape) (k n : ℕ) (t0 t1 t2 : List ℕ) → k ≡ n → t1 ≡ t0 ++ lines_text (cell shape n (codes "out") n)
    → t0 ++ lines_text (stages shape k k (n - k)) ≡ t2 → t1 ≡ t2
stage_last shape k n t0 t1 t2 h e f =
    let m : n - n ≡ zero = omega arith in
    e ∙ ap (λ more. t0 ++ lines_text (stages shape n n more)) (sym m) ∙ ap (λ i. t0 ++ lines_text (stages shape i i (n - i))) (sym h) ∙ f
