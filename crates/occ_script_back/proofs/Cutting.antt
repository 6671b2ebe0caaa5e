-- Chunks are the sections of their text.
use Rattle.std.proofs.Common.{◌≡◌, ℕ, ◌+◌, true, false, List, [], ◌∷◌, ◌++◌, length, refl, ap, sym, ◌∙◌, arith, append_assoc, append-nil}
use Rattle.std.specs.Prelude.{if◌then◌else◌}
use Rattle.std.specs.List.{AllByRecursion, concat}
use Rattle.occ_script_write.specs.occ_lex.Rows.{rows}
use Rattle.occ_script_write.proofs.from_lex.Placing.{concat-rows}
use Rattle.occ_script_write.specs.occ_script_lines.declared.section.Format.TheVariants as format
use Rattle.occ_script_write.specs.occ_script_lines.Lines.{is_keyword}
use Rattle.occ_script_write.specs.occ_script_lines.Sections.{until, section_at, later_sections, sections_from, sections_of}
use Rattle.occ_script_back.specs.Chunks.{Chunk, chunks_text, chunk_sections, IsBegun, IsCut}

abbrev Plain : List (List ℕ) → Type 0
Plain rs = AllByRecursion (λ row. is_keyword format.Script row ≡ false) rs

-- rows in front of the first keyword line
until_more : (rs others : List (List ℕ)) → Plain rs → until format.Script (rs ++ others) ≡ rs ++ until format.Script others
unfolding until
until_more [] others h = refl
until_more (r ∷ rs) others h = ap (λ b. if b then [] else r ∷ until format.Script (rs ++ others)) h.0 ∙ ap (λ ts. r ∷ ts) (until_more rs others h.1)

until_keyword : (row : List ℕ) (others : List (List ℕ)) → is_keyword format.Script row ≡ true → until format.Script (row ∷ others) ≡ []
unfolding until
until_keyword row others h = ap (λ b. if b then [] else row ∷ until format.Script others) h

until_none : until format.Script [] ≡ []
unfolding until
until_none = refl

later_more : (n : ℕ) (front : List ℕ) (rs others : List (List ℕ)) → Plain rs
    → later_sections format.Script n front (rs ++ others) ≡ later_sections format.Script (n + length rs) (front ++ concat rs) others
unfolding later_sections
later_more n front [] others h =
    let same : n ≡ n + 0 = omega arith in
    ap (λ m. later_sections format.Script m front others) same ∙ ap (λ t. later_sections format.Script (n + 0) t others) (sym (append-nil front))
later_more n front (r ∷ rs) others h =
    let same : n + 1 + length rs ≡ n + length (r ∷ rs) = omega arith in
    ap (λ b. if b then section_at format.Script n front r (rs ++ others) ∷ later_sections format.Script (n + 1) (front ++ r) (rs ++ others) else later_sections format.Script (n + 1) (front ++ r) (rs ++ others)) h.0
    ∙ later_more (n + 1) (front ++ r) rs others h.1
    ∙ ap (λ m. later_sections format.Script m ((front ++ r) ++ concat rs) others) same
    ∙ ap (λ t. later_sections format.Script (n + length (r ∷ rs)) t others) (append_assoc front r (concat rs))

later_keyword : (n : ℕ) (front row : List ℕ) (others : List (List ℕ)) → is_keyword format.Script row ≡ true
    → later_sections format.Script n front (row ∷ others) ≡ section_at format.Script n front row others ∷ later_sections format.Script (n + 1) (front ++ row) others
unfolding later_sections
later_keyword n front row others h =
    ap (λ b. if b then section_at format.Script n front row others ∷ later_sections format.Script (n + 1) (front ++ row) others else later_sections format.Script (n + 1) (front ++ row) others) h

later_none : (n : ℕ) (front : List ℕ) → later_sections format.Script n front [] ≡ []
unfolding later_sections
later_none n front = refl

pub rows_nil : rows [] ≡ []
unfolding rows
rows_nil = refl

-- no row stands in front of the first keyword line of chunks
until_chunks : (cs : List Chunk) → AllByRecursion IsCut cs → until format.Script (rows (chunks_text cs)) ≡ []
until_chunks [] h = ap (until format.Script) rows_nil ∙ until_none
until_chunks (c ∷ cs) h =
    let rest = c.body ++ chunks_text cs in
    ap (until format.Script) (h.0.begun.one rest) ∙ until_keyword c.row (rows rest) h.0.keyword

-- what stands behind a line up to the next keyword line
body_until : (c : Chunk) (cs : List Chunk) → IsBegun c → AllByRecursion IsCut cs → concat (until format.Script (rows (c.body ++ chunks_text cs))) ≡ c.body
body_until c cs b h =
    let later = rows (chunks_text cs) in
    ap (λ rs. concat (until format.Script rs)) (b.parted (chunks_text cs))
    ∙ ap concat (until_more (rows c.body) later b.plain ∙ ap (λ ts. rows c.body ++ ts) (until_chunks cs h) ∙ append-nil (rows c.body))
    ∙ concat-rows c.body

later_body : (n : ℕ) (front : List ℕ) (c : Chunk) (rest : List ℕ) → IsBegun c
    → later_sections format.Script n front (rows (c.body ++ rest)) ≡ later_sections format.Script (n + length (rows c.body)) (front ++ c.body) (rows rest)
later_body n front c rest b =
    ap (later_sections format.Script n front) (b.parted rest) ∙ later_more n front (rows c.body) (rows rest) b.plain
    ∙ ap (λ t. later_sections format.Script (n + length (rows c.body)) (front ++ t) (rows rest)) (concat-rows c.body)

later_chunks : (n : ℕ) (front : List ℕ) (cs : List Chunk) → AllByRecursion IsCut cs → later_sections format.Script n front (rows (chunks_text cs)) ≡ chunk_sections n front cs
later_chunks n front [] h = ap (later_sections format.Script n front) rows_nil ∙ later_none n front
later_chunks n front (c ∷ cs) h =
    let rest = c.body ++ chunks_text cs in
    let others = later_sections format.Script (n + 1) (front ++ c.row) (rows rest) in
    ap (later_sections format.Script n front) (h.0.begun.one rest) ∙ later_keyword n front c.row (rows rest) h.0.keyword
    ∙ ap (λ t. record { number = n; row = c.row; front = front ++ c.row; body = t } ∷ others) (body_until c cs h.0.begun h.1)
    ∙ ap (λ ss. record { number = n; row = c.row; front = front ++ c.row; body = c.body } ∷ ss)
    (later_body (n + 1) (front ++ c.row) c (chunks_text cs) h.0.begun ∙ later_chunks (n + 1 + length (rows c.body)) ((front ++ c.row) ++ c.body) cs h.1)

pub chunks_cut : (first : Chunk) (others : List Chunk) → IsBegun first → AllByRecursion IsCut others → sections_of format.Script (chunks_text (first ∷ others)) ≡ chunk_sections 1 [] (first ∷ others)
chunks_cut c cs b h =
    let rest = c.body ++ chunks_text cs in
    ap (sections_from format.Script 1 []) (b.one rest)
    ∙ ap (λ t. record { number = 1; row = c.row; front = c.row; body = t } ∷ later_sections format.Script 2 c.row (rows rest)) (body_until c cs b h)
    ∙ ap (λ ss. record { number = 1; row = c.row; front = c.row; body = c.body } ∷ ss)
    (later_body 2 c.row c (chunks_text cs) b ∙ later_chunks (2 + length (rows c.body)) (c.row ++ c.body) cs h)
