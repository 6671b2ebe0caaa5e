-- The words of a line, and the spaces behind them.
use Rattle.std.proofs.Common.{◌≡◌, ℕ, Bool, true, false, cond, ◌&&◌, List, [], ◌∷◌, Option, Some, None, refl, sym, ap, subst, ◌∙◌}
use Rattle.std.specs.List.{list_all, onto_first, slice_split}
use Rattle.std.proofs.lemmas.Bool.{cond-true, cond-false}
use Rattle.std.proofs.lemmas.List.Splits.{slice_split-cons_yes, slice_split-cons_no}
use Rattle.occ_lex.specs.Rows.{code_of, is_space}
use Rattle.occ_script_lines.specs.declared.keyword.Head.{Head as Seen}
use Rattle.occ_script_lines.specs.declared.keyword.Words.{Words}
use Rattle.occ_script_lines.specs.Heads.{AreHeads, AreWords, head_in, is_step}
use Rattle.occ_script_lines.specs.Lines.{Head, direction_of, head_from, head_of, head_of_words, is_empty}
use Rattle.occ_script_lines.specs.declared.direction.Direction.{Direction}
use Rattle.occ_script_lines.specs.Texts.{is_byte, path_of}

-- too few words
pub one_word : (pieces : List (List ℕ)) (a : List ℕ) → pieces ≡ a ∷ [] → (k : List ℕ) → head_of_words k pieces ≡ None
one_word pieces a e = λ k. ap (head_of_words k) e

pub two_words : (pieces behind : List (List ℕ)) (a b : List ℕ) → pieces ≡ a ∷ behind → behind ≡ b ∷ [] → (k : List ℕ) → head_of_words k pieces ≡ None
two_words pieces behind a b e f = λ k. ap (head_of_words k) (e ∙ ap (λ bs. a ∷ bs) f)

pub three_words : (pieces behind later : List (List ℕ)) (a b c : List ℕ) → pieces ≡ a ∷ behind → behind ≡ b ∷ later → later ≡ c ∷ [] → (k : List ℕ) → head_of_words k pieces ≡ None
three_words pieces behind later a b c e f g = λ k. ap (head_of_words k) (e ∙ ap (λ bs. a ∷ bs) (f ∙ ap (λ cs. b ∷ cs) g))

-- four words, and what stands behind them
pub four_words : (pieces behind later last others : List (List ℕ)) (a b c d : List ℕ) → pieces ≡ a ∷ behind → behind ≡ b ∷ later → later ≡ c ∷ last → last ≡ d ∷ others
    → pieces ≡ a ∷ b ∷ c ∷ d ∷ others
four_words pieces behind later last others a b c d e f g h = e ∙ ap (λ bs. a ∷ bs) (f ∙ ap (λ cs. b ∷ cs) (g ∙ ap (λ ds. c ∷ ds) h))

full_first : (b : ℕ) (parts : List (List ℕ)) → list_all is_empty (onto_first b parts) ≡ false
full_first b [] = refl
full_first b (part ∷ parts) = refl

-- the pieces between spaces are empty where nothing but spaces stands there
pub empty_pieces : (text : List ℕ) → list_all is_space text ≡ list_all is_empty (slice_split (is_byte 32) text)
empty_pieces [] = refl
empty_pieces (b ∷ text) = at (empty_pieces text) (is_byte 32 b) refl
  where
    at : list_all is_space text ≡ list_all is_empty (slice_split (is_byte 32) text) → (s : Bool) → is_byte 32 b ≡ s
        → list_all is_space (b ∷ text) ≡ list_all is_empty (slice_split (is_byte 32) (b ∷ text))
    at later true e = ap (λ t. t && list_all is_space text) e ∙ later ∙ sym (ap (list_all is_empty) (slice_split-cons_yes (is_byte 32) b text e))
    at later false e = ap (λ t. t && list_all is_space text) e ∙ sym (full_first b (slice_split (is_byte 32) text)) ∙ sym (ap (list_all is_empty) (slice_split-cons_no (is_byte 32) b text e))

-- ---- what four words say

no_head : (w : Option Head) → w ≡ None → AreHeads w None
no_head None e = tt
no_head (Some h) e = absurd cc

pub head_unfit : (keyword : List ℕ) (w : Words) → is_step keyword w ≡ false → AreHeads (head_in keyword w) None
head_unfit keyword w e = no_head (head_in keyword w) (cond-false (is_step keyword w) (head_from w.law.now (direction_of w.dir.now) (path_of w.path.now)) None e)

undirected : (law : List ℕ) (d : Option Direction) (p : Option (List ℕ)) → d ≡ None → head_from law d p ≡ None
undirected law None p e = refl
undirected law (Some dir) p e = absurd cc

nowhere : (law : List ℕ) (d : Option Direction) (p : Option (List ℕ)) → p ≡ None → head_from law d p ≡ None
nowhere law None p e = refl
nowhere law (Some dir) None e = refl
nowhere law (Some dir) (Some path) e = absurd cc

either_none : (b : Bool) (h : Option Head) → h ≡ None → cond b h None ≡ None
either_none true h e = e
either_none false h e = refl

pub head_undirected : (keyword : List ℕ) (w : Words) → direction_of w.dir.now ≡ None → AreHeads (head_in keyword w) None
head_undirected keyword w e =
    no_head (head_in keyword w) (either_none (is_step keyword w) (head_from w.law.now (direction_of w.dir.now) (path_of w.path.now)) (undirected w.law.now (direction_of w.dir.now) (path_of w.path.now) e))

pub head_nowhere : (keyword : List ℕ) (w : Words) → path_of w.path.now ≡ None → AreHeads (head_in keyword w) None
head_nowhere keyword w e =
    no_head (head_in keyword w) (either_none (is_step keyword w) (head_from w.law.now (direction_of w.dir.now) (path_of w.path.now)) (nowhere w.law.now (direction_of w.dir.now) (path_of w.path.now) e))

some_head : (w : Option Head) (law : List ℕ) (dir : Direction) (path : List ℕ) (h : Seen) → w ≡ Some (record { law = law; dir = dir; path = path }) → h.law.now ≡ law → h.dir ≡ dir → h.path ≡ path → AreHeads w (Some h)
some_head w law dir path h e a b c = subst (λ (o : Option Head). AreHeads o (Some h)) (sym e) (record { law = a; dir = b; path = c })

pub head_there : (keyword : List ℕ) (w : Words) (dir : Direction) (path : List ℕ) (h : Seen) → is_step keyword w ≡ true → direction_of w.dir.now ≡ Some dir → path_of w.path.now ≡ Some path
    → h.law.now ≡ w.law.now → h.dir ≡ dir → h.path ≡ path → AreHeads (head_in keyword w) (Some h)
head_there keyword w dir path h e d p a b c =
    some_head (head_in keyword w) w.law.now dir path h
    (cond-true (is_step keyword w) (head_from w.law.now (direction_of w.dir.now) (path_of w.path.now)) None e
    ∙ ap (λ o. head_from w.law.now o (path_of w.path.now)) d ∙ ap (head_from w.law.now (Some dir)) p) a b c

pub few_words : (keyword row : List ℕ) → AreWords (slice_split (is_byte 32) (code_of row)) None → AreHeads (head_of keyword row) None
unfolding head_of
few_words keyword row h = no_head (head_of keyword row) (h keyword)

pub enough_words : (keyword row : List ℕ) (w : Words) (found : Option Seen) → AreWords (slice_split (is_byte 32) (code_of row)) (Some w) → AreHeads (head_in keyword w) found → AreHeads (head_of keyword row) found
unfolding head_of
enough_words keyword row w found h k = subst (λ (o : Option Head). AreHeads o found) (sym (ap (head_of_words keyword) h)) k
