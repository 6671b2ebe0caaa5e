-- What a command with one word or two makes of words that aren't empty and don't begin with a hyphen.
use Rattle.std.proofs.Common.{◌≡◌, ◌∙◌, ◌==◌, ◌&&◌, ℕ, cond, true, false, not, refl, sym, ap, ap₂, List, [], ◌∷◌, Some, None, option_map, true≢false, inl, inr}
use Rattle.std.specs.Prelude.{option_and_then, find}
use Rattle.std.specs.Str.{bytes_eq}
use Rattle.std.specs.Option.{option_map_or}
use Rattle.std.proofs.lemmas.Bool.{cases_Bool}
use Rattle.clap.specs.Lexer.{strip_byte, long_of_rest, long_of, short_of_rest, short_of}
use Rattle.clap.specs.Walk.{Held, Names, Rule, Step, Text, Walk, idle, walk_from, walked, nothing_held, arg_by_index, answers_to, to_positional, trailing, value, word_met, subcommand_or_other, long_or_other, short_or_plain, after_step, settled, finished}
use Rattle.clap.specs.Kinds.{Kinds, or_else}
use Rattle.clap.specs.Faults.{turn_fault, walk_fault, word_fault, other_fault, flag_word_fault, bundle_fault, step_fault, level_fault, settle_fault, defaults_fault, check_fault, stray_fault}
use Rattle.clap.specs.Simple.{App, Shape, built}
use Rattle.clap.specs.Words.{with_subcommand}
use Rattle.clap.proofs.OnLiterals.{clap_on_literals}
use Rattle.occ_tool_words.specs.Words.{is_plain}
use Rattle.occ_tool_words.specs.CommandLine.{bare_line, one_word_line, two_word_line}

-- A word that isn't a flag.
pub record IsNoFlag (word : Text) : Type 0 where
  pub dashes : bytes_eq word (45 ∷ 45 ∷ []) ≡ false
  pub long : long_of word ≡ None
  pub short : short_of word ≡ None

pub no_flag : (word : Text) → is_plain word ≡ true → IsNoFlag word
no_flag [] e = absurd (true≢false (sym e))
no_flag (x ∷ xs) e =
    let plain : (x == 45) ≡ false = elim (cases_Bool (x == 45)) [ inl t ↦ absurd (true≢false (sym e ∙ ap not t)) | inr f ↦ f ] in
    record {
      dashes = ap (λ b. b && bytes_eq xs (45 ∷ [])) plain;
      long = ap (λ b. option_and_then long_of_rest (option_and_then (strip_byte 45) (cond b (Some xs) None))) plain;
      short = ap (λ b. option_and_then short_of_rest (cond b (Some xs) None)) plain;
    }

-- where a walk stands between two words, with nothing waiting
abbrev pub between : Held → ℕ → Walk
between h position = record { held = h; waiting = idle; position = position; is_trailing = false; stopped = None }

pub met : (c : List Rule) (names : Names) (position : ℕ) (word : Text) (h : Held) → IsNoFlag word → find (answers_to word) names ≡ None
    → word_met c names false idle position word h ≡ (h, value)
met c names position word h w none =
    ap (λ o. subcommand_or_other c (option_map (λ s. s.0) o) idle position word h) none
    ∙ ap (λ b. cond b (h, trailing position) (long_or_other c idle word (long_of word) h)) w.dashes
    ∙ ap (λ o. long_or_other c idle word o h) w.long
    ∙ ap (λ o. short_or_plain c idle word o h) w.short

pub step : (c : List Rule) (names : Names) (position : ℕ) (word : Text) (h : Held) → IsNoFlag word → find (answers_to word) names ≡ None
    → walked c names (between h position) word ≡ to_positional c (arg_by_index c position) word (between h position) h
unfolding walked
step c names position word h w none = ap (λ m. after_step c word (between h position) m.0 m.1) (met c names position word h w none)

pub no_word_fault : (s : Shape) (names : Names) (word : Text) (h : Held) → IsNoFlag word → find (answers_to word) names ≡ None
    → word_fault s names false idle word h ≡ []
no_word_fault s names word h w none =
    ap (λ o. other_fault s (option_map (λ s. s.0) o) word h) none
    ∙ ap (λ b. cond b [] (flag_word_fault s.rules s.args_override_self (long_of word) word h)) w.dashes
    ∙ ap (λ o. flag_word_fault s.rules s.args_override_self o word h) w.long
    ∙ ap (λ o. option_map_or (λ flags. bundle_fault s.rules s.args_override_self flags h) o []) w.short

pub turn : (s : Shape) (names : Names) (position : ℕ) (word : Text) (h : Held) → IsNoFlag word → find (answers_to word) names ≡ None
    → turn_fault s names (between h position) word ≡ step_fault s position h value
turn s names position word h w none =
    ap₂ (λ k (m : Held × Step). or_else k (step_fault s position m.0 m.1)) (no_word_fault s names word h w none) (met s.rules names position word h w none)

pub first_empty : (a b : Kinds) → or_else a b ≡ [] → a ≡ []
first_empty [] b e = refl
first_empty (k ∷ ks) b e = e

-- ---- a command with one word or two, whatever its name

abbrev rows_leaf : List Shape → Shape → Shape
rows_leaf [] s = s
rows_leaf (s ∷ ss) other = s

abbrev leaf_in : App → Shape
leaf_in a = rows_leaf (built (with_subcommand bare_line a.top)).subs a.top

abbrev pub leaf_one : Text → Shape
leaf_one name = leaf_in (one_word_line name)

abbrev pub leaf_two : Text → Shape
leaf_two name = leaf_in (two_word_line name)

abbrev pub leaf_fault : Shape → List Text → Kinds
leaf_fault s words = level_fault s [] nothing_held words false []

abbrev leaf_whole : Shape → Walk → Kinds → Kinds
leaf_whole s w k = or_else k (or_else [] (or_else (settle_fault s.rules s.args_override_self w.held)
    (or_else (defaults_fault (settled s.rules w.held).rows s.rules) (check_fault s (finished s.rules w.held) false))))

abbrev pub after_one : Shape → Text → Walk
after_one s a = to_positional s.rules (arg_by_index s.rules 1) a (between nothing_held 1) nothing_held

abbrev pub after_two : Shape → Text → Text → Walk
after_two s a b = to_positional s.rules (arg_by_index s.rules 2) b (after_one s a) (after_one s a).held

pub walk_one : (s : Shape) (a : Text) → IsNoFlag a → walked s.rules [] (walk_from nothing_held) a ≡ after_one s a
walk_one s a w = step s.rules [] 1 a nothing_held w refl

-- a walk's faults past a first word that is taken
past : (s : Shape) (w v : Walk) (a : Text) (more : List Text) → walked s.rules [] w a ≡ v → turn_fault s [] w a ≡ []
    → walk_fault s [] w (a ∷ more) ≡ walk_fault s [] v more
unfolding walk_fault
past s w v a more to none = ap₂ (λ (k : Kinds) (x : Walk). or_else k (walk_fault s [] x more)) none to

pub missing_one : (name : Text) → leaf_fault (leaf_one name) [] ≡ [] → ⊥
unfolding clap_on_literals
missing_one name e = cc

pub missing_two : (name : Text) → leaf_fault (leaf_two name) [] ≡ [] → ⊥
unfolding clap_on_literals
missing_two name e = cc

no_more : (s : Shape) (w : Walk) → walk_fault s [] w [] ≡ []
unfolding walk_fault
no_more s w = refl

-- ---- one word

taken_one : (name a : Text) → IsNoFlag a → turn_fault (leaf_one name) [] (walk_from nothing_held) a ≡ []
taken_one name a w = turn (leaf_one name) [] 1 a nothing_held w refl

one_leaf : (name a : Text) → IsNoFlag a → leaf_fault (leaf_one name) (a ∷ []) ≡ leaf_whole (leaf_one name) (after_one (leaf_one name) a) []
one_leaf name a w = ap₂ (leaf_whole (leaf_one name)) (walk_one (leaf_one name) a w)
    (past (leaf_one name) (walk_from nothing_held) _ a [] (walk_one (leaf_one name) a w) (taken_one name a w) ∙ no_more (leaf_one name) (after_one (leaf_one name) a))

one_right : (name a : Text) → leaf_whole (leaf_one name) (after_one (leaf_one name) a) [] ≡ []
unfolding clap_on_literals
one_right name a = refl

pub right_one : (name a : Text) → IsNoFlag a → leaf_fault (leaf_one name) (a ∷ []) ≡ []
right_one name a w = one_leaf name a w ∙ one_right name a

pub crowded_one : (name a b : Text) (more : List Text) → IsNoFlag a → IsNoFlag b → leaf_fault (leaf_one name) (a ∷ b ∷ more) ≡ [] → ⊥
unfolding walk_fault
crowded_one name a b more v w e =
    let s = leaf_one name in
    let all : walk_fault s [] (walk_from nothing_held) (a ∷ b ∷ more) ≡ [] = first_empty _ _ e in
    let rest : walk_fault s [] (after_one s a) (b ∷ more) ≡ [] =
    sym (past s (walk_from nothing_held) (after_one s a) a (b ∷ more) (walk_one s a v) (taken_one name a v)) ∙ all in
    let second : turn_fault s [] (after_one s a) b ≡ [] = first_empty _ _ rest in
    let stray : stray_fault s ≡ [] = sym (turn s [] 2 b (after_one s a).held w refl) ∙ second in
    cc

-- ---- two words

taken_first : (name a : Text) → IsNoFlag a → turn_fault (leaf_two name) [] (walk_from nothing_held) a ≡ []
taken_first name a w = turn (leaf_two name) [] 1 a nothing_held w refl

taken_second : (name a b : Text) → IsNoFlag b → turn_fault (leaf_two name) [] (after_one (leaf_two name) a) b ≡ []
taken_second name a b w = turn (leaf_two name) [] 2 b (after_one (leaf_two name) a).held w refl

walk_second : (name a b : Text) → IsNoFlag b → walked (leaf_two name).rules [] (after_one (leaf_two name) a) b ≡ after_two (leaf_two name) a b
walk_second name a b w = step (leaf_two name).rules [] 2 b (after_one (leaf_two name) a).held w refl

pub walk_two : (name a b : Text) → IsNoFlag a → IsNoFlag b
    → walked (leaf_two name).rules [] (walked (leaf_two name).rules [] (walk_from nothing_held) a) b ≡ after_two (leaf_two name) a b
walk_two name a b v w = ap (λ x. walked (leaf_two name).rules [] x b) (walk_one (leaf_two name) a v) ∙ walk_second name a b w

short_leaf : (name a : Text) → IsNoFlag a → leaf_fault (leaf_two name) (a ∷ []) ≡ leaf_whole (leaf_two name) (after_one (leaf_two name) a) []
short_leaf name a w = ap₂ (leaf_whole (leaf_two name)) (walk_one (leaf_two name) a w)
    (past (leaf_two name) (walk_from nothing_held) _ a [] (walk_one (leaf_two name) a w) (taken_first name a w) ∙ no_more (leaf_two name) (after_one (leaf_two name) a))

short : (name a : Text) → leaf_whole (leaf_two name) (after_one (leaf_two name) a) [] ≡ [] → ⊥
unfolding clap_on_literals
short name a e = cc

pub short_two : (name a : Text) → IsNoFlag a → leaf_fault (leaf_two name) (a ∷ []) ≡ [] → ⊥
short_two name a w e = short name a (sym (short_leaf name a w) ∙ e)

past_two : (name a b : Text) (more : List Text) → IsNoFlag a → IsNoFlag b
    → walk_fault (leaf_two name) [] (walk_from nothing_held) (a ∷ b ∷ more) ≡ walk_fault (leaf_two name) [] (after_two (leaf_two name) a b) more
past_two name a b more v w =
    past (leaf_two name) (walk_from nothing_held) (after_one (leaf_two name) a) a (b ∷ more) (walk_one (leaf_two name) a v) (taken_first name a v)
    ∙ past (leaf_two name) (after_one (leaf_two name) a) (after_two (leaf_two name) a b) b more (walk_second name a b w) (taken_second name a b w)

two_leaf : (name a b : Text) → IsNoFlag a → IsNoFlag b
    → leaf_fault (leaf_two name) (a ∷ b ∷ []) ≡ leaf_whole (leaf_two name) (after_two (leaf_two name) a b) []
two_leaf name a b v w = ap₂ (leaf_whole (leaf_two name)) (walk_two name a b v w)
    (past_two name a b [] v w ∙ no_more (leaf_two name) (after_two (leaf_two name) a b))

two_right : (name a b : Text) → leaf_whole (leaf_two name) (after_two (leaf_two name) a b) [] ≡ []
unfolding clap_on_literals
two_right name a b = refl

pub right_two : (name a b : Text) → IsNoFlag a → IsNoFlag b → leaf_fault (leaf_two name) (a ∷ b ∷ []) ≡ []
right_two name a b v w = two_leaf name a b v w ∙ two_right name a b

pub crowded_two : (name a b c : Text) (more : List Text) → IsNoFlag a → IsNoFlag b → IsNoFlag c → leaf_fault (leaf_two name) (a ∷ b ∷ c ∷ more) ≡ [] → ⊥
unfolding walk_fault
crowded_two name a b c more u v w e =
    let s = leaf_two name in
    let all : walk_fault s [] (walk_from nothing_held) (a ∷ b ∷ c ∷ more) ≡ [] = first_empty _ _ e in
    let rest : walk_fault s [] (after_two s a b) (c ∷ more) ≡ [] = sym (past_two name a b (c ∷ more) u v) ∙ all in
    let third : turn_fault s [] (after_two s a b) c ≡ [] = first_empty _ _ rest in
    let stray : stray_fault s ≡ [] = sym (turn s [] 3 c (after_two s a b).held w refl) ∙ third in
    cc
