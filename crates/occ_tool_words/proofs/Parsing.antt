-- What a parse makes of words that aren't empty and don't begin with a hyphen.
use Rattle.std.proofs.Common.{◌≡◌, ◌∙◌, ◌&&◌, ◌||◌, ◌++◌, Bool, cond, true, false, refl, sym, ap, ap₂, subst, List, [], ◌∷◌, map, drop, Option, Some, None, option_map, is_some, true≢false, codes, inl, inr, append-nil, append_assoc}
use Rattle.std.specs.Prelude.{option_and_then, find}
use Rattle.std.specs.List.{list_all, fold}
use Rattle.std.specs.Str.{bytes_eq}
use Rattle.std.proofs.lemmas.Bool.{cases_Bool}
use Rattle.std.proofs.lemmas.Slice.Eq.{bytes_eq-Decides}
use Rattle.clap.specs.Walk.{Names, Row, Rule, Text, Walk, walk, walk_from, walked, nothing_held, answers_to, settled, finished}
use Rattle.clap.specs.Kinds.{Kinds, or_else}
use Rattle.clap.specs.Faults.{turn_fault, walk_fault, entered_fault, fault_of, settle_fault, defaults_fault, check_fault, stray_fault}
use Rattle.clap.specs.Simple.{App, Shape, built, names_of, rows_at, subcommand_of, entered}
use Rattle.clap.proofs.OnLiterals.{clap_on_literals}
use Rattle.occ_gen.specs.occ_base.declared.memory.Memory.{Memory}
use Rattle.occ_tool_words.specs.declared.words.Command.{Command}
use Rattle.occ_tool_words.specs.Words.{Job, same, normalise, normal, belongs, refine, deadlock, replay, run, is_plain, job, job_of, with_one, with_two}
use Rattle.occ_tool_words.specs.CommandLine.{line, job_found, job_named}
use Rattle.std.proofs.Common.{String, Global, string_bytes, Result, Ok, Err, IfOk}
use Rattle.std.specs.Prelude.{Box}
use Rattle.std.specs.Box.{box_value}
use Rattle.std.proofs.lemmas.List.Folds.{list_all-map}
use Rattle.clap.specs.Kinds.{IsAmong, HasKind}
use Rattle.clap.specs.Faults.{is_simple_and_free}
use Rattle.clap.specs.Simple.{is_simple, HasMatchesOf, subcommand_rows, subcommand_rows_of}
use Rattle.clap.specs.Walk.{rows_of}
use Rattle.clap.specs.Values.{kind_of}
use Rattle.clap.specs.Matches.{found_of, first_value}
use Rattle.clap.proofs.WalkLemmas.{first_value-rows}
use Rattle.clap.specs.declared.error.Error.{Error}
use Rattle.clap.specs.declared.error.kind.ErrorKind.{ErrorKind}
use Rattle.clap.specs.declared.error.kind.ErrorKind.TheVariants.{OutOfMemory}
use Rattle.clap.specs.declared.parser.matches.ArgMatches.{ArgMatches}
use Rattle.clap.specs.declared.parser.matches.ArgMatches.TheViews.{out-SubCommand}
use Rattle.clap.specs.declared.parser.matches.SubCommand.{SubCommand}
use Rattle.clap.specs.declared.parser.matches.Found.{Found}
use Rattle.occ_tool_words.proofs.Leaves.{IsNoFlag, no_flag, between, turn, first_empty, leaf_one, leaf_two, leaf_fault, walk_one, walk_two, missing_one, missing_two, short_two, right_one, right_two, crowded_one, crowded_two}

-- ---- the commands, by how many words each takes

data One : Type 0 where
  normalises : One
  checks : One
  sticks : One
  replays : One
  derives : One

data Two : Type 0 where
  compares : Two
  judges : Two
  stresses : Two
  refines : Two
  steps : Two
  transforms : Two
  expands : Two

abbrev one_named : One → Text
one_named normalises = codes "normalise"
one_named checks = codes "normal"
one_named sticks = codes "deadlock"
one_named replays = codes "replay"
one_named derives = codes "derive"

abbrev two_named : Two → Text
two_named compares = codes "same"
two_named judges = codes "belongs"
two_named stresses = codes "stress"
two_named refines = codes "refine"
two_named steps = codes "run"
two_named transforms = codes "transform"
two_named expands = codes "expand"

-- a word that names no command
record IsOther (word : Text) : Type 0 where
  not_same : bytes_eq (codes "same") word ≡ false
  not_normalise : bytes_eq (codes "normalise") word ≡ false
  not_normal : bytes_eq (codes "normal") word ≡ false
  not_belongs : bytes_eq (codes "belongs") word ≡ false
  not_stress : bytes_eq (codes "stress") word ≡ false
  not_refine : bytes_eq (codes "refine") word ≡ false
  not_deadlock : bytes_eq (codes "deadlock") word ≡ false
  not_replay : bytes_eq (codes "replay") word ≡ false
  not_run : bytes_eq (codes "run") word ≡ false
  not_transform : bytes_eq (codes "transform") word ≡ false
  not_expand : bytes_eq (codes "expand") word ≡ false
  not_derive : bytes_eq (codes "derive") word ≡ false

data Naming (word : Text) : Type 0 where
  names_one : (v : One) → one_named v ≡ word → Naming word
  names_two : (v : Two) → two_named v ≡ word → Naming word
  names_none : IsOther word → Naming word

equal : (name word : Text) → bytes_eq name word ≡ true → name ≡ word
equal name word e = (bytes_eq-Decides name word).0 e

naming : (word : Text) → Naming word
naming word =
    elim (cases_Bool (bytes_eq (codes "same") word)) [
      | inl e ↦ names_two compares (equal (codes "same") word e)
      | inr a ↦ elim (cases_Bool (bytes_eq (codes "normalise") word)) [
        | inl e ↦ names_one normalises (equal (codes "normalise") word e)
        | inr b ↦ elim (cases_Bool (bytes_eq (codes "normal") word)) [
          | inl e ↦ names_one checks (equal (codes "normal") word e)
          | inr c ↦ elim (cases_Bool (bytes_eq (codes "belongs") word)) [
            | inl e ↦ names_two judges (equal (codes "belongs") word e)
            | inr d ↦ elim (cases_Bool (bytes_eq (codes "stress") word)) [
              | inl e ↦ names_two stresses (equal (codes "stress") word e)
              | inr f ↦ elim (cases_Bool (bytes_eq (codes "refine") word)) [
                | inl e ↦ names_two refines (equal (codes "refine") word e)
                | inr g ↦ elim (cases_Bool (bytes_eq (codes "deadlock") word)) [
                  | inl e ↦ names_one sticks (equal (codes "deadlock") word e)
                  | inr h ↦ elim (cases_Bool (bytes_eq (codes "replay") word)) [
                    | inl e ↦ names_one replays (equal (codes "replay") word e)
                    | inr i ↦ elim (cases_Bool (bytes_eq (codes "run") word)) [
                      | inl e ↦ names_two steps (equal (codes "run") word e)
                      | inr j ↦ elim (cases_Bool (bytes_eq (codes "transform") word)) [
                        | inl e ↦ names_two transforms (equal (codes "transform") word e)
                        | inr k ↦ elim (cases_Bool (bytes_eq (codes "expand") word)) [
                          | inl e ↦ names_two expands (equal (codes "expand") word e)
                          | inr l ↦ elim (cases_Bool (bytes_eq (codes "derive") word)) [
                            | inl e ↦ names_one derives (equal (codes "derive") word e)
                            | inr m ↦ names_none (record {
                              not_same = a;
                              not_normalise = b;
                              not_normal = c;
                              not_belongs = d;
                              not_stress = f;
                              not_refine = g;
                              not_deadlock = h;
                              not_replay = i;
                              not_run = j;
                              not_transform = k;
                              not_expand = l;
                              not_derive = m;
                            })
                          ]
                        ]
                      ]
                    ]
                  ]
                ]
              ]
            ]
          ]
        ]
      ]
    ]

-- ---- the whole command line

abbrev top : Shape
top = (built line).top

abbrev names : Names
names = names_of (built line)

no_word : (name : Text) → fault_of line (name ∷ []) ≡ [] → ⊥
unfolding clap_on_literals
no_word name e = cc

no_name : fault_of line [] ≡ [] → ⊥
unfolding clap_on_literals
no_name e = cc

past_name : (name word : Text) (more : Names) → bytes_eq name word ≡ false → find (answers_to word) ((name, []) ∷ more) ≡ find (answers_to word) more
past_name name word more other = ap (λ b. cond (b || false) (Some (name, [])) (find (answers_to word) more)) other

other_name : (word : Text) → IsOther word → find (answers_to word) names ≡ None
other_name word other =
    past_name (codes "same") word (drop 1 names) other.not_same ∙ past_name (codes "normalise") word (drop 2 names) other.not_normalise
    ∙ past_name (codes "normal") word (drop 3 names) other.not_normal ∙ past_name (codes "belongs") word (drop 4 names) other.not_belongs
    ∙ past_name (codes "stress") word (drop 5 names) other.not_stress ∙ past_name (codes "refine") word (drop 6 names) other.not_refine
    ∙ past_name (codes "deadlock") word (drop 7 names) other.not_deadlock ∙ past_name (codes "replay") word (drop 8 names) other.not_replay
    ∙ past_name (codes "run") word (drop 9 names) other.not_run ∙ past_name (codes "transform") word (drop 10 names) other.not_transform
    ∙ past_name (codes "expand") word (drop 11 names) other.not_expand ∙ past_name (codes "derive") word [] other.not_derive

stray : (name word : Text) (more : List Text) → is_plain word ≡ true → IsOther word → fault_of line (name ∷ word ∷ more) ≡ [] → ⊥
unfolding walk_fault
stray name word more plain other e =
    let one : walk_fault top names (walk_from nothing_held) (word ∷ more) ≡ [] = first_empty _ _ e in
    let two : turn_fault top names (between nothing_held 1) word ≡ [] = first_empty _ _ one in
    let here = turn top names 1 word nothing_held (no_flag word plain) (other_name word other) in
    let three : stray_fault top ≡ [] = sym here ∙ two in
    cc

-- after the command's name all words are its own
abbrev entering : Text → List Text → Walk
entering name words = record (between nothing_held 1) { stopped = Some (name, words) }

kept : (c : List Rule) (names : Names) (name : Text) (words more : List Text) → fold (walked c names) (entering name words) more ≡ entering name (words ++ more)
unfolding walked
kept c ns name words [] = ap (entering name) (sym (append-nil words))
kept c ns name words (word ∷ more) = kept c ns name (words ++ word ∷ []) more ∙ ap (entering name) (append_assoc words (word ∷ []) more)

no_more_faults : (s : Shape) (names : Names) (name : Text) (words more : List Text) → walk_fault s names (entering name words) more ≡ []
unfolding walk_fault walked
no_more_faults s ns name words [] = refl
no_more_faults s ns name words (word ∷ more) = no_more_faults s ns name (words ++ word ∷ []) more

abbrev whole : Walk → Kinds → Kinds
whole w k = or_else k (or_else (entered_fault (built line) w.stopped) (or_else (settle_fault top.rules top.args_override_self w.held)
    (or_else (defaults_fault (settled top.rules w.held).rows top.rules) (check_fault top (finished top.rules w.held) (is_some (entered (built line) w.stopped))))))

-- where the command of a name is entered, and what fails there
record IsEntered (name : Text) (leaf : Shape) : Type 0 where
  walks : (more : List Text) → walk top.rules names nothing_held (name ∷ more) ≡ entering name more
  passes : (more : List Text) → walk_fault top names (walk_from nothing_held) (name ∷ more) ≡ []
  fails : (more : List Text) → whole (entering name more) [] ≡ or_else (leaf_fault leaf more) []
  found : (more : List Text) → entered (built line) (Some (name, more)) ≡ Some (rows_at leaf more)

enters_one : (v : One) → IsEntered (one_named v) (leaf_one (one_named v))
unfolding walked walk_fault defaults_fault
enters_one normalises = record {
  walks = λ more. kept top.rules names (codes "normalise") [] more;
  passes = λ more. no_more_faults top names (codes "normalise") [] more;
  fails = λ more. refl;
  found = λ more. refl;
}
enters_one checks = record {
  walks = λ more. kept top.rules names (codes "normal") [] more;
  passes = λ more. no_more_faults top names (codes "normal") [] more;
  fails = λ more. refl;
  found = λ more. refl;
}
enters_one sticks = record {
  walks = λ more. kept top.rules names (codes "deadlock") [] more;
  passes = λ more. no_more_faults top names (codes "deadlock") [] more;
  fails = λ more. refl;
  found = λ more. refl;
}
enters_one replays = record {
  walks = λ more. kept top.rules names (codes "replay") [] more;
  passes = λ more. no_more_faults top names (codes "replay") [] more;
  fails = λ more. refl;
  found = λ more. refl;
}
enters_one derives = record {
  walks = λ more. kept top.rules names (codes "derive") [] more;
  passes = λ more. no_more_faults top names (codes "derive") [] more;
  fails = λ more. refl;
  found = λ more. refl;
}

enters_two : (v : Two) → IsEntered (two_named v) (leaf_two (two_named v))
unfolding walked walk_fault defaults_fault
enters_two compares = record {
  walks = λ more. kept top.rules names (codes "same") [] more;
  passes = λ more. no_more_faults top names (codes "same") [] more;
  fails = λ more. refl;
  found = λ more. refl;
}
enters_two judges = record {
  walks = λ more. kept top.rules names (codes "belongs") [] more;
  passes = λ more. no_more_faults top names (codes "belongs") [] more;
  fails = λ more. refl;
  found = λ more. refl;
}
enters_two stresses = record {
  walks = λ more. kept top.rules names (codes "stress") [] more;
  passes = λ more. no_more_faults top names (codes "stress") [] more;
  fails = λ more. refl;
  found = λ more. refl;
}
enters_two refines = record {
  walks = λ more. kept top.rules names (codes "refine") [] more;
  passes = λ more. no_more_faults top names (codes "refine") [] more;
  fails = λ more. refl;
  found = λ more. refl;
}
enters_two steps = record {
  walks = λ more. kept top.rules names (codes "run") [] more;
  passes = λ more. no_more_faults top names (codes "run") [] more;
  fails = λ more. refl;
  found = λ more. refl;
}
enters_two transforms = record {
  walks = λ more. kept top.rules names (codes "transform") [] more;
  passes = λ more. no_more_faults top names (codes "transform") [] more;
  fails = λ more. refl;
  found = λ more. refl;
}
enters_two expands = record {
  walks = λ more. kept top.rules names (codes "expand") [] more;
  passes = λ more. no_more_faults top names (codes "expand") [] more;
  fails = λ more. refl;
  found = λ more. refl;
}

below : (program name : Text) (leaf : Shape) (more : List Text) → IsEntered name leaf → fault_of line (program ∷ name ∷ more) ≡ or_else (leaf_fault leaf more) []
below program name leaf more in_it = ap₂ whole (in_it.walks more) (in_it.passes more) ∙ in_it.fails more

below_empty : (program name : Text) (leaf : Shape) (more : List Text) → IsEntered name leaf → fault_of line (program ∷ name ∷ more) ≡ [] → leaf_fault leaf more ≡ []
below_empty program name leaf more in_it e = first_empty _ _ (sym (below program name leaf more in_it) ∙ e)

entry : (program name : Text) (leaf : Shape) (more : List Text) → IsEntered name leaf
    → option_and_then job_found (subcommand_of line (program ∷ name ∷ more)) ≡ job_found (rows_at leaf more)
entry program name leaf more in_it =
    ap (λ w. option_and_then job_found (entered (built line) w.stopped)) (in_it.walks more) ∙ ap (option_and_then job_found) (in_it.found more)

found_one : (name a : Text) → IsNoFlag a → job_found (rows_at (leaf_one name) (a ∷ [])) ≡ with_one name a
found_one name a w = ap (λ x. job_found (name, finished (leaf_one name).rules x.held)) (walk_one (leaf_one name) a w)

found_two : (name a b : Text) → IsNoFlag a → IsNoFlag b → job_found (rows_at (leaf_two name) (a ∷ b ∷ [])) ≡ with_two name a b
found_two name a b v w = ap (λ x. job_found (name, finished (leaf_two name).rules x.held)) (walk_two name a b v w)

-- ---- all command lines

both : (a b : Bool) → (a && b) ≡ true → (a ≡ true) × (b ≡ true)
both true b e = (refl, e)
both false b e = absurd (true≢false (sym e))

none_either_way : (b : Bool) (o : Option Job) → o ≡ None → cond b o None ≡ None
none_either_way true o e = e
none_either_way false o e = refl

decided_one : (v : One) (name : Text) (rest : List Text) → list_all is_plain rest ≡ true → fault_of line (name ∷ one_named v ∷ rest) ≡ []
    → option_and_then job_found (subcommand_of line (name ∷ one_named v ∷ rest)) ≡ job_of (name ∷ one_named v ∷ rest)
decided_one v name [] plain e = absurd (missing_one (one_named v) (below_empty name _ _ [] (enters_one v) e))
decided_one v name (a ∷ []) plain e =
    let pa = (both _ _ plain).0 in
    entry name _ _ (a ∷ []) (enters_one v) ∙ found_one (one_named v) a (no_flag a pa) ∙ sym (ap (λ p. cond p (with_one (one_named v) a) None) pa)
decided_one v name (a ∷ b ∷ more) plain e =
    let pa = both _ _ plain in
    let pb = both _ _ pa.1 in
    absurd (crowded_one (one_named v) a b more (no_flag a pa.0) (no_flag b pb.0) (below_empty name _ _ (a ∷ b ∷ more) (enters_one v) e))

decided_two : (v : Two) (name : Text) (rest : List Text) → list_all is_plain rest ≡ true → fault_of line (name ∷ two_named v ∷ rest) ≡ []
    → option_and_then job_found (subcommand_of line (name ∷ two_named v ∷ rest)) ≡ job_of (name ∷ two_named v ∷ rest)
decided_two v name [] plain e = absurd (missing_two (two_named v) (below_empty name _ _ [] (enters_two v) e))
decided_two v name (a ∷ []) plain e =
    absurd (short_two (two_named v) a (no_flag a (both _ _ plain).0) (below_empty name _ _ (a ∷ []) (enters_two v) e))
decided_two v name (a ∷ b ∷ []) plain e =
    let pa = both _ _ plain in
    let pb = both _ _ pa.1 in
    entry name _ _ (a ∷ b ∷ []) (enters_two v) ∙ found_two (two_named v) a b (no_flag a pa.0) (no_flag b pb.0)
    ∙ sym (ap₂ (λ p q. cond (p && q) (with_two (two_named v) a b) None) pa.0 pb.0)
decided_two v name (a ∷ b ∷ c ∷ more) plain e =
    let pa = both _ _ plain in
    let pb = both _ _ pa.1 in
    let pc = both _ _ pb.1 in
    absurd (crowded_two (two_named v) a b c more (no_flag a pa.0) (no_flag b pb.0) (no_flag c pc.0)
    (below_empty name _ _ (a ∷ b ∷ c ∷ more) (enters_two v) e))

decided_word : (name word : Text) (rest : List Text) → Naming word → is_plain word ≡ true → list_all is_plain rest ≡ true
    → fault_of line (name ∷ word ∷ rest) ≡ []
    → option_and_then job_found (subcommand_of line (name ∷ word ∷ rest)) ≡ job_of (name ∷ word ∷ rest)
decided_word name word rest (names_one v is) word_plain plain e =
    let P : Text → Type 0 = λ w. fault_of line (name ∷ w ∷ rest) ≡ [] → option_and_then job_found (subcommand_of line (name ∷ w ∷ rest)) ≡ job_of (name ∷ w ∷ rest) in
    subst P is (decided_one v name rest plain) e
decided_word name word rest (names_two v is) word_plain plain e =
    let P : Text → Type 0 = λ w. fault_of line (name ∷ w ∷ rest) ≡ [] → option_and_then job_found (subcommand_of line (name ∷ w ∷ rest)) ≡ job_of (name ∷ w ∷ rest) in
    subst P is (decided_two v name rest plain) e
decided_word name word rest (names_none other) word_plain plain e = absurd (stray name word rest word_plain other e)

decided : (words : List Text) → list_all is_plain (drop 1 words) ≡ true → fault_of line words ≡ []
    → option_and_then job_found (subcommand_of line words) ≡ job_of words
decided [] plain e = absurd (no_name e)
decided (name ∷ []) plain e = absurd (no_word name e)
decided (name ∷ word ∷ rest) plain e =
    let parts = both _ _ plain in
    decided_word name word rest (naming word) parts.0 parts.1 e

-- ---- words that don't fit

turned : (xs ys : Text) → bytes_eq xs ys ≡ false → bytes_eq ys xs ≡ false
turned xs ys e = elim (cases_Bool (bytes_eq ys xs)) [
  | inl t ↦ absurd (true≢false (sym ((bytes_eq-Decides xs ys).1 (sym (equal ys xs t))) ∙ e))
  | inr f ↦ f
]

-- a word that isn't another one goes on to what follows
passed : (text word : Text) (here behind : Option Job) → bytes_eq text word ≡ false → behind ≡ None → cond (bytes_eq word text) here behind ≡ None
passed text word here behind other e = ap (λ b. cond b here behind) (turned text word other) ∙ e

other_one : (word a : Text) → IsOther word → with_one word a ≡ None
other_one word a other =
    passed (codes "normalise") word _ _ other.not_normalise
    (passed (codes "normal") word _ _ other.not_normal
    (passed (codes "deadlock") word _ _ other.not_deadlock
    (passed (codes "replay") word _ _ other.not_replay
    (passed (codes "derive") word _ _ other.not_derive refl))))

other_two : (word a b : Text) → IsOther word → with_two word a b ≡ None
other_two word a b other =
    passed (codes "same") word _ _ other.not_same
    (passed (codes "belongs") word _ _ other.not_belongs
    (passed (codes "stress") word _ _ other.not_stress
    (passed (codes "refine") word _ _ other.not_refine
    (passed (codes "run") word _ _ other.not_run
    (passed (codes "transform") word _ _ other.not_transform
    (passed (codes "expand") word _ _ other.not_expand refl))))))

not_with_two : (v : One) (a b : Text) → with_two (one_named v) a b ≡ None
not_with_two normalises a b = refl
not_with_two checks a b = refl
not_with_two sticks a b = refl
not_with_two replays a b = refl
not_with_two derives a b = refl

not_with_one : (v : Two) (a : Text) → with_one (two_named v) a ≡ None
not_with_one compares a = refl
not_with_one judges a = refl
not_with_one stresses a = refl
not_with_one refines a = refl
not_with_one steps a = refl
not_with_one transforms a = refl
not_with_one expands a = refl

not_fitting : (name word : Text) (rest : List Text) → IsOther word → job_of (name ∷ word ∷ rest) ≡ None
not_fitting name word [] other = refl
not_fitting name word (a ∷ []) other = none_either_way (is_plain a) _ (other_one word a other)
not_fitting name word (a ∷ b ∷ []) other = none_either_way (is_plain a && is_plain b) _ (other_two word a b other)
not_fitting name word (a ∷ b ∷ c ∷ more) other = refl

-- words at which a parse fails by a kind of its own
failed_one : (k : ErrorKind) (v : One) (name : Text) (rest : List Text) → list_all is_plain rest ≡ true → IsAmong k (fault_of line (name ∷ one_named v ∷ rest))
    → job_of (name ∷ one_named v ∷ rest) ≡ None
failed_one k v name [] plain among = refl
failed_one k v name (a ∷ []) plain among =
    let P : Kinds → Type 0 = λ kinds. IsAmong k kinds in
    absurd (subst P (below name _ _ (a ∷ []) (enters_one v) ∙ ap (λ k. or_else k []) (right_one (one_named v) a (no_flag a (both _ _ plain).0))) among)
failed_one k v name (a ∷ b ∷ []) plain among = none_either_way (is_plain a && is_plain b) _ (not_with_two v a b)
failed_one k v name (a ∷ b ∷ c ∷ more) plain among = refl

failed_two : (k : ErrorKind) (v : Two) (name : Text) (rest : List Text) → list_all is_plain rest ≡ true → IsAmong k (fault_of line (name ∷ two_named v ∷ rest))
    → job_of (name ∷ two_named v ∷ rest) ≡ None
failed_two k v name [] plain among = refl
failed_two k v name (a ∷ []) plain among = none_either_way (is_plain a) _ (not_with_one v a)
failed_two k v name (a ∷ b ∷ []) plain among =
    let pa = both _ _ plain in
    let pb = both _ _ pa.1 in
    let P : Kinds → Type 0 = λ kinds. IsAmong k kinds in
    absurd (subst P (below name _ _ (a ∷ b ∷ []) (enters_two v) ∙ ap (λ k. or_else k []) (right_two (two_named v) a b (no_flag a pa.0) (no_flag b pb.0))) among)
failed_two k v name (a ∷ b ∷ c ∷ more) plain among = refl

failed_word : (k : ErrorKind) (name word : Text) (rest : List Text) → Naming word → list_all is_plain rest ≡ true
    → IsAmong k (fault_of line (name ∷ word ∷ rest)) → job_of (name ∷ word ∷ rest) ≡ None
failed_word k name word rest (names_one v is) plain among =
    let P : Text → Type 0 = λ w. IsAmong k (fault_of line (name ∷ w ∷ rest)) → job_of (name ∷ w ∷ rest) ≡ None in
    subst P is (failed_one k v name rest plain) among
failed_word k name word rest (names_two v is) plain among =
    let P : Text → Type 0 = λ w. IsAmong k (fault_of line (name ∷ w ∷ rest)) → job_of (name ∷ w ∷ rest) ≡ None in
    subst P is (failed_two k v name rest plain) among
failed_word k name word rest (names_none other) plain among = not_fitting name word rest other

failed : (k : ErrorKind) (words : List Text) → list_all is_plain (drop 1 words) ≡ true → IsAmong k (fault_of line words) → job_of words ≡ None
failed k [] plain among = refl
failed k (name ∷ []) plain among = refl
failed k (name ∷ word ∷ rest) plain among = failed_word k name word rest (naming word) (both _ _ plain).1 among

one_is_plain : (v : One) → is_plain (one_named v) ≡ true
one_is_plain normalises = refl
one_is_plain checks = refl
one_is_plain sticks = refl
one_is_plain replays = refl
one_is_plain derives = refl

two_is_plain : (v : Two) → is_plain (two_named v) ≡ true
two_is_plain compares = refl
two_is_plain judges = refl
two_is_plain stresses = refl
two_is_plain refines = refl
two_is_plain steps = refl
two_is_plain transforms = refl
two_is_plain expands = refl

not_plain_rest : (name word : Text) (rest : List Text) → is_plain word ≡ true → list_all is_plain (word ∷ rest) ≡ false → job_of (name ∷ word ∷ rest) ≡ None
not_plain_rest name word [] plain e = refl
not_plain_rest name word (a ∷ []) plain e =
    let last : (is_plain a && true) ≡ false = ap (λ p. p && (is_plain a && true)) (sym plain) ∙ e in
    no_one (is_plain a) (with_one word a) last
  where
    no_one : (p : Bool) (o : Option Job) → (p && true) ≡ false → cond p o None ≡ None
    no_one true o e = absurd (true≢false e)
    no_one false o e = refl
not_plain_rest name word (a ∷ b ∷ []) plain e =
    let last : (is_plain a && (is_plain b && true)) ≡ false = ap (λ p. p && (is_plain a && (is_plain b && true))) (sym plain) ∙ e in
    no_two (is_plain a) (is_plain b) (with_two word a b) last
  where
    no_two : (p q : Bool) (o : Option Job) → (p && (q && true)) ≡ false → cond (p && q) o None ≡ None
    no_two true true o e = absurd (true≢false e)
    no_two true false o e = refl
    no_two false q o e = refl
not_plain_rest name word (a ∷ b ∷ c ∷ more) plain e = refl

not_plain_word : (name word : Text) (rest : List Text) → Naming word → list_all is_plain (word ∷ rest) ≡ false → job_of (name ∷ word ∷ rest) ≡ None
not_plain_word name word rest (names_one v is) e = not_plain_rest name word rest (ap is_plain (sym is) ∙ one_is_plain v) e
not_plain_word name word rest (names_two v is) e = not_plain_rest name word rest (ap is_plain (sym is) ∙ two_is_plain v) e
not_plain_word name word rest (names_none other) e = not_fitting name word rest other

not_plain : (words : List Text) → list_all is_plain (drop 1 words) ≡ false → job_of words ≡ None
not_plain [] e = refl
not_plain (name ∷ []) e = refl
not_plain (name ∷ word ∷ rest) e = not_plain_word name word rest (naming word) e

-- ---- for the function that parses

plain_words : (words : List (String Global)) → list_all is_plain (drop 1 (map string_bytes words)) ≡ list_all (λ w. is_plain (string_bytes w)) (drop 1 words)
plain_words [] = refl
plain_words (w ∷ ws) = list_all-map is_plain string_bytes ws

pub unfit : (words : List (String Global)) → list_all (λ w. is_plain (string_bytes w)) (drop 1 words) ≡ false → None ≡ job_of (map string_bytes words)
unfit words e = sym (not_plain (map string_bytes words) (plain_words words ∙ e))

line_simple : is_simple line ≡ true
unfolding clap_on_literals
line_simple = refl

line_free : is_simple_and_free line ≡ true
unfolding clap_on_literals
line_free = refl

-- a command that was found is what the words ask for
pub as_asked : (r : Result Command Memory) (x y : Option Job) → x ≡ y → IfOk r (λ command. job command ≡ x) → IfOk r (λ command. job command ≡ y)
as_asked (Ok command) x y e h = h ∙ e
as_asked (Err m) x y e h = tt

pub accepted : (a : App) (words : List (String Global)) (m : ArgMatches) → a ≡ line
    → list_all (λ w. is_plain (string_bytes w)) (drop 1 words) ≡ true
    → HasMatchesOf a (map string_bytes words) m
    → (is_simple_and_free a ≡ true → fault_of a (map string_bytes words) ≡ [])
    → option_and_then job_found (subcommand_rows_of m) ≡ job_of (map string_bytes words)
accepted a words m is plain matches fault =
    let texts = map string_bytes words in
    let simple : is_simple a ≡ true = ap is_simple is ∙ line_simple in
    let free : is_simple_and_free a ≡ true = ap is_simple_and_free is ∙ line_free in
    let none : fault_of line texts ≡ [] = ap (λ b. fault_of b texts) (sym is) ∙ fault free in
    ap (λ o. option_and_then job_found o) ((matches simple).1 ∙ ap (λ b. subcommand_of b texts) is)
    ∙ decided texts (plain_words words ∙ plain) none

pub refused : (a : App) (words : List (String Global)) (e : Error) → a ≡ line
    → list_all (λ w. is_plain (string_bytes w)) (drop 1 words) ≡ true
    → (is_simple_and_free a ≡ true → HasKind (fault_of a (map string_bytes words)) e)
    → (kind_of e ≡ OutOfMemory → ⊥) → None ≡ job_of (map string_bytes words)
refused a words e is plain fault kind =
    let texts = map string_bytes words in
    let free : is_simple_and_free a ≡ true = ap is_simple_and_free is ∙ line_free in
    let P : App → Type 0 = λ b. HasKind (fault_of b texts) e in
    elim (subst P is (fault free)) [
      | inl memory ↦ absurd (kind memory)
      | inr among ↦ sym (failed (kind_of e) texts (plain_words words ∙ plain) among)
    ]

-- ---- for the function that reads the matches

module _ {Z : Type 0} where
  entry_is : (sub : Option (Box SubCommand Z)) (name : Text) (rows : List Row) → Some name ≡ option_map (λ b. (out-SubCommand (box_value b)).name.now) sub
      → Some rows ≡ option_map (λ p. p.1) (subcommand_rows sub) → subcommand_rows sub ≡ Some (name, rows)
  entry_is None name rows e f = cc
  entry_is (Some b) name rows e f =
      let n : name ≡ (out-SubCommand (box_value b)).name.now = cc in
      let r : rows ≡ rows_of (found_of (out-SubCommand (box_value b)).matches) = cc in
      ap₂ (λ (x : Text) (y : List Row). Some (x, y)) (sym n) (sym r)

  pub found_named : (sub : Option (Box SubCommand Z)) (name : Text) (f : Found) (first second : Option Text)
      → Some name ≡ option_map (λ b. (out-SubCommand (box_value b)).name.now) sub
      → Some (rows_of f) ≡ option_map (λ p. p.1) (subcommand_rows sub)
      → first ≡ first_value f (codes "first") → second ≡ first_value f (codes "second")
      → job_named name first second ≡ option_and_then job_found (subcommand_rows sub)
  found_named sub name f first second is rows a b =
      ap₂ (job_named name) (a ∙ first_value-rows f (codes "first")) (b ∙ first_value-rows f (codes "second"))
      ∙ sym (ap (λ o. option_and_then job_found o) (entry_is sub name (rows_of f) is rows))
