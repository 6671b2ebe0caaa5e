-- The lines of parameters read back.
use Rattle.std.proofs.Common.{◌≡◌, ℕ, ◌+◌, ◌-◌, ◌^◌, ◌<◌, ◌≤◌, true, false, cond, ◌&&◌, List, [], ◌∷◌, ◌++◌, length, take, drop, map, Option, None, Some, refl, sym, ap, ◌∙◌, arith, append_assoc, length-append, lit≤}
use Rattle.std.specs.Prelude.{decimal, codes}
use Rattle.std.specs.List.{AllByRecursion}
use Rattle.std.specs.Str.{bytes_eq}
use Rattle.std.proofs.lemmas.Bool.{and_parts, and_from, cond-true, cond-false, le-leb}
use Rattle.std.proofs.lemmas.Fmt.{decimal_digit}
use Rattle.std.proofs.lemmas.List.{append-nil}
use Rattle.std.proofs.Math.Seq.{drop-append_seam}
use Rattle.occ_lex.specs.occ_base.declared.event.Dir.{Dir}
use Rattle.occ_lex.specs.occ_base.declared.event.Dir.TheVariants.{Input, Output}
use Rattle.occ_lex.specs.occ_base.declared.names.Name.{Name}
use Rattle.occ_lex.specs.occ_base.declared.width.Width.{Width}
use Rattle.occ_lex.specs.occ_base.declared.width.Width.TheVariants.{Bool as Truth, Word}
use Rattle.occ_lex.specs.occ_base.Names.{place_of, with_text, IsDistinct}
use Rattle.occ_lex.specs.occ_base.Width.{IsWidth}
use Rattle.occ_lex.proofs.from_base.Naming.{naming}
use Rattle.occ_syntax.specs.declared.scope.Kind.{Kind}
use Rattle.occ_syntax.specs.declared.scope.Kind.TheVariants.{Var, Chan}
use Rattle.occ_behaviour.specs.Texts.{mark_text}
use Rattle.occ_lex.specs.Spelling.{is_digit}
use Rattle.occ_nform_table.specs.Words.{then_read, or_else, behind, before}
use Rattle.occ_nform_table.specs.Lines.{HasWidth, HaveWidths, AreNamed, width_of, digit_width, is_param_name, named, channel_of, variable_of, behind_width, param_of, text_of, can_follow, next_param}
use Rattle.occ_nform_table.specs.Reading.{Lines, Header, either, params_in}
use Rattle.occ_nform_table.specs.Tables.{is_marked, are_params}
use Rattle.occ_nform_table.specs.Texts.{width_text, param_text, params_text}
use Rattle.occ_nform_table.proofs.WrittenWords.{lacks, lacks-append, class_lacks, behind_front, before_back, between_parts, cut_at}
use Rattle.occ_nform_table.proofs.WrittenNumerals.{decimal_lacks}
use Rattle.occ_nform_table.proofs.Lines.{IsLine, joined}
use Rattle.occ_nform_table.proofs.TextNamed.{is_param_byte, param_bytes, text_there, IsNamed}
use Rattle.occ_nform_table.proofs.TextRows.{Stops}

-- ---- widths

bits_few : (bits : ℕ) → bits ≤ 8 → bits < 10 ^ 64
bits_few bits h = let most : 9 ≤ 10 ^ 64 = lit≤ tt in omega (arith, h, most)

width_lacks : (byte : ℕ) → is_digit byte ≡ false → lacks byte (codes "BOOL") ≡ true → lacks byte (codes "WORD") ≡ true → (width : Width) → IsWidth width → lacks byte (width_text width) ≡ true
width_lacks byte out truth word Truth w = truth
width_lacks byte out truth word (Word bits) w = lacks-append byte (codes "WORD") (decimal bits) word (decimal_lacks byte out bits (bits_few bits w.1))

width_reads : (width : Width) → IsWidth width → width_of (width_text width) ≡ Some width
unfolding width_of
width_reads Truth w = refl
width_reads (Word bits) w =
    let digit : decimal bits ≡ (48 + bits) ∷ [] = decimal_digit bits (omega (arith, w.1)) in
    let fits = and_from _ _ (le-leb 49 (48 + bits) (omega (arith, w.0))) (le-leb (48 + bits) 56 (omega (arith, w.1))) in
    let back : 48 + bits - 48 ≡ bits = omega arith in
    ap (λ ds. width_of (codes "WORD" ++ ds)) digit
    ∙ ap (λ o. then_read o digit_width) (behind_front (codes "WORD") ((48 + bits) ∷ []))
    ∙ cond-true _ (Some (Word (48 + bits - 48))) None fits ∙ ap (λ b. Some (Word b)) back

behind_width_reads : (next : Width → List ℕ → Option (List ℕ × Kind)) (width : Width) (rest : List ℕ) → IsWidth width → behind_width next (width_text width ++ 32 ∷ rest) ≡ next width rest
unfolding behind_width
behind_width_reads next width rest w =
    ap (λ o. then_read o (λ parts. then_read (width_of parts.0) (λ found. next found parts.1))) (cut_at 32 (width_text width) rest (width_lacks 32 refl refl refl width w))
    ∙ ap (λ o. then_read o (λ found. next found rest)) (width_reads width w)

-- ---- a parameter

before_other : (back other text : List ℕ) → length back ≡ length other → bytes_eq other back ≡ false → before back (text ++ other) ≡ None
unfolding before
before_other back other text same differs =
    let n : length (text ++ other) - length back ≡ length text = omega (arith, length-append text other, same) in
    let rest : drop (length (text ++ other) - length back) (text ++ other) ≡ other = ap (λ k. drop k (text ++ other)) n ∙ drop-append_seam text other in
    cond-false _ (Some (take (length (text ++ other) - length back) (text ++ other))) None (ap (λ t. bytes_eq t back) rest ∙ differs)

module _ (name : List ℕ) (is : is_param_name name ≡ true) where
  named_is : (kind : Kind) → named name kind ≡ Some (name, kind)
  named_is kind = cond-true _ (Some (name, kind)) None is

  channel_reads : (width : Width) (dir : Dir) → channel_of width (name ++ mark_text dir) ≡ Some (name, Chan width (Some dir))
  unfolding channel_of
  channel_reads width Input =
      ap (λ o. or_else (then_read o (λ n. named n (Chan width (Some Input)))) (then_read (before (mark_text Output) (name ++ mark_text Input)) (λ n. named n (Chan width (Some Output))))) (before_back name (mark_text Input))
      ∙ ap (λ o. or_else o (then_read (before (mark_text Output) (name ++ mark_text Input)) (λ n. named n (Chan width (Some Output))))) (named_is (Chan width (Some Input)))
  channel_reads width Output =
      ap (λ o. or_else (then_read o (λ n. named n (Chan width (Some Input)))) (then_read (before (mark_text Output) (name ++ mark_text Output)) (λ n. named n (Chan width (Some Output))))) (before_other (mark_text Input) (mark_text Output) name refl refl)
      ∙ ap (λ o. then_read o (λ n. named n (Chan width (Some Output)))) (before_back name (mark_text Output)) ∙ named_is (Chan width (Some Output))

  no_channel : (width : Width) → behind (codes "CHAN OF ") (width_text width ++ codes " " ++ name) ≡ None
  unfolding behind
  no_channel Truth = refl
  no_channel (Word bits) = refl

  abbrev rest_of : List ℕ → Option (List ℕ × Kind)
  rest_of text = or_else (then_read (behind (codes "CHAN OF ") text) (behind_width channel_of)) (behind_width variable_of text)

  kind_reads : (kind : Kind) → is_marked kind ≡ true → HasWidth kind → rest_of (param_text name kind) ≡ Some (name, kind)
  unfolding param_text variable_of
  kind_reads (Var width) marked w =
      ap (λ o. or_else (then_read o (behind_width channel_of)) (behind_width variable_of (width_text width ++ codes " " ++ name))) (no_channel width)
      ∙ ap (behind_width variable_of) (append_assoc (width_text width) (codes " ") name) ∙ behind_width_reads variable_of width name w ∙ named_is (Var width)
  kind_reads (Chan width None) marked w = absurd cc
  kind_reads (Chan width (Some dir)) marked w =
      let behind_it = width_text width ++ codes " " ++ name ++ mark_text dir in
      let parted : behind_it ≡ width_text width ++ 32 ∷ (name ++ mark_text dir) = append_assoc (width_text width ++ codes " ") name (mark_text dir) ∙ append_assoc (width_text width) (codes " ") (name ++ mark_text dir) in
      ap (λ o. or_else (then_read o (behind_width channel_of)) (behind_width variable_of (codes "CHAN OF " ++ behind_it))) (behind_front (codes "CHAN OF ") behind_it)
      ∙ ap (λ o. or_else o (behind_width variable_of (codes "CHAN OF " ++ behind_it)))
      (ap (behind_width channel_of) parted ∙ behind_width_reads channel_of width (name ++ mark_text dir) w ∙ channel_reads width dir)

  pub param_reads : (kind : Kind) → is_marked kind ≡ true → HasWidth kind → param_of (codes "PARAM " ++ param_text name kind ++ codes "\n") ≡ Some (name, kind)
  unfolding param_of
  param_reads kind marked w = ap (λ o. then_read o rest_of) (between_parts (codes "PARAM ") (param_text name kind) (codes "\n")) ∙ kind_reads kind marked w

  name_quiet : lacks 10 name ≡ true
  name_quiet = class_lacks is_param_byte 10 refl name (param_bytes name is)

  mark_quiet : (dir : Dir) → lacks 10 (mark_text dir) ≡ true
  mark_quiet Input = refl
  mark_quiet Output = refl

  kind_quiet : (kind : Kind) → is_marked kind ≡ true → HasWidth kind → lacks 10 (param_text name kind) ≡ true
  unfolding param_text
  kind_quiet (Var width) marked w = lacks-append 10 (width_text width ++ codes " ") name (lacks-append 10 (width_text width) (codes " ") (width_lacks 10 refl refl refl width w) refl) name_quiet
  kind_quiet (Chan width None) marked w = absurd cc
  kind_quiet (Chan width (Some dir)) marked w =
      lacks-append 10 (codes "CHAN OF " ++ width_text width ++ codes " " ++ name) (mark_text dir)
      (lacks-append 10 (codes "CHAN OF " ++ width_text width ++ codes " ") name
      (lacks-append 10 (codes "CHAN OF " ++ width_text width) (codes " ") (lacks-append 10 (codes "CHAN OF ") (width_text width) refl (width_lacks 10 refl refl refl width w)) refl) name_quiet)
      (mark_quiet dir)

-- ---- the lines of parameters

abbrev pub param_line : List (List ℕ) → Name × Kind → List ℕ
param_line names p = codes "PARAM " ++ param_text (text_of names p.0) p.1 ++ codes "\n"

pub params_joined : (names : List (List ℕ)) (params : List (Name × Kind)) → params_text names params ≡ joined (map (param_line names) params)
unfolding params_text
params_joined names [] = refl
params_joined names (p ∷ params) = ap (λ t. param_line names p ++ t) (params_joined names params)

pub params_are_lines : (names : List (List ℕ)) (params : List (Name × Kind)) → AllByRecursion (IsNamed names) params → HaveWidths params → AllByRecursion IsLine (map (param_line names) params)
params_are_lines names [] named wide = tt
params_are_lines names (p ∷ params) named wide = (
  record {
    body = codes "PARAM " ++ param_text (text_of names p.0) p.1;
    whole = refl;
    quiet = lacks-append 10 (codes "PARAM ") (param_text (text_of names p.0) p.1) refl (kind_quiet (text_of names p.0) named.0.0 p.1 named.0.1 wide.0);
  },
  params_are_lines names params named.1 wide.1,
)

abbrev pub other_header : List (List ℕ) → List (Name × Kind) → Lines → Header
other_header names params rest = record { names = names; params = params; rest = rest }

pub params_read : (names : List (List ℕ)) → IsDistinct names → (front params : List (Name × Kind)) (rest : Lines) → are_params names front params ≡ true → AreNamed names params → HaveWidths params → Stops param_of rest
    → params_in names front (map (param_line names) params ++ rest) ≡ other_header names (front ++ params) rest
unfolding params_in are_params next_param
params_read names distinct front [] [] are there wide stops = ap (λ ps. other_header names ps []) (sym (append-nil front))
params_read names distinct front [] (line ∷ lines) are there wide stops =
    ap (λ o. either (then_read o follows) (other_header names front (line ∷ lines)) more) stops ∙ ap (λ ps. other_header names ps (line ∷ lines)) (sym (append-nil front))
  where
    follows : List ℕ × Kind → Option (List ℕ × Kind)
    follows p = cond (can_follow names front p) (Some p) None

    more : List ℕ × Kind → Header
    more p = params_in (with_text names p.0) (front ++ (record { 0 = place_of names p.0 }, p.1) ∷ []) lines
params_read names distinct front (p ∷ params) rest are there wide stops =
    let text = text_of names p.0 in
    let lines = map (param_line names) params ++ rest in
    let parts = and_parts (is_param_name text && is_marked p.1 && can_follow names front (text, p.1)) (are_params names (front ++ p ∷ []) params) are in
    let two = and_parts (is_param_name text && is_marked p.1) (can_follow names front (text, p.1)) parts.0 in
    let one = and_parts (is_param_name text) (is_marked p.1) two.0 in
    let follows : List ℕ × Kind → Option (List ℕ × Kind) = λ q. cond (can_follow names front q) (Some q) None in
    let more : List ℕ × Kind → Header = λ q. params_in (with_text names q.0) (front ++ (record { 0 = place_of names q.0 }, q.1) ∷ []) lines in
    let stop : Header = other_header names front (param_line names p ∷ lines) in
    let is = naming names text in
    let same : with_text names text ≡ names = is.same p.0.0 (text_there names p.0 there.0) in
    let place : place_of names text ≡ p.0.0 = is.again p.0.0 distinct (text_there names p.0 there.0) in
    ap (λ o. either (then_read o follows) stop more) (param_reads text one.0 p.1 one.1 wide.0)
    ∙ ap (λ o. either o stop more) (cond-true _ (Some (text, p.1)) None two.1)
    ∙ (λ i. params_in (same i) (front ++ (record { 0 = place i }, p.1) ∷ []) lines)
    ∙ params_read names distinct (front ++ p ∷ []) params rest parts.1 there.1 wide.1 stops
    ∙ ap (λ ps. other_header names ps rest) (append_assoc front (p ∷ []) params)
