-- What a PARAM line is read as determines the line.
use Rattle.std.proofs.Common.{◌≡◌, ℕ, ◌+◌, ◌-◌, ◌≤◌, true, false, leb, ◌&&◌, List, [], ◌∷◌, ◌++◌, Option, Some, refl, sym, ap, subst, ◌∙◌, arith, append_assoc, codes, ⊎_elim}
use Rattle.std.specs.Str.{bytes_eq}
use Rattle.std.proofs.lemmas.Bool.{and_parts, leb-true, cases_Bool, cond-true, cond-false}
use Rattle.std.proofs.lemmas.Fmt.{decimal_digit}
use Rattle.std.proofs.lemmas.Option.{none-some, same_Some, cond_some}
use Rattle.occ_lex.specs.occ_base.declared.event.Dir.{Dir}
use Rattle.occ_lex.specs.occ_base.declared.event.Dir.TheVariants.{Input, Output}
use Rattle.occ_lex.specs.occ_base.declared.width.Width.{Width}
use Rattle.occ_lex.specs.occ_base.declared.width.Width.TheVariants.{Bool as Truth, Word}
use Rattle.occ_lex.specs.occ_base.Width.{IsWidth}
use Rattle.occ_syntax.specs.declared.scope.Kind.{Kind}
use Rattle.occ_syntax.specs.declared.scope.Kind.TheVariants.{Var, Chan}
use Rattle.occ_behaviour.specs.Texts.{mark_text}
use Rattle.occ_nform_table.specs.Words.{then_read, between, before, behind, cut}
use Rattle.occ_nform_table.specs.Lines.{digit_width, width_of, is_param_name, named, channel_of, variable_of, behind_width, param_of, HasWidth}
use Rattle.occ_nform_table.specs.Tables.{is_marked}
use Rattle.occ_nform_table.specs.Texts.{width_text, param_text}
use Rattle.occ_nform_table.proofs.ReadWords.{then_inv, or_inv, between_inv, before_inv, behind_inv, bytes_same, cut_inv}

-- ---- widths

record IsWidthRead (word : List ℕ) (w : Width) : Type 0 where
  written : word ≡ width_text w
  wide : IsWidth w

digit_inv : (text : List ℕ) (w : Width) → digit_width text ≡ Some w → IsWidthRead (codes "WORD" ++ text) w
digit_inv [] w e = absurd (none-some w e)
digit_inv (digit ∷ next ∷ others) w e = absurd (none-some w e)
digit_inv (digit ∷ []) w e =
    let parts = cond_some (leb 49 digit && leb digit 56) (Word (digit - 48)) w e in
    let both = and_parts (leb 49 digit) (leb digit 56) parts.0 in
    let low : 49 ≤ digit = leb-true 49 digit both.0 in
    let high : digit ≤ 56 = leb-true digit 56 both.1 in
    let is : 48 + (digit - 48) ≡ digit = omega arith in
    let own : IsWidthRead (codes "WORD" ++ digit ∷ []) (Word (digit - 48)) = record {
      written = ap (λ t. codes "WORD" ++ t) (sym (decimal_digit (digit - 48) (omega arith) ∙ ap (λ c. c ∷ []) is));
      wide = (omega arith, omega arith);
    } in
    subst (IsWidthRead (codes "WORD" ++ digit ∷ [])) parts.1 own

width_inv : (word : List ℕ) (w : Width) → width_of word ≡ Some w → IsWidthRead word w
unfolding width_of
width_inv word w e = ⊎_elim
    (λ (t : bytes_eq word (codes "BOOL") ≡ true).
    let own : IsWidthRead word Truth = record { written = bytes_same word (codes "BOOL") t; wide = tt } in
    subst (IsWidthRead word) (same_Some Truth w (sym (cond-true _ (Some Truth) (then_read (behind (codes "WORD") word) digit_width) t) ∙ e)) own)
    (λ (f : bytes_eq word (codes "BOOL") ≡ false).
    let one = then_inv (behind (codes "WORD") word) digit_width w (sym (cond-false _ (Some Truth) (then_read (behind (codes "WORD") word) digit_width) f) ∙ e) in
    subst (λ t. IsWidthRead t w) (sym (behind_inv (codes "WORD") word one.0 one.1)) (digit_inv one.0 w one.2))
    (cases_Bool (bytes_eq word (codes "BOOL")))

-- a width in front, and what is read behind it
record IsWidthed (next : Width → List ℕ → Option (List ℕ × Kind)) (text : List ℕ) (p : List ℕ × Kind) : Type 0 where
  width : Width
  rest : List ℕ
  written : text ≡ width_text width ++ 32 ∷ rest
  wide : IsWidth width
  next_is : next width rest ≡ Some p

behind_width_inv : (next : Width → List ℕ → Option (List ℕ × Kind)) (text : List ℕ) (p : List ℕ × Kind) → behind_width next text ≡ Some p → IsWidthed next text p
unfolding behind_width
behind_width_inv next text p e =
    let one = then_inv (cut 32 text) _ p e in
    let two = then_inv (width_of one.0.0) (λ width. next width one.0.1) p one.2 in
    let is : IsWidthRead one.0.0 two.0 = width_inv one.0.0 two.0 two.1 in
    record {
      width = two.0;
      rest = one.0.1;
      wide = is.wide;
      next_is = two.2;
      written = cut_inv 32 text one.0 one.1 ∙ ap (λ t. t ++ 32 ∷ one.0.1) is.written;
    }

-- ---- parameters

-- a parameter that a text is read as
record IsParamText (text : List ℕ) (p : List ℕ × Kind) : Type 0 where
  written : text ≡ param_text p.0 p.1
  name : is_param_name p.0 ≡ true
  marked : is_marked p.1 ≡ true
  wide : HasWidth p.1

channel_text : (w : Width) (name : List ℕ) (d : Dir) → codes "CHAN OF " ++ (width_text w ++ 32 ∷ (name ++ mark_text d)) ≡ param_text name (Chan w (Some d))
unfolding param_text
channel_text w name d =
    ap (λ t. codes "CHAN OF " ++ t) (sym (append_assoc (width_text w ++ codes " ") name (mark_text d) ∙ append_assoc (width_text w) (codes " ") (name ++ mark_text d)))

variable_text : (w : Width) (name : List ℕ) → width_text w ++ 32 ∷ name ≡ param_text name (Var w)
unfolding param_text
variable_text w name = sym (append_assoc (width_text w) (codes " ") name)

channel_at : (w : Width) (d : Dir) (text rest : List ℕ) (p : List ℕ × Kind) → text ≡ width_text w ++ 32 ∷ rest → IsWidth w
    → then_read (before (mark_text d) rest) (λ name. named name (Chan w (Some d))) ≡ Some p → IsParamText (codes "CHAN OF " ++ text) p
channel_at w d text rest p split wide e =
    let one = then_inv (before (mark_text d) rest) (λ name. named name (Chan w (Some d))) p e in
    let fit = cond_some (is_param_name one.0) (one.0, Chan w (Some d)) p one.2 in
    let own : IsParamText (codes "CHAN OF " ++ text) (one.0, Chan w (Some d)) = record {
      written = ap (λ t. codes "CHAN OF " ++ t) (split ∙ ap (λ t. width_text w ++ 32 ∷ t) (before_inv (mark_text d) rest one.0 one.1)) ∙ channel_text w one.0 d;
      name = fit.0;
      marked = refl;
      wide = wide;
    } in
    subst (IsParamText (codes "CHAN OF " ++ text)) fit.1 own

channel_inv : (text : List ℕ) (p : List ℕ × Kind) → behind_width channel_of text ≡ Some p → IsParamText (codes "CHAN OF " ++ text) p
unfolding channel_of
channel_inv text p e =
    let is : IsWidthed channel_of text p = behind_width_inv channel_of text p e in
    ⊎_elim
    (λ input. channel_at is.width Input text is.rest p is.written is.wide input)
    (λ output. channel_at is.width Output text is.rest p is.written is.wide output)
    (or_inv (then_read (before (mark_text Input) is.rest) (λ name. named name (Chan is.width (Some Input))))
    (then_read (before (mark_text Output) is.rest) (λ name. named name (Chan is.width (Some Output)))) p is.next_is)

variable_inv : (text : List ℕ) (p : List ℕ × Kind) → behind_width variable_of text ≡ Some p → IsParamText text p
unfolding variable_of
variable_inv text p e =
    let is : IsWidthed variable_of text p = behind_width_inv variable_of text p e in
    let fit = cond_some (is_param_name is.rest) (is.rest, Var is.width) p is.next_is in
    let own : IsParamText text (is.rest, Var is.width) = record { written = is.written ∙ variable_text is.width is.rest; name = fit.0; marked = refl; wide = is.wide } in
    subst (IsParamText text) fit.1 own

-- ---- lines

abbrev pub param_line : List ℕ → Kind → List ℕ
param_line name kind = codes "PARAM " ++ param_text name kind ++ codes "\n"

pub record IsParamRead (line : List ℕ) (p : List ℕ × Kind) : Type 0 where
  pub written : line ≡ param_line p.0 p.1
  pub name : is_param_name p.0 ≡ true
  pub marked : is_marked p.1 ≡ true
  pub wide : HasWidth p.1

pub param_inv : (line : List ℕ) (p : List ℕ × Kind) → param_of line ≡ Some p → IsParamRead line p
unfolding param_of
param_inv line p e =
    let one = then_inv (between (codes "PARAM ") (codes "\n") line) _ p e in
    let whole : line ≡ codes "PARAM " ++ (one.0 ++ codes "\n") = between_inv (codes "PARAM ") (codes "\n") line one.0 one.1 in
    let is : IsParamText one.0 p = ⊎_elim
    (λ channel.
    let two = then_inv (behind (codes "CHAN OF ") one.0) (behind_width channel_of) p channel in
    subst (λ t. IsParamText t p) (sym (behind_inv (codes "CHAN OF ") one.0 two.0 two.1)) (channel_inv two.0 p two.2))
    (λ variable. variable_inv one.0 p variable)
    (or_inv (then_read (behind (codes "CHAN OF ") one.0) (behind_width channel_of)) (behind_width variable_of one.0) p one.2) in
    record { written = whole ∙ ap (λ t. codes "PARAM " ++ (t ++ codes "\n")) is.written; name = is.name; marked = is.marked; wide = is.wide }
