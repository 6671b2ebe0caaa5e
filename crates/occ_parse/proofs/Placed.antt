-- Among good lines declarations stand in front of processes alone.
use Rattle.std.proofs.Common.{◌≡◌, true, false, not, ◌&&◌, ◌||◌, None, refl, ap, ◌∙◌}
use Rattle.std.proofs.lemmas.Bool.{and_parts, and_from}
use Rattle.occ_parse_rules.specs.occ_parse_forms.declared.form.Group.TheVariants as word
use Rattle.occ_parse_rules.specs.occ_parse_forms.Shape.{Shape, header, close, skip, stop, assign, receive, send, group, declare, condition, guard, nothing}
use Rattle.occ_parse_rules.specs.Forest.{Forest, no_line, and_line, lines_at}
use Rattle.occ_parse_rules.specs.Sound.{is_declare, are_options, options_below, are_placed}
use Rattle.occ_parse_layout.specs.Layout.{kind_of, is_declaration, least_bad}
use Rattle.occ_parse_layout.specs.Options.{takes_options, none_declares, options_declare_nothing}
use Rattle.occ_parse_layout.proofs.Options.{options_of}
use Rattle.occ_parse.specs.declared.bound.Bound.{Bound}
use Rattle.occ_parse.specs.Limits.{frame_of}

declares_same : (s : Shape) → is_declare s ≡ is_declaration (kind_of s)
unfolding is_declare
declares_same (header name params) = refl
declares_same close = refl
declares_same skip = refl
declares_same stop = refl
declares_same (assign xs es) = refl
declares_same (receive c x) = refl
declares_same (send c e) = refl
declares_same (group g times) = refl
declares_same (declare k ds) = refl
declares_same (condition e) = refl
declares_same (guard e w) = refl
declares_same nothing = refl

options_are : (f : Forest) → none_declares f ≡ true → are_options f ≡ true
options_are no_line h = refl
options_are (and_line number s below rest) h =
    let parts = and_parts (not (is_declaration (kind_of s))) (none_declares rest) h in
    and_from (not (is_declare s)) (are_options rest) (ap not (declares_same s) ∙ parts.0) (options_are rest parts.1)

below_are : (s : Shape) (below : Forest) → (not (takes_options (kind_of s)) || none_declares below) ≡ true → options_below s below ≡ true
below_are (header name params) below h = refl
below_are close below h = refl
below_are skip below h = refl
below_are stop below h = refl
below_are (assign xs es) below h = refl
below_are (receive c x) below h = refl
below_are (send c e) below h = refl
below_are (group word.Seq times) below h = refl
below_are (group word.Par times) below h = refl
below_are (group word.If times) below h = options_are below h
below_are (group word.Alt times) below h = options_are below h
below_are (declare k ds) below h = refl
below_are (condition e) below h = refl
below_are (guard e w) below h = refl
below_are nothing below h = refl

pub placed_from : (f : Forest) → options_declare_nothing f ≡ true → are_placed f ≡ true
placed_from no_line h = refl
placed_from (and_line number s below rest) h =
    let parts = and_parts (not (takes_options (kind_of s)) || none_declares below) (options_declare_nothing below && options_declare_nothing rest) h in
    let more = and_parts (options_declare_nothing below) (options_declare_nothing rest) parts.1 in
    and_from (options_below s below) (are_placed below && are_placed rest) (below_are s below parts.0)
    (and_from (are_placed below) (are_placed rest) (placed_from below more.0) (placed_from rest more.1))

pub good_are_placed : (b : Bound) (f : Forest) → least_bad (frame_of b) false (lines_at 0 f) ≡ None → are_placed f ≡ true
good_are_placed b f h = placed_from f (options_of (frame_of b) false 0 (lines_at 0 f) f refl h)
