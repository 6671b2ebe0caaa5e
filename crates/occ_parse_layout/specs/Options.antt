-- Choices and alternatives declare nothing.
use Rattle.std.specs.Prelude.{Bool, true, false, not, ◌&&◌, ◌||◌}
use Rattle.occ_parse_rules.specs.Forest.{Forest, no_line, and_line}
use Rattle.occ_parse_layout.specs.declared.kind.Child.{Child}
use Rattle.occ_parse_layout.specs.declared.kind.Child.TheVariants as child
use Rattle.occ_parse_layout.specs.declared.kind.Kind.{Kind}
use Rattle.occ_parse_layout.specs.declared.kind.Kind.TheVariants as kind
use Rattle.occ_parse_layout.specs.Layout.{kind_of, is_declaration}

abbrev pub is_option : Child → Bool
is_option child.Slot = false
is_option child.Choice = true
is_option child.Alternative = true

-- an IF or an ALT: choices or alternatives stand below it
abbrev pub takes_options : Kind → Bool
takes_options (kind.Construct c times) = is_option c
takes_options other = false

-- no declaration is among lines one below another
abbrev pub none_declares : Forest → Bool
none_declares no_line = true
none_declares (and_line number s below rest) = not (is_declaration (kind_of s)) && none_declares rest

-- no declaration is among the choices below an IF or the alternatives below an ALT, wherever that stands
abbrev pub options_declare_nothing : Forest → Bool
options_declare_nothing no_line = true
options_declare_nothing (and_line number s below rest) =
    (not (takes_options (kind_of s)) || none_declares below) && (options_declare_nothing below && options_declare_nothing rest)
