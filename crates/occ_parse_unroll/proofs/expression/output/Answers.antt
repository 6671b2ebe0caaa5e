use Rattle.occ_parse_forms.specs.Shape.{said}
use Rattle.occ_parse_forms.proofs.from_lex.Interned.{longer}
use Rattle.occ_parse_unroll.proofs.Known.{said_known}
use Rattle.occ_parse_unroll.proofs.expression.output.Goals as goal

pub expression-requires : goal.expression-requires
expression-requires g c = λ n. said_known _ _ (said c.args.value.now) (longer _ _ c.in_ok-name.ensures.extends) (c.requires.value n)
