use Rattle.std.proofs.Common.{◌∙◌, ◌++◌, [], codes, decimal, ap}
use Rattle.std.proofs.lemmas.List.{append-nil}
use Rattle.occ_tool_run.specs.Texts.{refusal_text, told_of}
use Rattle.occ_tool_run.specs.occ_behaviour.declared.behaviour.Side.TheVariants.{First}
use Rattle.occ_check.proofs.causes.words_of.Goals as goal

pub returns : goal.returns
returns c =
    let front = codes "REFUSED FIRST " ++ decimal (told_of c.args.fault).0 ++ codes " " in
    c.in_ok-from_slice.ensures.items ∙ c.more.ensures front (told_of c.args.fault).1 (c.as_slice.ensures.value ∙ c.in_ok-said.ensures)
    (c.as_slice-2.ensures.value ∙ c.in_ok-bare.ensures ∙ ap (λ n. refusal_text First n []) c.line_of.ensures ∙ ap (λ l. l ++ codes "\n") (append-nil front))
