use Rattle.std.proofs.Common.{◌≡◌, IfOk, ap, codes, subst, ◌∙◌}
use Rattle.clap.specs.Words.{App, app_of}
use Rattle.occ_tool_words.specs.CommandLine.{with_command}
use Rattle.occ_tool_words.proofs.words.add_later.Goals as goal

pub returns : goal.returns
returns c =
    subst (λ (app : App). IfOk c.add_one-3.result (λ made. app_of made ≡ with_command app (codes "derive", 1)))
    (c.in_ok-line-6.ensures ∙ ap (λ (app : App). with_command app (codes "expand", 2))
    (c.in_ok-line-5.ensures ∙ ap (λ (app : App). with_command app (codes "transform", 2))
    (c.in_ok-line-4.ensures ∙ ap (λ (app : App). with_command app (codes "run", 2))
    (c.in_ok-line-3.ensures ∙ ap (λ (app : App). with_command app (codes "replay", 1))
    (c.in_ok-line-2.ensures ∙ ap (λ (app : App). with_command app (codes "deadlock", 1)) c.in_ok-line.ensures)))))
    c.add_one-3.ensures
