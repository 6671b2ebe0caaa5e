use Rattle.std.proofs.Common.{◌≡◌, ap, subst, sym, ◌∙◌}
use Rattle.std.specs.Prelude.{IsSome}
use Rattle.occ_usage.specs.occ_meaning.Context.{child, with_child}
use Rattle.occ_syntax.specs.Tree.{alt, par, select, seq}
use Rattle.occ_syntax.specs.View.{tree}
use Rattle.occ_syntax.proofs.Views.{tree-Alt, tree-If, tree-Par, tree-Seq}
use Rattle.occ_script_lines.proofs.Exchanges.{alt_view, if_view, par_view, seq_view}
use Rattle.occ_script_lines.proofs.putting.exchange_child.Goals as goal

pub exchange_part-old-requires : goal.exchange_part-old-requires
exchange_part-old-requires c =
    let value = c.replace-parts.ensures.value in
    let is = c.in-Seq.parts-is in
    let same : c.replace-parts.result ≡ c.in-Seq.parts = cc in
    let view = seq_view c.args.whole.now c.in-Seq.parts c.replace-parts.result c.in-Seq.is same in
    subst (λ t. IsSome (child t c.args.place)) view c.requires

pub returns-in-Seq-clause-put : goal.returns-in-Seq-clause-put
returns-in-Seq-clause-put c =
    let value = c.replace-parts.ensures.value in
    let is = c.in-Seq.parts-is in
    let same : c.replace-parts.result ≡ c.in-Seq.parts = cc in
    let view = seq_view c.args.whole.now c.in-Seq.parts c.replace-parts.result c.in-Seq.is same in
    tree-Seq c.exchange_part-old.new.parts ∙ ap seq c.exchange_part-old.ensures.put ∙ sym (ap (λ t. with_child t c.args.place (tree c.args.part)) view)

pub returns-in-Seq-clause-taken : goal.returns-in-Seq-clause-taken
returns-in-Seq-clause-taken c =
    let value = c.replace-parts.ensures.value in
    let is = c.in-Seq.parts-is in
    let same : c.replace-parts.result ≡ c.in-Seq.parts = cc in
    let view = seq_view c.args.whole.now c.in-Seq.parts c.replace-parts.result c.in-Seq.is same in
    ap (λ t. child t c.args.place) view ∙ c.exchange_part-old.ensures.taken

pub exchange_part-old-requires-in-Par : goal.exchange_part-old-requires-in-Par
exchange_part-old-requires-in-Par c =
    let value = c.replace-parts-in-Par.ensures.value in
    let is = c.in-Par.parts-is in
    let same : c.replace-parts-in-Par.result ≡ c.in-Par.parts = cc in
    let view = par_view c.args.whole.now c.in-Par.parts c.replace-parts-in-Par.result c.in-Par.is same in
    subst (λ t. IsSome (child t c.args.place)) view c.requires

pub returns-in-Par-clause-put : goal.returns-in-Par-clause-put
returns-in-Par-clause-put c =
    let value = c.replace-parts-in-Par.ensures.value in
    let is = c.in-Par.parts-is in
    let same : c.replace-parts-in-Par.result ≡ c.in-Par.parts = cc in
    let view = par_view c.args.whole.now c.in-Par.parts c.replace-parts-in-Par.result c.in-Par.is same in
    tree-Par c.exchange_part-old-in-Par.new.parts ∙ ap par c.exchange_part-old-in-Par.ensures.put ∙ sym (ap (λ t. with_child t c.args.place (tree c.args.part)) view)

pub returns-in-Par-clause-taken : goal.returns-in-Par-clause-taken
returns-in-Par-clause-taken c =
    let value = c.replace-parts-in-Par.ensures.value in
    let is = c.in-Par.parts-is in
    let same : c.replace-parts-in-Par.result ≡ c.in-Par.parts = cc in
    let view = par_view c.args.whole.now c.in-Par.parts c.replace-parts-in-Par.result c.in-Par.is same in
    ap (λ t. child t c.args.place) view ∙ c.exchange_part-old-in-Par.ensures.taken

pub exchange_choice-old-requires : goal.exchange_choice-old-requires
exchange_choice-old-requires c =
    let value = c.replace-choices.ensures.value in
    let is = c.in-If.choices-is in
    let same : c.replace-choices.result ≡ c.in-If.choices = cc in
    let view = if_view c.args.whole.now c.in-If.choices c.replace-choices.result c.in-If.is same in
    subst (λ t. IsSome (child t c.args.place)) view c.requires

pub returns-in-If-clause-put : goal.returns-in-If-clause-put
returns-in-If-clause-put c =
    let value = c.replace-choices.ensures.value in
    let is = c.in-If.choices-is in
    let same : c.replace-choices.result ≡ c.in-If.choices = cc in
    let view = if_view c.args.whole.now c.in-If.choices c.replace-choices.result c.in-If.is same in
    tree-If c.exchange_choice-old.new.choices ∙ ap select c.exchange_choice-old.ensures.put ∙ sym (ap (λ t. with_child t c.args.place (tree c.args.part)) view)

pub returns-in-If-clause-taken : goal.returns-in-If-clause-taken
returns-in-If-clause-taken c =
    let value = c.replace-choices.ensures.value in
    let is = c.in-If.choices-is in
    let same : c.replace-choices.result ≡ c.in-If.choices = cc in
    let view = if_view c.args.whole.now c.in-If.choices c.replace-choices.result c.in-If.is same in
    ap (λ t. child t c.args.place) view ∙ c.exchange_choice-old.ensures.taken

pub exchange_alternative-old-requires : goal.exchange_alternative-old-requires
exchange_alternative-old-requires c =
    let value = c.replace-alternatives.ensures.value in
    let is = c.in-Alt.alternatives-is in
    let same : c.replace-alternatives.result ≡ c.in-Alt.alternatives = cc in
    let view = alt_view c.args.whole.now c.in-Alt.alternatives c.replace-alternatives.result c.in-Alt.is same in
    subst (λ t. IsSome (child t c.args.place)) view c.requires

pub returns-in-Alt-clause-put : goal.returns-in-Alt-clause-put
returns-in-Alt-clause-put c =
    let value = c.replace-alternatives.ensures.value in
    let is = c.in-Alt.alternatives-is in
    let same : c.replace-alternatives.result ≡ c.in-Alt.alternatives = cc in
    let view = alt_view c.args.whole.now c.in-Alt.alternatives c.replace-alternatives.result c.in-Alt.is same in
    tree-Alt c.exchange_alternative-old.new.alternatives ∙ ap alt c.exchange_alternative-old.ensures.put ∙ sym (ap (λ t. with_child t c.args.place (tree c.args.part)) view)

pub returns-in-Alt-clause-taken : goal.returns-in-Alt-clause-taken
returns-in-Alt-clause-taken c =
    let value = c.replace-alternatives.ensures.value in
    let is = c.in-Alt.alternatives-is in
    let same : c.replace-alternatives.result ≡ c.in-Alt.alternatives = cc in
    let view = alt_view c.args.whole.now c.in-Alt.alternatives c.replace-alternatives.result c.in-Alt.is same in
    ap (λ t. child t c.args.place) view ∙ c.exchange_alternative-old.ensures.taken
