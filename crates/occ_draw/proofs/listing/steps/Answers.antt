use Rattle.occ_draw.proofs.Known.{laws_read}
use Rattle.occ_tool_run.proofs.Scripted.{fault_or_memory_told}
use Rattle.occ_draw.proofs.Drawing.{listed_script, refused_script}
use Rattle.occ_draw.proofs.listing.steps.Goals as goal

pub list_steps-requires-clause-laws : goal.list_steps-requires-clause-laws
list_steps-requires-clause-laws c = laws_read c.args.text.now _ _ c.in-Ok.script c.in-Ok.ensures.found

pub returns-in-Ok : goal.returns-in-Ok
returns-in-Ok c = listed_script c.list_steps.result _ _ c.args.text.now c.in-Ok.script c.new-names.ensures c.in-Ok.ensures.found c.list_steps.ensures

pub refuse_script-requires : goal.refuse_script-requires
refuse_script-requires c = fault_or_memory_told c.args.text.now _ c.in-Err.fault c.in-Err.ensures.refused

pub returns : goal.returns
returns c =
    refused_script c.refuse_script.result _ c.args.text.now c.in-Err.fault c.new-names.ensures c.in-Err.ensures.refused c.refuse_script.ensures.text c.refuse_script.ensures.told
