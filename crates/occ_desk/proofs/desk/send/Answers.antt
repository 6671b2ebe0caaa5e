use Rattle.std.proofs.Common.{◌∙◌}
use Rattle.std.proofs.lemmas.List.{take_rest}
use Rattle.occ_desk.proofs.Written.{sent_more, sent_within}
use Rattle.occ_desk.proofs.desk.send.Goals as goal

pub loop-sent-preserved : goal.loop-sent-preserved
loop-sent-preserved g c = record {
  within = sent_within c.args.bytes.now _ _ c.loop-sent.invariant.within c.in_ok-sent.ensures.most;
  written = sent_more _ _ _ c.args.bytes.now _ c.loop-sent.sent c.in_ok-sent.field-0 (take_rest c.args.bytes.now c.loop-sent.sent) c.loop-sent.invariant.written c.in_ok-sent.ensures.taken;
  write_faults = c.in_ok-sent.ensures.no_fault ∙ c.loop-sent.invariant.write_faults;
  read_faults = c.write.ensures.read_faults ∙ c.loop-sent.invariant.read_faults;
  files = c.write.ensures.files ∙ c.loop-sent.invariant.files;
  asked = c.write.ensures.asked ∙ c.loop-sent.invariant.asked;
}
