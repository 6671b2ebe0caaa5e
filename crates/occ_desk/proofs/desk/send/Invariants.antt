use Rattle.std.proofs.Common.{length, ◌-◌, ◌≡◌, ◌≤◌, take}
use Rattle.occ_desk.specs.Desk.{with_more}
use Rattle.occ_desk.proofs.desk.send.Given as goal

abbrev pub invariant-loop-sent : goal.invariant-loop-sent
invariant-loop-sent g l = record {
  within : l.sent ≤ length l.bytes;
  written : g.D.Desk.written l.desk ≡ with_more (g.D.Desk.written l.initial.desk) (take l.sent l.bytes);
  write_faults : g.D.Desk.write_faults l.desk ≡ g.D.Desk.write_faults l.initial.desk;
  read_faults : g.D.Desk.read_faults l.desk ≡ g.D.Desk.read_faults l.initial.desk;
  files : g.D.Desk.files l.desk ≡ g.D.Desk.files l.initial.desk;
  asked : g.D.Desk.asked l.desk ≡ g.D.Desk.asked l.initial.desk;
}

abbrev pub decreases-loop-sent : goal.decreases-loop-sent
decreases-loop-sent g l = length l.bytes - l.sent
