use Rattle.std.proofs.Common.{◌-◌, ◌≤◌, length, take}
use Rattle.std.specs.Io.KnownBytes.{Appends}
use Rattle.log_base.proofs.sending.send.Given as goal

-- the bytes sent so far are the front of all, and the count of faults has not fallen
abbrev pub invariant-loop-sent : goal.invariant-loop-sent
invariant-loop-sent g l = record {
  within : l.sent ≤ length l.bytes;
  bytes : Appends (g.K.Sink.taken l.initial.sink) (g.K.Sink.taken l.sink) (take l.sent l.bytes);
  count : g.K.Sink.faults l.initial.sink ≤ g.K.Sink.faults l.sink;
}

abbrev pub decreases-loop-sent : goal.decreases-loop-sent
decreases-loop-sent g l = length l.bytes - l.sent
