use Rattle.std.proofs.Common.{◌≡◌, ◌-◌, length, drop, take}
use Rattle.log_model.proofs.Times.{times}
use Rattle.cut_chain.specs.Runs.{places_of}
use Rattle.cut_chain.proofs.walking.position_in.Given as goal

-- so many places lie before the runs that were looked at, and none of these has the place
abbrev pub invariant-loop-back : goal.invariant-loop-back
invariant-loop-back l = record {
  before : l.start ≡ length (places_of (take (length l.runs - l.back) l.runs));
  not_yet : times (places_of (drop (length l.runs - l.back) l.runs)) l.place ≡ 0;
}
