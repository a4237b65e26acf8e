use Rattle.std.proofs.Common.{ℕ, ◌-◌, ◌<◌, ◌≤◌, vec_len, vec_capacity, get_or}
use Rattle.std.specs.Io.KnownBytes.{Consumes}
use Rattle.log_base.specs.Outside.{unread, TakesOn}
use Rattle.log_base.proofs.pieces.PieceReader.take_into.Given as goal

-- the bytes so far were taken from what was unread, and the count of faults has not fallen
abbrev pub invariant-bytes : goal.invariant-bytes
invariant-bytes g l = record {
  within : vec_len l.bytes ≤ l.wanted;
  room : l.wanted ≤ vec_capacity l.bytes;
  taken : Consumes (unread l.initial.self.pending (g.S.Source.left l.initial.source)) (unread l.self.pending (g.S.Source.left l.source)) l.bytes.items;
  counted : TakesOn l.initial.self.taken l.self.taken (g.S.Source.left l.initial.source) (g.S.Source.left l.source);
  fits : (k : ℕ) → get_or l.bytes.items k 0 < 256;
  count : g.S.Source.faults l.initial.source ≤ g.S.Source.faults l.source;
}

abbrev pub decreases-bytes : goal.decreases-bytes
decreases-bytes g l = l.wanted - vec_len l.bytes
