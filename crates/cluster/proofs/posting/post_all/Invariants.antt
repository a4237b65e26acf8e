use Rattle.std.proofs.Common.{◌≡◌, ◌≤◌, ℕ, length, take}
use Rattle.log_base.specs.Outgoing.{letter_at}
use Rattle.cluster.specs.Posting.{AllGoOut, IsMail}
use Rattle.cluster.proofs.posting.post_all.Given as goal

-- the outputs so far went out, and the others lie in the outbox
abbrev pub invariant-loop-index : goal.invariant-loop-index
invariant-loop-index g l = record {
  table : l.pass.seat.table_id ≡ l.fn.pass.seat.table_id;
  account : l.pass.account ≡ l.fn.pass.account;
  size : length l.out.letters ≡ length l.fn.out.letters;
  rest : (k : ℕ) → l.index ≤ k → letter_at k l.out.letters ≡ letter_at k l.fn.out.letters;
  few : l.lost ≤ l.index;
  mail : IsMail l.fn.pass.seat.me l.pass.seat.me;
  out : AllGoOut l.nodes l.place 0 (take l.index l.fn.out.letters) l.fn.pass.seat.me l.pass.seat.me l.lost;
}
