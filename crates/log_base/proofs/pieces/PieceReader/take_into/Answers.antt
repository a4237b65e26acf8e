use Rattle.std.proofs.Common.{ℕ, sym, subst, arith}
use Rattle.std.proofs.KnownBytes.{Consumes-kept}
use Rattle.log_base.specs.Outside.{TakesOn}
use Rattle.log_base.proofs.Cuts.{moves_on}
use Rattle.log_base.proofs.Taking.{takes_then}
use Rattle.log_base.proofs.pieces.PieceReader.take_into.Goals as goal

-- the refill keeps what is unread, and what is given then leaves it
pub bytes-preserved : goal.bytes-preserved
bytes-preserved g c = record {
  within = c.give.ensures.within;
  room = c.give.ensures.room;
  taken = moves_on _ _ _ _ _ _ c.give.ensures.moved (Consumes-kept _ _ _ _ c.bytes.invariant.taken c.refill.ensures.bytes);
  counted = subst (λ (n : ℕ). TakesOn c.args.self.now.taken n (g.S.Source.left c.args.source.now) (g.S.Source.left c.refill.new.source)) (sym c.give.ensures.taken)
      (takes_then _ _ _ _ _ _ c.bytes.invariant.counted c.refill.ensures.taken);
  fits = c.give.ensures.fits;
  count = omega arith;
}

pub returns-in-Err-clause-taken : goal.returns-in-Err-clause-taken
returns-in-Err-clause-taken g c = takes_then _ _ _ _ _ _ c.bytes.invariant.counted c.refill.ensures.taken

pub returns-then-is_used_up-clause-taken : goal.returns-then-is_used_up-clause-taken
returns-then-is_used_up-clause-taken g c = takes_then _ _ _ _ _ _ c.bytes.invariant.counted c.refill.ensures.taken
