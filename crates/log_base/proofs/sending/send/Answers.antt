use Rattle.std.proofs.Common.{◌≡◌, ◌+◌, ◌-◌, ◌≤◌, length, take, drop, subst, arith, length-drop, length-take}
use Rattle.std.proofs.KnownBytes.{Appends-trans}
use Rattle.std.specs.Io.KnownBytes.{Appends}
use Rattle.log_base.proofs.Cuts.{sends_on}
use Rattle.log_base.proofs.sending.send.Goals as goal

-- what this call took follows what was sent before
pub loop-sent-preserved : goal.loop-sent-preserved
loop-sent-preserved g c =
    let left : length (take (length c.args.bytes.now - c.loop-sent.sent) (drop c.loop-sent.sent c.args.bytes.now)) ≡ length c.args.bytes.now - c.loop-sent.sent =
    simp (length-take, length-drop) (omega arith) in
    let within : c.loop-sent.sent + c.in-Ok.count ≤ length c.args.bytes.now = omega (arith, left, c.in-Ok.ensures.bound) in
    record {
      within = within;
      bytes = subst (Appends _ _) (sends_on _ _ _ c.loop-sent.invariant.within) (Appends-trans _ _ _ _ _ c.loop-sent.invariant.bytes c.in-Ok.ensures.bytes);
      count = omega (arith, c.in-Ok.ensures.cause.later);
    }
