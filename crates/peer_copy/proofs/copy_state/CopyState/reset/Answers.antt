use Rattle.std.proofs.Common.{◌≡◌, length, arith}
use Rattle.peer_copy.proofs.Fresh.{reset_fields}
use Rattle.peer_copy.proofs.copy_state.CopyState.reset.Goals as goal

pub returns : goal.returns
returns c =
    let five : length c.self.inside.acked ≡ 5 = omega (arith, c.self.told) in
    reset_fields c.self.inside.replicas c.self.inside.own.0 c.self.inside.acked c.args.self.now c.self.invariant.few five c.self.view_is
