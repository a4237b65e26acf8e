use Rattle.std.proofs.Common.{◌≤◌, arith}
use Rattle.log_base.specs.Shape.{shape}
use Rattle.peer_copy.proofs.Fresh.{fresh_fields}
use Rattle.peer_copy.proofs.copy_state.CopyState.new.Goals as goal

pub returns : goal.returns
returns c =
    let few : c.replicas.result ≤ 5 = omega arith in
    fresh_fields c.replicas.result (shape c.args.config.now).replicas c.args.own.0 few c.replicas.ensures
