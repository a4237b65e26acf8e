use Rattle.std.proofs.Common.{sym, ap}
use Rattle.log_model.specs.Storage.{entry_in, entry_read}
use Rattle.storage_node.proofs.prepared.entry_of_payload.Goals as goal

pub returns-in-Ok : goal.returns-in-Ok
unfolding entry_in
returns-in-Ok c = sym (ap entry_read c.in-Ok.ensures.exact)
