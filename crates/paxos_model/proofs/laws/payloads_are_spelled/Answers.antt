use Rattle.paxos_model.proofs.Payloads.{payload_read, payload_spelled, payload_short}
use Rattle.paxos_model.proofs.laws.payloads_are_spelled.Goals as goal

pub returns : goal.returns
returns c = record { spelled = payload_spelled; read = payload_read; short = payload_short }
