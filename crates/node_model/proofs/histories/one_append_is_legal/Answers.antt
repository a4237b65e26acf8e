use Rattle.node_model.proofs.OneAppend.{one_append_decided, one_append_legal, one_append_seen, one_append_sequence}
use Rattle.node_model.proofs.histories.one_append_is_legal.Goals as goal

pub returns : goal.returns
returns c = record { legal = one_append_legal; decided = one_append_decided; sequence = one_append_sequence; seen = one_append_seen }
