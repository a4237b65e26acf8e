-- Soundness of kept lists as a test of one payload after another, and the first payload that breaks it.
use Rattle.std.specs.Prelude.{ℕ, zero, suc, ◌*◌, ◌^◌, ◌/◌, ◌%◌, List, [], ◌∷◌, length, take, Bool, true, false, ◌==◌, ◌&&◌, nat_lt, nat_le, if◌then◌else◌, Option, Some, None, slice_get, slice_index}
use Rattle.history_frame.specs.declared.events.Kept.{Kept}
use Rattle.log_base.specs.ClusterShape.{Shape}
use Rattle.log_model.specs.Lookup.{segment_index}
use Rattle.log_model.specs.Storage.{entry_in, list_limit}
use Rattle.node_table.specs.declared.role.Role.{Role}
use Rattle.node_table.specs.declared.role.Role.TheVariants.{Storage, Gatherer, Orderer}
use Rattle.node_table.specs.Numbering.{nodes_of, role_at}
use Rattle.paxos_model.specs.Payloads.{payload_in, payload_spelling}
use Rattle.paxos_model.specs.Values.{same_numbers}
use Rattle.paxos_model.specs.Votes.{Payload, Promise, Voted}
use Rattle.record_frame.specs.declared.values.Value.{Value}
use Rattle.record_frame.specs.declared.values.Value.TheVariants.{Noop, Cut, Add, Finalise, Trim}
use Rattle.record_frame.specs.Entries.{entry_spelling}
use Rattle.node_model.specs.NodeState.{KeptLists}
use Rattle.node_model.specs.Ranges.{is_ballot, is_entry, is_value}
use Rattle.node_model.specs.Sound.{orderer_limit, payloads_on, segment_disk}

-- bytes are the spelling of an entry, and of a promise or a vote
abbrev pub is_entry_spelled : List ℕ → Bool
is_entry_spelled payload = is_entry (entry_in payload) && same_numbers payload (entry_spelling (entry_in payload))

abbrev pub is_payload : Payload → Bool
is_payload (Promise ballot) = is_ballot ballot
is_payload (Voted vote) = is_ballot vote.ballot.0 && (nat_le vote.slot.0 16383 && is_value vote.value)

abbrev pub is_promise_spelled : List ℕ → Bool
is_promise_spelled payload = is_payload (payload_in payload) && same_numbers payload (payload_spelling (payload_in payload))

-- the payload stands there
abbrev pub is_there : Option (List ℕ) → List ℕ → Bool
is_there None payload = false
is_there (Some found) payload = same_numbers found payload

abbrev pub may_keep_entry : Shape → ℕ → KeptLists → ℕ → ℕ → ℕ → List ℕ → Bool
may_keep_entry config run kept shard segment offset payload =
    is_entry_spelled payload
    && (nat_lt (entry_in payload).number.0 (run * 2 ^ 32)
    && (nat_lt offset list_limit && is_there (slice_get (kept (segment_disk config shard segment segment)) offset) payload))

-- each number below one passes a test
abbrev pub all_below : ℕ → (ℕ → Bool) → Bool
all_below zero test = true
all_below (suc n) test = test n && all_below n test

abbrev pub is_kept_cut : Shape → KeptLists → List ℕ → Bool
is_kept_cut config kept lengths =
    all_below config.shards (λ shard. all_below config.replicas (λ replica. all_below config.replicas (λ segment.
    nat_le (slice_index lengths (segment_index config.replicas shard segment)) (length (kept (segment_disk config shard replica segment))))))

abbrev pub is_kept_value : Shape → KeptLists → Value → Bool
is_kept_value config kept Noop = true
is_kept_value config kept (Cut lengths) = (lengths.count == config.replicas * config.shards) && is_kept_cut config kept lengths.length
is_kept_value config kept (Add shard) = nat_lt shard.0 config.shards
is_kept_value config kept (Finalise shard) = nat_lt shard.0 config.shards
is_kept_value config kept (Trim position) = true

abbrev pub is_kept_vote : Shape → KeptLists → Payload → Bool
is_kept_vote config kept (Promise ballot) = true
is_kept_vote config kept (Voted vote) = is_kept_value config kept vote.value

abbrev pub may_keep_promise : Shape → KeptLists → ℕ → List ℕ → Bool
may_keep_promise config kept offset payload =
    is_promise_spelled payload && (nat_lt offset orderer_limit && is_kept_vote config kept (payload_in payload))

abbrev pub may_keep_as : Shape → ℕ → KeptLists → Role → ℕ → ℕ → List ℕ → Bool
may_keep_as config run kept (Storage shard replica) segment offset payload =
    nat_lt segment config.replicas && may_keep_entry config run kept shard.0 segment offset payload
may_keep_as config run kept (Gatherer index) segment offset payload = false
may_keep_as config run kept (Orderer index) segment offset payload = (segment == 0) && may_keep_promise config kept offset payload

-- whether a payload may stand on a disk at an offset
abbrev pub may_keep : Shape → ℕ → KeptLists → ℕ → ℕ → List ℕ → Bool
may_keep config run kept disk offset payload =
    nat_lt (disk / 8) (nodes_of config) && may_keep_as config run kept (role_at config (disk / 8)) (disk % 8) offset payload

-- whether the payload that comes behind so many others may stand there
abbrev pub may_come : Shape → ℕ → List Kept → ℕ → Kept → Bool
may_come config run kept index one =
    may_keep config run (payloads_on kept) one.disk (length (payloads_on (take index kept) one.disk)) one.payload

-- the first of the payloads from an index on that breaks soundness
abbrev pub break_from : Shape → ℕ → List Kept → ℕ → List Kept → Option ℕ
break_from config run kept index [] = None
break_from config run kept index (one ∷ rest) =
    if may_come config run kept index one then break_from config run kept (suc index) rest else Some index

-- the first payload of all that were kept that breaks soundness
unfoldable pub first_break : Shape → ℕ → List Kept → Option ℕ
first_break config run kept = break_from config run kept 0 kept
