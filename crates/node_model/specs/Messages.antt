-- The messages, by their numbers.
use Rattle.std.specs.Prelude.{ℕ, List}
use Rattle.message_frame.specs.declared.messages.Message.{Message}
use Rattle.message_frame.specs.declared.messages.Message.TheVariants.{Copy, CopyAck, Report, Least, Prepare, Promised, Lower, Accept, Accepted, Decide, Want}
use Rattle.message_frame.specs.declared.messages.Vote.{Vote}
use Rattle.record_frame.specs.declared.entries.Entry.{Entry}
use Rattle.record_frame.specs.declared.values.Lengths.{Lengths}
use Rattle.record_frame.specs.declared.values.Value.{Value}

-- messages of storage nodes and gatherers
abbrev pub copy_message : ℕ → ℕ → Entry → Message
copy_message segment offset entry = Copy (record { 0 = segment }) offset entry

abbrev pub copied_message : ℕ → ℕ → Message
copied_message peer held = CopyAck (record { 0 = peer }) held

abbrev pub report_message : ℕ → ℕ → Lengths → Message
report_message shard replica lengths = Report (record { 0 = shard }) (record { 0 = replica }) lengths

abbrev pub least_message : ℕ → Lengths → Message
least_message shard lengths = Least (record { 0 = shard }) lengths

-- messages of the orderers
abbrev pub prepare_message : ℕ → ℕ → Message
prepare_message ballot slot = Prepare (record { 0 = ballot }) (record { 0 = slot })

abbrev pub lower_message : ℕ → ℕ → Message
lower_message ballot promise = Lower (record { 0 = ballot }) (record { 0 = promise })

abbrev pub promised_message : ℕ → ℕ → ℕ → List Vote → Message
promised_message ballot slot who votes = Promised (record { 0 = ballot }) (record { 0 = slot }) who votes

abbrev pub accept_message : ℕ → ℕ → Value → Message
accept_message ballot slot value = Accept (record { 0 = ballot }) (record { 0 = slot }) value

abbrev pub accepted_message : ℕ → ℕ → ℕ → Message
accepted_message ballot slot who = Accepted (record { 0 = ballot }) (record { 0 = slot }) who

abbrev pub decide_message : ℕ → Value → Message
decide_message slot value = Decide (record { 0 = slot }) value

abbrev pub want_message : ℕ → ℕ → Message
want_message slot node = Want (record { 0 = slot }) (record { 0 = node })
