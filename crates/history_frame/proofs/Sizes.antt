-- How long calls, inputs and messages can be.
use Rattle.std.proofs.Common.{◌≤◌, length, length-append, arith}
use Rattle.log_base.specs.Wide.{be2, be4, be8}
use Rattle.record_frame.specs.Entries.{entry_of}
use Rattle.record_frame.specs.Values.{value_spelling}
use Rattle.record_frame.proofs.EntryLaws.{length-entry_spelling}
use Rattle.message_frame.specs.declared.messages.Message.{Message}
use Rattle.message_frame.specs.declared.messages.Message.TheVariants.{Copy, CopyAck, Report, Least, Prepare, Promised, Lower, Accept, Accepted, Decide, Want}
use Rattle.message_frame.specs.Sizes.{message_size}
use Rattle.message_frame.specs.Spelling.{IsMessage}
use Rattle.message_frame.proofs.Sizes.{value_short, votes_short, values_of}
use Rattle.history_frame.specs.declared.inputs.Call.{Call}
use Rattle.history_frame.specs.declared.inputs.Call.TheVariants.{Submit, Ask, Read, Request, Settled}
use Rattle.history_frame.specs.Spelling.{IsCall, call_spelling}

pub call_short : (call : Call) → IsCall call → length (call_spelling call) ≤ 65550
unfolding be2 be4 be8
call_short (Submit client number bytes) is = omega (arith, length-entry_spelling (entry_of client number bytes))
call_short (Ask client number) is = omega arith
call_short (Read client position) is = omega arith
call_short (Request client value) is = omega (arith, value_short value is)
call_short (Settled client value start) is = omega (arith, value_short value is, length-append (value_spelling value) (be4 start))

pub message_short : (message : Message) → IsMessage message → message_size message ≤ 65556
message_short (Copy segment offset entry) is = omega (arith, is.2.size)
message_short (CopyAck peer size) is = omega arith
message_short (Report shard replica lengths) is = omega (arith, is.2.count)
message_short (Least shard lengths) is = omega (arith, is.1.count)
message_short (Prepare ballot start) is = omega arith
message_short (Promised ballot start who votes) is = omega (arith, votes_short votes (values_of start.0 votes is.3.each), is.3.few)
message_short (Lower ballot promised) is = omega arith
message_short (Accept ballot slot value) is = omega (arith, value_short value is.2)
message_short (Accepted ballot slot who) is = omega arith
message_short (Decide slot value) is = omega (arith, value_short value is.1)
message_short (Want start node) is = omega arith
