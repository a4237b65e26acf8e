-- How what happened is read, and the frames of a history: field by field from the left.
use Rattle.std.specs.Prelude.{ℕ, zero, suc, ◌-◌, List, [], ◌∷◌, ◌++◌, length, drop, nat_lt, ◌==◌, ◌||◌, if◌then◌else◌, None, is_some, Result, Ok, Err}
use Rattle.log_base.specs.ClusterShape.{Shape, wrong_part}
use Rattle.log_base.specs.declared.numbers.NodeId.{NodeId}
use Rattle.record_frame.specs.declared.refusals.Refusal.{Refusal}
use Rattle.record_frame.specs.declared.refusals.Refusal.TheVariants.{BadKind, BadNumber, Long}
use Rattle.record_frame.specs.Fields.{◌>>=◌, u8_at, u16_at, u32_at, u64_at}
use Rattle.record_frame.specs.Values.{value_at}
use Rattle.message_frame.specs.Reading.{message_of}
use Rattle.history_frame.specs.declared.inputs.Call.{Call}
use Rattle.history_frame.specs.declared.inputs.Call.TheVariants.{Submit, Ask, Read, Request, Settled}
use Rattle.history_frame.specs.declared.inputs.Input.{Input}
use Rattle.history_frame.specs.declared.inputs.Input.TheVariants.{Deliver, Call as ACall, Tick, Lead, Stop, Restart}
use Rattle.history_frame.specs.declared.inputs.Mark.{Mark}
use Rattle.history_frame.specs.declared.inputs.Mark.TheVariants.{Done, Halted, OpenedWithout, OpenedWith, StayedDown}
use Rattle.history_frame.specs.declared.events.Sent.{Sent}
use Rattle.history_frame.specs.declared.events.Happened.{Happened}
use Rattle.history_frame.specs.declared.events.Kept.{Kept}
use Rattle.history_frame.specs.ReplyReading.{Told, told, bytes_at, plain_entry_at, reply_at}

-- ---- inputs

unfoldable pub submit_at : List ℕ → ℕ → Result (Call × ℕ) Refusal
submit_at bytes at = do
  entry ← plain_entry_at bytes at
  Ok (Submit entry.0.client entry.0.number entry.0.bytes, entry.1)

unfoldable pub ask_at : List ℕ → ℕ → Result (Call × ℕ) Refusal
ask_at bytes at = do
  client ← u16_at bytes at
  number ← u64_at bytes client.1
  Ok (Ask (record { 0 = client.0 }) (record { 0 = number.0 }), number.1)

unfoldable pub read_at : List ℕ → ℕ → Result (Call × ℕ) Refusal
read_at bytes at = do
  client ← u16_at bytes at
  position ← u64_at bytes client.1
  Ok (Read (record { 0 = client.0 }) (record { 0 = position.0 }), position.1)

unfoldable pub request_at : List ℕ → ℕ → Result (Call × ℕ) Refusal
request_at bytes at = do
  client ← u16_at bytes at
  value ← value_at bytes client.1
  Ok (Request (record { 0 = client.0 }) value.0, value.1)

unfoldable pub settled_at : List ℕ → ℕ → Result (Call × ℕ) Refusal
settled_at bytes at = do
  client ← u16_at bytes at
  value ← value_at bytes client.1
  start ← u32_at bytes value.1
  Ok (Settled (record { 0 = client.0 }) value.0 start.0, start.1)

-- the fields of a call of some kind
unfoldable pub call_fields_at : ℕ → List ℕ → ℕ → Result (Call × ℕ) Refusal
call_fields_at kind bytes at =
    if kind == 1 then submit_at bytes at
    else if kind == 2 then ask_at bytes at
    else if kind == 3 then read_at bytes at
    else if kind == 4 then request_at bytes at
    else if kind == 5 then settled_at bytes at
    else Err (BadKind kind)

unfoldable pub deliver_at : List ℕ → ℕ → Result (Input × ℕ) Refusal
deliver_at bytes at = do
  place ← u32_at bytes at
  index ← u8_at bytes place.1
  Ok (Deliver place.0 index.0 None, index.1)

unfoldable pub call_at : List ℕ → ℕ → Result (Input × ℕ) Refusal
call_at bytes at = do
  kind ← u8_at bytes at
  call ← call_fields_at kind.0 bytes kind.1
  Ok (ACall call.0, call.1)

-- the fields of an input of some kind; a letter has no message
unfoldable pub input_fields_at : ℕ → List ℕ → ℕ → Result (Input × ℕ) Refusal
input_fields_at kind bytes at =
    if kind == 1 then deliver_at bytes at
    else if kind == 2 then call_at bytes at
    else if kind == 3 then Ok (Tick, at)
    else if kind == 4 then Ok (Lead, at)
    else if kind == 5 then Ok (Stop, at)
    else if kind == 6 then Ok (Restart, at)
    else Err (BadKind kind)

-- the input at a place
unfoldable pub input_at : List ℕ → ℕ → Result (Input × ℕ) Refusal
input_at bytes at = do
  kind ← u8_at bytes at
  input_fields_at kind.0 bytes kind.1

-- ---- marks and outputs

-- the mark of a byte
unfoldable pub mark_of : ℕ → Result Mark Refusal
mark_of byte =
    if byte == 0 then Ok Done
    else if byte == 1 then Ok Halted
    else if byte == 2 then Ok OpenedWithout
    else if byte == 3 then Ok OpenedWith
    else if byte == 4 then Ok StayedDown
    else Err (BadKind byte)

unfoldable pub mark_at : List ℕ → ℕ → Result (Mark × ℕ) Refusal
mark_at bytes at = do
  byte ← u8_at bytes at
  mark ← mark_of byte.0
  Ok (mark, byte.1)

-- an output, whose message takes all of its bytes
unfoldable pub sent_at : List ℕ → ℕ → Result (Sent × ℕ) Refusal
sent_at bytes at = do
  to ← u16_at bytes at
  text ← bytes_at 2097152 bytes to.1
  message ← message_of text.0
  Ok (record { to = record { 0 = to.0 }; message = message }, text.1)

-- an output, behind others
abbrev pub sent_behind : List Sent → List ℕ → ℕ → Result (List Sent × ℕ) Refusal
sent_behind others bytes at = do
  sent ← sent_at bytes at
  Ok (others ++ sent.0 ∷ [], sent.1)

-- so many outputs
unfoldable pub outputs_at : ℕ → List ℕ → ℕ → Result (List Sent × ℕ) Refusal
outputs_at zero bytes at = Ok ([], at)
outputs_at (suc count) bytes at = do
  first ← sent_at bytes at
  others ← outputs_at count bytes first.1
  Ok (first.0 ∷ others.0, others.1)

-- ---- what happened

pub record ToldHappened : Type 0 where
  pub input : Input
  pub mark : Mark
  pub outputs : List Sent
  pub reply : Told

abbrev pub happened_told : Happened → ToldHappened
happened_told happened = record {
  input = happened.input;
  mark = happened.mark;
  outputs = happened.outputs;
  reply = told happened.reply;
}

-- what happened, from a place on
unfoldable pub happened_at : List ℕ → ℕ → Result (ToldHappened × ℕ) Refusal
happened_at bytes at = do
  input ← input_at bytes at
  mark ← mark_at bytes input.1
  count ← u8_at bytes mark.1
  outputs ← outputs_at count.0 bytes count.1
  reply ← reply_at bytes outputs.1
  Ok (record { input = input.0; mark = mark.0; outputs = outputs.0; reply = reply.0 }, reply.1)

-- ---- the bodies of frames, which are read to their ends

-- nothing is left behind what was read
abbrev pub to_end : {A : Type 0} → List ℕ → Result (A × ℕ) Refusal → Result A Refusal
to_end bytes read = do
  found ← read
  if nat_lt found.1 (length bytes) then Err (Long (length bytes - found.1)) else Ok found.0

-- the reply to a lane
unfoldable pub lane_reply_at : List ℕ → ℕ → Result ((ℕ × Told) × ℕ) Refusal
lane_reply_at bytes at = do
  lane ← u8_at bytes at
  reply ← reply_at bytes lane.1
  Ok ((lane.0, reply.0), reply.1)

unfoldable pub lane_reply_of : List ℕ → Result (ℕ × Told) Refusal
lane_reply_of body = to_end body (lane_reply_at body 0)

-- the numbers of a config
unfoldable pub shape_at : List ℕ → ℕ → Result (Shape × ℕ) Refusal
shape_at bytes at = do
  replicas ← u8_at bytes at
  shards ← u8_at bytes replicas.1
  orderers ← u8_at bytes shards.1
  gatherers ← u8_at bytes orderers.1
  Ok (record { replicas = replicas.0; shards = shards.0; orderers = orderers.0; gatherers = gatherers.0 }, gatherers.1)

-- the numbers of a config, in range
unfoldable pub config_at : List ℕ → ℕ → Result (Shape × ℕ) Refusal
config_at bytes at = do
  found ← shape_at bytes at
  if is_some (wrong_part found.0) then Err (BadNumber at) else Ok found

-- a run from 1 to 1,000,000
unfoldable pub run_at : List ℕ → ℕ → Result (ℕ × ℕ) Refusal
run_at bytes at = do
  run ← u32_at bytes at
  if nat_lt run.0 1 || nat_lt 1000000 run.0 then Err (BadNumber at) else Ok run

unfoldable pub head_at : List ℕ → ℕ → Result ((Shape × ℕ) × ℕ) Refusal
head_at bytes at = do
  config ← config_at bytes at
  run ← run_at bytes config.1
  Ok ((config.0, run.0), run.1)

unfoldable pub head_of : List ℕ → Result (Shape × ℕ) Refusal
head_of body = to_end body (head_at body 0)

-- a disk and a payload, which is the rest
unfoldable pub kept_of : List ℕ → Result Kept Refusal
kept_of body = do
  disk ← u32_at body 0
  Ok (record { disk = disk.0; payload = drop 4 body })

-- a node, and what happened there
unfoldable pub node_happened_at : List ℕ → ℕ → Result ((NodeId × ToldHappened) × ℕ) Refusal
node_happened_at bytes at = do
  node ← u16_at bytes at
  happened ← happened_at bytes node.1
  Ok ((record { 0 = node.0 }, happened.0), happened.1)

unfoldable pub event_of : List ℕ → Result (NodeId × ToldHappened) Refusal
event_of body = to_end body (node_happened_at body 0)
