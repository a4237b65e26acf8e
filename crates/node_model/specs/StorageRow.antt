-- The rule of a storage node: what a replica of a shard does at each input.
use Rattle.std.specs.Prelude.{ℕ, zero, suc, ◌%◌, length, List, [], ◌∷◌, ◌++◌, Bool, true, false, ◌==◌, if◌then◌else◌, Option, Some, None, slice_get, slice_index}
use Rattle.reply_frame.specs.declared.replies.Reply.{Reply, Nothing, Stored as StoredAt, Stale as StaleEntry, NotAdded as NoShard, Finalised as Closed, Full as NoRoom, At as StandsAt, PendingAsk, FinalisedAt as FrozenAt, Missing as NotThere, Found as FoundAt, Trimmed as GivenUp, PendingRead, Elsewhere as OtherShard}
use Rattle.history_frame.specs.declared.events.Sent.{Sent}
use Rattle.history_frame.specs.declared.inputs.Call.{Call}
use Rattle.history_frame.specs.declared.inputs.Call.TheVariants.{Submit, Ask, Read}
use Rattle.history_frame.specs.declared.inputs.Input.{Input}
use Rattle.history_frame.specs.declared.inputs.Input.TheVariants.{Deliver, Call as ACall, Tick, Lead, Stop, Restart}
use Rattle.history_frame.specs.declared.inputs.Mark.{Mark}
use Rattle.log_base.specs.ClusterShape.{Shape}
use Rattle.log_model.specs.Asking.{Asked, At, Pending as PendingAsked, FinalisedAt, Stale as StaleAsked, Missing, ask}
use Rattle.log_model.specs.Learning.{known_after}
use Rattle.log_model.specs.Reading.{ReadAnswer, Found, Trimmed, Pending as PendingPosition, Elsewhere, read}
use Rattle.log_model.specs.Storage.{Member, Knowledge, list_in, report_of, with_entry}
use Rattle.log_model.specs.Submitting.{Submission, Submitted, Stored, Stale, NotAdded, Finalised, Full, submit}
use Rattle.message_frame.specs.declared.messages.Message.{Message}
use Rattle.message_frame.specs.declared.messages.Message.TheVariants.{Copy, CopyAck, Decide}
use Rattle.node_table.specs.Numbering.{gatherer_of, orderer_node, storage_node}
use Rattle.peer_copy.specs.Copying.{Copying, after_note, offsets_of, span_of_note, taking_of, window_at}
use Rattle.peer_copy.specs.declared.taking.Taking.{Taking}
use Rattle.peer_copy.specs.declared.taking.Taking.TheVariants.{Put as IsNext, Have as IsThere, Gap as IsMissing}
use Rattle.record_frame.specs.declared.entries.Entry.{Entry}
use Rattle.record_frame.specs.declared.values.Value.{Value}
use Rattle.record_frame.specs.Entries.{entry_of}
use Rattle.node_model.specs.Marks.{Names, RoleOf, made_by}
use Rattle.node_model.specs.Messages.{copy_message, copied_message, report_message, want_message}
use Rattle.node_model.specs.Nodes.{letter}
use Rattle.node_model.specs.StorageNode.{Put, Replica, StorageChange, StorageNode, StorageOutcome, fresh}

-- a row that puts nothing: it answers, or it sends letters
abbrev pub answered : Replica → Reply → StorageChange
answered memory reply = record { put = None; after = memory; outputs = []; reply = reply }

abbrev pub told : Replica → List Sent → StorageChange
told memory outputs = record { put = None; after = memory; outputs = outputs; reply = Nothing }

-- a submission: the entry is put at the end of the own list, or the answer says why not
abbrev pub submit_reply : Submitted → Reply
submit_reply (Stored offset) = StoredAt offset
submit_reply (Stale last) = StaleEntry (record { 0 = last })
submit_reply NotAdded = NoShard
submit_reply Finalised = Closed
submit_reply Full = NoRoom

abbrev pub put_into : ℕ → Option Entry → Option Put
put_into segment None = None
put_into segment (Some entry) = Some (record { segment = segment; entry = entry })

abbrev pub submitted_as : Member → Replica → Submission → StorageChange
submitted_as member memory submission = record {
  put = put_into member.own submission.put;
  after = memory;
  outputs = [];
  reply = submit_reply submission.answer;
}

unfoldable pub on_submit : Member → List (List Entry) → Replica → Entry → StorageChange
on_submit member lists memory entry =
    submitted_as member memory (submit member (list_in lists member.own) memory.known entry)

-- the answer to one who asks for a pair of client and number
abbrev pub ask_reply : Asked → Reply
ask_reply (At position) = StandsAt (record { 0 = position })
ask_reply (PendingAsked covered) = PendingAsk covered
ask_reply (FinalisedAt frozen) = FrozenAt frozen
ask_reply (StaleAsked last) = StaleEntry (record { 0 = last })
ask_reply Missing = NotThere

unfoldable pub on_ask : Member → List (List Entry) → Replica → ℕ → ℕ → StorageChange
on_ask member lists memory client number =
    answered memory (ask_reply (ask member (list_in lists member.own) memory.known client number))

-- the answer to one who reads a position
abbrev pub read_reply : ℕ → ReadAnswer → Reply
read_reply position (Found entry) = FoundAt (record { 0 = position }) entry
read_reply position (Trimmed mark) = GivenUp (record { 0 = mark })
read_reply position (PendingPosition end) = PendingRead (record { 0 = end })
read_reply position (Elsewhere shard) = OtherShard (record { 0 = shard })

unfoldable pub on_read : Member → List (List Entry) → Replica → ℕ → StorageChange
on_read member lists memory position = answered memory (read_reply position (read member lists memory.known position))

-- how much of each list it holds, told to the gatherer of its shard
abbrev pub report : Shape → Member → List (List Entry) → Sent
report config member lists =
    letter (gatherer_of config member.shard) (report_message member.shard member.own (report_of lists))

-- to the primary of a segment: how much of that segment it holds
abbrev pub ack : Shape → Member → ℕ → List (List Entry) → Sent
ack config member segment lists =
    letter (storage_node config member.shard segment) (copied_message member.own (length (list_in lists segment)))

-- A copy that is next is put, acknowledged and reported. Any other is acknowledged alone.
abbrev pub copied_as : Shape → Member → List (List Entry) → Replica → Put → Taking → StorageChange
copied_as config member lists memory put IsNext =
    let now = with_entry lists put.segment put.entry in
    record { put = Some put; after = memory; outputs = ack config member put.segment now ∷ report config member now ∷ []; reply = Nothing }
copied_as config member lists memory put IsThere = told memory (ack config member put.segment lists ∷ [])
copied_as config member lists memory put IsMissing = told memory (ack config member put.segment lists ∷ [])

unfoldable pub on_copy : Shape → Member → List (List Entry) → Replica → Put → ℕ → StorageChange
on_copy config member lists memory put offset =
    copied_as config member lists memory put (taking_of offset (length (list_in lists put.segment)))

-- copies of the own list's entries at some offsets, to a peer
abbrev pub copy_letter : Shape → Member → ℕ → ℕ → Option Entry → List Sent
copy_letter config member peer offset None = []
copy_letter config member peer offset (Some entry) =
    letter (storage_node config member.shard peer) (copy_message member.own offset entry) ∷ []

abbrev pub copies : Shape → Member → List Entry → ℕ → List ℕ → List Sent
copies config member own peer [] = []
copies config member own peer (offset ∷ offsets) =
    copy_letter config member peer offset (slice_get own offset) ++ copies config member own peer offsets

-- a peer says how much it holds: what comes into its window is sent
unfoldable pub on_copied : Shape → Member → List Entry → Replica → ℕ → ℕ → StorageChange
on_copied config member own memory peer held =
    told (record memory { copying = after_note memory.copying peer held })
    (copies config member own peer (offsets_of (span_of_note (slice_index memory.copying.acked peer) held (length own))))

-- a value is decided
unfoldable pub on_decide : Member → Replica → ℕ → Value → StorageChange
on_decide member memory slot value = told (record memory { known = known_after member memory.known slot value }) []

-- what each of so many replicas, from one on, has in its window, but for the own one
abbrev pub windows : Shape → Member → List Entry → Copying → ℕ → ℕ → List Sent
windows config member own copying peer zero = []
windows config member own copying peer (suc count) =
    (if peer == member.own then []
    else copies config member own peer (offsets_of (window_at (slice_index copying.acked peer) (length own))))
    ++ windows config member own copying (suc peer) count

-- to an orderer, taken in turn: from which slot on values are wanted
abbrev pub want : Shape → Member → Replica → Sent
want config member memory =
    letter (orderer_node config (memory.ticks % config.orderers))
    (want_message memory.known.count (storage_node config member.shard member.own))

-- time passes: the windows are sent to the peers again, then the report, then the want
unfoldable pub on_tick : Shape → Member → List (List Entry) → Replica → StorageChange
on_tick config member lists memory =
    told (record memory { ticks = suc memory.ticks })
    (windows config member (list_in lists member.own) memory.copying 0 member.replicas
    ++ report config member lists ∷ want config member memory ∷ [])

-- the row of a message; none where the message is not for a storage node
abbrev pub message_row : Shape → Member → List (List Entry) → Replica → Message → Option StorageChange
message_row config member lists memory (Copy segment offset entry) =
    Some (on_copy config member lists memory (record { segment = segment.0; entry = entry }) offset)
message_row config member lists memory (CopyAck peer held) =
    Some (on_copied config member (list_in lists member.own) memory peer.0 held)
message_row config member lists memory (Decide slot value) = Some (on_decide member memory slot.0 value)
message_row config member lists memory _ = None

-- the row of a call; none where the call is not for a storage node
abbrev pub call_row : Member → List (List Entry) → Replica → Call → Option StorageChange
call_row member lists memory (Submit client number bytes) = Some (on_submit member lists memory (entry_of client number bytes))
call_row member lists memory (Ask client number) = Some (on_ask member lists memory client.0 number.0)
call_row member lists memory (Read client position) = Some (on_read member lists memory position.0)
call_row member lists memory _ = None

-- the row of an input at a running replica
abbrev pub row : Shape → Member → List (List Entry) → Replica → Input → Option StorageChange
row config member lists memory (Deliver place index (Some message)) = message_row config member lists memory message
row config member lists memory (Deliver place index None) = None
row config member lists memory (ACall call) = call_row member lists memory call
row config member lists memory Tick = Some (on_tick config member lists memory)
row config member lists memory Lead = None
row config member lists memory Stop = None
row config member lists memory Restart = None

-- the messages and calls for a storage node
abbrev pub is_message : Message → Bool
is_message (Copy segment offset entry) = true
is_message (CopyAck peer held) = true
is_message (Decide slot value) = true
is_message _ = false

abbrev pub is_call : Call → Bool
is_call (Submit client number bytes) = true
is_call (Ask client number) = true
is_call (Read client position) = true
is_call _ = false

abbrev pub names : Names
names = record { message = is_message; call = is_call; lead = false }

-- the role of a replica
abbrev pub storage_role : Shape → Member → RoleOf (List (List Entry)) Put Knowledge Replica
storage_role config member = record {
  names = names;
  has_disks = true;
  stored = λ lists put. with_entry lists put.segment put.entry;
  fresh = fresh member;
  known = λ memory. memory.known;
  row = row config member;
}

-- what an event makes of a storage node
unfoldable pub outcome : Shape → Member → StorageNode → Input → Mark → Option StorageOutcome
outcome config member node input mark = made_by (storage_role config member) node input mark
