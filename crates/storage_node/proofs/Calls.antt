-- The rows of the calls, by what the replica answers.
use Rattle.std.proofs.Common.{◌≡◌, ℕ, ◌<◌, ◌≤◌, false, List, [], ◌++◌, length, refl, sym, ap, ◌∙◌, subst, arith, length-append}
use Rattle.reply_frame.specs.declared.replies.Reply.{Reply}
use Rattle.reply_frame.specs.Replies.{entry_bytes, reply_bytes}
use Rattle.history_frame.specs.declared.events.Sent.{Sent}
use Rattle.history_frame.specs.declared.inputs.Call.TheVariants.{Ask, Read}
use Rattle.history_frame.specs.declared.inputs.Input.TheVariants.{Call as ACall}
use Rattle.history_frame.specs.declared.inputs.Mark.TheVariants.{Done}
use Rattle.log_base.specs.declared.numbers.Client.{Client}
use Rattle.log_base.specs.declared.numbers.Number.{Number}
use Rattle.log_base.specs.declared.numbers.Position.{Position}
use Rattle.log_base.specs.Wide.{be2, be4, be8}
use Rattle.log_base.proofs.Wide.{length-be2, length-be4, length-be8}
use Rattle.log_model.specs.Asking.{Asked as AskedSo, ask}
use Rattle.log_model.specs.Reading.{ReadAnswer as ReadSo, read}
use Rattle.log_model.specs.Storage.{list_in}
use Rattle.log_model.specs.Submitting.{Submission}
use Rattle.node_model.specs.StorageRow.{ask_reply, on_ask, on_read, read_reply, submit_reply}
use Rattle.record_frame.specs.declared.entries.Entry.{Entry}
use Rattle.record_frame.specs.Entries.{entry_of}
use Rattle.shard_replica.specs.declared.answers.Asked.{Asked}
use Rattle.shard_replica.specs.declared.answers.Asked.TheVariants.{At as AtNow, Pending as PendingNow, FinalisedAt as FinalisedNow, Stale as StaleNow, Missing as MissingNow}
use Rattle.shard_replica.specs.declared.answers.ReadAnswer.{ReadAnswer}
use Rattle.shard_replica.specs.declared.answers.ReadAnswer.TheVariants.{Found as FoundNow, Trimmed as TrimmedNow, Pending as PendingEnd, Elsewhere as ElsewhereNow}
use Rattle.shard_replica.specs.declared.answers.Submitted.{Submitted}
use Rattle.shard_replica.specs.declared.answers.Submitted.TheVariants.{Stored, Stale, NotAdded, Finalised, Full, Halted as PutFailed}
use Rattle.shard_replica.specs.Answers.{HasRecordSize, TellsRead, TellsSubmitted, asked_so, is_halted}
use Rattle.shard_replica.specs.Replica.{Replicated, ReplicaState, own_entries, lists_of, member_of}
use Rattle.shard_replica.proofs.Held.{list-of}
use Rattle.storage_node.specs.declared.node.Mode.{Mode}
use Rattle.storage_node.specs.declared.node.Mode.TheVariants.{Running}
use Rattle.history_frame.specs.declared.events.Effect.{Effect}
use Rattle.storage_node.specs.Replies.{reply_so, reply_to_asked, reply_to_submitted}
use Rattle.storage_node.specs.StorageState.{StorageState, lists_in, member_in, memory_of, mode_of}
use Rattle.storage_node.specs.Turning.{IsSmall, TurnsOut}
use Rattle.storage_node.proofs.Counting.{counts-same}
use Rattle.storage_node.proofs.Rows.{as_node, turns-done}

-- a short reply and no letter
pub reply-small : (sent : List Sent) (answer reply : Reply) → sent ≡ [] → answer ≡ reply → length (reply_bytes reply) ≤ 65558 → IsSmall sent answer
reply-small sent answer reply none is short =
    subst (λ (l : List Sent). IsSmall l answer) (sym none) (subst (λ (r : Reply). IsSmall [] r) (sym is) (record { few = omega arith; letters = tt; reply = short }))

pub submitted-short : (answer : Submitted) → length (reply_bytes (reply_to_submitted answer)) ≤ 65558
submitted-short (Stored offset) = omega (arith, length-be4 offset)
submitted-short (Stale last) = omega (arith, length-be8 last.0)
submitted-short NotAdded = omega arith
submitted-short Finalised = omega arith
submitted-short Full = omega arith
submitted-short PutFailed = omega arith

asked-short : (answer : Asked) → length (reply_bytes (reply_to_asked answer)) ≤ 65558
asked-short (AtNow position) = omega (arith, length-be8 position.0)
asked-short (PendingNow covered) = omega (arith, length-be4 covered)
asked-short (FinalisedNow frozen) = omega (arith, length-be4 frozen)
asked-short (StaleNow last) = omega (arith, length-be8 last.0)
asked-short MissingNow = omega arith

-- the replies of the rule
asked-reply : (answer : Asked) (so : AskedSo) → asked_so answer ≡ so → reply_to_asked answer ≡ ask_reply so
asked-reply (AtNow position) so e = ap ask_reply e
asked-reply (PendingNow covered) so e = ap ask_reply e
asked-reply (FinalisedNow frozen) so e = ap ask_reply e
asked-reply (StaleNow last) so e = ap ask_reply e
asked-reply MissingNow so e = ap ask_reply e

pub submitted-reply : (answer : Submitted) (submission : Submission) → is_halted answer ≡ false → TellsSubmitted answer submission → reply_to_submitted answer ≡ submit_reply submission.answer
submitted-reply (Stored offset) submission run told = ap submit_reply (sym told)
submitted-reply (Stale last) submission run told = ap submit_reply (sym told)
submitted-reply NotAdded submission run told = ap submit_reply (sym told)
submitted-reply Finalised submission run told = ap submit_reply (sym told)
submitted-reply Full submission run told = ap submit_reply (sym told)
submitted-reply PutFailed submission run told = absurd (cc)

-- the own list
pub own-list : (state : ReplicaState) → state.own < length state.segments → list_in (lists_of state) state.own ≡ own_entries state
own-list state within = list-of state.segments state.own within

-- an ask
pub turns-asked : (node : StorageState) (client : Client) (number : Number) (answer : Asked) (turn : Effect) → node.mode ≡ Running
    → node.replica.state.own < length node.replica.state.segments
    → asked_so answer ≡ ask (member_in node) (own_entries node.replica.state) node.replica.state.known client.0 number.0
    → turn.mark ≡ Done → turn.outputs ≡ [] → turn.reply ≡ reply_to_asked answer → TurnsOut node (ACall (Ask client number)) turn node
unfolding on_ask
turns-asked node client number answer turn running within is mark outputs reply =
    let own = own-list node.replica.state within in
    let so = is ∙ ap (λ (es : List Entry). ask (member_in node) es node.replica.state.known client.0 number.0) (sym own) in
    turns-done node node (ACall (Ask client number)) (on_ask (member_in node) (lists_in node) (memory_of node.replica.state node.ticks) client.0 number.0) turn running refl mark
    (ap (λ (m : Mode). as_node (lists_in node) (mode_of m node.replica.state node.ticks)) running)
    outputs (reply ∙ asked-reply answer _ so) refl refl (reply-small turn.outputs turn.reply (reply_to_asked answer) outputs reply (asked-short answer)) tt
    (counts-same node.replica.media node.replica.media refl)

-- a read
pub turns-looked : (node new : StorageState) (client : Client) (position : Position) (turn : Effect) → node.mode ≡ Running → new.mode ≡ Running
    → new.replica ≡ node.replica → new.ticks ≡ node.ticks → turn.mark ≡ Done → turn.outputs ≡ []
    → turn.reply ≡ read_reply position.0 (read (member_in node) (lists_in node) node.replica.state.known position.0)
    → length (reply_bytes turn.reply) ≤ 65558 → TurnsOut node (ACall (Read client position)) turn new
unfolding on_read
turns-looked node new client position turn running runs replica ticks mark outputs reply short =
    turns-done node new (ACall (Read client position)) (on_read (member_in node) (lists_in node) (memory_of node.replica.state node.ticks) position.0) turn running refl mark
    (ap (λ (m : Mode). as_node (lists_in new) (mode_of m new.replica.state new.ticks)) runs
    ∙ ap (λ (r : Replicated). as_node (lists_of r.state) (mode_of Running r.state new.ticks)) replica
    ∙ ap (λ (n : ℕ). as_node (lists_in node) (mode_of Running node.replica.state n)) ticks)
    outputs reply (ap (λ (r : Replicated). r.state.config) replica) (ap (λ (r : Replicated). member_of r.state) replica) (reply-small turn.outputs turn.reply turn.reply outputs refl short) tt
    (counts-same node.replica.media new.replica.media (ap (λ (r : Replicated). r.media) replica))

-- what is read
pub looked-reply : (position : Position) (answer : ReadAnswer) (so : ReadSo) → TellsRead answer so → reply_so position answer ≡ read_reply position.0 so
looked-reply position (FoundNow head bytes) so told = sym (ap (read_reply position.0) told.0)
looked-reply position (TrimmedNow mark) so told = sym (ap (read_reply position.0) told)
looked-reply position (PendingEnd end) so told = sym (ap (read_reply position.0) told)
looked-reply position (ElsewhereNow shard) so told = sym (ap (read_reply position.0) told)

pub looked-short : (position : Position) (answer : ReadAnswer) → HasRecordSize answer → length (reply_bytes (reply_so position answer)) ≤ 65558
looked-short position (FoundNow head bytes) short =
    let client = be2 head.client.0 in
    let number = be8 head.number.0 in
    let size = be4 (length bytes.now) in
    let front = length-append (be8 position.0) (entry_bytes (entry_of head.client head.number bytes.now)) in
    omega (
      arith,
      short,
      front,
      length-be8 position.0,
      length-be2 head.client.0,
      length-be8 head.number.0,
      length-be4 (length bytes.now),
      length-append ((client ++ number) ++ size) bytes.now,
      length-append (client ++ number) size,
      length-append client number,
      length-append client (number ++ (size ++ bytes.now)),
      length-append number (size ++ bytes.now),
      length-append size bytes.now,
    )
looked-short position (TrimmedNow mark) short = omega (arith, length-be8 mark.0)
looked-short position (PendingEnd end) short = omega (arith, length-be8 end.0)
looked-short position (ElsewhereNow shard) short = omega (arith, length-be2 shard.0)
