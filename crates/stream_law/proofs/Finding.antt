-- Reads of a legal history, and what they found.
use Rattle.std.proofs.Common.{◌≡◌, ℕ, List, [], ◌∷◌, ◌++◌, refl, ap, sym, subst, ◌∙◌, append_assoc}
use Rattle.std.specs.List.{AllByRecursion}
use Rattle.std.proofs.lemmas.Option.{none-some, same_Some}
use Rattle.log_base.specs.ClusterShape.{Shape}
use Rattle.log_base.specs.declared.numbers.Client.{Client}
use Rattle.log_base.specs.declared.numbers.Position.{Position}
use Rattle.record_frame.specs.declared.entries.Entry.{Entry}
use Rattle.command_frame.specs.declared.items.Item.{Item}
use Rattle.reply_frame.specs.declared.replies.Reply.{Found as FoundAt}
use Rattle.history_frame.specs.declared.events.Event.{Event}
use Rattle.history_frame.specs.declared.inputs.Call.TheVariants.{Read}
use Rattle.history_frame.specs.declared.inputs.Input.TheVariants.{Call as ACall}
use Rattle.log_model.specs.Reading.{Elsewhere, Found, Pending, ReadAnswer, Trimmed, read}
use Rattle.node_model.specs.Legal.{AreNext, IsLegal, IsNext}
use Rattle.node_model.specs.NodeState.{KeptLists, node_after}
use Rattle.node_model.specs.Sequence.{position_told}
use Rattle.node_model.specs.StorageNode.{member_of}
use Rattle.node_model.specs.StorageRow.{read_reply}
use Rattle.sequence_law.proofs.Answering.{IsSaid, called}
use Rattle.sequence_law.proofs.Moments.{legal_push}
use Rattle.sequence_law.proofs.Replies.{read_answer}
use Rattle.schedule_model.specs.Driven.{IsFollowed, replies_of}
use Rattle.schedule_model.specs.Streams.{IsSingle}
use Rattle.schedule_model.proofs.Singles.{row_reply}
use Rattle.stream_law.specs.Streams.{EachInStream, WasFound}
use Rattle.stream_law.proofs.Streaming.{AreAnswers, streams-good}

-- an entry is told with the position that was read
read_tells : (asked : ℕ) (answer : ReadAnswer) (told : Position) (entry : Entry) → read_reply asked answer ≡ FoundAt told entry → asked ≡ told.0
read_tells asked (Found x) told entry e = same_Some asked told.0 (ap position_told e)
read_tells asked (Trimmed mark) told entry e = absurd (none-some told.0 (ap position_told e))
read_tells asked (Pending end) told entry e = absurd (none-some told.0 (ap position_told e))
read_tells asked (Elsewhere shard) told entry e = absurd (none-some told.0 (ap position_told e))

module _ (config : Shape) (run : ℕ) (kept : KeptLists) where
  tells : (before : List Event) (e : Event) → IsLegal config run kept before → IsNext config run kept before e → (client : Client) (position told : Position) (entry : Entry)
      → e.happened.input ≡ ACall (Read client position) → e.happened.reply ≡ FoundAt told entry → position.0 ≡ told.0
  tells before e now next client position told entry is answer =
      let c = called config run kept before e now next (Read client position) is (subst IsSaid (sym answer) tt) refl in
      read_tells position.0 (read (member_of config c.shard c.replica) c.node.durable c.memory.known position.0) told entry
      (sym (read_answer config c.shard c.replica c.node.durable c.memory client.0 position.0 c.change c.rule) ∙ sym c.reply ∙ answer)

  answers-from : (before events all : List Event) → before ++ events ≡ all → IsLegal config run kept before → AreNext config run kept before events
      → AreAnswers (WasFound all) events
  answers-from before [] all parts now next = tt
  answers-from before (e ∷ events) all parts now next = (
    (
      row_reply config e.node.0 (node_after config kept before e.node.0) e.happened next.0.row,
      λ client position told entry is answer.
          let same : position.0 ≡ told.0 = tells before e now next.0 client position told entry is answer in
          record {
            before = before;
            event = e;
            after = record { more = events; parts = parts };
            client = client.0;
            asked = is;
            told = subst (λ (k : ℕ). e.happened.reply ≡ FoundAt (record { 0 = k }) entry) (sym same) answer;
          },
    ),
    answers-from (before ++ e ∷ []) events all (append_assoc before (e ∷ []) events ∙ parts) (legal_push config run kept before e now next.0) next.1,
  )

  -- no node answers with a stream, and what a read found was found
  pub answers_of : (events : List Event) → IsLegal config run kept events → AreAnswers (WasFound events) events
  answers_of events legal =
      let first : IsLegal config run kept [] = record { config_in_range = legal.config_in_range; sound = legal.sound; follow = tt } in
      answers-from [] events events refl first legal.follow

  -- no node answers with a stream
  pub singles : (before events : List Event) → AreNext config run kept before events → AllByRecursion (λ (e : Event). IsSingle e.happened.reply) events
  singles before [] next = tt
  singles before (e ∷ events) next =
      (row_reply config e.node.0 (node_after config kept before e.node.0) e.happened next.0.row, singles (before ++ e ∷ []) events next.1)

  pub streams_found : (items : List Item) (events : List Event) → IsLegal config run kept events → IsFollowed config run items events
      → AllByRecursion (EachInStream (WasFound events)) (replies_of config run items events)
  streams_found items events legal follow = streams-good (WasFound events) config run items events follow (answers_of events legal)
