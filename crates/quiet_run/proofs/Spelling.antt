-- The history of a run and its replies have spellings.
use Rattle.std.proofs.Common.{◌≤◌, ℕ, List, [], ◌∷◌, ◌++◌, length, subst, arith}
use Rattle.std.specs.List.{AllByRecursion, flat_map}
use Rattle.std.proofs.lemmas.List.{length-append}
use Rattle.command_frame.specs.declared.items.Item.{Item}
use Rattle.reply_frame.specs.declared.replies.Reply.{Reply, Nothing, NoLeader, NoLetter, NothingKept, Done}
use Rattle.reply_frame.specs.Replies.{HasSpelling, IsNodeAnswer, reply_bytes}
use Rattle.command_frame.specs.Items.{IsItem}
use Rattle.history_frame.specs.declared.events.Event.{Event}
use Rattle.history_frame.specs.declared.events.Happened.{Happened}
use Rattle.history_frame.specs.declared.events.History.{History}
use Rattle.history_frame.specs.Spelling.{InPlace, IsEvent, IsHappened, IsHistory, event_size, input_spelling, mark_byte, sent_spelling}
use Rattle.log_base.specs.ClusterShape.{Shape}
use Rattle.log_base.specs.Shape.{shape}
use Rattle.log_base.specs.Wide.{be4}
use Rattle.node_model.specs.Legal.{AreNext, IsLawful, IsLegal}
use Rattle.node_model.specs.NodeState.{KeptLists}
use Rattle.node_model.specs.Sound.{payloads_on}
use Rattle.schedule_model.specs.Driven.{replies_of}
use Rattle.schedule_model.specs.Streams.{stream_of}
use Rattle.schedule_model.proofs.Replying.{IsNotFound, IsStream, replies-good}
use Rattle.subscriber.specs.Following.{Following}
use Rattle.quiet_run.specs.Spelled.{AreKept}
use Rattle.answer_law.proofs.Spelled.{next_answers}
use Rattle.quiet_run.proofs.Coming.{legal_push}
use Rattle.quiet_run.proofs.StreamSpelling.{stream_spelled}

module _ (P : Reply → Type 0) where
  -- the replies of a legal history are nodes' answers
  answers_too : (config : Shape) (run : ℕ) (kept : KeptLists) (before events : List Event) → IsLegal config run kept before → AreNext config run kept before events
      → AllByRecursion (λ (e : Event). P e.happened.reply) events → AllByRecursion (λ (e : Event). P e.happened.reply × IsNodeAnswer e.happened.reply) events
  answers_too config run kept before [] legal next h = tt
  answers_too config run kept before (event ∷ events) legal next h = (
    (h.0, next_answers config run kept before legal event next.0),
    answers_too config run kept (before ++ event ∷ []) events (legal_push config run kept before legal event next.0) next.1 h.1,
  )

  -- what is so of each answer in a legal history, and of streams, is so of each reply
  pub replies_of_legal : P NoLeader → P NothingKept → P Done → ((waiting : ℕ) → waiting ≤ 1000000 → P (NoLetter waiting)) → P Nothing
      → ((stream : Following) (last : Reply) → IsStream P stream → P last → IsNodeAnswer last → IsNotFound last → P (stream_of stream last))
      → (config : Shape) (run : ℕ) (kept : KeptLists) (items : List Item) (events : List Event) → IsLegal config run kept events
      → AllByRecursion (IsItem config) items → AllByRecursion (λ (e : Event). P e.happened.reply) events → AllByRecursion P (replies_of config run items events)
  replies_of_legal no_leader nothing_kept done no_letter nothing streams config run kept items events legal each h =
      let first : IsLegal config run kept [] = record { config_in_range = legal.config_in_range; sound = legal.sound; follow = tt } in
      replies-good P no_leader nothing_kept done no_letter nothing streams config run items events each (answers_too config run kept [] events first legal.follow h)

-- so has the reply of an event that has one
reply_spelled : (happened : Happened) → IsHappened happened → HasSpelling happened.reply
reply_spelled happened h =
    let size : event_size happened ≤ 2097156 = h.size in
    let behind = flat_map sent_spelling happened.outputs ++ reply_bytes happened.reply in
    let all = length-append (input_spelling happened.input) (mark_byte happened.mark ∷ (length happened.outputs ∷ behind)) in
    let last = length-append (flat_map sent_spelling happened.outputs) (reply_bytes happened.reply) in
    (h.reply, omega (arith, size, all, last))

answers_spelled : (events : List Event) → AllByRecursion IsEvent events → AllByRecursion (λ (e : Event). HasSpelling e.happened.reply) events
answers_spelled [] h = tt
answers_spelled (event ∷ events) h = (reply_spelled event.happened h.0, answers_spelled events h.1)

letter_spelled : (waiting : ℕ) → waiting ≤ 1000000 → HasSpelling (NoLetter waiting)
unfolding be4
letter_spelled waiting few = (tt, omega arith)

pub all_replies_spelled : (config : Shape) (run : ℕ) (kept : KeptLists) (items : List Item) (events : List Event) → IsLegal config run kept events
    → AllByRecursion (IsItem config) items → AllByRecursion IsEvent events → AllByRecursion HasSpelling (replies_of config run items events)
all_replies_spelled config run kept items events legal each h =
    replies_of_legal HasSpelling (tt, omega arith) (tt, omega arith) (tt, omega arith) letter_spelled (tt, omega arith) stream_spelled config run kept items events legal each (answers_spelled events h)

-- the events of a legal history stand at their places
in_place : (config : Shape) (run : ℕ) (kept : KeptLists) (before events : List Event) → AreNext config run kept before events → InPlace (length before) events
in_place config run kept before [] h = tt
in_place config run kept before (event ∷ events) h = (
  h.0.place,
  subst (λ (n : ℕ). InPlace n events) (length-append before (event ∷ [])) (in_place config run kept (before ++ event ∷ []) events h.1),
)

pub history_is_spelled : (history : History) → 1 ≤ history.run → history.run ≤ 1000000 → IsLawful history → AllByRecursion IsEvent history.events
    → AreKept history.kept → IsHistory history
history_is_spelled history some few lawful events kept = record {
  some_run = some;
  run = few;
  disks = kept.disks;
  kept = kept.fit;
  places = in_place (shape history.config) history.run (payloads_on history.kept) [] history.events lawful.follow;
  events = events;
}
