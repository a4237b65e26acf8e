-- The replies to the items of lanes have spellings.
use Rattle.std.proofs.Common.{◌≡◌, ◌==◌, ◌+◌, ◌≤◌, ◌<◌, ℕ, zero, suc, Bool, true, false, cond, nat_lt, List, [], ◌∷◌, ◌++◌, length, get_or, slice_get, Option, Some, None, refl, sym, subst, ◌∙◌, length-append, arith}
use Rattle.std.specs.List.{AllByRecursion, flat_map}
use Rattle.std.proofs.lemmas.Option.{none-some, same_Some, slice_get-get_or, slice_get_within}
use Rattle.answer_law.proofs.Spelled.{next_answers}
use Rattle.client_session.specs.Sessions.{Drawing}
use Rattle.client_session.specs.declared.pair.Pair.{Pair}
use Rattle.cluster.specs.History.{as_event}
use Rattle.cluster.proofs.Fitting.{all_got}
use Rattle.command_frame.specs.Items.{IsItem}
use Rattle.command_frame.specs.Streams.{unplaced}
use Rattle.command_frame.specs.declared.items.Item.{Item}
use Rattle.command_frame.specs.declared.items.Item.TheVariants.{Append, Read, Subscribe, Trim, Add, Finalise, Ask, Fault}
use Rattle.history_frame.specs.declared.events.Event.{Event}
use Rattle.history_frame.specs.declared.events.Happened.{Happened}
use Rattle.history_frame.specs.Spelling.{IsEvent, IsHappened, event_size, input_spelling, mark_byte, sent_spelling}
use Rattle.log_base.specs.ClusterShape.{Shape}
use Rattle.log_base.specs.declared.numbers.NodeId.{NodeId}
use Rattle.node_model.specs.Legal.{AreNext, IsLegal}
use Rattle.node_model.specs.NodeState.{KeptLists}
use Rattle.node_table.specs.Numbering.{nodes_of}
use Rattle.quiet_run.proofs.Coming.{legal_push}
use Rattle.reply_frame.specs.declared.replies.Reply.{Reply, Stream'}
use Rattle.reply_frame.specs.Replies.{HasSpelling, IsNodeAnswer, reply_bytes}
use Rattle.lane_work.specs.Items.{ItemsGo, items_of, lane_of}
use Rattle.lane_work.specs.Stages.{IsReplyAt, after_event, after_events, after_item, asks_last, begun}
use Rattle.lane_work.specs.declared.stages.Asking.{Asking}
use Rattle.lane_work.specs.declared.stages.Stage.{Stage}
use Rattle.lane_work.specs.declared.stages.Stage.TheVariants.{Asks, Turns, Replied}
use Rattle.tied_cells.specs.declared.account.Account.{Account}
use Rattle.tied_cells.specs.declared.board.Own.{Own}
use Rattle.cluster_run.specs.Ordering.{AreInOrder}
use Rattle.cluster_run.proofs.Taken.{StandsSpelled, answer_so, nothing_spelled, spent_spelled}

-- ---- events

-- the reply of an event has a spelling, and is one that a node gives
abbrev pub IsTold : Event → Type 0
IsTold event = HasSpelling event.happened.reply × IsNodeAnswer event.happened.reply

reply_spelled : (happened : Happened) → IsHappened happened → HasSpelling happened.reply
reply_spelled happened h =
    let size : event_size happened ≤ 2097156 = h.size in
    let behind = flat_map sent_spelling happened.outputs ++ reply_bytes happened.reply in
    let all = length-append (input_spelling happened.input) (mark_byte happened.mark ∷ (length happened.outputs ∷ behind)) in
    let last = length-append (flat_map sent_spelling happened.outputs) (reply_bytes happened.reply) in
    (h.reply, omega (arith, size, all, last))

module _ (config : Shape) (run : ℕ) (kept : KeptLists) where
  told_from : (before events : List Event) → IsLegal config run kept before → AreNext config run kept before events → AllByRecursion IsEvent events → AllByRecursion IsTold events
  told_from before [] legal next h = tt
  told_from before (event ∷ events) legal next h = (
    (reply_spelled event.happened h.0, next_answers config run kept before legal event next.0),
    told_from (before ++ event ∷ []) events (legal_push config run kept before legal event next.0) next.1 h.1,
  )

  pub all_told : (events : List Event) → IsLegal config run kept events → AllByRecursion IsEvent events → AllByRecursion IsTold events
  all_told events legal h =
      told_from [] events (record { config_in_range = legal.config_in_range; sound = legal.sound; follow = tt }) legal.follow h

pub all_there : {X : Type 0} (P : X → Type 0) (xs : List X) (k : ℕ) (x : X) → AllByRecursion P xs → slice_get xs k ≡ Some x → P x
all_there P [] k x h there = absurd (none-some x there)
all_there P (y ∷ xs) zero x h there = subst P (same_Some y x there) h.0
all_there P (y ∷ xs) (suc k) x h there = all_there P xs k x h.1 there

all_front : {X : Type 0} (P : X → Type 0) (xs ys : List X) → AllByRecursion P (xs ++ ys) → AllByRecursion P xs
all_front P [] ys h = tt
all_front P (x ∷ xs) ys h = (h.0, all_front P xs ys h.1)

all_back : {X : Type 0} (P : X → Type 0) (xs ys : List X) → AllByRecursion P (xs ++ ys) → AllByRecursion P ys
all_back P [] ys h = h
all_back P (x ∷ xs) ys h = all_back P xs ys h.1

-- ---- items

module _ (config : Shape) where
  last_so : (last : Option Pair) → StandsSpelled (asks_last last)
  last_so None = (tt, omega arith)
  last_so (Some pair) = tt

  begun_so : (session : Drawing) (item : Item) → IsItem config item → StandsSpelled (begun config session item)
  begun_so session (Append lane shard replica bytes) h = tt
  begun_so session (Read lane shard replica position) h = tt
  begun_so session (Subscribe lane shard replica from count) h =
      let few = h.5 in record { each = tt; from = h.3; few = omega arith; room = omega arith }
  begun_so session (Trim lane position) h = tt
  begun_so session (Add lane shard) h = tt
  begun_so session (Finalise lane shard) h = tt
  begun_so session (Ask lane) h = last_so session.last
  begun_so session (Fault lane fault) h = nothing_spelled

  turn_so : (next : NodeId) (asking : Asking) (more : Bool) → StandsSpelled (Turns next asking)
      → StandsSpelled (cond more (Turns (record { 0 = next.0 + 1 }) asking) (Asks asking))
  turn_so next asking true h = h
  turn_so next asking false h = h

  event_so : (stage : Stage) (event : Own Happened) → IsTold (as_event event) → StandsSpelled stage → StandsSpelled (after_event config stage event)
  event_so (Asks asking) event told h = answer_so config asking h asking.due.awaited event.happened.reply told.0 told.1 h
  event_so (Turns next asking) event told h = turn_so next asking (nat_lt (next.0 + 1) (nodes_of config)) h
  event_so (Replied reply) event told h = h

  events_so : (stage : Stage) (events : List (Own Happened)) → AllByRecursion (λ (own : Own Happened). IsTold (as_event own)) events → StandsSpelled stage
      → StandsSpelled (after_events config stage events)
  events_so stage [] told h = h
  events_so stage (event ∷ events) told h = events_so (after_event config stage event) events told.1 (event_so stage event told.0 h)

  -- where the last answer of a stream stands changes no spelling
  placed : (reply : Reply) → HasSpelling (unplaced reply) → HasSpelling reply
  placed (Stream' from entries at last) h = h
  placed reply h = h

  end_so : (account : Account) (later : List (Own Happened)) (stage : Stage) (reply : Reply) → StandsSpelled stage → IsReplyAt account later stage reply → HasSpelling reply
  end_so account later (Asks asking) reply h cut = subst HasSpelling (sym cut.told) (spent_spelled account.used)
  end_so account later (Turns next asking) reply h cut = subst HasSpelling (sym cut.told) (spent_spelled account.used)
  end_so account later (Replied told) reply h same = placed reply (subst HasSpelling (sym same) h)

  pub items_spelled : (lane : ℕ) (account : Account) (session : Drawing) (items : List Item) (events : List (Own Happened)) (replies : List Reply)
      → ItemsGo config lane account session items events replies → AllByRecursion (IsItem config) items
      → AllByRecursion (λ (own : Own Happened). IsTold (as_event own)) events → AllByRecursion HasSpelling replies
  items_spelled lane account session [] events replies go each told = subst (AllByRecursion HasSpelling) (sym go.1) tt
  items_spelled lane account session (item ∷ items) events replies go each told =
      let all = subst (AllByRecursion (λ (own : Own Happened). IsTold (as_event own))) go.events_are told in
      let own = all_front (λ (own : Own Happened). IsTold (as_event own)) go.own (go.led ++ go.later) all in
      let behind = all_back (λ (own : Own Happened). IsTold (as_event own)) go.own (go.led ++ go.later) all in
      let later = all_back (λ (own : Own Happened). IsTold (as_event own)) go.led go.later behind in
      subst (AllByRecursion HasSpelling) (sym go.replies_are) (
        end_so account (go.led ++ go.later) (after_events config (begun config session item) go.own) go.reply
            (events_so (begun config session item) go.own own (begun_so session item each.0)) go.ends,
        items_spelled lane account (after_item config session item) items go.later go.others go.go_on each.1 later,
      )

-- replies in the order of items have spellings, where those of each lane have
pub ordered_spelled : (lanes : List ℕ) (lists : List (List Reply)) (replies : List Reply) → AreInOrder lanes lists replies
    → ((k : ℕ) (list : List Reply) → slice_get lists k ≡ Some list → AllByRecursion HasSpelling list) → AllByRecursion HasSpelling replies
ordered_spelled lanes lists replies order each = all_got HasSpelling replies (λ k reply there.
    let below : k < length replies = slice_get_within replies k reply there in
    let many = order.each in
    let lane = get_or lanes k 0 in
    let at = order.at k lane (slice_get-get_or lanes k 0 (omega arith)) in
    from_list (get_or lists lane []) _ reply (each_or lane) (sym at ∙ there))
  where
    from_list : (list : List Reply) (n : ℕ) (reply : Reply) → AllByRecursion HasSpelling list → slice_get list n ≡ Some reply → HasSpelling reply
    from_list list n reply h there = all_there HasSpelling list n reply h there

    default_or : (lists : List (List Reply)) → ((k : ℕ) (list : List Reply) → slice_get lists k ≡ Some list → AllByRecursion HasSpelling list) → (k : ℕ)
        → AllByRecursion HasSpelling (get_or lists k [])
    default_or [] h k = tt
    default_or (list ∷ lists) h zero = h zero list refl
    default_or (list ∷ lists) h (suc k) = default_or lists (λ j l there. h (suc j) l there) k

    each_or : (k : ℕ) → AllByRecursion HasSpelling (get_or lists k [])
    each_or k = default_or lists each k

kept_or_not : {X : Type 0} (P : X → Type 0) (b : Bool) (x : X) (xs : List X) → P x → AllByRecursion P xs → AllByRecursion P (cond b (x ∷ xs) xs)
kept_or_not P true x xs here rest = (here, rest)
kept_or_not P false x xs here rest = rest

-- what is so of all items is so of those of a lane
pub all_of_lane : (P : Item → Type 0) (lane : ℕ) (items : List Item) → AllByRecursion P items → AllByRecursion P (items_of lane items)
all_of_lane P lane [] h = tt
all_of_lane P lane (item ∷ items) h = kept_or_not P (lane_of item == lane) item (items_of lane items) h.0 (all_of_lane P lane items h.1)
