-- The log of one thread: items answered one after another by looking in one sequence. Its state is the list
-- of values, the list of entries of each segment, how many numbers each lane has drawn, and the primary of each
-- lane's last append.
use Rattle.std.specs.Prelude.{ℕ, ◌+◌, ◌-◌, ◌*◌, List, [], ◌∷◌, ◌++◌, map, length, slice_index, slice_index_or, slice_set, nat_lt, Bool, if◌then◌else◌, Option, Some, None, replicate}
use Rattle.log_base.specs.ClusterShape.{Shape}
use Rattle.log_base.specs.Draws.{number_of_draw}
use Rattle.log_base.specs.declared.numbers.Place.{Place}
use Rattle.log_base.specs.declared.numbers.Position.{Position}
use Rattle.record_frame.specs.declared.entries.Entry.{Entry}
use Rattle.record_frame.specs.declared.values.Lengths.{Lengths}
use Rattle.record_frame.specs.declared.values.Value.{Value}
use Rattle.record_frame.specs.declared.values.Value.TheVariants.{Cut, Add as AddValue, Finalise as FinaliseValue, Trim as TrimValue}
use Rattle.log_model.specs.Asking.{Asked, At as AskedAt, Pending, FinalisedAt as AskedFinalised, Stale as AskedStale, Missing as AskedMissing, ask}
use Rattle.log_model.specs.Chain.{ShardState, Standing, Live, Frozen, chain_of, is_added, state_in}
use Rattle.log_model.specs.Places.{place_at}
use Rattle.log_model.specs.Lookup.{segment_index, entry_at_position, position_of_place}
use Rattle.log_model.specs.Storage.{Member, knowledge_of}
use Rattle.command_frame.specs.declared.items.Item.{Item}
use Rattle.command_frame.specs.declared.items.Item.TheVariants.{Append, Read, Subscribe, Trim, Add, Finalise, Ask, Fault}
use Rattle.reply_frame.specs.declared.replies.Reply.{Reply, Nothing, At, Found, PendingAsk, PendingRead, Finalised, FinalisedAt, NotAdded, Stale, Missing, Trimmed, NoSuchShard, Settled, NothingKept, Done}
use Rattle.plain_log.specs.Streams.{subscribed}

-- the replica of a shard that appends go to
pub record Primary : Type 0 where
  pub shard : ℕ
  pub replica : ℕ

pub record LogState : Type 0 where
  pub values : List Value
  pub segments : List (List Entry)
  pub draws : List ℕ
  pub primaries : List (Option Primary)

-- nothing is decided, no segment has an entry, and none of the 64 lanes has drawn a number
abbrev pub start : Shape → LogState
start shape = record {
  values = [];
  segments = replicate (shape.shards * shape.replicas) [];
  draws = replicate 64 0;
  primaries = replicate 64 None;
}

-- the entry that a lane appends next
abbrev pub next_entry : ℕ → LogState → ℕ → List ℕ → Entry
next_entry run state lane bytes = record {
  client = record { 0 = lane };
  number = record { 0 = number_of_draw run (slice_index state.draws lane) };
  bytes = bytes;
}

-- the lane has drawn one more number, for an append to this replica of this shard
abbrev pub drawn : LogState → ℕ → ℕ → ℕ → LogState
drawn state lane shard replica = record state {
  draws = slice_set state.draws lane (slice_index state.draws lane + 1);
  primaries = slice_set state.primaries lane (Some (record { shard = shard; replica = replica }));
}

-- the primary of a lane's last append, and the number that this append drew
abbrev pub primary_of : LogState → ℕ → Option Primary
primary_of state lane = slice_index_or state.primaries lane None

abbrev pub last_number : ℕ → LogState → ℕ → ℕ
last_number run state lane = number_of_draw run (slice_index state.draws lane - 1)

-- the cut of the lengths of all lists
abbrev pub cut_of : List (List Entry) → Lengths
cut_of segments = record { count = length segments; length = map (λ (entries : List Entry). length entries) segments ++ replicate (32 - length segments) 0 }

-- the list of a segment
abbrev pub entries_of : ℕ → LogState → ℕ → ℕ → List Entry
entries_of replicas state shard segment = slice_index_or state.segments (segment_index replicas shard segment) []

-- a value joins the values
abbrev pub with_value : LogState → Value → LogState
with_value state value = record state { values = state.values ++ value ∷ [] }

-- an entry joins the list of its segment, and the cut of all lists joins the values
abbrev pub stored : ℕ → LogState → ℕ → ℕ → Entry → LogState
stored replicas state shard segment entry =
    let segments = slice_set state.segments (segment_index replicas shard segment) (entries_of replicas state shard segment ++ entry ∷ []) in
    record state { values = state.values ++ Cut (cut_of segments) ∷ []; segments = segments }

-- whether a shard was added
abbrev pub knows : ℕ → LogState → ℕ → Bool
knows replicas state shard = is_added (chain_of replicas state.values) shard

-- the standing in a shard's state, where there is one
abbrev pub found_standing : Option ShardState → Option Standing
found_standing None = None
found_standing (Some state) = Some state.standing

-- the standing of a shard, where it was added
abbrev pub standing_of : ℕ → LogState → ℕ → Option Standing
standing_of replicas state shard = found_standing (state_in (chain_of replicas state.values).shards shard)

-- the state after an entry comes to a shard of this standing: only a live one takes it
abbrev pub after_entry : ℕ → LogState → ℕ → ℕ → Entry → Option Standing → LogState
after_entry replicas state shard segment entry None = state
after_entry replicas state shard segment entry (Some Frozen) = state
after_entry replicas state shard segment entry (Some Live) = stored replicas state shard segment entry

-- The state after an item. An append draws a number, also where its entry is not stored. An addition, a trim, and the
-- finalisation of a shard that was added join the values, also where the chain stays as it is. One thread has no faults: a line of
-- the fault script changes nothing.
abbrev pub after : Shape → ℕ → LogState → Item → LogState
after shape run state (Append lane shard replica bytes) =
    after_entry shape.replicas (drawn state lane shard.0 replica.0) shard.0 replica.0 (next_entry run state lane bytes) (standing_of shape.replicas state shard.0)
after shape run state (Read lane shard replica position) = state
after shape run state (Subscribe lane shard replica from count) = state
after shape run state (Trim lane position) = with_value state (TrimValue position)
after shape run state (Add lane shard) = with_value state (AddValue shard)
after shape run state (Finalise lane shard) = if knows shape.replicas state shard.0 then with_value state (FinaliseValue shard) else state
after shape run state (Ask lane) = state
after shape run state (Fault lane fault) = state

-- where a place stands, as a reply
abbrev pub told_position : Option ℕ → Reply
told_position None = Nothing
told_position (Some position) = At (record { 0 = position })

-- the entry at a position, as a reply
abbrev pub told_entry : Position → Option Entry → Reply
told_entry position None = Nothing
told_entry position (Some entry) = Found position entry

-- what is found at a position: below the mark it is given up, and at or past the end it is pending
abbrev pub read_in : ℕ → LogState → Position → Reply
read_in replicas state position =
    let chain = chain_of replicas state.values in
    if nat_lt position.0 chain.mark then Trimmed (record { 0 = chain.mark })
    else if nat_lt position.0 chain.end then told_entry position (entry_at_position replicas state.values state.segments position.0)
    else PendingRead (record { 0 = chain.end })

-- a replica of a shard, as one that has a list of entries and knows values
abbrev pub member_of : ℕ → Primary → Member
member_of replicas primary = record { shard = primary.shard; own = primary.replica; replicas = replicas }

-- what a replica answers when it is asked for a pair, as a reply
abbrev pub told_asked : Asked → Reply
told_asked (AskedAt position) = At (record { 0 = position })
told_asked (Pending covered) = PendingAsk covered
told_asked (AskedFinalised frozen) = FinalisedAt frozen
told_asked (AskedStale last) = Stale (record { 0 = last })
told_asked AskedMissing = Missing

-- a primary is asked for a pair: it looks in the list of its segment, and knows all values
abbrev pub asked_of : ℕ → LogState → Primary → ℕ → ℕ → Reply
asked_of replicas state primary client number =
    let member = member_of replicas primary in
    told_asked (ask member (entries_of replicas state primary.shard primary.replica) (knowledge_of member state.values) client number)

-- where a lane's last append stands; without one nothing is kept
abbrev pub told_last : ℕ → ℕ → LogState → ℕ → Option Primary → Reply
told_last replicas run state lane None = NothingKept
told_last replicas run state lane (Some primary) = asked_of replicas state primary lane (last_number run state lane)

abbrev pub ask_in : ℕ → ℕ → LogState → ℕ → Reply
ask_in replicas run state lane = told_last replicas run state lane (primary_of state lane)

-- The reply to an append by the standing of its shard. Where it is live, that is the position of the entry's place in
-- what the values with its cut spell.
abbrev pub told_append : ℕ → List Value → Place → Option Standing → Reply
told_append replicas values place None = NotAdded
told_append replicas values place (Some Frozen) = Finalised
told_append replicas values place (Some Live) = told_position (position_of_place replicas values place)

-- a value that joins next is told its index
abbrev pub told_slot : LogState → Reply
told_slot state = Settled (record { 0 = length state.values })

-- The reply to an item. Only a shard that was added is finalised.
abbrev pub reply_to : Shape → ℕ → LogState → Item → Reply
reply_to shape run state (Append lane shard replica bytes) =
    told_append shape.replicas (after shape run state (Append lane shard replica bytes)).values
    (place_at shard.0 replica.0 (length (entries_of shape.replicas state shard.0 replica.0))) (standing_of shape.replicas state shard.0)
reply_to shape run state (Read lane shard replica position) = read_in shape.replicas state position
reply_to shape run state (Subscribe lane shard replica from count) = subscribed (read_in shape.replicas state) from count
reply_to shape run state (Trim lane position) = told_slot state
reply_to shape run state (Add lane shard) = told_slot state
reply_to shape run state (Finalise lane shard) = if knows shape.replicas state shard.0 then told_slot state else NoSuchShard
reply_to shape run state (Ask lane) = ask_in shape.replicas run state lane
reply_to shape run state (Fault lane fault) = Done

-- the replies to items, one after another, from a state on
abbrev pub replies_from : Shape → ℕ → LogState → List Item → List Reply
replies_from shape run state [] = []
replies_from shape run state (item ∷ items) = reply_to shape run state item ∷ replies_from shape run (after shape run state item) items

-- the replies of the log of one thread
abbrev pub log_of : Shape → ℕ → List Item → List Reply
log_of shape run items = replies_from shape run (start shape) items

-- the state after items
abbrev pub state_after : Shape → ℕ → LogState → List Item → LogState
state_after shape run state [] = state
state_after shape run state (item ∷ items) = state_after shape run (after shape run state item) items
