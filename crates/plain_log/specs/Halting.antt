-- The log of one thread on a disk that may fail. An append whose put fails is told so, and from then on the replica is
-- down: appends, reads, subscriptions and questions about a last append are refused. Additions, finalisations and trims go on, since no
-- disk of the replica keeps them.
use Rattle.std.specs.Prelude.{◌≡◌, ℕ, List, [], ◌∷◌, ◌++◌, length, take, drop, Bool, false, ◌==◌, ◌&&◌, if◌then◌else◌, Option, Some, None, option_and_then, slice_get, IfSome}
use Rattle.log_base.specs.ClusterShape.{Shape}
use Rattle.log_base.specs.declared.numbers.Position.{Position}
use Rattle.record_frame.specs.declared.entries.Entry.{Entry}
use Rattle.log_model.specs.Chain.{Live}
use Rattle.command_frame.specs.declared.items.Item.{Item}
use Rattle.command_frame.specs.declared.items.Item.TheVariants.{Append, Read, Subscribe, Ask}
use Rattle.reply_frame.specs.declared.replies.Reply.{Reply, Halted, Down, NothingKept}
use Rattle.plain_log.specs.Log.{LogState, Primary, start, standing_of, drawn, primary_of, next_entry, after, reply_to, state_after, log_of}
use Rattle.plain_log.specs.Streams.{subscribed}

-- the entry of an item is put on the disk: it is an append to a shard that was added and is not finalised
abbrev pub IsPut : Shape → LogState → Item → Type 0
IsPut shape state (Append lane shard replica bytes) = standing_of shape.replicas state shard.0 ≡ Some Live
IsPut shape state item = ⊥

-- the entry that an item appends
abbrev pub appended : ℕ → LogState → Item → Option Entry
appended run state (Append lane shard replica bytes) = Some (next_entry run state lane bytes)
appended run state item = None

-- the state after an item that takes the replica down or finds it down: an append draws its number and stores nothing
abbrev pub after_down : Shape → ℕ → LogState → Item → LogState
after_down shape run state (Append lane shard replica bytes) = drawn state lane shard.0 replica.0
after_down shape run state item = after shape run state item

-- the reply to one who asks for a lane's last append where the replica is down: without an append it is not asked
abbrev pub asked_down : Option Primary → Reply
asked_down None = NothingKept
asked_down (Some primary) = Down

-- the reply to an item where the replica is down
abbrev pub reply_down : Shape → ℕ → LogState → Item → Reply
reply_down shape run state (Append lane shard replica bytes) = Down
reply_down shape run state (Read lane shard replica position) = Down
reply_down shape run state (Subscribe lane shard replica from count) = subscribed (λ (position : Position). Down) from count
reply_down shape run state (Ask lane) = asked_down (primary_of state lane)
reply_down shape run state item = reply_to shape run state item

-- the replies to items, one after another, where the replica is down
abbrev pub replies_down : Shape → ℕ → LogState → List Item → List Reply
replies_down shape run state [] = []
replies_down shape run state (item ∷ items) = reply_down shape run state item ∷ replies_down shape run (after_down shape run state item) items

-- the state after items of which the first takes the replica down or finds it down
abbrev pub state_down : Shape → ℕ → LogState → List Item → LogState
state_down shape run state [] = state
state_down shape run state (item ∷ items) = state_down shape run (after_down shape run state item) items

-- the replies to items where the put of the first one failed
abbrev pub replies_halted : Shape → ℕ → LogState → List Item → List Reply
replies_halted shape run state [] = []
replies_halted shape run state (item ∷ items) = Halted ∷ replies_down shape run (after_down shape run state item) items

-- the state after the items before this index
abbrev pub state_before : Shape → ℕ → List Item → ℕ → LogState
state_before shape run items at = state_after shape run (start shape) (take at items)

-- The replies where the put of the item of this index failed, or of none.
abbrev pub log_with_halt : Shape → ℕ → List Item → Option ℕ → List Reply
log_with_halt shape run items None = log_of shape run items
log_with_halt shape run items (Some at) =
    log_of shape run (take at items) ++ replies_halted shape run (state_before shape run items at) (drop at items)

-- the put of the item of this index, where there is one, can fail: the item is there, and its entry is put
abbrev pub IsHaltOf : Shape → ℕ → List Item → Option ℕ → Type 0
IsHaltOf shape run items halt =
    IfSome halt (λ at. (item : Item) × (slice_get items at ≡ Some item) × IsPut shape (state_before shape run items at) item)

-- how many values are decided after the items where that put failed
abbrev pub values_with_halt : Shape → ℕ → List Item → Option ℕ → ℕ
values_with_halt shape run items None = length (state_after shape run (start shape) items).values
values_with_halt shape run items (Some at) = length (state_down shape run (state_before shape run items at) (drop at items)).values

-- the entries of each segment that are stored where that put failed
abbrev pub lists_with_halt : Shape → ℕ → List Item → Option ℕ → List (List Entry)
lists_with_halt shape run items None = (state_after shape run (start shape) items).segments
lists_with_halt shape run items (Some at) = (state_before shape run items at).segments

-- whether an item appends to this segment of this shard
abbrev pub is_append_to : ℕ → ℕ → Item → Bool
is_append_to s j (Append lane shard replica bytes) = (shard.0 == s) && (replica.0 == j)
is_append_to s j item = false

-- the entry that an item appends to this segment of this shard
abbrev pub appended_to : ℕ → LogState → ℕ → ℕ → Item → Option Entry
appended_to run state s j item = if is_append_to s j item then appended run state item else None

-- the entry whose put failed, where it was one of this segment of this shard
abbrev pub failed_entry : Shape → ℕ → List Item → Option ℕ → ℕ → ℕ → Option Entry
failed_entry shape run items None s j = None
failed_entry shape run items (Some at) s j = option_and_then (appended_to run (state_before shape run items at) s j) (slice_get items at)
