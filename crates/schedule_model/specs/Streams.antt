-- Subscriptions: where one stands, which entries it takes, when it ends, and its reply.
use Rattle.std.specs.Prelude.{ℕ, ◌+◌, ◌-◌, ◌<◌, ◌^◌, ◌&&◌, Bool, nat_lt}
use Rattle.log_base.specs.ClusterShape.{Shape}
use Rattle.log_base.specs.declared.numbers.Client.{Client}
use Rattle.log_base.specs.declared.numbers.Position.{Position}
use Rattle.log_base.specs.declared.numbers.Replica.{Replica}
use Rattle.log_base.specs.declared.numbers.Shard.{Shard}
use Rattle.record_frame.specs.declared.entries.Entry.{Entry}
use Rattle.reply_frame.specs.declared.replies.Reply.{Reply, Stream'}
use Rattle.command_frame.specs.Streams.{fits_in, nowhere, room_beside, room_of_stream}
use Rattle.subscriber.specs.Following.{Following, following_from}
use Rattle.schedule_model.specs.declared.duties.Subscription.{Subscription}

-- a subscription at its first position
abbrev pub subscription_at : Shard → Replica → Client → Position → ℕ → Subscription
subscription_at shard replica client position count =
    record { shard = shard; replica = replica; client = client; position = position; count = count; room = room_of_stream }

-- the shard and the replica that a subscription names are the cluster's
abbrev pub IsSubscription : Shape → Subscription → Type 0
IsSubscription config s = (s.shard.0 < config.shards) × (s.replica.0 < config.replicas)

-- An entry that is found is taken where the reply has room for it, and its position is one that a log may have.
abbrev pub is_taken : Subscription → Entry → Bool
is_taken s entry = nat_lt s.position.0 (2 ^ 31) && fits_in s.room entry

-- more entries are wanted than this one
abbrev pub wants_more : Subscription → Bool
wants_more s = nat_lt 1 s.count

-- the subscription at the next position, once the entry is taken
abbrev pub moved_on : Subscription → Entry → Subscription
moved_on s entry = record s { position = record { 0 = s.position.0 + 1 }; count = s.count - 1; room = room_beside s.room entry }

-- nothing is taken while no item subscribes
abbrev pub nothing_taken : Following
nothing_taken = following_from 0

-- ---- replies

-- the stream of what was taken, and the answer that ended it
abbrev pub stream_of : Following → Reply → Reply
stream_of taken last = Stream' (record { 0 = taken.from }) taken.delivered nowhere last

-- a reply that holds no other
abbrev pub IsSingle : Reply → Type 0
IsSingle (Stream' from entries at last) = ⊥
IsSingle reply = Unit {0}
