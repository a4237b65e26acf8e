-- The replica, the entries and the values of the examples.
use Rattle.std.specs.Prelude.{ℕ, List, [], ◌∷◌, ◌++◌, replicate}
use Rattle.record_frame.specs.declared.entries.Entry.{Entry}
use Rattle.record_frame.specs.declared.values.Value.{Value}
use Rattle.record_frame.specs.declared.values.Value.TheVariants.{Cut, Add, Finalise, Trim}
use Rattle.record_frame.specs.Entries.{entry_of}
use Rattle.log_model.specs.Storage.{Member, Knowledge, knowledge_of}

-- replica 1 of the two of shard 1
abbrev pub member : Member
member = record { shard = 1; own = 1; replicas = 2 }

-- an entry of a client and a number, with an empty record
abbrev pub entry : ℕ → ℕ → Entry
entry client number = entry_of (record { 0 = client }) (record { 0 = number }) []

-- values that name a shard, a position, and the lengths of the segments of shards 0 and 1
abbrev pub add : ℕ → Value
add shard = Add (record { 0 = shard })

abbrev pub finalise : ℕ → Value
finalise shard = Finalise (record { 0 = shard })

abbrev pub trim : ℕ → Value
trim position = Trim (record { 0 = position })

abbrev pub cut : ℕ → ℕ → ℕ → ℕ → Value
cut a b c d = Cut (record { count = 4; length = (a ∷ b ∷ c ∷ d ∷ []) ++ replicate 28 0 })

-- what values make known
abbrev pub by : List Value → Knowledge
by values = knowledge_of member values
