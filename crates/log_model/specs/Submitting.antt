-- What a replica answers to the submission of an entry, and what it puts into its own list.
use Rattle.std.specs.Prelude.{ℕ, length, List, ◌==◌, nat_le, if◌then◌else◌, Option, Some, None}
use Rattle.record_frame.specs.declared.entries.Entry.{Entry}
use Rattle.log_model.specs.Chain.{ShardState, Standing, Live, Frozen}
use Rattle.log_model.specs.Pairs.{held, last_of}
use Rattle.log_model.specs.Storage.{Member, Knowledge, own_shard, list_limit}

pub data Submitted : Type 0 where
  Stored : (offset : ℕ) → Submitted
  Stale : (last : ℕ) → Submitted
  NotAdded : Submitted
  Finalised : Submitted
  Full : Submitted

-- the answer, and the entry that is put, if one is
pub record Submission : Type 0 where
  pub answer : Submitted
  pub put : Option Entry

abbrev pub nothing_put : Submitted → Submission
nothing_put answer = record { answer = answer; put = None }

-- an entry that comes to an added shard: it is put at the end of the own list, where this has room
abbrev pub submit_to : List Entry → Entry → Standing → Submission
submit_to own entry Frozen = nothing_put Finalised
submit_to own entry Live =
    if length own == list_limit then nothing_put Full else record { answer = Stored (length own); put = Some entry }

abbrev pub submit_new : List Entry → Entry → Option ShardState → Submission
submit_new own entry None = nothing_put NotAdded
submit_new own entry (Some state) = submit_to own entry state.standing

-- an entry whose pair is not held: a number that is at most the last one of its client is refused
abbrev pub submit_fresh : List Entry → Option ShardState → Entry → Option ℕ → Submission
submit_fresh own state entry None = submit_new own entry state
submit_fresh own state entry (Some last) = if nat_le entry.number.0 last then nothing_put (Stale last) else submit_new own entry state

abbrev pub submit_held : List Entry → Option ShardState → Entry → Option ℕ → Submission
submit_held own state entry (Some offset) = nothing_put (Stored offset)
submit_held own state entry None = submit_fresh own state entry (last_of own entry.client.0)

-- The first that fits: the pair is held, the number is no new one, the shard is not known as added, it is known as
-- finalised, the list is full, or the entry is put.
unfoldable pub submit : Member → List Entry → Knowledge → Entry → Submission
submit member own known entry =
    submit_held own (own_shard member known) entry (held member own known entry.client.0 entry.number.0)
