-- What a lane's subscription took so far, and its stream, have spellings.
use Rattle.std.proofs.Common.{◌≡◌, ◌==◌, ◌+◌, ◌≤◌, ◌<◌, ◌^◌, ℕ, Bool, true, false, cond, nat_lt, List, [], ◌∷◌, ◌++◌, length, refl, subst, sym, length-append, arith}
use Rattle.std.specs.List.{flat_map}
use Rattle.std.proofs.lemmas.Bool.{and_parts, leb-true}
use Rattle.std.proofs.lemmas.List.Concat.{flat_map-append}
use borrow.Author.Tests.{ltb-true}
use Rattle.command_frame.specs.Streams.{room_of_stream}
use Rattle.log_base.specs.ClusterShape.{Shape}
use Rattle.log_base.specs.Wide.{be4}
use Rattle.log_base.specs.declared.numbers.Client.{Client}
use Rattle.log_base.specs.declared.numbers.Position.{Position}
use Rattle.log_base.specs.declared.numbers.Replica.{Replica}
use Rattle.log_base.specs.declared.numbers.Shard.{Shard}
use Rattle.record_frame.specs.declared.entries.Entry.{Entry}
use Rattle.record_frame.specs.declared.values.Value.{Value}
use Rattle.reply_frame.specs.declared.replies.Reply.{Reply, Nothing, Stored, Found, Down, Elsewhere, Taken, NotLeading, NoLeader, Spent}
use Rattle.reply_frame.specs.Replies.{HasSpelling, IsNodeAnswer, entry_bytes}
use Rattle.subscriber.specs.Following.{Following, next_of}
use Rattle.schedule_model.specs.declared.courses.Course.TheVariants.{Replies, GoesOn, Takes, Completes, Ends, PutsOff}
use Rattle.schedule_model.specs.declared.duties.Awaited.{Awaited}
use Rattle.schedule_model.specs.declared.duties.Awaited.TheVariants.{Storing, Requesting, Reading, Streaming, StreamingOn, Last, Held, Again}
use Rattle.schedule_model.specs.declared.duties.Question.{Question}
use Rattle.schedule_model.specs.declared.duties.Subscription.{Subscription}
use Rattle.schedule_model.specs.Courses.{course_of, following, following_on, found, is_put_off, reading_at, request, with_entry}
use Rattle.schedule_model.specs.Streams.{is_taken, moved_on, wants_more}
use Rattle.schedule_model.proofs.Kept.{each-append}
use Rattle.schedule_model.proofs.Replying.{IsAwaitedWith, IsNotFound, IsStream, IsUnderWay, WasFound}
use Rattle.quiet_run.proofs.StreamSpelling.{stream_spelled}
use Rattle.lane_work.specs.Stages.{gone, replied}
use Rattle.lane_work.specs.declared.stages.Asking.{Asking}
use Rattle.lane_work.specs.declared.stages.Stage.{Stage}
use Rattle.lane_work.specs.declared.stages.Stage.TheVariants.{Asks, Turns, Replied}

-- what an item took has a spelling, with what it waits for; and so has its reply
abbrev pub StandsSpelled : Stage → Type 0
StandsSpelled (Asks asking) = IsAwaitedWith HasSpelling asking.taken asking.due.awaited
StandsSpelled (Turns next asking) = IsAwaitedWith HasSpelling asking.taken asking.due.awaited
StandsSpelled (Replied reply) = HasSpelling reply

pub nothing_spelled : HasSpelling Nothing
nothing_spelled = (tt, omega arith)

no_leader_spelled : HasSpelling NoLeader
no_leader_spelled = (tt, omega arith)

pub spent_spelled : (used : ℕ) → HasSpelling (Spent used)
unfolding be4
spent_spelled used = (tt, omega arith)

-- ---- an entry more

-- the entry is the next, or it is dropped
offered : (stream : Following) (s : Subscription) (entry : Entry) (next : Bool) → WasFound HasSpelling entry → length (entry_bytes entry) ≤ s.room
    → 1 < s.count → IsUnderWay HasSpelling stream s
    → IsUnderWay HasSpelling (cond next (record stream { delivered = stream.delivered ++ entry ∷ [] }) stream) (moved_on s entry)
offered stream s entry true found fits more h =
    let longer = length-append stream.delivered (entry ∷ []) in
    let all = subst (λ (l : List ℕ). length l ≡ length (flat_map entry_bytes stream.delivered) + length (entry_bytes entry ++ []))
    (sym (flat_map-append entry_bytes stream.delivered (entry ∷ []))) (length-append (flat_map entry_bytes stream.delivered) (entry_bytes entry ++ [])) in
    let none : length (entry_bytes entry ++ []) ≡ length (entry_bytes entry) + 0 = length-append (entry_bytes entry) [] in
    let few : length stream.delivered + s.count ≤ 4096 = h.few in
    let room : length (flat_map entry_bytes stream.delivered) + s.room ≤ room_of_stream = h.room in
    record {
      each = each-append (WasFound HasSpelling) stream.delivered (entry ∷ []) h.each (found, tt);
      from = h.from;
      few = omega arith;
      room = omega arith;
    }
offered stream s entry false found fits more h =
    let few : length stream.delivered + s.count ≤ 4096 = h.few in
    let room : length (flat_map entry_bytes stream.delivered) + s.room ≤ room_of_stream = h.room in
    record { each = h.each; from = h.from; few = omega arith; room = omega arith }

-- the last that is wanted
filled : (stream : Following) (s : Subscription) (entry : Entry) (next : Bool) → WasFound HasSpelling entry → length (entry_bytes entry) ≤ s.room
    → IsUnderWay HasSpelling stream s → IsStream HasSpelling (cond next (record stream { delivered = stream.delivered ++ entry ∷ [] }) stream)
filled stream s entry true found fits h =
    let longer = length-append stream.delivered (entry ∷ []) in
    let all = subst (λ (l : List ℕ). length l ≡ length (flat_map entry_bytes stream.delivered) + length (entry_bytes entry ++ []))
    (sym (flat_map-append entry_bytes stream.delivered (entry ∷ []))) (length-append (flat_map entry_bytes stream.delivered) (entry_bytes entry ++ [])) in
    let none : length (entry_bytes entry ++ []) ≡ length (entry_bytes entry) + 0 = length-append (entry_bytes entry) [] in
    let few : length stream.delivered + s.count ≤ 4096 = h.few in
    let room : length (flat_map entry_bytes stream.delivered) + s.room ≤ room_of_stream = h.room in
    record {
      each = each-append (WasFound HasSpelling) stream.delivered (entry ∷ []) h.each (found, tt);
      from = h.from;
      few = omega arith;
      room = omega arith;
    }
filled stream s entry false found fits h =
    let few : length stream.delivered + s.count ≤ 4096 = h.few in
    let room : length (flat_map entry_bytes stream.delivered) + s.room ≤ room_of_stream = h.room in
    record { each = h.each; from = h.from; few = omega arith; room = omega arith }

-- the stream as it is
as_it_is : (stream : Following) (s : Subscription) → IsUnderWay HasSpelling stream s → IsStream HasSpelling stream
as_it_is stream s h =
    let few : length stream.delivered + s.count ≤ 4096 = h.few in
    let room : length (flat_map entry_bytes stream.delivered) + s.room ≤ room_of_stream = h.room in
    record { each = h.each; from = h.from; few = omega arith; room = omega arith }

-- ---- answers

module _ (config : Shape) (asking : Asking) (under : IsAwaitedWith HasSpelling asking.taken asking.due.awaited) where
  reply_or_turns : (reply : Reply) (again : Bool) → HasSpelling reply
      → StandsSpelled (cond again (Turns (record { 0 = 0 }) (record asking { again = asking.again + 1 })) (Replied reply))
  reply_or_turns reply true h = under
  reply_or_turns reply false h = h

  replied_so : (reply : Reply) → HasSpelling reply → StandsSpelled (replied asking reply)
  replied_so reply h = reply_or_turns reply _ h

  requested_so : (orderer : ℕ) (client : Client) (value : Value) (more : Bool)
      → StandsSpelled (gone asking (cond more (GoesOn (request config orderer client value ∷ [])) (Replies NoLeader)))
  requested_so orderer client value true = tt
  requested_so orderer client value false = replied_so NoLeader no_leader_spelled

  read_so : (shard : Shard) (replica : Replica) (client : Client) (position : Position) (more : Bool) → HasSpelling (Elsewhere shard)
      → StandsSpelled (gone asking (cond more (GoesOn (reading_at config shard.0 replica client position Last ∷ [])) (Replies (Elsewhere shard))))
  read_so shard replica client position true h = tt
  read_so shard replica client position false h = replied_so (Elsewhere shard) h

  entry_so : (s : Subscription) (entry : Entry) (more : Bool) → wants_more s ≡ more → is_taken s entry ≡ true
      → WasFound HasSpelling entry → IsUnderWay HasSpelling asking.taken s
      → StandsSpelled (gone asking (cond more (Takes s.position entry (following config (moved_on s entry))) (Completes s.position entry)))
  entry_so s entry true wants takes found h =
      let both = and_parts (nat_lt s.position.0 (2 ^ 31)) _ takes in
      offered asking.taken s entry (s.position.0 == next_of asking.taken) found (leb-true (length (entry_bytes entry)) s.room both.1) (ltb-true 1 s.count wants) h
  entry_so s entry false wants takes found h =
      let both = and_parts (nat_lt s.position.0 (2 ^ 31)) _ takes in
      stream_spelled _ Nothing
      (filled asking.taken s entry (s.position.0 == next_of asking.taken) found (leb-true (length (entry_bytes entry)) s.room both.1) h) nothing_spelled tt tt

  found_so : (s : Subscription) (entry : Entry) (takes : Bool) → is_taken s entry ≡ takes → WasFound HasSpelling entry → IsUnderWay HasSpelling asking.taken s
      → StandsSpelled (gone asking (cond takes (with_entry config s entry) (Ends Nothing)))
  found_so s entry true takes found h = entry_so s entry (wants_more s) refl takes found h
  found_so s entry false takes found h = stream_spelled asking.taken Nothing (as_it_is asking.taken s h) nothing_spelled tt tt

  told_so : (shard : Shard) (s : Subscription) (more : Bool) → HasSpelling (Elsewhere shard) → IsUnderWay HasSpelling asking.taken s
      → StandsSpelled (gone asking (cond more (GoesOn (following_on config shard.0 s ∷ [])) (Ends (Elsewhere shard))))
  told_so shard s true h way = way
  told_so shard s false h way = stream_spelled asking.taken (Elsewhere shard) (as_it_is asking.taken s way) h tt tt

  put_off_so : (asked : Question) (reply : Reply) (late : Bool) → HasSpelling reply → StandsSpelled (gone asking (cond late (PutsOff reply asked) (Replies reply)))
  put_off_so asked reply true h = replied_so reply h
  put_off_so asked reply false h = replied_so reply h

  ends_so : (s : Subscription) (reply : Reply) → HasSpelling reply → IsNodeAnswer reply → IsNotFound reply → IsUnderWay HasSpelling asking.taken s
      → StandsSpelled (gone asking (Ends reply))
  ends_so s reply h answer other way = stream_spelled asking.taken reply (as_it_is asking.taken s way) h answer other

  -- an answer that has a spelling leaves what has one
  pub answer_so : (awaited : Awaited) (reply : Reply) → HasSpelling reply → IsNodeAnswer reply → IsAwaitedWith HasSpelling asking.taken awaited
      → StandsSpelled (gone asking (course_of config awaited reply))
  answer_so (Storing primary client number) (Stored offset) h answer way = tt
  answer_so (Requesting orderer client value) NotLeading h answer way = requested_so (orderer + 1) client value (nat_lt (orderer + 1) config.orderers)
  answer_so (Requesting orderer client value) Down h answer way = requested_so (orderer + 1) client value (nat_lt (orderer + 1) config.orderers)
  answer_so (Requesting orderer client value) (Taken slot) h answer way = tt
  answer_so (Reading replica client position) (Elsewhere shard) h answer way = read_so shard replica client position (nat_lt shard.0 config.shards) h
  answer_so (Streaming s) (Found position entry) h answer way = found_so s entry (is_taken s entry) refl (record { position = position; good = h }) way
  answer_so (Streaming s) (Elsewhere shard) h answer way = told_so shard s (nat_lt shard.0 config.shards) h way
  answer_so (StreamingOn s) (Found position entry) h answer way = found_so s entry (is_taken s entry) refl (record { position = position; good = h }) way
  answer_so (Storing primary client number) reply h answer way = replied_so reply h
  answer_so (Requesting orderer client value) reply h answer way = replied_so reply h
  answer_so (Reading replica client position) reply h answer way = replied_so reply h
  answer_so (Streaming s) reply h answer way = ends_so s reply h answer tt way
  answer_so (StreamingOn s) reply h answer way = ends_so s reply h answer tt way
  answer_so Last reply h answer way = replied_so reply h
  answer_so (Held asked) reply h answer way = put_off_so asked reply (is_put_off reply) h
  answer_so (Again item) reply h answer way = replied_so reply h
