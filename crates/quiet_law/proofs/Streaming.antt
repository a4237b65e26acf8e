-- A subscription over moments: each of its positions is read as the log reads it, until its count is reached, an entry has no room, or
-- an answer is no entry.
use Rattle.std.proofs.Common.{◌≡◌, ◌+◌, ◌<◌, ◌≤◌, ◌^◌, ◌==◌, ℕ, zero, suc, true, false, List, [], ◌∷◌, ◌++◌, length-append, refl, sym, ap, subst, ⊎_elim, append-nil, append_assoc, eq-eqb, arith, ◌∙◌}
use Rattle.std.specs.Prelude.{nat_lt}
use Rattle.std.proofs.lemmas.Bool.{and_from, and_right, cases_Bool, cases_lt, cond-false, cond-true, le-ltb, lt-ltb}
use Rattle.log_base.specs.ClusterShape.{Shape}
use Rattle.log_base.specs.declared.numbers.Client.{Client}
use Rattle.log_base.specs.declared.numbers.Position.{Position}
use Rattle.log_base.specs.declared.numbers.Replica.{Replica}
use Rattle.log_base.specs.declared.numbers.Shard.{Shard}
use Rattle.log_model.specs.Chain.{chain_of}
use Rattle.record_frame.specs.declared.entries.Entry.{Entry}
use Rattle.reply_frame.specs.declared.replies.Reply.{Reply, Nothing, Elsewhere, Found, PendingRead, Stream', Trimmed}
use Rattle.subscriber.specs.Following.{Following, after_offer, following_from, next_of}
use Rattle.command_frame.specs.Streams.{fits_in, nowhere, room_beside}
use Rattle.plain_log.specs.Coherent.{IsCoherentState}
use Rattle.plain_log.specs.Log.{LogState, read_in}
use Rattle.plain_log.specs.Streams.{Collected, collected, ended, given_by, subscribed, with_entry}
use Rattle.plain_log.proofs.Answering.{read_finds, read_past_end}
use Rattle.plain_log.proofs.Joining.{read_below_mark}
use Rattle.schedule_model.specs.declared.courses.Course.{Course}
use Rattle.schedule_model.specs.declared.courses.Course.TheVariants.{GoesOn, Takes, Completes, Ends}
use Rattle.schedule_model.specs.declared.duties.Awaited.TheVariants.{Streaming, StreamingOn}
use Rattle.schedule_model.specs.declared.duties.Subscription.{Subscription}
use Rattle.schedule_model.specs.Courses.{course_of, following, following_on, found, with_entry as course_with}
use Rattle.schedule_model.specs.Streams.{is_taken, moved_on, stream_of, subscription_at, wants_more}
use Rattle.quiet_model.specs.Moments.{Moment}
use Rattle.quiet_law.specs.Going.{Goes}
use Rattle.quiet_law.specs.Matching.{Matches}
use Rattle.quiet_law.proofs.Seeking.{IsElsewhere, first_told}

-- what the log answers to a read: an entry, a mark below which all is given up, or the end from which all waits
data Reads (config : Shape) (state : LogState) (position : Position) : Type 0 where
  Finds : (entry : Entry) → position.0 < (chain_of config.replicas state.values).end → read_in config.replicas state position ≡ Found position entry → Reads config state position
  IsGivenUp : (mark : Position) → read_in config.replicas state position ≡ Trimmed mark → Reads config state position
  Waits : (end : Position) → read_in config.replicas state position ≡ PendingRead end → Reads config state position

reads : (config : Shape) (state : LogState) (position : Position) → IsCoherentState config state → Reads config state position
reads config state position is =
    ⊎_elim
    (λ below. IsGivenUp _ (read_below_mark config.replicas state position below))
    (λ marked.
    ⊎_elim
    (λ within. let one = read_finds config state position is marked within in Finds one.0 within one.1)
    (λ past. Waits _ (read_past_end config.replicas state position past))
    (cases_lt position.0 (chain_of config.replicas state.values).end))
    (cases_lt position.0 (chain_of config.replicas state.values).mark)

-- an entry of the next position is taken
offer_taken : (taken : Following) (position : ℕ) (entry : Entry) → position ≡ next_of taken
    → after_offer taken position entry ≡ record { from = taken.from; delivered = taken.delivered ++ entry ∷ [] }
offer_taken taken position entry next =
    cond-true (position == next_of taken) (record { from = taken.from; delivered = taken.delivered ++ entry ∷ [] }) taken (eq-eqb position (next_of taken) next)

-- the stream of what a subscription has taken and of what follows
abbrev joined : Following → Collected → Reply
joined taken all = Stream' (record { 0 = taken.from }) (taken.delivered ++ all.entries) nowhere all.last

stream_ends : (taken : Following) (last : Reply) → stream_of taken last ≡ joined taken (ended last)
stream_ends taken last = ap (λ (entries : List Entry). Stream' (record { 0 = taken.from }) entries nowhere last) (sym (append-nil taken.delivered))

module _ (config : Shape) (state : LogState) (is : IsCoherentState config state) (low : (chain_of config.replicas state.values).end ≤ 2 ^ 31) where
  abbrev reading : Position → Reply
  reading position = read_in config.replicas state position

  -- a subscription that wants so many entries after that of its position, once it has taken those before
  record Wants (more : ℕ) (s : Subscription) (taken : Following) : Type 0 where
    count : s.count ≡ suc more
    next : s.position.0 ≡ next_of taken
    shard_in : s.shard.0 < config.shards
    replica_in : s.replica.0 < config.replicas

  -- such subscriptions are answered as the log answers
  abbrev AreStreamed : ℕ → Type 0
  AreStreamed more =
      (calls : ℕ) (s : Subscription) (taken : Following) (before after : Moment) (answer : Reply) → Wants more s taken → Matches config state before
      → Goes config taken calls (GoesOn (following config s ∷ [])) before answer after
      → Matches config state after × (answer ≡ joined taken (collected reading s.room s.position.0 (suc more)))

  abbrev Later : ℕ → Type 0
  Later zero = Unit {0}
  Later (suc more) = AreStreamed more

  -- what follows an entry
  abbrev rest_of : ℕ → Subscription → Entry → Collected
  rest_of more s entry = collected reading (room_beside s.room entry) (s.position.0 + 1) more

  -- an entry is taken
  taken_on : (more : ℕ) → Later more → (calls : ℕ) (s : Subscription) (taken : Following) (entry : Entry) (before after : Moment) (answer : Reply) → Wants more s taken
      → Matches config state before → Goes config taken calls (course_with config s entry) before answer after
      → Matches config state after × (answer ≡ joined taken (with_entry entry (rest_of more s entry)))
  taken_on zero later calls s taken entry before after answer wants matches goes =
      let count = wants.count in
      let last : wants_more s ≡ false = le-ltb 1 s.count (omega arith) in
      let over = subst (λ (course : Course). Goes config taken calls course before answer after)
      (cond-false (wants_more s) (Takes s.position entry (following config (moved_on s entry))) (Completes s.position entry) last) goes in
      (subst (Matches config state) (sym over.1) matches, over.0 ∙ ap (λ (all : Following). stream_of all Nothing) (offer_taken taken s.position.0 entry wants.next))
  taken_on (suc more) later zero s taken entry before after answer wants matches goes =
      let count = wants.count in
      let again : wants_more s ≡ true = lt-ltb 1 s.count (omega arith) in
      absurd (subst (λ (course : Course). Goes config taken 0 course before answer after)
      (cond-true (wants_more s) (Takes s.position entry (following config (moved_on s entry))) (Completes s.position entry) again) goes)
  taken_on (suc more) later (suc calls) s taken entry before after answer wants matches goes =
      let count = wants.count in
      let next = wants.next in
      let again : wants_more s ≡ true = lt-ltb 1 s.count (omega arith) in
      let on = subst (λ (course : Course). Goes config taken (suc calls) course before answer after)
      (cond-true (wants_more s) (Takes s.position entry (following config (moved_on s entry))) (Completes s.position entry) again) goes in
      let longer : Following = record { from = taken.from; delivered = taken.delivered ++ entry ∷ [] } in
      let rest = later (suc calls) (moved_on s entry) longer before after answer
      (record {
        count = omega arith;
        next = omega (arith, length-append taken.delivered (entry ∷ []));
        shard_in = wants.shard_in;
        replica_in = wants.replica_in;
      })
      matches
      (subst (λ (t : Following). Goes config t (suc calls) (GoesOn (following config (moved_on s entry) ∷ [])) before answer after)
      (offer_taken taken s.position.0 entry wants.next) on) in
      let following_all = rest_of (suc more) s entry in
      (rest.0, rest.1 ∙ ap (λ (entries : List Entry). Stream' (record { 0 = taken.from }) entries nowhere following_all.last) (append_assoc taken.delivered (entry ∷ []) following_all.entries))

  -- an entry is found, which is taken where it has room
  found_on : (more : ℕ) → Later more → (calls : ℕ) (s : Subscription) (taken : Following) (entry : Entry) (before after : Moment) (answer : Reply) → Wants more s taken
      → s.position.0 < (chain_of config.replicas state.values).end → Matches config state before → reading s.position ≡ Found s.position entry
      → Goes config taken calls (found config s entry) before answer after
      → Matches config state after × (answer ≡ joined taken (collected reading s.room s.position.0 (suc more)))
  found_on more later calls s taken entry before after answer wants within matches finds goes =
      let gives : collected reading s.room s.position.0 (suc more) ≡ given_by s.room (rest_of more s) (Found s.position entry) =
      ap (given_by s.room (rest_of more s)) finds in
      ⊎_elim
      (λ fits.
      let is_in : is_taken s entry ≡ true = and_from (nat_lt s.position.0 (2 ^ 31)) (fits_in s.room entry) (lt-ltb s.position.0 (2 ^ 31) (omega arith)) fits in
      let on = subst (λ (course : Course). Goes config taken calls course before answer after) (cond-true (is_taken s entry) (course_with config s entry) (Ends Nothing) is_in) goes in
      let done = taken_on more later calls s taken entry before after answer wants matches on in
      (done.0, done.1 ∙ ap (joined taken) (sym (gives ∙ cond-true (fits_in s.room entry) (with_entry entry (rest_of more s entry)) (ended Nothing) fits))))
      (λ full.
      let is_out : is_taken s entry ≡ false = and_right (nat_lt s.position.0 (2 ^ 31)) (fits_in s.room entry) full in
      let over = subst (λ (course : Course). Goes config taken calls course before answer after) (cond-false (is_taken s entry) (course_with config s entry) (Ends Nothing) is_out) goes in (
        subst (Matches config state) (sym over.1) matches,
        over.0 ∙ stream_ends taken Nothing ∙ ap (joined taken) (sym (gives ∙ cond-false (fits_in s.room entry) (with_entry entry (rest_of more s entry)) (ended Nothing) full)),
      ))
      (cases_Bool (fits_in s.room entry))

  -- the replica that is asked first answers as the log does
  read_on : (more : ℕ) → Later more → (calls : ℕ) (s : Subscription) (taken : Following) (before after : Moment) (answer : Reply) → Wants more s taken
      → Matches config state before → Reads config state s.position
      → Goes config taken calls (course_of config (Streaming s) (reading s.position)) before answer after
      → Matches config state after × (answer ≡ joined taken (collected reading s.room s.position.0 (suc more)))
  read_on more later calls s taken before after answer wants matches (Finds entry within finds) goes =
      found_on more later calls s taken entry before after answer wants within matches finds
      (subst (λ (reply : Reply). Goes config taken calls (course_of config (Streaming s) reply) before answer after) finds goes)
  read_on more later calls s taken before after answer wants matches (IsGivenUp mark told) goes =
      let over = subst (λ (reply : Reply). Goes config taken calls (course_of config (Streaming s) reply) before answer after) told goes in
      (subst (Matches config state) (sym over.1) matches, over.0 ∙ stream_ends taken (Trimmed mark) ∙ ap (joined taken) (sym (ap (given_by s.room (rest_of more s)) told)))
  read_on more later calls s taken before after answer wants matches (Waits end told) goes =
      let over = subst (λ (reply : Reply). Goes config taken calls (course_of config (Streaming s) reply) before answer after) told goes in
      (subst (Matches config state) (sym over.1) matches, over.0 ∙ stream_ends taken (PendingRead end) ∙ ap (joined taken) (sym (ap (given_by s.room (rest_of more s)) told)))

  -- the replica of another shard, which was told, has the entry
  read_again : (more : ℕ) → Later more → (calls : ℕ) (s : Subscription) (taken : Following) (before after : Moment) (answer : Reply) → (wants : Wants more s taken)
      → Matches config state before → (reply : Reply) (other : IsElsewhere config state is s.client s.position s.replica wants.replica_in reply)
      → Goes config taken calls (GoesOn (following_on config other.shard.0 s ∷ [])) before answer after
      → Matches config state after × (answer ≡ joined taken (collected reading s.room s.position.0 (suc more)))
  read_again more later zero s taken before after answer wants matches reply other goes = absurd goes
  read_again more later (suc calls) s taken before after answer wants matches reply other goes =
      let second = other.answers before goes.1 goes.0 matches goes.2 in
      found_on more later calls s taken other.entry goes.1 after answer wants other.before_end second.0 other.found
      (subst (λ (r : Reply). Goes config taken calls (course_of config (StreamingOn s) r) goes.1 answer after) second.1 goes.3)

  one_streamed : (more : ℕ) → Later more → AreStreamed more
  one_streamed more later zero s taken before after answer wants matches goes = absurd goes
  one_streamed more later (suc calls) s taken before after answer wants matches goes =
      let first = first_told config state is s.client s.position s.replica wants.replica_in s.shard.0 wants.shard_in before goes.1 goes.0 matches goes.2 in
      ⊎_elim
      (λ own.
      read_on more later calls s taken goes.1 after answer wants first.0 (reads config state s.position is)
      (subst (λ (reply : Reply). Goes config taken calls (course_of config (Streaming s) reply) goes.1 answer after) own goes.3))
      (λ other.
      let told = subst (λ (reply : Reply). Goes config taken calls (course_of config (Streaming s) reply) goes.1 answer after) other.told goes.3 in
      read_again more later calls s taken goes.1 after answer wants first.0 goes.0 other
      (subst (λ (course : Course). Goes config taken calls course goes.1 answer after)
      (cond-true (nat_lt other.shard.0 config.shards) (GoesOn (following_on config other.shard.0 s ∷ [])) (Ends (Elsewhere other.shard))
      (lt-ltb other.shard.0 config.shards other.in_range)) told))
      first.1

  streamed : (more : ℕ) → AreStreamed more
  streamed zero = one_streamed zero tt
  streamed (suc more) = one_streamed (suc more) (streamed more)

  -- A subscription gets the stream that the log gives.
  pub subscription_answered : (shard : Shard) (replica : Replica) (client : Client) (from : Position) (count : ℕ) → shard.0 < config.shards → replica.0 < config.replicas → 1 ≤ count
      → (calls : ℕ) (before after : Moment) (answer : Reply) → Matches config state before
      → Goes config (following_from from.0) calls (GoesOn (following config (subscription_at shard replica client from count) ∷ [])) before answer after
      → Matches config state after × (answer ≡ subscribed reading from count)
  subscription_answered shard replica client from zero a b some calls before after answer matches goes = absurd (omega (arith, some))
  subscription_answered shard replica client from (suc more) a b some calls before after answer matches goes =
      streamed more calls (subscription_at shard replica client from (suc more)) (following_from from.0) before after answer
      (record { count = refl; next = omega arith; shard_in = a; replica_in = b }) matches goes
