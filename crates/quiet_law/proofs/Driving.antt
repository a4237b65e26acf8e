-- The course of an item in a run that is played goes on, call by call, to its reply.
use Rattle.std.proofs.Common.{◌≡◌, ◌+◌, ◌≤◌, ℕ, zero, suc, List, [], ◌∷◌, ◌++◌, length, Option, Some, None, refl, sym, ap, subst, append-nil, arith, ◌∙◌}
use Rattle.std.specs.Prelude.{nat_lt, slice_index_or}
use Rattle.std.proofs.lemmas.Bool.{cond_both}
use Rattle.log_base.specs.ClusterShape.{Shape}
use Rattle.log_base.specs.declared.numbers.Client.{Client}
use Rattle.log_base.specs.declared.numbers.NodeId.{NodeId}
use Rattle.log_base.specs.declared.numbers.Number.{Number}
use Rattle.log_base.specs.declared.numbers.Position.{Position}
use Rattle.record_frame.specs.declared.entries.Entry.{Entry}
use Rattle.record_frame.specs.declared.values.Value.{Value}
use Rattle.command_frame.specs.Items.{IsNoFault}
use Rattle.command_frame.specs.declared.items.Item.{Item}
use Rattle.command_frame.specs.declared.items.Item.TheVariants.{Append, Read, Subscribe, Trim, Add, Finalise, Ask, Fault}
use Rattle.reply_frame.specs.declared.replies.Reply.{Reply, Nothing, Stored, Found, Down, Elsewhere, Taken, NotLeading, NoLeader}
use Rattle.history_frame.specs.declared.events.Event.{Event}
use Rattle.schedule_model.specs.declared.courses.Course.{Course}
use Rattle.schedule_model.specs.declared.courses.Course.TheVariants.{Replies, GoesOn, Takes, Completes, Ends, Answers, PutsOff, Replaces}
use Rattle.schedule_model.specs.declared.duties.Awaited.{Awaited}
use Rattle.schedule_model.specs.declared.duties.Awaited.TheVariants.{Storing, Requesting, Reading, Streaming, StreamingOn, Last, Held, Again}
use Rattle.schedule_model.specs.declared.duties.Subscription.{Subscription}
use Rattle.schedule_model.specs.declared.duties.Duty.{Duty}
use Rattle.schedule_model.specs.declared.duties.Duty.TheVariants.{Give, DeliverAll, DeliverOne, MakeCall}
use Rattle.schedule_model.specs.Courses.{Scene, asked, beginning, client_of, course_of, following, following_on, found, last_number, reading_at, request, requested, with_entry}
use Rattle.schedule_model.specs.Scheduling.{Scheduled, Waiting, taken}
use Rattle.schedule_model.specs.Streams.{is_taken, moved_on, nothing_taken, stream_of, wants_more}
use Rattle.subscriber.specs.Following.{Following, after_offer}
use Rattle.quiet_model.specs.Moments.{Moment}
use Rattle.quiet_law.specs.Going.{DoneThen, Goes}
use Rattle.quiet_law.proofs.Doing.{EndsInCall, IsCall, IsPlainAnswer, calls, spot}
use Rattle.quiet_law.proofs.Playing.{Plays, finally, moment_of}

-- ---- courses

abbrev pub IsCalling : Course → Type 0
IsCalling (Replies reply) = Unit {0}
IsCalling (GoesOn duties) = EndsInCall duties
IsCalling (Takes position entry duty) = EndsInCall (duty ∷ [])
IsCalling (Completes position entry) = Unit {0}
IsCalling (Ends last) = Unit {0}
IsCalling (Answers reply duties) = ⊥
IsCalling (PutsOff reply asked) = ⊥
IsCalling (Replaces item reply) = ⊥

module _ (config : Shape) where
  requested_calls : (orderer : ℕ) (client : Client) (value : Value) → IsCalling (requested config orderer client value)
  requested_calls orderer client value =
      cond_both (nat_lt orderer config.orderers) (GoesOn (request config orderer client value ∷ [])) (Replies NoLeader) IsCalling (λ _. (tt, refl)) (λ _. tt)

  found_calls : (s : Subscription) (entry : Entry) → IsCalling (found config s entry)
  found_calls s entry =
      cond_both (is_taken s entry) (with_entry config s entry) (Ends Nothing) IsCalling
      (λ _. cond_both (wants_more s) (Takes s.position entry (following config (moved_on s entry))) (Completes s.position entry) IsCalling (λ _. (tt, refl)) (λ _. tt))
      (λ _. tt)

  -- what an answer leads to is done up to a call
  course_calls : (awaited : Awaited) (reply : Reply) → IsPlainAnswer awaited → IsCalling (course_of config awaited reply)
  course_calls (Storing primary client number) (Stored offset) plain = (tt, refl)
  course_calls (Requesting orderer client value) NotLeading plain = requested_calls (orderer + 1) client value
  course_calls (Requesting orderer client value) Down plain = requested_calls (orderer + 1) client value
  course_calls (Requesting orderer client value) (Taken slot) plain = (tt, refl)
  course_calls (Reading replica client position) (Elsewhere shard) plain =
      cond_both (nat_lt shard.0 config.shards) (GoesOn (reading_at config shard.0 replica client position Last ∷ [])) (Replies (Elsewhere shard)) IsCalling (λ _. (tt, refl)) (λ _. tt)
  course_calls (Streaming s) (Found position entry) plain = found_calls s entry
  course_calls (Streaming s) (Elsewhere shard) plain =
      cond_both (nat_lt shard.0 config.shards) (GoesOn (following_on config shard.0 s ∷ [])) (Ends (Elsewhere shard)) IsCalling (λ _. (tt, refl)) (λ _. tt)
  course_calls (StreamingOn s) (Found position entry) plain = found_calls s entry
  course_calls (Held asked) reply plain = absurd plain
  course_calls (Again item) reply plain = absurd plain
  course_calls _ _ plain = tt

  asked_calls : (client : Client) (number : Number) (primary : Option NodeId) → IsCalling (asked client number primary)
  asked_calls client number None = tt
  asked_calls client number (Some primary) = (tt, refl)

  pub beginning_calls : (run : ℕ) (draws : List ℕ) (primaries : List (Option NodeId)) (scene : Scene) (item : Item) → IsNoFault item
      → IsCalling (beginning config run draws primaries scene item)
  beginning_calls run draws primaries scene (Append lane shard replica bytes) no_fault = (tt, refl)
  beginning_calls run draws primaries scene (Read lane shard replica position) no_fault = (tt, refl)
  beginning_calls run draws primaries scene (Subscribe lane shard replica from count) no_fault = (tt, refl)
  beginning_calls run draws primaries scene (Trim lane position) no_fault = (tt, refl)
  beginning_calls run draws primaries scene (Add lane shard) no_fault = (tt, refl)
  beginning_calls run draws primaries scene (Finalise lane shard) no_fault = (tt, refl)
  beginning_calls run draws primaries scene (Ask lane) no_fault = asked_calls (client_of lane) (last_number run draws lane) (slice_index_or primaries lane None)
  beginning_calls run draws primaries scene (Fault lane fault) no_fault = absurd no_fault

  -- what goes on after a call may be said more weakly
  done_map : (duties : List Duty) (K L : Awaited → Reply → Moment → Type 0) → ((awaited : Awaited) (reply : Reply) (next : Moment) → K awaited reply next → L awaited reply next)
      → (moment : Moment) → DoneThen config duties K moment → DoneThen config duties L moment
  done_map [] K L goes moment done = absurd done
  done_map (Give signal first count ∷ duties) K L goes moment done = (done.0, done.1, done_map duties K L goes done.0 done.2)
  done_map (DeliverAll ∷ duties) K L goes moment done = (done.0, done.1, done_map duties K L goes done.0 done.2)
  done_map (DeliverOne letter afterwards ∷ duties) K L goes moment done = absurd done
  done_map (MakeCall node call awaited ∷ duties) K L goes moment done = (done.0, done.1, done.2, goes awaited done.0 done.1 done.3)

  module _ (run : ℕ) (whole : List Event) (items : List Item) (draws : List ℕ) (primaries : List (Option NodeId)) (records : List (List ℕ)) where
    -- ---- an item

    -- a schedule at which an item goes on: a subscription under way has taken so much, and these duties are due
    abbrev at_spot : Following → List Reply → List Duty → List Waiting → ℕ → Scheduled
    at_spot stream replies duties queue place = spot config run items draws primaries records stream replies duties queue place

    -- a course that ends with an answer
    pub record Answered (stream : Following) (replies : List Reply) (course : Course) (moment : Moment) (ends : List Reply) : Type 0 where
      pub calls : ℕ
      pub answer : Reply
      pub left : Following
      pub queue : List Waiting
      pub place : ℕ
      pub before : List Event
      pub events : List Event
      pub goes : Goes config stream calls course moment answer (moment_of config before queue)
      pub plays : Plays config run whole before events (at_spot left (replies ++ answer ∷ []) [] queue place)
      pub ending : finally (at_spot left (replies ++ answer ∷ []) [] queue place) events ≡ ends

    -- courses that so many events are left for are played
    abbrev ArePlayed : ℕ → Type 0
    ArePlayed most =
        (stream : Following) (replies : List Reply) (course : Course) → IsCalling course → (queue : List Waiting) (place : ℕ) (before events : List Event) → length events ≤ most
        → Plays config run whole before events (taken (at_spot stream replies [] queue place) course)
        → Answered stream replies course (moment_of config before queue) (finally (taken (at_spot stream replies [] queue place) course) events)

    -- an item that is done leaves what was to come
    answered_now : (stream left : Following) (replies : List Reply) (course : Course) (answer : Reply) (queue : List Waiting) (place : ℕ) (before events : List Event)
        → Goes config stream 0 course (moment_of config before queue) answer (moment_of config before queue)
        → Plays config run whole before events (at_spot left (replies ++ answer ∷ []) [] queue place)
        → Answered stream replies course (moment_of config before queue) (finally (at_spot left (replies ++ answer ∷ []) [] queue place) events)
    answered_now stream left replies course answer queue place before events goes plays = record {
      calls = 0;
      answer = answer;
      left = left;
      queue = queue;
      place = place;
      before = before;
      events = events;
      goes = goes;
      plays = plays;
      ending = refl;
    }

    -- duties are done up to a call, whose answer leads on
    goes_on : (most : ℕ) → ArePlayed most → (stream : Following) (replies : List Reply) (duties : List Duty) → EndsInCall duties → (queue : List Waiting) (place : ℕ) (before events : List Event)
        → length events ≤ suc most → Plays config run whole before events (at_spot stream replies duties queue place)
        → Answered stream replies (GoesOn duties) (moment_of config before queue) (finally (at_spot stream replies duties queue place) events)
    goes_on most played stream replies duties is queue place before events few plays =
        let one = calls config run whole items draws primaries records stream replies duties is queue place before events plays in
        let less = one.few in
        let next = course_of config one.awaited one.reply in
        let then = played stream replies next (course_calls one.awaited one.reply one.plain) one.queue one.place one.before one.events (omega arith) one.plays in
        let after = moment_of config then.before then.queue in
        record {
          calls = suc then.calls;
          answer = then.answer;
          left = then.left;
          queue = then.queue;
          place = then.place;
          before = then.before;
          events = then.events;
          goes = done_map duties (IsCall config run whole items draws primaries records stream replies one.awaited one.reply (moment_of config one.before one.queue))
              (λ awaited reply moment. Goes config stream then.calls (course_of config awaited reply) moment then.answer after)
              (λ awaited reply moment e.
              subst (λ (a : Awaited). Goes config stream then.calls (course_of config a reply) moment then.answer after) (sym e.0)
              (subst (λ (r : Reply). Goes config stream then.calls (course_of config one.awaited r) moment then.answer after) (sym e.1)
              (subst (λ (m : Moment). Goes config stream then.calls next m then.answer after) (sym e.2) then.goes)))
              (moment_of config before queue) one.done;
          plays = then.plays;
          ending = then.ending ∙ one.ending;
        }

    -- no duties go on without events
    never_goes_on : (stream : Following) (replies : List Reply) (duties : List Duty) → EndsInCall duties → (queue : List Waiting) (place : ℕ) (before events : List Event)
        → length events ≤ 0 → Plays config run whole before events (at_spot stream replies duties queue place) → ⊥
    never_goes_on stream replies duties is queue place before events few plays =
        let one = calls config run whole items draws primaries records stream replies duties is queue place before events plays in
        let less = one.few in
        omega arith

    -- an entry is taken first
    takes_first : (stream : Following) (position : Position) (entry : Entry) (duty : Duty) (count : ℕ) (moment : Moment) (answer : Reply) (after : Moment)
        → Goes config (after_offer stream position.0 entry) count (GoesOn (duty ∷ [])) moment answer after
        → Goes config stream count (Takes position entry duty) moment answer after
    takes_first stream position entry duty zero moment answer after goes = absurd goes
    takes_first stream position entry duty (suc count) moment answer after goes = goes

    duties_alone : (stream : Following) (replies : List Reply) (duties : List Duty) (queue : List Waiting) (place : ℕ)
        → at_spot stream replies (duties ++ []) queue place ≡ at_spot stream replies duties queue place
    duties_alone stream replies duties queue place = ap (λ (left : List Duty). at_spot stream replies left queue place) (append-nil duties)

    pub course_played : (most : ℕ) → ArePlayed most
    course_played most stream replies (Replies reply) is queue place before events few plays =
        answered_now stream stream replies (Replies reply) reply queue place before events (refl, refl) plays
    course_played most stream replies (Completes position entry) is queue place before events few plays =
        answered_now stream nothing_taken replies (Completes position entry) (stream_of (after_offer stream position.0 entry) Nothing) queue place before events (refl, refl) plays
    course_played most stream replies (Ends last) is queue place before events few plays =
        answered_now stream nothing_taken replies (Ends last) (stream_of stream last) queue place before events (refl, refl) plays
    course_played most stream replies (Answers reply duties) is queue place before events few plays = absurd is
    course_played most stream replies (PutsOff reply asked) is queue place before events few plays = absurd is
    course_played most stream replies (Replaces item reply) is queue place before events few plays = absurd is
    course_played zero stream replies (GoesOn duties) is queue place before events few plays =
        absurd (never_goes_on stream replies duties is queue place before events few
        (subst (Plays config run whole before events) (duties_alone stream replies duties queue place) plays))
    course_played zero stream replies (Takes position entry duty) is queue place before events few plays =
        absurd (never_goes_on (after_offer stream position.0 entry) replies (duty ∷ []) is queue place before events few plays)
    course_played (suc most) stream replies (GoesOn duties) is queue place before events few plays =
        let same = duties_alone stream replies duties queue place in
        subst (Answered stream replies (GoesOn duties) (moment_of config before queue)) (ap (λ (s : Scheduled). finally s events) (sym same))
        (goes_on most (course_played most) stream replies duties is queue place before events few (subst (Plays config run whole before events) same plays))
    course_played (suc most) stream replies (Takes position entry duty) is queue place before events few plays =
        let then = goes_on most (course_played most) (after_offer stream position.0 entry) replies (duty ∷ []) is queue place before events few plays in
        record {
          calls = then.calls;
          answer = then.answer;
          left = then.left;
          queue = then.queue;
          place = then.place;
          before = then.before;
          events = then.events;
          goes = takes_first stream position entry duty then.calls (moment_of config before queue) then.answer (moment_of config then.before then.queue) then.goes;
          plays = then.plays;
          ending = then.ending;
        }
