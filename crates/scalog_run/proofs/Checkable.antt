-- What a run sends is a history that can be checked.
use Rattle.std.proofs.Common.{◌≡◌, inl, inr, ℕ, zero, suc, ◌+◌, ◌<◌, ◌≤◌, Bool, true, false, cond, List, [], ◌∷◌, length, take, slice_get, Option, Some, None, Result, Ok, Err, refl, sym, ap, subst, arith, ◌∙◌}
use Rattle.std.specs.Prelude.{fold, is_some, nat_lt}
use Rattle.std.specs.Io.KnownBytes.{Appends}
use Rattle.std.specs.List.{AllByRecursion}
use Rattle.std.proofs.lemmas.Bool.Decides.{nat_tests}
use Rattle.std.proofs.lemmas.Grind.{common_steps}
use Rattle.std.proofs.lemmas.List.{take_all}
use Rattle.command_frame.specs.declared.items.Item.{Item}
use Rattle.command_frame.specs.declared.items.Item.TheVariants.{Append, Read, Subscribe, Trim, Add, Finalise, Ask, Fault}
use Rattle.command_frame.specs.Items.{IsItem}
use Rattle.reply_frame.specs.declared.replies.Reply.{Reply}
use Rattle.reply_frame.specs.Replies.{HasSpelling, IsNodeAnswer, reply_bytes, reply_spelling}
use Rattle.record_frame.specs.declared.entries.Entry.{Entry}
use Rattle.record_frame.specs.Entries.{IsEntry}
use Rattle.history_frame.specs.declared.events.Event.{Event}
use Rattle.history_frame.specs.declared.events.History.{History}
use Rattle.history_frame.specs.declared.events.Kept.{Kept}
use Rattle.history_frame.specs.declared.pieces.Piece.TheVariants.{Reply as AReply}
use Rattle.history_frame.specs.declared.stages.Stage.TheVariants.{Before}
use Rattle.history_frame.specs.Frames.{Spells}
use Rattle.history_frame.specs.Reader.{HistoryCounts, passed_limit}
use Rattle.history_frame.specs.Widths.{EventFits, ReplyFits}
use Rattle.lane_work.specs.Items.{lane_of}
use Rattle.log_base.specs.ClusterShape.{Shape}
use Rattle.log_base.specs.Shape.{shape}
use Rattle.node_model.specs.Legal.{IsLawful, IsLegal}
use Rattle.node_model.specs.Sound.{IsBefore, IsSound, IsSoundAs, payloads_on}
use Rattle.node_model.proofs.Sounding.{sound_each}
use Rattle.node_table.specs.declared.role.Role.{Role}
use Rattle.node_table.specs.declared.role.Role.TheVariants.{Storage, Gatherer, Orderer}
use Rattle.paxos_model.specs.Payloads.{payload_in, payload_spelling}
use Rattle.paxos_model.specs.Votes.{Payload, Promise, Voted}
use Rattle.schedule_model.specs.Driven.{Follow, IsFollowed, after_event, after_events, replies_of}
use Rattle.schedule_model.specs.Scheduling.{Scheduled, at_first, next_turn}
use Rattle.schedule_model.specs.Streams.{stream_of}
use Rattle.schedule_model.proofs.Replying.{IsNotFound, IsStream, WasFound}
use Rattle.subscriber.specs.Following.{Following}
use Rattle.quiet_run.specs.Limits.{bytes_of, byte_limit, is_one_full, limit_of, limit_passed}
use Rattle.quiet_run.specs.Runs.{IsWithinLimits}
use Rattle.quiet_run.specs.Standing.{Job, job}
use Rattle.quiet_run.proofs.Passing.{room_left}
use Rattle.quiet_run.proofs.Spelling.{all_replies_spelled, replies_of_legal}
use Rattle.cluster_disks.specs.Found.{kept_limit}
use Rattle.cluster_disks.specs.Lent.{Disks, Lying}
use Rattle.history_check.specs.Verdicts.{AreHistory}
use Rattle.history_check.specs.Written.{AreReplies, HasWidths, IsReadable, counts_of}
use Rattle.history_check.proofs.WrittenLaws.{events_named, read_again}
use Rattle.scalog_run.specs.declared.fault.RunFault.{RunFault}
use Rattle.scalog_run.specs.declared.fault.RunFault.TheVariants.{BadInput, Unread, Unopened, BadDisk, TooMany, Memory}
use Rattle.scalog_run.specs.Checking.{SendsLawful}
use Rattle.scalog_run.specs.declared.report.Report.TheVariants.{Full}
use Rattle.scalog_run.specs.Histories.{IsWholeRun}
use Rattle.scalog_run.specs.Report.{output_of}
use Rattle.scalog_run.specs.Output.{Sends, Sinking, reply_frames, status_of, to_send}
use Rattle.scalog_run.specs.Run.{ComesTo, IsAnswered, Ran, World}
use Rattle.item_input.proofs.SoFar.{few_items}

-- ---- replies

lane_fits : (config : Shape) (item : Item) → IsItem config item → lane_of item < 256
lane_fits config (Append lane shard replica bytes) is = let lane_is = is.0 in omega arith
lane_fits config (Read lane shard replica position) is = let lane_is = is.0 in omega arith
lane_fits config (Subscribe lane shard replica from count) is = let lane_is = is.0 in omega arith
lane_fits config (Trim lane position) is = let lane_is = is.0 in omega arith
lane_fits config (Add lane shard) is = let lane_is = is.0 in omega arith
lane_fits config (Finalise lane shard) is = let lane_is = is.0 in omega arith
lane_fits config (Ask lane) is = omega arith
lane_fits config (Fault lane line) is = let lane_is = is.0 in omega arith

reply_spelled : (lane : ℕ) (reply : Reply) → lane < 256 → HasSpelling reply → ReplyFits reply → Spells Before 0 AReply (reply_spelling lane reply)
reply_spelled lane reply few is fits = record {
  kind = 64;
  body = lane ∷ reply_bytes reply;
  means = (refl, refl, record { lane = lane; reply = reply; lane_fits = few; is = is.0; fits = fits; text = refl });
  size = let size = is.1 in omega arith;
  text_is = refl;
}

-- the frames of replies are read as such
replies_spelled : (config : Shape) (items : List Item) (replies : List Reply) → length replies ≡ length items → AllByRecursion (IsItem config) items
    → AllByRecursion HasSpelling replies → AllByRecursion ReplyFits replies → AreReplies (length items) (reply_frames items replies)
replies_spelled config [] replies same is spelled fits = refl
replies_spelled config (item ∷ items) [] same is spelled fits = absurd (omega arith)
replies_spelled config (item ∷ items) (reply ∷ replies) same is spelled fits = (
  reply_spelling (lane_of item) reply,
  reply_frames items replies,
  reply_spelled (lane_of item) reply (lane_fits config item is.0) spelled.0 fits.0,
  replies_spelled config items replies (omega arith) is.1 spelled.1 fits.1,
  refl,
)

answers_fit : (events : List Event) → AllByRecursion EventFits events → AllByRecursion (λ (e : Event). ReplyFits e.happened.reply) events
answers_fit [] fits = tt
answers_fit (e ∷ events) fits = (fits.0.happened.reply, answers_fit events fits.1)

entries_fit : (entries : List Entry) → AllByRecursion (WasFound ReplyFits) entries → AllByRecursion IsEntry entries
entries_fit [] h = tt
entries_fit (entry ∷ entries) h = (h.0.good.1, entries_fit entries h.1)

stream_fits : (stream : Following) (last : Reply) → IsStream ReplyFits stream → ReplyFits last → IsNodeAnswer last → IsNotFound last → ReplyFits (stream_of stream last)
stream_fits stream last h fits answer other = (h.from, entries_fit stream.delivered h.each, fits)

-- ---- limits

-- a turn is due before each event
turn_due : (s : Scheduled) (events : List Event) (n : ℕ) → n < length events → Follow s events → is_some (next_turn (after_events s (take n events))) ≡ true
turn_due s [] n lt follow = absurd (omega arith)
turn_due s (e ∷ events) zero lt follow = ap is_some follow.0
turn_due s (e ∷ events) (suc n) lt follow = turn_due (after_event s e) events n (omega arith) follow.1

length-front : (n : ℕ) (events : List Event) → n ≤ length events → length (take n events) ≡ n
length-front zero events le = refl
length-front (suc n) [] le = absurd (omega arith)
length-front (suc n) (e ∷ events) le = ap suc (length-front n events (omega arith))

not_heavy : (many full heavy : Bool) → cond {A = Option ℕ} many (Some 3) (cond {A = Option ℕ} full (Some 4) (cond {A = Option ℕ} heavy (Some 5) None)) ≡ None → heavy ≡ false
not_heavy true full heavy e = absurd (cc)
not_heavy false true heavy e = absurd (cc)
not_heavy false false true e = absurd (cc)
not_heavy false false false e = refl

module _ (a_job : Job) (events : List Event) (followed : IsFollowed a_job.config a_job.run a_job.items events) (within : IsWithinLimits a_job events) where
  few_events : length events ≤ 131072
  few_events = by (nat_lt 131072 (length events)) refl
    where
      by : (b : Bool) → nat_lt 131072 (length events) ≡ b → length events ≤ 131072
      by false e = grind (arith, common_steps)
      by true e =
          let many : 131072 < length events = grind (arith, common_steps) in
          let due = turn_due (at_first a_job.config a_job.run a_job.items) events 131072 many followed in
          let none = within 131072 (omega arith) in
          let there : limit_of true (length (take 131072 events)) (is_one_full a_job (take 131072 events)) (bytes_of (take 131072 events)) ≡ None =
          subst (λ (d : Bool). limit_of d (length (take 131072 events)) (is_one_full a_job (take 131072 events)) (bytes_of (take 131072 events)) ≡ None) due none in
          let room = room_left (length (take 131072 events)) (is_one_full a_job (take 131072 events)) (bytes_of (take 131072 events)) there in
          let small = room.0 in
          absurd (omega (arith, small, length-front 131072 events (omega arith)))

  few_bytes : bytes_of events ≤ 536870912
  few_bytes =
      let none = within (length (events)) (omega arith) in
      let all : limit_passed a_job events ≡ None = subst (λ (l : List Event). limit_passed a_job l ≡ None) (take_all (length events) events (omega arith)) none in
      light (bytes_of events) (not_heavy _ _ (nat_lt byte_limit (bytes_of events)) all)
    where
      light : (n : ℕ) → nat_lt byte_limit n ≡ false → n ≤ 536870912
      light n h = grind (arith, common_steps)

within_counts : (counts : HistoryCounts) → counts.events ≤ 131072 → counts.event_bytes ≤ 536870912 → counts.kept_bytes ≤ 268435456 → passed_limit counts ≡ None
within_counts counts events bytes held = grind (arith, nat_tests)

-- ---- payloads

-- a sound payload has bytes
some_payload : (payload : Payload) → 0 < length (payload_spelling payload)
some_payload (Promise ballot) = omega arith
some_payload (Voted vote) = omega arith

module _ (config : Shape) (run : ℕ) (kept : List Kept) (sound : IsSound config run (payloads_on kept)) where
  sound_some : (role : Role) (segment offset : ℕ) (payload : List ℕ) → IsSoundAs config (IsBefore run) (payloads_on kept) role segment offset payload → 0 < length payload
  sound_some (Storage shard replica) segment offset payload is = omega (arith, ap length is.1.spelled.spelling)
  sound_some (Gatherer index) segment offset payload is = absurd is
  sound_some (Orderer index) segment offset payload is = omega (arith, ap length is.1.spelled.spelling, some_payload (payload_in payload))

-- payloads that have bytes are no more than their bytes
no_more : (kept : List Kept) (sum : ℕ) → ((index : ℕ) (one : Kept) → slice_get kept index ≡ Some one → 0 < length one.payload)
    → sum + length kept ≤ fold (λ (n : ℕ) (k : Kept). n + length k.payload) sum kept
no_more [] sum some = omega arith
no_more (k ∷ kept) sum some =
    let first = some zero k refl in
    let rest = no_more kept (sum + length k.payload) (λ index one at. some (suc index) one at) in
    omega (arith, first, rest)

-- ---- the output of a whole run

module _ {D : Type 0} (by : Disks D) (config : Shape) (run : ℕ) (items : List Item) (history : History) (old new : ℕ → Lying D) (whole : IsWholeRun by config run items history old new) where
  legal_here : IsLegal config run (payloads_on history.kept) history.events
  legal_here = whole.over.legal

  lawful_here : IsLawful history
  lawful_here =
      subst (λ (s : Shape). IsLegal s history.run (payloads_on history.kept) history.events) (sym whole.config_is)
      (subst (λ (r : ℕ). IsLegal config r (payloads_on history.kept) history.events) (sym whole.run_is) legal_here)

  few_kept : length history.kept ≤ kept_limit
  few_kept =
      let each : (index : ℕ) (one : Kept) → slice_get history.kept index ≡ Some one → 0 < length one.payload =
      λ index one at. sound_some config run history.kept legal_here.sound _ _ _ one.payload (sound_each config run history.kept legal_here.sound index one at).1 in
      omega (arith, no_more history.kept 0 each, whole.few)

  readable : HasWidths history → IsReadable history
  readable widths = record {
    spelled = whole.spelled;
    widths = widths;
    letters = events_named config run (payloads_on history.kept) [] history.events legal_here.follow;
    within = within_counts (counts_of history) (few_events (job config run items history.kept) history.events whole.over.followed whole.within)
        (few_bytes (job config run items history.kept) history.events whole.over.followed whole.within) whole.few;
  }

  output_read : AllByRecursion (IsItem config) items → length items ≤ 65536 → HasWidths history → AreHistory (output_of items history) history
  output_read is few widths =
      let replies = replies_of config run items history.events in
      let front : AreReplies (length items) (reply_frames items replies) =
      replies_spelled config items replies whole.each is (all_replies_spelled config run (payloads_on history.kept) items history.events legal_here is whole.spelled.events)
      (replies_of_legal ReplyFits tt tt tt (λ waiting few. omega arith) tt stream_fits config run (payloads_on history.kept) items history.events legal_here is (answers_fit history.events widths.events)) in
      let same : reply_frames items replies ≡ reply_frames items (replies_of (shape history.config) history.run items history.events) =
      ap (λ (s : Shape). reply_frames items (replies_of s run items history.events)) (sym whole.config_is)
      ∙ ap (λ (r : ℕ). reply_frames items (replies_of (shape history.config) r items history.events)) (sym whole.run_is) in
      read_again history (length items) (readable widths) (reply_frames items (replies_of (shape history.config) history.run items history.events))
      (subst (AreReplies (length items)) same front)
      (omega (arith, few, few_kept, few_events (job config run items history.kept) history.events whole.over.followed whole.within))

-- ---- a run that ended with status 0

-- a fault has another status
told_otherwise : (fault : RunFault) → 0 ≡ status_of (Err fault) → ⊥
told_otherwise (BadInput at) e = omega arith
told_otherwise (Unread at) e = omega arith
told_otherwise (Unopened disk) e = omega arith
told_otherwise (BadDisk disk at) e = omega arith
told_otherwise (TooMany cause) e = omega arith
told_otherwise Memory e = omega arith

module _ {D : Type 0} (by : Disks D) (config : Shape) (run : ℕ) (old new : World D) (sink_old sink_new : Sinking) where
  answered_so : (output : List ℕ) → IsAnswered by config run Full (Ok output) old new → Appends sink_old.taken sink_new.taken output → SendsLawful sink_old sink_new
  answered_so output answered sent =
      let out = answered.answers in
      let lawful = lawful_here by config run answered.items out.history old.lain new.lain out.whole in
      let read : HasWidths out.history → AreHistory output out.history =
      λ widths. subst (λ (l : List ℕ). AreHistory l out.history) (sym out.reports)
      (output_read by config run answered.items out.history old.lain new.lain out.whole answered.read.reads.each (few_items answered.items answered.read.reads.within) widths) in
      record {
        bytes = output;
        history = out.history;
        sent = sent;
        lawful = lawful;
        read = read;
        checked = λ widths reading left before after status checked told never. (checked.exact output out.history told (read widths) never).lawful lawful;
      }

  sent_so : (outcome : Result (List ℕ) RunFault) → ComesTo by config run Full old new outcome → 0 ≡ status_of outcome → Appends sink_old.taken sink_new.taken (to_send outcome) → SendsLawful sink_old sink_new
  sent_so (Ok output) (inl unread) e sent = absurd (not_unread unread.outcome_is)
    where
      not_unread : {fault : RunFault} → Ok output ≡ Err fault → ⊥
      not_unread is = cc
  sent_so (Ok output) (inr answered) e sent = answered_so output answered sent
  sent_so (Err fault) comes e sent = absurd (told_otherwise fault e)

  pub sends_lawful : Ran by config run Full old new sink_old sink_new 0 → SendsLawful sink_old sink_new
  sends_lawful ran = by_sending ran.sends
    where
      by_sending : Sends (to_send ran.outcome) (status_of ran.outcome) sink_old sink_new 0 → SendsLawful sink_old sink_new
      by_sending (inl sent) = sent_so ran.outcome ran.comes sent.0 sent.1
      by_sending (inr broken) = absurd (let e : 0 ≡ 5 = broken.0 in omega arith)
