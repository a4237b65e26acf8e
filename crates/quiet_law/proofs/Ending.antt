-- A run that is played opens, and then its items go, one after another, to the replies of the log, and its last moment is as the
-- log has it then.
use Rattle.std.proofs.Common.{◌≡◌, ◌⊎◌, ◌+◌, ◌<◌, ◌≤◌, ℕ, List, [], ◌∷◌, ◌++◌, length, length-append, replicate, take, Option, Some, None, refl, sym, ap, subst, inl, inr, append-nil, append_assoc, arith, ◌∙◌}
use Rattle.std.specs.List.{AllByRecursion}
use Rattle.std.proofs.lemmas.Bool.{cond_both}
use Rattle.std.proofs.lemmas.List.{take-append-le}
use Rattle.log_base.specs.ClusterShape.{InRange, Shape}
use Rattle.log_base.specs.declared.numbers.NodeId.{NodeId}
use Rattle.log_model.specs.Chain.{Standing, Live, Frozen}
use Rattle.record_frame.specs.declared.entries.Entry.{Entry}
use Rattle.record_frame.specs.declared.values.Value.{Value}
use Rattle.record_frame.specs.declared.values.Value.TheVariants.{Cut, Add as AddValue, Finalise as FinaliseValue, Trim as TrimValue}
use Rattle.command_frame.specs.declared.items.Item.{Item}
use Rattle.command_frame.specs.declared.items.Item.TheVariants.{Append, Read, Subscribe, Trim, Add, Finalise, Ask, Fault}
use Rattle.command_frame.specs.Items.{IsItem, IsNoFault}
use Rattle.reply_frame.specs.declared.replies.Reply.{Reply}
use Rattle.history_frame.specs.declared.events.Event.{Event}
use Rattle.history_frame.specs.declared.events.Sent.{Sent}
use Rattle.node_table.specs.declared.role.Role.TheVariants.{Orderer}
use Rattle.node_table.specs.Numbering.{node_of, nodes_of, orderer_node}
use Rattle.node_table.proofs.Roles.{role_at-node_of}
use Rattle.paxos_model.specs.Leader.{slot_limit}
use Rattle.node_model.specs.NodeState.{NodeState, Storing, Gathering, Ordering, begun_as, node_after}
use Rattle.node_model.specs.OrdererNode.{Mode, known_of}
use Rattle.plain_log.specs.Log.{LogState, after, after_entry, cut_of, drawn as drawn_state, knows, log_of, next_entry, replies_from, standing_of, start, state_after, stored, with_value}
use Rattle.plain_log.proofs.Joining.{values_stay}
use Rattle.schedule_model.specs.declared.duties.Duty.TheVariants.{DeliverAll}
use Rattle.schedule_model.specs.declared.duties.Signal.TheVariants.{Lead, Restart}
use Rattle.schedule_model.specs.Courses.{beginning}
use Rattle.schedule_model.specs.Driven.{replies_of}
use Rattle.schedule_model.specs.Duties.{give}
use Rattle.schedule_model.specs.Scheduling.{Scheduled, Waiting, at_first, drawn, entered, primaries_after, ready, records_after, scene_of, stream_before, taken}
use Rattle.schedule_model.specs.Streams.{nothing_taken}
use Rattle.subscriber.specs.Following.{Following}
use Rattle.schedule_model.proofs.Ready.{ready-begins}
use Rattle.quiet_model.specs.Opening.{IsBeginning, IsOpening, empty_disks}
use Rattle.quiet_model.specs.Settled.{ListsOf}
use Rattle.quiet_model.proofs.Gathering.{IsSettledNode}
use Rattle.quiet_law.specs.Matching.{IsInOrder, Matches, agreed_in, primaries_in}
use Rattle.quiet_law.specs.Quiet.{HasSlots, IsQuietRun, known_at, moment_after}
use Rattle.quiet_law.proofs.Doing.{delivers, gives, spot}
use Rattle.quiet_law.proofs.Driving.{beginning_calls, course_played}
use Rattle.quiet_law.proofs.Items.{draws_after, item_answered, opening_starts, primaries_next}
use Rattle.quiet_law.proofs.Keeping.{in_order_after, in_order_start}
use Rattle.quiet_law.proofs.Playing.{Plays, finally, letters_in, moment_of, same_end, same_plays}

-- an item joins one value at most
one_entry : (replicas : ℕ) (state : LogState) (shard segment : ℕ) (entry : Entry) (standing : Option Standing)
    → length (after_entry replicas state shard segment entry standing).values ≤ length state.values + 1
one_entry replicas state shard segment entry None = omega arith
one_entry replicas state shard segment entry (Some Frozen) = omega arith
one_entry replicas state shard segment entry (Some Live) =
    omega (arith, length-append state.values (Cut (cut_of (stored replicas state shard segment entry).segments) ∷ []))

one_value : (config : Shape) (run : ℕ) (state : LogState) (item : Item) → length (after config run state item).values ≤ length state.values + 1
one_value config run state (Append lane shard replica bytes) =
    one_entry config.replicas (drawn_state state lane shard.0 replica.0) shard.0 replica.0 (next_entry run state lane bytes) (standing_of config.replicas state shard.0)
one_value config run state (Read lane shard replica position) = omega arith
one_value config run state (Subscribe lane shard replica from count) = omega arith
one_value config run state (Trim lane position) = omega (arith, length-append state.values (TrimValue position ∷ []))
one_value config run state (Add lane shard) = omega (arith, length-append state.values (AddValue shard ∷ []))
one_value config run state (Finalise lane shard) =
    cond_both (knows config.replicas state shard.0) (with_value state (FinaliseValue shard)) state (λ (s : LogState). length s.values ≤ length state.values + 1)
    (λ _. omega (arith, length-append state.values (FinaliseValue shard ∷ []))) (λ _. omega arith)
one_value config run state (Ask lane) = omega arith
one_value config run state (Fault lane fault) = omega arith

-- an item that is no line of the fault script changes neither the queue, nor a hold, nor what is planned
entered_at : (config : Shape) (run : ℕ) (item : Item) (items : List Item) (draws : List ℕ) (primaries : List (Option NodeId)) (records : List (List ℕ)) (stream : Following)
    (replies : List Reply) (queue : List Waiting) (place : ℕ) → IsNoFault item
    → entered (spot config run (item ∷ items) draws primaries records stream replies [] queue place) item items
    ≡ spot config run items (drawn item draws) (primaries_after config item primaries) (records_after item records) (stream_before item stream) replies [] queue place
entered_at config run (Fault lane fault) items draws primaries records stream replies queue place no_fault = absurd no_fault
entered_at config run item items draws primaries records stream replies queue place no_fault = refl

module _ (config : Shape) (range : InRange config) (run : ℕ) where
  -- orderer 0 knows the values of the log
  knows_at : (ballot : ℕ) (lists : ListsOf) (state : LogState) (node : NodeState) → IsSettledNode config (agreed_in ballot state) lists (Orderer 0) node
      → known_at node ≡ length state.values
  knows_at ballot lists state (Ordering node) o =
      ap (λ (mode : Mode). length (known_of mode)) o.runs ∙ ap (λ (values : List Value). length values) o.knows
  knows_at ballot lists state (Storing node) o = absurd o
  knows_at ballot lists state (Gathering node) o = absurd o

  first_orderer : 1 ≤ config.orderers
  first_orderer = let odd = range.odd in omega arith

  module _ (whole : List Event) where
    -- there are slots for all values of the log, or it is told that orderer 0 always has one
    abbrev Fits : LogState → List Item → Type 0
    Fits state items = (length (state_after config run state items).values ≤ slot_limit) ⊎ HasSlots config whole

    fits_next : (state : LogState) (item : Item) (items : List Item) (queue : List Waiting) (before events : List Event) → before ++ events ≡ whole
        → Matches config state (moment_of config before queue) → Fits state (item ∷ items) → length (after config run state item).values ≤ slot_limit
    fits_next state item items queue before events parts matches (inl few) =
        let next = after config run state item in
        let stay = values_stay config run next items in
        omega (arith, few, ap (λ (values : List Value). length values) stay.1, length-append next.values stay.0)
    fits_next state item items queue before events parts matches (inr slots) =
        let within : length before ≤ length whole = omega (arith, ap (λ (es : List Event). length es) parts, length-append before events) in
        let front : take (length before) whole ≡ before =
        ap (take (length before)) (sym parts) ∙ take-append-le (length before) before events (omega arith) ∙ take_whole before in
        let some = subst (λ (es : List Event). known_at (node_after config empty_disks es (orderer_node config 0)) < slot_limit) front (slots (length before) within) in
        let knows = knows_at matches.ballot matches.lists state (node_after config empty_disks before (orderer_node config 0)) (matches.settled.nodes (Orderer 0) first_orderer) in
        omega (arith, some, knows, one_value config run state item)
      where
        take_whole : (es : List Event) → take (length es) es ≡ es
        take_whole [] = refl
        take_whole (e ∷ es) = ap (λ (rest : List Event). e ∷ rest) (take_whole es)

    fits_later : (state : LogState) (item : Item) (items : List Item) → Fits state (item ∷ items) → Fits (after config run state item) items
    fits_later state item items (inl few) = inl few
    fits_later state item items (inr slots) = inr slots

    -- the replies of the log follow, and the last moment is as the log has it
    abbrev IsEnded : LogState → List Item → List Reply → List Reply → Type 0
    IsEnded state items replies ends =
        Matches config (state_after config run state items) (moment_after config whole) × (ends ≡ replies ++ replies_from config run state items)

    items_played : (items : List Item) (state : LogState) → IsInOrder config run state → AllByRecursion (IsItem config) items → AllByRecursion IsNoFault items → Fits state items
        → (records : List (List ℕ)) (stream : Following) (replies : List Reply) (queue : List Waiting) (place : ℕ) (before events : List Event)
        → Plays config run whole before events (spot config run items state.draws (primaries_in config state) records stream replies [] queue place)
        → Matches config state (moment_of config before queue)
        → IsEnded state items replies (finally (spot config run items state.draws (primaries_in config state) records stream replies [] queue place) events)
    items_played [] state is all none fits records stream replies queue place before [] plays matches =
        let none_left : letters_in queue ≡ [] = matches.settled.queue in
        let last : before ≡ whole = sym (append-nil before) ∙ plays.parts in
        let delivered = subst (λ (letters : List Sent). Matches config state (record { nodes = node_after config empty_disks before; queue = letters })) none_left matches in
        (subst (λ (es : List Event). Matches config state (moment_after config es)) last delivered, sym (append-nil replies))
    items_played [] state is all none fits records stream replies queue place before (event ∷ events) plays matches =
        absurd (let none = plays.follow.0 in cc)
    items_played (item ∷ items) state is all none fits records stream replies queue place before events plays matches =
        let s = spot config run (item ∷ items) state.draws (primaries_in config state) records stream replies [] queue place in
        let primaries = primaries_after config item (primaries_in config state) in
        let next_records = records_after item records in
        let course = beginning config run state.draws (primaries_in config state) (scene_of s) item in
        let begins = taken (spot config run items (drawn item state.draws) primaries next_records (stream_before item stream) replies [] queue place) course in
        let same : ready s ≡ ready begins =
        sym (ready-begins s (item ∷ items) refl refl refl)
        ∙ ap (λ (x : Scheduled). ready (taken x course)) (entered_at config run item items state.draws (primaries_in config state) records stream replies queue place none.0) in
        let one = course_played config run whole items (drawn item state.draws) primaries next_records (length events) (stream_before item stream) replies course
        (beginning_calls config run state.draws (primaries_in config state) (scene_of s) item none.0) queue place before events (omega arith)
        (same_plays s begins same config run whole before events plays) in
        let next = after config run state item in
        let few = fits_next state item items queue before events plays.parts matches fits in
        let told = item_answered config range run state item is all.0 none.0 few (scene_of s) stream one.calls (moment_of config before queue) (moment_of config one.before one.queue) one.answer matches one.goes in
        let later = replies ++ one.answer ∷ [] in
        let spot_with : List ℕ → List (Option NodeId) → Scheduled = λ draws primaries. spot config run items draws primaries next_records one.left later [] one.queue one.place in
        let same_spot : spot_with (drawn item state.draws) primaries ≡ spot_with next.draws (primaries_in config next) =
        ap (λ (draws : List ℕ). spot_with draws primaries) (draws_after config range run state item) ∙ ap (spot_with next.draws) (primaries_next config range run state item) in
        let rest = items_played items next (in_order_after config run state item all.0 is) all.1 none.1 (fits_later state item items fits) next_records one.left later one.queue one.place one.before one.events
        (subst (Plays config run whole one.before one.events) same_spot one.plays) told.0 in (
          rest.0,
          sym (same_end s begins same events)
              ∙ sym one.ending
              ∙ ap (λ (x : Scheduled). finally x one.events) same_spot
              ∙ rest.1
              ∙ append_assoc replies (one.answer ∷ []) (replies_from config run next items)
              ∙ ap (λ (reply : Reply). replies ++ reply ∷ replies_from config run next items) told.1,
        )

  -- ---- the opening

  begins_down : IsBeginning config (moment_of config [] [])
  begins_down = record {
    nodes = λ role is. ap (begun_as config empty_disks (node_of config role)) (role_at-node_of config role is);
    queue = refl;
  }

  -- a whole run
  pub run_ended : (items : List Item) (events : List Event) → IsQuietRun config run items events
      → (length (state_after config run (start config) items).values ≤ slot_limit) ⊎ HasSlots config events
      → (replies_of config run items events ≡ log_of config run items) × Matches config (state_after config run (start config) items) (moment_after config events)
  run_ended items events h fits =
      let draws : List ℕ = replicate 64 0 in
      let primaries : List (Option NodeId) = replicate 64 None in
      let records : List (List ℕ) = replicate 64 [] in
      let plays : Plays config run events [] events (at_first config run items) = record {
        parts = refl;
        follow = h.driven.followed;
        over = h.driven.over;
        next = h.legal.follow;
        quiet = h.quiet;
      } in
      let restarted = gives config run events items draws primaries records nothing_taken [] Restart (nodes_of config) 0 (give Lead (orderer_node config 0) 1 ∷ DeliverAll ∷ []) [] 0 [] events plays in
      let led = gives config run events items draws primaries records nothing_taken [] Lead 1 (orderer_node config 0) (DeliverAll ∷ []) restarted.queue restarted.place restarted.before restarted.events restarted.plays in
      let opened = delivers config run events items draws primaries records nothing_taken [] (length led.events) [] led.queue led.place led.before led.events (omega arith) led.plays in
      let opens : IsOpening config (moment_of config [] []) (moment_of config opened.before opened.queue) = record {
        started = moment_of config restarted.before restarted.queue;
        restarts = restarted.reached;
        lead = record { middle = moment_of config led.before led.queue; turns = led.reached; deliveries = opened.reached };
      } in
      let matches = opening_starts config range run (moment_of config [] []) (moment_of config opened.before opened.queue) begins_down opens in
      let done = items_played events items (start config) (in_order_start config run) h.each h.no_faults fits records nothing_taken [] opened.queue opened.place opened.before opened.events opened.plays matches in
      (sym (opened.ending ∙ led.ending ∙ restarted.ending) ∙ done.1, done.0)
