-- Items over moments, one after another, are answered as the log of one thread answers them.
use Rattle.std.proofs.Common.{◌≡◌, ◌<◌, ◌≤◌, ◌*◌, ℕ, not, List, [], ◌∷◌, ◌++◌, length, length-append, map, replicate, Option, Some, None, refl, sym, ap, subst, ⊎_elim, arith, ◌∙◌}
use Rattle.std.specs.List.{AllByRecursion}
use Rattle.std.proofs.lemmas.Bool.{cases_Bool, cond-false, cond-true, cond_both}
use Rattle.std.proofs.lemmas.List.{map-set}
use Rattle.reply_frame.specs.declared.replies.Reply.{Reply, NoSuchShard}
use Rattle.log_base.specs.ClusterShape.{InRange, Shape}
use Rattle.log_base.specs.declared.numbers.NodeId.{NodeId}
use Rattle.log_base.specs.declared.numbers.Shard.{Shard}
use Rattle.log_model.specs.Chain.{Standing, Live, Frozen}
use Rattle.log_model.specs.Lookup.{segment_index}
use Rattle.record_frame.specs.declared.entries.Entry.{Entry}
use Rattle.record_frame.specs.declared.values.Value.{Value}
use Rattle.record_frame.specs.declared.values.Value.TheVariants.{Add as AddValue, Finalise as FinaliseValue, Trim as TrimValue}
use Rattle.paxos_model.specs.Leader.{slot_limit}
use Rattle.command_frame.specs.declared.items.Item.{Item}
use Rattle.command_frame.specs.declared.items.Item.TheVariants.{Append, Read, Subscribe, Trim, Add, Finalise, Ask, Fault}
use Rattle.command_frame.specs.Items.{IsItem, IsNoFault}
use Rattle.plain_log.specs.Coherent.{IsCoherentState}
use Rattle.plain_log.specs.Log.{LogState, Primary, after, after_entry, drawn as drawn_state, knows, log_of, next_entry, replies_from, reply_to, standing_of, start, state_after, told_slot, with_value}
use Rattle.plain_log.proofs.Coherent.{coherent_after}
use Rattle.plain_log.proofs.Joining.{values_stay}
use Rattle.plain_log.proofs.Lists.{replicate-nil}
use Rattle.schedule_model.specs.Courses.{Scene, beginning, client_of}
use Rattle.schedule_model.specs.Scheduling.{drawn, primaries_after, stream_before}
use Rattle.schedule_model.specs.Streams.{nothing_taken}
use Rattle.quiet_model.specs.Moments.{Moment}
use Rattle.quiet_model.specs.Opening.{IsBeginning, IsOpening, no_lists}
use Rattle.quiet_model.proofs.Beginning.{opened}
use Rattle.quiet_law.specs.Going.{AllGo, Goes, no_scene}
use Rattle.subscriber.specs.Following.{Following}
use Rattle.quiet_law.specs.Matching.{IsInOrder, Matches, node_of_primary, primaries_in}
use Rattle.quiet_law.proofs.Asking.{ask_answered}
use Rattle.quiet_law.proofs.Keeping.{in_order_after, in_order_start}
use Rattle.quiet_law.proofs.Seeking.{read_answered}
use Rattle.quiet_law.proofs.Segments.{list_in-or}
use Rattle.quiet_law.proofs.Storing.{append_answered}
use Rattle.quiet_law.proofs.Streaming.{subscription_answered}
use Rattle.quiet_law.proofs.Wishing.{wish_answered, wish_refused}

-- a value that joins is within the slots
pub slot_left : (values : List Value) (value : Value) → length (values ++ value ∷ []) ≤ slot_limit → length values < slot_limit
slot_left values value few = omega (arith, few, length-append values (value ∷ []))

module _ (config : Shape) (range : InRange config) (run : ℕ) where
  -- what an item leads to, and what it is answered
  abbrev IsDone : LogState → Item → Moment → Reply → Type 0
  IsDone state item later answer = Matches config (after config run state item) later × (answer ≡ reply_to config run state item)

  finalised : (state : LogState) → IsInOrder config run state → (lane : ℕ) (shard : Shard) (stream : Following) → IsItem config (Finalise lane shard)
      → length (after config run state (Finalise lane shard)).values ≤ slot_limit
      → (calls : ℕ) (before later : Moment) (answer : Reply) → Matches config state before
      → Goes config stream calls (beginning config run state.draws (primaries_in config state) no_scene (Finalise lane shard)) before answer later → IsDone state (Finalise lane shard) later answer
  finalised state is lane shard stream item few calls before later answer matches goes =
      let value : Value = FinaliseValue shard in
      let known = knows config.replicas state shard.0 in
      ⊎_elim
      (λ there.
      let next = cond-true known (with_value state value) state there in
      let coherent = subst (IsCoherentState config) next (coherent_after config run state (Finalise lane shard) item is.coherent) in
      let done = wish_answered config range state (client_of lane) value stream (ap not there) coherent
      (slot_left state.values value (subst (λ (s : LogState). length s.values ≤ slot_limit) next few)) calls before later answer matches goes in
      (subst (λ (s : LogState). Matches config s later) (sym next) done.0, done.1 ∙ sym (cond-true known (told_slot state) NoSuchShard there)))
      (λ unknown.
      let next = cond-false known (with_value state value) state unknown in
      let done = wish_refused config range state (client_of lane) value stream (ap not unknown) calls before later answer matches goes in
      (subst (λ (s : LogState). Matches config s later) (sym next) done.0, done.1 ∙ sym (cond-false known (told_slot state) NoSuchShard unknown)))
      (cases_Bool known)

  pub item_answered : (state : LogState) (item : Item) → IsInOrder config run state → IsItem config item → IsNoFault item
      → length (after config run state item).values ≤ slot_limit → (scene : Scene) (stream : Following) (calls : ℕ) (before later : Moment) (answer : Reply) → Matches config state before
      → Goes config (stream_before item stream) calls (beginning config run state.draws (primaries_in config state) scene item) before answer later → IsDone state item later answer
  item_answered state (Append lane shard replica bytes) is item no_fault few scene stream calls before later answer matches goes =
      append_answered config range run state is lane shard replica bytes item stream few calls before later answer matches goes
  item_answered state (Read lane shard replica position) is item no_fault few scene stream calls before later answer matches goes =
      read_answered config state is.coherent (client_of lane) position replica item.2 stream shard.0 calls item.1 before later answer matches goes
  item_answered state (Subscribe lane shard replica from count) is item no_fault few scene stream calls before later answer matches goes =
      let reaches = is.reaches in
      subscription_answered config state is.coherent (omega arith) shard replica (client_of lane) from count item.1 item.2 item.4 calls before later answer matches goes
  item_answered state (Trim lane position) is item no_fault few scene stream calls before later answer matches goes =
      wish_answered config range state (client_of lane) (TrimValue position) stream refl (coherent_after config run state (Trim lane position) item is.coherent)
      (slot_left state.values (TrimValue position) few) calls before later answer matches goes
  item_answered state (Add lane shard) is item no_fault few scene stream calls before later answer matches goes =
      wish_answered config range state (client_of lane) (AddValue shard) stream refl (coherent_after config run state (Add lane shard) item is.coherent)
      (slot_left state.values (AddValue shard) few) calls before later answer matches goes
  item_answered state (Finalise lane shard) is item no_fault few scene stream calls before later answer matches goes =
      finalised state is lane shard stream item few calls before later answer matches goes
  item_answered state (Ask lane) is item no_fault few scene stream calls before later answer matches goes =
      ask_answered config run state lane stream is calls before later answer matches goes
  item_answered state (Fault lane fault) is item no_fault few scene stream calls before later answer matches goes = absurd no_fault

  -- ---- items, one after another

  draws_entry : (replicas : ℕ) (state : LogState) (s j : ℕ) (entry : Entry) (standing : Option Standing) → (after_entry replicas state s j entry standing).draws ≡ state.draws
  draws_entry replicas state s j entry None = refl
  draws_entry replicas state s j entry (Some Frozen) = refl
  draws_entry replicas state s j entry (Some Live) = refl

  pub draws_after : (state : LogState) (item : Item) → drawn item state.draws ≡ (after config run state item).draws
  draws_after state (Append lane shard replica bytes) =
      sym (draws_entry config.replicas (drawn_state state lane shard.0 replica.0) shard.0 replica.0 (next_entry run state lane bytes) (standing_of config.replicas state shard.0))
  draws_after state (Read lane shard replica position) = refl
  draws_after state (Subscribe lane shard replica from count) = refl
  draws_after state (Trim lane position) = refl
  draws_after state (Add lane shard) = refl
  draws_after state (Finalise lane shard) =
      cond_both (knows config.replicas state shard.0) (with_value state (FinaliseValue shard)) state (λ (s : LogState). state.draws ≡ s.draws) (λ _. refl) (λ _. refl)
  draws_after state (Ask lane) = refl
  draws_after state (Fault lane fault) = refl

  primaries_entry : (replicas : ℕ) (state : LogState) (s j : ℕ) (entry : Entry) (standing : Option Standing)
      → (after_entry replicas state s j entry standing).primaries ≡ state.primaries
  primaries_entry replicas state s j entry None = refl
  primaries_entry replicas state s j entry (Some Frozen) = refl
  primaries_entry replicas state s j entry (Some Live) = refl

  pub primaries_next : (state : LogState) (item : Item) → primaries_after config item (primaries_in config state) ≡ primaries_in config (after config run state item)
  primaries_next state (Append lane shard replica bytes) =
      let primary : Option Primary = Some (record { shard = shard.0; replica = replica.0 }) in
      sym (ap (map (node_of_primary config)) (primaries_entry config.replicas (drawn_state state lane shard.0 replica.0) shard.0 replica.0 (next_entry run state lane bytes) (standing_of config.replicas state shard.0))
      ∙ map-set (node_of_primary config) state.primaries lane primary)
  primaries_next state (Read lane shard replica position) = refl
  primaries_next state (Subscribe lane shard replica from count) = refl
  primaries_next state (Trim lane position) = refl
  primaries_next state (Add lane shard) = refl
  primaries_next state (Finalise lane shard) =
      cond_both (knows config.replicas state shard.0) (with_value state (FinaliseValue shard)) state
      (λ (s : LogState). primaries_in config state ≡ primaries_in config s) (λ _. refl) (λ _. refl)
  primaries_next state (Ask lane) = refl
  primaries_next state (Fault lane fault) = refl

  pub items_answered : (items : List Item) (state : LogState) → IsInOrder config run state → AllByRecursion (IsItem config) items
      → AllByRecursion IsNoFault items → length (state_after config run state items).values ≤ slot_limit
      → (before later : Moment) (answers : List Reply) → Matches config state before → AllGo config run state.draws (primaries_in config state) items before answers later
      → Matches config (state_after config run state items) later × (answers ≡ replies_from config run state items)
  items_answered [] state is all none few before later answers matches goes = (subst (Matches config state) (sym goes.1) matches, goes.0)
  items_answered (item ∷ items) state is all none few before later [] matches goes = absurd goes
  items_answered (item ∷ items) state is all none few before later (answer ∷ answers) matches goes =
      let next = after config run state item in
      let stay = values_stay config run next items in
      let few_now : length next.values ≤ slot_limit = omega (arith, few, ap (λ (values : List Value). length values) stay.1, length-append next.values stay.0) in
      let first = item_answered state item is all.0 none.0 few_now no_scene nothing_taken goes.0 before goes.1 answer matches goes.2 in
      let rest = items_answered items next (in_order_after config run state item all.0 is) all.1 none.1 few goes.1 later answers first.0
      (subst (λ (primaries : List (Option NodeId)). AllGo config run next.draws primaries items goes.1 answers later) (primaries_next state item)
      (subst (λ (draws : List ℕ). AllGo config run draws (primaries_after config item (primaries_in config state)) items goes.1 answers later) (draws_after state item) goes.3)) in
      (rest.0, ap (λ (reply : Reply). reply ∷ answers) first.1 ∙ ap (λ (replies : List Reply). reply_to config run state item ∷ replies) rest.1)

  -- the opening leads to the start of the log
  pub opening_starts : (before later : Moment) → IsBeginning config before → IsOpening config before later → Matches config (start config) later
  opening_starts before later begins opens = record {
    ballot = config.orderers;
    lists = no_lists config;
    same = λ shard segment a b.
        list_in-or (replicate config.replicas []) segment
        ∙ replicate-nil config.replicas segment
        ∙ sym (replicate-nil (config.shards * config.replicas) (segment_index config.replicas shard segment));
    settled = let odd = range.odd in let some : 1 ≤ config.orderers = omega arith in opened config range some before later begins opens;
  }

  -- a whole run
  pub run_answered : (items : List Item) → AllByRecursion (IsItem config) items → AllByRecursion IsNoFault items
      → length (state_after config run (start config) items).values ≤ slot_limit
      → (before first later : Moment) (answers : List Reply) → IsBeginning config before → IsOpening config before first
      → AllGo config run (start config).draws (primaries_in config (start config)) items first answers later
      → Matches config (state_after config run (start config) items) later × (answers ≡ log_of config run items)
  run_answered items all none few before first later answers begins opens goes =
      items_answered items (start config) (in_order_start config run) all none few first later answers (opening_starts before first begins opens) goes
