-- One asks over moments: the primary of the lane's last append answers as the log does.
use Rattle.std.proofs.Common.{◌≡◌, ◌<◌, ℕ, zero, suc, List, [], ◌∷◌, length, map, Option, Some, None, refl, sym, ap, subst, ◌∙◌}
use Rattle.std.specs.Prelude.{slice_index_or}
use Rattle.reply_frame.specs.declared.replies.Reply.{Reply}
use Rattle.history_frame.specs.declared.inputs.Call.TheVariants.{Ask as AskCall}
use Rattle.log_base.specs.ClusterShape.{Shape}
use Rattle.log_base.specs.declared.numbers.NodeId.{NodeId}
use Rattle.log_model.specs.Asking.{Asked, At, Pending, FinalisedAt, Stale, Missing, ask}
use Rattle.log_model.specs.Storage.{Knowledge, knowledge_of, list_in}
use Rattle.record_frame.specs.declared.entries.Entry.{Entry}
use Rattle.node_model.specs.StorageNode.{StorageNode, member_of}
use Rattle.node_model.specs.StorageRow.{answered, ask_reply, call_row, on_ask}
use Rattle.command_frame.specs.declared.items.Item.TheVariants.{Ask}
use Rattle.plain_log.specs.Log.{LogState, Primary, asked_of, entries_of, primary_of, reply_to, told_asked, told_last}
use Rattle.schedule_model.specs.Courses.{asked, beginning, client_of, last_number}
use Rattle.quiet_model.specs.Moments.{Moment}
use Rattle.quiet_model.specs.Settled.{IsReplica, ListsOf, list_at}
use Rattle.quiet_law.specs.Going.{Goes, no_scene}
use Rattle.subscriber.specs.Following.{Following}
use Rattle.quiet_law.specs.Matching.{AreListsOf, IsInOrder, IsOfCluster, Matches, agreed_in, node_of_primary, primaries_in}
use Rattle.quiet_law.proofs.Answering.{replica_answers}

-- a replica and the log tell the same
same_told : (answer : Asked) → ask_reply answer ≡ told_asked answer
same_told (At position) = refl
same_told (Pending covered) = refl
same_told (FinalisedAt frozen) = refl
same_told (Stale last) = refl
same_told Missing = refl

-- the schedule has the node of the log's primary
primary_named : (config : Shape) (primaries : List (Option Primary)) (lane : ℕ)
    → slice_index_or (map (node_of_primary config) primaries) lane None ≡ node_of_primary config (slice_index_or primaries lane None)
primary_named config [] lane = refl
primary_named config (primary ∷ primaries) zero = refl
primary_named config (primary ∷ primaries) (suc lane) = primary_named config primaries lane

module _ (config : Shape) (run : ℕ) (state : LogState) (lane : ℕ) (stream : Following) where
  abbrev number : ℕ
  number = (last_number run state.draws lane).0

  told_row : (primary : Primary) (lists : ListsOf) → AreListsOf config state lists → primary.shard < config.shards → primary.replica < config.replicas
      → (node : StorageNode) (h : IsReplica config primary.shard primary.replica (lists primary.shard) (length (list_at lists primary.shard primary.replica)) state.values node)
      → call_row (member_of config primary.shard primary.replica) node.durable h.memory (AskCall (client_of lane) (last_number run state.draws lane))
      ≡ Some (answered h.memory (asked_of config.replicas state primary lane number))
  unfolding on_ask
  told_row primary lists same a b node h =
      let member = member_of config primary.shard primary.replica in
      let known = knowledge_of member state.values in
      ap (λ (all : List (List Entry)). Some (answered h.memory (ask_reply (ask member (list_in all primary.replica) h.memory.known lane number)))) h.holds
      ∙ ap (λ (k : Knowledge). Some (answered h.memory (ask_reply (ask member (list_at lists primary.shard primary.replica) k lane number)))) h.knows
      ∙ ap (λ (list : List Entry). Some (answered h.memory (ask_reply (ask member list known lane number)))) (same primary.shard primary.replica a b)
      ∙ ap (λ (reply : Reply). Some (answered h.memory reply))
      (same_told (ask member (entries_of config.replicas state primary.shard primary.replica) known lane number))

  by_primary : (primary : Option Primary) → IsOfCluster config primary → (calls : ℕ) (before after : Moment) (answer : Reply) → Matches config state before
      → Goes config stream calls (asked (client_of lane) (last_number run state.draws lane) (node_of_primary config primary)) before answer after
      → Matches config state after × (answer ≡ told_last config.replicas run state lane primary)
  by_primary None is calls before after answer matches goes = (subst (Matches config state) (sym goes.1) matches, goes.0)
  by_primary (Some primary) is zero before after answer matches goes = absurd goes
  by_primary (Some primary) is (suc calls) before after answer matches goes =
      let told = replica_answers config (agreed_in matches.ballot state) matches.lists primary.shard primary.replica is.0 is.1
      (AskCall (client_of lane) (last_number run state.draws lane)) (asked_of config.replicas state primary lane number)
      (told_row primary matches.lists matches.same is.0 is.1) before goes.1 goes.0 matches.settled goes.2 in
      let stays : Matches config state goes.1 = record { ballot = matches.ballot; lists = matches.lists; same = matches.same; settled = told.0 } in
      (subst (Matches config state) (sym goes.3.1) stays, goes.3.0 ∙ told.1)

  pub ask_answered : IsInOrder config run state → (calls : ℕ) (before after : Moment) (answer : Reply) → Matches config state before
      → Goes config stream calls (beginning config run state.draws (primaries_in config state) no_scene (Ask lane)) before answer after
      → Matches config state after × (answer ≡ reply_to config run state (Ask lane))
  ask_answered is calls before after answer matches goes =
      let named = primary_named config state.primaries lane in
      by_primary (primary_of state lane) (is.last lane) calls before after answer matches
      (subst (λ (node : Option NodeId). Goes config stream calls (asked (client_of lane) (last_number run state.draws lane) node) before answer after) named goes)
