-- A read over moments: the replica that is asked answers, or tells the shard that has the position, and its replica answers.
use Rattle.std.proofs.Common.{◌≡◌, ◌⊎◌, ◌<◌, ℕ, zero, suc, List, [], ◌∷◌, length, Option, Some, None, refl, sym, ap, subst, inl, inr, ⊎_elim, arith, ◌∙◌}
use Rattle.std.specs.Prelude.{nat_lt}
use Rattle.std.proofs.lemmas.Bool.{cases_eq, cond-true, cond_both, lt-ltb}
use Rattle.std.proofs.lemmas.Option.{slice_get_within}
use Rattle.reply_frame.specs.declared.replies.Reply.{Reply, Elsewhere, Found, PendingRead, Trimmed}
use Rattle.history_frame.specs.declared.inputs.Call.TheVariants.{Read}
use Rattle.history_frame.specs.declared.inputs.Input.TheVariants.{Call as ACall}
use Rattle.history_frame.specs.declared.inputs.Mark.TheVariants.{Done}
use Rattle.log_base.specs.ClusterShape.{Shape}
use Rattle.log_base.specs.declared.numbers.Client.{Client}
use Rattle.log_base.specs.declared.numbers.Place.{Place}
use Rattle.log_base.specs.declared.numbers.Position.{Position}
use Rattle.log_base.specs.declared.numbers.Replica.{Replica}
use Rattle.log_base.specs.declared.numbers.Shard.{Shard}
use Rattle.log_model.specs.Chain.{chain_of}
use Rattle.log_model.specs.Lookup.{entry_at_position}
use Rattle.log_model.specs.Reading.{read}
use Rattle.log_model.specs.Spelling.{spell}
use Rattle.log_model.specs.Storage.{Knowledge, knowledge_of, list_in}
use Rattle.record_frame.specs.declared.entries.Entry.{Entry}
use Rattle.log_model.proofs.Appending.{end-chain_of}
use Rattle.node_table.specs.Numbering.{storage_node}
use Rattle.node_model.specs.StorageNode.{StorageNode, member_of}
use Rattle.node_model.specs.StorageRow.{answered, call_row, on_read, read_reply}
use Rattle.plain_log.specs.Coherent.{IsCoherentState}
use Rattle.plain_log.specs.Log.{LogState, entries_of, read_in, told_entry}
use Rattle.schedule_model.specs.declared.courses.Course.{Course}
use Rattle.schedule_model.specs.declared.courses.Course.TheVariants.{GoesOn, Replies}
use Rattle.schedule_model.specs.declared.duties.Awaited.TheVariants.{Reading, Last}
use Rattle.schedule_model.specs.Courses.{course_of, reading_at}
use Rattle.quiet_model.specs.Moments.{Moment, Takes}
use Rattle.quiet_model.specs.Settled.{IsReplica, ListsOf, list_at}
use Rattle.quiet_law.specs.Going.{Goes}
use Rattle.subscriber.specs.Following.{Following}
use Rattle.quiet_law.specs.Matching.{AreListsOf, Matches, agreed_in}
use Rattle.quiet_law.proofs.Answering.{replica_answers}
use Rattle.quiet_law.proofs.Finding.{Standing, Given_up, Past, Stands, elsewhere, found_here, given_up, past_end, standing}

-- what the log answers ends a read
ends : (config : Shape) (state : LogState) (replica : Replica) (client : Client) (position : Position)
    → course_of config (Reading replica client position) (read_in config.replicas state position) ≡ Replies (read_in config.replicas state position)
ends config state replica client position =
    let chain = chain_of config.replicas state.values in
    let found = told_entry position (entry_at_position config.replicas state.values state.segments position.0) in
    let pending : Reply = PendingRead (record { 0 = chain.end }) in
    let Ends : Reply → Type 0 = λ (reply : Reply). course_of config (Reading replica client position) reply ≡ Replies reply in
    cond_both (nat_lt position.0 chain.mark) (Trimmed (record { 0 = chain.mark })) _ Ends
    (λ _. refl)
    (λ _. cond_both (nat_lt position.0 chain.end) found pending Ends (λ _. entry (entry_at_position config.replicas state.values state.segments position.0)) (λ _. refl))
  where
    entry : (at : Option Entry) → course_of config (Reading replica client position) (told_entry position at) ≡ Replies (told_entry position at)
    entry None = refl
    entry (Some there) = refl

module _ (config : Shape) (state : LogState) (is : IsCoherentState config state) (client : Client) (position : Position) (replica : Replica) (b : replica.0 < config.replicas) where
  read_row : (ballot : ℕ) (lists : ListsOf) (shard : ℕ) (reply : Reply)
      → read_reply position.0 (read (member_of config shard replica.0) (lists shard) (knowledge_of (member_of config shard replica.0) state.values) position.0) ≡ reply
      → (node : StorageNode) (h : IsReplica config shard replica.0 (lists shard) (length (list_at lists shard replica.0)) state.values node)
      → call_row (member_of config shard replica.0) node.durable h.memory (Read client position) ≡ Some (answered h.memory reply)
  unfolding on_read
  read_row ballot lists shard reply e node h =
      ap (λ (held : List (List Entry)). Some (answered h.memory (read_reply position.0 (read (member_of config shard replica.0) held h.memory.known position.0)))) h.holds
      ∙ ap (λ (known : Knowledge). Some (answered h.memory (read_reply position.0 (read (member_of config shard replica.0) (lists shard) known position.0)))) h.knows
      ∙ ap (λ (told : Reply). Some (answered h.memory told)) e

  -- a replica answers, and all stays as it was
  asked : (shard : ℕ) → shard < config.shards → (before next : Moment) (reply told : Reply) → (matches : Matches config state before)
      → read_reply position.0 (read (member_of config shard replica.0) (matches.lists shard) (knowledge_of (member_of config shard replica.0) state.values) position.0) ≡ told
      → Takes config before (storage_node config shard replica.0) (ACall (Read client position)) Done reply next
      → Matches config state next × (reply ≡ told)
  asked shard a before next reply told matches e takes =
      let done = replica_answers config (agreed_in matches.ballot state) matches.lists shard replica.0 a b (Read client position) told
      (read_row matches.ballot matches.lists shard told e) before next reply matches.settled takes in
      (record { ballot = matches.ballot; lists = matches.lists; same = matches.same; settled = done.0 }, done.1)

  held_at : (lists : ListsOf) → AreListsOf config state lists → (place : Place) → place.shard.0 < config.shards → place.segment.0 < config.replicas → (shard : ℕ) → place.shard.0 ≡ shard
      → list_in (lists shard) place.segment.0 ≡ entries_of config.replicas state place.shard.0 place.segment.0
  held_at lists same place a within shard own =
      subst (λ (n : ℕ). list_in (lists n) place.segment.0 ≡ entries_of config.replicas state place.shard.0 place.segment.0) own (same place.shard.0 place.segment.0 a within)

  -- a reply tells another shard, whose replica of the same number has the entry
  pub record IsElsewhere (reply : Reply) : Type 0 where
    pub shard : Shard
    pub entry : Entry
    pub told : reply ≡ Elsewhere shard
    pub in_range : shard.0 < config.shards
    pub before_end : position.0 < (chain_of config.replicas state.values).end
    pub found : read_in config.replicas state position ≡ Found position entry
    pub answers : (before next : Moment) (second : Reply) → Matches config state before
        → Takes config before (storage_node config shard.0 replica.0) (ACall (Read client position)) Done second next
        → Matches config state next × (second ≡ Found position entry)

  -- the answer of the replica that is asked first is that of the log
  at_once : (shard : ℕ) → shard < config.shards → (before next : Moment) (reply : Reply) → (matches : Matches config state before)
      → read_reply position.0 (read (member_of config shard replica.0) (matches.lists shard) (knowledge_of (member_of config shard replica.0) state.values) position.0) ≡ read_in config.replicas state position
      → Takes config before (storage_node config shard replica.0) (ACall (Read client position)) Done reply next
      → Matches config state next × ((reply ≡ read_in config.replicas state position) ⊎ IsElsewhere reply)
  at_once shard a before next reply matches e takes =
      let first = asked shard a before next reply (read_in config.replicas state position) matches e takes in
      (first.0, inl first.1)

  by_standing : (shard : ℕ) → shard < config.shards → (before next : Moment) (reply : Reply) → Matches config state before → Standing config state position
      → Takes config before (storage_node config shard replica.0) (ACall (Read client position)) Done reply next
      → Matches config state next × ((reply ≡ read_in config.replicas state position) ⊎ IsElsewhere reply)
  by_standing shard a before next reply matches (Given_up below) takes =
      at_once shard a before next reply matches (given_up config state position is shard replica.0 (matches.lists shard) below) takes
  by_standing shard a before next reply matches (Past marked past) takes =
      at_once shard a before next reply matches (past_end config state position is shard replica.0 (matches.lists shard) marked past) takes
  by_standing shard a before next reply matches (Stands place entry marked at in_range within has found) takes =
      ⊎_elim
      (λ own.
      at_once shard a before next reply matches
      (found_here config state position is shard replica.0 (matches.lists shard) place entry marked at own (held_at matches.lists matches.same place in_range within shard own) has ∙ sym found) takes)
      (λ other.
      let first = asked shard a before next reply (Elsewhere place.shard) matches (elsewhere config state position is shard replica.0 (matches.lists shard) place entry marked at other) takes in (
        first.0,
        inr (record {
          shard = place.shard;
          entry = entry;
          told = first.1;
          in_range = in_range;
          before_end = omega (arith, end-chain_of config.replicas state.values, slice_get_within (spell config.replicas state.values) position.0 place at);
          found = found;
          answers = λ here there second same_now takes_again.
              asked place.shard.0 in_range here there second (Found position entry) same_now
              (found_here config state position is place.shard.0 replica.0 (same_now.lists place.shard.0) place entry marked at refl
              (held_at same_now.lists same_now.same place in_range within place.shard.0 refl) has) takes_again;
        }),
      ))
      (cases_eq place.shard.0 shard)

  -- The replica that is asked for a position answers as the log does, or tells another shard.
  pub first_told : (shard : ℕ) → shard < config.shards → (before next : Moment) (reply : Reply) → Matches config state before
      → Takes config before (storage_node config shard replica.0) (ACall (Read client position)) Done reply next
      → Matches config state next × ((reply ≡ read_in config.replicas state position) ⊎ IsElsewhere reply)
  first_told shard a before next reply matches takes = by_standing shard a before next reply matches (standing config state position is) takes

  -- ---- an item that reads

  module _ (stream : Following) where
    told_at_once : (reply : Reply) (calls : ℕ) (before after : Moment) (answer : Reply) → Matches config state before → reply ≡ read_in config.replicas state position
        → Goes config stream calls (course_of config (Reading replica client position) reply) before answer after
        → Matches config state after × (answer ≡ read_in config.replicas state position)
    told_at_once reply calls before after answer matches own goes =
        let told = subst (λ (r : Reply). Goes config stream calls (course_of config (Reading replica client position) r) before answer after) own goes in
        let rest = subst (λ (course : Course). Goes config stream calls course before answer after) (ends config state replica client position) told in
        (subst (Matches config state) (sym rest.1) matches, rest.0)

    told_elsewhere : (reply : Reply) (calls : ℕ) (before after : Moment) (answer : Reply) → Matches config state before → IsElsewhere reply
        → Goes config stream calls (course_of config (Reading replica client position) reply) before answer after
        → Matches config state after × (answer ≡ read_in config.replicas state position)
    told_elsewhere reply calls before after answer matches other goes =
        let told = subst (λ (r : Reply). Goes config stream calls (course_of config (Reading replica client position) r) before answer after) other.told goes in
        again calls
        (subst (λ (course : Course). Goes config stream calls course before answer after)
        (cond-true (nat_lt other.shard.0 config.shards) (GoesOn (reading_at config other.shard.0 replica client position Last ∷ [])) (Replies (Elsewhere other.shard))
        (lt-ltb other.shard.0 config.shards other.in_range)) told)
      where
        again : (count : ℕ) → Goes config stream count (GoesOn (reading_at config other.shard.0 replica client position Last ∷ [])) before answer after
            → Matches config state after × (answer ≡ read_in config.replicas state position)
        again zero on = absurd on
        again (suc count) on =
            let second = other.answers before on.1 on.0 matches on.2 in
            (subst (Matches config state) (sym on.3.1) second.0, on.3.0 ∙ second.1 ∙ sym other.found)

    pub read_answered : (shard calls : ℕ) → shard < config.shards → (before after : Moment) (answer : Reply) → Matches config state before
        → Goes config stream calls (GoesOn (reading_at config shard replica client position (Reading replica client position) ∷ [])) before answer after
        → Matches config state after × (answer ≡ read_in config.replicas state position)
    read_answered shard zero a before after answer matches goes = absurd goes
    read_answered shard (suc calls) a before after answer matches goes =
        let first = first_told shard a before goes.1 goes.0 matches goes.2 in
        ⊎_elim
        (λ own. told_at_once goes.0 calls goes.1 after answer first.0 own goes.3)
        (λ other. told_elsewhere goes.0 calls goes.1 after answer first.0 other goes.3)
        first.1
