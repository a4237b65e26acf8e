-- An addition, a finalisation and a trim over moments: what is requested is decided in the next slot, and told so.
use Rattle.std.proofs.Common.{◌≡◌, ◌<◌, ◌≤◌, ℕ, zero, suc, true, false, List, [], ◌∷◌, ◌++◌, length, Option, Some, sym, ap, subst, arith, ◌∙◌}
use Rattle.std.proofs.lemmas.Bool.{cond-true}
use Rattle.reply_frame.specs.declared.replies.Reply.{Reply, NoSuchShard, Settled as SettledAt}
use Rattle.history_frame.specs.declared.inputs.Call.TheVariants.{Request, Settled}
use Rattle.log_base.specs.ClusterShape.{InRange, Shape}
use Rattle.log_base.specs.declared.numbers.Client.{Client}
use Rattle.node_table.specs.Numbering.{orderer_node}
use Rattle.paxos_model.specs.Leader.{Leader, slot_limit}
use Rattle.paxos_model.specs.Learner.{find_value}
use Rattle.record_frame.specs.declared.values.Value.{Value}
use Rattle.node_model.specs.OrdererNode.{Node}
use Rattle.node_model.specs.OrdererRow.{answered, call_row, finalises_unknown, request_to, settled_reply, on_request, on_settled}
use Rattle.plain_log.specs.Coherent.{IsCoherentState}
use Rattle.plain_log.specs.Log.{LogState, told_slot, with_value}
use Rattle.schedule_model.specs.declared.courses.Course.TheVariants.{GoesOn}
use Rattle.schedule_model.specs.declared.duties.Awaited.{Awaited}
use Rattle.schedule_model.specs.declared.duties.Awaited.TheVariants.{Requesting, Last}
use Rattle.schedule_model.specs.Courses.{confirmation, course_of, request}
use Rattle.schedule_model.specs.Duties.{settling}
use Rattle.quiet_model.specs.Deciding.{wishing}
use Rattle.quiet_model.specs.Moments.{Moment}
use Rattle.quiet_model.specs.Settled.{IsOrderer, IsSettled, ListsOf}
use Rattle.quiet_model.proofs.Calling.{requested}
use Rattle.quiet_model.proofs.Polling.{leading}
use Rattle.quiet_model.proofs.Settling.{settled_by}
use Rattle.quiet_model.proofs.Still.{none_ahead}
use Rattle.quiet_law.specs.Going.{Goes}
use Rattle.subscriber.specs.Following.{Following}
use Rattle.quiet_law.specs.Matching.{AreListsOf, Matches, agreed_in}
use Rattle.quiet_law.proofs.Answering.{orderer_answers}
use Rattle.quiet_law.proofs.Next.{wish_next}
use Rattle.quiet_law.proofs.Pairs.{last_value}
use Rattle.quiet_law.proofs.Rounds.{settles}

module _ (config : Shape) (range : InRange config) (state : LogState) (client : Client) (value : Value) (stream : Following) where
  pub some_orderer : 1 ≤ config.orderers
  some_orderer = let odd = range.odd in omega arith

  module _ (ballot : ℕ) (lists : ListsOf) (same : AreListsOf config state lists) where
    -- the orderer knows the value in its slot
    settled_row : (node : Node) (o : IsOrderer config (agreed_in ballot (with_value state value)) 0 lists node)
        → call_row config o.orderer (Settled client value (length state.values)) ≡ Some (answered o.orderer (SettledAt (record { 0 = length state.values })))
    unfolding on_settled
    settled_row node o =
        ap (λ (known : List Value). Some (answered o.orderer (settled_reply (length known) (find_value known value (length state.values))))) o.knows
        ∙ ap (λ (found : Option ℕ). Some (answered o.orderer (settled_reply (length (state.values ++ value ∷ [])) found))) (last_value state.values value)

    -- once the request is taken, the value is decided and told
    confirmed : IsCoherentState config (with_value state value) → length state.values < slot_limit
        → (calls : ℕ) (before after : Moment) (answer : Reply) → IsSettled config (wishing (agreed_in ballot state) value) lists before
        → Goes config stream calls (GoesOn (settling config ++ confirmation config 0 client value (length state.values) ∷ [])) before answer after
        → Matches config (with_value state value) after × (answer ≡ told_slot state)
    confirmed is few zero before after answer settled goes = absurd goes
    confirmed is few (suc calls) before after answer settled goes =
        let done = settles config (record { 0 = orderer_node config 0 }) (Settled client value (length state.values)) Last
        (λ (awaited : Awaited) (reply : Reply) (next : Moment). Goes config stream calls (course_of config awaited reply) next answer after) before goes in
        let agreed = wishing (agreed_in ballot state) value in
        let next = wish_next config range ballot lists settled.sizes state value same is few in
        let decided = settled_by config agreed lists lists value before done.settled range (none_ahead config agreed lists before settled) next done.rounds in
        let told = orderer_answers config (agreed_in ballot (with_value state value)) lists some_orderer (Settled client value (length state.values))
        (SettledAt (record { 0 = length state.values })) settled_row done.settled done.next done.reply decided.0 done.takes in
        let matches : Matches config (with_value state value) done.next = record { ballot = ballot; lists = lists; same = same; settled = told.0 } in
        (subst (Matches config (with_value state value)) (sym done.rest.1) matches, done.rest.0 ∙ told.1)

    refused_row : finalises_unknown config state.values value ≡ true → (node : Node) (o : IsOrderer config (agreed_in ballot state) 0 lists node)
        → call_row config o.orderer (Request client value) ≡ Some (answered o.orderer NoSuchShard)
    unfolding on_request
    refused_row unknown node o =
        let lead = leading config ballot (length state.values) o.orderer.leader o.leads in
        ap (λ (leader : Option Leader). Some (request_to config o.orderer leader value)) lead.1
        ∙ ap Some (cond-true (finalises_unknown config o.orderer.known value) (answered o.orderer NoSuchShard) _ (ap (λ (values : List Value). finalises_unknown config values value) o.knows ∙ unknown))

  -- a value that may be decided
  pub wish_answered : finalises_unknown config state.values value ≡ false → IsCoherentState config (with_value state value) → length state.values < slot_limit
      → (calls : ℕ) (before after : Moment) (answer : Reply) → Matches config state before
      → Goes config stream calls (GoesOn (request config 0 client value ∷ [])) before answer after
      → Matches config (with_value state value) after × (answer ≡ told_slot state)
  wish_answered known is few zero before after answer matches goes = absurd goes
  wish_answered known is few (suc calls) before after answer matches goes =
      let taken = requested config some_orderer (agreed_in matches.ballot state) matches.lists client value known before goes.1 goes.0 matches.settled goes.2 in
      confirmed matches.ballot matches.lists matches.same is few calls goes.1 after answer taken.0
      (subst (λ (reply : Reply). Goes config stream calls (course_of config (Requesting 0 client value) reply) goes.1 answer after) taken.1 goes.3)

  -- the finalisation of a shard that was not added
  pub wish_refused : finalises_unknown config state.values value ≡ true
      → (calls : ℕ) (before after : Moment) (answer : Reply) → Matches config state before
      → Goes config stream calls (GoesOn (request config 0 client value ∷ [])) before answer after
      → Matches config state after × (answer ≡ NoSuchShard)
  wish_refused unknown zero before after answer matches goes = absurd goes
  wish_refused unknown (suc calls) before after answer matches goes =
      let told = orderer_answers config (agreed_in matches.ballot state) matches.lists some_orderer (Request client value) NoSuchShard
      (refused_row matches.ballot matches.lists matches.same unknown) before goes.1 goes.0 matches.settled goes.2 in
      let rest = subst (λ (reply : Reply). Goes config stream calls (course_of config (Requesting 0 client value) reply) goes.1 answer after) told.1 goes.3 in
      let stays : Matches config state goes.1 = record { ballot = matches.ballot; lists = matches.lists; same = matches.same; settled = told.0 } in
      (subst (Matches config state) (sym rest.1) stays, rest.0)
