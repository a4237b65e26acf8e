-- What a call that was answered says of the node that answered it.
use Rattle.std.proofs.Common.{◌≡◌, ◌<◌, ℕ, true, List, length, Option, Some, None, refl, sym, ap, subst, ◌∙◌}
use Rattle.std.proofs.lemmas.Bool.{cond_both}
use Rattle.reply_frame.specs.declared.replies.Reply.{Reply, Down, Halted as HaltedReply, Nothing}
use Rattle.history_frame.specs.declared.events.Event.{Event}
use Rattle.history_frame.specs.declared.inputs.Call.{Call}
use Rattle.history_frame.specs.declared.inputs.Call.TheVariants.{Submit, Ask, Read, Request, Settled}
use Rattle.history_frame.specs.declared.inputs.Input.{Input}
use Rattle.history_frame.specs.declared.inputs.Input.TheVariants.{Deliver, Call as ACall, Tick, Lead, Stop, Restart}
use Rattle.history_frame.specs.declared.inputs.Mark.{Mark}
use Rattle.log_base.specs.ClusterShape.{Shape}
use Rattle.node_table.specs.declared.role.Role.{Role}
use Rattle.node_table.specs.declared.role.Role.TheVariants.{Storage, Gatherer, Orderer}
use Rattle.node_table.specs.Numbering.{IsRole, node_of, orderer_node, role_at, storage_node}
use Rattle.node_table.proofs.Roles.{role_at-is}
use Rattle.record_frame.specs.declared.values.Value.{Value}
use Rattle.node_model.specs.Fits.{names_of}
use Rattle.node_model.specs.Legal.{IsLegal, IsNext}
use Rattle.node_model.specs.Marks.{ChangeOf, NodeOf, OutcomeOf, RoleOf, Running, is_named, to_call}
use Rattle.node_model.specs.NodeState.{KeptLists, NodeOutcome, NodeState, Ordering, as_outcome, node_after, orderers_kept, outcome_as}
use Rattle.node_model.specs.Histories.{orderer_after}
use Rattle.node_model.specs.OrdererNode.{Change, Node, Orderer as OrdererState, Outcome}
use Rattle.node_model.specs.OrdererRow.{call_row as orderer_call_row, finalises_unknown, is_call as is_orderer_call, on_request, on_settled, orderer_role, outcome as orderer_outcome, request_to, settled_reply}
use Rattle.node_model.specs.Sequence.{caller, position_told}
use Rattle.node_model.specs.StorageNode.{Replica, StorageChange, StorageNode, member_of}
use Rattle.node_model.specs.StorageRow.{call_row, is_call, storage_role}
use Rattle.node_model.specs.Turning.{Turned, Ran, Fell, Slept, Stopped_now, Opened, Opened_more}
use Rattle.node_model.proofs.Orderers.{orderer_state}
use Rattle.node_model.proofs.Turning.{ForSome, for_some_at, turned}
use Rattle.paxos_model.specs.Leader.{Leader}
use Rattle.paxos_model.specs.Learner.{find_value}
use Rattle.sequence_law.specs.Answers.{IsAtOrderer, IsAtReplica}
use Rattle.sequence_law.proofs.Moments.{of_role, storing, taken}

-- a reply that a running node gave
abbrev pub IsSaid : Reply → Type 0
IsSaid Down = ⊥
IsSaid HaltedReply = ⊥
IsSaid Nothing = ⊥
IsSaid _ = Unit {0}

pub told_said : (x : Reply) (q : ℕ) → position_told x ≡ Some q → IsSaid x
told_said Down q e = absurd (cc)
told_said HaltedReply q e = absurd (cc)
told_said Nothing q e = absurd (cc)
told_said _ q e = tt

pub call_of : (x : Input) (client : ℕ) → caller x ≡ Some client → (c : Call) × (x ≡ ACall c)
call_of (ACall c) client e = (c, refl)
call_of (Deliver place index m) client e = absurd (cc)
call_of Tick client e = absurd (cc)
call_of Lead client e = absurd (cc)
call_of Stop client e = absurd (cc)
call_of Restart client e = absurd (cc)

-- a call that was answered by a running node follows a row
module _ {D P K M : Type 0} (role : RoleOf D P K M) (node : NodeOf D P K M) (c : Call) where
  record IsAnswered (made : OutcomeOf D P K M) : Type 0 where
    memory : M
    change : ChangeOf P M
    mode : node.mode ≡ Running memory
    rule : role.row node.durable memory (ACall c) ≡ Some change
    reply : made.reply ≡ change.reply

  answered_by : (input : Input) (mark : Mark) (made : OutcomeOf D P K M) → input ≡ ACall c → Turned role node input mark made → IsSaid made.reply → IsAnswered made
  answered_by input mark made is (Ran memory change m rule done e) said = record {
    memory = memory;
    change = change;
    mode = m;
    rule = subst (λ (x : Input). role.row node.durable memory x ≡ Some change) is rule;
    reply = ap (λ (x : OutcomeOf D P K M). x.reply) e;
  }
  answered_by input mark made is (Fell memory change put m rule puts halts e) said =
      absurd (subst IsSaid (ap (λ (x : OutcomeOf D P K M). x.reply) e ∙ ap (λ (x : Input). to_call x HaltedReply) is) said)
  answered_by input mark made is (Slept flight known m done e) said =
      absurd (subst IsSaid (ap (λ (x : OutcomeOf D P K M). x.reply) e ∙ ap (λ (x : Input). to_call x Down) is) said)
  answered_by input mark made is (Stopped_now e) said = absurd (subst IsSaid (ap (λ (x : OutcomeOf D P K M). x.reply) e) said)
  answered_by input mark made is (Opened without e) said = absurd (subst IsSaid (ap (λ (x : OutcomeOf D P K M). x.reply) e) said)
  answered_by input mark made is (Opened_more put flight with_it e) said = absurd (subst IsSaid (ap (λ (x : OutcomeOf D P K M). x.reply) e) said)

-- an orderer tells no position
module _ (config : Shape) (o : OrdererState) where
  abbrev NoPosition : Change → Type 0
  NoPosition change = position_told change.reply ≡ None

  request_none : (leader : Option Leader) (value : Value) → NoPosition (request_to config o leader value)
  request_none None value = refl
  request_none (Some leader) value = cond_both (finalises_unknown config o.known value) _ _ NoPosition (λ _. refl) (λ _. refl)

  settled_none : (known : ℕ) (found : Option ℕ) → position_told (settled_reply known found) ≡ None
  settled_none known None = refl
  settled_none known (Some slot) = refl

  on_request_none : (value : Value) → NoPosition (on_request config o value)
  unfolding on_request
  on_request_none value = request_none o.leader value

  on_settled_none : (value : Value) (from : ℕ) → NoPosition (on_settled o value from)
  unfolding on_settled
  on_settled_none value from = settled_none (length o.known) (find_value o.known value from)

  call_none : (c : Call) → ForSome NoPosition (orderer_call_row config o c)
  call_none (Request client value) = on_request_none value
  call_none (Settled client value from) = on_settled_none value from
  call_none (Submit client number bytes) = tt
  call_none (Ask client number) = tt
  call_none (Read client position) = tt

module _ (config : Shape) (run : ℕ) (kept : KeptLists) where
  -- a call at a running replica
  pub record Called (before : List Event) (e : Event) (c : Call) : Type 0 where
    pub shard : ℕ
    pub replica : ℕ
    pub node : StorageNode
    pub memory : Replica
    pub by : IsAtReplica config kept before e shard replica node memory
    pub change : StorageChange
    pub rule : call_row (member_of config shard replica) node.durable memory c ≡ Some change
    pub reply : e.happened.reply ≡ change.reply

  -- a call at a running orderer
  pub record Ordered (before : List Event) (e : Event) (c : Call) : Type 0 where
    pub i : ℕ
    pub node : Node
    pub orderer : OrdererState
    pub by : IsAtOrderer config kept before e i node orderer
    pub change : Change
    pub rule : orderer_call_row config orderer c ≡ Some change
    pub reply : e.happened.reply ≡ change.reply

  orderer_turned : (i : ℕ) (node : Node) (e : Event) (made : Outcome) → orderer_outcome config i node e.happened.input e.happened.mark ≡ Some made
      → Turned (orderer_role config i) node e.happened.input e.happened.mark made
  unfolding orderer_outcome
  orderer_turned i node e made o = turned (orderer_role config i) node e.happened.input e.happened.mark made o

  module _ (before : List Event) (e : Event) (legal : IsLegal config run kept before) (next : IsNext config run kept before e) (c : Call) (is : e.happened.input ≡ ACall c) (said : IsSaid e.happened.reply) where
    named_for : (role : Role) → role_at config e.node.0 ≡ role → (names_of role).call c ≡ true
    named_for role at =
        subst (λ (x : Role × Input). is_named (names_of x.0) x.1 ≡ true) (λ i. (at i, is i)) next.allowed.named

    known_role : (role : Role) → role_at config e.node.0 ≡ role → IsRole config role × (node_of config role ≡ e.node.0)
    known_role role at = subst (λ (x : Role). IsRole config x × (node_of config x ≡ e.node.0)) at (role_at-is config e.node.0 legal.config_in_range next.node)

    at_replica : (s r : ℕ) → s < config.shards → r < config.replicas → storage_node config s r ≡ e.node.0 → Called before e c
    at_replica s r a b at =
        let old = storing config run kept before s r legal a b in
        let t = taken config run kept before e s r old.node next a b old.state (sym at) in
        let answer = answered_by (storage_role config (member_of config s r)) old.node c e.happened.input e.happened.mark t.made is t.turned_out (subst IsSaid t.reply said) in
        record {
          shard = s;
          replica = r;
          node = old.node;
          memory = answer.memory;
          by = record { shard_below = a; replica_below = b; here = sym at; state = ap (node_after config kept before) (sym at) ∙ old.state; running = answer.mode };
          change = answer.change;
          rule = answer.rule;
          reply = t.reply ∙ answer.reply;
        }

    at_orderer : (i : ℕ) → i < config.orderers → role_at config e.node.0 ≡ Orderer i → orderer_node config i ≡ e.node.0 → Ordered before e c
    at_orderer i inside role at =
        let old = orderer_after config (orderers_kept config kept) before i in
        let state : node_after config kept before e.node.0 ≡ Ordering old = ap (node_after config kept before) (sym at) ∙ orderer_state config kept before i inside in
        let rule : as_outcome Ordering (orderer_outcome config i old e.happened.input e.happened.mark) ≡ Some next.row.made =
        subst (λ (x : Role × NodeState). outcome_as config x.0 x.1 e.happened.input e.happened.mark ≡ Some next.row.made) (λ j. (role j, state j)) next.row.rule in
        let m = of_role config run kept Ordering (orderer_outcome config i old e.happened.input e.happened.mark) next.row.made rule in
        let told : e.happened.reply ≡ m.0.reply = next.row.reply ∙ ap (λ (y : NodeOutcome). y.reply) (sym m.2) in
        let answer = answered_by (orderer_role config i) old c e.happened.input e.happened.mark m.0 is (orderer_turned i old e m.0 m.1) (subst IsSaid told said) in
        record {
          i = i;
          node = old;
          orderer = answer.memory;
          by = record { below = inside; here = sym at; state = state; running = answer.mode };
          change = answer.change;
          rule = answer.rule;
          reply = told ∙ answer.reply;
        }

    no_both : (c : Call) → is_call c ≡ true → is_orderer_call c ≡ true → ⊥
    no_both (Submit client number bytes) a b = absurd (cc)
    no_both (Ask client number) a b = absurd (cc)
    no_both (Read client position) a b = absurd (cc)
    no_both (Request client value) a b = absurd (cc)
    no_both (Settled client value from) a b = absurd (cc)

    called_as : is_call c ≡ true → (role : Role) → role_at config e.node.0 ≡ role → Called before e c
    called_as stored (Storage s r) at = let k = known_role (Storage s r) at in at_replica s.0 r.0 k.0.0 k.0.1 k.1
    called_as stored (Gatherer i) at = absurd (let none = named_for (Gatherer i) at in cc)
    called_as stored (Orderer i) at = absurd (no_both c stored (named_for (Orderer i) at))

    -- a call for storage nodes
    pub called : is_call c ≡ true → Called before e c
    called stored = called_as stored (role_at config e.node.0) refl

    ordered_as : is_orderer_call c ≡ true → (role : Role) → role_at config e.node.0 ≡ role → Ordered before e c
    ordered_as order (Storage s r) at = absurd (no_both c (named_for (Storage s r) at) order)
    ordered_as order (Gatherer i) at = absurd (let none = named_for (Gatherer i) at in cc)
    ordered_as order (Orderer i) at = let k = known_role (Orderer i) at in at_orderer i k.0 at k.1

    -- a call for orderers
    pub ordered : is_orderer_call c ≡ true → Ordered before e c
    ordered order = ordered_as order (role_at config e.node.0) refl

    pub orderer_tells_none : is_orderer_call c ≡ true → position_told e.happened.reply ≡ None
    orderer_tells_none order =
        let o = ordered order in
        ap position_told o.reply ∙ for_some_at (NoPosition config o.orderer) (orderer_call_row config o.orderer c) o.change (call_none config o.orderer c) o.rule
