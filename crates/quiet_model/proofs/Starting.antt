-- Every node starts with empty disks, and orderer 0 begins to lead.
use Rattle.std.proofs.Common.{◌≡◌, ◌+◌, ◌*◌, ◌^◌, ◌<◌, ◌≤◌, ℕ, zero, suc, cond, nat_le, List, [], ◌∷◌, ◌++◌, length, replicate, Option, Some, None, refl, sym, ap, subst, ⊎_elim, arith, append-nil, ◌∙◌}
use Rattle.std.specs.Prelude.{slice_index, slice_index_or}
use Rattle.std.proofs.lemmas.Bool.{cases_eq, cond-false, lt-leb}
use Rattle.std.proofs.lemmas.List.{length-replicate}
use Rattle.reply_frame.specs.declared.replies.Reply.{Reply, Nothing as Silence}
use Rattle.history_frame.specs.declared.events.Sent.{Sent}
use Rattle.history_frame.specs.declared.inputs.Input.TheVariants.{Restart}
use Rattle.history_frame.specs.declared.inputs.Mark.TheVariants.{OpenedWithout}
use Rattle.log_base.specs.ClusterShape.{InRange, Shape}
use Rattle.log_model.specs.Storage.{list_in}
use Rattle.node_table.specs.declared.role.Role.{Role}
use Rattle.node_table.specs.declared.role.Role.TheVariants.{Storage, Gatherer, Orderer}
use Rattle.node_table.specs.Numbering.{IsRole, node_of, nodes_of, role_at, storage_node}
use Rattle.node_table.proofs.Roles.{role_at-is, role_at-node_of}
use Rattle.paxos_model.specs.Leader.{ballot_above, leader_from}
use Rattle.paxos_model.specs.Votes.{Promise}
use Rattle.record_frame.specs.declared.entries.Entry.{Entry}
use Rattle.record_frame.specs.declared.values.Lengths.{Lengths}
use Rattle.node_model.specs.GathererRow.{outcome as gatherer_outcome}
use Rattle.node_model.specs.Marks.{Running}
use Rattle.node_model.specs.Messages.{prepare_message}
use Rattle.node_model.specs.Nodes.{to_orderers}
use Rattle.node_model.specs.NodeState.{NodeOutcome, NodeState, Storing, Gathering, Ordering, begun_as, node_outcome, outcome_as, segments_kept}
use Rattle.node_model.specs.OrdererNode.{Change, Node, fresh as fresh_orderer}
use Rattle.node_model.specs.OrdererRow.{on_lead, outcome as orderer_outcome, quiet, with_leader}
use Rattle.node_model.specs.StorageNode.{fresh as fresh_replica, member_of}
use Rattle.node_model.specs.StorageRow.{outcome as storage_outcome}
use Rattle.quiet_model.specs.Moments.{Moment, TakeInTurn, Takes}
use Rattle.quiet_model.specs.Opening.{IsBeginning, empty_disks, no_lists}
use Rattle.quiet_model.specs.Settled.{IsGatherer, IsHeardOrNone, IsReplica, list_at}
use Rattle.quiet_model.proofs.Moving.{Moves, moved, same_role}

-- an orderer that has just started with an empty disk
pub record IsFresh (config : Shape) (node : Node) : Type 0 where
  pub empty : node.durable ≡ []
  pub runs : node.mode ≡ Running (fresh_orderer config)

-- a node that has just started
abbrev pub IsStarted : Shape → Role → NodeState → Type 0
IsStarted config (Storage s r) (Storing node) = IsReplica config s.0 r.0 (no_lists config s.0) (length (list_at (no_lists config) s.0 r.0)) [] node
IsStarted config (Gatherer i) (Gathering node) = IsGatherer config (no_lists config) node
IsStarted config (Orderer i) (Ordering node) = IsFresh config node
IsStarted config _ _ = ⊥

none_in : (n k : ℕ) → list_in (replicate n []) k ≡ []
none_in zero k = refl
none_in (suc n) zero = refl
none_in (suc n) (suc k) = none_in n k

pub zero_at : (n k : ℕ) → slice_index (replicate n 0) k ≡ 0
zero_at zero k = refl
zero_at (suc n) zero = refl
zero_at (suc n) (suc k) = zero_at n k

none_heard : (n k : ℕ) → slice_index_or (replicate {A = Option Lengths} n None) k None ≡ None
none_heard zero k = refl
none_heard (suc n) zero = refl
none_heard (suc n) (suc k) = none_heard n k

no_segments : (node from count : ℕ) → segments_kept empty_disks node from count ≡ replicate count []
no_segments node from zero = refl
no_segments node from (suc count) = ap (λ (rest : List (List Entry)). [] ∷ rest) (no_segments node (suc from) count)

-- what a start makes of a node
pub record Starts (config : Shape) (role : Role) : Type 0 where
  pub made : NodeOutcome
  pub rule : node_outcome config (node_of config role) (begun_as config empty_disks (node_of config role) role) Restart OpenedWithout ≡ Some made
  pub fine : IsStarted config role made.state
  pub silent : made.outputs ≡ []

-- the nodes below a number have started
pub record IsStarting (config : Shape) (next : ℕ) (moment : Moment) : Type 0 where
  pub down : (role : Role) → IsRole config role → next ≤ node_of config role → moment.nodes (node_of config role) ≡ begun_as config empty_disks (node_of config role) role
  pub up : (role : Role) → IsRole config role → node_of config role < next → IsStarted config role (moment.nodes (node_of config role))
  pub queue : moment.queue ≡ []

module _ (config : Shape) (range : InRange config) where
  by_role : (role : Role) → IsRole config role
      → node_outcome config (node_of config role) (begun_as config empty_disks (node_of config role) role) Restart OpenedWithout
      ≡ outcome_as config role (begun_as config empty_disks (node_of config role) role) Restart OpenedWithout
  by_role role is = ap (λ (y : Role). outcome_as config y (begun_as config empty_disks (node_of config role) role) Restart OpenedWithout) (role_at-node_of config role is)

  starts : (role : Role) → IsRole config role → Starts config role
  unfolding storage_outcome gatherer_outcome orderer_outcome
  starts (Storage s r) is = record {
    made = record {
      state = Storing (record { durable = segments_kept empty_disks (storage_node config s.0 r.0) 0 config.replicas; mode = Running (fresh_replica (member_of config s.0 r.0)) });
      outputs = [];
      reply = Silence;
    };
    rule = by_role (Storage s r) is;
    fine = record {
      memory = fresh_replica (member_of config s.0 r.0);
      runs = refl;
      holds = no_segments (storage_node config s.0 r.0) 0 config.replicas;
      knows = refl;
      peers = length-replicate config.replicas 0;
      acks = λ peer below other. zero_at config.replicas peer ∙ sym (ap length (none_in config.replicas r.0));
    };
    silent = refl;
  }
  starts (Gatherer i) is = record {
    made = record { state = Gathering (record { durable = tt; mode = Running (record { index = i; replicas = config.replicas; shards = config.shards; cells = replicate 32 None }) }); outputs = []; reply = Silence };
    rule = by_role (Gatherer i) is;
    fine = record {
      hearing = record { index = i; replicas = config.replicas; shards = config.shards; cells = replicate 32 None };
      runs = refl;
      replicas = refl;
      cells = refl;
      heard = λ s r a b. subst (IsHeardOrNone config.replicas (no_lists config s)) (sym (none_heard 32 (s * config.replicas + r))) tt;
    };
    silent = refl;
  }
  starts (Orderer i) is = record {
    made = record { state = Ordering (record { durable = []; mode = Running (fresh_orderer config) }); outputs = []; reply = Silence };
    rule = by_role (Orderer i) is;
    fine = record { empty = refl; runs = refl };
    silent = refl;
  }

  started_by : (before after : Moment) (role : Role) (is : IsRole config role) → IsStarting config (node_of config role) before
      → (reply : Reply) → Takes config before (node_of config role) Restart OpenedWithout reply after → IsStarting config (suc (node_of config role)) after
  started_by before after role is old reply takes =
      let t : Starts config role = starts role is in
      let moves : Moves config before after role t.made =
      moved config before after role Restart OpenedWithout reply is takes t.made
      (ap (λ (state : NodeState). node_outcome config (node_of config role) state Restart OpenedWithout) (old.down role is (omega arith)) ∙ t.rule) in
      record {
        down = λ other a past.
            ⊎_elim
            (λ e. absurd (let same = ap (node_of config) e in omega arith))
            (λ same. same ∙ old.down other a (omega arith))
            (moves.others other a);
        up = λ other a below.
            ⊎_elim
            (λ e. subst (λ (y : Role). IsStarted config y (after.nodes (node_of config y))) (sym e) (subst (IsStarted config role) (sym moves.here) t.fine))
            (λ same.
            ⊎_elim
            (λ at. subst (λ (y : Role). IsStarted config y (after.nodes (node_of config y))) (sym (same_role config other role a is at)) (subst (IsStarted config role) (sym moves.here) t.fine))
            (λ apart. subst (IsStarted config other) (sym same) (old.up other a (omega arith)))
            (cases_eq (node_of config other) (node_of config role)))
            (moves.others other a);
        queue = moves.posted ∙ ap (λ (outs : List Sent). before.queue ++ outs) t.silent ∙ append-nil before.queue ∙ old.queue;
      }

  started_at : (before after : Moment) (n : ℕ) → n < nodes_of config → IsStarting config n before → (reply : Reply) → Takes config before n Restart OpenedWithout reply after → IsStarting config (suc n) after
  started_at before after n within old reply takes =
      let role = role_at-is config n range within in
      subst (λ (m : ℕ). IsStarting config (suc m) after) role.1
      (started_by before after (role_at config n) role.0 (subst (λ (m : ℕ). IsStarting config m before) (sym role.1) old) reply
      (subst (λ (m : ℕ). Takes config before m Restart OpenedWithout reply after) (sym role.1) takes))

  all_start : (count first : ℕ) (before after : Moment) → first + count ≡ nodes_of config → IsStarting config first before
      → TakeInTurn config Restart OpenedWithout first count before after → IsStarting config (nodes_of config) after
  all_start zero first before after e old same =
      let last : first ≡ nodes_of config = omega arith in
      subst (λ (n : ℕ). IsStarting config n after) last (subst (IsStarting config first) same old)
  all_start (suc count) first before after e old more =
      all_start count (suc first) more.1 after (omega arith) (started_at before more.1 first (omega arith) old more.0 more.2) more.3

  pub all_started : (before after : Moment) → IsBeginning config before → TakeInTurn config Restart OpenedWithout 0 (nodes_of config) before after → IsStarting config (nodes_of config) after
  all_started before after begun restarts =
      all_start (nodes_of config) 0 before after (omega arith)
      (record { down = λ role is past. begun.nodes role is; up = λ role is below. absurd (omega arith); queue = begun.queue })
      restarts

  -- ---- orderer 0 leads

  first_ballot : 1 ≤ config.orderers → ballot_above config.orderers 0 0 ≡ config.orderers
  first_ballot some = omega arith

  pub lead_row : 1 ≤ config.orderers
      → on_lead config 0 [] (fresh_orderer config)
      ≡ record { put = Some (Promise config.orderers); after = with_leader (fresh_orderer config) (Some (leader_from config.orderers 0)); outputs = to_orderers config (prepare_message config.orderers 0); reply = Silence }
  unfolding on_lead
  lead_row some =
      ap (λ (ballot : ℕ). let change : Change = cond (nat_le (2 ^ 56) ballot) (quiet (fresh_orderer config))
      (record { put = Some (Promise ballot); after = with_leader (fresh_orderer config) (Some (leader_from ballot 0)); outputs = to_orderers config (prepare_message ballot 0); reply = Silence }) in change)
      (first_ballot some)
      ∙ cond-false (nat_le (2 ^ 56) config.orderers) (quiet (fresh_orderer config)) _ (lt-leb (2 ^ 56) config.orderers (omega (arith, range.orderers)))
