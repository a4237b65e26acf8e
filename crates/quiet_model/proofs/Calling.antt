-- What the calls of an append and of an addition make of a settled moment.
use Rattle.std.proofs.Common.{◌≡◌, ◌≢◌, ◌⊎◌, ◌<◌, ◌≤◌, ℕ, zero, suc, false, ◌==◌, List, [], ◌∷◌, ◌++◌, length, Option, Some, refl, sym, ap, subst, inl, inr, ⊎_elim, arith, append-nil, eq-eqb, ◌∙◌}
use Rattle.std.specs.Prelude.{slice_set}
use Rattle.std.proofs.lemmas.Bool.{cases_eq, cond-false, cond-true, cond_both, ne_eqb}
use Rattle.std.proofs.lemmas.Option.{same_Some}
use Rattle.reply_frame.specs.declared.replies.Reply.{Reply, Stored as StoredAt, Taken as TakenWish}
use Rattle.history_frame.specs.declared.inputs.Call.TheVariants.{Submit, Request}
use Rattle.history_frame.specs.declared.inputs.Input.{Input}
use Rattle.history_frame.specs.declared.inputs.Input.TheVariants.{Call as ACall}
use Rattle.history_frame.specs.declared.inputs.Mark.{Mark}
use Rattle.history_frame.specs.declared.inputs.Mark.TheVariants.{Done}
use Rattle.log_base.specs.ClusterShape.{Shape}
use Rattle.log_base.specs.declared.numbers.Client.{Client}
use Rattle.log_base.specs.declared.numbers.Number.{Number}
use Rattle.log_model.specs.Storage.{Knowledge, knowledge_of, list_in, with_entry}
use Rattle.log_model.specs.Submitting.{Stored, submit}
use Rattle.node_table.specs.declared.role.Role.{Role}
use Rattle.node_table.specs.declared.role.Role.TheVariants.{Storage, Gatherer, Orderer}
use Rattle.node_table.specs.Numbering.{node_of, orderer_node, storage_node}
use Rattle.paxos_model.specs.Leader.{Leader}
use Rattle.paxos_model.specs.Learner.{Wish}
use Rattle.record_frame.specs.declared.entries.Entry.{Entry}
use Rattle.record_frame.specs.declared.values.Value.{Value}
use Rattle.record_frame.specs.Entries.{entry_of}
use Rattle.node_model.specs.Marks.{Running}
use Rattle.node_model.specs.NodeState.{NodeOutcome, NodeState, Storing, Gathering, Ordering, node_outcome}
use Rattle.node_model.specs.OrdererNode.{Change, Orderer as OrdererMemory}
use Rattle.node_model.specs.OrdererRow.{answered, finalises_unknown, on_request, request_to}
use Rattle.node_model.specs.StorageNode.{Replica, StorageChange, StorageNode, member_of}
use Rattle.node_model.specs.StorageRow.{on_submit, submitted_as}
use Rattle.node_model.proofs.Lists.{length-with_entry, list_in-other, list_in-same}
use Rattle.quiet_model.specs.Ahead.{AreAsOrMore, IsAhead, IsAsOrMore, More, Same, own_ahead, with_one_more}
use Rattle.quiet_model.specs.Deciding.{wishing}
use Rattle.quiet_model.specs.Moments.{Moment, Takes}
use Rattle.quiet_model.specs.Settled.{Agreed, AreLists, IsLeader, IsOrderer, IsReplica, IsSettled, ListsOf, Stands, all_acked, list_at}
use Rattle.quiet_model.proofs.Follows.{as_role}
use Rattle.quiet_model.proofs.Gathering.{IsSettledNode}
use Rattle.quiet_model.proofs.Lists.{set_same}
use Rattle.quiet_model.proofs.Moving.{Moves, moved, same_role}
use Rattle.quiet_model.proofs.Outcomes.{orderer_takes, replica_takes}
use Rattle.quiet_model.proofs.Polling.{leading}

-- the reply of what a node made
reply_is : (config : Shape) (before after : Moment) (n : ℕ) (input : Input) (mark : Mark) (answer : Reply) → Takes config before n input mark answer after
    → (made : NodeOutcome) → node_outcome config n (before.nodes n) input mark ≡ Some made → answer ≡ made.reply
reply_is config before after n input mark answer taken made e =
    taken.reply ∙ ap (λ (x : NodeOutcome). x.reply) (same_Some taken.made made (sym taken.rule ∙ e))

module _ (config : Shape) (agreed : Agreed) (lists : ListsOf) (s r : ℕ) (a : s < config.shards) (b : r < config.replicas) (client : Client) (number : Number) (bytes : List ℕ) where
  abbrev entry : Entry
  entry = entry_of client number bytes

  abbrev longer : ListsOf
  longer = with_one_more lists s r (entry_of client number bytes)

  -- ---- the lists

  here_lists : longer s ≡ with_entry (lists s) r entry
  here_lists = cond-true (s == s) (with_entry (lists s) r entry) (lists s) (eq-eqb s s refl)

  other_lists : (t : ℕ) → t ≢ s → longer t ≡ lists t
  other_lists t differ = cond-false (t == s) (with_entry (lists t) r entry) (lists t) (ne_eqb t s differ)

  module _ (sizes : AreLists config lists) where
    long_sizes : AreLists config longer
    long_sizes t c =
        cond_both (t == s) (with_entry (lists t) r entry) (lists t) (λ (held : List (List Entry)). length held ≡ config.replicas)
        (λ e. length-with_entry (lists t) r entry ∙ sizes t c)
        (λ e. sizes t c)

    long_here : list_at longer s r ≡ list_at lists s r ++ entry ∷ []
    long_here = ap (λ (held : List (List Entry)). list_in held r) here_lists ∙ list_in-same (lists s) r entry (omega (arith, sizes s a))

    long_other : (t p : ℕ) → (t ≢ s) ⊎ (p ≢ r) → list_at longer t p ≡ list_at lists t p
    long_other t p apart =
        ⊎_elim
        (λ e. subst (λ (u : ℕ). list_at longer u p ≡ list_at lists u p) (sym e)
        (⊎_elim
        (λ differ. absurd (differ e))
        (λ differ. ap (λ (held : List (List Entry)). list_in held p) here_lists ∙ list_in-other (lists s) r p entry differ)
        apart))
        (λ differ. ap (λ (held : List (List Entry)). list_in held p) (other_lists t differ))
        (cases_eq t s)

    long_more : AreAsOrMore config lists longer
    long_more t p c e =
        ⊎_elim
        (λ same. ⊎_elim
        (λ own. subst (λ (u : ℕ). IsAsOrMore (list_at lists u p) (list_at longer u p)) (sym same)
        (subst (λ (q : ℕ). IsAsOrMore (list_at lists s q) (list_at longer s q)) (sym own) (More entry long_here)))
        (λ other. Same (long_other t p (inr other)))
        (cases_eq p r))
        (λ differ. Same (long_other t p (inl differ)))
        (cases_eq t s)

    -- a node that stays is as the new lists want it
    stays : (role : Role) → ((t q : ℕ) → role ≡ as_role t q → (t ≢ s) ⊎ (q ≢ r)) → (state : NodeState) → IsSettledNode config agreed lists role state
        → Stands config agreed (own_ahead lists longer) (all_acked lists) lists role state
    stays (Storage t q) other (Storing node) h =
        subst (λ (held : List (List Entry)). IsReplica config t.0 q.0 held (length (list_at lists t.0 q.0)) agreed.values node)
        (sym (ap (slice_set (lists t.0) q.0) (long_other t.0 q.0 (other t.0 q.0 refl)) ∙ set_same (lists t.0) q.0)) h
    stays (Gatherer i) other (Gathering node) h = h
    stays (Orderer i) other (Ordering node) h = h
    stays (Storage t q) other (Gathering node) h = absurd h
    stays (Storage t q) other (Ordering node) h = absurd h
    stays (Gatherer i) other (Storing node) h = absurd h
    stays (Gatherer i) other (Ordering node) h = absurd h
    stays (Orderer i) other (Storing node) h = absurd h
    stays (Orderer i) other (Gathering node) h = absurd h

  -- ---- the submission

  module _ (stores : submit (member_of config s r) (list_at lists s r) (knowledge_of (member_of config s r) agreed.values) (entry_of client number bytes)
      ≡ record { answer = Stored (length (list_at lists s r)); put = Some (entry_of client number bytes) }) where
    abbrev stored_change : StorageNode → Replica → StorageChange
    stored_change node memory = submitted_as (member_of config s r) memory (record { answer = Stored (length (list_at lists s r)); put = Some entry })

    submits : (node : StorageNode) (h : IsReplica config s r (lists s) (length (list_at lists s r)) agreed.values node)
        → on_submit (member_of config s r) node.durable h.memory entry ≡ stored_change node h.memory
    unfolding on_submit
    submits node h =
        ap (λ (held : List (List Entry)). submitted_as (member_of config s r) h.memory (submit (member_of config s r) (list_in held r) h.memory.known entry)) h.holds
        ∙ ap (λ (known : Knowledge). submitted_as (member_of config s r) h.memory (submit (member_of config s r) (list_at lists s r) known entry)) h.knows
        ∙ ap (submitted_as (member_of config s r) h.memory) stores

    submitted_at : (before after : Moment) (reply : Reply) → IsSettled config agreed lists before
        → Takes config before (storage_node config s r) (ACall (Submit client number bytes)) Done reply after
        → (state : NodeState) → before.nodes (storage_node config s r) ≡ state → IsSettledNode config agreed lists (as_role s r) state
        → IsAhead config agreed lists longer after × (reply ≡ StoredAt (length (list_at lists s r)))
    submitted_at before after reply settled takes (Storing node) is h = (
      record {
        old_sizes = settled.sizes;
        new_sizes = long_sizes settled.sizes;
        more = long_more settled.sizes;
        nodes = λ role c.
            ⊎_elim
            (λ e. subst (λ (y : Role). Stands config agreed (own_ahead lists longer) (all_acked lists) lists y (after.nodes (node_of config y))) (sym e)
            (subst (Stands config agreed (own_ahead lists longer) (all_acked lists) lists (as_role s r)) (sym moves.here) stands))
            (λ same.
            ⊎_elim
            (λ at. subst (λ (y : Role). Stands config agreed (own_ahead lists longer) (all_acked lists) lists y (after.nodes (node_of config y))) (sym (same_role config role (as_role s r) c (a, b) at))
            (subst (Stands config agreed (own_ahead lists longer) (all_acked lists) lists (as_role s r)) (sym moves.here) stands))
            (λ apart. subst (Stands config agreed (own_ahead lists longer) (all_acked lists) lists role) (sym same)
            (stays settled.sizes role (λ t q e. other_place t q (λ at. apart (ap (node_of config) e ∙ at))) (before.nodes (node_of config role)) (settled.nodes role c)))
            (cases_eq (node_of config role) (storage_node config s r)))
            (moves.others role c);
        queue = moves.posted ∙ append-nil before.queue ∙ settled.queue;
      },
      reply_is config before after (storage_node config s r) (ACall (Submit client number bytes)) Done reply takes made rule,
    )
      where
        made : NodeOutcome
        made = record { state = Storing (record { durable = with_entry node.durable r entry; mode = Running h.memory }); outputs = []; reply = StoredAt (length (list_at lists s r)) }

        rule : node_outcome config (storage_node config s r) (before.nodes (storage_node config s r)) (ACall (Submit client number bytes)) Done ≡ Some made
        rule =
            ap (λ (state : NodeState). node_outcome config (storage_node config s r) state (ACall (Submit client number bytes)) Done) is
            ∙ replica_takes config s r a b node h.memory (stored_change node h.memory) h.runs (ACall (Submit client number bytes)) refl (ap Some (submits node h))

        moves : Moves config before after (as_role s r) made
        moves = moved config before after (as_role s r) (ACall (Submit client number bytes)) Done reply (a, b) takes made rule

        stands : IsReplica config s r (own_ahead lists longer s r) (length (list_at lists s r)) agreed.values (record { durable = with_entry node.durable r entry; mode = Running h.memory })
        stands = record {
          memory = h.memory;
          runs = refl;
          holds =
              ap (λ (held : List (List Entry)). with_entry held r entry) h.holds
              ∙ ap (slice_set (lists s) r) (sym (long_here settled.sizes));
          knows = h.knows;
          peers = h.peers;
          acks = h.acks;
        }

        other_place : (t q : ℕ) → (storage_node config t q ≡ storage_node config s r → ⊥) → (t ≢ s) ⊎ (q ≢ r)
        other_place t q apart =
            ⊎_elim
            (λ e. ⊎_elim
            (λ f. absurd (apart (ap (λ (u : ℕ). storage_node config u q) e ∙ ap (λ (v : ℕ). storage_node config s v) f)))
            (λ differ. inr differ)
            (cases_eq q r))
            (λ differ. inl differ)
            (cases_eq t s)
    submitted_at before after reply settled takes (Gathering node) is h = absurd h
    submitted_at before after reply settled takes (Ordering node) is h = absurd h

    pub submitted : (before after : Moment) (reply : Reply) → IsSettled config agreed lists before
        → Takes config before (storage_node config s r) (ACall (Submit client number bytes)) Done reply after
        → IsAhead config agreed lists longer after × (reply ≡ StoredAt (length (list_at lists s r)))
    submitted before after reply settled takes =
        submitted_at before after reply settled takes (before.nodes (storage_node config s r)) refl (settled.nodes (as_role s r) (a, b))

-- ---- a request

module _ (config : Shape) (some : 1 ≤ config.orderers) (agreed : Agreed) (lists : ListsOf) (client : Client) (value : Value) (known : finalises_unknown config agreed.values value ≡ false) where
  abbrev wishful : OrdererMemory → OrdererMemory
  wishful o = record o { wishes = o.wishes ++ record { value = value; from = length o.known } ∷ [] }

  abbrev wish_change : OrdererMemory → Change
  wish_change o = answered (wishful o) (TakenWish (length o.known))

  module _ (o : OrdererMemory) (leader : Leader) (leads : o.leader ≡ Some leader) (knows : o.known ≡ agreed.values) where
    requests : on_request config o value ≡ wish_change o
    unfolding on_request
    requests =
        ap (λ (l : Option Leader). request_to config o l value) leads
        ∙ cond-false (finalises_unknown config o.known value) _ (wish_change o) (ap (λ (values : List Value). finalises_unknown config values value) knows ∙ known)

  -- the other nodes stand as well while the wish waits
  others_stand : (role : Role) → role ≢ Orderer 0 → (state : NodeState) → IsSettledNode config agreed lists role state → IsSettledNode config (wishing agreed value) lists role state
  others_stand (Storage t q) other (Storing node) h = h
  others_stand (Gatherer i) other (Gathering node) h = h
  others_stand (Orderer zero) other (Ordering node) h = absurd (other refl)
  others_stand (Orderer (suc i)) other (Ordering node) h = record {
    orderer = h.orderer;
    runs = h.runs;
    knows = h.knows;
    wishes = h.wishes;
    heard = h.heard;
    leads = h.leads;
    cast = h.cast;
  }
  others_stand (Storage t q) other (Gathering node) h = absurd h
  others_stand (Storage t q) other (Ordering node) h = absurd h
  others_stand (Gatherer i) other (Storing node) h = absurd h
  others_stand (Gatherer i) other (Ordering node) h = absurd h
  others_stand (Orderer i) other (Storing node) h = absurd h
  others_stand (Orderer i) other (Gathering node) h = absurd h

  requested_at : (before after : Moment) (reply : Reply) → IsSettled config agreed lists before
      → Takes config before (orderer_node config 0) (ACall (Request client value)) Done reply after
      → (state : NodeState) → before.nodes (orderer_node config 0) ≡ state → IsSettledNode config agreed lists (Orderer 0) state
      → IsSettled config (wishing agreed value) lists after × (reply ≡ TakenWish (length agreed.values))
  requested_at before after reply settled takes (Ordering node) is o = (
    record {
      sizes = settled.sizes;
      nodes = λ role c.
          ⊎_elim
          (λ e. subst (λ (y : Role). IsSettledNode config (wishing agreed value) lists y (after.nodes (node_of config y))) (sym e)
          (subst (IsSettledNode config (wishing agreed value) lists (Orderer 0)) (sym moves.here) stands))
          (λ same.
          ⊎_elim
          (λ at. subst (λ (y : Role). IsSettledNode config (wishing agreed value) lists y (after.nodes (node_of config y))) (sym (same_role config role (Orderer 0) c some at))
          (subst (IsSettledNode config (wishing agreed value) lists (Orderer 0)) (sym moves.here) stands))
          (λ apart. subst (IsSettledNode config (wishing agreed value) lists role) (sym same)
          (others_stand role (λ e. apart (ap (node_of config) e)) (before.nodes (node_of config role)) (settled.nodes role c)))
          (cases_eq (node_of config role) (orderer_node config 0)))
          (moves.others role c);
      queue = moves.posted ∙ append-nil before.queue ∙ settled.queue;
    },
    reply_is config before after (orderer_node config 0) (ACall (Request client value)) Done reply takes made rule ∙ ap (λ (values : List Value). TakenWish (length values)) o.knows,
  )
    where
      lead : (found : Leader) × (o.orderer.leader ≡ Some found) × IsLeader config agreed.ballot (length agreed.values) found
      lead = leading config agreed.ballot (length agreed.values) o.orderer.leader o.leads

      made : NodeOutcome
      made = record { state = Ordering (record { durable = node.durable; mode = Running (wishful o.orderer) }); outputs = []; reply = TakenWish (length o.orderer.known) }

      rule : node_outcome config (orderer_node config 0) (before.nodes (orderer_node config 0)) (ACall (Request client value)) Done ≡ Some made
      rule =
          ap (λ (state : NodeState). node_outcome config (orderer_node config 0) state (ACall (Request client value)) Done) is
          ∙ orderer_takes config 0 some node o.orderer (wish_change o.orderer) o.runs (ACall (Request client value)) refl (ap Some (requests o.orderer lead.0 lead.1 o.knows))

      moves : Moves config before after (Orderer 0) made
      moves = moved config before after (Orderer 0) (ACall (Request client value)) Done reply some takes made rule

      stands : IsOrderer config (wishing agreed value) 0 lists (record { durable = node.durable; mode = Running (wishful o.orderer) })
      stands = record {
        orderer = wishful o.orderer;
        runs = refl;
        knows = o.knows;
        wishes =
            ap (λ (wishes : List Wish). wishes ++ record { value = value; from = length o.orderer.known } ∷ []) o.wishes
            ∙ ap (λ (values : List Value). agreed.wishes ++ record { value = value; from = length values } ∷ []) o.knows;
        heard = o.heard;
        leads = o.leads;
        cast = o.cast;
      }
  requested_at before after reply settled takes (Storing node) is o = absurd o
  requested_at before after reply settled takes (Gathering node) is o = absurd o

  pub requested : (before after : Moment) (reply : Reply) → IsSettled config agreed lists before
      → Takes config before (orderer_node config 0) (ACall (Request client value)) Done reply after
      → IsSettled config (wishing agreed value) lists after × (reply ≡ TakenWish (length agreed.values))
  requested before after reply settled takes =
      requested_at before after reply settled takes (before.nodes (orderer_node config 0)) refl (settled.nodes (Orderer 0) some)
