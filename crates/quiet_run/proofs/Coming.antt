-- The next event of a run: its input fits its node, and the history stays legal.
use Rattle.std.proofs.Common.{◌<◌, ℕ, List, [], ◌∷◌, ◌++◌, Some, None}
use Rattle.history_frame.specs.declared.events.Event.{Event}
use Rattle.history_frame.specs.declared.inputs.Input.{Input}
use Rattle.history_frame.specs.declared.inputs.Input.TheVariants.{Deliver, Call as ACall, Tick, Lead, Stop, Restart}
use Rattle.log_base.specs.ClusterShape.{Shape}
use Rattle.log_model.specs.Storage.{Member}
use Rattle.node_table.specs.declared.role.Role.{Role}
use Rattle.node_table.specs.declared.role.Role.TheVariants.{Storage, Gatherer, Orderer}
use Rattle.node_table.specs.Numbering.{nodes_of, role_at}
use Rattle.record_frame.specs.declared.entries.Entry.{Entry}
use Rattle.node_model.specs.Fits.{Fits, FitsReplica, FitsState, IsInput}
use Rattle.node_model.specs.Histories.{IsDelivered}
use Rattle.node_model.specs.Legal.{IsLegal, IsNext}
use Rattle.node_model.specs.Nodes.{letter}
use Rattle.node_model.specs.NodeState.{KeptLists, NodeState, Storing, Gathering, Ordering, node_after}
use Rattle.node_model.specs.StorageNode.{member_of}
use Rattle.node_model.proofs.Following.{grown}
use Rattle.agreement_law.proofs.Bridge.{sent_before}
use Rattle.agreement_law.proofs.Elements.{got_in}
use Rattle.schedule_model.specs.Calling.{IsNoLetter}
use Rattle.safety_law.proofs.Corollaries.{letters_fit}
use Rattle.safety_law.proofs.History.{history_fits}

-- an input that says nothing of lists fits every state
state_free : (config : Shape) (role : Role) (state : NodeState) (input : Input) → ((member : Member) (lists : List (List Entry)) → FitsReplica member lists input)
    → FitsState config role state input
state_free config (Storage shard replica) (Storing node) input h = h (member_of config shard.0 replica.0) node.durable
state_free config (Storage shard replica) (Gathering node) input h = tt
state_free config (Storage shard replica) (Ordering node) input h = tt
state_free config (Gatherer index) state input h = tt
state_free config (Orderer index) state input h = tt

module _ (config : Shape) (run : ℕ) (kept : KeptLists) (events : List Event) (legal : IsLegal config run kept events) where
  -- an input that comes next fits the node that takes it
  pub input_fits : (node : ℕ) (input : Input) → (IsNoLetter input → IsInput config (role_at config node) input) → IsDelivered events node input
      → Fits config (role_at config node) (node_after config kept events node) input
  input_fits node (Deliver place index (Some message)) allowed d =
      letters_fit config run kept events legal node place index message
      (sent_before events place d.event (letter node message) d.at (got_in d.event.happened.outputs index (letter node message) d.output))
  input_fits node (Deliver place index None) allowed d = absurd d
  input_fits node (ACall call) allowed d = record { allowed = allowed tt; held = state_free config (role_at config node) (node_after config kept events node) (ACall call) (λ m l. tt) }
  input_fits node Tick allowed d = record { allowed = allowed tt; held = state_free config (role_at config node) (node_after config kept events node) Tick (λ m l. tt) }
  input_fits node Lead allowed d = record { allowed = allowed tt; held = state_free config (role_at config node) (node_after config kept events node) Lead (λ m l. tt) }
  input_fits node Stop allowed d = record { allowed = allowed tt; held = state_free config (role_at config node) (node_after config kept events node) Stop (λ m l. tt) }
  input_fits node Restart allowed d = record { allowed = allowed tt; held = state_free config (role_at config node) (node_after config kept events node) Restart (λ m l. tt) }

  -- the addressee of a letter is a node of the cluster
  pub letter_within : (node : ℕ) (input : Input) → (IsNoLetter input → node < nodes_of config) → IsDelivered events node input → node < nodes_of config
  letter_within node (Deliver place index (Some message)) plain d =
      ((history_fits config run kept events legal).letters (letter node message)
      (sent_before events place d.event (letter node message) d.at (got_in d.event.happened.outputs index (letter node message) d.output))).within
  letter_within node (Deliver place index None) plain d = absurd d
  letter_within node (ACall call) plain d = plain tt
  letter_within node Tick plain d = plain tt
  letter_within node Lead plain d = plain tt
  letter_within node Stop plain d = plain tt
  letter_within node Restart plain d = plain tt

  -- the history stays legal
  pub legal_push : (event : Event) → IsNext config run kept events event → IsLegal config run kept (events ++ event ∷ [])
  legal_push event next = record {
    config_in_range = legal.config_in_range;
    sound = legal.sound;
    follow = grown config run kept [] events event legal.follow next;
  }
