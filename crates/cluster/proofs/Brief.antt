-- What a node puts out at its start, and when it is ordered to lead, is short.
use Rattle.std.proofs.Common.{◌≡◌, ◌⊎◌, ◌≤◌, ℕ, zero, suc, ◌*◌, Bool, true, false, cond, List, [], length, Option, Some, None, refl, sym, ap, ◌∙◌, subst, inl, inr, arith}
use Rattle.std.specs.List.{flat_map}
use Rattle.aggregator.specs.Hearing.{Hearing}
use Rattle.history_frame.specs.declared.events.Happened.{Happened}
use Rattle.history_frame.specs.declared.events.Sent.{Sent}
use Rattle.history_frame.specs.declared.inputs.Input.{Input}
use Rattle.history_frame.specs.declared.inputs.Input.TheVariants.{Lead, Restart}
use Rattle.history_frame.specs.declared.inputs.Mark.{Mark}
use Rattle.history_frame.specs.Spelling.{event_size, input_spelling, sent_spelling}
use Rattle.log_base.specs.ClusterShape.{Shape}
use Rattle.log_base.specs.Wide.{be2, be4, be8}
use Rattle.log_model.specs.Storage.{Member}
use Rattle.node_table.specs.Numbering.{role_at}
use Rattle.node_table.specs.declared.role.Role.{Role}
use Rattle.node_table.specs.declared.role.Role.TheVariants.{Storage, Gatherer, Orderer}
use Rattle.paxos_model.specs.Leader.{ballot_above}
use Rattle.paxos_model.specs.Votes.{Payload, promised}
use Rattle.reply_frame.specs.declared.replies.Reply.{Reply, Nothing, Halted as HaltedReply, Down}
use Rattle.reply_frame.specs.Replies.{reply_bytes}
use Rattle.node_model.specs.GathererRow.{GathererNode, GathererOutcome, gatherer_role, outcome as gatherer_outcome}
use Rattle.node_model.specs.Marks.{ChangeOf, NodeOf, OutcomeOf, RoleOf, to_call}
use Rattle.node_model.specs.Messages.{prepare_message}
use Rattle.node_model.specs.Nodes.{to_nodes, to_orderers}
use Rattle.node_model.specs.NodeState.{Gathering, IsRow, NodeOutcome, NodeState, Ordering, Storing, as_outcome, outcome_as}
use Rattle.node_model.specs.OrdererNode.{Change, Node, Orderer as OrdererMemory, Outcome}
use Rattle.node_model.specs.OrdererRow.{on_lead, orderer_role, outcome as orderer_outcome}
use Rattle.node_model.specs.StorageNode.{StorageNode, StorageOutcome, member_of}
use Rattle.node_model.specs.StorageRow.{outcome, storage_role}
use Rattle.node_model.specs.Turning.{Turned, Ran, Fell, Slept, Stopped_now, Opened, Opened_more}
use Rattle.node_model.proofs.Turning.{ForSome, for_some_at, turned}
use Rattle.cluster.proofs.Sizes.{event_parts}

-- a node starts, or it is ordered to lead
abbrev pub IsOpener : Input → Type 0
IsOpener input = (input ≡ Restart) ⊎ (input ≡ Lead)

-- short letters to the orderers at most, and no reply
abbrev IsBrief : Shape → List Sent → Reply → Type 0
IsBrief config outputs reply = (length (flat_map sent_spelling outputs) ≤ 19 * config.orderers) × (reply ≡ Nothing)

no_reply : (input : Input) (reply : Reply) → IsOpener input → to_call input reply ≡ Nothing
no_reply input reply (inl e) = ap (λ (x : Input). to_call x reply) e
no_reply input reply (inr e) = ap (λ (x : Input). to_call x reply) e

nothing_out : (config : Shape) (reply : Reply) → reply ≡ Nothing → IsBrief config [] reply
nothing_out config reply none = (omega arith, none)

abbrev OfRow : {P M : Type 0} → Shape → ChangeOf P M → Type 0
OfRow config change = IsBrief config change.outputs change.reply

module _ {D P K M : Type 0} (config : Shape) (role : RoleOf D P K M) (node : NodeOf D P K M) (input : Input) (opener : IsOpener input)
    (rows : (memory : M) → ForSome (OfRow config) (role.row node.durable memory input)) where
  turned_brief : (mark : Mark) (made : OutcomeOf D P K M) → Turned role node input mark made → IsBrief config made.outputs made.reply
  turned_brief mark made (Ran memory change m r done e) =
      subst (λ (o : OutcomeOf D P K M). IsBrief config o.outputs o.reply) (sym e) (for_some_at (OfRow config) (role.row node.durable memory input) change (rows memory) r)
  turned_brief mark made (Fell memory change put m r p halts e) =
      subst (λ (o : OutcomeOf D P K M). IsBrief config o.outputs o.reply) (sym e) (nothing_out config _ (no_reply input HaltedReply opener))
  turned_brief mark made (Slept flight known m done e) =
      subst (λ (o : OutcomeOf D P K M). IsBrief config o.outputs o.reply) (sym e) (nothing_out config _ (no_reply input Down opener))
  turned_brief mark made (Stopped_now e) = subst (λ (o : OutcomeOf D P K M). IsBrief config o.outputs o.reply) (sym e) (nothing_out config Nothing refl)
  turned_brief mark made (Opened without e) = subst (λ (o : OutcomeOf D P K M). IsBrief config o.outputs o.reply) (sym e) (nothing_out config Nothing refl)
  turned_brief mark made (Opened_more put f more e) = subst (λ (o : OutcomeOf D P K M). IsBrief config o.outputs o.reply) (sym e) (nothing_out config Nothing refl)

storage_brief : (config : Shape) (member : Member) (node : StorageNode) (input : Input) → IsOpener input → (mark : Mark) (made : StorageOutcome)
    → outcome config member node input mark ≡ Some made → IsBrief config made.outputs made.reply
unfolding outcome
storage_brief config member node input opener mark made e =
    turned_brief config (storage_role config member) node input opener (rows opener) mark made (turned (storage_role config member) node input mark made e)
  where
    rows : IsOpener input → (memory : _) → ForSome (OfRow config) ((storage_role config member).row node.durable memory input)
    rows (inl is) memory = subst (λ (x : Input). ForSome (OfRow config) ((storage_role config member).row node.durable memory x)) (sym is) tt
    rows (inr is) memory = subst (λ (x : Input). ForSome (OfRow config) ((storage_role config member).row node.durable memory x)) (sym is) tt

gatherer_brief : (config : Shape) (index : ℕ) (node : GathererNode) (input : Input) → IsOpener input → (mark : Mark) (made : GathererOutcome)
    → gatherer_outcome config index node input mark ≡ Some made → IsBrief config made.outputs made.reply
unfolding gatherer_outcome
gatherer_brief config index node input opener mark made e =
    turned_brief config (gatherer_role config index) node input opener (rows opener) mark made (turned (gatherer_role config index) node input mark made e)
  where
    rows : IsOpener input → (memory : Hearing) → ForSome (OfRow config) ((gatherer_role config index).row node.durable memory input)
    rows (inl is) memory = subst (λ (x : Input). ForSome (OfRow config) ((gatherer_role config index).row node.durable memory x)) (sym is) tt
    rows (inr is) memory = subst (λ (x : Input). ForSome (OfRow config) ((gatherer_role config index).row node.durable memory x)) (sym is) tt

-- the same short letter to several nodes
letters_short : (ballot slot node count : ℕ) → length (flat_map sent_spelling (to_nodes node count (prepare_message ballot slot))) ≡ 19 * count
unfolding be2 be4 be8
letters_short ballot slot node zero = refl
letters_short ballot slot node (suc count) = let rest = letters_short ballot slot (suc node) count in omega arith

to_orderers_short : (config : Shape) (ballot slot : ℕ) → length (flat_map sent_spelling (to_orderers config (prepare_message ballot slot))) ≡ 19 * config.orderers
unfolding to_orderers
to_orderers_short config ballot slot = letters_short ballot slot _ config.orderers

lead_brief : (config : Shape) (i : ℕ) (list : List Payload) (o : OrdererMemory) → OfRow config (on_lead config i list o)
unfolding on_lead
lead_brief config i list o = choice _ _ _ (nothing_out config Nothing refl) (let size = to_orderers_short config (ballot_above config.orderers i (promised list)) (length o.known) in omega arith, refl)
  where
    choice : (b : Bool) (one other : Change) → OfRow config one → OfRow config other → OfRow config (cond b one other)
    choice true one other h k = h
    choice false one other h k = k

orderer_brief : (config : Shape) (i : ℕ) (node : Node) (input : Input) → IsOpener input → (mark : Mark) (made : Outcome)
    → orderer_outcome config i node input mark ≡ Some made → IsBrief config made.outputs made.reply
unfolding orderer_outcome
orderer_brief config i node input opener mark made e =
    turned_brief config (orderer_role config i) node input opener (rows opener) mark made (turned (orderer_role config i) node input mark made e)
  where
    rows : IsOpener input → (memory : OrdererMemory) → ForSome (OfRow config) ((orderer_role config i).row node.durable memory input)
    rows (inl is) memory = subst (λ (x : Input). ForSome (OfRow config) ((orderer_role config i).row node.durable memory x)) (sym is) tt
    rows (inr is) memory = subst (λ (x : Input). ForSome (OfRow config) ((orderer_role config i).row node.durable memory x)) (sym is) (lead_brief config i node.durable memory)

some_outcome : {one other : NodeOutcome} → Some one ≡ Some other → one ≡ other
some_outcome e = cc

made_brief : {D P K M : Type 0} (config : Shape) (state : NodeOf D P K M → NodeState) (some : Option (OutcomeOf D P K M)) → ((made : OutcomeOf D P K M) → some ≡ Some made → IsBrief config made.outputs made.reply)
    → (made : NodeOutcome) → as_outcome state some ≡ Some made → IsBrief config made.outputs made.reply
made_brief config state None h made e = cc
made_brief config state (Some inner) h made e = subst (λ (o : NodeOutcome). IsBrief config o.outputs o.reply) (some_outcome e) (h inner refl)

role_brief : (config : Shape) (role : Role) (state : NodeState) (input : Input) → IsOpener input → (mark : Mark) (made : NodeOutcome)
    → outcome_as config role state input mark ≡ Some made → IsBrief config made.outputs made.reply
role_brief config (Storage shard replica) (Storing node) input opener mark made e =
    made_brief config Storing (outcome config (member_of config shard.0 replica.0) node input mark)
    (storage_brief config (member_of config shard.0 replica.0) node input opener mark) made e
role_brief config (Gatherer index) (Gathering node) input opener mark made e =
    made_brief config Gathering (gatherer_outcome config index node input mark) (gatherer_brief config index node input opener mark) made e
role_brief config (Orderer index) (Ordering node) input opener mark made e =
    made_brief config Ordering (orderer_outcome config index node input mark) (orderer_brief config index node input opener mark) made e
role_brief config _ _ input opener mark made e = cc

opener_short : (input : Input) → IsOpener input → length (input_spelling input) ≡ 1
opener_short input (inl e) = ap (λ (x : Input). length (input_spelling x)) e
opener_short input (inr e) = ap (λ (x : Input). length (input_spelling x)) e

-- such an event is small
pub brief_row : (config : Shape) (node : ℕ) (state : NodeState) (happened : Happened) → config.orderers ≤ 7 → IsOpener happened.input → IsRow config node state happened
    → event_size happened ≤ 200
brief_row config node state happened few opener row =
    let brief = role_brief config (role_at config node) state happened.input opener happened.mark row.made row.rule in
    let front = opener_short happened.input opener in
    let letters : length (flat_map sent_spelling happened.outputs) ≡ length (flat_map sent_spelling row.made.outputs) = ap (λ (l : List Sent). length (flat_map sent_spelling l)) row.outputs in
    let short = brief.0 in
    let reply : length (reply_bytes happened.reply) ≡ 1 = ap (λ (r : Reply). length (reply_bytes r)) (row.reply ∙ brief.1) in
    let parts = event_parts happened in
    omega arith
