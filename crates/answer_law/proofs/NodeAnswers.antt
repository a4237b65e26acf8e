-- What a node of any role answers, where all letters and all nodes are as they should be.
use Rattle.std.proofs.Common.{◌≡◌, ◌<◌, ℕ, List, Some, slice_get, refl, sym, ap, subst, inl, inr, arith, ◌∙◌}
use Rattle.std.proofs.lemmas.Bool.{cases_lt}
use Rattle.std.proofs.lemmas.Option.{none-some}
use Rattle.reply_frame.specs.Replies.{IsNodeAnswer, IsShort}
use Rattle.history_frame.specs.declared.events.Happened.{Happened}
use Rattle.history_frame.specs.declared.events.Sent.{Sent}
use Rattle.history_frame.specs.declared.inputs.Input.{Input}
use Rattle.history_frame.specs.declared.inputs.Mark.{Mark}
use Rattle.log_base.specs.ClusterShape.{InRange, Shape}
use Rattle.log_model.specs.Storage.{Member, list_in}
use Rattle.node_table.specs.declared.role.Role.{Role}
use Rattle.node_table.specs.declared.role.Role.TheVariants.{Storage, Gatherer, Orderer}
use Rattle.node_table.specs.Numbering.{IsRole, node_of, nodes_of, role_at, storage_node}
use Rattle.node_table.proofs.Roles.{role_at-is}
use Rattle.record_frame.specs.declared.entries.Entry.{Entry}
use Rattle.node_model.specs.GathererRow.{GathererNode, GathererOutcome, gatherer_role, outcome as gatherer_outcome, row as gatherer_row}
use Rattle.node_model.specs.NodeState.{IsRow, NodeOutcome, NodeState, Storing, Gathering, Ordering, outcome_as}
use Rattle.node_model.specs.OrdererNode.{Node, Outcome}
use Rattle.node_model.specs.OrdererRow.{orderer_role, outcome as orderer_outcome, row as orderer_row}
use Rattle.node_model.specs.Sequence.{lists_of}
use Rattle.node_model.specs.StorageNode.{StorageNode, StorageOutcome, member_of}
use Rattle.node_model.specs.StorageRow.{outcome as storage_outcome, row as storage_row, storage_role}
use Rattle.node_model.specs.Turning.{Turned}
use Rattle.node_model.proofs.Lists.{list_in-past}
use Rattle.node_model.proofs.Turning.{for_some_at, turned}
use Rattle.safety_law.specs.Fit.{Fit, IsGoodNode}
use Rattle.safety_law.specs.Lists.{lists_at}
use Rattle.safety_law.proofs.Step.{of_role}
use Rattle.answer_law.proofs.Answering.{OfAnswer, turn_answers}
use Rattle.answer_law.proofs.RowAnswers.{gatherer_row_answers, orderer_row_answers, storage_row_answers}

storage_turned : (config : Shape) (member : Member) (node : StorageNode) (input : Input) (mark : Mark) (made : StorageOutcome)
    → storage_outcome config member node input mark ≡ Some made → Turned (storage_role config member) node input mark made
unfolding storage_outcome
storage_turned config member node input mark made e = turned (storage_role config member) node input mark made e

gatherer_turned : (config : Shape) (index : ℕ) (node : GathererNode) (input : Input) (mark : Mark) (made : GathererOutcome)
    → gatherer_outcome config index node input mark ≡ Some made → Turned (gatherer_role config index) node input mark made
unfolding gatherer_outcome
gatherer_turned config index node input mark made e = turned (gatherer_role config index) node input mark made e

orderer_turned : (config : Shape) (i : ℕ) (node : Node) (input : Input) (mark : Mark) (made : Outcome)
    → orderer_outcome config i node input mark ≡ Some made → Turned (orderer_role config i) node input mark made
unfolding orderer_outcome
orderer_turned config i node input mark made e = turned (orderer_role config i) node input mark made e

module _ (config : Shape) (range : InRange config) (state : ℕ → NodeState) (sent : List Sent) (fit : Fit config state sent) (n : ℕ) (within : n < nodes_of config) where
  -- the entries that a replica holds are not too long
  entries_short : (s r : ℕ) → s < config.shards → r < config.replicas → storage_node config s r ≡ n → (node : StorageNode) → state n ≡ Storing node
      → IsGoodNode config (lists_at config state) (Storage (record { 0 = s }) (record { 0 = r })) (Storing node)
      → (segment offset : ℕ) (entry : Entry) → slice_get (list_in node.durable segment) offset ≡ Some entry → IsShort entry
  entries_short s r a b at node x h segment offset entry e = elim (cases_lt segment config.replicas) [
    | inl below ↦
        let same : list_in node.durable segment ≡ lists_at config state s r segment
        = sym (ap (λ (k : ℕ). list_in (lists_of (state k)) segment) at ∙ ap (λ (y : NodeState). list_in (lists_of y) segment) x) in
        ((fit.copies s r segment (record { shard_below = a; replica_below = b; segment_below = below })).entries offset entry
        (subst (λ (l : List Entry). slice_get l offset ≡ Some entry) same e)).size
    | inr past ↦
        let none = list_in-past node.durable segment (omega (arith, past, h.size)) in
        absurd (none-some entry (subst (λ (l : List Entry). slice_get l offset ≡ Some entry) none e))
  ]

  answer_as : (role : Role) → IsRole config role → node_of config role ≡ n → (x : NodeState) → state n ≡ x → IsGoodNode config (lists_at config state) role x
      → (input : Input) (mark : Mark) (made : NodeOutcome) → outcome_as config role x input mark ≡ Some made → IsNodeAnswer made.reply
  answer_as (Storage s r) is at (Storing node) x h input mark made o =
      let member = member_of config s.0 r.0 in
      let m = of_role Storing (storage_outcome config member node input mark) made o in
      let short = entries_short s.0 r.0 is.0 is.1 at node x h in
      subst (λ (y : NodeOutcome). IsNodeAnswer y.reply) m.2
      (turn_answers (storage_role config member) node input
      (λ memory change e. for_some_at OfAnswer (storage_row config member node.durable memory input) change (storage_row_answers config member node.durable short memory input) e)
      mark m.0 (storage_turned config member node input mark m.0 m.1))
  answer_as (Gatherer i) is at (Gathering node) x h input mark made o =
      let m = of_role Gathering (gatherer_outcome config i node input mark) made o in
      subst (λ (y : NodeOutcome). IsNodeAnswer y.reply) m.2
      (turn_answers (gatherer_role config i) node input
      (λ memory change e. for_some_at OfAnswer (gatherer_row config i memory input) change (gatherer_row_answers config i memory input) e)
      mark m.0 (gatherer_turned config i node input mark m.0 m.1))
  answer_as (Orderer i) is at (Ordering node) x h input mark made o =
      let m = of_role Ordering (orderer_outcome config i node input mark) made o in
      subst (λ (y : NodeOutcome). IsNodeAnswer y.reply) m.2
      (turn_answers (orderer_role config i) node input
      (λ memory change e. for_some_at OfAnswer (orderer_row config i node.durable memory input) change (orderer_row_answers config i node.durable memory input) e)
      mark m.0 (orderer_turned config i node input mark m.0 m.1))
  answer_as (Storage s r) is at (Gathering node) x h input mark made o = absurd h
  answer_as (Storage s r) is at (Ordering node) x h input mark made o = absurd h
  answer_as (Gatherer i) is at (Storing node) x h input mark made o = absurd h
  answer_as (Gatherer i) is at (Ordering node) x h input mark made o = absurd h
  answer_as (Orderer i) is at (Storing node) x h input mark made o = absurd h
  answer_as (Orderer i) is at (Gathering node) x h input mark made o = absurd h

  -- the reply of a row
  pub row_answers : (happened : Happened) → IsRow config n (state n) happened → IsNodeAnswer happened.reply
  row_answers happened row =
      let role = role_at-is config n range within in
      subst IsNodeAnswer (sym row.reply)
      (answer_as (role_at config n) role.0 role.1 (state n) refl (fit.nodes n within) happened.input happened.mark row.made row.rule)
