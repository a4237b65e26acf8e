-- A stage of the decision stays through an event that leaves the leader's memory.
use Rattle.std.proofs.Common.{◌≡◌, ◌⊎◌, ◌<◌, ℕ, suc, Bool, List, ⊎_elim}
use Rattle.history_frame.specs.declared.events.Sent.{Sent}
use Rattle.node_table.specs.declared.role.Role.{Role}
use Rattle.node_table.specs.Numbering.{IsRole, node_of}
use Rattle.node_model.specs.NodeState.{NodeState}
use Rattle.node_model.specs.OrdererNode.{Orderer as OrdererMemory}
use Rattle.quiet_model.proofs.Decision.{Decision, Counts, Marked, Accepts_it, Is_asked, Learns, Knows, Is_told, Renews, Promised_it, Promises_it, Is_prepared, IsReady, In_window, Renewing, Stage, Proposed, Decided, AcceptTo, AcceptedFrom, DecideTo, IsLearner, PrepareTo, PromisedFrom, count_in, slot_of}
use Rattle.quiet_model.proofs.Waiting.{Waits}

-- what becomes of the letters and of what nodes know
pub record Carries (d : Decision) (nodes : ℕ → NodeState) (queue : List Sent) (later : ℕ → NodeState) (now : List Sent) : Type 0 where
  pub accept : (j : ℕ) → j < d.config.orderers → Waits (AcceptTo d j) queue → Waits (AcceptTo d j) now ⊎ Waits (AcceptedFrom j) now
  pub accepted : (j : ℕ) → Waits (AcceptedFrom j) queue → Waits (AcceptedFrom j) now
  pub knows : (role : Role) → IsRole d.config role → IsLearner role → count_in (nodes (node_of d.config role)) ≡ suc (slot_of d)
      → count_in (later (node_of d.config role)) ≡ suc (slot_of d)
  pub decide : (role : Role) → IsRole d.config role → IsLearner role → Waits (DecideTo d role) queue → Learns d later now role
  pub prepare : (j : ℕ) → j < d.config.orderers → Waits (PrepareTo d j) queue → Waits (PrepareTo d j) now ⊎ Waits (PromisedFrom j) now
  pub promised : (j : ℕ) → Waits (PromisedFrom j) queue → Waits (PromisedFrom j) now

module _ (d : Decision) (nodes : ℕ → NodeState) (queue : List Sent) (later : ℕ → NodeState) (now : List Sent) (c : Carries d nodes queue later now) where
  counts_on : (marks : List Bool) (j : ℕ) → j < d.config.orderers → Counts d queue marks j → Counts d now marks j
  counts_on marks j b (Marked e) = Marked e
  counts_on marks j b (Accepts_it w) = Accepts_it (c.accepted j w)
  counts_on marks j b (Is_asked w) = ⊎_elim (λ v. Is_asked v) (λ v. Accepts_it v) (c.accept j b w)

  pub learns_on : (role : Role) → IsRole d.config role → IsLearner role → Learns d nodes queue role → Learns d later now role
  learns_on role is learns (Knows e) = Knows (c.knows role is learns e)
  learns_on role is learns (Is_told w) = c.decide role is learns w

  renews_on : (marks : List Bool) (j : ℕ) → j < d.config.orderers → Renews d queue marks j → Renews d now marks j
  renews_on marks j b (Promised_it e) = Promised_it e
  renews_on marks j b (Promises_it w) = Promises_it (c.promised j w)
  renews_on marks j b (Is_prepared w) = ⊎_elim (λ v. Is_prepared v) (λ v. Promises_it v) (c.prepare j b w)

  pub stage_on : (o : OrdererMemory) → Stage d nodes queue o → Stage d later now o
  stage_on o (Proposed p counts) = Proposed p (λ j b. counts_on p.pending.accepted j b (counts j b))
  stage_on o (Decided p learns ready) = Decided p (λ role is l. learns_on role is l (learns role is l)) (ready_on ready)
    where
      ready_on : IsReady d queue p.leader → IsReady d now p.leader
      ready_on (In_window low many) = In_window low many
      ready_on (Renewing e size renews) = Renewing e size (λ j b. renews_on p.leader.answered j b (renews j b))
