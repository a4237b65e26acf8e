-- What a row leaves: proposals with more of its own, and a node and letters of which all still holds.
use Rattle.std.proofs.Common.{◌≡◌, ◌-◌, ℕ, zero, suc, List, [], ◌∷◌, ◌++◌, length, Some, None, sym, ap, subst, inl, inr, ⊎_elim}
use Rattle.history_frame.specs.declared.events.Sent.{Sent}
use Rattle.log_base.specs.ClusterShape.{Shape}
use Rattle.message_frame.specs.declared.messages.Message.{Message}
use Rattle.message_frame.specs.declared.messages.Vote.{Vote}
use Rattle.paxos_model.specs.Leader.{Advanced, Leader, Next, Nothing, Propose, Window, advance}
use Rattle.paxos_model.specs.Learner.{wish_of}
use Rattle.paxos_model.specs.Votes.{Payload}
use Rattle.node_table.specs.Numbering.{orderer_node}
use Rattle.node_model.specs.Messages.{accept_message, prepare_message}
use Rattle.node_model.specs.Marks.{Running}
use Rattle.node_model.specs.Nodes.{to_nodes, to_orderers, to_learners, before_orderers, storage_nodes}
use Rattle.node_model.specs.OrdererNode.{Change, Mode, Orderer, with_put}
use Rattle.node_model.specs.OrdererRow.{go_on, next_letters, with_leader}
use Rattle.agreement_law.specs.Elements.{In}
use Rattle.agreement_law.specs.Invariant.{AreChosen, CanPut, Global, IsGoodLeader, IsGoodMode, IsGoodOrderer, IsTrueMessage}
use Rattle.agreement_law.proofs.Advance.{IsGoodNext, StepKeeps, advance_keeps}
use Rattle.agreement_law.proofs.Elements.{in_append}
use Rattle.agreement_law.proofs.Grows.{AddsMine, Grow, adds_none, global_grows, message_adds, orderer_grows}

pub record Moves (n : ℕ) (lists : ℕ → List Payload) (ps : List Vote) (i : ℕ) (m : Mode) (outs : List Sent) : Type 0 where
  pub proposals : List Vote
  pub adds : AddsMine n i ps proposals
  pub global : Global n lists proposals
  pub mode : IsGoodMode n lists proposals i m
  pub told : (s : Sent) → In s outs → IsTrueMessage n lists proposals s.message

-- a row: what it puts can be put, and once the lists have it all still holds
pub record RowKeeps (n : ℕ) (lists : ℕ → List Payload) (ps : List Vote) (i : ℕ) (c : Change) : Type 0 where
  pub put : CanPut (lists i) ps c.put
  pub stored : (now : ℕ → List Payload) → Grow ps lists now → now i ≡ with_put (lists i) c.put → Moves n now ps i (Running c.after) c.outputs

-- all that a row at orderer i goes by
pub record Here (n : ℕ) (lists : ℕ → List Payload) (ps : List Vote) (i : ℕ) (o : Orderer) : Type 0 where
  pub global : Global n lists ps
  pub self : IsGoodOrderer n lists ps i o

pub here_grows : (n : ℕ) (lists : ℕ → List Payload) (ps : List Vote) (i : ℕ) (o : Orderer) → Here n lists ps i o → (now : ℕ → List Payload) → Grow ps lists now → Here n now ps i o
here_grows n lists ps i o h now g = record { global = global_grows n ps lists now g h.global; self = orderer_grows n ps lists now g i o h.self }

-- a row that puts nothing
pub still_row : (n : ℕ) (lists : ℕ → List Payload) (ps : List Vote) (i : ℕ) (c : Change) → c.put ≡ None
    → ((now : ℕ → List Payload) → Grow ps lists now → Moves n now ps i (Running c.after) c.outputs) → RowKeeps n lists ps i c
still_row n lists ps i c e f = record {
  put = subst (λ p. CanPut (lists i) ps p) (sym e) tt;
  stored = λ now g _. f now g;
}

-- the proposals stay, and the node and the letters are good
pub same_moves : (n : ℕ) (lists : ℕ → List Payload) (ps : List Vote) (i : ℕ) (m : Mode) (outs : List Sent) → Global n lists ps → IsGoodMode n lists ps i m
    → ((s : Sent) → In s outs → IsTrueMessage n lists ps s.message) → Moves n lists ps i m outs
same_moves n lists ps i m outs g h f = record { proposals = ps; adds = adds_none n i ps; global = g; mode = h; told = f }

-- letters to many are of one message
pub in_to_nodes : (node count : ℕ) (m : Message) (s : Sent) → In s (to_nodes node count m) → s.message ≡ m
in_to_nodes node zero m s h = absurd h
in_to_nodes node (suc count) m s (inl e) = ap (λ (t : Sent). t.message) e
in_to_nodes node (suc count) m s (inr h) = in_to_nodes (suc node) count m s h

pub in_to_orderers : (shape : Shape) (m : Message) (s : Sent) → In s (to_orderers shape m) → s.message ≡ m
unfolding to_orderers
in_to_orderers shape m s h = in_to_nodes (before_orderers shape) shape.orderers m s h

pub in_to_learners : (shape : Shape) (i : ℕ) (m : Message) (s : Sent) → In s (to_learners shape i m) → s.message ≡ m
unfolding to_learners
in_to_learners shape i m s h =
    ⊎_elim
    (λ a. ⊎_elim (λ b. in_to_nodes 0 (storage_nodes shape) m s b) (λ b. in_to_nodes (before_orderers shape) i m s b)
    (in_append s (to_nodes 0 (storage_nodes shape) m) (to_nodes (before_orderers shape) i m) a))
    (λ a. in_to_nodes (orderer_node shape (suc i)) (shape.orderers - suc i) m s a)
    (in_append s (to_nodes 0 (storage_nodes shape) m ++ to_nodes (before_orderers shape) i m) (to_nodes (orderer_node shape (suc i)) (shape.orderers - suc i) m) h)

pub true_as : (n : ℕ) (lists : ℕ → List Payload) (ps : List Vote) (m : Message) (s : Sent) → s.message ≡ m → IsTrueMessage n lists ps m → IsTrueMessage n lists ps s.message
true_as n lists ps m s e h = subst (λ w. IsTrueMessage n lists ps w) (sym e) h

-- one letter
pub one_true : (n : ℕ) (lists : ℕ → List Payload) (ps : List Vote) (t : Sent) → IsTrueMessage n lists ps t.message → (s : Sent) → In s (t ∷ []) → IsTrueMessage n lists ps s.message
one_true n lists ps t h s (inl e) = true_as n lists ps t.message s (ap (λ (w : Sent). w.message) e) h
one_true n lists ps t h s (inr e) = absurd e

next_true : (shape : Shape) (lists : ℕ → List Payload) (ps : List Vote) (b : ℕ) (next : Next) → IsGoodNext shape.orderers lists ps b next
    → (s : Sent) → In s (next_letters shape b next) → IsTrueMessage shape.orderers lists ps s.message
next_true shape lists ps b (Propose k v) h s a = true_as shape.orderers lists ps (accept_message b k v) s (in_to_orderers shape (accept_message b k v) s a) h
next_true shape lists ps b (Window k) h s a = true_as shape.orderers lists ps (prepare_message b k) s (in_to_orderers shape (prepare_message b k) s a) h
next_true shape lists ps b Nothing h s a = absurd a

step_moves : (shape : Shape) (lists : ℕ → List Payload) (ps : List Vote) (i b : ℕ) (o : Orderer) (step : Advanced) (before : List Sent)
    → AreChosen shape.orderers lists o.known
    → ((s : Sent) → In s before → IsTrueMessage shape.orderers lists ps s.message)
    → StepKeeps shape.orderers lists ps i (length o.known) b step
    → Moves shape.orderers lists ps i (Running (with_leader o (Some step.leader))) (before ++ next_letters shape b step.next)
step_moves shape lists ps i b o step before known told k = record {
  proposals = k.proposals;
  adds = k.adds;
  global = k.global;
  mode = record { chosen = known; leads = k.leader };
  told = λ s a. ⊎_elim
      (λ c. message_adds shape.orderers i ps k.proposals k.adds lists s.message (told s c))
      (λ c. next_true shape lists k.proposals b step.next k.next s c)
      (in_append s before (next_letters shape b step.next) a);
}

-- the leader goes on
pub go_on_moves : (shape : Shape) (lists : ℕ → List Payload) (ps : List Vote) (i : ℕ) (o : Orderer) (l : Leader) (before : List Sent)
    → Global shape.orderers lists ps → AreChosen shape.orderers lists o.known → IsGoodLeader shape.orderers lists ps i (length o.known) l
    → ((s : Sent) → In s before → IsTrueMessage shape.orderers lists ps s.message)
    → Moves shape.orderers lists ps i (Running (go_on shape o l before).after) (go_on shape o l before).outputs
go_on_moves shape lists ps i o l before g known h told =
    let wish = wish_of shape.replicas o.known o.heard o.wishes in
    step_moves shape lists ps i l.ballot o (advance shape.orderers l (length o.known) wish) before known told
    (advance_keeps shape.orderers i (length o.known) lists ps l wish g h)
