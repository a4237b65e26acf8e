-- Every outcome of an event at an orderer keeps what holds: rows, halts, stops and restarts.
use Rattle.std.proofs.Common.{◌≡◌, ◌<◌, ℕ, List, [], Some, sym, subst}
use Rattle.reply_frame.specs.declared.replies.Reply.{Reply, Nothing as Silence, Down, Halted as HaltedReply}
use Rattle.history_frame.specs.declared.inputs.Input.{Input}
use Rattle.history_frame.specs.declared.inputs.Mark.{Mark}
use Rattle.log_base.specs.ClusterShape.{Shape}
use Rattle.message_frame.specs.declared.messages.Vote.{Vote}
use Rattle.paxos_model.specs.Votes.{Payload}
use Rattle.node_model.specs.Marks.{Running, Stopped, flight_of, stopped, to_call}
use Rattle.node_model.specs.OrdererNode.{Change, Mode, Node, Orderer, Outcome, fresh}
use Rattle.node_model.specs.OrdererRow.{orderer_role, outcome, row}
use Rattle.node_model.specs.Turning.{Turned, Ran, Fell, Slept, Stopped_now, Opened, Opened_more}
use Rattle.node_model.proofs.Turning.{for_some_at, turned}
use Rattle.agreement_law.specs.Invariant.{CanPut, Global, IsGoodMode, IsGoodOrderer, lists_of}
use Rattle.agreement_law.proofs.Grows.{Extends, Grow, extends_refl, global_grows, mode_grows, put_extends}
use Rattle.agreement_law.proofs.Moves.{Here, Moves, RowKeeps, same_moves}
use Rattle.agreement_law.proofs.Rows.{IsTrueInput, row_keeps}

-- what an outcome makes: the list grew as it may, and once the lists have it all holds of the node and the letters
pub record Stepped (n : ℕ) (lists : ℕ → List Payload) (ps : List Vote) (i : ℕ) (out : Outcome) : Type 0 where
  pub extends : Extends ps (lists i) out.node.durable
  pub moves : (now : ℕ → List Payload) → Grow ps lists now → now i ≡ out.node.durable → Moves n now ps i out.node.mode out.outputs

-- the list is as it was, and nothing is sent
kept_as : (n : ℕ) (lists : ℕ → List Payload) (ps : List Vote) (i : ℕ) (m : Mode) (reply : Reply) → Global n lists ps → IsGoodMode n lists ps i m
    → Stepped n lists ps i (record { node = record { durable = lists i; mode = m }; outputs = []; reply = reply })
kept_as n lists ps i m reply g h = record {
  extends = extends_refl ps (lists i);
  moves = λ now grow e. same_moves n now ps i m [] (global_grows n ps lists now grow g) (mode_grows n ps lists now grow i e m h) (λ s a. absurd a);
}

fresh_good : (shape : Shape) (n : ℕ) (lists : ℕ → List Payload) (ps : List Vote) (i : ℕ) → IsGoodOrderer n lists ps i (fresh shape)
fresh_good shape n lists ps i = record { chosen = λ k v a. absurd a; leads = tt }

stopped_good : (shape : Shape) (n : ℕ) (lists : ℕ → List Payload) (ps : List Vote) (i : ℕ) (m : Mode) → IsGoodMode n lists ps i m
    → IsGoodMode n lists ps i (stopped (orderer_role shape i) m)
stopped_good shape n lists ps i (Stopped flight known) h = h
stopped_good shape n lists ps i (Running o) h = (tt, h.chosen)

pub flight_can : (n : ℕ) (lists : ℕ → List Payload) (ps : List Vote) (i : ℕ) (m : Mode) → IsGoodMode n lists ps i m → (p : Payload) → flight_of m ≡ Some p → CanPut (lists i) ps (Some p)
flight_can n lists ps i (Stopped flight known) h p e = subst (λ f. CanPut (lists i) ps f) e h.0
flight_can n lists ps i (Running o) h p e = absurd (cc)

module _ (shape : Shape) (node : ℕ → Node) (ps : List Vote) (i : ℕ) (inside : i < shape.orderers) (g : Global shape.orderers (lists_of node) ps)
    (h : IsGoodMode shape.orderers (lists_of node) ps i (node i).mode) (x : Input) (t : IsTrueInput shape.orderers (lists_of node) ps x) where
  here : (o : Orderer) → (node i).mode ≡ Running o → Here shape.orderers (lists_of node) ps i o
  here o m = record { global = g; self = subst (λ mode. IsGoodMode shape.orderers (lists_of node) ps i mode) m h }

  kept : (o : Orderer) (c : Change) → (node i).mode ≡ Running o → row shape i (node i).durable o x ≡ Some c → RowKeeps shape.orderers (lists_of node) ps i c
  kept o c m r = for_some_at (RowKeeps shape.orderers (lists_of node) ps i) (row shape i (node i).durable o x) c
      (row_keeps shape (lists_of node) ps i o inside (here o m) x t) r

  fell : (o : Orderer) (p : Payload) (reply : Reply) → (node i).mode ≡ Running o → CanPut (lists_of node i) ps (Some p)
      → Stepped shape.orderers (lists_of node) ps i (record { node = record { durable = lists_of node i; mode = Stopped (Some p) o.known }; outputs = []; reply = reply })
  fell o p reply m can = kept_as shape.orderers (lists_of node) ps i (Stopped (Some p) o.known) reply g (can, (here o m).self.chosen)

  made_steps : (mark : Mark) (made : Outcome) → Turned (orderer_role shape i) (node i) x mark made → Stepped shape.orderers (lists_of node) ps i made
  made_steps mark made (Ran o c m r done e) =
      subst (Stepped shape.orderers (lists_of node) ps i) (sym e)
      (record {
        extends = put_extends ps (lists_of node i) c.put (kept o c m r).put;
        moves = λ now grow is. (kept o c m r).stored now grow is;
      })
  made_steps mark made (Fell o c p m r put halts e) =
      subst (Stepped shape.orderers (lists_of node) ps i) (sym e)
      (fell o p (to_call x HaltedReply) m (subst (λ q. CanPut (lists_of node i) ps q) put (kept o c m r).put))
  made_steps mark made (Slept flight known m done e) =
      subst (Stepped shape.orderers (lists_of node) ps i) (sym e) (kept_as shape.orderers (lists_of node) ps i (node i).mode (to_call x Down) g h)
  made_steps mark made (Stopped_now e) =
      subst (Stepped shape.orderers (lists_of node) ps i) (sym e)
      (kept_as shape.orderers (lists_of node) ps i (stopped (orderer_role shape i) (node i).mode) Silence g (stopped_good shape shape.orderers (lists_of node) ps i (node i).mode h))
  made_steps mark made (Opened without e) =
      subst (Stepped shape.orderers (lists_of node) ps i) (sym e)
      (kept_as shape.orderers (lists_of node) ps i (Running (fresh shape)) Silence g (fresh_good shape shape.orderers (lists_of node) ps i))
  made_steps mark made (Opened_more p f with_it e) =
      subst (Stepped shape.orderers (lists_of node) ps i) (sym e)
      (record {
        extends = put_extends ps (lists_of node i) (Some p) (flight_can shape.orderers (lists_of node) ps i (node i).mode h p f);
        moves = λ now grow is. same_moves shape.orderers now ps i (Running (fresh shape)) [] (global_grows shape.orderers ps (lists_of node) now grow g) (fresh_good shape shape.orderers now ps i) (λ s a. absurd a);
      })

  pub outcome_steps : (mark : Mark) (made : Outcome) → outcome shape i (node i) x mark ≡ Some made → Stepped shape.orderers (lists_of node) ps i made
  unfolding outcome
  outcome_steps mark made e = made_steps mark made (turned (orderer_role shape i) (node i) x mark made e)
