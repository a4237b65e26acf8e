-- Each outcome of an event keeps values fine, from any start.
use Rattle.std.proofs.Common.{◌≡◌, ◌*◌, ℕ, List, [], ◌∷◌, ◌++◌, Option, Some, None, sym, ap, subst, ⊎_elim}
use Rattle.reply_frame.specs.declared.replies.Reply.{Reply, Nothing as Silence, Halted as HaltedReply}
use Rattle.history_frame.specs.declared.inputs.Input.{Input}
use Rattle.history_frame.specs.declared.inputs.Mark.{Mark}
use Rattle.log_base.specs.ClusterShape.{Shape}
use Rattle.message_frame.specs.declared.messages.Vote.{Vote}
use Rattle.record_frame.specs.declared.values.Value.{Value}
use Rattle.record_frame.specs.declared.values.Value.TheVariants.{Cut, Noop}
use Rattle.paxos_model.specs.Learner.{nothing_heard}
use Rattle.paxos_model.specs.Votes.{Payload, Promise, Voted, votes}
use Rattle.node_model.specs.Marks.{Running, Stopped, flight_of, stopped, to_call}
use Rattle.node_model.specs.OrdererNode.{Change, Mode, Node, Orderer, Outcome, fresh, with_put}
use Rattle.node_model.specs.OrdererRow.{orderer_role, outcome, row}
use Rattle.node_model.specs.Turning.{Turned, Ran, Fell, Slept, Stopped_now, Opened, Opened_more}
use Rattle.node_model.proofs.Turning.{for_some_at, turned}
use Rattle.agreement_law.specs.Elements.{In}
use Rattle.agreement_law.specs.Fine.{AreFineVotes, IsFineInput, IsFineMode, IsFineNode, IsFineOrderer, IsFineOutcome, IsFinePayload}
use Rattle.agreement_law.proofs.Elements.{in_append}
use Rattle.agreement_law.proofs.Fine.{IsFineChange, no_letters, row_fine}
use Rattle.agreement_law.proofs.Greatest.{votes-push}

module _ (shape : Shape) (F : Value → Type 0) (noop : F Noop) (silent : F (Cut (nothing_heard (shape.shards * shape.replicas)))) where
  put_fine : (list : List Payload) (p : Option Payload) → AreFineVotes F (votes list) → IsFinePayload F p → AreFineVotes F (votes (with_put list p))
  put_fine list None g h = g
  put_fine list (Some (Promise b)) g h = λ x a.
      ⊎_elim (λ c. g x c) (λ c. absurd c) (in_append x (votes list) [] (subst (λ vs. In x vs) (votes-push list (Promise b)) a))
  put_fine list (Some (Voted v)) g h = λ x a.
      ⊎_elim (λ c. g x c) (λ c. ⊎_elim (λ e. subst F (sym (ap (λ (w : Vote). w.value) e)) h) (λ d. absurd d) c)
      (in_append x (votes list) (v ∷ []) (subst (λ vs. In x vs) (votes-push list (Voted v)) a))

  still_fine : (list : List Payload) (m : Mode) (reply : Reply) → AreFineVotes F (votes list) → IsFineMode F m
      → IsFineOutcome shape F (record { node = record { durable = list; mode = m }; outputs = []; reply = reply })
  still_fine list m reply g h = record { node = record { kept = g; mode = h }; letters = no_letters shape F }

  fresh_fine : IsFineOrderer F (fresh shape)
  fresh_fine = record { knows = λ v a. absurd a; hears = silent; wants = λ w a. absurd a; leads = tt }

  stopped_fine : (i : ℕ) (m : Mode) → IsFineMode F m → IsFineMode F (stopped (orderer_role shape i) m)
  stopped_fine i (Stopped flight known) h = h
  stopped_fine i (Running o) h = (tt, h.knows)

  flight_fine : (m : Mode) → IsFineMode F m → (p : Payload) → flight_of m ≡ Some p → IsFinePayload F (Some p)
  flight_fine (Stopped flight known) h p e = subst (λ f. IsFinePayload F f) e h.0
  flight_fine (Running o) h p e = absurd (cc)

  module _ (i : ℕ) (node : Node) (h : IsFineNode F node) (x : Input) (f : IsFineInput shape F x) where
    running : (o : Orderer) → node.mode ≡ Running o → IsFineOrderer F o
    running o m = subst (λ mode. IsFineMode F mode) m h.mode

    kept : (o : Orderer) (c : Change) → node.mode ≡ Running o → row shape i node.durable o x ≡ Some c → IsFineChange shape F c
    kept o c m r = for_some_at (IsFineChange shape F) (row shape i node.durable o x) c (row_fine shape F noop i node.durable o h.kept (running o m) x f) r

    made_fine : (mark : Mark) (made : Outcome) → Turned (orderer_role shape i) node x mark made → IsFineOutcome shape F made
    made_fine mark made (Ran o c m r done e) =
        let k = kept o c m r in
        subst (IsFineOutcome shape F) (sym e) (record { node = record { kept = put_fine node.durable c.put h.kept k.put; mode = k.after }; letters = k.letters })
    made_fine mark made (Fell o c p m r put halts e) =
        subst (IsFineOutcome shape F) (sym e)
        (still_fine node.durable (Stopped (Some p) o.known) (to_call x HaltedReply) h.kept (subst (λ q. IsFinePayload F q) put (kept o c m r).put, (running o m).knows))
    made_fine mark made (Slept flight known m done e) =
        subst (IsFineOutcome shape F) (sym e) (record { node = h; letters = no_letters shape F })
    made_fine mark made (Stopped_now e) =
        subst (IsFineOutcome shape F) (sym e) (still_fine node.durable (stopped (orderer_role shape i) node.mode) Silence h.kept (stopped_fine i node.mode h.mode))
    made_fine mark made (Opened without e) =
        subst (IsFineOutcome shape F) (sym e) (still_fine node.durable (Running (fresh shape)) Silence h.kept fresh_fine)
    made_fine mark made (Opened_more p flight with_it e) =
        subst (IsFineOutcome shape F) (sym e)
        (still_fine (node.durable ++ p ∷ []) (Running (fresh shape)) Silence (put_fine node.durable (Some p) h.kept (flight_fine node.mode h.mode p flight)) fresh_fine)

  pub outcome_fine : (i : ℕ) (node : Node) (x : Input) (mark : Mark) (made : Outcome) → IsFineNode F node → IsFineInput shape F x
      → outcome shape i node x mark ≡ Some made → IsFineOutcome shape F made
  unfolding outcome
  outcome_fine i node x mark made h f e = made_fine i node h x f mark made (turned (orderer_role shape i) node x mark made e)
