-- Each outcome of an event at an orderer: what stands after it, and its letters.
use Rattle.std.proofs.Common.{◌≡◌, ◌<◌, ℕ, List, [], ◌∷◌, ◌++◌, Some, None, sym, subst, ⊎_elim, arith}
use Rattle.reply_frame.specs.declared.replies.Reply.{Reply, Nothing as Silence, Halted as HaltedReply}
use Rattle.history_frame.specs.declared.inputs.Input.{Input}
use Rattle.history_frame.specs.declared.inputs.Mark.{Mark}
use Rattle.log_base.specs.ClusterShape.{InRange, Shape}
use Rattle.node_table.specs.declared.role.Role.TheVariants.{Orderer as OrdererRole}
use Rattle.paxos_model.specs.Votes.{Payload}
use Rattle.node_model.specs.Marks.{Running, Stopped, flight_of, stopped, stored_with, to_call}
use Rattle.node_model.specs.OrdererNode.{Change, Mode, Node, Orderer, Outcome, fresh}
use Rattle.node_model.specs.OrdererRow.{orderer_role, outcome, row}
use Rattle.node_model.specs.Turning.{Turned, Ran, Fell, Slept, Stopped_now, Opened, Opened_more}
use Rattle.node_model.proofs.Turning.{for_some_at, turned}
use Rattle.agreement_law.specs.Fine.{IsFineOutcome}
use Rattle.agreement_law.proofs.Elements.{in_append}
use Rattle.agreement_law.proofs.FineStep.{outcome_fine}
use Rattle.safety_law.specs.Fit.{IsOrderer}
use Rattle.safety_law.specs.Letters.{AreGoodLetters}
use Rattle.safety_law.specs.Lists.{IsSafeValue, Lists}
use Rattle.safety_law.specs.Numbers.{AreNumbered, IsNumbered, IsNumberedMode, IsNumberedNode, IsNumberedOrderer, IsNumberedPut}
use Rattle.safety_law.specs.Events.{IsGoodInput}
use Rattle.safety_law.proofs.Numbered.{AreNumberedLetters, as_good, none_numbered}
use Rattle.safety_law.proofs.OrdererRows.{IsNumberedChange, row_numbered}
use Rattle.safety_law.proofs.Raising.{input_fine, noop_safe, nothing_safe}

record IsNumberedOutcome (config : Shape) (made : Outcome) : Type 0 where
  node : IsNumberedNode made.node
  letters : AreNumberedLetters config made.outputs

push_numbered : (list : List Payload) (p : Payload) → AreNumbered list → IsNumbered p → AreNumbered (list ++ p ∷ [])
push_numbered list p g h q a =
    ⊎_elim (λ b. g q b) (λ b. ⊎_elim (λ e. subst IsNumbered (sym e) h) (λ c. absurd c) b) (in_append q list (p ∷ []) a)

stopped_numbered : (config : Shape) (i : ℕ) (m : Mode) → IsNumberedMode m → IsNumberedMode (stopped (orderer_role config i) m)
stopped_numbered config i (Stopped flight known) h = h
stopped_numbered config i (Running o) h = (tt, h.known)

flight_numbered : (m : Mode) → IsNumberedMode m → (p : Payload) → flight_of m ≡ Some p → IsNumbered p
flight_numbered (Stopped flight known) h p e = subst IsNumberedPut e h.0
flight_numbered (Running o) h p e = absurd (cc)

fresh_numbered : (config : Shape) → IsNumberedOrderer (fresh config)
fresh_numbered config = record { known = omega arith; leads = tt }

module _ (config : Shape) (range : InRange config) (lists : Lists) (i : ℕ) (below : i < config.orderers) (node : Node) (h : IsOrderer config lists node)
    (x : Input) (f : IsGoodInput config lists (OrdererRole i) x) where
  still : (list : List Payload) (m : Mode) (reply : Reply) → AreNumbered list → IsNumberedMode m
      → IsNumberedOutcome config (record { node = record { durable = list; mode = m }; outputs = []; reply = reply })
  still list m reply g k = record { node = record { kept = g; mode = k }; letters = none_numbered config }

  running : (o : Orderer) → node.mode ≡ Running o → IsNumberedOrderer o
  running o m = subst IsNumberedMode m h.numbers.mode

  change : (o : Orderer) (c : Change) → node.mode ≡ Running o → row config i node.durable o x ≡ Some c → IsNumberedChange config c
  change o c m r = for_some_at (IsNumberedChange config) (row config i node.durable o x) c (row_numbered config range lists i below node.durable h.numbers.kept o (running o m) x f) r

  stored_numbered : (o : Orderer) (c : Change) → IsNumberedChange config c → AreNumbered (stored_with (orderer_role config i) node.durable c.put)
  stored_numbered o c k = at c.put k.put
    where
      at : (p : _) → IsNumberedPut p → AreNumbered (stored_with (orderer_role config i) node.durable p)
      at None g = h.numbers.kept
      at (Some p) g = push_numbered node.durable p h.numbers.kept g

  made_numbered : (mark : Mark) (made : Outcome) → Turned (orderer_role config i) node x mark made → IsNumberedOutcome config made
  made_numbered mark made (Ran o c m r done e) =
      let k = change o c m r in
      subst (IsNumberedOutcome config) (sym e) (record { node = record { kept = stored_numbered o c k; mode = k.after }; letters = k.letters })
  made_numbered mark made (Fell o c p m r put halts e) =
      subst (IsNumberedOutcome config) (sym e)
      (still node.durable (Stopped (Some p) o.known) (to_call x HaltedReply) h.numbers.kept (subst IsNumberedPut put (change o c m r).put, (running o m).known))
  made_numbered mark made (Slept flight known m done e) =
      subst (IsNumberedOutcome config) (sym e) (record { node = h.numbers; letters = none_numbered config })
  made_numbered mark made (Stopped_now e) =
      subst (IsNumberedOutcome config) (sym e) (still node.durable (stopped (orderer_role config i) node.mode) Silence h.numbers.kept (stopped_numbered config i node.mode h.numbers.mode))
  made_numbered mark made (Opened without e) =
      subst (IsNumberedOutcome config) (sym e) (still node.durable (Running (fresh config)) Silence h.numbers.kept (fresh_numbered config))
  made_numbered mark made (Opened_more p flight with_it e) =
      subst (IsNumberedOutcome config) (sym e)
      (still (node.durable ++ p ∷ []) (Running (fresh config)) Silence (push_numbered node.durable p h.numbers.kept (flight_numbered node.mode h.numbers.mode p flight)) (fresh_numbered config))

  outcome_numbered : (mark : Mark) (made : Outcome) → outcome config i node x mark ≡ Some made → IsNumberedOutcome config made
  unfolding outcome
  outcome_numbered mark made e = made_numbered mark made (turned (orderer_role config i) node x mark made e)

  values_fine : (mark : Mark) (made : Outcome) → outcome config i node x mark ≡ Some made → IsFineOutcome config (IsSafeValue config lists) made
  values_fine mark made e = outcome_fine config (IsSafeValue config lists) (noop_safe config range lists) (nothing_safe config range lists) i node x mark made h.values
      (input_fine config range lists (OrdererRole i) x f) e

  pub orderer_after : (mark : Mark) (made : Outcome) → outcome config i node x mark ≡ Some made → IsOrderer config lists made.node
  orderer_after mark made e = record { values = (values_fine mark made e).node; numbers = (outcome_numbered mark made e).node }

  pub orderer_letters : (mark : Mark) (made : Outcome) → outcome config i node x mark ≡ Some made → AreGoodLetters config lists made.outputs
  orderer_letters mark made e s a =
      let n = (outcome_numbered mark made e).letters s a in
      record { within = n.within; good = as_good config range lists _ s.message n.named n.numbers ((values_fine mark made e).letters s a) }
