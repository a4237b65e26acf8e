-- An event that is offered may come next exactly where its node makes it so.
use Rattle.std.proofs.Common.{◌≡◌, ◌<◌, ℕ, zero, suc, List, [], ◌∷◌, length, slice_get, Some, None, refl, sym, ap, subst, ◌∙◌, inl, inr}
use Rattle.std.proofs.lemmas.Option.{none-some, same_Some}
use Rattle.agreement_law.specs.Elements.{In}
use Rattle.agreement_law.proofs.Elements.{in_left, in_right}
use Rattle.reply_frame.specs.declared.replies.Reply.{Reply}
use Rattle.history_frame.specs.declared.events.Event.{Event}
use Rattle.history_frame.specs.declared.events.Happened.{Happened}
use Rattle.history_frame.specs.declared.events.Sent.{Sent}
use Rattle.history_frame.specs.declared.inputs.Input.{Input}
use Rattle.history_frame.specs.declared.inputs.Input.TheVariants.{Deliver, Call as ACall, Tick, Lead, Stop, Restart}
use Rattle.history_frame.specs.declared.inputs.Mark.{Mark}
use Rattle.log_base.specs.ClusterShape.{Shape}
use Rattle.message_frame.specs.declared.messages.Message.{Message}
use Rattle.node_table.specs.Numbering.{nodes_of, role_at}
use Rattle.node_model.specs.Fits.{Fits, FitsState, IsInput}
use Rattle.node_model.specs.Histories.{IsDelivered, sent_in}
use Rattle.node_model.specs.Legal.{IsLegal, IsNext}
use Rattle.node_model.specs.NodeState.{IsRow, KeptLists, NodeOutcome, NodeState, Storing, Gathering, Ordering, node_after, node_outcome}
use Rattle.node_model.specs.Nodes.{letter}
use Rattle.node_table.specs.declared.role.Role.{Role}
use Rattle.node_table.specs.declared.role.Role.TheVariants.{Storage, Gatherer, Orderer}
use Rattle.safety_law.proofs.Corollaries.{letters_fit}
use Rattle.history_walk.specs.Filling.{IsOffered}
use Rattle.history_walk.specs.Submitting.{MaySubmit}

-- ---- letters

sent_among : (before : List Event) (place : ℕ) (event : Event) (sent : Sent) → slice_get before place ≡ Some event → In sent event.happened.outputs → In sent (sent_in before)
sent_among [] place event sent e i = absurd (none-some event e)
sent_among (first ∷ before) zero event sent e i =
    in_left sent first.happened.outputs (sent_in before) (subst (λ (x : Event). In sent x.happened.outputs) (sym (same_Some first event e)) i)
sent_among (first ∷ before) (suc place) event sent e i = in_right sent first.happened.outputs (sent_in before) (sent_among before place event sent e i)

got_among : {A : Type 0} (xs : List A) (k : ℕ) (x : A) → slice_get xs k ≡ Some x → In x xs
got_among [] k x e = absurd (none-some x e)
got_among (y ∷ ys) zero x e = inl (sym (same_Some y x e))
got_among (y ∷ ys) (suc k) x e = inr (got_among ys k x e)

-- ---- what fits

fits_other : (config : Shape) (role : Role) (state : NodeState) (input : Input) → ((place index : ℕ) (message : Message) → input ≡ Deliver place index (Some message) → ⊥) → FitsState config role state input
fits_other config (Storage shard replica) (Storing node) (Deliver place index (Some message)) other = absurd (other place index message refl)
fits_other config (Storage shard replica) (Storing node) (Deliver place index None) other = tt
fits_other config (Storage shard replica) (Storing node) (ACall call) other = tt
fits_other config (Storage shard replica) (Storing node) Tick other = tt
fits_other config (Storage shard replica) (Storing node) Lead other = tt
fits_other config (Storage shard replica) (Storing node) Stop other = tt
fits_other config (Storage shard replica) (Storing node) Restart other = tt
fits_other config (Storage shard replica) (Gathering node) input other = tt
fits_other config (Storage shard replica) (Ordering node) input other = tt
fits_other config (Gatherer index) state input other = tt
fits_other config (Orderer index) state input other = tt

module _ (config : Shape) (run : ℕ) (kept : KeptLists) (events : List Event) (legal : IsLegal config run kept events) (node : ℕ) where
  abbrev now : NodeState
  now = node_after config kept events node

  pub offered_fits : (input : Input) → IsOffered config node events input → Fits config (role_at config node) now input
  offered_fits (Deliver place index None) offered = absurd offered
  offered_fits (Deliver place index (Some message)) offered =
      letters_fit config run kept events legal node place index message
      (sent_among events place offered.event (letter node message) offered.at (got_among offered.event.happened.outputs index (letter node message) offered.output))
  offered_fits (ACall call) offered = record { allowed = offered; held = fits_other config (role_at config node) now (ACall call) (λ p i m (e : ACall call ≡ Deliver p i (Some m)). cc) }
  offered_fits Tick offered = record { allowed = offered; held = fits_other config (role_at config node) now Tick (λ p i m (e : Tick ≡ Deliver p i (Some m)). cc) }
  offered_fits Lead offered = record { allowed = offered; held = fits_other config (role_at config node) now Lead (λ p i m (e : Lead ≡ Deliver p i (Some m)). cc) }
  offered_fits Stop offered = record { allowed = offered; held = fits_other config (role_at config node) now Stop (λ p i m (e : Stop ≡ Deliver p i (Some m)). cc) }
  offered_fits Restart offered = record { allowed = offered; held = fits_other config (role_at config node) now Restart (λ p i m (e : Restart ≡ Deliver p i (Some m)). cc) }

  delivered : (input : Input) → IsOffered config node events input → IsDelivered events node input
  delivered (Deliver place index message) offered = offered
  delivered (ACall call) offered = tt
  delivered Tick offered = tt
  delivered Lead offered = tt
  delivered Stop offered = tt
  delivered Restart offered = tt

  pub next_offered : (input : Input) → IsInput config (role_at config node) input → IsDelivered events node input → IsOffered config node events input
  next_offered (Deliver place index message) is sent = sent
  next_offered (ACall call) is sent = is
  next_offered Tick is sent = is
  next_offered Lead is sent = is
  next_offered Stop is sent = is
  next_offered Restart is sent = is

-- an event at a node
abbrev pub event_at : ℕ → ℕ → Happened → Event
event_at place node happened = record { place = place; node = record { 0 = node }; happened = happened }

-- what happened, of parts
abbrev pub happened_as : Input → Mark → List Sent → Reply → Happened
happened_as input mark outputs reply = record { input = input; mark = mark; outputs = outputs; reply = reply }

-- The event of a node that took an input.
module _ (config : Shape) (run : ℕ) (kept : KeptLists) (events : List Event) (legal : IsLegal config run kept events) (node : ℕ) (lt : node < nodes_of config)
    (input : Input) (offered : IsOffered config node events input) where
  abbrev state : NodeState
  state = node_after config kept events node

  pub next_is : (happened : Happened) → happened.input ≡ input → MaySubmit run events (event_at (length events) node happened) → IsRow config node state happened
      → IsNext config run kept events (event_at (length events) node happened)
  next_is happened e may row = record {
    place = refl;
    node = lt;
    allowed = subst (IsInput config (role_at config node)) (sym e) (offered_fits config run kept events legal node input offered).allowed;
    row = row;
    delivered = subst (IsDelivered events node) (sym e) (delivered config run kept events legal node input offered);
    of_run = may.0;
    one_node = may.1;
  }

  -- The event is as it was made.
  pub same_follows : (made : Happened) (mark : Mark) (outputs : List Sent) (reply : Reply) → made.input ≡ input → made.mark ≡ mark → made.reply ≡ reply → outputs ≡ made.outputs
      → MaySubmit run events (event_at (length events) node (happened_as input mark outputs reply))
      → IsRow config node state made → IsNext config run kept events (event_at (length events) node (happened_as input mark outputs reply))
  same_follows made mark outputs reply i m r alike may row =
      next_is (happened_as input mark outputs reply) refl may (subst (IsRow config node state) same row)
    where
      same : made ≡ happened_as input mark outputs reply
      same = λ j. record { input = i j; mark = m j; outputs = sym alike j; reply = r j }

  -- It may come next only so.
  pub next_same : (made : Happened) (mark : Mark) (outputs : List Sent) (reply : Reply) → made.input ≡ input
      → ((other : NodeOutcome) → node_outcome config node state input mark ≡ Some other → made.mark ≡ mark) → IsRow config node state made
      → IsNext config run kept events (event_at (length events) node (happened_as input mark outputs reply))
      → (made.mark ≡ mark) × (reply ≡ made.reply) × (outputs ≡ made.outputs)
  next_same made mark outputs reply i marked row next =
      let m = marked next.row.made next.row.rule in
      let same : next.row.made ≡ row.made =
      same_Some next.row.made row.made (sym next.row.rule ∙ (λ j. node_outcome config node state (sym i j) (sym m j)) ∙ row.rule) in
      (m, next.row.reply ∙ ap (λ (o : NodeOutcome). o.reply) same ∙ sym row.reply, next.row.outputs ∙ ap (λ (o : NodeOutcome). o.outputs) same ∙ sym row.outputs)
