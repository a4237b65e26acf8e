-- What nodes answer: never a stream nor what only a run answers, and an entry that is found is not too long.
use Rattle.std.proofs.Common.{◌≡◌, Some, sym, subst}
use Rattle.reply_frame.specs.declared.replies.Reply.{Reply, Found as FoundAt, Halted as HaltedReply, Down, Stream'}
use Rattle.reply_frame.specs.Replies.{IsNodeAnswer, IsReply}
use Rattle.history_frame.specs.declared.inputs.Input.{Input}
use Rattle.history_frame.specs.declared.inputs.Input.TheVariants.{Deliver, Call as ACall, Tick, Lead, Stop, Restart}
use Rattle.history_frame.specs.declared.inputs.Mark.{Mark}
use Rattle.node_model.specs.Marks.{ChangeOf, NodeOf, OutcomeOf, RoleOf, to_call}
use Rattle.node_model.specs.Turning.{Turned, Ran, Fell, Slept, Stopped_now, Opened, Opened_more}

-- a call that is answered so, or another input
pub to_call_answer : (input : Input) (reply : Reply) → IsNodeAnswer reply → IsNodeAnswer (to_call input reply)
to_call_answer (ACall call) reply h = h
to_call_answer (Deliver place index message) reply h = tt
to_call_answer Tick reply h = tt
to_call_answer Lead reply h = tt
to_call_answer Stop reply h = tt
to_call_answer Restart reply h = tt

abbrev pub OfAnswer : {P M : Type 0} → ChangeOf P M → Type 0
OfAnswer change = IsNodeAnswer change.reply

-- an event answers what its row does, or that the node is down or halted
module _ {D P K M : Type 0} (role : RoleOf D P K M) (node : NodeOf D P K M) (input : Input) where
  pub turn_answers : ((memory : M) (change : ChangeOf P M) → role.row node.durable memory input ≡ Some change → OfAnswer change)
      → (mark : Mark) (made : OutcomeOf D P K M) → Turned role node input mark made → IsNodeAnswer made.reply
  turn_answers rows mark made (Ran memory change m r done e) = subst (λ (o : OutcomeOf D P K M). IsNodeAnswer o.reply) (sym e) (rows memory change r)
  turn_answers rows mark made (Fell memory change put m r p halts e) = subst (λ (o : OutcomeOf D P K M). IsNodeAnswer o.reply) (sym e) (to_call_answer input HaltedReply tt)
  turn_answers rows mark made (Slept flight known m done e) = subst (λ (o : OutcomeOf D P K M). IsNodeAnswer o.reply) (sym e) (to_call_answer input Down tt)
  turn_answers rows mark made (Stopped_now e) = subst (λ (o : OutcomeOf D P K M). IsNodeAnswer o.reply) (sym e) tt
  turn_answers rows mark made (Opened without e) = subst (λ (o : OutcomeOf D P K M). IsNodeAnswer o.reply) (sym e) tt
  turn_answers rows mark made (Opened_more put f more e) = subst (λ (o : OutcomeOf D P K M). IsNodeAnswer o.reply) (sym e) tt

-- an answer is a reply
pub answer_is_reply : (reply : Reply) → IsNodeAnswer reply → IsReply reply
answer_is_reply (FoundAt position entry) h = h
answer_is_reply (Stream' from entries at last) h = absurd h
answer_is_reply _ h = tt
