-- What happens in a legal history has a spelling.
use Rattle.std.proofs.Common.{◌≤◌, ℕ, List, [], ◌∷◌, ◌++◌, length, sym, subst, arith}
use Rattle.std.specs.List.{AllByRecursion}
use Rattle.reply_frame.specs.Replies.{IsNodeAnswer}
use Rattle.history_frame.specs.declared.events.Event.{Event}
use Rattle.history_frame.specs.declared.events.Sent.{Sent}
use Rattle.history_frame.specs.declared.inputs.Call.TheVariants.{Submit, Ask, Read, Request, Settled}
use Rattle.history_frame.specs.declared.inputs.Input.{Input}
use Rattle.history_frame.specs.declared.inputs.Input.TheVariants.{Deliver, Call as ACall, Tick, Lead, Stop, Restart}
use Rattle.history_frame.specs.Spelling.{IsEvent, IsHappened, IsInput as IsSpelledInput, IsSent as IsSpelledSent, event_size}
use Rattle.log_base.specs.ClusterShape.{Shape}
use Rattle.node_model.specs.Fits.{HasRange}
use Rattle.node_model.specs.Histories.{sent_in}
use Rattle.node_model.specs.Legal.{AreNext, IsLegal, IsNext}
use Rattle.node_model.specs.NodeState.{KeptLists, node_after}
use Rattle.node_model.proofs.Following.{grown}
use Rattle.agreement_law.specs.Elements.{In}
use Rattle.agreement_law.proofs.Bridge.{sent_in-push}
use Rattle.agreement_law.proofs.Elements.{in_right}
use Rattle.safety_law.proofs.History.{event_fits, history_fits}
use Rattle.safety_law.proofs.Reported.{all_of}
use Rattle.answer_law.specs.Frames.{FitsFrame}
use Rattle.answer_law.proofs.Answering.{answer_is_reply}
use Rattle.answer_law.proofs.NodeAnswers.{row_answers}

-- the range of an input is enough for its spelling
input_spelled : (config : Shape) (input : Input) → HasRange config input → IsSpelledInput input
input_spelled config (Deliver place index message) h = tt
input_spelled config (ACall (Submit client number bytes)) h = h.size
input_spelled config (ACall (Ask client number)) h = tt
input_spelled config (ACall (Read client position)) h = tt
input_spelled config (ACall (Request client value)) h = h.1
input_spelled config (ACall (Settled client value from)) h = h
input_spelled config Tick h = tt
input_spelled config Lead h = tt
input_spelled config Stop h = tt
input_spelled config Restart h = tt

module _ (config : Shape) (run : ℕ) (kept : KeptLists) (events : List Event) (legal : IsLegal config run kept events) where
  -- the reply of a next event is one that a node gives
  pub next_answers : (event : Event) → IsNext config run kept events event → IsNodeAnswer event.happened.reply
  next_answers event next =
      row_answers config legal.config_in_range (node_after config kept events) (sent_in events) (history_fits config run kept events legal)
      event.node.0 next.node event.happened next.row

  -- the messages of a next event are in range
  pub next_letters : (event : Event) → IsNext config run kept events event → AllByRecursion IsSpelledSent event.happened.outputs
  next_letters event next =
      let fit = event_fits config kept legal.config_in_range run events event (history_fits config run kept events legal) next in
      all_of IsSpelledSent event.happened.outputs
      (λ (s : Sent) among. (fit.letters s (subst (λ (l : List Sent). In s l) (sym (sent_in-push events event)) (in_right s (sent_in events) event.happened.outputs among))).good.range)

  -- what happened in a next event has a spelling
  pub next_is_spelled : (event : Event) → IsNext config run kept events event → length event.happened.outputs ≤ 255 → event_size event.happened ≤ 2097152
      → IsHappened event.happened
  next_is_spelled event next few size = record {
    input = input_spelled config event.happened.input next.allowed.range;
    few = few;
    outputs = next_letters event next;
    reply = answer_is_reply event.happened.reply (next_answers event next);
    size = omega (arith, size);
  }

-- so has each event of a legal history, where each fits a frame
module _ (config : Shape) (run : ℕ) (kept : KeptLists) where
  follow_spelled : (before events : List Event) → IsLegal config run kept before → AreNext config run kept before events
      → AllByRecursion (λ (event : Event). FitsFrame event.happened) events → AllByRecursion IsEvent events
  follow_spelled before [] legal next fit = tt
  follow_spelled before (event ∷ events) legal next fit = (
    next_is_spelled config run kept before legal event next.0 fit.0.few fit.0.small,
    follow_spelled (before ++ event ∷ []) events
        (record { config_in_range = legal.config_in_range; sound = legal.sound; follow = grown config run kept [] before event legal.follow next.0 })
        next.1 fit.1,
  )

  pub events_spelled : (events : List Event) → IsLegal config run kept events → AllByRecursion (λ (event : Event). FitsFrame event.happened) events → AllByRecursion IsEvent events
  events_spelled events legal fit =
      follow_spelled [] events (record { config_in_range = legal.config_in_range; sound = legal.sound; follow = tt }) legal.follow fit
