-- A pass of a cluster stays one.
use Rattle.std.proofs.Common.{◌≡◌, ℕ, List, Bool, true, false, None, map, sym, ap, ◌∙◌, subst}
use Rattle.atomic_table.specs.Seated.{TableId}
use Rattle.counted_node.specs.Counted.{node_in}
use Rattle.history_frame.specs.declared.events.Happened.{Happened}
use Rattle.history_frame.specs.declared.inputs.Input.{Input}
use Rattle.log_base.specs.ClusterShape.{Shape}
use Rattle.log_base.specs.declared.machine.Committed.{Committed}
use Rattle.node_model.specs.Legal.{submitted}
use Rattle.node_model.specs.NodeState.{KeptLists}
use Rattle.reply_frame.specs.declared.replies.Reply.{Reply}
use Rattle.tied_cells.specs.declared.mail.Fetched.{Fetched}
use Rattle.tied_cells.specs.declared.mail.Fetched.TheVariants.{Letter as GotLetter, Empty}
use Rattle.tied_cells.specs.Turns.{HoldsNothing}
use Rattle.cluster.specs.Clusters.{AllFit, AreFirst, IsPassOf, PassSeat}
use Rattle.cluster.specs.Events.{Holder, IsBusy, IsEvent, IsGiven, IsIdle, IsSamePass, IsTurn, IsTurnInput, TakesUp}
use Rattle.cluster.specs.Submitting.{MaySubmit, SubmitsAlone}
use Rattle.cluster.proofs.Fitting.{fit_more}
use Rattle.cluster.proofs.Submits.{alone_more, submits_none}

-- what a turn takes submits nothing
takes_none : (fetched : Fetched) (input : Input) → TakesUp fetched input → submitted input ≡ None
takes_none (GotLetter letter) input t = ap submitted t.1
takes_none Empty input t = ap submitted t

pub turn_none : {A : Type 0} (down : Bool) (node : ℕ) (old new : Holder A) (input : Input) → IsTurnInput down node old new input → submitted input ≡ None
turn_none true node old new input h = ap submitted h.1
turn_none false node old new input h = takes_none h.0 input h.2

module _ {A : Type 0} (config : Shape) (run : ℕ) (kept : KeptLists) (table : TableId) (number : ℕ) (old new : PassSeat A)
    (is : IsPassOf config run kept table number old) (same_table : new.table_id ≡ old.table_id) where
  stays_with : HoldsNothing new.me → IsSamePass old.me new.me → SubmitsAlone run number new.me.0.own → AllFit new.me.0.own → IsPassOf config run kept table number new
  stays_with free same submits fit = record {
    table_is = same_table ∙ is.table_is;
    first = subst (AreFirst config kept) (λ i. map node_in (sym same i).deal.starts) is.first;
    number_is = (λ i. (same i).number) ∙ is.number_is;
    free = free;
    submits = submits;
    fit = fit;
  }

  pub pass_idle : HoldsNothing new.me → IsIdle old.me new.me → IsPassOf config run kept table number new
  pass_idle free idle = stays_with free idle.same (subst (SubmitsAlone run number) (sym idle.own) is.submits) (subst AllFit (sym idle.own) is.fit)

  pub pass_same : new.me ≡ old.me → IsPassOf config run kept table number new
  pass_same same = record {
    table_is = same_table ∙ is.table_is;
    first = subst (AreFirst config kept) (λ i. map node_in (sym same i).0.deal.starts) is.first;
    free = subst HoldsNothing (sym same) is.free;
    number_is = (λ i. (same i).0.number) ∙ is.number_is;
    submits = subst (SubmitsAlone run number) (λ i. (sym same i).0.own) is.submits;
    fit = subst AllFit (λ i. (sym same i).0.own) is.fit;
  }

  pub pass_busy : (node : ℕ) → IsBusy node old.me new.me → IsPassOf config run kept table number new
  pass_busy node busy = record {
    table_is = same_table ∙ is.table_is;
    first = subst (AreFirst config kept) (λ i. map node_in (sym busy.2 i).0.deal.starts) is.first;
    free = ((λ i. (busy.2 i).0.turn) ∙ is.free.0, λ i. (busy.2 i).1);
    number_is = (λ i. (busy.2 i).0.number) ∙ is.number_is;
    submits = subst (SubmitsAlone run number) (λ i. (sym busy.2 i).0.own) is.submits;
    fit = subst AllFit (λ i. (sym busy.2 i).0.own) is.fit;
  }

  pub pass_event : (nodes node place lost : ℕ) (es : List (Committed Happened)) (happened : Happened) → IsEvent nodes old.me new.me node place lost es happened
      → MaySubmit run number node old.me.0.own happened.input → IsPassOf config run kept table number new
  pass_event nodes node place lost es happened event may =
      stays_with event.free event.same (subst (SubmitsAlone run number) (sym event.own) (alone_more run number place node old.me.0.own happened is.submits may))
      (subst AllFit (sym event.own) (fit_more place node old.me.0.own happened is.fit event.fits_frame))

  pub pass_turn : (nodes node place lost : ℕ) (held : Holder A) (es : List (Committed Happened)) → IsTurn nodes old.me held new.me node place lost es → IsPassOf config run kept table number new
  pass_turn nodes node place lost held es turn =
      pass_event nodes node place lost es turn.happened turn.event (submits_none run number node old.me.0.own turn.happened.input (turn_none _ node held turn.taken turn.happened.input turn.input))

  pub pass_given : (nodes node place lost : ℕ) (es : List (Committed Happened)) (input : Input) (reply : Reply) → IsGiven nodes old.me new.me node place lost es input reply
      → MaySubmit run number node old.me.0.own input → IsPassOf config run kept table number new
  pass_given nodes node place lost es input reply given may =
      pass_event nodes node place lost es given.happened given.event (subst (MaySubmit run number node old.me.0.own) (sym given.input_is) may)
