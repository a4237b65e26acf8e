-- From the steps of a call to its event.
use Rattle.std.proofs.Common.{◌≡◌, ◌⊎◌, ℕ, List, [], ◌∷◌, ◌++◌, Bool, true, false, map, slice_get, Some, None, refl, sym, ap, subst, ◌∙◌, inl, inr, ⊎_elim}
use Rattle.answer_law.specs.Frames.{FitsFrame}
use Rattle.core_step.specs.Known.{is_down}
use Rattle.counted_node.specs.Counted.{CountedState, counted_meanings}
use Rattle.history_frame.specs.declared.inputs.Input.{Input}
use Rattle.history_frame.specs.declared.events.Happened.{Happened}
use Rattle.log_base.specs.declared.machine.Committed.{Committed}
use Rattle.log_base.proofs.Legal.{last_place}
use Rattle.node_model.specs.Machine.{delivery, node_meanings, posted}
use Rattle.reply_frame.specs.declared.replies.Reply.{Reply}
use Rattle.tied_cells.specs.declared.board.Stored.TheVariants.{Nothing}
use Rattle.tied_cells.specs.declared.mail.Fetched.{Fetched}
use Rattle.tied_cells.specs.declared.mail.Fetched.TheVariants.{Letter as GotLetter, Empty}
use Rattle.tied_cells.specs.Boxes.{Fetches}
use Rattle.tied_cells.specs.Turns.{IsLastFetched, Steps}
use Rattle.tied_cells.specs.Views.{IsPlaced, grown, holding, let_go, turn_node, undelivered}
use Rattle.cluster.specs.Clusters.{PassView}
use Rattle.cluster.specs.Posting.{AllGoOut, HasOutputs, IsMail}
use Rattle.cluster.specs.Stepping.{Acts}
use Rattle.cluster.specs.Events.{Commits, Holder, IsEvent, IsGiven, IsIdle, IsSamePass, IsTurn, IsTurnInput, TakesUp, at_turn, but_work, counted_now, node_now, own_event}
use Rattle.cluster.proofs.Choosing.{but_fetched, delivers_told}

-- what happened may come next at the node
pub step_follows : (view : PassView) (node : ℕ) (es : List (Committed Happened)) (start old new : CountedState) (input : Input) (happened : Happened) (letters : List (ℕ × List ℕ))
    → slice_get view.deal.starts node ≡ Some start → old ≡ counted_now start es → Acts old new input happened letters → node_meanings.fits (node_now start es) input
    → IsLastFetched node (delivery input) view.fetched
    → (steps : Steps counted_meanings view (record { node = node; events = es }) happened) × (new ≡ counted_meanings.after (counted_now steps.start es) happened)
step_follows view node es start old new input happened letters there stands acts fits last = (
  record {
    start = start;
    starts_so = there;
    fits = subst (node_meanings.fits (node_now start es)) (sym acts.input_is) fits;
    row = subst (λ (s : CountedState). counted_meanings.is_row s happened) stands acts.row;
    delivered = subst (λ (x : Input). IsLastFetched node (delivery x) view.fetched) (sym acts.input_is) last;
  },
  acts.after ∙ ap (λ (s : CountedState). counted_meanings.after s happened) stands,
)

module _ {A : Type 0} where
  pub same_more : (old between new : Holder A) → IsSamePass old between → IsSamePass between new → IsSamePass old new
  same_more old between new first second = second ∙ ap (λ (v : PassView). but_work v new.0) first

  -- a pass has the turn
  pub held_same : (old held : Holder A) (node : ℕ) (es : List (Committed Happened)) → held ≡ (holding old.0 node es, (node, Nothing) ∷ []) → IsSamePass old held
  held_same old held node es h = subst (λ (x : Holder A). x.0 ≡ but_work old.0 x.0) (sym h) refl

  pub let_go_same : (old new : Holder A) → new ≡ (let_go old.0, []) → IsSamePass old new
  let_go_same old new h = subst (λ (x : Holder A). x.0 ≡ but_work old.0 x.0) (sym h) refl

  pub mail_same : (old new : Holder A) → IsMail old new → IsSamePass old new
  mail_same old new h = (λ i. (h i).0) ∙ (λ i. but_work old.0 (sym h i).0)

  pub fetched_same : (old new : Holder A) → new ≡ but_fetched old new → IsSamePass old new
  fetched_same old new h = (λ i. (h i).0) ∙ (λ i. but_work old.0 (sym h i).0)

  pub grown_same : (old new : Holder A) (place : ℕ) (happened : Happened) (slots : List _) → new ≡ (grown counted_meanings old.0 place happened, slots) → IsSamePass old new
  grown_same old new place happened slots h = subst (λ (x : Holder A). x.0 ≡ but_work old.0 x.0) (sym h) refl

  -- the event got its place
  pub commits : (held taken done : Holder A) (node place : ℕ) (es : List (Committed Happened)) (happened : Happened) (slots : List _) → taken ≡ but_fetched held taken
      → done ≡ (grown counted_meanings taken.0 place happened, slots) → held.0.turn ≡ Some (record { node = node; events = es })
      → IsPlaced counted_meanings taken.0.deal.starts (record { node = node; events = es }) place happened → Commits held done node place es happened
  commits held taken done node place es happened slots only is has placed = record {
    same = same_more held taken done (fetched_same held taken only) (grown_same taken done place happened slots is);
    own = (λ i. (is i).0.own) ∙ (λ i. (only i).0.own ++ own_event place (turn_node (only i).0.turn) happened ∷ [])
        ∙ ap (λ o. held.0.own ++ own_event place (turn_node o) happened ∷ []) has;
    posted_are = (λ i. (is i).0.posted) ∙ (λ i. (only i).0.posted);
    placed = subst (λ starts. IsPlaced counted_meanings starts (record { node = node; events = es }) place happened) (λ i. (only i).0.deal.starts) placed;
  }

  -- its outputs are the pass's
  pub has_outputs : (old new : Holder A) (node place : ℕ) (es : List (Committed Happened)) (happened : Happened) (letters : List (ℕ × List ℕ)) → Commits old new node place es happened
      → letters ≡ map posted happened.outputs → HasOutputs counted_meanings new.0 place letters
  has_outputs old new node place es happened letters c is =
      let last = last_place old.0.own (own_event place node happened) in
      (last.0, own_event place node happened, ap (λ own. slice_get own last.0) c.own ∙ last.1, refl, sym is)

  -- the turn was given back and the letters went out
  pub event_is : (nodes : ℕ) (held done after new : Holder A) (node place lost : ℕ) (es : List (Committed Happened)) (happened : Happened) (letters : List (ℕ × List ℕ))
      → Commits held done node place es happened → after ≡ (let_go done.0, []) → letters ≡ map posted happened.outputs → FitsFrame happened → AllGoOut nodes place 0 letters after new lost → IsMail after new
      → IsEvent nodes held new node place lost es happened
  event_is nodes held done after new node place lost es happened letters c gone is fits_frame out mail = record {
    same = same_more held done new c.same (same_more done after new (let_go_same done after gone) (mail_same after new mail));
    own = (λ i. (mail i).0.own) ∙ ((λ i. (gone i).0.own) ∙ c.own);
    placed = c.placed;
    fits_frame = fits_frame;
    free = ((λ i. (mail i).0.turn) ∙ (λ i. (gone i).0.turn), (λ i. (mail i).1) ∙ (λ i. (gone i).1));
    committed = after;
    posted_are = (λ i. (gone i).0.posted) ∙ c.posted_are;
    go_out = subst (λ (l : List (ℕ × List ℕ)). AllGoOut nodes place 0 l after new lost) is out;
  }

  -- the event with the turn is one of the pass before it
  pub event_from : (nodes : ℕ) (old held new : Holder A) (node place lost : ℕ) (es : List (Committed Happened)) (happened : Happened)
      → held ≡ at_turn old node es → IsEvent nodes held new node place lost es happened → IsEvent nodes old new node place lost es happened
  event_from nodes old held new node place lost es happened h e = record {
    same = same_more old held new (held_same old held node es h) e.same;
    own = e.own ∙ (λ i. (h i).0.own ++ own_event place node happened ∷ []);
    placed = subst (λ starts. IsPlaced counted_meanings starts (record { node = node; events = es }) place happened) (λ i. (h i).0.deal.starts) e.placed;
    fits_frame = e.fits_frame;
    free = e.free;
    committed = e.committed;
    posted_are = e.posted_are ∙ (λ i. (h i).0.posted);
    go_out = e.go_out;
  }

  pub turn_from : (nodes : ℕ) (old held new : Holder A) (node place lost : ℕ) (es : List (Committed Happened)) → held ≡ at_turn old node es
      → IsTurn nodes held held new node place lost es → IsTurn nodes old (at_turn old node es) new node place lost es
  turn_from nodes old held new node place lost es h t = record {
    happened = t.happened;
    event = event_from nodes old held new node place lost es t.happened h t.event;
    start = t.start;
    starts_so = (λ i. slice_get (sym h i).0.deal.starts node) ∙ t.starts_so;
    taken = t.taken;
    input = subst (λ (x : Holder A). IsTurnInput (is_down (node_now t.start es).state) node x t.taken t.happened.input) h t.input;
    fetched = ⊎_elim (λ (e : new.0.fetched ≡ None). inl e) (λ (e : new.0.fetched ≡ held.0.fetched). inr (e ∙ (λ i. (h i).0.fetched))) t.fetched;
  }

  pub given_from : (nodes : ℕ) (old held new : Holder A) (node place lost : ℕ) (es : List (Committed Happened)) (input : Input) (reply : Reply) → held ≡ at_turn old node es
      → IsGiven nodes held new node place lost es input reply → IsGiven nodes old new node place lost es input reply
  given_from nodes old held new node place lost es input reply h t = record {
    happened = t.happened;
    event = event_from nodes old held new node place lost es t.happened h t.event;
    input_is = t.input_is;
    reply_is = t.reply_is;
    fetched = t.fetched ∙ (λ i. (h i).0.fetched);
  }

  -- a turn was given back
  pub idle_after : (held taken after : Holder A) → IsIdle held taken → after ≡ (let_go taken.0, []) → IsIdle held after
  idle_after held taken after idle gone = record {
    same = same_more held taken after idle.same (let_go_same taken after gone);
    own = (λ i. (gone i).0.own) ∙ idle.own;
    posted_are = (λ i. (gone i).0.posted) ∙ idle.posted_are;
  }

  pub idle_from : (old held after : Holder A) (node : ℕ) (es : List (Committed Happened)) → held ≡ at_turn old node es → IsIdle held after → IsIdle old after
  idle_from old held after node es h idle = record {
    same = same_more old held after (held_same old held node es h) idle.same;
    own = idle.own ∙ (λ i. (h i).0.own);
    posted_are = idle.posted_are ∙ (λ i. (h i).0.posted);
  }

  pub idle_none : (old new : Holder A) → new ≡ old → IsIdle old new
  idle_none old new h = record { same = subst (λ (x : Holder A). x.0 ≡ but_work old.0 x.0) (sym h) refl; own = λ i. (h i).0.own; posted_are = λ i. (h i).0.posted }

  pub fetched_idle : (old new : Holder A) → new ≡ but_fetched old new → IsIdle old new
  fetched_idle old new h = record { same = fetched_same old new h; own = λ i. (h i).0.own; posted_are = λ i. (h i).0.posted }

  -- after a turn no letter is left that was fetched in it
  pub turn_fetched : (down : Bool) (node : ℕ) (old new : Holder A) (input : Input) → IsTurnInput down node old new input
      → (undelivered (delivery input) new.0.fetched ≡ None) ⊎ (undelivered (delivery input) new.0.fetched ≡ old.0.fetched)
  turn_fetched true node old new input h = inr (ap (λ x. undelivered (delivery x) new.0.fetched) h.1 ∙ (λ i. (h.0 i).0.fetched))
  turn_fetched false node old new input h = taken h.0 h.1 h.2
    where
      taken : (fetched : Fetched) → Fetches counted_meanings node old new fetched → TakesUp fetched input
          → (undelivered (delivery input) new.0.fetched ≡ None) ⊎ (undelivered (delivery input) new.0.fetched ≡ old.0.fetched)
      taken (GotLetter letter) f t = inl (ap (λ o. undelivered o new.0.fetched) (delivers_told letter input t))
      taken Empty f t = inr (ap (λ x. undelivered (delivery x) new.0.fetched) t ∙ (λ i. (f.2 i).0.fetched))
