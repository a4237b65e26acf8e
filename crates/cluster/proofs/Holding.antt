-- An event under a turn that a pass has.
use Rattle.std.proofs.Common.{◌≡◌, ◌⊎◌, ◌≤◌, ℕ, List, [], Bool, true, false, Option, length, map, slice_get, Some, None, refl, sym, ap, subst, ◌∙◌, arith}
use Rattle.std.specs.Bool.{OnFalse}
use lib.ListN.{length-map}
use Rattle.core_step.specs.Known.{is_down}
use Rattle.counted_node.specs.Counted.{CountedState, counted_meanings}
use Rattle.history_frame.specs.declared.events.Happened.{Happened}
use Rattle.history_frame.specs.declared.inputs.Input.{Input}
use Rattle.log_base.specs.declared.machine.Committed.{Committed}
use Rattle.node_model.specs.Machine.{delivery, node_meanings, posted}
use Rattle.reply_frame.specs.declared.replies.Reply.{Reply}
use Rattle.tied_cells.specs.declared.board.Cell.{Cell}
use Rattle.tied_cells.specs.declared.board.Addressed.{Addressed}
use Rattle.tied_cells.specs.declared.board.Stored.{Stored}
use Rattle.tied_cells.specs.History.{StandsAfter}
use Rattle.tied_cells.specs.Turns.{HasStepped, HasTurn, HoldsNothing, IsLastFetched}
use Rattle.tied_cells.specs.Views.{IsPlaced, grown, let_go, undelivered}
use Rattle.cluster.specs.Posting.{AllGoOut, IsMail}
use Rattle.cluster.specs.Stepping.{Acts}
use Rattle.cluster.specs.Events.{Commits, GivenUnder, HeldAt, Holder, IsGiven, IsTurn, IsTurnInput, TurnsUnder, at_turn, counted_now, node_now}
use Rattle.cluster.proofs.Choosing.{but_fetched}
use Rattle.cluster.proofs.Making.{commits, event_is, step_follows, turn_fetched}

module _ {A : Type 0} where
  pub turn_moves : (old new : Holder A) (node : ℕ) (before after : Cell A Happened) → HasTurn old node before → new ≡ but_fetched old new
      → after.events.items ≡ before.events.items → HasTurn new node after
  turn_moves old new node before after turn only same = (
    (λ i. (only i).0.turn) ∙ (turn.0 ∙ ap (λ (es : List (Committed Happened)). Some (record { node = node; events = es })) (sym same)),
    (λ i. (only i).1) ∙ turn.1,
  )

module _ {A : Type 0} (state : A → CountedState) where
  -- a turn stays in hand
  pub held_moves : (old new : Holder A) (node : ℕ) (before after : Cell A Happened) → HeldAt state old node before → new ≡ but_fetched old new
      → after.events.items ≡ before.events.items → state after.machine ≡ state before.machine → HeldAt state new node after
  held_moves old new node before after h only same stays = record {
    turn = turn_moves old new node before after h.turn only same;
    stands = (
      h.stands.0,
      (λ i. slice_get (only i).0.deal.starts node) ∙ h.stands.1,
      stays ∙ (h.stands.2 ∙ ap (λ es. counted_now h.stands.0 es) (sym same)),
    );
  }

  module _ (held taken : Holder A) (node : ℕ) (before after : Cell A Happened) (at : HeldAt state held node before) (only : taken ≡ but_fetched held taken)
      (same : after.events.items ≡ before.events.items) (mid : A) (was : state mid ≡ state before.machine) (input : Input) (happened : Happened)
      (letters : List (ℕ × List ℕ)) (acts : Acts (state mid) (state after.machine) input happened letters) where
    -- what happened may come next
    pub has_stepped : node_meanings.fits (node_now at.stands.0 before.events.items) input → IsLastFetched node (delivery input) taken.0.fetched
        → (n : ℕ) → n ≡ node → HasStepped state counted_meanings taken.0 n after happened
    has_stepped fits last n here =
        let start = at.stands.0 in
        let there : slice_get taken.0.deal.starts node ≡ Some start = (λ i. slice_get (only i).0.deal.starts node) ∙ at.stands.1 in
        let stands : state mid ≡ counted_now start after.events.items = was ∙ (at.stands.2 ∙ ap (λ (es : List (Committed Happened)). counted_now start es) (sym same)) in
        let fits' : node_meanings.fits (node_now start after.events.items) input = subst (λ (es : List (Committed Happened)). node_meanings.fits (node_now start es) input) (sym same) fits in
        subst (λ (k : ℕ). HasStepped state counted_meanings taken.0 k after happened) (sym here)
        (step_follows taken.0 node after.events.items start (state mid) (state after.machine) input happened letters there stands acts fits' last)

    module _ (done : Holder A) (place : ℕ) (slots : List (ℕ × Stored A Happened)) (is : done ≡ (grown counted_meanings taken.0 place happened, slots)) (n : ℕ) (here : n ≡ node)
        (placed : IsPlaced counted_meanings taken.0.deal.starts (record { node = n; events = after.events.items }) place happened) where
      committed : Commits held done node place before.events.items happened
      committed = commits held taken done node place before.events.items happened slots only is at.turn.0
          (subst (λ (x : ℕ × List (Committed Happened)). IsPlaced counted_meanings taken.0.deal.starts (record { node = x.0; events = x.1 }) place happened) (λ i. (here i, same i)) placed)

      left : done.0.fetched ≡ undelivered (delivery input) taken.0.fetched
      left = (λ i. (is i).0.fetched) ∙ ap (λ (x : Input). undelivered (delivery x) taken.0.fetched) acts.input_is

      -- it is a turn's
      pub turns_under : (down : Bool) → down ≡ is_down (state before.machine).node.state → IsTurnInput down node held taken input → TurnsUnder held done node place before.events.items letters
      turns_under down down_is chosen =
          let asleep : down ≡ is_down (node_now at.stands.0 before.events.items).state = down_is ∙ ap (λ (s : CountedState). is_down s.node.state) at.stands.2 in record {
            happened = happened;
            commits = committed;
            letters_are = acts.letters_are;
            fits_frame = record { few = acts.few; small = acts.size };
            start = at.stands.0;
            starts_so = at.stands.1;
            taken = taken;
            input = subst (λ (x : Bool × Input). IsTurnInput x.0 node held taken x.1) (λ i. (asleep i, sym acts.input_is i)) chosen;
            fetched = subst (λ (f : Option Addressed). (f ≡ None) ⊎ (f ≡ held.0.fetched)) (sym left) (turn_fetched down node held taken input chosen);
          }

      -- it is one of an input that was given
      pub given_under : delivery input ≡ None → taken.0.fetched ≡ held.0.fetched → (reply : Reply) → reply ≡ happened.reply → GivenUnder held done node place before.events.items letters input reply
      given_under quiet kept reply reply_is = record {
        happened = happened;
        commits = committed;
        letters_are = acts.letters_are;
        fits_frame = record { few = acts.few; small = acts.size };
        input_is = acts.input_is;
        reply_is = sym reply_is;
        fetched = left ∙ (ap (λ o. undelivered o taken.0.fetched) quiet ∙ kept);
      }

-- what is left where a pass is not spent
pub left_over : (b : Bool) (P : Type 0) → b ≡ false → OnFalse b P → P
left_over true P e h = absurd (cc)
left_over false P e h = h

-- few outputs are few letters
pub few_letters : (happened : Happened) (letters : List (ℕ × List ℕ)) → letters ≡ map posted happened.outputs → length happened.outputs ≤ 255 → length letters ≤ 255
few_letters happened letters is few =
    let same : length letters ≡ length happened.outputs = ap (length {A = ℕ × List ℕ}) is ∙ length-map happened.outputs posted in omega arith

module _ {A : Type 0} where
  -- the turn was given back and the letters went out
  pub turn_done : (nodes : ℕ) (held done new : Holder A) (node place lost : ℕ) (es : List (Committed Happened)) (letters : List (ℕ × List ℕ)) → TurnsUnder held done node place es letters
      → AllGoOut nodes place 0 letters (let_go done.0, []) new lost → IsMail (let_go done.0, []) new → IsTurn nodes held held new node place lost es
  turn_done nodes held done new node place lost es letters t out mail = record {
    happened = t.happened;
    event = event_is nodes held done (let_go done.0, []) new node place lost es t.happened letters t.commits refl t.letters_are t.fits_frame out mail;
    start = t.start;
    starts_so = t.starts_so;
    taken = t.taken;
    input = t.input;
    fetched = subst (λ (f : Option Addressed). (f ≡ None) ⊎ (f ≡ held.0.fetched)) (λ i. (sym mail i).0.fetched) t.fetched;
  }

  pub given_done : (nodes : ℕ) (held done new : Holder A) (node place lost : ℕ) (es : List (Committed Happened)) (letters : List (ℕ × List ℕ)) (input : Input) (reply : Reply)
      → GivenUnder held done node place es letters input reply → AllGoOut nodes place 0 letters (let_go done.0, []) new lost → IsMail (let_go done.0, []) new
      → IsGiven nodes held new node place lost es input reply
  given_done nodes held done new node place lost es letters input reply t out mail = record {
    happened = t.happened;
    event = event_is nodes held done (let_go done.0, []) new node place lost es t.happened letters t.commits refl t.letters_are t.fits_frame out mail;
    input_is = t.input_is;
    reply_is = t.reply_is;
    fetched = (λ i. (mail i).0.fetched) ∙ t.fetched;
  }

  -- a turn that was given back is in hand no more
  pub nothing_held : (done new : Holder A) → new ≡ (let_go done.0, []) → HoldsNothing new
  nothing_held done new h = (λ i. (h i).0.turn, λ i. (h i).1)

module _ {A : Type 0} (state : A → CountedState) where
  -- a turn that was taken
  pub held_at : (old me : Holder A) (node : ℕ) (cell : Cell A Happened) → me ≡ at_turn old node cell.events.items
      → StandsAfter state counted_meanings old.0.deal.starts node cell.machine cell.events.items → HeldAt state me node cell
  held_at old me node cell e stands = record {
    turn = ((λ i. (e i).0.turn), (λ i. (e i).1));
    stands = (stands.0, (λ i. slice_get (e i).0.deal.starts node) ∙ stands.1, stands.2);
  }
