-- Every outcome of an event is one of the ways in which events turn out.
use Rattle.std.proofs.Common.{◌≡◌, Bool, true, false, cond, Option, Some, None, refl, subst}
use Rattle.history_frame.specs.declared.inputs.Input.{Input}
use Rattle.history_frame.specs.declared.inputs.Input.TheVariants.{Deliver, Call as ACall, Tick, Lead, Stop, Restart}
use Rattle.history_frame.specs.declared.inputs.Mark.{Mark}
use Rattle.history_frame.specs.declared.inputs.Mark.TheVariants.{Done, Halted, OpenedWithout, OpenedWith, StayedDown}
use Rattle.reply_frame.specs.declared.replies.Reply.{Down}
use Rattle.node_model.specs.Marks.{ChangeOf, Mode, NodeOf, OutcomeOf, RoleOf, Running, Stopped, as_stopped, down_made, flight_of, halted, is_named, made_by, opened_with, restarted, row_made, silent, stop_made, to_call, usual_made}
use Rattle.node_model.specs.Turning.{Turned, Ran, Fell, Slept, Stopped_now, Opened, Opened_more}

-- what holds of a value that may be missing
abbrev pub ForSome : {A : Type 0} → (A → Type 0) → Option A → Type 0
ForSome P None = Unit {0}
ForSome P (Some x) = P x

pub for_some_at : {A : Type 0} (P : A → Type 0) (o : Option A) (x : A) → ForSome P o → o ≡ Some x → P x
for_some_at P o x h e = subst (λ q. ForSome P q) e h

module _ {D P K M : Type 0} (role : RoleOf D P K M) (node : NodeOf D P K M) (input : Input) where
  halted_turns : (memory : M) (change : ChangeOf P M) → node.mode ≡ Running memory → role.row node.durable memory input ≡ Some change
      → (put : Option P) → change.put ≡ put → ForSome (Turned role node input Halted) (halted role node.durable memory input put)
  halted_turns memory change m r None e = tt
  halted_turns memory change m r (Some put) e = Fell memory change put m r e refl refl

  row_turns : (memory : M) → node.mode ≡ Running memory → (row : Option (ChangeOf P M)) → role.row node.durable memory input ≡ row
      → (mark : Mark) → ForSome (Turned role node input mark) (row_made role node.durable memory input row mark)
  row_turns memory m None r mark = tt
  row_turns memory m (Some change) r Done = Ran memory change m r refl refl
  row_turns memory m (Some change) r Halted = halted_turns memory change m r change.put refl
  row_turns memory m (Some change) r OpenedWithout = tt
  row_turns memory m (Some change) r OpenedWith = tt
  row_turns memory m (Some change) r StayedDown = tt

  perhaps_slept : {flight : Option P} {known : K} → node.mode ≡ Stopped flight known → (named : Bool)
      → ForSome (Turned role node input Done) (cond named (Some (silent node (to_call input Down))) None)
  perhaps_slept {flight} {known} m true = Slept flight known m refl refl
  perhaps_slept m false = tt

  down_turns : {flight : Option P} {known : K} → node.mode ≡ Stopped flight known → (mark : Mark)
      → ForSome (Turned role node input mark) (down_made role node input mark)
  down_turns m Done = perhaps_slept m (is_named role.names input)
  down_turns m Halted = tt
  down_turns m OpenedWithout = tt
  down_turns m OpenedWith = tt
  down_turns m StayedDown = tt

  usual_turns : (mode : Mode P K M) → node.mode ≡ mode → (mark : Mark) → ForSome (Turned role node input mark) (usual_made role node mode input mark)
  usual_turns (Stopped flight known) m mark = down_turns m mark
  usual_turns (Running memory) m mark = row_turns memory m (role.row node.durable memory input) refl mark

  stop_turns : (mark : Mark) → ForSome (Turned role node input mark) (stop_made role node mark)
  stop_turns Done = Stopped_now refl
  stop_turns Halted = tt
  stop_turns OpenedWithout = tt
  stop_turns OpenedWith = tt
  stop_turns StayedDown = tt

  more_turns : (flight : Option P) → flight_of node.mode ≡ flight → ForSome (Turned role node input OpenedWith) (opened_with role node.durable flight)
  more_turns None e = tt
  more_turns (Some put) e = Opened_more put e refl refl

  stayed_turns : (disks : Bool) → ForSome (Turned role node input StayedDown) (cond disks (Some (as_stopped role node)) None)
  stayed_turns true = Stopped_now refl
  stayed_turns false = tt

  restart_turns : (mark : Mark) → ForSome (Turned role node input mark) (restarted role node mark)
  restart_turns Done = tt
  restart_turns Halted = tt
  restart_turns OpenedWithout = Opened refl refl
  restart_turns OpenedWith = more_turns (flight_of node.mode) refl
  restart_turns StayedDown = stayed_turns role.has_disks

module _ {D P K M : Type 0} (role : RoleOf D P K M) (node : NodeOf D P K M) where
  made_turns : (input : Input) (mark : Mark) → ForSome (Turned role node input mark) (made_by role node input mark)
  made_turns Stop mark = stop_turns role node Stop mark
  made_turns Restart mark = restart_turns role node Restart mark
  made_turns (Deliver place index message) mark = usual_turns role node (Deliver place index message) node.mode refl mark
  made_turns (ACall call) mark = usual_turns role node (ACall call) node.mode refl mark
  made_turns Tick mark = usual_turns role node Tick node.mode refl mark
  made_turns Lead mark = usual_turns role node Lead node.mode refl mark

  pub turned : (input : Input) (mark : Mark) (made : OutcomeOf D P K M) → made_by role node input mark ≡ Some made → Turned role node input mark made
  turned input mark made e = for_some_at (Turned role node input mark) (made_by role node input mark) made (made_turns input mark) e
