-- Which marks a row of any role can have.
use Rattle.std.proofs.Common.{◌≡◌, ◌≢◌, ◌∙◌, Bool, true, false, Option, Some, None, refl, sym, ap, subst}
use Rattle.std.specs.Option.{option_map}
use Rattle.history_frame.specs.declared.inputs.Input.{Input}
use Rattle.history_frame.specs.declared.inputs.Input.TheVariants.{Deliver, Call as ACall, Tick, Lead, Stop, Restart}
use Rattle.history_frame.specs.declared.inputs.Mark.{Mark}
use Rattle.history_frame.specs.declared.inputs.Mark.TheVariants.{Done, Halted, OpenedWithout, OpenedWith, StayedDown}
use Rattle.node_model.specs.Marks.{ChangeOf, Mode, NodeOf, OutcomeOf, RoleOf, Running, Stopped, down_made, halted, made_by, opened_with, restarted, row_made, silent, stop_made, to_call, usual_made}
use Rattle.core_step.specs.Disks.{put_by, put_in, put_of}

-- of two values that are there
pub some_same : {X : Type 0} (a b : X) → Some a ≡ Some b → a ≡ b
some_same a b e = cc

module _ {D P K M : Type 0} (role : RoleOf D P K M) where
  -- ---- a row that puts nothing is done

  row_quiet : (durable : D) (memory : M) (input : Input) (change : Option (ChangeOf P M)) (mark : Mark) (made : OutcomeOf D P K M)
      → put_by change ≡ None → row_made role durable memory input change mark ≡ Some made → mark ≡ Done
  row_quiet durable memory input None mark made none e = absurd (cc)
  row_quiet durable memory input (Some change) Done made none e = refl
  row_quiet durable memory input (Some change) Halted made none e =
      let wrong : halted role durable memory input None ≡ Some made = subst (λ (o : Option P). halted role durable memory input o ≡ Some made) none e in absurd (cc)
  row_quiet durable memory input (Some change) OpenedWithout made none e = absurd (cc)
  row_quiet durable memory input (Some change) OpenedWith made none e = absurd (cc)
  row_quiet durable memory input (Some change) StayedDown made none e = absurd (cc)

  down_quiet : (node : NodeOf D P K M) (input : Input) (mark : Mark) (made : OutcomeOf D P K M) → down_made role node input mark ≡ Some made → mark ≡ Done
  down_quiet node input Done made e = refl
  down_quiet node input Halted made e = absurd (cc)
  down_quiet node input OpenedWithout made e = absurd (cc)
  down_quiet node input OpenedWith made e = absurd (cc)
  down_quiet node input StayedDown made e = absurd (cc)

  stop_quiet : (node : NodeOf D P K M) (mark : Mark) (made : OutcomeOf D P K M) → stop_made role node mark ≡ Some made → mark ≡ Done
  stop_quiet node Done made e = refl
  stop_quiet node Halted made e = absurd (cc)
  stop_quiet node OpenedWithout made e = absurd (cc)
  stop_quiet node OpenedWith made e = absurd (cc)
  stop_quiet node StayedDown made e = absurd (cc)

  usual_quiet : (node : NodeOf D P K M) (mode : Mode P K M) (input : Input) (mark : Mark) (made : OutcomeOf D P K M)
      → put_of role node mode input ≡ None → usual_made role node mode input mark ≡ Some made → mark ≡ Done
  usual_quiet node (Stopped flight known) input mark made none e = down_quiet node input mark made e
  usual_quiet node (Running memory) input mark made none e = row_quiet node.durable memory input (role.row node.durable memory input) mark made none e

  pub made_quiet : (node : NodeOf D P K M) (input : Input) (mark : Mark) (made : OutcomeOf D P K M)
      → put_in role node input ≡ None → input ≢ Restart → made_by role node input mark ≡ Some made → mark ≡ Done
  made_quiet node Stop mark made none other e = stop_quiet node mark made e
  made_quiet node Restart mark made none other e = absurd (other refl)
  made_quiet node (Deliver place index message) mark made none other e = usual_quiet node node.mode (Deliver place index message) mark made none e
  made_quiet node (ACall call) mark made none other e = usual_quiet node node.mode (ACall call) mark made none e
  made_quiet node Tick mark made none other e = usual_quiet node node.mode Tick mark made none e
  made_quiet node Lead mark made none other e = usual_quiet node node.mode Lead mark made none e

  -- ---- only a start leaves a node down that is not stopped

  row_stays : (durable : D) (memory : M) (input : Input) (change : Option (ChangeOf P M)) (made : OutcomeOf D P K M)
      → row_made role durable memory input change StayedDown ≡ Some made → ⊥
  row_stays durable memory input None made e = cc
  row_stays durable memory input (Some change) made e = cc

  usual_stays : (node : NodeOf D P K M) (mode : Mode P K M) (input : Input) (made : OutcomeOf D P K M)
      → usual_made role node mode input StayedDown ≡ Some made → ⊥
  usual_stays node (Stopped flight known) input made e = cc
  usual_stays node (Running memory) input made e = row_stays node.durable memory input (role.row node.durable memory input) made e

  pub made_stays : (node : NodeOf D P K M) (input : Input) (made : OutcomeOf D P K M) → made_by role node input StayedDown ≡ Some made → input ≡ Restart
  made_stays node Stop made e = absurd (cc)
  made_stays node Restart made e = refl
  made_stays node (Deliver place index message) made e = absurd (usual_stays node node.mode (Deliver place index message) made e)
  made_stays node (ACall call) made e = absurd (usual_stays node node.mode (ACall call) made e)
  made_stays node Tick made e = absurd (usual_stays node node.mode Tick made e)
  made_stays node Lead made e = absurd (usual_stays node node.mode Lead made e)
