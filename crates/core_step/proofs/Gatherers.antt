-- The marks of a gatherer.
use Rattle.std.proofs.Common.{◌≡◌, ◌≢◌, ℕ, Option, Some, None, refl, subst, inl, inr}
use Rattle.std.specs.Prelude.{◌⊎◌}
use Rattle.history_frame.specs.declared.inputs.Input.{Input}
use Rattle.history_frame.specs.declared.inputs.Input.TheVariants.{Deliver, Call as ACall, Tick, Lead, Stop, Restart}
use Rattle.history_frame.specs.declared.inputs.Mark.{Mark}
use Rattle.history_frame.specs.declared.inputs.Mark.TheVariants.{Done, Halted, OpenedWithout, OpenedWith, StayedDown}
use Rattle.log_base.specs.ClusterShape.{Shape}
use Rattle.node_model.specs.GathererRow.{GathererNode, GathererOutcome, gatherer_role, outcome}
use Rattle.node_model.specs.Marks.{flight_of, opened_with}
use Rattle.core_step.specs.Disks.{put_in}
use Rattle.core_step.proofs.Marks.{made_quiet}

-- nothing is put
no_put : (put : Option ⊥) → put ≡ None
no_put None = refl
no_put (Some put) = absurd put

pub gatherer_done : (config : Shape) (index : ℕ) (node : GathererNode) (input : Input) (mark : Mark) (made : GathererOutcome)
    → outcome config index node input mark ≡ Some made → input ≢ Restart → mark ≡ Done
unfolding outcome
gatherer_done config index node input mark made rule other =
    made_quiet (gatherer_role config index) node input mark made (no_put (put_in (gatherer_role config index) node input)) other rule

opened_so : (config : Shape) (index : ℕ) (node : GathererNode) (mark : Mark) (made : GathererOutcome)
    → outcome config index node Restart mark ≡ Some made → mark ≡ OpenedWithout
unfolding outcome
opened_so config index node Done made rule = absurd (cc)
opened_so config index node Halted made rule = absurd (cc)
opened_so config index node OpenedWithout made rule = refl
opened_so config index node OpenedWith made rule =
    let wrong = subst (λ (o : Option ⊥). opened_with (gatherer_role config index) node.durable o ≡ Some made) (no_put (flight_of node.mode)) rule in absurd (cc)
opened_so config index node StayedDown made rule = absurd (cc)

pub gatherer_opened : (config : Shape) (index : ℕ) (node : GathererNode) (input : Input) (mark : Mark) (made : GathererOutcome)
    → outcome config index node input mark ≡ Some made → input ≡ Restart → mark ≡ OpenedWithout
gatherer_opened config index node input mark made rule start =
    opened_so config index node mark made (subst (λ (i : Input). outcome config index node i mark ≡ Some made) start rule)

-- it has no other mark
usual_mark : (config : Shape) (index : ℕ) (node : GathererNode) (input : Input) (mark : Mark) (made : GathererOutcome) → outcome config index node input mark ≡ Some made
    → (mark ≡ Done) ⊎ (mark ≡ OpenedWithout)
usual_mark config index node Restart mark made rule = inr (opened_so config index node mark made rule)
usual_mark config index node Stop mark made rule = inl (gatherer_done config index node Stop mark made rule (λ (e : Stop ≡ Restart). cc))
usual_mark config index node (Deliver place at message) mark made rule =
    inl (gatherer_done config index node (Deliver place at message) mark made rule (λ (e : Deliver place at message ≡ Restart). cc))
usual_mark config index node (ACall call) mark made rule = inl (gatherer_done config index node (ACall call) mark made rule (λ (e : ACall call ≡ Restart). cc))
usual_mark config index node Tick mark made rule = inl (gatherer_done config index node Tick mark made rule (λ (e : Tick ≡ Restart). cc))
usual_mark config index node Lead mark made rule = inl (gatherer_done config index node Lead mark made rule (λ (e : Lead ≡ Restart). cc))

pub gatherer_runs : (config : Shape) (index : ℕ) (node : GathererNode) (input : Input) (mark : Mark) (made : GathererOutcome) → outcome config index node input mark ≡ Some made
    → (mark ≢ Halted) × (mark ≢ StayedDown)
gatherer_runs config index node input mark made rule = next mark (usual_mark config index node input mark made rule)
  where
    next : (m : Mark) → (m ≡ Done) ⊎ (m ≡ OpenedWithout) → (m ≢ Halted) × (m ≢ StayedDown)
    next m (inl done) = (λ (e : m ≡ Halted). cc, λ (e : m ≡ StayedDown). cc)
    next m (inr opened) = (λ (e : m ≡ Halted). cc, λ (e : m ≡ StayedDown). cc)
