-- Where no disk fails, nothing is in flight at a node, and each event is quiet.
use Rattle.std.proofs.Common.{◌≡◌, ◌<◌, ℕ, zero, suc, Bool, true, false, cond, List, [], ◌∷◌, ◌++◌, slice_get, Option, Some, None, refl, sym, ap, subst, inl, inr, ◌∙◌}
use Rattle.std.specs.List.{AllByRecursion}
use Rattle.std.proofs.lemmas.Bool.{cases_eq}
use Rattle.std.proofs.lemmas.Option.{same_Some}
use Rattle.reply_frame.specs.declared.replies.Reply.{Down}
use Rattle.history_frame.specs.declared.events.Event.{Event}
use Rattle.history_frame.specs.declared.inputs.Input.{Input}
use Rattle.history_frame.specs.declared.inputs.Input.TheVariants.{Deliver, Call, Tick, Lead, Stop, Restart}
use Rattle.history_frame.specs.declared.inputs.Mark.{Mark}
use Rattle.history_frame.specs.declared.inputs.Mark.TheVariants.{Done, Halted, OpenedWithout, OpenedWith, StayedDown}
use Rattle.log_base.specs.ClusterShape.{Shape}
use Rattle.node_table.specs.declared.role.Role.{Role}
use Rattle.node_table.specs.declared.role.Role.TheVariants.{Storage, Gatherer, Orderer}
use Rattle.node_table.specs.Numbering.{nodes_of, role_at}
use Rattle.node_model.specs.GathererRow.{gatherer_role, outcome as gatherer_outcome}
use Rattle.node_model.specs.Legal.{AreNext, IsNext}
use Rattle.node_model.specs.Marks.{ChangeOf, Mode, NodeOf, OutcomeOf, RoleOf, Running, Stopped, down_made, flight_of, is_named, made_by, opened_with, restarted, row_made, silent, stop_made, stopped, to_call, usual_made}
use Rattle.node_model.specs.NodeState.{KeptLists, NodeOutcome, NodeState, Storing, Gathering, Ordering, as_outcome, begun_as, node_after, outcome_as, state_or}
use Rattle.node_model.specs.OrdererRow.{orderer_role, outcome as orderer_outcome}
use Rattle.node_model.specs.StorageNode.{member_of}
use Rattle.node_model.specs.StorageRow.{storage_role, outcome as storage_outcome}
use Rattle.node_model.proofs.Following.{node_here, node_there}
use Rattle.quiet_law.specs.Quiet.{IsQuiet, TellsNoFailure}
use Rattle.quiet_law.proofs.Marking.{row_quiet}
use Rattle.counted_node.specs.Causes.{shows_failure}

-- ---- one event of a node of any role

module _ {D P K M : Type 0} where
  -- nothing is in flight at the node that an outcome leaves
  abbrev LeavesNone : Option (OutcomeOf D P K M) → Type 0
  LeavesNone None = Unit {0}
  LeavesNone (Some made) = flight_of made.node.mode ≡ None

module _ {D P K M : Type 0} (role : RoleOf D P K M) (node : NodeOf D P K M) (made : OutcomeOf D P K M) (none : flight_of node.mode ≡ None) where
  abbrev IsFine : Mark → Type 0
  IsFine mark = (flight_of made.node.mode ≡ None) × TellsNoFailure mark

  left_none : (found : Option (OutcomeOf D P K M)) → LeavesNone found → found ≡ Some made → flight_of made.node.mode ≡ None
  left_none found leaves e = subst LeavesNone e leaves

  still_none : (mode : Mode P K M) → flight_of mode ≡ None → flight_of (stopped role mode) ≡ None
  still_none (Stopped flight known) e = e
  still_none (Running memory) e = refl

  when_stopped : (mark : Mark) → shows_failure true mark ≡ false → stop_made role node mark ≡ Some made → IsFine mark
  when_stopped Done fine e = (left_none (stop_made role node Done) (still_none node.mode none) e, tt)
  when_stopped Halted fine e = absurd (cc)
  when_stopped OpenedWithout fine e = absurd (cc)
  when_stopped OpenedWith fine e = absurd (cc)
  when_stopped StayedDown fine e = absurd (cc)

  when_started : (mark : Mark) → shows_failure true mark ≡ false → restarted role node mark ≡ Some made → IsFine mark
  when_started Done fine e = absurd (cc)
  when_started Halted fine e = absurd (cc)
  when_started OpenedWithout fine e = (left_none (restarted role node OpenedWithout) refl e, tt)
  when_started OpenedWith fine e = let lost = ap (λ (o : Option P). opened_with role node.durable o) none in absurd (cc)
  when_started StayedDown fine e = absurd (cc)

  when_down : (input : Input) (mark : Mark) → shows_failure true mark ≡ false → down_made role node input mark ≡ Some made → IsFine mark
  when_down input Done fine e = by (is_named role.names input) e
    where
      by : (named : Bool) → cond named (Some (silent node (to_call input Down))) None ≡ Some made → IsFine Done
      by true e = (left_none (Some (silent node (to_call input Down))) none e, tt)
      by false e = absurd (cc)
  when_down input Halted fine e = absurd (cc)
  when_down input OpenedWithout fine e = absurd (cc)
  when_down input OpenedWith fine e = absurd (cc)
  when_down input StayedDown fine e = absurd (cc)

  when_up : (memory : M) (input : Input) (change : Option (ChangeOf P M)) (mark : Mark) → shows_failure true mark ≡ false
      → row_made role node.durable memory input change mark ≡ Some made → IsFine mark
  when_up memory input None mark fine e = absurd (cc)
  when_up memory input (Some change) Done fine e = (left_none (row_made role node.durable memory input (Some change) Done) refl e, tt)
  when_up memory input (Some change) Halted fine e = absurd (cc)
  when_up memory input (Some change) OpenedWithout fine e = absurd (cc)
  when_up memory input (Some change) OpenedWith fine e = absurd (cc)
  when_up memory input (Some change) StayedDown fine e = absurd (cc)

  when_usual : (mode : Mode P K M) (input : Input) (mark : Mark) → shows_failure true mark ≡ false → usual_made role node mode input mark ≡ Some made → IsFine mark
  when_usual (Stopped flight known) input mark fine e = when_down input mark fine e
  when_usual (Running memory) input mark fine e = when_up memory input (role.row node.durable memory input) mark fine e

  made_fine : (input : Input) (mark : Mark) → shows_failure true mark ≡ false → made_by role node input mark ≡ Some made → IsFine mark
  made_fine (Deliver place index message) mark fine e = when_usual node.mode (Deliver place index message) mark fine e
  made_fine (Call call) mark fine e = when_usual node.mode (Call call) mark fine e
  made_fine Tick mark fine e = when_usual node.mode Tick mark fine e
  made_fine Lead mark fine e = when_usual node.mode Lead mark fine e
  made_fine Stop mark fine e = when_stopped mark fine e
  made_fine Restart mark fine e = when_started mark fine e

-- ---- one event of a node

abbrev NoneFlies : NodeState → Type 0
NoneFlies (Storing node) = flight_of node.mode ≡ None
NoneFlies (Gathering node) = flight_of node.mode ≡ None
NoneFlies (Ordering node) = flight_of node.mode ≡ None

-- what a node of a role made
some_made : {D P K M : Type 0} (state : NodeOf D P K M → NodeState) (found : Option (OutcomeOf D P K M)) (made : NodeOutcome) → as_outcome state found ≡ Some made
    → (outcome : OutcomeOf D P K M) × (found ≡ Some outcome) × (made.state ≡ state outcome.node)
some_made state None made e = absurd (cc)
some_made state (Some outcome) made e = (outcome, refl, ap (λ (m : NodeOutcome). m.state) (sym (same_Some _ _ e)))

step_fine : (config : Shape) (role : Role) (state : NodeState) (input : Input) (mark : Mark) (made : NodeOutcome) → NoneFlies state → shows_failure true mark ≡ false
    → outcome_as config role state input mark ≡ Some made → NoneFlies made.state × TellsNoFailure mark
unfolding storage_outcome gatherer_outcome orderer_outcome
step_fine config (Storage shard replica) (Storing node) input mark made none fine e =
    let some = some_made Storing (storage_outcome config (member_of config shard.0 replica.0) node input mark) made e in
    let done = made_fine (storage_role config (member_of config shard.0 replica.0)) node some.0 none input mark fine some.1 in
    (subst NoneFlies (sym some.2) done.0, done.1)
step_fine config (Gatherer index) (Gathering node) input mark made none fine e =
    let some = some_made Gathering (gatherer_outcome config index node input mark) made e in
    let done = made_fine (gatherer_role config index) node some.0 none input mark fine some.1 in
    (subst NoneFlies (sym some.2) done.0, done.1)
step_fine config (Orderer index) (Ordering node) input mark made none fine e =
    let some = some_made Ordering (orderer_outcome config index node input mark) made e in
    let done = made_fine (orderer_role config index) node some.0 none input mark fine some.1 in
    (subst NoneFlies (sym some.2) done.0, done.1)
step_fine config (Storage shard replica) (Gathering node) input mark made none fine e = absurd (cc)
step_fine config (Storage shard replica) (Ordering node) input mark made none fine e = absurd (cc)
step_fine config (Gatherer index) (Storing node) input mark made none fine e = absurd (cc)
step_fine config (Gatherer index) (Ordering node) input mark made none fine e = absurd (cc)
step_fine config (Orderer index) (Storing node) input mark made none fine e = absurd (cc)
step_fine config (Orderer index) (Gathering node) input mark made none fine e = absurd (cc)

-- ---- histories

module _ (config : Shape) (run : ℕ) (kept : KeptLists) where
  abbrev NoneFliesAfter : List Event → Type 0
  NoneFliesAfter events = (number : ℕ) → NoneFlies (node_after config kept events number)

  none_begun : (number : ℕ) (role : Role) → NoneFlies (begun_as config kept number role)
  none_begun number (Storage shard replica) = refl
  none_begun number (Gatherer index) = refl
  none_begun number (Orderer index) = refl

  none_next : (before : List Event) (event : Event) → NoneFliesAfter before → (next : IsNext config run kept before event) → NoneFlies next.row.made.state
      → NoneFliesAfter (before ++ event ∷ [])
  none_next before event none next made number = elim (cases_eq event.node.0 number) [
    | inl same ↦
        subst (λ (n : ℕ). NoneFlies (node_after config kept (before ++ event ∷ []) n)) same
        (subst NoneFlies (sym (node_here config kept before event ∙ ap (state_or (node_after config kept before event.node.0)) next.row.rule)) made)
    | inr other ↦ subst NoneFlies (sym (node_there config kept before event number other)) (none number)
  ]

  each_quiet : (before events : List Event) → NoneFliesAfter before → AreNext config run kept before events
      → ((k : ℕ) (event : Event) → slice_get events k ≡ Some event → event.node.0 < nodes_of config → shows_failure true event.happened.mark ≡ false)
      → AllByRecursion IsQuiet events
  each_quiet before [] none next fine = tt
  each_quiet before (event ∷ events) none next fine =
      let node = event.node.0 in
      let state = node_after config kept before event.node.0 in
      let row = next.0.row in
      let done = step_fine config (role_at config node) state event.happened.input event.happened.mark row.made (none node) (fine zero event refl next.0.node) row.rule in (
        row_quiet config (role_at config node) state event.happened.input event.happened.mark row.made done.1 row.rule,
        each_quiet (before ++ event ∷ []) events (none_next before event none next.0 done.0) next.1 (λ k e at. fine (suc k) e at),
      )

  -- where no event of a node shows that a disk failed, all events are quiet
  pub all_quiet : (events : List Event) → AreNext config run kept [] events
      → ((k : ℕ) (event : Event) → slice_get events k ≡ Some event → event.node.0 < nodes_of config → shows_failure true event.happened.mark ≡ false)
      → AllByRecursion IsQuiet events
  all_quiet events next fine = each_quiet [] events (λ number. none_begun number (role_at config number)) next fine
