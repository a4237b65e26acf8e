-- A mark that an event can have is the one that its node's journals tell, where they turn out by that mark's plan.
use Rattle.std.proofs.Common.{◌≡◌, ◌≢◌, ◌⊎◌, inl, inr, ℕ, zero, suc, ◌<◌, ◌≤◌, Bool, true, false, cond, ◌==◌, List, [], ◌∷◌, length, Option, Some, None, refl, sym, ap, arith, eq-eqb, ◌∙◌}
use Rattle.std.specs.Option.{option_map}
use Rattle.std.proofs.lemmas.Bool.{cond-true}
use Rattle.std.proofs.lemmas.Option.{none-some, same_Some}
use Rattle.disk_base.specs.declared.disk.Plan.{Plan}
use Rattle.history_frame.specs.declared.inputs.Input.{Input}
use Rattle.history_frame.specs.declared.inputs.Input.TheVariants.{Deliver, Call as ACall, Tick, Lead, Stop, Restart}
use Rattle.history_frame.specs.declared.inputs.Mark.{Mark}
use Rattle.history_frame.specs.declared.inputs.Mark.TheVariants.{Done, Halted, OpenedWithout, OpenedWith, StayedDown}
use Rattle.log_base.specs.ClusterShape.{Shape}
use Rattle.node_model.specs.Durable.{payload_in_flight, put_to, spelled}
use Rattle.node_model.specs.GathererRow.{gatherer_role, outcome as gatherer_outcome}
use Rattle.node_model.specs.Marks.{ChangeOf, Mode, NodeOf, OutcomeOf, RoleOf, Running, Stopped, as_stopped, down_made, flight_of, made_by, opened_with, restarted, row_made, stop_made, usual_made}
use Rattle.node_model.specs.NodeState.{NodeOutcome, NodeState, Storing, Gathering, Ordering, as_outcome, outcome_as}
use Rattle.node_model.specs.OrdererRow.{orderer_role, outcome as orderer_outcome}
use Rattle.node_model.specs.StorageNode.{Put, member_of}
use Rattle.node_model.specs.StorageRow.{outcome as storage_outcome, storage_role}
use Rattle.node_table.specs.declared.role.Role.{Role}
use Rattle.node_table.specs.declared.role.Role.TheVariants.{Storage, Gatherer, Orderer}
use Rattle.paxos_model.specs.Payloads.{payload_spelling}
use Rattle.record_frame.specs.Entries.{entry_spelling}
use Rattle.segment_journal.specs.Journalled.{Journalled, Turns, planned, turns_by}
use Rattle.segment_journal.specs.declared.journal.Installed.{Installed}
use Rattle.segment_journal.specs.declared.journal.Installed.TheVariants.{Failed, OneMore, Same}
use Rattle.shard_replica.specs.Lists.{Medium, media_of, medium_at}
use Rattle.shard_replica.specs.Telling.{AreTold}
use Rattle.storage_node.specs.Opening.{joined, opening_mark, told_both, told_by}
use Rattle.core_step.specs.Disks.{IsStarting, journals_of, put_in, put_mark, segment_put, told_mark}
use Rattle.core_step.proofs.Marks.{made_quiet}
use Rattle.history_walk.specs.Planning.{IsFlown, mark_plan}

-- each of some journals turns out by a plan
abbrev pub TurnBy : (ℕ → Option (List ℕ)) → Plan → List Medium → Type 0
TurnBy flight plan media = (k : ℕ) → k < length media → (medium_at media k).turns ≡ Some (turns_by (flight k) plan)

rest_turn : (flight : ℕ → Option (List ℕ)) (plan : Plan) (medium : Medium) (media : List Medium) → TurnBy flight plan (medium ∷ media) → TurnBy (λ k. flight (suc k)) plan media
rest_turn flight plan medium media each k lt = each (suc k) (omega arith)

-- ---- what a reload of all of them comes to

abbrev now : ℕ → Bool → Plan
now keep lose = record { after = 1; keep = keep; lose = lose }

with_first : (medium : Medium) (media : List Medium) (turn : Turns) (others : Installed) → medium.turns ≡ Some turn → told_by media ≡ Some others
    → told_by (medium ∷ media) ≡ Some (joined turn.reload others)
with_first medium media turn others e f = ap (λ (o : Option Turns). told_both o (told_by media)) e ∙ ap (told_both (Some turn)) f

same_by : (flight : Option (List ℕ)) → (turns_by flight (now 0 false)).reload ≡ Same
same_by None = refl
same_by (Some payload) = refl

all_same : (flight : ℕ → Option (List ℕ)) (media : List Medium) → TurnBy flight (now 0 false) media → told_by media ≡ Some Same
all_same flight [] each = refl
all_same flight (medium ∷ media) each =
    with_first medium media (turns_by (flight 0) (now 0 false)) Same (each 0 (omega arith)) (all_same (λ k. flight (suc k)) media (rest_turn flight (now 0 false) medium media each))
    ∙ ap (λ (i : Installed). Some (joined i Same)) (same_by (flight 0))

some_told : (flight : ℕ → Option (List ℕ)) (plan : Plan) (media : List Medium) → TurnBy flight plan media → (answer : Installed) × (told_by media ≡ Some answer)
some_told flight plan [] each = (Same, refl)
some_told flight plan (medium ∷ media) each =
    let later = some_told (λ k. flight (suc k)) plan media (rest_turn flight plan medium media each) in
    (joined (turns_by (flight 0) plan).reload later.0, with_first medium media (turns_by (flight 0) plan) later.0 (each 0 (omega arith)) later.1)

all_failed : (flight : ℕ → Option (List ℕ)) (media : List Medium) → TurnBy flight (now 0 true) media → 0 < length media → told_by media ≡ Some Failed
all_failed flight [] each some = absurd (omega arith)
all_failed flight (medium ∷ media) each some =
    let later = some_told (λ k. flight (suc k)) (now 0 true) media (rest_turn flight (now 0 true) medium media each) in
    with_first medium media (turns_by (flight 0) (now 0 true)) later.0 (each 0 (omega arith)) later.1

-- one that keeps what is in flight comes to one more where something is
abbrev IsKept : Installed → Type 0
IsKept Failed = ⊥
IsKept OneMore = Unit {0}
IsKept Same = Unit {0}

kept_joined : (one others : Installed) → IsKept one → IsKept others → IsKept (joined one others)
kept_joined Failed others h k = absurd h
kept_joined OneMore Failed h k = absurd k
kept_joined OneMore OneMore h k = tt
kept_joined OneMore Same h k = tt
kept_joined Same others h k = k

more_first : (others : Installed) → IsKept others → joined OneMore others ≡ OneMore
more_first Failed k = absurd k
more_first OneMore k = refl
more_first Same k = refl

more_later : (one : Installed) → IsKept one → joined one OneMore ≡ OneMore
more_later Failed k = absurd k
more_later OneMore k = refl
more_later Same k = refl

kept_by : (flight : Option (List ℕ)) → IsKept (turns_by flight (now 1 false)).reload
kept_by None = tt
kept_by (Some payload) = tt

all_kept : (flight : ℕ → Option (List ℕ)) (media : List Medium) → TurnBy flight (now 1 false) media → (answer : Installed) × IsKept answer × (told_by media ≡ Some answer)
all_kept flight [] each = (Same, tt, refl)
all_kept flight (medium ∷ media) each =
    let later = all_kept (λ k. flight (suc k)) media (rest_turn flight (now 1 false) medium media each) in (
      joined (turns_by (flight 0) (now 1 false)).reload later.0,
      kept_joined (turns_by (flight 0) (now 1 false)).reload later.0 (kept_by (flight 0)) later.1,
      with_first medium media (turns_by (flight 0) (now 1 false)) later.0 (each 0 (omega arith)) later.2,
    )

one_more : (flight : ℕ → Option (List ℕ)) (media : List Medium) → TurnBy flight (now 1 false) media → (at : ℕ) (payload : List ℕ) → at < length media → flight at ≡ Some payload
    → told_by media ≡ Some OneMore
one_more flight [] each at payload lt e = absurd (omega arith)
one_more flight (medium ∷ media) each zero payload lt e =
    let later = all_kept (λ k. flight (suc k)) media (rest_turn flight (now 1 false) medium media each) in
    with_first medium media (turns_by (flight 0) (now 1 false)) later.0 (each 0 (omega arith)) later.2
    ∙ ap (λ (f : Option (List ℕ)). Some (joined (turns_by f (now 1 false)).reload later.0)) e
    ∙ ap (λ (i : Installed). Some i) (more_first later.0 later.1)
one_more flight (medium ∷ media) each (suc at) payload lt e =
    with_first medium media (turns_by (flight 0) (now 1 false)) OneMore (each 0 (omega arith))
    (one_more (λ k. flight (suc k)) media (rest_turn flight (now 1 false) medium media each) at payload (omega arith) e)
    ∙ ap (λ (i : Installed). Some i) (more_later (turns_by (flight 0) (now 1 false)).reload (kept_by (flight 0)))

-- ---- the marks of a row

abbrev IsUsual : Mark → Type 0
IsUsual mark = (mark ≡ Done) ⊎ (mark ≡ Halted)

module _ {D P K M : Type 0} (role : RoleOf D P K M) where
  row_usual : (durable : D) (memory : M) (input : Input) (change : Option (ChangeOf P M)) (mark : Mark) (made : OutcomeOf D P K M) → row_made role durable memory input change mark ≡ Some made → IsUsual mark
  row_usual durable memory input None mark made e = absurd (none-some made e)
  row_usual durable memory input (Some change) Done made e = inl refl
  row_usual durable memory input (Some change) Halted made e = inr refl
  row_usual durable memory input (Some change) OpenedWithout made e = absurd (none-some made e)
  row_usual durable memory input (Some change) OpenedWith made e = absurd (none-some made e)
  row_usual durable memory input (Some change) StayedDown made e = absurd (none-some made e)

  down_usual : (node : NodeOf D P K M) (input : Input) (mark : Mark) (made : OutcomeOf D P K M) → down_made role node input mark ≡ Some made → IsUsual mark
  down_usual node input Done made e = inl refl
  down_usual node input Halted made e = inr refl
  down_usual node input OpenedWithout made e = absurd (none-some made e)
  down_usual node input OpenedWith made e = absurd (none-some made e)
  down_usual node input StayedDown made e = absurd (none-some made e)

  usual_usual : (node : NodeOf D P K M) (mode : Mode P K M) (input : Input) (mark : Mark) (made : OutcomeOf D P K M) → usual_made role node mode input mark ≡ Some made → IsUsual mark
  usual_usual node (Stopped flight known) input mark made e = down_usual node input mark made e
  usual_usual node (Running memory) input mark made e = row_usual node.durable memory input (role.row node.durable memory input) mark made e

  stop_usual : (node : NodeOf D P K M) (mark : Mark) (made : OutcomeOf D P K M) → stop_made role node mark ≡ Some made → IsUsual mark
  stop_usual node Done made e = inl refl
  stop_usual node Halted made e = inr refl
  stop_usual node OpenedWithout made e = absurd (none-some made e)
  stop_usual node OpenedWith made e = absurd (none-some made e)
  stop_usual node StayedDown made e = absurd (none-some made e)

  made_usual : (node : NodeOf D P K M) (input : Input) (mark : Mark) (made : OutcomeOf D P K M) → input ≢ Restart → made_by role node input mark ≡ Some made → IsUsual mark
  made_usual node Stop mark made other e = stop_usual node mark made e
  made_usual node Restart mark made other e = absurd (other refl)
  made_usual node (Deliver place index message) mark made other e = usual_usual node node.mode (Deliver place index message) mark made e
  made_usual node (ACall call) mark made other e = usual_usual node node.mode (ACall call) mark made e
  made_usual node Tick mark made other e = usual_usual node node.mode Tick mark made e
  made_usual node Lead mark made other e = usual_usual node node.mode Lead mark made e

-- the mark of a put, by its plan
put_marked : (flight : Option (List ℕ)) (mark : Mark) → IsUsual mark → put_mark (turns_by flight (mark_plan mark)) ≡ mark
put_marked flight Done usual = refl
put_marked flight Halted usual = refl
put_marked flight OpenedWithout usual = absurd (not_usual OpenedWithout usual (λ (e : OpenedWithout ≡ Done). cc) (λ (e : OpenedWithout ≡ Halted). cc))
  where
    not_usual : (mark : Mark) → IsUsual mark → (mark ≡ Done → ⊥) → (mark ≡ Halted → ⊥) → ⊥
    not_usual mark (inl e) f g = f e
    not_usual mark (inr e) f g = g e
put_marked flight OpenedWith usual = elim usual [ inl e ↦ absurd (cc) | inr e ↦ absurd (cc) ]
put_marked flight StayedDown usual = elim usual [ inl e ↦ absurd (cc) | inr e ↦ absurd (cc) ]

-- an outcome of a node is one of its role
some_made : {D P K M : Type 0} (state : NodeOf D P K M → NodeState) (o : Option (OutcomeOf D P K M)) (made : NodeOutcome) → as_outcome state o ≡ Some made → (one : OutcomeOf D P K M) × (o ≡ Some one)
some_made state None made e = absurd (none-some made e)
some_made state (Some one) made e = (one, refl)

-- the mark that a journal tells, by what is put
module _ {D P K M : Type 0} (role : RoleOf D P K M) (node : NodeOf D P K M) (input : Input) (other : input ≢ Restart) (segment : P → ℕ) (flight : ℕ → Option (List ℕ)) (media : List Medium) where
  put_told : (mark : Mark) (made : OutcomeOf D P K M) → made_by role node input mark ≡ Some made → TurnBy flight (mark_plan mark) media
      → (put : Option P) → put_in role node input ≡ put → ((one : P) → put ≡ Some one → segment one < length media)
      → told_mark media (option_map segment put) ≡ Some mark
  put_told mark made e each None is within = ap (λ (m : Mark). Some m) (sym (made_quiet role node input mark made is other e))
  put_told mark made e each (Some one) is within =
      ap (option_map put_mark) (each (segment one) (within one refl))
      ∙ ap (λ (m : Mark). Some m) (put_marked (flight (segment one)) mark (made_usual role node input mark made other e))

-- ---- the marks of a start

module _ {D P K M : Type 0} (role : RoleOf D P K M) (node : NodeOf D P K M) (flight : ℕ → Option (List ℕ)) (media : List Medium) where
  disks_are : (disks : Bool) (made : OutcomeOf D P K M) → cond disks (Some (as_stopped role node)) None ≡ Some made → disks ≡ true
  disks_are true made e = refl
  disks_are false made e = absurd (none-some made e)

  flight_is : (put : Option P) (made : OutcomeOf D P K M) → opened_with role node.durable put ≡ Some made → (one : P) × (put ≡ Some one)
  flight_is None made e = absurd (none-some made e)
  flight_is (Some one) made e = (one, refl)

  start_told : (mark : Mark) (made : OutcomeOf D P K M) → restarted role node mark ≡ Some made → TurnBy flight (mark_plan mark) media
      → (role.has_disks ≡ true → 0 < length media)
      → ((one : P) → flight_of node.mode ≡ Some one → (at : ℕ) × (payload : List ℕ) × (at < length media) × (flight at ≡ Some payload))
      → (answer : Installed) × (told_by media ≡ Some answer) × (opening_mark answer ≡ mark)
  start_told Done made e each some at = absurd (none-some made e)
  start_told Halted made e each some at = absurd (none-some made e)
  start_told OpenedWithout made e each some at = (Same, all_same flight media each, refl)
  start_told OpenedWith made e each some at =
      let put = flight_is (flight_of node.mode) made e in
      let there = at put.0 put.1 in
      (OneMore, one_more flight media each there.0 there.1 there.2 there.3, refl)
  start_told StayedDown made e each some at = (Failed, all_failed flight media each (some (disks_are role.has_disks made e)), refl)

-- ---- nodes

pub told_as : (config : Shape) (role : Role) (state : NodeState) (input : Input) (mark : Mark) (made : NodeOutcome) (media : List Medium)
    → outcome_as config role state input mark ≡ Some made → input ≢ Restart → length media ≡ journals_of config role
    → ((segment : ℕ) → segment_put config role state input ≡ Some segment → segment < journals_of config role)
    → TurnBy (payload_in_flight state) (mark_plan mark) media → told_mark media (segment_put config role state input) ≡ Some mark
unfolding storage_outcome gatherer_outcome orderer_outcome
told_as config (Storage shard replica) (Storing node) input mark made media e other size within each =
    let one = some_made Storing (storage_outcome config (member_of config shard.0 replica.0) node input mark) made e in
    put_told (storage_role config (member_of config shard.0 replica.0)) node input other (λ put. put.segment) (payload_in_flight (Storing node)) media mark one.0 one.1 each
    (put_in (storage_role config (member_of config shard.0 replica.0)) node input) refl
    (λ put is. let low = within put.segment (ap (option_map (λ (p : Put). p.segment)) is) in omega (arith, low, size))
told_as config (Gatherer index) (Gathering node) input mark made media e other size within each =
    let one = some_made Gathering (gatherer_outcome config index node input mark) made e in
    put_told (gatherer_role config index) node input other (λ put. 0) (payload_in_flight (Gathering node)) media mark one.0 one.1 each None (none_put (put_in (gatherer_role config index) node input)) (λ put is. absurd put)
  where
    none_put : (put : Option ⊥) → put ≡ None
    none_put None = refl
    none_put (Some put) = absurd put
told_as config (Orderer index) (Ordering node) input mark made media e other size within each =
    let one = some_made Ordering (orderer_outcome config index node input mark) made e in
    put_told (orderer_role config index) node input other (λ put. 0) (payload_in_flight (Ordering node)) media mark one.0 one.1 each
    (put_in (orderer_role config index) node input) refl (λ put is. omega (arith, size))
told_as config (Storage shard replica) (Gathering node) input mark made media e other size within each = absurd (none-some made e)
told_as config (Storage shard replica) (Ordering node) input mark made media e other size within each = absurd (none-some made e)
told_as config (Gatherer index) (Storing node) input mark made media e other size within each = absurd (none-some made e)
told_as config (Gatherer index) (Ordering node) input mark made media e other size within each = absurd (none-some made e)
told_as config (Orderer index) (Storing node) input mark made media e other size within each = absurd (none-some made e)
told_as config (Orderer index) (Gathering node) input mark made media e other size within each = absurd (none-some made e)

pub start_as : (config : Shape) (role : Role) (state : NodeState) (mark : Mark) (made : NodeOutcome) (media : List Medium)
    → outcome_as config role state Restart mark ≡ Some made → length media ≡ journals_of config role → 1 ≤ config.replicas → IsFlown config state
    → TurnBy (payload_in_flight state) (mark_plan mark) media → (answer : Installed) × (told_by media ≡ Some answer) × (opening_mark answer ≡ mark)
unfolding storage_outcome gatherer_outcome orderer_outcome
start_as config (Storage shard replica) (Storing node) mark made media e size some flown each =
    let one = some_made Storing (storage_outcome config (member_of config shard.0 replica.0) node Restart mark) made e in
    start_told (storage_role config (member_of config shard.0 replica.0)) node (payload_in_flight (Storing node)) media mark one.0 one.1 each (λ disks. omega (arith, size, some))
    (λ put is.
    let low = flown put is in (
      put.segment,
      entry_spelling put.entry,
      omega (arith, low, size),
      ap (put_to put.segment) is ∙ cond-true (put.segment == put.segment) (Some (entry_spelling put.entry)) None (eq-eqb put.segment put.segment refl),
    ))
start_as config (Gatherer index) (Gathering node) mark made media e size some flown each =
    let one = some_made Gathering (gatherer_outcome config index node Restart mark) made e in
    start_told (gatherer_role config index) node (payload_in_flight (Gathering node)) media mark one.0 one.1 each (λ disks. let wrong : false ≡ true = disks in absurd (cc)) (λ put is. absurd put)
start_as config (Orderer index) (Ordering node) mark made media e size some flown each =
    let one = some_made Ordering (orderer_outcome config index node Restart mark) made e in
    start_told (orderer_role config index) node (payload_in_flight (Ordering node)) media mark one.0 one.1 each (λ disks. omega (arith, size))
    (λ put is. (0, payload_spelling put, omega (arith, size), ap spelled is))
start_as config (Storage shard replica) (Gathering node) mark made media e size some flown each = absurd (none-some made e)
start_as config (Storage shard replica) (Ordering node) mark made media e size some flown each = absurd (none-some made e)
start_as config (Gatherer index) (Storing node) mark made media e size some flown each = absurd (none-some made e)
start_as config (Gatherer index) (Ordering node) mark made media e size some flown each = absurd (none-some made e)
start_as config (Orderer index) (Storing node) mark made media e size some flown each = absurd (none-some made e)
start_as config (Orderer index) (Gathering node) mark made media e size some flown each = absurd (none-some made e)

-- ---- journals that tell

told_some : {J : Type 0} (state : J → Journalled) (faults : J → ℕ) (keeps : J → Bool) (turns : J → Turns) (journals : List J) (k : ℕ) → k < length journals
    → (turn : Turns) × ((medium_at (media_of state faults keeps (λ j. Some (turns j)) journals) k).turns ≡ Some turn)
told_some state faults keeps turns [] k lt = absurd (omega arith)
told_some state faults keeps turns (j ∷ journals) zero lt = (turns j, refl)
told_some state faults keeps turns (j ∷ journals) (suc k) lt = told_some state faults keeps turns journals k (omega arith)

told_size : {J : Type 0} (state : J → Journalled) (faults : J → ℕ) (keeps : J → Bool) (turns : J → Turns) (journals : List J) → length (media_of state faults keeps (λ j. Some (turns j)) journals) ≡ length journals
told_size state faults keeps turns [] = refl
told_size state faults keeps turns (j ∷ journals) = ap (λ n. suc n) (told_size state faults keeps turns journals)

by_plan : (flight : Option (List ℕ)) (plan : Plan) (before now : Option Turns) (turn : Turns) → now ≡ planned flight plan before → now ≡ Some turn → now ≡ Some (turns_by flight plan)
by_plan flight plan None now turn e f = absurd (none-some turn (sym e ∙ f))
by_plan flight plan (Some before) now turn e f = e

-- the journals of a node tell so many times how they turn out, and they do by the plan that was set
module _ {J : Type 0} (state : J → Journalled) (faults : J → ℕ) (keeps : J → Bool) (turns : J → Turns) (count : ℕ) (media : List Medium)
    (told : AreTold state faults keeps (λ j. Some (turns j)) count media) where
  pub size_is : length media ≡ count
  size_is = ap length told.media_are ∙ told_size state faults keeps turns told.journals ∙ told.all

  pub turn_by : (flight : ℕ → Option (List ℕ)) (plan : Plan) (before : List Medium)
      → ((k : ℕ) → (medium_at media k).turns ≡ planned (flight k) plan (medium_at before k).turns) → TurnBy flight plan media
  turn_by flight plan before set k lt =
      let size = size_is in
      let below : k < length told.journals = let all = told.all in omega (arith, lt, size, all) in
      let some = told_some state faults keeps turns told.journals k below in
      by_plan (flight k) plan (medium_at before k).turns (medium_at media k).turns some.0 (set k) (ap (λ (l : List Medium). (medium_at l k).turns) told.media_are ∙ some.1)

-- ---- the mark of an event

restart_or : (input : Input) → (input ≡ Restart) ⊎ (input ≢ Restart)
restart_or Restart = inl refl
restart_or Stop = inr (λ (e : Stop ≡ Restart). cc)
restart_or Tick = inr (λ (e : Tick ≡ Restart). cc)
restart_or Lead = inr (λ (e : Lead ≡ Restart). cc)
restart_or (ACall call) = inr (λ (e : ACall call ≡ Restart). cc)
restart_or (Deliver place index message) = inr (λ (e : Deliver place index message ≡ Restart). cc)

told_again : (old new : List Medium) (segment : Option ℕ) → ((k : ℕ) → (medium_at new k).turns ≡ (medium_at old k).turns) → told_mark new segment ≡ told_mark old segment
told_again old new None same = refl
told_again old new (Some segment) same = ap (option_map put_mark) (same segment)

-- Where the journals of a node turn out by the plan of a mark that an event can have, the event has that mark.
pub mark_is : (config : Shape) (role : Role) (state : NodeState) (input : Input) (mark : Mark) (made : NodeOutcome) (old new : List Medium) (start : Option Mark) (result : Mark)
    → outcome_as config role state input mark ≡ Some made → length old ≡ journals_of config role → 1 ≤ config.replicas → IsFlown config state
    → ((segment : ℕ) → segment_put config role state input ≡ Some segment → segment < journals_of config role)
    → TurnBy (payload_in_flight state) (mark_plan mark) old
    → (input ≢ Restart → (k : ℕ) → (medium_at new k).turns ≡ (medium_at old k).turns)
    → (input ≡ Restart → IsStarting old new start)
    → (input ≢ Restart → (other : Mark) → told_mark new (segment_put config role state input) ≡ Some other → result ≡ other)
    → (input ≡ Restart → start ≡ Some result)
    → result ≡ mark
mark_is config role state input mark made old new start result e size some flown within each turns opening told opened = elim (restart_or input) [
  | inl restart ↦
      let is : outcome_as config role state Restart mark ≡ Some made = ap (λ (i : Input). outcome_as config role state i mark) (sym restart) ∙ e in
      let answer = start_as config role state mark made old is size some flown each in
      same_Some result mark (sym (opened restart) ∙ (opening restart).told answer.0 answer.1 ∙ ap (λ (m : Mark). Some m) answer.2)
  | inr other ↦
      told other mark (told_again old new (segment_put config role state input) (turns other) ∙ told_as config role state input mark made old e other size within each)
]
