-- How an item begins is the cluster's, and the numbers that are drawn leave room for the items behind it.
use Rattle.std.proofs.Common.{◌≡◌, ℕ, ◌+◌, ◌<◌, suc, Bool, true, false, cond, nat_lt, map, List, [], ◌∷◌, length, get_or, Option, Some, None, refl, sym, ap, subst, ◌∙◌, arith}
use Rattle.std.specs.List.{AllByRecursion}
use Rattle.std.proofs.lemmas.List.{length-set}
use Rattle.log_base.specs.ClusterShape.{InRange, Shape}
use Rattle.log_base.specs.declared.numbers.Client.{Client}
use Rattle.log_base.specs.declared.numbers.NodeId.{NodeId}
use Rattle.log_base.specs.declared.numbers.Number.{Number}
use Rattle.fault_script.specs.declared.fault.Fault.{Fault}
use Rattle.fault_script.specs.declared.fault.Fault.TheVariants as fault
use Rattle.command_frame.specs.declared.items.Item.{Item}
use Rattle.command_frame.specs.declared.items.Item.TheVariants.{Append, Read, Subscribe, Trim, Add, Finalise, Ask as AskItem, Fault as FaultItem}
use Rattle.fault_script.specs.Lines.{IsFault}
use Rattle.node_table.specs.Numbering.{nodes_of}
use Rattle.command_frame.specs.Items.{IsItem, IsNoFault}
use Rattle.subscriber.specs.Following.{Following}
use Rattle.reply_frame.specs.declared.replies.Reply.{Reply, NoLetter, Done}
use Rattle.schedule_model.specs.declared.courses.Course.{Course}
use Rattle.schedule_model.specs.declared.courses.Course.TheVariants.{Replies, GoesOn, Takes, Completes, Ends, Answers, PutsOff, Replaces}
use Rattle.schedule_model.specs.declared.duties.Awaited.{Awaited}
use Rattle.schedule_model.specs.declared.duties.Awaited.TheVariants.{Again}
use Rattle.schedule_model.specs.declared.duties.Afterwards.TheVariants.{TakenOut, LeftIn}
use Rattle.schedule_model.specs.declared.duties.Duty.{Duty}
use Rattle.schedule_model.specs.declared.duties.Duty.TheVariants.{DeliverOne}
use Rattle.schedule_model.specs.declared.duties.Planned.{Planned}
use Rattle.schedule_model.specs.declared.duties.PutOff.{PutOff}
use Rattle.schedule_model.specs.declared.duties.Question.{Question}
use Rattle.schedule_model.specs.declared.duties.Question.TheVariants as question
use Rattle.schedule_model.specs.Courses.{Scene, asked, asked_again, asked_anew, asked_last, beginning, client_of, last_number, line_course, resubmitted}
use Rattle.schedule_model.specs.Duties.{settling}
use Rattle.serial_schedule.specs.Keeping.{IsCourse, IsDuty, IsHold, IsKept, IsMade}
use Rattle.item_course.specs.Asking.{IsPutOff, IsQuestion}
use Rattle.schedule_model.specs.Holding.{questions_of}
use Rattle.schedule_model.specs.Noting.{duties_with, hold_with, replies_with, stream_with}
use Rattle.schedule_model.specs.Scheduling.{Scheduled, Waiting, begins, begun, drawn, entered, hold_after, plans_after, primaries_after, queue_after, records_after, scene_of, stream_before, taken}
use Rattle.schedule_model.proofs.Kept.{each-append}
use Rattle.serial_schedule.proofs.Followed.{settling-kept, taken-is}
use Rattle.schedule_model.proofs.Permitted.{HaveRoom}
use Rattle.schedule_model.proofs.BeginningsPermitted.{room-drawn, room-less}

-- there is an orderer
some-orderer : (config : Shape) → InRange config → 0 < config.orderers
some-orderer config range = let odd = range.odd in omega arith

asked-is : (config : Shape) (client : Client) (number : Number) (primary : Option NodeId) → IsCourse config (asked client number primary)
asked-is config client number None = tt
asked-is config client number (Some primary) = (tt, tt)

resubmitted-is : (config : Shape) (client : Client) (number : Number) (bytes : List ℕ) (primary : Option NodeId) → IsCourse config (resubmitted client number bytes primary)
resubmitted-is config client number bytes None = tt
resubmitted-is config client number bytes (Some primary) = (tt, tt)

-- a question that is asked again goes to a node of the cluster
anew-is : (config : Shape) (late : PutOff) (asked : Question) → IsQuestion config asked → IsDuty config (asked_last config asked (Again late.item))
anew-is config late (question.Append primary client number) h = tt
anew-is config late (question.Wish orderer client value from) h = tt

all-anew-is : (config : Shape) (put_off : List PutOff) → AllByRecursion (IsPutOff config) put_off → AllByRecursion (IsDuty config) (map (asked_anew config) put_off)
all-anew-is config [] h = tt
all-anew-is config (late ∷ put_off) h = (anew-is config late late.question h.0, all-anew-is config put_off h.1)

with_letter-is : (config : Shape) (course : Course) (waiting : ℕ) (there : Bool) → IsCourse config course → IsCourse config (cond there course (Replies (NoLetter waiting)))
with_letter-is config course waiting true h = h
with_letter-is config course waiting false h = tt

line-is : (config : Shape) (scene : Scene) (again : Course) (f : Fault) → InRange config → IsFault config f → AllByRecursion (IsPutOff config) scene.questions → IsCourse config again
    → IsCourse config (line_course config scene again f)
line-is config scene again fault.Hold range is holds h = tt
line-is config scene again fault.Settle range is holds h =
    each-append (IsDuty config) (settling config) (asked_again config scene.questions) (settling-kept config) (all-anew-is config scene.questions holds)
line-is config scene again (fault.Tick node) range is holds h = (let below : node.0 < nodes_of config = is in omega arith, tt)
line-is config scene again (fault.Deliver letter) range is holds h =
    with_letter-is config (Answers Done (DeliverOne letter TakenOut ∷ [])) scene.waiting (nat_lt letter scene.waiting) (tt, tt)
line-is config scene again (fault.Drop letter) range is holds h = with_letter-is config (Replies Done) scene.waiting (nat_lt letter scene.waiting) tt
line-is config scene again (fault.Again letter) range is holds h =
    with_letter-is config (Answers Done (DeliverOne letter LeftIn ∷ [])) scene.waiting (nat_lt letter scene.waiting) (tt, tt)
line-is config scene again (fault.Stop node) range is holds h = (let below : node.0 < nodes_of config = is in omega arith, tt)
line-is config scene again (fault.StopAfter node after keep) range is holds h = tt
line-is config scene again (fault.Lose node after) range is holds h = tt
line-is config scene again (fault.Restart node) range is holds h = (let below : node.0 < nodes_of config = is in omega arith, tt)
line-is config scene again (fault.Lead orderer) range is holds h = (let below : orderer < config.orderers = is in omega arith, tt)
line-is config scene again fault.Resubmit range is holds h = h

beginning-is : (config : Shape) (run : ℕ) (draws : List ℕ) (primaries : List (Option NodeId)) (scene : Scene) (item : Item) → InRange config → IsItem config item
    → AllByRecursion (IsPutOff config) scene.questions → IsCourse config (beginning config run draws primaries scene item)
beginning-is config run draws primaries scene (Append lane shard replica bytes) range is holds = (tt, tt)
beginning-is config run draws primaries scene (Read lane shard replica position) range is holds = (is.2, tt)
beginning-is config run draws primaries scene (Subscribe lane shard replica from count) range is holds = ((is.1, is.2), tt)
beginning-is config run draws primaries scene (Trim lane position) range is holds = (some-orderer config range, tt)
beginning-is config run draws primaries scene (Add lane shard) range is holds = (some-orderer config range, tt)
beginning-is config run draws primaries scene (Finalise lane shard) range is holds = (some-orderer config range, tt)
beginning-is config run draws primaries scene (FaultItem lane f) range is holds =
    line-is config scene (resubmitted (client_of lane) (last_number run draws lane) (get_or scene.records lane []) (get_or primaries lane None)) f range is.1 holds
    (resubmitted-is config (client_of lane) (last_number run draws lane) (get_or scene.records lane []) (get_or primaries lane None))
beginning-is config run draws primaries scene (AskItem lane) range is holds = asked-is config (client_of lane) (last_number run draws lane) (get_or primaries lane None)

-- what an item makes due at first is no entry
asked-made : (client : Client) (number : Number) (primary : Option NodeId) → IsMade (asked client number primary)
asked-made client number None = tt
asked-made client number (Some primary) = tt

resubmitted-made : (client : Client) (number : Number) (bytes : List ℕ) (primary : Option NodeId) → IsMade (resubmitted client number bytes primary)
resubmitted-made client number bytes None = tt
resubmitted-made client number bytes (Some primary) = tt

with_letter-made : (course : Course) (waiting : ℕ) (there : Bool) → IsMade course → IsMade (cond there course (Replies (NoLetter waiting)))
with_letter-made course waiting true h = h
with_letter-made course waiting false h = tt

line-made : (config : Shape) (scene : Scene) (again : Course) (f : Fault) → IsMade again → IsMade (line_course config scene again f)
line-made config scene again fault.Hold h = tt
line-made config scene again fault.Settle h = tt
line-made config scene again (fault.Tick node) h = tt
line-made config scene again (fault.Deliver letter) h = with_letter-made (Answers Done (DeliverOne letter TakenOut ∷ [])) scene.waiting (nat_lt letter scene.waiting) tt
line-made config scene again (fault.Drop letter) h = with_letter-made (Replies Done) scene.waiting (nat_lt letter scene.waiting) tt
line-made config scene again (fault.Again letter) h = with_letter-made (Answers Done (DeliverOne letter LeftIn ∷ [])) scene.waiting (nat_lt letter scene.waiting) tt
line-made config scene again (fault.Stop node) h = tt
line-made config scene again (fault.StopAfter node after keep) h = tt
line-made config scene again (fault.Lose node after) h = tt
line-made config scene again (fault.Restart node) h = tt
line-made config scene again (fault.Lead orderer) h = tt
line-made config scene again fault.Resubmit h = h

beginning-made : (config : Shape) (run : ℕ) (draws : List ℕ) (primaries : List (Option NodeId)) (scene : Scene) (item : Item) → IsMade (beginning config run draws primaries scene item)
beginning-made config run draws primaries scene (Append lane shard replica bytes) = tt
beginning-made config run draws primaries scene (Read lane shard replica position) = tt
beginning-made config run draws primaries scene (Subscribe lane shard replica from count) = tt
beginning-made config run draws primaries scene (Trim lane position) = tt
beginning-made config run draws primaries scene (Add lane shard) = tt
beginning-made config run draws primaries scene (Finalise lane shard) = tt
beginning-made config run draws primaries scene (FaultItem lane f) =
    line-made config scene (resubmitted (client_of lane) (last_number run draws lane) (get_or scene.records lane []) (get_or primaries lane None)) f
    (resubmitted-made (client_of lane) (last_number run draws lane) (get_or scene.records lane []) (get_or primaries lane None))
beginning-made config run draws primaries scene (AskItem lane) = asked-made (client_of lane) (last_number run draws lane) (get_or primaries lane None)

pub begins-made : (config : Shape) (run : ℕ) (draws : List ℕ) (primaries : List (Option NodeId)) (scene : Scene) (item : Item) (course : Course)
    → course ≡ beginning config run draws primaries scene item → IsMade course
begins-made config run draws primaries scene item course e = subst IsMade (sym e) (beginning-made config run draws primaries scene item)

length-drawn : (item : Item) (draws : List ℕ) → length (drawn item draws) ≡ length draws
length-drawn (Append lane shard replica bytes) draws = length-set draws lane (get_or draws lane 0 + 1)
length-drawn item draws = refl

drawn-room : (config : Shape) (item : Item) (draws : List ℕ) (count : ℕ) → IsItem config item → length draws ≡ 64 → HaveRoom draws (suc count)
    → HaveRoom (drawn item draws) count
drawn-room config (Append lane shard replica bytes) draws count is lanes h = room-drawn draws lane count h (let low : lane < 64 = is.0 in omega arith)
drawn-room config item draws count is lanes h = room-less draws count h

hold-kept : (config : Shape) (item : Item) (hold : Option (List PutOff)) → IsHold config hold → IsHold config (hold_after item hold)
hold-kept config (Append lane shard replica bytes) hold h = h
hold-kept config (Read lane shard replica position) hold h = h
hold-kept config (Subscribe lane shard replica from count) hold h = h
hold-kept config (Trim lane position) hold h = h
hold-kept config (Add lane shard) hold h = h
hold-kept config (Finalise lane shard) hold h = h
hold-kept config (AskItem lane) hold h = h
hold-kept config (FaultItem lane f) hold h = by f hold h
  where
    by : (f : Fault) (hold : Option (List PutOff)) → IsHold config hold → IsHold config (hold_after (FaultItem lane f) hold)
    by fault.Hold None h = tt
    by fault.Hold (Some put_off) h = h
    by fault.Settle hold h = tt
    by (fault.Tick node) hold h = h
    by (fault.Deliver letter) hold h = h
    by (fault.Drop letter) hold h = h
    by (fault.Again letter) hold h = h
    by (fault.Stop node) hold h = h
    by (fault.StopAfter node after keep) hold h = h
    by (fault.Lose node after) hold h = h
    by (fault.Restart node) hold h = h
    by (fault.Lead orderer) hold h = h
    by fault.Resubmit hold h = h

-- what the item makes due comes before all else
pub begun-kept : (config : Shape) (run : ℕ) (some items : List Item) (item : Item) (duties all : List Duty) (awaited : Option Awaited)
    (hold then_held : Option (List PutOff)) (draws now : List ℕ) (primaries : List (Option NodeId)) (scene : Scene) → InRange config → some ≡ item ∷ items
    → scene.questions ≡ questions_of hold
    → all ≡ duties_with (Some (beginning config run draws primaries scene item)) duties → then_held ≡ hold_after item hold → now ≡ drawn item draws
    → IsKept config run some duties awaited hold draws → IsKept config run items all awaited then_held now
begun-kept config run some items item duties all awaited hold then_held draws now primaries scene range some_is scene_is all_is hold_is now_is h =
    let each = subst (AllByRecursion (IsItem config)) some_is h.each_item in
    let course = beginning config run draws primaries scene item in
    let is = beginning-is config run draws primaries scene item range each.0 (subst (AllByRecursion (IsPutOff config)) (sym scene_is) h.questions) in
    let room = subst (λ (l : List Item). HaveRoom draws (length l)) some_is h.room in
    record {
      run_fits = h.run_fits;
      each_item = each.1;
      each_duty = subst (AllByRecursion (IsDuty config)) (sym all_is) (taken-is config course duties is h.each_duty);
      answer = h.answer;
      questions = subst (IsHold config) (sym hold_is) (hold-kept config item hold h.questions);
      lanes = subst (λ (l : List ℕ). length l ≡ 64) (sym now_is) (length-drawn item draws ∙ h.lanes);
      room = subst (λ (l : List ℕ). HaveRoom l (length items)) (sym now_is) (drawn-room config item draws (length items) each.0 h.lanes room);
    }

-- An item begins with calls or its reply, and takes no entry.
abbrev pub IsFirst : Course → Type 0
IsFirst (Replies reply) = Unit {0}
IsFirst (GoesOn duties) = Unit {0}
IsFirst (Takes position entry next) = ⊥
IsFirst (Completes position entry) = ⊥
IsFirst (Ends last) = ⊥
IsFirst (Answers reply duties) = Unit {0}
IsFirst (PutsOff reply asked) = ⊥
IsFirst (Replaces item reply) = ⊥

asked-first : (client : Client) (number : Number) (primary : Option NodeId) → IsFirst (asked client number primary)
asked-first client number None = tt
asked-first client number (Some primary) = tt

pub resubmitted-first : (client : Client) (number : Number) (bytes : List ℕ) (primary : Option NodeId) → IsFirst (resubmitted client number bytes primary)
resubmitted-first client number bytes None = tt
resubmitted-first client number bytes (Some primary) = tt

with_letter-first : (course : Course) (waiting : ℕ) (there : Bool) → IsFirst course → IsFirst (cond there course (Replies (NoLetter waiting)))
with_letter-first course waiting true h = h
with_letter-first course waiting false h = tt

pub line-first : (config : Shape) (scene : Scene) (again : Course) (f : Fault) → IsFirst again → IsFirst (line_course config scene again f)
line-first config scene again fault.Hold h = tt
line-first config scene again fault.Settle h = tt
line-first config scene again (fault.Tick node) h = tt
line-first config scene again (fault.Deliver letter) h = with_letter-first (Answers Done (DeliverOne letter TakenOut ∷ [])) scene.waiting (nat_lt letter scene.waiting) tt
line-first config scene again (fault.Drop letter) h = with_letter-first (Replies Done) scene.waiting (nat_lt letter scene.waiting) tt
line-first config scene again (fault.Again letter) h = with_letter-first (Answers Done (DeliverOne letter LeftIn ∷ [])) scene.waiting (nat_lt letter scene.waiting) tt
line-first config scene again (fault.Stop node) h = tt
line-first config scene again (fault.StopAfter node after keep) h = tt
line-first config scene again (fault.Lose node after) h = tt
line-first config scene again (fault.Restart node) h = tt
line-first config scene again (fault.Lead orderer) h = tt
line-first config scene again fault.Resubmit h = h

beginning-first : (config : Shape) (run : ℕ) (draws : List ℕ) (primaries : List (Option NodeId)) (scene : Scene) (item : Item) → IsFirst (beginning config run draws primaries scene item)
beginning-first config run draws primaries scene (Append lane shard replica bytes) = tt
beginning-first config run draws primaries scene (Read lane shard replica position) = tt
beginning-first config run draws primaries scene (Subscribe lane shard replica from count) = tt
beginning-first config run draws primaries scene (Trim lane position) = tt
beginning-first config run draws primaries scene (Add lane shard) = tt
beginning-first config run draws primaries scene (Finalise lane shard) = tt
beginning-first config run draws primaries scene (FaultItem lane f) =
    line-first config scene (resubmitted (client_of lane) (last_number run draws lane) (get_or scene.records lane []) (get_or primaries lane None)) f
    (resubmitted-first (client_of lane) (last_number run draws lane) (get_or scene.records lane []) (get_or primaries lane None))
beginning-first config run draws primaries scene (AskItem lane) = asked-first (client_of lane) (last_number run draws lane) (get_or primaries lane None)

taken-first : (s : Scheduled) (course : Course) → IsFirst course
    → record s { duties = duties_with (Some course) s.duties; replies = replies_with (Some course) s.stream s.replies } ≡ taken s course
taken-first s (Replies reply) first = refl
taken-first s (GoesOn duties) first = refl
taken-first s (Takes position entry next) first = absurd first
taken-first s (Completes position entry) first = absurd first
taken-first s (Ends last) first = absurd first
taken-first s (Answers reply duties) first = refl
taken-first s (PutsOff reply asked) first = absurd first
taken-first s (Replaces item reply) first = absurd first

-- an item that begins puts nothing off, and takes no entry
pub first-hold : (course : Course) (items : ℕ) (hold : Option (List PutOff)) → IsFirst course → hold_with (Some course) items hold ≡ hold
first-hold (Replies reply) items hold first = refl
first-hold (GoesOn duties) items hold first = refl
first-hold (Takes position entry next) items hold first = absurd first
first-hold (Completes position entry) items hold first = absurd first
first-hold (Ends last) items hold first = absurd first
first-hold (Answers reply duties) items hold first = refl
first-hold (PutsOff reply asked) items hold first = absurd first
first-hold (Replaces item reply) items hold first = absurd first

pub first-stream : (course : Course) (stream : Following) → IsFirst course → stream_with (Some course) stream ≡ stream
first-stream (Replies reply) stream first = refl
first-stream (GoesOn duties) stream first = refl
first-stream (Takes position entry next) stream first = absurd first
first-stream (Completes position entry) stream first = absurd first
first-stream (Ends last) stream first = absurd first
first-stream (Answers reply duties) stream first = refl
first-stream (PutsOff reply asked) stream first = absurd first
first-stream (Replaces item reply) stream first = absurd first

-- its reply is the same whatever was taken
pub first-replies : (course : Course) (stream taken : Following) (replies : List Reply) → IsFirst course
    → replies_with (Some course) stream replies ≡ replies_with (Some course) taken replies
first-replies (Replies reply) stream taken replies first = refl
first-replies (GoesOn duties) stream taken replies first = refl
first-replies (Takes position entry next) stream taken replies first = absurd first
first-replies (Completes position entry) stream taken replies first = absurd first
first-replies (Ends last) stream taken replies first = absurd first
first-replies (Answers reply duties) stream taken replies first = refl
first-replies (PutsOff reply asked) stream taken replies first = absurd first
first-replies (Replaces item reply) stream taken replies first = absurd first

-- an item that is no fault changes no queue, no hold and no plans
pub plain-queue : (item : Item) (queue : List Waiting) → IsNoFault item → queue ≡ queue_after item queue
plain-queue (Append lane shard replica bytes) queue plain = refl
plain-queue (Read lane shard replica position) queue plain = refl
plain-queue (Subscribe lane shard replica from count) queue plain = refl
plain-queue (Trim lane position) queue plain = refl
plain-queue (Add lane shard) queue plain = refl
plain-queue (Finalise lane shard) queue plain = refl
plain-queue (AskItem lane) queue plain = refl
plain-queue (FaultItem lane f) queue plain = absurd plain

pub plain-hold : (item : Item) (hold : Option (List PutOff)) → IsNoFault item → hold ≡ hold_after item hold
plain-hold (Append lane shard replica bytes) hold plain = refl
plain-hold (Read lane shard replica position) hold plain = refl
plain-hold (Subscribe lane shard replica from count) hold plain = refl
plain-hold (Trim lane position) hold plain = refl
plain-hold (Add lane shard) hold plain = refl
plain-hold (Finalise lane shard) hold plain = refl
plain-hold (AskItem lane) hold plain = refl
plain-hold (FaultItem lane f) hold plain = absurd plain

pub plain-plans : (item : Item) (plans : List Planned) → IsNoFault item → plans ≡ plans_after item plans
plain-plans (Append lane shard replica bytes) plans plain = refl
plain-plans (Read lane shard replica position) plans plain = refl
plain-plans (Subscribe lane shard replica from count) plans plain = refl
plain-plans (Trim lane position) plans plain = refl
plain-plans (Add lane shard) plans plain = refl
plain-plans (Finalise lane shard) plans plain = refl
plain-plans (AskItem lane) plans plain = refl
plain-plans (FaultItem lane f) plans plain = absurd plain

-- an item begins, part by part
pub begun-made : (s now : Scheduled) (item : Item) (items : List Item) (run : ℕ) (draws : List ℕ) (primaries : List (Option NodeId)) (records : List (List ℕ))
    (duties : List Duty) (queue : List Waiting) (stream : Following) (hold : Option (List PutOff)) (plans : List Planned) (replies : List Reply)
    → s ≡ now → run ≡ s.run → draws ≡ drawn item s.draws → primaries ≡ primaries_after s.config item s.primaries → records ≡ records_after item s.records
    → queue ≡ queue_after item s.queue → stream ≡ stream_before item s.stream → hold ≡ hold_after item s.hold → plans ≡ plans_after item s.plans
    → duties ≡ duties_with (Some (begins s item)) s.duties
    → ((taken : Following) → replies ≡ replies_with (Some (begins s item)) taken s.replies)
    → record s {
      run = run;
      items = items;
      duties = duties;
      queue = queue;
      draws = draws;
      primaries = primaries;
      records = records;
      stream = stream;
      hold = hold;
      plans = plans;
      replies = replies;
    } ≡ begun now item items
begun-made s now item items run draws primaries records duties queue stream hold plans replies same run_is draws_is primaries_is records_are queue_is stream_is
    hold_is plans_are duties_is replies_are =
    rw (run_is, draws_is, primaries_is, records_are, queue_is, stream_is, hold_is, plans_are, duties_is, replies_are (stream_before item s.stream))
    (taken-first (entered s item items) (begins s item) (beginning-first s.config s.run s.draws s.primaries (scene_of s) item)
    ∙ ap (λ (x : Scheduled). begun x item items) same)

-- what a line makes due comes before all else, and its hold begins or ends
pub line-kept : (config : Shape) (run : ℕ) (some items : List Item) (lane : ℕ) (f : Fault) (course : Course) (duties all : List Duty) (awaited : Option Awaited)
    (hold between then_held : Option (List PutOff)) (count : ℕ) (draws : List ℕ) (primaries : List (Option NodeId)) (scene : Scene) → InRange config
    → some ≡ FaultItem lane f ∷ items → scene.questions ≡ questions_of hold → course ≡ beginning config run draws primaries scene (FaultItem lane f)
    → all ≡ duties_with (Some course) duties → between ≡ hold_with (Some course) count hold → then_held ≡ hold_after (FaultItem lane f) between
    → IsKept config run some duties awaited hold draws → IsKept config run items all awaited then_held draws
line-kept config run some items lane f course duties all awaited hold between then_held count draws primaries scene range some_is scene_is course_is all_is between_is
    then_is h =
    let first : IsFirst course = subst IsFirst (sym course_is) (beginning-first config run draws primaries scene (FaultItem lane f)) in
    begun-kept config run some items (FaultItem lane f) duties all awaited hold then_held draws draws primaries scene range some_is scene_is
    (all_is ∙ ap (λ (c : Course). duties_with (Some c) duties) course_is)
    (then_is ∙ ap (hold_after (FaultItem lane f)) (between_is ∙ first-hold course count hold first))
    refl h

length-recorded : (item : Item) (records : List (List ℕ)) → length (records_after item records) ≡ length records
length-recorded (Append lane shard replica bytes) records = length-set records lane bytes
length-recorded item records = refl

pub recorded-length : (item : Item) (records now : List (List ℕ)) → now ≡ records_after item records → length records ≡ 64 → length now ≡ 64
recorded-length item records now e all = ap (λ (l : List (List ℕ)). length l) e ∙ length-recorded item records ∙ all

-- a line begins, part by part
pub line-begun : (s now : Scheduled) (lane : ℕ) (f : Fault) (items : List Item) (course : Course) (duties : List Duty) (queue : List Waiting) (stream : Following)
    (between hold : Option (List PutOff)) (count : ℕ) (plans : List Planned) (replies : List Reply) → s ≡ now → course ≡ begins now (FaultItem lane f)
    → duties ≡ duties_with (Some course) s.duties → stream ≡ stream_with (Some course) s.stream → between ≡ hold_with (Some course) count s.hold
    → hold ≡ hold_after (FaultItem lane f) between → queue ≡ queue_after (FaultItem lane f) s.queue → plans ≡ plans_after (FaultItem lane f) s.plans
    → replies ≡ replies_with (Some course) s.stream s.replies
    → record s { items = items; duties = duties; queue = queue; stream = stream; hold = hold; plans = plans; replies = replies } ≡ begun now (FaultItem lane f) items
line-begun s now lane f items course duties queue stream between hold count plans replies same course_is duties_is stream_is between_is hold_is queue_is plans_are
    replies_are =
    let begun_is : course ≡ begins s (FaultItem lane f) = course_is ∙ ap (λ (x : Scheduled). begins x (FaultItem lane f)) (sym same) in
    let first : IsFirst course = subst IsFirst (sym begun_is) (beginning-first s.config s.run s.draws s.primaries (scene_of s) (FaultItem lane f)) in
    begun-made s now (FaultItem lane f) items s.run s.draws s.primaries s.records duties queue stream hold plans replies same refl refl refl refl queue_is
    (stream_is ∙ first-stream course s.stream first)
    (hold_is ∙ ap (hold_after (FaultItem lane f)) (between_is ∙ first-hold course count s.hold first))
    plans_are
    (duties_is ∙ ap (λ (c : Course). duties_with (Some c) s.duties) begun_is)
    (λ taken. replies_are ∙ first-replies course s.stream taken s.replies first ∙ ap (λ (c : Course). replies_with (Some c) taken s.replies) begun_is)
