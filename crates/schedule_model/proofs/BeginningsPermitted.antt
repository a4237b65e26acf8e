-- What items make due as they begin is permitted.
use Rattle.std.proofs.Common.{◌≡◌, ℕ, ◌+◌, ◌-◌, ◌<◌, ◌≤◌, suc, List, [], ◌∷◌, length, get_or, Option, Some, None, ap, sym, subst, ⊎_elim, ◌∙◌, arith}
use Rattle.std.specs.List.{AllByRecursion}
use Rattle.std.specs.Prelude.{slice_set}
use Rattle.std.proofs.lemmas.Grind.{common_steps}
use Rattle.std.proofs.lemmas.Bool.{cases_eq}
use Rattle.std.proofs.lemmas.List.{get_or-set_other, get_or-set_same, length-set}
use Rattle.log_base.specs.ClusterShape.{InRange, Shape}
use Rattle.log_base.specs.declared.numbers.Client.{Client}
use Rattle.log_base.specs.declared.numbers.NodeId.{NodeId}
use Rattle.log_base.specs.declared.numbers.Number.{Number}
use Rattle.record_frame.specs.declared.values.Value.{Value}
use Rattle.record_frame.specs.declared.values.Value.TheVariants.{Add as AddValue, Finalise as FinaliseValue, Trim as TrimValue}
use Rattle.record_frame.specs.Entries.{IsEntry, entry_of}
use Rattle.command_frame.specs.declared.items.Item.{Item}
use Rattle.command_frame.specs.declared.items.Item.TheVariants.{Append, Read, Subscribe, Trim, Add, Finalise, Ask as AskItem, Fault as FaultItem}
use Rattle.command_frame.specs.Items.{IsItem}
use Rattle.node_table.specs.Numbering.{storage_node}
use Rattle.node_table.proofs.Roles.{storage_node-lt}
use Rattle.schedule_model.specs.declared.courses.Course.{Course}
use Rattle.schedule_model.specs.declared.courses.Course.TheVariants.{GoesOn}
use Rattle.schedule_model.specs.declared.duties.PutOff.{PutOff}
use Rattle.schedule_model.specs.declared.duties.Planned.{Planned}
use Rattle.schedule_model.specs.Calling.{IsPlanned}
use Rattle.schedule_model.specs.Courses.{asked, client_of, last_number, next_number, request, resubmitted}
use Rattle.schedule_model.specs.Scheduling.{Scheduled, Waiting, begins, begun, entered, hold_after, plans_after, queue_after, scene_of, taken}
use Rattle.subscriber.specs.Following.{Following, following_from}
use Rattle.schedule_model.proofs.Kept.{taken-parts}
use Rattle.schedule_model.proofs.Questions.{questions-after}
use Rattle.schedule_model.proofs.Permitted.{AllPermitted, HaveRoom, IsHeldAt, IsLateAt, IsPrimaryOr, IsStorageNode, IsWish}
use Rattle.schedule_model.proofs.LinesPermitted.{IsCoursePermitted, line-permitted, line-plans, orderer-is, record-kept, resubmitted-permitted}
use Rattle.schedule_model.proofs.AnswersPermitted.{questions-permitted, with-permitted}

-- ---- lanes

-- a lane that draws a number leaves room for the others
room-at : (draws : List ℕ) (lane count k : ℕ) → get_or draws k 0 + suc count ≤ 65536 → get_or draws lane 0 + suc count ≤ 65536 → lane < length draws
    → get_or (slice_set draws lane (get_or draws lane 0 + 1)) k 0 + count ≤ 65536
room-at draws lane count k h here within = grind (arith, common_steps)

pub room-drawn : (draws : List ℕ) (lane count : ℕ) → HaveRoom draws (suc count) → lane < length draws
    → HaveRoom (slice_set draws lane (get_or draws lane 0 + 1)) count
room-drawn draws lane count h within = λ k. room-at draws lane count k (h k) (h lane) within

pub room-less : (draws : List ℕ) (count : ℕ) → HaveRoom draws (suc count) → HaveRoom draws count
room-less draws count h = λ k. let room : get_or draws k 0 + suc count ≤ 65536 = h k in omega arith

-- a primary that is kept leaves the others as they are
primary-kept : (config : Shape) (primaries : List (Option NodeId)) (lane k : ℕ) (primary : Option NodeId) → lane < length primaries → IsPrimaryOr config primary
    → IsPrimaryOr config (get_or primaries k None) → IsPrimaryOr config (get_or (slice_set primaries lane primary) k None)
primary-kept config primaries lane k primary within new old = ⊎_elim
    (λ same. subst (IsPrimaryOr config) (sym (ap (λ (n : ℕ). get_or (slice_set primaries lane primary) n None) same ∙ get_or-set_same primaries lane primary None within)) new)
    (λ other. subst (IsPrimaryOr config) (sym (get_or-set_other primaries lane k primary None other)) old)
    (cases_eq k lane)

-- ---- an item is taken out

-- one that is no append
left-permitted : (s : Scheduled) (item : Item) (items : List Item) (stream : Following) (hold : Option (List PutOff)) (queue : List Waiting) (plans : List Planned)
    → s.items ≡ item ∷ items → IsHeldAt s.config hold → AllByRecursion (IsPlanned s.config) plans → AllPermitted s
    → AllPermitted (record s { items = items; stream = stream; hold = hold; queue = queue; plans = plans })
left-permitted s item items stream hold queue plans left held planned h =
    let all = subst (AllByRecursion (IsItem s.config)) left h.items in
    let room = subst (λ (some : List Item). HaveRoom s.draws (length some)) left h.room in
    record {
      range = h.range;
      run_fits = h.run_fits;
      items = all.1;
      duties = h.duties;
      answer = h.answer;
      lanes = h.lanes;
      room = room-less s.draws (length items) room;
      kept = h.kept;
      primaries = h.primaries;
      recorded = h.recorded;
      records = h.records;
      questions = held;
      plans = planned;
    }

entered-permitted : (s : Scheduled) (item : Item) (items : List Item) → s.items ≡ item ∷ items → AllPermitted s → AllPermitted (entered s item items)
entered-permitted s (Append lane shard replica bytes) items left h =
    let all = subst (AllByRecursion (IsItem s.config)) left h.items in
    let is = all.0 in
    let room = subst (λ (some : List Item). HaveRoom s.draws (length some)) left h.room in
    let node : IsStorageNode s.config (storage_node s.config shard.0 replica.0) = storage_node-lt s.config shard.0 replica.0 is.1 is.2 in
    record {
      range = h.range;
      run_fits = h.run_fits;
      items = all.1;
      duties = h.duties;
      answer = h.answer;
      lanes = length-set s.draws lane (get_or s.draws lane 0 + 1) ∙ h.lanes;
      room = room-drawn s.draws lane (length items) room (subst (λ (n : ℕ). lane < n) (sym h.lanes) is.0);
      kept = length-set s.primaries lane (Some (record { 0 = storage_node s.config shard.0 replica.0 })) ∙ h.kept;
      primaries = λ k. primary-kept s.config s.primaries lane k (Some (record { 0 = storage_node s.config shard.0 replica.0 }))
          (subst (λ (n : ℕ). lane < n) (sym h.kept) is.0) node (h.primaries k);
      recorded = length-set s.records lane bytes ∙ h.recorded;
      records = λ k. record-kept s.records lane k bytes (subst (λ (n : ℕ). lane < n) (sym h.recorded) is.0) (is.3, is.4) (h.records k);
      questions = h.questions;
      plans = h.plans;
    }
entered-permitted s (Read lane shard replica position) items left h =
    left-permitted s (Read lane shard replica position) items s.stream s.hold s.queue s.plans left h.questions h.plans h
entered-permitted s (Subscribe lane shard replica from count) items left h =
    left-permitted s (Subscribe lane shard replica from count) items (following_from from.0) s.hold s.queue s.plans left h.questions h.plans h
entered-permitted s (Trim lane position) items left h = left-permitted s (Trim lane position) items s.stream s.hold s.queue s.plans left h.questions h.plans h
entered-permitted s (Add lane shard) items left h = left-permitted s (Add lane shard) items s.stream s.hold s.queue s.plans left h.questions h.plans h
entered-permitted s (Finalise lane shard) items left h = left-permitted s (Finalise lane shard) items s.stream s.hold s.queue s.plans left h.questions h.plans h
entered-permitted s (AskItem lane) items left h = left-permitted s (AskItem lane) items s.stream s.hold s.queue s.plans left h.questions h.plans h
entered-permitted s (FaultItem lane f) items left h =
    let all = subst (AllByRecursion (IsItem s.config)) left h.items in
    left-permitted s (FaultItem lane f) items s.stream (hold_after (FaultItem lane f) s.hold) (queue_after (FaultItem lane f) s.queue)
    (plans_after (FaultItem lane f) s.plans) left (questions-after (IsLateAt s.config) (FaultItem lane f) s.hold h.questions) (line-plans s.config lane f s.plans all.0.1 h.plans) h

-- ---- what it makes due

-- a value of the cluster is requested
wished-permitted : (config : Shape) (client : Client) (value : Value) → InRange config → IsWish config value
    → IsCoursePermitted config (GoesOn (request config 0 client value ∷ []))
wished-permitted config client value range wish =
    let some : 0 < config.orderers = let odd = range.odd in omega arith in
    (((orderer-is config 0 some, wish), (some, wish)), tt)

-- a lane's last append is asked for
asked-permitted : (config : Shape) (client : Client) (number : Number) (primary : Option NodeId) → IsPrimaryOr config primary
    → IsCoursePermitted config (asked client number primary)
asked-permitted config client number None h = tt
asked-permitted config client number (Some primary) h = ((h, tt), tt)

begins-permitted : (s : Scheduled) (item : Item) → IsItem s.config item → AllPermitted s → IsCoursePermitted s.config (begins s item)
begins-permitted s (Append lane shard replica bytes) is h =
    let small : s.run ≤ 1000000 = h.run_fits in
    let room : get_or s.draws lane 0 + length s.items ≤ 65536 = h.room lane in
    let entry : IsEntry (entry_of (client_of lane) (next_number s.run s.draws lane) bytes) = record {
      client = let low : lane < 64 = is.0 in omega arith;
      number = omega arith;
      size = is.3;
      bytes = is.4;
    } in
    let node : IsStorageNode s.config (storage_node s.config shard.0 replica.0) = storage_node-lt s.config shard.0 replica.0 is.1 is.2 in
    (((node, entry), node), tt)
begins-permitted s (Read lane shard replica position) is h = ((storage_node-lt s.config shard.0 replica.0 is.1 is.2, is.2), tt)
begins-permitted s (Subscribe lane shard replica from count) is h = ((storage_node-lt s.config shard.0 replica.0 is.1 is.2, (is.1, is.2)), tt)
begins-permitted s (Trim lane position) is h =
    wished-permitted s.config (client_of lane) (TrimValue position) h.range (record { requested = tt; valid = is.1; of_config = tt })
begins-permitted s (Add lane shard) is h =
    let few : s.config.shards ≤ 8 = h.range.shards in
    let below : shard.0 < s.config.shards = is.1 in
    wished-permitted s.config (client_of lane) (AddValue shard) h.range (record { requested = tt; valid = omega arith; of_config = below })
begins-permitted s (Finalise lane shard) is h =
    let few : s.config.shards ≤ 8 = h.range.shards in
    let below : shard.0 < s.config.shards = is.1 in
    wished-permitted s.config (client_of lane) (FinaliseValue shard) h.range (record { requested = tt; valid = omega arith; of_config = below })
begins-permitted s (AskItem lane) is h =
    asked-permitted s.config (client_of lane) (last_number s.run s.draws lane) (get_or s.primaries lane None) (h.primaries lane)
begins-permitted s (FaultItem lane f) is h =
    let small : s.run ≤ 1000000 = h.run_fits in
    let room : get_or s.draws lane 0 + length s.items ≤ 65536 = h.room lane in
    let bytes = h.records lane in
    let entry : IsEntry (entry_of (client_of lane) (last_number s.run s.draws lane) (get_or s.records lane [])) = record {
      client = let low : lane < 64 = is.0 in omega arith;
      number = omega arith;
      size = bytes.0;
      bytes = bytes.1;
    } in
    line-permitted s.config (scene_of s) (resubmitted (client_of lane) (last_number s.run s.draws lane) (get_or s.records lane []) (get_or s.primaries lane None)) f
    is.1 h.questions
    (resubmitted-permitted s.config (client_of lane) (last_number s.run s.draws lane) (get_or s.records lane []) (get_or s.primaries lane None) (h.primaries lane) entry)

taken-permitted : (s : Scheduled) (course : Course) → IsCoursePermitted s.config course → AllPermitted s → AllPermitted (taken s course)
taken-permitted s course is h =
    subst AllPermitted (sym (taken-parts s course))
    (record {
      range = h.range;
      run_fits = h.run_fits;
      items = h.items;
      duties = with-permitted s.config course s.duties is h.duties;
      answer = h.answer;
      lanes = h.lanes;
      room = h.room;
      kept = h.kept;
      primaries = h.primaries;
      recorded = h.recorded;
      records = h.records;
      questions = questions-permitted s.config course (length s.replies) s.hold is h.questions;
      plans = h.plans;
    })

pub begun-permitted : (s : Scheduled) (item : Item) (items : List Item) → s.items ≡ item ∷ items → AllPermitted s → AllPermitted (begun s item items)
begun-permitted s item items left h =
    let all = subst (AllByRecursion (IsItem s.config)) left h.items in
    taken-permitted (entered s item items) (begins s item) (begins-permitted s item all.0 h) (entered-permitted s item items left h)
