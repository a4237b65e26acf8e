-- What an item may have due, and how it goes to its reply.
use Rattle.std.proofs.Common.{◌≡◌, ◌==◌, ◌+◌, ◌≤◌, ◌<◌, ℕ, zero, suc, Bool, true, false, cond, nat_lt, List, [], ◌∷◌, ◌++◌, length, map, slice_get, slice_set, get_or, Option, Some, None, refl, ap, subst, length-append, arith}
use Rattle.std.specs.List.{AllByRecursion, AllZip}
use Rattle.std.proofs.lemmas.Bool.{ltb-true}
use Rattle.std.proofs.lemmas.Option.{none-some, same_Some}
use Rattle.log_base.specs.ClusterShape.{Shape}
use Rattle.log_base.specs.declared.numbers.Client.{Client}
use Rattle.log_base.specs.declared.numbers.NodeId.{NodeId}
use Rattle.log_base.specs.declared.numbers.Number.{Number}
use Rattle.log_base.specs.declared.numbers.Position.{Position}
use Rattle.log_base.specs.declared.numbers.Replica.{Replica}
use Rattle.log_base.specs.declared.numbers.Shard.{Shard}
use Rattle.record_frame.specs.declared.entries.Entry.{Entry}
use Rattle.record_frame.specs.declared.values.Value.{Value}
use Rattle.fault_script.specs.declared.fault.Fault.{Fault}
use Rattle.fault_script.specs.declared.fault.Fault.TheVariants as fault
use Rattle.command_frame.specs.declared.items.Item.{Item}
use Rattle.command_frame.specs.declared.items.Item.TheVariants.{Append, Read, Subscribe, Trim, Add, Finalise, Ask as AskItem, Fault as FaultItem}
use Rattle.command_frame.specs.Items.{IsItem}
use Rattle.reply_frame.specs.declared.replies.Reply.{Reply, Nothing, Stored, Found, Down, Elsewhere, Taken, NotLeading, NoLeader, NoLetter, Done}
use Rattle.subscriber.specs.Following.{Following, after_offer, next_of}
use Rattle.schedule_model.specs.declared.courses.Course.{Course}
use Rattle.schedule_model.specs.declared.courses.Course.TheVariants.{Replies, GoesOn, Takes, Completes, Ends, Answers, PutsOff, Replaces}
use Rattle.schedule_model.specs.declared.duties.Awaited.{Awaited}
use Rattle.schedule_model.specs.declared.duties.Awaited.TheVariants.{Storing, Requesting, Reading, Streaming, StreamingOn, Last, Held, Again}
use Rattle.schedule_model.specs.declared.duties.Afterwards.TheVariants.{TakenOut, LeftIn}
use Rattle.schedule_model.specs.declared.duties.Duty.{Duty}
use Rattle.schedule_model.specs.declared.duties.Duty.TheVariants.{Give, DeliverAll, DeliverOne, MakeCall}
use Rattle.schedule_model.specs.declared.duties.PutOff.{PutOff}
use Rattle.schedule_model.specs.declared.duties.Question.{Question}
use Rattle.schedule_model.specs.declared.duties.Question.TheVariants as question
use Rattle.schedule_model.specs.declared.duties.Subscription.{Subscription}
use Rattle.schedule_model.specs.Courses.{Scene, asked, asked_again, asked_anew, asked_last, beginning, client_of, confirmation, course_in, course_of, enquiry, following, following_on, held_course_of, is_put_off, last_number, line_course, reading_at, request, resubmitted, with_entry}
use Rattle.schedule_model.specs.Duties.{settling}
use Rattle.schedule_model.specs.Streams.{is_taken, IsSingle, moved_on, stream_of, wants_more}
use Rattle.schedule_model.specs.Scheduling.{stream_before}
use Rattle.schedule_model.proofs.Counted.{calls_in, step_in}
use Rattle.schedule_model.proofs.Kept.{each-append}
use Rattle.stream_law.specs.Replies.{IsReplyTo}

-- ---- two lists side by side

pub zip-push : {X Y : Type 0} (R : X → Y → Type 0) (xs : List X) (ys : List Y) (x : X) (y : Y) → AllZip R xs ys → R x y → AllZip R (xs ++ x ∷ []) (ys ++ y ∷ [])
zip-push R [] [] x y h last = (last, tt)
zip-push R [] (b ∷ ys) x y h last = absurd h
zip-push R (a ∷ xs) [] x y h last = absurd h
zip-push R (a ∷ xs) (b ∷ ys) x y h last = (h.0, zip-push R xs ys x y h.1 last)

pub zip-at : {X Y : Type 0} (R : X → Y → Type 0) (xs more : List X) (ys : List Y) → AllZip R xs ys → (k : ℕ) (x : X) (y : Y) → slice_get (xs ++ more) k ≡ Some x
    → slice_get ys k ≡ Some y → R x y
zip-at R [] more [] h k x y one other = absurd (none-some y other)
zip-at R [] more (b ∷ ys) h k x y one other = absurd h
zip-at R (a ∷ xs) more [] h k x y one other = absurd h
zip-at R (a ∷ xs) more (b ∷ ys) h zero x y one other = subst (λ (z : _). R z y) (same_Some a x one) (subst (R a) (same_Some b y other) h.0)
zip-at R (a ∷ xs) more (b ∷ ys) h (suc k) x y one other = zip-at R xs more ys h.1 k x y one other

-- another in its place
pub zip-set : {X Y : Type 0} (R : X → Y → Type 0) (xs : List X) (ys : List Y) (k : ℕ) (y : Y) → AllZip R xs ys → ((x : X) → slice_get xs k ≡ Some x → R x y)
    → AllZip R xs (slice_set ys k y)
zip-set R [] [] k y h f = tt
zip-set R [] (b ∷ ys) k y h f = absurd h
zip-set R (a ∷ xs) [] k y h f = absurd h
zip-set R (a ∷ xs) (b ∷ ys) zero y h f = (f a refl, h.1)
zip-set R (a ∷ xs) (b ∷ ys) (suc k) y h f = (h.0, zip-set R xs ys k y h.1 f)

pub zip-length : {X Y : Type 0} (R : X → Y → Type 0) (xs : List X) (ys : List Y) → AllZip R xs ys → length xs ≡ length ys
zip-length R [] [] h = refl
zip-length R [] (b ∷ ys) h = absurd h
zip-length R (a ∷ xs) [] h = absurd h
zip-length R (a ∷ xs) (b ∷ ys) h = ap suc (zip-length R xs ys h.1)

-- ---- items that have no stream

abbrev pub IsPlain : Item → Type 0
IsPlain (Subscribe lane shard replica from count) = ⊥
IsPlain item = Unit {0}

-- the subscription of an item, with what it may take yet
abbrev pub IsWanted : Item → Following → Subscription → Type 0
IsWanted (Subscribe lane shard replica from count) stream s = (stream.from ≡ from.0) × (length stream.delivered + s.count ≤ count) × (1 ≤ s.count)
IsWanted item stream s = ⊥

-- the item in a place has no stream
abbrev pub IsPlainAt : List Item → ℕ → Type 0
IsPlainAt all place = (item : Item) → slice_get all place ≡ Some item → IsPlain item

pub plain-reply : (item : Item) (reply : Reply) → IsPlain item → IsSingle reply → IsReplyTo item reply
plain-reply (Subscribe lane shard replica from count) reply plain single = absurd plain
plain-reply item reply plain single = single

-- the stream as it is
ended : (item : Item) (stream : Following) (s : Subscription) (last : Reply) → IsWanted item stream s → IsReplyTo item (stream_of stream last)
ended (Subscribe lane shard replica from count) stream s last h =
    let most : length stream.delivered + s.count ≤ count = h.1 in
    let position : ℕ → Position = λ n. record { 0 = n } in
    (ap position h.0, omega arith)
ended item stream s last h = absurd h

-- an entry more
offered : (item : Item) (stream : Following) (s : Subscription) (entry : Entry) (next : Bool) → 1 < s.count → IsWanted item stream s
    → IsWanted item (cond next (record stream { delivered = stream.delivered ++ entry ∷ [] }) stream) (moved_on s entry)
offered (Subscribe lane shard replica from count) stream s entry true more h =
    let most : length stream.delivered + s.count ≤ count = h.1 in
    let longer = length-append stream.delivered (entry ∷ []) in
    (h.0, omega arith, omega arith)
offered (Subscribe lane shard replica from count) stream s entry false more h =
    let most : length stream.delivered + s.count ≤ count = h.1 in
    (h.0, omega arith, omega arith)
offered item stream s entry next more h = absurd h

-- the last that is wanted
filled : (item : Item) (stream : Following) (s : Subscription) (entry : Entry) (next : Bool) → IsWanted item stream s
    → IsReplyTo item (stream_of (cond next (record stream { delivered = stream.delivered ++ entry ∷ [] }) stream) Nothing)
filled (Subscribe lane shard replica from count) stream s entry true h =
    let most : length stream.delivered + s.count ≤ count = h.1 in
    let some : 1 ≤ s.count = h.2 in
    let longer = length-append stream.delivered (entry ∷ []) in
    let position : ℕ → Position = λ n. record { 0 = n } in
    (ap position h.0, omega arith)
filled (Subscribe lane shard replica from count) stream s entry false h =
    let most : length stream.delivered + s.count ≤ count = h.1 in
    let position : ℕ → Position = λ n. record { 0 = n } in
    (ap position h.0, omega arith)
filled item stream s entry next h = absurd h

-- ---- what is due for an item of a run

module _ (all : List Item) where
  abbrev pub IsCallFor : Item → Following → Awaited → Type 0
  IsCallFor item stream (Streaming s) = IsWanted item stream s
  IsCallFor item stream (StreamingOn s) = IsWanted item stream s
  IsCallFor item stream (Again place) = IsPlainAt all place
  IsCallFor item stream awaited = IsPlain item

  abbrev pub IsDutyFor : Item → Following → Duty → Type 0
  IsDutyFor item stream (Give signal first count) = Unit {0}
  IsDutyFor item stream DeliverAll = Unit {0}
  IsDutyFor item stream (DeliverOne letter afterwards) = Unit {0}
  IsDutyFor item stream (MakeCall node call awaited) = IsCallFor item stream awaited

  -- an item that is asked again has no stream
  abbrev pub IsLateCall : Awaited → Type 0
  IsLateCall (Again place) = IsPlainAt all place
  IsLateCall awaited = Unit {0}

  abbrev pub IsLateDuty : Duty → Type 0
  IsLateDuty (Give signal first count) = Unit {0}
  IsLateDuty DeliverAll = Unit {0}
  IsLateDuty (DeliverOne letter afterwards) = Unit {0}
  IsLateDuty (MakeCall node call awaited) = IsLateCall awaited

  abbrev pub IsLateQuestion : PutOff → Type 0
  IsLateQuestion late = IsPlainAt all late.item

  -- a call that is no step of an item asks one again
  late-call : (item : Item) (stream : Following) (awaited : Awaited) → step_in awaited ≡ 0 → IsLateCall awaited → IsCallFor item stream awaited
  late-call item stream (Again place) none h = h
  late-call item stream awaited none h = absurd (omega arith)

  pub late-duties : (item : Item) (stream : Following) (duties : List Duty) → calls_in duties ≡ 0 → AllByRecursion IsLateDuty duties
      → AllByRecursion (IsDutyFor item stream) duties
  late-duties item stream [] none h = tt
  late-duties item stream (Give signal first count ∷ duties) none h = (tt, late-duties item stream duties (omega arith) h.1)
  late-duties item stream (DeliverAll ∷ duties) none h = (tt, late-duties item stream duties (omega arith) h.1)
  late-duties item stream (DeliverOne letter afterwards ∷ duties) none h = (tt, late-duties item stream duties (omega arith) h.1)
  late-duties item stream (MakeCall node call awaited ∷ duties) none h =
      let step : step_in awaited ≡ 0 = omega arith in (late-call item stream awaited step h.0, late-duties item stream duties (omega arith) h.1)

  call-late : (item : Item) (stream : Following) (awaited : Awaited) → IsCallFor item stream awaited → IsLateCall awaited
  call-late item stream (Again place) h = h
  call-late item stream awaited h = tt

  pub duties-late : (item : Item) (stream : Following) (duties : List Duty) → AllByRecursion (IsDutyFor item stream) duties → AllByRecursion IsLateDuty duties
  duties-late item stream [] h = tt
  duties-late item stream (Give signal first count ∷ duties) h = (tt, duties-late item stream duties h.1)
  duties-late item stream (DeliverAll ∷ duties) h = (tt, duties-late item stream duties h.1)
  duties-late item stream (DeliverOne letter afterwards ∷ duties) h = (tt, duties-late item stream duties h.1)
  duties-late item stream (MakeCall node call awaited ∷ duties) h = (call-late item stream awaited h.0, duties-late item stream duties h.1)

  -- ---- how an item goes

  abbrev pub IsGood : Item → Following → Course → Type 0
  IsGood item stream (Replies reply) = IsReplyTo item reply
  IsGood item stream (GoesOn duties) = AllByRecursion (IsDutyFor item stream) duties
  IsGood item stream (Takes position entry next) = IsDutyFor item (after_offer stream position.0 entry) next
  IsGood item stream (Completes position entry) = IsReplyTo item (stream_of (after_offer stream position.0 entry) Nothing)
  IsGood item stream (Ends last) = IsReplyTo item (stream_of stream last)
  IsGood item stream (Answers reply duties) = IsReplyTo item reply × AllByRecursion IsLateDuty duties
  IsGood item stream (PutsOff reply asked) = IsPlain item × IsReplyTo item reply
  IsGood item stream (Replaces place reply) = Unit {0}

  requested-good : (config : Shape) (item : Item) (stream : Following) (orderer : ℕ) (client : Client) (value : Value) (more : Bool) → IsPlain item
      → IsGood item stream (cond more (GoesOn (request config orderer client value ∷ [])) (Replies NoLeader))
  requested-good config item stream orderer client value true plain = (plain, tt)
  requested-good config item stream orderer client value false plain = plain-reply item NoLeader plain tt

  read-good : (config : Shape) (item : Item) (stream : Following) (shard : Shard) (replica : Replica) (client : Client) (position : Position) (more : Bool) → IsPlain item
      → IsGood item stream (cond more (GoesOn (reading_at config shard.0 replica client position Last ∷ [])) (Replies (Elsewhere shard)))
  read-good config item stream shard replica client position true plain = (plain, tt)
  read-good config item stream shard replica client position false plain = plain-reply item (Elsewhere shard) plain tt

  with_entry-good : (config : Shape) (item : Item) (stream : Following) (s : Subscription) (entry : Entry) (more : Bool) → wants_more s ≡ more → IsWanted item stream s
      → IsGood item stream (cond more (Takes s.position entry (following config (moved_on s entry))) (Completes s.position entry))
  with_entry-good config item stream s entry true wants h = offered item stream s entry (s.position.0 == next_of stream) (ltb-true 1 s.count wants) h
  with_entry-good config item stream s entry false wants h = filled item stream s entry (s.position.0 == next_of stream) h

  found-good : (config : Shape) (item : Item) (stream : Following) (s : Subscription) (entry : Entry) (takes : Bool) → IsWanted item stream s
      → IsGood item stream (cond takes (with_entry config s entry) (Ends Nothing))
  found-good config item stream s entry true h = with_entry-good config item stream s entry (wants_more s) refl h
  found-good config item stream s entry false h = ended item stream s Nothing h

  told-good : (config : Shape) (item : Item) (stream : Following) (shard : Shard) (s : Subscription) (more : Bool) → IsWanted item stream s
      → IsGood item stream (cond more (GoesOn (following_on config shard.0 s ∷ [])) (Ends (Elsewhere shard)))
  told-good config item stream shard s true h = (h, tt)
  told-good config item stream shard s false h = ended item stream s (Elsewhere shard) h

  settling-good : (item : Item) (stream : Following) (config : Shape) → AllByRecursion (IsDutyFor item stream) (settling config)
  settling-good item stream config = (tt, (tt, (tt, (tt, (tt, (tt, (tt, (tt, tt))))))))

  put_off-good : (item : Item) (stream : Following) (asked : Question) (reply : Reply) (late : Bool) → IsPlain item → IsSingle reply
      → IsGood item stream (cond late (PutsOff reply asked) (Replies reply))
  put_off-good item stream asked reply true plain single = (plain, plain-reply item reply plain single)
  put_off-good item stream asked reply false plain single = plain-reply item reply plain single

  course-good : (config : Shape) (item : Item) (stream : Following) (awaited : Awaited) (reply : Reply) → IsSingle reply → IsCallFor item stream awaited
      → IsGood item stream (course_of config awaited reply)
  course-good config item stream (Storing primary client number) (Stored offset) single h =
      each-append (IsDutyFor item stream) (settling config) (enquiry primary client number ∷ []) (settling-good item stream config) (h, tt)
  course-good config item stream (Requesting orderer client value) NotLeading single h =
      requested-good config item stream (orderer + 1) client value (nat_lt (orderer + 1) config.orderers) h
  course-good config item stream (Requesting orderer client value) Down single h =
      requested-good config item stream (orderer + 1) client value (nat_lt (orderer + 1) config.orderers) h
  course-good config item stream (Requesting orderer client value) (Taken slot) single h =
      each-append (IsDutyFor item stream) (settling config) (confirmation config orderer client value slot ∷ []) (settling-good item stream config) (h, tt)
  course-good config item stream (Reading replica client position) (Elsewhere shard) single h =
      read-good config item stream shard replica client position (nat_lt shard.0 config.shards) h
  course-good config item stream (Streaming s) (Found told entry) single h = found-good config item stream s entry (is_taken s entry) h
  course-good config item stream (Streaming s) (Elsewhere shard) single h = told-good config item stream shard s (nat_lt shard.0 config.shards) h
  course-good config item stream (StreamingOn s) (Found told entry) single h = found-good config item stream s entry (is_taken s entry) h
  course-good config item stream (Storing primary client number) reply single h = plain-reply item reply h single
  course-good config item stream (Requesting orderer client value) reply single h = plain-reply item reply h single
  course-good config item stream (Reading replica client position) reply single h = plain-reply item reply h single
  course-good config item stream (Streaming s) reply single h = ended item stream s reply h
  course-good config item stream (StreamingOn s) reply single h = ended item stream s reply h
  course-good config item stream Last reply single h = plain-reply item reply h single
  course-good config item stream (Held asked) reply single h = put_off-good item stream asked reply (is_put_off reply) h single
  course-good config item stream (Again place) reply single h = tt

  held-good : (config : Shape) (item : Item) (stream : Following) (awaited : Awaited) (reply : Reply) → IsSingle reply → IsCallFor item stream awaited
      → IsGood item stream (held_course_of config awaited reply)
  held-good config item stream (Storing primary client number) (Stored offset) single h = (h, tt)
  held-good config item stream (Requesting orderer client value) (Taken slot) single h = (h, tt)
  held-good config item stream awaited reply single h = course-good config item stream awaited reply single h

  pub in-good : (config : Shape) (hold : Option (List PutOff)) (item : Item) (stream : Following) (awaited : Awaited) (reply : Reply) → IsSingle reply
      → IsCallFor item stream awaited → IsGood item stream (course_in config hold awaited reply)
  in-good config None item stream awaited reply single h = course-good config item stream awaited reply single h
  in-good config (Some put_off) item stream awaited reply single h = held-good config item stream awaited reply single h

  asked-good : (lane : ℕ) (stream : Following) (client : Client) (number : Number) (primary : Option NodeId) → IsGood (AskItem lane) stream (asked client number primary)
  asked-good lane stream client number None = tt
  asked-good lane stream client number (Some primary) = (tt, tt)

  -- ---- a line of the fault script

  anew-late : (config : Shape) (late : PutOff) (asked : Question) → IsPlainAt all late.item → IsLateDuty (asked_last config asked (Again late.item))
  anew-late config late (question.Append primary client number) h = h
  anew-late config late (question.Wish orderer client value start) h = h

  all-anew-late : (config : Shape) (put_off : List PutOff) → AllByRecursion IsLateQuestion put_off → AllByRecursion IsLateDuty (map (asked_anew config) put_off)
  all-anew-late config [] h = tt
  all-anew-late config (late ∷ put_off) h = (anew-late config late late.question h.0, all-anew-late config put_off h.1)

  settling-late : (config : Shape) → AllByRecursion IsLateDuty (settling config)
  settling-late config = (tt, (tt, (tt, (tt, (tt, (tt, (tt, (tt, tt))))))))

  resubmitted-good : (lane : ℕ) (f : Fault) (stream : Following) (client : Client) (number : Number) (bytes : List ℕ) (primary : Option NodeId)
      → IsGood (FaultItem lane f) stream (resubmitted client number bytes primary)
  resubmitted-good lane f stream client number bytes None = tt
  resubmitted-good lane f stream client number bytes (Some primary) = (tt, tt)

  with_letter-good : (lane : ℕ) (f : Fault) (stream : Following) (course : Course) (waiting : ℕ) (there : Bool) → IsGood (FaultItem lane f) stream course
      → IsGood (FaultItem lane f) stream (cond there course (Replies (NoLetter waiting)))
  with_letter-good lane f stream course waiting true h = h
  with_letter-good lane f stream course waiting false h = tt

  -- the line that is read, of an item
  line-good : (config : Shape) (lane : ℕ) (of : Fault) (stream : Following) (scene : Scene) (again : Course) (f : Fault) → AllByRecursion IsLateQuestion scene.questions
      → IsGood (FaultItem lane of) stream again → IsGood (FaultItem lane of) stream (line_course config scene again f)
  line-good config lane of stream scene again fault.Hold late h = tt
  line-good config lane of stream scene again fault.Settle late h =
      (tt, each-append IsLateDuty (settling config) (asked_again config scene.questions) (settling-late config) (all-anew-late config scene.questions late))
  line-good config lane of stream scene again (fault.Tick node) late h = (tt, (tt, tt))
  line-good config lane of stream scene again (fault.Deliver letter) late h =
      with_letter-good lane of stream (Answers Done (DeliverOne letter TakenOut ∷ [])) scene.waiting (nat_lt letter scene.waiting) (tt, (tt, tt))
  line-good config lane of stream scene again (fault.Drop letter) late h =
      with_letter-good lane of stream (Replies Done) scene.waiting (nat_lt letter scene.waiting) tt
  line-good config lane of stream scene again (fault.Again letter) late h =
      with_letter-good lane of stream (Answers Done (DeliverOne letter LeftIn ∷ [])) scene.waiting (nat_lt letter scene.waiting) (tt, (tt, tt))
  line-good config lane of stream scene again (fault.Stop node) late h = (tt, (tt, tt))
  line-good config lane of stream scene again (fault.StopAfter node after keep) late h = tt
  line-good config lane of stream scene again (fault.Lose node after) late h = tt
  line-good config lane of stream scene again (fault.Restart node) late h = (tt, (tt, tt))
  line-good config lane of stream scene again (fault.Lead orderer) late h = (tt, (tt, tt))
  line-good config lane of stream scene again fault.Resubmit late h = h

  pub beginning-good : (config : Shape) (run : ℕ) (draws : List ℕ) (primaries : List (Option NodeId)) (scene : Scene) (stream : Following) (item : Item) → IsItem config item
      → AllByRecursion IsLateQuestion scene.questions → IsGood item (stream_before item stream) (beginning config run draws primaries scene item)
  beginning-good config run draws primaries scene stream (Append lane shard replica bytes) is late = (tt, tt)
  beginning-good config run draws primaries scene stream (Read lane shard replica position) is late = (tt, tt)
  beginning-good config run draws primaries scene stream (Subscribe lane shard replica from count) is late = ((refl, omega arith, is.4), tt)
  beginning-good config run draws primaries scene stream (Trim lane position) is late = (tt, tt)
  beginning-good config run draws primaries scene stream (Add lane shard) is late = (tt, tt)
  beginning-good config run draws primaries scene stream (Finalise lane shard) is late = (tt, tt)
  beginning-good config run draws primaries scene stream (AskItem lane) is late = asked-good lane stream (client_of lane) (last_number run draws lane) (get_or primaries lane None)
  beginning-good config run draws primaries scene stream (FaultItem lane f) is late =
      line-good config lane f stream scene (resubmitted (client_of lane) (last_number run draws lane) (get_or scene.records lane []) (get_or primaries lane None)) f
      late (resubmitted-good lane f stream (client_of lane) (last_number run draws lane) (get_or scene.records lane []) (get_or primaries lane None))
