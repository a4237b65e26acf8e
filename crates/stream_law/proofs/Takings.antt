-- How an item goes, so that what is so of each entry that a read found, and of its position, is so of each entry that its subscription takes.
use Rattle.std.proofs.Common.{◌≡◌, ◌==◌, ◌+◌, ℕ, zero, suc, Bool, true, false, cond, nat_lt, List, [], ◌∷◌, ◌++◌, length, map, slice_get, get_or, Option, Some, None, refl, subst, length-append, arith}
use Rattle.std.specs.List.{AllByRecursion}
use Rattle.std.proofs.lemmas.Bool.{eqb-false}
use Rattle.std.proofs.lemmas.Option.{none-some, same_Some}
use Rattle.log_base.specs.ClusterShape.{Shape}
use Rattle.log_base.specs.declared.numbers.Client.{Client}
use Rattle.log_base.specs.declared.numbers.NodeId.{NodeId}
use Rattle.log_base.specs.declared.numbers.Number.{Number}
use Rattle.log_base.specs.declared.numbers.Position.{Position}
use Rattle.log_base.specs.declared.numbers.Replica.{Replica}
use Rattle.log_base.specs.declared.numbers.Shard.{Shard}
use Rattle.record_frame.specs.declared.entries.Entry.{Entry}
use Rattle.record_frame.specs.declared.values.Value.{Value}
use Rattle.fault_script.specs.declared.fault.Fault.{Fault}
use Rattle.fault_script.specs.declared.fault.Fault.TheVariants as fault
use Rattle.command_frame.specs.declared.items.Item.{Item}
use Rattle.command_frame.specs.declared.items.Item.TheVariants.{Append, Read, Subscribe, Trim, Add, Finalise, Ask as AskItem, Fault as FaultItem}
use Rattle.reply_frame.specs.declared.replies.Reply.{Reply, Nothing, Stored, Found, Down, Elsewhere, Taken, NotLeading, NoLeader, NoLetter, Done, Stream'}
use Rattle.history_frame.specs.declared.inputs.Call.TheVariants.{Read as ReadCall}
use Rattle.history_frame.specs.declared.inputs.Input.{Input}
use Rattle.history_frame.specs.declared.inputs.Input.TheVariants.{Call as ACall}
use Rattle.subscriber.specs.Following.{Following, after_offer, next_of}
use Rattle.schedule_model.specs.declared.courses.Course.{Course}
use Rattle.schedule_model.specs.declared.courses.Course.TheVariants.{Replies, GoesOn, Takes, Completes, Ends, Answers, PutsOff, Replaces}
use Rattle.schedule_model.specs.declared.duties.Awaited.{Awaited}
use Rattle.schedule_model.specs.declared.duties.Awaited.TheVariants.{Storing, Requesting, Reading, Streaming, StreamingOn, Last, Held, Again}
use Rattle.schedule_model.specs.declared.duties.Afterwards.TheVariants.{TakenOut, LeftIn}
use Rattle.schedule_model.specs.declared.duties.Duty.{Duty}
use Rattle.schedule_model.specs.declared.duties.Duty.TheVariants.{Give, DeliverAll, DeliverOne, MakeCall}
use Rattle.schedule_model.specs.declared.duties.PutOff.{PutOff}
use Rattle.schedule_model.specs.declared.duties.Question.{Question}
use Rattle.schedule_model.specs.declared.duties.Question.TheVariants as question
use Rattle.schedule_model.specs.declared.duties.Subscription.{Subscription}
use Rattle.schedule_model.specs.Courses.{Scene, asked, asked_again, asked_anew, asked_last, beginning, client_of, confirmation, course_in, course_of, enquiry, following, following_on, held_course_of, is_put_off, last_number, line_course, reading_at, request, resubmitted, with_entry}
use Rattle.schedule_model.specs.Duties.{settling}
use Rattle.schedule_model.specs.Streams.{is_taken, IsSingle, moved_on, wants_more}
use Rattle.schedule_model.specs.Scheduling.{stream_before}
use Rattle.schedule_model.proofs.Counted.{calls_in, step_in}
use Rattle.schedule_model.proofs.Kept.{each-append}
use Rattle.stream_law.specs.Streams.{EachFrom, EachInStream}

-- ---- entries at positions

each-push : (P : ℕ → Entry → Type 0) (from : ℕ) (xs : List Entry) (x : Entry) → EachFrom P from xs → P (from + length xs) x
    → (i : ℕ) (entry : Entry) → slice_get (xs ++ x ∷ []) i ≡ Some entry → P (from + i) entry
each-push P from [] x h last zero entry at = subst (P (from + 0)) (same_Some x entry at) last
each-push P from [] x h last (suc i) entry at = absurd (none-some entry at)
each-push P from (y ∷ xs) x h last zero entry at = h zero entry at
each-push P from (y ∷ xs) x h last (suc i) entry at =
    let here : suc from + i ≡ from + suc i = omega arith in
    let end : from + suc (length xs) ≡ suc from + length xs = omega arith in
    subst (λ (k : ℕ). P k entry) here
    (each-push P (suc from) xs x
    (λ j one there. let next : from + suc j ≡ suc from + j = omega arith in subst (λ (k : ℕ). P k one) next (h (suc j) one there))
    (subst (λ (k : ℕ). P k x) end last) i entry at)

-- duties without a call
module _ (Q : Duty → Type 0) (signals : (duty : Duty) → calls_in (duty ∷ []) ≡ 0 → Q duty) where
  pub no_calls : (duties : List Duty) → calls_in duties ≡ 0 → AllByRecursion Q duties
  no_calls [] none = tt
  no_calls (duty ∷ duties) none = (signals duty (omega arith), no_calls duties (omega arith))

module _ (P : ℕ → Entry → Type 0) where
  abbrev pub IsStream : Following → Type 0
  IsStream stream = EachFrom P stream.from stream.delivered

  -- a subscription under way reads the position that comes next
  pub record IsUnderWay (stream : Following) (s : Subscription) : Type 0 where
    pub each : EachFrom P stream.from stream.delivered
    pub next : s.position.0 ≡ next_of stream

  abbrev pub IsAwaitedBy : Following → Input → Awaited → Type 0
  IsAwaitedBy stream input (Streaming s) = IsUnderWay stream s × (input ≡ ACall (ReadCall s.client s.position))
  IsAwaitedBy stream input (StreamingOn s) = IsUnderWay stream s × (input ≡ ACall (ReadCall s.client s.position))
  IsAwaitedBy stream input awaited = Unit {0}

  abbrev pub IsAwaitedOrNone : Following → Input → Option Awaited → Type 0
  IsAwaitedOrNone stream input None = Unit {0}
  IsAwaitedOrNone stream input (Some awaited) = IsAwaitedBy stream input awaited

  abbrev pub IsDutyWith : Following → Duty → Type 0
  IsDutyWith stream (Give signal first count) = Unit {0}
  IsDutyWith stream DeliverAll = Unit {0}
  IsDutyWith stream (DeliverOne letter afterwards) = Unit {0}
  IsDutyWith stream (MakeCall node call awaited) = IsAwaitedBy stream (ACall call) awaited

  -- an answer that is no step of an item
  no_step : (stream : Following) (input : Input) (awaited : Awaited) → step_in awaited ≡ 0 → IsAwaitedBy stream input awaited
  no_step stream input (Streaming s) none = absurd (omega arith)
  no_step stream input (StreamingOn s) none = absurd (omega arith)
  no_step stream input awaited none = tt

  pub no_call : (stream : Following) (duty : Duty) → calls_in (duty ∷ []) ≡ 0 → IsDutyWith stream duty
  no_call stream (Give signal first count) none = tt
  no_call stream DeliverAll none = tt
  no_call stream (DeliverOne letter afterwards) none = tt
  no_call stream (MakeCall node call awaited) none = let step : step_in awaited ≡ 0 = omega arith in no_step stream (ACall call) awaited step

  -- ---- an entry more

  offered : (stream : Following) (s : Subscription) (entry : Entry) (next : Bool) → (s.position.0 == next_of stream) ≡ next → P s.position.0 entry
      → IsUnderWay stream s → IsUnderWay (cond next (record stream { delivered = stream.delivered ++ entry ∷ [] }) stream) (moved_on s entry)
  offered stream s entry true is found h =
      let longer = length-append stream.delivered (entry ∷ []) in
      let at : s.position.0 ≡ stream.from + length stream.delivered = h.next in
      record {
        each = each-push P stream.from stream.delivered entry h.each (subst (λ (k : ℕ). P k entry) at found);
        next = omega arith;
      }
  offered stream s entry false is found h = absurd (eqb-false s.position.0 (next_of stream) is h.next)

  -- the last that is wanted
  filled : (stream : Following) (s : Subscription) (entry : Entry) (next : Bool) → (s.position.0 == next_of stream) ≡ next → P s.position.0 entry
      → IsUnderWay stream s → IsStream (cond next (record stream { delivered = stream.delivered ++ entry ∷ [] }) stream)
  filled stream s entry true is found h =
      let at : s.position.0 ≡ stream.from + length stream.delivered = h.next in
      each-push P stream.from stream.delivered entry h.each (subst (λ (k : ℕ). P k entry) at found)
  filled stream s entry false is found h = absurd (eqb-false s.position.0 (next_of stream) is h.next)

  -- ---- how an item goes

  abbrev pub IsGood : Following → Course → Type 0
  IsGood stream (Replies reply) = EachInStream P reply
  IsGood stream (GoesOn duties) = AllByRecursion (IsDutyWith stream) duties
  IsGood stream (Takes position entry next) = IsDutyWith (after_offer stream position.0 entry) next
  IsGood stream (Completes position entry) = IsStream (after_offer stream position.0 entry)
  IsGood stream (Ends last) = IsStream stream
  IsGood stream (Answers reply duties) = EachInStream P reply × AllByRecursion (IsDutyWith stream) duties
  IsGood stream (PutsOff reply asked) = EachInStream P reply
  IsGood stream (Replaces item reply) = EachInStream P reply

  -- what a read found
  abbrev pub IsGoodAnswer : Input → Reply → Type 0
  IsGoodAnswer input reply =
      (client : Client) (position told : Position) (entry : Entry) → input ≡ ACall (ReadCall client position) → reply ≡ Found told entry → P position.0 entry

  pub single-good : (reply : Reply) → IsSingle reply → EachInStream P reply
  single-good (Stream' from entries at last) h = absurd h
  single-good reply h = tt

  requested-good : (config : Shape) (stream : Following) (orderer : ℕ) (client : Client) (value : Value) (more : Bool)
      → IsGood stream (cond more (GoesOn (request config orderer client value ∷ [])) (Replies NoLeader))
  requested-good config stream orderer client value true = (tt, tt)
  requested-good config stream orderer client value false = tt

  read-good : (config : Shape) (stream : Following) (shard : Shard) (replica : Replica) (client : Client) (position : Position) (more : Bool)
      → IsGood stream (cond more (GoesOn (reading_at config shard.0 replica client position Last ∷ [])) (Replies (Elsewhere shard)))
  read-good config stream shard replica client position true = (tt, tt)
  read-good config stream shard replica client position false = tt

  with_entry-good : (config : Shape) (stream : Following) (s : Subscription) (entry : Entry) (more : Bool) → P s.position.0 entry → IsUnderWay stream s
      → IsGood stream (cond more (Takes s.position entry (following config (moved_on s entry))) (Completes s.position entry))
  with_entry-good config stream s entry true found h = (offered stream s entry (s.position.0 == next_of stream) refl found h, refl)
  with_entry-good config stream s entry false found h = filled stream s entry (s.position.0 == next_of stream) refl found h

  found-good : (config : Shape) (stream : Following) (s : Subscription) (entry : Entry) (takes : Bool) → P s.position.0 entry → IsUnderWay stream s
      → IsGood stream (cond takes (with_entry config s entry) (Ends Nothing))
  found-good config stream s entry true found h = with_entry-good config stream s entry (wants_more s) found h
  found-good config stream s entry false found h = h.each

  told-good : (config : Shape) (stream : Following) (shard : Shard) (s : Subscription) (more : Bool) → IsUnderWay stream s
      → IsGood stream (cond more (GoesOn (following_on config shard.0 s ∷ [])) (Ends (Elsewhere shard)))
  told-good config stream shard s true h = ((h, refl), tt)
  told-good config stream shard s false h = h.each

  settling-good : (stream : Following) (config : Shape) → AllByRecursion (IsDutyWith stream) (settling config)
  settling-good stream config = (tt, (tt, (tt, (tt, (tt, (tt, (tt, (tt, tt))))))))

  put_off-good : (stream : Following) (asked : Question) (reply : Reply) (late : Bool) → IsSingle reply → IsGood stream (cond late (PutsOff reply asked) (Replies reply))
  put_off-good stream asked reply true single = single-good reply single
  put_off-good stream asked reply false single = single-good reply single

  course-good : (config : Shape) (stream : Following) (input : Input) (awaited : Awaited) (reply : Reply) → IsSingle reply → IsGoodAnswer input reply
      → IsAwaitedBy stream input awaited → IsGood stream (course_of config awaited reply)
  course-good config stream input (Storing primary client number) (Stored offset) single answer under =
      each-append (IsDutyWith stream) (settling config) (enquiry primary client number ∷ []) (settling-good stream config) (tt, tt)
  course-good config stream input (Requesting orderer client value) NotLeading single answer under =
      requested-good config stream (orderer + 1) client value (nat_lt (orderer + 1) config.orderers)
  course-good config stream input (Requesting orderer client value) Down single answer under =
      requested-good config stream (orderer + 1) client value (nat_lt (orderer + 1) config.orderers)
  course-good config stream input (Requesting orderer client value) (Taken slot) single answer under =
      each-append (IsDutyWith stream) (settling config) (confirmation config orderer client value slot ∷ []) (settling-good stream config) (tt, tt)
  course-good config stream input (Reading replica client position) (Elsewhere shard) single answer under =
      read-good config stream shard replica client position (nat_lt shard.0 config.shards)
  course-good config stream input (Streaming s) (Found told entry) single answer under =
      found-good config stream s entry (is_taken s entry) (answer s.client s.position told entry under.1 refl) under.0
  course-good config stream input (Streaming s) (Elsewhere shard) single answer under = told-good config stream shard s (nat_lt shard.0 config.shards) under.0
  course-good config stream input (StreamingOn s) (Found told entry) single answer under =
      found-good config stream s entry (is_taken s entry) (answer s.client s.position told entry under.1 refl) under.0
  course-good config stream input (Storing primary client number) reply single answer under = single-good reply single
  course-good config stream input (Requesting orderer client value) reply single answer under = single-good reply single
  course-good config stream input (Reading replica client position) reply single answer under = single-good reply single
  course-good config stream input (Streaming s) reply single answer under = under.0.each
  course-good config stream input (StreamingOn s) reply single answer under = under.0.each
  course-good config stream input Last reply single answer under = single-good reply single
  course-good config stream input (Held asked) reply single answer under = put_off-good stream asked reply (is_put_off reply) single
  course-good config stream input (Again item) reply single answer under = single-good reply single

  held-good : (config : Shape) (stream : Following) (input : Input) (awaited : Awaited) (reply : Reply) → IsSingle reply → IsGoodAnswer input reply
      → IsAwaitedBy stream input awaited → IsGood stream (held_course_of config awaited reply)
  held-good config stream input (Storing primary client number) (Stored offset) single answer under = (tt, tt)
  held-good config stream input (Requesting orderer client value) (Taken slot) single answer under = (tt, tt)
  held-good config stream input awaited reply single answer under = course-good config stream input awaited reply single answer under

  pub in-good : (config : Shape) (stream : Following) (hold : Option (List PutOff)) (input : Input) (awaited : Awaited) (reply : Reply) → IsSingle reply
      → IsGoodAnswer input reply → IsAwaitedBy stream input awaited → IsGood stream (course_in config hold awaited reply)
  in-good config stream None input awaited reply single answer under = course-good config stream input awaited reply single answer under
  in-good config stream (Some put_off) input awaited reply single answer under = held-good config stream input awaited reply single answer under

  asked-good : (stream : Following) (client : Client) (number : Number) (primary : Option NodeId) → IsGood stream (asked client number primary)
  asked-good stream client number None = tt
  asked-good stream client number (Some primary) = (tt, tt)

  anew-good : (stream : Following) (config : Shape) (late : PutOff) (asked : Question) → IsDutyWith stream (asked_last config asked (Again late.item))
  anew-good stream config late (question.Append primary client number) = tt
  anew-good stream config late (question.Wish orderer client value start) = tt

  all-anew-good : (stream : Following) (config : Shape) (put_off : List PutOff) → AllByRecursion (IsDutyWith stream) (map (asked_anew config) put_off)
  all-anew-good stream config [] = tt
  all-anew-good stream config (late ∷ put_off) = (anew-good stream config late late.question, all-anew-good stream config put_off)

  resubmitted-good : (stream : Following) (client : Client) (number : Number) (bytes : List ℕ) (primary : Option NodeId)
      → IsGood stream (resubmitted client number bytes primary)
  resubmitted-good stream client number bytes None = tt
  resubmitted-good stream client number bytes (Some primary) = (tt, tt)

  with_letter-good : (stream : Following) (course : Course) (waiting : ℕ) (there : Bool) → IsGood stream course
      → IsGood stream (cond there course (Replies (NoLetter waiting)))
  with_letter-good stream course waiting true h = h
  with_letter-good stream course waiting false h = tt

  line-good : (config : Shape) (stream : Following) (scene : Scene) (again : Course) (f : Fault) → IsGood stream again → IsGood stream (line_course config scene again f)
  line-good config stream scene again fault.Hold h = tt
  line-good config stream scene again fault.Settle h =
      (tt, each-append (IsDutyWith stream) (settling config) (asked_again config scene.questions) (settling-good stream config) (all-anew-good stream config scene.questions))
  line-good config stream scene again (fault.Tick node) h = (tt, (tt, tt))
  line-good config stream scene again (fault.Deliver letter) h =
      with_letter-good stream (Answers Done (DeliverOne letter TakenOut ∷ [])) scene.waiting (nat_lt letter scene.waiting) (tt, (tt, tt))
  line-good config stream scene again (fault.Drop letter) h = with_letter-good stream (Replies Done) scene.waiting (nat_lt letter scene.waiting) tt
  line-good config stream scene again (fault.Again letter) h =
      with_letter-good stream (Answers Done (DeliverOne letter LeftIn ∷ [])) scene.waiting (nat_lt letter scene.waiting) (tt, (tt, tt))
  line-good config stream scene again (fault.Stop node) h = (tt, (tt, tt))
  line-good config stream scene again (fault.StopAfter node after keep) h = tt
  line-good config stream scene again (fault.Lose node after) h = tt
  line-good config stream scene again (fault.Restart node) h = (tt, (tt, tt))
  line-good config stream scene again (fault.Lead orderer) h = (tt, (tt, tt))
  line-good config stream scene again fault.Resubmit h = h

  nothing-yet : (from i : ℕ) (entry : Entry) → None ≡ Some entry → P (from + i) entry
  nothing-yet from i entry at = absurd (none-some entry at)

  pub beginning-good : (config : Shape) (run : ℕ) (draws : List ℕ) (primaries : List (Option NodeId)) (scene : Scene) (stream : Following) (item : Item)
      → IsGood (stream_before item stream) (beginning config run draws primaries scene item)
  beginning-good config run draws primaries scene stream (Append lane shard replica bytes) = (tt, tt)
  beginning-good config run draws primaries scene stream (Read lane shard replica position) = (tt, tt)
  beginning-good config run draws primaries scene stream (Subscribe lane shard replica from count) =
      ((record { each = nothing-yet from.0; next = omega arith }, refl), tt)
  beginning-good config run draws primaries scene stream (Trim lane position) = (tt, tt)
  beginning-good config run draws primaries scene stream (Add lane shard) = (tt, tt)
  beginning-good config run draws primaries scene stream (Finalise lane shard) = (tt, tt)
  beginning-good config run draws primaries scene stream (AskItem lane) = asked-good stream (client_of lane) (last_number run draws lane) (get_or primaries lane None)
  beginning-good config run draws primaries scene stream (FaultItem lane f) =
      line-good config stream scene (resubmitted (client_of lane) (last_number run draws lane) (get_or scene.records lane []) (get_or primaries lane None)) f
      (resubmitted-good stream (client_of lane) (last_number run draws lane) (get_or scene.records lane []) (get_or primaries lane None))
