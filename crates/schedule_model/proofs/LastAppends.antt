-- What the lanes keep of their last appends, and how lines of the fault script send them again.
use Rattle.std.proofs.Common.{◌≡◌, ℕ, ◌+◌, ◌-◌, ◌<◌, Bool, true, false, cond, nat_lt, List, [], ◌∷◌, length, map, get_or, Option, Some, None, ⊎_elim, refl, sym, subst, ◌∙◌, arith}
use Rattle.std.specs.List.{AllByRecursion}
use Rattle.std.specs.Prelude.{slice_set}
use Rattle.std.proofs.lemmas.Grind.{common_steps}
use Rattle.std.proofs.lemmas.Bool.{cases_eq}
use Rattle.std.proofs.lemmas.List.{get_or-set_other, get_or-set_same}
use Rattle.log_base.specs.ClusterShape.{Shape}
use Rattle.log_base.specs.Draws.{number_of_draw}
use Rattle.log_base.specs.declared.numbers.Client.{Client}
use Rattle.log_base.specs.declared.numbers.NodeId.{NodeId}
use Rattle.log_base.specs.declared.numbers.Number.{Number}
use Rattle.fault_script.specs.declared.fault.Fault.{Fault}
use Rattle.fault_script.specs.declared.fault.Fault.TheVariants as fault
use Rattle.command_frame.specs.declared.items.Item.TheVariants.{Append}
use Rattle.record_frame.specs.declared.entries.Entry.{Entry}
use Rattle.reply_frame.specs.declared.replies.Reply.{NoLetter, Done}
use Rattle.history_frame.specs.declared.events.Event.{Event}
use Rattle.history_frame.specs.declared.inputs.Call.{Call}
use Rattle.history_frame.specs.declared.inputs.Call.TheVariants.{Submit, Ask, Read as ReadCall, Request, Settled}
use Rattle.node_model.specs.Legal.{submitted}
use Rattle.schedule_model.specs.declared.courses.Course.{Course}
use Rattle.schedule_model.specs.declared.courses.Course.TheVariants.{Replies, GoesOn, Takes, Completes, Ends, Answers, PutsOff, Replaces}
use Rattle.schedule_model.specs.declared.duties.Awaited.TheVariants.{Again}
use Rattle.schedule_model.specs.declared.duties.Afterwards.TheVariants.{TakenOut, LeftIn}
use Rattle.schedule_model.specs.declared.duties.Duty.{Duty}
use Rattle.schedule_model.specs.declared.duties.PutOff.{PutOff}
use Rattle.schedule_model.specs.declared.duties.Question.{Question}
use Rattle.schedule_model.specs.declared.duties.Question.TheVariants as question
use Rattle.schedule_model.specs.declared.duties.Duty.TheVariants.{Give, DeliverAll, DeliverOne, MakeCall}
use Rattle.schedule_model.specs.declared.duties.Signal.TheVariants.{Restart, Lead, Tick, Stop}
use Rattle.schedule_model.specs.Courses.{Scene, asked, asked_again, asked_anew, asked_last, client_of, last_number, line_course, resubmitted}
use Rattle.schedule_model.specs.Duties.{settling}
use Rattle.schedule_model.specs.Scheduling.{Scheduled}
use Rattle.schedule_model.proofs.Kept.{each-append}

abbrev pub IsNoSubmission : Call → Type 0
IsNoSubmission (Submit client number bytes) = ⊥
IsNoSubmission (Ask client number) = Unit {0}
IsNoSubmission (ReadCall client position) = Unit {0}
IsNoSubmission (Request client value) = Unit {0}
IsNoSubmission (Settled client value start) = Unit {0}

abbrev pub IsPlain : Duty → Type 0
IsPlain (Give signal first count) = Unit {0}
IsPlain DeliverAll = Unit {0}
IsPlain (DeliverOne letter afterwards) = Unit {0}
IsPlain (MakeCall node call awaited) = IsNoSubmission call

-- what the lanes keep: how many numbers each has drawn, and the primary and the record of its last append
pub record Lasts : Type 0 where
  pub run : ℕ
  pub draws : List ℕ
  pub primaries : List (Option NodeId)
  pub records : List (List ℕ)

abbrev pub lasts_of : Scheduled → Lasts
lasts_of s = record { run = s.run; draws = s.draws; primaries = s.primaries; records = s.records }

-- the lane drew the entry's number, and if it was the last, the entry went to this node with these bytes
pub record WasDrawn (lasts : Lasts) (node : NodeId) (entry : Entry) : Type 0 where
  pub draw : ℕ
  pub is_drawn : entry.number.0 ≡ number_of_draw lasts.run draw
  pub within : draw < get_or lasts.draws entry.client.0 0
  pub last : draw + 1 ≡ get_or lasts.draws entry.client.0 0
      → (get_or lasts.primaries entry.client.0 None ≡ Some node) × (get_or lasts.records entry.client.0 [] ≡ entry.bytes)

abbrev pub IsDrawn : Lasts → Event → Type 0
IsDrawn lasts event = (other : Entry) → submitted event.happened.input ≡ Some other → WasDrawn lasts event.node other

-- a lane's last append
pub record IsLast (lasts : Lasts) (node : NodeId) (client : Client) (number : Number) (bytes : List ℕ) : Type 0 where
  pub draw : ℕ
  pub is_drawn : number.0 ≡ number_of_draw lasts.run draw
  pub newest : draw + 1 ≡ get_or lasts.draws client.0 0
  pub primary : get_or lasts.primaries client.0 None ≡ Some node
  pub bytes_are : get_or lasts.records client.0 [] ≡ bytes

abbrev pub IsLastCall : Lasts → NodeId → Call → Type 0
IsLastCall lasts node (Submit client number bytes) = IsLast lasts node client number bytes
IsLastCall lasts node (Ask client number) = Unit {0}
IsLastCall lasts node (ReadCall client position) = Unit {0}
IsLastCall lasts node (Request client value) = Unit {0}
IsLastCall lasts node (Settled client value start) = Unit {0}

abbrev pub IsLastDuty : Lasts → Duty → Type 0
IsLastDuty lasts (Give signal first count) = Unit {0}
IsLastDuty lasts DeliverAll = Unit {0}
IsLastDuty lasts (DeliverOne letter afterwards) = Unit {0}
IsLastDuty lasts (MakeCall node call awaited) = IsLastCall lasts node call

-- only the first duty may submit
abbrev pub IsFirstLast : Lasts → List Duty → Type 0
IsFirstLast lasts [] = Unit {0}
IsFirstLast lasts (duty ∷ duties) = IsLastDuty lasts duty × AllByRecursion IsPlain duties

-- a lane with a primary has drawn a number
abbrev pub AreUsed : Lasts → Type 0
AreUsed lasts = (lane : ℕ) (primary : NodeId) → get_or lasts.primaries lane None ≡ Some primary → 0 < get_or lasts.draws lane 0

-- it keeps all that was drawn
pub more-drawn : (draws : List ℕ) (lane j k : ℕ) → j < get_or draws k 0 → j < get_or (slice_set draws lane (get_or draws lane 0 + 1)) k 0
more-drawn draws lane j k h = grind (arith, common_steps)

-- what the lanes keep once one has drawn
abbrev pub lasts_drawn : Lasts → ℕ → NodeId → List ℕ → Lasts
lasts_drawn lasts lane node bytes = record {
  run = lasts.run;
  draws = slice_set lasts.draws lane (get_or lasts.draws lane 0 + 1);
  primaries = slice_set lasts.primaries lane (Some node);
  records = slice_set lasts.records lane bytes;
}

-- nothing that was submitted before has the new number
pub drawn-longer : (lasts : Lasts) (lane : ℕ) (primary : NodeId) (bytes : List ℕ) (node : NodeId) (entry : Entry) → lane < length lasts.draws
    → WasDrawn lasts node entry → WasDrawn (lasts_drawn lasts lane primary bytes) node entry
drawn-longer lasts lane primary bytes node entry within h = record {
  draw = h.draw;
  is_drawn = h.is_drawn;
  within = more-drawn lasts.draws lane h.draw entry.client.0 h.within;
  last = λ newest. ⊎_elim
      (λ same.
      let more : get_or (slice_set lasts.draws lane (get_or lasts.draws lane 0 + 1)) lane 0 ≡ get_or lasts.draws lane 0 + 1 =
      get_or-set_same lasts.draws lane (get_or lasts.draws lane 0 + 1) 0 within in
      let here : h.draw + 1 ≡ get_or (slice_set lasts.draws lane (get_or lasts.draws lane 0 + 1)) lane 0 =
      subst (λ (n : ℕ). h.draw + 1 ≡ get_or (slice_set lasts.draws lane (get_or lasts.draws lane 0 + 1)) n 0) same newest in
      let below : h.draw < get_or lasts.draws lane 0 = subst (λ (n : ℕ). h.draw < get_or lasts.draws n 0) same h.within in
      absurd (omega (arith, more, here, below)))
      (λ other.
      let old = h.last (newest ∙ get_or-set_other lasts.draws lane entry.client.0 (get_or lasts.draws lane 0 + 1) 0 other) in (
        get_or-set_other lasts.primaries lane entry.client.0 (Some primary) None other ∙ old.0,
        get_or-set_other lasts.records lane entry.client.0 bytes [] other ∙ old.1,
      ))
      (cases_eq entry.client.0 lane);
}

pub used-longer : (lasts : Lasts) (lane : ℕ) (node : NodeId) (bytes : List ℕ) → lane < length lasts.draws → AreUsed lasts → AreUsed (lasts_drawn lasts lane node bytes)
used-longer lasts lane node bytes within h = λ k primary there. ⊎_elim
    (λ same.
    let more : get_or (slice_set lasts.draws lane (get_or lasts.draws lane 0 + 1)) lane 0 ≡ get_or lasts.draws lane 0 + 1 =
    get_or-set_same lasts.draws lane (get_or lasts.draws lane 0 + 1) 0 within in
    subst (λ (n : ℕ). 0 < get_or (slice_set lasts.draws lane (get_or lasts.draws lane 0 + 1)) n 0) (sym same) (omega (arith, more)))
    (λ other.
    let old : 0 < get_or lasts.draws k 0 = h k primary (sym (get_or-set_other lasts.primaries lane k (Some node) None other) ∙ there) in
    subst (λ (n : ℕ). 0 < n) (sym (get_or-set_other lasts.draws lane k (get_or lasts.draws lane 0 + 1) 0 other)) old)
    (cases_eq k lane)

-- the course submits at most a lane's last append, first of all
abbrev pub IsLastCourse : Lasts → Course → Type 0
IsLastCourse lasts (Replies reply) = Unit {0}
IsLastCourse lasts (GoesOn duties) = IsFirstLast lasts duties
IsLastCourse lasts (Takes position entry next) = ⊥
IsLastCourse lasts (Completes position entry) = ⊥
IsLastCourse lasts (Ends last) = ⊥
IsLastCourse lasts (Answers reply duties) = AllByRecursion IsPlain duties
IsLastCourse lasts (PutsOff reply asked) = ⊥
IsLastCourse lasts (Replaces item reply) = ⊥

pub asked-last : (lasts : Lasts) (client : Client) (number : Number) (primary : Option NodeId) → IsLastCourse lasts (asked client number primary)
asked-last lasts client number None = tt
asked-last lasts client number (Some primary) = (tt, tt)

-- a lane's last append is sent again under its pair
pub resubmitted-last : (lasts : Lasts) (lane : ℕ) (primary : Option NodeId) → get_or lasts.primaries lane None ≡ primary → AreUsed lasts
    → IsLastCourse lasts (resubmitted (client_of lane) (last_number lasts.run lasts.draws lane) (get_or lasts.records lane []) primary)
resubmitted-last lasts lane None there used = tt
resubmitted-last lasts lane (Some primary) there used =
    let some : 0 < get_or lasts.draws lane 0 = used lane primary there in
    (record { draw = get_or lasts.draws lane 0 - 1; is_drawn = refl; newest = omega (arith, some); primary = there; bytes_are = refl }, tt)

pub anew-plain : (config : Shape) (late : PutOff) (asked : Question) → IsPlain (asked_last config asked (Again late.item))
anew-plain config late (question.Append primary client number) = tt
anew-plain config late (question.Wish orderer client value start) = tt

pub all-anew-plain : (config : Shape) (put_off : List PutOff) → AllByRecursion IsPlain (map (asked_anew config) put_off)
all-anew-plain config [] = tt
all-anew-plain config (late ∷ put_off) = (anew-plain config late late.question, all-anew-plain config put_off)

pub settling-plain : (config : Shape) → AllByRecursion IsPlain (settling config)
settling-plain config = (tt, (tt, (tt, (tt, (tt, (tt, (tt, (tt, tt))))))))

pub with_letter-last : (lasts : Lasts) (course : Course) (waiting : ℕ) (there : Bool) → IsLastCourse lasts course
    → IsLastCourse lasts (cond there course (Replies (NoLetter waiting)))
with_letter-last lasts course waiting true h = h
with_letter-last lasts course waiting false h = tt

pub line-last : (lasts : Lasts) (config : Shape) (scene : Scene) (again : Course) (f : Fault) → IsLastCourse lasts again
    → IsLastCourse lasts (line_course config scene again f)
line-last lasts config scene again fault.Hold h = tt
line-last lasts config scene again fault.Settle h = each-append IsPlain (settling config) (asked_again config scene.questions) (settling-plain config) (all-anew-plain config scene.questions)
line-last lasts config scene again (fault.Tick node) h = (tt, tt)
line-last lasts config scene again (fault.Deliver letter) h = with_letter-last lasts (Answers Done (DeliverOne letter TakenOut ∷ [])) scene.waiting (nat_lt letter scene.waiting) (tt, tt)
line-last lasts config scene again (fault.Drop letter) h = with_letter-last lasts (Replies Done) scene.waiting (nat_lt letter scene.waiting) tt
line-last lasts config scene again (fault.Again letter) h = with_letter-last lasts (Answers Done (DeliverOne letter LeftIn ∷ [])) scene.waiting (nat_lt letter scene.waiting) (tt, tt)
line-last lasts config scene again (fault.Stop node) h = (tt, tt)
line-last lasts config scene again (fault.StopAfter node after keep) h = tt
line-last lasts config scene again (fault.Lose node after) h = tt
line-last lasts config scene again (fault.Restart node) h = (tt, tt)
line-last lasts config scene again (fault.Lead orderer) h = (tt, tt)
line-last lasts config scene again fault.Resubmit h = h
