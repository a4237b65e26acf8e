-- What is so of every schedule stays so.
use Rattle.std.proofs.Common.{◌≡◌, ℕ, zero, suc, ◌+◌, Bool, true, false, cond, List, [], ◌∷◌, ◌++◌, length, take, drop, get_or, replicate, Option, Some, None, refl, ap, ◌≤◌, arith}
use Rattle.std.specs.List.{AllByRecursion}
use Rattle.std.specs.Prelude.{remove, slice_set}
use Rattle.std.proofs.lemmas.Grind.{common_steps}
use Rattle.log_base.specs.declared.numbers.NodeId.{NodeId}
use Rattle.reply_frame.specs.declared.replies.Reply.{Reply}
use Rattle.history_frame.specs.declared.events.Sent.{Sent}
use Rattle.schedule_model.specs.declared.courses.Course.{Course}
use Rattle.schedule_model.specs.declared.courses.Course.TheVariants.{Replies, GoesOn, Takes, Completes, Ends, Answers, PutsOff, Replaces}
use Rattle.schedule_model.specs.declared.duties.Awaited.{Awaited}
use Rattle.schedule_model.specs.declared.duties.Duty.{Duty}
use Rattle.schedule_model.specs.Courses.{course_in}
use Rattle.schedule_model.specs.Noting.{course_or_none, duties_with, hold_with, replies_with, stream_with}
use Rattle.schedule_model.specs.Scheduling.{Scheduled, Waiting, answered, due, is_done, joined, letters_from, noted, taken}

-- the duties that are due are among the duties
each-chosen : (P : Duty → Type 0) (done : Bool) (passed_over : List Duty) (duty : Duty) (duties : List Duty) → AllByRecursion P passed_over
    → P duty → AllByRecursion P duties → AllByRecursion P (cond done passed_over (duty ∷ duties))
each-chosen P true passed_over duty duties some first rest = some
each-chosen P false passed_over duty duties some first rest = (first, rest)

pub each-due : (P : Duty → Type 0) (queue : List Waiting) (duties : List Duty) → AllByRecursion P duties → AllByRecursion P (due queue duties)
each-due P queue [] h = tt
each-due P queue (duty ∷ duties) h = each-chosen P (is_done queue duty) (due queue duties) duty duties (each-due P queue duties h.1) h.0 h.1

pub each-append : {X : Type 0} (P : X → Type 0) (xs ys : List X) → AllByRecursion P xs → AllByRecursion P ys → AllByRecursion P (xs ++ ys)
each-append P [] ys hx hy = hy
each-append P (x ∷ xs) ys hx hy = (hx.0, each-append P xs ys hx.1 hy)

-- no lane has drawn a number at first
pub none-drawn : (count lane : ℕ) → get_or (replicate {A = ℕ} count 0) lane 0 ≡ 0
none-drawn count lane = grind (arith, common_steps)

-- no append was submitted at first
pub none-kept : (count lane : ℕ) → get_or (replicate {A = Option NodeId} count None) lane None ≡ None
none-kept count lane = grind (arith, common_steps)

-- no record was kept at first
pub none-recorded : (count lane : ℕ) → get_or (replicate {A = List ℕ} count []) lane [] ≡ []
none-recorded count lane = grind (arith, common_steps)

-- what is so of each is so of those that are left without one
each-take : {X : Type 0} (P : X → Type 0) (count : ℕ) (xs : List X) → AllByRecursion P xs → AllByRecursion P (take count xs)
each-take P zero xs h = tt
each-take P (suc count) [] h = tt
each-take P (suc count) (x ∷ xs) h = (h.0, each-take P count xs h.1)

each-drop : {X : Type 0} (P : X → Type 0) (count : ℕ) (xs : List X) → AllByRecursion P xs → AllByRecursion P (drop count xs)
each-drop P zero xs h = h
each-drop P (suc count) [] h = tt
each-drop P (suc count) (x ∷ xs) h = each-drop P count xs h.1

pub each-remove : {X : Type 0} (P : X → Type 0) (xs : List X) (place : ℕ) → AllByRecursion P xs → AllByRecursion P (remove xs place)
each-remove P xs place h = each-append P (take place xs) (drop (suc place) xs) (each-take P place xs h) (each-drop P (suc place) xs h)

-- past the end there is nothing to take out
pub remove_past : (X : Type 0) (xs : List X) (place : ℕ) → length xs ≤ place → remove xs place ≡ xs
remove_past X [] zero past = refl
remove_past X [] (suc place) past = refl
remove_past X (x ∷ xs) zero past = absurd (omega arith)
remove_past X (x ∷ xs) (suc place) past = ap (λ (rest : List X). x ∷ rest) (remove_past X xs place (omega arith))

pub each-set : {X : Type 0} (P : X → Type 0) (xs : List X) (place : ℕ) (x : X) → AllByRecursion P xs → P x → AllByRecursion P (slice_set xs place x)
each-set P [] place x h new = tt
each-set P (y ∷ ys) zero x h new = (new, h.1)
each-set P (y ∷ ys) (suc place) x h new = (h.0, each-set P ys place x h.1 new)

-- ---- what is noted, part by part

pub taken-parts : (s : Scheduled) (course : Course) → taken s course ≡ record s {
  duties = duties_with (Some course) s.duties;
  stream = stream_with (Some course) s.stream;
  hold = hold_with (Some course) (length s.replies) s.hold;
  replies = replies_with (Some course) s.stream s.replies;
}
taken-parts s (Replies reply) = refl
taken-parts s (GoesOn first) = refl
taken-parts s (Takes position entry next) = refl
taken-parts s (Completes position entry) = refl
taken-parts s (Ends last) = refl
taken-parts s (Answers reply first) = refl
taken-parts s (PutsOff reply asked) = refl
taken-parts s (Replaces item reply) = refl

answered-parts : (s : Scheduled) (awaited : Option Awaited) (reply : Reply) → s.awaited ≡ awaited
    → answered s awaited reply ≡ record s {
      awaited = None;
      duties = duties_with (course_or_none s.config s.hold awaited reply) s.duties;
      stream = stream_with (course_or_none s.config s.hold awaited reply) s.stream;
      hold = hold_with (course_or_none s.config s.hold awaited reply) (length s.replies) s.hold;
      replies = replies_with (course_or_none s.config s.hold awaited reply) s.stream s.replies;
    }
answered-parts s None reply h = ap (λ (awaited : Option Awaited). record s { awaited = awaited }) h
answered-parts s (Some awaited) reply h = taken-parts (record s { awaited = None }) (course_in s.config s.hold awaited reply)

pub noted-parts : (s : Scheduled) (outputs : List Sent) (reply : Reply) → noted s outputs reply ≡ record s {
  queue = s.queue ++ letters_from s.place 0 outputs;
  place = s.place + 1;
  awaited = None;
  duties = duties_with (course_or_none s.config s.hold s.awaited reply) s.duties;
  stream = stream_with (course_or_none s.config s.hold s.awaited reply) s.stream;
  hold = hold_with (course_or_none s.config s.hold s.awaited reply) (length s.replies) s.hold;
  replies = replies_with (course_or_none s.config s.hold s.awaited reply) s.stream s.replies;
}
noted-parts s outputs reply = answered-parts (joined s outputs) s.awaited reply refl
