-- Passing over what is done, and beginning items, step by step.
use Rattle.std.proofs.Common.{◌≡◌, ◌&&◌, length, nat_lt, Bool, true, false, cond, List, [], ◌∷◌, refl, ap, sym, ◌∙◌, arith}
use Rattle.std.proofs.lemmas.Bool.{lt-ltb}
use Rattle.command_frame.specs.declared.items.Item.{Item}
use Rattle.schedule_model.specs.declared.courses.Course.{Course}
use Rattle.schedule_model.specs.declared.courses.Course.TheVariants.{Replies, GoesOn, Takes, Completes, Ends, Answers, PutsOff, Replaces}
use Rattle.schedule_model.specs.declared.duties.Duty.{Duty}
use Rattle.schedule_model.specs.Scheduling.{Scheduled, Waiting, begins, begun, begun_next, due, entered, is_done, is_first_done, is_idle, passed, ready, ready_with, taken}

-- where the first duty is not done, nothing is passed over
pub due-stops : (queue : List Waiting) (duties : List Duty) → is_first_done queue duties ≡ false → due queue duties ≡ duties
due-stops queue [] h = refl
due-stops queue (duty ∷ duties) h = rw h

-- passing over twice is passing over once
due-chosen : (queue : List Waiting) (duty : Duty) (duties : List Duty) (done : Bool) → is_done queue duty ≡ done
    → due queue (due queue duties) ≡ due queue duties
    → due queue (cond done (due queue duties) (duty ∷ duties)) ≡ cond done (due queue duties) (duty ∷ duties)
due-chosen queue duty duties true h again = again
due-chosen queue duty duties false h again = rw h

pub due-due : (queue : List Waiting) (duties : List Duty) → due queue (due queue duties) ≡ due queue duties
due-due queue [] = refl
due-due queue (duty ∷ duties) = due-chosen queue duty duties (is_done queue duty) refl (due-due queue duties)

pub passed-stops : (s : Scheduled) → is_first_done s.queue s.duties ≡ false → passed s ≡ s
passed-stops s h = ap (λ (duties : List Duty). record s { duties = duties }) (due-stops s.queue s.duties h)

pub passed-passed : (s : Scheduled) → passed (passed s) ≡ passed s
passed-passed s = ap (λ (duties : List Duty). record s { duties = duties }) (due-due s.queue s.duties)

-- what is passed over changes nothing of what comes next
ready_with-passed : (s : Scheduled) (items : List Item) → ready_with (passed s) items ≡ ready_with s items
ready_with-passed s [] = passed-passed s
ready_with-passed s (item ∷ items) =
    ap (λ (p : Scheduled). cond (is_idle p) (ready_with (begun p item items) items) p) (passed-passed s)

pub ready-passed : (s : Scheduled) → ready (passed s) ≡ ready s
ready-passed s = ready_with-passed s s.items

taken-items : (s : Scheduled) (course : Course) → (taken s course).items ≡ s.items
taken-items s (Replies reply) = refl
taken-items s (GoesOn duties) = refl
taken-items s (Takes position entry next) = refl
taken-items s (Completes position entry) = refl
taken-items s (Ends last) = refl
taken-items s (Answers reply duties) = refl
taken-items s (PutsOff reply asked) = refl
taken-items s (Replaces item reply) = refl

-- the items that are left when one begins
pub begun-items : (s : Scheduled) (item : Item) (items : List Item) → (begun s item items).items ≡ items
begun-items s item items = taken-items (entered s item items) (begins s item)

-- where nothing is due, the next item begins
ready_with-begins : (s : Scheduled) (item : Item) (items : List Item) → passed s ≡ s → is_idle s ≡ true
    → ready_with s (item ∷ items) ≡ ready_with (begun s item items) items
ready_with-begins s item items same idle =
    ap (λ (p : Scheduled). cond (is_idle p) (ready_with (begun p item items) items) p) same
    ∙ ap (λ (b : Bool). cond b (ready_with (begun s item items) items) s) idle

pub ready-begins : (s : Scheduled) (items : List Item) → items ≡ s.items → passed s ≡ s → is_idle s ≡ true → ready (begun_next s items) ≡ ready s
ready-begins s [] e same idle = refl
ready-begins s (item ∷ items) e same idle =
    ap (ready_with (begun s item items)) (begun-items s item items)
    ∙ sym (ready_with-begins s item items same idle)
    ∙ ap (ready_with s) e

-- where something is due, or no item is left, all is ready
ready_with-due : (s : Scheduled) (items : List Item) → passed s ≡ s → is_idle s ≡ false → ready_with s items ≡ s
ready_with-due s [] same busy = same
ready_with-due s (item ∷ items) same busy =
    ap (λ (p : Scheduled). cond (is_idle p) (ready_with (begun p item items) items) p) same
    ∙ ap (λ (b : Bool). cond b (ready_with (begun s item items) items) s) busy

pub ready-due : (s : Scheduled) → passed s ≡ s → is_idle s ≡ false → ready s ≡ s
ready-due s same busy = ready_with-due s s.items same busy

ready_with-over : (s : Scheduled) (items : List Item) → items ≡ [] → passed s ≡ s → ready_with s items ≡ s
ready_with-over s items none same = ap (ready_with s) none ∙ same

pub ready-over : (s : Scheduled) → s.items ≡ [] → passed s ≡ s → ready s ≡ s
ready-over s none same = ready_with-over s s.items none same

stays-chosen : (s : Scheduled) (items : List Item) (idle : Bool) → s.items ≡ items → is_idle s ≡ idle → passed s ≡ s
    → (idle && nat_lt 0 (length items)) ≡ false → ready s ≡ s
stays-chosen s [] idle left h same stops = ready-over s left same
stays-chosen s (item ∷ items) true left h same stops =
    let more : nat_lt 0 (length (item ∷ items)) ≡ true = lt-ltb 0 (length (item ∷ items)) (omega arith) in
    cc
stays-chosen s (item ∷ items) false left h same stops = ready-due s same h

pub ready-stays : (s : Scheduled) → passed s ≡ s → (is_idle s && nat_lt 0 (length s.items)) ≡ false → ready s ≡ s
ready-stays s same stops = stays-chosen s s.items (is_idle s) refl refl same stops

-- what is ready is left as it is
again-chosen : (s : Scheduled) (item : Item) (items : List Item) (idle : Bool) → is_idle (passed s) ≡ idle → s.items ≡ item ∷ items
    → ready (ready_with (begun (passed s) item items) items) ≡ ready_with (begun (passed s) item items) items
    → ready (cond idle (ready_with (begun (passed s) item items) items) (passed s)) ≡ cond idle (ready_with (begun (passed s) item items) items) (passed s)
again-chosen s item items true h left again = again
again-chosen s item items false h left again = ready-due (passed s) (passed-passed s) h

ready_with-again : (s : Scheduled) (items : List Item) → s.items ≡ items → ready (ready_with s items) ≡ ready_with s items
ready_with-again s [] left = ready-over (passed s) left (passed-passed s)
ready_with-again s (item ∷ items) left =
    again-chosen s item items (is_idle (passed s)) refl left
    (ready_with-again (begun (passed s) item items) items (begun-items (passed s) item items))

pub ready-ready : (s : Scheduled) → ready (ready s) ≡ ready s
ready-ready s = ready_with-again s s.items refl
