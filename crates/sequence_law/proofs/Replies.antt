-- Events and replies: which events come before one, and what the reply to a call is.
use Rattle.std.proofs.Common.{◌≡◌, ◌≤◌, ℕ, zero, suc, List, [], ◌∷◌, ◌++◌, length, slice_get, Some, None, refl, sym, ap, subst, inl, inr, arith, ◌∙◌}
use Rattle.std.proofs.lemmas.Option.{same_Some}
use Rattle.reply_frame.specs.declared.replies.Reply.{Reply, Finalised as Closed}
use Rattle.history_frame.specs.declared.events.Event.{Event}
use Rattle.history_frame.specs.declared.inputs.Call.TheVariants.{Submit, Ask, Read, Request, Settled}
use Rattle.history_frame.specs.declared.inputs.Input.{Input}
use Rattle.history_frame.specs.declared.inputs.Input.TheVariants.{Deliver, Call as ACall, Tick, Lead, Stop, Restart}
use Rattle.log_base.specs.ClusterShape.{Shape}
use Rattle.log_model.specs.Asking.{ask}
use Rattle.log_model.specs.Reading.{read}
use Rattle.log_model.specs.Storage.{list_in}
use Rattle.log_model.specs.Submitting.{Finalised, Full, NotAdded, Stale, Stored, Submitted, submit}
use Rattle.record_frame.specs.declared.entries.Entry.{Entry}
use Rattle.record_frame.specs.Entries.{entry_of}
use Rattle.node_model.specs.Legal.{submitted}
use Rattle.node_model.specs.Sequence.{position_told}
use Rattle.node_model.specs.StorageNode.{Replica, StorageChange, member_of}
use Rattle.node_model.specs.StorageRow.{ask_reply, call_row, on_ask, on_read, on_submit, read_reply, submit_reply}
use Rattle.agreement_law.specs.Elements.{In}
use Rattle.agreement_law.proofs.Elements.{got_in, in_right}
use Rattle.sequence_law.specs.Answers.{IsAfter}

-- an event of a history stands after some others
pub after_some : (events : List Event) (e : Event) → In e events → (before : List Event) × IsAfter events before e
after_some [] e a = absurd a
after_some (x ∷ events) e (inl is) = ([], record { more = events; parts = ap (λ (z : Event). z ∷ events) is })
after_some (x ∷ events) e (inr a) =
    let rest = after_some events e a in (x ∷ rest.0, record { more = rest.1.more; parts = ap (λ (l : List Event). x ∷ l) rest.1.parts })

pub after_got : (events : List Event) (k : ℕ) (e : Event) → slice_get events k ≡ Some e → (before : List Event) × IsAfter events before e
after_got events k e at = after_some events e (got_in events k e at)

pub among_parts : (before more events : List Event) (e : Event) → before ++ e ∷ more ≡ events → In e events
among_parts before more events e is = subst (In e) is (in_right e before (e ∷ more) (inl refl))

-- nothing at a place: it is past the end
pub none_past : {A : Type 0} (xs : List A) (k : ℕ) → slice_get xs k ≡ None → length xs ≤ k
none_past [] k e = omega arith
none_past (x ∷ xs) zero e = absurd (cc)
none_past (x ∷ xs) (suc k) e = let rest : length xs ≤ k = none_past xs k e in omega arith

-- the replies of calls
pub asked_reply : (config : Shape) (s r : ℕ) (lists : List (List Entry)) (memory : Replica) (client number : ℕ) (change : StorageChange)
    → call_row (member_of config s r) lists memory (Ask (record { 0 = client }) (record { 0 = number })) ≡ Some change
    → change.reply ≡ ask_reply (ask (member_of config s r) (list_in lists r) memory.known client number)
unfolding on_ask
asked_reply config s r lists memory client number change e = ap (λ (c : StorageChange). c.reply) (sym (same_Some _ change e))

pub read_answer : (config : Shape) (s r : ℕ) (lists : List (List Entry)) (memory : Replica) (client position : ℕ) (change : StorageChange)
    → call_row (member_of config s r) lists memory (Read (record { 0 = client }) (record { 0 = position })) ≡ Some change
    → change.reply ≡ read_reply position (read (member_of config s r) lists memory.known position)
unfolding on_read
read_answer config s r lists memory client position change e = ap (λ (c : StorageChange). c.reply) (sym (same_Some _ change e))

pub submit_answer : (config : Shape) (s r : ℕ) (lists : List (List Entry)) (memory : Replica) (entry : Entry) (change : StorageChange)
    → call_row (member_of config s r) lists memory (Submit entry.client entry.number entry.bytes) ≡ Some change
    → change.reply ≡ submit_reply (submit (member_of config s r) (list_in lists r) memory.known entry).answer
unfolding on_submit
submit_answer config s r lists memory entry change e = ap (λ (c : StorageChange). c.reply) (sym (same_Some _ change e))

-- a submission tells no position
pub submit_none : (a : Submitted) → position_told (submit_reply a) ≡ None
submit_none (Stored offset) = refl
submit_none (Stale last) = refl
submit_none NotAdded = refl
submit_none Finalised = refl
submit_none Full = refl

pub closed_only : (a : Submitted) → submit_reply a ≡ Closed → a ≡ Finalised
closed_only (Stored offset) e = absurd (cc)
closed_only (Stale last) e = absurd (cc)
closed_only NotAdded e = absurd (cc)
closed_only Finalised e = refl
closed_only Full e = absurd (cc)

pub some_told : (x y : Reply) (p : ℕ) → x ≡ y → position_told x ≡ Some p → position_told y ≡ Some p
some_told x y p e h = ap position_told (sym e) ∙ h

-- an input that submits an entry is its submission
pub submission_of : (x : Input) (entry : Entry) → submitted x ≡ Some entry → x ≡ ACall (Submit entry.client entry.number entry.bytes)
submission_of (ACall (Submit client number bytes)) entry e =
    ap (λ (z : Entry). ACall (Submit z.client z.number z.bytes)) (same_Some (entry_of client number bytes) entry e)
submission_of (ACall (Ask client number)) entry e = absurd (cc)
submission_of (ACall (Read client position)) entry e = absurd (cc)
submission_of (ACall (Request client value)) entry e = absurd (cc)
submission_of (ACall (Settled client value from)) entry e = absurd (cc)
submission_of (Deliver place index m) entry e = absurd (cc)
submission_of Tick entry e = absurd (cc)
submission_of Lead entry e = absurd (cc)
submission_of Stop entry e = absurd (cc)
submission_of Restart entry e = absurd (cc)
