-- Inputs, marks and outputs: what is read stands there, and what stands there is read.
use Rattle.std.proofs.Common.{◌≡◌, ℕ, ◌+◌, ◌^◌, ◌<◌, ◌≤◌, Bool, true, false, cond, eqb, List, [], ◌∷◌, ◌++◌, length, None, Result, Ok, Err, refl, sym, ap, subst, ◌∙◌, arith}
use Rattle.std.proofs.lemmas.Bool.{eqb-true}
use Rattle.log_base.specs.Wide.{IsBytes, be2, be4, be8}
use Rattle.record_frame.specs.declared.refusals.Refusal.{Refusal}
use Rattle.record_frame.specs.declared.refusals.Refusal.TheVariants.{BadKind}
use Rattle.record_frame.specs.Entries.{entry_fields, entry_of}
use Rattle.record_frame.specs.Fields.{◌>>=◌, StandsAt, u8_at, u16_at}
use Rattle.record_frame.specs.Values.{value_spelling}
use Rattle.record_frame.proofs.FieldLaws.{bind_ok, given, ok_is, StandsAt-then, StandsAt-front, StandsAt-back, u8_takes, u16_takes, u8_again, u16_again}
use Rattle.record_frame.proofs.Reasons.{NeedsNone, u16_at-needs_none}
use Rattle.message_frame.specs.declared.messages.Message.{Message}
use Rattle.message_frame.specs.Spelling.{IsMessage, message_spelling}
use Rattle.message_frame.specs.Reading.{message_of}
use Rattle.message_frame.proofs.Groups.{two_again, three_again}
use Rattle.message_frame.proofs.MessageLaws.{all_take, all_again, message_of-needs_none}
use Rattle.message_frame.proofs.Parts.{IsPart, bind, gives, u8_part, u16_part, u32_part, u64_part, value_part}
use Rattle.message_frame.proofs.Sizes.{length-message_spelling}
use Rattle.history_frame.specs.declared.inputs.Call.{Call}
use Rattle.history_frame.specs.declared.inputs.Call.TheVariants.{Submit, Ask, Read, Request, Settled}
use Rattle.history_frame.specs.declared.inputs.Input.{Input}
use Rattle.history_frame.specs.declared.inputs.Input.TheVariants.{Deliver, Call as ACall, Tick, Lead, Stop, Restart}
use Rattle.history_frame.specs.declared.inputs.Mark.{Mark}
use Rattle.history_frame.specs.declared.inputs.Mark.TheVariants.{Done, Halted, OpenedWithout, OpenedWith, StayedDown}
use Rattle.history_frame.specs.declared.events.Sent.{Sent}
use Rattle.history_frame.specs.Frames.{TellsNoMessage}
use Rattle.history_frame.specs.Spelling.{IsCall, IsInput, IsSent, call_spelling, input_spelling, mark_byte, sent_spelling}
use Rattle.history_frame.specs.Widths.{CallFits, InputFits, SentFits}
use Rattle.history_frame.specs.ReplyReading.{bytes_at}
use Rattle.history_frame.specs.Reading.{submit_at, ask_at, read_at, request_at, settled_at, call_fields_at, deliver_at, call_at, input_fields_at, input_at, mark_of, mark_at, sent_at}
use Rattle.history_frame.proofs.ByKind.{Taken, by_kind, no_kind, bare_kind, one_kind, two_kind, three_kind, kind_takes, kind_again}
use Rattle.history_frame.proofs.Sizes.{message_short}
use Rattle.history_frame.proofs.TextParts.{UpTo, numbered, bytes_part, bytes_again, plain_entry_part}

-- ---- calls

abbrev IsCallRead : Call → Type 0
IsCallRead call = IsCall call × CallFits call

call_fields_take : (kind : ℕ) (bytes : List ℕ) (at : ℕ) (x : Call × ℕ) → IsBytes bytes → at ≤ length bytes → call_fields_at kind bytes at ≡ Ok x → Taken IsCallRead call_spelling kind bytes at x
unfolding call_fields_at submit_at ask_at read_at request_at settled_at
call_fields_take kind bytes at x fits within e =
    by_kind IsCallRead call_spelling kind 1 (submit_at bytes at) _ bytes at x e
    (one_kind IsCallRead call_spelling 1 plain_entry_part (λ entry. Submit entry.client entry.number entry.bytes) (λ entry is. (is.size, (is.client, is.number, is.bytes))) (λ entry. refl) bytes at x fits within)
    (λ e2. by_kind IsCallRead call_spelling kind 2 (ask_at bytes at) _ bytes at x e2
    (two_kind IsCallRead call_spelling 2 u16_part u64_part (λ client number. Ask (record { 0 = client }) (record { 0 = number })) (λ client number a b. (tt, (a, b))) (λ client number. refl) bytes at x fits within)
    (λ e3. by_kind IsCallRead call_spelling kind 3 (read_at bytes at) _ bytes at x e3
    (two_kind IsCallRead call_spelling 3 u16_part u64_part (λ client position. Read (record { 0 = client }) (record { 0 = position })) (λ client position a b. (tt, (a, b))) (λ client position. refl) bytes at x fits within)
    (λ e4. by_kind IsCallRead call_spelling kind 4 (request_at bytes at) _ bytes at x e4
    (two_kind IsCallRead call_spelling 4 u16_part value_part (λ client value. Request (record { 0 = client }) value) (λ client value a b. (b, a)) (λ client value. refl) bytes at x fits within)
    (λ e5. by_kind IsCallRead call_spelling kind 5 (settled_at bytes at) (Err (BadKind kind)) bytes at x e5
    (three_kind IsCallRead call_spelling 5 u16_part value_part u32_part (λ client value start. Settled (record { 0 = client }) value start) (λ client value start a b c. (b, (a, c))) (λ client value start. refl) bytes at x fits within)
    (no_kind IsCallRead call_spelling kind bytes at x)))))

call_takes : (bytes : List ℕ) (at : ℕ) (x : Call × ℕ) → IsBytes bytes → (u8_at bytes at >>= λ kind. call_fields_at kind.0 bytes kind.1) ≡ Ok x → IsCallRead x.0 × StandsAt bytes at (call_spelling x.0) x.1
call_takes bytes at x fits e = kind_takes IsCallRead call_spelling call_fields_at bytes at x fits (λ kind place within h. call_fields_take kind bytes place x fits within h) e

call_again : (bytes : List ℕ) (at next : ℕ) (call : Call) → IsCall call → CallFits call → StandsAt bytes at (call_spelling call) next → (u8_at bytes at >>= λ kind. call_fields_at kind.0 bytes kind.1) ≡ Ok (call, next)
unfolding call_fields_at submit_at ask_at read_at request_at settled_at
call_again bytes at next (Submit client number text) is wide stands =
    kind_again call_fields_at 1 (entry_fields (entry_of client number text)) bytes at next (Submit client number text) (omega arith) stands
    (λ behind. rw (plain_entry_part.again bytes (at + 1) next (entry_of client number text) (record { client = wide.0; number = wide.1; size = is; bytes = wide.2 }) behind) refl)
call_again bytes at next (Ask client number) is wide stands =
    kind_again call_fields_at 2 (be2 client.0 ++ be8 number.0) bytes at next (Ask client number) (omega arith) stands
    (two_again u16_part u64_part (λ client number. Ask (record { 0 = client }) (record { 0 = number })) bytes (at + 1) next client.0 number.0 wide.0 wide.1)
call_again bytes at next (Read client position) is wide stands =
    kind_again call_fields_at 3 (be2 client.0 ++ be8 position.0) bytes at next (Read client position) (omega arith) stands
    (two_again u16_part u64_part (λ client position. Read (record { 0 = client }) (record { 0 = position })) bytes (at + 1) next client.0 position.0 wide.0 wide.1)
call_again bytes at next (Request client value) is wide stands =
    kind_again call_fields_at 4 (be2 client.0 ++ value_spelling value) bytes at next (Request client value) (omega arith) stands
    (two_again u16_part value_part (λ client value. Request (record { 0 = client }) value) bytes (at + 1) next client.0 value wide is)
call_again bytes at next (Settled client value start) is wide stands =
    kind_again call_fields_at 5 (be2 client.0 ++ (value_spelling value ++ be4 start)) bytes at next (Settled client value start) (omega arith) stands
    (three_again u16_part value_part u32_part (λ client value start. Settled (record { 0 = client }) value start) bytes (at + 1) next client.0 value start wide.0 is wide.1)

-- ---- inputs

abbrev pub IsInputRead : Input → Type 0
IsInputRead input = IsInput input × InputFits input × TellsNoMessage input

call_input_takes : (bytes : List ℕ) (at : ℕ) (x : Input × ℕ) → IsBytes bytes → call_at bytes at ≡ Ok x → Taken IsInputRead input_spelling 2 bytes at x
unfolding call_at
call_input_takes bytes at x fits e =
    let a = bind_ok (u8_at bytes at) (λ kind. call_fields_at kind.0 bytes kind.1 >>= λ call. Ok (ACall call.0, call.1)) x e in
    let b = bind_ok (call_fields_at a.0.0 bytes a.0.1) (λ call. Ok (ACall call.0, call.1)) x a.2 in
    let read : (u8_at bytes at >>= λ kind. call_fields_at kind.0 bytes kind.1) ≡ Ok b.0 =
    ap (λ (r : Result (ℕ × ℕ) Refusal). r >>= λ kind. call_fields_at kind.0 bytes kind.1) a.1 ∙ b.1 in
    let t = call_takes bytes at b.0 fits read in
    subst (Taken IsInputRead input_spelling 2 bytes at) (ok_is (ACall b.0.0, b.0.1) x b.2) (record { is = (t.0.0, t.0.1, tt); fields = call_spelling b.0.0; spelling = refl; stands = t.1 })

input_fields_take : (kind : ℕ) (bytes : List ℕ) (at : ℕ) (x : Input × ℕ) → IsBytes bytes → at ≤ length bytes → input_fields_at kind bytes at ≡ Ok x → Taken IsInputRead input_spelling kind bytes at x
unfolding input_fields_at deliver_at
input_fields_take kind bytes at x fits within e =
    by_kind IsInputRead input_spelling kind 1 (deliver_at bytes at) _ bytes at x e
    (two_kind IsInputRead input_spelling 1 u32_part u8_part (λ place index. Deliver place index None) (λ place index a b. (tt, (a, b), refl)) (λ place index. refl) bytes at x fits within)
    (λ e2. by_kind IsInputRead input_spelling kind 2 (call_at bytes at) _ bytes at x e2 (call_input_takes bytes at x fits)
    (λ e3. by_kind IsInputRead input_spelling kind 3 (Ok (Tick, at)) _ bytes at x e3 (bare_kind IsInputRead input_spelling 3 Tick bytes at x within (tt, tt, tt) refl)
    (λ e4. by_kind IsInputRead input_spelling kind 4 (Ok (Lead, at)) _ bytes at x e4 (bare_kind IsInputRead input_spelling 4 Lead bytes at x within (tt, tt, tt) refl)
    (λ e5. by_kind IsInputRead input_spelling kind 5 (Ok (Stop, at)) _ bytes at x e5 (bare_kind IsInputRead input_spelling 5 Stop bytes at x within (tt, tt, tt) refl)
    (λ e6. by_kind IsInputRead input_spelling kind 6 (Ok (Restart, at)) (Err (BadKind kind)) bytes at x e6 (bare_kind IsInputRead input_spelling 6 Restart bytes at x within (tt, tt, tt) refl)
    (no_kind IsInputRead input_spelling kind bytes at x))))))

pub input_takes : (bytes : List ℕ) (at : ℕ) (x : Input × ℕ) → IsBytes bytes → input_at bytes at ≡ Ok x → IsInputRead x.0 × StandsAt bytes at (input_spelling x.0) x.1
unfolding input_at
input_takes bytes at x fits e = kind_takes IsInputRead input_spelling input_fields_at bytes at x fits (λ kind place within h. input_fields_take kind bytes place x fits within h) e

call_input_again : (bytes : List ℕ) (at next : ℕ) (call : Call) → IsCall call → CallFits call → StandsAt bytes at (call_spelling call) next → call_at bytes at ≡ Ok (ACall call, next)
unfolding call_at
call_input_again bytes at next call is wide stands =
    let a = bind_ok (u8_at bytes at) (λ kind. call_fields_at kind.0 bytes kind.1) (call, next) (call_again bytes at next call is wide stands) in
    rw (a.1, a.2) refl

bare_again : (kind : ℕ) (input : Input) (bytes : List ℕ) (at next : ℕ) → kind < 256 → ((place : ℕ) → input_fields_at kind bytes place ≡ Ok (input, place)) → StandsAt bytes at (kind ∷ []) next → input_at bytes at ≡ Ok (input, next)
unfolding input_at
bare_again kind input bytes at next small read stands =
    kind_again input_fields_at kind [] bytes at next input small stands
    (λ behind. read (at + 1) ∙ ap (λ (k : ℕ). given (input, k)) (omega (arith, behind.end)))

deliver_again : (bytes : List ℕ) (at next place index : ℕ) → place < 2 ^ 32 → index < 256 → StandsAt bytes at (1 ∷ (be4 place ++ (index ∷ []))) next → input_at bytes at ≡ Ok (Deliver place index None, next)
unfolding input_at input_fields_at deliver_at
deliver_again bytes at next place index wide small stands =
    kind_again input_fields_at 1 (be4 place ++ (index ∷ [])) bytes at next (Deliver place index None) (omega arith) stands
    (two_again u32_part u8_part (λ place index. Deliver place index None) bytes (at + 1) next place index wide small)

pub input_again : (bytes : List ℕ) (at next : ℕ) (input : Input) → IsInput input → InputFits input → TellsNoMessage input → StandsAt bytes at (input_spelling input) next → input_at bytes at ≡ Ok (input, next)
unfolding input_at input_fields_at
input_again bytes at next (Deliver place index message) is wide untold stands =
    deliver_again bytes at next place index wide.0 wide.1 stands ∙ ap (λ m. given (Deliver place index m, next)) (sym untold)
input_again bytes at next (ACall call) is wide untold stands =
    kind_again input_fields_at 2 (call_spelling call) bytes at next (ACall call) (omega arith) stands (call_input_again bytes (at + 1) next call is wide)
input_again bytes at next Tick is wide untold stands = bare_again 3 Tick bytes at next (omega arith) (λ place. refl) stands
input_again bytes at next Lead is wide untold stands = bare_again 4 Lead bytes at next (omega arith) (λ place. refl) stands
input_again bytes at next Stop is wide untold stands = bare_again 5 Stop bytes at next (omega arith) (λ place. refl) stands
input_again bytes at next Restart is wide untold stands = bare_again 6 Restart bytes at next (omega arith) (λ place. refl) stands

-- ---- marks

mark_is : (byte : ℕ) (mark : Mark) → mark_of byte ≡ Ok mark → mark_byte mark ≡ byte
unfolding mark_of
mark_is byte mark e =
    one 0 Done _ refl e (λ e1. one 1 Halted _ refl e1 (λ e2. one 2 OpenedWithout _ refl e2 (λ e3. one 3 OpenedWith _ refl e3 (λ e4. one 4 StayedDown (Err (BadKind byte)) refl e4 none))))
  where
    one : (n : ℕ) (first : Mark) (rest : Result Mark Refusal) → mark_byte first ≡ n → cond (eqb byte n) (Ok first) rest ≡ Ok mark → (rest ≡ Ok mark → mark_byte mark ≡ byte) → mark_byte mark ≡ byte
    one n first rest here h others = by_test (eqb byte n) refl h
      where
        by_test : (b : Bool) → eqb byte n ≡ b → cond b (Ok first) rest ≡ Ok mark → mark_byte mark ≡ byte
        by_test true is g = ap mark_byte (sym (ok_is first mark g)) ∙ here ∙ sym (eqb-true byte n is)
        by_test false is g = others g

    none : Err (BadKind byte) ≡ given mark → mark_byte mark ≡ byte
    none h = absurd cc

pub mark_takes : (bytes : List ℕ) (at : ℕ) (x : Mark × ℕ) → IsBytes bytes → mark_at bytes at ≡ Ok x → StandsAt bytes at (mark_byte x.0 ∷ []) x.1
unfolding mark_at
mark_takes bytes at x fits e =
    let a = bind_ok (u8_at bytes at) (λ byte. mark_of byte.0 >>= λ mark. Ok (mark, byte.1)) x e in
    let b = bind_ok (mark_of a.0.0) (λ mark. Ok (mark, a.0.1)) x a.2 in
    let first = u8_takes bytes at a.0 fits a.1 in
    subst (λ (y : Mark × ℕ). StandsAt bytes at (mark_byte y.0 ∷ []) y.1) (ok_is (b.0, a.0.1) x b.2)
    (subst (λ (n : ℕ). StandsAt bytes at (n ∷ []) a.0.1) (sym (mark_is a.0.0 b.0 b.1)) first.0)

mark_small : (mark : Mark) → mark_byte mark < 256
mark_small Done = omega arith
mark_small Halted = omega arith
mark_small OpenedWithout = omega arith
mark_small OpenedWith = omega arith
mark_small StayedDown = omega arith

mark_back : (mark : Mark) → mark_of (mark_byte mark) ≡ Ok mark
unfolding mark_of
mark_back Done = refl
mark_back Halted = refl
mark_back OpenedWithout = refl
mark_back OpenedWith = refl
mark_back StayedDown = refl

pub mark_again : (bytes : List ℕ) (at next : ℕ) (mark : Mark) → StandsAt bytes at (mark_byte mark ∷ []) next → mark_at bytes at ≡ Ok (mark, next)
unfolding mark_at
mark_again bytes at next mark stands = rw (u8_again bytes at (mark_byte mark) next (mark_small mark) stands, mark_back mark) refl

-- ---- outputs

abbrev pub IsSentRead : Sent → Type 0
IsSentRead sent = IsSent sent × SentFits sent

text_part : IsPart (bytes_at 2097152) (UpTo 2097152) numbered
text_part = bytes_part 2097152 (omega arith)

sent_takes : (bytes : List ℕ) (at : ℕ) (x : Sent × ℕ) → IsBytes bytes → at ≤ length bytes → sent_at bytes at ≡ Ok x → IsSentRead x.0 × StandsAt bytes at (sent_spelling x.0) x.1
unfolding sent_at
sent_takes bytes at x fits within e =
    let a = bind_ok (u16_at bytes at) (λ to. bytes_at 2097152 bytes to.1 >>= λ text. message_of text.0 >>= λ message. Ok (record { to = record { 0 = to.0 }; message = message }, text.1)) x e in
    let b = bind_ok (bytes_at 2097152 bytes a.0.1) (λ text. message_of text.0 >>= λ message. Ok (record { to = record { 0 = a.0.0 }; message = message }, text.1)) x a.2 in
    let c = bind_ok (message_of b.0.0) (λ message. Ok (record { to = record { 0 = a.0.0 }; message = message }, b.0.1)) x b.2 in
    let to = u16_takes bytes at a.0 fits a.1 in
    let text = text_part.takes bytes a.0.1 b.0 fits to.0.within b.1 in
    let message = all_take b.0.0 c.0 text.0.1 c.1 in
    let behind : StandsAt bytes a.0.1 (numbered (message_spelling c.0)) b.0.1 = subst (λ (l : List ℕ). StandsAt bytes a.0.1 (numbered l) b.0.1) message.1 text.1 in
    let made : Sent × ℕ = (record { to = record { 0 = a.0.0 }; message = c.0 }, b.0.1) in
    subst (λ (y : Sent × ℕ). IsSentRead y.0 × StandsAt bytes at (sent_spelling y.0) y.1) (ok_is made x c.2)
    ((message.0, to.1), StandsAt-then bytes at a.0.1 b.0.1 (be2 a.0.0) (numbered (message_spelling c.0)) to.0 behind)

message_fits : (message : Message) → IsMessage message → length (message_spelling message) ≤ 2097152
message_fits message is = omega (arith, length-message_spelling message is, message_short message is)

sent_again : (bytes : List ℕ) (at next : ℕ) (sent : Sent) → IsSentRead sent → StandsAt bytes at (sent_spelling sent) next → sent_at bytes at ≡ Ok (sent, next)
unfolding sent_at
sent_again bytes at next sent is stands =
    let two = be2 sent.to.0 in
    let text = message_spelling sent.message in
    let to = u16_again bytes at sent.to.0 (at + length two) is.1 (StandsAt-front bytes at next two (numbered text) stands) in
    let read = bytes_again 2097152 bytes (at + length two) next text (omega arith) (message_fits sent.message is.0) (StandsAt-back bytes at next two (numbered text) stands) in
    rw (to, read, all_again sent.message is.0) refl

sent_needs_none : (bytes : List ℕ) (at : ℕ) → NeedsNone (sent_at bytes at)
unfolding sent_at
sent_needs_none bytes at = bind _ _ (u16_at-needs_none bytes at) (λ to. bind _ _ (text_part.needs_none bytes to.1) (λ text. bind _ _ (message_of-needs_none text.0) (λ message. gives _)))

pub sent_part : IsPart sent_at IsSentRead sent_spelling
sent_part = record { takes = sent_takes; again = sent_again; needs_none = sent_needs_none }
