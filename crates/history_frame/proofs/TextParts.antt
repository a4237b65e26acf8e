-- Bytes behind their number, and entries without a kind: what is read stands there, and what stands there is read.
use Rattle.std.proofs.Common.{◌≡◌, ℕ, ◌+◌, ◌-◌, ◌^◌, ◌<◌, ◌≤◌, cond, ltb, List, ◌++◌, length, take, drop, Ok, Err, refl, sym, ap, subst, ◌∙◌, arith, inl, inr}
use Rattle.std.proofs.lemmas.Bool.{cases_lt, ltb-false, le-ltb}
use Rattle.std.proofs.lemmas.List.{length-drop, length-take, length-take-le, get_or-take, get_or_past}
use Rattle.log_base.specs.Wide.{IsBytes, be2, be4, be8}
use Rattle.log_base.proofs.Wide.{length-be4, IsBytes-drop}
use Rattle.record_frame.specs.declared.entries.Entry.{Entry}
use Rattle.record_frame.specs.declared.refusals.Refusal.TheVariants.{TooLong}
use Rattle.record_frame.specs.Entries.{IsEntry, entry_fields, entry_of}
use Rattle.record_frame.specs.Fields.{StandsAt, end_at, u32_at}
use Rattle.record_frame.proofs.FieldLaws.{bind_ok, passes, given, ok_is, StandsAt-then, StandsAt-front, StandsAt-back, take_stands, stands_take, end_takes, end_again, u32_takes, u32_again}
use Rattle.record_frame.proofs.Reasons.{NeedsNone, u32_at-needs_none, end_at-needs_none}
use Rattle.message_frame.proofs.Groups.{three_take, three_again, three_need_none}
use Rattle.message_frame.proofs.Parts.{IsPart, bind, choice, gives, u16_part, u64_part}
use Rattle.reply_frame.specs.Replies.{entry_bytes}
use Rattle.history_frame.specs.ReplyReading.{bytes_end, bytes_at, plain_entry_at}

IsBytes-take : (n : ℕ) (bytes : List ℕ) → IsBytes bytes → IsBytes (take n bytes)
IsBytes-take n bytes fits i =
    elim (cases_lt i n) [
      | inl lt ↦ rw (get_or-take n bytes i 0 lt) (fits i)
      | inr le ↦ rw (get_or_past (take n bytes) i 0 (omega (arith, length-take n bytes))) (omega arith)
    ]

-- bytes that are read
record BytesTaken (limit : ℕ) (bytes : List ℕ) (at : ℕ) (found : List ℕ × ℕ) : Type 0 where
  size : length found.0 ≤ limit
  bytes_fit : IsBytes found.0
  stands : StandsAt bytes at (be4 (length found.0) ++ found.0) found.1

bytes_take : (limit : ℕ) (bytes : List ℕ) (at : ℕ) (x : List ℕ × ℕ) → IsBytes bytes → bytes_at limit bytes at ≡ Ok x → BytesTaken limit bytes at x
unfolding bytes_at bytes_end
bytes_take limit bytes at x fits e =
    let a = bind_ok (bytes_end limit bytes at) (λ next. Ok (take (next - (at + 4)) (drop (at + 4) bytes), next)) x e in
    let b = bind_ok (u32_at bytes at) (λ size. cond (ltb limit size.0) (Err (TooLong size.0)) (end_at size.0 bytes size.1)) a.0 a.1 in
    let p = passes (ltb limit b.0.0) (TooLong b.0.0) (end_at b.0.0 bytes b.0.1) a.0 b.2 in
    let number = u32_takes bytes at b.0 fits b.1 in
    let ends = end_takes b.0.0 bytes b.0.1 a.0 p.1 in
    let place : b.0.1 ≡ at + 4 = omega (arith, number.0.end, length-be4 b.0.0) in
    let width : a.0 - (at + 4) ≡ b.0.0 = omega (arith, ends.0, place) in
    let within : at + 4 + b.0.0 ≤ length bytes = omega (arith, ends.0, ends.1, place) in
    let text = take (a.0 - (at + 4)) (drop (at + 4) bytes) in
    let size : length text ≡ b.0.0 = ap (λ (n : ℕ). length (take n (drop (at + 4) bytes))) width ∙ length-take-le b.0.0 (drop (at + 4) bytes) (omega (arith, length-drop (at + 4) bytes, within)) in
    let behind : StandsAt bytes (at + 4) text a.0 =
    subst (λ (k : ℕ). StandsAt bytes (at + 4) text k) (omega (arith, ends.0, place, width))
    (take_stands bytes (at + 4) (a.0 - (at + 4)) (omega (arith, within, width))) in
    let front : StandsAt bytes at (be4 (length text)) (at + 4) =
    subst (λ (n : ℕ). StandsAt bytes at (be4 n) (at + 4)) (sym size) (subst (λ (k : ℕ). StandsAt bytes at (be4 b.0.0) k) place number.0) in
    let taken : BytesTaken limit bytes at (text, a.0) = record {
      size = omega (arith, size, ltb-false _ _ p.0);
      bytes_fit = IsBytes-take _ _ (IsBytes-drop (at + 4) bytes fits);
      stands = StandsAt-then bytes at (at + 4) a.0 _ _ front behind;
    } in
    subst (BytesTaken limit bytes at) (ok_is (text, a.0) x a.2) taken

pub bytes_again : (limit : ℕ) (bytes : List ℕ) (at next : ℕ) (text : List ℕ) → limit < 2 ^ 32 → length text ≤ limit → StandsAt bytes at (be4 (length text) ++ text) next → bytes_at limit bytes at ≡ Ok (text, next)
unfolding bytes_at bytes_end
bytes_again limit bytes at next text small fits stands =
    let four = be4 (length text) in
    let wide = length-be4 (length text) in
    let place : at + length four ≡ at + 4 = omega (arith, wide) in
    let number : u32_at bytes at ≡ Ok (length text, at + 4) =
    u32_again bytes at (length text) (at + 4) (omega (arith, fits, small)) (subst (λ (k : ℕ). StandsAt bytes at four k) place (StandsAt-front bytes at next four text stands)) in
    let behind : StandsAt bytes (at + 4) text next = subst (λ (k : ℕ). StandsAt bytes k text next) place (StandsAt-back bytes at next four text stands) in
    let short = le-ltb limit (length text) fits in
    let ends : end_at (length text) bytes (at + 4) ≡ Ok next =
    end_again (length text) bytes (at + 4) (omega (arith, behind.end, behind.within)) ∙ ap (λ (k : ℕ). given k) (sym behind.end) in
    let width : next - (at + 4) ≡ length text = omega (arith, behind.end) in
    let taken : take (next - (at + 4)) (drop (at + 4) bytes) ≡ text =
    ap (λ (n : ℕ). take n (drop (at + 4) bytes)) width ∙ stands_take bytes (at + 4) next text behind in
    rw (number, short, ends, taken) refl

bytes_need_none : (limit : ℕ) (bytes : List ℕ) (at : ℕ) → NeedsNone (bytes_at limit bytes at)
unfolding bytes_at bytes_end
bytes_need_none limit bytes at =
    bind _ _ (bind _ _ (u32_at-needs_none bytes at) (λ size. choice _ _ _ (too_long _) (end_at-needs_none size.0 bytes size.1))) (λ next. gives _)
  where
    too_long : (n : ℕ) → NeedsNone {A = ℕ} (Err (TooLong n))
    too_long n = λ e. cc

-- bytes that are at most so many
abbrev pub UpTo : ℕ → List ℕ → Type 0
UpTo limit text = (length text ≤ limit) × IsBytes text

abbrev pub numbered : List ℕ → List ℕ
numbered text = be4 (length text) ++ text

pub bytes_part : (limit : ℕ) → limit < 2 ^ 32 → IsPart (bytes_at limit) (UpTo limit) numbered
bytes_part limit small = record {
  takes = λ bytes at x fits within e. let t = bytes_take limit bytes at x fits e in ((t.size, t.bytes_fit), t.stands);
  again = λ bytes at next text is stands. bytes_again limit bytes at next text small is.0 stands;
  needs_none = bytes_need_none limit;
}

-- ---- entries without a kind

abbrev make_entry : ℕ → ℕ → List ℕ → Entry
make_entry client number text = entry_of (record { 0 = client }) (record { 0 = number }) text

record_part : IsPart (bytes_at 65535) (UpTo 65535) numbered
record_part = bytes_part 65535 (omega arith)

pub plain_entry_part : IsPart plain_entry_at IsEntry entry_fields
unfolding plain_entry_at
plain_entry_part = record {
  takes = λ bytes at x fits within e.
      three_take u16_part u64_part record_part make_entry bytes at x fits within e (λ (y : Entry × ℕ). IsEntry y.0 × StandsAt bytes at (entry_fields y.0) y.1)
      (λ client number text next is_client is_number is stands. (record { client = is_client; number = is_number; size = is.0; bytes = is.1 }, stands));
  again = λ bytes at next entry is stands.
      three_again u16_part u64_part record_part make_entry bytes at next entry.client.0 entry.number.0 entry.bytes is.client is.number (is.size, is.bytes) stands;
  needs_none = λ bytes at. three_need_none u16_part u64_part record_part make_entry bytes at;
}

-- an entry in a reply has no kind
pub entry_text : (entry : Entry) → entry_bytes entry ≡ entry_fields entry
unfolding be2 be4 be8
entry_text entry = refl
