-- An entry that is read is spelled so, and what is spelled is read.
use Rattle.std.proofs.Common.{◌≡◌, ℕ, ◌+◌, ◌^◌, ◌<◌, ◌≤◌, cond, ltb, List, [], ◌∷◌, ◌++◌, length, take, drop, Result, Ok, Err, refl, sym, ap, subst, ◌∙◌, arith, inl, inr}
use Rattle.std.proofs.lemmas.Bool.{cases_lt, ltb-false, le-ltb}
use Rattle.std.proofs.lemmas.List.{append_cancel_left, length-append, length-drop, length-take, length-take-le, get_or-drop, get_or-take, get_or_past}
use Rattle.std.specs.Prelude.{IfOk}
use Rattle.log_base.specs.Wide.{IsBytes, be2, be4, be8}
use Rattle.log_base.proofs.Wide.{length-be2, length-be4, length-be8}
use Rattle.record_frame.specs.declared.entries.Entry.{Entry}
use Rattle.record_frame.specs.declared.entries.Head.{Head}
use Rattle.record_frame.specs.declared.refusals.Refusal.{Refusal}
use Rattle.record_frame.specs.declared.refusals.Refusal.TheVariants.{TooLong}
use Rattle.record_frame.specs.Fields.{◌>>=◌, StandsAt, Gives, end_at, u16_at, u32_at, u64_at, kind_at}
use Rattle.record_frame.specs.Entries.{IsEntry, entry_fields, entry_spelling, head_read, head_fields_at, entry_fields_at, entry_at}
use Rattle.record_frame.proofs.FieldLaws.{bind_ok, passes, given, ok_is, StandsAt-then, StandsAt-front, StandsAt-back, take_stands, stands_take, front_stands, end_takes, end_again, u16_takes, u32_takes, u64_takes, u16_again, u32_again, u64_again, kind_takes, kind_again}

-- how many bytes an entry has
pub length-entry_spelling : (entry : Entry) → length (entry_spelling entry) ≡ 15 + length entry.bytes
length-entry_spelling entry =
    let two = be2 entry.client.0 in
    let eight = be8 entry.number.0 in
    let four = be4 (length entry.bytes) in
    omega (arith, length-append two (eight ++ (four ++ entry.bytes)), length-append eight (four ++ entry.bytes), length-append four entry.bytes, length-be2 entry.client.0, length-be8 entry.number.0, length-be4 (length entry.bytes))

-- the fields of a head and the record behind them
abbrev head_text : Head → List ℕ → List ℕ
head_text head record_bytes = be2 head.client.0 ++ (be8 head.number.0 ++ (be4 head.length ++ record_bytes))

-- a head that is read stands there, and its record behind it
pub record HeadTaken (bytes : List ℕ) (at : ℕ) (found : Head × ℕ) : Type 0 where
  pub text : StandsAt bytes at (head_text found.0 (take found.0.length (drop (at + 14) bytes))) found.1
  pub client : found.0.client.0 < 2 ^ 16
  pub number : found.0.number.0 < 2 ^ 64
  pub size : found.0.length ≤ 65535
  pub behind : at + 14 + found.0.length ≤ length bytes

head_takes : (bytes : List ℕ) (at : ℕ) (x : Head × ℕ) → IsBytes bytes → head_fields_at bytes at ≡ Ok x → HeadTaken bytes at x
unfolding head_fields_at
head_takes bytes at x fits e =
    let a = bind_ok (u16_at bytes at) (λ client. u64_at bytes client.1 >>= λ number. u32_at bytes number.1 >>= λ size. cond (ltb 65535 size.0) (Err (TooLong size.0)) (end_at size.0 bytes size.1 >>= λ next. Ok (record { client = record { 0 = client.0 }; number = record { 0 = number.0 }; length = size.0 }, next))) x e in
    let b = bind_ok (u64_at bytes a.0.1) (λ number. u32_at bytes number.1 >>= λ size. cond (ltb 65535 size.0) (Err (TooLong size.0)) (end_at size.0 bytes size.1 >>= λ next. Ok (record { client = record { 0 = a.0.0 }; number = record { 0 = number.0 }; length = size.0 }, next))) x a.2 in
    let c = bind_ok (u32_at bytes b.0.1) (λ size. cond (ltb 65535 size.0) (Err (TooLong size.0)) (end_at size.0 bytes size.1 >>= λ next. Ok (record { client = record { 0 = a.0.0 }; number = record { 0 = b.0.0 }; length = size.0 }, next))) x b.2 in
    let p = passes (ltb 65535 c.0.0) (TooLong c.0.0) (end_at c.0.0 bytes c.0.1 >>= λ next. Ok (record { client = record { 0 = a.0.0 }; number = record { 0 = b.0.0 }; length = c.0.0 }, next)) x c.2 in
    let d = bind_ok (end_at c.0.0 bytes c.0.1) (λ next. Ok (record { client = record { 0 = a.0.0 }; number = record { 0 = b.0.0 }; length = c.0.0 }, next)) x p.1 in
    let made : Head × ℕ = (record { client = record { 0 = a.0.0 }; number = record { 0 = b.0.0 }; length = c.0.0 }, d.0) in
    let t1 = u16_takes bytes at a.0 fits a.1 in
    let t2 = u64_takes bytes a.0.1 b.0 fits b.1 in
    let t3 = u32_takes bytes b.0.1 c.0 fits c.1 in
    let ends = end_takes c.0.0 bytes c.0.1 d.0 d.1 in
    let place : c.0.1 ≡ at + 14 = omega (arith, t1.0.end, t2.0.end, t3.0.end, length-be2 a.0.0, length-be8 b.0.0, length-be4 c.0.0) in
    let within : at + 14 + c.0.0 ≤ length bytes = omega (arith, ends.0, ends.1, place) in
    let last : StandsAt bytes c.0.1 (take c.0.0 (drop (at + 14) bytes)) d.0 =
    subst (λ (k : ℕ). StandsAt bytes c.0.1 (take c.0.0 (drop k bytes)) d.0) place
    (subst (λ (k : ℕ). StandsAt bytes c.0.1 (take c.0.0 (drop c.0.1 bytes)) k) ends.0 (take_stands bytes c.0.1 c.0.0 (omega (arith, within, place)))) in
    let all = StandsAt-then bytes at a.0.1 d.0 _ _ t1.0 (StandsAt-then bytes a.0.1 b.0.1 d.0 _ _ t2.0 (StandsAt-then bytes b.0.1 c.0.1 d.0 _ _ t3.0 last)) in
    let taken : HeadTaken bytes at made = record { text = all; client = t1.1; number = t2.1; size = ltb-false _ _ p.0; behind = within } in
    subst (HeadTaken bytes at) (ok_is made x d.2) taken

IsBytes-drop : (n : ℕ) (bytes : List ℕ) → IsBytes bytes → IsBytes (drop n bytes)
IsBytes-drop n bytes fits i = rw get_or-drop (fits (n + i))

IsBytes-take : (n : ℕ) (bytes : List ℕ) → IsBytes bytes → IsBytes (take n bytes)
IsBytes-take n bytes fits i =
    elim (cases_lt i n) [
      | inl lt ↦ rw (get_or-take n bytes i 0 lt) (fits i)
      | inr le ↦ rw (get_or_past (take n bytes) i 0 (omega (arith, length-take n bytes))) (omega arith)
    ]

-- an entry whose fields are read stands there
entry_fields_take : (bytes : List ℕ) (at : ℕ) (x : Entry × ℕ) → IsBytes bytes → entry_fields_at bytes at ≡ Ok x → IsEntry x.0 × StandsAt bytes at (entry_fields x.0) x.1
unfolding entry_fields_at
entry_fields_take bytes at x fits e =
    let a = bind_ok (head_fields_at bytes at) (λ head. Ok (record { client = head.0.client; number = head.0.number; bytes = take head.0.length (drop (at + 14) bytes) }, head.1)) x e in
    let h = head_takes bytes at a.0 fits a.1 in
    let made : Entry × ℕ = (record { client = a.0.0.client; number = a.0.0.number; bytes = take a.0.0.length (drop (at + 14) bytes) }, a.0.1) in
    let size : length (take a.0.0.length (drop (at + 14) bytes)) ≡ a.0.0.length = length-take-le _ _ (omega (arith, length-drop (at + 14) bytes, h.behind)) in
    let text : StandsAt bytes at (entry_fields made.0) a.0.1 =
    subst (λ (k : ℕ). StandsAt bytes at (be2 a.0.0.client.0 ++ (be8 a.0.0.number.0 ++ (be4 k ++ take a.0.0.length (drop (at + 14) bytes)))) a.0.1) (sym size) h.text in
    let is : IsEntry made.0 = record { client = h.client; number = h.number; size = omega (arith, size, h.size); bytes = IsBytes-take _ _ (IsBytes-drop _ bytes fits) } in
    subst (λ (y : Entry × ℕ). IsEntry y.0 × StandsAt bytes at (entry_fields y.0) y.1) (ok_is made x a.2) (is, text)

pub entry_takes : (bytes : List ℕ) (at next : ℕ) (entry : Entry) → IsBytes bytes → entry_at bytes at ≡ Ok (entry, next) → IsEntry entry × StandsAt bytes at (entry_spelling entry) next
unfolding entry_at
entry_takes bytes at next entry fits e =
    let a = bind_ok (kind_at 1 bytes at) (λ place. entry_fields_at bytes place) (entry, next) e in
    let rest = entry_fields_take bytes a.0 (entry, next) fits a.2 in
    (rest.0, StandsAt-then bytes at a.0 next (1 ∷ []) (entry_fields entry) (kind_takes 1 bytes at a.0 fits a.1) rest.1)

-- the fields of an entry that stand there are read
entry_fields_again : (bytes : List ℕ) (at next : ℕ) (entry : Entry) → IsEntry entry → StandsAt bytes at (entry_fields entry) next → entry_fields_at bytes at ≡ Ok (entry, next)
unfolding entry_fields_at head_fields_at
entry_fields_again bytes at next entry is stands =
    let two = be2 entry.client.0 in
    let eight = be8 entry.number.0 in
    let four = be4 (length entry.bytes) in
    let s1 = StandsAt-back bytes at next two (eight ++ (four ++ entry.bytes)) stands in
    let s2 = StandsAt-back bytes (at + length two) next eight (four ++ entry.bytes) s1 in
    let s3 = StandsAt-back bytes (at + length two + length eight) next four entry.bytes s2 in
    let r1 = u16_again bytes at entry.client.0 (at + length two) is.client (StandsAt-front bytes at next two (eight ++ (four ++ entry.bytes)) stands) in
    let r2 = u64_again bytes (at + length two) entry.number.0 (at + length two + length eight) is.number (StandsAt-front bytes (at + length two) next eight (four ++ entry.bytes) s1) in
    let r3 = u32_again bytes (at + length two + length eight) (length entry.bytes) (at + length two + length eight + length four) (omega (arith, is.size)) (StandsAt-front bytes (at + length two + length eight) next four entry.bytes s2) in
    let short = le-ltb 65535 (length entry.bytes) is.size in
    let place : at + 14 ≡ at + length two + length eight + length four = omega (arith, length-be2 entry.client.0, length-be8 entry.number.0, length-be4 (length entry.bytes)) in
    let ends : end_at (length entry.bytes) bytes (at + length two + length eight + length four) ≡ Ok next =
    end_again (length entry.bytes) bytes (at + length two + length eight + length four) (omega (arith, s3.end, s3.within)) ∙ ap (λ (k : ℕ). given k) (sym s3.end) in
    let taken : take (length entry.bytes) (drop (at + 14) bytes) ≡ entry.bytes = ap (λ (k : ℕ). take (length entry.bytes) (drop k bytes)) place ∙ stands_take bytes _ next entry.bytes s3 in
    rw (r1, r2, r3, short, ends, taken) refl

pub entry_again : (bytes : List ℕ) (at next : ℕ) (entry : Entry) → IsEntry entry → StandsAt bytes at (entry_spelling entry) next → entry_at bytes at ≡ Ok (entry, next)
unfolding entry_at
entry_again bytes at next entry is stands =
    rw (
      kind_again 1 bytes at (at + 1) (omega arith) (StandsAt-front bytes at next (1 ∷ []) (entry_fields entry) stands),
      entry_fields_again bytes (at + 1) next entry is (StandsAt-back bytes at next (1 ∷ []) (entry_fields entry) stands),
    ) refl

pub entries_apart : (one other : Entry) (x y : List ℕ) → IsEntry one → IsEntry other → entry_spelling one ++ x ≡ entry_spelling other ++ y → (one ≡ other) × (x ≡ y)
entries_apart one other x y is_one is_other e =
    let first = entry_again (entry_spelling one ++ x) 0 _ one is_one (front_stands _ (entry_spelling one) x refl) in
    let second = entry_again (entry_spelling one ++ x) 0 _ other is_other (front_stands _ (entry_spelling other) y e) in
    let both = ok_is (one, length (entry_spelling one)) (other, length (entry_spelling other)) (sym first ∙ second) in
    let same : one ≡ other = ap (λ (p : Entry × ℕ). p.0) both in
    (same, append_cancel_left (entry_spelling one) x y (e ∙ ap (λ (z : Entry). entry_spelling z ++ y) (sym same)))

-- ---- what reading gives

pub entry_is_found : (bytes : List ℕ) (at : ℕ) (r : Result (Entry × ℕ) Refusal) → IsBytes bytes → Gives (λ x. x) r (entry_at bytes at)
    → IfOk r (λ x. IsEntry x.0 × StandsAt bytes at (entry_spelling x.0) x.1)
entry_is_found bytes at (Ok x) fits given_so = entry_takes bytes at x.1 x.0 fits given_so
entry_is_found bytes at (Err refusal) fits given_so = tt

pub entry_behind_kind : (bytes : List ℕ) (at place : ℕ) (r : Result (Entry × ℕ) Refusal) → IsBytes bytes → given place ≡ kind_at 1 bytes at → Gives (λ x. x) r (entry_fields_at bytes place)
    → IfOk r (λ x. IsEntry x.0 × StandsAt bytes at (entry_spelling x.0) x.1)
unfolding entry_at
entry_behind_kind bytes at place r fits kind given_so =
    let same : entry_fields_at bytes place ≡ entry_at bytes at = rw (← kind) refl in
    entry_is_found bytes at r fits (subst (λ (read : Result (Entry × ℕ) Refusal). Gives (λ x. x) r read) same given_so)

pub entry_is_only : (bytes rest : List ℕ) (entry : Entry) (r : Result (Entry × ℕ) Refusal) → IsEntry entry → bytes ≡ entry_spelling entry ++ rest → Gives (λ x. x) r (entry_at bytes 0)
    → Gives (λ x. x) r (Ok (entry, length (entry_spelling entry)))
entry_is_only bytes rest entry r is e given_so =
    subst (λ (read : Result (Entry × ℕ) Refusal). Gives (λ x. x) r read) (entry_again bytes 0 _ entry is (front_stands bytes (entry_spelling entry) rest e)) given_so

-- a head that is read, and each refusal, is that of the entry
pub head_without_kind : (bytes : List ℕ) (refusal : Refusal) → Err refusal ≡ kind_at 1 bytes 0 → Err refusal ≡ head_read (entry_at bytes 0)
unfolding entry_at
head_without_kind bytes refusal e = rw (← e) refl

pub head_refused : (bytes : List ℕ) (place : ℕ) (refusal : Refusal) → given place ≡ kind_at 1 bytes 0 → Err refusal ≡ head_fields_at bytes place → Err refusal ≡ head_read (entry_at bytes 0)
unfolding entry_at entry_fields_at
head_refused bytes place refusal kind e = rw (← kind, ← e) refl

pub head_found : (bytes : List ℕ) (place : ℕ) (x : Head × ℕ) → given place ≡ kind_at 1 bytes 0 → given x ≡ head_fields_at bytes place → (x.1 ≡ place + 14 + x.0.length) × (x.1 ≤ length bytes)
    → given x.0 ≡ head_read (entry_at bytes 0)
unfolding entry_at entry_fields_at
head_found bytes place x kind e within =
    let size : length (take x.0.length (drop (place + 14) bytes)) ≡ x.0.length = length-take-le _ _ (omega (arith, length-drop (place + 14) bytes, within.0, within.1)) in
    rw (← kind, ← e, size) refl
