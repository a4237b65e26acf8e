-- A reply that is read is spelled so, and what is spelled is read.
use Rattle.std.proofs.Common.{◌≡◌, ℕ, ◌+◌, ◌^◌, ◌<◌, ◌≤◌, Bool, true, false, cond, eqb, ltb, List, [], ◌∷◌, ◌++◌, length, get_or, Result, Ok, Err, refl, sym, ap, subst, ◌∙◌, append_assoc, arith}
use Rattle.std.proofs.lemmas.Bool.{eqb-true, ltb-false, le-ltb}
use Rattle.std.specs.List.{flat_map, AllByRecursion}
use Rattle.log_base.specs.Wide.{IsBytes, be2, be4, be8}
use Rattle.log_base.specs.declared.numbers.Position.{Position}
use Rattle.record_frame.specs.declared.entries.Entry.{Entry}
use Rattle.record_frame.specs.declared.refusals.Refusal.{Refusal}
use Rattle.record_frame.specs.declared.refusals.Refusal.TheVariants.{BadKind}
use Rattle.record_frame.specs.Entries.{IsEntry, entry_fields}
use Rattle.record_frame.specs.Fields.{◌>>=◌, StandsAt, u8_at, u16_at, u32_at, u64_at}
use Rattle.record_frame.proofs.FieldLaws.{bind_ok, passes, given, ok_is, StandsAt-then, StandsAt-front, StandsAt-back, u8_takes, u16_takes, u32_takes, u64_takes, u16_again, u32_again, u64_again}
use Rattle.message_frame.proofs.Groups.{two_again}
use Rattle.message_frame.proofs.Parts.{u16_part, u64_part}
use Rattle.reply_frame.specs.declared.replies.Reply.{Reply, Nothing, Stored, At, Found, PendingAsk, PendingRead, PendingWish, Finalised, FinalisedAt, NotAdded, Stale, Full, Halted, Down, Missing, Trimmed, Elsewhere, Taken as TakenFrom, NoSuchShard, NotLeading, Settled, Stream', NoLeader, NoLetter, NothingKept, Done, Spent}
use Rattle.reply_frame.specs.Replies.{IsShort, IsNodeAnswer, IsReply, entry_bytes, reply_bytes}
use Rattle.history_frame.specs.Widths.{ReplyFits}
use Rattle.history_frame.specs.ReplyReading.{Told, told, plain, stream, plain_entries_at, is_wide, is_narrow, wide_reply, narrow_reply, bare_reply, wide_reply_at, narrow_reply_at, bare_reply_at, found_at, elsewhere_at, plain_reply_at, answer_at, stream_at, reply_at}
use Rattle.history_frame.proofs.ByKind.{Taken, by_kind, one_kind, two_kind, kind_takes, kind_again}
use Rattle.history_frame.proofs.Loops.{plain_entries_many}
use Rattle.history_frame.proofs.Many.{many_take, many_again}
use Rattle.history_frame.proofs.TextParts.{plain_entry_part, entry_text}

-- ---- what is told

-- a reply that is no stream
abbrev pub IsNoStream : Reply → Type 0
IsNoStream (Stream' from entries at last) = ⊥
IsNoStream reply = Unit {0}

-- the bytes of a reply, from what it tells
pub told_bytes : Told → List ℕ
told_bytes (plain reply) = reply_bytes reply
told_bytes (stream from entries last) = 21 ∷ (be8 from.0 ++ (be2 (length entries) ++ (flat_map entry_fields entries ++ told_bytes last)))

abbrev pub IsToldAnswer : Told → Type 0
IsToldAnswer (plain reply) = IsNodeAnswer reply × ReplyFits reply
IsToldAnswer (stream from entries last) = ⊥

abbrev pub IsTold : Told → Type 0
IsTold (plain reply) = IsReply reply × ReplyFits reply × IsNoStream reply
IsTold (stream from entries last) = (from.0 < 2 ^ 64) × (length entries ≤ 65535) × AllByRecursion IsEntry entries × IsToldAnswer last

entries_text : (entries : List Entry) → flat_map entry_bytes entries ≡ flat_map entry_fields entries
entries_text [] = refl
entries_text (e ∷ es) = ap (λ (l : List ℕ). l ++ flat_map entry_bytes es) (entry_text e) ∙ ap (λ (l : List ℕ). entry_fields e ++ l) (entries_text es)

entries_short : (entries : List Entry) → AllByRecursion IsEntry entries → AllByRecursion IsShort entries
entries_short [] each = tt
entries_short (e ∷ es) each = (each.0.size, entries_short es each.1)

-- the bytes of a stream, part by part
stream_text : (from : Position) (entries : List Entry) (ending : List ℕ)
    → 21 ∷ (be8 from.0 ++ be2 (length entries) ++ flat_map entry_bytes entries ++ ending) ≡ 21 ∷ (be8 from.0 ++ (be2 (length entries) ++ (flat_map entry_fields entries ++ ending)))
stream_text from entries ending =
    ap (λ (l : List ℕ). 21 ∷ l) (append_assoc (be8 from.0 ++ be2 (length entries)) (flat_map entry_bytes entries) ending ∙ append_assoc (be8 from.0) (be2 (length entries)) (flat_map entry_bytes entries ++ ending))
    ∙ ap (λ (l : List ℕ). 21 ∷ (be8 from.0 ++ (be2 (length entries) ++ (l ++ ending)))) (entries_text entries)

pub told_text : (reply : Reply) → told_bytes (told reply) ≡ reply_bytes reply
unfolding told_bytes
told_text (Stream' from entries at last) =
    ap (λ (l : List ℕ). 21 ∷ (be8 from.0 ++ (be2 (length entries) ++ (flat_map entry_fields entries ++ l)))) (told_text last) ∙ sym (stream_text from entries (reply_bytes last))
told_text reply = refl

told_answer : (reply : Reply) → IsToldAnswer (told reply) → IsNodeAnswer reply × ReplyFits reply
told_answer (Stream' from entries at last) is = absurd is
told_answer reply is = is

pub told_is : (reply : Reply) → IsTold (told reply) → IsReply reply × ReplyFits reply
told_is (Stream' from entries at last) is =
    let answer = told_answer last is.3 in
    ((is.1, entries_short entries is.2, answer.0), (is.0, is.2, answer.1))
told_is reply is = (is.0, is.1)

-- an answer of a node by its kind
answer_reply : (reply : Reply) → IsReply reply → IsNoStream reply → get_or (reply_bytes reply) 0 0 ≤ 20 → IsNodeAnswer reply
answer_reply (Found position entry) is other small = is
answer_reply (Stream' from entries at last) is other small = absurd other
answer_reply NoLeader is other small = absurd (omega arith)
answer_reply (NoLetter waiting) is other small = absurd (omega arith)
answer_reply NothingKept is other small = absurd (omega arith)
answer_reply Done is other small = absurd (omega arith)
answer_reply (Spent used) is other small = absurd (omega arith)
answer_reply reply is other small = tt

-- ---- what is read stands there

abbrev IsPlain : Told → Type 0
IsPlain (plain reply) = IsReply reply × ReplyFits reply × IsNoStream reply
IsPlain (stream from entries last) = ⊥

-- a reply of one number or none, which its kind and its fields spell
record Made (kind : ℕ) (fields : List ℕ) (t : Told) : Type 0 where
  is : IsPlain t
  spelling : told_bytes t ≡ kind ∷ fields

pick : (kind n : ℕ) (fields : List ℕ) (t : Told) (rest : Result Told Refusal) (x : Told) → cond (eqb kind n) (Ok t) rest ≡ Ok x → Made n fields t → (rest ≡ Ok x → Made kind fields x) → Made kind fields x
pick kind n fields t rest x e made others = by_test (eqb kind n) refl e
  where
    by_test : (b : Bool) → eqb kind n ≡ b → cond b (Ok t) rest ≡ Ok x → Made kind fields x
    by_test true is h = subst (λ (k : ℕ). Made k fields x) (sym (eqb-true kind n is)) (subst (Made n fields) (ok_is t x h) made)
    by_test false is h = others h

unmade : (kind : ℕ) (fields : List ℕ) (x : Told) → Err (BadKind kind) ≡ given x → Made kind fields x
unmade kind fields x e = absurd cc

wide_made : (kind n : ℕ) (x : Told) → n < 2 ^ 64 → wide_reply kind n ≡ Ok x → Made kind (be8 n) x
unfolding wide_reply told_bytes
wide_made kind n x fits e =
    pick kind 2 _ _ _ x e (record { is = (tt, fits, tt); spelling = refl })
    (λ e5. pick kind 5 _ _ _ x e5 (record { is = (tt, fits, tt); spelling = refl })
    (λ e10. pick kind 10 _ _ _ x e10 (record { is = (tt, fits, tt); spelling = refl })
    (λ e15. pick kind 15 _ _ _ x e15 (record { is = (tt, fits, tt); spelling = refl }) (unmade kind (be8 n) x))))

narrow_made : (kind n : ℕ) (x : Told) → n < 2 ^ 32 → narrow_reply kind n ≡ Ok x → Made kind (be4 n) x
unfolding narrow_reply told_bytes
narrow_made kind n x fits e =
    pick kind 1 _ _ _ x e (record { is = (tt, fits, tt); spelling = refl })
    (λ e4. pick kind 4 _ _ _ x e4 (record { is = (tt, fits, tt); spelling = refl })
    (λ e6. pick kind 6 _ _ _ x e6 (record { is = (tt, fits, tt); spelling = refl })
    (λ e8. pick kind 8 _ _ _ x e8 (record { is = (tt, fits, tt); spelling = refl })
    (λ e17. pick kind 17 _ _ _ x e17 (record { is = (tt, fits, tt); spelling = refl })
    (λ e20. pick kind 20 _ _ _ x e20 (record { is = (tt, fits, tt); spelling = refl })
    (λ e23. pick kind 23 _ _ _ x e23 (record { is = (tt, fits, tt); spelling = refl })
    (λ e26. pick kind 26 _ _ _ x e26 (record { is = (tt, fits, tt); spelling = refl }) (unmade kind (be4 n) x))))))))

bare_made : (kind : ℕ) (x : Told) → bare_reply kind ≡ Ok x → Made kind [] x
unfolding bare_reply told_bytes
bare_made kind x e =
    pick kind 0 _ _ _ x e (record { is = (tt, tt, tt); spelling = refl })
    (λ e7. pick kind 7 _ _ _ x e7 (record { is = (tt, tt, tt); spelling = refl })
    (λ e9. pick kind 9 _ _ _ x e9 (record { is = (tt, tt, tt); spelling = refl })
    (λ e11. pick kind 11 _ _ _ x e11 (record { is = (tt, tt, tt); spelling = refl })
    (λ e12. pick kind 12 _ _ _ x e12 (record { is = (tt, tt, tt); spelling = refl })
    (λ e13. pick kind 13 _ _ _ x e13 (record { is = (tt, tt, tt); spelling = refl })
    (λ e14. pick kind 14 _ _ _ x e14 (record { is = (tt, tt, tt); spelling = refl })
    (λ e18. pick kind 18 _ _ _ x e18 (record { is = (tt, tt, tt); spelling = refl })
    (λ e19. pick kind 19 _ _ _ x e19 (record { is = (tt, tt, tt); spelling = refl })
    (λ e22. pick kind 22 _ _ _ x e22 (record { is = (tt, tt, tt); spelling = refl })
    (λ e24. pick kind 24 _ _ _ x e24 (record { is = (tt, tt, tt); spelling = refl })
    (λ e25. pick kind 25 _ _ _ x e25 (record { is = (tt, tt, tt); spelling = refl }) (unmade kind [] x))))))))))))

-- a number, and the reply that is made of it
made_at : (read : List ℕ → ℕ → Result (ℕ × ℕ) Refusal) (make : ℕ → ℕ → Result Told Refusal) (spelled : ℕ → List ℕ) (limit : ℕ)
    → ((bytes : List ℕ) (at : ℕ) (x : ℕ × ℕ) → IsBytes bytes → read bytes at ≡ Ok x → StandsAt bytes at (spelled x.0) x.1 × (x.0 < limit))
    → ((kind n : ℕ) (x : Told) → n < limit → make kind n ≡ Ok x → Made kind (spelled n) x)
    → (kind : ℕ) (bytes : List ℕ) (at : ℕ) (x : Told × ℕ) → IsBytes bytes → (read bytes at >>= λ number. make kind number.0 >>= λ reply. Ok (reply, number.1)) ≡ Ok x → Taken IsPlain told_bytes kind bytes at x
made_at read make spelled limit takes makes kind bytes at x fits e =
    let a = bind_ok (read bytes at) (λ number. make kind number.0 >>= λ reply. Ok (reply, number.1)) x e in
    let b = bind_ok (make kind a.0.0) (λ reply. Ok (reply, a.0.1)) x a.2 in
    let t = takes bytes at a.0 fits a.1 in
    let m = makes kind a.0.0 b.0 t.1 b.1 in
    subst (Taken IsPlain told_bytes kind bytes at) (ok_is (b.0, a.0.1) x b.2) (record { is = m.is; fields = spelled a.0.0; spelling = m.spelling; stands = t.0 })

bare_at : (kind : ℕ) (bytes : List ℕ) (at : ℕ) (x : Told × ℕ) → at ≤ length bytes → bare_reply_at kind at ≡ Ok x → Taken IsPlain told_bytes kind bytes at x
unfolding bare_reply_at
bare_at kind bytes at x within e =
    let a = bind_ok (bare_reply kind) (λ reply. Ok (reply, at)) x e in
    let m = bare_made kind a.0 a.1 in
    subst (Taken IsPlain told_bytes kind bytes at) (ok_is (a.0, at) x a.2)
    (record { is = m.is; fields = []; spelling = m.spelling; stands = record { parts = refl; end = omega arith; within = within } })

found_takes : (bytes : List ℕ) (at : ℕ) (x : Told × ℕ) → IsBytes bytes → at ≤ length bytes → found_at bytes at ≡ Ok x → Taken IsPlain told_bytes 3 bytes at x
unfolding found_at told_bytes
found_takes bytes at x fits within e =
    two_kind IsPlain told_bytes 3 u64_part plain_entry_part (λ position entry. plain (Found (record { 0 = position }) entry)) (λ position entry wide is. (is.size, (wide, is), tt))
    (λ position entry. ap (λ (l : List ℕ). 3 ∷ (be8 position ++ l)) (entry_text entry)) bytes at x fits within e

elsewhere_takes : (bytes : List ℕ) (at : ℕ) (x : Told × ℕ) → IsBytes bytes → at ≤ length bytes → elsewhere_at bytes at ≡ Ok x → Taken IsPlain told_bytes 16 bytes at x
unfolding elsewhere_at told_bytes
elsewhere_takes bytes at x fits within e =
    one_kind IsPlain told_bytes 16 u16_part (λ shard. plain (Elsewhere (record { 0 = shard }))) (λ shard wide. (tt, wide, tt)) (λ shard. refl) bytes at x fits within e

plain_takes : (kind : ℕ) (bytes : List ℕ) (at : ℕ) (x : Told × ℕ) → IsBytes bytes → at ≤ length bytes → plain_reply_at kind bytes at ≡ Ok x → Taken IsPlain told_bytes kind bytes at x
unfolding plain_reply_at wide_reply_at narrow_reply_at
plain_takes kind bytes at x fits within e =
    by_kind IsPlain told_bytes kind 3 (found_at bytes at) _ bytes at x e (found_takes bytes at x fits within)
    (λ e16. by_kind IsPlain told_bytes kind 16 (elsewhere_at bytes at) _ bytes at x e16 (elsewhere_takes bytes at x fits within)
    (either (is_wide kind) (wide_reply_at kind bytes at) _
    (made_at u64_at wide_reply be8 (2 ^ 64) u64_takes wide_made kind bytes at x fits)
    (either (is_narrow kind) (narrow_reply_at kind bytes at) (bare_reply_at kind at)
    (made_at u32_at narrow_reply be4 (2 ^ 32) u32_takes narrow_made kind bytes at x fits)
    (bare_at kind bytes at x within))))
  where
    either : (b : Bool) (first rest : Result (Told × ℕ) Refusal) → (first ≡ Ok x → Taken IsPlain told_bytes kind bytes at x) → (rest ≡ Ok x → Taken IsPlain told_bytes kind bytes at x)
        → cond b first rest ≡ Ok x → Taken IsPlain told_bytes kind bytes at x
    either true first rest this that h = this h
    either false first rest this that h = that h

-- what is plain is told
plain_is : (t : Told) → IsPlain t → IsTold t
plain_is (plain reply) is = is
plain_is (stream from entries last) is = absurd is

-- an answer of a node, by its kind
answer_is : (kind : ℕ) (fields : List ℕ) (t : Told) → IsPlain t → told_bytes t ≡ kind ∷ fields → kind ≤ 20 → IsToldAnswer t
unfolding told_bytes
answer_is kind fields (plain reply) is spelling small =
    let first : get_or (reply_bytes reply) 0 0 ≡ kind = ap (λ (l : List ℕ). get_or l 0 0) spelling in
    (answer_reply reply is.0 is.2 (omega (arith, first, small)), is.1)
answer_is kind fields (stream from entries last) is spelling small = absurd is

answer_takes : (bytes : List ℕ) (at : ℕ) (x : Told × ℕ) → IsBytes bytes → answer_at bytes at ≡ Ok x → IsToldAnswer x.0 × StandsAt bytes at (told_bytes x.0) x.1
unfolding answer_at
answer_takes bytes at x fits e =
    let a = bind_ok (u8_at bytes at) (λ kind. cond (ltb 20 kind.0) (Err (BadKind kind.0)) (plain_reply_at kind.0 bytes kind.1)) x e in
    let p = passes (ltb 20 a.0.0) (BadKind a.0.0) (plain_reply_at a.0.0 bytes a.0.1) x a.2 in
    let first = u8_takes bytes at a.0 fits a.1 in
    let t = plain_takes a.0.0 bytes a.0.1 x fits first.0.within p.1 in (
      answer_is a.0.0 t.fields x.0 t.is t.spelling (ltb-false 20 a.0.0 p.0),
      subst (λ (l : List ℕ). StandsAt bytes at l x.1) (sym t.spelling) (StandsAt-then bytes at a.0.1 x.1 (a.0.0 ∷ []) t.fields first.0 t.stands),
    )

stream_takes : (bytes : List ℕ) (at : ℕ) (x : Told × ℕ) → IsBytes bytes → at ≤ length bytes → stream_at bytes at ≡ Ok x → Taken IsTold told_bytes 21 bytes at x
unfolding stream_at told_bytes
stream_takes bytes at x fits within e =
    let a = bind_ok (u64_at bytes at) (λ start. u16_at bytes start.1 >>= λ count. plain_entries_at count.0 bytes count.1 >>= λ entries. answer_at bytes entries.1 >>= λ last. Ok (stream (record { 0 = start.0 }) entries.0 last.0, last.1)) x e in
    let b = bind_ok (u16_at bytes a.0.1) (λ count. plain_entries_at count.0 bytes count.1 >>= λ entries. answer_at bytes entries.1 >>= λ last. Ok (stream (record { 0 = a.0.0 }) entries.0 last.0, last.1)) x a.2 in
    let c = bind_ok (plain_entries_at b.0.0 bytes b.0.1) (λ entries. answer_at bytes entries.1 >>= λ last. Ok (stream (record { 0 = a.0.0 }) entries.0 last.0, last.1)) x b.2 in
    let d = bind_ok (answer_at bytes c.0.1) (λ last. Ok (stream (record { 0 = a.0.0 }) c.0.0 last.0, last.1)) x c.2 in
    let start = u64_takes bytes at a.0 fits a.1 in
    let count = u16_takes bytes a.0.1 b.0 fits b.1 in
    let entries = many_take plain_entries_many plain_entry_part b.0.0 bytes b.0.1 c.0 fits count.0.within c.1 in
    let last = answer_takes bytes c.0.1 d.0 fits d.1 in
    let size = entries.size in
    let made : Told × ℕ = (stream (record { 0 = a.0.0 }) c.0.0 d.0.0, d.0.1) in
    let behind = StandsAt-then bytes b.0.1 c.0.1 d.0.1 (flat_map entry_fields c.0.0) (told_bytes d.0.0) entries.stands last.1 in
    let numbered = subst (λ (n : ℕ). StandsAt bytes a.0.1 (be2 n) b.0.1) (sym size) count.0 in
    let all = StandsAt-then bytes at a.0.1 d.0.1 (be8 a.0.0) _ start.0 (StandsAt-then bytes a.0.1 b.0.1 d.0.1 (be2 (length c.0.0)) _ numbered behind) in
    let taken : Taken IsTold told_bytes 21 bytes at made = record {
      is = (start.1, omega (arith, size, count.1), entries.each, last.0);
      fields = be8 a.0.0 ++ (be2 (length c.0.0) ++ (flat_map entry_fields c.0.0 ++ told_bytes d.0.0));
      spelling = refl;
      stands = all;
    } in
    subst (Taken IsTold told_bytes 21 bytes at) (ok_is made x d.2) taken

pub reply_takes : (bytes : List ℕ) (at : ℕ) (x : Told × ℕ) → IsBytes bytes → reply_at bytes at ≡ Ok x → IsTold x.0 × StandsAt bytes at (told_bytes x.0) x.1
unfolding reply_at
reply_takes bytes at x fits e =
    kind_takes IsTold told_bytes (λ kind bytes place. cond (eqb kind 21) (stream_at bytes place) (plain_reply_at kind bytes place)) bytes at x fits
    (λ kind place within h. by_kind IsTold told_bytes kind 21 (stream_at bytes place) (plain_reply_at kind bytes place) bytes place x h (stream_takes bytes place x fits within)
    (λ p. let t = plain_takes kind bytes place x fits within p in record { is = plain_is x.0 t.is; fields = t.fields; spelling = t.spelling; stands = t.stands })) e

-- ---- what stands there is read

-- where the kind and the fields of a reply that is no stream are, it is read
record Laid (reply : Reply) : Type 0 where
  kind : ℕ
  fields : List ℕ
  bytes : reply_bytes reply ≡ kind ∷ fields
  small : kind < 256
  other : eqb kind 21 ≡ false
  answer : IsNodeAnswer reply → kind ≤ 20
  read : (bytes : List ℕ) (at next : ℕ) → StandsAt bytes at fields next → plain_reply_at kind bytes at ≡ Ok (plain reply, next)

wide_laid : (kind n : ℕ) (reply : Reply) (bytes : List ℕ) (at next : ℕ) → n < 2 ^ 64 → wide_reply kind n ≡ Ok (plain reply) → StandsAt bytes at (be8 n) next → wide_reply_at kind bytes at ≡ Ok (plain reply, next)
unfolding wide_reply_at
wide_laid kind n reply bytes at next fits made stands = rw (u64_again bytes at n next fits stands, made) refl

narrow_laid : (kind n : ℕ) (reply : Reply) (bytes : List ℕ) (at next : ℕ) → n < 2 ^ 32 → narrow_reply kind n ≡ Ok (plain reply) → StandsAt bytes at (be4 n) next → narrow_reply_at kind bytes at ≡ Ok (plain reply, next)
unfolding narrow_reply_at
narrow_laid kind n reply bytes at next fits made stands = rw (u32_again bytes at n next fits stands, made) refl

bare_laid : (kind : ℕ) (reply : Reply) (bytes : List ℕ) (at next : ℕ) → bare_reply kind ≡ Ok (plain reply) → StandsAt bytes at [] next → bare_reply_at kind at ≡ Ok (plain reply, next)
unfolding bare_reply_at
bare_laid kind reply bytes at next made stands =
    let end : at ≡ next = omega (arith, stands.end) in
    rw made (ap (λ (k : ℕ). given (plain reply, k)) end)

found_laid : (position : Position) (entry : Entry) (bytes : List ℕ) (at next : ℕ) → position.0 < 2 ^ 64 → IsEntry entry → StandsAt bytes at (be8 position.0 ++ entry_fields entry) next → found_at bytes at ≡ Ok (plain (Found position entry), next)
unfolding found_at
found_laid position entry bytes at next wide is stands =
    two_again u64_part plain_entry_part (λ position entry. plain (Found (record { 0 = position }) entry)) bytes at next position.0 entry wide is stands

elsewhere_laid : (shard n : ℕ) (bytes : List ℕ) (at next : ℕ) → n ≡ shard → n < 2 ^ 16 → StandsAt bytes at (be2 n) next → elsewhere_at bytes at ≡ Ok (plain (Elsewhere (record { 0 = n })), next)
unfolding elsewhere_at
elsewhere_laid shard n bytes at next same wide stands = rw (u16_again bytes at n next wide stands) refl

laid : (reply : Reply) → IsNoStream reply → ReplyFits reply → Laid reply
unfolding plain_reply_at wide_reply narrow_reply bare_reply
laid Nothing other fits = record { kind = 0; fields = []; bytes = refl; small = omega arith; other = refl; answer = λ a. omega arith; read = λ bytes at next stands. bare_laid 0 Nothing bytes at next refl stands }
laid (Stored offset) other fits = record { kind = 1; fields = be4 offset; bytes = refl; small = omega arith; other = refl; answer = λ a. omega arith; read = λ bytes at next stands. narrow_laid 1 offset (Stored offset) bytes at next fits refl stands }
laid (At position) other fits = record { kind = 2; fields = be8 position.0; bytes = refl; small = omega arith; other = refl; answer = λ a. omega arith; read = λ bytes at next stands. wide_laid 2 position.0 (At position) bytes at next fits refl stands }
laid (Found position entry) other fits = record {
  kind = 3;
  fields = be8 position.0 ++ entry_fields entry;
  bytes = ap (λ (l : List ℕ). 3 ∷ (be8 position.0 ++ l)) (entry_text entry);
  small = omega arith;
  other = refl;
  answer = λ a. omega arith;
  read = λ bytes at next stands. found_laid position entry bytes at next fits.0 fits.1 stands;
}
laid (PendingAsk covered) other fits = record { kind = 4; fields = be4 covered; bytes = refl; small = omega arith; other = refl; answer = λ a. omega arith; read = λ bytes at next stands. narrow_laid 4 covered (PendingAsk covered) bytes at next fits refl stands }
laid (PendingRead end) other fits = record { kind = 5; fields = be8 end.0; bytes = refl; small = omega arith; other = refl; answer = λ a. omega arith; read = λ bytes at next stands. wide_laid 5 end.0 (PendingRead end) bytes at next fits refl stands }
laid (PendingWish known) other fits = record { kind = 6; fields = be4 known; bytes = refl; small = omega arith; other = refl; answer = λ a. omega arith; read = λ bytes at next stands. narrow_laid 6 known (PendingWish known) bytes at next fits refl stands }
laid Finalised other fits = record { kind = 7; fields = []; bytes = refl; small = omega arith; other = refl; answer = λ a. omega arith; read = λ bytes at next stands. bare_laid 7 Finalised bytes at next refl stands }
laid (FinalisedAt frozen) other fits = record { kind = 8; fields = be4 frozen; bytes = refl; small = omega arith; other = refl; answer = λ a. omega arith; read = λ bytes at next stands. narrow_laid 8 frozen (FinalisedAt frozen) bytes at next fits refl stands }
laid NotAdded other fits = record { kind = 9; fields = []; bytes = refl; small = omega arith; other = refl; answer = λ a. omega arith; read = λ bytes at next stands. bare_laid 9 NotAdded bytes at next refl stands }
laid (Stale last) other fits = record { kind = 10; fields = be8 last.0; bytes = refl; small = omega arith; other = refl; answer = λ a. omega arith; read = λ bytes at next stands. wide_laid 10 last.0 (Stale last) bytes at next fits refl stands }
laid Full other fits = record { kind = 11; fields = []; bytes = refl; small = omega arith; other = refl; answer = λ a. omega arith; read = λ bytes at next stands. bare_laid 11 Full bytes at next refl stands }
laid Halted other fits = record { kind = 12; fields = []; bytes = refl; small = omega arith; other = refl; answer = λ a. omega arith; read = λ bytes at next stands. bare_laid 12 Halted bytes at next refl stands }
laid Down other fits = record { kind = 13; fields = []; bytes = refl; small = omega arith; other = refl; answer = λ a. omega arith; read = λ bytes at next stands. bare_laid 13 Down bytes at next refl stands }
laid Missing other fits = record { kind = 14; fields = []; bytes = refl; small = omega arith; other = refl; answer = λ a. omega arith; read = λ bytes at next stands. bare_laid 14 Missing bytes at next refl stands }
laid (Trimmed mark) other fits = record { kind = 15; fields = be8 mark.0; bytes = refl; small = omega arith; other = refl; answer = λ a. omega arith; read = λ bytes at next stands. wide_laid 15 mark.0 (Trimmed mark) bytes at next fits refl stands }
laid (Elsewhere shard) other fits = record { kind = 16; fields = be2 shard.0; bytes = refl; small = omega arith; other = refl; answer = λ a. omega arith; read = λ bytes at next stands. elsewhere_laid shard.0 shard.0 bytes at next refl fits stands }
laid (TakenFrom from) other fits = record { kind = 17; fields = be4 from; bytes = refl; small = omega arith; other = refl; answer = λ a. omega arith; read = λ bytes at next stands. narrow_laid 17 from (TakenFrom from) bytes at next fits refl stands }
laid NoSuchShard other fits = record { kind = 18; fields = []; bytes = refl; small = omega arith; other = refl; answer = λ a. omega arith; read = λ bytes at next stands. bare_laid 18 NoSuchShard bytes at next refl stands }
laid NotLeading other fits = record { kind = 19; fields = []; bytes = refl; small = omega arith; other = refl; answer = λ a. omega arith; read = λ bytes at next stands. bare_laid 19 NotLeading bytes at next refl stands }
laid (Settled slot) other fits = record { kind = 20; fields = be4 slot.0; bytes = refl; small = omega arith; other = refl; answer = λ a. omega arith; read = λ bytes at next stands. narrow_laid 20 slot.0 (Settled slot) bytes at next fits refl stands }
laid (Stream' from entries at last) other fits = absurd other
laid NoLeader other fits = record { kind = 22; fields = []; bytes = refl; small = omega arith; other = refl; answer = λ a. absurd a; read = λ bytes at next stands. bare_laid 22 NoLeader bytes at next refl stands }
laid (NoLetter waiting) other fits = record { kind = 23; fields = be4 waiting; bytes = refl; small = omega arith; other = refl; answer = λ a. absurd a; read = λ bytes at next stands. narrow_laid 23 waiting (NoLetter waiting) bytes at next fits refl stands }
laid NothingKept other fits = record { kind = 24; fields = []; bytes = refl; small = omega arith; other = refl; answer = λ a. absurd a; read = λ bytes at next stands. bare_laid 24 NothingKept bytes at next refl stands }
laid Done other fits = record { kind = 25; fields = []; bytes = refl; small = omega arith; other = refl; answer = λ a. absurd a; read = λ bytes at next stands. bare_laid 25 Done bytes at next refl stands }
laid (Spent used) other fits = record { kind = 26; fields = be4 used; bytes = refl; small = omega arith; other = refl; answer = λ a. absurd a; read = λ bytes at next stands. narrow_laid 26 used (Spent used) bytes at next fits refl stands }

-- a node's answer is no stream
answer_other : (reply : Reply) → IsNodeAnswer reply → IsNoStream reply
answer_other (Stream' from entries at last) is = is
answer_other reply is = tt

told_plain : (reply : Reply) → IsNoStream reply → told reply ≡ plain reply
told_plain (Stream' from entries at last) other = absurd other
told_plain reply other = refl

answer_again : (bytes : List ℕ) (at next : ℕ) (reply : Reply) → IsNodeAnswer reply → ReplyFits reply → StandsAt bytes at (reply_bytes reply) next → answer_at bytes at ≡ Ok (told reply, next)
unfolding answer_at
answer_again bytes at next reply is fits stands =
    let other = answer_other reply is in
    let l = laid reply other fits in
    let small = le-ltb 20 l.kind (l.answer is) in
    kind_again (λ kind bytes place. cond (ltb 20 kind) (Err (BadKind kind)) (plain_reply_at kind bytes place)) l.kind l.fields bytes at next (told reply) l.small
    (subst (λ (text : List ℕ). StandsAt bytes at text next) l.bytes stands)
    (λ behind. rw (small, l.read bytes (at + 1) next behind) (ap (λ (t : Told). given (t, next)) (sym (told_plain reply other))))

stream_again : (bytes : List ℕ) (at next : ℕ) (from : Position) (entries : List Entry) (last : Reply) → from.0 < 2 ^ 64 → length entries ≤ 65535 → AllByRecursion IsEntry entries → IsNodeAnswer last → ReplyFits last
    → StandsAt bytes at (be8 from.0 ++ (be2 (length entries) ++ (flat_map entry_fields entries ++ reply_bytes last))) next → stream_at bytes at ≡ Ok (stream from entries (told last), next)
unfolding stream_at
stream_again bytes at next from entries last wide few each answer fits stands =
    let eight = be8 from.0 in
    let two = be2 (length entries) in
    let text = flat_map entry_fields entries in
    let ending = reply_bytes last in
    let s1 = StandsAt-back bytes at next eight (two ++ (text ++ ending)) stands in
    let s2 = StandsAt-back bytes (at + length eight) next two (text ++ ending) s1 in
    let s3 = StandsAt-back bytes (at + length eight + length two) next text ending s2 in
    rw (
      u64_again bytes at from.0 (at + length eight) wide (StandsAt-front bytes at next eight (two ++ (text ++ ending)) stands),
      u16_again bytes (at + length eight) (length entries) (at + length eight + length two) (omega (arith, few)) (StandsAt-front bytes (at + length eight) next two (text ++ ending) s1),
      many_again plain_entries_many plain_entry_part entries bytes (at + length eight + length two) (at + length eight + length two + length text) each (StandsAt-front bytes (at + length eight + length two) next text ending s2),
      answer_again bytes (at + length eight + length two + length text) next last answer fits s3,
    ) refl

plain_again : (bytes : List ℕ) (at next : ℕ) (reply : Reply) → IsNoStream reply → ReplyFits reply → StandsAt bytes at (reply_bytes reply) next → reply_at bytes at ≡ Ok (told reply, next)
unfolding reply_at
plain_again bytes at next reply other fits stands =
    let l = laid reply other fits in
    let not_stream = l.other in
    kind_again (λ kind bytes place. cond (eqb kind 21) (stream_at bytes place) (plain_reply_at kind bytes place)) l.kind l.fields bytes at next (told reply) l.small
    (subst (λ (text : List ℕ). StandsAt bytes at text next) l.bytes stands)
    (λ behind. rw (not_stream, l.read bytes (at + 1) next behind) (ap (λ (t : Told). given (t, next)) (sym (told_plain reply other))))

streamed_again : (bytes : List ℕ) (at next : ℕ) (from : Position) (entries : List Entry) (last : Reply) → from.0 < 2 ^ 64 → length entries ≤ 65535 → AllByRecursion IsEntry entries → IsNodeAnswer last → ReplyFits last
    → StandsAt bytes at (21 ∷ (be8 from.0 ++ (be2 (length entries) ++ (flat_map entry_fields entries ++ reply_bytes last)))) next → reply_at bytes at ≡ Ok (stream from entries (told last), next)
unfolding reply_at
streamed_again bytes at next from entries last wide few each answer fits stands =
    kind_again (λ kind bytes place. cond (eqb kind 21) (stream_at bytes place) (plain_reply_at kind bytes place)) 21 _ bytes at next _ (omega arith) stands
    (λ behind. stream_again bytes (at + 1) next from entries last wide few each answer fits behind)

pub reply_again : (bytes : List ℕ) (at next : ℕ) (reply : Reply) → IsReply reply → ReplyFits reply → StandsAt bytes at (reply_bytes reply) next → reply_at bytes at ≡ Ok (told reply, next)
reply_again bytes at next (Stream' from entries held last) is fits stands =
    streamed_again bytes at next from entries last fits.0 is.0 fits.1 is.2 fits.2
    (subst (λ (l : List ℕ). StandsAt bytes at l next) (stream_text from entries (reply_bytes last)) stands)
reply_again bytes at next reply is fits stands = plain_again bytes at next reply tt fits stands
