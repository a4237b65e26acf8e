-- No reply's bytes begin another's.
use Rattle.std.proofs.Common.{◌≡◌, ℕ, ◌+◌, ◌<◌, ◌≤◌, ◌^◌, Bool, ◌||◌, eqb, List, [], ◌∷◌, ◌++◌, length, take, drop, get_or, ◌⊎◌, ◌≢◌, inl, inr, if◌then◌else◌, refl, sym, ap, ◌∙◌, append_assoc, arith}
use Rattle.std.proofs.lemmas.List.{take_at, drop_at}
use Rattle.std.specs.List.{flat_map, AllByRecursion}
use Rattle.log_base.specs.Wide.{be2, be4, be8, number2, number4}
use Rattle.log_base.proofs.Wide.{length-be2, length-be8, number2-be2, number4-be4}
use Rattle.log_base.specs.declared.numbers.Position.{Position}
use Rattle.record_frame.specs.declared.entries.Entry.{Entry}
use Rattle.reply_frame.specs.declared.replies.Reply.{Reply, Nothing, Stored, At, Found, PendingAsk, PendingRead, PendingWish, Finalised, FinalisedAt, NotAdded, Stale, Full, Halted, Down, Missing, Trimmed, Elsewhere, Taken, NoSuchShard, NotLeading, Settled, Stream', NoLeader, NoLetter, NothingKept, Done, Spent}
use Rattle.reply_frame.specs.Replies.{entry_bytes, reply_bytes, IsShort, IsNodeAnswer, IsReply}

-- ---- lists of the same length

record Same (a b x y : List ℕ) : Type 0 where
  front : a ≡ b
  rest : x ≡ y

-- fronts of the same length of the same list are the same
same_front : (a b x y : List ℕ) → length a ≡ length b → a ++ x ≡ b ++ y → Same a b x y
same_front a b x y size e = record {
  front = sym (take_at a x (length a) refl) ∙ ap (take (length a)) e ∙ take_at b y (length a) (sym size);
  rest = sym (drop_at a x (length a) refl) ∙ ap (drop (length a)) e ∙ drop_at b y (length a) (sym size);
}

-- ---- entries

-- the length of an entry's bytes stands in them
entry_size : (e : Entry) (x : List ℕ) → IsShort e → length (entry_bytes e) ≡ 14 + number4 (entry_bytes e ++ x) 10
unfolding be2 be4 be8
entry_size e x short =
    let number = number4-be4 (length e.bytes) 10 (be2 e.client.0 ++ be8 e.number.0) (e.bytes ++ x) refl (omega arith) in
    omega (arith, number)

same_entry : (e f : Entry) (x y : List ℕ) → IsShort e → IsShort f → entry_bytes e ++ x ≡ entry_bytes f ++ y → Same (entry_bytes e) (entry_bytes f) x y
same_entry e f x y short also same =
    same_front (entry_bytes e) (entry_bytes f) x y (entry_size e x short ∙ ap (λ (l : List ℕ). 14 + number4 l 10) same ∙ sym (entry_size f y also)) same

same_entries : (es fs : List Entry) (x y : List ℕ) → length es ≡ length fs → AllByRecursion IsShort es → AllByRecursion IsShort fs
    → flat_map entry_bytes es ++ x ≡ flat_map entry_bytes fs ++ y → Same (flat_map entry_bytes es) (flat_map entry_bytes fs) x y
same_entries [] [] x y size short also same = record { front = refl; rest = same }
same_entries [] (f ∷ fs) x y size short also same = absurd (omega arith)
same_entries (e ∷ es) [] x y size short also same = absurd (omega arith)
same_entries (e ∷ es) (f ∷ fs) x y size short also same =
    let first = same_entry e f (flat_map entry_bytes es ++ x) (flat_map entry_bytes fs ++ y) short.0 also.0
    (sym (append_assoc (entry_bytes e) (flat_map entry_bytes es) x) ∙ same ∙ append_assoc (entry_bytes f) (flat_map entry_bytes fs) y) in
    let rest = same_entries es fs x y (omega arith) short.1 also.1 first.rest in
    record {
      front = ap (λ (l : List ℕ). l ++ flat_map entry_bytes es) first.front ∙ ap (λ (l : List ℕ). entry_bytes f ++ l) rest.front;
      rest = rest.rest;
    }

-- ---- replies

-- the kinds with one number of four bytes, and those with one of eight
has_four : ℕ → Bool
has_four kind = eqb kind 1 || eqb kind 4 || eqb kind 6 || eqb kind 8 || eqb kind 17 || eqb kind 20 || eqb kind 23 || eqb kind 26

has_eight : ℕ → Bool
has_eight kind = eqb kind 2 || eqb kind 5 || eqb kind 10 || eqb kind 15

-- how many bytes spell a reply that is no stream, from its kind, and from the length that stands in an entry
size_of : List ℕ → ℕ
size_of bytes =
    let kind = get_or bytes 0 0 in
    if eqb kind 3 then 23 + number4 bytes 19
    else if eqb kind 16 then 3
    else if has_four kind then 5
    else if has_eight kind then 9
    else 1

-- a reply that is no stream tells its size by its first bytes
record IsPlain (reply : Reply) : Type 0 where
  size : (x : List ℕ) → length (reply_bytes reply) ≡ size_of (reply_bytes reply ++ x)
  kind : (x : List ℕ) → get_or (reply_bytes reply ++ x) 0 0 ≢ 21

record IsStream (reply : Reply) : Type 0 where
  from : ℕ
  entries : List Entry
  last : Reply
  bytes : reply_bytes reply ≡ (21 ∷ be8 from) ++ (be2 (length entries) ++ (flat_map entry_bytes entries ++ reply_bytes last))
  few : length entries ≤ 65535
  short : AllByRecursion IsShort entries
  answer : IsNodeAnswer last

found_size : (position : Position) (e : Entry) (x : List ℕ) → IsShort e → length (reply_bytes (Found position e)) ≡ size_of (reply_bytes (Found position e) ++ x)
unfolding be2 be4 be8 size_of
found_size position e x short =
    let number = number4-be4 (length e.bytes) 19 (3 ∷ be8 position.0 ++ be2 e.client.0 ++ be8 e.number.0) (e.bytes ++ x) refl (omega arith) in
    omega (arith, number)

each_reply : (r : Reply) → IsReply r → IsPlain r ⊎ IsStream r
unfolding be2 be4 be8 size_of has_four has_eight
each_reply Nothing is = inl (record { size = λ x. refl; kind = λ x e. absurd (omega arith) })
each_reply (Stored offset) is = inl (record { size = λ x. refl; kind = λ x e. absurd (omega arith) })
each_reply (At position) is = inl (record { size = λ x. refl; kind = λ x e. absurd (omega arith) })
each_reply (Found position entry) is = inl (record { size = λ x. found_size position entry x is; kind = λ x e. absurd (omega arith) })
each_reply (PendingAsk covered) is = inl (record { size = λ x. refl; kind = λ x e. absurd (omega arith) })
each_reply (PendingRead end) is = inl (record { size = λ x. refl; kind = λ x e. absurd (omega arith) })
each_reply (PendingWish known) is = inl (record { size = λ x. refl; kind = λ x e. absurd (omega arith) })
each_reply Finalised is = inl (record { size = λ x. refl; kind = λ x e. absurd (omega arith) })
each_reply (FinalisedAt frozen) is = inl (record { size = λ x. refl; kind = λ x e. absurd (omega arith) })
each_reply NotAdded is = inl (record { size = λ x. refl; kind = λ x e. absurd (omega arith) })
each_reply (Stale last) is = inl (record { size = λ x. refl; kind = λ x e. absurd (omega arith) })
each_reply Full is = inl (record { size = λ x. refl; kind = λ x e. absurd (omega arith) })
each_reply Halted is = inl (record { size = λ x. refl; kind = λ x e. absurd (omega arith) })
each_reply Down is = inl (record { size = λ x. refl; kind = λ x e. absurd (omega arith) })
each_reply Missing is = inl (record { size = λ x. refl; kind = λ x e. absurd (omega arith) })
each_reply (Trimmed mark) is = inl (record { size = λ x. refl; kind = λ x e. absurd (omega arith) })
each_reply (Elsewhere shard) is = inl (record { size = λ x. refl; kind = λ x e. absurd (omega arith) })
each_reply (Taken from) is = inl (record { size = λ x. refl; kind = λ x e. absurd (omega arith) })
each_reply NoSuchShard is = inl (record { size = λ x. refl; kind = λ x e. absurd (omega arith) })
each_reply NotLeading is = inl (record { size = λ x. refl; kind = λ x e. absurd (omega arith) })
each_reply (Settled slot) is = inl (record { size = λ x. refl; kind = λ x e. absurd (omega arith) })
each_reply (Stream' from entries at last) is = inr (record { from = from.0; entries = entries; last = last; bytes = refl; few = is.0; short = is.1; answer = is.2 })
each_reply NoLeader is = inl (record { size = λ x. refl; kind = λ x e. absurd (omega arith) })
each_reply (NoLetter waiting) is = inl (record { size = λ x. refl; kind = λ x e. absurd (omega arith) })
each_reply NothingKept is = inl (record { size = λ x. refl; kind = λ x e. absurd (omega arith) })
each_reply Done is = inl (record { size = λ x. refl; kind = λ x e. absurd (omega arith) })
each_reply (Spent used) is = inl (record { size = λ x. refl; kind = λ x e. absurd (omega arith) })

node_reply : (r : Reply) → IsNodeAnswer r → IsPlain r
unfolding be2 be4 be8 size_of has_four has_eight
node_reply Nothing is = record { size = λ x. refl; kind = λ x e. absurd (omega arith) }
node_reply (Stored offset) is = record { size = λ x. refl; kind = λ x e. absurd (omega arith) }
node_reply (At position) is = record { size = λ x. refl; kind = λ x e. absurd (omega arith) }
node_reply (Found position entry) is = record { size = λ x. found_size position entry x is; kind = λ x e. absurd (omega arith) }
node_reply (PendingAsk covered) is = record { size = λ x. refl; kind = λ x e. absurd (omega arith) }
node_reply (PendingRead end) is = record { size = λ x. refl; kind = λ x e. absurd (omega arith) }
node_reply (PendingWish known) is = record { size = λ x. refl; kind = λ x e. absurd (omega arith) }
node_reply Finalised is = record { size = λ x. refl; kind = λ x e. absurd (omega arith) }
node_reply (FinalisedAt frozen) is = record { size = λ x. refl; kind = λ x e. absurd (omega arith) }
node_reply NotAdded is = record { size = λ x. refl; kind = λ x e. absurd (omega arith) }
node_reply (Stale last) is = record { size = λ x. refl; kind = λ x e. absurd (omega arith) }
node_reply Full is = record { size = λ x. refl; kind = λ x e. absurd (omega arith) }
node_reply Halted is = record { size = λ x. refl; kind = λ x e. absurd (omega arith) }
node_reply Down is = record { size = λ x. refl; kind = λ x e. absurd (omega arith) }
node_reply Missing is = record { size = λ x. refl; kind = λ x e. absurd (omega arith) }
node_reply (Trimmed mark) is = record { size = λ x. refl; kind = λ x e. absurd (omega arith) }
node_reply (Elsewhere shard) is = record { size = λ x. refl; kind = λ x e. absurd (omega arith) }
node_reply (Taken from) is = record { size = λ x. refl; kind = λ x e. absurd (omega arith) }
node_reply NoSuchShard is = record { size = λ x. refl; kind = λ x e. absurd (omega arith) }
node_reply NotLeading is = record { size = λ x. refl; kind = λ x e. absurd (omega arith) }
node_reply (Settled slot) is = record { size = λ x. refl; kind = λ x e. absurd (omega arith) }
node_reply (Stream' from entries at last) is = absurd is
node_reply NoLeader is = absurd is
node_reply (NoLetter waiting) is = absurd is
node_reply NothingKept is = absurd is
node_reply Done is = absurd is
node_reply (Spent used) is = absurd is

same_plain : (r s : Reply) (x y : List ℕ) → IsPlain r → IsPlain s → reply_bytes r ++ x ≡ reply_bytes s ++ y → Same (reply_bytes r) (reply_bytes s) x y
same_plain r s x y plain also e = same_front (reply_bytes r) (reply_bytes s) x y (plain.size x ∙ ap size_of e ∙ sym (also.size y)) e

regroup : (a b c d x : List ℕ) → (a ++ (b ++ (c ++ d))) ++ x ≡ a ++ (b ++ (c ++ (d ++ x)))
regroup a b c d x = simp append_assoc

-- two streams: the same position and count, then the same entries, then the same answer
same_stream : (r s : Reply) (x y : List ℕ) → IsStream r → IsStream s → reply_bytes r ++ x ≡ reply_bytes s ++ y → Same (reply_bytes r) (reply_bytes s) x y
same_stream r s x y stream also e =
    let n = length stream.entries in
    let m = length also.entries in
    let few : n < 2 ^ 16 = let f = stream.few in omega arith in
    let fewer : m < 2 ^ 16 = let f = also.few in omega arith in
    let es = flat_map entry_bytes stream.entries in
    let fs = flat_map entry_bytes also.entries in
    let last = reply_bytes stream.last in
    let end = reply_bytes also.last in
    let whole = sym (ap (λ (l : List ℕ). l ++ x) stream.bytes ∙ regroup (21 ∷ be8 stream.from) (be2 n) es last x)
    ∙ e ∙ ap (λ (l : List ℕ). l ++ y) also.bytes ∙ regroup (21 ∷ be8 also.from) (be2 m) fs end y in
    let from = same_front (21 ∷ be8 stream.from) (21 ∷ be8 also.from) _ _ (omega (arith, length-be8 stream.from, length-be8 also.from)) whole in
    let count = same_front (be2 n) (be2 m) _ _ (length-be2 n ∙ sym (length-be2 m)) from.rest in
    let size : n ≡ m = sym (number2-be2 n 0 [] [] refl few) ∙ ap (λ (l : List ℕ). number2 (l ++ []) 0) count.front ∙ number2-be2 m 0 [] [] refl fewer in
    let entries = same_entries stream.entries also.entries (last ++ x) (end ++ y) size stream.short also.short count.rest in
    let answer = same_plain stream.last also.last x y (node_reply stream.last stream.answer) (node_reply also.last also.answer) entries.rest in
    let joined : (21 ∷ be8 stream.from) ++ (be2 n ++ (es ++ last)) ≡ (21 ∷ be8 also.from) ++ (be2 m ++ (fs ++ end)) =
    ap (λ (l : List ℕ). l ++ (be2 n ++ (es ++ last))) from.front
    ∙ ap (λ (l : List ℕ). (21 ∷ be8 also.from) ++ (l ++ (es ++ last))) count.front
    ∙ ap (λ (l : List ℕ). (21 ∷ be8 also.from) ++ (be2 m ++ (l ++ last))) entries.front
    ∙ ap (λ (l : List ℕ). (21 ∷ be8 also.from) ++ (be2 m ++ (fs ++ l))) answer.front in
    record { front = stream.bytes ∙ joined ∙ sym also.bytes; rest = answer.rest }

stream_kind : (r : Reply) (x : List ℕ) → IsStream r → get_or (reply_bytes r ++ x) 0 0 ≡ 21
stream_kind r x stream = ap (λ (l : List ℕ). get_or (l ++ x) 0 0) stream.bytes

pub one_reply : (r s : Reply) (x y : List ℕ) → IsReply r → IsReply s → reply_bytes r ++ x ≡ reply_bytes s ++ y
    → (reply_bytes r ≡ reply_bytes s) × (x ≡ y)
one_reply r s x y is also e = both (each_reply r is) (each_reply s also)
  where
    kinds : get_or (reply_bytes r ++ x) 0 0 ≡ get_or (reply_bytes s ++ y) 0 0
    kinds = ap (λ (l : List ℕ). get_or l 0 0) e

    both : IsPlain r ⊎ IsStream r → IsPlain s ⊎ IsStream s → (reply_bytes r ≡ reply_bytes s) × (x ≡ y)
    both (inl p) (inl q) = let same = same_plain r s x y p q e in (same.front, same.rest)
    both (inl p) (inr q) = absurd (p.kind x (kinds ∙ stream_kind s y q))
    both (inr p) (inl q) = absurd (q.kind y (sym kinds ∙ stream_kind r x p))
    both (inr p) (inr q) = let same = same_stream r s x y p q e in (same.front, same.rest)
