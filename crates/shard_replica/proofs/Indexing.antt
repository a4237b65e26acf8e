-- An index of a list, with one more entry at its end.
use Rattle.std.proofs.Common.{◌≡◌, ℕ, suc, ◌+◌, ◌≤◌, set, Bool, true, false, cond, ◌&&◌, ◌==◌, max, List, [], ◌∷◌, ◌++◌, length, take, Option, None, Some, refl, sym, ap, ◌∙◌, subst, ⊎_elim, arith, length-append, zero-add}
use Rattle.std.specs.Prelude.{◌<◌, Result, Ok, Err, slice_get}
use Rattle.std.proofs.lemmas.Bool.{cond-true, cond-false, cases_Bool}
use Rattle.std.proofs.lemmas.List.{append-nil, drop_all, take_more, length-take-le, get_or-set_same, length-set}
use Rattle.std.proofs.lemmas.Option.{slice_get_within, get_or_from_slice_get}
use Rattle.record_frame.specs.declared.entries.Entry.{Entry}
use Rattle.record_frame.specs.Entries.{IsEntry, entry_at, entry_spelling, head_of, head_read}
use Rattle.record_frame.proofs.EntryLaws.{entry_again}
use Rattle.log_model.specs.Pairs.{is_pair, later, offset_from, offset_of, greater, last_of}
use Rattle.log_model.specs.Storage.{IsSpelled, entry_in, entry_read}
use Rattle.shard_replica.specs.Lists.{Segment, segment_at, no_segment, after_put}
use Rattle.shard_replica.specs.Index.{Index, Indexes, offset_in, last_in}

-- a spelling is read as its entry
pub read-again : (entry : Entry) → IsEntry entry → entry_at (entry_spelling entry) 0 ≡ Ok (entry, length (entry_spelling entry))
read-again entry is =
    entry_again (entry_spelling entry) 0 (length (entry_spelling entry)) entry is
    (record { parts = sym (append-nil (entry_spelling entry)) ∙ ap (λ xs. entry_spelling entry ++ xs) (sym (drop_all (length (entry_spelling entry)) (entry_spelling entry) (omega arith))); end = sym (zero-add (length (entry_spelling entry))); within = omega arith })

pub entry_in-spelling : (entry : Entry) → IsEntry entry → entry_in (entry_spelling entry) ≡ entry
unfolding entry_in
entry_in-spelling entry is = ap entry_read (read-again entry is)

pub spelling-is_spelled : (entry : Entry) → IsEntry entry → IsSpelled (entry_spelling entry)
spelling-is_spelled entry is = record {
  entry = subst IsEntry (sym (entry_in-spelling entry is)) is;
  spelling = ap entry_spelling (sym (entry_in-spelling entry is));
}

-- the head of a spelled payload is read
pub head-spelled : (payload : List ℕ) → IsSpelled payload → head_read (entry_at payload 0) ≡ Ok (head_of (entry_in payload))
head-spelled payload spelled =
    ap (λ (bytes : List ℕ). head_read (entry_at bytes 0)) spelled.spelling
    ∙ ap head_read (read-again (entry_in payload) spelled.entry)

later_some : (o : Option ℕ) (k : ℕ) → later o (Some k) ≡ Some k
later_some None k = refl
later_some (Some n) k = refl

-- the offset of a pair, with one more entry
pub offset_from-push : (at : ℕ) (entries : List Entry) (entry : Entry) (client number : ℕ)
    → offset_from at (entries ++ entry ∷ []) client number
    ≡ cond {A = Option ℕ} (is_pair client number entry) (Some (at + length entries)) (offset_from at entries client number)
offset_from-push at [] entry client number =
    ⊎_elim
    (λ own. cond-true (is_pair client number entry) (Some at) None own ∙ ap (λ (n : ℕ). Some n) (let z : at ≡ at + 0 = omega arith in z)
    ∙ sym (cond-true {A = Option ℕ} (is_pair client number entry) (Some (at + 0)) None own))
    (λ other. cond-false (is_pair client number entry) (Some at) None other ∙ sym (cond-false {A = Option ℕ} (is_pair client number entry) (Some (at + 0)) None other))
    (cases_Bool (is_pair client number entry))
offset_from-push at (first ∷ entries) entry client number =
    let here = cond {A = Option ℕ} (is_pair client number first) (Some at) None in
    let rest = offset_from (suc at) entries client number in
    ap (later here) (offset_from-push (suc at) entries entry client number)
    ∙ ⊎_elim
    (λ own.
    let size : suc at + length entries ≡ at + suc (length entries) = omega arith in
    ap (later here) (cond-true {A = Option ℕ} (is_pair client number entry) (Some (suc at + length entries)) rest own)
    ∙ later_some here (suc at + length entries) ∙ ap (λ (n : ℕ). Some n) size
    ∙ sym (cond-true {A = Option ℕ} (is_pair client number entry) (Some (at + suc (length entries))) (later here rest) own))
    (λ other.
    ap (later here) (cond-false {A = Option ℕ} (is_pair client number entry) (Some (suc at + length entries)) rest other)
    ∙ sym (cond-false {A = Option ℕ} (is_pair client number entry) (Some (at + suc (length entries))) (later here rest) other))
    (cases_Bool (is_pair client number entry))

greater_twice : (a b : ℕ) (o : Option ℕ) → greater a (Some (greater b o)) ≡ greater b (Some (greater a o))
greater_twice a b None = let e : max a b ≡ max b a = omega arith in e
greater_twice a b (Some n) = let e : max a (max b n) ≡ max b (max a n) = omega arith in e

-- the greatest number of a client, with one more entry
pub last_of-push : (entries : List Entry) (entry : Entry) (client : ℕ)
    → last_of (entries ++ entry ∷ []) client
    ≡ cond {A = Option ℕ} (entry.client.0 == client) (Some (greater entry.number.0 (last_of entries client))) (last_of entries client)
last_of-push [] entry client = refl
last_of-push (first ∷ entries) entry client =
    let rest = last_of entries client in
    let b = entry.client.0 == client in
    let f = first.client.0 == client in
    ap (λ (o : Option ℕ). cond {A = Option ℕ} f (Some (greater first.number.0 o)) o) (last_of-push entries entry client)
    ∙ cases b f rest
  where
    cases : (b f : Bool) (rest : Option ℕ)
        → cond {A = Option ℕ} f (Some (greater first.number.0 (cond {A = Option ℕ} b (Some (greater entry.number.0 rest)) rest))) (cond {A = Option ℕ} b (Some (greater entry.number.0 rest)) rest)
        ≡ cond {A = Option ℕ} b (Some (greater entry.number.0 (cond {A = Option ℕ} f (Some (greater first.number.0 rest)) rest))) (cond {A = Option ℕ} f (Some (greater first.number.0 rest)) rest)
    cases true true rest = ap (λ (n : ℕ). Some n) (greater_twice first.number.0 entry.number.0 rest)
    cases true false rest = refl
    cases false true rest = refl
    cases false false rest = refl

-- the index of a list after its next entry is noted
pub Indexes-push : (index next : Index) (entries : List Entry) (entry : Entry) (client number offset : ℕ) → Indexes index entries
    → entry.client.0 ≡ client → entry.number.0 ≡ number → offset ≡ length entries
    → ((c n : ℕ) → offset_in next c n ≡ cond {A = Option ℕ} ((client == c) && (number == n)) (Some offset) (offset_in index c n))
    → ((c : ℕ) → last_in next c ≡ cond {A = Option ℕ} (client == c) (Some (greater number (last_in index c))) (last_in index c))
    → length next.offsets ≤ length index.offsets + 1 → length next.lasts ≤ length index.lasts + 1
    → Indexes next (entries ++ entry ∷ [])
Indexes-push index next entries entry client number offset indexes is_client is_number at noted last few_offsets few_lasts =
    let size = length-append entries (entry ∷ []) in
    record {
      offsets = λ c n. noted c n
          ∙ ap (λ (o : Option ℕ). cond {A = Option ℕ} ((client == c) && (number == n)) (Some offset) o) (indexes.offsets c n)
          ∙ ap (λ (k : ℕ). cond {A = Option ℕ} ((k == c) && (number == n)) (Some offset) (offset_of entries c n)) (sym is_client)
          ∙ ap (λ (k : ℕ). cond {A = Option ℕ} ((entry.client.0 == c) && (k == n)) (Some offset) (offset_of entries c n)) (sym is_number)
          ∙ ap (λ (k : ℕ). cond {A = Option ℕ} (is_pair c n entry) (Some k) (offset_of entries c n)) (at ∙ sym (zero-add (length entries)))
          ∙ sym (offset_from-push 0 entries entry c n);
      lasts = λ c. last c
          ∙ ap (λ (o : Option ℕ). cond {A = Option ℕ} (client == c) (Some (greater number o)) o) (indexes.lasts c)
          ∙ ap (λ (k : ℕ). cond {A = Option ℕ} (k == c) (Some (greater number (last_of entries c))) (last_of entries c)) (sym is_client)
          ∙ ap (λ (k : ℕ). cond {A = Option ℕ} (entry.client.0 == c) (Some (greater k (last_of entries c))) (last_of entries c)) (sym is_number)
          ∙ sym (last_of-push entries entry c);
      few_offsets = omega (arith, size, few_offsets, indexes.few_offsets);
      few_lasts = omega (arith, size, few_lasts, indexes.few_lasts);
    }

pub Indexes-none : (index : Index) → index ≡ record { offsets = []; lasts = [] } → Indexes index []
Indexes-none index is = subst (λ (i : Index). Indexes i []) (sym is) (record { offsets = λ c n. refl; lasts = λ c. refl; few_offsets = omega arith; few_lasts = omega arith })

-- What is told of an `Ok` that is told twice.
abbrev ok_or : {A B : Type 0} → A → Result A B → A
ok_or a (Ok x) = x
ok_or a (Err e) = a

pub ok_same : {A B : Type 0} (r : Result A B) (a b : A) → r ≡ Ok a → r ≡ Ok b → a ≡ b
ok_same r a b one other = ap (ok_or a) (sym one ∙ other)

-- the index after one more entry of a list is noted
pub Indexes-more : (index next : Index) (entries : List Entry) (at : ℕ) (entry : Entry) (client number : ℕ) → Indexes index (take at entries)
    → slice_get entries at ≡ Some entry → entry.client.0 ≡ client → entry.number.0 ≡ number
    → ((c n : ℕ) → offset_in next c n ≡ cond {A = Option ℕ} ((client == c) && (number == n)) (Some at) (offset_in index c n))
    → ((c : ℕ) → last_in next c ≡ cond {A = Option ℕ} (client == c) (Some (greater number (last_in index c))) (last_in index c))
    → length next.offsets ≤ length index.offsets + 1 → length next.lasts ≤ length index.lasts + 1
    → Indexes next (take (at + 1) entries)
Indexes-more index next entries at entry client number indexes there is_client is_number noted last few_offsets few_lasts =
    let lt = slice_get_within entries at entry there in
    let more : take (at + 1) entries ≡ take at entries ++ entry ∷ [] =
    take_more entries at entry lt ∙ ap (λ (e : Entry). take at entries ++ e ∷ []) (get_or_from_slice_get entries at entry entry there) in
    let size : length (take at entries) ≡ at = length-take-le at entries (omega (arith, lt)) in
    subst (Indexes next) (sym more)
    (Indexes-push index next (take at entries) entry client number at indexes is_client is_number (sym size) noted last few_offsets few_lasts)

-- the index of the own list after an entry is put there
pub Indexes-put : (index next : Index) (segments news : List Segment) (at own : ℕ) (entry : Entry) (client number offset : ℕ)
    → at ≡ own → at < length segments → news ≡ set segments at (after_put (segment_at segments at) entry false)
    → Indexes index (segment_at segments own).entries → entry.client.0 ≡ client → entry.number.0 ≡ number → offset ≡ length (segment_at segments at).entries
    → ((c n : ℕ) → offset_in next c n ≡ cond {A = Option ℕ} ((client == c) && (number == n)) (Some offset) (offset_in index c n))
    → ((c : ℕ) → last_in next c ≡ cond {A = Option ℕ} (client == c) (Some (greater number (last_in index c))) (last_in index c))
    → length next.offsets ≤ length index.offsets + 1 → length next.lasts ≤ length index.lasts + 1
    → (own < length news) × Indexes next (segment_at news own).entries
Indexes-put index next segments news at own entry client number offset same lt is indexes is_client is_number offset_is noted last few_offsets few_lasts =
    let after = after_put (segment_at segments at) entry false in
    let there : segment_at news own ≡ after =
    ap (λ (ss : List Segment). segment_at ss own) is ∙ ap (λ (k : ℕ). segment_at (set segments at after) k) (sym same)
    ∙ get_or-set_same segments at after no_segment lt in
    let size : length news ≡ length segments = ap (λ (ss : List Segment). length ss) is ∙ length-set segments at after in
    let before = subst (λ (k : ℕ). Indexes index (segment_at segments k).entries) (sym same) indexes in (
      omega (arith, same, lt, size),
      subst (λ (s : Segment). Indexes next s.entries) (sym there)
          (Indexes-push index next (segment_at segments at).entries entry client number offset before is_client is_number offset_is noted last few_offsets few_lasts),
    )
