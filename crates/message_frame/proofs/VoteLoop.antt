-- Reading votes one by one.
use Rattle.std.proofs.Common.{◌≡◌, ℕ, suc, ◌+◌, ◌-◌, ◌<◌, List, [], ◌∷◌, ◌++◌, Result, Ok, Err, refl, sym, ap, subst, ◌∙◌, append_assoc, arith}
use Rattle.std.proofs.lemmas.List.{append-nil}
use Rattle.record_frame.specs.declared.refusals.Refusal.{Refusal}
use Rattle.record_frame.specs.declared.refusals.Refusal.TheVariants.{Short, TooLong, BadKind, BadNumber, Long, Memory}
use Rattle.record_frame.specs.Fields.{◌>>=◌, Gives, Refuses}
use Rattle.record_frame.proofs.FieldLaws.{given}
use Rattle.message_frame.specs.declared.messages.Vote.{Vote}
use Rattle.message_frame.specs.Reading.{vote_at, votes_at}

-- the votes read before, and what is still read
abbrev pub with_front : List Vote → Result (List Vote × ℕ) Refusal → Result (List Vote × ℕ) Refusal
with_front front read = read >>= λ x. Ok (front ++ x.0, x.1)

regroup : (front : List Vote) (vote : Vote) (read : Result (List Vote × ℕ) Refusal) → with_front front (read >>= λ x. Ok (vote ∷ x.0, x.1)) ≡ with_front (front ++ vote ∷ []) read
regroup front vote (Ok x) = ap (λ (votes : List Vote). given (votes, x.1)) (simp append_assoc)
regroup front vote (Err refusal) = refl

-- one more vote
pub goes_on : (front : List Vote) (bytes : List ℕ) (count i least greatest at : ℕ) (vote : Vote) (next : ℕ) (total : Result (List Vote × ℕ) Refusal) → i < count
    → vote_at least greatest bytes at ≡ Ok (vote, next) → with_front front (votes_at (count - i) least greatest bytes at) ≡ total
    → with_front (front ++ vote ∷ []) (votes_at (count - (i + 1)) (vote.slot.0 + 1) greatest bytes next) ≡ total
unfolding votes_at
goes_on front bytes count i least greatest at vote next total lt read so_far =
    let k : count - i ≡ suc (count - (i + 1)) = omega arith in
    let one : with_front front (votes_at (count - i) least greatest bytes at) ≡ with_front (front ++ vote ∷ []) (votes_at (count - (i + 1)) (vote.slot.0 + 1) greatest bytes next) =
    rw (k, read) (regroup front vote (votes_at (count - (i + 1)) (vote.slot.0 + 1) greatest bytes next)) in
    sym one ∙ so_far

-- a vote that is not there
pub stops : (refusal : Refusal) (front : List Vote) (bytes : List ℕ) (count i least greatest at : ℕ) (total : Result (List Vote × ℕ) Refusal) → i < count
    → vote_at least greatest bytes at ≡ Err refusal → with_front front (votes_at (count - i) least greatest bytes at) ≡ total → total ≡ Err refusal
unfolding votes_at
stops refusal front bytes count i least greatest at total lt read so_far =
    let k : count - i ≡ suc (count - (i + 1)) = omega arith in
    let one : with_front front (votes_at (count - i) least greatest bytes at) ≡ Err refusal = rw (k, read) refl in
    sym so_far ∙ one

-- all votes are read
pub is_done : (votes : List Vote) (bytes : List ℕ) (count i least greatest at : ℕ) (total : Result (List Vote × ℕ) Refusal) → i ≡ count
    → with_front votes (votes_at (count - i) least greatest bytes at) ≡ total → total ≡ Ok (votes, at)
unfolding votes_at
is_done votes bytes count i least greatest at total all so_far =
    let k : count - i ≡ 0 = omega arith in
    let one : with_front votes (votes_at (count - i) least greatest bytes at) ≡ Ok (votes, at) = rw k (ap (λ (l : List Vote). given (l, at)) (append-nil votes)) in
    sym so_far ∙ one

-- a call that answers the refusal of reading gives what reading gives
pub refused : {X Y : Type 0} (view : X → Y) (r : Result X Refusal) (refusal : Refusal) (read : Result Y Refusal) → r ≡ Err refusal → read ≡ Err refusal → Gives view r read
refused {X} {Y} view r refusal read e same = subst (λ (s : Result X Refusal). Gives view s read) (sym e) (refuses refusal read same)
  where
    refuses : {Y : Type 0} (refusal : Refusal) (read : Result Y Refusal) → read ≡ Err refusal → Refuses refusal read
    refuses (Short need) read same = same
    refuses (TooLong size) read same = same
    refuses (BadKind byte) read same = same
    refuses (BadNumber at) read same = same
    refuses (Long extra) read same = same
    refuses Memory read same = tt
