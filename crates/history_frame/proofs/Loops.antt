-- Reading things one by one.
use Rattle.std.proofs.Common.{◌≡◌, ℕ, zero, suc, ◌+◌, ◌-◌, ◌<◌, List, [], ◌∷◌, ◌++◌, Result, Ok, Err, refl, sym, ap, subst, ◌∙◌, append_assoc, arith}
use Rattle.std.proofs.lemmas.List.{append-nil}
use Rattle.record_frame.specs.declared.refusals.Refusal.{Refusal}
use Rattle.record_frame.specs.declared.refusals.Refusal.TheVariants.{Short, TooLong, BadKind, BadNumber, Long, Memory}
use Rattle.record_frame.specs.Fields.{◌>>=◌, Gives, Refuses}
use Rattle.record_frame.proofs.FieldLaws.{bind_ok, given, ok_is}
use Rattle.history_frame.specs.Reading.{sent_at, outputs_at}
use Rattle.history_frame.specs.ReplyReading.{plain_entry_at, plain_entries_at}

-- the things read before, and those still read
abbrev pub with_front : {A : Type 0} → List A → Result (List A × ℕ) Refusal → Result (List A × ℕ) Refusal
with_front front read = read >>= λ x. Ok (front ++ x.0, x.1)

-- one thing, behind those read before
abbrev pub behind : {A : Type 0} → List A → Result (A × ℕ) Refusal → Result (List A × ℕ) Refusal
behind front read = read >>= λ x. Ok (front ++ x.0 ∷ [], x.1)

-- how a number of things are read from the first
pub record IsMany {A : Type 0} (one : List ℕ → ℕ → Result (A × ℕ) Refusal) (many : ℕ → List ℕ → ℕ → Result (List A × ℕ) Refusal) : Type 0 where
  pub none : (bytes : List ℕ) (at : ℕ) → many zero bytes at ≡ Ok ([], at)
  pub more : (count : ℕ) (bytes : List ℕ) (at : ℕ) → many (suc count) bytes at ≡ (one bytes at >>= λ first. many count bytes first.1 >>= λ others. Ok (first.0 ∷ others.0, others.1))

regroup : {A : Type 0} (front : List A) (first : A) (read : Result (List A × ℕ) Refusal) → with_front front (read >>= λ x. Ok (first ∷ x.0, x.1)) ≡ with_front (front ++ first ∷ []) read
regroup {A} front first (Ok x) = ap (λ (all : List A). given (all, x.1)) (simp append_assoc)
regroup front first (Err refusal) = refl

module _ {A : Type 0} {one : List ℕ → ℕ → Result (A × ℕ) Refusal} {many : ℕ → List ℕ → ℕ → Result (List A × ℕ) Refusal} (is : IsMany one many) where
  -- one more
  pub goes_on : (front : List A) (bytes : List ℕ) (count i at : ℕ) (first : A) (next : ℕ) (total : Result (List A × ℕ) Refusal) → i < count
      → one bytes at ≡ Ok (first, next) → with_front front (many (count - i) bytes at) ≡ total
      → with_front (front ++ first ∷ []) (many (count - (i + 1)) bytes next) ≡ total
  goes_on front bytes count i at first next total lt read so_far =
      let k : count - i ≡ suc (count - (i + 1)) = omega arith in
      let whole = is.more (count - (i + 1)) bytes at in
      let one : with_front front (many (count - i) bytes at) ≡ with_front (front ++ first ∷ []) (many (count - (i + 1)) bytes next) =
      rw (k, whole, read) (regroup front first (many (count - (i + 1)) bytes next)) in
      sym one ∙ so_far

  -- one that is not there
  pub stops : (refusal : Refusal) (front : List A) (bytes : List ℕ) (count i at : ℕ) (total : Result (List A × ℕ) Refusal) → i < count
      → one bytes at ≡ Err refusal → with_front front (many (count - i) bytes at) ≡ total → total ≡ Err refusal
  stops refusal front bytes count i at total lt read so_far =
      let k : count - i ≡ suc (count - (i + 1)) = omega arith in
      let whole = is.more (count - (i + 1)) bytes at in
      let one : with_front front (many (count - i) bytes at) ≡ Err refusal = rw (k, whole, read) refl in
      sym so_far ∙ one

  -- all are read
  pub is_done : (front : List A) (bytes : List ℕ) (count i at : ℕ) (total : Result (List A × ℕ) Refusal) → i ≡ count
      → with_front front (many (count - i) bytes at) ≡ total → total ≡ Ok (front, at)
  is_done front bytes count i at total all so_far =
      let k : count - i ≡ 0 = omega arith in
      let none = is.none bytes at in
      let one : with_front front (many (count - i) bytes at) ≡ Ok (front, at) = rw (k, none) (ap (λ (l : List A). given (l, at)) (append-nil front)) in
      sym so_far ∙ one

  -- one more, which was read behind those before
  pub goes_behind : (front all : List A) (bytes : List ℕ) (count i at next : ℕ) (total : Result (List A × ℕ) Refusal) → i < count
      → behind front (one bytes at) ≡ given (all, next) → with_front front (many (count - i) bytes at) ≡ total
      → with_front all (many (count - (i + 1)) bytes next) ≡ total
  goes_behind front all bytes count i at next total lt read so_far =
      let a = bind_ok (one bytes at) (λ x. given (front ++ x.0 ∷ [], x.1)) (all, next) read in
      subst (λ (x : List A × ℕ). with_front x.0 (many (count - (i + 1)) bytes x.1) ≡ total) (ok_is (front ++ a.0.0 ∷ [], a.0.1) (all, next) a.2)
      (goes_on front bytes count i at a.0.0 a.0.1 total lt a.1 so_far)

  -- none was read behind those before
  pub stops_behind : (refusal : Refusal) (front : List A) (bytes : List ℕ) (count i at : ℕ) (total : Result (List A × ℕ) Refusal) → i < count
      → behind front (one bytes at) ≡ Err refusal → with_front front (many (count - i) bytes at) ≡ total → total ≡ Err refusal
  stops_behind refusal front bytes count i at total lt read so_far = stops refusal front bytes count i at total lt (none_behind (one bytes at) read) so_far
    where
      none_behind : (r : Result (A × ℕ) Refusal) → behind front r ≡ Err refusal → r ≡ Err refusal
      none_behind (Ok x) e = absurd cc
      none_behind (Err other) e = cc

-- a call that answers the refusal of the first reading gives what the whole reading gives
pub refused : {X Y A : Type 0} (view : X → Y) (r : Result X Refusal) (refusal : Refusal) (first : Result A Refusal) (total : Result Y Refusal) → r ≡ Err refusal → Refuses refusal first
    → (first ≡ Err refusal → total ≡ Err refusal) → Gives view r total
refused {X} {Y} {A} view r refusal first total e told stops = subst (λ (s : Result X Refusal). Gives view s total) (sym e) (refuses refusal told stops)
  where
    refuses : (refusal : Refusal) → Refuses refusal first → (first ≡ Err refusal → total ≡ Err refusal) → Refuses refusal total
    refuses (Short need) told stops = stops told
    refuses (TooLong size) told stops = stops told
    refuses (BadKind byte) told stops = stops told
    refuses (BadNumber at) told stops = stops told
    refuses (Long extra) told stops = stops told
    refuses Memory told stops = tt

pub plain_entries_many : IsMany plain_entry_at plain_entries_at
unfolding plain_entries_at
plain_entries_many = record { none = λ bytes at. refl; more = λ count bytes at. refl }

pub outputs_many : IsMany sent_at outputs_at
unfolding outputs_at
outputs_many = record { none = λ bytes at. refl; more = λ count bytes at. refl }
