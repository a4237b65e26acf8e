-- Parts of a message: how one is read and spelled, and what holds of some behind each other.
use Rattle.std.proofs.Common.{◌≡◌, ℕ, ◌-◌, ◌^◌, ◌<◌, ◌≤◌, Bool, true, false, cond, ltb, List, [], ◌∷◌, length, Result, Ok, Err, refl, sym, ap, subst, arith}
use Rattle.std.specs.Prelude.{◌||◌}
use Rattle.std.proofs.lemmas.Bool.{ltb-false, le-ltb}
use Rattle.log_base.specs.Wide.{IsBytes, be2, be4, be8}
use Rattle.log_base.specs.declared.numbers.Ballot.{Ballot}
use Rattle.log_base.specs.declared.numbers.NodeId.{NodeId}
use Rattle.log_base.specs.declared.numbers.Replica.{Replica}
use Rattle.log_base.specs.declared.numbers.Slot.{Slot}
use Rattle.record_frame.specs.declared.refusals.Refusal.{Refusal}
use Rattle.record_frame.specs.declared.refusals.Refusal.TheVariants.{BadNumber, Memory}
use Rattle.record_frame.specs.Entries.{IsEntry, entry_spelling, entry_at}
use Rattle.record_frame.specs.Fields.{◌>>=◌, StandsAt, u8_at, u16_at, u32_at, u64_at}
use Rattle.record_frame.specs.Values.{IsLengths, IsValue, lengths_spelling, value_spelling, lengths_at, shard_at, value_at}
use Rattle.record_frame.proofs.EntryLaws.{entry_takes, entry_again}
use Rattle.record_frame.proofs.FieldLaws.{bind_ok, passes, given, ok_is, u8_takes, u16_takes, u32_takes, u64_takes, u8_again, u16_again, u32_again, u64_again}
use Rattle.record_frame.proofs.LengthLaws.{lengths_take, lengths_again}
use Rattle.record_frame.proofs.Reasons.{NeedsNone, u8_at-needs_none, u16_at-needs_none, u32_at-needs_none, u64_at-needs_none, entry_at-needs_none, lengths_at-needs_none, shard_at-needs_none, value_at-needs_none}
use Rattle.record_frame.proofs.ValueLaws.{shard_takes, shard_again, value_takes, value_again}
use Rattle.message_frame.specs.Spelling.{IsBallot}
use Rattle.message_frame.specs.Reading.{between, up_to, u8_up_to, u32_up_to, replica_at, node_at, slot_at, ballot_at}

-- What is read is in range and stands there, what stands there is read, and reading takes no memory.
pub record IsPart {A : Type 0} (read : List ℕ → ℕ → Result (A × ℕ) Refusal) (Is : A → Type 0) (spelled : A → List ℕ) : Type 0 where
  pub takes : (bytes : List ℕ) (at : ℕ) (x : A × ℕ) → IsBytes bytes → at ≤ length bytes → read bytes at ≡ Ok x → Is x.0 × StandsAt bytes at (spelled x.0) x.1
  pub again : (bytes : List ℕ) (at next : ℕ) (a : A) → Is a → StandsAt bytes at (spelled a) next → read bytes at ≡ Ok (a, next)
  pub needs_none : (bytes : List ℕ) (at : ℕ) → NeedsNone (read bytes at)

-- ---- memory

pub bind : {A B : Type 0} (r : Result A Refusal) (f : A → Result B Refusal) → NeedsNone r → ((x : A) → NeedsNone (f x)) → NeedsNone (r >>= f)
bind (Ok x) f first second = second x
bind (Err refusal) f first second = λ e. first (same refusal e)
  where
    same : {A B : Type 0} (refusal : Refusal) → ◌≡◌ {A = Result B Refusal} (Err refusal) (Err Memory) → ◌≡◌ {A = Result A Refusal} (Err refusal) (Err Memory)
    same refusal e = cc

pub choice : {A : Type 0} (b : Bool) (x y : Result A Refusal) → NeedsNone x → NeedsNone y → NeedsNone (cond b x y)
choice true x y first second = first
choice false x y first second = second

pub gives : {A : Type 0} (x : A) → NeedsNone (Ok x)
gives x = λ e. cc

bad_number : {A : Type 0} (at : ℕ) → NeedsNone {A = A} (Err (BadNumber at))
bad_number at = λ e. cc

-- ---- numbers in a range

neither : (a b : Bool) → (a || b) ≡ false → (a ≡ false) × (b ≡ false)
neither true b e = absurd cc
neither false b e = (refl, e)

-- a number of a width that is at most so great
up_to_part : (greatest width : ℕ) (read : List ℕ → ℕ → Result (ℕ × ℕ) Refusal) (spelled : ℕ → List ℕ) → greatest < width → IsPart read (λ n. n < width) spelled
    → IsPart (λ bytes at. up_to greatest at (read bytes at)) (λ n. n ≤ greatest) spelled
up_to_part greatest width read spelled fits part = record {
  takes = λ bytes at x is_bytes within e.
      let a = bind_ok (read bytes at) (λ found. cond (ltb greatest found.0) (Err (BadNumber at)) (Ok found)) x e in
      let p = passes (ltb greatest a.0.0) (BadNumber at) (Ok a.0) x a.2 in
      let t = part.takes bytes at a.0 is_bytes within a.1 in
      subst (λ (y : ℕ × ℕ). (y.0 ≤ greatest) × StandsAt bytes at (spelled y.0) y.1) (ok_is a.0 x p.1) (ltb-false _ _ p.0, t.1);
  again = λ bytes at next n small stands.
      let short = le-ltb greatest n small in
      rw (part.again bytes at next n (omega (arith, fits, small)) stands, short) refl;
  needs_none = λ bytes at. bind _ _ (part.needs_none bytes at) (λ found. choice _ _ _ (bad_number _) (gives _));
}

-- a number of a width from a least to a greatest one
between_part : (least greatest width : ℕ) (read : List ℕ → ℕ → Result (ℕ × ℕ) Refusal) (spelled : ℕ → List ℕ) → greatest < width → IsPart read (λ n. n < width) spelled
    → IsPart (λ bytes at. between least greatest at (read bytes at)) (λ n. (least ≤ n) × (n ≤ greatest)) spelled
between_part least greatest width read spelled fits part = record {
  takes = λ bytes at x is_bytes within e.
      let a = bind_ok (read bytes at) (λ found. cond (ltb found.0 least || ltb greatest found.0) (Err (BadNumber at)) (Ok found)) x e in
      let p = passes (ltb a.0.0 least || ltb greatest a.0.0) (BadNumber at) (Ok a.0) x a.2 in
      let tests = neither (ltb a.0.0 least) (ltb greatest a.0.0) p.0 in
      let t = part.takes bytes at a.0 is_bytes within a.1 in
      subst (λ (y : ℕ × ℕ). ((least ≤ y.0) × (y.0 ≤ greatest)) × StandsAt bytes at (spelled y.0) y.1) (ok_is a.0 x p.1) ((ltb-false _ _ tests.0, ltb-false _ _ tests.1), t.1);
  again = λ bytes at next n small stands.
      let low = le-ltb n least small.0 in
      let short = le-ltb greatest n small.1 in
      rw (part.again bytes at next n (omega (arith, fits, small.1)) stands, low, short) refl;
  needs_none = λ bytes at. bind _ _ (part.needs_none bytes at) (λ found. choice _ _ _ (bad_number _) (gives _));
}

-- a number that has a meaning
meant_part : {N : Type 0} (read : List ℕ → ℕ → Result (ℕ × ℕ) Refusal) (Is : ℕ → Type 0) (spelled : ℕ → List ℕ) (mean : ℕ → N) (number : N → ℕ)
    → ((n : ℕ) → number (mean n) ≡ n) → ((m : N) → mean (number m) ≡ m) → IsPart read Is spelled
    → IsPart (λ bytes at. read bytes at >>= λ found. Ok (mean found.0, found.1)) (λ m. Is (number m)) (λ m. spelled (number m))
meant_part {N} read Is spelled mean number back forth part = record {
  takes = λ bytes at x is_bytes within e.
      let a = bind_ok (read bytes at) (λ found. Ok (mean found.0, found.1)) x e in
      let t = part.takes bytes at a.0 is_bytes within a.1 in
      let here : Is (number (mean a.0.0)) × StandsAt bytes at (spelled (number (mean a.0.0))) a.0.1 =
      subst (λ (n : ℕ). Is n × StandsAt bytes at (spelled n) a.0.1) (sym (back a.0.0)) t in
      subst (λ (y : N × ℕ). Is (number y.0) × StandsAt bytes at (spelled (number y.0)) y.1) (ok_is (mean a.0.0, a.0.1) x a.2) here;
  again = λ bytes at next m is stands.
      rw (part.again bytes at next (number m) is stands) (ap (λ (y : N). given (y, next)) (forth m));
  needs_none = λ bytes at. bind _ _ (part.needs_none bytes at) (λ found. gives _);
}

-- a part whose range is said in other words
of_range : {A : Type 0} {read : List ℕ → ℕ → Result (A × ℕ) Refusal} {Is Also : A → Type 0} {spelled : A → List ℕ} → ((a : A) → Is a → Also a) → ((a : A) → Also a → Is a) → IsPart read Is spelled → IsPart read Also spelled
of_range there back part = record {
  takes = λ bytes at x fits within e. let t = part.takes bytes at x fits within e in (there x.0 t.0, t.1);
  again = λ bytes at next a also stands. part.again bytes at next a (back a also) stands;
  needs_none = part.needs_none;
}

pub u8_part : IsPart u8_at (λ n. n < 256) (λ n. n ∷ [])
u8_part = record {
  takes = λ bytes at x fits within e. let t = u8_takes bytes at x fits e in (t.1, t.0);
  again = λ bytes at next n lt stands. u8_again bytes at n next lt stands;
  needs_none = u8_at-needs_none;
}

pub u16_part : IsPart u16_at (λ n. n < 2 ^ 16) be2
u16_part = record {
  takes = λ bytes at x fits within e. let t = u16_takes bytes at x fits e in (t.1, t.0);
  again = λ bytes at next n lt stands. u16_again bytes at n next lt stands;
  needs_none = u16_at-needs_none;
}

pub u32_part : IsPart u32_at (λ n. n < 2 ^ 32) be4
u32_part = record {
  takes = λ bytes at x fits within e. let t = u32_takes bytes at x fits e in (t.1, t.0);
  again = λ bytes at next n lt stands. u32_again bytes at n next lt stands;
  needs_none = u32_at-needs_none;
}

pub u64_part : IsPart u64_at (λ n. n < 2 ^ 64) be8
u64_part = record {
  takes = λ bytes at x fits within e. let t = u64_takes bytes at x fits e in (t.1, t.0);
  again = λ bytes at next n lt stands. u64_again bytes at n next lt stands;
  needs_none = u64_at-needs_none;
}

pub u8_up_to_part : (greatest : ℕ) → greatest < 256 → IsPart (u8_up_to greatest) (λ n. n ≤ greatest) (λ n. n ∷ [])
unfolding u8_up_to
u8_up_to_part greatest fits = up_to_part greatest 256 u8_at (λ n. n ∷ []) fits u8_part

pub u32_up_to_part : (greatest : ℕ) → greatest < 2 ^ 32 → IsPart (u32_up_to greatest) (λ n. n ≤ greatest) be4
unfolding u32_up_to
u32_up_to_part greatest fits = up_to_part greatest (2 ^ 32) u32_at be4 fits u32_part

pub replica_part : IsPart replica_at (λ replica. replica.0 ≤ 4) (λ replica. replica.0 ∷ [])
unfolding replica_at
replica_part =
    meant_part (λ bytes at. up_to 4 at (u8_at bytes at)) (λ n. n ≤ 4) (λ n. n ∷ []) (λ n. record { 0 = n }) (λ (replica : Replica). replica.0) (λ n. refl) (λ replica. refl)
    (up_to_part 4 256 u8_at (λ n. n ∷ []) (omega arith) u8_part)

pub node_part : IsPart node_at (λ node. node.0 ≤ 42) (λ node. be2 node.0)
unfolding node_at
node_part =
    meant_part (λ bytes at. up_to 42 at (u16_at bytes at)) (λ n. n ≤ 42) be2 (λ n. record { 0 = n }) (λ (node : NodeId). node.0) (λ n. refl) (λ node. refl)
    (up_to_part 42 (2 ^ 16) u16_at be2 (omega arith) u16_part)

pub slot_part : (least greatest : ℕ) → greatest < 2 ^ 32 → IsPart (slot_at least greatest) (λ slot. (least ≤ slot.0) × (slot.0 ≤ greatest)) (λ slot. be4 slot.0)
unfolding slot_at
slot_part least greatest fits =
    meant_part (λ bytes at. between least greatest at (u32_at bytes at)) (λ n. (least ≤ n) × (n ≤ greatest)) be4 (λ n. record { 0 = n }) (λ (slot : Slot). slot.0) (λ n. refl) (λ slot. refl)
    (between_part least greatest (2 ^ 32) u32_at be4 fits u32_part)

pub slot_up_to_part : (greatest : ℕ) → greatest < 2 ^ 32 → IsPart (slot_at 0 greatest) (λ slot. slot.0 ≤ greatest) (λ slot. be4 slot.0)
slot_up_to_part greatest fits = of_range (λ slot is. is.1) (λ slot small. (omega arith, small)) (slot_part 0 greatest fits)

pub ballot_part : IsPart ballot_at (λ ballot. IsBallot ballot.0) (λ ballot. be8 ballot.0)
unfolding ballot_at
ballot_part =
    of_range (λ ballot is. (is.0, omega (arith, is.1))) (λ ballot is. (is.0, omega (arith, is.1)))
    (meant_part (λ bytes at. between 1 (2 ^ 56 - 1) at (u64_at bytes at)) (λ n. (1 ≤ n) × (n ≤ 2 ^ 56 - 1)) be8 (λ n. record { 0 = n }) (λ (ballot : Ballot). ballot.0) (λ n. refl) (λ ballot. refl)
    (between_part 1 (2 ^ 56 - 1) (2 ^ 64) u64_at be8 (omega arith) u64_part))

-- ---- shards, lengths, values and entries

pub shard_part : IsPart shard_at (λ shard. shard.0 ≤ 7) (λ shard. be2 shard.0)
shard_part = record {
  takes = λ bytes at x fits within e. let t = shard_takes bytes at x fits e in (t.1, t.0);
  again = shard_again;
  needs_none = shard_at-needs_none;
}

pub lengths_part : IsPart (lengths_at 5) (IsLengths 5) lengths_spelling
lengths_part = record {
  takes = λ bytes at x fits within e. lengths_take 5 bytes at x (omega arith) fits e;
  again = λ bytes at next lengths is stands. lengths_again 5 bytes at next lengths (omega arith) is stands;
  needs_none = lengths_at-needs_none 5;
}

pub value_part : IsPart value_at IsValue value_spelling
value_part = record {
  takes = λ bytes at x fits within e. value_takes bytes at x.1 x.0 fits e;
  again = value_again;
  needs_none = value_at-needs_none;
}

pub entry_part : IsPart entry_at IsEntry entry_spelling
entry_part = record {
  takes = λ bytes at x fits within e. entry_takes bytes at x.1 x.0 fits e;
  again = entry_again;
  needs_none = entry_at-needs_none;
}
