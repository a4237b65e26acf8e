-- Reading refuses for other reasons than want of memory.
use Rattle.std.proofs.Common.{◌≡◌, ℕ, zero, suc, Bool, true, false, cond, eqb, List, Result, Ok, Err, sym, ◌∙◌}
use Rattle.record_frame.specs.declared.entries.Entry.{Entry}
use Rattle.record_frame.specs.declared.entries.Head.{Head}
use Rattle.record_frame.specs.declared.refusals.Refusal.{Refusal}
use Rattle.record_frame.specs.declared.refusals.Refusal.TheVariants.{Short, TooLong, BadKind, BadNumber, Memory}
use Rattle.record_frame.specs.declared.values.Value.TheVariants.{Noop, Cut, Add, Finalise, Trim}
use Rattle.record_frame.specs.Fields.{◌>>=◌, end_at, u8_at, u16_at, u32_at, u64_at, kind_at}
use Rattle.record_frame.specs.Entries.{head_fields_at, entry_fields_at, entry_at, head_read}
use Rattle.record_frame.specs.Values.{meant_at, cells_at, lengths_at, shard_at, value_fields_at, value_at}

-- it does not refuse for want of memory
abbrev pub NeedsNone : {A : Type 0} → Result A Refusal → Type 0
NeedsNone r = r ≡ Err Memory → ⊥

bind : {A B : Type 0} (r : Result A Refusal) (f : A → Result B Refusal) → NeedsNone r → ((x : A) → NeedsNone (f x)) → NeedsNone (r >>= f)
bind (Ok x) f first second = second x
bind (Err refusal) f first second = λ e. first (same refusal e)
  where
    same : {A B : Type 0} (refusal : Refusal) → ◌≡◌ {A = Result B Refusal} (Err refusal) (Err Memory) → ◌≡◌ {A = Result A Refusal} (Err refusal) (Err Memory)
    same refusal e = cc

choice : {A : Type 0} (b : Bool) (x y : Result A Refusal) → NeedsNone x → NeedsNone y → NeedsNone (cond b x y)
choice true x y first second = first
choice false x y first second = second

gives : {A : Type 0} (x : A) → NeedsNone (Ok x)
gives x = λ e. cc

short : {A : Type 0} (n : ℕ) → NeedsNone {A = A} (Err (Short n))
short n = λ e. cc

bad_kind : {A : Type 0} (n : ℕ) → NeedsNone {A = A} (Err (BadKind n))
bad_kind n = λ e. cc

bad_number : {A : Type 0} (n : ℕ) → NeedsNone {A = A} (Err (BadNumber n))
bad_number n = λ e. cc

too_long : {A : Type 0} (n : ℕ) → NeedsNone {A = A} (Err (TooLong n))
too_long n = λ e. cc

pub end_at-needs_none : (width : ℕ) (bytes : List ℕ) (at : ℕ) → NeedsNone (end_at width bytes at)
unfolding end_at
end_at-needs_none width bytes at = choice _ _ _ (short _) (gives _)

pub u8_at-needs_none : (bytes : List ℕ) (at : ℕ) → NeedsNone (u8_at bytes at)
unfolding u8_at
u8_at-needs_none bytes at = bind _ _ (end_at-needs_none 1 bytes at) (λ next. gives _)

pub u16_at-needs_none : (bytes : List ℕ) (at : ℕ) → NeedsNone (u16_at bytes at)
unfolding u16_at
u16_at-needs_none bytes at = bind _ _ (end_at-needs_none 2 bytes at) (λ next. gives _)

pub u32_at-needs_none : (bytes : List ℕ) (at : ℕ) → NeedsNone (u32_at bytes at)
unfolding u32_at
u32_at-needs_none bytes at = bind _ _ (end_at-needs_none 4 bytes at) (λ next. gives _)

pub u64_at-needs_none : (bytes : List ℕ) (at : ℕ) → NeedsNone (u64_at bytes at)
unfolding u64_at
u64_at-needs_none bytes at = bind _ _ (end_at-needs_none 8 bytes at) (λ next. gives _)

pub kind_at-needs_none : (kind : ℕ) (bytes : List ℕ) (at : ℕ) → NeedsNone (kind_at kind bytes at)
unfolding kind_at
kind_at-needs_none kind bytes at = bind _ _ (u8_at-needs_none bytes at) (λ found. choice _ _ _ (gives _) (bad_kind _))

head_fields_at-needs_none : (bytes : List ℕ) (at : ℕ) → NeedsNone (head_fields_at bytes at)
unfolding head_fields_at
head_fields_at-needs_none bytes at =
    bind _ _ (u16_at-needs_none bytes at) (λ client. bind _ _ (u64_at-needs_none bytes client.1) (λ number. bind _ _ (u32_at-needs_none bytes number.1)
    (λ size. choice _ _ _ (too_long _) (bind _ _ (end_at-needs_none size.0 bytes size.1) (λ next. gives _)))))

pub entry_at-needs_none : (bytes : List ℕ) (at : ℕ) → NeedsNone (entry_at bytes at)
unfolding entry_at entry_fields_at
entry_at-needs_none bytes at =
    bind _ _ (kind_at-needs_none 1 bytes at) (λ place. bind _ _ (head_fields_at-needs_none bytes place) (λ head. gives _))

pub head_read-needs_none : (bytes : List ℕ) (r : Result Head Refusal) → r ≡ head_read (entry_at bytes 0) → NeedsNone r
head_read-needs_none bytes r agrees = λ e. no_memory (entry_at bytes 0) (entry_at-needs_none bytes 0) (sym agrees ∙ e)
  where
    no_memory : (read : Result (Entry × ℕ) Refusal) → NeedsNone read → NeedsNone (head_read read)
    no_memory (Ok x) needs_none = gives _
    no_memory (Err refusal) needs_none = λ e. needs_none (same refusal e)
      where
        same : (refusal : Refusal) → ◌≡◌ {A = Result Head Refusal} (Err refusal) (Err Memory) → ◌≡◌ {A = Result (Entry × ℕ) Refusal} (Err refusal) (Err Memory)
        same refusal e = cc

meant_at-needs_none : (n : ℕ) (bytes : List ℕ) (at : ℕ) → NeedsNone (meant_at n bytes at)
unfolding meant_at
meant_at-needs_none zero bytes at = gives _
meant_at-needs_none (suc n) bytes at =
    bind _ _ (u32_at-needs_none bytes at) (λ first. choice _ _ _ (bad_number _) (bind _ _ (meant_at-needs_none n bytes first.1) (λ others. gives _)))

pub lengths_at-needs_none : (limit : ℕ) (bytes : List ℕ) (at : ℕ) → NeedsNone (lengths_at limit bytes at)
unfolding lengths_at cells_at
lengths_at-needs_none limit bytes at =
    bind _ _ (u8_at-needs_none bytes at) (λ count. choice _ _ _ (bad_number _) (bind _ _ (bind _ _ (meant_at-needs_none count.0 bytes count.1) (λ meant. gives _)) (λ cells. gives _)))

pub shard_at-needs_none : (bytes : List ℕ) (at : ℕ) → NeedsNone (shard_at bytes at)
unfolding shard_at
shard_at-needs_none bytes at = bind _ _ (u16_at-needs_none bytes at) (λ shard. choice _ _ _ (bad_number _) (gives _))

value_fields_at-needs_none : (kind : ℕ) (bytes : List ℕ) (at : ℕ) → NeedsNone (value_fields_at kind bytes at)
unfolding value_fields_at
value_fields_at-needs_none kind bytes at =
    choice (eqb kind 0) (Ok (Noop, at)) _ (gives (Noop, at))
    (choice (eqb kind 1) _ _ (bind _ _ (lengths_at-needs_none 32 bytes at) (λ lengths. gives (Cut lengths.0, lengths.1)))
    (choice (eqb kind 2) _ _ (bind _ _ (shard_at-needs_none bytes at) (λ shard. gives (Add shard.0, shard.1)))
    (choice (eqb kind 3) _ _ (bind _ _ (shard_at-needs_none bytes at) (λ shard. gives (Finalise shard.0, shard.1)))
    (choice (eqb kind 4) _ _ (bind _ _ (u64_at-needs_none bytes at) (λ position. gives (Trim (record { 0 = position.0 }), position.1))) (bad_kind kind)))))

pub value_at-needs_none : (bytes : List ℕ) (at : ℕ) → NeedsNone (value_at bytes at)
unfolding value_at
value_at-needs_none bytes at = bind _ _ (u8_at-needs_none bytes at) (λ kind. value_fields_at-needs_none kind.0 bytes kind.1)
