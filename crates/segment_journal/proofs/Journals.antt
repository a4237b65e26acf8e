-- What a journal holds, and so recovers to.
use Rattle.std.proofs.Common.{◌≡◌, inl, inr, ⊎_elim, ℕ, ◌+◌, ◌≤◌, List, [], ◌∷◌, ◌++◌, Option, None, Some, IsSome, IsSomeAnd, IfSome, is_some, false, Result, Ok, Err, ap, ◌∙◌, arith}
use Rattle.std.proofs.lemmas.List.Elements.{All-push}
use Rattle.disk_base.specs.Moments.{LeavesOnly, Elapses}
use Rattle.disk_base.proofs.Runs.{started, goes_on}
use Rattle.segment_journal.specs.Journalled.{IsPayload, AllPayloads}
use Rattle.segment_journal.specs.File.{recovered, HasStart, Holds, HoldsEither, IsBeforeOrAfter}
use Rattle.segment_journal.specs.Kept.{AlikeImages, HoldsKept, RecoversKept, HasDiskRoom}
use Rattle.segment_journal.specs.Comparing.{IsDifferent}
use Rattle.segment_journal.proofs.Recovery.{recovered-holds}
use Rattle.segment_journal.proofs.ReadingLemmas.{holds-start}

pub either-recovers : (payloads : List (List ℕ)) (payload bytes : List ℕ) → AllPayloads payloads → IsPayload payload → HoldsEither payloads payload bytes → IsBeforeOrAfter payloads payload bytes
either-recovers payloads payload bytes each is (inl held) = inl (recovered-holds payloads bytes each held)
either-recovers payloads payload bytes each is (inr held) = inr (recovered-holds (payloads ++ payload ∷ []) bytes (All-push IsPayload payloads payload each is) held)

pub kept-recovers : (payloads : List (List ℕ)) (flight : Option (List ℕ)) (bytes : List ℕ) → AllPayloads payloads → IfSome flight IsPayload → HoldsKept payloads flight bytes → RecoversKept payloads flight bytes
kept-recovers payloads None bytes each is held = recovered-holds payloads bytes each held
kept-recovers payloads (Some payload) bytes each is held = either-recovers payloads payload bytes each is held

pub kept-start : (payloads : List (List ℕ)) (flight : Option (List ℕ)) (bytes : List ℕ) → HoldsKept payloads flight bytes → HasStart bytes
kept-start payloads None bytes held = holds-start payloads bytes held
kept-start payloads (Some payload) bytes (inl held) = holds-start payloads bytes held
kept-start payloads (Some payload) bytes (inr held) = holds-start (payloads ++ payload ∷ []) bytes held

-- with nothing in flight it holds the list
pub idle-holds : (payloads : List (List ℕ)) (flight : Option (List ℕ)) (bytes : List ℕ) → is_some flight ≡ false → HoldsKept payloads flight bytes → Holds payloads bytes
idle-holds payloads None bytes idle held = held
idle-holds payloads (Some payload) bytes idle held = absurd (cc idle)

pub room-for : (room : Option ℕ) (n writes bytes : ℕ) → IsSomeAnd room (λ most. n ≤ most) → HasDiskRoom room writes bytes → n + 6 ≤ bytes
room-for None n writes bytes has disk = absurd has
room-for (Some most) n writes bytes has disk = omega (arith, has, disk.1)

-- an error that is handed on
pub err-again : {T U E : Type 0} (a b : E) → ◌≡◌ {A = Result T E} (Err a) (Err b) → ◌≡◌ {A = Result U E} (Err a) (Err b)
err-again {E = E} a b is = let same : a ≡ b = cc is in ap (λ (x : E). Err x) same

-- what was recovered isn't damaged
recovers-not : (payloads : List (List ℕ)) (flight : Option (List ℕ)) (bytes : List ℕ) (at : ℕ) → RecoversKept payloads flight bytes → recovered bytes ≡ Err at → ⊥
recovers-not payloads None bytes at is other = cc (is, other)
recovers-not payloads (Some payload) bytes at (inl is) other = cc (is, other)
recovers-not payloads (Some payload) bytes at (inr is) other = cc (is, other)

same-ok : (a b : List (List ℕ)) (r : Result (List (List ℕ)) ℕ) → r ≡ Ok a → r ≡ Ok b → a ≡ b
same-ok a b r one two = cc (one, two)

-- nor another list
recovers-no-other : (payloads : List (List ℕ)) (flight : Option (List ℕ)) (bytes : List ℕ) (read : List (List ℕ)) (at : ℕ) → RecoversKept payloads flight bytes → recovered bytes ≡ Ok read → IsDifferent read payloads flight at → ⊥
recovers-no-other payloads None bytes read at is other different = different.not_same (same-ok read payloads (recovered bytes) other is)
recovers-no-other payloads (Some payload) bytes read at (inl is) other different = different.not_same (same-ok read payloads (recovered bytes) other is)
recovers-no-other payloads (Some payload) bytes read at (inr is) other different = different.not_more (same-ok read (payloads ++ payload ∷ []) (recovered bytes) other is)

pub never-damaged : (reads : Option (List ℕ)) (images : List ℕ → Type 0) (payloads : List (List ℕ)) (flight : Option (List ℕ)) (at : ℕ) → IsSome reads → IfSome reads images → ((c : List ℕ) → images c → RecoversKept payloads flight c)
    → IfSome reads (λ bytes. recovered bytes ≡ Err at) → ⊥
never-damaged None images payloads flight at tells image kept damaged = cc tells
never-damaged (Some bytes) images payloads flight at tells image kept damaged = recovers-not payloads flight bytes at (kept bytes image) damaged

pub never-different : (reads : Option (List ℕ)) (images : List ℕ → Type 0) (payloads : List (List ℕ)) (flight : Option (List ℕ)) (read : List (List ℕ)) (at : ℕ) → IsSome reads → IfSome reads images
    → ((c : List ℕ) → images c → RecoversKept payloads flight c) → IfSome reads (λ bytes. recovered bytes ≡ Ok read) → IsDifferent read payloads flight at → ⊥
never-different None images payloads flight read at tells image kept recovers different = cc tells
never-different (Some bytes) images payloads flight read at tells image kept recovers different = recovers-no-other payloads flight bytes read at (kept bytes image) recovers different

alike-recovers : (payloads : List (List ℕ)) (flight : Option (List ℕ)) (c d : List ℕ) → recovered c ≡ recovered d → RecoversKept payloads flight d → RecoversKept payloads flight c
alike-recovers payloads None c d same is = same ∙ is
alike-recovers payloads (Some payload) c d same (inl is) = inl (same ∙ is)
alike-recovers payloads (Some payload) c d same (inr is) = inr (same ∙ is)

module _ {D : Type 0} (moment : D → ℕ) (left_since : D → ℕ → List ℕ → Type 0) where
  pub leaves-weaker : (old new : D) (P Q : List ℕ → Type 0) → ((c : List ℕ) → P c → Q c) → LeavesOnly moment left_since old new P → LeavesOnly moment left_since old new Q
  leaves-weaker old new P Q weaker leaves = record {
    later = leaves.later;
    each = λ c left. weaker c (leaves.each c left);
    before = λ t c le left. ⊎_elim (λ was. inl was) (λ has. inr (weaker c has)) (leaves.before t c le left);
  }

  -- a reload leaves what recovers as before
  pub reload-moments : (may_leave : D → List ℕ → Type 0) (old new : D) (payloads : List (List ℕ)) (flight : Option (List ℕ)) → ((c : List ℕ) → left_since old (moment old) c → may_leave old c)
      → ((c : List ℕ) → may_leave old c → RecoversKept payloads flight c) → Elapses (moment old) (moment new) (left_since old) (left_since new) (AlikeImages (may_leave old)) → LeavesOnly moment left_since old new (RecoversKept payloads flight)
  reload-moments may_leave old new payloads flight now kept time =
      goes_on moment left_since old old new (RecoversKept payloads flight) (AlikeImages (may_leave old)) (started moment left_since old (RecoversKept payloads flight) (λ c left. kept c (now c left))) time
      (λ c alike. alike-recovers payloads flight c alike.0 alike.2 (kept alike.0 alike.1))
