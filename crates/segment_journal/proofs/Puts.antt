-- What the device calls of a put leave, one after the other.
use Rattle.std.proofs.Common.{◌≡◌, inl, ℕ, ◌+◌, min, List, [], ◌∷◌, ◌++◌, length, Option, None, Some, IsSome, IfSome, sym, subst, arith}
use Rattle.std.specs.Option.{option_map}
use Rattle.std.proofs.lemmas.Option.{IfSome_then, none-some, same_Some}
use Rattle.disk_base.specs.Images.{Torn, SameImages, OnlyWhatIsRead, overwritten}
use Rattle.disk_base.specs.Moments.{Elapses, LeavesOnly}
use Rattle.disk_base.proofs.Runs.{started, goes_on}
use Rattle.segment_journal.specs.File.{spelled, framed, Holds, HoldsEither}
use Rattle.segment_journal.specs.Kept.{TornImages, AllHold}
use Rattle.segment_journal.proofs.Crash.{IsStaged, torn-behind, written-behind, torn-gate, written-gate, holds-length}

-- what is read is one of the images
pub read-holds : (reads : Option (List ℕ)) (images : List ℕ → Type 0) (payloads : List (List ℕ)) → IfSome reads images → AllHold images payloads → IfSome reads (Holds payloads)
read-holds reads images payloads image held = IfSome_then reads image held

-- the file is long enough for both writes
pub places : (reads : Option (List ℕ)) (payloads : List (List ℕ)) (gate count : ℕ) → IsSome reads → IfSome reads (Holds payloads) → IfSome reads (λ bytes. count ≡ length bytes) → gate ≡ length (spelled payloads)
    → (min count (gate + 1) ≡ length (spelled payloads) + 1) × (min count gate ≡ length (spelled payloads))
places None payloads gate count tells held counted is = absurd (cc tells)
places (Some bytes) payloads gate count tells held counted is =
    let long = holds-length payloads bytes held in (omega (arith, counted), omega (arith, counted))

pub torn-holds : (images : List ℕ → Type 0) (payloads : List (List ℕ)) (at n : ℕ) → at ≡ length (spelled payloads) + 1 → AllHold images payloads → AllHold (TornImages at n images) payloads
torn-holds images payloads at n is held c from = torn-behind payloads n from.0 c (held from.0 from.1) (subst (λ (a : ℕ). Torn a n from.0 c) is from.2)

-- the frame stands behind the closed gate
pub read-staged : (before after : Option (List ℕ)) (payloads : List (List ℕ)) (frame : List ℕ) (at : ℕ) → at ≡ length (spelled payloads) + 1 → IfSome before (Holds payloads)
    → after ≡ option_map (λ old. overwritten old at frame) before → IfSome after (IsStaged payloads frame)
read-staged None after payloads frame at is held written = subst (λ (o : Option (List ℕ)). IfSome o (IsStaged payloads frame)) (sym written) tt
read-staged (Some bytes) after payloads frame at is held written =
    subst (λ (o : Option (List ℕ)). IfSome o (IsStaged payloads frame)) (sym written)
    (subst (λ (a : ℕ). IsStaged payloads frame (overwritten bytes a frame)) (sym is) (written-behind payloads frame bytes held))

-- and each image is what is read
pub only : (reads : Option (List ℕ)) (images P : List ℕ → Type 0) → OnlyWhatIsRead reads images → IfSome reads P → (c : List ℕ) → images c → P c
only None images P stable has c image = absurd (none-some c (stable c image))
only (Some bytes) images P stable has c image = subst P (same_Some bytes c (stable c image)) has

pub read-after : (before after : Option (List ℕ)) (payloads : List (List ℕ)) (payload : List ℕ) (at : ℕ) → at ≡ length (spelled payloads) → IfSome before (IsStaged payloads (framed payload))
    → after ≡ option_map (λ old. overwritten old at (1 ∷ [])) before → IfSome after (Holds (payloads ++ payload ∷ []))
read-after None after payloads payload at is staged written = subst (λ (o : Option (List ℕ)). IfSome o (Holds (payloads ++ payload ∷ []))) (sym written) tt
read-after (Some bytes) after payloads payload at is staged written =
    subst (λ (o : Option (List ℕ)). IfSome o (Holds (payloads ++ payload ∷ []))) (sym written)
    (subst (λ (a : ℕ). Holds (payloads ++ payload ∷ []) (overwritten bytes a (1 ∷ []))) (sym is) (written-gate payloads payload bytes staged))

pub torn-either : (images : List ℕ → Type 0) (payloads : List (List ℕ)) (payload : List ℕ) (at : ℕ) → at ≡ length (spelled payloads) → ((c : List ℕ) → images c → IsStaged payloads (framed payload) c)
    → (c : List ℕ) → TornImages at 1 images c → HoldsEither payloads payload c
torn-either images payloads payload at is staged c from = torn-gate payloads payload from.0 c (staged from.0 from.1) (subst (λ (a : ℕ). Torn a 1 from.0 c) is from.2)

module _ {D : Type 0} (moment : D → ℕ) (left_since : D → ℕ → List ℕ → Type 0) (may_leave : D → List ℕ → Type 0) (payloads : List (List ℕ)) (payload : List ℕ) where
  -- the length was asked, and the frame written behind the closed gate
  pub first-moments : (old asked written : D) (at n : ℕ) → ((c : List ℕ) → left_since old (moment old) c → may_leave old c) → AllHold (may_leave old) payloads → at ≡ length (spelled payloads) + 1
      → SameImages (may_leave old) (may_leave asked) → Elapses (moment old) (moment asked) (left_since old) (left_since asked) (may_leave asked)
      → Elapses (moment asked) (moment written) (left_since asked) (left_since written) (TornImages at n (may_leave asked)) → LeavesOnly moment left_since old written (HoldsEither payloads payload)
  first-moments old asked written at n now held is same time then =
      let still : AllHold (may_leave asked) payloads = λ c image. held c (same.no_other c image) in
      let at_start = started moment left_since old (HoldsEither payloads payload) (λ c left. inl (held c (now c left))) in
      let once_asked = goes_on moment left_since old old asked (HoldsEither payloads payload) (may_leave asked) at_start time (λ c image. inl (still c image)) in
      goes_on moment left_since old asked written (HoldsEither payloads payload) (TornImages at n (may_leave asked)) once_asked then
      (λ c image. inl (torn-holds (may_leave asked) payloads at n is still c image))

  -- and then its gate was opened
  pub second-moments : (old written opened : D) (at : ℕ) → LeavesOnly moment left_since old written (HoldsEither payloads payload) → ((c : List ℕ) → may_leave written c → IsStaged payloads (framed payload) c)
      → at ≡ length (spelled payloads) → Elapses (moment written) (moment opened) (left_since written) (left_since opened) (TornImages at 1 (may_leave written)) → LeavesOnly moment left_since old opened (HoldsEither payloads payload)
  second-moments old written opened at so_far staged is time =
      goes_on moment left_since old written opened (HoldsEither payloads payload) (TornImages at 1 (may_leave written)) so_far time (torn-either (may_leave written) payloads payload at is staged)
