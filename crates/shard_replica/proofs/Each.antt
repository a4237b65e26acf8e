-- Loops over journals: what is seen of each, while one after another is replaced.
use Rattle.std.proofs.Common.{◌≡◌, ◌≢◌, ℕ, ◌+◌, ◌<◌, ◌≤◌, Bool, List, map, length, get_or, set, Option, sym, ap, ◌∙◌, subst, ⊎_elim, arith, max}
use Rattle.std.specs.Prelude.{unwrap_or}
use Rattle.std.proofs.Math.Seq.{map-set_same}
use Rattle.std.proofs.lemmas.List.{map-set, length-map, get_or-set_same, get_or-set_other}
use Rattle.segment_journal.specs.Journalled.{Journalled, Turns, with_room}
use Rattle.shard_replica.specs.Journals.{roomless}
use Rattle.shard_replica.specs.Lists.{Medium, medium_of, but_room}
use Rattle.shard_replica.proofs.Putting.{cases_≡}

-- where one item is set, and what is seen of it stays, what is seen of all stays
pub unseen-set : {X Y : Type 0} (f : X → Y) (items : List X) (at : ℕ) (item new : X) → f new ≡ f (get_or items at item) → map f (set items at new) ≡ map f items
unseen-set f items at item new same = map-set_same f items at new item same

-- What is to hold of the item at each index holds after one of them is set.
pub step-at : {Y : Type 0} (P Q : ℕ → Y → Type 0) (ys : List Y) (at : ℕ) (y d : Y) → at < length ys → ((k : ℕ) → P k (get_or ys k d))
    → ((k : ℕ) (z : Y) → k ≢ at → P k z → Q k z) → Q at y → (k : ℕ) → Q k (get_or (set ys at y) k d)
step-at P Q ys at y d lt each goes_on holds k =
    ⊎_elim
    (λ here. subst (λ (j : ℕ). Q j (get_or (set ys at y) j d)) (sym here) (subst (Q at) (sym (get_or-set_same ys at y d lt)) holds))
    (λ elsewhere. subst (Q k) (sym (get_or-set_other ys at k y d elsewhere)) (goes_on k (get_or ys k d) elsewhere (each k)))
    (cases_≡ k at)

-- the same of what is seen of the items
pub step-seen : {X Y : Type 0} (f : X → Y) (P Q : ℕ → Y → Type 0) (items : List X) (at : ℕ) (new : X) (d : Y) → at < length items
    → ((k : ℕ) → P k (get_or (map f items) k d)) → ((k : ℕ) (z : Y) → k ≢ at → P k z → Q k z) → Q at (f new)
    → (k : ℕ) → Q k (get_or (map f (set items at new)) k d)
step-seen {Y = Y} f P Q items at new d lt each goes_on holds =
    subst (λ (ys : List Y). (k : ℕ) → Q k (get_or ys k d)) (sym (map-set f items at new))
    (step-at P Q (map f items) at (f new) d (subst (λ (n : ℕ). at < n) (sym (length-map items f)) lt) each goes_on holds)

-- of a journal whose room changed, the rest is told as before
pub but_room-same : (old new : Journalled) (f f' : ℕ) (k k' : Bool) (t t' : Option Turns) → roomless new ≡ roomless old → f' ≡ f → k' ≡ k → t' ≡ t
    → but_room (medium_of new f' k' t') ≡ but_room (medium_of old f k t)
but_room-same old new f f' k k' t t' state faults keeps turns =
    let told : Journalled → ℕ → Bool → Option Turns → Medium = λ s n b o. record { faults = n; keeps_synced = b; turns = o; room = 0; reloaded = s.reloaded } in
    ap (λ (s : Journalled). told s f' k' t') state
    ∙ ap (λ (n : ℕ). told (roomless old) n k' t') faults
    ∙ ap (λ (b : Bool). told (roomless old) f b t') keeps
    ∙ ap (λ (o : Option Turns). told (roomless old) f k o) turns

-- the journals before an index have room
pub room-goes_on : (bytes at : ℕ) (k : ℕ) (m : Medium) → k ≢ at → (k < at → bytes ≤ m.room) → k < at + 1 → bytes ≤ m.room
room-goes_on bytes at k m other before within = before (omega arith)

pub room-made : (state new : Journalled) (bytes f : ℕ) (b : Bool) (o : Option Turns) → new ≡ with_room state bytes → bytes ≤ (medium_of new f b o).room
room-made state new bytes f b o is =
    subst (λ (s : Journalled). bytes ≤ (medium_of s f b o).room) (sym is) (let most : bytes ≤ max (unwrap_or state.room 0) bytes = omega arith in most)
