-- Events that are put in order of place stand at the places from 0 on.
use Rattle.std.proofs.Common.{◌≡◌, ℕ, zero, suc, ◌+◌, ◌<◌, ◌≤◌, cond, ltb, List, [], ◌∷◌, length, get_or, refl, sym, ap, ◌∙◌, inl, inr, arith}
use Rattle.std.specs.List.{sum_by}
use Rattle.std.specs.List.Sorted.{IsPermutation, IsNonDecreasingBy}
use Rattle.std.proofs.lemmas.Bool.{cases_lt, lt-ltb, le-ltb}
use Rattle.std.proofs.lemmas.List.{same_lists, get_or_default}
use Rattle.std.proofs.lemmas.List.Elements.{Contains-get_or}
use Rattle.std.proofs.lemmas.List.Sums.{sum_by-cons}
use Rattle.std.proofs.lemmas.List.Sorted.{IsNonDecreasingBy-drop, IsPermutation-sym, IsPermutation-trans, Contains-permutation, length_permutation, sum_by-IsPermutation}
use Rattle.history_frame.specs.declared.events.Event.{Event}
use Rattle.history_frame.specs.Spelling.{InPlace}

-- a count of the events below a place
below : ℕ → Event → ℕ
below b event = cond (ltb event.place b) 1 0

below_yes : (b : ℕ) (event : Event) → event.place < b → below b event ≡ 1
unfolding below
below_yes b event lt = let is = lt-ltb event.place b lt in rw is refl

below_no : (b : ℕ) (event : Event) → b ≤ event.place → below b event ≡ 0
unfolding below
below_no b event le = let is = le-ltb event.place b le in rw is refl

keyed_below : (k : ℕ) (e g : Event) → e.place ≡ g.place → below k e ≡ below k g
unfolding below
keyed_below k e g h = ap (λ (p : ℕ). cond (ltb p k) 1 0) h

none_before : (b k : ℕ) (xs : List Event) → b ≤ k → InPlace k xs → sum_by (below b) xs ≡ 0
none_before b k [] le places = refl
none_before b k (x ∷ xs) le places =
    omega (arith, sum_by-cons (below b) x xs, below_no b x (omega (arith, le, places.0)), none_before b (k + 1) xs (omega arith) places.1)

none_above : (b : ℕ) (ys : List Event) → ((i : ℕ) (d : Event) → i < length ys → b ≤ (get_or ys i d).place) → sum_by (below b) ys ≡ 0
none_above b [] above = refl
none_above b (y ∷ ys) above =
    omega (arith, sum_by-cons (below b) y ys, below_no b y (above 0 y (omega arith)), none_above b ys (λ i d lt. above (suc i) d (omega arith)))

-- one event in place of none
ones : Event → ℕ
ones event = 1

ones_is : (event : Event) → ones event ≡ 1
unfolding ones
ones_is event = refl

-- Events in order, with as many at each place as others that stand at the places from one on, stand so too.
in_order : (b : ℕ) (xs ys : List Event) → InPlace b xs → IsNonDecreasingBy (λ (e : Event). e.place) ys
    → ((f : Event → ℕ) → ((e g : Event) → e.place ≡ g.place → f e ≡ f g) → sum_by f ys ≡ sum_by f xs) → InPlace b ys
in_order b [] [] places up same = tt
in_order b [] (y ∷ ys) places up same =
    let e = same ones (λ e g h. ones_is e ∙ sym (ones_is g)) in
    absurd (omega (arith, e, sum_by-cons ones y ys, ones_is y))
in_order b (x ∷ xs) [] places up same =
    let e = same ones (λ e g h. ones_is e ∙ sym (ones_is g)) in
    absurd (omega (arith, e, sum_by-cons ones x xs, ones_is x))
in_order b (x ∷ xs) (y ∷ ys) places up same =
    let first : y.place ≡ b = here in (
      first,
      in_order (b + 1) xs ys places.1 (IsNonDecreasingBy-drop (λ (e : Event). e.place) 1 (y ∷ ys) up) (λ f keyed.
          let e = same f keyed in
          let equal = keyed y x (first ∙ sym places.0) in
          omega (arith, e, equal, sum_by-cons f y ys, sum_by-cons f x xs)),
    )
  where
    here : y.place ≡ b
    here =
        elim (cases_lt y.place b) [
          | inl low ↦ absurd (omega (arith, same (below b) (keyed_below b), sum_by-cons (below b) y ys, below_yes b y low, none_before b b (x ∷ xs) (omega arith) places))
          | inr le ↦ elim (cases_lt b y.place) [
            | inl high ↦ absurd (omega (
              arith,
              same (below (b + 1)) (keyed_below (b + 1)),
              none_above (b + 1) (y ∷ ys) (λ i d lt. let first = up 0 i d (omega arith) lt in omega (arith, first, high)),
              sum_by-cons (below (b + 1)) x xs,
              below_yes (b + 1) x (omega (arith, places.0)),
            ))
            | inr ge ↦ omega (arith, le, ge)
          ]
        ]

pub merged_places : (es merged out : List Event) → IsPermutation es merged → InPlace 0 merged → IsPermutation es out → IsNonDecreasingBy (λ (e : Event). e.place) out → InPlace 0 out
merged_places es merged out moved places sorted up =
    in_order 0 merged out places up (λ f keyed. sum_by-IsPermutation f es out sorted ∙ sym (sum_by-IsPermutation f es merged moved))

-- ---- there is one order

place_at : (b : ℕ) (xs : List Event) (i : ℕ) (d : Event) → InPlace b xs → i < length xs → (get_or xs i d).place ≡ b + i
place_at b [] i d places lt = absurd (omega arith)
place_at b (x ∷ xs) zero d places lt = omega (arith, places.0)
place_at b (x ∷ xs) (suc i) d places lt = omega (arith, place_at (b + 1) xs i d places.1 (omega arith))

pub one_order : (es one other : List Event) → IsPermutation es one → InPlace 0 one → IsPermutation es other → InPlace 0 other → one ≡ other
one_order es one other moved places also there =
    let across = IsPermutation-trans one es other (IsPermutation-sym es one moved) also in
    let size : length one ≡ length other = sym (length_permutation one other across) in
    same_lists one other size (λ k d lt.
    let x = get_or one k d in
    let here = Contains-permutation one other x across (Contains-get_or one k d lt) in
    let from = place_at 0 one k d places lt in
    let to = place_at 0 other here.0 x there here.1 in
    let stays = ap (λ (e : Event). e.place) here.2 in
    let same : here.0 ≡ k = omega (arith, from, to, stays) in
    sym here.2 ∙ ap (λ (i : ℕ). get_or other i x) same ∙ get_or_default other k x d (omega (arith, size, lt)))
