-- Pairs of client and number in a list that gets one more entry, and where they stand.
use Rattle.std.proofs.Common.{◌≡◌, ◌≢◌, ℕ, zero, suc, ◌+◌, ◌<◌, ◌==◌, ◌&&◌, max, Bool, true, false, cond, List, [], ◌∷◌, ◌++◌, length, Option, None, Some, refl, ap, ◌∙◌, arith, eq-eqb}
use Rattle.std.specs.Prelude.{⊤, slice_index_or, slice_set}
use Rattle.std.specs.List.{AllByRecursion}
use Rattle.std.proofs.lemmas.Bool.{cond-true, cond-false, ne_eqb, eqb-true, and_left}
use Rattle.record_frame.specs.declared.entries.Entry.{Entry}
use Rattle.log_model.specs.Pairs.{is_pair, later, offset_from, greater, last_of}

-- one more entry of another client
pub offset_from-other : (at : ℕ) (entries : List Entry) (entry : Entry) (client number : ℕ) → entry.client.0 ≢ client
    → offset_from at (entries ++ entry ∷ []) client number ≡ offset_from at entries client number
offset_from-other at [] entry client number other =
    cond-false {A = Option ℕ} (is_pair client number entry) (Some at) None (and_left (entry.client.0 == client) (entry.number.0 == number) (ne_eqb entry.client.0 client other))
offset_from-other at (first ∷ rest) entry client number other =
    ap (later (cond {A = Option ℕ} (is_pair client number first) (Some at) None)) (offset_from-other (suc at) rest entry client number other)

pub last_of-other : (entries : List Entry) (entry : Entry) (client : ℕ) → entry.client.0 ≢ client
    → last_of (entries ++ entry ∷ []) client ≡ last_of entries client
last_of-other [] entry client other =
    cond-false {A = Option ℕ} (entry.client.0 == client) (Some entry.number.0) None (ne_eqb entry.client.0 client other)
last_of-other (first ∷ rest) entry client other =
    ap (λ (o : Option ℕ). cond {A = Option ℕ} (first.client.0 == client) (Some (greater first.number.0 o)) o) (last_of-other rest entry client other)

later-some : (o : Option ℕ) (k : ℕ) → later o (Some k) ≡ Some k
later-some None k = refl
later-some (Some n) k = refl

own_pair : (entry : Entry) → is_pair entry.client.0 entry.number.0 entry ≡ true
own_pair entry = rw (eq-eqb entry.client.0 entry.client.0 refl, eq-eqb entry.number.0 entry.number.0 refl) refl

-- The pair of the last entry stands there.
pub offset_from-own : (at : ℕ) (entries : List Entry) (entry : Entry)
    → offset_from at (entries ++ entry ∷ []) entry.client.0 entry.number.0 ≡ Some (at + length entries)
offset_from-own at [] entry =
    let here : at ≡ at + 0 = omega arith in
    cond-true {A = Option ℕ} (is_pair entry.client.0 entry.number.0 entry) (Some at) None (own_pair entry) ∙ ap (λ (n : ℕ). Some n) here
offset_from-own at (first ∷ rest) entry =
    let here = cond {A = Option ℕ} (is_pair entry.client.0 entry.number.0 first) (Some at) None in
    let next : suc at + length rest ≡ at + suc (length rest) = omega arith in
    ap (later here) (offset_from-own (suc at) rest entry) ∙ later-some here (suc at + length rest) ∙ ap (λ (n : ℕ). Some n) next

-- an entry of another client, or of a lesser number
abbrev pub IsBefore : ℕ → ℕ → Entry → Type 0
IsBefore client number entry = entry.client.0 ≡ client → entry.number.0 < number

-- no number, or a lesser one
abbrev pub Below : ℕ → Option ℕ → Type 0
Below number None = ⊤
Below number (Some last) = last < number

below_greater : (number first : ℕ) (o : Option ℕ) → first < number → Below number o → greater first o < number
below_greater number first None small below = small
below_greater number first (Some last) small below = grind arith

-- Where all numbers of a client are less, the greatest one is.
pub last_below : (entries : List Entry) (client number : ℕ) → AllByRecursion (IsBefore client number) entries → Below number (last_of entries client)
last_below [] client number all = tt
last_below (first ∷ rest) client number all = at (first.client.0 == client) refl (last_below rest client number all.1)
  where
    at : (b : Bool) → (first.client.0 == client) ≡ b → Below number (last_of rest client) → Below number (cond {A = Option ℕ} b (Some (greater first.number.0 (last_of rest client))) (last_of rest client))
    at true own below = below_greater number first.number.0 (last_of rest client) (all.0 (eqb-true first.client.0 client own)) below
    at false other below = below

-- Then the pair stands nowhere.
pub offset_from-none : (at : ℕ) (entries : List Entry) (client number : ℕ) → AllByRecursion (IsBefore client number) entries
    → offset_from at entries client number ≡ None
offset_from-none at [] client number all = refl
offset_from-none at (first ∷ rest) client number all =
    ap (later (cond {A = Option ℕ} (is_pair client number first) (Some at) None)) (offset_from-none (suc at) rest client number all.1)
    ∙ cond-false {A = Option ℕ} (is_pair client number first) (Some at) None (here (first.client.0 == client) refl)
  where
    here : (b : Bool) → (first.client.0 == client) ≡ b → (b && (first.number.0 == number)) ≡ false
    here true own = ne_eqb first.number.0 number (λ same. absurd (omega (arith, same, all.0 (eqb-true first.client.0 client own))))
    here false other = refl

-- And an entry with it, put at the end, has the greatest number of its client.
pub last_of-own : (entries : List Entry) (entry : Entry) → AllByRecursion (IsBefore entry.client.0 entry.number.0) entries
    → last_of (entries ++ entry ∷ []) entry.client.0 ≡ Some entry.number.0
last_of-own [] entry all =
    cond-true {A = Option ℕ} (entry.client.0 == entry.client.0) (Some entry.number.0) None (eq-eqb entry.client.0 entry.client.0 refl)
last_of-own (first ∷ rest) entry all =
    ap (λ (o : Option ℕ). cond {A = Option ℕ} (first.client.0 == entry.client.0) (Some (greater first.number.0 o)) o) (last_of-own rest entry all.1)
    ∙ here (first.client.0 == entry.client.0) refl
  where
    here : (b : Bool) → (first.client.0 == entry.client.0) ≡ b
        → cond {A = Option ℕ} b (Some (greater first.number.0 (Some entry.number.0))) (Some entry.number.0) ≡ Some entry.number.0
    here true own =
        let most : max first.number.0 entry.number.0 ≡ entry.number.0 = omega (arith, all.0 (eqb-true first.client.0 entry.client.0 own)) in
        ap (λ (n : ℕ). Some n) most
    here false other = refl

-- What holds of a list and of the new one of this index holds of the list where that index is set.
pub list_set : (P : List Entry → Type 0) (segments : List (List Entry)) (at i : ℕ) (new : List Entry) → P (slice_index_or segments i [])
    → (i ≡ at → P new) → P (slice_index_or (slice_set segments at new) i [])
list_set P [] at i new holds is = holds
list_set P (first ∷ rest) zero zero new holds is = is refl
list_set P (first ∷ rest) zero (suc i) new holds is = holds
list_set P (first ∷ rest) (suc at) zero new holds is = holds
list_set P (first ∷ rest) (suc at) (suc i) new holds is = list_set P rest at i new holds (λ same. is (ap suc same))
