-- Additions and finalisations of shards in an order, and how many shards it can have.
use Rattle.std.proofs.Common.{◌≡◌, ℕ, ◌+◌, ◌<◌, ◌≤◌, Bool, true, false, cond, eqb, List, [], ◌∷◌, ◌++◌, map, length, Option, None, Some, is_some, refl, sym, ap, ◌∙◌, subst, ⊎_elim, arith, length-append}
use Rattle.std.specs.List.{All, AllByRecursion, IsDistinct, list_any}
use Rattle.std.specs.Prelude.{Result, Ok, Err, OnOk}
use Rattle.indexmap.specs.IndexMap.{insert_entry}
use Rattle.std.specs.Map.{lookup, set_value}
use Rattle.std.specs.Cmp.{nat_eq_equiv}
use Rattle.std.proofs.lemmas.Bool.{cond-true, cond-false, cases_Bool, eqb-true, or_from}
use Rattle.std.proofs.lemmas.List.{map-append, length-map}
use Rattle.std.proofs.lemmas.List.Elements.{All-nil, All-head, All-tail, All-push, All-map, All-weaker}
use Rattle.std.proofs.lemmas.Map.Keys.{IsDistinct-head, IsDistinct-tail, IsDistinct-push}
use Rattle.std.proofs.lemmas.Map.Steps.{length-le_from_distinct_below}
use Rattle.log_base.specs.declared.numbers.Shard.{Shard}
use Rattle.shard_registry.specs.declared.answers.State.{State}
use Rattle.shard_registry.specs.declared.answers.State.TheVariants.{Live, Finalised}
use Rattle.shard_registry.specs.Order.{Order, number, is_shard, state_in_order, is_listed, added, ended_entry, finalised}
use Rattle.shard_registry.specs.Room.{HasRoomForEight}

nothing_apart : IsDistinct eqb []
unfolding IsDistinct
nothing_apart = tt

-- the numbers of the shards
abbrev pub numbers : Order → List ℕ
numbers order = map number order

pub added-known : (order : Order) (shard : ℕ) → is_listed order shard ≡ true → order ≡ added order shard
added-known order shard known = sym (cond-true (is_listed order shard) _ _ known)

pub added-new : (order : Order) (shard : ℕ) → is_listed order shard ≡ false → order ++ (record { 0 = shard }, Live) ∷ [] ≡ added order shard
added-new order shard new = sym (cond-false (is_listed order shard) _ _ new)

-- Where no later number is this one, a finalisation leaves the later entries.
finalised-past : (order : Order) (shard : ℕ) → AllByRecursion (λ n. eqb shard n ≡ false) (numbers order) → finalised order shard ≡ order
finalised-past [] shard past = refl
finalised-past (entry ∷ rest) shard past =
    ap (λ (e : Shard × State). e ∷ finalised rest shard) (cond-false (is_shard shard entry.0) (entry.0, Finalised) entry past.0)
    ∙ ap (λ (es : Order). entry ∷ es) (finalised-past rest shard past.1)

-- Where the numbers differ, one entry changes.
pub set_value-finalised : (order : Order) (shard : ℕ) → IsDistinct eqb (numbers order) → set_value (is_shard shard) order Finalised ≡ finalised order shard
set_value-finalised [] shard apart = refl
set_value-finalised (entry ∷ rest) shard apart =
    ⊎_elim
    (λ own.
    let same : shard ≡ number entry = eqb-true shard (number entry) own in
    let later : AllByRecursion (λ n. eqb shard n ≡ false) (numbers rest) =
    subst (λ (n : ℕ). AllByRecursion (λ m. eqb n m ≡ false) (numbers rest)) (sym same) (IsDistinct-head eqb (number entry) (numbers rest) apart) in
    cond-true (is_shard shard entry.0) _ _ own
    ∙ ap (λ (es : Order). (entry.0, Finalised) ∷ es) (sym (finalised-past rest shard later))
    ∙ ap (λ (e : Shard × State). e ∷ finalised rest shard) (sym (cond-true (is_shard shard entry.0) (entry.0, Finalised) entry own)))
    (λ other.
    cond-false (is_shard shard entry.0) _ _ other
    ∙ ap (λ (es : Order). entry ∷ es) (set_value-finalised rest shard (IsDistinct-tail eqb (number entry) (numbers rest) apart))
    ∙ ap (λ (e : Shard × State). e ∷ finalised rest shard) (sym (cond-false (is_shard shard entry.0) (entry.0, Finalised) entry other)))
    (cases_Bool (is_shard shard entry.0))

-- A shard that is not listed is not finalised.
pub finalised-absent : (order : Order) (shard : ℕ) → state_in_order order shard ≡ None → finalised order shard ≡ order
finalised-absent [] shard absent = refl
finalised-absent (entry ∷ rest) shard absent =
    ⊎_elim
    (λ own. let here : Some entry.1 ≡ None = rw own at absent in absurd (cc))
    (λ other.
    let later : state_in_order rest shard ≡ None = rw other at absent in
    ap (λ (e : Shard × State). e ∷ finalised rest shard) (cond-false (is_shard shard entry.0) (entry.0, Finalised) entry other)
    ∙ ap (λ (es : Order). entry ∷ es) (finalised-absent rest shard later))
    (cases_Bool (is_shard shard entry.0))

-- A finalisation keeps the numbers.
ended_entry-number : (shard : ℕ) (entry : Shard × State) → number (ended_entry shard entry) ≡ number entry
ended_entry-number shard entry =
    ⊎_elim
    (λ own. ap number (cond-true (is_shard shard entry.0) (entry.0, Finalised) entry own))
    (λ other. ap number (cond-false (is_shard shard entry.0) (entry.0, Finalised) entry other))
    (cases_Bool (is_shard shard entry.0))

pub numbers-finalised : (order : Order) (shard : ℕ) → numbers (finalised order shard) ≡ numbers order
numbers-finalised [] shard = refl
numbers-finalised (entry ∷ rest) shard =
    ap (λ (n : ℕ). n ∷ numbers (finalised rest shard)) (ended_entry-number shard entry)
    ∙ ap (λ (ns : List ℕ). number entry ∷ ns) (numbers-finalised rest shard)

All-below_finalised : (order : Order) (shard most : ℕ) → All (λ (entry : Shard × State). number entry < most) order
    → All (λ (entry : Shard × State). number entry < most) (finalised order shard)
All-below_finalised order shard most below =
    All-map (λ (entry : Shard × State). number entry < most) (ended_entry shard) order
    (All-weaker (λ (entry : Shard × State). number entry < most) (λ (entry : Shard × State). number (ended_entry shard entry) < most)
    (λ entry small. subst (λ (n : ℕ). n < most) (sym (ended_entry-number shard entry)) small) order below)

-- A number that is not listed is not among the numbers.
numbers-absent : (order : Order) (shard : ℕ) → is_listed order shard ≡ false → list_any (eqb shard) (numbers order) ≡ false
numbers-absent [] shard absent = refl
numbers-absent (entry ∷ rest) shard absent =
    ⊎_elim
    (λ own. let here : true ≡ false = rw own at absent in absurd (cc))
    (λ other.
    let later : is_listed rest shard ≡ false = rw other at absent in
    or_from _ _ other (numbers-absent rest shard later))
    (cases_Bool (is_shard shard entry.0))

-- The numbers are as far below a bound as the entries' are.
listed_below : (order : Order) (most q : ℕ) → All (λ (entry : Shard × State). number entry < most) order → list_any (eqb q) (numbers order) ≡ true → q < most
listed_below [] most q below found = absurd (cc)
listed_below (entry ∷ rest) most q below found =
    ⊎_elim
    (λ own.
    let first : number entry < most = All-head (λ (e : Shard × State). number e < most) entry rest below in
    let same : q ≡ number entry = eqb-true q (number entry) own in
    omega arith)
    (λ other.
    let later : list_any (eqb q) (numbers rest) ≡ true = rw other at found in
    listed_below rest most q (All-tail (λ (e : Shard × State). number e < most) entry rest below) later)
    (cases_Bool (eqb q (number entry)))

-- Distinct numbers below a bound are no more than the bound.
pub few : (order : Order) (most : ℕ) → IsDistinct eqb (numbers order) → All (λ (entry : Shard × State). number entry < most) order → length order ≤ most
few order most apart below =
    let size = length-le_from_distinct_below (numbers order) most apart (λ q found. listed_below order most q below found) in
    omega (arith, size, length-map order number)

-- One more shard below eight, which was not there, has room, and leaves room for the others.
pub HasRoomForEight-push : (order : Order) (room after shard : ℕ) → shard < 8 → is_listed order shard ≡ false → room ≤ after + 1
    → HasRoomForEight order room → HasRoomForEight (order ++ (record { 0 = shard }, Live) ∷ []) after × (0 < room)
HasRoomForEight-push order room after shard small absent used has =
    let new : Shard × State = (record { 0 = shard }, Live) in
    let apart : IsDistinct eqb (numbers (order ++ new ∷ [])) =
    subst (IsDistinct eqb) (sym (map-append number order (new ∷ [])))
    (IsDistinct-push nat_eq_equiv (numbers order) shard has.apart (numbers-absent order shard absent)) in
    let below : All (λ (entry : Shard × State). number entry < 8) (order ++ new ∷ []) = All-push (λ (entry : Shard × State). number entry < 8) order new has.below small in
    let size = length-append order (new ∷ []) in
    let most = few (order ++ new ∷ []) 8 apart below in
    (record { apart = apart; below = below; all_fit = omega (arith, size, has.all_fit) }, omega (arith, size, most, has.all_fit))

pub HasRoomForEight-finalised : (order : Order) (room shard : ℕ) → HasRoomForEight order room → HasRoomForEight (finalised order shard) room
HasRoomForEight-finalised order room shard has = record {
  apart = subst (IsDistinct eqb) (sym (numbers-finalised order shard)) has.apart;
  below = All-below_finalised order shard 8 has.below;
  all_fit = omega (arith, has.all_fit, length-map order (ended_entry shard));
}

pub HasRoomForEight-empty : (order : Order) (room : ℕ) → order ≡ [] → 8 ≤ room → HasRoomForEight order room
HasRoomForEight-empty order room none has = record {
  apart = subst (λ (es : Order). IsDistinct eqb (numbers es)) (sym none) nothing_apart;
  below = subst (All (λ (entry : Shard × State). number entry < 8)) (sym none) (All-nil (λ (entry : Shard × State). number entry < 8));
  all_fit = omega arith;
}

-- What holds where a result is `Ok` holds of one that is.
pub on_ok : {T E : Type 0} (result : Result T E) (P : Type 0) (value : T) → result ≡ Ok value → OnOk result P → P
on_ok (Ok other) P value is holds = holds
on_ok (Err error) P value is holds = absurd (cc)

-- what two shards are compared by
abbrev pub same_shard : Shard → Shard → Bool
same_shard one other = is_shard one.0 other

-- A shard that is not listed is inserted at the end.
pub insert_entry-absent : (order : Order) (shard : Shard) (state : State) → is_listed order shard.0 ≡ false
    → insert_entry same_shard order shard state ≡ order ++ (shard, state) ∷ []
insert_entry-absent [] shard state absent = refl
insert_entry-absent (entry ∷ rest) shard state absent =
    ⊎_elim
    (λ own. let here : true ≡ false = rw own at absent in absurd (cc))
    (λ other.
    let later : is_listed rest shard.0 ≡ false = rw other at absent in
    cond-false (is_shard shard.0 entry.0) _ _ other ∙ ap (λ (es : Order). entry ∷ es) (insert_entry-absent rest shard state later))
    (cases_Bool (is_shard shard.0 entry.0))
