-- The greatest position after notes is one of those noted, and none of them is greater.
use Rattle.std.proofs.Common.{◌≡◌, suc, ◌<◌, ◌≤◌, ◌⊎◌, Bool, true, false, cond, ltb, List, [], ◌∷◌, Option, Some, None, refl, sym, ap, subst, inl, inr, ⊎_elim, arith}
use Rattle.std.specs.List.{All, Contains}
use Rattle.std.specs.Option.{MatchOption}
use Rattle.std.proofs.lemmas.Bool.{ltb-true, ltb-false}
use Rattle.std.proofs.lemmas.List.Elements.{All-cons, All-nil}
use Rattle.log_base.specs.declared.numbers.Position.{Position}
use Rattle.client_session.specs.Sessions.{Drawing, after_note, after_notes, greater_of}

-- the greatest of a position and others
record Greatest (before : Position) (positions : List Position) (greatest : Position) : Type 0 where
  one_of : (greatest ≡ before) ⊎ Contains positions greatest
  above : before.0 ≤ greatest.0
  all : All (λ (position : Position). position.0 ≤ greatest.0) positions

first_of_list : (x y : Position) (xs : List Position) → x ≡ y → Contains (y ∷ xs) x
first_of_list x y xs same = (0, omega arith, sym same)

later_in_list : (x y : Position) (xs : List Position) → Contains xs x → Contains (y ∷ xs) x
later_in_list x y xs (k, below, is) = (suc k, omega arith, is)

-- one more position stands before the others
one_more : (above : Bool) (before position : Position) (positions : List Position) (greatest : Position)
    → (above ≡ true → before.0 < position.0) → (above ≡ false → position.0 ≤ before.0)
    → Greatest (cond above position before) positions greatest
    → (Greatest before (position ∷ positions) greatest)
one_more true before position positions greatest less not_less rest =
    let below : before.0 < position.0 = less refl in
    let above : position.0 ≤ greatest.0 = rest.above in
    record {
      one_of = inr (⊎_elim (first_of_list greatest position positions) (later_in_list greatest position positions) rest.one_of);
      above = omega arith;
      all = All-cons (λ (one : Position). one.0 ≤ greatest.0) position positions above rest.all;
    }
one_more false before position positions greatest less not_less rest =
    let below : position.0 ≤ before.0 = not_less refl in
    let above : before.0 ≤ greatest.0 = rest.above in
    record {
      one_of = ⊎_elim (λ same. inl same) (λ listed. inr (later_in_list greatest position positions listed)) rest.one_of;
      above = above;
      all = All-cons (λ (one : Position). one.0 ≤ greatest.0) position positions (omega arith) rest.all;
    }

-- from a session that has noted one position
from_one : (session : Drawing) (before : Position) (positions : List Position) → session.greatest ≡ Some before
    → (greatest : Position) × ((after_notes session positions).greatest ≡ Some greatest) × Greatest before positions greatest
from_one session before [] noted =
    (before, noted, record { one_of = inl refl; above = omega arith; all = All-nil (λ (one : Position). one.0 ≤ before.0) })
from_one session before (position ∷ positions) noted =
    let next : Position = greater_of (Some before) position in
    let told : (after_note session position).greatest ≡ Some next = ap (λ (o : Option Position). Some (greater_of o position)) noted in
    let rest = from_one (after_note session position) next positions told in
    (rest.0, rest.1, one_more (ltb before.0 position.0) before position positions rest.0 (ltb-true before.0 position.0) (ltb-false before.0 position.0) rest.2)

pub greatest_noted : (session : Drawing) (positions : List Position) → session.greatest ≡ None
    → MatchOption (after_notes session positions).greatest (positions ≡ [])
    (λ (greatest : Position). Contains positions greatest × All (λ (position : Position). position.0 ≤ greatest.0) positions)
greatest_noted session [] none =
    let empty : List Position = [] in
    subst (λ (o : Option Position). MatchOption o (empty ≡ []) (λ (greatest : Position). Contains [] greatest × All (λ (position : Position). position.0 ≤ greatest.0) [])) (sym none) refl
greatest_noted session (position ∷ positions) none =
    let told : (after_note session position).greatest ≡ Some position = ap (λ (o : Option Position). Some (greater_of o position)) none in
    let rest = from_one (after_note session position) position positions told in
    let all : All (λ (one : Position). one.0 ≤ rest.0.0) (position ∷ positions) = All-cons (λ (one : Position). one.0 ≤ rest.0.0) position positions rest.2.above rest.2.all in
    let listed : Contains (position ∷ positions) rest.0 = ⊎_elim (first_of_list rest.0 position positions) (later_in_list rest.0 position positions) rest.2.one_of in
    subst (λ (o : Option Position). MatchOption o (position ∷ positions ≡ [])
    (λ (greatest : Position). Contains (position ∷ positions) greatest × All (λ (one : Position). one.0 ≤ greatest.0) (position ∷ positions))) (sym rest.1) (listed, all)
