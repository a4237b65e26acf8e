-- What the opening leaves: events, and machines.
use Rattle.std.proofs.Common.{◌≡◌, ℕ, zero, suc, ◌+◌, true, false, List, [], ◌∷◌, ◌++◌, map, length, take, Result, Ok, Err, OnOk, OnErr, is_err, Some, slice_get, refl, sym, ap, ◌∙◌}
use Rattle.std.proofs.lemmas.Option.{slice_get-map, none-some, same_Some}
use Rattle.std.specs.Option.{option_map}
use lib.ListN.{length-map}
use Rattle.log_base.specs.Machines.{Meanings, Event, of_node, state_after}
use Rattle.log_base.specs.declared.numbers.NodeId.{NodeId}
use Rattle.log_base.proofs.Legal.{legal_none}
use Rattle.tied_cells.specs.declared.board.Cell.{Cell}
use Rattle.tied_cells.specs.declared.board.Stored.{Stored}
use Rattle.tied_cells.specs.declared.board.Opened.{Opened}
use Rattle.tied_cells.specs.Rule.{opened_from}
use Rattle.tied_cells.specs.Sizes.{sizes_of}
use Rattle.tied_cells.specs.Opening.{asked_by, sizes_of_events, opened_event, owns_from, laid, machines_in, AreLeft, IsOpening}
use Rattle.tied_cells.proofs.Starts.{stands_at}
use Rattle.tied_cells.proofs.Layouts.{machines_of_homes, homes_in_front}

pub when_ok : {T E P : Type 0} (r : Result T E) → is_err r ≡ false → OnOk r P → P
when_ok (Ok x) e p = p
when_ok (Err x) e p = cc

pub when_err : {T E P : Type 0} (r : Result T E) → is_err r ≡ true → OnErr r P → P
when_err (Ok x) e p = cc
when_err (Err x) e p = p

module _ {S I H : Type 0} (m : Meanings S I H) where
  pub sizes_opened : (place : ℕ) (made : List (Opened H)) → sizes_of m (opened_from place made) ≡ sizes_of_events m (map opened_event made)
  sizes_opened place [] = refl
  sizes_opened place (o ∷ made) = ap (λ (n : ℕ). m.size o.happened.value + n) (sizes_opened (suc place) made)

module _ {H : Type 0} where
  pub owns_opened : (place : ℕ) (made : List (Opened H)) → opened_from place made ≡ owns_from place (map opened_event made)
  owns_opened place [] = refl
  owns_opened place (o ∷ made) = ap (λ (l : List _). record { place = place; node = o.node; happened = o.happened.value } ∷ l) (owns_opened (suc place) made)

module _ {A S I H : Type 0} (state : A → S) (m : Meanings S I H) (starts : List S) where
  pub made_many : (done : List (NodeId × I)) (slots : List (Stored A H)) (made : List (Opened H)) → IsOpening state m starts done slots made → length made ≡ length done
  made_many done slots made o = sym (ap length o.asked ∙ (length-map (map opened_event made) (asked_by m) ∙ length-map made opened_event))

  pub left_so : (opening done rest : List (NodeId × I)) (slots : List (Stored A H)) (made : List (Opened H)) (machines : List A) (nodes : ℕ) → opening ≡ done ++ rest → IsOpening state m starts done slots made
      → nodes ≡ length starts → machines ≡ machines_in (take nodes slots) → AreLeft state m starts opening machines
  left_so opening done rest slots made machines nodes split o nodes_are machines_are =
      let all : machines ≡ map (λ (cell : Cell A H). cell.machine) o.cells = machines_are ∙ ((λ i. machines_in (take nodes (o.laid_so i)))
      ∙ (ap machines_in (homes_in_front o.cells nodes (nodes_are ∙ sym o.opened.as_many)) ∙ machines_of_homes o.cells)) in
      record {
        log = map opened_event made;
        rest = rest;
        begins = split ∙ ap (λ (l : List (NodeId × I)). l ++ rest) o.asked;
        legal = o.opened.legal;
        as_many = ap length all ∙ (length-map o.cells (λ (cell : Cell A H). cell.machine) ∙ o.opened.as_many);
        each = λ n machine at. machine_stands o.cells (map opened_event made) n machine o.opened (ap (λ (l : List A). slice_get l n) (sym all) ∙ at);
      }
    where
      from_map : (cells : List (Cell A H)) (n : ℕ) (machine : A) → slice_get (map (λ (cell : Cell A H). cell.machine) cells) n ≡ Some machine → (cell : Cell A H) × (slice_get cells n ≡ Some cell) × (cell.machine ≡ machine)
      from_map [] n machine h = absurd (none-some machine h)
      from_map (cell ∷ cells) zero machine h = (cell, refl, same_Some cell.machine machine h)
      from_map (cell ∷ cells) (suc n) machine h = from_map cells n machine h

      machine_stands : (cells : List (Cell A H)) (log : List (Event H)) (n : ℕ) (machine : A) → Rattle.tied_cells.specs.Opening.AreOpened state m starts cells log
          → slice_get (map (λ (cell : Cell A H). cell.machine) cells) n ≡ Some machine → (start : S) × (slice_get starts n ≡ Some start) × (state machine ≡ state_after m start (of_node n log))
      machine_stands cells log n machine o at = let c = from_map cells n machine at in let s = stands_at state m starts cells log o n c.0 c.1 in (s.0, s.1, ap state (sym c.2) ∙ s.2)

pub left_none : {A S I H : Type 0} (state : A → S) (m : Meanings S I H) (opening : List (NodeId × I)) (machines : List A) → AreLeft state m (map state machines) opening machines
left_none state m opening machines = record {
  log = [];
  rest = opening;
  begins = refl;
  legal = legal_none m (map state machines);
  as_many = sym (length-map machines state);
  each = λ n machine at. (state machine, slice_get-map state machines n ∙ ap (option_map state) at, refl);
}
