-- Cells in slots, one more at the end.
use Rattle.std.proofs.Common.{◌≡◌, ℕ, zero, suc, ◌+◌, ◌*◌, ⊎_elim, List, [], ◌∷◌, ◌++◌, map, length, replicate, take, Some, slice_get, refl, sym, ap, ◌∙◌, subst, arith, length-append, append_assoc}
use Rattle.std.proofs.lemmas.Option.{none-some, slice_get_within}
use lib.ListN.{length-map}
use lib.Seq.{take-append_seam}
use Rattle.log_base.proofs.Legal.{at_push, at_longer}
use Rattle.tied_cells.specs.declared.board.Cell.{Cell}
use Rattle.tied_cells.specs.declared.board.Stored.{Stored}
use Rattle.tied_cells.specs.declared.board.Stored.TheVariants.{Nothing, Home, Mail, Said}
use Rattle.tied_cells.specs.Opening.{AreFresh, machines_in, laid}
use Rattle.tied_cells.proofs.Tries.{at_end}

pub replicate_more : {X : Type 0} (n : ℕ) (x : X) → replicate n x ++ x ∷ [] ≡ replicate (suc n) x
replicate_more zero x = refl
replicate_more (suc n) x = ap (λ (l : List _). x ∷ l) (replicate_more n x)

module _ {A H : Type 0} where
  pub fresh_none : AreFresh {A = A} {H = H} [] []
  fresh_none = record { as_many = refl; each = λ n cell h. absurd (none-some cell h) }

  pub fresh_more : (machines : List A) (cells : List (Cell A H)) (machine : A) (cell : Cell A H) → AreFresh machines cells → cell.machine ≡ machine → cell.events.items ≡ []
      → AreFresh (machines ++ machine ∷ []) (cells ++ cell ∷ [])
  fresh_more machines cells machine cell f is none = record {
    as_many = length-append cells (cell ∷ []) ∙ (ap (λ (n : ℕ). n + 1) f.as_many ∙ sym (length-append machines (machine ∷ [])));
    each = λ n c at. ⊎_elim
        (λ (p : (slice_get cells n ≡ Some c) × _). let e = f.each n c p.0 in ((at_longer machines (machine ∷ []) n c.machine e.0).0, e.1))
        (λ (p : (cell ≡ c) × (take n (cells ++ cell ∷ []) ≡ cells)). let here : n ≡ length machines = place n c at p.1 ∙ f.as_many in
        (at_end machines machine n here ∙ (λ i. Some (sym is i)) ∙ (λ i. Some (p.0 i).machine), subst (λ (x : Cell A H). x.events.items ≡ []) p.0 none))
        (at_push cells cell n c at);
  }
    where
      place : (n : ℕ) (c : Cell A H) → slice_get (cells ++ cell ∷ []) n ≡ Some c → take n (cells ++ cell ∷ []) ≡ cells → n ≡ length cells
      place n c at e =
          let within = slice_get_within (cells ++ cell ∷ []) n c at in let long = length-append cells (cell ∷ []) in
          let taken : length (take n (cells ++ cell ∷ [])) ≡ n = lib.Seq.length-take-le n (cells ++ cell ∷ []) (omega arith) in
          sym taken ∙ ap length e

  pub machines_push_home : (slots : List (Stored A H)) (cell : Cell A H) → machines_in (slots ++ Home cell ∷ []) ≡ machines_in slots ++ cell.machine ∷ []
  machines_push_home [] cell = refl
  machines_push_home (Home c ∷ slots) cell = ap (λ (l : List A). c.machine ∷ l) (machines_push_home slots cell)
  machines_push_home (Nothing ∷ slots) cell = machines_push_home slots cell
  machines_push_home (Mail letter ∷ slots) cell = machines_push_home slots cell
  machines_push_home (Said happened ∷ slots) cell = machines_push_home slots cell

  pub machines_push_else : (slots : List (Stored A H)) (stored : Stored A H) → ((cell : Cell A H) → stored ≡ Home cell → ⊥) → machines_in (slots ++ stored ∷ []) ≡ machines_in slots
  machines_push_else [] (Home c) h = absurd (h c refl)
  machines_push_else [] Nothing h = refl
  machines_push_else [] (Mail letter) h = refl
  machines_push_else [] (Said happened) h = refl
  machines_push_else (Home c ∷ slots) stored h = ap (λ (l : List A). c.machine ∷ l) (machines_push_else slots stored h)
  machines_push_else (Nothing ∷ slots) stored h = machines_push_else slots stored h
  machines_push_else (Mail letter ∷ slots) stored h = machines_push_else slots stored h
  machines_push_else (Said happened ∷ slots) stored h = machines_push_else slots stored h

  machine_of : Cell A H → A
  machine_of cell = cell.machine

  pub machines_of_homes : (cells : List (Cell A H)) → machines_in (map Home cells) ≡ map (λ (cell : Cell A H). cell.machine) cells
  machines_of_homes [] = refl
  machines_of_homes (cell ∷ cells) = ap (λ (l : List A). cell.machine ∷ l) (machines_of_homes cells)

  -- the cells are in front
  pub homes_in_front : (cells : List (Cell A H)) (n : ℕ) → n ≡ length cells → take n (laid cells) ≡ map Home cells
  homes_in_front cells n e = ap (λ (k : ℕ). take k (laid cells)) (e ∙ sym (length-map cells Home)) ∙ take-append_seam (map Home cells) (replicate (16 * length cells) Nothing)

  pub took_home : (old mid new : List A) (slots before : List (Stored A H)) (stored : Stored A H) (cell : Cell A H) (machine : A) → slots ≡ before ++ stored ∷ [] → stored ≡ Home cell → cell.machine ≡ machine
      → mid ≡ old ++ machines_in before → new ≡ mid ++ machine ∷ [] → new ≡ old ++ machines_in slots
  took_home old mid new slots before stored cell machine split is machine_is mid_is new_is =
      new_is ∙ ((λ i. mid_is i ++ sym machine_is i ∷ []) ∙ (append_assoc old (machines_in before) (cell.machine ∷ [])
      ∙ ap (λ (l : List A). old ++ l) (sym (machines_push_home before cell) ∙ ((λ i. machines_in (before ++ sym is i ∷ [])) ∙ ap machines_in (sym split)))))

  pub took_else : (old mid : List A) (slots before : List (Stored A H)) (stored : Stored A H) → slots ≡ before ++ stored ∷ [] → ((cell : Cell A H) → stored ≡ Home cell → ⊥)
      → mid ≡ old ++ machines_in before → mid ≡ old ++ machines_in slots
  took_else old mid slots before stored split else mid_is = mid_is ∙ ap (λ (l : List A). old ++ l) (sym (machines_push_else before stored else) ∙ ap machines_in (sym split))
