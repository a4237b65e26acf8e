-- Passes that are handed out in order, and handed back in the same order.
use Rattle.std.proofs.Common.{◌≡◌, ℕ, ◌+◌, ◌<◌, ◌≤◌, ⊎_elim, List, map, length, Some, slice_get, sym, ap, ◌∙◌, subst, arith}
use Rattle.std.specs.Prelude.{get_or}
use Rattle.std.specs.Option.{option_map}
use Rattle.std.proofs.lemmas.Bool.{cases_lt}
use Rattle.std.proofs.lemmas.Option.{none-some, same_Some, slice_get-map, slice_get-get_or, slice_get_cases}
use lib.ListN.{length-map}
use Rattle.atomic_table.specs.Seated.{TableId}
use Rattle.atomic_table.specs.declared.shared.Seat.{Seat}
use Rattle.tied_cells.specs.declared.account.Account.{Account}
use Rattle.tied_cells.specs.declared.board.Stored.{Stored}
use Rattle.tied_cells.specs.declared.board.Deal.{Deal}
use Rattle.tied_cells.specs.declared.board.Own.{Own}
use Rattle.tied_cells.specs.declared.board.View.{View}
use Rattle.tied_cells.specs.Turns.{HoldsNothing}
use Rattle.tied_cells.specs.Opening.{ArePasses}
use Rattle.tied_cells.specs.Closing.{AreBack}

module _ {A S H X : Type 0} (f : X → Seat (Stored A H) (View S H) × Account) (table : TableId) where
  -- the pass is of the table, it has this number and nothing in hand
  abbrev pub IsIdle : ℕ → Seat (Stored A H) (View S H) × Account → Type 0
  IsIdle k pass = (pass.0.table_id ≡ table) × HoldsNothing pass.0.me × (pass.1.number ≡ k)

  pub idle_first : (deal : Deal S) (own : List (Own H)) (bytes room : ℕ) (xs : List X) → ArePasses table deal own bytes room (map f xs) → (k : ℕ) (d : X) → k < length xs → IsIdle k (f (get_or xs k d))
  idle_first deal own bytes room xs p k d below =
      let x = f (get_or xs k d) in
      let at : slice_get (map f xs) k ≡ Some x = slice_get-map f xs k ∙ ap (option_map f) (slice_get-get_or xs k d below) in
      ⊎_elim (λ (l : k + 1 < deal.passes). let n = p.others k x at l in (p.tables k x at, (n.turn_is, n.slots_are), ap (λ account. account.number) n.account_is))
      (λ (l : deal.passes ≤ k + 1). let many = p.as_many in let mapped = length-map xs f in
      let n = p.last k x at (omega arith) in (p.tables k x at, (n.turn_is, n.slots_are), ap (λ account. account.number) n.account_is))
      (cases_lt (k + 1) deal.passes)

  pub idle_back : (count : ℕ) (xs : List X) → length xs ≡ count → ((k : ℕ) (d : X) → k < length xs → IsIdle k (f (get_or xs k d))) → AreBack table count (map f xs)
  idle_back count xs many idle = record {
    of_these = λ k pass h. (one k pass h).0;
    no_turn = λ k pass h. (one k pass h).1;
    all_there = λ number below. ⊎_elim (λ t. (number, f t.0, slice_get-map f xs number ∙ ap (option_map f) t.2, (one number (f t.0) (slice_get-map f xs number ∙ ap (option_map f) t.2)).2))
        (λ t. let l = t.0 in absurd (omega arith)) (slice_get_cases xs number).1;
  }
    where
      one : (k : ℕ) (pass : Seat (Stored A H) (View S H) × Account) → slice_get (map f xs) k ≡ Some pass → IsIdle k pass
      one k pass h = ⊎_elim
          (λ t. subst (IsIdle k) (same_Some (f t.0) pass (sym (slice_get-map f xs k ∙ ap (option_map f) t.2) ∙ h)) (subst (λ x. IsIdle k (f x)) t.3 (idle k t.0 t.1)))
          (λ t. absurd (none-some pass (sym (slice_get-map f xs k ∙ ap (option_map f) t.1) ∙ h)))
          (slice_get_cases xs k).1
