-- Cells that were taken out of their slots.
use Rattle.std.proofs.Common.{◌≡◌, ℕ, zero, suc, ◌+◌, ◌<◌, ◌≤◌, Bool, false, ⊎_elim, List, [], ◌∷◌, ◌++◌, set, get_or, refl, sym, ap, ◌∙◌, arith, length-append}
use Rattle.std.proofs.lemmas.Bool.{cases_lt}
use mathlib.Core.Option.{some, some-injective}
use lib.ListN.{get_elem?}
use Rattle.log_base.specs.declared.machine.Committed.{Committed}
use Rattle.log_base.proofs.Legal.{at_longer}
use Rattle.tied_cells.specs.declared.board.Cell.{Cell}
use Rattle.tied_cells.specs.declared.board.Stored.{Stored}
use Rattle.tied_cells.specs.declared.board.Stored.TheVariants.{Home}
use Rattle.tied_cells.specs.Closing.{AreTaken}
use Rattle.tied_cells.proofs.Tries.{at_end}

-- a slot that was emptied is empty
pub set_false : (filled : List Bool) (k : ℕ) → get_or (set filled k false) k false ≡ false
set_false [] k = refl
set_false (b ∷ filled) zero = refl
set_false (b ∷ filled) (suc k) = set_false filled k

module _ {A H : Type 0} where
  pub taken_none : (slots : List (Stored A H)) → AreTaken 0 slots [] []
  taken_none slots = record { machines_are = refl; lists_are = refl; each = λ node below. absurd (omega arith) }

  pub taken_more : (n : ℕ) (slots : List (Stored A H)) (machines : List A) (lists : List (List (Committed H))) (cell : Cell A H) → AreTaken n slots machines lists → get_elem? slots n ≡ some (Home cell)
      → AreTaken (n + 1) slots (machines ++ cell.machine ∷ []) (lists ++ cell.events.items ∷ [])
  taken_more n slots machines lists cell t at = record {
    machines_are = length-append machines (cell.machine ∷ []) ∙ ap (λ (k : ℕ). k + 1) t.machines_are;
    lists_are = length-append lists (cell.events.items ∷ []) ∙ ap (λ (k : ℕ). k + 1) t.lists_are;
    each = λ node below. ⊎_elim
        (λ (l : node < n). let e = t.each node l in (e.0, e.1, (at_longer machines (cell.machine ∷ []) node e.0.machine e.2).0, (at_longer lists (cell.events.items ∷ []) node e.0.events.items e.3).0))
        (λ (l : n ≤ node). let here : node ≡ n = omega arith in
        (cell, ap (get_elem? slots) here ∙ at, at_end machines cell.machine node (here ∙ sym t.machines_are), at_end lists cell.events.items node (here ∙ sym t.lists_are)))
        (cases_lt node n);
  }

  pub same_home : (slots again : List (Stored A H)) (n : ℕ) (stored : Stored A H) (cell : Cell A H) → again ≡ slots → get_elem? again n ≡ some stored → get_elem? slots n ≡ some (Home cell) → stored ≡ Home cell
  same_home slots again n stored cell same a b = some-injective stored (Home cell) (sym a ∙ (ap (λ (l : List (Stored A H)). get_elem? l n) same ∙ b))
