-- The passes that a cluster is begun with are its passes.
use Rattle.std.proofs.Common.{◌≡◌, ◌<◌, ◌≤◌, ℕ, zero, suc, ◌+◌, List, [], ◌∷◌, length, map, slice_get, Some, refl, sym, ap, ◌∙◌, subst, ⊎_elim, arith}
use Rattle.std.proofs.lemmas.Bool.{cases_lt}
use Rattle.std.proofs.lemmas.Option.{slice_get_within}
use Rattle.atomic_table.specs.Seated.{TableId}
use Rattle.counted_node.specs.Counted.{CountedState, counted_meanings, node_in}
use Rattle.history_frame.specs.declared.events.Happened.{Happened}
use Rattle.history_frame.specs.declared.inputs.Input.{Input}
use Rattle.log_base.specs.ClusterShape.{InRange, Shape}
use Rattle.log_base.specs.Machines.{Event, IsLegal}
use Rattle.log_base.specs.declared.numbers.NodeId.{NodeId}
use Rattle.node_model.specs.NodeState.{KeptLists}
use Rattle.tied_cells.specs.Opening.{ArePasses, IsNew, asked_by, owns_from}
use Rattle.tied_cells.specs.declared.account.Account.{Account}
use Rattle.tied_cells.specs.declared.board.Deal.{Deal}
use Rattle.tied_cells.specs.declared.board.Own.{Own}
use Rattle.cluster.specs.Clusters.{AllFit, AreFirst, IsPassOf, PassSeat}
use Rattle.cluster.specs.Opening.{AreHandedOut, opening, opening_room}
use Rattle.cluster.specs.Submitting.{SubmitsAlone}
use Rattle.cluster.proofs.Fitting.{fit_none}
use Rattle.cluster.proofs.Openings.{opening_fits, opening_submits}
use Rattle.cluster.proofs.Submits.{alone_none}

module _ {A : Type 0} (config : Shape) (deal : Deal CountedState) (table : TableId) (room : ℕ) (passes : List (PassSeat A × Account)) where
  pub handed_out : (asked : List (NodeId × Input)) → asked ≡ opening config
      → ((log : List (Event Happened)) × (asked ≡ map (asked_by counted_meanings) log) × IsLegal counted_meanings deal.starts log × ArePasses table deal (owns_from 0 log) opening_room room passes)
      → AreHandedOut config deal table room passes
  handed_out asked is made = record { log = made.0; asked = sym made.1 ∙ is; legal = made.2; passes_are = made.3 }

  module _ (run : ℕ) (kept : KeptLists) (range : InRange config) (first : AreFirst config kept (map node_in deal.starts)) where
    new_is : (number k : ℕ) (own : List (Own Happened)) (bytes : ℕ) (pass : PassSeat A × Account) → pass.0.table_id ≡ table → pass.0.me.0.number ≡ number
        → IsNew deal k own bytes room pass.0.me pass.1 → ((n : ℕ) → SubmitsAlone run n own) → AllFit own → IsPassOf config run kept table number pass.0
    new_is number k own bytes pass here number_is new alone fit = record {
      table_is = here;
      number_is = number_is;
      first = subst (λ (d : Deal CountedState). AreFirst config kept (map node_in d.starts)) (sym new.deal_is) first;
      free = (new.turn_is, new.slots_are);
      submits = subst (SubmitsAlone run number) (sym new.own_is) (alone number);
      fit = subst AllFit (sym new.own_is) fit;
    }

    pub passes_begin : AreHandedOut config deal table room passes → (k : ℕ) (pass : PassSeat A × Account) → slice_get passes k ≡ Some pass
        → pass.0.me.0.number ≡ pass.1.number → IsPassOf config run kept table k pass.0
    passes_begin handed k pass there number_is =
        let here = handed.passes_are.tables k pass there in
        let size = handed.passes_are.as_many in let within = slice_get_within passes k pass there in
        ⊎_elim
        (λ (before : k + 1 < deal.passes). new_is k k [] 0 pass here (number_is ∙ ap (λ (a : Account). a.number) (handed.passes_are.others k pass there before).account_is) (handed.passes_are.others k pass there before) (λ n. alone_none run n) fit_none)
        (λ (last : deal.passes ≤ k + 1). let at : k + 1 ≡ deal.passes = omega arith in
        new_is k k (owns_from 0 handed.log) opening_room pass here (number_is ∙ ap (λ (a : Account). a.number) (handed.passes_are.last k pass there at).account_is) (handed.passes_are.last k pass there at) (λ n. opening_submits config run n handed.log handed.asked) (opening_fits config kept range deal.starts first handed.log handed.legal handed.asked))
        (cases_lt (k + 1) deal.passes)

-- there is an element at each index of a list
pub got_at : {X : Type 0} (xs : List X) (k : ℕ) → k < length xs → (x : X) × (slice_get xs k ≡ Some x)
got_at [] k below = absurd (omega arith)
got_at (x ∷ xs) zero below = (x, refl)
got_at (x ∷ xs) (suc k) below = got_at xs k (omega arith)

-- passes in order of their numbers are all there
module _ {A X : Type 0} (config : Shape) (run : ℕ) (kept : KeptLists) (table : TableId) (seat : X → PassSeat A) (account : X → Account)
    (same : (pass : X) → (seat pass).me.0.number ≡ (account pass).number) (passes : List X)
    (each : (k : ℕ) (pass : X) → slice_get passes k ≡ Some pass → IsPassOf config run kept table k (seat pass)) where
  number_at : (k : ℕ) (pass : X) → slice_get passes k ≡ Some pass → (account pass).number ≡ k
  number_at k pass there = sym (same pass) ∙ (each k pass there).number_is

  pub passes_back : (k : ℕ) (pass : X) → slice_get passes k ≡ Some pass → IsPassOf config run kept table (account pass).number (seat pass)
  passes_back k pass there = subst (λ (n : ℕ). IsPassOf config run kept table n (seat pass)) (sym (number_at k pass there)) (each k pass there)

  pub all_back : (count : ℕ) → length passes ≡ count → (number : ℕ) → number < count
      → (k : ℕ) × (pass : X) × (slice_get passes k ≡ Some pass) × ((account pass).number ≡ number)
  all_back count size number below =
      let within : number < length passes = omega arith in
      let got = got_at passes number within in
      (number, got.0, got.1, number_at number got.0 got.1)
