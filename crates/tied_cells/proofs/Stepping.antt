-- A step that a machine made under a turn.
use Rattle.std.proofs.Common.{◌≡◌, ℕ, List, map, slice_get, sym, ap, ◌∙◌, subst}
use Rattle.log_base.specs.Machines.{Meanings, state_after}
use Rattle.log_base.specs.declared.machine.Committed.{Committed}
use Rattle.tied_cells.specs.declared.board.View.{View}
use Rattle.tied_cells.specs.History.{happened_of, StandsAfter}
use Rattle.tied_cells.specs.Turns.{IsLastFetched, Steps}

module _ {A S I H : Type 0} (state : A → S) (m : Meanings S I H) where
  pub stepped : (starts : List S) (view : View S H) (node node' : ℕ) (es es' : List (Committed H)) (first before after : A) (input : I) (happened : H) → StandsAfter state m starts node first es → view.deal.starts ≡ starts → node' ≡ node → es' ≡ es
      → state before ≡ state first → ((s : S) → m.fits s input) → m.input happened ≡ input → m.is_row (state before) happened → state after ≡ m.after (state before) happened
      → IsLastFetched node' (m.delivers (m.input happened)) view.fetched
      → (steps : Steps m view (record { node = node'; events = es' }) happened) × (state after ≡ m.after (state_after m steps.start (map happened_of es')) happened)
  stepped starts view node node' es es' first before after input happened stood deal at same was fits said row now delivered =
      let here : state before ≡ state_after m stood.0 (map happened_of es') = was ∙ (stood.2 ∙ ap (λ (l : List (Committed H)). state_after m stood.0 (map happened_of l)) (sym same)) in (
        record {
          start = stood.0;
          starts_so = (λ i. slice_get (deal i) (at i)) ∙ stood.1;
          fits = subst (m.fits (state_after m stood.0 (map happened_of es'))) (sym said) (fits (state_after m stood.0 (map happened_of es')));
          row = subst (λ (s : S). m.is_row s happened) here row;
          delivered = delivered;
        },
        now ∙ ap (λ (s : S). m.after s happened) here,
      )
