-- A node of a list takes a turn: it is replaced, and the others stay.
use Rattle.std.proofs.Common.{◌≡◌, ◌<◌, ◌≤◌, ℕ, zero, suc, List, [], ◌∷◌, length, get_or, map, slice_get, Some, refl, sym, ap, subst, arith, ◌∙◌}
use Rattle.std.specs.Prelude.{Result, Ok, Err, IfOk, OnErr}
use Rattle.std.proofs.Math.ListN.{set}
use Rattle.std.proofs.Math.Seq.{map-set_same}
use Rattle.std.proofs.lemmas.List.{map-set}
use Rattle.std.proofs.lemmas.Option.{same_Some}
use Rattle.history_frame.specs.declared.events.Happened.{Happened}
use Rattle.history_frame.specs.declared.inputs.Input.{Input}
use Rattle.node_model.specs.Machine.{ClusterNode, node_meanings}
use Rattle.quiet_run.specs.Turns.{IsAt, TakesTurn}

module _ {A : Type 0} (state : A → ClusterNode) where
  -- the state of an element
  pub state_at : (nodes : List A) (n : ℕ) (d : A) → n < length nodes → slice_get (map state nodes) n ≡ Some (state (get_or nodes n d))
  state_at [] n d h = absurd (omega arith)
  state_at (x ∷ nodes) zero d h = refl
  state_at (x ∷ nodes) (suc n) d h = state_at nodes n d (omega arith)

  module _ (nodes : List A) (n k : ℕ) (d : A) (same : k ≡ n) (within : n < length nodes) (input : Input) where
    here : slice_get (map state nodes) n ≡ Some (state (get_or nodes k d))
    here = subst (λ (i : ℕ). slice_get (map state nodes) n ≡ Some (state (get_or nodes i d))) (sym same) (state_at nodes n d within)

    pub fits_here : IsAt (map state nodes) n input → node_meanings.fits (state (get_or nodes k d)) input
    fits_here at = subst (λ (x : ClusterNode). node_meanings.fits x input) (same_Some at.node (state (get_or nodes k d)) (sym at.at ∙ here)) at.fits

    set_here : (new : A) → map state (set nodes k new) ≡ set (map state nodes) n (state new)
    set_here new = map-set state nodes k new ∙ ap (λ (i : ℕ). set (map state nodes) i (state new)) same

    module _ {E : Type 0} (result : Result Happened E) (new : A) where
      pub turn_taken : IfOk result (λ happened. happened.input ≡ input)
          → IfOk result (λ happened. node_meanings.is_row (state (get_or nodes k d)) happened)
          → IfOk result (λ happened. state new ≡ node_meanings.after (state (get_or nodes k d)) happened)
          → IfOk result (λ happened. length happened.outputs ≤ 255)
          → IfOk result (λ happened. node_meanings.size happened ≤ 2097152)
          → IfOk result (λ happened. TakesTurn n input happened (map state nodes) (map state (set nodes k new)))
      turn_taken i r a f s = at result i r a f s
        where
          at : (out : Result Happened E) → IfOk out (λ happened. happened.input ≡ input)
              → IfOk out (λ happened. node_meanings.is_row (state (get_or nodes k d)) happened)
              → IfOk out (λ happened. state new ≡ node_meanings.after (state (get_or nodes k d)) happened)
              → IfOk out (λ happened. length happened.outputs ≤ 255)
              → IfOk out (λ happened. node_meanings.size happened ≤ 2097152)
              → IfOk out (λ happened. TakesTurn n input happened (map state nodes) (map state (set nodes k new)))
          at (Ok happened) i r a f s = record {
            node = state (get_or nodes k d);
            at = here;
            input_is = i;
            row = r;
            few = f;
            size = s;
            after = set_here new ∙ ap (λ (x : ClusterNode). set (map state nodes) n x) a;
          }
          at (Err e) i r a f s = tt

      pub none_taken : OnErr result (state new ≡ state (get_or nodes k d)) → OnErr result (map state (set nodes k new) ≡ map state nodes)
      none_taken h = at result h
        where
          at : (out : Result Happened E) → OnErr out (state new ≡ state (get_or nodes k d)) → OnErr out (map state (set nodes k new) ≡ map state nodes)
          at (Ok happened) h = tt
          at (Err e) h = map-set_same state nodes k new d h
