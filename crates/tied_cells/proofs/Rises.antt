-- Places rise in the lists of a history, and each place stands in the lists of the nodes once.
use Rattle.std.proofs.Common.{◌≡◌, ℕ, zero, suc, ◌+◌, ◌<◌, ◌≤◌, Bool, true, false, cond, ⊎_elim, List, [], ◌∷◌, map, length, Some, slice_get, eq-eqb, eqb-true, refl, sym, ap, ◌∙◌, arith}
use Rattle.std.proofs.lemmas.Bool.{cases_order}
use Rattle.std.proofs.lemmas.Option.{none-some, same_Some, slice_get-map, slice_get_within}
use Rattle.std.specs.Option.{option_map}
use Rattle.log_base.specs.declared.machine.Committed.{Committed}
use Rattle.tied_cells.specs.declared.board.Own.{Own}
use Rattle.tied_cells.specs.History.{Entry, own_of, picked, is_made_by, is_at, own_list, committed_of, cell_list}
use Rattle.tied_cells.specs.Closing.{StandsIn, StandOnce, PlacesRise, OwnRises}
use Rattle.tied_cells.proofs.Picked.{picked_stands, stands_picked}
use Rattle.tied_cells.proofs.Starts.{there_is}

module _ {H : Type 0} where
  low : (test : Entry H → Bool) (place : ℕ) (log : List (Entry H)) (k : ℕ) (own : Own H) → slice_get (picked test place log) k ≡ Some own → place ≤ own.place
  low test place log k own at = let s = picked_stands test place log k own at in let e : own.place ≡ s.index + place = ap (λ (o : Own H). o.place) s.own_is in omega arith

  pub picked_rises : (test : Entry H → Bool) (place : ℕ) (log : List (Entry H)) (k j : ℕ) (own next : Own H) → k < j → slice_get (picked test place log) k ≡ Some own → slice_get (picked test place log) j ≡ Some next → own.place < next.place
  picked_rises test place [] k j own next l a b = absurd (none-some own a)
  picked_rises test place (entry ∷ log) k j own next l a b = step (picked_rises test (suc place) log) (test entry) k j l a b
    where
      step : ((k j : ℕ) (own next : Own H) → k < j → slice_get (picked test (suc place) log) k ≡ Some own → slice_get (picked test (suc place) log) j ≡ Some next → own.place < next.place)
          → (b : Bool) (k j : ℕ) → k < j → slice_get (cond b (own_of place entry ∷ picked test (suc place) log) (picked test (suc place) log)) k ≡ Some own
          → slice_get (cond b (own_of place entry ∷ picked test (suc place) log) (picked test (suc place) log)) j ≡ Some next → own.place < next.place
      step rest true zero zero l a b = absurd (omega arith)
      step rest true zero (suc j) l a b = let e : place ≡ own.place = ap (λ (o : Own H). o.place) (same_Some (own_of place entry) own a) in let n = low test (suc place) log j next b in omega arith
      step rest true (suc k) zero l a b = absurd (omega arith)
      step rest true (suc k) (suc j) l a b = rest k j own next (omega arith) a b
      step rest false k j l a b = rest k j own next l a b

  pub own_rises : (number : ℕ) (log : List (Entry H)) → OwnRises (own_list number log)
  own_rises number log k event next a b = picked_rises (is_made_by number) 0 log k (k + 1) event next (omega arith) a b

  -- what stands in a node's list
  pub in_cell : (node : ℕ) (log : List (Entry H)) (k : ℕ) (event : Committed H) → slice_get (cell_list node log) k ≡ Some event → (own : Own H) × (slice_get (picked (is_at node) 0 log) k ≡ Some own) × (committed_of own ≡ event)
  in_cell node log k event at = from (picked (is_at node) 0 log) k at
    where
      from : (owns : List (Own H)) (k : ℕ) → slice_get (map committed_of owns) k ≡ Some event → (own : Own H) × (slice_get owns k ≡ Some own) × (committed_of own ≡ event)
      from [] k h = absurd (none-some event h)
      from (own ∷ owns) zero h = (own, refl, same_Some (committed_of own) event h)
      from (own ∷ owns) (suc k) h = from owns k h

  pub cell_rises : (node : ℕ) (log : List (Entry H)) → PlacesRise (cell_list node log)
  cell_rises node log k event next a b = let x = in_cell node log k event a in let y = in_cell node log (k + 1) next b in
      let rise = picked_rises (is_at node) 0 log k (k + 1) x.0 y.0 (omega arith) x.1 y.1 in
      let p : x.0.place ≡ event.place = ap (λ (c : Committed H). c.place) x.2 in let q : y.0.place ≡ next.place = ap (λ (c : Committed H). c.place) y.2 in omega arith

  -- an event of a node's list stands in the history at its place
  pub record PlacedAt (log : List (Entry H)) (node place : ℕ) : Type 0 where
    pub entry : Entry H
    pub there : slice_get log place ≡ Some entry
    pub node_is : entry.event.node ≡ node

  pub placed_at : (log : List (Entry H)) (node k : ℕ) (event : Committed H) → slice_get (cell_list node log) k ≡ Some event → PlacedAt log node event.place
  placed_at log node k event at =
      let x = in_cell node log k event at in let s = picked_stands (is_at node) 0 log k x.0 x.1 in
      let place : event.place ≡ s.index = let p : x.0.place ≡ event.place = ap (λ (c : Committed H). c.place) x.2 in let q : x.0.place ≡ s.index + 0 = ap (λ (o : Own H). o.place) s.own_is in omega arith in
      record { entry = s.entry; there = ap (slice_get log) place ∙ s.there; node_is = eqb-true s.entry.event.node node s.passes }

  pub stand_once : (lists : List (List (Committed H))) (nodes : ℕ) (log : List (Entry H)) → ((node : ℕ) → node < nodes → slice_get lists node ≡ Some (cell_list node log)) → length lists ≡ nodes
      → ((place : ℕ) (entry : Entry H) → slice_get log place ≡ Some entry → entry.event.node < nodes) → StandOnce lists (length log)
  stand_once lists nodes log lists_are many inside = record {
    each = λ place below. let e = there_is log place below in let node : ℕ = e.0.event.node in
        let s = stands_picked (is_at node) 0 log place e.0 e.1 (eq-eqb node node refl) in (
          node,
          s.at,
          (
            cell_list node log,
            committed_of (own_of (place + 0) e.0),
            lists_are node (inside place e.0 e.1),
            slice_get-map committed_of (picked (is_at node) 0 log) s.at ∙ ap (option_map committed_of) s.there,
            (let z : place + 0 ≡ place = omega arith in z),
          ),
        );
    once = λ place node other k j a b.
        let x = at node k place a in let y = at other j place b in
        let p = placed_at log node k a.1 x in let q = placed_at log other j b.1 y in
        let same : p.entry ≡ q.entry = same_Some p.entry q.entry (sym p.there ∙ (ap (slice_get log) (a.4 ∙ sym b.4) ∙ q.there)) in
        let nodes_same : node ≡ other = sym p.node_is ∙ (ap (λ (e : Entry H). e.event.node) same ∙ q.node_is) in
        (nodes_same, positions node k j a.1 b.1 (a.4 ∙ sym b.4) x (ap (λ (n : ℕ). slice_get (cell_list n log) j) nodes_same ∙ y));
    below = λ place node k a. let p = placed_at log node k a.1 (at node k place a) in let w = slice_get_within log a.1.place p.entry p.there in let e : a.1.place ≡ place = a.4 in omega arith;
  }
    where
      at : (node k place : ℕ) (s : StandsIn lists place node k) → slice_get (cell_list node log) k ≡ Some s.1
      at node k place s = let within : node < nodes = let w = slice_get_within lists node s.0 s.2 in omega arith in
          ap (λ (l : List (Committed H)). slice_get l k) (same_Some (cell_list node log) s.0 (sym (lists_are node within) ∙ s.2)) ∙ s.3

      positions : (node k j : ℕ) (a b : Committed H) → a.place ≡ b.place → slice_get (cell_list node log) k ≡ Some a → slice_get (cell_list node log) j ≡ Some b → k ≡ j
      positions node k j a b same x y =
          let p = in_cell node log k a x in let q = in_cell node log j b y in
          let pa : p.0.place ≡ a.place = ap (λ (c : Committed H). c.place) p.2 in let qb : q.0.place ≡ b.place = ap (λ (c : Committed H). c.place) q.2 in
          ⊎_elim (λ (e : k ≡ j). e) (⊎_elim
          (λ (l : k < j). let r = picked_rises (is_at node) 0 log k j p.0 q.0 l p.1 q.1 in absurd (omega arith))
          (λ (l : j < k). let r = picked_rises (is_at node) 0 log j k q.0 p.0 l q.1 p.1 in absurd (omega arith))) (cases_order k j)
