-- The lists that passes and nodes keep of a history: as it grows by one, and together.
use Rattle.std.proofs.Common.{◌≡◌, ◌≢◌, ℕ, zero, suc, ◌+◌, Bool, true, false, cond, List, [], ◌∷◌, ◌++◌, map, length, slice_get, Some, nat_eq, eq-eqb, ne_eqb, refl, sym, ap, ◌∙◌, subst, arith}
use Rattle.std.proofs.lemmas.List.{map-append}
use Rattle.std.proofs.lemmas.Option.{none-some, same_Some}
use Rattle.log_base.specs.Machines.{of_node}
use Rattle.tied_cells.specs.declared.board.Own.{Own}
use Rattle.tied_cells.specs.History.{Entry, event_of, events, own_of, picked, is_made_by, is_at, own_list, committed_of, cell_list, happened_of}

module _ {H : Type 0} where
  -- one more entry, which passes the test
  pub picked_yes : (test : Entry H → Bool) (place : ℕ) (log : List (Entry H)) (last : ℕ) (entry : Entry H) → last ≡ length log + place
      → test entry ≡ true → picked test place (log ++ entry ∷ []) ≡ picked test place log ++ own_of last entry ∷ []
  picked_yes test place [] last entry at passes =
      let here : place ≡ last = omega arith in
      subst (λ (p : ℕ). picked test place (entry ∷ []) ≡ own_of p entry ∷ []) here (ap (λ (b : Bool). cond b (own_of place entry ∷ []) []) passes)
  picked_yes test place (first ∷ log) last entry at passes =
      let next : last ≡ length log + suc place = omega arith in
      step (test first) (picked_yes test (suc place) log last entry next passes)
    where
      step : (b : Bool) → picked test (suc place) (log ++ entry ∷ []) ≡ picked test (suc place) log ++ own_of last entry ∷ []
          → cond b (own_of place first ∷ picked test (suc place) (log ++ entry ∷ [])) (picked test (suc place) (log ++ entry ∷ []))
          ≡ cond b (own_of place first ∷ picked test (suc place) log) (picked test (suc place) log) ++ own_of last entry ∷ []
      step true h = ap (λ (l : List (Own H)). own_of place first ∷ l) h
      step false h = h

  -- one more entry, which doesn't
  pub picked_no : (test : Entry H → Bool) (place : ℕ) (log : List (Entry H)) (entry : Entry H) → test entry ≡ false
      → picked test place (log ++ entry ∷ []) ≡ picked test place log
  picked_no test place [] entry fails = ap (λ (b : Bool). cond b (own_of place entry ∷ []) []) fails
  picked_no test place (first ∷ log) entry fails =
      ap (λ (l : List (Own H)). cond (test first) (own_of place first ∷ l) l) (picked_no test (suc place) log entry fails)

  pub own_here : (number : ℕ) (log : List (Entry H)) (entry : Entry H) → entry.maker ≡ number → own_list number (log ++ entry ∷ []) ≡ own_list number log ++ own_of (length log) entry ∷ []
  own_here number log entry made = let last : length log ≡ length log + 0 = omega arith in picked_yes (is_made_by number) 0 log (length log) entry last (eq-eqb entry.maker number made)

  pub own_else : (number : ℕ) (log : List (Entry H)) (entry : Entry H) → entry.maker ≢ number → own_list number (log ++ entry ∷ []) ≡ own_list number log
  own_else number log entry other = picked_no (is_made_by number) 0 log entry (ne_eqb entry.maker number other)

  pub cell_here : (node : ℕ) (log : List (Entry H)) (entry : Entry H) → entry.event.node ≡ node
      → cell_list node (log ++ entry ∷ []) ≡ cell_list node log ++ committed_of (own_of (length log) entry) ∷ []
  cell_here node log entry here = let last : length log ≡ length log + 0 = omega arith in
      ap (map committed_of) (picked_yes (is_at node) 0 log (length log) entry last (eq-eqb entry.event.node node here))
      ∙ map-append committed_of (picked (is_at node) 0 log) (own_of (length log) entry ∷ [])

  pub cell_else : (node : ℕ) (log : List (Entry H)) (entry : Entry H) → entry.event.node ≢ node → cell_list node (log ++ entry ∷ []) ≡ cell_list node log
  cell_else node log entry other = ap (map committed_of) (picked_no (is_at node) 0 log entry (ne_eqb entry.event.node node other))

  pub events_push : (log : List (Entry H)) (entry : Entry H) → events (log ++ entry ∷ []) ≡ events log ++ entry.event ∷ []
  events_push log entry = map-append event_of log (entry ∷ [])

  -- what happened at a node is what its list says
  pub cell_happened : (node place : ℕ) (log : List (Entry H)) → of_node node (events log) ≡ map happened_of (map committed_of (picked (is_at node) place log))
  cell_happened node place [] = refl
  cell_happened node place (entry ∷ log) = step (nat_eq entry.event.node node) (cell_happened node (suc place) log)
    where
      step : (b : Bool) → of_node node (events log) ≡ map happened_of (map committed_of (picked (is_at node) (suc place) log))
          → cond b (entry.event.happened ∷ of_node node (events log)) (of_node node (events log))
          ≡ map happened_of (map committed_of (cond b (own_of place entry ∷ picked (is_at node) (suc place) log) (picked (is_at node) (suc place) log)))
      step true h = ap (λ (l : List H). entry.event.happened ∷ l) h
      step false h = h

  -- what is picked stands in the history at its place, and passes the test
  pub record StandsAt (test : Entry H → Bool) (log : List (Entry H)) (own : Own H) (place : ℕ) : Type 0 where
    pub index : ℕ
    pub entry : Entry H
    pub there : slice_get log index ≡ Some entry
    pub own_is : own ≡ own_of (index + place) entry
    pub passes : test entry ≡ true

  later : (test : Entry H → Bool) (log : List (Entry H)) (first : Entry H) (own : Own H) (place : ℕ) → StandsAt test log own (suc place) → StandsAt test (first ∷ log) own place
  later test log first own place at = let same : at.index + suc place ≡ suc at.index + place = omega arith in record {
    index = suc at.index;
    entry = at.entry;
    there = at.there;
    own_is = at.own_is ∙ ap (λ (p : ℕ). own_of p at.entry) same;
    passes = at.passes;
  }

  pub picked_stands : (test : Entry H → Bool) (place : ℕ) (log : List (Entry H)) (k : ℕ) (own : Own H) → slice_get (picked test place log) k ≡ Some own → StandsAt test log own place
  picked_stands test place [] k own h = absurd (none-some own h)
  picked_stands test place (first ∷ log) k own h = step (λ j at. later test log first own place (picked_stands test (suc place) log j own at)) (test first) refl k h
    where
      step : ((j : ℕ) → slice_get (picked test (suc place) log) j ≡ Some own → StandsAt test (first ∷ log) own place) → (b : Bool) → test first ≡ b
          → (j : ℕ) → slice_get (cond b (own_of place first ∷ picked test (suc place) log) (picked test (suc place) log)) j ≡ Some own → StandsAt test (first ∷ log) own place
      step rest true is zero at = let here : place ≡ zero + place = omega arith in
          record { index = zero; entry = first; there = refl; own_is = sym (same_Some (own_of place first) own at) ∙ ap (λ (p : ℕ). own_of p first) here; passes = is }
      step rest true is (suc j) at = rest j at
      step rest false is j at = rest j at

  pub own_stands : (number : ℕ) (log : List (Entry H)) (k : ℕ) (own : Own H) → slice_get (own_list number log) k ≡ Some own → StandsAt (is_made_by number) log own 0
  own_stands number log k own h = picked_stands (is_made_by number) 0 log k own h

  -- an entry that passes the test is picked
  pub record IsPicked (test : Entry H → Bool) (log : List (Entry H)) (place index : ℕ) (entry : Entry H) : Type 0 where
    pub at : ℕ
    pub there : slice_get (picked test place log) at ≡ Some (own_of (index + place) entry)

  pub stands_picked : (test : Entry H → Bool) (place : ℕ) (log : List (Entry H)) (index : ℕ) (entry : Entry H) → slice_get log index ≡ Some entry → test entry ≡ true → IsPicked test log place index entry
  stands_picked test place [] index entry h passes = absurd (none-some entry h)
  stands_picked test place (first ∷ log) zero entry h passes =
      let same = same_Some first entry h in let here : place ≡ zero + place = omega arith in
      record {
        at = zero;
        there = ap (λ (b : Bool). slice_get (cond b (own_of place first ∷ picked test (suc place) log) (picked test (suc place) log)) zero) (ap test same ∙ passes)
            ∙ (λ i. Some (own_of (here i) (same i)));
      }
  stands_picked test place (first ∷ log) (suc index) entry h passes =
      let after = stands_picked test (suc place) log index entry h passes in let same : index + suc place ≡ suc index + place = omega arith in
      let found = step (test first) after.at (after.there ∙ ap (λ (p : ℕ). Some (own_of p entry)) same) in record { at = found.0; there = found.1 }
    where
      step : (b : Bool) (at : ℕ) → slice_get (picked test (suc place) log) at ≡ Some (own_of (suc index + place) entry)
          → (k : ℕ) × (slice_get (cond b (own_of place first ∷ picked test (suc place) log) (picked test (suc place) log)) k ≡ Some (own_of (suc index + place) entry))
      step true at there = (suc at, there)
      step false at there = (at, there)
