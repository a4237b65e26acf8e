-- What all passes use is at most what each may use, as often as there are passes.
use Rattle.std.proofs.Common.{◌≡◌, ℕ, zero, suc, ◌+◌, ◌*◌, ◌<◌, ◌≤◌, Bool, true, false, cond, ◌⊎◌, inl, inr, List, [], ◌∷◌, ◌++◌, length, slice_get, Some, nat_eq, eq-eqb, ne_eqb, refl, sym, ap, ◌∙◌, subst, arith, suc-mul}
use Rattle.std.proofs.lemmas.Bool.{cases_order}
use Rattle.log_base.specs.Machines.{Meanings}
use Rattle.tied_cells.specs.declared.board.Own.{Own}
use Rattle.tied_cells.specs.Sizes.{sizes_of}
use Rattle.tied_cells.specs.History.{Entry, picked, is_made_by, own_list}

module _ {H : Type 0} (weight : H → ℕ) where
  -- the weight of the entries that pass a test
  abbrev pub weight_of : (Entry H → Bool) → List (Entry H) → ℕ
  weight_of test [] = 0
  weight_of test (entry ∷ log) = cond (test entry) (weight entry.event.happened) 0 + weight_of test log

  abbrev pub total_weight : List (Entry H) → ℕ
  total_weight [] = 0
  total_weight (entry ∷ log) = weight entry.event.happened + total_weight log

  -- the weight of the entries of the passes with numbers below n, pass by pass
  abbrev pub weight_below : ℕ → List (Entry H) → ℕ
  weight_below zero log = 0
  weight_below (suc n) log = weight_below n log + weight_of (is_made_by n) log

  abbrev pub weight_of_own : List (Own H) → ℕ
  weight_of_own [] = 0
  weight_of_own (own ∷ list) = weight own.happened + weight_of_own list

  none_below : (n : ℕ) → weight_below n [] ≡ 0
  none_below zero = refl
  none_below (suc n) = let rest = none_below n in omega arith

  -- an entry of a pass counts where its number is below n
  past : (n : ℕ) (entry : Entry H) (log : List (Entry H)) → n ≤ entry.maker → weight_below n (entry ∷ log) ≡ weight_below n log
  past zero entry log h = refl
  past (suc n) entry log h =
      let rest : weight_below n (entry ∷ log) ≡ weight_below n log = past n entry log (omega arith) in
      let other : nat_eq entry.maker n ≡ false = ne_eqb entry.maker n (λ e. omega arith) in
      let none : cond (nat_eq entry.maker n) (weight entry.event.happened) 0 ≡ 0 = ap (λ (b : Bool). cond b (weight entry.event.happened) 0) other in
      omega arith

  counted : (n : ℕ) (entry : Entry H) (log : List (Entry H)) → entry.maker < n → weight_below n (entry ∷ log) ≡ weight entry.event.happened + weight_below n log
  counted zero entry log h = absurd (omega arith)
  counted (suc n) entry log h = step (cases_order entry.maker n) (counted n entry log)
    where
      step : (entry.maker ≡ n) ⊎ ((entry.maker < n) ⊎ (n < entry.maker)) → (entry.maker < n → weight_below n (entry ∷ log) ≡ weight entry.event.happened + weight_below n log)
          → weight_below n (entry ∷ log) + (cond (nat_eq entry.maker n) (weight entry.event.happened) 0 + weight_of (is_made_by n) log)
          ≡ weight entry.event.happened + (weight_below n log + weight_of (is_made_by n) log)
      step (inl e) rest =
          let before : weight_below n (entry ∷ log) ≡ weight_below n log = past n entry log (omega arith) in
          let here : cond (nat_eq entry.maker n) (weight entry.event.happened) 0 ≡ weight entry.event.happened = ap (λ (b : Bool). cond b (weight entry.event.happened) 0) (eq-eqb entry.maker n e) in
          omega arith
      step (inr (inl below)) rest =
          let before = rest below in
          let none : cond (nat_eq entry.maker n) (weight entry.event.happened) 0 ≡ 0 = ap (λ (b : Bool). cond b (weight entry.event.happened) 0) (ne_eqb entry.maker n (λ e. omega arith)) in
          omega arith
      step (inr (inr above)) rest = absurd (omega arith)

  abbrev MadeBelow : ℕ → List (Entry H) → Type 0
  MadeBelow n log = (k : ℕ) (entry : Entry H) → slice_get log k ≡ Some entry → entry.maker < n

  -- all is what the passes have made together
  pub total_is_below : (n : ℕ) (log : List (Entry H)) → MadeBelow n log → total_weight log ≡ weight_below n log
  total_is_below n [] h = sym (none_below n)
  total_is_below n (entry ∷ log) h =
      ap (λ (x : ℕ). weight entry.event.happened + x) (total_is_below n log (λ k. h (suc k))) ∙ sym (counted n entry log (h zero entry refl))

  each_at_most : (n quota : ℕ) (log : List (Entry H)) → ((number : ℕ) → weight_of (is_made_by number) log ≤ quota) → weight_below n log ≤ n * quota
  each_at_most zero quota log h = omega arith
  each_at_most (suc n) quota log h =
      let before : weight_below n log ≤ n * quota = each_at_most n quota log h in let last = h n in let product = suc-mul n quota in omega arith

  pub total_at_most : (n quota : ℕ) (log : List (Entry H)) → MadeBelow n log → ((number : ℕ) → weight_of (is_made_by number) log ≤ quota) → total_weight log ≤ n * quota
  total_at_most n quota log below each = subst (λ (x : ℕ). x ≤ n * quota) (sym (total_is_below n log below)) (each_at_most n quota log each)

  pub picked_weight : (test : Entry H → Bool) (place : ℕ) (log : List (Entry H)) → weight_of_own (picked test place log) ≡ weight_of test log
  picked_weight test place [] = refl
  picked_weight test place (entry ∷ log) = step (test entry) (picked_weight test (suc place) log)
    where
      step : (b : Bool) → weight_of_own (picked test (suc place) log) ≡ weight_of test log
          → weight_of_own (cond b (record { place = place; node = entry.event.node; happened = entry.event.happened } ∷ picked test (suc place) log) (picked test (suc place) log))
          ≡ cond b (weight entry.event.happened) 0 + weight_of test log
      step true h = ap (λ (x : ℕ). weight entry.event.happened + x) h
      step false h = let e : weight_of test log ≡ 0 + weight_of test log = omega arith in h ∙ e

module _ {H : Type 0} where
  count_is : (list : List (Own H)) → weight_of_own (λ happened. 1) list ≡ length list
  count_is [] = refl
  count_is (own ∷ list) = let rest = count_is list in omega arith

  total_is : (log : List (Entry H)) → total_weight (λ happened. 1) log ≡ length log
  total_is [] = refl
  total_is (entry ∷ log) = let rest = total_is log in omega arith

  -- the history has at most the places that all passes may use
  pub few_events : (n quota : ℕ) (log : List (Entry H)) → ((k : ℕ) (entry : Entry H) → slice_get log k ≡ Some entry → entry.maker < n)
      → ((number : ℕ) → length (own_list number log) ≤ quota) → length log ≤ n * quota
  few_events n quota log below each =
      subst (λ (x : ℕ). x ≤ n * quota) (total_is log) (total_at_most (λ happened. 1) n quota log below (λ number.
      let same : weight_of (λ happened. 1) (is_made_by number) log ≡ length (own_list number log)
      = sym (picked_weight (λ happened. 1) (is_made_by number) 0 log) ∙ count_is (own_list number log) in
      subst (λ (x : ℕ). x ≤ quota) (sym same) (each number)))

module _ {S I H : Type 0} (m : Meanings S I H) where
  pub sizes_push : (list : List (Own H)) (own : Own H) → sizes_of m (list ++ own ∷ []) ≡ sizes_of m list + m.size own.happened
  sizes_push [] own = omega arith
  sizes_push (first ∷ list) own = let rest = sizes_push list own in omega arith
