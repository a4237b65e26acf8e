-- Limits: whether one node of a list is full, the bytes of one event more, and that no limit was passed before it.
use Rattle.std.proofs.Common.{◌≡◌, ◌<◌, ◌≤◌, ◌+◌, ◌||◌, ℕ, zero, suc, Bool, true, false, cond, List, [], ◌∷◌, ◌++◌, length, map, Option, slice_get, Some, None, refl, sym, ap, arith, ◌∙◌}
use Rattle.std.specs.Option.{option_map}
use Rattle.std.specs.Prelude.{nat_le, nat_lt}
use Rattle.std.proofs.lemmas.Grind.{common_steps}
use Rattle.std.proofs.lemmas.List.{length-map}
use Rattle.std.proofs.lemmas.Option.{same_Some, slice_get-map, slice_get_within}
use Rattle.core_step.specs.Known.{known_count}
use Rattle.node_model.specs.Machine.{ClusterNode}
use Rattle.node_table.specs.Numbering.{nodes_of}
use Rattle.std.specs.List.{list_any}
use Rattle.std.proofs.lemmas.List.Sums.{sum_by-append}
use Rattle.history_frame.specs.declared.events.Event.{Event}
use Rattle.history_frame.specs.Spelling.{event_size}
use Rattle.quiet_run.specs.Limits.{byte_limit, bytes_of, event_limit, is_one_from, is_one_full, known_by, limit_of, limit_passed, value_limit}
use Rattle.quiet_run.specs.Runs.{NoLimitBefore}
use Rattle.quiet_run.specs.Standing.{Job, StandAfter, node_of}
use Rattle.quiet_run.proofs.Fronts.{fronts_push}

-- a test of the elements of a list is one of their numbers
pub any_from : {A : Type 0} (passes : A → Bool) (test : ℕ → Bool) (xs : List A) (first : ℕ)
    → ((k : ℕ) (x : A) → slice_get xs k ≡ Some x → passes x ≡ test (first + k))
    → list_any passes xs ≡ is_one_from test first (length xs)
any_from passes test [] first same = refl
any_from {A} passes test (x ∷ xs) first same =
    ap (λ (b : Bool). b || list_any passes xs) (same zero x refl ∙ ap test here)
    ∙ ap (λ (b : Bool). test first || b)
    (any_from passes test xs (suc first) (λ k y at. same (suc k) y at ∙ ap test (there k)))
  where
    here : first + zero ≡ first
    here = omega arith

    there : (k : ℕ) → first + suc k ≡ suc first + k
    there k = omega arith

pub bytes_push : (events : List Event) (event : Event) → bytes_of (events ++ event ∷ []) ≡ bytes_of events + event_size event.happened
bytes_push events event =
    let sum : bytes_of (events ++ event ∷ []) ≡ bytes_of events + bytes_of (event ∷ []) = sum_by-append (λ (e : Event). event_size e.happened) events (event ∷ []) in
    omega (arith, sum)

pub no_limit_push : (job : Job) (events : List Event) (event : Event) → NoLimitBefore job events → limit_passed job events ≡ None
    → NoLimitBefore job (events ++ event ∷ [])
no_limit_push job events event before here = fronts_push (λ (es : List Event). limit_passed job es ≡ None) events event before here

-- whether a node of the list is full
pub full_is : {A : Type 0} (state : A → ClusterNode) (job : Job) (events : List Event) (nodes : List A) → StandAfter job events (map state nodes)
    → list_any (λ (node : A). nat_le value_limit (known_count (state node).state)) nodes ≡ is_one_full job events
full_is {A} state job events nodes stand =
    any_from (λ (node : A). nat_le value_limit (known_count (state node).state)) (λ (number : ℕ). nat_le value_limit (known_by job events number)) nodes 0 same
    ∙ ap (is_one_from (λ (number : ℕ). nat_le value_limit (known_by job events number)) 0) all
  where
    all : length nodes ≡ nodes_of job.config
    all = sym (length-map nodes state) ∙ stand.all

    same : (k : ℕ) (node : A) → slice_get nodes k ≡ Some node → nat_le value_limit (known_count (state node).state) ≡ nat_le value_limit (known_by job events (0 + k))
    same k node at =
        let inside = slice_get_within nodes k node at in
        let below : k < nodes_of job.config = omega (arith, inside, all) in
        let there : slice_get (map state nodes) k ≡ Some (state node) = slice_get-map state nodes k ∙ ap (λ (o : Option A). option_map state o) at in
        let one : state node ≡ node_of job events k = same_Some _ _ (sym there ∙ stand.each k below) in
        let zero_more : 0 + k ≡ k = omega arith in
        ap (λ (x : ClusterNode). nat_le value_limit (known_count x.state)) one ∙ sym (ap (λ (i : ℕ). nat_le value_limit (known_by job events i)) zero_more)

-- where no limit is passed, and one event more comes, there is room for it
left_over : (many full heavy : Bool) → cond {A = Option ℕ} many (Some 3) (cond {A = Option ℕ} full (Some 4) (cond {A = Option ℕ} heavy (Some 5) None)) ≡ None → (many ≡ false) × (heavy ≡ false)
left_over true full heavy e = absurd (cc)
left_over false true heavy e = absurd (cc)
left_over false false true e = absurd (cc)
left_over false false false e = (refl, refl)

pub room_left : (events : ℕ) (full : Bool) (bytes : ℕ) → limit_of true events full bytes ≡ None → (events < event_limit) × (bytes ≤ byte_limit)
room_left events full bytes e =
    let left = left_over (nat_le event_limit events) full (nat_lt byte_limit bytes) e in
    (below events left.0, light bytes left.1)
  where
    below : (n : ℕ) → nat_le event_limit n ≡ false → n < event_limit
    below n h = grind (arith, common_steps)

    light : (n : ℕ) → nat_lt byte_limit n ≡ false → n ≤ byte_limit
    light n h = grind (arith, common_steps)
