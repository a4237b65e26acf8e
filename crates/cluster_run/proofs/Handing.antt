-- Passes that are new fit the lanes and the workers that they are handed to, and are the cluster's yet once those have run.
use Rattle.std.proofs.Common.{◌≡◌, ◌<◌, ◌≤◌, ℕ, zero, suc, ◌+◌, ◌-◌, List, [], ◌∷◌, ◌++◌, drop, length, map, take, get_or, slice_get, Some, Result, refl, sym, ap, ◌∙◌, subst, append_assoc, ⊎_elim, arith}
use Rattle.std.specs.Option.{option_map}
use Rattle.std.proofs.lemmas.Bool.{cases_lt}
use Rattle.std.proofs.lemmas.List.{length-map}
use Rattle.std.proofs.lemmas.Option.{none-some, slice_get-map, slice_get_within}
use Rattle.atomic_table.specs.Seated.{TableId}
use Rattle.cluster.specs.Clusters.{IsPassOf}
use Rattle.command_frame.specs.declared.items.Item.{Item}
use Rattle.history_frame.specs.declared.events.Happened.{Happened}
use Rattle.lane_work.specs.Lanes.{FitsLane}
use Rattle.log_base.specs.ClusterShape.{Shape}
use Rattle.log_base.specs.declared.outside.Memory.{Memory}
use Rattle.node_model.specs.NodeState.{KeptLists}
use Rattle.reply_frame.specs.declared.replies.Reply.{Reply}
use Rattle.tied_cells.specs.declared.board.Own.{Own}
use Rattle.cluster_run.specs.Numbers.{numbered_from}
use Rattle.cluster_run.specs.Passes.{AreNew, HaveRun}
use Rattle.cluster_run.specs.Seats.{PassNow}
use Rattle.cluster_run.proofs.Handed.{first_fit, first_length, others_fit, others_length}

pub there_is : {X : Type 0} (xs : List X) (k : ℕ) → k < length xs → (x : X) × (slice_get xs k ≡ Some x)
there_is [] k below = absurd (omega arith)
there_is (x ∷ xs) zero below = (x, refl)
there_is (x ∷ xs) (suc k) below = there_is xs k (omega arith)

pub mapped_at : {X Y : Type 0} (f : X → Y) (xs : List X) (k : ℕ) (x : X) → slice_get xs k ≡ Some x → slice_get (map f xs) k ≡ Some (f x)
mapped_at f xs k x there = slice_get-map f xs k ∙ ap (option_map f) there

front_back : {X : Type 0} (n : ℕ) (xs : List X) → take n xs ++ drop n xs ≡ xs
front_back zero xs = refl
front_back (suc n) [] = refl
front_back {X} (suc n) (x ∷ xs) = ap (λ (l : List X). x ∷ l) (front_back n xs)

behind_numbers : {X : Type 0} (number : ℕ) (xs : List X) → map (λ (one : ℕ × X). one.1) (numbered_from number xs) ≡ xs
behind_numbers number [] = refl
behind_numbers {X} number (x ∷ xs) = ap (λ (l : List X). x ∷ l) (behind_numbers (suc number) xs)

-- what was handed to none is put together again
pub put_back : {X : Type 0} (count : ℕ) (passes others : List X) (last : X) → drop count passes ≡ others ++ last ∷ []
    → (map (λ (one : ℕ × X). one.1) (numbered_from 0 (take count passes)) ++ others) ++ last ∷ [] ≡ passes
put_back {X} count passes others last rest =
    append_assoc (map (λ (one : ℕ × X). one.1) (numbered_from 0 (take count passes))) others (last ∷ [])
    ∙ (ap (λ (l : List X). l ++ (others ++ last ∷ [])) (behind_numbers 0 (take count passes))
    ∙ (ap (λ (l : List X). take count passes ++ l) (sym rest) ∙ front_back count passes))

module _ {A X : Type 0} (f : X → PassNow A) (config : Shape) (run : ℕ) (kept : KeptLists) (table : TableId) (count : ℕ) (passes : List X)
    (new : AreNew config run kept table count (map f passes)) where
  pub pass_count : length passes ≡ count + 1
  pass_count = sym (length-map passes f) ∙ new.as_many

  lane_fits : (k : ℕ) (x : X) → k < count → slice_get passes k ≡ Some x → FitsLane config run kept table k (f x).0
  lane_fits k x below there = record {
    pass = new.each k (f x) (mapped_at f passes k x there);
    fresh_pass = λ j event got.
        absurd (none-some event (sym (ap (λ (l : List (Own Happened)). slice_get l j) (new.fresh k (f x) (mapped_at f passes k x there) below)) ∙ got));
  }

  -- the first fit lanes
  pub lanes_fit : (lanes : ℕ) → lanes ≤ count → (numbered : List (ℕ × X)) → numbered ≡ numbered_from 0 (take lanes passes)
      → (k : ℕ) (d : ℕ × X) → k < length numbered → FitsLane config run kept table (get_or numbered k d).0 (f (get_or numbered k d).1).0
  lanes_fit lanes few numbered are k d below =
      let size = pass_count in
      subst (λ (l : List (ℕ × X)). FitsLane config run kept table (get_or l k d).0 (f (get_or l k d).1).0) (sym are)
      (first_fit passes lanes (omega arith) (λ (n : ℕ) (x : X). FitsLane config run kept table n (f x).0) (λ j x low there. lane_fits j x (omega arith) there)
      k d (subst (λ (l : List (ℕ × X)). k < length l) are below))

  module _ (numbers : (x : X) → (f x).0.me.0.number ≡ (f x).1.number) where
    pub number_is : (k : ℕ) (x : X) → slice_get passes k ≡ Some x → (f x).1.number ≡ k
    number_is k x there = sym (numbers x) ∙ (new.each k (f x) (mapped_at f passes k x there)).number_is

    worker_fits : (k : ℕ) (x : X) → slice_get passes k ≡ Some x → IsPassOf config run kept table (f x).1.number (f x).0
    worker_fits k x there =
        subst (λ (n : ℕ). IsPassOf config run kept table n (f x).0) (sym (number_is k x there)) (new.each k (f x) (mapped_at f passes k x there))

    -- and the others workers
    pub workers_fit : (lanes : ℕ) → lanes ≤ count → (others : List X) (last : X) → drop lanes passes ≡ others ++ last ∷ []
        → (k : ℕ) (d : X) → k < length others → IsPassOf config run kept table (f (get_or others k d)).1.number (f (get_or others k d)).0
    workers_fit lanes few others last rest k d below =
        let size = pass_count in
        others_fit passes lanes (omega arith) others last rest (λ (x : X). IsPassOf config run kept table (f x).1.number (f x).0) (λ j x there. worker_fits j x there) k d below

-- how many are handed out
pub lane_count : {X : Type 0} (passes : List X) (lanes : ℕ) (numbered : List (ℕ × X)) → lanes ≤ length passes → numbered ≡ numbered_from 0 (take lanes passes) → length numbered ≡ lanes
lane_count {X} passes lanes numbered few are = ap (length {A = ℕ × X}) are ∙ first_length passes lanes few

pub worker_count : {X : Type 0} (passes : List X) (lanes workers : ℕ) (others : List X) (last : X) → length passes ≡ lanes + workers + 1 → drop lanes passes ≡ others ++ last ∷ []
    → length others ≡ workers
worker_count passes lanes workers others last size rest =
    let all = others_length passes lanes (omega arith) others last rest in omega arith

module _ {A : Type 0} (config : Shape) (run : ℕ) (kept : KeptLists) (table : TableId) (items : List Item) (lanes workers : ℕ) (before after : List (PassNow A))
    (answers : List (Result (List Reply) Memory)) (turned : List (Result (Unit {0}) Memory))
    (new : AreNew config run kept table (lanes + workers) before) (ran : HaveRun config run kept table items lanes workers before after answers turned) where
  -- the passes are the cluster's yet, with their numbers
  pub passes_still : (k : ℕ) (pass : PassNow A) → slice_get after k ≡ Some pass → IsPassOf config run kept table k pass.0
  passes_still k pass there =
      let low = slice_get_within after k pass there in let size = ran.as_many in
      ⊎_elim (λ (lane : k < lanes). of_lane lane) (λ (past : lanes ≤ k).
      ⊎_elim (λ (worker : k < lanes + workers). of_worker past worker) (λ (over : lanes + workers ≤ k). of_opening (omega arith)) (cases_lt k (lanes + workers)))
      (cases_lt k lanes)
    where
      of_lane : k < lanes → IsPassOf config run kept table k pass.0
      of_lane below =
          let many = new.as_many in let count = ran.answered in
          let old = there_is before k (omega arith) in let told = there_is answers k (omega arith) in
          (ran.lane k old.0 pass told.0 below old.1 there told.1).pass

      of_worker : lanes ≤ k → k < lanes + workers → IsPassOf config run kept table k pass.0
      of_worker past below =
          let many = new.as_many in let count = ran.turned_are in
          let at : k ≡ lanes + (k - lanes) = omega arith in
          let old = there_is before (lanes + (k - lanes)) (omega arith) in let told = there_is turned (k - lanes) (omega arith) in
          subst (λ (n : ℕ). IsPassOf config run kept table n pass.0) (sym at)
          (ran.worker (k - lanes) old.0 pass told.0 (omega arith) old.1 (ap (slice_get after) (sym at) ∙ there) told.1).pass

      of_opening : k ≡ lanes + workers → IsPassOf config run kept table k pass.0
      of_opening at =
          subst (λ (n : ℕ). IsPassOf config run kept table n pass.0) (sym at)
          (new.each (lanes + workers) pass (sym ran.last ∙ (ap (slice_get after) (sym at) ∙ there)))
