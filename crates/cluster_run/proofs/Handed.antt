-- The passes that the lanes and workers were handed, and what they made of them.
use Rattle.std.proofs.Common.{◌≡◌, ◌<◌, ◌≤◌, ℕ, zero, suc, ◌+◌, ◌-◌, List, [], ◌∷◌, ◌++◌, drop, length, length-append, length-drop, length-take-le, map, take, get_or, slice_get, Some, Result, refl, sym, ap, ◌∙◌, subst, arith}
use Rattle.std.proofs.Math.ListN.{get_or-append}
use Rattle.std.specs.Option.{option_map}
use Rattle.std.proofs.lemmas.List.{get_or-append_right, get_or-drop, get_or-take, length-map}
use Rattle.std.proofs.lemmas.Option.{same_Some, slice_get-get_or, slice_get-map, slice_get_within}
use Rattle.atomic_table.specs.Seated.{TableId}
use Rattle.command_frame.specs.declared.items.Item.{Item}
use Rattle.lane_work.specs.Lanes.{LaneGoes}
use Rattle.lane_work.specs.Workers.{WorkerGoes}
use Rattle.log_base.specs.ClusterShape.{Shape}
use Rattle.log_base.specs.declared.outside.Memory.{Memory}
use Rattle.node_model.specs.NodeState.{KeptLists}
use Rattle.node_threads.specs.Runs.{AllRan}
use Rattle.reply_frame.specs.declared.replies.Reply.{Reply}
use Rattle.tied_cells.proofs.Closes.{from_map}
use Rattle.cluster_run.specs.Numbers.{numbered_from}
use Rattle.cluster_run.specs.Passes.{HaveRun}
use Rattle.cluster_run.specs.Seats.{PassNow}

-- ---- lists

pub got_is : {T : Type 0} (xs : List T) (k : ℕ) (x d : T) → slice_get xs k ≡ Some x → get_or xs k d ≡ x
got_is xs k x d there = same_Some _ _ (sym (slice_get-get_or xs k d (slice_get_within xs k x there)) ∙ there)

numbered_length : {T : Type 0} (number : ℕ) (xs : List T) → length (numbered_from number xs) ≡ length xs
numbered_length number [] = refl
numbered_length number (x ∷ xs) = ap suc (numbered_length (suc number) xs)

numbered_at : {T : Type 0} (number : ℕ) (xs : List T) (k : ℕ) (d : ℕ × T) → k < length xs → get_or (numbered_from number xs) k d ≡ (number + k, get_or xs k d.1)
numbered_at number [] k d below = absurd (omega arith)
numbered_at number (x ∷ xs) zero d below = let here : number ≡ number + 0 = omega arith in λ i. (here i, x)
numbered_at number (x ∷ xs) (suc k) d below =
    let here : suc number + k ≡ number + suc k = omega arith in numbered_at (suc number) xs k d (omega arith) ∙ (λ i. (here i, get_or xs k d.1))

module _ {X : Type 0} (passes : List X) (count : ℕ) (few : count ≤ length passes) where
  pub first_length : length (numbered_from 0 (take count passes)) ≡ count
  first_length = numbered_length 0 (take count passes) ∙ length-take-le count passes few

  first_at : (k : ℕ) (d : ℕ × X) → k < count → get_or (numbered_from 0 (take count passes)) k d ≡ (k, get_or passes k d.1)
  first_at k d below =
      let size = length-take-le count passes few in
      let none : 0 + k ≡ k = omega arith in
      numbered_at 0 (take count passes) k d (omega arith) ∙ (λ i. (none i, get_or-take count passes k d.1 below i))

  -- what fits each of the first fits it behind its number
  pub first_fit : (Fits : ℕ → X → Type 0) → ((k : ℕ) (x : X) → k < count → slice_get passes k ≡ Some x → Fits k x)
      → (k : ℕ) (d : ℕ × X) → k < length (numbered_from 0 (take count passes)) → Fits (get_or (numbered_from 0 (take count passes)) k d).0 (get_or (numbered_from 0 (take count passes)) k d).1
  first_fit Fits fit k d inside =
      let size = first_length in
      let below : k < count = omega arith in
      subst (λ (p : ℕ × X). Fits p.0 p.1) (sym (first_at k d below)) (fit k (get_or passes k d.1) below (slice_get-get_or passes k d.1 (omega arith)))

  module _ (others : List X) (last : X) (rest : drop count passes ≡ others ++ last ∷ []) where
    pub others_length : length others + 1 + count ≡ length passes
    others_length =
        let all = ap (length {A = X}) rest in let one = length-append others (last ∷ []) in let size = length-drop count passes in omega arith

    pub other_at : (k : ℕ) (d : X) → k < length others → get_or others k d ≡ get_or passes (count + k) d
    other_at k d below = sym (get_or-append others (last ∷ []) d k below) ∙ (ap (λ (l : List X). get_or l k d) (sym rest) ∙ get_or-drop count passes k d)

    pub last_at : (d : X) → get_or passes (count + length others) d ≡ last
    last_at d =
        let none : length others - length others ≡ 0 = omega arith in
        sym (get_or-drop count passes (length others) d) ∙ (ap (λ (l : List X). get_or l (length others) d) rest
        ∙ (get_or-append_right others (last ∷ []) (length others) (length others) d refl (omega arith) ∙ ap (λ (n : ℕ). get_or (last ∷ []) n d) none))

    pub others_fit : (Fits : X → Type 0) → ((k : ℕ) (x : X) → slice_get passes k ≡ Some x → Fits x) → (k : ℕ) (d : X) → k < length others → Fits (get_or others k d)
    others_fit Fits fit k d below =
        let size = others_length in
        subst Fits (sym (other_at k d below)) (fit (count + k) (get_or passes (count + k) d) (slice_get-get_or passes (count + k) d (omega arith)))

-- ---- what was made of them

module _ {A X : Type 0} (f : X → PassNow A) where
  abbrev Pass : Type 0
  Pass = PassNow A

  module _ (config : Shape) (run : ℕ) (kept : KeptLists) (table : TableId) (items : List Item) (passes : List X) (lanes workers : ℕ) (size : length passes ≡ lanes + workers + 1)
      (numbers : (k : ℕ) (x : X) → slice_get passes k ≡ Some x → (f x).1.number ≡ k)
      (others : List X) (last : X) (rest : drop lanes passes ≡ others ++ last ∷ [])
      (ls ws : List X) (answers : List (Result (List Reply) Memory)) (turned : List (Result (Unit {0}) Memory))
      (lanes_ran : AllRan (λ (h : ℕ × X) (t : X) (a : Result (List Reply) Memory). LaneGoes config run kept table h.0 items (f h.1).0 (f t).0 (f t).1 a) (numbered_from 0 (take lanes passes)) ls answers)
      (workers_ran : AllRan (λ (h t : X) (a : Result (Unit {0}) Memory). WorkerGoes config run kept table (f h).1.number (f h).0 (f t).0 (f t).1 a) others ws turned) where
    few : lanes ≤ length passes
    few = omega arith

    lane_count : length ls ≡ lanes
    lane_count = lanes_ran.tokens ∙ first_length passes lanes few

    other_count : length others ≡ workers
    other_count = let all = others_length passes lanes few others last rest in omega arith

    worker_count : length ws ≡ workers
    worker_count = workers_ran.tokens ∙ other_count

    both : length (ls ++ ws) ≡ lanes + workers
    both = let all = length-append ls ws in let a = lane_count in let b = worker_count in omega arith

    lane_after : (k : ℕ) (d : X) → k < lanes → get_or ((ls ++ ws) ++ last ∷ []) k d ≡ get_or ls k d
    lane_after k d below =
        let a = lane_count in let b = both in
        get_or-append (ls ++ ws) (last ∷ []) d k (omega arith) ∙ get_or-append ls ws d k (omega arith)

    worker_after : (k : ℕ) (d : X) → k < workers → get_or ((ls ++ ws) ++ last ∷ []) (lanes + k) d ≡ get_or ws k d
    worker_after k d below =
        let b = both in let none : lanes + k - lanes ≡ k = omega arith in
        get_or-append (ls ++ ws) (last ∷ []) d (lanes + k) (omega arith)
        ∙ (get_or-append_right ls ws lanes (lanes + k) d lane_count (omega arith) ∙ ap (λ (n : ℕ). get_or ws n d) none)

    last_after : (d : X) → get_or ((ls ++ ws) ++ last ∷ []) (lanes + workers) d ≡ last
    last_after d =
        let none : lanes + workers - (lanes + workers) ≡ 0 = omega arith in
        get_or-append_right (ls ++ ws) (last ∷ []) (lanes + workers) (lanes + workers) d both (omega arith) ∙ ap (λ (n : ℕ). get_or (last ∷ []) n d) none

    lane_so : (k : ℕ) (old new : Pass) (answer : Result (List Reply) Memory) → k < lanes → slice_get (map f passes) k ≡ Some old → slice_get (map f ((ls ++ ws) ++ last ∷ [])) k ≡ Some new
        → slice_get answers k ≡ Some answer → LaneGoes config run kept table k items old.0 new.0 new.1 answer
    lane_so k old new answer below was is told =
        let x = from_map f passes k old was in let y = from_map f ((ls ++ ws) ++ last ∷ []) k new is in
        let handed : get_or (numbered_from 0 (take lanes passes)) k (k, x.0) ≡ (k, x.0) = first_at passes lanes few k (k, x.0) below ∙ (λ i. (k, got_is passes k x.0 x.0 x.1 i)) in
        let now : get_or ls k y.0 ≡ y.0 = sym (lane_after k y.0 below) ∙ got_is ((ls ++ ws) ++ last ∷ []) k y.0 y.0 y.1 in
        let said : get_or answers k answer ≡ answer = got_is answers k answer answer told in
        let sized = first_length passes lanes few in
        let raw = subst (λ (p : (ℕ × X) × X × Result (List Reply) Memory). LaneGoes config run kept table p.0.0 items (f p.0.1).0 (f p.1).0 (f p.1).1 p.2) (λ i. (handed i, now i, said i))
        (lanes_ran.ran k (k, x.0) y.0 answer (omega arith)) in
        subst (λ (p : Pass × Pass). LaneGoes config run kept table k items p.0.0 p.1.0 p.1.1 answer) (λ i. (x.2 i, y.2 i)) raw

    worker_so : (k : ℕ) (old new : Pass) (answer : Result (Unit {0}) Memory) → k < workers → slice_get (map f passes) (lanes + k) ≡ Some old
        → slice_get (map f ((ls ++ ws) ++ last ∷ [])) (lanes + k) ≡ Some new → slice_get turned k ≡ Some answer → WorkerGoes config run kept table (lanes + k) old.0 new.0 new.1 answer
    worker_so k old new answer below was is told =
        let x = from_map f passes (lanes + k) old was in let y = from_map f ((ls ++ ws) ++ last ∷ []) (lanes + k) new is in
        let count = other_count in
        let handed : get_or others k x.0 ≡ x.0 = other_at passes lanes few others last rest k x.0 (omega arith) ∙ got_is passes (lanes + k) x.0 x.0 x.1 in
        let now : get_or ws k y.0 ≡ y.0 = sym (worker_after k y.0 below) ∙ got_is ((ls ++ ws) ++ last ∷ []) (lanes + k) y.0 y.0 y.1 in
        let said : get_or turned k answer ≡ answer = got_is turned k answer answer told in
        let raw = subst (λ (p : X × X × Result (Unit {0}) Memory). WorkerGoes config run kept table (f p.0).1.number (f p.0).0 (f p.1).0 (f p.1).1 p.2) (λ i. (handed i, now i, said i))
        (workers_ran.ran k x.0 y.0 answer (omega arith)) in
        let numbered = subst (λ (n : ℕ). WorkerGoes config run kept table n (f x.0).0 (f y.0).0 (f y.0).1 answer) (numbers (lanes + k) x.0 x.1) raw in
        subst (λ (p : Pass × Pass). WorkerGoes config run kept table (lanes + k) p.0.0 p.1.0 p.1.1 answer) (λ i. (x.2 i, y.2 i)) numbered

    last_so : slice_get (map f ((ls ++ ws) ++ last ∷ [])) (lanes + workers) ≡ slice_get (map f passes) (lanes + workers)
    last_so =
        let count = other_count in
        let all : length ((ls ++ ws) ++ last ∷ []) ≡ lanes + workers + 1 = let l = length-append (ls ++ ws) (last ∷ []) in let b = both in omega arith in
        let was : get_or passes (lanes + workers) last ≡ last = ap (λ (n : ℕ). get_or passes (lanes + n) last) (sym other_count) ∙ last_at passes lanes few others last rest last in
        let is : get_or ((ls ++ ws) ++ last ∷ []) (lanes + workers) last ≡ get_or passes (lanes + workers) last = last_after last ∙ sym was in
        slice_get-map f ((ls ++ ws) ++ last ∷ []) (lanes + workers)
        ∙ (ap (option_map f) (slice_get-get_or ((ls ++ ws) ++ last ∷ []) (lanes + workers) last (omega arith) ∙ ((λ i. Some (is i)) ∙ sym (slice_get-get_or passes (lanes + workers) last (omega arith))))
        ∙ sym (slice_get-map f passes (lanes + workers)))

    pub have_run : (result : List X) → result ≡ (ls ++ ws) ++ last ∷ [] → HaveRun config run kept table items lanes workers (map f passes) (map f result) answers turned
    have_run result is = subst (λ (r : List X). HaveRun config run kept table items lanes workers (map f passes) (map f r) answers turned) (sym is) (record {
      as_many = let l = length-append (ls ++ ws) (last ∷ []) in let b = both in length-map ((ls ++ ws) ++ last ∷ []) f ∙ (omega arith);
      answered = lanes_ran.answered ∙ first_length passes lanes few;
      turned_are = workers_ran.answered ∙ other_count;
      lane = lane_so;
      worker = worker_so;
      last = last_so;
    })
