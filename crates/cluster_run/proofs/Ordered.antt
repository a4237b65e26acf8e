-- Replies are put in the order of items, the last first.
use Rattle.std.proofs.Common.{◌≡◌, ◌≢◌, ◌<◌, ◌≤◌, ℕ, zero, suc, ◌+◌, ◌-◌, List, [], ◌∷◌, ◌++◌, length, length-append, length-take-le, map, reverse, take, get_or, set, slice_get, Some, Result, Ok, refl, sym, ap, ◌∙◌, ⊎_elim, arith, get_or-set_same, get_or-set_other}
use Rattle.std.proofs.Math.ListN.{get_or-append}
use Rattle.std.proofs.lemmas.Bool.{cases_eq, cases_lt}
use Rattle.std.proofs.lemmas.List.{get_or-append_right, get_or-map, get_or-reverse, get_or-take, length-map, length-reverse, length-set, take-append-le, take_all}
use Rattle.std.specs.Option.{option_map}
use Rattle.std.proofs.lemmas.Option.{same_Some, slice_get-get_or, slice_get-map, slice_get_within}
use Rattle.log_base.specs.declared.outside.Memory.{Memory}
use Rattle.reply_frame.specs.declared.replies.Reply.{Reply, Nothing}
use Rattle.cluster_run.specs.Ordering.{AreAnswered, AreInOrder, HaveReplies, count_before}
use Rattle.cluster_run.specs.Taking.{IsTaken}
use Rattle.cluster_run.proofs.Counting.{count_all, count_most, count_other, count_same}

abbrev pub list_of : List (List Reply) → ℕ → List Reply
list_of lists lane = get_or lists lane []

-- the lane of the item that comes so many before the last
abbrev pub lane_from_end : List ℕ → ℕ → ℕ
lane_from_end lanes j = get_or lanes (length lanes - 1 - j) 0

-- As many replies were taken: those of the last items, the last first. The others are in the lists yet.
pub record SoFar (lanes : List ℕ) (lists now : List (List Reply)) (replies : List Reply) (done : ℕ) : Type 0 where
  pub few : done ≤ length lanes
  pub as_many : length now ≡ length lists
  pub long : length replies ≡ done
  pub got : (j : ℕ) (d : Reply) → j < done
      → get_or replies j d ≡ get_or (list_of lists (lane_from_end lanes j)) (count_before lanes (lane_from_end lanes j) (length lanes - 1 - j)) d
  pub left : (lane : ℕ) → lane < length lists → list_of now lane ≡ take (count_before lanes lane (length lanes - done)) (list_of lists lane)

take_less : (xs : List Reply) (c : ℕ) → take c (take (suc c) xs) ≡ take c xs
take_less [] zero = refl
take_less [] (suc c) = refl
take_less (x ∷ xs) zero = refl
take_less (x ∷ xs) (suc c) = ap (λ (l : List Reply). x ∷ l) (take_less xs c)

-- the front of a list, and its last
last_of_take : (xs ys : List Reply) (x : Reply) (c : ℕ) → suc c ≤ length xs → take (suc c) xs ≡ ys ++ x ∷ [] → (ys ≡ take c xs) × ((d : Reply) → get_or xs c d ≡ x)
last_of_take xs ys x c few e = (front, back)
  where
    size : length ys ≡ c
    size = let all = ap (length {A = Reply}) e in let one = length-append ys (x ∷ []) in let short = length-take-le (suc c) xs few in omega arith

    front : ys ≡ take c xs
    front =
        sym (take_all c ys (omega (arith, size))) ∙ (sym (take-append-le c ys (x ∷ []) (omega (arith, size)))
        ∙ (ap (take c) (sym e) ∙ take_less xs c))

    back : (d : Reply) → get_or xs c d ≡ x
    back d =
        let none : c - c ≡ 0 = omega arith in
        sym (get_or-take (suc c) xs c d (omega arith)) ∙ (ap (λ (l : List Reply). get_or l c d) e
        ∙ (get_or-append_right ys (x ∷ []) c c d size (omega arith) ∙ ap (λ (n : ℕ). get_or (x ∷ []) n d) none))

module _ (lanes : List ℕ) (lists : List (List Reply)) (answered : AreAnswered lanes lists) where
  -- how many items a lane has
  all_of : (lane : ℕ) → lane < length lists → (k : ℕ) → count_before lanes lane k ≤ length (list_of lists lane)
  all_of lane below k = let most = count_most lanes lane k in let all = count_all lanes lane in let size = answered.as_many lane below in omega arith

  -- nothing was taken
  pub begins : SoFar lanes lists lists [] 0
  begins = record {
    few = omega arith;
    as_many = refl;
    long = refl;
    got = λ j d below. absurd (omega arith);
    left = λ lane below.
        let n : length lanes - 0 ≡ length lanes = omega arith in
        let whole : count_before lanes lane (length lanes - 0) ≡ length (list_of lists lane) = ap (count_before lanes lane) n ∙ sym (answered.as_many lane below) in
        sym (take_all (count_before lanes lane (length lanes - 0)) (list_of lists lane) (omega (arith, whole)));
  }

  module _ (now : List (List Reply)) (replies : List Reply) (done : ℕ) (far : SoFar lanes lists now replies done) (below : done < length lanes) where
    there : slice_get lanes (length lanes - 1 - done) ≡ Some (lane_from_end lanes done)
    there = slice_get-get_or lanes (length lanes - 1 - done) 0 (omega arith)

    pub within : lane_from_end lanes done < length now
    within = let here = answered.within (length lanes - 1 - done) (lane_from_end lanes done) there in let same = far.as_many in omega arith

    -- its lane has one reply more than before it
    one_more : count_before lanes (lane_from_end lanes done) (length lanes - done) ≡ suc (count_before lanes (lane_from_end lanes done) (length lanes - 1 - done))
    one_more =
        let up : length lanes - done ≡ suc (length lanes - 1 - done) = omega arith in
        ap (count_before lanes (lane_from_end lanes done)) up ∙ count_same lanes (lane_from_end lanes done) (length lanes - 1 - done) (lane_from_end lanes done) there refl

    pub some : list_of now (lane_from_end lanes done) ≢ []
    some none =
        let here = answered.within (length lanes - 1 - done) (lane_from_end lanes done) there in
        let left = far.left (lane_from_end lanes done) here in
        let few = all_of (lane_from_end lanes done) here (length lanes - done) in
        let size = length-take-le (count_before lanes (lane_from_end lanes done) (length lanes - done)) (list_of lists (lane_from_end lanes done)) few in
        let empty = ap (length {A = Reply}) (sym left ∙ none) in
        let more = one_more in omega arith

    module _ (new : List (List Reply)) (reply : Reply) (taken : IsTaken (lane_from_end lanes done) now new reply) where
      parts : (taken.left ≡ take (count_before lanes (lane_from_end lanes done) (length lanes - 1 - done)) (list_of lists (lane_from_end lanes done)))
          × ((d : Reply) → get_or (list_of lists (lane_from_end lanes done)) (count_before lanes (lane_from_end lanes done) (length lanes - 1 - done)) d ≡ reply)
      parts =
          let here = answered.within (length lanes - 1 - done) (lane_from_end lanes done) there in
          let few = all_of (lane_from_end lanes done) here (length lanes - done) in
          let more = one_more in
          last_of_take (list_of lists (lane_from_end lanes done)) taken.left reply (count_before lanes (lane_from_end lanes done) (length lanes - 1 - done)) (omega arith)
          (ap (λ (c : ℕ). take c (list_of lists (lane_from_end lanes done))) (sym one_more) ∙ (sym (far.left (lane_from_end lanes done) here) ∙ taken.was))

      pub goes_on : (next : ℕ) → next ≡ done + 1 → (after : List Reply) → after ≡ replies ++ reply ∷ [] → SoFar lanes lists new after next
      goes_on next up after put = record {
        few = omega arith;
        as_many = ap (length {A = List Reply}) taken.new_is ∙ (length-set now (lane_from_end lanes done) taken.left ∙ far.as_many);
        long = let all = ap (length {A = Reply}) put in let one = length-append replies (reply ∷ []) in let long = far.long in omega arith;
        got = λ j d low. ⊎_elim (λ (before : j < done). old j d before) (λ (past : done ≤ j). newest j d (omega arith)) (cases_lt j done);
        left = λ lane low. ⊎_elim (λ (same : lane ≡ lane_from_end lanes done). mine lane low same) (λ (other : lane ≢ lane_from_end lanes done). others lane low other) (cases_eq lane (lane_from_end lanes done));
      }
        where
          old : (j : ℕ) (d : Reply) → j < done → get_or after j d ≡ get_or (list_of lists (lane_from_end lanes j)) (count_before lanes (lane_from_end lanes j) (length lanes - 1 - j)) d
          old j d before = ap (λ (l : List Reply). get_or l j d) put ∙ (get_or-append replies (reply ∷ []) d j (let long = far.long in omega arith) ∙ far.got j d before)

          newest : (j : ℕ) (d : Reply) → j ≡ done → get_or after j d ≡ get_or (list_of lists (lane_from_end lanes j)) (count_before lanes (lane_from_end lanes j) (length lanes - 1 - j)) d
          newest j d is =
              let zero_at : j - done ≡ 0 = omega arith in
              ap (λ (l : List Reply). get_or l j d) put
              ∙ (get_or-append_right replies (reply ∷ []) done j d far.long (omega arith) ∙ (ap (λ (n : ℕ). get_or (reply ∷ []) n d) zero_at
              ∙ (sym (parts.1 d) ∙ ap (λ (n : ℕ). get_or (list_of lists (lane_from_end lanes n)) (count_before lanes (lane_from_end lanes n) (length lanes - 1 - n)) d) (sym is))))

          down : length lanes - next ≡ length lanes - 1 - done
          down = omega arith

          mine : (lane : ℕ) → lane < length lists → lane ≡ lane_from_end lanes done → list_of new lane ≡ take (count_before lanes lane (length lanes - next)) (list_of lists lane)
          mine lane low same =
              ap (λ (n : ℕ). list_of new n) same
              ∙ (ap (λ (l : List (List Reply)). list_of l (lane_from_end lanes done)) taken.new_is
              ∙ (get_or-set_same now (lane_from_end lanes done) taken.left [] within
              ∙ (parts.0 ∙ (λ i. take (count_before lanes (sym same i) (sym down i)) (list_of lists (sym same i))))))

          others : (lane : ℕ) → lane < length lists → lane ≢ lane_from_end lanes done → list_of new lane ≡ take (count_before lanes lane (length lanes - next)) (list_of lists lane)
          others lane low other =
              let up : length lanes - done ≡ suc (length lanes - 1 - done) = omega arith in
              let same = count_other lanes lane (length lanes - 1 - done) (lane_from_end lanes done) there (λ e. other (sym e)) in
              ap (λ (l : List (List Reply)). list_of l lane) taken.new_is
              ∙ (get_or-set_other now (lane_from_end lanes done) lane taken.left [] other
              ∙ (far.left lane low ∙ ap (λ (c : ℕ). take c (list_of lists lane)) (ap (count_before lanes lane) up ∙ (same ∙ ap (count_before lanes lane) (sym down)))))

  -- all were taken
  pub ends : (now : List (List Reply)) (replies : List Reply) (done : ℕ) → SoFar lanes lists now replies done → length lanes ≤ done → AreInOrder lanes lists (reverse replies)
  ends now replies done far all = record {
    each = let long = far.long in let few = far.few in length-reverse replies ∙ (far.long ∙ (omega arith));
    at = λ k lane there.
        let long = far.long in let few = far.few in
        let low : k < length lanes = slice_get_within lanes k lane there in
        let j : ℕ = length lanes - 1 - k in
        let back : length lanes - 1 - (length lanes - 1 - k) ≡ k = omega arith in
        let count : length replies ≡ length lanes = omega arith in
        let is : get_or lanes k 0 ≡ lane = same_Some _ _ (sym (slice_get-get_or lanes k 0 low) ∙ there) in
        let here : lane_from_end lanes (length lanes - 1 - k) ≡ lane = ap (λ (n : ℕ). get_or lanes n 0) back ∙ is in
        let below = answered.within k lane there in
        let size = count_before lanes lane k in
        let up = count_same lanes lane k lane there refl in
        let few_so = all_of lane below (suc k) in
        let inside : count_before lanes lane k < length (list_of lists lane) = omega arith in
        slice_get-get_or (reverse replies) k Nothing (let r = length-reverse replies in omega arith)
        ∙ ((λ i. Some ((get_or-reverse replies k Nothing (omega arith) ∙ (ap (λ (n : ℕ). get_or replies (n - 1 - k) Nothing) count
        ∙ (far.got (length lanes - 1 - k) Nothing (omega arith) ∙ (λ e. get_or (list_of lists (here e)) (count_before lanes (here e) (back e)) Nothing)))) i))
        ∙ sym (slice_get-get_or (list_of lists lane) (count_before lanes lane k) Nothing inside));
  }

-- the last reply of one of the lists is taken
pub taken_is : {V : Type 0} (f : V → List Reply) (lists : List V) (lane : ℕ) (old new : V) (reply : Reply) → lane < length lists → old ≡ get_or lists lane old → f old ≡ f new ++ reply ∷ []
    → IsTaken lane (map f lists) (map f (set lists lane new)) reply
taken_is f lists lane old new reply below here last = record {
  left = f new;
  was = get_or-map f lists lane old [] below ∙ (ap f (sym here) ∙ last);
  new_is = set_mapped f lists lane new;
}
  where
    set_mapped : {V : Type 0} (f : V → List Reply) (lists : List V) (lane : ℕ) (new : V) → map f (set lists lane new) ≡ set (map f lists) lane (f new)
    set_mapped f [] lane new = refl
    set_mapped f (x ∷ xs) zero new = refl
    set_mapped f (x ∷ xs) (suc lane) new = ap (λ (l : List (List Reply)). f x ∷ l) (set_mapped f xs lane new)

-- ---- answers

map_twice : {U V W : Type 0} (g : V → W) (f : U → V) (xs : List U) → map (λ x. g (f x)) xs ≡ map g (map f xs)
map_twice g f [] = refl
map_twice {U} {V} {W} g f (x ∷ xs) = ap (λ (l : List W). g (f x) ∷ l) (map_twice g f xs)

abbrev ok_of : List Reply → Result (List Reply) Memory
ok_of list = Ok list

pub answers_mapped : {V : Type 0} (f : V → List Reply) (lists : List V) (answers : List (Result (List Reply) Memory)) → answers ≡ map (λ v. Ok (f v)) lists
    → answers ≡ map (λ (list : List Reply). Ok list) (map f lists)
answers_mapped f lists answers are = are ∙ map_twice ok_of f lists

-- lanes that answered with replies have as many as items
pub are_answered : (lanes : List ℕ) (answers : List (Result (List Reply) Memory)) (lists : List (List Reply)) → answers ≡ map (λ (list : List Reply). Ok list) lists
    → HaveReplies lanes answers → AreAnswered lanes lists
are_answered lanes answers lists are have = record {
  within = λ k lane there. let low = have.within k lane there in let size = same_size in omega arith;
  as_many = λ lane below.
      have.as_many lane (list_of lists lane)
      (ap (λ (l : List (Result (List Reply) Memory)). slice_get l lane) are
      ∙ (slice_get-map ok_of lists lane ∙ ap (option_map ok_of) (slice_get-get_or lists lane [] below)));
}
  where
    same_size : length answers ≡ length lists
    same_size = ap (length {A = Result (List Reply) Memory}) are ∙ length-map lists ok_of
