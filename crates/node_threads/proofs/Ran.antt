-- From slots to the lists that are handed in and given back.
use Rattle.std.proofs.Common.{◌≡◌, ◌≢◌, ℕ, ◌<◌, List, length, map, ◌++◌, ◌∷◌, [], get_or, All, Some, None, append_assoc, arith, ap, sym, ◌∙◌, subst}
use Rattle.std.proofs.lemmas.List.{get_or-map, length-map, append-nil, nil_from_length}
use Rattle.std.proofs.lemmas.Option.{none-some, same_Some}
use Rattle.node_threads.specs.declared.slots.Slot.{Slot}
use Rattle.node_threads.specs.Runs.{AllRan, HasRun, LanesRun, WorkersRun, LanesFit, WorkersFit, fresh_lane, fresh_worker}

-- the slots of tokens that fit have tokens that fit
pub lanes_fit : {T A : Type 0} (fits : ℕ → T → Type 0) (hs : List (ℕ × T)) (xs : List (Slot ℕ T A)) → ((k : ℕ) (d : ℕ × T) → k < length hs → fits (get_or hs k d).0 (get_or hs k d).1) → xs ≡ map fresh_lane hs → LanesFit fits xs
lanes_fit {T} {A} fits hs xs fit is k d below =
    let low : k < length hs = omega (arith, ap length is, length-map hs (fresh_lane {T = T} {A = A})) in
    subst (λ s. fits s.key s.token) (sym (ap (λ l. get_or l k d) is ∙ get_or-map fresh_lane hs k (d.key, d.token) d low)) (fit k (d.key, d.token) low)

pub workers_fit : {T A : Type 0} (fits : T → Type 0) (hs : List T) (xs : List (Slot (Unit {0}) T A)) → ((k : ℕ) (d : T) → k < length hs → fits (get_or hs k d)) → xs ≡ map fresh_worker hs → WorkersFit fits xs
workers_fit {T} {A} fits hs xs fit is k d below =
    let low : k < length hs = omega (arith, ap length is, length-map hs (fresh_worker {T = T} {A = A})) in
    subst (λ s. fits s.token) (sym (ap (λ l. get_or l k d) is ∙ get_or-map fresh_worker hs k d.token d low)) (fit k d.token low)

-- what runs leave meets their relation with what was handed in
module _ {K H T A : Type 0} (gives : K → T → T → A → Type 0) (fresh : H → Slot K T A) (hs : List H) (xs ys : List (Slot K T A)) (ts : List T) (os : List A)
    (is : xs ≡ map fresh hs) (run_len : length ys ≡ length xs) (each : (k : ℕ) (d : Slot K T A) → k < length xs → HasRun (gives (get_or xs k d).key) (get_or xs k d) (get_or ys k d))
    (tokens : ts ≡ map (λ s. s.token) ys) (answers : map Some os ≡ map (λ s. s.answer) ys) where
  lens : length ys ≡ length hs
  lens = run_len ∙ (ap length is ∙ length-map hs fresh)

  token_len : length ts ≡ length hs
  token_len = ap length tokens ∙ (length-map ys (λ s. s.token) ∙ lens)

  answer_len : length os ≡ length hs
  answer_len = sym (length-map os Some) ∙ (ap length answers ∙ (length-map ys (λ s. s.answer) ∙ lens))

  one : (k : ℕ) (h : H) (t : T) (a : A) → k < length hs → gives (fresh (get_or hs k h)).key (fresh (get_or hs k h)).token (get_or ts k t) (get_or os k a)
  one k h t a below =
      let d : Slot K T A = record { key = (fresh h).key; token = t; answer = Some a } in
      let before : get_or xs k d ≡ fresh (get_or hs k h) = ap (λ l. get_or l k d) is ∙ get_or-map fresh hs k h d below in
      let r : HasRun (gives (get_or xs k d).key) (get_or xs k d) (get_or ys k d) = each k d (omega (arith, below, lens, run_len)) in
      let in_ys : k < length ys = omega (arith, below, lens) in
      let token : get_or ts k t ≡ (get_or ys k d).token = ap (λ l. get_or l k t) tokens ∙ get_or-map (λ s. s.token) ys k d t in_ys in
      let said : Some (get_or os k a) ≡ Some r.answer =
      sym (get_or-map Some os k a (Some a) (omega (arith, below, answer_len)))
      ∙ (ap (λ l. get_or l k (Some a)) answers ∙ (get_or-map (λ s. s.answer) ys k d (Some a) in_ys ∙ r.answered)) in
      let answer : get_or os k a ≡ r.answer = same_Some _ _ said in
      subst (λ x. gives (fresh (get_or hs k h)).key (fresh (get_or hs k h)).token x (get_or os k a)) (sym token)
      (subst (λ x. gives (fresh (get_or hs k h)).key (fresh (get_or hs k h)).token (get_or ys k d).token x) (sym answer)
      (subst (λ s. gives s.key s.token (get_or ys k d).token r.answer) before r.gave))

  all_ran : AllRan (λ h. gives (fresh h).key (fresh h).token) hs ts os
  all_ran = record { tokens = token_len; answered = answer_len; ran = one }

-- each slot that has run has an answer
pub lanes_ended : {T A : Type 0} (gives : ℕ → T → T → A → Type 0) (xs ys : List (Slot ℕ T A)) → LanesRun gives xs ys → All (λ s. s.answer ≢ None) ys
lanes_ended gives xs ys run k d below none = let r = run.each k d (omega (arith, below, run.len)) in none-some r.answer (sym none ∙ r.answered)

pub workers_ended : {T A : Type 0} (gives : T → T → A → Type 0) (xs ys : List (Slot (Unit {0}) T A)) → WorkersRun gives xs ys → All (λ s. s.answer ≢ None) ys
workers_ended gives xs ys run k d below none = let r = run.each k d (omega (arith, below, run.len)) in none-some r.answer (sym none ∙ r.answered)

-- the same for lanes and for workers
pub lanes_ran : {T A : Type 0} (gives : ℕ → T → T → A → Type 0) (hs : List (ℕ × T)) (xs ys : List (Slot ℕ T A)) (ts : List T) (os : List A) → xs ≡ map fresh_lane hs → LanesRun gives xs ys → ts ≡ map (λ s. s.token) ys → map Some os ≡ map (λ s. s.answer) ys → AllRan (λ h. gives h.0 h.1) hs ts os
lanes_ran gives hs xs ys ts os is run tokens answers = all_ran gives fresh_lane hs xs ys ts os is run.len run.each tokens answers

pub workers_ran : {T A : Type 0} (gives : T → T → A → Type 0) (hs : List T) (xs ys : List (Slot (Unit {0}) T A)) (ts : List T) (os : List A) → xs ≡ map fresh_worker hs → WorkersRun gives xs ys → ts ≡ map (λ s. s.token) ys → map Some os ≡ map (λ s. s.answer) ys → AllRan gives hs ts os
workers_ran gives hs xs ys ts os is run tokens answers = all_ran (λ key. gives) fresh_worker hs xs ys ts os is run.len run.each tokens answers

-- One more is moved from what is left behind what is there
pub moved : {X Y : Type 0} (f : X → Y) (before after : List Y) (x : X) (rest left all : List X) → before ++ map f rest ≡ map f all → rest ≡ x ∷ left → after ≡ before ++ f x ∷ [] → after ++ map f left ≡ map f all
moved f before after x rest left all was step put = ap (λ l. l ++ map f left) put ∙ (append_assoc before (f x ∷ []) (map f left) ∙ (ap (λ l. before ++ map f l) (sym step) ∙ was))

-- none is left, so all are there
pub all_moved : {X Y : Type 0} (f : X → Y) (there : List Y) (rest all given : List X) → there ++ map f rest ≡ map f all → length rest ≡ 0 → all ≡ given → there ≡ map f given
all_moved f there rest all given was none is = sym (append-nil there) ∙ (ap (λ l. there ++ map f l) (sym (nil_from_length rest none)) ∙ (was ∙ ap (map f) is))

-- a run of what a slot was, to what it is
pub run_between : {K T A : Type 0} (gives : T → T → A → Type 0) (x y : Slot K T A) (before after : Slot K T A) → before ≡ x → after ≡ y → HasRun gives before after → HasRun gives x y
run_between gives x y before after was is run = subst (λ s. HasRun gives x s) is (subst (λ s. HasRun gives s after) was run)
