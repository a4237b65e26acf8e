-- A cut made step by step: segment after segment of a shard, and shard after shard of the order.
use Rattle.std.proofs.Common.{◌≡◌, ◌≢◌, ℕ, zero, suc, ◌+◌, ◌-◌, ◌*◌, ◌<◌, ◌≤◌, max, false, List, [], ◌∷◌, ◌++◌, take, drop, length, Some, refl, sym, ap, ◌∙◌, subst, ⊎_elim, ◌⊎◌, inl, inr, arith, append_assoc}
use Rattle.std.specs.Prelude.{slice_index, slice_set, slice_get}
use Rattle.std.specs.List.{Contains}
use Rattle.std.specs.Option.{option_map}
use Rattle.std.proofs.lemmas.Bool.{cases_eq, cases_order}
use Rattle.std.proofs.lemmas.Option.{slice_get-get_or}
use Rattle.std.proofs.lemmas.List.{append-nil, map-append, get_or-set_same, get_or-set_other}
use Rattle.std.proofs.lemmas.List.Elements.{Contains-append_cases}
use Rattle.std.proofs.Math.Nat.{mul-le-mul_left}
use Rattle.log_base.specs.declared.numbers.Shard.{Shard}
use Rattle.log_base.specs.declared.numbers.Place.{Place}
use Rattle.log_model.specs.Places.{place_at, places_from}
use Rattle.log_model.specs.Lookup.{segment_index}
use Rattle.log_model.specs.Chain.{ShardState, raised, cut_shard, covered_in_segments, covered_in_shard, covered_in_shards}
use Rattle.shard_registry.specs.declared.answers.State.{State}
use Rattle.shard_registry.specs.Order.{Order, shard_in, is_listed}
use Rattle.cut_chain.specs.Covering.{stretch, lengths_of, standing_of, shard_state, shards_of, cut_shards, AreApart, AreCovered}
use Rattle.cut_chain.proofs.Stretches.{stretch-same, stretch-raised}
use Rattle.cut_chain.proofs.Apart.{listed_at, absent_before, absent_after, drop_at, take_at, shards-kept}

-- A place that stands in a run is of its segment, at an offset of it.
pub run-get : (shard segment first count index : ℕ) (place : Place) → slice_get (places_from shard segment first count) index ≡ Some place
    → (place_at shard segment (first + index) ≡ place) × (index < count)
run-get shard segment first zero index place stands = absurd (cc)
run-get shard segment first (suc count) zero place stands =
    let same : place_at shard segment first ≡ place = cc in
    let sum : first + 0 ≡ first = omega arith in
    (ap (place_at shard segment) sum ∙ same, omega arith)
run-get shard segment first (suc count) (suc index) place stands =
    let again = run-get shard segment (suc first) count index place stands in
    let sum : first + suc index ≡ suc first + index = omega arith in
    (ap (place_at shard segment) sum ∙ again.0, omega (arith, again.1))

pub run-contains : (shard segment first count : ℕ) (place : Place) → Contains (places_from shard segment first count) place
    → (shard ≡ place.shard.0) × (segment ≡ place.segment.0) × (place.offset < first + count)
run-contains shard segment first count place found =
    let at = run-get shard segment first count found.0 place
    (slice_get-get_or (places_from shard segment first count) found.0 place found.1 ∙ ap Some found.2) in
    let offset : first + found.0 ≡ place.offset = ap (λ (p : Place). p.offset) at.0 in
    (ap (λ (p : Place). p.shard.0) at.0, ap (λ (p : Place). p.segment.0) at.0, omega (arith, offset, at.1))

-- What a length covers stays covered where lengths rise, and a run up to the raised length is covered too.
pub AreCovered-run : (replicas : ℕ) (before after : List ℕ) (places : List Place) (shard segment count : ℕ) → segment < replicas
    → ((k : ℕ) → slice_index before k ≤ slice_index after k)
    → slice_index before (segment_index replicas shard segment) + count ≤ slice_index after (segment_index replicas shard segment)
    → AreCovered replicas before places
    → AreCovered replicas after (places ++ places_from shard segment (slice_index before (segment_index replicas shard segment)) count)
AreCovered-run replicas before after places shard segment count small rises top covered = λ s g offset found.
    let first = slice_index before (segment_index replicas shard segment) in
    ⊎_elim
    (λ old.
    let below = covered s g offset old in
    let up = rises (segment_index replicas s g) in
    (below.0, omega (arith, below.1, up)))
    (λ new.
    let at = run-contains shard segment first count (place_at s g offset) new in
    let value : slice_index after (segment_index replicas shard segment) ≡ slice_index after (segment_index replicas s g) =
    ap (λ (n : ℕ). slice_index after (segment_index replicas n segment)) at.0 ∙ ap (λ (n : ℕ). slice_index after (segment_index replicas s n)) at.1 in
    (omega (arith, at.1), omega (arith, at.2, value, top)))
    (Contains-append_cases places (places_from shard segment first count) (place_at s g offset) found)

-- A length at an index is raised; the others stay.
pub set-rises : (lengths : List ℕ) (at value : ℕ) → at < length lengths → slice_index lengths at ≤ value
    → (k : ℕ) → slice_index lengths k ≤ slice_index (slice_set lengths at value) k
set-rises lengths at value within up k =
    ⊎_elim
    (λ same.
    let here : slice_index (slice_set lengths at value) at ≡ value = get_or-set_same lengths at value 0 within in
    rw same (omega (arith, here, up)))
    (λ (other : k ≢ at).
    let kept : slice_index (slice_set lengths at value) k ≡ slice_index lengths k = rw get_or-set_other refl in
    omega (arith, kept))
    (cases_eq k at)

-- The same for a length that is raised at an index.
pub covered_after : (replicas : ℕ) (lengths : List ℕ) (places : List Place) (shard segment at value : ℕ) → at ≡ segment_index replicas shard segment
    → at < length lengths → segment < replicas → slice_index lengths at ≤ value → AreCovered replicas lengths places
    → AreCovered replicas (slice_set lengths at value) (places ++ places_from shard segment (slice_index lengths at) (value - slice_index lengths at))
covered_after replicas lengths places shard segment at value is within small up covered =
    let here = segment_index replicas shard segment in
    let inside : here < length lengths = omega (arith, is, within) in
    let value_here : slice_index lengths at ≡ slice_index lengths here = ap (slice_index lengths) is in
    let rises : slice_index lengths here ≤ value = omega (arith, up, value_here) in
    let top : slice_index (slice_set lengths here value) here ≡ value = get_or-set_same lengths here value 0 inside in
    subst (λ (n : ℕ). AreCovered replicas (slice_set lengths n value) (places ++ places_from shard segment (slice_index lengths n) (value - slice_index lengths n))) (sym is)
    (AreCovered-run replicas lengths (slice_set lengths here value) places shard segment (value - slice_index lengths here) small
    (set-rises lengths here value inside rises) (omega (arith, top, rises)) covered)

-- What stands after the first segments of a shard: the places of the others are still to come, and so are their lengths.
pub record PartOfShard (replicas shard : ℕ) (lengths before : List ℕ) (first : List Place) (segment : ℕ) (now : List ℕ) (places : List Place) : Type 0 where
  pub spelled : places ++ covered_in_segments shard segment lengths (shard * replicas + segment) (stretch now (shard * replicas + segment) (replicas - segment))
      ≡ first ++ covered_in_segments shard 0 lengths (shard * replicas) (lengths_of replicas before shard)
  pub front : (k : ℕ) → k < shard * replicas → slice_index now k ≡ slice_index before k
  pub rose : (k : ℕ) → shard * replicas ≤ k → k < shard * replicas + segment → slice_index now k ≡ max (slice_index before k) (slice_index lengths k)
  pub back : (k : ℕ) → shard * replicas + segment ≤ k → slice_index now k ≡ slice_index before k

pub shard_begins : (replicas shard : ℕ) (lengths before : List ℕ) (first : List Place) → PartOfShard replicas shard lengths before first 0 before first
shard_begins replicas shard lengths before first =
    let sum : shard * replicas + 0 ≡ shard * replicas = omega arith in
    let all : replicas - 0 ≡ replicas = omega arith in
    record {
      spelled = ap (λ (n : ℕ). first ++ covered_in_segments shard 0 lengths n (stretch before n (replicas - 0))) sum
          ∙ ap (λ (n : ℕ). first ++ covered_in_segments shard 0 lengths (shard * replicas) (stretch before (shard * replicas) n)) all;
      front = λ k below. refl;
      rose = λ k above below. absurd (omega arith);
      back = λ k above. refl;
    }

-- The places of a segment, and of those after it.
first_segment : (replicas shard segment left at : ℕ) (lengths now : List ℕ) (places : List Place) → replicas - segment ≡ suc left
    → places ++ covered_in_segments shard segment lengths at (stretch now at (replicas - segment))
    ≡ (places ++ places_from shard segment (slice_index now at) (slice_index lengths at - slice_index now at))
    ++ covered_in_segments shard (suc segment) lengths (suc at) (stretch now (suc at) left)
first_segment replicas shard segment left at lengths now places size =
    ap (λ (n : ℕ). places ++ covered_in_segments shard segment lengths at (stretch now at n)) size
    ∙ sym (append_assoc places (places_from shard segment (slice_index now at) (slice_index lengths at - slice_index now at))
    (covered_in_segments shard (suc segment) lengths (suc at) (stretch now (suc at) left)))

pub shard_goes_on : (replicas shard segment : ℕ) (lengths before now after : List ℕ) (first places more : List Place) → segment < replicas
    → shard * replicas + segment < length now
    → after ≡ slice_set now (shard * replicas + segment) (max (slice_index now (shard * replicas + segment)) (slice_index lengths (shard * replicas + segment)))
    → more ≡ places ++ places_from shard segment (slice_index now (shard * replicas + segment)) (slice_index lengths (shard * replicas + segment) - slice_index now (shard * replicas + segment))
    → PartOfShard replicas shard lengths before first segment now places
    → PartOfShard replicas shard lengths before first (segment + 1) after more
shard_goes_on replicas shard segment lengths before now after first places more small within is_set is_more part =
    let at = shard * replicas + segment in
    let value = max (slice_index now at) (slice_index lengths at) in
    let left = replicas - suc segment in
    let size : replicas - segment ≡ suc left = omega arith in
    let here : slice_index after at ≡ value = ap (λ (l : List ℕ). slice_index l at) is_set ∙ get_or-set_same now at value 0 within in
    let others : (k : ℕ) → k ≢ at → slice_index after k ≡ slice_index now k = λ k other.
    ap (λ (l : List ℕ). slice_index l k) is_set ∙ (rw get_or-set_other refl) in
    let next : shard * replicas + (segment + 1) ≡ suc at = omega arith in
    let one : segment + 1 ≡ suc segment = omega arith in
    let fewer : replicas - (segment + 1) ≡ left = omega arith in
    let kept : stretch after (suc at) left ≡ stretch now (suc at) left =
    stretch-same now after (suc at) left (λ k above below. others k (λ e. omega arith)) in
    record {
      spelled =
          ap (λ (n : ℕ). more ++ covered_in_segments shard n lengths (shard * replicas + (segment + 1)) (stretch after (shard * replicas + (segment + 1)) (replicas - (segment + 1)))) one
          ∙ ap (λ (n : ℕ). more ++ covered_in_segments shard (suc segment) lengths n (stretch after n (replicas - (segment + 1)))) next
          ∙ ap (λ (n : ℕ). more ++ covered_in_segments shard (suc segment) lengths (suc at) (stretch after (suc at) n)) fewer
          ∙ ap (λ (l : List ℕ). more ++ covered_in_segments shard (suc segment) lengths (suc at) l) kept
          ∙ ap (λ (ps : List Place). ps ++ covered_in_segments shard (suc segment) lengths (suc at) (stretch now (suc at) left)) is_more
          ∙ sym (first_segment replicas shard segment left at lengths now places size)
          ∙ part.spelled;
      front = λ k below. others k (λ e. omega arith) ∙ part.front k below;
      rose = λ k above below.
          ⊎_elim
          (λ same.
          let old = part.back at (omega arith) in
          rw same (omega (arith, here, old)))
          (λ other. others k other ∙ part.rose k above (omega arith))
          (cases_eq k at);
      back = λ k above. others k (λ e. omega arith) ∙ part.back k (omega arith);
    }

suc_le : (a b : ℕ) → a < b → suc a ≤ b
suc_le a b below = omega arith

-- The lengths of two shards stand apart.
stretches_apart : (replicas shard other k : ℕ) → other ≢ shard → other * replicas ≤ k → k < other * replicas + replicas
    → (k < shard * replicas) ⊎ (shard * replicas + replicas ≤ k)
stretches_apart replicas shard other k differ above below =
    ⊎_elim
    (λ same. absurd (differ same))
    (⊎_elim
    (λ before.
    let step = mul-le-mul_left replicas (suc_le other shard before) in
    let sum : replicas * suc other ≡ other * replicas + replicas = grind arith in
    let turn : replicas * shard ≡ shard * replicas = grind arith in
    inl (omega (arith, step, sum, turn)))
    (λ after.
    let step = mul-le-mul_left replicas (suc_le shard other after) in
    let sum : replicas * suc shard ≡ shard * replicas + replicas = grind arith in
    let turn : replicas * other ≡ other * replicas = grind arith in
    inr (omega (arith, step, sum, turn))))
    (cases_order other shard)

-- The index of a segment of the config is one of 32.
pub index_within : (replicas shards shard segment : ℕ) → shard < shards → segment < replicas → replicas * shards ≤ 32 → shard * replicas + segment < 32
index_within replicas shards shard segment own small fits =
    let step = mul-le-mul_left replicas (suc_le shard shards own) in
    let sum : replicas * suc shard ≡ shard * replicas + replicas = grind arith in
    omega (arith, step, sum)

-- What stands after all segments of a shard.
pub shard_ends : (replicas shard : ℕ) (lengths before : List ℕ) (first : List Place) (now : List ℕ) (places : List Place)
    → PartOfShard replicas shard lengths before first replicas now places
    → (places ≡ first ++ covered_in_segments shard 0 lengths (shard * replicas) (lengths_of replicas before shard))
    × (lengths_of replicas now shard ≡ raised lengths (shard * replicas) (lengths_of replicas before shard))
    × ((other : ℕ) → other ≢ shard → lengths_of replicas now other ≡ lengths_of replicas before other)
shard_ends replicas shard lengths before first now places part =
    let none : replicas - replicas ≡ 0 = omega arith in
    let nothing : covered_in_segments shard replicas lengths (shard * replicas + replicas) (stretch now (shard * replicas + replicas) (replicas - replicas)) ≡ [] =
    ap (λ (n : ℕ). covered_in_segments shard replicas lengths (shard * replicas + replicas) (stretch now (shard * replicas + replicas) n)) none in (
      sym (append-nil places) ∙ ap (λ (ps : List Place). places ++ ps) (sym nothing) ∙ part.spelled,
      stretch-raised before now lengths (shard * replicas) replicas part.rose,
      λ other differ. stretch-same before now (other * replicas) replicas (λ k above below.
          ⊎_elim (part.front k) (part.back k) (stretches_apart replicas shard other k differ above below)),
    )

-- A shard of the order is listed there.
not_own : (order : Order) (index : ℕ) (shard : Shard) (state : State) → slice_get order index ≡ Some (shard, state) → is_listed order shard.0 ≡ false → ⊥
not_own order index shard state stands absent =
    let listed = listed_at order index shard (ap (option_map shard_in) stands) in cc

drop_all : (order : Order) → drop (length order) order ≡ []
drop_all [] = refl
drop_all (entry ∷ rest) = drop_all rest

take_whole : (order : Order) → take (length order) order ≡ order
take_whole [] = refl
take_whole (entry ∷ rest) = ap (λ (es : Order). entry ∷ es) (take_whole rest)

-- What stands after the first shards of an order.
pub record PartOfCut (replicas : ℕ) (lengths : List ℕ) (order : Order) (before : List ℕ) (first : List Place) (index : ℕ) (now : List ℕ) (places : List Place) : Type 0 where
  pub spelled : places ++ covered_in_shards replicas lengths (shards_of replicas now (drop index order))
      ≡ first ++ covered_in_shards replicas lengths (shards_of replicas before order)
  pub rose : shards_of replicas now (take index order) ++ cut_shards replicas lengths (shards_of replicas now (drop index order))
      ≡ cut_shards replicas lengths (shards_of replicas before order)
  pub unlisted : (shard : ℕ) → is_listed order shard ≡ false → lengths_of replicas now shard ≡ lengths_of replicas before shard
  pub covered : AreCovered replicas now places

pub cut_begins : (replicas : ℕ) (lengths : List ℕ) (order : Order) (before : List ℕ) (first : List Place) → AreCovered replicas before first
    → PartOfCut replicas lengths order before first 0 before first
cut_begins replicas lengths order before first covered = record { spelled = refl; rose = refl; unlisted = λ shard absent. refl; covered = covered }

pub cut_goes_on : (replicas : ℕ) (lengths : List ℕ) (order : Order) (before : List ℕ) (first : List Place) (index : ℕ) (now after : List ℕ) (places more : List Place)
    (shard : Shard) (state : State) → AreApart order → slice_get order index ≡ Some (shard, state)
    → more ≡ places ++ covered_in_shard replicas lengths (standing_of state) (shard_state replicas now (shard, state))
    → shard_state replicas after (shard, state) ≡ cut_shard replicas lengths (standing_of state) (shard_state replicas now (shard, state))
    → ((other : ℕ) → other ≢ shard.0 → lengths_of replicas after other ≡ lengths_of replicas now other)
    → AreCovered replicas after more
    → PartOfCut replicas lengths order before first index now places
    → PartOfCut replicas lengths order before first (index + 1) after more
cut_goes_on replicas lengths order before first index now after places more shard state apart stands is_more is_cut others covered part =
    let entry : Shard × State = (shard, state) in
    let done = take index order in
    let todo = drop (suc index) order in
    let rest : drop index order ≡ entry ∷ todo = drop_at order index entry stands in
    let front : take (suc index) order ≡ done ++ entry ∷ [] = take_at order index entry stands in
    let same_todo = shards-kept replicas now after todo shard.0 (absent_after order index entry apart stands) others in
    let same_done = shards-kept replicas now after done shard.0 (absent_before order index entry apart stands) others in
    let one : index + 1 ≡ suc index = omega arith in
    let own = covered_in_shard replicas lengths (standing_of state) (shard_state replicas now entry) in
    let later = covered_in_shards replicas lengths (shards_of replicas now todo) in
    let cut_entry = cut_shard replicas lengths (standing_of state) (shard_state replicas now entry) in
    record {
      spelled =
          ap (λ (n : ℕ). more ++ covered_in_shards replicas lengths (shards_of replicas after (drop n order))) one
          ∙ ap (λ (states : List ShardState). more ++ covered_in_shards replicas lengths states) same_todo
          ∙ ap (λ (ps : List Place). ps ++ later) is_more
          ∙ append_assoc places own later
          ∙ ap (λ (es : Order). places ++ covered_in_shards replicas lengths (shards_of replicas now es)) (sym rest)
          ∙ part.spelled;
      rose =
          ap (λ (n : ℕ). shards_of replicas after (take n order) ++ cut_shards replicas lengths (shards_of replicas after (drop n order))) one
          ∙ ap (λ (es : Order). shards_of replicas after es ++ cut_shards replicas lengths (shards_of replicas after todo)) front
          ∙ ap (λ (states : List ShardState). states ++ cut_shards replicas lengths (shards_of replicas after todo)) (map-append (shard_state replicas after) done (entry ∷ []))
          ∙ ap (λ (states : List ShardState). (states ++ shard_state replicas after entry ∷ []) ++ cut_shards replicas lengths (shards_of replicas after todo)) same_done
          ∙ ap (λ (s : ShardState). (shards_of replicas now done ++ s ∷ []) ++ cut_shards replicas lengths (shards_of replicas after todo)) is_cut
          ∙ ap (λ (states : List ShardState). (shards_of replicas now done ++ cut_entry ∷ []) ++ cut_shards replicas lengths states) same_todo
          ∙ append_assoc (shards_of replicas now done) (cut_entry ∷ []) (cut_shards replicas lengths (shards_of replicas now todo))
          ∙ ap (λ (es : Order). shards_of replicas now done ++ cut_shards replicas lengths (shards_of replicas now es)) (sym rest)
          ∙ part.rose;
      unlisted = λ t absent.
          let differ : t ≢ shard.0 = λ same. not_own order index shard state stands (subst (λ (n : ℕ). is_listed order n ≡ false) same absent) in
          others t differ ∙ part.unlisted t absent;
      covered = covered;
    }

-- What stands after all shards.
pub cut_ends : (replicas : ℕ) (lengths : List ℕ) (order : Order) (before : List ℕ) (first : List Place) (index : ℕ) (now : List ℕ) (places : List Place)
    → index ≡ length order → PartOfCut replicas lengths order before first index now places
    → (places ≡ first ++ covered_in_shards replicas lengths (shards_of replicas before order))
    × (shards_of replicas now order ≡ cut_shards replicas lengths (shards_of replicas before order))
cut_ends replicas lengths order before first index now places all part =
    let nothing : drop index order ≡ [] = ap (λ (n : ℕ). drop n order) all ∙ drop_all order in
    let whole : take index order ≡ order = ap (λ (n : ℕ). take n order) all ∙ take_whole order in (
      sym (append-nil places) ∙ ap (λ (es : Order). places ++ covered_in_shards replicas lengths (shards_of replicas now es)) (sym nothing) ∙ part.spelled,
      sym (append-nil (shards_of replicas now order))
          ∙ ap (λ (es : Order). shards_of replicas now order ++ cut_shards replicas lengths (shards_of replicas now es)) (sym nothing)
          ∙ ap (λ (es : Order). shards_of replicas now es ++ cut_shards replicas lengths (shards_of replicas now (drop index order))) (sym whole)
          ∙ part.rose,
    )

-- One shard fewer is left, and so is the room of one.
pub fewer_left : (replicas size index room after : ℕ) → index < size → replicas * (size - index) ≤ room → room ≤ after + replicas
    → replicas * (size - (index + 1)) ≤ after
fewer_left replicas size index room after within has used =
    let left = size - suc index in
    let now : size - index ≡ suc left = omega arith in
    let next : size - (index + 1) ≡ left = omega arith in
    let product : replicas * (size - index) ≡ replicas * suc left = ap (λ (n : ℕ). replicas * n) now in
    let sum : replicas * suc left ≡ replicas * left + replicas = grind arith in
    let fewer : replicas * (size - (index + 1)) ≡ replicas * left = ap (λ (n : ℕ). replicas * n) next in
    omega (arith, has, used, product, sum, fewer)

-- The loop over the segments of a shard, with the room and the number of the places.
pub record ShardLoop (replicas shard : ℕ) (lengths before : List ℕ) (first : List Place) (had segment : ℕ) (now : List ℕ) (places : List Place) (room count : ℕ) : Type 0 where
  pub part : PartOfShard replicas shard lengths before first segment now places
  pub covered : AreCovered replicas now places
  pub has_room : had ≤ room + segment
  pub counted : length places ≡ length first + count
  pub small : count ≤ segment * 16384

-- The loop over the shards of an order, likewise.
pub record CutLoop (replicas : ℕ) (lengths : List ℕ) (order : Order) (before : List ℕ) (first : List Place) (index : ℕ) (now : List ℕ) (places : List Place) (room count : ℕ) : Type 0 where
  pub part : PartOfCut replicas lengths order before first index now places
  pub has_room : replicas * (length order - index) ≤ room
  pub counted : length places ≡ length first + count
  pub small : count ≤ index * 81920
