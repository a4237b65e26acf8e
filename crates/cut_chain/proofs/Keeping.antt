-- What a chain knows after each value, and what its parts keep true.
use Rattle.std.proofs.Common.{◌≡◌, ℕ, zero, suc, ◌+◌, ◌*◌, ◌<◌, ◌≤◌, max, min, true, false, eqb, List, [], ◌∷◌, ◌++◌, map, length, replicate, Option, None, refl, sym, ap, ◌∙◌, subst, ⊎_elim, ◌⊎◌, inl, inr, arith, length-append}
use Rattle.std.specs.Prelude.{slice_index}
use Rattle.std.specs.List.{All, Contains}
use Rattle.std.specs.Option.{option_map}
use Rattle.std.proofs.lemmas.Bool.{cond-true, cond-false, cases_Bool, cases_eq, cases_lt, eq-eqb, ne_eqb}
use Rattle.std.proofs.lemmas.List.{append-nil, map-append}
use Rattle.std.proofs.lemmas.List.Elements.{All-nil, All-push, All-map, All-weaker}
use Rattle.log_base.specs.ClusterShape.{Shape}
use Rattle.log_base.specs.declared.numbers.Shard.{Shard}
use Rattle.log_base.specs.declared.numbers.Place.{Place}
use Rattle.record_frame.specs.declared.values.Lengths.{Lengths}
use Rattle.record_frame.specs.declared.values.Value.{Value}
use Rattle.record_frame.specs.declared.values.Value.TheVariants.{Noop, Cut, Add, Finalise, Trim}
use Rattle.log_model.specs.Places.{place_at}
use Rattle.log_model.specs.Lookup.{segment_index, position_from}
use Rattle.log_model.specs.Chain.{ChainState, ShardState, Live as LiveStanding, Frozen, is_of, is_added, freeze, apply, covered_of, covered_length, covered_in_shards, state_in, AreApart as ApartStates}
use Rattle.log_model.specs.Spelling.{spell}
use Rattle.log_model.proofs.States.{state_in-here, state_in-later, replicate-zero}
use Rattle.log_model.proofs.Spelled.{spelled_where_covered}
use Rattle.log_model.proofs.Growth.{chain_of-IsChain}
use Rattle.log_model.proofs.Position.{position_from_none}
use Rattle.log_model.proofs.Times.{times, contained_where_listed}
use Rattle.shard_registry.specs.declared.answers.State.{State}
use Rattle.shard_registry.specs.declared.answers.State.TheVariants.{Live, Finalised}
use Rattle.shard_registry.specs.Order.{Order, number, is_shard, is_listed, state_in_order, added, ended_entry, finalised, state_of}
use Rattle.shard_registry.proofs.Follows.{state-entries_of}
use Rattle.cut_chain.specs.Covering.{lengths_of, shard_state, shards_of, cut_shards, AreApart, AreCovered}
use Rattle.cut_chain.specs.Known.{Known, known_of, learned}
use Rattle.cut_chain.specs.Kept.{known_from, IsKept}
use Rattle.cut_chain.proofs.Stretches.{stretch-index, stretch-past}
use Rattle.cut_chain.proofs.Apart.{entries-back, listed-shards_of, apart_from_states, first_other}
use Rattle.cut_chain.proofs.Growing.{known, same_known, known_grows}

-- the chain that the parts stand for
abbrev pub chain_from : ℕ → Order → List ℕ → ℕ → ℕ → ChainState
chain_from replicas order covered end mark = record { shards = shards_of replicas covered order; end = end; mark = mark }

-- Parts that know one more value keep what the parts before them kept.
pub kept_on : (config : Shape) (order more : Order) (covered lengths : List ℕ) (places spelled : List Place) (end mark count last trim : ℕ) (value : Value)
    → IsKept config order covered places end mark count
    → All (λ (e : Shard × State). number e < config.shards) more
    → ((shard : ℕ) → is_listed more shard ≡ false → lengths_of config.replicas lengths shard ≡ replicate config.replicas 0)
    → count < 16384 → last ≤ end + 655360
    → known_from config more lengths spelled last trim (count + 1) ≡ learned (known_from config order covered places end mark count) value
    → IsKept config more lengths spelled last trim (count + 1)
kept_on config order more covered lengths places spelled end mark count last trim value is in_range unlisted few small grown = record {
  in_range = in_range;
  unlisted = unlisted;
  few = omega (arith, few);
  small = omega (arith, is.small, small);
  values = is.values ++ value ∷ [];
  made = grown ∙ ap (λ (k : Known). learned k value) is.made ∙ known_grows config is.values value;
}

known_empty : (config : Shape) (order : Order) (covered : List ℕ) (places : List Place) → order ≡ [] → places ≡ []
    → known_from config order covered places 0 0 0 ≡ known_of config []
known_empty config order covered places no_shard no_place =
    same_known config (chain_from config.replicas order covered 0 0) (chain_from config.replicas [] covered 0 0) places [] 0
    (ap (λ (o : Order). chain_from config.replicas o covered 0 0) no_shard) no_place

-- Parts with no shard and no place are those of no values.
pub kept_empty : (config : Shape) (order : Order) (covered : List ℕ) (places : List Place) → order ≡ [] → places ≡ []
    → ((shard : ℕ) → lengths_of config.replicas covered shard ≡ replicate config.replicas 0)
    → IsKept config order covered places 0 0 0
kept_empty config order covered places no_shard no_place zeros = record {
  in_range = subst (All (λ (e : Shard × State). number e < config.shards)) (sym no_shard) (All-nil (λ (e : Shard × State). number e < config.shards));
  unlisted = λ shard absent. zeros shard;
  few = omega arith;
  small = omega arith;
  values = [];
  made = known_empty config order covered places no_shard no_place;
}

pub known_noop : (config : Shape) (chain : ChainState) (places : List Place) (count : ℕ)
    → known config chain places (count + 1) ≡ learned (known config chain places count) Noop
known_noop config chain places count = same_known config chain chain places (places ++ []) (count + 1) refl (sym (append-nil places))

pub known_trim : (config : Shape) (order : Order) (covered : List ℕ) (places : List Place) (end mark position count : ℕ)
    → known_from config order covered places end (max mark (min position end)) (count + 1)
    ≡ learned (known_from config order covered places end mark count) (Trim (record { 0 = position }))
known_trim config order covered places end mark position count =
    same_known config (chain_from config.replicas order covered end (max mark (min position end))) _ places (places ++ []) (count + 1) refl (sym (append-nil places))

-- An addition puts the new shard, whose lengths are 0, at the end.
shards-added : (replicas : ℕ) (order : Order) (covered : List ℕ) (end mark : ℕ) (shard : Shard)
    → ((s : ℕ) → is_listed order s ≡ false → lengths_of replicas covered s ≡ replicate replicas 0)
    → chain_from replicas (added order shard.0) covered end mark ≡ apply replicas (chain_from replicas order covered end mark) (Add shard)
shards-added replicas order covered end mark shard unlisted =
    let chain = chain_from replicas order covered end mark in
    let test = listed-shards_of replicas covered order shard.0 in
    let new : Shard × State = (record { 0 = shard.0 }, Live) in
    ⊎_elim
    (λ listed.
    ap (λ (o : Order). chain_from replicas o covered end mark) (cond-true (is_listed order shard.0) order _ listed)
    ∙ sym (cond-true (is_added chain shard.0) chain _ (sym test ∙ listed)))
    (λ absent.
    let zeros : shard_state replicas covered new ≡ record { shard = shard.0; standing = LiveStanding; covered = replicate replicas 0 } =
    ap (λ (l : List ℕ). let s : ShardState = record { shard = shard.0; standing = LiveStanding; covered = l } in s) (unlisted shard.0 absent) in
    ap (λ (o : Order). chain_from replicas o covered end mark) (cond-false (is_listed order shard.0) order (order ++ new ∷ []) absent)
    ∙ ap (λ (states : List ShardState). let c : ChainState = record { shards = states; end = end; mark = mark } in c) (map-append (shard_state replicas covered) order (new ∷ []))
    ∙ ap (λ (s : ShardState). let c : ChainState = record { shards = shards_of replicas covered order ++ s ∷ []; end = end; mark = mark } in c) zeros
    ∙ sym (cond-false (is_added chain shard.0) chain _ (sym test ∙ absent)))
    (cases_Bool (is_listed order shard.0))

pub known_add : (config : Shape) (order : Order) (covered : List ℕ) (places : List Place) (end mark count : ℕ) (shard : Shard)
    → ((s : ℕ) → is_listed order s ≡ false → lengths_of config.replicas covered s ≡ replicate config.replicas 0)
    → known_from config (added order shard.0) covered places end mark (count + 1)
    ≡ learned (known_from config order covered places end mark count) (Add shard)
known_add config order covered places end mark count shard unlisted =
    same_known config _ _ places (places ++ []) (count + 1) (shards-added config.replicas order covered end mark shard unlisted) (sym (append-nil places))

-- An addition adds one shard to the listed ones, in range.
pub added-in_range : (order : Order) (most : ℕ) (shard : ℕ) → shard < most → All (λ (e : Shard × State). number e < most) order
    → All (λ (e : Shard × State). number e < most) (added order shard)
added-in_range order most shard small below =
    ⊎_elim
    (λ listed. subst (All (λ (e : Shard × State). number e < most)) (sym (cond-true (is_listed order shard) order _ listed)) below)
    (λ absent. subst (All (λ (e : Shard × State). number e < most)) (sym (cond-false (is_listed order shard) order _ absent))
    (All-push (λ (e : Shard × State). number e < most) order (record { 0 = shard }, Live) below small))
    (cases_Bool (is_listed order shard))

listed-front : (order more : Order) (shard : ℕ) → is_listed (order ++ more) shard ≡ false → is_listed order shard ≡ false
listed-front [] more shard absent = refl
listed-front (entry ∷ rest) more shard absent =
    ⊎_elim
    (λ own. let here : true ≡ false = rw own at absent in absurd (cc))
    (λ other. rw other (listed-front rest more shard (rw other at absent)))
    (cases_Bool (is_shard shard entry.0))

pub added-listed : (order : Order) (new shard : ℕ) → is_listed (added order new) shard ≡ false → is_listed order shard ≡ false
added-listed order new shard absent =
    ⊎_elim
    (λ listed. subst (λ (o : Order). is_listed o shard ≡ false) (cond-true (is_listed order new) order _ listed) absent)
    (λ is_new. listed-front order ((record { 0 = new }, Live) ∷ []) shard
    (subst (λ (o : Order). is_listed o shard ≡ false) (cond-false (is_listed order new) order _ is_new) absent))
    (cases_Bool (is_listed order new))

-- A finalisation freezes the shard.
shard_state-ended : (replicas : ℕ) (covered : List ℕ) (shard : ℕ) (entry : Shard × State)
    → shard_state replicas covered (ended_entry shard entry) ≡ freeze shard (shard_state replicas covered entry)
shard_state-ended replicas covered shard entry =
    let state = shard_state replicas covered entry in
    ⊎_elim
    (λ same.
    ap (shard_state replicas covered) (cond-true (is_shard shard entry.0) (entry.0, Finalised) entry (eq-eqb shard (number entry) (sym same)))
    ∙ sym (cond-true (is_of shard state) (record state { standing = Frozen }) state (eq-eqb (number entry) shard same)))
    (λ other.
    ap (shard_state replicas covered) (cond-false (is_shard shard entry.0) (entry.0, Finalised) entry (ne_eqb shard (number entry) (λ e. other (sym e))))
    ∙ sym (cond-false (is_of shard state) (record state { standing = Frozen }) state (ne_eqb (number entry) shard other)))
    (cases_eq (number entry) shard)

shards-finalised : (replicas : ℕ) (covered : List ℕ) (order : Order) (shard : ℕ)
    → shards_of replicas covered (finalised order shard) ≡ map (freeze shard) (shards_of replicas covered order)
shards-finalised replicas covered [] shard = refl
shards-finalised replicas covered (entry ∷ rest) shard =
    ap (λ (s : ShardState). s ∷ shards_of replicas covered (finalised rest shard)) (shard_state-ended replicas covered shard entry)
    ∙ ap (λ (states : List ShardState). freeze shard (shard_state replicas covered entry) ∷ states) (shards-finalised replicas covered rest shard)

pub known_finalise : (config : Shape) (order : Order) (covered : List ℕ) (places : List Place) (end mark count : ℕ) (shard : Shard)
    → known_from config (finalised order shard.0) covered places end mark (count + 1)
    ≡ learned (known_from config order covered places end mark count) (Finalise shard)
known_finalise config order covered places end mark count shard =
    same_known config _ _ places (places ++ []) (count + 1)
    (ap (λ (states : List ShardState). let c : ChainState = record { shards = states; end = end; mark = mark } in c) (shards-finalised config.replicas covered order shard.0))
    (sym (append-nil places))

ended-number : (shard : ℕ) (entry : Shard × State) → number (ended_entry shard entry) ≡ number entry
ended-number shard entry =
    ⊎_elim
    (λ own. ap number (cond-true (is_shard shard entry.0) (entry.0, Finalised) entry own))
    (λ other. ap number (cond-false (is_shard shard entry.0) (entry.0, Finalised) entry other))
    (cases_Bool (is_shard shard entry.0))

pub finalised-in_range : (order : Order) (most shard : ℕ) → All (λ (e : Shard × State). number e < most) order
    → All (λ (e : Shard × State). number e < most) (finalised order shard)
finalised-in_range order most shard below =
    All-map (λ (e : Shard × State). number e < most) (ended_entry shard) order
    (All-weaker (λ (e : Shard × State). number e < most) (λ (e : Shard × State). number (ended_entry shard e) < most)
    (λ entry small. subst (λ (n : ℕ). n < most) (sym (ended-number shard entry)) small) order below)

pub finalised-listed : (order : Order) (ended shard : ℕ) → is_listed (finalised order ended) shard ≡ false → is_listed order shard ≡ false
finalised-listed [] ended shard absent = refl
finalised-listed (entry ∷ rest) ended shard absent =
    let parts = first_other (ended_entry ended entry) (finalised rest ended) shard absent in
    let differ : eqb shard (number entry) ≡ false = ne_eqb shard (number entry) (λ e. parts.0 (e ∙ sym (ended-number ended entry))) in
    rw differ (finalised-listed rest ended shard parts.1)

-- The covered length of a segment in the chain that the parts stand for: that of the list where the shard is listed, and else 0.
covered-cases : (replicas : ℕ) (covered : List ℕ) (order : Order) (shard segment : ℕ)
    → (covered_length (state_in (shards_of replicas covered order) shard) segment ≡ slice_index (lengths_of replicas covered shard) segment)
    ⊎ ((covered_length (state_in (shards_of replicas covered order) shard) segment ≡ 0) × (is_listed order shard ≡ false))
covered-cases replicas covered [] shard segment = inr (refl, refl)
covered-cases replicas covered (entry ∷ rest) shard segment =
    let state = shard_state replicas covered entry in
    let states = shards_of replicas covered rest in
    ⊎_elim
    (λ same. inl (
    ap (λ (found : Option ShardState). covered_length found segment) (state_in-here state states shard same)
    ∙ ap (λ (n : ℕ). slice_index (lengths_of replicas covered n) segment) same))
    (λ other.
    let later = ap (λ (found : Option ShardState). covered_length found segment) (state_in-later state states shard other) in
    let test : eqb shard (number entry) ≡ false = ne_eqb shard (number entry) (λ e. other (sym e)) in
    ⊎_elim
    (λ listed. inl (later ∙ listed))
    (λ absent. inr (later ∙ absent.0, rw test absent.1))
    (covered-cases replicas covered rest shard segment))
    (cases_eq (number entry) shard)

below_covered : (replicas : ℕ) (covered : List ℕ) (order : Order) (shard segment offset : ℕ)
    → offset < covered_length (state_in (shards_of replicas covered order) shard) segment
    → (segment < replicas) × (offset < slice_index covered (segment_index replicas shard segment))
below_covered replicas covered order shard segment offset below =
    ⊎_elim
    (λ listed.
    ⊎_elim
    (λ small.
    let value = stretch-index covered (shard * replicas) replicas segment small in
    (small, omega (arith, below, listed, value)))
    (λ past.
    let none = stretch-past covered (shard * replicas) replicas segment past in
    absurd (omega (arith, below, listed, none)))
    (cases_lt segment replicas))
    (λ absent. absurd (omega (arith, below, absent.0)))
    (covered-cases replicas covered order shard segment)

pub covered_is : (replicas : ℕ) (covered : List ℕ) (order : Order) (shard segment : ℕ) → segment < replicas
    → ((s : ℕ) → is_listed order s ≡ false → lengths_of replicas covered s ≡ replicate replicas 0)
    → slice_index covered (segment_index replicas shard segment) ≡ covered_length (state_in (shards_of replicas covered order) shard) segment
covered_is replicas covered order shard segment small unlisted =
    let value = stretch-index covered (shard * replicas) replicas segment small in
    ⊎_elim
    (λ listed. sym value ∙ sym listed)
    (λ absent. sym value ∙ ap (λ (l : List ℕ). slice_index l segment) (unlisted shard absent.1) ∙ replicate-zero replicas segment ∙ sym absent.0)
    (covered-cases replicas covered order shard segment)

-- The places of what some values make known are those below the covered lengths.
pub covered_from_kept : (config : Shape) (order : Order) (covered : List ℕ) (places : List Place) (end mark count : ℕ)
    → IsKept config order covered places end mark count → AreCovered config.replicas covered places
covered_from_kept config order covered places end mark count is = λ shard segment offset found.
    let spelled = ap (λ (k : Known). k.places) is.made in
    let chain = ap (λ (k : Known). k.chain) is.made in
    let inside : Contains (spell config.replicas is.values) (place_at shard segment offset) =
    subst (λ (ps : List Place). Contains ps (place_at shard segment offset)) spelled found in
    let below = (spelled_where_covered config.replicas is.values shard segment offset).0 inside in
    below_covered config.replicas covered order shard segment offset
    (subst (λ (c : ChainState). offset < covered_of c shard segment) (sym chain) below)

none_listed : (n : ℕ) → (1 ≤ n → ⊥) → n ≡ 0
none_listed zero never = refl
none_listed (suc n) never = absurd (never (omega arith))

-- A place past the covered length of its segment has no position.
pub past_covered : (replicas : ℕ) (covered : List ℕ) (places : List Place) (place : Place) → AreCovered replicas covered places
    → slice_index covered (segment_index replicas place.shard.0 place.segment.0) ≤ place.offset → position_from 0 places place ≡ None
past_covered replicas covered places place below past =
    position_from_none 0 places place
    (none_listed (times places place)
    (λ listed.
    let inside = below place.shard.0 place.segment.0 place.offset (contained_where_listed places place listed) in
    omega (arith, inside.1, past)))

pub apart_from_kept : (config : Shape) (order : Order) (covered : List ℕ) (places : List Place) (end mark count : ℕ)
    → IsKept config order covered places end mark count → AreApart order
apart_from_kept config order covered places end mark count is =
    let chain = ap (λ (k : Known). k.chain) is.made in
    apart_from_states config.replicas covered order
    (subst (λ (c : ChainState). ApartStates c.shards) (sym chain) (chain_of-IsChain config.replicas is.values).apart)

-- A cut, from what it did to the parts.
pub known_cut : (config : Shape) (order : Order) (covered after : List ℕ) (places more : List Place) (end mark count total : ℕ) (lengths : Lengths)
    → more ≡ places ++ covered_in_shards config.replicas lengths.length (shards_of config.replicas covered order)
    → shards_of config.replicas after order ≡ cut_shards config.replicas lengths.length (shards_of config.replicas covered order)
    → length more ≡ length places + total
    → known_from config order after more (end + total) mark (count + 1)
    ≡ learned (known_from config order covered places end mark count) (Cut lengths)
known_cut config order covered after places more end mark count total lengths is_more is_cut counted =
    let new = covered_in_shards config.replicas lengths.length (shards_of config.replicas covered order) in
    let size : total ≡ length new = omega (arith, counted, ap length is_more, length-append places new) in
    same_known config _ _ more (places ++ new) (count + 1)
    (ap (λ (states : List ShardState). let c : ChainState = record { shards = states; end = end + total; mark = mark } in c) is_cut
    ∙ ap (λ (n : ℕ). let c : ChainState = record { shards = cut_shards config.replicas lengths.length (shards_of config.replicas covered order); end = end + n; mark = mark } in c) size)
    is_more

-- A shard has the state in the order that it has in the chain.
pub state_is : (replicas : ℕ) (covered : List ℕ) (order : Order) (shard : ℕ)
    → state_in_order order shard ≡ option_map (λ (found : ShardState). state_of found.standing) (state_in (shards_of replicas covered order) shard)
state_is replicas covered order shard =
    ap (λ (es : Order). state_in_order es shard) (sym (entries-back replicas covered order)) ∙ state-entries_of (shards_of replicas covered order) shard
