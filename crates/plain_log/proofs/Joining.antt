-- The values that items join to those that are known, and what follows of the mark and of the shards.
use Rattle.std.proofs.Common.{◌≡◌, ◌≢◌, ℕ, ◌<◌, min, true, ltb, List, [], ◌∷◌, ◌++◌, length, Option, None, Some, inl, inr, ◌⊎◌, refl, sym, ap, ◌∙◌, subst, ⊎_elim, arith, append_assoc}
use Rattle.std.specs.Prelude.{slice_get}
use Rattle.std.specs.List.{AllByRecursion}
use Rattle.std.proofs.lemmas.Bool.{cond_both, cond-true, cond-false, cases_Bool, lt-ltb}
use Rattle.std.proofs.lemmas.List.{append-nil}
use Rattle.log_base.specs.ClusterShape.{Shape}
use Rattle.log_base.specs.declared.numbers.Position.{Position}
use Rattle.log_base.specs.declared.numbers.Shard.{Shard}
use Rattle.log_base.specs.declared.numbers.Slot.{Slot}
use Rattle.record_frame.specs.declared.entries.Entry.{Entry}
use Rattle.record_frame.specs.declared.values.Lengths.{Lengths}
use Rattle.record_frame.specs.declared.values.Value.{Value}
use Rattle.record_frame.specs.declared.values.Value.TheVariants.{Noop, Cut, Add as AddValue, Finalise as FinaliseValue, Trim as TrimValue}
use Rattle.log_model.specs.Chain.{ChainState, ShardState, Standing, Live, Frozen, no_values, is_added, apply, apply_all, chain_of, state_in}
use Rattle.log_model.proofs.Appending.{chain_of-append}
use Rattle.log_model.proofs.Frozen.{frozen-apply_all, frozen-finalise}
use Rattle.log_model.proofs.Growth.{mark-apply_all}
use Rattle.log_model.proofs.States.{state_of_added}
use Rattle.command_frame.specs.declared.items.Item.{Item}
use Rattle.command_frame.specs.declared.items.Item.TheVariants.{Append, Read, Subscribe, Trim, Add, Finalise, Ask, Fault}
use Rattle.reply_frame.specs.declared.replies.Reply.{Settled, NoSuchShard, Trimmed}
use Rattle.plain_log.specs.Log.{LogState, start, after, after_entry, state_after, knows, found_standing, standing_of, drawn, with_value, next_entry, read_in, reply_to, told_slot}
use Rattle.plain_log.specs.Wishes.{wished, NoTrim, NoFinalise}
use Rattle.plain_log.proofs.Standings.{not_frozen-apply_all}

-- no value joins, or one that has this property
abbrev pub Joins : (Value → Type 0) → LogState → LogState → Type 0
Joins P old new = (new.values ≡ old.values) ⊎ ((value : Value) × P value × (new.values ≡ old.values ++ value ∷ []))

-- the value that an item asks for, where it does, has this property
abbrev pub HasWish : (Value → Type 0) → Item → Type 0
HasWish P item = (value : Value) → wished item ≡ Some value → P value

entry_joins : (P : Value → Type 0) → ((lengths : Lengths) → P (Cut lengths)) → (replicas : ℕ) (state : LogState) (shard segment : ℕ) (entry : Entry)
    (standing : Option Standing) → Joins P state (after_entry replicas state shard segment entry standing)
entry_joins P cuts replicas state shard segment entry None = inl refl
entry_joins P cuts replicas state shard segment entry (Some Frozen) = inl refl
entry_joins P cuts replicas state shard segment entry (Some Live) = inr (_, cuts _, refl)

-- Each item joins one value at most: a cut, or what it asks for.
item_joins : (P : Value → Type 0) → ((lengths : Lengths) → P (Cut lengths)) → (shape : Shape) (run : ℕ) (state : LogState) (item : Item)
    → HasWish P item → Joins P state (after shape run state item)
item_joins P cuts shape run state (Append lane shard replica bytes) wish =
    entry_joins P cuts shape.replicas (drawn state lane shard.0 replica.0) shard.0 replica.0 (next_entry run state lane bytes) (standing_of shape.replicas state shard.0)
item_joins P cuts shape run state (Read lane shard replica position) wish = inl refl
item_joins P cuts shape run state (Subscribe lane shard replica from count) wish = inl refl
item_joins P cuts shape run state (Trim lane position) wish = inr (TrimValue position, wish (TrimValue position) refl, refl)
item_joins P cuts shape run state (Add lane shard) wish = inr (AddValue shard, wish (AddValue shard) refl, refl)
item_joins P cuts shape run state (Finalise lane shard) wish =
    cond_both (knows shape.replicas state shard.0) (with_value state (FinaliseValue shard)) state (Joins P state)
    (λ _. inr (FinaliseValue shard, wish (FinaliseValue shard) refl, refl)) (λ _. inl refl)
item_joins P cuts shape run state (Ask lane) wish = inl refl
item_joins P cuts shape run state (Fault lane fault) wish = inl refl

-- The values after items are those before and more, each a cut or what an item asks for.
pub items_join : (P : Value → Type 0) → ((lengths : Lengths) → P (Cut lengths)) → (shape : Shape) (run : ℕ) (state : LogState) (items : List Item)
    → AllByRecursion (HasWish P) items
    → (more : List Value) × AllByRecursion P more × ((state_after shape run state items).values ≡ state.values ++ more)
items_join P cuts shape run state [] wishes = ([], tt, sym (append-nil state.values))
items_join P cuts shape run state (item ∷ items) wishes =
    let next = after shape run state item in
    let rest = items_join P cuts shape run next items wishes.1 in
    ⊎_elim
    (λ same. (rest.0, rest.1, rest.2 ∙ ap (λ (values : List Value). values ++ rest.0) same))
    (λ joined. (
      joined.0 ∷ rest.0,
      (joined.1, rest.1),
      rest.2 ∙ ap (λ (values : List Value). values ++ rest.0) joined.2 ∙ append_assoc state.values (joined.0 ∷ []) rest.0,
    ))
    (item_joins P cuts shape run state item wishes.0)

-- any value
abbrev pub IsAny : Value → Type 0
IsAny value = Unit {0}

any_wishes : (items : List Item) → AllByRecursion (HasWish IsAny) items
any_wishes [] = tt
any_wishes (item ∷ items) = (λ value is. tt, any_wishes items)

-- Values stay.
pub values_stay : (shape : Shape) (run : ℕ) (state : LogState) (items : List Item)
    → (more : List Value) × ((state_after shape run state items).values ≡ state.values ++ more)
values_stay shape run state items =
    let joined = items_join IsAny (λ lengths. tt) shape run state items (any_wishes items) in
    (joined.0, joined.2)

-- a value that is no trim
abbrev pub IsNoTrimValue : Value → Type 0
IsNoTrimValue value = (position : Position) → value ≢ TrimValue position

no_trim_wishes : (items : List Item) → NoTrim items → AllByRecursion (HasWish IsNoTrimValue) items
no_trim_wishes [] none = tt
no_trim_wishes (item ∷ items) none =
    (λ value is position same. none.0 position (is ∙ ap Some same), no_trim_wishes items none.1)

mark-stays : (replicas : ℕ) (chain : ChainState) (value : Value) → IsNoTrimValue value → (apply replicas chain value).mark ≡ chain.mark
mark-stays replicas chain Noop none = refl
mark-stays replicas chain (Cut lengths) none = refl
mark-stays replicas chain (AddValue shard) none =
    cond_both (is_added chain shard.0) chain _ (λ (c : ChainState). c.mark ≡ chain.mark) (λ _. refl) (λ _. refl)
mark-stays replicas chain (FinaliseValue shard) none = refl
mark-stays replicas chain (TrimValue position) none = absurd (none position refl)

marks-stay : (replicas : ℕ) (chain : ChainState) (values : List Value) → AllByRecursion IsNoTrimValue values
    → (apply_all replicas chain values).mark ≡ chain.mark
marks-stay replicas chain [] none = refl
marks-stay replicas chain (value ∷ values) none =
    marks-stay replicas (apply replicas chain value) values none.1 ∙ mark-stays replicas chain value none.0

-- Where no item is a trim, nothing is given up.
pub untrimmed : (shape : Shape) (run : ℕ) (items : List Item) → NoTrim items
    → (chain_of shape.replicas (state_after shape run (start shape) items).values).mark ≡ 0
untrimmed shape run items none =
    let joined = items_join IsNoTrimValue (λ lengths position same. absurd (cc)) shape run (start shape) items (no_trim_wishes items none) in
    ap (λ (values : List Value). (chain_of shape.replicas values).mark) joined.2
    ∙ marks-stay shape.replicas no_values joined.0 joined.1

no_finalise_wishes : (shard : Shard) (items : List Item) → NoFinalise shard items
    → AllByRecursion (HasWish (λ (value : Value). value ≢ FinaliseValue shard)) items
no_finalise_wishes shard [] none = tt
no_finalise_wishes shard (item ∷ items) none =
    (λ value is same. none.0 (is ∙ ap Some same), no_finalise_wishes shard items none.1)

live_from_state : (standing : Option Standing) (state : ShardState) → standing ≡ Some state.standing → standing ≢ Some Frozen → standing ≡ Some Live
live_from_state None state has not_frozen = absurd (cc)
live_from_state (Some Live) state has not_frozen = refl
live_from_state (Some Frozen) state has not_frozen = absurd (not_frozen refl)

-- A shard that was added and that no item finalises is live.
pub live_where_not_finalised : (shape : Shape) (run : ℕ) (items : List Item) (shard : Shard) → NoFinalise shard items
    → knows shape.replicas (state_after shape run (start shape) items) shard.0 ≡ true
    → standing_of shape.replicas (state_after shape run (start shape) items) shard.0 ≡ Some Live
live_where_not_finalised shape run items shard none known =
    let state = state_after shape run (start shape) items in
    let joined = items_join (λ (value : Value). value ≢ FinaliseValue shard) (λ lengths same. absurd (cc)) shape run (start shape) items (no_finalise_wishes shard items none) in
    let from_more = not_frozen-apply_all shape.replicas no_values joined.0 shard joined.1 (λ same. absurd (cc)) in
    let not_frozen : standing_of shape.replicas state shard.0 ≢ Some Frozen =
    subst (λ (values : List Value). found_standing (state_in (chain_of shape.replicas values).shards shard.0) ≢ Some Frozen) (sym joined.2) from_more in
    let there = state_of_added (chain_of shape.replicas state.values).shards shard.0 known in
    live_from_state (standing_of shape.replicas state shard.0) there.0 (ap found_standing there.1) not_frozen

-- A shard that is finalised stays so.
pub finalised_stays : (shape : Shape) (run : ℕ) (state : LogState) (lane : ℕ) (shard : Shard) (more : List Item)
    → knows shape.replicas state shard.0 ≡ true
    → standing_of shape.replicas (state_after shape run (after shape run state (Finalise lane shard)) more) shard.0 ≡ Some Frozen
finalised_stays shape run state lane shard more known =
    let replicas = shape.replicas in
    let final = FinaliseValue shard in
    let chain = chain_of replicas state.values in
    let next : after shape run state (Finalise lane shard) ≡ with_value state final =
    cond-true (knows replicas state shard.0) (with_value state final) state known in
    let later = values_stay shape run (with_value state final) more in
    let values : (state_after shape run (with_value state final) more).values ≡ state.values ++ final ∷ later.0 =
    later.1 ∙ append_assoc state.values (final ∷ []) later.0 in
    let there = state_of_added chain.shards shard.0 known in
    let frozen : ShardState = record there.0 { standing = Frozen } in
    let stays = frozen-apply_all replicas (apply replicas chain final) later.0 shard.0 frozen
    (frozen-finalise replicas chain shard.0 there.0 there.1) refl in
    ap (λ (s : LogState). standing_of replicas (state_after shape run s more) shard.0) next
    ∙ ap (λ (vs : List Value). found_standing (state_in (chain_of replicas vs).shards shard.0)) values
    ∙ ap (λ (c : ChainState). found_standing (state_in c.shards shard.0)) (chain_of-append replicas state.values (final ∷ later.0))
    ∙ ap found_standing stays

-- The element behind a list stands at its length.
get-behind : (xs : List Value) (x : Value) (ys : List Value) → slice_get (xs ++ x ∷ ys) (length xs) ≡ Some x
get-behind [] x ys = refl
get-behind (first ∷ rest) x ys = get-behind rest x ys

-- what a settled wish is told, and where its value stands from then on
abbrev pub IsSettled : Shape → ℕ → LogState → Item → Value → Slot → List Item → Type 0
IsSettled shape run state item value slot more =
    (slot.0 ≡ length state.values) × (slice_get (state_after shape run (after shape run state item) more).values slot.0 ≡ Some value)

settled_value : (shape : Shape) (run : ℕ) (state next : LogState) (value : Value) (slot : Slot) (more : List Item)
    → next ≡ with_value state value → told_slot state ≡ Settled slot
    → (slot.0 ≡ length state.values) × (slice_get (state_after shape run next more).values slot.0 ≡ Some value)
settled_value shape run state next value slot more is told =
    let own : Slot = record { 0 = length state.values } in
    let same : own ≡ slot = cc in
    let at : slot.0 ≡ length state.values = ap (λ (s : Slot). s.0) (sym same) in
    let later = values_stay shape run (with_value state value) more in
    let values : (state_after shape run next more).values ≡ state.values ++ value ∷ later.0 =
    ap (λ (s : LogState). (state_after shape run s more).values) is ∙ later.1 ∙ append_assoc state.values (value ∷ []) later.0 in (
      at,
      ap (λ (vs : List Value). slice_get vs slot.0) values
          ∙ ap (λ (n : ℕ). slice_get (state.values ++ value ∷ later.0) n) at
          ∙ get-behind state.values value later.0,
    )

-- What an item asks for is told the next slot, unless it is the finalisation of a shard that is not there.
pub wish_told : (shape : Shape) (run : ℕ) (state : LogState) (item : Item) (value : Value) → wished item ≡ Some value
    → reply_to shape run state item ≢ NoSuchShard → reply_to shape run state item ≡ told_slot state
wish_told shape run state (Append lane shard replica bytes) value wish there = absurd (cc)
wish_told shape run state (Read lane shard replica position) value wish there = absurd (cc)
wish_told shape run state (Subscribe lane shard replica from count) value wish there = absurd (cc)
wish_told shape run state (Trim lane position) value wish there = refl
wish_told shape run state (Add lane shard) value wish there = refl
wish_told shape run state (Finalise lane shard) value wish there =
    let known = knows shape.replicas state shard.0 in
    ⊎_elim
    (λ is. cond-true known (told_slot state) NoSuchShard is)
    (λ none. absurd (there (cond-false known (told_slot state) NoSuchShard none)))
    (cases_Bool known)
wish_told shape run state (Ask lane) value wish there = absurd (cc)
wish_told shape run state (Fault lane fault) value wish there = absurd (cc)

-- A value that an item asks for gets the next slot, and stays in it.
pub wish_settled : (shape : Shape) (run : ℕ) (state : LogState) (item : Item) (value : Value) (slot : Slot) (more : List Item)
    → wished item ≡ Some value → reply_to shape run state item ≡ Settled slot → IsSettled shape run state item value slot more
wish_settled shape run state (Append lane shard replica bytes) value slot more wish told = absurd (cc)
wish_settled shape run state (Read lane shard replica position) value slot more wish told = absurd (cc)
wish_settled shape run state (Subscribe lane shard replica from count) value slot more wish told = absurd (cc)
wish_settled shape run state (Trim lane position) value slot more wish told =
    let same : TrimValue position ≡ value = cc in
    settled_value shape run state (with_value state (TrimValue position)) value slot more (ap (with_value state) same) told
wish_settled shape run state (Add lane shard) value slot more wish told =
    let same : AddValue shard ≡ value = cc in
    settled_value shape run state (with_value state (AddValue shard)) value slot more (ap (with_value state) same) told
wish_settled shape run state (Finalise lane shard) value slot more wish told =
    let same : FinaliseValue shard ≡ value = cc in
    let known = knows shape.replicas state shard.0 in
    ⊎_elim
    (λ is. settled_value shape run state (after shape run state (Finalise lane shard)) value slot more
    (cond-true known (with_value state (FinaliseValue shard)) state is ∙ ap (with_value state) same)
    (sym (cond-true known (told_slot state) NoSuchShard is) ∙ told))
    (λ none.
    let refused : NoSuchShard ≡ Settled slot = sym (cond-false known (told_slot state) NoSuchShard none) ∙ told in
    absurd (cc))
    (cases_Bool known)
wish_settled shape run state (Ask lane) value slot more wish told = absurd (cc)
wish_settled shape run state (Fault lane fault) value slot more wish told = absurd (cc)

-- What a trim gives up stays given up.
pub trim_stays : (shape : Shape) (run : ℕ) (state : LogState) (lane : ℕ) (below : Position) (more : List Item) (position : Position)
    → position.0 < min below.0 (chain_of shape.replicas state.values).end
    → position.0 < (chain_of shape.replicas (state_after shape run (after shape run state (Trim lane below)) more).values).mark
trim_stays shape run state lane below more position within =
    let replicas = shape.replicas in
    let chain = chain_of replicas state.values in
    let next = with_value state (TrimValue below) in
    let later = values_stay shape run next more in
    let values : (state_after shape run next more).values ≡ state.values ++ TrimValue below ∷ later.0 =
    later.1 ∙ append_assoc state.values (TrimValue below ∷ []) later.0 in
    let mark : (chain_of replicas (state_after shape run next more).values).mark ≡ (apply_all replicas (apply replicas chain (TrimValue below)) later.0).mark =
    ap (λ (vs : List Value). (chain_of replicas vs).mark) values
    ∙ ap (λ (c : ChainState). c.mark) (chain_of-append replicas state.values (TrimValue below ∷ later.0)) in
    omega (arith, within, mark, mark-apply_all replicas (apply replicas chain (TrimValue below)) later.0)

-- A position below the mark is given up.
pub read_below_mark : (replicas : ℕ) (state : LogState) (position : Position) → position.0 < (chain_of replicas state.values).mark
    → read_in replicas state position ≡ Trimmed (record { 0 = (chain_of replicas state.values).mark })
read_below_mark replicas state position below =
    let is : ltb position.0 (chain_of replicas state.values).mark ≡ true = lt-ltb position.0 _ below in
    rw is refl
